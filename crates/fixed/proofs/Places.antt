-- Where an exact result lies among the numbers of fixed point, from its floor and what is left over. Assumes nothing.
use Rattle.std.proofs.Common.{◌≡◌, ℕ, ◌+◌, ◌*◌, ◌/◌, ◌^◌, ◌<◌, true, false, ℤ, pos, ◌+ℤ◌, ◌-ℤ◌, ◌*ℤ◌, nat_abs, ◌≤ℤ◌, ◌<ℤ◌, inl, inr, refl, sym, subst, ap, ◌∙◌, ap₂, arith}
use native.Mathlib.Nat as NatL
use Rattle.std.proofs.lemmas.Int.{ints}
use Rattle.whole.specs.Division.{Divided}
use Rattle.whole.proofs.Integers.{add-mul, mul-≤, cancel-<, cancel-≤}
use Rattle.formats.specs.declared.split.Split.{Split}
use Rattle.formats.specs.Exact.{Exact}
use Rattle.formats.specs.Neighbours.{Neighbours, AtMost, AtLeast, Under, Over}
use Rattle.formats.specs.Splits.{Splits, above, under, within, between, clamped_at, share, distance}
use Rattle.fixed.specs.declared.sizes.Fixed.{Fixed}
use Rattle.fixed.specs.Fixed.{InsideFixed, code_of, fixed}
use Rattle.fixed.specs.Ranges.{some_codes, most_codes, inside_value, greatest, least}
use Rattle.fixed.specs.Sized.{format_of, Beyond}
use Rattle.fixed.proofs.Answering.{greatest_inside, least_inside}

-- the same code twice
twice : {c e : ℕ} → c ≡ e → ◌≡◌ {A = Split} (record { parts = (c, c, 0); clamped = true }) (record { parts = (e, e, 0); clamped = true })
twice = ap (λ (a : ℕ). let t : Split = record { parts = (a, a, 0); clamped = true } in t)

module _ (x : Exact) (q : ℤ) (r : ℕ) (parts : Divided x.numerator x.denominator q r) where
  -- the floor is at most x, and one more is larger
  floor_low : AtMost q x
  floor_low = omega (arith, ints, parts.whole)

  floor_high : Over (q +ℤ pos 1) x
  floor_high = omega (arith, ints, parts.whole, parts.rest, add-mul q (pos 1) (pos x.denominator))

  -- x is more than its floor where something is left over
  floor_under : 0 < r → Under q x
  floor_under some = omega (arith, ints, parts.whole)

  -- so no whole number lies between
  at_most_floor : (v : ℤ) → AtMost v x → v ≤ℤ q
  at_most_floor v h =
      let through : (v *ℤ pos x.denominator) <ℤ ((q +ℤ pos 1) *ℤ pos x.denominator) = omega (arith, ints, floor_high) in
      omega (arith, ints, cancel-< x.denominator v (q +ℤ pos 1) through)

  over_floor : 0 < r → (v : ℤ) → AtLeast v x → (q +ℤ pos 1) ≤ℤ v
  over_floor some v h =
      let through : (q *ℤ pos x.denominator) <ℤ (v *ℤ pos x.denominator) = omega (arith, ints, floor_under some) in
      omega (arith, ints, cancel-< x.denominator q v through)

  at_least_floor : (v : ℤ) → AtLeast v x → q ≤ℤ v
  at_least_floor v h =
      let through : (q *ℤ pos x.denominator) ≤ℤ (v *ℤ pos x.denominator) = omega (arith, ints, floor_low) in
      cancel-≤ x.denominator (omega (arith, parts.rest)) q v through

  -- what is left over is how far x is from its floor
  left_over : distance x q ≡ r
  left_over = omega (arith, ints, parts.whole)

  module _ (s i p k : ℕ) where
    -- above the greatest number v
    pub placed_above : (v : ℤ) → InsideFixed s i p v → pos (2 ^ (i + p)) ≤ℤ (v +ℤ pos 1) → v <ℤ q → (c : ℕ) → c ≡ (fixed s i p).result v →
        Splits (fixed s i p) k x (record { parts = (c, c, 0); clamped = true })
    placed_above v h end more c e =
        let low : ((v +ℤ pos 1) *ℤ pos x.denominator) ≤ℤ (q *ℤ pos x.denominator) = mul-≤ x.denominator (v +ℤ pos 1) q (omega (arith, ints)) in
        above v (greatest (2 ^ (s + i + p)) (2 ^ (i + p)) p (some_codes i p) (most_codes s i p) v h end)
        (omega (arith, ints, floor_low, parts.rest, add-mul v (pos 1) (pos x.denominator))) (twice e)

    -- less than a unit above it
    pub placed_past : InsideFixed s i p q → pos (2 ^ (i + p)) ≤ℤ (q +ℤ pos 1) → 0 < r → (c : ℕ) → c ≡ (fixed s i p).result q →
        Splits (fixed s i p) k x (record { parts = (c, c, 0); clamped = true })
    placed_past h end over c e =
        above q (greatest (2 ^ (s + i + p)) (2 ^ (i + p)) p (some_codes i p) (most_codes s i p) q h end) (floor_under over) (twice e)

    -- below the least number v
    pub placed_under : (v : ℤ) → InsideFixed s i p v → v ≤ℤ (pos (2 ^ (i + p)) -ℤ pos (2 ^ (s + i + p))) → q <ℤ v → (c : ℕ) → c ≡ (fixed s i p).result v →
        Splits (fixed s i p) k x (record { parts = (c, c, 0); clamped = true })
    placed_under v h end less c e =
        let high : ((q +ℤ pos 1) *ℤ pos x.denominator) ≤ℤ (v *ℤ pos x.denominator) = mul-≤ x.denominator (q +ℤ pos 1) v (omega (arith, ints)) in
        under v (least (2 ^ (s + i + p)) (2 ^ (i + p)) p (some_codes i p) (most_codes s i p) v h end) (omega (arith, ints, floor_high)) (twice e)

    -- on a number
    pub placed_on : InsideFixed s i p q → r ≡ 0 → (c : ℕ) → c ≡ (fixed s i p).result q → Splits (fixed s i p) k x (record { parts = (c, c, 0); clamped = false })
    placed_on h none c e = within q q neighbours same
      where
        neighbours : Neighbours (fixed s i p) x q q
        neighbours = record {
          low = inside_value (2 ^ (s + i + p)) (2 ^ (i + p)) p (some_codes i p) (most_codes s i p) q h;
          high = inside_value (2 ^ (s + i + p)) (2 ^ (i + p)) p (some_codes i p) (most_codes s i p) q h;
          low_below = floor_low;
          high_above = omega (arith, ints, parts.whole);
          low_next = λ v a. at_most_floor v;
          high_next = λ v a. at_least_floor v;
        }

        flat : nat_abs (q -ℤ q) ≡ 0
        flat = omega (arith, ints)

        count : 0 ≡ share k x q (nat_abs (q -ℤ q))
        count =
            sym (ap (λ (g : ℕ). 2 ^ k * distance x q / (g * x.denominator)) flat
            ∙ ap (λ (m : ℕ). 2 ^ k * distance x q / m) (NatL.zero-mul x.denominator)
            ∙ NatL.div-zero (2 ^ k * distance x q))

        same : ◌≡◌ {A = Split} (record { parts = (c, c, 0); clamped = false }) (between (fixed s i p) k x q q)
        same = ap₂ (λ (a b : ℕ). let t : Split = record { parts = (a, a, b); clamped = false } in t) e count

    -- between two numbers
    pub placed_between : InsideFixed s i p q → InsideFixed s i p (q +ℤ pos 1) → 0 < r → (c c' m : ℕ) →
        c ≡ (fixed s i p).result q → c' ≡ (fixed s i p).result (q +ℤ pos 1) → m ≡ 2 ^ k * r / x.denominator →
        Splits (fixed s i p) k x (record { parts = (c, c', m); clamped = false })
    placed_between h h' over c c' m e e' f = within q (q +ℤ pos 1) neighbours same
      where
        neighbours : Neighbours (fixed s i p) x q (q +ℤ pos 1)
        neighbours = record {
          low = inside_value (2 ^ (s + i + p)) (2 ^ (i + p)) p (some_codes i p) (most_codes s i p) q h;
          high = inside_value (2 ^ (s + i + p)) (2 ^ (i + p)) p (some_codes i p) (most_codes s i p) (q +ℤ pos 1) h';
          low_below = floor_low;
          high_above = omega (arith, ints, floor_high);
          low_next = λ v a. at_most_floor v;
          high_next = λ v a. over_floor over v;
        }

        one : nat_abs ((q +ℤ pos 1) -ℤ q) ≡ 1
        one = omega (arith, ints)

        count : 2 ^ k * r / x.denominator ≡ share k x q (nat_abs ((q +ℤ pos 1) -ℤ q))
        count =
            sym (ap (λ (g : ℕ). 2 ^ k * distance x q / (g * x.denominator)) one
            ∙ ap (λ (t : ℕ). 2 ^ k * distance x q / t) (NatL.one-mul x.denominator)
            ∙ ap (λ (t : ℕ). 2 ^ k * t / x.denominator) left_over)

        same : ◌≡◌ {A = Split} (record { parts = (c, c', m); clamped = false }) (between (fixed s i p) k x q (q +ℤ pos 1))
        same =
            ap₂ (λ (a b : ℕ). let t : Split = record { parts = (a, b, m); clamped = false } in t) e e'
            ∙ ap (λ (b : ℕ). let t : Split = record { parts = (code_of (2 ^ (s + i + p)) q, code_of (2 ^ (s + i + p)) (q +ℤ pos 1), b); clamped = false } in t) (f ∙ count)

-- the split of x at an end of a format, where its floor is beyond that end
module _ (f : Fixed) (x : Exact) (q : ℤ) (r : ℕ) (parts : Divided x.numerator x.denominator q r) (k : ℕ) (s : Split) (g : Fixed) (v : ℤ) (same : g ≡ f) (clamps : s ≡ clamped_at (format_of g) v) where
  at : (w : ℤ) → v ≡ w → s ≡ clamped_at (format_of f) w
  at w e = clamps ∙ ap₂ (λ (h : Fixed) (z : ℤ). clamped_at (format_of h) z) same e

  pub placed_at_greatest : v ≡ pos (2 ^ (f.integer + f.fraction)) -ℤ pos 1 → pos 0 ≤ℤ q → Beyond f q → Splits (format_of f) k x s
  placed_at_greatest e positive (inl more) =
      subst (Splits (format_of f) k x) (sym (at _ e))
      (placed_above x q r parts f.sign f.integer f.fraction k (pos (2 ^ (f.integer + f.fraction)) -ℤ pos 1) (greatest_inside f) (omega (arith, ints)) (omega (arith, ints, more)) _ refl)
  placed_at_greatest e positive (inr less) = absurd (omega (arith, ints, less, most_codes f.sign f.integer f.fraction))

  pub placed_at_least : v ≡ pos (2 ^ (f.integer + f.fraction)) -ℤ pos (2 ^ (f.sign + f.integer + f.fraction)) → q <ℤ pos 0 → Beyond f q → Splits (format_of f) k x s
  placed_at_least e negative (inl more) = absurd (omega (arith, ints, more))
  placed_at_least e negative (inr less) =
      subst (Splits (format_of f) k x) (sym (at _ e))
      (placed_under x q r parts f.sign f.integer f.fraction k (pos (2 ^ (f.integer + f.fraction)) -ℤ pos (2 ^ (f.sign + f.integer + f.fraction))) (least_inside f) (omega (arith, ints)) less _ refl)
