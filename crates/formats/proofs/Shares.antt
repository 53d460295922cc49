-- What a count that is the share of near says of x. Assumes nothing.
use Rattle.std.proofs.Common.{◌≡◌, ℕ, zero, suc, ◌+◌, ◌-◌, ◌*◌, ◌/◌, ◌%◌, ◌^◌, ◌<◌, ◌≤◌, ◌⊎◌, ℤ, pos, ◌+ℤ◌, ◌-ℤ◌, ◌*ℤ◌, neg_ℤ, nat_abs, sym, refl, ap, ◌∙◌, subst, ap₂, inl, inr, arith, pow_pos}
use native.Mathlib.Nat as NatL
use Rattle.std.proofs.lemmas.Int.{ints}
use Rattle.std.proofs.lemmas.Int.{unsigned_abs-mul}
use Rattle.whole.proofs.Integers.{add-mul, neg-mul, mul-neg}
use Rattle.formats.specs.declared.split.Split.{Split}
use Rattle.formats.specs.Meaning.{Meaning}
use Rattle.formats.specs.Exact.{Exact}
use Rattle.formats.specs.Neighbours.{AtMost, AtLeast}
use Rattle.formats.specs.Splits.{near, far, count, distance, share, gap}

-- ---- the numbers alone: of w draws, p and q the distances of near and far, which make W

-- the count is one that a rule can be asked with, unless p alone makes W
quotient_below : (w W p q : ℕ) → 0 < w → p + q ≡ W → (0 < W → 0 < q) → w * p / W < w
quotient_below w zero p q some e strict = subst (λ (x : ℕ). x < w) (sym (NatL.div-zero (w * p))) some
quotient_below w (suc W) p q some e strict =
    (NatL.div-lt_iff_lt-mul (NatL.zero-lt-suc W)).1
    (NatL.mul-lt-mul_of_pos_left {m = p} {n = suc W} {k = w} (omega (arith, e, strict (NatL.zero-lt-suc W))) some)

-- what the count drops is less than W
remainder_below : (w W p q : ℕ) → p + q ≡ W → 0 < w * p % W → w * p % W < W
remainder_below w zero p q e h = absurd (omega (arith, none, h))
  where
    none : w * p % 0 ≡ 0
    none = NatL.mod-zero (w * p) ∙ ap (λ (x : ℕ). w * x) (omega arith) ∙ NatL.mul-zero w
remainder_below w (suc W) p q e h = NatL.mod-lt (w * p) (NatL.zero-lt-suc W)

-- as many far as the count and the rest near are out of balance by what the count drops
balanced : (w W p q : ℕ) → p + q ≡ W → w * p / W ≤ w → (w - w * p / W) * p ≡ w * p / W * q + w * p % W
balanced w W p q e le = linear (w * p / W) (w - w * p / W) (w * p % W)
    (ap (λ (x : ℕ). x * p) whole ∙ sym (NatL.div-add-mod (w * p) W) ∙ ap (λ (x : ℕ). x * (w * p / W) + w * p % W) (sym e))
  where
    whole : w * p / W + (w - w * p / W) ≡ w
    whole = omega arith

    linear : (R r ρ : ℕ) → (R + r) * p ≡ (p + q) * R + ρ → r * p ≡ R * q + ρ
    linear R r ρ e = omega arith

-- ---- a split that is not clamped

-- x lies between v and w, whichever is lower
abbrev pub Between : Exact → ℤ → ℤ → Type 0
Between x v w = (AtMost v x × AtLeast w x) ⊎ (AtLeast v x × AtMost w x)

-- what the count drops: what is left of 2 ^ k distances of near when as many gaps as the count are taken away
abbrev pub dropped : Meaning → ℕ → Exact → Split → ℕ
dropped M k x s = 2 ^ k * distance x (M.value (near s)) % (gap M s * x.denominator)

-- how far v units are above x, times the denominator
abbrev pub excess : Exact → ℤ → ℤ
excess x v = v *ℤ pos x.denominator -ℤ x.numerator

-- where x lies between near and far, and how the count stands to the distances
pub record Counted (M : Meaning) (k : ℕ) (x : Exact) (s : Split) : Type 0 where
  pub between : Between x (M.value (near s)) (M.value (far s))
  -- the two distances make the gap
  pub together : distance x (M.value (near s)) + distance x (M.value (far s)) ≡ gap M s * x.denominator
  pub near_close : nat_abs (excess x (M.value (near s))) ≤ gap M s * x.denominator
  pub far_close : nat_abs (excess x (M.value (far s))) ≤ gap M s * x.denominator
  -- x at far is at near
  pub meets : distance x (M.value (far s)) ≡ 0 → distance x (M.value (near s)) ≡ 0
  -- the division of the count
  pub whole : 2 ^ k * distance x (M.value (near s)) ≡ count s * (gap M s * x.denominator) + dropped M k x s
  pub dropped_below : 0 < dropped M k x s → dropped M k x s < gap M s * x.denominator
  -- as many far as the count and all other draws near miss x by what the count drops
  pub balance : nat_abs (pos (count s) *ℤ excess x (M.value (far s)) +ℤ pos (2 ^ k - count s) *ℤ excess x (M.value (near s))) ≡ dropped M k x s

-- the distances of two numbers on two sides of x make their gap
distances : (x : Exact) (v w : ℤ) → Between x v w → distance x v + distance x w ≡ nat_abs (w -ℤ v) * x.denominator
distances x v w sides =
    by_side sides
    (sym (unsigned_abs-mul (w -ℤ v) (pos x.denominator))
    ∙ ap nat_abs (add-mul w (neg_ℤ v) (pos x.denominator) ∙ ap (λ (z : ℤ). w *ℤ pos x.denominator +ℤ z) (neg-mul v (pos x.denominator))))
  where
    by_side : Between x v w → nat_abs (w -ℤ v) * x.denominator ≡ nat_abs (w *ℤ pos x.denominator -ℤ v *ℤ pos x.denominator) → distance x v + distance x w ≡ nat_abs (w -ℤ v) * x.denominator
    by_side (inl h) e = omega (arith, ints, h.0, h.1, e)
    by_side (inr h) e = omega (arith, ints, h.0, h.1, e)

-- R times far and r times near, on two sides of x, where r * p is R * q and ρ more
sides_balance : (x : Exact) (v w : ℤ) (R r ρ : ℕ) → Between x v w → r * distance x v ≡ R * distance x w + ρ → nat_abs (pos R *ℤ excess x w +ℤ pos r *ℤ excess x v) ≡ ρ
sides_balance x v w R r ρ (inl h) e =
    ap₂ (λ (a b : ℤ). nat_abs (pos R *ℤ a +ℤ pos r *ℤ b)) up down ∙ ap (λ (z : ℤ). nat_abs (pos (R * distance x w) +ℤ z)) (mul-neg (pos r) (pos (distance x v))) ∙ omega (arith, ints, e)
  where
    up : excess x w ≡ pos (distance x w)
    up = omega (arith, ints, h.1)

    down : excess x v ≡ neg_ℤ (pos (distance x v))
    down = omega (arith, ints, h.0)
sides_balance x v w R r ρ (inr h) e =
    ap₂ (λ (a b : ℤ). nat_abs (pos R *ℤ a +ℤ pos r *ℤ b)) down up ∙ ap (λ (z : ℤ). nat_abs (z +ℤ pos (r * distance x v))) (mul-neg (pos R) (pos (distance x w))) ∙ omega (arith, ints, e)
  where
    up : excess x v ≡ pos (distance x v)
    up = omega (arith, ints, h.0)

    down : excess x w ≡ neg_ℤ (pos (distance x w))
    down = omega (arith, ints, h.1)

-- the size of the excess is the distance
excess_size : (x : Exact) (v : ℤ) → nat_abs (excess x v) ≡ distance x v
excess_size x v = omega (arith, ints)

module _ (M : Meaning) (k : ℕ) (x : Exact) (s : Split) (share_is : count s ≡ share k x (M.value (near s)) (gap M s)) (between : Between x (M.value (near s)) (M.value (far s))) (meets : distance x (M.value (far s)) ≡ 0 → distance x (M.value (near s)) ≡ 0) where
  -- a count that is the share of near is below 2 ^ k
  pub share_below : count s < 2 ^ k
  share_below =
      let p : ℕ = distance x (M.value (near s)) in
      let q : ℕ = distance x (M.value (far s)) in
      let e : p + q ≡ gap M s * x.denominator = distances x (M.value (near s)) (M.value (far s)) between in
      subst (λ (R : ℕ). R < 2 ^ k) (sym share_is) (quotient_below (2 ^ k) (gap M s * x.denominator) p q (pow_pos k) e (λ h. by_far q meets e h))
    where
      by_far : (q : ℕ) → (q ≡ 0 → distance x (M.value (near s)) ≡ 0) → distance x (M.value (near s)) + q ≡ gap M s * x.denominator → 0 < gap M s * x.denominator → 0 < q
      by_far zero f e h = omega (arith, f refl, e, h)
      by_far (suc q) f e h = omega arith

  -- and x lies as it says
  pub share_counted : Counted M k x s
  share_counted =
      let p : ℕ = distance x (M.value (near s)) in
      let q : ℕ = distance x (M.value (far s)) in
      let W : ℕ = gap M s * x.denominator in
      let e : p + q ≡ W = distances x (M.value (near s)) (M.value (far s)) between in
      record {
        between = between;
        together = e;
        near_close = subst (λ (m : ℕ). m ≤ W) (sym (excess_size x (M.value (near s)))) (omega (arith, e));
        far_close = subst (λ (m : ℕ). m ≤ W) (sym (excess_size x (M.value (far s)))) (omega (arith, e));
        meets = meets;
        whole = sym (ap (λ (R : ℕ). R * W + 2 ^ k * p % W) share_is ∙ ap (λ (m : ℕ). m + 2 ^ k * p % W) (NatL.mul_comm (2 ^ k * p / W) W) ∙ NatL.div-add-mod (2 ^ k * p) W);
        dropped_below = remainder_below (2 ^ k) W p q e;
        balance =
            sides_balance x (M.value (near s)) (M.value (far s)) (count s) (2 ^ k - count s) (2 ^ k * p % W) between
            (subst (λ (R : ℕ). (2 ^ k - R) * p ≡ R * q + 2 ^ k * p % W) (sym share_is)
            (balanced (2 ^ k) W p q e (subst (λ (R : ℕ). R ≤ 2 ^ k) share_is (NatL.le_of_lt share_below))));
      }
