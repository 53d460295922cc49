-- A split depends on the exact result only, not on the fraction that it is written as. Assumes nothing.
use Rattle.std.proofs.Common.{◌≡◌, ℕ, ◌*◌, ◌/◌, ◌^◌, ◌<◌, false, cond, ℤ, pos, ◌-ℤ◌, ◌*ℤ◌, nat_abs, sym, ap, ◌∙◌, ap₂, mul_assoc, mul_right_comm, arith}
use native.Mathlib.Nat.{mul-div-mul_right}
use Rattle.std.proofs.lemmas.Int.{ints}
use Rattle.std.proofs.lemmas.Int.{unsigned_abs-mul}
use Rattle.whole.proofs.Integers.{expand, mul-≤, mul-<, cancel-≤, cancel-<}
use Rattle.formats.specs.declared.split.Split.{Split}
use Rattle.formats.specs.Meaning.{Meaning, Lawful}
use Rattle.formats.specs.Exact.{Exact}
use Rattle.formats.specs.Neighbours.{Neighbours, AtMost, AtLeast, Under, Over}
use Rattle.formats.specs.Splits.{Splits, above, under, within, distance, share, between}
use Rattle.formats.specs.Search.{split_of}
use Rattle.formats.proofs.Uniqueness.{unique}
use Rattle.formats.proofs.Determined.{has_split}

-- the two denominators of a product, in the other order
swapped : (v : ℤ) (d e : ℕ) → v *ℤ pos d *ℤ pos e ≡ v *ℤ pos e *ℤ pos d
swapped v d e = simp expand

-- counts that are in proportion have one quotient
proportional : (w p q g d e : ℕ) → 0 < d → 0 < e → p * e ≡ q * d → w * p / (g * d) ≡ w * q / (g * e)
proportional w p q g d e some some' h =
    sym (mul-div-mul_right (w * p) (g * d) some')
    ∙ ap₂ (λ (a b : ℕ). a / b) (mul_assoc w p e ∙ ap (λ (m : ℕ). w * m) h ∙ sym (mul_assoc w q d)) (mul_right_comm g d e)
    ∙ mul-div-mul_right (w * q) (g * e) some

module _ (x y : Exact) (some : 0 < x.denominator) (some' : 0 < y.denominator) (cross : x.numerator *ℤ pos y.denominator ≡ y.numerator *ℤ pos x.denominator) where
  -- v stands to y as it stands to x
  at_most_same : (v : ℤ) → AtMost v x → AtMost v y
  at_most_same v h =
      cancel-≤ x.denominator some (v *ℤ pos y.denominator) y.numerator
      (omega (arith, ints, mul-≤ y.denominator (v *ℤ pos x.denominator) x.numerator h, swapped v x.denominator y.denominator, cross))

  at_least_same : (v : ℤ) → AtLeast v x → AtLeast v y
  at_least_same v h =
      cancel-≤ x.denominator some y.numerator (v *ℤ pos y.denominator)
      (omega (arith, ints, mul-≤ y.denominator x.numerator (v *ℤ pos x.denominator) h, swapped v x.denominator y.denominator, cross))

  under_same : (v : ℤ) → Under v x → Under v y
  under_same v h =
      cancel-< x.denominator (v *ℤ pos y.denominator) y.numerator
      (omega (arith, ints, mul-< y.denominator some' (v *ℤ pos x.denominator) x.numerator h, swapped v x.denominator y.denominator, cross))

  over_same : (v : ℤ) → Over v x → Over v y
  over_same v h =
      cancel-< x.denominator y.numerator (v *ℤ pos y.denominator)
      (omega (arith, ints, mul-< y.denominator some' x.numerator (v *ℤ pos x.denominator) h, swapped v x.denominator y.denominator, cross))

  -- the distances are in proportion to the denominators
  distance_same : (v : ℤ) → distance x v * y.denominator ≡ distance y v * x.denominator
  distance_same v =
      sym (unsigned_abs-mul (x.numerator -ℤ v *ℤ pos x.denominator) (pos y.denominator))
      ∙ ap nat_abs products
      ∙ unsigned_abs-mul (y.numerator -ℤ v *ℤ pos y.denominator) (pos x.denominator)
    where
      spread : (a b c : ℤ) → (a -ℤ b) *ℤ c ≡ a *ℤ c -ℤ b *ℤ c
      spread a b c = simp expand

      products : (x.numerator -ℤ v *ℤ pos x.denominator) *ℤ pos y.denominator ≡ (y.numerator -ℤ v *ℤ pos y.denominator) *ℤ pos x.denominator
      products =
          spread x.numerator (v *ℤ pos x.denominator) (pos y.denominator)
          ∙ ap₂ (λ (a b : ℤ). a -ℤ b) cross (swapped v x.denominator y.denominator)
          ∙ sym (spread y.numerator (v *ℤ pos y.denominator) (pos x.denominator))

  -- so the shares are equal
  share_same : (k : ℕ) (v : ℤ) (g : ℕ) → share k x v g ≡ share k y v g
  share_same k v g = proportional (2 ^ k) (distance x v) (distance y v) g x.denominator y.denominator some some' (distance_same v)

module _ (M : Meaning) (k : ℕ) (x y : Exact) (some : 0 < x.denominator) (some' : 0 < y.denominator) (cross : x.numerator *ℤ pos y.denominator ≡ y.numerator *ℤ pos x.denominator) where
  -- x and y have the same neighbours
  neighbours_same : (lo hi : ℤ) → Neighbours M x lo hi → Neighbours M y lo hi
  neighbours_same lo hi n = record {
    low = n.low;
    high = n.high;
    low_below = at_most_same x y some some' cross lo n.low_below;
    high_above = at_least_same x y some some' cross hi n.high_above;
    low_next = λ v h l. n.low_next v h (at_most_same y x some' some (sym cross) v l);
    high_next = λ v h l. n.high_next v h (at_least_same y x some' some (sym cross) v l);
  }

  -- and the same split between them
  between_same : (lo hi : ℤ) → between M k x lo hi ≡ between M k y lo hi
  between_same lo hi =
      let near_value : ℤ = cond (M.low_is_near lo hi) lo hi in
      let far_value : ℤ = cond (M.low_is_near lo hi) hi lo in
      ap (λ (R : ℕ). record { parts = (M.result near_value, M.result far_value, R); clamped = false })
      (share_same x y some some' cross k near_value (nat_abs (hi -ℤ lo)))

  -- what splits x splits y
  pub same_fraction : (s : Split) → Splits M k x s → Splits M k y s
  same_fraction s (above v g h e) = above v g (under_same x y some some' cross v h) e
  same_fraction s (under v g h e) = under v g (over_same x y some some' cross v h) e
  same_fraction s (within lo hi n e) = within lo hi (neighbours_same lo hi n) (e ∙ between_same lo hi)

  -- so both have one split
  pub same_split : Lawful M → split_of M k x ≡ split_of M k y
  same_split lawful = unique M k y (split_of M k x) (split_of M k y) (same_fraction (split_of M k x) (has_split M lawful x k)) (has_split M lawful y k)
