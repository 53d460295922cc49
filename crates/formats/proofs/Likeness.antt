-- Formats that agree split alike. Assumes nothing.
use Rattle.std.proofs.Common.{◌≡◌, ℕ, ◌<◌, Bool, true, false, cond, ℤ, pos, ◌-ℤ◌, ◌*ℤ◌, nat_abs, ◌≤ℤ◌, ◌<ℤ◌, sym, refl, ap, ◌∙◌, subst, ap₂, arith}
use lib.Signed.{clash_ℤ}
use Rattle.std.proofs.lemmas.Int.{ints, by_lt_z}
use Rattle.whole.proofs.Integers.{cancel-≤}
use Rattle.formats.specs.declared.split.Split.{Split}
use Rattle.formats.specs.Meaning.{Meaning, Value}
use Rattle.formats.specs.Exact.{Exact}
use Rattle.formats.specs.Neighbours.{Greatest, Least, NextAbove, Neighbours}
use Rattle.formats.specs.Splits.{Splits, above, under, within, share, clamped_at, between}
use Rattle.formats.specs.Determined.{Same}

-- the numbers around x are equal or next to each other
pub neighbours_order : (M : Meaning) (x : Exact) (lo hi : ℤ) → 0 < x.denominator → Neighbours M x lo hi → lo ≤ℤ hi
neighbours_order M x lo hi some n = cancel-≤ x.denominator some lo hi (omega (arith, ints, n.low_below, n.high_above))

pub neighbours_next : (M : Meaning) (x : Exact) (lo hi : ℤ) → Neighbours M x lo hi → lo <ℤ hi → NextAbove M lo hi
neighbours_next M x lo hi n less = record {
  attained = n.high;
  larger = less;
  nearest = λ z value more. by_lt_z x.numerator (z *ℤ pos x.denominator) (λ h. n.high_next z value (omega (arith, ints))) (λ h. clash_ℤ more (n.low_next z value h));
}

-- what a split between lo and hi is for given result codes and a given near
abbrev split_by : (ℤ → ℕ) → ℕ → Exact → ℤ → ℤ → Bool → Split
split_by result k x lo hi near =
    record { parts = (result (cond near lo hi), result (cond near hi lo), share k x (cond near lo hi) (nat_abs (hi -ℤ lo))); clamped = false }

-- it depends on the codes of lo and hi only
same_codes : (f g : ℤ → ℕ) (k : ℕ) (x : Exact) (lo hi : ℤ) (near : Bool) → f lo ≡ g lo → f hi ≡ g hi → split_by f k x lo hi near ≡ split_by g k x lo hi near
same_codes f g k x lo hi true e h = ap₂ (λ (a b : ℕ). record { parts = (a, b, share k x lo (nat_abs (hi -ℤ lo))); clamped = false }) e h
same_codes f g k x lo hi false e h = ap₂ (λ (a b : ℕ). record { parts = (b, a, share k x hi (nat_abs (hi -ℤ lo))); clamped = false }) e h

-- and not on near where lo is hi
same_number : (f : ℤ → ℕ) (k : ℕ) (x : Exact) (lo : ℤ) (near other : Bool) → split_by f k x lo lo near ≡ split_by f k x lo lo other
same_number f k x lo true true = refl
same_number f k x lo true false = refl
same_number f k x lo false true = refl
same_number f k x lo false false = refl

module _ (M N : Meaning) (same : Same M N) where
  -- the values of one are those of the other
  value_there : (v : ℤ) → Value M v → Value N v
  value_there v h = (h.0, sym (same.number h.0) ∙ h.1, sym (same.value h.0 h.1) ∙ h.2)

  value_back : (v : ℤ) → Value N v → Value M v
  value_back v h =
      let number : M.number h.0 ≡ true = same.number h.0 ∙ h.1 in
      (h.0, number, same.value h.0 number ∙ h.2)

  -- and so are the ends and the neighbours
  greatest_back : (v : ℤ) → Greatest N v → Greatest M v
  greatest_back v g = record { attained = value_back v g.attained; most = λ w h. g.most w (value_there w h) }

  least_back : (v : ℤ) → Least N v → Least M v
  least_back v g = record { attained = value_back v g.attained; least = λ w h. g.least w (value_there w h) }

  neighbours_back : (x : Exact) (lo hi : ℤ) → Neighbours N x lo hi → Neighbours M x lo hi
  neighbours_back x lo hi n = record {
    low = value_back lo n.low;
    high = value_back hi n.high;
    low_below = n.low_below;
    high_above = n.high_above;
    low_next = λ v h. n.low_next v (value_there v h);
    high_next = λ v h. n.high_next v (value_there v h);
  }

  -- the split at an end, and the split between two neighbours
  clamped_alike : (v : ℤ) → Value M v → clamped_at N v ≡ clamped_at M v
  clamped_alike v h = ap (λ (c : ℕ). record { parts = (c, c, 0); clamped = true }) (sym (same.result v h))

  between_alike : (k : ℕ) (x : Exact) (lo hi : ℤ) → 0 < x.denominator → Neighbours M x lo hi → between N k x lo hi ≡ between M k x lo hi
  between_alike k x lo hi some n =
      same_codes N.result M.result k x lo hi (N.low_is_near lo hi) (sym (same.result lo n.low)) (sym (same.result hi n.high))
      ∙ by_lt_z lo hi
      (λ less. ap (split_by M.result k x lo hi) (sym (same.near lo hi n.low (neighbours_next M x lo hi n less))))
      (λ most. one (omega (arith, ints, neighbours_order M x lo hi some n)))
    where
      one : lo ≡ hi → split_by M.result k x lo hi (N.low_is_near lo hi) ≡ split_by M.result k x lo hi (M.low_is_near lo hi)
      one e = subst (λ (z : ℤ). split_by M.result k x lo z (N.low_is_near lo hi) ≡ split_by M.result k x lo z (M.low_is_near lo hi)) e (same_number M.result k x lo (N.low_is_near lo hi) (M.low_is_near lo hi))

  -- what one splits x into, the other does
  pub splits_back : (k : ℕ) (x : Exact) → 0 < x.denominator → (s : Split) → Splits N k x s → Splits M k x s
  splits_back k x some s (above v g h e) = above v (greatest_back v g) h (e ∙ clamped_alike v (value_back v g.attained))
  splits_back k x some s (under v g h e) = under v (least_back v g) h (e ∙ clamped_alike v (value_back v g.attained))
  splits_back k x some s (within lo hi n e) =
      let back = neighbours_back x lo hi n in
      within lo hi back (e ∙ between_alike k x lo hi some back)
