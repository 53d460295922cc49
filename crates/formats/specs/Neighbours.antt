-- Which numbers lie around an exact result, and which are the ends of a format. Assumes nothing.
use Rattle.std.specs.Prelude.{ℤ, pos, ◌*ℤ◌, ◌≤ℤ◌, ◌<ℤ◌}
use Rattle.formats.specs.Meaning.{Meaning, Value}
use Rattle.formats.specs.Exact.{Exact}

-- v is the greatest value of a number
pub record Greatest (M : Meaning) (v : ℤ) : Type 0 where
  pub attained : Value M v
  pub most : (w : ℤ) → Value M w → w ≤ℤ v

-- v is the least value of a number
pub record Least (M : Meaning) (v : ℤ) : Type 0 where
  pub attained : Value M v
  pub least : (w : ℤ) → Value M w → v ≤ℤ w

-- v is the least value larger than w
pub record NextAbove (M : Meaning) (w v : ℤ) : Type 0 where
  pub attained : Value M v
  pub larger : w <ℤ v
  pub nearest : (z : ℤ) → Value M z → w <ℤ z → v ≤ℤ z

-- v is the greatest value smaller than w
pub record NextBelow (M : Meaning) (w v : ℤ) : Type 0 where
  pub attained : Value M v
  pub smaller : v <ℤ w
  pub nearest : (z : ℤ) → Value M z → z <ℤ w → z ≤ℤ v

-- x compared with a whole number of units, by cross-multiplication
abbrev pub AtMost : ℤ → Exact → Type 0
AtMost v x = (v *ℤ pos x.denominator) ≤ℤ x.numerator

abbrev pub AtLeast : ℤ → Exact → Type 0
AtLeast v x = x.numerator ≤ℤ (v *ℤ pos x.denominator)

abbrev pub Under : ℤ → Exact → Type 0
Under v x = (v *ℤ pos x.denominator) <ℤ x.numerator

abbrev pub Over : ℤ → Exact → Type 0
Over v x = x.numerator <ℤ (v *ℤ pos x.denominator)

-- lo and hi are the numbers around x: no number lies strictly between lo and x or between x and hi, and x itself is both where it is a number
pub record Neighbours (M : Meaning) (x : Exact) (lo hi : ℤ) : Type 0 where
  pub low : Value M lo
  pub high : Value M hi
  pub low_below : AtMost lo x
  pub high_above : AtLeast hi x
  pub low_next : (v : ℤ) → Value M v → AtMost v x → v ≤ℤ lo
  pub high_next : (v : ℤ) → Value M v → AtLeast v x → hi ≤ℤ v
