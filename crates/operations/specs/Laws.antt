-- The law of stochastic rounding: over all draws, the results add up to the exact result. Assumes nothing.
use Rattle.std.specs.Prelude.{◌≡◌, ℕ, ◌*◌, ◌^◌, ◌<◌, ◌≤◌, true, false, ℤ, pos, ◌-ℤ◌, ◌*ℤ◌, unsigned_abs}
use Rattle.whole.specs.Sums.{sum_ℤ, below}
use Rattle.draws.specs.Rules.{Says, Fair, far_draws}
use Rattle.formats.specs.declared.split.Operation.{Operation}
use Rattle.formats.specs.Meaning.{Meaning, Lawful}
use Rattle.formats.specs.Exact.{Exact, of_values, IsResult}
use Rattle.formats.specs.Splits.{count, gap, cut}
use Rattle.formats.specs.Search.{split_of}
use Rattle.formats.specs.Questions.{divides_by_zero}
use Rattle.formats.specs.Determined.{Determined}
use Rattle.operations.specs.Rounding.{rounded}

-- the values of the results for x, summed over all 2 ^ k draws
abbrev pub value_sum : Says → Meaning → ℕ → Exact → ℤ
value_sum says M k x = sum_ℤ (λ t. M.value (rounded says M k x t).code) (below (2 ^ k))

-- what holds of x where it is not clamped
pub record Mean (says : Says) (M : Meaning) (k : ℕ) (x : Exact) : Type 0 where
  -- as many of the 2 ^ k draws as the count say far
  pub as_many : far_draws says k (count (split_of M k x)) ≡ count (split_of M k x)
  -- the sum is 2 ^ k times x where the rounding is not cut
  pub exactly : cut M k x (split_of M k x) ≡ false → value_sum says M k x *ℤ pos x.denominator ≡ pos (2 ^ k) *ℤ x.numerator
  -- and misses it by less than the gap where it is
  pub nearly : cut M k x (split_of M k x) ≡ true →
      unsigned_abs (value_sum says M k x *ℤ pos x.denominator -ℤ pos (2 ^ k) *ℤ x.numerator) < gap M (split_of M k x) * x.denominator

-- under every rule and in every format
abbrev pub MeanExact : Type 0
MeanExact =
    (M : Meaning) → Lawful M → (says : Says) → Fair says → (k : ℕ) → 1 ≤ k → k ≤ 32 → (x : Exact) →
    (split_of M k x).clamped ≡ false → Mean says M k x

-- what holds of every operation
pub record OperationLaws : Type 0 where
  -- what is rounded is the exact result, a fraction
  pub exact : (u : ℕ) (op : Operation) (v w : ℤ) → IsResult u op v w (of_values u op v w)
  pub fraction : (u : ℕ) (op : Operation) (v w : ℤ) → divides_by_zero op w ≡ false → 0 < (of_values u op v w).denominator
  -- it has exactly one split at each k, and formats with the same numbers, values, result codes and near split alike
  pub splits : Determined
  -- equal fractions have the same split
  pub same : (M : Meaning) → Lawful M → (k : ℕ) (x y : Exact) → 0 < x.denominator → 0 < y.denominator →
      x.numerator *ℤ pos y.denominator ≡ y.numerator *ℤ pos x.denominator → split_of M k x ≡ split_of M k y
  -- over all draws, the results add up to it
  pub mean : MeanExact
