-- What is said of a worked example. Assumes nothing.
use Rattle.std.specs.Prelude.{◌≡◌, ℕ, ◌^◌, true, false, None}
use Rattle.whole.specs.Sums.{sum, below}
use Rattle.draws.specs.Rules.{Says}
use Rattle.formats.specs.declared.split.Calculation.{Calculation}
use Rattle.formats.specs.Meaning.{Meaning}
use Rattle.formats.specs.Exact.{exact}
use Rattle.formats.specs.Search.{split_of}
use Rattle.formats.specs.Questions.{refusal}
use Rattle.operations.specs.Rounding.{rounded}

-- an operation on two numbers, at k
pub record Example : Type 0 where
  pub format : Meaning
  pub calculation : Calculation
  pub k : ℕ

-- It is not refused, and its exact result lies between near and far with this count.
abbrev pub SplitsInto : Example → ℕ → ℕ → ℕ → Type 0
SplitsInto e near far count =
    (refusal e.format e.calculation e.k ≡ None)
    × (split_of e.format e.k (exact e.format e.calculation) ≡ record { parts = (near, far, count); clamped = false })

-- It is not refused, and its exact result lies beyond this end.
abbrev pub ClampsTo : Example → ℕ → Type 0
ClampsTo e end =
    (refusal e.format e.calculation e.k ≡ None)
    × (split_of e.format e.k (exact e.format e.calculation) ≡ record { parts = (end, end, 0); clamped = true })

-- the codes of its results, summed over all draws
abbrev pub code_sum : Says → Example → ℕ
code_sum says e =
    sum (λ t. (rounded says e.format e.k (exact e.format e.calculation) t).code) (below (2 ^ e.k))
