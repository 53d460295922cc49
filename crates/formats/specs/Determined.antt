-- The laws leave exactly one split for each exact result and k. Assumes nothing.
use Rattle.std.specs.Prelude.{◌≡◌, ℕ, ◌<◌, true, ℤ, Result}
use Rattle.formats.specs.declared.faults.FormatFault.{FormatFault}
use Rattle.formats.specs.declared.split.Calculation.{Calculation}
use Rattle.formats.specs.declared.split.Split.{Split}
use Rattle.formats.specs.Meaning.{Meaning, Value, Lawful}
use Rattle.formats.specs.Exact.{Exact}
use Rattle.formats.specs.Neighbours.{NextAbove}
use Rattle.formats.specs.Splits.{Splits}
use Rattle.formats.specs.Search.{split_of}
use Rattle.formats.specs.Questions.{AnswersSplit}

-- x has this split and no other
pub record OneSplit (M : Meaning) (k : ℕ) (x : Exact) : Type 0 where
  pub holds : Splits M k x (split_of M k x)
  pub only : (s : Split) → Splits M k x s → s ≡ split_of M k x

-- the same unit, numbers, values, result codes and near
pub record Same (M N : Meaning) : Type 0 where
  pub unit : M.unit ≡ N.unit
  pub number : (c : ℕ) → M.number c ≡ N.number c
  pub value : (c : ℕ) → M.number c ≡ true → M.value c ≡ N.value c
  pub result : (v : ℤ) → Value M v → M.result v ≡ N.result v
  pub near : (lo hi : ℤ) → Value M lo → NextAbove M lo hi → M.low_is_near lo hi ≡ N.low_is_near lo hi

pub record Determined : Type 0 where
  pub one : (M : Meaning) → Lawful M → (k : ℕ) (x : Exact) → OneSplit M k x
  -- formats of the same meaning split alike, and answer the question alike
  pub alike : (M N : Meaning) → Same M N → (k : ℕ) (x : Exact) → 0 < x.denominator → (s t : Split) → Splits M k x s → Splits N k x t → s ≡ t
  pub answers_alike : (M N : Meaning) → Same M N → (asked : Calculation) (k : ℕ) (a b : Result Split FormatFault) →
      AnswersSplit M asked k a → AnswersSplit N asked k b → a ≡ b
