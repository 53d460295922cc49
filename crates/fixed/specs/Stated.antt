-- What is proved of fixed point beyond the laws of formats. Assumes nothing.
use Rattle.std.specs.Prelude.{◌≡◌, ℕ, true, pos}
use Rattle.formats.specs.Meaning.{Meaning}
use Rattle.formats.specs.Neighbours.{Greatest, Least}

-- results of value 0 have code 0, and the result code of the value of a number is its own code
pub record OneCode (M : Meaning) : Type 0 where
  pub zero : M.result (pos 0) ≡ 0
  pub own : (c : ℕ) → M.number c ≡ true → M.result (M.value c) ≡ c

-- c is the result code of the greatest number
abbrev pub IsGreatest : Meaning → ℕ → Type 0
IsGreatest M c = Greatest M (M.value c) × (c ≡ M.result (M.value c))

-- c is the result code of the least number
abbrev pub IsLeast : Meaning → ℕ → Type 0
IsLeast M c = Least M (M.value c) × (c ≡ M.result (M.value c))
