-- What a number format means, and its laws. Assumes nothing.
use Rattle.std.specs.Prelude.{◌≡◌, ℕ, ◌^◌, ◌<◌, Bool, true, ℤ, pos}

-- A code is a 32-bit word. Values count units of 2 ^ -unit.
pub record Meaning : Type 0 where
  pub unit : ℕ
  -- whether a code is a number
  pub number : ℕ → Bool
  -- the value of a number
  pub value : ℕ → ℤ
  -- the code that a result of this value has
  pub result : ℤ → ℕ
  -- of two neighbouring values, whether the lower one is near
  pub low_is_near : ℤ → ℤ → Bool

-- v is the value of a number
abbrev pub Value : Meaning → ℤ → Type 0
Value M v = (c : ℕ) × (M.number c ≡ true) × (M.value c ≡ v)

-- The laws: numbers are 32-bit words, code 0 is a number of value 0, and the result code of a value is a number of that value.
pub record Lawful (M : Meaning) : Type 0 where
  pub words : (c : ℕ) → M.number c ≡ true → c < 2 ^ 32
  pub zero_number : M.number 0 ≡ true
  pub zero_value : M.value 0 ≡ pos 0
  pub result_number : (v : ℤ) → Value M v → M.number (M.result v) ≡ true
  pub result_value : (v : ℤ) → Value M v → M.value (M.result v) ≡ v
