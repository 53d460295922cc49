-- What fixed point means. Assumes nothing.
use Rattle.std.specs.Prelude.{ℕ, suc, ◌+◌, ◌-◌, ◌^◌, true, cond, ℤ, pos, negsuc, ◌-ℤ◌, ◌≤ℤ◌, ◌<ℤ◌, nat_lt}
use Rattle.formats.specs.Meaning.{Meaning}

-- With C codes, of which the first H are not negative: a code from H on stands for C less. (Two's complement where C is 2 * H.)
abbrev pub value_of : ℕ → ℕ → ℕ → ℤ
value_of C H c = cond (nat_lt c H) (pos c) (pos c -ℤ pos C)

-- the code of a value
abbrev pub code_of : ℕ → ℤ → ℕ
code_of C (pos n) = n
code_of C (negsuc n) = C - suc n

-- the values of the numbers: at least H - C and below H
pub record Inside (C H : ℕ) (v : ℤ) : Type 0 where
  pub low : (pos H -ℤ pos C) ≤ℤ v
  pub high : v <ℤ pos H

abbrev pub complement : ℕ → ℕ → ℕ → Meaning
complement C H u = record { unit = u; number = λ c. nat_lt c C; value = value_of C H; result = code_of C; low_is_near = λ lo hi. true }

-- s sign bits, i integer bits and p fractional bits
abbrev pub fixed : ℕ → ℕ → ℕ → Meaning
fixed s i p = complement (2 ^ (s + i + p)) (2 ^ (i + p)) p

abbrev pub InsideFixed : ℕ → ℕ → ℕ → ℤ → Type 0
InsideFixed s i p v = Inside (2 ^ (s + i + p)) (2 ^ (i + p)) v
