-- The format of given sizes, and the values of its numbers. Assumes nothing.
use Rattle.std.specs.Prelude.{◌≡◌, ℕ, ◌+◌, ◌^◌, ◌⊎◌, ℤ, pos, ◌-ℤ◌, ◌<ℤ◌, Some, None, Option}
use Rattle.formats.specs.Meaning.{Meaning}
use Rattle.fixed.specs.declared.sizes.Fixed.{Fixed}
use Rattle.fixed.specs.Fixed.{InsideFixed, fixed}

-- what a format of these sizes means
abbrev pub format_of : Fixed → Meaning
format_of f = fixed f.sign f.integer f.fraction

-- v is the value of one of its numbers
abbrev pub InsideOf : Fixed → ℤ → Type 0
InsideOf f = InsideFixed f.sign f.integer f.fraction

-- the greatest of these values, and the least
abbrev pub greatest_value : Fixed → ℤ
greatest_value f = pos (2 ^ (f.integer + f.fraction)) -ℤ pos 1

abbrev pub least_value : Fixed → ℤ
least_value f = pos (2 ^ (f.integer + f.fraction)) -ℤ pos (2 ^ (f.sign + f.integer + f.fraction))

-- v is beyond one of them
abbrev pub Beyond : Fixed → ℤ → Type 0
Beyond f v = (greatest_value f <ℤ v) ⊎ (v <ℤ least_value f)

-- the code of the number of value v, unless v is beyond an end
abbrev pub Reaches : Fixed → ℤ → Option ℕ → Type 0
Reaches f v (Some d) = InsideOf f v × (d ≡ (format_of f).result v)
Reaches f v None = Beyond f v
