-- The split of an exact result, found among all codes. Assumes nothing.
use Rattle.std.specs.Prelude.{ℕ, zero, suc, ◌^◌, Bool, cond, ◌&&◌, ℤ, pos, ◌*ℤ◌, Some, None, Option, int_le, int_lt}
use Rattle.formats.specs.declared.split.Split.{Split}
use Rattle.formats.specs.Meaning.{Meaning}
use Rattle.formats.specs.Exact.{Exact}
use Rattle.formats.specs.Splits.{clamped_at, between}

-- v, unless another is there and preferred
abbrev pub better : (ℤ → ℤ → Bool) → ℤ → Option ℤ → Option ℤ
better prefers v None = Some v
better prefers v (Some w) = cond (prefers w v) (Some w) (Some v)

-- of the values that pass a test, among the numbers of the codes below n, the preferred one
unfoldable pub best : Meaning → (ℤ → Bool) → (ℤ → ℤ → Bool) → ℕ → Option ℤ
best M passes prefers zero = None
best M passes prefers (suc n) =
    cond (M.number n && passes (M.value n)) (better prefers (M.value n) (best M passes prefers n)) (best M passes prefers n)

-- the greatest value at most x, and the least at least x
abbrev pub highest_below : Meaning → Exact → Option ℤ
highest_below M x = best M (λ v. int_le (v *ℤ pos x.denominator) x.numerator) (λ w v. int_lt v w) (2 ^ 32)

abbrev pub lowest_above : Meaning → Exact → Option ℤ
lowest_above M x = best M (λ v. int_le x.numerator (v *ℤ pos x.denominator)) (λ w v. int_lt w v) (2 ^ 32)

-- between the two, or at the end where one of them is missing
abbrev pub split_around : Meaning → ℕ → Exact → Option ℤ → Option ℤ → Split
split_around M k x (Some lo) (Some hi) = between M k x lo hi
split_around M k x (Some lo) None = clamped_at M lo
split_around M k x None (Some hi) = clamped_at M hi
split_around M k x None None = clamped_at M (pos 0)

-- the split of x
abbrev pub split_of : Meaning → ℕ → Exact → Split
split_of M k x = split_around M k x (highest_below M x) (lowest_above M x)
