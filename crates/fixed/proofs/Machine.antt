-- Signed 128-bit numbers as the machine passes them: to their bits and back. Assumes nothing.
use Rattle.std.proofs.Common.{◌≡◌, ℕ, ◌-◌, ◌^◌, ◌<◌, ℤ, pos, negsuc, ◌-ℤ◌, unsigned_abs, ◌≤ℤ◌, ◌<ℤ◌, arith, to_z, of_z}
use mir.Syntax.{w128}
use Rattle.std.proofs.lemmas.Int.{ints}

-- -1 - n, as the machine works it out
abbrev pub complement_size : ℤ → ℕ
complement_size n = unsigned_abs (to_z w128 (of_z w128 (negsuc 0 -ℤ to_z w128 (of_z w128 n))))

-- is what a negative number is below -1
pub negative_is : (n : ℤ) → negsuc (2 ^ 64 - 1) ≤ℤ n → n <ℤ pos 0 → n ≡ negsuc (complement_size n)
negative_is n low less = omega (arith, ints)

-- and back
pub minus_one_less : (q : ℕ) → q < 2 ^ 64 → to_z w128 (of_z w128 (negsuc 0 -ℤ to_z w128 (of_z w128 (pos q)))) ≡ negsuc q
minus_one_less q fits = omega (arith, ints)
