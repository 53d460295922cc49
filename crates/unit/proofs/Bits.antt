-- A shift right of a signed number is its floor, and the bits shifted out are its remainder. Assumes nothing.
use Rattle.std.proofs.Common.{◌≡◌, ℕ, suc, ◌+◌, ◌-◌, ◌*◌, ◌/◌, ◌%◌, ◌^◌, ◌<◌, ◌≤◌, ℤ, pos, negsuc, ◌<ℤ◌, refl, ap, ◌∙◌, subst, lt_of_le_of_lt, arith, pow_mono, w64, SFits, to_z, of_z}
use Rattle.std.specs.Int.Bits.{bit_and}
use Rattle.std.specs.Int.Signed.{shr_z, mag_shr}
use Rattle.std.proofs.lemmas.Nat.{pow_pos, pow-add, mul-le, div_below, and_mask}
use Rattle.std.proofs.lemmas.Int.{to_z-of_z, ints}
use Rattle.whole.specs.Division.{floor, modulo}
use Rattle.whole.proofs.Divisions.{shift_floor, lacking_mod}

-- the shift as the machine makes it, through the bits of x
pub shifted : (x : ℤ) (d : ℕ) → SFits w64 x → to_z w64 (of_z w64 (shr_z (to_z w64 (of_z w64 x)) d)) ≡ floor x d
shifted x d fits =
    let small : SFits w64 (shr_z x d) = record { sfits = lt_of_le_of_lt (mag_shr x d) fits.sfits } in
    ap (λ (y : ℤ). to_z w64 (of_z w64 (shr_z y d))) (to_z-of_z w64 x fits) ∙ to_z-of_z w64 (shr_z x d) small ∙ shift_floor x d

-- the floor is far below the largest 64-bit number
pub floor_room : (x : ℤ) (n : ℕ) → 1 ≤ n → SFits w64 x → floor x (2 ^ n) <ℤ pos (2 ^ 62)
floor_room (pos a) n some fits =
    let half : a < 2 ^ 63 = fits.sfits in
    let two : 2 ≤ 2 ^ n = pow_mono some in
    let wide : 2 ^ 62 * 2 ≤ 2 ^ 62 * 2 ^ n = mul-le (2 ^ 62) 2 (2 ^ 62) (2 ^ n) (omega arith) two in
    let low : a / 2 ^ n < 2 ^ 62 = div_below a (2 ^ n) (2 ^ 62) (pow_pos n) (omega arith) in
    omega (arith, ints)
floor_room (negsuc a) n some fits = omega (arith, ints)

-- the bits of a negative number are what it lacks of 2 ^ 64
bits_mod : (x : ℤ) (n : ℕ) → n ≤ 32 → SFits w64 x → of_z w64 x % 2 ^ n ≡ modulo x (2 ^ n)
bits_mod (pos a) n h fits = refl
bits_mod (negsuc a) n h fits =
    let parts : 64 ≡ (64 - n) + n = omega arith in
    let whole : 2 ^ 64 ≡ 2 ^ (64 - n) * 2 ^ n = ap (λ (m : ℕ). 2 ^ m) parts ∙ pow-add 2 (64 - n) n in
    let half : a < 2 ^ 63 = fits.sfits in
    let lt : a < 2 ^ (64 - n) * 2 ^ n = subst (λ (m : ℕ). a < m) whole (omega arith) in
    ap (λ (m : ℕ). (m - suc a) % 2 ^ n) whole ∙ lacking_mod (2 ^ (64 - n)) (2 ^ n) a (pow_pos n) lt

-- the bits below the n-th
pub low_bits : (x : ℤ) (n : ℕ) → n ≤ 32 → SFits w64 x → bit_and (of_z w64 x) (2 ^ n - 1) ≡ modulo x (2 ^ n)
low_bits x n h fits = and_mask (of_z w64 x) n ∙ bits_mod x n h fits
