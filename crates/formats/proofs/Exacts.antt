-- The exact results are what the operations give. Assumes nothing.
use Rattle.std.proofs.Common.{◌≡◌, ℕ, ◌^◌, ◌<◌, false, ℤ, pos, negsuc, ◌+ℤ◌, ◌-ℤ◌, ◌*ℤ◌, nat_abs, sym, refl, ◌∙◌, arith, pow_pos}
use Rattle.std.proofs.lemmas.Bool.Decides.{nat_tests}
use Rattle.whole.proofs.Integers.{mul-one, neg-mul, mul-neg}
use Rattle.formats.specs.declared.split.Operation.{Operation}
use Rattle.formats.specs.declared.split.Operation.TheVariants.{Sum, Difference, Product, Quotient}
use Rattle.formats.specs.Exact.{signed_as, of_values, IsResult}
use Rattle.formats.specs.Questions.{divides_by_zero}

-- a size with the sign of w is w
signed_size : (w v : ℤ) → signed_as w v *ℤ w ≡ v *ℤ pos (nat_abs w)
signed_size (pos w) v = refl
signed_size (negsuc w) v = neg-mul v (negsuc w) ∙ sym (mul-neg v (negsuc w))

-- the fraction of each operation is its exact result
pub is_result : (u : ℕ) (op : Operation) (v w : ℤ) → IsResult u op v w (of_values u op v w)
is_result u Sum v w = sym (mul-one (v +ℤ w))
is_result u Difference v w = sym (mul-one (v -ℤ w))
is_result u Product v w = refl
is_result u Quotient v w = signed_size w (v *ℤ pos (2 ^ u))

-- its denominator is positive unless the divisor has the value 0
pub denominator_positive : (u : ℕ) (op : Operation) (v w : ℤ) → divides_by_zero op w ≡ false → 0 < (of_values u op v w).denominator
denominator_positive u Sum v w h = omega arith
denominator_positive u Difference v w h = omega arith
denominator_positive u Product v w h = pow_pos u
denominator_positive u Quotient v w h = grind (arith, nat_tests)
