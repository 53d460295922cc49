-- The exact results of the operations, as fractions. Assumes nothing.
use Rattle.std.specs.Prelude.{◌≡◌, ℕ, ◌^◌, ℤ, pos, negsuc, ◌+ℤ◌, ◌-ℤ◌, ◌*ℤ◌, neg_ℤ, unsigned_abs}
use Rattle.formats.specs.declared.split.Calculation.{Calculation}
use Rattle.formats.specs.declared.split.Operation.{Operation}
use Rattle.formats.specs.declared.split.Operation.TheVariants.{Sum, Difference, Product, Quotient}
use Rattle.formats.specs.Meaning.{Meaning}

-- numerator / denominator units
pub record Exact : Type 0 where
  pub numerator : ℤ
  pub denominator : ℕ

-- v with the sign of w
abbrev pub signed_as : ℤ → ℤ → ℤ
signed_as (pos w) v = v
signed_as (negsuc w) v = neg_ℤ v

-- of v and w units of 2 ^ -u
abbrev pub of_values : ℕ → Operation → ℤ → ℤ → Exact
of_values u Sum v w = record { numerator = v +ℤ w; denominator = 1 }
of_values u Difference v w = record { numerator = v -ℤ w; denominator = 1 }
of_values u Product v w = record { numerator = v *ℤ w; denominator = 2 ^ u }
of_values u Quotient v w = record { numerator = signed_as w (v *ℤ pos (2 ^ u)); denominator = unsigned_abs w }

-- of the values of the two codes
abbrev pub exact : Meaning → Calculation → Exact
exact M asked = of_values M.unit asked.operation (M.value asked.left) (M.value asked.right)

-- That x units are the exact result, by cross-multiplication: x is v + w, x is v - w, x * 2 ^ u is v * w, x * w is v * 2 ^ u.
abbrev pub IsResult : ℕ → Operation → ℤ → ℤ → Exact → Type 0
IsResult u Sum v w x = x.numerator ≡ (v +ℤ w) *ℤ pos x.denominator
IsResult u Difference v w x = x.numerator ≡ (v -ℤ w) *ℤ pos x.denominator
IsResult u Product v w x = x.numerator *ℤ pos (2 ^ u) ≡ v *ℤ w *ℤ pos x.denominator
IsResult u Quotient v w x = x.numerator *ℤ w ≡ v *ℤ pos (2 ^ u) *ℤ pos x.denominator
