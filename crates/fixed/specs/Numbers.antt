-- Which number a code or a value is. Assumes nothing.
use Rattle.std.specs.Prelude.{◌≡◌, ℕ, true, false, ℤ, Some, None, Ok, Err, Option, Result}
use Rattle.formats.specs.declared.faults.FormatFault.{FormatFault}
use Rattle.formats.specs.Refusals.{format_refusal}
use Rattle.fixed.specs.declared.number.Number.{Number}
use Rattle.fixed.specs.declared.sizes.Fixed.{Fixed}
use Rattle.fixed.specs.Sized.{format_of, Beyond}

-- the number that a code is; refused by 3 where it is none
abbrev pub Numbered : Fixed → ℕ → Result Number FormatFault → Type 0
Numbered f c (Ok n) = ((format_of f).number c ≡ true) × (n.format ≡ f) × (n.value ≡ (format_of f).value c)
Numbered f c (Err e) = ((format_of f).number c ≡ false) × (format_refusal e ≡ 3)

-- the number of value v, unless v is beyond an end
abbrev pub At : Fixed → ℤ → Option Number → Type 0
At f v (Some n) = (n.format ≡ f) × (n.value ≡ v)
At f v None = Beyond f v
