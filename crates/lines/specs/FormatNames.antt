-- What the names of formats stand for. Assumes nothing.
use Rattle.std.specs.Prelude.{ℕ, cond, List, drop, Some, None, Option, ◌==◌, slice_index}
use Rattle.std.specs.List.{before_first, after_first}
use Rattle.lines.specs.declared.format_names.FormatName.{FormatName}
use Rattle.lines.specs.declared.format_names.FormatName.TheVariants.{Fixed}
use Rattle.lines.specs.declared.format_names.Sizes.{Sizes}
use Rattle.lines.specs.Numerals.{unsigned}
use Rattle.lines.specs.Texts.{then, dot}

-- the letter s stands for one sign bit, u for none
abbrev pub sign_bits : ℕ → Option ℕ
sign_bits b = cond (b == 115) (Some 1) (cond (b == 117) (Some 0) None)

-- the sizes that stand round the first dot
abbrev pub sizes_written : ℕ → List ℕ → Option Sizes
sizes_written sign text =
    then (unsigned (before_first dot text)) (λ integer.
    then (unsigned (after_first dot text)) (λ fraction.
    Some (record { sign = sign; integer = integer; fraction = fraction })))

-- a letter, a decimal, a dot and a decimal
abbrev pub format_named : List ℕ → Option FormatName
format_named text =
    then (sign_bits (slice_index text 0)) (λ sign.
    then (sizes_written sign (drop 1 text)) (λ sizes.
    Some (Fixed sizes)))
