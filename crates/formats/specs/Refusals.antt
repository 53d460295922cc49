-- The number that each fault is refused by. Assumes nothing.
use Rattle.std.specs.Prelude.{ℕ}
use Rattle.formats.specs.declared.faults.FormatFault.{FormatFault}
use Rattle.formats.specs.declared.faults.FormatFault.TheVariants.{DrawBitsOutOfRange, NotANumber, ZeroDivisor}

-- k is out of range, a code is no number, a divisor has the value 0
abbrev pub format_refusal : FormatFault → ℕ
format_refusal DrawBitsOutOfRange = 2
format_refusal NotANumber = 3
format_refusal ZeroDivisor = 4
