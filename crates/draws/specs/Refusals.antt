-- The number that each fault is refused by. Assumes nothing.
use Rattle.std.specs.Prelude.{ℕ, List, codes, ◌++◌}
use Rattle.std.specs.Fmt.{decimal}
use Rattle.draws.specs.declared.draw_bits.DrawBitsFault.{DrawBitsFault}
use Rattle.draws.specs.declared.draw_bits.DrawBitsFault.TheVariants.{OutOfRange}
use Rattle.draws.specs.declared.sources.SourceFault.{SourceFault}
use Rattle.draws.specs.declared.sources.SourceFault.TheVariants.{Exhausted}

-- k is out of range
abbrev pub draw_bits_refusal : DrawBitsFault → ℕ
draw_bits_refusal OutOfRange = 2

-- fewer words are left than are asked for
abbrev pub source_refusal : SourceFault → ℕ
source_refusal Exhausted = 8

-- how a fault is shown
abbrev pub refused_by : ℕ → List ℕ
refused_by number = codes "refused by " ++ decimal number
