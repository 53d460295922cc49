-- The number that each fault is refused by. Assumes nothing.
use Rattle.std.specs.Prelude.{ℕ}
use Rattle.fixed.specs.declared.faults.SizesFault.{SizesFault}
use Rattle.fixed.specs.declared.faults.SizesFault.TheVariants.{OutOfRange}

-- the sizes of a format are out of range
abbrev pub sizes_refusal : SizesFault → ℕ
sizes_refusal OutOfRange = 1
