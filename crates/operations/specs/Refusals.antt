-- The number that each fault is refused by. Assumes nothing.
use Rattle.std.specs.Prelude.{ℕ}
use Rattle.draws.specs.Refusals.{source_refusal}
use Rattle.formats.specs.Refusals.{format_refusal}
use Rattle.operations.specs.declared.faults.OperationFault.{OperationFault}
use Rattle.operations.specs.declared.faults.OperationFault.TheVariants.{Format, Source}

-- that of its cause
abbrev pub operation_refusal : OperationFault → ℕ
operation_refusal (Format e) = format_refusal e
operation_refusal (Source e) = source_refusal e
