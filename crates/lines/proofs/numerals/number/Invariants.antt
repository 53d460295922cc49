use Rattle.std.proofs.Common.{◌-◌, ◌^◌, ◌≤◌}
use Rattle.lines.proofs.Digits.{Left}
use Rattle.lines.proofs.numerals.number.Given as goal

abbrev pub invariant-loop-byte : goal.invariant-loop-byte
invariant-loop-byte l = Left l.base (2 ^ 64 - 1) l.number l.text l.byte-index × (l.number ≤ 2 ^ 64 - 1)
