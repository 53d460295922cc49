use Rattle.std.proofs.Common.{◌-◌}
use Rattle.series.proofs.Terms.{Summed}
use Rattle.series.proofs.rounded_terms.Given as goal

abbrev pub invariant-loop-i : goal.invariant-loop-i
invariant-loop-i g l =
    let s = l.stretch.unit.now in
    Summed g.S.Source.coming s.mode s.k.bits (l.i - 2) l.initial.source l.source l.sum
