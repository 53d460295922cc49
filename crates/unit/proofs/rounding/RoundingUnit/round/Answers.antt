use Rattle.unit.proofs.Means.{unit_laws}
use Rattle.unit.proofs.rounding.RoundingUnit.round.Goals as goal

pub returns-clause-laws : goal.returns-clause-laws
returns-clause-laws g c =
    let s = c.args.self.now in
    unit_laws s.n s.k.bits c.args.x s.low s.k.low s.k.high
