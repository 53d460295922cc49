use Rattle.std.proofs.Common.{◌≡◌, codes, arith}
use Rattle.lines.proofs.Spelled.{spelled}
use Rattle.lines.proofs.names.rule.Goals as goal

pub returns-in-comparison : goal.returns-in-comparison
returns-in-comparison c = let e : c.args.name.now ≡ codes "comparison" = cc (spelled 10 c.args.name.now (omega arith)) in rw e

pub returns-in-carry : goal.returns-in-carry
returns-in-carry c = let e : c.args.name.now ≡ codes "carry" = cc (spelled 5 c.args.name.now (omega arith)) in rw e
