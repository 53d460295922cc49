use Rattle.std.proofs.Common.{◌≡◌, codes, arith}
use Rattle.lines.proofs.Spelled.{spelled}
use Rattle.lines.proofs.names.mode.Goals as goal

pub returns-in-nearest : goal.returns-in-nearest
returns-in-nearest c = let e : c.args.name.now ≡ codes "nearest" = cc (spelled 7 c.args.name.now (omega arith)) in rw e

pub returns-in-stochastic : goal.returns-in-stochastic
returns-in-stochastic c = let e : c.args.name.now ≡ codes "stochastic" = cc (spelled 10 c.args.name.now (omega arith)) in rw e
