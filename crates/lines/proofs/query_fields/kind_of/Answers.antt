use Rattle.std.proofs.Common.{◌≡◌, codes, arith}
use Rattle.lines.proofs.Spelled.{spelled}
use Rattle.lines.proofs.query_fields.kind_of.Goals as goal

pub returns-in-split : goal.returns-in-split
returns-in-split c = let e : c.args.name.now ≡ codes "split" = cc (spelled 5 c.args.name.now (omega arith)) in rw e
