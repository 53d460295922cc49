use Rattle.std.proofs.Common.{◌≡◌, codes, arith}
use Rattle.lines.proofs.Spelled.{spelled}
use Rattle.lines.proofs.answer_fields.is_refused.Goals as goal

pub returns-in-Some-refused : goal.returns-in-Some-refused
returns-in-Some-refused c =
    let e : c.in-Some-refused.field-0.now ≡ codes "refused" = cc (spelled 7 c.in-Some-refused.field-0.now (omega arith)) in
    rw (c.in-Some-refused.ensures, e)
