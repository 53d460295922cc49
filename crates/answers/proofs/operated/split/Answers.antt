use Rattle.answers.proofs.Shown.{split_shown}
use Rattle.answers.proofs.operated.split.Goals as goal

pub returns : goal.returns
returns g c =
    let split = c.in_ok-split.ensures.answer in
    split_shown (g.F.Format.meaning c.args.format.now) (g.met.F.Format.lawful c.args.format.now) c.args.calculation c.args.k c.in_ok-split.field-0 split.0 split.1
