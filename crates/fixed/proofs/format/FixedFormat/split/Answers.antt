use Rattle.formats.specs.Exact.{Exact}
use Rattle.fixed.proofs.Answering.{answers_split}
use Rattle.fixed.proofs.format.FixedFormat.split.Goals as goal

pub returns-clause-answer : goal.returns-clause-answer
returns-clause-answer c =
    let left = c.in_ok-left in
    let right = c.in_ok-right in
    let exact = c.in_ok-exact in
    let x : Exact = exact.exact in
    answers_split c.args.self.now c.args.calculation c.args.k c.in_ok-k.k.bits left.left.value right.right.value x c.place.result
    c.in_ok-k.ensures.0 c.in_ok-k.ensures.1 left.ensures.0 left.ensures.2 right.ensures.0 right.ensures.2
    exact.ensures.0 exact.ensures.1 c.place.ensures
