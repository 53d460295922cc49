use Rattle.std.proofs.Common.{negsuc}
use Rattle.fixed.proofs.Answering.{answers_below, same_reach}
use Rattle.fixed.proofs.format.FixedFormat.next_below.Goals as goal

pub returns-clause-answer : goal.returns-clause-answer
returns-clause-answer c =
    let at = c.in_ok-number.ensures in
    answers_below c.args.self.now c.args.code at.0 c.moved_code.result (same_reach (negsuc 0) c.moved_code.result at.1 at.2 c.moved_code.ensures)
