use Rattle.answers.proofs.OneAnswer.{one_answer}
use Rattle.answers.proofs.answering.answer.Goals as goal

pub returns-clause-only : goal.returns-clause-only
returns-clause-only c = one_answer c.args.query
