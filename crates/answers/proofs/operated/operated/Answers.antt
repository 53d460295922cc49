use Rattle.std.proofs.Common.{Ok, Err, ◌∙◌}
use Rattle.draws.specs.Sequences.{listed}
use Rattle.operations.specs.Refusals.{operation_refusal}
use Rattle.answers.proofs.Shown.{refusal_told, word_lent, operation_shown}
use Rattle.answers.proofs.operated.operated.Goals as goal

pub returns-in_err-perform : goal.returns-in_err-perform
returns-in_err-perform g c =
    let given = c.new-source.ensures ∙ word_lent c.args.word c.as_slice.result.now c.as_slice.ensures in
    refusal_told c.from_residual.result (operation_refusal c.in_err-perform.field-0.0) c.from_residual.ensures.1
    ∙ operation_shown (λ s. listed s.words.now s.at) (g.R.Rule.says c.args.arithmetic.now.rule) (g.F.Format.meaning c.args.arithmetic.now.format) c.args.calculation c.args.arithmetic.now.k c.args.word c.new-source.result c.perform.new.source (Err c.in_err-perform.field-0.0) given c.in_err-perform.ensures.answer

pub returns : goal.returns
returns g c =
    let given = c.new-source.ensures ∙ word_lent c.args.word c.as_slice.result.now c.as_slice.ensures in
    operation_shown (λ s. listed s.words.now s.at) (g.R.Rule.says c.args.arithmetic.now.rule) (g.F.Format.meaning c.args.arithmetic.now.format) c.args.calculation c.args.arithmetic.now.k c.args.word c.new-source.result c.perform.new.source (Ok c.in_ok-perform.field-0) given c.in_ok-perform.ensures.answer
