use Rattle.std.proofs.Common.{Ok, Err, ap, ◌∙◌, SFits, w32, w64, to_z, of_z, rules}
use Rattle.std.proofs.lemmas.Int.{to_z-of_z}
use Rattle.draws.specs.Refusals.{source_refusal}
use Rattle.draws.specs.Sequences.{listed}
use Rattle.lines.specs.declared.answer.Answer.TheVariants.{Quotient}
use Rattle.answers.proofs.Shown.{refusal_told, word_lent, unit_shown}
use Rattle.answers.proofs.unit_and_generator.unit_rounded.Goals as goal

pub returns-in_err-quotient : goal.returns-in_err-quotient
returns-in_err-quotient c =
    let given = c.new.ensures ∙ word_lent c.args.word c.as_slice.result.now c.as_slice.ensures in
    refusal_told c.from_residual-in_err-quotient.result (source_refusal c.in_err-quotient.field-0.0) c.from_residual-in_err-quotient.ensures.1
    ∙ unit_shown (λ s. listed s.words.now s.at) c.new-unit.result c.in_ok-of.field-0 c.args.mode c.args.n c.args.k c.args.x (to_z w64 (of_z w64 c.args.x)) c.args.word c.new.result c.round.new.source given
    c.new-unit.ensures c.in_ok-of.ensures (to_z-of_z w64 c.args.x c.ranges.x) (Err c.in_err-quotient.field-0.0) c.in_err-quotient.ensures.answer

pub returns : goal.returns
returns c =
    let given = c.new.ensures ∙ word_lent c.args.word c.as_slice.result.now c.as_slice.ensures in
    let wide : SFits w64 c.from.result = search rules in
    let narrow : SFits w32 c.in_ok-quotient.quotient = search rules in
    ap Quotient (to_z-of_z w64 c.from.result wide ∙ c.from.ensures ∙ to_z-of_z w32 c.in_ok-quotient.quotient narrow)
    ∙ unit_shown (λ s. listed s.words.now s.at) c.new-unit.result c.in_ok-of.field-0 c.args.mode c.args.n c.args.k c.args.x (to_z w64 (of_z w64 c.args.x)) c.args.word c.new.result c.round.new.source given
    c.new-unit.ensures c.in_ok-of.ensures (to_z-of_z w64 c.args.x c.ranges.x) (Ok c.in_ok-quotient.quotient) c.in_ok-quotient.ensures.answer
