use Rattle.std.proofs.Common.{◌≡◌, ◌+◌, ◌<◌, set, ◌∙◌, sym, ap, subst, arith, length-set}
use Rattle.lines.specs.Fields.{after, at, others}
use Rattle.lines.specs.Numerals.{after_0x}
use Rattle.lines.proofs.Afters.{one_more}
use Rattle.lines.proofs.WordLists.{Left, ends_early, goes_on, ends, no_answer, an_answer}
use Rattle.lines.proofs.answer_fields.words.Goals as goal

pub returns-in_err-next : goal.returns-in_err-next
returns-in_err-next c =
    let within : c.loop-word.word-index < 8 = omega (arith, c.loop-word-test.true, c.loop-word.invariant.long) in
    rw c.from_residual.ensures (no_answer _ (ends_early _ _ _ _ _ within c.loop-word.invariant.so_far (sym (ap (λ fs. after_0x (at 0 fs)) c.in_err-next.ensures.steps.0))))

pub returns-in_err-word : goal.returns-in_err-word
returns-in_err-word c =
    let within : c.loop-word.word-index < 8 = omega (arith, c.loop-word-test.true, c.loop-word.invariant.long) in
    rw c.from_residual-in_err-word.ensures (no_answer _ (ends_early _ _ _ _ _ within c.loop-word.invariant.so_far (c.in_err-word.ensures ∙ sym (ap (λ fs. after_0x (at 0 fs)) c.in_ok-next.ensures.steps))))

pub loop-word-preserved : goal.loop-word-preserved
loop-word-preserved c =
    let within : c.loop-word.word-index < 8 = omega (arith, c.loop-word-test.true, c.loop-word.invariant.long) in
    let left : others c.loop-word.line ≡ c.next.new.self = ap others c.in_ok-next.ensures.steps in
    record {
      so_far = subst (λ fs. Left 8 c.args.line.now fs (set c.loop-word.word-items c.loop-word.word-index c.in_ok-word.field-0) (c.loop-word.word-index + 1)) left (goes_on _ _ _ _ _ within c.loop-word.invariant.so_far c.in_ok-word.field-0 c.loop-word.invariant.long (c.in_ok-word.ensures ∙ sym (ap (λ fs. after_0x (at 0 fs)) c.in_ok-next.ensures.steps)));
      long = length-set _ _ _ ∙ c.loop-word.invariant.long;
      left = sym left ∙ ap others c.loop-word.invariant.left ∙ one_more c.loop-word.word-index c.args.line.now;
    }

pub returns : goal.returns
returns c =
    let all : c.loop-word.word-index ≡ 8 = omega (arith, c.loop-word-test.false, c.loop-word.invariant.long) in
    (an_answer _ _ (ends _ _ _ _ c.loop-word.word-index c.loop-word.invariant.long (omega (arith, all)) c.loop-word.invariant.so_far), c.loop-word.invariant.left ∙ ap (λ n. after n c.args.line.now) all)
