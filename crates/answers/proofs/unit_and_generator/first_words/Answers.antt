use Rattle.std.proofs.Common.{◌≡◌, ℕ, suc, ◌+◌, ◌<◌, List, [], ◌∷◌, ◌++◌, map, refl, sym, ap, ◌∙◌, length-set, arith}
use Rattle.std.specs.List.{range_with_len}
use Rattle.std.proofs.lemmas.List.{take_more_set, take_all}
use Rattle.std.proofs.lemmas.List.FromFn.{map-range_with_len_more}
use Rattle.draws.specs.Sequences.{stepped, after}
use Rattle.lines.specs.declared.answer.Answer.TheVariants.{Words}
use Rattle.answers.proofs.Steps.{step_after}
use Rattle.answers.proofs.unit_and_generator.first_words.Goals as goal

pub loop-word-init : goal.loop-word-init
loop-word-init c = record { state = c.new-generator.ensures.state; long = refl; taken = refl }

pub loop-word-preserved : goal.loop-word-preserved
loop-word-preserved c =
    let i : ℕ = c.loop-word.word-index in
    let so_far = c.loop-word.invariant in
    let more : suc i ≡ i + 1 = omega arith in
    let next : stepped c.loop-word.generator ≡ after c.args.seed (i + 1) = ap stepped so_far.state ∙ step_after c.args.seed i ∙ ap (after c.args.seed) more in
    let words : List ℕ = map (after c.args.seed) (range_with_len 1 i) in
    let within : i < 8 = omega (arith, c.loop-word-test.true) in
    record {
      state = c.next_word.ensures.state ∙ next;
      long = length-set _ _ _ ∙ so_far.long;
      taken = take_more_set _ _ _ (omega (arith, so_far.long)) ∙ ap (λ ws. ws ++ c.next_word.result ∷ []) so_far.taken
          ∙ ap (λ w. words ++ w ∷ []) (c.next_word.ensures.word ∙ next) ∙ sym (map-range_with_len_more (after c.args.seed) 1 i (i + 1) (omega arith));
    }

pub returns : goal.returns
returns c =
    let so_far = c.loop-word.invariant in
    let all : c.loop-word.word-index ≡ 8 = omega (arith, c.loop-word-test.false, so_far.long) in
    ap Words (sym (take_all c.loop-word.word-index c.loop-word.word-items (omega (arith, so_far.long, all))) ∙ so_far.taken ∙ ap (λ n. map (after c.args.seed) (range_with_len 1 n)) all)
