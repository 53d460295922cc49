use Rattle.std.proofs.Common.{◌≡◌, ◌-◌, length, map, take}
use Rattle.std.specs.List.{range_with_len}
use Rattle.draws.specs.Sequences.{after}
use Rattle.answers.proofs.unit_and_generator.first_words.Given as goal

abbrev pub decreases-loop-word : goal.decreases-loop-word
decreases-loop-word l = 8 - l.word-index

abbrev pub invariant-loop-word : goal.invariant-loop-word
invariant-loop-word l = record {
  state : l.generator ≡ after l.fn.seed l.word-index;
  long : length l.word-items ≡ 8;
  taken : take l.word-index l.word-items ≡ map (after l.fn.seed) (range_with_len 1 l.word-index);
}
