use Rattle.std.proofs.Common.{◌≡◌, ◌-◌, length}
use Rattle.lines.specs.Fields.{after}
use Rattle.lines.proofs.WordLists.{Left}
use Rattle.lines.proofs.answer_fields.words.Given as goal

abbrev pub decreases-loop-word : goal.decreases-loop-word
decreases-loop-word l = 8 - l.word-index

abbrev pub invariant-loop-word : goal.invariant-loop-word
invariant-loop-word l = record {
  so_far : Left 8 l.fn.line l.line l.word-items l.word-index;
  long : length l.word-items ≡ 8;
  left : l.line ≡ after l.word-index l.fn.line;
}
