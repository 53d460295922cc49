-- What is left after some words. Assumes nothing.
use Rattle.std.proofs.Common.{◌≡◌, ℕ, zero, suc, ◌+◌, true, ap, ◌∙◌, arith}
use Rattle.draws.specs.Streams.{Stream, Listed, skipped}

-- after m words, n more are left where m + n were
pub skipped_left : (m n : ℕ) (s : Stream) → (skipped m s).left n ≡ s.left (m + n)
skipped_left zero n s = ap s.left (omega arith)
skipped_left (suc m) n s = skipped_left m (suc n) s ∙ ap s.left (omega arith)

-- and the next ones are the m-th and those after it
pub skipped_word : (m n : ℕ) (s : Stream) → (skipped m s).word n ≡ s.word (m + n)
skipped_word zero n s = ap s.word (omega arith)
skipped_word (suc m) n s = skipped_word m (suc n) s ∙ ap s.word (omega arith)

-- where m + n words are left, so are n
pub fewer_left : (s : Stream) → Listed s → (m n : ℕ) → s.left (m + n) ≡ true → s.left n ≡ true
fewer_left s l zero n h = ap s.left (omega arith) ∙ h
fewer_left s l (suc m) n h = fewer_left s l m n (l.fewer (m + n) (ap s.left (omega arith) ∙ h))
