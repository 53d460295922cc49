-- The words still to come from a source. Assumes nothing.
use Rattle.std.specs.Prelude.{◌≡◌, ℕ, zero, suc, ◌^◌, ◌<◌, Bool, true}

-- a list of words, which may be endless
pub record Stream : Type 0 where
  -- at least n words are left
  pub left : ℕ → Bool
  -- the word that comes after n others
  pub word : ℕ → ℕ

-- what makes it a list of 32-bit words
pub record Listed (s : Stream) : Type 0 where
  pub none : s.left 0 ≡ true
  pub fewer : (n : ℕ) → s.left (suc n) ≡ true → s.left n ≡ true
  pub small : (n : ℕ) → s.word n < 2 ^ 32

-- all but the first word
abbrev pub rest : Stream → Stream
rest s = record { left = λ n. s.left (suc n); word = λ n. s.word (suc n) }

-- what is left after m words
abbrev pub skipped : ℕ → Stream → Stream
skipped zero s = s
skipped (suc m) s = rest (skipped m s)
