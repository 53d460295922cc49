-- The words of the two sources. Assumes nothing.
use Rattle.std.specs.Prelude.{◌≡◌, ℕ, zero, suc, ◌+◌, ◌*◌, ◌%◌, ◌^◌, true, List, length, nat_le, slice_index}
use Rattle.draws.specs.Streams.{Stream}

-- the words of a handed list from place `at` on
abbrev pub listed : List ℕ → ℕ → Stream
listed words at = record { left = λ n. nat_le (at + n) (length words); word = λ n. slice_index words (at + n) % 2 ^ 32 }

-- one step of the generator
abbrev pub stepped : ℕ → ℕ
stepped state = (1664525 * state + 1013904223) % 2 ^ 32

-- the state after n steps
abbrev pub after : ℕ → ℕ → ℕ
after state zero = state
after state (suc n) = after (stepped state) n

-- each word is the state after one step more
abbrev pub generated : ℕ → Stream
generated state = record { left = λ _. true; word = λ n. after state (suc n) }

-- the first two words from seed 0
abbrev pub FirstWords : Type 0
FirstWords = ((generated 0).word 0 ≡ 1013904223) × ((generated 0).word 1 ≡ 1196435762)
