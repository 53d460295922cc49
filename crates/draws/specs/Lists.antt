-- The words of both sources are lists of 32-bit words. Assumes nothing.
use Rattle.std.specs.Prelude.{ℕ, zero, suc, ◌^◌, ◌<◌, ◌≤◌, List, length, refl}
use Rattle.std.proofs.Common.{arith}
use Rattle.std.proofs.lemmas.Bool.Decides.{nat_tests}
use Rattle.draws.specs.Streams.{Listed}
use Rattle.draws.specs.Sequences.{listed, stepped, after, generated}

-- a handed list, from a place within it
pub list_listed : (words : List ℕ) (at : ℕ) → at ≤ length words → Listed (listed words at)
list_listed words at h = record { none = grind (arith, nat_tests); fewer = λ n more. grind (arith, nat_tests); small = λ n. omega arith }

-- every state but the first is below 2 ^ 32
after_small : (n state : ℕ) → after state (suc n) < 2 ^ 32
after_small zero state = omega arith
after_small (suc n) state = after_small n (stepped state)

-- the words of the generator, which has always more
pub generated_listed : (state : ℕ) → Listed (generated state)
generated_listed state = record { none = refl; fewer = λ n more. refl; small = λ n. after_small n state }
