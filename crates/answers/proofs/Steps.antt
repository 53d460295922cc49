-- The words of the generator, one after another. Assumes nothing.
use Rattle.std.proofs.Common.{◌≡◌, ℕ, zero, suc, refl}
use Rattle.draws.specs.Sequences.{stepped, after}

-- one step more
pub step_after : (seed n : ℕ) → stepped (after seed n) ≡ after seed (suc n)
step_after seed zero = refl
step_after seed (suc n) = step_after (stepped seed) n
