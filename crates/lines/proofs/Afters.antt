-- The fields after the first. Assumes nothing.
use Rattle.std.proofs.Common.{◌≡◌, ℕ, zero, suc, ◌+◌, List, refl, ap, ◌∙◌, arith}
use Rattle.lines.specs.Fields.{others, after}

-- one field more
pub others-after : (n : ℕ) (fs : List (List ℕ)) → others (after n fs) ≡ after (suc n) fs
others-after zero fs = refl
others-after (suc n) fs = others-after n (others fs)

pub one_more : (n : ℕ) (fs : List (List ℕ)) → others (after n fs) ≡ after (n + 1) fs
one_more n fs = let next : suc n ≡ n + 1 = omega arith in others-after n fs ∙ ap (λ k. after k fs) next
