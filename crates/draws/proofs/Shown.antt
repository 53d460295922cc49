-- How a number of one digit is shown. Assumes nothing.
use Rattle.std.proofs.Common.{◌≡◌, ℕ, ◌+◌, ◌<◌, List, [], ◌∷◌, ◌++◌, codes, sym, ap}
use Rattle.std.proofs.lemmas.Fmt.{decimal_digit}
use Rattle.draws.specs.Refusals.{refused_by}

-- by its digit
pub one_digit : (n : ℕ) → n < 10 → codes "refused by " ++ ((48 + n) ∷ []) ≡ refused_by n
one_digit n few = ap (λ (d : List ℕ). codes "refused by " ++ d) (sym (decimal_digit n few))
