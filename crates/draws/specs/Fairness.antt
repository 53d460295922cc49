-- Both rules say far on an interval of as many draws as the count says. Assumes nothing.
use Rattle.std.specs.Prelude.{◌≡◌, ℕ, ◌+◌, ◌-◌, ◌^◌, ◌<◌, ◌≤◌}
use Rattle.std.proofs.Common.{◌∙◌, arith}
use Rattle.std.proofs.lemmas.Bool.Decides.{nat_tests}
use Rattle.whole.proofs.Counts.{within, count_same, count-within}
use Rattle.draws.specs.Rules.{Says, Fair, compares, carries}

-- A rule that says far from `low k R` on, for R draws, is fair. A rule of another crate can be proved by it too.
pub fair_within : (says : Says) (low : ℕ → ℕ → ℕ) → ((k R : ℕ) → R < 2 ^ k → low k R + R ≤ 2 ^ k) → ((k R d : ℕ) → 1 ≤ k → k ≤ 32 → R < 2 ^ k → d < 2 ^ k → says k R d ≡ within (low k R) (low k R + R) d) → Fair says
fair_within says low fits agree k R least most lt =
    let room : low k R + R ≤ 2 ^ k = fits k R lt in
    count_same (2 ^ k) (says k R) (within (low k R) (low k R + R)) (λ d h. agree k R d least most lt h)
    ∙ count-within (2 ^ k) (low k R) (low k R + R)
    ∙ omega arith

-- the comparison rule says far from 0 on
pub compares_fair : Fair compares
compares_fair = fair_within compares (λ k R. 0) (λ k R h. omega arith) (λ k R d least most lt h. grind (arith, nat_tests))

-- the carry rule says far from 2 ^ k - R on
pub carries_fair : Fair carries
carries_fair = fair_within carries (λ k R. 2 ^ k - R) (λ k R h. omega arith) (λ k R d least most lt h. grind (arith, nat_tests))
