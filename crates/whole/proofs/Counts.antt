-- How many of the numbers below n lie in an interval. Assumes nothing.
use Rattle.std.proofs.Common.{◌≡◌, ℕ, zero, suc, ◌+◌, ◌-◌, ◌<◌, min, Bool, cond, ◌&&◌, ltb, leb, refl, ap₂, arith}
use Rattle.std.proofs.lemmas.Bool.Decides.{nat_tests}
use Rattle.whole.specs.Sums.{count, below}

-- tests that agree on every number below n pass equally often
pub count_same : (n : ℕ) (p q : ℕ → Bool) → ((d : ℕ) → d < n → p d ≡ q d) → count p (below n) ≡ count q (below n)
count_same zero p q h = refl
count_same (suc n) p q h =
    ap₂ (λ (b : Bool) (m : ℕ). cond b 1 0 + m) (h n (omega arith)) (count_same n p q (λ d lt. h d (omega arith)))

-- the numbers from low up to high, high left out
abbrev pub within : ℕ → ℕ → ℕ → Bool
within low high d = leb low d && ltb d high

-- as many as the interval has below n
pub count-within : (n low high : ℕ) → count (within low high) (below n) ≡ min n high - low
count-within zero low high = omega arith
count-within (suc n) low high =
    let before : count (within low high) (below n) ≡ min n high - low = count-within n low high in
    grind (arith, nat_tests)
