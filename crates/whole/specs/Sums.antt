-- Sums and counts over a list, and the numbers below a bound. Assumes nothing.
use Rattle.std.specs.Prelude.{ℕ, zero, suc, ◌+◌, Bool, cond, List, [], ◌∷◌, ℤ, pos, ◌+ℤ◌}

-- f summed over the elements
abbrev pub sum : {X : Type 0} → (X → ℕ) → List X → ℕ
sum f [] = 0
sum f (x ∷ xs) = f x + sum f xs

-- the same for integers
abbrev pub sum_ℤ : {X : Type 0} → (X → ℤ) → List X → ℤ
sum_ℤ f [] = pos 0
sum_ℤ f (x ∷ xs) = f x +ℤ sum_ℤ f xs

-- how many pass the test
abbrev pub count : {X : Type 0} → (X → Bool) → List X → ℕ
count p xs = sum (λ x. cond (p x) 1 0) xs

-- the numbers n - 1, .., 1, 0
abbrev pub below : ℕ → List ℕ
below zero = []
below (suc n) = n ∷ below n

-- the n numbers from `first` on, the last of them first
abbrev pub span : ℕ → ℕ → List ℕ
span first zero = []
span first (suc n) = (first + n) ∷ span first n
