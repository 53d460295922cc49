-- Sums over a list. Assumes nothing.
use Rattle.std.proofs.Common.{◌≡◌, ℕ, zero, suc, ◌+◌, Bool, true, false, cond, List, [], ◌∷◌, length, ℤ, pos, ◌+ℤ◌, ◌-ℤ◌, ◌*ℤ◌, sym, refl, ap, ◌∙◌, ap₂, arith}
use lib.IntN.{suc_ℤ-*ℤ, zero-*ℤ}
use Rattle.std.proofs.lemmas.Int.{ints}
use Rattle.whole.specs.Sums.{sum_ℤ, count, below}
use Rattle.whole.proofs.Integers.{mul-one}

-- terms that are equal have equal sums
pub sum_ℤ_same : {X : Type 0} (f g : X → ℤ) → ((x : X) → f x ≡ g x) → (xs : List X) → sum_ℤ f xs ≡ sum_ℤ g xs
sum_ℤ_same f g e [] = refl
sum_ℤ_same f g e (x ∷ xs) = ap₂ (λ (a b : ℤ). a +ℤ b) (e x) (sum_ℤ_same f g e xs)

-- a for each element that passes, and b for each other
pub sum_ℤ_chosen : {X : Type 0} (p : X → Bool) (a b : ℤ) (xs : List X) → sum_ℤ (λ x. cond (p x) a b) xs ≡ pos (length xs) *ℤ b +ℤ pos (count p xs) *ℤ (a -ℤ b)
sum_ℤ_chosen p a b [] = sym (ap₂ (λ (y z : ℤ). y +ℤ z) (zero-*ℤ b) (zero-*ℤ (a -ℤ b)))
sum_ℤ_chosen p a b (x ∷ xs) = by_test (p x) (sum_ℤ_chosen p a b xs)
  where
    more : pos (suc (length xs)) *ℤ b ≡ pos (length xs) *ℤ b +ℤ b
    more = suc_ℤ-*ℤ (pos (length xs)) b

    passed : pos (suc (count p xs)) *ℤ (a -ℤ b) ≡ pos (count p xs) *ℤ (a -ℤ b) +ℤ (a -ℤ b)
    passed = suc_ℤ-*ℤ (pos (count p xs)) (a -ℤ b)

    by_test : (c : Bool) → sum_ℤ (λ y. cond (p y) a b) xs ≡ pos (length xs) *ℤ b +ℤ pos (count p xs) *ℤ (a -ℤ b) → cond c a b +ℤ sum_ℤ (λ y. cond (p y) a b) xs ≡ pos (suc (length xs)) *ℤ b +ℤ pos (cond c 1 0 + count p xs) *ℤ (a -ℤ b)
    by_test true before = omega (arith, ints, more, passed)
    by_test false before = omega (arith, ints, more)

-- one more than q for each element that passes, and q for each other
pub sum_ℤ_passed : {X : Type 0} (p : X → Bool) (q : ℤ) (xs : List X) → sum_ℤ (λ x. cond (p x) (q +ℤ pos 1) q) xs ≡ pos (length xs) *ℤ q +ℤ pos (count p xs)
sum_ℤ_passed p q xs =
    let one : (q +ℤ pos 1) -ℤ q ≡ pos 1 = omega (arith, ints) in
    sum_ℤ_chosen p (q +ℤ pos 1) q xs ∙ ap (λ (z : ℤ). pos (length xs) *ℤ q +ℤ z) (ap (λ (z : ℤ). pos (count p xs) *ℤ z) one ∙ mul-one (pos (count p xs)))

-- there are n numbers below n
pub length-below : (n : ℕ) → length (below n) ≡ n
length-below zero = refl
length-below (suc n) = ap suc (length-below n)
