-- What the search over all codes finds. Assumes nothing.
use Rattle.std.proofs.Common.{◌≡◌, ℕ, zero, suc, ◌<◌, Bool, true, false, cond, ◌&&◌, ℤ, Some, None, Option, sym, refl, ap, ◌∙◌, subst, ⊎_elim, le_of_suc-le-suc, not-suc-le-zero, eq-or-lt_of_le, arith}
use lib.Signed.{lt_z}
use Rattle.std.proofs.lemmas.Int.{ints}
use Rattle.formats.specs.Meaning.{Meaning, Value}
use Rattle.formats.specs.Search.{better, best}

-- what the search needs of the order in which it keeps one of two values
pub record Order (prefers : ℤ → ℤ → Bool) : Type 0 where
  pub self : (a : ℤ) → prefers a a ≡ false
  pub not_both : (a b : ℤ) → prefers a b ≡ true → prefers b a ≡ false
  pub chain : (a b c : ℤ) → prefers a b ≡ false → prefers b c ≡ false → prefers a c ≡ false

-- which has the preference for the larger of two values, and for the smaller
pub larger_order : Order (λ w v. lt_z v w)
larger_order = record { self = λ a. grind (arith, ints); not_both = λ a b h. grind (arith, ints); chain = λ a b c h l. grind (arith, ints) }

pub smaller_order : Order (λ w v. lt_z w v)
smaller_order = record { self = λ a. grind (arith, ints); not_both = λ a b h. grind (arith, ints); chain = λ a b c h l. grind (arith, ints) }

-- the code c has no value that passes, or none that passes and is preferred to v
abbrev pub Rejects : Meaning → (ℤ → Bool) → ℕ → Type 0
Rejects M passes c = M.number c ≡ true → passes (M.value c) ≡ false

abbrev pub Yields : Meaning → (ℤ → Bool) → (ℤ → ℤ → Bool) → ℤ → ℕ → Type 0
Yields M passes prefers v c = M.number c ≡ true → passes (M.value c) ≡ true → prefers (M.value c) v ≡ false

-- v is a value that passes, and none of the codes below n has one that is preferred to it
pub record Preferred (M : Meaning) (passes : ℤ → Bool) (prefers : ℤ → ℤ → Bool) (n : ℕ) (v : ℤ) : Type 0 where
  pub attained : Value M v
  pub passed : passes v ≡ true
  pub first : (c : ℕ) → c < n → Yields M passes prefers v c

-- what is found among the codes below n, or that none of them passes
abbrev pub Found : Meaning → (ℤ → Bool) → (ℤ → ℤ → Bool) → ℕ → Option ℤ → Type 0
Found M passes prefers n (Some v) = Preferred M passes prefers n v
Found M passes prefers n None = (c : ℕ) → c < n → Rejects M passes c

-- what holds of the codes below n and of n holds of those below n + 1
below_next : (P : ℕ → Type 0) (n : ℕ) → ((c : ℕ) → c < n → P c) → P n → (c : ℕ) → c < suc n → P c
below_next P n all here c h = ⊎_elim (λ e. subst P (sym e) here) (λ lt. all c lt) (eq-or-lt_of_le (le_of_suc-le-suc h))

module _ (M : Meaning) (passes : ℤ → Bool) (prefers : ℤ → ℤ → Bool) (order : Order prefers) (n : ℕ) where
  -- a code that is no number or does not pass changes nothing
  passed_over : (o : Option ℤ) → M.number n && passes (M.value n) ≡ false → Found M passes prefers n o → Found M passes prefers (suc n) o
  passed_over None e h = below_next (Rejects M passes) n h (λ y. sym (ap (λ b. b && passes (M.value n)) y) ∙ e)
  passed_over (Some v) e h = record {
    attained = h.attained;
    passed = h.passed;
    first = below_next (Yields M passes prefers v) n h.first (λ y p. grind arith);
  }

  -- a code that passes is kept, unless what was found is preferred
  taken : (o : Option ℤ) → M.number n ≡ true → passes (M.value n) ≡ true → Found M passes prefers n o → Found M passes prefers (suc n) (better prefers (M.value n) o)
  taken None y p h = record {
    attained = (n, y, refl);
    passed = p;
    first = below_next (Yields M passes prefers (M.value n)) n (λ c l z q. grind (arith, h c l z)) (λ _ _. order.self (M.value n));
  }
  taken (Some w) y p h = chosen (prefers w (M.value n)) refl
    where
      chosen : (b : Bool) → prefers w (M.value n) ≡ b → Found M passes prefers (suc n) (cond b (Some w) (Some (M.value n)))
      chosen true e = record {
        attained = h.attained;
        passed = h.passed;
        first = below_next (Yields M passes prefers w) n h.first (λ _ _. order.not_both w (M.value n) e);
      }
      chosen false e = record {
        attained = (n, y, refl);
        passed = p;
        first = below_next (Yields M passes prefers (M.value n)) n (λ c l z q. order.chain (M.value c) w (M.value n) (h.first c l z q) e) (λ _ _. order.self (M.value n));
      }

  -- one code more, by whether it passes
  one_more : (o : Option ℤ) → Found M passes prefers n o → Found M passes prefers (suc n) (cond (M.number n && passes (M.value n)) (better prefers (M.value n) o) o)
  one_more o h = tested (M.number n) (passes (M.value n)) refl refl
    where
      tested : (y p : Bool) → M.number n ≡ y → passes (M.value n) ≡ p → Found M passes prefers (suc n) (cond (y && p) (better prefers (M.value n) o) o)
      tested true true e f = taken o e f h
      tested true false e f = passed_over o (grind arith) h
      tested false p e f = passed_over o (grind arith) h

-- what the search over the codes below n finds, for any such order
pub best_found : (M : Meaning) (passes : ℤ → Bool) (prefers : ℤ → ℤ → Bool) → Order prefers → (n : ℕ) → Found M passes prefers n (best M passes prefers n)
unfolding best
best_found M passes prefers order zero = λ c h. absurd (not-suc-le-zero h)
best_found M passes prefers order (suc n) = one_more M passes prefers order n (best M passes prefers n) (best_found M passes prefers order n)
