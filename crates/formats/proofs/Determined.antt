-- The split of every exact result. Assumes nothing.
use Rattle.std.proofs.Common.{◌≡◌, ℕ, ◌^◌, true, false, ℤ, pos, ◌*ℤ◌, ◌≤ℤ◌, ◌<ℤ◌, Some, None, Option, sym, refl, subst, arith}
use lib.Signed.{lt_z, le_z}
use Rattle.std.proofs.lemmas.Int.{ints}
use Rattle.formats.specs.Meaning.{Meaning, Value, Lawful}
use Rattle.formats.specs.Exact.{Exact}
use Rattle.formats.specs.Neighbours.{AtMost, AtLeast, Under, Over}
use Rattle.formats.specs.Splits.{Splits, above, under, within}
use Rattle.formats.specs.Search.{highest_below, lowest_above, split_around, split_of}
use Rattle.formats.specs.Determined.{Determined}
use Rattle.formats.proofs.Bests.{Found, best_found, larger_order, smaller_order}
use Rattle.formats.proofs.Replies.{replies_alike}
use Rattle.formats.proofs.Uniqueness.{unique}
use Rattle.formats.proofs.Likeness.{splits_back}

-- what each answer to a test of order says
at_most_true : (a b : ℤ) → le_z a b ≡ true → a ≤ℤ b
at_most_true a b h = grind (arith, ints)

at_most_false : (a b : ℤ) → le_z a b ≡ false → b <ℤ a
at_most_false a b h = grind (arith, ints)

less_false : (a b : ℤ) → lt_z a b ≡ false → b ≤ℤ a
less_false a b h = grind (arith, ints)

-- and the answer that an order gives
at_most_passes : (a b : ℤ) → a ≤ℤ b → le_z a b ≡ true
at_most_passes a b h = grind (arith, ints)

-- what the two searches found
abbrev FoundBelow : Meaning → Exact → Option ℤ → Type 0
FoundBelow M x o = Found M (λ v. le_z (v *ℤ pos x.denominator) x.numerator) (λ w v. lt_z v w) (2 ^ 32) o

abbrev FoundAbove : Meaning → Exact → Option ℤ → Type 0
FoundAbove M x o = Found M (λ v. le_z x.numerator (v *ℤ pos x.denominator)) (λ w v. lt_z w v) (2 ^ 32) o

module _ (M : Meaning) (lawful : Lawful M) (x : Exact) where
  -- each number at most x is at most what the search below found, and each at least x is at least what the search above found
  highest : (lo : ℤ) → FoundBelow M x (Some lo) → (v : ℤ) → Value M v → AtMost v x → v ≤ℤ lo
  highest lo f v h l =
      let e = h.2 in
      subst (λ (z : ℤ). z ≤ℤ lo) e
      (less_false lo (M.value h.0) (f.first h.0 (lawful.words h.0 h.1) h.1
      (at_most_passes _ _ (subst (λ (z : ℤ). AtMost z x) (sym e) l))))

  lowest : (hi : ℤ) → FoundAbove M x (Some hi) → (v : ℤ) → Value M v → AtLeast v x → hi ≤ℤ v
  lowest hi f v h l =
      let e = h.2 in
      subst (λ (z : ℤ). hi ≤ℤ z) e
      (less_false (M.value h.0) hi (f.first h.0 (lawful.words h.0 h.1) h.1
      (at_most_passes _ _ (subst (λ (z : ℤ). AtLeast z x) (sym e) l))))

  -- where a search found nothing, every number is on the other side
  none_below : FoundBelow M x None → (v : ℤ) → Value M v → Over v x
  none_below f v h = subst (λ (z : ℤ). Over z x) h.2 (at_most_false _ _ (f h.0 (lawful.words h.0 h.1) h.1))

  none_above : FoundAbove M x None → (v : ℤ) → Value M v → Under v x
  none_above f v h = subst (λ (z : ℤ). Under z x) h.2 (at_most_false _ _ (f h.0 (lawful.words h.0 h.1) h.1))

  -- code 0 is on one side
  some_number : FoundBelow M x None → FoundAbove M x None → ⊥
  some_number f g =
      let zero : Value M (pos 0) = (0, lawful.zero_number, lawful.zero_value) in
      omega (arith, ints, none_below f (pos 0) zero, none_above g (pos 0) zero)

  -- what the searches found splits x
  around : (k : ℕ) (a b : Option ℤ) → FoundBelow M x a → FoundAbove M x b → Splits M k x (split_around M k x a b)
  around k (Some lo) (Some hi) f g = within lo hi (record {
    low = f.attained;
    high = g.attained;
    low_below = at_most_true _ _ f.passed;
    high_above = at_most_true _ _ g.passed;
    low_next = highest lo f;
    high_next = lowest hi g;
  }) refl
  around k (Some lo) None f g = above lo (record { attained = f.attained; most = λ w h. highest lo f w h (omega (arith, ints, none_above g w h)) }) (none_above g lo f.attained) refl
  around k None (Some hi) f g = under hi (record { attained = g.attained; least = λ w h. lowest hi g w h (omega (arith, ints, none_below f w h)) }) (none_below f hi g.attained) refl
  around k None None f g = absurd (some_number f g)

  -- every exact result has the split that the search finds
  pub has_split : (k : ℕ) → Splits M k x (split_of M k x)
  has_split k =
      around k (highest_below M x) (lowest_above M x) (best_found M _ _ larger_order (2 ^ 32)) (best_found M _ _ smaller_order (2 ^ 32))

-- exactly one split for each exact result and k, and the same one in formats that agree
pub determined : Determined
determined = record {
  one = λ M lawful k x. record { holds = has_split M lawful x k; only = λ s h. unique M k x s (split_of M k x) h (has_split M lawful x k) };
  alike = λ M N same k x some s t h l. unique M k x s t h (splits_back M N same k x some t l);
  answers_alike = replies_alike;
}
