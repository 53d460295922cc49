-- What one more digit makes of a number, and numbers within narrower bounds. Assumes nothing.
use Rattle.std.proofs.Common.{◌≡◌, ℕ, Bool, true, false, cond, refl, ◌+◌, ◌-◌, ◌*◌, ◌^◌, ◌<◌, ◌≤◌, eqb, ltb, leb, List, [], ◌∷◌, length, get_or, drop, Some, None, Option, sym, ap, ◌∙◌, subst, ⊎_elim, le-mul_of_pos_right, arith}
use Rattle.std.proofs.lemmas.List.{at_drop_more}
use Rattle.std.proofs.lemmas.Bool.{cond-true, cond-false, lt-ltb, le-ltb, lt-leb, ne_eqb, cases_lt}
use Rattle.std.proofs.lemmas.Bool.Decides.{nat_tests}
use Rattle.lines.specs.Numerals.{digit_value, written, up_to, numeral}

module _ (base most : ℕ) where
  -- what is left of a text, after bytes that wrote n, decides as the whole text does
  abbrev pub Left : ℕ → List ℕ → ℕ → Type 0
  Left n text i = up_to most (written base n (drop i text)) ≡ up_to most (written base 0 text)

  -- one more digit
  one_more : (n b : ℕ) (bs : List ℕ) → digit_value b < base → written base n (b ∷ bs) ≡ written base (n * base + digit_value b) bs
  one_more n b bs h = cond-true (ltb (digit_value b) base) _ None (lt-ltb (digit_value b) base h)

  -- a byte that is no digit
  no_digit : (n b : ℕ) (bs : List ℕ) → base ≤ digit_value b → written base n (b ∷ bs) ≡ None
  no_digit n b bs h = cond-false (ltb (digit_value b) base) _ None (le-ltb (digit_value b) base h)

  grown : (n d : ℕ) → d < base → n ≤ n * base + d
  grown n d h = omega (arith, le-mul_of_pos_right {m = base} n (omega arith))

  -- a number that is too large stays so
  too_large : (n : ℕ) (bs : List ℕ) → most < n → up_to most (written base n bs) ≡ None
  too_large n [] h = cond-false (leb n most) (Some n) None (lt-leb n most h)
  too_large n (b ∷ bs) h =
      ⊎_elim
      (λ (l : digit_value b < base). ap (up_to most) (one_more n b bs l) ∙ too_large (n * base + digit_value b) bs (omega (arith, grown n (digit_value b) l)))
      (λ g. ap (up_to most) (no_digit n b bs g))
      (cases_lt (digit_value b) base)

  -- so a digit that makes it too large makes the text no number
  pub ends_too_large : (n : ℕ) (text : List ℕ) (i : ℕ) → Left n text i → i < length text → (d m : ℕ) → d ≡ digit_value (get_or text i 0) → d < base → m ≡ n * base → most < m + d → None ≡ numeral base most text
  ends_too_large n text i left h d m is digit product large =
      let small : digit_value (get_or text i 0) < base = subst (λ v. v < base) is digit in
      let some : eqb (length text) 0 ≡ false = ne_eqb (length text) 0 (λ e. omega arith) in
      sym
      (cond-false (eqb (length text) 0) None _ some
      ∙ sym left
      ∙ at_drop_more (λ bs. up_to most (written base n bs)) text i 0 h
      ∙ ap (up_to most) (one_more n (get_or text i 0) (drop (i + 1) text) small)
      ∙ too_large _ (drop (i + 1) text) (omega (arith, product, is, large)))

-- what writes no number of 64 bits writes no smaller one, and what writes one writes a smaller one where it is no larger
pub narrow : (base most : ℕ) (text : List ℕ) → most ≤ 2 ^ 64 - 1 → numeral base most text ≡ up_to most (numeral base (2 ^ 64 - 1) text)
narrow base most text h = both (eqb (length text) 0) (written base 0 text)
  where
    kept : (o : Option ℕ) → up_to most o ≡ up_to most (up_to (2 ^ 64 - 1) o)
    kept (Some n) = grind (arith, nat_tests)
    kept None = refl

    both : (b : Bool) (o : Option ℕ) → cond b None (up_to most o) ≡ up_to most (cond b None (up_to (2 ^ 64 - 1) o))
    both true o = refl
    both false o = kept o
