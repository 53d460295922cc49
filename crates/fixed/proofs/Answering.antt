-- What fixed point answers as a format, by the values of its numbers. Assumes nothing.
use Rattle.std.proofs.Common.{◌≡◌, ℕ, ◌+◌, ◌^◌, ◌<◌, ◌≤◌, true, false, ℤ, pos, negsuc, ◌+ℤ◌, ◌-ℤ◌, ◌≤ℤ◌, inl, inr, Some, None, Ok, Option, sym, ap, ap₂, ◌∙◌, subst, arith, rules}
use Rattle.std.specs.Prelude.{MatchOption, IsSomeAnd}
use Rattle.std.proofs.lemmas.Int.{ints}
use Rattle.draws.specs.DrawBits.{bits_in_range}
use Rattle.formats.specs.declared.split.Calculation.{Calculation}
use Rattle.formats.specs.declared.split.Split.{Split}
use Rattle.formats.specs.Exact.{Exact, exact, of_values}
use Rattle.formats.specs.Neighbours.{Greatest, Least}
use Rattle.formats.specs.Questions.{AnswersAbove, AnswersBelow, AnswersSplit, divides_by_zero}
use Rattle.formats.specs.Splits.{Splits}
use Rattle.fixed.specs.declared.number.Number.{Number}
use Rattle.fixed.specs.declared.sizes.Fixed.{Fixed}
use Rattle.fixed.specs.Numbers.{At}
use Rattle.fixed.specs.Sized.{format_of, InsideOf, Beyond, Reaches}
use Rattle.fixed.specs.Stated.{IsGreatest, IsLeast}
use Rattle.fixed.specs.Ranges.{some_codes, most_codes, value_inside, greatest, least, next_above, next_below, fixed_code_value}

-- the code of the number of a value
pub reaches : (f : Fixed) (v : ℤ) (a : Option Number) → At f v a → (r : Option ℕ) →
    MatchOption a (r ≡ None) (λ n. IsSomeAnd r (λ d. d ≡ (format_of n.format).result n.value)) → Reaches f v r
reaches f v (Some n) h (Some d) e =
    (subst (InsideOf f) h.1 (subst (λ (g : Fixed). InsideOf g n.value) h.0 n.inside), e ∙ ap₂ (λ (g : Fixed) (w : ℤ). (format_of g).result w) h.0 h.1)
reaches f v (Some n) h None e = elim e [ ]
reaches f v None h r e = subst (Reaches f v) (sym e) h

-- the same of equal formats and values
pub same_reach : {f g : Fixed} {v w : ℤ} (u : ℤ) (r : Option ℕ) → f ≡ g → v ≡ w → Reaches f (v +ℤ u) r → Reaches g (w +ℤ u) r
same_reach {g = g} {v = v} u r e e' h = subst (λ (z : ℤ). Reaches g (z +ℤ u) r) e' (subst (λ (k : Fixed). Reaches k (v +ℤ u) r) e h)

module _ (f : Fixed) where
  abbrev pub H : ℕ
  H = 2 ^ (f.integer + f.fraction)

  abbrev pub C : ℕ
  C = 2 ^ (f.sign + f.integer + f.fraction)

  some : 0 < H
  some = some_codes f.integer f.fraction

  most : H ≤ C
  most = most_codes f.sign f.integer f.fraction

  -- what is beyond an end one unit above a number is above the greatest
  pub past_greatest : (v : ℤ) → InsideOf f v → Beyond f (v +ℤ pos 1) → pos H ≤ℤ (v +ℤ pos 1)
  past_greatest v h (inl e) = omega (arith, ints, e)
  past_greatest v h (inr e) = absurd (omega (arith, ints, e, h.low))

  -- one unit up is the next number above
  pub answers_above : (c : ℕ) → (format_of f).number c ≡ true → (r : Option ℕ) → Reaches f ((format_of f).value c +ℤ pos 1) r → AnswersAbove (format_of f) c (Ok r)
  answers_above c t (Some d) h = (t, (format_of f).value c +ℤ pos 1, next_above C H f.fraction some most ((format_of f).value c) h.0, h.1)
  answers_above c t None h =
      let v : ℤ = (format_of f).value c in
      let inside : InsideOf f v = value_inside C H f.fraction some most c t in
      (t, greatest C H f.fraction some most v inside (past_greatest v inside h))

  -- one unit down is the next number below
  pub answers_below : (c : ℕ) → (format_of f).number c ≡ true → (r : Option ℕ) → Reaches f ((format_of f).value c +ℤ negsuc 0) r → AnswersBelow (format_of f) c (Ok r)
  answers_below c t (Some d) h =
      let down : (format_of f).value c +ℤ negsuc 0 ≡ (format_of f).value c -ℤ pos 1 = omega (arith, ints) in
      (t, (format_of f).value c -ℤ pos 1, next_below C H f.fraction some most ((format_of f).value c) (subst (InsideOf f) down h.0), h.1 ∙ ap (format_of f).result down)
  answers_below c t None h = (t, least C H f.fraction some most ((format_of f).value c) (value_inside C H f.fraction some most c t) (end h))
    where
      end : Beyond f ((format_of f).value c +ℤ negsuc 0) → (format_of f).value c ≤ℤ (pos H -ℤ pos C)
      end (inl e) = absurd (omega (arith, ints, e, (value_inside C H f.fraction some most c t).high))
      end (inr e) = omega (arith, ints, e)

  -- the ends
  pub greatest_inside : InsideOf f (pos H -ℤ pos 1)
  greatest_inside = record { low = omega (arith, ints, some, most); high = omega (arith, ints) }

  pub least_inside : InsideOf f (pos H -ℤ pos C)
  least_inside = record { low = omega (arith, ints); high = omega (arith, ints, some, most) }

  pub is_greatest : (c : ℕ) → c ≡ (format_of f).result (pos H -ℤ pos 1) → IsGreatest (format_of f) c
  is_greatest c e =
      let v : ℤ = pos H -ℤ pos 1 in
      let value : (format_of f).value c ≡ v = fixed_code_value f.sign f.integer f.fraction v greatest_inside c e in
      (subst (Greatest (format_of f)) (sym value) (greatest C H f.fraction some most v greatest_inside (omega (arith, ints))), e ∙ ap (format_of f).result (sym value))

  pub is_least : (c : ℕ) → c ≡ (format_of f).result (pos H -ℤ pos C) → IsLeast (format_of f) c
  is_least c e =
      let v : ℤ = pos H -ℤ pos C in
      let value : (format_of f).value c ≡ v = fixed_code_value f.sign f.integer f.fraction v least_inside c e in
      (subst (Least (format_of f)) (sym value) (least C H f.fraction some most v least_inside (omega (arith, ints))), e ∙ ap (format_of f).result (sym value))

-- the split of the exact result answers the question, where nothing is refused
pub answers_split : (f : Fixed) (asked : Calculation) (k bits : ℕ) (v w : ℤ) (x : Exact) (s : Split) →
    bits_in_range k ≡ true → bits ≡ k → (format_of f).number asked.left ≡ true → v ≡ (format_of f).value asked.left → (format_of f).number asked.right ≡ true → w ≡ (format_of f).value asked.right →
    divides_by_zero asked.operation w ≡ false → x ≡ of_values f.fraction asked.operation v w →
    Splits (format_of f) bits x s → AnswersSplit (format_of f) asked k (Ok s)
answers_split f asked k bits v w x s range same t left_value t' right_value some is splits =
    (search rules, subst (λ (y : Exact). Splits (format_of f) k y s) exactly (subst (λ (j : ℕ). Splits (format_of f) j x s) same splits))
  where
    exactly : x ≡ exact (format_of f) asked
    exactly =
        is
        ∙ ap₂ (of_values f.fraction asked.operation) left_value right_value
