-- What the laws of a format give of its splits. Assumes nothing.
use Rattle.std.proofs.Common.{◌≡◌, ℕ, ◌-◌, ◌*◌, ◌^◌, ◌<◌, ◌≤◌, Bool, true, false, cond, T, ℤ, pos, ◌+ℤ◌, ◌-ℤ◌, ◌*ℤ◌, nat_abs, ◌≤ℤ◌, sym, refl, ap, ◌∙◌, subst, ap₂, inl, inr, le_of_eq, le_of_lt, zero-mul, arith, pow_pos}
use Rattle.std.proofs.lemmas.Int.{ints}
use Rattle.std.proofs.lemmas.Bool.Decides.{nat_tests}
use Rattle.whole.proofs.Integers.{mul-≤}
use Rattle.formats.specs.declared.split.Split.{Split}
use Rattle.formats.specs.Meaning.{Meaning, Value, Lawful}
use Rattle.formats.specs.Exact.{Exact}
use Rattle.formats.specs.Neighbours.{Neighbours}
use Rattle.formats.specs.Splits.{Splits, above, under, within, near, far, count, distance, share, gap, cut}
use Rattle.formats.proofs.Shares.{Between, Counted, dropped, excess, share_below, share_counted}

-- what the laws give of a split, clamped or not
record Placed (M : Meaning) (k : ℕ) (x : Exact) (s : Split) : Type 0 where
  near_number : M.number (near s) ≡ true
  far_number : M.number (far s) ≡ true
  count_below : count s < 2 ^ k
  counted : s.clamped ≡ false → Counted M k x s

-- x at its upper neighbour is at its lower one
at_high : (M : Meaning) (x : Exact) (lo hi : ℤ) → Neighbours M x lo hi → distance x hi ≡ 0 → distance x lo ≡ 0
at_high M x lo hi n z =
    let order : (hi *ℤ pos x.denominator) ≤ℤ (lo *ℤ pos x.denominator) = mul-≤ x.denominator hi lo (n.low_next hi n.high (omega (arith, ints, z))) in
    omega (arith, ints, z, n.low_below)

-- and the other way round
at_low : (M : Meaning) (x : Exact) (lo hi : ℤ) → Neighbours M x lo hi → distance x lo ≡ 0 → distance x hi ≡ 0
at_low M x lo hi n z =
    let order : (hi *ℤ pos x.denominator) ≤ℤ (lo *ℤ pos x.denominator) = mul-≤ x.denominator hi lo (n.high_next lo n.low (omega (arith, ints, z))) in
    omega (arith, ints, z, n.high_above)

module _ (M : Meaning) (lawful : Lawful M) (k : ℕ) (x : Exact) where
  -- the split at an end
  clamped_placed : (v : ℤ) → Value M v → Placed M k x (record { parts = (M.result v, M.result v, 0); clamped = true })
  clamped_placed v h = record {
    near_number = lawful.result_number v h;
    far_number = lawful.result_number v h;
    count_below = pow_pos k;
    counted = λ e. absurd (subst T e tt);
  }

  -- the split with v near and w far
  within_placed : (v w : ℤ) (g : ℕ) → Value M v → Value M w → Between x v w → (distance x w ≡ 0 → distance x v ≡ 0) → g ≡ nat_abs (w -ℤ v) →
      Placed M k x (record { parts = (M.result v, M.result w, share k x v g); clamped = false })
  within_placed v w g i j between meets e =
      let s : Split = record { parts = (M.result v, M.result w, share k x v g); clamped = false } in
      let near_is : v ≡ M.value (M.result v) = sym (lawful.result_value v i) in
      let far_is : w ≡ M.value (M.result w) = sym (lawful.result_value w j) in
      let share_is : count s ≡ share k x (M.value (near s)) (gap M s) = ap (share k x v) e ∙ ap₂ (λ (a b : ℤ). share k x a (nat_abs (b -ℤ a))) near_is far_is in
      let sides : Between x (M.value (near s)) (M.value (far s)) = subst (λ (a : ℤ). Between x a (M.value (far s))) near_is (subst (λ (b : ℤ). Between x v b) far_is between) in
      let at : distance x (M.value (far s)) ≡ 0 → distance x (M.value (near s)) ≡ 0 = λ z. sym (ap (distance x) near_is) ∙ meets (ap (distance x) far_is ∙ z) in
      record {
        near_number = lawful.result_number v i;
        far_number = lawful.result_number w j;
        count_below = share_below M k x s share_is sides at;
        counted = λ _. share_counted M k x s share_is sides at;
      }

  -- by which neighbour is near
  side_placed : (lo hi : ℤ) → Neighbours M x lo hi → (low : Bool) →
      Placed M k x (record { parts = (M.result (cond low lo hi), M.result (cond low hi lo), share k x (cond low lo hi) (nat_abs (hi -ℤ lo))); clamped = false })
  side_placed lo hi n true = within_placed lo hi (nat_abs (hi -ℤ lo)) n.low n.high (inl (n.low_below, n.high_above)) (at_high M x lo hi n) refl
  side_placed lo hi n false = within_placed hi lo (nat_abs (hi -ℤ lo)) n.high n.low (inr (n.high_above, n.low_below)) (at_low M x lo hi n) (omega (arith, ints))

  module _ (s : Split) where
    -- so every split is placed
    placed : Splits M k x s → Placed M k x s
    placed (above v g h e) = subst (Placed M k x) (sym e) (clamped_placed v g.attained)
    placed (under v g h e) = subst (Placed M k x) (sym e) (clamped_placed v g.attained)
    placed (within lo hi n e) = subst (Placed M k x) (sym e) (side_placed lo hi n (M.low_is_near lo hi))

    -- near and far are numbers
    pub near_number : Splits M k x s → M.number (near s) ≡ true
    near_number h = (placed h).near_number

    pub far_number : Splits M k x s → M.number (far s) ≡ true
    far_number h = (placed h).far_number

    -- the count is one that a rule can be asked with
    pub count_below : Splits M k x s → count s < 2 ^ k
    count_below h = (placed h).count_below

    -- where x is not clamped, it lies between near and far as the count says
    pub counted : Splits M k x s → s.clamped ≡ false → Counted M k x s
    counted h = (placed h).counted

-- where the rounding is cut, the count drops something less than the gap
pub cut_drops : (M : Meaning) (k : ℕ) (x : Exact) (s : Split) → Counted M k x s → cut M k x s ≡ true → dropped M k x s < gap M s * x.denominator
cut_drops M k x s c h = c.dropped_below (grind (arith, nat_tests))

-- and where it is not, nothing
pub uncut_drops : (M : Meaning) (k : ℕ) (x : Exact) (s : Split) → s.clamped ≡ false → cut M k x s ≡ false → dropped M k x s ≡ 0
uncut_drops M k x s h e = grind (arith, nat_tests)

-- so the draws together miss x by at most the gap, and only where the rounding is cut
pub balance_close : (M : Meaning) (k : ℕ) (x : Exact) (s : Split) → Counted M k x s → s.clamped ≡ false →
    nat_abs (pos (count s) *ℤ excess x (M.value (far s)) +ℤ pos (2 ^ k - count s) *ℤ excess x (M.value (near s))) ≤ cond (cut M k x s) (gap M s) 0 * x.denominator
balance_close M k x s c unclamped = subst (λ (m : ℕ). m ≤ cond (cut M k x s) (gap M s) 0 * x.denominator) (sym c.balance) (by_test (cut M k x s) refl)
  where
    by_test : (b : Bool) → cut M k x s ≡ b → dropped M k x s ≤ cond b (gap M s) 0 * x.denominator
    by_test true e = le_of_lt (cut_drops M k x s c e)
    by_test false e = le_of_eq (uncut_drops M k x s unclamped e ∙ sym (zero-mul x.denominator))
