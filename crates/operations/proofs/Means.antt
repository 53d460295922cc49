-- Over all draws, the results add up to the exact result. Assumes nothing.
use Rattle.std.proofs.Common.{◌≡◌, ℕ, ◌-◌, ◌*◌, ◌^◌, ◌<◌, Bool, true, false, cond, ℤ, pos, ◌+ℤ◌, ◌-ℤ◌, ◌*ℤ◌, nat_abs, Ok, Err, Result, sym, refl, ap, ◌∙◌, subst, ap₂, arith}
use Rattle.std.proofs.lemmas.Int.{ints}
use Rattle.whole.specs.Sums.{sum_ℤ, below}
use Rattle.whole.proofs.Integers.{expand}
use Rattle.whole.proofs.Sums.{sum_ℤ_same, sum_ℤ_chosen, length-below}
use Rattle.draws.specs.Rules.{Says, far_draws}
use Rattle.formats.specs.declared.faults.FormatFault.{FormatFault}
use Rattle.formats.specs.declared.split.Calculation.{Calculation}
use Rattle.formats.specs.declared.split.Split.{Split}
use Rattle.formats.specs.Meaning.{Meaning, Lawful}
use Rattle.formats.specs.Exact.{Exact, exact}
use Rattle.formats.specs.Splits.{Splits, near, far, count, gap, cut}
use Rattle.formats.specs.Search.{split_of}
use Rattle.formats.specs.Questions.{AnswersSplit}
use Rattle.formats.proofs.Shares.{Counted, dropped}
use Rattle.formats.proofs.Counts.{count_below, counted, cut_drops, uncut_drops}
use Rattle.formats.proofs.Determined.{has_split, determined}
use Rattle.formats.proofs.Exacts.{is_result, denominator_positive}
use Rattle.formats.proofs.Fractions.{same_split}
use Rattle.operations.specs.Rounding.{chosen, SplitsOnce}
use Rattle.operations.specs.Laws.{OperationLaws, MeanExact}

-- the values of what a split is rounded to, summed over all draws
abbrev pub split_sum : Says → Meaning → ℕ → Split → ℤ
split_sum says M k s = sum_ℤ (λ t. M.value (chosen says k s t).code) (below (2 ^ k))

-- the value of near each time, and the gap more for each draw that says far
sum_counted : (says : Says) (M : Meaning) (k : ℕ) (s : Split) → far_draws says k (count s) ≡ count s →
    split_sum says M k s ≡ pos (2 ^ k) *ℤ M.value (near s) +ℤ pos (count s) *ℤ (M.value (far s) -ℤ M.value (near s))
sum_counted says M k s fair =
    let v : ℤ = M.value (near s) in
    let w : ℤ = M.value (far s) in
    sum_ℤ_same (λ t. M.value (chosen says k s t).code) (λ t. cond (says k (count s) t) w v) (λ t. either (says k (count s) t)) (below (2 ^ k))
    ∙ sum_ℤ_chosen (says k (count s)) w v (below (2 ^ k))
    ∙ ap₂ (λ (m c : ℕ). pos m *ℤ v +ℤ pos c *ℤ (w -ℤ v)) (length-below (2 ^ k)) fair
  where
    either : (b : Bool) → M.value (cond b (far s) (near s)) ≡ cond b (M.value (far s)) (M.value (near s))
    either true = refl
    either false = refl

-- what such a sum misses x by, in the excesses of R far and r near
missed : (R r d n v w : ℤ) → ((R +ℤ r) *ℤ v +ℤ R *ℤ (w -ℤ v)) *ℤ d -ℤ (R +ℤ r) *ℤ n ≡ R *ℤ (w *ℤ d -ℤ n) +ℤ r *ℤ (v *ℤ d -ℤ n)
missed R r d n v w = simp expand (omega (arith, ints))

-- numbers that are 0 apart are equal
no_distance : (a b : ℤ) → nat_abs (a -ℤ b) ≡ 0 → a ≡ b
no_distance a b h = omega (arith, ints)

module _ (says : Says) (M : Meaning) (k : ℕ) (x : Exact) (s : Split) (fair : far_draws says k (count s) ≡ count s) (few : count s < 2 ^ k) (c : Counted M k x s) where
  -- so the sum misses 2 ^ k times x by what the count drops
  pub sum_misses : nat_abs (split_sum says M k s *ℤ pos x.denominator -ℤ pos (2 ^ k) *ℤ x.numerator) ≡ dropped M k x s
  sum_misses =
      let d : ℤ = pos x.denominator in
      let v : ℤ = M.value (near s) in
      let w : ℤ = M.value (far s) in
      let parts : pos (2 ^ k) ≡ pos (count s) +ℤ pos (2 ^ k - count s) = ap pos (omega (arith, few)) in
      ap (λ (z : ℤ). nat_abs (z *ℤ d -ℤ pos (2 ^ k) *ℤ x.numerator)) (sum_counted says M k s fair)
      ∙ ap (λ (m : ℤ). nat_abs ((m *ℤ v +ℤ pos (count s) *ℤ (w -ℤ v)) *ℤ d -ℤ m *ℤ x.numerator)) parts
      ∙ ap nat_abs (missed (pos (count s)) (pos (2 ^ k - count s)) d x.numerator v w)
      ∙ c.balance

  -- by nothing where the rounding is not cut
  pub split_exactly : s.clamped ≡ false → cut M k x s ≡ false → split_sum says M k s *ℤ pos x.denominator ≡ pos (2 ^ k) *ℤ x.numerator
  split_exactly unclamped e = no_distance _ _ (sum_misses ∙ uncut_drops M k x s unclamped e)

  -- and by less than the gap where it is
  pub split_nearly : cut M k x s ≡ true → nat_abs (split_sum says M k s *ℤ pos x.denominator -ℤ pos (2 ^ k) *ℤ x.numerator) < gap M s * x.denominator
  split_nearly e = subst (λ (m : ℕ). m < gap M s * x.denominator) (sym sum_misses) (cut_drops M k x s c e)

-- the law, of the split that an operation rounds
pub mean_exact : MeanExact
mean_exact M lawful says fair k least most x unclamped =
    let s : Split = split_of M k x in
    let splits : Splits M k x s = has_split M lawful x k in
    let few : count s < 2 ^ k = count_below M lawful k x s splits in
    let many : far_draws says k (count s) ≡ count s = fair k (count s) least most few in
    let c : Counted M k x s = counted M lawful k x s splits unclamped in
    record {
      as_many = many;
      exactly = split_exactly says M k x s many few c unclamped;
      nearly = split_nearly says M k x s many few c;
    }

-- what holds of every operation
pub operation_laws : OperationLaws
operation_laws = record {
  exact = is_result;
  fraction = denominator_positive;
  splits = determined;
  same = λ M lawful k x y some some' cross. same_split M k x y some some' cross lawful;
  mean = mean_exact;
}

-- the split that a format gives is the only one
pub splits_once : (M : Meaning) → Lawful M → (asked : Calculation) (k : ℕ) (r : Result Split FormatFault) → AnswersSplit M asked k r → SplitsOnce M asked k r
splits_once M lawful asked k (Ok s) h = (h.0, (determined.one M lawful k (exact M asked)).only s h.1)
splits_once M lawful asked k (Err e) h = h
