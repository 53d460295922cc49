-- One term of the series after another. Assumes nothing.
use Rattle.std.proofs.Common.{◌≡◌, ℕ, suc, ◌+◌, ◌-◌, ◌*◌, ◌/◌, ◌^◌, ◌<◌, ◌≤◌, Bool, true, false, cond, ℤ, pos, ◌+ℤ◌, ◌≤ℤ◌, Ok, Err, Result, sym, refl, ap, ◌∙◌, subst, div-le_self, arith, w32, SFits, to_z, of_z}
use Rattle.std.proofs.lemmas.Int.{ints}
use Rattle.whole.specs.Division.{floor}
use Rattle.draws.specs.declared.sources.SourceFault.{SourceFault}
use Rattle.draws.specs.DrawBits.{draw}
use Rattle.draws.specs.Rules.{compares}
use Rattle.draws.specs.Streams.{Stream, Listed, rest}
use Rattle.draws.proofs.Skips.{skipped_left, skipped_word, fewer_left}
use Rattle.unit.specs.declared.modes.Mode.{Mode}
use Rattle.unit.specs.declared.modes.Mode.TheVariants.{Down, Nearest, Stochastic}
use Rattle.unit.specs.Rounding.{clamped, rounded, far_count, Leaves}
use Rattle.series.specs.Harmonic.{term, series, Sums, SumsSurely}

-- no term yet
pub series_none : (mode : Mode) (k : ℕ) (word : ℕ → ℕ) → series mode k word 0 ≡ pos 128
unfolding series
series_none mode k word = refl

-- one term more, which is the one of 2 + m
pub series_more : (mode : Mode) (k : ℕ) (word : ℕ → ℕ) (m : ℕ) → series mode k word (suc m) ≡ series mode k word m +ℤ term mode k word (2 + m)
unfolding series
series_more mode k word m = omega (arith, ints)

-- what a rounded term can be
abbrev Small : ℤ → Type 0
Small z = (pos 0 ≤ℤ z) × (z ≤ℤ pos 129)

-- the floor or one more
chosen_small : (a : ℕ) (up : Bool) → a ≤ 65536 → Small (clamped (cond up (floor (pos a) (2 ^ 9) +ℤ pos 1) (floor (pos a) (2 ^ 9))))
chosen_small a true h = (omega (arith, ints), omega (arith, ints))
chosen_small a false h = (omega (arith, ints), omega (arith, ints))

-- in every mode
term_small : (mode : Mode) (k a d : ℕ) → a ≤ 65536 → Small (rounded mode 9 k (pos a) d)
term_small Down k a d h = (omega (arith, ints), omega (arith, ints))
term_small Nearest k a d h = (omega (arith, ints), omega (arith, ints))
term_small Stochastic k a d h = chosen_small a (compares k (far_count 9 k (pos a)) d) h

-- The sum after the first m terms: what it is, that it fits, and what is left of the source.
pub record Summed {S : Type 0} (coming : S → Stream) (mode : Mode) (k m : ℕ) (before now : S) (sum : ℤ) : Type 0 where
  pub value : sum ≡ series mode k (coming before).word m
  pub low : pos 0 ≤ℤ sum
  pub high : sum ≤ℤ pos (128 + 129 * m)
  pub left : Leaves coming mode m before now

-- before the first term
pub summed_none : {S : Type 0} (coming : S → Stream) (mode : Mode) (k : ℕ) (s : S) → Listed (coming s) → Summed coming mode k 0 s s (pos 128)
summed_none coming mode k s l = record {
  value = sym (series_none mode k (coming s).word);
  low = omega (arith, ints);
  high = omega (arith, ints);
  left = none mode;
}
  where
    none : (mode : Mode) → Leaves coming mode 0 s s
    none Down = refl
    none Nearest = refl
    none Stochastic = (l.none, refl)

module _ {S : Type 0} (coming : S → Stream) (k m : ℕ) (before now : S) where
  -- the draw of the next word counts only where words are taken
  term_next : (mode : Mode) → Leaves coming mode m before now → rounded mode 9 k (pos (65536 / (2 + m))) (draw k ((coming now).word 0)) ≡ term mode k (coming before).word (2 + m)
  term_next Down e = refl
  term_next Nearest e = refl
  term_next Stochastic e =
      let place : m + 0 ≡ (2 + m) - 2 = omega arith in
      let word : (coming now).word 0 ≡ (coming before).word ((2 + m) - 2) = ap (λ (s : Stream). s.word 0) e.1 ∙ skipped_word m 0 (coming before) ∙ ap (coming before).word place in
      ap (λ (w : ℕ). rounded Stochastic 9 k (pos (65536 / (2 + m))) (draw k w)) word

  -- what m roundings and one more leave
  leaves_more : (mode : Mode) (after : S) → Leaves coming mode m before now → Leaves coming mode 1 now after → Leaves coming mode (suc m) before after
  leaves_more Down after e f = f ∙ e
  leaves_more Nearest after e f = f ∙ e
  leaves_more Stochastic after e f =
      let place : suc m ≡ m + 1 = omega arith in
      (ap (coming before).left place ∙ sym (skipped_left m 1 (coming before)) ∙ sym (ap (λ (s : Stream). s.left 1) e.1) ∙ f.0, f.1 ∙ ap rest e.1)

  -- one term more
  pub summed_more : (mode : Mode) (after : S) (sum v : ℤ) → Summed coming mode k m before now sum → v ≡ rounded mode 9 k (pos (65536 / (2 + m))) (draw k ((coming now).word 0)) → Leaves coming mode 1 now after → Summed coming mode k (suc m) before after (sum +ℤ v)
  summed_more mode after sum v so e f =
      let small = term_small mode k (65536 / (2 + m)) (draw k ((coming now).word 0)) (div-le_self 65536 (2 + m)) in
      let next : v ≡ term mode k (coming before).word (2 + m) = e ∙ term_next mode so.left in
      let low : pos 0 ≤ℤ v = rw e small.0 in
      let high : v ≤ℤ pos 129 = rw e small.1 in
      let more = series_more mode k (coming before).word m in
      record {
        value = cc;
        low = omega (arith, ints, so.low);
        high = omega (arith, ints, so.high);
        left = leaves_more mode after so.left f;
      }

  -- the same as the machine adds it; n counts the terms
  pub summed_added : (mode : Mode) (after : S) (n : ℕ) (sum v : ℤ) → m < 999 → n ≡ suc m → SFits w32 v → Summed coming mode k m before now sum → v ≡ rounded mode 9 k (pos (65536 / (2 + m))) (draw k ((coming now).word 0)) → Leaves coming mode 1 now after → Summed coming mode k n before after (to_z w32 (of_z w32 (sum +ℤ to_z w32 (of_z w32 v))))
  summed_added mode after n sum v lt count fits so e f =
      let more = summed_more mode after sum v so e f in
      let whole : sum +ℤ v ≡ to_z w32 (of_z w32 (sum +ℤ to_z w32 (of_z w32 v))) = omega (arith, ints, more.low, more.high, fits) in
      rw (count, ← whole) more

  -- where 999 words were left at first, one is left before each term
  pub word_left : Listed (coming before) → m < 999 → (coming before).left 999 ≡ true → Leaves coming Stochastic m before now → (coming now).left 1 ≡ true
  word_left l lt enough e =
      let place : (998 - m) + (m + 1) ≡ 999 = omega arith in
      ap (λ (s : Stream). s.left 1) e.1 ∙ skipped_left m 1 (coming before) ∙ fewer_left (coming before) l (998 - m) (m + 1) (ap (coming before).left place ∙ enough)

-- a sum that is never refused, under settings that are the ones asked for
pub sums_asked : {S : Type 0} (coming : S → Stream) {mode mode' : Mode} {k k' : ℕ} (before after : S) (r : Result ℤ SourceFault) → mode ≡ mode' → k ≡ k' → SumsSurely coming mode k before after r → Sums coming mode' k' before after r
sums_asked coming {mode} {mode'} {k} {k'} before after r same bits h =
    subst (λ (a : Mode). Sums coming a k' before after r) same (subst (λ (b : ℕ). Sums coming mode b before after r) bits (surely r h))
  where
    surely : (r : Result ℤ SourceFault) → SumsSurely coming mode k before after r → Sums coming mode k before after r
    surely (Ok v) h = h
    surely (Err e) h = absurd h
