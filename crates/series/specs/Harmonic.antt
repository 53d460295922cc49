-- The harmonic series in s8.7: signed numbers of 16 bits, 7 of them fraction. Assumes nothing.
use Rattle.std.specs.Prelude.{◌≡◌, ℕ, ◌-◌, ◌/◌, true, false, ℤ, pos, ◌+ℤ◌, Ok, Err, Result}
use Rattle.whole.specs.Sums.{sum_ℤ, span}
use Rattle.draws.specs.declared.sources.SourceFault.{SourceFault}
use Rattle.draws.specs.DrawBits.{draw}
use Rattle.draws.specs.Refusals.{source_refusal}
use Rattle.draws.specs.Streams.{Stream}
use Rattle.draws.specs.Taking.{TooFew}
use Rattle.unit.specs.declared.modes.Mode.{Mode}
use Rattle.unit.specs.declared.modes.Mode.TheVariants.{Down, Nearest, Stochastic}
use Rattle.unit.specs.Rounding.{rounded, Leaves}

-- 1 / i as a code with 7 fractional bits, rounded from 16
abbrev pub term : Mode → ℕ → (ℕ → ℕ) → ℕ → ℤ
term mode k word i = rounded mode 9 k (pos (65536 / i)) (draw k (word (i - 2)))

-- 128, which is 1, and the rounded terms of the n numbers from 2 on; `word` gives the words that the stochastic mode takes
unfoldable pub series : Mode → ℕ → (ℕ → ℕ) → ℕ → ℤ
series mode k word n = pos 128 +ℤ sum_ℤ (term mode k word) (span 2 n)

-- the code of 1 + 1 / 2 + .. + 1 / 1000
abbrev pub harmonic : Mode → ℕ → (ℕ → ℕ) → ℤ
harmonic mode k word = series mode k word 999

-- whether there are words for the 999 terms
abbrev pub Enough : {S : Type 0} → (S → Stream) → Mode → S → Result (Unit {0}) SourceFault → Type 0
Enough coming mode source (Ok _) = mode ≡ Stochastic → (coming source).left 999 ≡ true
Enough coming mode source (Err e) = (mode ≡ Stochastic) × ((coming source).left 999 ≡ false) × (source_refusal e ≡ 8)

-- v is the sum of the series, and 999 words are gone where the mode takes words
abbrev pub SummedTo : {S : Type 0} → (S → Stream) → Mode → ℕ → S → S → ℤ → Type 0
SummedTo coming mode k before after v = (v ≡ harmonic mode k (coming before).word) × Leaves coming mode 999 before after

-- the sum, with no refusal
abbrev pub SumsSurely : {S : Type 0} → (S → Stream) → Mode → ℕ → S → S → Result ℤ SourceFault → Type 0
SumsSurely coming mode k before after (Ok v) = SummedTo coming mode k before after v
SumsSurely coming mode k before after (Err e) = ⊥

-- The sum of the series; in the stochastic mode refusal 8 where fewer than 999 words are left, and the source is as before.
abbrev pub Sums : {S : Type 0} → (S → Stream) → Mode → ℕ → S → S → Result ℤ SourceFault → Type 0
Sums coming mode k before after (Ok v) = SummedTo coming mode k before after v
Sums coming mode k before after (Err e) = (mode ≡ Stochastic) × TooFew coming 999 e before after

-- Rounded down the series ends at 645, which is 5.0390625, and rounded to nearest at 821, which is 6.4140625.
abbrev pub Values : Type 0
Values = (k : ℕ) (word : ℕ → ℕ) → (harmonic Down k word ≡ pos 645) × (harmonic Nearest k word ≡ pos 821)
