-- What the unit answers for x, under each mode. Assumes nothing.
use Rattle.std.specs.Prelude.{◌≡◌, ℕ, ◌-◌, ◌*◌, ◌/◌, ◌^◌, min, true, cond, ℤ, pos, negsuc, ◌+ℤ◌, Ok, Err, Result}
use Rattle.whole.specs.Division.{floor, modulo}
use Rattle.draws.specs.declared.sources.SourceFault.{SourceFault}
use Rattle.draws.specs.DrawBits.{draw}
use Rattle.draws.specs.Rules.{compares}
use Rattle.draws.specs.Streams.{Stream, rest, skipped}
use Rattle.draws.specs.Taking.{TooFew}
use Rattle.unit.specs.declared.modes.Mode.{Mode}
use Rattle.unit.specs.declared.modes.Mode.TheVariants.{Down, Nearest, Stochastic}
use Rattle.unit.specs.declared.settings.Settings.{Settings}

-- the signed 32-bit number that is nearest to z: -2 ^ 31 is negsuc (2 ^ 31 - 1)
abbrev pub clamped : ℤ → ℤ
clamped (pos a) = pos (min a (2 ^ 31 - 1))
clamped (negsuc a) = negsuc (min a (2 ^ 31 - 1))

-- of the 2 ^ k draws, how many go to the whole number above x / 2 ^ n
abbrev pub far_count : ℕ → ℕ → ℤ → ℕ
far_count n k x = 2 ^ k * modulo x (2 ^ n) / 2 ^ n

-- x / 2 ^ n as a whole number, before it is clamped; only the stochastic mode looks at k and the draw
abbrev pub quotient : Mode → ℕ → ℕ → ℤ → ℕ → ℤ
quotient Down n k x d = floor x (2 ^ n)
quotient Nearest n k x d = floor (x +ℤ pos (2 ^ (n - 1))) (2 ^ n)
quotient Stochastic n k x d = cond (compares k (far_count n k x) d) (floor x (2 ^ n) +ℤ pos 1) (floor x (2 ^ n))

-- the quotient as a signed 32-bit number
abbrev pub rounded : Mode → ℕ → ℕ → ℤ → ℕ → ℤ
rounded mode n k x d = clamped (quotient mode n k x d)

-- the stochastic quotient by the draw of the next word, which is taken; where none is left, refusal 8, and the source is as before
abbrev pub DrawsQuotient : {S : Type 0} → (S → Stream) → ℕ → ℕ → ℤ → S → S → Result ℤ SourceFault → Type 0
DrawsQuotient coming n k x before after (Ok v) =
    ((coming before).left 1 ≡ true) × (v ≡ quotient Stochastic n k x (draw k ((coming before).word 0))) × (coming after ≡ rest (coming before))
DrawsQuotient coming n k x before after (Err e) = TooFew coming 1 e before after

-- what m roundings leave of the source: all of it, but for the stochastic mode, which takes a word for each
abbrev pub Leaves : {S : Type 0} → (S → Stream) → Mode → ℕ → S → S → Type 0
Leaves coming Down m before after = after ≡ before
Leaves coming Nearest m before after = after ≡ before
Leaves coming Stochastic m before after = ((coming before).left m ≡ true) × (coming after ≡ skipped m (coming before))

-- A rounding of x answers by the draw of the next word; the stochastic mode refuses by 8 where no word is left.
abbrev pub Rounds : {S : Type 0} → (S → Stream) → Settings → ℤ → S → S → Result ℤ SourceFault → Type 0
Rounds coming s x before after (Ok v) =
    (v ≡ rounded s.mode s.n s.k.bits x (draw s.k.bits ((coming before).word 0))) × Leaves coming s.mode 1 before after
Rounds coming s x before after (Err e) = (s.mode ≡ Stochastic) × TooFew coming 1 e before after
