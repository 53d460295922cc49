-- What an operation answers. Assumes nothing.
use Rattle.std.specs.Prelude.{◌≡◌, ℕ, true, cond, Some, None, Ok, Err, Result}
use Rattle.draws.specs.declared.sources.SourceFault.{SourceFault}
use Rattle.draws.specs.DrawBits.{draw}
use Rattle.draws.specs.Rules.{Says}
use Rattle.draws.specs.Streams.{Stream, rest}
use Rattle.draws.specs.Taking.{TooFew}
use Rattle.formats.specs.declared.faults.FormatFault.{FormatFault}
use Rattle.formats.specs.declared.split.Calculation.{Calculation}
use Rattle.formats.specs.declared.split.Split.{Split}
use Rattle.formats.specs.Refusals.{format_refusal}
use Rattle.formats.specs.Meaning.{Meaning}
use Rattle.formats.specs.Exact.{Exact, exact}
use Rattle.formats.specs.Splits.{near, far, count}
use Rattle.formats.specs.Search.{split_of}
use Rattle.formats.specs.Questions.{refusal}
use Rattle.operations.specs.declared.faults.OperationFault.{OperationFault}
use Rattle.operations.specs.declared.faults.OperationFault.TheVariants.{Format, Source}
use Rattle.operations.specs.declared.rounding.Rounded.{Rounded}

-- a split rounded by a draw: to its far code where the rule says far, else to its near code
abbrev pub chosen : Says → ℕ → Split → ℕ → Rounded
chosen says k s t = record { code = cond (says k (count s) t) (far s) (near s); clamped = s.clamped }

-- A split rounded by the draw of the next word; refused by 8 where no word is left, and the source is then as before.
abbrev pub Rounds : {S : Type 0} → (S → Stream) → Says → ℕ → Split → S → S → Result Rounded SourceFault → Type 0
Rounds coming says k s before after (Ok r) =
    ((coming before).left 1 ≡ true) × (r ≡ chosen says k s (draw k ((coming before).word 0))) × (coming after ≡ rest (coming before))
Rounds coming says k s before after (Err e) = TooFew coming 1 e before after

-- the split of the exact result of an operation, or its refusal
abbrev pub SplitsOnce : Meaning → Calculation → ℕ → Result Split FormatFault → Type 0
SplitsOnce M asked k (Ok s) = (refusal M asked k ≡ None) × (s ≡ split_of M k (exact M asked))
SplitsOnce M asked k (Err e) = refusal M asked k ≡ Some (format_refusal e)

-- an exact result rounded by a draw of k bits
abbrev pub rounded : Says → Meaning → ℕ → Exact → ℕ → Rounded
rounded says M k x t = chosen says k (split_of M k x) t

-- The exact result, rounded by the draw of the next word. Refused by a bad k, a code that is no number, a divisor of value 0, or by 8 where no
-- word is left; the source is then as before.
abbrev pub Performs : {S : Type 0} → (S → Stream) → Says → Meaning → Calculation → ℕ → S → S → Result Rounded OperationFault → Type 0
Performs coming says M asked k before after (Ok r) =
    (refusal M asked k ≡ None) × ((coming before).left 1 ≡ true)
    × (r ≡ rounded says M k (exact M asked) (draw k ((coming before).word 0))) × (coming after ≡ rest (coming before))
Performs coming says M asked k before after (Err (Format e)) = (refusal M asked k ≡ Some (format_refusal e)) × (after ≡ before)
Performs coming says M asked k before after (Err (Source e)) = (refusal M asked k ≡ None) × TooFew coming 1 e before after
