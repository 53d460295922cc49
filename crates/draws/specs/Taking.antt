-- What taking a word answers. Assumes nothing.
use Rattle.std.specs.Prelude.{◌≡◌, ℕ, true, false, Ok, Err, Result}
use Rattle.draws.specs.declared.sources.SourceFault.{SourceFault}
use Rattle.draws.specs.Refusals.{source_refusal}
use Rattle.draws.specs.Streams.{Stream, rest}

-- fewer than m words are left: refusal 8, and the source is as before
abbrev pub TooFew : {S : Type 0} → (S → Stream) → ℕ → SourceFault → S → S → Type 0
TooFew coming m e before after = ((coming before).left m ≡ false) × (source_refusal e ≡ 8) × (after ≡ before)

-- The first of the words that are coming, and the others are left; refused where none is left.
-- `bits` reads the number of what came.
abbrev pub Takes : {S W : Type 0} → (S → Stream) → (W → ℕ) → S → S → Result W SourceFault → Type 0
Takes coming bits before after (Ok w) = ((coming before).left 1 ≡ true) × (bits w ≡ (coming before).word 0) × (coming after ≡ rest (coming before))
Takes coming bits before after (Err e) = TooFew coming 1 e before after
