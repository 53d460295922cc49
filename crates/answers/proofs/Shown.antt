-- What an operation and a split answer, as it stands in a line. Assumes nothing.
use Rattle.std.proofs.Common.{◌≡◌, ℕ, Bool, cond, List, [], ◌∷◌, ℤ, Some, None, Ok, Err, Option, Result, sym, ap, ◌∙◌, subst, ap₂, inr}
use Rattle.std.specs.Option.{MatchOption}
use Rattle.std.specs.Result.{IsErrAnd}
use Rattle.draws.specs.DrawBits.{draw}
use Rattle.draws.specs.Rules.{Says}
use Rattle.draws.specs.Refusals.{source_refusal}
use Rattle.draws.specs.Sequences.{listed}
use Rattle.draws.specs.Streams.{Stream}
use Rattle.draws.specs.declared.sources.SourceFault.{SourceFault}
use Rattle.formats.specs.declared.split.Calculation.{Calculation}
use Rattle.formats.specs.declared.split.Split.{Split}
use Rattle.formats.specs.Meaning.{Meaning, Lawful}
use Rattle.formats.specs.Exact.{exact}
use Rattle.formats.specs.Splits.{Splits}
use Rattle.formats.specs.Search.{split_of}
use Rattle.formats.specs.Questions.{refusal}
use Rattle.formats.proofs.Determined.{determined}
use Rattle.fixed.specs.declared.sizes.Fixed.{Fixed}
use Rattle.fixed.specs.Fixed.{fixed}
use Rattle.operations.specs.declared.faults.OperationFault.{OperationFault}
use Rattle.operations.specs.declared.faults.OperationFault.TheVariants.{Format, Source}
use Rattle.operations.specs.declared.rounding.Rounded.{Rounded}
use Rattle.operations.specs.Refusals.{operation_refusal}
use Rattle.operations.specs.Rounding.{rounded, Performs}
use Rattle.unit.specs.declared.faults.SettingsFault.{SettingsFault}
use Rattle.unit.specs.declared.modes.Mode.{Mode}
use Rattle.unit.specs.declared.modes.Mode.TheVariants.{Down, Nearest, Stochastic}
use Rattle.unit.specs.declared.settings.Settings.{Settings}
use Rattle.unit.specs.Modes.{mode_number}
use Rattle.unit.specs.Refusals.{settings_fault}
use Rattle.unit.specs.Rounding as Unit
use Rattle.lines.specs.declared.answer.Answer.{Answer}
use Rattle.lines.specs.declared.answer.Answer.TheVariants as A
use Rattle.lines.specs.declared.format_names.FormatName.{FormatName}
use Rattle.lines.specs.declared.format_names.FormatName.TheVariants as Name
use Rattle.answers.specs.declared.refused.Refused.{Refused}
use Rattle.answers.specs.Answers.{told, source_of, unless_refused, from_word, operation_answer, split_answer, unit_answer, settings_answer, InFormat, Names}

-- a split of the exact result is answered
pub split_shown : (M : Meaning) → Lawful M → (asked : Calculation) (k : ℕ) (s : Split) → refusal M asked k ≡ None → Splits M k (exact M asked) s →
    A.Split s ≡ split_answer M asked k
split_shown M lawful asked k s none h =
    ap A.Split ((determined.one M lawful k (exact M asked)).only s h)
    ∙ ap (λ (o : Option ℕ). unless_refused o (A.Split (split_of M k (exact M asked)))) (sym none)

-- a refusal that is told
pub refusal_told : (r : Result Answer Refused) (n : ℕ) → IsErrAnd r (λ refused. refused.number ≡ n) → told r ≡ A.Refused n
refusal_told (Err refused) n e = ap A.Refused e
refusal_told (Ok _) n e = elim e [ ]

-- the list that an optional word lends is that word, or empty
pub word_lent : (word : Option ℕ) (lent : List ℕ) → MatchOption word (lent ≡ []) (λ w. lent ≡ w ∷ []) → listed lent 0 ≡ source_of word
word_lent (Some w) lent e = ap (λ (words : List ℕ). listed words 0) e
word_lent None lent e = ap (λ (words : List ℕ). listed words 0) e

-- an operation or a fault, as it stands in a line
abbrev pub shown_result : Result Rounded OperationFault → Answer
shown_result (Ok r) = A.Rounded r
shown_result (Err e) = A.Refused (operation_refusal e)

-- an operation that took its word from such a source
pub operation_shown : {S : Type 0} (coming : S → Stream) (says : Says) (M : Meaning) (asked : Calculation) (k : ℕ) (word : Option ℕ) →
    (before later : S) (r : Result Rounded OperationFault) → coming before ≡ source_of word → Performs coming says M asked k before later r →
    shown_result r ≡ operation_answer says M asked k word
operation_shown coming says M asked k word before later r given h =
    from r h ∙ ap (λ (s : Stream). unless_refused (refusal M asked k) (from_word s (λ w. A.Rounded (rounded says M k (exact M asked) (draw k w))))) given
  where
    by : Option ℕ → Bool → Answer
    by o b = unless_refused o (cond b (A.Rounded (rounded says M k (exact M asked) (draw k ((coming before).word 0)))) (A.Refused 8))

    from : (t : Result Rounded OperationFault) → Performs coming says M asked k before later t → shown_result t ≡ by (refusal M asked k) ((coming before).left 1)
    from (Ok t) p = ap A.Rounded p.2 ∙ sym (ap₂ by p.0 p.1)
    from (Err (Format e)) p = sym (ap (λ (o : Option ℕ). by o ((coming before).left 1)) p.0)
    from (Err (Source e)) p = ap A.Refused p.1.1 ∙ sym (ap₂ by p.0 p.1.0)

-- a quotient or a fault, as it stands in a line
abbrev pub shown_quotient : Result ℤ SourceFault → Answer
shown_quotient (Ok v) = A.Quotient v
shown_quotient (Err e) = A.Refused (source_refusal e)

-- a rounding of the unit that took its word, if it took one, from such a source
module _ {S : Type 0} (coming : S → Stream) (s : Settings) (n k : ℕ) (x : ℤ) (word : Option ℕ) (f : s.n ≡ n) (b : s.k.bits ≡ k) (before later : S) (given : coming before ≡ source_of word) where
  -- the quotient under the settings as they were given
  under : (mode : Mode) → s.mode ≡ mode → Unit.rounded s.mode s.n s.k.bits x (draw s.k.bits ((coming before).word 0)) ≡ Unit.rounded mode n k x (draw k ((coming before).word 0))
  under mode m =
      ap₂ (λ (o : Mode) (j : ℕ). Unit.rounded o j s.k.bits x (draw s.k.bits ((coming before).word 0))) m f
      ∙ ap (λ (j : ℕ). Unit.rounded mode n j x (draw j ((coming before).word 0))) b

  -- the stochastic mode by its word
  drawn : Bool → Answer
  drawn t = cond t (A.Quotient (Unit.rounded Stochastic n k x (draw k ((coming before).word 0)))) (A.Refused 8)

  from_given : drawn ((coming before).left 1) ≡ unit_answer Stochastic n k x word
  unfolding drawn
  from_given = ap (λ (t : Stream). from_word t (λ w. A.Quotient (Unit.rounded Stochastic n k x (draw k w)))) given

  pub quotient_shown : (mode : Mode) → s.mode ≡ mode → (r : Result ℤ SourceFault) → Unit.Rounds coming s x before later r → shown_quotient r ≡ unit_answer mode n k x word
  unfolding drawn
  quotient_shown Down m (Ok v) h = ap A.Quotient (h.0 ∙ under Down m)
  quotient_shown Nearest m (Ok v) h = ap A.Quotient (h.0 ∙ under Nearest m)
  quotient_shown Stochastic m (Ok v) h =
      ap A.Quotient (h.0 ∙ under Stochastic m)
      ∙ sym (ap drawn (subst (λ (o : Mode). Unit.Leaves coming o 1 before later) m h.1).0)
      ∙ from_given
  quotient_shown Down m (Err e) h = absurd (cc)
  quotient_shown Nearest m (Err e) h = absurd (cc)
  quotient_shown Stochastic m (Err e) h = ap A.Refused h.1.1 ∙ sym (ap drawn h.1.0) ∙ from_given

-- a rounding of a unit, under settings that were made from these numbers
pub unit_shown : {S : Type 0} (coming : S → Stream) (t s : Settings) (mode : Mode) (n k : ℕ) (x z : ℤ) (word : Option ℕ) (before later : S) → coming before ≡ source_of word →
    t ≡ s → (settings_fault (mode_number mode) n k ≡ None) × (s.mode ≡ mode) × (s.n ≡ n) × (s.k.bits ≡ k) → z ≡ x →
    (r : Result ℤ SourceFault) → Unit.Rounds coming t z before later r → shown_quotient r ≡ settings_answer (settings_fault (mode_number mode) n k) (unit_answer mode n k x word)
unit_shown coming t s mode n k x z word before later given held made passed r h =
    quotient_shown coming t n k z word (ap (λ (u : Settings). u.n) held ∙ made.2) (ap (λ (u : Settings). u.k.bits) held ∙ made.3) before later given mode (ap (λ (u : Settings). u.mode) held ∙ made.1) r h
    ∙ ap (λ (y : ℤ). unit_answer mode n k y word) passed
    ∙ ap (λ (o : Option SettingsFault). settings_answer o (unit_answer mode n k x word)) (sym made.0)

-- what is right in the format that was made is right in the format of that name
pub in_format : (format : FormatName) (f : Fixed) → Names format (Ok f) → (right : Meaning → Answer → Type 0) (a : Answer) → right (fixed f.sign f.integer f.fraction) a → InFormat format right a
in_format (Name.Fixed z) f h right a holds =
    let same : fixed f.sign f.integer f.fraction ≡ fixed z.sign z.integer z.fraction =
    ap₂ (λ (u v : ℕ). fixed u v f.fraction) h.1 h.2 ∙ ap (λ (w : ℕ). fixed z.sign z.integer w) h.3 in
    inr (h.0, subst (λ (M : Meaning). right M a) same holds)
