-- The right answer to each question of a line, by the meanings that contracts cite. Assumes nothing.
use Rattle.std.specs.Prelude.{◌≡◌, ℕ, true, false, cond, ◌⊎◌, [], ◌∷◌, map, ℤ, Some, None, Ok, Err, Option, Result}
use Rattle.draws.specs.declared.rules.Neighbour.{Neighbour}
use Rattle.std.specs.List.{range_with_len}
use Rattle.draws.specs.DrawBits.{draw}
use Rattle.draws.specs.Rules.{Says, is_far}
use Rattle.draws.specs.Sequences.{listed, after}
use Rattle.draws.specs.Streams.{Stream}
use Rattle.formats.specs.declared.split.Calculation.{Calculation}
use Rattle.formats.specs.Meaning.{Meaning}
use Rattle.formats.specs.Exact.{exact}
use Rattle.formats.specs.Search.{split_of}
use Rattle.formats.specs.Questions.{refusal, AnswersAbove, AnswersBelow}
use Rattle.fixed.specs.declared.faults.SizesFault.{SizesFault}
use Rattle.fixed.specs.declared.sizes.Fixed.{Fixed as Format}
use Rattle.fixed.specs.Refusals.{sizes_refusal}
use Rattle.fixed.specs.Sizes.{sizes_in_range}
use Rattle.fixed.specs.Fixed.{fixed}
use Rattle.fixed.specs.Stated.{IsGreatest, IsLeast}
use Rattle.operations.specs.Rounding.{rounded}
use Rattle.unit.specs.declared.faults.SettingsFault.{SettingsFault}
use Rattle.unit.specs.declared.modes.Mode.{Mode}
use Rattle.unit.specs.declared.modes.Mode.TheVariants.{Down, Nearest, Stochastic}
use Rattle.unit.specs.Modes.{mode_number}
use Rattle.unit.specs.Refusals.{settings_fault, settings_refusal}
use Rattle.unit.specs.Rounding as Unit
use Rattle.lines.specs.declared.answer.Answer.{Answer}
use Rattle.lines.specs.declared.answer.Answer.TheVariants as A
use Rattle.lines.specs.declared.format_names.FormatName.{FormatName}
use Rattle.lines.specs.declared.format_names.FormatName.TheVariants.{Fixed}
use Rattle.lines.specs.Names.{rule_says}
use Rattle.lines.specs.declared.query.Query.{Query}
use Rattle.lines.specs.declared.query.Query.TheVariants as Q
use Rattle.answers.specs.declared.refused.Refused.{Refused}

-- the source of one word, or of none
abbrev pub source_of : Option ℕ → Stream
source_of (Some w) = listed (w ∷ []) 0
source_of None = listed [] 0

-- a refusal, where there is one
abbrev pub unless_refused : Option ℕ → Answer → Answer
unless_refused (Some n) a = A.Refused n
unless_refused None a = a

-- an answer from the next word of a source; refused by 8 where there is none
abbrev pub from_word : Stream → (ℕ → Answer) → Answer
from_word source f = cond (source.left 1) (f (source.word 0)) (A.Refused 8)

-- an answer or a refusal, as it stands in a line
abbrev pub told : Result Answer Refused → Answer
told (Ok a) = a
told (Err r) = A.Refused r.number

-- an operation
abbrev pub operation_answer : Says → Meaning → Calculation → ℕ → Option ℕ → Answer
operation_answer says M asked k word =
    unless_refused (refusal M asked k)
    (from_word (source_of word) (λ w. A.Rounded (rounded says M k (exact M asked) (draw k w))))

-- a split: NEAR FAR R CLAMP
abbrev pub split_answer : Meaning → Calculation → ℕ → Answer
split_answer M asked k =
    unless_refused (refusal M asked k)
    (A.Split (split_of M k (exact M asked)))

-- the numbers next to a code: ABOVE BELOW
abbrev pub NextAnswer : Meaning → ℕ → Answer → Type 0
NextAnswer M c a =
    ((M.number c ≡ false) × (a ≡ A.Refused 3))
    ⊎ ((above : Option ℕ) × (below : Option ℕ) × AnswersAbove M c (Ok above) × AnswersBelow M c (Ok below) × (a ≡ A.Next above below))

-- the ends of a format: LEAST GREATEST
abbrev pub EndsAnswer : Meaning → Answer → Type 0
EndsAnswer M a = (least : ℕ) × (greatest : ℕ) × IsLeast M least × IsGreatest M greatest × (a ≡ A.Ends least greatest)

-- what a rule says
abbrev pub SaidAnswer : Says → ℕ → ℕ → ℕ → Answer → Type 0
SaidAnswer says k R d a = (n : Neighbour) × (is_far n ≡ says k R d) × (a ≡ A.Said n)

-- a rounding of the unit: ANSWER
abbrev pub unit_answer : Mode → ℕ → ℕ → ℤ → Option ℕ → Answer
unit_answer Down n k x word = A.Quotient (Unit.rounded Down n k x 0)
unit_answer Nearest n k x word = A.Quotient (Unit.rounded Nearest n k x 0)
unit_answer Stochastic n k x word = from_word (source_of word) (λ w. A.Quotient (Unit.rounded Stochastic n k x (draw k w)))

-- its settings are refused by 2 in every mode
abbrev pub settings_answer : Option SettingsFault → Answer → Answer
settings_answer (Some e) a = A.Refused (settings_refusal e)
settings_answer None a = a

-- the generator's first eight words
abbrev pub words_answer : ℕ → Answer
words_answer seed = A.Words (map (after seed) (range_with_len 1 8))

-- in a format of a name; bad sizes are refused by 1 before all else
abbrev pub InFormat : FormatName → (Meaning → Answer → Type 0) → Answer → Type 0
InFormat (Fixed z) right a =
    ((sizes_in_range z.sign z.integer z.fraction ≡ false) × (a ≡ A.Refused 1))
    ⊎ ((sizes_in_range z.sign z.integer z.fraction ≡ true) × right (fixed z.sign z.integer z.fraction) a)

-- the format of a name; refused by 1 where its sizes are bad
abbrev pub Names : FormatName → Result Format SizesFault → Type 0
Names (Fixed z) (Ok f) = (sizes_in_range z.sign z.integer z.fraction ≡ true) × (f.sign ≡ z.sign) × (f.integer ≡ z.integer) × (f.fraction ≡ z.fraction)
Names (Fixed z) (Err e) = (sizes_in_range z.sign z.integer z.fraction ≡ false) × (sizes_refusal e ≡ 1)

-- the right answer to a question
abbrev pub Answers : Query → Answer → Type 0
Answers (Q.Operate format k rule asked word) = InFormat format (λ M a. a ≡ operation_answer (rule_says rule) M asked k word)
Answers (Q.Split format k asked) = InFormat format (λ M a. a ≡ split_answer M asked k)
Answers (Q.Next format c) = InFormat format (λ M. NextAnswer M c)
Answers (Q.Size z) = InFormat (Fixed z) EndsAnswer
Answers (Q.Rule rule k R d) = SaidAnswer (rule_says rule) k R d
Answers (Q.Unit mode n k x word) = λ a. a ≡ settings_answer (settings_fault (mode_number mode) n k) (unit_answer mode n k x word)
Answers (Q.Generator seed) = λ a. a ≡ words_answer seed

-- a question has one right answer
abbrev pub OneAnswer : Query → Type 0
OneAnswer query = (a b : Answer) → Answers query a → Answers query b → a ≡ b
