-- No question has two right answers. Assumes nothing.
use Rattle.std.proofs.Common.{◌≡◌, ℕ, true, Some, None, Ok, Option, sym, refl, ap, ◌∙◌, ap₂, inl, inr}
use Rattle.std.proofs.lemmas.Bool.{false≢true, true≢false}
use Rattle.draws.specs.declared.rules.Neighbour.{Neighbour}
use Rattle.draws.specs.declared.rules.Neighbour.TheVariants.{Near, Far}
use Rattle.draws.specs.Rules.{is_far}
use Rattle.formats.specs.Meaning.{Meaning}
use Rattle.formats.specs.Questions.{AnswersAbove}
use Rattle.formats.proofs.Uniqueness.{greatest_only, least_only, above_only, below_only}
use Rattle.lines.specs.declared.answer.Answer.{Answer}
use Rattle.lines.specs.declared.answer.Answer.TheVariants as A
use Rattle.lines.specs.declared.format_names.FormatName.{FormatName}
use Rattle.lines.specs.declared.format_names.FormatName.TheVariants.{Fixed}
use Rattle.lines.specs.declared.query.Query.{Query}
use Rattle.lines.specs.declared.query.Query.TheVariants as Q
use Rattle.answers.specs.Answers.{InFormat, NextAnswer, EndsAnswer, OneAnswer}

-- what has a next number above it, or none, is a number
is_number : (M : Meaning) (c : ℕ) (above : Option ℕ) → AnswersAbove M c (Ok above) → M.number c ≡ true
is_number M c (Some d) h = h.0
is_number M c None h = h.0

-- a code that is no number is refused, and one that is has one pair of next numbers
next_only : (M : Meaning) (c : ℕ) (a b : Answer) → NextAnswer M c a → NextAnswer M c b → a ≡ b
next_only M c a b (inl g) (inl h) = g.1 ∙ sym h.1
next_only M c a b (inl g) (inr h) = absurd (false≢true (sym g.0 ∙ is_number M c h.0 h.2))
next_only M c a b (inr g) (inl h) = absurd (false≢true (sym h.0 ∙ is_number M c g.0 g.2))
next_only M c a b (inr g) (inr h) =
    g.4 ∙ ap₂ A.Next (above_only M c g.0 h.0 g.2 h.2) (below_only M c g.1 h.1 g.3 h.3) ∙ sym h.4

-- a format has one pair of ends
ends_only : (M : Meaning) (a b : Answer) → EndsAnswer M a → EndsAnswer M b → a ≡ b
ends_only M a b g h =
    let low : g.0 ≡ h.0 = g.2.1 ∙ ap M.result (least_only M (M.value g.0) (M.value h.0) g.2.0 h.2.0) ∙ sym h.2.1 in
    let high : g.1 ≡ h.1 = g.3.1 ∙ ap M.result (greatest_only M (M.value g.1) (M.value h.1) g.3.0 h.3.0) ∙ sym h.3.1 in
    g.4 ∙ ap₂ A.Ends low high ∙ sym h.4

-- a rule says one of two
same_side : (m n : Neighbour) → is_far m ≡ is_far n → m ≡ n
same_side Near Near e = refl
same_side Near Far e = absurd (false≢true e)
same_side Far Near e = absurd (true≢false e)
same_side Far Far e = refl

-- what has one right answer in each format has one in a format of a name
in_format_only : (format : FormatName) (right : Meaning → Answer → Type 0) → ((M : Meaning) (a b : Answer) → right M a → right M b → a ≡ b) →
    (a b : Answer) → InFormat format right a → InFormat format right b → a ≡ b
in_format_only (Fixed z) right only a b (inl g) (inl h) = g.1 ∙ sym h.1
in_format_only (Fixed z) right only a b (inl g) (inr h) = absurd (false≢true (sym g.0 ∙ h.0))
in_format_only (Fixed z) right only a b (inr g) (inl h) = absurd (false≢true (sym h.0 ∙ g.0))
in_format_only (Fixed z) right only a b (inr g) (inr h) = only _ a b g.1 h.1

-- kind by kind: most right answers are equated with one
pub one_answer : (query : Query) → OneAnswer query
one_answer (Q.Operate format k rule asked word) a b g h = in_format_only format _ (λ M c d p q. p ∙ sym q) a b g h
one_answer (Q.Split format k asked) a b g h = in_format_only format _ (λ M c d p q. p ∙ sym q) a b g h
one_answer (Q.Next format c) a b g h = in_format_only format _ (λ M. next_only M c) a b g h
one_answer (Q.Size z) a b g h = in_format_only (Fixed z) EndsAnswer ends_only a b g h
one_answer (Q.Rule rule k R d) a b g h = g.2 ∙ ap A.Said (same_side g.0 h.0 (g.1 ∙ sym h.1)) ∙ sym h.2
one_answer (Q.Unit mode n k x word) a b g h = g ∙ sym h
one_answer (Q.Generator seed) a b g h = g ∙ sym h
