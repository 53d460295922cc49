-- Formats of the same meaning answer the question for a split alike. Assumes nothing.
use Rattle.std.proofs.Common.{◌≡◌, ℕ, Bool, true, false, cond, ℤ, Some, None, Ok, Err, Option, Result, sym, refl, ap, ◌∙◌, subst, ap₂, arith}
use Rattle.draws.specs.DrawBits.{bits_in_range}
use Rattle.formats.specs.declared.faults.FormatFault.{FormatFault}
use Rattle.formats.specs.declared.faults.FormatFault.TheVariants.{DrawBitsOutOfRange, NotANumber, ZeroDivisor}
use Rattle.formats.specs.declared.split.Calculation.{Calculation}
use Rattle.formats.specs.declared.split.Split.{Split}
use Rattle.formats.specs.Refusals.{format_refusal}
use Rattle.formats.specs.Meaning.{Meaning}
use Rattle.formats.specs.Exact.{Exact, of_values, exact}
use Rattle.formats.specs.Splits.{Splits}
use Rattle.formats.specs.Questions.{divides_by_zero, refusal, AnswersSplit}
use Rattle.formats.specs.Determined.{Same}
use Rattle.formats.proofs.Exacts.{denominator_positive}
use Rattle.formats.proofs.Likeness.{splits_back}
use Rattle.formats.proofs.Uniqueness.{unique}

-- faults of one number are one fault
pub same_fault : (a b : FormatFault) → format_refusal a ≡ format_refusal b → a ≡ b
same_fault DrawBitsOutOfRange DrawBitsOutOfRange e = refl
same_fault DrawBitsOutOfRange NotANumber e = absurd (omega arith)
same_fault DrawBitsOutOfRange ZeroDivisor e = absurd (omega arith)
same_fault NotANumber DrawBitsOutOfRange e = absurd (omega arith)
same_fault NotANumber NotANumber e = refl
same_fault NotANumber ZeroDivisor e = absurd (omega arith)
same_fault ZeroDivisor DrawBitsOutOfRange e = absurd (omega arith)
same_fault ZeroDivisor NotANumber e = absurd (omega arith)
same_fault ZeroDivisor ZeroDivisor e = refl

-- a split that is not refused has passed every test
pub accepted : (bits left right zero : Bool) → ◌≡◌ {A = Option ℕ} (cond bits (cond left (cond right (cond zero (Some 4) None) (Some 3)) (Some 3)) (Some 2)) None → (left ≡ true) × (right ≡ true) × (zero ≡ false)
accepted true true true false e = (refl, refl, refl)
accepted true true true true e = absurd (cc)
accepted true true false zero e = absurd (cc)
accepted true false right zero e = absurd (cc)
accepted false left right zero e = absurd (cc)

module _ (M N : Meaning) (same : Same M N) (asked : Calculation) (k : ℕ) where
  -- what is looked at after the left code
  abbrev last_tests : Bool → ℤ → Option ℕ
  last_tests number w = cond number (cond (divides_by_zero asked.operation w) (Some 4) None) (Some 3)

  last_alike : (number : Bool) → M.number asked.right ≡ number → last_tests (M.number asked.right) (M.value asked.right) ≡ last_tests (N.number asked.right) (N.value asked.right)
  last_alike true e = ap₂ last_tests (same.number asked.right) (same.value asked.right e)
  last_alike false e =
      ap (λ (b : Bool). last_tests b (M.value asked.right)) e ∙ sym (ap (λ (b : Bool). last_tests b (N.value asked.right)) (sym (same.number asked.right) ∙ e))

  -- so refusals are alike
  pub refusal_alike : refusal M asked k ≡ refusal N asked k
  refusal_alike = ap₂ (λ (b : Bool) (o : Option ℕ). cond (bits_in_range k) (cond b o (Some 3)) (Some 2)) (same.number asked.left) (last_alike (M.number asked.right) refl)

  -- and so are splits
  splits_alike : (s t : Split) → AnswersSplit M asked k (Ok s) → AnswersSplit N asked k (Ok t) → s ≡ t
  splits_alike s t a b =
      let passed = accepted (bits_in_range k) (M.number asked.left) (M.number asked.right) (divides_by_zero asked.operation (M.value asked.right)) a.0 in
      let x : Exact = exact M asked in
      let some = denominator_positive M.unit asked.operation (M.value asked.left) (M.value asked.right) passed.2 in
      let fraction : x ≡ exact N asked =
      ap (λ (u : ℕ). of_values u asked.operation (M.value asked.left) (M.value asked.right)) same.unit ∙ ap₂ (of_values N.unit asked.operation) (same.value asked.left passed.0) (same.value asked.right passed.1) in
      unique M k x s t a.1 (splits_back M N same k x some t (subst (λ (y : Exact). Splits N k y t) (sym fraction) b.1))

  pub replies_alike : (a b : Result Split FormatFault) → AnswersSplit M asked k a → AnswersSplit N asked k b → a ≡ b
  replies_alike (Ok s) (Ok t) a b = ap Ok (splits_alike s t a b)
  replies_alike (Ok s) (Err e) a b = let c = sym a.0 ∙ refusal_alike ∙ b in absurd (cc)
  replies_alike (Err e) (Ok t) a b = let c = sym a ∙ refusal_alike ∙ b.0 in absurd (cc)
  replies_alike (Err e) (Err f) a b =
      let c = sym a ∙ refusal_alike ∙ b in
      ap Err (same_fault e f (cc))
