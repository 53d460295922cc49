-- What a format answers. Assumes nothing.
use Rattle.std.specs.Prelude.{◌≡◌, ℕ, Bool, true, false, cond, ℤ, Some, None, Ok, Err, Option, Result, ◌==◌, unsigned_abs}
use Rattle.draws.specs.DrawBits.{bits_in_range}
use Rattle.formats.specs.declared.faults.FormatFault.{FormatFault}
use Rattle.formats.specs.declared.split.Calculation.{Calculation}
use Rattle.formats.specs.declared.split.Operation.{Operation}
use Rattle.formats.specs.declared.split.Operation.TheVariants.{Sum, Difference, Product, Quotient}
use Rattle.formats.specs.declared.split.Split.{Split}
use Rattle.formats.specs.Refusals.{format_refusal}
use Rattle.formats.specs.Meaning.{Meaning}
use Rattle.formats.specs.Neighbours.{Greatest, Least, NextAbove, NextBelow}
use Rattle.formats.specs.Exact.{exact}
use Rattle.formats.specs.Splits.{Splits}

-- The result code of the next value above that of c, absent where no number is larger. Refused by 3 where c is no number.
abbrev pub AnswersAbove : Meaning → ℕ → Result (Option ℕ) FormatFault → Type 0
AnswersAbove M c (Ok (Some d)) = (M.number c ≡ true) × (v : ℤ) × NextAbove M (M.value c) v × (d ≡ M.result v)
AnswersAbove M c (Ok None) = (M.number c ≡ true) × Greatest M (M.value c)
AnswersAbove M c (Err e) = (M.number c ≡ false) × (format_refusal e ≡ 3)

-- the mirror image
abbrev pub AnswersBelow : Meaning → ℕ → Result (Option ℕ) FormatFault → Type 0
AnswersBelow M c (Ok (Some d)) = (M.number c ≡ true) × (v : ℤ) × NextBelow M (M.value c) v × (d ≡ M.result v)
AnswersBelow M c (Ok None) = (M.number c ≡ true) × Least M (M.value c)
AnswersBelow M c (Err e) = (M.number c ≡ false) × (format_refusal e ≡ 3)

-- whether the operation divides by a number of value 0
abbrev pub divides_by_zero : Operation → ℤ → Bool
divides_by_zero Sum w = false
divides_by_zero Difference w = false
divides_by_zero Product w = false
divides_by_zero Quotient w = unsigned_abs w == 0

-- the number that a split or an operation is refused by, if it is: a bad k, the left code, the right code, a divisor of value 0
abbrev pub refusal : Meaning → Calculation → ℕ → Option ℕ
refusal M asked k =
    cond (bits_in_range k)
    (cond (M.number asked.left)
    (cond (M.number asked.right) (cond (divides_by_zero asked.operation (M.value asked.right)) (Some 4) None) (Some 3))
    (Some 3))
    (Some 2)

-- the split of the exact result at k, or the refusal
abbrev pub AnswersSplit : Meaning → Calculation → ℕ → Result Split FormatFault → Type 0
AnswersSplit M asked k (Ok s) = (refusal M asked k ≡ None) × Splits M k (exact M asked) s
AnswersSplit M asked k (Err e) = refusal M asked k ≡ Some (format_refusal e)
