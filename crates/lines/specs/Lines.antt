-- What a line says. Assumes nothing.
use Rattle.std.specs.Prelude.{◌≡◌, ℕ, suc, Bool, true, false, cond, ◌||◌, List, Some, None, Ok, Err, codes, Option, Result, ◌==◌, slice_index}
use Rattle.std.specs.Str.{bytes_eq}
use Rattle.lines.specs.declared.answer.Answer.{Answer}
use Rattle.lines.specs.declared.query.Query.{Query}
use Rattle.lines.specs.declared.vector.Malformed.{Malformed}
use Rattle.lines.specs.declared.vector.Malformed.TheVariants.{Question, Expectation}
use Rattle.lines.specs.declared.vector.Vector.{Vector}
use Rattle.lines.specs.Answers.{answer_read, answer_fields}
use Rattle.lines.specs.Fields.{fields, after, at, is_end}
use Rattle.lines.specs.Queries.{query_read, query_fields}
use Rattle.lines.specs.Texts.{then}

-- a line that says nothing: `#` is its first byte, or it has no field
abbrev pub passed_over : List ℕ → Bool
passed_over line = slice_index line 0 == 35 || is_end (fields line)

-- a query, and `->` after it
abbrev pub question : List (List ℕ) → Option Query
question fs = then (query_read fs) (λ query. cond (bytes_eq (at (query_fields query) fs) (codes "->")) (Some query) None)

-- how many fields they are
abbrev pub question_fields : Query → ℕ
question_fields query = suc (query_fields query)

-- the fields after them
abbrev pub after_arrow : Query → List (List ℕ) → List (List ℕ)
after_arrow query fs = after (question_fields query) fs

-- an answer to a query, and nothing after it
abbrev pub expectation : Query → List (List ℕ) → Option Answer
expectation query fs = then (answer_read query fs) (λ answer. cond (is_end (after (answer_fields answer) fs)) (Some answer) None)

-- A line that is not passed over has a question and an expectation, or the first of these that it lacks is named.
abbrev pub LineSays : List ℕ → Result (Option Vector) Malformed → Type 0
LineSays line (Ok None) = passed_over line ≡ true
LineSays line (Ok (Some v)) =
    (passed_over line ≡ false) × (question (fields line) ≡ Some v.query) × (expectation v.query (after_arrow v.query (fields line)) ≡ Some v.expected)
LineSays line (Err Question) = (passed_over line ≡ false) × (question (fields line) ≡ None)
LineSays line (Err Expectation) =
    (passed_over line ≡ false) × ((query : Query) × (question (fields line) ≡ Some query) × (expectation query (after_arrow query (fields line)) ≡ None))

-- as it is printed
abbrev pub malformed_text : Malformed → List ℕ
malformed_text Question = codes "malformed question"
malformed_text Expectation = codes "malformed expectation"
