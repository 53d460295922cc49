-- What the fields of a line expect. Assumes nothing.
use Rattle.std.specs.Prelude.{ℕ, zero, suc, cond, List, [], ◌∷◌, Some, codes, Option}
use Rattle.std.specs.Str.{bytes_eq}
use Rattle.lines.specs.declared.answer.Answer.{Answer}
use Rattle.lines.specs.declared.answer.Answer.TheVariants.{Rounded, Split, Next, Ends, Said, Quotient, Words, Refused}
use Rattle.lines.specs.declared.query.Query.{Query}
use Rattle.lines.specs.declared.query.Query.TheVariants as query
use Rattle.lines.specs.Fields.{after, at}
use Rattle.lines.specs.Names.{neighbour_named, clamp_named}
use Rattle.lines.specs.Numerals.{unsigned, signed, after_0x, code_or}
use Rattle.lines.specs.Texts.{then}

-- CODE CLAMP
abbrev pub rounded_answer : List (List ℕ) → Option Answer
rounded_answer fs =
    then (after_0x (at 0 fs)) (λ code.
    then (clamp_named (at 1 fs)) (λ clamped.
    Some (Rounded (record { code = code; clamped = clamped }))))

-- NEAR FAR R CLAMP
abbrev pub split_answer : List (List ℕ) → Option Answer
split_answer fs =
    then (after_0x (at 0 fs)) (λ near.
    then (after_0x (at 1 fs)) (λ far.
    then (unsigned (at 2 fs)) (λ count.
    then (clamp_named (at 3 fs)) (λ clamped.
    Some (Split (record { parts = (near, far, count); clamped = clamped }))))))

-- ABOVE BELOW
abbrev pub next_answer : List (List ℕ) → Option Answer
next_answer fs =
    then (code_or (codes "absent") (at 0 fs)) (λ above.
    then (code_or (codes "absent") (at 1 fs)) (λ below.
    Some (Next above below)))

-- LEAST GREATEST
abbrev pub ends_answer : List (List ℕ) → Option Answer
ends_answer fs =
    then (after_0x (at 0 fs)) (λ least.
    then (after_0x (at 1 fs)) (λ greatest.
    Some (Ends least greatest)))

-- near or far
abbrev pub said_answer : List (List ℕ) → Option Answer
said_answer fs = then (neighbour_named (at 0 fs)) (λ neighbour. Some (Said neighbour))

-- ANSWER
abbrev pub quotient_answer : List (List ℕ) → Option Answer
quotient_answer fs = then (signed (at 0 fs)) (λ quotient. Some (Quotient quotient))

-- as many words as n
unfoldable pub words_read : ℕ → List (List ℕ) → Option (List ℕ)
words_read zero fs = Some []
words_read (suc n) fs =
    then (after_0x (at 0 fs)) (λ word.
    then (words_read n (after 1 fs)) (λ words.
    Some (word ∷ words)))

-- W W W W W W W W
abbrev pub words_answer : List (List ℕ) → Option Answer
words_answer fs = then (words_read 8 fs) (λ words. Some (Words words))

-- refused N
abbrev pub refused_answer : List (List ℕ) → Option Answer
refused_answer fs = then (unsigned (at 1 fs)) (λ number. Some (Refused number))

-- an answer, or a refusal where the first field says so
abbrev pub or_refused : (List (List ℕ) → Option Answer) → List (List ℕ) → Option Answer
or_refused read fs = cond (bytes_eq (at 0 fs) (codes "refused")) (refused_answer fs) (read fs)

-- the answer to a query; a rule and the generator refuse nothing
abbrev pub answer_read : Query → List (List ℕ) → Option Answer
answer_read (query.Operate format k rule calculation word) fs = or_refused rounded_answer fs
answer_read (query.Split format k calculation) fs = or_refused split_answer fs
answer_read (query.Next format code) fs = or_refused next_answer fs
answer_read (query.Size sizes) fs = or_refused ends_answer fs
answer_read (query.Rule rule k count draw) fs = said_answer fs
answer_read (query.Unit mode n k x word) fs = or_refused quotient_answer fs
answer_read (query.Generator seed) fs = words_answer fs

-- how many fields an answer takes
abbrev pub answer_fields : Answer → ℕ
answer_fields (Rounded rounded) = 2
answer_fields (Split split) = 4
answer_fields (Next above below) = 2
answer_fields (Ends least greatest) = 2
answer_fields (Said neighbour) = 1
answer_fields (Quotient quotient) = 1
answer_fields (Words words) = 8
answer_fields (Refused number) = 2
