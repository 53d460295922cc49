-- What the fields of a line ask. Assumes nothing.
use Rattle.std.specs.Prelude.{ℕ, suc, cond, List, Some, codes, Option}
use Rattle.std.specs.Str.{bytes_eq}
use Rattle.formats.specs.declared.split.Calculation.{Calculation}
use Rattle.lines.specs.declared.query.Query.{Query}
use Rattle.lines.specs.declared.query_fields.Kind.{Kind}
use Rattle.lines.specs.declared.query_fields.Kind.TheVariants as kind
use Rattle.lines.specs.declared.query.Query.TheVariants.{Operate, Split, Next, Size, Rule, Unit, Generator}
use Rattle.lines.specs.Fields.{after, at}
use Rattle.lines.specs.FormatNames.{format_named}
use Rattle.lines.specs.Names.{operation_named, rule_named, mode_named}
use Rattle.lines.specs.Numerals.{unsigned, short_unsigned, signed, after_0x, code_or}
use Rattle.lines.specs.Texts.{then}

-- OP A B
abbrev pub calculation_read : List (List ℕ) → Option Calculation
calculation_read fs =
    then (operation_named (at 0 fs)) (λ operation.
    then (after_0x (at 1 fs)) (λ left.
    then (after_0x (at 2 fs)) (λ right.
    Some (record { operation = operation; left = left; right = right }))))

-- FORMAT, the name of a format, and K RULE OP A B WORD
abbrev pub operate_query : List ℕ → List (List ℕ) → Option Query
operate_query name fs =
    then (format_named name) (λ format.
    then (unsigned (at 0 fs)) (λ k.
    then (rule_named (at 1 fs)) (λ rule.
    then (calculation_read (after 2 fs)) (λ calculation.
    then (code_or (codes "-") (at 5 fs)) (λ word.
    Some (Operate format k rule calculation word))))))

-- FORMAT K OP A B
abbrev pub split_query : List (List ℕ) → Option Query
split_query fs =
    then (format_named (at 0 fs)) (λ format.
    then (unsigned (at 1 fs)) (λ k.
    then (calculation_read (after 2 fs)) (λ calculation.
    Some (Split format k calculation))))

-- FORMAT CODE
abbrev pub next_query : List (List ℕ) → Option Query
next_query fs =
    then (format_named (at 0 fs)) (λ format.
    then (after_0x (at 1 fs)) (λ code.
    Some (Next format code)))

-- S I P
abbrev pub size_query : List (List ℕ) → Option Query
size_query fs =
    then (unsigned (at 0 fs)) (λ sign.
    then (unsigned (at 1 fs)) (λ integer.
    then (unsigned (at 2 fs)) (λ fraction.
    Some (Size (record { sign = sign; integer = integer; fraction = fraction })))))

-- RULE K R DRAW
abbrev pub rule_query : List (List ℕ) → Option Query
rule_query fs =
    then (rule_named (at 0 fs)) (λ rule.
    then (unsigned (at 1 fs)) (λ k.
    then (unsigned (at 2 fs)) (λ count.
    then (unsigned (at 3 fs)) (λ draw.
    Some (Rule rule k count draw)))))

-- MODE N K X WORD
abbrev pub unit_query : List (List ℕ) → Option Query
unit_query fs =
    then (mode_named (at 0 fs)) (λ mode.
    then (unsigned (at 1 fs)) (λ n.
    then (unsigned (at 2 fs)) (λ k.
    then (signed (at 3 fs)) (λ x.
    then (code_or (codes "-") (at 4 fs)) (λ word.
    Some (Unit mode n k x word))))))

-- SEED
abbrev pub generator_query : List (List ℕ) → Option Query
generator_query fs = then (short_unsigned (at 0 fs)) (λ seed. Some (Generator seed))

-- what a first field asks, which is the name of a format where it is none of these words
abbrev pub kind_named : List ℕ → Kind
kind_named text =
    cond (bytes_eq text (codes "split")) kind.Split
    (cond (bytes_eq text (codes "next")) kind.Next
    (cond (bytes_eq text (codes "size")) kind.Size
    (cond (bytes_eq text (codes "rule")) kind.Rule
    (cond (bytes_eq text (codes "unit")) kind.Unit
    (cond (bytes_eq text (codes "lcg")) kind.Generator
    kind.Operate)))))

-- the query of a kind, in the fields after the first
abbrev pub query_of : Kind → List ℕ → List (List ℕ) → Option Query
query_of kind.Operate name fs = operate_query name fs
query_of kind.Split name fs = split_query fs
query_of kind.Next name fs = next_query fs
query_of kind.Size name fs = size_query fs
query_of kind.Rule name fs = rule_query fs
query_of kind.Unit name fs = unit_query fs
query_of kind.Generator name fs = generator_query fs

-- the query that the fields of a line ask
abbrev pub query_read : List (List ℕ) → Option Query
query_read fs = query_of (kind_named (at 0 fs)) (at 0 fs) (after 1 fs)

-- how many fields a query has after its first
abbrev pub more_fields : Query → ℕ
more_fields (Operate format k rule calculation word) = 6
more_fields (Split format k calculation) = 5
more_fields (Next format code) = 2
more_fields (Size sizes) = 3
more_fields (Rule rule k count draw) = 4
more_fields (Unit mode n k x word) = 5
more_fields (Generator seed) = 1

-- and how many with it
abbrev pub query_fields : Query → ℕ
query_fields query = suc (more_fields query)
