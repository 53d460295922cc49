-- The first field of a text, and what is left after it. Assumes nothing.
use Rattle.std.proofs.Common.{◌≡◌, ℕ, Bool, suc, ◌+◌, ◌<◌, ◌≤◌, true, false, not, ltb, List, [], ◌∷◌, length, take, drop, Some, None, Option, sym, refl, ap, ◌∙◌, subst, ⊎_elim, one-add, drop-cons, arith}
use Rattle.std.specs.List.{position, position_or_len}
use Rattle.std.specs.Option.{unwrap_or}
use Rattle.std.proofs.lemmas.Bool.{cond-true, cond-false, cases_Bool, cases_lt, lt-ltb, le-ltb, not_from_true, not_from_false, not-true}
use Rattle.std.proofs.lemmas.Bool.Decides.{nat_tests}
use Rattle.std.proofs.lemmas.List.{drop_all}
use Rattle.std.proofs.lemmas.List.Sums.{passes_at_first, prefix_len-le-length}
use Rattle.lines.specs.Texts.{blank}
use Rattle.lines.specs.Fields.{field_ends, onto, fields}

-- whether a field may go on with a byte
abbrev pub goes_on : ℕ → Bool
goes_on b = not (blank b)

-- how many blanks a text begins with, and how many other bytes
abbrev blanks : List ℕ → ℕ
blanks text = position_or_len goes_on text

abbrev bytes : List ℕ → ℕ
bytes text = position_or_len blank text

-- where the first byte stands that passes a test
module _ (test : ℕ → Bool) (text : List ℕ) where
  placed : position_or_len test text < length text → position test text ≡ Some (position_or_len test text)
  placed l = cond-true (ltb (position_or_len test text) (length text)) _ None (lt-ltb (position_or_len test text) (length text) l)

  unplaced : length text ≤ position_or_len test text → position test text ≡ None
  unplaced g = cond-false (ltb (position_or_len test text) (length text)) _ None (le-ltb (position_or_len test text) (length text) g)

-- the first field ends at the first blank, or with the text
ends : (text : List ℕ) → unwrap_or (position blank text) (length text) ≡ bytes text
ends text = grind (arith, nat_tests, prefix_len-le-length (λ b. not (blank b)) text)

past_blanks : (text : List ℕ) → fields text ≡ fields (drop (blanks text) text)
unfolding fields
past_blanks [] = refl
past_blanks (b ∷ bs) =
    ⊎_elim
    (λ e. cond-true (blank b) (fields bs) _ e ∙ past_blanks bs ∙ sym (ap (λ n. fields (drop n (b ∷ bs))) (cond-true (not (goes_on b)) (1 + blanks bs) 0 (grind (arith, e)) ∙ one-add (blanks bs))))
    (λ e. sym (ap (λ n. fields (drop n (b ∷ bs))) (cond-false (not (goes_on b)) (1 + blanks bs) 0 (grind (arith, e)))))
    (cases_Bool (blank b))

field_more : (b : ℕ) (bs : List ℕ) → blank b ≡ false → bytes (b ∷ bs) ≡ suc (bytes bs)
field_more b bs e = cond-true (not (blank b)) (1 + bytes bs) 0 (not_from_false (blank b) e) ∙ one-add (bytes bs)

field_none : (bs : List ℕ) → field_ends bs ≡ true → bytes bs ≡ 0
field_none [] e = refl
field_none (b ∷ bs) e = cond-false (not (blank b)) (1 + bytes bs) 0 (not_from_true (blank b) e)

last_byte : (b : ℕ) (bs : List ℕ) → blank b ≡ false → field_ends bs ≡ true → fields (b ∷ bs) ≡ (b ∷ []) ∷ fields bs
unfolding fields
last_byte b bs e f = cond-false (blank b) (fields bs) _ e ∙ cond-true (field_ends bs) ((b ∷ []) ∷ fields bs) (onto b (fields bs)) f

inner_byte : (b : ℕ) (bs : List ℕ) → blank b ≡ false → field_ends bs ≡ false → fields (b ∷ bs) ≡ onto b (fields bs)
unfolding fields
inner_byte b bs e f = cond-false (blank b) (fields bs) _ e ∙ cond-false (field_ends bs) ((b ∷ []) ∷ fields bs) (onto b (fields bs)) f

-- the first n bytes are the first field
abbrev First : List ℕ → ℕ → Type 0
First text n = fields text ≡ take n text ∷ fields (drop n text)

one_byte : (b : ℕ) (bs : List ℕ) → blank b ≡ false → field_ends bs ≡ true → First (b ∷ bs) (bytes (b ∷ bs))
one_byte b bs e f = subst (First (b ∷ bs)) (sym (field_more b bs e ∙ ap suc (field_none bs f))) (last_byte b bs e f)

-- a text that begins with no blank begins with a field
begins : (b : ℕ) (bs : List ℕ) → blank b ≡ false → First (b ∷ bs) (bytes (b ∷ bs))
begins b [] e = one_byte b [] e refl
begins b (d ∷ bs) e =
    ⊎_elim
    (λ f. one_byte b (d ∷ bs) e f)
    (λ f. subst (First (b ∷ d ∷ bs)) (sym (field_more b (d ∷ bs) e)) (inner_byte b (d ∷ bs) e f ∙ ap (onto b) (begins d bs f)))
    (cases_Bool (blank d))

-- a text of blanks alone has no field
pub none : (text : List ℕ) → position goes_on text ≡ None → fields text ≡ []
unfolding fields
none text e =
    ⊎_elim
    (λ l. let some = placed goes_on text l in (cc))
    (λ g. past_blanks text ∙ ap fields (drop_all (blanks text) text g))
    (cases_lt (blanks text) (length text))

-- from its first byte on that is no blank, a text begins with its first field
pub found : (text rest field left : List ℕ) (start : ℕ) (stop : Option ℕ) (end : ℕ) → Some start ≡ position goes_on text → rest ≡ drop start text → stop ≡ position blank rest → end ≡ unwrap_or stop (length rest) → field ≡ take end rest → left ≡ drop end rest → fields text ≡ field ∷ fields left
found text rest field left start stop end e r s n f l =
    ⊎_elim
    (λ (some : blanks text < length text).
    let first = placed goes_on text some in
    let at : rest ≡ drop (blanks text) text = cc in
    let parts = drop-cons text (blanks text) 0 some in
    let starts : First rest (bytes rest) = subst (λ bs. First bs (bytes bs)) (sym (at ∙ parts)) (begins _ _ (not-true _ (passes_at_first goes_on text 0 some))) in
    past_blanks text ∙ ap fields (sym at) ∙ starts ∙ rw (f, l, n, s, ends rest))
    (λ all. let no = unplaced goes_on text all in (cc))
    (cases_lt (blanks text) (length text))
