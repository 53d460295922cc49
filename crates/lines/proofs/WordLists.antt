-- Words that are read one after another. Assumes nothing.
use Rattle.std.proofs.Common.{◌≡◌, ℕ, suc, ◌+◌, ◌-◌, ◌<◌, ◌≤◌, List, [], ◌∷◌, ◌++◌, length, set, take, Some, None, Option, refl, sym, ap, ◌∙◌, append_assoc, append-nil, arith}
use Rattle.std.proofs.lemmas.List.{take_more_set, take_all}
use Rattle.lines.specs.Answers.{words_read, words_answer}
use Rattle.lines.specs.declared.answer.Answer.TheVariants.{Words}
use Rattle.lines.specs.Fields.{after, at}
use Rattle.lines.specs.Numerals.{after_0x}
use Rattle.lines.specs.Texts.{then}

-- the words that n fields more make of those that were read
abbrev made : List ℕ → List (List ℕ) → ℕ → Option (List ℕ)
made words fs n = then (words_read n fs) (λ more. Some (words ++ more))

-- n words in all are i that were read from the first fields, and the words of the fields that are left
abbrev pub Left : ℕ → List (List ℕ) → List (List ℕ) → List ℕ → ℕ → Type 0
Left n all left words i = words_read n all ≡ made (take i words) left (n - i)

-- the first of them, and the others
first_read : (words : List ℕ) (word : ℕ) (o : Option (List ℕ)) → then (then o (λ more. Some (word ∷ more))) (λ more. Some (words ++ more)) ≡ then o (λ more. Some ((words ++ word ∷ []) ++ more))
first_read words word (Some more) = rw append_assoc
first_read words word None = refl

module _ (n : ℕ) (all left : List (List ℕ)) (words : List ℕ) (i : ℕ) (some : i < n) (so_far : Left n all left words i) where
  -- the word of the next field, and those of the fields after it
  abbrev then_others : Option ℕ → Option (List ℕ)
  then_others o = then (then o (λ word. then (words_read (n - (i + 1)) (after 1 left)) (λ more. Some (word ∷ more)))) (λ more. Some (take i words ++ more))

  by_next : words_read n all ≡ then_others (after_0x (at 0 left))
  unfolding words_read
  by_next = let one : n - i ≡ suc (n - (i + 1)) = omega arith in so_far ∙ ap (made (take i words) left) one

  pub ends_early : None ≡ after_0x (at 0 left) → words_read n all ≡ None
  ends_early none = by_next ∙ ap then_others (sym none)

  pub goes_on : (word : ℕ) → length words ≡ n → Some word ≡ after_0x (at 0 left) → Left n all (after 1 left) (set words i word) (i + 1)
  goes_on word long is =
      by_next
      ∙ ap then_others (sym is)
      ∙ first_read (take i words) word (words_read (n - (i + 1)) (after 1 left))
      ∙ ap (λ ws. made ws (after 1 left) (n - (i + 1))) (sym (take_more_set words i word (omega arith)))

pub ends : (n : ℕ) (all left : List (List ℕ)) (words : List ℕ) (i : ℕ) → length words ≡ n → n ≤ i → Left n all left words i → words_read n all ≡ Some words
unfolding words_read
ends n all left words i long h so_far =
    let no_more : n - i ≡ 0 = omega arith in
    so_far ∙ ap (made (take i words) left) no_more ∙ ap Some (append-nil _ ∙ take_all i words (omega arith))

-- what the answer of eight words is
pub no_answer : (fs : List (List ℕ)) → words_read 8 fs ≡ None → words_answer fs ≡ None
no_answer fs e = ap (λ o. then o (λ words. Some (Words words))) e

pub an_answer : (fs : List (List ℕ)) (words : List ℕ) → words_read 8 fs ≡ Some words → words_answer fs ≡ Some (Words words)
an_answer fs words e = ap (λ o. then o (λ words. Some (Words words))) e
