-- A text by its bytes. Assumes nothing.
use Rattle.std.proofs.Common.{◌≡◌, ℕ, zero, suc, ◌+◌, List, [], ◌∷◌, length, get_or, drop, ap, ◌∙◌, drop-cons, arith}
use Rattle.std.proofs.lemmas.List.{drop_all}

-- the n bytes of a text from place i on
abbrev pub bytes : ℕ → ℕ → List ℕ → List ℕ
bytes zero i text = []
bytes (suc n) i text = get_or text i 0 ∷ bytes n (i + 1) text

from : (n i : ℕ) (text : List ℕ) → i + n ≡ length text → drop i text ≡ bytes n i text
from zero i text e = drop_all i text (omega arith)
from (suc n) i text e =
    let next : suc i ≡ i + 1 = omega arith in
    drop-cons text i 0 (omega arith) ∙ ap (λ k. get_or text i 0 ∷ drop k text) next ∙ ap (λ bs. get_or text i 0 ∷ bs) (from n (i + 1) text (omega arith))

-- a text of n bytes
pub spelled : (n : ℕ) (text : List ℕ) → n ≡ length text → text ≡ bytes n 0 text
spelled n text e = from n 0 text (omega arith)
