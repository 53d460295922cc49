-- The fields of a text. Assumes nothing.
use Rattle.std.specs.Prelude.{◌≡◌, ℕ, zero, suc, Bool, true, false, cond, List, [], ◌∷◌, Some, None, Option}
use Rattle.lines.specs.Texts.{blank}

-- no byte is left, or a blank is next
abbrev pub field_ends : List ℕ → Bool
field_ends [] = true
field_ends (b ∷ bs) = blank b

-- the fields with a byte put before the first of them
abbrev pub onto : ℕ → List (List ℕ) → List (List ℕ)
onto b [] = (b ∷ []) ∷ []
onto b (f ∷ fs) = (b ∷ f) ∷ fs

-- A byte that is no blank belongs to the field of the next byte, or is the last of its own.
unfoldable pub fields : List ℕ → List (List ℕ)
fields [] = []
fields (b ∷ bs) = cond (blank b) (fields bs) (cond (field_ends bs) ((b ∷ []) ∷ fields bs) (onto b (fields bs)))

-- the first field, empty where there is none
abbrev pub first : List (List ℕ) → List ℕ
first [] = []
first (f ∷ fs) = f

-- all fields but the first
abbrev pub others : List (List ℕ) → List (List ℕ)
others [] = []
others (f ∷ fs) = fs

-- the fields after the first n
abbrev pub after : ℕ → List (List ℕ) → List (List ℕ)
after zero fs = fs
after (suc n) fs = after n (others fs)

-- the field after n others, empty where there is none
abbrev pub at : ℕ → List (List ℕ) → List ℕ
at n fs = first (after n fs)

-- no field is left
abbrev pub is_end : List (List ℕ) → Bool
is_end [] = true
is_end (f ∷ fs) = false

-- The value that the first fields write is read, and the fields after these are left; `many` says how many a value takes.
abbrev pub Reads : {A : Type 0} → (A → ℕ) → (List (List ℕ) → Option A) → List (List ℕ) → List (List ℕ) → Option A → Type 0
Reads many read before left (Some value) = (read before ≡ Some value) × (left ≡ after (many value) before)
Reads many read before left None = read before ≡ None
