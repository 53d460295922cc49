-- Texts, which are lists of bytes. Assumes nothing.
use Rattle.std.specs.Prelude.{ℕ, Bool, ◌||◌, Some, None, Option, ◌==◌}

-- what is made of a value, where there is one
abbrev pub then : {A B : Type 0} → Option A → (A → Option B) → Option B
then (Some a) f = f a
then None f = None

-- a space, a tab or a carriage return
abbrev pub blank : ℕ → Bool
blank b = b == 32 || (b == 9 || b == 13)

-- a dot
abbrev pub dot : ℕ → Bool
dot b = b == 46
