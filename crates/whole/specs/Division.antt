-- Division of a whole number by a positive one, rounded down. Assumes nothing.
use Rattle.std.specs.Prelude.{◌≡◌, ℕ, ◌-◌, ◌/◌, ◌%◌, ◌<◌, ℤ, pos, negsuc, ◌+ℤ◌, ◌*ℤ◌}

-- the greatest whole number that is at most x / d
abbrev pub floor : ℤ → ℕ → ℤ
floor (pos a) d = pos (a / d)
floor (negsuc a) d = negsuc (a / d)

-- what x is above floor x d * d
abbrev pub modulo : ℤ → ℕ → ℕ
modulo (pos a) d = a % d
modulo (negsuc a) d = (d - 1) - a % d

-- x is q times d and r more, with r below d
pub record Divided (x : ℤ) (d : ℕ) (q : ℤ) (r : ℕ) : Type 0 where
  pub whole : x ≡ q *ℤ pos d +ℤ pos r
  pub rest : r < d

-- For every x and positive d the floor and the remainder are such a quotient and rest, and the only ones.
pub record Divides (x : ℤ) (d : ℕ) : Type 0 where
  pub holds : Divided x d (floor x d) (modulo x d)
  pub only : (q : ℤ) (r : ℕ) → Divided x d q r → (q ≡ floor x d) × (r ≡ modulo x d)
