-- Near, far and the count of an exact result, as a relation that determines them. Assumes nothing.
use Rattle.std.specs.Prelude.{◌≡◌, ℕ, ◌*◌, ◌/◌, ◌%◌, ◌^◌, Bool, true, false, cond, not, ◌&&◌, ℤ, pos, ◌-ℤ◌, ◌*ℤ◌, ◌==◌, unsigned_abs}
use Rattle.formats.specs.declared.split.Split.{Split}
use Rattle.formats.specs.Meaning.{Meaning}
use Rattle.formats.specs.Exact.{Exact}
use Rattle.formats.specs.Neighbours.{Greatest, Least, Neighbours, Under, Over}

-- the near code, the far code and the count of a split
abbrev pub near : Split → ℕ
near s = s.parts.0

abbrev pub far : Split → ℕ
far s = s.parts.1

abbrev pub count : Split → ℕ
count s = s.parts.2

-- how far v units are from x, in parts of a unit of which the denominator makes one
abbrev pub distance : Exact → ℤ → ℕ
distance x v = unsigned_abs (x.numerator -ℤ v *ℤ pos x.denominator)

-- 2 ^ k * |x - v| / gap, its fraction dropped; 0 where the gap is 0, since a number divided by 0 is 0 here
abbrev pub share : ℕ → Exact → ℤ → ℕ → ℕ
share k x v gap = 2 ^ k * distance x v / (gap * x.denominator)

-- an end twice and count 0
abbrev pub clamped_at : Meaning → ℤ → Split
clamped_at M v = record { parts = (M.result v, M.result v, 0); clamped = true }

-- near, far and the count between the neighbours lo and hi
abbrev pub between : Meaning → ℕ → Exact → ℤ → ℤ → Split
between M k x lo hi =
    let near_value : ℤ = cond (M.low_is_near lo hi) lo hi in
    let far_value : ℤ = cond (M.low_is_near lo hi) hi lo in
    record { parts = (M.result near_value, M.result far_value, share k x near_value (unsigned_abs (hi -ℤ lo))); clamped = false }

-- s splits x for draws of k bits
pub data Splits (M : Meaning) (k : ℕ) (x : Exact) (s : Split) : Type 0 where
  -- x is above the greatest number, or below the least
  above : (v : ℤ) → Greatest M v → Under v x → s ≡ clamped_at M v → Splits M k x s
  under : (v : ℤ) → Least M v → Over v x → s ≡ clamped_at M v → Splits M k x s
  -- x lies on a number or between two
  within : (lo hi : ℤ) → Neighbours M x lo hi → s ≡ between M k x lo hi → Splits M k x s

-- the distance of near and far, in units
abbrev pub gap : Meaning → Split → ℕ
gap M s = unsigned_abs (M.value (far s) -ℤ M.value (near s))

-- whether the count dropped a fraction
abbrev pub cut : Meaning → ℕ → Exact → Split → Bool
cut M k x s = not s.clamped && not (2 ^ k * distance x (M.value (near s)) % (gap M s * x.denominator) == 0)
