-- The laws of the unit. Assumes nothing.
use Rattle.std.specs.Prelude.{◌≡◌, ℕ, ◌-◌, ◌*◌, ◌^◌, ◌<◌, ℤ, pos, negsuc, ◌+ℤ◌, ◌*ℤ◌, ◌≤ℤ◌, ◌<ℤ◌}
use Rattle.whole.specs.Division.{floor, Divides}
use Rattle.whole.specs.Sums.{sum_ℤ, below}
use Rattle.draws.specs.DrawBits.{draw}
use Rattle.unit.specs.declared.modes.Mode.TheVariants.{Nearest, Stochastic}
use Rattle.unit.specs.Rounding.{clamped, far_count, quotient, rounded}

-- z is a signed 32-bit number
pub record Signed32 (z : ℤ) : Type 0 where
  pub least : negsuc (2 ^ 31 - 1) ≤ℤ z
  pub most : z ≤ℤ pos (2 ^ 31 - 1)

-- Clamping answers a signed 32-bit number: z itself where it is one, and else the end that z is beyond.
pub record Clamps (z : ℤ) : Type 0 where
  pub fits : Signed32 (clamped z)
  pub inside : Signed32 z → clamped z ≡ z
  pub above : pos (2 ^ 31 - 1) <ℤ z → clamped z ≡ pos (2 ^ 31 - 1)
  pub under : z <ℤ negsuc (2 ^ 31 - 1) → clamped z ≡ negsuc (2 ^ 31 - 1)

-- q times d is at most half of d from x; of two such q it is the greater.
pub record Closest (x : ℤ) (d half : ℕ) (q : ℤ) : Type 0 where
  pub whole : d ≡ 2 * half
  pub low : (q *ℤ pos d) ≤ℤ (x +ℤ pos half)
  pub high : x <ℤ (q *ℤ pos d +ℤ pos half)

-- Where nothing is clamped, the stochastic results for x over all 2 ^ k draws sum to 2 ^ k times the floor, and the count more.
abbrev pub Mean : ℕ → ℕ → ℤ → Type 0
Mean n k x =
    Signed32 (floor x (2 ^ n)) → Signed32 (floor x (2 ^ n) +ℤ pos 1)
    → sum_ℤ (rounded Stochastic n k x) (below (2 ^ k)) ≡ pos (2 ^ k) *ℤ floor x (2 ^ n) +ℤ pos (far_count n k x)

-- what holds of every rounding of x
pub record UnitLaws (n k : ℕ) (x : ℤ) : Type 0 where
  -- the floor and the remainder of x are those of a division by 2 ^ n
  pub division : Divides x (2 ^ n)
  pub closest : Closest x (2 ^ n) (2 ^ (n - 1)) (quotient Nearest n k x 0)
  pub clamping : (z : ℤ) → Clamps z
  -- every word draws one of the 2 ^ k draws
  pub drawn : (word : ℕ) → word < 2 ^ 32 → draw k word < 2 ^ k
  pub mean : Mean n k x
