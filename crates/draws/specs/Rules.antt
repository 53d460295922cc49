-- Decision rules: does a draw say far? Assumes nothing.
use Rattle.std.specs.Prelude.{◌≡◌, ℕ, ◌+◌, ◌^◌, ◌<◌, ◌≤◌, Bool, true, false, ◌&&◌, List, codes, nat_le, nat_lt}
use Rattle.whole.specs.Sums.{count, below}
use Rattle.draws.specs.DrawBits.{bits_in_range}
use Rattle.draws.specs.declared.rules.Neighbour.{Neighbour}
use Rattle.draws.specs.declared.rules.Neighbour.TheVariants.{Near, Far}

-- near is false, far is true
abbrev pub is_far : Neighbour → Bool
is_far Near = false
is_far Far = true

-- as it is printed
abbrev pub neighbour_name : Neighbour → List ℕ
neighbour_name Near = codes "near"
neighbour_name Far = codes "far"

-- whether a rule says far, for draws of k bits, a count and a draw
abbrev pub Says : Type 0
Says = ℕ → ℕ → ℕ → Bool

-- k is 1 to 32, and count and draw are below 2 ^ k
abbrev pub in_range : Says
in_range k R d = bits_in_range k && (nat_lt R (2 ^ k) && nat_lt d (2 ^ k))

-- how many of the 2 ^ k draws say far
abbrev pub far_draws : Says → ℕ → ℕ → ℕ
far_draws says k R = count (says k R) (below (2 ^ k))

-- exactly R of the 2 ^ k draws say far
abbrev pub Fair : Says → Type 0
Fair says = (k R : ℕ) → 1 ≤ k → k ≤ 32 → R < 2 ^ k → far_draws says k R ≡ R

-- outside the ranges every answer is near
abbrev pub NearOutside : Says → Type 0
NearOutside says = (k R d : ℕ) → in_range k R d ≡ false → says k R d ≡ false

-- the comparison rule: far when the draw is below the count
abbrev pub compares : Says
compares k R d = in_range k R d && nat_lt d R

-- the carry rule: far when draw and count add up to 2 ^ k or more
abbrev pub carries : Says
carries k R d = in_range k R d && nat_le (2 ^ k) (d + R)
