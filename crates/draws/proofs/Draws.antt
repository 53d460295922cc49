-- The draw of a 32-bit word. Assumes nothing.
use Rattle.std.proofs.Common.{◌≡◌, ℕ, ◌+◌, ◌-◌, ◌^◌, ◌<◌, ◌≤◌, subst, arith}
use Rattle.std.proofs.lemmas.Nat.{shr_below}
use Rattle.draws.specs.DrawBits.{draw}

-- a draw of k bits is below 2 ^ k
pub draw_below : (k word : ℕ) → k ≤ 32 → word < 2 ^ 32 → draw k word < 2 ^ k
draw_below k word most fits =
    let whole : 32 ≡ k + (32 - k) = omega arith in
    shr_below word k (32 - k) (subst (λ (m : ℕ). word < 2 ^ m) whole fits)
