-- The nearest whole number, from the floor and the remainder. Assumes nothing.
use Rattle.std.proofs.Common.{◌≡◌, ℕ, ◌+◌, ◌-◌, ◌*◌, ◌^◌, ◌<◌, ◌≤◌, ℤ, pos, ◌+ℤ◌, sym, ap, ◌∙◌, subst, arith}
use Rattle.std.proofs.lemmas.Nat.{pow_pos, pow-add}
use Rattle.whole.specs.Division.{floor, modulo}
use Rattle.whole.proofs.Divisions.{floor_stays, floor_rises}

-- 2 ^ n is twice its half
pub halved : (n : ℕ) → 1 ≤ n → 2 ^ n ≡ 2 * 2 ^ (n - 1)
halved n h =
    let parts : n ≡ 1 + (n - 1) = omega arith in
    ap (λ (m : ℕ). 2 ^ m) parts ∙ pow-add 2 1 (n - 1)

module _ (x : ℤ) (n : ℕ) (some : 1 ≤ n) where
  -- below half, the nearest is the floor
  pub nearest_below : modulo x (2 ^ n) < 2 ^ (n - 1) → floor (x +ℤ pos (2 ^ (n - 1))) (2 ^ n) ≡ floor x (2 ^ n)
  nearest_below =
      subst (λ (d : ℕ). modulo x d < 2 ^ (n - 1) → floor (x +ℤ pos (2 ^ (n - 1))) d ≡ floor x d) (sym (halved n some)) (floor_stays x (2 ^ (n - 1)))

  -- from half on, it is one more
  pub nearest_above : 2 ^ (n - 1) ≤ modulo x (2 ^ n) → floor (x +ℤ pos (2 ^ (n - 1))) (2 ^ n) ≡ floor x (2 ^ n) +ℤ pos 1
  nearest_above =
      subst (λ (d : ℕ). 2 ^ (n - 1) ≤ modulo x d → floor (x +ℤ pos (2 ^ (n - 1))) d ≡ floor x d +ℤ pos 1) (sym (halved n some)) (floor_rises x (2 ^ (n - 1)) (pow_pos (n - 1)))
