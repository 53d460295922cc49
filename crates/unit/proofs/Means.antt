-- The laws of the unit hold. Assumes nothing.
use Rattle.std.proofs.Common.{◌≡◌, ℕ, ◌-◌, ◌*◌, ◌^◌, ◌<◌, ◌≤◌, Bool, true, false, cond, ℤ, pos, negsuc, ◌+ℤ◌, ◌*ℤ◌, ◌∙◌, ap₂, arith}
use Rattle.std.proofs.Math.Nat.{mul-lt-mul_of_pos_left}
use Rattle.std.proofs.lemmas.Int.{ints}
use Rattle.std.proofs.lemmas.Nat.{pow_pos, div_below}
use Rattle.whole.specs.Division.{floor, modulo}
use Rattle.whole.specs.Sums.{below}
use Rattle.whole.proofs.Divisions.{divides, floor_holds}
use Rattle.whole.proofs.Sums.{sum_ℤ_same, sum_ℤ_passed, length-below}
use Rattle.draws.specs.Rules.{compares}
use Rattle.draws.proofs.Draws.{draw_below}
use Rattle.draws.specs.Fairness.{compares_fair}
use Rattle.unit.specs.declared.modes.Mode.TheVariants.{Nearest, Stochastic}
use Rattle.unit.specs.Rounding.{clamped, far_count, quotient, rounded}
use Rattle.unit.specs.Laws.{Signed32, Clamps, Closest, Mean, UnitLaws}
use Rattle.unit.proofs.Halves.{halved}

-- what fits is not changed
clamped_inside : (z : ℤ) → Signed32 z → clamped z ≡ z
clamped_inside (pos a) h = omega (arith, ints, h.most)
clamped_inside (negsuc a) h = omega (arith, ints, h.least)

-- clamping keeps its law
pub clamps : (z : ℤ) → Clamps z
clamps (pos a) = record {
  fits = record { least = omega (arith, ints); most = omega (arith, ints) };
  inside = clamped_inside (pos a);
  above = λ h. omega (arith, ints, h);
  under = λ h. omega (arith, ints, h);
}
clamps (negsuc a) = record {
  fits = record { least = omega (arith, ints); most = omega (arith, ints) };
  inside = clamped_inside (negsuc a);
  above = λ h. omega (arith, ints, h);
  under = λ h. omega (arith, ints, h);
}

-- the count is one that a rule can be asked with
pub far_count_below : (n k : ℕ) (x : ℤ) → far_count n k x < 2 ^ k
far_count_below n k x =
    let low : modulo x (2 ^ n) < 2 ^ n = (floor_holds x (2 ^ n) (pow_pos n)).rest in
    div_below (2 ^ k * modulo x (2 ^ n)) (2 ^ n) (2 ^ k) (pow_pos n) (mul-lt-mul_of_pos_left low (pow_pos k))

-- near or far, neither is clamped where both are signed 32-bit numbers
chosen_inside : (q : ℤ) → Signed32 q → Signed32 (q +ℤ pos 1) → (b : Bool) → clamped (cond b (q +ℤ pos 1) q) ≡ cond b (q +ℤ pos 1) q
chosen_inside q low high true = clamped_inside (q +ℤ pos 1) high
chosen_inside q low high false = clamped_inside q low

-- over the 2 ^ k draws, the floor each time and one more for each that says far
pub mean : (n k : ℕ) (x : ℤ) → 1 ≤ k → k ≤ 32 → Mean n k x
mean n k x least most low high =
    let q : ℤ = floor x (2 ^ n) in
    let R : ℕ = far_count n k x in
    sum_ℤ_same (rounded Stochastic n k x) (λ d. cond (compares k R d) (q +ℤ pos 1) q) (λ d. chosen_inside q low high (compares k R d)) (below (2 ^ k))
    ∙ sum_ℤ_passed (compares k R) q (below (2 ^ k))
    ∙ ap₂ (λ (m c : ℕ). pos m *ℤ q +ℤ pos c) (length-below (2 ^ k)) (compares_fair k R least most (far_count_below n k x))

-- from the division of x and a half by 2 ^ n
pub closest : (n k : ℕ) (x : ℤ) → 1 ≤ n → Closest x (2 ^ n) (2 ^ (n - 1)) (quotient Nearest n k x 0)
closest n k x some =
    let e = floor_holds (x +ℤ pos (2 ^ (n - 1))) (2 ^ n) (pow_pos n) in
    let d : 2 ^ n ≡ 2 * 2 ^ (n - 1) = halved n some in
    record { whole = d; low = omega (arith, ints, e.whole); high = omega (arith, ints, e.whole, e.rest) }

-- all laws of one rounding
pub unit_laws : (n k : ℕ) (x : ℤ) → 1 ≤ n → 1 ≤ k → k ≤ 32 → UnitLaws n k x
unit_laws n k x some least most = record {
  division = divides x (2 ^ n) (pow_pos n);
  closest = closest n k x some;
  clamping = clamps;
  drawn = λ word fits. draw_below k word most fits;
  mean = mean n k x least most;
}
