use Rattle.std.proofs.Common.{◌≡◌, ℕ, ◌-◌, ◌/◌, ◌%◌, ◌^◌, ◌<◌, ℤ, pos, negsuc, ◌-ℤ◌, ◌<ℤ◌, unsigned_abs, sym, ap, ◌∙◌, subst, div-le_self, arith, to_z, of_z}
use mir.Syntax.{w128}
use Rattle.std.proofs.lemmas.Int.{ints}
use Rattle.whole.specs.Division.{Divided}
use Rattle.whole.proofs.Divisions.{floor_holds}
use Rattle.formats.specs.Exact.{Exact}
use Rattle.fixed.proofs.Machine.{complement_size, negative_is, minus_one_less}
use Rattle.fixed.proofs.fraction.Fraction.divided.Goals as goal

-- a numerator below 0 is -1 - m, and is divided as that
pub returns-else-self-ge0-clause-divided : goal.returns-else-self-ge0-clause-divided
returns-else-self-ge0-clause-divided c =
    let n : ℤ = c.self.inside.numerator in
    let d : ℕ = c.self.inside.denominator in
    let m : ℕ = complement_size n in
    let less : n <ℤ pos 0 = omega (arith, ints, c.if-self-ge0.false) in
    let whole : n ≡ negsuc m = negative_is n (omega (arith, ints, c.self.invariant.0)) less in
    let small : m < 2 ^ 64 = omega (arith, subst (λ (z : ℤ). unsigned_abs z < 2 ^ 64) whole c.self.invariant.0) in
    let fits : m / d < 2 ^ 64 = omega (arith, div-le_self m d, small) in
    let parts : Divided n d (negsuc (m / d)) ((d - 1) - m % d) =
    subst (λ (z : ℤ). Divided z d (negsuc (m / d)) ((d - 1) - m % d)) (sym whole) (floor_holds (negsuc m) d c.self.invariant.1) in
    let floor : to_z w128 (of_z w128 (negsuc 0 -ℤ to_z w128 (of_z w128 c.from-else-self-ge0.result))) ≡ negsuc (m / d) =
    ap (λ (q : ℤ). to_z w128 (of_z w128 (negsuc 0 -ℤ to_z w128 (of_z w128 q)))) c.from-else-self-ge0.ensures ∙ minus_one_less (m / d) fits in
    subst (λ (x : Exact). Divided x.numerator x.denominator (to_z w128 (of_z w128 (negsuc 0 -ℤ to_z w128 (of_z w128 c.from-else-self-ge0.result)))) ((d - 1) - m % d)) c.self.view_is
    (subst (λ (q : ℤ). Divided n d q ((d - 1) - m % d)) (sym floor) parts)
