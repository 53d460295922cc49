use Rattle.std.proofs.Common.{◌≡◌, ℤ, ◌+ℤ◌, ◌∙◌, subst, ap₂, SFits, to_z, of_z, rules}
use mir.Syntax.{w128}
use Rattle.std.proofs.lemmas.Int.{to_z-of_z}
use Rattle.fixed.specs.Numbers.{At}
use Rattle.fixed.proofs.Answering.{reaches}
use Rattle.fixed.proofs.number.Number.moved_code.Goals as goal

pub returns : goal.returns
returns c =
    let v : ℤ = c.args.self.value in
    let u : ℤ = c.args.units in
    let value : SFits w128 v = search rules in
    let sum : SFits w128 (v +ℤ u) = search rules in
    let same : to_z w128 (of_z w128 (to_z w128 (of_z w128 v) +ℤ to_z w128 (of_z w128 u))) ≡ v +ℤ u =
    ap₂ (λ (a b : ℤ). to_z w128 (of_z w128 (a +ℤ b))) (to_z-of_z w128 v value) (to_z-of_z w128 u c.ranges.units) ∙ to_z-of_z w128 (v +ℤ u) sum in
    reaches c.args.self.format (v +ℤ u) c.number_at.result (subst (λ (z : ℤ). At c.args.self.format z c.number_at.result) same c.number_at.ensures) c.map.result c.map.ensures.cases
