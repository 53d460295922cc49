use Rattle.std.proofs.Common.{◌≡◌, ℕ, ℤ, sym, ◌∙◌, subst, SFits, rules, arith}
use mir.Syntax.{w128}
use Rattle.std.proofs.lemmas.Int.{ints, to_z-of_z}
use Rattle.whole.specs.Division.{Divided}
use Rattle.formats.specs.Exact.{Exact}
use Rattle.formats.specs.Splits.{Splits}
use Rattle.fixed.specs.declared.sizes.Fixed.{Fixed}
use Rattle.fixed.specs.Sized.{format_of, Beyond}
use Rattle.fixed.proofs.Places.{placed_at_greatest, placed_at_least}
use Rattle.fixed.proofs.sizes.Fixed.place.Goals as goal

pub returns-in-Some : goal.returns-in-Some
returns-in-Some c =
    let n : ℤ = c.args.x.numerator in
    let floor : ℤ = c.divided-floor.result.0 in
    let above = c.divided-floor.result.1 in
    let near = c.in-Some.near in
    let fits : SFits w128 floor = search rules in
    let value : near.value ≡ floor = c.in-Some.ensures.1 ∙ to_z-of_z w128 floor fits in
    let parts = c.divided-floor.ensures.whole in
    let divided : Divided n above.whole near.value above.part =
    subst (λ (z : ℤ). Divided n above.whole z above.part) (sym value) (subst (λ (d : ℕ). Divided n d floor above.part) (sym parts) c.divided-floor.ensures.divided) in
    subst (λ (f : Fixed). Splits (format_of f) c.args.k.bits (record { numerator = n; denominator = c.args.x.denominator }) c.split_above.result) c.in-Some.ensures.0
    (subst (λ (d : ℕ). Splits (format_of near.format) c.args.k.bits (record { numerator = n; denominator = d }) c.split_above.result) parts (c.split_above.ensures n divided))

pub returns-in-None : goal.returns-in-None
returns-in-None c =
    let f = c.args.self in
    let x : Exact = record { numerator = c.args.x.numerator; denominator = c.args.x.denominator } in
    let floor : ℤ = c.divided-floor.result.0 in
    let above = c.divided-floor.result.1 in
    let end = c.least_number.ensures in
    let fits : SFits w128 floor = search rules in
    let beyond : Beyond f floor = subst (Beyond f) (to_z-of_z w128 floor fits) c.in-None.ensures in
    placed_at_least f x floor above.part c.divided-floor.ensures.divided c.args.k.bits c.clamped_at.result c.least_number.result.format c.least_number.result.value end.format c.clamped_at.ensures end.value
    (omega (arith, ints, c.if-floor-lt0.true)) beyond

pub returns-in-None-2 : goal.returns-in-None-2
returns-in-None-2 c =
    let f = c.args.self in
    let x : Exact = record { numerator = c.args.x.numerator; denominator = c.args.x.denominator } in
    let floor : ℤ = c.divided-floor.result.0 in
    let above = c.divided-floor.result.1 in
    let end = c.greatest_number.ensures in
    let fits : SFits w128 floor = search rules in
    let beyond : Beyond f floor = subst (Beyond f) (to_z-of_z w128 floor fits) c.in-None.ensures in
    placed_at_greatest f x floor above.part c.divided-floor.ensures.divided c.args.k.bits c.clamped_at-in-None-2.result c.greatest_number.result.format c.greatest_number.result.value end.format c.clamped_at-in-None-2.ensures end.value
    (omega (arith, ints, c.if-floor-lt0.false)) beyond
