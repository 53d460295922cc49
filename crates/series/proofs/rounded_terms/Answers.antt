use Rattle.std.proofs.Common.{◌≡◌, ℕ, ◌+◌, ◌-◌, ◌/◌, pos, arith, w64, rules}
use Rattle.std.proofs.lemmas.Int.{to_z-of_z}
use Rattle.draws.specs.DrawBits.{draw}
use Rattle.unit.specs.Rounding.{rounded}
use Rattle.series.proofs.Terms.{summed_none, summed_added, word_left}
use Rattle.series.proofs.rounded_terms.Goals as goal

pub loop-i-init : goal.loop-i-init
loop-i-init g c =
    let s = c.args.stretch.now.unit.now in
    summed_none g.S.Source.coming s.mode s.k.bits c.args.source.now (g.met.S.Source.listed c.args.source.now)

-- a word is left before each term, so no rounding is refused
pub returns-in_err-sum : goal.returns-in_err-sum
returns-in_err-sum g c =
    let before = c.args.source.now in
    let now = c.loop-i.source in
    let told = c.in_err-sum.ensures.answer in
    let so = rw told.0 at c.loop-i.invariant.left in
    let some = word_left g.S.Source.coming 0 (c.loop-i.i - 2) before now (g.met.S.Source.listed before) (omega (arith, c.loop-i-test.true)) (c.requires.1 told.0) so in
    cc told.1.0

pub loop-i-preserved : goal.loop-i-preserved
loop-i-preserved g c =
    let s = c.args.stretch.now.unit.now in
    let coming = g.S.Source.coming in
    let i = c.loop-i.i in
    let m : ℕ = i - 2 in
    let now = c.loop-i.source in
    let v = c.in_ok-sum.field-0 in
    let told = c.in_ok-sum.ensures.answer in
    let x_read = to_z-of_z w64 c.from.result (search rules) in
    let place : i ≡ 2 + m = omega (arith, c.loop-i.auto.i) in
    let exact : v ≡ rounded s.mode 9 s.k.bits (pos (65536 / (2 + m))) (draw s.k.bits ((coming now).word 0)) = cc in
    summed_added coming s.k.bits m c.args.source.now now s.mode c.round.new.source (i + 1 - 2) _ v (omega (arith, c.loop-i-test.true)) (omega (arith, place)) (search rules) c.loop-i.invariant exact told.1
