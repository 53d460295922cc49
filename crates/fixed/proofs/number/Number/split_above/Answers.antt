use Rattle.std.proofs.Common.{sym, subst, refl, arith}
use Rattle.formats.specs.Exact.{Exact}
use Rattle.formats.specs.Splits.{Splits}
use Rattle.fixed.specs.Sized.{format_of}
use Rattle.fixed.proofs.Answering.{past_greatest}
use Rattle.fixed.proofs.Places.{placed_past, placed_on, placed_between}
use Rattle.fixed.proofs.number.Number.split_above.Goals as goal

pub returns-then-above-eq0 : goal.returns-then-above-eq0
returns-then-above-eq0 c n parts =
    let f = c.args.self.format in
    let x : Exact = record { numerator = n; denominator = c.args.above.whole } in
    placed_on x c.args.self.value c.args.above.part parts f.sign f.integer f.fraction c.args.k.bits c.args.self.inside (omega (arith, c.if-above-eq0.true)) c.code-near.result c.code-near.ensures

pub returns-in-Some : goal.returns-in-Some
returns-in-Some c n parts =
    let f = c.args.self.format in
    let x : Exact = record { numerator = n; denominator = c.args.above.whole } in
    placed_between x c.args.self.value c.args.above.part parts f.sign f.integer f.fraction c.args.k.bits c.args.self.inside c.in-Some.ensures.0 (omega (arith, c.if-above-eq0.false))
    c.code-near.result c.in-Some.far c.share.result c.code-near.ensures c.in-Some.ensures.1 c.share.ensures

pub returns-in-None : goal.returns-in-None
returns-in-None c n parts =
    let f = c.args.self.format in
    let x : Exact = record { numerator = n; denominator = c.args.above.whole } in
    subst (Splits (format_of f) c.args.k.bits x) (sym c.clamped_at.ensures)
    (placed_past x c.args.self.value c.args.above.part parts f.sign f.integer f.fraction c.args.k.bits c.args.self.inside
    (past_greatest f c.args.self.value c.args.self.inside c.in-None.ensures) (omega (arith, c.if-above-eq0.false)) ((format_of f).result c.args.self.value) refl)
