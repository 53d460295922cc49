use Rattle.std.proofs.Common.{◌≡◌, ℕ, sym, ap, ◌∙◌, arith}
use Rattle.draws.specs.Refusals.{refused_by}
use Rattle.draws.proofs.Shown.{one_digit}
use Rattle.draws.proofs.refusal.Refusal.text.Goals as goal

pub returns-in-1 : goal.returns-in-1
returns-in-1 g c = one_digit 1 (omega arith) ∙ ap refused_by (sym c.in-1.is ∙ c.number.ensures)

pub returns-in-2 : goal.returns-in-2
returns-in-2 g c = one_digit 2 (omega arith) ∙ ap refused_by (sym c.in-2.is ∙ c.number.ensures)

pub returns-in-3 : goal.returns-in-3
returns-in-3 g c = one_digit 3 (omega arith) ∙ ap refused_by (sym c.in-3.is ∙ c.number.ensures)

pub returns-in-4 : goal.returns-in-4
returns-in-4 g c = one_digit 4 (omega arith) ∙ ap refused_by (sym c.in-4.is ∙ c.number.ensures)

pub returns-in-5 : goal.returns-in-5
returns-in-5 g c = one_digit 5 (omega arith) ∙ ap refused_by (sym c.in-5.is ∙ c.number.ensures)

pub returns-in-6 : goal.returns-in-6
returns-in-6 g c = one_digit 6 (omega arith) ∙ ap refused_by (sym c.in-6.is ∙ c.number.ensures)

pub returns-in-7 : goal.returns-in-7
returns-in-7 g c = one_digit 7 (omega arith) ∙ ap refused_by (sym c.in-7.is ∙ c.number.ensures)

-- a number from 1 to 8 that is none of these is 8
pub returns-in_default : goal.returns-in_default
returns-in_default g c =
    let last : 8 ≡ g.Self.Refusal.refusal c.args.self = omega (arith, c.number.ensures, g.met.Self.Refusal.known c.args.self) in
    one_digit 8 (omega arith) ∙ ap refused_by last
