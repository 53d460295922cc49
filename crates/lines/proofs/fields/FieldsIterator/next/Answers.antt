use Rattle.std.proofs.Common.{◌∙◌, length, sym, ap, arith}
use Rattle.std.proofs.lemmas.List.{take_rest}
use Rattle.lines.proofs.Splits.{none, found}
use Rattle.lines.proofs.fields.FieldsIterator.next.Goals as goal

pub returns-in_err-text-clause-steps : goal.returns-in_err-text-clause-steps
returns-in_err-text-clause-steps c = grind (arith, none c.self.inside.rest.now (sym c.in_err-text.ensures), c.self.view_is)

pub returns-clause-steps : goal.returns-clause-steps
returns-clause-steps c =
    sym c.self.view_is
    ∙ found c.self.inside.rest.now _ _ _ _ _ _ c.in_ok-text.ensures (take_rest c.self.inside.rest.now c.in_ok-text.field-0) c.field_end.ensures c.unwrap_or.ensures c.split_at.ensures.front c.split_at.ensures.back

pub returns-clause-goes : goal.returns-clause-goes
returns-clause-goes c = let fewer = ap length (returns-clause-steps c) in record { on = λ h. omega (arith, fewer); keeps = tt; rests = λ h. tt }
