use Rattle.std.proofs.Common.{refl, ◌*◌, ◌∙◌, ap, arith}
use Rattle.lines.proofs.Digits.{ends_too_large}
use Rattle.lines.proofs.numerals.number.Goals as goal

pub returns-in_err-checked_mul : goal.returns-in_err-checked_mul
returns-in_err-checked_mul c =
    let large = rw c.from.ensures at c.in_err-checked_mul.ensures in
    rw c.from_residual-in_err-checked_mul.ensures (ends_too_large _ _ _ _ _ c.loop-byte.invariant.0 c.loop-byte-test.true _ _ c.in_ok-digit.ensures.0 c.in_ok-digit.ensures.1 refl (omega (arith, large)))

pub returns-in_err-number : goal.returns-in_err-number
returns-in_err-number c =
    let product = c.in_ok-checked_mul.ensures.1 ∙ ap (λ b. c.loop-byte.number * b) c.from.ensures in
    rw c.from_residual-in_err-number.ensures (ends_too_large _ _ _ _ _ c.loop-byte.invariant.0 c.loop-byte-test.true _ _ c.in_ok-digit.ensures.0 c.in_ok-digit.ensures.1 product (omega (arith, c.in_err-number.ensures, c.from-in-loop-byte.ensures)))
