use Rattle.std.proofs.Common.{ℤ, ◌∙◌, ap₂}
use Rattle.fixed.specs.declared.sizes.Fixed.{Fixed}
use Rattle.fixed.specs.Sized.{format_of}
use Rattle.fixed.proofs.Answering.{is_greatest}
use Rattle.fixed.proofs.sizes.Fixed.greatest.Goals as goal

pub returns : goal.returns
returns c =
    let end = c.greatest_number.ensures in
    is_greatest c.args.self c.code.result (c.code.ensures ∙ ap₂ (λ (g : Fixed) (v : ℤ). (format_of g).result v) end.format end.value)
