-- Worked examples in s8.7 at k = 8. Assumes nothing.
use Rattle.std.specs.Prelude.{◌≡◌, ℕ}
use Rattle.draws.specs.Rules.{compares}
use Rattle.formats.specs.declared.split.Operation.{Operation}
use Rattle.formats.specs.declared.split.Operation.TheVariants.{Sum, Difference, Product, Quotient}
use Rattle.fixed.specs.Fixed.{fixed}
use Rattle.examples.specs.Shapes.{Example, SplitsInto, ClampsTo, code_sum}

abbrev pub in_s8_7 : Operation → ℕ → ℕ → Example
in_s8_7 op left right = record { format = fixed 1 8 7; calculation = record { operation = op; left = left; right = right }; k = 8 }

pub record FixedExamples : Type 0 where
  -- 1.0078125 squared: 2 of the 256 draws go up, and the codes of the results add up to 33282
  pub square : SplitsInto (in_s8_7 Product 0x0081 0x0081) 0x0082 0x0083 2
  pub square_sum : code_sum compares (in_s8_7 Product 0x0081 0x0081) ≡ 33282
  -- the least negative number times the least positive one lies just below 0
  pub below_zero : SplitsInto (in_s8_7 Product 0xFFFF 0x0001) 0xFFFF 0x0000 254
  -- one step past either end
  pub past_greatest : ClampsTo (in_s8_7 Sum 0x7FFF 0x0001) 0x7FFF
  pub past_least : ClampsTo (in_s8_7 Difference 0x8000 0x0001) 0x8000
  -- a third
  pub third : SplitsInto (in_s8_7 Quotient 0x0080 0x0180) 0x002A 0x002B 170
