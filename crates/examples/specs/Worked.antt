-- The worked examples of all formats, as one statement. Assumes nothing.
use Rattle.examples.specs.Fixed.{FixedExamples}

pub record WorkedExamples : Type 0 where
  pub fixed : FixedExamples
