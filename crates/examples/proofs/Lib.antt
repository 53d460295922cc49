pub mod FixedExamples
