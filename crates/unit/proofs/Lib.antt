pub mod Bits
pub mod Halves
pub mod Means
pub mod ModeNumbers
