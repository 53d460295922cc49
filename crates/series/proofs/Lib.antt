pub mod Evaluated
pub mod Terms
