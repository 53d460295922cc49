pub mod Refusals
pub mod Rounding
pub mod Laws
