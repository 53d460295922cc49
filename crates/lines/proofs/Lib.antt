pub mod Afters
pub mod Digits
pub mod Spelled
pub mod Splits
pub mod WordLists
