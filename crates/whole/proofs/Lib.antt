pub mod Counts
pub mod Divisions
pub mod Integers
pub mod Sums
