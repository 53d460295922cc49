pub mod Refusals
pub mod Meaning
pub mod Exact
pub mod Neighbours
pub mod Splits
pub mod Search
pub mod Questions
pub mod Determined
