pub mod Refusals
pub mod Streams
pub mod Taking
pub mod Sequences
pub mod DrawBits
pub mod Rules
pub mod Lists
pub mod Fairness
