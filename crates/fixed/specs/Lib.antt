pub mod Refusals
pub mod Sizes
pub mod Fixed
pub mod Stated
pub mod Sized
pub mod Numbers
pub mod Ranges
