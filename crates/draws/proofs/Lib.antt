pub mod Draws
pub mod Shown
pub mod Skips
