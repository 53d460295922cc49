pub mod OneAnswer
pub mod Shown
pub mod Steps
