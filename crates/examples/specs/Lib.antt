pub mod Shapes
pub mod Fixed
pub mod Worked
