pub mod Texts
pub mod Numerals
pub mod Fields
pub mod Names
pub mod FormatNames
pub mod Queries
pub mod Answers
pub mod Lines
