pub mod Answering
pub mod Machine
pub mod Places
