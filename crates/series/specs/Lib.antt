pub mod Harmonic
