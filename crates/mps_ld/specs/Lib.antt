pub mod Flips
pub mod State
