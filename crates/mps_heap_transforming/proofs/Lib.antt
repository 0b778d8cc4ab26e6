pub mod Applying
pub mod Outcomes
