pub mod Dropping
pub mod Outcomes
