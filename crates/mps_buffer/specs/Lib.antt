pub mod Points
pub mod Tokens
