pub mod Adding
pub mod Loads
pub mod Pooled
pub mod Table
