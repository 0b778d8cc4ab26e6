pub mod Portable
pub mod Converted
pub mod Converting
pub mod Skipping
