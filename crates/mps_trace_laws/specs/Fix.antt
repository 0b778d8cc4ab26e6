-- Fixes and scans: steps of the abstract collector.
pub mod Room
pub mod Tracing
pub mod Growing
pub mod Finding
pub mod Steps
pub mod Cells
pub mod Scanning
pub mod Housed
pub mod Ranks
