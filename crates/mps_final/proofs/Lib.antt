pub mod LiveEntries
pub mod Positions
