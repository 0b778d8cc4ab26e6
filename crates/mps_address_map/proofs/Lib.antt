pub mod Entries
pub mod Sorted
pub mod WordEntries
