pub mod Between
pub mod NextLine
pub mod Searches
