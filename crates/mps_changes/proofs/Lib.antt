pub mod Checks
pub mod ActChanges
pub mod AsideFacts
pub mod Lookups
pub mod Entries
pub mod Written
pub mod OneMore
pub mod Frames
