pub mod BadReplay
pub mod Listing
pub mod Entries
pub mod Ending
pub mod Listed
pub mod Replaying
