-- The flip that begins a collection.
pub mod FlipLists
pub mod Flipped
pub mod Flipping
pub mod FlipBegins
pub mod FewUnits
pub mod Remembered
