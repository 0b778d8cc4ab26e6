-- Reclaims of segments: units of the abstract collector.
pub mod Freed
pub mod Left
pub mod Moves
pub mod Room
pub mod Units
pub mod Laws
