-- The units of a collection: those of the abstract collector.
pub mod Finals
pub mod Standing
pub mod Examining
pub mod Laws
pub mod Left
