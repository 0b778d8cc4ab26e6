-- The begin of a collection: the flip of the model.
pub mod MovesOfObjects
pub mod Before
pub mod Condemning
pub mod Begun
