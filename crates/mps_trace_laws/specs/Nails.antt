-- Blocks that words of areas nail: the objects that the model pins.
pub mod Nailed
pub mod Flipped
