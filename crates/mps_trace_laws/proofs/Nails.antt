-- Blocks that words of areas nail: the objects that the model pins.
pub mod OneWord
pub mod Marks
pub mod Pinned
pub mod Modelled
pub mod Flipped
pub mod Remembered
