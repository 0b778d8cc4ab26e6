pub mod Buffers
pub mod Colons
pub mod Heads
pub mod Masks
