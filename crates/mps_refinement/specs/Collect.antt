-- A full collection of a heap: a legal step of its world.
pub mod Leaving
pub mod Standing
pub mod Collecting
