pub mod Applying
pub mod Blocking
pub mod Inside
pub mod Marks
pub mod Passing
pub mod Slots
pub mod State
pub mod Summed
