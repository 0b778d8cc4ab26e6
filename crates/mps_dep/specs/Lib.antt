pub mod Following
pub mod Inside
pub mod Marks
pub mod State
