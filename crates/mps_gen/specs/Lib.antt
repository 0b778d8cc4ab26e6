pub mod Due
pub mod Inside
pub mod State
