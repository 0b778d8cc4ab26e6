pub mod Rest
pub mod Sound
