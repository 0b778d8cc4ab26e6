pub mod Meaning
pub mod Files
pub mod Kinds
pub mod Words
pub mod Seen
pub mod Runnable
