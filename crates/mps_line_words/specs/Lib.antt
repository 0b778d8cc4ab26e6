pub mod Lines
pub mod Word
pub mod Reading
pub mod Number
pub mod Gathered
pub mod Name
pub mod Head
