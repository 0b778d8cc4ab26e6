pub mod Told
pub mod Memory
pub mod Groups
pub mod Session
pub mod Standing
