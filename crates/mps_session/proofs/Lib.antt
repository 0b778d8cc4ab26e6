pub mod Groups
pub mod CanCollect
pub mod Answering
pub mod Standing
pub mod Keeping
