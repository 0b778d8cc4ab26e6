pub mod Committing
pub mod Inside
pub mod Polling
pub mod Ready
