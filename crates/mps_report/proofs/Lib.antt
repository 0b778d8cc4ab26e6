pub mod Appended
pub mod Outside
pub mod Gathering
pub mod Logging
pub mod Waiting
