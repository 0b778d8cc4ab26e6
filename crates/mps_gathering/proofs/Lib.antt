pub mod Prefixes
pub mod Handing
pub mod Names
pub mod Settled
pub mod Begun
