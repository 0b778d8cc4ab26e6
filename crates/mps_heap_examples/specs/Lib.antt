pub mod Listed
pub mod Addresses
