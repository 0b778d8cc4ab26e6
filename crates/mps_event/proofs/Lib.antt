pub mod Bytes
pub mod Fields
pub mod Records
pub mod Names
pub mod Written
