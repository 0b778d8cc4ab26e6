pub mod Script
pub mod GenLines
pub mod Ending
