pub mod Streams
pub mod Causes
pub mod Reports
pub use Rattle.mps_numerals.specs.Hexadecimal
