pub mod Manual
