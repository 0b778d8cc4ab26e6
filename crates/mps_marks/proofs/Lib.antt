pub mod Grey
pub mod Tally
