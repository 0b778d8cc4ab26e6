pub mod Padded
pub mod Capacities
pub mod Classes
pub mod Filling
