pub mod Amc
pub mod Moving
pub mod Reclaiming
