pub mod Converting
pub mod Skipping
pub mod ReadFault
pub mod WriteFault
pub mod WholeReading
pub mod Uniqueness
pub mod AllKinds
