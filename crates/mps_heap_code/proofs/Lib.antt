pub mod Collected
pub mod CountedUnits
pub mod Following
pub mod Messages
pub mod Unregistering
