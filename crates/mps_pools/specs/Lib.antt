pub mod Collecting
pub mod Inside
pub mod Pools
pub use Rattle.mps_manual.specs.Manual
