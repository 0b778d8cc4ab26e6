pub mod Extents
pub mod Inside
pub mod Lost
pub use Rattle.mps_bits.specs.Table
