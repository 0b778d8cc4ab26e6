pub mod Buffer
pub mod Collecting
pub mod Condemned
pub mod Counting
pub mod Lending
pub mod Moving
pub mod Placing
pub mod Reclaiming
pub mod Segs
pub mod Table
pub mod Unmarking
pub use Rattle.mps_bits.specs.Table as BitsTable
pub use Rattle.mps_arena.specs.Arena
pub use Rattle.mps_extents.specs.Extents
pub use Rattle.mps_marks.specs.Marks
