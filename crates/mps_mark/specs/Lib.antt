pub use Rattle.mps_seg.specs.Moving
pub use Rattle.mps_seg.specs.Reclaiming
