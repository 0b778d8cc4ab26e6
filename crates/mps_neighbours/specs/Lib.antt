pub mod Beside
pub use Rattle.mps_sac.specs.State as Caches
pub use Rattle.mps_snc.specs.State as Frames
pub use Rattle.mps_xform.specs.State as Transforms
