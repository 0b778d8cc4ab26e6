pub mod Access
pub mod Begin
pub mod Condemned
pub mod Examine
pub mod Finding
pub mod Flip
pub mod Noting
pub mod Reclaim
pub mod Registration
pub mod Roots
pub mod Scan
pub mod Splat
pub mod Trace
pub mod Unit
pub mod Collect
pub use Rattle.mps_amc.specs.Amc as AmcState
pub use Rattle.mps_ld.specs.State as LdState
pub use Rattle.mps_final.specs.State
pub use Rattle.mps_gen.specs.State as GenState
