pub use Rattle.mps_workload.specs.Ending
pub use Rattle.mps_workload.specs.Script
pub use Rattle.mps_cnv.specs.Converted
pub use Rattle.mps_txt.specs.BadTextLine
pub use Rattle.mps_txt.specs.Text
pub use Rattle.mps_blocks.specs.BadReplay
pub use Rattle.mps_blocks.specs.Listed
pub use Rattle.mps_blocks.specs.Listing
pub use Rattle.mps_blocks.specs.Ending as ReplayEnding
pub use Rattle.mps_cnv.specs.Portable
