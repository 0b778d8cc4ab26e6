pub mod Ending
pub mod LogFile
pub mod Pieces
pub mod Run
pub mod Script
pub mod Leaving
pub mod Running
pub mod Following
pub use Rattle.mps_log_reader.specs.BadLog
pub use Rattle.mps_log_reader.specs.Causes
pub use Rattle.mps_log_reader.specs.Ending as LogReaderEnding
pub use Rattle.mps_log_reader.specs.LogPrefix
pub use Rattle.mps_log_reader.specs.Opening
pub use Rattle.mps_script.specs.Line
pub use Rattle.mps_script.specs.Script as ScriptScript
