mod AnyLost
pub mod ApartRuns
pub mod BitRuns
pub mod ContainedRuns
pub mod Counts
pub mod Dense
pub mod Dropping
pub mod EitherBits
pub mod ExtentBits
pub mod ExtentLengths
pub mod FirstRun
pub mod LostRuns
pub mod LowestGap
pub mod Moved
pub mod NewTables
pub mod Passing
pub mod PutExtent
pub mod RunOver
pub mod Sweep
pub mod Swept
pub mod Tables
pub mod TakenExtent
pub mod Tally
mod Uncovered
pub mod WrittenBits
