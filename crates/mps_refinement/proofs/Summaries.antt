-- What a call leaves of the summaries of segments: they have the zones of what their blocks and reservations refer to.
pub mod Kept
pub mod Homes
pub mod OtherPools
pub mod NewRuns
pub mod FreedBlocks
pub mod AtOnce
pub mod CellWrites
pub mod ObjectCells
pub mod ReservedCells
pub mod ManualWords
