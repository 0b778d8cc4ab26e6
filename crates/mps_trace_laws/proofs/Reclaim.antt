-- Reclaims of segments: units of the abstract collector.
pub mod LostRuns
pub mod SegmentBounds
pub mod Freed
pub mod Without
pub mod FreedImage
pub mod HeldSegments
pub mod Around
pub mod Reclaimed
pub mod Next
pub mod Emptied
pub mod Ending
pub mod Unit
pub mod Room
pub mod LastBand
