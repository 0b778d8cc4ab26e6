-- The image of objects that the words of an arena are.
pub mod Memory
pub mod Image
pub mod Fixing
pub mod Scanning
pub mod AtHand
pub mod Bands
pub mod AtRest
pub mod Changes
pub mod Steps
pub mod Laws
pub mod SegmentWords
pub mod ArenaLaws
