-- The begin of a collection: the flip of the model.
pub mod UnitsFew
pub mod HeldSegments
pub mod NothingAtHand
pub mod RankedNails
pub mod CondemnedIds
pub mod MovesAtFlip
pub mod FlippedSegments
pub mod FlippedImage
pub mod FlipStands
pub mod RootsHeld
pub mod FinalsThen
pub mod Acted
pub mod OverAtOnce
pub mod MovesOfObjects
