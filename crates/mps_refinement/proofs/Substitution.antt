-- What applying a transform makes of a heap: the old objects of its pairs give way to the new ones.
pub mod Replaced
pub mod Rewritten
pub mod AppliedPools
pub mod CellsAfter
pub mod SubstitutedObjects
pub mod Applicable
pub mod Any
pub mod SubstitutedSlots
pub mod Blocked
pub mod LivePoints
