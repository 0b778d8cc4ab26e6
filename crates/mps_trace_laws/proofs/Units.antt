-- The units of a collection: those of the abstract collector.
pub mod CallsLeave
pub mod Counting
pub mod TwoLists
pub mod Finals
pub mod Examining
pub mod Entering
pub mod Still
pub mod Posted
pub mod CanExamine
pub mod RoomLeft
pub mod MovesBound
pub mod Reclaiming
pub mod Splatting
pub mod Rows
pub mod Scanning
pub mod Ready
