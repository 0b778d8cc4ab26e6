pub mod Asked
mod InRange
mod RangesOfLists
mod RangesOfReadings
pub mod Following
pub mod GoodScript
pub mod Leaving
pub mod LineByLine
pub mod LogFile
pub mod Batches
pub mod OneOutput
pub mod Pieces
pub mod RecordBytes
pub mod Records
pub mod Interning
pub mod Reported
pub mod SoFar
mod SomeWords
pub mod Steps
pub mod Turns
