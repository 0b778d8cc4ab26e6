pub mod Adding
pub mod AllSet
pub mod Clearing
pub mod OneWord
pub mod Searches
pub mod Ranges
pub mod Row
pub mod Runs
pub mod RunsOfWords
pub mod SweptTables
pub mod Tables
mod TwoTables
