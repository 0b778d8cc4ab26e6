pub mod OneWord
pub mod OpenRuns
pub mod Row
pub mod Table
