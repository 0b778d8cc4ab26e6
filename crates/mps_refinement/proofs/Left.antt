-- The units that the collection of a heap has left are those of the abstract collector: each unit is one less, and a flip leaves few.
pub mod Counting
pub mod Alike
pub mod AfterUnits
pub mod FlipBounds
pub mod AfterFlips
pub mod Starts
pub mod Placing
pub mod Reserves
pub mod Gets
pub mod Within
