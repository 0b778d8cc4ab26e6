-- The read barrier: that of the abstract collector.
pub mod GreyWords
pub mod OneScan
pub mod Accessed
