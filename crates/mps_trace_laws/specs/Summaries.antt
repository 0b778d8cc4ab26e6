-- Summaries have the zones of what segments refer to.
pub mod Summed
pub mod Laws
