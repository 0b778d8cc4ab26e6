-- The read barrier: that of the abstract collector.
pub mod Laws
