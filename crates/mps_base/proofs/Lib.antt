pub mod PoolKinds
pub mod Positions
pub mod Runs
