pub mod Arena
pub mod Grains
pub mod Inside
pub mod Lending
pub mod Memory
pub mod MemoryLending
