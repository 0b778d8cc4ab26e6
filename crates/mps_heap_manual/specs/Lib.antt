pub mod Lending
pub mod Placed
