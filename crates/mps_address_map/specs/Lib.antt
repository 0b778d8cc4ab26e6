pub mod AddressMap
pub mod Words
