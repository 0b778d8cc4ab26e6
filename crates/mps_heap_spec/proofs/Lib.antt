pub mod Beginning
pub mod ByKeys
pub mod Following
pub mod KeysStay
pub mod NamesStay
pub mod References
pub mod Writing
