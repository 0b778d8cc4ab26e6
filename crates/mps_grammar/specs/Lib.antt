pub mod Calls
pub mod Form
pub mod Examples
pub mod Filled
