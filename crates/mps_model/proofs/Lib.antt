pub mod Appending
pub mod Reaching
pub mod Cutting
pub mod AtRest
pub mod Nulled
pub mod Taking
