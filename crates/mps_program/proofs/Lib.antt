pub mod Generated
pub mod GoodInput
pub mod Meanings
pub mod ReadBack
