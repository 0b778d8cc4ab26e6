pub mod Asked
pub mod ReadBack
pub mod Over
