mod Halves
pub mod TakenBack
