pub mod Separated
pub mod Lines
pub mod Generated
mod Ends
mod Printing
mod Texts
mod SoFar
mod LastTwo
