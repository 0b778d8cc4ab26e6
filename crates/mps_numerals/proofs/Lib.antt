pub mod Decimals
pub mod DigitValues
pub mod Digits
pub mod Hexadecimals
pub mod Values
pub mod Written
