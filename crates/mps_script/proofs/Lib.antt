pub mod FirstLetters
pub mod Scripts
pub mod FirstOfLine
