pub mod Asked
pub mod Range
pub mod RightAnswer
