pub mod Text
pub use Rattle.mps_line_words.specs.Head
pub use Rattle.mps_line_words.specs.Lines
pub use Rattle.mps_line_words.specs.Name
pub use Rattle.mps_line_words.specs.Number
pub use Rattle.mps_line_words.specs.Reading
pub use Rattle.mps_line_words.specs.Word
