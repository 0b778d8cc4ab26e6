pub mod Line
pub mod Script
pub mod Filled
pub use Rattle.mps_grammar.specs.Calls
pub use Rattle.mps_grammar.specs.Form
pub use Rattle.mps_line_words.specs.Lines
pub use Rattle.mps_line_words.specs.Name
pub use Rattle.mps_line_words.specs.Word
