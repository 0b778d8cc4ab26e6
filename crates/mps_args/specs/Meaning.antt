-- What the words of a command line may ask for.
use Rattle.std.specs.Prelude.{ℕ, List}

-- files by their names, a set of kinds of events by its bits
pub data Meaning : Type 0 where
  -- runs a script and writes its log
  Runs : (log script : List ℕ) → Meaning
  -- prints the portable text of a log, of some kinds of events
  Converts : (log : List ℕ) (kinds : ℕ) → Meaning
  -- prints the readable text of a portable text
  Reads : (text : List ℕ) → Meaning
  -- prints the blocks that are live at the end of a log
  Lists : (log : List ℕ) → Meaning
  -- prints a generated script
  Generates : (seed count : ℕ) → Meaning
  -- runs a generated script and writes its log
  RunsGenerated : (log : List ℕ) (seed count : ℕ) → Meaning
