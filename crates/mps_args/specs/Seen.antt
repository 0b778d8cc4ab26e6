-- A command by its meaning, and the texts of words.
use Rattle.std.specs.Prelude.{ℕ, List, map, String, string_bytes}
use Rattle.std.specs.Global.{Global}
use Rattle.mps_event.specs.KindSet.{bits_of}
use Rattle.mps_args.specs.declared.command.Command.{Command}
use Rattle.mps_args.specs.declared.command.Command.TheVariants as command
use Rattle.mps_args.specs.Meaning.{Meaning, Runs, Converts, Reads, Lists, Generates, RunsGenerated}

-- what a command asks for
abbrev pub meaning_of : Command → Meaning
meaning_of (command.Run log script) = Runs log.now script.now
meaning_of (command.Convert log kinds) = Converts log.now (bits_of kinds)
meaning_of (command.Read text) = Reads text.now
meaning_of (command.Blocks log) = Lists log.now
meaning_of (command.Generate seed count) = Generates seed count
meaning_of (command.RunGenerated log seed count) = RunsGenerated log.now seed count

-- the bytes of words
abbrev pub texts : List (String Global) → List (List ℕ)
texts words = map string_bytes words
