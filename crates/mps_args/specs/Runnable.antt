-- What a command has to meet to be run.
use Rattle.std.specs.Prelude.{◌≤◌}
use Rattle.mps_args.specs.declared.command.Command.{Command}
use Rattle.mps_args.specs.declared.command.Command.TheVariants as command

-- a generated script has at most 1,000,000 steps
abbrev pub IsRunnable : Command → Type 0
IsRunnable (command.Run log script) = Unit {0}
IsRunnable (command.Convert log kinds) = Unit {0}
IsRunnable (command.Read text) = Unit {0}
IsRunnable (command.Blocks log) = Unit {0}
IsRunnable (command.Generate seed count) = count ≤ 1000000
IsRunnable (command.RunGenerated log seed count) = count ≤ 1000000
