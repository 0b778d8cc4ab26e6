use Rattle.std.proofs.Common.{take, drop}
use Rattle.std.specs.List.{flat_map}
use Rattle.mps_report.specs.Streams.{Prints}
use Rattle.mps_run.specs.Pieces.{and_word}
use Rattle.mps_run.proofs.print.print_more_words.Given as goal

abbrev pub invariant-loop-k : goal.invariant-loop-k
invariant-loop-k g l = Prints (g.D.Desk.outside l.initial.desk) (g.D.Desk.outside l.desk)
    (flat_map and_word (take l.k (take l.count (drop l.from (g.C.Commands.words l.commands)))))
