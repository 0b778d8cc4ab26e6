use Rattle.std.proofs.Common.{[], arith}
use Rattle.std.proofs.lemmas.List.{nil_from_length}
use Rattle.std.proofs.lemmas.List.Elements.{All-from_recursion}
use Rattle.mps_event.specs.declared.version.Version.TheVariants.{Two}
use Rattle.mps_event.specs.Grammar.{IsRecord}
use Rattle.mps_report.proofs.Logging.{logs_none}
use Rattle.mps_run.proofs.log_moves.log_moves.Goals as goal

pub returns-in-empty-clause-logged : goal.returns-in-empty-clause-logged
returns-in-empty-clause-logged g c =
    rw (nil_from_length c.args.moves.now (omega (arith, c.in-empty.len_below))) (logs_none (g.D.Desk.outside c.args.desk.now))

pub returns-in-empty-clause-recorded : goal.returns-in-empty-clause-recorded
returns-in-empty-clause-recorded g c =
    rw (nil_from_length c.args.moves.now (omega (arith, c.in-empty.len_below))) (All-from_recursion (IsRecord Two) [] tt)
