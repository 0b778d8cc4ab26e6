use Rattle.std.proofs.Common.{[]}
use Rattle.std.proofs.lemmas.List.Elements.{All-from_recursion}
use Rattle.mps_event.specs.declared.version.Version.TheVariants.{Two}
use Rattle.mps_event.specs.Grammar.{IsRecord}
use Rattle.mps_report.proofs.Logging.{logs_none}
use Rattle.mps_run.proofs.Records.{none_labelled}
use Rattle.mps_run.proofs.log.log_labelled.Goals as goal

pub returns-in_default : goal.returns-in_default
returns-in_default g c =
    let none = none_labelled c.args.call.now c.args.at c.args.number c.args.line c.in_default.not-Label in
    record {
      logged = rw none (logs_none (g.D.Desk.outside c.args.desk.now));
      failed = tt;
      recorded = rw none (All-from_recursion (IsRecord Two) [] tt);
    }
