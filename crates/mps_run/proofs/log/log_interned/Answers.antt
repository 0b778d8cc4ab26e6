use Rattle.std.proofs.Common.{◌≡◌, ◌∙◌, rules, refl, ap, subst, [], ◌∷◌, append-nil}
use Rattle.std.proofs.lemmas.List.Elements.{All-from_recursion}
use Rattle.mps_commands.specs.Range.{IsInRange}
use Rattle.mps_event.specs.declared.version.Version.TheVariants.{Two}
use Rattle.mps_event.specs.Grammar.{IsRecord}
use Rattle.mps_model.specs.declared.reply.Reply.TheVariants as reply
use Rattle.mps_model.specs.Answer.{Replied}
use Rattle.mps_model.specs.Log.{records_of_label}
use Rattle.mps_report.proofs.Logging.{logs_none}
use Rattle.mps_run.proofs.Interning.{interned_named, interned_record, the_record}
use Rattle.mps_run.proofs.Records.{none_interned}
use Rattle.mps_run.proofs.log.log_interned.Goals as goal

pub log_record-requires-clause-known : goal.log_record-requires-clause-known
log_record-requires-clause-known g c = (
  refl,
  interned_named c.in-Intern.label c.args.line c.args.number c.from.result c.number_of-low.result c.number_of-high.result (search rules)
      c.from.ensures c.number_of-low.ensures.value c.number_of-high.ensures.value
      (subst IsInRange c.in-Intern.is c.requires.range) c.number_of-low.ensures.bytes c.number_of-high.ensures.bytes,
)

-- the records of the call are that of its label
one : (g : _) (c : goal.After-log_record g) → records_of_label c.args.call.now (Replied (reply.Interned c.args.number)) c.args.line
    ≡ the_record c.args.line c.from.result c.number_of-low.result c.number_of-high.result ∷ []
one g c =
    ap (λ k. records_of_label k (Replied (reply.Interned c.args.number)) c.args.line) c.in-Intern.is
    ∙ interned_record c.in-Intern.label c.args.line c.args.number c.from.result c.number_of-low.result c.number_of-high.result
    (search rules) c.from.ensures c.number_of-low.ensures.value c.number_of-high.ensures.value

pub returns-in-Intern-clause-logged : goal.returns-in-Intern-clause-logged
returns-in-Intern-clause-logged g c = rw (one g c) (simp append-nil c.log_record.ensures.logged)

pub returns-in-Intern-clause-failed : goal.returns-in-Intern-clause-failed
returns-in-Intern-clause-failed g c = rw (one g c) (simp append-nil c.log_record.ensures.failed)

pub returns-in-Intern-clause-recorded : goal.returns-in-Intern-clause-recorded
returns-in-Intern-clause-recorded g c =
    rw (one g c) (All-from_recursion (IsRecord Two) (_ ∷ []) (c.log_record.ensures.recorded, tt))

pub returns-in_default : goal.returns-in_default
returns-in_default g c =
    let none = none_interned c.args.call.now c.args.number c.args.line c.in_default.not-Intern in
    record {
      logged = rw none (logs_none (g.D.Desk.outside c.args.desk.now));
      failed = tt;
      recorded = rw none (All-from_recursion (IsRecord Two) [] tt);
    }
