use Rattle.std.proofs.Common.{◌≡◌, List, [], ◌++◌, rules, sym, ◌∙◌, ap, subst, append_assoc, append-nil}
use Rattle.std.specs.Prelude.{All}
use Rattle.std.proofs.lemmas.List.{nil_from_length}
use Rattle.mps_model.specs.Log.{records_of}
use Rattle.mps_base.specs.declared.moves.Move.{Move}
use Rattle.std.specs.Slice.Iter.{chunks_rest}
use Rattle.mps_report.proofs.Logging.{logs_none}
use Rattle.std.proofs.lemmas.List.Elements.{All-from_recursion}
use Rattle.mps_event.specs.declared.version.Version.TheVariants.{Two}
use Rattle.mps_event.specs.Grammar.{IsRecord}
use Rattle.mps_run.proofs.Batches.{records_append_all, logs_batch, logs_part_of_batch}
use Rattle.mps_run.proofs.Records.{at_error}
use Rattle.mps_run.proofs.log_moves.log_batches.Goals as goal

pub loop-batch-init : goal.loop-batch-init
loop-batch-init g c = (
  search rules,
  tt,
  search rules,
  (
    [],
    search rules,
    logs_none (g.D.Desk.outside c.args.desk.now),
    All-from_recursion (IsRecord Two) [] tt,
  ),
)

pub loop-batch-preserved : goal.loop-batch-preserved
loop-batch-preserved g c =
    let steps = c.in-Some.ensures.steps in
    let so_far = c.loop-batch.invariant.3 in
    let batch = c.in-Some.batch.now in
    let rest = chunks_rest c.next.new.self in
    let whole = ap (λ (ms : List Move). so_far.0 ++ ms) (sym steps.1.0) ∙ so_far.1 in (
      search rules,
      tt,
      steps.0 ∙ c.loop-batch.invariant.2,
      (
        so_far.0 ++ batch,
        append_assoc so_far.0 batch rest ∙ whole,
        logs_batch c.args.line so_far.0 batch rest c.args.moves.now _ _ _ whole so_far.2 c.in_ok-log_batch.ensures.logged,
        records_append_all c.args.line so_far.0 batch so_far.3 c.log_batch.ensures.recorded,
      ),
    )

pub returns-in_err-log_batch-clause-failed : goal.returns-in_err-log_batch-clause-failed
returns-in_err-log_batch-clause-failed g c =
    let steps = c.in-Some.ensures.steps in
    let so_far = c.loop-batch.invariant.3 in
    let whole = ap (λ (ms : List Move). so_far.0 ++ ms) (sym steps.1.0) ∙ so_far.1 in
    at_error c.from_residual.result
    (logs_part_of_batch c.args.line so_far.0 c.in-Some.batch.now (chunks_rest c.next.new.self) c.args.moves.now _ _ _ whole so_far.2
    c.in_err-log_batch.ensures.failed)

pub returns-clause-recorded : goal.returns-clause-recorded
returns-clause-recorded g c =
    let so_far = c.loop-batch.invariant.3 in
    let none = nil_from_length (chunks_rest c.loop-batch.batch-iterator) c.in-None.ensures.steps.1.0 in
    let whole : so_far.0 ≡ c.args.moves.now =
    sym (append-nil so_far.0) ∙ (ap (λ (ms : List Move). so_far.0 ++ ms) (sym none) ∙ so_far.1) in
    subst (λ (ms : List Move). All (IsRecord Two) (records_of ms c.args.line)) whole so_far.3
