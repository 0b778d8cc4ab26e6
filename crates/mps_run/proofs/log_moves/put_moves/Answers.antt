use Rattle.std.proofs.Common.{◌≡◌, [], take, subst, rules, arith}
use Rattle.std.specs.Prelude.{All}
use Rattle.std.proofs.lemmas.Grind.{common_steps}
use Rattle.std.proofs.lemmas.List.Elements.{All-from_recursion}
use Rattle.mps_base.specs.declared.moves.Move.TheVariants as moves
use Rattle.mps_event.specs.declared.version.Version.TheVariants.{Two}
use Rattle.mps_event.specs.Grammar.{IsRecord}
use Rattle.mps_model.specs.Log.{records_of}
use Rattle.mps_run.proofs.Batches.{one_record_more}
use Rattle.mps_run.proofs.Pieces.{records_more}
use Rattle.mps_run.proofs.log_moves.put_moves.Goals as goal

pub loop-moved-init : goal.loop-moved-init
loop-moved-init c = (search rules, search rules, All-from_recursion (IsRecord Two) [] tt)

pub loop-moved-preserved : goal.loop-moved-preserved
loop-moved-preserved c = (
  grind (arith, common_steps),
  one_record_more c.args.line c.args.moves.now c.loop-moved.moved-index (moves.Seg (record { 0 = 0 }) 0 0 0) c.loop-moved.bytes
      c.put_move-length.new.bytes c.loop-moved.length _ c.put_move-length.result c.loop-moved-test.true c.loop-moved.invariant.1
      c.put_move-length.ensures.written (grind (arith, common_steps)) (grind (arith, common_steps)),
  records_more c.args.line c.args.moves.now c.loop-moved.moved-index (moves.Seg (record { 0 = 0 }) 0 0 0) c.loop-moved-test.true
      c.loop-moved.invariant.2 c.put_move-length.ensures.recorded,
)

pub returns-clause-recorded : goal.returns-clause-recorded
returns-clause-recorded c =
    let all : take c.loop-moved.moved-index c.args.moves.now ≡ c.args.moves.now = grind (arith, common_steps) in
    subst (λ ms. All (IsRecord Two) (records_of ms c.args.line)) all c.loop-moved.invariant.2
