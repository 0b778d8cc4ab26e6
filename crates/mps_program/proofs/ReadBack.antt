-- The log of a run is read to its end by the readers.
use Rattle.std.proofs.Common.{◌≡◌, ◌≢◌, ◌<◌, ◌≤◌, ℕ, List, [], length, Some, Ok, refl, sym, ap, ◌∙◌, append-nil, arith}
use Rattle.std.proofs.lemmas.List.Elements.{recursion_from_All}
use Rattle.mps_desk.specs.Desk.{Outside}
use Rattle.mps_event.specs.declared.version.Version.TheVariants.{Two}
use Rattle.mps_event.specs.Grammar.{IsRecord}
use Rattle.mps_model.specs.Step.{History}
use Rattle.mps_model.specs.Log.{log_bytes, written_log}
use Rattle.mps_model.specs.History.{live_blocks, world_after_history}
use Rattle.mps_run.specs.Ending.{NoFaultRose}
use Rattle.mps_run.specs.LogReaderEnding.{max_records}
use Rattle.mps_run.specs.LogPrefix.{LogPrefix}
use Rattle.mps_run.specs.Script.{Line, HasRun}
use Rattle.mps_tools.specs.Listing.{listing}
use Rattle.mps_tools.specs.ReplayEnding.{Replays}
use Rattle.mps_model.specs.Replayed.{at_the_start}
use Rattle.mps_laws.specs.Replay.{replayed_state}
use Rattle.mps_args.specs.Kinds.{all_kinds}
use Rattle.mps_tools.specs.Portable.{portable}
use Rattle.mps_tools.specs.Text.{portable_text}
use Rattle.mps_cnv.proofs.AllKinds.{text_of_all}
use Rattle.mps_txt.specs.Labels.{no_names}
use Rattle.mps_txt.proofs.OwnText.{reads_its_own}
use Rattle.mps_program.specs.Asked.{ConvertsLog, ListsBlocks, ReadsText}
use Rattle.mps_program.specs.ReadBack.{ListsLiveBlocks, ConvertsRecords, ReadsRecords, IsReadBack}
use Rattle.mps_program.proofs.GoodInput.{verdict}
use Rattle.mps_program.proofs.Meanings.{meaning_of}

module _ (ran : List Line) (history : History) (runs : HasRun ran history)
    (few : length (written_log history) ≤ max_records) where
  -- the whole log is records
  all_of_it : LogPrefix (log_bytes history)
  all_of_it = record {
    version = Two;
    records = written_log history;
    rest = [];
    each = runs.recorded;
    at_most = few;
    spelled = sym (append-nil (log_bytes history));
  }

  -- which are replayed to the blocks that live
  replays : Replays (log_bytes history) (Ok tt)
  unfolding all_of_it
  replays = record { prefix = all_of_it; state = replayed_state (world_after_history history); replay = runs.replayed; ends_at = refl }

  module _ (status : ℕ) (old new : Outside) (none : NoFaultRose old new) (memory : status ≢ 8) where
    listed : (log : List ℕ) → old.text log ≡ Some (log_bytes history) → ListsBlocks log status old new
        → ListsLiveBlocks history status old new
    unfolding replays
    listed log known does =
        let ends = does.unique (verdict status old new none memory does.justified) (log_bytes history) known (Ok tt)
        (listing (live_blocks (world_after_history history))) (replays, refl) in
        record { status_is = ends.status_is; printed = ends.printed }

    converted : (log : List ℕ) → old.text log ≡ Some (log_bytes history) → (kinds : ℕ) → ConvertsLog log kinds status old new
        → ConvertsRecords kinds history status old new
    unfolding all_of_it
    converted log known kinds does =
        let ends = (does.unique (verdict status old new none memory does.justified) (log_bytes history) known).with_header all_of_it (Ok tt)
        refl in
        record { status_is = ends.status_is; printed = ends.printed }

    read : length (written_log history) < max_records → (text : List ℕ)
        → old.text text ≡ Some (portable Two all_kinds (written_log history))
        → ReadsText text status old new → ReadsRecords history status old new
    read fewer text there does =
        let records = written_log history in
        let bytes = portable_text Two records in
        let meaning = meaning_of records (recursion_from_All (IsRecord Two) records runs.recorded) at_the_start _ no_names refl
        runs.replayed in
        let same : old.text text ≡ Some bytes = there ∙ ap Some (text_of_all Two records runs.recorded) in
        let ends = (does.unique (verdict status old new none memory does.justified) bytes same).with_first_line Two records (Ok tt)
        (reads_its_own Two records meaning.named runs.recorded meaning.is fewer) in
        record { status_is = ends.status_is; printed = ends.printed }

pub read_back : (ran : List Line) (history : History) → HasRun ran history → IsReadBack history
read_back ran history runs = record {
  listed = λ few log status old new known none memory does. listed ran history runs few status old new none memory log known does;
  converted = λ few log kinds status old new known none memory does.
      converted ran history runs few status old new none memory log known kinds does;
  read = λ fewer text status old new there none memory does.
      read ran history runs (omega arith) status old new none memory fewer text there does;
}
