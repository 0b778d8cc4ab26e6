-- A replay from the header to its end, what is listed then, and how the program ends.
use Rattle.std.proofs.Common.{◌≡◌, ℕ, List, ◌++◌, true, length, take, Option, Some, Result, Ok, Err, refl, sym, ap, subst, ◌∙◌, arith}
use Rattle.std.specs.Prelude.{OnOk, IfErr}
use Rattle.std.specs.Option.{option_map}
use Rattle.mps_desk.specs.Desk.{Outside}
use Rattle.mps_base.specs.Record.{header_bytes}
use Rattle.mps_event.specs.declared.version.Version.{Version}
use Rattle.mps_event.specs.Event.{number_of_version}
use Rattle.mps_report.specs.declared.stop.Stop.{Stop}
use Rattle.mps_report.specs.declared.stop.Stop.TheVariants as stop
use Rattle.mps_report.specs.Reports.{status_of, report_of, ProgramEnds}
use Rattle.mps_report.specs.Streams.{Prints, PrintsPart, Reports}
use Rattle.mps_log_reader.specs.declared.bad_log.BadLog.TheVariants as bad_log
use Rattle.mps_log_reader.specs.Ending.{is_input_verdict}
use Rattle.mps_log_reader.proofs.LogPrefix.{after_header}
use Rattle.mps_log_reader.proofs.Opening.{size_with_header, header_known}
use Rattle.mps_log_reader.proofs.Reported.{has_reported}
use Rattle.mps_log_reader.proofs.Stops.{other_than_verdict}
use Rattle.mps_blocks.specs.declared.bad_replay.BadReplay.{BadReplay}
use Rattle.mps_blocks.specs.declared.bad_replay.BadReplay.TheVariants as bad_replay
use Rattle.mps_blocks.specs.BadReplay.{text_of_bad_replay}
use Rattle.mps_model.specs.Replayed.{State, at_the_start}
use Rattle.mps_blocks.specs.Listing.{listing}
use Rattle.mps_blocks.specs.Ending.{StopsAt, Replays}
use Rattle.mps_blocks.specs.Listed.{ListedWith, ListsPart, HasListed}
use Rattle.mps_blocks.specs.Replaying.{ReplaysAll, AllReplay, HasReplayed}

abbrev Ending : Type 0
Ending = Result (Unit {0}) (Stop BadReplay)

-- ---- from the header on

replays : (version : Version) (bytes left : List ℕ) (ending : Ending) → bytes ≡ header_bytes (number_of_version version) ++ left
    → ReplaysAll version left at_the_start ending → Replays bytes ending
replays version bytes left ending is all = record {
  prefix = after_header version bytes left is all.prefix;
  state = all.state;
  replay = all.replay;
  ends_at = subst (λ (n : ℕ). StopsAt version all.state ending (length all.prefix.records) n all.prefix.rest)
      (size_with_header version all.prefix.records) all.ends_at;
}

whole_ending : (version : Version) (bytes left : List ℕ) (new : State) → bytes ≡ header_bytes (number_of_version version) ++ left
    → AllReplay version left at_the_start new (Ok tt) → HasReplayed bytes (Ok new)
unfolding replays
whole_ending version bytes left new is all = (replays version bytes left (Ok tt) is all.0, all.1)

stopped_ending : (version : Version) (bytes left : List ℕ) (new : State) (why : Stop BadReplay)
    → bytes ≡ header_bytes (number_of_version version) ++ left
    → AllReplay version left at_the_start new (Err why) → HasReplayed bytes (Err why)
stopped_ending version bytes left new (stop.Bad (bad_replay.Log bad_log.Header)) is all = absurd all.ends_at
stopped_ending version bytes left new stop.ReadFailed is all = tt
stopped_ending version bytes left new stop.OutOfMemory is all = tt
stopped_ending version bytes left new why is all = replays version bytes left (Err why) is all

pub replayed_whole : (version : Version) (bytes : List ℕ) (left : Option (List ℕ)) (old new : State) → old ≡ at_the_start
    → Some bytes ≡ option_map (λ rest. header_bytes (number_of_version version) ++ rest) left
    → ((rest : List ℕ) → left ≡ Some rest → AllReplay version rest old new (Ok tt)) → HasReplayed bytes (Ok new)
replayed_whole version bytes left old new start opened all =
    let g = header_known (header_bytes (number_of_version version)) bytes left opened in
    whole_ending version bytes g.0 new g.2 (subst (λ (s : State). AllReplay version g.0 s new (Ok tt)) start (all g.0 g.1))

pub replayed_stop : (version : Version) (bytes : List ℕ) (left : Option (List ℕ)) (old new : State) (why : Stop BadReplay)
    → old ≡ at_the_start
    → Some bytes ≡ option_map (λ rest. header_bytes (number_of_version version) ++ rest) left
    → ((rest : List ℕ) → left ≡ Some rest → AllReplay version rest old new (Err why)) → HasReplayed bytes (Err why)
replayed_stop version bytes left old new why start opened all =
    let g = header_known (header_bytes (number_of_version version)) bytes left opened in
    stopped_ending version bytes g.0 new why g.2 (subst (λ (s : State). AllReplay version g.0 s new (Err why)) start (all g.0 g.1))

-- ---- what is listed

printed_since : (text : List ℕ) (o p q : Option (List ℕ)) → p ≡ o → q ≡ option_map (λ before. before ++ text) p
    → q ≡ option_map (λ before. before ++ text) o
printed_since text o p q same e = e ∙ ap (λ (x : Option (List ℕ)). option_map (λ before. before ++ text) x) same

pub listed_whole : (bytes : List ℕ) (state : State) (a b c : Outside) → HasReplayed bytes (Ok state) → b.printed ≡ a.printed
    → Prints b c (listing state.blocks) → HasListed bytes (Ok tt) a c
listed_whole bytes state a b c h same p = (
  listing state.blocks,
  (h.0, ap (λ (s : State). listing s.blocks) (sym h.1)),
  printed_since (listing state.blocks) a.printed b.printed c.printed same p.printed,
)

pub listed_part : (bytes : List ℕ) (state : State) (a b c : Outside) → HasReplayed bytes (Ok state) → b.printed ≡ a.printed
    → PrintsPart b c (listing state.blocks) → HasListed bytes (Err stop.WriteFailed) a c
listed_part bytes state a b c h same p = record {
  text = listing state.blocks;
  lists = (h.0, ap (λ (s : State). listing s.blocks) (sym h.1));
  count = p.count;
  printed = printed_since (take p.count (listing state.blocks)) a.printed b.printed c.printed same p.printed;
}

-- ---- how the program ends

module _ (bytes : List ℕ) (status : ℕ) (a b c : Outside) where
  ends_whole : (text : List ℕ) → b.reported ≡ a.reported → status ≡ 0 → c ≡ b
      → b.printed ≡ option_map (λ before. before ++ text) a.printed → ProgramEnds text_of_bad_replay (Ok tt) text status a c
  ends_whole text quiet zero same printed = record {
    status_is = zero;
    printed = ap (λ (o : Outside). o.printed) same ∙ printed;
    reported = ap (λ (o : Outside). o.reported) same ∙ quiet;
  }

  ends_stopped : (why : Stop BadReplay) (text : List ℕ) → b.reported ≡ a.reported → b.err_faults ≡ a.err_faults → status ≡ status_of why
      → Reports b c (report_of text_of_bad_replay why) → b.printed ≡ option_map (λ before. before ++ text) a.printed
      → ProgramEnds text_of_bad_replay (Err why) text status a c
  ends_stopped why text quiet faults is reports printed = record {
    status_is = is;
    printed = reports.others.printed ∙ printed;
    reported = has_reported (report_of text_of_bad_replay why) a b c quiet faults reports.reported;
  }

  pub listed_with : (ending : Ending) → is_input_verdict status ≡ true → b.reported ≡ a.reported → b.err_faults ≡ a.err_faults
      → HasListed bytes ending a b → OnOk ending (status ≡ 0) → OnOk ending (c ≡ b)
      → IfErr ending (λ why. status ≡ status_of why) → IfErr ending (λ why. Reports b c (report_of text_of_bad_replay why))
      → ListedWith bytes status a c
  listed_with (Ok value) verdict quiet faults h zero same is reports =
      record { ending = Ok tt; text = h.0; lists = h.1; ends = ends_whole h.0 quiet zero same h.2 }
  listed_with (Err stop.ReadFailed) verdict quiet faults h zero same is reports = absurd (other_than_verdict status 3 is verdict refl)
  listed_with (Err stop.WriteFailed) verdict quiet faults h zero same is reports = absurd (other_than_verdict status 4 is verdict refl)
  listed_with (Err stop.OutOfMemory) verdict quiet faults h zero same is reports = absurd (other_than_verdict status 8 is verdict refl)
  listed_with (Err why) verdict quiet faults h zero same is reports =
      record { ending = Err why; text = h.0; lists = h.1; ends = ends_stopped why h.0 quiet faults is reports h.2 }

  pub cut_part : (ending : Ending) → status ≡ 4 → HasListed bytes ending a b → OnOk ending (status ≡ 0)
      → IfErr ending (λ why. status ≡ status_of why) → IfErr ending (λ why. Reports b c (report_of text_of_bad_replay why))
      → ListsPart bytes a c
  cut_part (Ok value) four h zero is reports = absurd (omega (arith, four, zero))
  cut_part (Err stop.WriteFailed) four h zero is reports =
      record { text = h.text; lists = h.lists; count = h.count; printed = reports.others.printed ∙ h.printed }
  cut_part (Err why) four h zero is reports = absurd (omega (arith, four, is))
