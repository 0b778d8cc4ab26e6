-- A conversion from the header to its end.
use Rattle.std.proofs.Common.{◌≡◌, ℕ, ◌⊎◌, List, ◌++◌, Option, Some, Result, Ok, Err, sym, ap, subst, ◌∙◌, inl, inr}
use Rattle.std.specs.Prelude.{OnOk, IfErr}
use Rattle.std.specs.List.{flat_map}
use Rattle.std.specs.Option.{option_map}
use Rattle.mps_desk.specs.Desk.{Outside}
use Rattle.mps_base.specs.Record.{header_bytes}
use Rattle.mps_event.specs.declared.version.Version.{Version}
use Rattle.mps_event.specs.Event.{number_of_version}
use Rattle.mps_report.specs.declared.stop.Stop.{Stop}
use Rattle.mps_report.specs.declared.stop.Stop.TheVariants as stop
use Rattle.mps_log_reader.specs.declared.bad_log.BadLog.{BadLog}
use Rattle.mps_log_reader.specs.declared.bad_log.BadLog.TheVariants as bad_log
use Rattle.mps_log_reader.specs.BadLog.{text_of_bad_log}
use Rattle.mps_report.specs.Reports.{status_of, report_of}
use Rattle.mps_report.specs.Streams.{Reports}
use Rattle.mps_report.proofs.Appended.{appended_twice}
use Rattle.mps_log_reader.specs.Input.{Buffered}
use Rattle.mps_log_reader.specs.Left.{left_of}
use Rattle.mps_log_reader.specs.PutOut.{put_out, IsToFlush}
use Rattle.mps_log_reader.specs.Opening.{first_line}
use Rattle.mps_log_reader.proofs.Opening.{header_known}
use Rattle.mps_log_reader.proofs.LogPrefix.{after_header, log_ends}
use Rattle.mps_log_reader.proofs.Reported.{has_reported}
use Rattle.mps_cnv.specs.Portable.{line_of_kinds}
use Rattle.mps_cnv.specs.Converted.{Converts, HasConverted, ConvertedWith}
use Rattle.mps_cnv.specs.Converting.{ConvertsAll, AllGive}

abbrev Ending : Type 0
Ending = Result (Unit {0}) (Stop BadLog)

converts : (version : Version) (kinds : ℕ) (bytes left out : List ℕ) (a b c d : Outside) (after : Option (List ℕ)) (ending : Ending)
    → bytes ≡ header_bytes (number_of_version version) ++ left → b.printed ≡ a.printed → out ≡ first_line version
    → ConvertsAll version kinds left (put_out b out) after ending → d.printed ≡ after → Converts kinds bytes ending a d
converts version kinds bytes left out a b c d after ending is same line all printed = record {
  prefix = after_header version bytes left is all.prefix;
  ends_at = log_ends version bytes left is all.prefix ending all.ends_at;
  printed = printed ∙ all.put
      ∙ ap (λ (x : List ℕ). option_map (λ (t : List ℕ). t ++ flat_map (line_of_kinds version kinds) all.prefix.records)
      (option_map (λ printed. printed ++ x) b.printed)) line
      ∙ ap (λ (o : Option (List ℕ)). option_map (λ (t : List ℕ). t ++ flat_map (line_of_kinds version kinds) all.prefix.records)
      (option_map (λ printed. printed ++ first_line version) o)) same
      ∙ appended_twice a.printed (first_line version) (flat_map (line_of_kinds version kinds) all.prefix.records);
}

converts_ending : (version : Version) (kinds : ℕ) (bytes left out : List ℕ) (a b c d : Outside) (after : Option (List ℕ))
    (ending : Result (Unit {0}) (Stop BadLog))
    → bytes ≡ header_bytes (number_of_version version) ++ left → b.printed ≡ a.printed → out ≡ first_line version
    → AllGive version kinds left (put_out b out) after ending → (IsToFlush ending → d.printed ≡ after) → HasConverted kinds bytes ending a d
converts_ending version kinds bytes left out a b c d after (Err stop.ReadFailed) is same line all printed = tt
converts_ending version kinds bytes left out a b c d after (Err stop.WriteFailed) is same line all printed = tt
converts_ending version kinds bytes left out a b c d after (Err stop.OutOfMemory) is same line all printed = absurd all.ends_at
converts_ending version kinds bytes left out a b c d after (Err (stop.Bad bad_log.Header)) is same line all printed = absurd all.ends_at
converts_ending version kinds bytes left out a b c d after ending is same line all printed =
    converts version kinds bytes left out a b c d after ending is same line all (printed tt)

flushed : (R : Type 0) (kinds : ℕ) (bytes : List ℕ) (a d : Outside) (ending result : Result (Unit {0}) (Stop BadLog))
    (after : Option (List ℕ))
    → (result ≡ ending) ⊎ ((result ≡ Err stop.WriteFailed) × R) → (IsToFlush result → d.printed ≡ after)
    → ((IsToFlush ending → d.printed ≡ after) → HasConverted kinds bytes ending a d) → HasConverted kinds bytes result a d
flushed R kinds bytes a d ending result after (inl e) printed h =
    subst (λ (r : Result (Unit {0}) (Stop BadLog)). HasConverted kinds bytes r a d) (sym e)
    (h (subst (λ (r : Result (Unit {0}) (Stop BadLog)). IsToFlush r → d.printed ≡ after) e printed))
flushed R kinds bytes a d ending result after (inr e) printed h = rw e.0 tt

pub converts_log : (R : Type 0) (version : Version) (kinds : ℕ) (bytes out : List ℕ) (a b c d : Outside) (x : Buffered)
    (after : Option (List ℕ)) (ending result : Result (Unit {0}) (Stop BadLog))
    → Some bytes ≡ option_map (λ rest. header_bytes (number_of_version version) ++ rest) (left_of b x) → b.printed ≡ a.printed
    → out ≡ first_line version
    → ((left : List ℕ) → left_of b x ≡ Some left → AllGive version kinds left (put_out b out) after ending)
    → (result ≡ ending) ⊎ ((result ≡ Err stop.WriteFailed) × R) → (IsToFlush result → d.printed ≡ after)
    → HasConverted kinds bytes result a d
converts_log R version kinds bytes out a b c d x after ending result opened same line all first printed =
    let g = header_known (header_bytes (number_of_version version)) bytes (left_of b x) opened in
    flushed R kinds bytes a d ending result after first printed
    (λ p. converts_ending version kinds bytes g.0 out a b c d after ending g.2 same line (all g.0 g.1) p)

-- ---- the report changes nothing of what was printed

printed_later : (kinds : ℕ) (bytes : List ℕ) (ending : Ending) (a b c : Outside) → Converts kinds bytes ending a b → c.printed ≡ b.printed
    → Converts kinds bytes ending a c
printed_later kinds bytes ending a b c h e = record { prefix = h.prefix; ends_at = h.ends_at; printed = e ∙ h.printed }

converted_later : (kinds : ℕ) (bytes : List ℕ) (ending : Ending) (a b c : Outside) → HasConverted kinds bytes ending a b
    → c.printed ≡ b.printed → HasConverted kinds bytes ending a c
converted_later kinds bytes (Err (stop.Bad bad_log.Header)) a b c h e = (h.0, e ∙ h.1)
converted_later kinds bytes (Err stop.ReadFailed) a b c h e = tt
converted_later kinds bytes (Err stop.WriteFailed) a b c h e = tt
converted_later kinds bytes (Err stop.OutOfMemory) a b c h e = e ∙ h
converted_later kinds bytes ending a b c h e = printed_later kinds bytes ending a b c h e

pub converted_with : (kinds status : ℕ) (bytes : List ℕ) (ending : Result (Unit {0}) (Stop BadLog)) (a b c : Outside)
    → b.reported ≡ a.reported → b.err_faults ≡ a.err_faults
    → HasConverted kinds bytes ending a b → OnOk ending (status ≡ 0) → OnOk ending (c ≡ b)
    → IfErr ending (λ why. status ≡ status_of why) → IfErr ending (λ why. Reports b c (report_of text_of_bad_log why))
    → ConvertedWith kinds bytes status a c
converted_with kinds status bytes (Ok value) a b c quiet faults h zero same is reports = record {
  ending = Ok value;
  status_is = zero;
  converted = converted_later kinds bytes (Ok value) a b c h (ap (λ (o : Outside). o.printed) same);
  reported = ap (λ (o : Outside). o.reported) same ∙ quiet;
}
converted_with kinds status bytes (Err why) a b c quiet faults h zero same is reports = record {
  ending = Err why;
  status_is = is;
  converted = converted_later kinds bytes (Err why) a b c h reports.others.printed;
  reported = has_reported (report_of text_of_bad_log why) a b c quiet faults reports.reported;
}
