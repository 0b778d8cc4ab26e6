-- A conversion that ends where a write fails.
use Rattle.std.proofs.Common.{◌≡◌, ℕ, ◌≤◌, List, ◌++◌, take, Option, Some, Result, Ok, Err, refl, sym, ap, subst, ◌∙◌, arith}
use Rattle.std.specs.Prelude.{OnOk, IfErr}
use Rattle.std.specs.List.{flat_map}
use Rattle.std.specs.Option.{option_map}
use Rattle.mps_desk.specs.Desk.{Outside}
use Rattle.mps_base.specs.Record.{header_bytes}
use Rattle.mps_event.specs.declared.version.Version.{Version}
use Rattle.mps_event.specs.Event.{number_of_version}
use Rattle.mps_report.specs.declared.stop.Stop.{Stop}
use Rattle.mps_report.specs.declared.stop.Stop.TheVariants as stop
use Rattle.mps_log_reader.specs.declared.bad_log.BadLog.{BadLog}
use Rattle.mps_log_reader.specs.BadLog.{text_of_bad_log}
use Rattle.mps_report.specs.Reports.{status_of, report_of}
use Rattle.mps_report.specs.Streams.{PrintsPart, Reports}
use Rattle.mps_log_reader.specs.Input.{Buffered}
use Rattle.mps_log_reader.specs.Left.{left_of}
use Rattle.mps_log_reader.specs.PutOut.{put_out, Grows, PutsPart}
use Rattle.mps_log_reader.specs.Opening.{first_line}
use Rattle.mps_log_reader.specs.Ending.{max_records}
use Rattle.mps_log_reader.proofs.Opening.{header_known}
use Rattle.mps_log_reader.proofs.LogPrefix.{after_header}
use Rattle.mps_log_reader.proofs.PartPut.{part_of_text}
use Rattle.mps_log_reader.proofs.Stops.{err_is, is_write_failed}
use Rattle.mps_cnv.specs.Portable.{line_of_kinds}
use Rattle.mps_cnv.specs.Converted.{ConvertsUntilWriteFault}
use Rattle.mps_cnv.specs.Converting.{ConvertsFront, ConvertsPart, ConvertsAll, AllGive}
use Rattle.mps_cnv.proofs.Converting.{SoFar, known_prefix}

abbrev Ending : Type 0
Ending = Result (Unit {0}) (Stop BadLog)

-- ---- a record

pub records_cut : (version : Version) (kinds count offset : ℕ) (left left_after : Option (List ℕ)) (a b c : Outside)
    (out gathered bytes : List ℕ) → count ≤ max_records
    → SoFar version kinds count offset left left_after (put_out a out) (put_out b gathered) → Grows a.printed b.printed
    → PutsPart b.printed c.printed gathered
    → left ≡ Some bytes → ConvertsPart version kinds bytes out a.printed c.printed
records_cut version kinds count offset left left_after a b c out gathered bytes le s grown part e =
    let p = known_prefix version kinds count offset left left_after (put_out a out) (put_out b gathered) bytes le s e in
    record {
      prefix = p.prefix;
      part = part_of_text grown.0 gathered out (flat_map (line_of_kinds version kinds) p.prefix.records) part.0 a.printed b.printed
          c.printed grown.1 p.put part.1;
    }

-- ---- a log

cut_log : (version : Version) (kinds : ℕ) (bytes left out : List ℕ) (a b d : Outside) → bytes ≡ header_bytes (number_of_version version)
    ++ left → b.printed ≡ a.printed → out ≡ first_line version
    → ConvertsPart version kinds left out b.printed d.printed → ConvertsUntilWriteFault kinds bytes a d
cut_log version kinds bytes left out a b d is same line p = record {
  prefix = after_header version bytes left is p.prefix;
  count = p.part.0;
  printed = p.part.1
      ∙ ap (λ (x : List ℕ). option_map (λ (t : List ℕ). t
      ++ take p.part.0 (x ++ flat_map (line_of_kinds version kinds) p.prefix.records)) b.printed) line
      ∙ ap (λ (o : Option (List ℕ)). option_map (λ (t : List ℕ). t
      ++ take p.part.0 (first_line version ++ flat_map (line_of_kinds version kinds) p.prefix.records)) o) same;
}

part_of_all : (version : Version) (kinds : ℕ) (left out gathered : List ℕ) (b c d : Outside) (ending : Ending)
    → ConvertsAll version kinds left (put_out b out) (put_out c gathered) ending → Grows b.printed c.printed → PrintsPart c d gathered
    → ConvertsPart version kinds left out b.printed d.printed
part_of_all version kinds left out gathered b c d ending all grown p = record {
  prefix = all.prefix;
  part = part_of_text grown.0 gathered out (flat_map (line_of_kinds version kinds) all.prefix.records) p.count b.printed c.printed
      d.printed grown.1 all.put p.printed;
}

part_of_front : (version : Version) (kinds : ℕ) (left out gathered : List ℕ) (unread : Option (List ℕ)) (b c d : Outside)
    → ConvertsFront version kinds left unread (put_out b out) (put_out c gathered) → Grows b.printed c.printed → PrintsPart c d gathered
    → ConvertsPart version kinds left out b.printed d.printed
part_of_front version kinds left out gathered unread b c d front grown p = record {
  prefix = front.prefix;
  part = part_of_text grown.0 gathered out (flat_map (line_of_kinds version kinds) front.prefix.records) p.count b.printed c.printed
      d.printed grown.1 front.put p.printed;
}

other_status : (ending : Ending) (why : Stop BadLog) → ending ≡ Err why → (status_of why ≡ 4 → ⊥) → ending ≡ Err stop.WriteFailed → ⊥
other_status ending why e apart h = absurd (apart (ap status_of (err_is (Unit {0}) why stop.WriteFailed (sym e ∙ h))))

-- a write failed in a record, or at the flush after any other ending
cut_ending : (version : Version) (kinds : ℕ) (left out gathered : List ℕ) (b c d : Outside) (ending : Ending)
    → (ending ≡ Err stop.WriteFailed → ConvertsPart version kinds left out b.printed c.printed)
    → (ending ≡ Err stop.ReadFailed → ConvertsFront version kinds left c.input (put_out b out) (put_out c gathered))
    → AllGive version kinds left (put_out b out) (put_out c gathered) ending → Grows b.printed c.printed
    → (ending ≡ Err stop.WriteFailed → d ≡ c) → ((ending ≡ Err stop.WriteFailed → ⊥) → PrintsPart c d gathered)
    → ConvertsPart version kinds left out b.printed d.printed
cut_ending version kinds left out gathered b c d (Err stop.ReadFailed) cut front all grown same p =
    part_of_front version kinds left out gathered c.input b c d (front refl) grown
    (p (other_status (Err stop.ReadFailed) stop.ReadFailed refl (λ e. omega (arith, e))))
cut_ending version kinds left out gathered b c d (Err stop.WriteFailed) cut front all grown same p =
    subst (λ (o : Outside). ConvertsPart version kinds left out b.printed o.printed) (sym (same refl)) (cut refl)
cut_ending version kinds left out gathered b c d (Ok value) cut front all grown same p =
    part_of_all version kinds left out gathered b c d (Ok value) all grown (p (λ e. absurd cc))
cut_ending version kinds left out gathered b c d (Err why) cut front all grown same p =
    part_of_all version kinds left out gathered b c d (Err why) all grown (p (other_status (Err why) why refl (λ e. omega (arith, e))))

pub cuts_log : (version : Version) (kinds : ℕ) (bytes out gathered : List ℕ) (a b c d : Outside) (x : Buffered) (ending : Ending)
    → Some bytes ≡ option_map (λ rest. header_bytes (number_of_version version) ++ rest) (left_of b x) → b.printed ≡ a.printed
    → out ≡ first_line version
    → (ending ≡ Err stop.WriteFailed → (left : List ℕ) → left_of b x ≡ Some left → ConvertsPart version kinds left out b.printed c.printed)
    → (ending ≡ Err stop.ReadFailed → (left : List ℕ) → left_of b x ≡ Some left
    → ConvertsFront version kinds left c.input (put_out b out) (put_out c gathered))
    → ((left : List ℕ) → left_of b x ≡ Some left → AllGive version kinds left (put_out b out) (put_out c gathered) ending)
    → Grows b.printed c.printed
    → (ending ≡ Err stop.WriteFailed → d ≡ c) → ((ending ≡ Err stop.WriteFailed → ⊥) → PrintsPart c d gathered)
    → ConvertsUntilWriteFault kinds bytes a d
cuts_log version kinds bytes out gathered a b c d x ending opened same line cut front all grown still p =
    let g = header_known (header_bytes (number_of_version version)) bytes (left_of b x) opened in
    cut_log version kinds bytes g.0 out a b d g.2 same line
    (cut_ending version kinds g.0 out gathered b c d ending (λ e. cut e g.0 g.1) (λ e. front e g.0 g.1) (all g.0 g.1) grown still p)

-- ---- the status

cut_later : (kinds : ℕ) (bytes : List ℕ) (a b c : Outside) → ConvertsUntilWriteFault kinds bytes a b → c.printed ≡ b.printed
    → ConvertsUntilWriteFault kinds bytes a c
cut_later kinds bytes a b c h e = record {
  prefix = h.prefix;
  count = h.count;
  printed = e ∙ h.printed;
}

pub cut_with : (kinds status : ℕ) (bytes : List ℕ) (ending : Ending) (a b c : Outside) → status ≡ 4
    → (ending ≡ Err stop.WriteFailed → ConvertsUntilWriteFault kinds bytes a b)
    → OnOk ending (status ≡ 0) → IfErr ending (λ why. status ≡ status_of why)
    → IfErr ending (λ why. Reports b c (report_of text_of_bad_log why)) → ConvertsUntilWriteFault kinds bytes a c
cut_with kinds status bytes (Ok value) a b c e h zero is reports = absurd (omega (arith, e, zero))
cut_with kinds status bytes (Err why) a b c e h zero is reports =
    cut_later kinds bytes a b c (h (ap (λ (w : Stop BadLog). Err w) (is_write_failed why (sym is ∙ e)))) reports.others.printed
