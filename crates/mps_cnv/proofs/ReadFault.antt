-- A conversion that ends where a read fails.
use Rattle.std.proofs.Common.{◌≡◌, ℕ, ◌≤◌, ◌⊎◌, Bool, true, false, List, [], ◌∷◌, ◌++◌, Option, Some, None, Result, Ok, Err, refl, sym, ap, subst, ◌∙◌, arith, inl, inr}
use Rattle.std.specs.Prelude.{OnOk, IfErr}
use Rattle.std.specs.List.{flat_map}
use Rattle.std.specs.Option.{option_map}
use Rattle.mps_desk.specs.Desk.{Outside}
use Rattle.mps_base.specs.Record.{header_bytes}
use Rattle.mps_event.specs.declared.version.Version.{Version}
use Rattle.mps_event.specs.Event.{number_of_version}
use Rattle.mps_event.specs.Reading.{first_of}
use Rattle.mps_report.specs.declared.stop.Stop.{Stop}
use Rattle.mps_report.specs.declared.stop.Stop.TheVariants as stop
use Rattle.mps_log_reader.specs.declared.bad_log.BadLog.{BadLog}
use Rattle.mps_log_reader.specs.BadLog.{text_of_bad_log}
use Rattle.mps_report.specs.Reports.{status_of, report_of}
use Rattle.mps_report.specs.Streams.{FlushedPrefix, Reports}
use Rattle.mps_log_reader.specs.Input.{Buffered, ReadsMore}
use Rattle.mps_log_reader.specs.Left.{left_of}
use Rattle.mps_log_reader.specs.PutOut.{put_out, Grows, PrintsAsFar}
use Rattle.mps_log_reader.specs.Opening.{first_line, IsCutHeader}
use Rattle.mps_log_reader.proofs.Extension.{none_short}
use Rattle.mps_log_reader.proofs.Left.{left_same}
use Rattle.mps_log_reader.proofs.PutOut.{put_same}
use Rattle.mps_log_reader.proofs.PartPut.{as_far_of_text, as_far_later}
use Rattle.mps_log_reader.specs.Ending.{max_records}
use Rattle.mps_log_reader.proofs.Opening.{header_known}
use Rattle.mps_log_reader.proofs.LogPrefix.{after_header}
use Rattle.mps_log_reader.proofs.Stops.{is_read_failed}
use Rattle.mps_cnv.specs.Portable.{line_of_kinds}
use Rattle.mps_cnv.specs.Converted.{text_of_prefix, IsCutRecord, FailsInHeader, FailsAfterRecords, ConvertsUntilReadFault}
use Rattle.mps_cnv.specs.Converting.{ConvertsFront}
use Rattle.mps_cnv.proofs.Converting.{SoFar, known_prefix}

-- ---- a part of a record

none_open : (version : Version) (ended : Bool) (part : List ℕ) → first_of version ended part ≡ Ok None
    → first_of version false part ≡ Ok None
none_open version false part e = e
none_open version true [] e = refl
none_open version true (byte ∷ bytes) e =
    let g = none_short version true (byte ∷ bytes) e (λ h. absurd cc) in
    let f : byte ∷ bytes ≡ [] = g.1 in
    absurd cc

cut_record : (version : Version) (ended : Bool) (pending bytes : List ℕ) (input : Option (List ℕ))
    → option_map (λ rest. pending ++ rest) input ≡ Some bytes
    → first_of version ended pending ≡ Ok None → IsCutRecord version bytes input
cut_record version ended pending bytes None known none = absurd (let f : None ≡ Some bytes = known in cc)
cut_record version ended pending bytes (Some rest) known none = record {
  part = pending;
  others = rest;
  split = (let f : Some (pending ++ rest) ≡ Some bytes = known in cc);
  none = none_open version ended pending none;
  still = refl;
}

abbrev pub NextBreaks : Version → (left unread before after : Option (List ℕ)) → Type 0
NextBreaks version left unread before after = ((bytes : List ℕ) → left ≡ Some bytes → IsCutRecord version bytes unread) × (after ≡ before)

pub next_breaks : (version : Version) (a b c : Outside) (x y : Buffered) (p q r : List ℕ) → ReadsMore a b x y → FlushedPrefix b c p q
    → c.input ≡ b.input
    → (first_of version y.ended y.pending ≡ Ok None) × (r ≡ q) → NextBreaks version (left_of a x) c.input (put_out a p) (put_out c r)
next_breaks version a b c x y p q r reads kept same gives = (
  (λ bytes known. subst (λ (o : Option (List ℕ)). IsCutRecord version bytes o) (sym same)
      (cut_record version y.ended y.pending bytes b.input (left_same a b x y reads ∙ known) gives.0)),
  ap (put_out c) gives.1 ∙ put_same b c p q kept
      ∙ ap (λ (o : Option (List ℕ)). option_map (λ printed. printed ++ p) o) reads.others.printed,
)

-- ---- all records before

pub front_breaks : (version : Version) (kinds count offset : ℕ) (left left_after unread before after put : Option (List ℕ))
    (bytes : List ℕ) → count ≤ max_records
    → SoFar version kinds count offset left left_after before after → NextBreaks version left_after unread after put
    → left ≡ Some bytes → ConvertsFront version kinds bytes unread before put
front_breaks version kinds count offset left left_after unread before after put bytes le s n e =
    let p = known_prefix version kinds count offset left left_after before after bytes le s e in
    record { prefix = p.prefix; cut = n.0 p.prefix.rest p.left; put = n.1 ∙ p.put }

-- after the last record that can be counted nothing had come
pub last_breaks : (version : Version) (left_after unread after put : Option (List ℕ)) → unread ≡ left_after → put ≡ after
    → NextBreaks version left_after unread after put
last_breaks version left_after unread after put same printed = (
  (λ bytes known. record { part = []; others = bytes; split = refl; none = refl; still = same ∙ known }),
  printed,
)

-- ---- a log

fails_after : (version : Version) (kinds : ℕ) (bytes left out gathered : List ℕ) (a b c d : Outside)
    → bytes ≡ header_bytes (number_of_version version) ++ left
    → b.printed ≡ a.printed → out ≡ first_line version → ConvertsFront version kinds left c.input (put_out b out) (put_out c gathered)
    → Grows b.printed c.printed → d.input ≡ c.input
    → a.out_faults ≤ c.out_faults → PrintsAsFar c d gathered → FailsAfterRecords kinds bytes a d
fails_after version kinds bytes left out gathered a b c d is same line front grown input counted far = record {
  prefix = after_header version bytes left is front.prefix;
  cut = subst (λ (o : Option (List ℕ)). IsCutRecord version front.prefix.rest o) (sym input) front.cut;
  printed = as_far_of_text out (first_line version)
      (flat_map (line_of_kinds version kinds) front.prefix.records) gathered a b c d same line front.put grown counted far;
}

read_failed : (R : Type 0) (ending result : Result (Unit {0}) (Stop BadLog)) → (result ≡ ending) ⊎ ((result ≡ Err stop.WriteFailed) × R)
    → result ≡ Err stop.ReadFailed → ending ≡ Err stop.ReadFailed
read_failed R ending result (inl e) f = sym e ∙ f
read_failed R ending result (inr e) f = absurd (let g : Err stop.WriteFailed ≡ Err stop.ReadFailed = sym e.0 ∙ f in cc)

pub fails_log : (R : Type 0) (version : Version) (kinds : ℕ) (bytes out gathered : List ℕ) (a b c d : Outside) (x : Buffered)
    (ending result : Result (Unit {0}) (Stop BadLog))
    → Some bytes ≡ option_map (λ rest. header_bytes (number_of_version version) ++ rest) (left_of b x) → b.printed ≡ a.printed
    → out ≡ first_line version
    → (ending ≡ Err stop.ReadFailed → (left : List ℕ) → left_of b x ≡ Some left
    → ConvertsFront version kinds left c.input (put_out b out) (put_out c gathered))
    → Grows b.printed c.printed → (result ≡ ending) ⊎ ((result ≡ Err stop.WriteFailed) × R) → d.input ≡ c.input
    → a.out_faults ≤ c.out_faults
    → (result ≡ Err stop.ReadFailed → PrintsAsFar c d gathered) → result ≡ Err stop.ReadFailed → ConvertsUntilReadFault kinds bytes a d
fails_log R version kinds bytes out gathered a b c d x ending result opened same line front grown first input counted printed failed =
    let g = header_known (header_bytes (number_of_version version)) bytes (left_of b x) opened in
    inr (fails_after version kinds bytes g.0 out gathered a b c d g.2 same line
    (front (read_failed R ending result first failed) g.0 g.1) grown input counted (printed failed))

-- ---- the status

after_later : (kinds : ℕ) (bytes : List ℕ) (a b c : Outside) → FailsAfterRecords kinds bytes a b → c.input ≡ b.input
    → c.printed ≡ b.printed → c.out_faults ≡ b.out_faults → FailsAfterRecords kinds bytes a c
after_later kinds bytes a b c h input printed faults = record {
  prefix = h.prefix;
  cut = subst (λ (o : Option (List ℕ)). IsCutRecord h.prefix.version h.prefix.rest o) (sym input) h.cut;
  printed = as_far_later (text_of_prefix kinds h.prefix) a b c h.printed printed faults;
}

before_later : (bytes : List ℕ) (a b c : Outside) → FailsInHeader bytes a b → c.input ≡ b.input → c.printed ≡ b.printed
    → FailsInHeader bytes a c
before_later bytes a b c h input printed = record {
  cut = subst (λ (o : Option (List ℕ)). (o ≡ a.input) ⊎ IsCutHeader bytes o) (sym input) h.cut;
  printed = printed ∙ h.printed;
}

fails_later : (kinds : ℕ) (bytes : List ℕ) (a b c : Outside) → ConvertsUntilReadFault kinds bytes a b → c.input ≡ b.input
    → c.printed ≡ b.printed → c.out_faults ≡ b.out_faults → ConvertsUntilReadFault kinds bytes a c
fails_later kinds bytes a b c (inl h) input printed faults = inl (before_later bytes a b c h input printed)
fails_later kinds bytes a b c (inr h) input printed faults = inr (after_later kinds bytes a b c h input printed faults)

pub fails_with : (kinds status : ℕ) (bytes : List ℕ) (ending : Result (Unit {0}) (Stop BadLog)) (a b c : Outside) → status ≡ 3
    → (ending ≡ Err stop.ReadFailed → ConvertsUntilReadFault kinds bytes a b)
    → OnOk ending (status ≡ 0) → IfErr ending (λ why. status ≡ status_of why)
    → IfErr ending (λ why. Reports b c (report_of text_of_bad_log why)) → ConvertsUntilReadFault kinds bytes a c
fails_with kinds status bytes (Ok value) a b c e h zero is reports = absurd (omega (arith, e, zero))
fails_with kinds status bytes (Err why) a b c e h zero is reports =
    fails_later kinds bytes a b c (h (ap (λ (w : Stop BadLog). Err w) (is_read_failed why (sym is ∙ e)))) reports.others.input
    reports.others.printed reports.others.out_faults
