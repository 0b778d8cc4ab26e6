-- A reading that ends where a write fails.
use Rattle.std.proofs.Common.{◌≡◌, ℕ, ◌<◌, ◌⊎◌, List, ◌++◌, take, Option, Some, Ok, Err, refl, sym, ap, subst, ◌∙◌, append_assoc, arith, inl, inr}
use Rattle.std.specs.Prelude.{OnOk, IfErr}
use Rattle.std.specs.List.{flat_map}
use Rattle.std.specs.Option.{option_map}
use Rattle.mps_desk.specs.Desk.{Outside}
use Rattle.mps_event.specs.declared.version.Version.{Version}
use Rattle.mps_report.specs.declared.stop.Stop.{Stop}
use Rattle.mps_report.specs.declared.stop.Stop.TheVariants as stop
use Rattle.mps_report.specs.Reports.{status_of, report_of}
use Rattle.mps_report.specs.Streams.{PrintsPart, Reports}
use Rattle.mps_log_reader.specs.Input.{Buffered}
use Rattle.mps_log_reader.specs.Left.{left_of}
use Rattle.mps_log_reader.specs.PutOut.{put_out, Grows, PutsPart}
use Rattle.mps_log_reader.specs.Opening.{first_line}
use Rattle.mps_log_reader.specs.RecordLine.{record_line}
use Rattle.mps_log_reader.proofs.PartPut.{part_of_text, puts_part}
use Rattle.mps_log_reader.proofs.Stops.{stopped, err_is, is_write_failed}
use Rattle.mps_txt.specs.declared.bad_text_line.BadTextLine.{BadTextLine}
use Rattle.mps_txt.specs.BadTextLine.{text_of_bad_line}
use Rattle.mps_txt.specs.Labels.{Naming}
use Rattle.mps_txt.specs.Readable.{readable}
use Rattle.mps_txt.specs.Text.{terminated, max_lines, Ending, IsCutShort}
use Rattle.mps_txt.specs.TextSteps.{progress, ShowsLines, ShowsPart, AllGives}
use Rattle.mps_txt.proofs.LinesSoFar.{LinesSoFar, lines_shown}
use Rattle.mps_txt.proofs.WholeText.{FirstLinePut}

-- ---- a prefix of what was put out

-- from `a` to `b` lines were put out after `out`, which leaves `gathered`, and up to `c` a prefix of that was printed
module _ (version : Version) (bytes out gathered : List ℕ) (a b c : Outside) (grown : Grows a.printed b.printed)
    (part : PutsPart b.printed c.printed gathered) where
  part_of_shown : ShowsLines version bytes (put_out a out) (put_out b gathered) → ShowsPart version bytes out a.printed c.printed
  part_of_shown h = record {
    records = h.records;
    named = h.named;
    left = h.left;
    each = h.each;
    meaning = h.meaning;
    at_most = h.at_most;
    spelled = h.spelled;
    part = part_of_text grown.0 gathered out (readable version h.records) part.0 a.printed b.printed c.printed grown.1 h.put part.1;
  }

  -- a write failed before a line
  pub lines_cut : (count : ℕ) (s t : Naming) (x y : Buffered) → LinesSoFar version count (progress s a x out) (progress t b y gathered)
      → left_of a x ≡ Some bytes → count < max_lines
      → ShowsPart version bytes out a.printed c.printed
  lines_cut count s t x y so_far known at_most =
      part_of_shown (lines_shown version count (progress s a x out) (progress t b y gathered) so_far bytes known at_most)

-- ---- the ending

-- the lines that were put out before an ending other than a failed write
shown_of : (version : Version) (bytes : List ℕ) (unread before after : Option (List ℕ)) (ending : Ending)
    → (ending ≡ Err stop.WriteFailed → ⊥)
    → AllGives version bytes unread before after ending → ShowsLines version bytes before after
shown_of version bytes unread before after (Err stop.WriteFailed) other all = absurd (other refl)
shown_of version bytes unread before after (Err stop.LogFailed) other all = absurd all
shown_of version bytes unread before after ending other all = all.shown

is_other : (why : Stop BadTextLine) → (status_of why ≡ 4 → ⊥) → stopped (Unit {0}) why ≡ Err stop.WriteFailed → ⊥
is_other why apart e = apart (ap status_of (err_is (Unit {0}) why stop.WriteFailed e))

did_write_fail : (ending : Ending) → (ending ≡ Err stop.WriteFailed) ⊎ (ending ≡ Err stop.WriteFailed → ⊥)
did_write_fail (Ok value) = inr (λ e. absurd cc)
did_write_fail (Err stop.WriteFailed) = inl refl
did_write_fail (Err why) = inr (is_other why (λ e. omega (arith, e)))

-- ---- the text

-- after the first line was put out the lines were read up to an ending, and what was gathered then was flushed
pub record FlushesAfterLines (ending : Ending) (gathered : List ℕ) (b c d : Outside) : Type 0 where
  pub grown : Grows b.printed c.printed
  pub no_more : ending ≡ Err stop.WriteFailed → d ≡ c
  pub part : (ending ≡ Err stop.WriteFailed → ⊥) → PrintsPart c d gathered

module _ (version : Version) (bytes left out gathered : List ℕ) (a b c d : Outside) (first : FirstLinePut version bytes left out a b)
    (ending : Ending) (flushes : FlushesAfterLines ending gathered b c d) where
  -- a write failed before a line, or at the flush after any other ending
  cut_at : (ending ≡ Err stop.WriteFailed) ⊎ (ending ≡ Err stop.WriteFailed → ⊥)
      → (ending ≡ Err stop.WriteFailed → ShowsPart version left out b.printed c.printed)
      → AllGives version left c.input (put_out b out) (put_out c gathered) ending → ShowsPart version left out b.printed d.printed
  cut_at (inl failed) cut all =
      subst (λ (o : Outside). ShowsPart version left out b.printed o.printed) (sym (flushes.no_more failed)) (cut failed)
  cut_at (inr other) cut all =
      part_of_shown version left out gathered b c d flushes.grown (puts_part c c d gathered refl (flushes.part other))
      (shown_of version left c.input (put_out b out) (put_out c gathered) ending other all)

  with_first_line : ShowsPart version left out b.printed d.printed → IsCutShort bytes a d
  with_first_line p = record {
    version = version;
    records = p.records;
    named = p.named;
    rest = terminated p.left;
    begins = record {
      each = p.each;
      meaning = p.meaning;
      at_most = p.at_most;
      spelled = first.spelled ∙ ap (λ (x : List ℕ). first_line version ++ x) p.spelled
          ∙ sym (append_assoc (first_line version) (flat_map record_line p.records) (terminated p.left));
    };
    count = p.part.0;
    printed = p.part.1
        ∙ ap (λ (x : List ℕ). option_map (λ (t : List ℕ). t ++ take p.part.0 (x ++ readable version p.records)) b.printed) first.line
        ∙ ap (λ (o : Option (List ℕ)). option_map
        (λ (t : List ℕ). t ++ take p.part.0 (first_line version ++ readable version p.records)) o) first.same;
  }

  pub text_cut_short : (ending ≡ Err stop.WriteFailed → ShowsPart version left out b.printed c.printed)
      → AllGives version left c.input (put_out b out) (put_out c gathered) ending
      → IsCutShort bytes a d
  text_cut_short cut all = with_first_line (cut_at (did_write_fail ending) cut all)

-- ---- the status

cut_later : (bytes : List ℕ) (a b c : Outside) → IsCutShort bytes a b → c.printed ≡ b.printed → IsCutShort bytes a c
cut_later bytes a b c h e = record {
  version = h.version;
  records = h.records;
  named = h.named;
  rest = h.rest;
  begins = h.begins;
  count = h.count;
  printed = e ∙ h.printed;
}

pub cut_with_status : (status : ℕ) (bytes : List ℕ) (ending : Ending) (a b c : Outside) → status ≡ 4
    → (ending ≡ Err stop.WriteFailed → IsCutShort bytes a b)
    → OnOk ending (status ≡ 0) → IfErr ending (λ why. status ≡ status_of why)
    → IfErr ending (λ why. Reports b c (report_of text_of_bad_line why)) → IsCutShort bytes a c
cut_with_status status bytes (Ok value) a b c e h zero is reports = absurd (omega (arith, e, zero))
cut_with_status status bytes (Err why) a b c e h zero is reports =
    cut_later bytes a b c (h (ap (λ (w : Stop BadTextLine). Err w) (is_write_failed why (sym is ∙ e)))) reports.others.printed
