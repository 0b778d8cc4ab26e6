-- The reading of a text from its first line to its end.
use Rattle.std.proofs.Common.{◌≡◌, ℕ, ◌≤◌, ◌⊎◌, List, ◌++◌, Option, Some, None, Result, Ok, Err, refl, sym, ap, subst, ◌∙◌, append_assoc, inl, inr}
use Rattle.std.specs.Prelude.{OnOk, IfErr}
use Rattle.std.specs.List.{flat_map}
use Rattle.std.specs.Option.{option_map}
use Rattle.mps_desk.specs.Desk.{Outside, OnlyReports}
use Rattle.mps_event.specs.declared.version.Version.{Version}
use Rattle.mps_report.specs.declared.stop.Stop.{Stop}
use Rattle.mps_report.specs.declared.stop.Stop.TheVariants as stop
use Rattle.mps_report.specs.Reports.{status_of, report_of}
use Rattle.mps_report.specs.Streams.{Reports}
use Rattle.mps_log_reader.specs.Input.{Buffered, IsComplete}
use Rattle.mps_log_reader.specs.PutOut.{put_out, Grows, PutsOut, PrintsAsFar, IsToFlush}
use Rattle.mps_log_reader.specs.Opening.{first_line}
use Rattle.mps_log_reader.specs.RecordLine.{record_line}
use Rattle.mps_log_reader.proofs.Reported.{has_reported}
use Rattle.mps_log_reader.proofs.PartPut.{as_far_of_text, as_far_later}
use Rattle.mps_report.proofs.Outside.{reports_only-same, reports_only-then}
use Rattle.mps_txt.specs.declared.bad_text_line.BadTextLine.{BadTextLine}
use Rattle.mps_txt.specs.BadTextLine.{text_of_bad_line}
use Rattle.mps_txt.specs.Readable.{readable}
use Rattle.mps_txt.specs.Text.{terminated, Ending, readable_text, BeginsWith, Reads, FirstLines, BreaksOff, FailsInFirstLine, FailsAfterLines, RunsOutOfMemory, HasRead, ReadWith}
use Rattle.mps_txt.specs.TextSteps.{ShowsLines, ShowsAll, ShowsWholeLines, ShowsBeforeMemory, AllGives, IsWholeOrLast}
use Rattle.mps_txt.proofs.LinesSoFar.{whole_known}
use Rattle.mps_txt.proofs.VersionOne.{is_second}

printed_all : (line text : List ℕ) (o : Option (List ℕ)) → option_map (λ all. all ++ text) (option_map (λ printed. printed ++ line) o)
    ≡ option_map (λ before. before ++ (line ++ text)) o
printed_all line text None = refl
printed_all line text (Some before) = ap Some (append_assoc before line text)

-- the first line of a text was taken, which leaves this, and put out
pub record FirstLinePut (version : Version) (bytes left out : List ℕ) (a b : Outside) : Type 0 where
  pub spelled : terminated bytes ≡ first_line version ++ terminated left
  pub same : b.printed ≡ a.printed
  pub line : out ≡ first_line version

-- the lines after it were read, and what was gathered then was flushed
pub record LinesFlushed (version : Version) (bytes left gathered : List ℕ) (ending : Ending) (a b c d : Outside) : Type 0 where
  pub whole : ending ≡ Err stop.ReadFailed → bytes ≡ first_line version ++ left
  pub unread : d.input ≡ c.input
  pub grown : Grows b.printed c.printed
  pub counted : a.out_faults ≤ c.out_faults
  pub printed : IsToFlush ending → d.printed ≡ put_out c gathered
  pub far : ending ≡ Err stop.ReadFailed → PrintsAsFar c d gathered

module _ (version : Version) (bytes left out : List ℕ) (a b : Outside) (first : FirstLinePut version bytes left out a b) where
  begins : (before after : Option (List ℕ)) (h : ShowsLines version left before after)
      → BeginsWith version h.records h.named (terminated h.left) bytes
  begins before after h = record {
    each = h.each;
    meaning = h.meaning;
    at_most = h.at_most;
    spelled = first.spelled ∙ ap (λ (x : List ℕ). first_line version ++ x) h.spelled
        ∙ sym (append_assoc (first_line version) (flat_map record_line h.records) (terminated h.left));
  }

  -- what was put out after the first line
  put_all : (text : List ℕ) (after : Option (List ℕ)) → PutsOut (put_out b out) after text
      → after ≡ option_map (λ before. before ++ (first_line version ++ text)) a.printed
  put_all text after put =
      put
      ∙ ap (λ (x : List ℕ). option_map (λ (t : List ℕ). t ++ text) (option_map (λ printed. printed ++ x) b.printed)) first.line
      ∙ ap (λ (o : Option (List ℕ)). option_map (λ (t : List ℕ). t ++ text)
      (option_map (λ printed. printed ++ first_line version) o)) first.same
      ∙ printed_all (first_line version) text a.printed

  reads : (T : Type 0) (d : Outside) (after : Option (List ℕ)) (ending : Result T (Stop BadTextLine)) → d.printed ≡ after
      → ShowsAll version left (put_out b out) after ending → Reads bytes ending a d
  reads T d after ending printed all =
      let h = all.shown in
      record {
        version = version;
        records = h.records;
        named = h.named;
        rest = terminated h.left;
        begins = begins (put_out b out) after h;
        ends_at = all.ends_at;
        printed = printed ∙ put_all (readable version h.records) after h.put;
      }

  -- the first lines of a text, and what is left of it
  abbrev first_lines : (before after : Option (List ℕ)) → ShowsLines version left before after → FirstLines bytes
  first_lines before after h = record {
    version = version;
    records = h.records;
    named = h.named;
    left = h.left;
    begins = begins before after h;
  }

  runs_out_of_memory : (d : Outside) (after : Option (List ℕ)) → d.printed ≡ after → ShowsBeforeMemory version left (put_out b out) after
      → RunsOutOfMemory bytes a d
  runs_out_of_memory d after printed h = record {
    lines = first_lines (put_out b out) after h.shown;
    labelled = is_second version h.shown.records h.shown.named h.next.next h.shown.meaning h.next.takes;
    next = h.next;
    printed = printed ∙ put_all (readable version h.shown.records) after h.shown.put;
  }

  -- ---- every ending

  module _ (gathered : List ℕ) (c d : Outside) where
    fails_after_lines : LinesFlushed version bytes left gathered (Err stop.ReadFailed) a b c d
        → ShowsWholeLines version left c.input (put_out b out) (put_out c gathered) → FailsAfterLines bytes a d
    fails_after_lines f h = record {
      lines = first_lines (put_out b out) (put_out c gathered) h.shown;
      whole = f.whole refl ∙ ap (λ (x : List ℕ). first_line version ++ x) h.whole
          ∙ sym (append_assoc (first_line version) (flat_map record_line h.shown.records) h.shown.left);
      breaks = subst (λ (o : Option (List ℕ)). BreaksOff h.shown.left o) (sym f.unread) h.breaks;
      printed = as_far_of_text out (first_line version)
          (readable version h.shown.records) gathered a b c d first.same first.line h.shown.put f.grown f.counted (f.far refl);
    }

    pub reads_ending : (ending : Ending) → LinesFlushed version bytes left gathered ending a b c d
        → AllGives version left c.input (put_out b out) (put_out c gathered) ending → HasRead bytes ending a d
    reads_ending (Ok value) f all = reads (Unit {0}) d (put_out c gathered) (Ok value) (f.printed tt) all
    reads_ending (Err (stop.Bad bad)) f all = inr (reads (Unit {0}) d (put_out c gathered) (Err (stop.Bad bad)) (f.printed tt) all)
    reads_ending (Err stop.TooLong) f all = reads (Unit {0}) d (put_out c gathered) (Err stop.TooLong) (f.printed tt) all
    reads_ending (Err stop.ReadFailed) f all = inr (fails_after_lines f all)
    reads_ending (Err stop.OutOfMemory) f all = inr (runs_out_of_memory d (put_out c gathered) (f.printed tt) all)
    reads_ending (Err stop.WriteFailed) f all = tt
    reads_ending (Err stop.LogFailed) f all = absurd all

-- ---- where the first line was taken

pub left_known : (version : Version) (bytes : List ℕ) (left : Option (List ℕ))
    → Some (terminated bytes) ≡ option_map (λ rest. first_line version ++ terminated rest) left
    → (rest : List ℕ) × (left ≡ Some rest) × (terminated bytes ≡ first_line version ++ terminated rest)
left_known version bytes None e = absurd (let f : Some (terminated bytes) ≡ None = e in cc)
left_known version bytes (Some rest) e =
    (rest, refl, (let f : Some (terminated bytes) ≡ Some (first_line version ++ terminated rest) = e in cc))

-- all of it was taken, where a read may still fail
pub whole_first_line : (version : Version) (bytes rest : List ℕ) (left : Option (List ℕ)) (b : Buffered) (ending : Ending)
    → IsWholeOrLast (first_line version) (Some bytes) left b
    → (IsComplete b → ending ≡ Err stop.ReadFailed → ⊥) → left ≡ Some rest → ending ≡ Err stop.ReadFailed
    → bytes ≡ first_line version ++ rest
whole_first_line version bytes rest left b ending whole may_fail known failed =
    whole_known (first_line version) bytes rest (Some bytes) left b whole (λ complete. may_fail complete failed) refl known

-- the flush may fail after any ending
pub flushed : (R : Type 0) (bytes : List ℕ) (a d : Outside) (ending result : Ending)
    → (result ≡ ending) ⊎ ((result ≡ Err stop.WriteFailed) × R) → (result ≡ ending → HasRead bytes ending a d)
    → HasRead bytes result a d
flushed R bytes a d ending result (inl e) h = subst (λ (r : Ending). HasRead bytes r a d) (sym e) (h e)
flushed R bytes a d ending result (inr e) h = rw e.0 tt

-- ---- the report changes nothing of what was printed

reads_later : (T : Type 0) (bytes : List ℕ) (ending : Result T (Stop BadTextLine)) (a b c : Outside) → Reads bytes ending a b
    → c.printed ≡ b.printed → Reads bytes ending a c
reads_later T bytes ending a b c h e = record {
  version = h.version;
  records = h.records;
  named = h.named;
  rest = h.rest;
  begins = h.begins;
  ends_at = h.ends_at;
  printed = e ∙ h.printed;
}

module _ (bytes : List ℕ) (a b c : Outside) (o : OnlyReports b c) where
  breaks_later : (b.input ≡ a.input) ⊎ BreaksOff bytes b.input → (c.input ≡ a.input) ⊎ BreaksOff bytes c.input
  breaks_later (inl h) = inl (o.input ∙ h)
  breaks_later (inr h) = inr (subst (λ (i : Option (List ℕ)). BreaksOff bytes i) (sym o.input) h)

  failed_later : FailsInFirstLine bytes a b ⊎ FailsAfterLines bytes a b → FailsInFirstLine bytes a c ⊎ FailsAfterLines bytes a c
  failed_later (inl h) = inl (record { breaks = breaks_later h.breaks; printed = o.printed ∙ h.printed })
  failed_later (inr h) = inr (record {
    lines = h.lines;
    whole = h.whole;
    breaks = subst (λ (i : Option (List ℕ)). BreaksOff h.lines.left i) (sym o.input) h.breaks;
    printed = as_far_later (readable_text h.lines.version h.lines.records) a b c h.printed o.printed o.out_faults;
  })

  memory_later : OnlyReports a b ⊎ RunsOutOfMemory bytes a b → OnlyReports a c ⊎ RunsOutOfMemory bytes a c
  memory_later (inl h) = inl (reports_only-then a b c h o)
  memory_later (inr h) = inr (record { lines = h.lines; labelled = h.labelled; next = h.next; printed = o.printed ∙ h.printed })

  read_later : (ending : Ending) → HasRead bytes ending a b → HasRead bytes ending a c
  read_later (Ok value) h = reads_later (Unit {0}) bytes (Ok value) a b c h o.printed
  read_later (Err (stop.Bad bad)) (inl h) = inl (record { first = h.first; none = h.none; printed = o.printed ∙ h.printed })
  read_later (Err (stop.Bad bad)) (inr h) = inr (reads_later (Unit {0}) bytes (Err (stop.Bad bad)) a b c h o.printed)
  read_later (Err stop.TooLong) h = reads_later (Unit {0}) bytes (Err stop.TooLong) a b c h o.printed
  read_later (Err stop.ReadFailed) h = failed_later h
  read_later (Err stop.OutOfMemory) h = memory_later h
  read_later (Err stop.WriteFailed) h = tt
  read_later (Err stop.LogFailed) h = absurd h

-- an ending was reported, with its status
pub record EndingReported (status : ℕ) (ending : Ending) (a b c : Outside) : Type 0 where
  pub quiet : b.reported ≡ a.reported
  pub faults : b.err_faults ≡ a.err_faults
  pub zero : OnOk ending (status ≡ 0)
  pub same : OnOk ending (c ≡ b)
  pub status_is : IfErr ending (λ why. status ≡ status_of why)
  pub reports : IfErr ending (λ why. Reports b c (report_of text_of_bad_line why))

pub read_with : (status : ℕ) (bytes : List ℕ) (ending : Ending) (a b c : Outside) → EndingReported status ending a b c
    → HasRead bytes ending a b → ReadWith bytes status a c
read_with status bytes (Ok value) a b c e h = record {
  ending = Ok value;
  status_is = e.zero;
  read = read_later bytes a b c (subst (λ (o : Outside). OnlyReports b o) (sym e.same) (reports_only-same b)) (Ok value) h;
  reported = ap (λ (o : Outside). o.reported) e.same ∙ e.quiet;
}
read_with status bytes (Err why) a b c e h = record {
  ending = Err why;
  status_is = e.status_is;
  read = read_later bytes a b c e.reports.others (Err why) h;
  reported = has_reported (report_of text_of_bad_line why) a b c e.quiet e.faults e.reports.reported;
}
