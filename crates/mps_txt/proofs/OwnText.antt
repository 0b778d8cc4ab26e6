-- A text of records that have a meaning is read to its end.
use Rattle.std.proofs.Common.{◌≡◌, ◌<◌, ℕ, List, [], ◌∷◌, ◌++◌, length, Some, Ok, refl, sym, ap, ◌∙◌, append_assoc, append-nil}
use Rattle.std.specs.Prelude.{All, codes}
use Rattle.std.specs.List.{flat_map}
use Rattle.mps_base.specs.Record.{Record}
use Rattle.mps_event.specs.declared.version.Version.{Version}
use Rattle.mps_event.specs.declared.version.Version.TheVariants.{One, Two}
use Rattle.mps_event.specs.Grammar.{IsRecord}
use Rattle.mps_log_reader.specs.Opening.{first_line}
use Rattle.mps_log_reader.specs.RecordLine.{record_line}
use Rattle.mps_txt.specs.Labels.{Naming, no_names, after_records}
use Rattle.mps_txt.specs.Line.{record_text}
use Rattle.mps_txt.specs.Text.{TextEndsWith, max_lines, portable_text, terminated}

-- ---- it ends with a line feed

record EndsInLineFeed (bytes : List ℕ) : Type 0 where
  pub front : List ℕ
  pub is : bytes ≡ front ++ 10 ∷ []

lines_end : (bytes : List ℕ) (records : List Record) → EndsInLineFeed bytes → EndsInLineFeed (bytes ++ flat_map record_line records)
lines_end bytes [] e = record { front = e.front; is = append-nil bytes ∙ e.is }
lines_end bytes (r ∷ rs) e =
    let next : EndsInLineFeed (bytes ++ record_line r) =
    record { front = bytes ++ record_text r; is = sym (append_assoc bytes (record_text r) (10 ∷ [])) } in
    let rest = lines_end (bytes ++ record_line r) rs next in
    record { front = rest.front; is = sym (append_assoc bytes (record_line r) (flat_map record_line rs)) ∙ rest.is }

after_line_feed : (front : List ℕ) → terminated (front ++ 10 ∷ []) ≡ front ++ 10 ∷ []
after_line_feed [] = refl
after_line_feed (x ∷ []) = refl
after_line_feed (x ∷ y ∷ ys) = ap (λ bytes. x ∷ bytes) (after_line_feed (y ∷ ys))

terminated_there : (bytes : List ℕ) → EndsInLineFeed bytes → terminated bytes ≡ bytes
terminated_there bytes e = ap terminated e.is ∙ after_line_feed e.front ∙ sym e.is

first_line_ends : (version : Version) → EndsInLineFeed (first_line version)
first_line_ends One = record { front = codes "mpslog 1"; is = refl }
first_line_ends Two = record { front = codes "mpslog 2"; is = refl }

pub reads_its_own : (version : Version) (records : List Record) (named : Naming) → All (IsRecord version) records
    → after_records version no_names records ≡ Some named → length records < max_lines
    → TextEndsWith version records (Ok tt) (portable_text version records)
reads_its_own version records named each meaning few = record {
  named = named;
  rest = [];
  begins = record {
    each = each;
    meaning = meaning;
    at_most = few;
    spelled = terminated_there (portable_text version records) (lines_end (first_line version) records (first_line_ends version))
        ∙ sym (append-nil (portable_text version records));
  };
  ends_at = refl;
}
