-- The lines of a text are read in one way only.
use Rattle.std.proofs.Common.{◌≡◌, ℕ, ◌+◌, ◌<◌, ◌⊎◌, true, List, [], ◌∷◌, ◌++◌, length, get_or, Option, Some, None, Ok, Err, refl, sym, ap, subst, ◌∙◌, append_assoc, arith, inl, inr}
use Rattle.std.specs.Prelude.{option_and_then, codes}
use Rattle.std.specs.List.{AllByRecursion, flat_map}
use Rattle.std.specs.Option.{option_map}
use Rattle.std.proofs.lemmas.List.{append-nil, append_cancel_left, length-append}
use Rattle.std.proofs.lemmas.List.Elements.{recursion_from_All}
use Rattle.std.proofs.lemmas.Option.{none-some}
use Rattle.mps_desk.specs.Desk.{Outside}
use Rattle.mps_base.specs.Record.{Record}
use Rattle.mps_event.specs.declared.version.Version.{Version}
use Rattle.mps_event.specs.declared.version.Version.TheVariants.{One, Two}
use Rattle.mps_event.specs.Grammar.{IsRecord}
use Rattle.mps_report.specs.declared.stop.Stop.TheVariants as stop
use Rattle.mps_report.specs.Reports.{status_of_ending, HasReportedEnding}
use Rattle.mps_log_reader.specs.Opening.{first_line}
use Rattle.mps_log_reader.specs.Ending.{is_input_verdict}
use Rattle.mps_log_reader.specs.RecordLine.{record_line}
use Rattle.mps_log_reader.proofs.PutOut.{nothing_put}
use Rattle.mps_log_reader.proofs.Stops.{other_than_verdict}
use Rattle.mps_txt.specs.declared.bad_text_line.BadTextLine.{BadTextLine}
use Rattle.mps_txt.specs.BadTextLine.{bad_line, text_of_bad_line}
use Rattle.mps_txt.specs.Line.{record_text}
use Rattle.mps_txt.specs.Labels.{Naming, no_names, after_record, after_records}
use Rattle.mps_txt.specs.Text.{readable_text, max_lines, max_record_lines, Ending, BeginsWith, HasNoFirstLine, FindsNoFirstLine, TextEndsAt, TextEndsWith, Reads, HasRead, ReadWith, IsUniqueReading}
use Rattle.mps_txt.proofs.SplitAtByte.{one_split}
use Rattle.mps_txt.proofs.Spelling.{record_text_lacks, one_text}
use Rattle.mps_txt.proofs.LinesSoFar.{naming_is}

-- ---- lines before the same bytes

some_is : (x y : List ℕ) → Some x ≡ Some y → x ≡ y
some_is x y e = cc

one_line : (version : Version) (a b : Record) (x y : List ℕ) → IsRecord version a → IsRecord version b
    → record_line a ++ x ≡ record_line b ++ y → (a ≡ b) × (x ≡ y)
one_line version a b x y ga gb e =
    let fronts : record_text a ++ 10 ∷ x ≡ record_text b ++ 10 ∷ y = sym (append_assoc (record_text a) (codes "\n") x) ∙ e
    ∙ append_assoc (record_text b) (codes "\n") y in
    let same = one_split 10 (record_text a) (record_text b) (Some x) (Some y) (record_text_lacks version a ga)
    (record_text_lacks version b gb) fronts in (
      one_text version (record_text a) a b (record { grammar = ga; text = refl })
          (record { grammar = gb; text = same.0 }),
      some_is x y same.1,
    )

-- the second records are the first and some more
record Extends (version : Version) (first second : List Record) (x y : List ℕ) : Type 0 where
  more : List Record
  each : AllByRecursion (IsRecord version) more
  longer : second ≡ first ++ more
  rest : x ≡ flat_map record_line more ++ y

extends_both : (version : Version) (a b : Record) (first second : List Record) (x y : List ℕ) → a ≡ b → Extends version first second x y
    → Extends version (a ∷ first) (b ∷ second) x y
extends_both version a b first second x y same h = record {
  more = h.more;
  each = h.each;
  longer = ap (λ (r : Record). r ∷ second) (sym same) ∙ ap (λ (rs : List Record). a ∷ rs) h.longer;
  rest = h.rest;
}

one_extends : (version : Version) (first second : List Record) (x y : List ℕ) → AllByRecursion (IsRecord version) first
    → AllByRecursion (IsRecord version) second
    → flat_map record_line first ++ x ≡ flat_map record_line second ++ y
    → Extends version first second x y ⊎ Extends version second first y x
one_extends version [] second x y f s e = inl (record { more = second; each = s; longer = refl; rest = e })
one_extends version (a ∷ first) [] x y f s e = inr (record { more = a ∷ first; each = f; longer = refl; rest = sym e })
one_extends version (a ∷ first) (b ∷ second) x y f s e =
    let fronts : record_line a ++ (flat_map record_line first ++ x) ≡ record_line b ++ (flat_map record_line second ++ y) =
    sym (append_assoc (record_line a) (flat_map record_line first) x) ∙ e ∙ append_assoc (record_line b) (flat_map record_line second) y in
    let same = one_line version a b (flat_map record_line first ++ x) (flat_map record_line second ++ y) f.0 s.0 fronts in
    both_longer same.0 (one_extends version first second x y f.1 s.1 same.1)
  where
    both_longer : a ≡ b → Extends version first second x y ⊎ Extends version second first y x
        → Extends version (a ∷ first) (b ∷ second) x y ⊎ Extends version (b ∷ second) (a ∷ first) y x
    both_longer same (inl h) = inl (extends_both version a b first second x y same h)
    both_longer same (inr h) = inr (extends_both version b a second first y x (sym same) h)

-- ---- where a reading ends no line begins

-- what the records after others do
after_them : (version : Version) (first more : List Record) (s named last : Naming) → after_records version s first ≡ Some named
    → after_records version s (first ++ more) ≡ Some last
    → after_records version named more ≡ Some last
after_them version [] more s named last e f = subst (λ (n : Naming). after_records version n more ≡ Some last) (naming_is s named e) f
after_them version (r ∷ first) more s named last e f =
    step version first more named last (after_record version s r) e f (λ next g h. after_them version first more next named last g h)
  where
    step : (version : Version) (first more : List Record) (named last : Naming) (o : Option Naming)
        → option_and_then (λ next. after_records version next first) o ≡ Some named
        → option_and_then (λ next. after_records version next (first ++ more)) o ≡ Some last
        → ((next : Naming) → after_records version next first ≡ Some named → after_records version next (first ++ more) ≡ Some last
        → after_records version named more ≡ Some last)
        → after_records version named more ≡ Some last
    step version first more named last None e f h = absurd (none-some named e)
    step version first more named last (Some next) e f h = h next e f

has_meaning : (version : Version) (r : Record) (rs : List Record) (named last : Naming)
    → after_records version named (r ∷ rs) ≡ Some last → after_record version named r ≡ None → ⊥
has_meaning version r rs named last e none =
    none-some last (sym (ap (λ (o : Option Naming). option_and_then (λ next. after_records version next rs) o) none) ∙ e)

module _ (version : Version) (ending : Ending) (count : ℕ) (named last : Naming) (y : List ℕ) where
  no_line : (r : Record) (rs : List Record) → IsRecord version r → after_records version named (r ∷ rs) ≡ Some last
      → TextEndsAt version named ending count (flat_map record_line (r ∷ rs) ++ y) → count + length (r ∷ rs) < max_lines → ⊥
  no_line r rs h meaning e at_most = none_at ending e
    where
      none_at : (ending : Ending) → TextEndsAt version named ending count (flat_map record_line (r ∷ rs) ++ y) → ⊥
      none_at (Ok value) e =
          omega (
            arith,
            ap (λ (x : List ℕ). length x) e,
            length-append (flat_map record_line (r ∷ rs)) y,
            length-append (record_line r)
                (flat_map record_line rs),
            length-append (record_text r) (codes "\n"),
          )
      none_at (Err (stop.Bad bad)) e =
          has_meaning version r rs named last meaning
          (e.2 r (flat_map record_line rs ++ y) h (append_assoc (record_line r) (flat_map record_line rs) y))
      none_at (Err stop.TooLong) e = omega (arith, e.0, at_most)
      none_at (Err why) e = e

  no_more : (more : List Record) → AllByRecursion (IsRecord version) more → after_records version named more ≡ Some last
      → TextEndsAt version named ending count (flat_map record_line more ++ y) → count + length more < max_lines → more ≡ []
  no_more [] h meaning e at_most = refl
  no_more (r ∷ rs) h meaning e at_most = absurd (no_line r rs h.0 meaning e at_most)

same_of_extension : (version : Version) (ending : Ending) (first second : List Record) (named last : Naming) (x y : List ℕ)
    → Extends version first second x y
    → after_records version no_names first ≡ Some named → after_records version no_names second ≡ Some last
    → TextEndsAt version named ending (length first) x → length second < max_lines
    → (second ≡ first) × (x ≡ y)
same_of_extension version ending first second named last x y h meaning longer e at_most =
    let size : length first + length h.more < max_lines =
    omega (arith, at_most, ap (λ (rs : List Record). length rs) h.longer, length-append first h.more) in
    let following = after_them version first h.more no_names named last meaning (ap (after_records version no_names) (sym h.longer)
    ∙ longer) in
    let none = no_more version ending (length first) named last y h.more h.each following
    (subst (λ (z : List ℕ). TextEndsAt version named ending (length first) z) h.rest e) size in (
      h.longer ∙ ap (λ (rs : List Record). first ++ rs) none ∙ append-nil first,
      h.rest
          ∙ ap (λ (rs : List Record). flat_map record_line rs ++ y) none,
    )

-- ---- one ending

record IsWrongAt (ending : Ending) (count : ℕ) (x : List ℕ) : Type 0 where
  is : ending ≡ Err (stop.Bad (bad_line (count + 2)))
  some : 0 < length x
  at_most : count < max_record_lines

record IsTooLong (ending : Ending) (count : ℕ) (x : List ℕ) : Type 0 where
  is : ending ≡ Err stop.TooLong
  full : count ≡ max_record_lines
  some : 0 < length x

abbrev IsOneOf : Ending → (count : ℕ) → List ℕ → Type 0
IsOneOf ending count x = ((ending ≡ Ok tt) × (x ≡ [])) ⊎ (IsWrongAt ending count x ⊎ IsTooLong ending count x)

one_of : (version : Version) (named : Naming) (ending : Ending) (count : ℕ) (x : List ℕ) → TextEndsAt version named ending count x
    → IsOneOf ending count x
one_of version named (Ok value) count x e = inl (refl, e)
one_of version named (Err (stop.Bad bad)) count x e =
    inr (inl (record { is = ap (λ (n : ℕ). Err (stop.Bad (bad_line n))) e.0; some = e.1; at_most = e.3 }))
one_of version named (Err stop.TooLong) count x e = inr (inr (record { is = refl; full = e.0; some = e.1 }))
one_of version named (Err why) count x e = absurd e

not_both : (x : List ℕ) → x ≡ [] → 0 < length x → ⊥
not_both x none some = omega (arith, ap (λ (z : List ℕ). length z) none, some)

one_ending : (e f : Ending) (count : ℕ) (x : List ℕ) → IsOneOf e count x → IsOneOf f count x → e ≡ f
one_ending e f count x (inl a) (inl b) = a.0 ∙ sym b.0
one_ending e f count x (inl a) (inr (inl b)) = absurd (not_both x a.1 b.some)
one_ending e f count x (inl a) (inr (inr b)) = absurd (not_both x a.1 b.some)
one_ending e f count x (inr (inl a)) (inl b) = absurd (not_both x b.1 a.some)
one_ending e f count x (inr (inl a)) (inr (inl b)) = a.is ∙ sym b.is
one_ending e f count x (inr (inl a)) (inr (inr b)) = absurd (omega (arith, a.at_most, b.full))
one_ending e f count x (inr (inr a)) (inl b) = absurd (not_both x b.1 a.some)
one_ending e f count x (inr (inr a)) (inr (inl b)) = absurd (omega (arith, b.at_most, a.full))
one_ending e f count x (inr (inr a)) (inr (inr b)) = a.is ∙ sym b.is

-- ---- one reading

same_version : (v w : Version) (p q : List ℕ) → first_line v ++ p ≡ first_line w ++ q → v ≡ w
same_version One One p q e = refl
same_version Two Two p q e = refl
same_version One Two p q e = absurd (let h : 49 ≡ 50 = ap (λ (bytes : List ℕ). get_or bytes 7 0) e in omega (arith, h))
same_version Two One p q e = absurd (let h : 50 ≡ 49 = ap (λ (bytes : List ℕ). get_or bytes 7 0) e in omega (arith, h))

record IsSame (v w : Version) (first second : List Record) (e f : Ending) : Type 0 where
  version : v ≡ w
  records : first ≡ second
  ending : e ≡ f

module _ (first second : List Record) (e f : Ending) (bytes : List ℕ) where
  same_records : (version : Version) (a : TextEndsWith version first e bytes) (b : TextEndsWith version second f bytes)
      → (second ≡ first) × (a.rest ≡ b.rest)
  same_records version a b =
      same_of (one_extends version first second a.rest b.rest (recursion_from_All (IsRecord version) first a.begins.each)
      (recursion_from_All (IsRecord version) second b.begins.each)
      (append_cancel_left line (flat_map record_line first ++ a.rest) (flat_map record_line second ++ b.rest)
      (sym (append_assoc line (flat_map record_line first) a.rest) ∙ sym a.begins.spelled ∙ b.begins.spelled
      ∙ append_assoc line (flat_map record_line second) b.rest)))
    where
      line : List ℕ
      line = first_line version

      same_of : Extends version first second a.rest b.rest ⊎ Extends version second first b.rest a.rest
          → (second ≡ first) × (a.rest ≡ b.rest)
      same_of (inl h) = same_of_extension version e first second a.named b.named a.rest b.rest h a.begins.meaning b.begins.meaning
          a.ends_at b.begins.at_most
      same_of (inr h) =
          let s = same_of_extension version f second first b.named a.named b.rest a.rest h b.begins.meaning a.begins.meaning
          b.ends_at a.begins.at_most in
          (sym s.0, sym s.1)

  same_in_version : (version : Version) → TextEndsWith version first e bytes → TextEndsWith version second f bytes
      → (first ≡ second) × (e ≡ f)
  same_in_version version a b =
      let s = same_records version a b in
      let mine = one_of version a.named e (length first) a.rest a.ends_at in
      let other = one_of version b.named f (length second) b.rest b.ends_at in (
        sym s.0,
        one_ending e f (length first) a.rest mine
            (subst (λ (z : List ℕ). IsOneOf f (length first) z) (sym s.1)
            (subst (λ (rs : List Record). IsOneOf f (length rs) b.rest) s.0 other)),
      )

  one_reading : (v w : Version) → TextEndsWith v first e bytes → TextEndsWith w second f bytes → IsSame v w first second e f
  one_reading v w a b =
      let version : v ≡ w = same_version v w (flat_map record_line first ++ a.rest) (flat_map record_line second ++ b.rest)
      (sym (append_assoc (first_line v) (flat_map record_line first) a.rest) ∙ sym a.begins.spelled ∙ b.begins.spelled
      ∙ append_assoc (first_line w) (flat_map record_line second) b.rest) in
      let s = same_in_version v a (subst (λ (u : Version). TextEndsWith u second f bytes) (sym version) b) in
      record { version = version; records = s.0; ending = s.1 }

-- ---- so a reading is the only one

-- bytes that were read begin with a first line
begins_with_one : (version : Version) (records : List Record) (named : Naming) (rest bytes : List ℕ)
    → BeginsWith version records named rest bytes → HasNoFirstLine bytes → ⊥
begins_with_one version records named rest bytes b none = none version (flat_map record_line records ++ rest) (b.spelled
    ∙ append_assoc (first_line version) (flat_map record_line records) rest)

module _ (bytes : List ℕ) (status : ℕ) (old new : Outside) where
  unique_of : (ending : Ending) → status ≡ status_of_ending ending → HasReportedEnding text_of_bad_line ending old new
      → Reads bytes ending old new → IsUniqueReading bytes status old new
  unique_of ending is reported c = record {
    with_first_line = λ version records other h.
        let mine : TextEndsWith c.version c.records ending bytes =
        record { named = c.named; rest = c.rest; begins = c.begins; ends_at = c.ends_at } in
        let s = one_reading c.records records ending other bytes c.version version mine h in
        record {
          status_is = is ∙ ap (λ (e : Ending). status_of_ending e) s.ending;
          printed = c.printed
              ∙ ap (λ (v : Version). option_map (λ before. before ++ readable_text v c.records) old.printed) s.version
              ∙ ap (λ (rs : List Record). option_map (λ before. before ++ readable_text version rs) old.printed) s.records;
          reported = subst (λ (e : Ending). HasReportedEnding text_of_bad_line e old new) s.ending reported;
        };
    without_first_line = λ none. absurd (begins_with_one c.version c.records c.named c.rest bytes c.begins none);
  }

  unique_without : (bad : BadTextLine) → status ≡ 6 → HasReportedEnding {T = Unit {0}} text_of_bad_line (Err (stop.Bad bad)) old new
      → FindsNoFirstLine bytes bad old new → IsUniqueReading bytes status old new
  unique_without bad is reported h = record {
    with_first_line = λ version records ending e. absurd (begins_with_one version records e.named e.rest bytes e.begins h.none);
    without_first_line = λ none. record {
      status_is = is;
      printed = h.printed ∙ nothing_put old.printed;
      reported = subst (λ (n : ℕ). HasReportedEnding {T = Unit {0}} text_of_bad_line
          (Err (stop.Bad (bad_line n))) old new) h.first reported;
    };
  }

  unique_ending : is_input_verdict status ≡ true → (ending : Ending) → status ≡ status_of_ending ending
      → HasReportedEnding text_of_bad_line ending old new → HasRead bytes ending old new
      → IsUniqueReading bytes status old new
  unique_ending verdict (Ok value) is reported h = unique_of (Ok value) is reported h
  unique_ending verdict (Err (stop.Bad bad)) is reported (inl h) = unique_without bad is reported h
  unique_ending verdict (Err (stop.Bad bad)) is reported (inr h) = unique_of (Err (stop.Bad bad)) is reported h
  unique_ending verdict (Err stop.TooLong) is reported h = unique_of (Err stop.TooLong) is reported h
  unique_ending verdict (Err stop.ReadFailed) is reported h = absurd (other_than_verdict status 3 is verdict refl)
  unique_ending verdict (Err stop.WriteFailed) is reported h = absurd (other_than_verdict status 4 is verdict refl)
  unique_ending verdict (Err stop.OutOfMemory) is reported h = absurd (other_than_verdict status 8 is verdict refl)
  unique_ending verdict (Err stop.LogFailed) is reported h = absurd h

  pub unique_reading : is_input_verdict status ≡ true → ReadWith bytes status old new → IsUniqueReading bytes status old new
  unique_reading verdict c = unique_ending verdict c.ending c.status_is c.reported c.read
