-- The lines so far, one after the other.
use Rattle.std.proofs.Common.{◌≡◌, ℕ, ◌+◌, ◌<◌, true, false, List, [], ◌∷◌, ◌++◌, length, Option, Some, None, Ok, Err, refl, sym, ap, subst, ◌∙◌, append_assoc, arith, inl, inr}
use Rattle.std.specs.Prelude.{◌≢◌, IfSome, unwrap_or, option_and_then, All}
use Rattle.std.specs.List.{flat_map}
use Rattle.std.specs.Option.{option_map}
use Rattle.std.proofs.lemmas.List.{append-nil, length-append}
use Rattle.std.proofs.lemmas.List.Elements.{All-nil}
use Rattle.mps_base.specs.Record.{Record}
use Rattle.mps_event.specs.declared.version.Version.{Version}
use Rattle.mps_event.specs.Grammar.{IsRecord}
use Rattle.mps_report.specs.declared.stop.Stop.{Stop}
use Rattle.mps_report.specs.declared.stop.Stop.TheVariants as stop
use Rattle.mps_log_reader.specs.Input.{Buffered, IsComplete}
use Rattle.mps_log_reader.specs.Left.{LastGives}
use Rattle.mps_log_reader.specs.PutOut.{PutsOut}
use Rattle.mps_log_reader.specs.RecordLine.{record_line}
use Rattle.mps_log_reader.proofs.Left.{one_in_front}
use Rattle.mps_log_reader.proofs.PutOut.{one_put}
use Rattle.mps_log_reader.proofs.Records.{all_and_one, flat_one}
use Rattle.mps_txt.specs.declared.bad_text_line.BadTextLine.{BadTextLine}
use Rattle.mps_txt.specs.Labels.{Naming, no_names, after_record, after_records}
use Rattle.mps_txt.specs.Readable.{readable_line, readable_from, readable}
use Rattle.mps_txt.specs.Text.{terminated, max_lines, max_record_lines, Ending, IsWrongNext, IsNextToTakeMemory, BreaksOff}
use Rattle.mps_txt.specs.TextSteps.{IsWholeOrLast, Progress, NextGives, ShowsLines, AllGives}
use Rattle.mps_txt.proofs.LastLineFeed.{terminated-some}

-- ---- one more record

pub naming_is : (x y : Naming) → Some x ≡ Some y → x ≡ y
naming_is x y e = cc

module _ (version : Version) (r : Record) (named t : Naming) (f : after_record version named r ≡ Some t) where
  then_one : (first : Option Naming) (rs : List Record)
      → ((n : Naming) → after_records version n rs ≡ Some named → after_records version n (rs ++ r ∷ []) ≡ Some t)
      → option_and_then (λ n. after_records version n rs) first ≡ Some named
      → option_and_then (λ n. after_records version n (rs ++ r ∷ [])) first ≡ Some t
  then_one None rs step e = absurd (let f : None ≡ Some named = e in cc)
  then_one (Some n) rs step e = step n e

  -- what records and one more do
  pub after_one : (s : Naming) (rs : List Record) → after_records version s rs ≡ Some named
      → after_records version s (rs ++ r ∷ []) ≡ Some t
  after_one s [] e =
      let is : s ≡ named = naming_is s named e in
      ap (λ (n : Naming). option_and_then (λ next. Some next) (after_record version n r)) is
      ∙ ap (λ (o : Option Naming). option_and_then (λ next. Some next) o) f
  after_one s (x ∷ rs) e = then_one (after_record version s x) rs (λ n g. after_one n rs g) e

pub first_step : (version : Version) (first : Option Naming) (rs : List Record) (named : Naming)
    → option_and_then (λ n. after_records version n rs) first ≡ Some named
    → (n : Naming) × (first ≡ Some n) × (after_records version n rs ≡ Some named)
first_step version None rs named e = absurd (let f : None ≡ Some named = e in cc)
first_step version (Some n) rs named e = (n, refl, e)

module _ (version : Version) (r : Record) (named t : Naming) (f : after_record version named r ≡ Some t) where
  line_at : (s : Naming) → s ≡ named → readable_from version s (r ∷ []) ≡ readable_line version named t r
  line_at s is =
      let after : unwrap_or (after_record version s r) s ≡ t =
      ap (λ (n : Naming). unwrap_or (after_record version n r) n) is ∙ ap (λ (o : Option Naming). unwrap_or o named) f in
      append-nil (readable_line version s (unwrap_or (after_record version s r) s) r)
      ∙ ap (λ (n : Naming). readable_line version s n r) after
      ∙ ap (λ (n : Naming). readable_line version n t r) is

  -- the text of records and one more
  pub readable_one : (s : Naming) (rs : List Record) → after_records version s rs ≡ Some named
      → readable_from version s (rs ++ r ∷ []) ≡ readable_from version s rs ++ readable_line version named t r
  readable_one s [] e = line_at s (naming_is s named e)
  readable_one s (x ∷ rs) e =
      let g = first_step version (after_record version s x) rs named e in
      let next = unwrap_or (after_record version s x) s in
      let is : next ≡ g.0 = ap (λ (o : Option Naming). unwrap_or o s) g.1 in
      let then : after_records version next rs ≡ Some named =
      subst (λ (n : Naming). after_records version n rs ≡ Some named) (sym is) g.2 in
      ap (λ (z : List ℕ). readable_line version s next x ++ z) (readable_one next rs then)
      ∙ sym (append_assoc (readable_line version s next x) (readable_from version next rs) (readable_line version named t r))

-- ---- the lines so far

-- the lines of `count` records were read and put out between two states of a reading
pub record LinesSoFar (version : Version) (count : ℕ) (start now : Progress) : Type 0 where
  pub records : List Record
  pub each : All (IsRecord version) records
  pub meaning : after_records version no_names records ≡ Some now.labels
  pub counted : length records ≡ count
  pub front : option_map terminated start.left ≡ option_map (λ rest. flat_map record_line records ++ terminated rest) now.left
  pub whole : IsWholeOrLast (flat_map record_line records) start.left now.left now.buffer
  pub put : PutsOut start.put now.put (readable version records)

both_terminated : (x y : List ℕ) (a b c : Option (List ℕ)) → option_map terminated a ≡ option_map (λ rest. x ++ terminated rest) b
    → option_map terminated b ≡ option_map (λ rest. y ++ terminated rest) c
    → option_map terminated a ≡ option_map (λ rest. (x ++ y) ++ terminated rest) c
both_terminated x y a None None e f = e
both_terminated x y a None (Some rest) e f = absurd (let g : None ≡ Some (y ++ terminated rest) = f in cc)
both_terminated x y a (Some left) None e f = absurd (let g : Some (terminated left) ≡ None = f in cc)
both_terminated x y a (Some left) (Some rest) e f =
    let g : terminated left ≡ y ++ terminated rest = (let h : Some (terminated left) ≡ Some (y ++ terminated rest) = f in cc) in
    e ∙ ap (λ (z : List ℕ). Some (x ++ z)) g ∙ ap Some (sym (append_assoc x y (terminated rest)))

whole_and_one : (text line : List ℕ) (a b c : Option (List ℕ)) (x y : Buffered) → (IsComplete x → IsComplete y)
    → IsWholeOrLast text a b x → IsWholeOrLast line b c y → IsWholeOrLast (text ++ line) a c y
whole_and_one text line a b c x y stays (inl e) (inl f) = inl (one_in_front text line a b c e f)
whole_and_one text line a b c x y stays (inl e) (inr h) = inr h
whole_and_one text line a b c x y stays (inr h) f = inr (stays h)

-- all of them are whole, where a read may still fail
pub whole_known : (x bytes rest : List ℕ) (left left_after : Option (List ℕ)) (b : Buffered)
    → IsWholeOrLast x left left_after b → (IsComplete b → ⊥)
    → left ≡ Some bytes → left_after ≡ Some rest → bytes ≡ x ++ rest
whole_known x bytes rest left left_after b (inl h) may_fail e f =
    let g : Some bytes ≡ Some (x ++ rest) = sym e ∙ h ∙ ap (λ (o : Option (List ℕ)). option_map (λ rest. x ++ rest) o) f in
    cc
whole_known x bytes rest left left_after b (inr h) may_fail e f = absurd (may_fail h)

-- what is left after a text, where all that was left is known
left_known : (x bytes : List ℕ) (left left_after : Option (List ℕ))
    → option_map terminated left ≡ option_map (λ rest. x ++ terminated rest) left_after → left ≡ Some bytes
    → (rest : List ℕ) × (left_after ≡ Some rest) × (terminated bytes ≡ x ++ terminated rest)
left_known x bytes left None e f =
    absurd (let g : Some (terminated bytes) ≡ None = sym (ap (λ (o : Option (List ℕ)). option_map terminated o) f) ∙ e in cc)
left_known x bytes left (Some rest) e f = (
  rest,
  refl,
  (let g : Some (terminated bytes) ≡ Some (x ++ terminated rest) = sym
      (ap (λ (o : Option (List ℕ)). option_map terminated o) f) ∙ e in cc),
)

module _ (version : Version) (count : ℕ) (start now : Progress) (so_far : LinesSoFar version count start now) where
  pub one_more : (number : ℕ) (next : Progress) (unread : Option (List ℕ)) → NextGives version number now next unread (Ok true)
      → (IsComplete now.buffer → IsComplete next.buffer)
      → LinesSoFar version (count + 1) start next
  one_more number next unread n stays =
      let lines : flat_map record_line (so_far.records ++ n.read ∷ []) ≡ flat_map record_line so_far.records ++ record_line n.read =
      flat_one record_line so_far.records n.read in
      let shown : readable version (so_far.records ++ n.read ∷ []) ≡ readable version so_far.records
      ++ readable_line version now.labels next.labels n.read =
      readable_one version n.read now.labels next.labels n.meaning no_names so_far.records so_far.meaning in
      record {
        records = so_far.records ++ n.read ∷ [];
        each = all_and_one version so_far.records n.read so_far.each n.grammar;
        meaning = after_one version n.read now.labels next.labels n.meaning no_names so_far.records so_far.meaning;
        counted = length-append so_far.records (n.read ∷ []) ∙ ap (λ (k : ℕ). k + 1) so_far.counted;
        front = subst (λ (x : List ℕ). option_map terminated start.left ≡ option_map (λ rest. x ++ terminated rest) next.left) (sym lines)
            (both_terminated (flat_map record_line so_far.records) (record_line n.read) start.left now.left next.left so_far.front n.front);
        whole = subst (λ (x : List ℕ). IsWholeOrLast x start.left next.left next.buffer) (sym lines)
            (whole_and_one (flat_map record_line so_far.records)
            (record_line n.read) start.left now.left next.left now.buffer next.buffer stays so_far.whole n.whole);
        put = subst (λ (x : List ℕ). next.put ≡ option_map (λ all. all ++ x) start.put) (sym shown)
            (one_put (readable version so_far.records)
            (readable_line version now.labels next.labels n.read) start.put now.put next.put so_far.put n.put);
      }

  -- ---- where the bytes are known

  module _ (bytes : List ℕ) (known : start.left ≡ Some bytes) where
    rest : (rest : List ℕ) × (now.left ≡ Some rest) × (terminated bytes ≡ flat_map record_line so_far.records ++ terminated rest)
    rest = left_known (flat_map record_line so_far.records) bytes start.left now.left so_far.front known

    -- what holds of what is left
    of_rest : (P : List ℕ → Type 0) → IfSome now.left P → P rest.0
    of_rest P h = subst (λ (o : Option (List ℕ)). IfSome o P) rest.1 h

    whole_rest : (IsComplete now.buffer → ⊥) → bytes ≡ flat_map record_line so_far.records ++ rest.0
    whole_rest may_fail = whole_known
        (flat_map record_line so_far.records) bytes rest.0 start.left now.left now.buffer so_far.whole may_fail known rest.1

    -- the lines so far, where nothing more was put out
    abbrev shown_so_far : (put : Option (List ℕ)) → put ≡ now.put → count < max_lines → ShowsLines version bytes start.put put
    shown_so_far put same at_most = record {
      records = so_far.records;
      named = now.labels;
      left = rest.0;
      each = so_far.each;
      meaning = so_far.meaning;
      at_most = omega (arith, at_most, so_far.counted);
      spelled = rest.2;
      put = same ∙ so_far.put;
    }

    pub lines_shown : count < max_lines → ShowsLines version bytes start.put now.put
    lines_shown at_most = shown_so_far now.put refl at_most

    pub all_read : (number : ℕ) (next : Progress) (unread : Option (List ℕ)) → count < max_record_lines
        → NextGives version number now next unread (Ok false)
        → AllGives {T = Unit {0}} version bytes unread start.put next.put (Ok tt)
    all_read number next unread at_most n = record {
      shown = shown_so_far next.put n.1 (omega (arith, at_most));
      ends_at = ap terminated (of_rest (λ bytes. bytes ≡ []) n.0);
    }

    pub all_stop : (number : ℕ) (next : Progress) (unread : Option (List ℕ)) (why : Stop BadTextLine)
        → count < max_record_lines → number ≡ count + 2
        → NextGives version number now next unread (Err why) → (IsComplete now.buffer → why ≡ stop.ReadFailed → ⊥)
        → AllGives {T = Unit {0}} version bytes unread start.put next.put (Err why)
    all_stop number next unread (stop.Bad bad) at_most is n may_fail =
        let wrong = of_rest (λ bytes. (0 < length (terminated bytes)) × IsWrongNext version now.labels (terminated bytes)) n.1 in
        record {
          shown = shown_so_far next.put n.2 (omega (arith, at_most));
          ends_at = (omega (arith, n.0, is, so_far.counted), wrong.0, wrong.1, omega (arith, at_most, so_far.counted));
        }
    all_stop number next unread stop.ReadFailed at_most is n may_fail = record {
      shown = shown_so_far next.put n.1 (omega (arith, at_most));
      whole = whole_rest (λ complete. may_fail complete refl);
      breaks = of_rest (λ bytes. BreaksOff bytes unread) n.0;
    }
    all_stop number next unread stop.WriteFailed at_most is n may_fail = tt
    all_stop number next unread stop.OutOfMemory at_most is n may_fail = record {
      shown = shown_so_far next.put n.1 (omega (arith, at_most));
      next = of_rest (λ bytes. IsNextToTakeMemory version now.labels (terminated bytes)) n.0;
    }
    all_stop number next unread why at_most is n may_fail = absurd n

    -- as many lines were read as 32 bits count
    pub all_counted : (unread put : Option (List ℕ)) (result : Ending) → count ≡ max_record_lines → LastGives now.left result
        → (IsComplete now.buffer → result ≡ Err stop.ReadFailed → ⊥)
        → (result ≡ Err stop.ReadFailed → unread ≡ now.left) → put ≡ now.put
        → AllGives {T = Unit {0}} version bytes unread start.put put result
    all_counted unread put (Ok value) full n may_fail still same = record {
      shown = shown_so_far put same (omega (arith, full));
      ends_at = ap terminated (of_rest (λ bytes. bytes ≡ []) n);
    }
    all_counted unread put (Err stop.TooLong) full n may_fail still same = record {
      shown = shown_so_far put same (omega (arith, full));
      ends_at = (so_far.counted ∙ full, terminated-some rest.0 (of_rest (λ bytes. 0 < length bytes) n));
    }
    all_counted unread put (Err stop.ReadFailed) full n may_fail still same = record {
      shown = shown_so_far put same (omega (arith, full));
      whole = whole_rest (λ complete. may_fail complete refl);
      breaks = record {
        part = [];
        others = rest.0;
        split = refl;
        lacks = All-nil (λ byte. byte ≢ 10);
        at_most = omega arith;
        still = still refl ∙ rest.1;
      };
    }
    all_counted unread put (Err why) full n may_fail still same = absurd n
