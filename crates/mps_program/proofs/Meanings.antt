-- Records that replay have a meaning in a text: names are interned in order, and no label has the number of none.
use Rattle.std.proofs.Common.{◌≡◌, ◌∙◌, ℕ, ◌+◌, Bool, true, false, refl, sym, ap, List, [], ◌∷◌, length, Option, Some, None, arith}
use Rattle.std.proofs.lemmas.List.{length-append}
use Rattle.std.proofs.lemmas.Option.{none-some, same_Some}
use Rattle.std.specs.Prelude.{◌==◌, ◌&&◌, nat_lt, if◌then◌else◌, IsTrue, MatchOption, option_and_then, option_map, slice_index}
use Rattle.std.specs.List.{AllByRecursion}
use Rattle.mps_base.specs.Record.{Record}
use Rattle.mps_event.specs.declared.event.Event.{Event}
use Rattle.mps_event.specs.declared.event.Event.TheVariants.{ArenaCreate, LimitSet, PoolCreate, Flip, End, SegAlloc, SegFree, Splat, Commit, Alloc, Move, Stay, Post, Free, Intern, Label}
use Rattle.mps_event.specs.declared.version.Version.TheVariants.{Two}
use Rattle.mps_event.specs.Event.{code_of, event_of, field_count_of}
use Rattle.mps_event.specs.Grammar.{IsRecord, interns_a_name}
use Rattle.mps_event.specs.Name.{interned_bytes, name_in}
use Rattle.mps_event.proofs.Records.{code-is}
use Rattle.mps_model.specs.Replay.{Store, store_after, is_live}
use Rattle.mps_model.specs.Replayed.{State, replayed_after, replayed_from}
use Rattle.mps_txt.specs.Labels.{Naming, after_event, after_record, after_records, id_at, moved, relabelled, with_label, with_name, without_label}

-- a record has a meaning, and as many names have numbers after it as in the replay
pub record Means (next : Option Naming) (after : State) : Type 0 where
  pub named : Naming
  pub is : next ≡ Some named
  pub count : length named.names ≡ after.interned

-- a record of blocks interns nothing
same_count : (s t : State) (o : Option Store) → option_map (λ blocks. record s { blocks = blocks }) o ≡ Some t → t.interned ≡ s.interned
same_count s t None e = absurd (none-some t e)
same_count s t (Some blocks) e = sym (ap (λ (x : State). x.interned) (same_Some (record s { blocks = blocks }) t e))

relabelled_names : (n : Naming) (address : ℕ) (o : Option ℕ) → (relabelled n address o).names ≡ n.names
relabelled_names n address None = refl
relabelled_names n address (Some id) = refl

abbrev the_record : (line : ℕ) → Event → List ℕ → Record
the_record line event fields = record { line = line; code = code_of event; fields = fields }

module _ (line : ℕ) (fields : List ℕ) (s t : State) (n : Naming) (count : length n.names ≡ s.interned) where
  -- a record that leaves the names
  quiet : (event : Event) (next : Naming) → after_event event fields n ≡ Some next → next.names ≡ n.names
      → replayed_after s (the_record line event fields) ≡ option_map (λ blocks. record s { blocks = blocks }) (store_after s.blocks
      (the_record line event fields))
      → replayed_after s (the_record line event fields) ≡ Some t → Means (after_event event fields n) t
  quiet event next is names blocks e = record {
    named = next;
    is = is;
    count = ap (λ (ns : List (List ℕ)). length ns) names ∙ count
        ∙ sym (same_count s t (store_after s.blocks (the_record line event fields)) (sym blocks ∙ e));
  }

  intern_by : (b : Bool) (id : ℕ) → (id == s.interned) ≡ b → (if b then Some (record s { interned = s.interned + 1 }) else None) ≡ Some t
      → Means (if id == length n.names then Some (with_name n (name_in (interned_bytes fields))) else None) t
  intern_by true id is e = record {
    named = with_name n (name_in (interned_bytes fields));
    is = ap (λ k. if id == k then Some (with_name n (name_in (interned_bytes fields))) else None) count
        ∙ ap (λ b. if b then Some (with_name n (name_in (interned_bytes fields))) else None) is;
    count = let longer = length-append n.names (name_in (interned_bytes fields) ∷ []) in
        let after : s.interned + 1 ≡ t.interned = ap (λ (x : State). x.interned) (same_Some (record s { interned = s.interned + 1 }) t e) in
        omega (arith, longer, after, count);
  }
  intern_by false id is e = absurd (none-some t e)

  label_by : (at id : ℕ) (b c : Bool) → nat_lt id s.interned ≡ b → is_live s.blocks at ≡ c → (if b && c then Some s else None) ≡ Some t
      → Means (if nat_lt id (length n.names) then Some (with_label n at id) else None) t
  label_by at id true c low live e = record {
    named = with_label n at id;
    is = ap (λ k. if nat_lt id k then Some (with_label n at id) else None) count
        ∙ ap (λ b. if b then Some (with_label n at id) else None) low;
    count = count ∙ ap (λ (x : State). x.interned) (of_live c e);
  }
    where
      of_live : (c : Bool) → (if true && c then Some s else None) ≡ Some t → s ≡ t
      of_live true e = same_Some s t e
      of_live false e = absurd (none-some t e)
  label_by at id false c low live e = absurd (none-some t e)

  event_means : (event : Event) → replayed_after s (the_record line event fields) ≡ Some t → Means (after_event event fields n) t
  event_means Intern e = intern_by (slice_index fields 0 == s.interned) (slice_index fields 0) refl e
  event_means Label e =
      label_by (slice_index fields 0) (slice_index fields 1) (nat_lt (slice_index fields 1) s.interned)
      (is_live s.blocks (slice_index fields 0)) refl refl e
  event_means Move e =
      quiet Move (moved n (slice_index fields 0) (slice_index fields 1)) refl
      (relabelled_names n (slice_index fields 1) (id_at n (slice_index fields 0))) refl e
  event_means Commit e = quiet Commit (without_label n (slice_index fields 0)) refl refl refl e
  event_means Alloc e = quiet Alloc (without_label n (slice_index fields 0)) refl refl refl e
  event_means Free e = quiet Free (without_label n (slice_index fields 0)) refl refl refl e
  event_means ArenaCreate e = quiet ArenaCreate n refl refl refl e
  event_means LimitSet e = quiet LimitSet n refl refl refl e
  event_means PoolCreate e = quiet PoolCreate n refl refl refl e
  event_means Flip e = quiet Flip n refl refl refl e
  event_means End e = quiet End n refl refl refl e
  event_means SegAlloc e = quiet SegAlloc n refl refl refl e
  event_means SegFree e = quiet SegFree n refl refl refl e
  event_means Splat e = quiet Splat n refl refl refl e
  event_means Stay e = quiet Stay n refl refl refl e
  event_means Post e = quiet Post n refl refl refl e

record_means : (r : Record) → IsRecord Two r → (s t : State) (n : Naming) → length n.names ≡ s.interned → replayed_after s r ≡ Some t
    → Means (after_record Two n r) t
record_means r is s t n count e = of_event (event_of Two r.code) refl is.fields
  where
    of_event : (o : Option Event) → event_of Two r.code ≡ o
        → MatchOption o ⊥ (λ event. (length r.fields ≡ field_count_of event)
        × IsTrue (interns_a_name event r.fields))
        → Means (option_and_then (λ event. after_event event r.fields n) o) t
    of_event None found none = absurd none
    of_event (Some event) found some =
        let code : code_of event ≡ r.code = code-is Two r.code event found in
        event_means r.line r.fields s t n count event
        (ap (λ k. replayed_after s (record { line = r.line; code = k; fields = r.fields })) code ∙ e)

-- records that replay
pub meaning_of : (rs : List Record) → AllByRecursion (IsRecord Two) rs → (s t : State) (n : Naming) → length n.names ≡ s.interned
    → replayed_from s rs ≡ Some t → Means (after_records Two n rs) t
meaning_of [] each s t n count e =
    record { named = n; is = refl; count = count ∙ ap (λ (x : State). x.interned) (same_Some s t e) }
meaning_of (r ∷ rs) each s t n count e =
    of_next (λ mid m same later. meaning_of rs each.1 mid t m same later) (replayed_after s r) refl e
  where
    of_next : ((mid : State) (m : Naming) → length m.names ≡ mid.interned → replayed_from mid rs ≡ Some t
        → Means (after_records Two m rs) t) → (o : Option State) → replayed_after s r ≡ o
        → option_and_then (λ after. replayed_from after rs) o ≡ Some t → Means (after_records Two n (r ∷ rs)) t
    of_next later None is e = absurd (none-some t e)
    of_next later (Some mid) is e =
        let one = record_means r each.0 s mid n count is in
        let rest = later mid one.named one.count e in
        record {
          named = rest.named;
          is = ap (λ o. option_and_then (λ next. after_records Two next rs) o) one.is ∙ rest.is;
          count = rest.count;
        }
