-- The replay of a log, one record after the other.
use Rattle.std.proofs.Common.{◌≡◌, ℕ, ◌+◌, ◌<◌, ◌≤◌, Bool, true, false, cond, eqb, ltb, ◌&&◌, List, [], ◌∷◌, ◌++◌, length, drop, Option, Some, None, Result, Ok, Err, refl, sym, ap, subst, ◌∙◌, append_assoc, arith}
use Rattle.std.specs.Prelude.{IfSome, option_and_then, unwrap_or, slice_index}
use Rattle.std.specs.List.{All}
use Rattle.std.specs.Option.{option_map}
use Rattle.std.proofs.lemmas.List.{length-append}
use Rattle.mps_desk.specs.Desk.{Outside}
use Rattle.mps_base.specs.Record.{Record, record_bytes, records_bytes, intern_code, label_code}
use Rattle.mps_event.specs.declared.version.Version.{Version}
use Rattle.mps_event.specs.Grammar.{IsRecord}
use Rattle.mps_event.specs.Reading.{first_of}
use Rattle.mps_report.specs.declared.stop.Stop.{Stop}
use Rattle.mps_report.specs.declared.stop.Stop.TheVariants as stop
use Rattle.mps_model.specs.Replay.{Store, is_live, store_after}
use Rattle.mps_log_reader.specs.declared.bad_log.BadLog.TheVariants as bad_log
use Rattle.mps_log_reader.specs.Ending.{max_records}
use Rattle.mps_log_reader.specs.LogPrefix.{RecordsPrefix}
use Rattle.mps_blocks.specs.declared.bad_replay.BadReplay.{BadReplay}
use Rattle.mps_blocks.specs.declared.bad_replay.BadReplay.TheVariants as bad_replay
use Rattle.mps_log_reader.specs.Input.{Buffered, ReadsMore, IsAtEnd}
use Rattle.mps_log_reader.specs.Left.{left_of, LastGives}
use Rattle.mps_log_reader.proofs.Left.{left_same, split_pending, nothing_left, fault_left, one_in_front, left_after_known}
use Rattle.mps_log_reader.proofs.Records.{all_and_one, flat_one}
use Rattle.mps_model.specs.Replayed.{State, after_interning, after_labelling, replayed_after, replayed_from}
use Rattle.mps_blocks.specs.Ending.{IsBadReplay}
use Rattle.mps_blocks.specs.Replaying.{PendingReplays, NextReplays, AllReplay}

-- ---- one record

bad_left : (version : Version) (state : State) (pending : List ℕ) (input : Option (List ℕ)) → IsBadReplay version state pending
    → IfSome (option_map (λ rest. pending ++ rest) input) (λ bytes. IsBadReplay version state bytes)
bad_left version state pending None h = tt
bad_left version state pending (Some rest) h = record {
  bad = h.bad;
  others = h.others ++ rest;
  grammar = h.grammar;
  front = ap (λ (x : List ℕ). x ++ rest) h.front ∙ append_assoc (record_bytes h.bad) h.others rest;
  refused = h.refused;
}

-- the next record, from what is pending
pub next_replays : (version : Version) (offset : ℕ) (a b : Outside) (x y : Buffered) (old new : State) (size : Option ℕ)
    → IsAtEnd a x → ReadsMore a b x y → (y.ended ≡ false → y.failed ≡ false → 40 ≤ length y.pending)
    → PendingReplays version offset y old new (Ok size)
    → NextReplays version offset (left_of a x) (left_of b (record y { pending = drop (unwrap_or size 0) y.pending })) old new (Ok size)
next_replays version offset a b x y old new None at_end reads enough gives =
    let left : left_of b y ≡ left_of a x = left_same a b x y reads in (
      subst (λ (o : Option (List ℕ)). IfSome o (λ bytes. bytes ≡ [])) left
          (nothing_left version y.ended y.pending b.input gives.0 (λ h. enough h gives.1) (reads.end at_end)),
      gives.2,
    )
next_replays version offset a b x y old new (Some size) at_end reads enough gives =
    let left : left_of b y ≡ left_of a x = left_same a b x y reads in
    record {
      read = gives.0;
      grammar = gives.1;
      sized = gives.2;
      front = sym left ∙ split_pending (record_bytes gives.0) y.pending (drop size y.pending) b.input gives.3;
      replay = gives.4;
    }

pub next_stops : (version : Version) (offset : ℕ) (a b : Outside) (x y : Buffered) (left_after : Option (List ℕ)) (old new : State)
    (why : Stop BadReplay)
    → IsAtEnd a x → ReadsMore a b x y
    → PendingReplays version offset y old new (Err why)
    → NextReplays version offset (left_of a x) left_after old new (Err why)
next_stops version offset a b x y left_after old new (stop.Bad (bad_replay.Log (bad_log.Record at fault))) at_end reads gives =
    let left : left_of b y ≡ left_of a x = left_same a b x y reads in (
      gives.0,
      subst (λ (o : Option (List ℕ)). IfSome o (λ bytes. first_of version true bytes ≡ Err fault)) left
          (fault_left version y.ended y.pending b.input fault gives.1 (reads.end at_end)),
    )
next_stops version offset a b x y left_after old new (stop.Bad (bad_replay.Replay at)) at_end reads gives =
    let left : left_of b y ≡ left_of a x = left_same a b x y reads in (
      gives.0,
      subst (λ (o : Option (List ℕ)). IfSome o (λ bytes. IsBadReplay version old bytes)) left
          (bad_left version old y.pending b.input gives.1),
    )
next_stops version offset a b x y left_after old new stop.ReadFailed at_end reads gives = tt
next_stops version offset a b x y left_after old new stop.OutOfMemory at_end reads gives = tt
next_stops version offset a b x y left_after old new why at_end reads gives = absurd gives

-- ---- all records so far

pub record SoFar (version : Version) (count offset : ℕ) (left left_after : Option (List ℕ)) (old new : State) : Type 0 where
  pub records : List Record
  pub each : All (IsRecord version) records
  pub counted : length records ≡ count
  pub offset_is : offset ≡ 8 + length (records_bytes records)
  pub front : left ≡ option_map (λ rest. records_bytes records ++ rest) left_after
  pub replay : replayed_from old records ≡ Some new

-- the records before, and one more
pub replayed-one : (s : State) (rs : List Record) (r : Record)
    → replayed_from s (rs ++ r ∷ []) ≡ option_and_then (λ after. replayed_after after r) (replayed_from s rs)
replayed-one s [] r = and_some (replayed_after s r)
  where
    and_some : (o : Option State) → option_and_then (λ (after : State). Some after) o ≡ o
    and_some None = refl
    and_some (Some t) = refl
replayed-one s (q ∷ rs) r = step (replayed_after s q) rs r (λ t. replayed-one t rs r)
  where
    step : (o : Option State) (rs : List Record) (r : Record)
        → ((t : State) → replayed_from t (rs ++ r ∷ []) ≡ option_and_then (λ after. replayed_after after r) (replayed_from t rs))
        → option_and_then (λ after. replayed_from after (rs ++ r ∷ [])) o
        ≡ option_and_then (λ after. replayed_after after r) (option_and_then (λ after. replayed_from after rs) o)
    step None rs r h = refl
    step (Some t) rs r h = h t

replayed_one_more : (s t u : State) (rs : List Record) (r : Record) → replayed_from s rs ≡ Some t → replayed_after t r ≡ Some u
    → replayed_from s (rs ++ r ∷ []) ≡ Some u
replayed_one_more s t u rs r h k = replayed-one s rs r ∙ ap (λ (o : Option State). option_and_then (λ after. replayed_after after r) o) h
    ∙ k

pub one_more : (version : Version) (count offset size : ℕ) (left left_after left_then : Option (List ℕ)) (old new next : State)
    → SoFar version count offset left left_after old new → NextReplays version offset left_after left_then new next (Ok (Some size))
    → SoFar version (count + 1) (offset + size) left left_then old next
one_more version count offset size left left_after left_then old new next s n =
    let bytes : records_bytes (s.records ++ n.read ∷ []) ≡ records_bytes s.records ++ record_bytes n.read =
    flat_one record_bytes s.records n.read in
    record {
      records = s.records ++ n.read ∷ [];
      each = all_and_one version s.records n.read s.each n.grammar;
      counted = length-append s.records (n.read ∷ []) ∙ ap (λ (k : ℕ). k + 1) s.counted;
      offset_is = let a = length-append (records_bytes s.records) (record_bytes n.read) in let b = ap (λ (x : List ℕ). length x) bytes in
          omega (arith, s.offset_is, n.sized, a, b);
      front = subst (λ (x : List ℕ). left ≡ option_map (λ rest. x ++ rest) left_then) (sym bytes)
          (one_in_front (records_bytes s.records) (record_bytes n.read) left left_after left_then s.front n.front);
      replay = replayed_one_more old new next s.records n.read s.replay n.replay;
    }

module _ (version : Version) (count offset : ℕ) (left left_after : Option (List ℕ)) (old new : State) (bytes : List ℕ) where
  -- the records so far are those of a prefix of what was left
  prefix_of : count ≤ max_records → SoFar version count offset left left_after old new → left ≡ Some bytes
      → (prefix : RecordsPrefix version bytes) × (replayed_from old prefix.records ≡ Some new) × (length prefix.records ≡ count)
      × (offset ≡ 8 + length (records_bytes prefix.records)) × (left_after ≡ Some prefix.rest)
  prefix_of at_most s e =
      let g = left_after_known (records_bytes s.records) bytes left left_after s.front e in (
        record { records = s.records; rest = g.0; each = s.each; at_most = omega (arith, s.counted, at_most); spelled = g.2 },
        s.replay,
        s.counted,
        s.offset_is,
        g.1,
      )

  pub all_read : (left_then : Option (List ℕ)) (next : State) → count < max_records
      → SoFar version count offset left left_after old new → NextReplays version offset left_after left_then new next (Ok None)
      → left ≡ Some bytes → AllReplay version bytes old next (Ok tt)
  all_read left_then next fewer s n e =
      let p = prefix_of (omega (arith, fewer)) s e in (
        record {
          prefix = p.0;
          state = new;
          replay = p.1;
          ends_at = subst (λ (o : Option (List ℕ)). IfSome o (λ bytes. bytes ≡ [])) p.4 n.0;
        },
        sym n.1,
      )

  pub all_stop : (left_then : Option (List ℕ)) (next : State) (why : Stop BadReplay) → count < max_records
      → SoFar version count offset left left_after old new → NextReplays version offset left_after left_then new next (Err why)
      → left ≡ Some bytes → AllReplay version bytes old next (Err why)
  all_stop left_then next (stop.Bad (bad_replay.Log (bad_log.Record at fault))) fewer s n e =
      let p = prefix_of (omega (arith, fewer)) s e in
      record {
        prefix = p.0;
        state = new;
        replay = p.1;
        ends_at = (
          n.0 ∙ p.3,
          subst (λ (o : Option (List ℕ)). IfSome o (λ bytes. first_of version true bytes ≡ Err fault)) p.4 n.1,
          omega (arith, p.2, fewer),
        );
      }
  all_stop left_then next (stop.Bad (bad_replay.Replay at)) fewer s n e =
      let p = prefix_of (omega (arith, fewer)) s e in
      record {
        prefix = p.0;
        state = new;
        replay = p.1;
        ends_at = (
          n.0 ∙ p.3,
          subst (λ (o : Option (List ℕ)). IfSome o (λ bytes. IsBadReplay version new bytes)) p.4 n.1,
          omega (arith, p.2, fewer),
        );
      }
  all_stop left_then next stop.ReadFailed fewer s n e = tt
  all_stop left_then next stop.OutOfMemory fewer s n e = tt
  all_stop left_then next why fewer s n e = absurd n

  pub all_counted : (result : Result (Unit {0}) (Stop BadReplay)) → count ≡ max_records
      → SoFar version count offset left left_after old new → LastGives left_after result
      → left ≡ Some bytes → AllReplay version bytes old new result
  all_counted (Ok value) full s n e =
      let p = prefix_of (omega (arith, full)) s e in (
        record {
          prefix = p.0;
          state = new;
          replay = p.1;
          ends_at = subst (λ (o : Option (List ℕ)). IfSome o (λ bytes. bytes ≡ [])) p.4 n;
        },
        refl,
      )
  all_counted (Err stop.TooLong) full s n e =
      let p = prefix_of (omega (arith, full)) s e in
      record {
        prefix = p.0;
        state = new;
        replay = p.1;
        ends_at = (p.2 ∙ full, subst (λ (o : Option (List ℕ)). IfSome o (λ bytes. 0 < length bytes)) p.4 n);
      }
  all_counted (Err stop.ReadFailed) full s n e = tt
  all_counted (Err why) full s n e = absurd n

-- ---- a record interns one name at most

abbrev AtMostOneMore : State → Option State → Type 0
AtMostOneMore s o = IfSome o (λ t. t.interned ≤ s.interned + 1)

either_way : (c : Bool) (s : State) (p q : Option State) → AtMostOneMore s p → AtMostOneMore s q → AtMostOneMore s (cond c p q)
either_way true s p q h k = h
either_way false s p q h k = k

same_names : (s : State) (o : Option Store) → AtMostOneMore s (option_map (λ blocks. record s { blocks = blocks }) o)
same_names s None = tt
same_names s (Some blocks) = omega arith

at_most_one : (s : State) (r : Record) → AtMostOneMore s (replayed_after s r)
at_most_one s r =
    let id = slice_index r.fields 0 in
    let at = slice_index r.fields 1 in
    either_way (eqb r.code intern_code) s (after_interning s id)
    (cond (eqb r.code label_code) (after_labelling s id at)
    (option_map (λ blocks. record s { blocks = blocks }) (store_after s.blocks r)))
    (either_way (eqb id s.interned) s (Some (record s { interned = s.interned + 1 })) None (omega arith) tt)
    (either_way (eqb r.code label_code) s (after_labelling s id at)
    (option_map (λ blocks. record s { blocks = blocks }) (store_after s.blocks r))
    (either_way (ltb at s.interned && is_live s.blocks id) s (Some s) None (omega arith) tt)
    (same_names s (store_after s.blocks r)))

pub interned_more : (s t : State) (r : Record) → replayed_after s r ≡ Some t → t.interned ≤ s.interned + 1
interned_more s t r e = subst (λ (o : Option State). AtMostOneMore s o) e (at_most_one s r)
