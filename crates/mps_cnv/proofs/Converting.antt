-- The conversion of a log, one record after the other.
use Rattle.std.proofs.Common.{◌≡◌, ℕ, ◌+◌, ◌<◌, ◌≤◌, true, false, List, [], ◌∷◌, ◌++◌, length, drop, Option, Some, None, Result, Ok, Err, sym, ap, subst, ◌∙◌, arith}
use Rattle.std.specs.Prelude.{IfSome, unwrap_or}
use Rattle.std.specs.List.{All, flat_map}
use Rattle.std.specs.Option.{option_map}
use Rattle.std.proofs.lemmas.List.{length-append}
use Rattle.mps_desk.specs.Desk.{Outside}
use Rattle.mps_base.specs.Record.{Record, record_bytes, records_bytes}
use Rattle.mps_event.specs.declared.version.Version.{Version}
use Rattle.mps_event.specs.Grammar.{IsRecord}
use Rattle.mps_event.specs.Reading.{first_of}
use Rattle.mps_report.specs.declared.stop.Stop.{Stop}
use Rattle.mps_report.specs.declared.stop.Stop.TheVariants as stop
use Rattle.mps_log_reader.specs.declared.bad_log.BadLog.{BadLog}
use Rattle.mps_log_reader.specs.declared.bad_log.BadLog.TheVariants as bad_log
use Rattle.mps_log_reader.specs.Ending.{max_records}
use Rattle.mps_log_reader.specs.LogPrefix.{RecordsPrefix}
use Rattle.mps_report.specs.Streams.{FlushedPrefix}
use Rattle.mps_log_reader.specs.Input.{Buffered, ReadsMore, IsAtEnd}
use Rattle.mps_log_reader.specs.Left.{left_of, LastGives}
use Rattle.mps_log_reader.specs.PutOut.{put_out, PutsOut}
use Rattle.mps_log_reader.proofs.Left.{left_same, split_pending, nothing_left, fault_left, one_in_front, left_after_known}
use Rattle.mps_report.proofs.Appended.{appended_both}
use Rattle.mps_log_reader.proofs.PutOut.{put_same, put_more}
use Rattle.mps_log_reader.proofs.Records.{all_and_one, flat_one}
use Rattle.mps_cnv.specs.Portable.{line_of_kinds}
use Rattle.mps_cnv.specs.Converting.{PendingConverts, NextConverts, PutsLines, AllGive}

-- ---- one record

-- the next record, from what is pending: the pieces before it were read and printed
pub next_gives : (version : Version) (kinds offset : ℕ) (a b c : Outside) (x y : Buffered) (p q r : List ℕ) (size : Option ℕ)
    → IsAtEnd a x → ReadsMore a b x y → (y.ended ≡ false → y.failed ≡ false → 40 ≤ length y.pending) → FlushedPrefix b c p q
    → c.input ≡ b.input
    → PendingConverts version kinds offset y q r (Ok size)
    → NextConverts version kinds offset (left_of a x) (left_of c (record y { pending = drop (unwrap_or size 0) y.pending })) (put_out a p)
    (put_out c r) (Ok size)
next_gives version kinds offset a b c x y p q r None at_end reads enough kept same gives =
    let left : left_of b y ≡ left_of a x = left_same a b x y reads in
    let put : put_out c q ≡ put_out b p = put_same b c p q kept in
    let before : put_out b p ≡ put_out a p = ap (λ (o : Option (List ℕ)). option_map (λ printed. printed ++ p) o) reads.others.printed in (
      subst (λ (o : Option (List ℕ)). IfSome o (λ bytes. bytes ≡ [])) left
          (nothing_left version y.ended y.pending b.input gives.0 (λ h. enough h gives.1) (reads.end at_end)),
      ap (put_out c) gives.2 ∙ put ∙ before,
    )
next_gives version kinds offset a b c x y p q r (Some size) at_end reads enough kept same gives =
    let left : left_of b y ≡ left_of a x = left_same a b x y reads in
    let put : put_out c q ≡ put_out b p = put_same b c p q kept in
    let before : put_out b p ≡ put_out a p = ap (λ (o : Option (List ℕ)). option_map (λ printed. printed ++ p) o) reads.others.printed in
    let line = line_of_kinds version kinds gives.0 in
    record {
      read = gives.0;
      grammar = gives.1;
      sized = gives.2;
      front = sym left ∙ split_pending (record_bytes gives.0) y.pending (drop size y.pending) b.input gives.3
          ∙ ap (λ (o : Option (List ℕ)). option_map (λ rest. record_bytes gives.0 ++ rest)
          (option_map (λ rest. drop size y.pending ++ rest) o)) (sym same);
      put = ap (put_out c) gives.4 ∙ put_more q line c.printed
          ∙ ap (λ (o : Option (List ℕ)). option_map (λ all. all ++ line) o) (put ∙ before);
    }

pub next_stops : (version : Version) (kinds offset : ℕ) (a b c : Outside) (x y : Buffered) (left_after : Option (List ℕ)) (p q r : List ℕ)
    (why : Stop BadLog)
    → IsAtEnd a x → ReadsMore a b x y → FlushedPrefix b c p q
    → PendingConverts version kinds offset y q r (Err why)
    → NextConverts version kinds offset (left_of a x) left_after (put_out a p) (put_out c r) (Err why)
next_stops version kinds offset a b c x y left_after p q r (stop.Bad (bad_log.Record at fault)) at_end reads kept gives =
    let left : left_of b y ≡ left_of a x = left_same a b x y reads in
    let put : put_out c q ≡ put_out b p = put_same b c p q kept in
    let before : put_out b p ≡ put_out a p = ap (λ (o : Option (List ℕ)). option_map (λ printed. printed ++ p) o) reads.others.printed in (
      gives.0,
      subst (λ (o : Option (List ℕ)). IfSome o (λ bytes. first_of version true bytes ≡ Err fault)) left
          (fault_left version y.ended y.pending b.input fault gives.1 (reads.end at_end)),
      ap (put_out c) gives.2 ∙ put ∙ before,
    )
next_stops version kinds offset a b c x y left_after p q r stop.ReadFailed at_end reads kept gives = tt
next_stops version kinds offset a b c x y left_after p q r why at_end reads kept gives = absurd gives

-- ---- all records so far

pub record SoFar (version : Version) (kinds count offset : ℕ) (left left_after before after : Option (List ℕ)) : Type 0 where
  pub records : List Record
  pub each : All (IsRecord version) records
  pub counted : length records ≡ count
  pub place : offset ≡ 8 + length (records_bytes records)
  pub front : left ≡ option_map (λ rest. records_bytes records ++ rest) left_after
  pub put : PutsOut before after (flat_map (line_of_kinds version kinds) records)

pub one_more : (version : Version) (kinds count offset size : ℕ) (left left_after left_then before after put : Option (List ℕ))
    → SoFar version kinds count offset left left_after before after
    → NextConverts version kinds offset left_after left_then after put (Ok (Some size))
    → SoFar version kinds (count + 1) (offset + size) left left_then before put
one_more version kinds count offset size left left_after left_then before after put s n =
    let bytes : records_bytes (s.records ++ n.read ∷ []) ≡ records_bytes s.records ++ record_bytes n.read =
    flat_one record_bytes s.records n.read in
    record {
      records = s.records ++ n.read ∷ [];
      each = all_and_one version s.records n.read s.each n.grammar;
      counted = length-append s.records (n.read ∷ []) ∙ ap (λ (k : ℕ). k + 1) s.counted;
      place = let a = length-append (records_bytes s.records) (record_bytes n.read) in let b = ap (λ (x : List ℕ). length x) bytes in
          omega (arith, s.place, n.sized, a, b);
      front = subst (λ (x : List ℕ). left ≡ option_map (λ rest. x ++ rest) left_then) (sym bytes)
          (one_in_front (records_bytes s.records) (record_bytes n.read) left left_after left_then s.front n.front);
      put = subst (λ (x : List ℕ). put ≡ option_map (λ all. all ++ x) before)
          (sym (flat_one (line_of_kinds version kinds) s.records n.read))
          (appended_both (flat_map (line_of_kinds version kinds) s.records)
          (line_of_kinds version kinds n.read) before after put s.put n.put);
    }

-- the records so far are a prefix of all that was left, where that is known
pub record IsPrefix (version : Version) (kinds count offset : ℕ) (left_after before after : Option (List ℕ)) (bytes : List ℕ) : Type 0 where
  pub prefix : RecordsPrefix version bytes
  pub counted : length prefix.records ≡ count
  pub offset_is : offset ≡ 8 + length (records_bytes prefix.records)
  pub left : left_after ≡ Some prefix.rest
  pub put : PutsLines kinds prefix before after

pub known_prefix : (version : Version) (kinds count offset : ℕ) (left left_after before after : Option (List ℕ)) (bytes : List ℕ)
    → count ≤ max_records
    → SoFar version kinds count offset left left_after before after → left ≡ Some bytes
    → IsPrefix version kinds count offset left_after before after bytes
known_prefix version kinds count offset left left_after before after bytes le s e =
    let g = left_after_known (records_bytes s.records) bytes left left_after s.front e in
    record {
      prefix = record { records = s.records; rest = g.0; each = s.each; at_most = omega (arith, s.counted, le); spelled = g.2 };
      counted = s.counted;
      offset_is = s.place;
      left = g.1;
      put = s.put;
    }

module _ (version : Version) (kinds count offset : ℕ) (left left_after before after : Option (List ℕ)) (bytes : List ℕ) where
  pub all_read : (left_then put : Option (List ℕ)) → count < max_records → SoFar version kinds count offset left left_after before after
      → NextConverts version kinds offset left_after left_then after put (Ok None) → left ≡ Some bytes
      → AllGive version kinds bytes before put (Ok tt)
  all_read left_then put few s n e =
      let p = known_prefix version kinds count offset left left_after before after bytes (omega (arith, few)) s e in
      record {
        prefix = p.prefix;
        ends_at = subst (λ (o : Option (List ℕ)). IfSome o (λ bytes. bytes ≡ [])) p.left n.0;
        put = n.1 ∙ p.put;
      }

  pub all_stop : (left_then put : Option (List ℕ)) (why : Stop BadLog) → count < max_records
      → SoFar version kinds count offset left left_after before after
      → NextConverts version kinds offset left_after left_then after put (Err why) → left ≡ Some bytes
      → AllGive version kinds bytes before put (Err why)
  all_stop left_then put (stop.Bad (bad_log.Record at fault)) few s n e =
      let p = known_prefix version kinds count offset left left_after before after bytes (omega (arith, few)) s e in
      record {
        prefix = p.prefix;
        ends_at = (
          n.0 ∙ p.offset_is,
          subst (λ (o : Option (List ℕ)). IfSome o (λ bytes. first_of version true bytes ≡ Err fault)) p.left
              n.1,
          omega (arith, p.counted, few),
        );
        put = n.2 ∙ p.put;
      }
  all_stop left_then put stop.ReadFailed few s n e = tt
  all_stop left_then put stop.WriteFailed few s n e = tt
  all_stop left_then put why few s n e = absurd n

  pub all_counted : (result : Result (Unit {0}) (Stop BadLog)) → count ≡ max_records
      → SoFar version kinds count offset left left_after before after
      → LastGives left_after result → left ≡ Some bytes → AllGive version kinds bytes before after result
  all_counted (Ok value) full s n e =
      let p = known_prefix version kinds count offset left left_after before after bytes (omega (arith, full)) s e in
      record {
        prefix = p.prefix;
        ends_at = subst (λ (o : Option (List ℕ)). IfSome o (λ bytes. bytes ≡ [])) p.left n;
        put = p.put;
      }
  all_counted (Err stop.TooLong) full s n e =
      let p = known_prefix version kinds count offset left left_after before after bytes (omega (arith, full)) s e in
      record {
        prefix = p.prefix;
        ends_at = (p.counted ∙ full, subst (λ (o : Option (List ℕ)). IfSome o (λ bytes. 0 < length bytes)) p.left n);
        put = p.put;
      }
  all_counted (Err stop.ReadFailed) full s n e = tt
  all_counted result full s n e = absurd n
