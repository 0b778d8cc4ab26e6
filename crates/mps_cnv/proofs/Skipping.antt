-- Records that are not wanted, passed over one after the other.
use Rattle.std.proofs.Common.{◌≡◌, ℕ, ◌+◌, ◌≤◌, Bool, true, false, cond, ltb, List, [], ◌∷◌, ◌++◌, length, take, drop, Option, Some, None, Ok, Err, refl, sym, ap, subst, ◌∙◌, append_assoc, arith}
use Rattle.std.specs.Prelude.{IfSome}
use Rattle.std.specs.List.{flat_map}
use Rattle.std.specs.Option.{option_map}
use Rattle.std.proofs.lemmas.Bool.{le-ltb}
use Rattle.std.proofs.lemmas.Grind.{flat_map-append}
use Rattle.std.proofs.lemmas.List.{append-nil, drop-drop, length-append}
use Rattle.std.proofs.lemmas.List.Elements.{All-append}
use Rattle.byteorder.specs.Endian.{little_number}
use Rattle.byteorder.specs.Numbers.{little_from-take}
use Rattle.mps_desk.specs.Desk.{Outside}
use Rattle.mps_base.specs.Record.{Record, record_bytes, records_bytes}
use Rattle.mps_event.specs.declared.version.Version.{Version}
use Rattle.mps_event.specs.declared.event.Event.{Event}
use Rattle.mps_event.specs.declared.event.Event.TheVariants.{Intern}
use Rattle.mps_event.specs.declared.fault.LogFault.TheVariants.{BadString}
use Rattle.mps_event.specs.Event.{event_of, field_count_of}
use Rattle.mps_event.specs.Grammar.{IsRecord, interns_a_name}
use Rattle.mps_event.specs.Kinds.{is_among}
use Rattle.mps_event.specs.Reading.{first_of, known_of, coded_of, too_few, whole_of, record_in, size_of_record}
use Rattle.mps_event.proofs.Bytes.{IsBytes}
use Rattle.mps_event.proofs.Names.{interns_nothing}
use Rattle.mps_event.proofs.Records.{HasEvent, BeginsWith, event_of_fields, count-le, known_is, record_read}
use Rattle.mps_log_reader.specs.declared.bad_log.BadLog.{BadLog}
use Rattle.mps_log_reader.specs.Causes.{WorksOnInput}
use Rattle.mps_log_reader.specs.Input.{Buffered}
use Rattle.mps_log_reader.proofs.FirstRecord.{is_at_front, length-record_bytes}
use Rattle.mps_log_reader.proofs.Left.{split_pending, one_in_front}
use Rattle.mps_log_reader.proofs.Records.{all_and_one, flat_one}
use Rattle.mps_cnv.specs.Portable.{is_wanted, line_of_kinds}
use Rattle.mps_cnv.specs.Skipping.{BeginsWithUnwanted, SkipsUnwanted}
use Rattle.mps_cnv.proofs.Converting.{SoFar}

-- ---- one record

-- the event is known, and there are bytes enough to find it
first_known : (version : Version) (ended : Bool) (event : Event) (bytes : List ℕ) → 8 ≤ length bytes
    → event_of version (little_number 2 bytes) ≡ Some event → first_of version ended bytes ≡ known_of event ended bytes
first_known version ended event [] size known = absurd (omega arith)
first_known version ended event (byte ∷ bytes) size known =
    chosen (ltb (length (byte ∷ bytes)) 8) (event_of version (little_number 2 (byte ∷ bytes))) (le-ltb _ _ size) known
  where
    chosen : (short : Bool) (o : Option Event) → short ≡ false → o ≡ Some event
        → cond short (too_few ended) (coded_of o ended (byte ∷ bytes)) ≡ known_of event ended (byte ∷ bytes)
    chosen short o a b = rw (a, b) refl

whole_known : (event : Event) (r : Record) → (event ≡ Intern → ⊥) → whole_of event r ≡ Ok (Some r)
whole_known event r other = named (interns_a_name event r.fields) (interns_nothing event r.fields other)
  where
    named : (b : Bool) → true ≡ b → cond b (Ok (Some r)) (Err BadString) ≡ Ok (Some r)
    named b e = rw (← e) refl

-- a record of an event has no line where its event is not wanted
no_line : (version : Version) (kinds : ℕ) (event : Event) (r : Record) → event_of version r.code ≡ Some event
    → is_among kinds event ≡ false → line_of_kinds version kinds r ≡ []
no_line version kinds event r known other =
    let unwanted : is_wanted kinds (event_of version r.code) ≡ false = ap (is_wanted kinds) known ∙ other in
    rw unwanted refl

pub begins_with_unwanted : (version : Version) (kinds size : ℕ) (event : Event) (bytes : List ℕ) → IsBytes bytes → 8 ≤ length bytes
    → event_of version (little_number 2 bytes) ≡ Some event → (event ≡ Intern → ⊥) → is_among kinds event ≡ false
    → little_number 2 (drop 2 bytes) ≡ field_count_of event → size ≡ size_of_record (field_count_of event) → size ≤ length bytes
    → BeginsWithUnwanted version kinds size bytes
begins_with_unwanted version kinds size event bytes fits long known apart other count sized within =
    let r = record_in (take (size_of_record (field_count_of event)) bytes) in
    let read : first_of version true bytes ≡ Ok (Some r) = first_known version true event bytes long known
    ∙ sym (known_is event true bytes count (omega (arith, sized, within))) ∙ whole_known event r apart in
    let begins : BeginsWith version r bytes = record_read version true bytes r fits read in
    let code : r.code ≡ little_number 2 bytes = little_from-take 0 2 (size_of_record (field_count_of event)) bytes (omega arith) in
    let found : event_of version r.code ≡ Some event = ap (event_of version) code ∙ known in
    let has : HasEvent version r.code r.fields = event_of_fields version r.code r.fields begins.grammar.fields in
    let same : has.event ≡ event = same_event has.event event (sym has.known ∙ found) in
    let sized-is : size ≡ size_of_record (length r.fields) =
    sized ∙ ap (λ (e : Event). size_of_record (field_count_of e)) (sym same) ∙ ap size_of_record (sym has.count) in
    record {
      read = r;
      grammar = begins.grammar;
      sized = sized-is ∙ sym (length-record_bytes r);
      front = is_at_front r bytes bytes size refl sized-is begins.spelled;
      silent = no_line version kinds event r found other;
    }
  where
    same_event : (a b : Event) → Some a ≡ Some b → a ≡ b
    same_event a b e = cc

-- the same of what was found, if anything
pub unwanted_found : (version : Version) (kinds : ℕ) (event : Event) (bytes : List ℕ) (found : Option ℕ) → IsBytes bytes
    → 8 ≤ length bytes → event_of version (little_number 2 bytes) ≡ Some event → (event ≡ Intern → ⊥) → is_among kinds event ≡ false
    → IfSome found (λ size. little_number 2 (drop 2 bytes) ≡ field_count_of event)
    → IfSome found (λ size. size ≡ size_of_record (field_count_of event)) → IfSome found (λ size. size ≤ length bytes)
    → IfSome found (λ size. BeginsWithUnwanted version kinds size bytes)
unwanted_found version kinds event bytes None fits long known apart other count sized within = tt
unwanted_found version kinds event bytes (Some size) fits long known apart other count sized within =
    begins_with_unwanted version kinds size event bytes fits long known apart other count sized within

pub at_most_forty : (event : Event) (found : Option ℕ) → IfSome found (λ size. size ≡ size_of_record (field_count_of event))
    → IfSome found (λ size. size ≤ 40)
at_most_forty event None sized = tt
at_most_forty event (Some size) sized = omega (arith, sized, count-le event)

-- ---- one after the other

pub one_skipped : (version : Version) (kinds count size more : ℕ) (bytes : List ℕ) → SkipsUnwanted version kinds count size bytes
    → BeginsWithUnwanted version kinds more (drop size bytes) → SkipsUnwanted version kinds (count + 1) (size + more) bytes
one_skipped version kinds count size more bytes s n =
    let before = records_bytes s.records in
    let front = record_bytes n.read in
    let spelled : records_bytes (s.records ++ n.read ∷ []) ≡ before ++ front = flat_one record_bytes s.records n.read in
    let rest : drop more (drop size bytes) ≡ drop (size + more) bytes = drop-drop more size bytes in
    record {
      records = s.records ++ n.read ∷ [];
      each = all_and_one version s.records n.read s.each n.grammar;
      counted = length-append s.records (n.read ∷ []) ∙ ap (λ (k : ℕ). k + 1) s.counted;
      sized = let a = length-append before front in let b = ap (λ (x : List ℕ). length x) spelled in
          omega (arith, s.sized, n.sized, a, b);
      front = s.front ∙ ap (λ (x : List ℕ). before ++ x) n.front ∙ sym (append_assoc before front (drop more (drop size bytes)))
          ∙ ap (λ (x : List ℕ). (before ++ front) ++ x) rest
          ∙ ap (λ (x : List ℕ). x ++ drop (size + more) bytes) (sym spelled);
      silent = flat_one (line_of_kinds version kinds) s.records n.read
          ∙ ap (λ (x : List ℕ). x ++ line_of_kinds version kinds n.read) s.silent ∙ n.silent;
    }

-- ---- after the records so far

pub skipped_more : (version : Version) (kinds count offset more size : ℕ) (pending : List ℕ)
    (left left_after input before after : Option (List ℕ)) → SoFar version kinds count offset left left_after before after
    → left_after ≡ option_map (λ rest. pending ++ rest) input → SkipsUnwanted version kinds more size pending
    → SoFar version kinds (count + more) (offset + size) left (option_map (λ rest. drop size pending ++ rest) input) before after
skipped_more version kinds count offset more size pending left left_after input before after s is k =
    let left_then = option_map (λ rest. drop size pending ++ rest) input in
    let spelled : records_bytes (s.records ++ k.records) ≡ records_bytes s.records ++ records_bytes k.records =
    flat_map-append record_bytes s.records k.records in
    let lines : flat_map (line_of_kinds version kinds) (s.records ++ k.records) ≡ flat_map (line_of_kinds version kinds) s.records =
    flat_map-append (line_of_kinds version kinds) s.records k.records
    ∙ ap (λ (x : List ℕ). flat_map (line_of_kinds version kinds) s.records ++ x) k.silent
    ∙ append-nil (flat_map (line_of_kinds version kinds) s.records) in
    record {
      records = s.records ++ k.records;
      each = All-append (IsRecord version) s.records k.records s.each k.each;
      counted = let a = length-append s.records k.records in omega (arith, a, s.counted, k.counted);
      place = let a = length-append (records_bytes s.records) (records_bytes k.records) in
          let b = ap (λ (x : List ℕ). length x) spelled in omega (arith, s.place, k.sized, a, b);
      front = subst (λ (x : List ℕ). left ≡ option_map (λ rest. x ++ rest) left_then) (sym spelled)
          (one_in_front (records_bytes s.records) (records_bytes k.records) left left_after left_then s.front
          (is ∙ split_pending (records_bytes k.records) pending (drop size pending) input k.front));
      put = subst (λ (x : List ℕ). after ≡ option_map (λ all. all ++ x) before) (sym lines) s.put;
    }

-- what is taken from the front changes nothing else of the input
pub works_taken : (a b : Outside) (x y z : Buffered) (pending : List ℕ) → z ≡ record y { pending = pending }
    → WorksOnInput {T = Unit {0}} {E = BadLog} a b x y (Ok tt) → WorksOnInput {T = Unit {0}} {E = BadLog} a b x z (Ok tt)
works_taken a b x y z pending taken w =
    subst (λ (i : Buffered). WorksOnInput {T = Unit {0}} {E = BadLog} a b x i (Ok tt)) (sym taken)
    (record {
      runs = w.runs;
      fault = w.fault;
      cause = w.cause;
      asked = w.asked;
      steady = w.steady;
      printing = w.printing;
    })
