-- The two laws of reading: what is read is a record of the grammar with these bytes, and the bytes of a record are read.
use Rattle.std.proofs.Common.{◌≡◌, ℕ, zero, suc, ◌+◌, ◌-◌, ◌*◌, ◌^◌, ◌<◌, ◌≤◌, Bool, true, false, cond, not, eqb, ltb, List, [], ◌∷◌, ◌++◌, length, take, drop, Option, Some, None, Result, Ok, Err, refl, sym, ap, subst, ◌∙◌, arith, lit<, eq-eqb}
use Rattle.std.specs.Prelude.{IsTrue, IfOk, IfSome, MatchOption, find}
use Rattle.std.specs.List.{All, AllByRecursion}
use Rattle.std.proofs.lemmas.Bool.{eqb-true, ltb-false, le-ltb}
use Rattle.std.proofs.lemmas.List.{append_cancel_left, length-append, length-drop, drop-take, take-append-drop}
use Rattle.std.proofs.lemmas.List.Elements.{All-from_recursion, recursion_from_All}
use Rattle.byteorder.specs.Endian.{little_number}
use Rattle.byteorder.specs.Numbers.{little_from-lt, little_from-take, little_number-reads_back}
use Rattle.mps_base.specs.Record.{Record, number_bytes, fields_bytes, record_bytes}
use Rattle.mps_event.specs.declared.version.Version.{Version}
use Rattle.mps_event.specs.declared.event.Event.{Event}
use Rattle.mps_event.specs.declared.event.Event.TheVariants.{ArenaCreate, LimitSet, PoolCreate, Flip, End, SegAlloc, SegFree, Splat, Commit, Alloc, Move, Stay, Post, Free, Intern, Label}
use Rattle.mps_event.specs.declared.fault.LogFault.{LogFault}
use Rattle.mps_event.specs.declared.fault.LogFault.TheVariants.{BadCount, BadString}
use Rattle.mps_event.specs.Event.{code_of, field_count_of, events_of, event_of}
use Rattle.mps_event.specs.Grammar.{interns_a_name, AreFields, IsRecord}
use Rattle.mps_event.specs.Reading.{fields_in, record_in, size_of_record, too_few, whole_of, known_of, coded_of, first_of}
use Rattle.mps_event.proofs.Bytes.{IsBytes, IsBytes-drop, number_bytes-little_number}
use Rattle.mps_event.proofs.Fields.{length-fields_in, fields_bytes-fields_in, fields_in-fields_bytes, fields_in-take, take_add}

abbrev record_of : (code line : ℕ) → List ℕ → Record
record_of code line fields = record { line = line; code = code; fields = fields }

-- ---- events

-- what is found passes
find_passes : {X : Type 0} (p : X → Bool) (xs : List X) (x : X) → find p xs ≡ Some x → p x ≡ true
find_passes p [] x e = absurd cc
find_passes p (y ∷ ys) x e = passes_by_case p y ys x (p y) refl e (λ f. find_passes p ys x f)
  where
    passes_by_case : {X : Type 0} (p : X → Bool) (y : X) (ys : List X) (x : X) (b : Bool) → p y ≡ b → cond b (Some y) (find p ys) ≡ Some x
        → (find p ys ≡ Some x → p x ≡ true) → p x ≡ true
    passes_by_case p y ys x true t e ih = let same : y ≡ x = cc in rw (← same) t
    passes_by_case p y ys x false t e ih = ih e

pub code-is : (version : Version) (code : ℕ) (event : Event) → event_of version code ≡ Some event → code_of event ≡ code
code-is version code event e = eqb-true _ _ (find_passes (λ x. eqb (code_of x) code) (events_of version) event e)

pub code-lt : (event : Event) → code_of event < 65536
code-lt ArenaCreate = lit< tt
code-lt LimitSet = lit< tt
code-lt PoolCreate = lit< tt
code-lt Flip = lit< tt
code-lt End = lit< tt
code-lt SegAlloc = lit< tt
code-lt SegFree = lit< tt
code-lt Splat = lit< tt
code-lt Commit = lit< tt
code-lt Alloc = lit< tt
code-lt Move = lit< tt
code-lt Stay = lit< tt
code-lt Post = lit< tt
code-lt Free = lit< tt
code-lt Intern = lit< tt
code-lt Label = lit< tt

pub count-le : (event : Event) → field_count_of event < 5
count-le ArenaCreate = lit< tt
count-le LimitSet = lit< tt
count-le PoolCreate = lit< tt
count-le Flip = lit< tt
count-le End = lit< tt
count-le SegAlloc = lit< tt
count-le SegFree = lit< tt
count-le Splat = lit< tt
count-le Commit = lit< tt
count-le Alloc = lit< tt
count-le Move = lit< tt
count-le Stay = lit< tt
count-le Post = lit< tt
count-le Free = lit< tt
count-le Intern = lit< tt
count-le Label = lit< tt

-- the event of a record, with what `AreFields` says of it
pub record HasEvent (version : Version) (code : ℕ) (fields : List ℕ) : Type 0 where
  pub event : Event
  pub known : event_of version code ≡ Some event
  pub count : length fields ≡ field_count_of event
  pub named : interns_a_name event fields ≡ true

event_in : (code : ℕ) (fields : List ℕ) (version : Version) (o : Option Event) → event_of version code ≡ o
    → MatchOption o ⊥ (λ event. (length fields ≡ field_count_of event) × IsTrue (interns_a_name event fields))
    → HasEvent version code fields
event_in code fields version None e h = absurd h
event_in code fields version (Some event) e h = record { event = event; known = e; count = h.0; named = h.1 }

pub event_of_fields : (version : Version) (code : ℕ) (fields : List ℕ) → AreFields version code fields → HasEvent version code fields
event_of_fields version code fields h = event_in code fields version (event_of version code) refl h

pub fields_of_event : (version : Version) (code : ℕ) (fields : List ℕ) → HasEvent version code fields → AreFields version code fields
fields_of_event version code fields h =
    subst (λ (o : Option Event). MatchOption o ⊥ (λ event. (length fields ≡ field_count_of event) × IsTrue (interns_a_name event fields)))
    (sym h.known) (h.count, h.named)

-- ---- the bytes of a record that was read

-- n bytes make the record and spell it
pub record_bytes-record_in : (n : ℕ) (bytes : List ℕ) → little_number 2 (drop 2 bytes) ≡ n → size_of_record n ≤ length bytes → IsBytes bytes
    → record_bytes (record_in bytes) ≡ take (size_of_record n) bytes
record_bytes-record_in n bytes n-is le fits =
    let fields = fields_in (little_number 2 (drop 2 bytes)) (drop 8 bytes) in
    let code : number_bytes 2 (little_number 2 bytes) ≡ take 2 bytes = number_bytes-little_number 2 bytes (omega arith) fits in
    let count-is : length fields ≡ little_number 2 (drop 2 bytes) = length-fields_in (little_number 2 (drop 2 bytes)) (drop 8 bytes) in
    let count : number_bytes 2 (length fields) ≡ take 2 (drop 2 bytes) =
    ap (number_bytes 2) count-is ∙ number_bytes-little_number 2 (drop 2 bytes) (omega (arith, length-drop 2 bytes))
    (IsBytes-drop 2 bytes fits) in
    let line : number_bytes 4 (little_number 4 (drop 4 bytes)) ≡ take 4 (drop 4 bytes) =
    number_bytes-little_number 4 (drop 4 bytes) (omega (arith, length-drop 4 bytes)) (IsBytes-drop 4 bytes fits) in
    let rest : fields_bytes fields ≡ take (8 * n) (drop 8 bytes) =
    ap (λ (k : ℕ). fields_bytes (fields_in k (drop 8 bytes))) n-is
    ∙ fields_bytes-fields_in n (drop 8 bytes) (omega (arith, length-drop 8 bytes)) (IsBytes-drop 8 bytes fits) in
    joined (number_bytes 2 (little_number 2 bytes)) (number_bytes 2 (length fields)) (number_bytes 4 (little_number 4 (drop 4 bytes)))
    (fields_bytes fields) n bytes code count line rest
  where
    joined : (a b c d : List ℕ) (n : ℕ) (bytes : List ℕ) → a ≡ take 2 bytes → b ≡ take 2 (drop 2 bytes) → c ≡ take 4 (drop 4 bytes)
        → d ≡ take (8 * n) (drop 8 bytes)
        → a ++ b ++ c ++ d ≡ take (8 + 8 * n) bytes
    joined a b c d n bytes ea eb ec ed =
        let two = take_add 2 2 bytes in
        let three = take_add 4 4 bytes in
        let four = take_add 8 (8 * n) bytes in
        rw (ea, eb, ec, ed) (ap (λ (x : List ℕ). x ++ take 4 (drop 4 bytes) ++ take (8 * n) (drop 8 bytes)) two
        ∙ ap (λ (x : List ℕ). x ++ take (8 * n) (drop 8 bytes)) three ∙ four)

-- the numbers of fields that were read
fields_fit : (n : ℕ) (bytes : List ℕ) → IsBytes bytes → AllByRecursion (λ field. field < 2 ^ 64) (fields_in n bytes)
fields_fit zero bytes fits = tt
fields_fit (suc n) bytes fits = (little_from-lt 0 8 bytes fits, fields_fit n (drop 8 bytes) (IsBytes-drop 8 bytes fits))

-- ---- the record in a prefix of the bytes

-- the number of fields stands in the first bytes
pub count_in_prefix : (n : ℕ) (bytes : List ℕ) → 4 ≤ n → little_number 2 (drop 2 (take n bytes)) ≡ little_number 2 (drop 2 bytes)
count_in_prefix n bytes le =
    let n-is : n ≡ 2 + (n - 2) = omega arith in
    ap (λ (k : ℕ). little_number 2 (drop 2 (take k bytes))) n-is
    ∙ ap (little_number 2) (drop-take 2 (n - 2) bytes)
    ∙ little_from-take 0 2 (n - 2) (drop 2 bytes) (omega arith)

-- a record is read from its own bytes
record_in-take : (n : ℕ) (bytes : List ℕ) → little_number 2 (drop 2 bytes) ≡ n → record_in (take (size_of_record n) bytes) ≡ record_in bytes
record_in-take n bytes count =
    let front = take (size_of_record n) bytes in
    let code : little_number 2 front ≡ little_number 2 bytes = little_from-take 0 2 (size_of_record n) bytes (omega arith) in
    let count-is : little_number 2 (drop 2 front) ≡ little_number 2 (drop 2 bytes) =
    count_in_prefix (size_of_record n) bytes (omega arith) in
    let later : drop 4 front ≡ take (4 + 8 * n) (drop 4 bytes) = ap (λ (k : ℕ). drop 4 (take k bytes)) (omega arith)
    ∙ drop-take 4 (4 + 8 * n) bytes in
    let line : little_number 4 (drop 4 front) ≡ little_number 4 (drop 4 bytes) =
    ap (little_number 4) later ∙ little_from-take 0 4 (4 + 8 * n) (drop 4 bytes) (omega arith) in
    let last : drop 8 front ≡ take (8 * n) (drop 8 bytes) = drop-take 8 (8 * n) bytes in
    let fields : fields_in n (drop 8 front) ≡ fields_in n (drop 8 bytes) = ap (fields_in n) last
    ∙ fields_in-take n (8 * n) (drop 8 bytes) (omega arith) in
    let all : fields_in (little_number 2 (drop 2 front)) (drop 8 front) ≡ fields_in (little_number 2 (drop 2 bytes)) (drop 8 bytes) =
    ap (λ (k : ℕ). fields_in k (drop 8 front)) (count-is ∙ count) ∙ fields ∙ ap (λ (k : ℕ). fields_in k (drop 8 bytes)) (sym count) in
    made (little_number 2 front) (little_number 2 bytes) (little_number 4 (drop 4 front)) (little_number 4 (drop 4 bytes))
    (fields_in (little_number 2 (drop 2 front)) (drop 8 front)) (fields_in (little_number 2 (drop 2 bytes)) (drop 8 bytes)) code line all
  where
    made : (a b c d : ℕ) (x y : List ℕ) → a ≡ b → c ≡ d → x ≡ y → record_of a c x ≡ record_of b d y
    made a b c d x y e f g = rw (e, f, g) refl

-- with the right number of fields and enough bytes, the prefix that the record takes is read as all of the bytes are
pub known_is : (event : Event) (ended : Bool) (bytes : List ℕ) → little_number 2 (drop 2 bytes) ≡ field_count_of event
    → size_of_record (field_count_of event) ≤ length bytes
    → whole_of event (record_in (take (size_of_record (field_count_of event)) bytes)) ≡ known_of event ended bytes
known_is event ended bytes count size =
    let counts : eqb (little_number 2 (drop 2 bytes)) (field_count_of event) ≡ true = eq-eqb _ _ count in
    let long : ltb (length bytes) (size_of_record (field_count_of event)) ≡ false = le-ltb _ _ size in
    ap (whole_of event) (record_in-take (field_count_of event) bytes count)
    ∙ chosen (eqb (little_number 2 (drop 2 bytes)) (field_count_of event))
    (ltb (length bytes) (size_of_record (field_count_of event))) ended (whole_of event (record_in bytes)) counts long
  where
    chosen : (counts short ended : Bool) (x : Result (Option Record) LogFault) → counts ≡ true → short ≡ false
        → x ≡ cond (not counts) (Err BadCount) (cond short (too_few ended) x)
    chosen counts short ended x a b = rw (a, b) refl

-- ---- what is read

-- what known_of gave a record for
record IsKnownAs (event : Event) (bytes : List ℕ) (r : Record) : Type 0 where
  is : record_in bytes ≡ r
  count : little_number 2 (drop 2 bytes) ≡ field_count_of event
  size : size_of_record (field_count_of event) ≤ length bytes
  named : interns_a_name event (record_in bytes).fields ≡ true

too_few_gives_none : (ended : Bool) (r : Record) → too_few ended ≡ Ok (Some r) → ⊥
too_few_gives_none true r e = cc
too_few_gives_none false r e = cc

whole_gives : (b : Bool) (s r : Record) → cond b (Ok (Some s)) (Err BadString) ≡ Ok (Some r) → (b ≡ true) × (s ≡ r)
whole_gives true s r e = (refl, cc)
whole_gives false s r e = absurd cc

sized_gives : (b ended named : Bool) (s r : Record) → cond b (too_few ended) (cond named (Ok (Some s)) (Err BadString)) ≡ Ok (Some r)
    → (b ≡ false) × (named ≡ true) × (s ≡ r)
sized_gives true ended named s r e = absurd (too_few_gives_none ended r e)
sized_gives false ended named s r e = let w = whole_gives named s r e in (refl, w.0, w.1)

counted_gives : (counts short ended named : Bool) (s r : Record)
    → cond (not counts) (Err BadCount) (cond short (too_few ended) (cond named (Ok (Some s)) (Err BadString))) ≡ Ok (Some r)
    → (counts ≡ true) × (short ≡ false) × (named ≡ true) × (s ≡ r)
counted_gives false short ended named s r e = absurd cc
counted_gives true short ended named s r e = let w = sized_gives short ended named s r e in (refl, w.0, w.1, w.2)

known_gives : (event : Event) (ended : Bool) (bytes : List ℕ) (r : Record) → known_of event ended bytes ≡ Ok (Some r)
    → IsKnownAs event bytes r
known_gives event ended bytes r e =
    let w = counted_gives (eqb (little_number 2 (drop 2 bytes)) (field_count_of event))
    (ltb (length bytes) (size_of_record (field_count_of event))) ended
    (interns_a_name event (record_in bytes).fields) (record_in bytes) r e in
    record { is = w.3; count = eqb-true _ _ w.0; size = ltb-false _ _ w.1; named = w.2 }

coded_gives : (o : Option Event) (ended : Bool) (bytes : List ℕ) (r : Record) → coded_of o ended bytes ≡ Ok (Some r)
    → (event : Event) × (o ≡ Some event) × IsKnownAs event bytes r
coded_gives None ended bytes r e = absurd cc
coded_gives (Some event) ended bytes r e = (event, refl, known_gives event ended bytes r e)

long_gives : (b ended : Bool) (x : Result (Option Record) LogFault) (r : Record) → cond b (too_few ended) x ≡ Ok (Some r) → x ≡ Ok (Some r)
long_gives true ended x r e = absurd (too_few_gives_none ended r e)
long_gives false ended x r e = e

first_gives : (version : Version) (ended : Bool) (bytes : List ℕ) (r : Record) → first_of version ended bytes ≡ Ok (Some r)
    → (event : Event) × (event_of version (little_number 2 bytes) ≡ Some event) × IsKnownAs event bytes r
first_gives version ended [] r e = absurd cc
first_gives version ended (byte ∷ bytes) r e =
    coded_gives (event_of version (little_number 2 (byte ∷ bytes))) ended (byte ∷ bytes) r
    (long_gives (ltb (length (byte ∷ bytes)) 8) ended
    (coded_of (event_of version (little_number 2 (byte ∷ bytes))) ended (byte ∷ bytes)) r e)

-- the bytes begin with this record of the grammar
pub record BeginsWith (version : Version) (r : Record) (bytes : List ℕ) : Type 0 where
  pub grammar : IsRecord version r
  pub spelled : bytes ≡ record_bytes r ++ drop (size_of_record (length r.fields)) bytes

record_begins : (version : Version) (event : Event) (bytes : List ℕ) → IsBytes bytes → event_of version (little_number 2 bytes) ≡ Some event
    → little_number 2 (drop 2 bytes) ≡ field_count_of event → size_of_record (field_count_of event) ≤ length bytes
    → interns_a_name event (record_in bytes).fields ≡ true → BeginsWith version (record_in bytes) bytes
record_begins version event bytes fits known count size named =
    let fields = (record_in bytes).fields in
    let count-is : length fields ≡ field_count_of event = length-fields_in (little_number 2 (drop 2 bytes)) (drop 8 bytes) ∙ count in
    let event-is : HasEvent version (record_in bytes).code fields =
    record { event = event; known = known; count = count-is; named = named } in
    let spelled : record_bytes (record_in bytes) ≡ take (size_of_record (field_count_of event)) bytes =
    record_bytes-record_in (field_count_of event) bytes count size fits in
    record {
      grammar = record {
        fields = fields_of_event version (record_in bytes).code fields event-is;
        fields_fit = All-from_recursion (λ field. field < 2 ^ 64) fields
            (fields_fit (little_number 2 (drop 2 bytes)) (drop 8 bytes) (IsBytes-drop 8 bytes fits));
        line_fits = little_from-lt 0 4 (drop 4 bytes) (IsBytes-drop 4 bytes fits);
      };
      spelled = sym (take-append-drop (size_of_record (field_count_of event)) bytes)
          ∙ ap (λ (x : List ℕ). x ++ drop (size_of_record (field_count_of event)) bytes) (sym spelled)
          ∙ ap (λ (k : ℕ). record_bytes (record_in bytes) ++ drop (size_of_record k) bytes) (sym count-is);
    }

pub record_read : (version : Version) (ended : Bool) (bytes : List ℕ) (r : Record) → IsBytes bytes
    → first_of version ended bytes ≡ Ok (Some r) → BeginsWith version r bytes
record_read version ended bytes r fits e =
    let g = first_gives version ended bytes r e in
    let k = g.2 in
    subst (λ (s : Record). BeginsWith version s bytes) k.is (record_begins version g.0 bytes fits g.1 k.count k.size k.named)

-- the same for any result
pub sound_reading : (version : Version) (ended : Bool) (bytes : List ℕ) (result : Result (Option Record) LogFault) → IsBytes bytes
    → result ≡ first_of version ended bytes
    → IfOk result (λ read. IfSome read (λ r. IsRecord version r
    × (bytes ≡ record_bytes r ++ drop (size_of_record (length r.fields)) bytes)))
sound_reading version ended bytes (Ok (Some r)) fits e = let f = record_read version ended bytes r fits (sym e) in (f.grammar, f.spelled)
sound_reading version ended bytes (Ok None) fits e = tt
sound_reading version ended bytes (Err fault) fits e = tt

-- ---- what was written is read

numbers_make : (bytes : List ℕ) (r : Record) → little_number 2 bytes ≡ r.code → little_number 2 (drop 2 bytes) ≡ length r.fields
    → little_number 4 (drop 4 bytes) ≡ r.line → fields_in (length r.fields) (drop 8 bytes) ≡ r.fields → record_in bytes ≡ r
numbers_make bytes r code count line fields =
    let all : fields_in (little_number 2 (drop 2 bytes)) (drop 8 bytes) ≡ r.fields = ap (λ (k : ℕ). fields_in k (drop 8 bytes)) count
    ∙ fields in
    rw (code, line, all) refl

known_reads : (event : Event) (ended : Bool) (bytes : List ℕ) (r : Record) → record_in bytes ≡ r
    → little_number 2 (drop 2 bytes) ≡ field_count_of event
    → size_of_record (field_count_of event) ≤ length bytes → interns_a_name event r.fields ≡ true → known_of event ended bytes ≡ Ok (Some r)
known_reads event ended bytes r is count size named =
    let counts : eqb (little_number 2 (drop 2 bytes)) (field_count_of event) ≡ true = rw count (eqb-refl (field_count_of event)) in
    let long : ltb (length bytes) (size_of_record (field_count_of event)) ≡ false = le-ltb _ _ size in
    let named-is : interns_a_name event (record_in bytes).fields ≡ true = ap (λ (s : Record). interns_a_name event s.fields) is ∙ named in
    chosen (eqb (little_number 2 (drop 2 bytes)) (field_count_of event))
    (ltb (length bytes) (size_of_record (field_count_of event))) ended (interns_a_name event (record_in bytes).fields)
    (record_in bytes) counts long named-is
    ∙ ap (λ (s : Record). Ok (Some s)) is
  where
    eqb-refl : (n : ℕ) → eqb n n ≡ true
    eqb-refl n = grind arith

    chosen : (counts short ended named : Bool) (s : Record) → counts ≡ true → short ≡ false → named ≡ true
        → cond (not counts) (Err BadCount) (cond short (too_few ended) (cond named (Ok (Some s)) (Err BadString))) ≡ Ok (Some s)
    chosen counts short ended named s a b c = rw (a, b, c) refl

first_reads : (version : Version) (event : Event) (ended : Bool) (bytes : List ℕ) (r : Record)
    → event_of version (little_number 2 bytes) ≡ Some event
    → 8 ≤ length bytes → known_of event ended bytes ≡ Ok (Some r) → first_of version ended bytes ≡ Ok (Some r)
first_reads version event ended [] r known size e = absurd (omega arith)
first_reads version event ended (byte ∷ bytes) r known size e =
    let long : ltb (length (byte ∷ bytes)) 8 ≡ false = le-ltb _ _ size in
    chosen (ltb (length (byte ∷ bytes)) 8) ended (event_of version (little_number 2 (byte ∷ bytes))) event (byte ∷ bytes) long known ∙ e
  where
    chosen : (short ended : Bool) (o : Option Event) (event : Event) (bytes : List ℕ) → short ≡ false → o ≡ Some event
        → cond short (too_few ended) (coded_of o ended bytes) ≡ known_of event ended bytes
    chosen short ended o event bytes a b = rw (a, b) refl

-- the numbers at a prefix of bytes are those of a record
record IsSpelled (r : Record) (bytes : List ℕ) : Type 0 where
  code : little_number 2 bytes ≡ r.code
  count : little_number 2 (drop 2 bytes) ≡ length r.fields
  line : little_number 4 (drop 4 bytes) ≡ r.line
  fields : fields_in (length r.fields) (drop 8 bytes) ≡ r.fields
  size : size_of_record (length r.fields) ≤ length bytes

reads_spelled : (version : Version) (ended : Bool) (bytes : List ℕ) (r : Record) → HasEvent version r.code r.fields → IsSpelled r bytes
    → first_of version ended bytes ≡ Ok (Some r)
reads_spelled version ended bytes r h s =
    let known : event_of version (little_number 2 bytes) ≡ Some h.event = ap (event_of version) s.code ∙ h.known in
    let size : size_of_record (field_count_of h.event) ≤ length bytes = rw (← h.count) s.size in
    first_reads version h.event ended bytes r known (omega arith)
    (known_reads h.event ended bytes r (numbers_make bytes r s.code s.count s.line s.fields) (s.count ∙ h.count) size h.named)

pub length-fields_bytes : (fields : List ℕ) → length (fields_bytes fields) ≡ 8 * length fields
length-fields_bytes [] = refl
length-fields_bytes (field ∷ fields) = let e = length-fields_bytes fields in omega (arith, e)

spelled_by : (r : Record) (rest : List ℕ) → r.code < 2 ^ 16 → length r.fields < 2 ^ 16 → r.line < 2 ^ 32
    → All (λ field. field < 2 ^ 64) r.fields → IsSpelled r (record_bytes r ++ rest)
spelled_by r rest code count line fields = record {
  code = little_number-reads_back 2 r.code (number_bytes 2 (length r.fields) ++ number_bytes 4 r.line ++ fields_bytes r.fields
      ++ rest) code;
  count = little_number-reads_back 2 (length r.fields) (number_bytes 4 r.line ++ fields_bytes r.fields ++ rest) count;
  line = little_number-reads_back 4 r.line (fields_bytes r.fields ++ rest) line;
  fields = fields_in-fields_bytes r.fields rest (recursion_from_All (λ field. field < 2 ^ 64) r.fields fields);
  size = omega (arith, length-append (fields_bytes r.fields) rest, length-fields_bytes r.fields);
}

-- a record of the grammar is read, whatever follows it
pub read_again : (version : Version) (ended : Bool) (r : Record) (rest : List ℕ) → IsRecord version r
    → first_of version ended (record_bytes r ++ rest) ≡ Ok (Some r)
read_again version ended r rest h =
    let event = event_of_fields version r.code r.fields h.fields in
    let code : r.code < 2 ^ 16 = rw (← code-is version r.code event.event event.known) (code-lt event.event) in
    let count : length r.fields < 2 ^ 16 = omega (arith, event.count, count-le event.event) in
    reads_spelled version ended (record_bytes r ++ rest) r event (spelled_by r rest code count h.line_fits h.fields_fit)

-- two records with which the same bytes begin
abbrev read_as : Record → Result (Option Record) LogFault
read_as r = Ok (Some r)

same_read : (a b : Record) → read_as a ≡ read_as b → a ≡ b
same_read a b e = cc

pub one_beginning : (version : Version) (a b : Record) (x y : List ℕ) → IsRecord version a → IsRecord version b → record_bytes a
    ++ x ≡ record_bytes b ++ y
    → (a ≡ b) × (x ≡ y)
one_beginning version a b x y ga gb e =
    let same : a ≡ b = same_read a b (sym (read_again version true a x ga) ∙ ap (first_of version true) e
    ∙ read_again version true b y gb) in
    (same, append_cancel_left (record_bytes b) x y (ap (λ (r : Record). record_bytes r ++ x) (sym same) ∙ e))
