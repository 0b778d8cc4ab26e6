-- What is read at the beginning of some bytes is read there also where more bytes follow.
use Rattle.std.proofs.Common.{◌≡◌, ℕ, ◌+◌, ◌-◌, ◌*◌, ◌<◌, ◌≤◌, Bool, true, false, cond, not, eqb, ltb, List, [], ◌∷◌, ◌++◌, length, take, drop, Option, Some, None, Result, Ok, Err, refl, sym, ap, ◌∙◌, arith}
use Rattle.std.proofs.lemmas.Bool.{ltb-false, le-ltb}
use Rattle.std.proofs.Math.Seq.{take-append_seam}
use Rattle.std.proofs.lemmas.List.{append-nil, drop-take, length-append}
use Rattle.byteorder.specs.Endian.{little_number}
use Rattle.byteorder.specs.Numbers.{little_from-take}
use Rattle.mps_base.specs.Record.{Record}
use Rattle.mps_event.specs.declared.version.Version.{Version}
use Rattle.mps_event.specs.declared.event.Event.{Event}
use Rattle.mps_event.specs.declared.fault.LogFault.{LogFault}
use Rattle.mps_event.specs.declared.fault.LogFault.TheVariants.{BadCount, BadString, Cut}
use Rattle.mps_event.specs.Event.{event_of, field_count_of}
use Rattle.mps_event.specs.Grammar.{interns_a_name}
use Rattle.mps_event.specs.Reading.{first_of, known_of, coded_of, whole_of, too_few, record_in, size_of_record, fields_in}
use Rattle.mps_event.proofs.Fields.{fields_in-take}
use Rattle.mps_event.proofs.Records.{count-le}

-- ---- the first bytes of some bytes

number_in_front : (m : ℕ) (w : List ℕ) → 2 ≤ m → little_number 2 (take m w) ≡ little_number 2 w
number_in_front m w le = little_from-take 0 2 m w le

count_in_front : (m : ℕ) (w : List ℕ) → 4 ≤ m → little_number 2 (drop 2 (take m w)) ≡ little_number 2 (drop 2 w)
count_in_front m w le =
    let m-is : m ≡ 2 + (m - 2) = omega arith in
    ap (λ (k : ℕ). little_number 2 (drop 2 (take k w))) m-is ∙ ap (little_number 2) (drop-take 2 (m - 2) w)
    ∙ little_from-take 0 2 (m - 2) (drop 2 w) (omega arith)

line_in_front : (m : ℕ) (w : List ℕ) → 8 ≤ m → little_number 4 (drop 4 (take m w)) ≡ little_number 4 (drop 4 w)
line_in_front m w le =
    let m-is : m ≡ 4 + (m - 4) = omega arith in
    ap (λ (k : ℕ). little_number 4 (drop 4 (take k w))) m-is ∙ ap (little_number 4) (drop-take 4 (m - 4) w)
    ∙ little_from-take 0 4 (m - 4) (drop 4 w) (omega arith)

fields_in_front : (n m : ℕ) (w : List ℕ) → 8 + 8 * n ≤ m → fields_in n (drop 8 (take m w)) ≡ fields_in n (drop 8 w)
fields_in_front n m w le =
    let m-is : m ≡ 8 + (m - 8) = omega arith in
    ap (λ (k : ℕ). fields_in n (drop 8 (take k w))) m-is ∙ ap (fields_in n) (drop-take 8 (m - 8) w)
    ∙ fields_in-take n (m - 8) (drop 8 w) (omega arith)

record_in_front : (n m : ℕ) (w : List ℕ) → little_number 2 (drop 2 w) ≡ n → 8 + 8 * n ≤ m → record_in (take m w) ≡ record_in w
record_in_front n m w count le =
    let first : little_number 2 (take m w) ≡ little_number 2 w = number_in_front m w (omega arith) in
    let second : little_number 2 (drop 2 (take m w)) ≡ little_number 2 (drop 2 w) = count_in_front m w (omega arith) in
    let third : little_number 4 (drop 4 (take m w)) ≡ little_number 4 (drop 4 w) = line_in_front m w (omega arith) in
    let all : fields_in (little_number 2 (drop 2 (take m w))) (drop 8 (take m w)) ≡ fields_in (little_number 2 (drop 2 w)) (drop 8 w) =
    ap (λ (k : ℕ). fields_in k (drop 8 (take m w))) (second ∙ count) ∙ fields_in_front n m w le
    ∙ ap (λ (k : ℕ). fields_in k (drop 8 w)) (sym count) in
    rw (first, third, all) refl

-- ---- a fault stays the same fault

known_by_case : (counts short short_later : Bool) (event : Event) (s t : Record) (fault : LogFault)
    → cond (not counts) (Err BadCount) (cond short (Ok None) (whole_of event s)) ≡ Err fault
    → (counts ≡ true → short ≡ false → (short_later ≡ false) × (s ≡ t))
    → cond (not counts) (Err BadCount) (cond short_later (Err Cut) (whole_of event t)) ≡ Err fault
known_by_case false short short_later event s t fault e h = e
known_by_case true true short_later event s t fault e h = absurd cc
known_by_case true false short_later event s t fault e h =
    let same = h refl refl in
    rw (same.0, ← same.1) e

known_stays : (event : Event) (m : ℕ) (w : List ℕ) (fault : LogFault) → 8 ≤ m → length (take m w) ≤ length w → length (take m w) ≡ m
    → known_of event false (take m w) ≡ Err fault → known_of event true w ≡ Err fault
known_stays event m w fault le within size e =
    let count : little_number 2 (drop 2 (take m w)) ≡ little_number 2 (drop 2 w) = count_in_front m w (omega arith) in
    let at : cond (not (eqb (little_number 2 (drop 2 w)) (field_count_of event))) (Err BadCount)
    (cond (ltb (length (take m w)) (size_of_record (field_count_of event))) (Ok None) (whole_of event (record_in (take m w)))) ≡ Err fault =
    ap (λ (k : ℕ). cond (not (eqb k (field_count_of event))) (Err BadCount)
    (cond (ltb (length (take m w)) (size_of_record (field_count_of event))) (Ok None) (whole_of event (record_in (take m w)))))
    (sym count) ∙ e in
    known_by_case (eqb (little_number 2 (drop 2 w)) (field_count_of event))
    (ltb (length (take m w)) (size_of_record (field_count_of event))) (ltb (length w) (size_of_record (field_count_of event)))
    event (record_in (take m w)) (record_in w) fault at
    (λ counts short.
    let n : little_number 2 (drop 2 w) ≡ field_count_of event = eqb_is _ _ counts in
    let long : size_of_record (field_count_of event) ≤ length (take m w) = ltb-false _ _ short in
    (le-ltb _ _ (omega arith), record_in_front (field_count_of event) m w n (omega arith)))
  where
    eqb_is : (a b : ℕ) → eqb a b ≡ true → a ≡ b
    eqb_is a b e = grind arith

coded_stays : (o : Option Event) (m : ℕ) (w : List ℕ) (fault : LogFault) → 8 ≤ m → length (take m w) ≤ length w → length (take m w) ≡ m
    → coded_of o false (take m w) ≡ Err fault → coded_of o true w ≡ Err fault
coded_stays None m w fault le within size e = e
coded_stays (Some event) m w fault le within size e = known_stays event m w fault le within size e

front_gives : (short : Bool) (x : Result (Option Record) LogFault) (fault : LogFault) → cond short (too_few false) x ≡ Err fault
    → (short ≡ false) × (x ≡ Err fault)
front_gives true x fault e = absurd cc
front_gives false x fault e = (refl, e)

first_is_coded : (version : Version) (ended : Bool) (w : List ℕ) → 8 ≤ length w
    → first_of version ended w ≡ coded_of (event_of version (little_number 2 w)) ended w
first_is_coded version ended [] le = absurd (omega arith)
first_is_coded version ended (byte ∷ bytes) le = let long : ltb (length (byte ∷ bytes)) 8 ≡ false = le-ltb _ _ le in rw long refl

fault_is_coded : (version : Version) (b : List ℕ) (fault : LogFault) → first_of version false b ≡ Err fault
    → (8 ≤ length b) × (coded_of (event_of version (little_number 2 b)) false b ≡ Err fault)
fault_is_coded version [] fault e = absurd cc
fault_is_coded version (byte ∷ bytes) fault e =
    let g = front_gives (ltb (length (byte ∷ bytes)) 8)
    (coded_of (event_of version (little_number 2 (byte ∷ bytes))) false (byte ∷ bytes)) fault e in
    (ltb-false _ _ g.0, g.1)

fault_after : (version : Version) (b more : List ℕ) (fault : LogFault) → first_of version false b ≡ Err fault
    → first_of version true (b ++ more) ≡ Err fault
fault_after version b more fault e =
    let g = fault_is_coded version b fault e in
    let front : take (length b) (b ++ more) ≡ b = take-append_seam b more in
    let size : length (b ++ more) ≡ length b + length more = length-append b more in
    let code : little_number 2 b ≡ little_number 2 (b ++ more) = ap (little_number 2) (sym front)
    ∙ number_in_front (length b) (b ++ more) (omega arith) in
    let coded : coded_of (event_of version (little_number 2 (b ++ more))) false (take (length b) (b ++ more)) ≡ Err fault =
    ap (λ (x : List ℕ). coded_of (event_of version (little_number 2 (b ++ more))) false x) front
    ∙ ap (λ (k : ℕ). coded_of (event_of version k) false b) (sym code) ∙ g.1 in
    let same : length (take (length b) (b ++ more)) ≡ length b = ap (λ (x : List ℕ). length x) front in
    first_is_coded version true (b ++ more) (omega arith)
    ∙ coded_stays (event_of version (little_number 2 (b ++ more))) (length b) (b ++ more) fault g.0 (omega arith) same coded

-- the fault of what is pending is the fault of all that is left
pub fault_stays : (version : Version) (ended : Bool) (b more : List ℕ) (fault : LogFault) → (ended ≡ true → more ≡ [])
    → first_of version ended b ≡ Err fault → first_of version true (b ++ more) ≡ Err fault
fault_stays version true b more fault end e = ap (first_of version true) (ap (λ (x : List ℕ). b ++ x) (end refl) ∙ append-nil b) ∙ e
fault_stays version false b more fault end e = fault_after version b more fault e

-- ---- where there is no record yet

known_none : (event : Event) (ended : Bool) (b : List ℕ) → known_of event ended b ≡ Ok None → (ended ≡ false)
    × (length b < size_of_record (field_count_of event))
known_none event ended b e =
    let g = by_case (eqb (little_number 2 (drop 2 b)) (field_count_of event))
    (ltb (length b) (size_of_record (field_count_of event))) ended (interns_a_name event (record_in b).fields) (record_in b) e in
    (g.0, ltb_is _ _ g.1)
  where
    ltb_is : (a b : ℕ) → ltb a b ≡ true → a < b
    ltb_is a b e = grind arith

    by_case : (counts short ended named : Bool) (s : Record)
        → cond (not counts) (Err BadCount) (cond short (too_few ended) (cond named (Ok (Some s)) (Err BadString))) ≡ Ok None
        → (ended ≡ false) × (short ≡ true)
    by_case false short ended named s e = absurd cc
    by_case true true true named s e = absurd cc
    by_case true true false named s e = (refl, refl)
    by_case true false ended true s e = absurd cc
    by_case true false ended false s e = absurd cc

coded_none : (o : Option Event) (ended : Bool) (b : List ℕ) → coded_of o ended b ≡ Ok None → (ended ≡ false) × (length b < 40)
coded_none None ended b e = absurd cc
coded_none (Some event) ended b e = let g = known_none event ended b e in (g.0, omega (arith, g.1, count-le event))

short_none : (short ended : Bool) (size : ℕ) (x : Result (Option Record) LogFault) → cond short (too_few ended) x ≡ Ok None
    → (short ≡ true → size < 8)
    → (x ≡ Ok None → (ended ≡ false) × (size < 40)) → (ended ≡ false) × (size < 40)
short_none true true size x e h k = absurd cc
short_none true false size x e h k = (refl, omega (arith, h refl))
short_none false ended size x e h k = k e

-- nothing is there, or the bytes have not ended and are fewer than those of a record
pub none_short : (version : Version) (ended : Bool) (b : List ℕ) → first_of version ended b ≡ Ok None → (ended ≡ false → 40 ≤ length b)
    → (ended ≡ true) × (b ≡ [])
none_short version true [] e enough = (refl, refl)
none_short version false [] e enough = absurd (omega (arith, enough refl))
none_short version ended (byte ∷ bytes) e enough =
    let g = short_none (ltb (length (byte ∷ bytes)) 8) ended (length (byte ∷ bytes))
    (coded_of (event_of version (little_number 2 (byte ∷ bytes))) ended (byte ∷ bytes)) e
    (λ h. ltb_is _ _ h) (λ h. coded_none (event_of version (little_number 2 (byte ∷ bytes))) ended (byte ∷ bytes) h) in
    absurd (omega (arith, g.1, enough g.0))
  where
    ltb_is : (a b : ℕ) → ltb a b ≡ true → a < b
    ltb_is a b e = grind arith
