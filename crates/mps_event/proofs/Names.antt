-- The bytes of an interned name are the last 16 of its record.
use Rattle.std.proofs.Common.{◌≡◌, ℕ, ◌-◌, Bool, true, List, ◌++◌, length, take, drop, refl, sym, ap, ◌∙◌, arith}
use Rattle.std.proofs.lemmas.List.{length-drop, drop-drop, take_all, take_rest}
use Rattle.byteorder.specs.Endian.{little_number}
use Rattle.mps_base.specs.Record.{number_bytes}
use Rattle.mps_event.specs.declared.event.Event.{Event}
use Rattle.mps_event.specs.declared.event.Event.TheVariants.{ArenaCreate, LimitSet, PoolCreate, Flip, End, SegAlloc, SegFree, Splat, Commit, Alloc, Move, Stay, Post, Free, Intern, Label}
use Rattle.mps_event.specs.Name.{is_padded_name, interned_bytes}
use Rattle.mps_event.specs.Grammar.{interns_a_name}
use Rattle.mps_event.specs.Reading.{fields_in, record_in, size_of_record}
use Rattle.mps_event.specs.Event.{field_count_of}
use Rattle.mps_event.proofs.Bytes.{IsBytes, IsBytes-drop, number_bytes-little_number}
use Rattle.mps_event.proofs.Fields.{take_add}

-- the last two of three fields
last_two : (bytes : List ℕ) → length bytes ≡ 32 → IsBytes bytes → interned_bytes (fields_in 3 (drop 8 bytes)) ≡ drop 16 bytes
last_two bytes size fits =
    let rest = drop 16 bytes in
    let low-is : drop 8 (drop 8 bytes) ≡ rest = drop-drop 8 8 bytes in
    let low : number_bytes 8 (little_number 8 (drop 8 (drop 8 bytes))) ≡ take 8 rest =
    ap (λ (x : List ℕ). number_bytes 8 (little_number 8 x)) low-is
    ∙ number_bytes-little_number 8 rest (omega (arith, length-drop 16 bytes)) (IsBytes-drop 16 bytes fits) in
    let high-is : drop 8 (drop 8 (drop 8 bytes)) ≡ drop 8 rest = ap (λ (x : List ℕ). drop 8 x) low-is in
    let high : number_bytes 8 (little_number 8 (drop 8 (drop 8 (drop 8 bytes)))) ≡ take 8 (drop 8 rest) =
    ap (λ (x : List ℕ). number_bytes 8 (little_number 8 x)) high-is
    ∙ number_bytes-little_number 8 (drop 8 rest) (omega (arith, length-drop 16 bytes, length-drop 8 rest))
    (IsBytes-drop 8 rest (IsBytes-drop 16 bytes fits)) in
    joined (number_bytes 8 (little_number 8 (drop 8 (drop 8 bytes))))
    (number_bytes 8 (little_number 8 (drop 8 (drop 8 (drop 8 bytes))))) rest (omega (arith, length-drop 16 bytes)) low high
  where
    joined : (a b rest : List ℕ) → length rest ≡ 16 → a ≡ take 8 rest → b ≡ take 8 (drop 8 rest) → a ++ b ≡ rest
    joined a b rest size ea eb = rw (ea, eb) (take_add 8 8 rest ∙ take_all 16 rest (omega (arith, size)))

-- what a whole record interns stands in its last 16 bytes
pub interned_is : (bytes : List ℕ) → little_number 2 (drop 2 bytes) ≡ 3 → length bytes ≡ 32 → IsBytes bytes
    → interned_bytes (record_in bytes).fields ≡ drop 16 bytes
interned_is bytes count size fits = ap (λ (k : ℕ). interned_bytes (fields_in k (drop 8 bytes))) count ∙ last_two bytes size fits

-- what the test of the last bytes says of the record
pub intern_named : (event : Event) (bytes : List ℕ) (named : Bool) → event ≡ Intern → little_number 2 (drop 2 bytes) ≡ field_count_of event
    → length bytes ≡ size_of_record (field_count_of event) → IsBytes bytes
    → named ≡ is_padded_name (take (length bytes - 16) (drop 16 bytes))
    → named ≡ interns_a_name event (record_in bytes).fields
intern_named event bytes named is count size fits named-is =
    let count-is : little_number 2 (drop 2 bytes) ≡ 3 = count ∙ ap field_count_of is in
    let size-is : length bytes ≡ 32 = size ∙ ap (λ (x : Event). size_of_record (field_count_of x)) is in
    named-is ∙ ap is_padded_name (take_rest bytes 16 ∙ sym (interned_is bytes count-is size-is fits))
    ∙ ap (λ (x : Event). interns_a_name x (record_in bytes).fields) (sym is)

-- an event that interns nothing
pub interns_nothing : (event : Event) (fields : List ℕ) → (event ≡ Intern → ⊥) → true ≡ interns_a_name event fields
interns_nothing Intern fields other = absurd (other refl)
interns_nothing ArenaCreate fields other = refl
interns_nothing LimitSet fields other = refl
interns_nothing PoolCreate fields other = refl
interns_nothing Flip fields other = refl
interns_nothing End fields other = refl
interns_nothing SegAlloc fields other = refl
interns_nothing SegFree fields other = refl
interns_nothing Splat fields other = refl
interns_nothing Commit fields other = refl
interns_nothing Alloc fields other = refl
interns_nothing Move fields other = refl
interns_nothing Stay fields other = refl
interns_nothing Post fields other = refl
interns_nothing Free fields other = refl
interns_nothing Label fields other = refl
