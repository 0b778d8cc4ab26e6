-- The line of a record, word by word.
use Rattle.std.proofs.Common.{◌≡◌, ℕ, ◌+◌, ◌^◌, ◌<◌, Bool, true, false, List, [], ◌∷◌, ◌++◌, length, take, drop, get_or, set, decimal, Option, Some, None, Result, Ok, Err, refl, sym, ap, ◌∙◌, append_assoc, arith}
use Rattle.std.specs.Prelude.{◌≢◌, All, codes}
use Rattle.std.specs.List.{flat_map, AllByRecursion}
use Rattle.std.specs.Result.{OkIff, is_ok}
use Rattle.std.proofs.lemmas.List.{drop_more, append-nil, take_more_set}
use Rattle.std.proofs.lemmas.List.Elements.{All-get_or, recursion_from_All}
use Rattle.std.proofs.lemmas.Grind.{flat_map-append}
use Rattle.std.proofs.lemmas.Option.{none-some}
use Rattle.mps_base.specs.Record.{Record}
use Rattle.mps_event.specs.declared.version.Version.{Version}
use Rattle.mps_event.specs.declared.event.Event.{Event}
use Rattle.mps_event.specs.Event.{event_of, code_of, field_count_of}
use Rattle.mps_event.specs.Grammar.{IsRecord, interns_a_name}
use Rattle.mps_event.specs.declared.event.Event.TheVariants.{Intern}
use Rattle.mps_event.specs.Name.{is_padded_name, interned_bytes}
use Rattle.mps_event.proofs.Records.{event_of_fields, fields_of_event, code-is, code-lt}
use Rattle.mps_numerals.specs.Hexadecimal.{hexadecimal}
use Rattle.mps_log_reader.specs.RecordLine.{field_text}
use Rattle.mps_txt.specs.Separators.{separated}
use Rattle.mps_txt.specs.Line.{record_text, Spells}
use Rattle.mps_txt.proofs.NumberTexts.{same_number, same_field}

abbrev pub Fits : List ℕ → Type 0
Fits fields = All (λ field. field < 2 ^ 64) fields

-- ---- fields

-- what stands after the space before some fields
abbrev pub fields_after : List ℕ → Option (List ℕ)
fields_after [] = None
fields_after (field ∷ fields) = Some (hexadecimal field ++ flat_map field_text fields)

pub text_of_fields : (fields : List ℕ) → flat_map field_text fields ≡ separated 32 (fields_after fields)
text_of_fields [] = refl
text_of_fields (field ∷ fields) = refl

field_first : (field : ℕ) (fields : List ℕ)
    → fields_after (field ∷ fields) ≡ Some (hexadecimal field ++ separated 32 (fields_after fields))
field_first field fields = ap (λ (x : List ℕ). Some (hexadecimal field ++ x)) (text_of_fields fields)

same_rest : (a b : Option (List ℕ)) → separated 32 a ≡ separated 32 b → a ≡ b
same_rest None None e = refl
same_rest None (Some y) e = absurd (let h : 0 ≡ length (32 ∷ y) = ap (λ (x : List ℕ). length x) e in omega (arith, h))
same_rest (Some x) None e = absurd (let h : length (32 ∷ x) ≡ 0 = ap (λ (x : List ℕ). length x) e in omega (arith, h))
same_rest (Some x) (Some y) e = ap Some (ap (λ (x : List ℕ). drop 1 x) e)

pub same_fields : (first second : List ℕ) → AllByRecursion (λ field. field < 2 ^ 64) first
    → AllByRecursion (λ field. field < 2 ^ 64) second → fields_after first ≡ fields_after second → first ≡ second
same_fields [] [] h k e = refl
same_fields [] (y ∷ second) h k e = absurd (none-some _ e)
same_fields (x ∷ first) [] h k e = absurd (none-some _ (sym e))
same_fields (x ∷ first) (y ∷ second) h k e =
    let texts : Some (hexadecimal x ++ separated 32 (fields_after first)) ≡ Some (hexadecimal y ++ separated 32 (fields_after second)) =
    sym (field_first x first) ∙ e ∙ field_first y second in
    let same = same_field x y (fields_after first) (fields_after second) h.0 k.0 (cc) in
    ap (λ (z : ℕ). z ∷ first) same.0 ∙ ap (λ (z : List ℕ). y ∷ z) (same_fields first second h.1 k.1 same.1)

-- the first of the fields that are left
pub first_left : (i : ℕ) (all : List ℕ) (text : List ℕ) → i < length all → 32 ∷ text ≡ flat_map field_text (drop i all)
    → text ≡ hexadecimal (get_or all i 0) ++ separated 32 (fields_after (drop (i + 1) all))
first_left i all text within e =
    let split : 32 ∷ text ≡ 32 ∷ (hexadecimal (get_or all i 0) ++ flat_map field_text (drop (i + 1) all)) = e
    ∙ ap (λ (x : List ℕ). flat_map field_text x) (drop_more all i 0 within) in
    ap (λ (x : List ℕ). drop 1 x) split ∙ ap (λ (x : List ℕ). hexadecimal (get_or all i 0) ++ x) (text_of_fields (drop (i + 1) all))

pub no_field_left : (i : ℕ) (all : List ℕ) → i < length all → [] ≡ flat_map field_text (drop i all) → ⊥
no_field_left i all within e =
    let split : [] ≡ 32 ∷ (hexadecimal (get_or all i 0) ++ flat_map field_text (drop (i + 1) all)) = e
    ∙ ap (λ (x : List ℕ). flat_map field_text x) (drop_more all i 0 within) in
    let h : 0 ≡ length (32 ∷ (hexadecimal (get_or all i 0) ++ flat_map field_text (drop (i + 1) all))) =
    ap (λ (x : List ℕ). length x) split in
    omega (arith, h)

-- one more field
pub spelled_more : (i field : ℕ) (fields text text_after : List ℕ) (rest : Option (List ℕ)) → i < length fields
    → text ≡ flat_map field_text (take i fields) ++ 32 ∷ text_after
    → text_after ≡ hexadecimal field ++ separated 32 rest
    → text ≡ flat_map field_text (take (i + 1) (set fields i field)) ++ separated 32 rest
spelled_more i field fields text text_after rest within e front =
    let more : take (i + 1) (set fields i field) ≡ take i fields ++ field ∷ [] = take_more_set fields i field within in
    let texts : flat_map field_text (take (i + 1) (set fields i field)) ≡ flat_map field_text (take i fields) ++ field_text field =
    ap (λ (x : List ℕ). flat_map field_text x) more ∙ flat_map-append field_text (take i fields) (field ∷ [])
    ∙ ap (λ (x : List ℕ). flat_map field_text (take i fields) ++ x) (append-nil (field_text field)) in
    e ∙ ap (λ (x : List ℕ). flat_map field_text (take i fields) ++ 32 ∷ x) front
    ∙ sym (append_assoc (flat_map field_text (take i fields)) (field_text field) (separated 32 rest))
    ∙ ap (λ (x : List ℕ). x ++ separated 32 rest) (sym texts)

pub others_more : (i field : ℕ) (all text_after : List ℕ) (rest : Option (List ℕ)) → i < length all → Fits all → field < 2 ^ 64
    → 32 ∷ text_after ≡ flat_map field_text (drop i all)
    → text_after ≡ hexadecimal field ++ separated 32 rest → separated 32 rest ≡ flat_map field_text (drop (i + 1) all)
others_more i field all text_after rest within fits small e front =
    let next = first_left i all text_after within e in
    let same = same_field field (get_or all i 0) rest (fields_after (drop (i + 1) all)) small
    (All-get_or (λ field. field < 2 ^ 64) all i 0 within fits) (sym front ∙ next) in
    ap (separated 32) same.1 ∙ sym (text_of_fields (drop (i + 1) all))

pub no_field_leads : (i : ℕ) (all text : List ℕ) → i < length all → Fits all → 32 ∷ text ≡ flat_map field_text (drop i all)
    → ((number : ℕ) (rest : Option (List ℕ)) → number < 2 ^ 64 → text ≢ hexadecimal number ++ separated 32 rest) → ⊥
no_field_leads i all text within fits e none =
    none (get_or all i 0) (fields_after (drop (i + 1) all)) (All-get_or (λ field. field < 2 ^ 64) all i 0 within fits)
    (first_left i all text within e)

-- ---- the line number and the code

pub not_ok : {E : Type 0} (answer : Result ℕ E) (P : Type 0) (value : ℕ) → OkIff answer P value → false ≡ is_ok answer → P → ⊥
not_ok (Ok x) P value h e p = absurd cc
not_ok (Err why) P value h e p = h p

-- no line has this form
abbrev pub NoHeading : List ℕ → Type 0
NoHeading text = (line code : ℕ) (rest : Option (List ℕ)) → line < 2 ^ 32 → code < 2 ^ 16
    → text ≢ decimal line ++ separated 32 (Some (decimal code ++ separated 32 rest))

abbrev NoNumber : List ℕ → Type 0
NoNumber text = (number : ℕ) (rest : Option (List ℕ)) → number < 2 ^ 64 → text ≢ decimal number ++ separated 32 rest

pub without_line : (text : List ℕ) → NoNumber text → NoHeading text
without_line text none line code rest few small e = none line (Some (decimal code ++ separated 32 rest)) (omega arith) e

pub large_line : (text : List ℕ) (number : ℕ) (after : Option (List ℕ)) → text ≡ decimal number ++ separated 32 after → number < 2 ^ 64
    → (number < 2 ^ 32 → ⊥) → NoHeading text
large_line text number after whole fits large line code rest few small e =
    let same = same_number number line after (Some (decimal code ++ separated 32 rest)) fits (omega arith) (sym whole ∙ e) in
    large (omega (arith, same.0))

pub without_rest : (text : List ℕ) (number : ℕ) → text ≡ decimal number ++ separated 32 None → number < 2 ^ 64 → NoHeading text
without_rest text number whole fits line code rest few small e =
    let same = same_number number line None (Some (decimal code ++ separated 32 rest)) fits (omega arith) (sym whole ∙ e) in
    none-some (decimal code ++ separated 32 rest) same.1

pub without_code : (text others : List ℕ) (number : ℕ) → text ≡ decimal number ++ separated 32 (Some others) → number < 2 ^ 64
    → NoNumber others → NoHeading text
without_code text others number whole fits none line code rest few small e =
    let same = same_number number line (Some others) (Some (decimal code ++ separated 32 rest)) fits (omega arith) (sym whole ∙ e) in
    none code rest (omega arith) (cc)

pub large_code : (text others : List ℕ) (number second : ℕ) (after : Option (List ℕ))
    → text ≡ decimal number ++ separated 32 (Some others) → number < 2 ^ 64
    → others ≡ decimal second ++ separated 32 after → second < 2 ^ 64 → (second < 2 ^ 16 → ⊥) → NoHeading text
large_code text others number second after whole fits found fits_too large line code rest few small e =
    let same = same_number number line (Some others) (Some (decimal code ++ separated 32 rest)) fits (omega arith) (sym whole ∙ e) in
    let is : others ≡ decimal code ++ separated 32 rest = cc in
    let code_is = same_number second code after rest fits_too (omega arith) (sym found ∙ is) in
    large (omega (arith, code_is.0))

-- ---- the whole line

pub text_of_record : (r : Record)
    → record_text r ≡ decimal r.line ++ separated 32 (Some (decimal r.code ++ separated 32 (fields_after r.fields)))
text_of_record r =
    ap (λ (x : List ℕ). decimal r.line ++ codes " " ++ decimal r.code ++ x) (text_of_fields r.fields)
    ∙ append_assoc (decimal r.line ++ codes " ") (decimal r.code) (separated 32 (fields_after r.fields))
    ∙ append_assoc (decimal r.line) (codes " ") (decimal r.code ++ separated 32 (fields_after r.fields))

pub small_code : (version : Version) (r : Record) → IsRecord version r → r.code < 2 ^ 16
small_code version r h = let event = event_of_fields version r.code r.fields h.fields in
    rw (← code-is version r.code event.event event.known) (code-lt event.event)

pub no_record_without_heading : (version : Version) (text : List ℕ) (r : Record) → NoHeading text → Spells version text r → ⊥
no_record_without_heading version text r none h =
    none r.line r.code (fields_after r.fields) h.grammar.line_fits (small_code version r h.grammar) (h.text ∙ text_of_record r)

-- a text begins with this line number and this code, and this stands after the space that follows them
pub record HasHeading (text : List ℕ) (line code : ℕ) (after : Option (List ℕ)) : Type 0 where
  pub spelled : text ≡ decimal line ++ separated 32 (Some (decimal code ++ separated 32 after))
  pub line_fits : line < 2 ^ 32
  pub code_fits : code < 2 ^ 16

-- so does the line of a record
record IsHeadingOf (line code : ℕ) (after : Option (List ℕ)) (r : Record) : Type 0 where
  line_is : line ≡ r.line
  code_is : code ≡ r.code
  after_is : after ≡ fields_after r.fields

some_is : (x y : List ℕ) → Some x ≡ Some y → x ≡ y
some_is x y e = cc

event_is : (version : Version) (code : ℕ) (e f : Event) → event_of version code ≡ Some e → event_of version code ≡ Some f → e ≡ f
event_is version code e f h k = some_event e f (sym h ∙ k)
  where
    an_event : Event → Option Event
    an_event e = Some e

    some_event : (e f : Event) → an_event e ≡ an_event f → e ≡ f
    some_event e f h = cc

pub known_by_code : (version : Version) (code : ℕ) (event : Event) → event_of version code ≡ Some event
    → event_of version (code_of event) ≡ Some event
known_by_code version code event known = ap (event_of version) (code-is version code event known) ∙ known

named_or_not : (named : Bool) → false ≡ named → named ≡ true → ⊥
named_or_not true e f = absurd cc
named_or_not false e f = absurd cc

module _ (version : Version) (text : List ℕ) (line code : ℕ) (after : Option (List ℕ)) (heading : HasHeading text line code after) where
  heading_of : (r : Record) → Spells version text r → IsHeadingOf line code after r
  heading_of r h =
      let line_fits : r.line < 2 ^ 64 = omega (arith, h.grammar.line_fits) in
      let code_fits : r.code < 2 ^ 64 = omega (arith, small_code version r h.grammar) in
      let own_line : line < 2 ^ 64 = omega (arith, heading.line_fits) in
      let own_code : code < 2 ^ 64 = omega (arith, heading.code_fits) in
      let same = same_number line r.line (Some (decimal code ++ separated 32 after))
      (Some (decimal r.code ++ separated 32 (fields_after r.fields))) own_line line_fits
      (sym heading.spelled ∙ h.text ∙ text_of_record r) in
      let is : decimal code ++ separated 32 after ≡ decimal r.code ++ separated 32 (fields_after r.fields) = some_is _ _ same.1 in
      let second = same_number code r.code after (fields_after r.fields) own_code code_fits is in
      record { line_is = same.0; code_is = second.0; after_is = second.1 }

  pub no_record_without_event : event_of version code ≡ None → (r : Record) → Spells version text r → ⊥
  no_record_without_event none r h =
      let event = event_of_fields version r.code r.fields h.grammar.fields in
      none-some event.event (sym none ∙ ap (event_of version) (heading_of r h).code_is ∙ event.known)

  module _ (event : Event) (known : event_of version code ≡ Some event) where
    same_event : (r : Record) (own : Event) → Spells version text r → event_of version r.code ≡ Some own → event ≡ own
    same_event r own h own_known = event_is version code event own known (ap (event_of version) (heading_of r h).code_is ∙ own_known)

    pub no_record_without_fields : ((fields : List ℕ) → length fields ≡ field_count_of event → Fits fields
        → separated 32 after ≢ flat_map field_text fields) → (r : Record) → Spells version text r → ⊥
    no_record_without_fields none r h =
        let own = event_of_fields version r.code r.fields h.grammar.fields in
        let same = same_event r own.event h own.known in
        none r.fields (own.count ∙ ap field_count_of (sym same)) h.grammar.fields_fit
        (ap (separated 32) (heading_of r h).after_is ∙ sym (text_of_fields r.fields))

    -- these are the fields
    module _ (fields : List ℕ) (found : separated 32 after ≡ flat_map field_text fields) (fits : Fits fields) where
      pub no_record_without_name : interns_a_name event fields ≡ false → (r : Record) → Spells version text r → ⊥
      no_record_without_name unnamed r h =
          let own = event_of_fields version r.code r.fields h.grammar.fields in
          let same = same_event r own.event h own.known in
          let texts : separated 32 (fields_after fields) ≡ separated 32 (fields_after r.fields) =
          sym (text_of_fields fields) ∙ sym found ∙ ap (separated 32) (heading_of r h).after_is in
          let equal : fields ≡ r.fields =
          same_fields fields r.fields (recursion_from_All (λ field. field < 2 ^ 64) fields fits)
          (recursion_from_All (λ field. field < 2 ^ 64) r.fields h.grammar.fields_fit)
          (same_rest (fields_after fields) (fields_after r.fields) texts) in
          named_or_not _ (sym unnamed ∙ ap (λ (e : Event). interns_a_name e fields) same ∙ ap (interns_a_name own.event) equal) own.named

      pub spells_record : length fields ≡ field_count_of event → interns_a_name event fields ≡ true
          → Spells version text (record { line = line; code = code_of event; fields = fields })
      spells_record count named = record {
        grammar = record {
          fields = fields_of_event version (code_of event) fields (record {
            event = event;
            known = known_by_code version code event known;
            count = count;
            named = named;
          });
          fields_fit = fits;
          line_fits = heading.line_fits;
        };
        text =
            heading.spelled
            ∙ ap (λ (k : ℕ). decimal line ++ separated 32 (Some (decimal k ++ separated 32 after))) (sym (code-is version code event known))
            ∙ ap (λ (x : List ℕ). decimal line ++ separated 32 (Some (decimal (code_of event) ++ x))) (found ∙ text_of_fields fields)
            ∙ sym (text_of_record (record { line = line; code = code_of event; fields = fields }));
      }

-- ---- an interned name

-- the first three of four fields
first_three : (fields : List ℕ) → length fields ≡ 4 → interned_bytes (take 3 fields) ≡ interned_bytes fields
first_three [] size = absurd (omega arith)
first_three (a ∷ []) size = absurd (omega arith)
first_three (a ∷ b ∷ []) size = absurd (omega arith)
first_three (a ∷ b ∷ c ∷ fields) size = refl

pub name_tested : (event : Event) (fields : List ℕ) (named : Bool) → event ≡ Intern → length fields ≡ 4
    → named ≡ is_padded_name (interned_bytes fields)
    → named ≡ interns_a_name event (take (field_count_of event) fields)
name_tested event fields named is size named_is =
    named_is ∙ ap is_padded_name (sym (first_three fields size))
    ∙ ap (λ (e : Event). interns_a_name e (take (field_count_of e) fields)) (sym is)
