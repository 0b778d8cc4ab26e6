-- A line spells one record at most; no line feed stands in it, and it is short.
use Rattle.std.proofs.Common.{◌≡◌, ℕ, zero, suc, ◌+◌, ◌*◌, ◌/◌, ◌%◌, ◌^◌, ◌<◌, ◌≤◌, Bool, true, false, cond, eqb, List, [], ◌∷◌, ◌++◌, length, decimal, Some, refl, sym, ap, ◌∙◌, arith}
use Rattle.std.specs.Prelude.{◌≢◌, codes}
use Rattle.std.specs.List.{flat_map}
use Rattle.std.specs.Fmt.{digit_glyph, digits_onto, digits}
use Rattle.std.proofs.lemmas.List.{length-append}
use Rattle.std.proofs.lemmas.List.Elements.{All-append, All-cons, All-nil, All-same, recursion_from_All}
use Rattle.mps_base.specs.Record.{Record}
use Rattle.mps_event.specs.declared.version.Version.{Version}
use Rattle.mps_event.specs.Grammar.{IsRecord}
use Rattle.mps_event.proofs.Records.{event_of_fields, count-le}
use Rattle.mps_numerals.specs.Hexadecimal.{hexadecimal}
use Rattle.mps_log_reader.specs.RecordLine.{field_text}
use Rattle.mps_txt.specs.Separators.{Lacks, separated}
use Rattle.mps_txt.specs.Line.{record_text, Spells}
use Rattle.mps_txt.proofs.NumberTexts.{decimal_lacks, hexadecimal_lacks, same_number}
use Rattle.mps_txt.proofs.RecordWords.{small_code, fields_after, text_of_record, same_fields}

-- ---- no line feed

abbrev IsNoFeed : ℕ → Type 0
IsNoFeed byte = byte ≢ 10

fields_lack : (fields : List ℕ) → Lacks 10 (flat_map field_text fields)
fields_lack [] = All-nil IsNoFeed
fields_lack (field ∷ fields) =
    All-append IsNoFeed (field_text field) (flat_map field_text fields)
    (All-cons IsNoFeed 32 (hexadecimal field) (λ e. omega (arith, e)) (hexadecimal_lacks 10 field (omega arith))) (fields_lack fields)

space_lacks : Lacks 10 (codes " ")
space_lacks = All-cons IsNoFeed 32 [] (λ e. omega (arith, e)) (All-nil IsNoFeed)

pub record_text_lacks : (version : Version) (r : Record) → IsRecord version r → Lacks 10 (record_text r)
record_text_lacks version r h =
    let line : r.line < 2 ^ 64 = omega (arith, h.line_fits) in
    let code : r.code < 2 ^ 64 = omega (arith, small_code version r h) in
    All-append IsNoFeed (decimal r.line ++ codes " " ++ decimal r.code) (flat_map field_text r.fields)
    (All-append IsNoFeed (decimal r.line ++ codes " ") (decimal r.code)
    (All-append IsNoFeed (decimal r.line) (codes " ") (decimal_lacks 10 r.line (omega arith) line) space_lacks)
    (decimal_lacks 10 r.code (omega arith) code))
    (fields_lack r.fields)

pub text_lacks : (version : Version) (line : List ℕ) (r : Record) → Spells version line r → Lacks 10 line
text_lacks version line r h = All-same IsNoFeed line (record_text r) h.text (record_text_lacks version r h.grammar)

-- ---- few bytes

longest_of : (last : Bool) (x y : List ℕ) (n : ℕ) → length x ≤ n → length y ≤ n → length (cond last x y) ≤ n
longest_of true x y n h k = h
longest_of false x y n h k = k

onto_at_most : (fuel base n : ℕ) (front : List ℕ) → length (digits_onto fuel base false n front) ≤ fuel + length front
onto_at_most zero base n front = omega arith
onto_at_most (suc fuel) base n front =
    let next = digit_glyph false (n % base) ∷ front in
    longest_of (eqb (n / base) 0) next (digits_onto fuel base false (n / base) next) (suc fuel + length front) (omega arith)
    (omega (arith, onto_at_most fuel base (n / base) next))

digits_at_most : (base n : ℕ) → length (digits base false n) ≤ 64
unfolding digits
digits_at_most base n = omega (arith, onto_at_most 64 base n [])

fields_at_most : (fields : List ℕ) → length (flat_map field_text fields) ≤ 65 * length fields
fields_at_most [] = omega arith
fields_at_most (field ∷ fields) =
    omega (arith, length-append (field_text field) (flat_map field_text fields), digits_at_most 16 field, fields_at_most fields)

pub record_text_at_most : (version : Version) (r : Record) → IsRecord version r → length (record_text r) ≤ 4096
record_text_at_most version r h =
    let event = event_of_fields version r.code r.fields h.fields in
    omega (
      arith,
      length-append (decimal r.line ++ codes " " ++ decimal r.code) (flat_map field_text r.fields),
      length-append (decimal r.line ++ codes " ") (decimal r.code),
      length-append (decimal r.line) (codes " "),
      digits_at_most 10 r.line,
      digits_at_most 10 r.code,
      fields_at_most r.fields,
      event.count,
      count-le event.event,
    )

pub text_at_most : (version : Version) (line : List ℕ) (r : Record) → Spells version line r → length line ≤ 4096
text_at_most version line r h = omega (arith, ap (λ (x : List ℕ). length x) h.text, record_text_at_most version r h.grammar)

-- ---- one record

abbrev record_with : (line code : ℕ) → (fields : List ℕ) → Record
record_with line code fields = record { line = line; code = code; fields = fields }

pub one_text : (version : Version) (line : List ℕ) (r s : Record) → Spells version line r → Spells version line s → r ≡ s
one_text version line r s h k =
    let line_fits : r.line < 2 ^ 64 = omega (arith, h.grammar.line_fits) in
    let code_fits : r.code < 2 ^ 64 = omega (arith, small_code version r h.grammar) in
    let other_line : s.line < 2 ^ 64 = omega (arith, k.grammar.line_fits) in
    let other_code : s.code < 2 ^ 64 = omega (arith, small_code version s k.grammar) in
    let same = same_number r.line s.line (Some (decimal r.code ++ separated 32 (fields_after r.fields)))
    (Some (decimal s.code ++ separated 32 (fields_after s.fields))) line_fits other_line
    (sym (text_of_record r) ∙ sym h.text ∙ k.text ∙ text_of_record s) in
    let codes_same = same_number r.code s.code (fields_after r.fields) (fields_after s.fields) code_fits other_code (some_is _ _ same.1) in
    let fields_same = same_fields r.fields s.fields (recursion_from_All (λ field. field < 2 ^ 64) r.fields h.grammar.fields_fit)
    (recursion_from_All (λ field. field < 2 ^ 64) s.fields k.grammar.fields_fit) codes_same.1 in
    same_parts r.line s.line r.code s.code r.fields s.fields same.0 codes_same.0 fields_same
  where
    some_is : (x y : List ℕ) → Some x ≡ Some y → x ≡ y
    some_is x y e = cc

    same_parts : (a b c d : ℕ) (x y : List ℕ) → a ≡ b → c ≡ d → x ≡ y → record_with a c x ≡ record_with b d y
    same_parts a b c d x y e f g = rw (e, f, g) refl
