-- The record of a name that is interned has its 16 bytes, which are a name of the grammar and zeros.
use Rattle.std.proofs.Common.{◌≡◌, ◌∙◌, ℕ, ◌-◌, Bool, true, false, Some, None, subst, refl, sym, ap, List, [], ◌∷◌, ◌++◌, length, take, drop, replicate, append-nil, arith}
use Rattle.std.proofs.lemmas.Bool.{and_parts}
use Rattle.std.proofs.lemmas.Bool.Decides.{nat_tests}
use Rattle.std.proofs.lemmas.List.{drop_at, length-drop, length-take, take-append-drop, take_all}
use Rattle.std.proofs.lemmas.List.Sums.{prefix_len-le-length}
use Rattle.std.specs.Int.{w64, from_le_bytes, to_le_bytes}
use Rattle.std.specs.List.{list_all, position_or_len}
use Rattle.std.specs.Prelude.{◌&&◌, if◌then◌else◌, not, position, unwrap_or}
use Rattle.mps_base.specs.Name.{is_name, max_name_bytes}
use Rattle.mps_base.specs.Record.{Record, number_bytes, number_of_bytes}
use Rattle.mps_base.specs.declared.names.Name.{Name}
use Rattle.mps_commands.specs.Range.{IsPaddedName}
use Rattle.mps_event.specs.Event.{code_of}
use Rattle.mps_event.specs.Name.{interned_bytes, is_padded_name, name_in}
use Rattle.mps_event.specs.declared.event.Event.TheVariants.{Intern}
use Rattle.mps_model.specs.Answer.{Replied}
use Rattle.mps_model.specs.Log.{records_of_label}
use Rattle.mps_model.specs.declared.call.Call.TheVariants as call
use Rattle.mps_model.specs.declared.reply.Reply.TheVariants as reply
use Rattle.mps_line_words.specs.Name.{name_from, name_of}
use Rattle.mps_line_words.proofs.FirstName.{none_in_names}
use Rattle.mps_line_words.proofs.Prefixes.{before_past}
use Rattle.mps_line_words.proofs.Unique.{all_named, is_zero, no_zero, zeros_left}

-- the name that a word writes
named_by : (b : Bool) (word : List ℕ) (name : Name) → is_name word ≡ b → (if b then Some (name_from word) else None) ≡ Some name
    → IsPaddedName name
named_by true word name is e =
    let same : name_from word ≡ name = (let whole : Some (name_from word) ≡ Some name = e in cc) in
    subst IsPaddedName same (record { word = word; is = is; padded = refl })
named_by false word name is e = absurd (let wrong : None ≡ Some name = e in cc)

pub named_in_range : (word : List ℕ) (name : Name) → name_of word ≡ Some name → IsPaddedName name
named_in_range word name e = named_by (is_name word) word name refl e

-- the first zero of bytes, or their end
first_zero : (xs : List ℕ) → unwrap_or (position is_zero xs) (length xs) ≡ position_or_len is_zero xs
first_zero xs = let bound = prefix_len-le-length (λ x. not (is_zero x)) xs in grind (arith, nat_tests, bound)

zeros_begin : (zeros : List ℕ) → list_all is_zero zeros ≡ true → position_or_len is_zero zeros ≡ 0
zeros_begin [] all = refl
zeros_begin (byte ∷ bytes) all = rw (and_parts (is_zero byte) (list_all is_zero bytes) all).0

module _ (word zeros : List ℕ) (named : is_name word ≡ true) (all : list_all is_zero zeros ≡ true) where
  name_is : name_in (word ++ zeros) ≡ word
  name_is =
      ap (λ n. take n (word ++ zeros)) (first_zero (word ++ zeros))
      ∙ before_past is_zero word zeros (none_in_names is_zero no_zero word (all_named word named))
      ∙ ap (λ n. word ++ take n zeros) (zeros_begin zeros all)
      ∙ append-nil word

  padded_is : is_padded_name (word ++ zeros) ≡ true
  padded_is =
      ap (λ (name : List ℕ). is_name name && list_all is_zero (drop (length name) (word ++ zeros))) name_is
      ∙ ap (λ b. b && list_all is_zero (drop (length word) (word ++ zeros))) named
      ∙ ap (list_all is_zero) (drop_at word zeros (length word) refl)
      ∙ all

-- eight bytes as a number
pub eight_bytes : (xs : List ℕ) → length xs ≡ 8 → from_le_bytes w64 xs ≡ number_of_bytes xs
eight_bytes (a ∷ b ∷ c ∷ d ∷ e ∷ f ∷ g ∷ h ∷ []) size = omega arith
eight_bytes [] size = absurd (omega (arith, size))
eight_bytes (a ∷ []) size = absurd (omega (arith, size))
eight_bytes (a ∷ b ∷ []) size = absurd (omega (arith, size))
eight_bytes (a ∷ b ∷ c ∷ []) size = absurd (omega (arith, size))
eight_bytes (a ∷ b ∷ c ∷ d ∷ []) size = absurd (omega (arith, size))
eight_bytes (a ∷ b ∷ c ∷ d ∷ e ∷ []) size = absurd (omega (arith, size))
eight_bytes (a ∷ b ∷ c ∷ d ∷ e ∷ f ∷ []) size = absurd (omega (arith, size))
eight_bytes (a ∷ b ∷ c ∷ d ∷ e ∷ f ∷ g ∷ []) size = absurd (omega (arith, size))
eight_bytes (a ∷ b ∷ c ∷ d ∷ e ∷ f ∷ g ∷ h ∷ i ∷ xs) size = absurd (omega (arith, size))

-- ---- its record

abbrev pub the_record : (line number low high : ℕ) → Record
the_record line number low high = record { line = line; code = code_of Intern; fields = number ∷ low ∷ high ∷ [] }

module _ (label : Name) (line number wide low high : ℕ) (long : length label.bytes ≡ 16) (same : wide ≡ number)
    (first : low ≡ from_le_bytes w64 (take 8 label.bytes))
    (last : high ≡ from_le_bytes w64 (take (length label.bytes - 8) (drop 8 label.bytes))) where
  short : length (drop 8 label.bytes) ≡ 8
  short = omega (arith, long, length-drop 8 label.bytes)

  last_half : take (length label.bytes - 8) (drop 8 label.bytes) ≡ drop 8 label.bytes
  last_half = take_all (length label.bytes - 8) (drop 8 label.bytes) (omega (arith, long, short))

  low_is : low ≡ number_of_bytes (take 8 label.bytes)
  low_is = first ∙ eight_bytes (take 8 label.bytes) (omega (arith, long, length-take 8 label.bytes))

  high_is : high ≡ number_of_bytes (drop 8 label.bytes)
  high_is = last ∙ ap (from_le_bytes w64) last_half ∙ eight_bytes (drop 8 label.bytes) short

  pub interned_record : records_of_label (call.Intern label) (Replied (reply.Interned number)) line ≡ the_record line wide low high ∷ []
  interned_record =
      sym (ap (λ n. the_record line n low high ∷ []) same ∙ ap (λ n. the_record line number n high ∷ []) low_is
      ∙ ap (λ n. the_record line number (number_of_bytes (take 8 label.bytes)) n ∷ []) high_is)

  -- its fields have the bytes of a name
  pub interned_named : IsPaddedName label → to_le_bytes w64 low ≡ take 8 label.bytes
      → to_le_bytes w64 high ≡ take (length label.bytes - 8) (drop 8 label.bytes)
      → is_padded_name (interned_bytes (wide ∷ low ∷ high ∷ [])) ≡ true
  interned_named is front back =
      ap is_padded_name
      (ap (λ bytes. bytes ++ number_bytes 8 high) front ∙ ap (λ bytes. take 8 label.bytes ++ bytes) (back ∙ last_half)
      ∙ take-append-drop 8 label.bytes ∙ is.padded)
      ∙ padded_is is.word (drop (length is.word) (replicate max_name_bytes 0)) is.is (zeros_left (length is.word) max_name_bytes)
