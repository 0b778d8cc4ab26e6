-- The kinds that a list of names gives, one name after the other.
use Rattle.std.proofs.Common.{◌≡◌, ℕ, ◌<◌, ◌==◌, Bool, false, Option, Some, None, option_map, option_and_then, List, [], ◌∷◌, length, refl, sym, ap, ◌∙◌, arith}
use Rattle.std.specs.Int.RustNames.{bit_or}
use Rattle.std.specs.Int.Bits.{or_zero_r}
use Rattle.std.proofs.lemmas.Nat.Bits.{same_from_bits, bit_at_or}
use Rattle.std.specs.List.{before_first, after_first, position_or_len, slice_split}
use Rattle.std.proofs.lemmas.List.Elements.{All-from_get_or}
use Rattle.std.proofs.lemmas.List.Sums.{fails_before_first}
use Rattle.std.proofs.lemmas.List.Splits.{slice_split_first, slice_split_none}
use Rattle.mps_args.specs.Kinds.{kind_named, all_named, kinds_named}

or_assoc : (a b c : ℕ) → bit_or (bit_or a b) c ≡ bit_or a (bit_or b c)
or_assoc a b c =
    same_from_bits (bit_or (bit_or a b) c) (bit_or a (bit_or b c)) (λ i.
    omega (arith, bit_at_or (bit_or a b) c i, bit_at_or a b i, bit_at_or a (bit_or b c) i, bit_at_or b c i))

joined : (kinds kind : ℕ) (others : Option ℕ)
    → option_map (bit_or kinds) (option_map (bit_or kind) others) ≡ option_map (bit_or (bit_or kinds kind)) others
joined kinds kind (Some more) = ap Some (sym (or_assoc kinds kind more))
joined kinds kind None = refl

-- the first name, and the names after it
pub first_named : (kinds : ℕ) (name : List ℕ) (names : List (List ℕ)) (o : Option ℕ)
    → o ≡ option_map (bit_or kinds) (kind_named name)
    → option_and_then (λ with_first. option_map (bit_or with_first) (all_named names)) o
    ≡ option_map (bit_or kinds) (all_named (name ∷ names))
first_named kinds name names o e = ap (option_and_then (λ with_first. option_map (bit_or with_first) (all_named names))) e
    ∙ by_kind (kind_named name)
  where
    by_kind : (found : Option ℕ)
        → option_and_then (λ with_first. option_map (bit_or with_first) (all_named names)) (option_map (bit_or kinds) found)
        ≡ option_map (bit_or kinds) (option_and_then (λ kind. option_map (bit_or kind) (all_named names)) found)
    by_kind (Some kind) = sym (joined kinds kind (all_named names))
    by_kind None = refl

-- one name alone
pub last_named : (kinds : ℕ) (name : List ℕ) → option_map (bit_or kinds) (kind_named name)
    ≡ option_map (bit_or kinds) (all_named (name ∷ []))
last_named kinds name = ap (option_map (bit_or kinds)) (by_kind (kind_named name))
  where
    by_kind : (found : Option ℕ) → found ≡ option_and_then (λ kind. option_map (bit_or kind) (Some 0)) found
    by_kind (Some kind) = ap Some (sym (or_zero_r kind))
    by_kind None = refl

abbrev comma : ℕ → Bool
comma b = b == 44

-- the name before the first comma, and the names after it
pub cut_named : (kinds : ℕ) (word name later : List ℕ) (o : Option ℕ)
    → name ≡ before_first (λ b. b == 44) word → later ≡ after_first (λ b. b == 44) word → position_or_len (λ b. b == 44) word < length word
    → o ≡ option_map (bit_or kinds) (kind_named name)
    → option_and_then (λ with_first. option_map (bit_or with_first) (kinds_named later)) o ≡ option_map (bit_or kinds) (kinds_named word)
cut_named kinds word name later o before after cut e =
    let parts : slice_split comma word ≡ name ∷ slice_split comma later = rw (before, after) (slice_split_first comma word 0 cut) in
    first_named kinds name (slice_split comma later) o e
    ∙ ap (λ (names : List (List ℕ)). option_map (bit_or kinds) (all_named names)) (sym parts)

-- a word without a comma
pub uncut_named : (kinds : ℕ) (word : List ℕ) → position_or_len (λ b. b == 44) word ≡ length word
    → option_map (bit_or kinds) (kind_named word) ≡ option_map (bit_or kinds) (kinds_named word)
uncut_named kinds word whole =
    let parts : slice_split comma word ≡ word ∷ [] =
    slice_split_none comma word (All-from_get_or (λ b. comma b ≡ false) word 0
    (λ i h. fails_before_first comma word i 0 (omega (arith, whole)))) in
    last_named kinds word ∙ ap (λ (names : List (List ℕ)). option_map (bit_or kinds) (all_named names)) (sym parts)
