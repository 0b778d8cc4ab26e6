-- What the entries of a table of words give at an address.
use Rattle.std.proofs.Common.{◌≡◌, ◌⊎◌, inl, inr, ℕ, suc, zero, ◌+◌, ◌*◌, ◌/◌, ◌<◌, ◌≤◌, ltb, true≢false, Bool, true, false, cond, eqb, List, [], ◌∷◌, ◌++◌, Option, Some, None, length, refl, sym, ap, ◌∙◌, arith}
use Rattle.std.specs.Prelude.{is_some}
use Rattle.std.specs.List.{IsDistinct}
use Rattle.std.specs.Map.{keys_of}
use Rattle.std.proofs.lemmas.Bool.{eqb-true, eq-eqb, ltb-true, ltb-false, cases_lt}
use Rattle.std.proofs.lemmas.Map.Keys.{IsDistinct-cons}
use Rattle.mps_address_map.specs.AddressMap.{found_at, Changes}
use Rattle.mps_address_map.specs.Words.{with_word, words_from, words_of, at_word, ChangesWord}
use Rattle.mps_address_map.proofs.Entries.{ApartEntries, none_from_each, found_second, found_first_alone, first_changed, second_changed}

-- an address is that of a word only if the word lies after the places
abbrev pub IsPast : {X : Type 0} → (word : ℕ) → List (Option X) → (q : ℕ) → Type 0
IsPast word places q = (i : ℕ) → q ≡ 8 * (word + i) → length places ≤ i

not_first : (q word n : ℕ) (c : Bool) → eqb q (8 * word) ≡ c → (q ≡ 8 * (word + 0) → suc n ≤ 0) → c ≡ false
not_first q word n true is none = absurd (omega (arith, none (omega (arith, eqb-true q (8 * word) is))))
not_first q word n false is none = refl

later_word : (word i : ℕ) (c : Bool) → eqb (8 * (word + suc i)) (8 * word) ≡ c → c ≡ false
later_word word i true is = absurd (omega (arith, eqb-true (8 * (word + suc i)) (8 * word) is))
later_word word i false is = refl

-- an address of no word
abbrev pub IsNoWord : (q : ℕ) → Type 0
IsNoWord q = (word : ℕ) → q ≡ 8 * word → ⊥

-- an address of no word below a bound
abbrev pub IsOther : (most at : ℕ) → Type 0
IsOther most at = (word : ℕ) → word < most → eqb at (8 * word) ≡ false

-- the word of an address, below a bound
abbrev pub IsInTable : (most at : ℕ) → Type 0
IsInTable most at = (word : ℕ) × ((word < most) × (at ≡ 8 * word))

word_case : (q : ℕ) (c : Bool) → eqb q (8 * (q / 8)) ≡ c → ((w : ℕ) × (q ≡ 8 * w)) ⊎ IsNoWord q
word_case q true is = inl (q / 8, eqb-true q (8 * (q / 8)) is)
word_case q false is = inr (λ w here. true≢false (sym (eq-eqb q (8 * (q / 8)) (whole q w here)) ∙ is))
  where
    whole : (n w : ℕ) → n ≡ 8 * w → n ≡ 8 * (n / 8)
    whole n w h = omega (arith, h)

word_or_not : (q : ℕ) → ((w : ℕ) × (q ≡ 8 * w)) ⊎ IsNoWord q
word_or_not q = word_case q _ refl

no_word_differs : (word q : ℕ) (c : Bool) → eqb (8 * word) q ≡ c → IsNoWord q → c ≡ false
no_word_differs word q true is none = absurd (none word (sym (eqb-true (8 * word) q is)))
no_word_differs word q false is none = refl

no_word_is_other : (most q : ℕ) → IsNoWord q → IsOther most q
no_word_is_other most q none w low = by (eqb q (8 * w)) refl
  where
    by : (c : Bool) → eqb q (8 * w) ≡ c → c ≡ false
    by true is = absurd (none w (eqb-true q (8 * w) is))
    by false is = refl

high_word_is_other : (most q word : ℕ) → q ≡ 8 * word → most ≤ word → IsOther most q
high_word_is_other most q word here high w low = by (eqb q (8 * w)) refl
  where
    by : (c : Bool) → eqb q (8 * w) ≡ c → c ≡ false
    by true is = absurd (omega (arith, eqb-true q (8 * w) is, here, high, low))
    by false is = refl

table_case : (most q : ℕ) (w : (w : ℕ) × (q ≡ 8 * w)) → (w.0 < most) ⊎ (most ≤ w.0) → IsInTable most q ⊎ IsOther most q
table_case most q w (inl low) = inl (w.0, (low, w.1))
table_case most q w (inr high) = inr (high_word_is_other most q w.0 w.1 high)

table_by : (most q : ℕ) → ((w : ℕ) × (q ≡ 8 * w)) ⊎ IsNoWord q → IsInTable most q ⊎ IsOther most q
table_by most q (inl w) = table_case most q w (cases_lt w.0 most)
table_by most q (inr none) = inr (no_word_is_other most q none)

table_or_not : (most q : ℕ) → IsInTable most q ⊎ IsOther most q
table_or_not most q = table_by most q (word_or_not q)

beyond : (n most at i : ℕ) (c : Bool) → ltb i most ≡ c → n ≤ most → IsOther most at → at ≡ 8 * (0 + i) → n ≤ i
beyond n most at i true low short other is =
    absurd (true≢false (sym (eq-eqb at (8 * i) (omega (arith, is))) ∙ other i (ltb-true i most low)))
beyond n most at i false high short other is = omega (arith, ltb-false i most high, short)

same_test : (word w q : ℕ) → q ≡ 8 * w → eqb word w ≡ eqb (8 * word) q
same_test word w q is = by (eqb word w) (eqb (8 * word) q) refl refl
  where
    by : (c d : Bool) → eqb word w ≡ c → eqb (8 * word) q ≡ d → c ≡ d
    by true true e f = refl
    by false false e f = refl
    by true false e f =
        absurd (true≢false (sym (eq-eqb (8 * word) q (omega (arith, is, eqb-true word w e))) ∙ f))
    by false true e f =
        absurd (true≢false (sym (eq-eqb word w (omega (arith, is, eqb-true (8 * word) q f))) ∙ e))

module _ {X : Type 0} where
  past_rest : (word : ℕ) (place : Option X) (places : List (Option X)) (q : ℕ) → IsPast word (place ∷ places) q
      → IsPast (word + 1) places q
  past_rest word place places q past i is = omega (arith, past (suc i) (omega (arith, is)))

  found_with : (at q : ℕ) (place : Option X) (entries : List (ℕ × X)) → eqb q at ≡ false
      → found_at (with_word at place entries) q ≡ found_at entries q
  found_with at q None entries other = refl
  found_with at q (Some x) entries other = ap (λ (c : Bool). cond c (Some x) (found_at entries q)) other

  -- an address that is none of the places'
  pub none_past : (word : ℕ) (places : List (Option X)) (q : ℕ) → IsPast word places q → found_at (words_from word places) q ≡ None
  none_past word [] q past = refl
  none_past word (place ∷ places) q past =
      found_with (8 * word) q place (words_from (word + 1) places)
      (not_first q word (length places) (eqb q (8 * word)) refl (past 0))
      ∙ none_past (word + 1) places q (past_rest word place places q past)

  before_is_past : (word : ℕ) (places : List (Option X)) (q : ℕ) → q < 8 * word → IsPast word places q
  before_is_past word places q before i is = absurd (omega (arith, before, is))

  found_first_word : (at : ℕ) (place : Option X) (entries : List (ℕ × X)) → found_at entries at ≡ None
      → found_at (with_word at place entries) at ≡ place
  found_first_word at None entries none = none
  found_first_word at (Some x) entries none = ap (λ (c : Bool). cond c (Some x) (found_at entries at)) (eq-eqb at at refl)

  found_from : (word : ℕ) (places : List (Option X)) (i : ℕ) → found_at (words_from word places) (8 * (word + i)) ≡ at_word places i
  found_from word [] i = refl
  found_from word (place ∷ places) zero =
      ap (found_at (words_from word (place ∷ places))) (first_place word)
      ∙ found_first_word (8 * word) place (words_from (word + 1) places)
      (none_past (word + 1) places (8 * word) (before_is_past (word + 1) places (8 * word) (omega arith)))
    where
      first_place : (w : ℕ) → 8 * (w + 0) ≡ 8 * w
      first_place w = omega arith
  found_from word (place ∷ places) (suc i) =
      found_with (8 * word) (8 * (word + suc i)) place (words_from (word + 1) places) (later_word word i _ refl)
      ∙ ap (found_at (words_from (word + 1) places)) (next_place word i)
      ∙ found_from (word + 1) places i
    where
      next_place : (w j : ℕ) → 8 * (w + suc j) ≡ 8 * (w + 1 + j)
      next_place w j = omega arith

  -- what the entries of a table give at the address of a word
  pub found_at_word : (places : List (Option X)) (word at : ℕ) → at ≡ 8 * word → found_at (words_of places) at ≡ at_word places word
  found_at_word places word at is = ap (found_at (words_of places)) (from_zero at word is) ∙ found_from 0 places word
    where
      from_zero : (q w : ℕ) → q ≡ 8 * w → q ≡ 8 * (0 + w)
      from_zero q w h = omega (arith, h)

  -- what they give at another address
  pub none_elsewhere : (places : List (Option X)) (most at : ℕ) → length places ≤ most → IsOther most at
      → found_at (words_of places) at ≡ None
  none_elsewhere places most at short other =
      none_past 0 places at (λ i is. beyond (length places) most at i (ltb i most) refl short other is)

  absent_word : (entries : List (ℕ × X)) (places : List (Option X)) (most at : ℕ) → length places ≤ most
      → ((word : ℕ) → word < most → found_at entries (8 * word) ≡ None) → IsInTable most at ⊎ IsOther most at
      → is_some (found_at (words_of places) at) ≡ true → found_at entries at ≡ None
  absent_word entries places most at short absent (inl w) there = ap (found_at entries) w.1.1 ∙ absent w.0 w.1.0
  absent_word entries places most at short absent (inr other) there =
      absurd (true≢false (sym there ∙ ap (λ (o : Option X). is_some o) (none_elsewhere places most at short other)))

  -- entries that no word of a table is among
  pub apart_from_words : (entries : List (ℕ × X)) (places : List (Option X)) (most : ℕ) → length places ≤ most
      → ((word : ℕ) → word < most → found_at entries (8 * word) ≡ None) → ApartEntries (words_of places) entries
  apart_from_words entries places most short absent at there = absent_word entries places most at short absent (table_or_not most at) there

  no_word_is_past : (places : List (Option X)) (q : ℕ) → IsNoWord q → IsPast 0 places q
  no_word_is_past places q none i is = absurd (none i (from_zero i is))
    where
      from_zero : (w : ℕ) → q ≡ 8 * (0 + w) → q ≡ 8 * w
      from_zero w h = omega (arith, h)

  changed_at : (old new : List (Option X)) (word : ℕ) (x : Option X) → ChangesWord old new word x → (q : ℕ)
      → ((w : ℕ) × (q ≡ 8 * w)) ⊎ IsNoWord q
      → found_at (words_of new) q ≡ cond (eqb (8 * word) q) x (found_at (words_of old) q)
  changed_at old new word x change q (inl w) =
      found_at_word new w.0 q w.1
      ∙ change w.0
      ∙ ap (λ (c : Bool). cond c x (at_word old w.0)) (same_test word w.0 q w.1)
      ∙ ap (λ (o : Option X). cond (eqb (8 * word) q) x o) (sym (found_at_word old w.0 q w.1))
  changed_at old new word x change q (inr none) =
      none_past 0 new q (no_word_is_past new q none)
      ∙ sym (none_past 0 old q (no_word_is_past old q none))
      ∙ ap (λ (c : Bool). cond c x (found_at (words_of old) q)) (sym (no_word_differs word q _ refl none))

  -- a change of a table at a word is a change of its entries at the word's address
  pub words_changed : (old new : List (Option X)) (word at : ℕ) (x : Option X) → at ≡ 8 * word → ChangesWord old new word x
      → Changes (words_of old) (words_of new) at x
  words_changed old new word at x is change q =
      changed_at old new word x change q (word_or_not q) ∙ ap (λ (n : ℕ). cond (eqb n q) x (found_at (words_of old) q)) (sym is)

  -- ---- a table and the entries of an ordered map

  -- what both have at a word's address is what the table has
  pub found_in_table : (places : List (Option X)) (entries : List (ℕ × X)) (word at : ℕ) → at ≡ 8 * word
      → found_at entries (8 * word) ≡ None → at_word places word ≡ found_at (words_of places ++ entries) at
  found_in_table places entries word at is none =
      sym (found_at_word places word at is)
      ∙ found_first_alone (words_of places) entries at (ap (found_at entries) is ∙ none)

  -- what both have at another address is what the entries have
  pub found_in_entries : (places : List (Option X)) (entries : List (ℕ × X)) (most at : ℕ) → length places ≤ most → IsOther most at
      → found_at entries at ≡ found_at (words_of places ++ entries) at
  found_in_entries places entries most at short other =
      sym (found_second (words_of places) entries at (none_elsewhere places most at short other))

  pub table_changes : (old new : List (Option X)) (entries : List (ℕ × X)) (word at : ℕ) (x : Option X) → at ≡ 8 * word
      → found_at entries (8 * word) ≡ None → ChangesWord old new word x → Changes (words_of old ++ entries) (words_of new ++ entries) at x
  table_changes old new entries word at x is none change =
      first_changed (words_of old) (words_of new) entries at x (words_changed old new word at x is change) (ap (found_at entries) is ∙ none)

  pub entries_change : (places : List (Option X)) (old new : List (ℕ × X)) (most at : ℕ) (x : Option X) → length places ≤ most
      → IsOther most at → Changes old new at x → Changes (words_of places ++ old) (words_of places ++ new) at x
  entries_change places old new most at x short other change =
      second_changed (words_of places) old new at x change (none_elsewhere places most at short other)

  -- ---- each address once

  pub distinct_words : (word : ℕ) (places : List (Option X)) → IsDistinct eqb (keys_of (words_from word places))
  unfolding IsDistinct
  distinct_words word [] = tt
  distinct_words word (None ∷ places) = distinct_words (word + 1) places
  distinct_words word (Some x ∷ places) =
      IsDistinct-cons eqb (8 * word) (keys_of (words_from (word + 1) places))
      (none_from_each (words_from (word + 1) places) (8 * word)
      (none_past (word + 1) places (8 * word) (before_is_past (word + 1) places (8 * word) (omega arith))))
      (distinct_words (word + 1) places)
