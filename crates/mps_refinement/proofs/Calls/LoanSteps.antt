-- A loan of words of a manual block: what the borrower leaves in them is what a store of each word leaves, and each store is right.
use Rattle.mps_refinement.proofs.Worlds.Known.{known_now}
use Rattle.std.proofs.Common.{◌≡◌, ◌∙◌, ℕ, zero, suc, ◌+◌, ◌*◌, ◌-◌, ◌<◌, ◌≤◌, refl, sym, ap, subst, List, [], ◌∷◌, ◌++◌, length, take, drop, get_or, inl, inr, Ok, Contains, arith, length-append}
use Rattle.std.proofs.lemmas.Bool.{cases_lt}
use Rattle.std.proofs.lemmas.List.{ext_get_or, get_or-append_right, get_or-drop, get_or-set_other, get_or-set_same, get_or-take, get_or_append_left, length-drop, length-set}
use Rattle.std.proofs.Math.Seq.{length-take-le}
use Rattle.std.specs.Prelude.{nat_le, not, slice_set}
use Rattle.mps_seg.specs.Arena as arena
use Rattle.mps_base.specs.Address.{Address, Word, word_of, bytes_of_word, max_block_words}
use Rattle.mps_base.specs.declared.names.Slot.{Slot}
use Rattle.mps_base.specs.declared.refusal.Refusal.TheVariants as refusal
use Rattle.mps_format.specs.Layout.{Layout}
use Rattle.mps_model.specs.Checked.{◌>>=◌, ◌>>◌, refuse_when}
use Rattle.mps_model.specs.History.{world_after_steps}
use Rattle.mps_model.specs.World.{World}
use Rattle.mps_heap_spec.specs.Coming.{done, answered, state_from}
use Rattle.mps_heap_spec.specs.Finding.{block_place_in, with_words}
use Rattle.mps_heap_spec.specs.declared.found.Entry.{Entry}
use Rattle.mps_heap_spec.specs.Manual.{block_in, is_block_over, word_in_block, word_stored}
use Rattle.mps_heap_spec.specs.Objects.{with_word}
use Rattle.mps_heap_spec.specs.State.{HeapState}
use Rattle.mps_refinement.specs.Storing.{AreRight, stores}
use Rattle.mps_refinement.specs.StandsFor.{StandsFor}
use Rattle.mps_refinement.proofs.Lookups.BlockWords.{store_is_right}
use Rattle.mps_refinement.proofs.Lookups.Loans.{block_borrowed}

-- ---- words

-- the words after these were written, one after the other, from one on
abbrev pub stored_words : List ℕ → (from : Word) → List ℕ → List ℕ
stored_words words from [] = words
stored_words words from (x ∷ xs) = stored_words (slice_set words from x) (from + 1) xs

stored_long : (words : List ℕ) (from : Word) (new : List ℕ) → length (stored_words words from new) ≡ length words
stored_long words from [] = refl
stored_long words from (x ∷ xs) = stored_long (slice_set words from x) (from + 1) xs ∙ length-set words from x

stored_before : (words : List ℕ) (from : Word) (new : List ℕ) (i : ℕ) → i < from
    → get_or (stored_words words from new) i 0 ≡ get_or words i 0
stored_before words from [] i low = refl
stored_before words from (x ∷ xs) i low =
    stored_before (slice_set words from x) (from + 1) xs i (omega (arith, low))
    ∙ get_or-set_other words from i x 0 (λ e. omega (arith, e, low))

stored_here : (words : List ℕ) (from : Word) (new : List ℕ) (i : ℕ) → i < length new → from + length new ≤ length words
    → get_or (stored_words words from new) (from + i) 0 ≡ get_or new i 0
stored_here words from [] i low fits = absurd (omega (arith, low))
stored_here words from (x ∷ xs) zero low fits =
    ap (λ n. get_or (stored_words (slice_set words from x) (from + 1) xs) n 0) (let e : from + 0 ≡ from = omega arith in e)
    ∙ stored_before (slice_set words from x) (from + 1) xs from (omega arith)
    ∙ get_or-set_same words from x 0 (omega (arith, fits))
stored_here words from (x ∷ xs) (suc i) low fits =
    ap (λ n. get_or (stored_words (slice_set words from x) (from + 1) xs) n 0) (let e : from + suc i ≡ from + 1 + i = omega arith in e)
    ∙ stored_here (slice_set words from x) (from + 1) xs i (omega (arith, low)) (omega (arith, fits, length-set words from x))

stored_after : (words : List ℕ) (from : Word) (new : List ℕ) (i : ℕ) → from + length new ≤ i
    → get_or (stored_words words from new) i 0 ≡ get_or words i 0
stored_after words from [] i past = refl
stored_after words from (x ∷ xs) i past =
    stored_after (slice_set words from x) (from + 1) xs i (omega (arith, past))
    ∙ get_or-set_other words from i x 0 (λ e. omega (arith, e, past))

-- they are the words with these in their place
pub stored_is : (words : List ℕ) (from : Word) (new : List ℕ) → from + length new ≤ length words
    → stored_words words from new ≡ arena.with_words words from new
stored_is words from new fits =
    ext_get_or 0 (stored_words words from new) (arena.with_words words from new) (stored_long words from new ∙ sym long) (λ i lt.
    by_place i (let l = stored_long words from new in omega (arith, lt, l)))
  where
    rest : List ℕ
    rest = drop (from + length new) words

    all : List ℕ
    all = take from words ++ (new ++ rest)

    first_long : length (take from words) ≡ from
    first_long = length-take-le from words (omega (arith, fits))

    all_long : length all ≡ length words
    all_long =
        length-append (take from words) (new ++ rest)
        ∙ omega (arith, first_long, length-append new rest, length-drop (from + length new) words, fits)

    long : length (arena.with_words words from new) ≡ length words
    long = length-take-le (length words) all (omega (arith, all_long))

    by_place : (i : ℕ) → i < length words → get_or (stored_words words from new) i 0 ≡ get_or (arena.with_words words from new) i 0
    by_place i lt =
        elim (cases_lt i from) [
          | inl before ↦
              stored_before words from new i before
              ∙ sym (get_or-take (length words) all i 0 lt
              ∙ get_or_append_left (take from words) (new ++ rest) 0 i (omega (arith, before, first_long))
              ∙ get_or-take from words i 0 before)
          | inr after ↦
              elim (cases_lt i (from + length new)) [
                | inl within ↦
                    ap (λ n. get_or (stored_words words from new) n 0) (let e : i ≡ from + (i - from) = omega (arith, after) in e)
                    ∙ stored_here words from new (i - from) (omega (arith, within, after)) fits
                    ∙ sym (get_or-take (length words) all i 0 lt
                    ∙ get_or-append_right (take from words) (new ++ rest) from i 0 first_long after
                    ∙ get_or_append_left new rest 0 (i - from) (omega (arith, within, after)))
                | inr past ↦
                    stored_after words from new i past
                    ∙ sym (get_or-take (length words) all i 0 lt
                    ∙ get_or-append_right (take from words) (new ++ rest) from i 0 first_long after
                    ∙ get_or-append_right new rest (length new) (i - from) 0 refl (omega (arith, past))
                    ∙ get_or-drop (from + length new) words (i - from - length new) 0
                    ∙ ap (λ n. get_or words n 0)
                    (let e : from + length new + (i - from - length new) ≡ i = omega (arith, past) in e))
              ]
        ]

-- ---- steps

module _ {F : Type 0} (layout : F → Layout) (line : ℕ) (place : Slot) (at : Address) where
  -- a write of a word changes no other word's number
  same_words : (h : HeapState F) (n value k : ℕ) → word_in_block (with_word h n value) at k ≡ word_in_block h at k
  same_words h n value k =
      ap (λ long. refuse_when (nat_le max_block_words k) refusal.BadIndex >> (refuse_when (nat_le long (word_of at + k)) refusal.BadIndex
      >> (refuse_when (not (is_block_over h.segs (at + bytes_of_word * k) at)) refusal.BadIndex >> Ok (word_of at + k))))
      (length-set h.segs.words n value)

  -- what the borrower of words of a block leaves in them is what a store of each leaves
  pub loan_is_right : (h : HeapState F) (entry : Entry Address) (k : ℕ) (new : List ℕ) → block_place_in h place ≡ Ok entry
      → block_in h entry ≡ Ok at → ((i : ℕ) → i < length new → word_in_block h at (k + i) ≡ Ok (word_of at + (k + i))) → (w : World)
      → StandsFor layout h w
      → AreRight layout w (stores line place k new) (with_words h (stored_words h.segs.words (word_of at + k) new))
  loan_is_right h entry k [] place_is block_is each w st = record { legal = tt; stands = st }
  loan_is_right h entry k (x ∷ xs) place_is block_is each w st =
      let n = word_of at + k in
      let here : word_in_block h at k ≡ Ok n =
      subst (λ j. word_in_block h at j ≡ Ok (word_of at + j)) (let e : k + 0 ≡ k = omega arith in e) (each 0 (omega arith)) in
      let outcome : word_stored h place k x ≡ done (with_word h n x) =
      ap (λ r. r >>= (λ (into : Entry Address). block_in h into >>= (λ a. word_in_block h a k >>= (λ word. done
      (with_word h word x))))) place_is
      ∙ ap (λ r. r >>= (λ a. word_in_block h a k >>= (λ word. done (with_word h word x)))) block_is
      ∙ ap (λ r. r >>= (λ word. done (with_word h word x))) here in
      let first = store_is_right layout h place k x (Ok tt) (with_word h n x) (record {
        answer = ap (λ o. answered o) (sym outcome);
        state = ap (λ o. state_from h o) (sym outcome);
      }) w line st in
      let rest = loan_is_right (with_word h n x) entry (k + 1) xs place_is block_is (λ i low.
      same_words h n x (k + 1 + i)
      ∙ subst (λ j. word_in_block h at j ≡ Ok (word_of at + j)) (let e : k + suc i ≡ k + 1 + i = omega arith in e)
      (each (suc i) (omega (arith, low)))) _ first.stands in
      record {
        legal = (first.legal, rest.legal);
        stands =
            subst (λ m. StandsFor layout (with_words h (stored_words (slice_set h.segs.words n x) m xs)) (world_after_steps w
            (stores line place k (x ∷ xs)))) (let e : word_of at + (k + 1) ≡ word_of at + k + 1 = omega arith in e) rest.stands;
      }

-- a loan of all words of the block in a place: the borrower leaves as many
pub block_loan_is_right : {F : Type 0} (layout : F → Layout) (line : ℕ) (place : Slot) (at : Address) (h : HeapState F)
    (entry : Entry Address) (new : List ℕ) → block_place_in h place ≡ Ok entry → block_in h entry ≡ Ok at
    → Contains h.segs.blocks (record { from = word_of at; count = length new }) → (w : World) → StandsFor layout h w
    → AreRight layout w (stores line place 0 new) (with_words h (arena.with_words h.segs.words (word_of at) new))
block_loan_is_right layout line place at h entry new place_is block_is run w st =
    let borrowed = block_borrowed layout h w st.past st.parts (known_now st) place entry at place_is block_is in
    let count = borrowed.one (length new) run in
    let right = loan_is_right layout line place at h entry 0 new place_is block_is (λ i low.
    subst (λ j. word_in_block h at j ≡ Ok (word_of at + j)) (let e : i ≡ 0 + i = omega arith in e)
    (borrowed.each i (omega (arith, low, count)))) w st in
    let words : stored_words h.segs.words (word_of at + 0) new ≡ arena.with_words h.segs.words (word_of at) new =
    ap (λ n. stored_words h.segs.words n new) (let e : word_of at + 0 ≡ word_of at = omega arith in e)
    ∙ stored_is h.segs.words (word_of at) new (let within = borrowed.within in omega (arith, within, count)) in
    record {
      legal = right.legal;
      stands = subst (λ ws. StandsFor layout (with_words h ws) (world_after_steps w (stores line place 0 new))) words right.stands;
    }
