-- A transform that was applied to the references below a word.
use Rattle.std.proofs.Common.{ℕ, zero, suc, ◌+◌, ◌-◌, ◌<◌, ◌≤◌, ◌≡◌, ◌≢◌, ◌&&◌, Bool, true, false, cond, Option, Some, None, List, length, refl, sym, ap, ◌∙◌, inl, inr, arith}
use Rattle.std.specs.Prelude.{slice_index, slice_set}
use Rattle.std.specs.Option.{option_map_or}
use Rattle.std.proofs.lemmas.Bool.{cases_lt, cond-false, cond-true}
use Rattle.std.proofs.lemmas.List.{length-set, get_or-set_same, get_or-set_other}
use Rattle.mps_base.specs.Address.{Address, Grain, address_of_word}
use Rattle.mps_format.specs.Layout.{Layout}
use Rattle.mps_seg.specs.Segs.{SegsState}
use Rattle.mps_seg.specs.Collecting.{first_grain_over, noting_in}
use Rattle.mps_xform.specs.Applying.{replacement, after_replace, after_apply_below, word_after_apply, is_in_pool, is_reference_word}

-- segments and blocks stay, and there are as many words
pub record SameParts (s s' : SegsState) : Type 0 where
  pub segments : s'.segments ≡ s.segments
  pub blocks : s'.blocks ≡ s.blocks
  pub size : length s'.words ≡ length s.words

noted_parts : (s : SegsState) (o : Option Grain) (target : Address) → SameParts s (noting_in s o target)
noted_parts s None target = record { segments = refl; blocks = refl; size = refl }
noted_parts s (Some grain) target = record { segments = refl; blocks = refl; size = refl }

noted_words : (s : SegsState) (o : Option Grain) (target : Address) → (noting_in s o target).words ≡ s.words
noted_words s None target = refl
noted_words s (Some grain) target = refl

module _ (f : Layout) (word value : ℕ) where
  pub replaced_parts : (o : Option Address) (s : SegsState) → SameParts s (after_replace f word value o s)
  replaced_parts None s = record { segments = refl; blocks = refl; size = refl }
  replaced_parts (Some at) s =
      let t : SegsState = record s { words = slice_set s.words word (f.retarget value at) } in
      let p = noted_parts t (first_grain_over t (address_of_word word)) at in
      record { segments = p.segments; blocks = p.blocks; size = p.size ∙ length-set s.words word (f.retarget value at) }

  replaced_other : (o : Option Address) (s : SegsState) (i : ℕ) → i ≢ word
      → slice_index (after_replace f word value o s).words i ≡ slice_index s.words i
  replaced_other None s i other = refl
  replaced_other (Some at) s i other =
      let t : SegsState = record s { words = slice_set s.words word (f.retarget value at) } in
      ap (λ (ws : List ℕ). slice_index ws i) (noted_words t (first_grain_over t (address_of_word word)) at)
      ∙ get_or-set_other s.words word i (f.retarget value at) 0 other

  replaced_same : (o : Option Address) (s : SegsState) → word < length s.words
      → slice_index (after_replace f word value o s).words word ≡ option_map_or (λ at. f.retarget value at) o (slice_index s.words word)
  replaced_same None s within = refl
  replaced_same (Some at) s within =
      let t : SegsState = record s { words = slice_set s.words word (f.retarget value at) } in
      ap (λ (ws : List ℕ). slice_index ws word) (noted_words t (first_grain_over t (address_of_word word)) at)
      ∙ get_or-set_same s.words word (f.retarget value at) 0 within

module _ (f : Layout) (to : Address → Option Address) (s : SegsState) (pool : ℕ) where
  pub parts_below : (n : ℕ) → SameParts s (after_apply_below f to s pool n)
  parts_below zero = record { segments = refl; blocks = refl; size = refl }
  parts_below (suc n) =
      let before = parts_below n in
      let here = replaced_parts f n (slice_index s.words n) (replacement f to s pool n) (after_apply_below f to s pool n) in
      record { segments = here.segments ∙ before.segments; blocks = here.blocks ∙ before.blocks; size = here.size ∙ before.size }

  -- the words from one on are as they were
  pub words_above : (n i : ℕ) → n ≤ i → slice_index (after_apply_below f to s pool n).words i ≡ slice_index s.words i
  words_above zero i above = refl
  words_above (suc n) i above =
      replaced_other f n (slice_index s.words n) (replacement f to s pool n) (after_apply_below f to s pool n) i
      (λ same. omega (arith, above, same))
      ∙ words_above n i (omega (arith, above))

  -- each word below is as it is after all
  pub words_below : (n i : ℕ) → i < n → n ≤ length s.words
      → slice_index (after_apply_below f to s pool n).words i ≡ word_after_apply f to s pool i
  words_below zero i below within = absurd (omega (arith, below))
  words_below (suc n) i below within =
      let t = after_apply_below f to s pool n in
      let value = slice_index s.words n in
      elim (cases_lt i n) [
        | inl earlier ↦
            replaced_other f n value (replacement f to s pool n) t i (λ same. omega (arith, earlier, same))
            ∙ words_below n i earlier (omega (arith, within))
        | inr last ↦
            let same : i ≡ n = omega (arith, below, last) in
            ap (λ (j : ℕ). slice_index (after_apply_below f to s pool (suc n)).words j) same
            ∙ replaced_same f n value (replacement f to s pool n) t (omega (arith, within, (parts_below n).size))
            ∙ ap (λ (w : ℕ). option_map_or (λ at. f.retarget value at) (replacement f to s pool n) w) (words_above n n (omega arith))
            ∙ ap (λ (j : ℕ). word_after_apply f to s pool j) (sym same)
      ]

  -- words without a replacement are passed over
  pub passed : (n k : ℕ) → ((i : ℕ) → n ≤ i → i < n + k → replacement f to s pool i ≡ None)
      → after_apply_below f to s pool (n + k) ≡ after_apply_below f to s pool n
  passed n zero none = ap (λ (m : ℕ). after_apply_below f to s pool m) (let e : n + 0 ≡ n = omega arith in e)
  passed n (suc k) none =
      let t = after_apply_below f to s pool (n + k) in
      ap (λ (m : ℕ). after_apply_below f to s pool m) (let e : n + suc k ≡ suc (n + k) = omega arith in e)
      ∙ ap (λ (o : Option Address). after_replace f (n + k) (slice_index s.words (n + k)) o t) (none (n + k) (omega arith) (omega arith))
      ∙ passed n k (λ i above below. none i above (omega (arith, below)))

  pub passed_to : (n m : ℕ) → n ≤ m → ((i : ℕ) → n ≤ i → i < m → replacement f to s pool i ≡ None)
      → after_apply_below f to s pool m ≡ after_apply_below f to s pool n
  passed_to n m above none =
      let e : n + (m - n) ≡ m = omega (arith, above) in
      ap (λ (j : ℕ). after_apply_below f to s pool j) (sym e)
      ∙ passed n (m - n) (λ i over below. none i over (omega (arith, below, e)))

  -- no word of another pool has a replacement, and none that is no reference
  pub none_elsewhere : (i : ℕ) → is_in_pool s pool i ≡ false → replacement f to s pool i ≡ None
  none_elsewhere i other =
      ap (λ (b : Bool). cond (b && is_reference_word f s i) (to (f.target (slice_index s.words i))) None) other

  pub none_of_numbers : (i : ℕ) → is_reference_word f s i ≡ false → replacement f to s pool i ≡ None
  none_of_numbers i number = by_pool (is_in_pool s pool i)
    where
      by_pool : (b : Bool) → cond (b && is_reference_word f s i) (to (f.target (slice_index s.words i))) None ≡ None
      by_pool false = refl
      by_pool true = cond-false (is_reference_word f s i) (to (f.target (slice_index s.words i))) None number

  pub of_reference : (i : ℕ) → is_in_pool s pool i ≡ true → is_reference_word f s i ≡ true
      → replacement f to s pool i ≡ to (f.target (slice_index s.words i))
  of_reference i inside reference =
      ap (λ (b : Bool). cond (b && is_reference_word f s i) (to (f.target (slice_index s.words i))) None) inside
      ∙ cond-true (is_reference_word f s i) (to (f.target (slice_index s.words i))) None reference

-- two ways to give the new addresses that agree make the same
module _ (f : Layout) (to to' : Address → Option Address) (same : (at : Address) → to at ≡ to' at) (s : SegsState) (pool : ℕ) where
  replacement_same : (i : ℕ) → replacement f to s pool i ≡ replacement f to' s pool i
  replacement_same i =
      ap (λ (o : Option Address). cond (is_in_pool s pool i && is_reference_word f s i) o None) (same (f.target (slice_index s.words i)))

  pub below_same : (n : ℕ) → after_apply_below f to s pool n ≡ after_apply_below f to' s pool n
  below_same zero = refl
  below_same (suc n) =
      ap (λ (t : SegsState). after_replace f n (slice_index s.words n) (replacement f to s pool n) t) (below_same n)
      ∙ ap (λ (o : Option Address). after_replace f n (slice_index s.words n) o (after_apply_below f to' s pool n)) (replacement_same n)
