-- Words of which a prefix is stored: read, written, cleared and copied through the stored ones.
use Rattle.std.proofs.Common.{refl, ℕ, max, ◌+◌, ◌-◌, ◌<◌, ◌≤◌, ◌≡◌, ◌⊎◌, min, List, [], ◌++◌, length, get_or, set, take, drop, replicate, sym, ap, ◌∙◌, inl, inr, arith, append_assoc, length-append, length-drop}
use Rattle.std.proofs.lemmas.Bool.{cases_lt}
use Rattle.std.proofs.lemmas.List.{append-nil, drop-append-le, ext_get_or, get_or-append_right, get_or-drop, get_or-replicate, get_or-take, get_or_append_left, get_or_past, length-replicate, length-set, length-take, replicate-append-replicate, set-append_left, take-append-le, take_all}
use Rattle.std.proofs.lemmas.List.Edits.{length-paste}
use Rattle.std.proofs.Math.Seq.{length_paste_head}
use Rattle.std.proofs.lemmas.Option.{slice_get-get_or, slice_get_past}
use Rattle.std.specs.Prelude.{Some, None, slice_get, Vec, vec_len}
use Rattle.mps_arena.specs.Arena.{cleared_words, copied_words, with_words}
use Rattle.mps_arena.proofs.Loans.{with_words_long, written_before, written_inside, written_after}
use Rattle.mps_arena.specs.Memory.{StoredWords, memory_with, padded_words, with_copy, with_stored_word}

-- a word of zeros is 0, and so is one after them
zeros_at : (n i : ℕ) → get_or (replicate {A = ℕ} n 0) i 0 ≡ 0
zeros_at n i =
    elim (cases_lt i n) [
      | inl within ↦ get_or-replicate n i 0 0 within
      | inr past ↦ get_or_past (replicate n 0) i 0 (omega (arith, length-replicate {A = ℕ} n 0, past))
    ]

pub padded_none : (size : ℕ) → padded_words size [] ≡ replicate size 0
unfolding padded_words
padded_none size = ap (λ (n : ℕ). replicate n 0) (let e : size - 0 ≡ size = omega arith in e)

pub padded_all : (size : ℕ) (stored : List ℕ) → length stored ≡ size → padded_words size stored ≡ stored
unfolding padded_words
padded_all size stored all =
    ap (λ (n : ℕ). stored ++ replicate n 0) (let e : size - length stored ≡ 0 = omega (arith, all) in e) ∙ append-nil stored

pub padded_words-length : (size : ℕ) (stored : List ℕ) → length stored ≤ size → length (padded_words size stored) ≡ size
unfolding padded_words
padded_words-length size stored fits =
    omega (
      arith,
      length-append stored (replicate (size - length stored) 0),
      length-replicate {A = ℕ} (size - length stored) 0,
      fits,
    )

pub padded_within : (size : ℕ) (stored : List ℕ) (i : ℕ) → i < length stored → get_or (padded_words size stored) i 0 ≡ get_or stored i 0
unfolding padded_words
padded_within size stored i within = get_or_append_left stored (replicate (size - length stored) 0) 0 i within

pub padded_past : (size : ℕ) (stored : List ℕ) (i : ℕ) → length stored ≤ i → get_or (padded_words size stored) i 0 ≡ 0
unfolding padded_words
padded_past size stored i past =
    get_or-append_right stored (replicate (size - length stored) 0) (length stored) i 0 refl past
    ∙ zeros_at (size - length stored) (i - length stored)

-- more words are stored
pub padded_grown : (size end : ℕ) (stored : List ℕ) → length stored ≤ end → end ≤ size
    → padded_words size (stored ++ replicate (end - length stored) 0) ≡ padded_words size stored
unfolding padded_words
padded_grown size end stored more fits =
    let n = end - length stored in
    let long : length (stored ++ replicate n 0) ≡ end =
    omega (arith, length-append stored (replicate n 0), length-replicate {A = ℕ} n 0, more)
    in
    let rest : n + (size - length (stored ++ replicate n 0)) ≡ size - length stored = omega (arith, long, more, fits) in
    append_assoc stored (replicate n 0) (replicate (size - length (stored ++ replicate n 0)) 0)
    ∙ ap (λ (zeros : List ℕ). stored ++ zeros) (replicate-append-replicate n (size - length (stored ++ replicate n 0)) 0)
    ∙ ap (λ (k : ℕ). stored ++ replicate k 0) rest

pub padded_set : (size : ℕ) (stored : List ℕ) (i x : ℕ) → i < length stored
    → set (padded_words size stored) i x ≡ padded_words size (set stored i x)
unfolding padded_words
padded_set size stored i x within =
    set-append_left stored (replicate (size - length stored) 0) i x within
    ∙ ap (λ (n : ℕ). set stored i x ++ replicate (size - n) 0) (sym (length-set stored i x))

-- a word, if there is one
pub padded_item : (size : ℕ) (stored : List ℕ) (i : ℕ) → length stored ≤ size → i < size
    → slice_get (padded_words size stored) i ≡ Some (get_or (padded_words size stored) i 0)
padded_item size stored i fits within =
    slice_get-get_or (padded_words size stored) i 0 (omega (arith, padded_words-length size stored fits, within))

pub padded_no_item : (size : ℕ) (stored : List ℕ) (i : ℕ) → length stored ≤ size → size ≤ i → slice_get (padded_words size stored) i ≡ None
padded_no_item size stored i fits past =
    slice_get_past (padded_words size stored) i (omega (arith, padded_words-length size stored fits, past))

-- ---- slices

pub padded_drop : (size : ℕ) (stored : List ℕ) (from : ℕ) → from ≤ length stored
    → drop from (padded_words size stored) ≡ drop from stored ++ replicate (size - length stored) 0
unfolding padded_words
padded_drop size stored from within = drop-append-le from stored (replicate (size - length stored) 0) within

pub padded_part : (size : ℕ) (stored : List ℕ) (from n : ℕ) → from + n ≤ length stored
    → take n (drop from (padded_words size stored)) ≡ take n (drop from stored)
padded_part size stored from n within =
    ap (λ (ws : List ℕ). take n ws) (padded_drop size stored from (omega (arith, within)))
    ∙ take-append-le n (drop from stored) (replicate (size - length stored) 0) (omega (arith, length-drop from stored, within))

-- the part that a slice from a word on gives
abbrev pub tail_of : List ℕ → ℕ → List ℕ
tail_of words from = take (length words - from) (drop from words)

pub padded_tail : (size : ℕ) (stored : List ℕ) (from : ℕ) → from ≤ length stored
    → tail_of stored from ≡ take (length (tail_of stored from)) (drop from (padded_words size stored))
padded_tail size stored from within =
    let n = length stored - from in
    sym (
    ap (λ (k : ℕ). take k (drop from (padded_words size stored)))
    (let e : length (tail_of stored from) ≡ n = omega (arith, length-take n (drop from stored), length-drop from stored) in e)
    ∙ padded_part size stored from n (omega (arith, within))
    )

-- ---- words are copied and cleared

pub padded_copied : (size : ℕ) (stored : List ℕ) (from to n : ℕ) → from + n ≤ length stored → to + n ≤ length stored
    → copied_words (padded_words size stored) from to n ≡ padded_words size (copied_words stored from to n)
unfolding padded_words
padded_copied size stored from to n from_in to_in =
    let zeros : List ℕ = replicate (size - length stored) 0 in
    let source : n ≤ length (drop from stored) = omega (arith, length-drop from stored, from_in) in
    let long = length-paste stored to (drop from stored) n to_in source in
    ap (λ (ws : List ℕ). ws ++ take n (drop from (stored ++ zeros)) ++ drop (to + n) (stored ++ zeros))
    (take-append-le to stored zeros (omega (arith, to_in)))
    ∙ ap (λ (ws : List ℕ). take to stored ++ ws ++ drop (to + n) (stored ++ zeros))
    (ap (λ (ws : List ℕ). take n ws) (drop-append-le from stored zeros (omega (arith, from_in)))
    ∙ take-append-le n (drop from stored) zeros source)
    ∙ ap (λ (ws : List ℕ). take to stored ++ take n (drop from stored) ++ ws) (drop-append-le (to + n) stored zeros to_in)
    ∙ sym (append_assoc (take to stored ++ take n (drop from stored)) (drop (to + n) stored) zeros)
    ∙ ap (λ (k : ℕ). copied_words stored from to n ++ replicate (size - k) 0) (sym long)

pub copied_long : (words : List ℕ) (from to n : ℕ) → from + n ≤ length words → to + n ≤ length words
    → length (copied_words words from to n) ≡ length words
copied_long words from to n from_in to_in =
    length-paste words to (drop from words) n to_in (omega (arith, length-drop from words, from_in))

module _ (words : List ℕ) (from n : ℕ) (fits : from + n ≤ length words) where
  some_zeros : length (replicate {A = ℕ} n 0) ≡ n
  some_zeros = length-replicate {A = ℕ} n 0

  head_long : length (take from words ++ take n (replicate n 0)) ≡ from + n
  head_long = length_paste_head words from (replicate n 0) n (omega (arith, fits)) (omega (arith, some_zeros))

  prefix_long : length (take from words) ≡ from
  prefix_long = omega (arith, length-take from words, fits)

  pub cleared_long : length (cleared_words words from n) ≡ length words
  cleared_long = length-paste words from (replicate n 0) n fits (omega (arith, some_zeros))

  pub cleared_inside : (i : ℕ) → from ≤ i → i < from + n → get_or (cleared_words words from n) i 0 ≡ 0
  cleared_inside i above below =
      get_or_append_left (take from words ++ take n (replicate n 0)) (drop (from + n) words) 0 i (omega (arith, head_long, below))
      ∙ get_or-append_right (take from words) (take n (replicate n 0)) from i 0 prefix_long above
      ∙ get_or-take n (replicate n 0) (i - from) 0 (omega (arith, above, below))
      ∙ zeros_at n (i - from)

  pub cleared_outside : (i : ℕ) → (i < from) ⊎ (from + n ≤ i) → get_or (cleared_words words from n) i 0 ≡ get_or words i 0
  cleared_outside i (inl below) =
      get_or_append_left (take from words ++ take n (replicate n 0)) (drop (from + n) words) 0 i (omega (arith, head_long, below))
      ∙ get_or_append_left (take from words) (take n (replicate n 0)) 0 i (omega (arith, prefix_long, below))
      ∙ get_or-take from words i 0 below
  cleared_outside i (inr above) =
      get_or-append_right (take from words ++ take n (replicate n 0)) (drop (from + n) words) (from + n) i 0 head_long above
      ∙ get_or-drop (from + n) words (i - (from + n)) 0
      ∙ ap (λ (j : ℕ). get_or words j 0) (let e : from + n + (i - (from + n)) ≡ i = omega (arith, above) in e)

-- the words that aren't stored are 0 already
pub padded_cleared : (size : ℕ) (stored : List ℕ) (from n m : ℕ) → length stored ≤ size → from + n ≤ size
    → from + m ≡ min (from + n) (length stored)
    → cleared_words (padded_words size stored) from n ≡ padded_words size (cleared_words stored from m)
padded_cleared size stored from n m fits within ends =
    ext_get_or 0 (cleared_words (padded_words size stored) from n) (padded_words size (cleared_words stored from m))
    (omega (
      arith,
      cleared_long (padded_words size stored) from n all_fits,
      all,
      padded_words-length size (cleared_words stored from m) few,
      few,
    ))
    (λ i inside. alike i)
  where
    all : length (padded_words size stored) ≡ size
    all = padded_words-length size stored fits

    all_fits : from + n ≤ length (padded_words size stored)
    all_fits = omega (arith, all, within)

    some_fit : from + m ≤ length stored
    some_fit = omega (arith, ends)

    same : length (cleared_words stored from m) ≡ length stored
    same = cleared_long stored from m some_fit

    few : length (cleared_words stored from m) ≤ size
    few = omega (arith, same, fits)

    left_at : (i : ℕ) → ((from ≤ i) × (i < from + n)) ⊎ ((i < from) ⊎ (from + n ≤ i))
    left_at i =
        elim (cases_lt i from) [
          | inl below ↦ inr (inl below)
          | inr above ↦ elim (cases_lt i (from + n)) [ inl inside ↦ inl (above, inside) | inr past ↦ inr (inr past) ]
        ]

    zero_right : (i : ℕ) → from ≤ i → i < from + n → get_or (padded_words size (cleared_words stored from m)) i 0 ≡ 0
    zero_right i above below =
        elim (cases_lt i (length stored)) [
          | inl inside ↦
              padded_within size (cleared_words stored from m) i (omega (arith, same, inside))
              ∙ cleared_inside stored from m some_fit i above (omega (arith, ends, below, inside))
          | inr past ↦ padded_past size (cleared_words stored from m) i (omega (arith, same, past))
        ]

    same_right : (i : ℕ) → (i < from) ⊎ (from + n ≤ i)
        → get_or (padded_words size (cleared_words stored from m)) i 0 ≡ get_or (padded_words size stored) i 0
    same_right i apart =
        elim (cases_lt i (length stored)) [
          | inl inside ↦
              padded_within size (cleared_words stored from m) i (omega (arith, same, inside))
              ∙ cleared_outside stored from m some_fit i (elim apart [
                | inl below ↦ inl below
                | inr above ↦ inr (omega (arith, ends, above))
              ])
              ∙ sym (padded_within size stored i inside)
          | inr past ↦
              padded_past size (cleared_words stored from m) i (omega (arith, same, past)) ∙ sym (padded_past size stored i past)
        ]

    alike : (i : ℕ) → get_or (cleared_words (padded_words size stored) from n) i 0
        ≡ get_or (padded_words size (cleared_words stored from m)) i 0
    alike i =
        elim (left_at i) [
          | inl inside ↦
              cleared_inside (padded_words size stored) from n all_fits i inside.0 inside.1 ∙ sym (zero_right i inside.0 inside.1)
          | inr apart ↦ cleared_outside (padded_words size stored) from n all_fits i apart ∙ sym (same_right i apart)
        ]

-- where nothing to be cleared is stored
pub padded_clear : (size : ℕ) (stored : List ℕ) (from n : ℕ) → length stored ≤ size → from + n ≤ size
    → min (from + n) (length stored) ≤ from
    → cleared_words (padded_words size stored) from n ≡ padded_words size stored
padded_clear size stored from n fits within none =
    ext_get_or 0 (cleared_words (padded_words size stored) from n) (padded_words size stored)
    (cleared_long (padded_words size stored) from n all_fits)
    (λ i inside. alike i)
  where
    all_fits : from + n ≤ length (padded_words size stored)
    all_fits = omega (arith, padded_words-length size stored fits, within)

    alike : (i : ℕ) → get_or (cleared_words (padded_words size stored) from n) i 0 ≡ get_or (padded_words size stored) i 0
    alike i =
        elim (cases_lt i from) [
          | inl below ↦ cleared_outside (padded_words size stored) from n all_fits i (inl below)
          | inr above ↦ elim (cases_lt i (from + n)) [
            | inl inside ↦
                cleared_inside (padded_words size stored) from n all_fits i above inside
                ∙ sym (padded_past size stored i (omega (arith, none, above, inside)))
            | inr past ↦ cleared_outside (padded_words size stored) from n all_fits i (inr past)
          ]
        ]

-- ---- what a caller sees

abbrev seen : List ℕ → ℕ → StoredWords
seen words stored = record { words = words; stored = stored }

pub state_new : (size : ℕ) (stored : List ℕ) → stored ≡ [] → memory_with size stored ≡ record { words = replicate size 0; stored = 0 }
state_new size stored none =
    ap (λ (ws : List ℕ). memory_with size ws) none ∙ ap (λ (ws : List ℕ). seen ws 0) (padded_none size)

pub state_grown : (size end : ℕ) (stored new : List ℕ) → length stored < end → end ≤ size
    → new ≡ take end stored ++ replicate (end - length stored) 0
    → memory_with size new ≡ record (memory_with size stored) { stored = max (length stored) end }
state_grown size end stored new more fits is =
    let grown : new ≡ stored ++ replicate (end - length stored) 0 =
    is ∙ ap (λ (ws : List ℕ). ws ++ replicate (end - length stored) 0) (take_all end stored (omega (arith, more)))
    in
    let long : length new ≡ max (length stored) end =
    omega (
      arith,
      ap (λ (ws : List ℕ). length ws) grown,
      length-append stored (replicate (end - length stored) 0),
      length-replicate {A = ℕ} (end - length stored) 0,
      more,
    )
    in
    ap (λ (n : ℕ). seen (padded_words size new) n) long
    ∙ ap (λ (ws : List ℕ). seen (padded_words size ws) (max (length stored) end)) grown
    ∙ ap (λ (ws : List ℕ). seen ws (max (length stored) end)) (padded_grown size end stored (omega (arith, more)) fits)

pub state_set : (size : ℕ) (stored : List ℕ) (i x : ℕ) → i < length stored
    → memory_with size (set stored i x) ≡ with_stored_word (memory_with size stored) i x
state_set size stored i x within =
    ap (λ (n : ℕ). seen (padded_words size (set stored i x)) n)
    (let e : length (set stored i x) ≡ max (length stored) (i + 1) = omega (arith, length-set stored i x, within) in e)
    ∙ ap (λ (ws : List ℕ). seen ws (max (length stored) (i + 1))) (sym (padded_set size stored i x within))

-- a word that is stored already
pub state_set_stored : (size : ℕ) (stored : List ℕ) (i x : ℕ) → i < length stored
    → memory_with size (set stored i x) ≡ seen (set (padded_words size stored) i x) (length stored)
state_set_stored size stored i x within =
    ap (λ (n : ℕ). seen (padded_words size (set stored i x)) n) (length-set stored i x)
    ∙ ap (λ (ws : List ℕ). seen ws (length stored)) (sym (padded_set size stored i x within))

pub state_copied : (size : ℕ) (stored : List ℕ) (from to n : ℕ) → from + n ≤ length stored → to + n ≤ length stored
    → memory_with size (copied_words stored from to n) ≡ with_copy (memory_with size stored) from to n
state_copied size stored from to n from_in to_in =
    ap (λ (k : ℕ). seen (padded_words size (copied_words stored from to n)) k)
    (
    let source : n ≤ length (drop from stored) = omega (arith, length-drop from stored, from_in) in
    let long = length-paste stored to (drop from stored) n to_in source in
    let e : length (copied_words stored from to n) ≡ max (length stored) (max from to + n) =
    omega (arith, long, from_in, to_in)
    in
    e
    )
    ∙ ap (λ (ws : List ℕ). seen ws (max (length stored) (max from to + n))) (sym (padded_copied size stored from to n from_in to_in))

-- the same, of words that are stored already
pub state_copied_stored : (size : ℕ) (stored : List ℕ) (from to n : ℕ) → from + n ≤ length stored → to + n ≤ length stored
    → memory_with size (copied_words stored from to n)
    ≡ record (memory_with size stored) { words = copied_words (padded_words size stored) from to n }
state_copied_stored size stored from to n from_in to_in =
    state_copied size stored from to n from_in to_in
    ∙ ap (λ (k : ℕ). seen (copied_words (padded_words size stored) from to n) k)
    (let e : max (length stored) (max from to + n) ≡ length stored = omega (arith, from_in, to_in) in e)

pub state_cleared : (size : ℕ) (stored : List ℕ) (from n m : ℕ) → length stored ≤ size → from + n ≤ size
    → from + m ≡ min (length stored) (from + n)
    → memory_with size (cleared_words stored from m)
    ≡ record (memory_with size stored) { words = cleared_words (padded_words size stored) from n }
state_cleared size stored from n m fits within ends =
    ap (λ (k : ℕ). seen (padded_words size (cleared_words stored from m)) k) (cleared_long stored from m (omega (arith, ends)))
    ∙ ap (λ (ws : List ℕ). seen ws (length stored))
    (sym (padded_cleared size stored from n m fits within (omega (arith, ends))))

pub state_clear : (size : ℕ) (stored : List ℕ) (from n : ℕ) → length stored ≤ size → from + n ≤ size
    → min (length stored) (from + n) ≤ from
    → memory_with size stored ≡ record (memory_with size stored) { words = cleared_words (padded_words size stored) from n }
state_clear size stored from n fits within none =
    ap (λ (ws : List ℕ). seen ws (length stored)) (sym (padded_clear size stored from n fits within (omega (arith, none))))

-- at most all words are stored, and the caller sees all of them
pub record Sizes (size : ℕ) (stored : List ℕ) (memory : StoredWords) : Type 0 where
  pub few : length stored ≤ size
  pub all : length memory.words ≡ size

pub sizes_of : {Z : Type 0} (size : ℕ) (stored : Vec ℕ Z) (memory : StoredWords) → memory_with size stored.items ≡ memory
    → vec_len stored ≤ size → Sizes size stored.items memory
sizes_of size stored memory is fits =
    let few : length stored.items ≤ size = omega (arith, fits, stored.ok.0) in
    record {
      few = few;
      all = ap (λ (m : StoredWords). length m.words) (sym is) ∙ padded_words-length size stored.items few;
    }

-- each word is stored, and the caller sees these words
pub record AreAllStored (size : ℕ) (stored words : List ℕ) : Type 0 where
  pub all : length stored ≡ size
  pub seen : length words ≡ size
  pub same : padded_words size stored ≡ words

-- after as many words were stored as there are
pub all_grown : {Z : Type 0} (size before : ℕ) (stored : Vec ℕ Z) (old : StoredWords) → length old.words ≡ before
    → memory_with size stored.items ≡ record old { stored = max old.stored (0 + before) } → vec_len stored ≤ size
    → AreAllStored size stored.items old.words
all_grown size before stored old first grown fits =
    let again = sizes_of size stored (record old { stored = max old.stored (0 + before) }) grown fits in
    let long = ap (λ (m : StoredWords). m.stored) grown in
    record {
      all = omega (arith, long, first, again.all, again.few);
      seen = again.all;
      same = ap (λ (m : StoredWords). m.words) grown;
    }

-- ---- after all words were stored and some of them were borrowed

pub state_borrowed : (size : ℕ) (stored words new : List ℕ) (from : ℕ) → length stored ≡ size → padded_words size stored ≡ words
    → memory_with size (with_words stored from new) ≡ record { words = with_words words from new; stored = length words }
state_borrowed size stored words new from all is =
    let same : stored ≡ words = sym (padded_all size stored all) ∙ is in
    let long = with_words_long stored new from in
    ap (λ (n : ℕ). seen (padded_words size (with_words stored from new)) n) (long ∙ ap (λ (ws : List ℕ). length ws) same)
    ∙ ap (λ (ws : List ℕ). seen ws (length words)) (padded_all size (with_words stored from new) (long ∙ all))
    ∙ ap (λ (ws : List ℕ). seen (with_words ws from new) (length words)) same

-- ---- after the stored words from one on were borrowed

module _ (size : ℕ) (stored : List ℕ) (from m : ℕ) (fits : length stored ≤ size) (all : from + m ≡ length stored) (new : List ℕ) where
  abbrev pub whole : List ℕ
  whole = padded_words size stored

  whole_long : length whole ≡ size
  whole_long = padded_words-length size stored fits

  part_long : length (take m new) ≡ min m (length new)
  part_long = length-take m new

  after_long : length (with_words stored from new) ≡ length stored
  after_long = with_words_long stored new from

  at_place : (i : ℕ) → i < size
      → get_or (padded_words size (with_words stored from new)) i 0 ≡ get_or (with_words whole from (take m new)) i 0
  at_place i lt =
      elim (cases_lt i (length stored)) [
        | inl within ↦ padded_within size (with_words stored from new) i (omega (arith, within, after_long)) ∙ elim (cases_lt i from) [
          | inl before ↦
              written_before stored new from (omega (arith, all)) i before
              ∙ sym (written_before whole (take m new) from (omega (arith, all, fits, whole_long)) i before
              ∙ padded_within size stored i within)
          | inr after ↦ elim (cases_lt i (from + length new)) [
            | inl there ↦
                written_inside stored new from (omega (arith, all)) i after there within
                ∙ sym (written_inside whole (take m new) from (omega (arith, all, fits, whole_long)) i after
                (omega (arith, part_long, there, within, all, after)) (omega (arith, lt, whole_long))
                ∙ get_or-take m new (i - from) 0 (omega (arith, within, all, after)))
            | inr past ↦
                written_after stored new from (omega (arith, all)) i past within
                ∙ sym (written_after whole (take m new) from (omega (arith, all, fits, whole_long)) i
                (omega (arith, part_long, past)) (omega (arith, lt, whole_long)) ∙ padded_within size stored i within)
          ]
        ]
        | inr past ↦
            padded_past size (with_words stored from new) i (omega (arith, past, after_long))
            ∙ sym (written_after whole (take m new) from (omega (arith, all, fits, whole_long)) i
            (omega (arith, part_long, past, all)) (omega (arith, lt, whole_long)) ∙ padded_past size stored i past)
      ]

  pub state_borrowed_rest : memory_with size (with_words stored from new)
      ≡ record (memory_with size stored) { words = with_words whole from (take m new) }
  state_borrowed_rest =
      ap (λ (n : ℕ). seen (padded_words size (with_words stored from new)) n) after_long
      ∙ ap (λ (ws : List ℕ). seen ws (length stored))
      (ext_get_or 0 (padded_words size (with_words stored from new)) (with_words whole from (take m new))
      (long ∙ sym (with_words_long whole (take m new) from ∙ whole_long))
      (λ i lt. at_place i (omega (arith, lt, long))))
    where
      long : length (padded_words size (with_words stored from new)) ≡ size
      long = padded_words-length size (with_words stored from new) (omega (arith, after_long, fits))
