-- The run over a number: where it begins, and what it is after a run is put or taken out.
use Rattle.std.proofs.Common.{ℕ, ◌+◌, ◌-◌, ◌<◌, ◌≡◌, Bool, true, false, List, [], ◌∷◌, length, Contains, refl, sym, ap, ◌∙◌, subst, inl, inr, arith, ◌≤◌, cond, Option, Some, None}
use Rattle.std.proofs.lemmas.Bool.{cases_lt, both_ways, false_from_ne_true, cases_Bool, cond-true, cond-false, cases_eq}
use Rattle.mps_base.proofs.Runs.{with_run_first, with_run_later, without_run_first, without_run_later, contains_cases, contains_first, contains_later, contained_bounds}
use Rattle.mps_base.specs.Run.{Run, IsAscending, with_run, without_run, end_of}
use Rattle.mps_bits.proofs.Searches.{highest_found, highest_missing}
use Rattle.mps_bits.specs.Table.{bit, next_set, previous_set}
use Rattle.mps_extents.specs.Extents.{is_covered, has_word, run_over}
use Rattle.mps_extents.specs.declared.extents.Extents.TheInside.{Inside}
use Rattle.mps_extents.specs.Inside.{length_at, extents, AreSoundTables}
use Rattle.mps_extents.proofs.ApartRuns.{apart_each, has_word-true, has_word-parts, has_word-below, has_word-above, covers_contained, uncovered_taken}
use Rattle.mps_extents.proofs.EitherBits.{begins_of}
use Rattle.mps_extents.proofs.ExtentLengths.{next_last, last_of}
use Rattle.mps_extents.proofs.ExtentBits.{extent_at, begin_of, among_all}

pub run_over_none : (rs : List Run) (word : ℕ) → ((r : Run) → Contains rs r → has_word r word ≡ false) → run_over rs word ≡ None
run_over_none [] word none = refl
run_over_none (r ∷ rs) word none =
    cond-false (has_word r word) (Some r.from) (run_over rs word) (none r (contains_first rs r))
    ∙ run_over_none rs word (λ s there. none s (contains_later rs s r there))

pub run_over_is : (rs : List Run) (word : ℕ) (r : Run) → Contains rs r → has_word r word ≡ true
    → ((s : Run) → Contains rs s → has_word s word ≡ true → s.from ≡ r.from) → run_over rs word ≡ Some r.from
run_over_is [] word r (k, within, is) has one = absurd (omega arith)
run_over_is (s ∷ rs) word r there has one =
    elim (cases_Bool (has_word s word)) [
      | inl here ↦
          cond-true (has_word s word) (Some s.from) (run_over rs word) here
          ∙ ap (λ (n : ℕ). Some n) (one s (contains_first rs s) here)
      | inr not_here ↦
          elim (contains_cases rs r s there) [
            | inl same ↦ absurd (both_ways (has_word s word) not_here (ap (λ (x : Run). has_word x word) same ∙ has))
            | inr later ↦
                cond-false (has_word s word) (Some s.from) (run_over rs word) not_here
                ∙ run_over_is rs word r later has (λ t in_rest has_t. one t (contains_later rs t s in_rest) has_t)
          ]
    ]

-- a run over a word begins at or below it
pub run_over-le : (rs : List Run) (word at : ℕ) → run_over rs word ≡ Some at → at ≤ word
run_over-le [] word at is = let never : None ≡ Some at = is in cc
run_over-le (r ∷ rs) word at is =
    elim (cases_Bool (has_word r word)) [
      | inl here ↦
          let both : Some r.from ≡ Some at = sym (cond-true (has_word r word) (Some r.from) (run_over rs word) here) ∙ is in
          let same : r.from ≡ at = cc in
          omega (arith, same, (has_word-parts r word here).0)
      | inr not_here ↦ run_over-le rs word at (sym (cond-false (has_word r word) (Some r.from) (run_over rs word) not_here) ∙ is)
    ]

-- a run over a word is one of the runs
pub run_over-contains : (rs : List Run) (word at : ℕ) → run_over rs word ≡ Some at
    → (n : ℕ) × Contains rs (record { from = at; count = n })
run_over-contains [] word at is = let never : None ≡ Some at = is in cc
run_over-contains (r ∷ rs) word at is =
    elim (cases_Bool (has_word r word)) [
      | inl here ↦
          let both : Some r.from ≡ Some at = sym (cond-true (has_word r word) (Some r.from) (run_over rs word) here) ∙ is in
          let same : r.from ≡ at = cc in
          let P : ℕ → Type 0 = λ a. Contains (r ∷ rs) (record { from = a; count = r.count }) in
          (r.count, subst P same (contains_first rs r))
      | inr not_here ↦
          let later = run_over-contains rs word at (sym (cond-false (has_word r word) (Some r.from) (run_over rs word) not_here) ∙ is) in
          (later.0, contains_later rs (record { from = at; count = later.0 }) r later.1)
    ]

pub run_over_in : (low high : ℕ) (rs : List Run) (r : Run) (n : ℕ) → IsAscending low high rs → Contains rs r → r.from ≤ n → n < end_of r
    → run_over rs n ≡ Some r.from
run_over_in low high rs r n ascending there above below =
    run_over_is rs n r there (has_word-true r n above below) (λ s there' has.
    elim (cases_eq s.from r.from) [
      | inl same ↦ same
      | inr other ↦ elim (apart_each low high rs s r ascending there' there) [
        | inl same ↦ same
        | inr apart ↦
            let never : has_word s n ≡ false =
            elim apart [
              | inl after ↦ has_word-above s n (omega (arith, after, above))
              | inr before ↦ has_word-below s n
                  (omega (arith, before, below))
            ]
            in
            absurd (both_ways (has_word s n) never has)
      ]
    ])

pub run_over_put_other : (r : Run) (rs : List Run) (n : ℕ) → has_word r n ≡ false → run_over (with_run r rs) n ≡ run_over rs n
run_over_put_other r [] n other = cond-false (has_word r n) (Some r.from) None other
run_over_put_other r (s ∷ rs) n other =
    elim (cases_lt r.from s.from) [
      | inl before ↦
          ap (λ (xs : List Run). run_over xs n) (with_run_first r s rs before)
          ∙ cond-false (has_word r n) (Some r.from) (run_over (s ∷ rs) n) other
      | inr after ↦
          ap (λ (xs : List Run). run_over xs n) (with_run_later r s rs after)
          ∙ ap (λ (o : Option ℕ). cond (has_word s n) (Some s.from) o) (run_over_put_other r rs n other)
    ]

pub run_over_taken_other : (low high : ℕ) (rs : List Run) (r : Run) (n : ℕ) → IsAscending low high rs → Contains rs r
    → has_word r n ≡ false → run_over (without_run r.from rs) n ≡ run_over rs n
run_over_taken_other low high [] r n ascending (k, within, is) other = absurd (omega arith)
run_over_taken_other low high (s ∷ rs) r n ascending there other =
    elim (contains_cases rs r s there) [
      | inl same ↦
          ap (λ (xs : List Run). run_over xs n) (without_run_first r.from s rs (ap (λ (x : Run). x.from) (sym same)))
          ∙ sym (cond-false (has_word s n) (Some s.from) (run_over rs n) (ap (λ (x : Run). has_word x n) same ∙ other))
      | inr later ↦
          let bounds = contained_bounds (end_of s) high rs r ascending.2 later in
          ap (λ (xs : List Run). run_over xs n) (without_run_later r.from s rs (λ e. omega (arith, bounds.0, ascending.1, e)))
          ∙ ap (λ (o : Option ℕ). cond (has_word s n) (Some s.from) o)
          (run_over_taken_other (end_of s) high rs r n ascending.2 later other)
    ]

pub run_over_taken_has : (low high : ℕ) (rs : List Run) (r : Run) (n : ℕ) → IsAscending low high rs → Contains rs r
    → has_word r n ≡ true → run_over (without_run r.from rs) n ≡ None
run_over_taken_has low high rs r n ascending there has =
    run_over_none (without_run r.from rs) n (λ s there'.
    false_from_ne_true (has_word s n) (λ has'.
    both_ways (is_covered (without_run r.from rs) n) (uncovered_taken low high rs r n ascending there has)
    (covers_contained (without_run r.from rs) s n there' has')))

-- the extent that begins at a bit has a word
pub record ExtentOver (begins ends : List Bool) (word at : ℕ) : Type 0 where
  pub begin : bit begins at ≡ true
  pub has : has_word (record { from = at; count = length_at ends at }) word ≡ true

module _ (covered begins ends blocks : List Bool) (sound : AreSoundTables covered begins ends blocks) where
  -- where no extent covers a word, no block does
  pub no_block_over : (word : ℕ) → bit covered word ≡ false → run_over (extents blocks ends) word ≡ None
  no_block_over word none =
      run_over_none (extents blocks ends) word (λ r there.
      false_from_ne_true (has_word r word) (λ has.
      both_ways (is_covered (extents begins ends) word) (sym (sound.covered_is word) ∙ none)
      (covers_contained (extents begins ends) r word (among_all begins blocks ends r sound.blocks_begin there) has)))

  pub block_over_is : (word at : ℕ) → ExtentOver begins ends word at → bit blocks at ≡ true
      → run_over (extents blocks ends) word ≡ Some at
  block_over_is word at over block =
      let r : Run = record { from = at; count = length_at ends at } in
      let parts = has_word-parts r word over.has in
      run_over_is (extents blocks ends) word r (extent_at blocks ends at block) over.has (λ s there has.
      let mine = has_word-parts s word has in
      elim (apart_each 0 (length begins) (extents begins ends) s r sound.ascending
      (among_all begins blocks ends s sound.blocks_begin there) (extent_at begins ends at over.begin)) [
        | inl same ↦ same
        | inr apart ↦
            elim apart [
              | inl after ↦ absurd (omega (arith, after, parts.0, mine.1))
              | inr before ↦ absurd
                  (omega (arith, before, parts.1, mine.0))
            ]
      ])

  -- where no block begins at a word or below it, none covers it
  pub no_block_upto : (word : ℕ) → previous_set blocks word ≡ None → run_over (extents blocks ends) word ≡ None
  unfolding previous_set
  no_block_upto word none =
      run_over_none (extents blocks ends) word (λ r there.
      false_from_ne_true (has_word r word) (λ has.
      both_ways (bit blocks r.from)
      (highest_missing (bit blocks) (word + 1) none r.from (omega (arith, (has_word-parts r word has).0)))
      (begin_of blocks ends r there).0))

  -- where the last block that begins at a word or below it ends before it, none covers it
  pub block_past : (word at : ℕ) → previous_set blocks word ≡ Some at → at + length_at ends at ≤ word
      → run_over (extents blocks ends) word ≡ None
  unfolding previous_set
  block_past word at is past =
      let latest = highest_found (bit blocks) (word + 1) at is in
      let r : Run = record { from = at; count = length_at ends at } in
      let begun = sound.blocks_begin at latest.passes in
      run_over_none (extents blocks ends) word (λ s there.
      false_from_ne_true (has_word s word) (λ has.
      let parts = has_word-parts s word has in
      let b = begin_of blocks ends s there in
      elim (cases_lt at s.from) [
        | inl later ↦ both_ways (bit blocks s.from) (latest.higher s.from later (omega (arith, parts.0))) b.0
        | inr upto ↦ elim (apart_each 0 (length begins) (extents begins ends) s r sound.ascending
            (among_all begins blocks ends s sound.blocks_begin there) (extent_at begins ends at begun)) [
              | inl same ↦ absurd (omega (arith, same, past, parts.1, b.1, ap (length_at ends) same))
              | inr apart ↦ elim apart [
                | inl after ↦ absurd (omega (arith, after, latest.below, parts.1))
                | inr before ↦ absurd (omega (arith, before, upto, some_words at begun))
              ]
            ]
      ]))
    where
      some_words : (at : ℕ) → bit begins at ≡ true → 0 < length_at ends at
      some_words at begun =
          (contained_bounds 0 (length begins) (extents begins ends) (record { from = at; count = length_at ends at }) sound.ascending
          (extent_at begins ends at begun)).1

-- the search for the block over a word: where the last one begins that begins at the word or below it, and which word is its last
pub record FoundBlock (t : Inside) (word at : ℕ) : Type 0 where
  pub last : ℕ
  pub last_is : next_set t.ends at ≡ Some last
  pub is_over : word ≤ last → Some at ≡ run_over (extents t.blocks t.ends) word
  pub is_past : last < word → None ≡ run_over (extents t.blocks t.ends) word

pub found_block : (t : Inside) (word at : ℕ) → AreSoundTables t.covered (begins_of t) t.ends t.blocks
    → Some at ≡ previous_set t.blocks word → FoundBlock t word at
unfolding previous_set
found_block t word at sound is =
    let latest = highest_found (bit t.blocks) (word + 1) at (sym is) in
    let begun = sound.blocks_begin at latest.passes in
    let r : Run = record { from = at; count = length_at t.ends at } in
    let some =
    (contained_bounds 0 (length (begins_of t)) (extents (begins_of t) t.ends) r sound.ascending (extent_at (begins_of t) t.ends at begun)).1
    in
    let below = latest.below in
    record {
      last = at + length_at t.ends at - 1;
      last_is = next_last t.ends at (at + length_at t.ends at - 1) (last_of t.ends at some);
      is_over = λ upto. sym (block_over_is t.covered (begins_of t) t.ends t.blocks sound word at
          (record { begin = begun; has = has_word-true r word (omega arith) (omega (arith, some, upto)) })
          latest.passes);
      is_past = λ past. sym (block_past t.covered (begins_of t) t.ends t.blocks sound word at (sym is) (omega (arith, past, some)));
    }
