-- The blocks of a segment are passed in ascending order.
use Rattle.std.proofs.Common.{ℕ, ◌+◌, ◌-◌, ◌<◌, ◌≤◌, ◌%◌, ◌≡◌, ◌==◌, false, IsTrue, Option, Some, None, List, [], ◌∷◌, Contains, length, refl, sym, ap, ◌∙◌, subst, inl, inr, arith}
use Rattle.std.specs.Prelude.{slice_index}
use Rattle.std.specs.Option.{option_map_or}
use Rattle.std.proofs.lemmas.Bool.{cases_Bool, cases_lt, cond-true, cond-false, eq-eqb}
use Rattle.mps_base.specs.Address.{Address, Word, word_of, address_of_word, bytes_of_word}
use Rattle.mps_base.specs.Run.{Run, end_of}
use Rattle.mps_base.specs.Segment.{Segment, segment_over, end_of_segment}
use Rattle.mps_base.specs.declared.address.Addr.{Addr}
use Rattle.mps_base.proofs.Runs.{contains_cases, contains_first, contains_later, contained_bounds}
use Rattle.mps_extents.proofs.ApartRuns.{apart_each, has_word-parts}
use Rattle.mps_extents.proofs.ContainedRuns.{same_count}
use Rattle.mps_extents.proofs.RunOver.{run_over_in}
use Rattle.mps_format.specs.Layout.{Layout}
use Rattle.mps_seg.specs.Extents.{first_run, run_over, has_word, AreWhole}
use Rattle.mps_seg.specs.Segs.{SegsState}
use Rattle.mps_xform.specs.Applying.{after_apply_below, is_reference_word}
use Rattle.mps_xform.specs.Passing.{IsAppliedBelow, IsBlockOf, IsSpanOf}
use Rattle.mps_xform.proofs.Applied.{SameParts, parts_below, passed_to, words_above, none_of_numbers}
use Rattle.mps_xform.proofs.Walked.{LowestRun, lowest_run, no_run, over_in, bounds}

-- the block over a word has it
pub record BlockOver (rs : List Run) (word at : ℕ) : Type 0 where
  pub run : Run
  pub there : Contains rs run
  pub begins : run.from ≡ at
  pub above : at ≤ word
  pub below : word < end_of run

pub block_over : (rs : List Run) (word at : ℕ) → run_over rs word ≡ Some at → BlockOver rs word at
block_over [] word at is = let left : Option ℕ = None in let never : left ≡ Some at = is in cc
block_over (r ∷ rs) word at is =
    elim (cases_Bool (has_word r word)) [
      | inl has ↦
          let both : Some r.from ≡ Some at = sym (cond-true (has_word r word) (Some r.from) (run_over rs word) has) ∙ is in
          let same : r.from ≡ at = cc in
          let parts = has_word-parts r word has in
          record { run = r; there = contains_first rs r; begins = same; above = omega (arith, same, parts.0); below = parts.1 }
      | inr other ↦
          let later = block_over rs word at (sym (cond-false (has_word r word) (Some r.from) (run_over rs word) other) ∙ is) in
          record {
            run = later.run;
            there = contains_later rs later.run r later.there;
            begins = later.begins;
            above = later.above;
            below = later.below;
          }
    ]

-- a block that begins between two bounds ends there, and one that begins before them doesn't reach them
pub whole_in : (low high : ℕ) (rs : List Run) (r : Run) → AreWhole low high rs → Contains rs r
    → (low ≤ r.from → r.from < high → end_of r ≤ high) × (r.from < low → end_of r ≤ low)
whole_in low high [] r whole (k, within, is) = absurd (omega (arith, within))
whole_in low high (s ∷ rs) r whole there =
    elim (contains_cases rs r s there) [
      | inl same ↦
          let P : Run → Type 0 = λ x. (low ≤ x.from → x.from < high → end_of x ≤ high) × (x.from < low → end_of x ≤ low) in
          subst P same whole.0
      | inr later ↦ whole_in low high rs r whole.1 later
    ]

-- A pass has come to an address of a segment: the blocks that begin before it are done, up to the word at which the last of them ends. No
-- block lies across that word, and none begins between the address and it.
pub record IsWalked (f : Layout) (to : Address → Option Address) (initial now : SegsState) (base end from : Address) : Type 0 where
  pub done : Word
  pub above : word_of base ≤ word_of from
  pub up_to : word_of from ≤ done
  pub within : done ≤ word_of end
  pub segments : now.segments ≡ initial.segments
  pub blocks : now.blocks ≡ initial.blocks
  pub size : length now.words ≡ length initial.words
  pub bounded : (r : Run) → Contains initial.blocks r → r.from < done → end_of r ≤ done
  pub none_between : (r : Run) → Contains initial.blocks r → word_of from ≤ r.from → done ≤ r.from
  pub applied : (s : SegsState) (pool : ℕ) → IsAppliedBelow f to pool s initial (word_of base) → IsSpanOf initial.segments pool base end
      → now ≡ after_apply_below f to s pool done

-- a word over which no block lies is no reference
pub no_reference : (f : Layout) (s : SegsState) (i : Word) → ((at : ℕ) → run_over s.blocks i ≡ Some at → ⊥)
    → is_reference_word f s i ≡ false
no_reference f s i none = by_block (run_over s.blocks i) refl
  where
    by_block : (o : Option ℕ) → run_over s.blocks i ≡ o
        → option_map_or (λ from. f.is_reference (slice_index s.words from) (i - from)) (run_over s.blocks i) false ≡ false
    by_block None is =
        ap (λ (o : Option ℕ). option_map_or (λ from. f.is_reference (slice_index s.words from) (i - from)) o false) is
    by_block (Some at) is = absurd (none at is)

module _ (f : Layout) (to : Address → Option Address) (s : SegsState) (pool : ℕ) (initial : SegsState) (base end : Address)
    (begun : IsAppliedBelow f to pool s initial (word_of base)) (span : IsSpanOf initial.segments pool base end)
  where
    same : SameParts s initial
    same =
        let P : SegsState → Type 0 = λ t. SameParts s t in
        subst P (sym begun.state) (parts_below f to s pool (word_of base))

    there : Contains s.segments span.segment
    there = let P : List Segment → Type 0 = λ ts. Contains ts span.segment in subst P same.segments span.there

    low_is : word_of span.segment.base ≡ word_of base
    low_is = ap word_of span.begins

    high_is : word_of (end_of_segment span.segment) ≡ word_of end
    high_is = ap word_of span.ends

    listed : (r : Run) → Contains initial.blocks r → Contains s.blocks r
    listed r is = let P : List Run → Type 0 = λ rs. Contains rs r in subst P same.blocks is

    -- a block of the segment ends in it
    ends_inside : (r : Run) → Contains s.blocks r → word_of base ≤ r.from → r.from < word_of end → end_of r ≤ word_of end
    ends_inside r is above below =
        let w = (whole_in (word_of span.segment.base) (word_of (end_of_segment span.segment)) s.blocks r
        (begun.can.whole span.segment there) is).0 in
        omega (arith, w (omega (arith, above, low_is)) (omega (arith, below, high_is)), high_is)

    pub is_aligned : base % bytes_of_word ≡ 0
    is_aligned = ap (λ (a : Address). a % bytes_of_word) (sym span.begins)
        ∙ (bounds 0 s.segments span.segment begun.can.segments there).aligned

    pub is_long : base < end
    is_long =
        omega (arith, span.begins, span.ends, (bounds 0 s.segments span.segment begun.can.segments there).some)

    pub inside : word_of end ≤ length initial.words
    inside = omega (arith, begun.can.in_arena span.segment there, high_is, same.size)

    -- at the first address of the segment
    pub at_first : IsWalked f to initial initial base end base
    at_first = record {
      done = word_of base;
      above = omega arith;
      up_to = omega arith;
      within = omega (arith, is_long);
      segments = refl;
      blocks = refl;
      size = refl;
      bounded = λ r is below.
          let w = (whole_in (word_of span.segment.base) (word_of (end_of_segment span.segment)) s.blocks r
          (begun.can.whole span.segment there) (listed r is)).1 in
          omega (arith, w (omega (arith, below, low_is)), low_is);
      none_between = λ r is past. past;
      applied = λ s' pool' begun' span'. begun'.state;
    }

    module _ (now : SegsState) (from : Address) (walked : IsWalked f to initial now base end from) where
      was_listed : (r : Run) → Contains s.blocks r → Contains initial.blocks r
      was_listed r is = let P : List Run → Type 0 = λ rs. Contains rs r in subst P (sym same.blocks) is

      -- the words of the segment from here on without a block before `high` are passed over
      gap_passed : (high : Word) → walked.done ≤ high → high ≤ word_of end
          → ((r : Run) → Contains s.blocks r → word_of from ≤ r.from → r.from < high → ⊥)
          → after_apply_below f to s pool high ≡ after_apply_below f to s pool walked.done
      gap_passed high above within none =
          passed_to f to s pool walked.done high above (λ i over below.
          none_of_numbers f to s pool i (no_reference f s i (λ at is.
          let b = block_over s.blocks i at is in
          elim (cases_lt b.run.from walked.done) [
            | inl before ↦ omega (arith, walked.bounded b.run (was_listed b.run b.there) before, b.below, over)
            | inr past ↦ none b.run b.there (omega (arith, walked.up_to, past)) (omega (arith, b.begins, b.above, below))
          ])))

      -- where no block is left, the rest of the segment is passed over
      pub rest_passed : first_run (word_of from) (word_of end) now.blocks ≡ None → now ≡ after_apply_below f to s pool (word_of end)
      rest_passed none =
          let none' : first_run (word_of from) (word_of end) s.blocks ≡ None =
          ap (λ (rs : List Run). first_run (word_of from) (word_of end) rs) (sym (walked.blocks ∙ same.blocks)) ∙ none in
          walked.applied s pool begun span
          ∙ sym (gap_passed (word_of end) walked.within (omega arith)
          (λ r is above below. no_run (word_of from) (word_of end) s.blocks none' r is above below))

      module _ (at : Addr) (is : first_run (word_of from) (word_of end) now.blocks ≡ Some (word_of at.0)) where
        pub found : LowestRun (word_of from) (word_of end) s.blocks (word_of at.0)
        found =
            lowest_run 0 (length s.words) (word_of from) (word_of end) s.blocks (word_of at.0) begun.can.blocks
            (ap (λ (rs : List Run). first_run (word_of from) (word_of end) rs) (sym (walked.blocks ∙ same.blocks)) ∙ is)

        pub past : walked.done ≤ word_of at.0
        past =
            omega (
              arith,
              walked.none_between found.run (was_listed found.run found.there) (omega (arith, found.above, found.begins)),
              found.begins,
            )

        pub head_is : slice_index now.words (word_of at.0) ≡ slice_index s.words (word_of at.0)
        head_is =
            ap (λ (t : SegsState). slice_index t.words (word_of at.0)) (walked.applied s pool begun span)
            ∙ words_above f to s pool walked.done (word_of at.0) past

        heads : IsTrue (f.is_valid (slice_index s.words found.run.from)) × (f.size (slice_index s.words found.run.from) ≡ found.run.count)
        heads =
            begun.can.heads span.segment found.run there span.of_pool found.there
            (omega (arith, low_is, walked.above, found.above, found.begins)) (omega (arith, high_is, found.below, found.begins))

        head_at : slice_index s.words found.run.from ≡ slice_index now.words (word_of at.0)
        head_at = ap (λ (w : ℕ). slice_index s.words w) found.begins ∙ sym head_is

        pub valid : IsTrue (f.is_valid (slice_index now.words (word_of at.0)))
        valid = let P : ℕ → Type 0 = λ h. IsTrue (f.is_valid h) in subst P head_at heads.0

        pub size_is : f.size (slice_index now.words (word_of at.0)) ≡ found.run.count
        size_is = ap f.size (sym head_at) ∙ heads.1

        pub some : 0 < found.run.count
        some = (contained_bounds 0 (length s.words) s.blocks found.run begun.can.blocks found.there).1

        pub ends : end_of found.run ≤ word_of end
        ends =
            ends_inside found.run found.there (omega (arith, walked.above, found.above, found.begins))
            (omega (arith, found.below, found.begins))

        pub over_at : segment_over now.segments at.0 ≡ Some span.segment
        over_at =
            ap (λ (ts : List Segment). segment_over ts at.0) (walked.segments ∙ same.segments)
            ∙ over_in 0 s.segments span.segment at.0 begun.can.segments there
            (omega (arith, walked.above, found.above, span.begins, is_aligned)) (omega (arith, found.below, span.ends))

        pub block : IsBlockOf f s pool (word_of at.0) (slice_index now.words (word_of at.0))
        block = record {
          has_head = sym head_is;
          in_pool = λ word above below.
              let t = span.segment in
              let over =
              over_in 0 s.segments t (address_of_word word) begun.can.segments there
              (omega (arith, walked.above, found.above, above, span.begins, is_aligned))
              (omega (arith, below, size_is, found.begins, ends, span.ends))
              in
              ap (λ (o : Option Segment). option_map_or (λ u. u.pool == pool) o false) over ∙ eq-eqb t.pool pool span.of_pool;
          over = λ word above below.
              run_over_in 0 (length s.words) s.blocks found.run word begun.can.blocks found.there (omega (arith, above, found.begins))
              (omega (arith, below, size_is, found.begins))
              ∙ ap (λ (w : ℕ). Some w) found.begins;
        }

        -- up to this block
        pub to_block : now ≡ after_apply_below f to s pool (word_of at.0)
        to_block =
            walked.applied s pool begun span
            ∙ sym (gap_passed (word_of at.0) past (omega (arith, found.below))
            (λ r is above below. omega (arith, found.first r is above (omega (arith, below, found.below)), below)))

        -- no block lies across its end
        pub bounded_after : (r : Run) → Contains initial.blocks r → r.from < end_of found.run → end_of r ≤ end_of found.run
        bounded_after r is below =
            elim (apart_each 0 (length s.words) s.blocks r found.run begun.can.blocks (listed r is) found.there) [
              | inl equal ↦
                  omega (arith, equal, same_count 0 (length s.words) s.blocks r found.run begun.can.blocks (listed r is) found.there equal)
              | inr apart ↦ elim apart [
                | inl before ↦ omega (arith, before)
                | inr past ↦ absurd (omega (arith, past, below))
              ]
            ]

        -- no block begins in it
        pub none_inside : (r : Run) → Contains initial.blocks r → word_of at.0 < r.from → end_of found.run ≤ r.from
        none_inside r is above =
            elim (apart_each 0 (length s.words) s.blocks r found.run begun.can.blocks (listed r is) found.there) [
              | inl equal ↦ absurd (omega (arith, equal, found.begins, above))
              | inr apart ↦ elim apart [
                | inl before ↦ absurd (omega (arith, before, found.begins, above))
                | inr past ↦ past
              ]
            ]

-- a block is done, and the pass has come to the word after its head
pub walked_on : (f : Layout) (to : Address → Option Address) (s : SegsState) (pool : ℕ) (initial now after : SegsState)
    (base end from next : Address) (at : Addr)
    → IsAppliedBelow f to pool s initial (word_of base) → IsSpanOf initial.segments pool base end → IsWalked f to initial now base end from
    → first_run (word_of from) (word_of end) now.blocks ≡ Some (word_of at.0) → next ≡ at.0 + 8
    → ((s' : SegsState) (pool' : ℕ) → now ≡ after_apply_below f to s' pool' (word_of at.0)
    → IsBlockOf f s' pool' (word_of at.0) (slice_index now.words (word_of at.0))
    → after ≡ after_apply_below f to s' pool' (word_of at.0 + f.size (slice_index now.words (word_of at.0))))
    → IsWalked f to initial after base end next
walked_on f to s pool initial now after base end from next at begun span walked is next_is applied =
    let low = found f to s pool initial base end begun span now from walked at is in
    let size = size_is f to s pool initial base end begun span now from walked at is in
    let after_is = applied s pool (to_block f to s pool initial base end begun span now from walked at is)
    (block f to s pool initial base end begun span now from walked at is) in
    let n : ℕ = word_of at.0 + f.size (slice_index now.words (word_of at.0)) in
    let end_is : n ≡ end_of low.run = omega (arith, size, low.begins) in
    let parts = parts_below f to s pool n in
    let parts' = same f to s pool initial base end begun span in
    record {
      done = n;
      above = omega (arith, next_is, low.above, walked.above);
      up_to = omega (arith, next_is, size, some f to s pool initial base end begun span now from walked at is);
      within = omega (arith, end_is, ends f to s pool initial base end begun span now from walked at is);
      segments = ap (λ (t : SegsState). t.segments) after_is ∙ parts.segments ∙ sym parts'.segments;
      blocks = ap (λ (t : SegsState). t.blocks) after_is ∙ parts.blocks ∙ sym parts'.blocks;
      size = ap (λ (t : SegsState). length t.words) after_is ∙ parts.size ∙ sym parts'.size;
      bounded = λ r there below.
          omega (
            arith,
            end_is,
            bounded_after f to s pool initial base end begun span now from walked at is r there (omega (arith, below, end_is)),
          );
      none_between = λ r there past.
          omega (
            arith,
            end_is,
            none_inside f to s pool initial base end begun span now from walked at is r there (omega (arith, past, next_is)),
          );
      applied = λ s' pool' begun' span'.
          applied s' pool' (to_block f to s' pool' initial base end begun' span' now from walked at is)
          (block f to s' pool' initial base end begun' span' now from walked at is);
    }
