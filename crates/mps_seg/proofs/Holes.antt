-- The holes between the blocks of a segment.
use Rattle.std.proofs.Common.{ℕ, ◌+◌, ◌*◌, ◌<◌, ◌≤◌, ◌≡◌, true, false, Option, Some, None, IfSome, IfNone, List, [], ◌∷◌, Contains, sym, ap, ◌∙◌, subst, inl, inr, arith}
use Rattle.std.specs.Option.{unwrap_or}
use Rattle.std.proofs.lemmas.Bool.{cases_lt, cases_eq, both_ways, false_from_ne_true}
use Rattle.mps_base.specs.Address.{word_of, bytes_of_word}
use Rattle.mps_base.specs.Run.{Run, IsAscending, end_of, runs_within}
use Rattle.mps_base.specs.declared.address.Addr.{Addr}
use Rattle.mps_base.proofs.Runs.{contains_cases, contains_first, contains_later, contained_bounds}
use Rattle.mps_extents.specs.Extents.{is_covered, AreWhole, IsFirstWithin, IsLowestUncovered}
use Rattle.mps_extents.proofs.ApartRuns.{apart_each, covered_by, covers_contained, has_word-parts, has_word-true}
use Rattle.mps_extents.proofs.ContainedRuns.{begins_within}
use Rattle.mps_extents.proofs.LostRuns.{within_bounds}
use Rattle.mps_extents.proofs.LowestGap.{contains_within, covered_within}
use Rattle.mps_seg.specs.Reclaiming.{IsSpan, IsNextHole}
use Rattle.mps_seg.specs.Segs.{SegsState}
use Rattle.mps_seg.specs.declared.segs.Segs.TheInside.{Inside}
use Rattle.mps_seg.specs.declared.segs.freeing.Hole.{Hole}
use Rattle.mps_seg.proofs.Seen.{seen_by, IsSoundInside}
use Rattle.mps_seg.proofs.Spans.{searchable}

-- ---- runs that don't lie across one of two words

-- one of them
abbrev IsWhole : (low high : ℕ) → Run → Type 0
IsWhole low high r = (low ≤ r.from → r.from < high → end_of r ≤ high) × (r.from < low → end_of r ≤ low)

each_whole : (low high : ℕ) (rs : List Run) (r : Run) → AreWhole low high rs → Contains rs r → IsWhole low high r
each_whole low high [] r whole (k, within, is) = absurd (omega arith)
each_whole low high (s ∷ rs) r whole there =
    elim (contains_cases rs r s there) [
      | inl same ↦ let P : Run → Type 0 = IsWhole low high in subst P same whole.0
      | inr later ↦ each_whole low high rs r whole.1 later
    ]

whole_of_each : (low high : ℕ) (rs : List Run) → ((r : Run) → Contains rs r → IsWhole low high r) → AreWhole low high rs
whole_of_each low high [] each = tt
whole_of_each low high (r ∷ rs) each =
    (each r (contains_first rs r), whole_of_each low high rs (λ s there. each s (contains_later rs s r there)))

-- none lies across the second
whole_at_end : (low high : ℕ) (rs : List Run) → low ≤ high → AreWhole low high rs → AreWhole high high rs
whole_at_end low high rs ordered whole =
    whole_of_each high high rs (λ r there.
    let is = each_whole low high rs r whole there in (
      λ above below. absurd (omega (arith, above, below)),
      λ before. elim (cases_lt r.from low) [
        | inl lower ↦ omega (arith, is.1 lower, ordered)
        | inr within ↦ is.0 within before
      ],
    ))

-- none lies across the first word of one of them
whole_at_run : (low high size : ℕ) (rs : List Run) (r : Run) → IsAscending 0 size rs → Contains rs r → 0 < r.count → low ≤ r.from
    → AreWhole low high rs → AreWhole r.from high rs
whole_at_run low high size rs r ascending listed some above whole =
    whole_of_each r.from high rs (λ s there. (
      λ from below. (each_whole low high rs s whole there).0 (omega (arith, from, above)) below,
      λ before. elim (apart_each 0 size rs s r ascending there listed) [
        | inl same ↦ absurd (omega (arith, same, before))
        | inr apart ↦ elim apart [ inl lower ↦ lower | inr higher ↦ absurd (omega (arith, higher, before, some)) ]
      ],
    ))

-- ---- a hole that was found

module _
    (blocks : List Run) (at high : ℕ) (uncovered : is_covered blocks at ≡ false) (next : Option ℕ)
    (first : IfSome next (IsFirstWithin at high blocks)) (none : IfNone next (runs_within at high blocks ≡ []))
  where
    -- no block begins from there on and below the next one
    none_begins : (o : Option ℕ) → IfSome o (IsFirstWithin at high blocks) → IfNone o (runs_within at high blocks ≡ [])
        → (r : Run) → Contains (runs_within at high blocks) r → r.from < unwrap_or o high → ⊥
    none_begins None first none r there below =
        let P : List Run → Type 0 = λ rs. Contains rs r in
        let never = subst P none there in
        absurd (omega (arith, never.1))
    none_begins (Some n) first none r there below =
        let P : List Run → Type 0 = λ rs. Contains rs r in
        elim (contains_cases (runs_within (n + 1) high blocks) r first.run (subst P first.rest there)) [
          | inl same ↦ omega (arith, below, first.begins, ap (λ (x : Run). x.from) same)
          | inr later ↦ omega (arith, below, (within_bounds (n + 1) high blocks r later).0)
        ]

    pub open_words : (word : ℕ) → at ≤ word → word < unwrap_or next high → unwrap_or next high ≤ high → is_covered blocks word ≡ false
    open_words word above below within =
        false_from_ne_true (is_covered blocks word) (λ is.
        let b = covered_by blocks word is in
        let parts = has_word-parts b.0 word b.2 in
        elim (cases_lt b.0.from at) [
          | inl before ↦
              both_ways (is_covered blocks at) uncovered
              (covers_contained blocks b.0 at b.1 (has_word-true b.0 at (omega (arith, before)) (omega (arith, parts.1, above))))
          | inr after ↦
              none_begins next first none b.0
              (begins_within at high blocks b.0 b.1 after (omega (arith, parts.0, below, within)))
              (omega (arith, parts.0, below))
        ])

-- ---- and where it ends

module _
    (blocks covered : List Run) (size base low high : ℕ) (ordered : IsAscending 0 size blocks) (ascending : IsAscending 0 size covered)
    (part : (r : Run) → Contains blocks r → Contains covered r) (above : base ≤ low)
    (whole_blocks : AreWhole base high blocks) (whole : AreWhole low high covered)
    (at : ℕ) (lowest : IsLowestUncovered low high blocks at)
  where
    -- the block that ends it
    listed : (n : ℕ) (first : IsFirstWithin at high blocks n) → Contains blocks first.run
    listed n first =
        let P : List Run → Type 0 = λ rs. Contains rs first.run in
        contains_within at high blocks first.run
        (subst P (sym first.rest) (contains_first (runs_within (n + 1) high blocks) first.run))

    ends_within : (o : Option ℕ) → IfSome o (IsFirstWithin at high blocks) → (at < unwrap_or o high) × (unwrap_or o high ≤ high)
    ends_within None first = (lowest.below, omega arith)
    ends_within (Some n) first =
        elim (cases_eq n at) [
          | inl here ↦
              let there = listed n first in
              let some = (contained_bounds 0 size blocks first.run ordered there).1 in
              absurd (both_ways (is_covered blocks at) lowest.uncovered
              (covers_contained blocks first.run at there
              (has_word-true first.run at (omega (arith, first.begins, here)) (omega (arith, first.begins, here, some)))))
          | inr other ↦ (omega (arith, first.above, other), omega (arith, first.below))
        ]

    pub whole_after : (o : Option ℕ) → IfSome o (IsFirstWithin at high blocks) → AreWhole (unwrap_or o high) high covered
    whole_after None first = whole_at_end low high covered (omega (arith, lowest.above, lowest.below)) whole
    whole_after (Some n) first =
        let there = part first.run (listed n first) in
        let some = (contained_bounds 0 size covered first.run ascending there).1 in
        let P : ℕ → Type 0 = λ from. AreWhole from high covered in
        subst P first.begins
        (whole_at_run low high size covered first.run ascending there some (omega (arith, first.begins, first.above, lowest.above)) whole)

    same_within : (word : ℕ) → low ≤ word → word < high → is_covered (runs_within base high blocks) word ≡ is_covered blocks word
    same_within word from below = sym (covered_within base high word blocks whole_blocks (omega (arith, above, from)) below)

    pub none_open : ((word : ℕ) → low ≤ word → word < high → is_covered blocks word ≡ true)
        → (word : ℕ) → low ≤ word → word < high → is_covered (runs_within base high blocks) word ≡ true
    none_open all word from below = same_within word from below ∙ all word from below

    pub hole_is : (next : Option ℕ) → IfSome next (IsFirstWithin at high blocks) → IfNone next (runs_within at high blocks ≡ [])
        → (hole : Hole) → hole.from.0 ≡ bytes_of_word * at → hole.to.0 ≡ bytes_of_word * unwrap_or next high
        → IsNextHole low high (runs_within base high blocks) hole
    hole_is next first none hole begins stops =
        let ends = ends_within next first in
        let starts : word_of hole.from.0 ≡ at = omega (arith, begins) in
        let stop : word_of hole.to.0 ≡ unwrap_or next high = omega (arith, stops) in
        record {
          above = omega (arith, starts, lowest.above);
          nonempty = omega (arith, starts, stop, ends.0);
          below = omega (arith, stop, ends.1);
          aligned = (omega (arith, begins), omega (arith, stops));
          before = λ word from under.
              let under' : word < at = omega (arith, under, starts) in
              same_within word from (omega (arith, under', lowest.below)) ∙ lowest.covered word from under';
          inside = λ word from under.
              let from' : at ≤ word = omega (arith, from, starts) in
              let under' : word < unwrap_or next high = omega (arith, under, stop) in
              same_within word (omega (arith, from', lowest.above)) (omega (arith, under', ends.1))
              ∙ open_words blocks at high lowest.uncovered next first none word from' under' ends.1;
        }

-- ---- the next hole of a segment, as a caller sees it

module _
    (s : Inside) (seen : SegsState) (base from end : Addr) (low high : ℕ) (sound : IsSoundInside s) (is : seen_by s ≡ seen)
    (span : IsSpan seen base.0 end.0) (above : word_of base.0 ≤ word_of from.0)
    (whole : AreWhole (word_of from.0) (word_of end.0) seen.covered) (low_is : low ≡ word_of from.0) (high_is : high ≡ word_of end.0)
    (part : (r : Run) → Contains s.extents.blocks r → Contains s.extents.covered r)
    (ordered : IsAscending 0 s.extents.size s.extents.blocks)
  where
    seen_whole : AreWhole low high s.extents.covered
    seen_whole =
        let P : SegsState → Type 0 = λ st. AreWhole low high st.covered in
        let Q : ℕ → Type 0 = λ n. AreWhole n high seen.covered in
        let R : ℕ → Type 0 = λ n. AreWhole (word_of from.0) n seen.covered in
        subst P (sym is) (subst Q (sym low_is) (subst R (sym high_is) whole))

    whole_blocks : AreWhole (word_of base.0) high s.extents.blocks
    whole_blocks =
        let P : ℕ → Type 0 = λ n. AreWhole (word_of base.0) n s.extents.blocks in
        subst P (sym high_is) ((searchable s seen base.0 end.0 sound is span).whole_part s.extents.blocks part)

    pub none_left : ((word : ℕ) → low ≤ word → word < high → is_covered s.extents.blocks word ≡ true)
        → (word : ℕ) → word_of from.0 ≤ word → word < word_of end.0
        → is_covered (runs_within (word_of base.0) (word_of end.0) seen.blocks) word ≡ true
    none_left all word after before =
        sym (ap (λ (n : ℕ). is_covered (runs_within (word_of base.0) n seen.blocks) word) high_is)
        ∙ sym (ap (λ (st : SegsState). is_covered (runs_within (word_of base.0) high st.blocks) word) is)
        ∙ sym (covered_within (word_of base.0) high word s.extents.blocks whole_blocks (omega (arith, above, after))
        (omega (arith, before, high_is)))
        ∙ all word (omega (arith, after, low_is)) (omega (arith, before, high_is))

    module _
        (at : ℕ) (lowest : IsLowestUncovered low high s.extents.blocks at) (next : Option ℕ)
        (first : IfSome next (IsFirstWithin at high s.extents.blocks)) (none : IfNone next (runs_within at high s.extents.blocks ≡ []))
        (hole : Hole) (begins : hole.from.0 ≡ bytes_of_word * at) (stops : hole.to.0 ≡ bytes_of_word * unwrap_or next high)
      where
        pub next_is : IsNextHole (word_of from.0) (word_of end.0) (runs_within (word_of base.0) (word_of end.0) seen.blocks) hole
        next_is =
            let P : SegsState → Type 0 =
            λ st. IsNextHole (word_of from.0) (word_of end.0) (runs_within (word_of base.0) (word_of end.0) st.blocks) hole in
            let Q : ℕ → Type 0 = λ n. IsNextHole (word_of from.0) n (runs_within (word_of base.0) n s.extents.blocks) hole in
            let R : ℕ → Type 0 = λ n. IsNextHole n high (runs_within (word_of base.0) high s.extents.blocks) hole in
            subst P is (subst Q high_is (subst R low_is
            (hole_is s.extents.blocks s.extents.covered s.extents.size (word_of base.0) low high ordered sound.0.covered_ascending part
            (omega (arith, above, low_is)) whole_blocks seen_whole at lowest next first none hole begins stops)))

        pub whole_next : AreWhole (word_of hole.to.0) (word_of end.0) seen.covered
        whole_next =
            let to : unwrap_or next high ≡ word_of hole.to.0 = omega (arith, stops) in
            let P : SegsState → Type 0 = λ st. AreWhole (word_of hole.to.0) (word_of end.0) st.covered in
            let Q : ℕ → Type 0 = λ n. AreWhole (word_of hole.to.0) n s.extents.covered in
            let R : ℕ → Type 0 = λ n. AreWhole n high s.extents.covered in
            subst P is (subst Q high_is (subst R to
            (whole_after s.extents.blocks s.extents.covered s.extents.size (word_of base.0) low high ordered sound.0.covered_ascending part
            (omega (arith, above, low_is)) whole_blocks seen_whole at lowest next first)))
