-- What is known of the tables where the lost blocks of a segment are freed.
use Rattle.std.proofs.Common.{ℕ, ◌+◌, ◌*◌, ◌%◌, ◌^◌, ◌<◌, ◌≤◌, ◌≡◌, Bool, Some, List, [], ◌∷◌, length, get_or, set, Contains, refl, sym, ap, ◌∙◌, subst, inl, inr, arith, length-set, get_or-set_same, get_or-set_other}
use Rattle.std.proofs.lemmas.Bool.{cases_eq}
use Rattle.std.proofs.lemmas.List.{same_lists, get_or_default}
use Rattle.mps_base.specs.Address.{Address, words_of_grain, grain_of, word_of}
use Rattle.mps_base.specs.Run.{Run, end_of, IsAscending, without_run}
use Rattle.mps_base.specs.Segment.{Segment, segment_over, end_of_segment}
use Rattle.mps_base.specs.Trail.{Moves}
use Rattle.mps_base.proofs.Runs.{contains_first, contains_later, contained_bounds, IsAscending-without_run}
use Rattle.mps_arena.specs.Arena.{ArenaMemory}
use Rattle.mps_extents.specs.Extents.{ExtentLists, AreWhole}
use Rattle.mps_extents.specs.Lost.{lost_runs, without_runs, frees}
use Rattle.mps_extents.proofs.ContainedRuns.{contains_still}
use Rattle.mps_extents.proofs.Dropping.{dropped}
use Rattle.mps_extents.proofs.LostRuns.{lost_member, lost_ascends}
use Rattle.mps_extents.proofs.RunOver.{run_over_in}
use Rattle.mps_extents.proofs.Sweep.{whole_end}
use Rattle.mps_seg.specs.Segs.{SegsState}
use Rattle.mps_seg.specs.Collecting.{info_of}
use Rattle.mps_seg.specs.Table.{IsHeld, AreGapsBounded, any_gap, or_zero, first_at, with_any_gap}
use Rattle.mps_seg.specs.declared.entry.Entry.{Entry}
use Rattle.mps_seg.specs.declared.segment_info.SegmentInfo.{SegmentInfo}
use Rattle.mps_seg.specs.declared.segs.Segs.TheInside.{Inside}
use Rattle.mps_seg.specs.Reclaiming.{CanReclaim, lost_between, lost_of, without_blocks, moves_freed, freed_in, moves_freed_in}
use Rattle.mps_seg.specs.Unmarking.{unmarked}
use Rattle.mps_seg.proofs.Seen.{seen_by, IsSoundInside}
use Rattle.mps_seg.proofs.Entries.{entry_at_seen_base, entry_is_held}
use Rattle.mps_seg.proofs.HeldSegments.{whole_in, held_after_uncover}
use Rattle.mps_seg.proofs.BoundedGaps.{OwnSegment, bounded_after_uncover}
use Rattle.mps_seg.proofs.Reclaimed.{listed, is_mine, lost_from_base}
use Rattle.mps_seg.proofs.Unmarked.{AreWhite, lost_are_white, unmarked_kept, marked_unmarked, all_freed, all_noted}

-- a segment may have a gap of any length
bounded_raised : (held : List Run) (size : ℕ) (firsts bounds : List ℕ) (covered : List Run) (first : ℕ)
    → AreGapsBounded held size firsts bounds covered → IsAscending 1 size held → first < size → size < 2 ^ 20
    → AreGapsBounded held size firsts (set bounds first any_gap) covered
bounded_raised held size firsts bounds covered first bounded ascending within small = record {
  firsts_size = bounded.firsts_size;
  bounds_size = length-set bounds first any_gap ∙ bounded.bounds_size;
  firsts_are = bounded.firsts_are;
  bounded = λ t gap there lies clear. elim (cases_eq t.from first) [
    | inl here ↦
        let written =
        ap (λ (k : ℕ). get_or (set bounds first any_gap) k 0) here
        ∙ get_or-set_same bounds first any_gap 0 (omega (arith, within, bounded.bounds_size))
        in
        omega (arith, written, lies.0, lies.1, (contained_bounds 1 size held t ascending there).2, small)
    | inr other ↦
        omega (arith, get_or-set_other bounds first t.from any_gap 0 other, bounded.bounded t gap there lies clear)
  ];
}

-- a number that is written again where it is
written_again : (xs : List ℕ) (i x : ℕ) → i < length xs → get_or xs i 0 ≡ x → set xs i x ≡ xs
written_again xs i x within is =
    same_lists (set xs i x) xs (length-set xs i x) (λ k d h. elim (cases_eq k i) [
      | inl here ↦
          ap (λ (j : ℕ). get_or (set xs i x) j d) here ∙ get_or-set_same xs i x d within
          ∙ sym (ap (λ (j : ℕ). get_or xs j d) here ∙ get_or_default xs i d 0 within ∙ is)
      | inr other ↦ get_or-set_other xs i k x d other
    ])

-- the runs of one segment, which may have a gap of any length, are taken out
bounded_swept : (held : List Run) (size : ℕ) (firsts bounds : List ℕ) (covered lost : List Run) (grain a b high : ℕ)
    → AreGapsBounded held size firsts bounds covered → IsAscending 1 size held → size < 2 ^ 20 → IsAscending 0 high covered
    → get_or firsts grain 0 < length bounds → get_or bounds (get_or firsts grain 0) 0 ≡ any_gap
    → IsAscending a b lost → ((r : Run) → Contains lost r → Contains covered r × OwnSegment held size firsts grain r)
    → AreGapsBounded held size firsts bounds (without_runs lost covered)
bounded_swept held size firsts bounds covered [] grain a b high bounded ascending small ordered within is apart all = bounded
bounded_swept held size firsts bounds covered (r ∷ lost) grain a b high bounded ascending small ordered within is apart all =
    let mine = all r (contains_first lost r) in
    let P : List ℕ → Type 0 = λ xs. AreGapsBounded held size firsts xs (without_run r.from covered) in
    let next =
    subst P (written_again bounds (get_or firsts grain 0) any_gap within is)
    (bounded_after_uncover held size firsts bounds covered bounded ascending grain 0 high r ordered mine.0 mine.1 small)
    in
    bounded_swept held size firsts bounds (without_run r.from covered) lost grain (end_of r) b high next ascending small
    (IsAscending-without_run 0 high r.from covered ordered) within is apart.2 (λ s there.
    let listed = all s (contains_later lost s r there) in
    let later = (contained_bounds (end_of r) b lost s apart.2 there).0 in
    (contains_still r.from s covered listed.0 (λ e. omega (arith, later, e, apart.1)), listed.1))

held_swept : (arena : ArenaMemory) (table : List Entry) (lost : List Run) (ex : ExtentLists) (blocks reservations : List Run)
    → IsHeld arena table ex
    → IsHeld arena table (record ex { covered = without_runs lost ex.covered; blocks = blocks; reservations = reservations })
held_swept arena table [] ex blocks reservations held = record {
  held = held.held;
  ascending = held.ascending;
  at_most = held.at_most;
  size = held.size;
  covered_size = held.covered_size;
  covered_ascending = held.covered_ascending;
  nonempty = held.nonempty;
  inside = held.inside;
}
held_swept arena table (r ∷ lost) ex blocks reservations held =
    held_swept arena table lost (record ex { covered = without_run r.from ex.covered }) blocks reservations
    (held_after_uncover arena table ex held r.from ex.blocks ex.reservations)

-- ---- the segment at a base

-- the blocks that are lost, by the tables
abbrev lost_in : Inside → (low end : ℕ) → List Run
lost_in s low end = lost_runs low end s.marks.kept s.extents.blocks

-- what the sweep of the words of a segment needs, and what is known after it
pub record IsSweepable (s : Inside) (seen : SegsState) (base : Address) (spare low end : ℕ) : Type 0 where
  pub in_table : end ≤ s.extents.size
  pub in_kept : end ≤ length s.marks.kept
  pub in_words : (low % 64 ≡ 0) × (end % 64 ≡ 0)
  pub ordered : low ≤ end
  pub whole : AreWhole low end s.extents.covered
  pub in_firsts : grain_of base < length s.firsts.items
  pub in_bounds : first_at s.firsts.items base < length s.bounds
  pub fits : length (lost_in s low end) ≤ spare
  pub same_kept : {kept : List Bool} → kept ≡ (unmarked (lost_in s low end) s.marks).kept → kept ≡ s.marks.kept
  pub same_lost : {kept : List Bool} → kept ≡ (unmarked (lost_in s low end) s.marks).kept
      → lost_runs low end kept s.extents.blocks ≡ lost_in s low end
  pub sound : IsSoundInside (record s {
    extents = dropped (lost_in s low end) s.extents;
    marks = unmarked (lost_in s low end) s.marks;
    bounds = with_any_gap s.firsts.items s.bounds base;
  })
  pub state : (t : Segment) → segment_over seen.segments base ≡ Some t
      → record (seen_by s) {
        covered = without_runs (lost_in s low end) s.extents.covered;
        blocks = without_runs (lost_in s low end) s.extents.blocks;
        marks = unmarked (lost_in s low end) s.marks;
      }
      ≡ freed_in seen t
  pub moves : (t : Segment) (moves : Moves) → segment_over seen.segments base ≡ Some t
      → frees (lost_in s low end) moves ≡ moves_freed_in seen t moves
  -- where none of its blocks is lost
  pub none_lost : {kept : List Bool} → kept ≡ s.marks.kept → lost_runs low end kept s.extents.blocks ≡ [] → lost_in s low end ≡ []
  pub none_changed : (t : Segment) → segment_over seen.segments base ≡ Some t → lost_in s low end ≡ [] → seen_by s ≡ freed_in seen t
  pub none_freed : (t : Segment) (moves : Moves) → segment_over seen.segments base ≡ Some t → lost_in s low end ≡ []
      → moves ≡ moves_freed_in seen t moves

module _
    (s : Inside) (seen : SegsState) (base : Address) (spare : ℕ) (can : CanReclaim seen base spare) (sound : IsSoundInside s)
    (is : seen_by s ≡ seen) (low end : ℕ) (starts : low ≡ word_of base) (ends : end ≡ low + words_of_grain * can.segment.grains)
    (part : (r : Run) → Contains s.extents.blocks r → Contains s.extents.covered r)
    (ordered : IsAscending 0 s.extents.size s.extents.blocks)
  where
    aligned : low ≡ words_of_grain * grain_of base
    aligned =
        omega (arith, starts, (entry_at_seen_base s seen base can.segment is (listed seen base spare can) can.begins).aligned)

    own_held : Contains s.arena.held (record { from = grain_of base; count = can.segment.grains })
    own_held =
        let t = can.segment in
        let at = entry_at_seen_base s seen base t is (listed seen base spare can) can.begins in
        let P : List Run → Type 0 = λ rs. Contains rs (record { from = grain_of base; count = t.grains }) in
        subst P (sym sound.0.held) (entry_is_held s.table.items (grain_of base) t.grains t.pool t.generation t.rank at.is)

    own_bounds : (1 ≤ grain_of base) × (0 < can.segment.grains) × (grain_of base + can.segment.grains ≤ s.arena.grains + 1)
    own_bounds =
        contained_bounds 1 (s.arena.grains + 1) s.arena.held (record { from = grain_of base; count = can.segment.grains })
        sound.0.ascending own_held

    within : end ≤ s.extents.size
    within = omega (arith, own_bounds.2, ends, aligned, sound.0.covered_size)

    in_words : (low % 64 ≡ 0) × (end % 64 ≡ 0)
    in_words = (omega (arith, aligned), omega (arith, aligned, ends))

    upwards : low ≤ end
    upwards = omega (arith, ends)

    whole : AreWhole low end s.extents.covered
    whole =
        let high : words_of_grain * (grain_of base + can.segment.grains) ≡ end = omega (arith, aligned, ends) in
        let P : ℕ → Type 0 = λ low. AreWhole low (words_of_grain * (grain_of base + can.segment.grains)) s.extents.covered in
        let Q : ℕ → Type 0 = λ high. AreWhole low high s.extents.covered in
        subst Q high (subst P (sym aligned)
        (whole_in s.arena s.table.items s.extents sound.0 (record { from = grain_of base; count = can.segment.grains }) own_held
        s.extents.covered
        (λ t there. there)))

    first_is : get_or s.firsts.items (grain_of base) 0 ≡ grain_of base
    first_is =
        let own : Run = record { from = grain_of base; count = can.segment.grains } in
        sound.1.firsts_are (grain_of base) (omega (arith, own_bounds.1, own_bounds.2))
        ∙ ap or_zero (run_over_in 1 (s.arena.grains + 1) s.arena.held own (grain_of base) sound.0.ascending own_held (omega arith)
        (omega (arith, own_bounds.1)))

    grain_within : grain_of base < length s.firsts.items
    grain_within = omega (arith, own_bounds.1, own_bounds.2, sound.1.firsts_size)

    first_within : first_at s.firsts.items base < length s.bounds
    first_within = omega (arith, first_is, own_bounds.1, own_bounds.2, sound.1.bounds_size)

    swept_is_sound : (lost : List Run) → lost ≡ lost_in s low end
        → IsSoundInside (record s {
          extents = dropped lost s.extents;
          marks = unmarked lost s.marks;
          bounds = with_any_gap s.firsts.items s.bounds base;
        })
    swept_is_sound lost are =
        let grain = grain_of base in
        let size = s.arena.grains + 1 in
        let first = get_or s.firsts.items grain 0 in
        let small : size < 2 ^ 20 = omega (arith, sound.0.at_most) in
        let raised =
        bounded_raised s.arena.held size s.firsts.items s.bounds s.extents.covered first sound.1 sound.0.ascending
        (omega (arith, first_is, own_bounds.1, own_bounds.2))
        small
        in
        let P : List Run → Type 0 = λ rs. IsAscending 0 s.extents.size rs in (
          held_swept s.arena s.table.items lost s.extents (without_runs lost s.extents.blocks) s.extents.reservations sound.0,
          bounded_swept s.arena.held size s.firsts.items (with_any_gap s.firsts.items s.bounds base) s.extents.covered lost grain 0
              s.extents.size
              s.extents.size
              raised
              sound.0.ascending
              small
              sound.0.covered_ascending
              (omega (arith, first_within, length-set s.bounds first any_gap))
              (get_or-set_same s.bounds first any_gap 0 first_within)
              (subst P (sym are) (lost_ascends low end 0 s.extents.size s.marks.kept s.extents.blocks ordered))
              (λ r there.
              let Q : List Run → Type 0 = λ rs. Contains rs r in
              let is = lost_member low end s.marks.kept s.extents.blocks r (subst Q are there) in
              let covered = part r is.there in
              let last = whole_end low end s.extents.covered r whole covered is.above is.below in
              let own : OwnSegment s.arena.held size s.firsts.items grain r = record {
                run = record { from = grain; count = can.segment.grains };
                there = own_held;
                first = first_is;
                grain_within = omega (arith, own_bounds.1, own_bounds.2);
                first_within = omega (arith, own_bounds.1, own_bounds.2);
                above = omega (arith, aligned, is.above);
                below = omega (arith, aligned, ends, is.below);
                before = omega (arith, aligned, ends, last);
              } in
              (covered, own)),
          marked_unmarked s.arena.grains lost s.marks s.condemned s.summaries.items sound.2,
          sound.3,
          sound.4,
        )

    -- ---- what a caller sees

    lost_seen : lost_runs low end s.marks.kept s.extents.blocks ≡ lost_of seen can.segment
    lost_seen =
        let high : end ≡ word_of (end_of_segment can.segment) = omega (arith, ends, starts, can.begins) in
        ap (λ (a : ℕ). lost_runs a end s.marks.kept s.extents.blocks) starts
        ∙ ap (λ (b : ℕ). lost_runs (word_of base) b s.marks.kept s.extents.blocks) high
        ∙ ap (λ (st : SegsState). lost_between (word_of base) (word_of (end_of_segment can.segment)) st) is
        ∙ lost_from_base seen base spare can

    few_lost : length (lost_runs low end s.marks.kept s.extents.blocks) ≤ spare
    few_lost =
        omega (
          arith,
          can.room,
          ap (λ (rs : List Run). length rs) (lost_seen ∙ sym (lost_from_base seen base spare can)),
        )

    freed_seen : (t : Segment) → segment_over seen.segments base ≡ Some t
        → without_blocks (lost_runs low end s.marks.kept s.extents.blocks) (seen_by s) ≡ freed_in seen t
    freed_seen t over =
        ap (λ (rs : List Run). without_blocks rs (seen_by s)) lost_seen
        ∙ ap (λ (st : SegsState). without_blocks (lost_of seen can.segment) st) is
        ∙ ap (λ (u : Segment). freed_in seen u) (is_mine seen base spare can t over)

    moves_seen : (t : Segment) (moves : Moves) → segment_over seen.segments base ≡ Some t
        → moves_freed (lost_runs low end s.marks.kept s.extents.blocks) moves ≡ moves_freed_in seen t moves
    moves_seen t moves over =
        ap (λ (rs : List Run). moves_freed rs moves) lost_seen
        ∙ ap (λ (u : Segment). moves_freed_in seen u moves) (is_mine seen base spare can t over)

    white : AreWhite (lost_in s low end) s.marks.kept
    white = lost_are_white low end s.marks.kept s.extents.blocks (omega (arith, within, sound.2.kept_size, sound.0.covered_size))

    pub sweepable : IsSweepable s seen base spare low end
    sweepable = record {
      in_table = within;
      in_kept = omega (arith, within, sound.2.kept_size, sound.0.covered_size);
      in_words = in_words;
      ordered = upwards;
      whole = whole;
      in_firsts = grain_within;
      in_bounds = first_within;
      fits = few_lost;
      same_kept = λ {kept} is. is ∙ unmarked_kept (lost_in s low end) s.marks white;
      same_lost = λ {kept} is.
          ap (λ (ks : List Bool). lost_runs low end ks s.extents.blocks) (is ∙ unmarked_kept (lost_in s low end) s.marks white);
      sound = swept_is_sound (lost_in s low end) refl;
      state = λ t over. all_freed (lost_in s low end) (seen_by s) ∙ freed_seen t over;
      moves = λ t moves over. all_noted (lost_in s low end) moves ∙ moves_seen t moves over;
      none_lost = λ {kept} is none. sym (ap (λ (ks : List Bool). lost_runs low end ks s.extents.blocks) is) ∙ none;
      none_changed = λ t over none.
          ap (λ (rs : List Run). without_blocks rs (seen_by s)) (sym none) ∙ freed_seen t over;
      none_freed = λ t moves over none. ap (λ (rs : List Run). moves_freed rs moves) (sym none) ∙ moves_seen t moves over;
    }

-- the words are those from the base on, as many as the segment is known to have
pub sweeping : {seen : SegsState} {base : Address} {spare low : ℕ} {info : SegmentInfo} (s : Inside) → CanReclaim seen base spare
    → IsSoundInside s → seen_by s ≡ seen → low ≡ word_of base
    → ((t : Segment) → Contains seen.segments t → t.base ≡ base → info ≡ info_of seen t)
    → ((r : Run) → Contains s.extents.blocks r → Contains s.extents.covered r) → IsAscending 0 s.extents.size s.extents.blocks
    → IsSweepable s seen base spare low (low + words_of_grain * info.grains)
sweeping {seen} {base} {spare} {low} {info} s can sound is starts known part ordered =
    let grains = ap (λ (i : SegmentInfo). i.grains) (known can.segment (listed seen base spare can) can.begins) in
    sweepable s seen base spare can sound is low (low + words_of_grain * info.grains) starts (omega (arith, grains)) part ordered
