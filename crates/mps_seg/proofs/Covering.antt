-- What is known of the tables where words in a segment are covered, and where they are uncovered.
use Rattle.std.proofs.Common.{ℕ, ◌+◌, ◌*◌, ◌<◌, ◌≡◌, List, length, Contains, sym, subst, arith, map}
use Rattle.mps_base.proofs.Runs.{contained_bounds}
use Rattle.mps_base.specs.Run.{Run, IsAscending, with_run, without_run}
use Rattle.mps_base.specs.Address.{words_of_grain, grain_of, word_of}
use Rattle.mps_base.specs.Segment.{grains_of_segment}
use Rattle.mps_seg.specs.Segs.{SegsState, CanCover, IsOpenRun}
use Rattle.mps_seg.specs.Table.{segments_in, IsHeld, AreGapsBounded, first_at, with_any_gap}
use Rattle.mps_seg.proofs.Seen.{seen_by, IsSoundInside}
use Rattle.mps_seg.specs.declared.segs.Segs.TheInside.{Inside}
use Rattle.mps_seg.proofs.BoundedGaps.{OwnSegment, own_segment_of_covered, bounded_after_cover, bounded_after_uncover}
use Rattle.mps_seg.proofs.HeldSegments.{held_after_cover, held_after_uncover, free_again}

-- the words from an address on
abbrev pub run_at : (at words : ℕ) → Run
run_at at words = record { from = word_of at; count = words }

-- words that can be covered
pub record Covering (s : Inside) (at words : ℕ) : Type 0 where
  pub free : IsAscending 0 s.extents.size (with_run (run_at at words) s.extents.covered)
  pub held : (blocks reservations : List Run)
      → IsHeld s.arena s.table.items
      (record s.extents { covered = with_run (run_at at words) s.extents.covered; blocks = blocks; reservations = reservations })
  pub bounded :
      AreGapsBounded s.arena.held (s.arena.grains + 1) s.firsts.items s.bounds (with_run (run_at at words) s.extents.covered)

pub covering : (s : Inside) (seen : SegsState) (at words : ℕ) → IsSoundInside s → seen_by s ≡ seen
    → 0 < words
    → CanCover seen (run_at at words) → Covering s at words
covering s seen at words sound is nonzero free =
    let r = run_at at words in
    let can = subst (λ (x : SegsState). CanCover x r) (sym is) free in
    let P : ℕ → Type 0 = λ size. IsAscending 0 size (with_run r s.extents.covered) in
    let ascending = subst P (sym sound.0.covered_size) can.free in
    record {
      free = ascending;
      held = λ blocks reservations.
          held_after_cover s.arena s.table.items s.extents sound.0 r blocks reservations nonzero ascending can.inside;
      bounded =
          bounded_after_cover s.arena.held (s.arena.grains + 1) s.firsts.items s.bounds s.extents.covered sound.1
          sound.0.ascending r;
    }

-- words that are one covered run
pub record Uncovering (s : Inside) (at words : ℕ) : Type 0 where
  pub grain_within : grain_of at < length s.firsts.items
  pub first_within : first_at s.firsts.items at < length s.bounds
  pub in_arena : word_of at < words_of_grain * (s.arena.grains + 1)
  pub held : (blocks reservations : List Run)
      → IsHeld s.arena s.table.items
      (record s.extents { covered = without_run (word_of at) s.extents.covered; blocks = blocks; reservations = reservations })
  pub bounded :
      AreGapsBounded s.arena.held (s.arena.grains + 1) s.firsts.items (with_any_gap s.firsts.items s.bounds at)
      (without_run (word_of at) s.extents.covered)
  pub can_cover : (blocks reservations : List Run)
      → IsOpenRun s.arena.grains (map grains_of_segment (segments_in s.table.items)) (without_run (word_of at) s.extents.covered)
      (run_at at words)

pub uncovering : (s : Inside) (at words : ℕ) → IsSoundInside s → Contains s.extents.covered (run_at at words) → Uncovering s at words
uncovering s at words sound there =
    let r = run_at at words in
    let grain = grain_of at in
    let size = s.arena.grains + 1 in
    let own : OwnSegment s.arena.held size s.firsts.items grain r =
    own_segment_of_covered s.arena s.table.items s.extents s.firsts.items s.bounds sound.0 sound.1 grain r there (omega arith)
    (omega arith)
    in
    record {
      grain_within = omega (arith, own.grain_within, sound.1.firsts_size);
      first_within = omega (arith, own.first, own.first_within, sound.1.bounds_size);
      in_arena =
          omega (
            arith,
            (contained_bounds 0 s.extents.size s.extents.covered r sound.0.covered_ascending there).2,
            sound.0.nonempty r there,
            sound.0.covered_size,
          );
      held = λ blocks reservations. held_after_uncover s.arena s.table.items s.extents sound.0 (word_of at) blocks reservations;
      bounded =
          bounded_after_uncover s.arena.held size s.firsts.items s.bounds s.extents.covered sound.1 sound.0.ascending grain 0
          s.extents.size r sound.0.covered_ascending there own (omega (arith, sound.0.at_most));
      can_cover = λ blocks reservations. free_again s.arena s.table.items s.extents sound.0 r blocks reservations there;
    }
