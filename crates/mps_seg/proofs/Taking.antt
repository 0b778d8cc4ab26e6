-- What is known of the tables where a new segment is taken.
use Rattle.std.proofs.Common.{ℕ, true, false, get_or, ◌+◌, ◌*◌, ◌^◌, ◌<◌, ◌≤◌, ◌≡◌, Some, Ok, List, length, map, set, sym, ap, ◌∙◌, subst, arith}
use Rattle.mps_base.specs.Run.{Run, gaps, lowest_fitting, total, with_run}
use Rattle.mps_base.specs.Address.{words_of_grain, grain_of, word_of, grains_needed}
use Rattle.mps_base.specs.Placement.{Placement, NewSegment}
use Rattle.mps_base.specs.declared.address.Addr.{Addr}
use Rattle.mps_base.specs.declared.names.Rank.{Rank}
use Rattle.mps_base.proofs.Runs.{in_lowest_gap, total-le}
use Rattle.mps_arena.specs.Arena.{ArenaMemory, answer_of_placement, held_after, placement_in}
use Rattle.mps_seg.specs.declared.entry.Entry.{Entry}
use Rattle.mps_seg.specs.declared.entry.Entry.TheVariants.{First}
use Rattle.mps_seg.specs.declared.segs.Segs.TheInside.{Inside}
use Rattle.mps_seg.specs.Segs.{placement_for, segments_after, noted_for, IsOpenRun}
use Rattle.mps_seg.specs.Table.{segments_in, IsHeld, AreGapsBounded, AreAskedNoted}
use Rattle.mps_seg.proofs.AskedNoted.{noted_after_take}
use Rattle.mps_seg.proofs.BoundedGaps.{Noted, bounded_after_take}
use Rattle.mps_seg.proofs.HeldSegments.{free_entry, new_is_free, segments_after_take, held_after_take}
use Rattle.mps_seg.proofs.Placements.{taken_at}
use Rattle.mps_seg.specs.Counting.{is_counted, index_for, counting_on, IsCounted}
use Rattle.mps_seg.proofs.Counted.{counted-le, counted_after_take}
use Rattle.mps_seg.proofs.Seen.{seen_by, IsSoundInside}
use Rattle.mps_seg.proofs.Covering.{run_at}
use Rattle.mps_base.specs.Segment.{grains_of_segment}

-- the grains of a new segment for n words, and its entry
abbrev pub new_run : (base words : ℕ) → Run
new_run base words = record { from = grain_of base; count = grains_needed words }

abbrev pub new_entry : (words pool generation : ℕ) → Rank → Entry
new_entry words pool generation rank = First (grains_needed words) pool generation rank

-- the arena that holds it too
abbrev pub arena_with : ArenaMemory → (base words : ℕ) → ArenaMemory
arena_with arena base words = record arena { held = with_run (new_run base words) arena.held }

-- the arena took the grains at an address for a new segment
pub record Taking (s : Inside) (base words pool generation : ℕ) (rank : Rank) : Type 0 where
  pub in_table : grain_of base < length s.table.items
  pub in_bounds : grain_of base < length s.bounds
  pub at_most : grain_of base < 2 ^ 32
  pub in_firsts : grain_of base + grains_needed words ≤ length s.firsts.items
  pub held_is : held_after (placement_in s.arena (grains_needed words)) s.arena.held ≡ with_run (new_run base words) s.arena.held
  pub held : IsHeld (arena_with s.arena base words) (set s.table.items (grain_of base) (new_entry words pool generation rank)) s.extents
  pub bounded : (firsts : List ℕ) → Noted s.firsts.items firsts (new_run base words) (grain_of base)
      → AreGapsBounded (with_run (new_run base words) s.arena.held) (s.arena.grains + 1) firsts
      (set s.bounds (grain_of base) (words_of_grain * grains_needed words)) s.extents.covered
  pub segments :
      segments_in (set s.table.items (grain_of base) (new_entry words pool generation rank))
      ≡ segments_after (placement_for (seen_by s) words) pool generation rank (segments_in s.table.items)
  pub condemned :
      set s.condemned (grain_of base) false ≡ noted_for (placement_for (seen_by s) words) false s.condemned
  pub summaries :
      set s.summaries.items (grain_of base) 0 ≡ noted_for (placement_for (seen_by s) words) 0 s.summaries.items
  pub count_fits : is_counted pool generation ≡ true → get_or s.counts (index_for pool generation) 0 + grains_needed words < 2 ^ 32
  pub counted :
      IsCounted (counting_on pool generation (grains_needed words) s.counts)
      (segments_in (set s.table.items (grain_of base) (new_entry words pool generation rank)))
  pub asked : (firsts : List ℕ) → Noted s.firsts.items firsts (new_run base words) (grain_of base)
      → AreAskedNoted (s.arena.grains + 1) firsts (set s.table.items (grain_of base) (new_entry words pool generation rank))
      (set s.condemned (grain_of base) false) s.white.items
  pub can_cover :
      IsOpenRun s.arena.grains
      (map grains_of_segment (segments_in (set s.table.items (grain_of base) (new_entry words pool generation rank)))) s.extents.covered
      (run_at base words)
  pub all_free :
      IsOpenRun s.arena.grains
      (map grains_of_segment (segments_in (set s.table.items (grain_of base) (new_entry words pool generation rank)))) s.extents.covered
      (run_at base (words_of_grain * grains_needed words))

pub taking : (s : Inside) (base : Addr) (words pool generation : ℕ) (rank : Rank) → IsSoundInside s → 0 < words
    → Ok base ≡ answer_of_placement (placement_in s.arena (grains_needed words)) → Taking s base.0 words pool generation rank
taking s base words pool generation rank sound nonzero answer =
    let need = grains_needed words in
    let grain = grain_of base.0 in
    let arena = s.arena in
    let some : 0 < need = omega arith in
    let taken = taken_at arena need base answer in
    let P : ℕ → Type 0 = λ g. placement_in arena need ≡ NewSegment g need in
    let Q : ℕ → Type 0 = λ g. lowest_fitting need (gaps 1 (arena.grains + 1) arena.held) ≡ Some g in
    let placement_is = subst P (sym taken.1.base_is) taken.1.placement_is in
    let lowest = subst Q (sym taken.1.base_is) taken.1.lowest in
    let gap = in_lowest_gap 1 (arena.grains + 1) arena.held need grain some sound.0.ascending lowest in
    let first : words_of_grain * grain ≡ word_of base.0 = omega (arith, taken.1.base_at) in
    let entry = new_entry words pool generation rank in
    let R : ℕ → ℕ → Type 0 = λ n w.
    IsOpenRun arena.grains (map grains_of_segment (segments_in (set s.table.items grain entry))) s.extents.covered
    (record { from = w; count = n })
    in
    let seen : placement_for (seen_by s) words ≡ placement_in arena need =
    ap (λ (rs : List Run). placement_in (record arena { held = rs }) need) (sym sound.0.held)
    in
    record {
      in_table = omega (arith, gap.below, some, sound.0.size);
      in_bounds = omega (arith, gap.below, some, sound.1.bounds_size);
      at_most = omega (arith, gap.below, some, sound.0.at_most);
      in_firsts = omega (arith, gap.below, sound.1.firsts_size);
      held_is = ap (λ (p : Placement). held_after p arena.held) placement_is;
      held = held_after_take arena s.table.items s.extents sound.0 need grain pool generation rank some lowest;
      bounded = λ firsts noted.
          bounded_after_take arena s.table.items s.extents s.firsts.items firsts s.bounds need grain sound.0 sound.1 some lowest
          noted;
      segments =
          segments_after_take arena s.table.items s.extents sound.0 need grain pool generation rank some lowest
          ∙ ap (λ (p : Placement). segments_after p pool generation rank (segments_in s.table.items)) (sym (seen ∙ placement_is));
      condemned = ap (λ (p : Placement). noted_for p false s.condemned) (sym (seen ∙ placement_is));
      summaries = ap (λ (p : Placement). noted_for p 0 s.summaries.items) (sym (seen ∙ placement_is));
      count_fits = λ inside.
          let most = counted-le s.counts s.table.items sound.3 pool generation inside in
          let P : List Run → Type 0 = λ rs. 1 + total rs ≤ arena.grains + 1 in
          let all = subst P sound.0.held (total-le 1 (arena.grains + 1) arena.held sound.0.ascending) in
          omega (arith, most, all, gap.below, sound.0.at_most);
      counted =
          counted_after_take s.counts s.table.items sound.3 grain need pool generation rank (omega (arith, gap.below, some, sound.0.size))
          (free_entry arena s.table.items s.extents sound.0 need grain some lowest);
      asked = λ firsts noted.
          noted_after_take (arena.grains + 1) arena.held s.firsts.items s.bounds s.extents.covered s.table.items s.condemned s.white.items
          sound.0.ascending sound.1 sound.4 (record { from = grain; count = need }) entry some gap.ascending
          (free_entry arena s.table.items s.extents sound.0 need grain some lowest)
          (omega (arith, gap.below, some, sound.2.condemned_size)) firsts noted;
      can_cover =
          subst (R words) first
          (new_is_free arena s.table.items s.extents sound.0 need grain pool generation words rank some nonzero (omega arith) lowest);
      all_free =
          subst (R (words_of_grain * need)) first
          (new_is_free arena s.table.items s.extents sound.0 need grain pool generation (words_of_grain * need) rank some
          (omega (arith, some)) (omega arith) lowest);
    }
