-- Units to the end of a collection take no more room of a trail than a collection may take.
use Rattle.std.proofs.Common.{◌≡◌, ◌∙◌, ℕ, suc, ◌+◌, ◌-◌, ◌*◌, ◌≤◌, sym, ap, subst, List, length, Option, arith}
use Rattle.std.proofs.lemmas.List.{length-append}
use Rattle.std.specs.Prelude.{min}
use Rattle.mps_base.specs.Address.{Address}
use Rattle.mps_base.specs.Run.{total}
use Rattle.mps_base.specs.Segment.{Segment}
use Rattle.mps_base.specs.declared.moves.Move.{Move}
use Rattle.mps_base.specs.Trail.{Moves}
use Rattle.mps_format.specs.Layout.{Layout}
use Rattle.mps_model.specs.World.{World}
use Rattle.mps_model.specs.Effect.{world_after_moves}
use Rattle.mps_seg.specs.Segs.{held_runs}
use Rattle.mps_seg.specs.Table.{IsMarked}
use Rattle.mps_refinement.specs.MovesNeeded.{moves_needed}
use Rattle.mps_refinement.proofs.Collect.LiveIsFew.{most_now, segments_in_grains, words_are_live}
use Rattle.mps_refinement.proofs.Collect.FewerWords.{HasGrownBy, moves_grow}
use Rattle.mps_pools.specs.Pools.{trace_of}
use Rattle.mps_pools.specs.Collecting.{IsTraceOf}
use Rattle.mps_trace.specs.Collect.{most_moves}
use Rattle.mps_trace.specs.State.{FinalsState}
use Rattle.mps_trace.specs.Trace.{TraceState, Traced, traced}
use Rattle.mps_trace.specs.Unit.{EndsWithin}
use Rattle.mps_abstract.specs.Collecting.{Collecting}
use Rattle.mps_trace_laws.specs.Units.Laws.{AreLastTracedUnitsDone}
use Rattle.mps_trace_laws.proofs.Units.Scanning.{scans_are_done}
use Rattle.mps_heap_spec.specs.State.{HeapState}
use Rattle.mps_refinement.specs.RightMoving.{KeepsRoom}
use Rattle.mps_refinement.specs.StandsFor.{AreParts, Past, Runs, collector_of, time_at_rest}
use Rattle.mps_refinement.proofs.Collect.PushedMoves.{none_pushed}
use Rattle.mps_refinement.proofs.Collect.RoomKept.{units_keep_room}
use Rattle.mps_refinement.proofs.Units.Ended as ended
use Rattle.mps_refinement.proofs.Units.LessRoom.{ends_with_less, traced_with_less, with_less}
use Rattle.mps_refinement.proofs.Units.MovedParts.{collected_heap}
use Rattle.mps_refinement.proofs.Units.ToUnits.{stands_for_units}
use Rattle.mps_refinement.proofs.Worlds.LikeReached.{IsBare}

-- with room for two collections of what there is, the first of which takes no more than it needs, there is room for one of what it leaves
room_after : (words words_left segments segments_left grains whole made spare left : ℕ) → words_left ≤ words
    → segments_left ≤ segments + made → segments ≤ grains → left + made ≡ spare → spare - min (2 * words + segments + 4) whole ≤ left
    → 2 * min (3 * words + 2 * grains + 6) whole ≤ spare → min (2 * words_left + segments_left + 4) whole ≤ left
room_after words words_left segments segments_left grains whole made spare left fewer few within all more both_fit =
    omega (arith, fewer, few, within, all, more, both_fit)

module _ {F : Type 0} (layout : F → Layout) (past : Past) (h : HeapState F) (x : Collecting) (parts : AreParts layout past h x.world)
    (bare : IsBare x.world) (r : Runs past.time (collector_of h) x.world x)
    (of : IsTraceOf h.pools h.chains (trace_of h.pools h.chains h.tails))
    (marked : IsMarked h.segs.grains h.segs.marks h.segs.condemned h.segs.summaries)
    (m : Moves) (room : most_now h.segs ≤ m.spare) (most : ℕ) (z : Traced) (f : FinalsState)
    (ends : EndsWithin layout (trace_of h.pools h.chains h.tails).formats (trace_of h.pools h.chains h.tails).chains
    (traced (trace_of h.pools h.chains h.tails) h.segs m) h.finals r.run most z f) where
  abbrev t : TraceState F
  t = trace_of h.pools h.chains h.tails

  abbrev at_flip : List (Option Address)
  at_flip = past.time.at_flip

  -- the units to the end keep the room of the trail
  pub finish_keeps_room : KeepsRoom m z.moves
  finish_keeps_room = ended.keeps_room layout past h x parts bare r of marked m room most z f ends

  -- they could be done with this room alone
  abbrev more : ℕ
  more = m.spare - most_now h.segs

  less_kept : KeepsRoom (with_less more m) (with_less more z.moves)
  less_kept =
      units_keep_room layout t at_flip (with_less more m) (traced_with_less more (traced t h.segs m)) (traced_with_less more z) h.finals f
      r.run x most (scans_are_done layout t.formats t.chains at_flip)
      (stands_for_units layout past h x parts bare r of marked (with_less more m) (omega (arith, room))) (none_pushed (with_less more m))
      (ends_with_less more layout t.formats t.chains ends)

  pub more_is_left : more ≤ z.moves.spare
  more_is_left = let whole = finish_keeps_room in let part = less_kept in omega (arith, whole, part, room)

  same_grains : z.segs.grains ≡ h.segs.grains
  same_grains =
      (ended.done layout past h x parts bare r of marked m room most z f ends).segments.same_grains
      ∙ ap (λ (u : World). u.grains) (ended.left layout past h x parts bare r of marked m room most z f ends).but_collected.world
      ∙ sym parts.grains

  -- ---- another collection after it

  abbrev w : World
  w = x.world

  abbrev done : AreLastTracedUnitsDone (traced t h.segs m) x (suc ends.count) z f
  done = ended.done layout past h x parts bare r of marked m room most z f ends

  abbrev v : World
  v = world_after_moves w done.moves

  parts_then : AreParts layout (record past { time = time_at_rest }) (collected_heap h (ended.collector_at_rest z) f) v
  parts_then = ended.parts_after layout past h x parts bare r of marked m room most z f ends

  -- no more words are live, and each move took one segment at most
  grown : HasGrownBy (length done.moves) v w
  grown = moves_grow w done.moves

  words_then : total z.segs.blocks ≤ total h.segs.blocks
  words_then =
      let before = words_are_live layout past h w parts in
      let heap_then = collected_heap h (ended.collector_at_rest z) f in
      let after = words_are_live layout (record past { time = time_at_rest }) heap_then v parts_then in
      let fewer = grown.words in
      omega (arith, before, after, fewer)

  segments_then : length z.segs.segments ≤ length h.segs.segments + length done.moves
  segments_then =
      let before : length h.segs.segments ≡ length w.segments = ap (λ (ss : List Segment). length ss) parts.segments in
      let after : length z.segs.segments ≡ length v.segments = ap (λ (ss : List Segment). length ss) parts_then.segments in
      let more_segments = grown.segments in
      omega (arith, before, after, more_segments)

  moves_made : z.moves.spare + length done.moves ≡ m.spare
  moves_made =
      let kept = finish_keeps_room in
      let appended : length z.moves.moves ≡ length m.moves + length done.moves =
      ap (λ (ms : List Move). length ms) done.trail ∙ length-append m.moves done.moves in
      omega (arith, kept, appended)

  -- with room for two collections there is room for another one
  pub room_then : 2 * moves_needed h.segs ≤ m.spare → most_now z.segs ≤ z.moves.spare
  room_then both_fit =
      subst (λ (n : ℕ). min (2 * total z.segs.blocks + length z.segs.segments + 4) (most_moves n) ≤ z.moves.spare) (sym same_grains)
      (room_after (total h.segs.blocks) (total z.segs.blocks) (length h.segs.segments) (length z.segs.segments) (total (held_runs h.segs))
      (most_moves h.segs.grains) (length done.moves) m.spare z.moves.spare words_then segments_then
      (segments_in_grains layout past h w parts bare.like.kept.layout) moves_made more_is_left both_fit)
