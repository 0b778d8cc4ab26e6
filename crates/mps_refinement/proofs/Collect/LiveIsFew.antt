-- How many objects are live at most, how many segments are held, and how many moves a collection takes, in an arena of n grains: each
-- object has a word of its own in a grain that can be held, and two if it is automatic, and each segment a grain.
use Rattle.mps_model.specs.WellFormed.{IsWellFormed}
use Rattle.std.proofs.Common.{◌≡◌, ◌∙◌, ℕ, zero, suc, ◌+◌, ◌*◌, ◌<◌, ◌≤◌, ap, subst, List, [], ◌∷◌, length, map, Some, Contains, arith}
use Rattle.std.proofs.lemmas.List.{length-map}
use Rattle.mps_base.specs.Address.{words_of_grain}
use Rattle.mps_base.specs.Run.{Run, IsAscending, end_of, total}
use Rattle.mps_base.specs.Segment.{Segment, grains_of_segment}
use Rattle.mps_base.proofs.Runs.{total-cons}
use Rattle.std.specs.Prelude.{min, slice_get}
use Rattle.mps_format.specs.Layout.{Layout}
use Rattle.mps_model.specs.Graph.{Object}
use Rattle.mps_trace.specs.Collect.{most_moves, most_units}
use Rattle.mps_seg.specs.Segs.{SegsState, held_runs}
use Rattle.mps_trace_laws.proofs.Begin.MovesOfObjects.{moves_by_words, room_is_enough}
use Rattle.mps_trace_laws.proofs.Image.Laws.{well_formed_is_shaped}
use Rattle.mps_trace_laws.specs.Begin.MovesOfObjects.{IsRoomy, moves_of}
use Rattle.mps_model.specs.World.{World, extents_of, is_copying_pool, live_ids}
use Rattle.mps_laws.proofs.Positions.LegalMoves.{HasLayout}
use Rattle.mps_laws.proofs.Sound.SoundGraph.{IsSoundGraph}
use Rattle.mps_heap_spec.specs.State.{HeapState}
use Rattle.mps_refinement.specs.StandsFor.{AreParts, Past}
use Rattle.mps_refinement.specs.MovesNeeded.{moves_needed}
use Rattle.mps_refinement.proofs.Calls.LiveBlocks.{blocks_are_counted, total-in_order}
use Rattle.mps_refinement.proofs.Collect.FewerWords.{live_words, words_of_extents}
use Rattle.mps_refinement.proofs.Collect.StrongMoving.{strong_object}
use Rattle.mps_refinement.proofs.Parts.LaidSegments.{blocks_in_grains}

-- the most moves that a collection makes of what there is now: two for each word of a live block, one for each segment, and four; and never
-- more than in the whole arena
abbrev pub most_now : SegsState → ℕ
most_now s = min (2 * total s.blocks + length s.segments + 4) (most_moves s.grains)

-- what a list contains stands at an index
contained_at : {A : Type 0} (xs : List A) (x : A) → Contains xs x → (k : ℕ) × (slice_get xs k ≡ Some x)
contained_at [] x (k, within, is) = absurd (omega (arith, within))
contained_at (y ∷ ys) x (zero, within, is) = (0, ap Some is)
contained_at (y ∷ ys) x (suc k, within, is) =
    let later = contained_at ys x (k, omega (arith, within), is) in (suc later.0, later.1)

-- each of ascending runs has a number of its own
pub runs_are_few : (low high : ℕ) (rs : List Run) → IsAscending low high rs → low + length rs ≤ high
runs_are_few low high [] ascending = omega (arith, ascending)
runs_are_few low high (r ∷ rs) ascending =
    let rest = runs_are_few (end_of r) high rs ascending.2 in
    omega (arith, rest, ascending.0, ascending.1)

-- and no run is empty
runs_are_fewer : (low high : ℕ) (rs : List Run) → IsAscending low high rs → length rs ≤ total rs
runs_are_fewer low high [] ascending = omega arith
runs_are_fewer low high (r ∷ rs) ascending =
    let rest = runs_are_fewer (end_of r) high rs ascending.2 in
    let cons = total-cons r rs in
    omega (arith, rest, ascending.1, cons)

segments_are_few : (w : World) → HasLayout (w.grains + 1) w → length w.segments ≤ w.grains
segments_are_few w laid =
    let few = runs_are_few 1 (w.grains + 1) (map grains_of_segment w.segments) laid.ascending in
    let long : length (map grains_of_segment w.segments) ≡ length w.segments = length-map w.segments grains_of_segment in
    omega (arith, few, long)

module _ {F : Type 0} (layout : F → Layout) (past : Past) (h : HeapState F) (w : World) (parts : AreParts layout past h w) where
  words_are_here : total h.segs.blocks ≡ total (extents_of w.graph.objects w.addresses)
  words_are_here = ap total parts.image.runs.blocks ∙ total-in_order (extents_of w.graph.objects w.addresses)

  pub words_are_live : total h.segs.blocks ≡ live_words w
  words_are_live = words_are_here ∙ words_of_extents w.graph.objects w.addresses

  -- a segment holds a grain at least
  pub segments_in_grains : HasLayout (w.grains + 1) w → length h.segs.segments ≤ total (held_runs h.segs)
  segments_in_grains laid =
      let few = runs_are_fewer 1 (w.grains + 1) (map grains_of_segment w.segments) laid.ascending in
      let long : length (map grains_of_segment w.segments) ≡ length w.segments = length-map w.segments grains_of_segment in
      let held : total (held_runs h.segs) ≡ total (map grains_of_segment w.segments) =
      ap (λ (ss : List Segment). total (map grains_of_segment ss)) parts.segments in
      let segments : length h.segs.segments ≡ length w.segments = ap (λ (ss : List Segment). length ss) parts.segments in
      omega (arith, few, long, held, segments)

  -- that most is no more than a heap says that it needs
  pub needed_is_enough : HasLayout (w.grains + 1) w → most_now h.segs ≤ moves_needed h.segs
  needed_is_enough laid = let held = segments_in_grains laid in omega (arith, held)

module _ {F : Type 0} (layout : F → Layout) (past : Past) (h : HeapState F) (w : World) (parts : AreParts layout past h w)
    (formed : IsWellFormed w) (laid : HasLayout (w.grains + 1) w)
    (ascending : IsAscending 0 (words_of_grain * (h.segs.grains + 1)) h.segs.blocks) where
  pub live_is_few : length (live_ids w) ≤ words_of_grain * (w.grains + 1)
  live_is_few =
      let few = runs_are_few 0 (words_of_grain * (h.segs.grains + 1)) h.segs.blocks ascending in
      let counted = blocks_are_counted layout h w past parts formed in
      let grains = parts.grains in
      omega (arith, few, counted, grains)

  roomy : (sound : IsSoundGraph w) (o : Object) → Contains w.graph.objects o → IsRoomy (is_copying_pool w) o
  roomy sound o there =
      let k = contained_at w.graph.objects o there in
      record {
        large = λ automatic. ((well_formed_is_shaped w parts.lawful formed).sizes k.0 o k.1 automatic).0;
        strong = strong_object w sound k.0 o k.1;
      }

  few_of_the_arena : IsSoundGraph w
      → moves_of (is_copying_pool w) w.graph.objects w.addresses + length w.segments + 4 ≤ most_moves h.segs.grains
  few_of_the_arena sound =
      let moves = room_is_enough (is_copying_pool w) w.graph.objects w.addresses words_of_grain (words_of_grain * (h.segs.grains + 1))
      (subst (λ (rs : List Run). IsAscending words_of_grain (words_of_grain * (h.segs.grains + 1)) rs) parts.image.runs.blocks
      (blocks_in_grains layout past h w parts laid)) (roomy sound) in
      let segments = segments_are_few w laid in
      let grains = parts.grains in
      let some = parts.arena.nonzero in
      omega (arith, moves, segments, grains, some)

  -- so there is room for all moves of a collection where there is for this many
  pub moves_are_few : IsSoundGraph w
      → moves_of (is_copying_pool w) w.graph.objects w.addresses + length w.segments + 4 ≤ most_now h.segs
  moves_are_few sound =
      let moves = moves_by_words (is_copying_pool w) w.graph.objects w.addresses (roomy sound) in
      let words = words_are_here layout past h w parts in
      let segments : length h.segs.segments ≡ length w.segments = ap (λ (ss : List Segment). length ss) parts.segments in
      let arena = few_of_the_arena sound in
      omega (arith, moves, words, segments, arena)

  -- and fewer units than this
  pub units_are_below : (registrations : ℕ) → registrations ≡ length w.graph.registered
      → length (live_ids w) + length w.graph.registered + length w.segments < most_units h.segs.grains registrations
  units_are_below registrations registered =
      let live = live_is_few in
      let segments = segments_are_few w laid in
      let grains = parts.grains in
      omega (arith, live, segments, grains, registered)
