-- `pop` over a trail that has moves: it appends its own, rightly, and the trail keeps its room. It makes no more than a collection.
use Rattle.std.proofs.Common.{◌≡◌, ◌≤◌, ◌+◌, ◌*◌, ℕ, zero, suc, refl, ap, List, length, map, subst, Option, Some, None, Ok, Err, arith}
use Rattle.std.proofs.lemmas.List.{length-drop, length-map}
use Rattle.std.specs.Prelude.{drop, slice_get}
use Rattle.std.specs.Option.{option_map_or}
use Rattle.mps_base.specs.Address.{Address, words_of_grain}
use Rattle.mps_base.specs.Trail.{Moves}
use Rattle.mps_base.specs.declared.names.Name.{Name}
use Rattle.mps_base.specs.declared.refusal.Refusal.TheVariants as refusal
use Rattle.mps_changes.proofs.Frames.{blocks_in, counted_passes}
use Rattle.mps_format.specs.Layout.{Layout}
use Rattle.mps_format.specs.declared.pool.Pool.{Pool}
use Rattle.mps_laws.proofs.Frames.{AreRightFrames, frames_live}
use Rattle.mps_laws.proofs.Replays.FreeSteps.{BlocksAreLive}
use Rattle.mps_laws.proofs.Same as same
use Rattle.mps_laws.proofs.Same.{Same, fits}
use Rattle.mps_laws.proofs.Sound.Referred.{live_is_among}
use Rattle.mps_model.specs.declared.call.Call.TheVariants as call
use Rattle.mps_model.specs.Checked.{Checked, ◌>>=◌, required}
use Rattle.mps_model.specs.Frames as model
use Rattle.mps_model.specs.Graph.{PoolFrames, occurrences}
use Rattle.mps_model.specs.World.{World, is_live, live_ids}
use Rattle.mps_snc.specs.State.{PoolState, new_pool, pool_at, state_of}
use Rattle.mps_snc.specs.declared.pool.Block.{Block}
use Rattle.mps_trace.specs.Collect.{most_moves}
use Rattle.mps_heap_spec.specs.Coming.{ComesMoving}
use Rattle.mps_heap_spec.specs.Finding.{pool_named}
use Rattle.mps_heap_spec.specs.Framing.{frames_named}
use Rattle.mps_heap_spec.specs.Manual.{Freeing, row_freed}
use Rattle.mps_heap_spec.specs.Popping.{blocks_after, frame_closed, frame_popped, moves_of_frame, moves_of_pop}
use Rattle.mps_heap_spec.specs.State.{HeapState}
use Rattle.mps_heap_spec.specs.declared.found.Kept.{Kept}
use Rattle.mps_refinement.specs.Answering.{answer_to, says_ok}
use Rattle.mps_refinement.specs.RightMoving.{IsRightMoving}
use Rattle.mps_refinement.specs.StandsFor.{AreParts, IsReached, Past}
use Rattle.mps_refinement.specs.StandsForSome.{StandsForSome}
use Rattle.mps_refinement.proofs.Calls.LiveBlocks.{blocks_are_counted}
use Rattle.mps_refinement.proofs.Calls.Pops.{pop_is_right}
use Rattle.mps_refinement.proofs.Calls.Pushes.{IsFramesFound, frames_same}
use Rattle.mps_refinement.proofs.Collect.LiveIsFew.{runs_are_few}
use Rattle.mps_refinement.proofs.Parts.CachesStill.{occurs_there}
use Rattle.mps_refinement.proofs.Parts.FramedParts.{noted_alike}
use Rattle.mps_refinement.proofs.Parts.LaidSegments.{blocks_in_grains}
use Rattle.mps_refinement.proofs.Worlds.Appending.{Appends, after_check, appended_right, fresh, unmoved}
use Rattle.mps_refinement.proofs.Worlds.FlushTrails.{freeing_after, reversed_length, row_appends, row_keeps}
use Rattle.mps_refinement.proofs.Worlds.Known.{IsKnown, known_now}
use Rattle.mps_refinement.proofs.Worlds.Room.{Keeps}
use Rattle.mps_refinement.proofs.Worlds.Room as room
use Rattle.mps_refinement.proofs.Worlds.RoomForNotes.{found_few, no_longer, reached_frames}
use Rattle.mps_refinement.proofs.Worlds.Staying.{one_world}

module _ {F : Type 0} (layout : F → Layout) (h : HeapState F) (trail : Moves) (name : Name) (frame : ℕ) where
  -- the frees of closing the frame append to the moves of the trail
  closed_appends : (size : ℕ) (ats : List Address)
      → row_freed size (record { segs = h.segs; trail = trail }) ats
      ≡ freeing_after trail.moves (row_freed size (record { segs = h.segs; trail = fresh trail }) ats)
  closed_appends size ats =
      row_appends size trail.moves ats (record { segs = h.segs; trail = trail }) (record { segs = h.segs; trail = fresh trail })
      (ap (λ (t : Moves). record { segs = h.segs; trail = t }) (unmoved trail))

  pop_appends : Appends trail.moves (frame_popped h trail name frame) (frame_popped h (fresh trail) name frame)
  pop_appends =
      after_check trail.moves (frames_named h name) _ _ (λ (of : Kept PoolState).
      after_check trail.moves (required (slice_get of.value.frames frame) refusal.BadIndex) _ _ (λ before.
      after_check trail.moves (required (slice_get h.sizes of.key) refusal.NotABlock) _ _ (λ size.
      let bs = blocks_after (state_of h.beside.frames of.key) before in
      ap (λ (f : Freeing). Ok (record (frame_closed h trail of.key size frame before) {
        state = record (frame_closed h trail of.key size frame before).state { segs = f.segs };
        trail = f.trail;
      })) (closed_appends size (map (λ (b : Block). b.at.0) bs)))))

  pub pop_is_right_after : (result : Checked (Unit {0})) (after : HeapState F) (trail_after : Moves)
      → ComesMoving h trail (frame_popped h trail name frame) result after trail_after
      → IsRightMoving layout h (call.Pop name frame) trail.moves trail_after.moves (answer_to says_ok result) after
  pop_is_right_after =
      appended_right layout h (call.Pop name frame) trail says_ok (frame_popped h trail name frame)
      (frame_popped h (fresh trail) name frame) pop_appends (pop_is_right layout h (fresh trail) refl name frame)

  -- ---- room

  -- a pool that was found has the state that its number has
  named_state : (of : Kept PoolState) → frames_named h name ≡ Ok of → state_of h.beside.frames of.key ≡ of.value
  named_state of e = of_pool (pool_named h name) e
    where
      of_state : (key : ℕ) (o : Option PoolState) → pool_at h.beside.frames key ≡ o
          → (required o refusal.WrongPool >>= (λ (s : PoolState). Ok (record { key = key; value = s }))) ≡ Ok of
          → state_of h.beside.frames of.key ≡ of.value
      of_state key None there e = absurd cc
      of_state key (Some s) there e =
          let same : record { key = key; value = s } ≡ of = cc in
          subst (λ (k : Kept PoolState). state_of h.beside.frames k.key ≡ k.value) same
          (ap (λ o. option_map_or (λ (q : PoolState). q) o new_pool) there)

      of_pool : (x : Checked (Kept (Pool F)))
          → (x >>= (λ (p : Kept (Pool F)). required (pool_at h.beside.frames p.key) refusal.WrongPool >>= (λ (s : PoolState).
          Ok (record { key = p.key; value = s })))) ≡ Ok of → state_of h.beside.frames of.key ≡ of.value
      of_pool (Err why) e = absurd cc
      of_pool (Ok p) e = of_state p.key (pool_at h.beside.frames p.key) refl e

  -- where it has room for two moves a block
  pub pop_keeps_room : moves_of_pop h name frame ≤ trail.spare → Keeps trail (frame_popped h trail name frame)
  pop_keeps_room fits_in = of_pool (frames_named h name) refl fits_in
    where
      of_pool : (x : Checked (Kept PoolState)) → frames_named h name ≡ x
          → moves_of_frame (x >>= (λ (of : Kept PoolState).
          required (slice_get of.value.frames frame) refusal.BadIndex >>= (λ before. Ok (length of.value.blocks, before)))) ≤ trail.spare
          → Keeps trail (x >>= (λ (of : Kept PoolState). required (slice_get of.value.frames frame) refusal.BadIndex >>= (λ before.
          required (slice_get h.sizes of.key) refusal.NotABlock >>= (λ size. Ok (frame_closed h trail of.key size frame before)))))
      of_pool (Err why) e room_for = refl
      of_pool (Ok of) e room_for = of_frame (slice_get of.value.frames frame) room_for
        where
          of_frame : (o : Option ℕ)
              → moves_of_frame (required o refusal.BadIndex >>= (λ before. Ok (length of.value.blocks, before))) ≤ trail.spare
              → Keeps trail (required o refusal.BadIndex >>= (λ before.
              required (slice_get h.sizes of.key) refusal.NotABlock >>= (λ size. Ok (frame_closed h trail of.key size frame before))))
          of_frame None some = refl
          of_frame (Some before) some =
              room.after_check trail (required (slice_get h.sizes of.key) refusal.NotABlock) _ (λ size.
              let bs = blocks_after (state_of h.beside.frames of.key) before in
              let ats = map (λ (b : Block). b.at.0) bs in
              let same = ap (λ (p : PoolState). length p.blocks) (named_state of e) in
              let long = length-map bs (λ (b : Block). b.at.0) in
              let back = reversed_length (drop before (state_of h.beside.frames of.key).blocks) in
              let cut = length-drop before (state_of h.beside.frames of.key).blocks in
              row_keeps size ats (record { segs = h.segs; trail = trail }) (omega (arith, some, long, back, cut, same)))

-- ---- how many moves there are

-- no more blocks stand in frames than are live
framed_few : (w : World) → AreRightFrames w → BlocksAreLive w → length (blocks_in w.graph.frames) ≤ length (live_ids w)
framed_few w right live = no_longer (blocks_in w.graph.frames) (live_ids w) no_more
  where
    no_more : (j : ℕ) → occurrences (blocks_in w.graph.frames) j ≤ occurrences (live_ids w) j
    no_more j = of_count (occurrences (blocks_in w.graph.frames) j) refl
      where
        of_count : (c : ℕ) → occurrences (blocks_in w.graph.frames) j ≡ c
            → occurrences (blocks_in w.graph.frames) j ≤ occurrences (live_ids w) j
        of_count zero e = omega (arith, e)
        of_count (suc c) e =
            let most = right.once.once j in
            let there = occurs_there (live_ids w) j
            (live_is_among w j (counted_passes (is_live w) (blocks_in w.graph.frames) j (frames_live w live right) (omega (arith, e)))) in
            omega (arith, most, there)

module _ {F : Type 0} (layout : F → Layout) (past : Past) (h : HeapState F) (w : World) (parts : AreParts layout past h w)
    (known : IsKnown past.time w) (reach : IsReached w) (name : Name) (frame : ℕ) where
  -- each block has a word of the arena
  blocks_few : (k : Kept PoolState) (f : PoolFrames) → IsFramesFound h w k f → length k.value.blocks ≤ words_of_grain * h.segs.grains
  blocks_few k f is =
      let right = reached_frames w reach in
      let noted = noted_alike h.roots.blocks w.graph.blocks k.value.blocks f.blocks is.listed.blocks in
      let own = found_few w.graph.frames k.key f is.found in
      let all = framed_few w right known.live.blocks in
      let counted = blocks_are_counted layout h w past parts known.formed in
      let few = runs_are_few words_of_grain (words_of_grain * (h.segs.grains + 1)) h.segs.blocks
      (blocks_in_grains layout past h w parts known.laid) in
      omega (arith, noted, own, all, counted, few)

  few_in_world : moves_of_pop h name frame ≤ most_moves h.segs.grains
  few_in_world = of_pool (frames_named h name) (model.frames_named w name) (frames_same layout past h w parts name)
    where
      of_frame : (k : Kept PoolState) → length k.value.blocks ≤ words_of_grain * h.segs.grains → (o : Option ℕ)
          → moves_of_frame (required o refusal.BadIndex >>= (λ before. Ok (length k.value.blocks, before))) ≤ most_moves h.segs.grains
      of_frame k few None = omega arith
      of_frame k few (Some before) = omega (arith, few)

      of_pool : (x : Checked (Kept PoolState)) (y : Checked PoolFrames) → Same (IsFramesFound h w) x y
          → moves_of_frame (x >>= (λ (of : Kept PoolState).
          required (slice_get of.value.frames frame) refusal.BadIndex >>= (λ before. Ok (length of.value.blocks, before))))
          ≤ most_moves h.segs.grains
      of_pool x y (fits {a = k} {b = f} is) = of_frame k (blocks_few k f is) (slice_get k.value.frames frame)
      of_pool x y same.refused = omega arith

-- closing a frame makes no more moves than a collection
pub pop_moves_few : {F : Type 0} (layout : F → Layout) (h : HeapState F) → StandsForSome layout h → (name : Name) (frame : ℕ)
    → moves_of_pop h name frame ≤ most_moves h.segs.grains
pop_moves_few layout h some name frame =
    let s = one_world layout h some in
    let st = s.1 in
    few_in_world layout st.past h s.0 st.parts (known_now st) st.reached name frame
