-- `cflush` over a trail that has moves: it appends its own, rightly, and the trail keeps its room. And so does each row of frees.
use Rattle.std.proofs.Common.{◌≡◌, ◌∙◌, ◌≤◌, ◌+◌, ◌*◌, ℕ, Bool, true, false, refl, ap, List, [], ◌∷◌, length, length-append, Option, Some, None, Ok, Err, arith}
use Rattle.std.proofs.lemmas.List.Sums.{sum_by-cons}
use Rattle.std.specs.Prelude.{◌==◌, if◌then◌else◌, slice_get}
use Rattle.mps_base.specs.Address.{Address}
use Rattle.mps_base.specs.Run.{Run}
use Rattle.mps_base.specs.Segment.{Segment, segment_over}
use Rattle.mps_base.specs.Trail.{Moves, with_move}
use Rattle.mps_base.specs.declared.moves.Move.{Move}
use Rattle.mps_base.specs.declared.moves.Move.TheVariants as moves
use Rattle.mps_base.specs.declared.names.Name.{Name}
use Rattle.mps_base.specs.declared.refusal.Refusal.TheVariants as refusal
use Rattle.mps_format.specs.Layout.{Layout}
use Rattle.mps_model.specs.declared.call.Call.TheVariants as call
use Rattle.mps_model.specs.Checked.{Checked, ◌>>=◌, required}
use Rattle.mps_model.specs.Graph.{from_last}
use Rattle.mps_neighbours.specs.Caches.{ClassState, classes_of, count_in}
use Rattle.mps_pools.specs.Manual.{any_size, block_removed, is_unused, moves_freed, moves_given_back, segs_after_free}
use Rattle.mps_heap_spec.specs.Caching.{cache_flushed, cache_named, flushed, moves_of_flush, two_each, with_cache_flushed}
use Rattle.mps_heap_spec.specs.Coming.{ComesMoving}
use Rattle.mps_heap_spec.specs.Manual.{Freeing, is_block_over, one_freed, row_freed}
use Rattle.mps_heap_spec.specs.State.{HeapState}
use Rattle.mps_heap_spec.specs.declared.found.Kept.{Kept}
use Rattle.mps_refinement.specs.Answering.{answer_to, says_ok}
use Rattle.mps_refinement.specs.RightMoving.{IsRightMoving, KeepsRoom}
use Rattle.mps_refinement.proofs.Calls.CacheFlushes.{cflush_is_right}
use Rattle.mps_refinement.proofs.Worlds.Appending.{Appends, after_check, after_moves, appended_right, free_appends_to, fresh, unmoved}
use Rattle.mps_refinement.proofs.Worlds.Room.{Keeps, freed_keeps}
use Rattle.mps_refinement.proofs.Worlds.Room as room

-- ---- rows of frees

-- a trail with these moves before
abbrev pub freeing_after : List Move → Freeing → Freeing
freeing_after ms f = record { segs = f.segs; trail = after_moves ms f.trail }

module _ (size : ℕ) (ms : List Move) where
  one_appends : (f g : Freeing) (at : Address) → f ≡ freeing_after ms g → one_freed size f at ≡ freeing_after ms (one_freed size g at)
  one_appends f g at is = ap (λ (x : Freeing). one_freed size x at) is ∙ of_block (is_block_over g.segs at at)
    where
      of_block : (b : Bool)
          → (if b
          then record {
            segs = segs_after_free size g.segs at;
            trail = moves_freed size g.segs (after_moves ms g.trail) (record { 0 = at });
          }
          else freeing_after ms g)
          ≡ freeing_after ms (if b
          then record { segs = segs_after_free size g.segs at; trail = moves_freed size g.segs g.trail (record { 0 = at }) } else g)
      of_block true =
          ap (λ (t : Moves). record { segs = segs_after_free size g.segs at; trail = t })
          (free_appends_to size g.segs (record { 0 = at }) ms (after_moves ms g.trail) g.trail refl)
      of_block false = refl

  pub row_appends : (ats : List Address) (f g : Freeing) → f ≡ freeing_after ms g
      → row_freed size f ats ≡ freeing_after ms (row_freed size g ats)
  row_appends [] f g is = is
  row_appends (at ∷ ats) f g is = row_appends ats (one_freed size f at) (one_freed size g at) (one_appends f g at is)

-- a free takes at most two moves of a trail's room
room_left : (size : ℕ) (f : Freeing) (at : Address) → f.trail.spare ≤ (one_freed size f at).trail.spare + 2
room_left size f at = of_block (is_block_over f.segs at at)
  where
    given : (covered : List Run) (s : Option Segment) (t : Moves) → t.spare ≤ (moves_given_back covered s t).spare + 1
    given covered None t = omega arith
    given covered (Some s) t = of_use (is_unused covered s)
      where
        of_use : (b : Bool) → t.spare ≤ (if b then with_move t (moves.Unseg (record { 0 = s.base })) else t).spare + 1
        of_use true = omega arith
        of_use false = omega arith

    of_size : (b : Bool) → f.trail.spare ≤ (if b
        then moves_given_back (block_removed f.segs at).covered (segment_over f.segs.segments at)
        (with_move f.trail (moves.Free (record { 0 = at })))
        else with_move f.trail (moves.Free (record { 0 = at }))).spare + 2
    of_size true =
        let rest = given (block_removed f.segs at).covered (segment_over f.segs.segments at)
        (with_move f.trail (moves.Free (record { 0 = at }))) in
        omega (arith, rest)
    of_size false = omega arith

    of_block : (b : Bool) → f.trail.spare ≤ (if b
        then record { segs = segs_after_free size f.segs at; trail = moves_freed size f.segs f.trail (record { 0 = at }) }
        else f).trail.spare + 2
    of_block true = of_size (size == any_size)
    of_block false = omega arith

one_keeps : (size : ℕ) (f : Freeing) (at : Address) → 2 ≤ f.trail.spare → KeepsRoom f.trail (one_freed size f at).trail
one_keeps size f at some = of_block (is_block_over f.segs at at)
  where
    of_block : (b : Bool) → KeepsRoom f.trail (if b
        then record { segs = segs_after_free size f.segs at; trail = moves_freed size f.segs f.trail (record { 0 = at }) } else f).trail
    of_block true = freed_keeps size f.segs f.trail (record { 0 = at }) (omega (arith, some))
    of_block false = refl

pub row_keeps : (size : ℕ) (ats : List Address) (f : Freeing) → 2 * length ats ≤ f.trail.spare
    → KeepsRoom f.trail (row_freed size f ats).trail
row_keeps size [] f fits = refl
row_keeps size (at ∷ ats) f fits =
    let left = room_left size f at in
    row_keeps size ats (one_freed size f at) (omega (arith, fits, left)) ∙ one_keeps size f at (omega (arith, fits))

-- ---- the blocks of a cache

pub reversed_length : {X : Type 0} (xs : List X) → length (from_last xs) ≡ length xs
reversed_length [] = refl
reversed_length (x ∷ xs) =
    let rest = reversed_length xs in
    let more = length-append (from_last xs) (x ∷ []) in
    omega (arith, rest, more)

flushed_length : (cs : List ClassState) → length (flushed cs) ≡ count_in cs
flushed_length [] = refl
flushed_length (c ∷ cs) =
    let all : length (flushed (c ∷ cs)) ≡ length (from_last c.blocks) + length (flushed cs) =
    length-append (from_last c.blocks) (flushed cs) in
    let count : count_in (c ∷ cs) ≡ length c.blocks + count_in cs =
    sum_by-cons (λ (k : ClassState). length k.blocks) c cs in
    let own = reversed_length c.blocks in
    let rest = flushed_length cs in
    omega (arith, all, count, own, rest)

-- ---- the call

module _ {F : Type 0} (layout : F → Layout) (h : HeapState F) (trail : Moves) (name : Name) where
  cflush_appends : Appends trail.moves (cache_flushed h trail name) (cache_flushed h (fresh trail) name)
  cflush_appends =
      after_check trail.moves (cache_named h name) _ _ (λ (of : Kept ℕ).
      after_check trail.moves (required (slice_get h.sizes of.value) refusal.BadName) _ _ (λ size.
      ap (λ (f : Freeing). Ok (with_cache_flushed h of.key f))
      (row_appends size trail.moves (flushed (classes_of h.beside.caches of.key)) (record { segs = h.segs; trail = trail })
      (record { segs = h.segs; trail = fresh trail }) (ap (λ (t : Moves). record { segs = h.segs; trail = t }) (unmoved trail)))))

  pub cflush_is_right_after : (result : Checked (Unit {0})) (after : HeapState F) (trail_after : Moves)
      → ComesMoving h trail (cache_flushed h trail name) result after trail_after
      → IsRightMoving layout h (call.CacheFlush name) trail.moves trail_after.moves (answer_to says_ok result) after
  cflush_is_right_after =
      appended_right layout h (call.CacheFlush name) trail says_ok (cache_flushed h trail name) (cache_flushed h (fresh trail) name)
      cflush_appends (cflush_is_right layout h (fresh trail) refl name)

  -- where it has room for two moves a block
  pub cflush_keeps_room : moves_of_flush h name ≤ trail.spare → Keeps trail (cache_flushed h trail name)
  cflush_keeps_room fits = of_cache (cache_named h name) fits
    where
      of_cache : (x : Checked (Kept ℕ)) → two_each h x ≤ trail.spare
          → Keeps trail (x >>= (λ (of : Kept ℕ).
          required (slice_get h.sizes of.value) refusal.BadName >>= (λ size.
          Ok (with_cache_flushed h of.key
          (row_freed size (record { segs = h.segs; trail = trail }) (flushed (classes_of h.beside.caches of.key)))))))
      of_cache (Err why) room_for = refl
      of_cache (Ok of) room_for =
          room.after_check trail (required (slice_get h.sizes of.value) refusal.BadName) _ (λ size.
          let long = flushed_length (classes_of h.beside.caches of.key) in
          row_keeps size (flushed (classes_of h.beside.caches of.key)) (record { segs = h.segs; trail = trail })
          (omega (arith, room_for, long)))
