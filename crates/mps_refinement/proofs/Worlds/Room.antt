-- A call that appends moves to a trail keeps the trail's room.
use Rattle.std.proofs.Common.{◌∙◌, ◌≤◌, ◌<◌, ℕ, ◌+◌, ◌-◌, Bool, true, false, refl, ap, List, [], ◌∷◌, length, length-append, Ok, Err, arith}
use Rattle.std.specs.Prelude.{◌==◌, if◌then◌else◌, not, slice_get, Option, Some, None}
use Rattle.mps_seg.specs.Arena.{answer_of_placement}
use Rattle.mps_base.specs.Run.{Run}
use Rattle.mps_base.specs.Segment.{Segment, segment_over}
use Rattle.mps_base.specs.declared.address.Addr.{Addr}
use Rattle.mps_base.specs.Placement.{Placement, Place, NewSegment, OverLimit, NoFreeRun}
use Rattle.mps_base.specs.Trail.{Moves, with_move}
use Rattle.mps_base.specs.declared.moves.Move.{Move}
use Rattle.mps_base.specs.declared.moves.Move.TheVariants as moves
use Rattle.mps_base.specs.declared.names.Name.{Name}
use Rattle.mps_base.specs.declared.names.Rank.TheVariants as rank
use Rattle.mps_base.specs.declared.names.Slot.{Slot}
use Rattle.mps_base.specs.declared.refusal.Refusal.TheVariants as refusal
use Rattle.mps_pools.specs.Manual.{answer_of_alloc, any_size, block_removed, has_blocks_of, is_unused, moves_allocated, moves_freed, moves_given_back}
use Rattle.mps_buffer.specs.Points.{placement_at}
use Rattle.mps_format.specs.Layout.{Layout}
use Rattle.mps_model.specs.Checked.{Checked, ◌>>=◌, ◌>>◌, refuse_when, required}
use Rattle.mps_seg.specs.Placing.{placement_in_gaps}
use Rattle.mps_seg.specs.Segs.{SegsState, moves_after}
use Rattle.mps_snc.specs.State.{has_room, max_notes, pool_at}
use Rattle.mps_heap_spec.specs.Allocating.{after_reserve, after_commit, check_reserve}
use Rattle.mps_heap_spec.specs.Coming.{Moved, ComesMoving, trail_moved}
use Rattle.mps_heap_spec.specs.Finding.{block_place_in, point_named, pool_named, slot_in}
use Rattle.mps_heap_spec.specs.Framing.{has_frames}
use Rattle.mps_heap_spec.specs.Manual.{block_allocated, block_freed, block_in}
use Rattle.mps_heap_spec.specs.State.{HeapState}
use Rattle.mps_format.specs.Pools.{is_automatic_pool}
use Rattle.mps_heap_spec.specs.declared.found.Committed.TheVariants.{AsBlock, AsFlipped}
use Rattle.mps_refinement.specs.RightMoving.{KeepsRoom}

-- ---- moves

move_keeps : (t : Moves) (m : Move) → 0 < t.spare → KeepsRoom t (with_move t m)
move_keeps t m some =
    let count = length-append t.moves (m ∷ []) in
    ap (λ n. (t.spare - 1) + n) count ∙ omega (arith, some)

then_keeps : (t u v : Moves) → KeepsRoom t u → KeepsRoom u v → KeepsRoom t v
then_keeps t u v first second = second ∙ first

-- a placement makes at most one move
record AfterPlacement (t u : Moves) : Type 0 where
  room : KeepsRoom t u
  spare : t.spare ≤ u.spare + 1

placement_keeps : (p : Placement) (pool generation : ℕ) (t : Moves) → 0 < t.spare → AfterPlacement t (moves_after p pool generation t)
placement_keeps (NewSegment grain grains) pool generation t some = record { room = move_keeps t _ some; spare = omega (arith, some) }
placement_keeps (Place word) pool generation t some = record { room = refl; spare = omega (arith) }
placement_keeps (OverLimit after_commit need limit) pool generation t some = record { room = refl; spare = omega (arith) }
placement_keeps (NoFreeRun need longest) pool generation t some = record { room = refl; spare = omega (arith) }

pub alloc_keeps : (s : SegsState) (t : Moves) (pool words : ℕ) (at : Addr) → 1 < t.spare → KeepsRoom t (moves_allocated s t pool words at)
alloc_keeps s t pool words at some =
    let p = placement_in_gaps s pool rank.Exact words in
    let u = moves_after p pool 0 t in
    let placed = placement_keeps p pool 0 t (omega (arith, some)) in
    then_keeps t u (with_move u (moves.Alloc at words pool)) placed.room
    (move_keeps u (moves.Alloc at words pool) (omega (arith, some, placed.spare)))

given_back_keeps : (covered : List Run) (s : Option Segment) (t : Moves) → 0 < t.spare → KeepsRoom t (moves_given_back covered s t)
given_back_keeps covered None t some = refl
given_back_keeps covered (Some s) t some = of_use (is_unused covered s)
  where
    of_use : (unused : Bool) → KeepsRoom t (if unused then with_move t (moves.Unseg (record { 0 = s.base })) else t)
    of_use true = move_keeps t _ some
    of_use false = refl

pub freed_keeps : (size : ℕ) (s : SegsState) (t : Moves) (at : Addr) → 1 < t.spare → KeepsRoom t (moves_freed size s t at)
freed_keeps size s t at some = of_size (size == any_size)
  where
    u : Moves
    u = with_move t (moves.Free at)

    freeing : KeepsRoom t u
    freeing = move_keeps t (moves.Free at) (omega (arith, some))

    of_size : (any : Bool)
        → KeepsRoom t (if any then moves_given_back (block_removed s at.0).covered (segment_over s.segments at.0) u else u)
    of_size true =
        then_keeps t u _ freeing (given_back_keeps (block_removed s at.0).covered (segment_over s.segments at.0) u (omega (arith, some)))
    of_size false = freeing

-- ---- outcomes

module _ {F A : Type 0} (trail : Moves) where
  -- an outcome over a trail keeps its room
  abbrev pub Keeps : Checked (Moved F A) → Type 0
  Keeps x = KeepsRoom trail (trail_moved trail x)

  pub after_check : {X : Type 0} (x : Checked X) (f : X → Checked (Moved F A)) → ((a : X) → Keeps (f a)) → Keeps (x >>= f)
  after_check (Ok a) f each = each a
  after_check (Err why) f each = refl

  pub after_refusal : {X : Type 0} (x : Checked X) (f : Checked (Moved F A)) → Keeps f → Keeps (x >> f)
  after_refusal (Ok a) f keeps = keeps
  after_refusal (Err why) f keeps = refl

  -- so does a call that came to it
  pub keeps_room : (h : HeapState F) (x : Checked (Moved F A)) (result : Checked A) (after : HeapState F) (trail_after : Moves)
      → ComesMoving h trail x result after trail_after → Keeps x → KeepsRoom trail trail_after
  keeps_room h x result after trail_after comes keeps =
      ap (λ (t : Moves). t.spare + length t.moves) comes.moves ∙ keeps

-- ---- the calls

module _ {F : Type 0} (layout : F → Layout) (h : HeapState F) (trail : Moves) where
  pub reserve_keeps_room : (name : Name) (head : ℕ) → 0 < trail.spare → Keeps trail (after_reserve layout h trail name head)
  reserve_keeps_room name head some =
      after_check trail (check_reserve layout h name head) _ (λ r.
      after_check trail (answer_of_placement (placement_at r.point.value h.segs r.words)) _ (λ at.
      (placement_keeps (placement_at r.point.value h.segs r.words) r.point.value.pool 0 trail some).room))

  pub commit_keeps_room : (name : Name) (target : Slot) → 0 < trail.spare → Keeps trail (after_commit h trail name target)
  commit_keeps_room name target some =
      after_check trail (point_named h name) _ (λ point.
      after_check trail (slot_in h target) _ (λ slot.
      after_check trail (required point.value.reservation refusal.NotOpen) _ (λ held.
      of_flip (held.flips == h.points.flips) _ _ _)))
    where
      of_flip : (same : Bool) (x y : HeapState F) (m : Move)
          → Keeps trail
          (Ok (if same then record { answer = AsBlock; state = x; trail = with_move trail m }
          else record { answer = AsFlipped; state = y; trail = trail }))
      of_flip true x y m = move_keeps trail m some
      of_flip false x y m = refl

  pub alloc_keeps_room : (pool : Name) (words : ℕ) (place : Slot) → 1 < trail.spare
      → Keeps trail (block_allocated h trail pool words place)
  alloc_keeps_room pool words place some =
      after_check trail (pool_named h pool) _ (λ from.
      after_refusal trail (refuse_when (is_automatic_pool from.value) refusal.WrongPool) _ (
      after_check trail (block_place_in h place) _ (λ into.
      after_check trail (required (slice_get h.sizes from.key) refusal.BadName) _ (λ size.
      after_refusal trail (refuse_when (not (has_blocks_of size words)) refusal.BadSize) _ (
      after_refusal trail (refuse_when (not (into.value == 0)) refusal.NameTaken) _ (
      after_refusal trail (refuse_when (not (has_room (pool_at h.beside.frames from.key))) (refusal.TooMany max_notes)) _ (
      after_check trail (answer_of_alloc size h.segs from.key words) _ (λ at.
      alloc_keeps h.segs trail from.key words at some))))))))

  pub free_keeps_room : (place : Slot) → 1 < trail.spare → Keeps trail (block_freed h trail place)
  free_keeps_room place some =
      after_check trail (block_place_in h place) _ (λ from.
      after_check trail (block_in h from) _ (λ at.
      after_check trail (required (segment_over h.segs.segments at) refusal.NotABlock) _ (λ s.
      after_refusal trail (refuse_when (has_frames h s.pool) refusal.WrongPool) _ (
      after_check trail (required (slice_get h.sizes s.pool) refusal.NotABlock) _ (λ size.
      freed_keeps size h.segs trail (record { 0 = at }) some)))))
