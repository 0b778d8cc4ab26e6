-- A call that makes moves appends them: what it comes to over a trail is what it comes to over one that has no moves yet, and its moves
-- are those. So it is right over each trail.
use Rattle.std.proofs.Common.{◌≡◌, ◌∙◌, ℕ, Bool, true, false, refl, sym, ap, subst, List, [], ◌∷◌, ◌++◌, Ok, Err, length}
use Rattle.std.proofs.lemmas.List.{append-nil, append_assoc}
use Rattle.std.specs.Prelude.{◌==◌, ◌-◌, if◌then◌else◌, not, slice_get, Option, Some, None}
use Rattle.mps_seg.specs.Arena.{answer_of_placement}
use Rattle.mps_base.specs.Run.{Run}
use Rattle.mps_base.specs.Segment.{Segment, segment_over}
use Rattle.mps_base.specs.declared.address.Addr.{Addr}
use Rattle.mps_base.specs.Placement.{Placement, Place, NewSegment, OverLimit, NoFreeRun}
use Rattle.mps_base.specs.Trail.{Moves, with_move}
use Rattle.mps_base.specs.declared.moves.Move.{Move}
use Rattle.mps_base.specs.declared.moves.Move.TheVariants as moves
use Rattle.mps_base.specs.declared.names.Name.{Name}
use Rattle.mps_base.specs.declared.names.Rank.TheVariants as rank
use Rattle.mps_base.specs.declared.names.Slot.{Slot}
use Rattle.mps_base.specs.declared.refusal.Refusal.TheVariants as refusal
use Rattle.mps_pools.specs.Manual.{segs_after_alloc, answer_of_alloc, any_size, block_removed, has_blocks_of, is_unused, moves_freed, moves_given_back}
use Rattle.mps_buffer.specs.Points.{placement_at}
use Rattle.mps_format.specs.Layout.{Layout}
use Rattle.mps_model.specs.declared.call.Call.{Call}
use Rattle.mps_model.specs.declared.call.Call.TheVariants as call
use Rattle.mps_model.specs.Answer.{Answer}
use Rattle.mps_model.specs.World.{World}
use Rattle.mps_model.specs.Checked.{Checked, ◌>>=◌, ◌>>◌, refuse_when, required}
use Rattle.mps_seg.specs.Placing.{placement_in_gaps}
use Rattle.mps_seg.specs.Segs.{SegsState, moves_after}
use Rattle.mps_snc.specs.State.{has_room, max_notes, pool_at}
use Rattle.mps_heap_spec.specs.Allocating.{after_reserve, after_commit, check_reserve}
use Rattle.mps_heap_spec.specs.Coming.{Moved, ComesMoving, answer_moved, state_moved, trail_moved}
use Rattle.mps_heap_spec.specs.Finding.{block_place_in, point_named, pool_named, slot_in}
use Rattle.mps_heap_spec.specs.Framing.{frames_after_alloc, has_frames, with_frames}
use Rattle.mps_heap_spec.specs.Manual.{block_allocated, block_freed, block_in, with_block_place}
use Rattle.mps_heap_spec.specs.State.{HeapState}
use Rattle.mps_format.specs.Pools.{is_automatic_pool}
use Rattle.mps_heap_spec.specs.declared.found.Committed.{Committed}
use Rattle.mps_heap_spec.specs.declared.found.Committed.TheVariants.{AsBlock, AsFlipped}
use Rattle.mps_refinement.specs.Answering.{answer_to, says_committed, says_ok}
use Rattle.mps_refinement.specs.RightMoving.{IsRightMoving, IsRightMovingIn}
use Rattle.mps_refinement.specs.RightStep.{IsRight, IsRightIn, step_of}
use Rattle.mps_refinement.proofs.Calls.Allocs.{alloc_is_right}
use Rattle.mps_refinement.proofs.Calls.Frees.{free_is_right}
use Rattle.mps_refinement.proofs.Calls.RightCommit.{commit_is_right}
use Rattle.mps_trace_laws.specs.Image.Memory.{words_of_arena}

-- ---- trails

-- a trail with these moves before its own
abbrev pub after_moves : List Move → Moves → Moves
after_moves ms trail = record { moves = ms ++ trail.moves; spare = trail.spare }

-- a trail that has no moves, with the same room
abbrev pub fresh : Moves → Moves
fresh trail = record { moves = []; spare = trail.spare }

pub unmoved : (trail : Moves) → trail ≡ after_moves trail.moves (fresh trail)
unmoved trail = ap (λ (ms : List Move). record { moves = ms; spare = trail.spare }) (sym (append-nil trail.moves))

pub move_appends : (ms : List Move) (t u : Moves) (m : Move) → t ≡ after_moves ms u → with_move t m ≡ after_moves ms (with_move u m)
move_appends ms t u m is =
    ap (λ (x : Moves). with_move x m) is
    ∙ ap (λ (xs : List Move). record { moves = xs; spare = u.spare - 1 }) (append_assoc ms u.moves (m ∷ []))

pub moves_after-appends : (p : Placement) (pool generation : ℕ) (ms : List Move) (t u : Moves) → t ≡ after_moves ms u
    → moves_after p pool generation t ≡ after_moves ms (moves_after p pool generation u)
moves_after-appends (NewSegment grain grains) pool generation ms t u is = move_appends ms t u _ is
moves_after-appends (Place word) pool generation ms t u is = is
moves_after-appends (OverLimit after_commit need limit) pool generation ms t u is = is
moves_after-appends (NoFreeRun need longest) pool generation ms t u is = is

given_back_appends : (covered : List Run) (s : Option Segment) (ms : List Move) (t u : Moves) → t ≡ after_moves ms u
    → moves_given_back covered s t ≡ after_moves ms (moves_given_back covered s u)
given_back_appends covered None ms t u is = is
given_back_appends covered (Some s) ms t u is = of_use (is_unused covered s)
  where
    of_use : (unused : Bool) → (if unused then with_move t (moves.Unseg (record { 0 = s.base })) else t)
        ≡ after_moves ms (if unused then with_move u (moves.Unseg (record { 0 = s.base })) else u)
    of_use true = move_appends ms t u (moves.Unseg (record { 0 = s.base })) is
    of_use false = is

-- the moves of a free over a trail with these moves before, and over one without them
pub free_appends_to : (size : ℕ) (s : SegsState) (at : Addr) (ms : List Move) (t u : Moves) → t ≡ after_moves ms u
    → moves_freed size s t at ≡ after_moves ms (moves_freed size s u at)
free_appends_to size s at ms t u is = of_size (size == any_size)
  where
    freeing : with_move t (moves.Free at) ≡ after_moves ms (with_move u (moves.Free at))
    freeing = move_appends ms t u (moves.Free at) is

    of_size : (any : Bool)
        → (if any then moves_given_back (block_removed s at.0).covered (segment_over s.segments at.0) (with_move t (moves.Free at))
        else with_move t (moves.Free at))
        ≡ after_moves ms (if any then moves_given_back (block_removed s at.0).covered (segment_over s.segments at.0)
        (with_move u (moves.Free at)) else with_move u (moves.Free at))
    of_size true = given_back_appends _ (segment_over s.segments at.0) ms _ _ freeing
    of_size false = freeing

pub freed_appends : (size : ℕ) (s : SegsState) (trail : Moves) (at : Addr)
    → moves_freed size s trail at ≡ after_moves trail.moves (moves_freed size s (fresh trail) at)
freed_appends size s trail at = free_appends_to size s at trail.moves trail (fresh trail) (unmoved trail)

-- ---- outcomes

module _ {F A : Type 0} where
  abbrev pub with_moves : List Move → Checked (Moved F A) → Checked (Moved F A)
  with_moves ms (Ok m) = Ok (record m { trail = after_moves ms m.trail })
  with_moves ms (Err why) = Err why

  -- an outcome over a trail with these moves before, and over one without them
  abbrev pub Appends : List Move → Checked (Moved F A) → Checked (Moved F A) → Type 0
  Appends ms x y = x ≡ with_moves ms y

  pub after_check : {X : Type 0} (ms : List Move) (x : Checked X) (f g : X → Checked (Moved F A)) → ((a : X) → Appends ms (f a) (g a))
      → Appends ms (x >>= f) (x >>= g)
  after_check ms (Ok a) f g each = each a
  after_check ms (Err why) f g each = refl

  pub after_refusal : {X : Type 0} (ms : List Move) (x : Checked X) (f g : Checked (Moved F A)) → Appends ms f g
      → Appends ms (x >> f) (x >> g)
  after_refusal ms (Ok a) f g is = is
  after_refusal ms (Err why) f g is = refl

  pub ok_appends : (ms : List Move) (answer : A) (state : HeapState F) (t u : Moves) → t ≡ after_moves ms u
      → Appends ms (Ok (record { answer = answer; state = state; trail = t }))
      (Ok (record { answer = answer; state = state; trail = u }))
  ok_appends ms answer state t u is = ap (λ (x : Moves). Ok (record { answer = answer; state = state; trail = x })) is

  module _ (layout : F → Layout) (h : HeapState F) (c : Call) (trail : Moves) (says : A → Answer) where
    -- what is known of the call over a fresh trail
    abbrev pub IsRightFresh : Checked (Moved F A) → Type 0
    IsRightFresh x =
        (result : Checked A) (after : HeapState F) (trail_after : Moves) → ComesMoving h (fresh trail) x result after trail_after
        → IsRight layout h c trail_after.moves (answer_to says result) after

    of_fresh : (y : Checked (Moved F A)) → IsRightFresh y → (result : Checked A) (after : HeapState F) (trail_after : Moves)
        → ComesMoving h trail (with_moves trail.moves y) result after trail_after
        → IsRightMoving layout h c trail.moves trail_after.moves (answer_to says result) after
    of_fresh (Ok m) right result after trail_after comes = record {
      moves = m.trail.moves;
      appended = ap (λ (t : Moves). t.moves) comes.moves;
      right = right result after m.trail (record { answer = comes.answer; state = comes.state; moves = refl });
    }
    of_fresh (Err why) right result after trail_after comes = record {
      moves = [];
      appended = ap (λ (t : Moves). t.moves) comes.moves ∙ sym (append-nil trail.moves);
      right = right result after (fresh trail) (record { answer = comes.answer; state = comes.state; moves = refl });
    }

    -- a call that is right over a fresh trail is right over this one
    pub appended_right : (x y : Checked (Moved F A)) → Appends trail.moves x y → IsRightFresh y → (result : Checked A) (after : HeapState F)
        (trail_after : Moves) → ComesMoving h trail x result after trail_after
        → IsRightMoving layout h c trail.moves trail_after.moves (answer_to says result) after
    appended_right x y appends right result after trail_after comes =
        of_fresh y right result after trail_after
        (subst (λ z. ComesMoving h trail z result after trail_after) appends comes)

  -- what came of an outcome is right in a world, if it is so over a trail without the moves before
  module _ (layout : F → Layout) (h : HeapState F) (w : World) (c : Call) (ms : List Move) (says : A → Answer) (u : Moves) where
    -- the outcome is right in it
    abbrev pub IsRightOutcome : Checked (Moved F A) → Type 0
    IsRightOutcome y =
        (line : ℕ) → IsRightIn layout w (step_of line c (trail_moved u y).moves (answer_to says (answer_moved y))) (state_moved h y)

    of_outcome : (trail : Moves) (y : Checked (Moved F A)) → trail ≡ after_moves ms u → IsRightOutcome y → (result : Checked A)
        (after : HeapState F) (trail_after : Moves) → ComesMoving h trail (with_moves ms y) result after trail_after
        → IsRightMovingIn layout w c ms trail_after.moves (answer_to says result) after
    of_outcome trail (Ok m) is right result after trail_after comes = record {
      moves = m.trail.moves;
      appended = ap (λ (t : Moves). t.moves) comes.moves;
      right = λ line.
          subst (λ s. IsRightIn layout w (step_of line c m.trail.moves (answer_to says result)) s) (sym comes.state)
          (subst (λ r. IsRightIn layout w (step_of line c m.trail.moves (answer_to says r)) m.state) (sym comes.answer) (right line));
    }
    of_outcome trail (Err why) is right result after trail_after comes = record {
      moves = u.moves;
      appended = ap (λ (t : Moves). t.moves) (comes.moves ∙ is);
      right = λ line.
          subst (λ s. IsRightIn layout w (step_of line c u.moves (answer_to says result)) s) (sym comes.state)
          (subst (λ r. IsRightIn layout w (step_of line c u.moves (answer_to says r)) h) (sym comes.answer) (right line));
    }

    pub outcome_appended : (trail : Moves) (x y : Checked (Moved F A)) → trail ≡ after_moves ms u → Appends ms x y → IsRightOutcome y
        → (result : Checked A) (after : HeapState F) (trail_after : Moves) → ComesMoving h trail x result after trail_after
        → IsRightMovingIn layout w c ms trail_after.moves (answer_to says result) after
    outcome_appended trail x y is appends right result after trail_after comes =
        of_outcome trail y is right result after trail_after (subst (λ z. ComesMoving h trail z result after trail_after) appends comes)

-- ---- the calls

pub reserve_appends : {F : Type 0} (layout : F → Layout) (h : HeapState F) (name : Name) (head : ℕ) (ms : List Move) (t u : Moves)
    → t ≡ after_moves ms u → Appends ms (after_reserve layout h t name head) (after_reserve layout h u name head)
reserve_appends layout h name head ms t u is =
    after_check ms (check_reserve layout h name head) _ _ (λ r.
    after_check ms (answer_of_placement _) _ _ (λ at.
    ok_appends ms tt _ _ _ (moves_after-appends (placement_at r.point.value h.segs r.words) r.point.value.pool 0 ms t u is)))

module _ {F : Type 0} (layout : F → Layout) (h : HeapState F) (trail : Moves) where
  commit_appends : (name : Name) (target : Slot)
      → Appends trail.moves (after_commit h trail name target) (after_commit h (fresh trail) name target)
  commit_appends name target =
      after_check trail.moves (point_named h name) _ _ (λ point.
      after_check trail.moves (slot_in h target) _ _ (λ slot.
      after_check trail.moves (required point.value.reservation refusal.NotOpen) _ _ (λ held.
      of_flip (held.flips == h.points.flips) _ _ _)))
    where
      of_flip : (same : Bool) (x y : HeapState F) (m : Move)
          → Appends trail.moves
          (Ok (if same then record { answer = AsBlock; state = x; trail = with_move trail m }
          else record { answer = AsFlipped; state = y; trail = trail }))
          (Ok (if same then record { answer = AsBlock; state = x; trail = with_move (fresh trail) m }
          else record { answer = AsFlipped; state = y; trail = fresh trail }))
      of_flip true x y m = refl
      of_flip false x y m = ok_appends trail.moves AsFlipped y trail (fresh trail) (unmoved trail)

  pub commit_is_right_after : (name : Name) (target : Slot) (result : Checked Committed) (after : HeapState F) (trail_after : Moves)
      → length h.segs.marks.kept ≡ words_of_arena h.segs.grains
      → ComesMoving h trail (after_commit h trail name target) result after trail_after
      → IsRightMoving layout h (call.Commit name target) trail.moves trail_after.moves (answer_to says_committed result) after
  commit_is_right_after name target result after trail_after wide =
      appended_right layout h (call.Commit name target) trail says_committed (after_commit h trail name target)
      (after_commit h (fresh trail) name target) (commit_appends name target)
      (λ result after trail_after. commit_is_right layout h (fresh trail) name target result after trail_after wide refl)
      result after trail_after

  alloc_appends : (pool : Name) (words : ℕ) (place : Slot)
      → Appends trail.moves (block_allocated h trail pool words place) (block_allocated h (fresh trail) pool words place)
  alloc_appends pool words place =
      after_check trail.moves (pool_named h pool) _ _ (λ from.
      after_refusal trail.moves (refuse_when (is_automatic_pool from.value) refusal.WrongPool) _ _ (
      after_check trail.moves (block_place_in h place) _ _ (λ into.
      after_check trail.moves (required (slice_get h.sizes from.key) refusal.BadName) _ _ (λ size.
      after_refusal trail.moves (refuse_when (not (has_blocks_of size words)) refusal.BadSize) _ _ (
      after_refusal trail.moves (refuse_when (not (into.value == 0)) refusal.NameTaken) _ _ (
      after_refusal trail.moves (refuse_when (not (has_room (pool_at h.beside.frames from.key))) (refusal.TooMany max_notes)) _ _ (
      after_check trail.moves (answer_of_alloc size h.segs from.key words) _ _ (λ at.
      ok_appends trail.moves tt (with_frames (with_block_place (record h { segs = segs_after_alloc h.segs from.key words at }) into at.0)
      (frames_after_alloc h from.key into at)) _ _
      (move_appends trail.moves _ _ (moves.Alloc at words from.key)
      (moves_after-appends (placement_in_gaps h.segs from.key rank.Exact words) from.key 0 trail.moves trail (fresh trail)
      (unmoved trail)))))))))))

  pub alloc_is_right_after : (pool : Name) (words : ℕ) (place : Slot) (result : Checked (Unit {0})) (after : HeapState F)
      (trail_after : Moves) → ComesMoving h trail (block_allocated h trail pool words place) result after trail_after
      → IsRightMoving layout h (call.Alloc pool words place) trail.moves trail_after.moves (answer_to says_ok result) after
  alloc_is_right_after pool words place =
      appended_right layout h (call.Alloc pool words place) trail says_ok (block_allocated h trail pool words place)
      (block_allocated h (fresh trail) pool words place) (alloc_appends pool words place)
      (alloc_is_right layout h (fresh trail) refl pool words place)

  free_appends : (place : Slot) → Appends trail.moves (block_freed h trail place) (block_freed h (fresh trail) place)
  free_appends place =
      after_check trail.moves (block_place_in h place) _ _ (λ from.
      after_check trail.moves (block_in h from) _ _ (λ at.
      after_check trail.moves (required (segment_over h.segs.segments at) refusal.NotABlock) _ _ (λ s.
      after_refusal trail.moves (refuse_when (has_frames h s.pool) refusal.WrongPool) _ _ (
      after_check trail.moves (required (slice_get h.sizes s.pool) refusal.NotABlock) _ _ (λ size.
      ok_appends trail.moves tt _ _ _ (freed_appends size h.segs trail (record { 0 = at })))))))

  pub free_is_right_after : (place : Slot) (result : Checked (Unit {0})) (after : HeapState F) (trail_after : Moves)
      → ComesMoving h trail (block_freed h trail place) result after trail_after
      → IsRightMoving layout h (call.Free place) trail.moves trail_after.moves (answer_to says_ok result) after
  free_is_right_after place =
      appended_right layout h (call.Free place) trail says_ok (block_freed h trail place)
      (block_freed h (fresh trail) place) (free_appends place)
      (free_is_right layout h (fresh trail) refl place)
