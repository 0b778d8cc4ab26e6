-- A cell of an object that is neither weak nor a dependent stays over a legal step whose call doesn't write it: no move can.
use Rattle.std.proofs.Common.{◌≡◌, ℕ, Bool, true, false, refl, ◌∙◌, ap, subst, List, [], ◌∷◌, ◌++◌, Option, Some, None, Ok, Err}
use Rattle.std.proofs.lemmas.Bool.{false≢true, and_parts, and_from}
use Rattle.std.specs.Prelude.{not, if◌then◌else◌, filter}
use Rattle.std.specs.List.{list_all, list_any}
use Rattle.mps_base.specs.Placement.{Placement, Place, NewSegment, OverLimit, NoFreeRun}
use Rattle.mps_base.specs.declared.moves.Move.{Move}
use Rattle.mps_base.specs.declared.moves.Move.TheVariants as moves
use Rattle.mps_model.specs.declared.call.Call.{Call}
use Rattle.mps_model.specs.declared.call.Call.TheVariants as call
use Rattle.mps_model.specs.Answer.{Answer, is_accepted, is_refused}
use Rattle.mps_model.specs.Graph.{Cache, CacheClass, is_weak_object}
use Rattle.mps_model.specs.World.{World, object_is}
use Rattle.mps_model.specs.Caches.{taken_from}
use Rattle.mps_model.specs.Checked.{Checked, Numbered, block_place_in, cache_named, point_named, pool_named}
use Rattle.mps_model.specs.Effect.{world_after_move}
use Rattle.mps_model.specs.Frames.{frames_named}
use Rattle.mps_model.specs.LegalMove.{AreLegalMoves}
use Rattle.mps_model.specs.Placement.{ForAlloc, placement_of}
use Rattle.mps_model.specs.History.{AreMovesOf, alloc_at, if_accepted, is_segment_taken, last_move, moves_if_not_taken, moves_of_alloc, moves_of_cache_alloc, moves_of_collector, moves_of_poll, own_segment, unless_refused}
use Rattle.mps_laws.proofs.ClientMoves.{HoldsOfFrees, cache_passes, commit_passes, flush_passes, place_passes, pop_passes}
use Rattle.mps_laws.proofs.Replays.ReserveSteps.{poll_then_own}
use Rattle.mps_client_laws.specs.Objects.{cells_nulled, is_cell, moves_leave_cell, writes_cell}
use Rattle.mps_client_laws.specs.Collecting.{LastingCellsStay, is_dependent}
use Rattle.mps_client_laws.proofs.Collecting.{legal_moves_leave_lasting}
use Rattle.mps_client_laws.proofs.Objects.{cell_after_step}

-- ---- moves without a splat

abbrev is_no_splat : Move → Bool
is_no_splat (moves.Splat holder cell) = false
is_no_splat _ = true

move_leaves : (w : World) (m : Move) (id k : ℕ) → is_no_splat m ≡ true → not (list_any (is_cell id k) (cells_nulled w m)) ≡ true
move_leaves w (moves.Splat holder cell) id k none = absurd (false≢true none)
move_leaves w _ id k none = refl

-- without a splat no cell is made null
moves_leave : (w : World) (ms : List Move) (id k : ℕ) → list_all is_no_splat ms ≡ true → moves_leave_cell w ms id k ≡ true
moves_leave w [] id k none = refl
moves_leave w (m ∷ ms) id k none =
    let parts = and_parts (is_no_splat m) (list_all is_no_splat ms) none in
    and_from (not (list_any (is_cell id k) (cells_nulled w m))) (moves_leave_cell (world_after_move w m) ms id k)
    (move_leaves w m id k parts.0) (moves_leave (world_after_move w m) ms id k parts.1)

-- moves that leave a cell, and then some without a splat
then_leave : (w : World) (ms ns : List Move) (id k : ℕ) → moves_leave_cell w ms id k ≡ true → list_all is_no_splat ns ≡ true
    → moves_leave_cell w (ms ++ ns) id k ≡ true
then_leave w [] ns id k first none = moves_leave w ns id k none
then_leave w (m ∷ ms) ns id k first none =
    let parts = and_parts (not (list_any (is_cell id k) (cells_nulled w m))) (moves_leave_cell (world_after_move w m) ms id k) first in
    and_from (not (list_any (is_cell id k) (cells_nulled w m))) (moves_leave_cell (world_after_move w m) (ms ++ ns) id k) parts.0
    (then_leave (world_after_move w m) ms ns id k parts.1 none)

-- ---- the client's moves

of_frees : HoldsOfFrees is_no_splat
of_frees = record { unseg = λ base. refl; free = λ at. refl; commit = λ at words pool. refl }

segments_pass : (ms : List Move) → list_all is_no_splat (filter is_segment_taken ms) ≡ true
segments_pass [] = refl
segments_pass (moves.Seg base grains pool generation ∷ ms) = segments_pass ms
segments_pass (_ ∷ ms) = segments_pass ms

placement_passes : (pool words : ℕ) (p : Placement) → list_all is_no_splat (alloc_at pool words p) ≡ true
placement_passes pool words (Place word) = refl
placement_passes pool words (NewSegment grain grains) = refl
placement_passes pool words (OverLimit committed need limit) = refl
placement_passes pool words (NoFreeRun need longest) = refl

alloc_passes : (w : World) {A : Type 0} (x : Checked (Numbered A)) (words : ℕ) → list_all is_no_splat (moves_of_alloc w x words) ≡ true
alloc_passes w (Ok p) words = placement_passes p.number words (placement_of w (ForAlloc p.number words))
alloc_passes w (Err why) words = refl

cache_alloc_passes : (w : World) (x : Checked (Numbered Cache)) (words : ℕ) → list_all is_no_splat (moves_of_cache_alloc w x words) ≡ true
cache_alloc_passes w (Err why) words = refl
cache_alloc_passes w (Ok q) words = of_taken (taken_from q.value.classes words)
  where
    of_taken : (o : Option (ℕ × List CacheClass)) → list_all is_no_splat (moves_if_not_taken w q.value.pool words o) ≡ true
    of_taken (Some taken) = refl
    of_taken None = placement_passes q.value.pool words (placement_of w (ForAlloc q.value.pool words))

unless_passes : (answer : Answer) (ms : List Move) → list_all is_no_splat ms ≡ true → list_all is_no_splat (unless_refused answer ms) ≡ true
unless_passes answer ms none = by_case (is_refused answer)
  where
    by_case : (b : Bool) → list_all is_no_splat (if b then [] else ms) ≡ true
    by_case true = refl
    by_case false = none

if_passes : (answer : Answer) (ms : List Move) → list_all is_no_splat ms ≡ true → list_all is_no_splat (if_accepted answer ms) ≡ true
if_passes answer ms none = by_case (is_accepted answer)
  where
    by_case : (b : Bool) → list_all is_no_splat (if b then ms else []) ≡ true
    by_case true = none
    by_case false = refl

-- ---- the moves of a step

module _ (w : World) (answer : Answer) (ms : List Move) (id k : ℕ) (strong : object_is is_weak_object w id ≡ false)
    (free : is_dependent w.graph id ≡ false) where
  client_leaves : (due : List Move) → ms ≡ due → list_all is_no_splat due ≡ true → moves_leave_cell w ms id k ≡ true
  client_leaves due is none = moves_leave w ms id k (ap (list_all is_no_splat) is ∙ none)

  moves_leave_lasting : (c : Call) → AreLegalMoves w None (moves_of_collector c ms) → AreMovesOf w c answer ms
      → moves_leave_cell w ms id k ≡ true
  moves_leave_lasting (call.Reserve point head) legal due =
      subst (λ ns. moves_leave_cell w ns id k ≡ true) (poll_then_own ms)
      (then_leave w (moves_of_poll ms) (own_segment ms) id k (legal_moves_leave_lasting w None (moves_of_poll ms) id k strong free legal)
      (segments_pass (last_move ms)))
  moves_leave_lasting (call.Commit point target) legal due =
      client_leaves _ due (if_passes answer _ (commit_passes is_no_splat of_frees w (point_named w point)))
  moves_leave_lasting (call.Alloc pool words place) legal due =
      client_leaves _ due (unless_passes answer _ (alloc_passes w (pool_named w pool) words))
  moves_leave_lasting (call.Free place) legal due =
      client_leaves _ due (unless_passes answer _ (place_passes is_no_splat of_frees w (block_place_in w place)))
  moves_leave_lasting (call.CacheAlloc cache words place) legal due =
      client_leaves _ due (unless_passes answer _ (cache_alloc_passes w (cache_named w cache) words))
  moves_leave_lasting (call.CacheFree cache place) legal due =
      client_leaves _ due (unless_passes answer _ (cache_passes is_no_splat of_frees w (cache_named w cache) (block_place_in w place)))
  moves_leave_lasting (call.CacheFlush cache) legal due =
      client_leaves _ due (unless_passes answer _ (flush_passes is_no_splat of_frees w (cache_named w cache)))
  moves_leave_lasting (call.Pop pool frame) legal due =
      client_leaves _ due (unless_passes answer _ (pop_passes is_no_splat of_frees w (frames_named w pool) frame))
  moves_leave_lasting _ legal due = legal_moves_leave_lasting w None ms id k strong free legal

pub lasting_cells_stay : LastingCellsStay
lasting_cells_stay w s id k cell legal strong free unwritten there =
    cell_after_step w s id k cell
    (and_from (not (writes_cell w s.call id k)) (moves_leave_cell w s.moves id k) (ap not unwritten)
    (moves_leave_lasting w s.answer s.moves id k strong free s.call legal.moves_are_legal legal.moves_are_due))
    there
