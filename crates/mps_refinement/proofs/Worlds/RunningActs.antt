-- A call that makes no moves is a legal step while a collection runs, and the collector's invariant is true after it.
use Rattle.std.proofs.Common.{◌≡◌, ◌∙◌, ℕ, Bool, true, false, true≢false, refl, sym, ap, subst, [], ◌++◌, None, Err}
use Rattle.std.proofs.lemmas.Bool.{false≢true}
use Rattle.std.specs.Prelude.{not, ◌||◌}
use Rattle.std.specs.List.{list_all}
use Rattle.mps_base.specs.declared.refusal.Refusal.TheVariants as refusal
use Rattle.mps_model.specs.declared.call.Call.{Call}
use Rattle.mps_model.specs.declared.call.Call.TheVariants as call
use Rattle.mps_model.specs.Answer.{Answer, is_block}
use Rattle.mps_model.specs.Graph.{ids_in_blocks, ids_in_places}
use Rattle.mps_model.specs.World.{World, is_live}
use Rattle.mps_model.specs.Checked.{Act, Checked}
use Rattle.mps_model.specs.LegalMove.{AreLegalMoves}
use Rattle.mps_model.specs.Reply.{act, world_from}
use Rattle.mps_model.specs.History.{judged_world, moved_world, moves_of_collector}
use Rattle.mps_changes.specs.Change.{allocates, frees, makes_arena, Change, Unchanged, Allocated, CacheMade, BlockUncached, BlockCached, CacheFlushed, FramesPopped, Committed, PlaceEmptied, BlocksMade}
use Rattle.mps_changes.proofs.ActChanges.{but, of_changes}
use Rattle.mps_changes.proofs.Checks.{for_world}
use Rattle.mps_changes.proofs.OneMore.{cache_added}
use Rattle.mps_laws.proofs.Sound.HeldIds.{blocks_made}
use Rattle.mps_laws.proofs.QuietSteps.{IsQuiet}
use Rattle.mps_abstract.specs.Colours.{AreDifferent}
use Rattle.mps_abstract.specs.Collecting.{Collecting, Running}
use Rattle.mps_abstract.specs.ClientLaws.{AreApartFrom, IsMarkedKept, IsReadKept, IsWellPlaced, collected_world, position_taken}
use Rattle.mps_abstract.proofs.HeldSegments.{segments_ordered}
use Rattle.mps_abstract.proofs.OwnAddresses.{well_formed_different}
use Rattle.mps_abstract.proofs.LeftRightly.{left_rightly}
use Rattle.mps_refinement.proofs.Worlds.RestingActs.{may_move}
use Rattle.mps_refinement.proofs.Worlds.RunningSteps.{IsOwnStep, own_step_runs_on}
use Rattle.mps_refinement.specs.QuietCalls.{IsQuietCall, QuietCallsRunOn, RunsOn, never_moves}
use Rattle.mps_refinement.specs.RightStep.{step_of}

-- a call of which no more has to be shown than what its act comes to: `poke` may be answered in two ways, and `definalize` takes a
-- registration away
abbrev pub is_plain : Call → Bool
is_plain (call.Poke word value) = false
is_plain (call.Definalize slot) = false
is_plain _ = true

-- ---- what a change leaves of addresses, segments and places of blocks

abbrev HasLiveBlocks : World → Type 0
HasLiveBlocks u = list_all (is_live u) (ids_in_blocks u.graph) ≡ true

block_moves : (c : Call) → (allocates c || frees c) ≡ true → never_moves c ≡ false
block_moves (call.Alloc pool words place) h = refl
block_moves (call.CacheAlloc cache words place) h = refl
block_moves (call.Free place) h = refl
block_moves (call.CacheFree cache place) h = refl
block_moves _ h = absurd (false≢true h)

or_right : (a b : Bool) → b ≡ true → (a || b) ≡ true
or_right true b h = refl
or_right false b h = h

module _ (w : World) (c : Call) (never : never_moves c ≡ true) where
  -- the call that makes a change isn't of a kind that makes moves
  moves : {A : Type 0} {d : Call} → c ≡ d → not (never_moves d) ≡ true → A
  moves is h = but (λ d. not (never_moves d)) is h (ap not never)

  -- nor does it make a block or free one
  moves_block : {A : Type 0} → (allocates c || frees c) ≡ true → A
  moves_block h = absurd (true≢false (sym never ∙ block_moves c h))

  change_addresses : {marked : Bool} {u : World} → Change marked c w w u → u.addresses ≡ w.addresses
  change_addresses (Allocated p words place at e of kind size found empty) = moves_block (ap (λ b. b || frees c) e)
  change_addresses (Committed name target p r slot e there found has lives) = moves e refl
  change_addresses _ = refl

  change_segments : {marked : Bool} {u : World} → Change marked c w w u → u.segments ≡ w.segments
  change_segments Unchanged = refl
  change_segments _ = refl

  change_tails : {marked : Bool} {u : World} → Change marked c w w u → u.tails ≡ w.tails
  change_tails Unchanged = refl
  change_tails _ = refl

  change_blocks : {marked : Bool} {u : World} → HasLiveBlocks w → Change marked c w w u → HasLiveBlocks u
  change_blocks live (Allocated p words place at e of kind size found empty) = moves_block (ap (λ b. b || frees c) e)
  change_blocks live (Committed name target p r slot e there found has lives) = moves e refl
  change_blocks live (PlaceEmptied from place id e found has freed) = moves_block (or_right (allocates c) (frees c) e)
  change_blocks live (CacheMade name pool of classes e may none) =
      subst (λ ids. list_all (is_live w) (ids_in_places w.graph ++ ids) ≡ true)
      (sym (cache_added w.graph.caches (record { pool = of.number; classes = classes }) none)) live
  change_blocks live (BlockUncached name cache words into place id classes e is taken found empty) = moves e refl
  change_blocks live (BlockCached name cache from place id classes e is found has own kept) = moves e refl
  change_blocks live (CacheFlushed name cache e is) = moves e refl
  change_blocks live (FramesPopped name f frame before e found opened) = moves e refl
  change_blocks live (BlocksMade name places e) = blocks_made (is_live w) w.graph live places
  change_blocks live _ = live

  -- an act leaves the world or a changed one
  by_change : {P : World → Type 0} (marked : Bool) → P w → ((u : World) → Change marked c w w u → P u)
      → P (world_from w (act marked w w c))
  by_change {P} marked before each = for_world P w (act marked w w c) (of_changes marked w w c each) before

  pub act_addresses : (marked : Bool) → (world_from w (act marked w w c)).addresses ≡ w.addresses
  act_addresses marked = by_change marked refl (λ u change. change_addresses change)

  pub act_segments : (marked : Bool) → (world_from w (act marked w w c)).segments ≡ w.segments
  act_segments marked = by_change marked refl (λ u change. change_segments change)

  pub act_tails : (marked : Bool) → (world_from w (act marked w w c)).tails ≡ w.tails
  act_tails marked = by_change marked refl (λ u change. change_tails change)

  -- the places of tables of blocks hold live blocks after it
  pub blocks_after : HasLiveBlocks w → (marked : Bool) → HasLiveBlocks (world_from w (act marked w w c))
  blocks_after live marked = by_change {P = HasLiveBlocks} marked live (λ u change. change_blocks live change)

-- ---- the step

same_act : (w : World) (c : Call) (answer : Answer) → IsQuiet w c answer
    → act (is_block answer) (judged_world w c []) (moved_world w c []) c ≡ act (is_block answer) w w c
same_act w c answer q =
    ap (λ v. act (is_block answer) v (moved_world w c []) c) q.judged ∙ ap (λ v. act (is_block answer) w v c) q.moved

module _ (x : Collecting) (run : Running x) where
  abbrev w : World
  w = x.world

  quiet_running : (c : Call) (answer : Answer) → never_moves c ≡ true → IsMarkedKept x c answer → IsQuiet w c answer
  quiet_running (call.Arena grains limit) answer h kept = absurd (false≢true h)
  quiet_running (call.Reserve point head) answer h kept = absurd (false≢true h)
  quiet_running (call.Commit point target) answer h kept = absurd (false≢true h)
  quiet_running (call.Alloc pool words place) answer h kept = absurd (false≢true h)
  quiet_running (call.Free place) answer h kept = absurd (false≢true h)
  quiet_running (call.CacheAlloc cache words place) answer h kept = absurd (false≢true h)
  quiet_running (call.CacheFree cache place) answer h kept = absurd (false≢true h)
  quiet_running (call.CacheFlush cache) answer h kept = absurd (false≢true h)
  quiet_running (call.Pop pool frame) answer h kept = absurd (false≢true h)
  quiet_running (call.Get target source cell) answer h kept = absurd (false≢true h)
  quiet_running call.Start answer h kept = absurd (false≢true h)
  quiet_running (call.StartChain chain generation) answer h kept = absurd (false≢true h)
  quiet_running (call.Step units) answer h kept = absurd (false≢true h)
  quiet_running call.Collect answer h kept = absurd (false≢true h)
  quiet_running call.Park answer h kept = absurd (false≢true h)
  quiet_running (call.Poke word value) answer h kept = record {
    judged = refl;
    moved = refl;
    due = refl;
    marked = (left_rightly x run).marked word value answer kept;
  }
  quiet_running c answer h kept = record { judged = refl; moved = refl; due = refl; marked = tt }

  nothing_read : (c : Call) → never_moves c ≡ true → IsReadKept x c
  nothing_read (call.Get target source cell) h = absurd (false≢true h)
  nothing_read _ h = tt

  nothing_collected : (line : ℕ) (c : Call) (answer : Answer) → never_moves c ≡ true
      → collected_world w (step_of line c [] answer) ≡ w
  nothing_collected line (call.Reserve point head) answer h = absurd (false≢true h)
  nothing_collected line (call.Step units) answer h = absurd (false≢true h)
  nothing_collected line (call.Commit point target) answer h = absurd (false≢true h)
  nothing_collected line (call.Alloc pool words place) answer h = absurd (false≢true h)
  nothing_collected line (call.Free place) answer h = absurd (false≢true h)
  nothing_collected line (call.CacheAlloc cache words place) answer h = absurd (false≢true h)
  nothing_collected line (call.CacheFree cache place) answer h = absurd (false≢true h)
  nothing_collected line (call.CacheFlush cache) answer h = absurd (false≢true h)
  nothing_collected line (call.Pop pool frame) answer h = absurd (false≢true h)
  nothing_collected line _ answer h = refl

  none_is_legal : (c : Call) → AreLegalMoves w None (moves_of_collector c [])
  none_is_legal (call.Reserve point head) = tt
  none_is_legal (call.Commit point target) = tt
  none_is_legal (call.Alloc pool words place) = tt
  none_is_legal (call.Free place) = tt
  none_is_legal (call.CacheAlloc cache words place) = tt
  none_is_legal (call.CacheFree cache place) = tt
  none_is_legal (call.CacheFlush cache) = tt
  none_is_legal (call.Pop pool frame) = tt
  none_is_legal _ = tt

  module _ (line : ℕ) (c : Call) (answer : Answer) (is : IsQuietCall x c answer) where
    abbrev r : Checked Act
    r = act (is_block answer) w w c

    q : IsQuiet w c answer
    q = quiet_running c answer is.never is.marked_kept

    placed : IsWellPlaced (world_from w r)
    placed = record {
      different = subst AreDifferent (sym (act_addresses w c is.never (is_block answer))) (well_formed_different w is.well_formed);
      apart = subst (AreApartFrom 1) (sym (act_segments w c is.never (is_block answer))) (segments_ordered w is.well_formed);
    }

    own : IsOwnStep w x c [] answer r
    own = record {
      collected = nothing_collected 0 c answer is.never;
      legal = none_is_legal c;
      due = q.due;
      marked = is.marked_kept;
      read = nothing_read c is.never;
      possible = q.marked;
      comes = same_act w c answer q;
      answers = is.answers;
      formed = is.well_formed;
      blocks = is.blocks_live;
      placed = subst (λ v. IsWellPlaced (world_from v r)) (sym q.moved) placed;
      blocks_after = subst (λ v. HasLiveBlocks (world_from v r)) (sym q.moved)
          (blocks_after w c is.never is.blocks_live (is_block answer));
    }

    pub runs_on : RunsOn w x (step_of line c [] answer) (world_from w r)
    runs_on = subst (λ v. RunsOn w x (step_of line c [] answer) (world_from v r)) q.moved (own_step_runs_on w x run line c [] answer r own)

pub quiet_calls_run_on : QuietCallsRunOn
quiet_calls_run_on x line c answer run is = runs_on x run line c answer is

-- ---- what is known of a call that never moves

pub marks_do_not_matter : (w : World) (marked : Bool) (c : Call) → is_plain c ≡ true → never_moves c ≡ true
    → act marked w w c ≡ act false w w c
marks_do_not_matter w marked (call.Poke word value) h s = absurd (false≢true h)
marks_do_not_matter w marked _ h s = refl

pub moves_not_at_rest : (c : Call) → never_moves c ≡ true → may_move c ≡ false
moves_not_at_rest (call.Reserve point head) h = absurd (false≢true h)
moves_not_at_rest (call.Commit point target) h = absurd (false≢true h)
moves_not_at_rest (call.Alloc pool words place) h = absurd (false≢true h)
moves_not_at_rest (call.Free place) h = absurd (false≢true h)
moves_not_at_rest (call.CacheAlloc cache words place) h = absurd (false≢true h)
moves_not_at_rest (call.CacheFree cache place) h = absurd (false≢true h)
moves_not_at_rest (call.CacheFlush cache) h = absurd (false≢true h)
moves_not_at_rest (call.Pop pool frame) h = absurd (false≢true h)
moves_not_at_rest call.Start h = absurd (false≢true h)
moves_not_at_rest (call.StartChain chain generation) h = absurd (false≢true h)
moves_not_at_rest call.Collect h = absurd (false≢true h)
moves_not_at_rest _ h = refl

pub makes_no_arena : (c : Call) → never_moves c ≡ true → makes_arena c ≡ false
makes_no_arena (call.Arena grains limit) h = absurd (false≢true h)
makes_no_arena _ h = refl

pub none_kept : (x : Collecting) (c : Call) (answer : Answer) → is_plain c ≡ true → IsMarkedKept x c answer
none_kept x (call.Poke word value) answer h = absurd (false≢true h)
none_kept x _ answer h = tt

-- such a call takes no registration away
pub takes_none : (w : World) (c : Call) → is_plain c ≡ true → position_taken w c ≡ Err refusal.NotRegistered
takes_none w (call.Definalize slot) h = absurd (false≢true h)
takes_none w _ h = refl
