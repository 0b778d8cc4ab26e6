-- Every call of the client keeps the invariant: call by call, and then the whole step.
use Rattle.std.proofs.Common.{◌≡◌, ◌∙◌, ℕ, Bool, true, false, refl, sym, ap, List, [], Option, Some, None, subst}
use Rattle.std.proofs.lemmas.Bool.{false≢true, true≢false}
use Rattle.std.specs.Prelude.{Ok, Err, if◌then◌else◌, option_map}
use Rattle.std.specs.List.{list_all}
use Rattle.mps_base.specs.declared.moves.Move.{Move}
use Rattle.mps_base.specs.declared.names.Slot.{Slot}
use Rattle.mps_base.specs.declared.refusal.Refusal.TheVariants as refusal
use Rattle.mps_model.specs.declared.call.Call.{Call}
use Rattle.mps_model.specs.declared.call.Call.TheVariants as call
use Rattle.mps_model.specs.Answer.{Answer, is_accepted, is_block}
use Rattle.mps_model.specs.Graph.{Graph, Object, Point, Reservation, position_of_first, without_first, ids_in_blocks}
use Rattle.mps_model.specs.World.{World, is_live}
use Rattle.mps_model.specs.WellFormed.{IsWellFormed}
use Rattle.mps_model.specs.Checked.{Act, Checked, Found, Numbered, ◌>>=◌, required, done, slot_in, object_in, block_place_in, cache_named, pool_named, point_named, number_named, as_point}
use Rattle.mps_model.specs.Collecting.{act_definalize, without_registration}
use Rattle.mps_model.specs.Effect.{world_after_moves}
use Rattle.mps_model.specs.Policy.{units_asked}
use Rattle.mps_model.specs.Reply.{act, world_from}
use Rattle.mps_model.specs.Frames.{frames_named}
use Rattle.mps_model.specs.History.{moves_of_collector, moves_of_poll, own_segment, after_own_segment, judged_world, moved_world, asking, AreMovesOf, moves_of_commit, commit_of, unless_refused, moves_of_free, moves_of_cache_flush, moves_of_pop, moves_of_cache_free}
use Rattle.mps_abstract.specs.Colours.{AreDifferent}
use Rattle.mps_abstract.specs.Collecting.{Collecting, Running}
use Rattle.mps_abstract.specs.ClientLaws.{AreApartFrom, IsWellPlaced, position_taken, collection_without, next_without, IsMarkedKept, IsReadKept, ClientsKeepRunning}
use Rattle.mps_changes.specs.Change.{ForAct, accepted, refused, allocates, Change, Unchanged}
use Rattle.mps_changes.proofs.ActChanges.{act_changes_so}
use Rattle.mps_abstract.proofs.Calls.ClientByChanges.{unregisters, moves_itself, reserves, act_runs}
use Rattle.mps_abstract.proofs.Calls.ClientRegistrations.{first_stands, definalized_keeps, remembered_keeps}
use Rattle.mps_abstract.proofs.Calls.ClientBlocks.{MayHoldMore, alloc_moves_more, more_keeps, take_moves_more}
use Rattle.mps_abstract.proofs.Calls.ClientFrees.{freeing_keeps}
use Rattle.mps_abstract.proofs.Calls.ClientCaches.{cache_flush_keeps, pop_keeps, cache_free_keeps}
use Rattle.mps_abstract.proofs.Calls.ClientReserves.{MayOwn, own_segment_owned, owned_asking, owned_graph, owned_keeps}
use Rattle.mps_abstract.proofs.Calls.ClientReads.{HasTables, moves_leave}

-- no act changes which segments are held
act_segments : (marked : Bool) (judged v : World) (c : Call) → (world_from v (act marked judged v c)).segments ≡ v.segments
act_segments marked judged v c = by_case (act marked judged v c) (act_changes_so marked judged v c)
  where
    of_change : {u : World} → Change marked c judged v u → u.segments ≡ v.segments
    of_change Unchanged = refl
    of_change _ = refl

    by_case : (a : Checked Act) → ForAct (Change marked c judged v) a → (world_from v a).segments ≡ v.segments
    by_case _ (accepted change) = of_change change
    by_case _ refused = refl

module _ (x : Collecting) (run : Running x) where
  abbrev w : World
  w = x.world

  -- ---- a registration is taken away

  module _ (slot : Slot) where
    abbrev position_of : Numbered Object → Checked ℕ
    position_of object = required (position_of_first w.graph.registered object.number) refusal.NotRegistered

    abbrev taken_away : Numbered Object → ℕ → World
    taken_away object position = record w {
      graph = record w.graph { registered = without_first w.graph.registered object.number };
      collection = option_map (without_registration position) w.collection;
    }

    abbrev state_after : Checked Act → Checked ℕ → Collecting
    state_after a taken = record x {
      world = world_from w a;
      running = collection_without taken x.running;
      next = next_without taken
          x.next;
    }

    definalize_position : (object : Numbered Object) (o : Option ℕ) → position_of_first w.graph.registered object.number ≡ o
        → Running (state_after (required o refusal.NotRegistered >>= (λ position. done (taken_away object position)))
        (required o refusal.NotRegistered))
    definalize_position object None e = run
    definalize_position object (Some position) e =
        definalized_keeps x run object.number position (first_stands w.graph.registered object.number position e)

    definalize_object : (m : Checked (Numbered Object))
        → Running (state_after (m >>= (λ object. position_of object >>= (λ position. done (taken_away object position))))
        (m >>= (λ object. position_of object)))
    definalize_object (Err why) = run
    definalize_object (Ok object) = definalize_position object (position_of_first w.graph.registered object.number) refl

    definalize_slot : (m : Checked (Found (Option ℕ)))
        → Running (state_after (m >>= (λ from. object_in w from.value >>=
        (λ object. position_of object >>= (λ position. done (taken_away object position)))))
        (m >>= (λ from. object_in w from.value >>= (λ object. position_of object))))
    definalize_slot (Err why) = run
    definalize_slot (Ok from) = definalize_object (object_in w from.value)

    definalize_keeps : Running (state_after (act_definalize w slot) (position_taken w (call.Definalize slot)))
    definalize_keeps = definalize_slot (slot_in w slot)

-- the moves of a commit change nothing
pub commit_leaves : (w : World) (m : Checked (Numbered Point)) (b : Bool) → world_after_moves w (if b then moves_of_commit w m else []) ≡ w
commit_leaves w m false = refl
commit_leaves w (Err why) true = refl
commit_leaves w (Ok p) true = of_reservation p.value.reservation
  where
    of_reservation : (o : Option Reservation) → world_after_moves w (commit_of w p o) ≡ w
    of_reservation None = refl
    of_reservation (Some r) = refl

pub asked_graph : (units : Option ℕ) (w : World) → (asking units w).graph ≡ w.graph
asked_graph None w = refl
asked_graph (Some n) w = refl

-- a call is judged among the same tables and names
same_tables : (units : Option ℕ) (w : World) (ms : List Move) → HasTables w (asking units (world_after_moves w ms))
same_tables None w ms = moves_leave w ms
same_tables (Some n) w ms = let same = moves_leave w ms in record { tables = same.tables; names = same.names }

reserve_moves : (c : Call) → reserves c ≡ true → moves_itself c ≡ true
reserve_moves (call.Reserve point head) h = refl
reserve_moves _ h = absurd (false≢true h)

-- ---- call by call

module _ (w : World) (x : Collecting) (run : Running x) (formed : IsWellFormed x.world)
    (live : list_all (is_live x.world) (ids_in_blocks x.world.graph) ≡ true) where
  abbrev After : (c : Call) (ms : List Move) (answer : Answer) → World
  After c ms answer = world_from (moved_world w c ms) (act (is_block answer) (judged_world w c ms) (moved_world w c ms) c)

  -- a call without moves of its own
  plain_keeps : (c : Call) (answer : Answer) (now : World) → now ≡ x.world → unregisters c ≡ false → moves_itself c ≡ false
      → HasTables w x.world → IsMarkedKept x c answer → IsReadKept x c → IsWellPlaced (world_from now (act (is_block answer) w now c))
      → Running (record x { world = world_from now (act (is_block answer) w now c) })
  plain_keeps c answer now led stays quiet tables marked read placed =
      subst (λ v. AreDifferent (world_from v (act (is_block answer) w v c)).addresses
      → Running (record x { world = world_from v (act (is_block answer) w v c) })) (sym led)
      (act_runs x run w c answer (record {
        tables = tables;
        marked = marked;
        read = read;
        as_many = λ h. formed.addresses;
        formed = λ h. formed;
        same_graph = λ h. absurd (true≢false (sym (reserve_moves c h) ∙ quiet));
      }) stays) placed.different

  -- a call whose moves free blocks
  freed_keeps : (c : Call) (ms : List Move) (answer : Answer) → Running (record x { world = world_after_moves w ms })
      → IsMarkedKept (record x { world = world_after_moves w ms }) c answer → IsReadKept (record x { world = world_after_moves w ms }) c
      → moves_itself c ≡ true → allocates c ≡ false → reserves c ≡ false → unregisters c ≡ false
      → IsWellPlaced (world_from (world_after_moves w ms) (act (is_block answer) w (world_after_moves w ms) c))
      → Running (record x { world = world_from (world_after_moves w ms) (act (is_block answer) w (world_after_moves w ms) c) })
  freed_keeps c ms answer runs marked read itself none other stays placed =
      act_runs (record x { world = world_after_moves w ms }) runs w c answer (record {
        tables = moves_leave w ms;
        marked = marked;
        read = read;
        as_many = λ h. absurd (true≢false (sym h ∙ none));
        formed = λ h. absurd (true≢false (sym itself ∙ h));
        same_graph = λ h. absurd (true≢false (sym h ∙ other));
      }) stays placed.different

  call_keeps : (c : Call) (ms : List Move) (answer : Answer)
      → asking (units_asked w c) (world_after_moves w (moves_of_collector c ms)) ≡ x.world → AreMovesOf w c answer ms
      → IsMarkedKept x c answer → IsReadKept x c → IsWellPlaced (After c ms answer)
      → Running (record x {
        world = After c ms answer;
        running = collection_without (position_taken x.world c) x.running;
        next = next_without (position_taken x.world c) x.next;
      })
  call_keeps (call.Reserve point head) ms answer led due marked read placed =
      let c = call.Reserve point head in
      let judged = world_after_moves w (moves_of_poll ms) in
      let after = moved_world w c ms in
      let owned : MayOwn x.world after = subst (λ v. MayOwn v after) led (owned_asking (units_asked w c) judged
      (after_own_segment judged (own_segment ms) (number_named w point as_point))
      (own_segment_owned judged (own_segment ms) (number_named w point as_point))) in
      let same = sym (asked_graph (units_asked w c) judged) ∙ (ap (λ (v : World). v.graph) led ∙ sym (owned_graph x.world after owned)) in
      act_runs (record x { world = after })
      (owned_keeps x run after owned (subst (AreApartFrom 1) (act_segments (is_block answer) judged after c) placed.apart))
      judged c answer (record {
        tables = record { tables = ap (λ (g : Graph). g.tables) (sym same); names = ap (λ (g : Graph). g.names) (sym same) };
        marked = tt;
        read = tt;
        as_many = λ h. absurd (false≢true h);
        formed = λ h. absurd (true≢false h);
        same_graph = λ h. same;
      }) refl placed.different
  call_keeps (call.Commit point target) ms answer led due marked read placed =
      plain_keeps (call.Commit point target) answer (world_after_moves w ms)
      (ap (world_after_moves w) due ∙ (commit_leaves w (point_named w point) (is_accepted answer) ∙ led)) refl refl
      (subst (HasTables w) led (moves_leave w [])) tt tt placed
  call_keeps (call.Alloc pool words place) ms answer led due marked read placed =
      let after = world_after_moves w ms in
      let c = call.Alloc pool words place in
      let more = more_keeps x run after
      (subst (λ v. MayHoldMore v after) led (subst (λ those. MayHoldMore w (world_after_moves w those)) (sym due)
      (alloc_moves_more w (pool_named w pool) words answer)))
      (subst (AreApartFrom 1) (act_segments (is_block answer) w after c) placed.apart) in
      act_runs (record x { world = after }) more.0 w c answer (record {
        tables = moves_leave w ms;
        marked = tt;
        read = tt;
        as_many = λ h. more.1 ∙ (formed.addresses ∙ sym more.2);
        formed = λ h. absurd (true≢false h);
        same_graph = λ h. absurd (false≢true h);
      }) refl placed.different
  call_keeps (call.Free place) ms answer led due marked read placed =
      let after = world_after_moves w ms in
      let c = call.Free place in
      let freed = world_after_moves w (unless_refused answer (moves_of_free w (block_place_in w place))) in
      let run_after = subst (λ those. AreApartFrom 1 (world_after_moves w those).segments
      → Running (record x { world = world_after_moves w those })) (sym due)
      (subst (λ v. AreApartFrom 1 (world_after_moves v (unless_refused answer (moves_of_free v (block_place_in v place)))).segments
      → Running (record x { world = world_after_moves v (unless_refused answer (moves_of_free v (block_place_in v place))) })) (sym led)
      (freeing_keeps x run formed live place answer))
      (subst (AreApartFrom 1) (act_segments (is_block answer) w after c) placed.apart) in
      act_runs (record x { world = after }) run_after w c answer (record {
        tables = moves_leave w ms;
        marked = tt;
        read = tt;
        as_many = λ h. absurd (false≢true h);
        formed = λ h. absurd (true≢false h);
        same_graph = λ h. absurd (false≢true h);
      }) refl placed.different
  call_keeps (call.CacheAlloc cache words place) ms answer led due marked read placed =
      let after = world_after_moves w ms in
      let c = call.CacheAlloc cache words place in
      let more = more_keeps x run after
      (subst (λ v. MayHoldMore v after) led (subst (λ those. MayHoldMore w (world_after_moves w those)) (sym due)
      (take_moves_more w (cache_named w cache) words answer)))
      (subst (AreApartFrom 1) (act_segments (is_block answer) w after c) placed.apart) in
      act_runs (record x { world = after }) more.0 w c answer (record {
        tables = moves_leave w ms;
        marked = tt;
        read = tt;
        as_many = λ h. more.1 ∙ (formed.addresses ∙ sym more.2);
        formed = λ h. absurd (true≢false h);
        same_graph = λ h. absurd (false≢true h);
      }) refl placed.different
  call_keeps (call.CacheFree cache place) ms answer led due marked read placed =
      freed_keeps (call.CacheFree cache place) ms answer
      (subst (λ those. Running (record x { world = world_after_moves w those })) (sym due)
      (subst (λ v. Running (record x {
        world = world_after_moves v (unless_refused answer (moves_of_cache_free v (cache_named v cache) (block_place_in v place)));
      })) (sym led) (cache_free_keeps x run formed live (cache_named x.world cache) place answer)))
      tt tt refl refl refl refl placed
  call_keeps (call.CacheFlush cache) ms answer led due marked read placed =
      freed_keeps (call.CacheFlush cache) ms answer
      (subst (λ those. Running (record x { world = world_after_moves w those })) (sym due)
      (subst (λ v. Running (record x {
        world = world_after_moves v
            (unless_refused answer (moves_of_cache_flush v (cache_named v cache)));
      }))
      (sym led) (cache_flush_keeps x run formed cache answer)))
      tt tt refl refl refl refl placed
  call_keeps (call.Pop pool frame) ms answer led due marked read placed =
      freed_keeps (call.Pop pool frame) ms answer
      (subst (λ those. Running (record x { world = world_after_moves w those })) (sym due)
      (subst (λ v. Running (record x {
        world = world_after_moves v
            (unless_refused answer (moves_of_pop v (frames_named v pool) frame));
      }))
      (sym led) (pop_keeps x run formed pool frame answer)))
      tt tt refl refl refl refl placed
  call_keeps (call.Definalize slot) ms answer led due marked read placed =
      subst (λ v. Running (record x {
        world = world_from v (act_definalize v slot);
        running = collection_without (position_taken x.world (call.Definalize slot)) x.running;
        next = next_without (position_taken x.world (call.Definalize slot)) x.next;
      })) (sym led) (definalize_keeps x run slot)
  call_keeps c ms answer led due marked read placed =
      plain_keeps c answer (moved_world w c ms) led refl refl (subst (HasTables w) led (same_tables (units_asked w c) w ms))
      marked read placed

-- ---- the whole step

pub clients_keep : ClientsKeepRunning
clients_keep w x s run step =
    remembered_keeps (record x {
      world = world_from (moved_world w s.call s.moves)
          (act (is_block s.answer) (judged_world w s.call s.moves) (moved_world w s.call s.moves) s.call);
      running = collection_without (position_taken x.world s.call) x.running;
      next = next_without (position_taken x.world s.call) x.next;
    })
    (call_keeps w x run step.well_formed step.blocks_live s.call s.moves s.answer step.collected step.moves_are_due step.marked_kept
    step.read_kept (record { different = step.well_placed.different; apart = step.well_placed.apart }))
