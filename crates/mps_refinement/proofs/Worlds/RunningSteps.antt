-- A step of the client with its own moves, while a collection runs, is legal, and the collector's invariant is true after it. The
-- collector's part of the step may have led from another world.
use Rattle.std.proofs.Common.{◌≡◌, ◌∙◌, ℕ, ◌*◌, ◌≤◌, true, refl, sym, ap, subst, List, [], ◌∷◌, None, Err, map, arith}
use Rattle.std.specs.Prelude.{◌||◌, is_some}
use Rattle.std.specs.List.{list_all, flat_map}
use Rattle.mps_base.specs.Address.{Address}
use Rattle.mps_base.specs.Run.{IsAscending, end_of}
use Rattle.mps_base.specs.Segment.{Segment, end_of_segment, grains_of_segment}
use Rattle.mps_base.specs.declared.moves.Move.{Move}
use Rattle.mps_base.specs.declared.refusal.Refusal.{Refusal}
use Rattle.mps_abstract.specs.Collecting.{Collecting, Running, units_left}
use Rattle.mps_abstract.specs.ClientLaws.{AreApartFrom, IsClientStep, IsMarkedKept, IsReadKept, IsWellPlaced, after_client, collected_world, collection_without, next_without, position_taken}
use Rattle.mps_abstract.proofs.Calls.ClientCalls.{clients_keep}
use Rattle.mps_abstract.proofs.Calls.ClientRegistrations.{remembered_keeps}
use Rattle.mps_abstract.proofs.LeftRightly.{left_rightly}
use Rattle.mps_trace_laws.proofs.Units.CallsLeave.{no_call_leaves_more}
use Rattle.mps_laws.proofs.Positions.LegalMoves.{HasLayout, different}
use Rattle.mps_laws.proofs.Positions.Occupancy.{occupancy_of}
use Rattle.mps_laws.proofs.Positions.Segments.{AreAligned}
use Rattle.mps_model.specs.declared.call.Call.{Call}
use Rattle.mps_model.specs.Answer.{Answer, is_block}
use Rattle.mps_model.specs.Step.{Step}
use Rattle.mps_model.specs.Graph.{ids_in_blocks, ids_of_client, targets}
use Rattle.mps_model.specs.World.{World, is_live, live_ids, ids_in_pairs}
use Rattle.mps_model.specs.WellFormed.{IsWellFormed}
use Rattle.mps_model.specs.Checked.{Act, Checked}
use Rattle.mps_model.specs.LegalMove.{AreLegalMoves}
use Rattle.mps_model.specs.Reply.{act, answer_from, world_from}
use Rattle.mps_model.specs.History.{HeldAreLive, AreMovesOf, IsPossiblyMarked, judged_world, moved_world, moves_of_collector, remembering, world_after, with_client_remembered}
use Rattle.mps_refinement.specs.QuietCalls.{RunsOn}
use Rattle.mps_refinement.specs.RightStep.{step_of}

-- ---- in a world that is laid out objects and segments lie apart

ascending_apart : (low high : ℕ) (from : Address) (ss : List Segment) → AreAligned ss → from ≡ 4096 * low
    → IsAscending low high (map grains_of_segment ss) → AreApartFrom from ss
ascending_apart low high from [] aligned is all = tt
ascending_apart low high from (s ∷ ss) aligned is all =
    let a = aligned.0 in
    let first = all.0 in
    let some = all.1 in (
      omega (arith, a, first, is),
      omega (arith, some),
      ascending_apart (end_of (grains_of_segment s)) high (end_of_segment s) ss aligned.1 (omega (arith, a)) all.2,
    )

weaker_from : (ss : List Segment) (from more : Address) → from ≤ more → AreApartFrom more ss → AreApartFrom from ss
weaker_from [] from more le all = tt
weaker_from (s ∷ ss) from more le all = (let first = all.0 in omega (arith, le, first), all.1, all.2)

pub placed_from_layout : (limit : ℕ) (v : World) → HasLayout limit v → IsWellPlaced v
placed_from_layout limit v laid = record {
  different = λ i j at e f. different limit (occupancy_of v) laid i j at e f;
  apart = weaker_from v.segments 1 (4096 * 1) (omega arith) (ascending_apart 1 limit
      (4096 * 1) v.segments laid.aligned refl laid.ascending);
}

-- ---- the step

-- a call of the client, with all its moves and what it comes to. The collector's part of it led to the state's world
pub record IsOwnStep (w : World) (x : Collecting) (c : Call) (ms : List Move) (answer : Answer) (r : Checked Act) : Type 0 where
  pub collected : collected_world w (step_of 0 c ms answer) ≡ x.world
  pub legal : AreLegalMoves w None (moves_of_collector c ms)
  pub due : AreMovesOf w c answer ms
  pub marked : IsMarkedKept x c answer
  pub read : IsReadKept x c
  pub possible : IsPossiblyMarked w c answer
  pub comes : act (is_block answer) (judged_world w c ms) (moved_world w c ms) c ≡ r
  pub answers : answer ≡ answer_from r
  pub formed : IsWellFormed x.world
  pub blocks : list_all (is_live x.world) (ids_in_blocks x.world.graph) ≡ true
  pub placed : IsWellPlaced (world_from (moved_world w c ms) r)
  pub blocks_after : list_all (is_live (world_from (moved_world w c ms) r)) (ids_in_blocks (world_from (moved_world w c ms) r).graph) ≡ true

-- a call with all its moves and what it comes to, if the invariant is true after it
pub record IsAnswered (w : World) (c : Call) (ms : List Move) (answer : Answer) (r : Checked Act) : Type 0 where
  pub legal : AreLegalMoves w None (moves_of_collector c ms)
  pub due : AreMovesOf w c answer ms
  pub possible : IsPossiblyMarked w c answer
  pub comes : act (is_block answer) (judged_world w c ms) (moved_world w c ms) c ≡ r
  pub answers : answer ≡ answer_from r
  pub blocks_after : list_all (is_live (world_from (moved_world w c ms) r)) (ids_in_blocks (world_from (moved_world w c ms) r).graph) ≡ true

module _ (w : World) (x : Collecting) (line : ℕ) (c : Call) (ms : List Move) (answer : Answer) (r : Checked Act)
    (is : IsAnswered w c ms answer r) where
  abbrev s : Step
  s = step_of line c ms answer

  pub after : world_after w s ≡ with_client_remembered (world_from (moved_world w c ms) r)
  after = ap (λ y. with_client_remembered (world_from (moved_world w c ms) y)) is.comes

  referred : Running (after_client w x s) → HeldAreLive (world_after w s)
  referred runs = record {
    client = (left_rightly (after_client w x s) runs).held_live;
    blocks = subst (λ (v : World). list_all (is_live v) (ids_in_blocks v.graph) ≡ true) (sym after) is.blocks_after;
    referred = ap (λ o. is_some o || list_all (is_live (world_after w s))
        (flat_map (targets (world_after w s).graph) (live_ids (world_after w s)))) runs.runs;
    transforms = ap (λ o. is_some o || list_all (is_live (world_after w s)) (ids_in_pairs (world_after w s).state)) runs.runs;
  }

  pub answered_runs_on : Running (after_client w x s) → units_left (after_client w x s) ≤ units_left x
      → RunsOn w x s (world_from (moved_world w c ms) r)
  answered_runs_on runs no_more = record {
    legal = record {
      moves_are_legal = is.legal;
      moves_are_due = is.due;
      answer_is_due = is.answers ∙ ap answer_from (sym is.comes);
      marked_may_survive = is.possible;
      held_are_live = referred runs;
      held_are_kept = (left_rightly (after_client w x s) runs).held_kept;
      units_are_left = (left_rightly (after_client w x s) runs).units_are_left;
    };
    running = runs;
    no_more = no_more;
    world = after;
  }

module _ (w : World) (x : Collecting) (run : Running x) (line : ℕ) (c : Call) (ms : List Move) (answer : Answer) (r : Checked Act)
    (own : IsOwnStep w x c ms answer r) where
  is_answered : IsAnswered w c ms answer r
  is_answered = record {
    legal = own.legal;
    due = own.due;
    possible = own.possible;
    comes = own.comes;
    answers = own.answers;
    blocks_after = own.blocks_after;
  }

  placed_remembered : IsWellPlaced (with_client_remembered (world_from (moved_world w c ms) r))
  placed_remembered = record { different = own.placed.different; apart = own.placed.apart }

  step : IsClientStep w x (step_of line c ms answer)
  step = record {
    collected = own.collected;
    moves_are_due = own.due;
    marked_kept = own.marked;
    read_kept = own.read;
    well_formed = own.formed;
    blocks_live = own.blocks;
    well_placed = subst IsWellPlaced (sym (after w x line c ms answer r is_answered)) placed_remembered;
  }

  pub own_step_runs_on : RunsOn w x (step_of line c ms answer) (world_from (moved_world w c ms) r)
  own_step_runs_on =
      answered_runs_on w x line c ms answer r is_answered (clients_keep w x (step_of line c ms answer) run step)
      (no_call_leaves_more w x (step_of line c ms answer) run step)

-- such a call leaves all objects and all registrations
still_step_leaves_as_many : (w : World) (x : Collecting) (line : ℕ) (c : Call) (ms : List Move) (answer : Answer) (left : World)
    → world_after w (step_of line c ms answer) ≡ with_client_remembered left → left ≡ x.world → (why : Refusal)
    → position_taken x.world c ≡ Err why → units_left (after_client w x (step_of line c ms answer)) ≤ units_left x
still_step_leaves_as_many w x line c ms answer left is still why none =
    let held = ids_of_client (world_after w (step_of line c ms answer)).graph in
    subst (λ v. units_left (record x {
      world = v;
      running = remembering held (collection_without (position_taken x.world c) x.running);
      next = next_without (position_taken x.world c) x.next;
    }) ≤ units_left x) (sym (is ∙ ap with_client_remembered still))
    (subst (λ p. units_left (record x {
      world = with_client_remembered x.world;
      running = remembering held (collection_without p x.running);
      next = next_without p x.next;
    }) ≤ units_left x) (sym none) (omega arith))

-- a call that leaves the world as the collector's part of the step left it: a refused one, or one that only answers. What the client
-- holds is remembered, and nothing else changes
pub still_step_runs_on : (w : World) (x : Collecting) (line : ℕ) (c : Call) (ms : List Move) (answer : Answer) (r : Checked Act)
    → Running x → IsAnswered w c ms answer r → world_from (moved_world w c ms) r ≡ x.world → (why : Refusal)
    → position_taken x.world c ≡ Err why → RunsOn w x (step_of line c ms answer) (world_from (moved_world w c ms) r)
still_step_runs_on w x line c ms answer r run is still why none =
    answered_runs_on w x line c ms answer r is
    (subst (λ v. Running (record x {
      world = v;
      running = remembering (ids_of_client v.graph) (collection_without (position_taken x.world c) x.running);
      next = next_without (position_taken x.world c) x.next;
    }))
    (sym (after w x line c ms answer r is ∙ ap with_client_remembered still))
    (subst (λ p. Running (record x {
      world = with_client_remembered x.world;
      running = remembering (ids_of_client x.world.graph) (collection_without p x.running);
      next = next_without p x.next;
    })) (sym none) (remembered_keeps x run)))
    (still_step_leaves_as_many w x line c ms answer (world_from (moved_world w c ms) r) (after w x line c ms answer r is) still why none)
