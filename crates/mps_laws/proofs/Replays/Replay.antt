-- The law of replay: whole steps, and histories.
use Rattle.std.proofs.Common.{◌≡◌, ◌∙◌, ℕ, ◌+◌, refl, sym, ap, List, [], ◌∷◌, Some, None, arith, max}
use Rattle.std.proofs.lemmas.Bool.{false≢true}
use Rattle.std.proofs.lemmas.Option.{none-some}
use Rattle.std.proofs.lemmas.List.{length-map}
use Rattle.std.specs.Prelude.{option_and_then}
use Rattle.mps_model.specs.Layout.{Layout}
use Rattle.mps_base.specs.declared.moves.Move.{Move}
use Rattle.mps_model.specs.declared.call.Call.{Call}
use Rattle.mps_model.specs.declared.call.Call.TheVariants as call
use Rattle.mps_model.specs.Answer.{Answer}
use Rattle.mps_model.specs.World.{World, empty_world_of}
use Rattle.mps_model.specs.Effect.{world_after_moves}
use Rattle.mps_model.specs.LegalMove.{AreLegalMoves}
use Rattle.mps_model.specs.Log.{records_of_step, log_from, pools_made_by}
use Rattle.mps_model.specs.Replay.{replay_from}
use Rattle.mps_model.specs.Step.{Step, History}
use Rattle.mps_model.specs.History.{IsLegalStep, IsLegalFrom, world_after, world_after_steps, live_blocks}
use Rattle.mps_model.proofs.Appending.{replay_from-append}
use Rattle.mps_laws.specs.Replay.{StepReplaysToLiveBlocks, LogReplaysToLiveBlocks}
use Rattle.mps_laws.proofs.Positions.Occupancy.{Occupant, OfBlock, OfReservation, OfBuffer, OfTail, occupancy_of, shape_of, run_of}
use Rattle.mps_laws.proofs.Replays.Blocks.{live_blocks-stored}
use Rattle.mps_laws.proofs.Positions.LegalMoves.{HasLayout, IsReplayed, blocks_of}
use Rattle.mps_laws.proofs.Replays.ReplayOfMoves.{moves_replayed}
use Rattle.mps_laws.proofs.Positions.Making.{arena_laid_out}
use Rattle.mps_laws.proofs.Replays.Steps.{acted_step, plain_step, commit_step}
use Rattle.mps_laws.proofs.Replays.ManualSteps.{alloc_step, take_step}
use Rattle.mps_laws.proofs.Replays.FreeSteps.{BlocksAreLive, cache_flush_step, pop_step, cache_free_step, free_step}
use Rattle.mps_laws.proofs.Replays.ReserveReplayed.{reserve_step}

-- segments lie below a limit; an arena that is made may raise it
abbrev pub limit_after : ℕ → Call → ℕ
limit_after limit (call.Arena grains most) = max limit (grains + 1)
limit_after limit _ = limit

module _ (limit pools line : ℕ) (w : World) (laid : HasLayout limit w) (live : BlocksAreLive w) where
  abbrev the_step : Call → List Move → Answer → Step
  the_step c ms answer = record { line = line; call = c; moves = ms; answer = answer }

  abbrev StepIsReplayed : Call → List Move → Answer → Type 0
  StepIsReplayed c ms answer =
      IsReplayed (limit_after limit c) w (world_after w (the_step c ms answer))
      (replay_from (blocks_of (occupancy_of w)) (records_of_step pools (the_step c ms answer)))

  arena_step : (grains most : ℕ) (ms : List Move) (answer : Answer) → AreLegalMoves w None ms
      → StepIsReplayed (call.Arena grains most) ms answer
  arena_step grains most ms answer legal =
      let r = moves_replayed limit w None ms line laid legal in
      acted_step (max limit (grains + 1)) pools line w (call.Arena grains most) ms answer
      (record {
        layout = arena_laid_out limit (max limit (grains + 1)) grains (occupancy_of (world_after_moves w ms)) (omega arith)
            (omega arith) r.layout;
        blocks = r.blocks;
      })

  pub legal_step_replayed : (c : Call) (ms : List Move) (answer : Answer) → IsLegalStep w (the_step c ms answer)
      → StepIsReplayed c ms answer
  legal_step_replayed (call.Arena grains most) ms answer legal = arena_step grains most ms answer legal.moves_are_legal
  legal_step_replayed (call.Reserve point head) ms answer legal =
      reserve_step limit pools line w laid point head ms answer legal.moves_are_legal legal.moves_are_due.segment
  legal_step_replayed (call.Commit point target) ms answer legal =
      commit_step limit pools line w point laid target ms answer legal.moves_are_due legal.answer_is_due
  legal_step_replayed (call.Alloc pool words place) ms answer legal =
      alloc_step limit pools line w laid pool words place ms answer legal.moves_are_due legal.answer_is_due
  legal_step_replayed (call.Free place) ms answer legal =
      free_step limit pools line w laid place ms answer live legal.moves_are_due
  legal_step_replayed (call.CacheAlloc cache words place) ms answer legal =
      take_step limit pools line w laid cache words place ms answer legal.moves_are_due legal.answer_is_due
  legal_step_replayed (call.CacheFree cache place) ms answer legal =
      cache_free_step limit pools line w laid cache place ms answer legal.moves_are_due
  legal_step_replayed (call.CacheFlush cache) ms answer legal =
      cache_flush_step limit pools line w laid cache ms answer legal.moves_are_due
  legal_step_replayed (call.Pop pool frame) ms answer legal =
      pop_step limit pools line w laid pool frame ms answer legal.moves_are_due
  legal_step_replayed c ms answer legal =
      plain_step limit pools line w c ms answer refl (moves_replayed limit w None ms line laid legal.moves_are_legal)

-- ---- histories

pub record IsReached (w w' : World) : Type 0 where
  pub limit : ℕ
  pub layout : HasLayout limit w'
  pub live : BlocksAreLive w'

pub steps_replayed : (limit pools : ℕ) (w : World) (h : History) → HasLayout limit w → BlocksAreLive w → IsLegalFrom w h
    → IsReached w (world_after_steps w h)
    × (replay_from (blocks_of (occupancy_of w)) (log_from pools h) ≡ Some (blocks_of (occupancy_of (world_after_steps w h))))
steps_replayed limit pools w [] laid live legal = (record { limit = limit; layout = laid; live = live }, refl)
steps_replayed limit pools w (s ∷ ss) laid live legal =
    let one = legal_step_replayed limit pools s.line w laid live s.call s.moves s.answer legal.0 in
    let rest = steps_replayed (limit_after limit s.call) (pools + pools_made_by s.call s.answer) (world_after w s) ss one.layout
    legal.0.held_are_live.blocks legal.1 in (
      record { limit = rest.0.limit; layout = rest.0.layout; live = rest.0.live },
      replay_from-append (blocks_of (occupancy_of w)) (records_of_step pools s) (log_from (pools + pools_made_by s.call s.answer) ss)
          ∙ ap (λ o. option_and_then (λ after. replay_from after (log_from (pools + pools_made_by s.call s.answer) ss)) o) one.blocks
          ∙ rest.1,
    )

-- before the arena is made
none_has_words : (formats : ℕ → Layout) (o : Occupant) → (run_of (occupancy_of (empty_world_of formats)) o).count ≡ 0
none_has_words formats (OfBlock id) = refl
none_has_words formats (OfReservation point) = refl
none_has_words formats (OfBuffer point) = refl
none_has_words formats (OfTail pool generation) = refl

pub empty_layout : (formats : ℕ → Layout) → HasLayout 1 (empty_world_of formats)
empty_layout formats = record {
  in_range = omega arith;
  lengths = refl;
  memories = refl;
  shapes = λ id s e. absurd (none-some s e);
  points = λ n p e. absurd (none-some p e);
  ascending = omega arith;
  aligned = tt;
  ranked = tt;
  condemned = λ base h. absurd (false≢true h);
  distinct = tt;
  keyed = tt;
  placed = record {
    apart = λ a b n c d. absurd (omega (arith, none_has_words formats a, c.0, c.1));
    homes = λ o some. absurd (omega (arith, none_has_words formats o, some));
  };
}

pub reached_from_empty : (formats : ℕ → Layout) (h : History) → IsLegalFrom (empty_world_of formats) h
    → IsReached (empty_world_of formats) (world_after_steps (empty_world_of formats) h)
reached_from_empty formats h legal = (steps_replayed 1 0 (empty_world_of formats) h (empty_layout formats) refl legal).0

-- the live blocks are those of what lies where
pub blocks_live : (limit : ℕ) (w : World) → HasLayout limit w → live_blocks w ≡ blocks_of (occupancy_of w)
blocks_live limit w laid = live_blocks-stored w (omega (arith, laid.lengths, length-map w.graph.objects shape_of))

pub log_replays : LogReplaysToLiveBlocks
log_replays formats h legal =
    let r = steps_replayed 1 0 (empty_world_of formats) h (empty_layout formats) refl legal in
    r.1 ∙ ap Some (sym (blocks_live r.0.limit (world_after_steps (empty_world_of formats) h) r.0.layout))

pub step_replays : StepReplaysToLiveBlocks
step_replays formats h pools s legal step =
    let w = world_after_steps (empty_world_of formats) h in
    let r = reached_from_empty formats h legal in
    let one = legal_step_replayed r.limit pools s.line w r.layout r.live s.call s.moves s.answer step in
    ap (λ blocks. replay_from blocks (records_of_step pools s)) (blocks_live r.limit w r.layout) ∙ one.blocks
    ∙ ap Some (sym (blocks_live (limit_after r.limit s.call) (world_after w s) one.layout))
