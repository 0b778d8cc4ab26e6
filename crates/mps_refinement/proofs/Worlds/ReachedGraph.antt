-- The graph of a world that a legal history reaches is sound: cells have the kinds that heads say, points are of automatic pools.
use Rattle.std.proofs.Common.{ℕ, refl, sym, subst, [], ◌∷◌}
use Rattle.std.proofs.lemmas.Option.{none-some}
use Rattle.mps_format.specs.Layout.{Layout}
use Rattle.mps_model.specs.Step.{History}
use Rattle.mps_model.specs.World.{World, empty_world_of, ids_in_pairs}
use Rattle.mps_model.specs.History.{IsLegalFrom, world_after, world_after_steps}
use Rattle.mps_laws.proofs.Replays.FreeSteps.{BlocksAreLive}
use Rattle.mps_laws.proofs.Positions.LegalMoves.{HasLayout}
use Rattle.mps_laws.proofs.Replays.Replay.{empty_layout, legal_step_replayed, limit_after}
use Rattle.mps_laws.proofs.Sound.SoundGraph.{IsSoundGraph, All, auto}
use Rattle.mps_laws.proofs.Sound.SoundHistories.{SlotsAreLive, step_sound}
use Rattle.mps_refinement.specs.StandsFor.{IsReached}
use Rattle.mps_laws.proofs.WellFormedHistories.{none_framed, places_made}
use Rattle.mps_laws.proofs.Caches.{AreRightCaches, caches_after}
use Rattle.mps_laws.proofs.Parked.{pairs_after}
use Rattle.mps_laws.proofs.Frames.{AreRightFrames, frames_after, frames_manual}

steps_sound : (limit : ℕ) (w : World) (h : History) → HasLayout limit w → BlocksAreLive w → SlotsAreLive w → IsSoundGraph w
    → All (auto w) (ids_in_pairs w.state) → AreRightCaches w → AreRightFrames w → IsLegalFrom w h
    → IsSoundGraph (world_after_steps w h)
steps_sound limit w [] laid live slots sound pairs cached framed legal = sound
steps_sound limit w (s ∷ ss) laid live slots sound pairs cached framed legal =
    let one = legal_step_replayed limit 0 s.line w laid live s.call s.moves s.answer legal.0 in
    let after = step_sound limit s.line w laid live slots sound pairs (frames_manual w sound framed) s.call s.moves s.answer
    legal.0 in
    steps_sound (limit_after limit s.call) (world_after w s) ss one.layout legal.0.held_are_live.blocks after.1 after.0
    (pairs_after w s sound after.0 pairs) (caches_after w s (places_made w sound) cached)
    (frames_after w s framed cached) legal.1

empty_sound : (formats : ℕ → Layout) → IsSoundGraph (empty_world_of formats)
empty_sound formats = record {
  objects = λ id o e. absurd (none-some o e);
  reservations = λ n p r e k. absurd (none-some p e);
  points = λ n p e. absurd (none-some p e);
  slots = refl;
  words = λ n area e. absurd (none-some area e);
  blocks = refl;
  registered = refl;
  messages = refl;
}

pub reached_graph : (w : World) → IsReached w → IsSoundGraph w
reached_graph w r =
    subst IsSoundGraph (sym r.is)
    (steps_sound 1 (empty_world_of w.formats) r.history (empty_layout w.formats) refl refl (empty_sound w.formats) refl refl
    none_framed r.legal)
