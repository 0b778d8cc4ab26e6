-- Each world that a legal history reaches is laid out, and its graph is sound: also if the arena was made again.
use Rattle.std.proofs.Common.{ℕ, refl, [], ◌∷◌}
use Rattle.std.proofs.lemmas.Option.{none-some}
use Rattle.mps_model.specs.Layout.{Layout}
use Rattle.mps_model.specs.Step.{Step, History}
use Rattle.mps_model.specs.World.{World, empty_world_of, ids_in_pairs}
use Rattle.mps_model.specs.History.{IsLegalHistoryOf, IsLegalStep, IsLegalFrom, world_after, world_after_steps}
use Rattle.mps_laws.specs.Replay.{reached}
use Rattle.mps_laws.proofs.Caches.{AreRightCaches, caches_after}
use Rattle.mps_laws.proofs.Frames.{AreRightFrames, frames_after, frames_manual}
use Rattle.mps_laws.proofs.Parked.{pairs_after}
use Rattle.mps_laws.proofs.Positions.LegalMoves.{HasLayout}
use Rattle.mps_laws.proofs.Replays.FreeSteps.{BlocksAreLive}
use Rattle.mps_laws.proofs.Replays.Replay.{limit_after, legal_step_replayed, empty_layout}
use Rattle.mps_laws.proofs.Sound.SoundGraph.{All, IsSoundGraph, auto}
use Rattle.mps_laws.proofs.Sound.SoundHistories.{SlotsAreLive, step_sound}
use Rattle.mps_laws.proofs.WellFormedHistories.{none_framed, places_made}

pub record IsSoundlyReached (w : World) : Type 0 where
  pub limit : ℕ
  pub layout : HasLayout limit w
  pub blocks : BlocksAreLive w
  pub slots : SlotsAreLive w
  pub sound : IsSoundGraph w
  pub cached : AreRightCaches w
  pub framed : AreRightFrames w
  pub pairs : All (auto w) (ids_in_pairs w.state)

pub step_soundly : (w : World) (s : Step) → IsSoundlyReached w → IsLegalStep w s → IsSoundlyReached (world_after w s)
step_soundly w s k legal =
    let r = legal_step_replayed k.limit 0 s.line w k.layout k.blocks s.call s.moves s.answer legal in
    let sound = step_sound k.limit s.line w k.layout k.blocks k.slots k.sound k.pairs (frames_manual w k.sound k.framed)
    s.call s.moves s.answer legal in
    record {
      limit = limit_after k.limit s.call;
      layout = r.layout;
      blocks = legal.held_are_live.blocks;
      slots = sound.1;
      sound = sound.0;
      cached = caches_after w s (places_made w k.sound) k.cached;
      framed = frames_after w s k.framed k.cached;
      pairs = pairs_after w s k.sound sound.0 k.pairs;
    }

steps_soundly : (w : World) (h : History) → IsSoundlyReached w → IsLegalFrom w h → IsSoundlyReached (world_after_steps w h)
steps_soundly w [] k legal = k
steps_soundly w (s ∷ ss) k legal = steps_soundly (world_after w s) ss (step_soundly w s k legal.0) legal.1

empty_sound : (formats : ℕ → Layout) → IsSoundGraph (empty_world_of formats)
empty_sound formats = record {
  objects = λ id o e. absurd (none-some o e);
  reservations = λ n p r e k. absurd (none-some p e);
  points = λ n p e. absurd (none-some p e);
  slots = refl;
  words = λ n area e. absurd (none-some area e);
  blocks = refl;
  registered = refl;
  messages = refl;
}

pub empty_soundly : (formats : ℕ → Layout) → IsSoundlyReached (empty_world_of formats)
empty_soundly formats = record {
  limit = 1;
  layout = empty_layout formats;
  blocks = refl;
  slots = refl;
  sound = empty_sound formats;
  cached = refl;
  framed = none_framed;
  pairs = refl;
}

pub soundly_reached : (formats : ℕ → Layout) (steps : History) → IsLegalHistoryOf formats steps → IsSoundlyReached (reached formats steps)
soundly_reached formats steps legal =
    steps_soundly (empty_world_of formats) steps (empty_soundly formats) legal
