-- What the laws of a collector use of a world that a history reaches. It holds of that world without its pairs of dependents too, though
-- no history may reach that.
use Rattle.std.proofs.Common.{◌≡◌, ◌∙◌, ◌+◌, true, refl, sym, ap, subst, List, [], None}
use Rattle.std.proofs.lemmas.Bool.{false≢true}
use Rattle.std.specs.Prelude.{slice_get}
use Rattle.std.specs.List.{list_all}
use Rattle.mps_base.specs.declared.moves.Move.{Move}
use Rattle.mps_laws.proofs.Caches.{caches_moved}
use Rattle.mps_laws.proofs.Dependents.{moves_paired}
use Rattle.mps_laws.proofs.Epochs.{dated_in_steps}
use Rattle.mps_laws.proofs.Frames.{frames_moved}
use Rattle.mps_laws.proofs.Labels.{AreNamed}
use Rattle.mps_laws.proofs.Positions.LegalMoves.{HasLayout}
use Rattle.mps_laws.proofs.RunningCollection.{running_in_steps}
use Rattle.mps_laws.proofs.SameArena.{moved_alone}
use Rattle.mps_laws.proofs.SegmentPools.{of_pools_in_steps}
use Rattle.mps_laws.proofs.Sound.PoolsThere.{HasPools}
use Rattle.mps_laws.proofs.Sound.SoundGraph.{untouched}
use Rattle.mps_laws.proofs.Sound.SoundMoves.{moves_well}
use Rattle.mps_laws.proofs.Spending.{moves_spend}
use Rattle.mps_laws.proofs.ThingsNamed.{names_in_steps}
use Rattle.mps_laws.proofs.WellFormed.{well_formed}
use Rattle.mps_laws.proofs.WellFormedHistories.{IsKeptWell, reached_kept}
use Rattle.mps_laws.proofs.WithinLimit.{within_in_steps}
use Rattle.mps_model.specs.declared.call.Call.TheVariants as call
use Rattle.mps_model.specs.Collecting.{with_state}
use Rattle.mps_model.specs.Effect.{world_after_moves}
use Rattle.mps_model.specs.Graph.{ids_of_client, thing_in}
use Rattle.mps_model.specs.LegalMove.{AreLegalMoves}
use Rattle.mps_model.specs.WellFormed.{IsWellFormed}
use Rattle.mps_model.specs.World.{World, Unclamped, is_live}
use Rattle.mps_refinement.specs.Following.{unpaired}
use Rattle.mps_refinement.specs.StandsFor.{IsReached}
use Rattle.mps_refinement.proofs.Following.Times.{unpaired_formed}
use Rattle.mps_refinement.proofs.Worlds.PlacedOnce.{ArePlacedOnce, placed_once}
use Rattle.mps_refinement.proofs.Worlds.PlacesByMoves.{places_of}
use Rattle.mps_refinement.proofs.Worlds.Reached.{reached_has_pools, reached_well_formed}

pub record IsLikeReached (w : World) : Type 0 where
  pub kept : IsKeptWell w
  pub formed : IsWellFormed w
  pub pools : HasPools w
  pub once : ArePlacedOnce (places_of w)

pub like_reached : (w : World) → IsReached w → IsLikeReached w
like_reached w r = record {
  kept = subst IsKeptWell (sym r.is) (reached_kept w.formats r.history r.once r.legal);
  formed = reached_well_formed w r;
  pools = reached_has_pools w r;
  once = placed_once w r;
}

unpaired_like_reached : (w : World) → IsLikeReached w → IsLikeReached (unpaired w)
unpaired_like_reached w like = record {
  kept = record {
    layout = like.kept.layout;
    within = like.kept.within;
    pools = record { of_objects = like.kept.pools.of_objects; of_points = like.kept.pools.of_points };
    of_pools = like.kept.of_pools;
    blocks = like.kept.blocks;
    slots = like.kept.slots;
    held = record {
      client = like.kept.held.client;
      blocks = like.kept.held.blocks;
      referred = like.kept.held.referred;
      transforms = like.kept.held.transforms;
    };
    sound = record {
      objects = like.kept.sound.objects;
      reservations = like.kept.sound.reservations;
      points = like.kept.sound.points;
      slots = like.kept.sound.slots;
      words = like.kept.sound.words;
      blocks = like.kept.sound.blocks;
      registered = like.kept.sound.registered;
      messages = like.kept.sound.messages;
    };
    names = like.kept.names;
    named = like.kept.named;
    paired = refl;
    cached = like.kept.cached;
    framed = like.kept.framed;
    dated = like.kept.dated;
    rests = like.kept.rests;
    runs = like.kept.runs;
    spends = like.kept.spends;
    pairs = like.kept.pairs;
  };
  formed = unpaired_formed w like.formed;
  pools = record { of_objects = like.pools.of_objects; of_points = like.pools.of_points };
  once = like.once;
}

-- a world that is like a reached one, in which no object has a dependent
pub record IsBare (w : World) : Type 0 where
  pub like : IsLikeReached w
  pub none : w.graph.dependents ≡ []

pub bare_of : (w : World) → IsLikeReached w → IsBare (unpaired w)
bare_of w like = record { like = unpaired_like_reached w like; none = refl }

-- after legal moves the world is well-formed in an unclamped arena, if what the client holds is live
pub formed_in_steps : (w : World) (ms : List Move) → IsLikeReached w → AreLegalMoves w None ms
    → HasLayout ((world_after_moves w ms).grains + 1) (world_after_moves w ms)
    → list_all (is_live (world_after_moves w ms)) (ids_of_client (world_after_moves w ms).graph) ≡ true
    → IsWellFormed (with_state (world_after_moves w ms) Unclamped)
formed_in_steps w ms like legal laid live =
    let k = like.kept in
    let alone = moved_alone w call.Park ms in
    let named : AreNamed (world_after_moves w ms).graph = (λ number label e.
    ap (λ ns. thing_in ns label) alone.names ∙ k.named number label (sym (ap (λ ls. slice_get ls number) alone.labels) ∙ e)) in
    let v = world_after_moves w ms in
    well_formed (with_state v Unclamped) laid (within_in_steps (w.grains + 1) w ms k.layout k.pools legal k.within)
    (of_pools_in_steps (w.grains + 1) w ms k.layout k.pools legal k.of_pools)
    (untouched v (with_state v Unclamped) (moves_well w None ms k.sound legal).sound refl (λ n p e. e) refl refl refl refl refl refl refl
    refl) (names_in_steps w ms k.names) named (moves_paired w ms k.paired) (caches_moved w v alone.shapes alone.pools alone.caches k.cached)
    (frames_moved w v alone.shapes alone.pools alone.blocks alone.frames k.framed) (dated_in_steps w ms k.dated) live
    (λ h. absurd (false≢true h)) (running_in_steps w None ms legal k.runs) (moves_spend w ms k.spends) refl
