-- What moves of a collector lead to. If they are of one collection, what they lead to without pairs of dependents is where they lead with
-- them too, once the heap follows them.
use Rattle.std.proofs.Common.{◌≡◌, ◌∙◌, ℕ, ◌+◌, Bool, true, false, refl, sym, ap, subst, List, [], ◌∷◌, Option, Some, None}
use Rattle.std.specs.Prelude.{if◌then◌else◌}
use Rattle.std.specs.Option.{option_map_or}
use Rattle.mps_base.specs.Address.{Address, Word}
use Rattle.mps_base.specs.declared.moves.Move.{Move}
use Rattle.mps_base.specs.declared.moves.Move.TheVariants as moves
use Rattle.mps_dep.specs.Following.{nulled}
use Rattle.mps_dep.specs.State.{dependent_of}
use Rattle.mps_dep.specs.declared.dependents.Pair.{Pair}
use Rattle.mps_format.specs.Layout.{Layout}
use Rattle.mps_laws.proofs.Positions.LaidOut.{IsLaidOut}
use Rattle.mps_laws.proofs.Positions.LegalMoves.{HasLayout}
use Rattle.mps_laws.proofs.Replays.Steps.{asking_kept}
use Rattle.mps_laws.proofs.Sound.SoundGraph.{IsSoundGraph}
use Rattle.mps_laws.proofs.Sound.SoundMoves.{moves_well}
use Rattle.mps_model.specs.Collecting.{with_state}
use Rattle.mps_model.specs.Effect.{world_after_moves}
use Rattle.mps_model.specs.Graph.{Graph}
use Rattle.mps_model.specs.History.{HeldAreLive, asking}
use Rattle.mps_model.specs.LegalMove.{AreLegalMoves}
use Rattle.mps_model.specs.World as world
use Rattle.mps_model.specs.World.{World}
use Rattle.mps_heap_spec.specs.Finding as spec
use Rattle.mps_heap_spec.specs.Following.{is_passed_by, move_followed, moves_followed, splat_followed, with_dependents}
use Rattle.mps_heap_spec.specs.State.{HeapState, format_over}
use Rattle.mps_refinement.specs.Dependents.{AreDependents}
use Rattle.mps_refinement.specs.Following.{AreFollowed, Following, are_of_one, followed, following, nothing_followed, unpaired}
use Rattle.mps_refinement.specs.StandsFor.{AreParts, IsInTime, Past, Time, collector_of}
use Rattle.mps_refinement.proofs.Following.FollowedCells.{ReadsBy, reads_by}
use Rattle.mps_refinement.proofs.Following.FollowedMoves.{IsFollowedTo, cleared, moves_are_followed}
use Rattle.mps_refinement.proofs.Following.Held.{asked_follows, held_still}
use Rattle.mps_refinement.proofs.Following.Laws.{splats_follow}
use Rattle.mps_refinement.proofs.Following.Times.{followed_in_time}
use Rattle.mps_refinement.proofs.Following.WithoutPairs.{alone}
use Rattle.mps_refinement.proofs.Worlds.InSteps.{laid_by_moves}
use Rattle.mps_refinement.proofs.Worlds.LikeReached.{IsLikeReached, bare_of}
use Rattle.mps_refinement.proofs.Worlds.Steps.{HasParts}

-- moves are legal from a world, and the heap after them represents this world at a time
pub record AreMade {F : Type 0} (layout : F → Layout) (w : World) (ms : List Move) (u : World) (t : Time) (h : HeapState F) : Type 0 where
  pub legal : AreLegalMoves w None ms
  pub has : HasParts layout t h u
  pub now : IsInTime t (collector_of h) u
  pub live : HeldAreLive u

-- ---- what a heap that follows moves has of the one that made them

module _ {F : Type 0} (layout : F → Layout) where
  -- all but words and pairs
  abbrev with_both : HeapState F → List Word → List Pair → HeapState F
  with_both h words pairs = with_dependents (spec.with_words h words) pairs

  abbrev splatted : HeapState F → Address → (cell : ℕ) → Bool → Option F → HeapState F
  splatted h at cell b o = if b then h else option_map_or (λ f. spec.with_words h (nulled (layout f) h.segs at cell)) o h

  splat_leaves : (h : HeapState F) (o : Option Address) (cell : ℕ)
      → splat_followed layout h o cell
      ≡ with_both h (splat_followed layout h o cell).segs.words (splat_followed layout h o cell).beside.dependents
  splat_leaves h None cell = refl
  splat_leaves h (Some at) cell = of_test (is_passed_by h at) (format_over h at)
    where
      of_test : (b : Bool) (o : Option F)
          → splatted h at cell b o ≡ with_both h (splatted h at cell b o).segs.words (splatted h at cell b o).beside.dependents
      of_test true o = refl
      of_test false None = refl
      of_test false (Some f) = refl

  one_leaves : (h : HeapState F) (m : Move)
      → move_followed layout h m ≡ with_both h (move_followed layout h m).segs.words (move_followed layout h m).beside.dependents
  one_leaves h (moves.Splat holder cell) = splat_leaves h (dependent_of h.beside.dependents holder.0) cell
  one_leaves h (moves.Free at) = refl
  one_leaves h (moves.Seg base grains pool generation) = refl
  one_leaves h (moves.Unseg base) = refl
  one_leaves h (moves.Flip zones chain generation) = refl
  one_leaves h moves.End = refl
  one_leaves h (moves.Moved from to) = refl
  one_leaves h (moves.Stay at) = refl
  one_leaves h (moves.Post at) = refl
  one_leaves h (moves.Commit at words pool) = refl
  one_leaves h (moves.Alloc at words pool) = refl

  pub following_leaves : (h : HeapState F) (ms : List Move)
      → moves_followed layout h ms ≡ with_both h (moves_followed layout h ms).segs.words (moves_followed layout h ms).beside.dependents
  following_leaves h [] = refl
  following_leaves h (m ∷ ms) =
      let after = moves_followed layout (move_followed layout h m) ms in
      following_leaves (move_followed layout h m) ms
      ∙ ap (λ (g : HeapState F). with_both g after.segs.words after.beside.dependents) (one_leaves h m)

-- ---- a change of a world that has the same objects, pairs and places

pub record IsAside (change : World → World) : Type 0 where
  pub graph : (v : World) → (change v).graph ≡ v.graph
  pub addresses : (v : World) → (change v).addresses ≡ v.addresses
  pub follows : (v : World) (f : Following) → change (followed v f) ≡ followed (change v) f
  pub sound : (v : World) → IsSoundGraph v → IsSoundGraph (change v)
  pub laid : (v : World) → HasLayout (v.grains + 1) v → HasLayout ((change v).grains + 1) (change v)

-- none
pub still_aside : IsAside (λ v. v)
still_aside =
    record { graph = λ v. refl; addresses = λ v. refl; follows = λ v f. refl; sound = λ v sound. sound; laid = λ v laid. laid }

-- another state of the arena
pub state_aside : (state : world.ArenaState) → IsAside (λ v. with_state v state)
state_aside state = record {
  graph = λ v. refl;
  addresses = λ v. refl;
  follows = λ v f. refl;
  sound = λ v s. record {
    objects = s.objects;
    reservations = s.reservations;
    points = s.points;
    slots = s.slots;
    words = s.words;
    blocks = s.blocks;
    registered = s.registered;
    messages = s.messages;
  };
  laid = λ v laid. laid;
}

-- units that are asked of its collection
pub asked_aside : (n : ℕ) → IsAside (asking (Some n))
asked_aside n = record {
  graph = λ v. refl;
  addresses = λ v. refl;
  follows = λ v f. asked_follows v f (Some n);
  sound = λ v s. record {
    objects = s.objects;
    reservations = s.reservations;
    points = s.points;
    slots = s.slots;
    words = s.words;
    blocks = s.blocks;
    registered = s.registered;
    messages = s.messages;
  };
  laid = λ v laid. subst (IsLaidOut (v.grains + 1)) (sym (asking_kept (Some n) v)) laid;
}

-- ---- with pairs

-- the parts of a heap, if those without pairs represent a world in which cells are cleared
paired_parts : {F : Type 0} {layout : F → Layout} {past : Past} {h : HeapState F} (u : World) (f : Following)
    → AreParts layout past (alone h) (cleared u f.cells) → AreDependents u.addresses h.beside.dependents f.pairs
    → AreParts layout past h (followed u f)
paired_parts u f p pairs = record {
  grains = p.grains;
  limit = p.limit;
  segments = p.segments;
  image = p.image;
  arena = p.arena;
  summed = p.summed;
  tables = p.tables;
  ordered = p.ordered;
  areas = p.areas;
  blocks = p.blocks;
  roots_counted = p.roots_counted;
  slots_counted = p.slots_counted;
  points = p.points;
  points_counted = p.points_counted;
  registered = p.registered;
  messages = p.messages;
  flips = p.flips;
  point_flips = p.point_flips;
  dependencies = p.dependencies;
  lawful = p.lawful;
  pools = p.pools;
  sizes = p.sizes;
  chains = p.chains;
  names = record {
    named = p.names.named;
    there = p.names.there;
    unique = p.names.unique;
    once = p.names.once;
    label_count = p.names.label_count;
    cache_count = p.names.cache_count;
    label_numbers = p.names.label_numbers;
    transform_count = p.names.transform_count;
  };
  state = p.state;
  beside = record { dependents = pairs; caches = p.beside.caches };
  transforms = p.transforms;
  framed = p.framed;
}

module _ {F : Type 0} (layout : F → Layout) (change : World → World) (aside : IsAside change) (w : World) (like : IsLikeReached w)
    (ms : List Move) (t : Time) (made : HeapState F) (kept : AreDependents w.addresses made.beside.dependents w.graph.dependents)
    (one : are_of_one ms ≡ true)
    (bare : AreMade layout (unpaired w) ms (change (world_after_moves (unpaired w) ms)) t (alone made)) where
  abbrev v : World
  v = world_after_moves (unpaired w) ms

  abbrev f : Following
  f = following (unpaired w) (nothing_followed w) ms

  abbrev after : HeapState F
  after = moves_followed layout made ms

  abbrev past : Past
  past = bare.has.past

  follows : AreFollowed w None ms
  follows = splats_follow w None ms like.kept.paired one bare.legal

  is : IsFollowedTo layout past (change v) f after
  is =
      moves_are_followed layout past w (change v) made (w.grains + 1) None ms like.kept.sound like.kept.layout
      like.kept.paired kept one bare.legal (sym (ap (λ (g : Graph). g.objects) (aside.graph v)), sym (aside.addresses v))
      (aside.sound v (moves_well (unpaired w) None ms (bare_of w like).like.kept.sound bare.legal).sound)
      (aside.laid v (laid_by_moves (unpaired w) (bare_of w like).like ms bare.legal))
      (subst (λ (u : Time). ReadsBy u made.running) (sym bare.has.timed) (reads_by t (collector_of made) (change v) bare.now))
      bare.has.parts

  leads : change (world_after_moves w ms) ≡ followed (change v) f
  leads = ap change follows.leads ∙ aside.follows v f

  pub paired_made : AreMade layout w ms (change (world_after_moves w ms)) t after
  paired_made = record {
    legal = follows.legal;
    has = record {
      past = past;
      timed = bare.has.timed;
      parts = subst (AreParts layout past after) (sym leads) (paired_parts (change v) f is.parts is.pairs);
    };
    now = subst (IsInTime t (collector_of after)) (sym leads)
        (subst (λ s. IsInTime t s (followed (change v) f)) (ap collector_of (sym (following_leaves layout made ms)))
        (followed_in_time t (collector_of made) (change v) f after.segs.words bare.now));
    live = subst HeldAreLive (sym leads) (held_still (change v) f bare.live);
  }
