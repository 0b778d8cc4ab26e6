-- The act of a flip, and a full collection, where no object has a dependent are those where some have. What a collection posts and
-- leaves is said of the world at its flip, in which no cell is cleared yet.
use Rattle.std.proofs.Common.{◌≡◌, ◌∙◌, ℕ, true, false, refl, ap, List, [], ◌∷◌, ◌++◌, Option, Some, None, inl, inr}
use Rattle.std.specs.Prelude.{◌&&◌, if◌then◌else◌, not, option_map}
use Rattle.std.specs.List.{AllByRecursion}
use Rattle.std.specs.Option.{option_map_or}
use Rattle.mps_base.specs.Address.{Address, Id, address_of_grain, address_of_word}
use Rattle.mps_base.specs.Placement.{Placement, Place, NewSegment, OverLimit, NoFreeRun}
use Rattle.mps_base.specs.declared.moves.Move.{Move}
use Rattle.mps_base.specs.declared.moves.Move.TheVariants as moves
use Rattle.mps_model.specs.Collection.{Collection, is_surely_kept}
use Rattle.mps_model.specs.Graph.{ids_in_slots}
use Rattle.mps_model.specs.World.{World, is_copying_object, live_automatic_ids}
use Rattle.mps_model.specs.Placement.{ForMove, placement_of}
use Rattle.mps_model.specs.Accessing.{address_or_null}
use Rattle.mps_model.specs.Effect.{Condemnation, condemned_by, world_after_move, world_after_moves}
use Rattle.mps_model.specs.Flip.{at_address, end_where, fix, fix_all, flip_act, flip_of, is_nothing, moves_to, must_be_fixed, segment_for_move, world_at_flip}
use Rattle.mps_model.specs.Posts.{ArePostsExact, BeginsWithPost, IsDecided, IsWhole}
use Rattle.mps_laws.specs.Staying.{is_flip}
use Rattle.mps_refinement.specs.Following.{Following, followed, following_move, paired_at_flip}
use Rattle.mps_refinement.proofs.Following.Moves.{move_follows}
use Rattle.mps_refinement.proofs.Following.Kept.{move_left}

-- where no cell was cleared
abbrev pub uncleared : Following → Following
uncleared f = record { pairs = f.pairs; cells = []; at_flip = f.at_flip }

module _ (f : Following) where
  abbrev pub g : Following
  g = uncleared f

  -- ---- what is fixed

  must_same : (w : World) (id : Id) → must_be_fixed (followed w g) id ≡ must_be_fixed w id
  must_same w id = ap (λ b. b && is_copying_object w id) (of_collection w.collection)
    where
      of_collection : (o : Option Collection)
          → option_map_or (λ c. not (is_surely_kept c id)) (option_map (paired_at_flip f.at_flip) o) false
          ≡ option_map_or (λ c. not (is_surely_kept c id)) o false
      of_collection None = refl
      of_collection (Some c) = refl

  moves_to_same : (w : World) (id : Id) (from : Address) (p : Placement) → moves_to (followed w g) id from p ≡ moves_to w id from p
  moves_to_same w id from (Place word) = refl
  moves_to_same w id from (NewSegment grain grains) = refl
  moves_to_same w id from (OverLimit committed need limit) = refl
  moves_to_same w id from (NoFreeRun need longest) = refl

  fix_same : (w : World) (id : Id) → fix (followed w g) id ≡ fix w id
  fix_same w id =
      ap (λ b. if b then moves_to (followed w g) id (address_or_null w id) (placement_of w (ForMove id)) else []) (must_same w id)
      ∙ ap (λ ms. if must_be_fixed w id then ms else [])
      (moves_to_same w id (address_or_null w id) (placement_of w (ForMove id)))

  -- moves by which an object is kept lead to a world without pairs, and nothing is done besides
  record AreKeeping (w : World) (ms : List Move) : Type 0 where
    leads : world_after_moves (followed w g) ms ≡ followed (world_after_moves w ms) g
    unpaired : (world_after_moves w ms).graph.dependents ≡ []

  -- one move that makes no move more
  one_keeps : (w : World) → w.graph.dependents ≡ [] → (m : Move) → is_flip m ≡ false
      → world_after_move (followed w g) m ≡ followed (world_after_move w m) g → AreKeeping w (m ∷ [])
  one_keeps w none m calm leads = record { leads = leads; unpaired = (move_left w none m calm).unpaired }

  two_keep : (w : World) → w.graph.dependents ≡ [] → (m n : Move) → is_flip m ≡ false → is_flip n ≡ false
      → world_after_move (followed w g) m ≡ followed (world_after_move w m) g
      → world_after_move (followed (world_after_move w m) g) n ≡ followed (world_after_move (world_after_move w m) n) g
      → AreKeeping w (m ∷ n ∷ [])
  two_keep w none m n calm quiet first second = record {
    leads = ap (λ v. world_after_move v n) first ∙ second;
    unpaired = (move_left (world_after_move w m) (move_left w none m calm).unpaired n quiet).unpaired;
  }

  moves_to_keep : (w : World) → w.graph.dependents ≡ [] → (id : Id) (from : Address) (p : Placement) → AreKeeping w (moves_to w id from p)
  moves_to_keep w none id from (Place word) =
      let m : Move = moves.Moved (at_address from) (at_address (address_of_word word)) in
      one_keeps w none m refl (move_follows w g m none (λ e. refl))
  moves_to_keep w none id from (NewSegment grain grains) =
      let s : Move = segment_for_move w id (address_of_grain grain) grains in
      let m : Move = moves.Moved (at_address from) (at_address (address_of_grain grain)) in
      two_keep w none s m refl refl (move_follows w g s none (λ e. refl))
      (move_follows (world_after_move w s) g m (move_left w none s refl).unpaired (λ e. refl))
  moves_to_keep w none id from (OverLimit committed need limit) =
      let m : Move = moves.Stay (at_address from) in one_keeps w none m refl (move_follows w g m none (λ e. refl))
  moves_to_keep w none id from (NoFreeRun need longest) =
      let m : Move = moves.Stay (at_address from) in one_keeps w none m refl (move_follows w g m none (λ e. refl))

  fix_keeps : (w : World) → w.graph.dependents ≡ [] → (id : Id) → AreKeeping w (fix w id)
  fix_keeps w none id =
      elim (must_be_fixed w id) as (λ b. AreKeeping w
      (if b then moves_to w id (address_or_null w id) (placement_of w (ForMove id)) else [])) [
        | true ↦ moves_to_keep w none id (address_or_null w id) (placement_of w (ForMove id))
        | false ↦ record { leads = refl; unpaired = none }
      ]

  fix_all_same : (w : World) → w.graph.dependents ≡ [] → (ids : List ℕ) → fix_all (followed w g) ids ≡ fix_all w ids
  fix_all_same w none [] = refl
  fix_all_same w none (id ∷ ids) =
      let keeps = fix_keeps w none id in
      ap (λ ms. ms ++ fix_all (world_after_moves (followed w g) ms) ids) (fix_same w id)
      ∙ ap (λ v. fix w id ++ fix_all v ids) keeps.leads
      ∙ ap (λ ms. fix w id ++ ms) (fix_all_same (world_after_moves w (fix w id)) keeps.unpaired ids)

-- ---- the act, which is the same if no cell was cleared

module _ (w : World) (none : w.graph.dependents ≡ []) (f : Following) (what : Condemnation) where
  pub act_same : flip_act (followed w (uncleared f)) what ≡ flip_act w what
  act_same =
      ap (λ v. flip_of w what ∷ fix_all v (ids_in_slots w.graph ++ w.graph.messages) ++ end_where (is_nothing (condemned_by w what)))
      (move_follows w (uncleared f) (flip_of w what) none (λ e. refl))
      ∙ ap (λ ms. flip_of w what ∷ ms ++ end_where (is_nothing (condemned_by w what)))
      (fix_all_same (following_move w (uncleared f) (flip_of w what)) (world_at_flip w what) none
      (ids_in_slots w.graph ++ w.graph.messages))

-- ---- what is exact

module _ (w : World) (f : Following) where
  begins_still : (id : Id) (posts : List ℕ) (Rest More : List ℕ → Type 0) → ((ps : List ℕ) → Rest ps → More ps)
      → BeginsWithPost id posts Rest → BeginsWithPost id posts More
  begins_still id [] Rest More each h = h
  begins_still id (p ∷ ps) Rest More each h = (h.0, each ps h.1)

  exact_still : (posted registered posts : List ℕ) → ArePostsExact w posted registered posts
      → ArePostsExact (followed w (uncleared f)) posted registered posts
  exact_still posted [] posts h = h
  exact_still posted (id ∷ ids) posts (inl h) =
      inl (
        h.0,
        begins_still id posts (λ rest. ArePostsExact w (id ∷ posted) ids rest)
            (λ rest. ArePostsExact (followed w (uncleared f)) (id ∷ posted) ids rest) (exact_still (id ∷ posted) ids) h.1,
      )
  exact_still posted (id ∷ ids) posts (inr h) = inr (h.0, exact_still posted ids posts h.1)

  decided_still : (after : World) (more : Following) (posts ids : List ℕ) → AllByRecursion (IsDecided w after posts) ids
      → AllByRecursion (IsDecided (followed w (uncleared f)) (followed after more) posts) ids
  decided_still after more posts [] h = h
  decided_still after more posts (id ∷ ids) h = (h.0, decided_still after more posts ids h.1)

  pub whole_still : (before after : World) (first more : Following) → IsWhole before w after
      → IsWhole (followed before first) (followed w (uncleared f)) (followed after more)
  whole_still before after first more h = record {
    posts = h.posts;
    posted = h.posted;
    exact = exact_still [] w.graph.registered h.posts h.exact;
    survivors = decided_still after more h.posts (live_automatic_ids w) h.survivors;
  }
