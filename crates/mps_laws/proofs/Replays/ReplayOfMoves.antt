-- The law of replay for the collector's moves: one after the other they keep an arena laid out, and their records make of the
-- live blocks those after them.
use Rattle.std.proofs.Common.{◌≡◌, ◌∙◌, ℕ, ◌<◌, ◌≤◌, Bool, true, false, refl, sym, ap, List, [], ◌∷◌, Option, Some, None, subst, inl, inr}
use Rattle.std.proofs.lemmas.Bool.{cases_Bool, false≢true, eqb-true}
use Rattle.std.specs.Prelude.{map, slice_set, option_and_then, not, ◌==◌, ◌≢◌}
use Rattle.std.specs.Option.{option_map_or}
use Rattle.std.specs.List.{list_any}
use Rattle.mps_base.specs.Address.{Address}
use Rattle.mps_base.specs.Segment.{Segment, without_segment}
use Rattle.mps_base.specs.declared.moves.Move.{Move}
use Rattle.mps_base.specs.declared.moves.Move.TheVariants as moves
use Rattle.mps_model.specs.Graph.{Object, contains, without_first}
use Rattle.mps_model.specs.Collection.{Collection}
use Rattle.mps_model.specs.World.{World, id_at, segment_at, pool_of, words_of, tail_of, is_copying_pool, target_generation_for, covered, begins_in}
use Rattle.mps_model.specs.Effect.{world_after_move, world_after_moves, after_moved, after_splat, after_post, after_free, after_unseg, after_flip, where_one, with_collection, placing, segment_of_move, condemnation_of, is_condemned_by, world_flipped}
use Rattle.mps_model.specs.LegalMove.{ForOne, IsLegalMove, IsLegalSegment, IsLegalMoved, IsLegalStay, IsLegalSplat, IsLegalPost, IsLegalSweep, IsLegalUnseg, IsSegmentForMove, AreLegalMoves, first_move}
use Rattle.mps_model.specs.Log.{record_of, records_of}
use Rattle.mps_model.specs.Replay.{store_after, replay_from, after_moving, after_touching, after_freeing}
use Rattle.mps_laws.proofs.Positions.Occupancy.{Occupancy, Occupant, occupancy_of, condemned_in, shape_of, run_of}
use Rattle.mps_laws.proofs.Positions.LaidOut.{IsLaidOut, is_at_hand}
use Rattle.mps_laws.proofs.Replays.Blocks.{replay-moved, replay-freed, replay-touched}
use Rattle.mps_laws.proofs.Finding.{for_both, for_one, id_at-found}
use Rattle.mps_laws.proofs.Positions.Holding.{IsFresh}
use Rattle.mps_laws.proofs.Positions.Moving.{IsMoving, moved_laid_out, moved_to_free, freed_laid_out, words_after_in}
use Rattle.mps_laws.proofs.Positions.Condemning.{ended_laid_out, condemning_laid_out, given_back_laid_out, doomed_shapes}
use Rattle.mps_laws.proofs.Positions.Covered.{covered_in, covered-shapes, empty_is_no_home}
use Rattle.mps_laws.proofs.Positions.Segments.{IsAmong, found_among}
use Rattle.mps_laws.proofs.Positions.Tails.{with_tail_of}
use Rattle.mps_laws.proofs.Positions.LegalMoves.{HasLayout, IsReplayed, IsLiveAt, blocks_of, live_at, is_placed, collection_kept, condemned_kept, splat_kept, post_kept, free_is, given_back_condemned, at_front, new_at_front, fresh_segment, segment_layout, segment_blocks}

-- a world in which the same lies where it lay
same_replayed : (limit : ℕ) (w w' : World) → HasLayout limit w → occupancy_of w' ≡ occupancy_of w
    → IsReplayed limit w w' (Some (blocks_of (occupancy_of w)))
same_replayed limit w w' laid e =
    record { layout = subst (IsLaidOut limit) (sym e) laid; blocks = ap (λ g. Some (blocks_of g)) (sym e) }

-- and the record of which names a live block
touched_replayed : (limit : ℕ) (w w' : World) (at id : ℕ) → HasLayout limit w → id_at w at ≡ Some id → occupancy_of w' ≡ occupancy_of w
    → IsReplayed limit w w' (after_touching (blocks_of (occupancy_of w)) at)
touched_replayed limit w w' at id laid found e =
    let x = live_at limit w at id laid (id_at-found w at id found) in
    record {
      layout = subst (IsLaidOut limit) (sym e) laid;
      blocks =
          replay-touched (map shape_of w.graph.objects) w.addresses id at (shape_of x.object) (is_placed limit w at id laid x)
          ∙ ap (λ g. Some (blocks_of g)) (sym e);
    }

-- ---- a segment

segment_for : (limit : ℕ) (w : World) (base grains pool generation : ℕ) (from : Address) (to : ℕ) → HasLayout limit w
    → ForOne (id_at w from) (IsSegmentForMove w base grains pool generation to)
    → IsFresh limit w.segments (segment_of_move base grains pool generation)
segment_for limit w base grains pool generation from to laid h =
    let f = for_one (IsSegmentForMove w base grains pool generation to) (id_at w from) h in
    let x = live_at limit w from f.0 laid (id_at-found w from f.0 f.1) in
    let size : 0 < words_of w f.0 =
    subst (λ (n : ℕ). 0 < n) (sym (ap (λ o. option_map_or Rattle.mps_model.specs.Graph.size_of o 0) x.there))
    (laid.shapes f.0 (shape_of x.object) x.shape).some in
    let new = new_at_front w (tail_of w (pool_of w f.0) (target_generation_for w f.0)) (words_of w f.0) base grains (f.2).placement in
    fresh_segment limit w (words_of w f.0) new.0 grains pool generation base laid size new.1 new.2

segment_is_fresh : (limit : ℕ) (w : World) (base grains pool generation : ℕ) (next : Option Move) → HasLayout limit w
    → IsLegalSegment w base grains pool generation next → IsFresh limit w.segments (segment_of_move base grains pool generation)
segment_is_fresh limit w base grains pool generation (Some (moves.Moved from to)) laid h =
    segment_for limit w base grains pool generation from.0 to.0 laid h
segment_is_fresh limit w base grains pool generation None laid h = absurd h
segment_is_fresh limit w base grains pool generation (Some (moves.Seg b g p n)) laid h = absurd h
segment_is_fresh limit w base grains pool generation (Some (moves.Unseg b)) laid h = absurd h
segment_is_fresh limit w base grains pool generation (Some (moves.Flip z c n)) laid h = absurd h
segment_is_fresh limit w base grains pool generation (Some moves.End) laid h = absurd h
segment_is_fresh limit w base grains pool generation (Some (moves.Stay at)) laid h = absurd h
segment_is_fresh limit w base grains pool generation (Some (moves.Splat holder cell)) laid h = absurd h
segment_is_fresh limit w base grains pool generation (Some (moves.Post at)) laid h = absurd h
segment_is_fresh limit w base grains pool generation (Some (moves.Commit at words p)) laid h = absurd h
segment_is_fresh limit w base grains pool generation (Some (moves.Alloc at words p)) laid h = absurd h
segment_is_fresh limit w base grains pool generation (Some (moves.Free at)) laid h = absurd h

-- ---- a block moves

abbrev moved_to : Occupancy → (id to pool generation words : ℕ) → List Address → Occupancy
moved_to g id to pool generation words condemned = record g {
  addresses = slice_set g.addresses id (Some to);
  tails = with_tail_of g.tails pool generation (words_after_in g.segments to words);
  condemned = condemned;
}

moved_is : (limit : ℕ) (w : World) (from id to : ℕ) (x : IsLiveAt limit w from id)
    → occupancy_of (after_moved w id to)
    ≡ moved_to (occupancy_of w) id to (shape_of x.object).pool (target_generation_for w id) (shape_of x.object).words
    (condemned_in w.collection)
moved_is limit w from id to x =
    let g = occupancy_of w in
    let generation = target_generation_for w id in
    ap (λ c. moved_to g id to (pool_of w id) generation (words_of w id) c) (condemned_kept (placing id) (λ c. refl) w.collection)
    ∙ ap (λ o. moved_to g id to (option_map_or (λ (y : Object). y.pool) o 0) generation (words_of w id) (condemned_in w.collection)) x.there
    ∙ ap (λ o. moved_to g id to (shape_of x.object).pool generation (option_map_or Rattle.mps_model.specs.Graph.size_of o 0)
    (condemned_in w.collection)) x.there

moved_replayed : (limit : ℕ) (w : World) (c : Collection) (from id to : ℕ) → HasLayout limit w → id_at w from ≡ Some id
    → IsLegalMoved w c id to → IsReplayed limit w (after_moved w id to) (after_moving (blocks_of (occupancy_of w)) from to)
moved_replayed limit w c from id to laid found legal =
    let g = occupancy_of w in
    let x = live_at limit w from id laid (id_at-found w from id found) in
    let s = shape_of x.object in
    let generation = target_generation_for w id in
    let front = at_front w (tail_of w (pool_of w id) generation) (words_of w id) to legal.at_placement in
    let m : IsMoving g id to s generation = record {
      shape = x.shape;
      fits =
          subst (λ (n : ℕ). n ≤ (tail_of w s.pool generation).count)
          (ap (λ o. option_map_or Rattle.mps_model.specs.Graph.size_of o 0) x.there)
          (subst (λ (p : ℕ). words_of w id ≤ (tail_of w p generation).count)
          (ap (λ o. option_map_or (λ (y : Object). y.pool) o 0) x.there) front.0);
      at_front =
          subst (λ (p : ℕ). Rattle.mps_base.specs.Address.address_of_word (tail_of w p generation).from ≡ to)
          (ap (λ o. option_map_or (λ (y : Object). y.pool) o 0) x.there) front.1;
      copying = sym (ap (λ o. option_map_or (λ (y : Object). is_copying_pool w y.pool) o false) x.there) ∙ legal.copying;
    } in
    record {
      layout = subst (IsLaidOut limit) (sym (moved_is limit w from id to x)) (moved_laid_out limit g id to generation s laid m);
      blocks =
          replay-moved (map shape_of w.graph.objects) w.addresses id from to s (is_placed limit w from id laid x)
          (moved_to_free limit g id to generation s laid m);
    }

-- ---- a block is freed

pub freed_replayed : (limit : ℕ) (w : World) (at id : ℕ) → HasLayout limit w → id_at w at ≡ Some id
    → IsReplayed limit w (after_free w id at) (after_freeing (blocks_of (occupancy_of w)) at)
freed_replayed limit w at id laid found =
    let x = live_at limit w at id laid (id_at-found w at id found) in
    record {
      layout = subst (IsLaidOut limit) (sym (free_is w id at)) (freed_laid_out limit (occupancy_of w) id laid);
      blocks =
          replay-freed (map shape_of w.graph.objects) w.addresses id at (shape_of x.object) (is_placed limit w at id laid x)
          ∙ ap (λ g. Some (blocks_of g)) (sym (free_is w id at));
    }

-- ---- a segment is given back

none_begins : (w : World) (s : Segment) → not (list_any (begins_in s) (covered w)) ≡ true
    → list_any (begins_in s) (covered_in (occupancy_of w)) ≡ false
none_begins w s h = ap (list_any (begins_in s)) (sym (covered-shapes w)) ∙ not_true (list_any (begins_in s) (covered w)) h
  where
    not_true : (b : Bool) → not b ≡ true → b ≡ false
    not_true true e = absurd (false≢true e)
    not_true false e = refl

-- where nothing lies in it, and no words at hand
pub given_back_replayed : (limit : ℕ) (w : World) (base : Address) (s : Segment) → (laid : HasLayout limit w) → IsAmong s w.segments
    → s.base ≡ base → not (list_any (begins_in s) (covered w)) ≡ true
    → ((o : Occupant) (some : 0 < (run_of (occupancy_of w) o).count) → is_at_hand o ≡ true → (laid.placed.homes o some).segment.base ≢ base)
    → IsReplayed limit w (after_unseg w base) (Some (blocks_of (occupancy_of w)))
given_back_replayed limit w base s laid held begins empty others =
    let g = occupancy_of w in
    let e : occupancy_of (after_unseg w base) ≡ record g {
      segments = without_segment w.segments base;
      condemned = without_first (condemned_in w.collection) base;
    } = ap (λ c. record g { segments = without_segment w.segments base; condemned = c }) (given_back_condemned base w.collection) in
    record {
      layout = subst (IsLaidOut limit) (sym e) (given_back_laid_out limit g base laid (λ o some.
          elim (cases_Bool (is_at_hand o)) [
            | inl at_hand ↦ others o some at_hand
            | inr placed ↦ (λ h. empty_is_no_home limit g laid s held (none_begins w s empty) o some placed (h ∙ sym begins))
          ]));
      blocks = refl;
    }

unseg_replayed : (limit : ℕ) (w : World) (base : Address) → HasLayout limit w
    → ForOne w.collection (λ c. ForOne (segment_at w base) (IsLegalUnseg w c))
    → IsReplayed limit w (after_unseg w base) (Some (blocks_of (occupancy_of w)))
unseg_replayed limit w base laid h =
    let b = for_both w.collection (segment_at w base) (IsLegalUnseg w) h in
    let s = found_among (λ t. t.base == base) w.segments b.second b.is_second in
    let begins = eqb-true b.second.base base s.1 in
    given_back_replayed limit w base b.second laid s.0 begins b.holds.empty
    (λ o some at_hand e.
    false≢true (sym ((laid.placed.homes o some).spared at_hand)
    ∙ ap (λ c. contains (condemned_in c) (laid.placed.homes o some).segment.base) b.is_first
    ∙ ap (contains b.first.condemned_segments) (e ∙ sym begins) ∙ b.holds.condemned))

-- ---- the law

flip_replayed : (limit : ℕ) (w : World) (zones chain generation : ℕ) → HasLayout limit w
    → IsReplayed limit w (after_flip w zones (condemnation_of chain generation)) (Some (blocks_of (occupancy_of w)))
flip_replayed limit w zones chain generation laid =
    let g = occupancy_of w in
    let what = condemnation_of chain generation in
    record {
      layout =
          subst (λ ps. IsLaidOut limit (record (occupancy_of (after_flip w zones what)) { points = ps }))
          (sym (doomed_shapes w.graph.points))
          (condemning_laid_out limit g laid (is_condemned_by (world_flipped w zones) what));
      blocks = refl;
    }

pub move_replayed : (limit : ℕ) (w : World) (before : Option Move) (m : Move) (next : Option Move) (line : ℕ) → HasLayout limit w
    → IsLegalMove w before m next → IsReplayed limit w (world_after_move w m) (store_after (blocks_of (occupancy_of w)) (record_of m line))
move_replayed limit w before (moves.Seg base grains pool generation) next line laid legal = record {
  layout = segment_layout limit w base.0 grains pool generation laid
      (segment_is_fresh limit w base.0 grains pool generation next laid legal);
  blocks = ap Some (sym (segment_blocks w (segment_of_move base.0 grains pool generation)));
}
move_replayed limit w before (moves.Unseg base) next line laid legal = unseg_replayed limit w base.0 laid legal
move_replayed limit w before (moves.Flip zones chain generation) next line laid legal =
    flip_replayed limit w zones.0 chain generation laid
move_replayed limit w before moves.End next line laid legal =
    record { layout = ended_laid_out limit (occupancy_of w) laid; blocks = refl }
move_replayed limit w before (moves.Moved from to) next line laid legal =
    let b = for_both w.collection (id_at w from.0) (λ c id. IsLegalMoved w c id to.0) legal in
    subst (λ o. IsReplayed limit w (where_one w o (λ id. after_moved w id to.0)) (after_moving (blocks_of (occupancy_of w)) from.0 to.0))
    (sym b.is_second) (moved_replayed limit w b.first from.0 b.second to.0 laid b.is_second b.holds)
move_replayed limit w before (moves.Stay at) next line laid legal =
    let b = for_both w.collection (id_at w at.0) (IsLegalStay w) legal in
    subst (λ o. IsReplayed limit w (where_one w o (λ id. with_collection w (placing id)))
    (after_touching (blocks_of (occupancy_of w)) at.0))
    (sym b.is_second)
    (touched_replayed limit w (with_collection w (placing b.second)) at.0 b.second laid b.is_second
    (collection_kept w (placing b.second) (λ c. refl)))
move_replayed limit w before (moves.Splat holder cell) next line laid legal =
    let b = for_both w.collection (id_at w holder.0) (λ c id. IsLegalSplat w c id cell) legal in
    subst (λ o. IsReplayed limit w (where_one w o (λ id. after_splat w id cell)) (Some (blocks_of (occupancy_of w)))) (sym b.is_second)
    (same_replayed limit w (after_splat w b.second cell) laid (splat_kept w b.second cell))
move_replayed limit w before (moves.Post at) next line laid legal =
    let b = for_both w.collection (id_at w at.0) (λ c id. IsLegalPost w c before id at.0) legal in
    subst (λ o. IsReplayed limit w (where_one w o (after_post w)) (after_touching (blocks_of (occupancy_of w)) at.0)) (sym b.is_second)
    (touched_replayed limit w (after_post w b.second) at.0 b.second laid b.is_second (post_kept w b.second))
move_replayed limit w before (moves.Commit at words pool) next line laid legal = absurd legal
move_replayed limit w before (moves.Alloc at words pool) next line laid legal = absurd legal
move_replayed limit w before (moves.Free at) next line laid legal =
    let b = for_both w.collection (id_at w at.0) (IsLegalSweep w) legal in
    subst (λ o. IsReplayed limit w (where_one w o (λ id. after_free w id at.0)) (after_freeing (blocks_of (occupancy_of w)) at.0))
    (sym b.is_second) (freed_replayed limit w at.0 b.second laid b.is_second)

-- legal moves, one after the other
pub moves_replayed : (limit : ℕ) (w : World) (before : Option Move) (ms : List Move) (line : ℕ) → HasLayout limit w
    → AreLegalMoves w before ms
    → IsReplayed limit w (world_after_moves w ms) (replay_from (blocks_of (occupancy_of w)) (records_of ms line))
moves_replayed limit w before [] line laid legal = record { layout = laid; blocks = refl }
moves_replayed limit w before (m ∷ ms) line laid legal =
    let one = move_replayed limit w before m (first_move ms) line laid legal.0 in
    let rest = moves_replayed limit (world_after_move w m) (Some m) ms line one.layout legal.1 in
    record {
      layout = rest.layout;
      blocks = ap (λ o. option_and_then (λ after. replay_from after (records_of ms line)) o) one.blocks ∙ rest.blocks;
    }
