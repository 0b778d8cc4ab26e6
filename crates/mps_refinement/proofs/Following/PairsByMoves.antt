-- Pairs by the addresses of their objects, move by move: no move of a collection moves an object of a pair, and a free ends the pairs of
-- its object on both sides.
use Rattle.std.proofs.Common.{◌≡◌, ◌∙◌, ℕ, Bool, true, false, true≢false, refl, sym, ap, subst, List, [], ◌∷◌, Option, Some, None}
use Rattle.std.proofs.lemmas.Bool.{and_from, and_parts, eq-eqb, false≢true}
use Rattle.std.specs.Prelude.{◌==◌, ◌&&◌, filter, if◌then◌else◌, is_some, not, slice_set}
use Rattle.std.specs.List.{list_all}
use Rattle.std.specs.Option.{option_map_or}
use Rattle.mps_base.specs.Address.{Address, Id}
use Rattle.mps_base.specs.Segment.{words_of_segment}
use Rattle.mps_base.specs.declared.moves.Move.{Move}
use Rattle.mps_base.specs.declared.moves.Move.TheVariants as moves
use Rattle.mps_base.specs.declared.names.Kind.TheVariants as kind
use Rattle.mps_dep.specs.Following.{followed_pairs}
use Rattle.mps_dep.specs.State.{without_address}
use Rattle.mps_dep.specs.declared.dependents.Pair.{Pair}
use Rattle.mps_laws.proofs.Dependents.{ArePaired}
use Rattle.mps_laws.proofs.Finding.{for_both, id_at-found}
use Rattle.mps_laws.proofs.Lookups.{entry_at-set_other}
use Rattle.mps_laws.proofs.Positions.LegalMoves.{HasLayout, different}
use Rattle.mps_laws.proofs.Positions.Occupancy.{occupancy_of}
use Rattle.mps_laws.proofs.Sound.SoundGraph.{IsSoundGraph, each-weaker}
use Rattle.mps_model.specs.Dependents.{may_depend}
use Rattle.mps_model.specs.Effect.{after_free, after_moved, after_post, after_splat, holding, placing, reclaiming, segment_base_of, segment_of_move, where_one, with_collection, without_object, world_after_move}
use Rattle.mps_model.specs.Graph.{Object, entry_at, is_automatic, is_weak_object, object_at, without_named}
use Rattle.mps_model.specs.LegalMove.{IsLegalMove, IsLegalMoved, IsLegalSweep}
use Rattle.mps_model.specs.WellFormed.{is_right_pair}
use Rattle.mps_model.specs.World.{World, Pool, PoolKind, AnySize, Collected, Frames, OneSize, id_at, is_copying_kind, is_copying_object, is_copying_pool, is_live, is_weak_kind, object_is, pool_at, pool_is, with_tail}
use Rattle.mps_refinement.specs.Dependents.{AreDependents}
use Rattle.mps_refinement.proofs.Collect.StrongMoving.{strong_moving}
use Rattle.mps_refinement.proofs.Following.Pairs.{ended_are, is_live_pair, still_kept}

-- ---- objects of pairs stay where they are

weak_stays : (k : PoolKind) → is_weak_kind k ≡ true → is_copying_kind k ≡ false
weak_stays (Collected kind.Amc) weak = absurd (false≢true weak)
weak_stays (Collected kind.Amcz) weak = absurd (false≢true weak)
weak_stays (Collected kind.Ams) weak = refl
weak_stays (Collected kind.Lo) weak = refl
weak_stays (Collected kind.Awl) weak = refl
weak_stays (OneSize words) weak = refl
weak_stays AnySize weak = refl
weak_stays Frames weak = refl

weak_pool_stays : (x : Option Pool) → option_map_or (λ p. is_weak_kind p.kind) x false ≡ true
    → option_map_or (λ p. is_copying_kind p.kind) x false ≡ false
weak_pool_stays None weak = refl
weak_pool_stays (Some p) weak = weak_stays p.kind weak

filter_passes : {X : Type 0} (keep : X → Bool) (xs : List X) → list_all keep (filter keep xs) ≡ true
filter_passes keep [] = refl
filter_passes keep (x ∷ xs) = of_test (keep x) refl (filter_passes keep xs)
  where
    of_test : (b : Bool) → keep x ≡ b → list_all keep (filter keep xs) ≡ true
        → list_all keep (if b then x ∷ filter keep xs else filter keep xs) ≡ true
    of_test true e rest = and_from (keep x) (list_all keep (filter keep xs)) e rest
    of_test false e rest = rest

module _ (u : World) (sound : IsSoundGraph u) (paired : ArePaired u) where
  -- a live object that no collection moves
  abbrev pub stays_put : Id → Bool
  stays_put id = is_live u id && not (is_copying_object u id)

  holder_stays : (id : Id) → object_is is_weak_object u id ≡ true → is_copying_object u id ≡ false
  holder_stays id weak = of_test (is_copying_object u id) refl
    where
      of_test : (b : Bool) → is_copying_object u id ≡ b → b ≡ false
      of_test true e = absurd (true≢false (sym weak ∙ strong_moving u sound id e))
      of_test false e = refl

  pair_stays : (p : Id × Id) → is_right_pair u p ≡ true → (stays_put p.0 && stays_put p.1) ≡ true
  pair_stays p right =
      let parts = and_parts (is_live u p.0) (is_live u p.1 && object_is (λ holder. object_is (may_depend u holder) u p.1) u p.0) right in
      let rest = and_parts (is_live u p.1) (object_is (λ holder. object_is (may_depend u holder) u p.1) u p.0) parts.1 in
      let both = of_holder (object_at u.graph p.0) rest.1 in
      and_from (stays_put p.0) (stays_put p.1)
      (and_from (is_live u p.0) (not (is_copying_object u p.0)) parts.0 (ap not (holder_stays p.0 both.0)))
      (and_from (is_live u p.1) (not (is_copying_object u p.1)) rest.0 (ap not both.1))
    where
      of_dependent : (holder : Object) (x : Option Object) → option_map_or (may_depend u holder) x false ≡ true
          → (is_weak_object holder ≡ true) × (option_map_or (λ o. is_copying_pool u o.pool) x false ≡ false)
      of_dependent holder None may = absurd (false≢true may)
      of_dependent holder (Some d) may =
          let first = and_parts (is_weak_object holder) (pool_is is_weak_kind u d.pool && not (is_weak_object d)) may in
          let second = and_parts (pool_is is_weak_kind u d.pool) (not (is_weak_object d)) first.1 in
          (first.0, weak_pool_stays (pool_at u d.pool) second.0)

      of_holder : (x : Option Object) → option_map_or (λ holder. object_is (may_depend u holder) u p.1) x false ≡ true
          → (option_map_or is_weak_object x false ≡ true) × (is_copying_object u p.1 ≡ false)
      of_holder None may = absurd (false≢true may)
      of_holder (Some holder) may = of_dependent holder (object_at u.graph p.1) may

  pairs_stay : list_all (λ (p : Id × Id). stays_put p.0 && stays_put p.1) u.graph.dependents ≡ true
  pairs_stay =
      each-weaker (is_right_pair u) (λ (p : Id × Id). stays_put p.0 && stays_put p.1) pair_stays u.graph.dependents paired

  -- ---- one move

  module _ (kept : List Pair) (are : AreDependents u.addresses kept u.graph.dependents) where
    abbrev AreThen : World → List Pair → Type 0
    AreThen v now = AreDependents v.addresses now v.graph.dependents

    moved_are : (id to : ℕ) → is_copying_object u id ≡ true → AreThen (after_moved u id to) kept
    moved_are id to copying =
        are ∙ sym (still_kept u.addresses (slice_set u.addresses id (Some to)) stays_put
        (λ j stays. entry_at-set_other u.addresses id j (Some to) (λ same.
        true≢false (sym copying ∙ ap (is_copying_object u) same
        ∙ not_true (is_copying_object u j) (and_parts (is_live u j) (not (is_copying_object u j)) stays).1)))
        u.graph.dependents pairs_stay)
      where
        not_true : (b : Bool) → not b ≡ true → b ≡ false
        not_true true e = absurd (false≢true e)
        not_true false e = refl

    module _ (limit : ℕ) (laid : HasLayout limit u) where
      apart : (id other : Id) (at : Address) → entry_at u.addresses id ≡ Some at → entry_at u.addresses other ≡ Some at → id ≡ other
      apart = different limit (occupancy_of u) laid

      live_pairs : list_all (is_live_pair u.addresses apart) u.graph.dependents ≡ true
      live_pairs =
          each-weaker (λ (p : Id × Id). stays_put p.0 && stays_put p.1) (is_live_pair u.addresses apart) (λ p stay.
          let both = and_parts (stays_put p.0) (stays_put p.1) stay in
          and_from (is_some (entry_at u.addresses p.0)) (is_some (entry_at u.addresses p.1))
          (and_parts (is_live u p.0) (not (is_copying_object u p.0)) both.0).0
          (and_parts (is_live u p.1) (not (is_copying_object u p.1)) both.1).0) u.graph.dependents pairs_stay

      gone_are : (id : Id) (at : Address) → entry_at u.addresses id ≡ Some at → AreThen (without_object u id) (without_address kept at)
      gone_are id at there =
          ap (λ ps. without_address ps at) are
          ∙ ended_are u.addresses apart u.graph.dependents id at live_pairs there
          ∙ sym (still_kept u.addresses (slice_set u.addresses id None) (λ j. not (j == id))
          (λ j other. entry_at-set_other u.addresses id j None (λ same.
          false≢true (sym (ap not (eq-eqb j id (sym same))) ∙ other)))
          (without_named u.graph.dependents id)
          (filter_passes (λ p. not (p.0 == id) && not (p.1 == id)) u.graph.dependents))

      freed_are : (id : Id) (at : Address) → entry_at u.addresses id ≡ Some at → AreThen (after_free u id at) (without_address kept at)
      freed_are id at there =
          elim (object_is is_automatic u id) as (λ b. AreThen
          (if b then with_collection (without_object u id) (reclaiming (segment_base_of u at)) else without_object u id)
          (without_address kept at)) [
            | true ↦ gone_are id at there
            | false ↦ gone_are id at there
          ]

      one_are : (o : Option ℕ) (change : ℕ → World) → ((id : ℕ) → AreThen (change id) kept) → AreThen (where_one u o change) kept
      one_are None change each = are
      one_are (Some id) change each = each id

      pub move_keeps : (before : Option Move) (m : Move) (next : Option Move) → IsLegalMove u before m next
          → AreThen (world_after_move u m) (followed_pairs kept m)
      move_keeps before (moves.Seg base grains pool generation) next legal =
          elim (is_copying_pool u pool) as (λ b. AreThen (if b then with_tail (holding u (segment_of_move base.0 grains pool generation))
          pool generation (words_of_segment (segment_of_move base.0 grains pool generation))
          else holding u (segment_of_move base.0 grains pool generation)) kept) [
            | true ↦ are
            | false ↦ are
          ]
      move_keeps before (moves.Unseg base) next legal = are
      move_keeps before (moves.Flip zones chain generation) next legal = are
      move_keeps before moves.End next legal = are
      move_keeps before (moves.Moved from to) next legal =
          let b = for_both u.collection (id_at u from.0) (λ c id. IsLegalMoved u c id to.0) legal in
          subst (λ o. AreThen (where_one u o (λ id. after_moved u id to.0)) kept) (sym b.is_second)
          (moved_are b.second to.0 b.holds.copying)
      move_keeps before (moves.Stay at) next legal = one_are (id_at u at.0) (λ id. with_collection u (placing id)) (λ id. are)
      move_keeps before (moves.Splat holder cell) next legal = one_are (id_at u holder.0) (λ id. after_splat u id cell) (λ id. are)
      move_keeps before (moves.Post at) next legal = one_are (id_at u at.0) (after_post u) (λ id. are)
      move_keeps before (moves.Commit at words pool) next legal = are
      move_keeps before (moves.Alloc at words pool) next legal = are
      move_keeps before (moves.Free at) next legal =
          let b = for_both u.collection (id_at u at.0) (IsLegalSweep u) legal in
          subst (λ o. AreThen (where_one u o (λ id. after_free u id at.0)) (without_address kept at.0)) (sym b.is_second)
          (freed_are b.second at.0 (id_at-found u at.0 b.second b.is_second))
