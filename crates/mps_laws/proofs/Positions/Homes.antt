-- Live objects lie in held segments of their own pools, and in no others. So the flips of a legal history count for each dependency.
use Rattle.std.proofs.Common.{◌≡◌, ◌∙◌, inl, inr, ℕ, zero, suc, ◌+◌, ◌*◌, ◌/◌, ◌<◌, ◌≤◌, true, refl, sym, ap, subst, List, [], ◌∷◌, length, Option, Some, None, arith}
use Rattle.std.proofs.lemmas.Bool.{and_parts, leb-true, ltb-true}
use Rattle.std.proofs.lemmas.Option.{slice_get-map}
use Rattle.std.specs.Prelude.{slice_get, option_map, nat_le, nat_lt}
use Rattle.std.specs.List.{AllByRecursion}
use Rattle.std.specs.Option.{option_map_or}
use Rattle.mps_base.specs.Address.{grain_of, word_of}
use Rattle.mps_base.specs.Run.{Run, Covers, end_of}
use Rattle.mps_base.specs.Segment.{Segment, is_in_segment, grains_of_segment}
use Rattle.mps_base.specs.declared.moves.Move.{Move}
use Rattle.mps_base.specs.declared.moves.Move.TheVariants as moves
use Rattle.mps_model.specs.Layout.{Layout}
use Rattle.mps_model.specs.Graph.{Object, entry_at}
use Rattle.mps_model.specs.World.{World, address_of, empty_world_of, extent}
use Rattle.mps_model.specs.Effect.{world_after_move}
use Rattle.mps_model.specs.LegalMove.{AreLegalMoves, IsLegalMove, first_move}
use Rattle.mps_model.specs.Step.{Step}
use Rattle.mps_model.specs.History.{IsLegalStep, moves_of_collector, world_after}
use Rattle.mps_laws.specs.Depending.{FreshDependenciesHold}
use Rattle.mps_laws.proofs.LeftByActs.{owners}
use Rattle.mps_laws.proofs.Positions.Segments.{IsAmong, among_aligned, same_segment}
use Rattle.mps_laws.proofs.Positions.Occupancy.{OfBlock, Shape, occupancy_of, shape_of, run_of, run_of_block, pool_of_occupant, rank_of_occupant}
use Rattle.mps_laws.proofs.Positions.LaidOut.{Home}
use Rattle.mps_laws.proofs.Positions.LegalMoves.{HasLayout, IsLiveAt, live_at}
use Rattle.mps_laws.proofs.Replays.ReplayOfMoves.{move_replayed}
use Rattle.mps_laws.proofs.Replays.FreeSteps.{BlocksAreLive}
use Rattle.mps_laws.proofs.Replays.Replay.{legal_step_replayed, empty_layout, limit_after}
use Rattle.mps_laws.proofs.FlippedZones.{AreHome, IsHome, IsSegmentOf, grains_between}
use Rattle.mps_laws.proofs.Sound.PoolsThere.{HasPools, IsPoolThere, all-at, move_leaves_pools, step_has_pools}
use Rattle.mps_laws.proofs.Accounting.{AreFlippedLegally, IsFlippedLegally}
use Rattle.mps_laws.proofs.Fresh.{fresh_where}

-- ---- one live object

all_of_among : {X : Type 0} (Holds : X → Type 0) (xs : List X) → ((x : X) → IsAmong x xs → Holds x) → AllByRecursion Holds xs
all_of_among Holds [] each = tt
all_of_among Holds (x ∷ xs) each = (each x (inl refl), all_of_among Holds xs (λ y among. each y (inr among)))

there_below : {X : Type 0} (xs : List X) (n : ℕ) → n < length xs → (x : X) × (slice_get xs n ≡ Some x)
there_below [] n below = absurd (omega (arith, below))
there_below (x ∷ xs) zero below = (x, refl)
there_below (x ∷ xs) (suc n) below = there_below xs n (omega (arith, below))

-- the grain of an address is among those of a segment in whose words the block at the address lies
grain_by_words : (base at grains words : ℕ) → 4096 * (base / 4096) ≡ base → 0 < words → base / 8 ≤ at / 8
    → at / 8 + words ≤ base / 8 + 512 * grains → (base / 4096 ≤ at / 4096) × (at / 4096 < base / 4096 + grains)
grain_by_words base at grains words on_grain some low high =
    (omega (arith, on_grain, some, low, high), omega (arith, on_grain, some, low, high))

module _ (limit : ℕ) (w : World) (laid : HasLayout limit w) (has : HasPools w) (id at : ℕ) (lies : address_of w id ≡ Some at) where
  live : IsLiveAt limit w at id
  live = live_at limit w at id laid lies

  block_run : run_of (occupancy_of w) (OfBlock id) ≡ extent at (shape_of live.object).words
  block_run = ap (λ s. run_of_block s (entry_at w.addresses id)) live.shape ∙ ap (run_of_block (Some (shape_of live.object))) lies

  some_words : 0 < (shape_of live.object).words
  some_words = (laid.shapes id (shape_of live.object) live.shape).some

  home : Home w.segments w.pools (occupancy_of w).condemned (OfBlock id) (pool_of_occupant (occupancy_of w) (OfBlock id))
      (rank_of_occupant (occupancy_of w) (OfBlock id)) (run_of (occupancy_of w) (OfBlock id))
  home = laid.placed.homes (OfBlock id) (subst (λ (r : Run). 0 < r.count) (sym block_run) some_words)

  of_its_pool : home.segment.pool ≡ live.object.pool
  of_its_pool = home.of_pool ∙ ap (λ o. option_map_or (λ (s : Shape). s.pool) o 0) live.shape

  in_home : Covers (grains_of_segment home.segment) (grain_of at)
  in_home =
      grain_by_words home.segment.base at home.segment.grains (shape_of live.object).words
      (among_aligned home.segment w.segments laid.aligned home.held) some_words
      (subst (λ (r : Run). word_of home.segment.base ≤ r.from) block_run home.above)
      (subst (λ (r : Run). end_of r ≤ word_of home.segment.base + 512 * home.segment.grains) block_run home.below)

  -- a segment in which the address lies is that one
  only_home : (s : Segment) → IsAmong s w.segments → is_in_segment s at ≡ true → IsSegmentOf live.object.pool s
  only_home s held inside =
      let parts = and_parts (nat_le s.base at) (nat_lt at (s.base + 4096 * s.grains)) inside in
      let aligned = among_aligned s w.segments laid.aligned held in
      let covers = grains_between s.base at s.grains aligned (leb-true s.base at parts.0)
      (ltb-true at (s.base + 4096 * s.grains) parts.1) in
      let same = same_segment 1 limit w.segments s home.segment laid.ascending held home.held (grain_of at) covers in_home in
      record { of_pool = ap (λ (t : Segment). t.pool) same ∙ of_its_pool; on_grain = aligned }

  owner : slice_get (owners w.graph) id ≡ Some live.object.pool
  owner = slice_get-map (λ (o : Object). o.pool) w.graph.objects id ∙ ap (option_map (λ (o : Object). o.pool)) live.there

  is_home : IsHome w id at
  is_home =
      let pool = there_below w.pools live.object.pool
      (all-at (IsPoolThere w.pools) (owners w.graph) id live.object.pool has.of_objects owner) in
      record {
        number = live.object.pool;
        pool = pool.0;
        owned_by = owner;
        there = pool.1;
        segments = all_of_among (λ s. is_in_segment s at ≡ true → IsSegmentOf live.object.pool s) w.segments only_home;
      }

-- ---- flips of legal steps

are_home : (limit : ℕ) (w : World) → HasLayout limit w → HasPools w → AreHome w
are_home limit w laid has = λ id at lies. is_home limit w laid has id at lies

flips_are_right : (limit : ℕ) (w : World) (before : Option Move) (ms : List Move) → HasLayout limit w → HasPools w
    → AreLegalMoves w before ms
    → AreFlippedLegally w ms
flips_are_right limit w before [] laid has legal = tt
flips_are_right limit w before (m ∷ ms) laid has legal = (
  one m legal.0,
  flips_are_right limit (world_after_move w m) (Some m) ms (move_replayed limit w before m (first_move ms) 0 laid legal.0).layout
      ((move_leaves_pools w m).there has) legal.1,
)
  where
    one : (n : Move) → IsLegalMove w before n (first_move ms) → IsFlippedLegally w n
    one (moves.Flip zones chain generation) legal = (legal, are_home limit w laid has)
    one _ legal = tt

-- what makes flips right, after each step
record IsRightlyLaid (w : World) : Type 0 where
  limit : ℕ
  laid : HasLayout limit w
  live : BlocksAreLive w
  has : HasPools w

first_laid : (formats : ℕ → Layout) → IsRightlyLaid (empty_world_of formats)
first_laid formats = record { limit = 1; laid = empty_layout formats; live = refl; has = record { of_objects = tt; of_points = tt } }

next_laid : (w : World) (s : Step) → IsRightlyLaid w → IsLegalStep w s → IsRightlyLaid (world_after w s)
next_laid w s g legal = record {
  limit = limit_after g.limit s.call;
  laid = (legal_step_replayed g.limit 0 s.line w g.laid g.live s.call s.moves s.answer legal).layout;
  live = legal.held_are_live.blocks;
  has = step_has_pools w s g.has;
}

pub fresh_dependencies_hold : FreshDependenciesHold
fresh_dependencies_hold =
    fresh_where IsRightlyLaid first_laid next_laid
    (λ w s g legal. flips_are_right g.limit w None (moves_of_collector s.call s.moves) g.laid g.has legal.moves_are_legal)
