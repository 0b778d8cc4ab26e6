-- Each run that a block or a reservation covers lies in a held segment, of a pool that there is.
use Rattle.std.proofs.Common.{◌≡◌, ◌∙◌, ℕ, ◌+◌, ◌<◌, ◌≤◌, false, refl, sym, ap, subst, List, ◌++◌, length, Option, Some, None, Contains, arith}
use Rattle.std.proofs.lemmas.Bool.{true≢false}
use Rattle.std.proofs.lemmas.Option.{slice_get-map}
use Rattle.std.specs.Prelude.{option_and_then, option_map, slice_get}
use Rattle.std.specs.List.{AllByRecursion}
use Rattle.std.specs.Option.{option_map_or}
use Rattle.mps_base.specs.Address.{address_of_word}
use Rattle.mps_base.specs.Run.{Run, end_of}
use Rattle.mps_base.specs.Segment.{Segment, segment_over, words_of_segment}
use Rattle.mps_format.specs.Layout.{Layout}
use Rattle.mps_laws.proofs.LeftByActs.{owners}
use Rattle.mps_laws.proofs.Positions.ApartRuns.{all_in_order}
use Rattle.mps_laws.proofs.Positions.Covered.{all_listed, covered-shapes, extents_in, reserved_in}
use Rattle.mps_laws.proofs.Positions.LaidOut.{is_at_hand}
use Rattle.mps_laws.proofs.Positions.LegalMoves.{HasLayout}
use Rattle.mps_laws.proofs.Positions.Occupancy.{Occupancy, Occupant, OfBlock, OfBuffer, OfReservation, OfTail, PointShape, Shape, occupancy_of, pool_of_occupant, run_of, run_of_block, run_of_reservation, shape_of, shape_of_point}
use Rattle.mps_laws.proofs.Positions.Segments.{IsAmong, found_segment}
use Rattle.mps_laws.proofs.Sound.PoolsThere.{HasPools, IsPointPoolThere, IsPoolThere, all-at}
use Rattle.mps_model.specs.Graph.{Object, Point, entry_at}
use Rattle.mps_model.specs.World.{World}
use Rattle.mps_trace_laws.proofs.Image.BlockRuns.{all_contained}
use Rattle.mps_heap_spec.specs.State.{HeapState}
use Rattle.mps_refinement.specs.StandsFor.{AreParts, Past}

-- a run has words, all of them in one segment, of whose pool something is known
pub record IsHome (segments : List Segment) (IsThere : (pool : ℕ) → Type 0) (r : Run) : Type 0 where
  pub some : 0 < r.count
  pub segment : Segment
  pub held : IsAmong segment segments
  pub above : (words_of_segment segment).from ≤ r.from
  pub below : end_of r ≤ end_of (words_of_segment segment)
  pub there : IsThere segment.pool

-- it is known of the pool of whoever has words
abbrev pub AreThere : World → (IsThere : (pool : ℕ) → Type 0) → Type 0
AreThere w IsThere =
    (o : Occupant) → is_at_hand o ≡ false → 0 < (run_of (occupancy_of w) o).count → IsThere (pool_of_occupant (occupancy_of w) o)

module _ (w : World) (there : HasPools w) where
  abbrev g : Occupancy
  g = occupancy_of w

  -- the pool of whoever has words
  block_pool : (id : ℕ) → 0 < (run_of g (OfBlock id)).count → pool_of_occupant g (OfBlock id) < length w.pools
  block_pool id some = of_object (slice_get w.graph.objects id) refl
    where
      of_object : (o : Option Object) → slice_get w.graph.objects id ≡ o
          → option_map_or (λ (s : Shape). s.pool) (slice_get g.shapes id) 0 < length w.pools
      of_object None e =
          let none : slice_get g.shapes id ≡ None = slice_get-map shape_of w.graph.objects id ∙ ap (option_map shape_of) e in
          let count : (run_of g (OfBlock id)).count ≡ 0 =
          ap (λ (s : Option Shape). (run_of_block s (entry_at g.addresses id)).count) none
          in
          absurd (omega (arith, some, count))
      of_object (Some o) e =
          let is : slice_get g.shapes id ≡ Some (shape_of o) =
          slice_get-map shape_of w.graph.objects id ∙ ap (option_map shape_of) e
          in
          let pool = ap (λ (s : Option Shape). option_map_or (λ (x : Shape). x.pool) s 0) is in
          let owner : slice_get (owners w.graph) id ≡ Some o.pool =
          slice_get-map (λ (x : Object). x.pool) w.graph.objects id ∙ ap (option_map (λ (x : Object). x.pool)) e
          in
          subst (λ (n : ℕ). n < length w.pools) (sym pool) (all-at (IsPoolThere w.pools) (owners w.graph) id o.pool there.of_objects owner)

  point_pool : (n : ℕ) → 0 < (run_of g (OfReservation n)).count → pool_of_occupant g (OfReservation n) < length w.pools
  point_pool n some = of_entry (slice_get w.graph.points n) refl
    where
      -- where no point has this number, nothing is reserved
      of_none : entry_at g.points n ≡ None → option_map_or (λ (p : PointShape). p.pool) (entry_at g.points n) 0 < length w.pools
      of_none none =
          let count : (run_of g (OfReservation n)).count ≡ 0 =
          ap (λ (p : Option PointShape). (run_of_reservation p (slice_get g.memories n)).count) none
          in
          absurd (omega (arith, some, count))

      shape_is : (o : Option (Option Point)) → slice_get w.graph.points n ≡ o
          → entry_at g.points n ≡ option_and_then (λ (p : Option PointShape). p) (option_map shape_of_point o)
      shape_is o e =
          ap (option_and_then (λ (p : Option PointShape). p))
          (slice_get-map shape_of_point w.graph.points n ∙ ap (option_map shape_of_point) e)

      of_entry : (o : Option (Option Point)) → slice_get w.graph.points n ≡ o
          → option_map_or (λ (p : PointShape). p.pool) (entry_at g.points n) 0 < length w.pools
      of_entry None e = of_none (shape_is None e)
      of_entry (Some None) e = of_none (shape_is (Some None) e)
      of_entry (Some (Some p)) e =
          let pool = ap (λ (x : Option PointShape). option_map_or (λ (y : PointShape). y.pool) x 0) (shape_is (Some (Some p)) e) in
          subst (λ (m : ℕ). m < length w.pools) (sym pool)
          (all-at (IsPointPoolThere w.pools) w.graph.points n (Some p) there.of_points e)

  -- there is such a pool
  pub pools_there : AreThere w (λ (pool : ℕ). pool < length w.pools)
  pools_there (OfBlock id) h some = block_pool id some
  pools_there (OfReservation n) h some = point_pool n some
  pools_there (OfBuffer n) h some = absurd (true≢false h)
  pools_there (OfTail pool generation) h some = absurd (true≢false h)

module _ {F : Type 0} (layout : F → Layout) (past : Past) (h : HeapState F) (w : World) (parts : AreParts layout past h w)
    (laid : HasLayout (w.grains + 1) w) (IsThere : (pool : ℕ) → Type 0) (there : AreThere w IsThere) where
  abbrev occupancy : Occupancy
  occupancy = occupancy_of w

  one_home : (o : Occupant) → is_at_hand o ≡ false → 0 < (run_of occupancy o).count → IsHome w.segments IsThere (run_of occupancy o)
  one_home o hand some =
      let home = laid.placed.homes o some in
      record {
        some = some;
        segment = home.segment;
        held = home.held;
        above = home.above;
        below = home.below;
        there = subst IsThere (sym home.of_pool) (there o hand some);
      }

  all_home : AllByRecursion (IsHome w.segments IsThere) h.segs.covered
  all_home =
      subst (AllByRecursion (IsHome w.segments IsThere)) (sym (parts.image.runs.covered ∙ covered-shapes w))
      (all_in_order (IsHome w.segments IsThere)
      (extents_in occupancy.shapes occupancy.addresses ++ reserved_in occupancy.points occupancy.memories)
      (all_listed (w.grains + 1) occupancy laid (IsHome w.segments IsThere) one_home))

  pub home_of : (r : Run) → Contains h.segs.covered r → IsHome w.segments IsThere r
  home_of r covered = all_contained (IsHome w.segments IsThere) h.segs.covered r all_home covered

  -- its first word lies there
  pub over_home : (r : Run) (covered : Contains h.segs.covered r)
      → segment_over w.segments (address_of_word r.from) ≡ Some (home_of r covered).segment
  over_home r covered =
      let home = home_of r covered in
      let some = home.some in
      let below = home.below in
      found_segment 1 (w.grains + 1) w.segments home.segment laid.ascending laid.aligned home.held r.from
      (home.above, omega (arith, some, below))

  pub over_now : (r : Run) (covered : Contains h.segs.covered r)
      → segment_over h.segs.segments (address_of_word r.from) ≡ Some (home_of r covered).segment
  over_now r covered = ap (λ (ss : List Segment). segment_over ss (address_of_word r.from)) parts.segments ∙ over_home r covered
