-- A reclaim is a unit of the abstract collector, and the state stands for it then.
use Rattle.std.proofs.Common.{◌≡◌, ◌∙◌, suc, ◌+◌, ◌*◌, ◌≤◌, true, false, not, refl, sym, ap, subst, List, [], ◌∷◌, ◌++◌, Option, Contains, inl, inr, arith, ℕ}
use Rattle.std.proofs.lemmas.Bool.{cases_Bool, true≢false}
use Rattle.std.proofs.lemmas.Option.{same_Some}
use Rattle.std.specs.Prelude.{◌==◌, slice_index}
use Rattle.mps_base.specs.Address.{Address, grain_of, word_of, words_of_grain}
use Rattle.mps_base.specs.Segment.{Segment, end_of_segment, segment_over}
use Rattle.mps_base.specs.declared.address.Addr.{Addr}
use Rattle.mps_extents.specs.Table.{bit}
use Rattle.mps_format.specs.Layout.{Layout}
use Rattle.mps_trace.specs.GenState.{ChainsState}
use Rattle.mps_seg.specs.Segs.{SegsState}
use Rattle.mps_seg.specs.Reclaiming.{lost_of, without_block, without_blocks, IsSwept, is_given, is_used}
use Rattle.mps_seg.proofs.Lost.{segments_after}
use Rattle.mps_model.specs.Collection.{Collection}
use Rattle.mps_model.specs.Effect.{world_after_moves}
use Rattle.mps_model.specs.Flip.{end_where}
use Rattle.mps_model.specs.Units.{is_last_condemned}
use Rattle.mps_model.specs.World.{World, is_copying_pool}
use Rattle.mps_abstract.specs.Collecting.{Reclaim, Collecting}
use Rattle.mps_abstract.specs.Units.{IsReclaimedNext, reclaim_by, collecting_after_reclaim}
use Rattle.mps_abstract.proofs.Reclaimed.{final_world, final_collection, frees}
use Rattle.mps_abstract.proofs.Reclaiming.{goes_on_leads, last_leads, reclaims_shown}
use Rattle.mps_trace_laws.specs.Image.Memory.{pool_layout}
use Rattle.mps_trace.specs.Condemned.{IsNextCondemned, NoneLeft}
use Rattle.mps_trace.specs.Trace.{Traced}
use Rattle.mps_trace.specs.Unit.{ReclaimsNext, reclaimed_at, LastUnitTo}
use Rattle.mps_trace.specs.declared.running.Running.{Running as RunningState}
use Rattle.mps_trace_laws.proofs.Reclaim.Next.{next_reclaimed}
use Rattle.mps_trace_laws.proofs.Reclaim.HeldSegments.{was_held, over_base}
use Rattle.mps_trace_laws.proofs.Reclaim.LastBand.{known}
use Rattle.mps_trace_laws.proofs.Reclaim.Reclaimed.{condemned_after, outside_unwritten}
use Rattle.mps_trace_laws.proofs.Reclaim.Unit.{a_reclaim_is_a_unit, the_moves_are_the_models, the_last_reclaim_ends}
use Rattle.mps_trace_laws.specs.Reclaim.Freed.{addresses_of}
use Rattle.mps_trace_laws.specs.Reclaim.Left.{AreReservationsUnwritten, IsUnreserved}
use Rattle.mps_trace_laws.specs.Reclaim.Units.{FreesFor, GoesOnSo}
use Rattle.mps_abstract.proofs.KeptPlaces.{reclaim_stays, last_stays}
use Rattle.mps_trace.specs.State.{FinalsState}
use Rattle.mps_trace_laws.proofs.Units.Finals.{finals_stay, finals_in_place, finals_at_end}
use Rattle.mps_trace_laws.specs.Units.Finals.{AreDue}
use Rattle.mps_trace_laws.specs.Units.Standing.{StandsReclaiming, AreFinalsOf, UnitStands, AreObjectsKnown, reclaiming}
use Rattle.mps_trace_laws.specs.Units.Laws.{HasSegmentsOf, HasFinalsOf, IsTracedUnitDone, IsLastTracedUnitDone}
use Rattle.mps_trace_laws.specs.Fix.Room.{moves_left}
use Rattle.mps_trace_laws.proofs.Units.Entering.{the_last_band_is_entered}
use Rattle.mps_trace_laws.proofs.Units.RoomLeft.{moves_left_after, spare_after}
use Rattle.mps_format.specs.declared.pool.Policy.{Policy}

-- ---- what a reclaim leaves of segments

-- each segment was held before, and the condemned ones and the arena are the same
pub record AreAmong (g g' : SegsState) : Type 0 where
  pub was : (u : Segment) → Contains g'.segments u → Contains g.segments u
  pub condemned : g'.condemned ≡ g.condemned
  pub grains : g'.grains ≡ g.grains
  pub limit : g'.limit ≡ g.limit

limit_after : (rs : List Rattle.mps_base.specs.Run.Run) (g : SegsState)
    → (without_blocks rs g).limit ≡ g.limit
limit_after [] g = refl
limit_after (r ∷ rs) g = limit_after rs (without_block r g)

grains_after : (rs : List Rattle.mps_base.specs.Run.Run) (g : SegsState)
    → (without_blocks rs g).grains ≡ g.grains
grains_after [] g = refl
grains_after (r ∷ rs) g = grains_after rs (without_block r g)

pub are_among : (g : SegsState) (moves : Rattle.mps_base.specs.Trail.Moves) (base : Addr) (g' : SegsState)
    (moves' : Rattle.mps_base.specs.Trail.Moves) → IsSwept g moves base g' moves' → AreAmong g g'
are_among g moves base g' moves' (is_given t found empty state trail) = record {
  was = λ u held.
      (was_held (λ s. not (s.base == base.0)) g.segments u
      (subst (λ ss. Contains ss u) (ap (λ (y : SegsState). y.segments) state) held)).0;
  condemned = ap (λ (y : SegsState). y.condemned) state ∙ condemned_after (lost_of g t) g;
  grains = ap (λ (y : SegsState). y.grains) state ∙ grains_after (lost_of g t) g;
  limit = ap (λ (y : SegsState). y.limit) state ∙ limit_after (lost_of g t) g;
}
are_among g moves base g' moves' (is_used t found used state unwritten trail) = record {
  was = λ u held.
      subst (λ ss. Contains ss u) (ap (λ (y : SegsState). y.segments) state ∙ segments_after (lost_of g t) g) held;
  condemned = ap (λ (y : SegsState). y.condemned) state ∙ condemned_after (lost_of g t) g;
  grains = ap (λ (y : SegsState). y.grains) state ∙ grains_after (lost_of g t) g;
  limit = ap (λ (y : SegsState). y.limit) state ∙ limit_after (lost_of g t) g;
}

-- ---- a reclaim

module _ {F : Type 0} (layout : F → Layout) (formats : List (Option (Policy F))) (of : ChainsState) (at_flip : List (Option Address))
    (x z : Traced) (f : FinalsState) (run : RunningState) (y : Collecting) (base : Addr)
    (stands : UnitStands layout formats of at_flip x f run y)
    (next : ReclaimsNext layout formats x run base z) where
  pub last_band : StandsReclaiming x y
  last_band = the_last_band_is_entered layout formats of at_flip x f run y stands next.scanned next.examined

  pub lowest : IsNextCondemned x.segs y.cursor base.0
  lowest = subst (λ from. IsNextCondemned x.segs from base.0) stands.cursor next.lowest

  abbrev t : Segment
  t = lowest.segment

  abbrev freed : List Address
  freed = addresses_of (lost_of x.segs t)

  pub is_next : IsReclaimedNext y t freed
  is_next = next_reclaimed y x.segs (pool_layout y.world) base.0 stands.running last_band.scanned last_band.examined last_band.frees lowest

  swept : IsSwept x.segs x.moves base z.segs z.moves
  swept = next.reclaimed.swept

  -- live reservations keep their words: none lies in a segment whose blocks move, and in any other no word is written
  pub reserved : AreReservationsUnwritten y.world.graph.points y.world.point_memories x.segs.words z.segs.words
  reserved point l r n lies =
      let over = over_base x.segs.segments last_band.frees.stands.order t lowest.listed in
      let its = next.reclaimed in
      let same : t ≡ its.segment = same_Some t its.segment (sym over ∙ ap (segment_over x.segs.segments) lowest.begins ∙ its.over) in
      elim (cases_Bool (is_copying_pool y.world t.pool)) [
        | inl copying ↦
            outside_unwritten x.segs x.moves base z.segs z.moves t lowest.begins over swept n
            (stands.unreserved t lowest.listed lowest.condemned copying point l r n lies)
        | inr staying ↦
            ap (λ ws. slice_index ws n) (its.unwritten (stands.moving.pools.moves_is its.segment.pool its.format its.listed
            ∙ ap (λ (v : Segment). is_copying_pool y.world v.pool) (sym same) ∙ staying))
      ]

  pub trail_is : z.moves.moves ++ end_where (is_last_condemned y.running t.base) ≡ x.moves.moves ++ reclaim_by y t.base freed
  trail_is =
      the_moves_are_the_models y x.segs (pool_layout y.world) base x.moves z.segs z.moves stands.running last_band.scanned
      last_band.examined last_band.frees lowest swept

  -- ---- whether it is the last one

  pub not_last : (left : Addr) → IsNextCondemned x.segs (base.0 + 1) left.0 → is_last_condemned y.running t.base ≡ false
  not_last left other =
      elim (cases_Bool (is_last_condemned y.running t.base)) [
        | inr is ↦ is
        | inl last ↦
            let begins = lowest.begins in
            let above = other.above in
            let at = other.begins in
            let none = (known y x.segs (pool_layout y.world) stands.running last_band.frees t x.segs refl (inl refl)).0 last in
            absurd (true≢false (sym other.condemned ∙ none other.segment other.listed (omega (arith, begins, above, at))))
      ]

  pub is_last : NoneLeft x.segs (base.0 + 1) → is_last_condemned y.running t.base ≡ true
  is_last none =
      (known y x.segs (pool_layout y.world) stands.running last_band.frees t x.segs refl (inl refl)).1
      (λ u held above. none u held (let begins = lowest.begins in omega (arith, begins, above)))

  -- the last one leaves the size of the arena and its limit
  pub last_size : is_last_condemned y.running t.base ≡ true
      → ((world_after_moves y.world (reclaim_by y t.base freed)).grains ≡ y.world.grains)
      × ((world_after_moves y.world (reclaim_by y t.base freed)).limit ≡ y.world.limit)
  last_size last =
      let leads = last_leads y stands.running t freed is_next last in
      (ap (λ (w : World). w.grains) leads, ap (λ (w : World). w.limit) leads)

  -- ---- it goes on

  module _ (more : is_last_condemned y.running t.base ≡ false) where
    on : GoesOnSo y t freed (pool_layout y.world) z.segs
    on =
        (a_reclaim_is_a_unit y x.segs (pool_layout y.world) base x.moves z.segs z.moves stands.running last_band.scanned
        last_band.examined last_band.frees lowest swept reserved).goes_on more

    leads : world_after_moves y.world (reclaim_by y t.base freed) ≡ final_world y stands.running t freed is_next
    leads = goes_on_leads y stands.running t freed is_next more

    collection_is : on.collection ≡ final_collection y stands.running t freed is_next
    collection_is =
        same_Some on.collection (final_collection y stands.running t freed is_next)
        (sym on.runs ∙ ap (λ (w : World). w.collection) leads)

    among : AreAmong x.segs z.segs
    among = are_among x.segs x.moves base z.segs z.moves swept

    moving_on : AreObjectsKnown layout formats of (final_world y stands.running t freed is_next)
    moving_on = record {
      shaped = stands.moving.shaped;
      pools = stands.moving.pools;
      strong_moving = stands.moving.strong_moving;
      none_dependent = (frees y stands.running t freed is_next).unpaired stands.moving.none_dependent;
    }

    room_on : moves_left (collecting_after_reclaim y t.base freed on.collection) + 2 ≤ z.moves.spare
    room_on =
        let left = moves_left_after y stands.running t (lost_of x.segs t) is_next in
        let same =
        ap (λ (w : World). moves_left (record y { world = w; running = on.collection; band = Reclaim; cursor = suc t.base })) leads
        ∙ ap (λ (c : Collection). moves_left (record y {
          world = final_world y stands.running t freed is_next;
          running = c;
          band = Reclaim;
          cursor = suc t.base;
        })) collection_is
        in
        let taken =
        spare_after x.segs x.moves base z.segs z.moves t
        (over_base x.segs.segments last_band.frees.stands.order t lowest.listed) lowest.begins swept
        in
        let before = last_band.room in
        omega (arith, left, same, taken, before)

    reclaiming_on : StandsReclaiming z (collecting_after_reclaim y t.base freed on.collection)
    reclaiming_on = record {
      segments = subst (HasSegmentsOf z.segs) (sym leads) (record {
        same_grains = among.grains ∙ last_band.segments.same_grains;
        same_limit = among.limit ∙ last_band.segments.same_limit;
        same_segments = sym on.frees.segments ∙ ap (λ (w : World). w.segments) leads;
      });
      frees =
          subst (λ (w : World). FreesFor z.segs (world_after_moves y.world (reclaim_by y t.base freed)) on.collection y.colours
          (pool_layout w))
          (sym leads) on.frees;
      scanned = last_band.scanned;
      examined = last_band.examined ∙ sym (ap (λ (c : Collection). c.registered_before) collection_is);
      inside = λ u held.
          subst (λ n. word_of (end_of_segment u) ≤ words_of_grain * (n + 1)) (sym among.grains) (last_band.inside u (among.was u held));
      room = room_on;
    }

    finals_on : AreFinalsOf at_flip (collecting_after_reclaim y t.base freed on.collection) f
    finals_on =
        finals_stay at_flip y (collecting_after_reclaim y t.base freed on.collection) f stands.running
        (reclaim_stays y stands.running t freed is_next on.collection more on.runs).in_place refl
        (ap (λ (c : Collection). c.registered_before) collection_is)
        (ap (λ (w : World). w.graph.registered) leads) (ap (λ (w : World). w.graph.messages) leads) stands.finals

    stands_on : UnitStands layout formats of at_flip z f (reclaimed_at base run) (collecting_after_reclaim y t.base freed on.collection)
    stands_on = record {
      running = (reclaims_shown y stands.running t freed is_next on.collection more on.runs).running;
      same_band = refl;
      next = stands.next;
      before = stands.before ∙ sym (ap (λ (c : Collection). c.registered_before) collection_is);
      finals = finals_on;
      due =
          subst (λ (w : World). AreDue at_flip w.graph.objects w.graph.registered y.next on.collection.registered_before) (sym leads)
          (subst (λ (n : ℕ). AreDue at_flip y.world.graph.objects y.world.graph.registered y.next n)
          (sym (ap (λ (c : Collection). c.registered_before) collection_is)) stands.due);
      cursor = let begins = lowest.begins in omega (arith, begins);
      moving = subst (AreObjectsKnown layout formats of) (sym leads) moving_on;
      unreserved = λ u held condemned copying.
          subst (λ (w : World). IsUnreserved w.graph.points w.point_memories u) (sym leads)
          (stands.unreserved u (among.was u held) (sym (ap (λ bs. bit bs (grain_of u.base)) among.condemned) ∙ condemned)
          (sym (ap (λ (w : World). is_copying_pool w u.pool) leads) ∙ copying));
      band = reclaiming reclaiming_on refl;
    }

    pub done : IsTracedUnitDone layout formats of at_flip x y z f (reclaimed_at base run)
    done = record {
      moves = reclaim_by y t.base freed;
      after = collecting_after_reclaim y t.base freed on.collection;
      unit = on.unit;
      stands = stands_on;
      trail =
          sym (Rattle.std.proofs.lemmas.List.append-nil z.moves.moves)
          ∙ ap (λ b. z.moves.moves ++ end_where b) (sym more) ∙ trail_is;
    }

-- a reclaim after which others are left is a unit of the abstract collector
pub a_reclaim_is_done : {F : Type 0}
    → (layout : F → Layout) (formats : List (Option (Policy F))) (of : ChainsState) (at_flip : List (Option Address)) (x z : Traced)
    (f : FinalsState) (run : RunningState) (y : Collecting) (base left : Addr) → UnitStands layout formats of at_flip x f run y
    → ReclaimsNext layout formats x run base z → IsNextCondemned x.segs (base.0 + 1) left.0
    → IsTracedUnitDone layout formats of at_flip x y z f (reclaimed_at base run)
a_reclaim_is_done layout formats of at_flip x z f run y base left stands next other =
    done layout formats of at_flip x z f run y base stands next
    (not_last layout formats of at_flip x z f run y base stands next left other)

-- ---- the last one

-- the last unit is the abstract collector's
pub the_last_unit_is_done : {F : Type 0}
    → (layout : F → Layout) (formats : List (Option (Policy F))) (of : ChainsState) (at_flip : List (Option Address)) (x z : Traced)
    (f : FinalsState) (run : RunningState) (y : Collecting) → UnitStands layout formats of at_flip x f run y
    → LastUnitTo layout formats x run z → IsLastTracedUnitDone x y z f
the_last_unit_is_done layout formats of at_flip x z f run y stands unit =
    let next = unit.reclaimed in
    let band = last_band layout formats of at_flip x unit.before f run y unit.base stands next in
    let low = lowest layout formats of at_flip x unit.before f run y unit.base stands next in
    let last = is_last layout formats of at_flip x unit.before f run y unit.base stands next unit.last in
    let next_is = is_next layout formats of at_flip x unit.before f run y unit.base stands next in
    let there = reserved layout formats of at_flip x unit.before f run y unit.base stands next in
    let swept = next.reclaimed.swept in
    let freed = addresses_of (lost_of x.segs low.segment) in
    let shown =
    a_reclaim_is_a_unit y x.segs (pool_layout y.world) unit.base x.moves unit.before.segs unit.before.moves stands.running band.scanned
    band.examined band.frees low swept there
    in
    let among = are_among x.segs x.moves unit.base unit.before.segs unit.before.moves swept in
    let sizes = last_size layout formats of at_flip x unit.before f run y unit.base stands next last in
    let end =
    the_last_reclaim_ends y x.segs unit.base x.moves unit.before.segs unit.before.moves stands.running band.scanned band.examined
    band.frees low swept there last
    in
    record {
      moves = reclaim_by y low.segment.base freed;
      last = shown.ends last;
      ended = end.ended;
      stands =
          subst (λ (v : Traced). Rattle.mps_trace_laws.specs.Image.AtRest.StandsAtRest v.segs
          (world_after_moves y.world (reclaim_by y low.segment.base freed))) (sym unit.over) end.stands;
      segments =
          subst (λ (v : Traced). HasSegmentsOf v.segs (world_after_moves y.world (reclaim_by y low.segment.base freed))) (sym unit.over)
          (record {
            same_grains = among.grains ∙ (band.segments.same_grains ∙ sym sizes.0);
            same_limit = among.limit ∙ (band.segments.same_limit ∙ sym sizes.1);
            same_segments = sym end.segments;
          });
      finals =
          subst
          (λ (w : World). HasFinalsOf f (record w {
            addresses = (world_after_moves y.world (reclaim_by y low.segment.base freed)).addresses;
          }))
          (sym (last_leads y stands.running low.segment freed next_is last))
          (finals_at_end at_flip (world_after_moves y.world (reclaim_by y low.segment.base freed)).addresses y.world.graph.registered
          y.world.graph.messages y.next y.running.registered_before f band.examined
          (finals_in_place at_flip (world_after_moves y.world (reclaim_by y low.segment.base freed)).addresses y f stands.running
          (last_stays y stands.running low.segment freed next_is last) stands.finals));
      trail =
          ap (λ (v : Traced). v.moves.moves) unit.over
          ∙ ap (λ b. unit.before.moves.moves ++ end_where b) (sym last)
          ∙ trail_is layout formats of at_flip x unit.before f run y unit.base stands next;
    }
