-- One scan of a barrier: it is of a grey object in the segment, and the state represents the abstract collector after it.
use Rattle.std.proofs.Common.{◌≡◌, ◌∙◌, ◌<◌, true, false, sym, ap, subst, List, [], ◌++◌, Option, Some, arith}
use Rattle.std.proofs.lemmas.Bool.{and_from, or_right, true≢false}
use Rattle.std.specs.Prelude.{◌||◌, Contains}
use Rattle.std.specs.Option.{option_map_or}
use Rattle.mps_base.specs.Address.{Address, Id, Word, address_of_grain, address_of_word, grain_of}
use Rattle.mps_base.specs.Segment.{Segment, is_in_segment}
use Rattle.mps_base.specs.declared.address.Addr.{Addr}
use Rattle.mps_base.specs.declared.moves.Move.{Move}
use Rattle.mps_base.specs.declared.names.Rank.{Rank}
use Rattle.mps_base.specs.declared.names.Rank.TheVariants.{Exact, Weak}
use Rattle.mps_extents.specs.Table.{bit}
use Rattle.mps_format.specs.Layout.{Layout}
use Rattle.mps_format.specs.declared.pool.Policy.{Policy}
use Rattle.mps_seg.specs.Collecting.{lowest_grey_in}
use Rattle.mps_seg.specs.Marks.{MarkTables, grey_of}
use Rattle.mps_trace.specs.GenState.{ChainsState}
use Rattle.mps_trace.specs.Scan.{Scanned}
use Rattle.mps_trace.specs.Splat.{Splatted}
use Rattle.mps_trace.specs.Trace.{Traced}
use Rattle.mps_laws.proofs.Positions.Segments.{among_aligned}
use Rattle.mps_model.specs.Accessing.{address_or_null}
use Rattle.mps_model.specs.Graph.{Graph, Object, contains, entry_at, targets, targets_of, is_automatic, is_weak_object}
use Rattle.mps_model.specs.Collection.{Collection}
use Rattle.mps_model.specs.World.{World, is_live_and}
use Rattle.mps_abstract.specs.Colours.{is_grey}
use Rattle.mps_abstract.specs.Collecting.{Collecting, Running, units_left, is_reclaiming_band, is_tracing_band}
use Rattle.mps_abstract.specs.Units.{BarrierDone, barrier_scans, barrier_splats, collecting_after_scan, is_grey_in, splats_by}
use Rattle.mps_abstract.proofs.Addresses.{address_of-live, id_at-live}
use Rattle.mps_abstract.proofs.KeptPlaces.{running_may_keep}
use Rattle.mps_abstract.proofs.Leavings.{fixes_move}
use Rattle.mps_abstract.proofs.Scanning.{scanned_fewer, scanned_running}
use Rattle.mps_abstract.proofs.Splatting.{are_splatted}
use Rattle.mps_abstract.proofs.WholeCollections.WholePaths.{fixed_same}
use Rattle.mps_abstract.proofs.UnitScans.{scanned_rightly, targets_may_be_fixed}
use Rattle.mps_trace_laws.specs.Image.Memory.{pool_layout}
use Rattle.mps_trace_laws.specs.Image.Image.{AreShaped}
use Rattle.mps_trace_laws.specs.Fix.Scanning.{IsToBeScanned}
use Rattle.mps_trace_laws.specs.Barrier.Laws.{IsNoFurther, StandsForBarrier}
use Rattle.mps_trace_laws.proofs.Barrier.GreyWords.{lowest_is, block_in}
use Rattle.mps_trace_laws.proofs.Fix.Hands.{contains_among}
use Rattle.mps_trace_laws.proofs.Fix.NoFurther.{as_far}
use Rattle.mps_trace_laws.proofs.Fix.Ranks.{scanned_keeps_ranks}
use Rattle.mps_trace_laws.proofs.Units.Entering.{held_in_order}
use Rattle.mps_trace_laws.proofs.Fix.Scanned.{scan_is_a_scan}
use Rattle.mps_trace_laws.proofs.Fix.Referring.{body_refers}
use Rattle.mps_trace_laws.proofs.Splats.WeakScan.{weak_scan}
use Rattle.mps_trace_laws.proofs.Splats.Words.{splats_keep_ranks}

-- a block that is grey by one rank is grey
grey_either : (rank : Rank) (n : Word) (m : MarkTables) → bit (grey_of rank m) n ≡ true → (bit m.exact n || bit m.weak n) ≡ true
grey_either Exact n m e = ap (λ b. b || bit m.weak n) e
grey_either Weak n m e = or_right (bit m.exact n) (bit m.weak n) e

-- a grey object in a segment, which is to be scanned
pub record IsGreyObject (t : Segment) (y : Collecting) (at : Addr) : Type 0 where
  pub id : Id
  pub object : Object
  pub inside : is_grey_in t y id ≡ true
  pub grey : is_grey y.colours id ≡ true
  pub found : IsToBeScanned y id at.0 object

-- it was scanned, as the first step of a barrier. Fewer units are left
pub record IsOneScan {F : Type 0} (layout : F → Layout) (formats : List (Option (Policy F))) (of : ChainsState)
    (at_flip : List (Option Address)) (t : Segment) (x z : Traced) (y : Collecting) : Type 0 where
  pub moves : List Move
  pub after : Collecting
  pub barrier : (ms : List Move) (last : Collecting) → BarrierDone t after ms last → BarrierDone t y (moves ++ ms) last
  pub no_further : IsNoFurther y after
  pub stands : StandsForBarrier layout formats of at_flip z after
  pub trail : z.moves.moves ≡ x.moves.moves ++ moves
  pub fewer : units_left after < units_left y

module _ {F : Type 0} (layout : F → Layout) (formats : List (Option (Policy F))) (of : ChainsState) (at_flip : List (Option Address))
    (t : Segment) (x : Traced) (y : Collecting) (stands : StandsForBarrier layout formats of at_flip x y)
    (held : Contains x.segs.segments t)
  where
    pub aligned : address_of_grain (grain_of t.base) ≡ t.base
    aligned = among_aligned t x.segs.segments stands.traces.state.held.aligned (contains_among x.segs.segments t held)

    -- the lowest grey block of the segment is a grey object
    pub grey_object : (at : Addr) → lowest_grey_in x.segs t ≡ Some at → IsGreyObject t y at
    grey_object at lowest =
        let w = lowest_is x.segs t at lowest in
        let n = w.word in
        let marks = stands.traces.state.image.marks in
        let set = grey_either t.rank n x.segs.marks w.grey in
        let b = marks.marked n (or_right (bit x.segs.marks.kept n) (bit x.segs.marks.exact n || bit x.segs.marks.weak n) set) in
        let begins = (stands.traces.state.image.placed.address b.id b.at b.address).aligned in
        let is = b.is in
        let own : b.at ≡ address_of_word n = omega (arith, begins, is) in
        let there : entry_at y.world.addresses b.id ≡ Some (address_of_word n) = b.address ∙ ap Some own in
        let grey : is_grey y.colours b.id ≡ true =
        marks.grey_there b.id b.at b.address
        ∙ ap (λ k. bit x.segs.marks.exact k || bit x.segs.marks.weak k) (sym b.is) ∙ set
        in
        let o = stands.traces.state.image.placed.exists b.id (address_of_word n) there in
        let automatic : is_automatic o.0 ≡ true =
        sym (ap (λ p. option_map_or is_automatic p false) o.1) ∙ stands.running.grey.grey_automatic b.id grey
        in
        let not_white = stands.running.grey.grey_kept b.id grey in
        record {
          id = b.id;
          object = o.0;
          inside =
              and_from (is_live_and (is_in_segment t) y.world b.id) (is_grey y.colours b.id)
              (ap (λ p. option_map_or (is_in_segment t) p false) there ∙ block_in t aligned n w.inside) grey;
          grey = grey;
          found = record {
            there = there ∙ ap (λ (a : Addr). Some a.0) (sym w.is);
            object = o.1;
            automatic = automatic;
            not_white = not_white;
            live = λ i target tag cell.
                let refers : contains (targets y.world.graph b.id) target ≡ true =
                ap (λ p. contains (option_map_or targets_of p []) target) o.1 ∙ body_refers o.0.body i target tag cell automatic
                in (
                  address_or_null y.world target,
                  address_of-live y.world target
                      (stands.running.coloured.referred_live b.id target (stands.running.grey.grey_live b.id grey) not_white refers),
                );
          };
        }

    -- while objects are traced its scan is one of the abstract collector
    pub one_scan : is_tracing_band y.band ≡ true → (z : Traced) (at : Addr) → lowest_grey_in x.segs t ≡ Some at
        → Scanned layout formats of x at z → IsOneScan layout formats of at_flip t x z y
    one_scan tracing z at lowest is =
        let g = grey_object at lowest in
        let scan = scan_is_a_scan layout formats of at_flip x z y g.id at g.object stands.shaped stands.traces g.found is in
        let right = scanned_rightly y scan.after g.id scan.moves stands.running tracing g.grey scan.fixes in
        let may = targets_may_be_fixed y g.id stands.running tracing g.grey in
        let far = as_far scan.fixes in
        let left = fixes_move scan.fixes (running_may_keep y stands.running) (λ n h. (may n h).0) in
        record {
          moves = scan.moves;
          after = collecting_after_scan scan.after g.id;
          barrier = λ ms last done. barrier_scans g.id tracing g.inside scan.fixes done;
          no_further = record {
            band = far.band;
            cursor = far.cursor;
            next = far.next;
            registered_before = (fixed_same scan.fixes).registered_before;
            registered = ap (λ (h : Graph). h.registered) right.fixed.further.graph;
            messages = ap (λ (h : Graph). h.messages) right.fixed.further.graph;
          };
          stands = record {
            running = right.running;
            band = ap is_reclaiming_band right.fixed.further.band ∙ stands.band;
            shaped =
                subst (λ (h : Graph). AreShaped h.objects (pool_layout scan.after.world)) (sym right.fixed.further.graph)
                (subst (AreShaped y.world.graph.objects) (sym (ap pool_layout left.world)) stands.shaped);
            traces = scan.stands;
            ranked =
                scanned_keeps_ranks layout formats of x z at is (held_in_order z.segs scan.stands.state.held) stands.ranked;
            none_dependent = λ later. absurd (true≢false (sym tracing ∙ ap is_tracing_band (sym right.fixed.further.band) ∙ later));
          };
          trail = scan.trail;
          fewer = right.fewer;
        }

    -- and then it is a sequence of splats
    module _ (later : is_tracing_band y.band ≡ false) where
      pub grey_is_weak : (at : Addr) (g : IsGreyObject t y at) → is_weak_object g.object ≡ true
      grey_is_weak at g =
          sym (ap (λ p. option_map_or is_weak_object p false) g.found.object) ∙ stands.running.band.drained later g.id g.grey

      pub one_splat_scan : (z : Traced) (at : Addr) → lowest_grey_in x.segs t ≡ Some at → Splatted layout formats x at z
          → IsOneScan layout formats of at_flip t x z y
      one_splat_scan z at lowest is =
          let g = grey_object at lowest in
          let scan =
          weak_scan layout formats of at_flip x y stands.traces g.id at g.object g.found g.grey (grey_is_weak at g)
          (stands.none_dependent later) stands.shaped z is
          in
          let there = id_at-live y.world g.id stands.running.different (stands.running.grey.grey_live g.id g.grey) in
          let splatted =
          are_splatted scan.splats stands.running later stands.band g.grey (address_or_null y.world g.id) there
          in
          let left =
          scanned_fewer scan.splatted splatted.running g.id splatted.kept (ap (λ k. is_grey k g.id) splatted.colours ∙ g.grey)
          in
          let same = splatted.left in
          record {
            moves = splats_by y g.id scan.cells;
            after = collecting_after_scan scan.splatted g.id;
            barrier = λ ms last done. barrier_splats g.id later g.inside scan.splats done;
            no_further = record {
              band = scan.but.band;
              cursor = scan.but.cursor;
              next = scan.but.next;
              registered_before = ap (λ (c : Collection). c.registered_before) scan.but.running;
              registered = ap (λ (w : World). w.graph.registered) scan.but.world;
              messages = ap (λ (w : World). w.graph.messages) scan.but.world;
            };
            stands =
                subst (StandsForBarrier layout formats of at_flip z) (sym scan.after_is)
                (record {
                  running = subst Running scan.after_is (scanned_running scan.splatted splatted.running g.id splatted.kept);
                  band = stands.band;
                  shaped = scan.shaped;
                  traces = scan.traces;
                  ranked = splats_keep_ranks layout formats x z at is stands.ranked;
                  none_dependent = stands.none_dependent;
                });
            trail = scan.trail;
            fewer = omega (arith, left, same);
          }
