-- A scan of a grey block is a unit of the abstract collector, and each grey block can be scanned.
use Rattle.std.proofs.Common.{◌≡◌, ◌∙◌, ℕ, true, false, sym, ap, subst, List, [], Option, Some, inl, inr, arith}
use Rattle.std.proofs.lemmas.Bool.{cases_Bool, false≢true, or_right}
use Rattle.std.specs.Prelude.{◌||◌}
use Rattle.std.specs.Option.{option_map_or}
use Rattle.mps_base.specs.Address.{Address, Id, Word, word_of, address_of_word}
use Rattle.mps_extents.specs.Table.{bit}
use Rattle.mps_format.specs.Layout.{Layout}
use Rattle.mps_trace.specs.GenState.{ChainsState}
use Rattle.mps_seg.specs.Segs.{at_word, SegsState}
use Rattle.mps_model.specs.Accessing.{address_or_null}
use Rattle.mps_model.specs.Graph.{Graph, Object, contains, entry_at, targets, targets_of, is_automatic, is_weak_object}
use Rattle.mps_model.specs.World.{is_copying_pool, object_is}
use Rattle.mps_abstract.specs.Colours.{is_grey}
use Rattle.mps_abstract.specs.Collecting.{Collecting, is_tracing_band, is_reclaiming_band}
use Rattle.mps_abstract.specs.Units.{scans, collecting_after_scan}
use Rattle.mps_abstract.proofs.Addresses.{address_of-live}
use Rattle.mps_abstract.proofs.UnitScans.{scans_shown, targets_may_be_fixed}
use Rattle.mps_abstract.proofs.WholeCollections.WholePaths.{fixed_same}
use Rattle.mps_trace_laws.specs.Image.Image.{black_cells}
use Rattle.mps_trace.specs.Scan.{ScansOne, CanScanGrey}
use Rattle.mps_trace.specs.Trace.{Traced, traced, TraceState}
use Rattle.mps_trace.specs.declared.running.Running.{Running as RunningState}
use Rattle.mps_trace_laws.specs.Fix.Housed.{AreHoused, AreLive}
use Rattle.mps_trace_laws.specs.Fix.Ranks.{AreMarksRanked}
use Rattle.mps_trace_laws.specs.Fix.Scanning.{IsToBeScanned, IsScan}
use Rattle.mps_trace_laws.proofs.Fix.Referring.{body_refers}
use Rattle.mps_trace_laws.proofs.Fix.CanScan.{object_can_be_scanned}
use Rattle.mps_trace_laws.proofs.Fix.Housed.{fixes_keep_housed}
use Rattle.mps_trace_laws.proofs.Fix.Ranks.{scan_keeps_ranks}
use Rattle.mps_trace_laws.proofs.Fix.Scanned.{scan_is_a_scan}
use Rattle.mps_abstract.proofs.KeptPlaces.{running_may_keep, fixes_stay}
use Rattle.mps_trace.specs.State.{FinalsState}
use Rattle.mps_trace_laws.specs.Units.Finals.{AreDue}
use Rattle.mps_trace_laws.proofs.Units.Finals.{finals_stay}
use Rattle.mps_trace_laws.proofs.Units.Entering.{held_in_order, marks_show}
use Rattle.mps_trace_laws.proofs.Units.Still.{IsStill, still, unreserved_still}
use Rattle.mps_trace_laws.specs.Units.Standing.{AreCondemnedUnreserved, AreFinalsOf, StandsTracing, UnitStands, tracing, reclaiming}
use Rattle.mps_trace_laws.specs.Units.Laws.{IsTracedUnitDone, AreScansDone}
use Rattle.mps_format.specs.declared.pool.Policy.{Policy}
use Rattle.mps_base.specs.Trail.{Moves}

-- ---- the object of a grey word

pub record IsGreyAt (y : Collecting) (n : Word) : Type 0 where
  pub id : Id
  pub there : entry_at y.world.addresses id ≡ Some (address_of_word n)
  pub grey : is_grey y.colours id ≡ true

-- ---- a grey object

module _ {F : Type 0} (layout : F
    → Layout) (formats : List (Option (Policy F))) (of : ChainsState) (at_flip : List (Option Address)) (x : Traced)
    (f : FinalsState) (run : RunningState) (y : Collecting) (stands : UnitStands layout formats of at_flip x f run y) where
  -- a block at a word is grey
  abbrev pub IsGreyWord : Word → Type 0
  IsGreyWord n = (bit x.segs.marks.exact n || bit x.segs.marks.weak n) ≡ true

  pub exact_is_grey : (n : Word) → bit x.segs.marks.exact n ≡ true → IsGreyWord n
  exact_is_grey n is = ap (λ b. b || bit x.segs.marks.weak n) is

  -- where a block is grey objects are traced
  pub traced_so : (n : Word) → IsGreyWord n → StandsTracing layout formats of at_flip x y
  traced_so n set =
      elim stands.band [
        | tracing st ↦ st
        | reclaiming st last ↦
            let marks = st.frees.stands.image.marks in
            let b = marks.marked n (or_right (bit x.segs.marks.kept n) (bit x.segs.marks.exact n || bit x.segs.marks.weak n) set) in
            absurd (false≢true (sym (st.scanned b.id) ∙ marks.grey_there b.id b.at b.address
            ∙ ap (λ w. bit x.segs.marks.exact w || bit x.segs.marks.weak w) (sym b.is) ∙ set))
      ]

  -- it is of a grey object
  pub grey_at : (n : Word) → IsGreyWord n → IsGreyAt y n
  grey_at n set =
      let st = traced_so n set in
      let marks = st.traces.state.image.marks in
      let b = marks.marked n (or_right (bit x.segs.marks.kept n) (bit x.segs.marks.exact n || bit x.segs.marks.weak n) set) in
      let aligned = (st.traces.state.image.placed.address b.id b.at b.address).aligned in
      let is = b.is in
      let own : b.at ≡ address_of_word n = omega (arith, aligned, is) in
      record {
        id = b.id;
        there = b.address ∙ ap Some own;
        grey =
            marks.grey_there b.id b.at b.address
            ∙ ap (λ w. bit x.segs.marks.exact w || bit x.segs.marks.weak w) (sym b.is) ∙ set;
      }

  -- which is to be scanned
  pub record IsFound (n : Word) (id : Id) : Type 0 where
    pub object : Object
    pub found : IsToBeScanned y id (address_of_word n) object

  pub scanned_next : (n : Word) → IsGreyWord n → (g : IsGreyAt y n) → IsFound n g.id
  scanned_next n set g =
      let st = traced_so n set in
      let o = st.traces.state.image.placed.exists g.id (address_of_word n) g.there in
      let automatic : is_automatic o.0 ≡ true =
      sym (ap (λ p. option_map_or is_automatic p false) o.1) ∙ stands.running.grey.grey_automatic g.id g.grey
      in
      let not_white = stands.running.grey.grey_kept g.id g.grey in
      record {
        object = o.0;
        found = record {
          there = g.there;
          object = o.1;
          automatic = automatic;
          not_white = not_white;
          live = λ i t tag cell.
              let refers : contains (targets y.world.graph g.id) t ≡ true =
              ap (λ p. contains (option_map_or targets_of p []) t) o.1 ∙ body_refers o.0.body i t tag cell automatic
              in (
                address_or_null y.world t,
                address_of-live y.world t
                    (stands.running.coloured.referred_live g.id t (stands.running.grey.grey_live g.id g.grey) not_white refers),
              );
        };
      }

  -- ---- a scan

  module _ (z : Traced) (one : ScansOne layout formats of x z) where
    set : IsGreyWord one.word
    set = exact_is_grey one.word one.grey

    abbrev g : IsGreyAt y one.word
    g = grey_at one.word set

    abbrev st : StandsTracing layout formats of at_flip x y
    st = traced_so one.word set

    -- its object isn't weak, so it isn't scanned in the weak band
    strong : object_is is_weak_object y.world g.id ≡ false
    strong =
        (marks_show layout formats of at_flip x y stands.running st).strong g.id (address_of_word one.word) g.there
        (ap (bit x.segs.marks.exact) (let same : word_of (address_of_word one.word) ≡ one.word = omega arith in same) ∙ one.grey)

    tracing_band : is_tracing_band y.band ≡ true
    tracing_band = elim (cases_Bool (is_tracing_band y.band)) [
      | inl is ↦ is
      | inr isnt ↦ absurd (false≢true (sym strong ∙ stands.running.band.drained isnt g.id g.grey))
    ]

    scan : IsScan layout formats of at_flip x z y g.id
    scan =
        let found = scanned_next one.word set g in
        scan_is_a_scan layout formats of at_flip x z y g.id (at_word one.word) found.object stands.moving.shaped st.traces found.found
        one.scanned

    stays : IsStill layout formats of y scan.after
    stays =
        still layout formats of scan.fixes stands.running tracing_band
        (targets_may_be_fixed y g.id stands.running tracing_band g.grey)

    -- what it refers to is live
    live : AreLive (targets y.world.graph g.id) y.world
    live id among = (targets_may_be_fixed y g.id stands.running tracing_band g.grey id among).0

    housed : AreHoused scan.after.world.graph.objects z.segs.segments scan.after.world.addresses
    housed =
        subst (λ ss. AreHoused scan.after.world.graph.objects ss scan.after.world.addresses)
        (sym scan.stands.state.segments.same_segments)
        (fixes_keep_housed layout formats of at_flip (black_cells y.running.condemned y.colours) x y scan.after
        (targets y.world.graph g.id) scan.moves st.traces stands.moving.strong_moving st.housed live scan.fixes)

    ranked : AreMarksRanked z.segs
    ranked = scan_keeps_ranks layout formats of x z one (held_in_order z.segs scan.stands.state.held) st.ranked

    unreserved_then : AreCondemnedUnreserved z.segs (is_copying_pool scan.after.world) scan.after.world.graph.points
        scan.after.world.point_memories
    unreserved_then =
        unreserved_still layout formats of x.segs z.segs y scan.after st.traces.state.held st.traces.state.segments.same_segments
        st.traces.state.condemned scan.stands.state.held scan.stands.state.segments.same_segments scan.stands.state.condemned stays
        stands.unreserved

    finals : AreFinalsOf at_flip (collecting_after_scan scan.after g.id) f
    finals =
        finals_stay at_flip y (collecting_after_scan scan.after g.id) f stands.running
        (fixes_stay scan.fixes (running_may_keep y stands.running) live).in_place stays.next (fixed_same scan.fixes).registered_before
        (ap (λ (h : Graph). h.registered) stays.graph) (ap (λ (h : Graph). h.messages) stays.graph) stands.finals

    pub scan_done : IsTracedUnitDone layout formats of at_flip x y z f run
    scan_done = record {
      moves = scan.moves;
      after = collecting_after_scan scan.after g.id;
      unit = scans g.id g.grey strong scan.fixes;
      stands = record {
        running = (scans_shown y scan.after g.id scan.moves stands.running g.grey strong scan.fixes).running;
        same_band = stands.same_band ∙ sym stays.band;
        next = stands.next ∙ sym stays.next;
        before = stands.before ∙ sym (fixed_same scan.fixes).registered_before;
        finals = finals;
        due =
            subst (λ (n : ℕ). AreDue at_flip scan.after.world.graph.objects scan.after.world.graph.registered n
            scan.after.running.registered_before) (sym stays.next)
            (subst (λ (n : ℕ). AreDue at_flip scan.after.world.graph.objects scan.after.world.graph.registered y.next n)
            (sym (fixed_same scan.fixes).registered_before)
            (subst (λ (h : Graph). AreDue at_flip h.objects h.registered y.next y.running.registered_before) (sym stays.graph)
            stands.due));
        cursor = stands.cursor ∙ sym stays.cursor;
        moving = stays.moving stands.moving;
        unreserved = unreserved_then;
        band = tracing (record {
          traces = scan.stands;
          band = ap is_reclaiming_band stays.band ∙ st.band;
          housed = housed;
          ranked = ranked;
        });
      };
      trail = scan.trail;
    }

-- each scan of a grey block is a unit of the abstract collector
pub scans_are_done : {F : Type 0}
    → (layout : F → Layout) (formats : List (Option (Policy F))) (of : ChainsState) (at_flip : List (Option Address))
    → AreScansDone layout formats of at_flip
scans_are_done layout formats of at_flip x z f run y stands one = scan_done layout formats of at_flip x f run y stands z one

-- each grey block can be scanned
pub scans_are_ready : {F : Type 0}
    → (layout : F → Layout) (t : TraceState F) (s : SegsState) (m : Moves) (at_flip : List (Option Address)) (f : FinalsState)
    (run : RunningState) (y : Collecting) → UnitStands layout t.formats t.chains at_flip (traced t s m) f run y → CanScanGrey layout t s m
scans_are_ready layout t s m at_flip f run y stands n grey =
    let set = exact_is_grey layout t.formats t.chains at_flip (traced t s m) f run y stands n grey in
    let g = grey_at layout t.formats t.chains at_flip (traced t s m) f run y stands n set in
    let found = scanned_next layout t.formats t.chains at_flip (traced t s m) f run y stands n set g in
    let st = traced_so layout t.formats t.chains at_flip (traced t s m) f run y stands n set in
    object_can_be_scanned layout t s m at_flip (black_cells y.running.condemned y.colours) y g.id (at_word n) found.object
    stands.moving.shaped st.traces found.found
