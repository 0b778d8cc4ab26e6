-- A scan of a weak grey block is a unit of the abstract collector, and each weak grey block can be scanned.
use Rattle.std.proofs.Common.{◌≡◌, ◌∙◌, ◌-◌, ◌<◌, true, false, refl, sym, ap, subst, List, Option}
use Rattle.std.proofs.lemmas.Bool.{or_right}
use Rattle.std.specs.Prelude.{if◌then◌else◌}
use Rattle.std.specs.Option.{option_map_or}
use Rattle.mps_base.specs.Address.{Address, Id, Word, address_of_word}
use Rattle.mps_base.specs.Trail.{Moves}
use Rattle.mps_base.specs.declared.names.Rank.TheVariants.{Exact, Weak}
use Rattle.mps_extents.specs.Table.{bit}
use Rattle.mps_format.specs.Layout.{Layout}
use Rattle.mps_format.specs.declared.pool.Policy.{Policy}
use Rattle.mps_seg.specs.Segs.{SegsState, at_word}
use Rattle.mps_trace.specs.Examine.{IsNoneDue}
use Rattle.mps_trace.specs.GenState.{ChainsState}
use Rattle.mps_trace.specs.Scan.{IsDrained}
use Rattle.mps_trace.specs.Splat.{SplatsOne, CanSplatGrey}
use Rattle.mps_trace.specs.State.{FinalsState}
use Rattle.mps_trace.specs.Trace.{Traced, traced, TraceState}
use Rattle.mps_trace.specs.declared.running.Band.TheVariants as band
use Rattle.mps_trace.specs.declared.running.Running.{Running as RunningState}
use Rattle.mps_model.specs.Graph.{Object, is_weak_object, size_of}
use Rattle.mps_model.specs.World.{is_copying_pool}
use Rattle.mps_abstract.specs.Collecting.{Collecting, IsDrainedIn}
use Rattle.mps_abstract.specs.Collecting as abstract
use Rattle.mps_abstract.specs.Units.{IsUnit, splats, splats_by}
use Rattle.mps_abstract.proofs.Rows.{unit_shown}
use Rattle.mps_trace_laws.specs.Image.Image.{black_cells}
use Rattle.mps_trace_laws.specs.Fix.Housed.{AreHoused, LieInOne, AreStrongMoving, rank_of_object}
use Rattle.mps_trace_laws.specs.Fix.Scanning.{IsToBeScanned}
use Rattle.mps_trace_laws.specs.Fix.Tracing.{TracingStands}
use Rattle.mps_trace_laws.specs.Units.Finals.{AreDue}
use Rattle.mps_trace_laws.specs.Units.Laws.{IsTracedUnitDone}
use Rattle.mps_trace_laws.specs.Units.Standing.{AreCondemnedUnreserved, AreObjectsKnown, StandsTracing, UnitStands, tracing}
use Rattle.mps_trace_laws.proofs.Splats.Alike.{Outline, outlined}
use Rattle.mps_trace_laws.proofs.Splats.CanSplat.{object_can_be_splatted}
use Rattle.mps_trace_laws.proofs.Splats.WeakScan.{IsWeakScan, after_weak_scan, room_for_splats, said_alike, weak_scan}
use Rattle.mps_trace_laws.proofs.Splats.Words.{scan_leaves, splats_keep_ranks}
use Rattle.mps_trace_laws.proofs.Units.Entering.{all_examined, drained_so}
use Rattle.mps_trace_laws.proofs.Units.Scanning.{IsGreyAt, IsGreyWord, IsFound, traced_so, grey_at, scanned_next}

module _ {F : Type 0} (layout : F → Layout) (formats : List (Option (Policy F))) (of : ChainsState) (at_flip : List (Option Address))
    (x : Traced) (f : FinalsState) (run : RunningState) (y : Collecting) (stands : UnitStands layout formats of at_flip x f run y) where
  weak_is_grey : (n : Word) → bit x.segs.marks.weak n ≡ true → IsGreyWord layout formats of at_flip x f run y stands n
  weak_is_grey n is = or_right (bit x.segs.marks.exact n) (bit x.segs.marks.weak n) is

  -- a weak grey block, once nothing is grey that isn't weak
  module _ (n : Word) (is : bit x.segs.marks.weak n ≡ true) (drained : IsDrained x.segs) where
    pub set : IsGreyWord layout formats of at_flip x f run y stands n
    set = weak_is_grey n is

    abbrev g : IsGreyAt y n
    g = grey_at layout formats of at_flip x f run y stands n set

    abbrev pub st : StandsTracing layout formats of at_flip x y
    st = traced_so layout formats of at_flip x f run y stands n set

    abbrev pub found : IsFound layout formats of at_flip x f run y stands n g.id
    found = scanned_next layout formats of at_flip x f run y stands n set g

    abbrev pub o : Object
    o = found.object

    pub drained_in : IsDrainedIn y
    drained_in = drained_so layout formats of at_flip x f run y stands st drained

    pub weak : is_weak_object o ≡ true
    weak = sym (ap (λ p. option_map_or is_weak_object p false) found.found.object) ∙ drained_in g.id g.grey

    pub room : size_of o - 1 < x.moves.spare
    room =
        room_for_splats layout formats of at_flip x y st.traces g.id (at_word n) o found.found g.grey weak

  -- ---- a scan

  module _ (z : Traced) (drained : IsDrained x.segs) (none : IsNoneDue run) (one : SplatsOne layout formats x z) where
    abbrev pub id : Id
    id = (g one.word one.grey drained).id

    abbrev tr : StandsTracing layout formats of at_flip x y
    tr = st one.word one.grey drained

    -- in the weak band
    abbrev pub y₀ : Collecting
    y₀ = record y { band = abstract.Weak }

    pub traces : TracingStands layout formats of at_flip (black_cells y₀.running.condemned y₀.colours) x y₀
    traces =
        let s = tr.traces.state in
        record {
          state = record {
            segments = s.segments;
            held = s.held;
            tables = s.tables;
            covered = s.covered;
            reserved = s.reserved;
            condemned = s.condemned;
            image = s.image;
            pools = s.pools;
            collected = s.collected;
            still = s.still;
            tails = s.tails;
            hands = s.hands;
          };
          room = tr.traces.room;
        }

    pub to_scan : IsToBeScanned y₀ id (address_of_word one.word) (o one.word one.grey drained)
    to_scan =
        let found = (found one.word one.grey drained).found in
        record {
          there = found.there;
          object = found.object;
          automatic = found.automatic;
          not_white = found.not_white;
          live = found.live;
        }

    scan : IsWeakScan layout formats of at_flip x z y₀ id
    scan =
        weak_scan layout formats of at_flip x y₀ traces id (at_word one.word) (o one.word one.grey drained) to_scan
        (g one.word one.grey drained).grey (weak one.word one.grey drained) stands.moving.none_dependent stands.moving.shaped z
        one.splatted

    abbrev after : Collecting
    after = after_weak_scan y₀ id scan.splatted

    abbrev objects : List Object
    objects = after.world.graph.objects

    unit : IsUnit y (splats_by y id scan.cells) after
    unit =
        subst (IsUnit y (splats_by y id scan.cells)) scan.after_is
        (splats id (drained_in one.word one.grey drained) (all_examined layout formats of at_flip x f run y stands none)
        (g one.word one.grey drained).grey scan.splats)

    strong_moving : AreStrongMoving after.world
    strong_moving n copying =
        said_alike (λ v. v.is_weak) false y.world.graph.objects objects n scan.but.outlines
        ∙ stands.moving.strong_moving n
        (sym (said_alike (λ v. is_copying_pool y.world v.pool) false y.world.graph.objects objects n scan.but.outlines) ∙ copying)

    moving_then : AreObjectsKnown layout formats of after.world
    moving_then = record {
      shaped = scan.shaped;
      pools = stands.moving.pools;
      strong_moving = strong_moving;
      none_dependent = stands.moving.none_dependent;
    }

    due_then : AreDue at_flip objects y.world.graph.registered y.next y.running.registered_before
    due_then = record {
      lived = stands.due.lived;
      automatic = λ position n e.
          let old = stands.due.automatic position n e in
          let new = outlined objects y.world.graph.objects n old.0 (sym scan.but.outlines) old.1 in (
            new.object,
            new.there,
            ap (λ (v : Outline). v.is_automatic) new.same ∙ old.2,
          );
    }

    segments_same : z.segs.segments ≡ x.segs.segments
    segments_same = ap (λ (s : SegsState). s.segments) (scan_leaves layout formats x z (at_word one.word) one.splatted)

    housed_then : AreHoused objects z.segs.segments y.world.addresses
    housed_then n at p there object =
        let old = outlined y.world.graph.objects objects n p scan.but.outlines object in
        subst (λ (v : Outline). LieInOne z.segs.segments at v.size (if v.is_weak then Weak else Exact)) old.same
        (subst (λ ss. LieInOne ss at (size_of old.object) (rank_of_object old.object)) (sym segments_same)
        (tr.housed n at old.object there old.there))

    unreserved_then : AreCondemnedUnreserved z.segs (is_copying_pool y.world) y.world.graph.points y.world.point_memories
    unreserved_then =
        subst (λ (s : SegsState). AreCondemnedUnreserved s (is_copying_pool y.world) y.world.graph.points y.world.point_memories)
        (sym (scan_leaves layout formats x z (at_word one.word) one.splatted)) (λ t held is copying. stands.unreserved t held is copying)

    pub splats_done : IsTracedUnitDone layout formats of at_flip x y z f (record run { band = band.Weak })
    splats_done = record {
      moves = splats_by y id scan.cells;
      after = after;
      unit = unit;
      stands = record {
        running = (unit_shown stands.running unit).running;
        same_band = refl;
        next = stands.next;
        before = stands.before;
        finals = record { registrations = stands.finals.registrations; waiting = stands.finals.waiting };
        due = due_then;
        cursor = stands.cursor;
        moving = moving_then;
        unreserved = unreserved_then;
        band = tracing (record {
          traces = scan.traces;
          band = refl;
          housed = housed_then;
          ranked = splats_keep_ranks layout formats x z (at_word one.word) one.splatted tr.ranked;
        });
      };
      trail = scan.trail;
    }

-- each weak grey block can be scanned
pub splats_are_ready : {F : Type 0}
    → (layout : F → Layout) (t : TraceState F) (s : SegsState) (m : Moves) (at_flip : List (Option Address)) (f : FinalsState)
    (run : RunningState) (y : Collecting) → UnitStands layout t.formats t.chains at_flip (traced t s m) f run y → IsDrained s
    → CanSplatGrey layout t s m
splats_are_ready layout t s m at_flip f run y stands drained n grey =
    let x = traced t s m in
    let its = found layout t.formats t.chains at_flip x f run y stands n grey drained in
    let st = st layout t.formats t.chains at_flip x f run y stands n grey drained in
    object_can_be_splatted layout t s m at_flip (black_cells y.running.condemned y.colours) y _ (at_word n) its.object
    stands.moving.none_dependent stands.moving.shaped st.traces its.found
    (room layout t.formats t.chains at_flip x f run y stands n grey drained)
