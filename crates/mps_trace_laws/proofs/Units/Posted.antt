-- The examination of a registration is a unit after which the state stands, whether its object was found or posted.
use Rattle.std.proofs.Common.{◌≡◌, ◌∙◌, ℕ, suc, ◌+◌, ◌≤◌, true, refl, sym, ap, subst, List, [], ◌∷◌, ◌++◌, Option, Some, None, inl, inr, arith, ◌-◌}
use Rattle.std.proofs.lemmas.Bool.{cases_lt, false≢true}
use Rattle.std.specs.Prelude.{IsTrue}
use Rattle.mps_base.specs.Address.{Address, Id}
use Rattle.mps_base.specs.Trail.{with_move}
use Rattle.mps_base.specs.declared.address.Addr.{Addr}
use Rattle.mps_base.specs.declared.moves.Move.TheVariants.{Post}
use Rattle.mps_format.specs.Layout.{Layout}
use Rattle.mps_format.specs.declared.pool.Policy.{Policy}
use Rattle.mps_trace.specs.GenState.{ChainsState}
use Rattle.mps_trace.specs.State.{FinalsState, with_registered_at, finals_after_post}
use Rattle.mps_trace.specs.Examine.{IsOneDue, registration_of, running_after_found, running_after_post}
use Rattle.mps_trace.specs.Finding.{FindsTo}
use Rattle.mps_trace.specs.Scan.{IsDrained}
use Rattle.mps_trace.specs.Trace.{Traced, KeepsTo}
use Rattle.mps_trace.specs.declared.running.Running.{Running as RunningState}
use Rattle.mps_model.specs.Collection.{Collection}
use Rattle.mps_model.specs.Graph.{Graph, Object, without_first}
use Rattle.mps_model.specs.World.{is_copying_pool, is_live}
use Rattle.mps_abstract.specs.Colours.{is_black}
use Rattle.mps_abstract.specs.Collecting.{Collecting, Final}
use Rattle.mps_abstract.specs.Fixing.{fixes_no_more, kept_by}
use Rattle.mps_abstract.specs.Units.{collecting_after_post}
use Rattle.mps_abstract.proofs.Kept.{IsKept, keeps_leaves}
use Rattle.mps_abstract.proofs.Lists.{contains_at, contains_cases}
use Rattle.mps_abstract.proofs.PostLegal.{stands_first}
use Rattle.mps_abstract.proofs.Registrations.{StandsFirst, slice_get-without_before, slice_get-without_after}
use Rattle.mps_abstract.proofs.Rows.{unit_shown}
use Rattle.mps_trace_laws.specs.Image.Image.{black_cells}
use Rattle.mps_trace_laws.specs.Fix.Housed.{AreHoused, AreLive}
use Rattle.mps_trace_laws.specs.Fix.Ranks.{AreMarksRanked}
use Rattle.mps_trace_laws.specs.Fix.Room.{moves_left}
use Rattle.mps_trace_laws.specs.Fix.Tracing.{TracingStands}
use Rattle.mps_trace_laws.specs.Units.Examining.{IsOneDueIn}
use Rattle.mps_trace_laws.specs.Units.Finals.{AreDue}
use Rattle.mps_trace_laws.specs.Units.Laws.{IsTracedUnitDone}
use Rattle.mps_trace_laws.specs.Units.Standing.{AreCondemnedUnreserved, StandsTracing, UnitStands, AreObjectsKnown, tracing}
use Rattle.mps_trace_laws.proofs.Image.Scanning.{fix_leaves}
use Rattle.mps_trace_laws.proofs.Fix.CellLists.{fewer_done}
use Rattle.mps_trace_laws.proofs.Fix.Housed.{fixes_keep_housed}
use Rattle.mps_trace_laws.proofs.Fix.Ranks.{keeps_ranks}
use Rattle.mps_trace_laws.proofs.Units.Entering.{due_before, due_is_traced, drained_so, held_in_order}
use Rattle.mps_trace_laws.proofs.Units.Examining.{examinations_are_units, IsPostedNext, next_is_posted}
use Rattle.mps_trace_laws.proofs.Units.Still.{IsStill, kept_is_still, unreserved_still}

-- ---- what is due

-- after a registration was passed
due_passed : (at_flip : List (Option Address)) (objects : List Object) (registered : List Id) (next before : ℕ)
    → AreDue at_flip objects registered next before → AreDue at_flip objects registered (suc next) before
due_passed at_flip objects registered next before due = record {
  lived = λ position id up below e. due.lived position id (omega (arith, up)) below e;
  automatic = due.automatic;
}

-- and after one was posted
due_posted : (at_flip : List (Option Address)) (objects : List Object) (registered : List Id) (id : Id) (next before : ℕ)
    → StandsFirst registered id next → AreDue at_flip objects registered next before
    → AreDue at_flip objects (without_first registered id) next (before - 1)
due_posted at_flip objects registered id next before first due = record {
  lived = λ position n up below e.
      due.lived (suc position) n (omega (arith, up)) (omega (arith, below)) (sym (slice_get-without_after registered id next position first
      up) ∙ e);
  automatic = λ position n e. elim (cases_lt position next) [
    | inl less ↦ due.automatic position n (sym (slice_get-without_before registered id next position first less) ∙ e)
    | inr most ↦ due.automatic (suc position) n (sym (slice_get-without_after registered id next position first most) ∙ e)
  ];
}

module _ {F : Type 0} (layout : F → Layout) (formats : List (Option (Policy F))) (of : ChainsState) (at_flip : List (Option Address))
    (x : Traced) (f : FinalsState) (run : RunningState) (y : Collecting) (stands : UnitStands layout formats of at_flip x f run y)
    (drained : IsDrained x.segs) (due : IsOneDue run) where
  st : StandsTracing layout formats of at_flip x y
  st = due_is_traced layout formats of at_flip x f run y stands due

  pub one_due : IsOneDueIn at_flip y f
  one_due = record {
    running = stands.running;
    finals = stands.finals;
    due = stands.due;
    drained = drained_so layout formats of at_flip x f run y stands st drained;
    before = due_before layout formats of at_flip x f run y stands due;
  }

  -- ---- its object was found

  abbrev y₁ : Collecting
  y₁ = record y { band = Final; next = suc y.next }

  traces_on : TracingStands layout formats of at_flip (black_cells y₁.running.condemned y₁.colours) x y₁
  traces_on =
      let s = st.traces.state in
      record {
        state = record {
          segments = s.segments;
          held = s.held;
          tables = s.tables;
          covered = s.covered;
          reserved = s.reserved;
          condemned = s.condemned;
          image = s.image;
          pools = s.pools;
          collected = s.collected;
          still = s.still;
          tails = s.tails;
          hands = s.hands;
        };
        room = st.traces.room;
      }

  module _ (to : Addr) (found : FindsTo layout formats x.segs (registration_of f run.next) (Some to)) where
    found_next : FindsTo layout formats x.segs (registration_of f y.next) (Some to)
    found_next = subst (λ (n : ℕ). FindsTo layout formats x.segs (registration_of f n) (Some to)) stands.next found

    pub examination_done : IsTracedUnitDone layout formats of at_flip x y x (with_registered_at f run.next to.0) (running_after_found run)
    examination_done =
        let shown =
        examinations_are_units layout formats of at_flip (black_cells y.running.condemned y.colours) x y f to stands.moving.shaped
        st.traces one_due found_next
        in
        record {
          moves = [];
          after = y₁;
          unit = shown.0;
          stands = record {
            running = (unit_shown stands.running shown.0).running;
            same_band = refl;
            next = let same = stands.next in omega (arith, same);
            before = stands.before;
            finals = subst (λ (n : ℕ). Rattle.mps_trace_laws.specs.Units.Standing.AreFinalsOf at_flip y₁ (with_registered_at f n to.0))
                (sym stands.next) shown.1;
            due = due_passed at_flip y.world.graph.objects y.world.graph.registered y.next y.running.registered_before stands.due;
            cursor = stands.cursor;
            moving = stands.moving;
            unreserved = stands.unreserved;
            band = tracing (record { traces = traces_on; band = refl; housed = st.housed; ranked = st.ranked });
          };
          trail = sym (Rattle.std.proofs.lemmas.List.append-nil x.moves.moves);
        }

  -- ---- it was white

  module _ (z : Traced) (to : Addr) (nowhere : FindsTo layout formats x.segs (registration_of f run.next) None)
      (kept : KeepsTo layout formats of x (registration_of f run.next) z to) where
    posted : IsPostedNext layout formats of at_flip (black_cells y.running.condemned y.colours) x z y f to
    posted =
        next_is_posted F layout formats of at_flip (black_cells y.running.condemned y.colours) x y f stands.moving.shaped st.traces one_due
        z to (subst (λ (n : ℕ). FindsTo layout formats x.segs (registration_of f n) None) stands.next nowhere)
        (subst (λ (n : ℕ). KeepsTo layout formats of x (registration_of f n) z to) stands.next kept)

    abbrev id : Id
    id = posted.id

    abbrev regs : List Id
    regs = y.world.graph.registered

    abbrev y' : Collecting
    y' = kept_by y id posted.step.moves posted.kept.c

    abbrev after : Collecting
    after = collecting_after_post y' id

    abbrev z' : Traced
    z' = record z { moves = with_move z.moves (Post to) }

    live : is_live y.world id ≡ true
    live = stands.running.examined.live_registered id (contains_at regs y.next id posted.next.registered)

    stays : IsStill layout formats of y y'
    stays = kept_is_still layout formats of y id posted.step.moves posted.kept.c stands.running live posted.kept.keep

    left : IsKept y.world y.running id y'.world posted.kept.c
    left = keeps_leaves y.world y.running id stands.running.runs stands.running.different live posted.kept.keep

    first : StandsFirst regs id y.next
    first = stands_first y stands.running id posted.next posted.white

    before_then : posted.kept.c.registered_before ≡ y.running.registered_before
    before_then = ap (λ (c : Collection). c.registered_before) left.running

    due_then : AreDue at_flip after.world.graph.objects after.world.graph.registered after.next after.running.registered_before
    due_then =
        subst (λ (g : Graph). AreDue at_flip g.objects (without_first g.registered id) y.next after.running.registered_before)
        (sym stays.graph)
        (subst (λ (n : ℕ). AreDue at_flip y.world.graph.objects (without_first regs id) y.next (n - 1)) (sym before_then)
        (due_posted at_flip y.world.graph.objects regs id y.next y.running.registered_before first stands.due))

    moving_then : AreObjectsKnown layout formats of after.world
    moving_then = let m = stays.moving stands.moving in record {
      shaped = m.shaped;
      pools = m.pools;
      strong_moving = m.strong_moving;
      none_dependent = m.none_dependent;
    }

    unreserved_then : AreCondemnedUnreserved z.segs (is_copying_pool after.world) after.world.graph.points after.world.point_memories
    unreserved_then =
        let s = st.traces.state in
        unreserved_still layout formats of x.segs z.segs y y' s.held s.segments.same_segments s.condemned posted.state.held
        posted.state.segments.same_segments posted.state.condemned stays stands.unreserved

    is_alone : AreLive (id ∷ []) y.world
    is_alone n among =
        elim (contains_cases id [] n among) [
          | inl same ↦ subst (λ (m : Id). is_live y.world m ≡ true) same live
          | inr none ↦ absurd (false≢true none)
        ]

    housed_then : AreHoused after.world.graph.objects z.segs.segments after.world.addresses
    housed_then =
        subst (λ ss. AreHoused after.world.graph.objects ss after.world.addresses) (sym posted.state.segments.same_segments)
        (subst (λ (u : Collecting). AreHoused u.world.graph.objects u.world.segments u.world.addresses) posted.kept.is
        (fixes_keep_housed layout formats of at_flip (black_cells y.running.condemned y.colours) x y posted.step.after (id ∷ [])
        (posted.step.moves ++ []) st.traces stands.moving.strong_moving st.housed is_alone
        (posted.step.fixes [] [] posted.step.after fixes_no_more)))

    ranked_then : AreMarksRanked z.segs
    ranked_then = keeps_ranks layout formats of kept (held_in_order z.segs posted.state.held) st.ranked

    -- the cells of black objects are fixed: no object is black that wasn't
    black_before : (n : Id) → IsTrue (is_black after.running.condemned after.colours n) → IsTrue (is_black y.running.condemned y.colours n)
    black_before n is =
        (fix_leaves y.running.condemned y.world.addresses posted.step.after.world.addresses y.colours posted.step.after.colours (Some id)
        posted.step.step).black n
        (subst (λ (u : Collecting). IsTrue (is_black y.running.condemned u.colours n)) (sym posted.kept.is)
        (subst (λ (ids : List Id). IsTrue (is_black ids after.colours n)) (ap (λ (c : Collection). c.condemned) left.running) is))

    room_then : moves_left after + 2 ≤ z'.moves.spare
    room_then =
        let room = posted.step.room_to_post posted.white in
        let same = ap (λ (u : Collecting). moves_left u) posted.kept.is in
        omega (arith, room, same)

    traces_then : TracingStands layout formats of at_flip (black_cells after.running.condemned after.colours) z' after
    traces_then =
        fewer_done layout formats of at_flip (black_cells y.running.condemned y.colours)
        (black_cells after.running.condemned after.colours) z' after (λ n i is. black_before n is)
        (record { state = posted.state; room = room_then })

    pub post_done : IsTracedUnitDone layout formats of at_flip x y z' (finals_after_post (with_registered_at f run.next to.0) run.next)
        (running_after_post run)
    post_done = record {
      moves = posted.step.moves ++ Post to ∷ [];
      after = after;
      unit = posted.unit;
      stands = record {
        running = (unit_shown stands.running posted.unit).running;
        same_band = refl;
        next = stands.next;
        before = let before = stands.before in omega (arith, before, before_then);
        finals =
            subst (λ (n : ℕ). Rattle.mps_trace_laws.specs.Units.Standing.AreFinalsOf at_flip after
            (finals_after_post (with_registered_at f n to.0) n)) (sym stands.next) posted.finals;
        due = due_then;
        cursor = stands.cursor;
        moving = moving_then;
        unreserved = unreserved_then;
        band = tracing (record {
          traces = traces_then;
          band = refl;
          housed = housed_then;
          ranked = ranked_then;
        });
      };
      trail = posted.trail;
    }
