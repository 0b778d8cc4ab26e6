-- A scan of a block is one of its object, which is black then.
use Rattle.std.proofs.Common.{◌≡◌, ◌∙◌, ℕ, ◌+◌, ◌-◌, ◌≤◌, refl, sym, ap, List, [], ◌++◌, length, slice_index, Option, Some, subst, inl, arith}
use Rattle.std.proofs.lemmas.Bool.{false≢true, and_from, eq-eqb, lt-ltb, or_left, or_right}
use Rattle.std.proofs.lemmas.List.{append-nil, take_all, length-set}
use Rattle.std.proofs.lemmas.Option.{same_Some}
use Rattle.std.specs.Option.{option_map_or}
use Rattle.std.specs.Prelude.{IsTrue, ◌==◌, ◌&&◌, nat_lt, slice_get, take}
use Rattle.mps_base.specs.Address.{Address, Id, word_of}
use Rattle.mps_base.specs.Segment.{Segment}
use Rattle.mps_base.specs.declared.address.Addr.{Addr}
use Rattle.mps_format.specs.Layout.{Layout}
use Rattle.mps_trace.specs.GenState.{ChainsState}
use Rattle.mps_seg.specs.Collecting.{blackening}
use Rattle.mps_model.specs.Checked.{head_of_body}
use Rattle.mps_model.specs.Graph.{Body, Automatic, Manual, Graph, Object, targets_of, targets_of_body, targets_of_cells, size_of, size_of_body, is_automatic_body}
use Rattle.mps_model.specs.World.{live_ids}
use Rattle.mps_abstract.specs.Colours.{is_black}
use Rattle.mps_abstract.specs.Collecting.{Collecting}
use Rattle.mps_abstract.specs.Fixing.{Fixes, fixes_no_more}
use Rattle.mps_trace_laws.specs.Image.Memory.{memory_in, all_cells, pool_layout}
use Rattle.mps_trace_laws.specs.Image.Image.{CellSet, black_cells, AreShaped}
use Rattle.mps_trace_laws.specs.Image.Fixing.{Target}
use Rattle.mps_trace_laws.proofs.Image.Scanning.{scan_ends}
use Rattle.mps_trace_laws.proofs.Image.SegmentMarks.{blackening_clears}
use Rattle.mps_trace.specs.Trace.{Traced}
use Rattle.mps_trace.specs.Scan.{ScansTo, begins, goes_on, ScansAll, Scanned}
use Rattle.mps_trace_laws.specs.Fix.Tracing.{TracingStands, setting_of}
use Rattle.mps_trace_laws.specs.Fix.Scanning.{with_cells, IsToBeScanned, IsScannedTo, IsScan, AScanIsAScan}
use Rattle.mps_trace_laws.proofs.Fix.Found as found
use Rattle.mps_trace_laws.proofs.Fix.ScanRun.{run_to, pass_all, inside}
use Rattle.mps_trace_laws.proofs.Fix.SplatsLeft.{splats_scanned}
use Rattle.mps_format.specs.declared.pool.Policy.{Policy}

-- what all cells of a block refer to
targets_are : (b : Body) → IsTrue (is_automatic_body b) → targets_of_cells (take (size_of_body b) (all_cells b)) ≡ targets_of_body b
targets_are (Automatic head cells is_weak) is = ap targets_of_cells (take_all (length cells) cells (omega arith))
targets_are (Manual words) is = absurd (false≢true is)

module _ (F : Type 0) (layout : F → Layout) (formats : List (Option (Policy F))) (of : ChainsState) (at_flip : List (Option Address))
    (x : Traced) (y : Collecting) (shaped : AreShaped y.world.graph.objects (pool_layout y.world))
    (stands : TracingStands layout formats of at_flip (black_cells y.running.condemned y.colours) x y) (holder : Id) (at : Addr)
    (o : Object)
    (scan : IsToBeScanned y holder at.0 o) where
  abbrev done : CellSet
  done = black_cells y.running.condemned y.colours

  abbrev f : Layout
  f = pool_layout y.world o.pool

  abbrev head : ℕ
  head = head_of_body o.body

  pub target : Target (setting_of x.segs at_flip y) y.world.addresses holder at.0 at.0 o
  target = record { means = inl scan.there; there = scan.there; object = scan.object; automatic = scan.automatic; read = refl }

  at_most : {from : ℕ} {z : Traced} → ScansTo layout f formats of head at x from z → from ≤ size_of o
  at_most begins = omega arith
  at_most (goes_on from cell earlier first fixed) =
      let lt = inside F layout formats of at_flip done x y shaped stands holder at o scan cell first.reference in omega (arith, lt)

  whole_run : (z : Traced) → ScansAll layout f formats of head at x z
      → IsScannedTo layout formats of at_flip done x z y holder o (size_of o)
  whole_run z all =
      let low = at_most all.run in
      subst (IsScannedTo layout formats of at_flip done x z y holder o) (let e : all.from + (size_of o - all.from) ≡ size_of o = omega
      (arith, low) in e)
      (pass_all F layout formats of at_flip done x y shaped stands holder at o scan z (size_of o - all.from) all.from
      (run_to F layout formats of at_flip done x y shaped stands holder at o scan all.run) (λ k above below. all.done k above)
      (omega (arith, low)))

  -- the block is grey no longer
  ended : (z : Traced) → IsScannedTo layout formats of at_flip done x z y holder o (size_of o)
      → IsScan layout formats of at_flip x (record z { segs = blackening z.segs at.0 }) y holder
  ended z run =
      let y' = run.after in
      let st = run.stands.state in
      let setting = setting_of z.segs at_flip y' in
      let there = run.leaves.there holder at.0 scan.not_white scan.there in
      let object : slice_get y'.world.graph.objects holder ≡ Some o =
      ap (λ (g : Graph). slice_get g.objects holder) run.same.graph ∙ scan.object
      in
      let these = targets_are o.body scan.automatic ∙ sym (ap (λ e. option_map_or targets_of e []) scan.object) in
      record {
        moves = run.moves;
        after = y';
        fixes =
            subst (λ ids. Fixes y ids run.moves y') (append-nil (targets_of_cells (take (size_of o) (all_cells o.body))) ∙ these)
            (subst (λ ms. Fixes y (targets_of_cells (take (size_of o) (all_cells o.body)) ++ []) ms y') (append-nil run.moves)
            (run.fixes [] [] y' fixes_no_more));
        stands = record {
          state = record {
            segments = record {
              same_grains = st.segments.same_grains;
              same_limit = st.segments.same_limit;
              same_segments = st.segments.same_segments;
            };
            held = record { small = st.held.small; aligned = st.held.aligned; ascending = st.held.ascending };
            tables = record {
              kept = st.tables.kept;
              exact = length-set z.segs.marks.exact (word_of at.0) _ ∙ st.tables.exact;
              weak = length-set z.segs.marks.weak (word_of at.0) _ ∙ st.tables.weak;
              condemned = st.tables.condemned;
            };
            covered = st.covered;
            reserved = st.reserved;
            condemned = record { is_bit = st.condemned.is_bit; is_held = st.condemned.is_held };
            image =
                scan_ends setting (memory_in z.segs) y'.world.addresses y.colours y'.colours (with_cells done holder
                (size_of o)) holder at.0 o
                (memory_in (blackening z.segs at.0)).grey st.image there object
                (λ j i is.
                or_right (j == holder && nat_lt i (size_of o)) (done j i)
                (subst (λ ids. IsTrue (black_cells ids y.colours j i)) run.same_condemned is))
                (λ i lt.
                or_left (holder == holder && nat_lt i (size_of o)) (done holder i)
                (and_from (holder == holder) (nat_lt i (size_of o)) (eq-eqb holder holder refl) (lt-ltb i (size_of o) lt)))
                (λ j is.
                subst (λ ids. IsTrue (is_black ids y.colours j)) (sym run.same_condemned)
                (run.leaves.black j (subst (λ ids. IsTrue (is_black ids y'.colours j)) run.same_condemned is)))
                (blackening_clears z.segs at.0);
            pools = st.pools;
            collected = st.collected;
            still = st.still;
            tails = st.tails;
            hands = st.hands;
          };
          room =
              let before = run.stands.room in
              let no_more = splats_scanned y'.world.graph.objects y'.running.condemned y'.colours holder (live_ids y'.world) in
              omega (arith, before, no_more);
        };
        trail = run.trail;
      }

  pub is_scan : {z : Traced} → Scanned layout formats of x at z → IsScan layout formats of at_flip x z y holder
  is_scan is =
      let its = found.its_segment F layout formats of at_flip done x y shaped stands at.0 holder at.0 o target in
      let head_is = found.head_there F layout formats of at_flip done x y shaped stands at.0 holder at.0 o target in
      let pool : is.segment.pool ≡ o.pool =
      ap (λ (s : Segment). s.pool) (same_Some is.segment its.0 (sym is.over ∙ its.1)) ∙ its.2
      in
      let format_is : layout is.format.format ≡ f = stands.state.pools.format_is is.segment.pool is.format is.listed
      ∙ ap (pool_layout y.world) pool in
      let all = subst (λ h. ScansAll layout f formats of h at x is.before) head_is
      (subst (λ (g : Layout). ScansAll layout g formats of (slice_index x.segs.words (word_of at.0)) at x is.before) format_is is.all) in
      subst (λ w. IsScan layout formats of at_flip x w y holder) (sym is.black) (ended is.before (whole_run is.before all))

pub scan_is_a_scan : {F : Type 0} → AScanIsAScan F
scan_is_a_scan {F} layout formats of at_flip x z y holder at o shaped stands scan is =
    is_scan F layout formats of at_flip x y shaped stands holder at o scan is
