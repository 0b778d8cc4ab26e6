-- The scan of a weak block is a sequence of splats, and its object is black then.
use Rattle.std.proofs.Common.{◌≡◌, ◌∙◌, ℕ, ◌<◌, Bool, true, refl, sym, ap, List, [], Option, subst, inl, slice_index}
use Rattle.std.proofs.lemmas.Bool.{false≢true}
use Rattle.std.proofs.lemmas.List.{length-set}
use Rattle.std.proofs.lemmas.Option.{same_Some}
use Rattle.std.specs.Prelude.{IsTrue}
use Rattle.mps_base.specs.Address.{Address, Id, word_of}
use Rattle.mps_base.specs.Segment.{Segment}
use Rattle.mps_base.specs.declared.address.Addr.{Addr}
use Rattle.mps_format.specs.Layout.{Layout}
use Rattle.mps_format.specs.declared.pool.Policy.{Policy}
use Rattle.mps_seg.specs.Collecting.{blackening}
use Rattle.mps_trace.specs.GenState.{ChainsState}
use Rattle.mps_trace.specs.Splat.{SplatsAll, Splatted}
use Rattle.mps_trace.specs.Trace.{Traced}
use Rattle.mps_model.specs.Checked.{head_of_body}
use Rattle.mps_model.specs.Graph.{Body, Automatic, Manual, Cell, Object, entry_at, is_automatic_body, size_of}
use Rattle.mps_abstract.specs.Colours.{Colours, is_black}
use Rattle.mps_abstract.specs.Collecting.{Collecting}
use Rattle.mps_trace_laws.specs.Image.Memory.{memory_in, pool_layout}
use Rattle.mps_trace_laws.specs.Image.Image.{CellSet, AreShaped, black_cells}
use Rattle.mps_trace_laws.specs.Image.Fixing.{Target}
use Rattle.mps_trace_laws.proofs.Image.Scanning.{scan_ends}
use Rattle.mps_trace_laws.proofs.Image.SegmentMarks.{blackening_clears}
use Rattle.mps_trace_laws.specs.Fix.Tracing.{TracingStands, setting_of}
use Rattle.mps_trace_laws.specs.Fix.Scanning.{IsToBeScanned}
use Rattle.mps_trace_laws.proofs.Fix.Found as found
use Rattle.mps_trace_laws.specs.Splats.Laws.{AreSplatsDone, IsSplatScan, ASplatScanIsAScan}
use Rattle.mps_trace_laws.proofs.Splats.Whole.{run_is_splats}

-- an automatic object has cells
pub automatic_body : (b : Body) → is_automatic_body b ≡ true
    → (cells : List Cell) × (is_weak : Bool) × (b ≡ Automatic (head_of_body b) cells is_weak)
automatic_body (Automatic head cells is_weak) is = (cells, is_weak, refl)
automatic_body (Manual words) is = absurd (false≢true is)

module _ (F : Type 0) (layout : F → Layout) (formats : List (Option (Policy F))) (of : ChainsState) (at_flip : List (Option Address))
    (x : Traced) (y : Collecting) (none_paired : y.world.graph.dependents ≡ [])
    (shaped : AreShaped y.world.graph.objects (pool_layout y.world))
    (stands : TracingStands layout formats of at_flip (black_cells y.running.condemned y.colours) x y) (holder : Id) (at : Addr)
    (o : Object) (scan : IsToBeScanned y holder at.0 o) where
  abbrev done : CellSet
  done = black_cells y.running.condemned y.colours

  abbrev f : Layout
  f = pool_layout y.world o.pool

  abbrev head : ℕ
  head = head_of_body o.body

  pub target : Target (setting_of x.segs at_flip y) y.world.addresses holder at.0 at.0 o
  target = record { means = inl scan.there; there = scan.there; object = scan.object; automatic = scan.automatic; read = refl }

  whole_run : (z : Traced) → SplatsAll layout f formats head at x z
      → AreSplatsDone layout formats of at_flip done x z y holder at (size_of o)
  whole_run z all =
      let body = automatic_body o.body scan.automatic in
      run_is_splats layout formats of at_flip done x z y holder at o body.0 body.1 all.from none_paired shaped stands.state scan
      body.2 all.run all.done

  -- the block is grey no longer
  ended : (z : Traced) → AreSplatsDone layout formats of at_flip done x z y holder at (size_of o)
      → IsSplatScan layout formats of at_flip x (record z { segs = blackening z.segs at.0 }) y holder at (size_of o)
  ended z run =
      let y' = run.after in
      let st = run.state in
      let o' = run.object.0 in
      let same_size : size_of o' ≡ size_of o = run.object.2 in
      record {
        cells = run.cells;
        after = y';
        splats = run.splats;
        trail = run.trail;
        few = run.few;
        spare = run.spare;
        shaped = run.shaped;
        state = record {
          segments = record {
            same_grains = st.segments.same_grains;
            same_limit = st.segments.same_limit;
            same_segments = st.segments.same_segments;
          };
          held = record { small = st.held.small; aligned = st.held.aligned; ascending = st.held.ascending };
          tables = record {
            kept = st.tables.kept;
            exact = length-set z.segs.marks.exact (word_of at.0) _ ∙ st.tables.exact;
            weak = length-set z.segs.marks.weak (word_of at.0) _ ∙ st.tables.weak;
            condemned = st.tables.condemned;
          };
          covered = st.covered;
          reserved = st.reserved;
          condemned = record { is_bit = st.condemned.is_bit; is_held = st.condemned.is_held };
          image =
              scan_ends (setting_of z.segs at_flip y') (memory_in z.segs) y'.world.addresses y.colours y'.colours run.done_after holder at.0
              o' (memory_in (blackening z.segs at.0)).grey st.image
              (ap (λ (ps : List (Option Address)). entry_at ps holder) run.same_addresses ∙ scan.there) run.object.1
              (λ j i is. run.more j i (subst (λ ids. IsTrue (black_cells ids y.colours j i)) run.same_condemned is))
              (λ i lt. run.all i (subst (λ n. i < n) same_size lt))
              (λ j is. subst (λ (k : Colours). IsTrue (is_black y'.running.condemned k j)) run.same_colours is)
              (blackening_clears z.segs at.0);
          pools = st.pools;
          collected = st.collected;
          still = st.still;
          tails = st.tails;
          hands = st.hands;
        };
      }

  pub is_scan : {z : Traced} → Splatted layout formats x at z → IsSplatScan layout formats of at_flip x z y holder at (size_of o)
  is_scan is =
      let its = found.its_segment F layout formats of at_flip done x y shaped stands at.0 holder at.0 o target in
      let head_is = found.head_there F layout formats of at_flip done x y shaped stands at.0 holder at.0 o target in
      let pool : is.segment.pool ≡ o.pool =
      ap (λ (s : Segment). s.pool) (same_Some is.segment its.0 (sym is.over ∙ its.1)) ∙ its.2
      in
      let format_is : layout is.format.format ≡ f = stands.state.pools.format_is is.segment.pool is.format is.listed
      ∙ ap (pool_layout y.world) pool in
      let all = subst (λ h. SplatsAll layout f formats h at x is.before) head_is
      (subst (λ (g : Layout). SplatsAll layout g formats (slice_index x.segs.words (word_of at.0)) at x is.before) format_is is.all) in
      subst (λ w. IsSplatScan layout formats of at_flip x w y holder at (size_of o)) (sym is.black)
      (ended is.before (whole_run is.before all))

pub a_splat_scan_is_a_scan : {F : Type 0} → ASplatScanIsAScan F
a_splat_scan_is_a_scan {F} layout formats of at_flip x z y holder at o none_paired shaped stands scan is =
    is_scan F layout formats of at_flip x y none_paired shaped stands holder at o scan is
