-- The reference of a cell is fixed: a step of the abstract collector, and the cell holds where its target is then.
use Rattle.std.proofs.Common.{◌≡◌, ◌∙◌, ℕ, ◌+◌, ◌<◌, false, refl, sym, ap, List, [], slice_index, Option, Some, None, subst, inl, arith}
use Rattle.std.proofs.lemmas.List.{append-nil}
use Rattle.std.proofs.lemmas.Option.{none-some, same_Some}
use Rattle.std.specs.Prelude.{slice_get, slice_set}
use Rattle.mps_base.specs.Address.{Address, Id, word_of}
use Rattle.mps_base.specs.declared.address.Addr.{Addr}
use Rattle.mps_format.specs.Layout.{Layout}
use Rattle.mps_seg.specs.Collecting.{noting_in, first_grain_over}
use Rattle.mps_trace.specs.GenState.{ChainsState}
use Rattle.mps_model.specs.Graph.{ReferenceCell, Object}
use Rattle.mps_abstract.specs.Colours.{is_white}
use Rattle.mps_abstract.specs.Collecting.{Collecting}
use Rattle.mps_trace_laws.specs.Image.Memory.{Lies, memory_in, pool_layout}
use Rattle.mps_trace_laws.specs.Image.Image.{CellSet, with_cell, AreShaped}
use Rattle.mps_trace_laws.specs.Image.Fixing as fixing
use Rattle.mps_trace_laws.proofs.Image.Fixing.{holder_stays}
use Rattle.mps_trace_laws.proofs.Image.References as references
use Rattle.mps_trace_laws.proofs.Image.Targets as targets
use Rattle.mps_trace_laws.proofs.Image.Written.{cell_written, no_cell_changed}
use Rattle.mps_trace.specs.Trace.{Traced}
use Rattle.mps_trace.specs.Scan.{FixesCell, is_null, leads, CanFixCellAt, target_at}
use Rattle.mps_trace_laws.specs.Fix.Tracing.{TracingStands, setting_of}
use Rattle.mps_trace_laws.specs.Fix.Steps.{IsFixStep}
use Rattle.mps_trace_laws.specs.Fix.Cells.{HoldsReference, IsCellStep}
use Rattle.mps_trace_laws.proofs.Fix.CellLists.{image_again}
use Rattle.mps_trace_laws.proofs.Fix.CanFix.{can_fix}
use Rattle.mps_trace_laws.proofs.Fix.EachFix.{each_step}
use Rattle.mps_trace_laws.proofs.Fix.Noted.{noted}
use Rattle.mps_format.specs.declared.pool.Policy.{Policy}

module _ (F : Type 0) (layout : F → Layout) (formats : List (Option (Policy F))) (of : ChainsState) (at_flip : List (Option Address))
    (done : CellSet) (x : Traced) (y : Collecting) (shaped : AreShaped y.world.graph.objects (pool_layout y.world))
    (stands : TracingStands layout formats of at_flip done x y) (holder i : ℕ) (at : Addr) (o : Object) (tag : ℕ) where
  abbrev f : Layout
  f = pool_layout y.world o.pool

  abbrev n : ℕ
  n = word_of at.0 + i

  module _ (holds : HoldsReference y holder i at.0 o None tag) where
    lies_null : Lies y.world.graph.objects y.world.addresses holder i o n
    lies_null = record { at = at.0; address = holds.there; object = holds.object; within = holds.within; is = refl }

    pub null_target : target_at f x at i ≡ 0
    null_target =
        references.found_null (setting_of x.segs at_flip y) x.segs.words y.world.addresses shaped stands.state.image.placed
        stands.state.image.words (λ id. refl) holder i o n tag lies_null holds.cell

    -- a null reference stays
    null_step : IsCellStep layout formats of at_flip done x x y None holder i
    null_step =
        let setting = setting_of x.segs at_flip y in
        let st = stands.state in
        record {
          moves = [];
          after = y;
          fixes = λ ids ms last rest. rest;
          stands =
              image_again layout formats of at_flip done (with_cell done holder i) x y
              (targets.passed setting y.world.addresses y.colours done holder i o n (ReferenceCell None tag) lies_null holds.cell
              (memory_in x.segs)
              (record {
                holds = st.image.words.cells holder i o n (ReferenceCell None tag) refl lies_null holds.cell;
                not_white = λ u e. absurd (none-some u e);
              }) st.image) stands;
          trail = sym (append-nil x.moves.moves);
          step = fixing.nothing;
          same = record { graph = refl; pools = refl; formats = refl };
          same_condemned = refl;
        }

  module _ (t : Id) (holds : HoldsReference y holder i at.0 o (Some t) tag) where
    pub lies : Lies y.world.graph.objects y.world.addresses holder i o n
    lies = record { at = at.0; address = holds.there; object = holds.object; within = holds.within; is = refl }

    abbrev pub now : Address
    now = (holds.live t refl).0

    pub found : references.FoundTarget (setting_of x.segs at_flip y) y.world.addresses f t tag (slice_index x.segs.words n) now
    found =
        references.found (setting_of x.segs at_flip y) x.segs.words y.world.addresses shaped stands.state.image.placed
        stands.state.image.words (λ id. refl) holder i o n tag lies t now holds.cell (holds.live t refl).1

    pub target_there : fixing.Target (setting_of x.segs at_flip y) y.world.addresses t (target_at f x at i) now found.object
    target_there =
        subst (λ a. fixing.Target (setting_of x.segs at_flip y) y.world.addresses t a now found.object) (sym found.read.target)
        found.target

    cell_can : CanFixCellAt layout f formats of x at i
    cell_can positive = can_fix F layout formats of at_flip done x y shaped stands (record { 0 = target_at f x at i }) t now found.object
        target_there

    not_null : 0 < target_at f x at i
    not_null = omega (arith, found.not_null, found.read.target)

    -- the word is written after what it leads to was fixed
    written : (z : Traced) (to : Addr) → IsFixStep layout formats of at_flip done x z y t to.0
        → IsCellStep layout formats of at_flip done x
        (record z {
          segs = noting_in (record z.segs { words = slice_set z.segs.words n (f.retarget (slice_index x.segs.words n) to.0) })
              (first_grain_over (record z.segs {
                words = slice_set z.segs.words n (f.retarget
                    (slice_index x.segs.words n) to.0);
              }) at.0) to.0;
        }) y (Some t) holder i
    written z to fix =
        let new = f.retarget (slice_index x.segs.words n) to.0 in
        let words = slice_set z.segs.words n new in
        let y' = fix.after in
        let setting = setting_of z.segs at_flip y' in
        let object : slice_get y'.world.graph.objects holder ≡ Some o =
        ap (λ (g : Rattle.mps_model.specs.Graph.Graph). slice_get g.objects holder) fix.same.graph ∙ holds.object
        in
        let still =
        holder_stays (setting_of x.segs at_flip y) y.world.addresses y'.world.addresses y.colours y'.colours (Some t) holder i o n fix.step
        holds.not_white lies
        in
        let there : Lies y'.world.graph.objects y'.world.addresses holder i o n =
        record { at = still.at; address = still.address; object = object; within = still.within; is = still.is }
        in
        let image =
        cell_written setting y'.world.graph.objects (memory_in z.segs) y'.world.addresses y'.colours done holder i o n
        (ReferenceCell (Some t) tag) new
        (no_cell_changed y'.world.graph.objects holder i o (ReferenceCell (Some t) tag) object holds.cell) fix.stands.state.image there
        (record {
          holds = record {
            address = to.0;
            is = found.read.retarget to.0 (fix.stands.state.image.placed.address t to.0 fix.there);
            means = inl fix.there;
          };
          not_white = λ u e. subst (λ v. is_white y'.running.condemned y'.colours v ≡ false) (same_Some t u e) fix.not_white;
        })
        in
        record {
          moves = fix.moves;
          after = y';
          fixes = fix.fixes;
          stands = record {
            state =
                noted layout formats of at_flip done (with_cell done holder i) z.amc z.segs y' fix.stands.state words
                (first_grain_over (record z.segs { words = words }) at.0) to.0 image;
            room = fix.stands.room;
          };
          trail = fix.trail;
          step = fix.step;
          same = fix.same;
          same_condemned = fix.same_condemned;
        }

  pub can_cell : (target : Option Id) → HoldsReference y holder i at.0 o target tag → CanFixCellAt layout f formats of x at i
  can_cell None holds positive = absurd (omega (arith, positive, null_target holds))
  can_cell (Some t) holds positive = cell_can t holds positive

  pub cell_step : {z : Traced} (target : Option Id) → HoldsReference y holder i at.0 o target tag
      → FixesCell layout f formats of at i x z → IsCellStep layout formats of at_flip done x z y target holder i
  cell_step None holds (is_null e) = null_step holds
  cell_step None holds (leads to positive fixed is) = absurd (omega (arith, positive, null_target holds))
  cell_step (Some t) holds (is_null e) = absurd (omega (arith, e, not_null t holds))
  cell_step (Some t) holds (leads {y = z} to positive fixed is) =
      subst (λ w. IsCellStep layout formats of at_flip done x w y (Some t) holder i) (sym is)
      (written t holds z to
      (each_step F layout formats of at_flip done x y shaped stands t (record { 0 = target_at f x at i }) (found t holds).object
      (now t holds)
      (target_there t holds) fixed))
