-- A block of a weak object that is to be scanned can be.
use Rattle.std.proofs.Common.{◌≡◌, ◌∙◌, ◌-◌, ◌<◌, List, [], refl, sym, ap, slice_index, subst, inl}
use Rattle.std.specs.Prelude.{slice_get, Option}
use Rattle.mps_base.specs.Address.{word_of, Address, Id}
use Rattle.mps_base.specs.Trail.{Moves}
use Rattle.mps_base.specs.declared.address.Addr.{Addr}
use Rattle.mps_format.specs.Layout.{Layout}
use Rattle.mps_amc.specs.Moving.{BlockStands, size_at}
use Rattle.mps_seg.specs.Segs.{SegsState}
use Rattle.mps_trace.specs.Splat.{AreSplatsReady, CanSplat}
use Rattle.mps_trace.specs.Trace.{traced, TraceState}
use Rattle.mps_model.specs.Graph.{Object, size_of}
use Rattle.mps_abstract.specs.Collecting.{Collecting}
use Rattle.mps_trace_laws.specs.Image.Image.{CellSet, AreShaped}
use Rattle.mps_trace_laws.specs.Image.Memory.{pool_layout}
use Rattle.mps_trace_laws.specs.Image.Fixing.{Target}
use Rattle.mps_trace_laws.specs.Fix.Scanning.{IsToBeScanned}
use Rattle.mps_trace_laws.specs.Fix.Tracing.{setting_of, TracingStands}
use Rattle.mps_trace_laws.proofs.Fix.Found as found
use Rattle.mps_trace_laws.proofs.Splats.Whole.{ready}
use Rattle.mps_trace_laws.proofs.Splats.Scanned.{automatic_body}

-- where there is room for a splat of each cell but the head, and no object has a dependent
pub object_can_be_splatted : {F : Type 0}
    → (layout : F → Layout) (t : TraceState F) (s : SegsState) (m : Moves) (at_flip : List (Option Address)) (done : CellSet)
    (y : Collecting) (holder : Id) (at : Addr) (o : Object) → y.world.graph.dependents ≡ []
    → AreShaped y.world.graph.objects (pool_layout y.world)
    → TracingStands layout t.formats t.chains at_flip done (traced t s m) y → IsToBeScanned y holder at.0 o → size_of o - 1 < m.spare
    → CanSplat layout t s m at
object_can_be_splatted {F} layout t s m at_flip done y holder at o none_paired shaped stands scan room =
    let x = traced t s m in
    let target : Target (setting_of s at_flip y) y.world.addresses holder at.0 at.0 o =
    record { means = inl scan.there; there = scan.there; object = scan.object; automatic = scan.automatic; read = refl }
    in
    let its = found.its_segment F layout t.formats t.chains at_flip done x y shaped stands at.0 holder at.0 o target in
    let head = found.head_there F layout t.formats t.chains at_flip done x y shaped stands at.0 holder at.0 o target in
    let collected = stands.state.collected holder o scan.object scan.automatic in
    let format = stands.state.pools.listed o.pool collected in
    let format_is : layout format.0.format ≡ pool_layout y.world o.pool = stands.state.pools.format_is o.pool format.0 format.1 in
    let block : BlockStands (layout format.0.format) s.words at.0 (size_at (layout format.0.format) s.words at.0) =
    subst (λ (g : Layout). BlockStands g s.words at.0 (size_at g s.words at.0)) (sym format_is)
    (found.block_stands F layout t.formats t.chains at_flip done x y shaped stands at.0 holder at.0 o target format.0 format.1 refl)
    in
    let body = automatic_body o.body scan.automatic in
    record {
      aligned = found.is_aligned F layout t.formats t.chains at_flip done x y shaped stands at.0 holder at.0 o target;
      segment = its.0;
      over = its.1;
      format = format.0;
      listed = ap (slice_get t.formats) its.2 ∙ format.1;
      valid = block.valid;
      within = block.within;
      ready =
          subst (λ (g : Layout). AreSplatsReady layout g t.formats (slice_index s.words (word_of at.0)) at x) (sym format_is)
          (subst (λ h. AreSplatsReady layout (pool_layout y.world o.pool) t.formats h at x) (sym head)
          (ready F layout t.formats t.chains at_flip done x y holder at o body.0 body.1 none_paired shaped stands.state scan body.2 room));
    }
