-- An address that means a live automatic object can be fixed.
use Rattle.std.proofs.Common.{◌≡◌, ◌∙◌, ◌%◌, true, sym, ap, List, Option, Some, None, subst, arith}
use Rattle.std.specs.Prelude.{IsTrue, slice_get}
use Rattle.mps_base.specs.Address.{Address, Id}
use Rattle.mps_base.specs.Run.{Run}
use Rattle.mps_base.specs.Segment.{Segment, segment_over}
use Rattle.mps_base.specs.declared.address.Addr.{Addr}
use Rattle.mps_format.specs.Layout.{Layout}
use Rattle.mps_format.specs.declared.pool.Policy.{Policy}
use Rattle.mps_seg.specs.Segs.{held_runs, IsOpenRun}
use Rattle.mps_amc.specs.Moving.{IsForwarded, BlockStands, IsBlockOf, size_at}
use Rattle.mps_trace.specs.GenState.{ChainsState}
use Rattle.mps_trace.specs.Finding.{IsOfKnownPool, FindsTo}
use Rattle.mps_trace.specs.Trace.{Traced, CanMove, CanKeep, CanFixAt, target_of}
use Rattle.mps_model.specs.Graph.{Object}
use Rattle.mps_model.specs.World.{is_copying_pool}
use Rattle.mps_abstract.specs.Collecting.{Collecting}
use Rattle.mps_trace_laws.specs.Image.Memory.{pool_layout}
use Rattle.mps_trace_laws.specs.Image.Image.{CellSet, AreShaped}
use Rattle.mps_trace_laws.specs.Image.Fixing.{Target}
use Rattle.mps_trace_laws.specs.Fix.Tracing.{setting_of, TracingStands}
use Rattle.mps_trace_laws.specs.Fix.Finding.{FindsObject, white}
use Rattle.mps_trace_laws.proofs.Fix.Finding.{object_found}
use Rattle.mps_trace_laws.proofs.Fix.Found as found

module _ (F : Type 0) (layout : F → Layout) (formats : List (Option (Policy F))) (of : ChainsState) (at_flip : List (Option Address))
    (done : CellSet) (x : Traced) (y : Collecting) (shaped : AreShaped y.world.graph.objects (pool_layout y.world))
    (stands : TracingStands layout formats of at_flip done x y) (at : Addr) (t : Id) (now : Address) (o : Object)
    (target : Target (setting_of x.segs at_flip y) y.world.addresses t at.0 now o)
  where
    abbrev g : Layout
    g = pool_layout y.world o.pool

    its_format : (format : Policy F) × (slice_get formats o.pool ≡ Some (Some format))
    its_format = stands.state.pools.listed o.pool (found.collected F layout formats of at_flip done x y shaped stands at.0 t now o target)

    abbrev format : Policy F
    format = its_format.0

    format_is : layout format.format ≡ g
    format_is = stands.state.pools.format_is o.pool format its_format.1

    its_segment : (s : Segment) × (segment_over x.segs.segments at.0 ≡ Some s) × (s.pool ≡ o.pool)
    its_segment = found.its_segment F layout formats of at_flip done x y shaped stands at.0 t now o target

    listed : slice_get formats its_segment.0.pool ≡ Some (Some format)
    listed = ap (slice_get formats) its_segment.2 ∙ its_format.1

    of_known_pool : IsOfKnownPool layout formats x.segs at
    of_known_pool = record {
      segment = its_segment.0;
      over = its_segment.1;
      format = format;
      listed = listed;
      leads = λ moves.
          subst (λ (h : Layout). (to : Address) → IsForwarded h x.segs.words at.0 to → to % 8 ≡ 0) (sym format_is)
          (found.leads_to F layout formats of at_flip done x y shaped stands at.0 t now o target format its_format.1);
    }

    -- where it is white its block can move
    can_move : at.0 ≡ now → format.moves ≡ true → CanMove (layout format.format) of x at.0 its_segment.0
    can_move here moves =
        let s = its_segment in
        let copies : IsTrue (is_copying_pool y.world s.0.pool) =
        ap (is_copying_pool y.world) s.2 ∙ sym (stands.state.pools.moves_is o.pool format its_format.1) ∙ moves
        in
        record {
          known = stands.state.pools.known s.0.pool copies;
          stands =
              subst (λ (h : Layout). BlockStands h x.segs.words at.0 (size_at h x.segs.words at.0)) (sym format_is)
              (found.block_stands F layout formats of at_flip done x y shaped stands at.0 t now o target format its_format.1 here);
          block =
              subst (λ (h : Layout). IsBlockOf x.segs at.0 (size_at h x.segs.words at.0)) (sym format_is)
              (found.block_of F layout formats of at_flip done x y shaped stands at.0 t now o target format its_format.1 here);
          tail = stands.state.tails.has s.0.pool s.0.generation copies;
          at_hand = λ some.
              let same = stands.state.tails.same s.0.pool (target_of of s.0) in
              subst (IsOpenRun x.segs.grains (held_runs x.segs) x.segs.covered) (sym same)
              (found.is_open F layout formats of at_flip done x y shaped stands s.0.pool (target_of of s.0)
              (omega (arith, some, ap (λ (r : Run). r.count) same)));
          room = let room = stands.room in omega (arith, room);
        }

    can_keep : FindsTo layout formats x.segs at None → CanKeep layout formats of x at
    can_keep finds = record {
      aligned = found.is_aligned F layout formats of at_flip done x y shaped stands at.0 t now o target;
      in_arena = found.in_arena F layout formats of at_flip done x y shaped stands at.0 t now o target;
      segment = its_segment.0;
      over = its_segment.1;
      format = format;
      listed = listed;
      moving = can_move (lies_there (object_found F layout formats of at_flip done x y shaped stands at t now o target None finds));
    }
      where
        lies_there : FindsObject y t at.0 now None → at.0 ≡ now
        lies_there (white here is) = here

    pub can_fix : CanFixAt layout formats of x at
    can_fix = record {
      find = record {
        aligned = found.is_aligned F layout formats of at_flip done x y shaped stands at.0 t now o target;
        in_arena = found.in_arena F layout formats of at_flip done x y shaped stands at.0 t now o target;
        condemned = λ is. of_known_pool;
      };
      keep = can_keep;
    }

pub target_can_be_fixed : {F : Type 0}
    → (layout : F → Layout) (formats : List (Option (Policy F))) (of : ChainsState) (at_flip : List (Option Address)) (done : CellSet)
    (x : Traced) (y : Collecting) (at : Addr) (t : Id) (now : Address) (o : Object)
    → AreShaped y.world.graph.objects (pool_layout y.world) → TracingStands layout formats of at_flip done x y
    → Target (setting_of x.segs at_flip y) y.world.addresses t at.0 now o → CanFixAt layout formats of x at
target_can_be_fixed {F} layout formats of at_flip done x y at t now o shaped stands target =
    can_fix F layout formats of at_flip done x y shaped stands at t now o target
