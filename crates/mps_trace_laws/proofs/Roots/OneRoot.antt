-- One slot or message is fixed: a step of the abstract collector.
use Rattle.std.proofs.Common.{◌≡◌, refl, subst, sym, List, [], ◌∷◌, ◌++◌, Option, Some, None, arith}
use Rattle.std.proofs.lemmas.List.{append-nil}
use Rattle.mps_base.specs.Address.{Address, Id}
use Rattle.mps_format.specs.Layout.{Layout}
use Rattle.mps_trace.specs.GenState.{ChainsState}
use Rattle.mps_model.specs.Graph.{entries}
use Rattle.mps_abstract.specs.Collecting.{Collecting}
use Rattle.mps_abstract.specs.Fixing.{Fixes}
use Rattle.mps_trace_laws.specs.Image.Memory.{pool_layout}
use Rattle.mps_trace_laws.specs.Image.Image.{CellSet, AreShaped}
use Rattle.mps_trace_laws.specs.Image.Fixing.{Target, nothing}
use Rattle.mps_trace_laws.proofs.Image.Scanning.{fix_leaves}
use Rattle.mps_trace.specs.Trace.{Traced}
use Rattle.mps_trace.specs.Roots.{FixesRoot, is_null, leads, CanFixRootAt}
use Rattle.mps_trace_laws.specs.Fix.Tracing.{TracingStands, setting_of}
use Rattle.mps_trace_laws.proofs.Fix.CanFix.{target_can_be_fixed}
use Rattle.mps_trace_laws.proofs.Fix.EachFix.{fix_is_a_step}
use Rattle.mps_trace_laws.specs.Roots.OneRoot.{AreFixed, MeansLive, RefersTo, IsRootStep}
use Rattle.mps_format.specs.declared.pool.Policy.{Policy}

-- nothing was fixed, where the targets are null
pub none_fixed : {F : Type 0} (layout : F
    → Layout) (formats : List (Option (Policy F))) (of : ChainsState) (at_flip : List (Option Address))
    (done : CellSet) (x : Traced) (y : Collecting) (targets : List (Option Id)) → entries targets ≡ []
    → TracingStands layout formats of at_flip done x y → AreFixed layout formats of at_flip done x x y targets
none_fixed layout formats of at_flip done x y targets null stands = record {
  moves = [];
  after = y;
  fixes = λ ids ms last rest. subst (λ these. Fixes y (these ++ ids) ms last) (sym null) rest;
  stands = stands;
  trail = sym (append-nil x.moves.moves);
  leaves = fix_leaves y.running.condemned y.world.addresses y.world.addresses y.colours y.colours None nothing;
  same = record { graph = refl; pools = refl; formats = refl };
  same_condemned = refl;
}

module _ {F : Type 0} (layout : F → Layout) (formats : List (Option (Policy F))) (of : ChainsState) (at_flip : List (Option Address))
    (done : CellSet) (x : Traced) (y : Collecting) (shaped : AreShaped y.world.graph.objects (pool_layout y.world))
    (stands : TracingStands layout formats of at_flip done x y) where
  target_of : (at : Address) (t : Id) (m : MeansLive at_flip y at t)
      → Target (setting_of x.segs at_flip y) y.world.addresses t at m.now m.object
  target_of at t m = record { means = m.means; there = m.there; object = m.has; automatic = m.automatic; read = refl }

  pub can_root : (at : Address) (target : Option Id) → RefersTo at_flip y at target → CanFixRootAt layout formats of x at
  can_root at None null positive = absurd (omega (arith, positive, null))
  can_root at (Some t) m positive =
      target_can_be_fixed layout formats of at_flip done x y (record { 0 = at }) t m.now m.object shaped stands (target_of at t m)

  null_step : IsRootStep layout formats of at_flip done x x y None 0
  null_step = record { fixed = none_fixed layout formats of at_flip done x y (None ∷ []) refl stands; answers = refl }

  pub root_step : (z : Traced) (at answer : Address) (target : Option Id) → RefersTo at_flip y at target
      → FixesRoot layout formats of x at z answer → IsRootStep layout formats of at_flip done x z y target answer
  root_step z at answer None null (is_null e) = null_step
  root_step z at answer None null (leads to positive fixed) = absurd (omega (arith, positive, null))
  root_step z at answer (Some t) m (is_null e) = let positive = m.positive in absurd (omega (arith, e, positive))
  root_step z at answer (Some t) m (leads to positive fixed) =
      let step =
      fix_is_a_step layout formats of at_flip done x z y (record { 0 = at }) to t m.now m.object shaped stands (target_of at t m) fixed
      in
      record {
        fixed = record {
          moves = step.moves;
          after = step.after;
          fixes = step.fixes;
          stands = step.stands;
          trail = step.trail;
          leaves =
              fix_leaves y.running.condemned y.world.addresses step.after.world.addresses y.colours step.after.colours (Some t) step.step;
          same = step.same;
          same_condemned = step.same_condemned;
        };
        answers = (step.there, step.not_white);
      }
