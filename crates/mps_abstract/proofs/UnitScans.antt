-- A unit that scans an object.
use Rattle.std.proofs.Common.{◌≡◌, ◌∙◌, ◌<◌, true, false, sym, List, subst, inl, inr, arith}
use Rattle.std.proofs.lemmas.Bool.{false≢true, cases_Bool}
use Rattle.mps_base.specs.Address.{Id}
use Rattle.mps_base.specs.declared.moves.Move.{Move}
use Rattle.mps_model.specs.Graph.{contains, targets, is_weak_object}
use Rattle.mps_model.specs.World.{is_live, object_is}
use Rattle.mps_model.specs.Effect.{world_after_moves}
use Rattle.mps_model.specs.Units.{IsUnitPiece}
use Rattle.mps_abstract.specs.Colours.{is_grey}
use Rattle.mps_abstract.specs.Collecting.{Collecting, is_tracing_band, is_white_in, units_left, Running}
use Rattle.mps_abstract.specs.Fixing.{Fixes}
use Rattle.mps_abstract.specs.Units.{collecting_after_scan}
use Rattle.mps_abstract.proofs.Joining.{AreLegalAnywhere}
use Rattle.mps_abstract.proofs.KeptRunning.{not_reclaiming}
use Rattle.mps_abstract.proofs.Scanning.{MayBeFixed, AreFixed, are_fixed, scanned_running, scanned_fewer}
use Rattle.mps_abstract.proofs.Pieces.{closed, scan_is_unit}

-- what is shown of each unit
pub record IsUnitShown (x : Collecting) (ms : List Move) (y : Collecting) : Type 0 where
  pub running : Running y
  pub leads : world_after_moves x.world ms ≡ y.world
  pub legal : AreLegalAnywhere x.world ms
  pub is_piece : IsUnitPiece x.world ms
  pub fewer : units_left y < units_left x
  pub spent : y.running.spent ≡ x.running.spent
  pub allowed : y.running.units ≡ x.running.units

-- only a collection that traces has a grey object that isn't weak
pub strong_is_tracing : (x : Collecting) (id : Id) → Running x → is_grey x.colours id ≡ true → object_is is_weak_object x.world id ≡ false
    → is_tracing_band x.band ≡ true
strong_is_tracing x id run grey strong = elim (cases_Bool (is_tracing_band x.band)) [
  | inl tracing ↦ tracing
  | inr later ↦ absurd (false≢true (sym strong ∙ run.band.drained later id grey))
]

-- what a grey object refers to may be fixed
pub targets_may_be_fixed : (x : Collecting) (id : Id) → Running x → is_tracing_band x.band ≡ true → is_grey x.colours id ≡ true
    → MayBeFixed x (targets x.world.graph id)
targets_may_be_fixed x id run tracing grey t refers =
    let live = run.grey.grey_live id grey in (
      run.band.referred_live (not_reclaiming x.band tracing) id t live refers,
      closed x.world.graph (is_live x.world) x.running x.colours id t run.survivors live
          (run.survivors.kept id live (run.grey.grey_kept id grey)) refers,
    )

-- a grey object is scanned
pub record IsScannedRightly (x : Collecting) (id : Id) (ms : List Move) (y : Collecting) : Type 0 where
  pub fixed : AreFixed x (targets x.world.graph id) ms y
  pub running : Running (collecting_after_scan y id)
  pub fewer : units_left (collecting_after_scan y id) < units_left x

pub scanned_rightly : (x y : Collecting) (id : Id) (ms : List Move) → Running x → is_tracing_band x.band ≡ true
    → is_grey x.colours id ≡ true
    → Fixes x (targets x.world.graph id) ms y → IsScannedRightly x id ms y
scanned_rightly x y id ms run tracing grey fixes =
    let f = are_fixed fixes run tracing (targets_may_be_fixed x id run tracing grey) in
    let kept : (t : Id) → contains (targets y.world.graph id) t ≡ true → is_white_in y t ≡ false =
    λ t h. f.kept t (subst (λ g. contains (targets g id) t ≡ true) f.further.graph h) in
    let fewer = scanned_fewer y f.running id kept (f.further.grey id grey) in
    let no_more = f.further.left in
    record {
      fixed = f;
      running = scanned_running y f.running id kept;
      fewer = omega (arith, fewer, no_more);
    }

pub scans_shown : (x y : Collecting) (id : Id) (ms : List Move) → Running x → is_grey x.colours id ≡ true
    → object_is is_weak_object x.world id ≡ false → Fixes x (targets x.world.graph id) ms y → IsUnitShown x ms (collecting_after_scan y id)
scans_shown x y id ms run grey strong fixes =
    let tracing = strong_is_tracing x id run grey strong in
    let s = scanned_rightly x y id ms run tracing grey fixes in
    record {
      running = s.running;
      leads = s.fixed.leads;
      legal = s.fixed.legal;
      is_piece = scan_is_unit x id run tracing grey strong (targets_may_be_fixed x id run tracing grey) fixes;
      fewer = s.fewer;
      spent = s.fixed.further.spent;
      allowed = s.fixed.further.allowed;
    }
