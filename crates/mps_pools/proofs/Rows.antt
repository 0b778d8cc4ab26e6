-- A collection leaves each pool as many generations with words at hand as it had, and so does each step of one.
use Rattle.std.proofs.Common.{ℕ, ◌≡◌, ◌∙◌, Option, List, [], ◌∷◌, length, map, refl, ap}
use Rattle.std.proofs.Math.Seq.{map-set_same}
use Rattle.std.proofs.lemmas.List.{length-set, length-replicate}
use Rattle.std.specs.Prelude.{slice_set, IfNone, IfSome, Some, None}
use Rattle.mps_base.specs.Segment.{Segment}
use Rattle.mps_base.specs.Address.{Address}
use Rattle.mps_base.specs.declared.address.Addr.{Addr}
use Rattle.mps_seg.specs.declared.buffer.Buffer.{Buffer}
use Rattle.mps_buffer.specs.Points.{PointsState}
use Rattle.mps_seg.specs.Buffer.{empty_buffer}
use Rattle.mps_final.specs.State.{FinalsState}
use Rattle.mps_format.specs.Layout.{Layout}
use Rattle.mps_gen.specs.State.{ChainsState}
use Rattle.mps_root.specs.State.{RootsState}
use Rattle.mps_amc.specs.Amc.{AmcState, row_after_flip, tails_of, with_tail}
use Rattle.mps_trace.specs.Trace.{Traced, KeepsTo, FixesTo, moves, marks, finds, keeps, target_of}
use Rattle.mps_trace.specs.Access as barrier
use Rattle.mps_trace.specs.Scan as scan
use Rattle.mps_trace.specs.Splat as splat
use Rattle.mps_trace.specs.Roots as roots
use Rattle.mps_trace.specs.Unit as units
use Rattle.mps_trace.specs.Begin.{Begins, EndsAtOnce}
use Rattle.mps_trace.specs.Collect.{Collects, at_once, in_units}
use Rattle.mps_trace.specs.declared.condemn.Condemn.{Condemn}
use Rattle.mps_trace.specs.declared.running.Band.{Band}
use Rattle.mps_trace.specs.declared.running.Band.TheVariants.{Exact, Final, Weak, Reclaim}
use Rattle.mps_trace.specs.declared.running.Running.{Running}
use Rattle.mps_pools.specs.Inside.{rows_of}
use Rattle.mps_format.specs.declared.pool.Policy.{Policy}

tail_written : (amc : AmcState) (pool generation : ℕ) (tail : Buffer) → rows_of (with_tail amc pool generation tail) ≡ rows_of amc
tail_written amc pool generation tail =
    map-set_same length amc.tails pool (slice_set (tails_of amc pool) generation tail) []
    (length-set (tails_of amc pool) generation tail)

emptied : (rows : List (List Buffer)) → map length (map row_after_flip rows) ≡ map length rows
emptied [] = refl
emptied (row ∷ rows) =
    ap (λ n. n ∷ map length (map row_after_flip rows)) (length-replicate (length row) empty_buffer)
    ∙ ap (λ ns. length row ∷ ns) (emptied rows)

module _ {F : Type 0} (layout : F → Layout) (formats : List (Option (Policy F))) (chains : ChainsState) where
  kept : {x y : Traced} {at answer : Addr} → KeepsTo layout formats chains x at y answer → rows_of y.amc ≡ rows_of x.amc
  kept {x} (moves t format answer over listed is fixed noted) =
      ap (λ (w : Traced). rows_of w.amc) noted ∙ ap rows_of fixed.tails ∙ tail_written x.amc t.pool (target_of chains t) _
  kept (marks t format over listed stays is) = ap (λ (w : Traced). rows_of w.amc) is

  fixed : {x y : Traced} {at answer : Addr} → FixesTo layout formats chains x at y answer → rows_of y.amc ≡ rows_of x.amc
  fixed (finds to found) = refl
  fixed (keeps answer white keep) = kept keep

  -- ---- references of blocks

  in_cell : {f : Layout} {at : Addr} {cell : ℕ} {x z : Traced} → scan.FixesCell layout f formats chains at cell x z
      → rows_of z.amc ≡ rows_of x.amc
  in_cell (scan.is_null null) = refl
  in_cell (scan.leads to some one is) = ap (λ (w : Traced). rows_of w.amc) is ∙ fixed one

  in_cells : {f : Layout} {head : ℕ} {at : Addr} {x : Traced} {from : ℕ} {y : Traced}
      → scan.ScansTo layout f formats chains head at x from y
      → rows_of y.amc ≡ rows_of x.amc
  in_cells scan.begins = refl
  in_cells (scan.goes_on from cell before first one) = in_cell one ∙ in_cells before

  scanned : {x z : Traced} {at : Addr} → scan.Scanned layout formats chains x at z → rows_of z.amc ≡ rows_of x.amc
  scanned s = ap (λ (w : Traced). rows_of w.amc) s.black ∙ in_cells s.all.run

  -- ---- references of weak blocks

  in_splat : {f : Layout} {at : Addr} {cell : ℕ} {x z : Traced} → splat.SplatsCell layout f formats at cell x z → z.amc ≡ x.amc
  in_splat (splat.is_null null) = refl
  in_splat (splat.updates to some found is) = ap (λ (w : Traced). w.amc) is
  in_splat (splat.splats some white is) = ap (λ (w : Traced). w.amc) is

  in_splats : {f : Layout} {head : ℕ} {at : Addr} {x : Traced} {from : ℕ} {y : Traced} → splat.SplatsTo layout f formats head at x from y
      → y.amc ≡ x.amc
  in_splats splat.begins = refl
  in_splats (splat.goes_on from cell before first one) = in_splat one ∙ in_splats before

  splatted : {x : Traced} {at : Addr} {z : Traced} → splat.Splatted layout formats x at z → rows_of z.amc ≡ rows_of x.amc
  splatted s = ap (λ (w : Traced). rows_of w.amc) s.black ∙ ap rows_of (in_splats s.all.run)

  -- ---- slots and messages

  in_root : {x y : Traced} {at answer : Address} → roots.FixesRoot layout formats chains x at y answer → rows_of y.amc ≡ rows_of x.amc
  in_root (roots.is_null null) = refl
  in_root (roots.leads to some one) = fixed one

  in_slots : {key : ℕ} {r : RootsState} {x : Traced} {count : ℕ} {r' : RootsState} {y : Traced}
      → roots.FixesSlots layout formats chains key r x count r' y
      → rows_of y.amc ≡ rows_of x.amc
  in_slots roots.begins = refl
  in_slots (roots.goes_on count at before root is) = in_root root ∙ in_slots before

  in_tables : {r : RootsState} {x : Traced} {count : ℕ} {r' : RootsState} {y : Traced}
      → roots.FixesTables layout formats chains r x count r' y
      → rows_of y.amc ≡ rows_of x.amc
  in_tables roots.begins = refl
  in_tables (roots.goes_on count before table) = in_slots table ∙ in_tables before

  in_messages : {f : FinalsState} {x : Traced} {count : ℕ} {f' : FinalsState} {y : Traced}
      → roots.FixesMessages layout formats chains f x count f' y
      → rows_of y.amc ≡ rows_of x.amc
  in_messages roots.begins = refl
  in_messages (roots.goes_on count at before root is) = in_root root ∙ in_messages before

  -- ---- units

  in_unit : {x y : Traced} {f f' : FinalsState} {run run' : Running} → units.UnitTo layout formats chains x f run y f' run'
      → rows_of y.amc ≡ rows_of x.amc
  in_unit (units.scans one) = scanned one.scanned
  in_unit (units.examines to drained due found is now) = refl
  in_unit (units.posts to drained due white keep is posted now) = ap (λ (w : Traced). rows_of w.amc) is ∙ kept keep
  in_unit (units.splats drained none one now) = splatted one.splatted
  in_unit (units.reclaims base left next others is) = ap rows_of next.at_hand

  in_last : {x z : Traced} {run : Running} → units.LastUnitTo layout formats x run z → rows_of z.amc ≡ rows_of x.amc
  in_last last = ap (λ (w : Traced). rows_of w.amc) last.over ∙ ap rows_of last.reclaimed.at_hand

  in_units_to : {x : Traced} {f : FinalsState} {run : Running} {count : ℕ} {y : Traced} {f' : FinalsState} {run' : Running}
      → units.UnitsTo layout formats chains x f run count y f' run'
      → rows_of y.amc ≡ rows_of x.amc
  in_units_to units.begins = refl
  in_units_to (units.goes_on count before one) = in_unit one ∙ in_units_to before

  -- ---- how a collection begins

  begun_so : {what : Condemn} {points : PointsState} {r r' : RootsState} {f f' : FinalsState} {x z : Traced} {run : Running}
      → Begins layout formats chains what points r f x r' f' z run → rows_of z.amc ≡ rows_of x.amc
  begun_so {x = x} begins = in_messages begins.messages ∙ in_tables begins.slots ∙ emptied x.amc.tails

  over_so : {what : Condemn} {points : PointsState} {r r' : RootsState} {f f' : FinalsState} {x z : Traced}
      → EndsAtOnce formats chains what points r f x r' f' z → rows_of z.amc ≡ rows_of x.amc
  over_so {x = x} ends = ap (λ (w : Traced). rows_of w.amc) ends.over ∙ emptied x.amc.tails

  pub after_begin : (what : Condemn) (points : PointsState) (r r' : RootsState) (f f' : FinalsState) (x z : Traced) (begun : Option Running)
      → IfSome begun (λ run. Begins layout formats chains what points r f x r' f' z run)
      → IfNone begun (EndsAtOnce formats chains what points r f x r' f' z) → rows_of z.amc ≡ rows_of x.amc
  after_begin what points r r' f f' x z (Some run) begins ends = begun_so begins
  after_begin what points r r' f f' x z None begins ends = over_so ends

  -- ---- a whole collection

  pub collected : {points : PointsState} {r r' : RootsState} {f f' : FinalsState} {x z : Traced} {most : ℕ}
      → Collects layout formats chains points r f x most r' f' z → rows_of z.amc ≡ rows_of x.amc
  collected (at_once ends) = over_so ends
  collected (in_units run begins ends) = in_last ends.last ∙ in_units_to ends.units ∙ begun_so begins

  -- ---- what a running collection does

  pub after_unit : (x y : Traced) (f f' : FinalsState) (run : Running) (next : Option Running)
      → IfSome next (λ run'. units.UnitTo layout formats chains x f run y f' run')
      → IfNone next (units.LastUnitTo layout formats x run y × (f' ≡ f)) → rows_of y.amc ≡ rows_of x.amc
  after_unit x y f f' run (Some run') one last = in_unit one
  after_unit x y f f' run None one last = in_last last.0

  pub after_units : (x y : Traced) (f f' : FinalsState) (run : Running) (most : ℕ) (next : Option Running)
      → IfSome next (λ run'. units.UnitsTo layout formats chains x f run most y f' run')
      → IfNone next (units.EndsWithin layout formats chains x f run most y f') → rows_of y.amc ≡ rows_of x.amc
  after_units x y f f' run most (Some run') goes ends = in_units_to goes
  after_units x y f f' run most None goes ends = in_last ends.last ∙ in_units_to ends.units

  in_scans : {t : Segment} {x y : Traced} {count : ℕ} → barrier.ScansIn layout formats chains t x count y
      → rows_of y.amc ≡ rows_of x.amc
  in_scans barrier.scans_none = refl
  in_scans (barrier.scans_one_more count at before lowest one) = scanned one ∙ in_scans before

  in_splatted : {t : Segment} {x y : Traced} {count : ℕ} → barrier.SplatsIn layout formats t x count y → rows_of y.amc ≡ rows_of x.amc
  in_splatted barrier.splats_none = refl
  in_splatted (barrier.splats_one_more count at before lowest one) = splatted one ∙ in_splatted before

  pub accessed : (band : Band) (t : Segment) (x z : Traced) → barrier.AccessesTo layout formats chains band t x z
      → rows_of z.amc ≡ rows_of x.amc
  accessed Exact t x z access = in_scans access.scans
  accessed Final t x z access = in_scans access.scans
  accessed Weak t x z access = in_splatted access.splats
  accessed Reclaim t x z access = ap (λ (w : Traced). rows_of w.amc) access
