-- A `get` leaves no more units than there were: its read barrier scans what is to be scanned in a segment, and the read changes a slot
-- alone.
use Rattle.std.proofs.Common.{◌≡◌, ◌∙◌, ◌≤◌, ℕ, refl, sym, ap, subst, Option, Some, None, Ok, Err, arith}
use Rattle.std.specs.Option.{option_map_or}
use Rattle.mps_base.specs.Address.{Address}
use Rattle.mps_base.specs.Segment.{Segment}
use Rattle.mps_base.specs.Trail.{Moves}
use Rattle.mps_base.specs.declared.names.Slot.{Slot}
use Rattle.mps_amc.proofs.Found.{over_is_there}
use Rattle.mps_format.specs.Layout.{Layout}
use Rattle.mps_model.specs.Checked.{Checked, ◌>>=◌}
use Rattle.mps_model.specs.World.{World}
use Rattle.mps_refinement.proofs.Collect.LiveIsFew.{most_now}
use Rattle.mps_trace.specs.Trace.{Traced}
use Rattle.mps_trace.specs.declared.running.Running.{Running as RunningState}
use Rattle.mps_abstract.specs.Collecting.{Collecting}
use Rattle.mps_abstract.proofs.Barrier.{barrier_is_done}
use Rattle.mps_heap_spec.specs.Coming.{Outcome, done, state_from}
use Rattle.mps_heap_spec.specs.Finding.{object_in, reference_cell_at, slot_in}
use Rattle.mps_heap_spec.specs.Getting.{IsGot, is_refused, reads, with_traced, after_access}
use Rattle.mps_heap_spec.specs.Objects.{reference_got, with_slot}
use Rattle.mps_heap_spec.specs.State.{HeapState}
use Rattle.mps_heap_spec.specs.declared.found.Block.{Block}
use Rattle.mps_heap_spec.specs.declared.found.CellFound.{CellFound}
use Rattle.mps_heap_spec.specs.declared.found.Entry.{Entry}
use Rattle.mps_refinement.specs.StandsFor.{AreParts, Past, Runs, StandsFor, collector_of, runs}
use Rattle.mps_refinement.specs.UnitsLeft.{units_from, units_left}
use Rattle.mps_refinement.proofs.Left.AfterUnits.{as_many_followed, none_at_rest}
use Rattle.mps_refinement.proofs.Left.Alike.{units_alike}
use Rattle.mps_refinement.proofs.Units.Accesses.{IsAccessed, access_is_done}
use Rattle.mps_refinement.proofs.Units.FromUnits.{collector_after}
use Rattle.mps_refinement.proofs.Units.Gets.{its_segment}
use Rattle.mps_refinement.proofs.Units.MovedParts.{collected_heap}
use Rattle.mps_refinement.proofs.Worlds.InSteps.{known_after_barrier}
use Rattle.mps_refinement.proofs.Worlds.Known.{known_now}
use Rattle.mps_refinement.proofs.Worlds.LikeReached.{IsBare}
use Rattle.mps_refinement.proofs.Following.WithoutPairs.{alone}
use Rattle.mps_refinement.proofs.Worlds.RunningNow.{running_now}
use Rattle.mps_heap_spec.specs.Following.{made_since}

-- ---- the read

-- what is true of a heap, and of the state that each of these outcomes leaves, is true of what the first of them leaves
state_of : {F A B : Type 0} (P : HeapState F → Type 0) (h : HeapState F) (check : Checked A) (then : A → Checked (Outcome F B)) → P h
    → ((a : A) → P (state_from h (then a))) → P (state_from h (check >>= then))
state_of P h (Ok a) then here each = each a
state_of P h (Err why) then here each = here

module _ {F : Type 0} (layout : F → Layout) (h : HeapState F) (target source : Slot) (k : ℕ) where
  abbrev AsMany : HeapState F → Type 0
  AsMany g = units_left g ≡ units_left h

  -- what comes after the slot, and after the object
  abbrev from_cell : Entry Address → Block F → CellFound → Checked (Outcome F (Unit {0}))
  from_cell into object cell = done (with_slot h into ((layout object.format).target cell.value))

  abbrev from_object : Entry Address → Block F → Checked (Outcome F (Unit {0}))
  from_object into object = reference_cell_at layout h.segs.words object k >>= from_cell into object

  read_leaves_as_many : AsMany (state_from h (reference_got layout h target source k))
  read_leaves_as_many =
      state_of AsMany h (slot_in h target) (λ into. object_in layout h source >>= from_object into) refl (λ into.
      state_of AsMany h (object_in layout h source) (from_object into) refl (λ object.
      state_of AsMany h (reference_cell_at layout h.segs.words object k) (from_cell into object) refl (λ cell. refl)))

-- ---- the barrier, while a collection runs

module _ {F : Type 0} (layout : F → Layout) (past : Past) (h : HeapState F) (x : Collecting) (parts : AreParts layout past h x.world)
    (bare : IsBare x.world) (r : Runs past.time (collector_of h) x.world x) (m : Moves)
    (s : Segment) (z : Traced) (is : IsAccessed layout past h x r m s z) where
  barrier_leaves_no_more : units_left (with_traced h z) ≤ units_left h
  barrier_leaves_no_more =
      let did = barrier_is_done s x is.after is.moves r.invariant is.barrier in
      let knows_then =
      known_after_barrier is.time (collector_after z r.run) s x is.after is.moves bare.like r.invariant is.barrier
      (runs is.after is.runs)
      in
      let before = units_alike layout past h x parts bare.like.formed r in
      let after =
      units_alike layout (record past { time = is.time }) (collected_heap h (collector_after z r.run) h.finals) is.after is.parts
      knows_then.formed is.runs
      in
      let fewer = did.no_more in
      let same : units_left (with_traced h z) ≡ units_left (collected_heap h (collector_after z r.run) h.finals) =
      ap (λ (o : Option RunningState). option_map_or (units_from z.segs) o 0) r.running in
      omega (arith, before, after, fewer, same)

-- ---- the call

module _ {F : Type 0} (layout : F → Layout) (h : HeapState F) (m : Moves) (room : most_now h.segs ≤ m.spare) (target source : Slot)
    (k : ℕ) (result : Checked (Unit {0})) (after : HeapState F) (m' : Moves) where
  pub get_leaves_no_more : (w : World) → StandsFor layout h w → IsGot layout h m target source k result after m'
      → units_left after ≤ units_left h
  get_leaves_no_more w st (is_refused why e answer state trail) =
      subst (λ g. units_left g ≤ units_left h) (sym state) (omega arith)
  get_leaves_no_more w st (reads z accessed comes trail) =
      let read =
      ap (λ (g : HeapState F). units_left g) comes.state ∙ read_leaves_as_many layout (after_access layout h m z) target source k
      ∙ as_many_followed layout (with_traced h z) (made_since m z.moves) in
      let scanned = of_running h.running refl in
      omega (arith, read, scanned)
    where
      while_it_runs : (run : RunningState) → h.running ≡ Some run → units_left (with_traced h z) ≤ units_left h
      while_it_runs run is =
          let g = running_now layout h w st run is in
          let whole = accessed.accessed.whole g.runs.run g.runs.running in
          let over = its_segment layout st.past h w st.parts (known_now st) st.reached 0 target source k accessed.object accessed.found in
          barrier_leaves_no_more layout g.past (alone h) g.collecting g.parts g.bare g.runs m over.0 z
          (access_is_done layout g.past (alone h) g.collecting g.parts g.bare g.runs whole.tails whole.marked m room over.0
          (over_is_there h.segs.segments accessed.object.at over.0 over.1) z
          (accessed.accessed.runs g.runs.run g.runs.running over.0 over.1))

      of_running : (o : Option RunningState) → h.running ≡ o → units_left (with_traced h z) ≤ units_left h
      of_running None rest = let none = none_at_rest (with_traced h z) rest in omega (arith, none)
      of_running (Some run) is = while_it_runs run is
