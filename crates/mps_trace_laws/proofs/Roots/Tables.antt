-- All tables are fixed, in the order in which they were made: steps of the abstract collector.
use Rattle.std.proofs.Common.{◌≡◌, ◌∙◌, ℕ, zero, suc, ◌+◌, ◌<◌, ◌≤◌, refl, sym, ap, List, [], ◌∷◌, ◌++◌, length, Option, Some, None, subst, inl, inr, arith}
use Rattle.std.proofs.lemmas.Bool.{cases_eq}
use Rattle.std.proofs.lemmas.Option.{none-some, same_Some}
use Rattle.std.specs.List.{flat_map}
use Rattle.std.specs.Prelude.{slice_get, take, ◌≢◌}
use Rattle.mps_base.specs.Address.{Address, Id}
use Rattle.mps_format.specs.Layout.{Layout}
use Rattle.mps_trace.specs.GenState.{ChainsState}
use Rattle.mps_model.specs.Graph.{Graph, entries}
use Rattle.mps_root.specs.State.{RootsState, items_of, with_item}
use Rattle.mps_abstract.specs.Collecting.{Collecting}
use Rattle.mps_trace_laws.specs.Image.Memory.{pool_layout}
use Rattle.mps_trace_laws.specs.Image.Image.{CellSet, AreShaped}
use Rattle.mps_trace_laws.specs.Image.Scanning.{LeavesOthers}
use Rattle.mps_trace.specs.Trace.{Traced}
use Rattle.mps_trace.specs.Roots.{CanFixRootAt, FixesSlots, FixesTable, FixesTables, begins, goes_on, key_at, slot_of}
use Rattle.mps_trace_laws.specs.Fix.Steps.{IsSameGraph}
use Rattle.mps_trace_laws.specs.Fix.Tracing.{TracingStands}
use Rattle.mps_trace_laws.proofs.Fix.ScanRun.{shaped_still}
use Rattle.mps_trace_laws.specs.Roots.OneRoot.{IsWhere}
use Rattle.mps_trace_laws.specs.Roots.Rows.{HoldsAtFlip, AreHeldAtFlip}
use Rattle.mps_trace_laws.specs.Roots.Tables.{AreTablesHeld, AreTablesFixed}
use Rattle.mps_trace_laws.proofs.Roots.OneRoot.{none_fixed}
use Rattle.mps_trace_laws.proofs.Roots.Rows.{joined, still_where, run_slots, ready_slots}
use Rattle.mps_format.specs.declared.pool.Policy.{Policy}

-- ---- lists

pub entries_append : (xs ys : List (Option Id)) (ids : List Id) → entries (xs ++ ys) ++ ids ≡ entries xs ++ (entries ys ++ ids)
entries_append [] ys ids = refl
entries_append (None ∷ xs) ys ids = entries_append xs ys ids
entries_append (Some n ∷ xs) ys ids = ap (λ ns. n ∷ ns) (entries_append xs ys ids)

abbrev pub all_of : List (List (Option Id)) → List (Option Id)
all_of rows = flat_map (λ row. row) rows

more_rows : (rows : List (List (Option Id))) (k : ℕ) (row : List (Option Id)) (ids : List Id) → slice_get rows k ≡ Some row
    → entries (all_of (take (suc k) rows)) ++ ids ≡ entries (all_of (take k rows)) ++ (entries row ++ ids)
more_rows [] k row ids is = absurd (none-some row is)
more_rows (r ∷ rs) zero row ids is = entries_append r [] ids ∙ ap (λ u. entries u ++ ids) (same_Some r row is)
more_rows (r ∷ rs) (suc k) row ids is =
    entries_append r (all_of (take (suc k) rs)) ids ∙ ap (λ ns. entries r ++ ns) (more_rows rs k row ids is)
    ∙ sym (entries_append r (all_of (take k rs)) (entries row ++ ids))

whole : (row : List (Option Id)) → take (length row) row ≡ row
whole [] = refl
whole (t ∷ ts) = ap (λ us. t ∷ us) (whole ts)

has_row : (rows : List (List (Option Id))) (k : ℕ) → k < length rows → (row : List (Option Id)) × (slice_get rows k ≡ Some row)
has_row [] k within = absurd (omega (arith, within))
has_row (r ∷ rs) zero within = (r, refl)
has_row (r ∷ rs) (suc k) within = has_row rs k (omega (arith, within))

pub below_length : (row : List (Option Id)) (i : ℕ) (t : Option Id) → slice_get row i ≡ Some t → i < length row
below_length [] i t is = absurd (none-some t is)
below_length (u ∷ us) zero t is = omega arith
below_length (u ∷ us) (suc i) t is = let h = below_length us i t is in omega (arith, h)

-- a table is as before where another was written
items_other : (rows : List (Option (List ℕ))) (key other index : ℕ) (value : Address) → other ≢ key
    → items_of (with_item rows key index value) other ≡ items_of rows other
items_other [] key other index value apart = refl
items_other (row ∷ rows) zero zero index value apart = absurd (apart refl)
items_other (row ∷ rows) zero (suc other) index value apart = refl
items_other (row ∷ rows) (suc key) zero index value apart = refl
items_other (row ∷ rows) (suc key) (suc other) index value apart =
    items_other rows key other index value (λ e. apart (ap suc e))

-- ---- what stays

still_at_flip : (at_flip : List (Option Address)) (y y' : Collecting) (at : Address) (target : Option Id)
    → LeavesOthers y.running.condemned y.world.addresses y'.world.addresses y.colours y'.colours → IsSameGraph y.world y'.world
    → HoldsAtFlip at_flip y at target → HoldsAtFlip at_flip y' at target
still_at_flip at_flip y y' at None leaves same null = null
still_at_flip at_flip y y' at (Some t) leaves same w =
    let live = leaves.live t w.now w.there in
    record {
      positive = w.positive;
      was = w.was;
      now = live.0;
      there = live.1;
      object = w.object;
      has = ap (λ (g : Graph). slice_get g.objects t) same.graph ∙ w.has;
      automatic = w.automatic;
    }

pub still_held : (at_flip : List (Option Address)) (y y' : Collecting) (slots : List Address) (targets : List (Option Id))
    → LeavesOthers y.running.condemned y.world.addresses y'.world.addresses y.colours y'.colours → IsSameGraph y.world y'.world
    → AreHeldAtFlip at_flip y slots targets → AreHeldAtFlip at_flip y' slots targets
still_held at_flip y y' slots targets leaves same held = record {
  long = held.long;
  each = λ i target e.
      still_at_flip at_flip y y' (Rattle.std.specs.Prelude.slice_index_or slots i 0) target leaves same (held.each i target e);
}

module _ {F : Type 0} (layout : F → Layout) (formats : List (Option (Policy F))) (of : ChainsState) (at_flip : List (Option Address))
    (done : CellSet) where
  other_table : (key other : ℕ) (roots : RootsState) (x : Traced) → other ≢ key → {count : ℕ} {roots' : RootsState} {z : Traced}
      → FixesSlots layout formats of key roots x count roots' z → items_of roots'.tables other ≡ items_of roots.tables other
  other_table key other roots x apart begins = refl
  other_table key other roots x apart (goes_on {roots' = r} count at earlier fixes is) =
      ap (λ (q : RootsState). items_of q.tables other) is ∙ items_other r.tables key other count at apart
      ∙ other_table key other roots x apart earlier

  module _ (x : Traced) (y : Collecting) (rows : List (List (Option Id))) (roots : RootsState)
      (shaped : AreShaped y.world.graph.objects (pool_layout y.world)) (stands : TracingStands layout formats of at_flip done x y)
      (held : AreTablesHeld at_flip y roots rows) where
    abbrev Before : Traced → RootsState → ℕ → Type 0
    Before z roots' before = AreTablesFixed layout formats of at_flip done x z y roots roots' rows before

    start : Before x roots 0
    start = record {
      fixed = none_fixed layout formats of at_flip done x y [] refl stands;
      answers = λ n row below e i target is. absurd (omega (arith, below));
      rest = λ n low within. refl;
    }

    module _ (z : Traced) (roots' : RootsState) (k : ℕ) (run : Before z roots' k) (within : k < length roots.order) where
      abbrev y' : Collecting
      y' = run.fixed.after

      abbrev key : ℕ
      key = key_at roots k

      pub the_row : (row : List (Option Id)) × (slice_get rows k ≡ Some row)
      the_row = has_row rows k (let long = held.long in omega (arith, long, within))

      pub held_now : AreHeldAtFlip at_flip y' (items_of roots'.tables key) the_row.0
      held_now =
          subst (λ slots. AreHeldAtFlip at_flip y' slots the_row.0) (sym (run.rest k (omega arith) within))
          (still_held at_flip y y' (items_of roots.tables key) the_row.0 run.fixed.leaves run.fixed.same
          (held.each k the_row.0 the_row.1))

      pub shaped_now : AreShaped y'.world.graph.objects (pool_layout y'.world)
      shaped_now = shaped_still y.world y'.world run.fixed.same shaped

      can_slot : (count : ℕ) (roots'' : RootsState) (z' : Traced) → FixesSlots layout formats of key roots' z count roots'' z'
          → count < length (items_of roots'.tables key) → CanFixRootAt layout formats of z' (slot_of roots'' key count)
      can_slot count roots'' z' slots below =
          ready_slots layout formats of at_flip done z y' the_row.0 key roots' shaped_now run.fixed.stands held_now count roots'' z' slots
          below

      next : (z' : Traced) (roots'' : RootsState) → FixesTable layout formats of key roots' z roots'' z' → Before z' roots'' (k + 1)
      unfolding joined
      next z' roots'' table =
          let row = the_row.0 in
          let count = length (items_of roots'.tables key) in
          let step =
          run_slots layout formats of at_flip done z y' row key roots' shaped_now run.fixed.stands held_now table (omega arith)
          in
          let all =
          joined layout formats of at_flip done x z z' y (all_of (take k rows)) (take count row) (all_of (take (k + 1) rows)) run.fixed
          step.fixed
          (λ ids. ap (λ n. entries (all_of (take n rows)) ++ ids) (let e : k + 1 ≡ suc k = omega arith in e)
          ∙ more_rows rows k row ids the_row.1
          ∙ ap (λ us. entries (all_of (take k rows)) ++ (entries us ++ ids))
          (sym (ap (λ n. take n row) (sym held_now.long) ∙ whole row)))
          in
          let y'' = step.fixed.after in
          record {
            fixed = all;
            answers = λ n r below e i t is. elim (cases_eq n k) [
              | inl here ↦
                  let same : row ≡ r = same_Some row r (sym the_row.1 ∙ ap (slice_get rows) (sym here) ∙ e) in
                  let its : slice_get row i ≡ Some t = ap (λ u. slice_get u i) same ∙ is in
                  let in_row = below_length row i t its in
                  let long = held_now.long in
                  subst (λ m. IsWhere y'' (slot_of roots'' (key_at roots m) i) t) (sym here)
                  (step.answers i t (omega (arith, in_row, long)) its)
              | inr other ↦
                  let earlier : n < k = omega (arith, below, other) in
                  subst (λ slots. IsWhere y'' (Rattle.std.specs.Prelude.slice_index_or slots i 0) t)
                  (sym (other_table key (key_at roots n) roots' z
                  (λ same. other (held.apart n k (omega (arith, earlier, within)) within same)) table))
                  (still_where y' y'' (slot_of roots' (key_at roots n) i) t step.fixed.leaves step.fixed.same_condemned
                  (run.answers n r earlier e i t is))
            ];
            rest = λ n low in_order.
                other_table key (key_at roots n) roots' z
                (λ same. (let e = held.apart n k in_order within same in omega (arith, e, low))) table
                ∙ run.rest n (omega (arith, low)) in_order;
          }

    pub run_tables : {count : ℕ} {roots' : RootsState} {z : Traced} → FixesTables layout formats of roots x count roots' z
        → count ≤ length roots.order → Before z roots' count
    run_tables begins within = start
    run_tables {z = z} (goes_on {roots' = r} {roots'' = r'} {y = w} count earlier table) within =
        next w r count (run_tables earlier (omega (arith, within))) (omega (arith, within)) z r' table

    pub ready_tables : (count slots : ℕ) (roots' roots'' : RootsState) (z z' : Traced) → count < length roots.order
        → FixesTables layout formats of roots x count roots' z → slots < length (items_of roots'.tables (key_at roots count))
        → FixesSlots layout formats of (key_at roots count) roots' z slots roots'' z'
        → CanFixRootAt layout formats of z' (slot_of roots'' (key_at roots count) slots)
    ready_tables count slots roots' roots'' z z' within tables below run =
        can_slot z roots' count (run_tables tables (omega (arith, within))) within slots roots'' z' run below
