-- All slots and then all messages are fixed at a flip: steps of the abstract collector.
use Rattle.std.proofs.Common.{◌≡◌, ◌∙◌, ℕ, ◌<◌, sym, ap, refl, List, [], ◌∷◌, ◌++◌, length, map, Option, Some, subst, arith}
use Rattle.std.proofs.lemmas.List.{append-nil}
use Rattle.std.proofs.lemmas.Option.{none-some}
use Rattle.std.specs.Prelude.{slice_get, slice_index_or, take}
use Rattle.mps_base.specs.Address.{Id, Address}
use Rattle.mps_model.specs.Graph.{entries, ids_in_slots}
use Rattle.mps_abstract.specs.Fixing.{Fixes, fixes_no_more}
use Rattle.mps_trace_laws.proofs.Fix.ScanRun.{shaped_still}
use Rattle.mps_trace_laws.specs.Roots.Beginning.{AreRootsFixed}
use Rattle.mps_trace_laws.proofs.Roots.Rows.{joined, still_where, run_messages, ready_messages}
use Rattle.mps_trace_laws.proofs.Roots.Tables.{all_of, entries_append, still_held, run_tables, ready_tables}
use Rattle.std.specs.List.{flat_map}
use Rattle.mps_trace.specs.State.{FinalsState}
use Rattle.mps_format.specs.Layout.{Layout}
use Rattle.mps_trace.specs.GenState.{ChainsState}
use Rattle.mps_root.specs.State.{RootsState}
use Rattle.mps_model.specs.World.{World}
use Rattle.mps_abstract.specs.Collecting.{Collecting}
use Rattle.mps_abstract.specs.FlipLaws.{FixesHeld}
use Rattle.mps_trace_laws.specs.Image.Image.{CellSet, AreShaped}
use Rattle.mps_trace.specs.Trace.{Traced, TraceState}
use Rattle.mps_format.specs.declared.pool.Policy.{Policy}
use Rattle.mps_trace_laws.specs.Image.Memory.{pool_layout}
use Rattle.mps_trace.specs.Begin.{CanFixRoots}
use Rattle.mps_trace_laws.specs.Fix.Tracing.{TracingStands}
use Rattle.mps_trace_laws.specs.Roots.Rows.{AreHeldAtFlip}
use Rattle.mps_trace_laws.specs.Roots.Tables.{AreTablesHeld}
use Rattle.mps_trace.specs.Roots.{FixesMessages, FixesTables}

whole : {A : Type 0} (xs : List A) (n : ℕ) → n ≡ length xs → take n xs ≡ xs
whole xs n is = ap (λ m. take m xs) is ∙ go xs
  where
    go : {A : Type 0} (xs : List A) → take (length xs) xs ≡ xs
    go [] = refl
    go (x ∷ xs) = ap (λ ys. x ∷ ys) (go xs)

row_below : {A : Type 0} (rows : List A) (n : ℕ) (row : A) → slice_get rows n ≡ Some row → n < length rows
row_below [] n row is = absurd (none-some row is)
row_below (r ∷ rs) Rattle.std.proofs.Common.zero row is = omega arith
row_below (r ∷ rs) (Rattle.std.proofs.Common.suc n) row is = let h = row_below rs n row is in omega (arith, h)

-- fixing all slots and then all messages is steps of the abstract collector
pub roots_are_steps : {F : Type 0}
    → (layout : F → Layout) (formats : List (Option (Policy F))) (of : ChainsState) (at_flip : List (Option Address)) (done : CellSet)
    (x between z : Traced) (y : Collecting) (rows : List (List (Option Id))) (ids : List Id) (roots roots' : RootsState)
    (finals finals' : FinalsState)
    → AreShaped y.world.graph.objects (pool_layout y.world) → TracingStands layout formats of at_flip done x y
    → AreTablesHeld at_flip y roots rows → AreHeldAtFlip at_flip y finals.messages (map Some ids)
    → FixesTables layout formats of roots x (length roots.order) roots' between
    → FixesMessages layout formats of finals between (length finals.messages) finals' z
    → AreRootsFixed layout formats of at_flip done x z y roots roots' finals' rows ids
unfolding joined
roots_are_steps {F} layout formats of at_flip done x between z y rows ids roots roots' finals finals' shaped stands held messages tables
    run =
    let one = run_tables layout formats of at_flip done x y rows roots shaped stands held tables (omega arith) in
    let y' = one.fixed.after in
    let targets = map Some ids in
    let held_now = still_held at_flip y y' finals.messages targets one.fixed.leaves one.fixed.same messages in
    let two =
    run_messages layout formats of at_flip done between y' targets finals (shaped_still y.world y'.world one.fixed.same shaped)
    one.fixed.stands held_now run (omega arith)
    in
    let count = length roots.order in
    let total = length finals.messages in
    record {
      fixed =
          joined layout formats of at_flip done x between z y (all_of (take count rows)) (take total targets) (all_of rows ++ targets)
          one.fixed two.fixed
          (λ rest. entries_append (all_of rows) targets rest
          ∙ ap (λ rs. entries (all_of rs) ++ (entries targets ++ rest)) (sym (whole rows count (sym held.long)))
          ∙ ap (λ ts. entries (all_of (take count rows)) ++ (entries ts ++ rest)) (sym (whole targets total (sym messages.long))));
      slots = λ n row e i t is.
          let low = row_below rows n row e in
          let long = held.long in
          still_where y' two.fixed.after (slice_index_or (Rattle.mps_root.specs.State.items_of roots'.tables
          (Rattle.mps_trace.specs.Roots.key_at roots n)) i 0) t two.fixed.leaves two.fixed.same_condemned
          (one.answers n row (omega (arith, low, long)) e i t is);
      messages = λ i t e.
          let low = row_below targets i t e in let long = messages.long in two.answers i t (omega (arith, low, long)) e;
    }

-- and they can be fixed
pub roots_are_ready : {F : Type 0}
    → (layout : F → Layout) (t : TraceState F) (at_flip : List (Option Address)) (done : CellSet) (x : Traced) (y : Collecting)
    (rows : List (List (Option Id))) (ids : List Id) (roots : RootsState) (finals : FinalsState)
    → AreShaped y.world.graph.objects (pool_layout y.world) → TracingStands layout t.formats t.chains at_flip done x y
    → AreTablesHeld at_flip y roots rows → AreHeldAtFlip at_flip y finals.messages (map Some ids) → CanFixRoots layout t roots finals x
roots_are_ready {F} layout t at_flip done x y rows ids roots finals shaped stands held messages = record {
  slots = λ count roots' w within tables slots roots'' z' below run.
      ready_tables layout t.formats t.chains at_flip done x y rows roots shaped stands held count slots roots' roots'' w z' within tables
      below run;
  messages = λ roots' w tables count finals' z within run.
      let one = run_tables layout t.formats t.chains at_flip done x y rows roots shaped stands held tables (omega arith) in
      let y' = one.fixed.after in
      ready_messages layout t.formats t.chains at_flip done w y' (map Some ids) finals
      (shaped_still y.world y'.world one.fixed.same shaped) one.fixed.stands
      (still_held at_flip y y' finals.messages (map Some ids) one.fixed.leaves one.fixed.same messages) count finals' z run within;
}

entries_of_ids : (ids : List Id) → entries (map Some ids) ≡ ids
entries_of_ids [] = refl
entries_of_ids (id ∷ ids) = ap (λ ns. id ∷ ns) (entries_of_ids ids)

-- if the tables in order hold what slots of a world do, and messages are its messages, this is what a flip of that world fixes
pub what_is_held_is_fixed : {F : Type 0}
    → (layout : F → Layout) (formats : List (Option (Policy F))) (of : ChainsState) (at_flip : List (Option Address)) (done : CellSet)
    (x z : Traced) (y : Collecting) (rows : List (List (Option Id))) (ids : List Id) (roots roots' : RootsState) (finals' : FinalsState)
    (w : World) (all : AreRootsFixed layout formats of at_flip done x z y roots roots' finals' rows ids)
    → entries (flat_map (λ row. row) rows) ≡ ids_in_slots w.graph → ids ≡ w.graph.messages
    → FixesHeld w y all.fixed.moves all.fixed.after
what_is_held_is_fixed {F} layout formats of at_flip done x z y rows ids roots roots' finals' w all slots messages =
    let f = all.fixed in
    let these = entries (all_of rows ++ map Some ids) in
    subst (λ ns. Fixes y ns f.moves f.after)
    (entries_append (all_of rows) (map Some ids) [] ∙ ap (λ ns. entries (all_of rows) ++ ns) (append-nil (entries (map Some ids)))
    ∙ ap (λ ns. entries (all_of rows) ++ ns) (entries_of_ids ids ∙ messages) ∙ ap (λ ns. ns ++ w.graph.messages) slots)
    (subst (λ ms. Fixes y (these ++ []) ms f.after) (append-nil f.moves) (f.fixes [] [] f.after fixes_no_more))
