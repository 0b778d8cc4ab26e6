-- What the collector does with all tables, in the order in which they were made, is to the abstract collector.
use Rattle.std.specs.Prelude.{◌≡◌, ℕ, ◌<◌, ◌≤◌, Option, Some, List, take, length, slice_get}
use Rattle.std.specs.List.{flat_map}
use Rattle.mps_base.specs.Address.{Address, Id}
use Rattle.mps_format.specs.Layout.{Layout}
use Rattle.mps_trace.specs.GenState.{ChainsState}
use Rattle.mps_root.specs.State.{RootsState, items_of}
use Rattle.mps_abstract.specs.Collecting.{Collecting}
use Rattle.mps_trace_laws.specs.Image.Image.{CellSet}
use Rattle.mps_trace.specs.Trace.{Traced}
use Rattle.mps_trace.specs.Roots.{key_at, slot_of}
use Rattle.mps_trace_laws.specs.Roots.OneRoot.{AreFixed, IsWhere}
use Rattle.mps_trace_laws.specs.Roots.Rows.{AreHeldAtFlip}
use Rattle.mps_format.specs.declared.pool.Policy.{Policy}

-- the tables, in order, hold what they held at the flip, and no table is in that order twice
pub record AreTablesHeld (at_flip : List (Option Address)) (y : Collecting) (roots : RootsState) (rows : List (List (Option Id)))
    : Type 0 where
  pub long : length rows ≡ length roots.order
  pub each : (n : ℕ) (row : List (Option Id)) → slice_get rows n ≡ Some row
      → AreHeldAtFlip at_flip y (items_of roots.tables (key_at roots n)) row
  pub apart : (n m : ℕ) → n < length roots.order → m < length roots.order → key_at roots n ≡ key_at roots m → n ≡ m

-- the tables before one in order were fixed, and hold where their targets are then. The others hold what they held
pub record AreTablesFixed {F : Type 0} (layout : F → Layout) (formats : List (Option (Policy F))) (of : ChainsState)
    (at_flip : List (Option Address)) (done : CellSet) (x z : Traced) (y : Collecting) (roots roots' : RootsState)
    (rows : List (List (Option Id))) (before : ℕ)
    : Type 0 where
  pub fixed : AreFixed layout formats of at_flip done x z y (flat_map (λ row. row) (take before rows))
  pub answers : (n : ℕ) (row : List (Option Id)) → n < before → slice_get rows n ≡ Some row → (i : ℕ) (target : Option Id)
      → slice_get row i ≡ Some target → IsWhere fixed.after (slot_of roots' (key_at roots n) i) target
  pub rest : (n : ℕ) → before ≤ n → n < length roots.order
      → items_of roots'.tables (key_at roots n) ≡ items_of roots.tables (key_at roots n)
