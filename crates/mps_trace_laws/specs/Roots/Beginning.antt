-- What fixing all slots and then all messages at a flip is to the abstract collector.
use Rattle.std.specs.Prelude.{◌≡◌, ℕ, Option, Some, List, ◌++◌, map, slice_get, slice_index_or}
use Rattle.std.specs.List.{flat_map}
use Rattle.mps_base.specs.Address.{Address, Id}
use Rattle.mps_trace.specs.State.{FinalsState}
use Rattle.mps_format.specs.Layout.{Layout}
use Rattle.mps_trace.specs.GenState.{ChainsState}
use Rattle.mps_root.specs.State.{RootsState}
use Rattle.mps_abstract.specs.Collecting.{Collecting}
use Rattle.mps_trace_laws.specs.Image.Image.{CellSet}
use Rattle.mps_trace.specs.Trace.{Traced}
use Rattle.mps_trace.specs.Roots.{key_at, slot_of}
use Rattle.mps_trace_laws.specs.Roots.OneRoot.{AreFixed, IsWhere}
use Rattle.mps_format.specs.declared.pool.Policy.{Policy}

-- all were fixed, slots before messages, and hold where their objects are then
pub record AreRootsFixed {F : Type 0} (layout : F → Layout) (formats : List (Option (Policy F))) (of : ChainsState)
    (at_flip : List (Option Address)) (done : CellSet) (x z : Traced) (y : Collecting) (roots roots' : RootsState) (finals' : FinalsState)
    (rows : List (List (Option Id))) (ids : List Id)
    : Type 0 where
  pub fixed : AreFixed layout formats of at_flip done x z y (flat_map (λ row. row) rows ++ map Some ids)
  pub slots : (n : ℕ) (row : List (Option Id)) → slice_get rows n ≡ Some row → (i : ℕ) (target : Option Id)
      → slice_get row i ≡ Some target → IsWhere fixed.after (slot_of roots' (key_at roots n) i) target
  pub messages : (i : ℕ) (target : Option Id) → slice_get (map Some ids) i ≡ Some target
      → IsWhere fixed.after (slice_index_or finals'.messages i 0) target
