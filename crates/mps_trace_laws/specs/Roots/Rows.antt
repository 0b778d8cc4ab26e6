-- What the collector does with a sequence of slots, or with all messages, is to the abstract collector.
use Rattle.std.specs.Prelude.{◌≡◌, ℕ, ◌<◌, ◌≤◌, IsTrue, Option, Some, None, List, take, length, slice_get, slice_index_or}
use Rattle.mps_base.specs.Address.{Address, Id}
use Rattle.mps_format.specs.Layout.{Layout}
use Rattle.mps_trace.specs.GenState.{ChainsState}
use Rattle.mps_model.specs.Graph.{Object, entry_at, is_automatic}
use Rattle.mps_abstract.specs.Collecting.{Collecting}
use Rattle.mps_trace_laws.specs.Image.Image.{CellSet}
use Rattle.mps_trace.specs.Trace.{Traced}
use Rattle.mps_trace_laws.specs.Roots.OneRoot.{AreFixed, IsWhere}
use Rattle.mps_format.specs.declared.pool.Policy.{Policy}

-- an address is the one that a live automatic object had at the flip, and isn't null
pub record WasAt (at_flip : List (Option Address)) (y : Collecting) (at : Address) (t : Id) : Type 0 where
  pub positive : 0 < at
  pub was : entry_at at_flip t ≡ Some at
  pub now : Address
  pub there : entry_at y.world.addresses t ≡ Some now
  pub object : Object
  pub has : slice_get y.world.graph.objects t ≡ Some object
  pub automatic : IsTrue (is_automatic object)

-- a slot holds what it held at the flip: null, or where its target was
abbrev pub HoldsAtFlip : (at_flip : List (Option Address)) → Collecting → (at : Address) → Option Id → Type 0
HoldsAtFlip at_flip y at None = at ≡ 0
HoldsAtFlip at_flip y at (Some t) = WasAt at_flip y at t

-- so does each slot of a row
pub record AreHeldAtFlip (at_flip : List (Option Address)) (y : Collecting) (slots : List Address) (targets : List (Option Id))
    : Type 0 where
  pub long : length targets ≡ length slots
  pub each : (i : ℕ) (target : Option Id) → slice_get targets i ≡ Some target → HoldsAtFlip at_flip y (slice_index_or slots i 0) target

-- the slots of a sequence before one of them were fixed, and hold where their targets are then. The others hold what they held
pub record AreFixedBefore {F : Type 0} (layout : F → Layout) (formats : List (Option (Policy F))) (of : ChainsState)
    (at_flip : List (Option Address)) (done : CellSet) (x z : Traced) (y : Collecting) (slots slots' : List Address)
    (targets : List (Option Id)) (before : ℕ)
    : Type 0 where
  pub fixed : AreFixed layout formats of at_flip done x z y (take before targets)
  pub long : length slots' ≡ length slots
  pub answers : (i : ℕ) (target : Option Id) → i < before → slice_get targets i ≡ Some target
      → IsWhere fixed.after (slice_index_or slots' i 0) target
  pub rest : (i : ℕ) → before ≤ i → slice_index_or slots' i 0 ≡ slice_index_or slots i 0
