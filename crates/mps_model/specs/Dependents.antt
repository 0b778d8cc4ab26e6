-- The commands on dependents: a weak object has another one whose references go with its own.
use Rattle.std.specs.Prelude.{◌≡◌, ℕ, Bool, not, ◌&&◌, nat_le, is_none, Some, List, [], ◌∷◌, length, refl}
use Rattle.mps_base.specs.Address.{Id}
use Rattle.mps_base.specs.declared.names.Slot.{Slot}
use Rattle.mps_base.specs.declared.refusal.Refusal.TheVariants as refusal
use Rattle.mps_model.specs.Graph.{Graph, Object, is_weak_object, dependent_in, without_holder, with_last}
use Rattle.mps_model.specs.World.{World, is_weak_kind, pool_is}
use Rattle.mps_model.specs.Checked.{Act, Checked, ◌>>=◌, ◌>>◌, required, refuse_when, done, slot_in, object_in, with_graph}

-- n pairs of an object and its dependent
abbrev pub most_dependents : ℕ
most_dependents = 1024

-- whether an object may be the dependent of another: that one is weak, and this one isn't, of a pool that may hold weak ones
abbrev pub may_depend : World → (holder dependent : Object) → Bool
may_depend w holder dependent =
    is_weak_object holder && (pool_is is_weak_kind w dependent.pool && not (is_weak_object dependent))

-- pairs in which an object has this dependent, in the place of an earlier one
abbrev pub with_dependent : List (Id × Id) → (holder dependent : Id) → List (Id × Id)
with_dependent ps holder dependent = with_last (without_holder ps holder) (holder, dependent)

abbrev pub graph_with_dependents : Graph → List (Id × Id) → Graph
graph_with_dependents g ps = record g { dependents = ps }

abbrev pub act_depend : World → Slot → Slot → Checked Act
act_depend w holder dependent = do
  from ← slot_in w holder
  to ← slot_in w dependent
  weak ← object_in w from.value
  exact ← object_in w to.value
  refuse_when (not (may_depend w weak.value exact.value)) refusal.WrongPool
  refuse_when (is_none (dependent_in w.graph.dependents weak.number) && nat_le most_dependents (length w.graph.dependents))
      (refusal.TooMany most_dependents)
  done (with_graph w (graph_with_dependents w.graph (with_dependent w.graph.dependents weak.number exact.number)))

abbrev pub act_undepend : World → Slot → Checked Act
act_undepend w holder = do
  from ← slot_in w holder
  weak ← object_in w from.value
  required (dependent_in w.graph.dependents weak.number) refusal.NotLinked
  done (with_graph w (graph_with_dependents w.graph (without_holder w.graph.dependents weak.number)))

-- ---- vectors

pub an_earlier_dependent_is_replaced : with_dependent ((0, 1) ∷ (2, 1) ∷ []) 0 3 ≡ (2, 1) ∷ (0, 3) ∷ []
an_earlier_dependent_is_replaced = refl

pub a_dependent_may_have_many_holders : dependent_in (with_dependent ((0, 1) ∷ []) 2 1) 0 ≡ Some 1
a_dependent_may_have_many_holders = refl

pub no_holder_has_two : dependent_in (with_dependent ((0, 1) ∷ []) 0 3) 0 ≡ Some 1 → ⊥
no_holder_has_two e = absurd cc
