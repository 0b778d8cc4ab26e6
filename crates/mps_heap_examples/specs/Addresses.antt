-- Where the first item of a list lies, and the address that a dependency has of it.
use Rattle.std.proofs.Common.{arith}
use Rattle.std.proofs.lemmas.Option.{same_Some}
use Rattle.std.specs.Prelude.{◌≡◌, ℕ, List, [], ◌∷◌, ◌++◌, Some, refl}
use Rattle.mps_base.specs.Address.{Address, Id}
use Rattle.mps_base.specs.declared.refusal.Refusal.{Refusal}
use Rattle.mps_base.specs.declared.refusal.Refusal.TheVariants as refusal
use Rattle.mps_format.specs.Layout.{Layout}
use Rattle.mps_format.specs.TailExample.{tail_layout}
use Rattle.mps_model.specs.Graph.{DependencyThing}
use Rattle.mps_model.specs.World.{World, address_of}
use Rattle.mps_laws.specs.Depending.{blocks_of_dependency}
use Rattle.mps_laws.specs.Held.{letter, slot_of_t}
use Rattle.mps_client_laws.specs.Slots.{slot_value}
use Rattle.mps_heap_spec.specs.State.{HeapState}
use Rattle.mps_refinement.specs.StandsFor.{StandsFor}
use Rattle.mps_heap_examples.specs.Listed.{two_items}
use Rattle.mps_heap_examples.specs.declared.tail.Tail.{Tail}

-- a heap of this format represents a world
abbrev pub Represents : HeapState Tail → World → Type 0
Represents h w = StandsFor (λ _. tail_layout) h w

-- slot 0 of the table t refers to this object, which lies at this address
pub record IsFirstAt (w : World) (first : Id) (at : Address) : Type 0 where
  pub slot : slot_value w (slot_of_t 0) ≡ Some (Some first)
  pub lies : address_of w first ≡ Some at

-- the dependency d has this object at this address, and no other. Slot 0 of t refers to it
pub record IsNotedAt (w : World) (first : Id) (at : Address) : Type 0 where
  pub slot : slot_value w (slot_of_t 0) ≡ Some (Some first)
  pub noted : blocks_of_dependency w (letter 100) ≡ (first, at) ∷ []

-- a heap represents a world in which this is said of an object and an address
pub record HasFirst {F : Type 0} (layout : F → Layout) (Is : World → (first : Id) → (at : Address) → Type 0) (h : HeapState F)
    (at : Address) : Type 0 where
  pub world : World
  pub stands : StandsFor layout h world
  pub first : Id
  pub is : Is world first at

-- the object in slot 0 of t lies at this address
abbrev pub FirstLiesAt : HeapState Tail → (at : Address) → Type 0
FirstLiesAt h at = HasFirst (λ _. tail_layout) IsFirstAt h at

-- this address was noted for the object in slot 0 of t
abbrev pub FirstIsNotedAt : HeapState Tail → (at : Address) → Type 0
FirstIsNotedAt h at = HasFirst (λ _. tail_layout) IsNotedAt h at

-- why a number isn't written into a cell
abbrev pub refusals_of_writing : List Refusal
refusals_of_writing = refusal.BadName ∷ refusal.BadIndex ∷ refusal.NullRef ∷ refusal.NotANumber ∷ []

-- ---- vectors

-- the list of two items, the first of which the dependency d has at its address
abbrev two_noted : World
two_noted = record two_items {
  graph = record two_items.graph {
    names = two_items.graph.names ++ record { name = letter 100; thing = DependencyThing 0 } ∷ [];
  };
  addresses = Some 0x1000 ∷ Some 0x1020 ∷ Some 0x2000 ∷ [];
  dependencies = record { epoch = 0; zones = 1; blocks = (0, 0x1000) ∷ [] } ∷ [];
}

pub the_first_item_lies_there : IsFirstAt two_noted 0 0x1000
the_first_item_lies_there = record { slot = refl; lies = refl }

pub it_is_noted_there : IsNotedAt two_noted 0 0x1000
it_is_noted_there = record { slot = refl; noted = refl }

pub the_second_item_isnt_first : IsFirstAt two_noted 1 0x1020 → ⊥
the_second_item_isnt_first is = let e = is.slot in absurd cc

pub it_lies_nowhere_else : IsFirstAt two_noted 0 0x1020 → ⊥
it_lies_nowhere_else is = let e : ◌≡◌ {A = ℕ} 0x1000 0x1020 = same_Some 0x1000 0x1020 is.lies in omega (arith, e)

pub without_a_dependency_none_is_noted : IsNotedAt two_items 0 0x1000 → ⊥
without_a_dependency_none_is_noted is = let e = is.noted in absurd cc
