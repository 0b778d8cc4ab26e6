-- A list of numbers in a world of the model, and in a heap.
use Rattle.std.proofs.Common.{◌∙◌, ap, sym}
use Rattle.std.proofs.lemmas.Bool.{true≢false}
use Rattle.std.proofs.lemmas.Option.{same_Some}
use Rattle.std.specs.Prelude.{◌≡◌, ℕ, IsTrue, true, false, option_map, List, [], ◌∷◌, Option, Some, None, Ok, Err, refl}
use Rattle.mps_base.specs.Address.{Id}
use Rattle.mps_base.specs.declared.names.Rank.{Rank}
use Rattle.mps_base.specs.declared.names.Rank.TheVariants.{Exact}
use Rattle.mps_format.specs.Layout.{Layout}
use Rattle.mps_format.specs.TailExample.{tail_layout}
use Rattle.mps_model.specs.Checked.{Checked, Numbered, point_named}
use Rattle.mps_model.specs.Graph.{Automatic, Graph, HeadCell, NumberCell, Point, PointThing, ReferenceCell, TableThing, empty_graph}
use Rattle.mps_model.specs.LegalMove.{target_in_cell}
use Rattle.mps_model.specs.World.{World, empty_world, is_live}
use Rattle.mps_laws.specs.Held.{letter, slot_of_t}
use Rattle.mps_client_laws.specs.Collecting.{is_dependent}
use Rattle.mps_client_laws.specs.Objects.{Identity, cell_at, identity_at}
use Rattle.mps_client_laws.specs.Slots.{slot_value}
use Rattle.mps_heap_spec.specs.State.{HeapState}
use Rattle.mps_refinement.specs.StandsFor.{StandsFor}
use Rattle.mps_heap_examples.specs.declared.tail.Tail.{Tail}

-- an item of a list: cell 1 is its number, and cell 2 refers to the next item, with any tag. Its references aren't weak
pub record IsItem (g : Graph) (id : Id) (item_number : ℕ) (next_item : Option Id) : Type 0 where
  pub identity : Identity
  pub there : identity_at g id ≡ Some identity
  pub strong : identity.is_weak ≡ false
  pub number : cell_at g id 1 ≡ Some (NumberCell item_number)
  pub tag : ℕ
  pub next : cell_at g id 2 ≡ Some (ReferenceCell next_item tag)

-- a list that begins with this item has these numbers, and one without an item has none
abbrev pub IsList : Graph → (first : Option Id) → (numbers : List ℕ) → Type 0
IsList g None [] = Unit {0}
IsList g (Some id) (number ∷ numbers) = (next : Option Id) × IsItem g id number next × IsList g next numbers
IsList g _ _ = ⊥

-- the rank of a point, if there is such a point
abbrev pub rank_found : Checked (Numbered Point) → Option Rank
rank_found (Ok p) = Some p.value.rank
rank_found (Err why) = None

-- the list of a world: it begins in slot 0 of the table t, the point x makes objects that aren't weak, and no object is the dependent
-- of another
pub record HasListIn (w : World) (numbers : List ℕ) : Type 0 where
  pub first : Option Id
  pub slot : slot_value w (slot_of_t 0) ≡ Some first
  pub items : IsList w.graph first numbers
  pub exact : rank_found (point_named w (letter 120)) ≡ Some Exact
  pub alone : (id : Id) → is_dependent w.graph id ≡ false

-- whether each item of such a list is live
abbrev pub AreLive : World → (first : Option Id) → (numbers : List ℕ) → Type 0
AreLive w (Some id) (number ∷ numbers) = IsTrue (is_live w id) × AreLive w (target_in_cell w id 2) numbers
AreLive w _ _ = Unit {0}

-- the list of a heap: that of a world which the heap represents
pub record HasList {F : Type 0} (layout : F → Layout) (h : HeapState F) (numbers : List ℕ) : Type 0 where
  pub world : World
  pub stands : StandsFor layout h world
  pub has : HasListIn world numbers

-- the same, where each item is live
pub record HasLiveList {F : Type 0} (layout : F → Layout) (h : HeapState F) (numbers : List ℕ) : Type 0 where
  pub world : World
  pub stands : StandsFor layout h world
  pub has : HasListIn world numbers
  pub live : AreLive world has.first numbers

-- a heap in which a list may be made: in a world that it represents a number means this layout, and no object is the dependent of another
pub record MayHaveList {F : Type 0} (layout : F → Layout) (items : Layout) (h : HeapState F) : Type 0 where
  pub world : World
  pub stands : StandsFor layout h world
  pub format : ℕ
  pub means : world.formats format ≡ items
  pub alone : (id : Id) → is_dependent world.graph id ≡ false

-- the same of a heap of this format
abbrev pub MayHaveNumbers : HeapState Tail → Type 0
MayHaveNumbers h = MayHaveList (λ _. tail_layout) tail_layout h

-- the list of a heap of this format
abbrev pub HasNumbers : HeapState Tail → (numbers : List ℕ) → Type 0
HasNumbers h numbers = HasList (λ _. tail_layout) h numbers

-- the same, where each item is live
abbrev pub HasLiveNumbers : HeapState Tail → (numbers : List ℕ) → Type 0
HasLiveNumbers h numbers = HasLiveList (λ _. tail_layout) h numbers

-- ---- vectors

-- slot 0 of t refers to the object 0, an item of the number 7. The object 1 comes after it, an item of 5, and the object 2 is weak
abbrev pub two_items : World
two_items = record empty_world {
  graph = record empty_graph {
    objects =
        record { pool = 0; body = Automatic 33 (HeadCell ∷ NumberCell 7 ∷ ReferenceCell (Some 1) 0 ∷ ReferenceCell None 0 ∷ []) false }
        ∷ record { pool = 0; body = Automatic 33 (HeadCell ∷ NumberCell 5 ∷ ReferenceCell None 1 ∷ ReferenceCell None 0 ∷ []) false }
        ∷ record { pool = 1; body = Automatic 33 (HeadCell ∷ NumberCell 6 ∷ ReferenceCell None 0 ∷ ReferenceCell None 0 ∷ []) true }
        ∷ [];
    tables = Some (Some 0 ∷ None ∷ []) ∷ [];
    points = Some (record { pool = 0; rank = Exact; reservation = None }) ∷ [];
    names = record { name = letter 116; thing = TableThing 0 } ∷ record { name = letter 120; thing = PointThing 0 } ∷ [];
  };
}

identity_of_item : Identity
identity_of_item = record { pool = 0; is_automatic = true; size = 4; head = 33; is_weak = false }

pub item_of_7 : IsItem two_items.graph 0 7 (Some 1)
unfolding identity_of_item
item_of_7 = record { identity = identity_of_item; there = refl; strong = refl; number = refl; tag = 0; next = refl }

pub item_of_5 : IsItem two_items.graph 1 5 None
unfolding identity_of_item
item_of_5 = record { identity = identity_of_item; there = refl; strong = refl; number = refl; tag = 1; next = refl }

pub a_list_of_two : HasListIn two_items (7 ∷ 5 ∷ [])
a_list_of_two = record {
  first = Some 0;
  slot = refl;
  items = (Some 1, item_of_7, (None, item_of_5, tt));
  exact = refl;
  alone = λ id. refl;
}

-- the object 1 is gone
abbrev first_live : World
first_live = record two_items { addresses = Some 0x1000 ∷ None ∷ [] }

pub the_first_item_is_live : AreLive first_live (Some 0) (7 ∷ [])
the_first_item_is_live = (refl, tt)

pub the_second_item_is_gone : AreLive first_live (Some 0) (7 ∷ 5 ∷ []) → ⊥
the_second_item_is_gone live = true≢false (sym live.1.0)

pub an_item_of_another_number : (next : Option Id) → IsItem two_items.graph 0 8 next → ⊥
an_item_of_another_number next item = absurd cc

pub a_list_that_is_cut_off : IsList two_items.graph (Some 0) (7 ∷ []) → ⊥
a_list_that_is_cut_off (None, item, rest) = absurd cc
a_list_that_is_cut_off (Some next, item, rest) = absurd rest

pub a_weak_object_is_no_item : (next : Option Id) → IsItem two_items.graph 2 6 next → ⊥
a_weak_object_is_no_item next item =
    let same : Some true ≡ Some item.identity.is_weak = ap (option_map (λ (i : Identity). i.is_weak)) item.there in
    true≢false (same_Some true item.identity.is_weak same ∙ item.strong)
