-- The image of a block: the words that it has in an arena in which no collection runs.
use Rattle.std.specs.Prelude.{ℕ, ◌≡◌, ◌+◌, false, Option, Some, None, List, [], ◌∷◌, map, refl}
use Rattle.std.specs.Option.{option_map_or}
use Rattle.mps_base.specs.Address.{Id}
use Rattle.mps_model.specs.Graph.{Cell, HeadCell, NumberCell, ReferenceCell, Body, Automatic, Manual, for_object, empty_graph}
use Rattle.mps_model.specs.World.{World, address_of, empty_world}

-- the address of what a reference leads to; 0 is null
abbrev pub address_of_target : World → Option ℕ → ℕ
address_of_target w None = 0
address_of_target w (Some id) = option_map_or (λ at. at) (address_of w id) 0

-- the word of a cell of a block with this head: a reference is its tag, plus the address of its target
abbrev pub image_of_cell : World → (head : ℕ) → Cell → ℕ
image_of_cell w head HeadCell = head
image_of_cell w head (NumberCell number) = number
image_of_cell w head (ReferenceCell target tag) = address_of_target w target + tag

abbrev pub image_of_body : World → Body → List ℕ
image_of_body w (Automatic head cells is_weak) = map (image_of_cell w head) cells
image_of_body w (Manual words) = words

-- the words of an object
abbrev pub image_of : World → (id : Id) → List ℕ
image_of w id = for_object w.graph id (λ o. image_of_body w o.body) []

-- a block at 0x1000 whose cell 1 leads to one at 0x1020 and has the tag 3, and a manual block that was freed
abbrev three_objects : World
three_objects = record empty_world {
  graph = record empty_graph {
    objects =
        record {
          pool = 0;
          body = Automatic 0x200000401 (HeadCell ∷ ReferenceCell (Some 1) 3 ∷ ReferenceCell None 1 ∷ NumberCell 7
              ∷ []) false;
        }
        ∷ record { pool = 0; body = Automatic 0x203 (HeadCell ∷ NumberCell 9 ∷ []) false }
        ∷ record { pool = 1; body = Manual (5 ∷ 6 ∷ []) }
        ∷ [];
  };
  addresses = Some 0x1000 ∷ Some 0x1020 ∷ None ∷ [];
}

pub references_are_addresses_and_tags : image_of three_objects 0 ≡ 0x200000401 ∷ 0x1023 ∷ 1 ∷ 7 ∷ []
references_are_addresses_and_tags = refl

pub numbers_as_they_are : image_of three_objects 1 ≡ 0x203 ∷ 9 ∷ []
numbers_as_they_are = refl

pub words_of_a_manual_block : image_of three_objects 2 ≡ 5 ∷ 6 ∷ []
words_of_a_manual_block = refl

pub no_tag_is_lost : image_of three_objects 0 ≡ 0x200000401 ∷ 0x1020 ∷ 0 ∷ 7 ∷ [] → ⊥
no_tag_is_lost e = absurd cc

pub no_object_no_words : image_of three_objects 3 ≡ []
no_object_no_words = refl
