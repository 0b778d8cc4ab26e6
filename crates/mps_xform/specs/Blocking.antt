-- What keeps a transform from being applied. `pair` gives the pair of an old address.
use Rattle.std.specs.Prelude.{ℕ, ◌≡◌, Bool, true, false, not, ◌||◌, Option, Some, None, List, [], ◌∷◌, refl}
use Rattle.std.specs.List.{list_any}
use Rattle.std.specs.Option.{option_map_or}
use Rattle.mps_base.specs.Address.{Address, word_of, address_of_word}
use Rattle.mps_base.specs.Run.{Run}
use Rattle.mps_root.specs.declared.roots.Stored.{Stored}
use Rattle.mps_seg.specs.Extents.{run_over}
use Rattle.mps_xform.specs.State.{TransformsState, pair_of, pair_in}
use Rattle.mps_xform.specs.declared.transforms.Pair.{Pair}

-- A word lies in an old block: in any byte of it if its pair says so, else only at its address.
abbrev pub lies_in_old : (pair : Address → Option Pair) → (blocks : List Run) → (word : ℕ) → Bool
lies_in_old pair blocks word =
    option_map_or (λ from. option_map_or (λ p. p.inside) (pair (address_of_word from)) false) (run_over blocks (word_of word)) false
    || option_map_or (λ p. not p.inside) (pair word) false

-- one of the words of an area lies in an old block
abbrev pub any_lies_in_old : (pair : Address → Option Pair) → (blocks : List Run) → List Stored → Bool
any_lies_in_old pair blocks words = list_any (λ w. lies_in_old pair blocks w.word) words

-- A word of some area lies in an old block.
abbrev pub is_blocked : (pair : Address → Option Pair) → (blocks : List Run) → (areas : List (Option (List Stored))) → Bool
is_blocked pair blocks areas = list_any (λ area. option_map_or (λ words. any_lies_in_old pair blocks words) area false) areas

-- ---- vectors: a block of two words at 8, in a pool that moves blocks and in one that doesn't

abbrev of_block_at_8 : (inside : Bool) → TransformsState
of_block_at_8 inside = record { live = true ∷ []; pairs = record (pair_in 0 8 64) { inside = inside } ∷ [] }

abbrev blocks_at_8 : List Run
blocks_at_8 = record { from = 1; count = 2 } ∷ []

abbrev area_of : (word : ℕ) → List (Option (List Stored))
area_of word = None ∷ Some (record { word = 0; holds = false } ∷ record { word = word; holds = true } ∷ []) ∷ []

pub a_word_inside_a_block_that_may_move : is_blocked (pair_of (of_block_at_8 true) 0) blocks_at_8 (area_of 20) ≡ true
a_word_inside_a_block_that_may_move = refl

pub a_word_inside_one_that_does_not : is_blocked (pair_of (of_block_at_8 false) 0) blocks_at_8 (area_of 20) ≡ false
a_word_inside_one_that_does_not = refl

pub its_address : is_blocked (pair_of (of_block_at_8 false) 0) blocks_at_8 (area_of 8) ≡ true
its_address = refl

pub a_word_after_the_block : is_blocked (pair_of (of_block_at_8 true) 0) blocks_at_8 (area_of 24) ≡ false
a_word_after_the_block = refl
