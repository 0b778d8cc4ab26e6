-- The words of an arena in which no collection runs.
use Rattle.std.specs.Prelude.{◌≡◌, ℕ, ◌+◌, ◌<◌, false, Option, Some, List, [], ◌∷◌, ◌++◌, length, replicate, slice_get, slice_index, slice_range, refl}
use Rattle.std.proofs.Common.{ap, arith}
use Rattle.mps_base.specs.Address.{Address, Id, Word, word_of}
use Rattle.mps_model.specs.Graph.{Cell, HeadCell, NumberCell, ReferenceCell, Automatic, Object, entry_at, target_of_cell, empty_graph}
use Rattle.mps_model.specs.Checked.{head_of_body}
use Rattle.mps_model.specs.World.{World, address_of, words_of, empty_world}
use Rattle.mps_model.specs.Image.{image_of}
use Rattle.mps_seg.specs.Segs.{SegsState}
use Rattle.mps_trace_laws.specs.Image.Memory.{Lies, all_cells, memory_in, setting_at_rest, pool_layout}
use Rattle.mps_trace_laws.specs.Image.Image.{IsCellWord, Stands, no_colours}

-- each word of a live object encodes its cell, using current addresses only
abbrev pub CellsHold : List Object → List (Option Address) → List ℕ → Type 0
CellsHold objects addresses words =
    (id i : ℕ) (o : Object) (n : Word) (c : Cell) → Lies objects addresses id i o n → slice_get (all_cells o.body) i ≡ Some c
    → IsCellWord addresses [] (head_of_body o.body) c (slice_index words n)

-- the words of each live object are its image
abbrev pub HoldsImages : World → List ℕ → Type 0
HoldsImages w words =
    (id : Id) (at : Address) → address_of w id ≡ Some at → slice_range words (word_of at) (word_of at + words_of w id) ≡ image_of w id

-- what live objects refer to is live
abbrev pub AreTargetsLive : List Object → List (Option Address) → Type 0
AreTargetsLive objects addresses =
    (id i : ℕ) (o : Object) (n : Word) (c : Cell) (t : Id) → Lies objects addresses id i o n → slice_get (all_cells o.body) i ≡ Some c
    → target_of_cell c ≡ Some t → (to : Address) × (entry_at addresses t ≡ Some to)

-- live objects lie within these words, and what they refer to is live
pub record AreSelfContained (objects : List Object) (addresses : List (Option Address)) (words : List ℕ) : Type 0 where
  pub within : (id i : ℕ) (o : Object) (n : Word) → Lies objects addresses id i o n → n < length words
  pub live : AreTargetsLive objects addresses

-- the segments of an arena in which no collection runs represent a world
abbrev pub StandsAtRest : SegsState → World → Type 0
StandsAtRest s w =
    Stands (setting_at_rest s w.graph.objects w.graph.points w.point_memories (pool_layout w)) (memory_in s) w.addresses no_colours

-- ---- vectors: object 0 at 0x1000 refers to itself, with the tag 3

abbrev example : World
example = record empty_world {
  graph = record empty_graph {
    objects = record { pool = 0; body = Automatic 0x100000301 (HeadCell ∷ ReferenceCell (Some 0) 3 ∷ NumberCell 7 ∷ []) false } ∷ [];
  };
  addresses = Some 0x1000 ∷ [];
}

pub its_words_are_its_image :
    slice_range (replicate 512 0 ++ (0x100000301 ∷ 0x1003 ∷ 7 ∷ 9 ∷ [])) (word_of 0x1000) (word_of 0x1000 + words_of example 0)
    ≡ image_of example 0
its_words_are_its_image = refl

-- a tag that is lost
pub other_words_are_no_image : HoldsImages example (replicate 512 0 ++ (0x100000301 ∷ 0x1000 ∷ 7 ∷ 9 ∷ [])) → ⊥
other_words_are_no_image h =
    let e : 0x1000 ≡ 0x1003 = ap (λ (ws : List ℕ). slice_index ws 1) (h 0 0x1000 refl) in omega (arith, e)
