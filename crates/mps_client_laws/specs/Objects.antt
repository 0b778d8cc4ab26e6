-- No object is lost: what every step leaves of every object, and what alone may write its cells and words.
use Rattle.std.specs.Prelude.{◌≡◌, ℕ, Bool, true, false, not, ◌&&◌, ◌==◌, if◌then◌else◌, IsTrue, Option, Some, None, option_map, option_and_then, Ok, Err, List, [], ◌∷◌, ◌++◌, slice_get, refl}
use Rattle.std.specs.List.{list_any}
use Rattle.std.specs.Option.{option_map_or}
use Rattle.mps_base.specs.Address.{Id}
use Rattle.mps_base.specs.declared.names.Name.{Name}
use Rattle.mps_base.specs.declared.names.Slot.{Slot}
use Rattle.mps_base.specs.declared.moves.Move.{Move}
use Rattle.mps_base.specs.declared.moves.Move.TheVariants as moves
use Rattle.mps_model.specs.declared.call.Call.{Call}
use Rattle.mps_model.specs.declared.call.Call.TheVariants as call
use Rattle.mps_model.specs.declared.reply.Reply.TheVariants as reply
use Rattle.mps_model.specs.Answer.{Replied}
use Rattle.mps_model.specs.Step.{Step, History}
use Rattle.mps_model.specs.Graph.{Graph, Object, Automatic, Manual, Cell, HeadCell, NumberCell, ReferenceCell, TableThing, BlocksThing, object_at, size_of, is_automatic, is_weak_object, is_reference_cell, target_of_cell, dependent_in, TransformThing, empty_graph, Cache, CacheThing}
use Rattle.mps_model.specs.World.{World, Parked, TransformPair, id_at, empty_world}
use Rattle.mps_model.specs.Checked.{as_transform, number_named, block_place_in, cells_of_body, head_of_body, words_of_body, Checked, Numbered, cache_named}
use Rattle.mps_model.specs.Transforms.{is_old, pairs_of}
use Rattle.mps_model.specs.Caches.{taken_from}
use Rattle.mps_model.specs.Effect.{world_after_move}
use Rattle.mps_model.specs.History.{world_after, world_after_steps}
use Rattle.mps_laws.specs.Held.{target_found, target_of_slot, letter, slot_of_t}

-- ---- what never changes

-- what of an object never changes: its pool, whether it is automatic, how many cells or words it has, and if it is automatic its
-- head and whether its references are weak
pub record Identity : Type 0 where
  pub pool : ℕ
  pub is_automatic : Bool
  pub size : ℕ
  pub head : ℕ
  pub is_weak : Bool

abbrev pub identity_of : Object → Identity
identity_of o = record {
  pool = o.pool;
  is_automatic = is_automatic o;
  size = size_of o;
  head = head_of_body o.body;
  is_weak = is_weak_object o;
}

-- the identity of an object, if there is one with this id
abbrev pub identity_at : Graph → (id : Id) → Option Identity
identity_at g id = option_map identity_of (object_at g id)

-- Whatever steps come, an object keeps its identity. This is true from any world on, and of steps that aren't legal too.
abbrev pub ObjectsKeepTheirIdentity : Type 0
ObjectsKeepTheirIdentity =
    (w : World) (steps : History) (id : Id) (is : Identity) → identity_at w.graph id ≡ Some is
    → identity_at (world_after_steps w steps).graph id ≡ Some is

-- ---- cells and words

-- cell k of an automatic object
abbrev pub cell_at : Graph → (id : Id) → (k : ℕ) → Option Cell
cell_at g id k = option_and_then (λ o. slice_get (cells_of_body o.body) k) (object_at g id)

-- word k of a manual block
abbrev pub word_at : Graph → (id : Id) → (k : ℕ) → Option ℕ
word_at g id k = option_and_then (λ o. slice_get (words_of_body o.body) k) (object_at g id)

-- the block in a place of a table of blocks. There is none if the place is empty, and if there is no such place
abbrev pub block_of_place : World → Slot → Option ℕ
block_of_place w place = target_found (block_place_in w place)

abbrev pub is_this : (id : Id) → Option ℕ → Bool
is_this id target = option_map_or (λ other. other == id) target false

-- the pairs of a transform by its name
abbrev pub pairs_named : World → (transform : Name) → List TransformPair
pairs_named w transform = option_map_or (pairs_of w.state) (number_named w transform as_transform) []

-- whether a call is one that replaces references to this object, if it is accepted: the old one of a pair of the transform that it applies
abbrev pub replaces : World → Call → (target : Option ℕ) → Bool
replaces w (call.TransformApply transform) target = option_map_or (is_old (pairs_named w transform)) target false
replaces w _ target = false

-- whether a call is one that writes cell k of this object, if it is accepted
abbrev pub writes_cell : World → Call → (id : Id) → (k : ℕ) → Bool
writes_cell w (call.Put target cell source) id k = is_this id (target_of_slot w target) && cell == k
writes_cell w (call.SetNumber slot cell value) id k = is_this id (target_of_slot w slot) && cell == k
writes_cell w (call.SetTag slot cell tag) id k = is_this id (target_of_slot w slot) && cell == k
writes_cell w (call.TransformApply transform) id k =
    replaces w (call.TransformApply transform) (option_and_then target_of_cell (cell_at w.graph id k))
writes_cell w _ id k = false

-- the block that an allocation of n words takes from a cache. There is none if its class is missing or empty
abbrev pub block_taken : Checked (Numbered Cache) → (words : ℕ) → Option ℕ
block_taken (Ok q) words = option_map (λ taken. taken.0) (taken_from q.value.classes words)
block_taken (Err why) words = None

-- whether a call is one that writes word k of this block, if it is accepted. A block that is taken from a cache is cleared
abbrev pub writes_word : World → Call → (id : Id) → (k : ℕ) → Bool
writes_word w (call.Store place word value) id k = is_this id (block_of_place w place) && word == k
writes_word w (call.CacheAlloc cache words place) id k = is_this id (block_taken (cache_named w cache) words)
writes_word w _ id k = false

-- a cell with its object, if it is a reference
abbrev pub reference_cell_of : Graph → (id cell : ℕ) → List (Id × ℕ)
reference_cell_of g id cell = if option_map_or is_reference_cell (cell_at g id cell) false then (id, cell) ∷ [] else []

-- the cells that a splat makes null, each with its object: the reference of the holder, and that in the same cell of its dependent
abbrev pub cells_splatted : Graph → (holder cell : ℕ) → List (Id × ℕ)
cells_splatted g holder cell =
    reference_cell_of g holder cell
    ++ option_map_or (λ dependent. reference_cell_of g dependent cell) (dependent_in g.dependents holder) []

-- the cells that a move makes null: those of a splat
abbrev pub cells_nulled : World → Move → List (Id × ℕ)
cells_nulled w (moves.Splat holder cell) = option_map_or (λ id. cells_splatted w.graph id cell) (id_at w holder.0) []
cells_nulled w _ = []

abbrev pub is_cell : (id : Id) → (k : ℕ) → Id × ℕ → Bool
is_cell id k cell = cell.0 == id && cell.1 == k

-- no move makes this cell null
abbrev pub moves_leave_cell : World → List Move → (id : Id) → (k : ℕ) → Bool
moves_leave_cell w [] id k = true
moves_leave_cell w (m ∷ ms) id k = not (list_any (is_cell id k) (cells_nulled w m)) && moves_leave_cell (world_after_move w m) ms id k

-- neither the call nor a move of a step writes this cell
abbrev pub leaves_cell : World → Step → (id : Id) → (k : ℕ) → Bool
leaves_cell w s id k = not (writes_cell w s.call id k) && moves_leave_cell w s.moves id k

-- none of these steps writes this cell
abbrev pub leave_cell : World → History → (id : Id) → (k : ℕ) → Bool
leave_cell w [] id k = true
leave_cell w (s ∷ ss) id k = leaves_cell w s id k && leave_cell (world_after w s) ss id k

-- none of these steps writes this word
abbrev pub leave_word : World → History → (id : Id) → (k : ℕ) → Bool
leave_word w [] id k = true
leave_word w (s ∷ ss) id k = not (writes_word w s.call id k) && leave_word (world_after w s) ss id k

-- A cell that no step writes stays what it is, whatever is collected, moved or freed meanwhile.
abbrev pub CellsStay : Type 0
CellsStay =
    (w : World) (steps : History) (id k : ℕ) (cell : Cell) → IsTrue (leave_cell w steps id k) → cell_at w.graph id k ≡ Some cell
    → cell_at (world_after_steps w steps).graph id k ≡ Some cell

-- A word of a manual block that no step writes stays what it is.
abbrev pub WordsStay : Type 0
WordsStay =
    (w : World) (steps : History) (id k word : ℕ) → IsTrue (leave_word w steps id k) → word_at w.graph id k ≡ Some word
    → word_at (world_after_steps w steps).graph id k ≡ Some word

-- ---- vectors

-- slot 0 of the table t refers to the object 0, which has a reference and a number. The object 1 is weak, and lies at 0x2000. Place 0
-- of b has the block 2
abbrev pub two_objects : World
two_objects = record empty_world {
  graph = record empty_graph {
    objects =
        record { pool = 0; body = Automatic 7 (HeadCell ∷ ReferenceCell (Some 1) 0 ∷ NumberCell 5 ∷ []) false }
        ∷ record { pool = 1; body = Automatic 7 (HeadCell ∷ ReferenceCell (Some 0) 3 ∷ NumberCell 6 ∷ []) true }
        ∷ record { pool = 2; body = Manual (8 ∷ 9 ∷ []) }
        ∷ [];
    tables = Some (Some 0 ∷ None ∷ []) ∷ [];
    blocks = (Some 2 ∷ []) ∷ [];
    names = record { name = letter 116; thing = TableThing 0 } ∷ record { name = letter 98; thing = BlocksThing 0 } ∷ [];
  };
  addresses = Some 0x1000 ∷ Some 0x2000 ∷ Some 0x3000 ∷ [];
}

abbrev place_of_b : Slot
place_of_b = record { name = letter 98; index = 0 }

abbrev pub stepping : Call → List Move → Step
stepping call moves = record { line = 1; call = call; moves = moves; answer = Replied reply.Ok }

abbrev splat_of_one : List Move
splat_of_one = moves.Splat (record { 0 = 0x2000 }) 1 ∷ []

pub put_writes_its_cell : leave_cell two_objects (stepping (call.Put (slot_of_t 0) 1 (slot_of_t 1)) [] ∷ []) 0 1 ≡ false
put_writes_its_cell = refl

pub put_leaves_another_cell : leave_cell two_objects (stepping (call.Put (slot_of_t 0) 1 (slot_of_t 1)) [] ∷ []) 0 2 ≡ true
put_leaves_another_cell = refl

pub put_leaves_another_object : leave_cell two_objects (stepping (call.Put (slot_of_t 0) 1 (slot_of_t 1)) [] ∷ []) 1 1 ≡ true
put_leaves_another_object = refl

pub a_splat_writes_its_cell : leave_cell two_objects (stepping (call.Step 1) splat_of_one ∷ []) 1 1 ≡ false
a_splat_writes_its_cell = refl

pub a_splat_leaves_another_object : leave_cell two_objects (stepping (call.Step 1) splat_of_one ∷ []) 0 1 ≡ true
a_splat_leaves_another_object = refl

abbrev splat_of_a_number : List Move
splat_of_a_number = moves.Splat (record { 0 = 0x2000 }) 2 ∷ []

-- the object 0 is the dependent of the weak object 1
abbrev pub with_a_dependent : World
with_a_dependent = record two_objects { graph = record two_objects.graph { dependents = (1, 0) ∷ [] } }

pub a_splat_writes_the_cell_of_the_dependent : leave_cell with_a_dependent (stepping (call.Step 1) splat_of_one ∷ []) 0 1 ≡ false
a_splat_writes_the_cell_of_the_dependent = refl

pub a_splat_leaves_another_cell_of_the_dependent : leave_cell with_a_dependent (stepping (call.Step 1) splat_of_one ∷ []) 0 2 ≡ true
a_splat_leaves_another_cell_of_the_dependent = refl

pub a_splat_leaves_a_number : leave_cell with_a_dependent (stepping (call.Step 1) splat_of_a_number ∷ []) 0 2 ≡ true
a_splat_leaves_a_number = refl

pub the_number_of_the_dependent :
    cell_at (world_after with_a_dependent (stepping (call.Step 1) splat_of_a_number)).graph 0 2 ≡ Some (NumberCell 5)
the_number_of_the_dependent = refl

pub the_splatted_cell_of_the_dependent :
    cell_at (world_after with_a_dependent (stepping (call.Step 1) splat_of_one)).graph 0 1 ≡ Some (ReferenceCell None 0)
the_splatted_cell_of_the_dependent = refl

pub a_splat_keeps_the_identity :
    identity_at (world_after two_objects (stepping (call.Step 1) splat_of_one)).graph 1
    ≡ Some (record { pool = 1; is_automatic = true; size = 3; head = 7; is_weak = true })
a_splat_keeps_the_identity = refl

pub store_writes_its_word : leave_word two_objects (stepping (call.Store place_of_b 1 4) [] ∷ []) 2 1 ≡ false
store_writes_its_word = refl

pub store_leaves_another_word : leave_word two_objects (stepping (call.Store place_of_b 1 4) [] ∷ []) 2 0 ≡ true
store_leaves_another_word = refl

pub a_stored_word : word_at (world_after two_objects (stepping (call.Store place_of_b 1 4) [])).graph 2 1 ≡ Some 4
a_stored_word = refl

-- a parked arena in which a transform of the name x replaces the object 0 by the object 1
abbrev pub with_a_transform : World
with_a_transform = record two_objects {
  graph = record two_objects.graph {
    names = two_objects.graph.names ++ record { name = letter 120; thing = TransformThing 0 } ∷ [];
    transforms = true ∷ [];
  };
  state = Parked (record { transform = 0; old = 0; new = 1 } ∷ []);
}

abbrev pub applying : Step
applying = record { line = 1; call = call.TransformApply (letter 120); moves = []; answer = Replied reply.Yes }

pub a_transform_writes_references_to_an_old_object : leave_cell with_a_transform (applying ∷ []) 1 1 ≡ false
a_transform_writes_references_to_an_old_object = refl

pub a_transform_leaves_other_references : leave_cell with_a_transform (applying ∷ []) 0 1 ≡ true
a_transform_leaves_other_references = refl

pub a_replaced_reference : cell_at (world_after with_a_transform applying).graph 1 1 ≡ Some (ReferenceCell (Some 1) 3)
a_replaced_reference = refl

-- the block 2 lies in the cache q in place of place 0
abbrev pub with_a_cache : World
with_a_cache = record two_objects {
  graph = record two_objects.graph {
    blocks = (None ∷ []) ∷ [];
    caches = record { pool = 2; classes = record { words = 2; limit = 1; cached = 2 ∷ [] } ∷ [] } ∷ [];
    names = record { name = letter 113; thing = CacheThing 0 } ∷ record { name = letter 98; thing = BlocksThing 0 } ∷ [];
  };
}

pub a_block_from_a_cache_is_written : leave_word with_a_cache (stepping (call.CacheAlloc (letter 113) 2 place_of_b) [] ∷ []) 2 1 ≡ false
a_block_from_a_cache_is_written = refl

pub a_block_of_another_size_is_not : leave_word with_a_cache (stepping (call.CacheAlloc (letter 113) 3 place_of_b) [] ∷ []) 2 1 ≡ true
a_block_of_another_size_is_not = refl
