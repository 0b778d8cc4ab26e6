-- When the words, marks and runs of an arena represent objects, at rest and while a collection moves blocks: in five parts, over
-- what each needs.
use Rattle.std.specs.Prelude.{◌≡◌, ◌≢◌, ◌⊎◌, ℕ, ◌+◌, ◌%◌, ◌^◌, ◌<◌, ◌≤◌, Bool, true, false, not, ◌&&◌, ◌||◌, ◌==◌, IsTrue, Option, Some, None, List, [], ◌∷◌, ◌++◌, slice_get, slice_index, length, drop, refl}
use Rattle.std.proofs.Common.{arith, inl, inr}
use Rattle.std.proofs.lemmas.Option.{none-some, same_Some}
use Rattle.mps_base.specs.Address.{Address, Id, Word, word_of}
use Rattle.mps_base.specs.Run.{in_order}
use Rattle.mps_format.specs.Layout.{Layout, IsLawful, IsBlockSize}
use Rattle.mps_format.specs.Blocks.{BeginsForwarded}
use Rattle.mps_model.specs.Graph.{Cell, HeadCell, NumberCell, ReferenceCell, Object, Reservation, entry_at, size_of, is_automatic, is_reference_cell, target_of_cell}
use Rattle.mps_model.specs.Checked.{head_of_body}
use Rattle.mps_model.specs.World.{extents_of, reserved_extents}
use Rattle.mps_abstract.specs.Colours.{Colours, is_white, is_grey, is_black}
use Rattle.mps_trace_laws.specs.Image.Memory.{Setting, Memory, all_cells, Lies, LiesReserved, BlockBegins, live_reservation}

-- ---- what a word means

-- an address means an object: it is the object's, or the one that the object had at the flip
abbrev pub MeansAt : List (Option Address) → (at_flip : List (Option Address)) → (address : Address) → Id → Type 0
MeansAt addresses at_flip address id = (entry_at addresses id ≡ Some address) ⊎ (entry_at at_flip id ≡ Some address)

-- a word refers to an object, with a tag
pub record Refers (addresses at_flip : List (Option Address)) (id tag word : ℕ) : Type 0 where
  pub address : Address
  pub is : word ≡ address + tag
  pub means : MeansAt addresses at_flip address id

-- a word is that of a cell of a block with this head
abbrev pub IsCellWord : List (Option Address) → (at_flip : List (Option Address)) → (head : ℕ) → Cell → (word : ℕ) → Type 0
IsCellWord addresses at_flip head HeadCell word = word ≡ head
IsCellWord addresses at_flip head (NumberCell number) word = word ≡ number
IsCellWord addresses at_flip head (ReferenceCell None tag) word = word ≡ tag
IsCellWord addresses at_flip head (ReferenceCell (Some id) tag) word = Refers addresses at_flip id tag word

-- ---- what the model's well-formed worlds give

-- the objects of automatic pools are blocks of their formats
pub record AreShaped (objects : List Object) (layout : (pool : ℕ) → Layout) : Type 0 where
  pub lawful : (pool : ℕ) → IsLawful (layout pool)
  pub tags : (id k : ℕ) (o : Object) (t : Option ℕ) (tag : ℕ) → slice_get objects id ≡ Some o
      → slice_get (all_cells o.body) k ≡ Some (ReferenceCell t tag) → tag < 8
  pub targets : (id k : ℕ) (o : Object) (t tag : ℕ) → slice_get objects id ≡ Some o
      → slice_get (all_cells o.body) k ≡ Some (ReferenceCell (Some t) tag)
      → (p : Object) × (slice_get objects t ≡ Some p) × IsTrue (is_automatic p)
  pub first : (id : Id) (o : Object) → slice_get objects id ≡ Some o → IsTrue (is_automatic o)
      → slice_get (all_cells o.body) 0 ≡ Some HeadCell
  pub valid : (id : Id) (o : Object) → slice_get objects id ≡ Some o → IsTrue (is_automatic o)
      → IsTrue ((layout o.pool).is_valid (head_of_body o.body))
  pub kinds : (id k : ℕ) (o : Object) (c : Cell) → slice_get objects id ≡ Some o → IsTrue (is_automatic o)
      → slice_get (all_cells o.body) k ≡ Some c → is_reference_cell c ≡ (layout o.pool).is_reference (head_of_body o.body) k
  pub whole : (id : Id) (o : Object) → slice_get objects id ≡ Some o → IsTrue (is_automatic o)
      → (layout o.pool).size (head_of_body o.body) ≡ size_of o
  pub sizes : (id : Id) (o : Object) → slice_get objects id ≡ Some o → IsTrue (is_automatic o) → IsBlockSize (size_of o)

-- an address of a word
pub record IsAddress (at : Address) : Type 0 where
  pub not_null : 0 < at
  pub aligned : at % 8 ≡ 0
  pub small : at + 8 ≤ 2 ^ 64

-- live objects and live reservations lie apart, each in a segment of its pool
pub record LieApart (s : Setting) (addresses : List (Option Address)) : Type 0 where
  pub exists : (id : Id) (at : Address) → entry_at addresses id ≡ Some at → (o : Object) × (slice_get s.objects id ≡ Some o)
  pub positive : (id : Id) (at : Address) (o : Object) → entry_at addresses id ≡ Some at → slice_get s.objects id ≡ Some o → 0 < size_of o
  pub address : (id : Id) (at : Address) → entry_at addresses id ≡ Some at → IsAddress at
  pub address_at_flip : (id : Id) (at : Address) → entry_at s.at_flip id ≡ Some at → IsAddress at
  pub within : (id k : ℕ) (o : Object) (n : Word) → Lies s.objects addresses id k o n → n < s.size
  pub apart : (i j k l : ℕ) (o p : Object) (n : Word) → Lies s.objects addresses i k o n → Lies s.objects addresses j l p n → i ≡ j
  pub home : (id k : ℕ) (o : Object) (n : Word) → Lies s.objects addresses id k o n → s.pool_over n ≡ Some o.pool
  pub whole : (id k : ℕ) (o : Object) (n : Word) (at : Address) → Lies s.objects addresses id k o n → entry_at addresses id ≡ Some at
      → s.is_condemned_over n ≡ s.is_condemned_over (word_of at)
  pub reserved_positive : (point : ℕ) (r : Reservation) → live_reservation (entry_at s.points point) ≡ Some r → 0 < length r.cells
  pub reserved_within : (point k : ℕ) (r : Reservation) (n : Word) → LiesReserved s.points s.point_memories point k r n → n < s.size
  pub reserved_alone : (i j k l : ℕ) (r q : Reservation) (n : Word) → LiesReserved s.points s.point_memories i k r n
      → LiesReserved s.points s.point_memories j l q n → i ≡ j
  pub reserved_apart : (id point k l : ℕ) (o : Object) (r : Reservation) (n : Word) → Lies s.objects addresses id k o n
      → LiesReserved s.points s.point_memories point l r n → ⊥

-- ---- words

-- the address that an object had at the flip tells where it is now, and nothing else is there
pub record IsForwardedObject (s : Setting) (words : List ℕ) (addresses : List (Option Address)) (o : Object)
    (from to : Address) : Type 0 where
  pub begins : BeginsForwarded (s.layout o.pool) (drop (word_of from) words) (size_of o)
  pub leads : slice_index words (word_of from + 1) ≡ to
  pub condemned : (k : ℕ) → k < size_of o → IsTrue (s.is_condemned_over (word_of from + k))
  pub home : (k : ℕ) → k < size_of o → s.pool_over (word_of from + k) ≡ Some o.pool
  pub free : (k j l : ℕ) (p : Object) → k < size_of o → Lies s.objects addresses j l p (word_of from + k) → ⊥
  pub unreserved : (k point l : ℕ) (r : Reservation) → k < size_of o
      → LiesReserved s.points s.point_memories point l r (word_of from + k) → ⊥

-- the words of cells, and of blocks that have moved
pub record WordsStand (s : Setting) (words : List ℕ) (addresses : List (Option Address)) : Type 0 where
  pub long : length words ≡ s.size
  pub cells : (id i : ℕ) (o : Object) (n : Word) (c : Cell) → IsTrue (s.is_read id) → Lies s.objects addresses id i o n
      → slice_get (all_cells o.body) i ≡ Some c → IsCellWord addresses s.at_flip (head_of_body o.body) c (slice_index words n)
  pub forwarded : (id : Id) (from to : Address) (o : Object) → entry_at s.at_flip id ≡ Some from → entry_at addresses id ≡ Some to
      → from ≢ to → slice_get s.objects id ≡ Some o → IsForwardedObject s words addresses o from to

-- a word holds the address of what its cell refers to, which isn't white
pub record IsFixedWord (condemned : List Id) (addresses : List (Option Address)) (k : Colours) (head : ℕ) (c : Cell)
    (word : ℕ) : Type 0 where
  pub holds : IsCellWord addresses [] head c word
  pub not_white : (t : Id) → target_of_cell c ≡ Some t → is_white condemned k t ≡ false

-- cells of objects
abbrev pub CellSet : Type 0
CellSet = (id cell : ℕ) → Bool

-- one cell more
abbrev pub with_cell : CellSet → (id cell : ℕ) → CellSet
with_cell done id cell = λ j l. (j == id && l == cell) || done j l

-- the cells of black objects
abbrev pub black_cells : (condemned : List Id) → Colours → CellSet
black_cells condemned k = λ id cell. is_black condemned k id

-- some cells are fixed, and so are those of live reservations
pub record FixedCellsStand (s : Setting) (words : List ℕ) (addresses : List (Option Address)) (k : Colours) (done : CellSet) : Type 0 where
  pub cells : (id i : ℕ) (o : Object) (n : Word) (c : Cell) → IsTrue (done id i) → Lies s.objects addresses id i o n
      → slice_get (all_cells o.body) i ≡ Some c → IsFixedWord s.condemned addresses k (head_of_body o.body) c (slice_index words n)
  pub reserved : (point i : ℕ) (r : Reservation) (n : Word) (c : Cell) → LiesReserved s.points s.point_memories point i r n
      → slice_get r.cells i ≡ Some c → IsFixedWord s.condemned addresses k r.head c (slice_index words n)

-- ---- marks

-- whether a block that begins at a word is white, by its mark
abbrev pub is_white_over : (is_condemned_over kept : Word → Bool) → Word → Bool
is_white_over is_condemned_over kept n = is_condemned_over n && not (kept n)

-- the marks tell the colours, and white objects haven't moved
pub record MarksStand (s : Setting) (kept grey : Word → Bool) (addresses : List (Option Address)) (k : Colours) : Type 0 where
  pub white_there : (id : Id) (at : Address) → entry_at addresses id ≡ Some at
      → is_white s.condemned k id ≡ is_white_over s.is_condemned_over kept (word_of at)
  pub grey_there : (id : Id) (at : Address) → entry_at addresses id ≡ Some at → is_grey k id ≡ grey (word_of at)
  pub marked : (n : Word) → IsTrue (kept n || grey n) → BlockBegins addresses n
  pub unmoved : (id : Id) (at : Address) → entry_at addresses id ≡ Some at → IsTrue (s.is_read id) → is_white s.condemned k id ≡ true
      → entry_at s.at_flip id ≡ Some at

-- ---- runs

pub record RunsStand (s : Setting) (m : Memory) (addresses : List (Option Address)) : Type 0 where
  pub blocks : m.blocks ≡ in_order (extents_of s.objects addresses)
  pub reservations : m.reservations ≡ in_order (reserved_extents s.points s.point_memories)
  pub covered : m.covered ≡ in_order (extents_of s.objects addresses ++ reserved_extents s.points s.point_memories)

-- ---- all of it

-- the memory of an arena represents objects with these addresses and colours, of whose cells these are fixed
pub record ImageStands (s : Setting) (m : Memory) (addresses : List (Option Address)) (k : Colours) (done : CellSet) : Type 0 where
  pub placed : LieApart s addresses
  pub words : WordsStand s m.words addresses
  pub fixed : FixedCellsStand s m.words addresses k done
  pub marks : MarksStand s m.kept m.grey addresses k
  pub runs : RunsStand s m addresses

-- no colours, if no collection runs
abbrev pub no_colours : Colours
no_colours = record { kept = []; grey = [] }

-- between two calls: the cells of black objects are fixed. If no collection runs all objects are black
abbrev pub Stands : Setting → Memory → List (Option Address) → Colours → Type 0
Stands s m addresses k = ImageStands s m addresses k (black_cells s.condemned k)

-- ---- vectors: object 1 moved from 0x1020 to 0x2000

abbrev moved : List (Option Address)
moved = Some 0x1000 ∷ Some 0x2000 ∷ []

abbrev before : List (Option Address)
before = Some 0x1000 ∷ Some 0x1020 ∷ []

pub a_new_address_and_a_tag : IsCellWord moved before 0x201 (ReferenceCell (Some 1) 3) 0x2003
a_new_address_and_a_tag = record { address = 0x2000; is = refl; means = inl refl }

pub an_old_address_and_a_tag : IsCellWord moved before 0x201 (ReferenceCell (Some 1) 3) 0x1023
an_old_address_and_a_tag = record { address = 0x1020; is = refl; means = inr refl }

pub no_other_address : IsCellWord moved before 0x201 (ReferenceCell (Some 1) 3) 0x1003 → ⊥
no_other_address h = other h.address h.is h.means
  where
    other : (at : ℕ) → 0x1003 ≡ at + 3 → MeansAt moved before at 1 → ⊥
    other at e (inl there) = let h : Some 0x2000 ≡ Some at = there in omega (arith, e, same_Some 0x2000 at h)
    other at e (inr there) = let h : Some 0x1020 ≡ Some at = there in omega (arith, e, same_Some 0x1020 at h)

pub a_null_reference_is_its_tag : IsCellWord moved before 0x201 (ReferenceCell None 5) 5
a_null_reference_is_its_tag = refl

pub a_null_reference_is_no_address : IsCellWord moved before 0x201 (ReferenceCell None 5) 0x1005 → ⊥
a_null_reference_is_no_address h = omega (arith, h)

pub an_old_address_is_not_fixed : IsFixedWord [] moved no_colours 0x201 (ReferenceCell (Some 1) 3) 0x1023 → ⊥
an_old_address_is_not_fixed f = other f.holds.address f.holds.is f.holds.means
  where
    other : (at : ℕ) → 0x1023 ≡ at + 3 → MeansAt moved [] at 1 → ⊥
    other at e (inl there) = let h : Some 0x2000 ≡ Some at = there in omega (arith, e, same_Some 0x2000 at h)
    other at e (inr there) = absurd (none-some at there)

pub a_white_target_is_not_fixed : IsFixedWord (1 ∷ []) moved no_colours 0x201 (ReferenceCell (Some 1) 3) 0x2003 → ⊥
a_white_target_is_not_fixed f = let h : true ≡ false = f.not_white 1 refl in absurd cc

pub one_cell_more : with_cell (λ id cell. false) 3 1 3 1 ≡ true
one_cell_more = refl

pub no_cell_beside_it : with_cell (λ id cell. false) 3 1 3 2 ≡ false
no_cell_beside_it = refl

pub a_condemned_block_that_is_kept_is_not_white : is_white_over (λ n. true) (λ n. n == 4) 4 ≡ false
a_condemned_block_that_is_kept_is_not_white = refl

pub one_that_is_not_is : is_white_over (λ n. true) (λ n. n == 4) 5 ≡ true
one_that_is_not_is = refl
