-- What a client's call changes, by what it does: a cell is written, an object is made or goes, or reservations change. The memory
-- then represents the objects as before.
use Rattle.std.specs.Prelude.{◌≡◌, ◌≢◌, ◌⊎◌, ℕ, ◌+◌, ◌<◌, Bool, false, IsTrue, Option, Some, None, List, [], ◌∷◌, ◌++◌, length, slice_get, slice_set, slice_index, refl}
use Rattle.std.proofs.Common.{ap, arith, inl, inr, lit<, ◌∙◌}
use Rattle.std.proofs.lemmas.Option.{none-some, same_Some}
use Rattle.mps_base.specs.Address.{Address, Id, Word, word_of}
use Rattle.mps_base.specs.Run.{with_run, without_run}
use Rattle.mps_format.specs.Any.{numbered_layout}
use Rattle.mps_seg.specs.Segs.{new_segments}
use Rattle.mps_model.specs.Graph.{Cell, HeadCell, NumberCell, ReferenceCell, Manual, Object, Point, Reservation, entry_at, size_of, target_of_cell}
use Rattle.mps_model.specs.Checked.{head_of_body}
use Rattle.mps_model.specs.World.{PointMemory, extent, extents_of}
use Rattle.mps_abstract.specs.Colours.{Colours, is_white, is_grey}
use Rattle.mps_trace_laws.specs.Image.Memory.{Setting, Memory, Lies, LiesReserved, all_cells, setting_at_rest}
use Rattle.mps_trace_laws.specs.Image.Image.{IsAddress, LieApart, IsFixedWord, CellSet, RunsStand, is_white_over}
use Rattle.mps_trace_laws.specs.Image.Fixing.{IsMarkCleared}

-- the setting after a client's call, with these objects, points and what points have in the arena
abbrev pub setting_with : Setting → List Object → List (Option Point) → List PointMemory → Setting
setting_with s objects points memories = record s { objects = objects; points = points; point_memories = memories }

-- the setting with other objects
abbrev pub setting_with_objects : Setting → List Object → Setting
setting_with_objects s objects = record s { objects = objects }

-- the word of a cell is written
abbrev pub memory_with_word : Memory → (n : Word) → (word : ℕ) → Memory
memory_with_word m n word = record m { words = slice_set m.words n word }

-- a block of n words more
abbrev pub memory_with_block : Memory → (at : Address) → (size : ℕ) → Memory
memory_with_block m at size =
    record m { blocks = with_run (extent at size) m.blocks; covered = with_run (extent at size) m.covered }

-- a reservation of n words more
abbrev pub memory_with_reservation : Memory → (at : Address) → (size : ℕ) → Memory
memory_with_reservation m at size =
    record m { reservations = with_run (extent at size) m.reservations; covered = with_run (extent at size) m.covered }

-- a reservation has ended
abbrev pub memory_without_reservation : Memory → (at : Address) → Memory
memory_without_reservation m at =
    record m { reservations = without_run (word_of at) m.reservations; covered = without_run (word_of at) m.covered }

-- ---- a cell is written

-- what an object was before one cell of one object changed
pub record Was (objects : List Object) (id : Id) (p : Object) (holder i : ℕ) (new : Cell) : Type 0 where
  pub object : Object
  pub there : slice_get objects id ≡ Some object
  pub pool : object.pool ≡ p.pool
  pub size : size_of object ≡ size_of p
  pub head : head_of_body object.body ≡ head_of_body p.body
  -- each cell is as it was, or is the new one
  pub cells : (j : ℕ) (c : Cell) → slice_get (all_cells p.body) j ≡ Some c
      → (((id ≡ holder) × (j ≡ i) → ⊥) × (slice_get (all_cells object.body) j ≡ Some c)) ⊎ ((id ≡ holder) × (j ≡ i) × (c ≡ new))

-- one cell of one object changed, or none did
pub record IsCellChanged (objects objects' : List Object) (holder i : ℕ) (new : Cell) : Type 0 where
  pub was : (id : Id) (p : Object) → slice_get objects' id ≡ Some p → Was objects id p holder i new
  pub still : (id : Id) (p : Object) → slice_get objects id ≡ Some p → (q : Object) × (slice_get objects' id ≡ Some q)
  pub extents : (addresses : List (Option Address)) → extents_of objects' addresses ≡ extents_of objects addresses

-- ---- n words where nothing is

-- no block that has moved had this word
pub record IsOfNoMovedBlock (s : Setting) (addresses : List (Option Address)) (n : Word) : Type 0 where
  pub clear : (id : Id) (from to : Address) (o : Object) (q : ℕ) → entry_at s.at_flip id ≡ Some from → entry_at addresses id ≡ Some to
      → from ≢ to → slice_get s.objects id ≡ Some o → q < size_of o → n ≢ word_of from + q

-- n words from an address on lie in the arena, no object and no live reservation has one, and no block that has moved had one
pub record AreFree (s : Setting) (addresses : List (Option Address)) (at : Address) (size : ℕ) : Type 0 where
  pub within : (k : ℕ) → k < size → word_of at + k < s.size
  pub unoccupied : (k id i : ℕ) (o : Object) → k < size → Lies s.objects addresses id i o (word_of at + k) → ⊥
  pub unreserved : (k point i : ℕ) (r : Reservation) → k < size → LiesReserved s.points s.point_memories point i r (word_of at + k) → ⊥
  pub unforwarded : (k : ℕ) → k < size → IsOfNoMovedBlock s addresses (word_of at + k)

-- n words from an address on lie in a segment of a pool
pub record AreHome (s : Setting) (at : Address) (size pool : ℕ) : Type 0 where
  pub address : IsAddress at
  pub over : (k : ℕ) → k < size → s.pool_over (word_of at + k) ≡ Some pool
  pub whole : (k : ℕ) → k < size → s.is_condemned_over (word_of at + k) ≡ s.is_condemned_over (word_of at)

-- ---- an object is made

-- the setting and the addresses after an object was made
abbrev pub setting_made : Setting → Object → List (Option Point) → List PointMemory → Setting
setting_made s o points memories = setting_with s (s.objects ++ o ∷ []) points memories

abbrev pub addresses_made : List (Option Address) → (at : Address) → List (Option Address)
addresses_made addresses at = addresses ++ Some at ∷ []

-- what the call does, where the object is made at an address
pub record IsObjectMade (s : Setting) (m m' : Memory) (addresses : List (Option Address)) (k : Colours) (o : Object) (at : Address)
    (points : List (Option Point)) (memories : List PointMemory) : Type 0 where
  pub placed : LieApart (setting_made s o points memories) (addresses_made addresses at)
  pub runs : RunsStand (setting_made s o points memories) m' (addresses_made addresses at)
  pub numbered : length addresses ≡ length s.objects
  -- it has no colour, and had no address at a flip
  pub not_white : is_white s.condemned k (length s.objects) ≡ false
  pub not_grey : is_grey k (length s.objects) ≡ false
  pub fresh : entry_at s.at_flip (length s.objects) ≡ None
  -- its block is marked as kept if it lies in a condemned segment, and no other mark changes
  pub mark : is_white_over s.is_condemned_over m'.kept (word_of at) ≡ false
  pub kept_others : (n : Word) → n ≢ word_of at → m'.kept n ≡ m.kept n
  pub grey_same : (n : Word) → m'.grey n ≡ m.grey n
  -- no reservation is new
  pub reserved : (i l : ℕ) (r : Reservation) (n : Word) → LiesReserved points memories i l r n
      → LiesReserved s.points s.point_memories i l r n
  -- its words are those of its cells, and no others change
  pub long : length m'.words ≡ length m.words
  pub words : (i : ℕ) (c : Cell) → slice_get (all_cells o.body) i ≡ Some c
      → IsFixedWord s.condemned (addresses_made addresses at) k (head_of_body o.body) c (slice_index m'.words (word_of at + i))
  pub others : (n : Word) → ((i : ℕ) → i < size_of o → n ≢ word_of at + i) → slice_index m'.words n ≡ slice_index m.words n
  pub clear : (i : ℕ) → i < size_of o → IsOfNoMovedBlock s addresses (word_of at + i)

-- the memory after a block was put there
abbrev pub memory_allocated : Memory → (words : List ℕ) → (kept : Word → Bool) → (at : Address) → (size : ℕ) → Memory
memory_allocated m words kept at size = memory_with_block (record m { words = words; kept = kept }) at size

-- what a call that puts a block there writes
pub record IsAllocated (s : Setting) (m : Memory) (addresses : List (Option Address)) (k : Colours) (o : Object) (at : Address)
    (words : List ℕ) (kept : Word → Bool) : Type 0 where
  pub numbered : length addresses ≡ length s.objects
  pub positive : 0 < size_of o
  pub not_white : is_white s.condemned k (length s.objects) ≡ false
  pub not_grey : is_grey k (length s.objects) ≡ false
  pub fresh : entry_at s.at_flip (length s.objects) ≡ None
  pub mark : is_white_over s.is_condemned_over kept (word_of at) ≡ false
  pub kept_others : (n : Word) → n ≢ word_of at → kept n ≡ m.kept n
  pub long : length words ≡ length m.words
  pub cells : (i : ℕ) (c : Cell) → slice_get (all_cells o.body) i ≡ Some c
      → IsFixedWord s.condemned (addresses_made addresses at) k (head_of_body o.body) c (slice_index words (word_of at + i))
  pub others : (n : Word) → ((i : ℕ) → i < size_of o → n ≢ word_of at + i) → slice_index words n ≡ slice_index m.words n

-- ---- a block goes

-- the memory after a block at an address has gone
abbrev pub memory_without_block : Memory → (kept grey : Word → Bool) → (from : Address) → Memory
memory_without_block m kept grey from = record m {
  kept = kept;
  grey = grey;
  blocks = without_run (word_of from) m.blocks;
  covered = without_run (word_of from) m.covered;
}

-- which block goes: nothing refers to it that is read or fixed, and its marks are cleared
pub record MayGo (s : Setting) (m : Memory) (addresses : List (Option Address)) (done : CellSet) (t : Id) (from : Address) (o : Object)
    (kept' grey' : Word → Bool) : Type 0 where
  pub there : entry_at addresses t ≡ Some from
  pub object : slice_get s.objects t ≡ Some o
  pub unreferred : (id i : ℕ) (p : Object) (n : Word) (c : Cell) → IsTrue (s.is_read id) ⊎ IsTrue (done id i) → id ≢ t
      → Lies s.objects addresses id i p n → slice_get (all_cells p.body) i ≡ Some c → target_of_cell c ≡ Some t → ⊥
  pub unreserved : (point i : ℕ) (r : Reservation) (n : Word) (c : Cell) → LiesReserved s.points s.point_memories point i r n
      → slice_get r.cells i ≡ Some c → target_of_cell c ≡ Some t → ⊥
  pub kept_cleared : IsMarkCleared m.kept kept' (word_of from)
  pub grey_cleared : IsMarkCleared m.grey grey' (word_of from)

-- ---- reservations change

-- the setting with other reservations
abbrev pub setting_with_points : Setting → List (Option Point) → List PointMemory → Setting
setting_with_points s points memories = setting_with s s.objects points memories

-- what the call does: the words that it changes are those of live reservations, whose new cells are fixed
pub record AreReservationsChanged (s : Setting) (m m' : Memory) (addresses : List (Option Address)) (k : Colours)
    (points : List (Option Point))
    (memories : List PointMemory) : Type 0 where
  pub placed : LieApart (setting_with_points s points memories) addresses
  pub runs : RunsStand (setting_with_points s points memories) m' addresses
  pub kept_same : (n : Word) → m'.kept n ≡ m.kept n
  pub grey_same : (n : Word) → m'.grey n ≡ m.grey n
  pub long : length m'.words ≡ length m.words
  -- each cell was reserved with the same word, or is new
  pub cells : (point i : ℕ) (r : Reservation) (n : Word) (c : Cell) → LiesReserved points memories point i r n
      → slice_get r.cells i ≡ Some c
      → ((q : Reservation) × LiesReserved s.points s.point_memories point i q n × (slice_get q.cells i ≡ Some c) × (q.head ≡ r.head)
      × (slice_index m'.words n ≡ slice_index m.words n)) ⊎ IsFixedWord s.condemned addresses k r.head c (slice_index m'.words n)
  pub written : (n : Word) → (slice_index m'.words n ≡ slice_index m.words n)
      ⊎ ((point : ℕ) × (i : ℕ) × (r : Reservation) × LiesReserved points memories point i r n)
  pub clear : (point i : ℕ) (r : Reservation) (n : Word) → LiesReserved points memories point i r n → IsOfNoMovedBlock s addresses n

-- ---- vectors

pub a_block_is_covered_too :
    (memory_with_block (record {
      words = [];
      kept = λ n. false;
      grey = λ n. false;
      blocks = [];
      reservations = record { from = 1; count = 2 } ∷ [];
      covered = record { from = 1; count = 2 } ∷ [];
    }) 24 2).covered
    ≡ record { from = 1; count = 2 } ∷ record { from = 3; count = 2 } ∷ []
a_block_is_covered_too = refl

pub a_new_object_has_the_last_address : addresses_made (Some 8 ∷ None ∷ []) 24 ≡ Some 8 ∷ None ∷ Some 24 ∷ []
a_new_object_has_the_last_address = refl

abbrev number : (first second : ℕ) → Object
number first second = record { pool = 0; body = Manual (first ∷ second ∷ []) }

-- word 1 is written, and word 0 changes too
pub another_cell_that_changes : IsCellChanged (number 5 6 ∷ []) (number 4 7 ∷ []) 0 1 (NumberCell 7) → ⊥
another_cell_that_changes changed =
    let was = changed.was 0 (number 4 7) refl in of_cells was.object was.there (was.cells 0 (NumberCell 4) refl)
  where
    number_of : Cell → ℕ
    number_of (NumberCell n) = n
    number_of HeadCell = 0
    number_of (ReferenceCell t tag) = 0

    of_cells : (was : Object) → Some (number 5 6) ≡ Some was
        → ((◌≡◌ {A = ℕ} 0 0 × ◌≡◌ {A = ℕ} 0 1 → ⊥) × (slice_get (all_cells was.body) 0 ≡ Some (NumberCell 4)))
        ⊎ (◌≡◌ {A = ℕ} 0 0 × ◌≡◌ {A = ℕ} 0 1 × (NumberCell 4 ≡ NumberCell 7)) → ⊥
    of_cells was there (inr e) = omega (arith, e.1)
    of_cells was there (inl e) =
        let same : number 5 6 ≡ was = same_Some (number 5 6) was there in
        let cell : Some (NumberCell 5) ≡ Some (NumberCell 4) = ap (λ (o : Object). slice_get (all_cells o.body) 0) same ∙ e.1 in
        let number : 5 ≡ 4 = ap number_of (same_Some (NumberCell 5) (NumberCell 4) cell) in
        omega (arith, number)

-- an arena of two grains without a segment, and a manual object at 0x1000
abbrev example : Setting
example = setting_at_rest (new_segments 2 2) (number 5 6 ∷ []) [] [] numbered_layout

pub a_word_that_is_taken : AreFree example (Some 0x1000 ∷ []) 0x1008 1 → ⊥
a_word_that_is_taken free =
    free.unoccupied 0 0 1 (number 5 6) (lit< tt)
    (record { at = 0x1000; address = refl; object = refl; within = lit< tt; is = refl })

pub a_word_past_the_arena : AreFree example [] 0x3000 1 → ⊥
a_word_past_the_arena free = let h : 1536 < 1536 = free.within 0 (lit< tt) in omega (arith, h)

pub no_segment_is_no_home : AreHome example 0x1000 1 0 → ⊥
no_segment_is_no_home home = none-some 0 (home.over 0 (lit< tt))
