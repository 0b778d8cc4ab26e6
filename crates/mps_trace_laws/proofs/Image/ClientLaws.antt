-- The laws of clients' calls, as they are stated.
use Rattle.std.proofs.Common.{◌∙◌, sym, ap, subst}
use Rattle.std.proofs.lemmas.Bool.{or_right}
use Rattle.std.specs.Prelude.{slice_get, ◌==◌, ◌&&◌, ◌≡◌, Bool, true, false, IsTrue, Option, Some, None, List, slice_set, ℕ, ◌+◌, slice_index, length, ◌<◌, ◌≢◌}
use Rattle.mps_model.specs.Graph.{graph_with_cells, Object, entry_at, ReferenceCell, Reservation, is_automatic, size_of, Cell, Point, Automatic, Graph}
use Rattle.mps_model.specs.Checked.{head_of_body}
use Rattle.mps_trace_laws.specs.Image.Image.{IsFixedWord, black_cells, with_cell, Stands, AreShaped}
use Rattle.mps_trace_laws.specs.Image.Changes.{setting_with_objects, memory_with_word, IsCellChanged, memory_without_block, setting_made, addresses_made, memory_allocated, AreFree, AreHome, IsAllocated, setting_with_points, memory_without_reservation, memory_with_reservation}
use Rattle.mps_trace_laws.proofs.Image.Written.{cell_written, tag_written}
use Rattle.mps_trace_laws.proofs.Image.CellChanged.{graph_cell_changed, fewer_fixed}
use Rattle.mps_trace_laws.proofs.Image.Reservations.{reservation_written}
use Rattle.mps_trace_laws.proofs.Image.Allocated as allocated
use Rattle.mps_trace_laws.proofs.Image.Gone.{image_gone, manual_may_go, white_may_go}
use Rattle.mps_base.specs.Address.{Address, Id, Word, word_of}
use Rattle.mps_abstract.specs.Colours.{Colours, is_white, is_grey}
use Rattle.mps_trace_laws.specs.Image.Memory.{Setting, Memory, live_reservation, Lies, all_cells}
use Rattle.mps_trace_laws.specs.Image.Fixing.{IsMarkCleared}
use Rattle.mps_model.specs.World.{PointMemory}

-- a cell of a live automatic object is written: with a number, or with a reference to what isn't white
pub cell_of_an_object_is_written : (s : Setting) (g : Graph) (m : Memory) (addresses : List (Option Address)) (k : Colours) (id i : ℕ)
    (o : Object) (head : ℕ)
    (cells : List Cell) (is_weak : Bool) (n : Word) (new : Cell) (word : ℕ) (change : List Cell → List Cell) → s.objects ≡ g.objects
    → o.body ≡ Automatic head cells is_weak → change cells ≡ slice_set cells i new → Stands s m addresses k
    → Lies s.objects addresses id i o n → IsFixedWord s.condemned addresses k head new word
    → Stands (setting_with_objects s (graph_with_cells g id change).objects) (memory_with_word m n word) addresses k
cell_of_an_object_is_written s g m addresses k id i o head cells is_weak n new word change same body is st lies fixed =
    let objects' = (graph_with_cells g id change).objects in
    let changed : IsCellChanged s.objects objects' id i new =
    subst (λ objects. IsCellChanged objects objects' id i new) (sym same)
    (graph_cell_changed g id o head cells is_weak i new change (ap (λ objects. slice_get objects id) (sym same) ∙ lies.object) body is)
    in
    fewer_fixed (setting_with_objects s objects') (memory_with_word m n word) addresses k (with_cell (black_cells s.condemned k) id i)
    (black_cells s.condemned k) (λ j l d. or_right (j == id && l == i) (black_cells s.condemned k j l) d)
    (cell_written s objects' m addresses k (black_cells s.condemned k) id i o n new word changed st lies
    (subst (λ h. IsFixedWord s.condemned addresses k h new word) (sym (ap head_of_body body)) fixed))

-- the tag of a reference of a live automatic object is written, and the address in its word stays
pub tag_of_an_object_is_written : (s : Setting) (g : Graph) (m : Memory) (addresses : List (Option Address)) (k : Colours) (id i : ℕ)
    (o : Object) (head : ℕ)
    (cells : List Cell) (is_weak : Bool) (n : Word) (target : Option Id) (old tag : ℕ) (was : Address) (change : List Cell → List Cell)
    → s.objects ≡ g.objects → o.body ≡ Automatic head cells is_weak → slice_get cells i ≡ Some (ReferenceCell target old)
    → change cells ≡ slice_set cells i (ReferenceCell target tag) → Stands s m addresses k → Lies s.objects addresses id i o n
    → slice_index m.words n ≡ was + old
    → Stands (setting_with_objects s (graph_with_cells g id change).objects) (memory_with_word m n (was + tag)) addresses k
tag_of_an_object_is_written s g m addresses k id i o head cells is_weak n target old tag was change same body cell is st lies has =
    let objects' = (graph_with_cells g id change).objects in
    let changed : IsCellChanged s.objects objects' id i (ReferenceCell target tag) =
    subst (λ objects. IsCellChanged objects objects' id i (ReferenceCell target tag)) (sym same)
    (graph_cell_changed g id o head cells is_weak i (ReferenceCell target tag) change
    (ap (λ objects. slice_get objects id) (sym same) ∙ lies.object) body is)
    in
    tag_written s objects' m addresses k (black_cells s.condemned k) id i o n target old tag was changed st lies
    (ap (λ b. slice_get (all_cells b) i) body ∙ cell) has

-- a point without a live reservation gets one, where nothing is
pub reservation_is_made : (s : Setting) (m : Memory) (addresses : List (Option Address)) (k : Colours) (i : ℕ) (p : Option Point)
    (p' : Point)
    (memory there : PointMemory) (q : Reservation) (words : List ℕ) → Stands s m addresses k → slice_get s.points i ≡ Some p
    → slice_get s.point_memories i ≡ Some memory → live_reservation p ≡ None → live_reservation (Some p') ≡ Some q → 0 < length q.cells
    → AreFree s addresses there.reserved_at (length q.cells) → length words ≡ length m.words
    → ((l : ℕ) (c : Cell) → slice_get q.cells l ≡ Some c
    → IsFixedWord s.condemned addresses k q.head c (slice_index words (word_of there.reserved_at + l)))
    → ((n : Word) → ((l : ℕ) → l < length q.cells → n ≢ word_of there.reserved_at + l) → slice_index words n ≡ slice_index m.words n)
    → Stands (setting_with_points s (slice_set s.points i (Some p')) (slice_set s.point_memories i there))
    (memory_with_reservation (record m { words = words }) there.reserved_at (length q.cells)) addresses k
reservation_is_made s m addresses k i p p' memory there q words st point has none live positive free long fixed others =
    allocated.reservation_made s m addresses k (black_cells s.condemned k) st i p memory point has none p' q there words live positive free
    long fixed others

-- a cell of a live reservation is written
pub reservation_is_written : (s : Setting) (m : Memory) (addresses : List (Option Address)) (k : Colours) (i : ℕ) (p : Option Point)
    (p' : Point)
    (memory : PointMemory) (q : Reservation) (l : ℕ) (new : Cell) (word : ℕ) → Stands s m addresses k → slice_get s.points i ≡ Some p
    → slice_get s.point_memories i ≡ Some memory → live_reservation p ≡ Some q → l < length q.cells
    → live_reservation (Some p') ≡ Some (record q { cells = slice_set q.cells l new })
    → IsFixedWord s.condemned addresses k q.head new word
    → Stands (setting_with_points s (slice_set s.points i (Some p')) s.point_memories)
    (memory_with_word m (word_of memory.reserved_at + l) word) addresses k
reservation_is_written s m addresses k i p p' memory q l new word st point has live within live' fixed =
    reservation_written s m addresses k (black_cells s.condemned k) st i p memory point has q live p' l new word within live' fixed

-- a live reservation is committed: it ends, and an object with its head and cells is where it was. No word changes
pub block_is_committed : (s : Setting) (m : Memory) (addresses : List (Option Address)) (k : Colours) (i : ℕ) (p : Option Point)
    (p' : Point)
    (memory : PointMemory) (q : Reservation) (pool : ℕ) (is_weak : Bool) (kept : Word → Bool) → Stands s m addresses k
    → slice_get s.points i ≡ Some p → slice_get s.point_memories i ≡ Some memory → live_reservation p ≡ Some q
    → live_reservation (Some p') ≡ None
    → IsAllocated (setting_with_points s (slice_set s.points i (Some p')) s.point_memories)
    (memory_without_reservation m memory.reserved_at)
    addresses k (record { pool = pool; body = Automatic q.head q.cells is_weak }) memory.reserved_at m.words kept
    → AreHome s memory.reserved_at (length q.cells) pool
    → Stands
    (setting_made (setting_with_points s (slice_set s.points i (Some p')) s.point_memories)
    (record { pool = pool; body = Automatic q.head q.cells is_weak }) (slice_set s.points i (Some p')) s.point_memories)
    (memory_allocated (memory_without_reservation m memory.reserved_at) m.words kept memory.reserved_at (length q.cells))
    (addresses_made addresses memory.reserved_at) k
block_is_committed s m addresses k i p p' memory q pool is_weak kept st point has live none v home =
    allocated.block_committed s m addresses k (black_cells s.condemned k) st i p memory point has q live p' none pool is_weak kept v home

-- its cells are fixed then, as those of the reservation were
pub committed_cells_are_fixed : (s : Setting) (m : Memory) (addresses : List (Option Address)) (k : Colours) (i : ℕ) (p : Option Point)
    (memory : PointMemory)
    (q : Reservation) → Stands s m addresses k → slice_get s.points i ≡ Some p → slice_get s.point_memories i ≡ Some memory
    → live_reservation p ≡ Some q → (l : ℕ) (c : Cell) → slice_get q.cells l ≡ Some c
    → IsFixedWord s.condemned (addresses_made addresses memory.reserved_at) k q.head c
    (slice_index m.words (word_of memory.reserved_at + l))
committed_cells_are_fixed s m addresses k i p memory q st point has live l c cell =
    allocated.committed_cells s m addresses k (black_cells s.condemned k) st i p memory point has q live l c cell

-- a block is put where nothing is
pub block_is_allocated : (s : Setting) (m : Memory) (addresses : List (Option Address)) (k : Colours) (o : Object) (at : Address)
    (words : List ℕ)
    (kept : Word → Bool) → Stands s m addresses k → IsAllocated s m addresses k o at words kept → AreFree s addresses at (size_of o)
    → AreHome s at (size_of o) o.pool
    → Stands (setting_made s o s.points s.point_memories) (memory_allocated m words kept at (size_of o)) (addresses_made addresses at) k
block_is_allocated s m addresses k o at words kept st v free home =
    allocated.block_allocated s m addresses k (black_cells s.condemned k) o at words kept st v free home

-- a manual block is freed, where references lead to automatic objects, of objects and of live reservations
pub manual_block_is_freed : (s : Setting) (m : Memory) (addresses : List (Option Address)) (k : Colours) (t : Id) (from : Address)
    (o : Object)
    (kept' grey' : Word → Bool) → Stands s m addresses k → AreShaped s.objects s.layout
    → ((point i : ℕ) (r : Reservation) (u tag : ℕ) → live_reservation (entry_at s.points point) ≡ Some r
    → slice_get r.cells i ≡ Some (ReferenceCell (Some u) tag) → (q : Object) × (slice_get s.objects u ≡ Some q) × IsTrue (is_automatic q))
    → entry_at addresses t ≡ Some from → slice_get s.objects t ≡ Some o → is_automatic o ≡ false
    → IsMarkCleared m.kept kept' (word_of from) → IsMarkCleared m.grey grey' (word_of from)
    → Stands s (memory_without_block m kept' grey' from) (slice_set addresses t None) k
manual_block_is_freed s m addresses k t from o kept' grey' st shaped reserved there object manual kept_cleared grey_cleared =
    image_gone s m addresses k (black_cells s.condemned k) t from o kept' grey' st
    (manual_may_go s m addresses k t from o kept' grey' st there object kept_cleared grey_cleared manual
    (λ id i u tag p e cell. shaped.targets id i p u tag e cell) reserved)

-- and a collection frees a white one, once nothing is grey and white objects aren't read
pub white_block_is_freed : (s : Setting) (m : Memory) (addresses : List (Option Address)) (k : Colours) (t : Id) (from : Address)
    (o : Object)
    (kept' grey' : Word → Bool) → Stands s m addresses k → ((id : Id) → IsTrue (s.is_read id) → is_white s.condemned k id ≡ false)
    → ((id : Id) (at : Address) → entry_at addresses id ≡ Some at → is_grey k id ≡ false) → entry_at addresses t ≡ Some from
    → slice_get s.objects t ≡ Some o → is_white s.condemned k t ≡ true → IsMarkCleared m.kept kept' (word_of from)
    → IsMarkCleared m.grey grey' (word_of from)
    → Stands s (memory_without_block m kept' grey' from) (slice_set addresses t None) k
white_block_is_freed s m addresses k t from o kept' grey' st read none_grey there object white kept_cleared grey_cleared =
    image_gone s m addresses k (black_cells s.condemned k) t from o kept' grey' st
    (white_may_go s m addresses k t from o kept' grey' st there object kept_cleared grey_cleared white read none_grey)
