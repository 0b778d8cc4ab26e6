-- What a call of a heap at rest finds at the address of a live object and in its cells, against what the model finds, over the parts of
-- a heap that stands for a world (`parts`) and what holds of a world that is reached (`known`).
--
-- live_block: the pool at the address of a live object. object_at_same, object_same: the object that a slot refers to (`IsObject`).
-- number_same, reference_same: cell k of it: its word (`Lies`) and the number or the target there (`IsNumberOf`, `IsReferenceOf`).
-- tag_same: the tag of the reference in cell k.
-- slot_passes, word_passes: what stands in a slot or in a word of an area passes each test that all that is held there passes.
use Rattle.std.proofs.Common.{◌≡◌, ◌∙◌, ℕ, ◌+◌, ◌*◌, ◌%◌, ◌<◌, Bool, true, false, refl, sym, ap, subst, List, [], length, Option, Some, None, Ok, inl, inr, arith, lit≤, slice_index}
use Rattle.std.proofs.lemmas.Bool.{false≢true, and_parts, ne_eqb}
use Rattle.std.proofs.lemmas.Option.{none-some, same_Some, slice_get-get_or, slice_get_within, get_or_from_slice_get}
use Rattle.std.specs.Prelude.{◌==◌, ◌&&◌, ◌||◌, not, slice_get, option_and_then}
use Rattle.std.specs.List.{list_all}
use Rattle.std.specs.Option.{option_map_or}
use Rattle.mps_base.specs.Address.{Address, Id, word_of}
use Rattle.mps_base.specs.Segment.{Segment, segment_over}
use Rattle.mps_base.specs.declared.names.Slot.{Slot}
use Rattle.mps_base.specs.declared.refusal.Refusal.TheVariants as refusal
use Rattle.mps_abstract.specs.Colours.{AreDifferent, is_black}
use Rattle.mps_format.specs.Layout.{Layout, IsLawful}
use Rattle.mps_trace_laws.specs.Image.Image.{IsCellWord, IsAddress}
use Rattle.mps_trace_laws.specs.Image.Memory.{Lies, pool_layout, all_cells}
use Rattle.mps_laws.proofs.Lookups.{there_is, entry_is_there}
use Rattle.mps_laws.proofs.Same.{Same, refused, same_then, same_weaker}
use Rattle.mps_laws.proofs.Sound.SoundGraph.{All, PassesOrNull, all-at, entry-passes}
use Rattle.mps_model.proofs.Taking.{valid_where_taken}
use Rattle.mps_model.specs.Allocating.{takes_head}
use Rattle.mps_model.specs.Checked as model
use Rattle.mps_model.specs.Checked.{Checked, Numbered, Found, ◌>>=◌, required, cells_of_body, number_at, reference_at, tag_at}
use Rattle.mps_model.specs.Graph.{Cell, HeadCell, NumberCell, ReferenceCell, Body, Automatic, Manual, Object, entry_at, slots_of, ids_in_slots, is_automatic, is_automatic_body, new_cells, size_of, size_of_body, targets_of_cells}
use Rattle.mps_model.specs.World as world
use Rattle.mps_model.specs.World.{World, is_live, object_is, is_automatic_kind, is_weak_kind, pool_at}
use Rattle.mps_model.specs.WellFormed.{are_shaped, are_right_cells, is_right_body, is_right_object}
use Rattle.mps_heap_spec.specs.Finding.{object_at, object_in, number_cell_at, reference_cell_at}
use Rattle.mps_heap_spec.specs.declared.found.Block.{Block}
use Rattle.mps_heap_spec.specs.declared.found.CellFound.{CellFound}
use Rattle.mps_heap_spec.specs.declared.found.Entry.{Entry}
use Rattle.mps_heap_spec.specs.State.{HeapState, format_over, pool_over}
use Rattle.mps_format.specs.Pools.{format_of_pool}
use Rattle.mps_format.specs.declared.pool.Pool.{Pool}
use Rattle.mps_format.specs.declared.pool.Pool.TheVariants as pool
use Rattle.mps_refinement.specs.StandsFor.{Past, AreParts, IsPool, address_of_target, Time}
use Rattle.mps_refinement.proofs.Lookups.Found.{same_of, in_a_row, mapped_some, some_there}
use Rattle.mps_refinement.proofs.Worlds.Known.{IsKnown, is_kept_at}
use Rattle.mps_refinement.proofs.Lookups.Cells.{IsTargetAddress, AreCells, are_cells, first_cell, IsCell, IsNumber, IsReference, number_cell_same, reference_cell_same, IsTagged, tag_cell_same, tag_is}
use Rattle.mps_refinement.proofs.Lookups.Lookups.{IsSlotEntry, slot_same}

-- ---- the pool of an object

-- an automatic pool has a format, which its number means
pub format_there : {F : Type 0} (layout : F → Layout) (formats : ℕ → Layout) (p : Pool F) (q : world.Pool) → IsPool layout formats p q
    → is_automatic_kind q.kind ≡ true → (format : F) × (format_of_pool p ≡ Some format) × (formats q.format ≡ layout format)
format_there layout formats (pool.Automatic kind format) q is automatic = (format, refl, is.1)
format_there layout formats (pool.OneSize words) q is automatic =
    absurd (false≢true (sym (ap (λ (x : world.Pool). is_automatic_kind x.kind) is) ∙ automatic))
format_there layout formats pool.AnySize q (inl is) automatic =
    absurd (false≢true (sym (ap (λ (x : world.Pool). is_automatic_kind x.kind) is) ∙ automatic))
format_there layout formats pool.AnySize q (inr is) automatic =
    absurd (false≢true (sym (ap (λ (x : world.Pool). is_automatic_kind x.kind) is) ∙ automatic))

-- the pool of an object, where a test of it holds
pool_there : {X : Type 0} (test : X → Bool) (o : Option X) → option_map_or test o false ≡ true → (x : X) × (o ≡ Some x) × (test x ≡ true)
pool_there test None e = absurd (false≢true e)
pool_there test (Some x) e = (x, refl, e)

-- what a right body of an automatic object is
pub record IsRightAutomatic (w : World) (q : world.Pool) (o : Object) : Type 0 where
  pub head : ℕ
  pub cells : List Cell
  pub is_weak : Bool
  pub body : o.body ≡ Automatic head cells is_weak
  pub kind : is_automatic_kind q.kind ≡ true
  pub valid : (w.formats q.format).is_valid head ≡ true
  pub shaped : are_shaped (new_cells (w.formats q.format) head) cells ≡ true

pub right_automatic : (w : World) (q : world.Pool) (o : Object) (b : Body) → o.body ≡ b → is_automatic_body b ≡ true
    → is_right_body w q b ≡ true → IsRightAutomatic w q o
right_automatic w q o (Manual words) e automatic right = absurd (false≢true automatic)
right_automatic w q o (Automatic head cells is_weak) e automatic right =
    let kind = is_automatic_kind q.kind in
    let right_cells = are_right_cells w q head cells in
    let first = (and_parts (kind && right_cells) (not is_weak || is_weak_kind q.kind) right).0 in
    let both = and_parts kind right_cells first in
    let taken = takes_head w q head in
    let shaped = are_shaped (new_cells (w.formats q.format) head) cells in
    let two = and_parts taken shaped
    (and_parts (taken && shaped) (list_all (object_is is_automatic w) (targets_of_cells cells)) both.1).0 in
    record {
      head = head;
      cells = cells;
      is_weak = is_weak;
      body = e;
      kind = both.0;
      valid = valid_where_taken w q head two.0;
      shaped = two.1;
    }

-- null, or a live automatic object
pub record MayRead (t : Time) (w : World) (target : Option ℕ) : Type 0 where
  pub live : PassesOrNull (is_live w) target
  pub automatic : PassesOrNull (object_is is_automatic w) target
  pub read : PassesOrNull t.is_read target
  pub kept : PassesOrNull (is_kept_at t) target

module _ {F : Type 0} (layout : F → Layout) (h : HeapState F) (w : World) where
  -- a live object: its address, and the pool of the heap that is over it
  pub record IsLiveBlock (id : Id) (at : Address) (o : Object) : Type 0 where
    pub object : slice_get w.graph.objects id ≡ Some o
    pub address : IsAddress at
    pub segment : Segment
    pub over : segment_over h.segs.segments at ≡ Some segment
    pub of : segment.pool ≡ o.pool
    pub pool : Pool F
    pub kept : slice_get h.pools o.pool ≡ Some pool
    pub pool_is : pool_over h at ≡ Some pool
    pub models : world.Pool
    pub has : pool_at w o.pool ≡ Some models
    pub fit : IsPool layout w.formats pool models
    pub right : is_right_body w models o.body ≡ true

module _ {F : Type 0} (layout : F → Layout) (past : Past) (h : HeapState F) (w : World) where
  -- ---- an object, found in both

  pub record IsObject (b : Block F) (n : Numbered Object) : Type 0 where
    pub address : entry_at w.addresses n.number ≡ Some b.at
    pub object : slice_get w.graph.objects n.number ≡ Some n.value
    pub block : IsLiveBlock layout h w n.number b.at n.value
    pub read : past.time.is_read n.number ≡ true
    pub cells : List Cell
    pub is_weak : Bool
    pub body : n.value.body ≡ Automatic b.head cells is_weak
    pub layout_is : pool_layout w n.value.pool ≡ layout b.format
    pub are : AreCells (layout b.format) b.head cells

abbrev pub numbered_object : Id → Object → Numbered Object
numbered_object id o = record { number = id; value = o }

model_reads : (w : World) (id : Id) (o : Object) → slice_get w.graph.objects id ≡ Some o
    → model.object_in w (Some id) ≡ Ok (numbered_object id o)
model_reads w id o object = ap (λ found. required found refusal.NullRef >>= (λ (object : Object). Ok (numbered_object id object))) object

-- the word of cell k of an object, a number or a reference, and what that has
pub record IsNumberOf (w : World) (n : Numbered Object) (k : ℕ) (found : CellFound) (number : ℕ) : Type 0 where
  pub lies : Lies w.graph.objects w.addresses n.number k n.value found.word
  pub cell : slice_get (cells_of_body n.value.body) k ≡ Some (NumberCell number)
  pub value : found.value ≡ number

pub record IsReferenceOf (t : Time) (words : List ℕ) (w : World) (n : Numbered Object) (k : ℕ) (found : CellFound)
    (target : Option ℕ) : Type 0 where
  pub lies : Lies w.graph.objects w.addresses n.number k n.value found.word
  pub tag : ℕ
  pub low : tag < 8
  pub cell : slice_get (cells_of_body n.value.body) k ≡ Some (ReferenceCell target tag)
  pub there : slice_get words found.word ≡ Some found.value
  -- the address that its word has, of now or of the flip
  pub was : Address
  pub is_target : IsTargetAddress was
  pub value : found.value ≡ was + tag

-- the same of a cell that is fixed: its word has the address that its object has now
pub record IsFixedReferenceOf (w : World) (found : CellFound) (target : Option ℕ) : Type 0 where
  pub tag : ℕ
  pub low : tag < 8
  pub value : found.value ≡ address_of_target w.addresses target + tag

-- the word of a reference whose cell is fixed
pub reference_word : (addresses : List (Option Address)) (head word tag : ℕ) (target : Option Id)
    → IsCellWord addresses [] head (ReferenceCell target tag) word → word ≡ address_of_target addresses target + tag
reference_word addresses head word tag None e = omega (arith, e)
reference_word addresses head word tag (Some id) r =
    elim r.means [
      | inl e ↦ r.is ∙ ap (λ o. option_map_or (λ at. at) o 0 + tag) (sym e)
      | inr e ↦ absurd (none-some r.address e)
    ]

module _ {F : Type 0} (layout : F → Layout) (past : Past) (h : HeapState F) (w : World) (parts : AreParts layout past h w) where
  -- ---- where objects lie

  pub lies : (id k : ℕ) (at : Address) (o : Object) → entry_at w.addresses id ≡ Some at → slice_get w.graph.objects id ≡ Some o
      → k < size_of o → Lies w.graph.objects w.addresses id k o (word_of at + k)
  lies id k at o there object within = record { at = at; address = there; object = object; within = within; is = refl }

  -- the segment over a live object is one of its pool
  segment_there : (id : Id) (at : Address) (o : Object) → entry_at w.addresses id ≡ Some at → slice_get w.graph.objects id ≡ Some o
      → (t : Segment) × (segment_over h.segs.segments at ≡ Some t) × (t.pool ≡ o.pool)
  segment_there id at o there object =
      let placed = parts.image.placed in
      let home = placed.home id 0 o (word_of at + 0) (lies id 0 at o there object (placed.positive id at o there object)) in
      let over = mapped_some (λ (t : Segment). t.pool) (segment_over h.segs.segments (8 * (word_of at + 0))) o.pool home in
      let begins : 8 * (word_of at + 0) ≡ at = (let aligned = (placed.address id at there).aligned in omega (arith, aligned)) in
      (over.0, subst (λ x. segment_over h.segs.segments x ≡ Some over.0) begins over.1, over.2)

  -- the heap's pool that stands for one of the model
  pub pool_kept : (number : ℕ) (q : world.Pool) → slice_get w.pools number ≡ Some q
      → (p : Pool F) × (slice_get h.pools number ≡ Some p) × IsPool layout w.formats p q
  pool_kept number q has =
      let low = slice_get_within w.pools number q has in
      let p = there_is h.pools number (let count = parts.pools.count in omega (arith, low, count)) in
      let other = parts.pools.each number p.0 p.1 in
      (p.0, p.1, fit_again p.0 other.0 (same_Some other.0 q (sym other.1 ∙ has)) other.2)
    where
      fit_again : (p : Pool F) (r : world.Pool) → r ≡ q → IsPool layout w.formats p r → IsPool layout w.formats p q
      fit_again p r same fit = subst (IsPool layout w.formats p) same fit

  -- no two live objects have one address
  pub different : AreDifferent w.addresses
  different id other at there those =
      let placed = parts.image.placed in
      let o = placed.exists id at there in
      let p = placed.exists other at those in
      placed.apart id other 0 0 o.0 p.0 (word_of at + 0) (lies id 0 at o.0 there o.1 (placed.positive id at o.0 there o.1))
      (lies other 0 at p.0 those p.1 (placed.positive other at p.0 those p.1))

  -- the address of a target is a multiple of 8, and in range
  pub target_address : (target : Option ℕ) → IsTargetAddress (address_of_target w.addresses target)
  target_address None = record { aligned = refl; small = lit≤ tt }
  target_address (Some id) = of_entry (entry_at w.addresses id) refl
    where
      of_entry : (o : Option Address) → entry_at w.addresses id ≡ o → IsTargetAddress (option_map_or (λ at. at) o 0)
      of_entry None e = record { aligned = refl; small = lit≤ tt }
      of_entry (Some at) e = let a = parts.image.placed.address id at e in record { aligned = a.aligned; small = a.small }

  -- word k of a live object is a word of the arena
  pub word_there : (id k : ℕ) (at : Address) (o : Object) → entry_at w.addresses id ≡ Some at → slice_get w.graph.objects id ≡ Some o
      → k < size_of o → slice_get h.segs.words (word_of at + k) ≡ Some (slice_index h.segs.words (word_of at + k))
  word_there id k at o there object within =
      slice_get-get_or h.segs.words (word_of at + k) 0
      (let low = parts.image.placed.within id k o (word_of at + k) (lies id k at o there object within) in
      let long = parts.image.words.long in omega (arith, low, long))

  pub object_lawful : (b : Block F) (n : Numbered Object) → IsObject layout past h w b n → IsLawful (layout b.format)
  object_lawful b n is =
      subst IsLawful is.layout_is (parts.lawful (option_map_or (λ (p : world.Pool). p.format) (pool_at w n.value.pool) 0))

  -- the address that the word of a reference has, of now or of the flip
  word_address : (head : ℕ) (target : Option Id) (tag word : ℕ)
      → IsCellWord w.addresses past.time.at_flip head (ReferenceCell target tag) word
      → (was : Address) × IsTargetAddress was × (word ≡ was + tag)
  word_address head None tag word e = (0, record { aligned = refl; small = lit≤ tt }, omega (arith, e))
  word_address head (Some id) tag word r =
      elim r.means [
        | inl e ↦ (r.address, (let a = parts.image.placed.address id r.address e in record { aligned = a.aligned; small = a.small }), r.is)
        | inr e ↦ (
          r.address,
          (let a = parts.image.placed.address_at_flip id r.address e in record { aligned = a.aligned; small = a.small }),
          r.is,
        )
      ]

  -- ---- the cells of an object

  module _ (b : Block F) (n : Numbered Object) (is : IsObject layout past h w b n) where
    words_there : (k : ℕ) → k < length is.cells → (value : ℕ) × (slice_get h.segs.words (word_of b.at + k) ≡ Some value)
    words_there k low = (
      slice_index h.segs.words (word_of b.at + k),
      word_there n.number k b.at n.value is.address is.object (subst (λ body. k < size_of_body body) (sym is.body) low),
    )

    number_in_cells : (k : ℕ) → Same (IsNumber h.segs.words b.at is.cells k) (number_cell_at layout h.segs.words b k)
        (number_at (cells_of_body n.value.body) k)
    number_in_cells k =
        subst (λ body. Same (IsNumber h.segs.words b.at is.cells k) (number_cell_at layout h.segs.words b k)
        (number_at (cells_of_body body) k)) (sym is.body)
        (number_cell_same layout h.segs.words b is.cells is.are words_there k)

    reference_in_cells : (k : ℕ) → Same (IsReference h.segs.words b.at is.cells k) (reference_cell_at layout h.segs.words b k)
        (reference_at (cells_of_body n.value.body) k)
    reference_in_cells k =
        subst (λ body. Same (IsReference h.segs.words b.at is.cells k) (reference_cell_at layout h.segs.words b k)
        (reference_at (cells_of_body body) k)) (sym is.body)
        (reference_cell_same layout h.segs.words b is.cells is.are words_there k)

    -- where a cell was found, its word lies in the object and is that of the cell
    cell_lies : (k : ℕ) (c : Cell) (found : CellFound) → IsCell h.segs.words b.at is.cells k c found
        → Lies w.graph.objects w.addresses n.number k n.value found.word
    cell_lies k c found cell = record {
      at = b.at;
      address = is.address;
      object = is.object;
      within = subst (λ body. k < size_of_body body) (sym is.body) cell.within;
      is = cell.word;
    }

    cell_in_body : (k : ℕ) (c : Cell) (found : CellFound) → IsCell h.segs.words b.at is.cells k c found
        → slice_get (cells_of_body n.value.body) k ≡ Some c
    cell_in_body k c found cell = ap (λ body. slice_get (cells_of_body body) k) is.body ∙ cell.cell

    cell_word : (k : ℕ) (c : Cell) (found : CellFound) → IsCell h.segs.words b.at is.cells k c found
        → IsCellWord w.addresses past.time.at_flip b.head c found.value
    cell_word k c found cell =
        subst (λ head. IsCellWord w.addresses past.time.at_flip head c found.value) (ap model.head_of_body is.body)
        (subst (IsCellWord w.addresses past.time.at_flip (model.head_of_body n.value.body) c)
        (get_or_from_slice_get h.segs.words found.word found.value 0 cell.value)
        (parts.image.words.cells n.number k n.value found.word c is.read (cell_lies k c found cell)
        (ap (λ body. slice_get (all_cells body) k) is.body ∙ cell.cell)))

    pub number_same : (k : ℕ) → Same (IsNumberOf w n k) (number_cell_at layout h.segs.words b k) (number_at (cells_of_body n.value.body) k)
    number_same k = same_weaker (number_in_cells k) (λ found number cell. record {
      lies = cell_lies k (NumberCell number) found cell.is;
      cell = cell_in_body k (NumberCell number) found cell.is;
      value = cell_word k (NumberCell number) found cell.is;
    })

    pub reference_same : (k : ℕ)
        → Same (IsReferenceOf past.time h.segs.words w n k) (reference_cell_at layout h.segs.words b k)
        (reference_at (cells_of_body n.value.body) k)
    reference_same k = same_weaker (reference_in_cells k) (λ found target cell. record {
      lies = cell_lies k (ReferenceCell target cell.tag) found cell.is;
      tag = cell.tag;
      low = cell.low;
      cell = cell_in_body k (ReferenceCell target cell.tag) found cell.is;
      there = cell.is.value;
      was = (word_address b.head target cell.tag found.value (cell_word k (ReferenceCell target cell.tag) found cell.is)).0;
      is_target = (word_address b.head target cell.tag found.value (cell_word k (ReferenceCell target cell.tag) found cell.is)).1;
      value = (word_address b.head target cell.tag found.value (cell_word k (ReferenceCell target cell.tag) found cell.is)).2;
    })

    tag_in_cells : (k : ℕ) → Same (IsTagged h.segs.words b.at is.cells k) (reference_cell_at layout h.segs.words b k)
        (tag_at (cells_of_body n.value.body) k)
    tag_in_cells k =
        subst (λ body. Same (IsTagged h.segs.words b.at is.cells k) (reference_cell_at layout h.segs.words b k)
        (tag_at (cells_of_body body) k)) (sym is.body)
        (tag_cell_same layout h.segs.words b is.cells is.are words_there k)

    pub tag_same : (k : ℕ) → Same (λ (found : CellFound) (tag : ℕ). found.value % 8 ≡ tag) (reference_cell_at layout h.segs.words b k)
        (tag_at (cells_of_body n.value.body) k)
    tag_same k = same_weaker (tag_in_cells k) (λ found tag cell.
        let at = word_address b.head cell.target tag found.value (cell_word k (ReferenceCell cell.target tag) found cell.is) in
        tag_is found.value at.0 tag cell.low at.1 at.2)

    -- if the object is black its cells are fixed
    fixed_word : (k : ℕ) (c : Cell) (found : CellFound) → IsCell h.segs.words b.at is.cells k c found
        → is_black past.time.condemned past.time.colours n.number ≡ true → IsCellWord w.addresses [] b.head c found.value
    fixed_word k c found cell black =
        subst (λ head. IsCellWord w.addresses [] head c found.value) (ap model.head_of_body is.body)
        (subst (IsCellWord w.addresses [] (model.head_of_body n.value.body) c)
        (get_or_from_slice_get h.segs.words found.word found.value 0 cell.value)
        (parts.image.fixed.cells n.number k n.value found.word c black (cell_lies k c found cell)
        (ap (λ body. slice_get (all_cells body) k) is.body ∙ cell.cell)).holds)

    pub fixed_reference_same : (k : ℕ) → is_black past.time.condemned past.time.colours n.number ≡ true
        → Same (IsFixedReferenceOf w) (reference_cell_at layout h.segs.words b k) (reference_at (cells_of_body n.value.body) k)
    fixed_reference_same k black = same_weaker (reference_in_cells k) (λ found target cell. record {
      tag = cell.tag;
      low = cell.low;
      value = reference_word w.addresses b.head found.value cell.tag target
          (fixed_word k (ReferenceCell target cell.tag) found cell.is black);
    })

module _ {F : Type 0} (layout : F → Layout) (past : Past) (h : HeapState F) (w : World) (parts : AreParts layout past h w)
    (right : (id : Id) (o : Object) → slice_get w.graph.objects id ≡ Some o → is_right_object w o ≡ true) where
  -- ---- a live object

  -- the model's pool of an object, of which the object's body is right
  models_pool : (id : Id) (o : Object) → slice_get w.graph.objects id ≡ Some o
      → (q : world.Pool) × (pool_at w o.pool ≡ Some q) × (is_right_body w q o.body ≡ true)
  models_pool id o object =
      pool_there (λ (q : world.Pool). is_right_body w q o.body) (pool_at w o.pool) (right id o object)

  pool_over_is : (at : Address) (t : Segment) (number : ℕ) (p : Pool F) → segment_over h.segs.segments at ≡ Some t → t.pool ≡ number
      → slice_get h.pools number ≡ Some p → pool_over h at ≡ Some p
  pool_over_is at t number p over of kept =
      ap (option_and_then (λ (s : Segment). slice_get h.pools s.pool)) over ∙ ap (slice_get h.pools) of ∙ kept

  pub block_there : (id : Id) (at : Address) → entry_at w.addresses id ≡ Some at → (o : Object) × IsLiveBlock layout h w id at o
  block_there id at there =
      let o = parts.image.placed.exists id at there in
      let t = segment_there layout past h w parts id at o.0 there o.1 in
      let q = models_pool id o.0 o.1 in
      let p = pool_kept layout past h w parts o.0.pool q.0 q.1 in (
        o.0,
        record {
          object = o.1;
          address = parts.image.placed.address id at there;
          segment = t.0;
          over = t.1;
          of = t.2;
          pool = p.0;
          kept = p.1;
          pool_is = pool_over_is at t.0 o.0.pool p.0 t.1 t.2 p.1;
          models = q.0;
          has = q.1;
          fit = p.2;
          right = q.2;
        },
      )

  -- what is at the address of a live automatic object
  object_is_read : (at head : ℕ) (format : F) → (at == 0) ≡ false → format_over h at ≡ Some format
      → slice_get h.segs.words (word_of at) ≡ Some head → (layout format).is_valid head ≡ true
      → object_at layout h at ≡ Ok (record { at = at; format = format; head = head })
  object_is_read at head format not_null over word valid = rw (not_null, over, word, valid) refl

  -- the word at the address of an automatic object is its head
  head_read : (id : Id) (at : Address) (o : Object) → past.time.is_read id ≡ true → entry_at w.addresses id ≡ Some at
      → slice_get w.graph.objects id ≡ Some o
      → 0 < size_of o → (head : ℕ) → slice_get (all_cells o.body) 0 ≡ Some HeadCell → model.head_of_body o.body ≡ head
      → slice_get h.segs.words (word_of at) ≡ Some head
  head_read id at o read there object positive head first is =
      let zero : word_of at + 0 ≡ word_of at = omega arith in
      let word = parts.image.words.cells id 0 o (word_of at + 0) HeadCell read
      (lies layout past h w parts id 0 at o there object positive) first in
      ap (slice_get h.segs.words) (sym zero) ∙ word_there layout past h w parts id 0 at o there object positive ∙ ap Some (word ∙ is)

  pub automatic_there : (id : Id) (o : Object) → slice_get w.graph.objects id ≡ Some o → object_is is_automatic w id ≡ true
      → is_automatic o ≡ true
  automatic_there id o object automatic = subst (λ x. option_map_or is_automatic x false ≡ true) object automatic

  -- an automatic object's head, format and cells, as the heap reads them
  pub object_read : (id : Id) (at : Address) (o : Object) → past.time.is_read id ≡ true → entry_at w.addresses id ≡ Some at
      → IsLiveBlock layout h w id at o → is_automatic o ≡ true
      → (x : Block F) × (object_at layout h at ≡ Ok x) × IsObject layout past h w x (numbered_object id o)
  object_read id at o read there b automatic =
      let own = right_automatic w b.models o o.body refl automatic b.right in
      let format = format_there layout w.formats b.pool b.models b.fit own.kind in
      let positive = parts.image.placed.positive id at o there b.object in
      let are = subst (λ f. AreCells f own.head own.cells) format.2
      (are_cells (w.formats b.models.format) (parts.lawful b.models.format) own.head own.cells own.valid own.shaped) in
      let first = first_cell (layout format.0) own.head own.cells are (subst (λ body. 0 < size_of_body body) own.body positive) in (
        record { at = at; format = format.0; head = own.head },
        object_is_read at own.head format.0 (ne_eqb at 0 (λ e. let p = b.address.not_null in omega (arith, e, p)))
            (ap (option_and_then format_of_pool) b.pool_is ∙ format.1)
            (head_read id at o read there b.object positive own.head
            (ap (λ body. slice_get (all_cells body) 0) own.body ∙ first) (ap model.head_of_body own.body))
            (subst (λ (f : Layout). f.is_valid own.head ≡ true) format.2 own.valid),
        record {
          address = there;
          object = b.object;
          block = b;
          read = read;
          cells = own.cells;
          is_weak = own.is_weak;
          body = own.body;
          layout_is = ap (λ found. w.formats (option_map_or (λ (x : world.Pool). x.format) found 0)) b.has ∙ format.2;
          are = are;
        },
      )

module _ {F : Type 0} (layout : F → Layout) (past : Past) (h : HeapState F) (w : World) (parts : AreParts layout past h w)
    (known : IsKnown past.time w) where
  -- ---- what is held in slots and in words of areas

  -- what stands in a slot passes each test that all that stands in slots passes
  pub slot_passes : (test : ℕ → Bool) → All test (ids_in_slots w.graph) → (index : ℕ) (entry : Entry Address) (found : Found (Option ℕ))
      → IsSlotEntry past h w index entry found → PassesOrNull test found.value
  slot_passes test all index entry found is =
      entry-passes test found.list index found.value
      (all-at test slots_of w.graph.tables found.number (Some found.list) all
      (entry_is_there w.graph.tables found.number found.list is.has)) is.there

  pub slot_may_read : (index : ℕ) (entry : Entry Address) (found : Found (Option ℕ))
      → IsSlotEntry past h w index entry found → MayRead past.time w found.value
  slot_may_read index entry found is = record {
    live = slot_passes (is_live w) known.held.slots index entry found is;
    automatic = slot_passes (object_is is_automatic w) known.formed.slots index entry found is;
    read = slot_passes past.time.is_read known.read.slots index entry found is;
    kept = slot_passes (is_kept_at past.time) known.kept.slots index entry found is;
  }

  -- ---- a live object

  pub live_block : (id : Id) (at : Address) → entry_at w.addresses id ≡ Some at → (o : Object) × IsLiveBlock layout h w id at o
  live_block = block_there layout past h w parts known.graph.objects

  live_object_same : (id : Id) (at : Address) → past.time.is_read id ≡ true → entry_at w.addresses id ≡ Some at
      → object_is is_automatic w id ≡ true
      → Same (IsObject layout past h w) (object_at layout h at) (model.object_in w (Some id))
  live_object_same id at read there automatic =
      let b = live_block id at there in
      let is = automatic_there layout past h w parts known.graph.objects id b.0 b.1.object automatic in
      let x = object_read layout past h w parts known.graph.objects id at b.0 read there b.1 is in
      same_of (IsObject layout past h w) x.1 (model_reads w id b.0 b.1.object) x.2

  pub object_at_same : (address : Address) (target : Option ℕ) → address ≡ address_of_target w.addresses target → MayRead past.time w target
      → Same (IsObject layout past h w) (object_at layout h address) (model.object_in w target)
  object_at_same address None is may =
      subst (λ at. Same (IsObject layout past h w) (object_at layout h at) (model.object_in w None)) (sym is) refused
  object_at_same address (Some id) is may =
      let at = some_there (entry_at w.addresses id) may.live in
      subst (λ x. Same (IsObject layout past h w) (object_at layout h x) (model.object_in w (Some id)))
      (sym (is ∙ ap (λ o. option_map_or (λ x. x) o 0) at.1))
      (live_object_same id at.0 may.read at.1 may.automatic)

  -- the object that a slot refers to
  pub object_same : (slot : Slot)
      → Same (IsObject layout past h w) (object_in layout h slot)
      (model.slot_in w slot >>= (λ (from : Found (Option ℕ)). model.object_in w from.value))
  object_same slot =
      same_then (slot_same layout past h w parts slot) (λ entry found is.
      object_at_same entry.value found.value is.fit.value (slot_may_read slot.index entry found is.fit))

  -- and what comes next with it
  pub object_then : {C D : Type 0} {FitNext : C → D → Type 0} {f : Block F → Checked C} {g : Numbered Object → Checked D} (slot : Slot)
      → ((b : Block F) (n : Numbered Object) → IsObject layout past h w b n → Same FitNext (f b) (g n))
      → Same FitNext (object_in layout h slot >>= f)
      (model.slot_in w slot >>= (λ (from : Found (Option ℕ)). model.object_in w from.value >>= g))
  object_then {FitNext} {f} {g} slot next =
      subst (Same FitNext (object_in layout h slot >>= f))
      (in_a_row (model.slot_in w slot) (λ (from : Found (Option ℕ)). model.object_in w from.value) g)
      (same_then (object_same slot) next)
