-- A cell of a live object is cleared as `mps_dep` clears that of a dependent: the heap then represents the world in which its reference is
-- null. A cell that is no reference stays, on both sides.
use Rattle.std.proofs.Common.{◌≡◌, ◌∙◌, ℕ, ◌+◌, ◌<◌, Bool, true, false, refl, sym, ap, List, length, Option, Some, None, Ok, subst, arith}
use Rattle.std.proofs.lemmas.Bool.{eq-eqb, lt-leb, true≢false}
use Rattle.std.specs.Prelude.{◌&&◌, ◌==◌, if◌then◌else◌, nat_le, slice_get, slice_index, slice_set}
use Rattle.std.specs.Option.{option_map_or}
use Rattle.mps_base.specs.Address.{Word, address_of_word, word_of}
use Rattle.mps_base.specs.Run.{in_order}
use Rattle.mps_changes.proofs.Lookups.{slice_set-same}
use Rattle.mps_dep.specs.Following.{begins_block, has_reference, nulled}
use Rattle.mps_extents.specs.Extents.{run_over}
use Rattle.mps_format.specs.Layout.{IsLawful, Layout}
use Rattle.mps_heap_spec.specs.Finding.{reference_cell_at}
use Rattle.mps_heap_spec.specs.State.{HeapState}
use Rattle.mps_heap_spec.specs.declared.found.Block.{Block}
use Rattle.mps_heap_spec.specs.declared.found.CellFound.{CellFound}
use Rattle.mps_laws.proofs.Positions.LegalMoves.{HasLayout}
use Rattle.mps_laws.proofs.Same.{Same, fits, refused}
use Rattle.mps_model.specs.Checked.{Checked, Numbered, cells_of_body, head_of_body, reference_at, with_graph}
use Rattle.mps_model.specs.Effect.{graph_nulled}
use Rattle.mps_model.specs.Graph.{Automatic, Body, Cell, HeadCell, NumberCell, ReferenceCell, Object, body_with_cells, is_automatic_body, is_reference_cell, object_with_cells, retargeted, size_of, size_of_body, with_target_cell}
use Rattle.mps_model.specs.World as world
use Rattle.mps_model.specs.World.{World, extents_of}
use Rattle.mps_trace_laws.specs.Image.Memory.{Lies, all_cells}
use Rattle.mps_refinement.specs.StandsFor.{AreParts, Past, setting_at}
use Rattle.mps_refinement.proofs.Calls.Objects.{reference_written}
use Rattle.mps_refinement.proofs.Lookups.Blocks.{object_over}
use Rattle.mps_refinement.proofs.Lookups.Cells.{first_cell}
use Rattle.mps_refinement.proofs.Lookups.LiveObjects.{IsObject, IsReferenceOf, lies, object_lawful, reference_same, right_automatic, word_there}

-- what a check that succeeded fits
from_same : {A B : Type 0} (Fits : A → B → Type 0) (x : Checked A) (y : Checked B) (a : A) → Same Fits x y → x ≡ Ok a → (b : B) × Fits a b
from_same Fits x y a (fits {a = other} {b = b} fit) e = let same : other ≡ a = cc in (b, subst (λ c. Fits c b) same fit)
from_same Fits x y a refused e = absurd cc

-- ---- cells

-- a cell that is no reference stays
plain_stays : (c : Cell) → is_reference_cell c ≡ false → retargeted c None ≡ c
plain_stays HeadCell e = refl
plain_stays (NumberCell number) e = refl
plain_stays (ReferenceCell target tag) e = absurd (true≢false e)

plain_cells_stay : (cells : List Cell) (k : ℕ) → ((c : Cell) → slice_get cells k ≡ Some c → is_reference_cell c ≡ false)
    → with_target_cell cells k None ≡ cells
plain_cells_stay cells k plain = of_cell (slice_get cells k) refl
  where
    of_cell : (o : Option Cell) → slice_get cells k ≡ o
        → option_map_or (λ c. slice_set cells k (retargeted c None)) o cells ≡ cells
    of_cell None e = refl
    of_cell (Some c) e = ap (slice_set cells k) (plain_stays c (plain c e)) ∙ slice_set-same cells k c e

module _ {F : Type 0} (layout : F → Layout) (past : Past) (h : HeapState F) (w : World) (parts : AreParts layout past h w)
    (laid : HasLayout (w.grains + 1) w) (b : Block F) (n : Numbered Object) (is : IsObject layout past h w b n) where
  abbrev f : Layout
  f = layout b.format

  abbrev objects : List Object
  objects = w.graph.objects

  lawful : IsLawful f
  lawful = object_lawful layout past h w parts b n is

  valid : f.is_valid b.head ≡ true
  valid =
      let right = right_automatic w is.block.models n.value n.value.body refl (ap is_automatic_body is.body) is.block.right in
      let reads : w.formats is.block.models.format ≡ f =
      sym (ap (λ found. w.formats (option_map_or (λ (x : world.Pool). x.format) found 0)) is.block.has) ∙ is.layout_is in
      ap (λ (g : Layout). g.is_valid b.head) (sym reads)
      ∙ ap (w.formats is.block.models.format).is_valid (ap head_of_body (sym is.body ∙ right.body))
      ∙ right.valid

  -- a block begins where the object lies, with its head
  positive : 0 < size_of n.value
  positive = parts.image.placed.positive n.number b.at n.value is.address is.object

  begins : begins_block h.segs.blocks b.at ≡ true
  begins =
      let here : Lies objects w.addresses n.number 0 n.value (word_of b.at + 0) =
      record { at = b.at; address = is.address; object = is.object; within = positive; is = refl }
      in
      let zero : word_of b.at + 0 ≡ word_of b.at = omega arith in
      let found : run_over h.segs.blocks (word_of b.at) ≡ Some (word_of b.at) =
      ap (λ rs. run_over rs (word_of b.at)) parts.image.runs.blocks
      ∙ ap (run_over (in_order (extents_of objects w.addresses))) (sym zero)
      ∙ object_over (setting_at past.time h.segs w) w.addresses parts.image.placed n.number 0 n.value (word_of b.at + 0) here in
      ap (λ o. option_map_or (λ from. address_of_word from == b.at) o false) found
      ∙ eq-eqb (address_of_word (word_of b.at)) b.at (let aligned = is.block.address.aligned in omega (arith, aligned))

  whole : size_of n.value ≡ length is.cells
  whole = ap size_of_body is.body

  head_there : slice_get h.segs.words (word_of b.at) ≡ Some b.head
  head_there =
      let zero : word_of b.at + 0 ≡ word_of b.at = omega arith in
      let size = whole in
      let some = positive in
      ap (slice_get h.segs.words) (sym zero)
      ∙ word_there layout past h w parts n.number 0 b.at n.value is.address is.object positive
      ∙ ap Some (parts.image.words.cells n.number 0 n.value (word_of b.at + 0) HeadCell is.read
      (lies layout past h w parts n.number 0 b.at n.value is.address is.object positive)
      (ap (λ body. slice_get (all_cells body) 0) is.body ∙ first_cell f b.head is.cells is.are (omega (arith, some, size)))
      ∙ ap head_of_body is.body)

  reference_is : (k : ℕ) → has_reference f h.segs b.at k ≡ f.is_reference b.head k
  reference_is k =
      ap (λ x. x && option_map_or (λ head. f.is_valid head && f.is_reference head k) (slice_get h.segs.words (word_of b.at)) false) begins
      ∙ ap (λ o. option_map_or (λ head. f.is_valid head && f.is_reference head k) o false) head_there
      ∙ ap (λ x. x && f.is_reference b.head k) valid

  module _ (k : ℕ) where
    abbrev word : Word
    word = word_of b.at + k

    abbrev value : ℕ
    value = slice_index h.segs.words word

    abbrev cleared_heap : List ℕ → HeapState F
    cleared_heap words = record h { segs = record h.segs { words = words } }

    abbrev null_in_cell : List Cell → List Cell
    null_in_cell cells = with_target_cell cells k None

    reference_cleared : f.is_reference b.head k ≡ true
        → AreParts layout past (cleared_heap (slice_set h.segs.words word (f.retarget value 0)))
        (with_graph w (graph_nulled w.graph n.number k))
    reference_cleared reference =
        let within = (lawful.references b.head k valid reference).1 in
        let size = is.are.size in
        let whole_size = whole in
        let inside : k < size_of n.value = omega (arith, within, size, whole_size) in
        let there = word_there layout past h w parts n.number k b.at n.value is.address is.object inside in
        let small : nat_le (f.size b.head) k ≡ false = lt-leb (f.size b.head) k within in
        let found : CellFound = record { word = word; value = value } in
        let comes = cell_read small there reference in
        let fit = from_same (IsReferenceOf past.time h.segs.words w n k) (reference_cell_at layout h.segs.words b k)
        (reference_at (cells_of_body n.value.body) k) found (reference_same layout past h w parts b n is k) comes in
        reference_written layout past h w parts laid b n is k None found fit.0 tt tt fit.1
      where
        cell_read : nat_le (f.size b.head) k ≡ false → slice_get h.segs.words word ≡ Some value → f.is_reference b.head k ≡ true
            → reference_cell_at layout h.segs.words b k ≡ Ok (record { word = word; value = value })
        cell_read small there is_one = rw (small, there, is_one) refl

    plain_left : f.is_reference b.head k ≡ false → graph_nulled w.graph n.number k ≡ w.graph
    plain_left plain = ap (λ os. record w.graph { objects = os }) same
      where
        stays : with_target_cell is.cells k None ≡ is.cells
        stays = plain_cells_stay is.cells k (λ c there. is.are.kinds k c there ∙ plain)

        object_stays : (body : Body) → n.value.body ≡ body → body ≡ Automatic b.head is.cells is.is_weak
            → object_with_cells n.value null_in_cell ≡ n.value
        object_stays body e automatic =
            ap (λ x. let o : Object = record { pool = n.value.pool; body = body_with_cells x null_in_cell } in o) (e ∙ automatic)
            ∙ ap (λ cells. let o : Object = record { pool = n.value.pool; body = Automatic b.head cells is.is_weak } in o) stays
            ∙ ap (λ x. let o : Object = record { pool = n.value.pool; body = x } in o) (sym (e ∙ automatic))

        same : option_map_or (λ o. slice_set objects n.number (object_with_cells o null_in_cell)) (slice_get objects n.number) objects
            ≡ objects
        same =
            ap (λ o. option_map_or (λ p. slice_set objects n.number (object_with_cells p null_in_cell)) o objects) is.object
            ∙ ap (slice_set objects n.number) (object_stays n.value.body refl is.body)
            ∙ slice_set-same objects n.number n.value is.object

    -- a cell is cleared on both sides
    pub cell_cleared : AreParts layout past (cleared_heap (nulled f h.segs b.at k)) (with_graph w (graph_nulled w.graph n.number k))
    cell_cleared =
        subst (λ x. AreParts layout past
        (cleared_heap (if x then slice_set h.segs.words word (f.retarget value 0) else h.segs.words))
        (with_graph w (graph_nulled w.graph n.number k))) (sym (reference_is k)) (of_test (f.is_reference b.head k) refl)
      where
        of_test : (x : Bool) → f.is_reference b.head k ≡ x
            → AreParts layout past (cleared_heap (if x then slice_set h.segs.words word (f.retarget value 0) else h.segs.words))
            (with_graph w (graph_nulled w.graph n.number k))
        of_test true e = reference_cleared e
        of_test false e = subst (λ g. AreParts layout past h (with_graph w g)) (sym (plain_left e)) parts
