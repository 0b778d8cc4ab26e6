-- The words after the head of an object of a leaf pool are the numbers in its cells, at any time: none of its cells is a reference.
use Rattle.std.proofs.Common.{◌≡◌, ◌∙◌, ℕ, zero, suc, ◌+◌, ◌-◌, ◌<◌, Bool, true, false, refl, sym, ap, ap₂, subst, List, [], ◌∷◌, drop, length, map, Some, arith}
use Rattle.std.proofs.lemmas.Bool.{and_parts, false≢true, ne_eqb}
use Rattle.std.proofs.lemmas.List.{get_or-drop, get_or-take}
use Rattle.std.proofs.lemmas.Option.{none-some, same_Some}
use Rattle.std.specs.Prelude.{not, ◌&&◌, ◌||◌, get_or, slice_get, slice_index, slice_range}
use Rattle.mps_base.specs.Address.{word_of}
use Rattle.mps_format.specs.Layout.{Layout}
use Rattle.mps_trace_laws.proofs.Image.Shaped.{same_kind, shaped_at}
use Rattle.mps_trace_laws.specs.Image.Memory.{all_cells}
use Rattle.mps_trace_laws.specs.Image.Image.{IsCellWord}
use Rattle.mps_model.specs.Allocating.{layout_of, takes_head}
use Rattle.mps_model.specs.Checked.{Numbered, cells_of_body, head_of_body}
use Rattle.mps_model.specs.Graph.{Automatic, Cell, HeadCell, NumberCell, ReferenceCell, Object, has_references, is_automatic, is_reference_cell, new_cells, size_of, size_of_body, targets_of_cells}
use Rattle.mps_model.specs.WellFormed.{are_right_cells, are_shaped, is_right_body}
use Rattle.mps_model.specs.World as world
use Rattle.mps_model.specs.World.{World, is_automatic_kind, is_leaf_kind, is_weak_kind, object_is}
use Rattle.std.specs.List.{list_all, list_any}
use Rattle.mps_heap_spec.specs.State.{HeapState}
use Rattle.mps_heap_spec.specs.declared.found.Block.{Block}
use Rattle.mps_refinement.specs.StandsFor.{AreParts, Past}
use Rattle.mps_refinement.proofs.Lookups.Cells.{is_head_cell}
use Rattle.mps_refinement.proofs.Lookups.LiveObjects.{IsObject, lies}

-- ---- no reference

neither_of : (b c : Bool) → b || c ≡ false → (b ≡ false) × (c ≡ false)
neither_of true c none = absurd (false≢true (sym none))
neither_of false c none = (refl, none)

none_of : (cs : List Cell) → list_any is_reference_cell cs ≡ false → (k : ℕ) (c : Cell) → slice_get cs k ≡ Some c
    → is_reference_cell c ≡ false
none_of [] none k c e = absurd (none-some c e)
none_of (d ∷ ds) none zero c e =
    ap is_reference_cell (sym (same_Some d c e)) ∙ (neither_of (is_reference_cell d) (list_any is_reference_cell ds) none).0
none_of (d ∷ ds) none (suc k) c e = none_of ds (neither_of (is_reference_cell d) (list_any is_reference_cell ds) none).1 k c e

-- cells of the kinds of others are no references if those aren't
none_shaped : (likes cells : List Cell) → are_shaped likes cells ≡ true → list_any is_reference_cell likes ≡ false → (k : ℕ) (c : Cell)
    → slice_get cells k ≡ Some c → is_reference_cell c ≡ false
none_shaped likes cells shaped none k c e =
    let like = shaped_at likes cells k c shaped e in same_kind like.0 c like.2 ∙ none_of likes none k like.0 like.1

-- what a leaf pool takes has no references
none_taken : (valid leaf references : Bool) → valid && not (leaf && references) ≡ true → leaf ≡ true → references ≡ false
none_taken valid leaf true taken is =
    absurd (false≢true (sym (ap (λ b. not (b && true)) is) ∙ (and_parts valid (not (leaf && true)) taken).1))
none_taken valid leaf false taken is = refl

-- so an object of one has none
no_references : (w : World) (q : world.Pool) (head : ℕ) (cells : List Cell) (is_weak : Bool)
    → is_right_body w q (Automatic head cells is_weak) ≡ true → is_leaf_kind q.kind ≡ true → (k : ℕ) (c : Cell)
    → slice_get cells k ≡ Some c → is_reference_cell c ≡ false
no_references w q head cells is_weak right leaf =
    let kind = is_automatic_kind q.kind in
    let right_cells = are_right_cells w q head cells in
    let first = (and_parts (kind && right_cells) (not is_weak || is_weak_kind q.kind) right).0 in
    let taken = takes_head w q head in
    let shaped = are_shaped (new_cells (layout_of w q) head) cells in
    let two = and_parts taken shaped
    (and_parts (taken && shaped) (list_all (object_is is_automatic w) (targets_of_cells cells)) (and_parts kind right_cells first).1).0 in
    none_shaped (new_cells (layout_of w q) head) cells two.1
    (none_taken ((layout_of w q).is_valid head) (is_leaf_kind q.kind) (has_references (layout_of w q) head) two.0 leaf)

-- ---- numbers

number_cell : (c : Cell) → is_head_cell c ≡ false → is_reference_cell c ≡ false → (n : ℕ) × (c ≡ NumberCell n)
number_cell HeadCell head reference = absurd (false≢true (sym head))
number_cell (NumberCell n) head reference = (n, refl)
number_cell (ReferenceCell target tag) head reference = absurd (false≢true (sym reference))

all_numbers : (cells : List Cell) (words : List ℕ) → length words ≡ length cells
    → ((k : ℕ) (c : Cell) → slice_get cells k ≡ Some c → c ≡ NumberCell (get_or words k 0)) → cells ≡ map NumberCell words
all_numbers [] [] long each = refl
all_numbers [] (x ∷ xs) long each = absurd (omega (arith, long))
all_numbers (c ∷ cs) [] long each = absurd (omega (arith, long))
all_numbers (c ∷ cs) (x ∷ xs) long each =
    ap₂ (λ (d : Cell) ds. d ∷ ds) (each 0 c refl) (all_numbers cs xs (omega (arith, long)) (λ k d e. each (suc k) d e))

-- the cells from 1 on, where these are numbers
later_numbers : (cells : List Cell) (words : List ℕ) → length words ≡ length cells
    → ((k : ℕ) (c : Cell) → slice_get cells (suc k) ≡ Some c → c ≡ NumberCell (get_or words (suc k) 0))
    → drop 1 cells ≡ map NumberCell (drop 1 words)
later_numbers [] [] long each = refl
later_numbers [] (x ∷ xs) long each = absurd (omega (arith, long))
later_numbers (c ∷ cs) [] long each = absurd (omega (arith, long))
later_numbers (c ∷ cs) (x ∷ xs) long each = all_numbers cs xs (omega (arith, long)) each

module _ {F : Type 0} (layout : F → Layout) (past : Past) (h : HeapState F) (w : World) (parts : AreParts layout past h w) (b : Block F)
    (o : Numbered Object) (is : IsObject layout past h w b o) (words : List ℕ) (long : length words ≡ size_of o.value)
    (value : words ≡ slice_range h.segs.words (word_of b.at) (word_of b.at + length words)) where
  sized : length words ≡ length is.cells
  sized = long ∙ ap size_of_body is.body

  -- a word of the object
  word_is : (k : ℕ) → k < length words → get_or words k 0 ≡ slice_index h.segs.words (word_of b.at + k)
  word_is k low =
      let count = word_of b.at + length words - word_of b.at in
      ap (λ ws. get_or ws k 0) value
      ∙ get_or-take count (drop (word_of b.at) h.segs.words) k 0 (omega (arith, low))
      ∙ get_or-drop (word_of b.at) h.segs.words k 0

  within : (k : ℕ) (c : Cell) → slice_get is.cells k ≡ Some c → k < length is.cells
  within k c e = low is.cells k c e
    where
      low : (cs : List Cell) (n : ℕ) (d : Cell) → slice_get cs n ≡ Some d → n < length cs
      low [] n d f = absurd (none-some d f)
      low (x ∷ xs) zero d f = omega arith
      low (x ∷ xs) (suc n) d f = let rest = low xs n d f in omega (arith, rest)

  holds : (k : ℕ) (c : Cell) → slice_get is.cells k ≡ Some c
      → IsCellWord w.addresses past.time.at_flip (head_of_body o.value.body) c (slice_index h.segs.words (word_of b.at + k))
  holds k c e =
      parts.image.words.cells o.number k o.value (word_of b.at + k) c is.read
      (lies layout past h w parts o.number k b.at o.value is.address is.object
      (let low = within k c e in let size = ap size_of_body is.body in omega (arith, low, size)))
      (ap (λ body. slice_get (all_cells body) k) is.body ∙ e)

  module _ (leaf : is_leaf_kind is.block.models.kind ≡ true) where
    number_there : (k : ℕ) (c : Cell) → slice_get is.cells (suc k) ≡ Some c → c ≡ NumberCell (get_or words (suc k) 0)
    number_there k c e =
        let right = subst (λ body. is_right_body w is.block.models body ≡ true) is.body is.block.right in
        let none = no_references w is.block.models b.head is.cells is.is_weak right leaf (suc k) c e in
        let n = number_cell c (is.are.heads (suc k) c e ∙ ne_eqb (suc k) 0 (λ same. omega (arith, same))) none in
        let low : suc k < length words = (let size = sized in let below = within (suc k) c e in omega (arith, size, below)) in
        n.1
        ∙ ap NumberCell
        (sym (subst
        (λ d. IsCellWord w.addresses past.time.at_flip (head_of_body o.value.body) d (slice_index h.segs.words (word_of b.at + suc k)))
        n.1 (holds (suc k) c e))
        ∙ sym (word_is (suc k) low))

    -- the cells after the head are numbers, and the words after it are these
    pub leaf_numbers : drop 1 (cells_of_body o.value.body) ≡ map NumberCell (drop 1 words)
    leaf_numbers =
        ap (λ body. drop 1 (cells_of_body body)) is.body ∙ later_numbers is.cells words sized number_there
