-- The cells of a block in the words of an arena: what a call finds in cell k, against what the model finds.
use Rattle.std.proofs.Common.{◌≡◌, ◌∙◌, ℕ, zero, suc, ◌+◌, ◌-◌, ◌%◌, ◌^◌, ◌<◌, ◌≤◌, Bool, true, false, refl, sym, ap, subst, List, ◌∷◌, length, Option, Some, None, Ok, Err, inl, inr, arith}
use Rattle.std.proofs.lemmas.Bool.{false≢true, cases_lt, le-leb, lt-leb, eq-eqb, ne_eqb}
use Rattle.std.proofs.lemmas.Option.{none-some, same_Some, slice_get_past}
use Rattle.std.specs.Prelude.{◌==◌, nat_le, slice_get, not, if◌then◌else◌, IsTrue}
use Rattle.mps_base.specs.Address.{Address, word_of}
use Rattle.mps_base.specs.declared.refusal.Refusal.TheVariants as refusal
use Rattle.mps_format.specs.Layout.{Layout, IsLawful}
use Rattle.mps_trace_laws.proofs.Image.Shaped.{shaped_at, shaped_length, new_at, new_length, same_kind, low_tag}
use Rattle.mps_laws.proofs.Lookups.{there_is}
use Rattle.mps_laws.proofs.Same.{Same, fits, refused, same_then}
use Rattle.mps_model.specs.Checked.{◌>>◌, required, refuse_when, cell_of, number_of_cell, reference_in, tag_in, number_at, reference_at, tag_at}
use Rattle.mps_model.specs.Graph.{Cell, HeadCell, NumberCell, ReferenceCell, new_cells, new_cells_from, is_reference_cell}
use Rattle.mps_model.specs.WellFormed.{is_shaped, are_shaped}
use Rattle.mps_heap_spec.specs.Finding.{cell_at, number_cell_at, reference_cell_at, retargeted}
use Rattle.mps_heap_spec.specs.declared.found.Block.{Block}
use Rattle.mps_heap_spec.specs.declared.found.CellFound.{CellFound}
use Rattle.mps_refinement.proofs.Lookups.Found.{same_of, same_refused}

-- ---- the cells of a block with a valid head

abbrev pub is_head_cell : Cell → Bool
is_head_cell HeadCell = true
is_head_cell (NumberCell number) = false
is_head_cell (ReferenceCell target tag) = false

-- there are as many as the head says; the first alone is the head, and the head says which are references; tags stay below 8
pub record AreCells (f : Layout) (head : ℕ) (cells : List Cell) : Type 0 where
  pub size : f.size head ≡ length cells
  pub heads : (k : ℕ) (c : Cell) → slice_get cells k ≡ Some c → is_head_cell c ≡ (k == 0)
  pub kinds : (k : ℕ) (c : Cell) → slice_get cells k ≡ Some c → is_reference_cell c ≡ f.is_reference head k
  pub tags : (k tag : ℕ) (target : Option ℕ) → slice_get cells k ≡ Some (ReferenceCell target tag) → tag < 8

same_heads : (like c : Cell) → is_shaped like c ≡ true → is_head_cell c ≡ is_head_cell like
same_heads HeadCell HeadCell e = refl
same_heads HeadCell (NumberCell n) e = absurd (false≢true e)
same_heads HeadCell (ReferenceCell t tag) e = absurd (false≢true e)
same_heads (NumberCell m) HeadCell e = absurd (false≢true e)
same_heads (NumberCell m) (NumberCell n) e = refl
same_heads (NumberCell m) (ReferenceCell t tag) e = absurd (false≢true e)
same_heads (ReferenceCell u own) HeadCell e = absurd (false≢true e)
same_heads (ReferenceCell u own) (NumberCell n) e = absurd (false≢true e)
same_heads (ReferenceCell u own) (ReferenceCell t tag) e = refl

new_is_no_head : (f : Layout) (head first count k : ℕ) (like : Cell) → slice_get (new_cells_from f head first count) k ≡ Some like
    → is_head_cell like ≡ false
new_is_no_head f head first zero k like e = absurd (none-some like e)
new_is_no_head f head first (suc count) zero like e =
    ap is_head_cell (sym (same_Some (if f.is_reference head first then ReferenceCell None 0 else NumberCell 0) like e))
    ∙ tested (f.is_reference head first)
  where
    tested : (b : Bool) → is_head_cell (if b then ReferenceCell None 0 else NumberCell 0) ≡ false
    tested true = refl
    tested false = refl
new_is_no_head f head first (suc count) (suc k) like e = new_is_no_head f head (first + 1) count k like e

module _ (f : Layout) (lawful : IsLawful f) (head : ℕ) (cells : List Cell) (valid : IsTrue (f.is_valid head))
    (shaped : are_shaped (new_cells f head) cells ≡ true) where
  heads_of_new : (k : ℕ) (like : Cell) → slice_get (new_cells f head) k ≡ Some like → is_head_cell like ≡ (k == 0)
  heads_of_new zero like e = ap is_head_cell (sym (same_Some HeadCell like e))
  heads_of_new (suc k) like e =
      new_is_no_head f head 1 (f.size head - 1) k like e ∙ sym (ne_eqb (suc k) 0 (λ same. omega (arith, same)))

  first_is_no_reference : (b : Bool) → f.is_reference head 0 ≡ b → b ≡ false
  first_is_no_reference false e = refl
  first_is_no_reference true e = absurd (omega (arith, (lawful.references head 0 valid e).0))

  kinds_of_new : (k : ℕ) (like : Cell) → slice_get (new_cells f head) k ≡ Some like → is_reference_cell like ≡ f.is_reference head k
  kinds_of_new zero like e =
      ap is_reference_cell (sym (same_Some HeadCell like e)) ∙ sym (first_is_no_reference (f.is_reference head 0) refl)
  kinds_of_new (suc k) like e =
      new_at f head 1 (f.size head - 1) k like e ∙ ap (f.is_reference head) (let z : 1 + k ≡ suc k = omega arith in z)

  -- the cells of an object or of a reservation, as a well-formed world has them
  pub are_cells : AreCells f head cells
  are_cells = record {
    size =
        let sizes = lawful.sizes head valid in
        omega (
          arith,
          sizes.0,
          new_length f head 1 (f.size head - 1),
          shaped_length (new_cells f head) cells shaped,
          long (new_cells_from f head 1 (f.size head - 1)),
        );
    heads = λ k c e.
        let like = shaped_at (new_cells f head) cells k c shaped e in same_heads like.0 c like.2 ∙ heads_of_new k like.0 like.1;
    kinds = λ k c e.
        let like = shaped_at (new_cells f head) cells k c shaped e in same_kind like.0 c like.2 ∙ kinds_of_new k like.0 like.1;
    tags = λ k tag target e.
        let like = shaped_at (new_cells f head) cells k (ReferenceCell target tag) shaped e in low_tag like.0 target tag like.2;
  }
    where
      long : (cs : List Cell) → length (HeadCell ∷ cs) ≡ length cs + 1
      long cs = omega arith

head_cell : (c : Cell) → is_head_cell c ≡ true → c ≡ HeadCell
head_cell HeadCell e = refl
head_cell (NumberCell number) e = absurd (false≢true e)
head_cell (ReferenceCell target tag) e = absurd (false≢true e)

-- cell 0 is the head
pub first_cell : (f : Layout) (head : ℕ) (cells : List Cell) → AreCells f head cells → 0 < length cells → slice_get cells 0 ≡ Some HeadCell
first_cell f head cells are some =
    let c = there_is cells 0 some in c.1 ∙ ap Some (head_cell c.0 (are.heads 0 c.0 c.1))

-- ---- cell k

-- cell k was found: its word, and what that has
pub record IsCell (words : List ℕ) (at : Address) (cells : List Cell) (k : ℕ) (c : Cell) (found : CellFound) : Type 0 where
  pub within : k < length cells
  pub cell : slice_get cells k ≡ Some c
  pub word : found.word ≡ word_of at + k
  pub value : slice_get words found.word ≡ Some found.value

-- a number, or a reference, was found in cell k
pub record IsNumber (words : List ℕ) (at : Address) (cells : List Cell) (k : ℕ) (found : CellFound) (number : ℕ) : Type 0 where
  pub is : IsCell words at cells k (NumberCell number) found

pub record IsReference (words : List ℕ) (at : Address) (cells : List Cell) (k : ℕ) (found : CellFound) (target : Option ℕ) : Type 0 where
  pub tag : ℕ
  pub low : tag < 8
  pub is : IsCell words at cells k (ReferenceCell target tag) found

-- a reference with this tag was
pub record IsTagged (words : List ℕ) (at : Address) (cells : List Cell) (k : ℕ) (found : CellFound) (tag : ℕ) : Type 0 where
  pub target : Option ℕ
  pub low : tag < 8
  pub is : IsCell words at cells k (ReferenceCell target tag) found

module _ {F : Type 0} (layout : F → Layout) (words : List ℕ) (b : Block F) (cells : List Cell)
    (are : AreCells (layout b.format) b.head cells)
    (there : (k : ℕ) → k < length cells → (value : ℕ) × (slice_get words (word_of b.at + k) ≡ Some value)) where
  -- what a check of cell k comes to
  abbrev Fits : ℕ → CellFound → Cell → Type 0
  Fits k found c = IsCell words b.at cells k c found

  cell_there : (k value : ℕ) → nat_le ((layout b.format).size b.head) k ≡ false → slice_get words (word_of b.at + k) ≡ Some value
      → cell_at layout words b k ≡ Ok (record { word = word_of b.at + k; value = value })
  cell_there k value within is = rw (within, is) refl

  cell_past : (k : ℕ) → nat_le ((layout b.format).size b.head) k ≡ true → cell_at layout words b k ≡ Err refusal.BadIndex
  cell_past k past = rw past refl

  pub cell_same : (k : ℕ) → Same (Fits k) (cell_at layout words b k) (cell_of cells k)
  cell_same k = elim (cases_lt k (length cells)) [
    | inl low ↦
        let c = there_is cells k low in
        let v = there k low in
        same_of (Fits k)
        (cell_there k v.0 (lt-leb ((layout b.format).size b.head) k (let size = are.size in omega (arith, size, low))) v.1)
        (ap (λ o. required o refusal.BadIndex) c.1) (record { within = low; cell = c.1; word = refl; value = v.1 })
    | inr past ↦
        same_refused (Fits k) refusal.BadIndex
        (cell_past k (le-leb ((layout b.format).size b.head) k (let size = are.size in omega (arith, size, past))))
        (ap (λ o. required o refusal.BadIndex) (slice_get_past cells k past))
  ]

  number_of : (k : ℕ) (found : CellFound) (c : Cell) → Fits k found c
      → Same (IsNumber words b.at cells k)
      (refuse_when (is_head_cell c) refusal.NotANumber >> (refuse_when (is_reference_cell c) refusal.NotANumber >> Ok found))
      (number_of_cell c)
  number_of k found HeadCell is = refused
  number_of k found (NumberCell number) is = fits (record { is = is })
  number_of k found (ReferenceCell target tag) is = refused

  pub number_cell_same : (k : ℕ) → Same (IsNumber words b.at cells k) (number_cell_at layout words b k) (number_at cells k)
  number_cell_same k = same_then (cell_same k) (λ found c is.
      subst (λ z. Same (IsNumber words b.at cells k)
      (refuse_when z refusal.NotANumber >> (refuse_when ((layout b.format).is_reference b.head k) refusal.NotANumber >> Ok found))
      (number_of_cell c)) (are.heads k c is.cell)
      (subst (λ r. Same (IsNumber words b.at cells k)
      (refuse_when (is_head_cell c) refusal.NotANumber >> (refuse_when r refusal.NotANumber >> Ok found))
      (number_of_cell c)) (are.kinds k c is.cell) (number_of k found c is)))

  reference_of : (k : ℕ) (found : CellFound) (c : Cell) → Fits k found c
      → Same (IsReference words b.at cells k) (refuse_when (not (is_reference_cell c)) refusal.NotARef >> Ok found) (reference_in c)
  reference_of k found HeadCell is = refused
  reference_of k found (NumberCell number) is = refused
  reference_of k found (ReferenceCell target tag) is =
      fits (record { tag = tag; low = are.tags k tag target is.cell; is = is })

  pub reference_cell_same : (k : ℕ) → Same (IsReference words b.at cells k) (reference_cell_at layout words b k) (reference_at cells k)
  reference_cell_same k = same_then (cell_same k) (λ found c is.
      subst (λ r. Same (IsReference words b.at cells k) (refuse_when (not r) refusal.NotARef >> Ok found) (reference_in c))
      (are.kinds k c is.cell) (reference_of k found c is))

  tag_of : (k : ℕ) (found : CellFound) (c : Cell) → Fits k found c
      → Same (IsTagged words b.at cells k) (refuse_when (not (is_reference_cell c)) refusal.NotARef >> Ok found) (tag_in c)
  tag_of k found HeadCell is = refused
  tag_of k found (NumberCell number) is = refused
  tag_of k found (ReferenceCell target tag) is =
      fits (record { target = target; low = are.tags k tag target is.cell; is = is })

  pub tag_cell_same : (k : ℕ) → Same (IsTagged words b.at cells k) (reference_cell_at layout words b k) (tag_at cells k)
  tag_cell_same k = same_then (cell_same k) (λ found c is.
      subst (λ r. Same (IsTagged words b.at cells k) (refuse_when (not r) refusal.NotARef >> Ok found) (tag_in c))
      (are.kinds k c is.cell) (tag_of k found c is))

-- ---- what a word of a reference says

-- the address of a target is null, or that of an object
pub record IsTargetAddress (to : Address) : Type 0 where
  pub aligned : to % 8 ≡ 0
  pub small : to + 8 ≤ 2 ^ 64

-- the low three bits of it are its tag
pub tag_is : (word to tag : ℕ) → tag < 8 → IsTargetAddress to → word ≡ to + tag → word % 8 ≡ tag
tag_is word to tag low address is = omega (arith, is, low, address.aligned)

module _ (f : Layout) (lawful : IsLawful f) (word to tag : ℕ) (low : tag < 8) (address : IsTargetAddress to) (is : word ≡ to + tag) where
  -- the format reads the target in it
  pub target_is : f.target word ≡ to
  target_is =
      let e = lawful.target_drops_tag word (omega (arith, is, low, address.small)) in
      let rest : word % 8 ≡ tag = omega (arith, is, low, address.aligned) in
      omega (arith, e, rest, is)

  -- with another target it keeps its tag
  pub retargeted_is : (to' : Address) → IsTargetAddress to' → retargeted f word to' ≡ to' + tag
  retargeted_is to' a =
      ap (λ (b : Bool). if b then f.retarget word to' else word) (eq-eqb (to' % 8) 0 a.aligned)
      ∙ (let rest : word % 8 ≡ tag = omega (arith, is, low, address.aligned) in
      let e = lawful.retarget_keeps_tag word to' (omega (arith, is, low, address.small)) (omega (arith, a.small)) a.aligned in
      omega (arith, e, rest))
