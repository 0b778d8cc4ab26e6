-- The objects of a well-formed world are blocks of their formats.
use Rattle.std.proofs.Common.{◌≡◌, ◌∙◌, ℕ, zero, suc, ◌+◌, ◌-◌, ◌<◌, Bool, true, false, refl, sym, ap, List, [], ◌∷◌, length, map, Option, Some, None, subst, inl, inr, arith}
use Rattle.std.proofs.lemmas.Bool.{false≢true, and_parts, cases_Bool, ltb-true}
use Rattle.std.proofs.lemmas.Option.{none-some, same_Some}
use Rattle.std.specs.Prelude.{slice_get, not, ◌&&◌, ◌||◌, if◌then◌else◌, IsTrue}
use Rattle.std.specs.List.{list_all}
use Rattle.std.specs.Option.{option_map_or}
use Rattle.mps_base.specs.Address.{Id}
use Rattle.mps_format.specs.Layout.{Layout, IsLawful, IsBlockSize}
use Rattle.mps_model.proofs.Taking.{valid_where_taken}
use Rattle.mps_model.specs.Allocating.{takes_head}
use Rattle.mps_model.specs.Graph.{Cell, HeadCell, NumberCell, ReferenceCell, Body, Automatic, Manual, Object, entries, target_of_cell, targets_of_cells, new_cells, new_cells_from, is_automatic, is_automatic_body, is_reference_cell, size_of_body}
use Rattle.mps_model.specs.Checked.{head_of_body}
use Rattle.mps_model.specs.World.{World, Pool, is_automatic_kind, is_weak_kind, pool_at, object_is}
use Rattle.mps_model.specs.WellFormed.{is_shaped, are_shaped, are_right_cells, is_right_body, is_right_object}
use Rattle.mps_trace_laws.specs.Image.Memory.{all_cells, pool_layout}
use Rattle.mps_trace_laws.specs.Image.Image.{AreShaped}

-- ---- cell by cell

-- a fact of all elements holds of each
pub all_at : {X : Type 0} (p : X → Bool) (xs : List X) (i : ℕ) (x : X) → list_all p xs ≡ true → slice_get xs i ≡ Some x → p x ≡ true
all_at p [] i x all e = absurd (none-some x e)
all_at p (y ∷ ys) zero x all e = subst (λ z. p z ≡ true) (same_Some y x e) (and_parts (p y) (list_all p ys) all).0
all_at p (y ∷ ys) (suc i) x all e = all_at p ys i x (and_parts (p y) (list_all p ys) all).1 e

pub shaped_at : (likes cells : List Cell) (k : ℕ) (c : Cell) → are_shaped likes cells ≡ true → slice_get cells k ≡ Some c
    → (like : Cell) × (slice_get likes k ≡ Some like) × (is_shaped like c ≡ true)
shaped_at [] [] k c all e = absurd (none-some c e)
shaped_at [] (d ∷ ds) k c all e = absurd (false≢true all)
shaped_at (like ∷ likes) [] k c all e = absurd (none-some c e)
shaped_at (like ∷ likes) (d ∷ ds) zero c all e =
    (like, refl, subst (λ x. is_shaped like x ≡ true) (same_Some d c e) (and_parts (is_shaped like d) (are_shaped likes ds) all).0)
shaped_at (like ∷ likes) (d ∷ ds) (suc k) c all e = shaped_at likes ds k c (and_parts (is_shaped like d) (are_shaped likes ds) all).1 e

pub shaped_length : (likes cells : List Cell) → are_shaped likes cells ≡ true → length likes ≡ length cells
shaped_length [] [] all = refl
shaped_length [] (d ∷ ds) all = absurd (false≢true all)
shaped_length (like ∷ likes) [] all = absurd (false≢true all)
shaped_length (like ∷ likes) (d ∷ ds) all = ap suc (shaped_length likes ds (and_parts (is_shaped like d) (are_shaped likes ds) all).1)

pub new_at : (f : Layout) (head first count k : ℕ) (like : Cell) → slice_get (new_cells_from f head first count) k ≡ Some like
    → is_reference_cell like ≡ f.is_reference head (first + k)
new_at f head first zero k like e = absurd (none-some like e)
new_at f head first (suc count) zero like e =
    ap is_reference_cell (sym (same_Some (if f.is_reference head first then ReferenceCell None 0 else NumberCell 0) like e))
    ∙ tested (f.is_reference head first) ∙ ap (f.is_reference head) (let z : first ≡ first + 0 = omega arith in z)
  where
    tested : (b : Bool) → is_reference_cell (if b then ReferenceCell None 0 else NumberCell 0) ≡ b
    tested true = refl
    tested false = refl
new_at f head first (suc count) (suc k) like e =
    new_at f head (first + 1) count k like e ∙ ap (f.is_reference head) (let z : first + 1 + k ≡ first + suc k = omega arith in z)

pub new_length : (f : Layout) (head first count : ℕ) → length (new_cells_from f head first count) ≡ count
new_length f head first zero = refl
new_length f head first (suc count) = ap suc (new_length f head (first + 1) count)

pub same_kind : (like c : Cell) → is_shaped like c ≡ true → is_reference_cell c ≡ is_reference_cell like
same_kind HeadCell HeadCell e = refl
same_kind HeadCell (NumberCell n) e = absurd (false≢true e)
same_kind HeadCell (ReferenceCell t tag) e = absurd (false≢true e)
same_kind (NumberCell m) HeadCell e = absurd (false≢true e)
same_kind (NumberCell m) (NumberCell n) e = refl
same_kind (NumberCell m) (ReferenceCell t tag) e = absurd (false≢true e)
same_kind (ReferenceCell u own) HeadCell e = absurd (false≢true e)
same_kind (ReferenceCell u own) (NumberCell n) e = absurd (false≢true e)
same_kind (ReferenceCell u own) (ReferenceCell t tag) e = refl

pub low_tag : (like : Cell) (t : Option Id) (tag : ℕ) → is_shaped like (ReferenceCell t tag) ≡ true → tag < 8
low_tag HeadCell t tag e = absurd (false≢true e)
low_tag (NumberCell m) t tag e = absurd (false≢true e)
low_tag (ReferenceCell u own) t tag e = ltb-true tag 8 e

pub head_like : (c : Cell) → is_shaped HeadCell c ≡ true → c ≡ HeadCell
head_like HeadCell e = refl
head_like (NumberCell n) e = absurd (false≢true e)
head_like (ReferenceCell t tag) e = absurd (false≢true e)

all_targets : (p : Id → Bool) (cells : List Cell) (k t tag : ℕ) → list_all p (targets_of_cells cells) ≡ true
    → slice_get cells k ≡ Some (ReferenceCell (Some t) tag) → p t ≡ true
all_targets p [] k t tag all e = absurd (none-some (ReferenceCell (Some t) tag) e)
all_targets p (c ∷ cs) zero t tag all e =
    first (target_of_cell c) (ap target_of_cell (same_Some c (ReferenceCell (Some t) tag) e)) all
  where
    first : (o : Option Id) → o ≡ Some t → list_all p (entries (o ∷ map target_of_cell cs)) ≡ true → p t ≡ true
    first None e' all' = absurd (none-some t e')
    first (Some u) e' all' = subst (λ x. p x ≡ true) (same_Some u t e') (and_parts (p u) (list_all p (targets_of_cells cs)) all').0
all_targets p (c ∷ cs) (suc k) t tag all e = all_targets p cs k t tag (rest (target_of_cell c) all) e
  where
    rest : (o : Option Id) → list_all p (entries (o ∷ map target_of_cell cs)) ≡ true → list_all p (targets_of_cells cs) ≡ true
    rest None all' = all'
    rest (Some u) all' = (and_parts (p u) (list_all p (targets_of_cells cs)) all').1

-- ---- an automatic object

-- what a right body of an automatic object says
pub record IsRightCells (w : World) (f : Layout) (head : ℕ) (cells : List Cell) : Type 0 where
  pub valid : IsTrue (f.is_valid head)
  pub shaped : are_shaped (new_cells f head) cells ≡ true
  pub targets : list_all (object_is is_automatic w) (targets_of_cells cells) ≡ true

module _ (w : World) (lawful : (n : ℕ) → IsLawful (w.formats n)) where
  right_body : (p : Pool) (head : ℕ) (cells : List Cell) (is_weak : Bool) → is_right_body w p (Automatic head cells is_weak) ≡ true
      → IsRightCells w (w.formats p.format) head cells
  right_body p head cells is_weak e =
      let kind = is_automatic_kind p.kind in
      let right = are_right_cells w p head cells in
      let weak = not is_weak || is_weak_kind p.kind in
      let cells_right : right ≡ true = (and_parts kind right (and_parts (kind && right) weak e).0).1 in
      let taken = takes_head w p head in
      let shaped = are_shaped (new_cells (w.formats p.format) head) cells in
      let targets = list_all (object_is is_automatic w) (targets_of_cells cells) in
      let two = (and_parts (taken && shaped) targets cells_right) in
      record {
        valid = valid_where_taken w p head (and_parts taken shaped two.0).0;
        shaped = (and_parts taken shaped two.0).1;
        targets = two.1;
      }

  format_of_pool : (o : Object) (found : Option Pool) → pool_at w o.pool ≡ found
      → option_map_or (λ p. is_right_body w p o.body) found false ≡ true
      → (p : Pool) × (pool_layout w o.pool ≡ w.formats p.format) × (is_right_body w p o.body ≡ true)
  format_of_pool o None e h = absurd (false≢true h)
  format_of_pool o (Some p) e h = (p, ap (λ found. w.formats (option_map_or (λ (x : Pool). x.format) found 0)) e, h)

  -- an object with a right body: its head and cells, in the format of its pool
  pub record IsRightBlock (o : Object) : Type 0 where
    pub head : ℕ
    pub cells : List Cell
    pub is_weak : Bool
    pub body : o.body ≡ Automatic head cells is_weak
    pub right : IsRightCells w (pool_layout w o.pool) head cells

  of_body : (o : Object) (b : Body) → o.body ≡ b → is_automatic_body b ≡ true → is_right_object w o ≡ true → IsRightBlock o
  of_body o (Manual words) e automatic h = absurd (false≢true automatic)
  of_body o (Automatic head cells is_weak) e automatic h =
      let found = format_of_pool o (pool_at w o.pool) refl h in
      record {
        head = head;
        cells = cells;
        is_weak = is_weak;
        body = e;
        right =
            subst (λ f. IsRightCells w f head cells) (sym found.1)
            (right_body found.0 head cells is_weak (subst (λ b. is_right_body w found.0 b ≡ true) e found.2));
      }

  object_there : (t : Id) (o : Option Object) → option_map_or is_automatic o false ≡ true
      → (p : Object) × (o ≡ Some p) × (is_automatic p ≡ true)
  object_there t None h = absurd (false≢true h)
  object_there t (Some p) h = (p, refl, h)

  -- a manual object has no reference
  numbers_only : (words : List ℕ) (k : ℕ) (t : Option Id) (tag : ℕ) → slice_get (map NumberCell words) k ≡ Some (ReferenceCell t tag) → ⊥
  numbers_only [] k t tag e = none-some (ReferenceCell t tag) e
  numbers_only (x ∷ xs) zero t tag e = false≢true (ap is_reference_cell (same_Some (NumberCell x) (ReferenceCell t tag) e))
  numbers_only (x ∷ xs) (suc k) t tag e = numbers_only xs k t tag e

  reference_is_automatic : (b : Body) (k : ℕ) (t : Option Id) (tag : ℕ) → slice_get (all_cells b) k ≡ Some (ReferenceCell t tag)
      → is_automatic_body b ≡ true
  reference_is_automatic (Automatic head cells is_weak) k t tag e = refl
  reference_is_automatic (Manual words) k t tag e = absurd (numbers_only words k t tag e)

  module _ (objects : list_all (is_right_object w) w.graph.objects ≡ true) where
    block : (id : Id) (o : Object) → slice_get w.graph.objects id ≡ Some o → IsTrue (is_automatic o) → IsRightBlock o
    block id o e automatic = of_body o o.body refl automatic (all_at (is_right_object w) w.graph.objects id o objects e)

    cells_of : (o : Object) (x : IsRightBlock o) → all_cells o.body ≡ x.cells
    cells_of o x = ap all_cells x.body

    pub are_shaped_objects : AreShaped w.graph.objects (pool_layout w)
    are_shaped_objects = record {
      lawful = λ pool. lawful (option_map_or (λ (p : Pool). p.format) (pool_at w pool) 0);
      tags = λ id k o t tag e cell.
          let x = block id o e (reference_is_automatic o.body k t tag cell) in
          let like = shaped_at (new_cells (pool_layout w o.pool) x.head) x.cells k (ReferenceCell t tag) x.right.shaped
          (ap (λ cs. slice_get cs k) (sym (cells_of o x)) ∙ cell)
          in
          low_tag like.0 t tag like.2;
      targets = λ id k o t tag e cell.
          let x = block id o e (reference_is_automatic o.body k (Some t) tag cell) in
          object_there t (slice_get w.graph.objects t)
          (all_targets (object_is is_automatic w) x.cells k t tag x.right.targets (ap (λ cs. slice_get cs k) (sym (cells_of o x)) ∙ cell));
      first = λ id o e automatic.
          let x = block id o e automatic in ap (λ cs. slice_get cs 0) (cells_of o x)
          ∙ first_cell (pool_layout w o.pool) x.head x.cells x.right.shaped;
      valid = λ id o e automatic.
          let x = block id o e automatic in
          subst (λ b. IsTrue ((pool_layout w o.pool).is_valid (head_of_body b))) (sym x.body) x.right.valid;
      kinds = λ id k o c e automatic cell.
          let x = block id o e automatic in
          subst (λ b. is_reference_cell c ≡ (pool_layout w o.pool).is_reference (head_of_body b) k) (sym x.body)
          (kind (pool_layout w o.pool) (lawful (option_map_or (λ (p : Pool). p.format) (pool_at w o.pool) 0)) x.head x.cells k c x.right
          (ap (λ cs. slice_get cs k) (sym (cells_of o x)) ∙ cell));
      whole = λ id o e automatic.
          let x = block id o e automatic in
          subst (λ b. (pool_layout w o.pool).size (head_of_body b) ≡ size_of_body b) (sym x.body)
          (size (pool_layout w o.pool) (lawful (option_map_or (λ (p : Pool). p.format) (pool_at w o.pool) 0)) x.head x.cells x.right);
      sizes = λ id o e automatic.
          let x = block id o e automatic in
          let f = pool_layout w o.pool in
          let laws = lawful (option_map_or (λ (p : Pool). p.format) (pool_at w o.pool) 0) in
          subst (λ b. IsBlockSize (size_of_body b)) (sym x.body)
          (subst IsBlockSize (size f laws x.head x.cells x.right) (laws.sizes x.head x.right.valid));
    }
      where
        first_cell : (f : Layout) (head : ℕ) (cells : List Cell) → are_shaped (new_cells f head) cells ≡ true
            → slice_get cells 0 ≡ Some HeadCell
        first_cell f head [] e = absurd (false≢true e)
        first_cell f head (c ∷ cs) e =
            ap Some (head_like c (and_parts (is_shaped HeadCell c) (are_shaped (new_cells_from f head 1 (f.size head - 1)) cs) e).0)

        size : (f : Layout) → IsLawful f → (head : ℕ) (cells : List Cell) → IsRightCells w f head cells → f.size head ≡ length cells
        size f laws head cells right =
            let long = shaped_length (new_cells f head) cells right.shaped in
            let rest = new_length f head 1 (f.size head - 1) in
            let sizes = laws.sizes head right.valid in
            omega (arith, sizes.0, rest, length_cons (new_cells_from f head 1 (f.size head - 1)), long)
          where
            length_cons : (cs : List Cell) → length (HeadCell ∷ cs) ≡ length cs + 1
            length_cons cs = omega arith

        kind : (f : Layout) → IsLawful f → (head : ℕ) (cells : List Cell) (k : ℕ) (c : Cell) → IsRightCells w f head cells
            → slice_get cells k ≡ Some c → is_reference_cell c ≡ f.is_reference head k
        kind f laws head cells k c right e =
            let like = shaped_at (new_cells f head) cells k c right.shaped e in
            same_kind like.0 c like.2 ∙ of_new k like.0 like.1
          where
            not_first : f.is_reference head 0 ≡ false
            not_first =
                elim (cases_Bool (f.is_reference head 0)) [
                  | inl is ↦ absurd (omega (arith, (laws.references head 0 right.valid is).0))
                  | inr isnt ↦ isnt
                ]

            of_new : (j : ℕ) (like : Cell) → slice_get (new_cells f head) j ≡ Some like → is_reference_cell like ≡ f.is_reference head j
            of_new zero like e' = ap is_reference_cell (sym (same_Some HeadCell like e')) ∙ sym not_first
            of_new (suc j) like e' =
                new_at f head 1 (f.size head - 1) j like e' ∙ ap (f.is_reference head) (let z : 1 + j ≡ suc j = omega arith in z)
