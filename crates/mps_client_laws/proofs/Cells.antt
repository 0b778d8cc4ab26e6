-- What a write to the cells or words of one object leaves of all objects.
use Rattle.std.proofs.Common.{◌≡◌, inl, inr, ℕ, Bool, true, false, refl, sym, ◌∙◌, ap, subst, List, length, map, Option, Some, None}
use Rattle.std.proofs.lemmas.Option.{none-some, slice_get-map}
use Rattle.std.proofs.lemmas.Bool.{cases_eq}
use Rattle.std.proofs.lemmas.List.{length-replicate}
use Rattle.std.specs.Prelude.{slice_get, slice_set, option_map, option_and_then}
use Rattle.std.specs.Option.{option_map_or}
use Rattle.mps_model.specs.Graph.{Graph, Object, Body, Automatic, Manual, Cell, NumberCell, object_with_cells, body_with_cells, graph_with_cells, with_target_cell, with_tag_cell, retargeted, tagged}
use Rattle.mps_model.specs.Checked.{cells_of_body, words_of_body}
use Rattle.mps_model.specs.Allocating.{body_with_word, graph_with_word}
use Rattle.mps_model.specs.Caches.{body_cleared, graph_cleared}
use Rattle.mps_client_laws.specs.Objects.{Identity, identity_of, cell_at, word_at}
use Rattle.mps_laws.proofs.Lookups.{slice_get-set_other, slice_set-same, length-slice_set, map-slice_set}
use Rattle.mps_laws.proofs.Entries.{slice_get-written}

-- a change of cells that leaves each but one, and makes no more and no fewer
pub record WritesOneCell (k : ℕ) (change : List Cell → List Cell) : Type 0 where
  pub as_many : (cells : List Cell) → length (change cells) ≡ length cells
  pub others : (cells : List Cell) (j : ℕ) → (k ≡ j → ⊥) → slice_get (change cells) j ≡ slice_get cells j

pub number_is_one_cell : (k value : ℕ) → WritesOneCell k (λ cells. slice_set cells k (NumberCell value))
number_is_one_cell k value = record {
  as_many = λ cells. length-slice_set cells k (NumberCell value);
  others = λ cells j other. slice_get-set_other cells k j (NumberCell value) other;
}

module _ (k : ℕ) (new : Cell → Cell) where
  of_cell : (cells : List Cell) (o : Option Cell) → length (option_map_or (λ c. slice_set cells k (new c)) o cells) ≡ length cells
  of_cell cells None = refl
  of_cell cells (Some c) = length-slice_set cells k (new c)

  other_cell : (cells : List Cell) (j : ℕ) → (k ≡ j → ⊥) → (o : Option Cell)
      → slice_get (option_map_or (λ c. slice_set cells k (new c)) o cells) j ≡ slice_get cells j
  other_cell cells j other None = refl
  other_cell cells j other (Some c) = slice_get-set_other cells k j (new c) other

  new_is_one_cell : WritesOneCell k (λ cells. option_map_or (λ c. slice_set cells k (new c)) (slice_get cells k) cells)
  new_is_one_cell = record {
    as_many = λ cells. of_cell cells (slice_get cells k);
    others = λ cells j other. other_cell cells j other (slice_get cells k);
  }

pub target_is_one_cell : (k : ℕ) (target : Option ℕ) → WritesOneCell k (λ cells. with_target_cell cells k target)
target_is_one_cell k target = new_is_one_cell k (λ c. retargeted c target)

pub tag_is_one_cell : (k tag : ℕ) → WritesOneCell k (λ cells. with_tag_cell cells k tag)
tag_is_one_cell k tag = new_is_one_cell k (λ c. tagged c tag)

-- ---- one object of a list is written

-- the objects, one of them changed
abbrev pub one_changed : List Object → (id : ℕ) → (Object → Object) → List Object
one_changed os id change = option_map_or (λ o. slice_set os id (change o)) (slice_get os id) os

pub others_stay : (os : List Object) (id other : ℕ) (change : Object → Object) → (id ≡ other → ⊥)
    → slice_get (one_changed os id change) other ≡ slice_get os other
others_stay os id other change differs = by_case (slice_get os id)
  where
    by_case : (o : Option Object) → slice_get (option_map_or (λ x. slice_set os id (change x)) o os) other ≡ slice_get os other
    by_case None = refl
    by_case (Some x) = slice_get-set_other os id other (change x) differs

pub this_is_changed : (os : List Object) (id : ℕ) (change : Object → Object)
    → slice_get (one_changed os id change) id ≡ option_map change (slice_get os id)
this_is_changed os id change = by_case (slice_get os id) refl
  where
    by_case : (o : Option Object) → slice_get os id ≡ o
        → slice_get (option_map_or (λ x. slice_set os id (change x)) o os) id ≡ option_map change o
    by_case None e = e
    by_case (Some x) e = slice_get-written os id x (change x) e

pub identities_stay : (os : List Object) (id : ℕ) (change : Object → Object) → ((o : Object) → identity_of (change o) ≡ identity_of o)
    → map identity_of (one_changed os id change) ≡ map identity_of os
identities_stay os id change same = by_case (slice_get os id) refl
  where
    by_case : (o : Option Object) → slice_get os id ≡ o
        → map identity_of (option_map_or (λ x. slice_set os id (change x)) o os) ≡ map identity_of os
    by_case None e = refl
    by_case (Some x) e =
        map-slice_set identity_of os id (change x)
        ∙ slice_set-same (map identity_of os) id (identity_of (change x))
        (slice_get-map identity_of os id ∙ ap (option_map identity_of) e ∙ ap Some (sym (same x)))

-- ---- cells are written

pub cells_keep_identity : (change : List Cell → List Cell) → ((cells : List Cell) → length (change cells) ≡ length cells)
    → (o : Object) → identity_of (object_with_cells o change) ≡ identity_of o
cells_keep_identity change as_many o = by_body o.body
  where
    of_size : Bool → (head : ℕ) → Bool → (size : ℕ) → Identity
    of_size is_automatic head is_weak size =
        record { pool = o.pool; is_automatic = is_automatic; size = size; head = head; is_weak = is_weak }

    by_body : (b : Body) → identity_of (record { pool = o.pool; body = body_with_cells b change })
        ≡ identity_of (record { pool = o.pool; body = b })
    by_body (Automatic head cells is_weak) =
        ap (of_size true head is_weak) (as_many cells)
    by_body (Manual words) = refl

cells_of_changed : (b : Body) (change : List Cell → List Cell) (k : ℕ) (c : Cell)
    → ((cells : List Cell) → slice_get (change cells) k ≡ slice_get cells k) → slice_get (cells_of_body b) k ≡ Some c
    → slice_get (cells_of_body (body_with_cells b change)) k ≡ Some c
cells_of_changed (Automatic head cells is_weak) change k c keeps there = keeps cells ∙ there
cells_of_changed (Manual words) change k c keeps there = there

-- another cell than the one that is written
pub other_cells_stay : (g : Graph) (id k : ℕ) (change : List Cell → List Cell) → WritesOneCell k change → (this j : ℕ) (c : Cell)
    → ((id ≡ this) → (k ≡ j) → ⊥) → cell_at g this j ≡ Some c → cell_at (graph_with_cells g id change) this j ≡ Some c
other_cells_stay g id k change one this j c differs there =
    elim (cases_eq id this) [
      | inl same ↦ same_object same
      | inr other ↦ ap (option_and_then (λ x. slice_get (cells_of_body x.body) j))
          (others_stay g.objects id this (λ o. object_with_cells o change) other) ∙ there
    ]
  where
    of_object : (o : Option Object) → (k ≡ j → ⊥) → option_and_then (λ x. slice_get (cells_of_body x.body) j) o ≡ Some c
        → option_and_then (λ x. slice_get (cells_of_body x.body) j) (option_map (λ (x : Object). object_with_cells x change) o) ≡ Some c
    of_object None other there = absurd (none-some c there)
    of_object (Some x) other there = cells_of_changed x.body change j c (λ cells. one.others cells j other) there

    same_object : id ≡ this → cell_at (graph_with_cells g id change) this j ≡ Some c
    same_object same =
        subst (λ (n : ℕ). cell_at (graph_with_cells g n change) this j ≡ Some c) (sym same)
        (ap (option_and_then (λ x. slice_get (cells_of_body x.body) j)) (this_is_changed g.objects this (λ o. object_with_cells o change))
        ∙ of_object (slice_get g.objects this) (λ e. differs same e) there)

words_of_changed : (b : Body) (change : List Cell → List Cell) → words_of_body (body_with_cells b change) ≡ words_of_body b
words_of_changed (Automatic head cells is_weak) change = refl
words_of_changed (Manual words) change = refl

-- words of blocks are no cells
pub words_beside_cells : (g : Graph) (id this j : ℕ) (change : List Cell → List Cell)
    → word_at (graph_with_cells g id change) this j ≡ word_at g this j
words_beside_cells g id this j change =
    elim (cases_eq id this) [
      | inl same ↦ subst (λ (n : ℕ). word_at (graph_with_cells g n change) this j ≡ word_at g this j) (sym same)
          (ap (option_and_then (λ x. slice_get (words_of_body x.body) j)) (this_is_changed g.objects this (λ o. object_with_cells o change))
          ∙ of_object (slice_get g.objects this))
      | inr other ↦ ap (option_and_then (λ x. slice_get (words_of_body x.body) j))
          (others_stay g.objects id this (λ o. object_with_cells o change) other)
    ]
  where
    of_object : (o : Option Object) → option_and_then (λ x. slice_get (words_of_body x.body) j) (option_map (λ (x : Object).
        object_with_cells x change) o)
        ≡ option_and_then (λ x. slice_get (words_of_body x.body) j) o
    of_object None = refl
    of_object (Some x) = ap (λ words. slice_get words j) (words_of_changed x.body change)

-- ---- a word is written

abbrev pub object_with_word : (k value : ℕ) → Object → Object
object_with_word k value o = record o { body = body_with_word o.body k value }

pub words_keep_identity : (k value : ℕ) (o : Object) → identity_of (object_with_word k value o) ≡ identity_of o
words_keep_identity k value o = by_body o.body
  where
    of_size : Bool → (head : ℕ) → Bool → (size : ℕ) → Identity
    of_size is_automatic head is_weak size =
        record { pool = o.pool; is_automatic = is_automatic; size = size; head = head; is_weak = is_weak }

    by_body : (b : Body) → identity_of (record { pool = o.pool; body = body_with_word b k value })
        ≡ identity_of (record { pool = o.pool; body = b })
    by_body (Automatic head cells is_weak) = refl
    by_body (Manual words) =
        ap (of_size false 0 false) (length-slice_set words k value)

cells_beside_word : (b : Body) (k value : ℕ) → cells_of_body (body_with_word b k value) ≡ cells_of_body b
cells_beside_word (Automatic head cells is_weak) k value = refl
cells_beside_word (Manual words) k value = refl

pub cells_beside_words : (g : Graph) (id k value this j : ℕ) → cell_at (graph_with_word g id k value) this j ≡ cell_at g this j
cells_beside_words g id k value this j =
    elim (cases_eq id this) [
      | inl same ↦ subst (λ (n : ℕ). cell_at (graph_with_word g n k value) this j ≡ cell_at g this j) (sym same)
          (ap (option_and_then (λ x. slice_get (cells_of_body x.body) j)) (this_is_changed g.objects this (object_with_word k value))
          ∙ of_object (slice_get g.objects this))
      | inr other ↦ ap (option_and_then (λ x. slice_get (cells_of_body x.body) j))
          (others_stay g.objects id this (object_with_word k value) other)
    ]
  where
    of_object : (o : Option Object) → option_and_then (λ x. slice_get (cells_of_body x.body) j) (option_map (object_with_word k value) o)
        ≡ option_and_then (λ x. slice_get (cells_of_body x.body) j) o
    of_object None = refl
    of_object (Some x) = ap (λ cells. slice_get cells j) (cells_beside_word x.body k value)

pub other_words_stay : (g : Graph) (id k value this j n : ℕ) → ((id ≡ this) → (k ≡ j) → ⊥) → word_at g this j ≡ Some n
    → word_at (graph_with_word g id k value) this j ≡ Some n
other_words_stay g id k value this j n differs there =
    elim (cases_eq id this) [
      | inl same ↦ subst (λ (m : ℕ). word_at (graph_with_word g m k value) this j ≡ Some n) (sym same)
          (ap (option_and_then (λ x. slice_get (words_of_body x.body) j)) (this_is_changed g.objects this (object_with_word k value))
          ∙ of_object (slice_get g.objects this) (λ e. differs same e) there)
      | inr other ↦ ap (option_and_then (λ x. slice_get (words_of_body x.body) j))
          (others_stay g.objects id this (object_with_word k value) other) ∙ there
    ]
  where
    of_body : (b : Body) → (k ≡ j → ⊥) → slice_get (words_of_body b) j ≡ Some n
        → slice_get (words_of_body (body_with_word b k value)) j ≡ Some n
    of_body (Automatic head cells is_weak) other there = there
    of_body (Manual words) other there = slice_get-set_other words k j value other ∙ there

    of_object : (o : Option Object) → (k ≡ j → ⊥) → option_and_then (λ x. slice_get (words_of_body x.body) j) o ≡ Some n
        → option_and_then (λ x. slice_get (words_of_body x.body) j) (option_map (object_with_word k value) o) ≡ Some n
    of_object None other there = absurd (none-some n there)
    of_object (Some x) other there = of_body x.body other there

-- ---- a block is cleared

abbrev pub object_cleared : Object → Object
object_cleared o = record o { body = body_cleared o.body }

pub clearing_keeps_identity : (o : Object) → identity_of (object_cleared o) ≡ identity_of o
clearing_keeps_identity o = by_body o.body
  where
    of_size : Bool → (head : ℕ) → Bool → (size : ℕ) → Identity
    of_size is_automatic head is_weak size =
        record { pool = o.pool; is_automatic = is_automatic; size = size; head = head; is_weak = is_weak }

    by_body : (b : Body) → identity_of (record { pool = o.pool; body = body_cleared b }) ≡ identity_of (record { pool = o.pool; body = b })
    by_body (Automatic head cells is_weak) = refl
    by_body (Manual words) = ap (of_size false 0 false) (length-replicate (length words) 0)

cells_beside_clearing : (b : Body) → cells_of_body (body_cleared b) ≡ cells_of_body b
cells_beside_clearing (Automatic head cells is_weak) = refl
cells_beside_clearing (Manual words) = refl

pub cells_beside_cleared : (g : Graph) (id this j : ℕ) → cell_at (graph_cleared g id) this j ≡ cell_at g this j
cells_beside_cleared g id this j =
    elim (cases_eq id this) [
      | inl same ↦ subst (λ (n : ℕ). cell_at (graph_cleared g n) this j ≡ cell_at g this j) (sym same)
          (ap (option_and_then (λ x. slice_get (cells_of_body x.body) j)) (this_is_changed g.objects this object_cleared)
          ∙ of_object (slice_get g.objects this))
      | inr other ↦ ap (option_and_then (λ x. slice_get (cells_of_body x.body) j)) (others_stay g.objects id this object_cleared other)
    ]
  where
    of_object : (o : Option Object) → option_and_then (λ x. slice_get (cells_of_body x.body) j) (option_map object_cleared o)
        ≡ option_and_then (λ x. slice_get (cells_of_body x.body) j) o
    of_object None = refl
    of_object (Some x) = ap (λ cells. slice_get cells j) (cells_beside_clearing x.body)

pub words_of_others_stay : (g : Graph) (id this j n : ℕ) → (id ≡ this → ⊥) → word_at g this j ≡ Some n
    → word_at (graph_cleared g id) this j ≡ Some n
words_of_others_stay g id this j n other there =
    ap (option_and_then (λ x. slice_get (words_of_body x.body) j)) (others_stay g.objects id this object_cleared other) ∙ there
