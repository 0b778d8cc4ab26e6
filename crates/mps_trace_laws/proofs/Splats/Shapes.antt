-- Objects one of whose references became null are still blocks of their formats.
use Rattle.std.proofs.Common.{◌≡◌, ◌∙◌, ◌⊎◌, ℕ, Bool, true, refl, sym, ap, List, length, Option, Some, None, subst, inl, inr, arith}
use Rattle.std.proofs.lemmas.Bool.{cases_eq}
use Rattle.std.proofs.lemmas.Option.{none-some, same_Some}
use Rattle.std.proofs.lemmas.List.{length-set}
use Rattle.std.specs.Prelude.{slice_get, slice_set, ◌≢◌, IsTrue}
use Rattle.mps_base.specs.Address.{Id}
use Rattle.mps_format.specs.Layout.{Layout}
use Rattle.mps_model.specs.Graph.{Cell, HeadCell, ReferenceCell, Automatic, Object, is_automatic, is_automatic_body, is_reference_cell, size_of, size_of_body}
use Rattle.mps_model.specs.Checked.{head_of_body}
use Rattle.mps_trace_laws.specs.Image.Memory.{all_cells}
use Rattle.mps_trace_laws.specs.Image.Image.{AreShaped}
use Rattle.mps_trace_laws.proofs.Image.Entries.{slice_get-set_same, slice_get-set_other}
use Rattle.mps_trace_laws.proofs.Image.CellChanged.{set_cases}

module _ (objects : List Object) (layout : ℕ → Layout) (shaped : AreShaped objects layout) (holder : Id) (o : Object) (head : ℕ)
    (cells : List Cell) (is_weak : Bool) (object : slice_get objects holder ≡ Some o) (body : o.body ≡ Automatic head cells is_weak)
    (i tag : ℕ) (was : Option ℕ) (cell : slice_get cells i ≡ Some (ReferenceCell was tag)) where
  abbrev pub new : Cell
  new = ReferenceCell None tag

  abbrev pub o' : Object
  o' = record o { body = Automatic head (slice_set cells i new) is_weak }

  abbrev pub objects' : List Object
  objects' = slice_set objects holder o'

  is_auto : is_automatic o ≡ true
  is_auto = ap is_automatic_body body

  head_is : head_of_body o.body ≡ head
  head_is = ap head_of_body body

  long : size_of_body o.body ≡ length (slice_set cells i new)
  long = ap size_of_body body ∙ sym (length-set cells i new)

  all_are : all_cells o.body ≡ cells
  all_are = ap all_cells body

  -- an object is as it was, or is the changed one
  pub which : (id : Id) (p : Object) → slice_get objects' id ≡ Some p → ((id ≡ holder) × (o' ≡ p)) ⊎ (slice_get objects id ≡ Some p)
  which id p e = elim (cases_eq id holder) [
    | inl same ↦
        inl (same, same_Some o' p (sym (slice_get-set_same objects holder o o' object) ∙ ap (slice_get objects') (sym same) ∙ e))
    | inr other ↦ inr (sym (slice_get-set_other objects holder id o' other) ∙ e)
  ]

  still : (id : Id) (p : Object) → slice_get objects id ≡ Some p → IsTrue (is_automatic p)
      → (q : Object) × (slice_get objects' id ≡ Some q) × IsTrue (is_automatic q)
  still id p e auto = elim (cases_eq id holder) [
    | inl same ↦ (o', ap (slice_get objects') same ∙ slice_get-set_same objects holder o o' object, refl)
    | inr other ↦ (p, slice_get-set_other objects holder id o' other ∙ e, auto)
  ]

  -- a cell of the changed object: it was one, or is the null one
  cell_of : (k : ℕ) (c : Cell) (p : Object) → o' ≡ p → slice_get (all_cells p.body) k ≡ Some c
      → (slice_get (all_cells o.body) k ≡ Some c) ⊎ ((k ≡ i) × (c ≡ new))
  cell_of k c p is e = elim (set_cases cells i new k c (ap (λ (q : Object). slice_get (all_cells q.body) k) is ∙ e)) [
    | inl old ↦ inl (ap (λ cs. slice_get cs k) all_are ∙ old.1)
    | inr now ↦ inr now
  ]

  there_was : slice_get (all_cells o.body) i ≡ Some (ReferenceCell was tag)
  there_was = ap (λ cs. slice_get cs i) all_are ∙ cell

  abbrev tag_of : Cell → ℕ
  tag_of (ReferenceCell t g) = g
  tag_of c = 0

  abbrev target_of : Cell → Option ℕ
  target_of (ReferenceCell t g) = t
  target_of c = None

  pub shaped' : AreShaped objects' layout
  shaped' = record {
    lawful = shaped.lawful;
    tags = λ id k p t g there c. elim (which id p there) [
      | inr old ↦ shaped.tags id k p t g old c
      | inl new_one ↦ elim (cell_of k (ReferenceCell t g) p new_one.1 c) [
        | inl old ↦ shaped.tags holder k o t g object old
        | inr now ↦
            let low = shaped.tags holder i o was tag object there_was in
            let same : g ≡ tag = ap tag_of now.1 in omega (arith, low, same)
      ]
    ];
    targets = λ id k p t g there c. elim (which id p there) [
      | inr old ↦ let q = shaped.targets id k p t g old c in still t q.0 q.1 q.2
      | inl new_one ↦ elim (cell_of k (ReferenceCell (Some t) g) p new_one.1 c) [
        | inl old ↦ let q = shaped.targets holder k o t g object old in still t q.0 q.1 q.2
        | inr now ↦ absurd (none-some t (sym (ap target_of now.1)))
      ]
    ];
    first = λ id p there auto. elim (which id p there) [
      | inr old ↦ shaped.first id p old auto
      | inl new_one ↦
          subst (λ (q : Object). slice_get (all_cells q.body) 0 ≡ Some HeadCell) new_one.1 (first_still (cases_eq 0 i))
    ];
    valid = λ id p there auto. elim (which id p there) [
      | inr old ↦ shaped.valid id p old auto
      | inl new_one ↦
          subst (λ (q : Object). IsTrue ((layout q.pool).is_valid (head_of_body q.body))) new_one.1
          (subst (λ h. IsTrue ((layout o.pool).is_valid h)) head_is (shaped.valid holder o object is_auto))
    ];
    kinds = λ id k p c there auto e. elim (which id p there) [
      | inr old ↦ shaped.kinds id k p c old auto e
      | inl new_one ↦
          subst (λ (q : Object). is_reference_cell c ≡ (layout q.pool).is_reference (head_of_body q.body) k) new_one.1
          (subst (λ h. is_reference_cell c ≡ (layout o.pool).is_reference h k) head_is
          (elim (cell_of k c p new_one.1 e) [
            | inl old ↦ shaped.kinds holder k o c object is_auto old
            | inr now ↦
                ap is_reference_cell now.1
                ∙ shaped.kinds holder i o (ReferenceCell was tag) object is_auto there_was
                ∙ ap (λ j. (layout o.pool).is_reference (head_of_body o.body) j) (sym now.0)
          ]))
    ];
    whole = λ id p there auto. elim (which id p there) [
      | inr old ↦ shaped.whole id p old auto
      | inl new_one ↦
          subst (λ (q : Object). (layout q.pool).size (head_of_body q.body) ≡ size_of q) new_one.1
          (ap (layout o.pool).size (sym head_is) ∙ shaped.whole holder o object is_auto ∙ long)
    ];
    sizes = λ id p there auto. elim (which id p there) [
      | inr old ↦ shaped.sizes id p old auto
      | inl new_one ↦
          let old = shaped.sizes holder o object is_auto in
          subst (λ (q : Object). Rattle.mps_format.specs.Layout.IsBlockSize (size_of q)) new_one.1
          (subst (λ n. Rattle.mps_format.specs.Layout.IsBlockSize n) long old)
    ];
  }
    where
      first_still : (0 ≡ i) ⊎ (0 ≢ i) → slice_get (slice_set cells i new) 0 ≡ Some HeadCell
      first_still (inl same) =
          let head_there : slice_get cells 0 ≡ Some HeadCell =
          ap (λ cs. slice_get cs 0) (sym all_are) ∙ shaped.first holder o object is_auto
          in
          let never : is_reference_cell HeadCell ≡ is_reference_cell (ReferenceCell was tag) =
          ap is_reference_cell (same_Some HeadCell (ReferenceCell was tag) (sym head_there ∙ ap (slice_get cells) same ∙ cell)) in
          cc
      first_still (inr other) =
          slice_get-set_other cells i 0 new other ∙ ap (λ cs. slice_get cs 0) (sym all_are) ∙ shaped.first holder o object is_auto
