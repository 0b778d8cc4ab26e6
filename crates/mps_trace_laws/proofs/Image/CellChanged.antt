-- One cell of one object is changed: a number or a reference of an automatic object, or a word of a manual one.
use Rattle.std.proofs.Common.{◌≡◌, ◌∙◌, ◌⊎◌, ℕ, zero, suc, Bool, refl, sym, ap, List, [], ◌∷◌, map, Option, Some, None, subst, inl, inr, arith}
use Rattle.std.proofs.lemmas.Bool.{cases_eq}
use Rattle.std.proofs.lemmas.Option.{none-some, same_Some}
use Rattle.std.proofs.lemmas.List.{length-set}
use Rattle.std.specs.Prelude.{slice_get, slice_set, ◌≢◌, IsTrue}
use Rattle.mps_base.specs.Address.{Address, Id}
use Rattle.std.specs.Option.{option_map_or}
use Rattle.mps_model.specs.Graph.{Cell, NumberCell, ReferenceCell, Body, Automatic, Manual, Object, Graph, object_at, object_with_cells, body_with_cells, graph_with_cells, retargeted, tagged, with_tag_cell, with_target_cell, size_of, size_of_body}
use Rattle.mps_model.specs.Checked.{head_of_body}
use Rattle.mps_model.specs.World.{extent, extents_of}
use Rattle.mps_abstract.specs.Colours.{Colours}
use Rattle.mps_trace_laws.specs.Image.Memory.{Setting, Memory, all_cells}
use Rattle.mps_trace_laws.specs.Image.Image.{CellSet, ImageStands}
use Rattle.mps_trace_laws.specs.Image.Changes.{Was, IsCellChanged}
use Rattle.mps_trace_laws.proofs.Image.Entries.{slice_get-set_same, slice_get-set_other}

-- a body with one cell changed
pub record IsBodyChanged (b b' : Body) (i : ℕ) (new : Cell) : Type 0 where
  pub size : size_of_body b ≡ size_of_body b'
  pub head : head_of_body b ≡ head_of_body b'
  pub cells : (j : ℕ) (c : Cell) → slice_get (all_cells b') j ≡ Some c
      → ((j ≢ i) × (slice_get (all_cells b) j ≡ Some c)) ⊎ ((j ≡ i) × (c ≡ new))

pub set_cases : {X : Type 0} (xs : List X) (i : ℕ) (new : X) (j : ℕ) (x : X) → slice_get (slice_set xs i new) j ≡ Some x
    → ((j ≢ i) × (slice_get xs j ≡ Some x)) ⊎ ((j ≡ i) × (x ≡ new))
set_cases [] i new j x e = absurd (none-some x e)
set_cases (y ∷ ys) zero new zero x e = inr (refl, sym (same_Some new x e))
set_cases (y ∷ ys) zero new (suc j) x e = inl ((λ z. omega (arith, z)), e)
set_cases (y ∷ ys) (suc i) new zero x e = inl ((λ z. omega (arith, z)), e)
set_cases (y ∷ ys) (suc i) new (suc j) x e =
    elim (set_cases ys i new j x e) [
      | inl z ↦ inl ((λ same. z.0 (omega (arith, same))), z.1)
      | inr z ↦ inr (ap suc z.0, z.1)
    ]

-- a cell of an automatic object
pub automatic_changed : (head : ℕ) (cells : List Cell) (is_weak : Bool) (i : ℕ) (new : Cell)
    → IsBodyChanged (Automatic head cells is_weak) (Automatic head (slice_set cells i new) is_weak) i new
automatic_changed head cells is_weak i new =
    record { size = sym (length-set cells i new); head = refl; cells = λ j c e. set_cases cells i new j c e }

map-set : (words : List ℕ) (i word : ℕ) → map NumberCell (slice_set words i word) ≡ slice_set (map NumberCell words) i (NumberCell word)
map-set [] i word = refl
map-set (w ∷ ws) zero word = refl
map-set (w ∷ ws) (suc i) word = ap (λ cs. NumberCell w ∷ cs) (map-set ws i word)

-- a word of a manual block
pub manual_changed : (words : List ℕ) (i word : ℕ) → IsBodyChanged (Manual words) (Manual (slice_set words i word)) i (NumberCell word)
manual_changed words i word = record {
  size = sym (length-set words i word);
  head = refl;
  cells = λ j c e.
      set_cases (map NumberCell words) i (NumberCell word) j c (ap (λ cs. slice_get cs j) (sym (map-set words i word)) ∙ e);
}

-- a reference with another target is one cell changed
pub target_changed : (cells : List Cell) (i tag : ℕ) (was : Option Id) (target : Option Id)
    → slice_get cells i ≡ Some (ReferenceCell was tag)
    → with_target_cell cells i target ≡ slice_set cells i (ReferenceCell target tag)
target_changed cells i tag was target e =
    ap (λ found. option_map_or (λ cell. slice_set cells i (retargeted cell target)) found cells) e

-- so is one with another tag
pub tag_changed : (cells : List Cell) (i old tag : ℕ) (target : Option Id) → slice_get cells i ≡ Some (ReferenceCell target old)
    → with_tag_cell cells i tag ≡ slice_set cells i (ReferenceCell target tag)
tag_changed cells i old tag target e = ap (λ found. option_map_or (λ cell. slice_set cells i (tagged cell tag)) found cells) e

-- ---- among other objects

extents_same : (objects : List Object) (id : Id) (o o' : Object) (addresses : List (Option Address)) → slice_get objects id ≡ Some o
    → size_of o ≡ size_of o' → extents_of (slice_set objects id o') addresses ≡ extents_of objects addresses
extents_same [] id o o' addresses e size = refl
extents_same (q ∷ os) zero o o' [] e size = refl
extents_same (q ∷ os) (suc id) o o' [] e size = refl
extents_same (q ∷ os) zero o o' (None ∷ ps) e size = refl
extents_same (q ∷ os) zero o o' (Some p ∷ ps) e size =
    ap (λ n. extent p n ∷ extents_of os ps) (sym size ∙ ap (λ (x : Object). size_of x) (sym (same_Some q o e)))
extents_same (q ∷ os) (suc id) o o' (None ∷ ps) e size = extents_same os id o o' ps e size
extents_same (q ∷ os) (suc id) o o' (Some p ∷ ps) e size = ap (λ rs. extent p (size_of q) ∷ rs) (extents_same os id o o' ps e size)

pub cell_changed : (objects : List Object) (id : Id) (o : Object) (body : Body) (i : ℕ) (new : Cell) → slice_get objects id ≡ Some o
    → IsBodyChanged o.body body i new → IsCellChanged objects (slice_set objects id (record o { body = body })) id i new
cell_changed objects id o body i new object changed = record {
  was = λ j p there. which j p there (cases_eq j id);
  still = λ j p there. elim (cases_eq j id) [
    | inl e ↦
        (o', subst (λ x. slice_get (slice_set objects id o') x ≡ Some o') (sym e) (slice_get-set_same objects id o o' object))
    | inr n ↦ (p, slice_get-set_other objects id j o' n ∙ there)
  ];
  extents = λ addresses. extents_same objects id o o' addresses object changed.size;
}
  where
    o' : Object
    o' = record o { body = body }

    which : (j : Id) (p : Object) → slice_get (slice_set objects id (record o { body = body })) j ≡ Some p → (j ≡ id) ⊎ (j ≢ id)
        → Was objects j p id i new
    which j p there (inr n) = record {
      object = p;
      there = sym (slice_get-set_other objects id j (record o { body = body }) n) ∙ there;
      pool = refl;
      size = refl;
      head = refl;
      cells = λ l c cell. inl ((λ e. n e.0), cell);
    }
    which j p there (inl e) =
        let is : record o { body = body } ≡ p =
        same_Some (record o { body = body }) p
        (sym (slice_get-set_same objects id o (record o { body = body }) object)
        ∙ ap (slice_get (slice_set objects id (record o { body = body }))) (sym e) ∙ there)
        in
        subst (λ (q : Object). Was objects j q id i new) is (record {
          object = o;
          there = ap (slice_get objects) e ∙ object;
          pool = refl;
          size = changed.size;
          head = changed.head;
          cells = λ l c cell. elim (changed.cells l c cell) [
            | inl x ↦ inl ((λ y. x.0 y.1), x.1)
            | inr x ↦ inr (e, x.0, x.1)
          ];
        })

-- where fewer cells are to be fixed, the image stands all the more
pub fewer_fixed : (s : Setting) (m : Memory) (addresses : List (Option Address)) (k : Colours) (done done' : CellSet)
    → ((id i : ℕ) → IsTrue (done' id i) → IsTrue (done id i)) → ImageStands s m addresses k done → ImageStands s m addresses k done'
fewer_fixed s m addresses k done done' fewer st = record {
  placed = st.placed;
  words = st.words;
  fixed = record {
    cells = λ id i o n c d l cell. st.fixed.cells id i o n c (fewer id i d) l cell;
    reserved = st.fixed.reserved;
  };
  marks = st.marks;
  runs = st.runs;
}

-- ---- as the model changes a graph

-- a cell of an automatic object, where the change is one of a cell
pub graph_cell_changed : (g : Graph) (id : Id) (o : Object) (head : ℕ) (cells : List Cell) (is_weak : Bool) (i : ℕ) (new : Cell)
    (change : List Cell → List Cell) → object_at g id ≡ Some o → o.body ≡ Automatic head cells is_weak
    → change cells ≡ slice_set cells i new
    → IsCellChanged g.objects (graph_with_cells g id change).objects id i new
graph_cell_changed g id o head cells is_weak i new change object body is =
    subst (λ objects. IsCellChanged g.objects objects id i new) (sym objects_are)
    (cell_changed g.objects id o (Automatic head (slice_set cells i new) is_weak) i new object
    (subst (λ b. IsBodyChanged b (Automatic head (slice_set cells i new) is_weak) i new) (sym body)
    (automatic_changed head cells is_weak i new)))
  where
    objects_are : (graph_with_cells g id change).objects
        ≡ slice_set g.objects id (record o { body = Automatic head (slice_set cells i new) is_weak })
    objects_are =
        ap (λ found. option_map_or (λ (q : Object). slice_set g.objects id (object_with_cells q change)) found g.objects) object
        ∙ ap (λ b. slice_set g.objects id (record o { body = body_with_cells b change })) body
        ∙ ap (λ cs. slice_set g.objects id (record o { body = Automatic head cs is_weak })) is
