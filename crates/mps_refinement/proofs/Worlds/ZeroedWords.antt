-- Words that are written with 0 one after the other: those of a list, and those of a manual block.
use Rattle.std.proofs.Common.{◌≡◌, ◌∙◌, ℕ, zero, suc, ◌+◌, ◌<◌, ◌≤◌, false, refl, sym, ap, subst, List, [], ◌∷◌, length, map, replicate, Some, inl, inr, arith, get_or}
use Rattle.std.proofs.lemmas.Bool.{cases_eq}
use Rattle.std.proofs.lemmas.List.{ext_get_or, get_or-replicate, get_or-set_other, get_or-set_same, length-replicate, length-set}
use Rattle.std.proofs.lemmas.Option.{slice_get_within}
use Rattle.std.specs.Prelude.{◌≢◌, slice_get, slice_set}
use Rattle.std.specs.Option.{option_map_or}
use Rattle.mps_changes.proofs.Lookups.{slice_get-set_same, slice_set-same}
use Rattle.mps_laws.proofs.Positions.LaidOut.{IsLaidOut}
use Rattle.mps_laws.proofs.Positions.LegalMoves.{HasLayout, shapes_written}
use Rattle.mps_laws.proofs.Positions.Occupancy.{Shape, occupancy_of, shape_of}
use Rattle.mps_model.specs.Allocating.{body_with_word}
use Rattle.mps_model.specs.Caches.{body_cleared, graph_cleared}
use Rattle.mps_model.specs.Checked.{with_graph}
use Rattle.mps_model.specs.Graph.{Graph, Manual, Object}
use Rattle.mps_model.specs.World.{World}

-- the first n words from one on are 0
abbrev pub zeroed : List ℕ → (from n : ℕ) → List ℕ
zeroed words from zero = words
zeroed words from (suc n) = slice_set (zeroed words from n) (from + n) 0

pub zeroed_long : (words : List ℕ) (from n : ℕ) → length (zeroed words from n) ≡ length words
zeroed_long words from zero = refl
zeroed_long words from (suc n) = length-set (zeroed words from n) (from + n) 0 ∙ zeroed_long words from n

pub zeroed_here : (words : List ℕ) (from n i : ℕ) → i < n → from + n ≤ length words → get_or (zeroed words from n) (from + i) 0 ≡ 0
zeroed_here words from zero i low fits = absurd (omega (arith, low))
zeroed_here words from (suc n) i low fits =
    elim (cases_eq i n) [
      | inl same ↦
          ap (λ k. get_or (slice_set (zeroed words from n) (from + n) 0) k 0) (let e : from + i ≡ from + n = omega (arith, same) in e)
          ∙ get_or-set_same (zeroed words from n) (from + n) 0 0 (let e = zeroed_long words from n in omega (arith, fits, e))
      | inr other ↦
          get_or-set_other (zeroed words from n) (from + n) (from + i) 0 0 (λ e. other (omega (arith, e)))
          ∙ zeroed_here words from n i (omega (arith, low, other)) (omega (arith, fits))
    ]

pub zeroed_other : (words : List ℕ) (from n i : ℕ) → ((l : ℕ) → l < n → i ≢ from + l)
    → get_or (zeroed words from n) i 0 ≡ get_or words i 0
zeroed_other words from zero i apart = refl
zeroed_other words from (suc n) i apart =
    get_or-set_other (zeroed words from n) (from + n) i 0 0 (λ e. apart n (omega arith) (omega (arith, e)))
    ∙ zeroed_other words from n i (λ l low. apart l (omega (arith, low)))

-- all words of a list
pub all_zeroed : (words : List ℕ) → zeroed words 0 (length words) ≡ replicate (length words) 0
all_zeroed words =
    ext_get_or 0 (zeroed words 0 (length words)) (replicate (length words) 0)
    (zeroed_long words 0 (length words) ∙ sym (length-replicate {A = ℕ} (length words) 0)) (λ i lt.
    let low : i < length words = (let e = zeroed_long words 0 (length words) in omega (arith, lt, e)) in
    ap (λ k. get_or (zeroed words 0 (length words)) k 0) (let e : i ≡ 0 + i = omega arith in e)
    ∙ zeroed_here words 0 (length words) i low (omega arith) ∙ sym (get_or-replicate (length words) i 0 0 low))

-- ---- a manual block

-- the first n words of a block are 0
abbrev pub objects_zeroed : List Object → (id n : ℕ) → List Object
objects_zeroed objects id zero = objects
objects_zeroed objects id (suc n) =
    option_map_or (λ (o : Object). slice_set (objects_zeroed objects id n) id (record o { body = body_with_word o.body n 0 }))
    (slice_get (objects_zeroed objects id n) id) (objects_zeroed objects id n)

abbrev pub graph_zeroed : Graph → (id n : ℕ) → Graph
graph_zeroed g id n = record g { objects = objects_zeroed g.objects id n }

-- the block then
abbrev pub object_zeroed : Object → (words : List ℕ) → (n : ℕ) → Object
object_zeroed o words n = record o { body = Manual (zeroed words 0 n) }

set_twice : {X : Type 0} (xs : List X) (i : ℕ) (a b : X) → slice_set (slice_set xs i a) i b ≡ slice_set xs i b
set_twice [] i a b = refl
set_twice (x ∷ xs) zero a b = refl
set_twice (x ∷ xs) (suc i) a b = ap (λ ys. x ∷ ys) (set_twice xs i a b)

module _ (g : Graph) (id : ℕ) (o : Object) (words : List ℕ) (there : slice_get g.objects id ≡ Some o) (body : o.body ≡ Manual words) where
  pub zeroed_objects : (n : ℕ) → (graph_zeroed g id n).objects ≡ slice_set g.objects id (object_zeroed o words n)
  zeroed_objects zero =
      sym (slice_set-same g.objects id (object_zeroed o words 0) (there ∙ ap (λ b. Some (record o { body = b })) body))
  zeroed_objects (suc n) =
      let found : slice_get (graph_zeroed g id n).objects id ≡ Some (object_zeroed o words n) =
      ap (λ os. slice_get os id) (zeroed_objects n)
      ∙ slice_get-set_same g.objects id (object_zeroed o words n) (slice_get_within g.objects id o there) in
      ap (λ f. option_map_or (λ (x : Object). slice_set (graph_zeroed g id n).objects id (record x { body = body_with_word x.body n 0 })) f
      (graph_zeroed g id n).objects) found
      ∙ ap (λ k. slice_set (graph_zeroed g id n).objects id (record o { body = Manual (slice_set (zeroed words 0 n) k 0) }))
      (let e : n ≡ 0 + n = omega arith in e)
      ∙ ap (λ os. slice_set os id (object_zeroed o words (suc n))) (zeroed_objects n)
      ∙ set_twice g.objects id (object_zeroed o words n) (object_zeroed o words (suc n))

  pub zeroed_there : (n : ℕ) → slice_get (graph_zeroed g id n).objects id ≡ Some (object_zeroed o words n)
  zeroed_there n =
      ap (λ os. slice_get os id) (zeroed_objects n)
      ∙ slice_get-set_same g.objects id (object_zeroed o words n) (slice_get_within g.objects id o there)

  -- all its words are cleared then
  pub zeroed_cleared : (graph_zeroed g id (length words)).objects ≡ (graph_cleared g id).objects
  zeroed_cleared =
      zeroed_objects (length words)
      ∙ ap (λ ws. slice_set g.objects id (record o { body = Manual ws })) (all_zeroed words)
      ∙ sym (ap (λ f. option_map_or (λ (x : Object). slice_set g.objects id (record x { body = body_cleared x.body })) f g.objects) there
      ∙ ap (λ b. slice_set g.objects id (record o { body = body_cleared b })) body)

  shape_same : (n : ℕ) → shape_of (object_zeroed o words n) ≡ shape_of o
  shape_same n =
      ap (λ (k : ℕ). let s : Shape = record { pool = o.pool; words = k; is_weak = false } in s) (zeroed_long words 0 n)
      ∙ sym (ap (λ b. shape_of (record o { body = b })) body)

-- what lies where stays
pub zeroed_laid : (limit : ℕ) (w : World) (id : ℕ) (o : Object) (words : List ℕ) → slice_get w.graph.objects id ≡ Some o
    → o.body ≡ Manual words → HasLayout limit w → (n : ℕ) → HasLayout limit (with_graph w (graph_zeroed w.graph id n))
zeroed_laid limit w id o words there body laid n =
    subst (λ ss. IsLaidOut limit (record (occupancy_of w) { shapes = ss }))
    (sym (ap (map shape_of) (zeroed_objects w.graph id o words there body n)
    ∙ shapes_written w.graph.objects id o (object_zeroed o words n) there (shape_same w.graph id o words there body n)))
    (with_itself w laid)
  where
    with_itself : (u : World) → HasLayout limit u → IsLaidOut limit (record (occupancy_of u) { shapes = map shape_of u.graph.objects })
    with_itself u h = h
