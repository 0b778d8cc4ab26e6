-- An automatic object stays one, whatever is written into it.
use Rattle.std.proofs.Common.{◌≡◌, ◌∙◌, ℕ, zero, suc, Bool, true, false, refl, sym, ap, List, [], ◌∷◌, map, Option, Some, None}
use Rattle.std.proofs.lemmas.Bool.{false≢true}
use Rattle.std.proofs.lemmas.Option.{same_Some}
use Rattle.std.specs.Prelude.{slice_get, slice_set}
use Rattle.std.specs.Option.{option_map_or}
use Rattle.mps_model.specs.Graph.{Automatic, Body, Cell, Graph, Manual, Object, body_with_cells, graph_with_cells, is_automatic, is_automatic_body, object_with_cells, with_last, with_target_cell}
use Rattle.mps_model.specs.World.{TransformPair}
use Rattle.mps_model.specs.Allocating.{body_with_word}
use Rattle.mps_model.specs.Caches.{body_cleared}
use Rattle.mps_model.specs.Effect.{graph_nulled, graph_splatted}
use Rattle.mps_model.specs.Transforms.{body_substituted}
use Rattle.mps_model.proofs.Nulled.{splatted_holds}

-- whether the object of this id is an automatic one of these
abbrev pub is_auto : List Object → (id : ℕ) → Bool
is_auto os id = option_map_or is_automatic (slice_get os id) false

auto_written : (os : List Object) (i : ℕ) (o new : Object) → slice_get os i ≡ Some o → is_automatic new ≡ is_automatic o → (id : ℕ)
    → is_auto os id ≡ true → is_auto (slice_set os i new) id ≡ true
auto_written [] i o new e same id h = h
auto_written (x ∷ xs) zero o new e same zero h = same ∙ sym (ap is_automatic (same_Some x o e)) ∙ h
auto_written (x ∷ xs) zero o new e same (suc id) h = h
auto_written (x ∷ xs) (suc i) o new e same zero h = h
auto_written (x ∷ xs) (suc i) o new e same (suc id) h = auto_written xs i o new e same id h

-- an object is written in place of one of its kind, if there is one
pub auto_changed : (g : Graph) (i : ℕ) (change : Object → Object) → ((o : Object) → is_automatic (change o) ≡ is_automatic o) → (id : ℕ)
    → is_auto g.objects id ≡ true
    → is_auto (option_map_or (λ o. slice_set g.objects i (change o)) (slice_get g.objects i) g.objects) id ≡ true
auto_changed g i change same id h = of_one (slice_get g.objects i) refl
  where
    of_one : (o : Option Object) → slice_get g.objects i ≡ o
        → is_auto (option_map_or (λ x. slice_set g.objects i (change x)) o g.objects) id ≡ true
    of_one None e = h
    of_one (Some o) e = auto_written g.objects i o (change o) e (same o) id h

pub auto_mapped : (change : Object → Object) → ((o : Object) → is_automatic (change o) ≡ is_automatic o) → (os : List Object) (id : ℕ)
    → is_auto os id ≡ true → is_auto (map change os) id ≡ true
auto_mapped change same [] id h = h
auto_mapped change same (x ∷ xs) zero h = same x ∙ h
auto_mapped change same (x ∷ xs) (suc id) h = auto_mapped change same xs id h

pub auto_more : (os : List Object) (o : Object) (id : ℕ) → is_auto os id ≡ true → is_auto (with_last os o) id ≡ true
auto_more [] o id h = absurd (false≢true h)
auto_more (x ∷ xs) o zero h = h
auto_more (x ∷ xs) o (suc id) h = auto_more xs o id h

cells_keep : (change : List Cell → List Cell) (b : Body) → is_automatic_body (body_with_cells b change) ≡ is_automatic_body b
cells_keep change (Automatic head cells is_weak) = refl
cells_keep change (Manual words) = refl

pub word_keeps : (k value : ℕ) (b : Body) → is_automatic_body (body_with_word b k value) ≡ is_automatic_body b
word_keeps k value (Automatic head cells is_weak) = refl
word_keeps k value (Manual words) = refl

pub cleared_keeps : (b : Body) → is_automatic_body (body_cleared b) ≡ is_automatic_body b
cleared_keeps (Automatic head cells is_weak) = refl
cleared_keeps (Manual words) = refl

pub substituted_keeps : (pairs : List TransformPair) (b : Body)
    → is_automatic_body (body_substituted pairs b) ≡ is_automatic_body b
substituted_keeps pairs (Automatic head cells is_weak) = refl
substituted_keeps pairs (Manual words) = refl

pub cells_changed : (g : Graph) (i : ℕ) (change : List Cell → List Cell) (id : ℕ) → is_auto g.objects id ≡ true
    → is_auto (graph_with_cells g i change).objects id ≡ true
cells_changed g i change id h = auto_changed g i (λ o. object_with_cells o change) (λ o. cells_keep change o.body) id h

pub splatted : (g : Graph) (holder cell id : ℕ) → is_auto g.objects id ≡ true → is_auto (graph_splatted g holder cell).objects id ≡ true
splatted g holder cell id h =
    let null = λ (cells : List Cell). with_target_cell cells cell None in
    let first = cells_changed g holder null id h in
    splatted_holds (λ left. is_auto left.objects id ≡ true) g holder cell first (λ dependent.
    cells_changed (graph_nulled g holder cell) dependent null id first)
