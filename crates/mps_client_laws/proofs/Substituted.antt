-- What a transform that is applied leaves of objects and slots: references to what is no old object of a pair, and all else.
use Rattle.std.proofs.Common.{◌≡◌, ◌∙◌, ℕ, true, false, refl, ap, List, [], ◌∷◌, map, Option, Some, None}
use Rattle.std.proofs.lemmas.Bool.{or_parts}
use Rattle.std.proofs.lemmas.List.{length-map}
use Rattle.std.proofs.lemmas.Option.{none-some, slice_get-map}
use Rattle.std.specs.Prelude.{◌==◌, if◌then◌else◌, option_and_then, option_map, slice_get}
use Rattle.std.specs.Option.{option_map_or}
use Rattle.mps_model.specs.Graph.{Graph, Object, Body, Automatic, Manual, Cell, HeadCell, NumberCell, ReferenceCell, object_at, target_of_cell}
use Rattle.mps_model.specs.World.{TransformPair}
use Rattle.mps_model.specs.Checked.{cells_of_body, words_of_body}
use Rattle.mps_model.specs.Transforms.{body_substituted, cell_substituted, graph_substituted, is_old, new_for, object_substituted, target_substituted}
use Rattle.mps_client_laws.specs.Objects.{cell_at, identity_of, word_at}

module _ (pairs : List TransformPair) where
  one_identity : (pool : ℕ) (b : Body)
      → identity_of (record { pool = pool; body = body_substituted pairs b }) ≡ identity_of (record { pool = pool; body = b })
  one_identity pool (Automatic head cells is_weak) =
      ap (λ n. record { pool = pool; is_automatic = true; size = n; head = head; is_weak = is_weak })
      (length-map cells (cell_substituted pairs))
  one_identity pool (Manual words) = refl

  pub identities : (os : List Object) → map identity_of (map (object_substituted pairs) os) ≡ map identity_of os
  identities [] = refl
  identities (o ∷ os) =
      ap (λ is. is ∷ map identity_of (map (object_substituted pairs) os)) (one_identity o.pool o.body)
      ∙ ap (λ rest. identity_of o ∷ rest) (identities os)

  -- ---- what is no old object

  not_old : (ps : List TransformPair) (id : ℕ) → is_old ps id ≡ false → new_for ps id ≡ id
  not_old [] id h = refl
  not_old (p ∷ ps) id h =
      let parts = or_parts (p.old == id) (is_old ps id) h in
      ap (λ b. if b then p.new else new_for ps id) parts.0 ∙ not_old ps id parts.1

  pub target_stays : (target : Option ℕ) → option_map_or (is_old pairs) target false ≡ false → target_substituted pairs target ≡ target
  target_stays None h = refl
  target_stays (Some id) h = ap (λ n. Some n) (not_old pairs id h)

  same_cell : (cell : Cell) → option_map_or (is_old pairs) (target_of_cell cell) false ≡ false → cell_substituted pairs cell ≡ cell
  same_cell HeadCell h = refl
  same_cell (NumberCell number) h = refl
  same_cell (ReferenceCell target tag) h = ap (λ t. ReferenceCell t tag) (target_stays target h)

  pub same_cell_at : (g : Graph) (id k : ℕ) (cell : Cell) → option_map_or (is_old pairs) (target_of_cell cell) false ≡ false
      → cell_at g id k ≡ Some cell → cell_at (graph_substituted g pairs) id k ≡ Some cell
  same_cell_at g id k cell other there =
      ap (option_and_then (λ (o : Object). slice_get (cells_of_body o.body) k))
      (slice_get-map (object_substituted pairs) g.objects id) ∙ of_object (object_at g id) there
    where
      of_body : (b : Body) → slice_get (cells_of_body b) k ≡ Some cell
          → slice_get (cells_of_body (body_substituted pairs b)) k ≡ Some cell
      of_body (Automatic head cells is_weak) e =
          slice_get-map (cell_substituted pairs) cells k ∙ ap (option_map (cell_substituted pairs)) e
          ∙ ap (λ c. Some c) (same_cell cell other)
      of_body (Manual words) e = absurd (none-some cell e)

      of_object : (x : Option Object) → option_and_then (λ (o : Object). slice_get (cells_of_body o.body) k) x ≡ Some cell
          → option_and_then (λ (o : Object). slice_get (cells_of_body o.body) k) (option_map (object_substituted pairs) x) ≡ Some cell
      of_object None e = absurd (none-some cell e)
      of_object (Some o) e = of_body o.body e

  pub same_word_at : (g : Graph) (id k : ℕ) → word_at (graph_substituted g pairs) id k ≡ word_at g id k
  same_word_at g id k =
      ap (option_and_then (λ (o : Object). slice_get (words_of_body o.body) k))
      (slice_get-map (object_substituted pairs) g.objects id) ∙ of_object (object_at g id)
    where
      of_body : (b : Body) → slice_get (words_of_body (body_substituted pairs b)) k ≡ slice_get (words_of_body b) k
      of_body (Automatic head cells is_weak) = refl
      of_body (Manual words) = refl

      of_object : (x : Option Object)
          → option_and_then (λ (o : Object). slice_get (words_of_body o.body) k) (option_map (object_substituted pairs) x)
          ≡ option_and_then (λ (o : Object). slice_get (words_of_body o.body) k) x
      of_object None = refl
      of_object (Some o) = of_body o.body
