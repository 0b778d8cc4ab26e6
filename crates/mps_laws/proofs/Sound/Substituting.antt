-- What a transform that is applied leaves: each slot and each reference is as it was, or to the new object of a pair.
use Rattle.std.proofs.Common.{◌≡◌, ◌∙◌, ℕ, Bool, true, false, refl, sym, ap, List, [], ◌∷◌, map, Option, Some, None, inl, inr, subst}
use Rattle.std.proofs.lemmas.Bool.{and_from, and_parts, false≢true}
use Rattle.std.proofs.lemmas.List.{length-map}
use Rattle.std.proofs.lemmas.Option.{none-some, same_Some, slice_get-map}
use Rattle.std.specs.Prelude.{◌&&◌, ◌||◌, ◌==◌, not, filter, if◌then◌else◌, option_map}
use Rattle.std.specs.List.{flat_map, list_all}
use Rattle.std.specs.Option.{option_map_or}
use Rattle.mps_model.specs.Allocating.{takes_head}
use Rattle.mps_model.specs.Graph.{Object, Body, Automatic, Manual, Cell, HeadCell, NumberCell, ReferenceCell, Slots, entries, is_automatic_body, is_weak_body, new_cells, object_at, size_of_body, slots_of, targets_of_cells, targets_of_body}
use Rattle.mps_model.specs.World.{World, Pool, ArenaState, Unclamped, Clamped, Parked, TransformPair, ids_in_pairs, ids_of_pair, is_automatic_kind, is_weak_kind, pool_at}
use Rattle.mps_model.specs.WellFormed.{are_right_cells, are_shaped, is_right_body, is_right_object, is_shaped}
use Rattle.mps_model.specs.Checked.{with_graph}
use Rattle.mps_model.specs.Transforms.{body_substituted, cell_substituted, graph_substituted, new_for, object_substituted, pairs_of, slots_substituted, state_without_pairs, target_substituted}
use Rattle.mps_laws.proofs.Positions.Occupancy.{Shape, shape_of}
use Rattle.mps_laws.proofs.Sound.SoundGraph.{All, IsSoundGraph, Grows, all-append, all-parts, all-weaker, auto, auto_kept, edited, right_object_kept}

-- ---- shapes

abbrev shape_with : (pool words : ℕ) → Bool → Shape
shape_with pool words is_weak = record { pool = pool; words = words; is_weak = is_weak }

size_substituted : (pairs : List TransformPair) (b : Body) → size_of_body (body_substituted pairs b) ≡ size_of_body b
size_substituted pairs (Automatic head cells is_weak) = length-map cells (cell_substituted pairs)
size_substituted pairs (Manual words) = refl

weak_substituted : (pairs : List TransformPair) (b : Body) → is_weak_body (body_substituted pairs b) ≡ is_weak_body b
weak_substituted pairs (Automatic head cells is_weak) = refl
weak_substituted pairs (Manual words) = refl

kind_substituted : (pairs : List TransformPair) (b : Body) → is_automatic_body (body_substituted pairs b) ≡ is_automatic_body b
kind_substituted pairs (Automatic head cells is_weak) = refl
kind_substituted pairs (Manual words) = refl

pub shapes_substituted : (pairs : List TransformPair) (os : List Object)
    → map shape_of (map (object_substituted pairs) os) ≡ map shape_of os
shapes_substituted pairs [] = refl
shapes_substituted pairs (o ∷ os) =
    ap (λ s. s ∷ map shape_of (map (object_substituted pairs) os))
    (ap (λ n. shape_with o.pool n (is_weak_body (body_substituted pairs o.body))) (size_substituted pairs o.body)
    ∙ ap (shape_with o.pool (size_of_body o.body)) (weak_substituted pairs o.body))
    ∙ ap (λ ss. shape_of o ∷ ss) (shapes_substituted pairs os)

pub owners_substituted : (pairs : List TransformPair) (os : List Object)
    → map (λ (o : Object). o.pool) (map (object_substituted pairs) os) ≡ map (λ (o : Object). o.pool) os
owners_substituted pairs [] = refl
owners_substituted pairs (o ∷ os) = ap (λ ns. o.pool ∷ ns) (owners_substituted pairs os)

-- ---- what passes a test

-- an object that is replaced, or stays
new_passes : (test : ℕ → Bool) (pairs : List TransformPair) (id : ℕ) → All test (flat_map ids_of_pair pairs) → test id ≡ true
    → test (new_for pairs id) ≡ true
new_passes test [] id h k = k
new_passes test (p ∷ ps) id h k =
    let first = and_parts (test p.old) (test p.new && list_all test (flat_map ids_of_pair ps)) h in
    let second = and_parts (test p.new) (list_all test (flat_map ids_of_pair ps)) first.1 in
    elim (p.old == id) as (λ b. test (if b then p.new else new_for ps id) ≡ true) [
      | true ↦ second.0
      | false ↦ new_passes test ps id second.1 k
    ]

-- some of the pairs
pub some_pairs : (test : ℕ → Bool) (keep : TransformPair → Bool) (pairs : List TransformPair) → All test (flat_map ids_of_pair pairs)
    → All test (flat_map ids_of_pair (filter keep pairs))
some_pairs test keep [] h = refl
some_pairs test keep (p ∷ ps) h =
    let first = and_parts (test p.old) (test p.new && list_all test (flat_map ids_of_pair ps)) h in
    let second = and_parts (test p.new) (list_all test (flat_map ids_of_pair ps)) first.1 in
    let rest = some_pairs test keep ps second.1 in
    elim (keep p) as (λ b. All test (flat_map ids_of_pair (if b then p ∷ filter keep ps else filter keep ps))) [
      | true ↦ and_from (test p.old) (test p.new && list_all test (flat_map ids_of_pair (filter keep ps))) first.0
          (and_from (test p.new) (list_all test (flat_map ids_of_pair (filter keep ps))) second.0 rest)
      | false ↦ rest
    ]

pub pairs_of_pass : (test : ℕ → Bool) (s : ArenaState) (transform : ℕ) → All test (ids_in_pairs s)
    → All test (flat_map ids_of_pair (pairs_of s transform))
pairs_of_pass test Unclamped transform h = refl
pairs_of_pass test Clamped transform h = refl
pairs_of_pass test (Parked pairs) transform h = some_pairs test (λ p. p.transform == transform) pairs h

pub others_pass : (test : ℕ → Bool) (s : ArenaState) (transform : ℕ) → All test (ids_in_pairs s)
    → All test (ids_in_pairs (state_without_pairs s transform))
others_pass test Unclamped transform h = refl
others_pass test Clamped transform h = refl
others_pass test (Parked pairs) transform h = some_pairs test (λ p. not (p.transform == transform)) pairs h

module _ (test : ℕ → Bool) (pairs : List TransformPair) (passes : All test (flat_map ids_of_pair pairs)) where
  entries_pass : (xs : List (Option ℕ)) → All test (entries xs) → All test (entries (map (target_substituted pairs) xs))
  entries_pass [] h = refl
  entries_pass (None ∷ xs) h = entries_pass xs h
  entries_pass (Some id ∷ xs) h =
      let parts = and_parts (test id) (list_all test (entries xs)) h in
      and_from (test (new_for pairs id)) (list_all test (entries (map (target_substituted pairs) xs)))
      (new_passes test pairs id passes parts.0) (entries_pass xs parts.1)

  pub tables_pass : (ts : List (Option Slots)) → All test (flat_map slots_of ts)
      → All test (flat_map slots_of (map (slots_substituted pairs) ts))
  tables_pass [] h = refl
  tables_pass (None ∷ ts) h = tables_pass ts h
  tables_pass (Some slots ∷ ts) h =
      let parts = all-parts test (entries slots) (flat_map slots_of ts) h in
      all-append test (entries (map (target_substituted pairs) slots)) (flat_map slots_of (map (slots_substituted pairs) ts))
      (entries_pass slots parts.0) (tables_pass ts parts.1)

  pub targets_pass : (cells : List Cell) → All test (targets_of_cells cells)
      → All test (targets_of_cells (map (cell_substituted pairs) cells))
  targets_pass [] h = refl
  targets_pass (HeadCell ∷ cells) h = targets_pass cells h
  targets_pass (NumberCell number ∷ cells) h = targets_pass cells h
  targets_pass (ReferenceCell None tag ∷ cells) h = targets_pass cells h
  targets_pass (ReferenceCell (Some id) tag ∷ cells) h =
      let parts = and_parts (test id) (list_all test (targets_of_cells cells)) h in
      and_from (test (new_for pairs id)) (list_all test (targets_of_cells (map (cell_substituted pairs) cells)))
      (new_passes test pairs id passes parts.0) (targets_pass cells parts.1)

  pub body_targets_pass : (b : Body) → All test (targets_of_body b) → All test (targets_of_body (body_substituted pairs b))
  body_targets_pass (Automatic head cells is_weak) h = targets_pass cells h
  body_targets_pass (Manual words) h = refl

-- ---- cells

shape_kept : (pairs : List TransformPair) (like c : Cell) → is_shaped like c ≡ true → is_shaped like (cell_substituted pairs c) ≡ true
shape_kept pairs HeadCell HeadCell h = h
shape_kept pairs HeadCell (NumberCell number) h = h
shape_kept pairs HeadCell (ReferenceCell target tag) h = absurd (false≢true h)
shape_kept pairs (NumberCell number) HeadCell h = h
shape_kept pairs (NumberCell number) (NumberCell other) h = h
shape_kept pairs (NumberCell number) (ReferenceCell target tag) h = absurd (false≢true h)
shape_kept pairs (ReferenceCell target tag) HeadCell h = h
shape_kept pairs (ReferenceCell target tag) (NumberCell number) h = h
shape_kept pairs (ReferenceCell target tag) (ReferenceCell other its_tag) h = h

shapes_kept : (pairs : List TransformPair) (likes cells : List Cell) → are_shaped likes cells ≡ true
    → are_shaped likes (map (cell_substituted pairs) cells) ≡ true
shapes_kept pairs [] [] h = refl
shapes_kept pairs [] (c ∷ cs) h = absurd (false≢true h)
shapes_kept pairs (like ∷ likes) [] h = absurd (false≢true h)
shapes_kept pairs (like ∷ likes) (c ∷ cs) h =
    let parts = and_parts (is_shaped like c) (are_shaped likes cs) h in
    and_from (is_shaped like (cell_substituted pairs c)) (are_shaped likes (map (cell_substituted pairs) cs))
    (shape_kept pairs like c parts.0) (shapes_kept pairs likes cs parts.1)

-- ---- the graph

module _ (v : World) (s : IsSoundGraph v) (pairs : List TransformPair) (passes : All (auto v) (flat_map ids_of_pair pairs)) where
  right_cells : (p : Pool) (head : ℕ) (cells : List Cell) → are_right_cells v p head cells ≡ true
      → are_right_cells v p head (map (cell_substituted pairs) cells) ≡ true
  right_cells p head cells h =
      let outer = and_parts (takes_head v p head
      && are_shaped (new_cells (v.formats p.format) head) cells)
      (list_all (auto v) (targets_of_cells cells)) h in
      let inner = and_parts (takes_head v p head)
      (are_shaped (new_cells (v.formats p.format) head) cells) outer.0 in
      and_from (takes_head v p head
      && are_shaped (new_cells (v.formats p.format) head) (map (cell_substituted pairs) cells))
      (list_all (auto v) (targets_of_cells (map (cell_substituted pairs) cells)))
      (and_from (takes_head v p head)
      (are_shaped (new_cells (v.formats p.format) head) (map (cell_substituted pairs) cells)) inner.0
      (shapes_kept pairs (new_cells (v.formats p.format) head) cells inner.1))
      (targets_pass (auto v) pairs passes cells outer.1)

  right_body : (p : Pool) (b : Body) → is_right_body v p b ≡ true → is_right_body v p (body_substituted pairs b) ≡ true
  right_body p (Manual words) h = h
  right_body p (Automatic head cells is_weak) h =
      let outer = and_parts (is_automatic_kind p.kind && are_right_cells v p head cells)
      (not is_weak || is_weak_kind p.kind) h in
      let inner = and_parts (is_automatic_kind p.kind) (are_right_cells v p head cells) outer.0 in
      and_from (is_automatic_kind p.kind && are_right_cells v p head (map (cell_substituted pairs) cells))
      (not is_weak || is_weak_kind p.kind)
      (and_from (is_automatic_kind p.kind) (are_right_cells v p head (map (cell_substituted pairs) cells)) inner.0
      (right_cells p head cells inner.1)) outer.1

  right_object : (o : Object) → is_right_object v o ≡ true → is_right_object v (object_substituted pairs o) ≡ true
  right_object o h = of_pool (pool_at v o.pool) h
    where
      of_pool : (x : Option Pool) → option_map_or (λ p. is_right_body v p o.body) x false ≡ true
          → option_map_or (λ p. is_right_body v p (body_substituted pairs o.body)) x false ≡ true
      of_pool None k = absurd (false≢true k)
      of_pool (Some p) k = right_body p o.body k

  abbrev left : World
  left = with_graph v (graph_substituted v.graph pairs)

  there : (id : ℕ) → object_at left.graph id ≡ option_map (object_substituted pairs) (object_at v.graph id)
  there id = slice_get-map (object_substituted pairs) v.graph.objects id

  grows : Grows v left
  grows = record {
    formats = refl;
    pools = λ n p e. e;
    objects = λ id o e. (
      object_substituted pairs o,
      there id ∙ ap (option_map (object_substituted pairs)) e,
      record { pool = refl; size = size_substituted pairs o.body; kind = kind_substituted pairs o.body },
    );
  }

  -- an object of it was an object before
  was : (id : ℕ) (o : Object) (x : Option Object) → object_at v.graph id ≡ x → option_map (object_substituted pairs) x ≡ Some o
      → is_right_object left o ≡ true
  was id o None e f = absurd (none-some o f)
  was id o (Some x) e f =
      right_object_kept v left grows o
      (subst (λ (y : Object). is_right_object v y ≡ true) (same_Some (object_substituted pairs x) o f)
      (right_object x (s.objects id x e)))

  pub substituted_sound : IsSoundGraph left
  substituted_sound =
      edited v left grows s (record {
        live = λ id h. h;
        objects = λ id o h. inr (was id o (object_at v.graph id) refl (sym (there id) ∙ h));
        reservations = λ n p r h k. inl (s.reservations n p r h k);
        points = λ n p h. inl (s.points n p h);
        slots = inr (all-weaker (auto v) (auto left)
            (auto_kept v left grows)
            (flat_map slots_of (map (slots_substituted pairs) v.graph.tables))
            (tables_pass (auto v) pairs passes v.graph.tables s.slots));
        words = inl refl;
        blocks = inl refl;
        registered = inl refl;
        messages = inl refl;
      })
