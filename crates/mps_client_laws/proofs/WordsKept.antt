-- What has words alone keeps them: cells, objects, points and areas after a write of one word, and a graph after moves.
use Rattle.std.proofs.Common.{◌≡◌, ℕ, zero, suc, Bool, true, false, refl, subst, List, [], ◌∷◌, length, map, Option, Some, None, Ok, Err}
use Rattle.std.proofs.lemmas.Bool.{and_parts, and_from}
use Rattle.std.specs.Prelude.{◌+◌, ◌-◌, if◌then◌else◌, is_some, not, option_map, slice_get, slice_set}
use Rattle.std.specs.List.{list_all}
use Rattle.std.specs.Option.{option_map_or}
use Rattle.mps_base.specs.Segment.{Segment, words_of_segment}
use Rattle.mps_base.specs.declared.moves.Move.{Move}
use Rattle.mps_base.specs.declared.moves.Move.TheVariants as moves
use Rattle.mps_base.specs.declared.names.Name.{Name}
use Rattle.mps_base.specs.declared.refusal.Refusal.TheVariants as refusal
use Rattle.mps_model.specs.Layout.{Layout}
use Rattle.mps_model.specs.declared.call.Call.{Call}
use Rattle.mps_model.specs.declared.call.Call.TheVariants as call
use Rattle.mps_model.specs.Graph.{Automatic, Body, Cell, Graph, HeadCell, Manual, NumberCell, Object, Point, ReferenceCell, Reservation, body_with_cells, dependent_in, graph_with_cells, is_automatic, new_cells, new_cells_from, object_with_cells, retargeted, tagged, with_tag_cell, with_target_cell}
use Rattle.mps_model.specs.World.{Pool, TransformPair, World, id_at, is_copying_pool, object_is, pool_at, with_tail}
use Rattle.mps_model.specs.Checked.{Checked, Numbered, ◌>>=◌, ◌>>◌, as_point, number_named, point_named, refuse_when, required}
use Rattle.mps_model.specs.Allocating.{Reserving, body_with_word, check_reserve, graph_with_word, layout_of, takes_head}
use Rattle.mps_model.specs.Caches.{body_cleared, graph_cleared}
use Rattle.mps_model.specs.Transforms.{body_substituted, cell_substituted, object_substituted}
use Rattle.mps_model.specs.Effect.{after_free, after_moved, after_post, after_segment, after_splat, doomed, graph_nulled, holding, placing, reclaiming, segment_base_of, segment_of_move, where_one, with_collection, without_object, world_after_move, world_after_moves}
use Rattle.mps_model.specs.Policy.{units_asked}
use Rattle.mps_model.specs.History.{after_own_segment, asking, moved_world, moves_of_poll, own_segment}
use Rattle.mps_laws.proofs.OwnSegments.{own_segment_taken}
use Rattle.mps_laws.proofs.Sound.SoundGraph.{each-at, each-replicated, each-written}
use Rattle.mps_client_laws.specs.Numbers.{HasWords, HaveWords, has_word_cells, has_words, has_words_at_point, has_words_in_body, is_word, is_word_cell}

-- ---- cells

-- a change of cells after which those are words that were
abbrev pub KeepsCells : (List Cell → List Cell) → Type 0
KeepsCells change = (cells : List Cell) → list_all is_word_cell cells ≡ true → list_all is_word_cell (change cells) ≡ true

module _ (k : ℕ) (new : Cell → Cell) (keeps : (c : Cell) → is_word_cell c ≡ true → is_word_cell (new c) ≡ true) where
  new_keeps : KeepsCells (λ cells. option_map_or (λ c. slice_set cells k (new c)) (slice_get cells k) cells)
  new_keeps cells h = of_cell (slice_get cells k) refl
    where
      of_cell : (o : Option Cell) → slice_get cells k ≡ o
          → list_all is_word_cell (option_map_or (λ c. slice_set cells k (new c)) o cells) ≡ true
      of_cell None there = h
      of_cell (Some c) there = each-written is_word_cell cells k (new c) h (keeps c (each-at is_word_cell cells k c h there))

retargeted_word : (target : Option ℕ) (c : Cell) → is_word_cell c ≡ true → is_word_cell (retargeted c target) ≡ true
retargeted_word target HeadCell h = refl
retargeted_word target (NumberCell number) h = h
retargeted_word target (ReferenceCell old tag) h = refl

tagged_word : (tag : ℕ) (c : Cell) → is_word_cell c ≡ true → is_word_cell (tagged c tag) ≡ true
tagged_word tag HeadCell h = refl
tagged_word tag (NumberCell number) h = h
tagged_word tag (ReferenceCell target old) h = refl

pub target_keeps : (k : ℕ) (target : Option ℕ) → KeepsCells (λ cells. with_target_cell cells k target)
target_keeps k target = new_keeps k (λ c. retargeted c target) (retargeted_word target)

pub tag_keeps : (k tag : ℕ) → KeepsCells (λ cells. with_tag_cell cells k tag)
tag_keeps k tag = new_keeps k (λ c. tagged c tag) (tagged_word tag)

pub number_keeps : (k value : ℕ) → is_word value ≡ true → KeepsCells (λ cells. slice_set cells k (NumberCell value))
number_keeps k value is cells h = each-written is_word_cell cells k (NumberCell value) h is

substituted_word : (pairs : List TransformPair) (c : Cell) → is_word_cell c ≡ true → is_word_cell (cell_substituted pairs c) ≡ true
substituted_word pairs HeadCell h = refl
substituted_word pairs (NumberCell number) h = h
substituted_word pairs (ReferenceCell target tag) h = refl

substitution_keeps : (pairs : List TransformPair) → KeepsCells (map (cell_substituted pairs))
substitution_keeps pairs [] h = refl
substitution_keeps pairs (c ∷ cs) h =
    let parts = and_parts (is_word_cell c) (list_all is_word_cell cs) h in
    and_from (is_word_cell (cell_substituted pairs c)) (list_all is_word_cell (map (cell_substituted pairs) cs))
    (substituted_word pairs c parts.0) (substitution_keeps pairs cs parts.1)

-- the cells of a new block
new_are_words : (f : Layout) (head k count : ℕ) → list_all is_word_cell (new_cells_from f head k count) ≡ true
new_are_words f head k zero = refl
new_are_words f head k (suc count) =
    let rest = new_are_words f head (k + 1) count in
    elim (f.is_reference head k) as (λ b. list_all is_word_cell
    ((if b then ReferenceCell None 0 else NumberCell 0) ∷ new_cells_from f head (k + 1) count) ≡ true) [
      | true ↦ rest
      | false ↦ rest
    ]

-- and those that a `reserve` found
module _ (w : World) (name : Name) (head : ℕ) where
  abbrev made_of : Numbered Point → Pool → Reserving
  made_of p pool = record { point = p; cells = new_cells (layout_of w pool) head }

  of_checks : (p : Numbered Point) (pool : Pool) (b c : Bool) (r : Reserving)
      → (refuse_when b refusal.BadHead >> (refuse_when c refusal.Open >> Ok (made_of p pool))) ≡ Ok r
      → list_all is_word_cell r.cells ≡ true
  of_checks p pool true c r e = absurd cc
  of_checks p pool false true r e = absurd cc
  of_checks p pool false false r e =
      let same : made_of p pool ≡ r = cc in
      subst (λ (q : Reserving). list_all is_word_cell q.cells ≡ true) same
      (new_are_words (layout_of w pool) head 1 ((layout_of w pool).size head - 1))

  of_pool : (p : Numbered Point) (o : Option Pool) (r : Reserving)
      → (required o refusal.BadName >>= (λ pool. refuse_when (not (takes_head w pool head)) refusal.BadHead
      >> (refuse_when (is_some p.value.reservation) refusal.Open >> Ok (made_of p pool)))) ≡ Ok r
      → list_all is_word_cell r.cells ≡ true
  of_pool p None r e = absurd cc
  of_pool p (Some pool) r e = of_checks p pool (not (takes_head w pool head)) (is_some p.value.reservation) r e

  of_point : (x : Checked (Numbered Point)) (r : Reserving)
      → (x >>= (λ p. required (pool_at w p.value.pool) refusal.BadName >>=
      (λ pool. refuse_when (not (takes_head w pool head)) refusal.BadHead
      >> (refuse_when (is_some p.value.reservation) refusal.Open >> Ok (made_of p pool))))) ≡ Ok r
      → list_all is_word_cell r.cells ≡ true
  of_point (Err why) r e = absurd cc
  of_point (Ok p) r e = of_pool p (pool_at w p.value.pool) r e

  pub reserved_are_words : (r : Reserving) → check_reserve w name head ≡ Ok r → list_all is_word_cell r.cells ≡ true
  reserved_are_words r e = of_point (point_named w name) r e

-- ---- objects

-- cells with their head
pub with_head : (head : ℕ) (change : List Cell → List Cell) (cells : List Cell) → KeepsCells change → has_word_cells head cells ≡ true
    → has_word_cells head (change cells) ≡ true
with_head head change cells keeps h =
    let parts = and_parts (is_word head) (list_all is_word_cell cells) h in
    and_from (is_word head) (list_all is_word_cell (change cells)) parts.0 (keeps cells parts.1)

body_keeps : (change : List Cell → List Cell) → KeepsCells change → (b : Body) → has_words_in_body b ≡ true
    → has_words_in_body (body_with_cells b change) ≡ true
body_keeps change keeps (Automatic head cells is_weak) h = with_head head change cells keeps h
body_keeps change keeps (Manual words) h = h

body_word_keeps : (k value : ℕ) → is_word value ≡ true → (b : Body) → has_words_in_body b ≡ true
    → has_words_in_body (body_with_word b k value) ≡ true
body_word_keeps k value is (Automatic head cells is_weak) h = h
body_word_keeps k value is (Manual words) h = each-written is_word words k value h is

body_cleared_keeps : (b : Body) → has_words_in_body b ≡ true → has_words_in_body (body_cleared b) ≡ true
body_cleared_keeps (Automatic head cells is_weak) h = h
body_cleared_keeps (Manual words) h = each-replicated is_word (length words) 0 refl

body_substituted_keeps : (pairs : List TransformPair) (b : Body) → has_words_in_body b ≡ true
    → has_words_in_body (body_substituted pairs b) ≡ true
body_substituted_keeps pairs (Automatic head cells is_weak) h =
    with_head head (map (cell_substituted pairs)) cells (substitution_keeps pairs) h
body_substituted_keeps pairs (Manual words) h = h

-- one object of a list is changed
one_keeps : (os : List Object) (id : ℕ) (change : Object → Object)
    → ((o : Object) → has_words o ≡ true → has_words (change o) ≡ true) → list_all has_words os ≡ true
    → list_all has_words (option_map_or (λ o. slice_set os id (change o)) (slice_get os id) os) ≡ true
one_keeps os id change keeps h = of_object (slice_get os id) refl
  where
    of_object : (o : Option Object) → slice_get os id ≡ o
        → list_all has_words (option_map_or (λ x. slice_set os id (change x)) o os) ≡ true
    of_object None there = h
    of_object (Some o) there = each-written has_words os id (change o) h (keeps o (each-at has_words os id o h there))

module _ (g : Graph) (h : HasWords g) where
  pub cells_keep : (id : ℕ) (change : List Cell → List Cell) → KeepsCells change → HasWords (graph_with_cells g id change)
  cells_keep id change keeps = record {
    in_objects = one_keeps g.objects id (λ o. object_with_cells o change) (λ o. body_keeps change keeps o.body) h.in_objects;
    in_reservations = h.in_reservations;
    in_areas = h.in_areas;
  }

  pub word_keeps : (id k value : ℕ) → is_word value ≡ true → HasWords (graph_with_word g id k value)
  word_keeps id k value is = record {
    in_objects =
        one_keeps g.objects id (λ o. record o { body = body_with_word o.body k value }) (λ o. body_word_keeps k value is o.body)
        h.in_objects;
    in_reservations = h.in_reservations;
    in_areas = h.in_areas;
  }

  pub cleared_keeps : (id : ℕ) → HasWords (graph_cleared g id)
  cleared_keeps id = record {
    in_objects =
        one_keeps g.objects id (λ o. record o { body = body_cleared o.body }) (λ o. body_cleared_keeps o.body) h.in_objects;
    in_reservations = h.in_reservations;
    in_areas = h.in_areas;
  }

pub substituted_keep : (pairs : List TransformPair) (os : List Object) → list_all has_words os ≡ true
    → list_all has_words (map (object_substituted pairs) os) ≡ true
substituted_keep pairs [] h = refl
substituted_keep pairs (o ∷ os) h =
    let parts = and_parts (has_words o) (list_all has_words os) h in
    and_from (has_words (object_substituted pairs o)) (list_all has_words (map (object_substituted pairs) os))
    (body_substituted_keeps pairs o.body parts.0) (substituted_keep pairs os parts.1)

-- ---- moves

doomed_point : (p : Option Point) → has_words_at_point p ≡ true → has_words_at_point (doomed p) ≡ true
doomed_point None h = refl
doomed_point (Some p) h = of_reservation p.reservation h
  where
    of_reservation : (o : Option Reservation) → has_words_at_point (Some (record p { reservation = o })) ≡ true
        → has_words_at_point (Some (record p { reservation = option_map (λ (r : Reservation). record r { is_doomed = true }) o })) ≡ true
    of_reservation None h = refl
    of_reservation (Some r) h = h

doomed_keep : (ps : List (Option Point)) → list_all has_words_at_point ps ≡ true → list_all has_words_at_point (map doomed ps) ≡ true
doomed_keep [] h = refl
doomed_keep (p ∷ ps) h =
    let parts = and_parts (has_words_at_point p) (list_all has_words_at_point ps) h in
    and_from (has_words_at_point (doomed p)) (list_all has_words_at_point (map doomed ps)) (doomed_point p parts.0)
    (doomed_keep ps parts.1)

null_keeps : (g : Graph) (id cell : ℕ) → HasWords g → HasWords (graph_nulled g id cell)
null_keeps g id cell h = cells_keep g h id (λ cells. with_target_cell cells cell None) (target_keeps cell None)

splat_keeps : (w : World) (holder cell : ℕ) → HasWords w.graph → HasWords (after_splat w holder cell).graph
splat_keeps w holder cell h = of_dependent (dependent_in w.graph.dependents holder)
  where
    nulled : Graph
    nulled = graph_nulled w.graph holder cell

    of_dependent : (o : Option ℕ)
        → HaveWords (option_map_or (λ dependent. (graph_nulled nulled dependent cell).objects) o nulled.objects) w.graph.points
        w.graph.areas
    of_dependent None = null_keeps w.graph holder cell h
    of_dependent (Some dependent) = null_keeps nulled dependent cell (null_keeps w.graph holder cell h)

one_keeps_words : (w : World) (o : Option ℕ) (change : ℕ → World) → HasWords w.graph → ((id : ℕ) → HasWords (change id).graph)
    → HasWords (where_one w o change).graph
one_keeps_words w None change h each = h
one_keeps_words w (Some id) change h each = each id

free_keeps : (w : World) (id at : ℕ) → HasWords w.graph → HasWords (after_free w id at).graph
free_keeps w id at h =
    elim (object_is is_automatic w id) as (λ b. HasWords (if b then with_collection (without_object w id)
    (reclaiming (segment_base_of w at)) else without_object w id).graph) [
      | true ↦ h
      | false ↦ h
    ]

segment_keeps : (w : World) (s : Segment) → HasWords w.graph → HasWords (after_segment w s).graph
segment_keeps w s h =
    elim (is_copying_pool w s.pool) as (λ b. HasWords (if b then with_tail (holding w s) s.pool s.generation (words_of_segment s)
    else holding w s).graph) [
      | true ↦ h
      | false ↦ h
    ]

move_keeps : (w : World) (m : Move) → HasWords w.graph → HasWords (world_after_move w m).graph
move_keeps w (moves.Seg base grains pool generation) h = segment_keeps w (segment_of_move base.0 grains pool generation) h
move_keeps w (moves.Unseg base) h = h
move_keeps w (moves.Flip zones chain generation) h =
    record { in_objects = h.in_objects; in_reservations = doomed_keep w.graph.points h.in_reservations; in_areas = h.in_areas }
move_keeps w moves.End h = h
move_keeps w (moves.Moved from to) h = one_keeps_words w (id_at w from.0) (λ id. after_moved w id to.0) h (λ id. h)
move_keeps w (moves.Stay at) h = one_keeps_words w (id_at w at.0) (λ id. with_collection w (placing id)) h (λ id. h)
move_keeps w (moves.Splat holder cell) h =
    one_keeps_words w (id_at w holder.0) (λ id. after_splat w id cell) h (λ id. splat_keeps w id cell h)
move_keeps w (moves.Post at) h = one_keeps_words w (id_at w at.0) (after_post w) h (λ id. h)
move_keeps w (moves.Commit at words pool) h = h
move_keeps w (moves.Alloc at words pool) h = h
move_keeps w (moves.Free at) h = one_keeps_words w (id_at w at.0) (λ id. after_free w id at.0) h (λ id. free_keeps w id at.0 h)

moves_keep : (w : World) (ms : List Move) → HasWords w.graph → HasWords (world_after_moves w ms).graph
moves_keep w [] h = h
moves_keep w (m ∷ ms) h = moves_keep (world_after_move w m) ms (move_keeps w m h)

asked_keeps : (units : Option ℕ) (w : World) → HasWords w.graph → HasWords (asking units w).graph
asked_keeps None w h = h
asked_keeps (Some units) w h = h

pub moved_keeps_words : (w : World) (c : Call) (ms : List Move) → HasWords w.graph → HasWords (moved_world w c ms).graph
moved_keeps_words w (call.Reserve name head) ms h =
    let polled = world_after_moves w (moves_of_poll ms) in
    let kept = moves_keep w (moves_of_poll ms) h in
    asked_keeps (units_asked w (call.Reserve name head))
    (after_own_segment polled (own_segment ms) (number_named w name as_point))
    (own_segment_taken (λ u. HasWords u.graph) polled kept (λ s. kept) (λ s n r. kept) (own_segment ms) (number_named w name as_point))
moved_keeps_words w (call.Step units) ms h =
    asked_keeps (units_asked w (call.Step units)) (world_after_moves w ms) (moves_keep w ms h)
moved_keeps_words w _ ms h = moves_keep w ms h
