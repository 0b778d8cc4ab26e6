-- A reserve: the segment that it takes for itself, and its reservation.
use Rattle.std.proofs.Common.{◌≡◌, ◌∙◌, ℕ, zero, suc, Bool, true, false, refl, sym, ap, List, [], ◌∷◌, ◌++◌, Option, Some, None, subst, inl, inr}
use Rattle.std.proofs.lemmas.Option.{none-some, same_Some}
use Rattle.std.specs.Prelude.{Ok, Err, slice_get, slice_set, is_some, not, if◌then◌else◌, option_and_then}
use Rattle.std.specs.List.{list_any}
use Rattle.std.specs.Option.{option_map_or}
use Rattle.mps_base.specs.Run.{Run}
use Rattle.mps_base.specs.Segment.{Segment, with_segment, words_of_segment}
use Rattle.mps_base.specs.declared.moves.Move.{Move}
use Rattle.mps_base.specs.declared.moves.Move.TheVariants as moves
use Rattle.mps_base.specs.declared.names.Name.{Name}
use Rattle.mps_base.specs.declared.refusal.Refusal.TheVariants as refusal
use Rattle.mps_model.specs.Graph.{Graph, Point, Reservation, contains, entry_at, thing_in, targets_of_cells, new_cells, ids_in_holds, ids_in_reservations, ids_in_slots}
use Rattle.mps_model.specs.World.{World, PointMemory, Pool, extent_of_reservation, reserved_extents, is_copying_pool, pool_at}
use Rattle.mps_model.specs.Checked.{Checked, Numbered, ◌>>=◌, ◌>>◌, required, refuse_when, point_named, numbered, as_point}
use Rattle.mps_model.specs.Allocating.{Reserving, check_reserve, takes_head, layout_of}
use Rattle.mps_model.specs.Effect.{holding, segment_of_move}
use Rattle.mps_model.specs.History.{rank_of_point, with_buffer, after_own_segment, asking}
use Rattle.mps_abstract.specs.Collecting.{Collecting, Running}
use Rattle.mps_abstract.specs.ClientLaws.{AreApartFrom}
use Rattle.mps_abstract.proofs.Calls.ClientCells.{no_targets_yet}
use Rattle.mps_abstract.proofs.Calls.ClientCovered.{extent_at_point}
use Rattle.mps_abstract.proofs.Calls.ClientBeside.{held_so, in_reservations, same_Ok, not_Ok}
use Rattle.mps_abstract.proofs.Calls.ClientPoints.{points_keep}
use Rattle.mps_abstract.proofs.Calls.ClientMaking.{segments_keep, among_with}

-- ---- words at hand don't cover anything

same_at_point : (o : Option Point) (m : PointMemory) (words : Run) → extent_at_point o (record m { buffer = words }) ≡ extent_at_point o m
same_at_point None m words = refl
same_at_point (Some p) m words = of_reservation p.reservation
  where
    of_reservation : (r : Option Reservation) → extent_of_reservation r (record m { buffer = words }) ≡ extent_of_reservation r m
    of_reservation None = refl
    of_reservation (Some r) = refl

reserved_first : (o : Option Point) (m : PointMemory) (ps : List (Option Point)) (ms : List PointMemory)
    → reserved_extents (o ∷ ps) (m ∷ ms) ≡ extent_at_point o m ++ reserved_extents ps ms
reserved_first None m ps ms = refl
reserved_first (Some p) m ps ms = refl

buffer_same : (ps : List (Option Point)) (ms : List PointMemory) (n : ℕ) (m : PointMemory) (words : Run) → slice_get ms n ≡ Some m
    → reserved_extents ps (slice_set ms n (record m { buffer = words })) ≡ reserved_extents ps ms
buffer_same [] ms n m words e = refl
buffer_same (o ∷ ps) [] n m words e = absurd (none-some m e)
buffer_same (o ∷ ps) (k ∷ ms) zero m words e =
    reserved_first o (record m { buffer = words }) ps ms
    ∙ (ap (λ es. es ++ reserved_extents ps ms) (same_at_point o m words ∙ ap (extent_at_point o) (sym (same_Some k m e)))
    ∙ sym (reserved_first o k ps ms))
buffer_same (o ∷ ps) (k ∷ ms) (suc n) m words e =
    reserved_first o k ps (slice_set ms n (record m { buffer = words }))
    ∙ (ap (λ es. extent_at_point o k ++ es) (buffer_same ps ms n m words e) ∙ sym (reserved_first o k ps ms))

with_buffer_same : (ps : List (Option Point)) (ms : List PointMemory) (n : ℕ) (words : Run)
    → reserved_extents ps (with_buffer ms n words) ≡ reserved_extents ps ms
with_buffer_same ps ms n words = of_memory (slice_get ms n) refl
  where
    of_memory : (o : Option PointMemory) → slice_get ms n ≡ o
        → reserved_extents ps (option_map_or (λ (m : PointMemory). slice_set ms n (record m { buffer = words })) o ms) ≡ reserved_extents
        ps ms
    of_memory None e = refl
    of_memory (Some m) e = buffer_same ps ms n m words e

-- ---- the own segment of a reserve

-- a world in which one more segment may be held, and at hand at a point
pub data MayOwn (w : World) : World → Type 0 where
  owns_nothing : MayOwn w w
  owns_segment : (s : Segment) (memories : List PointMemory)
      → reserved_extents w.graph.points memories ≡ reserved_extents w.graph.points w.point_memories
      → MayOwn w (record w { segments = with_segment s w.segments; point_memories = memories })

segment_owned : (w : World) (s : Segment) (n : ℕ) (b : Bool)
    → MayOwn w (if b then record (holding w (record s { rank = rank_of_point w n })) {
      point_memories = with_buffer w.point_memories n
          (words_of_segment s);
    }
    else holding w (record s { rank = rank_of_point w n }))
segment_owned w s n true =
    owns_segment (record s { rank = rank_of_point w n }) (with_buffer w.point_memories n (words_of_segment s))
    (with_buffer_same w.graph.points w.point_memories n (words_of_segment s))
segment_owned w s n false = owns_segment (record s { rank = rank_of_point w n }) w.point_memories refl

move_owned : (w : World) (m : Move) (ms : List Move) (point : Option ℕ) → MayOwn w (after_own_segment w (m ∷ ms) point)
move_owned w (moves.Seg base grains pool generation) ms None = owns_nothing
move_owned w (moves.Seg base grains pool generation) ms (Some n) =
    segment_owned w (segment_of_move base.0 grains pool generation) n (is_copying_pool w pool)
move_owned w (moves.Unseg base) ms point = owns_nothing
move_owned w (moves.Flip zones chain generation) ms point = owns_nothing
move_owned w moves.End ms point = owns_nothing
move_owned w (moves.Moved from to) ms point = owns_nothing
move_owned w (moves.Stay at) ms point = owns_nothing
move_owned w (moves.Splat holder cell) ms point = owns_nothing
move_owned w (moves.Post at) ms point = owns_nothing
move_owned w (moves.Commit at words pool) ms point = owns_nothing
move_owned w (moves.Alloc at words pool) ms point = owns_nothing
move_owned w (moves.Free at) ms point = owns_nothing

pub own_segment_owned : (w : World) (ms : List Move) (point : Option ℕ) → MayOwn w (after_own_segment w ms point)
own_segment_owned w [] point = owns_nothing
own_segment_owned w (m ∷ ms) point = move_owned w m ms point

-- also where units were asked
pub owned_asking : (units : Option ℕ) (w v : World) → MayOwn w v → MayOwn (asking units w) (asking units v)
owned_asking None w v m = m
owned_asking (Some n) w v owns_nothing = owns_nothing
owned_asking (Some n) w v (owns_segment s memories same) = owns_segment s memories same

pub owned_graph : (w v : World) → MayOwn w v → v.graph ≡ w.graph
owned_graph w v owns_nothing = refl
owned_graph w v (owns_segment s memories same) = refl

pub owned_keeps : (x : Collecting) → Running x → (v : World) → MayOwn x.world v → AreApartFrom 1 v.segments
    → Running (record x { world = v })
owned_keeps x run v owns_nothing in_order = run
owned_keeps x run v (owns_segment s memories same) in_order =
    let held = record x { world = record x.world { segments = with_segment s x.world.segments } } in
    points_keep held (segments_keep x run (with_segment s x.world.segments) x.world.tails in_order
    (λ t h is. among_with s t x.world.segments h))
    x.world.graph.points memories x.world.graph.names
    (λ id h. inl (held_so (ids_in_slots x.world.graph) (ids_in_holds x.world.graph)
    x.world.graph.messages (ids_in_reservations x.world.graph) id (in_reservations h)))
    (λ p h. inr (ap (list_any p) same ∙ h))

-- ---- what a reserve checks

pub record IsChecked (w : World) (name : Name) (r : Reserving) : Type 0 where
  pub point : point_named w name ≡ Ok r.point
  pub closed : is_some r.point.value.reservation ≡ false
  pub nothing : (t : ℕ) → contains (targets_of_cells r.cells) t ≡ false

module _ (w : World) (name : Name) (head : ℕ) (r : Reserving) where
  abbrev reserving : Numbered Point → Pool → Reserving
  reserving point pool = record { point = point; cells = new_cells (layout_of w pool) head }

  checked_open : (point : Numbered Point) (pool : Pool) (b : Bool) → point_named w name ≡ Ok point → is_some point.value.reservation ≡ b
      → (refuse_when b refusal.Open >> Ok (reserving point pool)) ≡ Ok r → IsChecked w name r
  checked_open point pool true e closed h = absurd (not_Ok refusal.Open r h)
  checked_open point pool false e closed h = subst (λ (q : Reserving). IsChecked w name q) (same_Ok (reserving point pool) r h) (record {
    point = e;
    closed = closed;
    nothing = λ t. no_targets_yet w pool.format head t;
  })

  checked_head : (point : Numbered Point) (pool : Pool) (b : Bool) → point_named w name ≡ Ok point
      → (refuse_when b refusal.BadHead >> (refuse_when (is_some point.value.reservation) refusal.Open >> Ok (reserving point pool))) ≡ Ok r
      → IsChecked w name r
  checked_head point pool true e h = absurd (not_Ok refusal.BadHead r h)
  checked_head point pool false e h = checked_open point pool (is_some point.value.reservation) e refl h

  checked_pool : (point : Numbered Point) (o : Option Pool) → point_named w name ≡ Ok point
      → (required o refusal.BadName >>= (λ pool. refuse_when (not (takes_head w pool head)) refusal.BadHead
      >> (refuse_when (is_some point.value.reservation) refusal.Open >> Ok (reserving point pool)))) ≡ Ok r → IsChecked w name r
  checked_pool point None e h = absurd (not_Ok refusal.BadName r h)
  checked_pool point (Some pool) e h = checked_head point pool (not (takes_head w pool head)) e h

  pub is_checked : check_reserve w name head ≡ Ok r → IsChecked w name r
  is_checked h = of_point (point_named w name) refl h
    where
      of_point : (m : Checked (Numbered Point)) → point_named w name ≡ m
          → (m >>= (λ point. required (pool_at w point.value.pool) refusal.BadName >>=
          (λ pool. refuse_when (not (takes_head w pool head)) refusal.BadHead
          >> (refuse_when (is_some point.value.reservation) refusal.Open >> Ok (reserving point pool))))) ≡ Ok r → IsChecked w name r
      of_point (Err why) e g = absurd (not_Ok why r g)
      of_point (Ok point) e g = checked_pool point (pool_at w point.value.pool) e g

-- a point is found by the graph alone
abbrev pub point_in : Graph → Name → Checked (Numbered Point)
point_in g name = required (option_and_then as_point (thing_in g.names name)) refusal.BadName >>=
    (λ number. numbered number (entry_at g.points number))
