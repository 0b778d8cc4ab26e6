-- A manual block is freed by the client, and its segment given back where nothing is left in it.
use Rattle.std.proofs.Common.{◌≡◌, ◌∙◌, ℕ, Bool, true, false, refl, sym, ap, List, [], ◌∷◌, length, Option, Some, None, subst, inl, inr}
use Rattle.std.proofs.lemmas.Bool.{false≢true, true≢false, and_parts, or_cases, cases_Bool}
use Rattle.std.proofs.lemmas.Option.{same_Some}
use Rattle.std.specs.Prelude.{◌&&◌, ◌||◌, ◌==◌, not, if◌then◌else◌, option_map, Ok, Err, slice_get, IsTrue}
use Rattle.std.specs.List.{list_any, list_all, flat_map}
use Rattle.std.specs.Option.{option_map_or}
use Rattle.mps_base.specs.Address.{Id, Address, word_of, address_of_word}
use Rattle.mps_base.specs.Segment.{Segment, is_in_segment, without_segment}
use Rattle.mps_base.specs.declared.moves.Move.TheVariants as moves
use Rattle.mps_base.specs.declared.names.Slot.{Slot}
use Rattle.mps_model.specs.Allocating.{takes_head}
use Rattle.mps_model.specs.Answer.{Answer, is_refused}
use Rattle.mps_model.specs.Graph.{Object, Body, Automatic, Manual, Cell, Point, Reservation, contains, entries, entry_at, object_at, targets, targets_of, targets_of_body, targets_of_cells, targets_of_point, targets_of_reservation, is_automatic, size_of, ids_in_slots, ids_in_holds, ids_in_reservations, ids_in_blocks, ids_in_caches, ids_in_places, new_cells, without_first}
use Rattle.mps_model.specs.World.{World, Pool, PoolKind, Collected, OneSize, AnySize, Frames, PointMemory, extent, is_live, is_live_and, object_is, words_of, pool_at, pool_is, is_automatic_kind, is_any_size_kind, segment_at, segment_of, begins_in, lies_in, is_empty_segment, shown_words, is_copying_object, is_weak_kind, is_word_in}
use Rattle.mps_model.specs.Accessing.{address_or_null}
use Rattle.mps_model.specs.Effect.{after_free, after_unseg, giving_back, with_address, where_one, world_after_moves, reclaiming, segment_base_of, with_collection, without_object}
use Rattle.mps_model.specs.Flip.{at_address}
use Rattle.mps_model.specs.Checked.{Checked, Found, block_place_in, number_named, as_blocks}
use Rattle.mps_model.specs.History.{free_at, free_of, give_back_empty, moves_of_free, unless_refused}
use Rattle.mps_model.specs.WellFormed.{IsWellFormed, is_live_automatic, is_right_object, is_right_body, is_right_point, is_right_reservation, are_right_points, are_right_cells, is_right_at_hand, is_home, are_shaped}
use Rattle.mps_model.specs.Making.{is_weak_rank}
use Rattle.mps_model.proofs.Reaching.{list_all-contains}
use Rattle.mps_abstract.specs.Collecting.{Collecting, Running}
use Rattle.mps_abstract.proofs.Lists.{contains_append, contains_left}
use Rattle.mps_abstract.proofs.Addresses.{id_at-live}
use Rattle.mps_abstract.proofs.Joining.{from_some}
use Rattle.mps_abstract.specs.ClientLaws.{AreApartFrom}
use Rattle.mps_abstract.proofs.HeldSegments.{IsAmong, segments_ordered, over_among, held_among}
use Rattle.mps_abstract.proofs.RightObjects.{object_has_words, pool_kind}
use Rattle.mps_abstract.proofs.Homes.{lies_at}
use Rattle.mps_abstract.proofs.FlipActs.FlipLists.{holds_show}
use Rattle.mps_abstract.proofs.Calls.ClientLists.{among_all, among_entries}
use Rattle.mps_abstract.proofs.Calls.ClientBeside.{IsHeldIn, in_slots, in_holds, in_messages, in_reservations, held_where, found}
use Rattle.mps_abstract.proofs.Calls.ClientChange.{IsUsed, held_by_client, referred_to, is_registered, is_to_be_scanned}
use Rattle.mps_abstract.proofs.Calls.ClientThings.{list_all-at, aside_keeps}
use Rattle.mps_abstract.proofs.Calls.ClientMaking.{freed_keeps, segments_keep, among_without, find_among}

-- ---- what is used is automatic

cells_automatic : (w : World) (p : Pool) (head : ℕ) (cells : List Cell) (id : Id) → are_right_cells w p head cells ≡ true
    → contains (targets_of_cells cells) id ≡ true → object_is is_automatic w id ≡ true
cells_automatic w p head cells id right h = list_all-contains (object_is is_automatic w) (targets_of_cells cells) id
    (and_parts (takes_head w p head && are_shaped (new_cells (w.formats p.format) head) cells)
    (list_all (object_is is_automatic w) (targets_of_cells cells)) right).1 h

body_automatic : (w : World) (p : Pool) (b : Body) (id : Id) → is_right_body w p b ≡ true → contains (targets_of_body b) id ≡ true
    → object_is is_automatic w id ≡ true
body_automatic w p (Automatic head cells is_weak) id right h =
    let parts = and_parts (is_automatic_kind p.kind && are_right_cells w p head cells) (not is_weak || is_weak_kind p.kind) right in
    cells_automatic w p head cells id (and_parts (is_automatic_kind p.kind) (are_right_cells w p head cells) parts.0).1 h
body_automatic w p (Manual words) id right h = absurd (false≢true h)

object_automatic : (w : World) (o : Object) (id : Id) → is_right_object w o ≡ true → contains (targets_of o) id ≡ true
    → object_is is_automatic w id ≡ true
object_automatic w o id right h = of_pool (pool_at w o.pool) right
  where
    of_pool : (p : Option Pool) → option_map_or (λ p. is_right_body w p o.body) p false ≡ true → object_is is_automatic w id ≡ true
    of_pool None e = absurd (false≢true e)
    of_pool (Some p) e = body_automatic w p o.body id e h

target_automatic : (w : World) → IsWellFormed w → (from id : Id) → contains (targets w.graph from) id ≡ true
    → object_is is_automatic w id ≡ true
target_automatic w formed from id h = of_object (object_at w.graph from) refl h
  where
    of_object : (o : Option Object) → object_at w.graph from ≡ o → contains (option_map_or targets_of o []) id ≡ true
        → object_is is_automatic w id ≡ true
    of_object None e g = absurd (false≢true g)
    of_object (Some o) e g = object_automatic w o id (list_all-at (is_right_object w) w.graph.objects from o formed.objects e) g

reservation_automatic : (w : World) (p : Point) (m : PointMemory) (r : Reservation) (id : Id) → is_right_reservation w p m r ≡ true
    → contains (targets_of_reservation r) id ≡ true → object_is is_automatic w id ≡ true
reservation_automatic w p m r id right h =
    let cells = (and_parts (option_map_or (λ of. are_right_cells w of r.head r.cells) (pool_at w p.pool) false)
    (r.is_doomed || is_home w p.pool (is_weak_rank p.rank) (extent m.reserved_at (length r.cells))) right).0 in
    of_pool (pool_at w p.pool) cells (of_doomed r.is_doomed h)
  where
    of_doomed : (b : Bool) → contains (if b then [] else targets_of_cells r.cells) id ≡ true → contains (targets_of_cells r.cells) id ≡ true
    of_doomed true g = absurd (false≢true g)
    of_doomed false g = g

    of_pool : (o : Option Pool) → option_map_or (λ of. are_right_cells w of r.head r.cells) o false ≡ true
        → contains (targets_of_cells r.cells) id ≡ true
        → object_is is_automatic w id ≡ true
    of_pool None e g = absurd (false≢true e)
    of_pool (Some of) e g = cells_automatic w of r.head r.cells id e g

point_automatic : (w : World) (p : Point) (m : PointMemory) (id : Id) → is_right_point w p m ≡ true
    → contains (option_map_or targets_of_reservation p.reservation []) id ≡ true → object_is is_automatic w id ≡ true
point_automatic w p m id right h =
    of_reservation p.reservation (and_parts (option_map_or (is_right_reservation w p m) p.reservation true)
    (is_right_at_hand w p.pool m.buffer) right).0 h
  where
    of_reservation : (o : Option Reservation) → option_map_or (is_right_reservation w p m) o true ≡ true
        → contains (option_map_or targets_of_reservation o []) id ≡ true → object_is is_automatic w id ≡ true
    of_reservation None e g = absurd (false≢true g)
    of_reservation (Some r) e g = reservation_automatic w p m r id e g

points_automatic : (w : World) (ps : List (Option Point)) (ms : List PointMemory) (id : Id) → are_right_points w ps ms ≡ true
    → contains (flat_map targets_of_point ps) id ≡ true → object_is is_automatic w id ≡ true
points_automatic w [] ms id right h = absurd (false≢true h)
points_automatic w (None ∷ ps) [] id right h = absurd (false≢true right)
points_automatic w (Some p ∷ ps) [] id right h = absurd (false≢true right)
points_automatic w (None ∷ ps) (m ∷ ms) id right h = points_automatic w ps ms id right h
points_automatic w (Some p ∷ ps) (m ∷ ms) id right h =
    let parts = and_parts (is_right_point w p m) (are_right_points w ps ms) right in
    elim (contains_append (option_map_or targets_of_reservation p.reservation []) (flat_map targets_of_point ps) id h) [
      | inl here ↦ point_automatic w p m id parts.0 here
      | inr later ↦ points_automatic w ps ms id parts.1 later
    ]

-- a word lies only in automatic objects
any_automatic : (w : World) (words : List ℕ) (id : Id) → list_any (λ word. lies_in w word id) words ≡ true
    → object_is is_automatic w id ≡ true
any_automatic w [] id h = absurd (false≢true h)
any_automatic w (word ∷ words) id h = elim (or_cases (lies_in w word id) (list_any (λ word. lies_in w word id) words) h) [
  | inl e ↦ (and_parts (object_is is_automatic w id) (is_live_and (λ at. is_word_in
      (is_copying_object w id) at (words_of w id) word) w id) e).0
  | inr e ↦ any_automatic w words id e
]

is_automatic_part : (w : World) (ids : List Id) (id : Id) → list_all (is_live_automatic w) ids ≡ true → contains ids id ≡ true
    → object_is is_automatic w id ≡ true
is_automatic_part w ids id all h =
    (and_parts (is_live w id) (object_is is_automatic w id) (list_all-contains (is_live_automatic w) ids id all h)).1

pub used_automatic : (x : Collecting) → Running x → IsWellFormed x.world → (id : Id) → IsUsed x id
    → object_is is_automatic x.world id ≡ true
used_automatic x run formed id (held_by_client h) =
    of_part (held_where (ids_in_slots x.world.graph) (ids_in_holds x.world.graph) x.world.graph.messages
    (ids_in_reservations x.world.graph) id h)
  where
    of_part : IsHeldIn (ids_in_slots x.world.graph) (ids_in_holds x.world.graph) x.world.graph.messages
        (ids_in_reservations x.world.graph) id
        → object_is is_automatic x.world id ≡ true
    of_part (in_slots e) = list_all-contains (object_is is_automatic x.world) (ids_in_slots x.world.graph) id formed.slots e
    of_part (in_holds e) = any_automatic x.world (flat_map (shown_words x.world) x.world.graph.areas) id
        (holds_show x.world x.world.graph.areas id formed.words e)
    of_part (in_messages e) = is_automatic_part x.world x.world.graph.messages id formed.messages e
    of_part (in_reservations e) = points_automatic x.world x.world.graph.points x.world.point_memories id formed.points e
used_automatic x run formed id (referred_to from h) = target_automatic x.world formed from id h
used_automatic x run formed id (is_registered h) = is_automatic_part x.world x.world.graph.registered id formed.registered h
used_automatic x run formed id (is_to_be_scanned h) = run.grey.grey_automatic id h

-- ---- a manual object lies in a segment of a manual pool

pub manual_is : (w : World) (id : Id) → object_is (λ o. not (is_automatic o)) w id ≡ true → object_is is_automatic w id ≡ false
manual_is w id h = of_object (object_at w.graph id) h
  where
    of_automatic : (b : Bool) → not b ≡ true → b ≡ false
    of_automatic true g = absurd (false≢true g)
    of_automatic false g = refl

    of_object : (o : Option Object) → option_map_or (λ o. not (is_automatic o)) o false ≡ true → option_map_or is_automatic o false ≡ false
    of_object None g = absurd (false≢true g)
    of_object (Some o) g = of_automatic (is_automatic o) g

module _ (x : Collecting) (run : Running x) (formed : IsWellFormed x.world) (id : Id)
    (manual : object_is is_automatic x.world id ≡ false) where
  abbrev w : World
  w = x.world

  pub elsewhere : (base : Address) (s : Segment) (o : Object) (at : Address) → contains x.running.condemned_segments base ≡ true
      → segment_at w base ≡ Some s → object_at w.graph id ≡ Some o → entry_at w.addresses id ≡ Some at
      → begins_in s (extent at (size_of o)) ≡ true → ⊥
  elsewhere base s o at is e there lying begins =
      let right = list_all-at (is_right_object w) w.graph.objects id o formed.objects there in
      let no_pool = pool_kind w o right ∙ (sym (ap (λ q. option_map_or is_automatic q false) there) ∙ manual) in
      let l = lies_at w formed id o at there lying (object_has_words w o right) in
      let in_order = segments_ordered w formed in
      let among = find_among (λ t. t.base == base) w.segments s e in
      let same = same_Some s l.segment (sym (over_among 1 s w.segments (address_of_word (word_of at)) in_order among.0 begins)
      ∙ over_among 1 l.segment w.segments (address_of_word (word_of at)) in_order l.among l.word_inside) in
      let automatic = from_some (λ (t : Segment). IsTrue (pool_is is_automatic_kind w t.pool)) (segment_at w base) s e
      (run.condemned.segments base is) in
      true≢false (sym automatic ∙ (ap (λ (t : Segment). pool_is is_automatic_kind w t.pool) same
      ∙ (ap (pool_is is_automatic_kind w) l.of_pool ∙ no_pool)))

  pub manual_freed_keeps : Running (record x { world = with_address w id None })
  manual_freed_keeps = freed_keeps x run id (λ used. true≢false (sym (used_automatic x run formed id used) ∙ manual)) elsewhere

-- ---- its segment may be given back

exclusive : (kind : PoolKind) → is_any_size_kind kind ≡ true → is_automatic_kind kind ≡ true → ⊥
exclusive (Collected kind) any automatic = false≢true any
exclusive (OneSize words) any automatic = false≢true any
exclusive AnySize any automatic = false≢true automatic
exclusive Frames any automatic = false≢true automatic

pub pool_exclusive : (w : World) (pool : ℕ) → pool_is is_any_size_kind w pool ≡ true → pool_is is_automatic_kind w pool ≡ true → ⊥
pool_exclusive w pool any automatic = of_pool (pool_at w pool) any automatic
  where
    of_pool : (o : Option Pool) → option_map_or (λ (p : Pool). is_any_size_kind p.kind) o false ≡ true
        → option_map_or (λ (p : Pool). is_automatic_kind p.kind) o false ≡ true → ⊥
    of_pool None a b = false≢true a
    of_pool (Some p) a b = exclusive p.kind a b

module _ (x : Collecting) (run : Running x) (in_order : AreApartFrom 1 x.world.segments) where
  not_condemned : (s : Segment) → IsAmong s x.world.segments → pool_is is_any_size_kind x.world s.pool ≡ true
      → contains x.running.condemned_segments s.base ≡ false
  not_condemned s among any = elim (cases_Bool (contains x.running.condemned_segments s.base)) [
    | inl is ↦ absurd (pool_exclusive x.world s.pool any (from_some (λ (t : Segment). IsTrue (pool_is is_automatic_kind x.world t.pool))
        (segment_at x.world s.base) s (held_among 1 s x.world.segments in_order among) (run.condemned.segments s.base is)))
    | inr isnt ↦ isnt
  ]

  -- the world without a segment of a manual pool
  given_back : (s : Segment) → IsAmong s x.world.segments → pool_is is_any_size_kind x.world s.pool ≡ true
      → AreApartFrom 1 (without_segment x.world.segments s.base) → Running (record x { world = after_unseg x.world s.base })
  given_back s among any after =
      let outside = not_condemned s among any in
      subst (λ o. Running (record x { world = record x.world { segments = without_segment x.world.segments s.base; collection = o } }))
      (sym (fix s.base outside))
      (segments_keep x run (without_segment x.world.segments s.base) x.world.tails after
      (λ t h is. among_without s.base t x.world.segments
      (λ e. true≢false (sym is ∙ (ap (contains x.running.condemned_segments) e ∙ outside))) h))
    where
      fix : (base : Address) → contains x.running.condemned_segments base ≡ false
          → option_map (giving_back base) x.world.collection ≡ x.world.collection
      fix base outside = ap (option_map (giving_back base)) run.runs
          ∙ (ap (λ b. Some (if b then reclaiming base (record x.running {
            condemned_segments = without_first x.running.condemned_segments base;
          }) else x.running)) outside ∙ sym run.runs)

  pub give_back_keeps : (o : Option Segment) → ((s : Segment) → o ≡ Some s → IsAmong s x.world.segments)
      → AreApartFrom 1 (world_after_moves x.world (give_back_empty x.world o)).segments
      → Running (record x { world = world_after_moves x.world (give_back_empty x.world o) })
  give_back_keeps None among after = run
  give_back_keeps (Some s) among after = of_test (pool_is is_any_size_kind x.world s.pool) (is_empty_segment x.world s) refl after
    where
      of_test : (a b : Bool) → pool_is is_any_size_kind x.world s.pool ≡ a
          → AreApartFrom 1 (world_after_moves x.world (if a && b then moves.Unseg (at_address s.base) ∷ [] else [])).segments
          → Running (record x { world = world_after_moves x.world (if a && b then moves.Unseg (at_address s.base) ∷ [] else []) })
      of_test true true any fine = given_back s (among s refl) any fine
      of_test true false any fine = run
      of_test false b any fine = run

-- ---- free

module _ (x : Collecting) (run : Running x) (formed : IsWellFormed x.world) where
  -- the moves of a free of a live manual block
  free_of_keeps : (id : Id) → is_live x.world id ≡ true → object_is is_automatic x.world id ≡ false
      → AreApartFrom 1 (world_after_moves x.world (free_of x.world (address_or_null x.world id))).segments
      → Running (record x { world = world_after_moves x.world (free_of x.world (address_or_null x.world id)) })
  free_of_keeps id live manual fine =
      subst (λ (v : World). AreApartFrom 1 (world_after_moves v (give_back_empty v (segment_of x.world at))).segments
      → Running (record x { world = world_after_moves v (give_back_empty v (segment_of x.world at)) })) (sym leads)
      (λ ordered. give_back_keeps (record x { world = without_object x.world id })
      (aside_keeps (record x { world = with_address x.world id None }) (manual_freed_keeps x run formed id manual)
      (without_object x.world id) x.world.graph.blocks x.world.graph.caches x.world.graph.frames)
      (segments_ordered x.world formed) (segment_of x.world at)
      (λ s e. (find_among (λ t. is_in_segment t at) x.world.segments s e).0) ordered) fine
    where
      at : Address
      at = address_or_null x.world id

      leads : world_after_moves x.world (free_at (address_or_null x.world id)) ≡ without_object x.world id
      leads = ap (λ found. where_one x.world found (λ n. after_free x.world n (address_or_null x.world id)))
          (id_at-live x.world id run.different live)
          ∙ ap (λ b. if b then with_collection (without_object x.world id)
          (reclaiming (segment_base_of x.world (address_or_null x.world id)))
          else without_object x.world id) manual

  -- the moves of a free
  free_moves_keeps : (m : Checked (Found (Option ℕ))) (refused : Bool)
      → ((f : Found (Option ℕ)) (id : Id) → m ≡ Ok f → f.value ≡ Some id
      → (is_live x.world id ≡ true) × (object_is is_automatic x.world id ≡ false))
      → AreApartFrom 1 (world_after_moves x.world (if refused then [] else moves_of_free x.world m)).segments
      → Running (record x { world = world_after_moves x.world (if refused then [] else moves_of_free x.world m) })
  free_moves_keeps m true right fine = run
  free_moves_keeps (Err why) false right fine = run
  free_moves_keeps (Ok f) false right fine = of_value f.value (λ id e. right f id refl e) fine
    where
      of_value : (o : Option ℕ) → ((id : Id) → o ≡ Some id → (is_live x.world id ≡ true) × (object_is is_automatic x.world id ≡ false))
          → AreApartFrom 1 (world_after_moves x.world (option_map_or (λ id. free_of x.world (address_or_null x.world id)) o [])).segments
          → Running (record x {
            world = world_after_moves x.world
                (option_map_or (λ id. free_of x.world (address_or_null x.world id)) o []);
          })
      of_value None each ordered = run
      of_value (Some id) each ordered = let it = each id refl in free_of_keeps id it.0 it.1 ordered

  -- a place of a table of blocks has a live manual block
  pub block_right : list_all (is_live x.world) (ids_in_blocks x.world.graph) ≡ true → (place : Slot) (f : Found (Option ℕ)) (id : Id)
      → block_place_in x.world place ≡ Ok f → f.value ≡ Some id → (is_live x.world id ≡ true) × (object_is is_automatic x.world id ≡ false)
  block_right live place f id e value =
      let there = found (slice_get x.world.graph.blocks) f (number_named x.world place.name as_blocks) place.index e in
      let among = contains_left (ids_in_places x.world.graph) (ids_in_caches x.world.graph) id
      (among_all entries x.world.graph.blocks f.number f.list id there.list
      (among_entries f.list f.index id (there.value ∙ ap Some value))) in (
        list_all-contains (is_live x.world) (ids_in_blocks x.world.graph) id live among,
        manual_is x.world id (list_all-contains (object_is (λ o. not (is_automatic o)) x.world)
            (ids_in_blocks x.world.graph) id formed.blocks among),
      )

  pub freeing_keeps : list_all (is_live x.world) (ids_in_blocks x.world.graph) ≡ true → (place : Slot) (answer : Answer)
      → AreApartFrom 1 (world_after_moves x.world (unless_refused answer (moves_of_free x.world (block_place_in x.world place)))).segments
      → Running (record x {
        world = world_after_moves x.world
            (unless_refused answer (moves_of_free x.world (block_place_in x.world place)));
      })
  freeing_keeps live place answer fine =
      free_moves_keeps (block_place_in x.world place) (is_refused answer) (λ f id e value. block_right live place f id e value) fine
