-- Objects and manual blocks made by calls: commit and alloc.
use Rattle.std.proofs.Common.{◌≡◌, ◌∙◌, ℕ, Bool, true, false, refl, sym, ap, List, [], ◌∷◌, length, Option, Some, None, subst, inl, inr}
use Rattle.std.proofs.lemmas.Bool.{false≢true, or_cases}
use Rattle.std.proofs.lemmas.Option.{same_Some}
use Rattle.std.specs.Prelude.{Ok, Err, slice_get, slice_set, if◌then◌else◌, replicate}
use Rattle.std.specs.List.{list_any}
use Rattle.std.specs.Option.{option_map_or}
use Rattle.mps_base.specs.Address.{Id, address_of_grain}
use Rattle.mps_base.specs.Placement.{Placement, Place, NewSegment, OverLimit, NoFreeRun}
use Rattle.mps_base.specs.Run.{Run}
use Rattle.mps_base.specs.Segment.{Segment, with_segment, words_of_segment}
use Rattle.mps_model.specs.Answer.{Answer, is_refused}
use Rattle.mps_model.specs.Graph.{Object, Manual, Cache, CacheClass, Point, Reservation, contains, entry_at, with_last, targets_of_cells, targets_of_point, targets_of_reservation, ids_of_client, ids_in_slots, ids_in_holds, ids_in_reservations}
use Rattle.mps_model.specs.World.{World, PointMemory, Pool, Tail, extent, extents_of, extent_of_reservation, is_copying_pool, with_tail, is_live}
use Rattle.mps_model.specs.Placement.{ForAlloc, placement_of}
use Rattle.mps_model.specs.Checked.{Checked, Found, Numbered, with_graph}
use Rattle.mps_model.specs.Allocating.{with_reservation, reserved_address, committed_object, world_committed, graph_allocated, with_block_noted}
use Rattle.mps_model.specs.Caches.{taken_from}
use Rattle.mps_model.specs.Effect.{holding, segment_of_move, world_after_moves}
use Rattle.mps_model.specs.History.{alloc_at, moves_if_not_taken, moves_of_alloc, moves_of_cache_alloc, unless_refused}
use Rattle.mps_model.specs.WellFormed.{IsWellFormed}
use Rattle.mps_abstract.specs.Colours.{AreDifferent}
use Rattle.mps_abstract.specs.Collecting.{Collecting, Running, is_white_in}
use Rattle.mps_abstract.specs.ClientLaws.{AreApartFrom}
use Rattle.mps_abstract.proofs.Calls.ClientLists.{among_all, entry_is_there}
use Rattle.mps_abstract.proofs.Calls.ClientCovered.{extent_of_last}
use Rattle.mps_abstract.proofs.Calls.ClientBeside.{in_reservations, held_so, IsFound}
use Rattle.mps_abstract.proofs.Calls.ClientRoots.{slot_keeps}
use Rattle.mps_abstract.proofs.Calls.ClientPoints.{ended_keeps}
use Rattle.mps_abstract.proofs.Calls.ClientThings.{aside_keeps}
use Rattle.mps_abstract.proofs.Calls.ClientMaking.{made_keeps, made_black, made_live, segments_keep, among_with}

module _ (x : Collecting) (run : Running x) (formed : IsWellFormed x.world) where
  abbrev w : World
  w = x.world

  abbrev P : World → Type 0
  P v = Running (record x { world = v })

  -- ---- commit

  module _ (point : Numbered Point) (found : entry_at w.graph.points point.number ≡ Some point.value) (r : Reservation)
      (is_open : point.value.reservation ≡ Some r) where
    pub flipped_keeps : r.is_doomed ≡ true → P (with_graph w (with_reservation w.graph point None))
    flipped_keeps doomed = ended_keeps x run point found
        (λ p memory there passes. absurd (false≢true (sym (ap (λ o. list_any p (extent_of_reservation o memory)) is_open
        ∙ ap (λ b. list_any p (if (if b then false else true) then extent memory.reserved_at (length r.cells) ∷ [] else [])) doomed)
        ∙ passes)))

    module _ (live : r.is_doomed ≡ false) (slot : Found (Option ℕ)) (slot_there : IsFound (entry_at w.graph.tables) slot)
        (different : AreDifferent (with_last w.addresses (Some (reserved_address w point.number)))) where
      abbrev new : Object
      new = committed_object point.value r

      held : (t : Id) → contains (targets_of_cells r.cells) t ≡ true → contains (ids_of_client w.graph) t ≡ true
      held t h = held_so (ids_in_slots w.graph) (ids_in_holds w.graph) w.graph.messages (ids_in_reservations w.graph) t
          (in_reservations (among_all targets_of_point w.graph.points point.number (Some point.value) t
          (entry_is_there w.graph.points point.number point.value found)
          (ap (λ o. contains (option_map_or targets_of_reservation o []) t) is_open
          ∙ (ap (λ b. contains (if b then [] else targets_of_cells r.cells) t) live ∙ h))))

      abbrev with_new : Collecting
      with_new = record x {
        world = record w {
          graph = record w.graph { objects = with_last w.graph.objects new };
          addresses = with_last w.addresses (Some (reserved_address w point.number));
        };
      }

      new_runs : Running with_new
      new_runs = made_keeps x run new (reserved_address w point.number) formed.addresses different held

      -- the new object covers what the reservation covered
      covers : (p : Run → Bool) (memory : PointMemory) → slice_get w.point_memories point.number ≡ Some memory
          → list_any p (extent_of_reservation point.value.reservation memory) ≡ true
          → list_any p (extents_of with_new.world.graph.objects with_new.world.addresses) ≡ true
      covers p memory there passes =
          let at = ap (λ o. option_map_or (λ (m : PointMemory). m.reserved_at) o 0) there in
          let of_live = sym (ap (λ o. list_any p (extent_of_reservation o memory)) is_open
          ∙ ap (λ b. list_any p (if (if b then false else true) then extent memory.reserved_at (length r.cells) ∷ [] else [])) live)
          ∙ passes in
          elim (or_cases (p (extent memory.reserved_at (length r.cells))) false of_live) [
            | inl it ↦ extent_of_last p w.graph.objects w.addresses new (reserved_address w point.number) formed.addresses
                (ap (λ n. p (extent n (length r.cells))) at ∙ it)
            | inr none ↦ absurd (false≢true none)
          ]

      abbrev ended : Collecting
      ended = record with_new { world = with_graph with_new.world (with_reservation with_new.world.graph point None) }

      ended_runs : Running ended
      ended_runs = ended_keeps with_new new_runs point found covers

      pub committed_keeps : P (world_committed w point r slot)
      committed_keeps = slot_keeps ended ended_runs slot (Some (length w.graph.objects)) slot_there
          (λ id same. inr (subst (λ n. (is_live ended.world n ≡ true) × (is_white_in ended n ≡ false))
          (same_Some (length w.graph.objects) id same) (
            made_live x run new (reserved_address w point.number) formed.addresses different held,
            made_black x run new (reserved_address w point.number) formed.addresses different held,
          )))

-- ---- alloc

-- a manual block is made
module _ (x : Collecting) (run : Running x) (as_many : length x.world.addresses ≡ length x.world.graph.objects) where
  pub allocated_keeps : (pool words at : ℕ) (place : Found (Option ℕ)) → AreDifferent (with_last x.world.addresses (Some at))
      → Running (record x {
        world = record x.world {
          graph = graph_allocated x.world.graph pool words place;
          addresses = with_last x.world.addresses
              (Some at);
        };
      })
  allocated_keeps pool words at place different =
      let new : Object = record { pool = pool; body = Manual (replicate words 0) } in
      let made = record x {
        world = record x.world {
          graph = record x.world.graph { objects = with_last x.world.graph.objects new };
          addresses = with_last x.world.addresses (Some at);
        };
      } in
      aside_keeps made (made_keeps x run new at as_many different (λ t none. absurd (false≢true none)))
      x.world (slice_set x.world.graph.blocks place.number (slice_set place.list place.index (Some (length x.world.graph.objects))))
      x.world.graph.caches (with_block_noted x.world.graph.frames pool (length x.world.graph.objects))

-- ---- the segment that an alloc takes

-- a world in which one more segment may be held
pub data MayHoldMore (w : World) : World → Type 0 where
  holds_no_more : MayHoldMore w w
  holds_one_more : (s : Segment) (tails : List Tail) → MayHoldMore w (record w { segments = with_segment s w.segments; tails = tails })

segment_more : (w : World) (s : Segment) (b : Bool)
    → MayHoldMore w (if b then with_tail (holding w s) s.pool s.generation (words_of_segment s) else holding w s)
segment_more w s true = holds_one_more s (with_tail (holding w s) s.pool s.generation (words_of_segment s)).tails
segment_more w s false = holds_one_more s w.tails

placed_more : (w : World) (pool words : ℕ) (p : Placement) → MayHoldMore w (world_after_moves w (alloc_at pool words p))
placed_more w pool words (Place word) = holds_no_more
placed_more w pool words (NewSegment grain grains) = segment_more w (segment_of_move (address_of_grain grain) grains pool 0)
    (is_copying_pool w pool)
placed_more w pool words (OverLimit committed need limit) = holds_no_more
placed_more w pool words (NoFreeRun need longest) = holds_no_more

-- the moves of a call that takes a block from a cache, or makes one
pub take_moves_more : (w : World) (m : Checked (Numbered Cache)) (words : ℕ) (answer : Answer)
    → MayHoldMore w (world_after_moves w (unless_refused answer (moves_of_cache_alloc w m words)))
take_moves_more w m words answer = by_case (is_refused answer) m
  where
    if_taken : (pool : ℕ) (o : Option (ℕ × List CacheClass)) → MayHoldMore w (world_after_moves w (moves_if_not_taken w pool words o))
    if_taken pool None = placed_more w pool words (placement_of w (ForAlloc pool words))
    if_taken pool (Some taken) = holds_no_more

    by_case : (b : Bool) (m : Checked (Numbered Cache))
        → MayHoldMore w (world_after_moves w (if b then [] else moves_of_cache_alloc w m words))
    by_case true m = holds_no_more
    by_case false (Ok q) = if_taken q.value.pool (taken_from q.value.classes words)
    by_case false (Err why) = holds_no_more

moves_more : (w : World) (m : Checked (Numbered Pool)) (words : ℕ) (refused : Bool)
    → MayHoldMore w (world_after_moves w (if refused then [] else moves_of_alloc w m words))
moves_more w m words true = holds_no_more
moves_more w (Ok p) words false = placed_more w p.number words (placement_of w (ForAlloc p.number words))
moves_more w (Err why) words false = holds_no_more

pub alloc_moves_more : (w : World) (m : Checked (Numbered Pool)) (words : ℕ) (answer : Answer)
    → MayHoldMore w (world_after_moves w (unless_refused answer (moves_of_alloc w m words)))
alloc_moves_more w m words answer = moves_more w m words (is_refused answer)

-- one more segment keeps the invariant
pub more_keeps : (x : Collecting) → Running x → (after : World) → MayHoldMore x.world after → AreApartFrom 1 after.segments
    → Running (record x { world = after }) × (length after.addresses ≡ length x.world.addresses) ×
    (length after.graph.objects ≡ length x.world.graph.objects)
more_keeps x run after holds_no_more in_order = (run, refl, refl)
more_keeps x run after (holds_one_more s tails) in_order =
    (segments_keep x run (with_segment s x.world.segments) tails in_order (λ t h is. among_with s t x.world.segments h), refl, refl)
