-- What each call leaves of numbers: words, if it gives words. A walk over all calls and their checks.
use Rattle.std.proofs.Common.{◌≡◌, ℕ, ◌+◌, Bool, true, false, refl, sym, ap, ◌∙◌, List, [], ◌∷◌, length, map, Option, Some, None, Ok}
use Rattle.std.proofs.lemmas.Bool.{and_from}
use Rattle.std.specs.Prelude.{◌&&◌, ◌==◌, ◌%◌, if◌then◌else◌, is_none, is_some, nat_le, nat_lt, not, slice_get, slice_set, count_by, replicate}
use Rattle.std.specs.List.{list_all, list_any}
use Rattle.mps_base.specs.Staleness.{is_stale}
use Rattle.mps_base.specs.declared.names.Name.{Name}
use Rattle.mps_base.specs.declared.names.Slot.{Slot}
use Rattle.mps_base.specs.declared.refusal.Refusal.TheVariants as refusal
use Rattle.mps_model.specs.declared.call.Call.{Call}
use Rattle.mps_model.specs.declared.call.Call.TheVariants as call
use Rattle.mps_model.specs.declared.reply.Reply.TheVariants as reply
use Rattle.mps_model.specs.Graph.{Cache, CacheClass, Graph, Object, Manual, Cell, NumberCell, AreaWord, PlainWord, Hold, Point, Reservation, dependent_in, is_taken, position_of_first, thing_named, with_last, with_tag_cell, with_target_cell, PoolFrames}
use Rattle.mps_model.specs.Tagging.{tag_count}
use Rattle.mps_model.specs.Dependents.{may_depend, most_dependents}
use Rattle.mps_model.specs.World.{World, committed, Pool, Dependency, block_of_word, id_at, is_automatic_kind, is_running, is_parked, pairs_in, pool_at, pool_of, Collected, OneSize, AnySize, Frames, pool_is, has_frames}
use Rattle.mps_model.specs.Checked.{Act, Checked, Found, Numbered, block_place_in, cells_of_body, chain_named, dependency_named, done, label_named, tag_at, number_at, object_in, point_named, pool_named, reference_at, refuse_when, required, says, slot_in, tells, with_graph, word_in, transform_named, cache_named}
use Rattle.mps_model.specs.Making.{graph_without_root, is_block_size, live_points, make_pool, may_have_point, most_chains, most_dependencies, most_labels, most_points, most_pools, refuse_at_limit, refuse_root, refuse_taken, most_caches, most_frames}
use Rattle.mps_model.specs.Frames.{frame_in, frames_named, open_frames}
use Rattle.mps_model.specs.Caches.{act_kept, act_taken, are_class_sizes, graph_cleared, kept_by, may_have_cache, new_classes, taken_from}
use Rattle.mps_model.specs.Placement.{ForAlloc, ForReserve, placement_of}
use Rattle.mps_model.specs.Allocating.{Reserving, allows_size, block_in, check_reserve, committed_object, refuse_without_place, with_reservation, with_reserved_cells, words_at, world_committed}
use Rattle.mps_model.specs.Accessing.{Poked, AsBlock, AsMarked, AsNumber, act_poke_in, act_poked, held_in, hold_of, poked, same_target, with_word}
use Rattle.mps_model.specs.Collecting.{act_message_in, most_registrations}
use Rattle.mps_model.specs.Reply.{act}
use Rattle.mps_model.specs.Transforms.{has_live_reservation, is_blocked, is_old, most_pairs, most_transforms, object_substituted, pairs_of, world_substituted}
use Rattle.mps_changes.specs.Change.{ForAct, accepted}
use Rattle.mps_changes.proofs.Checks.{with_value, after_check, andthen, required-is, without_root, point_named-is}
use Rattle.mps_changes.proofs.Lookups.{entry_is_there}
use Rattle.mps_laws.proofs.FoundBy.{word_found}
use Rattle.mps_laws.proofs.NamedLists.{each_last}
use Rattle.mps_laws.proofs.Sound.SoundGraph.{each-at, each-replicated, each-written}
use Rattle.mps_client_laws.specs.Numbers.{HasWords, HaveWords, gives_word, has_words, has_words_at_point, has_words_in_area, has_words_reserved, is_word, is_word_cell, is_word_of_area}
use Rattle.mps_client_laws.proofs.WordsKept.{KeepsCells, cells_keep, cleared_keeps, number_keeps, reserved_are_words, substituted_keep, tag_keeps, target_keeps, with_head, word_keeps}

module _ (marked : Bool) (judged v : World) (h : HasWords v.graph) where
  abbrev Leads : Checked Act → Type 0
  Leads x = ForAct (λ u. HasWords u.graph) x

  with_objects : (os : List Object) → list_all has_words os ≡ true → HaveWords os v.graph.points v.graph.areas
  with_objects os each = record { in_objects = each; in_reservations = h.in_reservations; in_areas = h.in_areas }

  with_points : (ps : List (Option Point)) → list_all has_words_at_point ps ≡ true → HaveWords v.graph.objects ps v.graph.areas
  with_points ps each = record { in_objects = h.in_objects; in_reservations = each; in_areas = h.in_areas }

  with_areas : (areas : List (Option (List AreaWord))) → list_all has_words_in_area areas ≡ true
      → HaveWords v.graph.objects v.graph.points areas
  with_areas areas each = record { in_objects = h.in_objects; in_reservations = h.in_reservations; in_areas = each }

  yes_or_no : (b : Bool) → Leads (tells b v)
  yes_or_no true = accepted h
  yes_or_no false = accepted h

  made : (name : Name) (p : Pool) → Leads (make_pool v name p)
  made name p = after_check (refuse_at_limit (length v.pools) most_pools) (accepted h)

  -- a point has this reservation
  at_point : (p : Numbered Point) (o : Option Reservation) → has_words_at_point (Some (record p.value { reservation = o })) ≡ true
      → HasWords (with_reservation v.graph p o)
  at_point p o each =
      with_points (slice_set v.graph.points p.number (Some (record p.value { reservation = o })))
      (each-written has_words_at_point v.graph.points p.number (Some (record p.value { reservation = o })) h.in_reservations each)

  -- the reservation of a point has words
  reserved_words : (name : Name) (p : Numbered Point) (r : Reservation) → point_named v name ≡ Ok p
      → required p.value.reservation refusal.NotOpen ≡ Ok r → has_words_reserved r ≡ true
  reserved_words name p r e f =
      ap (λ o. has_words_at_point (Some (record p.value { reservation = o }))) (sym (required-is p.value.reservation refusal.NotOpen r f))
      ∙ each-at has_words_at_point v.graph.points p.number (Some p.value) h.in_reservations
      (entry_is_there v.graph.points p.number p.value (point_named-is v name p e).1)

  init : (name : Name) (p : Numbered Point) (r : Reservation) → point_named v name ≡ Ok p
      → required p.value.reservation refusal.NotOpen ≡ Ok r → (change : List Cell → List Cell) → KeepsCells change
      → Leads (done (with_reserved_cells v p r (change r.cells)))
  init name p r e f change keeps = by_case r.is_doomed
    where
      by_case : (b : Bool)
          → Leads (done (if b then v else with_graph v (with_reservation v.graph p (Some (record r { cells = change r.cells })))))
      by_case true = accepted h
      by_case false =
          accepted (at_point p (Some (record r { cells = change r.cells }))
          (with_head r.head change r.cells keeps (reserved_words name p r e f)))

  commits : (name : Name) (p : Numbered Point) (r : Reservation) (slot : Found (Option ℕ)) → point_named v name ≡ Ok p
      → required p.value.reservation refusal.NotOpen ≡ Ok r
      → Leads (if r.is_doomed then says reply.Flipped (with_graph v (with_reservation v.graph p None)) else done
      (world_committed v p r slot))
  commits name p r slot e f = by_case r.is_doomed
    where
      closed : HasWords (with_reservation v.graph p None)
      closed = at_point p None refl

      by_case : (b : Bool)
          → Leads (if b then says reply.Flipped (with_graph v (with_reservation v.graph p None)) else done (world_committed v p r slot))
      by_case true = accepted closed
      by_case false = accepted (record {
        in_objects = each_last has_words v.graph.objects (committed_object p.value r) h.in_objects (reserved_words name p r e f);
        in_reservations = closed.in_reservations;
        in_areas = h.in_areas;
      })

  -- a new block of zeros
  one_more : (pool words : ℕ) → HaveWords (with_last v.graph.objects (record { pool = pool; body = Manual (replicate words 0) }))
      v.graph.points v.graph.areas
  one_more pool words =
      with_objects (with_last v.graph.objects (record { pool = pool; body = Manual (replicate words 0) }))
      (each_last has_words v.graph.objects (record { pool = pool; body = Manual (replicate words 0) }) h.in_objects
      (each-replicated is_word words 0 refl))

  -- a word of an area has words in its area
  found_area : (place : Slot) (at : Found AreaWord) → word_in v place ≡ Ok at → list_all is_word_of_area at.list ≡ true
  found_area place at e =
      let there = word_found v place at e in
      each-at has_words_in_area v.graph.areas at.number (Some at.list) h.in_areas
      (entry_is_there v.graph.areas at.number at.list there.0)

  with_area_word : (place : Slot) (at : Found AreaWord) → word_in v place ≡ Ok at → (word : AreaWord) → is_word_of_area word ≡ true
      → HasWords (with_word v.graph at word)
  with_area_word place at e word is =
      with_areas (slice_set v.graph.areas at.number (Some (slice_set at.list at.index word)))
      (each-written has_words_in_area v.graph.areas at.number (Some (slice_set at.list at.index word)) h.in_areas
      (each-written is_word_of_area at.list at.index word (found_area place at e) is))

  pokes : (place : Slot) (word : ℕ) (at : Found AreaWord) → word_in v place ≡ Ok at → is_word word ≡ true → (o : Option ℕ)
      → Leads (act_poke_in v at word marked o)
  pokes place word at e is None = accepted (with_area_word place at e (PlainWord word) is)
  pokes place word at e is (Some id) = by_case (poked v id) marked
    where
      by_case : (p : Poked) (m : Bool) → Leads (act_poked v at id word p m)
      by_case AsBlock m = accepted (with_area_word place at e (hold_of v id word) refl)
      by_case AsNumber m = accepted (with_area_word place at e (PlainWord word) is)
      by_case AsMarked true = accepted (with_area_word place at e (hold_of v id word) refl)
      by_case AsMarked false = accepted (with_area_word place at e (PlainWord word) is)

  takes_message : (into : Found (Option ℕ)) (ids : List ℕ) → Leads (act_message_in v into ids)
  takes_message into [] = accepted h
  takes_message into (id ∷ ids) = accepted h

  drops : (name : Name) (g : Graph) → graph_without_root v.graph name (thing_named v.graph name) ≡ Some g → HasWords g
  drops name g e =
      without_root HasWords v.graph name (thing_named v.graph name) g e (λ n is. h) (λ n is.
      with_areas (slice_set v.graph.areas n None) (each-written has_words_in_area v.graph.areas n None h.in_areas refl))

  applies : (transform : Name) (n : ℕ)
      → Leads (if is_blocked v (pairs_of v.state n) then says reply.No v else says reply.Yes (world_substituted v transform n))
  applies transform n = by_case (is_blocked v (pairs_of v.state n))
    where
      by_case : (b : Bool) → Leads (if b then says reply.No v else says reply.Yes (world_substituted v transform n))
      by_case true = accepted h
      by_case false =
          accepted (with_objects (map (object_substituted (pairs_of v.state n)) v.graph.objects)
          (substituted_keep (pairs_of v.state n) v.graph.objects h.in_objects))

  takes : (from : Numbered Cache) (words : ℕ) (place : Found (Option ℕ)) (o : Option (ℕ × List CacheClass))
      → Leads (act_taken judged v from words place o)
  takes from words place (Some taken) =
      accepted (with_objects (graph_cleared v.graph taken.0).objects (cleared_keeps v.graph h taken.0).in_objects)
  takes from words place None =
      after_check (refuse_without_place (placement_of judged (ForAlloc from.value.pool words))) (accepted (one_more from.value.pool words))

  keeps : (into : Numbered Cache) (place : Found (Option ℕ)) (o : Option (List CacheClass)) → Leads (act_kept v into place o)
  keeps into place (Some classes) = accepted h
  keeps into place None = accepted h

  pub words_of_act : (c : Call) → gives_word c ≡ true → Leads (act marked judged v c)
  words_of_act (call.Arena grains limit) given = accepted h
  words_of_act (call.Limit limit) given =
      after_check (refuse_when (nat_lt limit (committed v)) refusal.BelowCommitted) (accepted h)
  words_of_act call.Committed given = accepted h
  words_of_act (call.Chain chain count capacities) given =
      after_check (refuse_taken v chain) (after_check (refuse_at_limit (length v.chains) most_chains) (accepted h))
  words_of_act (call.Pool pool kind format) given =
      after_check (refuse_taken v pool) (made pool (record { kind = Collected kind; format = format; chain = None }))
  words_of_act (call.PoolOnChain pool kind format chain) given =
      after_check (refuse_taken v pool) (andthen (chain_named v chain) (λ (on : Numbered (List ℕ)).
      made pool (record { kind = Collected kind; format = format; chain = Some on.number })))
  words_of_act (call.PoolMfs pool words) given =
      after_check (refuse_taken v pool) (after_check (refuse_when (not (is_block_size words)) refusal.BadSize)
      (made pool (record { kind = OneSize words; format = 0; chain = None })))
  words_of_act (call.PoolMvff pool) given =
      after_check (refuse_taken v pool) (made pool (record { kind = AnySize; format = 0; chain = None }))
  words_of_act (call.PoolFrames pool) given =
      after_check (refuse_taken v pool) (made pool (record { kind = Frames; format = 0; chain = None }))
  words_of_act (call.Table table slots) given = after_check (refuse_taken v table)
      (after_check (refuse_root v slots) (accepted h))
  words_of_act (call.Area area words) given =
      after_check (refuse_taken v area) (after_check (refuse_root v words) (accepted (with_areas (with_last v.graph.areas _)
      (each_last has_words_in_area v.graph.areas _ h.in_areas (each-replicated is_word_of_area words (PlainWord 0) refl)))))
  words_of_act (call.Blocks blocks places) given = after_check (refuse_taken v blocks)
      (after_check (refuse_root v places) (accepted h))
  words_of_act (call.DropRoot root) given =
      with_value (required (graph_without_root v.graph root (thing_named v.graph root)) refusal.BadName) (λ (g : Graph) e.
      accepted (drops root g (required-is (graph_without_root v.graph root (thing_named v.graph root)) refusal.BadName g e)))
  words_of_act (call.Point point pool rank) given =
      after_check (refuse_taken v point) (andthen (pool_named v pool) (λ (of : Numbered Pool).
      after_check (refuse_when (not (may_have_point of.value.kind rank)) refusal.WrongPool)
      (after_check (refuse_at_limit (live_points v.graph) most_points)
      (accepted (with_points (with_last v.graph.points _) (each_last has_words_at_point v.graph.points _ h.in_reservations refl))))))
  words_of_act (call.DropPoint point) given =
      andthen (point_named v point) (λ (p : Numbered Point).
      after_check (refuse_when (is_some p.value.reservation) refusal.Open)
      (accepted (with_points (slice_set v.graph.points p.number None)
      (each-written has_words_at_point v.graph.points p.number None h.in_reservations refl))))
  words_of_act (call.Dependency dependency) given =
      after_check (refuse_taken v dependency) (after_check (refuse_at_limit (length v.dependencies) most_dependencies)
      (accepted h))
  words_of_act (call.Reserve point head) given =
      with_value (check_reserve judged point head) (λ (r : Reserving) e.
      after_check (refuse_without_place (placement_of judged (ForReserve r.point.number (length r.cells))))
      (andthen (point_named v point) (λ (p : Numbered Point).
      accepted (at_point p (Some (record { head = head; cells = r.cells; is_doomed = false }))
      (and_from (is_word head) (list_all is_word_cell r.cells) given (reserved_are_words judged point head r e))))))
  words_of_act (call.InitNumber point cell value) given =
      with_value (point_named v point) (λ (p : Numbered Point) e.
      with_value (required p.value.reservation refusal.NotOpen) (λ (r : Reservation) f.
      after_check (number_at r.cells cell)
      (init point p r e f (λ cells. slice_set cells cell (NumberCell value)) (number_keeps cell value given))))
  words_of_act (call.InitReference point cell source) given =
      with_value (point_named v point) (λ (p : Numbered Point) e.
      andthen (slot_in v source) (λ (from : Found (Option ℕ)).
      with_value (required p.value.reservation refusal.NotOpen) (λ (r : Reservation) f.
      after_check (reference_at r.cells cell)
      (init point p r e f (λ cells. with_target_cell cells cell from.value) (target_keeps cell from.value)))))
  words_of_act (call.Commit point target) given =
      with_value (point_named v point) (λ (p : Numbered Point) e.
      andthen (slot_in v target) (λ (slot : Found (Option ℕ)).
      with_value (required p.value.reservation refusal.NotOpen) (λ (r : Reservation) f. commits point p r slot e f)))
  words_of_act (call.Alloc pool words place) given =
      andthen (pool_named judged pool) (λ (p : Numbered Pool).
      after_check (refuse_when (is_automatic_kind p.value.kind) refusal.WrongPool)
      (andthen (block_place_in judged place) (λ (at : Found (Option ℕ)).
      after_check (refuse_when (not (allows_size p.value.kind words)) refusal.BadSize)
      (after_check (refuse_when (is_some at.value) refusal.NameTaken)
      (after_check (refuse_without_place (placement_of judged (ForAlloc p.number words))) (accepted (one_more p.number words)))))))
  words_of_act (call.Free place) given =
      andthen (block_place_in v place) (λ (at : Found (Option ℕ)). andthen (block_in at) (λ (id : ℕ).
      after_check (refuse_when (pool_is has_frames v (pool_of v id)) refusal.WrongPool) (accepted h)))
  words_of_act (call.Load place word) given =
      andthen (block_place_in v place) (λ (at : Found (Option ℕ)). andthen (block_in at) (λ (id : ℕ).
      andthen (required (slice_get (words_at v.graph id) word) refusal.BadIndex) (λ (n : ℕ). accepted h)))
  words_of_act (call.Store place word value) given =
      andthen (block_place_in v place) (λ (at : Found (Option ℕ)). andthen (block_in at) (λ (id : ℕ).
      after_check (required (slice_get (words_at v.graph id) word) refusal.BadIndex)
      (accepted (word_keeps v.graph h id word value given))))
  words_of_act (call.Get target source cell) given =
      andthen (slot_in judged target) (λ (into : Found (Option ℕ)).
      andthen (slot_in judged source) (λ (from : Found (Option ℕ)).
      andthen (object_in judged from.value) (λ (object : Numbered Object).
      after_check (reference_at (cells_of_body object.value.body) cell)
      (andthen (object_in v from.value) (λ (now : Numbered Object).
      andthen (reference_at (cells_of_body now.value.body) cell) (λ (read : Option ℕ). accepted h))))))
  words_of_act (call.Put target cell source) given =
      andthen (slot_in v target) (λ (into : Found (Option ℕ)).
      andthen (slot_in v source) (λ (from : Found (Option ℕ)).
      andthen (object_in v into.value) (λ (object : Numbered Object).
      after_check (reference_at (cells_of_body object.value.body) cell)
      (accepted (cells_keep v.graph h object.number (λ cells. with_target_cell cells cell from.value) (target_keeps cell from.value))))))
  words_of_act (call.Number slot cell) given =
      andthen (slot_in v slot) (λ (from : Found (Option ℕ)). andthen (object_in v from.value) (λ (object : Numbered Object).
      andthen (number_at (cells_of_body object.value.body) cell) (λ (n : ℕ). accepted h)))
  words_of_act (call.SetNumber slot cell value) given =
      andthen (slot_in v slot) (λ (into : Found (Option ℕ)).
      andthen (object_in v into.value) (λ (object : Numbered Object).
      after_check (number_at (cells_of_body object.value.body) cell)
      (accepted (cells_keep v.graph h object.number (λ cells. slice_set cells cell (NumberCell value)) (number_keeps cell value given)))))
  words_of_act (call.Copy target source) given =
      andthen (slot_in v target) (λ (into : Found (Option ℕ)).
      andthen (slot_in v source) (λ (from : Found (Option ℕ)). accepted h))
  words_of_act (call.Clear slot) given = andthen (slot_in v slot) (λ (into : Found (Option ℕ)). accepted h)
  words_of_act (call.Same slot other) given =
      andthen (slot_in v slot) (λ (one : Found (Option ℕ)). andthen (slot_in v other) (λ (two : Found (Option ℕ)).
      yes_or_no (same_target one.value two.value)))
  words_of_act (call.Null slot) given = andthen (slot_in v slot) (λ (from : Found (Option ℕ)). yes_or_no (is_none from.value))
  words_of_act (call.Head slot) given =
      andthen (slot_in v slot) (λ (from : Found (Option ℕ)). andthen (object_in v from.value) (λ (o : Numbered Object).
      accepted h))
  words_of_act (call.Address slot) given =
      andthen (slot_in v slot) (λ (from : Found (Option ℕ)). andthen (object_in v from.value) (λ (o : Numbered Object).
      accepted h))
  words_of_act (call.Poke word value) given =
      with_value (word_in v word) (λ (at : Found AreaWord) e. pokes word value at e given (block_of_word v value))
  words_of_act (call.SetTag slot cell tag) given =
      andthen (slot_in v slot) (λ (into : Found (Option ℕ)).
      andthen (object_in v into.value) (λ (object : Numbered Object).
      after_check (reference_at (cells_of_body object.value.body) cell)
      (accepted (cells_keep v.graph h object.number (λ cells. with_tag_cell cells cell (tag % tag_count))
      (tag_keeps cell (tag % tag_count))))))
  words_of_act (call.Tag slot cell) given =
      andthen (slot_in v slot) (λ (from : Found (Option ℕ)). andthen (object_in v from.value) (λ (object : Numbered Object).
      andthen (tag_at (cells_of_body object.value.body) cell) (λ (tag : ℕ). accepted h)))
  words_of_act (call.Intern label) given =
      after_check (refuse_when (is_taken v.graph label) refusal.NameTaken)
      (after_check (refuse_at_limit (length v.graph.labels) most_labels) (accepted h))
  words_of_act (call.Label slot label) given =
      andthen (slot_in v slot) (λ (from : Found (Option ℕ)). andthen (object_in v from.value) (λ (object : Numbered Object).
      andthen (label_named v label) (λ (found : Numbered Name). accepted h)))
  words_of_act (call.Depend holder dependent) given =
      andthen (slot_in v holder) (λ (from : Found (Option ℕ)). andthen (slot_in v dependent) (λ (to : Found (Option ℕ)).
      andthen (object_in v from.value) (λ (weak : Numbered Object). andthen (object_in v to.value) (λ (exact : Numbered Object).
      after_check (refuse_when (not (may_depend v weak.value exact.value)) refusal.WrongPool)
      (after_check (refuse_when (is_none (dependent_in v.graph.dependents weak.number)
      && nat_le most_dependents (length v.graph.dependents)) (refusal.TooMany most_dependents)) (accepted h))))))
  words_of_act (call.Undepend holder) given =
      andthen (slot_in v holder) (λ (from : Found (Option ℕ)). andthen (object_in v from.value) (λ (weak : Numbered Object).
      after_check (required (dependent_in v.graph.dependents weak.number) refusal.NotLinked) (accepted h)))
  words_of_act (call.Transform transform) given =
      after_check (refuse_taken v transform)
      (after_check (refuse_at_limit (count_by (λ is_there. is_there) v.graph.transforms) most_transforms) (accepted h))
  words_of_act (call.TransformAdd transform old new) given =
      andthen (transform_named v transform) (λ (n : ℕ).
      andthen (slot_in v old) (λ (from : Found (Option ℕ)). andthen (slot_in v new) (λ (to : Found (Option ℕ)).
      andthen (object_in v from.value) (λ (one : Numbered Object). andthen (object_in v to.value) (λ (other : Numbered Object).
      after_check (refuse_when (not (is_parked v)) refusal.NotParked)
      (after_check (refuse_when (is_old (pairs_of v.state n) one.number) refusal.OldTwice)
      (after_check (refuse_at_limit (length (pairs_in v.state)) most_pairs) (accepted h))))))))
  words_of_act (call.TransformApply transform) given =
      andthen (transform_named v transform) (λ (n : ℕ).
      after_check (refuse_when (not (is_parked v)) refusal.NotParked)
      (after_check (refuse_when (list_any has_live_reservation v.graph.points) refusal.Open) (applies transform n)))
  words_of_act (call.TransformDrop transform) given =
      andthen (transform_named v transform) (λ (n : ℕ). accepted h)
  words_of_act (call.Cache cache pool count sizes limits) given =
      after_check (refuse_taken v cache) (andthen (pool_named v pool) (λ (of : Numbered Pool).
      after_check (refuse_when (not (may_have_cache of.value.kind)) refusal.WrongPool)
      (after_check (refuse_when (not (are_class_sizes 0 (new_classes count sizes limits))) refusal.BadSize)
      (after_check (refuse_at_limit (length v.graph.caches) most_caches) (accepted h)))))
  words_of_act (call.CacheAlloc cache words place) given =
      andthen (cache_named v cache) (λ (from : Numbered Cache).
      andthen (required (pool_at judged from.value.pool) refusal.BadName) (λ (p : Pool).
      andthen (block_place_in v place) (λ (at : Found (Option ℕ)).
      after_check (refuse_when (not (allows_size p.kind words)) refusal.BadSize)
      (after_check (refuse_when (is_some at.value) refusal.NameTaken)
      (takes from words at (taken_from from.value.classes words))))))
  words_of_act (call.CacheFree cache place) given =
      andthen (cache_named v cache) (λ (into : Numbered Cache). andthen (block_place_in v place) (λ (at : Found (Option ℕ)).
      andthen (block_in at) (λ (id : ℕ). after_check (refuse_when (not (pool_of v id == into.value.pool)) refusal.WrongPool)
      (keeps into at (kept_by v into.value id)))))
  words_of_act (call.CacheFlush cache) given = andthen (cache_named v cache) (λ (from : Numbered Cache). accepted h)
  words_of_act (call.Push pool) given =
      andthen (frames_named v pool) (λ (f : PoolFrames).
      after_check (refuse_at_limit (open_frames v.graph) most_frames) (accepted h))
  words_of_act (call.Pop pool frame) given =
      andthen (frames_named v pool) (λ (f : PoolFrames). andthen (frame_in f frame) (λ (before : ℕ). accepted h))
  words_of_act (call.Peek word) given = andthen (word_in v word) (λ (at : Found AreaWord). accepted h)
  words_of_act (call.Pin word slot) given =
      with_value (word_in v word) (λ (at : Found AreaWord) e. andthen (slot_in v slot) (λ (from : Found (Option ℕ)).
      andthen (object_in v from.value) (λ (object : Numbered Object). accepted (with_area_word word at e (Hold object.number 0) refl))))
  words_of_act (call.Take slot word) given =
      andthen (slot_in v slot) (λ (into : Found (Option ℕ)). andthen (word_in v word) (λ (at : Found AreaWord).
      andthen (held_in at.value) (λ (id : ℕ). accepted h)))
  words_of_act call.Start given = after_check (refuse_when (is_running judged) refusal.Running) (accepted h)
  words_of_act (call.StartChain chain generation) given =
      andthen (chain_named judged chain) (λ (on : Numbered (List ℕ)).
      after_check (refuse_when (nat_le (length on.value) generation) refusal.BadIndex)
      (after_check (refuse_when (is_running judged) refusal.Running) (accepted h)))
  words_of_act (call.Step units) given = accepted h
  words_of_act call.Collect given = accepted h
  words_of_act call.Clamp given = accepted h
  words_of_act call.Park given = accepted h
  words_of_act call.Release given = accepted h
  words_of_act (call.Finalize slot) given =
      andthen (slot_in v slot) (λ (from : Found (Option ℕ)). andthen (object_in v from.value) (λ (object : Numbered Object).
      after_check (refuse_when (nat_le most_registrations (length v.graph.registered + length v.graph.messages))
      (refusal.TooMany most_registrations)) (accepted h)))
  words_of_act (call.Definalize slot) given =
      andthen (slot_in v slot) (λ (from : Found (Option ℕ)). andthen (object_in v from.value) (λ (object : Numbered Object).
      andthen (required (position_of_first v.graph.registered object.number) refusal.NotRegistered) (λ (position : ℕ).
      accepted h)))
  words_of_act (call.Message slot) given = andthen (slot_in v slot) (λ (into : Found (Option ℕ)). takes_message into v.graph.messages)
  words_of_act (call.DependencyReset dependency) given =
      andthen (dependency_named v dependency) (λ (d : Numbered Dependency). accepted h)
  words_of_act (call.DependencyAdd dependency slot) given =
      andthen (dependency_named v dependency) (λ (d : Numbered Dependency). andthen (slot_in v slot) (λ (from : Found (Option ℕ)).
      andthen (object_in v from.value) (λ (object : Numbered Object). accepted h)))
  words_of_act (call.DependencyMerge dependency source) given =
      andthen (dependency_named v dependency) (λ (d : Numbered Dependency). andthen (dependency_named v source)
      (λ (e : Numbered Dependency). accepted h))
  words_of_act (call.DependencyStale dependency) given =
      andthen (dependency_named v dependency) (λ (d : Numbered Dependency). yes_or_no (is_stale v.flips d.value.epoch d.value.zones))
  words_of_act call.Live given = accepted h
  words_of_act (call.Dump at) given =
      after_check (refuse_when (is_running v) refusal.Running)
      (andthen (required (id_at v at) refusal.NotABlock) (λ (id : ℕ). accepted h))
