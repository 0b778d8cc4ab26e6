-- What each call writes of objects: the one walk over all calls and their checks.
use Rattle.std.proofs.Common.{◌≡◌, ℕ, ◌+◌, Bool, true, false, refl, ap, ◌∙◌, List, [], ◌∷◌, length, Option, Some, None, Ok, sym}
use Rattle.std.proofs.lemmas.Bool.{and_from, eq-eqb}
use Rattle.std.specs.Prelude.{◌&&◌, ◌==◌, ◌%◌, if◌then◌else◌, is_none, is_some, nat_le, nat_lt, not, slice_get, slice_set, count_by, option_map}
use Rattle.mps_base.specs.Staleness.{is_stale}
use Rattle.mps_base.specs.declared.names.Name.{Name}
use Rattle.mps_base.specs.declared.names.Slot.{Slot}
use Rattle.mps_base.specs.declared.refusal.Refusal.TheVariants as refusal
use Rattle.mps_model.specs.declared.call.Call.{Call}
use Rattle.mps_model.specs.declared.call.Call.TheVariants as call
use Rattle.mps_model.specs.declared.reply.Reply.TheVariants as reply
use Rattle.mps_model.specs.Graph.{Cache, CacheClass, Graph, Object, Cell, NumberCell, AreaWord, Point, Reservation, dependent_in, is_taken, position_of_first, thing_named, with_last, with_tag_cell, with_target_cell, graph_with_cells, PoolFrames}
use Rattle.mps_model.specs.Tagging.{tag_count}
use Rattle.mps_model.specs.Dependents.{may_depend, most_dependents}
use Rattle.mps_model.specs.World.{World, committed, Pool, Dependency, block_of_word, id_at, is_automatic_kind, is_running, TransformPair, is_parked, pairs_in, pool_at, pool_of, Collected, OneSize, AnySize, Frames, pool_is, has_frames}
use Rattle.mps_model.specs.Checked.{Act, Checked, Found, Numbered, block_place_in, cells_of_body, chain_named, dependency_named, done, label_named, tag_at, number_at, object_in, point_named, pool_named, reference_at, refuse_when, required, says, slot_in, tells, with_graph, word_in, as_transform, number_named, transform_named, cache_named}
use Rattle.mps_model.specs.Making.{graph_without_root, is_block_size, live_points, make_pool, may_have_point, most_chains, most_dependencies, most_labels, most_points, most_pools, refuse_at_limit, refuse_root, refuse_taken, most_caches, most_frames}
use Rattle.mps_model.specs.Frames.{frame_in, frames_named, open_frames}
use Rattle.mps_model.specs.Caches.{act_kept, act_taken, are_class_sizes, graph_cleared, kept_by, may_have_cache, new_classes, taken_from}
use Rattle.mps_model.specs.Placement.{ForAlloc, ForReserve, placement_of}
use Rattle.mps_model.specs.Allocating.{Reserving, allows_size, block_in, check_reserve, committed_object, graph_with_word, refuse_without_place, with_reservation, with_reserved_cells, words_at, world_committed}
use Rattle.mps_model.specs.Accessing.{Poked, AsBlock, AsMarked, AsNumber, act_poke_in, act_poked, held_in, poked, same_target}
use Rattle.mps_model.specs.Collecting.{act_message_in, most_registrations}
use Rattle.mps_model.specs.Reply.{act}
use Rattle.mps_changes.proofs.Checks.{with_value, after_check, andthen, required-is, without_root}
use Rattle.mps_changes.specs.Change.{ForAct, accepted}
use Rattle.mps_laws.specs.Held.{target_of_slot, target_found}
use Rattle.mps_laws.proofs.FoundBy.{object_found}
use Rattle.mps_client_laws.specs.Objects.{writes_cell, writes_word, is_this, block_of_place, pairs_named, block_taken}
use Rattle.mps_client_laws.proofs.Cells.{WritesOneCell, number_is_one_cell, target_is_one_cell, tag_is_one_cell}
use Rattle.mps_model.specs.Transforms.{has_live_reservation, is_blocked, is_old, most_pairs, most_transforms, pairs_of, world_substituted, graph_substituted}
use Rattle.std.specs.List.{list_any}
use Rattle.std.specs.Option.{option_map_or}

-- the objects after a call
pub data Writes (c : Call) (v u : World) : Type 0 where
  Nothing : u.graph.objects ≡ v.graph.objects → Writes c v u
  OneMore : (o : Object) → u.graph.objects ≡ with_last v.graph.objects o → Writes c v u
  ACell : (id k : ℕ) (change : List Cell → List Cell) → WritesOneCell k change → writes_cell v c id k ≡ true
      → u.graph.objects ≡ (graph_with_cells v.graph id change).objects → Writes c v u
  AWord : (id k value : ℕ) → writes_word v c id k ≡ true → u.graph.objects ≡ (graph_with_word v.graph id k value).objects → Writes c v u
  Replaced : (transform : Name) (pairs : List TransformPair) → c ≡ call.TransformApply transform → pairs ≡ pairs_named v transform
      → u.graph.objects ≡ (graph_substituted v.graph pairs).objects → Writes c v u
  Clears : (id : ℕ) → ((k : ℕ) → writes_word v c id k ≡ true) → u.graph.objects ≡ (graph_cleared v.graph id).objects → Writes c v u

is_this-same : (id : ℕ) (target : Option ℕ) → target ≡ Some id → is_this id target ≡ true
is_this-same id target e = ap (is_this id) e ∙ eq-eqb id id refl

-- the cell of the object in a slot is the one that the call writes
this_cell : (v : World) (slot : Slot) (k : ℕ) (from : Found (Option ℕ)) (object : Numbered Object) → slot_in v slot ≡ Ok from
    → object_in v from.value ≡ Ok object → (is_this object.number (target_of_slot v slot) && k == k) ≡ true
this_cell v slot k from object there is =
    and_from (is_this object.number (target_of_slot v slot)) (k == k)
    (is_this-same object.number (target_of_slot v slot) (ap target_found there ∙ (object_found v from.value object is).0))
    (eq-eqb k k refl)

this_word : (v : World) (place : Slot) (k : ℕ) (at : Found (Option ℕ)) (id : ℕ) → block_place_in v place ≡ Ok at → block_in at ≡ Ok id
    → (is_this id (block_of_place v place) && k == k) ≡ true
this_word v place k at id there is =
    and_from (is_this id (block_of_place v place)) (k == k)
    (is_this-same id (block_of_place v place) (ap target_found there ∙ required-is at.value refusal.NotABlock id is)) (eq-eqb k k refl)

module _ (marked : Bool) (judged v : World) where
  abbrev Leads : Call → Checked Act → Type 0
  Leads c x = ForAct (Writes c v) x

  same : {c : Call} {u : World} → u.graph.objects ≡ v.graph.objects → Writes c v u
  same e = Nothing e

  yes_or_no : {c : Call} (b : Bool) → Leads c (tells b v)
  yes_or_no true = accepted (same refl)
  yes_or_no false = accepted (same refl)

  made : {c : Call} (name : Name) (p : Pool) → Leads c (make_pool v name p)
  made name p = after_check (refuse_at_limit (length v.pools) most_pools) (accepted (same refl))

  init : {c : Call} (p : Numbered Point) (r : Reservation) (cells : List Cell) → Leads c (done (with_reserved_cells v p r cells))
  init {c} p r cells = by_case r.is_doomed
    where
      by_case : (b : Bool)
          → Leads c (done (if b then v else with_graph v (with_reservation v.graph p (Some (record r { cells = cells })))))
      by_case true = accepted (same refl)
      by_case false = accepted (same refl)

  commits : {c : Call} (p : Numbered Point) (r : Reservation) (slot : Found (Option ℕ))
      → Leads c (if r.is_doomed then says reply.Flipped (with_graph v (with_reservation v.graph p None)) else done
      (world_committed v p r slot))
  commits {c} p r slot = by_case r.is_doomed
    where
      by_case : (b : Bool)
          → Leads c (if b then says reply.Flipped (with_graph v (with_reservation v.graph p None)) else done (world_committed v p r slot))
      by_case true = accepted (same refl)
      by_case false = accepted (OneMore (committed_object p.value r) refl)

  pokes : {c : Call} (word : ℕ) (at : Found AreaWord) (o : Option ℕ) → Leads c (act_poke_in v at word marked o)
  pokes word at None = accepted (same refl)
  pokes {c} word at (Some id) = by_case (poked v id) marked
    where
      by_case : (p : Poked) (m : Bool) → Leads c (act_poked v at id word p m)
      by_case AsBlock m = accepted (same refl)
      by_case AsNumber m = accepted (same refl)
      by_case AsMarked true = accepted (same refl)
      by_case AsMarked false = accepted (same refl)

  takes_message : {c : Call} (into : Found (Option ℕ)) (ids : List ℕ) → Leads c (act_message_in v into ids)
  takes_message into [] = accepted (same refl)
  takes_message into (id ∷ ids) = accepted (same refl)

  drops : {c : Call} (name : Name) (g : Graph) → graph_without_root v.graph name (thing_named v.graph name) ≡ Some g
      → Writes c v (with_graph v g)
  drops {c} name g e = without_root (λ h. Writes c v (with_graph v h)) v.graph name (thing_named v.graph name) g e
      (λ n is. same refl) (λ n is. same refl)

  applies : (transform : Name) (n : ℕ) → transform_named v transform ≡ Ok n
      → Leads (call.TransformApply transform)
      (if is_blocked v (pairs_of v.state n) then says reply.No v else says reply.Yes (world_substituted v transform n))
  applies transform n e = by_case (is_blocked v (pairs_of v.state n))
    where
      by_case : (b : Bool) → Leads (call.TransformApply transform)
          (if b then says reply.No v else says reply.Yes (world_substituted v transform n))
      by_case true = accepted (same refl)
      by_case false =
          accepted (Replaced transform (pairs_of v.state n) refl (sym (ap (λ o. option_map_or (pairs_of v.state) o [])
          (required-is (number_named v transform as_transform) refusal.BadName n e))) refl)

  takes : (cache : Name) (from : Numbered Cache) (words : ℕ) (into : Slot) (place : Found (Option ℕ)) → cache_named v cache ≡ Ok from
      → (o : Option (ℕ × List CacheClass)) → taken_from from.value.classes words ≡ o
      → Leads (call.CacheAlloc cache words into) (act_taken judged v from words place o)
  takes cache from words into place e (Some taken) is =
      accepted (Clears taken.0 (λ k. is_this-same taken.0 (block_taken (cache_named v cache) words)
      (ap (λ q. block_taken q words) e ∙ ap (option_map (λ (t : ℕ × List CacheClass). t.0)) is)) refl)
  takes cache from words into place e None is =
      after_check (refuse_without_place (placement_of judged (ForAlloc from.value.pool words))) (accepted (OneMore _ refl))

  keeps : {c : Call} (into : Numbered Cache) (place : Found (Option ℕ)) (o : Option (List CacheClass)) → Leads c (act_kept v into place o)
  keeps into place (Some classes) = accepted (same refl)
  keeps into place None = accepted (same refl)

  pub writes_of_act : (c : Call) → Leads c (act marked judged v c)
  writes_of_act (call.Arena grains limit) = accepted (same refl)
  writes_of_act (call.Limit limit) =
      after_check (refuse_when (nat_lt limit (committed v)) refusal.BelowCommitted) (accepted (same refl))
  writes_of_act call.Committed = accepted (same refl)
  writes_of_act (call.Chain chain count capacities) =
      after_check (refuse_taken v chain) (after_check (refuse_at_limit (length v.chains) most_chains) (accepted (same refl)))
  writes_of_act (call.Pool pool kind format) =
      after_check (refuse_taken v pool) (made pool (record { kind = Collected kind; format = format; chain = None }))
  writes_of_act (call.PoolOnChain pool kind format chain) =
      after_check (refuse_taken v pool) (andthen (chain_named v chain) (λ (on : Numbered (List ℕ)).
      made pool (record { kind = Collected kind; format = format; chain = Some on.number })))
  writes_of_act (call.PoolMfs pool words) =
      after_check (refuse_taken v pool) (after_check (refuse_when (not (is_block_size words)) refusal.BadSize)
      (made pool (record { kind = OneSize words; format = 0; chain = None })))
  writes_of_act (call.PoolMvff pool) = after_check (refuse_taken v pool) (made pool (record { kind = AnySize; format = 0; chain = None }))
  writes_of_act (call.PoolFrames pool) = after_check (refuse_taken v pool) (made pool (record { kind = Frames; format = 0; chain = None }))
  writes_of_act (call.Table table slots) = after_check (refuse_taken v table)
      (after_check (refuse_root v slots) (accepted (same refl)))
  writes_of_act (call.Area area words) = after_check (refuse_taken v area)
      (after_check (refuse_root v words) (accepted (same refl)))
  writes_of_act (call.Blocks blocks places) = after_check (refuse_taken v blocks)
      (after_check (refuse_root v places) (accepted (same refl)))
  writes_of_act (call.DropRoot root) =
      with_value (required (graph_without_root v.graph root (thing_named v.graph root)) refusal.BadName) (λ (g : Graph) e.
      accepted (drops root g (required-is (graph_without_root v.graph root (thing_named v.graph root)) refusal.BadName g e)))
  writes_of_act (call.Point point pool rank) =
      after_check (refuse_taken v point) (andthen (pool_named v pool) (λ (of : Numbered Pool).
      after_check (refuse_when (not (may_have_point of.value.kind rank)) refusal.WrongPool)
      (after_check (refuse_at_limit (live_points v.graph) most_points) (accepted (same refl)))))
  writes_of_act (call.DropPoint point) =
      andthen (point_named v point) (λ (p : Numbered Point).
      after_check (refuse_when (is_some p.value.reservation) refusal.Open) (accepted (same refl)))
  writes_of_act (call.Dependency dependency) =
      after_check (refuse_taken v dependency) (after_check (refuse_at_limit (length v.dependencies) most_dependencies)
      (accepted (same refl)))
  writes_of_act (call.Reserve point head) =
      andthen (check_reserve judged point head) (λ (r : Reserving).
      after_check (refuse_without_place (placement_of judged (ForReserve r.point.number (length r.cells))))
      (andthen (point_named v point) (λ (p : Numbered Point). accepted (same refl))))
  writes_of_act (call.InitNumber point cell value) =
      andthen (point_named v point) (λ (p : Numbered Point).
      andthen (required p.value.reservation refusal.NotOpen) (λ (r : Reservation).
      after_check (number_at r.cells cell) (init p r (slice_set r.cells cell (NumberCell value)))))
  writes_of_act (call.InitReference point cell source) =
      andthen (point_named v point) (λ (p : Numbered Point).
      andthen (slot_in v source) (λ (from : Found (Option ℕ)).
      andthen (required p.value.reservation refusal.NotOpen) (λ (r : Reservation).
      after_check (reference_at r.cells cell) (init p r (with_target_cell r.cells cell from.value)))))
  writes_of_act (call.Commit point target) =
      andthen (point_named v point) (λ (p : Numbered Point).
      andthen (slot_in v target) (λ (slot : Found (Option ℕ)).
      andthen (required p.value.reservation refusal.NotOpen) (λ (r : Reservation). commits p r slot)))
  writes_of_act (call.Alloc pool words place) =
      andthen (pool_named judged pool) (λ (p : Numbered Pool).
      after_check (refuse_when (is_automatic_kind p.value.kind) refusal.WrongPool)
      (andthen (block_place_in judged place) (λ (at : Found (Option ℕ)).
      after_check (refuse_when (not (allows_size p.value.kind words)) refusal.BadSize)
      (after_check (refuse_when (is_some at.value) refusal.NameTaken)
      (after_check (refuse_without_place (placement_of judged (ForAlloc p.number words))) (accepted (OneMore _ refl)))))))
  writes_of_act (call.Free place) =
      andthen (block_place_in v place) (λ (at : Found (Option ℕ)). andthen (block_in at) (λ (id : ℕ).
      after_check (refuse_when (pool_is has_frames v (pool_of v id)) refusal.WrongPool) (accepted (same refl))))
  writes_of_act (call.Load place word) =
      andthen (block_place_in v place) (λ (at : Found (Option ℕ)). andthen (block_in at) (λ (id : ℕ).
      andthen (required (slice_get (words_at v.graph id) word) refusal.BadIndex) (λ (n : ℕ). accepted (same refl))))
  writes_of_act (call.Store place word value) =
      with_value (block_place_in v place) (λ (at : Found (Option ℕ)) e. with_value (block_in at) (λ (id : ℕ) f.
      after_check (required (slice_get (words_at v.graph id) word) refusal.BadIndex)
      (accepted (AWord id word value (this_word v place word at id e f) refl))))
  writes_of_act (call.Get target source cell) =
      andthen (slot_in judged target) (λ (into : Found (Option ℕ)).
      andthen (slot_in judged source) (λ (from : Found (Option ℕ)).
      andthen (object_in judged from.value) (λ (object : Numbered Object).
      after_check (reference_at (cells_of_body object.value.body) cell)
      (andthen (object_in v from.value) (λ (now : Numbered Object).
      andthen (reference_at (cells_of_body now.value.body) cell) (λ (read : Option ℕ). accepted (same refl)))))))
  writes_of_act (call.Put target cell source) =
      with_value (slot_in v target) (λ (into : Found (Option ℕ)) e.
      andthen (slot_in v source) (λ (from : Found (Option ℕ)).
      with_value (object_in v into.value) (λ (object : Numbered Object) g.
      after_check (reference_at (cells_of_body object.value.body) cell)
      (accepted (ACell object.number cell (λ cells. with_target_cell cells cell from.value) (target_is_one_cell cell from.value)
      (this_cell v target cell into object e g) refl)))))
  writes_of_act (call.Number slot cell) =
      andthen (slot_in v slot) (λ (from : Found (Option ℕ)). andthen (object_in v from.value) (λ (object : Numbered Object).
      andthen (number_at (cells_of_body object.value.body) cell) (λ (n : ℕ). accepted (same refl))))
  writes_of_act (call.SetNumber slot cell value) =
      with_value (slot_in v slot) (λ (into : Found (Option ℕ)) e.
      with_value (object_in v into.value) (λ (object : Numbered Object) g.
      after_check (number_at (cells_of_body object.value.body) cell)
      (accepted (ACell object.number cell (λ cells. slice_set cells cell (NumberCell value)) (number_is_one_cell cell value)
      (this_cell v slot cell into object e g) refl))))
  writes_of_act (call.Copy target source) =
      andthen (slot_in v target) (λ (into : Found (Option ℕ)).
      andthen (slot_in v source) (λ (from : Found (Option ℕ)). accepted (same refl)))
  writes_of_act (call.Clear slot) = andthen (slot_in v slot) (λ (into : Found (Option ℕ)). accepted (same refl))
  writes_of_act (call.Same slot other) =
      andthen (slot_in v slot) (λ (one : Found (Option ℕ)). andthen (slot_in v other) (λ (two : Found (Option ℕ)).
      yes_or_no (same_target one.value two.value)))
  writes_of_act (call.Null slot) = andthen (slot_in v slot) (λ (from : Found (Option ℕ)). yes_or_no (is_none from.value))
  writes_of_act (call.Head slot) =
      andthen (slot_in v slot) (λ (from : Found (Option ℕ)). andthen (object_in v from.value) (λ (o : Numbered Object).
      accepted (same refl)))
  writes_of_act (call.Address slot) =
      andthen (slot_in v slot) (λ (from : Found (Option ℕ)). andthen (object_in v from.value) (λ (o : Numbered Object).
      accepted (same refl)))
  writes_of_act (call.Poke word value) = andthen (word_in v word) (λ (at : Found AreaWord). pokes value at (block_of_word v value))
  writes_of_act (call.SetTag slot cell tag) =
      with_value (slot_in v slot) (λ (into : Found (Option ℕ)) e.
      with_value (object_in v into.value) (λ (object : Numbered Object) g.
      after_check (reference_at (cells_of_body object.value.body) cell)
      (accepted (ACell object.number cell (λ cells. with_tag_cell cells cell (tag % tag_count)) (tag_is_one_cell cell (tag % tag_count))
      (this_cell v slot cell into object e g) refl))))
  writes_of_act (call.Tag slot cell) =
      andthen (slot_in v slot) (λ (from : Found (Option ℕ)). andthen (object_in v from.value) (λ (object : Numbered Object).
      andthen (tag_at (cells_of_body object.value.body) cell) (λ (tag : ℕ). accepted (same refl))))
  writes_of_act (call.Intern label) =
      after_check (refuse_when (is_taken v.graph label) refusal.NameTaken)
      (after_check (refuse_at_limit (length v.graph.labels) most_labels) (accepted (same refl)))
  writes_of_act (call.Label slot label) =
      andthen (slot_in v slot) (λ (from : Found (Option ℕ)). andthen (object_in v from.value) (λ (object : Numbered Object).
      andthen (label_named v label) (λ (found : Numbered Name). accepted (same refl))))
  writes_of_act (call.Depend holder dependent) =
      andthen (slot_in v holder) (λ (from : Found (Option ℕ)). andthen (slot_in v dependent) (λ (to : Found (Option ℕ)).
      andthen (object_in v from.value) (λ (weak : Numbered Object). andthen (object_in v to.value) (λ (exact : Numbered Object).
      after_check (refuse_when (not (may_depend v weak.value exact.value)) refusal.WrongPool)
      (after_check (refuse_when (is_none (dependent_in v.graph.dependents weak.number)
      && nat_le most_dependents (length v.graph.dependents)) (refusal.TooMany most_dependents)) (accepted (same refl)))))))
  writes_of_act (call.Undepend holder) =
      andthen (slot_in v holder) (λ (from : Found (Option ℕ)). andthen (object_in v from.value) (λ (weak : Numbered Object).
      after_check (required (dependent_in v.graph.dependents weak.number) refusal.NotLinked) (accepted (same refl))))
  writes_of_act (call.Transform transform) =
      after_check (refuse_taken v transform)
      (after_check (refuse_at_limit (count_by (λ is_there. is_there) v.graph.transforms) most_transforms) (accepted (same refl)))
  writes_of_act (call.TransformAdd transform old new) =
      andthen (transform_named v transform) (λ (n : ℕ).
      andthen (slot_in v old) (λ (from : Found (Option ℕ)). andthen (slot_in v new) (λ (to : Found (Option ℕ)).
      andthen (object_in v from.value) (λ (one : Numbered Object). andthen (object_in v to.value) (λ (other : Numbered Object).
      after_check (refuse_when (not (is_parked v)) refusal.NotParked)
      (after_check (refuse_when (is_old (pairs_of v.state n) one.number) refusal.OldTwice)
      (after_check (refuse_at_limit (length (pairs_in v.state)) most_pairs) (accepted (same refl)))))))))
  writes_of_act (call.TransformApply transform) =
      with_value (transform_named v transform) (λ (n : ℕ) e.
      after_check (refuse_when (not (is_parked v)) refusal.NotParked)
      (after_check (refuse_when (list_any has_live_reservation v.graph.points) refusal.Open) (applies transform n e)))
  writes_of_act (call.TransformDrop transform) =
      with_value (transform_named v transform) (λ (n : ℕ) e. accepted (same refl))
  writes_of_act (call.Cache cache pool count sizes limits) =
      after_check (refuse_taken v cache) (andthen (pool_named v pool) (λ (of : Numbered Pool).
      after_check (refuse_when (not (may_have_cache of.value.kind)) refusal.WrongPool)
      (after_check (refuse_when (not (are_class_sizes 0 (new_classes count sizes limits))) refusal.BadSize)
      (after_check (refuse_at_limit (length v.graph.caches) most_caches) (accepted (same refl))))))
  writes_of_act (call.CacheAlloc cache words place) =
      with_value (cache_named v cache) (λ (from : Numbered Cache) e.
      andthen (required (pool_at judged from.value.pool) refusal.BadName) (λ (p : Pool).
      andthen (block_place_in v place) (λ (at : Found (Option ℕ)).
      after_check (refuse_when (not (allows_size p.kind words)) refusal.BadSize)
      (after_check (refuse_when (is_some at.value) refusal.NameTaken)
      (takes cache from words place at e (taken_from from.value.classes words) refl)))))
  writes_of_act (call.CacheFree cache place) =
      andthen (cache_named v cache) (λ (into : Numbered Cache). andthen (block_place_in v place) (λ (at : Found (Option ℕ)).
      andthen (block_in at) (λ (id : ℕ). after_check (refuse_when (not (pool_of v id == into.value.pool)) refusal.WrongPool)
      (keeps into at (kept_by v into.value id)))))
  writes_of_act (call.CacheFlush cache) = andthen (cache_named v cache) (λ (from : Numbered Cache). accepted (same refl))
  writes_of_act (call.Push pool) =
      andthen (frames_named v pool) (λ (f : PoolFrames).
      after_check (refuse_at_limit (open_frames v.graph) most_frames) (accepted (same refl)))
  writes_of_act (call.Pop pool frame) =
      andthen (frames_named v pool) (λ (f : PoolFrames). andthen (frame_in f frame) (λ (before : ℕ). accepted (same refl)))
  writes_of_act (call.Peek word) = andthen (word_in v word) (λ (at : Found AreaWord). accepted (same refl))
  writes_of_act (call.Pin word slot) =
      andthen (word_in v word) (λ (at : Found AreaWord). andthen (slot_in v slot) (λ (from : Found (Option ℕ)).
      andthen (object_in v from.value) (λ (object : Numbered Object). accepted (same refl))))
  writes_of_act (call.Take slot word) =
      andthen (slot_in v slot) (λ (into : Found (Option ℕ)). andthen (word_in v word) (λ (at : Found AreaWord).
      andthen (held_in at.value) (λ (id : ℕ). accepted (same refl))))
  writes_of_act call.Start = after_check (refuse_when (is_running judged) refusal.Running) (accepted (same refl))
  writes_of_act (call.StartChain chain generation) =
      andthen (chain_named judged chain) (λ (on : Numbered (List ℕ)).
      after_check (refuse_when (nat_le (length on.value) generation) refusal.BadIndex)
      (after_check (refuse_when (is_running judged) refusal.Running) (accepted (same refl))))
  writes_of_act (call.Step units) = accepted (same refl)
  writes_of_act call.Collect = accepted (same refl)
  writes_of_act call.Clamp = accepted (same refl)
  writes_of_act call.Park = accepted (same refl)
  writes_of_act call.Release = accepted (same refl)
  writes_of_act (call.Finalize slot) =
      andthen (slot_in v slot) (λ (from : Found (Option ℕ)). andthen (object_in v from.value) (λ (object : Numbered Object).
      after_check (refuse_when (nat_le most_registrations (length v.graph.registered + length v.graph.messages))
      (refusal.TooMany most_registrations)) (accepted (same refl))))
  writes_of_act (call.Definalize slot) =
      andthen (slot_in v slot) (λ (from : Found (Option ℕ)). andthen (object_in v from.value) (λ (object : Numbered Object).
      andthen (required (position_of_first v.graph.registered object.number) refusal.NotRegistered) (λ (position : ℕ).
      accepted (same refl))))
  writes_of_act (call.Message slot) = andthen (slot_in v slot) (λ (into : Found (Option ℕ)). takes_message into v.graph.messages)
  writes_of_act (call.DependencyReset dependency) =
      andthen (dependency_named v dependency) (λ (d : Numbered Dependency). accepted (same refl))
  writes_of_act (call.DependencyAdd dependency slot) =
      andthen (dependency_named v dependency) (λ (d : Numbered Dependency). andthen (slot_in v slot) (λ (from : Found (Option ℕ)).
      andthen (object_in v from.value) (λ (object : Numbered Object). accepted (same refl))))
  writes_of_act (call.DependencyMerge dependency source) =
      andthen (dependency_named v dependency) (λ (d : Numbered Dependency). andthen (dependency_named v source)
      (λ (e : Numbered Dependency). accepted (same refl)))
  writes_of_act (call.DependencyStale dependency) =
      andthen (dependency_named v dependency) (λ (d : Numbered Dependency). yes_or_no (is_stale v.flips d.value.epoch d.value.zones))
  writes_of_act call.Live = accepted (same refl)
  writes_of_act (call.Dump at) =
      after_check (refuse_when (is_running v) refusal.Running)
      (andthen (required (id_at v at) refusal.NotABlock) (λ (id : ℕ). accepted (same refl)))
