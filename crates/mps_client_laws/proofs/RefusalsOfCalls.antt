-- Which refusals each call may have: one walk over all calls and their checks.
use Rattle.std.proofs.Common.{ℕ, ◌+◌, Bool, true, false, refl, List, [], ◌∷◌, length, Option, Some, None, Ok, Err}
use Rattle.std.specs.Prelude.{◌&&◌, if◌then◌else◌, is_none, is_some, nat_le, nat_lt, not, slice_get, count_by, ◌==◌}
use Rattle.mps_base.specs.Staleness.{is_stale}
use Rattle.mps_base.specs.declared.names.Name.{Name}
use Rattle.mps_base.specs.declared.names.Slot.{Slot}
use Rattle.mps_base.specs.declared.refusal.Refusal.{Refusal}
use Rattle.mps_base.specs.declared.refusal.Refusal.TheVariants as refusal
use Rattle.mps_model.specs.declared.call.Call.{Call}
use Rattle.mps_model.specs.declared.call.Call.TheVariants as call
use Rattle.mps_model.specs.declared.reply.Reply.TheVariants as reply
use Rattle.mps_model.specs.Graph.{AreaWord, PlainWord, Hold, Graph, Object, Point, Reservation, dependent_in, entry_at, is_taken, position_of_first, thing_named, Cache, CacheClass, PoolFrames}
use Rattle.mps_model.specs.World.{World, Pool, Dependency, block_of_word, committed, id_at, is_automatic_kind, is_running, pool_at, is_parked, pairs_in, pool_of, Collected, OneSize, AnySize, Frames, pool_is, has_frames}
use Rattle.mps_model.specs.Placement.{ForReserve, placement_of}
use Rattle.mps_model.specs.Checked.{Act, Checked, Found, Numbered, ◌>>=◌, ◌>>◌, as_area, as_blocks, as_chain, as_dependency, as_label, as_point, as_pool, as_table, block_place_in, cells_of_body, chain_named, dependency_named, done, label_named, number_named, point_named, pool_named, says, slot_in, tells, with_graph, word_in, as_transform, transform_named, cache_named, as_cache}
use Rattle.mps_model.specs.Making.{graph_without_root, is_block_size, live_points, live_roots, live_slots, make_pool, may_have_point, most_chains, most_dependencies, most_labels, most_points, most_pools, most_roots, most_slots, refuse_at_limit, refuse_root, refuse_taken, most_caches, most_frames}
use Rattle.mps_model.specs.Frames.{frames_named, frames_of, open_frames}
use Rattle.mps_model.specs.Caches.{act_kept, act_taken, are_class_sizes, kept_by, may_have_cache, new_classes, taken_from}
use Rattle.mps_model.specs.Allocating.{Reserving, allows_size, block_in, check_reserve, refuse_without_place, takes_head, with_reservation, with_reserved, words_at, world_committed, address_of_placement}
use Rattle.mps_model.specs.Accessing.{Poked, AsBlock, AsMarked, AsNumber, act_poke_in, act_poked, held_in, poked, same_target}
use Rattle.mps_model.specs.Dependents.{may_depend, most_dependents}
use Rattle.mps_model.specs.Collecting.{act_message_in, most_registrations}
use Rattle.mps_model.specs.Reply.{act}
use Rattle.mps_client_laws.specs.Refusals.{no_run, over_limit, refusals_of, words_of_checked}
use Rattle.mps_client_laws.proofs.Failing.{IsOf, first, second, third, fourth, fifth, sixth, seventh, Fails, passes, fails, Comes, answered, is_refusal, value_then, check_then, checks, checked, required_fails, when_fails, entry_fails, named_fails, object_fails, number_fails, reference_fails, tag_fails}
use Rattle.mps_client_laws.proofs.Room.{alloc_fails, reserve_fails}
use Rattle.mps_model.specs.Transforms.{has_live_reservation, is_blocked, is_old, most_pairs, most_transforms, pairs_of, world_substituted}
use Rattle.std.specs.List.{list_any}

-- ---- what is named

module _ {whys : List Refusal} (w : World) where
  module _ (slot : Slot) (name : IsOf refusal.BadName whys) (index : IsOf refusal.BadIndex whys) where
    slot_fails : Fails whys (slot_in w slot)
    slot_fails = entry_fails name index (number_named w slot.name as_table) (entry_at w.graph.tables) slot.index

    word_fails : Fails whys (word_in w slot)
    word_fails = entry_fails name index (number_named w slot.name as_area) (entry_at w.graph.areas) slot.index

    place_fails : Fails whys (block_place_in w slot)
    place_fails = entry_fails name index (number_named w slot.name as_blocks) (slice_get w.graph.blocks) slot.index

  module _ (name : Name) (is : IsOf refusal.BadName whys) where
    chain_fails : Fails whys (chain_named w name)
    chain_fails = named_fails (number_named w name as_chain) (slice_get w.chains) is

    pool_fails : Fails whys (pool_named w name)
    pool_fails = named_fails (number_named w name as_pool) (slice_get w.pools) is

    point_fails : Fails whys (point_named w name)
    point_fails = named_fails (number_named w name as_point) (entry_at w.graph.points) is

    dependency_fails : Fails whys (dependency_named w name)
    dependency_fails = named_fails (number_named w name as_dependency) (slice_get w.dependencies) is

    cache_fails : Fails whys (cache_named w name)
    cache_fails = named_fails (number_named w name as_cache) (slice_get w.graph.caches) is

    label_fails : Fails whys (label_named w name)
    label_fails = named_fails (number_named w name as_label) (slice_get w.graph.labels) is

    transform_fails : Fails whys (transform_named w name)
    transform_fails = required_fails (number_named w name as_transform) refusal.BadName is

  taken_fails : (name : Name) → IsOf refusal.NameTaken whys → Fails whys (refuse_taken w name)
  taken_fails name is = when_fails (is_taken w.graph name) refusal.NameTaken is

  limit_fails : (number limit : ℕ) → IsOf (refusal.TooMany limit) whys → Fails whys (refuse_at_limit number limit)
  limit_fails number limit is = when_fails (nat_le limit number) (refusal.TooMany limit) is

  root_fails : (slots : ℕ) → IsOf (refusal.TooMany most_roots) whys → IsOf (refusal.TooMany most_slots) whys
      → Fails whys (refuse_root w slots)
  root_fails slots roots of_slots =
      checked (limit_fails (live_roots w.graph) most_roots roots)
      (when_fails (nat_lt most_slots (live_slots w.graph + slots)) (refusal.TooMany most_slots) of_slots)

  block_fails : (place : Found (Option ℕ)) → IsOf refusal.NotABlock whys → Fails whys (block_in place)
  block_fails place is = required_fails place.value refusal.NotABlock is

  frames_fail : (name : Name) → IsOf refusal.BadName whys → IsOf refusal.WrongPool whys → Fails whys (frames_named w name)
  frames_fail name bad_name wrong_pool =
      checks (pool_fails name bad_name) (λ (p : Numbered Pool).
      checked (when_fails (not (has_frames p.value.kind)) refusal.WrongPool wrong_pool)
      (required_fails (frames_of w.graph p.number) refusal.WrongPool wrong_pool))

  held_fails : (word : AreaWord) → IsOf refusal.NotARef whys → Fails whys (held_in word)
  held_fails (Hold id offset) is = passes id
  held_fails (PlainWord number) is = fails is

  check_reserve_fails : (name : Name) (head : ℕ) → IsOf refusal.BadName whys → IsOf refusal.BadHead whys → IsOf refusal.Open whys
      → Fails whys (check_reserve w name head)
  check_reserve_fails name head bad_name bad_head is_open =
      checks (point_fails name bad_name) (λ (point : Numbered Point).
      checks (required_fails (pool_at w point.value.pool) refusal.BadName bad_name) (λ (pool : Pool).
      checked (when_fails (not (takes_head w pool head)) refusal.BadHead bad_head)
      (checked (when_fails (is_some point.value.reservation) refusal.Open is_open) (passes _))))

-- ---- what is answered

module _ {whys : List Refusal} (v : World) where
  yes_or_no : (b : Bool) → Comes whys (tells b v)
  yes_or_no true = answered refl
  yes_or_no false = answered refl

  made : (name : Name) (p : Pool) → IsOf (refusal.TooMany most_pools) whys → Comes whys (make_pool v name p)
  made name p is = check_then (limit_fails v (length v.pools) most_pools is) (answered refl)

  commits : (p : Numbered Point) (r : Reservation) (slot : Found (Option ℕ))
      → Comes whys (if r.is_doomed then says reply.Flipped (with_graph v (with_reservation v.graph p None)) else done
      (world_committed v p r slot))
  commits p r slot = by_case r.is_doomed
    where
      flipped : Checked Act
      flipped = says reply.Flipped (with_graph v (with_reservation v.graph p None))

      by_case : (b : Bool) → Comes whys (if b then flipped else done (world_committed v p r slot))
      by_case true = answered refl
      by_case false = answered refl

  pokes : (marked : Bool) (word : ℕ) (at : Found AreaWord) (o : Option ℕ) → Comes whys (act_poke_in v at word marked o)
  pokes marked word at None = answered refl
  pokes marked word at (Some id) = by_case (poked v id) marked
    where
      by_case : (p : Poked) (m : Bool) → Comes whys (act_poked v at id word p m)
      by_case AsBlock m = answered refl
      by_case AsNumber m = answered refl
      by_case AsMarked true = answered refl
      by_case AsMarked false = answered refl

  takes_message : (into : Found (Option ℕ)) (ids : List ℕ) → Comes whys (act_message_in v into ids)
  takes_message into [] = answered refl
  takes_message into (id ∷ ids) = answered refl

  applies : (transform : Name) (n : ℕ) (b : Bool)
      → Comes whys (if b then says reply.No v else says reply.Yes (world_substituted v transform n))
  applies transform n true = answered refl
  applies transform n false = answered refl

  steps_on : (b : Bool) → Comes whys (says (if b then reply.More else reply.Idle) v)
  steps_on true = answered refl
  steps_on false = answered refl

-- ---- each call

module _ (marked : Bool) (judged v : World) where
  abbrev Right : Call → Type 0
  Right c = Comes (refusals_of judged c) (act marked judged v c)

  abbrev opens : Name → (head : ℕ) → Reserving → Checked Act
  opens point head r =
      refuse_without_place (placement_of judged (ForReserve r.point.number (length r.cells)))
      >> (point_named v point >>= (λ p. done (with_reserved v p (record { head = head; cells = r.cells; is_doomed = false })
      (address_of_placement (placement_of v (ForReserve p.number (length r.cells)))))))

  -- a `reserve` is refused for the words of its block
  abbrev refusals_reserved : (words : ℕ) → List Refusal
  refusals_reserved words =
      refusal.BadName ∷ refusal.BadHead ∷ refusal.Open ∷ over_limit judged words ∷ no_run judged words ∷ []

  reserves : (point : Name) (head : ℕ) (x : Checked Reserving) → Fails (refusals_reserved (words_of_checked x)) x
      → Comes (refusals_reserved (words_of_checked x)) (x >>= opens point head)
  reserves point head (Ok r) is =
      check_then (reserve_fails judged (length r.cells) fourth fifth r.point.number)
      (value_then (point_fails v point first) (λ (p : Numbered Point). answered refl))
  reserves point head (Err why) (fails is) = is_refusal is

  takes : (from : Numbered Cache) (words : ℕ) (place : Found (Option ℕ)) (o : Option (ℕ × List CacheClass))
      → Comes (refusal.BadName ∷ refusal.BadIndex ∷ refusal.BadSize ∷ refusal.NameTaken
      ∷ over_limit judged words ∷ no_run judged words ∷ [])
      (act_taken judged v from words place o)
  takes from words place (Some taken) = answered refl
  takes from words place None = check_then (alloc_fails judged words fifth sixth from.value.pool) (answered refl)

  keeps : {whys : List Refusal} (into : Numbered Cache) (place : Found (Option ℕ)) (o : Option (List CacheClass))
      → Comes whys (act_kept v into place o)
  keeps into place (Some classes) = answered refl
  keeps into place None = answered refl

  pub refusals_of_act : (c : Call) → Right c
  refusals_of_act (call.Arena grains limit) = answered refl
  refusals_of_act (call.Limit limit) = check_then (when_fails (nat_lt limit (committed v)) refusal.BelowCommitted first) (answered refl)
  refusals_of_act call.Committed = answered refl
  refusals_of_act (call.Chain chain count capacities) =
      check_then (taken_fails v chain first) (check_then (limit_fails v (length v.chains) most_chains second) (answered refl))
  refusals_of_act (call.Pool pool kind format) =
      check_then (taken_fails v pool first) (made v pool (record { kind = Collected kind; format = format; chain = None }) second)
  refusals_of_act (call.PoolOnChain pool kind format chain) =
      check_then (taken_fails v pool first) (value_then (chain_fails v chain second) (λ (on : Numbered (List ℕ)).
      made v pool (record { kind = Collected kind; format = format; chain = Some on.number }) third))
  refusals_of_act (call.PoolMfs pool words) =
      check_then (taken_fails v pool first)
      (check_then (when_fails (not (is_block_size words)) refusal.BadSize second)
      (made v pool (record { kind = OneSize words; format = 0; chain = None }) third))
  refusals_of_act (call.PoolMvff pool) =
      check_then (taken_fails v pool first) (made v pool (record { kind = AnySize; format = 0; chain = None }) second)
  refusals_of_act (call.PoolFrames pool) =
      check_then (taken_fails v pool first) (made v pool (record { kind = Frames; format = 0; chain = None }) second)
  refusals_of_act (call.Table table slots) =
      check_then (taken_fails v table first) (check_then (root_fails v slots second third) (answered refl))
  refusals_of_act (call.Area area words) =
      check_then (taken_fails v area first) (check_then (root_fails v words second third) (answered refl))
  refusals_of_act (call.Blocks blocks places) =
      check_then (taken_fails v blocks first) (check_then (root_fails v places second third) (answered refl))
  refusals_of_act (call.DropRoot root) =
      value_then (required_fails (graph_without_root v.graph root (thing_named v.graph root)) refusal.BadName first)
      (λ (g : Graph). answered refl)
  refusals_of_act (call.Point point pool rank) =
      check_then (taken_fails v point first) (value_then (pool_fails v pool second) (λ (of : Numbered Pool).
      check_then (when_fails (not (may_have_point of.value.kind rank)) refusal.WrongPool third)
      (check_then (limit_fails v (live_points v.graph) most_points fourth) (answered refl))))
  refusals_of_act (call.DropPoint point) =
      value_then (point_fails v point first) (λ (p : Numbered Point).
      check_then (when_fails (is_some p.value.reservation) refusal.Open second) (answered refl))
  refusals_of_act (call.Dependency dependency) =
      check_then (taken_fails v dependency first)
      (check_then (limit_fails v (length v.dependencies) most_dependencies second) (answered refl))
  refusals_of_act (call.Reserve point head) =
      reserves point head (check_reserve judged point head) (check_reserve_fails judged point head first second third)
  refusals_of_act (call.InitNumber point cell value) =
      value_then (point_fails v point first) (λ (p : Numbered Point).
      value_then (required_fails p.value.reservation refusal.NotOpen second) (λ (r : Reservation).
      check_then (number_fails r.cells cell third fourth) (answered refl)))
  refusals_of_act (call.InitReference point cell source) =
      value_then (point_fails v point first) (λ (p : Numbered Point).
      value_then (slot_fails v source first second) (λ (from : Found (Option ℕ)).
      value_then (required_fails p.value.reservation refusal.NotOpen third) (λ (r : Reservation).
      check_then (reference_fails r.cells cell second fourth) (answered refl))))
  refusals_of_act (call.Commit point target) =
      value_then (point_fails v point first) (λ (p : Numbered Point).
      value_then (slot_fails v target first second) (λ (slot : Found (Option ℕ)).
      value_then (required_fails p.value.reservation refusal.NotOpen third) (λ (r : Reservation). commits v p r slot)))
  refusals_of_act (call.Alloc pool words place) =
      value_then (pool_fails judged pool first) (λ (p : Numbered Pool).
      check_then (when_fails (is_automatic_kind p.value.kind) refusal.WrongPool second)
      (value_then (place_fails judged place first third) (λ (at : Found (Option ℕ)).
      check_then (when_fails (not (allows_size p.value.kind words)) refusal.BadSize fourth)
      (check_then (when_fails (is_some at.value) refusal.NameTaken fifth)
      (check_then (alloc_fails judged words sixth seventh p.number) (answered refl))))))
  refusals_of_act (call.Free place) =
      value_then (place_fails v place first second) (λ (at : Found (Option ℕ)).
      value_then (block_fails v at third) (λ (id : ℕ).
      check_then (when_fails (pool_is has_frames v (pool_of v id)) refusal.WrongPool fourth) (answered refl)))
  refusals_of_act (call.Load place word) =
      value_then (place_fails v place first second) (λ (at : Found (Option ℕ)). value_then (block_fails v at third) (λ (id : ℕ).
      value_then (required_fails (slice_get (words_at v.graph id) word) refusal.BadIndex second) (λ (n : ℕ). answered refl)))
  refusals_of_act (call.Store place word value) =
      value_then (place_fails v place first second) (λ (at : Found (Option ℕ)). value_then (block_fails v at third) (λ (id : ℕ).
      check_then (required_fails (slice_get (words_at v.graph id) word) refusal.BadIndex second) (answered refl)))
  refusals_of_act (call.Get target source cell) =
      value_then (slot_fails judged target first second) (λ (into : Found (Option ℕ)).
      value_then (slot_fails judged source first second) (λ (from : Found (Option ℕ)).
      value_then (object_fails judged from.value third) (λ (object : Numbered Object).
      check_then (reference_fails (cells_of_body object.value.body) cell second fourth)
      (value_then (object_fails v from.value third) (λ (now : Numbered Object).
      value_then (reference_fails (cells_of_body now.value.body) cell second fourth) (λ (read : Option ℕ). answered refl))))))
  refusals_of_act (call.Put target cell source) =
      value_then (slot_fails v target first second) (λ (into : Found (Option ℕ)).
      value_then (slot_fails v source first second) (λ (from : Found (Option ℕ)).
      value_then (object_fails v into.value third) (λ (object : Numbered Object).
      check_then (reference_fails (cells_of_body object.value.body) cell second fourth) (answered refl))))
  refusals_of_act (call.Number slot cell) =
      value_then (slot_fails v slot first second) (λ (from : Found (Option ℕ)).
      value_then (object_fails v from.value third) (λ (object : Numbered Object).
      value_then (number_fails (cells_of_body object.value.body) cell second fourth) (λ (n : ℕ). answered refl)))
  refusals_of_act (call.SetNumber slot cell value) =
      value_then (slot_fails v slot first second) (λ (into : Found (Option ℕ)).
      value_then (object_fails v into.value third) (λ (object : Numbered Object).
      check_then (number_fails (cells_of_body object.value.body) cell second fourth) (answered refl)))
  refusals_of_act (call.Copy target source) =
      value_then (slot_fails v target first second) (λ (into : Found (Option ℕ)).
      value_then (slot_fails v source first second) (λ (from : Found (Option ℕ)). answered refl))
  refusals_of_act (call.Clear slot) = value_then (slot_fails v slot first second) (λ (into : Found (Option ℕ)). answered refl)
  refusals_of_act (call.Same slot other) =
      value_then (slot_fails v slot first second) (λ (one : Found (Option ℕ)).
      value_then (slot_fails v other first second) (λ (two : Found (Option ℕ)). yes_or_no v (same_target one.value two.value)))
  refusals_of_act (call.Null slot) =
      value_then (slot_fails v slot first second) (λ (from : Found (Option ℕ)). yes_or_no v (is_none from.value))
  refusals_of_act (call.Head slot) =
      value_then (slot_fails v slot first second) (λ (from : Found (Option ℕ)).
      value_then (object_fails v from.value third) (λ (o : Numbered Object). answered refl))
  refusals_of_act (call.Address slot) =
      value_then (slot_fails v slot first second) (λ (from : Found (Option ℕ)).
      value_then (object_fails v from.value third) (λ (o : Numbered Object). answered refl))
  refusals_of_act (call.SetTag slot cell tag) =
      value_then (slot_fails v slot first second) (λ (into : Found (Option ℕ)).
      value_then (object_fails v into.value third) (λ (object : Numbered Object).
      check_then (reference_fails (cells_of_body object.value.body) cell second fourth) (answered refl)))
  refusals_of_act (call.Tag slot cell) =
      value_then (slot_fails v slot first second) (λ (from : Found (Option ℕ)).
      value_then (object_fails v from.value third) (λ (object : Numbered Object).
      value_then (tag_fails (cells_of_body object.value.body) cell second fourth) (λ (tag : ℕ). answered refl)))
  refusals_of_act (call.Intern label) =
      check_then (taken_fails v label first) (check_then (limit_fails v (length v.graph.labels) most_labels second) (answered refl))
  refusals_of_act (call.Label slot label) =
      value_then (slot_fails v slot first second) (λ (from : Found (Option ℕ)).
      value_then (object_fails v from.value third) (λ (object : Numbered Object).
      value_then (label_fails v label first) (λ (found : Numbered Name). answered refl)))
  refusals_of_act (call.Depend holder dependent) =
      value_then (slot_fails v holder first second) (λ (from : Found (Option ℕ)).
      value_then (slot_fails v dependent first second) (λ (to : Found (Option ℕ)).
      value_then (object_fails v from.value third) (λ (weak : Numbered Object).
      value_then (object_fails v to.value third) (λ (exact : Numbered Object).
      check_then (when_fails (not (may_depend v weak.value exact.value)) refusal.WrongPool fourth)
      (check_then (when_fails (is_none (dependent_in v.graph.dependents weak.number)
      && nat_le most_dependents (length v.graph.dependents)) (refusal.TooMany most_dependents) fifth) (answered refl))))))
  refusals_of_act (call.Undepend holder) =
      value_then (slot_fails v holder first second) (λ (from : Found (Option ℕ)).
      value_then (object_fails v from.value third) (λ (weak : Numbered Object).
      check_then (required_fails (dependent_in v.graph.dependents weak.number) refusal.NotLinked fourth) (answered refl)))
  refusals_of_act (call.Transform transform) =
      check_then (taken_fails v transform first)
      (check_then (limit_fails v (count_by (λ is_there. is_there) v.graph.transforms) most_transforms second) (answered refl))
  refusals_of_act (call.TransformAdd transform old new) =
      value_then (transform_fails v transform first) (λ (n : ℕ).
      value_then (slot_fails v old first second) (λ (from : Found (Option ℕ)).
      value_then (slot_fails v new first second) (λ (to : Found (Option ℕ)).
      value_then (object_fails v from.value third) (λ (one : Numbered Object).
      value_then (object_fails v to.value third) (λ (other : Numbered Object).
      check_then (when_fails (not (is_parked v)) refusal.NotParked fourth)
      (check_then (when_fails (is_old (pairs_of v.state n) one.number) refusal.OldTwice fifth)
      (check_then (limit_fails v (length (pairs_in v.state)) most_pairs sixth) (answered refl))))))))
  refusals_of_act (call.TransformApply transform) =
      value_then (transform_fails v transform first) (λ (n : ℕ).
      check_then (when_fails (not (is_parked v)) refusal.NotParked second)
      (check_then (when_fails (list_any has_live_reservation v.graph.points) refusal.Open third)
      (applies v transform n (is_blocked v (pairs_of v.state n)))))
  refusals_of_act (call.TransformDrop transform) =
      value_then (transform_fails v transform first) (λ (n : ℕ). answered refl)
  refusals_of_act (call.Cache cache pool count sizes limits) =
      check_then (taken_fails v cache first) (value_then (pool_fails v pool second) (λ (of : Numbered Pool).
      check_then (when_fails (not (may_have_cache of.value.kind)) refusal.WrongPool third)
      (check_then (when_fails (not (are_class_sizes 0 (new_classes count sizes limits))) refusal.BadSize fourth)
      (check_then (limit_fails v (length v.graph.caches) most_caches fifth) (answered refl)))))
  refusals_of_act (call.CacheAlloc cache words place) =
      value_then (cache_fails v cache first) (λ (from : Numbered Cache).
      value_then (required_fails (pool_at judged from.value.pool) refusal.BadName first) (λ (p : Pool).
      value_then (place_fails v place first second) (λ (at : Found (Option ℕ)).
      check_then (when_fails (not (allows_size p.kind words)) refusal.BadSize third)
      (check_then (when_fails (is_some at.value) refusal.NameTaken fourth) (takes from words at (taken_from from.value.classes words))))))
  refusals_of_act (call.CacheFree cache place) =
      value_then (cache_fails v cache first) (λ (into : Numbered Cache).
      value_then (place_fails v place first second) (λ (at : Found (Option ℕ)).
      value_then (block_fails v at third) (λ (id : ℕ).
      check_then (when_fails (not (pool_of v id == into.value.pool)) refusal.WrongPool fourth) (keeps into at (kept_by v into.value id)))))
  refusals_of_act (call.CacheFlush cache) = value_then (cache_fails v cache first) (λ (from : Numbered Cache). answered refl)
  refusals_of_act (call.Push pool) =
      value_then (frames_fail v pool first second) (λ (f : PoolFrames).
      check_then (limit_fails v (open_frames v.graph) most_frames third) (answered refl))
  refusals_of_act (call.Pop pool frame) =
      value_then (frames_fail v pool first second) (λ (f : PoolFrames).
      value_then (required_fails (slice_get f.opened frame) refusal.BadIndex third) (λ (before : ℕ). answered refl))
  refusals_of_act (call.Poke word value) =
      value_then (word_fails v word first second) (λ (at : Found AreaWord). pokes v marked value at (block_of_word v value))
  refusals_of_act (call.Peek word) = value_then (word_fails v word first second) (λ (at : Found AreaWord). answered refl)
  refusals_of_act (call.Pin word slot) =
      value_then (word_fails v word first second) (λ (at : Found AreaWord).
      value_then (slot_fails v slot first second) (λ (from : Found (Option ℕ)).
      value_then (object_fails v from.value third) (λ (object : Numbered Object). answered refl)))
  refusals_of_act (call.Take slot word) =
      value_then (slot_fails v slot first second) (λ (into : Found (Option ℕ)).
      value_then (word_fails v word first second) (λ (at : Found AreaWord).
      value_then (held_fails v at.value third) (λ (id : ℕ). answered refl)))
  refusals_of_act call.Start = check_then (when_fails (is_running judged) refusal.Running first) (answered refl)
  refusals_of_act (call.StartChain chain generation) =
      value_then (chain_fails judged chain first) (λ (on : Numbered (List ℕ)).
      check_then (when_fails (nat_le (length on.value) generation) refusal.BadIndex second)
      (check_then (when_fails (is_running judged) refusal.Running third) (answered refl)))
  refusals_of_act (call.Step units) = steps_on v (is_running v)
  refusals_of_act call.Collect = answered refl
  refusals_of_act call.Clamp = answered refl
  refusals_of_act call.Park = answered refl
  refusals_of_act call.Release = answered refl
  refusals_of_act (call.Finalize slot) =
      value_then (slot_fails v slot first second) (λ (from : Found (Option ℕ)).
      value_then (object_fails v from.value third) (λ (object : Numbered Object).
      check_then (when_fails (nat_le most_registrations (length v.graph.registered + length v.graph.messages))
      (refusal.TooMany most_registrations) fourth) (answered refl)))
  refusals_of_act (call.Definalize slot) =
      value_then (slot_fails v slot first second) (λ (from : Found (Option ℕ)).
      value_then (object_fails v from.value third) (λ (object : Numbered Object).
      value_then (required_fails (position_of_first v.graph.registered object.number) refusal.NotRegistered fourth)
      (λ (position : ℕ). answered refl)))
  refusals_of_act (call.Message slot) =
      value_then (slot_fails v slot first second) (λ (into : Found (Option ℕ)). takes_message v into v.graph.messages)
  refusals_of_act (call.DependencyReset dependency) =
      value_then (dependency_fails v dependency first) (λ (d : Numbered Dependency). answered refl)
  refusals_of_act (call.DependencyAdd dependency slot) =
      value_then (dependency_fails v dependency first) (λ (d : Numbered Dependency).
      value_then (slot_fails v slot first second) (λ (from : Found (Option ℕ)).
      value_then (object_fails v from.value third) (λ (object : Numbered Object). answered refl)))
  refusals_of_act (call.DependencyMerge dependency source) =
      value_then (dependency_fails v dependency first) (λ (d : Numbered Dependency).
      value_then (dependency_fails v source first) (λ (e : Numbered Dependency). answered refl))
  refusals_of_act (call.DependencyStale dependency) =
      value_then (dependency_fails v dependency first) (λ (d : Numbered Dependency).
      yes_or_no v (is_stale v.flips d.value.epoch d.value.zones))
  refusals_of_act call.Live = answered refl
  refusals_of_act (call.Dump at) =
      check_then (when_fails (is_running v) refusal.Running first)
      (value_then (required_fails (id_at v at) refusal.NotABlock second) (λ (id : ℕ). answered refl))
