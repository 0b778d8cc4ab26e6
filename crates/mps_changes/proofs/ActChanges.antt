-- What each call changes: the one walk over all calls and their checks.
use Rattle.std.proofs.Common.{◌≡◌, ℕ, ◌+◌, Bool, true, false, zero, suc, refl, ap, sym, ◌∙◌, List, [], ◌∷◌, length, Option, Some, None, Ok, inl, inr, arith, min}
use Rattle.std.proofs.Math.Nat.{mod-lt}
use Rattle.std.proofs.lemmas.Bool.{lt-ltb, true≢false, eqb-true, le-leb}
use Rattle.std.specs.Prelude.{◌%◌, ◌&&◌, if◌then◌else◌, is_none, is_some, count_by, nat_le, nat_lt, not, slice_get, slice_set, ◌==◌}
use Rattle.std.specs.List.{list_any}
use Rattle.mps_base.specs.Staleness.{is_stale}
use Rattle.mps_base.specs.Address.{Id}
use Rattle.mps_base.specs.declared.names.Name.{Name}
use Rattle.mps_base.specs.declared.names.Slot.{Slot}
use Rattle.mps_base.specs.declared.refusal.Refusal.TheVariants as refusal
use Rattle.mps_model.specs.Dependency.{merged, with_added}
use Rattle.mps_model.specs.declared.call.Call.{Call}
use Rattle.mps_model.specs.declared.call.Call.TheVariants as call
use Rattle.mps_model.specs.declared.reply.Reply.TheVariants as reply
use Rattle.mps_model.specs.Graph.{Graph, Object, Cell, NumberCell, AreaWord, PlainWord, Point, Reservation, dependent_in, TransformThing, is_taken, position_of_first, thing_named, with_target_cell, Cache, CacheClass, PoolFrames}
use Rattle.mps_model.specs.Dependents.{may_depend, most_dependents}
use Rattle.mps_model.specs.Tagging.{tag_count}
use Rattle.mps_model.specs.Transforms.{has_live_reservation, is_blocked, is_old, most_pairs, most_transforms, pairs_of, world_substituted}
use Rattle.mps_model.specs.World.{World, committed, Pool, Dependency, Unclamped, Clamped, block_of_word, id_at, is_automatic_kind, is_parked, is_running, pairs_in, PoolKind, Collected, OneSize, AnySize, Frames, has_frames, pool_at, pool_is, pool_of}
use Rattle.mps_model.specs.Checked.{Act, Checked, Found, Numbered, block_place_in, cells_of_body, chain_named, dependency_named, done, label_named, transform_named, tag_at, number_at, object_in, point_named, pool_named, reference_at, refuse_when, required, says, slot_in, tells, with_graph, word_in, cache_named}
use Rattle.mps_model.specs.Making.{graph_without_root, is_block_size, live_points, make_pool, may_have_point, most_chains, most_dependencies, most_labels, most_points, most_pools, refuse_at_limit, refuse_root, most_caches, most_frames}
use Rattle.mps_model.specs.Caches.{act_kept, act_taken, are_class_sizes, kept_by, may_have_cache, new_classes, taken_from}
use Rattle.mps_model.specs.Frames.{frame_in, frames_named, open_frames}
use Rattle.mps_model.specs.Placement.{ForAlloc, ForReserve, placement_of}
use Rattle.mps_model.specs.Allocating.{Reserving, allows_size, block_in, check_reserve, refuse_without_place, with_reservation, with_reserved_cells, words_at, world_committed}
use Rattle.mps_model.specs.Accessing.{Poked, AsBlock, AsMarked, AsNumber, act_poke_in, act_poked, held_in, poked, same_target, address_or_null}
use Rattle.mps_model.specs.Collecting.{act_message_in, most_registrations}
use Rattle.mps_model.specs.Reply.{act}
use Rattle.mps_changes.proofs.Checks.{with_value, after_check, andthen, checked, unless, required-is, transform_named-is, without_root, pool_named-is, cache_named-is, frames_named-is, dependency_named-is}
use Rattle.mps_changes.specs.Change.{ForAct, FreeName, accepted, refused, changes_points, Now, Before, makes_pool, is_kind_made, GotNull, FromSlot, FromCell, FromWord, ShownPlain, ShownPinned, ShownPoked, IsWritten, WritesReference, WritesNumber, WritesTag, ArenaMade, LimitIs, ChainMade, StateIs, ParkedAnew, ParkedOn, DependencyMade, DependencyIs, LabelMade, Linked, Unlinked, TransformMade, PairAdded, TransformDropped, Change, Unchanged, Aside, SlotIs, WordIs, MessageTaken, TableMade, AreaMade, BlocksMade, TableDropped, AreaDropped, CellsAre, BlockWordIs, PlaceEmptied, Allocated, PoolMade, PointMade, PointDropped, Opened, Written, Closed, Committed, Substituted, Registered, Unregistered, are_empty_classes, CacheMade, BlockUncached, BlockCached, CacheFlushed, FramePushed, FramesPopped, OfNow, NoLater}

not_not : (b : Bool) → not b ≡ false → b ≡ true
not_not true h = refl
not_not false h = absurd (true≢false h)

none_there : {A : Type 0} (o : Option A) → is_some o ≡ false → o ≡ None
none_there None h = refl
none_there (Some x) h = absurd (true≢false h)

pub sized_is_manual : (kind : PoolKind) (words : ℕ) → allows_size kind words ≡ true → is_automatic_kind kind ≡ false
sized_is_manual (Collected kind) words h = absurd (true≢false (sym h))
sized_is_manual (OneSize size) words h = refl
sized_is_manual AnySize words h = refl
sized_is_manual Frames words h = refl

none_cached : (count : ℕ) (sizes limits : List ℕ) → are_empty_classes (new_classes count sizes limits) ≡ true
none_cached zero sizes limits = refl
none_cached (suc count) [] limits = refl
none_cached (suc count) (size ∷ sizes) [] = refl
none_cached (suc count) (size ∷ sizes) (limit ∷ limits) = none_cached count sizes limits

module _ (marked : Bool) (judged v : World) where
  abbrev Leads : Call → Checked Act → Type 0
  Leads c x = ForAct (Change marked c judged v) x

  told : {c : Call} (b : Bool) → Leads c (tells b v)
  told true = accepted Unchanged
  told false = accepted Unchanged

  abbrev free_name : (name : Name) → is_taken v.graph name ≡ false → FreeName v
  free_name name free = record { name = name; is_free = free }

  made : {c : Call} (name : FreeName v) (p : Pool) → makes_pool c ≡ true → is_kind_made p.kind ≡ true
      → Leads c (make_pool v name.name p)
  made name p is sized = after_check (refuse_at_limit (length v.pools) most_pools) (accepted (PoolMade name p is sized))

  init : {c : Call} (name : Name) (p : Numbered Point) (r : Reservation) (change : List Cell → List Cell) → changes_points c ≡ true
      → point_named v name ≡ Ok p → p.value.reservation ≡ Some r → IsWritten marked c judged v r.cells change
      → Leads c (done (with_reserved_cells v p r (change r.cells)))
  init {c} name p r change is e f write = by_case r.is_doomed refl
    where
      by_case : (b : Bool) → r.is_doomed ≡ b
          → Leads c (done (if b then v else with_graph v (with_reservation v.graph p (Some (record r { cells = change r.cells })))))
      by_case true d = accepted Unchanged
      by_case false d = accepted (Written name p r change is e f d write)

  commits : {c : Call} (p : Numbered Point) (r : Reservation) (slot : Found (Option ℕ))
      → (r.is_doomed ≡ true → Change marked c judged v (with_graph v (with_reservation v.graph p None)))
      → (r.is_doomed ≡ false → Change marked c judged v (world_committed v p r slot))
      → Leads c (if r.is_doomed then says reply.Flipped (with_graph v (with_reservation v.graph p None)) else done
      (world_committed v p r slot))
  commits {c} p r slot ended lives = by_case r.is_doomed refl
    where
      by_case : (b : Bool) → r.is_doomed ≡ b
          → Leads c (if b then says reply.Flipped (with_graph v (with_reservation v.graph p None)) else done (world_committed v p r slot))
      by_case true d = accepted (ended d)
      by_case false d = accepted (lives d)

  pokes : (place : _) (word : ℕ) (at : Found AreaWord) (o : Option ℕ) → word_in v place ≡ Ok at → block_of_word v word ≡ o
      → Leads (call.Poke place word) (act_poke_in v at word marked o)
  pokes place word at None e f = accepted (WordIs place at (PlainWord word) e (ShownPlain word))
  pokes place word at (Some id) e f = by_case (poked v id) refl marked refl
    where
      by_case : (p : Poked) → poked v id ≡ p → (m : Bool) → marked ≡ m → Leads (call.Poke place word) (act_poked v at id word p m)
      by_case AsBlock g m h = accepted (WordIs place at _ e (ShownPoked place id word refl f (inl g)))
      by_case AsNumber g m h = accepted (WordIs place at _ e (ShownPlain word))
      by_case AsMarked g true h = accepted (WordIs place at _ e (ShownPoked place id word refl f (inr h)))
      by_case AsMarked g false h = accepted (WordIs place at _ e (ShownPlain word))

  takes_message : {c : Call} (slot : _) (into : Found (Option ℕ)) (ids : List ℕ) → slot_in v slot ≡ Ok into → v.graph.messages ≡ ids
      → Leads c (act_message_in v into ids)
  takes_message slot into [] e f = accepted Unchanged
  takes_message slot into (id ∷ ids) e f = accepted (MessageTaken slot into id ids e f)

  drops : {c : Call} (name : Name) (g : Graph) → graph_without_root v.graph name (thing_named v.graph name) ≡ Some g
      → Change marked c judged v (with_graph v g)
  drops {c} name g e = without_root (λ h. Change marked c judged v (with_graph v h)) v.graph name (thing_named v.graph name) g e
      (TableDropped name) (AreaDropped name)

  applies : (name : Name) (n : ℕ) → thing_named v.graph name ≡ Some (TransformThing n) → is_parked v ≡ true
      → Leads (call.TransformApply name)
      (if is_blocked v (pairs_of v.state n) then says reply.No v else says reply.Yes (world_substituted v name n))
  applies name n is parked = by_case (is_blocked v (pairs_of v.state n))
    where
      by_case : (b : Bool) → Leads (call.TransformApply name) (if b then says reply.No v else says reply.Yes (world_substituted v name n))
      by_case true = accepted Unchanged
      by_case false = accepted (Substituted name n refl is parked)

  takes : (cache : Name) (from : Numbered Cache) (words : ℕ) (into : Slot) (place : Found (Option ℕ)) (p : Pool)
      → cache_named v cache ≡ Ok from → pool_at judged from.value.pool ≡ Some p → block_place_in v into ≡ Ok place
      → allows_size p.kind words ≡ true → place.value ≡ None → (o : Option (Id × List CacheClass))
      → taken_from from.value.classes words ≡ o → Leads (call.CacheAlloc cache words into) (act_taken judged v from words place o)
  takes cache from words into place p e of e' size none None is =
      after_check (refuse_without_place (placement_of judged (ForAlloc from.value.pool words)))
      (accepted (Allocated (record { number = from.value.pool; value = p }) words place _ refl of (sized_is_manual p.kind words size) size
      (Now into e') none))
  takes cache from words into place p e of e' size none (Some taken) is =
      accepted (BlockUncached cache from words into place taken.0 taken.1 refl e is e' none)

  keeps : (cache : Name) (into : Numbered Cache) (from : Slot) (place : Found (Option ℕ)) (id : ℕ) → cache_named v cache ≡ Ok into
      → block_place_in v from ≡ Ok place → place.value ≡ Some id → pool_of v id ≡ into.value.pool → (o : Option (List CacheClass))
      → kept_by v into.value id ≡ o → Leads (call.CacheFree cache from) (act_kept v into place o)
  keeps cache into from place id e e' has own None is =
      accepted (PlaceEmptied from place id refl e' has (inr (record { cache = into; there = cache_named-is v cache into e; is = own })))
  keeps cache into from place id e e' has own (Some classes) is =
      accepted (BlockCached cache into from place id classes refl e e' has own is)

  pub act_changes_so : (c : Call) → Leads c (act marked judged v c)
  act_changes_so (call.Arena grains limit) = accepted (Aside _ (ArenaMade grains limit refl))
  act_changes_so (call.Limit limit) =
      unless (nat_lt limit (committed v)) refusal.BelowCommitted (λ within.
      accepted (Aside _ (LimitIs limit within)))
  act_changes_so call.Committed = accepted Unchanged
  act_changes_so (call.Chain chain count capacities) =
      unless (is_taken v.graph chain) refusal.NameTaken (λ free.
      after_check (refuse_at_limit (length v.chains) most_chains) (accepted (Aside _ (ChainMade (free_name chain free) _))))
  act_changes_so (call.Pool pool kind format) =
      unless (is_taken v.graph pool) refusal.NameTaken (λ free.
      made (free_name pool free) (record { kind = Collected kind; format = format; chain = None }) refl refl)
  act_changes_so (call.PoolOnChain pool kind format chain) =
      unless (is_taken v.graph pool) refusal.NameTaken (λ free. andthen (chain_named v chain) (λ (on : Numbered (List ℕ)).
      made (free_name pool free) (record { kind = Collected kind; format = format; chain = Some on.number }) refl refl))
  act_changes_so (call.PoolMfs pool words) =
      unless (is_taken v.graph pool) refusal.NameTaken (λ free. unless (not (is_block_size words)) refusal.BadSize (λ h.
      made (free_name pool free) (record { kind = OneSize words; format = 0; chain = None }) refl (not_not (is_block_size words) h)))
  act_changes_so (call.PoolMvff pool) =
      unless (is_taken v.graph pool) refusal.NameTaken (λ free.
      made (free_name pool free) (record { kind = AnySize; format = 0; chain = None }) refl refl)
  act_changes_so (call.PoolFrames pool) =
      unless (is_taken v.graph pool) refusal.NameTaken (λ free.
      made (free_name pool free) (record { kind = Frames; format = 0; chain = None }) refl refl)
  act_changes_so (call.Table table slots) =
      unless (is_taken v.graph table) refusal.NameTaken (λ free.
      after_check (refuse_root v slots) (accepted (TableMade (free_name table free) slots)))
  act_changes_so (call.Area area words) =
      unless (is_taken v.graph area) refusal.NameTaken (λ free.
      after_check (refuse_root v words) (accepted (AreaMade (free_name area free) words)))
  act_changes_so (call.Blocks blocks places) =
      unless (is_taken v.graph blocks) refusal.NameTaken (λ free.
      after_check (refuse_root v places) (accepted (BlocksMade (free_name blocks free) places refl)))
  act_changes_so (call.DropRoot root) =
      with_value (required (graph_without_root v.graph root (thing_named v.graph root)) refusal.BadName) (λ (g : Graph) e.
      accepted (drops root g (required-is (graph_without_root v.graph root (thing_named v.graph root)) refusal.BadName g e)))
  act_changes_so (call.Point point pool rank) =
      unless (is_taken v.graph point) refusal.NameTaken (λ free. with_value (pool_named v pool) (λ (of : Numbered Pool) e.
      unless (not (may_have_point of.value.kind rank)) refusal.WrongPool (λ may.
      after_check (refuse_at_limit (live_points v.graph) most_points)
      (accepted (PointMade (free_name point free) pool of rank refl e (not_not (may_have_point of.value.kind rank) may))))))
  act_changes_so (call.DropPoint point) =
      with_value (point_named v point) (λ (p : Numbered Point) e.
      unless (is_some p.value.reservation) refusal.Open (λ none.
      accepted (PointDropped point p refl e (none_there p.value.reservation none))))
  act_changes_so (call.Dependency dependency) =
      unless (is_taken v.graph dependency) refusal.NameTaken (λ free.
      after_check (refuse_at_limit (length v.dependencies) most_dependencies)
      (accepted (Aside _ (DependencyMade (free_name dependency free) _ refl OfNow))))
  act_changes_so (call.Reserve point head) =
      with_value (check_reserve judged point head) (λ (r : Reserving) e.
      after_check (refuse_without_place (placement_of judged (ForReserve r.point.number (length r.cells))))
      (with_value (point_named v point) (λ (p : Numbered Point) f. accepted (Opened point head r p _ refl e f))))
  act_changes_so (call.InitNumber point cell value) =
      with_value (point_named v point) (λ (p : Numbered Point) e.
      with_value (required p.value.reservation refusal.NotOpen) (λ (r : Reservation) f.
      checked (number_at r.cells cell) (λ was g.
      init point p r (λ old. slice_set old cell (NumberCell value)) refl e (required-is p.value.reservation refusal.NotOpen r f)
      (WritesNumber cell was value g))))
  act_changes_so (call.InitReference point cell source) =
      with_value (point_named v point) (λ (p : Numbered Point) e.
      with_value (slot_in v source) (λ (from : Found (Option ℕ)) e'.
      with_value (required p.value.reservation refusal.NotOpen) (λ (r : Reservation) f.
      after_check (reference_at r.cells cell)
      (init point p r (λ old. with_target_cell old cell from.value) refl e (required-is p.value.reservation refusal.NotOpen r f)
      (WritesReference cell source from e')))))
  act_changes_so (call.Commit point target) =
      with_value (point_named v point) (λ (p : Numbered Point) e.
      with_value (slot_in v target) (λ (slot : Found (Option ℕ)) e'.
      with_value (required p.value.reservation refusal.NotOpen) (λ (r : Reservation) f.
      let there = required-is p.value.reservation refusal.NotOpen r f in
      commits p r slot (Closed point target p r refl e there) (Committed point target p r slot refl e e' there))))
  act_changes_so (call.Alloc pool words place) =
      with_value (pool_named judged pool) (λ (p : Numbered Pool) e.
      unless (is_automatic_kind p.value.kind) refusal.WrongPool (λ kind.
      with_value (block_place_in judged place) (λ (at : Found (Option ℕ)) e'.
      unless (not (allows_size p.value.kind words)) refusal.BadSize (λ size.
      unless (is_some at.value) refusal.NameTaken (λ none.
      after_check (refuse_without_place (placement_of judged (ForAlloc p.number words)))
      (accepted (Allocated p words at _ refl (pool_named-is judged pool p e) kind (not_not (allows_size p.value.kind words) size)
      (Before place e') (none_there at.value none))))))))
  act_changes_so (call.Free place) =
      with_value (block_place_in v place) (λ (at : Found (Option ℕ)) e.
      with_value (block_in at) (λ (id : ℕ) f.
      unless (pool_is has_frames v (pool_of v id)) refusal.WrongPool (λ none.
      accepted (PlaceEmptied place at id refl e (required-is at.value refusal.NotABlock id f) (inl none)))))
  act_changes_so (call.Cache cache pool count sizes limits) =
      let classes = new_classes count sizes limits in
      unless (is_taken v.graph cache) refusal.NameTaken (λ free. with_value (pool_named v pool) (λ (of : Numbered Pool) e.
      unless (not (may_have_cache of.value.kind)) refusal.WrongPool (λ may.
      after_check (refuse_when (not (are_class_sizes 0 classes)) refusal.BadSize)
      (after_check (refuse_at_limit (length v.graph.caches) most_caches)
      (accepted (CacheMade (free_name cache free) pool of classes e (not_not (may_have_cache of.value.kind) may)
      (none_cached count sizes limits)))))))
  act_changes_so (call.CacheAlloc cache words place) =
      with_value (cache_named v cache) (λ (from : Numbered Cache) e.
      with_value (required (pool_at judged from.value.pool) refusal.BadName) (λ (p : Pool) f.
      with_value (block_place_in v place) (λ (at : Found (Option ℕ)) e'.
      unless (not (allows_size p.kind words)) refusal.BadSize (λ size.
      unless (is_some at.value) refusal.NameTaken (λ none.
      takes cache from words place at p e (required-is (pool_at judged from.value.pool) refusal.BadName p f) e'
      (not_not (allows_size p.kind words) size) (none_there at.value none) (taken_from from.value.classes words) refl)))))
  act_changes_so (call.CacheFree cache place) =
      with_value (cache_named v cache) (λ (into : Numbered Cache) e.
      with_value (block_place_in v place) (λ (at : Found (Option ℕ)) e'.
      with_value (block_in at) (λ (id : ℕ) f.
      unless (not (pool_of v id == into.value.pool)) refusal.WrongPool (λ own.
      keeps cache into place at id e e' (required-is at.value refusal.NotABlock id f)
      (eqb-true (pool_of v id) into.value.pool (not_not (pool_of v id == into.value.pool) own)) (kept_by v into.value id) refl))))
  act_changes_so (call.CacheFlush cache) =
      with_value (cache_named v cache) (λ (from : Numbered Cache) e. accepted (CacheFlushed cache from refl e))
  act_changes_so (call.Push pool) =
      with_value (frames_named v pool) (λ (f : PoolFrames) e.
      after_check (refuse_at_limit (open_frames v.graph) most_frames) (accepted (FramePushed pool f refl (frames_named-is v pool f e))))
  act_changes_so (call.Pop pool frame) =
      with_value (frames_named v pool) (λ (f : PoolFrames) e.
      with_value (frame_in f frame) (λ (before : ℕ) g.
      accepted (FramesPopped pool f frame before refl (frames_named-is v pool f e)
      (required-is (slice_get f.opened frame) refusal.BadIndex before g))))
  act_changes_so (call.Load place word) =
      andthen (block_place_in v place) (λ (at : Found (Option ℕ)). andthen (block_in at) (λ (id : ℕ).
      andthen (required (slice_get (words_at v.graph id) word) refusal.BadIndex) (λ (n : ℕ). accepted Unchanged)))
  act_changes_so (call.Store place word value) =
      andthen (block_place_in v place) (λ (at : Found (Option ℕ)). andthen (block_in at) (λ (id : ℕ).
      after_check (required (slice_get (words_at v.graph id) word) refusal.BadIndex) (accepted (BlockWordIs id word value))))
  act_changes_so (call.Get target source cell) =
      with_value (slot_in judged target) (λ (into : Found (Option ℕ)) e.
      with_value (slot_in judged source) (λ (from : Found (Option ℕ)) f.
      andthen (object_in judged from.value) (λ (object : Numbered Object).
      after_check (reference_at (cells_of_body object.value.body) cell)
      (with_value (object_in v from.value) (λ (now : Numbered Object) g.
      with_value (reference_at (cells_of_body now.value.body) cell) (λ (read : Option ℕ) h.
      accepted (SlotIs into read (Before target e) (FromCell target source cell from now read refl f g h))))))))
  act_changes_so (call.Put target cell source) =
      with_value (slot_in v target) (λ (into : Found (Option ℕ)) e.
      with_value (slot_in v source) (λ (from : Found (Option ℕ)) f.
      with_value (object_in v into.value) (λ (object : Numbered Object) g.
      after_check (reference_at (cells_of_body object.value.body) cell)
      (accepted (CellsAre object _ (record { slot = target; from = into; there = e; is = g })
      (WritesReference cell source from f))))))
  act_changes_so (call.Number slot cell) =
      andthen (slot_in v slot) (λ (from : Found (Option ℕ)). andthen (object_in v from.value) (λ (object : Numbered Object).
      andthen (number_at (cells_of_body object.value.body) cell) (λ (n : ℕ). accepted Unchanged)))
  act_changes_so (call.SetNumber slot cell value) =
      with_value (slot_in v slot) (λ (into : Found (Option ℕ)) e.
      with_value (object_in v into.value) (λ (object : Numbered Object) g.
      checked (number_at (cells_of_body object.value.body) cell) (λ was h.
      accepted (CellsAre object _ (record { slot = slot; from = into; there = e; is = g }) (WritesNumber cell was value h)))))
  act_changes_so (call.Copy target source) =
      with_value (slot_in v target) (λ (into : Found (Option ℕ)) e.
      with_value (slot_in v source) (λ (from : Found (Option ℕ)) f.
      accepted (SlotIs into from.value (Now target e) (FromSlot source from f))))
  act_changes_so (call.Clear slot) =
      with_value (slot_in v slot) (λ (into : Found (Option ℕ)) e. accepted (SlotIs into None (Now slot e) GotNull))
  act_changes_so (call.Same slot other) =
      andthen (slot_in v slot) (λ (one : Found (Option ℕ)). andthen (slot_in v other) (λ (two : Found (Option ℕ)).
      told (same_target one.value two.value)))
  act_changes_so (call.Null slot) = andthen (slot_in v slot) (λ (from : Found (Option ℕ)). told (is_none from.value))
  act_changes_so (call.Head slot) =
      andthen (slot_in v slot) (λ (from : Found (Option ℕ)). andthen (object_in v from.value) (λ (o : Numbered Object). accepted Unchanged))
  act_changes_so (call.Address slot) =
      andthen (slot_in v slot) (λ (from : Found (Option ℕ)). andthen (object_in v from.value) (λ (o : Numbered Object). accepted Unchanged))
  act_changes_so (call.Poke word value) =
      with_value (word_in v word) (λ (at : Found AreaWord) e. pokes word value at (block_of_word v value) e refl)
  act_changes_so (call.SetTag slot cell tag) =
      with_value (slot_in v slot) (λ (into : Found (Option ℕ)) e.
      with_value (object_in v into.value) (λ (object : Numbered Object) g.
      after_check (reference_at (cells_of_body object.value.body) cell)
      (accepted (CellsAre object _ (record { slot = slot; from = into; there = e; is = g })
      (WritesTag cell (tag % tag_count) (lt-ltb (tag % tag_count) tag_count (mod-lt tag (omega arith))))))))
  act_changes_so (call.Tag slot cell) =
      andthen (slot_in v slot) (λ (from : Found (Option ℕ)). andthen (object_in v from.value) (λ (object : Numbered Object).
      andthen (tag_at (cells_of_body object.value.body) cell) (λ (tag : ℕ). accepted Unchanged)))
  act_changes_so (call.Intern label) =
      unless (is_taken v.graph label) refusal.NameTaken (λ free.
      after_check (refuse_at_limit (length v.graph.labels) most_labels)
      (accepted (Aside _ (LabelMade label refl free))))
  act_changes_so (call.Label slot label) =
      andthen (slot_in v slot) (λ (from : Found (Option ℕ)). andthen (object_in v from.value) (λ (object : Numbered Object).
      andthen (label_named v label) (λ (found : Numbered Name). accepted Unchanged)))
  act_changes_so (call.Depend holder dependent) =
      with_value (slot_in v holder) (λ (from : Found (Option ℕ)) e.
      with_value (slot_in v dependent) (λ (to : Found (Option ℕ)) f.
      with_value (object_in v from.value) (λ (weak : Numbered Object) g.
      with_value (object_in v to.value) (λ (exact : Numbered Object) h.
      unless (not (may_depend v weak.value exact.value)) refusal.WrongPool (λ may.
      after_check (refuse_when (is_none (dependent_in v.graph.dependents weak.number)
      && nat_le most_dependents (length v.graph.dependents)) (refusal.TooMany most_dependents))
      (accepted (Aside _ (Linked weak exact (record { slot = holder; from = from; there = e; is = g })
      (record { slot = dependent; from = to; there = f; is = h }) (not_not (may_depend v weak.value exact.value) may)))))))))
  act_changes_so (call.Undepend holder) =
      andthen (slot_in v holder) (λ (from : Found (Option ℕ)). andthen (object_in v from.value) (λ (weak : Numbered Object).
      after_check (required (dependent_in v.graph.dependents weak.number) refusal.NotLinked)
      (accepted (Aside _ (Unlinked weak.number)))))
  act_changes_so (call.Transform transform) =
      unless (is_taken v.graph transform) refusal.NameTaken (λ free.
      after_check (refuse_at_limit (count_by (λ is_there. is_there) v.graph.transforms) most_transforms)
      (accepted (Aside _ (TransformMade (free_name transform free)))))
  act_changes_so (call.TransformAdd transform old new) =
      andthen (transform_named v transform) (λ (n : ℕ).
      with_value (slot_in v old) (λ (from : Found (Option ℕ)) e.
      with_value (slot_in v new) (λ (to : Found (Option ℕ)) f.
      with_value (object_in v from.value) (λ (first : Numbered Object) g.
      with_value (object_in v to.value) (λ (second : Numbered Object) h.
      unless (not (is_parked v)) refusal.NotParked (λ parked.
      after_check (refuse_when (is_old (pairs_of v.state n) first.number) refusal.OldTwice)
      (after_check (refuse_at_limit (length (pairs_in v.state)) most_pairs)
      (accepted (Aside _ (PairAdded n first second (record { slot = old; from = from; there = e; is = g })
      (record { slot = new; from = to; there = f; is = h }) (not_not (is_parked v) parked)))))))))))
  act_changes_so (call.TransformApply transform) =
      with_value (transform_named v transform) (λ (n : ℕ) e.
      unless (not (is_parked v)) refusal.NotParked (λ parked.
      after_check (refuse_when (list_any has_live_reservation v.graph.points) refusal.Open)
      (applies transform n (transform_named-is v transform n e) (not_not (is_parked v) parked))))
  act_changes_so (call.TransformDrop transform) =
      with_value (transform_named v transform) (λ (n : ℕ) e.
      accepted (Aside _ (TransformDropped transform n (transform_named-is v transform n e))))
  act_changes_so (call.Peek word) = andthen (word_in v word) (λ (at : Found AreaWord). accepted Unchanged)
  act_changes_so (call.Pin word slot) =
      with_value (word_in v word) (λ (at : Found AreaWord) e.
      with_value (slot_in v slot) (λ (from : Found (Option ℕ)) f.
      with_value (object_in v from.value) (λ (object : Numbered Object) g.
      accepted (WordIs word at _ e (ShownPinned object (record { slot = slot; from = from; there = f; is = g }))))))
  act_changes_so (call.Take slot word) =
      with_value (slot_in v slot) (λ (into : Found (Option ℕ)) e.
      with_value (word_in v word) (λ (at : Found AreaWord) f.
      with_value (held_in at.value) (λ (id : ℕ) g.
      accepted (SlotIs into (Some id) (Now slot e) (FromWord word at id f g)))))
  act_changes_so call.Start =
      after_check (refuse_when (is_running judged) refusal.Running) (accepted (Aside _ (StateIs Unclamped refl)))
  act_changes_so (call.StartChain chain generation) =
      andthen (chain_named judged chain) (λ (on : Numbered (List ℕ)).
      after_check (refuse_when (nat_le (length on.value) generation) refusal.BadIndex)
      (after_check (refuse_when (is_running judged) refusal.Running) (accepted (Aside _ (StateIs Unclamped refl)))))
  act_changes_so (call.Step units) = accepted Unchanged
  act_changes_so call.Collect = accepted (Aside _ (ParkedAnew refl))
  act_changes_so call.Clamp = accepted (Aside _ (StateIs Clamped refl))
  act_changes_so call.Park = accepted (Aside _ (ParkedOn refl))
  act_changes_so call.Release = accepted (Aside _ (StateIs Unclamped refl))
  act_changes_so (call.Finalize slot) =
      with_value (slot_in v slot) (λ (from : Found (Option ℕ)) e.
      with_value (object_in v from.value) (λ (object : Numbered Object) f.
      after_check (refuse_when (nat_le most_registrations (length v.graph.registered + length v.graph.messages))
      (refusal.TooMany most_registrations))
      (accepted (Registered object (record { slot = slot; from = from; there = e; is = f }) refl))))
  act_changes_so (call.Definalize slot) =
      with_value (slot_in v slot) (λ (from : Found (Option ℕ)) e.
      with_value (object_in v from.value) (λ (object : Numbered Object) f.
      with_value (required (position_of_first v.graph.registered object.number) refusal.NotRegistered) (λ (position : ℕ) g.
      accepted (Unregistered slot from object position refl e f
      (required-is (position_of_first v.graph.registered object.number) refusal.NotRegistered position g)))))
  act_changes_so (call.Message slot) =
      with_value (slot_in v slot) (λ (into : Found (Option ℕ)) e. takes_message slot into v.graph.messages e refl)
  act_changes_so (call.DependencyReset dependency) =
      andthen (dependency_named v dependency) (λ (d : Numbered Dependency).
      accepted (Aside _ (DependencyIs d.number (record { epoch = length v.flips; zones = 0; blocks = [] }) refl OfNow)))
  act_changes_so (call.DependencyAdd dependency slot) =
      with_value (dependency_named v dependency) (λ (d : Numbered Dependency) e. andthen (slot_in v slot) (λ (from : Found (Option ℕ)).
      andthen (object_in v from.value) (λ (object : Numbered Object).
      accepted (Aside _ (DependencyIs d.number (with_added d.value object.number (address_or_null v object.number)) refl
      (NoLater d d.value.epoch (dependency_named-is v dependency d e) (le-leb d.value.epoch d.value.epoch (omega arith))))))))
  act_changes_so (call.DependencyMerge dependency source) =
      with_value (dependency_named v dependency) (λ (d : Numbered Dependency) f. andthen (dependency_named v source)
      (λ (e : Numbered Dependency).
      accepted (Aside _ (DependencyIs d.number (merged d.value e.value) refl
      (NoLater d (merged d.value e.value).epoch (dependency_named-is v dependency d f)
      (le-leb (min d.value.epoch e.value.epoch) d.value.epoch (omega arith)))))))
  act_changes_so (call.DependencyStale dependency) =
      andthen (dependency_named v dependency) (λ (d : Numbered Dependency). told (is_stale v.flips d.value.epoch d.value.zones))
  act_changes_so call.Live = accepted Unchanged
  act_changes_so (call.Dump at) =
      after_check (refuse_when (is_running v) refusal.Running)
      (andthen (required (id_at v at) refusal.NotABlock) (λ (id : ℕ). accepted Unchanged))

-- from a fact of every change to one of every act
pub of_changes : {P : World → Type 0} (marked : Bool) (judged v : World) (c : Call) → ((u : World) → Change marked c judged v u → P u)
    → ForAct P (act marked judged v c)
of_changes {P} marked judged v c each = by_case (act marked judged v c) (act_changes_so marked judged v c)
  where
    by_case : (x : Checked Act) → ForAct (Change marked c judged v) x → ForAct P x
    by_case _ (accepted change) = accepted (each _ change)
    by_case _ refused = refused

-- where the call is of a kind, it isn't of none
pub but : {A : Type 0} (kind : Call → Bool) {c d : Call} → c ≡ d → kind d ≡ true → kind c ≡ false → A
but kind e is h = absurd (true≢false (sym is ∙ (sym (ap kind e) ∙ h)))
