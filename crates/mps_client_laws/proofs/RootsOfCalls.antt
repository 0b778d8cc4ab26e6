-- What each call writes of slots, words of areas and names: one walk over all calls and their checks.
use Rattle.std.proofs.Common.{◌≡◌, ℕ, ◌+◌, Bool, true, false, refl, ap, List, [], ◌∷◌, length, Option, Some, None, Ok, sym, ◌⊎◌, inl, inr}
use Rattle.std.specs.Prelude.{◌&&◌, if◌then◌else◌, is_none, is_some, nat_le, nat_lt, not, slice_get, slice_set, ◌==◌, count_by, map, option_and_then}
use Rattle.mps_base.specs.Staleness.{is_stale}
use Rattle.mps_base.specs.declared.names.Name.{Name}
use Rattle.mps_base.specs.declared.names.Slot.{Slot}
use Rattle.mps_base.specs.declared.refusal.Refusal.TheVariants as refusal
use Rattle.mps_model.specs.declared.call.Call.{Call}
use Rattle.mps_model.specs.declared.call.Call.TheVariants as call
use Rattle.mps_model.specs.declared.reply.Reply.TheVariants as reply
use Rattle.mps_model.specs.Dependents.{may_depend, most_dependents}
use Rattle.mps_model.specs.Graph.{Graph, Object, Cell, NumberCell, AreaWord, Point, Reservation, dependent_in, is_taken, position_of_first, thing_named, with_last, with_target_cell, Cache, CacheClass, NamedThing, Slots, Thing, TableThing, AreaThing, without_name, PoolFrames}
use Rattle.mps_model.specs.World.{World, committed, Pool, Dependency, block_of_word, id_at, is_automatic_kind, is_running, TransformPair, is_parked, pairs_in, pool_at, pool_of, Collected, OneSize, AnySize, Frames, pool_is, has_frames}
use Rattle.mps_model.specs.Checked.{Act, Checked, Found, Numbered, block_place_in, cells_of_body, chain_named, dependency_named, done, label_named, tag_at, number_at, object_in, point_named, pool_named, reference_at, refuse_when, required, says, slot_in, tells, with_graph, word_in, cache_named, as_area, as_point, as_table, as_transform, number_named, transform_named}
use Rattle.mps_model.specs.Making.{graph_without_root, is_block_size, live_points, make_pool, may_have_point, most_chains, most_dependencies, most_labels, most_points, most_pools, refuse_at_limit, refuse_root, refuse_taken, most_caches, most_frames}
use Rattle.mps_model.specs.Frames.{frame_in, frames_named, open_frames}
use Rattle.mps_model.specs.Caches.{act_kept, act_taken, are_class_sizes, kept_by, may_have_cache, new_classes, taken_from}
use Rattle.mps_model.specs.Placement.{ForAlloc, ForReserve, placement_of}
use Rattle.mps_model.specs.Allocating.{Reserving, allows_size, block_in, check_reserve, refuse_without_place, with_reservation, with_reserved_cells, words_at, world_committed}
use Rattle.mps_model.specs.Accessing.{Poked, AsBlock, AsMarked, AsNumber, act_poke_in, act_poked, held_in, poked, same_target}
use Rattle.mps_model.specs.Collecting.{act_message_in, most_registrations}
use Rattle.mps_model.specs.Reply.{act}
use Rattle.mps_changes.proofs.Checks.{with_value, after_check, andthen, point_named-is, required-is, without_root, transform_named-is}
use Rattle.mps_changes.specs.Change.{ForAct, accepted}
use Rattle.std.proofs.lemmas.Option.{none-some}
use Rattle.mps_client_laws.specs.Pinning.{area_word_written_by}
use Rattle.mps_client_laws.specs.Slots.{slot_written_by}
use Rattle.mps_model.specs.Transforms.{has_live_reservation, is_blocked, is_old, most_pairs, most_transforms, pairs_of, world_substituted, slots_substituted}
use Rattle.std.specs.List.{list_any}
use Rattle.std.specs.Option.{option_map_or}
use Rattle.mps_client_laws.specs.Objects.{pairs_named}

-- a name that stands for neither a table nor an area
pub record IsNoRoot (v : World) (name : Name) : Type 0 where
  pub no_table : number_named v name as_table ≡ None
  pub no_area : number_named v name as_area ≡ None

-- what names stand for after a call
pub data Names (c : Call) (v u : World) : Type 0 where
  AsNamed : u.graph.names ≡ v.graph.names → Names c v u
  OneNamed : (named : NamedThing) → u.graph.names ≡ with_last v.graph.names named → Names c v u
  -- a name is dropped, which is that of no root, or of the root that the call drops
  OneUnnamed : (name : Name) → IsNoRoot v name ⊎ (c ≡ call.DropRoot name)
      → u.graph.names ≡ without_name v.graph.names name → Names c v u

-- the tables after a call
pub data Tables (c : Call) (judged v u : World) : Type 0 where
  AsBefore : u.graph.tables ≡ v.graph.tables → Tables c judged v u
  OneMore : (slots : Slots) → u.graph.tables ≡ with_last v.graph.tables (Some slots) → Tables c judged v u
  ASlot : (slot : Slot) (into : Found (Option ℕ)) (x : Option ℕ) → slot_written_by c ≡ Some slot
      → (slot_in judged slot ≡ Ok into) ⊎ (slot_in v slot ≡ Ok into)
      → u.graph.tables ≡ slice_set v.graph.tables into.number (Some (slice_set into.list into.index x)) → Tables c judged v u
  ATable : (name : Name) (n : ℕ) → c ≡ call.DropRoot name → number_named v name as_table ≡ Some n
      → u.graph.tables ≡ slice_set v.graph.tables n None → Tables c judged v u
  ReplacedSlots : (transform : Name) (pairs : List TransformPair) → c ≡ call.TransformApply transform → pairs ≡ pairs_named v transform
      → u.graph.tables ≡ map (slots_substituted pairs) v.graph.tables → Tables c judged v u

-- the areas after a call
pub data Areas (c : Call) (v u : World) : Type 0 where
  NoWord : u.graph.areas ≡ v.graph.areas → Areas c v u
  OneMoreArea : (words : List AreaWord) → u.graph.areas ≡ with_last v.graph.areas (Some words) → Areas c v u
  AWord : (place : Slot) (at : Found AreaWord) (x : AreaWord) → area_word_written_by c ≡ Some place → word_in v place ≡ Ok at
      → u.graph.areas ≡ slice_set v.graph.areas at.number (Some (slice_set at.list at.index x)) → Areas c v u
  AnArea : (name : Name) (n : ℕ) → c ≡ call.DropRoot name → number_named v name as_area ≡ Some n
      → u.graph.areas ≡ slice_set v.graph.areas n None → Areas c v u

pub record WritesRoots (c : Call) (judged v u : World) : Type 0 where
  pub names : Names c v u
  pub tables : Tables c judged v u
  pub areas : Areas c v u

module _ (marked : Bool) (judged v : World) where
  abbrev Leads : Call → Checked Act → Type 0
  Leads c x = ForAct (WritesRoots c judged v) x

  same : {c : Call} {u : World} → u.graph.names ≡ v.graph.names → u.graph.tables ≡ v.graph.tables → u.graph.areas ≡ v.graph.areas
      → WritesRoots c judged v u
  same e f h = record { names = AsNamed e; tables = AsBefore f; areas = NoWord h }

  named_one : {c : Call} {u : World} (named : NamedThing) → u.graph.names ≡ with_last v.graph.names named → u.graph.tables ≡ v.graph.tables
      → u.graph.areas ≡ v.graph.areas → WritesRoots c judged v u
  named_one named e f h = record { names = OneNamed named e; tables = AsBefore f; areas = NoWord h }

  slot_is : {c : Call} {u : World} (slot : Slot) (into : Found (Option ℕ)) (x : Option ℕ) → slot_written_by c ≡ Some slot
      → (slot_in judged slot ≡ Ok into) ⊎ (slot_in v slot ≡ Ok into) → u.graph.names ≡ v.graph.names
      → u.graph.tables ≡ slice_set v.graph.tables into.number (Some (slice_set into.list into.index x)) → u.graph.areas ≡ v.graph.areas
      → WritesRoots c judged v u
  slot_is slot into x is found e f h = record { names = AsNamed e; tables = ASlot slot into x is found f; areas = NoWord h }

  word_is : {c : Call} {u : World} (place : Slot) (at : Found AreaWord) (x : AreaWord) → area_word_written_by c ≡ Some place
      → word_in v place ≡ Ok at → u.graph.names ≡ v.graph.names → u.graph.tables ≡ v.graph.tables
      → u.graph.areas ≡ slice_set v.graph.areas at.number (Some (slice_set at.list at.index x)) → WritesRoots c judged v u
  word_is place at x is found e f h = record { names = AsNamed e; tables = AsBefore f; areas = AWord place at x is found h }

  yes_or_no : {c : Call} (b : Bool) → Leads c (tells b v)
  yes_or_no true = accepted (same refl refl refl)
  yes_or_no false = accepted (same refl refl refl)

  made : {c : Call} (name : Name) (p : Pool) → Leads c (make_pool v name p)
  made name p = after_check (refuse_at_limit (length v.pools) most_pools) (accepted (named_one _ refl refl refl))

  init : {c : Call} (p : Numbered Point) (r : Reservation) (cells : List Cell) → Leads c (done (with_reserved_cells v p r cells))
  init {c} p r cells = by_case r.is_doomed
    where
      by_case : (b : Bool)
          → Leads c (done (if b then v else with_graph v (with_reservation v.graph p (Some (record r { cells = cells })))))
      by_case true = accepted (same refl refl refl)
      by_case false = accepted (same refl refl refl)

  commits : {c : Call} (target : Slot) (p : Numbered Point) (r : Reservation) (slot : Found (Option ℕ)) → slot_written_by c ≡ Some target
      → slot_in v target ≡ Ok slot
      → Leads c (if r.is_doomed then says reply.Flipped (with_graph v (with_reservation v.graph p None)) else done
      (world_committed v p r slot))
  commits {c} target p r slot is there = by_case r.is_doomed
    where
      by_case : (b : Bool)
          → Leads c (if b then says reply.Flipped (with_graph v (with_reservation v.graph p None)) else done (world_committed v p r slot))
      by_case true = accepted (same refl refl refl)
      by_case false = accepted (slot_is target slot _ is (inr there) refl refl refl)

  pokes : (place : Slot) (word : ℕ) (at : Found AreaWord) → word_in v place ≡ Ok at → (o : Option ℕ)
      → Leads (call.Poke place word) (act_poke_in v at word marked o)
  pokes place word at e None = accepted (word_is place at _ refl e refl refl refl)
  pokes place word at e (Some id) = by_case (poked v id) marked
    where
      by_case : (p : Poked) (m : Bool) → Leads (call.Poke place word) (act_poked v at id word p m)
      by_case AsBlock m = accepted (word_is place at _ refl e refl refl refl)
      by_case AsNumber m = accepted (word_is place at _ refl e refl refl refl)
      by_case AsMarked true = accepted (word_is place at _ refl e refl refl refl)
      by_case AsMarked false = accepted (word_is place at _ refl e refl refl refl)

  takes_message : {c : Call} (slot : Slot) (into : Found (Option ℕ)) (ids : List ℕ) → slot_written_by c ≡ Some slot
      → slot_in v slot ≡ Ok into → Leads c (act_message_in v into ids)
  takes_message slot into [] is there = accepted (same refl refl refl)
  takes_message slot into (id ∷ ids) is there = accepted (slot_is slot into (Some id) is (inr there) refl refl refl)

  drops : (name : Name) (g : Graph) → graph_without_root v.graph name (thing_named v.graph name) ≡ Some g
      → WritesRoots (call.DropRoot name) judged v (with_graph v g)
  drops name g e =
      without_root (λ h. WritesRoots (call.DropRoot name) judged v (with_graph v h)) v.graph name (thing_named v.graph name) g e
      (λ n is. record {
        names = OneUnnamed name (inr refl) refl;
        tables = ATable name n refl (ap (option_and_then as_table) is) refl;
        areas = NoWord refl;
      })
      (λ n is. record {
        names = OneUnnamed name (inr refl) refl;
        tables = AsBefore refl;
        areas = AnArea name n refl (ap (option_and_then as_area) is) refl;
      })

  -- the name of a point is that of no root
  no_root_of_point : (name : Name) (n : ℕ) → number_named v name as_point ≡ Some n → IsNoRoot v name
  no_root_of_point name n e =
      record { no_table = no_table (thing_named v.graph name) e; no_area = no_area (thing_named v.graph name) e }
    where
      no_table : (o : Option Thing) → option_and_then as_point o ≡ Some n → option_and_then as_table o ≡ None
      no_table None e = refl
      no_table (Some (TableThing m)) e = absurd (none-some n e)
      no_table (Some _) e = refl

      no_area : (o : Option Thing) → option_and_then as_point o ≡ Some n → option_and_then as_area o ≡ None
      no_area None e = refl
      no_area (Some (AreaThing m)) e = absurd (none-some n e)
      no_area (Some _) e = refl

  -- nor is that of a transform
  no_root_of_transform : (transform : Name) (n : ℕ) → transform_named v transform ≡ Ok n → IsNoRoot v transform
  no_root_of_transform transform n e =
      let is = transform_named-is v transform n e in
      record { no_table = ap (option_and_then as_table) is; no_area = ap (option_and_then as_area) is }

  applies : (transform : Name) (n : ℕ) → transform_named v transform ≡ Ok n
      → Leads (call.TransformApply transform)
      (if is_blocked v (pairs_of v.state n) then says reply.No v else says reply.Yes (world_substituted v transform n))
  applies transform n e = by_case (is_blocked v (pairs_of v.state n))
    where
      by_case : (b : Bool) → Leads (call.TransformApply transform)
          (if b then says reply.No v else says reply.Yes (world_substituted v transform n))
      by_case true = accepted (same refl refl refl)
      by_case false = accepted (record {
        names = OneUnnamed transform (inl (no_root_of_transform transform n e)) refl;
        tables = ReplacedSlots transform (pairs_of v.state n) refl (sym (ap (λ o. option_map_or (pairs_of v.state) o [])
            (required-is (number_named v transform as_transform) refusal.BadName n e))) refl;
        areas = NoWord refl;
      })

  takes : {c : Call} (from : Numbered Cache) (words : ℕ) (place : Found (Option ℕ)) (o : Option (ℕ × List CacheClass))
      → Leads c (act_taken judged v from words place o)
  takes from words place (Some taken) = accepted (same refl refl refl)
  takes from words place None =
      after_check (refuse_without_place (placement_of judged (ForAlloc from.value.pool words))) (accepted (same refl refl refl))

  keeps : {c : Call} (into : Numbered Cache) (place : Found (Option ℕ)) (o : Option (List CacheClass)) → Leads c (act_kept v into place o)
  keeps into place (Some classes) = accepted (same refl refl refl)
  keeps into place None = accepted (same refl refl refl)

  pub roots_of_act : (c : Call) → Leads c (act marked judged v c)
  roots_of_act (call.Arena grains limit) = accepted (same refl refl refl)
  roots_of_act (call.Limit limit) =
      after_check (refuse_when (nat_lt limit (committed v)) refusal.BelowCommitted) (accepted (same refl refl refl))
  roots_of_act call.Committed = accepted (same refl refl refl)
  roots_of_act (call.Chain chain count capacities) =
      after_check (refuse_taken v chain)
      (after_check (refuse_at_limit (length v.chains) most_chains) (accepted (named_one _ refl refl refl)))
  roots_of_act (call.Pool pool kind format) =
      after_check (refuse_taken v pool) (made pool (record { kind = Collected kind; format = format; chain = None }))
  roots_of_act (call.PoolOnChain pool kind format chain) =
      after_check (refuse_taken v pool) (andthen (chain_named v chain) (λ (on : Numbered (List ℕ)).
      made pool (record { kind = Collected kind; format = format; chain = Some on.number })))
  roots_of_act (call.PoolMfs pool words) =
      after_check (refuse_taken v pool) (after_check (refuse_when (not (is_block_size words)) refusal.BadSize)
      (made pool (record { kind = OneSize words; format = 0; chain = None })))
  roots_of_act (call.PoolMvff pool) = after_check (refuse_taken v pool) (made pool (record { kind = AnySize; format = 0; chain = None }))
  roots_of_act (call.PoolFrames pool) = after_check (refuse_taken v pool) (made pool (record { kind = Frames; format = 0; chain = None }))
  roots_of_act (call.Table table slots) = after_check (refuse_taken v table)
      (after_check (refuse_root v slots) (accepted (record { names = OneNamed _ refl; tables = OneMore _ refl; areas = NoWord refl })))
  roots_of_act (call.Area area words) = after_check (refuse_taken v area)
      (after_check (refuse_root v words)
      (accepted (record { names = OneNamed _ refl; tables = AsBefore refl; areas = OneMoreArea _ refl })))
  roots_of_act (call.Blocks blocks places) = after_check (refuse_taken v blocks)
      (after_check (refuse_root v places) (accepted (named_one _ refl refl refl)))
  roots_of_act (call.DropRoot root) =
      with_value (required (graph_without_root v.graph root (thing_named v.graph root)) refusal.BadName) (λ (g : Graph) e.
      accepted (drops root g (required-is (graph_without_root v.graph root (thing_named v.graph root)) refusal.BadName g e)))
  roots_of_act (call.Point point pool rank) =
      after_check (refuse_taken v point) (andthen (pool_named v pool) (λ (of : Numbered Pool).
      after_check (refuse_when (not (may_have_point of.value.kind rank)) refusal.WrongPool)
      (after_check (refuse_at_limit (live_points v.graph) most_points) (accepted (named_one _ refl refl refl)))))
  roots_of_act (call.DropPoint point) =
      with_value (point_named v point) (λ (p : Numbered Point) e.
      after_check (refuse_when (is_some p.value.reservation) refusal.Open)
      (accepted (record {
        names = OneUnnamed point (inl (no_root_of_point point p.number (point_named-is v point p e).0)) refl;
        tables = AsBefore refl;
        areas = NoWord refl;
      })))
  roots_of_act (call.Dependency dependency) =
      after_check (refuse_taken v dependency) (after_check (refuse_at_limit (length v.dependencies) most_dependencies)
      (accepted (named_one _ refl refl refl)))
  roots_of_act (call.Reserve point head) =
      andthen (check_reserve judged point head) (λ (r : Reserving).
      after_check (refuse_without_place (placement_of judged (ForReserve r.point.number (length r.cells))))
      (andthen (point_named v point) (λ (p : Numbered Point). accepted (same refl refl refl))))
  roots_of_act (call.InitNumber point cell value) =
      andthen (point_named v point) (λ (p : Numbered Point).
      andthen (required p.value.reservation refusal.NotOpen) (λ (r : Reservation).
      after_check (number_at r.cells cell) (init p r (slice_set r.cells cell (NumberCell value)))))
  roots_of_act (call.InitReference point cell source) =
      andthen (point_named v point) (λ (p : Numbered Point).
      andthen (slot_in v source) (λ (from : Found (Option ℕ)).
      andthen (required p.value.reservation refusal.NotOpen) (λ (r : Reservation).
      after_check (reference_at r.cells cell) (init p r (with_target_cell r.cells cell from.value)))))
  roots_of_act (call.Commit point target) =
      andthen (point_named v point) (λ (p : Numbered Point).
      with_value (slot_in v target) (λ (slot : Found (Option ℕ)) e.
      andthen (required p.value.reservation refusal.NotOpen) (λ (r : Reservation). commits target p r slot refl e)))
  roots_of_act (call.Alloc pool words place) =
      andthen (pool_named judged pool) (λ (p : Numbered Pool).
      after_check (refuse_when (is_automatic_kind p.value.kind) refusal.WrongPool)
      (andthen (block_place_in judged place) (λ (at : Found (Option ℕ)).
      after_check (refuse_when (not (allows_size p.value.kind words)) refusal.BadSize)
      (after_check (refuse_when (is_some at.value) refusal.NameTaken)
      (after_check (refuse_without_place (placement_of judged (ForAlloc p.number words))) (accepted (same refl refl refl)))))))
  roots_of_act (call.Free place) =
      andthen (block_place_in v place) (λ (at : Found (Option ℕ)). andthen (block_in at) (λ (id : ℕ).
      after_check (refuse_when (pool_is has_frames v (pool_of v id)) refusal.WrongPool) (accepted (same refl refl refl))))
  roots_of_act (call.Load place word) =
      andthen (block_place_in v place) (λ (at : Found (Option ℕ)). andthen (block_in at) (λ (id : ℕ).
      andthen (required (slice_get (words_at v.graph id) word) refusal.BadIndex) (λ (n : ℕ). accepted (same refl refl refl))))
  roots_of_act (call.Store place word value) =
      andthen (block_place_in v place) (λ (at : Found (Option ℕ)). andthen (block_in at) (λ (id : ℕ).
      after_check (required (slice_get (words_at v.graph id) word) refusal.BadIndex) (accepted (same refl refl refl))))
  roots_of_act (call.Get target source cell) =
      with_value (slot_in judged target) (λ (into : Found (Option ℕ)) e.
      andthen (slot_in judged source) (λ (from : Found (Option ℕ)).
      andthen (object_in judged from.value) (λ (object : Numbered Object).
      after_check (reference_at (cells_of_body object.value.body) cell)
      (andthen (object_in v from.value) (λ (now : Numbered Object).
      andthen (reference_at (cells_of_body now.value.body) cell) (λ (read : Option ℕ).
      accepted (slot_is target into read refl (inl e) refl refl refl)))))))
  roots_of_act (call.Put target cell source) =
      andthen (slot_in v target) (λ (into : Found (Option ℕ)).
      andthen (slot_in v source) (λ (from : Found (Option ℕ)).
      andthen (object_in v into.value) (λ (object : Numbered Object).
      after_check (reference_at (cells_of_body object.value.body) cell) (accepted (same refl refl refl)))))
  roots_of_act (call.Number slot cell) =
      andthen (slot_in v slot) (λ (from : Found (Option ℕ)). andthen (object_in v from.value) (λ (object : Numbered Object).
      andthen (number_at (cells_of_body object.value.body) cell) (λ (n : ℕ). accepted (same refl refl refl))))
  roots_of_act (call.SetNumber slot cell value) =
      andthen (slot_in v slot) (λ (into : Found (Option ℕ)).
      andthen (object_in v into.value) (λ (object : Numbered Object).
      after_check (number_at (cells_of_body object.value.body) cell) (accepted (same refl refl refl))))
  roots_of_act (call.Copy target source) =
      with_value (slot_in v target) (λ (into : Found (Option ℕ)) e.
      andthen (slot_in v source) (λ (from : Found (Option ℕ)). accepted (slot_is target into from.value refl (inr e) refl refl refl)))
  roots_of_act (call.Clear slot) =
      with_value (slot_in v slot) (λ (into : Found (Option ℕ)) e. accepted (slot_is slot into None refl (inr e) refl refl refl))
  roots_of_act (call.Same slot other) =
      andthen (slot_in v slot) (λ (one : Found (Option ℕ)). andthen (slot_in v other) (λ (two : Found (Option ℕ)).
      yes_or_no (same_target one.value two.value)))
  roots_of_act (call.Null slot) = andthen (slot_in v slot) (λ (from : Found (Option ℕ)). yes_or_no (is_none from.value))
  roots_of_act (call.Head slot) =
      andthen (slot_in v slot) (λ (from : Found (Option ℕ)). andthen (object_in v from.value) (λ (o : Numbered Object).
      accepted (same refl refl refl)))
  roots_of_act (call.Address slot) =
      andthen (slot_in v slot) (λ (from : Found (Option ℕ)). andthen (object_in v from.value) (λ (o : Numbered Object).
      accepted (same refl refl refl)))
  roots_of_act (call.Poke word value) =
      with_value (word_in v word) (λ (at : Found AreaWord) e. pokes word value at e (block_of_word v value))
  roots_of_act (call.SetTag slot cell tag) =
      andthen (slot_in v slot) (λ (into : Found (Option ℕ)).
      andthen (object_in v into.value) (λ (object : Numbered Object).
      after_check (reference_at (cells_of_body object.value.body) cell) (accepted (same refl refl refl))))
  roots_of_act (call.Tag slot cell) =
      andthen (slot_in v slot) (λ (from : Found (Option ℕ)). andthen (object_in v from.value) (λ (object : Numbered Object).
      andthen (tag_at (cells_of_body object.value.body) cell) (λ (tag : ℕ). accepted (same refl refl refl))))
  roots_of_act (call.Intern label) =
      after_check (refuse_when (is_taken v.graph label) refusal.NameTaken)
      (after_check (refuse_at_limit (length v.graph.labels) most_labels) (accepted (named_one _ refl refl refl)))
  roots_of_act (call.Label slot label) =
      andthen (slot_in v slot) (λ (from : Found (Option ℕ)). andthen (object_in v from.value) (λ (object : Numbered Object).
      andthen (label_named v label) (λ (found : Numbered Name). accepted (same refl refl refl))))
  roots_of_act (call.Depend holder dependent) =
      andthen (slot_in v holder) (λ (from : Found (Option ℕ)). andthen (slot_in v dependent) (λ (to : Found (Option ℕ)).
      andthen (object_in v from.value) (λ (weak : Numbered Object). andthen (object_in v to.value) (λ (exact : Numbered Object).
      after_check (refuse_when (not (may_depend v weak.value exact.value)) refusal.WrongPool)
      (after_check (refuse_when (is_none (dependent_in v.graph.dependents weak.number)
      && nat_le most_dependents (length v.graph.dependents)) (refusal.TooMany most_dependents)) (accepted (same refl refl refl)))))))
  roots_of_act (call.Undepend holder) =
      andthen (slot_in v holder) (λ (from : Found (Option ℕ)). andthen (object_in v from.value) (λ (weak : Numbered Object).
      after_check (required (dependent_in v.graph.dependents weak.number) refusal.NotLinked) (accepted (same refl refl refl))))
  roots_of_act (call.Transform transform) =
      after_check (refuse_taken v transform)
      (after_check (refuse_at_limit (count_by (λ is_there. is_there) v.graph.transforms) most_transforms)
      (accepted (named_one _ refl refl refl)))
  roots_of_act (call.TransformAdd transform old new) =
      andthen (transform_named v transform) (λ (n : ℕ).
      andthen (slot_in v old) (λ (from : Found (Option ℕ)). andthen (slot_in v new) (λ (to : Found (Option ℕ)).
      andthen (object_in v from.value) (λ (one : Numbered Object). andthen (object_in v to.value) (λ (other : Numbered Object).
      after_check (refuse_when (not (is_parked v)) refusal.NotParked)
      (after_check (refuse_when (is_old (pairs_of v.state n) one.number) refusal.OldTwice)
      (after_check (refuse_at_limit (length (pairs_in v.state)) most_pairs) (accepted (same refl refl refl)))))))))
  roots_of_act (call.TransformApply transform) =
      with_value (transform_named v transform) (λ (n : ℕ) e.
      after_check (refuse_when (not (is_parked v)) refusal.NotParked)
      (after_check (refuse_when (list_any has_live_reservation v.graph.points) refusal.Open) (applies transform n e)))
  roots_of_act (call.TransformDrop transform) =
      with_value (transform_named v transform) (λ (n : ℕ) e. accepted (record {
        names = OneUnnamed transform (inl (no_root_of_transform transform n e)) refl;
        tables = AsBefore refl;
        areas = NoWord refl;
      }))
  roots_of_act (call.Cache cache pool count sizes limits) =
      after_check (refuse_taken v cache) (andthen (pool_named v pool) (λ (of : Numbered Pool).
      after_check (refuse_when (not (may_have_cache of.value.kind)) refusal.WrongPool)
      (after_check (refuse_when (not (are_class_sizes 0 (new_classes count sizes limits))) refusal.BadSize)
      (after_check (refuse_at_limit (length v.graph.caches) most_caches) (accepted (named_one _ refl refl refl))))))
  roots_of_act (call.CacheAlloc cache words place) =
      andthen (cache_named v cache) (λ (from : Numbered Cache).
      andthen (required (pool_at judged from.value.pool) refusal.BadName) (λ (p : Pool).
      andthen (block_place_in v place) (λ (at : Found (Option ℕ)).
      after_check (refuse_when (not (allows_size p.kind words)) refusal.BadSize)
      (after_check (refuse_when (is_some at.value) refusal.NameTaken) (takes from words at (taken_from from.value.classes words))))))
  roots_of_act (call.CacheFree cache place) =
      andthen (cache_named v cache) (λ (into : Numbered Cache). andthen (block_place_in v place) (λ (at : Found (Option ℕ)).
      andthen (block_in at) (λ (id : ℕ). after_check (refuse_when (not (pool_of v id == into.value.pool)) refusal.WrongPool)
      (keeps into at (kept_by v into.value id)))))
  roots_of_act (call.CacheFlush cache) = andthen (cache_named v cache) (λ (from : Numbered Cache). accepted (same refl refl refl))
  roots_of_act (call.Push pool) =
      andthen (frames_named v pool) (λ (f : PoolFrames).
      after_check (refuse_at_limit (open_frames v.graph) most_frames) (accepted (same refl refl refl)))
  roots_of_act (call.Pop pool frame) =
      andthen (frames_named v pool) (λ (f : PoolFrames). andthen (frame_in f frame) (λ (before : ℕ). accepted (same refl refl refl)))
  roots_of_act (call.Peek word) = andthen (word_in v word) (λ (at : Found AreaWord). accepted (same refl refl refl))
  roots_of_act (call.Pin word slot) =
      with_value (word_in v word) (λ (at : Found AreaWord) e. andthen (slot_in v slot) (λ (from : Found (Option ℕ)).
      andthen (object_in v from.value) (λ (object : Numbered Object). accepted (word_is word at _ refl e refl refl refl))))
  roots_of_act (call.Take slot word) =
      with_value (slot_in v slot) (λ (into : Found (Option ℕ)) e. andthen (word_in v word) (λ (at : Found AreaWord).
      andthen (held_in at.value) (λ (id : ℕ). accepted (slot_is slot into (Some id) refl (inr e) refl refl refl))))
  roots_of_act call.Start = after_check (refuse_when (is_running judged) refusal.Running) (accepted (same refl refl refl))
  roots_of_act (call.StartChain chain generation) =
      andthen (chain_named judged chain) (λ (on : Numbered (List ℕ)).
      after_check (refuse_when (nat_le (length on.value) generation) refusal.BadIndex)
      (after_check (refuse_when (is_running judged) refusal.Running) (accepted (same refl refl refl))))
  roots_of_act (call.Step units) = accepted (same refl refl refl)
  roots_of_act call.Collect = accepted (same refl refl refl)
  roots_of_act call.Clamp = accepted (same refl refl refl)
  roots_of_act call.Park = accepted (same refl refl refl)
  roots_of_act call.Release = accepted (same refl refl refl)
  roots_of_act (call.Finalize slot) =
      andthen (slot_in v slot) (λ (from : Found (Option ℕ)). andthen (object_in v from.value) (λ (object : Numbered Object).
      after_check (refuse_when (nat_le most_registrations (length v.graph.registered + length v.graph.messages))
      (refusal.TooMany most_registrations)) (accepted (same refl refl refl))))
  roots_of_act (call.Definalize slot) =
      andthen (slot_in v slot) (λ (from : Found (Option ℕ)). andthen (object_in v from.value) (λ (object : Numbered Object).
      andthen (required (position_of_first v.graph.registered object.number) refusal.NotRegistered) (λ (position : ℕ).
      accepted (same refl refl refl))))
  roots_of_act (call.Message slot) =
      with_value (slot_in v slot) (λ (into : Found (Option ℕ)) e. takes_message slot into v.graph.messages refl e)
  roots_of_act (call.DependencyReset dependency) =
      andthen (dependency_named v dependency) (λ (d : Numbered Dependency). accepted (same refl refl refl))
  roots_of_act (call.DependencyAdd dependency slot) =
      andthen (dependency_named v dependency) (λ (d : Numbered Dependency). andthen (slot_in v slot) (λ (from : Found (Option ℕ)).
      andthen (object_in v from.value) (λ (object : Numbered Object). accepted (same refl refl refl))))
  roots_of_act (call.DependencyMerge dependency source) =
      andthen (dependency_named v dependency) (λ (d : Numbered Dependency). andthen (dependency_named v source)
      (λ (e : Numbered Dependency). accepted (same refl refl refl)))
  roots_of_act (call.DependencyStale dependency) =
      andthen (dependency_named v dependency) (λ (d : Numbered Dependency). yes_or_no (is_stale v.flips d.value.epoch d.value.zones))
  roots_of_act call.Live = accepted (same refl refl refl)
  roots_of_act (call.Dump at) =
      after_check (refuse_when (is_running v) refusal.Running)
      (andthen (required (id_at v at) refusal.NotABlock) (λ (id : ℕ). accepted (same refl refl refl)))
