-- What the changes of calls that make no moves leave where no collection runs: a sound world, of the same formats.
use Rattle.std.proofs.Common.{◌≡◌, ◌∙◌, ℕ, Bool, true, false, refl, sym, ap, subst, List, [], ◌∷◌, map, Option, Some, None, Ok, inl, inr}
use Rattle.std.proofs.lemmas.Bool.{and_parts, false≢true, or_right, true≢false}
use Rattle.std.proofs.lemmas.Option.{none-some, same_Some, slice_get-map}
use Rattle.std.specs.Prelude.{◌||◌, find, if◌then◌else◌, is_some, nat_lt, option_map}
use Rattle.std.specs.List.{flat_map, list_all}
use Rattle.std.specs.Option.{option_map_or}
use Rattle.mps_base.specs.declared.names.Name.{Name}
use Rattle.mps_base.specs.declared.names.Slot.{Slot}
use Rattle.mps_format.specs.Layout.{Layout}
use Rattle.mps_model.specs.declared.call.Call.{Call}
use Rattle.mps_model.specs.declared.call.Call.TheVariants as call
use Rattle.mps_model.specs.Graph.{Graph, Object, object_at, Body, Automatic, Manual, Cell, AreaWord, PlainWord, Hold, entry_at, held_by_word, holds_of, is_automatic, object_with_cells, with_last, without_first, target_of_cell, targets, targets_of, targets_of_body, targets_of_cells, targets_of_point, targets_of_reservation}
use Rattle.mps_model.specs.Collection.{Collection}
use Rattle.mps_model.specs.World.{World, block_of_word, is_copying_object, is_live, is_live_and, is_running, is_word_in, lies_in, live_ids, object_is, words_of, TransformPair, ids_in_pairs, ids_of_pair}
use Rattle.mps_model.specs.Checked.{Found, Numbered, cells_of_body, slot_in, with_graph, word_in}
use Rattle.mps_model.specs.Allocating.{graph_with_word}
use Rattle.mps_model.specs.Accessing.{held_in}
use Rattle.mps_model.specs.Collecting.{without_registration}
use Rattle.mps_model.specs.Reply.{act}
use Rattle.mps_model.specs.History.{HeldAreLive, is_held_rightly}
use Rattle.mps_laws.proofs.Acts.{ForAct, point_named-is}
use Rattle.mps_changes.proofs.ActChanges.{but, of_changes}
use Rattle.mps_changes.specs.Change.{IsFoundBy, Now, Before, IsInSlot, IsGot, GotNull, FromSlot, FromCell, FromWord, FromMessage, IsShown, ShownPlain, ShownPinned, ShownPoked, IsWritten, Change, Unchanged, Aside, SlotIs, WordIs, MessageTaken, TableMade, AreaMade, BlocksMade, TableDropped, AreaDropped, CellsAre, BlockWordIs, PlaceEmptied, Allocated, PoolMade, PointMade, PointDropped, Opened, Written, Closed, Committed, Substituted, Registered, Unregistered, allocates, frees, CacheMade, BlockUncached, BlockCached, CacheFlushed, FramePushed, FramesPopped}
use Rattle.mps_laws.proofs.FoundBy.{object_found, reference_found, slot_found, word_found}
use Rattle.mps_laws.proofs.Sound.SoundGraph.{all-at, entry-passes}
use Rattle.mps_laws.proofs.Lookups.{entry_is_there}
use Rattle.mps_laws.proofs.QuietSteps.{IsSound}
use Rattle.mps_laws.proofs.Sound.HeldIds.{All, PassesOrNull}
use Rattle.mps_model.proofs.Reaching.{list_all-contains}
use Rattle.mps_abstract.proofs.Lists.{list_all-members}
use Rattle.mps_changes.proofs.Written.{written_targets}
use Rattle.mps_laws.proofs.Sound.Referred.{SoundParts, sound_parts, word_of_block_written, sound_world}
use Rattle.mps_laws.proofs.Sound.SoundEffects.{MayBeHeld, cells_sound, reservation_sound, slot_passes, slot_sound, word_sound}
use Rattle.mps_laws.proofs.Sound.SoundChanges.{area_gone_sound, area_sound, blocks_sound, message_sound, point_gone_sound, point_sound, registrations_sound, sound_again, table_gone_sound, table_sound, cache_sound}
use Rattle.mps_model.specs.Transforms.{object_substituted, pairs_of, world_substituted}
use Rattle.mps_laws.proofs.Parked.{aside_pairs}
use Rattle.mps_laws.proofs.Sound.Substituting.{body_targets_pass, others_pass, pairs_of_pass, tables_pass}

-- a sound world, with these formats
pub record LeavesSound (formats : ℕ → Layout) (u : World) : Type 0 where
  pub sound : IsSound u
  pub formats_kept : u.formats ≡ formats

-- whether a call may make a move where no collection runs
abbrev pub may_move : Call → Bool
may_move (call.Reserve point head) = true
may_move (call.Commit point target) = true
may_move (call.Alloc pool words place) = true
may_move (call.Free place) = true
may_move (call.CacheAlloc cache words place) = true
may_move (call.CacheFree cache place) = true
may_move (call.CacheFlush cache) = true
may_move (call.Pop pool frame) = true
may_move call.Start = true
may_move (call.StartChain chain generation) = true
may_move call.Collect = true
may_move _ = false

-- a call that makes a block or frees one may move
pub allocating_moves : (c : Call) → allocates c ≡ true → may_move c ≡ true
allocating_moves (call.Alloc pool words place) h = refl
allocating_moves (call.CacheAlloc cache words place) h = refl
allocating_moves _ h = absurd (true≢false (sym h))

pub freeing_moves : (c : Call) → frees c ≡ true → may_move c ≡ true
freeing_moves (call.Free place) h = refl
freeing_moves (call.CacheFree cache place) h = refl
freeing_moves _ h = absurd (true≢false (sym h))

-- where no collection runs, a world is sound where what is held is live
pub resting_sound : (u : World) → u.collection ≡ None → HeldAreLive u → IsSound u
resting_sound u rest live = record {
  live = live;
  kept = ap (λ c. option_map_or (λ c. list_all (is_held_rightly u c) (Rattle.mps_model.specs.Graph.ids_of_client u.graph)) c true) rest;
  units = ap (λ c. option_map_or (λ (c : Collection). nat_lt c.spent c.units) c true) rest;
}

found_passes : {X : Type 0} (p : X → Bool) (xs : List X) (x : X) → find p xs ≡ Some x → p x ≡ true
found_passes p [] x h = absurd (none-some x h)
found_passes p (y ∷ ys) x h =
    elim (p y) as (λ t. p y ≡ t → (if t then Some y else find p ys) ≡ Some x → p x ≡ true) [
      | true ↦ (λ t g. subst (λ n. p n ≡ true) (same_Some y x g) t)
      | false ↦ (λ t g. found_passes p ys x g)
    ] refl h

cells_targets : (test : ℕ → Bool) (b : Body) → All test (targets_of_body b) → All test (targets_of_cells (cells_of_body b))
cells_targets test (Automatic head cells is_weak) all = all
cells_targets test (Manual words) all = refl

module _ (w : World) (rest : w.collection ≡ None) (sound : IsSound w) where
  parts : SoundParts w
  parts = sound_parts w sound

  running : is_running w ≡ false
  running = ap is_some rest

  none_kept : {A : Type 0} (c : Collection) → w.collection ≡ Some c → A
  none_kept c e = absurd (none-some c (sym rest ∙ e))

  left : {u : World} → IsSound u → u.formats ≡ w.formats → LeavesSound w.formats u
  left s same = record { sound = s; formats_kept = same }

  -- names, pools and numbers of the world change
  renamed : {u : World}
      → u.graph ≡ record w.graph {
        names = u.graph.names;
        labels = u.graph.labels;
        dependents = u.graph.dependents;
        transforms = u.graph.transforms;
        frames = u.graph.frames;
      }
      → u.addresses ≡ w.addresses → u.collection ≡ w.collection → u.formats ≡ w.formats
      → (is_running u || list_all (is_live u) (ids_in_pairs u.state)) ≡ true → LeavesSound w.formats u
  renamed {u} graph addresses collection formats pairs =
      let v = record w {
        graph = record w.graph {
          names = u.graph.names;
          labels = u.graph.labels;
          dependents = u.graph.dependents;
          transforms = u.graph.transforms;
          frames = u.graph.frames;
        };
      } in
      let named : IsSound v = resting_sound v rest (record {
        client = sound.live.client;
        blocks = sound.live.blocks;
        referred = sound.live.referred;
        transforms = sound.live.transforms;
      }) in
      let s = sound_again v (record u { pools = w.pools; state = w.state }) graph addresses collection refl refl named in
      left (resting_sound u (collection ∙ rest) (record {
        client = s.live.client;
        blocks = s.live.blocks;
        referred = s.live.referred;
        transforms = pairs;
      })) formats

  -- what is live may be written anywhere
  may_be_held : (target : Option ℕ) → PassesOrNull (is_live w) target → MayBeHeld w sound target
  may_be_held target live = record { live = live; rightly = λ c e. none_kept c e }

  -- ---- what is written is live

  object_live : (object : Numbered Object) (held : IsInSlot w object) → is_live w object.number ≡ true
  object_live object held =
      subst (PassesOrNull (is_live w)) (object_found w held.from.value object held.is).0
      (slot_passes (is_live w) w held.slot held.from held.there parts.held)

  targets_live : (object : Numbered Object) → IsInSlot w object → All (is_live w) (targets_of object.value)
  targets_live object held =
      subst (λ o. All (is_live w) (option_map_or targets_of o [])) (object_found w held.from.value object held.is).1
      (parts.referred running object.number (object_live object held))

  held_live : (place : Slot) (at : Found AreaWord) (id : ℕ) → word_in w place ≡ Ok at → held_in at.value ≡ Ok id → is_live w id ≡ true
  held_live place at id e f =
      let t = word_found w place at e in
      of_word at.value f (entry-passes (is_live w) (map held_by_word at.list) at.index (held_by_word at.value)
      (all-at (is_live w) holds_of w.graph.areas at.number (Some at.list) parts.held.holds
      (entry_is_there w.graph.areas at.number at.list t.0))
      (slice_get-map held_by_word at.list at.index ∙ ap (option_map held_by_word) t.1))
    where
      of_word : (word : AreaWord) → held_in word ≡ Ok id → PassesOrNull (is_live w) (held_by_word word) → is_live w id ≡ true
      of_word (PlainWord number) g live = absurd cc
      of_word (Hold other offset) g live = let same : other ≡ id = cc in subst (λ n. is_live w n ≡ true) same live

  got_live : {marked : Bool} {c : Call} {target : Option ℕ} → IsGot marked c w w target → PassesOrNull (is_live w) target
  got_live GotNull = tt
  got_live (FromSlot slot from e) = slot_passes (is_live w) w slot from e parts.held
  got_live (FromCell target source cell from seen read e f g h) =
      entry-passes (is_live w) (map target_of_cell (cells_of_body seen.value.body)) cell read
      (cells_targets (is_live w) seen.value.body (targets_live seen (record { slot = source; from = from; there = f; is = g })))
      (reference_found (cells_of_body seen.value.body) cell read h)
  got_live (FromWord place at id e f) = held_live place at id e f
  got_live (FromMessage id ids e) =
      (and_parts (is_live w id) (list_all (is_live w) ids) (subst (All (is_live w)) e parts.held.messages)).0

  in_block : (word id : ℕ) → block_of_word w word ≡ Some id → is_live w id ≡ true
  in_block word id e =
      of_address (entry_at w.addresses id)
      (and_parts (object_is is_automatic w id) (is_live_and (λ at. is_word_in (is_copying_object w id) at (words_of w id) word) w id)
      (found_passes (λ n. lies_in w word n) (live_ids w) id e)).1
    where
      of_address : (o : Option ℕ) → option_map_or (λ at. is_word_in (is_copying_object w id) at (words_of w id) word) o false ≡ true
          → is_some o ≡ true
      of_address None h = absurd (false≢true h)
      of_address (Some at) h = refl

  shown_live : {marked : Bool} {c : Call} {word : AreaWord} → IsShown marked c w w word → PassesOrNull (is_live w) (held_by_word word)
  shown_live (ShownPlain number) = tt
  shown_live (ShownPinned object held) = object_live object held
  shown_live (ShownPoked place id word e f fate) = in_block word id f

  written_live : {marked : Bool} {c : Call} {cells : List Cell} {change : List Cell → List Cell} → IsWritten marked c w w cells change
      → (old : List Cell) → All (is_live w) (targets_of_cells old) → All (is_live w) (targets_of_cells (change old))
  written_live {change = change} write old all =
      list_all-members (is_live w) (targets_of_cells (change old)) (λ t h. elim (written_targets write old t h) [
        | inl was ↦ list_all-contains (is_live w) (targets_of_cells old) t all was
        | inr o ↦ subst (PassesOrNull (is_live w)) o.is (slot_passes (is_live w) w o.slot o.from o.there parts.held)
      ])

  slots_there : (into : Found (Option ℕ)) → IsFoundBy slot_in w w into → entry_at w.graph.tables into.number ≡ Some into.list
  slots_there into (Now slot e) = (slot_found w slot into e).0
  slots_there into (Before slot e) = (slot_found w slot into e).0

  -- ---- a transform is applied

  substituted_sound : (name : Name) (transform : ℕ) → IsSound (world_substituted w name transform)
  substituted_sound name transform =
      sound_world (world_substituted w name transform) (record {
        slots = tables_pass (is_live w) pairs passes w.graph.tables parts.held.slots;
        holds = parts.held.holds;
        messages = parts.held.messages;
        reservations = parts.held.reservations;
      }) parts.blocks (λ r id live.
      ap (λ o. list_all (is_live w) (option_map_or targets_of o [])) (slice_get-map (object_substituted pairs) w.graph.objects id)
      ∙ of_object (object_at w.graph id) (parts.referred running id live))
      (λ r. others_pass (is_live w) w.state transform (parts.pairs running)) (λ c is. none_kept c is) parts.units
    where
      pairs : List TransformPair
      pairs = pairs_of w.state transform

      passes : All (is_live w) (flat_map ids_of_pair pairs)
      passes = pairs_of_pass (is_live w) w.state transform (parts.pairs running)

      of_object : (o : Option Object) → All (is_live w) (option_map_or targets_of o [])
          → All (is_live w) (option_map_or targets_of (option_map (object_substituted pairs) o) [])
      of_object None all = refl
      of_object (Some o) all = body_targets_pass (is_live w) pairs passes o.body all

  -- ---- changes

  pub change_sound : {marked : Bool} {c : Call} {u : World} → may_move c ≡ false → Change marked c w w u → LeavesSound w.formats u
  change_sound h Unchanged = left sound refl
  change_sound h (Aside u what) =
      renamed refl refl refl refl
      (or_right (is_running w) (list_all (is_live w) (ids_in_pairs u.state))
      (aside_pairs w (is_live w) (parts.pairs running) what parts.held.slots))
  change_sound h (SlotIs into target found got) =
      left (slot_sound w sound into target (slots_there into found) (may_be_held target (got_live got))) refl
  change_sound h (WordIs place at word e shown) =
      left (word_sound w sound at word (word_found w place at e).0 (may_be_held (held_by_word word) (shown_live shown))) refl
  change_sound h (MessageTaken slot into id ids e are) =
      left (slot_sound (with_graph w (record w.graph { messages = ids })) (message_sound w sound id ids are) into (Some id)
      (slot_found w slot into e).0 (record {
        live = (and_parts (is_live w id) (list_all (is_live w) ids) (subst (All (is_live w)) are parts.held.messages)).0;
        rightly = λ c is. none_kept c is;
      })) refl
  change_sound h (TableMade name slots) = left (table_sound w sound name.name slots) refl
  change_sound h (AreaMade name words) = left (area_sound w sound name.name words) refl
  change_sound h (BlocksMade name places e) = left (blocks_sound w sound name.name places) refl
  change_sound h (TableDropped name n named) = left (table_gone_sound w sound n name) refl
  change_sound h (AreaDropped name n named) = left (area_gone_sound w sound n name) refl
  change_sound h (CellsAre object change held write) =
      left (cells_sound w sound object.number change (λ r o is.
      subst (λ (x : Object). All (is_live w) (targets_of (object_with_cells x change)))
      (same_Some object.value o (sym (object_found w held.from.value object held.is).1 ∙ is))
      (of_body object.value.body (targets_live object held)))) refl
    where
      of_body : (b : Body) → All (is_live w) (targets_of_body b)
          → All (is_live w) (targets_of_body (Rattle.mps_model.specs.Graph.body_with_cells b change))
      of_body (Automatic head cells is_weak) all = written_live write cells all
      of_body (Manual words) all = all
  change_sound h (BlockWordIs id k value) =
      let g = graph_with_word w.graph id k value in
      left (resting_sound (with_graph w g) rest (record {
        client = sound.live.client;
        blocks = sound.live.blocks;
        referred = subst (λ b. (b || list_all (is_live w) (flat_map (targets g) (live_ids w))) ≡ true) (sym running)
            (Rattle.mps_laws.proofs.Sound.Referred.for_live (with_graph w g) (is_live w)
            (word_of_block_written (is_live w) w.graph (is_live w) id k value (parts.referred running)));
        transforms = sound.live.transforms;
      })) refl
  change_sound {c = c} h (PlaceEmptied from place id e found has freed) = absurd (true≢false (sym (freeing_moves c e) ∙ h))
  change_sound {c = c} h (Allocated p words place at e of kind size found empty) = absurd (true≢false (sym (allocating_moves c e) ∙ h))
  change_sound h (CacheMade name pool of classes e may none) =
      left (cache_sound w sound name.name (record { pool = of.number; classes = classes }) none) refl
  change_sound h (BlockUncached name cache words into place id classes e is taken found empty) = but may_move e refl h
  change_sound h (BlockCached name cache from place id classes e is found has own kept) = but may_move e refl h
  change_sound h (CacheFlushed name cache e is) = but may_move e refl h
  change_sound {u = u} h (FramePushed name f e found) = renamed refl refl refl refl sound.live.transforms
  change_sound h (FramesPopped name f frame before e found opened) = but may_move e refl h
  change_sound h (PoolMade name p e made) = renamed refl refl refl refl sound.live.transforms
  change_sound h (PointMade name pool of at_rank e is may) = left (point_sound w sound name.name of.number at_rank) refl
  change_sound h (PointDropped name p e is none) = left (point_gone_sound w sound name p.number) refl
  change_sound h (Opened name head reserving p at e is there) = but may_move e refl h
  change_sound h (Written name p r change e there has lives write) =
      left (reservation_sound w sound p (record r { cells = change r.cells })
      (cells_left (subst (λ o. All (is_live w) (option_map_or targets_of_reservation o [])) has
      (all-at (is_live w) targets_of_point w.graph.points p.number (Some p.value) parts.held.reservations
      (entry_is_there w.graph.points p.number p.value (point_named-is w name p there).1)))) (λ c is. none_kept c is)) refl
    where
      cells_left : All (is_live w) (targets_of_reservation r)
          → All (is_live w) (targets_of_reservation (record r { cells = change r.cells }))
      cells_left all =
          subst (λ b. All (is_live w) (if b then [] else targets_of_cells (change r.cells))) (sym lives)
          (written_live write r.cells (subst (λ b. All (is_live w) (if b then [] else targets_of_cells r.cells)) lives all))
  change_sound h (Closed name target p r e there has ended) = but may_move e refl h
  change_sound h (Committed name target p r slot e there found has lives) = but may_move e refl h
  change_sound h (Substituted name transform e is parked) = left (substituted_sound name transform) refl
  change_sound h (Registered object held e) =
      left (registrations_sound w sound (with_last w.graph.registered object.number)) refl
  change_sound h (Unregistered slot from object position e there is at) =
      let g = record w.graph { registered = without_first w.graph.registered object.number } in
      left (sound_again (with_graph w g) (record w { graph = g; collection = option_map (without_registration position) w.collection })
      refl refl (ap (option_map (without_registration position)) rest ∙ sym rest) refl refl
      (registrations_sound w sound (without_first w.graph.registered object.number))) refl

pub act_leaves_sound : (w : World) (rest : w.collection ≡ None) (sound : IsSound w) (marked : Bool) (c : Call) → may_move c ≡ false
    → ForAct (LeavesSound w.formats) (act marked w w c)
act_leaves_sound w rest sound marked c h = of_changes marked w w c (λ u change. change_sound w rest sound h change)
