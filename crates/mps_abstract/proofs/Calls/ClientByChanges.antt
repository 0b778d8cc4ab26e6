-- Every call of the client keeps the invariant: change by change, and then the whole step.
use Rattle.std.proofs.Common.{◌≡◌, ◌∙◌, ◌⊎◌, ℕ, Bool, true, false, refl, sym, ap, List, [], ◌∷◌, length, Option, Some, None, subst, inl, inr}
use Rattle.std.proofs.lemmas.Bool.{false≢true}
use Rattle.std.proofs.lemmas.Option.{none-some, same_Some}
use Rattle.std.specs.Prelude.{slice_set, replicate, find, is_some, if◌then◌else◌, not, ◌&&◌}
use Rattle.mps_base.specs.Address.{Id}
use Rattle.mps_model.specs.declared.call.Call.{Call}
use Rattle.mps_model.specs.declared.call.Call.TheVariants as call
use Rattle.mps_model.specs.Answer.{Answer, is_block}
use Rattle.mps_model.specs.Graph.{Cell, AreaWord, PlainWord, contains, entry_at, with_last, held_by_word, targets_of_cells, without_name}
use Rattle.mps_model.specs.World.{World, lies_in, live_ids, is_running}
use Rattle.mps_model.specs.WellFormed.{IsWellFormed}
use Rattle.mps_model.specs.Checked.{Act, Checked, Found, Numbered, slot_in, with_graph}
use Rattle.mps_model.specs.Allocating.{with_slot}
use Rattle.mps_model.specs.Caches.{graph_cleared}
use Rattle.mps_model.specs.Making.{graph_with_table, graph_with_area, graph_with_blocks}
use Rattle.mps_model.specs.Reply.{act, world_from}
use Rattle.mps_changes.specs.Change.{ForAct, accepted, refused, IsFoundBy, Now, Before, makes_pool, IsGot, GotNull, FromSlot, FromCell, FromWord, FromMessage, IsShown, ShownPlain, ShownPinned, ShownPoked, IsWritten, Change, Unchanged, Aside, SlotIs, WordIs, MessageTaken, TableMade, AreaMade, BlocksMade, TableDropped, AreaDropped, CellsAre, BlockWordIs, PlaceEmptied, Allocated, PoolMade, PointMade, PointDropped, Opened, Written, Closed, Committed, Substituted, Registered, Unregistered, allocates, CacheMade, BlockUncached, BlockCached, CacheFlushed, FramePushed, FramesPopped}
use Rattle.mps_changes.proofs.ActChanges.{act_changes_so, but}
use Rattle.mps_abstract.specs.Colours.{AreDifferent}
use Rattle.mps_abstract.specs.Collecting.{Collecting, Running}
use Rattle.mps_abstract.specs.ClientLaws.{IsMarkedKept, IsReadKept}
use Rattle.mps_abstract.proofs.Lists.{contains_here, contains_later}
use Rattle.mps_abstract.proofs.Addresses.{listed_is_live}
use Rattle.mps_changes.proofs.Written.{written_length, written_targets}
use Rattle.mps_abstract.proofs.Calls.ClientBeside.{IsRightlyHeld, IsFound, roots_keep, slot_found, word_found, slot_held, point_found, same_Ok}
use Rattle.mps_abstract.proofs.Calls.ClientRoots.{object_found, held_word, still_slots, still_holds, still_messages, held_by_parts, slots_written, slot_keeps, slot_right, hold_right, word_keeps, as_block_black, new_table, new_area, dropped_table, dropped_area}
use Rattle.mps_abstract.proofs.Calls.ClientPoints.{with_point_keeps, without_point_keeps, with_reserved_keeps, written_keeps}
use Rattle.mps_abstract.proofs.Calls.ClientObjects.{with_cells_keeps, with_word_keeps, cleared_keeps}
use Rattle.mps_abstract.proofs.Calls.ClientThings.{aside_keeps, with_pool_keeps}
use Rattle.mps_abstract.proofs.Calls.ClientRegistrations.{finalized_keeps}
use Rattle.mps_abstract.proofs.Calls.ClientBlocks.{flipped_keeps, committed_keeps, allocated_keeps}
use Rattle.mps_abstract.proofs.Calls.ClientReserves.{is_checked, point_in}
use Rattle.mps_abstract.proofs.Calls.ClientReads.{HasTables, read_right, slot_same}

-- a call that takes a registration away
abbrev pub unregisters : Call → Bool
unregisters (call.Definalize slot) = true
unregisters _ = false

-- calls whose own moves come before their act
abbrev pub moves_itself : Call → Bool
moves_itself (call.Reserve point head) = true
moves_itself (call.Alloc pool words place) = true
moves_itself (call.Free place) = true
moves_itself (call.CacheAlloc cache words place) = true
moves_itself (call.CacheFree cache place) = true
moves_itself (call.CacheFlush cache) = true
moves_itself (call.Pop pool frame) = true
moves_itself _ = false

-- calls that need facts of their own
abbrev pub reserves : Call → Bool
reserves (call.Reserve point head) = true
reserves _ = false

pool_moves_nothing : (c : Call) → makes_pool c ≡ true → moves_itself c ≡ false
pool_moves_nothing (call.Pool pool kind format) h = refl
pool_moves_nothing (call.PoolOnChain pool kind format chain) h = refl
pool_moves_nothing (call.PoolMfs pool words) h = refl
pool_moves_nothing (call.PoolMvff pool) h = refl
pool_moves_nothing (call.PoolFrames pool) h = refl
pool_moves_nothing _ h = absurd (false≢true h)

found_listed : (p : ℕ → Bool) (ns : List ℕ) (id : Id) → find p ns ≡ Some id → contains ns id ≡ true
found_listed p [] id h = absurd (none-some id h)
found_listed p (n ∷ ns) id h =
    elim (p n) as (λ t. (if t then Some n else find p ns) ≡ Some id → contains (n ∷ ns) id ≡ true) [
      | true ↦ (λ g. subst (λ m. contains (n ∷ ns) m ≡ true) (same_Some n id g) (contains_here n ns))
      | false ↦ (λ g. contains_later n ns id (found_listed p ns id g))
    ] h

-- what is known of a call that changes the world of a running collection
pub record IsClientCall (x : Collecting) (judged : World) (c : Call) (answer : Answer) : Type 0 where
  pub tables : HasTables judged x.world
  pub marked : IsMarkedKept x c answer
  pub read : IsReadKept x c
  pub as_many : allocates c ≡ true → length x.world.addresses ≡ length x.world.graph.objects
  pub formed : moves_itself c ≡ false → IsWellFormed x.world
  pub same_graph : reserves c ≡ true → judged.graph ≡ x.world.graph

module _ (x : Collecting) (run : Running x) (judged : World) (c : Call) (answer : Answer) (known : IsClientCall x judged c answer) where
  abbrev w : World
  w = x.world

  -- ---- what is written is rightly held

  got_right : {target : Option ℕ} → IsGot (is_block answer) c judged w target → (id : Id) → target ≡ Some id → IsRightlyHeld x id
  got_right GotNull id none = absurd (none-some id none)
  got_right (FromSlot slot from e) id is = slot_right x run from (slot_found w slot from e) id is
  got_right (FromCell target source cell from seen read e f g h) id is =
      inr (read_right x run judged known.tables target source cell (subst (IsReadKept x) e known.read) from seen read
      (slot_same judged w source known.tables ∙ f) g h id is)
  got_right (FromWord place at held e f) id is =
      subst (IsRightlyHeld x) (same_Some held id is) (hold_right x run at (word_found w place at e) held (held_word at.value held f))
  got_right (FromMessage first ids e) id is =
      subst (IsRightlyHeld x) (same_Some first id is) (still_messages x run first (ap (λ ns. contains ns first) e
      ∙ contains_here first ids))

  shown_right : {word : AreaWord} → IsShown (is_block answer) c judged w word → (id : Id) → held_by_word word ≡ Some id
      → IsRightlyHeld x id
  shown_right (ShownPlain number) id none = absurd (none-some id none)
  shown_right (ShownPinned object held) id is =
      subst (IsRightlyHeld x) (same_Some object.number id is) (slot_right x run held.from (slot_found w held.slot held.from held.there)
      object.number (object_found w held.from.value object held.is))
  shown_right (ShownPoked place held word e f fate) id is =
      subst (IsRightlyHeld x) (same_Some held id is) (inr (
        listed_is_live w held (found_listed (λ n. lies_in w word n) (live_ids w) held f),
        elim fate [
          | inl settled ↦ as_block_black x run held settled
          | inr marked ↦ subst (λ d. IsMarkedKept x d answer) e known.marked marked held f
        ],
      ))

  written_right : {cells : List Cell} {change : List Cell → List Cell} → IsWritten (is_block answer) c judged w cells change
      → (old : List Cell) (t : Id) → contains (targets_of_cells (change old)) t ≡ true
      → (contains (targets_of_cells old) t ≡ true) ⊎ (contains (Rattle.mps_model.specs.Graph.ids_of_client w.graph) t ≡ true)
  written_right write old t h = elim (written_targets write old t h) [
    | inl was ↦ inl was
    | inr o ↦ inr (slot_held w.graph o.from t (slot_found w o.slot o.from o.there) o.is)
  ]

  slots_there : (into : Found (Option ℕ)) → IsFoundBy slot_in judged w into → IsFound (entry_at w.graph.tables) into
  slots_there into (Now slot e) = slot_found w slot into e
  slots_there into (Before slot e) = slot_found w slot into (slot_same judged w slot known.tables ∙ e)

  -- ---- changes

  abbrev P : World → Type 0
  P v = Running (record x { world = v })

  pub change_runs : {u : World} → unregisters c ≡ false → AreDifferent u.addresses → Change (is_block answer) c judged w u → P u
  change_runs h different Unchanged = run
  change_runs h different (Aside u what) =
      aside_keeps x run u w.graph.blocks w.graph.caches w.graph.frames
  change_runs h different (SlotIs into target found got) = slot_keeps x run into target (slots_there into found) (got_right got)
  change_runs h different (WordIs place at word e shown) = word_keeps x run at word (word_found w place at e) (shown_right shown)
  change_runs h different (MessageTaken slot into id ids e are) =
      roots_keep x run (with_slot (record w.graph { messages = ids }) into (Some id))
      (held_by_parts x run (slice_set w.graph.tables into.number (Some (slice_set into.list into.index (Some id)))) w.graph.areas ids
      (slots_written x run into (Some id) (slot_found w slot into e) (got_right (FromMessage id ids are))) (still_holds x run)
      (λ n there. still_messages x run n (ap (λ ns. contains ns n) are ∙ contains_later id ids n there)))
  change_runs h different (TableMade name slots) =
      roots_keep x run (graph_with_table w.graph name.name slots)
      (held_by_parts x run (with_last w.graph.tables (Some (replicate slots None))) w.graph.areas w.graph.messages
      (new_table x run slots) (still_holds x run) (still_messages x run))
  change_runs h different (AreaMade name words) =
      roots_keep x run (graph_with_area w.graph name.name words)
      (held_by_parts x run w.graph.tables (with_last w.graph.areas (Some (replicate words (PlainWord 0)))) w.graph.messages
      (still_slots x run) (new_area x run words) (still_messages x run))
  change_runs h different (BlocksMade name places e) =
      roots_keep x run (graph_with_blocks w.graph name.name places)
      (held_by_parts x run w.graph.tables w.graph.areas w.graph.messages (still_slots x run) (still_holds x run) (still_messages x run))
  change_runs h different (TableDropped name n named) =
      roots_keep x run (record w.graph { tables = slice_set w.graph.tables n None; names = without_name w.graph.names name })
      (held_by_parts x run (slice_set w.graph.tables n None) w.graph.areas w.graph.messages (dropped_table x run n)
      (still_holds x run) (still_messages x run))
  change_runs h different (AreaDropped name n named) =
      roots_keep x run (record w.graph { areas = slice_set w.graph.areas n None; names = without_name w.graph.names name })
      (held_by_parts x run w.graph.tables (slice_set w.graph.areas n None) w.graph.messages (still_slots x run)
      (dropped_area x run n) (still_messages x run))
  change_runs h different (CellsAre object change held write) =
      with_cells_keeps x run object.number change (record { as_many = written_length write; referred = written_right write })
  change_runs h different (BlockWordIs id k value) = with_word_keeps x run id k value
  change_runs h different (PlaceEmptied from place id e found has freed) =
      aside_keeps x run w (slice_set w.graph.blocks place.number (slice_set place.list place.index None)) w.graph.caches w.graph.frames
  change_runs h different (Allocated p words place at e of kind size found empty) =
      allocated_keeps x run (known.as_many e) p.number words at place different
  change_runs {u = u} h different (CacheMade name pool of classes e may none) =
      aside_keeps x run u w.graph.blocks u.graph.caches w.graph.frames
  change_runs {u = u} h different (BlockUncached name cache words into place id classes e is taken found empty) =
      aside_keeps (record x { world = with_graph w (graph_cleared w.graph id) }) (cleared_keeps x run id) u u.graph.blocks u.graph.caches
      w.graph.frames
  change_runs {u = u} h different (BlockCached name cache from place id classes e is found has own kept) =
      aside_keeps x run w u.graph.blocks u.graph.caches w.graph.frames
  change_runs {u = u} h different (CacheFlushed name cache e is) = aside_keeps x run w u.graph.blocks u.graph.caches w.graph.frames
  change_runs {u = u} h different (FramePushed name f e found) = aside_keeps x run w w.graph.blocks w.graph.caches u.graph.frames
  change_runs {u = u} h different (FramesPopped name f frame before e found opened) =
      aside_keeps x run w u.graph.blocks w.graph.caches u.graph.frames
  change_runs h different (PoolMade name p e made) = with_pool_keeps x run (known.formed (pool_moves_nothing c e)) name.name p
  change_runs h different (PointMade name pool of at_rank e is may) = with_point_keeps x run name.name of.number at_rank
  change_runs h different (PointDropped name p e is none) =
      without_point_keeps x run name p (point_found w name p is) (ap is_some none)
  change_runs h different (Opened name head r p at e is there) =
      let checked = is_checked judged name head r is in
      let same = known.same_graph (ap reserves e) in
      with_reserved_keeps x run p (point_found w name p there)
      (subst (λ (q : Numbered _). is_some q.value.reservation ≡ false)
      (same_Ok r.point p (sym checked.point ∙ (ap (λ g. point_in g name) same ∙ there))) checked.closed)
      (record { head = head; cells = r.cells; is_doomed = false }) at checked.nothing
  change_runs h different (Written name p r change e there has lives write) =
      written_keeps x run p (point_found w name p there) r has (change r.cells) (written_length write r.cells)
      (λ id new. elim (written_right write r.cells id new) [ inl was ↦ inl was | inr held ↦ inr (inl held) ]) lives
  change_runs h different (Closed name target p r e there has ended) =
      flipped_keeps x run (known.formed (ap moves_itself e)) p (point_found w name p there) r has ended
  change_runs h different (Committed name target p r slot e there found has lives) =
      committed_keeps x run (known.formed (ap moves_itself e)) p (point_found w name p there) r has lives slot
      (slot_found w target slot found) different
  change_runs h different (Substituted name transform e is parked) =
      absurd (false≢true (sym (ap (λ b. not (b && is_running w)) parked ∙ ap (λ o. not (is_some o)) run.runs)
      ∙ (known.formed (ap moves_itself e)).parked))
  change_runs h different (Registered object held e) =
      finalized_keeps x run object.number (slot_held w.graph held.from object.number (slot_found w held.slot held.from held.there)
      (object_found w held.from.value object held.is))
  change_runs h different (Unregistered slot from object position e there is at) = but unregisters e refl h

  pub act_runs : unregisters c ≡ false → AreDifferent (world_from w (act (is_block answer) judged w c)).addresses
      → P (world_from w (act (is_block answer) judged w c))
  act_runs h different = by_case (act (is_block answer) judged w c) (act_changes_so (is_block answer) judged w c) different
    where
      by_case : (a : Checked Act) → ForAct (Change (is_block answer) c judged w) a → AreDifferent (world_from w a).addresses
          → P (world_from w a)
      by_case _ (accepted change) apart = change_runs h apart change
      by_case _ refused apart = run
