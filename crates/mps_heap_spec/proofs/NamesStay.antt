-- The calls that neither make nor drop things leave the names as they were, and with them the keys.
use Rattle.std.proofs.Common.{◌≡◌, ◌∙◌, ℕ, Bool, true, false, Option, Some, None, List, [], ◌∷◌, Ok, Err, refl, ap, subst}
use Rattle.std.specs.Prelude.{if◌then◌else◌}
use Rattle.mps_base.specs.Address.{Address}
use Rattle.mps_base.specs.Trail.{Moves}
use Rattle.mps_base.specs.declared.names.Name.{Name}
use Rattle.mps_base.specs.declared.names.Slot.{Slot}
use Rattle.mps_format.specs.Layout.{Layout}
use Rattle.mps_heap_spec.specs.Allocating.{after_commit, after_reserve, block_held, number_initialised, reference_initialised}
use Rattle.mps_heap_spec.specs.Areas.{after_pin, after_poke, after_take, held_by}
use Rattle.mps_heap_spec.specs.Arena.{limit_set}
use Rattle.mps_heap_spec.specs.Caching.{block_from_cache, block_kept, block_taken, block_to_cache, cache_flushed}
use Rattle.mps_heap_spec.specs.Checked.{Checked, ◌>>=◌, ◌>>◌}
use Rattle.mps_heap_spec.specs.Coming.{Comes, ComesMoving, Moved, Outcome, state_from, state_moved}
use Rattle.mps_heap_spec.specs.Depending.{dependency_added, dependency_merged, dependency_reset}
use Rattle.mps_heap_spec.specs.Finalizing.{after_definalize, after_finalize, message_into, message_taken}
use Rattle.mps_heap_spec.specs.Finding.{block_place_in, dependency_named, number_cell_at, object_at, object_in, point_named, reference_cell_at, slot_in, word_in}
use Rattle.mps_heap_spec.specs.Framing.{frame_pushed}
use Rattle.mps_heap_spec.specs.Manual.{block_allocated, block_freed, block_in, word_in_block, word_stored}
use Rattle.mps_heap_spec.specs.Objects.{after_clear, after_copy, number_set, reference_got, reference_put, tag_set}
use Rattle.mps_heap_spec.specs.Pairing.{dependent_linked, dependent_unlinked}
use Rattle.mps_heap_spec.specs.Popping.{frame_popped}
use Rattle.mps_heap_spec.specs.State.{HeapState}
use Rattle.mps_heap_spec.specs.Transforming.{pair_added}
use Rattle.mps_heap_spec.specs.declared.found.Entry.{Entry}
use Rattle.mps_heap_spec.specs.declared.found.Kept.{Kept}

-- each accepted outcome has this
pub record Keeps {X : Type 0} (P : X → Type 0) (outcome : Checked X) : Type 0 where
  pub kept : (x : X) → outcome ≡ Ok x → P x

module _ {X : Type 0} {P : X → Type 0} where
  pub says : (x : X) → P x → Keeps P (Ok x)
  says x has = record { kept = λ y is. let same : x ≡ y = cc in subst P same has }

  pub refuses : (why : _) → Keeps P (Err why)
  refuses why = record { kept = λ y is. absurd cc }

  pub each : {A : Type 0} (check : Checked A) {rest : A → Checked X} → ((a : A) → Keeps P (rest a)) → Keeps P (check >>= rest)
  each (Ok a) keeps = keeps a
  each (Err why) keeps = refuses why

  pub after : {A : Type 0} (check : Checked A) {rest : Checked X} → Keeps P rest → Keeps P (check >> rest)
  after (Ok a) keeps = keeps
  after (Err why) keeps = refuses why

module _ {F : Type 0} (h : HeapState F) where
  -- an accepted outcome has the names that there were
  abbrev pub NamesStay : {A : Type 0} → Checked (Outcome F A) → Type 0
  NamesStay o = Keeps (λ x. x.state.names ≡ h.names) o

  abbrev pub NamesStayMoving : {A : Type 0} → Checked (Moved F A) → Type 0
  NamesStayMoving o = Keeps (λ x. x.state.names ≡ h.names) o

  pub keys_stay : {A : Type 0} (o : Checked (Outcome F A)) {result : Checked A} {h' : HeapState F} → Comes h o result h' → NamesStay o
      → h'.names.keys ≡ h.names.keys
  keys_stay {A} o comes keeps = ap (λ (x : HeapState F). x.names.keys) comes.state ∙ of_outcome o keeps
    where
      of_outcome : (o : Checked (Outcome F A)) → NamesStay o → (state_from h o).names.keys ≡ h.names.keys
      of_outcome (Ok x) keeps = ap (λ n. n.keys) (keeps.kept x refl)
      of_outcome (Err why) keeps = refl

  pub keys_stay_moving : {A : Type 0} (m : Moves) (o : Checked (Moved F A)) {result : Checked A} {h' : HeapState F} {m' : Moves}
      → ComesMoving h m o result h' m' → NamesStayMoving o → h'.names.keys ≡ h.names.keys
  keys_stay_moving {A} m o comes keeps = ap (λ (x : HeapState F). x.names.keys) comes.state ∙ of_outcome o keeps
    where
      of_outcome : (o : Checked (Moved F A)) → NamesStayMoving o → (state_moved h o).names.keys ≡ h.names.keys
      of_outcome (Ok x) keeps = ap (λ n. n.keys) (keeps.kept x refl)
      of_outcome (Err why) keeps = refl

  -- ---- slots and words

  pub copies : (target source : Slot) → NamesStay (after_copy h target source)
  copies target source = each (slot_in h target) (λ into. each (slot_in h source) (λ from. says _ refl))

  pub clears : (slot : Slot) → NamesStay (after_clear h slot)
  clears slot = each (slot_in h slot) (λ into. says _ refl)

  pub pokes : (place : Slot) (word : ℕ) → NamesStay (after_poke h place word)
  pokes place word = each (word_in h place) (λ at. says _ refl)

  pub takes : (slot place : Slot) → NamesStay (after_take h slot place)
  takes slot place =
      each (slot_in h slot) (λ into. each (word_in h place) (λ at. each (held_by h at.value) (λ object. says _ refl)))

  pub takes_message : (slot : Slot) → NamesStay (message_taken h slot)
  takes_message slot = each (slot_in h slot) (λ into. by into h.finals.messages)
    where
      by : (into : Entry Address) (messages : List Address) → NamesStay (Ok (message_into h into messages))
      by into [] = says _ refl
      by into (at ∷ rest) = says _ refl

  -- ---- the arena, dependencies and frames

  pub limits : (limit : ℕ) → NamesStay (limit_set h limit)
  limits limit = search (after, says)

  pub resets : (name : Name) → NamesStay (dependency_reset h name)
  resets name = each (dependency_named h name) (λ d. says _ refl)

  pub merges : (name source : Name) → NamesStay (dependency_merged h name source)
  merges name source = each (dependency_named h name) (λ d. each (dependency_named h source) (λ e. says _ refl))

  pub pushes : (name : Name) → NamesStay (frame_pushed h name)
  pushes name = search (each, after, says)

  -- ---- blocks

  pub stores : (place : Slot) (k value : ℕ) → NamesStay (word_stored h place k value)
  stores place k value =
      each (block_place_in h place) (λ into. each (block_in h into) (λ at. each (word_in_block h at k) (λ word. says _ refl)))

  module _ (m : Moves) where
    pub allocates : (pool : Name) (words : ℕ) (place : Slot) → NamesStayMoving (block_allocated h m pool words place)
    allocates pool words place = search (each, after, says) depth 12

    pub frees : (place : Slot) → NamesStayMoving (block_freed h m place)
    frees place = search (each, after, says) depth 12

    taken : (from : Kept ℕ) (size words : ℕ) (into : Entry Address) (found : Option Address)
        → NamesStayMoving (block_taken h m from size words into found)
    taken from size words into (Some at) = says _ refl
    taken from size words into None = search (each, says)

    pub comes_from_cache : (cache : Name) (words : ℕ) (place : Slot) → NamesStayMoving (block_from_cache h m cache words place)
    comes_from_cache cache words place = search (each, after, taken) depth 12

    kept : (into : Kept ℕ) (size words : ℕ) (from : Entry Address) (at : Address) (keeps : Bool)
        → NamesStayMoving (block_kept h m into size words from at keeps)
    kept into size words from at true = says _ refl
    kept into size words from at false = says _ refl

    pub goes_to_cache : (cache : Name) (place : Slot) (words : ℕ) → NamesStayMoving (block_to_cache h m cache place words)
    goes_to_cache cache place words = search (each, after, kept) depth 12

    pub flushes : (cache : Name) → NamesStayMoving (cache_flushed h m cache)
    flushes cache = search (each, says)

    pub pops : (name : Name) (frame : ℕ) → NamesStayMoving (frame_popped h m name frame)
    pops name frame = search (each, says)

    pub commits : (name : Name) (target : Slot) → NamesStayMoving (after_commit h m name target)
    commits name target =
        each (point_named h name) (λ point. each (slot_in h target) (λ slot. each _ (λ held. says _ (by _ _ _ refl refl))))
      where
        by : {A : Type 0} (b : Bool) (x y : Moved F A) → x.state.names ≡ h.names → y.state.names ≡ h.names
            → (if b then x else y).state.names ≡ h.names
        by true x y stay also = stay
        by false x y stay also = also

  -- ---- with the formats of pools

  module _ (layout : F → Layout) where
    pub sets_number : (slot : Slot) (k value : ℕ) → NamesStay (number_set layout h slot k value)
    sets_number slot k value =
        each (object_in layout h slot) (λ object. each (number_cell_at layout h.segs.words object k) (λ cell. says _ refl))

    pub gets : (target source : Slot) (k : ℕ) → NamesStay (reference_got layout h target source k)
    gets target source k =
        each (slot_in h target) (λ into. each (object_in layout h source) (λ object.
        each (reference_cell_at layout h.segs.words object k) (λ cell. says _ refl)))

    pub puts : (target : Slot) (k : ℕ) (source : Slot) → NamesStay (reference_put layout h target k source)
    puts target k source =
        each (slot_in h target) (λ into. each (slot_in h source) (λ from. each (object_at layout h into.value) (λ object.
        each (reference_cell_at layout h.segs.words object k) (λ cell. says _ refl))))

    pub tags : (slot : Slot) (k tag : ℕ) → NamesStay (tag_set layout h slot k tag)
    tags slot k tag =
        each (object_in layout h slot) (λ object. each (reference_cell_at layout h.segs.words object k) (λ cell. says _ refl))

    pub pins : (place slot : Slot) → NamesStay (after_pin layout h place slot)
    pins place slot = each (word_in h place) (λ at. each (object_in layout h slot) (λ object. says _ refl))

    pub registers : (slot : Slot) → NamesStay (after_finalize layout h slot)
    registers slot = search (each, after, says)

    pub unregisters : (position : Option ℕ) (slot : Slot) → NamesStay (after_definalize layout position h slot)
    unregisters position slot = search (each, after, says)

    pub adds : (name : Name) (slot : Slot) → NamesStay (dependency_added layout h name slot)
    adds name slot = each (dependency_named h name) (λ d. each (object_in layout h slot) (λ object. says _ refl))

    pub links : (holder dependent : Slot) → NamesStay (dependent_linked layout h holder dependent)
    links holder dependent = search (each, after, says) depth 12

    pub unlinks : (holder : Slot) → NamesStay (dependent_unlinked layout h holder)
    unlinks holder = search (each, after, says)

    pub pairs : (name : Name) (old new : Slot) → NamesStay (pair_added layout h name old new)
    pairs name old new = search (each, after, says) depth 12

    -- ---- reservations

    either : (b : Bool) (x y : HeapState F) → x.names ≡ h.names → y.names ≡ h.names → (if b then x else y).names ≡ h.names
    either true x y stay also = stay
    either false x y stay also = also

    pub initialises_number : (name : Name) (k value : ℕ) → NamesStay (number_initialised layout h name k value)
    initialises_number name k value =
        each (point_named h name) (λ point. each _ (λ held. each (block_held layout h point.value held) (λ block.
        each (number_cell_at layout h.segs.words block k) (λ cell. says _ (either _ _ _ refl refl)))))

    pub initialises_reference : (name : Name) (k : ℕ) (source : Slot) → NamesStay (reference_initialised layout h name k source)
    initialises_reference name k source =
        each (point_named h name) (λ point. each (slot_in h source) (λ from. each _ (λ held.
        each (block_held layout h point.value held) (λ block. each (reference_cell_at layout h.segs.words block k) (λ cell.
        says _ (either _ _ _ refl refl))))))

    pub reserves : (m : Moves) (name : Name) (head : ℕ) → NamesStayMoving (after_reserve layout h m name head)
    reserves m name head = search (each, says)
