-- What lies in a cache is a block of its pool, and of the size of its class, and stays one.
use Rattle.std.proofs.Common.{◌≡◌, ◌∙◌, ℕ, Bool, true, false, refl, sym, ap, subst, List, [], ◌∷◌, length, Option, Some, None}
use Rattle.std.proofs.lemmas.Bool.{false≢true, and_parts, and_from, eq-eqb, eqb-true}
use Rattle.std.proofs.lemmas.Option.{none-some, same_Some, slice_get-map}
use Rattle.std.specs.Prelude.{◌==◌, ◌&&◌, is_some, if◌then◌else◌, map, nat_lt, option_map, replicate, slice_get}
use Rattle.std.specs.Option.{option_map_or}
use Rattle.std.specs.List.{list_all}
use Rattle.mps_model.specs.declared.call.Call.{Call}
use Rattle.mps_model.specs.Answer.{is_block}
use Rattle.mps_model.specs.Step.{Step}
use Rattle.mps_model.specs.Graph.{Manual, Object, Cache, CacheClass, entries, ids_in_places, object_at, size_of, with_last}
use Rattle.mps_model.specs.World.{World, Pool, pool_is, pool_of, words_of}
use Rattle.mps_model.specs.Checked.{Act, Checked, as_blocks, number_named, with_graph}
use Rattle.mps_model.specs.Allocating.{committed_object, graph_with_word}
use Rattle.mps_model.specs.Caches.{emptied, kept_in, last_of, may_have_cache, taken_from, without_last}
use Rattle.mps_model.specs.Transforms.{pairs_of}
use Rattle.mps_model.specs.WellFormed.{is_right_block, is_right_cache, is_right_class}
use Rattle.mps_model.specs.Reply.{act, world_from}
use Rattle.mps_model.specs.History.{judged_world, moved_world, world_after}
use Rattle.mps_changes.specs.Change.{Change, CellsAre, BlockWordIs, Allocated, CacheMade, BlockUncached, BlockCached, CacheFlushed, PoolMade, Committed, Substituted, ForAct, accepted, refused, are_empty_classes, is_empty_list}
use Rattle.mps_changes.proofs.ActChanges.{act_changes_so}
use Rattle.mps_changes.proofs.Checks.{cache_named-is}
use Rattle.mps_changes.proofs.Written.{written_length}
use Rattle.mps_laws.proofs.Acts.{cleared_kept, pool_named-is, word_kept}
use Rattle.mps_laws.proofs.FoundBy.{found_by}
use Rattle.mps_laws.proofs.Lookups.{map-with_last, slice_get-kept}
use Rattle.mps_laws.proofs.Positions.LegalMoves.{cells_kept}
use Rattle.mps_laws.proofs.Positions.Occupancy.{Shape, shape_of}
use Rattle.mps_laws.proofs.SameArena.{moved_alone}
use Rattle.mps_laws.proofs.Sound.Substituting.{shapes_substituted}
use Rattle.mps_laws.proofs.Sound.SoundGraph.{All, PassesOrNull, all-at, all-weaker, each-at, each-weaker, each-written, entry-passes}

abbrev pub AreRightCaches : World → Type 0
AreRightCaches w = list_all (is_right_cache w) w.graph.caches ≡ true

abbrev pub shapes_of : World → List Shape
shapes_of w = map shape_of w.graph.objects

-- whether there is an object, as its shape says
abbrev pub is_made : World → ℕ → Bool
is_made w id = is_some (slice_get (shapes_of w) id)

abbrev is_block_shape : (pool words : ℕ) → Option Shape → Bool
is_block_shape pool words o = option_map_or (λ (s : Shape). s.pool == pool && s.words == words) o false

block_by_shape : (w : World) (pool words id : ℕ) → is_right_block w pool words id ≡ is_block_shape pool words (slice_get (shapes_of w) id)
block_by_shape w pool words id =
    of_one (object_at w.graph id) ∙ ap (is_block_shape pool words) (sym (slice_get-map shape_of w.graph.objects id))
  where
    of_one : (o : Option Object) → option_map_or (λ x. x.pool == pool && size_of x == words) o false
        ≡ is_block_shape pool words (option_map shape_of o)
    of_one None = refl
    of_one (Some x) = refl

-- ---- where objects keep their shapes, and pools their kinds

module _ (w w' : World) (shapes : (i : ℕ) (s : Shape) → slice_get (shapes_of w) i ≡ Some s → slice_get (shapes_of w') i ≡ Some s)
    (pools : (n : ℕ) (p : Pool) → slice_get w.pools n ≡ Some p → slice_get w'.pools n ≡ Some p) where
  block_still : (pool words id : ℕ) → is_right_block w pool words id ≡ true → is_right_block w' pool words id ≡ true
  block_still pool words id h =
      block_by_shape w' pool words id ∙ of_shape (slice_get (shapes_of w) id) refl (sym (block_by_shape w pool words id) ∙ h)
    where
      of_shape : (o : Option Shape) → slice_get (shapes_of w) id ≡ o → is_block_shape pool words o ≡ true
          → is_block_shape pool words (slice_get (shapes_of w') id) ≡ true
      of_shape None e g = absurd (false≢true g)
      of_shape (Some s) e g = ap (is_block_shape pool words) (shapes id s e) ∙ g

  pool_still : (n : ℕ) → pool_is may_have_cache w n ≡ true → pool_is may_have_cache w' n ≡ true
  pool_still n h = of_pool (slice_get w.pools n) refl h
    where
      of_pool : (o : Option Pool) → slice_get w.pools n ≡ o → option_map_or (λ (p : Pool). may_have_cache p.kind) o false ≡ true
          → pool_is may_have_cache w' n ≡ true
      of_pool None e g = absurd (false≢true g)
      of_pool (Some p) e g = ap (λ o. option_map_or (λ (q : Pool). may_have_cache q.kind) o false) (pools n p e) ∙ g

  class_still : (pool : ℕ) (k : CacheClass) → is_right_class w pool k ≡ true → is_right_class w' pool k ≡ true
  class_still pool k h =
      all-weaker (is_right_block w pool k.words) (is_right_block w' pool k.words) (block_still pool k.words) k.cached h

  pub cache_still : (q : Cache) → is_right_cache w q ≡ true → is_right_cache w' q ≡ true
  cache_still q h =
      let parts = and_parts (pool_is may_have_cache w q.pool) (list_all (is_right_class w q.pool) q.classes) h in
      and_from (pool_is may_have_cache w' q.pool) (list_all (is_right_class w' q.pool) q.classes) (pool_still q.pool parts.0)
      (each-weaker (is_right_class w q.pool) (is_right_class w' q.pool) (class_still q.pool) q.classes parts.1)

  caches_still : (qs : List Cache) → list_all (is_right_cache w) qs ≡ true → list_all (is_right_cache w') qs ≡ true
  caches_still qs h = each-weaker (is_right_cache w) (is_right_cache w') cache_still qs h

-- ---- classes

all_but_last : (test : ℕ → Bool) (ids : List ℕ) → All test ids → All test (without_last ids)
all_but_last test [] h = refl
all_but_last test (n ∷ []) h = refl
all_but_last test (n ∷ m ∷ ids) h =
    let parts = and_parts (test n) (list_all test (m ∷ ids)) h in
    and_from (test n) (list_all test (without_last (m ∷ ids))) parts.0 (all_but_last test (m ∷ ids) parts.1)

all_and_last : (test : ℕ → Bool) (ids : List ℕ) (id : ℕ) → All test ids → test id ≡ true → All test (with_last ids id)
all_and_last test [] id h one = and_from (test id) true one refl
all_and_last test (n ∷ ns) id h one =
    let parts = and_parts (test n) (list_all test ns) h in
    and_from (test n) (list_all test (with_last ns id)) parts.0 (all_and_last test ns id parts.1 one)

module _ (w : World) (pool : ℕ) where
  abbrev AreRight : List CacheClass → Type 0
  AreRight classes = list_all (is_right_class w pool) classes ≡ true

  right_taken : (classes : List CacheClass) (words id : ℕ) (left : List CacheClass) → taken_from classes words ≡ Some (id, left)
      → AreRight classes → AreRight left
  right_taken [] words id left e h = absurd (none-some (id, left) e)
  right_taken (k ∷ ks) words id left e h =
      let parts = and_parts (is_right_class w pool k) (list_all (is_right_class w pool) ks) h in
      of_size (k.words == words) (λ i rest is. right_taken ks words i rest is parts.1) parts.0 parts.1 e
    where
      of_last : (o : Option ℕ) → is_right_class w pool k ≡ true → AreRight ks
          → option_map {U = ℕ × List CacheClass} (λ i. (i, record k { cached = without_last k.cached } ∷ ks)) o ≡ Some (id, left)
          → AreRight left
      of_last None one rest g = absurd (none-some (id, left) g)
      of_last (Some last) one rest g =
          let same = same_Some (last, record k { cached = without_last k.cached } ∷ ks) (id, left) g in
          subst (λ (t : ℕ × List CacheClass). AreRight t.1) same
          (and_from (is_right_class w pool (record k { cached = without_last k.cached })) (list_all (is_right_class w pool) ks)
          (all_but_last (is_right_block w pool k.words) k.cached one) rest)

      of_rest : ((i : ℕ) (rest : List CacheClass) → taken_from ks words ≡ Some (i, rest) → AreRight rest)
          → (o : Option (ℕ × List CacheClass)) → taken_from ks words ≡ o → is_right_class w pool k ≡ true
          → option_map {U = ℕ × List CacheClass} (λ t. (t.0, k ∷ t.1)) o ≡ Some (id, left) → AreRight left
      of_rest later None is one g = absurd (none-some (id, left) g)
      of_rest later (Some taken) is one g =
          let same = same_Some (taken.0, k ∷ taken.1) (id, left) g in
          subst (λ (t : ℕ × List CacheClass). AreRight t.1) same
          (and_from (is_right_class w pool k) (list_all (is_right_class w pool) taken.1) one (later taken.0 taken.1 is))

      of_size : (b : Bool) → ((i : ℕ) (rest : List CacheClass) → taken_from ks words ≡ Some (i, rest) → AreRight rest)
          → is_right_class w pool k ≡ true → AreRight ks
          → (if b then option_map {U = ℕ × List CacheClass} (λ i. (i, record k { cached = without_last k.cached } ∷ ks)) (last_of k.cached)
          else option_map {U = ℕ × List CacheClass} (λ t. (t.0, k ∷ t.1)) (taken_from ks words)) ≡ Some (id, left) → AreRight left
      of_size true later one rest g = of_last (last_of k.cached) one rest g
      of_size false later one rest g = of_rest later (taken_from ks words) refl one g

  right_kept : (classes : List CacheClass) (words id : ℕ) (now : List CacheClass) → kept_in classes words id ≡ Some now
      → is_right_block w pool words id ≡ true → AreRight classes → AreRight now
  right_kept [] words id now e block h = absurd (none-some now e)
  right_kept (k ∷ ks) words id now e block h =
      let parts = and_parts (is_right_class w pool k) (list_all (is_right_class w pool) ks) h in
      of_size (k.words == words) refl (λ rest is. right_kept ks words id rest is block parts.1) parts.0 parts.1 e
    where
      of_room : (b : Bool) → k.words ≡ words → is_right_class w pool k ≡ true → AreRight ks
          → (if b then Some (record k { cached = with_last k.cached id } ∷ ks) else None) ≡ Some now → AreRight now
      of_room false same one rest g = absurd (none-some now g)
      of_room true same one rest g =
          subst AreRight (same_Some (record k { cached = with_last k.cached id } ∷ ks) now g)
          (and_from (is_right_class w pool (record k { cached = with_last k.cached id })) (list_all (is_right_class w pool) ks)
          (all_and_last (is_right_block w pool k.words) k.cached id one
          (subst (λ (n : ℕ). is_right_block w pool n id ≡ true) (sym same) block)) rest)

      of_rest : ((rest : List CacheClass) → kept_in ks words id ≡ Some rest → AreRight rest) → (o : Option (List CacheClass))
          → kept_in ks words id ≡ o → is_right_class w pool k ≡ true → option_map (λ rest. k ∷ rest) o ≡ Some now → AreRight now
      of_rest later None is one g = absurd (none-some now g)
      of_rest later (Some rest) is one g =
          subst AreRight (same_Some (k ∷ rest) now g)
          (and_from (is_right_class w pool k) (list_all (is_right_class w pool) rest) one (later rest is))

      of_size : (b : Bool) → (k.words == words) ≡ b → ((rest : List CacheClass) → kept_in ks words id ≡ Some rest → AreRight rest)
          → is_right_class w pool k ≡ true → AreRight ks
          → (if b then (if nat_lt (length k.cached) k.limit then Some (record k { cached = with_last k.cached id } ∷ ks) else None)
          else option_map (λ rest. k ∷ rest) (kept_in ks words id)) ≡ Some now → AreRight now
      of_size true same later one rest g = of_room (nat_lt (length k.cached) k.limit) (eqb-true k.words words same) one rest g
      of_size false same later one rest g = of_rest later (kept_in ks words id) refl one g

  right_emptied : (classes : List CacheClass) → AreRight (map emptied classes)
  right_emptied [] = refl
  right_emptied (k ∷ ks) = right_emptied ks

  right_new : (classes : List CacheClass) → are_empty_classes classes ≡ true → AreRight classes
  right_new [] h = refl
  right_new (k ∷ ks) h =
      let parts = and_parts (is_empty_list k.cached) (are_empty_classes ks) h in
      and_from (is_right_class w pool k) (list_all (is_right_class w pool) ks) (none_in k.cached parts.0) (right_new ks parts.1)
    where
      none_in : (ids : List ℕ) → is_empty_list ids ≡ true → list_all (is_right_block w pool k.words) ids ≡ true
      none_in [] e = refl
      none_in (id ∷ ids) e = absurd (false≢true e)

-- ---- acts

right_last : (w : World) (qs : List Cache) (q : Cache) → list_all (is_right_cache w) qs ≡ true → is_right_cache w q ≡ true
    → list_all (is_right_cache w) (with_last qs q) ≡ true
right_last w [] q h one = and_from (is_right_cache w q) true one refl
right_last w (p ∷ ps) q h one =
    let parts = and_parts (is_right_cache w p) (list_all (is_right_cache w) ps) h in
    and_from (is_right_cache w p) (list_all (is_right_cache w) (with_last ps q)) parts.0 (right_last w ps q parts.1 one)

module _ (v : World) (h : AreRightCaches v) (made : All (is_made v) (ids_in_places v.graph)) where
  -- a cache gets other classes
  with_right : (number : ℕ) (q : Cache) (classes : List CacheClass) → slice_get v.graph.caches number ≡ Some q
      → (list_all (is_right_class v q.pool) q.classes ≡ true → list_all (is_right_class v q.pool) classes ≡ true)
      → list_all (is_right_cache v) (Rattle.std.specs.Prelude.slice_set v.graph.caches number (record q { classes = classes })) ≡ true
  with_right number q classes there each =
      let parts = and_parts (pool_is may_have_cache v q.pool) (list_all (is_right_class v q.pool) q.classes)
      (each-at (is_right_cache v) v.graph.caches number q h there) in
      each-written (is_right_cache v) v.graph.caches number (record q { classes = classes }) h
      (and_from (pool_is may_have_cache v q.pool) (list_all (is_right_class v q.pool) classes) parts.0 (each parts.1))

  -- a block that was made is one of its pool and its size
  own_block : (id : ℕ) → is_made v id ≡ true → is_right_block v (pool_of v id) (words_of v id) id ≡ true
  own_block id is = of_one (object_at v.graph id) (ap is_some (sym (slice_get-map shape_of v.graph.objects id)) ∙ is)
    where
      of_one : (o : Option Object) → is_some (option_map shape_of o) ≡ true
          → option_map_or (λ x. x.pool == option_map_or (λ y. y.pool) o 0 && size_of x == option_map_or size_of o 0) o false ≡ true
      of_one None e = absurd (false≢true e)
      of_one (Some x) e = and_from (x.pool == x.pool) (size_of x == size_of x)
          (eq-eqb x.pool x.pool refl) (eq-eqb (size_of x) (size_of x) refl)

  one_more : (u : World) (o : Object) → shapes_of u ≡ with_last (shapes_of v) (shape_of o) → u.pools ≡ v.pools
      → list_all (is_right_cache u) v.graph.caches ≡ true
  one_more u o shapes pools =
      caches_still v u (λ i s e. ap (λ ss. slice_get ss i) shapes ∙ slice_get-kept (shapes_of v) (shape_of o) s i e)
      (λ n p e. ap (λ ps. slice_get ps n) pools ∙ e) v.graph.caches h

  same_shapes : (u : World) → shapes_of u ≡ shapes_of v → u.pools ≡ v.pools → (qs : List Cache) → list_all (is_right_cache v) qs ≡ true
      → list_all (is_right_cache u) qs ≡ true
  same_shapes u shapes pools qs are =
      caches_still v u (λ i s e. ap (λ ss. slice_get ss i) shapes ∙ e) (λ n p e. ap (λ ps. slice_get ps n) pools ∙ e) qs are

  change_right : {marked : Bool} {c : Call} {judged u : World} → Change marked c judged v u → AreRightCaches u
  change_right (CellsAre object change held write) =
      let u = with_graph v (Rattle.mps_model.specs.Graph.graph_with_cells v.graph object.number change) in
      same_shapes u (cells_kept v.graph object.number change (written_length write)) refl v.graph.caches h
  change_right (BlockWordIs id k value) =
      same_shapes (with_graph v (graph_with_word v.graph id k value)) (word_kept 0 v id k value) refl v.graph.caches h
  change_right {u = u} (Allocated p words place at e of kind size found empty) =
      let o : Object = record { pool = p.number; body = Manual (replicate words 0) } in
      one_more u o (map-with_last shape_of v.graph.objects o) refl
  change_right {u = u} (Committed name target p r slot e there found has lives) =
      one_more u (committed_object p.value r) (map-with_last shape_of v.graph.objects (committed_object p.value r)) refl
  change_right {u = u} (PoolMade name p e kind) =
      caches_still v u (λ i s f. f) (λ n q f. slice_get-kept v.pools p q n f) v.graph.caches h
  change_right (CacheMade name pool of classes e may none) =
      right_last v v.graph.caches (record { pool = of.number; classes = classes }) h
      (and_from (pool_is may_have_cache v of.number) (list_all (is_right_class v of.number) classes)
      (ap (λ o. option_map_or (λ (p : Pool). may_have_cache p.kind) o false) (pool_named-is v pool of e) ∙ may)
      (right_new v of.number classes none))
  change_right {u = u} (BlockUncached name cache words into place id classes e is taken found empty) =
      same_shapes u (cleared_kept v.graph id) refl u.graph.caches
      (with_right cache.number cache.value classes (cache_named-is v name cache is)
      (right_taken v cache.value.pool cache.value.classes words id classes taken))
  change_right (BlockCached name cache from place id classes e is found has own kept) =
      let f = found_by (number_named v from.name as_blocks) (λ n. slice_get v.graph.blocks n) from.index place found in
      let there : is_made v id ≡ true = subst (PassesOrNull (is_made v)) has (entry-passes (is_made v) place.list place.index place.value
      (all-at (is_made v) entries v.graph.blocks place.number place.list made f.0) f.1) in
      with_right cache.number cache.value classes (cache_named-is v name cache is)
      (right_kept v cache.value.pool cache.value.classes (words_of v id) id classes kept
      (subst (λ (n : ℕ). is_right_block v n (words_of v id) id ≡ true) own (own_block id there)))
  change_right (CacheFlushed name cache e is) =
      with_right cache.number cache.value (map emptied cache.value.classes) (cache_named-is v name cache is)
      (λ right. right_emptied v cache.value.pool cache.value.classes)
  change_right {u = u} (Substituted name transform e is parked) =
      same_shapes u (shapes_substituted (pairs_of v.state transform) v.graph.objects) refl v.graph.caches h
  change_right _ = h

  act_right : {marked : Bool} {c : Call} {judged : World} (x : Checked Act) → ForAct (Change marked c judged v) x
      → AreRightCaches (world_from v x)
  act_right _ (accepted change) = change_right change
  act_right _ refused = h

-- ---- steps

pub caches_moved : (w v : World) → shapes_of v ≡ shapes_of w → v.pools ≡ w.pools → v.graph.caches ≡ w.graph.caches → AreRightCaches w
    → AreRightCaches v
caches_moved w v shapes pools caches h =
    ap (list_all (is_right_cache v)) caches
    ∙ caches_still w v (λ i s e. ap (λ ss. slice_get ss i) shapes ∙ e) (λ n p e. ap (λ ps. slice_get ps n) pools ∙ e) w.graph.caches h

pub caches_after : (w : World) (s : Step) → All (is_made w) (ids_in_places w.graph) → AreRightCaches w
    → AreRightCaches (world_after w s)
caches_after w s made h =
    let v = moved_world w s.call s.moves in
    let judged = judged_world w s.call s.moves in
    let alone = moved_alone w s.call s.moves in
    let there : All (is_made v) (ids_in_places v.graph) =
    subst (λ (bs : List Rattle.mps_model.specs.Graph.Slots). All (is_made v) (Rattle.std.specs.List.flat_map entries bs))
    (sym alone.blocks)
    (subst (λ (ss : List Shape). All (λ id. is_some (slice_get ss id)) (ids_in_places w.graph)) (sym alone.shapes) made) in
    act_right v (caches_moved w v alone.shapes alone.pools alone.caches h) there
    (act (is_block s.answer) judged v s.call) (act_changes_so (is_block s.answer) judged v s.call)
