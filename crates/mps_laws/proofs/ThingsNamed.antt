-- Each name stands once and represents a thing that there is, which has no other name: what is made gets a free name, and what is dropped
-- loses its name.
use Rattle.std.proofs.Common.{◌≡◌, ◌∙◌, ℕ, Bool, true, false, refl, ap, List, [], ◌∷◌, length, map, Option, Some, None}
use Rattle.std.proofs.lemmas.Bool.{and_parts, and_from}
use Rattle.std.proofs.lemmas.List.{length-map}
use Rattle.std.proofs.lemmas.Option.{none-some, same_Some}
use Rattle.std.specs.Prelude.{◌&&◌, drop, if◌then◌else◌, is_some, nat_lt, option_and_then, replicate, slice_set}
use Rattle.std.specs.List.{list_all}
use Rattle.std.specs.Option.{option_map_or}
use Rattle.mps_base.specs.Segment.{Segment, words_of_segment}
use Rattle.mps_base.specs.declared.moves.Move.{Move}
use Rattle.mps_base.specs.declared.moves.Move.TheVariants as moves
use Rattle.mps_base.specs.declared.names.Name.{Name}
use Rattle.mps_model.specs.declared.call.Call.{Call}
use Rattle.mps_model.specs.declared.call.Call.TheVariants as call
use Rattle.mps_model.specs.Answer.{is_block}
use Rattle.mps_model.specs.Step.{Step}
use Rattle.mps_model.specs.Caches.{emptied}
use Rattle.mps_model.specs.Graph.{Cache, NamedThing, PlainWord, Point, Reservation, Slots, Thing, ChainThing, PoolThing, TableThing, AreaThing, BlocksThing, PointThing, DependencyThing, TransformThing, CacheThing, LabelThing, entry_at, is_automatic, thing_named, with_last, without_name}
use Rattle.mps_model.specs.World.{World, id_at, is_copying_pool, object_is, with_tail}
use Rattle.mps_model.specs.WellFormed.{are_all_different, is_there}
use Rattle.mps_model.specs.Checked.{Found, as_point, number_named}
use Rattle.mps_model.specs.Effect.{after_free, after_moved, after_post, after_segment, after_splat, doomed, holding, placing, reclaiming, segment_base_of, segment_of_move, where_one, with_collection, without_object, world_after_move, world_after_moves}
use Rattle.mps_model.specs.Frames.{place_without}
use Rattle.mps_model.specs.Policy.{units_asked}
use Rattle.mps_model.specs.Reply.{act}
use Rattle.mps_model.specs.Transforms.{pairs_of, slots_substituted}
use Rattle.mps_model.specs.History.{after_its_moves, after_own_segment, asking, judged_world, moved_world, moves_of_poll, own_segment, with_buffer, world_after}
use Rattle.mps_changes.specs.Change.{AsideIs, ChainMade, DependencyMade, DependencyIs, LabelMade, TransformMade, TransformDropped, Change, Aside, with_aside, FreeName, SlotIs, WordIs, MessageTaken, TableMade, AreaMade, BlocksMade, TableDropped, AreaDropped, PlaceEmptied, Allocated, CacheMade, BlockUncached, BlockCached, CacheFlushed, FramesPopped, PoolMade, PointMade, PointDropped, Opened, Written, Closed, Committed, Substituted}
use Rattle.mps_changes.proofs.ActChanges.{of_changes}
use Rattle.mps_laws.proofs.Acts.{for_world, point_named-is}
use Rattle.mps_laws.proofs.Lookups.{entry_at-at_last, length-slice_set, slice_get-at_last}
use Rattle.mps_laws.proofs.NamedLists.{AllThere, as_many, below_last, below_more, dropped_different, dropped_there, each_last, is_kept, kept_more, kept_other, made_different, none_kept_past, none_past, not_below_itself, some_mapped, some_more, some_other, some_set}
use Rattle.mps_laws.proofs.OwnSegments.{own_segment_taken}
use Rattle.mps_laws.proofs.Sound.SoundGraph.{each-weaker}

abbrev pub AreNamesRight : World → Type 0
AreNamesRight w = (list_all (λ (n : NamedThing). is_there w n.thing) w.graph.names && are_all_different w.graph.names) ≡ true

-- ---- moves

-- what no move makes or drops
record LeavesThings (w v : World) : Type 0 where
  pub names : v.graph.names ≡ w.graph.names
  pub there : (t : Thing) → is_there v t ≡ is_there w t

left_as : (w v : World) → v.graph.names ≡ w.graph.names → v.chains ≡ w.chains → v.pools ≡ w.pools → v.graph.tables ≡ w.graph.tables
    → v.graph.areas ≡ w.graph.areas → v.graph.blocks ≡ w.graph.blocks
    → ((n : ℕ) → is_some (entry_at v.graph.points n) ≡ is_some (entry_at w.graph.points n)) → v.dependencies ≡ w.dependencies
    → v.graph.transforms ≡ w.graph.transforms → v.graph.caches ≡ w.graph.caches → v.graph.labels ≡ w.graph.labels → LeavesThings w v
left_as w v names chains pools tables areas blocks points dependencies transforms caches labels =
    record { names = names; there = still }
  where
    still : (t : Thing) → is_there v t ≡ is_there w t
    still (ChainThing n) = ap (λ xs. nat_lt n (length xs)) chains
    still (PoolThing n) = ap (λ xs. nat_lt n (length xs)) pools
    still (TableThing n) = ap (λ xs. is_some (entry_at xs n)) tables
    still (AreaThing n) = ap (λ xs. is_some (entry_at xs n)) areas
    still (BlocksThing n) = ap (λ xs. nat_lt n (length xs)) blocks
    still (PointThing n) = points n
    still (DependencyThing n) = ap (λ xs. nat_lt n (length xs)) dependencies
    still (TransformThing n) = ap (λ flags. is_kept flags n) transforms
    still (CacheThing n) = ap (λ xs. nat_lt n (length xs)) caches
    still (LabelThing n) = ap (λ xs. nat_lt n (length xs)) labels

then_left : (u v w : World) → LeavesThings u v → LeavesThings v w → LeavesThings u w
then_left u v w first second = record { names = second.names ∙ first.names; there = λ t. second.there t ∙ first.there t }

left_alone : (w : World) → LeavesThings w w
left_alone w = record { names = refl; there = λ t. refl }

one_left : (w : World) (o : Option ℕ) (change : ℕ → World) → ((id : ℕ) → LeavesThings w (change id)) → LeavesThings w (where_one w o change)
one_left w None change each = left_alone w
one_left w (Some id) change each = each id

free_left : (w : World) (id at : ℕ) → LeavesThings w (after_free w id at)
free_left w id at =
    elim (object_is is_automatic w id) as (λ b. LeavesThings w (if b then with_collection (without_object w id)
    (reclaiming (segment_base_of w at)) else without_object w id)) [
      | true ↦
          left_as w (with_collection (without_object w id) (reclaiming (segment_base_of w at))) refl refl refl refl refl refl
          (λ n. refl) refl refl refl refl
      | false ↦ left_as w (without_object w id) refl refl refl refl refl refl (λ n. refl) refl refl refl refl
    ]

segment_left : (w : World) (s : Segment) → LeavesThings w (after_segment w s)
segment_left w s =
    elim (is_copying_pool w s.pool) as (λ b. LeavesThings w (if b then with_tail (holding w s) s.pool s.generation (words_of_segment s)
    else holding w s)) [
      | true ↦
          left_as w (with_tail (holding w s) s.pool s.generation (words_of_segment s)) refl refl refl refl refl refl (λ n. refl) refl refl
          refl refl
      | false ↦ left_as w (holding w s) refl refl refl refl refl refl (λ n. refl) refl refl refl refl
    ]

doomed_there : (o : Option Point) → is_some (doomed o) ≡ is_some o
doomed_there None = refl
doomed_there (Some p) = refl

move_left : (w : World) (m : Move) → LeavesThings w (world_after_move w m)
move_left w (moves.Seg base grains pool generation) = segment_left w (segment_of_move base.0 grains pool generation)
move_left w (moves.Unseg base) =
    left_as w (world_after_move w (moves.Unseg base)) refl refl refl refl refl refl (λ n. refl) refl refl refl refl
move_left w (moves.Flip zones chain generation) =
    left_as w (world_after_move w (moves.Flip zones chain generation)) refl refl refl refl refl refl
    (some_mapped doomed doomed_there w.graph.points) refl refl refl refl
move_left w moves.End = left_as w (world_after_move w moves.End) refl refl refl refl refl refl (λ n. refl) refl refl refl refl
move_left w (moves.Moved from to) =
    one_left w (id_at w from.0) (λ id. after_moved w id to.0) (λ id.
    left_as w (after_moved w id to.0) refl refl refl refl refl refl (λ n. refl) refl refl refl refl)
move_left w (moves.Stay at) =
    one_left w (id_at w at.0) (λ id. with_collection w (placing id)) (λ id.
    left_as w (with_collection w (placing id)) refl refl refl refl refl refl (λ n. refl) refl refl refl refl)
move_left w (moves.Splat holder cell) =
    one_left w (id_at w holder.0) (λ id. after_splat w id cell) (λ id.
    left_as w (after_splat w id cell) refl refl refl refl refl refl (λ n. refl) refl refl refl refl)
move_left w (moves.Post at) =
    one_left w (id_at w at.0) (after_post w) (λ id.
    left_as w (after_post w id) refl refl refl refl refl refl (λ n. refl) refl refl refl refl)
move_left w (moves.Commit at words pool) = left_alone w
move_left w (moves.Alloc at words pool) = left_alone w
move_left w (moves.Free at) = one_left w (id_at w at.0) (λ id. after_free w id at.0) (λ id. free_left w id at.0)

moves_left : (w : World) (ms : List Move) → LeavesThings w (world_after_moves w ms)
moves_left w [] = left_alone w
moves_left w (m ∷ ms) =
    then_left w (world_after_move w m) (world_after_moves (world_after_move w m) ms) (move_left w m) (moves_left (world_after_move w m) ms)

asked_left : (units : Option ℕ) (w : World) → LeavesThings w (asking units w)
asked_left None w = left_alone w
asked_left (Some units) w = left_as w (asking (Some units) w) refl refl refl refl refl refl (λ n. refl) refl refl refl refl

own_left : (w : World) (ms : List Move) (number : Option ℕ) → LeavesThings w (after_own_segment w ms number)
own_left w ms number =
    own_segment_taken (LeavesThings w) w (left_alone w)
    (λ s. left_as w (holding w s) refl refl refl refl refl refl (λ n. refl) refl refl refl refl)
    (λ s n r. left_as w (record (holding w s) { point_memories = with_buffer w.point_memories n r }) refl refl
    refl refl refl refl (λ k. refl) refl refl refl refl) ms number

its_moves_left : (w : World) (c : Call) (ms : List Move) → LeavesThings w (after_its_moves w c ms)
its_moves_left w (call.Reserve name head) ms =
    let polled = world_after_moves w (moves_of_poll ms) in
    then_left w polled (after_own_segment polled (own_segment ms) (number_named w name as_point)) (moves_left w (moves_of_poll ms))
    (own_left polled (own_segment ms) (number_named w name as_point))
its_moves_left w _ ms = moves_left w ms

moved_left : (w : World) (c : Call) (ms : List Move) → LeavesThings w (moved_world w c ms)
moved_left w c ms =
    let after = after_its_moves w c ms in
    then_left w after (asking (units_asked w c) after) (its_moves_left w c ms) (asked_left (units_asked w c) after)

still_right : (w v : World) → LeavesThings w v → AreNamesRight w → AreNamesRight v
still_right w v left right =
    let ns = w.graph.names in
    let parts = and_parts (list_all (λ (n : NamedThing). is_there w n.thing) ns) (are_all_different ns) right in
    ap (λ names. list_all (λ (n : NamedThing). is_there v n.thing) names && are_all_different names) left.names
    ∙ and_from (list_all (λ (n : NamedThing). is_there v n.thing) ns) (are_all_different ns)
    (each-weaker (λ (n : NamedThing). is_there w n.thing) (λ (n : NamedThing). is_there v n.thing)
    (λ n h. left.there n.thing ∙ h) ns parts.0)
    parts.1

-- ---- acts

module _ (v : World) (right : AreNamesRight v) where
  abbrev names : List NamedThing
  names = v.graph.names

  all_there : AllThere (is_there v) names
  all_there = (and_parts (list_all (λ (n : NamedThing). is_there v n.thing) names) (are_all_different names) right).0

  all_different : are_all_different names ≡ true
  all_different = (and_parts (list_all (λ (n : NamedThing). is_there v n.thing) names) (are_all_different names) right).1

  -- things that there were are there still
  abbrev Grows : World → Type 0
  Grows u = (t : Thing) → is_there v t ≡ true → is_there u t ≡ true

  still : (u : World) → u.graph.names ≡ names → Grows u → AreNamesRight u
  still u same grows =
      ap (λ ns. list_all (λ (n : NamedThing). is_there u n.thing) ns && are_all_different ns) same
      ∙ and_from (list_all (λ (n : NamedThing). is_there u n.thing) names) (are_all_different names)
      (each-weaker (λ (n : NamedThing). is_there v n.thing) (λ (n : NamedThing). is_there u n.thing) (λ n h. grows n.thing h) names
      all_there)
      all_different

  made : (u : World) (name : FreeName v) (thing : Thing)
      → u.graph.names ≡ with_last names (record { name = name.name; thing = thing }) → Grows u → is_there v thing ≡ false
      → is_there u thing ≡ true → AreNamesRight u
  made u name thing same grows new is =
      let all = with_last names (record { name = name.name; thing = thing }) in
      ap (λ ns. list_all (λ (n : NamedThing). is_there u n.thing) ns && are_all_different ns) same
      ∙ and_from (list_all (λ (n : NamedThing). is_there u n.thing) all) (are_all_different all)
      (each_last (λ (n : NamedThing). is_there u n.thing) names (record { name = name.name; thing = thing })
      (each-weaker (λ (n : NamedThing). is_there v n.thing) (λ (n : NamedThing). is_there u n.thing) (λ n h. grows n.thing h) names
      all_there)
      is)
      (made_different (is_there v) name.name thing names name.is_free new all_there all_different)

  dropped : (u : World) (name : Name) (thing : Thing) → thing_named v.graph name ≡ Some thing → u.graph.names ≡ without_name names name
      → ((t : Thing) → (t ≡ thing → ⊥) → is_there v t ≡ true → is_there u t ≡ true) → AreNamesRight u
  dropped u name thing found same keeps =
      let left = without_name names name in
      ap (λ ns. list_all (λ (n : NamedThing). is_there u n.thing) ns && are_all_different ns) same
      ∙ and_from (list_all (λ (n : NamedThing). is_there u n.thing) left) (are_all_different left)
      (dropped_there (is_there v) (is_there u) thing keeps names name found all_different all_there)
      (dropped_different names name all_different)

  aside_right : {marked : Bool} {c : Call} {judged : World} (u : World) → AsideIs marked c judged v u
      → AreNamesRight (with_aside v u)
  aside_right u (ChainMade name capacities) =
      made (with_aside v u) name (ChainThing (length v.chains)) refl grows (not_below_itself (length v.chains))
      (below_last v.chains capacities)
    where
      grows : (t : Thing) → is_there v t ≡ true → is_there (with_aside v u) t ≡ true
      grows (ChainThing n) h = below_more v.chains capacities n h
      grows _ h = h
  aside_right u (DependencyMade name d is dated) =
      made (with_aside v u) name (DependencyThing (length v.dependencies)) refl grows (not_below_itself (length v.dependencies))
      (below_last v.dependencies d)
    where
      grows : (t : Thing) → is_there v t ≡ true → is_there (with_aside v u) t ≡ true
      grows (DependencyThing n) h = below_more v.dependencies d n h
      grows _ h = h
  aside_right u (DependencyIs number d is dated) = still (with_aside v u) refl grows
    where
      grows : (t : Thing) → is_there v t ≡ true → is_there (with_aside v u) t ≡ true
      grows (DependencyThing n) h =
          as_many n (length v.dependencies) (length (slice_set v.dependencies number d)) (length-slice_set v.dependencies number d) h
      grows _ h = h
  aside_right u (LabelMade name is free) =
      made (with_aside v u) (record { name = name; is_free = free }) (LabelThing (length v.graph.labels)) refl grows
      (not_below_itself (length v.graph.labels)) (below_last v.graph.labels name)
    where
      grows : (t : Thing) → is_there v t ≡ true → is_there (with_aside v u) t ≡ true
      grows (LabelThing n) h = below_more v.graph.labels name n h
      grows _ h = h
  aside_right u (TransformMade name) =
      made (with_aside v u) name (TransformThing (length v.graph.transforms)) refl grows (none_kept_past v.graph.transforms)
      (ap (λ o. option_map_or (λ kept. kept) o false) (slice_get-at_last v.graph.transforms true))
    where
      grows : (t : Thing) → is_there v t ≡ true → is_there (with_aside v u) t ≡ true
      grows (TransformThing n) h = kept_more v.graph.transforms true n h
      grows _ h = h
  aside_right u (TransformDropped name transform is) = dropped (with_aside v u) name (TransformThing transform) is refl keeps
    where
      keeps : (t : Thing) → (t ≡ TransformThing transform → ⊥) → is_there v t ≡ true
          → is_there (with_aside v u) t ≡ true
      keeps (TransformThing n) other h = kept_other v.graph.transforms transform n false (λ e. other (ap TransformThing e)) h
      keeps _ other h = h
  aside_right u _ = right

  -- as many tables of blocks, after a place of one is written, and as many caches
  row_there : (place : Found (Option ℕ)) (block : Option ℕ) (n : ℕ) → nat_lt n (length v.graph.blocks) ≡ true
      → nat_lt n (length (slice_set v.graph.blocks place.number (slice_set place.list place.index block))) ≡ true
  row_there place block n h =
      ap (nat_lt n) (length-slice_set v.graph.blocks place.number (slice_set place.list place.index block)) ∙ h

  cache_there : (number : ℕ) (cache : Cache) (n : ℕ) → nat_lt n (length v.graph.caches) ≡ true
      → nat_lt n (length (slice_set v.graph.caches number cache)) ≡ true
  cache_there number cache n h = ap (nat_lt n) (length-slice_set v.graph.caches number cache) ∙ h

  point_there : (number : ℕ) (p : Point) (n : ℕ) → is_some (entry_at v.graph.points n) ≡ true
      → is_some (entry_at (slice_set v.graph.points number (Some p)) n) ≡ true
  point_there number p n h = some_set v.graph.points number n p h

  change_right : {marked : Bool} {c : Call} {judged : World} (u : World) → Change marked c judged v u → AreNamesRight u
  change_right _ (Aside u what) = aside_right u what
  change_right u (SlotIs into target found got) = still u refl grows
    where
      grows : Grows u
      grows (TableThing n) h = some_set v.graph.tables into.number n (slice_set into.list into.index target) h
      grows _ h = h
  change_right u (WordIs place at word found shown) = still u refl grows
    where
      grows : Grows u
      grows (AreaThing n) h = some_set v.graph.areas at.number n (slice_set at.list at.index word) h
      grows _ h = h
  change_right u (MessageTaken slot into id ids found is) = still u refl grows
    where
      grows : Grows u
      grows (TableThing n) h = some_set v.graph.tables into.number n (slice_set into.list into.index (Some id)) h
      grows _ h = h
  change_right u (TableMade name slots) =
      made u name (TableThing (length v.graph.tables)) refl grows (none_past v.graph.tables)
      (ap is_some (entry_at-at_last v.graph.tables (Some (replicate slots None))))
    where
      grows : Grows u
      grows (TableThing n) h = some_more v.graph.tables (Some (replicate slots None)) n h
      grows _ h = h
  change_right u (AreaMade name words) =
      made u name (AreaThing (length v.graph.areas)) refl grows (none_past v.graph.areas)
      (ap is_some (entry_at-at_last v.graph.areas (Some (replicate words (PlainWord 0)))))
    where
      grows : Grows u
      grows (AreaThing n) h = some_more v.graph.areas (Some (replicate words (PlainWord 0))) n h
      grows _ h = h
  change_right u (BlocksMade name places e) =
      made u name (BlocksThing (length v.graph.blocks)) refl grows (not_below_itself (length v.graph.blocks))
      (below_last v.graph.blocks (replicate places None))
    where
      grows : Grows u
      grows (BlocksThing n) h = below_more v.graph.blocks (replicate places None) n h
      grows _ h = h
  change_right u (TableDropped name n is) = dropped u name (TableThing n) is refl keeps
    where
      keeps : (t : Thing) → (t ≡ TableThing n → ⊥) → is_there v t ≡ true → is_there u t ≡ true
      keeps (TableThing k) other h = some_other v.graph.tables n k None (λ e. other (ap TableThing e)) h
      keeps _ other h = h
  change_right u (AreaDropped name n is) = dropped u name (AreaThing n) is refl keeps
    where
      keeps : (t : Thing) → (t ≡ AreaThing n → ⊥) → is_there v t ≡ true → is_there u t ≡ true
      keeps (AreaThing k) other h = some_other v.graph.areas n k None (λ e. other (ap AreaThing e)) h
      keeps _ other h = h
  change_right u (PlaceEmptied from place id e found has freed) = still u refl grows
    where
      grows : Grows u
      grows (BlocksThing n) h = row_there place None n h
      grows _ h = h
  change_right u (Allocated p words place at e of kind size found empty) = still u refl grows
    where
      grows : Grows u
      grows (BlocksThing n) h = row_there place (Some (length v.graph.objects)) n h
      grows _ h = h
  change_right u (CacheMade name pool of classes e may none) =
      made u name (CacheThing (length v.graph.caches)) refl grows (not_below_itself (length v.graph.caches))
      (below_last v.graph.caches (record { pool = of.number; classes = classes }))
    where
      grows : Grows u
      grows (CacheThing n) h = below_more v.graph.caches (record { pool = of.number; classes = classes }) n h
      grows _ h = h
  change_right u (BlockUncached name cache words into place id classes e is taken found empty) = still u refl grows
    where
      grows : Grows u
      grows (BlocksThing n) h = row_there place (Some id) n h
      grows (CacheThing n) h = cache_there cache.number (record cache.value { classes = classes }) n h
      grows _ h = h
  change_right u (BlockCached name cache from place id classes e is found has own kept) = still u refl grows
    where
      grows : Grows u
      grows (BlocksThing n) h = row_there place None n h
      grows (CacheThing n) h = cache_there cache.number (record cache.value { classes = classes }) n h
      grows _ h = h
  change_right u (CacheFlushed name cache e is) = still u refl grows
    where
      grows : Grows u
      grows (CacheThing n) h = cache_there cache.number (record cache.value { classes = map emptied cache.value.classes }) n h
      grows _ h = h
  change_right u (FramesPopped name f frame before e found opened) = still u refl grows
    where
      grows : Grows u
      grows (BlocksThing n) h = ap (nat_lt n) (length-map v.graph.blocks (map (place_without (drop before f.blocks)))) ∙ h
      grows _ h = h
  change_right u (PoolMade name p e made_so) =
      made u name (PoolThing (length v.pools)) refl grows (not_below_itself (length v.pools)) (below_last v.pools p)
    where
      grows : Grows u
      grows (PoolThing n) h = below_more v.pools p n h
      grows _ h = h
  change_right u (PointMade name pool of at_rank e is may) =
      made u name (PointThing (length v.graph.points)) refl grows (none_past v.graph.points)
      (ap is_some (entry_at-at_last v.graph.points (Some (record { pool = of.number; rank = at_rank; reservation = None }))))
    where
      grows : Grows u
      grows (PointThing n) h = some_more v.graph.points (Some (record { pool = of.number; rank = at_rank; reservation = None })) n h
      grows _ h = h
  change_right u (PointDropped name p e is none) =
      dropped u name (PointThing p.number) (point_thing (thing_named v.graph name) p.number (point_named-is v name p is).0) refl keeps
    where
      point_thing : (o : Option Thing) (n : ℕ) → option_and_then as_point o ≡ Some n → o ≡ Some (PointThing n)
      point_thing (Some (PointThing m)) n f = ap (λ (k : ℕ). Some (PointThing k)) (same_Some m n f)
      point_thing _ n f = absurd (none-some n f)

      keeps : (t : Thing) → (t ≡ PointThing p.number → ⊥) → is_there v t ≡ true → is_there u t ≡ true
      keeps (PointThing k) other h = some_other v.graph.points p.number k None (λ f. other (ap PointThing f)) h
      keeps _ other h = h
  change_right u (Opened name head reserving p at e is found) = still u refl grows
    where
      r : Reservation
      r = record { head = head; cells = reserving.cells; is_doomed = false }

      grows : Grows u
      grows (PointThing n) h = point_there p.number (record p.value { reservation = Some r }) n h
      grows _ h = h
  change_right u (Written name p r change e found has lives write) = still u refl grows
    where
      grows : Grows u
      grows (PointThing n) h =
          point_there p.number (record p.value { reservation = Some (record r { cells = change r.cells }) }) n h
      grows _ h = h
  change_right u (Closed name target p r e found has ended) = still u refl grows
    where
      grows : Grows u
      grows (PointThing n) h = point_there p.number (record p.value { reservation = None }) n h
      grows _ h = h
  change_right u (Committed name target p r slot e there found has lives) = still u refl grows
    where
      grows : Grows u
      grows (PointThing n) h = point_there p.number (record p.value { reservation = None }) n h
      grows (TableThing n) h = some_set v.graph.tables slot.number n (slice_set slot.list slot.index (Some (length v.graph.objects))) h
      grows _ h = h
  change_right u (Substituted name transform e is parked) = dropped u name (TransformThing transform) is refl keeps
    where
      substituted_there : (o : Option Slots) → is_some (slots_substituted (pairs_of v.state transform) o) ≡ is_some o
      substituted_there None = refl
      substituted_there (Some slots) = refl

      keeps : (t : Thing) → (t ≡ TransformThing transform → ⊥) → is_there v t ≡ true → is_there u t ≡ true
      keeps (TransformThing n) other h = kept_other v.graph.transforms transform n false (λ f. other (ap TransformThing f)) h
      keeps (TableThing n) other h = some_mapped (slots_substituted (pairs_of v.state transform)) substituted_there v.graph.tables n ∙ h
      keeps _ other h = h
  change_right u _ = right

-- ---- steps

pub names_after : (w : World) (s : Step) → AreNamesRight w → AreNamesRight (world_after w s)
names_after w s right =
    let v = moved_world w s.call s.moves in
    let judged = judged_world w s.call s.moves in
    let moved = still_right w v (moved_left w s.call s.moves) right in
    for_world AreNamesRight v (act (is_block s.answer) judged v s.call)
    (of_changes (is_block s.answer) judged v s.call (λ u change. change_right v moved u change)) moved

pub names_in_steps : (w : World) (ms : List Move) → AreNamesRight w → AreNamesRight (world_after_moves w ms)
names_in_steps w ms right = still_right w (world_after_moves w ms) (moves_left w ms) right
