-- Manual blocks are freed by the client, one after the other, each with its segment where nothing is left in it.
use Rattle.std.proofs.Common.{◌≡◌, ◌∙◌, ℕ, ◌≤◌, Bool, true, false, refl, sym, ap, List, [], ◌∷◌, length, Option, Some, None, subst, inl, inr, arith}
use Rattle.std.proofs.lemmas.Bool.{true≢false, and_from, and_parts, cases_eq, eqb-true}
use Rattle.std.proofs.lemmas.Option.{none-some}
use Rattle.std.specs.Prelude.{◌&&◌, ◌==◌, if◌then◌else◌, is_some, not, slice_set, Ok, Err}
use Rattle.std.specs.List.{list_all}
use Rattle.std.specs.Option.{option_map_or}
use Rattle.mps_base.specs.Address.{Id, Address}
use Rattle.mps_base.specs.Segment.{Segment, end_of_segment, is_in_segment, without_segment}
use Rattle.mps_base.specs.declared.moves.Move.{Move}
use Rattle.mps_base.specs.declared.moves.Move.TheVariants as moves
use Rattle.mps_base.specs.declared.names.Name.{Name}
use Rattle.mps_base.specs.declared.names.Slot.{Slot}
use Rattle.mps_model.specs.Answer.{Answer, is_refused}
use Rattle.mps_model.specs.Graph.{Graph, Object, Cache, CacheClass, PoolFrames, contains, entry_at, ids_in_blocks, ids_of_client, ids_in_caches, is_automatic, targets, object_at}
use Rattle.mps_model.specs.World.{World, has_frames, is_any_size_kind, is_empty_segment, is_live, object_is, pool_is, segment_of}
use Rattle.mps_model.specs.Checked.{Checked, Found, Numbered, block_place_in, cache_named}
use Rattle.mps_model.specs.Caches.{flushed, kept_by}
use Rattle.mps_model.specs.Frames.{blocks_popped, frame_in, frames_named}
use Rattle.mps_model.specs.Effect.{after_free, reclaiming, segment_base_of, where_one, with_address, with_collection, without_object, world_after_moves}
use Rattle.mps_model.specs.Flip.{at_address}
use Rattle.mps_model.specs.History.{free_at, free_of, free_of_object, give_back_empty, moves_if_not_kept, moves_of_cache_flush, moves_of_cache_free, moves_of_frame, moves_of_frees, moves_of_pop, unless_refused}
use Rattle.mps_model.specs.WellFormed.{IsWellFormed, are_right_frames, are_rising, is_block_of}
use Rattle.mps_model.proofs.Cutting.{world_after_moves-append}
use Rattle.mps_changes.proofs.Checks.{cache_named-is, frames_named-is}
use Rattle.mps_changes.proofs.Frames.{found_passes, popped_pass}
use Rattle.mps_changes.proofs.Lookups.{entry_at-set_none, entry_at-set_other}
use Rattle.mps_changes.proofs.OneMore.{cache_passes, flushed_pass, parts_pass}
use Rattle.mps_abstract.specs.Collecting.{Collecting, Running}
use Rattle.mps_abstract.specs.ClientLaws.{AreApartFrom}
use Rattle.mps_abstract.proofs.Addresses.{id_at-live}
use Rattle.mps_abstract.proofs.HeldSegments.{IsAmong, among_filtered, held_among, segments_ordered}
use Rattle.mps_abstract.proofs.Calls.ClientChange.{IsUsed, held_by_client, referred_to, is_registered, is_to_be_scanned}
use Rattle.mps_abstract.proofs.Calls.ClientThings.{aside_keeps}
use Rattle.mps_abstract.proofs.Calls.ClientMaking.{find_among, freed_keeps}
use Rattle.mps_abstract.proofs.Calls.ClientFrees.{block_right, elsewhere, give_back_keeps, manual_is, used_automatic}

-- ---- segments without one

lower : (a b : ℕ) (ss : List Segment) → a ≤ b → AreApartFrom b ss → AreApartFrom a ss
lower a b [] h o = tt
lower a b (s ∷ ss) h o = (let low = o.0 in omega (arith, h, low), o.1, o.2)

pub apart_without : (from : Address) (ss : List Segment) (base : Address) → AreApartFrom from ss
    → AreApartFrom from (without_segment ss base)
apart_without from [] base o = tt
apart_without from (s ∷ ss) base o =
    elim (not (s.base == base)) as (λ b. AreApartFrom from (if b then s ∷ without_segment ss base else without_segment ss base)) [
      | true ↦ (o.0, o.1, apart_without (end_of_segment s) ss base o.2)
      | false ↦
          (let low = o.0 in let some = o.1 in
          lower from (end_of_segment s) (without_segment ss base) (omega (arith, low, some)) (apart_without (end_of_segment s) ss base o.2))
    ]

-- ---- worlds that are left

-- a world in which some manual blocks of another are freed, and some of their segments given back
pub record IsLeft (x : Collecting) (v : World) : Type 0 where
  pub running : Running (record x { world = v })
  pub graph : v.graph ≡ record x.world.graph { dependents = v.graph.dependents }
  pub segments : (s : Segment) → IsAmong s v.segments → IsAmong s x.world.segments
  pub apart : AreApartFrom 1 v.segments
  pub addresses : (id : Id) (at : Address) → entry_at v.addresses id ≡ Some at → entry_at x.world.addresses id ≡ Some at

abbrev after_back : World → Segment → Bool → World
after_back u s b = world_after_moves u (if b then moves.Unseg (at_address s.base) ∷ [] else [])

module _ (x : Collecting) (run : Running x) (formed : IsWellFormed x.world) where
  abbrev After : List Move → Type 0
  After ms = Running (record x { world = world_after_moves x.world ms })

  itself : IsLeft x x.world
  itself = record {
    running = run;
    graph = refl;
    segments = λ s h. h;
    apart = segments_ordered x.world formed;
    addresses = λ id at h. h;
  }

  -- what is used there was used before
  used_before : (v : World) → IsLeft x v → (id : Id) → IsUsed (record x { world = v }) id → IsUsed x id
  used_before v l id (held_by_client h) = held_by_client (ap (λ (g : Graph). contains (ids_of_client g) id) (sym l.graph) ∙ h)
  used_before v l id (referred_to from h) = referred_to from (ap (λ (g : Graph). contains (targets g from) id) (sym l.graph) ∙ h)
  used_before v l id (is_registered h) = is_registered (ap (λ (g : Graph). contains g.registered id) (sym l.graph) ∙ h)
  used_before v l id (is_to_be_scanned h) = is_to_be_scanned h

  module _ (v : World) (l : IsLeft x v) (id : Id) (manual : object_is is_automatic x.world id ≡ false) where
    manual_there : object_is is_automatic v id ≡ false
    manual_there = ap (λ (g : Graph). option_map_or is_automatic (object_at g id) false) l.graph ∙ manual

    abbrev freed : World
    freed = without_object v id

    freed_runs : Running (record x { world = freed })
    freed_runs =
        aside_keeps (record x { world = with_address v id None })
        (freed_keeps (record x { world = v }) l.running id
        (λ used. true≢false (sym (used_automatic x run formed id (used_before v l id used)) ∙ manual))
        (λ base s o at is e there lying begins.
        let found = find_among (λ t. t.base == base) v.segments s e in
        let held = held_among 1 s x.world.segments (segments_ordered x.world formed) (l.segments s found.0) in
        elsewhere x run formed id manual base s o at is
        (subst (λ b. Rattle.mps_model.specs.World.segment_at x.world b ≡ Some s) (eqb-true s.base base found.1) held)
        (ap (λ (g : Graph). object_at g id) (sym l.graph) ∙ there) (l.addresses id at lying) begins))
        freed v.graph.blocks v.graph.caches v.graph.frames

    freed_left : IsLeft x freed
    freed_left = record {
      running = freed_runs;
      graph = ap (λ (g : Graph). record g { dependents = freed.graph.dependents }) l.graph;
      segments = l.segments;
      apart = l.apart;
      addresses = λ j at h. l.addresses j at (before j at h);
    }
      where
        before : (j : Id) (at : Address) → entry_at (slice_set v.addresses id None) j ≡ Some at
            → entry_at v.addresses j ≡ Some at
        before j at h = elim (cases_eq id j) [
          | inl same ↦ absurd (none-some at (sym (entry_at-set_none v.addresses j)
              ∙ subst (λ (k : ℕ). entry_at (slice_set v.addresses k None) j ≡ Some at) same h))
          | inr other ↦ sym (entry_at-set_other v.addresses id j None other) ∙ h
        ]

    -- a segment of the world that is left is given back, if that is due
    back_left : (u : World) → IsLeft x u → (o : Option Segment) → ((s : Segment) → o ≡ Some s → IsAmong s u.segments)
        → IsLeft x (world_after_moves u (give_back_empty u o))
    back_left u m None among = m
    back_left u m (Some s) among = of_test (pool_is is_any_size_kind u s.pool && is_empty_segment u s) refl
      where
        of_test : (b : Bool) → (pool_is is_any_size_kind u s.pool && is_empty_segment u s) ≡ b → IsLeft x (after_back u s b)
        of_test false e = m
        of_test true e = record {
          running = subst (λ b. Running (record x { world = after_back u s b })) e
              (give_back_keeps (record x { world = u }) m.running m.apart (Some s) among
              (subst (λ b. AreApartFrom 1 (after_back u s b).segments) (sym e) (apart_without 1 u.segments s.base m.apart)));
          graph = m.graph;
          segments = λ t h. m.segments t (among_filtered (λ w. not (w.base == s.base)) t u.segments h).0;
          apart = apart_without 1 u.segments s.base m.apart;
          addresses = m.addresses;
        }

    -- the object is freed, if it is live
    object_left : IsLeft x (world_after_moves v (free_of_object v id))
    object_left = of_address (entry_at v.addresses id) refl
      where
        of_address : (o : Option Address) → entry_at v.addresses id ≡ o → IsLeft x (world_after_moves v (option_map_or (free_of v) o []))
        of_address None e = l
        of_address (Some at) e =
            let leads : world_after_moves v (free_at at) ≡ freed =
            ap (λ found. where_one v found (λ n. after_free v n at))
            (subst (λ (a : ℕ). Rattle.mps_model.specs.World.id_at v a ≡ Some id) (ap (λ o. option_map_or (λ (a : ℕ). a) o 0) e)
            (id_at-live v id l.running.different (ap is_some e)))
            ∙ ap (λ b. if b then with_collection (without_object v id) (reclaiming (segment_base_of v at)) else without_object v id)
            manual_there in
            subst (λ (u : World). IsLeft x (world_after_moves u (give_back_empty u (segment_of v at)))) (sym leads)
            (back_left freed freed_left (segment_of v at) (λ s f. (find_among (λ t. is_in_segment t at) v.segments s f).0))

  -- objects are freed, one after the other
  frees_left : (v : World) → IsLeft x v → (ids : List Id) → list_all (λ id. not (object_is is_automatic x.world id)) ids ≡ true
      → IsLeft x (world_after_moves v (moves_of_frees v ids))
  frees_left v l [] all = l
  frees_left v l (id ∷ ids) all =
      let parts = and_parts (not (object_is is_automatic x.world id)) (list_all (λ id. not (object_is is_automatic x.world id)) ids) all in
      let u = world_after_moves v (free_of_object v id) in
      subst (IsLeft x) (sym (world_after_moves-append v (free_of_object v id) (moves_of_frees u ids)))
      (frees_left u (object_left v l id (not_true (object_is is_automatic x.world id) parts.0)) ids parts.1)
    where
      not_true : (b : Bool) → not b ≡ true → b ≡ false
      not_true true h = absurd (true≢false (sym h))
      not_true false h = refl

  -- ---- the calls

  unless_keeps : (answer : Answer) (ms : List Move) → Running (record x { world = world_after_moves x.world ms })
      → Running (record x { world = world_after_moves x.world (unless_refused answer ms) })
  unless_keeps answer ms keeps =
      elim (is_refused answer) as (λ b. Running (record x { world = world_after_moves x.world (if b then [] else ms) })) [
        | true ↦ run
        | false ↦ keeps
      ]

  pub cache_free_keeps : list_all (is_live x.world) (ids_in_blocks x.world.graph) ≡ true → (q : Checked (Numbered Cache)) (place : Slot)
      (answer : Answer)
      → Running (record x {
        world = world_after_moves x.world
            (unless_refused answer (moves_of_cache_free x.world q (block_place_in x.world place)));
      })
  cache_free_keeps live q place answer =
      unless_keeps answer (moves_of_cache_free x.world q (block_place_in x.world place)) (of_both q (block_place_in x.world place) refl)
    where
      of_kept : (id : Id) → object_is is_automatic x.world id ≡ false → (o : Option (List CacheClass))
          → After (moves_if_not_kept x.world id o)
      of_kept id manual None = (object_left x.world itself id manual).running
      of_kept id manual (Some classes) = run

      of_value : (q : Numbered Cache) (o : Option ℕ) → ((id : Id) → o ≡ Some id → object_is is_automatic x.world id ≡ false)
          → After (option_map_or (λ id. moves_if_not_kept x.world id (kept_by x.world q.value id)) o [])
      of_value q None each = run
      of_value q (Some id) each = of_kept id (each id refl) (kept_by x.world q.value id)

      of_both : (q : Checked (Numbered Cache)) (m : Checked (Found (Option ℕ))) → block_place_in x.world place ≡ m
          → After (moves_of_cache_free x.world q m)
      of_both (Ok q) (Ok found) e = of_value q found.value (λ id f. (block_right x run formed live place found id e f).1)
      of_both (Ok q) (Err why) e = run
      of_both (Err why) m e = run

  manual_all : (ids : List Id) → list_all (object_is (λ o. not (is_automatic o)) x.world) ids ≡ true
      → list_all (λ id. not (object_is is_automatic x.world id)) ids ≡ true
  manual_all [] h = refl
  manual_all (id ∷ ids) h =
      let parts = and_parts (object_is (λ o. not (is_automatic o)) x.world id)
      (list_all (object_is (λ o. not (is_automatic o)) x.world) ids) h in
      and_from (not (object_is is_automatic x.world id))
      (list_all (λ id. not (object_is is_automatic x.world id)) ids) (ap not (manual_is x.world id parts.0)) (manual_all ids parts.1)

  pub cache_flush_keeps : (name : Name) (answer : Answer)
      → Running (record x {
        world = world_after_moves x.world
            (unless_refused answer (moves_of_cache_flush x.world (cache_named x.world name)));
      })
  cache_flush_keeps name answer =
      unless_keeps answer (moves_of_cache_flush x.world (cache_named x.world name)) (of_cache (cache_named x.world name) refl)
    where
      of_cache : (m : Checked (Numbered Cache)) → cache_named x.world name ≡ m
          → Running (record x { world = world_after_moves x.world (moves_of_cache_flush x.world m) })
      of_cache (Err why) e = run
      of_cache (Ok q) e =
          let test = object_is (λ o. not (is_automatic o)) x.world in
          let cached = (parts_pass test (Rattle.mps_model.specs.Graph.ids_in_places x.world.graph) (ids_in_caches x.world.graph)
          formed.blocks).1 in
          let its = cache_passes x.world.graph q (cache_named-is x.world name q e) test cached in
          (frees_left x.world itself (flushed q.value) (manual_all (flushed q.value) (flushed_pass test q.value.classes its))).running

  pub pop_keeps : (name : Name) (frame : ℕ) (answer : Answer)
      → Running (record x {
        world = world_after_moves x.world
            (unless_refused answer (moves_of_pop x.world (frames_named x.world name) frame));
      })
  pop_keeps name frame answer =
      unless_keeps answer (moves_of_pop x.world (frames_named x.world name) frame) (of_pool (frames_named x.world name) refl)
    where
      own_manual : (pool : ℕ) (ids : List Id) → list_all (is_block_of x.world pool) ids ≡ true
          → list_all (object_is (λ o. not (is_automatic o)) x.world) ids ≡ true
      own_manual pool [] h = refl
      own_manual pool (id ∷ ids) h =
          let parts = and_parts (is_block_of x.world pool id) (list_all (is_block_of x.world pool) ids) h in
          and_from (object_is (λ o. not (is_automatic o)) x.world id) (list_all (object_is (λ o. not (is_automatic o)) x.world) ids)
          (of_object (object_at x.world.graph id) parts.0) (own_manual pool ids parts.1)
        where
          of_object : (o : Option Object) → option_map_or (λ (y : Object). not (is_automatic y) && y.pool == pool) o false ≡ true
              → option_map_or (λ (y : Object). not (is_automatic y)) o false ≡ true
          of_object None g = absurd (true≢false (sym g))
          of_object (Some y) g = (and_parts (not (is_automatic y)) (y.pool == pool) g).0

      of_frame : (f : PoolFrames) → list_all (object_is (λ o. not (is_automatic o)) x.world) f.blocks ≡ true → (m : Checked ℕ)
          → After (moves_of_frame x.world f m)
      of_frame f manual (Err why) = run
      of_frame f manual (Ok before) =
          (frees_left x.world itself (blocks_popped f before) (manual_all (blocks_popped f before)
          (popped_pass (object_is (λ o. not (is_automatic o)) x.world) f before manual))).running

      of_pool : (m : Checked PoolFrames) → frames_named x.world name ≡ m → After (moves_of_pop x.world m frame)
      of_pool (Err why) e = run
      of_pool (Ok f) e =
          let right = found_passes (are_right_frames x.world) x.world.graph.frames f.pool f (frames_named-is x.world name f e)
          formed.frames in
          let rest = (and_parts (pool_is has_frames x.world f.pool)
          (list_all (is_block_of x.world f.pool) f.blocks && are_rising 0 (length f.blocks) f.opened) right).1 in
          of_frame f (own_manual f.pool f.blocks
          (and_parts (list_all (is_block_of x.world f.pool) f.blocks) (are_rising 0 (length f.blocks) f.opened) rest).0) (frame_in f frame)
