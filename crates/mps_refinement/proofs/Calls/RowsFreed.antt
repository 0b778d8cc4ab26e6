-- A call that frees several manual blocks: they leave where they are held, and then are freed one after the other. From what holds of them
-- to a right step.
use Rattle.std.proofs.Common.{◌≡◌, ◌∙◌, ℕ, Bool, true, false, refl, sym, ap, subst, List, [], ◌++◌, Option, Some, None, Ok}
use Rattle.std.proofs.lemmas.Bool.{and_parts, eq-eqb, false≢true}
use Rattle.std.proofs.lemmas.Option.{slice_get-map}
use Rattle.std.specs.Prelude.{◌==◌, not, option_map, slice_get}
use Rattle.std.specs.Option.{option_map_or}
use Rattle.mps_base.specs.Address.{Address, Id, grain_of}
use Rattle.mps_base.specs.Segment.{Segment}
use Rattle.mps_base.specs.Trail.{Moves}
use Rattle.mps_base.specs.declared.moves.Move.{Move}
use Rattle.mps_extents.specs.Table.{bit}
use Rattle.mps_format.specs.Layout.{Layout}
use Rattle.mps_format.specs.Pools.{size_of_pool}
use Rattle.mps_format.specs.declared.pool.Pool.{Pool}
use Rattle.mps_abstract.specs.Colours.{is_grey}
use Rattle.mps_laws.proofs.QuietSteps.{IsSound}
use Rattle.mps_laws.proofs.Sound.HeldIds.{All}
use Rattle.mps_laws.proofs.Sound.PoolKinds.{manual_not_copying}
use Rattle.mps_laws.proofs.Sound.SoundGraph.{IsSoundGraph, auto}
use Rattle.mps_model.specs.declared.call.Call.{Call}
use Rattle.mps_model.specs.declared.reply.Reply.TheVariants as reply
use Rattle.mps_model.proofs.Reaching.{list_all-contains}
use Rattle.mps_model.specs.Answer.{Answer, Replied}
use Rattle.mps_model.specs.Checked.{done}
use Rattle.mps_model.specs.Effect.{world_after_moves}
use Rattle.mps_model.specs.Graph.{Cache, PoolFrames, Slots, contains, entry_at, ids_in_blocks, is_automatic}
use Rattle.mps_model.specs.History.{AreMovesOf, moved_world, moves_of_frees}
use Rattle.mps_model.specs.Reply.{act}
use Rattle.mps_model.specs.World as world
use Rattle.mps_model.specs.World.{World, is_any_size_kind, is_automatic_kind, is_copying_pool, is_live, object_is, pool_at, pool_is}
use Rattle.mps_neighbours.specs.Beside.{BesideState}
use Rattle.mps_pools.specs.Manual.{any_size}
use Rattle.mps_root.specs.State.{RootsState}
use Rattle.mps_heap_spec.specs.Manual.{Freeing, row_freed}
use Rattle.mps_heap_spec.specs.State.{HeapState}
use Rattle.mps_refinement.specs.RightStep.{IsRightFrom, step_of}
use Rattle.mps_refinement.specs.StandsFor.{AreParts, IsInTime, IsPool, IsReached, Past, collector_of}
use Rattle.mps_refinement.proofs.Calls.RightOwn.{IsOwn, IsRightOutcome, done_is_right}
use Rattle.mps_refinement.proofs.Collect.SameAddresses.{AreSame}
use Rattle.mps_refinement.proofs.Lookups.LiveObjects.{pool_kept}
use Rattle.mps_refinement.proofs.Parts.CommittedParts.{segment_there}
use Rattle.mps_refinement.proofs.Parts.FreedSegments.{HasShapes, any_size_alike}
use Rattle.mps_refinement.proofs.Parts.ObjectKinds.{manual_unpaired, paired_automatic}
use Rattle.mps_refinement.proofs.Parts.PairsKept.{none_ends, pairs_still}
use Rattle.mps_refinement.proofs.Parts.RowParts.{row_parts, row_ranked}
use Rattle.mps_refinement.proofs.Parts.SegmentsTaken.{contained_among}
use Rattle.mps_refinement.proofs.Parts.StillHeld.{reservation_targets}
use Rattle.mps_refinement.proofs.Parts.Unforwarded.{flip_known}
use Rattle.mps_refinement.proofs.Worlds.Known.{IsKnown}
use Rattle.mps_refinement.proofs.Worlds.OneFree.{outside_known}
use Rattle.mps_refinement.proofs.Worlds.PlacedOnce.{is_sized}
use Rattle.mps_refinement.proofs.Worlds.RestingActs.{resting_sound}
use Rattle.mps_refinement.proofs.Worlds.RowOfFrees.{AreFreed, AreLoose, AreRow, all_gone, all_live, all_sound, gone_as_row, gone_holding, gone_paired, loose_of, others_still, row_is_freed, world_holding, world_row}

-- ---- the pool of the blocks

-- a pool of manual blocks, of some words each
pub record IsManualPool {F : Type 0} (layout : F → Layout) (h : HeapState F) (w : World) (pool : ℕ) : Type 0 where
  pub theirs : world.Pool
  pub has : pool_at w pool ≡ Some theirs
  pub manual : is_automatic_kind theirs.kind ≡ false
  pub sized : is_sized theirs.kind ≡ true
  pub ours : Pool F
  pub kept : slice_get h.pools pool ≡ Some ours
  pub fits : IsPool layout w.formats ours theirs

module _ {F : Type 0} (layout : F → Layout) (past : Past) (h : HeapState F) (w : World) (parts : AreParts layout past h w) (pool : ℕ) where
  pub manual_pool : (p : world.Pool) → pool_at w pool ≡ Some p → is_automatic_kind p.kind ≡ false → is_sized p.kind ≡ true
      → IsManualPool layout h w pool
  manual_pool p has manual sized =
      let kept = pool_kept layout past h w parts pool p has in
      record { theirs = p; has = has; manual = manual; sized = sized; ours = kept.0; kept = kept.1; fits = kept.2 }

  module _ (m : IsManualPool layout h w pool) where
    pub size_kept : slice_get h.sizes pool ≡ Some (size_of_pool m.ours)
    size_kept =
        ap (λ xs. slice_get xs pool) parts.sizes ∙ slice_get-map size_of_pool h.pools pool ∙ ap (option_map size_of_pool) m.kept

    pub any_size_kept : (size_of_pool m.ours == any_size) ≡ pool_is is_any_size_kind w pool
    any_size_kept =
        any_size_alike layout w.formats m.ours m.theirs m.fits m.manual m.sized
        ∙ sym (ap (λ o. option_map_or (λ (p : world.Pool). is_any_size_kind p.kind) o false) m.has)

    pub stays : is_copying_pool w pool ≡ false
    stays = manual_not_copying w.pools pool m.theirs m.has m.manual

-- ---- the frees

-- Blocks of a pool at these addresses left where they were held, in the heap and in the world, which have these roots, caches and frames
-- then. Each was held once.
pub record AreUnheld {F : Type 0} (layout : F → Layout) (past : Past) (h : HeapState F) (w : World) (pool : ℕ) (ids : List Id)
    (ats : List Address) (roots : RootsState) (beside : BesideState) (blocks : List Slots) (caches : List Cache)
    (frames : List PoolFrames) : Type 0 where
  pub of_pool : IsManualPool layout h w pool
  pub row : AreRow w pool ids ats
  pub manual : (id : Id) → contains ids id ≡ true → auto w id ≡ false
  pub unheld : (id : Id) → contains ids id ≡ true
      → All (λ j. not (id == j)) (ids_in_blocks (world_holding w blocks caches frames).graph)
  pub passes : (test : Id → Bool) → All test (ids_in_blocks w.graph)
      → All test (ids_in_blocks (world_holding w blocks caches frames).graph)
  pub parts : AreParts layout past (record h { roots = roots; beside = beside }) (world_holding w blocks caches frames)

module _ {F : Type 0} (layout : F → Layout) (h : HeapState F) (trail : Moves) (none : trail.moves ≡ []) (c : Call) (w : World) (line : ℕ)
    (past : Past) (parts : AreParts layout past h w) (own : IsKnown past.time w) (reach : IsReached w)
    (time : IsInTime past.time (collector_of h) w) (is_own : IsOwn w c) (pool : ℕ) (ids : List Id) (ats : List Address)
    (roots : RootsState) (beside : BesideState) (blocks : List Slots) (caches : List Cache) (frames : List PoolFrames)
    (are : AreUnheld layout past h w pool ids ats roots beside blocks caches frames) where
  abbrev ok : Answer
  ok = Replied reply.Ok

  abbrev size : ℕ
  size = size_of_pool are.of_pool.ours

  abbrev u : World
  u = world_holding w blocks caches frames

  abbrev h_left : HeapState F
  h_left = record h { roots = roots; beside = beside }

  abbrev start : Freeing
  start = record { segs = h.segs; trail = trail }

  abbrev freed : Freeing
  freed = row_freed size start ats

  abbrev ms : List Move
  ms = moves_of_frees w ids

  abbrev addresses : List (Option Address)
  addresses = (all_gone w ids).addresses

  abbrev v_moved : World
  v_moved = world_row w addresses (all_gone w ids).segments (all_gone w ids).graph.dependents

  abbrev v : World
  v = world_holding v_moved blocks caches frames

  -- ---- without the blocks

  loose : AreLoose u ids
  loose = loose_of u ids (λ id there. record {
    manual = are.manual id there;
    unheld = are.unheld id there;
    unpaired = manual_unpaired w own.formed id (are.manual id there);
  })

  graph_left : IsSoundGraph u
  graph_left = record {
    objects = own.graph.objects;
    reservations = own.graph.reservations;
    points = own.graph.points;
    slots = own.graph.slots;
    words = own.graph.words;
    blocks = are.passes (object_is (λ o. not (is_automatic o)) w) own.graph.blocks;
    registered = own.graph.registered;
    messages = own.graph.messages;
  }

  live_left : All (is_live u) (ids_in_blocks u.graph)
  live_left = are.passes (is_live w) own.live.blocks

  sound_left : w.collection ≡ None → IsSound u
  sound_left rest = resting_sound u rest (record {
    client = own.live.client;
    blocks = live_left;
    referred = own.live.referred;
    transforms = own.live.transforms;
  })

  -- ---- they are freed

  shapes : HasShapes w
  shapes = record {
    right = own.formed.objects;
    lawful = parts.lawful;
    reserved = λ point i r x tag live cell. reservation_targets w own.graph point i r x tag live cell;
  }

  are_freed : AreFreed past.time start w ms freed v_moved
  are_freed =
      subst (AreFreed past.time start w ms freed) (gone_as_row w ids)
      (row_is_freed past.time pool size ids ats start w (record {
        image = parts.image;
        segments = parts.segments;
        shapes = shapes;
        flip = flip_known past.time (collector_of h) w time;
        laid = own.laid;
        outside = outside_known past (collector_of h) w own time;
      }) (any_size_kept layout past h w parts pool are.of_pool) (stays layout past h w parts pool are.of_pool) are.row)

  gone_is : all_gone u ids ≡ v
  gone_is = gone_holding w blocks caches frames ids ∙ ap (λ x. world_holding x blocks caches frames) (gone_as_row w ids)

  still : (j : Id) → auto w j ≡ true → entry_at addresses j ≡ entry_at w.addresses j
  still j automatic =
      others_still w ids j (λ id there same. false≢true (sym (are.manual id there) ∙ ap (auto w) same ∙ automatic))

  held_still : AreSame u.addresses addresses (ids_in_blocks u.graph)
  held_still j held =
      others_still w ids j (λ id there same.
      false≢true (sym (ap not (eq-eqb id j same))
      ∙ list_all-contains (λ k. not (id == k)) (ids_in_blocks u.graph) j (are.unheld id there) held))

  parts_then : AreParts layout past (record h_left { segs = freed.segs }) v
  parts_then =
      row_parts layout past h_left u are.parts graph_left own.formed.registered (paired_automatic w own.formed) own.laid freed.segs
      addresses (all_gone w ids).segments (all_gone w ids).graph.dependents are_freed.left.image are_freed.left.segments
      are_freed.fewer still held_still
      (pairs_still w own.graph own.formed.dependents addresses
      (λ j passes. still j (and_parts (is_live w j) (object_is is_automatic w j) passes).1))
      (gone_paired w ids w.graph.dependents refl (λ id there. none_ends w own.graph own.formed.dependents id (are.manual id there)))

  -- where the moves are due, and the call comes to the world without the blocks after them
  pub frees_are_right : AreMovesOf w c ok ms
      → ((addresses : List (Option Address)) (segments : List Segment) (pairs : List (Id × Id))
      → world_after_moves w ms ≡ world_row w addresses segments pairs
      → act false w (moved_world w c ms) c ≡ done (world_holding (world_row w addresses segments pairs) blocks caches frames))
      → IsRightOutcome layout h trail none c w line (Ok (record {
        answer = tt;
        state = record h_left { segs = freed.segs };
        trail = freed.trail;
      }))
  frees_are_right due comes =
      subst (λ ns. IsRightFrom layout h w (step_of line c ns ok) (record h_left { segs = freed.segs }))
      (sym (are_freed.moves ∙ ap (λ ns. ns ++ ms) none))
      (done_is_right layout h trail none c w line past parts own reach time is_own ms (record h_left { segs = freed.segs }) v (record {
        due = due;
        comes = comes addresses (all_gone w ids).segments (all_gone w ids).graph.dependents are_freed.moved;
        sound = λ rest. subst IsSound gone_is (all_sound u graph_left ids loose (sound_left rest));
        blocks = subst (λ (x : World). All (is_live x) (ids_in_blocks x.graph)) gone_is (all_live u graph_left ids loose live_left);
        laid = are_freed.left.laid;
        has = record { past = past; timed = refl; parts = parts_then };
        keeps = record {
          rest = λ rest. rest;
          not_condemned = λ clear grain. ap (λ bits. bit bits grain) are_freed.fewer.condemned ∙ clear grain;
          not_kept = λ clear unmarked n. are_freed.fewer.kept n (unmarked n);
          running = refl;
          tails = λ number generation. refl;
          world_tails = λ number generation. refl;
          ranked = λ y r.
              row_ranked layout past h w parts own.graph own.formed.registered (paired_automatic w own.formed) own.laid freed.segs
              addresses (all_gone w ids).segments (all_gone w ids).graph.dependents are_freed.left.image are_freed.left.segments
              are_freed.fewer still are_freed.left.laid (λ j grey.
              ap (λ (x : World). object_is is_automatic x j) (sym r.world)
              ∙ r.invariant.grey.grey_automatic j (ap (λ k. is_grey k j) (sym r.colours) ∙ grey));
          flip = λ of_flip. record { made = are_freed.left.flip.made; still = are_freed.left.flip.still };
          condemned = λ y same run marked t there.
              ap (λ bits. bit bits (grain_of t.base)) are_freed.fewer.condemned
              ∙ marked t (segment_there t w.segments (are_freed.fewer.among t
              (contained_among (all_gone w ids).segments t there)));
        };
        formats = refl;
      }))
