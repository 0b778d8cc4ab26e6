-- `pop`: from its outcome to a right step. The frame is closed, the blocks that were made since leave their places, and then are freed one
-- after the other.
use Rattle.std.proofs.Common.{◌≡◌, ◌∙◌, ℕ, true, false, refl, sym, ap, subst, List, [], ◌∷◌, map, Option, Some, None, Ok, Err}
use Rattle.std.proofs.lemmas.Bool.{and_parts, eqb-true, false≢true}
use Rattle.std.proofs.lemmas.Option.{same_Some, slice_get-map}
use Rattle.std.specs.Prelude.{◌==◌, ◌&&◌, drop, not, option_map, slice_get}
use Rattle.std.specs.Option.{option_map_or}
use Rattle.mps_base.specs.Address.{Address, Id}
use Rattle.mps_base.specs.Trail.{Moves}
use Rattle.mps_base.specs.declared.names.Name.{Name}
use Rattle.mps_base.specs.declared.refusal.Refusal.{Refusal}
use Rattle.mps_base.specs.declared.refusal.Refusal.TheVariants as refusal
use Rattle.mps_changes.proofs.Frames.{frames_in}
use Rattle.mps_format.specs.Layout.{Layout}
use Rattle.mps_laws.proofs.Frames.{AreRightFrames}
use Rattle.mps_laws.proofs.OnePlace.{AreInOnePlace, in_one_place}
use Rattle.mps_laws.proofs.Same as same
use Rattle.mps_laws.proofs.Same.{Same, fits}
use Rattle.mps_laws.proofs.Sound.SoundGraph.{auto}
use Rattle.mps_model.specs.declared.call.Call.TheVariants as call
use Rattle.mps_model.specs.declared.reply.Reply.TheVariants as reply
use Rattle.mps_model.specs.Answer.{Answer, Replied}
use Rattle.mps_model.specs.Checked.{Checked, ◌>>=◌, done, required, with_graph}
use Rattle.mps_model.specs.Frames as model
use Rattle.mps_model.specs.Frames.{act_pop, frame_in, graph_popped, places_without, popped}
use Rattle.mps_model.specs.Graph.{Object, PoolFrames, Slots, contains, frames_changed, from_last, is_automatic, is_automatic_body}
use Rattle.mps_model.specs.History.{moves_of_frame, moves_of_pop}
use Rattle.mps_model.specs.WellFormed.{is_block_of}
use Rattle.mps_model.specs.World as world
use Rattle.mps_model.specs.World.{World, PoolKind, Collected, OneSize, AnySize, Frames, has_frames, is_automatic_kind, object_is, pool_at}
use Rattle.mps_neighbours.specs.Beside.{BesideState}
use Rattle.mps_root.specs.State.{RootsState}
use Rattle.mps_snc.specs.State as snc
use Rattle.mps_snc.specs.State.{PoolState, new_pool, with_pool}
use Rattle.mps_snc.specs.declared.pool.Block.{Block}
use Rattle.mps_format.specs.Pools.{size_of_pool}
use Rattle.mps_heap_spec.specs.Coming.{ComesMoving, Moved}
use Rattle.mps_heap_spec.specs.Framing.{frames_named, with_frames}
use Rattle.mps_heap_spec.specs.Manual.{Freeing}
use Rattle.mps_heap_spec.specs.Popping.{blocks_freed, closed, frame_closed, frame_popped, places_emptied}
use Rattle.mps_heap_spec.specs.State.{HeapState}
use Rattle.mps_heap_spec.specs.declared.found.Kept.{Kept}
use Rattle.mps_refinement.specs.Answering.{answer_to, says_ok}
use Rattle.mps_refinement.specs.Framed.{AreNoted, IsNoted}
use Rattle.mps_refinement.specs.RightStep.{IsRight}
use Rattle.mps_refinement.specs.StandsFor.{AreParts, IsInTime, IsReached, Past, address_of_id, address_of_target, collector_of}
use Rattle.mps_refinement.proofs.Calls.Pushes.{IsFramesFound, frames_same}
use Rattle.mps_refinement.proofs.Calls.RightOwn.{IsOwn, IsRightOutcome, outcome_is_right, refusal_is_right}
use Rattle.mps_refinement.proofs.Calls.RowsFreed.{AreUnheld, IsManualPool, frees_are_right, manual_pool, size_kept}
use Rattle.mps_refinement.proofs.Lookups.ManualBlocks.{IsBlock, block_is, passes_there}
use Rattle.mps_refinement.proofs.Parts.EmptiedPlaces.{back_alike, emptied_are, frames_cut, noted_after, noted_back, places_left, slots_emptied}
use Rattle.mps_refinement.proofs.Worlds.FramedBlocks.{popped_apart, popped_live, popped_once, popped_other, popped_own, popped_passes, popped_pool, popped_unheld}
use Rattle.mps_refinement.proofs.Worlds.Known.{IsKnown}
use Rattle.mps_refinement.proofs.Worlds.PlacedOnce.{is_sized}
use Rattle.mps_refinement.proofs.Worlds.RoomForNotes.{reached_frames}
use Rattle.mps_refinement.proofs.Worlds.RowOfFrees.{AreRow, row_of, world_holding, world_row}

abbrev ok : Answer
ok = Replied reply.Ok

-- noted blocks are at the addresses of the world's
module _ (addresses : List (Option Address)) (places : List (List Address)) (slots : List Slots)
    (are : places ≡ map (map (address_of_target addresses)) slots) where
  noted_there : (b : Block) (id : Id) → IsNoted places slots b id → b.at.0 ≡ address_of_id addresses id
  noted_there b id is =
      let kept : is.kept ≡ map (address_of_target addresses) is.row =
      same_Some is.kept (map (address_of_target addresses) is.row) (sym is.there ∙ ap (λ ps. slice_get ps b.place.table) are
      ∙ slice_get-map (map (address_of_target addresses)) slots b.place.table
      ∙ ap (option_map (map (address_of_target addresses))) is.table) in
      same_Some b.at.0 (address_of_id addresses id) (sym is.at ∙ ap (λ r. slice_get r b.place.index) kept
      ∙ slice_get-map (address_of_target addresses) is.row b.place.index
      ∙ ap (option_map (address_of_target addresses)) is.entry)

  noted_at : (bs : List Block) (ids : List Id) → AreNoted places slots bs ids
      → map (λ (b : Block). b.at.0) bs ≡ map (address_of_id addresses) ids
  noted_at [] [] noted = refl
  noted_at [] (id ∷ ids) noted = absurd noted
  noted_at (b ∷ bs) [] noted = absurd noted
  noted_at (b ∷ bs) (id ∷ ids) noted =
      ap (λ at. at ∷ map (λ (c : Block). c.at.0) bs) (noted_there b id noted.0)
      ∙ ap (λ ats. address_of_id addresses id ∷ ats) (noted_at bs ids noted.1)

-- a pool of frames has blocks of any sizes
of_frames : (kind : PoolKind) → has_frames kind ≡ true → (is_automatic_kind kind ≡ false) × (is_sized kind ≡ true)
of_frames (Collected kind) has = absurd (false≢true has)
of_frames (OneSize words) has = absurd (false≢true has)
of_frames AnySize has = absurd (false≢true has)
of_frames Frames has = (refl, refl)

-- a block of a pool is manual, and of that pool
block_parts : (w : World) (pool : ℕ) (id : Id) → is_block_of w pool id ≡ true
    → (object_is (λ o. not (is_automatic o)) w id ≡ true) × (object_is (λ o. o.pool == pool) w id ≡ true)
block_parts w pool id is = of_object (slice_get w.graph.objects id) is
  where
    of_object : (o : Option Object) → option_map_or (λ (x : Object). not (is_automatic x) && x.pool == pool) o false ≡ true
        → (option_map_or (λ (x : Object). not (is_automatic x)) o false ≡ true)
        × (option_map_or (λ (x : Object). x.pool == pool) o false ≡ true)
    of_object None e = absurd (false≢true e)
    of_object (Some x) e = and_parts (not (is_automatic x)) (x.pool == pool) e

module _ {F : Type 0} (layout : F → Layout) (h : HeapState F) (trail : Moves) (none : trail.moves ≡ []) (name : Name) (frame : ℕ) where
  abbrev IsRightPop : World → ℕ → Checked (Moved F (Unit {0})) → Type 0
  IsRightPop w line o = IsRightOutcome layout h trail none (call.Pop name frame) w line o

  abbrev start : Freeing
  start = record { segs = h.segs; trail = trail }

  -- what closing the frame comes to, where the pool has this state
  abbrev closed_to : (key size : ℕ) → PoolState → (before : ℕ) → Moved F (Unit {0})
  closed_to key size p before = record {
    answer = tt;
    state = with_frames (record h {
      segs = (blocks_freed size start (from_last (drop before p.blocks))).segs;
      roots = record h.roots { blocks = places_emptied h.roots.blocks (from_last (drop before p.blocks)) };
    }) (with_pool h.beside.frames key (closed p frame before));
    trail = (blocks_freed size start (from_last (drop before p.blocks))).trail;
  }

  module _ (w : World) (line : ℕ) (past : Past) (parts : AreParts layout past h w) (own : IsKnown past.time w)
      (reach : IsReached w) (time : IsInTime past.time (collector_of h) w) where
    is_own : IsOwn w (call.Pop name frame)
    is_own = record {
      arena = refl;
      collected = λ ms answer. refl;
      legal = λ ms. tt;
      marked = λ y answer. tt;
      read = λ y. tt;
      possible = λ answer. tt;
      unasked = λ why. refl;
      still = refl;
      judged = λ ms. refl;
      taken = λ v. refl;
    }

    refused_outcome : (why : Refusal) → act_pop w name frame ≡ Err why → IsRightPop w line (Err why)
    refused_outcome why e = refusal_is_right layout h trail none (call.Pop name frame) w line past parts own reach time is_own why e

    right : AreRightFrames w
    right = reached_frames w reach

    once : AreInOnePlace w
    once = subst AreInOnePlace (sym reach.is) (in_one_place w.formats reach.history reach.legal)

    module _ (k : Kept PoolState) (f : PoolFrames) (is : IsFramesFound h w k f) (named : model.frames_named w name ≡ Ok f) where
      pool_is : f.pool ≡ k.key
      pool_is = is.listed.pool

      found : frames_in w.graph.frames f.pool ≡ Some f
      found = ap (frames_in w.graph.frames) pool_is ∙ is.found

      module _ (before : ℕ) (opened : slice_get f.opened frame ≡ Some before) where
        abbrev gone : List Id
        gone = drop before f.blocks

        abbrev ids : List Id
        ids = from_last gone

        abbrev bs : List Block
        bs = from_last (drop before k.value.blocks)

        abbrev ats : List Address
        ats = map (λ (b : Block). b.at.0) bs

        abbrev left : List PoolFrames
        left = frames_changed w.graph.frames f.pool (popped frame before)

        noted : AreNoted h.roots.blocks w.graph.blocks bs ids
        noted =
            noted_back h.roots.blocks w.graph.blocks (drop before k.value.blocks) gone
            (noted_after h.roots.blocks w.graph.blocks before k.value.blocks f.blocks is.listed.blocks)

        -- ---- the frame is closed, and the places are empty

        abbrev roots : RootsState
        roots = record h.roots { blocks = places_emptied h.roots.blocks bs }

        abbrev beside : BesideState
        beside = record h.beside { frames = with_pool h.beside.frames k.key (closed k.value frame before) }

        abbrev places : List Slots
        places = places_without gone w.graph.blocks

        parts_cut : AreParts layout past (record h { beside = beside }) (world_holding w w.graph.blocks w.graph.caches left)
        parts_cut =
            subst (λ n. AreParts layout past (record h { beside = beside })
            (world_holding w w.graph.blocks w.graph.caches (frames_changed w.graph.frames n (popped frame before)))) (sym pool_is)
            (frames_cut layout past h w k.key frame before k.value is.there parts)

        places_are : slots_emptied w.graph.blocks bs ≡ places
        places_are =
            emptied_are h.roots.blocks w.graph.blocks bs ids noted (popped_other w right once f found frame before) own.once.once
            ∙ back_alike gone w.graph.blocks

        parts_left : AreParts layout past (record h { roots = roots; beside = beside }) (world_holding w places w.graph.caches left)
        parts_left =
            subst (λ ss. AreParts layout past (record h { roots = roots; beside = beside }) (world_holding w ss w.graph.caches left))
            places_are
            (places_left layout past (record h { beside = beside }) (world_holding w w.graph.blocks w.graph.caches left) bs ids noted
            (popped_other w right once f found frame before) (popped_apart w right once f found frame before) parts_cut)

        -- ---- the blocks

        of_pool : IsManualPool layout h w f.pool
        of_pool =
            let p = passes_there (λ (p : world.Pool). has_frames p.kind) (pool_at w f.pool)
            (popped_pool w right once f found frame before own.formed.frames) in
            let kind = of_frames p.0.kind p.2 in
            manual_pool layout past h w parts f.pool p.0 p.1 kind.0 kind.1

        block : (id : Id) → contains ids id ≡ true → (at : Address) × ((b : IsBlock w at id) × (b.object.pool ≡ f.pool))
        block id there =
            let its = block_parts w f.pool id (popped_own w right once f found frame before own.formed.frames id there) in
            let b = block_is layout past h w parts own id
            (popped_live w right once f found frame before own.live.blocks id there) its.0 in (
              b.0,
              (
                b.1,
                eqb-true b.1.object.pool f.pool (sym (ap (λ o. option_map_or (λ (x : Object). x.pool == f.pool) o false) b.1.there)
                    ∙ its.1),
              ),
            )

        manual_of : (id : Id) → contains ids id ≡ true → auto w id ≡ false
        manual_of id there =
            let b = block id there in
            ap (λ o. option_map_or is_automatic o false) b.1.0.there
            ∙ ap is_automatic_body b.1.0.right.body

        row : AreRow w f.pool ids ats
        row =
            subst (AreRow w f.pool ids) (sym (noted_at w.addresses h.roots.blocks w.graph.blocks parts.blocks bs ids noted))
            (row_of w f.pool ids block (popped_once w right once f found frame before))

        are_unheld : AreUnheld layout past h w f.pool ids ats roots beside places w.graph.caches left
        are_unheld = record {
          of_pool = of_pool;
          row = row;
          manual = manual_of;
          unheld = popped_unheld w right once f found frame before;
          passes = popped_passes w right once f found frame before;
          parts = parts_left;
        }

        -- ---- the outcome

        closed_outcome : IsRightPop w line (Ok (closed_to k.key (size_of_pool are_unheld.of_pool.ours) k.value before))
        closed_outcome =
            frees_are_right layout h trail none (call.Pop name frame) w line past parts own reach time is_own f.pool ids ats roots beside
            places w.graph.caches left are_unheld
            (sym (ap (λ m. moves_of_pop w m frame) named
            ∙ ap (λ (o : Option ℕ). moves_of_frame w f (required o refusal.BadIndex)) opened))
            (λ addresses segments pairs moved.
            ap (λ (x : World). act_pop x name frame) moved
            ∙ ap (λ m. m >>= (λ (g : PoolFrames). frame_in g frame >>= (λ n.
            done (with_graph (world_row w addresses segments pairs)
            (graph_popped (world_row w addresses segments pairs).graph g frame n)))))
            named
            ∙ ap (λ (o : Option ℕ). required o refusal.BadIndex >>= (λ n.
            done (with_graph (world_row w addresses segments pairs)
            (graph_popped (world_row w addresses segments pairs).graph f frame n)))) opened)

        abbrev sized : Option ℕ → PoolState → Checked (Moved F (Unit {0}))
        sized o p = required o refusal.NotABlock >>= (λ size. Ok (closed_to k.key size p before))

        popped_outcome : IsRightPop w line (sized (slice_get h.sizes k.key) (snc.state_of h.beside.frames k.key))
        popped_outcome =
            subst (λ p. IsRightPop w line (sized (slice_get h.sizes k.key) p))
            (sym (ap (λ o. option_map_or (λ (p : PoolState). p) o new_pool) is.there))
            (subst (λ o. IsRightPop w line (sized o k.value))
            (sym (ap (slice_get h.sizes) (sym pool_is) ∙ size_kept layout past h w parts f.pool are_unheld.of_pool)) closed_outcome)

      -- ---- the check of the frame

      abbrev next : Option ℕ → Checked (Moved F (Unit {0}))
      next o = required o refusal.BadIndex >>= (λ before.
          required (slice_get h.sizes k.key) refusal.NotABlock >>= (λ size. Ok (frame_closed h trail k.key size frame before)))

      of_frame : (o : Option ℕ) → slice_get f.opened frame ≡ o → IsRightPop w line (next o)
      of_frame None e =
          refused_outcome refusal.BadIndex
          (ap (λ m. m >>= (λ (g : PoolFrames). frame_in g frame >>= (λ n. done (with_graph w (graph_popped w.graph g frame n))))) named
          ∙ ap (λ (o : Option ℕ). required o refusal.BadIndex >>= (λ n. done (with_graph w (graph_popped w.graph f frame n)))) e)
      of_frame (Some before) e = popped_outcome before e

      named_outcome : IsRightPop w line (next (slice_get k.value.frames frame))
      named_outcome =
          subst (λ fs. IsRightPop w line (next (slice_get fs frame))) (sym is.listed.opened)
          (of_frame (slice_get f.opened frame) refl)

    -- ---- the check of the pool

    of_pool_named : (x : Checked (Kept PoolState)) (y : Checked PoolFrames) → model.frames_named w name ≡ y
        → Same (IsFramesFound h w) x y
        → IsRightPop w line (x >>= (λ (of : Kept PoolState). required (slice_get of.value.frames frame) refusal.BadIndex >>= (λ before.
        required (slice_get h.sizes of.key) refusal.NotABlock >>= (λ size. Ok (frame_closed h trail of.key size frame before)))))
    of_pool_named x y theirs (fits {a = k} {b = f} found) = named_outcome k f found theirs
    of_pool_named x y theirs (same.refused {why = why}) =
        refused_outcome why (ap (λ m. m >>= (λ (g : PoolFrames). frame_in g frame >>= (λ n.
        done (with_graph w (graph_popped w.graph g frame n))))) theirs)

    pop_outcome : IsRightPop w line (frame_popped h trail name frame)
    pop_outcome =
        of_pool_named (frames_named h name) (model.frames_named w name) refl (frames_same layout past h w parts name)

-- `pop` is right, where the trail has no moves before it
pub pop_is_right : {F : Type 0} (layout : F → Layout) (h : HeapState F) (trail : Moves) (none : trail.moves ≡ []) (name : Name)
    (frame : ℕ) (result : Checked (Unit {0})) (after : HeapState F) (trail_after : Moves)
    → ComesMoving h trail (frame_popped h trail name frame) result after trail_after
    → IsRight layout h (call.Pop name frame) trail_after.moves (answer_to says_ok result) after
pop_is_right layout h trail none name frame result after trail_after comes =
    outcome_is_right layout h trail none (call.Pop name frame) (frame_popped h trail name frame) result after trail_after comes
    (pop_outcome layout h trail none name frame)
