-- Worlds in which several manual blocks that nobody holds are freed one after the other, each segment being given back directly after the
-- free that empties it. The worlds in between are no ends of steps, so nothing here asks that a history reaches one.
use Rattle.std.proofs.Common.{◌≡◌, ◌∙◌, ℕ, ◌+◌, ◌≤◌, Bool, true, false, true≢false, refl, sym, ap, subst, List, [], ◌∷◌, ◌++◌, map, Option, Some, None, Contains, arith}
use Rattle.std.proofs.lemmas.Bool.{and_from, and_parts, eq-eqb}
use Rattle.std.proofs.lemmas.List.{append-nil, append_assoc}
use Rattle.std.proofs.lemmas.Option.{slice_get-map}
use Rattle.std.specs.Prelude.{◌==◌, ◌&&◌, ◌≢◌, not, if◌then◌else◌, option_map}
use Rattle.std.specs.List.{list_all}
use Rattle.std.specs.Option.{option_map_or}
use Rattle.mps_base.specs.Address.{Address, Id, Word, address_of_word, word_of}
use Rattle.mps_base.specs.Run.{Run, Covers}
use Rattle.mps_base.specs.Segment.{Segment, segment_over, without_segment, words_of_segment}
use Rattle.mps_base.specs.Trail.{Moves}
use Rattle.mps_base.specs.declared.moves.Move.{Move}
use Rattle.mps_extents.proofs.ContainedRuns.{contains_without}
use Rattle.mps_extents.specs.Table.{bit}
use Rattle.mps_abstract.proofs.Lists.{contains_here, contains_later}
use Rattle.mps_laws.proofs.Lookups.{entry_at-set_other}
use Rattle.mps_laws.proofs.Positions.LaidOut.{HomeOf}
use Rattle.mps_laws.proofs.Positions.LegalMoves.{HasLayout, different}
use Rattle.mps_laws.proofs.Positions.Occupancy.{OfBlock, Shape, occupancy_of, run_of, shape_of}
use Rattle.mps_laws.proofs.Positions.Segments.{IsAmong, among_aligned, among_without, found_segment}
use Rattle.mps_laws.proofs.QuietSteps.{IsSound}
use Rattle.mps_laws.proofs.Replays.FreeSteps.{object_replayed}
use Rattle.mps_laws.proofs.Sound.HeldIds.{All}
use Rattle.mps_laws.proofs.Sound.SoundChanges.{gone_sound, lives_otherwise, others_live, sound_again}
use Rattle.mps_laws.proofs.Sound.SoundGraph.{IsSoundGraph, all-both, all-weaker, auto}
use Rattle.mps_model.proofs.Cutting.{world_after_moves-append}
use Rattle.mps_model.specs.Effect.{with_address, world_after_moves}
use Rattle.mps_model.specs.Graph.{Cache, PoolFrames, Slots, contains, entry_at, ids_in_blocks, occurrences, without_named}
use Rattle.mps_model.specs.History.{free_of_object, moves_of_frees}
use Rattle.mps_model.specs.WellFormed.{is_live_automatic}
use Rattle.mps_model.specs.World.{World, ids_in_pairs, is_any_size_kind, is_copying_pool, is_empty_segment, is_live, pool_is}
use Rattle.mps_pools.specs.Manual.{any_size, block_removed, is_unused, moves_freed, segs_after_free}
use Rattle.mps_seg.specs.Segs.{SegsState}
use Rattle.mps_trace_laws.proofs.Fix.Ranks.{was_set}
use Rattle.mps_trace_laws.specs.Image.Memory.{Lies}
use Rattle.mps_heap_spec.specs.Manual.{Freeing, one_freed, row_freed}
use Rattle.mps_refinement.specs.StandsFor.{AreOfFlip, StandsAt, Time, address_of_id, setting_at}
use Rattle.mps_refinement.proofs.Calls.Frees.{moves_are}
use Rattle.mps_refinement.proofs.Lookups.Blocks.{begins_at_object}
use Rattle.mps_refinement.proofs.Lookups.ManualBlocks.{IsBlock}
use Rattle.mps_refinement.proofs.Parts.CachesStill.{none_equal}
use Rattle.mps_refinement.proofs.Parts.FreedSegments as freed
use Rattle.mps_refinement.proofs.Parts.FreedSegments.{HasShapes, freed_is, segments_freed}
use Rattle.mps_refinement.proofs.Parts.PointWritten.{none_set}
use Rattle.mps_refinement.proofs.Parts.ReservedImage.{block_covers}
use Rattle.mps_refinement.proofs.Parts.StillHeld.{held_others, other_than, target_others}
use Rattle.mps_refinement.proofs.Worlds.Appending.{freed_appends, fresh}
use Rattle.mps_refinement.proofs.Worlds.OneFree as one
use Rattle.mps_refinement.proofs.Worlds.OneFree.{AreOutside, one_gone}

-- ---- worlds

-- the world without some manual blocks, which are freed one after the other
abbrev pub all_gone : World → List Id → World
all_gone w [] = w
all_gone w (id ∷ ids) = all_gone (one_gone w id) ids

-- a world with these addresses, segments and pairs of dependents
abbrev pub world_row : World → List (Option Address) → List Segment → List (Id × Id) → World
world_row w addresses segments dependents =
    record w { graph = record w.graph { dependents = dependents }; addresses = addresses; segments = segments }

-- frees change nothing else
pub gone_as_row : (w : World) (ids : List Id)
    → all_gone w ids ≡ world_row w (all_gone w ids).addresses (all_gone w ids).segments (all_gone w ids).graph.dependents
gone_as_row w [] = refl
gone_as_row w (id ∷ ids) = gone_as_row (one_gone w id) ids

-- pairs of dependents stay that have none of them
pub gone_paired : (w : World) (ids : List Id) (pairs : List (Id × Id)) → w.graph.dependents ≡ pairs
    → ((id : Id) → contains ids id ≡ true → without_named pairs id ≡ pairs) → (all_gone w ids).graph.dependents ≡ pairs
gone_paired w [] pairs are each = are
gone_paired w (id ∷ ids) pairs are each =
    gone_paired (one_gone w id) ids pairs (ap (λ ps. without_named ps id) are ∙ each id (contains_here id ids))
    (λ j there. each j (contains_later id ids j there))

-- an object that isn't among them stays where it is
pub others_still : (w : World) (ids : List Id) (j : Id) → ((id : Id) → contains ids id ≡ true → id ≢ j)
    → entry_at (all_gone w ids).addresses j ≡ entry_at w.addresses j
others_still w [] j other = refl
others_still w (id ∷ ids) j other =
    others_still (one_gone w id) ids j (λ n there. other n (contains_later id ids n there))
    ∙ entry_at-set_other w.addresses id j None (other id (contains_here id ids))

-- a world whose tables of blocks, caches and frames have these blocks
abbrev pub world_holding : World → List Slots → List Cache → List PoolFrames → World
world_holding w blocks caches frames =
    record w { graph = record w.graph { blocks = blocks; caches = caches; frames = frames } }

-- whether blocks are held says nothing of where they lie
pub gone_holding : (w : World) (blocks : List Slots) (caches : List Cache) (frames : List PoolFrames) (ids : List Id)
    → all_gone (world_holding w blocks caches frames) ids ≡ world_holding (all_gone w ids) blocks caches frames
gone_holding w blocks caches frames [] = refl
gone_holding w blocks caches frames (id ∷ ids) = gone_holding (one_gone w id) blocks caches frames ids

-- ---- a row of blocks

-- blocks of a pool at these addresses, none of them twice
abbrev pub AreRow : World → (pool : ℕ) → List Id → List Address → Type 0
AreRow w pool [] [] = Unit {0}
AreRow w pool (id ∷ ids) (at ∷ ats) =
    ((b : IsBlock w at id) × (b.object.pool ≡ pool)) × (All (λ j. not (id == j)) ids × AreRow w pool ids ats)
AreRow w pool _ _ = ⊥

-- blocks of a pool that stand once in a list, at the addresses that they have
pub row_of : (w : World) (pool : ℕ) (ids : List Id)
    → ((id : Id) → contains ids id ≡ true → (at : Address) × ((b : IsBlock w at id) × (b.object.pool ≡ pool)))
    → ((id : Id) → occurrences ids id ≤ 1) → AreRow w pool ids (map (address_of_id w.addresses) ids)
row_of w pool [] block once = tt
row_of w pool (id ∷ ids) block once =
    let here = block id (contains_here id ids) in
    let at : here.0 ≡ address_of_id w.addresses id = sym (ap (λ o. option_map_or (λ a. a) o 0) here.1.0.address) in
    let one : ◌≡◌ {A = ℕ} (if id == id then 1 else 0) 1 = ap (λ c. if c then 1 else 0) (eq-eqb id id refl) in
    let most : occurrences (id ∷ ids) id ≤ 1 = once id in
    let none : occurrences ids id ≡ 0 = omega (arith, one, most) in (
      subst (λ a. (b : IsBlock w a id) × (b.object.pool ≡ pool)) at here.1,
      (
        none_equal id ids none,
        row_of w pool ids (λ j there. block j (contains_later id ids j there)) (λ j. let all : occurrences (id ∷ ids) j ≤ 1 = once j in
            omega (arith, all)),
      ),
    )

-- a block that isn't freed is one still
block_later : (w : World) (id : Id) (at : Address) (j : Id) (pool : ℕ) → not (id == j) ≡ true
    → (b : IsBlock w at j) × (b.object.pool ≡ pool) → (b : IsBlock (one_gone w id) at j) × (b.object.pool ≡ pool)
block_later w id at j pool other b = (
  record {
    address = entry_at-set_other w.addresses id j None (λ same. absurd_of same) ∙ b.0.address;
    object = b.0.object;
    there = b.0.there;
    pool = b.0.pool;
    of = b.0.of;
    right = record { words = b.0.right.words; body = b.0.right.body; kind = b.0.right.kind; size = b.0.right.size };
  },
  b.1,
)
  where
    absurd_of : id ≡ j → ⊥
    absurd_of same =
        true≢false (sym other ∙ ap not (eq-eqb id j same))

row_later : (w : World) (id : Id) (pool : ℕ) (ids : List Id) (ats : List Address) → All (λ j. not (id == j)) ids → AreRow w pool ids ats
    → AreRow (one_gone w id) pool ids ats
row_later w id pool [] [] all row = tt
row_later w id pool [] (at ∷ ats) all row = absurd row
row_later w id pool (j ∷ ids) [] all row = absurd row
row_later w id pool (j ∷ ids) (at ∷ ats) all row =
    let parts = and_parts (not (id == j)) (list_all (λ k. not (id == k)) ids) all in
    (block_later w id at j pool parts.0 row.0, (row.1.0, row_later w id pool ids ats parts.1 row.1.1))

-- ---- what is left

-- the segments stand for the words of a world that is laid out, whose segments of any sizes aren't condemned
pub record AreLeft (time : Time) (s : SegsState) (w : World) : Type 0 where
  pub image : StandsAt time s w
  pub segments : s.segments ≡ w.segments
  pub shapes : HasShapes w
  pub flip : AreOfFlip time.at_flip w
  pub laid : HasLayout (w.grains + 1) w
  pub outside : AreOutside w

-- what frees keep of the segments
pub record AreFewer (s after : SegsState) (held held_then : List Segment) : Type 0 where
  pub grains : after.grains ≡ s.grains
  pub limit : after.limit ≡ s.limit
  pub words : after.words ≡ s.words
  pub summaries : after.summaries ≡ s.summaries
  pub condemned : after.condemned ≡ s.condemned
  pub kept : (n : Word) → bit s.marks.kept n ≡ false → bit after.marks.kept n ≡ false
  pub exact : (n : Word) → bit after.marks.exact n ≡ true → bit s.marks.exact n ≡ true
  pub weak : (n : Word) → bit after.marks.weak n ≡ true → bit s.marks.weak n ≡ true
  pub covered : (r : Run) → Contains after.covered r → Contains s.covered r
  pub among : (t : Segment) → IsAmong t held_then → IsAmong t held

none_fewer : (s : SegsState) (held : List Segment) → AreFewer s s held held
none_fewer s held = record {
  grains = refl;
  limit = refl;
  words = refl;
  summaries = refl;
  condemned = refl;
  kept = λ n is. is;
  exact = λ n is. is;
  weak = λ n is. is;
  covered = λ r there. there;
  among = λ t there. there;
}

still_fewer : (s between after : SegsState) (held held_between held_then : List Segment) → AreFewer s between held held_between
    → AreFewer between after held_between held_then → AreFewer s after held held_then
still_fewer s between after held held_between held_then f g = record {
  grains = g.grains ∙ f.grains;
  limit = g.limit ∙ f.limit;
  words = g.words ∙ f.words;
  summaries = g.summaries ∙ f.summaries;
  condemned = g.condemned ∙ f.condemned;
  kept = λ n is. g.kept n (f.kept n is);
  exact = λ n is. f.exact n (g.exact n is);
  weak = λ n is. f.weak n (g.weak n is);
  covered = λ r there. f.covered r (g.covered r there);
  among = λ t there. f.among t (g.among t there);
}

one_fewer : (s : SegsState) (held : List Segment) (at : Address) (t : Segment) (given : Bool)
    → AreFewer s (segments_freed s at t given) held (if given then without_segment held t.base else held)
one_fewer s held at t true = record {
  grains = refl;
  limit = refl;
  words = refl;
  summaries = refl;
  condemned = refl;
  kept = λ n is. none_set s.marks.kept (word_of at) n is;
  exact = λ n is. was_set s.marks.exact (word_of at) n is;
  weak = λ n is. was_set s.marks.weak (word_of at) n is;
  covered = λ r there. contains_without (word_of at) r s.covered there;
  among = λ u there. among_without t.base u held there;
}
one_fewer s held at t false = record {
  grains = refl;
  limit = refl;
  words = refl;
  summaries = refl;
  condemned = refl;
  kept = λ n is. none_set s.marks.kept (word_of at) n is;
  exact = λ n is. was_set s.marks.exact (word_of at) n is;
  weak = λ n is. was_set s.marks.weak (word_of at) n is;
  covered = λ r there. contains_without (word_of at) r s.covered there;
  among = λ u there. there;
}

-- ---- one free

-- what some blocks leave that are freed: the segments stand for the world without them, and the moves lead there
pub record AreFreed (time : Time) (f : Freeing) (w : World) (due : List Move) (then_f : Freeing) (v : World) : Type 0 where
  pub left : AreLeft time then_f.segs v
  pub fewer : AreFewer f.segs then_f.segs w.segments v.segments
  pub moved : world_after_moves w due ≡ v
  pub moves : then_f.trail.moves ≡ f.trail.moves ++ due

module _ (time : Time) (pool size : ℕ) where
  module _ (f : Freeing) (w : World) (left : AreLeft time f.segs w) (any : (size == any_size) ≡ pool_is is_any_size_kind w pool)
      (staying : is_copying_pool w pool ≡ false) (id : Id) (at : Address) (b : IsBlock w at id) (own : b.object.pool ≡ pool) where
    abbrev s : SegsState
    s = f.segs

    begins : Lies w.graph.objects w.addresses id 0 b.object (word_of at + 0)
    begins = record {
      at = at;
      address = b.address;
      object = b.there;
      within = left.image.placed.positive id at b.object b.address b.there;
      is = refl;
    }

    covers : Covers (run_of (occupancy_of w) (OfBlock id)) (word_of at + 0)
    covers = block_covers (occupancy_of w) w.graph.objects w.addresses id 0 b.object (word_of at + 0) refl refl begins

    home : HomeOf (occupancy_of w) (OfBlock id)
    home = let c = covers in left.laid.placed.homes (OfBlock id) (omega (arith, c.0, c.1))

    abbrev t : Segment
    t = home.segment

    of_pool : t.pool ≡ pool
    of_pool =
        home.of_pool
        ∙ ap (λ o. option_map_or (λ (x : Shape). x.pool) o 0) (slice_get-map shape_of w.graph.objects id ∙ ap (option_map shape_of) b.there)
        ∙ own

    over : segment_over w.segments at ≡ Some t
    over =
        let c = covers in
        let inside : Covers (words_of_segment t) (word_of at + 0) = (omega (arith, home.above, c.0), omega (arith, home.below, c.1)) in
        let aligned = (left.image.placed.address id at b.address).aligned in
        let same : address_of_word (word_of at + 0) ≡ at = omega (arith, aligned) in
        ap (segment_over w.segments) (sym same)
        ∙ found_segment 1 (w.grains + 1) w.segments t left.laid.ascending left.laid.aligned home.held (word_of at + 0) inside

    abbrev given : Bool
    given = size == any_size && is_unused (block_removed s at).covered t

    is_given : (pool_is is_any_size_kind w t.pool && is_empty_segment (with_address w id None) t) ≡ given
    is_given =
        let aligned = among_aligned t w.segments left.laid.aligned home.held in
        ap (λ p. pool_is is_any_size_kind w p && is_empty_segment (with_address w id None) t) of_pool
        ∙ ap (λ c. c && is_empty_segment (with_address w id None) t) (sym any)
        ∙ ap (λ c. (size == any_size) && c)
        (sym (freed.unused_is time s w left.image left.segments left.shapes left.flip at id b t aligned))

    manual : auto w id ≡ false
    manual = freed.not_automatic time s w left.image left.segments left.shapes left.flip at id b

    abbrev differ : (i j : ℕ) (a : Address) → entry_at w.addresses i ≡ Some a → entry_at w.addresses j ≡ Some a → i ≡ j
    differ = different (w.grains + 1) (occupancy_of w) left.laid

    abbrev v : World
    v = one.world_moved w left.outside id at b.address manual differ t over given is_given

    abbrev due : List Move
    due = one.moves_freed w left.outside id at b.address manual differ t over given is_given

    due_is : free_of_object w id ≡ due
    due_is = one.free_of_object_is w left.outside id at b.address manual differ t over given is_given

    moved : world_after_moves w due ≡ v
    moved = one.moved_is w left.outside id at b.address manual differ t over given is_given

    laid_then : HasLayout (w.grains + 1) v
    laid_then =
        subst (HasLayout (w.grains + 1)) (ap (world_after_moves w) due_is ∙ moved)
        (object_replayed (w.grains + 1) 0 w left.laid id).layout

    not_copying : is_copying_pool w t.pool ≡ false
    not_copying = ap (is_copying_pool w) of_pool ∙ staying

    abbrev then_f : Freeing
    then_f = record { segs = segments_freed s at t given; trail = moves_freed size s f.trail (record { 0 = at }) }

    freed_so : one_freed size f at ≡ then_f
    freed_so =
        ap (λ c. if c then record { segs = segs_after_free size s at; trail = moves_freed size s f.trail (record { 0 = at }) } else f)
        (begins_at_object (setting_at time s w) w.addresses left.image.placed s left.image.runs.blocks id at b.object b.address b.there)
        ∙ ap (λ x. record { segs = x; trail = moves_freed size s f.trail (record { 0 = at }) })
        (freed_is size s at t (ap (λ ss. segment_over ss at) left.segments ∙ over))

    segments_so : (g : Bool) → (segments_freed s at t g).segments ≡ (if g then without_segment w.segments t.base else w.segments)
    segments_so true = ap (λ ss. without_segment ss t.base) left.segments
    segments_so false = left.segments

    fewer_by : (g : Bool) → AreFewer s (segments_freed s at t g) w.segments (if g then without_segment w.segments t.base else w.segments)
    fewer_by g = one_fewer s w.segments at t g

    left_then : AreLeft time (segments_freed s at t given) v
    left_then =
        let flip = freed.flip_after time s w left.image left.segments left.shapes left.flip at id b w.graph.blocks v.segments left.flip in
        record {
          image = freed.image_after time s w left.image left.segments left.shapes left.flip at id b t given v home.held not_copying refl
              refl refl left.laid laid_then;
          segments = segments_so given;
          shapes = record { right = left.shapes.right; lawful = left.shapes.lawful; reserved = left.shapes.reserved };
          flip = record { made = flip.made; still = flip.still };
          laid = laid_then;
          outside = λ c running u there any_kind. left.outside c running u ((fewer_by given).among u there) any_kind;
        }

    -- a free
    one_is_freed : AreFreed time f w (free_of_object w id) (one_freed size f at) (one_gone w id)
    one_is_freed =
        subst (λ ms. AreFreed time f w ms (one_freed size f at) (one_gone w id)) (sym due_is)
        (subst (λ x. AreFreed time f w due x (one_gone w id)) (sym freed_so)
        (subst (AreFreed time f w due then_f)
        (sym (one.gone_is w left.outside id at b.address manual differ t over given is_given)) (record {
          left = left_then;
          fewer = fewer_by given;
          moved = moved;
          moves = ap (λ (x : Moves). x.moves) (freed_appends size s f.trail (record { 0 = at }))
              ∙ ap (λ ms. f.trail.moves ++ ms)
              (moves_are size s (fresh f.trail) at t refl (ap (λ ss. segment_over ss at) left.segments ∙ over));
        })))

  -- ---- a row of frees

  pub row_is_freed : (ids : List Id) (ats : List Address) (f : Freeing) (w : World) → AreLeft time f.segs w
      → (size == any_size) ≡ pool_is is_any_size_kind w pool → is_copying_pool w pool ≡ false → AreRow w pool ids ats
      → AreFreed time f w (moves_of_frees w ids) (row_freed size f ats) (all_gone w ids)
  row_is_freed [] [] f w left any staying row = record {
    left = left;
    fewer = none_fewer f.segs w.segments;
    moved = refl;
    moves = sym (append-nil f.trail.moves);
  }
  row_is_freed [] (at ∷ ats) f w left any staying row = absurd row
  row_is_freed (id ∷ ids) [] f w left any staying row = absurd row
  row_is_freed (id ∷ ids) (at ∷ ats) f w left any staying row =
      let first = one_is_freed f w left any staying id at row.0.0 row.0.1 in
      let rest = row_is_freed ids ats (one_freed size f at) (one_gone w id) first.left any staying
      (row_later w id pool ids ats row.1.0 row.1.1) in
      record {
        left = rest.left;
        fewer = still_fewer f.segs (one_freed size f at).segs (row_freed size (one_freed size f at) ats).segs w.segments
            (one_gone w id).segments (all_gone (one_gone w id) ids).segments first.fewer rest.fewer;
        moved = world_after_moves-append w (free_of_object w id)
            (moves_of_frees (world_after_moves w (free_of_object w id)) ids)
            ∙ ap (λ u. world_after_moves u (moves_of_frees u ids)) first.moved ∙ rest.moved;
        moves = rest.moves ∙ ap (λ ms. ms ++ moves_of_frees (one_gone w id) ids) first.moves
            ∙ append_assoc f.trail.moves (free_of_object w id) (moves_of_frees (one_gone w id) ids)
            ∙ ap (λ u. f.trail.moves ++ (free_of_object w id ++ moves_of_frees u ids)) (sym first.moved);
      }

-- ---- what holds nobody goes soundly

-- a manual block is in no place, in no cache and in no pair of a transform
pub record IsLoose (w : World) (id : Id) : Type 0 where
  pub manual : auto w id ≡ false
  pub unheld : All (λ j. not (id == j)) (ids_in_blocks w.graph)
  pub unpaired : All (λ j. not (id == j)) (ids_in_pairs w.state)

loose_later : (w : World) (id j : Id) → IsLoose w j → IsLoose (one_gone w id) j
loose_later w id j l = record { manual = l.manual; unheld = l.unheld; unpaired = l.unpaired }

-- what is registered is live still
registered_later : (w : World) (id : Id) → IsSoundGraph w → auto w id ≡ false
    → All (is_live_automatic (one_gone w id)) w.graph.registered
registered_later w id g manual =
    all-weaker (is_live_automatic w) (is_live_automatic (one_gone w id)) (λ j passes.
    let parts = and_parts (is_live w j) (auto w j) passes in
    let live = others_live w id j (and_from (is_live w j) (not (id == j)) parts.0 (other_than w g id manual j parts.1)) in
    and_from (is_live (with_address w id None) j) (auto w j) live parts.1)
    w.graph.registered g.registered

graph_later : (w : World) (id : Id) → auto w id ≡ false → IsSoundGraph w → IsSoundGraph (one_gone w id)
graph_later w id manual g = record {
  objects = g.objects;
  reservations = g.reservations;
  points = g.points;
  slots = g.slots;
  words = g.words;
  blocks = g.blocks;
  registered = registered_later w id g manual;
  messages = g.messages;
}

module _ (w : World) (graph : IsSoundGraph w) (id : Id) (loose : IsLoose w id) where
  one_sound : IsSound w → IsSound (one_gone w id)
  one_sound sound =
      let gone = gone_sound w id sound (held_others w graph id loose.manual) loose.unheld
      (λ r j live. target_others w graph id loose.manual j) (λ r. loose.unpaired) in
      let unlinked = record (with_address w id None) { graph = (one_gone w id).graph } in
      let kept : IsSound unlinked = record {
        live = record {
          client = gone.live.client;
          blocks = gone.live.blocks;
          referred = gone.live.referred;
          transforms = gone.live.transforms;
        };
        kept = gone.kept;
        units = gone.units;
      } in
      sound_again unlinked (one_gone w id) refl refl refl refl refl kept

  one_live : All (is_live w) (ids_in_blocks w.graph) → All (is_live (one_gone w id)) (ids_in_blocks w.graph)
  one_live live =
      all-weaker (lives_otherwise w id) (is_live (with_address w id None)) (others_live w id) (ids_in_blocks w.graph)
      (all-both (is_live w) (λ j. not (id == j)) (ids_in_blocks w.graph) live loose.unheld)

abbrev pub AreLoose : World → List Id → Type 0
AreLoose w [] = Unit {0}
AreLoose w (id ∷ ids) = IsLoose w id × AreLoose w ids

all_loose_later : (w : World) (id : Id) (ids : List Id) → AreLoose w ids → AreLoose (one_gone w id) ids
all_loose_later w id [] loose = tt
all_loose_later w id (j ∷ ids) loose = (loose_later w id j loose.0, all_loose_later w id ids loose.1)

pub all_sound : (w : World) → IsSoundGraph w → (ids : List Id) → AreLoose w ids → IsSound w → IsSound (all_gone w ids)
all_sound w graph [] loose sound = sound
all_sound w graph (id ∷ ids) loose sound =
    all_sound (one_gone w id) (graph_later w id loose.0.manual graph) ids (all_loose_later w id ids loose.1)
    (one_sound w graph id loose.0 sound)

-- what is held is live still
pub all_live : (w : World) → IsSoundGraph w → (ids : List Id) → AreLoose w ids → All (is_live w) (ids_in_blocks w.graph)
    → All (is_live (all_gone w ids)) (ids_in_blocks (all_gone w ids).graph)
all_live w graph [] loose live = live
all_live w graph (id ∷ ids) loose live =
    all_live (one_gone w id) (graph_later w id loose.0.manual graph) ids (all_loose_later w id ids loose.1)
    (one_live w graph id loose.0 live)

pub loose_of : (w : World) (ids : List Id) → ((id : Id) → contains ids id ≡ true → IsLoose w id) → AreLoose w ids
loose_of w [] each = tt
loose_of w (id ∷ ids) each = (each id (contains_here id ids), loose_of w ids (λ j there. each j (contains_later id ids j there)))
