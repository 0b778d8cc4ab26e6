-- The blocks of pools of frames: each stands in a place and is of its pool, none stands in frames twice, and open frames ascend.
use Rattle.std.proofs.Common.{◌≡◌, ◌∙◌, ◌⊎◌, inl, inr, ℕ, zero, suc, ◌+◌, ◌≤◌, Bool, true, false, refl, sym, ap, subst, List, [], ◌∷◌, ◌++◌, length, Option, Some, None, Ok, arith}
use Rattle.std.proofs.lemmas.Bool.{false≢true, and_parts, and_from, eq-eqb, eqb-true}
use Rattle.std.proofs.lemmas.List.{length-map}
use Rattle.std.proofs.lemmas.Option.{same_Some, slice_get-map}
use Rattle.std.specs.Prelude.{◌==◌, ◌&&◌, if◌then◌else◌, drop, nat_lt, not, option_map, replicate, slice_get, take}
use Rattle.std.specs.Option.{option_map_or}
use Rattle.std.specs.List.{list_all, flat_map}
use Rattle.mps_base.specs.declared.names.Slot.{Slot}
use Rattle.mps_model.specs.declared.call.Call.{Call}
use Rattle.mps_model.specs.Answer.{is_block}
use Rattle.mps_model.specs.Step.{Step}
use Rattle.mps_model.specs.Graph.{Manual, Object, PoolFrames, entries, frames_changed, ids_in_caches, ids_in_frames, ids_in_places, is_automatic, object_at, occurrences, with_last}
use Rattle.mps_model.specs.World.{World, Pool, PoolKind, Collected, OneSize, AnySize, Frames, has_frames, is_live, pool_is, pool_of}
use Rattle.mps_model.specs.Checked.{Act, Checked, Found, as_blocks, block_place_in, number_named, with_graph}
use Rattle.mps_model.specs.Making.{frames_with}
use Rattle.mps_model.specs.Allocating.{committed_object, with_block_noted, with_block_place}
use Rattle.mps_model.specs.Caches.{may_have_cache}
use Rattle.mps_model.specs.Frames.{popped, pushed}
use Rattle.mps_model.specs.Transforms.{pairs_of}
use Rattle.mps_model.specs.WellFormed.{are_right_frames, are_rising, is_block_of, is_right_cache, is_right_class}
use Rattle.mps_model.specs.Reply.{act, world_from}
use Rattle.mps_model.specs.History.{judged_world, moved_world, world_after}
use Rattle.mps_changes.specs.Change.{Change, HasCacheOver, IsFoundBy, Now, Before, CellsAre, BlockWordIs, BlocksMade, PlaceEmptied, Allocated, BlockUncached, BlockCached, FramePushed, FramesPopped, PoolMade, Committed, Substituted, ForAct, accepted, refused}
use Rattle.mps_changes.proofs.ActChanges.{act_changes_so}
use Rattle.mps_changes.proofs.Checks.{cache_named-is}
use Rattle.mps_changes.proofs.Frames.{all_counted, blocks_in, counted_passes, cut_passes, each_changed, frames_in, none_contained, noted_more, places_keep, popped_blocks_pass, popped_occurs, pushed_blocks}
use Rattle.mps_changes.proofs.OneMore.{HasOneMore, occurrences-append, occurs_more, parts_pass, place_emptied, place_filled}
use Rattle.mps_changes.proofs.Written.{written_length}
use Rattle.mps_laws.proofs.Acts.{cleared_kept, word_kept}
use Rattle.mps_laws.proofs.Caches.{AreRightCaches, caches_moved, shapes_of}
use Rattle.mps_laws.proofs.FoundBy.{found_by}
use Rattle.mps_laws.proofs.Lookups.{length-with_last, map-with_last, slice_get-at_last, slice_get-kept}
use Rattle.mps_laws.proofs.OpenFrames.{rising_cut, rising_last, rising_more}
use Rattle.mps_laws.proofs.OnePlace.{AreOnce, later_made, one_new, table_added}
use Rattle.mps_laws.proofs.Positions.LaidOut.{kind_in}
use Rattle.mps_laws.proofs.Positions.LegalMoves.{cells_kept}
use Rattle.mps_laws.proofs.Positions.Occupancy.{Shape, shape_of}
use Rattle.mps_laws.proofs.Replays.FreeSteps.{BlocksAreLive}
use Rattle.mps_laws.proofs.SameArena.{judged_alone, moved_alone}
use Rattle.mps_laws.proofs.Sound.PoolKinds.{kind_in-more}
use Rattle.mps_laws.proofs.Sound.Substituting.{shapes_substituted}
use Rattle.mps_laws.proofs.Sound.SoundGraph.{All, IsSoundGraph, all-weaker, each-at, each-weaker, manual, manual_parts}

-- ---- the frames of pools, over shapes of objects, pools and places

abbrev is_of : List Shape → (pool id : ℕ) → Bool
is_of shapes pool id = option_map_or (λ (s : Shape). s.pool == pool) (slice_get shapes id) false

abbrev is_right_of : List Shape → List Pool → PoolFrames → Bool
is_right_of shapes pools f =
    kind_in has_frames pools f.pool && (list_all (is_of shapes f.pool) f.blocks && are_rising 0 (length f.blocks) f.opened)

pub record AreFramesOf (shapes : List Shape) (pools : List Pool) (places : List ℕ) (frames : List PoolFrames) : Type 0 where
  pub each : list_all (is_right_of shapes pools) frames ≡ true
  pub once : AreOnce (length shapes) (blocks_in frames)
  pub placed : (j : ℕ) → 1 ≤ occurrences (blocks_in frames) j → 1 ≤ occurrences places j

abbrev pub AreRightFrames : World → Type 0
AreRightFrames w = AreFramesOf (shapes_of w) w.pools (ids_in_places w.graph) w.graph.frames

-- a fact of each of the frames of one pool, by its parts
module _ (shapes shapes' : List Shape) (pools pools' : List Pool)
    (same_shapes : (i : ℕ) (s : Shape) → slice_get shapes i ≡ Some s → slice_get shapes' i ≡ Some s)
    (same_pools : (n : ℕ) → kind_in has_frames pools n ≡ true → kind_in has_frames pools' n ≡ true) where
  of_still : (pool id : ℕ) → is_of shapes pool id ≡ true → is_of shapes' pool id ≡ true
  of_still pool id h = by_shape (slice_get shapes id) refl h
    where
      by_shape : (o : Option Shape) → slice_get shapes id ≡ o → option_map_or (λ (s : Shape). s.pool == pool) o false ≡ true
          → is_of shapes' pool id ≡ true
      by_shape None e k = absurd (false≢true k)
      by_shape (Some s) e k = ap (λ o. option_map_or (λ (t : Shape). t.pool == pool) o false) (same_shapes id s e) ∙ k

  right_still : (f : PoolFrames) → is_right_of shapes pools f ≡ true → is_right_of shapes' pools' f ≡ true
  right_still f h =
      let rising = are_rising 0 (length f.blocks) f.opened in
      let first = and_parts (kind_in has_frames pools f.pool) (list_all (is_of shapes f.pool) f.blocks && rising) h in
      let rest = and_parts (list_all (is_of shapes f.pool) f.blocks) rising first.1 in
      and_from (kind_in has_frames pools' f.pool) (list_all (is_of shapes' f.pool) f.blocks && rising) (same_pools f.pool first.0)
      (and_from (list_all (is_of shapes' f.pool) f.blocks) rising
      (all-weaker (is_of shapes f.pool) (is_of shapes' f.pool) (of_still f.pool) f.blocks rest.0) rest.1)

  -- the same frames, where there are no fewer objects, and what stood in places stands in them
  pub frames_still : (places places' : List ℕ) (frames : List PoolFrames) → length shapes ≤ length shapes'
      → ((j : ℕ) → 1 ≤ occurrences (blocks_in frames) j → 1 ≤ occurrences places j → 1 ≤ occurrences places' j)
      → AreFramesOf shapes pools places frames → AreFramesOf shapes' pools' places' frames
  frames_still places places' frames more still h = record {
    each = each-weaker (is_right_of shapes pools) (is_right_of shapes' pools') right_still frames h.each;
    once = record {
      once = h.once.once;
      below = later_made (length shapes) (length shapes') more (blocks_in frames) h.once.below;
    };
    placed = λ j some. still j some (h.placed j some);
  }

-- what stands in frames is of a pool of frames
in_frames : (shapes : List Shape) (pools : List Pool) (fs : List PoolFrames) (j : ℕ) → list_all (is_right_of shapes pools) fs ≡ true
    → 1 ≤ occurrences (blocks_in fs) j → option_map_or (λ (s : Shape). kind_in has_frames pools s.pool) (slice_get shapes j) false ≡ true
in_frames shapes pools [] j all some = absurd (omega (arith, some))
in_frames shapes pools (f ∷ fs) j all some =
    let parts = and_parts (is_right_of shapes pools f) (list_all (is_right_of shapes pools) fs) all in
    let rising = are_rising 0 (length f.blocks) f.opened in
    let first = and_parts (kind_in has_frames pools f.pool) (list_all (is_of shapes f.pool) f.blocks && rising) parts.0 in
    let rest = and_parts (list_all (is_of shapes f.pool) f.blocks) rising first.1 in
    of_count (occurrences f.blocks j) refl first.0 rest.0 (in_frames shapes pools fs j parts.1)
    (let whole = occurrences-append j f.blocks (blocks_in fs) in omega (arith, whole, some))
  where
    by_shape : (o : Option Shape) → kind_in has_frames pools f.pool ≡ true
        → option_map_or (λ (s : Shape). s.pool == f.pool) o false ≡ true
        → option_map_or (λ (s : Shape). kind_in has_frames pools s.pool) o false ≡ true
    by_shape None kind own = absurd (false≢true own)
    by_shape (Some s) kind own = ap (kind_in has_frames pools) (eqb-true s.pool f.pool own) ∙ kind

    of_count : (n : ℕ) → occurrences f.blocks j ≡ n → kind_in has_frames pools f.pool ≡ true
        → list_all (is_of shapes f.pool) f.blocks ≡ true
        → (1 ≤ occurrences (blocks_in fs) j
        → option_map_or (λ (s : Shape). kind_in has_frames pools s.pool) (slice_get shapes j) false ≡ true)
        → 1 ≤ n + occurrences (blocks_in fs) j
        → option_map_or (λ (s : Shape). kind_in has_frames pools s.pool) (slice_get shapes j) false ≡ true
    of_count zero e kind own later some = later (omega (arith, some))
    of_count (suc n) e kind own later some =
        by_shape (slice_get shapes j) kind (counted_passes (is_of shapes f.pool) f.blocks j own (omega (arith, e)))

-- ---- kinds of pools

no_cache_over_frames : (k : PoolKind) → may_have_cache k ≡ true → has_frames k ≡ false
no_cache_over_frames (Collected kind) h = absurd (false≢true h)
no_cache_over_frames (OneSize words) h = absurd (false≢true h)
no_cache_over_frames AnySize h = refl
no_cache_over_frames Frames h = absurd (false≢true h)

no_frames_under : (w : World) (pool : ℕ) → pool_is may_have_cache w pool ≡ true → pool_is has_frames w pool ≡ false
no_frames_under w pool h = of_pool (slice_get w.pools pool) h
  where
    of_pool : (o : Option Pool) → option_map_or (λ (p : Pool). may_have_cache p.kind) o false ≡ true
        → option_map_or (λ (p : Pool). has_frames p.kind) o false ≡ false
    of_pool None k = refl
    of_pool (Some p) k = no_cache_over_frames p.kind k

under_cache : (w : World) (pool : ℕ) → AreRightCaches w → HasCacheOver w pool → pool_is has_frames w pool ≡ false
under_cache w pool right c =
    let one = and_parts (pool_is may_have_cache w c.cache.value.pool)
    (list_all (is_right_class w c.cache.value.pool) c.cache.value.classes)
    (each-at (is_right_cache w) w.graph.caches c.cache.number c.cache.value right c.there) in
    ap (pool_is has_frames w) c.is ∙ no_frames_under w c.cache.value.pool one.0

-- a block of a pool without frames stands in none
not_framed : (w : World) (id : ℕ) → AreRightFrames w → pool_is has_frames w (pool_of w id) ≡ false
    → 1 ≤ occurrences (ids_in_frames w.graph) id → ⊥
not_framed w id h other some =
    of_object (object_at w.graph id) other
    (ap (λ o. option_map_or (λ (s : Shape). kind_in has_frames w.pools s.pool) o false) (sym (slice_get-map shape_of w.graph.objects id))
    ∙ in_frames (shapes_of w) w.pools w.graph.frames id h.each some)
  where
    of_object : (o : Option Object) → pool_is has_frames w (option_map_or (λ (x : Object). x.pool) o 0) ≡ false
        → option_map_or (λ (s : Shape). kind_in has_frames w.pools s.pool) (option_map shape_of o) false ≡ true → ⊥
    of_object None e k = false≢true k
    of_object (Some x) e k = false≢true (sym e ∙ k)

-- ---- acts

-- a pool is made
pool_added : (shapes : List Shape) (pools : List Pool) (places : List ℕ) (frames : List PoolFrames) (p : Pool)
    → AreFramesOf shapes pools places frames
    → AreFramesOf shapes (with_last pools p) places (frames_with frames p.kind (length pools))
pool_added shapes pools places frames p h = of_kind p.kind refl
  where
    still : AreFramesOf shapes (with_last pools p) places frames
    still = frames_still shapes shapes pools (with_last pools p) (λ i s e. e) (λ n k. kind_in-more has_frames pools p n k) places places
        frames (omega arith) (λ j some there. there) h

    new : PoolFrames
    new = record { pool = length pools; blocks = []; opened = [] }

    no_block : (fs : List PoolFrames) → blocks_in (with_last fs new) ≡ blocks_in fs
    no_block [] = refl
    no_block (f ∷ fs) = ap (λ ids. f.blocks ++ ids) (no_block fs)

    each_last : (fs : List PoolFrames) → list_all (is_right_of shapes (with_last pools p)) fs ≡ true
        → is_right_of shapes (with_last pools p) new ≡ true
        → list_all (is_right_of shapes (with_last pools p)) (with_last fs new) ≡ true
    each_last [] all one = and_from (is_right_of shapes (with_last pools p) new) true one refl
    each_last (f ∷ fs) all one =
        let parts = and_parts (is_right_of shapes (with_last pools p) f) (list_all (is_right_of shapes (with_last pools p)) fs) all in
        and_from (is_right_of shapes (with_last pools p) f) (list_all (is_right_of shapes (with_last pools p)) (with_last fs new)) parts.0
        (each_last fs parts.1 one)

    of_kind : (k : PoolKind) → p.kind ≡ k → AreFramesOf shapes (with_last pools p) places (frames_with frames k (length pools))
    of_kind (Collected kind) e = still
    of_kind (OneSize words) e = still
    of_kind AnySize e = still
    of_kind Frames e = record {
      each = each_last frames still.each
          (and_from (kind_in has_frames (with_last pools p) (length pools)) true
          (ap (λ o. option_map_or (λ (q : Pool). has_frames q.kind) o false) (slice_get-at_last pools p) ∙ ap has_frames e) refl);
      once = subst (AreOnce (length shapes)) (sym (no_block frames)) h.once;
      placed = λ j some. h.placed j (subst (λ (ids : List ℕ). 1 ≤ occurrences ids j) (no_block frames) some);
    }

-- a block is made, and noted if its pool has frames
block_added : (shapes : List Shape) (pools : List Pool) (places places' : List ℕ) (frames : List PoolFrames) (s : Shape)
    → HasOneMore (length shapes) places places' → AreFramesOf shapes pools places frames
    → AreFramesOf (with_last shapes s) pools places' (with_block_noted frames s.pool (length shapes))
block_added shapes pools places places' frames s more h = of_noted (noted_more frames s.pool (length shapes))
  where
    as_many : length (with_last shapes s) ≡ length shapes + 1
    as_many = length-with_last shapes s

    still : AreFramesOf (with_last shapes s) pools places' frames
    still = frames_still shapes (with_last shapes s) pools pools (λ i x e. slice_get-kept shapes s x i e) (λ n k. k) places places' frames
        (omega (arith, as_many)) (λ j some there. (let sum = occurs_more j more in omega (arith, sum, there))) h

    noted_right : (f : PoolFrames) → f.pool ≡ s.pool → is_right_of (with_last shapes s) pools f ≡ true
        → is_right_of (with_last shapes s) pools (record f { blocks = with_last f.blocks (length shapes) }) ≡ true
    noted_right f own right =
        let now = is_of (with_last shapes s) f.pool in
        let blocks = with_last f.blocks (length shapes) in
        let first = and_parts (kind_in has_frames pools f.pool)
        (list_all now f.blocks && are_rising 0 (length f.blocks) f.opened) right in
        let rest = and_parts (list_all now f.blocks) (are_rising 0 (length f.blocks) f.opened) first.1 in
        let longer : length blocks ≡ length f.blocks + 1 = length-with_last f.blocks (length shapes) in
        and_from (kind_in has_frames pools f.pool) (list_all now blocks && are_rising 0 (length blocks) f.opened) first.0
        (and_from (list_all now blocks) (are_rising 0 (length blocks) f.opened)
        (Rattle.mps_laws.proofs.Sound.SoundGraph.all-ended now f.blocks (length shapes) rest.0
        (ap (λ o. option_map_or (λ (t : Shape). t.pool == f.pool) o false) (slice_get-at_last shapes s)
        ∙ eq-eqb s.pool f.pool (sym own)))
        (rising_more 0 (length f.blocks) (length blocks) f.opened (omega (arith, longer)) rest.1))

    of_noted : (with_block_noted frames s.pool (length shapes) ≡ frames)
        ⊎ HasOneMore (length shapes) (blocks_in frames) (blocks_in (with_block_noted frames s.pool (length shapes)))
        → AreFramesOf (with_last shapes s) pools places' (with_block_noted frames s.pool (length shapes))
    of_noted (inl same) = subst (AreFramesOf (with_last shapes s) pools places') (sym same) still
    of_noted (inr noted) = record {
      each = each_changed (is_right_of (with_last shapes s) pools) s.pool
          (λ f. record f { blocks = with_last f.blocks (length shapes) }) frames
          (λ f found right. noted_right f (Rattle.mps_changes.proofs.Frames.found_pool frames s.pool f found) right) still.each;
      once = subst (λ (n : ℕ). AreOnce n (blocks_in (with_block_noted frames s.pool (length shapes)))) (sym as_many)
          (one_new (length shapes) (blocks_in frames) (blocks_in (with_block_noted frames s.pool (length shapes))) noted h.once);
      placed = λ j some. of_test j (length shapes == j) refl some;
    }
      where
        of_test : (j : ℕ) (b : Bool) → (length shapes == j) ≡ b
            → 1 ≤ occurrences (blocks_in (with_block_noted frames s.pool (length shapes))) j → 1 ≤ occurrences places' j
        of_test j true e some =
            let sum : occurrences places' j ≡ occurrences places j + 1 =
            occurs_more j more ∙ ap (λ b. occurrences places j + (if b then 1 else 0)) e in omega (arith, sum)
        of_test j false e some =
            let sum : occurrences places' j ≡ occurrences places j + 0 =
            occurs_more j more ∙ ap (λ b. occurrences places j + (if b then 1 else 0)) e in
            let less : occurrences (blocks_in (with_block_noted frames s.pool (length shapes))) j ≡ occurrences (blocks_in frames) j + 0 =
            occurs_more j noted ∙ ap (λ b. occurrences (blocks_in frames) j + (if b then 1 else 0)) e in
            let there = h.placed j (omega (arith, less, some)) in
            omega (arith, sum, there)

module _ (shapes : List Shape) (pools : List Pool) (places : List ℕ) (frames : List PoolFrames)
    (h : AreFramesOf shapes pools places frames) where
  pushed_right : (pool : ℕ) → AreFramesOf shapes pools places (frames_changed frames pool pushed)
  pushed_right pool = record {
    each = each_changed (is_right_of shapes pools) pool pushed frames (λ f found right. one f right) h.each;
    once = subst (AreOnce (length shapes)) (sym (pushed_blocks frames pool)) h.once;
    placed = λ j some. h.placed j (subst (λ (ids : List ℕ). 1 ≤ occurrences ids j) (pushed_blocks frames pool) some);
  }
    where
      one : (f : PoolFrames) → is_right_of shapes pools f ≡ true → is_right_of shapes pools (pushed f) ≡ true
      one f right =
          let own = list_all (is_of shapes f.pool) f.blocks in
          let first = and_parts (kind_in has_frames pools f.pool) (own && are_rising 0 (length f.blocks) f.opened) right in
          let rest = and_parts own (are_rising 0 (length f.blocks) f.opened) first.1 in
          and_from (kind_in has_frames pools f.pool) (own && are_rising 0 (length f.blocks) (with_last f.opened (length f.blocks))) first.0
          (and_from own (are_rising 0 (length f.blocks) (with_last f.opened (length f.blocks))) rest.0
          (rising_last 0 (length f.blocks) f.opened (omega arith) rest.1))

  -- frames are popped, and what goes leaves its places
  popped_right : (f : PoolFrames) (frame before : ℕ) (places' : List ℕ) → frames_in frames f.pool ≡ Some f
      → slice_get f.opened frame ≡ Some before
      → ((j : ℕ) → occurrences (drop before f.blocks) j ≡ 0 → occurrences places' j ≡ occurrences places j)
      → AreFramesOf shapes pools places' (frames_changed frames f.pool (popped frame before))
  popped_right f frame before places' found there keep = record {
    each = each_changed (is_right_of shapes pools) f.pool (popped frame before) frames
        (λ g same right. one g (same_Some f g (sym found ∙ same)) right) h.each;
    once = record {
      once = λ j.
          let sum = popped_occurs frames f.pool f frame before j found in
          let most = h.once.once j in
          omega (arith, sum, most);
      below = popped_blocks_pass (λ id. nat_lt id (length shapes)) frames f.pool frame before h.once.below;
    };
    placed = λ j some.
        let sum = popped_occurs frames f.pool f frame before j found in
        let most = h.once.once j in
        let stays = keep j (omega (arith, sum, most, some)) in
        let was = h.placed j (omega (arith, sum, some)) in
        omega (arith, stays, was);
  }
    where
      cut_length : (n : ℕ) (ids : List ℕ) → n ≤ length ids → length (take n ids) ≡ n
      cut_length zero ids low = refl
      cut_length (suc n) [] low = absurd (omega (arith, low))
      cut_length (suc n) (id ∷ ids) low = ap suc (cut_length n ids (omega (arith, low)))

      one : (g : PoolFrames) → f ≡ g → is_right_of shapes pools g ≡ true → is_right_of shapes pools (popped frame before g) ≡ true
      one g same right =
          let own = list_all (is_of shapes g.pool) g.blocks in
          let first = and_parts (kind_in has_frames pools g.pool) (own && are_rising 0 (length g.blocks) g.opened) right in
          let rest = and_parts own (are_rising 0 (length g.blocks) g.opened) first.1 in
          let cut = rising_cut 0 (length g.blocks) g.opened frame before
          (subst (λ (x : PoolFrames). slice_get x.opened frame ≡ Some before) same there) rest.1 in
          let left = list_all (is_of shapes g.pool) (take before g.blocks) in
          let rising : are_rising 0 (length (take before g.blocks)) (take frame g.opened) ≡ true =
          subst (λ (n : ℕ). are_rising 0 n (take frame g.opened) ≡ true) (sym (cut_length before g.blocks cut.high)) cut.rising in
          and_from (kind_in has_frames pools g.pool) (left && are_rising 0 (length (take before g.blocks)) (take frame g.opened)) first.0
          (and_from left (are_rising 0 (length (take before g.blocks)) (take frame g.opened))
          (cut_passes (is_of shapes g.pool) before g.blocks rest.0).0 rising)

module _ (judged v : World) (same : judged.graph.blocks ≡ v.graph.blocks) (h : AreRightFrames v) (cached : AreRightCaches v) where
  row_is : (place : Slot) (found : Found (Option ℕ)) → block_place_in v place ≡ Ok found
      → (slice_get v.graph.blocks found.number ≡ Some found.list) × (slice_get found.list found.index ≡ Some found.value)
  row_is place found e = found_by (number_named v place.name as_blocks) (λ n. slice_get v.graph.blocks n) place.index found e

  found_is : (found : Found (Option ℕ)) → IsFoundBy block_place_in judged v found
      → (slice_get v.graph.blocks found.number ≡ Some found.list) × (slice_get found.list found.index ≡ Some found.value)
  found_is found (Now place e) = row_is place found e
  found_is found (Before place e) =
      let f = found_by (number_named judged place.name as_blocks) (λ n. slice_get judged.graph.blocks n) place.index found e in
      (ap (λ bs. slice_get bs found.number) (sym same) ∙ f.0, f.1)

  -- objects keep their shapes, and what stood in places stands in them
  same_shapes : (u : World) → shapes_of u ≡ shapes_of v → u.pools ≡ v.pools → u.graph.frames ≡ v.graph.frames
      → ((j : ℕ) → 1 ≤ occurrences (ids_in_frames v.graph) j → 1 ≤ occurrences (ids_in_places v.graph) j
      → 1 ≤ occurrences (ids_in_places u.graph) j) → AreRightFrames u
  same_shapes u shapes pools frames still =
      subst (AreFramesOf (shapes_of u) u.pools (ids_in_places u.graph)) (sym frames)
      (frames_still (shapes_of v) (shapes_of u) v.pools u.pools (λ i s e. ap (λ ss. slice_get ss i) shapes ∙ e)
      (λ n e. ap (λ ps. kind_in has_frames ps n) pools ∙ e) (ids_in_places v.graph) (ids_in_places u.graph) v.graph.frames
      (let as_many : length (shapes_of u) ≡ length (shapes_of v) = ap length shapes in omega (arith, as_many)) still h)

  -- a block of a pool without frames leaves its place
  emptied_right : (place : Found (Option ℕ)) (id : ℕ) → slice_get v.graph.blocks place.number ≡ Some place.list
      → slice_get place.list place.index ≡ Some (Some id) → pool_is has_frames v (pool_of v id) ≡ false
      → AreRightFrames (with_graph v (with_block_place v.graph place None))
  emptied_right place id table entry other =
      same_shapes (with_graph v (with_block_place v.graph place None)) refl refl refl
      (λ j some there. of_test j (id == j) refl some there)
    where
      of_test : (j : ℕ) (b : Bool) → (id == j) ≡ b → 1 ≤ occurrences (ids_in_frames v.graph) j
          → 1 ≤ occurrences (ids_in_places v.graph) j → 1 ≤ occurrences (ids_in_places (with_block_place v.graph place None)) j
      of_test j true e some there =
          absurd (not_framed v id h other
          (subst (λ (n : ℕ). 1 ≤ occurrences (ids_in_frames v.graph) n) (sym (eqb-true id j e)) some))
      of_test j false e some there =
          let sum : occurrences (ids_in_places v.graph) j
          ≡ occurrences (ids_in_places (with_block_place v.graph place None)) j + 0 =
          occurs_more j (place_emptied v.graph place table id entry)
          ∙ ap (λ b. occurrences (ids_in_places (with_block_place v.graph place None)) j + (if b then 1 else 0)) e in
          omega (arith, sum, there)

  without_frames : (id : ℕ) → (pool_is has_frames v (pool_of v id) ≡ false) ⊎ HasCacheOver v (pool_of v id)
      → pool_is has_frames v (pool_of v id) ≡ false
  without_frames id (inl other) = other
  without_frames id (inr over) = under_cache v (pool_of v id) cached over

  change_right : {marked : Bool} {c : Call} {u : World} → Change marked c judged v u → AreRightFrames u
  change_right {u = u} (CellsAre object change held write) =
      same_shapes u (cells_kept v.graph object.number change (written_length write)) refl refl (λ j some there. there)
  change_right {u = u} (BlockWordIs id k value) = same_shapes u (word_kept 0 v id k value) refl refl (λ j some there. there)
  change_right {u = u} (Substituted name transform e is parked) =
      same_shapes u (shapes_substituted (pairs_of v.state transform) v.graph.objects) refl refl (λ j some there. there)
  change_right {u = u} (BlocksMade name places e) =
      same_shapes u refl refl refl
      (λ j some there. subst (λ (ids : List ℕ). 1 ≤ occurrences ids j) (sym (table_added v.graph.blocks places)) there)
  change_right (PlaceEmptied from place id e found has freed) =
      let f = row_is from place found in emptied_right place id f.0 (f.1 ∙ ap Some has) (without_frames id freed)
  change_right {u = u} (Allocated p words place at e of kind size found empty) =
      let f = found_is place found in
      let o : Object = record { pool = p.number; body = Manual (replicate words 0) } in
      let as_many : length (shapes_of v) ≡ length v.graph.objects = length-map v.graph.objects shape_of in
      subst (λ ss. AreFramesOf ss v.pools (ids_in_places u.graph) u.graph.frames) (sym (map-with_last shape_of v.graph.objects o))
      (subst (λ (n : ℕ). AreFramesOf (with_last (shapes_of v) (shape_of o)) v.pools
      (ids_in_places (with_block_place v.graph place (Some n))) (with_block_noted v.graph.frames p.number n)) as_many
      (block_added (shapes_of v) v.pools (ids_in_places v.graph)
      (ids_in_places (with_block_place v.graph place (Some (length (shapes_of v)))))
      v.graph.frames (shape_of o) (place_filled v.graph place f.0 (length (shapes_of v)) (f.1 ∙ ap Some empty)) h))
  change_right {u = u} (BlockUncached name cache words into place id classes e is taken found empty) =
      let f = row_is into place found in
      same_shapes u (cleared_kept v.graph id) refl refl
      (λ j some there. (let sum = occurs_more j (place_filled v.graph place f.0 id (f.1 ∙ ap Some empty)) in omega (arith, sum, there)))
  change_right (BlockCached name cache from place id classes e is found has own kept) =
      let f = row_is from place found in
      emptied_right place id f.0 (f.1 ∙ ap Some has)
      (under_cache v (pool_of v id) cached (record { cache = cache; there = cache_named-is v name cache is; is = own }))
  change_right (FramePushed name f e found) =
      pushed_right (shapes_of v) v.pools (ids_in_places v.graph) v.graph.frames h f.pool
  change_right {u = u} (FramesPopped name f frame before e found opened) =
      popped_right (shapes_of v) v.pools (ids_in_places v.graph) v.graph.frames h f frame before (ids_in_places u.graph) found opened
      (λ j none. places_keep (drop before f.blocks) v.graph.blocks j (none_contained (drop before f.blocks) j none))
  change_right (PoolMade name p e kind) = pool_added (shapes_of v) v.pools (ids_in_places v.graph) v.graph.frames p h
  change_right {u = u} (Committed name target p r slot e there found has lives) =
      let o = committed_object p.value r in
      let shapes : shapes_of u ≡ with_last (shapes_of v) (shape_of o) = map-with_last shape_of v.graph.objects o in
      let as_many : length (with_last (shapes_of v) (shape_of o)) ≡ length (shapes_of v) + 1 =
      length-with_last (shapes_of v) (shape_of o) in
      subst (λ ss. AreFramesOf ss v.pools (ids_in_places v.graph) v.graph.frames) (sym shapes)
      (frames_still (shapes_of v) (with_last (shapes_of v) (shape_of o)) v.pools v.pools
      (λ i s k. slice_get-kept (shapes_of v) (shape_of o) s i k) (λ n k. k) (ids_in_places v.graph) (ids_in_places v.graph)
      v.graph.frames (omega (arith, as_many)) (λ j some k. k) h)
  change_right _ = h

  act_right : {marked : Bool} {c : Call} (x : Checked Act) → ForAct (Change marked c judged v) x → AreRightFrames (world_from v x)
  act_right _ (accepted change) = change_right change
  act_right _ refused = h

-- ---- steps

pub frames_moved : (w v : World) → shapes_of v ≡ shapes_of w → v.pools ≡ w.pools → v.graph.blocks ≡ w.graph.blocks
    → v.graph.frames ≡ w.graph.frames → AreRightFrames w → AreRightFrames v
frames_moved w v shapes pools blocks frames h =
    subst (λ ss. AreFramesOf ss v.pools (ids_in_places v.graph) v.graph.frames) (sym shapes)
    (subst (λ ps. AreFramesOf (shapes_of w) ps (ids_in_places v.graph) v.graph.frames) (sym pools)
    (subst (λ bs. AreFramesOf (shapes_of w) w.pools (flat_map entries bs) v.graph.frames) (sym blocks)
    (subst (AreFramesOf (shapes_of w) w.pools (ids_in_places w.graph)) (sym frames) h)))

pub frames_after : (w : World) (s : Step) → AreRightFrames w → AreRightCaches w → AreRightFrames (world_after w s)
frames_after w s h cached =
    let v = moved_world w s.call s.moves in
    let judged = judged_world w s.call s.moves in
    let alone = moved_alone w s.call s.moves in
    act_right judged v ((judged_alone w s.call s.moves).blocks ∙ sym alone.blocks)
    (frames_moved w v alone.shapes alone.pools alone.blocks alone.frames h)
    (caches_moved w v alone.shapes alone.pools alone.caches cached)
    (act (is_block s.answer) judged v s.call) (act_changes_so (is_block s.answer) judged v s.call)

-- ---- what is well-formed

-- what stands in frames is manual, as it stands in places
pub frames_manual : (w : World) → IsSoundGraph w → AreRightFrames w → All (manual w) (ids_in_frames w.graph)
frames_manual w s h =
    all_counted (manual w) (ids_in_frames w.graph)
    (λ j some. counted_passes (manual w) (ids_in_places w.graph) j (manual_parts w s).0 (h.placed j some))

-- and live
pub frames_live : (w : World) → BlocksAreLive w → AreRightFrames w → All (is_live w) (ids_in_frames w.graph)
frames_live w live h =
    all_counted (is_live w) (ids_in_frames w.graph)
    (λ j some. counted_passes (is_live w) (ids_in_places w.graph) j
    (parts_pass (is_live w) (ids_in_places w.graph) (ids_in_caches w.graph) live).0 (h.placed j some))

module _ (w : World) where
  is_own : (pool id : ℕ) → is_of (shapes_of w) pool id ≡ true → manual w id ≡ true → is_block_of w pool id ≡ true
  is_own pool id own kind =
      of_object (object_at w.graph id)
      (ap (λ o. option_map_or (λ (s : Shape). s.pool == pool) o false) (sym (slice_get-map shape_of w.graph.objects id)) ∙ own) kind
    where
      of_object : (o : Option Object) → option_map_or (λ (s : Shape). s.pool == pool) (option_map shape_of o) false ≡ true
          → option_map_or (λ (x : Object). not (is_automatic x)) o false ≡ true
          → option_map_or (λ (x : Object). not (is_automatic x) && x.pool == pool) o false ≡ true
      of_object None e k = absurd (false≢true k)
      of_object (Some x) e k = and_from (not (is_automatic x)) (x.pool == pool) k e

  each_own : (pool : ℕ) (ids : List ℕ) → All (is_of (shapes_of w) pool) ids → All (manual w) ids → All (is_block_of w pool) ids
  each_own pool [] own kind = refl
  each_own pool (id ∷ ids) own kind =
      let a = and_parts (is_of (shapes_of w) pool id) (list_all (is_of (shapes_of w) pool) ids) own in
      let b = and_parts (manual w id) (list_all (manual w) ids) kind in
      and_from (is_block_of w pool id) (list_all (is_block_of w pool) ids) (is_own pool id a.0 b.0) (each_own pool ids a.1 b.1)

  each_right : (fs : List PoolFrames) → list_all (is_right_of (shapes_of w) w.pools) fs ≡ true → All (manual w) (blocks_in fs)
      → list_all (are_right_frames w) fs ≡ true
  each_right [] right kind = refl
  each_right (f ∷ fs) right kind =
      let rising = are_rising 0 (length f.blocks) f.opened in
      let a = and_parts (is_right_of (shapes_of w) w.pools f) (list_all (is_right_of (shapes_of w) w.pools) fs) right in
      let c = parts_pass (manual w) f.blocks (blocks_in fs) kind in
      let first = and_parts (kind_in has_frames w.pools f.pool) (list_all (is_of (shapes_of w) f.pool) f.blocks && rising) a.0 in
      let rest = and_parts (list_all (is_of (shapes_of w) f.pool) f.blocks) rising first.1 in
      and_from (are_right_frames w f) (list_all (are_right_frames w) fs)
      (and_from (pool_is has_frames w f.pool) (list_all (is_block_of w f.pool) f.blocks && rising) first.0
      (and_from (list_all (is_block_of w f.pool) f.blocks) rising (each_own f.pool f.blocks rest.0 c.0) rest.1))
      (each_right fs a.1 c.1)

  -- frames are as a well-formed world has them
  pub frames_right : IsSoundGraph w → AreRightFrames w → list_all (are_right_frames w) w.graph.frames ≡ true
  frames_right s h = each_right w.graph.frames h.each (frames_manual w s h)
