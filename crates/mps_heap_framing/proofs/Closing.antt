-- A frame is closed block by block, the latest first.
use Rattle.std.proofs.Common.{◌≡◌, ◌∙◌, ℕ, zero, suc, ◌+◌, ◌-◌, ◌<◌, ◌≤◌, Bool, true, false, is_some, refl, sym, ap, subst, List, [], ◌∷◌, ◌++◌, length, take, drop, Option, Some, None, IsSome, arith, set-set}
use Rattle.std.proofs.lemmas.Bool.{true≢false}
use Rattle.std.proofs.lemmas.List.{drop-append-le, get_or-set_same, length-take-le, set-get_or, set_past, take-append-le}
use Rattle.std.proofs.lemmas.Option.{get_or_from_slice_get, none-some, same_Some, slice_get_within}
use Rattle.std.specs.Prelude.{◌==◌, if◌then◌else◌, slice_get, slice_index, slice_index_or, slice_set}
use Rattle.std.specs.Option.{option_map_or}
use Rattle.mps_base.specs.Address.{Address}
use Rattle.mps_base.specs.Run.{Run}
use Rattle.mps_base.specs.Segment.{Segment, segment_over}
use Rattle.mps_base.specs.Trail.{Moves, with_move}
use Rattle.mps_base.specs.declared.address.Addr.{Addr}
use Rattle.mps_base.specs.declared.moves.Move.TheVariants.{Free, Unseg}
use Rattle.mps_manual.specs.Manual.{any_size, block_removed, is_unused, moves_freed, moves_given_back, segs_after_free}
use Rattle.mps_model.specs.Graph.{from_last}
use Rattle.mps_seg.specs.Segs.{SegsState}
use Rattle.mps_root.specs.State.{HasPlace, RootsState, with_place}
use Rattle.mps_snc.specs.State.{PoolState, Pools, last_of, opened_at, pool_at, state_of, with_pool, without_last_block}
use Rattle.mps_snc.specs.declared.pool.Block.{Block}
use Rattle.mps_heap_spec.specs.Coming.{Moved}
use Rattle.mps_heap_framing.specs.Closing.{IsLastFreed}
use Rattle.mps_heap_spec.specs.Manual.{Freeing, is_block_over, one_freed}
use Rattle.mps_heap_spec.specs.Popping.{blocks_after, blocks_freed, closed, frame_closed, places_emptied}
use Rattle.mps_heap_spec.specs.State.{HeapState}

-- ---- rows of blocks

-- the last of a row comes first, from its end
last_first : (bs : List Block) (b : Block) → from_last (bs ++ b ∷ []) ≡ b ∷ from_last bs
last_first [] b = refl
last_first (c ∷ bs) b = ap (λ xs. xs ++ c ∷ []) (last_first bs b)

-- a row is what comes before its last, and that
before_last : (c : Block) (bs : List Block) (b : Block) → slice_get (c ∷ bs) (length bs) ≡ Some b
    → (c ∷ bs) ≡ take (length bs) (c ∷ bs) ++ b ∷ []
before_last c [] b is = ap (λ x. x ∷ []) (same_Some c b is)
before_last c (d ∷ bs) b is = ap (λ xs. c ∷ xs) (before_last d bs b is)

split_last : (bs : List Block) (b : Block) → last_of bs ≡ Some b → bs ≡ take (length bs - 1) bs ++ b ∷ []
split_last [] b is = absurd (none-some b is)
split_last (c ∷ bs) b is =
    let less : length (c ∷ bs) - 1 ≡ length bs = omega arith in
    subst (λ n. (c ∷ bs) ≡ take n (c ∷ bs) ++ b ∷ []) (sym less) (before_last c bs b (ap (slice_get (c ∷ bs)) (sym less) ∙ is))

module _ (p : PoolState) (b : Block) (last : last_of p.blocks ≡ Some b) (before : ℕ) (since : before < length p.blocks) where
  abbrev rest : List Block
  rest = take (length p.blocks - 1) p.blocks

  rest_long : before ≤ length rest
  rest_long = let long = length-take-le (length p.blocks - 1) p.blocks (omega arith) in omega (arith, long, since)

  -- the last is the first that is freed
  pub first_freed : blocks_after p before ≡ b ∷ blocks_after (without_last_block p) before
  first_freed =
      ap (λ bs. from_last (drop before bs)) (split_last p.blocks b last)
      ∙ ap from_last (drop-append-le before rest (b ∷ []) rest_long) ∙ last_first (drop before rest) b

  -- and what is left of the pool is the same
  pub closed_alike : (frame : ℕ) → closed p frame before ≡ closed (without_last_block p) frame before
  closed_alike frame =
      ap (λ bs. record { blocks = take before bs; frames = take frame p.frames }) (split_last p.blocks b last)
      ∙ ap (λ bs. record { blocks = bs; frames = take frame p.frames }) (take-append-le before rest (b ∷ []) rest_long)

-- ---- states

-- a pool that is one of frames has a number below that of all
within : (pools : Pools) (pool : ℕ) → IsSome (pool_at pools pool) → pool < length pools
within [] pool is = absurd (true≢false (sym is))
within (o ∷ os) zero is = omega arith
within (o ∷ os) (suc pool) is = let low = within os pool is in omega (arith, low)

pub pool_with : (pools : Pools) (pool : ℕ) (p : PoolState) → IsSome (pool_at pools pool) → pool_at (with_pool pools pool p) pool ≡ Some p
pool_with pools pool p is = get_or-set_same pools pool (Some p) None (within pools pool is)

module _ {F : Type 0} where
  -- what closing a frame comes to, from what is freed, the places, the blocks and the pools that are left
  abbrev closing : HeapState F → (size : ℕ) → Freeing → List (List Address) → List Block → Pools → Moved F (Unit {0})
  closing h size f places bs pools = record {
    answer = tt;
    state = record h {
      segs = (blocks_freed size f bs).segs;
      roots = record h.roots { blocks = places_emptied places bs };
      beside = record h.beside { frames = pools };
    };
    trail = (blocks_freed size f bs).trail;
  }

  module _ (h : HeapState F) (trail : Moves) (pool size frame before : ℕ) (there : IsSome (pool_at h.beside.frames pool)) where
    abbrev p : PoolState
    p = state_of h.beside.frames pool

    -- the state after a block was freed that was made last
    abbrev pub without_last : Block → HeapState F
    without_last b = record h {
      segs = (one_freed size (record { segs = h.segs; trail = trail }) b.at.0).segs;
      roots = record h.roots { blocks = with_place h.roots.blocks b.place.table b.place.index 0 };
      beside = record h.beside { frames = with_pool h.beside.frames pool (without_last_block p) };
    }

    pub closes_alike : (b : Block) → last_of p.blocks ≡ Some b → before < length p.blocks
        → frame_closed (without_last b) (one_freed size (record { segs = h.segs; trail = trail }) b.at.0).trail pool size frame before
        ≡ frame_closed h trail pool size frame before
    closes_alike b last since =
        let f : Freeing = record { segs = h.segs; trail = trail } in
        let fs = h.beside.frames in
        let q : PoolState = without_last_block p in
        let places = with_place h.roots.blocks b.place.table b.place.index 0 in
        let after : state_of (with_pool fs pool q) pool ≡ q =
        ap (λ o. option_map_or (λ (x : PoolState). x) o (record { blocks = []; frames = [] })) (pool_with fs pool q there) in
        ap (λ (x : PoolState). closing h size (one_freed size f b.at.0) places (blocks_after x before)
        (with_pool (with_pool fs pool q) pool (closed x frame before))) after
        ∙ ap (closing h size (one_freed size f b.at.0) places (blocks_after q before))
        (set-set fs pool (Some q) (Some (closed q frame before)))
        ∙ ap (λ (x : PoolState). closing h size (one_freed size f b.at.0) places (blocks_after q before) (with_pool fs pool x))
        (sym (closed_alike p b last before since frame))
        ∙ sym (ap (λ bs. closing h size f h.roots.blocks bs (with_pool fs pool (closed p frame before)))
        (first_freed p b last before since))

-- ---- a block is freed

-- a free takes the room of two moves at most
given_room : (covered : List Run) (o : Option Segment) (m : Moves) → m.spare ≤ (moves_given_back covered o m).spare + 1
given_room covered None m = omega arith
given_room covered (Some t) m = of_use (is_unused covered t)
  where
    of_use : (b : Bool) → m.spare ≤ (if b then with_move m (Unseg (record { 0 = t.base }))
        else m).spare + 1
    of_use true = omega arith
    of_use false = omega arith

freed_room : (size : ℕ) (s : SegsState) (trail : Moves) (at : Addr) → trail.spare ≤ (moves_freed size s trail at).spare + 2
freed_room size s trail at = of_size (size == any_size)
  where
    of_size : (b : Bool) → trail.spare ≤ (if b
        then moves_given_back (block_removed s at.0).covered (segment_over s.segments at.0) (with_move trail (Free at))
        else with_move trail (Free at)).spare + 2
    of_size true =
        let rest = given_room (block_removed s at.0).covered (segment_over s.segments at.0) (with_move trail (Free at)) in
        omega (arith, rest)
    of_size false = omega arith

one_room : (size : ℕ) (f : Freeing) (at : Address) → f.trail.spare ≤ (one_freed size f at).trail.spare + 2
one_room size f at = of_block (is_block_over f.segs at at)
  where
    of_block : (b : Bool) → f.trail.spare ≤ (if b
        then record { segs = segs_after_free size f.segs at; trail = moves_freed size f.segs f.trail (record { 0 = at }) }
        else f).trail.spare + 2
    of_block true = freed_room size f.segs f.trail (record { 0 = at })
    of_block false = omega arith

-- from what the calls leave that free the last block and empty its place
pub last_freed : {F : Type 0} (h : HeapState F) (trail : Moves) (pool frame : ℕ) → IsSome (pool_at h.beside.frames pool) → (b : Block)
    → opened_at (state_of h.beside.frames pool) frame < length (state_of h.beside.frames pool).blocks
    → last_of (state_of h.beside.frames pool).blocks ≡ Some b → (pools : Pools)
    → pools ≡ with_pool h.beside.frames pool (without_last_block (state_of h.beside.frames pool)) → (roots : RootsState)
    → roots ≡ record h.roots { blocks = with_place h.roots.blocks b.place.table b.place.index 0 } → (after : HeapState F)
    → after ≡ record h {
      segs = (one_freed (slice_index h.sizes pool) (record { segs = h.segs; trail = trail }) b.at.0).segs;
      roots = roots;
      beside = record h.beside { frames = pools };
    } → (trail_after : Moves)
    → trail_after ≡ (one_freed (slice_index h.sizes pool) (record { segs = h.segs; trail = trail }) b.at.0).trail
    → IsLastFreed h trail pool frame after trail_after
last_freed {F} h trail pool frame there b since last pools pools_are roots roots_are after state trail_after moves =
    let size = slice_index h.sizes pool in
    let before = opened_at (state_of h.beside.frames pool) frame in
    let f : Freeing = record { segs = h.segs; trail = trail } in
    let q : PoolState = without_last_block (state_of h.beside.frames pool) in
    let left : HeapState F = without_last h trail pool size frame before there b in
    let left_is : after ≡ left =
    state
    ∙ ap (λ (r : RootsState). record h { segs = (one_freed size f b.at.0).segs; roots = r; beside = record h.beside { frames = pools } })
    roots_are
    ∙ ap (λ (ps : Pools). record h {
      segs = (one_freed size f b.at.0).segs;
      roots = record h.roots { blocks = with_place h.roots.blocks b.place.table b.place.index 0 };
      beside = record h.beside { frames = ps };
    }) pools_are in
    let now : state_of (with_pool h.beside.frames pool q) pool ≡ q =
    ap (λ o. option_map_or (λ (x : PoolState). x) o (record { blocks = []; frames = [] })) (pool_with h.beside.frames pool q there) in
    let long = length-take-le (length (state_of h.beside.frames pool).blocks - 1) (state_of h.beside.frames pool).blocks (omega arith) in
    let counted : length (state_of (with_pool h.beside.frames pool q) pool).blocks ≡ length q.blocks =
    ap (λ (x : PoolState). length x.blocks) now in
    subst (λ (s : HeapState F). IsLastFreed h trail pool frame s trail_after) (sym left_is)
    (subst (λ (t : Moves). IsLastFreed h trail pool frame left t) (sym moves) (record {
      there = ap is_some (pool_with h.beside.frames pool q there);
      since = since;
      fewer = omega (arith, long, counted, since);
      frames = ap (λ (x : PoolState). x.frames) now;
      sizes = refl;
      room = one_room size f b.at.0;
      closes = λ n e.
          subst (λ n. frame_closed left (one_freed size f b.at.0).trail pool n frame before ≡ frame_closed h trail pool n frame before)
          (sym e) (closes_alike h trail pool size frame before there b last since);
    }))

-- ---- places that are missing

-- a row that is there
pub has_place : (places : List (List Address)) (table index : ℕ) (row : List Address) → slice_get places table ≡ Some row
    → index < length row → HasPlace places table index
has_place places table index row there low = record {
  table = slice_get_within places table row there;
  place = subst (λ (r : List Address). index < length r) (sym (get_or_from_slice_get places table row [] there)) low;
}

pub no_index : (places : List (List Address)) (table index : ℕ) (row : List Address) → slice_get places table ≡ Some row
    → length row ≤ index → with_place places table index 0 ≡ places
no_index places table index row there past =
    ap (slice_set places table) (set_past (slice_index_or places table []) index 0
    (subst (λ (r : List Address). length r ≤ index) (sym (get_or_from_slice_get places table row [] there)) past))
    ∙ set-get_or places table []
