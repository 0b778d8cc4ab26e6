-- The blocks of a pool of frames that were made since one of its frames was opened. Each is a live manual block of the pool, and stands in
-- one place. Once their places are emptied and the frame is closed, nothing holds them.
use Rattle.std.proofs.Common.{◌≡◌, ◌∙◌, ℕ, ◌+◌, ◌≤◌, Bool, true, false, refl, sym, ap, List, [], ◌∷◌, ◌++◌, length, map, Some, None, arith}
use Rattle.std.proofs.lemmas.Bool.{and_parts, eq-eqb, eqb-true, true≢false}
use Rattle.std.specs.Prelude.{◌==◌, ◌&&◌, if◌then◌else◌, drop, not}
use Rattle.std.specs.List.{flat_map, list_all}
use Rattle.mps_base.specs.Address.{Id}
use Rattle.mps_changes.proofs.Frames.{blocks_in, found_blocks_pass, found_passes, frames_in, places_pass, popped_occurs, popped_pass}
use Rattle.mps_changes.proofs.OneMore.{both_pass, occurrences-append, parts_pass}
use Rattle.mps_laws.proofs.Frames.{AreRightFrames, frames_live}
use Rattle.mps_laws.proofs.OnePlace.{AreInOnePlace}
use Rattle.mps_laws.proofs.Replays.FreeSteps.{BlocksAreLive}
use Rattle.mps_laws.proofs.Sound.HeldIds.{All}
use Rattle.mps_model.proofs.Reaching.{list_all-contains}
use Rattle.mps_model.specs.Frames.{place_without, places_without, popped}
use Rattle.mps_model.specs.Graph.{PoolFrames, Slots, contains, entries, frames_changed, from_last, ids_in_blocks, ids_in_caches, ids_in_places, occurrences}
use Rattle.mps_model.specs.WellFormed.{are_right_frames, are_rising, is_block_of}
use Rattle.mps_model.specs.World.{World, has_frames, is_live, pool_is}
use Rattle.mps_refinement.proofs.Parts.CachesStill.{none_equal, occurs_there, reversed_occurs}
use Rattle.mps_refinement.proofs.Parts.EmptiedPlaces.{AreApart, AreOther, contains_back}
use Rattle.mps_refinement.proofs.Worlds.RowOfFrees.{world_holding}

-- ---- rows by counts

-- what stands in a row stands there once
other_of : (ids : List Id) → ((j : Id) → occurrences ids j ≤ 1) → AreOther ids
other_of [] each = tt
other_of (id ∷ ids) each =
    let one : ◌≡◌ {A = ℕ} (if id == id then 1 else 0) 1 = ap (λ c. if c then 1 else 0) (eq-eqb id id refl) in
    let most : occurrences (id ∷ ids) id ≤ 1 = each id in
    let none : occurrences ids id ≡ 0 = omega (arith, one, most) in (
      none_equal id ids none,
      other_of ids (λ j. let all : occurrences (id ∷ ids) j ≤ 1 = each j in omega (arith, all)),
    )

-- and not among others
apart_of : (ids others : List Id) → ((j : Id) → 1 ≤ occurrences ids j → occurrences others j ≡ 0) → AreApart ids others
apart_of [] others each = tt
apart_of (id ∷ ids) others each =
    let one : ◌≡◌ {A = ℕ} (if id == id then 1 else 0) 1 = ap (λ c. if c then 1 else 0) (eq-eqb id id refl) in (
      none_equal id others (each id (omega (arith, one))),
      apart_of ids others (λ j some. each j (omega (arith, some))),
    )

-- ---- what is gone stands in no place

module _ (gone : List Id) (j : Id) (there : contains gone j ≡ true) where
  row_loses : (row : Slots) → occurrences (entries (map (place_without gone) row)) j ≡ 0
  row_loses [] = refl
  row_loses (None ∷ os) = row_loses os
  row_loses (Some n ∷ os) = of_test (contains gone n) refl (n == j) refl (row_loses os)
    where
      of_test : (b : Bool) → contains gone n ≡ b → (c : Bool) → (n == j) ≡ c
          → occurrences (entries (map (place_without gone) os)) j ≡ 0
          → occurrences (entries ((if b then None else Some n) ∷ map (place_without gone) os)) j ≡ 0
      of_test true e c same rest = rest
      of_test false e true same rest = absurd (true≢false (sym there ∙ ap (contains gone) (sym (eqb-true n j same)) ∙ e))
      of_test false e false same rest =
          let none : ◌≡◌ {A = ℕ} (if n == j then 1 else 0) 0 = ap (λ b. if b then 1 else 0) same in omega (arith, none, rest)

  places_lose : (rows : List Slots) → occurrences (flat_map entries (places_without gone rows)) j ≡ 0
  places_lose [] = refl
  places_lose (row ∷ rows) =
      let both =
      occurrences-append j (entries (map (place_without gone) row)) (flat_map entries (places_without gone rows)) in
      let first = row_loses row in
      let rest = places_lose rows in
      omega (arith, both, first, rest)

-- ---- the blocks of a frame

module _ (w : World) (right : AreRightFrames w) (once : AreInOnePlace w) (f : PoolFrames)
    (found : frames_in w.graph.frames f.pool ≡ Some f) (frame before : ℕ) where
  abbrev gone : List Id
  gone = drop before f.blocks

  -- the latest first
  abbrev ids : List Id
  ids = from_last gone

  -- what the other frames keep
  abbrev left : List PoolFrames
  left = frames_changed w.graph.frames f.pool (popped frame before)

  counted : (j : Id) → occurrences (blocks_in w.graph.frames) j ≡ occurrences (blocks_in left) j + occurrences ids j
  counted j =
      let sum = popped_occurs w.graph.frames f.pool f frame before j found in
      let same = reversed_occurs j gone in
      omega (arith, sum, same)

  pub popped_once : (j : Id) → occurrences ids j ≤ 1
  popped_once j =
      let sum = counted j in
      let most = right.once.once j in
      omega (arith, sum, most)

  pub popped_other : AreOther ids
  popped_other = other_of ids popped_once

  pub popped_apart : AreApart ids (blocks_in left)
  popped_apart =
      apart_of ids (blocks_in left) (λ j some.
      let sum = counted j in
      let most = right.once.once j in
      omega (arith, sum, most, some))

  -- nothing holds them any more
  pub popped_unheld : (id : Id) → contains ids id ≡ true
      → All (λ j. not (id == j)) (ids_in_blocks (world_holding w (places_without gone w.graph.blocks) w.graph.caches left).graph)
  popped_unheld id there =
      let lost = places_lose gone id (sym (contains_back gone id) ∙ there) w.graph.blocks in
      let sum = counted id in
      let some = occurs_there ids id there in
      let placed = right.placed id (omega (arith, sum, some)) in
      let held = occurrences-append id (ids_in_places w.graph) (ids_in_caches w.graph) in
      let kept = occurrences-append id (flat_map entries (places_without gone w.graph.blocks)) (ids_in_caches w.graph) in
      let most : occurrences (ids_in_blocks w.graph) id ≤ 1 = once.once id in
      none_equal id (flat_map entries (places_without gone w.graph.blocks) ++ ids_in_caches w.graph)
      (omega (arith, lost, placed, held, kept, most))

  -- what passes, passes still
  pub popped_passes : (test : Id → Bool) → All test (ids_in_blocks w.graph)
      → All test (ids_in_blocks (world_holding w (places_without gone w.graph.blocks) w.graph.caches left).graph)
  popped_passes test all =
      let parts = parts_pass test (ids_in_places w.graph) (ids_in_caches w.graph) all in
      both_pass test (flat_map entries (places_without gone w.graph.blocks)) (ids_in_caches w.graph)
      (places_pass gone test w.graph.blocks parts.0) parts.1

  -- they are live
  pub popped_live : BlocksAreLive w → (id : Id) → contains ids id ≡ true → is_live w id ≡ true
  popped_live live id there =
      list_all-contains (is_live w) ids id
      (popped_pass (is_live w) f before (found_blocks_pass (is_live w) w.graph.frames f.pool f found (frames_live w live right))) there

  -- and manual blocks of the pool, which is one of frames
  module _ (formed : list_all (are_right_frames w) w.graph.frames ≡ true) where
    parts : (pool_is has_frames w f.pool ≡ true) × (list_all (is_block_of w f.pool) f.blocks ≡ true)
    parts =
        let rising = are_rising 0 (length f.blocks) f.opened in
        let whole = and_parts (pool_is has_frames w f.pool) (list_all (is_block_of w f.pool) f.blocks && rising)
        (found_passes (are_right_frames w) w.graph.frames f.pool f found formed) in
        (whole.0, (and_parts (list_all (is_block_of w f.pool) f.blocks) rising whole.1).0)

    pub popped_pool : pool_is has_frames w f.pool ≡ true
    popped_pool = parts.0

    pub popped_own : (id : Id) → contains ids id ≡ true → is_block_of w f.pool id ≡ true
    popped_own id there =
        list_all-contains (is_block_of w f.pool) ids id (popped_pass (is_block_of w f.pool) f before parts.1) there
