-- When the pools of frames of a heap represent those of a world.
use Rattle.std.specs.Prelude.{◌≡◌, ℕ, ◌+◌, ◌≤◌, Bool, false, refl, Option, Some, None, is_some, List, [], ◌∷◌, length, replicate, slice_get, slice_index_or, sum_by}
use Rattle.std.proofs.Common.{◌∙◌, ap, arith, suc, zero}
use Rattle.std.specs.Option.{option_map_or}
use Rattle.mps_base.specs.Address.{Address, Id}
use Rattle.mps_model.specs.Graph.{PoolFrames, Slots}
use Rattle.mps_model.specs.Making.{most_slots}
use Rattle.mps_model.specs.World as world
use Rattle.mps_snc.specs.State.{PoolState, Pools, max_pools, no_pools, pool_at}
use Rattle.mps_snc.specs.declared.pool.Block.{Block}

module _ (places : List (List Address)) (slots : List Slots) where
  -- a block stands in the place that was noted with it, and has the address that the heap has there
  pub record IsNoted (b : Block) (id : Id) : Type 0 where
    pub row : Slots
    pub table : slice_get slots b.place.table ≡ Some row
    pub entry : slice_get row b.place.index ≡ Some (Some id)
    pub kept : List Address
    pub there : slice_get places b.place.table ≡ Some kept
    pub at : slice_get kept b.place.index ≡ Some b.at.0

  -- so does each of a row
  abbrev pub AreNoted : List Block → List Id → Type 0
  AreNoted [] [] = Unit {0}
  AreNoted (b ∷ bs) (id ∷ ids) = IsNoted b id × AreNoted bs ids
  AreNoted _ _ = ⊥

  -- the blocks and the open frames of the pool with a number are those of the world's
  pub record IsListed (number : ℕ) (p : PoolState) (f : PoolFrames) : Type 0 where
    pub pool : f.pool ≡ number
    pub blocks : AreNoted p.blocks f.blocks
    pub opened : p.frames ≡ f.opened

  -- the pools from a number on: those that have frames are those of the world, one after the other
  abbrev pub AreListed : (number : ℕ) → Pools → List PoolFrames → Type 0
  AreListed number [] [] = Unit {0}
  AreListed number (None ∷ os) fs = AreListed (number + 1) os fs
  AreListed number (Some p ∷ os) (f ∷ fs) = IsListed number p f × AreListed (number + 1) os fs
  AreListed number _ _ = ⊥

-- whether the pool of a world with a number has frames
abbrev pub is_framed : List world.Pool → (number : ℕ) → Bool
is_framed pools number = option_map_or (λ (q : world.Pool). world.has_frames q.kind) (slice_get pools number) false

-- The pools of frames are those of the world, with their blocks and frames, and there are no more places than may be noted.
pub record AreFramed (frames : Pools) (places : List (List Address)) (slots : List Slots) (pools : List world.Pool)
    (numbered : List PoolFrames) : Type 0 where
  pub listed : AreListed places slots 0 frames numbered
  pub count : length frames ≡ max_pools
  pub kinds : (number : ℕ) → is_some (pool_at frames number) ≡ is_framed pools number
  pub few : sum_by length slots ≤ most_slots

-- before any call
pub nothing_is_framed : AreFramed no_pools [] [] [] []
nothing_is_framed = record { listed = tt; count = refl; kinds = none_framed; few = omega arith }
  where
    none_of : (n k : ℕ) → is_some (slice_index_or (replicate {A = Option PoolState} n None) k None) ≡ false
    none_of zero k = refl
    none_of (suc n) zero = refl
    none_of (suc n) (suc k) = none_of n k

    none_framed : (number : ℕ) → is_some (pool_at no_pools number) ≡ is_framed [] number
    none_framed number = none_of max_pools number

-- ---- vectors

-- a table of two places, of which the second has the block 7, at 0x1000
abbrev example_places : List (List Address)
example_places = (0 ∷ 0x1000 ∷ []) ∷ []

abbrev example_slots : List Slots
example_slots = (None ∷ Some 7 ∷ []) ∷ []

abbrev block_in : (index : ℕ) → (at : Address) → Block
block_in index at = record { at = record { 0 = at }; place = record { table = 0; index = index } }

pub a_block_in_its_place : IsNoted example_places example_slots (block_in 1 0x1000) 7
a_block_in_its_place =
    record { row = None ∷ Some 7 ∷ []; table = refl; entry = refl; kept = 0 ∷ 0x1000 ∷ []; there = refl; at = refl }

pub a_block_at_another_address : IsNoted example_places example_slots (block_in 1 0x2000) 7 → ⊥
a_block_at_another_address is =
    let kept : ◌≡◌ {A = Option (List Address)} (Some (0 ∷ 0x1000 ∷ [])) (Some is.kept) = is.there in
    let e : ◌≡◌ {A = ℕ} 0x1000 0x2000 =
    ap (λ (o : Option Address). option_map_or (λ at. at) o 0)
    (ap (λ (o : Option (List Address)). option_map_or (λ (r : List Address). slice_get r 1) o None) kept ∙ is.at) in
    omega (arith, e)

pub a_block_in_an_empty_place : IsNoted example_places example_slots (block_in 0 0) 7 → ⊥
a_block_in_an_empty_place is =
    let row : ◌≡◌ {A = Option Slots} (Some (None ∷ Some 7 ∷ [])) (Some is.row) = is.table in
    let e : ◌≡◌ {A = Option (Option ℕ)} (Some None) (Some (Some 7)) =
    ap (λ (o : Option Slots). option_map_or (λ (r : Slots). slice_get r 0) o None) row ∙ is.entry in
    let f : ◌≡◌ {A = ℕ} 0 1 = ap (λ (o : Option (Option ℕ)). option_map_or (λ x. option_map_or (λ n. 1) x 0) o 0) e in
    omega (arith, f)

pub the_second_pool_has_frames : AreListed example_places example_slots 0
    (None ∷ Some (record { blocks = block_in 1 0x1000 ∷ []; frames = 0 ∷ 1 ∷ [] }) ∷ [])
    (record { pool = 1; blocks = 7 ∷ []; opened = 0 ∷ 1 ∷ [] } ∷ [])
the_second_pool_has_frames = (record { pool = refl; blocks = (a_block_in_its_place, tt); opened = refl }, tt)

pub frames_of_another_pool : AreListed example_places example_slots 0 (None ∷ Some (record { blocks = []; frames = [] }) ∷ [])
    (record { pool = 0; blocks = []; opened = [] } ∷ []) → ⊥
frames_of_another_pool is = let e : ◌≡◌ {A = ℕ} 0 1 = is.0.pool in omega (arith, e)

pub a_pool_without_its_frames : AreListed example_places example_slots 0 (Some (record { blocks = []; frames = [] }) ∷ []) [] → ⊥
a_pool_without_its_frames is = is
