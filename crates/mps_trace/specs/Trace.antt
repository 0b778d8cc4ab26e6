-- What a collection knows of pools, and what it does with an address.
use Rattle.std.specs.Prelude.{◌≡◌, ℕ, ◌%◌, ◌<◌, true, false, Option, Some, None, List, [], ◌∷◌, ◌++◌, length, slice_get, refl}
use Rattle.mps_base.specs.Address.{Address, word_of, bytes_of_word}
use Rattle.mps_base.specs.Segment.{Segment, segment_over}
use Rattle.mps_base.specs.Generation.{target_generation}
use Rattle.mps_base.specs.Trail.{Moves}
use Rattle.mps_base.specs.declared.address.Addr.{Addr}
use Rattle.mps_base.specs.declared.names.Rank.TheVariants.{Exact}
use Rattle.mps_format.specs.Layout.{Layout}
use Rattle.mps_seg.specs.Segs.{SegsState}
use Rattle.mps_seg.specs.Buffer.{IsAtHand, empty_buffer}
use Rattle.mps_amc.specs.Moving.{BlockStands, IsBlockOf, size_at, kept_in_place}
use Rattle.mps_amc.specs.Amc.{AmcState, HasTail, tail_of, IsFixed}
use Rattle.mps_amc.specs.Amc as amc
use Rattle.mps_trace.specs.Noting.{copy_noted}
use Rattle.mps_trace.specs.Finding.{CanFind, FindsTo, nothing_is_white_without_a_pool}
use Rattle.mps_gen.specs.State.{ChainsState, no_chains, generations_of}
use Rattle.mps_format.specs.declared.pool.Policy.{Policy}

pub record TraceState (F : Type 0) : Type 0 where
  -- by pool, the format of its objects; none for a pool that isn't collected
  pub formats : List (Option (Policy F))
  -- the tails of copying pools
  pub amc : AmcState
  pub chains : ChainsState

abbrev pub no_pools : {F : Type 0} → TraceState F
no_pools = record { formats = []; amc = amc.no_pools; chains = no_chains }

-- one more pool, on a chain or on none, with an empty tail for each of these generations
abbrev pub with_pool : {F : Type 0} → TraceState F → Option (Policy F) → (chain : Option ℕ) → (generations : ℕ) → TraceState F
with_pool t format chain generations = record {
  formats = t.formats ++ format ∷ [];
  amc = amc.with_pool t.amc generations;
  chains = record t.chains { of_pool = t.chains.of_pool ++ chain ∷ [] };
}

-- one more chain, whose generations have these capacities
abbrev pub with_chain : {F : Type 0} → TraceState F → (capacities : List ℕ) → TraceState F
with_chain t capacities = record t { chains = record t.chains { chains = t.chains.chains ++ capacities ∷ [] } }

-- what a collection changes: the tails, the segments, and the moves that it logs
pub record Traced : Type 0 where
  pub amc : AmcState
  pub segs : SegsState
  pub moves : Moves

abbrev pub traced : {F : Type 0} → TraceState F → SegsState → Moves → Traced
traced t s m = record { amc = t.amc; segs = s; moves = m }

-- the generation to which the blocks of a segment move
abbrev pub target_of : ChainsState → Segment → ℕ
target_of chains t = target_generation (generations_of chains t.pool) t.generation

-- a white block of a segment with this layout, whose pool moves its blocks, can be kept
pub record CanMove (f : Layout) (chains : ChainsState) (x : Traced) (at : Address) (segment : Segment) : Type 0 where
  pub known : segment.pool < length chains.of_pool
  pub stands : BlockStands f x.segs.words at (size_at f x.segs.words at)
  pub block : IsBlockOf x.segs at (size_at f x.segs.words at)
  pub tail : HasTail x.amc segment.pool (target_of chains segment)
  pub at_hand : IsAtHand x.segs (tail_of x.amc segment.pool (target_of chains segment))
  pub room : 1 < x.moves.spare

-- the white block at an address on a word of the arena can be kept
pub record CanKeep {F : Type 0} (layout : F → Layout) (formats : List (Option (Policy F))) (chains : ChainsState) (x : Traced) (at : Addr)
    : Type 0 where
  pub aligned : at.0 % bytes_of_word ≡ 0
  pub in_arena : word_of at.0 < length x.segs.words
  pub segment : Segment
  pub over : segment_over x.segs.segments at.0 ≡ Some segment
  pub format : Policy F
  pub listed : slice_get formats segment.pool ≡ Some (Some format)
  pub moving : format.moves ≡ true → CanMove (layout format.format) chains x at.0 segment

-- the block to which an address leads can be found, and if it is white it can be kept
pub record CanFixAt {F : Type 0} (layout : F → Layout) (formats : List (Option (Policy F))) (chains : ChainsState) (x : Traced) (at : Addr)
    : Type 0 where
  pub find : CanFind layout formats x.segs at
  pub keep : FindsTo layout formats x.segs at None → CanKeep layout formats chains x at

abbrev pub CanFix : {F : Type 0} → (F → Layout) → TraceState F → SegsState → Moves → Addr → Type 0
CanFix layout t s m at = CanFixAt layout t.formats t.chains (traced t s m) at

-- the references of a block are noted that was at one address and is at another
abbrev pub with_copy_noted : Layout → (from to : Address) → Traced → Traced
with_copy_noted f from to x = record x { segs = copy_noted f x.segs from to }

-- what the pool of a white block does with it to keep it, and where the block lies then
pub data KeepsTo {F : Type 0} (layout : F → Layout) (formats : List (Option (Policy F))) (chains : ChainsState) (x : Traced) (at : Addr)
    : Traced → (answer : Addr) → Type 0
  where
    -- the pool moves its blocks, and notes where the references of the block lead
    moves : {y z : Traced} (t : Segment) (format : Policy F) (answer : Addr) → segment_over x.segs.segments at.0 ≡ Some t
        → slice_get formats t.pool ≡ Some (Some format) → format.moves ≡ true
        → IsFixed (layout format.format) x.amc y.amc x.segs y.segs x.moves y.moves at t.pool (target_of chains t)
        (size_at (layout format.format) x.segs.words at.0) answer
        → z ≡ with_copy_noted (layout format.format) at.0 answer.0 y → KeepsTo layout formats chains x at z answer
    -- or keeps them where they lie: the block is grey
    marks : {y : Traced} (t : Segment) (format : Policy F) → segment_over x.segs.segments at.0 ≡ Some t
        → slice_get formats t.pool ≡ Some (Some format) → format.moves ≡ false
        → y ≡ record x { segs = kept_in_place x.segs at.0 } → KeepsTo layout formats chains x at y at

-- what is done with an address, and where the block lies then: it is found, or else it is kept
pub data FixesTo {F : Type 0} (layout : F → Layout) (formats : List (Option (Policy F))) (chains : ChainsState) (x : Traced) (at : Addr)
    : Traced → (answer : Addr) → Type 0
  where
    finds : (to : Addr) → FindsTo layout formats x.segs at (Some to) → FixesTo layout formats chains x at x to
    keeps : {y : Traced} (answer : Addr) → FindsTo layout formats x.segs at None → KeepsTo layout formats chains x at y answer
        → FixesTo layout formats chains x at y answer

-- ---- vectors

abbrev segment_of_pool : ℕ → Segment
segment_of_pool pool = record { base = 0x1000; grains = 1; pool = pool; generation = 0; rank = Exact }

pub a_pool_with_nothing_at_hand : (with_pool {F = ℕ} no_pools (Some (record { format = 3; moves = true })) None 1).amc.tails
    ≡ (empty_buffer ∷ []) ∷ []
a_pool_with_nothing_at_hand = refl

pub a_pool_on_no_chain_has_one_generation :
    target_of (with_pool {F = ℕ} no_pools (Some (record { format = 3; moves = true })) None 1).chains (segment_of_pool 0) ≡ 0
a_pool_on_no_chain_has_one_generation = refl

-- a pool on a chain of two generations
abbrev on_a_chain : TraceState ℕ
on_a_chain = with_pool (with_chain no_pools (4 ∷ 8 ∷ [])) (Some (record { format = 3; moves = true })) (Some 0) 2

pub blocks_of_a_pool_on_a_chain_go_one_up : target_of on_a_chain.chains (segment_of_pool 0) ≡ 1
blocks_of_a_pool_on_a_chain_go_one_up = refl

pub a_tail_for_each_generation : on_a_chain.amc.tails ≡ (empty_buffer ∷ empty_buffer ∷ []) ∷ []
a_tail_for_each_generation = refl

-- if no pool is known nothing is kept
pub nothing_is_kept_without_a_pool : (layout : ℕ → Layout) (x y : Traced) (at answer : Addr)
    → FixesTo layout [] no_chains x at y answer → y ≡ x
nothing_is_kept_without_a_pool layout x y at answer (finds to found) = refl
nothing_is_kept_without_a_pool layout x y at answer (keeps to white kept) =
    absurd (nothing_is_white_without_a_pool layout x.segs at white)
