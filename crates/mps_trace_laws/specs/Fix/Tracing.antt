-- When the segments, the tails and the moves of a tracing collector represent the abstract collector, while objects are
-- traced. No fact but the last takes a world.
use Rattle.std.specs.Prelude.{◌≡◌, ℕ, ◌+◌, ◌<◌, ◌≤◌, Bool, true, IsTrue, Option, Some, List, [], ◌∷◌, map, length, slice_get, Contains, false}
use Rattle.std.specs.List.{AllByRecursion}
use Rattle.mps_base.specs.Address.{Address, Id, Word, word_of, address_of_grain, grain_of, max_grains}
use Rattle.mps_base.specs.Generation.{target_generation}
use Rattle.mps_base.specs.Run.{Run, Covers, IsAscending, end_of}
use Rattle.mps_base.specs.Segment.{Segment, grains_of_segment, end_of_segment}
use Rattle.mps_base.specs.declared.names.Rank.TheVariants.{Exact}
use Rattle.mps_extents.specs.Table.{bit}
use Rattle.mps_format.specs.Layout.{Layout}
use Rattle.mps_seg.specs.Segs.{SegsState}
use Rattle.mps_seg.specs.Buffer.{run_of}
use Rattle.mps_amc.specs.Amc.{AmcState, HasTail}
use Rattle.mps_amc.specs.Amc as amc
use Rattle.mps_trace.specs.GenState.{ChainsState}
use Rattle.mps_trace.specs.GenState as chains
use Rattle.mps_model.specs.Graph.{Object, Point, Reservation, contains, is_automatic, entry_at}
use Rattle.mps_model.specs.World.{PointMemory, is_copying_pool, generations_of, tail_of, pool_is, is_automatic_kind}
use Rattle.mps_abstract.specs.Collecting.{Collecting}
use Rattle.mps_trace_laws.specs.Image.Memory.{Setting, LiesReserved, memory_in, setting_in, words_of_arena, pool_layout, pool_over_word}
use Rattle.mps_trace_laws.specs.Image.Image.{CellSet, ImageStands}
use Rattle.mps_trace_laws.specs.Image.AtHand.{Hand, hand_in_tails, HandsStand}
use Rattle.mps_trace.specs.Trace.{Traced}
use Rattle.mps_trace_laws.specs.Fix.Room.{moves_left}
use Rattle.mps_format.specs.declared.pool.Policy.{Policy}

-- ---- segments

-- the segments are those of a world
pub record AreSegmentsOf (s : SegsState) (grains limit : ℕ) (segments : List Segment) : Type 0 where
  pub same_grains : s.grains ≡ grains
  pub same_limit : s.limit ≡ limit
  pub same_segments : s.segments ≡ segments

-- they have whole grains of the arena, and ascend without overlap
pub record AreHeld (s : SegsState) : Type 0 where
  pub small : s.grains ≤ max_grains
  pub aligned : AllByRecursion (λ (t : Segment). address_of_grain (grain_of t.base) ≡ t.base) s.segments
  pub ascending : IsAscending 1 (s.grains + 1) (map grains_of_segment s.segments)

-- the marks have an entry for each word of the arena, and the condemned segments one for each grain
pub record HasTables (s : SegsState) : Type 0 where
  pub kept : length s.marks.kept ≡ words_of_arena s.grains
  pub exact : length s.marks.exact ≡ words_of_arena s.grains
  pub weak : length s.marks.weak ≡ words_of_arena s.grains
  pub condemned : length s.condemned ≡ s.grains + 1

-- the condemned ones of the held segments are those that begin at these addresses
pub record AreCondemnedAt (s : SegsState) (bases : List Address) : Type 0 where
  pub is_bit : (t : Segment) → Contains s.segments t → bit s.condemned (grain_of t.base) ≡ contains bases t.base
  pub is_held : (base : Address) → IsTrue (contains bases base) → (t : Segment) × Contains s.segments t × (t.base ≡ base)

-- blocks and reservations ascend without overlap
abbrev pub AreCoveredInOrder : SegsState → Type 0
AreCoveredInOrder s = IsAscending 0 (words_of_arena s.grains) s.covered

-- live reservations lie in held segments
abbrev pub AreReservationsHeld : SegsState → List (Option Point) → List PointMemory → Type 0
AreReservationsHeld s points memories =
    (point l : ℕ) (r : Reservation) (n : Word) → LiesReserved points memories point l r n
    → (pool : ℕ) × (pool_over_word s n ≡ Some pool)

-- ---- pools

-- of each automatic pool the collector has the policy, and of each that moves blocks the generations
pub record AreKnownPools {F : Type 0} (layout : F → Layout) (formats : List (Option (Policy F))) (of : ChainsState)
    (is_automatic_pool is_copying : ℕ → Bool) (layout_of : ℕ → Layout) (generations : ℕ → Option ℕ)
    : Type 0 where
  pub listed : (pool : ℕ) → IsTrue (is_automatic_pool pool) → (format : Policy F) × (slice_get formats pool ≡ Some (Some format))
  pub format_is : (pool : ℕ) (format : Policy F) → slice_get formats pool ≡ Some (Some format) → layout format.format ≡ layout_of pool
  pub moves_is : (pool : ℕ) (format : Policy F) → slice_get formats pool ≡ Some (Some format) → format.moves ≡ is_copying pool
  pub known : (pool : ℕ) → IsTrue (is_copying pool) → pool < length of.of_pool
  pub generations_are : (pool : ℕ) → IsTrue (is_copying pool) → chains.generations_of of pool ≡ generations pool

-- automatic objects are in automatic pools
abbrev pub AreCollected : List Object → (is_automatic_pool : ℕ → Bool) → Type 0
AreCollected objects is_automatic_pool =
    (id : Id) (o : Object) → slice_get objects id ≡ Some o → IsTrue (is_automatic o) → IsTrue (is_automatic_pool o.pool)

-- objects of pools that don't move blocks are where they were at the flip
abbrev pub AreStill : List Object → (is_copying : ℕ → Bool) → (at_flip addresses : List (Option Address)) → Type 0
AreStill objects is_copying at_flip addresses =
    (id : Id) (o : Object) (from to : Address) → slice_get objects id ≡ Some o → is_copying o.pool ≡ false
    → entry_at at_flip id ≡ Some from → entry_at addresses id ≡ Some to → from ≡ to

-- ---- tails

-- the tails of a copying collector are these, by pool and generation
pub record AreTails (of : ChainsState) (state : AmcState) (is_copying : ℕ → Bool) (tail : (pool generation : ℕ) → Run) : Type 0 where
  pub has : (pool generation : ℕ) → IsTrue (is_copying pool)
      → HasTail state pool (target_generation (chains.generations_of of pool) generation)
  pub same : (pool generation : ℕ) → run_of (amc.tail_of state pool generation) ≡ tail pool generation

-- by word, the tail of a generation of a pool where its words are these
abbrev pub hand_of : (pool generation : ℕ) → Run → Word → Option Hand
hand_of pool generation words = hand_in_tails (record { pool = pool; generation = generation; words = words } ∷ [])

-- a tail is the last words of an exact segment of its pool
pub record EndsSegment (segments : List Segment) (pool : ℕ) (words : Run) : Type 0 where
  pub segment : Segment
  pub held : Contains segments segment
  pub home : segment.pool ≡ pool
  pub exact : segment.rank ≡ Exact
  pub above : word_of segment.base ≤ words.from
  pub ends : end_of words ≡ word_of (end_of_segment segment)

-- tails lie where nothing is, and apart from each other
pub record TailsStand (s : Setting) (segments : List Segment) (addresses : List (Option Address)) (tail : (pool generation : ℕ) → Run)
    : Type 0 where
  pub hands : (pool generation : ℕ) → HandsStand s (hand_of pool generation (tail pool generation)) addresses
  pub apart : (pool generation other its : ℕ) (n : Word) → Covers (tail pool generation) n → Covers (tail other its) n
      → (pool ≡ other) × (generation ≡ its)
  pub home : (pool generation : ℕ) → 0 < (tail pool generation).count → EndsSegment segments pool (tail pool generation)

-- ---- all of it

-- what a collector's segments represent
abbrev pub setting_of : SegsState → (at_flip : List (Option Address)) → Collecting → Setting
setting_of s at_flip y =
    setting_in s y.world.graph.objects y.world.graph.points y.world.point_memories (pool_layout y.world) at_flip y.running.condemned
    (λ id. true)

-- tails and segments represent the abstract collector, where these cells are fixed
pub record StateStands {F : Type 0} (layout : F → Layout) (formats : List (Option (Policy F))) (of : ChainsState)
    (at_flip : List (Option Address)) (done : CellSet) (state : AmcState) (s : SegsState) (y : Collecting)
    : Type 0 where
  pub segments : AreSegmentsOf s y.world.grains y.world.limit y.world.segments
  pub held : AreHeld s
  pub tables : HasTables s
  pub covered : AreCoveredInOrder s
  pub reserved : AreReservationsHeld s y.world.graph.points y.world.point_memories
  pub condemned : AreCondemnedAt s y.running.condemned_segments
  pub image : ImageStands (setting_of s at_flip y) (memory_in s) y.world.addresses y.colours done
  pub pools : AreKnownPools layout formats of (pool_is is_automatic_kind y.world) (is_copying_pool y.world) (pool_layout y.world)
      (generations_of y.world)
  pub collected : AreCollected y.world.graph.objects (pool_is is_automatic_kind y.world)
  pub still : AreStill y.world.graph.objects (is_copying_pool y.world) at_flip y.world.addresses
  pub tails : AreTails of state (is_copying_pool y.world) (tail_of y.world)
  pub hands : TailsStand (setting_of s at_flip y) s.segments y.world.addresses (tail_of y.world)

-- a tracing collector's state in words represents the abstract collector, and there is room for the moves that are left
pub record TracingStands {F : Type 0} (layout : F → Layout) (formats : List (Option (Policy F))) (of : ChainsState)
    (at_flip : List (Option Address)) (done : CellSet) (x : Traced) (y : Collecting)
    : Type 0 where
  pub state : StateStands layout formats of at_flip done x.amc x.segs y
  -- a fix asks for room for two moves, also if it takes none
  pub room : moves_left y + 2 ≤ x.moves.spare
