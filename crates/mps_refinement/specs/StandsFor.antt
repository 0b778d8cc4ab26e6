-- When the state of a heap represents a world of the model.
use Rattle.std.specs.Prelude.{◌≡◌, ◌⊎◌, ℕ, ◌+◌, ◌-◌, ◌%◌, ◌<◌, ◌≤◌, ◌==◌, Bool, true, false, not, IsTrue, Option, Some, None, option_and_then, option_map, IsSome, List, [], map, length, slice_get, ◌∷◌, Contains}
use Rattle.std.proofs.Common.{◌∙◌, ap, arith, lit<, refl, subst, suc, sym, zero}
use Rattle.std.specs.Option.{option_map_or}
use Rattle.mps_base.specs.Address.{Address, Id, Word, max_grains, word_of, grain_of}
use Rattle.mps_base.specs.declared.names.Kind.TheVariants.{Amc}
use Rattle.mps_base.specs.declared.names.Name.{Name}
use Rattle.mps_base.specs.Name.{same_name}
use Rattle.mps_extents.specs.Table.{bit}
use Rattle.mps_buffer.specs.declared.point.Held.{Held}
use Rattle.mps_buffer.specs.declared.point.Point.{Point}
use Rattle.mps_buffer.specs.Points.{PointsState, point_at}
use Rattle.mps_seg.specs.Buffer.{run_of}
use Rattle.mps_format.specs.Layout.{Layout, IsLawful}
use Rattle.mps_trace_laws.specs.Image.Memory.{words_of_arena, Setting, memory_in, pool_layout, setting_in}
use Rattle.mps_laws.specs.Replay.{reached}
use Rattle.mps_laws.specs.WellFormed.{is_arena_made_once}
use Rattle.mps_laws.proofs.Naming.{AreTakenOnce}
use Rattle.mps_ld.specs.State.{LdState}
use Rattle.mps_ld.specs.Flips.{AreFlips}
use Rattle.mps_model.specs.Graph as graph
use Rattle.mps_model.specs.Graph.{AreaWord, PlainWord, Hold, Reservation, Slots, thing_in, entry_at, contains}
use Rattle.mps_model.specs.Making.{live_roots, live_slots, live_points}
use Rattle.mps_model.specs.Step.{History}
use Rattle.mps_model.specs.History.{IsLegalHistoryOf}
use Rattle.mps_model.specs.World as world
use Rattle.mps_model.specs.World.{World, PointMemory, Dependency, TransformPair, Collected, OneSize, AnySize, Frames, is_copying_kind}
use Rattle.mps_names.specs.State.{thing_named}
use Rattle.mps_names.specs.declared.names.Thing.{Thing}
use Rattle.mps_names.specs.declared.names.Thing.TheVariants as thing
use Rattle.mps_root.specs.State.{kept}
use Rattle.mps_root.specs.declared.roots.Stored.{Stored}
use Rattle.mps_heap_spec.specs.State.{HeapState}
use Rattle.mps_format.specs.Pools.{policy_of_pool, size_of_pool}
use Rattle.mps_heap_spec.specs.declared.arena.ArenaState.{ArenaState}
use Rattle.mps_heap_spec.specs.declared.arena.ArenaState.TheVariants as arena
use Rattle.mps_format.specs.declared.pool.Pool.{Pool}
use Rattle.mps_format.specs.declared.pool.Pool.TheVariants as pool
use Rattle.mps_refinement.specs.Numbering.{AreNumbered, AreOrdered}
use Rattle.mps_refinement.specs.Beside.{IsBeside}
use Rattle.mps_refinement.specs.Framed.{AreFramed}
use Rattle.mps_refinement.specs.Transforms.{AreTransforms, live_count}
use Rattle.mps_neighbours.specs.Transforms.{is_live}
use Rattle.mps_base.specs.Segment.{Segment}
use Rattle.mps_base.specs.declared.names.Rank.TheVariants.{Exact}
use Rattle.mps_abstract.specs.Colours.{AreAllScanned, Colours, is_white}
use Rattle.mps_abstract.specs.Collecting.{AreAllExamined, Collecting, Running, is_reclaiming_band}
use Rattle.mps_abstract.specs.Collecting as abstract
use Rattle.mps_trace.specs.AmcState.{AmcState, tail_of}
use Rattle.mps_trace.specs.GenState.{ChainsState}
use Rattle.mps_trace.specs.declared.running.Band.TheVariants as band
use Rattle.mps_trace.specs.declared.running.Running.{Running as RunningState}
use Rattle.mps_trace_laws.specs.Fix.Ranks.{AreMarksRanked}
use Rattle.mps_trace_laws.specs.Image.Image.{Stands, no_colours}
use Rattle.mps_trace_laws.specs.Summaries.Summed.{AreWordsSummed}
use Rattle.mps_seg.specs.Segs.{SegsState}
pub use Rattle.mps_trace_laws.specs.Units.Finals.{address_of_id}
pub use Rattle.mps_trace_laws.specs.Units.Standing.{band_of}

-- ---- whether a collection runs

-- What is known of a running collection: the addresses at its flip, what it condemned, whose words are still read, the colours of
-- objects, and whether it has begun to reclaim. Of registrations the position of the one that is examined next, and how many are left of
-- those made before the flip.
pub record Time : Type 0 where
  pub at_flip : List (Option Address)
  pub condemned : List Id
  pub is_read : Id → Bool
  pub colours : Colours
  pub is_reclaiming : Bool
  pub next : ℕ
  pub registered_before : ℕ

-- that of a heap at rest: nothing is condemned or grey, and all words are read
abbrev pub time_at_rest : Time
time_at_rest = record {
  at_flip = [];
  condemned = [];
  is_read = λ id. true;
  colours = no_colours;
  is_reclaiming = false;
  next = 0;
  registered_before = 0;
}

-- the segments of an arena represent a world at a time
abbrev pub setting_at : Time → SegsState → World → Setting
setting_at t s w =
    setting_in s w.graph.objects w.graph.points w.point_memories (pool_layout w) t.at_flip t.condemned t.is_read

abbrev pub StandsAt : Time → SegsState → World → Type 0
StandsAt t s w = Stands (setting_at t s w) (memory_in s) w.addresses t.colours

-- What the heap doesn't keep: the model's number of what is kept under a key, and its time.
pub record Past : Type 0 where
  pub time : Time
  pub table_number : ℕ → ℕ
  pub area_number : ℕ → ℕ
  pub point_number : ℕ → ℕ
  pub transform_number : ℕ → ℕ

-- ---- what slots and words of areas hold

-- the address of what a reference leads to, if objects have these addresses; 0 is null
abbrev pub address_of_target : (addresses : List (Option Address)) → Option Id → Address
address_of_target addresses None = 0
address_of_target addresses (Some id) = option_map_or (λ at. at) (entry_at addresses id) 0

-- slots, or places of a table of blocks, hold the addresses of what they refer to
abbrev pub AreSlots : (addresses : List (Option Address)) → (number : ℕ) → List Address → Slots → Type 0
AreSlots addresses number slots ids = slots ≡ map (address_of_target addresses) ids

-- what is stored for a word of an area: what it shows, and whether it holds an object
abbrev pub stored_word : (addresses : List (Option Address)) → AreaWord → Stored
stored_word addresses (PlainWord number) = record { word = number; holds = false }
stored_word addresses (Hold id offset) = record { word = option_map_or (λ at. at + offset) (entry_at addresses id) 0; holds = true }

abbrev pub AreWords : (addresses : List (Option Address)) → (number : ℕ) → List Stored → List AreaWord → Type 0
AreWords addresses number stored words = stored ≡ map (stored_word addresses) words

-- ---- points

-- what is kept of a reservation is that of the model's, with its address; it is doomed if a flip came since it was made
pub record IsHeld (flips : ℕ) (held : Held) (r : Reservation) (reserved_at : Address) : Type 0 where
  pub at : held.at.0 ≡ reserved_at
  pub head : held.head ≡ r.head
  pub words : held.words ≡ length r.cells
  pub doomed : r.is_doomed ≡ not (held.flips == flips)

-- both have a reservation, and the one represents the other, or neither has
pub data AreHeldAlike (flips : ℕ) (reserved_at : Address) : Option Held → Option Reservation → Type 0 where
  BothHeld : {held : Held} {r : Reservation} → IsHeld flips held r reserved_at → AreHeldAlike flips reserved_at (Some held) (Some r)
  NoneHeld : AreHeldAlike flips reserved_at None None

-- a point of the heap represents a point of the model with what that has in the arena
pub record IsPoint (flips : ℕ) (is_copying : ℕ → Bool) (memories : List PointMemory) (number : ℕ) (p : Point)
    (q : graph.Point) : Type 0 where
  pub pool : p.pool ≡ q.pool
  pub rank : p.rank ≡ q.rank
  pub copying : p.is_copying ≡ is_copying q.pool
  pub memory : PointMemory
  pub has : slice_get memories number ≡ Some memory
  pub buffer : run_of p.buffer ≡ memory.buffer
  pub reservation : AreHeldAlike flips memory.reserved_at p.reservation q.reservation

-- ---- pools, dependencies and the arena's state

module _ {F : Type 0} (layout : F → Layout) where
  -- a pool of the heap represents a pool of the model, where the numbers of formats mean these. One of blocks of any sizes may have frames
  abbrev pub IsPool : (formats : ℕ → Layout) → Pool F → world.Pool → Type 0
  IsPool formats (pool.Automatic kind format) q =
      (q ≡ record { kind = Collected kind; format = q.format; chain = q.chain }) × (formats q.format ≡ layout format)
  IsPool formats (pool.OneSize words) q = q ≡ record { kind = OneSize words; format = 0; chain = None }
  IsPool formats pool.AnySize q =
      (q ≡ record { kind = AnySize; format = 0; chain = None }) ⊎ (q ≡ record { kind = Frames; format = 0; chain = None })

  -- so do all, by their numbers
  pub record ArePools (formats : ℕ → Layout) (pools : List (Pool F)) (numbered : List world.Pool) : Type 0 where
    pub count : length numbered ≡ length pools
    pub each : (number : ℕ) (p : Pool F) → slice_get pools number ≡ Some p
        → (q : world.Pool) × (slice_get numbered number ≡ Some q) × IsPool formats p q

-- the chains of the heap are those of the model, by their numbers, and each pool is on the same one. Only a pool that copies is on one.
pub record AreChains (kept : ChainsState) (chains : List (List ℕ)) (pools : List world.Pool) : Type 0 where
  pub same : kept ≡ record { chains = chains; of_pool = map (λ (p : world.Pool). p.chain) pools }
  pub copying : (number chain : ℕ) (p : world.Pool) → slice_get pools number ≡ Some p → p.chain ≡ Some chain
      → IsTrue (is_copying_kind p.kind)

-- what is kept of a dependency: its epoch and its zones
abbrev pub kept_of : Dependency → LdState
kept_of d = record { epoch = d.epoch; zones = d.zones }

-- the state of an arena, if transforms have these pairs where it is parked
abbrev pub state_of : ArenaState → List TransformPair → world.ArenaState
state_of arena.Unclamped pairs = world.Unclamped
state_of arena.Clamped pairs = world.Clamped
state_of arena.Parked pairs = world.Parked pairs

-- ---- names

-- what a thing is called in the model
abbrev pub numbered_thing : Past → Thing → graph.Thing
numbered_thing past (thing.Chain number) = graph.ChainThing number
numbered_thing past (thing.Pool number) = graph.PoolThing number
numbered_thing past (thing.Table key) = graph.TableThing (past.table_number key)
numbered_thing past (thing.Area key) = graph.AreaThing (past.area_number key)
numbered_thing past (thing.Blocks number) = graph.BlocksThing number
numbered_thing past (thing.Point key) = graph.PointThing (past.point_number key)
numbered_thing past (thing.Dependency number) = graph.DependencyThing number
numbered_thing past (thing.Label number) = graph.LabelThing number
numbered_thing past (thing.Cache number) = graph.CacheThing number
numbered_thing past (thing.Transform key) = graph.TransformThing (past.transform_number key)

-- a thing is there; of a label there is its name alone
abbrev pub IsThere : {F : Type 0} → HeapState F → Thing → Type 0
IsThere h (thing.Chain number) = number < length h.chains.chains
IsThere h (thing.Pool number) = number < length h.pools
IsThere h (thing.Table key) = IsSome (kept h.roots.tables key)
IsThere h (thing.Area key) = IsSome (kept h.roots.areas key)
IsThere h (thing.Blocks number) = number < length h.roots.blocks
IsThere h (thing.Point key) = IsSome (point_at h.points key)
IsThere h (thing.Dependency number) = number < length h.dependencies
IsThere h (thing.Label number) = Unit {0}
IsThere h (thing.Cache number) = number < length h.beside.caches
IsThere h (thing.Transform key) = is_live h.beside.transforms key ≡ true

-- names represent the same things in both, each for one that is there, and no two for the same. As many labels have names as there
-- are, each with a number of one of them, as many transforms, and no more caches than there are
pub record AreNamed {F : Type 0} (past : Past) (h : HeapState F) (names : List graph.NamedThing) (labels : List Name) : Type 0 where
  pub named : (name : Name) → thing_in names name ≡ option_map (numbered_thing past) (thing_named h.names name)
  pub there : (name : Name) (thing : Thing) → thing_named h.names name ≡ Some thing → IsThere h thing
  pub unique : (name other : Name) (thing : Thing) → thing_named h.names name ≡ Some thing → thing_named h.names other ≡ Some thing
      → same_name name other ≡ true
  pub once : AreTakenOnce names
  pub label_count : h.names.counts.labels ≡ length labels
  pub cache_count : h.names.counts.caches ≤ length h.beside.caches
  pub label_numbers : (name : Name) (number : ℕ) → thing_named h.names name ≡ Some (thing.Label number) → number < length labels
  pub transform_count : h.names.counts.transforms ≡ live_count h.beside.transforms.live

-- ---- the arena

-- it has grains, and no more than an arena may have, and open reservations lie in it, at words, also those that a flip ended
pub record IsArena (grains : ℕ) (points : PointsState) : Type 0 where
  pub nonzero : 0 < grains
  pub at_most : grains ≤ max_grains
  pub within : (key : ℕ) (p : Point) (held : Held) → point_at points key ≡ Some p → p.reservation ≡ Some held
      → word_of held.at.0 + held.words ≤ words_of_arena grains
  pub aligned : (key : ℕ) (p : Point) (held : Held) → point_at points key ≡ Some p → p.reservation ≡ Some held → held.at.0 % 8 ≡ 0

-- ---- registrations

-- the addresses that the first of some registrations goes by, where n are examined and m were made before the flip: those of now if
-- it was examined or made since the flip, and else those at the flip
abbrev pub addresses_of_first : (addresses at_flip : List (Option Address)) → (next before : ℕ) → List (Option Address)
addresses_of_first addresses at_flip zero (suc before) = at_flip
addresses_of_first addresses at_flip next before = addresses

-- each registration has the address of its object by these
abbrev pub AreRegistered : (addresses at_flip : List (Option Address)) → (next before : ℕ) → List Address → List Id → Type 0
AreRegistered addresses at_flip next before [] [] = Unit {0}
AreRegistered addresses at_flip next before (a ∷ ats) (id ∷ ids) =
    (entry_at (addresses_of_first addresses at_flip next before) id ≡ Some a)
    × AreRegistered addresses at_flip (next - 1) (before - 1) ats ids
AreRegistered addresses at_flip next before _ _ = ⊥

-- the registrations of a heap at a time
abbrev pub AreRegisteredAt : Time → (addresses : List (Option Address)) → List Address → List Id → Type 0
AreRegisteredAt t addresses ats ids = AreRegistered addresses t.at_flip t.next t.registered_before ats ids

-- ---- all of it

-- the parts of a heap represent those of a world, at a time
pub record AreParts {F : Type 0} (layout : F → Layout) (past : Past) (h : HeapState F) (w : World) : Type 0 where
  -- the arena: its size and its limit, its segments, and its words, marks and runs
  pub grains : h.segs.grains ≡ w.grains
  pub limit : h.segs.limit ≡ w.limit
  pub segments : h.segs.segments ≡ w.segments
  pub image : StandsAt past.time h.segs w
  pub arena : IsArena h.segs.grains h.points
  -- the summaries of segments have the zones of what their blocks and reservations refer to
  pub summed : AreWordsSummed layout (map policy_of_pool h.pools) h.segs
  -- the roots, tables in the order in which they were made, and how many there are
  pub tables : AreNumbered (AreSlots w.addresses) past.table_number (kept h.roots.tables) w.graph.tables
  pub ordered : AreOrdered past.table_number h.roots.order (kept h.roots.tables) w.graph.tables
  pub areas : AreNumbered (AreWords w.addresses) past.area_number (kept h.roots.areas) w.graph.areas
  pub blocks : h.roots.blocks ≡ map (map (address_of_target w.addresses)) w.graph.blocks
  pub roots_counted : h.live_roots ≡ live_roots w.graph
  pub slots_counted : h.live_slots ≡ live_slots w.graph
  -- the points
  pub points : AreNumbered (IsPoint (length w.flips) (world.is_copying_pool w) w.point_memories) past.point_number (point_at h.points)
      w.graph.points
  pub points_counted : h.live_points ≡ live_points w.graph
  -- registrations and messages
  pub registered : AreRegisteredAt past.time w.addresses h.finals.registered w.graph.registered
  pub messages : h.finals.messages ≡ map (address_of_id w.addresses) w.graph.messages
  -- flips and dependencies
  pub flips : AreFlips h.epochs w.flips
  pub point_flips : h.points.flips ≡ length w.flips
  pub dependencies : h.dependencies ≡ map kept_of w.dependencies
  -- the formats are lawful; pools with their chains, names and the arena's state
  pub lawful : (number : ℕ) → IsLawful (w.formats number)
  pub pools : ArePools layout w.formats h.pools w.pools
  pub sizes : h.sizes ≡ map size_of_pool h.pools
  pub chains : AreChains h.chains w.chains w.pools
  pub names : AreNamed past h w.graph.names w.graph.labels
  pub state : w.state ≡ state_of h.arena (world.pairs_in w.state)
  -- what stands beside the blocks
  pub beside : IsBeside h.beside w.addresses w.graph.caches w.graph.dependents
  pub transforms : AreTransforms past.transform_number (world.is_copying_object w) w.addresses h.beside.transforms w.graph.transforms
      (world.pairs_in w.state)
  -- the pools of frames
  pub framed : AreFramed h.beside.frames h.roots.blocks w.graph.blocks w.pools w.graph.frames

-- ---- what is known of the collection that runs, if one does

-- there are at most as many addresses at the flip as objects, and an object of a pool that doesn't move has kept its own
pub record AreOfFlip (at_flip : List (Option Address)) (w : World) : Type 0 where
  pub made : length at_flip ≤ length w.graph.objects
  pub still : (id : Id) (from to : Address) → world.is_copying_object w id ≡ false → entry_at at_flip id ≡ Some from
      → entry_at w.addresses id ≡ Some to → from ≡ to

-- of the held segments those that begin at these addresses are condemned, and no others
abbrev pub AreCondemnedIn : (condemned : List Bool) → List Segment → (bases : List Address) → Type 0
AreCondemnedIn condemned held bases = (t : Segment) → Contains held t → bit condemned (grain_of t.base) ≡ contains bases t.base

-- what a heap has of a collection: its segments, the tails of its pools, and the collection that runs, if one does
pub record CollectorState : Type 0 where
  pub segs : SegsState
  pub tails : AmcState
  pub running : Option RunningState

abbrev pub collector_of : {F : Type 0} → HeapState F → CollectorState
collector_of h = record { segs = h.segs; tails = h.tails; running = h.running }

-- what the collector and a time are where no collection runs: no segment is condemned, and no block is marked as kept
pub record Rests (t : Time) (s : CollectorState) (w : World) : Type 0 where
  pub none : w.collection ≡ None
  pub time : t ≡ time_at_rest
  pub not_running : s.running ≡ None
  pub not_condemned : (grain : ℕ) → bit s.segs.condemned grain ≡ false
  pub not_kept : (n : Word) → bit s.segs.marks.kept n ≡ false

-- until it reclaims all words are read, the tails are the world's, and grey marks have the rank of their segments
pub record IsTracing (t : Time) (s : CollectorState) (w : World) (x : Collecting) : Type 0 where
  pub read : t.is_read ≡ (λ id. true)
  pub band : is_reclaiming_band x.band ≡ false
  pub tails : (pool generation : ℕ) → run_of (tail_of s.tails pool generation) ≡ world.tail_of w pool generation
  pub ranked : AreMarksRanked s.segs

-- once it reclaims, only what isn't white is read, nothing is grey, all registrations were examined, and no address at the flip counts
pub record IsReclaiming (t : Time) (x : Collecting) : Type 0 where
  pub none_at_flip : t.at_flip ≡ []
  pub read : t.is_read ≡ (λ id. not (is_white t.condemned t.colours id))
  pub band : IsTrue (is_reclaiming_band x.band)
  pub scanned : AreAllScanned x.colours
  pub examined : AreAllExamined x

-- a running collection is as far as the abstract one
pub record IsAsFar (run : RunningState) (x : Collecting) : Type 0 where
  pub band : band_of run.band ≡ x.band
  pub cursor : run.cursor.0 ≡ x.cursor
  pub next : run.next ≡ x.next
  pub registered_before : run.registered_before ≡ x.running.registered_before

-- what the collector and a time are to a state of the abstract collector: a collection runs in the world, and they are those of that state
pub record Runs (t : Time) (s : CollectorState) (w : World) (x : Collecting) : Type 0 where
  pub world : x.world ≡ w
  pub invariant : Running x
  -- the collection that the heap has
  pub run : RunningState
  pub running : s.running ≡ Some run
  pub as_far : IsAsFar run x
  pub condemned_ids : t.condemned ≡ x.running.condemned
  pub colours : t.colours ≡ x.colours
  pub next : t.next ≡ x.next
  pub registered_before : t.registered_before ≡ x.running.registered_before
  pub tracing : t.is_reclaiming ≡ false → IsTracing t s w x
  pub reclaiming : t.is_reclaiming ≡ true → IsReclaiming t x
  pub condemned : AreCondemnedIn s.segs.condemned w.segments x.running.condemned_segments
  pub flip : AreOfFlip t.at_flip w

-- at a time no collection runs, or one does
pub data IsInTime (t : Time) (s : CollectorState) (w : World) : Type 0 where
  rests : Rests t s w → IsInTime t s w
  runs : (x : Collecting) → Runs t s w x → IsInTime t s w

-- a legal history reaches a world, in which the arena is made by the first command alone
pub record IsReached (w : World) : Type 0 where
  pub history : History
  pub legal : IsLegalHistoryOf w.formats history
  pub once : IsTrue (is_arena_made_once history)
  pub is : w ≡ reached w.formats history

-- The state of a heap represents a world.
pub record StandsFor {F : Type 0} (layout : F → Layout) (h : HeapState F) (w : World) : Type 0 where
  pub past : Past
  pub parts : AreParts layout past h w
  pub time : IsInTime past.time (collector_of h) w
  pub reached : IsReached w

-- ---- vectors: object 0 was at 0x1000 at the flip, and is at 0x2000 now

abbrev now_at : List (Option Address)
now_at = Some 0x2000 ∷ []

abbrev was_at : List (Option Address)
was_at = Some 0x1000 ∷ []

-- it is registered twice, and the first registration was examined
pub registered_before_the_flip : AreRegistered now_at was_at 1 2 (0x2000 ∷ 0x1000 ∷ []) (0 ∷ 0 ∷ [])
registered_before_the_flip = (refl, (refl, tt))

pub registered_since_the_flip : AreRegistered now_at was_at 1 1 (0x2000 ∷ 0x2000 ∷ []) (0 ∷ 0 ∷ [])
registered_since_the_flip = (refl, (refl, tt))

pub examined_at_its_old_address : AreRegistered now_at was_at 1 1 (0x1000 ∷ []) (0 ∷ []) → ⊥
examined_at_its_old_address are =
    let e : ◌≡◌ {A = ℕ} 0x2000 0x1000 = ap (λ (o : Option Address). option_map_or (λ at. at) o 0) are.0 in omega (arith, e)

-- at rest no address at the flip counts
pub registered_at_an_old_address : AreRegisteredAt time_at_rest now_at (0x1000 ∷ []) (0 ∷ []) → ⊥
registered_at_an_old_address are =
    let e : ◌≡◌ {A = ℕ} 0x2000 0x1000 = ap (λ (o : Option Address). option_map_or (λ at. at) o 0) are.0 in omega (arith, e)

-- a manual pool is on no chain
pub a_manual_pool_on_a_chain : (kept : ChainsState) (chains : List (List ℕ))
    → AreChains kept chains (record { kind = AnySize; format = 0; chain = Some 0 } ∷ []) → ⊥
a_manual_pool_on_a_chain kept chains are =
    let e : false ≡ true = are.copying 0 0 (record { kind = AnySize; format = 0; chain = Some 0 }) refl refl in absurd cc

-- a pool that is on no chain of the heap is on none of the model
pub a_pool_on_another_chain : (kept : ChainsState) (chains : List (List ℕ)) → kept.of_pool ≡ None ∷ []
    → AreChains kept chains (record { kind = Collected Amc; format = 1; chain = Some 0 } ∷ []) → ⊥
a_pool_on_another_chain kept chains none are =
    let e : ◌≡◌ {A = List (Option ℕ)} (None ∷ []) (Some 0 ∷ []) = sym none ∙ ap (λ (c : ChainsState). c.of_pool) are.same in
    let f : ◌≡◌ {A = Option ℕ} None (Some 0) = ap (λ (os : List (Option ℕ)). option_and_then (λ o. o) (slice_get os 0)) e in
    absurd cc

abbrev segment_at_0x1000 : Segment
segment_at_0x1000 = record { base = 0x1000; grains = 1; pool = 0; generation = 0; rank = Exact }

pub one_is_condemned : AreCondemnedIn (false ∷ true ∷ []) (segment_at_0x1000 ∷ []) (0x1000 ∷ [])
unfolding bit
one_is_condemned t (zero, less, is) =
    subst (λ (u : Segment). bit (false ∷ true ∷ []) (grain_of u.base) ≡ contains (0x1000 ∷ []) u.base) is refl
one_is_condemned t (suc n, less, is) = absurd (omega (arith, less))

pub one_has_no_bit : AreCondemnedIn (false ∷ false ∷ []) (segment_at_0x1000 ∷ []) (0x1000 ∷ []) → ⊥
unfolding bit
one_has_no_bit are = let e : false ≡ true = are segment_at_0x1000 (0, lit< tt, refl) in absurd cc

pub more_addresses_than_objects : (w : World) → w.graph.objects ≡ [] → AreOfFlip was_at w → ⊥
more_addresses_than_objects w none are =
    let made : 1 ≤ length w.graph.objects = are.made in let e : length w.graph.objects ≡ 0 = ap length none in omega (arith, made, e)

pub a_condemned_segment_at_rest : (t : Time) (s : CollectorState) (w : World) → s.segs.condemned ≡ true ∷ [] → Rests t s w → ⊥
unfolding bit
a_condemned_segment_at_rest t s w condemned rest =
    let e : true ≡ false = sym (ap (λ bits. bit bits 0) condemned) ∙ rest.not_condemned 0 in absurd cc

pub an_earlier_band : (run : RunningState) (x : Collecting) → run.band ≡ band.Exact → x.band ≡ abstract.Weak → IsAsFar run x → ⊥
an_earlier_band run x exact weak as_far =
    let e : abstract.Exact ≡ abstract.Weak = sym (ap band_of exact) ∙ as_far.band ∙ weak in absurd cc
