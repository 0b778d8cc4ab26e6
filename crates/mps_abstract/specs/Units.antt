-- The steps of a collection: its units, the read barrier, and sequences of units.
use Rattle.std.specs.Prelude.{◌≡◌, ◌<◌, ◌≤◌, ◌+◌, ℕ, suc, Bool, false, ◌&&◌, IsTrue, Some, List, [], ◌∷◌, ◌++◌, slice_get}
use Rattle.mps_base.specs.Address.{Id, Address, word_of, address_of_word}
use Rattle.mps_base.specs.Segment.{Segment, is_in_segment}
use Rattle.mps_base.specs.declared.moves.Move.{Move}
use Rattle.mps_base.specs.declared.moves.Move.TheVariants as moves
use Rattle.mps_model.specs.Graph.{contains, targets, is_weak_object, entry_at}
use Rattle.mps_model.specs.Collection.{Collection}
use Rattle.mps_model.specs.World.{is_live_and, object_is, segment_at}
use Rattle.mps_model.specs.Accessing.{address_or_null}
use Rattle.mps_model.specs.Effect.{after_splat, splatting, posting, after_post, segment_base_of, world_after_moves}
use Rattle.mps_model.specs.Flip.{at_address}
use Rattle.mps_model.specs.LegalMove.{target_in_cell}
use Rattle.mps_model.specs.History.{asking}
use Rattle.mps_model.specs.Units.{splats_of, is_ascending, is_last_condemned, reclaim_of}
use Rattle.mps_abstract.specs.Colours.{is_grey, blackened, AreAllScanned}
use Rattle.mps_abstract.specs.Collecting.{Final, Weak, Reclaim, Collecting, is_tracing_band, is_white_in, IsDrainedIn, AreAllExamined}
use Rattle.mps_abstract.specs.Fixing.{Keeps, Fixes, kept_by}

-- ---- scanning

-- an object was scanned
abbrev pub collecting_after_scan : Collecting → (id : Id) → Collecting
collecting_after_scan x id = record x { colours = blackened x.colours id }

-- ---- splatting

-- a weak reference of an object was splatted
abbrev pub collecting_after_splat : Collecting → (holder cell : ℕ) → Collecting
collecting_after_splat x holder cell = record x { world = after_splat x.world holder cell; running = splatting x.running }

-- nothing that an object refers to is white
abbrev pub AreTargetsKept : Collecting → (id : Id) → Type 0
AreTargetsKept x id = (target : Id) → IsTrue (contains (targets x.world.graph id) target) → is_white_in x target ≡ false

-- those references of an object are splatted that refer to white objects, in these cells
pub data Splats (holder : Id) : Collecting → (cells : List ℕ) → Collecting → Type 0 where
  splats_no_more : {x : Collecting} → AreTargetsKept x holder → Splats holder x [] x
  splats_cell : {x y : Collecting} {cell target : ℕ} {cells : List ℕ} → target_in_cell x.world holder cell ≡ Some target
      → IsTrue (is_white_in x target) → Splats holder (collecting_after_splat x holder cell) cells y → Splats holder x (cell ∷ cells) y

-- the moves of these splats
abbrev pub splats_by : Collecting → (holder : Id) → (cells : List ℕ) → List Move
splats_by x holder cells = splats_of (at_address (address_or_null x.world holder)) cells

-- ---- examining

-- the registration that is examined next is of this object
pub record IsExaminedNext (x : Collecting) (id : Id) : Type 0 where
  pub drained : IsDrainedIn x
  pub before_flip : x.next < x.running.registered_before
  pub registered : slice_get x.world.graph.registered x.next ≡ Some id

-- an object was posted, after it was kept
abbrev pub collecting_after_post : Collecting → (id : Id) → Collecting
collecting_after_post x id = record x { world = after_post x.world id; running = posting id x.next x.running; band = Final }

-- ---- reclaiming

-- a white object lies at an address in a segment
pub record IsWhiteAt (x : Collecting) (s : Segment) (at : Address) : Type 0 where
  pub id : Id
  pub address : entry_at x.world.addresses id ≡ Some at
  pub white : IsTrue (is_white_in x id)
  pub base : segment_base_of x.world at ≡ s.base
  pub inside : IsTrue (is_in_segment s at)

-- a condemned segment, and the addresses of the objects in it that go
pub record IsReclaimedNext (x : Collecting) (s : Segment) (freed : List Address) : Type 0 where
  pub scanned : AreAllScanned x.colours
  pub examined : AreAllExamined x
  pub held : segment_at x.world s.base ≡ Some s
  -- it is the first condemned one from the cursor on
  pub condemned : IsTrue (contains x.running.condemned_segments s.base)
  pub from_cursor : x.cursor ≤ s.base
  pub first : (base : Address) → IsTrue (contains x.running.condemned_segments base) → x.cursor ≤ base → s.base ≤ base
  -- exactly the white objects in it go
  pub ascending : IsTrue (is_ascending 0 freed)
  pub white : (at : Address) → IsTrue (contains freed at) → IsWhiteAt x s at
  pub all : (id : Id) (at : Address) → entry_at x.world.addresses id ≡ Some at → IsTrue (is_white_in x id)
      → segment_base_of x.world at ≡ s.base → IsTrue (contains freed at)
  -- they begin in no other held segment
  pub apart : (base : Address) (t : Segment) (at : Address) → segment_at x.world base ≡ Some t → (base ≡ s.base → ⊥)
      → IsTrue (contains freed at) → is_in_segment t (address_of_word (word_of at)) ≡ false

-- the moves of a reclaim
abbrev pub reclaim_by : Collecting → (base : Address) → (freed : List Address) → List Move
reclaim_by x base freed = reclaim_of x.world x.running base freed

-- the state after a reclaim after which the collection goes on
abbrev pub collecting_after_reclaim : Collecting → (base : Address) → (freed : List Address) → Collection → Collecting
collecting_after_reclaim x base freed c = record x {
  world = world_after_moves x.world (reclaim_by x base freed);
  running = c;
  band = Reclaim;
  cursor = suc base;
}

-- ---- units

-- a unit, after which the collection goes on
pub data IsUnit (x : Collecting) : List Move → Collecting → Type 0 where
  -- an object that isn't weak is scanned
  scans : (id : Id) {y : Collecting} {ms : List Move} → IsTrue (is_grey x.colours id) → object_is is_weak_object x.world id ≡ false
      → Fixes x (targets x.world.graph id) ms y → IsUnit x ms (collecting_after_scan y id)
  -- a registration is examined, of an object that isn't white
  examines : (id : Id) → IsExaminedNext x id → is_white_in x id ≡ false → IsUnit x [] (record x { band = Final; next = suc x.next })
  -- or of a white one, which is kept and posted
  posts : (id : Id) {ms : List Move} {c : Collection} → IsExaminedNext x id → IsTrue (is_white_in x id) → Keeps x.world x.running id ms c
      → IsUnit x (ms ++ moves.Post (at_address (address_or_null (world_after_moves x.world ms) id)) ∷ [])
      (collecting_after_post (kept_by x id ms c) id)
  -- a weak object is scanned
  splats : (id : Id) {y : Collecting} {cells : List ℕ} → IsDrainedIn x → AreAllExamined x → IsTrue (is_grey x.colours id)
      → Splats id (record x { band = Weak }) cells y → IsUnit x (splats_by x id cells) (collecting_after_scan y id)
  -- a segment is reclaimed, and others are left
  reclaims : {s : Segment} {freed : List Address} {c : Collection} → IsReclaimedNext x s freed
      → is_last_condemned x.running s.base ≡ false → (world_after_moves x.world (reclaim_by x s.base freed)).collection ≡ Some c
      → IsUnit x (reclaim_by x s.base freed) (collecting_after_reclaim x s.base freed c)

-- the unit in which the collection ends: the last segment is reclaimed
pub data IsLastUnit (x : Collecting) : List Move → Type 0 where
  reclaims_last : {s : Segment} {freed : List Address} → IsReclaimedNext x s freed
      → IsTrue (is_last_condemned x.running s.base) → IsLastUnit x (reclaim_by x s.base freed)

-- ---- sequences of units

-- n units, after which the collection goes on
pub data GoesOn (x : Collecting) : (count : ℕ) → List Move → Collecting → Type 0 where
  begun : GoesOn x 0 [] x
  by_one_more : {y z : Collecting} {count : ℕ} {done piece : List Move} → GoesOn x count done y → IsUnit y piece z
      → GoesOn x (suc count) (done ++ piece) z

-- n units, in the last of which the collection ends
pub data Ends (x : Collecting) : (count : ℕ) → List Move → Type 0 where
  by_last : {y : Collecting} {count : ℕ} {done piece : List Move} → GoesOn x count done y → IsLastUnit y piece
      → Ends x (suc count) (done ++ piece)

-- n units were asked of the collection by a call
abbrev pub asked : Collecting → (count : ℕ) → Collecting
asked x count = record x {
  world = asking (Some count) x.world;
  running = record x.running { spent = x.running.spent + count };
}

-- ---- the read barrier

-- an object in a segment is grey
abbrev pub is_grey_in : Segment → Collecting → (id : Id) → Bool
is_grey_in s x id = is_live_and (is_in_segment s) x.world id && is_grey x.colours id

-- the objects in a segment are scanned, until none of them is grey: weak ones as all others, or their references are splatted
pub data BarrierDone (s : Segment) : Collecting → List Move → Collecting → Type 0 where
  barrier_done : {x : Collecting} → ((id : Id) → is_grey_in s x id ≡ false) → BarrierDone s x [] x
  barrier_scans : (id : Id) {x y z : Collecting} {these those : List Move} → IsTrue (is_tracing_band x.band) → IsTrue (is_grey_in s x id)
      → Fixes x (targets x.world.graph id) these y → BarrierDone s (collecting_after_scan y id) those z → BarrierDone s x (these ++ those) z
  barrier_splats : (id : Id) {x y z : Collecting} {cells : List ℕ} {those : List Move} → is_tracing_band x.band ≡ false
      → IsTrue (is_grey_in s x id) → Splats id x cells y → BarrierDone s (collecting_after_scan y id) those z
      → BarrierDone s x (splats_by x id cells ++ those) z
