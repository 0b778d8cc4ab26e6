-- The abstract collector: a world in which a collection runs, with the colours of its objects, and what holds between any two
-- calls.
use Rattle.std.specs.Prelude.{◌≡◌, ◌⊎◌, ◌+◌, ◌-◌, ◌<◌, ◌≤◌, ℕ, Bool, true, false, nat_le, IsTrue, Option, Some, List, [], ◌∷◌, length, slice_get, count_by, refl}
use Rattle.mps_base.specs.Address.{Id, Address}
use Rattle.mps_base.specs.Segment.{Segment}
use Rattle.mps_model.specs.Graph.{contains, entry_at, ids_of_client, is_automatic, is_weak_object}
use Rattle.mps_model.specs.Collection.{Collection, is_condemned}
use Rattle.mps_model.specs.World.{World, is_automatic_kind, pool_is, is_live, live_ids, segment_at, object_is, is_copying_object}
use Rattle.mps_model.specs.Effect.{segment_base_of}
use Rattle.mps_model.specs.LegalMove.{ForOne, is_tracing, may_splat, holds_something}
use Rattle.mps_model.specs.Units.{is_ascending}
use Rattle.mps_abstract.specs.Colours.{Colours, is_white, is_to_scan, AreColoured, AllReferredLive, AreGreyKept, AreColoursDrained, AreAllScanned, AreSettled, AreSurvivors, AreDifferent}

-- the bands of a collection, in their order. A band is entered by the first unit that works in it
pub data Band : Type 0 where
  -- objects that aren't weak are scanned
  Exact : Band
  -- registrations are examined, and what that makes grey is scanned
  Final : Band
  -- weak objects are scanned: references to white objects are splatted
  Weak : Band
  -- condemned segments are reclaimed
  Reclaim : Band

-- whether objects are still kept and moved: up to the final band
abbrev pub is_tracing_band : Band → Bool
is_tracing_band Exact = true
is_tracing_band Final = true
is_tracing_band Weak = false
is_tracing_band Reclaim = false

-- whether objects are freed
abbrev pub is_reclaiming_band : Band → Bool
is_reclaiming_band Exact = false
is_reclaiming_band Final = false
is_reclaiming_band Weak = false
is_reclaiming_band Reclaim = true

pub record Collecting : Type 0 where
  pub world : World
  -- the world's collection
  pub running : Collection
  pub colours : Colours
  pub band : Band
  -- the position of the registration that is examined next
  pub next : ℕ
  -- segments below this address were reclaimed
  pub cursor : Address

-- ---- by what collects

abbrev pub is_white_in : Collecting → (id : Id) → Bool
is_white_in x id = is_white x.running.condemned x.colours id

-- nothing but weak objects is grey
abbrev pub IsDrainedIn : Collecting → Type 0
IsDrainedIn x = AreColoursDrained (object_is is_weak_object x.world) x.colours

-- every registration that was made before the flip was examined
abbrev pub AreAllExamined : Collecting → Type 0
AreAllExamined x = x.next ≡ x.running.registered_before

-- ---- what holds of the parts

-- what is condemned is automatic, and condemned segments are held
pub record AreCondemned (automatic : Id → Bool) (held : Address → Option Segment) (automatic_pool : ℕ → Bool)
    (c : Collection) : Type 0 where
  pub objects : (id : Id) → IsTrue (is_condemned c id) → IsTrue (automatic id)
  -- their bases ascend, and none is 0
  pub bases : IsTrue (is_ascending 0 c.condemned_segments)
  pub segments : (base : Address) → IsTrue (contains c.condemned_segments base) → ForOne (held base) (λ s. IsTrue (automatic_pool s.pool))

-- registrations: those that were examined, and those that were made since the flip, aren't of white objects
pub record AreExamined (registered : List Id) (live : Id → Bool) (c : Collection) (k : Colours) (next : ℕ) : Type 0 where
  pub live_registered : (id : Id) → IsTrue (contains registered id) → IsTrue (live id)
  pub from : c.examined ≤ next
  pub up_to : next ≤ c.registered_before
  pub existing : c.registered_before ≤ length registered
  pub examined : (position : ℕ) (id : Id) → slice_get registered position ≡ Some id → (position < next) ⊎ (c.registered_before ≤ position)
      → is_white c.condemned k id ≡ false

-- what each band has done
pub record IsInBand (x : Collecting) : Type 0 where
  pub tracing : IsTrue (is_tracing_band x.band) → IsTrue (is_tracing x.running.phase)
  pub splatting : is_reclaiming_band x.band ≡ false → IsTrue (may_splat x.running.phase)
  pub drained : is_tracing_band x.band ≡ false → IsDrainedIn x
  pub examined : is_tracing_band x.band ≡ false → AreAllExamined x
  pub scanned : IsTrue (is_reclaiming_band x.band) → AreAllScanned x.colours
  -- before the last band nothing is freed, and no segment is reclaimed
  pub referred_live : is_reclaiming_band x.band ≡ false → AllReferredLive x.world.graph (is_live x.world)
  pub unswept : is_reclaiming_band x.band ≡ false → x.cursor ≡ 0

-- an address lies in a condemned segment from the cursor on, where each address lies in the segment of this base
pub record IsToGo (base_of : Address → Address) (bases : List Address) (cursor at : Address) : Type 0 where
  pub condemned : IsTrue (contains bases (base_of at))
  pub above : cursor ≤ base_of at

-- below the cursor all is reclaimed
pub record AreSwept (addresses : List (Option Address)) (base_of : Address → Address) (holds : Address → Bool) (c : Collection)
    (k : Colours) (cursor : Address) : Type 0 where
  -- condemned segments below it that are still held hold something
  pub hold : (base : Address) → IsTrue (contains c.condemned_segments base) → base < cursor → IsTrue (holds base)
  -- and nothing white
  pub to_go : (id : Id) (at : Address) → entry_at addresses id ≡ Some at → IsTrue (is_white c.condemned k id)
      → IsToGo base_of c.condemned_segments cursor at
  -- those from it on lie above the one that was reclaimed last
  pub in_turn : (base : Address) → IsTrue (contains c.condemned_segments base) → cursor ≤ base → c.reclaimed_to < base
  -- and there is one, or the collection would have ended
  pub one_left : (base : Address) × IsTrue (contains c.condemned_segments base) × (cursor ≤ base)

-- ---- the units that are left

-- how many objects may still have to be scanned, of these that are live
abbrev pub objects_left : (condemned : List Id) → Colours → (live : List Id) → ℕ
objects_left condemned k live = count_by (is_to_scan condemned k) live

-- how many segments are to be reclaimed
abbrev pub segments_left : (bases : List Address) → (cursor : Address) → ℕ
segments_left bases cursor = count_by (nat_le cursor) bases

-- how many units a collection may take from here on
abbrev pub units_left : Collecting → ℕ
units_left x =
    objects_left x.running.condemned x.colours (live_ids x.world) + (x.running.registered_before - x.next)
    + segments_left x.running.condemned_segments x.cursor

-- ---- the invariant

-- what holds between any two calls while a collection runs
pub record Running (x : Collecting) : Type 0 where
  pub runs : x.world.collection ≡ Some x.running
  pub different : AreDifferent x.world.addresses
  pub condemned : AreCondemned (object_is is_automatic x.world) (segment_at x.world) (pool_is is_automatic_kind x.world) x.running
  pub coloured : AreColoured (ids_of_client x.world.graph) x.world.graph (is_live x.world) x.running.condemned x.colours
  pub grey : AreGreyKept (object_is is_automatic x.world) (is_live x.world) x.running.condemned x.colours
  pub settled : AreSettled (is_copying_object x.world) x.running x.colours
  pub survivors : AreSurvivors x.world.graph (is_live x.world) x.running x.colours
  pub examined : AreExamined x.world.graph.registered (is_live x.world) x.running x.colours x.next
  pub band : IsInBand x
  pub swept : AreSwept x.world.addresses (segment_base_of x.world) (holds_something x.world) x.running x.colours x.cursor
  pub units : x.running.spent + units_left x ≤ x.running.units

-- ---- vectors

pub weak_objects_wait_for_their_band : is_tracing_band Weak ≡ false
weak_objects_wait_for_their_band = refl

pub white_and_grey_objects_are_left : objects_left (1 ∷ 2 ∷ 3 ∷ []) (record { kept = 1 ∷ 2 ∷ []; grey = 1 ∷ [] }) (0 ∷ 1 ∷ 2 ∷ 3 ∷ []) ≡ 2
white_and_grey_objects_are_left = refl

pub a_freed_object_is_not_left : objects_left (1 ∷ 2 ∷ 3 ∷ []) (record { kept = 1 ∷ 2 ∷ []; grey = 1 ∷ [] }) (0 ∷ 1 ∷ 2 ∷ []) ≡ 1
a_freed_object_is_not_left = refl

pub segments_from_the_cursor_on_are_left : segments_left (0x1000 ∷ 0x2000 ∷ 0x4000 ∷ []) 0x2000 ≡ 2
segments_from_the_cursor_on_are_left = refl
