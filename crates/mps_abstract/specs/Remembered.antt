-- Which objects a flip has to scan besides those that it condemns: what it doesn't condemn, in segments that may refer to what it does.
use Rattle.std.specs.Prelude.{◌≡◌, ℕ, Bool, true, false, not, ◌&&◌, IsTrue, Some, List, [], Contains, filter, refl}
use Rattle.std.specs.List.{list_any}
use Rattle.mps_base.specs.Address.{Id, Address}
use Rattle.mps_base.specs.Segment.{Segment, is_in_segment}
use Rattle.mps_base.specs.Zones.{zones_meet, zone_bit_of}
use Rattle.mps_model.specs.Graph.{contains, targets}
use Rattle.mps_model.specs.World.{World, address_of, is_live, is_live_and, live_automatic_ids}
use Rattle.mps_model.specs.Effect.{Condemnation, Everything, Generations, condemned_ids, condemned_zones}
use Rattle.mps_abstract.specs.FlipLaws.{IsAtRest, AreRemembered, collecting_after_flip}

-- the summaries of segments, by their bases, have the zones of what the live objects in them refer to
abbrev pub AreSummed : World → (summary : Address → ℕ) → Type 0
AreSummed w summary =
    (id target : Id) (at to : Address) (s : Segment) → address_of w id ≡ Some at → Contains w.segments s → is_in_segment s at ≡ true
    → IsTrue (contains (targets w.graph id) target) → address_of w target ≡ Some to
    → zones_meet (zone_bit_of to) (summary s.base) ≡ true

-- whether an object lies in a segment whose summary has one of these zones
abbrev pub may_lead : World → (summary : Address → ℕ) → (zones : ℕ) → (id : Id) → Segment → Bool
may_lead w summary zones id s = is_live_and (is_in_segment s) w id && zones_meet (summary s.base) zones

-- the live automatic objects that a flip doesn't condemn, in segments whose summaries have one of its zones. A full flip leaves none
abbrev pub remembered : (summary : Address → ℕ) → World → Condemnation → List Id
remembered summary w Everything = []
remembered summary w (Generations chain generation) =
    filter (λ id. not (contains (condemned_ids w (Generations chain generation)) id)
    && list_any (may_lead w summary (condemned_zones w (Generations chain generation)) id) w.segments) (live_automatic_ids w)

-- the zones of a flip have that of each object that it condemns, as its pool moves its blocks
abbrev pub AreAllZoned : World → Condemnation → Type 0
AreAllZoned w what =
    (id : Id) (at : Address) → IsTrue (contains (condemned_ids w what) id) → address_of w id ≡ Some at
    → zones_meet (zone_bit_of at) (condemned_zones w what) ≡ true

-- what a flip neither condemns nor remembers refers to nothing that it condemns
abbrev pub RefersToNothingElse : (summary : Address → ℕ) → World → Condemnation → Type 0
RefersToNothingElse summary w what =
    (id target : Id) → IsTrue (is_live w id) → contains (condemned_ids w what) id ≡ false → contains (remembered summary w what) id ≡ false
    → IsTrue (contains (targets w.graph id) target) → contains (condemned_ids w what) target ≡ false

-- so it is if the summaries have the zones of what is referred to
abbrev pub SummariesRemember : Type 0
SummariesRemember =
    (w : World) (what : Condemnation) (summary : Address → ℕ) → IsAtRest w → AreSummed w summary → AreAllZoned w what
    → RefersToNothingElse summary w what

-- and then what is remembered is all that a flip has to scan besides
abbrev pub RememberedIsEnough : Type 0
RememberedIsEnough =
    (w : World) (what : Condemnation) (summary : Address → ℕ) → IsAtRest w → RefersToNothingElse summary w what
    → AreRemembered (collecting_after_flip w what (remembered summary w what)) (remembered summary w what)

-- ---- vectors

pub a_full_flip_remembers_nothing : (w : World) (summary : Address → ℕ) → remembered summary w Everything ≡ []
a_full_flip_remembers_nothing w summary = refl
