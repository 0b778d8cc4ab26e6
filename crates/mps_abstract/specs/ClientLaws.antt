-- What is shown of the calls of the client while a collection runs: each keeps the invariant.
use Rattle.std.specs.Prelude.{◌≡◌, ◌<◌, ◌≤◌, ℕ, false, IsTrue, Option, Some, Ok, Err, List, [], ◌∷◌, refl}
use Rattle.std.proofs.Common.{arith, subst}
use Rattle.std.specs.List.{list_all}
use Rattle.mps_base.specs.Address.{Id, Address}
use Rattle.mps_base.specs.declared.moves.Move.{Move}
use Rattle.mps_base.specs.declared.names.Name.{Name}
use Rattle.mps_base.specs.declared.names.Slot.{Slot}
use Rattle.mps_base.specs.declared.names.Rank.TheVariants.{Exact}
use Rattle.mps_base.specs.declared.refusal.Refusal.TheVariants as refusal
use Rattle.mps_base.specs.Segment.{Segment, end_of_segment}
use Rattle.mps_model.specs.declared.call.Call.{Call}
use Rattle.mps_model.specs.declared.call.Call.TheVariants as call
use Rattle.mps_model.specs.Answer.{Answer, is_block}
use Rattle.mps_model.specs.Step.{Step}
use Rattle.mps_model.specs.Graph.{contains, targets, position_of_first, ids_of_client, ids_in_blocks}
use Rattle.mps_model.specs.Collection.{Collection}
use Rattle.mps_model.specs.World.{World, is_live, block_of_word}
use Rattle.mps_model.specs.WellFormed.{IsWellFormed}
use Rattle.mps_model.specs.Checked.{Checked, Found, ◌>>=◌, required, slot_in, object_in}
use Rattle.mps_model.specs.Collecting.{without_position, without_registration}
use Rattle.mps_model.specs.Effect.{world_after_moves}
use Rattle.mps_model.specs.Policy.{units_asked}
use Rattle.mps_model.specs.History.{moves_of_collector, asking, remembering, world_after, AreMovesOf}
use Rattle.mps_abstract.specs.Colours.{AreDifferent}
use Rattle.mps_abstract.specs.Collecting.{Collecting, Running, is_white_in}

-- ---- the collector's part of a step, and the client's

-- the world that the collector's part of a step leaves: its moves, and the units that are asked of it
abbrev pub collected_world : World → Step → World
collected_world w s = asking (units_asked w s.call) (world_after_moves w (moves_of_collector s.call s.moves))

-- the position of the registration that a call takes away, if it takes one
abbrev pub position_taken : World → Call → Checked ℕ
position_taken w (call.Definalize slot) = do
  from ← slot_in w slot
  object ← object_in w from.value
  required (position_of_first w.graph.registered object.number) refusal.NotRegistered
position_taken w _ = Err refusal.NotRegistered

abbrev pub collection_without : Checked ℕ → Collection → Collection
collection_without (Ok position) c = without_registration position c
collection_without (Err why) c = c

abbrev pub next_without : Checked ℕ → (next : ℕ) → ℕ
next_without (Ok position) next = without_position next position
next_without (Err why) next = next

-- the state after a step whose collector's part led to this one: the colours, the band and the cursor are as they were, and
-- what the client holds then is remembered
abbrev pub after_client : World → Collecting → Step → Collecting
after_client w x s = record x {
  world = world_after w s;
  running = remembering (ids_of_client (world_after w s).graph) (collection_without (position_taken x.world s.call) x.running);
  next = next_without (position_taken x.world s.call) x.next;
}

-- ---- what is asked of a step

-- a word that is answered `block` lies in no white object
abbrev pub IsMarkedKept : Collecting → Call → Answer → Type 0
IsMarkedKept x (call.Poke place word) answer =
    IsTrue (is_block answer) → (id : Id) → block_of_word x.world word ≡ Some id → is_white_in x id ≡ false
IsMarkedKept x _ answer = Unit {0}

-- what the object refers to that a `get` reads isn't white, once the barrier was there
abbrev pub IsReadKept : Collecting → Call → Type 0
IsReadKept x (call.Get target source cell) =
    (from : Found (Option ℕ)) (id read : Id) → slot_in x.world source ≡ Ok from → from.value ≡ Some id
    → IsTrue (contains (targets x.world.graph id) read) → is_white_in x read ≡ false
IsReadKept x _ = Unit {0}

-- segments in ascending order, from an address on, none of them empty
abbrev pub AreApartFrom : (from : Address) → List Segment → Type 0
AreApartFrom from [] = Unit {0}
AreApartFrom from (s ∷ ss) = (from ≤ s.base) × (s.base < end_of_segment s) × AreApartFrom (end_of_segment s) ss

-- no two objects of a world have one address, and its segments ascend. A call's own moves and act show this of the world that they
-- lead to before it is known whether the step is legal
pub record IsWellPlaced (w : World) : Type 0 where
  pub different : AreDifferent w.addresses
  pub apart : AreApartFrom 1 w.segments

-- a step whose collector's part led to a state. Whether the step is legal isn't asked: that it leaves what the client holds live
-- is part of what is shown
pub record IsClientStep (w : World) (x : Collecting) (s : Step) : Type 0 where
  pub collected : collected_world w s ≡ x.world
  pub moves_are_due : AreMovesOf w s.call s.answer s.moves
  pub marked_kept : IsMarkedKept x s.call s.answer
  pub read_kept : IsReadKept x s.call
  -- the world before the client's part is well-formed, and in the world after it objects and segments lie apart
  pub well_formed : IsWellFormed x.world
  pub blocks_live : IsTrue (list_all (is_live x.world) (ids_in_blocks x.world.graph))
  pub well_placed : IsWellPlaced (world_after w s)

-- every step after whose collector's part the invariant holds leaves a world in which it holds, with the same colours
abbrev pub ClientsKeepRunning : Type 0
ClientsKeepRunning = (w : World) (x : Collecting) (s : Step) → Running x → IsClientStep w x s → Running (after_client w x s)

-- ---- vectors

-- the registration that is examined next stands one lower if one before it was taken away, and else where it stood
pub one_before_the_next_was_taken : next_without (Ok 1) 3 ≡ 2
one_before_the_next_was_taken = refl

pub the_next_was_taken : next_without (Ok 3) 3 ≡ 3
the_next_was_taken = refl

pub none_was_taken : next_without (Err refusal.NotRegistered) 3 ≡ 3
none_was_taken = refl

-- the moves of a commit are the client's
pub a_commit_collects_nothing : (w : World) (line : ℕ) (point : Name) (target : Slot) (moves : List Move) (answer : Answer)
    → collected_world w (record { line = line; call = call.Commit point target; moves = moves; answer = answer }) ≡ w
a_commit_collects_nothing w line point target moves answer = refl

-- two segments, the second of which begins where the first ends, or within it
abbrev segment_at : (base : Address) (grains : ℕ) → Segment
segment_at base grains = record { base = base; grains = grains; pool = 0; generation = 0; rank = Exact }

pub segments_that_touch : AreApartFrom 0x1000 (segment_at 0x1000 1 ∷ segment_at 0x2000 1 ∷ [])
segments_that_touch = (omega arith, omega arith, (omega arith, omega arith, tt))

pub segments_that_overlap : AreApartFrom 0x1000 (segment_at 0x1000 2 ∷ segment_at 0x2000 1 ∷ []) → ⊥
segments_that_overlap apart = let ends : 0x3000 ≤ 0x2000 = apart.2.0 in omega (arith, ends)

pub two_objects_at_one_address : (w : World) → w.addresses ≡ Some 0x1000 ∷ Some 0x1000 ∷ [] → IsWellPlaced w → ⊥
two_objects_at_one_address w are placed =
    let same : ◌≡◌ {A = ℕ} 0 1 = subst AreDifferent are placed.different 0 1 0x1000 refl refl in omega (arith, same)
