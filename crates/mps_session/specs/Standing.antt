-- When a session represents a world, and what an answer of its heap guarantees.
use Rattle.std.specs.Prelude.{◌≡◌, ◌<◌, ℕ, List, [], Option, Some, None}
use Rattle.mps_base.specs.Trail.{Moves}
use Rattle.mps_base.specs.declared.moves.Move.{Move}
use Rattle.mps_format.specs.Any.{numbered_layout}
use Rattle.mps_format.specs.AnyFormat.{any_layout}
use Rattle.mps_format.specs.declared.any.AnyFormat.{AnyFormat}
use Rattle.mps_heap.specs.Right.{IsNewHeap}
use Rattle.mps_model.specs.Answer.{answer_of}
use Rattle.mps_model.specs.World.{World, empty_world}
use Rattle.mps_model.specs.declared.call.Call.{Call}
use Rattle.mps_model.specs.declared.call.Call.TheVariants as call
use Rattle.mps_model.specs.declared.reply.Reply.{Reply}
use Rattle.mps_model.specs.declared.reply.Reply.TheVariants as reply
use Rattle.mps_refinement.specs.State.{HeapState}
use Rattle.mps_refinement.specs.RightStep.{IsRightFrom, step_of}
use Rattle.mps_refinement.specs.StandsFor.{StandsFor}
use Rattle.mps_session.specs.Session.{HasRoomForMoves, MadeState}

-- the numbers of formats mean the three of a script
abbrev pub HasScriptFormats : World → Type 0
HasScriptFormats w = w.formats ≡ numbered_layout

-- a heap represents a world of a script, in which the arena was made
pub record HeapStands (h : HeapState AnyFormat) (w : World) : Type 0 where
  pub heap : StandsFor any_layout h w
  pub formats : HasScriptFormats w
  pub arena : 0 < w.grains

-- a heap represents some world of a script, in which the arena was made, and its trail has room for the moves of each call
pub record StandsForScript (h : HeapState AnyFormat) (trail : Moves) : Type 0 where
  pub world : World
  pub stands : HeapStands h world
  pub fits : HasRoomForMoves h.segs.grains trail

-- a session represents the empty world, until the arena is made
abbrev pub SessionStands : Option MadeState → World → Type 0
SessionStands None w = w ≡ empty_world
SessionStands (Some made) w = HeapStands made.heap w

-- a call made these moves and got this reply, rightly in each world of a script for which the heap stood
pub record IsAnswered (before : HeapState AnyFormat) (c : Call) (moves : List Move) (given : Reply) (after : HeapState AnyFormat) : Type 0
  where
    pub right : (w : World) (line : ℕ) → HasScriptFormats w → StandsFor any_layout before w
        → IsRightFrom any_layout before w (step_of line c moves (answer_of after.segs.words given)) after

-- the arena was made: this call made it, and the heap is new
pub record IsBegun (c : Call) (given : Reply) (made : MadeState) : Type 0 where
  pub grains : ℕ
  pub limit : ℕ
  pub is : c ≡ call.Arena grains limit
  pub some : 0 < grains
  pub told : given ≡ reply.Ok
  pub new : IsNewHeap any_layout grains limit made.heap
  pub unmoved : made.trail.moves ≡ []

abbrev pub BeginsRightly : Call → Reply → Option MadeState → Type 0
BeginsRightly c given None = ⊥
BeginsRightly c given (Some made) = IsBegun c given made

-- it represents what it represented before
abbrev pub HeapStandsStill : (before after : HeapState AnyFormat) → Type 0
HeapStandsStill before after = (w : World) → StandsFor any_layout before w → StandsFor any_layout after w
