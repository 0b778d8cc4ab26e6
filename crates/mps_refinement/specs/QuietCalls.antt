-- Calls that make no moves, while a collection runs: each is a legal step, and preserves the invariant of the abstract collector.
use Rattle.std.specs.Prelude.{◌≡◌, ◌≤◌, ℕ, Bool, true, false, IsTrue, [], refl}
use Rattle.std.specs.List.{list_all}
use Rattle.mps_abstract.specs.Collecting.{Collecting, Running, units_left}
use Rattle.mps_abstract.specs.ClientLaws.{IsMarkedKept, after_client}
use Rattle.mps_model.specs.declared.call.Call.{Call}
use Rattle.mps_model.specs.declared.call.Call.TheVariants as call
use Rattle.mps_model.specs.Answer.{Answer, is_block}
use Rattle.mps_model.specs.Graph.{ids_in_blocks}
use Rattle.mps_model.specs.History.{IsLegalStep, with_client_remembered, world_after}
use Rattle.mps_model.specs.Reply.{act, answer_from, world_from}
use Rattle.mps_model.specs.Step.{Step}
use Rattle.mps_model.specs.WellFormed.{IsWellFormed}
use Rattle.mps_model.specs.World.{World, is_live}
use Rattle.mps_refinement.specs.RightStep.{step_of}

-- a call that makes no moves, at rest or while a collection runs, and doesn't make the arena
abbrev pub never_moves : Call → Bool
never_moves (call.Arena grains limit) = false
never_moves (call.Reserve point head) = false
never_moves (call.Commit point target) = false
never_moves (call.Alloc pool words place) = false
never_moves (call.Free place) = false
never_moves (call.CacheAlloc cache words place) = false
never_moves (call.CacheFree cache place) = false
never_moves (call.CacheFlush cache) = false
never_moves (call.Pop pool frame) = false
never_moves (call.Get target source cell) = false
never_moves call.Start = false
never_moves (call.StartChain chain generation) = false
never_moves (call.Step units) = false
never_moves call.Collect = false
never_moves call.Park = false
never_moves _ = true

-- a call with this answer, in a state in which a collection runs: its act answers so, and a word that is answered `block` lies in no
-- white object
pub record IsQuietCall (x : Collecting) (c : Call) (answer : Answer) : Type 0 where
  pub never : never_moves c ≡ true
  pub well_formed : IsWellFormed x.world
  pub blocks_live : IsTrue (list_all (is_live x.world) (ids_in_blocks x.world.graph))
  pub answers : answer ≡ answer_from (act (is_block answer) x.world x.world c)
  pub marked_kept : IsMarkedKept x c answer

-- a step from a world, whose collector's part led to a state, is legal, the invariant is true after it, and no more units are left than in
-- that state. The world after it is this one, with what the client holds remembered
pub record RunsOn (w : World) (x : Collecting) (s : Step) (after : World) : Type 0 where
  pub legal : IsLegalStep w s
  pub running : Running (after_client w x s)
  pub no_more : units_left (after_client w x s) ≤ units_left x
  pub world : world_after w s ≡ with_client_remembered after

-- so it is of every quiet call, whose collector's part does nothing
abbrev pub QuietCallsRunOn : Type 0
QuietCallsRunOn =
    (x : Collecting) (line : ℕ) (c : Call) (answer : Answer) → Running x → IsQuietCall x c answer
    → RunsOn x.world x (step_of line c [] answer) (world_from x.world (act (is_block answer) x.world x.world c))

-- ---- vectors

pub a_count_never_moves : never_moves call.Live ≡ true
a_count_never_moves = refl

pub a_step_may_move : (units : ℕ) → never_moves (call.Step units) ≡ false
a_step_may_move units = refl

pub a_collect_may_move : never_moves call.Collect ≡ false
a_collect_may_move = refl
