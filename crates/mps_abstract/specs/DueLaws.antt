-- What a legal step asks of a collection that runs. The moves of units and of a read barrier are those that are due of a call:
-- of `step`, of the poll of a `reserve`, of `park` and the first part of a `collect`, and of a `get`. And what the client holds is
-- held rightly, with units left.
use Rattle.std.specs.Prelude.{◌≡◌, ◌≤◌, ℕ, false, IsTrue, Some, List, []}
use Rattle.std.specs.List.{list_all}
use Rattle.mps_base.specs.Address.{Id}
use Rattle.mps_base.specs.Segment.{Segment}
use Rattle.mps_base.specs.declared.moves.Move.{Move}
use Rattle.mps_base.specs.declared.names.Slot.{Slot}
use Rattle.mps_model.specs.declared.call.Call.TheVariants as call
use Rattle.mps_model.specs.Graph.{ids_of_client}
use Rattle.mps_model.specs.World.{is_unclamped, is_live, block_of_word}
use Rattle.mps_model.specs.Answer.{Answer, is_refused, is_block}
use Rattle.mps_model.specs.Checked.{slot_in}
use Rattle.mps_model.specs.Policy.{units_of_poll}
use Rattle.mps_model.specs.History.{own_segment, AreMovesOfStep, IsPoll, FinishesCollection, AreMovesOfGet, segment_of_found, are_held_kept, has_units_left, IsPossiblyMarked}
use Rattle.mps_abstract.specs.Collecting.{Collecting, Running, is_white_in}
use Rattle.mps_abstract.specs.Units.{GoesOn, Ends, BarrierDone}

-- what is shown of a running collection and the calls that work on it
pub record AreDue (x : Collecting) : Type 0 where
  -- n units of a `step`, or fewer if the collection ends in them
  pub step : {y : Collecting} {asked : ℕ} {ms : List Move} → IsTrue (is_unclamped x.world) → GoesOn x asked ms y
      → AreMovesOfStep x.world asked ms
  pub last_step : {count asked : ℕ} {ms : List Move} → IsTrue (is_unclamped x.world) → Ends x count ms → count ≤ asked
      → AreMovesOfStep x.world asked ms
  -- the same of a poll
  pub poll : {y : Collecting} {ms : List Move} → GoesOn x units_of_poll ms y → IsPoll x.world ms
  pub last_poll : {count : ℕ} {ms : List Move} → Ends x count ms → count ≤ units_of_poll → IsPoll x.world ms
  -- units never end with a segment that is taken: so the moves of a poll are told from the segment that its `reserve` takes
  pub taken_by_none : {y : Collecting} {count : ℕ} {ms : List Move} → GoesOn x count ms y → own_segment ms ≡ []
  pub taken_by_no_last : {count : ℕ} {ms : List Move} → Ends x count ms → own_segment ms ≡ []
  -- the collection goes on to its end
  pub finish : {count : ℕ} {ms : List Move} → Ends x count ms → FinishesCollection x.world ms
  -- an object of a segment is read
  pub get : {s : Segment} {y : Collecting} {ms : List Move} (source : Slot) (answer : Answer) → BarrierDone s x ms y
      → segment_of_found x.world (slot_in x.world source) ≡ Some s → is_refused answer ≡ false → AreMovesOfGet x.world source answer ms

abbrev pub WorkIsDue : Type 0
WorkIsDue = (x : Collecting) → Running x → AreDue x

-- a word that is answered `block` lies in no white object
abbrev pub IsMarkedRightly : Collecting → (word : ℕ) → Answer → Type 0
IsMarkedRightly x word answer = IsTrue (is_block answer) → (id : Id) → block_of_word x.world word ≡ Some id → is_white_in x id ≡ false

-- what a legal step asks of the world that it leaves, if a collection runs
pub record IsLeftRightly (x : Collecting) : Type 0 where
  pub held_live : IsTrue (list_all (is_live x.world) (ids_of_client x.world.graph))
  pub held_kept : IsTrue (are_held_kept x.world)
  pub units_are_left : IsTrue (has_units_left x.world)
  -- and of a `poke` that is answered `block`, if the word lies in no white object
  pub marked : (place : Slot) (word : ℕ) (answer : Answer) → IsMarkedRightly x word answer
      → IsPossiblyMarked x.world (call.Poke place word) answer

abbrev pub RunningIsLegal : Type 0
RunningIsLegal = (x : Collecting) → Running x → IsLeftRightly x
