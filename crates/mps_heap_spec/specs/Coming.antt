-- The outcome of a call: its answer and the state after it.
use Rattle.std.specs.Prelude.{◌≡◌, Ok, Err}
use Rattle.mps_base.specs.Trail.{Moves}
use Rattle.mps_model.specs.Checked.{Checked}
use Rattle.mps_heap_spec.specs.State.{HeapState}

-- an answer, and the state that an accepted call leaves
pub record Outcome (F A : Type 0) : Type 0 where
  pub answer : A
  pub state : HeapState F

module _ {F A : Type 0} where
  -- the answer of a call with this outcome
  abbrev pub answered : Checked (Outcome F A) → Checked A
  answered (Ok outcome) = Ok outcome.answer
  answered (Err why) = Err why

  -- the state after a call with this outcome: a refused call changes nothing
  abbrev pub state_from : HeapState F → Checked (Outcome F A) → HeapState F
  state_from h (Ok outcome) = outcome.state
  state_from h (Err why) = h

  -- a call gave this answer and left this state
  pub record Comes (h : HeapState F) (outcome : Checked (Outcome F A)) (result : Checked A) (after : HeapState F) : Type 0 where
    pub answer : result ≡ answered outcome
    pub state : after ≡ state_from h outcome

-- an answer, the state that an accepted call leaves, and the trail with its moves
pub record Moved (F A : Type 0) : Type 0 where
  pub answer : A
  pub state : HeapState F
  pub trail : Moves

module _ {F A : Type 0} where
  abbrev pub answer_moved : Checked (Moved F A) → Checked A
  answer_moved (Ok outcome) = Ok outcome.answer
  answer_moved (Err why) = Err why

  abbrev pub state_moved : HeapState F → Checked (Moved F A) → HeapState F
  state_moved h (Ok outcome) = outcome.state
  state_moved h (Err why) = h

  -- a refused call makes no moves
  abbrev pub trail_moved : Moves → Checked (Moved F A) → Moves
  trail_moved trail (Ok outcome) = outcome.trail
  trail_moved trail (Err why) = trail

  -- a call gave this answer, left this state and appended its moves
  pub record ComesMoving (h : HeapState F) (trail : Moves) (outcome : Checked (Moved F A)) (result : Checked A) (after : HeapState F)
      (trail_after : Moves) : Type 0 where
    pub answer : result ≡ answer_moved outcome
    pub state : after ≡ state_moved h outcome
    pub moves : trail_after ≡ trail_moved trail outcome

-- accepted with `ok`, with this state
abbrev pub done : {F : Type 0} → HeapState F → Checked (Outcome F (Unit {0}))
done h = Ok (record { answer = tt; state = h })
