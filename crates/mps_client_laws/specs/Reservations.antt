-- What becomes of a reservation: a flip ends it, and then its `commit` answers `flipped`.
use Rattle.std.specs.Prelude.{◌≡◌, ℕ, Bool, true, false, not, ◌&&◌, ◌||◌, IsTrue, Option, Some, None, [], ◌∷◌, ◌++◌, Ok, Err, refl}
use Rattle.mps_base.specs.declared.moves.Move.TheVariants as moves
use Rattle.mps_base.specs.declared.names.Name.{Name}
use Rattle.mps_base.specs.declared.names.Rank.TheVariants as rank
use Rattle.mps_base.specs.declared.names.Slot.{Slot}
use Rattle.mps_base.specs.declared.refusal.Refusal.TheVariants as refusal
use Rattle.mps_model.specs.Layout.{Layout}
use Rattle.mps_model.specs.declared.call.Call.{Call}
use Rattle.mps_model.specs.declared.call.Call.TheVariants as call
use Rattle.mps_model.specs.declared.reply.Reply.TheVariants as reply
use Rattle.mps_model.specs.Answer.{Answer, Replied, is_accepted, is_refused, refused}
use Rattle.mps_model.specs.Step.{Step, History}
use Rattle.mps_model.specs.Graph.{HeadCell, NumberCell, Point, PointThing, Reservation, with_last}
use Rattle.mps_model.specs.World.{World}
use Rattle.mps_model.specs.Checked.{Checked, Found, Numbered, as_point, number_named, point_named, slot_in}
use Rattle.mps_model.specs.Accessing.{same_target}
use Rattle.mps_model.specs.Reply.{reply_to}
use Rattle.mps_model.specs.History.{IsLegalFrom, IsLegalHistoryOf, world_after, world_after_steps}
use Rattle.mps_laws.specs.Held.{letter, slot_of_t}
use Rattle.mps_laws.specs.Replay.{reached}
use Rattle.mps_laws.specs.Staying.{are_without_flip}
use Rattle.mps_client_laws.specs.Objects.{stepping, two_objects}

abbrev pub reservation_found : Checked (Numbered Point) → Option Reservation
reservation_found (Ok of) = of.value.reservation
reservation_found (Err why) = None

-- the open reservation of a point, if it has one. One that a flip ended stays open, until the point commits
abbrev pub reservation_of : World → (point : Name) → Option Reservation
reservation_of w point = reservation_found (point_named w point)

-- whether a call commits at a point
abbrev pub commits_at : World → Call → (point : Name) → Bool
commits_at w (call.Commit other target) point = same_target (number_named w point as_point) (number_named w other as_point)
commits_at w _ point = false

-- none of these steps commits at a point
abbrev pub commit_elsewhere : World → History → (point : Name) → Bool
commit_elsewhere w [] point = true
commit_elsewhere w (s ∷ ss) point = not (commits_at w s.call point) && commit_elsewhere (world_after w s) ss point

-- ---- an open reservation

-- a new reservation with this head, which no flip ended
pub record IsReserved (after : World) (point : Name) (head : ℕ) : Type 0 where
  pub reserved : Reservation
  pub there : reservation_of after point ≡ Some reserved
  pub its_head : reserved.head ≡ head
  pub lives : reserved.is_doomed ≡ false

-- an accepted `reserve` opens one
abbrev pub ReserveOpens : Type 0
ReserveOpens =
    (formats : ℕ → Layout) (steps later : History) (s : Step) (point : Name) (head : ℕ) → IsLegalHistoryOf formats (steps ++ s ∷ later)
    → s.call ≡ call.Reserve point head → IsTrue (is_accepted s.answer) → IsReserved (world_after (reached formats steps) s) point head

-- a reservation after some steps: it is open still, with its head. It is doomed exactly if it was before them or one of them has a
-- flip, and one that was doomed keeps its cells
pub record IsStillReserved (before : Reservation) (after : World) (point : Name) (is_flipped : Bool) : Type 0 where
  pub now : Reservation
  pub there : reservation_of after point ≡ Some now
  pub same_head : now.head ≡ before.head
  pub doomed : now.is_doomed ≡ (before.is_doomed || is_flipped)
  pub same_cells : IsTrue before.is_doomed → now.cells ≡ before.cells

-- A reservation stays open over legal steps that don't commit at its point.
abbrev pub ReservationsStay : Type 0
ReservationsStay =
    (w : World) (steps : History) (point : Name) (reserved : Reservation) → IsLegalFrom w steps → IsTrue (commit_elsewhere w steps point)
    → reservation_of w point ≡ Some reserved
    → IsStillReserved reserved (world_after_steps w steps) point (not (are_without_flip steps))

-- the point that a call initialises
abbrev pub initialised_point : Call → Option Name
initialised_point (call.InitNumber point cell value) = Some point
initialised_point (call.InitReference point cell source) = Some point
initialised_point _ = None

-- An `init` leaves the object graph as it was, if a flip ended the reservation.
abbrev pub InitOfDoomedLeavesTheGraph : Type 0
InitOfDoomedLeavesTheGraph =
    (formats : ℕ → Layout) (steps later : History) (s : Step) (point : Name) (reserved : Reservation)
    → IsLegalHistoryOf formats (steps ++ s ∷ later) → initialised_point s.call ≡ Some point
    → reservation_of (reached formats steps) point ≡ Some reserved → IsTrue reserved.is_doomed
    → (world_after (reached formats steps) s).graph ≡ (reached formats steps).graph

-- ---- its commit

-- what a `commit` of an open reservation answers, by its target slot: a refusal if there is no such slot, and else `ok` or `flipped`
abbrev pub answer_of_commit : Checked (Found (Option ℕ)) → (is_flipped : Bool) → Answer
answer_of_commit (Err why) is_flipped = refused why
answer_of_commit (Ok slot) true = Replied reply.Flipped
answer_of_commit (Ok slot) false = Replied reply.Ok

-- a legal history in which one step reserves at a point and is accepted, and a later one commits there. None between commits there
pub record AreReserveAndCommit (formats : ℕ → Layout) (steps between later : History) (reserve commit : Step) (point : Name)
    (target : Slot) : Type 0 where
  pub legal : IsLegalHistoryOf formats ((steps ++ reserve ∷ between) ++ commit ∷ later)
  pub head : ℕ
  pub reserves : reserve.call ≡ call.Reserve point head
  pub accepted : IsTrue (is_accepted reserve.answer)
  pub elsewhere : IsTrue (commit_elsewhere (world_after (reached formats steps) reserve) between point)
  pub commits : commit.call ≡ call.Commit point target

-- A `commit` answers `flipped` exactly if a step after its `reserve` and before it has a flip. A flip in the poll of the `reserve` itself
-- doesn't count, since the reservation is made after it. A `commit` has no flip.
abbrev pub CommitAnswersByFlips : Type 0
CommitAnswersByFlips =
    (formats : ℕ → Layout) (steps between later : History) (reserve commit : Step) (point : Name) (target : Slot)
    → AreReserveAndCommit formats steps between later reserve commit point target
    → commit.answer
    ≡ answer_of_commit (slot_in (reached formats (steps ++ reserve ∷ between)) target) (not (are_without_flip between))

-- After a `commit` that answers `ok` or `flipped` the point has no reservation.
abbrev pub CommitSpendsTheReservation : Type 0
CommitSpendsTheReservation =
    (formats : ℕ → Layout) (steps later : History) (s : Step) (point : Name) (target : Slot)
    → IsLegalHistoryOf formats (steps ++ s ∷ later) → s.call ≡ call.Commit point target
    → is_refused s.answer ≡ false → reservation_of (world_after (reached formats steps) s) point ≡ None

-- ---- vectors

-- the name of the point
abbrev x : Name
x = letter 120

-- the point x has a reservation of two cells, and the point y none
abbrev one_reserved : World
one_reserved = record two_objects {
  graph = record two_objects.graph {
    points = Some (record {
      pool = 0;
      rank = rank.Exact;
      reservation = Some (record { head = 9; cells = HeadCell ∷ NumberCell 4 ∷ []; is_doomed = false });
    }) ∷ Some (record { pool = 0; rank = rank.Exact; reservation = None }) ∷ [];
    names = with_last (with_last two_objects.graph.names (record { name = x; thing = PointThing 0 }))
        (record { name = letter 121; thing = PointThing 1 });
  };
}

-- a step without a flip, and one with
abbrev quiet : History
quiet = stepping (call.InitNumber x 1 7) [] ∷ []

abbrev flipping : History
flipping = stepping call.Start (moves.Flip (record { 0 = 1 }) 16 0 ∷ []) ∷ []

-- what a `commit` into a slot of t after some steps answers
abbrev committed_after : History → (index : ℕ) → Answer
committed_after steps index =
    reply_to false (world_after_steps one_reserved steps) (world_after_steps one_reserved steps) (call.Commit x (slot_of_t index))

-- and what it should
abbrev answer_due : History → (index : ℕ) → Answer
answer_due steps index =
    answer_of_commit (slot_in (world_after_steps one_reserved steps) (slot_of_t index)) (not (are_without_flip steps))

pub ok_without_a_flip : (committed_after quiet 1 ≡ Replied reply.Ok) × (answer_due quiet 1 ≡ Replied reply.Ok)
ok_without_a_flip = (refl, refl)

pub flipped_after_one : (committed_after flipping 1 ≡ Replied reply.Flipped) × (answer_due flipping 1 ≡ Replied reply.Flipped)
flipped_after_one = (refl, refl)

pub an_init_comes_too_late : committed_after (flipping ++ quiet) 1 ≡ Replied reply.Flipped
an_init_comes_too_late = refl

pub no_such_slot : (committed_after flipping 9 ≡ refused refusal.BadIndex) × (answer_due flipping 9 ≡ refused refusal.BadIndex)
no_such_slot = (refl, refl)

pub it_is_open_after_the_flip :
    reservation_of (world_after_steps one_reserved (flipping ++ quiet)) x
    ≡ Some (record { head = 9; cells = HeadCell ∷ NumberCell 4 ∷ []; is_doomed = true })
it_is_open_after_the_flip = refl

pub none_commits : commit_elsewhere one_reserved (quiet ++ flipping) x ≡ true
none_commits = refl

pub one_commits : commit_elsewhere one_reserved (quiet ++ stepping (call.Commit x (slot_of_t 1)) [] ∷ []) x ≡ false
one_commits = refl

pub another_point_commits : commit_elsewhere one_reserved (stepping (call.Commit (letter 121) (slot_of_t 1)) [] ∷ []) x ≡ true
another_point_commits = refl
