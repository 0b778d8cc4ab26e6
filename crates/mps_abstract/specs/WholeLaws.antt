-- What is shown of whole collections, in which no call of the client comes between the flip and the end: what is kept is what
-- was widely reachable in the world that the flip's record left, from the objects posted so far too.
use Rattle.std.specs.Prelude.{◌≡◌, ◌+◌, ℕ, false, IsTrue, Option, None, List, [], ◌++◌, length}
use Rattle.mps_base.specs.Address.{Id}
use Rattle.mps_base.specs.declared.moves.Move.{Move}
use Rattle.mps_model.specs.Graph.{Graph, contains, strong_targets, ids_of_client}
use Rattle.mps_model.specs.Collection.{is_condemned}
use Rattle.mps_model.specs.World.{World, is_live, live_automatic_ids, ids_of_area_words}
use Rattle.mps_model.specs.Posts.{IsWidelyReachableWith, ArePostsExact}
use Rattle.mps_model.specs.Effect.{Everything, condemned_by, world_after_moves}
use Rattle.mps_model.specs.LegalMove.{AreLegalMoves}
use Rattle.mps_model.specs.Flip.{flip_act, is_nothing}
use Rattle.mps_model.specs.History.{IsFullCollection, AreMovesOf}
use Rattle.mps_model.specs.Answer.{Replied}
use Rattle.mps_model.specs.declared.call.Call.TheVariants as call
use Rattle.mps_model.specs.declared.reply.Reply.TheVariants as reply
use Rattle.mps_abstract.specs.Colours.{Colours, is_grey}
use Rattle.mps_abstract.specs.Collecting.{Collecting, Running, is_white_in, is_tracing_band}
use Rattle.mps_abstract.specs.Units.{Ends}
use Rattle.mps_abstract.specs.FlipLaws.{IsAtRest, collecting_after_flip, FixesHeld}

-- ---- what such a collection keeps besides the invariant

-- where wide reachability begins, with the objects posted so far
abbrev pub roots_of : World → (posted : List Id) → List Id
roots_of collecting_after_flip posted = ids_of_client collecting_after_flip.graph ++ (ids_of_area_words collecting_after_flip ++ posted)

-- nothing is kept that isn't reached, and nothing else is grey
pub record AreReached (collecting_after_flip : World) (posted : List Id) (k : Colours) : Type 0 where
  pub kept : (id : Id) → IsTrue (contains k.kept id) → IsWidelyReachableWith collecting_after_flip posted id
  pub grey : (id : Id) → IsTrue (is_grey k id) → IsTrue (contains k.kept id)

-- and the roots are kept: what was held, what is pinned, and what was posted
pub record AreRootsKept (collecting_after_flip : World) (posted : List Id) (x : Collecting) : Type 0 where
  pub live : (id : Id) → IsTrue (contains (roots_of collecting_after_flip posted) id) → IsTrue (is_live x.world id)
  pub kept : (id : Id) → IsTrue (contains (roots_of collecting_after_flip posted) id) → is_white_in x id ≡ false

-- the strong references are those of the flip, as long as none is splatted
abbrev pub IsAlike : (collecting_after_flip g : Graph) → Type 0
IsAlike collecting_after_flip g = (id : Id) → strong_targets g id ≡ strong_targets collecting_after_flip id

-- what an object that is kept referred to strongly at the flip is kept. From the weak band on this holds of those too that the splat of a
-- weak reference cleared with it
abbrev pub AreLedToKept : (collecting_after_flip : Graph) → Collecting → Type 0
AreLedToKept collecting_after_flip x =
    (id target : Id) → IsTrue (is_live x.world id) → is_white_in x id ≡ false
    → IsTrue (contains (strong_targets collecting_after_flip id) target)
    → IsTrue (is_live x.world target) × (is_white_in x target ≡ false)

-- the registrations: those that were examined and are left, and those that are still to be examined
pub record AreInTurn (x : Collecting) (passed remaining : List Id) : Type 0 where
  pub cut : x.world.graph.registered ≡ passed ++ remaining
  pub next : x.next ≡ length passed
  pub before : x.running.registered_before ≡ length passed + length remaining
  pub condemned : (id : Id) → IsTrue (contains x.world.graph.registered id) → IsTrue (is_condemned x.running id)

-- a whole collection so far, whose flip left this world: these were posted, the last one first, and in order
pub record IsWholeSoFar (collecting_after_flip : World) (x : Collecting) : Type 0 where
  pub posted : List Id
  pub posts : List Id
  pub same : (id : Id) → contains posted id ≡ contains posts id
  pub messages : x.world.graph.messages ≡ collecting_after_flip.graph.messages ++ posts
  pub passed : List Id
  pub remaining : List Id
  pub in_turn : AreInTurn x passed remaining
  -- if the posts of those that remain are exact, all are
  pub so_far : (later : List Id) → ArePostsExact collecting_after_flip posted remaining later
      → ArePostsExact collecting_after_flip [] collecting_after_flip.graph.registered (posts ++ later)
  pub alike : IsTrue (is_tracing_band x.band) → IsAlike collecting_after_flip.graph x.world.graph
  pub led : is_tracing_band x.band ≡ false → AreLedToKept collecting_after_flip.graph x
  pub reached : AreReached collecting_after_flip posted x.colours
  pub roots : AreRootsKept collecting_after_flip posted x
  -- the flip condemned everything
  pub condemned : (id : Id) → IsTrue (contains (live_automatic_ids collecting_after_flip) id) → IsTrue (is_condemned x.running id)

-- ---- the law

-- what is shown of the moves of a full collection: they are one, and each is legal, whatever was before
pub record IsWholeDone (w : World) (moves : List Move) : Type 0 where
  pub full : IsFullCollection w moves
  pub legal : (before : Option Move) → AreLegalMoves w before moves

-- what is shown of the moves of a `collect`: they are due, and each is legal
pub record IsCollectDone (w : World) (moves : List Move) : Type 0 where
  pub due : AreMovesOf w call.Collect (Replied reply.Ok) moves
  pub legal : AreLegalMoves w None moves

-- the act of a flip that condemns everything, and then units to the end. What is posted is exactly what the model asks, in
-- order, and what lives at the end is exactly what was widely reachable from the flip on, with what was posted. If a
-- collection runs, it goes on to its end first
abbrev pub AWholeCollectionIsExact : Type 0
AWholeCollectionIsExact =
    ((w : World) (first later : List Move) (y : Collecting) (count : ℕ) → IsAtRest w → is_nothing (condemned_by w Everything) ≡ false
    → FixesHeld w (collecting_after_flip w Everything []) first y → Ends y count later → IsWholeDone w (flip_act w Everything ++ later))
    × ((w : World) → IsAtRest w → IsTrue (is_nothing (condemned_by w Everything)) → IsWholeDone w (flip_act w Everything))
    × ((w : World) (full : List Move) → w.collection ≡ None → IsWholeDone w full → IsCollectDone w full)
    × ((x : Collecting) (earlier full : List Move) (count : ℕ) → Running x → Ends x count earlier
    → IsWholeDone (world_after_moves x.world earlier) full → IsCollectDone x.world (earlier ++ full))
