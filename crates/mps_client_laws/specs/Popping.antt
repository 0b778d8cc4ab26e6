-- What an accepted `pop` leaves: exactly the blocks that were made since the frame was opened are gone, and their places are empty.
use Rattle.std.specs.Prelude.{◌≡◌, ℕ, false, IsTrue, Ok, Some, None, [], ◌∷◌, ◌++◌, drop, slice_get, refl}
use Rattle.mps_base.specs.Address.{Id}
use Rattle.mps_base.specs.declared.moves.Move.TheVariants as moves
use Rattle.mps_base.specs.declared.names.Name.{Name}
use Rattle.mps_model.specs.Layout.{Layout}
use Rattle.mps_model.specs.declared.call.Call.TheVariants as call
use Rattle.mps_model.specs.declared.reply.Reply.TheVariants as reply
use Rattle.mps_model.specs.Answer.{Replied}
use Rattle.mps_model.specs.Frames.{blocks_popped, frames_named, places_without, popped}
use Rattle.mps_model.specs.Graph.{Manual, PoolFrames, PoolThing, contains, empty_graph, frames_changed}
use Rattle.mps_model.specs.History.{IsLegalHistoryOf, world_after}
use Rattle.mps_model.specs.Step.{Step, History}
use Rattle.mps_model.specs.World.{Frames, World, address_of, empty_world}
use Rattle.mps_laws.specs.Held.{letter}
use Rattle.mps_laws.specs.Replay.{reached}
use Rattle.mps_client_laws.specs.Objects.{stepping}

-- a frame of a pool was closed, before which the pool had as many blocks
pub record IsPopped (w after : World) (f : PoolFrames) (frame before : ℕ) : Type 0 where
  -- each block that was made since is freed
  pub gone : (id : Id) → IsTrue (contains (blocks_popped f before) id) → address_of after id ≡ None
  -- all others lie where they lay
  pub stay : (id : Id) → contains (blocks_popped f before) id ≡ false → address_of after id ≡ address_of w id
  -- what has words or cells has those that it had
  pub objects : after.graph.objects ≡ w.graph.objects
  -- the places of these blocks are empty, and all others are as they were
  pub places : after.graph.blocks ≡ places_without (drop before f.blocks) w.graph.blocks
  -- the frame is closed, with those after it, and no other
  pub frames : after.graph.frames ≡ frames_changed w.graph.frames f.pool (popped frame before)

-- So it is after each accepted `pop` of a legal history.
abbrev pub PopFreesWhatWasMadeSince : Type 0
PopFreesWhatWasMadeSince =
    (formats : ℕ → Layout) (steps later : History) (s : Step) (pool : Name) (f : PoolFrames) (frame before : ℕ)
    → IsLegalHistoryOf formats (steps ++ s ∷ later) → s.call ≡ call.Pop pool frame → s.answer ≡ Replied reply.Ok
    → frames_named (reached formats steps) pool ≡ Ok f → slice_get f.opened frame ≡ Some before
    → IsPopped (reached formats steps) (world_after (reached formats steps) s) f frame before

-- ---- vectors: in the pool x a frame was opened after the block 0, and then the block 1 was made

abbrev framed : World
framed = record empty_world {
  graph = record empty_graph {
    objects = record { pool = 0; body = Manual (8 ∷ []) } ∷ record { pool = 0; body = Manual (9 ∷ []) } ∷ [];
    blocks = (Some 0 ∷ Some 1 ∷ []) ∷ [];
    frames = record { pool = 0; blocks = 0 ∷ 1 ∷ []; opened = 1 ∷ [] } ∷ [];
    names = record { name = letter 120; thing = PoolThing 0 } ∷ [];
  };
  pools = record { kind = Frames; format = 0; chain = None } ∷ [];
  addresses = Some 0x1000 ∷ Some 0x1008 ∷ [];
}

abbrev popping : Step
popping = stepping (call.Pop (letter 120) 0) (moves.Free (record { 0 = 0x1008 }) ∷ [])

pub the_later_block_is_gone : address_of (world_after framed popping) 1 ≡ None
the_later_block_is_gone = refl

pub the_earlier_block_stays : address_of (world_after framed popping) 0 ≡ Some 0x1000
the_earlier_block_stays = refl

pub its_place_is_empty : (world_after framed popping).graph.blocks ≡ (Some 0 ∷ None ∷ []) ∷ []
its_place_is_empty = refl

pub the_words_stay : (world_after framed popping).graph.objects ≡ framed.graph.objects
the_words_stay = refl

pub no_frame_is_open : (world_after framed popping).graph.frames ≡ record { pool = 0; blocks = 0 ∷ []; opened = [] } ∷ []
no_frame_is_open = refl
