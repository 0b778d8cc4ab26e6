-- The commands on frames: a pool of frames frees its blocks frame by frame, the latest first.
use Rattle.std.specs.Prelude.{◌≡◌, ℕ, not, ◌==◌, if◌then◌else◌, Option, Some, None, find, Err, List, [], ◌∷◌, map, length, take, drop, slice_get, sum_by, refl}
use Rattle.mps_base.specs.Address.{Id}
use Rattle.mps_base.specs.declared.names.Name.{Name}
use Rattle.mps_base.specs.declared.refusal.Refusal.TheVariants as refusal
use Rattle.mps_model.specs.declared.reply.Reply.TheVariants as reply
use Rattle.mps_model.specs.Graph.{Graph, PoolFrames, Slots, contains, frames_changed, from_last, with_last}
use Rattle.mps_model.specs.World.{World, has_frames}
use Rattle.mps_model.specs.Making.{most_frames, refuse_at_limit}
use Rattle.mps_model.specs.Allocating.{with_block_noted}
use Rattle.mps_model.specs.Checked.{Act, Checked, ◌>>=◌, ◌>>◌, done, pool_named, refuse_when, required, says, with_graph}

-- ---- frames

-- the frames of a pool
abbrev pub frames_of : Graph → (pool : ℕ) → Option PoolFrames
frames_of g pool = find (λ f. f.pool == pool) g.frames

-- how many frames of all pools are open
abbrev pub open_frames : Graph → ℕ
open_frames g = sum_by (λ (f : PoolFrames). length f.opened) g.frames

-- one more open frame, which begins after the blocks that there are
abbrev pub pushed : PoolFrames → PoolFrames
pushed f = record f { opened = with_last f.opened (length f.blocks) }

-- without a frame and those after it, and without the blocks made since it was opened, where there were n blocks before
abbrev pub popped : (frame before : ℕ) → PoolFrames → PoolFrames
popped frame before f = record f { blocks = take before f.blocks; opened = take frame f.opened }

-- the blocks made since, the latest first
abbrev pub blocks_popped : PoolFrames → (before : ℕ) → List Id
blocks_popped f before = from_last (drop before f.blocks)

-- how many blocks there were when the frame of this number was opened
abbrev pub frame_in : PoolFrames → (frame : ℕ) → Checked ℕ
frame_in f frame = required (slice_get f.opened frame) refusal.BadIndex

-- ---- places

-- a place that has one of these blocks is emptied
abbrev pub place_without : (gone : List Id) → Option ℕ → Option ℕ
place_without gone None = None
place_without gone (Some id) = if contains gone id then None else Some id

abbrev pub places_without : (gone : List Id) → List Slots → List Slots
places_without gone blocks = map (map (place_without gone)) blocks

-- ---- graphs

abbrev pub graph_pushed : Graph → (pool : ℕ) → Graph
graph_pushed g pool = record g { frames = frames_changed g.frames pool pushed }

-- the frames of a pool are popped, and the places of the blocks that go with them emptied
abbrev pub graph_popped : Graph → PoolFrames → (frame before : ℕ) → Graph
graph_popped g f frame before = record g {
  frames = frames_changed g.frames f.pool (popped frame before);
  blocks = places_without (drop before f.blocks) g.blocks;
}

-- ---- the commands

-- the frames of a pool, by its name
abbrev pub frames_named : World → Name → Checked PoolFrames
frames_named w name = do
  of ← pool_named w name
  refuse_when (not (has_frames of.value.kind)) refusal.WrongPool
  required (frames_of w.graph of.number) refusal.WrongPool

-- opens a frame; prints how many were open
abbrev pub act_push : World → (pool : Name) → Checked Act
act_push w pool = do
  f ← frames_named w pool
  refuse_at_limit (open_frames w.graph) most_frames
  says (reply.Number (length f.opened)) (with_graph w (graph_pushed w.graph f.pool))

abbrev pub act_pop : World → (pool : Name) → (frame : ℕ) → Checked Act
act_pop w pool frame = do
  f ← frames_named w pool
  before ← frame_in f frame
  done (with_graph w (graph_popped w.graph f frame before))

-- ---- vectors

-- five blocks; a frame was opened before the second, and another before the fourth
abbrev five_blocks : PoolFrames
five_blocks = record { pool = 0; blocks = 2 ∷ 3 ∷ 5 ∷ 7 ∷ 8 ∷ []; opened = 1 ∷ 3 ∷ [] }

pub the_latest_are_freed_first : blocks_popped five_blocks 3 ≡ 8 ∷ 7 ∷ []
the_latest_are_freed_first = refl

pub no_block_more : blocks_popped five_blocks 3 ≡ 8 ∷ 7 ∷ 5 ∷ [] → ⊥
no_block_more e = absurd cc

pub no_block_less : blocks_popped five_blocks 3 ≡ 8 ∷ [] → ⊥
no_block_less e = absurd cc

pub the_earlier_stay : popped 1 3 five_blocks ≡ record { pool = 0; blocks = 2 ∷ 3 ∷ 5 ∷ []; opened = 1 ∷ [] }
the_earlier_stay = refl

pub all_frames_are_closed : popped 0 1 five_blocks ≡ record { pool = 0; blocks = 2 ∷ []; opened = [] }
all_frames_are_closed = refl

pub a_frame_begins_after_what_there_is : (pushed five_blocks).opened ≡ 1 ∷ 3 ∷ 5 ∷ []
a_frame_begins_after_what_there_is = refl

pub no_such_frame : frame_in five_blocks 2 ≡ Err refusal.BadIndex
no_such_frame = refl

pub places_are_emptied : places_without (7 ∷ 8 ∷ []) ((Some 7 ∷ Some 5 ∷ []) ∷ (None ∷ Some 8 ∷ []) ∷ [])
    ≡ (None ∷ Some 5 ∷ []) ∷ (None ∷ None ∷ []) ∷ []
places_are_emptied = refl

pub a_new_block_is_the_latest : with_block_noted (five_blocks ∷ []) 0 9
    ≡ record { pool = 0; blocks = 2 ∷ 3 ∷ 5 ∷ 7 ∷ 8 ∷ 9 ∷ []; opened = 1 ∷ 3 ∷ [] } ∷ []
a_new_block_is_the_latest = refl

pub a_block_of_another_pool_is_none_of_its : with_block_noted (five_blocks ∷ []) 1 9 ≡ five_blocks ∷ []
a_block_of_another_pool_is_none_of_its = refl
