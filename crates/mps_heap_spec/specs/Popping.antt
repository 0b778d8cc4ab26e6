-- The outcome of `pop`: a frame is closed with those above it, and the blocks that were made since are freed, the latest first.
use Rattle.std.specs.Prelude.{ℕ, ◌≡◌, ◌+◌, ◌-◌, ◌*◌, Ok, Err, List, [], ◌∷◌, map, length, take, drop, slice_get, refl}
use Rattle.mps_base.specs.Address.{Address}
use Rattle.mps_base.specs.Trail.{Moves}
use Rattle.mps_base.specs.declared.names.Name.{Name}
use Rattle.mps_base.specs.declared.refusal.Refusal.TheVariants as refusal
use Rattle.mps_model.specs.Checked.{Checked, ◌>>=◌, required}
use Rattle.mps_model.specs.Graph.{from_last}
use Rattle.mps_root.specs.State.{with_place}
use Rattle.mps_snc.specs.State.{PoolState, state_of, with_pool}
use Rattle.mps_snc.specs.declared.pool.Block.{Block}
use Rattle.mps_heap_spec.specs.State.{HeapState}
use Rattle.mps_heap_spec.specs.Coming.{Moved}
use Rattle.mps_heap_spec.specs.Framing.{frames_named, with_frames}
use Rattle.mps_heap_spec.specs.Manual.{Freeing, row_freed}

-- the blocks of a pool of which n came before, the latest first
abbrev pub blocks_after : PoolState → (before : ℕ) → List Block
blocks_after p before = from_last (drop before p.blocks)

-- a pool with the first n of its blocks, and with the frames before this one
abbrev pub closed : PoolState → (frame before : ℕ) → PoolState
closed p frame before = record { blocks = take before p.blocks; frames = take frame p.frames }

-- the places of blocks are emptied
abbrev pub places_emptied : List (List Address) → List Block → List (List Address)
places_emptied places [] = places
places_emptied places (b ∷ bs) = places_emptied (with_place places b.place.table b.place.index 0) bs

-- what is freed and where it lay, while blocks leave a pool of blocks of this size
abbrev pub blocks_freed : (size : ℕ) → Freeing → List Block → Freeing
blocks_freed size f bs = row_freed size f (map (λ (b : Block). b.at.0) bs)

-- the most moves of closing a frame, of a pool with as many blocks of which as many came before: two for each that came after
abbrev pub moves_of_frame : Checked (ℕ × ℕ) → ℕ
moves_of_frame (Ok frame) = 2 * (frame.0 - frame.1)
moves_of_frame (Err why) = 0

module _ {F : Type 0} where
  -- the blocks of a pool that came after the first n leave their places and are freed, and a frame is closed with those above it
  abbrev pub frame_closed : HeapState F → Moves → (pool size frame before : ℕ) → Moved F (Unit {0})
  frame_closed h trail pool size frame before = record {
    answer = tt;
    state = with_frames (record h {
      segs = (blocks_freed size (record { segs = h.segs; trail = trail })
          (blocks_after (state_of h.beside.frames pool) before)).segs;
      roots = record h.roots {
        blocks = places_emptied h.roots.blocks (blocks_after (state_of h.beside.frames pool) before);
      };
    }) (with_pool h.beside.frames pool (closed (state_of h.beside.frames pool) frame before));
    trail = (blocks_freed size (record { segs = h.segs; trail = trail })
        (blocks_after (state_of h.beside.frames pool) before)).trail;
  }

  abbrev pub frame_popped : HeapState F → Moves → Name → (frame : ℕ) → Checked (Moved F (Unit {0}))
  frame_popped h trail name frame = do
    of ← frames_named h name
    before ← required (slice_get of.value.frames frame) refusal.BadIndex
    size ← required (slice_get h.sizes of.key) refusal.NotABlock
    Ok (frame_closed h trail of.key size frame before)

  -- how many blocks a pool has, and how many of them came before a frame
  abbrev pub frame_named : HeapState F → Name → (frame : ℕ) → Checked (ℕ × ℕ)
  frame_named h name frame = do
    of ← frames_named h name
    before ← required (slice_get of.value.frames frame) refusal.BadIndex
    Ok (length of.value.blocks, before)

  -- the most moves that it makes, 0 where it is refused
  abbrev pub moves_of_pop : HeapState F → Name → (frame : ℕ) → ℕ
  moves_of_pop h name frame = moves_of_frame (frame_named h name frame)

-- ---- vectors

abbrev block_in : (index : ℕ) → Block
block_in index = record { at = record { 0 = 4096 + 8 * index }; place = record { table = 0; index = index } }

-- three blocks, of which the second came after a frame and the third after another
abbrev example : PoolState
example = record { blocks = block_in 0 ∷ block_in 1 ∷ block_in 2 ∷ []; frames = 1 ∷ 2 ∷ [] }

pub the_latest_first : blocks_after example 1 ≡ block_in 2 ∷ block_in 1 ∷ []
the_latest_first = refl

pub both_frames_are_closed : closed example 0 1 ≡ record { blocks = block_in 0 ∷ []; frames = [] }
both_frames_are_closed = refl

pub the_last_frame_is_closed : closed example 1 2 ≡ record { blocks = block_in 0 ∷ block_in 1 ∷ []; frames = 1 ∷ [] }
the_last_frame_is_closed = refl

pub only_their_places_are_emptied : places_emptied ((1 ∷ 2 ∷ 3 ∷ []) ∷ []) (block_in 2 ∷ block_in 1 ∷ []) ≡ (1 ∷ 0 ∷ 0 ∷ []) ∷ []
only_their_places_are_emptied = refl

pub two_moves_a_block : moves_of_frame (Ok (3, 1)) ≡ 4
two_moves_a_block = refl
