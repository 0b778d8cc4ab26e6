-- The outcomes of the calls on manual blocks.
use Rattle.std.specs.Prelude.{ℕ, ◌+◌, ◌*◌, ◌==◌, nat_le, Bool, false, not, if◌then◌else◌, Ok, List, [], ◌∷◌, length, slice_get}
use Rattle.std.specs.Option.{option_map_or}
use Rattle.mps_base.specs.Address.{Address, Word, word_of, bytes_of_word, max_block_words}
use Rattle.mps_base.specs.Segment.{segment_over}
use Rattle.mps_base.specs.Trail.{Moves}
use Rattle.mps_base.specs.declared.names.Name.{Name}
use Rattle.mps_base.specs.declared.names.Slot.{Slot}
use Rattle.mps_base.specs.declared.refusal.Refusal.TheVariants as refusal
use Rattle.mps_manual.specs.Manual.{has_blocks_of, answer_of_alloc, segs_after_alloc, moves_allocated, segs_after_free, moves_freed}
use Rattle.mps_model.specs.Checked.{Checked, ◌>>=◌, ◌>>◌, required, refuse_when}
use Rattle.mps_root.specs.State.{with_place}
use Rattle.mps_snc.specs.State.{has_room, max_notes, pool_at}
use Rattle.mps_seg.specs.Segs.{SegsState}
use Rattle.mps_heap_spec.specs.State.{HeapState}
use Rattle.mps_format.specs.Pools.{is_automatic_pool}
use Rattle.mps_heap_spec.specs.Coming.{Outcome, Moved, done}
use Rattle.mps_heap_spec.specs.Areas.{block_over}
use Rattle.mps_heap_spec.specs.Finding.{pool_named, block_place_in}
use Rattle.mps_heap_spec.specs.Framing.{frames_after_alloc, has_frames, with_frames}
use Rattle.mps_heap_spec.specs.declared.found.Entry.{Entry}
use Rattle.mps_heap_spec.specs.Objects.{with_word}

-- whether the block over a byte begins at an address
abbrev pub is_block_over : SegsState → (byte : ℕ) → Address → Bool
is_block_over s byte at = option_map_or (λ from. from == at) (block_over s byte) false

-- ---- several blocks are freed

-- the segments and a trail, while blocks are freed
pub record Freeing : Type 0 where
  pub segs : SegsState
  pub trail : Moves

-- the block at an address is freed, if one begins there
abbrev pub one_freed : (size : ℕ) → Freeing → Address → Freeing
one_freed size f at =
    if is_block_over f.segs at at
    then record { segs = segs_after_free size f.segs at; trail = moves_freed size f.segs f.trail (record { 0 = at }) } else f

-- those at some addresses, one after the other
abbrev pub row_freed : (size : ℕ) → Freeing → List Address → Freeing
row_freed size f [] = f
row_freed size f (at ∷ ats) = row_freed size (one_freed size f at) ats

module _ {F : Type 0} where
  -- a place of a table of blocks has this address
  abbrev pub with_block_place : HeapState F → Entry Address → (at : Address) → HeapState F
  with_block_place h place at = record h { roots = record h.roots { blocks = with_place h.roots.blocks place.key place.index at } }

  -- in a pool of frames the block is noted. There always is room for that, since there are no more places than may be noted
  abbrev pub block_allocated : HeapState F → Moves → (pool : Name) → (words : ℕ) → (place : Slot) → Checked (Moved F (Unit {0}))
  block_allocated h trail pool words place = do
    from ← pool_named h pool
    refuse_when (is_automatic_pool from.value) refusal.WrongPool
    into ← block_place_in h place
    size ← required (slice_get h.sizes from.key) refusal.BadName
    refuse_when (not (has_blocks_of size words)) refusal.BadSize
    refuse_when (not (into.value == 0)) refusal.NameTaken
    refuse_when (not (has_room (pool_at h.beside.frames from.key))) (refusal.TooMany max_notes)
    at ← answer_of_alloc size h.segs from.key words
    Ok (record {
      answer = tt;
      state = with_frames (with_block_place (record h { segs = segs_after_alloc h.segs from.key words at }) into at.0)
          (frames_after_alloc h from.key into at);
      trail = moves_allocated h.segs trail from.key words at;
    })

  -- the manual block in a place
  abbrev pub block_in : HeapState F → Entry Address → Checked Address
  block_in h place = do
    refuse_when (place.value == 0) refusal.NotABlock
    refuse_when (not (is_block_over h.segs place.value place.value)) refusal.NotABlock
    Ok place.value

  -- a block of a pool of frames is freed with its frame alone
  abbrev pub block_freed : HeapState F → Moves → (place : Slot) → Checked (Moved F (Unit {0}))
  block_freed h trail place = do
    from ← block_place_in h place
    at ← block_in h from
    s ← required (segment_over h.segs.segments at) refusal.NotABlock
    refuse_when (has_frames h s.pool) refusal.WrongPool
    size ← required (slice_get h.sizes s.pool) refusal.NotABlock
    Ok (record {
      answer = tt;
      state = with_block_place (record h { segs = segs_after_free size h.segs at }) from 0;
      trail = moves_freed size h.segs trail (record { 0 = at });
    })

  -- the number of word k of a block, if it has that
  abbrev pub word_in_block : HeapState F → Address → (k : ℕ) → Checked Word
  word_in_block h at k = do
    refuse_when (nat_le max_block_words k) refusal.BadIndex
    refuse_when (nat_le (length h.segs.words) (word_of at + k)) refusal.BadIndex
    refuse_when (not (is_block_over h.segs (at + bytes_of_word * k) at)) refusal.BadIndex
    Ok (word_of at + k)

  abbrev pub word_loaded : HeapState F → (place : Slot) → (k : ℕ) → Checked ℕ
  word_loaded h place k = do
    from ← block_place_in h place
    at ← block_in h from
    word ← word_in_block h at k
    required (slice_get h.segs.words word) refusal.BadIndex

  abbrev pub word_stored : HeapState F → (place : Slot) → (k value : ℕ) → Checked (Outcome F (Unit {0}))
  word_stored h place k value = do
    into ← block_place_in h place
    at ← block_in h into
    word ← word_in_block h at k
    done (with_word h word value)
