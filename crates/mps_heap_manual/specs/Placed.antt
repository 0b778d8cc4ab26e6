-- The outcomes of `alloc` and `free` once the place of the block was found.
use Rattle.std.specs.Prelude.{ℕ, ◌==◌, not, Ok, slice_get}
use Rattle.mps_base.specs.Address.{Address}
use Rattle.mps_base.specs.Segment.{segment_over}
use Rattle.mps_base.specs.Trail.{Moves}
use Rattle.mps_base.specs.declared.refusal.Refusal.TheVariants as refusal
use Rattle.mps_manual.specs.Manual.{has_blocks_of, answer_of_alloc, segs_after_alloc, moves_allocated, segs_after_free, moves_freed}
use Rattle.mps_snc.specs.State.{has_room, max_notes, pool_at}
use Rattle.mps_heap_spec.specs.Checked.{Checked, ◌>>=◌, ◌>>◌, required, refuse_when}
use Rattle.mps_heap_spec.specs.Coming.{Moved}
use Rattle.mps_heap_spec.specs.Framing.{frames_after_alloc, has_frames, with_frames}
use Rattle.mps_heap_spec.specs.Manual.{with_block_place}
use Rattle.mps_heap_spec.specs.State.{HeapState}
use Rattle.mps_heap_spec.specs.declared.found.Entry.{Entry}

module _ {F : Type 0} (h : HeapState F) (trail : Moves) where
  -- a block of n words is made in the manual pool with a number, and put in a place
  abbrev pub allocated_into : (pool words : ℕ) → Entry Address → Checked (Moved F (Unit {0}))
  allocated_into pool words into = do
    size ← required (slice_get h.sizes pool) refusal.BadName
    refuse_when (not (has_blocks_of size words)) refusal.BadSize
    refuse_when (not (into.value == 0)) refusal.NameTaken
    refuse_when (not (has_room (pool_at h.beside.frames pool))) (refusal.TooMany max_notes)
    at ← answer_of_alloc size h.segs pool words
    Ok (record {
      answer = tt;
      state = with_frames (with_block_place (record h { segs = segs_after_alloc h.segs pool words at }) into at.0)
          (frames_after_alloc h pool into at);
      trail = moves_allocated h.segs trail pool words at;
    })

  -- the block at an address is freed, and a place emptied
  abbrev pub freed_at : Entry Address → Address → Checked (Moved F (Unit {0}))
  freed_at from at = do
    s ← required (segment_over h.segs.segments at) refusal.NotABlock
    refuse_when (has_frames h s.pool) refusal.WrongPool
    size ← required (slice_get h.sizes s.pool) refusal.NotABlock
    Ok (record {
      answer = tt;
      state = with_block_place (record h { segs = segs_after_free size h.segs at }) from 0;
      trail = moves_freed size h.segs trail (record { 0 = at });
    })
