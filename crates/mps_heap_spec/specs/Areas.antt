-- The outcomes of the calls on areas.
use Rattle.std.specs.Prelude.{ℕ, ◌==◌, ◌&&◌, Bool, true, false, not, Option, Some, None, option_map, Ok, if◌then◌else◌}
use Rattle.mps_base.specs.Address.{Address, word_of}
use Rattle.mps_extents.specs.Extents.{run_over}
use Rattle.mps_base.specs.declared.names.Slot.{Slot}
use Rattle.mps_base.specs.declared.refusal.Refusal.TheVariants as refusal
use Rattle.mps_format.specs.Layout.{Layout}
use Rattle.mps_model.specs.Checked.{Checked, ◌>>=◌, ◌>>◌, required, refuse_when}
use Rattle.mps_root.specs.State.{with_item}
use Rattle.mps_root.specs.declared.roots.Stored.{Stored}
use Rattle.mps_seg.specs.Segs.{SegsState, at_word}
use Rattle.mps_seg.specs.Collecting.{is_white_at}
use Rattle.mps_heap_spec.specs.State.{HeapState, pool_over}
use Rattle.mps_format.specs.Pools.{is_automatic_pool, is_copying_pool}
use Rattle.mps_format.specs.declared.pool.Pool.{Pool}
use Rattle.mps_heap_spec.specs.Coming.{Outcome, done}
use Rattle.mps_heap_spec.specs.Finding.{slot_in, word_in, object_in}
use Rattle.mps_heap_spec.specs.declared.found.Entry.{Entry}
use Rattle.mps_heap_spec.specs.Objects.{with_slot}

-- the address of the block that is over a byte
abbrev pub block_over : SegsState → (byte : ℕ) → Option Address
block_over s byte = option_map (λ at. at.0) (option_map at_word (run_over s.blocks (word_of byte)))

module _ {F : Type 0} where
  -- whether a word lies in the block of a pool over it: by bytes in a copying pool, else at the block's address alone
  abbrev pub is_of_pool : (word : ℕ) → (at : Address) → Option (Pool F) → Bool
  is_of_pool word at None = false
  is_of_pool word at (Some p) = is_automatic_pool p && (if is_copying_pool p then true else word == at)

  -- whether a word lies in an object
  abbrev pub lies_in_object : HeapState F → (word : ℕ) → (block : Option Address) → Bool
  lies_in_object h word None = false
  lies_in_object h word (Some at) = is_of_pool word at (pool_over h at)

  -- whether `poke` of a word holds an object: one in which it lies, and which isn't white
  abbrev pub is_hold : HeapState F → (word : ℕ) → (block : Option Address) → Bool
  is_hold h word None = false
  is_hold h word (Some at) = lies_in_object h word (Some at) && not (is_white_at h.segs at)

  -- a word of an area has this
  abbrev pub with_area_word : HeapState F → Entry Stored → Stored → HeapState F
  with_area_word h at word = record h { roots = record h.roots { areas = with_item h.roots.areas at.key at.index word } }

  -- true if the word holds an object from then on
  abbrev pub after_poke : HeapState F → (place : Slot) → (word : ℕ) → Checked (Outcome F Bool)
  after_poke h place word = do
    at ← word_in h place
    Ok (record {
      answer = is_hold h word (block_over h.segs word);
      state = with_area_word h at (record { word = word; holds = is_hold h word (block_over h.segs word) });
    })

  abbrev pub answer_of_peek : HeapState F → (place : Slot) → Checked ℕ
  answer_of_peek h place = do
    at ← word_in h place
    Ok at.value.word

  -- the object that a word holds
  abbrev pub held_by : HeapState F → Stored → Checked Address
  held_by h word = do
    refuse_when (not word.holds) refusal.NotARef
    required (block_over h.segs word.word) refusal.NotARef

  abbrev pub after_take : HeapState F → (slot place : Slot) → Checked (Outcome F (Unit {0}))
  after_take h slot place = do
    into ← slot_in h slot
    at ← word_in h place
    object ← held_by h at.value
    done (with_slot h into object)

module _ {F : Type 0} (layout : F → Layout) where
  abbrev pub after_pin : HeapState F → (place slot : Slot) → Checked (Outcome F (Unit {0}))
  after_pin h place slot = do
    at ← word_in h place
    object ← object_in layout h slot
    done (with_area_word h at (record { word = object.at; holds = true }))
