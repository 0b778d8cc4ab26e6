-- The outcome of `push`, and what of a pool of frames other calls see and leave.
use Rattle.std.specs.Prelude.{ℕ, ◌≡◌, Bool, None, Ok, is_some, length}
use Rattle.mps_base.specs.Address.{Address}
use Rattle.mps_base.specs.declared.address.Addr.{Addr}
use Rattle.mps_base.specs.declared.names.Name.{Name}
use Rattle.mps_base.specs.declared.refusal.Refusal.TheVariants as refusal
use Rattle.mps_format.specs.declared.pool.Pool.TheVariants as pool
use Rattle.mps_model.specs.Checked.{Checked, ◌>>=◌, ◌>>◌, required}
use Rattle.mps_model.specs.Making.{most_frames, refuse_at_limit}
use Rattle.mps_snc.specs.State as snc
use Rattle.mps_snc.specs.State.{PoolState}
use Rattle.mps_heap_spec.specs.State.{HeapState}
use Rattle.mps_heap_spec.specs.Coming.{Outcome}
use Rattle.mps_heap_spec.specs.Finding.{pool_named}
use Rattle.mps_heap_spec.specs.Making.{MakesPool}
use Rattle.mps_heap_spec.specs.declared.found.Entry.{Entry}
use Rattle.mps_heap_spec.specs.declared.found.Kept.{Kept}

module _ {F : Type 0} where
  -- the state with these pools of frames
  abbrev pub with_frames : HeapState F → snc.Pools → HeapState F
  with_frames h frames = record h { beside = record h.beside { frames = frames } }

  -- whether a pool is one of frames
  abbrev pub has_frames : HeapState F → (pool : ℕ) → Bool
  has_frames h pool = is_some (snc.pool_at h.beside.frames pool)

  -- the pools of frames after a block was made in a place: it is noted if its pool is one of them
  abbrev pub frames_after_alloc : HeapState F → (pool : ℕ) → Entry Address → Addr → snc.Pools
  frames_after_alloc h pool into at =
      snc.noted h.beside.frames pool (record { at = at; place = record { table = into.key; index = into.index } })

  -- a pool of blocks of any sizes is made on no chain, and it is one of frames, of which none is open
  pub record MakesPoolOfFrames (h : HeapState F) (name : Name) (number : ℕ) (after : HeapState F) : Type 0 where
    pub pooled : HeapState F
    pub makes : MakesPool h name pool.AnySize None number pooled
    pub state : after ≡ with_frames pooled (snc.with_pool pooled.beside.frames number snc.new_pool)

  -- what a pool of frames has, by its name
  abbrev pub frames_named : HeapState F → Name → Checked (Kept PoolState)
  frames_named h name = do
    of ← pool_named h name
    frames ← required (snc.pool_at h.beside.frames of.key) refusal.WrongPool
    Ok (record { key = of.key; value = frames })

  -- a frame is opened; the answer is how many of the pool were open
  abbrev pub frame_pushed : HeapState F → Name → Checked (Outcome F ℕ)
  frame_pushed h name = do
    of ← frames_named h name
    refuse_at_limit (snc.frames_count h.beside.frames) most_frames
    Ok (record {
      answer = length of.value.frames;
      state = with_frames h (snc.with_pool h.beside.frames of.key (snc.with_frame of.value));
    })
