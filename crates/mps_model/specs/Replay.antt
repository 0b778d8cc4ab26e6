-- Replaying a log: which blocks are live at its end. The blocks stand in ascending order of their addresses.
use Rattle.std.specs.Prelude.{◌≡◌, ℕ, Bool, ◌==◌, if◌then◌else◌, Option, Some, None, option_and_then, is_some, List, [], ◌∷◌, slice_index, refl}
use Rattle.mps_base.specs.Address.{Address}
use Rattle.mps_base.specs.Put.{put}
use Rattle.mps_base.specs.Record.{Record, commit_code, alloc_code, move_code, stay_code, post_code, free_code}

-- a live block: its address, its size in words, and the number of its pool
pub record Block : Type 0 where
  pub at : ℕ
  pub words : ℕ
  pub pool : ℕ

-- live blocks, in ascending order of their addresses
abbrev pub Store : Type 0
Store = List Block

-- the block that begins at an address
abbrev pub block_at : Store → (address : Address) → Option Block
block_at [] address = None
block_at (b ∷ bs) address = if b.at == address then Some b else block_at bs address

-- whether a block begins at an address
abbrev pub is_live : Store → (address : Address) → Bool
is_live store address = is_some (block_at store address)

-- one more block, before the first that begins after it
abbrev pub with_block : Block → Store → Store
with_block new bs = put (λ (b : Block). b.at) new bs

-- all but the block at an address
abbrev pub without_block : Store → (address : Address) → Store
without_block [] address = []
without_block (b ∷ bs) address = if b.at == address then bs else b ∷ without_block bs address

-- a new block: none if one is live there already
abbrev pub after_making : Store → (at words pool : ℕ) → Option Store
after_making store at words pool =
    if is_live store at then None else Some (with_block (record { at = at; words = words; pool = pool }) store)

-- a block moves: none if it isn't live, or if one is live at the new address already
abbrev pub after_moving : Store → (from to : Address) → Option Store
after_moving store from to = if is_live store to then None else moved (block_at store from)
  where
    moved : Option Block → Option Store
    moved None = None
    moved (Some b) = Some (with_block (record b { at = to }) (without_block store from))

-- a block stays as it is: none if it isn't live
abbrev pub after_touching : Store → (at : Address) → Option Store
after_touching store at = if is_live store at then Some store else None

-- a block is freed: none if it isn't live
abbrev pub after_freeing : Store → (at : Address) → Option Store
after_freeing store at = if is_live store at then Some (without_block store at) else None

-- the blocks after a record: none if the record is a bad replay. Records of other codes leave the blocks as they are
abbrev pub store_after : Store → Record → Option Store
store_after store r =
    if r.code == commit_code then after_making store (field 0) (field 1) (field 2)
    else (if r.code == alloc_code then after_making store (field 0) (field 1) (field 2)
    else (if r.code == move_code then after_moving store (field 0) (field 1)
    else (if r.code == stay_code then after_touching store (field 0)
    else (if r.code == post_code then after_touching store (field 0)
    else (if r.code == free_code then after_freeing store (field 0)
    else Some store)))))
  where
    field : ℕ → ℕ
    field i = slice_index r.fields i

-- the blocks after records, from some blocks on: none if a record is a bad replay
abbrev pub replay_from : Store → List Record → Option Store
replay_from store [] = Some store
replay_from store (r ∷ rs) = option_and_then (λ after. replay_from after rs) (store_after store r)

-- the blocks that live after all records of a log: none if a record is a bad replay
abbrev pub replay : List Record → Option Store
replay records = replay_from [] records

-- A block of 3 words is committed at 0x1000 and moves to 0x2000.

abbrev committed : Record
committed = record { line = 7; code = commit_code; fields = 0x1000 ∷ 3 ∷ 0 ∷ [] }

abbrev moved_on : Record
moved_on = record { line = 10; code = move_code; fields = 0x1000 ∷ 0x2000 ∷ [] }

abbrev freed : Record
freed = record { line = 11; code = free_code; fields = 0x1000 ∷ [] }

pub a_moved_block_lives_at_its_new_address :
    replay (committed ∷ moved_on ∷ []) ≡ Some (record { at = 0x2000; words = 3; pool = 0 } ∷ [])
a_moved_block_lives_at_its_new_address = refl

pub a_freed_block_is_gone : replay (committed ∷ freed ∷ []) ≡ Some []
a_freed_block_is_gone = refl

pub an_old_place_cannot_be_freed : replay (committed ∷ moved_on ∷ freed ∷ []) ≡ None
an_old_place_cannot_be_freed = refl

pub a_live_place_cannot_be_committed : replay (committed ∷ committed ∷ []) ≡ None
a_live_place_cannot_be_committed = refl

pub a_block_cannot_move_to_itself :
    replay (committed ∷ record { line = 10; code = move_code; fields = 0x1000 ∷ 0x1000 ∷ [] } ∷ []) ≡ None
a_block_cannot_move_to_itself = refl
