-- The map that the program keeps, in any order of its entries, as the blocks that it stands for.
use Rattle.std.specs.Prelude.{◌≡◌, ℕ, List, [], ◌∷◌, refl}
use Rattle.mps_blocks.specs.declared.replay.Extent.{Extent}
use Rattle.mps_model.specs.Replay.{Block, Store, with_block, without_block}

-- an entry: an address, with the size and the pool of the block there
abbrev pub block_of : ℕ × Extent → Block
block_of e = record { at = e.0; words = e.1.words; pool = e.1.pool }

-- the blocks of the entries, in ascending order of their addresses
abbrev pub store_of : List (ℕ × Extent) → Store
store_of [] = []
store_of (e ∷ es) = with_block (block_of e) (without_block (store_of es) e.0)

-- Two entries, the second below the first.

abbrev two : List (ℕ × Extent)
two = (0x2000, record { words = 3; pool = 0 }) ∷ (0x1000, record { words = 4; pool = 1 }) ∷ []

pub the_blocks_ascend : store_of two
    ≡ block_of (0x1000, record { words = 4; pool = 1 }) ∷ block_of (0x2000, record { words = 3; pool = 0 }) ∷ []
the_blocks_ascend = refl
