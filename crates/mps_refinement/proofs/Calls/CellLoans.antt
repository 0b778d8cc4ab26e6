-- A loan of number cells of an object: what the borrower leaves in them is what a `setnum` of each leaves, and each is right.
use Rattle.std.proofs.Common.{◌≡◌, ℕ, ◌+◌, ◌<◌, false}
use Rattle.mps_base.specs.Address.{word_of}
use Rattle.mps_format.specs.Layout.{Layout}
use Rattle.mps_heap_spec.specs.declared.found.Block.{Block}

module _ {F : Type 0} (layout : F → Layout) where
  -- cell k of a block is a number, and its word one of n
  pub record IsNumberCell (b : Block F) (n k : ℕ) : Type 0 where
    pub first : 0 < k
    pub low : k < (layout b.format).size b.head
    pub number : (layout b.format).is_reference b.head k ≡ false
    pub within : word_of b.at + k < n
