-- The marks of a collection as lists of booleans, one for each word. The mark of a block stands at the word at which it begins.
use Rattle.std.specs.Prelude.{ℕ, ◌≡◌, ◌||◌, Bool, true, false, List, [], ◌∷◌, replicate, slice_set, refl}
use Rattle.mps_base.specs.Address.{Word}
use Rattle.mps_base.specs.declared.names.Rank.{Rank}
use Rattle.mps_base.specs.declared.names.Rank.TheVariants.{Exact, Weak}

pub record MarkTables : Type 0 where
  -- the collection keeps the block
  pub kept : List Bool
  -- the block is grey, so that it is still to be scanned: of rank exact, and of rank weak
  pub exact : List Bool
  pub weak : List Bool

abbrev pub no_marks : (words : ℕ) → MarkTables
no_marks words = record { kept = replicate words false; exact = replicate words false; weak = replicate words false }

-- the grey blocks of a rank
abbrev pub grey_of : Rank → MarkTables → List Bool
grey_of Exact m = m.exact
grey_of Weak m = m.weak

-- the bits that are set in one of two tables of one length
abbrev pub either : List Bool → List Bool → List Bool
either [] ys = []
either (x ∷ xs) [] = []
either (x ∷ xs) (y ∷ ys) = (x || y) ∷ either xs ys

-- the grey blocks of both ranks
abbrev pub grey : MarkTables → List Bool
grey m = either m.exact m.weak

-- one more grey block
abbrev pub with_grey : Rank → Word → MarkTables → MarkTables
with_grey Exact word m = record m { exact = slice_set m.exact word true }
with_grey Weak word m = record m { weak = slice_set m.weak word true }

-- a block that isn't grey any longer
abbrev pub after_blacken : Word → MarkTables → MarkTables
after_blacken word m = record m { exact = slice_set m.exact word false; weak = slice_set m.weak word false }

-- a block that has no mark any longer
abbrev pub without_marks : Word → MarkTables → MarkTables
without_marks word m = after_blacken word (record m { kept = slice_set m.kept word false })

-- three words; the blocks at 0 and 2 are kept, that at 2 is grey
abbrev example : MarkTables
example = record {
  kept = true ∷ false ∷ true ∷ [];
  exact = false ∷ false ∷ false ∷ [];
  weak = false ∷ false ∷ true ∷ [];
}

pub a_grey_block_of_a_rank : grey_of Exact (with_grey Exact 1 example) ≡ false ∷ true ∷ false ∷ []
a_grey_block_of_a_rank = refl

pub none_more_of_the_other : grey_of Weak (with_grey Exact 1 example) ≡ false ∷ false ∷ true ∷ []
none_more_of_the_other = refl

pub grey_of_either_rank : grey (with_grey Exact 1 example) ≡ false ∷ true ∷ true ∷ []
grey_of_either_rank = refl

pub a_black_block_is_kept : after_blacken 2 example ≡ record example { weak = replicate 3 false }
a_black_block_is_kept = refl

pub no_mark_is_left : without_marks 2 example ≡ record (no_marks 3) { kept = true ∷ false ∷ false ∷ [] }
no_mark_is_left = refl
