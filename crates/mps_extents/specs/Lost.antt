-- The blocks that begin in some words and aren't kept.
use Rattle.std.specs.Prelude.{ℕ, zero, suc, ◌≡◌, ◌&&◌, if◌then◌else◌, Bool, true, false, not, List, [], ◌∷◌, filter, refl}
use Rattle.mps_base.specs.Address.{address_of_word}
use Rattle.mps_base.specs.Run.{Run, without_run, runs_within}
use Rattle.mps_base.specs.Trail.{Moves, with_move}
use Rattle.mps_base.specs.declared.moves.Move.TheVariants.{Free}
use Rattle.mps_bits.specs.Table.{bit}

-- whether the block at a run isn't kept
abbrev pub is_lost_run : List Bool → Run → Bool
is_lost_run kept r = not (bit kept r.from)

-- the blocks that begin from one word on and below another and aren't kept, in ascending order
abbrev pub lost_runs : (low high : ℕ) (kept : List Bool) → List Run → List Run
lost_runs low high kept blocks = filter (is_lost_run kept) (runs_within low high blocks)

-- the runs without these
abbrev pub without_runs : (lost : List Run) → List Run → List Run
without_runs [] rs = rs
without_runs (r ∷ lost) rs = without_runs lost (without_run r.from rs)

-- a Free for each block that begins at one of these words
abbrev pub freed_at : List ℕ → Moves → Moves
freed_at [] moves = moves
freed_at (word ∷ words) moves = freed_at words (with_move moves (Free (record { 0 = address_of_word word })))

-- a Free for each of these blocks
abbrev pub frees : List Run → Moves → Moves
frees [] moves = moves
frees (r ∷ rs) moves = frees rs (with_move moves (Free (record { 0 = address_of_word r.from })))

-- the indexes that pass a test, of the n from one on
unfoldable pub passing : (ℕ → Bool) → (from n : ℕ) → List ℕ
passing p from zero = []
passing p from (suc n) = if p from then from ∷ passing p (suc from) n else passing p (suc from) n

-- whether a block begins at a word and isn't kept, by the tables
abbrev pub begins_lost : (blocks kept : List Bool) → ℕ → Bool
begins_lost blocks kept word = bit blocks word && not (bit kept word)

-- ---- vectors: two blocks, the second of which is kept

abbrev first_block : Run
first_block = record { from = 0; count = 2 }

abbrev second_block : Run
second_block = record { from = 2; count = 1 }

abbrev kept_second : List Bool
kept_second = false ∷ false ∷ true ∷ []

the_first_is_lost : lost_runs 0 3 kept_second (first_block ∷ second_block ∷ []) ≡ first_block ∷ []
unfolding bit
the_first_is_lost = refl

the_second_is_left : without_runs (first_block ∷ []) (first_block ∷ second_block ∷ []) ≡ second_block ∷ []
the_second_is_left = refl

one_passes : passing (begins_lost (true ∷ false ∷ true ∷ []) kept_second) 0 3 ≡ 0 ∷ []
unfolding passing bit
one_passes = refl
