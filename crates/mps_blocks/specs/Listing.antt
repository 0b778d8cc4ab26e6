-- What is printed of the live blocks: a line for each, in ascending order of their addresses.
use Rattle.std.specs.Prelude.{◌≡◌, ℕ, codes, decimal, List, [], ◌∷◌, ◌++◌, map, refl}
use Rattle.std.specs.Fmt.{digits}
use Rattle.std.specs.List.{flat_map}
use Rattle.mps_model.specs.Replay.{Block, Store}
use Rattle.mps_report.specs.Hexadecimal.{hexadecimal}

-- where the blocks begin
abbrev pub addresses : Store → List ℕ
addresses blocks = map (λ b. b.at) blocks

-- the line of a block: its address in hexadecimal, its size in words and the number of its pool in decimal
abbrev pub block_line : Block → List ℕ
block_line b = codes "0x" ++ hexadecimal b.at ++ codes " " ++ decimal b.words ++ codes " " ++ decimal b.pool ++ codes "\n"

-- the lines of all blocks
abbrev pub listing : Store → List ℕ
listing blocks = flat_map block_line blocks

pub no_block_has_no_line : listing [] ≡ []
no_block_has_no_line = refl

pub the_line_of_a_block : listing (record { at = 0x2000; words = 3; pool = 0 } ∷ []) ≡ codes "0x2000 3 0\n"
unfolding digits
the_line_of_a_block = refl

pub the_lines_of_two_blocks :
    listing (record { at = 0x1ff8; words = 12; pool = 1 } ∷ record { at = 0xabc000; words = 2; pool = 10 } ∷ [])
    ≡ codes "0x1ff8 12 1\n0xabc000 2 10\n"
unfolding digits
the_lines_of_two_blocks = refl
