-- How many moves a call that collects may make now: a bound by the blocks that live and the grains that are held.
use Rattle.std.specs.Prelude.{ℕ, ◌+◌, ◌*◌, ◌≡◌, min, [], ◌∷◌, refl}
use Rattle.mps_base.specs.Run.{total}
use Rattle.mps_base.specs.declared.names.Rank.TheVariants as rank
use Rattle.mps_seg.specs.Segs.{SegsState, held_runs, new_segments}
use Rattle.mps_trace.specs.Collect.{most_moves}

-- three for each word of a live block, two for each grain that is held, and six; and never more than the whole arena may need
abbrev pub moves_needed : SegsState → ℕ
moves_needed s = min (3 * total s.blocks + 2 * total (held_runs s) + 6) (most_moves s.grains)

-- ---- vectors: an arena of 2,000 grains with nothing in it, one with two blocks, and one of a grain that is full

pub six_where_nothing_lives : moves_needed (record (new_segments 1 1) { grains = 2000 }) ≡ 6
six_where_nothing_lives = refl

pub of_two_blocks_in_a_grain :
    moves_needed (record (new_segments 1 1) {
      grains = 2000;
      segments = record { base = 0x1000; grains = 1; pool = 0; generation = 0; rank = rank.Exact } ∷ [];
      blocks = record { from = 512; count = 2 } ∷ record { from = 514; count = 5 } ∷ [];
    }) ≡ 29
of_two_blocks_in_a_grain = refl

pub no_more_than_of_the_arena : moves_needed (record (new_segments 1 1) { blocks = record { from = 512; count = 512 } ∷ [] }) ≡ 1024
no_more_than_of_the_arena = refl
