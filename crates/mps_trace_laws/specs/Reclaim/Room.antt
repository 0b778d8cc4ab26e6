-- What a collection has to know before a condemned segment is reclaimed, and what it knows then.
use Rattle.std.specs.Prelude.{◌≡◌, ◌+◌, ◌*◌, ◌%◌, ◌<◌, ◌≤◌, length}
use Rattle.mps_base.specs.Address.{word_of, words_of_grain, bytes_of_word}
use Rattle.mps_base.specs.Segment.{Segment, end_of_segment}
use Rattle.mps_base.specs.Trail.{Moves}
use Rattle.mps_base.specs.declared.address.Addr.{Addr}
use Rattle.mps_seg.specs.Segs.{SegsState}
use Rattle.mps_amc.specs.Reclaiming.{CanReclaim}

-- a segment lies in the arena, and there is room for a move for each block of the arena and one more
pub record HasRoomFor (g : SegsState) (moves : Moves) (t : Segment) : Type 0 where
  pub inside : word_of (end_of_segment t) ≤ words_of_grain * (g.grains + 1)
  pub room : length g.blocks < moves.spare

-- a segment can be reclaimed that begins at an address: what a collection needs of it but for the format of its pool
pub record CanBeReclaimed (g : SegsState) (moves : Moves) (base : Addr) (t : Segment) : Type 0 where
  pub aligned : base.0 % bytes_of_word ≡ 0
  pub segment : CanReclaim g base.0 moves.spare
  pub same : segment.segment ≡ t
