use Rattle.std.proofs.Common.{drop, map}
use Rattle.mps_blocks.specs.Entries.{block_of}
use Rattle.mps_blocks.specs.Listing.{listing}
use Rattle.mps_blocks.proofs.Gathering.{IsGatheredUpTo}
use Rattle.mps_blocks.proofs.listing.gather_blocks.Given as goal

abbrev pub invariant-loop-block : goal.invariant-loop-block
invariant-loop-block g l =
    IsGatheredUpTo (g.D.Desk.outside l.initial.desk) (g.D.Desk.outside l.desk) l.initial.output l.output
    (listing (map block_of l.blocks)) (listing (map block_of (drop l.block-index l.blocks)))
