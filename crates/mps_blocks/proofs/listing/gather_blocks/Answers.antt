use Rattle.std.proofs.Common.{◌+◌, drop, map, arith}
use Rattle.mps_blocks.specs.Entries.{block_of}
use Rattle.mps_blocks.specs.Listing.{listing}
use Rattle.mps_blocks.proofs.Gathering.{gathered_more, part_printed, on_err_of}
use Rattle.mps_blocks.proofs.Addresses.{listing_next}
use Rattle.mps_blocks.proofs.listing.gather_blocks.Goals as goal

pub loop-block-preserved : goal.loop-block-preserved
loop-block-preserved g c =
    gathered_more (g.D.Desk.outside c.args.desk.now) (g.D.Desk.outside c.loop-block.desk)
    (g.D.Desk.outside c.gather_block.new.desk) c.args.output.now c.loop-block.output c.gather_block.new.output
    (listing (map block_of c.args.blocks.now)) (listing (map block_of (drop c.loop-block.block-index c.args.blocks.now)))
    _ (listing (map block_of (drop (c.loop-block.block-index + 1) c.args.blocks.now)))
    c.loop-block.invariant (listing_next c.args.blocks.now c.loop-block.block-index _ (omega arith))
    c.in_ok-gather_block.ensures.gathered

pub returns-in_err-gather_block-clause-part : goal.returns-in_err-gather_block-clause-part
returns-in_err-gather_block-clause-part g c =
    on_err_of c.from_residual.result
    (part_printed (g.D.Desk.outside c.args.desk.now) (g.D.Desk.outside c.loop-block.desk)
    (g.D.Desk.outside c.gather_block.new.desk) c.args.output.now c.loop-block.output
    (listing (map block_of c.args.blocks.now)) (listing (map block_of (drop c.loop-block.block-index c.args.blocks.now)))
    c.requires c.loop-block.invariant c.in_err-gather_block.ensures.part)
