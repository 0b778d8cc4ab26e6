use Rattle.std.proofs.Common.{[], map}
use Rattle.std.proofs.lemmas.Result.{on_err_weaker}
use Rattle.mps_blocks.specs.Entries.{block_of}
use Rattle.mps_blocks.specs.Listing.{listing}
use Rattle.mps_blocks.proofs.Gathering.{all_gathered, part_printed}
use Rattle.mps_blocks.proofs.listing.print_listing.Goals as goal

pub returns-clause-part : goal.returns-clause-part
returns-clause-part g c =
    let a = g.D.Desk.outside c.args.desk.now in
    let b = g.D.Desk.outside c.gather_blocks.new.desk in
    let d = g.D.Desk.outside c.flush.new.desk in
    let text = listing (map block_of c.args.blocks.now) in
    on_err_weaker c.flush.result
    (part_printed a b d c.args.output.now c.gather_blocks.new.output text [] c.requires
    (all_gathered a b c.args.output.now c.gather_blocks.new.output text c.in_ok-gather_blocks.ensures.gathered))
    c.flush.ensures.failed
