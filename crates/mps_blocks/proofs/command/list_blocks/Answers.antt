use Rattle.std.proofs.Common.{◌≡◌, map, subst, ap, ◌∙◌}
use Rattle.mps_model.specs.Replay.{Store}
use Rattle.mps_report.specs.Streams.{Prints, PrintsPart}
use Rattle.mps_blocks.specs.Entries.{block_of}
use Rattle.mps_blocks.specs.Listing.{listing}
use Rattle.mps_blocks.proofs.WholeReplay.{listed_whole, listed_part}
use Rattle.mps_blocks.proofs.command.list_blocks.Goals as goal

pub returns-in-Ok-print_listing-clause-listed : goal.returns-in-Ok-print_listing-clause-listed
returns-in-Ok-print_listing-clause-listed g c bytes known =
    let a = g.D.Desk.outside c.args.desk.now in
    let b = g.D.Desk.outside c.replay_log.new.desk in
    let d = g.D.Desk.outside c.print_listing.new.desk in
    let blocks : map block_of c.deref.result.now ≡ c.in_ok-replay.replay.blocks =
    ap (map block_of) c.deref.ensures.value ∙ c.in-Ok-sorted_blocks.ensures ∙ c.into_live.ensures in
    listed_whole bytes c.in_ok-replay.replay a b d (c.in_ok-replay.ensures.replayed bytes known) c.replay_log.ensures.printed
    (subst (λ (s : Store). Prints b d (listing s)) blocks c.in-Ok-print_listing.ensures.printed)

pub returns-clause-listed : goal.returns-clause-listed
returns-clause-listed g c bytes known =
    let a = g.D.Desk.outside c.args.desk.now in
    let b = g.D.Desk.outside c.replay_log.new.desk in
    let d = g.D.Desk.outside c.print_listing.new.desk in
    let blocks : map block_of c.deref.result.now ≡ c.in_ok-replay.replay.blocks =
    ap (map block_of) c.deref.ensures.value ∙ c.in-Ok-sorted_blocks.ensures ∙ c.into_live.ensures in
    listed_part bytes c.in_ok-replay.replay a b d (c.in_ok-replay.ensures.replayed bytes known) c.replay_log.ensures.printed
    (subst (λ (s : Store). PrintsPart b d (listing s)) blocks c.in-Err-print_listing.ensures.part)
