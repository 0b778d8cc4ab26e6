use Rattle.std.proofs.Common.{sym}
use Rattle.mps_final.proofs.LiveEntries.{live_at}
use Rattle.mps_final.proofs.entries.seek.Goals as goal

pub returns-clause-address : goal.returns-clause-address
returns-clause-address c =
    let entry = c.index_of-index.ensures in
    sym (live_at c.args.entries.now c.args.position c.index_of-index.result 0 entry.within entry.lives entry.before)
