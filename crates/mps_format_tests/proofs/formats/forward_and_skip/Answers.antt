-- What `forward` leaves is a whole forwarded block.
use Rattle.std.proofs.Common.{length}
use Rattle.mps_format.specs.Blocks.{whole_forwarded}
use Rattle.mps_format_tests.proofs.formats.forward_and_skip.Goals as goal

pub skip-requires : goal.skip-requires
skip-requires g c = whole_forwarded (length c.args.block.now) c.forward.ensures.forwarded
