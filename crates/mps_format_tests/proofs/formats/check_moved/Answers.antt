-- What `pad` leaves is a whole pad.
use Rattle.mps_format.specs.Blocks.{whole_pad}
use Rattle.mps_format_tests.proofs.formats.check_moved.Goals as goal

pub skip-requires : goal.skip-requires
skip-requires g c = whole_pad _ c.pad.ensures
