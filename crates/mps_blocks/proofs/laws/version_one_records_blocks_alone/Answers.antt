use Rattle.mps_blocks.proofs.VersionOne.{version_one}
use Rattle.mps_blocks.proofs.laws.version_one_records_blocks_alone.Goals as goal

pub returns : goal.returns
returns c = λ records h. version_one records h
