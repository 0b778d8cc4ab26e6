use Rattle.mps_laws.proofs.FrameBlocks as law
use Rattle.mps_laws.proofs.blocks_of_frames_stand.Goals as goal

pub returns : goal.returns
returns c = law.blocks_of_frames_stand
