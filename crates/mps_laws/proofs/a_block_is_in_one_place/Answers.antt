use Rattle.mps_laws.proofs.OnePlace.{blocks_in_one_place}
use Rattle.mps_laws.proofs.a_block_is_in_one_place.Goals as goal

pub returns : goal.returns
returns c = λ formats steps later id legal. blocks_in_one_place formats steps later id legal
