use Rattle.mps_client_laws.proofs.Objects.{objects_keep_their_identity, cells_stay, words_stay}
use Rattle.mps_client_laws.proofs.LastingCells.{lasting_cells_stay}
use Rattle.mps_client_laws.proofs.no_object_is_lost.Goals as goal

pub returns : goal.returns
returns c = record { identity = objects_keep_their_identity; cells = cells_stay; lasting = lasting_cells_stay; words = words_stay }
