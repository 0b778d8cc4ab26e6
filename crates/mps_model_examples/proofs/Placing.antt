use Rattle.std.proofs.Common.{refl}
use Rattle.mps_model_examples.specs.Placing.{PlacementsCompute}

pub placements_compute : PlacementsCompute
placements_compute = record {
  in_empty_arena = refl;
  after_a_block = refl;
  after_a_moved_block = refl;
  in_a_gap = refl;
  over_the_limit = refl;
}
