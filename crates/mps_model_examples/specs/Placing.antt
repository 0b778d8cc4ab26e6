-- Where blocks are placed, in a few worlds.
use Rattle.std.specs.Prelude.{◌≡◌}
use Rattle.mps_base.specs.Placement.{Place, NewSegment, OverLimit}
use Rattle.mps_model.specs.Placement.{ForReserve, ForMove, placement_of}
use Rattle.mps_model.specs.History.{world_after_history}
use Rattle.mps_model_examples.specs.OneBlock.{prelude, one_block}
use Rattle.mps_model_examples.specs.FillingGaps.{one_grain}
use Rattle.mps_model_examples.specs.Incremental.{linked_started}

-- in an empty arena at the first grain; after a block at a point, and after a block that was moved; in a gap of a pool that
-- doesn't move; and nowhere, if the commit limit is met
pub record PlacementsCompute : Type 0 where
  pub in_empty_arena : placement_of (world_after_history prelude) (ForReserve 0 3) ≡ NewSegment 1 1
  pub after_a_block : placement_of (world_after_history one_block) (ForReserve 0 3) ≡ Place 515
  pub after_a_moved_block : placement_of (world_after_history linked_started) (ForMove 0) ≡ Place 1027
  pub in_a_gap : placement_of (world_after_history one_grain) (ForReserve 0 508) ≡ Place 516
  pub over_the_limit : placement_of (world_after_history one_grain) (ForReserve 0 509) ≡ OverLimit 1 1 1
