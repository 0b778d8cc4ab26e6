use Rattle.mps_client_laws.proofs.Complete.{live_objects_are_reached, pinned_objects_stay, reached_objects_are_live, registered_objects_are_live, still_reached_objects_are_live, targets_are_live}
use Rattle.mps_client_laws.proofs.KeptByMoves.{others_were_kept_by_moves}
use Rattle.mps_client_laws.proofs.SegmentsHeld.{segments_have_live_blocks}
use Rattle.mps_client_laws.proofs.a_collect_is_complete.Goals as goal

pub returns : goal.returns
returns c = record {
  live = live_objects_are_reached;
  reached = reached_objects_are_live;
  still_reached = still_reached_objects_are_live;
  registered = registered_objects_are_live;
  targets = targets_are_live;
  moved = others_were_kept_by_moves;
  pinned = pinned_objects_stay;
  segments = segments_have_live_blocks;
}
