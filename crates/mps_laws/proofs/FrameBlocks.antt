-- A block that stands in the frames of a pool is live, and in one place.
use Rattle.std.proofs.Common.{arith}
use Rattle.mps_model.specs.Graph.{ids_in_caches, ids_in_frames, ids_in_places}
use Rattle.mps_model.specs.World.{is_live}
use Rattle.mps_changes.proofs.Frames.{counted_passes}
use Rattle.mps_changes.proofs.OneMore.{occurrences-append}
use Rattle.mps_laws.specs.Replay.{reached}
use Rattle.mps_laws.specs.FrameBlocks.{BlocksOfFramesStand}
use Rattle.mps_laws.proofs.Frames.{frames_live}
use Rattle.mps_laws.proofs.OnePlace.{in_one_place}
use Rattle.mps_laws.proofs.WellFormedHistories.{reached_kept}

pub blocks_of_frames_stand : BlocksOfFramesStand
blocks_of_frames_stand formats history id once legal some =
    let w = reached formats history in
    let k = reached_kept formats history once legal in
    let there = k.framed.placed id some in
    let most = (in_one_place formats history legal).once id in
    let both = occurrences-append id (ids_in_places w.graph) (ids_in_caches w.graph) in
    record {
      live = counted_passes (is_live w) (ids_in_frames w.graph) id (frames_live w k.blocks k.framed) some;
      in_one_place = omega (arith, there, most, both);
    }
