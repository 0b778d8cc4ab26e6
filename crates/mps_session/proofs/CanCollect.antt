-- A heap can collect everything where it stands for a world to which few flips came.
use Rattle.std.proofs.Common.{◌≡◌, ◌<◌, ◌^◌, true, length, arith}
use Rattle.std.proofs.lemmas.Bool.{lt-ltb}
use Rattle.mps_commands.specs.Asked.{HasFewFlips}
use Rattle.mps_format.specs.Layout.{Layout}
use Rattle.mps_model.specs.World.{World}
use Rattle.mps_refinement.specs.Collecting.{can_collect, most_flips}
use Rattle.mps_refinement.specs.State.{HeapState}
use Rattle.mps_refinement.specs.StandsFor.{StandsFor}

-- the heap counts more flips than came
pub collects_there : {F : Type 0} (layout : F → Layout) (h : HeapState F) (w : World) → StandsFor layout h w → HasFewFlips w
    → can_collect h ≡ true
collects_there layout h w st few =
    let flips : h.points.flips ≡ length w.flips = st.parts.point_flips in
    let below : length w.flips < 2 ^ 32 = few in
    lt-ltb h.points.flips most_flips (omega (arith, flips, below))
