-- Words that can be covered lie in the arena.
use Rattle.std.proofs.Common.{ℕ, ◌+◌, ◌*◌, ◌≤◌, List}
use Rattle.mps_base.specs.Address.{words_of_grain}
use Rattle.mps_base.specs.Run.{Run, with_run}
use Rattle.mps_base.proofs.Runs.{contained_bounds}
use Rattle.mps_extents.proofs.ApartRuns.{contains_put}
use Rattle.mps_seg.specs.Segs.{IsOpenRun}

pub open_bounds : (grains : ℕ) (held covered : List Run) (r : Run) → IsOpenRun grains held covered r
    → r.from + r.count ≤ words_of_grain * (grains + 1)
open_bounds grains held covered r open_run =
    (contained_bounds 0 (words_of_grain * (grains + 1)) (with_run r covered) r open_run.free (contains_put r covered)).2
