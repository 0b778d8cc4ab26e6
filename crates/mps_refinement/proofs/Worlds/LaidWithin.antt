-- What is known of a world that a legal history reaches: what lies where in its arena, up to its last grain.
use Rattle.std.proofs.Common.{◌≡◌, ℕ, ◌+◌, ◌≤◌, true, List, [], ◌∷◌, arith}
use Rattle.std.proofs.lemmas.Bool.{and_parts, leb-true}
use Rattle.std.specs.Prelude.{map, not, ◌&&◌, ◌||◌, ◌==◌, nat_le, nat_lt, IsTrue}
use Rattle.std.specs.List.{AllByRecursion, list_all}
use Rattle.mps_base.specs.Address.{address_of_grain}
use Rattle.mps_base.specs.Run.{Run, IsAscending, end_of}
use Rattle.mps_base.specs.Segment.{Segment, grains_of_segment}
use Rattle.mps_format.specs.Layout.{Layout}
use Rattle.mps_model.specs.Making.{is_weak_rank}
use Rattle.mps_model.specs.Step.{History}
use Rattle.mps_model.specs.History.{IsLegalHistoryOf}
use Rattle.mps_model.specs.World.{World, is_weak_kind, pool_is}
use Rattle.mps_model.specs.WellFormed.{IsWellFormed, are_apart, is_right_segment, lies_within}
use Rattle.mps_laws.specs.Replay.{reached}
use Rattle.mps_laws.specs.WellFormed.{is_arena_made_once}
use Rattle.mps_laws.proofs.Positions.LegalMoves.{HasLayout}
use Rattle.mps_laws.proofs.Replays.Replay.{reached_from_empty}
use Rattle.mps_laws.proofs.WellFormedHistories.{reached_are_well_formed}

ascending_below : (low high most : ℕ) (rs : List Run) → IsAscending low high rs → AllByRecursion (λ (r : Run). end_of r ≤ most) rs
    → low ≤ most → IsAscending low most rs
ascending_below low high most [] ascending all few = few
ascending_below low high most (r ∷ rs) ascending all few =
    (ascending.0, ascending.1, ascending_below (end_of r) high most rs ascending.2 all.1 all.0)

-- segments of a well-formed world end in its arena
ends_within : (w : World) (ss : List Segment) → list_all (is_right_segment w) ss ≡ true
    → AllByRecursion (λ (r : Run). end_of r ≤ w.grains + 1) (map grains_of_segment ss)
ends_within w [] right = tt
ends_within w (s ∷ ss) right =
    let parts = and_parts (is_right_segment w s) (list_all (is_right_segment w) ss) right in
    let r = grains_of_segment s in
    let inside : Run = record { from = 1; count = w.grains } in
    let a = and_parts (address_of_grain r.from == s.base && nat_lt 0 s.grains && lies_within inside r)
    (not (is_weak_rank s.rank) || pool_is is_weak_kind w s.pool) parts.0 in
    let b = and_parts (address_of_grain r.from == s.base && nat_lt 0 s.grains) (lies_within inside r) a.0 in
    let c = and_parts (nat_le inside.from r.from) (nat_le (end_of r) (end_of inside)) b.1 in
    let last = leb-true (end_of r) (end_of inside) c.1 in
    (omega (arith, last), ends_within w ss parts.1)

-- so what lies where is known up to the last grain
pub laid_within : (limit : ℕ) (w : World) → HasLayout limit w → IsWellFormed w → HasLayout (w.grains + 1) w
laid_within limit w laid well =
    let parts = and_parts (list_all (is_right_segment w) w.segments) (are_apart (map grains_of_segment w.segments)) well.segments in
    record {
      in_range = omega arith;
      lengths = laid.lengths;
      memories = laid.memories;
      shapes = laid.shapes;
      points = laid.points;
      ascending =
          ascending_below 1 limit (w.grains + 1) (map grains_of_segment w.segments) laid.ascending
          (ends_within w w.segments parts.0) (omega arith);
      aligned = laid.aligned;
      ranked = laid.ranked;
      condemned = laid.condemned;
      distinct = laid.distinct;
      keyed = laid.keyed;
      placed = laid.placed;
    }

pub reached_laid : (formats : ℕ → Layout) (history : History) → IsTrue (is_arena_made_once history) → IsLegalHistoryOf formats history
    → HasLayout ((reached formats history).grains + 1) (reached formats history)
reached_laid formats history once legal =
    let r = reached_from_empty formats history legal in
    laid_within r.limit (reached formats history) r.layout (reached_are_well_formed formats history once legal)
