-- Words at hand and reservations: what a world says of them, as the segments have it. Words at hand can be covered, and the runs of
-- live reservations are among the runs of reservations.
use Rattle.std.proofs.Common.{◌≡◌, ◌∙◌, ℕ, zero, suc, ◌+◌, ◌*◌, ◌<◌, true, false, refl, sym, ap, List, [], ◌∷◌, ◌++◌, length, Option, Some, None, Contains, subst, inl, inr, arith}
use Rattle.std.proofs.lemmas.Bool.{true≢false}
use Rattle.std.proofs.lemmas.Option.{none-some, same_Some}
use Rattle.std.specs.Prelude.{map, slice_get, get_or, ◌==◌, if◌then◌else◌}
use Rattle.std.specs.List.{AllByRecursion}
use Rattle.mps_base.specs.Address.{word_of}
use Rattle.mps_base.specs.Run.{Run, IsAscending, in_order, with_run}
use Rattle.mps_base.specs.Segment.{Segment, grains_of_segment}
use Rattle.mps_base.proofs.Runs.{contains_first, contains_later}
use Rattle.mps_extents.proofs.ContainedRuns.{contains_still}
use Rattle.mps_buffer.specs.declared.point.Held.{Held}
use Rattle.mps_buffer.specs.declared.point.Point.{Point}
use Rattle.mps_buffer.specs.Points.{AreReserved, IsReservedAt, IsReserved, after_end_at, after_end, run_of_held}
use Rattle.mps_model.specs.Graph as graph
use Rattle.mps_model.specs.Graph.{Reservation, entry_at}
use Rattle.mps_model.specs.World.{World, PointMemory, covered, extent, reserved_extents, extent_of_reservation}
use Rattle.mps_seg.specs.Segs.{SegsState, IsOpenRun}
use Rattle.mps_trace_laws.proofs.Image.BlockRuns.{contained_in_order}
use Rattle.mps_laws.proofs.Positions.ApartRuns.{AreApart, all_in_order, ascending_with_run}
use Rattle.mps_laws.proofs.Positions.Covered.{covered_in, covered-shapes, covered_ascending, all_listed, occupant_within, listed}
use Rattle.mps_laws.proofs.Positions.LaidOut.{is_at_hand}
use Rattle.mps_laws.proofs.Positions.LegalMoves.{HasLayout}
use Rattle.mps_laws.proofs.Positions.Occupancy.{Occupant, occupancy_of, run_of}
use Rattle.mps_laws.proofs.Positions.Segments.{IsAmong, among_aligned}

-- ---- runs

grains_there : (s : Segment) (ss : List Segment) → IsAmong s ss → Contains (map grains_of_segment ss) (grains_of_segment s)
grains_there s [] h = absurd h
grains_there s (t ∷ ts) (inl same) =
    subst (λ (x : Segment). Contains (grains_of_segment t ∷ map grains_of_segment ts) (grains_of_segment x)) same
    (contains_first (map grains_of_segment ts) (grains_of_segment t))
grains_there s (t ∷ ts) (inr later) =
    contains_later (map grains_of_segment ts) (grains_of_segment s) (grains_of_segment t) (grains_there s ts later)

pub there_after : (xs ys : List Run) (r : Run) → Contains ys r → Contains (xs ++ ys) r
there_after [] ys r there = there
there_after (x ∷ xs) ys r there = contains_later (xs ++ ys) r x (there_after xs ys r there)

-- ---- words at hand

module _ (w : World) (laid : HasLayout (w.grains + 1) w) where
  -- what is at hand lies in a segment, and nothing covers it
  pub hand_is_open : (o : Occupant) → is_at_hand o ≡ true → 0 < (run_of (occupancy_of w) o).count
      → IsOpenRun w.grains (map grains_of_segment w.segments) (covered w) (run_of (occupancy_of w) o)
  hand_is_open o hand some =
      let g = occupancy_of w in
      let limit = w.grains + 1 in
      let home = laid.placed.homes o some in
      let aligned = among_aligned home.segment w.segments laid.aligned home.held in
      let apart : AllByRecursion (AreApart (run_of g o)) (covered_in g) =
      all_in_order (AreApart (run_of g o)) (listed limit g laid) (all_listed limit g laid (AreApart (run_of g o)) (λ a placed has n c d.
      true≢false (sym hand ∙ ap is_at_hand (laid.placed.apart o a n c d) ∙ placed))) in
      let ascending = ascending_with_run 0 (512 * limit) (run_of g o) (covered_in g) (occupant_within limit g laid o some) apart
      (covered_ascending limit g laid) in
      record {
        free = subst (λ (rs : List Run). IsAscending 0 (512 * limit) (with_run (run_of g o) rs)) (sym (covered-shapes w)) ascending;
        inside = record {
          grains = grains_of_segment home.segment;
          there = grains_there home.segment w.segments home.held;
          after = omega (arith, home.above, aligned);
          before = omega (arith, home.below, aligned);
        };
      }

-- ---- reservations

-- the run of a live reservation is among the extents of reservations
pub extent_there : (points : List (Option graph.Point)) (memories : List PointMemory) (n : ℕ) (p : graph.Point) (r : Reservation)
    (m : PointMemory) → entry_at points n ≡ Some p → p.reservation ≡ Some r → r.is_doomed ≡ false → slice_get memories n ≡ Some m
    → Contains (reserved_extents points memories) (extent m.reserved_at (length r.cells))
extent_there points memories n p r m e f live has = listed_there points memories n e has
  where
    here : (o : Option Reservation) (x : PointMemory) (rest : List Run) → o ≡ Some r → x ≡ m
        → Contains (extent_of_reservation o x ++ rest) (extent m.reserved_at (length r.cells))
    here None x rest is same = absurd (none-some r is)
    here (Some q) x rest is same =
        let own : q ≡ r = same_Some q r is in
        let doomed : q.is_doomed ≡ false = ap (λ (y : Reservation). y.is_doomed) own ∙ live in
        let one : extent_of_reservation (Some q) x ≡ extent m.reserved_at (length r.cells) ∷ [] =
        ap (λ b. if (if b then false else true) then extent x.reserved_at (length q.cells) ∷ [] else []) doomed
        ∙ ap (λ (y : Reservation). extent x.reserved_at (length y.cells) ∷ []) own
        ∙ ap (λ (y : PointMemory). extent y.reserved_at (length r.cells) ∷ []) same in
        subst (λ (rs : List Run). Contains (rs ++ rest) (extent m.reserved_at (length r.cells))) (sym one)
        (contains_first rest (extent m.reserved_at (length r.cells)))

    listed_there : (ps : List (Option graph.Point)) (ms : List PointMemory) (k : ℕ) → entry_at ps k ≡ Some p → slice_get ms k ≡ Some m
        → Contains (reserved_extents ps ms) (extent m.reserved_at (length r.cells))
    listed_there [] ms k is there = absurd (none-some p is)
    listed_there (o ∷ ps) [] k is there = absurd (none-some m there)
    listed_there (None ∷ ps) (x ∷ ms) zero is there = absurd (none-some p is)
    listed_there (None ∷ ps) (x ∷ ms) (suc k) is there = listed_there ps ms k is there
    listed_there (Some o ∷ ps) (x ∷ ms) zero is there =
        here o.reservation x (reserved_extents ps ms)
        (ap (λ (y : graph.Point). y.reservation) (same_Some o p is) ∙ f)
        (same_Some x m there)
    listed_there (Some o ∷ ps) (x ∷ ms) (suc k) is there =
        there_after (extent_of_reservation o.reservation x) (reserved_extents ps ms) (extent m.reserved_at (length r.cells))
        (listed_there ps ms k is there)

-- and so among the runs of reservations
pub reservation_there : (points : List (Option graph.Point)) (memories : List PointMemory) (n : ℕ) (p : graph.Point) (r : Reservation)
    (m : PointMemory) → entry_at points n ≡ Some p → p.reservation ≡ Some r → r.is_doomed ≡ false → slice_get memories n ≡ Some m
    → Contains (in_order (reserved_extents points memories)) (extent m.reserved_at (length r.cells))
reservation_there points memories n p r m e f live has =
    contained_in_order (reserved_extents points memories) (extent m.reserved_at (length r.cells))
    (extent_there points memories n p r m e f live has)

-- ---- the reservations of all points, one after the other

-- a reservation of the point under a key that no flip ended
pub record IsLive (flips : ℕ) (points : List (Option Point)) (key : ℕ) (held : Held) : Type 0 where
  pub point : Point
  pub there : get_or points key None ≡ Some point
  pub reserved : point.reservation ≡ Some held
  pub live : held.flips ≡ flips

-- where each is one of the segments, and no two begin at one word, they can be ended one after the other
pub are_reserved : (flips : ℕ) (points : List (Option Point)) (s : SegsState)
    → ((key : ℕ) (held : Held) → IsLive flips points key held → Contains s.reservations (run_of_held held))
    → ((key other : ℕ) (held theirs : Held) → IsLive flips points key held → IsLive flips points other theirs
    → word_of held.at.0 ≡ word_of theirs.at.0 → key ≡ other)
    → AreReserved flips points s
are_reserved flips [] s each different = tt
are_reserved flips (p ∷ ps) s each different = (
  first p refl,
  are_reserved flips ps (after_end_at flips p s) (all_still p refl)
      (λ key other held theirs l k same. one_less key other (different (suc key) (suc other) held theirs (later key held l)
      (later other theirs k) same)),
)
  where
    later : (key : ℕ) (held : Held) → IsLive flips ps key held → IsLive flips (p ∷ ps) (suc key) held
    later key held l = record { point = l.point; there = l.there; reserved = l.reserved; live = l.live }

    of_held : (q : Point) (o : Option Held) → p ≡ Some q → q.reservation ≡ o → IsReserved flips o s
    of_held q None here is = tt
    of_held q (Some held) here is =
        λ live. each 0 held (record { point = q; there = here; reserved = is; live = live })

    first : (o : Option Point) → p ≡ o → IsReservedAt flips o s
    first None here = tt
    first (Some q) here = of_held q q.reservation here refl

    -- what is left once the first is ended
    still : (o : Option Held) (q : Point) → p ≡ Some q → q.reservation ≡ o → (key : ℕ) (theirs : Held) → IsLive flips ps key theirs
        → Contains (after_end flips o s).reservations (run_of_held theirs)
    still None q here is key theirs l = each (suc key) theirs (later key theirs l)
    still (Some held) q here is key theirs l =
        elim (held.flips == flips) as (λ b. (held.flips == flips) ≡ b
        → Contains (if b then Rattle.mps_buffer.specs.Points.without_reservation s held else s).reservations (run_of_held theirs)) [
          | true ↦
              (λ live. contains_still (word_of held.at.0) (run_of_held theirs) s.reservations (each (suc key) theirs (later key theirs l))
              (λ same. other_key key (different (suc key) 0 theirs held (later key theirs l)
              (record {
                point = q;
                there = here;
                reserved = is;
                live = Rattle.std.proofs.lemmas.Bool.eqb-true held.flips flips live;
              }) same)))
          | false ↦ (λ gone. each (suc key) theirs (later key theirs l))
        ] refl
      where
        other_key : (k : ℕ) → suc k ≡ 0 → ⊥
        other_key k e = omega (arith, e)

    all_still : (o : Option Point) → p ≡ o → (key : ℕ) (theirs : Held) → IsLive flips ps key theirs
        → Contains (after_end_at flips o s).reservations (run_of_held theirs)
    all_still None here key theirs l = each (suc key) theirs (later key theirs l)
    all_still (Some q) here key theirs l = still q.reservation q here refl key theirs l

    one_less : (k j : ℕ) → suc k ≡ suc j → k ≡ j
    one_less k j e = omega (arith, e)
