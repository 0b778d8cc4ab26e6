-- Units do the same with less room in their trail: they only take room. So units to the end of a collection leave all of the room that is
-- more than they need.
use Rattle.std.proofs.Common.{◌≡◌, ◌∙◌, ℕ, ◌-◌, refl, ap, List, [], ◌∷◌, ◌++◌, Option, Ok, Err, arith}
use Rattle.std.specs.Prelude.{Result}
use Rattle.mps_base.specs.Address.{address_of_grain}
use Rattle.mps_base.specs.Placement.{Placement, Place, NewSegment, OverLimit, NoFreeRun}
use Rattle.mps_base.specs.Run.{Run}
use Rattle.mps_base.specs.Trail.{Moves, with_move}
use Rattle.mps_base.specs.declared.address.Addr.{Addr}
use Rattle.mps_base.specs.declared.moves.Move.{Move}
use Rattle.mps_base.specs.declared.moves.Move.TheVariants.{End, Free, Moved, Post, Seg, Splat, Stay, Unseg}
use Rattle.mps_base.specs.declared.refusal.Refusal.{Refusal}
use Rattle.mps_format.specs.Layout.{Layout}
use Rattle.mps_format.specs.declared.pool.Policy.{Policy}
use Rattle.mps_seg.specs.Arena.{answer_of_placement}
use Rattle.mps_seg.specs.Reclaiming.{IsSwept, is_given, is_used, lost_of, moves_freed}
use Rattle.mps_seg.specs.Segs.{SegsState, at_word, moves_after}
use Rattle.mps_amc.specs.Amc.{moves_fixed, placement_of_copy}
use Rattle.mps_amc.specs.Moving.{size_at}
use Rattle.mps_amc.specs.Reclaiming as padded
use Rattle.mps_amc.specs.Reclaiming.{IsReclaimed}
use Rattle.mps_trace.specs.GenState.{ChainsState}
use Rattle.mps_trace.specs.Reclaim.{Reclaims}
use Rattle.mps_trace.specs.Scan as scan
use Rattle.mps_trace.specs.Scan.{FixesCell, ScansOne, ScansTo}
use Rattle.mps_trace.specs.Splat as splat
use Rattle.mps_trace.specs.Splat.{SplatsCell, SplatsOne, SplatsTo}
use Rattle.mps_trace.specs.State.{FinalsState}
use Rattle.mps_trace.specs.Trace.{FixesTo, KeepsTo, Traced, finds, keeps, marks, moves, target_of}
use Rattle.mps_trace.specs.Unit as units
use Rattle.mps_trace.specs.Unit.{EndsWithin, LastUnitTo, ReclaimsNext, UnitTo, UnitsTo}
use Rattle.mps_trace.specs.declared.running.Running.{Running}

module _ (n : ℕ) where
  -- a trail with less room by n moves, and what a collection changes with that
  abbrev pub with_less : Moves → Moves
  with_less m = record { moves = m.moves; spare = m.spare - n }

  abbrev pub traced_with_less : Traced → Traced
  traced_with_less x = record x { moves = with_less x.moves }

  -- ---- moves

  one_more : (m : Moves) (a : Move) → with_less (with_move m a) ≡ with_move (with_less m) a
  one_more m a = ap (λ (spare : ℕ). record { moves = m.moves ++ a ∷ []; spare = spare }) (omega arith)

  frees : (rs : List Run) (m : Moves) → with_less (moves_freed rs m) ≡ moves_freed rs (with_less m)
  frees [] m = refl
  frees (r ∷ rs) m =
      frees rs (with_move m (Free (at_word r.from))) ∙ ap (moves_freed rs) (one_more m (Free (at_word r.from)))

  takes : (placement : Placement) (pool generation : ℕ) (m : Moves)
      → with_less (moves_after placement pool generation m) ≡ moves_after placement pool generation (with_less m)
  takes (NewSegment grain grains) pool generation m = one_more m (Seg (record { 0 = address_of_grain grain }) grains pool generation)
  takes (Place word) pool generation m = refl
  takes (OverLimit committed need limit) pool generation m = refl
  takes (NoFreeRun need longest) pool generation m = refl

  kept_or_moved : (answer : Result Addr Refusal) (m : Moves) (at : Addr)
      → with_less (moves_fixed answer m at) ≡ moves_fixed answer (with_less m) at
  kept_or_moved (Ok to) m at = one_more m (Moved at to)
  kept_or_moved (Err why) m at = one_more m (Stay at)

  -- ---- a fix

  module _ {F : Type 0} (layout : F → Layout) (formats : List (Option (Policy F))) (chains : ChainsState) where
    keep_alike : {x y : Traced} (at to : Addr) → KeepsTo layout formats chains x at y to
        → KeepsTo layout formats chains (traced_with_less x) at (traced_with_less y) to
    keep_alike {x} at to (moves {y = w} t format answer over listed is fixed noted) =
        let placement = placement_of_copy x.amc x.segs t.pool (target_of chains t) (size_at (layout format.format) x.segs.words at.0) in
        moves {y = traced_with_less w} t format answer over listed is (record {
          answer_is = fixed.answer_is;
          state = fixed.state;
          words = fixed.words;
          tails = fixed.tails;
          trail =
              ap with_less fixed.trail
              ∙ kept_or_moved (answer_of_placement placement) (moves_after placement t.pool (target_of chains t) x.moves) at
              ∙ ap (λ m. moves_fixed (answer_of_placement placement) m at) (takes placement t.pool (target_of chains t) x.moves);
        }) (ap traced_with_less noted)
    keep_alike at to (marks t format over listed stays is) = marks t format over listed stays (ap traced_with_less is)

    fix_alike : {x y : Traced} (at to : Addr) → FixesTo layout formats chains x at y to
        → FixesTo layout formats chains (traced_with_less x) at (traced_with_less y) to
    fix_alike at to (finds found is) = finds found is
    fix_alike at to (keeps answer white kept) = keeps answer white (keep_alike at answer kept)

    -- ---- a scan

    cell_alike : (f : Layout) (at : Addr) (cell : ℕ) {x z : Traced} → FixesCell layout f formats chains at cell x z
        → FixesCell layout f formats chains at cell (traced_with_less x) (traced_with_less z)
    cell_alike f at cell (scan.is_null null) = scan.is_null null
    cell_alike f at cell {x} (scan.leads to some fixed is) =
        scan.leads to some (fix_alike (record { 0 = scan.target_at f x at cell }) to fixed) (ap traced_with_less is)

    cells_alike : (f : Layout) (head : ℕ) (at : Addr) {x z : Traced} {from : ℕ} → ScansTo layout f formats chains head at x from z
        → ScansTo layout f formats chains head at (traced_with_less x) from (traced_with_less z)
    cells_alike f head at scan.begins = scan.begins
    cells_alike f head at (scan.goes_on from cell cells first one) =
        scan.goes_on from cell (cells_alike f head at cells) first (cell_alike f at cell one)

    scan_alike : {x z : Traced} → ScansOne layout formats chains x z
        → ScansOne layout formats chains (traced_with_less x) (traced_with_less z)
    scan_alike one =
        let s = one.scanned in
        record {
          word = one.word;
          grey = one.grey;
          scanned = record {
            segment = s.segment;
            over = s.over;
            format = s.format;
            listed = s.listed;
            before = traced_with_less s.before;
            all = record {
              from = s.all.from;
              run = cells_alike (layout s.format.format) _ (at_word one.word) s.all.run;
              done = s.all.done;
            };
            black = ap traced_with_less s.black;
          };
        }

    -- ---- weak blocks

    splat_alike : (f : Layout) (at : Addr) (cell : ℕ) {x z : Traced} → SplatsCell layout f formats at cell x z
        → SplatsCell layout f formats at cell (traced_with_less x) (traced_with_less z)
    splat_alike f at cell (splat.is_null null) = splat.is_null null
    splat_alike f at cell (splat.updates to some found is) = splat.updates to some found (ap traced_with_less is)
    splat_alike f at cell {x} (splat.splats some white is) =
        splat.splats some white
        (ap traced_with_less is
        ∙ ap (λ m. record (splat.after_splat f at cell x) { moves = m }) (one_more x.moves (Splat at cell)))

    splats_alike : (f : Layout) (head : ℕ) (at : Addr) {x z : Traced} {from : ℕ} → SplatsTo layout f formats head at x from z
        → SplatsTo layout f formats head at (traced_with_less x) from (traced_with_less z)
    splats_alike f head at splat.begins = splat.begins
    splats_alike f head at (splat.goes_on from cell before first one) =
        splat.goes_on from cell (splats_alike f head at before) first (splat_alike f at cell one)

    weak_scan_alike : {x z : Traced} → SplatsOne layout formats x z → SplatsOne layout formats (traced_with_less x) (traced_with_less z)
    weak_scan_alike one =
        let s = one.splatted in
        record {
          word = one.word;
          grey = one.grey;
          splatted = record {
            segment = s.segment;
            over = s.over;
            format = s.format;
            listed = s.listed;
            before = traced_with_less s.before;
            all = record {
              from = s.all.from;
              run = splats_alike (layout s.format.format) _ (at_word one.word) s.all.run;
              done = s.all.done;
            };
            black = ap traced_with_less s.black;
          };
        }

    -- ---- a reclaim

    swept_alike : {s s' : SegsState} {m m' : Moves} (base : Addr) → IsSwept s m base s' m' → IsSwept s (with_less m) base s' (with_less m')
    swept_alike {s} {m = m} base (is_given t found empty state trail) =
        is_given t found empty state
        (ap with_less trail ∙ one_more (moves_freed (lost_of s t) m) (Unseg base)
        ∙ ap (λ freed. with_move freed (Unseg base)) (frees (lost_of s t) m))
    swept_alike {s} {m = m} base (is_used t found used state unwritten trail) =
        is_used t found used state unwritten (ap with_less trail ∙ frees (lost_of s t) m)

    padded_alike : (f : Layout) {s s' : SegsState} {m m' : Moves} (base : Addr) → IsReclaimed f s m base s' m'
        → IsReclaimed f s (with_less m) base s' (with_less m')
    padded_alike f {s} {m = m} base (padded.is_given t found empty state trail) =
        padded.is_given t found empty state
        (ap with_less trail ∙ one_more (moves_freed (lost_of s t) m) (Unseg base)
        ∙ ap (λ freed. with_move freed (Unseg base)) (frees (lost_of s t) m))
    padded_alike f {s} {m = m} base (padded.is_padded t found used state pads trail) =
        padded.is_padded t found used state pads (ap with_less trail ∙ frees (lost_of s t) m)

    reclaim_alike : {s s' : SegsState} {m m' : Moves} (base : Addr) → Reclaims layout formats s m base s' m'
        → Reclaims layout formats s (with_less m) base s' (with_less m')
    reclaim_alike base r = record {
      segment = r.segment;
      over = r.over;
      format = r.format;
      listed = r.listed;
      swept = swept_alike base r.swept;
      padded = λ moves. padded_alike (layout r.format.format) base (r.padded moves);
      unwritten = r.unwritten;
    }

    next_alike : {x y : Traced} (run : Running) (base : Addr) → ReclaimsNext layout formats x run base y
        → ReclaimsNext layout formats (traced_with_less x) run base (traced_with_less y)
    next_alike run base next = record {
      scanned = next.scanned;
      examined = next.examined;
      lowest = next.lowest;
      reclaimed = reclaim_alike base next.reclaimed;
      at_hand = next.at_hand;
    }

    -- ---- units

    unit_alike : {x z : Traced} {f f' : FinalsState} {run run' : Running} → UnitTo layout formats chains x f run z f' run'
        → UnitTo layout formats chains (traced_with_less x) f run (traced_with_less z) f' run'
    unit_alike (units.scans one) = units.scans (scan_alike one)
    unit_alike (units.examines to drained due found is now) = units.examines to drained due found is now
    unit_alike (units.posts {y = y} to drained due white kept is posted now) =
        units.posts to drained due white (keep_alike _ to kept)
        (ap traced_with_less is ∙ ap (λ m. record y { moves = m }) (one_more y.moves (Post to))) posted now
    unit_alike (units.splats drained none one now) = units.splats drained none (weak_scan_alike one) now
    unit_alike {run = run} (units.reclaims base left next other is) = units.reclaims base left (next_alike run base next) other is

    units_alike : {x : Traced} {f : FinalsState} {run : Running} {count : ℕ} {z : Traced} {f' : FinalsState} {run' : Running}
        → UnitsTo layout formats chains x f run count z f' run'
        → UnitsTo layout formats chains (traced_with_less x) f run count (traced_with_less z) f' run'
    units_alike units.begins = units.begins
    units_alike (units.goes_on count row unit) = units.goes_on count (units_alike row) (unit_alike unit)

    last_alike : {x z : Traced} {run : Running} → LastUnitTo layout formats x run z
        → LastUnitTo layout formats (traced_with_less x) run (traced_with_less z)
    last_alike {run = run} last = record {
      base = last.base;
      before = traced_with_less last.before;
      reclaimed = next_alike run last.base last.reclaimed;
      last = last.last;
      over = ap traced_with_less last.over
          ∙ ap (λ m. record (units.traced_after_end last.before) { moves = m }) (one_more last.before.moves End);
    }

    -- units to the end of a collection are those to its end with less room
    pub ends_with_less : {x z : Traced} {f f' : FinalsState} {run : Running} {most : ℕ} → EndsWithin layout formats chains x f run most z f'
        → EndsWithin layout formats chains (traced_with_less x) f run most (traced_with_less z) f'
    ends_with_less ends = record {
      count = ends.count;
      within = ends.within;
      before = traced_with_less ends.before;
      run_before = ends.run_before;
      units = units_alike ends.units;
      last = last_alike ends.last;
    }
