-- How many moves the steps of a collection and its barriers append to a trail, and what room they leave in it.
use Rattle.std.proofs.Common.{◌≡◌, ℕ, ◌+◌, ◌<◌, ◌≤◌, refl, sym, subst, List, [], ◌∷◌, length, Option, arith, Some}
use Rattle.std.proofs.lemmas.List.{length-append}
use Rattle.std.specs.Prelude.{◌-◌, Result, Ok, Err, slice_index}
use Rattle.mps_base.specs.Placement.{Placement, Place, NewSegment, OverLimit, NoFreeRun}
use Rattle.mps_base.specs.Address.{Address, address_of_grain, word_of}
use Rattle.mps_base.specs.Run.{Run}
use Rattle.mps_base.specs.Segment.{Segment, segment_over}
use Rattle.mps_base.specs.Trail.{Moves, with_move}
use Rattle.mps_base.specs.declared.address.Addr.{Addr}
use Rattle.mps_base.specs.declared.moves.Move.{Move}
use Rattle.mps_base.specs.declared.moves.Move.TheVariants.{Free, Seg, Moved, Stay, Unseg, Splat, Post}
use Rattle.mps_base.specs.declared.refusal.Refusal.{Refusal}
use Rattle.mps_format.specs.Layout.{Layout}
use Rattle.mps_seg.specs.Arena.{answer_of_placement}
use Rattle.mps_seg.specs.Segs.{SegsState, at_word, moves_after}
use Rattle.mps_trace.specs.State.{FinalsState}
use Rattle.mps_trace.specs.GenState.{ChainsState}
use Rattle.mps_root.specs.State.{RootsState, items_of}
use Rattle.mps_amc.specs.Amc.{moves_fixed, placement_of_copy}
use Rattle.mps_amc.specs.Moving.{size_at}
use Rattle.mps_seg.specs.Reclaiming.{lost_of, moves_freed, IsSwept, is_given, is_used}
use Rattle.mps_amc.proofs.Lost.{spare_after}
use Rattle.mps_refinement.specs.RightMoving.{KeepsRoom}
use Rattle.mps_trace.specs.Roots as roots
use Rattle.mps_trace.specs.Roots.{FixesRoot, FixesSlots, FixesTables, FixesMessages, key_at}
use Rattle.mps_trace.specs.Scan as scan
use Rattle.mps_trace.specs.Scan.{FixesCell, Scanned, ScansTo, ScansOne}
use Rattle.mps_trace.specs.Trace.{Traced, KeepsTo, FixesTo, moves, marks, finds, keeps, target_of}
use Rattle.mps_trace.specs.Examine.{registration_of}
use Rattle.mps_trace.specs.Splat as splat
use Rattle.mps_trace.specs.Access.{AccessesTo, ScansIn, SplatsIn, scans_none, scans_one_more, splats_none, splats_one_more}
use Rattle.mps_trace.specs.Splat.{SplatsCell, Splatted, SplatsTo, SplatsOne}
use Rattle.mps_trace.specs.Unit as units
use Rattle.mps_trace.specs.Unit.{UnitTo, UnitsTo}
use Rattle.mps_trace.specs.declared.running.Band.{Band}
use Rattle.mps_trace.specs.declared.running.Band.TheVariants as band
use Rattle.mps_trace.specs.declared.running.Running.{Running}
use Rattle.mps_format.specs.declared.pool.Policy.{Policy}

-- ---- trails

-- n moves were appended, and each took its room while there was some
pub record IsPushed (m m' : Moves) : Type 0 where
  pub told : ℕ
  pub spare : m'.spare ≡ m.spare - told
  pub long : length m'.moves ≡ length m.moves + told

abbrev pub none_pushed : (m : Moves) → IsPushed m m
none_pushed m = record { told = 0; spare = omega arith; long = omega arith }

abbrev pub one_pushed : (m : Moves) (a : Move) → IsPushed m (with_move m a)
one_pushed m a = record { told = 1; spare = refl; long = omega (arith, length-append m.moves (a ∷ [])) }

abbrev pub pushed_on : {a b c : Moves} → IsPushed a b → IsPushed b c → IsPushed a c
pushed_on p q =
    let first = p.spare in
    let then = q.spare in
    let long = p.long in
    let longer = q.long in
    record { told = p.told + q.told; spare = omega (arith, first, then); long = omega (arith, long, longer) }

-- where there was room for all of them, the trail keeps its room
pub pushed_keeps : {m m' : Moves} → (p : IsPushed m m') → p.told ≤ m.spare → KeepsRoom m m'
pushed_keeps p within = let spare = p.spare in let long = p.long in omega (arith, spare, long, within)

-- and there was, where some is left
pub told_below : {m m' : Moves} → (p : IsPushed m m') → 0 < m'.spare → p.told < m.spare
told_below p some = let spare = p.spare in omega (arith, spare, some)

-- ---- a fix

placed : (placement : Placement) (pool generation : ℕ) (m : Moves) → IsPushed m (moves_after placement pool generation m)
placed (NewSegment grain grains) pool generation m = one_pushed m (Seg (record { 0 = address_of_grain grain }) grains pool generation)
placed (Place word) pool generation m = none_pushed m
placed (OverLimit committed need limit) pool generation m = none_pushed m
placed (NoFreeRun need longest) pool generation m = none_pushed m

kept_or_moved : (answer : Result Addr Refusal) (m : Moves) (at : Addr) → IsPushed m (moves_fixed answer m at)
kept_or_moved (Ok to) m at = one_pushed m (Moved at to)
kept_or_moved (Err why) m at = one_pushed m (Stay at)

module _ {F : Type 0} (layout : F → Layout) (formats : List (Option (Policy F))) (chains : ChainsState) where
  keep_pushes : (x : Traced) (at : Addr) (y : Traced) (to : Addr) → KeepsTo layout formats chains x at y to → IsPushed x.moves y.moves
  keep_pushes x at y to (moves t format answer over listed is fixed noted) =
      let placement = placement_of_copy x.amc x.segs t.pool (target_of chains t) (size_at (layout format.format) x.segs.words at.0) in
      subst (λ (w : Traced). IsPushed x.moves w.moves) (sym noted)
      (subst (IsPushed x.moves) (sym fixed.trail)
      (pushed_on (placed placement t.pool (target_of chains t) x.moves)
      (kept_or_moved (answer_of_placement placement) (moves_after placement t.pool (target_of chains t) x.moves) at)))
  keep_pushes x at y to (marks t format over listed stays is) =
      subst (λ (w : Traced). IsPushed x.moves w.moves) (sym is) (none_pushed x.moves)

  to_pushes : (x : Traced) (at : Addr) (y : Traced) (to : Addr) → FixesTo layout formats chains x at y to → IsPushed x.moves y.moves
  to_pushes x at _ _ (finds to found) = none_pushed x.moves
  to_pushes x at y to (keeps answer white kept) = keep_pushes x at y answer kept

  -- ---- roots

  root_pushes : (x : Traced) (at : Address) (y : Traced) (to : Address) → FixesRoot layout formats chains x at y to
      → IsPushed x.moves y.moves
  root_pushes x at _ _ (roots.is_null null) = none_pushed x.moves
  root_pushes x at y _ (roots.leads to some fixed) = to_pushes x (record { 0 = at }) y to fixed

  slots_push : (key : ℕ) (rs : RootsState) (x : Traced) (count : ℕ) (rs' : RootsState) (z : Traced)
      → FixesSlots layout formats chains key rs x count rs' z → IsPushed x.moves z.moves
  slots_push key rs x _ _ _ roots.begins = none_pushed x.moves
  slots_push key rs x _ rs'' z (roots.goes_on {roots' = rs'} {y = y} count at row one is) =
      pushed_on (slots_push key rs x count rs' y row) (root_pushes y (roots.slot_of rs' key count) z at one)

  pub tables_push : (rs : RootsState) (x : Traced) (count : ℕ) (rs' : RootsState) (z : Traced)
      → FixesTables layout formats chains rs x count rs' z → IsPushed x.moves z.moves
  tables_push rs x _ _ _ roots.begins = none_pushed x.moves
  tables_push rs x _ rs'' z (roots.goes_on {roots' = rs'} {y = y} count rows table) =
      let key = key_at rs count in
      pushed_on (tables_push rs x count rs' y rows) (slots_push key rs' y (length (items_of rs'.tables key)) rs'' z table)

  pub messages_push : (fs : FinalsState) (x : Traced) (count : ℕ) (fs' : FinalsState) (z : Traced)
      → FixesMessages layout formats chains fs x count fs' z → IsPushed x.moves z.moves
  messages_push fs x _ _ _ roots.begins = none_pushed x.moves
  messages_push fs x _ fs'' z (roots.goes_on {finals' = fs'} {y = y} count at row one is) =
      pushed_on (messages_push fs x count fs' y row) (root_pushes y (roots.message_of fs' count) z at one)

  -- ---- a scan

  cell_pushes : (f : Layout) (at : Addr) (cell : ℕ) (x z : Traced) → FixesCell layout f formats chains at cell x z
      → IsPushed x.moves z.moves
  cell_pushes f at cell x _ (scan.is_null null) = none_pushed x.moves
  cell_pushes f at cell x z (scan.leads {y = y} to some fixed is) =
      subst (λ (v : Traced). IsPushed x.moves v.moves) (sym is) (to_pushes x (record { 0 = scan.target_at f x at cell }) y to fixed)

  cells_push : (f : Layout) (head : ℕ) (at : Addr) (x : Traced) (from : ℕ) (z : Traced)
      → ScansTo layout f formats chains head at x from z → IsPushed x.moves z.moves
  cells_push f head at x _ _ scan.begins = none_pushed x.moves
  cells_push f head at x _ z (scan.goes_on {y = y} from cell cells first one) =
      pushed_on (cells_push f head at x from y cells) (cell_pushes f at cell y z one)

  scanned_pushes : (x : Traced) (at : Addr) (z : Traced) → Scanned layout formats chains x at z → IsPushed x.moves z.moves
  scanned_pushes x at z s =
      subst (λ (v : Traced). IsPushed x.moves v.moves) (sym s.black)
      (cells_push (layout s.format.format) (slice_index x.segs.words (word_of at.0)) at x s.all.from s.before s.all.run)

  scan_pushes : (x z : Traced) → ScansOne layout formats chains x z → IsPushed x.moves z.moves
  scan_pushes x z one = scanned_pushes x (at_word one.word) z one.scanned

-- ---- weak blocks

module _ {F : Type 0} (layout : F → Layout) (formats : List (Option (Policy F))) where
  splatted_pushes : (f : Layout) (at : Addr) (cell : ℕ) (x z : Traced) → SplatsCell layout f formats at cell x z → IsPushed x.moves z.moves
  splatted_pushes f at cell x _ (splat.is_null null) = none_pushed x.moves
  splatted_pushes f at cell x z (splat.updates to some found is) =
      subst (λ (v : Traced). IsPushed x.moves v.moves) (sym is) (none_pushed x.moves)
  splatted_pushes f at cell x z (splat.splats some white is) =
      subst (λ (v : Traced). IsPushed x.moves v.moves) (sym is) (one_pushed x.moves (Splat at cell))

  splats_push : (f : Layout) (head : ℕ) (at : Addr) (x : Traced) (from : ℕ) (z : Traced) → SplatsTo layout f formats head at x from z
      → IsPushed x.moves z.moves
  splats_push f head at x _ _ splat.begins = none_pushed x.moves
  splats_push f head at x _ z (splat.goes_on {y = y} from cell before first one) =
      pushed_on (splats_push f head at x from y before) (splatted_pushes f at cell y z one)

  splat_of_pushes : (x : Traced) (at : Addr) (z : Traced) → Splatted layout formats x at z → IsPushed x.moves z.moves
  splat_of_pushes x at z s =
      subst (λ (v : Traced). IsPushed x.moves v.moves) (sym s.black)
      (splats_push (layout s.format.format) (slice_index x.segs.words (word_of at.0)) at x s.all.from s.before s.all.run)

  splat_pushes : (x z : Traced) → SplatsOne layout formats x z → IsPushed x.moves z.moves
  splat_pushes x z one = splat_of_pushes x (at_word one.word) z one.splatted

-- ---- a read barrier

module _ {F : Type 0} (layout : F → Layout) (formats : List (Option (Policy F))) (chains : ChainsState) (t : Segment) (x : Traced) where
  scans_push : (count : ℕ) (z : Traced) → ScansIn layout formats chains t x count z → IsPushed x.moves z.moves
  scans_push _ _ scans_none = none_pushed x.moves
  scans_push _ z (scans_one_more {y = y} count at before lowest one) =
      pushed_on (scans_push count y before) (scanned_pushes layout formats chains y at z one)

  weak_scans_push : (count : ℕ) (z : Traced) → SplatsIn layout formats t x count z → IsPushed x.moves z.moves
  weak_scans_push _ _ splats_none = none_pushed x.moves
  weak_scans_push _ z (splats_one_more {y = y} count at before lowest one) =
      pushed_on (weak_scans_push count y before) (splat_of_pushes layout formats y at z one)

  pub access_pushes : (b : Band) (z : Traced) → AccessesTo layout formats chains b t x z → IsPushed x.moves z.moves
  access_pushes band.Exact z access = scans_push access.count z access.scans
  access_pushes band.Final z access = scans_push access.count z access.scans
  access_pushes band.Weak z access = weak_scans_push access.count z access.splats
  access_pushes band.Reclaim z same = subst (λ (v : Traced). IsPushed x.moves v.moves) (sym same) (none_pushed x.moves)

-- ---- a reclaim

pub freed_long : (rs : List Run) (m : Moves) → length (moves_freed rs m).moves ≡ length m.moves + length rs
freed_long [] m = omega arith
freed_long (r ∷ rs) m =
    let rest = freed_long rs (with_move m (Free (at_word r.from))) in
    let one = length-append m.moves (Free (at_word r.from) ∷ []) in
    omega (arith, rest, one)

abbrev pub freed_pushed : (rs : List Run) (m : Moves) → IsPushed m (moves_freed rs m)
freed_pushed rs m = record { told = length rs; spare = spare_after rs m; long = freed_long rs m }

-- a move for each block that is lost, and for the segment one at most
pub record IsReclaimPushed (s : SegsState) (base : Addr) (m m' : Moves) : Type 0 where
  pub pushed : IsPushed m m'
  pub segment : Segment
  pub over : segment_over s.segments base.0 ≡ Some segment
  pub most : pushed.told ≤ length (lost_of s segment) + 1

pub reclaim_pushes : (s : SegsState) (m : Moves) (base : Addr) (s' : SegsState) (m' : Moves) → IsSwept s m base s' m'
    → IsReclaimPushed s base m m'
reclaim_pushes s m base s' m' (is_given t found empty state trail) =
    subst (IsReclaimPushed s base m) (sym trail) (record {
      pushed = pushed_on (freed_pushed (lost_of s t) m) (one_pushed (moves_freed (lost_of s t) m) (Unseg base));
      segment = t;
      over = found;
      most = omega arith;
    })
reclaim_pushes s m base s' m' (is_used t found used state unwritten trail) =
    subst (IsReclaimPushed s base m) (sym trail) (record {
      pushed = freed_pushed (lost_of s t) m;
      segment = t;
      over = found;
      most = omega arith;
    })

-- ---- units

module _ {F : Type 0} (layout : F → Layout) (formats : List (Option (Policy F))) (chains : ChainsState) where
  unit_pushes : (x : Traced) (f : FinalsState) (run : Running) (z : Traced) (f' : FinalsState) (run' : Running)
      → UnitTo layout formats chains x f run z f' run' → IsPushed x.moves z.moves
  unit_pushes x f run z f' _ (units.scans one) = scan_pushes layout formats chains x z one
  unit_pushes x f run z f' run' (units.examines to drained due found is now) = none_pushed x.moves
  unit_pushes x f run z f' run' (units.posts {y = y} to drained due white kept is posted now) =
      subst (λ (v : Traced). IsPushed x.moves v.moves) (sym is)
      (pushed_on (keep_pushes layout formats chains x (registration_of f run.next) y to kept) (one_pushed y.moves (Post to)))
  unit_pushes x f run z f' run' (units.splats drained none one now) = splat_pushes layout formats x z one
  unit_pushes x f run z f' run' (units.reclaims base left next other is) =
      (reclaim_pushes x.segs x.moves base z.segs z.moves next.reclaimed.swept).pushed

  pub units_push : (x : Traced) (f : FinalsState) (run : Running) (count : ℕ) (z : Traced) (f' : FinalsState) (run' : Running)
      → UnitsTo layout formats chains x f run count z f' run' → IsPushed x.moves z.moves
  units_push x f run _ _ _ _ units.begins = none_pushed x.moves
  units_push x f run _ z f'' run'' (units.goes_on {y = y} {f' = f'} {run' = run'} count row unit) =
      pushed_on (units_push x f run count y f' run' row) (unit_pushes y f' run' z f'' run'' unit)
