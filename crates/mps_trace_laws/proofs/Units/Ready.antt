-- While the state stands a unit can be done: each grey block can be scanned, each registration that is due can be examined, and once
-- nothing is grey or due a segment is left that can be reclaimed, with room for its moves.
use Rattle.std.proofs.Common.{◌≡◌, ◌∙◌, ◌⊎◌, suc, ◌+◌, ◌*◌, ◌<◌, ◌≤◌, true, false, refl, sym, ap, subst, List, [], ◌∷◌, Option, Some, length, Contains, inl, inr, arith}
use Rattle.std.proofs.lemmas.Bool.{cases_Bool, cases_lt}
use Rattle.std.proofs.lemmas.Option.{same_Some}
use Rattle.std.specs.Prelude.{IsTrue, ℕ}
use Rattle.mps_base.specs.Address.{Address, grain_of, word_of, words_of_grain}
use Rattle.mps_base.specs.Run.{IsAscending}
use Rattle.mps_base.specs.Segment.{Segment, segment_over, end_of_segment}
use Rattle.mps_base.specs.Trail.{Moves}
use Rattle.mps_base.specs.declared.address.Addr.{Addr}
use Rattle.mps_extents.specs.Table.{bit}
use Rattle.mps_format.specs.Layout.{Layout}
use Rattle.mps_seg.specs.Segs.{SegsState}
use Rattle.mps_amc.specs.Reclaiming.{lost_of, lost_between}
use Rattle.mps_model.specs.World.{segment_at, is_automatic_kind, pool_is}
use Rattle.mps_abstract.specs.Collecting.{Collecting}
use Rattle.mps_abstract.proofs.KeptRunning.{one_that_is}
use Rattle.mps_trace_laws.specs.Image.Memory.{pool_layout}
use Rattle.mps_trace.specs.Condemned.{IsNextCondemned, NoneLeft}
use Rattle.mps_trace.specs.Reclaim.{CanReclaimAt}
use Rattle.mps_trace.specs.Trace.{TraceState, traced}
use Rattle.mps_trace.specs.Unit.{CanReclaimNext, HasRoomToEnd, AreUnitsReady, CanUnit}
use Rattle.mps_trace.specs.declared.running.Running.{Running as RunningState}
use Rattle.mps_trace_laws.proofs.Image.BlockRuns.{extents_ascend}
use Rattle.mps_trace_laws.proofs.Reclaim.SegmentBounds.{aligned_in, segment_cases, contains_no_segment}
use Rattle.mps_trace_laws.proofs.Reclaim.HeldSegments.{over_base}
use Rattle.mps_trace_laws.proofs.Reclaim.LastBand.{one_is_left}
use Rattle.mps_trace_laws.proofs.Reclaim.Next.{next_reclaimed}
use Rattle.mps_trace_laws.proofs.Reclaim.Room.{segments_are_in_order}
use Rattle.mps_trace_laws.specs.Reclaim.Left.{setting_freeing_in}
use Rattle.mps_trace_laws.specs.Units.Standing.{StandsReclaiming, UnitStands}
use Rattle.mps_trace_laws.specs.Units.Laws.{AreScansDone}
use Rattle.mps_trace_laws.proofs.Units.Entering.{the_last_band_is_entered}
use Rattle.mps_trace_laws.proofs.Units.CanExamine.{can_examine}
use Rattle.mps_trace.specs.State.{FinalsState}
use Rattle.mps_trace_laws.proofs.Units.RoomLeft.{lost_within}
use Rattle.mps_trace_laws.proofs.Units.Rows.{row_done}
use Rattle.mps_trace_laws.proofs.Units.Scanning.{scans_are_ready}
use Rattle.mps_trace_laws.proofs.Units.Splatting.{splats_are_ready}

-- ---- the lowest condemned segment

module _ (g : SegsState) (from : Address) where
  -- the lowest condemned one among some segments, from an address on
  record IsLeast (ss : List Segment) : Type 0 where
    segment : Segment
    listed : Contains ss segment
    above : from ≤ segment.base
    condemned : bit g.condemned (grain_of segment.base) ≡ true
    first : (t : Segment) → Contains ss t → from ≤ t.base → t.base < segment.base → bit g.condemned (grain_of t.base) ≡ false

  -- or none is
  abbrev NoneAmong : List Segment → Type 0
  NoneAmong ss = (t : Segment) → Contains ss t → from ≤ t.base → bit g.condemned (grain_of t.base) ≡ false

  here : (t : Segment) (ss : List Segment) → Contains (t ∷ ss) t
  here t ss = (0, omega arith, refl)

  later : (t u : Segment) (ss : List Segment) → Contains ss u → Contains (t ∷ ss) u
  later t u ss (k, within, is) = (suc k, omega (arith, within), is)

  -- with a first one that isn't condemned from there on
  passed : (t : Segment) (ss : List Segment) → (from ≤ t.base → bit g.condemned (grain_of t.base) ≡ false)
      → NoneAmong ss ⊎ IsLeast ss → NoneAmong (t ∷ ss) ⊎ IsLeast (t ∷ ss)
  passed t ss isnt (inl none) =
      inl (λ u held above. elim (segment_cases ss u t held) [
        | inl same ↦
            subst (λ (v : Segment). from ≤ v.base → bit g.condemned (grain_of v.base) ≡ false) same isnt above
        | inr rest ↦ none u rest above
      ])
  passed t ss isnt (inr least) = inr (record {
    segment = least.segment;
    listed = later t least.segment ss least.listed;
    above = least.above;
    condemned = least.condemned;
    first = λ u held above below. elim (segment_cases ss u t held) [
      | inl same ↦ subst (λ (v : Segment). from ≤ v.base → bit g.condemned (grain_of v.base) ≡ false) same isnt above
      | inr rest ↦ least.first u rest above below
    ];
  })

  -- a first one is the least where none of the others is below it
  first_is_least : (t : Segment) (ss : List Segment) → from ≤ t.base → bit g.condemned (grain_of t.base) ≡ true
      → ((u : Segment) → Contains ss u → from ≤ u.base → u.base < t.base → bit g.condemned (grain_of u.base) ≡ false)
      → IsLeast (t ∷ ss)
  first_is_least t ss above is others = record {
    segment = t;
    listed = here t ss;
    above = above;
    condemned = is;
    first = λ u held up below. elim (segment_cases ss u t held) [
      | inl same ↦ let e = ap (λ (v : Segment). v.base) same in absurd (omega (arith, e, below))
      | inr rest ↦ others u rest up below
    ];
  }

  -- with a first one that is
  taken : (t : Segment) (ss : List Segment) → from ≤ t.base → bit g.condemned (grain_of t.base) ≡ true
      → NoneAmong ss ⊎ IsLeast ss → IsLeast (t ∷ ss)
  taken t ss above is (inl none) = first_is_least t ss above is (λ u rest up below. none u rest up)
  taken t ss above is (inr least) =
      elim (cases_lt least.segment.base t.base) [
        | inl lower ↦ record {
          segment = least.segment;
          listed = later t least.segment ss least.listed;
          above = least.above;
          condemned = least.condemned;
          first = λ u held up below. elim (segment_cases ss u t held) [
            | inl same ↦ let e = ap (λ (v : Segment). v.base) same in absurd (omega (arith, e, below, lower))
            | inr rest ↦ least.first u rest up below
          ];
        }
        | inr up_to ↦ first_is_least t ss above is (λ u rest up below. least.first u rest up (omega (arith, below, up_to)))
      ]

  least_among : (ss : List Segment) → NoneAmong ss ⊎ IsLeast ss
  least_among [] = inl (λ t held above. absurd (contains_no_segment t held))
  least_among (t ∷ ss) =
      elim (cases_lt t.base from) [
        | inl below ↦ passed t ss (λ above. absurd (omega (arith, below, above))) (least_among ss)
        | inr above ↦ elim (cases_Bool (bit g.condemned (grain_of t.base))) [
          | inl is ↦ inr (taken t ss above is (least_among ss))
          | inr isnt ↦ passed t ss (λ up. isnt) (least_among ss)
        ]
      ]

  pub lowest_there : (NoneLeft g from → ⊥) → (base : Addr) × IsNextCondemned g from base.0
  lowest_there some =
      elim (least_among g.segments) [
        | inl none ↦ absurd (some none)
        | inr least ↦ (
          record { 0 = least.segment.base },
          record {
            segment = least.segment;
            listed = least.listed;
            begins = refl;
            above = least.above;
            condemned = least.condemned;
            first = least.first;
          },
        )
      ]

-- ---- it can be reclaimed

module _ {F : Type 0} (layout : F → Layout) (t : TraceState F) (s : SegsState) (m : Moves) (at_flip : List (Option Address))
    (f : FinalsState) (run : RunningState) (y : Collecting) (stands : UnitStands layout t.formats t.chains at_flip (traced t s m) f run y)
    (band : StandsReclaiming (traced t s m) y) where
  at_cursor : (base : Address) → IsNextCondemned s run.cursor.0 base → IsNextCondemned s y.cursor base
  at_cursor base low = subst (λ from. IsNextCondemned s from base) stands.cursor low

  -- there is room for its moves
  few : (base : Address) (low : IsNextCondemned s y.cursor base) → length (lost_of s low.segment) + 1 < m.spare
  few base low =
      let next =
      next_reclaimed y s (pool_layout y.world) base stands.running band.scanned band.examined band.frees low
      in
      let lost = lost_within y stands.running low.segment (lost_of s low.segment) next in
      let room = band.room in
      omega (arith, lost, room)

  over : (base : Address) (low : IsNextCondemned s y.cursor base) → segment_over s.segments base ≡ Some low.segment
  over base low =
      ap (segment_over s.segments) (sym low.begins) ∙ over_base s.segments band.frees.stands.order low.segment low.listed

  automatic : (base : Address) (low : IsNextCondemned s y.cursor base) → pool_is is_automatic_kind y.world low.segment.pool ≡ true
  automatic base low =
      let next =
      next_reclaimed y s (pool_layout y.world) base stands.running band.scanned band.examined band.frees low
      in
      let u =
      one_that_is (λ v. IsTrue (pool_is is_automatic_kind y.world v.pool)) (segment_at y.world low.segment.base)
      (stands.running.condemned.segments low.segment.base next.condemned)
      in
      subst (λ (v : Segment). pool_is is_automatic_kind y.world v.pool ≡ true) (same_Some u.0 low.segment (sym u.1.0 ∙ next.held)) u.1.1

  can : (base : Addr) → IsNextCondemned s y.cursor base.0 → CanReclaimAt layout t s m base
  can base low =
      let aligned = aligned_in s.segments low.segment band.frees.stands.order.aligned low.listed in
      let begins = low.begins in
      let within = few base.0 low in
      let format = stands.moving.pools.listed low.segment.pool (automatic base.0 low) in
      let setting =
      setting_freeing_in s y.world.graph.objects y.world.graph.points y.world.point_memories (pool_layout y.world)
      y.running.condemned y.colours
      in
      record {
        aligned = omega (arith, aligned, begins);
        segment = record {
          segment = low.segment;
          over = over base.0 low;
          begins = begins;
          inside = band.inside low.segment low.listed;
          ordered =
              subst (IsAscending 0 (words_of_grain * (s.grains + 1))) (sym band.frees.stands.image.runs.blocks)
              (extents_ascend setting y.world.addresses band.frees.stands.image.placed);
          room =
              subst (λ b. length (lost_between (word_of b) (word_of (end_of_segment low.segment)) s) < m.spare) begins
              (omega (arith, within));
        };
        format = format.0;
        listed = format.1;
      }

  to_end : (base : Addr) → IsNextCondemned s y.cursor base.0 → HasRoomToEnd s m base
  to_end base low u found =
      subst (λ (v : Segment). length (lost_of s v) + 1 < m.spare) (same_Some low.segment u (sym (over base.0 low) ∙ found))
      (few base.0 low)

  pub can_reclaim : CanReclaimNext layout t s m run
  can_reclaim =
      let one =
      lowest_there s y.cursor (one_is_left y s (pool_layout y.world) stands.running band.frees)
      in
      record {
        ordered = segments_are_in_order s band.frees.stands.order;
        next = one.0;
        lowest = subst (λ from. IsNextCondemned s from one.0.0) (sym stands.cursor) one.1;
        can = λ base low. can base (at_cursor base.0 low);
        room = λ base low. to_end base (at_cursor base.0 low);
      }

-- while the state stands a unit can be done
pub a_unit_is_ready : {F : Type 0}
    → (layout : F → Layout) (t : TraceState F) (s : SegsState) (m : Moves) (at_flip : List (Option Address)) (f : FinalsState)
    (run : RunningState) (y : Collecting) → UnitStands layout t.formats t.chains at_flip (traced t s m) f run y
    → CanUnit layout t s m f run
a_unit_is_ready layout t s m at_flip f run y stands = record {
  scan = scans_are_ready layout t s m at_flip f run y stands;
  examine = λ drained due. can_examine layout t s m at_flip f run y stands drained due;
  splat = λ drained none. splats_are_ready layout t s m at_flip f run y stands drained;
  reclaim = λ scanned none.
      can_reclaim layout t s m at_flip f run y stands
      (the_last_band_is_entered layout t.formats t.chains at_flip (traced t s m) f run y stands scanned none);
}

-- and where scans are units each of n units can be done when its turn comes
pub units_are_ready : {F : Type 0}
    → (layout : F → Layout) (t : TraceState F) (s : SegsState) (m : Moves) (at_flip : List (Option Address)) (f : FinalsState)
    (run : RunningState) (y : Collecting) (most : ℕ) → AreScansDone layout t.formats t.chains at_flip
    → UnitStands layout t.formats t.chains at_flip (traced t s m) f run y → AreUnitsReady layout t s m f run most
units_are_ready layout t s m at_flip f run y most scanning stands count v f' run' less units =
    let row = row_done layout t.formats t.chains at_flip scanning (traced t s m) f run y stands v f' run' count units in
    a_unit_is_ready layout (record t { amc = v.amc }) v.segs v.moves at_flip f' run' row.after row.stands
