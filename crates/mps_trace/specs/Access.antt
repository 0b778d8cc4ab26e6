-- The read barrier: what a collection does with the segment of a block before a reference in it is read.
use Rattle.std.specs.Prelude.{◌≡◌, ℕ, ◌+◌, ◌<◌, Option, Some, None, List, [], refl}
use Rattle.std.proofs.Common.{◌∙◌, ap, sym}
use Rattle.mps_base.specs.Segment.{Segment}
use Rattle.mps_base.specs.Trail.{Moves}
use Rattle.mps_base.specs.declared.address.Addr.{Addr}
use Rattle.mps_format.specs.Layout.{Layout}
use Rattle.mps_format.specs.declared.pool.Policy.{Policy}
use Rattle.mps_seg.specs.Segs.{SegsState}
use Rattle.mps_seg.specs.Collecting.{lowest_grey_in}
use Rattle.mps_gen.specs.State.{ChainsState, no_chains}
use Rattle.mps_trace.specs.Scan.{CanScan, Scanned}
use Rattle.mps_trace.specs.Splat.{CanSplat, Splatted}
use Rattle.mps_trace.specs.Trace.{TraceState, Traced, traced}
use Rattle.mps_trace.specs.declared.running.Band.{Band}
use Rattle.mps_trace.specs.declared.running.Band.TheVariants.{Exact, Final, Weak, Reclaim}

-- more scans than a segment ever has grey blocks
abbrev pub too_many_scans : ℕ
too_many_scans = 0xffff_ffff_ffff_ffff

-- ---- while objects are traced

-- n grey blocks of a segment are scanned, each time the lowest one
pub data ScansIn {F : Type 0} (layout : F → Layout) (formats : List (Option (Policy F))) (chains : ChainsState) (t : Segment) (x : Traced)
    : (count : ℕ) → Traced → Type 0
  where
    scans_none : ScansIn layout formats chains t x 0 x
    scans_one_more : {y z : Traced} (count : ℕ) (at : Addr) → ScansIn layout formats chains t x count y → lowest_grey_in y.segs t ≡ Some at
        → Scanned layout formats chains y at z → ScansIn layout formats chains t x (count + 1) z

-- grey blocks of a segment are scanned until none of them is grey
pub record ScansSegment {F : Type 0} (layout : F → Layout) (formats : List (Option (Policy F))) (chains : ChainsState) (t : Segment)
    (x z : Traced) : Type 0 where
  pub count : ℕ
  pub scans : ScansIn layout formats chains t x count z
  pub drained : lowest_grey_in z.segs t ≡ None

-- each can be scanned when its turn comes, and they come to an end
pub record CanScanSegment {F : Type 0} (layout : F → Layout) (t : TraceState F) (s : SegsState) (m : Moves) (segment : Segment)
    : Type 0 where
  pub can : (count : ℕ) (y : Traced) (at : Addr) → ScansIn layout t.formats t.chains segment (traced t s m) count y
      → lowest_grey_in y.segs segment ≡ Some at → CanScan layout (record t { amc = y.amc }) y.segs y.moves at
  pub few : (count : ℕ) (y : Traced) → ScansIn layout t.formats t.chains segment (traced t s m) count y → count < too_many_scans

-- ---- once all registrations are examined

-- n grey blocks of a segment are scanned as weak ones, each time the lowest one
pub data SplatsIn {F : Type 0} (layout : F → Layout) (formats : List (Option (Policy F))) (t : Segment) (x : Traced)
    : (count : ℕ) → Traced → Type 0
  where
    splats_none : SplatsIn layout formats t x 0 x
    splats_one_more : {y z : Traced} (count : ℕ) (at : Addr) → SplatsIn layout formats t x count y → lowest_grey_in y.segs t ≡ Some at
        → Splatted layout formats y at z → SplatsIn layout formats t x (count + 1) z

-- grey blocks of a segment are scanned as weak ones until none of them is grey
pub record SplatsSegment {F : Type 0} (layout : F → Layout) (formats : List (Option (Policy F))) (t : Segment) (x z : Traced) : Type 0
  where
    pub count : ℕ
    pub splats : SplatsIn layout formats t x count z
    pub drained : lowest_grey_in z.segs t ≡ None

-- each can be scanned when its turn comes, and they come to an end
pub record CanSplatSegment {F : Type 0} (layout : F → Layout) (t : TraceState F) (s : SegsState) (m : Moves) (segment : Segment)
    : Type 0 where
  pub can : (count : ℕ) (y : Traced) (at : Addr) → SplatsIn layout t.formats segment (traced t s m) count y
      → lowest_grey_in y.segs segment ≡ Some at → CanSplat layout t y.segs y.moves at
  pub few : (count : ℕ) (y : Traced) → SplatsIn layout t.formats segment (traced t s m) count y → count < too_many_scans

-- ---- by band

-- what a barrier does with a segment
abbrev pub AccessesTo : {F : Type 0} → (F → Layout) → List (Option (Policy F)) → ChainsState → Band → Segment → (x z : Traced) → Type 0
AccessesTo layout formats chains Exact t x z = ScansSegment layout formats chains t x z
AccessesTo layout formats chains Final t x z = ScansSegment layout formats chains t x z
AccessesTo layout formats chains Weak t x z = SplatsSegment layout formats t x z
AccessesTo layout formats chains Reclaim t x z = z ≡ x

-- what it needs
abbrev pub CanAccess : {F : Type 0} → (F → Layout) → Band → TraceState F → SegsState → Moves → Segment → Type 0
CanAccess layout Exact t s m segment = CanScanSegment layout t s m segment
CanAccess layout Final t s m segment = CanScanSegment layout t s m segment
CanAccess layout Weak t s m segment = CanSplatSegment layout t s m segment
CanAccess layout Reclaim t s m segment = Unit {0}

-- ---- vectors

pub nothing_is_done_in_the_last_band : {F : Type 0} (layout : F → Layout) (t : Segment) (x y : Traced)
    → AccessesTo layout [] no_chains Reclaim t x y → y ≡ x
nothing_is_done_in_the_last_band layout t x y is = is

pub nothing_is_scanned_where_none_is_grey : {F : Type 0} (layout : F → Layout) (t : Segment) (x z : Traced) (count : ℕ)
    → lowest_grey_in x.segs t ≡ None → ScansIn layout [] no_chains t x count z → z ≡ x
nothing_is_scanned_where_none_is_grey layout t x _ _ none scans_none = refl
nothing_is_scanned_where_none_is_grey layout t x z _ none (scans_one_more {y = y} count at earlier lowest scanned) =
    let same = nothing_is_scanned_where_none_is_grey layout t x y count none earlier in
    let e : None ≡ Some at = sym (ap (λ (v : Traced). lowest_grey_in v.segs t) same ∙ none) ∙ lowest in
    absurd cc

pub a_block_that_is_left_grey : {F : Type 0} (layout : F → Layout) (t : Segment) (x z : Traced) (at : Addr)
    → lowest_grey_in z.segs t ≡ Some at → AccessesTo layout [] no_chains Exact t x z → ⊥
a_block_that_is_left_grey layout t x z at left access = let e : None ≡ Some at = sym access.drained ∙ left in absurd cc
