-- The outcome of `get`: the read barrier of the collection that runs, if one does, whose moves are followed, and then the read.
use Rattle.std.specs.Prelude.{◌≡◌, ℕ, Some, None, Ok, Err}
use Rattle.std.proofs.Common.{◌∙◌, ap, subst, sym}
use Rattle.mps_base.specs.Address.{Address}
use Rattle.mps_base.specs.Segment.{Segment, segment_over}
use Rattle.mps_base.specs.Trail.{Moves}
use Rattle.mps_base.specs.declared.address.Addr.{Addr}
use Rattle.mps_base.specs.declared.names.Slot.{Slot}
use Rattle.mps_base.specs.declared.refusal.Refusal.{Refusal}
use Rattle.mps_format.specs.Layout.{Layout}
use Rattle.mps_model.specs.Checked.{Checked}
use Rattle.mps_seg.specs.Collecting.{lowest_grey_in}
use Rattle.mps_trace.specs.Access.{AccessesTo, CanAccess}
use Rattle.mps_trace.specs.Trace.{Traced}
use Rattle.mps_trace.specs.declared.running.Band.TheVariants as band
use Rattle.mps_trace.specs.declared.running.Running.{Running}
use Rattle.mps_heap_spec.specs.State.{HeapState}
use Rattle.mps_heap_spec.specs.Coming.{Comes, Outcome}
use Rattle.mps_heap_spec.specs.Finding.{object_in}
use Rattle.mps_heap_spec.specs.Following.{made_since, moves_followed}
use Rattle.mps_heap_spec.specs.Objects.{reference_got}
use Rattle.mps_heap_spec.specs.Units.{IsWhole, trace_in, traced_in}
use Rattle.mps_heap_spec.specs.declared.found.Block.{Block}

module _ {F : Type 0} (h : HeapState F) where
  -- the heap after the collector changed this
  abbrev pub with_traced : Traced → HeapState F
  with_traced x = record h { segs = x.segs; tails = x.amc }

module _ {F : Type 0} (layout : F → Layout) (h : HeapState F) (m : Moves) where
  -- while a collection runs, its read barrier can be done for a block at an address
  abbrev pub CanAccessAt : (at : Address) → Type 0
  CanAccessAt at =
      (run : Running) → h.running ≡ Some run → (t : Segment) → segment_over h.segs.segments at ≡ Some t
      → CanAccess layout run.band (trace_in h) h.segs m t

  -- the heap after a read barrier changed this, and its moves were followed
  abbrev pub after_access : Traced → HeapState F
  after_access x = moves_followed layout (with_traced h x) (made_since m x.moves)

  -- this is left by the read barrier for a block at an address: what was there, if no collection runs
  pub record IsAccessedAt (at : Address) (x : Traced) : Type 0 where
    pub rests : h.running ≡ None → x ≡ traced_in h m
    pub whole : (run : Running) → h.running ≡ Some run → IsWhole h
    pub runs : (run : Running) → h.running ≡ Some run → (t : Segment) → segment_over h.segs.segments at ≡ Some t
        → AccessesTo layout (trace_in h).formats (trace_in h).chains run.band t (traced_in h m) x

  module _ (target source : Slot) (k : ℕ) where
    -- what `get` needs of a heap whose tables are whole: the barrier can be done for the object that is read
    abbrev pub CanGet : Type 0
    CanGet = IsWhole h → (object : Block F) → object_in layout h source ≡ Ok object → CanAccessAt object.at

    -- the call is accepted, and this is left by the barrier for its object
    pub record IsAccessed (x : Traced) : Type 0 where
      pub outcome : Outcome F (Unit {0})
      pub accepted : reference_got layout h target source k ≡ Ok outcome
      pub object : Block F
      pub found : object_in layout h source ≡ Ok object
      pub accessed : IsAccessedAt object.at x

    -- the call is judged first: a refused one does nothing. Else the slot has what the cell refers to after the barrier
    pub data IsGot (result : Checked (Unit {0})) (after : HeapState F) (m' : Moves) : Type 0 where
      is_refused : (why : Refusal) → reference_got layout h target source k ≡ Err why → result ≡ Err why → after ≡ h → m' ≡ m
          → IsGot result after m'
      reads : (x : Traced) → IsAccessed x → Comes (after_access x) (reference_got layout (after_access x) target source k) result after
          → m' ≡ x.moves → IsGot result after m'

-- ---- vectors

-- a refused call does nothing
pub a_refused_get_does_nothing : {F : Type 0} (layout : F → Layout) (h after : HeapState F) (m m' : Moves) (target source : Slot) (k : ℕ)
    (result : Checked (Unit {0})) (why : Refusal) → reference_got layout h target source k ≡ Err why
    → IsGot layout h m target source k result after m' → (after ≡ h) × (m' ≡ m)
a_refused_get_does_nothing layout h after m m' target source k result why refused (is_refused other also answer state trail) =
    (state, trail)
a_refused_get_does_nothing layout h after m m' target source k result why refused (reads x is comes trail) =
    let e : Err why ≡ Ok is.outcome = sym refused ∙ is.accepted in absurd cc

-- while no collection runs there is no barrier
pub no_barrier_at_rest : {F : Type 0} (layout : F → Layout) (h : HeapState F) (m : Moves) (at : Address) (x : Traced)
    → h.running ≡ None → IsAccessedAt layout h m at x → x.moves ≡ m
no_barrier_at_rest layout h m at x none is = ap (λ (z : Traced). z.moves) (is.rests none)

-- a block is left grey in the segment that is read
pub a_read_without_its_barrier : {F : Type 0} (layout : F → Layout) (h : HeapState F) (m : Moves) (at : Address)
    (grey : Addr) (run : Running)
    (t : Segment) → h.running ≡ Some run → run.band ≡ band.Exact → segment_over h.segs.segments at ≡ Some t
    → lowest_grey_in h.segs t ≡ Some grey → IsAccessedAt layout h m at (traced_in h m) → ⊥
a_read_without_its_barrier layout h m at grey run t running exact over left is =
    let scanned = subst
    (λ b. AccessesTo layout (trace_in h).formats (trace_in h).chains b t (traced_in h m) (traced_in h m)) exact
    (is.runs run running t over) in
    let e : None ≡ Some grey = sym scanned.drained ∙ left in
    absurd cc
