-- What a state that stands has for its summaries: its blocks and reservations lie in segments, and its tails in those of their pools.
use Rattle.std.proofs.Common.{◌≡◌, ℕ, ◌-◌, sym, ap, List, ◌++◌, Option, Some, subst, arith}
use Rattle.std.specs.List.{AllByRecursion}
use Rattle.mps_base.specs.Address.{Address, word_of, address_of_word}
use Rattle.mps_base.specs.Run.{Run, Covers}
use Rattle.mps_base.specs.Segment.{Segment, segment_over}
use Rattle.mps_format.specs.Layout.{Layout}
use Rattle.mps_format.specs.declared.pool.Policy.{Policy}
use Rattle.mps_amc.specs.Amc as amc
use Rattle.mps_trace.specs.GenState.{ChainsState}
use Rattle.mps_trace.specs.Trace.{Traced}
use Rattle.mps_model.specs.World.{extents_of, reserved_extents, tail_of}
use Rattle.mps_abstract.specs.Collecting.{Collecting}
use Rattle.mps_laws.proofs.InOrder.{all_append}
use Rattle.mps_laws.proofs.Positions.ApartRuns.{all_in_order}
use Rattle.mps_laws.proofs.Positions.Segments.{among_aligned}
use Rattle.mps_trace_laws.specs.Image.Memory.{pool_over_word}
use Rattle.mps_trace_laws.specs.Image.Image.{CellSet}
use Rattle.mps_trace_laws.specs.Fix.Tracing.{StateStands}
use Rattle.mps_trace_laws.proofs.Image.BlockRuns.{all_contained}
use Rattle.mps_trace_laws.proofs.Image.Extents.{all_extents, all_reserved}
use Rattle.mps_trace_laws.proofs.Fix.Found.{over_of_pool}
use Rattle.mps_trace_laws.proofs.Fix.Growing.{over_back}
use Rattle.mps_trace_laws.proofs.Fix.Hands.{contains_among}
use Rattle.mps_trace_laws.proofs.Summaries.Moves.{AreRunsHeld}
use Rattle.mps_trace_laws.proofs.Summaries.Keeps.{AreTailsHome}

module _ {F : Type 0} (layout : F → Layout) (formats : List (Option (Policy F))) (of : ChainsState) (at_flip : List (Option Address))
    (done : CellSet) (x : Traced) (y : Collecting) (stands : StateStands layout formats of at_flip done x.amc x.segs y)
  where
    abbrev IsHeldRun : Run → Type 0
    IsHeldRun r = (n : ℕ) → Covers r n → (t : Segment) × (segment_over x.segs.segments (address_of_word n) ≡ Some t)

    over : (n pool : ℕ) → pool_over_word x.segs n ≡ Some pool → (t : Segment) × (segment_over x.segs.segments (address_of_word n) ≡ Some t)
    over n pool is = let found = over_of_pool (segment_over x.segs.segments (address_of_word n)) pool is in (found.0, found.1)

    all_held : AllByRecursion IsHeldRun x.segs.covered
    all_held =
        let objects = y.world.graph.objects in
        let addresses = y.world.addresses in
        let points = y.world.graph.points in
        let memories = y.world.point_memories in
        subst (AllByRecursion IsHeldRun) (sym stands.image.runs.covered)
        (all_in_order IsHeldRun (extents_of objects addresses ++ reserved_extents points memories)
        (all_append IsHeldRun (extents_of objects addresses) (reserved_extents points memories)
        (all_extents IsHeldRun objects addresses (λ id a o e object n d.
        over n o.pool (stands.image.placed.home id (n - word_of a) o n
        (record { at = a; address = e; object = object; within = omega (arith, d.0, d.1); is = omega (arith, d.0) }))))
        (all_reserved IsHeldRun points memories (λ i r m live has n d.
        let there = stands.reserved i (n - word_of m.reserved_at) r n
        (record { memory = m; reserved = live; has = has; within = omega (arith, d.0, d.1); is = omega (arith, d.0) })
        in
        over n there.0 there.1))))

    pub runs_held : AreRunsHeld x.segs
    runs_held r n there covers = all_contained IsHeldRun x.segs.covered r all_held there n covers

    pub tails_home : AreTailsHome x
    tails_home pool generation some =
        let same = stands.tails.same pool generation in
        let from : (amc.tail_of x.amc pool generation).from ≡ (tail_of y.world pool generation).from = ap (λ (r : Run). r.from) same in
        let count : (amc.tail_of x.amc pool generation).count ≡ (tail_of y.world pool generation).count = ap (λ (r : Run). r.count) same in
        let home = stands.hands.home pool generation (omega (arith, some, count)) in
        let among = contains_among x.segs.segments home.segment home.held in
        let aligned = among_aligned home.segment x.segs.segments stands.held.aligned among in
        let n = (amc.tail_of x.amc pool generation).from in (
          home.segment,
          over_back x.segs stands.held n home.segment
              (record { among = among; covers = (omega (arith, home.above, from), omega (arith, home.ends, aligned, from, count, some)) }),
          home.home,
        )
