use Rattle.std.proofs.Common.{◌≡◌, ◌+◌}
use Rattle.mps_pools.specs.Pools.{trace_of}
use Rattle.mps_trace.specs.Trace.{traced}
use Rattle.mps_trace.specs.Unit.{UnitsTo}
use Rattle.mps_heap_code.proofs.steps.count_units.Given as goal

-- as many units were done, each of which ticked, and the collection goes on
abbrev pub invariant-loop : goal.invariant-loop
invariant-loop g l =
    UnitsTo g.F.Format.layout (trace_of l.initial.pools.pools l.initial.pools.chains l.initial.pools.tails).formats
    (trace_of l.initial.pools.pools l.initial.pools.chains l.initial.pools.tails).chains
    (traced (trace_of l.initial.pools.pools l.initial.pools.chains l.initial.pools.tails) l.initial.segs l.initial.trail)
    l.initial.finals l.initial.running l.counter (traced (trace_of l.pools.pools l.pools.chains l.pools.tails) l.segs l.trail) l.finals
    l.running × (l.pools ≡ record l.initial.pools { tails = l.pools.tails })
    × (l.steps ≡ l.initial.steps + l.counter)
