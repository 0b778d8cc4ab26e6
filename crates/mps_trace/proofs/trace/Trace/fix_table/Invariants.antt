use Rattle.std.proofs.Common.{ℕ, ◌≡◌, ◌<◌}
use Rattle.mps_root.specs.State.{HasItem}
use Rattle.mps_trace.specs.Roots.{FixesSlots}
use Rattle.mps_trace.specs.Trace.{traced}
use Rattle.mps_trace.proofs.trace.Trace.fix_table.Given as goal

-- the slots before this one are fixed
abbrev pub invariant-loop-index : goal.invariant-loop-index
invariant-loop-index g l =
    FixesSlots g.F.Format.layout l.initial.self.formats l.initial.self.chains l.key l.initial.roots
    (traced l.initial.self l.initial.segs l.initial.trail) l.index l.roots (traced l.self l.segs l.trail)
    × (l.self ≡ record l.initial.self { amc = l.self.amc })
    × ((index : ℕ) → index < l.index-end → HasItem l.roots.tables l.key index)
    × (l.roots.order ≡ l.initial.roots.order)
