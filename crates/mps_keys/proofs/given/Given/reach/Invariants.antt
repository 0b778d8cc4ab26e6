use Rattle.std.proofs.Common.{◌≡◌, ◌-◌, ◌+◌, ◌≤◌, ℕ, None, get_or, length}
use Rattle.std.specs.Vec.{vec_capacity}
use Rattle.mps_keys.specs.Keys.{most_places, stamp_at}
use Rattle.mps_keys.proofs.given.Given.reach.Given as goal

-- nothing is noted at the places that were added
abbrev pub invariant-loop-self : goal.invariant-loop-self
invariant-loop-self l =
    ((other : ℕ) → get_or l.self-inside.stamps.items other None ≡ stamp_at l.fn.self other)
    × (l.self-inside.count ≡ l.fn.self.count) × (most_places ≤ vec_capacity l.self-inside.stamps)

abbrev pub decreases-loop-self : goal.decreases-loop-self
decreases-loop-self l = l.place + 1 - length l.self-inside.stamps.items
