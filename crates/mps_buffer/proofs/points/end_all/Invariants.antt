use Rattle.std.proofs.Common.{◌≡◌, drop}
use Rattle.mps_buffer.specs.Points.{after_all_end, AreReserved}
use Rattle.mps_buffer.proofs.points.end_all.Given as goal

-- the reservations from here on are still to be ended
abbrev pub invariant-loop-p : goal.invariant-loop-p
invariant-loop-p l =
    (after_all_end l.flips (drop l.p-index l.points) l.segs ≡ after_all_end l.flips l.points l.initial.segs)
    × AreReserved l.flips (drop l.p-index l.points) l.segs
