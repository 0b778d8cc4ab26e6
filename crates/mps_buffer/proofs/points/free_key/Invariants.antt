use Rattle.std.proofs.Common.{ℕ, ◌≡◌, ◌<◌, true, None, is_some, length, get_or}
use Rattle.mps_buffer.proofs.points.free_key.Given as goal

-- there is a point under each key before this one
abbrev pub invariant-loop-key : goal.invariant-loop-key
invariant-loop-key l = (k : ℕ) → k < l.key → k < length l.points → is_some (get_or l.points k None) ≡ true
