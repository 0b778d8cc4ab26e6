use Rattle.std.proofs.Common.{◌≡◌, ◌++◌, take, vec_capacity}
use Rattle.mps_gathering.proofs.held.push_all.Given as goal

abbrev pub invariant-loop-byte : goal.invariant-loop-byte
invariant-loop-byte l =
    (l.bytes.items ≡ l.initial.bytes.items ++ take l.byte-index l.piece) × (vec_capacity l.bytes ≡ vec_capacity l.initial.bytes)
