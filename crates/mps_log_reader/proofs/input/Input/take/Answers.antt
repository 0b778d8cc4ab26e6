use Rattle.std.proofs.Common.{◌≡◌, ℕ, ◌-◌, length, take, drop, ap, arith}
use Rattle.std.proofs.lemmas.List.{length-take}
use Rattle.mps_log_reader.specs.Input.{Buffered}
use Rattle.mps_log_reader.proofs.Pending.{same_buffered, pending-take}
use Rattle.mps_log_reader.proofs.input.Input.take.Goals as goal

pub returns : goal.returns
returns c =
    let i = c.self.inside in
    let size : length (take (i.to - i.from) (drop i.from i.room.items)) ≡ length c.args.self.now.pending =
    ap (λ (b : Buffered). length b.pending) c.self.view_is in
    rw (← c.self.view_is) (same_buffered _ _ _ _
    (pending-take i.room.items i.from i.to c.args.count (omega (arith, size, length-take {A = ℕ}))))
