use Rattle.mps_base.specs.Address.{word_of}
use Rattle.mps_base.specs.Run.{with_run, without_run}
use Rattle.mps_seg.proofs.Covering.{run_at}
use Rattle.mps_seg.proofs.HeldSegments.{held_after_commit}
use Rattle.mps_seg.proofs.segs.Segs.commit.Goals as goal

pub invariant_of-self : goal.invariant_of-self
invariant_of-self c =
    let s = c.self.inside in
    rw c.commit.ensures.state (
      held_after_commit s.arena s.table.items s.extents c.self.invariant.0
          (with_run (run_at c.args.at.0 c.args.words) s.extents.blocks) (without_run (word_of c.args.at.0) s.extents.reservations),
      c.self.invariant.1,
      c.self.invariant.2,
      c.self.invariant.3,
      c.self.invariant.4,
    )
