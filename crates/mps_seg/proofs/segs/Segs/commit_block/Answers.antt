use Rattle.mps_base.specs.Run.{with_run}
use Rattle.mps_seg.proofs.Covering.{covering, run_at}
use Rattle.mps_seg.proofs.segs.Segs.commit_block.Goals as goal

pub commit_block-requires-clause-free : goal.commit_block-requires-clause-free
commit_block-requires-clause-free c =
    let s = c.self.inside in
    (covering s c.args.self.now c.args.at.0 c.args.words c.self.invariant c.self.view_is c.requires.nonzero c.requires.free).free

pub invariant_of-self : goal.invariant_of-self
invariant_of-self c =
    let s = c.self.inside in
    let facts = covering s c.args.self.now c.args.at.0 c.args.words c.self.invariant c.self.view_is c.requires.nonzero c.requires.free in
    rw (c.commit_block.ensures) (
      facts.held (with_run (run_at c.args.at.0 c.args.words) s.extents.blocks) s.extents.reservations,
      facts.bounded,
      c.self.invariant.2,
      c.self.invariant.3,
      c.self.invariant.4,
    )
