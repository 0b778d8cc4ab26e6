use Rattle.mps_refinement.proofs.Worlds.Staying.{are_reserved}
use Rattle.mps_heap.proofs.heap.Heap.finish.Goals as goal

pub finish-requires : goal.finish-requires
finish-requires g c = are_reserved g.F.Format.layout c.self.inside.state c.self.invariant
