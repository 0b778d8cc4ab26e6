-- In which segments objects lie once all slots and messages are fixed at a flip, and of what rank marks are then.
use Rattle.mps_abstract.specs.Collecting.{Collecting}
use Rattle.mps_trace.specs.Trace.{Traced}
use Rattle.mps_trace_laws.specs.Fix.Housed.{AreHoused}
use Rattle.mps_trace_laws.specs.Fix.Ranks.{AreMarksRanked}

-- each object lies in one segment of its rank, and each grey block has the mark of its segment's rank
pub record AreRootsHoused (z : Traced) (after : Collecting) : Type 0 where
  pub housed : AreHoused after.world.graph.objects z.segs.segments after.world.addresses
  pub ranked : AreMarksRanked z.segs
