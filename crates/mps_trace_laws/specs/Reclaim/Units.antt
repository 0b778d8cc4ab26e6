-- The reclaim of a condemned segment as a unit of the abstract collector.
use Rattle.std.specs.Prelude.{◌≡◌, ℕ, false, IsTrue, Some, None, List, Contains}
use Rattle.mps_base.specs.Address.{Address, grain_of}
use Rattle.mps_base.specs.Segment.{Segment}
use Rattle.mps_extents.specs.Table.{bit}
use Rattle.mps_format.specs.Layout.{Layout}
use Rattle.mps_seg.specs.Segs.{SegsState}
use Rattle.mps_seg.specs.Collecting.{collected}
use Rattle.mps_model.specs.Collection.{Collection}
use Rattle.mps_model.specs.Effect.{world_after_moves}
use Rattle.mps_model.specs.Graph.{contains}
use Rattle.mps_model.specs.Units.{is_last_condemned}
use Rattle.mps_model.specs.World.{World}
use Rattle.mps_abstract.specs.Colours.{Colours}
use Rattle.mps_abstract.specs.Collecting.{Collecting}
use Rattle.mps_abstract.specs.Units.{IsUnit, IsLastUnit, reclaim_by, collecting_after_reclaim}
use Rattle.mps_trace_laws.specs.Image.AtRest.{StandsAtRest}
use Rattle.mps_trace_laws.specs.Reclaim.Left.{StandsFreeing}

-- the segments of an arena represent a world whose collection is in the last band
pub record FreesFor (g : SegsState) (w : World) (c : Collection) (k : Colours) (layout : ℕ → Layout) : Type 0 where
  pub stands : StandsFreeing g w.graph.objects w.graph.points w.point_memories layout c.condemned k w.addresses
  pub segments : w.segments ≡ g.segments
  -- the condemned segments are those of the collection
  pub bits : (t : Segment) → Contains g.segments t → bit g.condemned (grain_of t.base) ≡ contains c.condemned_segments t.base

-- the reclaim of a segment, after which the collection goes on, is a unit, and the segments represent the world after it
pub record GoesOnSo (x : Collecting) (t : Segment) (freed : List Address) (layout : ℕ → Layout) (g' : SegsState) : Type 0 where
  pub collection : Collection
  pub runs : (world_after_moves x.world (reclaim_by x t.base freed)).collection ≡ Some collection
  pub unit : IsUnit x (reclaim_by x t.base freed) (collecting_after_reclaim x t.base freed collection)
  pub frees : FreesFor g' (world_after_moves x.world (reclaim_by x t.base freed)) collection x.colours layout

-- what is shown of the reclaim of the next condemned segment: it goes on, or it is the last unit
pub record IsUnitReclaimed (x : Collecting) (t : Segment) (freed : List Address) (layout : ℕ → Layout) (g' : SegsState) : Type 0 where
  pub goes_on : is_last_condemned x.running t.base ≡ false → GoesOnSo x t freed layout g'
  pub ends : IsTrue (is_last_condemned x.running t.base) → IsLastUnit x (reclaim_by x t.base freed)

-- after the last reclaim no collection runs, and once marks and condemned bits are ended the segments represent the world at rest
pub record EndsSo (x : Collecting) (t : Segment) (freed : List Address) (g' : SegsState) : Type 0 where
  pub ended : (world_after_moves x.world (reclaim_by x t.base freed)).collection ≡ None
  pub segments : (world_after_moves x.world (reclaim_by x t.base freed)).segments ≡ g'.segments
  pub stands : StandsAtRest (collected g') (world_after_moves x.world (reclaim_by x t.base freed))
