-- What is left of a heap by a full collection, in which no call comes between the flip and the end.
use Rattle.std.specs.Prelude.{◌≡◌, ℕ, false, IsSome, List, Option, []}
use Rattle.mps_base.specs.Address.{Address}
use Rattle.mps_base.specs.declared.moves.Move.{Move}
use Rattle.mps_extents.specs.Table.{bit}
use Rattle.mps_buffer.specs.Points.{points_after_flip}
use Rattle.mps_trace_laws.specs.Image.AtRest.{StandsAtRest}
use Rattle.mps_ld.specs.State as ld
use Rattle.mps_model.specs.World.{World, Parked}
use Rattle.mps_model.specs.Effect.{Everything, condemned_zones, world_after_moves}
use Rattle.mps_root.specs.State.{kept}
use Rattle.mps_heap_spec.specs.State.{HeapState, without_pairs}
use Rattle.mps_refinement.specs.Numbering.{AreNumbered}
use Rattle.mps_trace_laws.specs.Units.Laws.{HasFinalsOf}
use Rattle.mps_refinement.specs.StandsFor.{AreSlots, Past, state_of}

-- the world after a `collect` that made these moves
abbrev pub world_collected : World → List Move → World
world_collected w ms = record (world_after_moves w ms) { state = Parked [] }

-- what a flip with these zones, and what follows of its collection in the same call, have to leave of a heap that represented a world, if
-- the act of the flip left objects at these addresses, and this is the world after the call
pub record IsFlippedHeap {F : Type 0} (past : Past) (w : World) (zones : ℕ) (h after : HeapState F) (acted : List (Option Address))
    (v : World) : Type 0 where
  -- the arena and its segments
  pub grains : after.segs.grains ≡ h.segs.grains
  pub limit : after.segs.limit ≡ h.segs.limit
  pub segments : after.segs.segments ≡ v.segments
  -- slots hold the addresses that the act of the flip left
  pub tables : AreNumbered (AreSlots acted) past.table_number (kept after.roots.tables) w.graph.tables
  pub order : after.roots.order ≡ h.roots.order
  pub tables_there : (key : ℕ) → IsSome (kept h.roots.tables key) → IsSome (kept after.roots.tables key)
  -- a flip came for points and dependencies
  pub points : after.points ≡ points_after_flip h.points
  pub epochs : after.epochs ≡ ld.epochs_after_flip h.epochs zones
  pub state : v.state ≡ state_of after.arena []
  -- and nothing else changed
  pub areas : after.roots.areas ≡ h.roots.areas
  pub blocks : after.roots.blocks ≡ h.roots.blocks
  pub live_roots : after.live_roots ≡ h.live_roots
  pub live_slots : after.live_slots ≡ h.live_slots
  pub live_points : after.live_points ≡ h.live_points
  pub dependencies : after.dependencies ≡ h.dependencies
  pub pools : after.pools ≡ h.pools
  pub sizes : after.sizes ≡ h.sizes
  pub chains : after.chains ≡ h.chains
  pub names : after.names ≡ h.names
  -- no transform has a pair
  pub beside : after.beside ≡ without_pairs h.beside

-- what a call has to leave whose collection has ended: words, marks and runs represent the world after the call, no segment is condemned,
-- no block is kept, and registrations and messages are those of their objects then
pub record IsCollectedHeap {F : Type 0} (past : Past) (w : World) (h after : HeapState F) (acted : List (Option Address))
    (v : World) : Type 0 where
  pub flipped : IsFlippedHeap past w (condemned_zones w Everything) h after acted v
  pub image : StandsAtRest after.segs v
  pub not_condemned : (grain : ℕ) → bit after.segs.condemned grain ≡ false
  pub not_kept : (n : ℕ) → bit after.segs.marks.kept n ≡ false
  pub finals : HasFinalsOf after.finals v
  pub running : after.running ≡ h.running
