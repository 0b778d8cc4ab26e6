-- What lies where in the arena: of a world what tells the words of its blocks and reservations, and those at hand.
use Rattle.std.specs.Prelude.{ℕ, Bool, true, false, Option, Some, None, List, [], map, length, if◌then◌else◌, slice_get, find}
use Rattle.std.specs.Option.{option_map_or}
use Rattle.mps_base.specs.Address.{Address}
use Rattle.mps_base.specs.Run.{Run}
use Rattle.mps_base.specs.Segment.{Segment}
use Rattle.mps_base.specs.declared.names.Rank.{Rank}
use Rattle.mps_base.specs.declared.names.Rank.TheVariants as rank
use Rattle.mps_model.specs.Graph.{Object, Point, Reservation, entry_at, size_of, is_weak_object}
use Rattle.mps_model.specs.Collection.{Collection}
use Rattle.mps_model.specs.World.{World, Pool, PointMemory, Tail, extent, empty_run, is_tail_of}

-- what of an object tells where it may lie
pub record Shape : Type 0 where
  pub pool : ℕ
  pub words : ℕ
  pub is_weak : Bool

abbrev pub shape_of : Object → Shape
shape_of o = record { pool = o.pool; words = size_of o; is_weak = is_weak_object o }

-- the same of a point, with the words of its live reservation
pub record PointShape : Type 0 where
  pub pool : ℕ
  pub rank : Rank
  pub reserved : Option ℕ

abbrev pub reserved_words : Option Reservation → Option ℕ
reserved_words None = None
reserved_words (Some r) = if r.is_doomed then None else Some (length r.cells)

abbrev pub shape_of_point : Option Point → Option PointShape
shape_of_point None = None
shape_of_point (Some p) = Some (record { pool = p.pool; rank = p.rank; reserved = reserved_words p.reservation })

abbrev pub condemned_in : Option Collection → List Address
condemned_in None = []
condemned_in (Some c) = c.condemned_segments

pub record Occupancy : Type 0 where
  pub shapes : List Shape
  pub addresses : List (Option Address)
  pub points : List (Option PointShape)
  pub memories : List PointMemory
  pub tails : List Tail
  pub segments : List Segment
  pub pools : List Pool
  -- the bases of the condemned segments; none where no collection runs
  pub condemned : List Address
  pub grains : ℕ

abbrev pub occupancy_of : World → Occupancy
occupancy_of w = record {
  shapes = map shape_of w.graph.objects;
  addresses = w.addresses;
  points = map shape_of_point w.graph.points;
  memories = w.point_memories;
  tails = w.tails;
  segments = w.segments;
  pools = w.pools;
  condemned = condemned_in w.collection;
  grains = w.grains;
}

-- ---- who has words

pub data Occupant : Type 0 where
  OfBlock : (id : ℕ) → Occupant
  OfReservation : (point : ℕ) → Occupant
  OfBuffer : (point : ℕ) → Occupant
  OfTail : (pool generation : ℕ) → Occupant

-- the words of a block with this shape at this address
abbrev pub run_of_block : Option Shape → Option Address → Run
run_of_block (Some s) (Some at) = extent at s.words
run_of_block None at = empty_run
run_of_block (Some s) None = empty_run

abbrev pub run_of_reserved : Option ℕ → Option PointMemory → Run
run_of_reserved (Some words) (Some memory) = extent memory.reserved_at words
run_of_reserved None memory = empty_run
run_of_reserved (Some words) None = empty_run

-- the words of the live reservation of this point
abbrev pub run_of_reservation : Option PointShape → Option PointMemory → Run
run_of_reservation None memory = empty_run
run_of_reservation (Some p) memory = run_of_reserved p.reserved memory

abbrev pub run_of_buffer : Option PointMemory → Run
run_of_buffer memory = option_map_or (λ m. m.buffer) memory empty_run

abbrev pub run_of_tail : List Tail → (pool generation : ℕ) → Run
run_of_tail tails pool generation = option_map_or (λ t. t.words) (find (is_tail_of pool generation) tails) empty_run

abbrev pub run_of : Occupancy → Occupant → Run
run_of g (OfBlock id) = run_of_block (slice_get g.shapes id) (entry_at g.addresses id)
run_of g (OfReservation point) = run_of_reservation (entry_at g.points point) (slice_get g.memories point)
run_of g (OfBuffer point) = run_of_buffer (slice_get g.memories point)
run_of g (OfTail pool generation) = run_of_tail g.tails pool generation

-- the pool of which an occupant's segment has to be
abbrev pub pool_of_occupant : Occupancy → Occupant → ℕ
pool_of_occupant g (OfBlock id) = option_map_or (λ s. s.pool) (slice_get g.shapes id) 0
pool_of_occupant g (OfReservation point) = option_map_or (λ p. p.pool) (entry_at g.points point) 0
pool_of_occupant g (OfBuffer point) = option_map_or (λ p. p.pool) (entry_at g.points point) 0
pool_of_occupant g (OfTail pool generation) = pool

abbrev pub rank_where : Bool → Rank
rank_where true = rank.Weak
rank_where false = rank.Exact

-- and the rank
abbrev pub rank_of_occupant : Occupancy → Occupant → Rank
rank_of_occupant g (OfBlock id) = option_map_or (λ s. rank_where s.is_weak) (slice_get g.shapes id) rank.Exact
rank_of_occupant g (OfReservation point) = option_map_or (λ p. p.rank) (entry_at g.points point) rank.Exact
rank_of_occupant g (OfBuffer point) = option_map_or (λ p. p.rank) (entry_at g.points point) rank.Exact
rank_of_occupant g (OfTail pool generation) = rank.Exact
