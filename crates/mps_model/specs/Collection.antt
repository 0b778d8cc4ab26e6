-- What a running collection remembers.
use Rattle.std.specs.Prelude.{ℕ, Bool, not, ◌||◌, List, []}
use Rattle.mps_base.specs.Address.{Id, Address}
use Rattle.mps_model.specs.Graph.{Graph, contains}
use Rattle.mps_model.specs.Reachable.{IsLinked}

-- how far a collection is. It only goes forward
pub data Phase : Type 0 where
  -- until its first splat
  Tracing : Phase
  -- until the first block is swept or the first condemned segment given back
  Splatting : Phase
  Reclaiming : Phase

pub record Collection : Type 0 where
  -- the bases of the condemned segments that are still held
  pub condemned_segments : List Address
  -- the automatic objects that lay in condemned segments at the flip
  pub condemned : List Id
  -- the condemned objects in which an area word lay at the flip
  pub pinned : List Id
  -- the objects that were moved, or made to stay
  pub placed : List Id
  -- the objects that were posted, and those that the client held after some call since the flip
  pub had : List Id
  -- the graph at the flip, and the objects from which what may survive is linked in it: the roots, and those that were posted
  pub graph_at_flip : Graph
  pub origins : List Id
  -- of the registrations, n from the front on were made before the flip
  pub registered_before : ℕ
  -- of the registrations, n from the front on were examined
  pub examined : ℕ
  pub phase : Phase
  -- the segment that was reclaimed last; 0 if none was
  pub reclaimed_to : ℕ
  -- how many units the collection may take: live automatic objects, registrations and segments of automatic pools at the flip
  pub units : ℕ
  -- how many units were asked of it by steps and polls
  pub spent : ℕ

-- a collection that condemned nothing, begun where this is the graph
abbrev pub empty_collection : Graph → Collection
empty_collection g = record {
  condemned_segments = [];
  condemned = [];
  pinned = [];
  placed = [];
  had = [];
  graph_at_flip = g;
  origins = [];
  registered_before = 0;
  examined = 0;
  phase = Tracing;
  reclaimed_to = 0;
  units = 0;
  spent = 0;
}

abbrev pub is_condemned : Collection → (id : Id) → Bool
is_condemned c id = contains c.condemned id

-- pinned, or with a place: what the client may hold of a copying pool
abbrev pub is_kept_in_place : Collection → (id : Id) → Bool
is_kept_in_place c id = contains c.pinned id || contains c.placed id

-- settled: it won't be moved or freed by this collection any more
abbrev pub is_settled : Collection → (id : Id) → Bool
is_settled c id = contains c.pinned id || (contains c.placed id || contains c.had id)

-- whether a collection is known to keep an object: it isn't condemned, or it is settled
abbrev pub is_surely_kept : Collection → (id : Id) → Bool
is_surely_kept c id = not (is_condemned c id) || is_settled c id

-- what may survive this collection: whatever a path led to, in the graph at the flip and through any references, from the
-- roots or from an object that was posted. All else that was condemned must be gone at the end
abbrev pub MaySurvive : Collection → (id : Id) → Type 0
MaySurvive c id = IsLinked c.graph_at_flip c.origins id
