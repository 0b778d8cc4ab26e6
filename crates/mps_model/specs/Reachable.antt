-- Reachability, by paths through the object graph.
use Rattle.std.specs.Prelude.{ℕ, List, IsTrue, ◌++◌}
use Rattle.mps_base.specs.Address.{Id}
use Rattle.mps_model.specs.Graph.{Graph, contains, targets, strong_targets, ids_of_client}

-- a path leads from one of these ids to an id, where each id refers to the ones that `next` gives
pub data PathLeads (next : ℕ → List ℕ) (seeds : List ℕ) : ℕ → Type 0 where
  begins : {id : ℕ} → IsTrue (contains seeds id) → PathLeads next seeds id
  goes_on : {from : ℕ} {to : ℕ} → PathLeads next seeds from → IsTrue (contains (next from) to) → PathLeads next seeds to

-- strongly reachable, where these ids are roots too: a path leads to the id from what the client holds or from one of these,
-- through reference cells of objects that aren't weak
abbrev pub IsReachableWith : Graph → (more : List ℕ) → (id : Id) → Type 0
IsReachableWith g more id = PathLeads (strong_targets g) (ids_of_client g ++ more) id

-- a path leads from one of these ids to an id, through any reference cells, weak ones too
abbrev pub IsLinked : Graph → (seeds : List ℕ) → (id : Id) → Type 0
IsLinked g seeds id = PathLeads (targets g) seeds id
