-- The colours of objects while a collection runs, by ids. An object is white if it is condemned and not kept yet, grey
-- if its references are still to be scanned, and else black.
use Rattle.std.specs.Prelude.{◌≡◌, ◌⊎◌, ◌≤◌, Bool, true, false, not, ◌&&◌, ◌||◌, ◌==◌, IsTrue, Option, Some, List, [], ◌∷◌, length, filter, refl}
use Rattle.mps_base.specs.Address.{Id, Address}
use Rattle.mps_model.specs.Graph.{Graph, contains, entry_at, targets}
use Rattle.mps_model.specs.Collection.{Collection, is_condemned, is_settled, is_kept_in_place, MaySurvive}

-- what a collector knows besides the world
pub record Colours : Type 0 where
  -- the condemned objects that it keeps: pinned, moved, made to stay, or marked
  pub kept : List Id
  -- the objects that it has still to scan
  pub grey : List Id

abbrev pub is_white : (condemned : List Id) → Colours → (id : Id) → Bool
is_white condemned k id = contains condemned id && not (contains k.kept id)

abbrev pub is_grey : Colours → (id : Id) → Bool
is_grey k id = contains k.grey id

-- neither white nor grey
abbrev pub is_black : (condemned : List Id) → Colours → (id : Id) → Bool
is_black condemned k id = not (is_white condemned k id) && not (is_grey k id)

-- whether an object may still have to be scanned
abbrev pub is_to_scan : (condemned : List Id) → Colours → (id : Id) → Bool
is_to_scan condemned k id = is_white condemned k id || is_grey k id

-- an object is kept, and is to be scanned
abbrev pub keeping : Colours → (id : Id) → Colours
keeping k id = record { kept = id ∷ k.kept; grey = id ∷ k.grey }

-- an object was scanned
abbrev pub blackened : Colours → (id : Id) → Colours
blackened k id = record k { grey = filter (λ n. not (n == id)) k.grey }

-- ---- what the colours mean

-- where these ids are roots, in a graph whose live objects are these
pub record AreColoured (roots : List Id) (g : Graph) (live : Id → Bool) (condemned : List Id) (k : Colours) : Type 0 where
  -- the objects that are roots are live, and aren't white
  pub held_live : (id : Id) → IsTrue (contains roots id) → IsTrue (live id)
  pub held : (id : Id) → IsTrue (contains roots id) → is_white condemned k id ≡ false
  -- what an object refers to that isn't white is live
  pub referred_live : (id target : Id) → IsTrue (live id) → is_white condemned k id ≡ false → IsTrue (contains (targets g id) target)
      → IsTrue (live target)
  -- what a black object refers to isn't white
  pub referred : (id target : Id) → IsTrue (live id) → is_white condemned k id ≡ false → is_grey k id ≡ false
      → IsTrue (contains (targets g id) target) → is_white condemned k target ≡ false

-- what every live object refers to is live, as long as nothing is freed
abbrev pub AllReferredLive : Graph → (live : Id → Bool) → Type 0
AllReferredLive g live = (id target : Id) → IsTrue (live id) → IsTrue (contains (targets g id) target) → IsTrue (live target)

-- grey objects are live automatic objects and aren't white
pub record AreGreyKept (automatic live : Id → Bool) (condemned : List Id) (k : Colours) : Type 0 where
  pub grey_live : (id : Id) → IsTrue (is_grey k id) → IsTrue (live id)
  pub grey_automatic : (id : Id) → IsTrue (is_grey k id) → IsTrue (automatic id)
  pub grey_kept : (id : Id) → IsTrue (is_grey k id) → is_white condemned k id ≡ false

-- nothing but weak objects is grey
abbrev pub AreColoursDrained : (weak : Id → Bool) → Colours → Type 0
AreColoursDrained weak k = (id : Id) → IsTrue (is_grey k id) → IsTrue (weak id)

-- nothing is grey
abbrev pub AreAllScanned : Colours → Type 0
AreAllScanned k = (id : Id) → is_grey k id ≡ false

-- ---- what the colours have to do with what the model's collection remembers

pub record AreSettled (copying : Id → Bool) (c : Collection) (k : Colours) : Type 0 where
  -- what is settled isn't white
  pub settled : (id : Id) → IsTrue (is_settled c id) → is_white c.condemned k id ≡ false
  -- what is kept of copying pools is pinned, or has its place
  pub in_place : (id : Id) → IsTrue (copying id) → IsTrue (is_condemned c id) → is_white c.condemned k id ≡ false
      → IsTrue (is_kept_in_place c id)

-- not condemned, or it may survive
abbrev pub Survives : Collection → (id : Id) → Type 0
Survives c id = (is_condemned c id ≡ false) ⊎ MaySurvive c id

pub record AreSurvivors (g : Graph) (live : Id → Bool) (c : Collection) (k : Colours) : Type 0 where
  -- all objects that there were at the flip are still there
  pub existing : length c.graph_at_flip.objects ≤ length g.objects
  -- what isn't white survives
  pub kept : (id : Id) → IsTrue (live id) → is_white c.condemned k id ≡ false → Survives c id
  -- what an object refers to survives, unless it referred to it at the flip
  pub written : (id target : Id) → IsTrue (live id) → IsTrue (contains (targets g id) target)
      → IsTrue (contains (targets c.graph_at_flip id) target) ⊎ Survives c target
  -- what an object that wasn't condemned referred to at the flip survives
  pub outside : (id target : Id) → IsTrue (live id) → is_condemned c id ≡ false → IsTrue (contains (targets c.graph_at_flip id) target)
      → Survives c target

-- ---- where things are

-- no two objects have one address
abbrev pub AreDifferent : (addresses : List (Option Address)) → Type 0
AreDifferent addresses =
    (id other : Id) (at : Address) → entry_at addresses id ≡ Some at → entry_at addresses other ≡ Some at → id ≡ other

-- no object has this address
abbrev pub IsUnoccupied : (addresses : List (Option Address)) → (at : Address) → Type 0
IsUnoccupied addresses at = (id : Id) → entry_at addresses id ≡ Some at → ⊥

-- ---- vectors: 1 and 2 are condemned, and 1 is kept and to be scanned

abbrev some_kept : Colours
some_kept = record { kept = 1 ∷ []; grey = 1 ∷ [] }

pub a_condemned_object_is_white_until_it_is_kept : is_white (1 ∷ 2 ∷ []) some_kept 2 ≡ true
a_condemned_object_is_white_until_it_is_kept = refl

pub a_kept_object_is_not_white : is_white (1 ∷ 2 ∷ []) some_kept 1 ≡ false
a_kept_object_is_not_white = refl

pub an_object_that_was_not_condemned_is_black : is_black (1 ∷ 2 ∷ []) some_kept 0 ≡ true
an_object_that_was_not_condemned_is_black = refl

pub a_grey_object_is_not_black : is_black (1 ∷ 2 ∷ []) some_kept 1 ≡ false
a_grey_object_is_not_black = refl

pub a_scanned_object_is_black : is_black (1 ∷ 2 ∷ []) (blackened some_kept 1) 1 ≡ true
a_scanned_object_is_black = refl

pub keeping_makes_grey : is_to_scan (1 ∷ 2 ∷ []) (keeping some_kept 2) 2 ≡ true
keeping_makes_grey = refl

-- if only an object that isn't weak is grey, the collection isn't drained
pub a_grey_strong_object : AreColoursDrained (λ id. false) some_kept → ⊥
a_grey_strong_object drained = let h : false ≡ true = drained 1 refl in absurd cc
