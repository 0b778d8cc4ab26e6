-- What a whole collection posts and leaves.
use Rattle.std.specs.Prelude.{◌≡◌, ◌⊎◌, ℕ, MatchBool, List, [], ◌∷◌, ◌++◌}
use Rattle.std.specs.List.{AllByRecursion}
use Rattle.mps_base.specs.Address.{Id}
use Rattle.mps_model.specs.Reachable.{IsReachableWith}
use Rattle.mps_model.specs.World.{World, is_live, live_automatic_ids, ids_of_area_words}

-- widely reachable, where these objects are roots too: the objects in which area words lie are roots, whatever the words are
abbrev pub IsWidelyReachableWith : World → (posted : List ℕ) → (id : Id) → Type 0
IsWidelyReachableWith w posted id = IsReachableWith w.graph (ids_of_area_words w ++ posted) id

-- the next post is this object's
abbrev pub BeginsWithPost : (id : Id) → (posts : List ℕ) → (List ℕ → Type 0) → Type 0
BeginsWithPost id [] Rest = ⊥
BeginsWithPost id (p ∷ ps) Rest = (p ≡ id) × Rest ps

-- the registrations are taken in order, and an object is posted exactly if it isn't widely reachable in the world that the
-- flip leaves, with the objects posted so far as further roots
abbrev pub ArePostsExact : World → (posted registered posts : List ℕ) → Type 0
ArePostsExact w posted [] posts = posts ≡ []
ArePostsExact w posted (id ∷ ids) posts =
    (¬ IsWidelyReachableWith w posted id × BeginsWithPost id posts (λ rest. ArePostsExact w (id ∷ posted) ids rest))
    ⊎ (IsWidelyReachableWith w posted id × ArePostsExact w posted ids posts)

-- of the registrations at the flip that left this world, these are the posts of a whole collection
abbrev pub AreWholePosts : World → (posts : List ℕ) → Type 0
AreWholePosts w posts = ArePostsExact w [] w.graph.registered posts

-- an object is live afterwards exactly if it was widely reachable, the posted objects being roots too
abbrev pub IsDecided : (flipped after : World) → (posts : List ℕ) → (id : Id) → Type 0
IsDecided flipped after posts id =
    MatchBool (is_live after id) (IsWidelyReachableWith flipped posts id) (¬ IsWidelyReachableWith flipped posts id)

-- the same of each automatic object that a flip left live
abbrev pub AreExactSurvivors : (flipped after : World) → (posts : List ℕ) → Type 0
AreExactSurvivors flipped after posts = AllByRecursion (IsDecided flipped after posts) (live_automatic_ids flipped)

-- a whole collection, between the world before its flip, the one that its flip's record left, and the one at its end: what it
-- posts and what it leaves is exact
pub record IsWhole (before flipped after : World) : Type 0 where
  pub posts : List ℕ
  pub posted : after.graph.messages ≡ before.graph.messages ++ posts
  pub exact : AreWholePosts flipped posts
  pub survivors : AreExactSurvivors flipped after posts
