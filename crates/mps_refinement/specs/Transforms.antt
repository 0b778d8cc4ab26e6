-- When the transforms of a heap represent those of a world: which there are, by number, and their pairs.
use Rattle.std.specs.Prelude.{◌≡◌, ℕ, ◌+◌, Bool, true, false, Option, Some, List, [], ◌∷◌, count_by, length, slice_get, slice_index_or, refl}
use Rattle.mps_base.specs.Address.{Address, Id}
use Rattle.mps_model.specs.Graph.{entry_at}
use Rattle.mps_model.specs.World.{TransformPair}
use Rattle.mps_neighbours.specs.Transforms.{TransformsState, is_live, max_transforms, pair_in}
use Rattle.mps_xform.specs.declared.transforms.Pair.{Pair}

-- how many transforms there are
abbrev pub live_count : List Bool → ℕ
live_count live = count_by (λ is_there. is_there) live

module _ (number : ℕ → ℕ) (moves : Id → Bool) (addresses : List (Option Address)) (live : List Bool) where
  -- a pair of the heap is of a transform that there is, and has the addresses of the objects of one of the model. Its old block is
  -- looked at word by word if a collection may move it
  pub record IsPairOf (q : Pair) (p : TransformPair) : Type 0 where
    pub there : slice_index_or live q.transform false ≡ true
    pub transform : p.transform ≡ number q.transform
    pub old : entry_at addresses p.old ≡ Some q.old.0
    pub new : entry_at addresses p.new ≡ Some q.new.0
    pub inside : q.inside ≡ moves p.old

  -- so do all, in the order of adding
  abbrev pub ArePairs : List Pair → List TransformPair → Type 0
  ArePairs [] [] = Unit {0}
  ArePairs (q ∷ qs) (p ∷ ps) = IsPairOf q p × ArePairs qs ps
  ArePairs _ _ = ⊥

-- Each transform is the one of the model that has its number, no two have the same number, and there are as many. `number` gives the
-- number of a transform in the model, and `moves` says whether a collection moves an object.
pub record AreTransforms (number : ℕ → ℕ) (moves : Id → Bool) (addresses : List (Option Address)) (t : TransformsState)
    (transforms : List Bool) (pairs : List TransformPair) : Type 0 where
  pub sixteen : length t.live ≡ max_transforms
  pub there : (key : ℕ) → is_live t key ≡ true → slice_get transforms (number key) ≡ Some true
  pub apart : (key other : ℕ) → is_live t key ≡ true → is_live t other ≡ true → number key ≡ number other → key ≡ other
  pub counted : live_count t.live ≡ live_count transforms
  pub pairs_are : ArePairs number moves addresses t.live t.pairs pairs

-- ---- vectors: transform 2 of the heap is transform 5 of the model, and objects 0 and 1 are at 8 and 16

abbrev third_is_fifth : ℕ → ℕ
third_is_fifth key = key + 3

abbrev at_8_and_16 : List (Option Address)
at_8_and_16 = Some 8 ∷ Some 16 ∷ []

abbrev fifth : (old new : Id) → TransformPair
fifth old new = record { transform = 5; old = old; new = new }

pub one_pair : ArePairs third_is_fifth (λ id. false) at_8_and_16 (false ∷ false ∷ true ∷ []) (pair_in 2 8 16 ∷ []) (fifth 0 1 ∷ [])
one_pair = (record { there = refl; transform = refl; old = refl; new = refl; inside = refl }, tt)

pub a_pair_that_is_lost : ArePairs third_is_fifth (λ id. false) at_8_and_16 (false ∷ false ∷ true ∷ []) [] (fifth 0 1 ∷ []) → ⊥
a_pair_that_is_lost are = are

pub a_pair_the_other_way :
    ArePairs third_is_fifth (λ id. false) at_8_and_16 (false ∷ false ∷ true ∷ []) (pair_in 2 8 16 ∷ []) (fifth 1 0 ∷ []) → ⊥
a_pair_the_other_way are = let e : ◌≡◌ {A = Option Address} (Some 16) (Some 8) = are.0.old in absurd cc
