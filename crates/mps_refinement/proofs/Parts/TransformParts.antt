-- Transforms of a heap still represent those of a world, where objects and their addresses changed, and where no transform has a pair.
use Rattle.std.proofs.Common.{◌≡◌, ◌∙◌, ℕ, zero, suc, Bool, true, false, true≢false, refl, sym, subst, List, [], ◌∷◌, Option, Some, arith}
use Rattle.std.proofs.lemmas.Bool.{false≢true}
use Rattle.std.specs.Prelude.{replicate, slice_index_or}
use Rattle.std.specs.List.{flat_map}
use Rattle.mps_base.specs.Address.{Address, Id}
use Rattle.mps_model.specs.Graph.{contains, entry_at}
use Rattle.mps_model.specs.World.{ArenaState, Clamped, Parked, TransformPair, Unclamped, ids_of_pair, is_parked_state, pairs_in}
use Rattle.mps_neighbours.specs.Transforms.{TransformsState, emptied, max_transforms, no_transforms}
use Rattle.mps_xform.specs.declared.transforms.Pair.{Pair}
use Rattle.mps_refinement.specs.Transforms.{ArePairs, AreTransforms}

-- the objects in these pairs are where they were, and a collection moves them if it did
abbrev pub KeepsPaired : (moves moves_then : Id → Bool) (addresses addresses_then : List (Option Address)) → List TransformPair → Type 0
KeepsPaired moves moves_then addresses addresses_then pairs =
    (id : Id) (at : Address) → contains (flat_map ids_of_pair pairs) id ≡ true → entry_at addresses id ≡ Some at
    → (entry_at addresses_then id ≡ Some at) × (moves_then id ≡ moves id)

module _ (number : ℕ → ℕ) (moves moves_then : Id → Bool) (addresses addresses_then : List (Option Address)) where
  abbrev Keeps : List TransformPair → Type 0
  Keeps = KeepsPaired moves moves_then addresses addresses_then

  pub pairs_still : (live : List Bool) (qs : List Pair) (ps : List TransformPair) → Keeps ps → ArePairs number moves addresses live qs ps
      → ArePairs number moves_then addresses_then live qs ps
  pairs_still live [] [] keeps are = tt
  pairs_still live [] (p ∷ ps) keeps are = absurd are
  pairs_still live (q ∷ qs) [] keeps are = absurd are
  pairs_still live (q ∷ qs) (p ∷ ps) keeps are =
      let old = keeps p.old q.old.0 (first p.old p.new (flat_map ids_of_pair ps)) are.0.old in
      let new = keeps p.new q.new.0 (second p.old p.new (flat_map ids_of_pair ps)) are.0.new in (
        record {
          there = are.0.there;
          transform = are.0.transform;
          old = old.0;
          new = new.0;
          inside = are.0.inside ∙ sym old.1;
        },
        pairs_still live qs ps
            (λ id at paired there. keeps id at (later p.old p.new (flat_map ids_of_pair ps) id paired) there) are.1,
      )
    where
      first : (a b : ℕ) (ids : List ℕ) → contains (a ∷ b ∷ ids) a ≡ true
      first a b ids = grind arith

      second : (a b : ℕ) (ids : List ℕ) → contains (a ∷ b ∷ ids) b ≡ true
      second a b ids = grind arith

      later : (a b : ℕ) (ids : List ℕ) (id : ℕ) → contains ids id ≡ true → contains (a ∷ b ∷ ids) id ≡ true
      later a b ids id there = grind arith

  pub transforms_still : (t : TransformsState) (transforms : List Bool) (pairs : List TransformPair) → Keeps pairs
      → AreTransforms number moves addresses t transforms pairs → AreTransforms number moves_then addresses_then t transforms pairs
  transforms_still t transforms pairs keeps are = record {
    sixteen = are.sixteen;
    there = are.there;
    apart = are.apart;
    counted = are.counted;
    pairs_are = pairs_still t.live t.pairs pairs keeps are.pairs_are;
  }

  -- no transform has a pair, wherever objects are then
  pub transforms_emptied : (t : TransformsState) (transforms : List Bool) (pairs pairs_then : List TransformPair) → pairs_then ≡ []
      → AreTransforms number moves addresses t transforms pairs
      → AreTransforms number moves_then addresses_then (emptied t) transforms pairs_then
  transforms_emptied t transforms pairs pairs_then none are = record {
    sixteen = are.sixteen;
    there = are.there;
    apart = are.apart;
    counted = are.counted;
    pairs_are = subst (ArePairs number moves_then addresses_then t.live []) (sym none) tt;
  }

-- an arena that isn't parked has no pairs
pub pairs_unparked : (s : ArenaState) → is_parked_state s ≡ false → pairs_in s ≡ []
pairs_unparked Unclamped h = refl
pairs_unparked Clamped h = refl
pairs_unparked (Parked pairs) h = absurd (true≢false h)

-- where there are no pairs, there are none to keep
pub none_paired : (moves moves_then : Id → Bool) (addresses addresses_then : List (Option Address)) (pairs : List TransformPair)
    → pairs ≡ [] → KeepsPaired moves moves_then addresses addresses_then pairs
none_paired moves moves_then addresses addresses_then pairs none =
    subst (KeepsPaired moves moves_then addresses addresses_then) (sym none) (λ id at paired there. absurd (false≢true paired))

-- a new heap has no transform
pub no_transforms_yet : (number : ℕ → ℕ) (moves : Id → Bool) (addresses : List (Option Address))
    → AreTransforms number moves addresses no_transforms [] []
no_transforms_yet number moves addresses = record {
  sixteen = refl;
  there = λ key live. absurd (false≢true (sym (none_live max_transforms key) ∙ live));
  apart = λ key other live. absurd (false≢true (sym (none_live max_transforms key) ∙ live));
  counted = refl;
  pairs_are = tt;
}
  where
    none_live : (n key : ℕ) → slice_index_or (replicate n false) key false ≡ false
    none_live zero key = refl
    none_live (suc n) zero = refl
    none_live (suc n) (suc key) = none_live n key
