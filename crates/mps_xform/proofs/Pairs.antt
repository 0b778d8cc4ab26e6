-- Which transforms there are, and whose the pairs are.
use Rattle.std.proofs.Common.{ℕ, ◌≡◌, Bool, true, false, not, cond, List, [], ◌∷◌, get_or, set, filter, Some, refl, sym, ap, ◌∙◌, arith}
use Rattle.std.specs.List.{All, position}
use Rattle.std.proofs.lemmas.Bool.{false≢true, eqb-true, eq-eqb}
use Rattle.std.proofs.lemmas.List.{get_or-set_other}
use Rattle.std.proofs.lemmas.List.Elements.{All-head, All-tail, All-filter, filter_passes}
use Rattle.std.proofs.lemmas.List.Filters.{length-filter_both}
use Rattle.std.proofs.lemmas.List.Quantifiers.{position-Some}
use Rattle.mps_xform.specs.declared.transforms.Pair.{Pair}
use Rattle.mps_xform.specs.Inside.{AreSoundTransforms}
use Rattle.mps_xform.specs.State.{is_of}

negated : (b : Bool) → not b ≡ true → b ≡ false
negated false is = refl
negated true is = absurd (false≢true is)

fails : {A : Type 0} (b : Bool) (x y : A) → b ≡ false → cond b x y ≡ y
fails false x y is = refl
fails true x y is = absurd (false≢true (sym is))

-- a free number is that of no transform
pub free_is_not_live : (live : List Bool) (number : ℕ) → position not live ≡ Some number → get_or live number false ≡ false
free_is_not_live live number is = negated (get_or live number false) (position-Some not live number false is).1

-- so no pair is of it
pub none_of_free : (live : List Bool) (pairs : List Pair) (number : ℕ) → All (λ p. get_or live p.transform false ≡ true) pairs
    → get_or live number false ≡ false → filter (is_of number) pairs ≡ []
none_of_free live [] number all free = refl
none_of_free live (p ∷ ps) number all free =
    fails (is_of number p) (p ∷ filter (is_of number) ps) (filter (is_of number) ps) (by_test (is_of number p) refl)
    ∙ none_of_free live ps number (All-tail (λ q. get_or live q.transform false ≡ true) p ps all) free
  where
    by_test : (b : Bool) → is_of number p ≡ b → is_of number p ≡ false
    by_test false is = is
    by_test true is =
        absurd (false≢true (sym free ∙ ap (λ (n : ℕ). get_or live n false) (sym (eqb-true p.transform number is))
        ∙ All-head (λ q. get_or live q.transform false ≡ true) p ps all))

-- the other pairs stay sound when a transform goes
pub others_stay_sound : (live : List Bool) (pairs : List Pair) (capacity capacity' transform : ℕ) → AreSoundTransforms live pairs capacity
    → capacity' ≡ capacity
    → AreSoundTransforms (set live transform false) (filter (λ p. not (is_of transform p)) pairs) capacity'
others_stay_sound live pairs capacity capacity' transform sound same =
    let test : Pair → Bool = λ p. not (is_of transform p) in
    record {
      few = omega (arith, sound.few, length-filter_both test (is_of transform) (λ p. twice (is_of transform p)) pairs);
      room = omega (arith, sound.room, same);
      known = λ k d below.
          let p = get_or (filter test pairs) k d in
          get_or-set_other live transform p.transform false false
          (λ is. false≢true (sym (negated (is_of transform p) (filter_passes test pairs k d below)) ∙ eq-eqb p.transform transform is))
          ∙ All-filter test (λ q. get_or live q.transform false ≡ true) pairs sound.known k d below;
    }
  where
    twice : (b : Bool) → b ≡ not (not b)
    twice true = refl
    twice false = refl
