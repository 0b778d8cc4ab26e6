-- Chains stay sound when one more is made, and when a pool is.
use Rattle.std.proofs.Common.{ℕ, ◌<◌, ◌≡◌, inl, inr, List, [], ◌∷◌, ◌++◌, length, map, get_or, slice_get, Contains, refl, sym, ap, ◌∙◌, subst, arith}
use Rattle.std.specs.Prelude.{Option, Some, None}
use Rattle.std.specs.Option.{ForSome}
use Rattle.std.proofs.lemmas.Grind.{common_steps}
use Rattle.std.proofs.lemmas.List.{length-append, get_or-map}
use Rattle.std.proofs.lemmas.Option.{slice_get-get_or}
use Rattle.std.proofs.lemmas.List.Elements.{Contains-get_or}
use Rattle.std.proofs.lemmas.List.Elements.{All-push, Contains-append_cases}
use Rattle.std.specs.Option.{option_map, option_and_then}
use Rattle.mps_gen.specs.State.{ChainsState, generations_of}
use Rattle.mps_gen.specs.Inside.{IsChain, IsSoundChains}

pub sound_with_chain : (chains : List (List ℕ)) (of_pool : List (Option ℕ)) (capacities : List ℕ) → IsSoundChains chains of_pool
    → IsChain capacities → IsSoundChains (chains ++ capacities ∷ []) of_pool
sound_with_chain chains of_pool capacities sound is = record {
  each = All-push IsChain chains capacities sound.each is;
  known = λ chain there. omega (arith, sound.known chain there, length-append chains (capacities ∷ []));
}

last_is : (pool : Option ℕ) (chain : ℕ) → Contains (pool ∷ []) (Some chain) → pool ≡ Some chain
last_is pool chain there = grind (arith, common_steps, there)

pub sound_with_pool : (chains : List (List ℕ)) (of_pool : List (Option ℕ)) (pool : Option ℕ) → IsSoundChains chains of_pool
    → ForSome pool (λ chain. chain < length chains) → IsSoundChains chains (of_pool ++ pool ∷ [])
sound_with_pool chains of_pool pool sound known = record {
  each = sound.each;
  known = λ chain there.
      elim (Contains-append_cases of_pool (pool ∷ []) (Some chain) there) [
        | inl before ↦ sound.known chain before
        | inr last ↦
            let P : Option ℕ → Type 0 = λ o. ForSome o (λ n. n < length chains) in
            (subst P (last_is pool chain last) known) chain refl
      ];
}

-- the chain of a pool is one that there is
pub chain_is_known : (chains : List (List ℕ)) (of_pool : List (Option ℕ)) (pool chain : ℕ) → IsSoundChains chains of_pool
    → pool < length of_pool → get_or of_pool pool None ≡ Some chain → chain < length chains
chain_is_known chains of_pool pool chain sound within is =
    let P : Option ℕ → Type 0 = λ o. Contains of_pool o in
    sound.known chain (subst P is (Contains-get_or of_pool pool None within))

-- how many generations the chain of a pool has
pub generations_of_chain : (c : ChainsState) (pool chain : ℕ) → IsSoundChains c.chains c.of_pool
    → pool < length c.of_pool → get_or c.of_pool pool None ≡ Some chain
    → generations_of c pool ≡ Some (length (get_or c.chains chain []))
generations_of_chain c pool chain sound within is =
    let known = chain_is_known c.chains c.of_pool pool chain sound within is in
    let there : slice_get c.of_pool pool ≡ Some (Some chain) =
    slice_get-get_or c.of_pool pool None within ∙ ap (λ (o : Option ℕ). Some o) is
    in
    ap (λ (o : Option (Option ℕ)). option_map length (option_and_then (slice_get c.chains) (option_and_then (λ n. n) o))) there
    ∙ ap (λ (o : Option (List ℕ)). option_map length o) (slice_get-get_or c.chains chain [] known)

-- an item of a list that is seen through a map
pub seen_at : {A : Type 0} (f : A → List ℕ) (xs : List A) (i : ℕ) (x : A) → i < length xs → x ≡ get_or xs i x → get_or (map f xs) i [] ≡ f x
seen_at f xs i x within is = get_or-map f xs i x [] within ∙ ap f (sym is)

pub some_generation : (chains : List (List ℕ)) (of_pool : List (Option ℕ)) (chain : ℕ) → IsSoundChains chains of_pool
    → chain < length chains
    → IsChain (get_or chains chain [])
some_generation chains of_pool chain sound within = sound.each chain [] within
