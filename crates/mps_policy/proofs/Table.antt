-- The table of what the generations of each chain hold, of the pools passed so far.
use Rattle.std.proofs.Common.{ℕ, zero, suc, ◌+◌, ◌<◌, ◌≤◌, ◌≡◌, ◌≢◌, ◌∙◌, true, false, Option, Some, None, List, [], ◌∷◌, length, get_or, slice_get, slice_set, eqb, map, replicate, refl, sym, ap, inl, inr, arith}
use Rattle.std.proofs.lemmas.Bool.{cases_eq, eq-eqb, ne_eqb}
use Rattle.std.proofs.lemmas.List.{get_or-set_same, get_or-set_other, get_or-replicate, length-replicate, length-set}
use Rattle.std.specs.Option.{option_map_or, option_and_then}
use Rattle.mps_base.specs.Run.{total}
use Rattle.mps_base.specs.Segment.{Segment, grains_of_segment}
use Rattle.mps_gen.specs.State.{ChainsState, chain_of, is_on_chain, max_chains, max_generations}
use Rattle.mps_gen.specs.Inside.{IsSoundChains}
use Rattle.mps_gen.proofs.Sound.{chain_is_known}
use Rattle.mps_seg.specs.Counting.{grains_held_by}
use Rattle.mps_policy.specs.Due.{held_by_generation}
use Rattle.mps_policy.proofs.Pooled.{held_below, held_of_none, held_of_one_more, held_of_another, held_of_all, all_where-le, is_below}

-- the chain of a pool is in the list of all
get_chain : (os : List (Option ℕ)) (pool chain : ℕ) → option_and_then (λ (o : Option ℕ). o) (slice_get os pool) ≡ Some chain
    → get_or os pool None ≡ Some chain
get_chain [] pool chain is = is
get_chain (o ∷ os) zero chain is = is
get_chain (o ∷ os) (suc n) chain is = get_chain os n chain is

module _ (c : ChainsState) (ss : List Segment) where
  -- a row for each chain, of a number for each generation: what it holds of the first n pools
  pub record HasHeld (n : ℕ) (held : List (List ℕ)) : Type 0 where
    pub size : length held ≡ max_chains
    pub rows : (chain : ℕ) → chain < max_chains → length (get_or held chain []) ≡ max_generations
    pub sums : (chain generation : ℕ) → chain < max_chains → generation < max_generations
        → get_or (get_or held chain []) generation 0 ≡ held_below c chain generation n ss

  pub nothing_held : HasHeld 0 (replicate max_chains (replicate max_generations 0))
  nothing_held = record {
    size = length-replicate max_chains row;
    rows = λ chain within. ap (λ (r : List ℕ). length r) (is chain within) ∙ length-replicate {A = ℕ} max_generations 0;
    sums = λ chain generation within young.
        ap (λ (r : List ℕ). get_or r generation 0) (is chain within) ∙ get_or-replicate max_generations generation 0 0 young
        ∙ sym (held_of_none c chain generation ss);
  }
    where
      row : List ℕ
      row = replicate max_generations 0

      is : (chain : ℕ) → chain < max_chains → get_or (replicate max_chains row) chain [] ≡ row
      is chain within = get_or-replicate max_chains chain row [] within

  module _ (n chain : ℕ) (held : List (List ℕ)) (has : HasHeld n held) (on : chain_of c n ≡ Some chain) where
    pub chain_within : IsSoundChains c.chains c.of_pool → length c.chains ≤ max_chains → n < length c.of_pool → chain < max_chains
    chain_within sound few known =
        omega (arith, chain_is_known c.chains c.of_pool n chain sound known (get_chain c.of_pool n chain on), few)

    is_on : is_on_chain c chain n ≡ true
    is_on = ap (λ (o : Option ℕ). option_map_or (λ k. eqb k chain) o false) on ∙ eq-eqb chain chain refl

    is_on_no_other : (other : ℕ) → other ≢ chain → is_on_chain c other n ≡ false
    is_on_no_other other apart =
        ap (λ (o : Option ℕ). option_map_or (λ k. eqb k other) o false) on ∙ ne_eqb chain other (λ e. apart (sym e))

    -- with the grains of the pool a generation holds no more than is held in all
    pub sum_fits : chain < max_chains → (generation : ℕ) → generation < max_generations
        → get_or (get_or held chain []) generation 0 + grains_held_by n generation ss ≤ total (map grains_of_segment ss)
    sum_fits within generation young =
        omega (
          arith,
          has.sums chain generation within young,
          held_of_one_more c chain generation n is_on ss,
          all_where-le (is_below c chain generation (n + 1)) ss,
        )

    pub one_pool_held : chain < max_chains → (row : List ℕ) → length row ≡ max_generations
        → ((generation : ℕ) → generation < max_generations
        → get_or row generation 0 ≡ get_or (get_or held chain []) generation 0 + grains_held_by n generation ss)
        → HasHeld (n + 1) (slice_set held chain row)
    one_pool_held within row size added = record {
      size = length-set held chain row ∙ has.size;
      rows = λ k known.
          elim (cases_eq k chain) [
            | inl here ↦ ap (λ (r : List ℕ). length r) (own k here) ∙ size
            | inr other ↦ ap (λ (r : List ℕ). length r) (get_or-set_other held chain k row [] other) ∙ has.rows k known
          ];
      sums = λ k generation known young.
          elim (cases_eq k chain) [
            | inl here ↦
                ap (λ (r : List ℕ). get_or r generation 0) (own k here) ∙ added generation young
                ∙ ap (λ (v : ℕ). v + grains_held_by n generation ss) (has.sums chain generation within young)
                ∙ sym (held_of_one_more c chain generation n is_on ss)
                ∙ sym (ap (λ (j : ℕ). held_below c j generation (n + 1) ss) here)
            | inr other ↦
                ap (λ (r : List ℕ). get_or r generation 0) (get_or-set_other held chain k row [] other)
                ∙ has.sums k generation known young ∙ sym (held_of_another c k generation n (is_on_no_other k other) ss)
          ];
    }
      where
        own : (k : ℕ) → k ≡ chain → get_or (slice_set held chain row) k [] ≡ row
        own k here =
            ap (λ (j : ℕ). get_or (slice_set held chain row) j []) here
            ∙ get_or-set_same held chain row [] (omega (arith, within, has.size))

  -- a pool on no chain adds nothing
  pub no_pool_held : (n : ℕ) (held : List (List ℕ)) → HasHeld n held → chain_of c n ≡ None → HasHeld (n + 1) held
  no_pool_held n held has off = record {
    size = has.size;
    rows = has.rows;
    sums = λ k generation known young.
        has.sums k generation known young
        ∙ sym (held_of_another c k generation n (ap (λ (o : Option ℕ). option_map_or (λ on. eqb on k) o false) off) ss);
  }

  pub all_pools_held : (n : ℕ) (held : List (List ℕ)) → n ≡ length c.of_pool → HasHeld n held
      → (chain generation : ℕ) → chain < max_chains → generation < max_generations
      → get_or (get_or held chain []) generation 0 ≡ held_by_generation c ss chain generation
  all_pools_held n held all has chain generation within young =
      has.sums chain generation within young ∙ ap (λ (m : ℕ). held_below c chain generation m ss) all
      ∙ held_of_all c chain generation ss
