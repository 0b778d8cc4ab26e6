-- The collector knows of no pools at first, and of each that is added.
use Rattle.std.proofs.Common.{ℕ, ◌≡◌, ◌<◌, ◌+◌, ◌∙◌, Option, Some, None, List, [], ◌∷◌, ◌++◌, length, map, get_or, inl, inr, refl, sym, ap, subst, arith}
use Rattle.std.proofs.lemmas.Bool.{cases_lt}
use Rattle.std.proofs.lemmas.Grind.{common_steps}
use Rattle.std.proofs.lemmas.List.{map-append, length-append, length-map, length-replicate, get_or-map, get_or_append_left}
use Rattle.std.proofs.lemmas.List.Elements.{Contains-get_or}
use Rattle.std.proofs.lemmas.Option.{slice_get-get_or, slice_get_within, get_or_from_slice_get}
use Rattle.std.proofs.Math.Seq.{get_or-append_seam}
use Rattle.std.specs.Prelude.{option_and_then, slice_get, replicate, Contains}
use Rattle.std.specs.Option.{option_map, ForSome}
use Rattle.mps_base.specs.Generation.{target_generation}
use Rattle.mps_seg.specs.Buffer.{empty_buffer}
use Rattle.mps_seg.specs.declared.buffer.Buffer.{Buffer}
use Rattle.mps_amc.specs.Amc.{AmcState, HasTail, tails_of}
use Rattle.mps_amc.specs.Amc as amc
use Rattle.mps_gen.specs.State.{ChainsState, generations_of}
use Rattle.mps_gen.specs.Inside.{IsSoundChains}
use Rattle.mps_trace.specs.Trace.{TraceState, with_pool}
use Rattle.mps_trace.specs.Trace as trace
use Rattle.mps_format.specs.declared.pool.Policy.{Policy}
use Rattle.mps_pools.specs.Pools.{PoolsState, tails_on, trace_of, with_chain, with_pool_on}
use Rattle.mps_pools.specs.Collecting.{IsTraceOf}
use Rattle.mps_format.specs.Pools.{policy_of_pool}
use Rattle.mps_format.specs.declared.pool.Pool.{Pool}
use Rattle.mps_pools.specs.Inside.{AreSoundPools, IsSoundTrace, rows_of}

-- ---- generations, and tails of them

-- an item stays if one more comes after all
item_stays : {A : Type 0} (xs : List A) (last other : A) (n : ℕ) → n < length xs → slice_get (xs ++ last ∷ []) n ≡ slice_get xs n
item_stays xs last other n within =
    let long : n < length (xs ++ last ∷ []) = subst (λ k. n < k) (sym (length-append xs (last ∷ []))) (omega (arith, within)) in
    slice_get-get_or (xs ++ last ∷ []) n other long ∙ ap Some (get_or_append_left xs (last ∷ []) other n within)
    ∙ sym (slice_get-get_or xs n other within)

-- a pool has as many generations as before if one more pool is made
generations_stay : (c : ChainsState) (chain : Option ℕ) (number : ℕ) → number < length c.of_pool
    → generations_of (with_pool_on c chain) number ≡ generations_of c number
generations_stay c chain number within =
    ap (λ (o : Option (Option ℕ)). option_map (λ (capacities : List ℕ). length capacities)
    (option_and_then (λ n. slice_get c.chains n) (option_and_then (λ (on : Option ℕ). on) o)))
    (item_stays c.of_pool chain None number within)

-- how many generations a pool has, if it is on this chain or on none
abbrev generations_on : (chains : List (List ℕ)) → (on : Option (Option ℕ)) → Option ℕ
generations_on chains on = option_map (λ (capacities : List ℕ). length capacities)
    (option_and_then (λ n. slice_get chains n) (option_and_then (λ (chain : Option ℕ). chain) on))

-- as many where one more chain is made, if its own is known
on_a_known_chain : (chains : List (List ℕ)) (capacities : List ℕ) (on : Option (Option ℕ))
    → ((n : ℕ) → on ≡ Some (Some n) → n < length chains) → generations_on (chains ++ capacities ∷ []) on ≡ generations_on chains on
on_a_known_chain chains capacities None known = refl
on_a_known_chain chains capacities (Some None) known = refl
on_a_known_chain chains capacities (Some (Some n)) known =
    ap (λ (o : Option (List ℕ)). option_map (λ (cs : List ℕ). length cs) o) (item_stays chains capacities [] n (known n refl))

-- so for each pool
generations_kept : (c : ChainsState) (capacities : List ℕ) (number : ℕ) → IsSoundChains c.chains c.of_pool
    → generations_of (with_chain c capacities) number ≡ generations_of c number
generations_kept c capacities number sound =
    on_a_known_chain c.chains capacities (slice_get c.of_pool number) (λ n is.
    let P : Option ℕ → Type 0 = λ o. Contains c.of_pool o in
    let there : Contains c.of_pool (Some n) =
    subst P (get_or_from_slice_get c.of_pool number (Some n) None is)
    (Contains-get_or c.of_pool number None (slice_get_within c.of_pool number (Some n) is)) in
    sound.known n there)

-- the last one that was made has the generations of its chain
last_on : (c : ChainsState) (chain : Option ℕ)
    → generations_of (with_pool_on c chain) (length c.of_pool) ≡ generations_on c.chains (Some chain)
last_on c chain =
    let long : length c.of_pool < length (c.of_pool ++ chain ∷ []) =
    subst (λ n. length c.of_pool < n) (sym (length-append c.of_pool (chain ∷ []))) (omega arith) in
    let at : slice_get (c.of_pool ++ chain ∷ []) (length c.of_pool) ≡ Some chain =
    slice_get-get_or (c.of_pool ++ chain ∷ []) (length c.of_pool) None long ∙ ap Some (get_or-append_seam c.of_pool chain [] None) in
    ap (generations_on c.chains) at

-- the generation to which blocks move is one of the chain
target_is_below : (generations generation : ℕ) → 0 < generations → target_generation (Some generations) generation < generations
target_is_below generations generation some = grind (arith, common_steps, some)

-- a pool has a tail for the generation to which its blocks move
target_has_a_tail : (c : ChainsState) (chain : Option ℕ) (generation : ℕ) → IsSoundChains c.chains c.of_pool
    → ForSome chain (λ number. number < length c.chains)
    → target_generation (generations_on c.chains (Some chain)) generation < tails_on c chain
target_has_a_tail c None generation sound known = omega arith
target_has_a_tail c (Some n) generation sound known =
    let within : n < length c.chains = known n refl in
    subst (λ (o : Option (List ℕ)). target_generation (option_map (λ (cs : List ℕ). length cs) o) generation
    < length (get_or c.chains n [])) (sym (slice_get-get_or c.chains n [] within))
    (target_is_below (length (get_or c.chains n [])) generation (sound.each n [] within).nonempty)

-- the tails of a pool stay if one more pool is made
tail_stays : (a : AmcState) (count number generation : ℕ) → HasTail a number generation
    → HasTail (amc.with_pool a count) number generation
tail_stays a count number generation has =
    let listed = has.pool_listed in
    let row : List Buffer = replicate count empty_buffer in
    record {
      pool_listed = subst (λ n. number < n) (sym (length-append a.tails (row ∷ []))) (omega (arith, listed));
      generation_listed =
          subst (λ (r : List Buffer). generation < length r) (sym (get_or_append_left a.tails (row ∷ []) [] number listed))
          has.generation_listed;
    }

-- and that pool has one for each of its generations
last_has_a_tail : (a : AmcState) (count generation : ℕ) → generation < count
    → HasTail (amc.with_pool a count) (length a.tails) generation
last_has_a_tail a count generation below =
    let row : List Buffer = replicate count empty_buffer in
    record {
      pool_listed = subst (λ n. length a.tails < n) (sym (length-append a.tails (row ∷ []))) (omega arith);
      generation_listed =
          subst (λ (r : List Buffer). generation < length r) (sym (get_or-append_seam a.tails row [] []))
          (subst (λ n. generation < n) (sym (length-replicate count empty_buffer)) below);
    }

-- so where each pool has as many tails
tail_in_rows : (a b : AmcState) → rows_of b ≡ rows_of a → (number generation : ℕ) → HasTail a number generation
    → HasTail b number generation
tail_in_rows a b rows number generation has =
    let listed = has.pool_listed in
    let count : length b.tails ≡ length a.tails =
    sym (length-map b.tails length) ∙ ap length rows ∙ length-map a.tails length in
    let there : number < length b.tails = omega (arith, listed, count) in
    let long : length (tails_of b number) ≡ length (tails_of a number) =
    sym (get_or-map length b.tails number [] 0 there) ∙ ap (λ (ns : List ℕ). get_or ns number 0) rows
    ∙ get_or-map length a.tails number [] 0 listed in
    record { pool_listed = there; generation_listed = subst (λ n. generation < n) (sym long) has.generation_listed }

module _ {F : Type 0} where
  -- a pool that the collector gets with its policy, on a chain or on none
  module _ (pools : List (Pool F)) (t : TraceState F) (p : Pool F) (chain : Option ℕ) (sound : IsSoundTrace pools t)
      (chains : IsSoundChains t.chains.chains t.chains.of_pool) (known : ForSome chain (λ number. number < length t.chains.chains)) where
    abbrev tails_after : AmcState
    tails_after = amc.with_pool t.amc (tails_on t.chains chain)

    abbrev HasTailAfter : (number generation : ℕ) → Type 0
    HasTailAfter number generation =
        HasTail tails_after number (target_generation (generations_of (with_pool_on t.chains chain) number) generation)

    older : (number generation : ℕ) → number < length pools → HasTailAfter number generation
    older number generation within =
        let has = sound.tails number generation within in
        let count = sound.chains in
        subst (λ (o : Option ℕ). HasTail tails_after number (target_generation o generation))
        (sym (generations_stay t.chains chain number (omega (arith, within, count))))
        (tail_stays t.amc (tails_on t.chains chain) number (target_generation (generations_of t.chains number) generation) has)

    last : (number generation : ℕ) → number ≡ length pools → HasTailAfter number generation
    last number generation is =
        let by_chains : number ≡ length t.chains.of_pool = is ∙ sym sound.chains in
        let by_rows : length t.amc.tails ≡ number = sound.rows ∙ sym is in
        subst (λ (o : Option ℕ). HasTail tails_after number (target_generation o generation))
        (sym (ap (generations_of (with_pool_on t.chains chain)) by_chains ∙ last_on t.chains chain))
        (subst (λ n. HasTail tails_after n (target_generation (generations_on t.chains.chains (Some chain)) generation)) by_rows
        (last_has_a_tail t.amc (tails_on t.chains chain) (target_generation (generations_on t.chains.chains (Some chain)) generation)
        (target_has_a_tail t.chains chain generation chains known)))

    either : (number generation : ℕ) → number < length pools + 1 → HasTailAfter number generation
    either number generation fewer = elim (cases_lt number (length pools)) [
      | inl within ↦ older number generation within
      | inr past ↦ last number generation (omega (arith, fewer, past))
    ]

    pub one_more_is_sound : IsSoundTrace (pools ++ p ∷ []) (with_pool t (policy_of_pool p) chain (tails_on t.chains chain))
    one_more_is_sound = record {
      formats = ap (λ fs. fs ++ policy_of_pool p ∷ []) sound.formats ∙ sym (map-append policy_of_pool pools (p ∷ []));
      chains = length-append t.chains.of_pool (chain ∷ []) ∙ ap (λ n. n + 1) sound.chains ∙ sym (length-append pools (p ∷ []));
      rows =
          length-append t.amc.tails (replicate (tails_on t.chains chain) empty_buffer ∷ []) ∙ ap (λ n. n + 1) sound.rows
          ∙ sym (length-append pools (p ∷ []));
      tails = λ number generation within.
          let fewer : number < length pools + 1 = subst (λ n. number < n) (length-append pools (p ∷ [])) within in
          either number generation fewer;
    }

  -- one more chain
  pub chain_is_sound : (pools : List (Pool F)) (generations : List ℕ) (t : TraceState F) (capacities : List ℕ)
      → AreSoundPools pools generations t → IsSoundChains t.chains.chains t.chains.of_pool
      → AreSoundPools pools (generations ++ length capacities ∷ []) (trace.with_chain t capacities)
  chain_is_sound pools generations t capacities sound chains = record {
    trace = record {
      formats = sound.trace.formats;
      chains = sound.trace.chains;
      rows = sound.trace.rows;
      tails = λ number generation within.
          subst (λ (o : Option ℕ). HasTail t.amc number (target_generation o generation))
          (sym (generations_kept t.chains capacities number chains)) (sound.trace.tails number generation within);
    };
    counted = ap (λ ns. ns ++ length capacities ∷ []) sound.counted ∙ sym (map-append length t.chains.chains (capacities ∷ []));
  }

  -- what others know of it
  pub is_trace : (pools : List (Pool F)) (chains : ChainsState) (t : TraceState F) → t.chains ≡ chains → IsSoundTrace pools t
      → IsTraceOf pools chains t
  is_trace pools chains t same sound =
      record { formats = sound.formats; chains_are = same; count = sound.chains; tails = sound.tails }

  -- the same, of what was found to be the pools and what the collector knows
  pub is_sound_with : (pools pools' : List (Pool F)) (generations : List ℕ) (t t' : TraceState F) (p : Pool F) (chain : Option ℕ)
      → AreSoundPools pools generations t → IsSoundChains t.chains.chains t.chains.of_pool
      → ForSome chain (λ number. number < length t.chains.chains) → pools' ≡ pools ++ p ∷ []
      → t' ≡ with_pool t (policy_of_pool p) chain (tails_on t.chains chain) → AreSoundPools pools' generations t'
  is_sound_with pools pools' generations t t' p chain sound chains known longer is =
      let P : List (Pool F) → Type 0 = λ ps. AreSoundPools ps generations t' in
      let Q : TraceState F → Type 0 = λ u. AreSoundPools (pools ++ p ∷ []) generations u in
      subst P (sym longer) (subst Q (sym is)
      (record { trace = one_more_is_sound pools t p chain sound.trace chains known; counted = sound.counted }))

  -- and of a chain
  pub is_sound_with_chain : (pools : List (Pool F)) (generations generations' : List ℕ) (t t' : TraceState F) (capacities : List ℕ)
      → AreSoundPools pools generations t → IsSoundChains t.chains.chains t.chains.of_pool
      → generations' ≡ generations ++ length capacities ∷ [] → t' ≡ trace.with_chain t capacities → AreSoundPools pools generations' t'
  is_sound_with_chain pools generations generations' t t' capacities sound chains longer is =
      let P : List ℕ → Type 0 = λ ns. AreSoundPools pools ns t' in
      let Q : TraceState F → Type 0 = λ u. AreSoundPools pools (generations ++ length capacities ∷ []) u in
      subst P (sym longer) (subst Q (sym is) (chain_is_sound pools generations t capacities sound chains))

  -- a collector that knows the same, with other words at hand for as many generations
  still_sound : (pools : List (Pool F)) (t t' : TraceState F) → IsSoundTrace pools t → t' ≡ record t { amc = t'.amc }
      → rows_of t'.amc ≡ rows_of t.amc → IsSoundTrace pools t'
  still_sound pools t t' sound is rows =
      let same : t'.chains ≡ t.chains = ap (λ (u : TraceState F). u.chains) is in
      record {
        formats = ap (λ (u : TraceState F). u.formats) is ∙ sound.formats;
        chains = ap (λ (c : ChainsState). length c.of_pool) same ∙ sound.chains;
        rows =
            sym (length-map t'.amc.tails length) ∙ ap length rows ∙ length-map t.amc.tails length ∙ sound.rows;
        tails = λ number generation within.
            let there = target_generation (generations_of t.chains number) generation in
            subst (λ (c : ChainsState). HasTail t'.amc number (target_generation (generations_of c number) generation)) (sym same)
            (tail_in_rows t.amc t'.amc rows number there (sound.tails number generation within));
      }

  pub are_still_sound : (pools : List (Pool F)) (generations : List ℕ) (t t' : TraceState F) → AreSoundPools pools generations t
      → t' ≡ record t { amc = t'.amc } → rows_of t'.amc ≡ rows_of t.amc → AreSoundPools pools generations t'
  are_still_sound pools generations t t' sound is rows = record {
    trace = still_sound pools t t' sound.trace is rows;
    counted = sound.counted ∙ ap (λ (u : TraceState F). map length u.chains.chains) (sym is);
  }

  -- what the collector knows is what these pools, its chains and its tails say
  pub trace_is : (pools : List (Pool F)) (t : TraceState F) → IsSoundTrace pools t → t ≡ trace_of pools t.chains t.amc
  trace_is pools t sound =
      ap (λ (fs : List (Option (Policy F))). let u : TraceState F = record { formats = fs; amc = t.amc; chains = t.chains } in u)
      sound.formats

  -- and so where the pools are seen in two ways
  pub trace_seen : (seen value : PoolsState F) → seen ≡ value → (t : TraceState F) → seen.chains ≡ t.chains → seen.tails ≡ t.amc
      → IsSoundTrace seen.pools t → t ≡ trace_of value.pools value.chains value.tails
  trace_seen seen value is t chains tails sound =
      trace_is seen.pools t sound ∙ ap (λ (c : ChainsState). trace_of seen.pools c t.amc) (sym chains)
      ∙ ap (trace_of seen.pools seen.chains) (sym tails) ∙ ap (λ (v : PoolsState F). trace_of v.pools v.chains v.tails) is

  pub is_trace_seen : (seen value : PoolsState F) → seen ≡ value → (t : TraceState F) → seen.chains ≡ t.chains → seen.tails ≡ t.amc
      → IsSoundTrace seen.pools t → IsTraceOf value.pools value.chains (trace_of value.pools value.chains value.tails)
  is_trace_seen seen value is t chains tails sound =
      subst (IsTraceOf value.pools value.chains) (trace_seen seen value is t chains tails sound)
      (let P : PoolsState F → Type 0 = λ v. IsTraceOf v.pools v.chains t in
      subst P is (is_trace seen.pools seen.chains t (sym chains) sound))
