-- `pool`: a pool that is made stands for that of the model.
use Rattle.std.proofs.Common.{◌≡◌, ◌∙◌, ℕ, ◌+◌, false, refl, sym, ap, subst, List, [], ◌∷◌, ◌++◌, length, map, Option, Some, None, Ok, Err, IsTrue, inl, inr, arith}
use Rattle.std.proofs.lemmas.Bool.{cases_order}
use Rattle.std.proofs.lemmas.List.{length-append, map-append}
use Rattle.std.proofs.lemmas.Option.{none-some, same_Some, slice_get-map}
use Rattle.std.specs.Prelude.{Result, nat_le, not, slice_get, option_map}
use Rattle.std.specs.Option.{option_map_or}
use Rattle.mps_base.specs.declared.names.Kind.{Kind}
use Rattle.mps_base.specs.declared.names.Name.{Name}
use Rattle.mps_base.specs.declared.refusal.Refusal.{Refusal}
use Rattle.mps_base.specs.declared.refusal.Refusal.TheVariants as refusal
use Rattle.mps_format.specs.Layout.{Layout}
use Rattle.mps_trace_laws.specs.Image.Memory.{memory_in, pool_layout}
use Rattle.mps_laws.proofs.Lookups.{entry_is_there, length-with_last, slice_get-after_last, slice_get-at_last, slice_get-kept, slice_get-last, there_is}
use Rattle.mps_laws.proofs.Sound.PoolsThere.{IsPointPoolThere, all-at, IsPoolThere}
use Rattle.mps_laws.proofs.Same.{Alike, Same, fits, same_next, same_refuse_when, same_then}
use Rattle.mps_model.specs.declared.call.Call.{Call}
use Rattle.mps_model.specs.declared.call.Call.TheVariants as call
use Rattle.mps_model.specs.Checked as models
use Rattle.mps_model.specs.Checked.{Checked, Numbered, ◌>>=◌, ◌>>◌, done, refuse_when}
use Rattle.mps_model.specs.Graph as graph
use Rattle.mps_model.specs.Graph.{entry_at, with_last}
use Rattle.mps_model.specs.Making as model
use Rattle.mps_model.specs.Making.{frames_with, is_block_size, most_pools, refuse_at_limit}
use Rattle.mps_model.specs.Reply.{act}
use Rattle.mps_model.specs.World as world
use Rattle.mps_model.specs.World.{World, Collected, OneSize, AnySize, Frames, PoolKind, is_copying_kind}
use Rattle.mps_names.specs.State.{NamesState, Updates, thing_named}
use Rattle.mps_names.specs.declared.names.Thing.TheVariants as thing
use Rattle.mps_trace.specs.GenState.{ChainsState}
use Rattle.mps_pools.specs.Pools.{tails_on, with_pool_on}
use Rattle.mps_heap_spec.specs.Finding.{chain_named}
use Rattle.mps_heap_spec.specs.Making.{IsMaking, MakesPool, MakesPoolOn, check_pool, check_pool_on_chain, check_pool_of_size, refuse_taken, without_answer}
use Rattle.mps_heap_spec.specs.declared.found.Kept.{Kept}
use Rattle.mps_heap_spec.specs.State.{HeapState}
use Rattle.mps_format.specs.Pools.{size_of_pool}
use Rattle.mps_format.specs.declared.pool.Pool.{Pool}
use Rattle.mps_format.specs.declared.pool.Pool.TheVariants as pool
use Rattle.mps_refinement.proofs.Worlds.CollectorKept.{KeepsAll, one_more_kept}
use Rattle.mps_snc.specs.State.{Pools}
use Rattle.mps_refinement.specs.Framed.{AreFramed}
use Rattle.mps_refinement.specs.Making.{IsRightMaking, IsRightMakingIn, MeansLayout}
use Rattle.mps_refinement.specs.StandsFor.{AreChains, AreParts, ArePools, IsPool, Past, setting_at, collector_of}
use Rattle.mps_refinement.proofs.Calls.MakingSteps.{MakesAlike, checks_then, first_passed, free_name, making_is_right, making_is_right_in, taken_same}
use Rattle.mps_refinement.proofs.Calls.DroppingSteps.{ours_ok}
use Rattle.mps_refinement.proofs.Lookups.Lookups.{IsChainFound, chain_same}
use Rattle.mps_refinement.proofs.Parts.Named.{ThingsStay, named_made}
use Rattle.mps_refinement.proofs.Parts.Numbering.{fitting_there}
use Rattle.mps_refinement.proofs.Parts.FramedParts.{framed_beside}
use Rattle.mps_refinement.proofs.Parts.PartsMade.{pools_changed, state_of_pools}
use Rattle.mps_refinement.proofs.Parts.PoolImage.{other_formats_stand}
use Rattle.mps_refinement.proofs.Worlds.Steps.{HasParts}
use Rattle.mps_trace_laws.specs.Image.Image.{black_cells}
use Rattle.mps_laws.proofs.LeftByActs.{owners}
use Rattle.mps_refinement.proofs.Worlds.Known.{IsKnown}
use Rattle.mps_refinement.proofs.Summaries.OtherPools.{pool_made_summed}
use Rattle.mps_refinement.proofs.Parts.TransformParts.{transforms_still}

-- a pool without frames changes none
unframed : (kind : PoolKind) (frames : List graph.PoolFrames) (number : ℕ) → world.has_frames kind ≡ false
    → frames_with frames kind number ≡ frames
unframed (Collected kind) frames number plain = refl
unframed (OneSize words) frames number plain = refl
unframed AnySize frames number plain = refl
unframed Frames frames number plain = absurd cc

module _ {F : Type 0} (layout : F → Layout) (h : HeapState F) (name : Name) (p : Pool F) where
  module _ (w : World) (past : Past) (parts : AreParts layout past h w) (known : IsKnown past.time w) (q : world.Pool)
      (fit : IsPool layout w.formats p q) (chain : Option ℕ) (on : q.chain ≡ chain)
      (copies : (number : ℕ) → chain ≡ Some number → IsTrue (is_copying_kind q.kind)) where
    abbrev pools : List world.Pool
    pools = with_last w.pools q

    pools_fit : ArePools layout w.formats (h.pools ++ p ∷ []) pools
    pools_fit = record {
      count = length-with_last w.pools q ∙ ap (λ n. n + 1) parts.pools.count ∙ sym (length-with_last h.pools p);
      each = each;
    }
      where
        each : (number : ℕ) (x : Pool F) → slice_get (h.pools ++ p ∷ []) number ≡ Some x
            → (y : world.Pool) × (slice_get pools number ≡ Some y) × IsPool layout w.formats x y
        each number x is =
            elim (cases_order number (length h.pools)) [
              | inl at_last ↦ (
                q,
                ap (slice_get pools) (at_last ∙ sym parts.pools.count) ∙ slice_get-at_last w.pools q,
                subst (λ z. IsPool layout w.formats z q)
                    (same_Some p x (sym (ap (slice_get (h.pools ++ p ∷ [])) at_last ∙ slice_get-at_last h.pools p) ∙ is)) fit,
              )
              | inr (inl low) ↦
                  let old = parts.pools.each number x (sym (slice_get-last h.pools p number low) ∙ is) in
                  (old.0, slice_get-kept w.pools q old.0 number old.1, old.2)
              | inr (inr high) ↦ absurd (none-some x (sym (slice_get-after_last h.pools p number high) ∙ is))
            ]

    chains_fit : AreChains (with_pool_on h.chains chain) w.chains pools
    chains_fit = record {
      same =
          ap (λ (c : ChainsState). with_pool_on c chain) parts.chains.same
          ∙ ap (λ (of : List (Option ℕ)). let c : ChainsState = record { chains = w.chains; of_pool = of } in c)
          (ap (λ o. map (λ (x : world.Pool). x.chain) w.pools ++ o ∷ []) (sym on)
          ∙ sym (map-append (λ (x : world.Pool). x.chain) w.pools (q ∷ [])));
      copying = λ number n x is of.
          elim (cases_order number (length w.pools)) [
            | inl at_last ↦
                let same = same_Some q x (sym (ap (slice_get pools) at_last ∙ slice_get-at_last w.pools q) ∙ is) in
                subst (λ (y : world.Pool). IsTrue (is_copying_kind y.kind)) same
                (copies n (sym on ∙ ap (λ (y : world.Pool). y.chain) same ∙ of))
            | inr (inl low) ↦ parts.chains.copying number n x (sym (slice_get-last w.pools q number low) ∙ is) of
            | inr (inr high) ↦ absurd (none-some x (sym (slice_get-after_last w.pools q number high) ∙ is))
          ];
    }

    -- whether a collection moves the blocks of a point's pool is as it was
    copying_as_before : (n : ℕ) (x : graph.Point) → entry_at w.graph.points n ≡ Some x
        → world.is_copying_pool (record w { pools = pools }) x.pool ≡ world.is_copying_pool w x.pool
    copying_as_before n x there =
        let low = all-at (IsPointPoolThere w.pools) w.graph.points n (Some x) known.pools.of_points
        (entry_is_there w.graph.points n x there) in
        let of = there_is w.pools x.pool low in
        ap (λ o. option_map_or (λ (y : world.Pool). is_copying_kind y.kind) o false)
        (slice_get-kept w.pools q of.0 x.pool of.1 ∙ sym of.1)

    -- so is whether it moves an object
    moved_as_before : (id at : ℕ) → entry_at w.addresses id ≡ Some at
        → world.is_copying_object (record w { pools = pools }) id ≡ world.is_copying_object w id
    moved_as_before id at there =
        let o = parts.image.placed.exists id at there in
        let low = all-at (IsPoolThere w.pools) (owners w.graph) id o.0.pool known.pools.of_objects
        (slice_get-map (λ (x : graph.Object). x.pool) w.graph.objects id ∙ ap (option_map (λ (x : graph.Object). x.pool)) o.1) in
        let of = there_is w.pools o.0.pool low in
        let same : world.is_copying_pool (record w { pools = pools }) o.0.pool ≡ world.is_copying_pool w o.0.pool =
        ap (λ x. option_map_or (λ (y : world.Pool). is_copying_kind y.kind) x false)
        (slice_get-kept w.pools q of.0 o.0.pool of.1 ∙ sym of.1)
        in
        ap (λ x. option_map_or (λ (y : graph.Object). world.is_copying_pool (record w { pools = pools }) y.pool) x false) o.1
        ∙ same ∙ sym (ap (λ x. option_map_or (λ (y : graph.Object). world.is_copying_pool w y.pool) x false) o.1)

    -- so are the formats of the pools that objects have
    format_as_before : (id : ℕ) (o : graph.Object) → slice_get w.graph.objects id ≡ Some o
        → pool_layout (record w { pools = pools }) o.pool ≡ pool_layout w o.pool
    format_as_before id o there =
        let low = all-at (IsPoolThere w.pools) (owners w.graph) id o.pool known.pools.of_objects
        (slice_get-map (λ (x : graph.Object). x.pool) w.graph.objects id ∙ ap (option_map (λ (x : graph.Object). x.pool)) there) in
        let of = there_is w.pools o.pool low in
        ap (λ x. w.formats (option_map_or (λ (y : world.Pool). y.format) x 0))
        (slice_get-kept w.pools q of.0 o.pool of.1 ∙ sym of.1)

    -- where its frames are those that the model gives it
    pub pool_with_frames : (number : ℕ) (after : HeapState F) (frames : Pools) (names : NamesState) → thing_named h.names name ≡ None
        → number ≡ length h.pools → Updates h.names names name (Some (thing.Pool number))
        → after ≡ state_of_pools layout past h w parts (h.pools ++ p ∷ []) (h.sizes ++ size_of_pool p ∷ []) chain frames names
        → AreFramed frames h.roots.blocks w.graph.blocks pools (frames_with w.graph.frames q.kind (length w.pools))
        → HasParts layout past.time after (model.with_pool w name q)
    pool_with_frames number after frames names free number_is updates state framed = record {
      past = past;
      timed = refl;
      parts = subst (λ s. AreParts layout past s (model.with_pool w name q)) (sym state)
          (pools_changed layout past h w parts (h.pools ++ p ∷ []) (h.sizes ++ size_of_pool p ∷ []) chain frames names pools
          (frames_with w.graph.frames q.kind (length w.pools))
          (with_last w.graph.names (record { name = name; thing = graph.PoolThing (length w.pools) })) (record {
            pools_are = pools_fit;
            sizes_are = ap (λ sizes. sizes ++ size_of_pool p ∷ []) parts.sizes ∙ sym (map-append size_of_pool h.pools (p ∷ []));
            chains_are = chains_fit;
            points_are = fitting_there parts.points (λ n x y there is. record {
              pool = is.pool;
              rank = is.rank;
              copying = is.copying ∙ sym (copying_as_before n y there);
              memory = is.memory;
              has = is.has;
              buffer = is.buffer;
              reservation = is.reservation;
            });
            image_stands = other_formats_stand (setting_at past.time h.segs w) (pool_layout (record w { pools = pools })) (memory_in h.segs)
                w.addresses past.time.colours (black_cells past.time.condemned past.time.colours) format_as_before parts.image;
            words_summed = pool_made_summed layout past h w parts known.laid known.pools p;
            transforms_are = transforms_still past.transform_number (world.is_copying_object w)
                (world.is_copying_object (record w { pools = pools })) w.addresses w.addresses h.beside.transforms w.graph.transforms
                (world.pairs_in w.state) (λ id at paired there. (there, moved_as_before id at there)) parts.transforms;
            framed_are = framed;
            names_are = named_made past past h made w.graph.names w.graph.labels parts.names name (thing.Pool number)
                (graph.PoolThing (length w.pools))
                updates free (ap graph.PoolThing (number_is ∙ sym parts.pools.count)) (λ other there. refl) stay
                (omega (arith, number_is, longer)) (λ there. omega (arith, number_is, there)) refl refl;
          }));
    }
      where
        made : HeapState F
        made = state_of_pools layout past h w parts (h.pools ++ p ∷ []) (h.sizes ++ size_of_pool p ∷ []) chain frames names

        longer : length (h.pools ++ p ∷ []) ≡ length h.pools + 1
        longer = length-append h.pools (p ∷ [])

        stay : ThingsStay h made
        stay = record {
          pools = λ n low. omega (arith, low, longer);
          caches = omega arith;
          tables = λ k some. some;
          areas = λ k some. some;
          blocks = λ n low. low;
          points = λ k some. some;
          dependencies = λ n low. low;
          chains = λ n low. low;
          transforms = refl;
        }

    pool_parts : world.has_frames q.kind ≡ false → (number : ℕ) (after : HeapState F) → thing_named h.names name ≡ None
        → MakesPool h name p chain number after → HasParts layout past.time after (model.with_pool w name q)
    pool_parts plain number after free makes =
        pool_with_frames number after h.beside.frames after.names free makes.number_is makes.names makes.state
        (subst (AreFramed h.beside.frames h.roots.blocks w.graph.blocks pools)
        (sym (unframed q.kind w.graph.frames (length w.pools) plain))
        (framed_beside h.beside.frames h.roots.blocks w.graph.blocks w.pools w.graph.frames parts.framed q plain))

    pub limit_same : Alike (refuse_at_limit (length h.pools) most_pools) (refuse_at_limit (length w.pools) most_pools)
    limit_same =
        same_refuse_when (nat_le most_pools (length h.pools)) (nat_le most_pools (length w.pools)) (refusal.TooMany most_pools)
        (ap (nat_le most_pools) (sym parts.pools.count))

    pool_alike : world.has_frames q.kind ≡ false → (c : Call)
        → act false w w c
        ≡ (model.refuse_taken w name >> (refuse_at_limit (length w.pools) most_pools >> done (model.with_pool w name q)))
        → MakesAlike layout past h w c (check_pool h name) (MakesPool h name p chain)
    pool_alike plain c is = record {
      models = model.refuse_taken w name >> refuse_at_limit (length w.pools) most_pools;
      made = model.with_pool w name q;
      comes = is ∙ checks_then (model.refuse_taken w name) (refuse_at_limit (length w.pools) most_pools)
          (done (model.with_pool w name q));
      alike = same_next (taken_same layout past h w parts name) limit_same;
      formats = refl;
      keeps = λ key after makes. subst (λ (s : HeapState F). KeepsAll (collector_of h) (collector_of s)) (sym makes.state)
          (one_more_kept h (tails_on h.chains chain));
      has = λ number after ok makes.
          pool_parts plain number after
          (free_name h name (first_passed (refuse_taken h name) (refuse_at_limit (length h.pools) most_pools) tt ok).1) makes;
    }

    abbrev refuse_size : (words : ℕ) → Checked (Unit {0})
    refuse_size words = refuse_when (not (is_block_size words)) refusal.BadSize

    pool_of_size_alike : world.has_frames q.kind ≡ false → (words : ℕ)
        → act false w w (call.PoolMfs name words)
        ≡ (model.refuse_taken w name >> (refuse_size words
        >> (refuse_at_limit (length w.pools) most_pools >> done (model.with_pool w name q))))
        → MakesAlike layout past h w (call.PoolMfs name words) (check_pool_of_size h name words) (MakesPool h name p chain)
    pool_of_size_alike plain words is = record {
      models = model.refuse_taken w name >> (refuse_size words >> refuse_at_limit (length w.pools) most_pools);
      made = model.with_pool w name q;
      comes = is
          ∙ ap (λ x. model.refuse_taken w name >> x)
          (checks_then (refuse_size words) (refuse_at_limit (length w.pools) most_pools) (done (model.with_pool w name q)))
          ∙ checks_then (model.refuse_taken w name) (refuse_size words >> refuse_at_limit (length w.pools) most_pools)
          (done (model.with_pool w name q));
      alike = same_next (taken_same layout past h w parts name)
          (same_next (same_refuse_when (not (is_block_size words)) (not (is_block_size words)) refusal.BadSize refl) limit_same);
      formats = refl;
      keeps = λ key after makes. subst (λ (s : HeapState F). KeepsAll (collector_of h) (collector_of s)) (sym makes.state)
          (one_more_kept h (tails_on h.chains chain));
      has = λ number after ok makes.
          pool_parts plain number after
          (free_name h name (first_passed (refuse_taken h name) (refuse_size words >> refuse_at_limit (length h.pools) most_pools) tt ok).1)
          makes;
    }

-- ---- a pool on a chain

module _ {F : Type 0} (layout : F → Layout) (h : HeapState F) (name chain : Name) (kind : Kind) (format : F) (number : ℕ)
    (copies : IsTrue (is_copying_kind (Collected kind))) (w : World) (past : Past) (means : w.formats number ≡ layout format)
    (parts : AreParts layout past h w) (known : IsKnown past.time w) where
  abbrev pool_on : (chain : ℕ) → world.Pool
  pool_on chain = record { kind = Collected kind; format = number; chain = Some chain }

  abbrev model_check : Checked (Numbered (List ℕ))
  model_check =
      model.refuse_taken w name >> (models.chain_named w chain >>= (λ on. refuse_at_limit (length w.pools) most_pools >> Ok on))

  abbrev made_of : Checked (Numbered (List ℕ)) → World
  made_of (Ok on) = model.with_pool w name (pool_on on.number)
  made_of (Err why) = w

  check_same : Same (IsChainFound h w) (check_pool_on_chain h name chain) model_check
  check_same =
      same_next (taken_same layout past h w parts name)
      (same_then (chain_same layout past h w parts chain) (λ k n found.
      same_next (same_refuse_when (nat_le most_pools (length h.pools)) (nat_le most_pools (length w.pools)) (refusal.TooMany most_pools)
      (ap (nat_le most_pools) (sym parts.pools.count))) (fits found)))

  comes_of : (t : Checked (Unit {0})) (y : Checked (Numbered (List ℕ))) (limit : Checked (Unit {0}))
      → (t >> (y >>= (λ on. limit >> done (model.with_pool w name (pool_on on.number)))))
      ≡ (without_answer (t >> (y >>= (λ on. limit >> Ok on))) >> done (made_of (t >> (y >>= (λ on. limit >> Ok on)))))
  comes_of (Err why) y limit = refl
  comes_of (Ok u) (Err why) limit = refl
  comes_of (Ok u) (Ok on) (Ok v) = refl
  comes_of (Ok u) (Ok on) (Err why) = refl

  same_passed : (x : Checked (Kept ℕ)) (y : Checked (Numbered (List ℕ))) → Same (IsChainFound h w) x y
      → Alike (without_answer x) (without_answer y)
  same_passed x y (fits fit) = fits tt
  same_passed x y Rattle.mps_laws.proofs.Same.refused = Rattle.mps_laws.proofs.Same.refused

  pool_on_chain_alike : MakesAlike layout past h w (call.PoolOnChain name kind number chain)
      (without_answer (check_pool_on_chain h name chain)) (MakesPoolOn h name chain (pool.Automatic kind format))
  pool_on_chain_alike = record {
    models = without_answer model_check;
    made = made_of model_check;
    comes = comes_of (model.refuse_taken w name) (models.chain_named w chain) (refuse_at_limit (length w.pools) most_pools);
    alike = same_passed (check_pool_on_chain h name chain) model_check check_same;
    formats = formats_of model_check;
    keeps = λ key after m. subst (λ (s : HeapState F). KeepsAll (collector_of h) (collector_of s)) (sym m.makes.state)
        (one_more_kept h (tails_on h.chains (Some m.on.key)));
    has = λ key after ok m. has key after m;
  }
    where
      formats_of : (x : Checked (Numbered (List ℕ))) → (made_of x).formats ≡ w.formats
      formats_of (Ok on) = refl
      formats_of (Err why) = refl

      has : (key : ℕ) (after : HeapState F) → MakesPoolOn h name chain (pool.Automatic kind format) key after
          → HasParts layout past.time after (made_of model_check)
      has key after m =
          let y = ours_ok (IsChainFound h w) (check_pool_on_chain h name chain) model_check m.on check_same m.found in
          let free = free_name h name (first_passed (refuse_taken h name)
          (chain_named h chain >>= (λ on. refuse_at_limit (length h.pools) most_pools >> Ok on)) m.on m.found).1 in
          subst (λ x. HasParts layout past.time after (made_of x)) (sym y.1)
          (pool_parts layout h name (pool.Automatic kind format) w past parts known (pool_on y.0.number) (refl, means) (Some m.on.key)
          (ap Some y.2.number) (λ n is. copies) refl key after free m.makes)

-- ---- the calls

-- a pool on no chain is on none that there is
pub on_none : {A : Type 0} (number : ℕ) → None ≡ Some number → A
on_none number is = absurd (none-some number is)

-- in each world where this number means the format
pub pool_is_right : {F : Type 0} (layout : F → Layout) (h : HeapState F) (name : Name) (kind : Kind) (format : F) (number : ℕ)
    (result : Result ℕ Refusal) (after : HeapState F)
    → IsMaking h (check_pool h name) (MakesPool h name (pool.Automatic kind format) None) result after
    → IsRightMakingIn layout (MeansLayout number (layout format)) h (call.Pool name kind number) result after
pool_is_right layout h name kind format number result after making =
    making_is_right_in layout h (call.Pool name kind number) (check_pool h name) (MakesPool h name (pool.Automatic kind format) None)
    (MeansLayout number (layout format)) refl refl
    (λ w past means parts reached.
    pool_alike layout h name (pool.Automatic kind format) w past parts reached
    (record { kind = Collected kind; format = number; chain = None })
    (refl, means) None refl on_none refl (call.Pool name kind number) refl)
    result after making

pub pool_mfs_is_right : {F : Type 0} (layout : F → Layout) (h : HeapState F) (name : Name) (words : ℕ) (result : Result ℕ Refusal)
    (after : HeapState F) → IsMaking h (check_pool_of_size h name words) (MakesPool h name (pool.OneSize words) None) result after
    → IsRightMaking layout h (call.PoolMfs name words) result after
pool_mfs_is_right layout h name words result after making =
    making_is_right layout h (call.PoolMfs name words) (check_pool_of_size h name words) (MakesPool h name (pool.OneSize words) None) refl
    refl
    (λ w past parts reached.
    pool_of_size_alike layout h name (pool.OneSize words) w past parts reached
    (record { kind = OneSize words; format = 0; chain = None }) refl None refl on_none refl words refl)
    result after making

pub pool_mvff_is_right : {F : Type 0} (layout : F → Layout) (h : HeapState F) (name : Name) (result : Result ℕ Refusal)
    (after : HeapState F) → IsMaking h (check_pool h name) (MakesPool h name pool.AnySize None) result after
    → IsRightMaking layout h (call.PoolMvff name) result after
pool_mvff_is_right layout h name result after making =
    making_is_right layout h (call.PoolMvff name) (check_pool h name) (MakesPool h name pool.AnySize None) refl refl
    (λ w past parts reached.
    pool_alike layout h name pool.AnySize w past parts reached (record { kind = AnySize; format = 0; chain = None }) (inl refl) None refl
    on_none refl (call.PoolMvff name) refl)
    result after making

-- a copying pool on a chain
pub pool_on_chain_is_right : {F : Type 0} (layout : F → Layout) (h : HeapState F) (name : Name) (kind : Kind) (format : F) (chain : Name)
    (number : ℕ) → IsTrue (is_copying_kind (Collected kind)) → (result : Result ℕ Refusal) (after : HeapState F)
    → IsMaking h (without_answer (check_pool_on_chain h name chain)) (MakesPoolOn h name chain (pool.Automatic kind format)) result after
    → IsRightMakingIn layout (MeansLayout number (layout format)) h (call.PoolOnChain name kind number chain) result after
pool_on_chain_is_right layout h name kind format chain number copies result after making =
    making_is_right_in layout h (call.PoolOnChain name kind number chain) (without_answer (check_pool_on_chain h name chain))
    (MakesPoolOn h name chain (pool.Automatic kind format)) (MeansLayout number (layout format)) refl refl
    (λ w past means parts known. pool_on_chain_alike layout h name chain kind format number copies w past means parts known)
    result after making
