-- `cache`: a cache that is made stands for that of the model.
use Rattle.std.proofs.Common.{◌≡◌, ◌∙◌, ℕ, ◌+◌, ◌-◌, ◌≤◌, Bool, false, refl, sym, ap, subst, List, [], ◌∷◌, ◌++◌, length, map, take, Option, None, Ok, Err, inl, inr, arith}
use Rattle.std.proofs.lemmas.Bool.{cases_lt, le-leb, lt-leb, lt-ltb}
use Rattle.std.proofs.lemmas.List.{length-append, length-map}
use Rattle.std.specs.Prelude.{◌&&◌, ◌||◌, nat_le, nat_lt, not}
use Rattle.mps_base.specs.declared.names.Name.{Name}
use Rattle.mps_base.specs.declared.refusal.Refusal.{Refusal}
use Rattle.mps_base.specs.declared.refusal.Refusal.TheVariants as refusal
use Rattle.mps_format.specs.Layout.{Layout}
use Rattle.mps_laws.proofs.Lookups.{map-with_last}
use Rattle.mps_laws.proofs.Same.{Same, fits, same_err, same_next, same_refuse_when, same_then}
use Rattle.mps_model.specs.declared.call.Call.TheVariants as call
use Rattle.mps_model.specs.declared.reply.Reply.TheVariants as reply
use Rattle.mps_model.specs.Answer.{Replied}
use Rattle.mps_model.specs.Answer as answers
use Rattle.mps_model.specs.Caches as models
use Rattle.mps_model.specs.Caches.{graph_with_cache, new_classes}
use Rattle.mps_model.specs.Checked as checked
use Rattle.mps_model.specs.Checked.{Checked, Numbered, ◌>>=◌, ◌>>◌, done, refuse_when, with_graph}
use Rattle.mps_model.specs.Graph as graph
use Rattle.mps_model.specs.Graph.{Cache, CacheClass, with_last}
use Rattle.mps_model.specs.Making as making
use Rattle.mps_model.specs.Making.{is_block_size, most_caches, refuse_at_limit}
use Rattle.mps_model.specs.Reply.{act}
use Rattle.mps_model.specs.World as world
use Rattle.mps_model.specs.World.{World}
use Rattle.mps_names.specs.State.{thing_named}
use Rattle.mps_names.specs.declared.names.Thing.TheVariants as thing
use Rattle.mps_neighbours.specs.Caches.{new_cache, new_class}
use Rattle.mps_sac.specs.declared.class.ClassSize.{ClassSize}
use Rattle.mps_heap_spec.specs.Caching.{IsCacheMaking, MakesCache, NewCache, NoCache, are_caches_full, are_class_sizes, check_cache, has_any_sizes, may_have_cache}
use Rattle.mps_heap_spec.specs.Finding.{pool_named}
use Rattle.mps_heap_spec.specs.Framing.{has_frames}
use Rattle.mps_heap_spec.specs.Making.{refuse_taken}
use Rattle.mps_heap_spec.specs.declared.found.Kept.{Kept}
use Rattle.mps_heap_spec.specs.State.{HeapState}
use Rattle.mps_format.specs.declared.pool.Pool.{Pool}
use Rattle.mps_format.specs.declared.pool.Pool.TheVariants as pool
use Rattle.mps_refinement.specs.Answering.{answer_to, says_ok}
use Rattle.mps_refinement.specs.Beside.{kept_cache, kept_class}
use Rattle.mps_refinement.specs.Framed.{is_framed}
use Rattle.mps_refinement.specs.RightStep.{IsRight}
use Rattle.mps_refinement.specs.StandsFor.{AreNamed, AreParts, IsPool, Past, collector_of}
use Rattle.mps_refinement.proofs.Calls.DroppingSteps.{ours_ok}
use Rattle.mps_refinement.proofs.Calls.MakingSteps.{first_passed, free_name, taken_same}
use Rattle.mps_refinement.proofs.Lookups.Lookups.{IsPoolFound, pool_same}
use Rattle.mps_refinement.proofs.Parts.FramedParts.{kind_at}
use Rattle.mps_refinement.proofs.Parts.Named.{named_made}
use Rattle.mps_refinement.proofs.Parts.PartsByKind.{parts_of_kinds, arena_of, finals_of, image_of, points_of, pools_of, roots_of}
use Rattle.mps_refinement.proofs.Worlds.CollectorKept.{KeepsAll, all_kept}
use Rattle.mps_refinement.proofs.Worlds.Steps.{HasParts, plain_is_right}

-- ---- classes

-- a class of the model, in which nothing lies
abbrev new_model_class : ClassSize → CacheClass
new_model_class c = record { words = c.words; limit = c.limit; cached = [] }

-- those of a call of the model, of whose sizes and limits the first ones count
classes_are : (classes : List ClassSize) (sizes limits : List ℕ)
    → take (length classes) sizes ≡ map (λ (c : ClassSize). c.words) classes
    → take (length classes) limits ≡ map (λ (c : ClassSize). c.limit) classes
    → new_classes (length classes) sizes limits ≡ map new_model_class classes
classes_are [] sizes limits words most = refl
classes_are (c ∷ cs) [] limits words most = absurd cc
classes_are (c ∷ cs) (n ∷ ns) [] words most = absurd cc
classes_are (c ∷ cs) (n ∷ ns) (m ∷ ms) words most =
    let size : n ≡ c.words = cc in
    let sizes : take (length cs) ns ≡ map (λ (c : ClassSize). c.words) cs = cc in
    let limit : m ≡ c.limit = cc in
    let limits : take (length cs) ms ≡ map (λ (c : ClassSize). c.limit) cs = cc in
    ap (λ k. record { words = k; limit = m; cached = [] } ∷ new_classes (length cs) ns ms) size
    ∙ ap (λ k. record { words = c.words; limit = k; cached = [] } ∷ new_classes (length cs) ns ms) limit
    ∙ ap (λ ks. new_model_class c ∷ ks) (classes_are cs ns ms sizes limits)

-- what is kept of them
kept_new : (addresses : List (Option ℕ)) (classes : List ClassSize)
    → map (kept_class addresses) (map new_model_class classes) ≡ map new_class classes
kept_new addresses [] = refl
kept_new addresses (c ∷ cs) = ap (λ ks. new_class c ∷ ks) (kept_new addresses cs)

-- those of the classes themselves
pub own_numbers : (f : ClassSize → ℕ) (classes : List ClassSize) → take (length classes) (map f classes) ≡ map f classes
own_numbers f [] = refl
own_numbers f (c ∷ cs) = ap (λ ns. f c ∷ ns) (own_numbers f cs)

-- whether their sizes rise
sizes_alike : (above : ℕ) (classes : List ClassSize)
    → are_class_sizes above classes ≡ models.are_class_sizes above (map new_model_class classes)
sizes_alike above [] = refl
sizes_alike above (c ∷ cs) = ap (λ b. nat_lt above c.words && (is_block_size c.words && b)) (sizes_alike c.words cs)

-- a cache may stand over a pool as in the model, where one has frames as the other
may_alike : {F : Type 0} (layout : F → Layout) (formats : ℕ → Layout) (p : Pool F) (q : world.Pool) (framed : Bool)
    → framed ≡ world.has_frames q.kind → IsPool layout formats p q
    → (has_any_sizes p && not framed) ≡ models.may_have_cache q.kind
may_alike layout formats (pool.Automatic kind format) q framed has is =
    sym (ap (λ (x : world.Pool). models.may_have_cache x.kind) is.0)
may_alike layout formats (pool.OneSize words) q framed has is = sym (ap (λ (x : world.Pool). models.may_have_cache x.kind) is)
may_alike layout formats pool.AnySize q framed has (inl is) =
    ap not (has ∙ ap (λ (x : world.Pool). world.has_frames x.kind) is) ∙ sym (ap (λ (x : world.Pool). models.may_have_cache x.kind) is)
may_alike layout formats pool.AnySize q framed has (inr is) =
    ap not (has ∙ ap (λ (x : world.Pool). world.has_frames x.kind) is) ∙ sym (ap (λ (x : world.Pool). models.may_have_cache x.kind) is)

-- there is room for a name where there are few caches
full_is : (counted most there : ℕ) → counted ≤ there → (nat_le most there || not (nat_lt 0 (most - counted))) ≡ nat_le most there
full_is counted most there few =
    elim (cases_lt there most) [
      | inl less ↦
          ap (λ b. b || not (nat_lt 0 (most - counted))) (lt-leb most there less)
          ∙ ap not (lt-ltb 0 (most - counted) (omega (arith, few, less))) ∙ sym (lt-leb most there less)
      | inr full ↦ ap (λ b. b || not (nat_lt 0 (most - counted))) (le-leb most there full) ∙ sym (le-leb most there full)
    ]

-- ---- rows of checks

three_checks : {A B : Type 0} (r s l : Checked (Unit {0})) (a : A) (g : A → Checked B)
    → (r >> (s >> (l >> g a))) ≡ ((r >> (s >> (l >> Ok a))) >>= g)
three_checks (Ok x) (Ok y) (Ok z) a g = refl
three_checks (Ok x) (Ok y) (Err why) a g = refl
three_checks (Ok x) (Err why) l a g = refl
three_checks (Err why) s l a g = refl

-- what comes after the checks
checks_first : {A B : Type 0} (t : Checked (Unit {0})) (y : Checked A) (r s l : A → Checked (Unit {0})) (g : A → Checked B)
    → (t >> (y >>= (λ a. r a >> (s a >> (l a >> g a))))) ≡ ((t >> (y >>= (λ a. r a >> (s a >> (l a >> Ok a))))) >>= g)
checks_first (Err why) y r s l g = refl
checks_first (Ok x) (Err why) r s l g = refl
checks_first (Ok x) (Ok a) r s l g = three_checks (r a) (s a) (l a) a g

-- ---- the cache

module _ {F : Type 0} (layout : F → Layout) (h : HeapState F) (name of : Name) (classes : List ClassSize) (sizes limits : List ℕ)
    (are : new_classes (length classes) sizes limits ≡ map new_model_class classes) (w : World) (past : Past)
    (parts : AreParts layout past h w) where
  abbrev cache_over : ℕ → Cache
  cache_over number = record { pool = number; classes = new_classes (length classes) sizes limits }

  abbrev world_made : Numbered world.Pool → World
  world_made p = with_graph w (graph_with_cache w.graph name (cache_over p.number))

  abbrev model_check : Checked (Numbered world.Pool)
  model_check =
      making.refuse_taken w name >> (checked.pool_named w of >>= (λ p.
      refuse_when (not (models.may_have_cache p.value.kind)) refusal.WrongPool
      >> (refuse_when (not (models.are_class_sizes 0 (new_classes (length classes) sizes limits))) refusal.BadSize
      >> (refuse_at_limit (length w.graph.caches) most_caches >> Ok p))))

  act_is : act false w w (call.Cache name of (length classes) sizes limits) ≡ (model_check >>= (λ p. done (world_made p)))
  act_is =
      checks_first (making.refuse_taken w name) (checked.pool_named w of)
      (λ p. refuse_when (not (models.may_have_cache p.value.kind)) refusal.WrongPool)
      (λ p. refuse_when (not (models.are_class_sizes 0 (new_classes (length classes) sizes limits))) refusal.BadSize)
      (λ p. refuse_at_limit (length w.graph.caches) most_caches) (λ p. done (world_made p))

  count_is : length h.beside.caches ≡ length w.graph.caches
  count_is = ap length parts.beside.caches ∙ length-map w.graph.caches (kept_cache w.addresses)

  full_same : are_caches_full h ≡ nat_le most_caches (length w.graph.caches)
  full_same =
      full_is h.names.counts.caches most_caches (length h.beside.caches) parts.names.cache_count ∙ ap (nat_le most_caches) count_is

  check_same : Same (IsPoolFound layout h w) (check_cache h name of classes) model_check
  check_same =
      same_next (taken_same layout past h w parts name)
      (same_then (pool_same layout past h w parts of) (λ p number found.
      same_next (same_refuse_when (not (may_have_cache h p)) (not (models.may_have_cache number.value.kind)) refusal.WrongPool
      (ap not (may_alike layout w.formats p.value number.value (has_frames h p.key)
      (parts.framed.kinds p.key ∙ ap (is_framed w.pools) (sym found.number) ∙ ap kind_at found.has) found.fit)))
      (same_next (same_refuse_when (not (are_class_sizes 0 classes))
      (not (models.are_class_sizes 0 (new_classes (length classes) sizes limits))) refusal.BadSize
      (ap not (sizes_alike 0 classes ∙ ap (models.are_class_sizes 0) (sym are))))
      (same_next (same_refuse_when (are_caches_full h) (nat_le most_caches (length w.graph.caches)) (refusal.TooMany most_caches) full_same)
      (fits found)))))

  -- ---- the parts

  module _ (p : Kept (Pool F)) (number : Numbered world.Pool) (found : IsPoolFound layout h w p number) (after : HeapState F)
      (free : thing_named h.names name ≡ None) (makes : MakesCache h name p.key classes after) where
    abbrev made : HeapState F
    made = record h {
      beside = record h.beside { caches = h.beside.caches ++ new_cache p.key classes ∷ [] };
      names = after.names;
    }

    caches_fit : h.beside.caches ++ new_cache p.key classes ∷ []
        ≡ map (kept_cache w.addresses) (with_last w.graph.caches (cache_over number.number))
    caches_fit =
        ap (λ qs. qs ++ new_cache p.key classes ∷ []) parts.beside.caches
        ∙ ap (λ n. with_last (map (kept_cache w.addresses) w.graph.caches) (new_cache n classes)) (sym found.number)
        ∙ ap (λ ks. with_last (map (kept_cache w.addresses) w.graph.caches) (record { pool = number.number; classes = ks }))
        (sym (ap (map (kept_class w.addresses)) are ∙ kept_new w.addresses classes))
        ∙ sym (map-with_last (kept_cache w.addresses) w.graph.caches (cache_over number.number))

    longer : length (h.beside.caches ++ new_cache p.key classes ∷ []) ≡ length h.beside.caches + 1
    longer = length-append h.beside.caches (new_cache p.key classes ∷ [])

    names_fit : AreNamed past made
        (with_last w.graph.names (record { name = name; thing = graph.CacheThing (length w.graph.caches) })) w.graph.labels
    names_fit =
        named_made past past h made w.graph.names w.graph.labels parts.names name (thing.Cache (length h.beside.caches))
        (graph.CacheThing (length w.graph.caches)) makes.names free (ap graph.CacheThing count_is) (λ other there. refl) (record {
          pools = λ n low. low;
          caches = omega (arith, longer);
          tables = λ key some. some;
          areas = λ key some. some;
          blocks = λ n low. low;
          points = λ key some. some;
          dependencies = λ n low. low;
          chains = λ n low. low;
          transforms = refl;
        }) (omega (arith, longer)) (λ there. omega (arith, there)) refl refl

    cache_parts : HasParts layout past.time after (world_made number)
    cache_parts = record {
      past = past;
      timed = refl;
      parts = subst (λ s. AreParts layout past s (world_made number)) (sym makes.state)
          (parts_of_kinds (arena_of parts) (image_of parts) (roots_of parts) (points_of parts) (finals_of parts) parts.dependencies
          (pools_of parts) names_fit (
            parts.flips,
            parts.point_flips,
            parts.state,
            record {
              dependents = parts.beside.dependents;
              caches = caches_fit;
            },
            parts.transforms,
            parts.framed,
          ));
    }

module _ {F : Type 0} (layout : F → Layout) (h : HeapState F) (name of : Name) (classes : List ClassSize) (sizes limits : List ℕ)
    (words : take (length classes) sizes ≡ map (λ (c : ClassSize). c.words) classes)
    (most : take (length classes) limits ≡ map (λ (c : ClassSize). c.limit) classes) where
  are : new_classes (length classes) sizes limits ≡ map new_model_class classes
  are = classes_are classes sizes limits words most

  no_cache : (why : Refusal) → check_cache h name of classes ≡ Err why
      → IsRight layout h (call.Cache name of (length classes) sizes limits) [] (answers.refused why) h
  no_cache why e = λ w line st.
      plain_is_right layout w line (call.Cache name of (length classes) sizes limits) (answers.refused why) (Err why) h h refl refl st
      (all_kept h)
      (act_is layout h name of classes sizes limits are w st.past st.parts
      ∙ ap (λ x. x >>= (λ p. done (world_made layout h name of classes sizes limits are w st.past st.parts p)))
      (same_err (IsPoolFound layout h w) (check_cache h name of classes)
      (model_check layout h name of classes sizes limits are w st.past st.parts) why
      (check_same layout h name of classes sizes limits are w st.past st.parts) e)) refl refl
      (record { past = st.past; timed = refl; parts = st.parts })

  new_cache_made : (p : Kept (Pool F)) (after : HeapState F) → check_cache h name of classes ≡ Ok p → MakesCache h name p.key classes after
      → IsRight layout h (call.Cache name of (length classes) sizes limits) [] (Replied reply.Ok) after
  new_cache_made p after passed makes = λ w line st.
      let y = ours_ok (IsPoolFound layout h w) (check_cache h name of classes)
      (model_check layout h name of classes sizes limits are w st.past st.parts) p
      (check_same layout h name of classes sizes limits are w st.past st.parts) passed in
      let free = free_name h name (first_passed (refuse_taken h name)
      (pool_named h of >>= (λ (q : Kept (Pool F)). refuse_when (not (may_have_cache h q)) refusal.WrongPool
      >> (refuse_when (not (are_class_sizes 0 classes)) refusal.BadSize
      >> (refuse_when (are_caches_full h) (refusal.TooMany most_caches) >> Ok q)))) p passed).1 in
      plain_is_right layout w line (call.Cache name of (length classes) sizes limits) (Replied reply.Ok)
      (done (world_made layout h name of classes sizes limits are w st.past st.parts y.0)) h after refl refl st
      (subst (λ (s : HeapState F). KeepsAll (collector_of h) (collector_of s)) (sym makes.state) (all_kept h))
      (act_is layout h name of classes sizes limits are w st.past st.parts
      ∙ ap (λ x. x >>= (λ q. done (world_made layout h name of classes sizes limits are w st.past st.parts q))) y.1) refl refl
      (cache_parts layout h name of classes sizes limits are w st.past st.parts p y.0 y.2 after free makes)

  -- of the sizes and limits of the call the first ones are those of the classes
  pub cache_is_right : (result : Checked (Unit {0})) (after : HeapState F) → IsCacheMaking h name of classes result after
      → IsRight layout h (call.Cache name of (length classes) sizes limits) [] (answer_to says_ok result) after
  cache_is_right result after making = of_making making
    where
      of_making : {r : Checked (Unit {0})} {s : HeapState F} → IsCacheMaking h name of classes r s
          → IsRight layout h (call.Cache name of (length classes) sizes limits) [] (answer_to says_ok r) s
      of_making (NoCache {why = why} e) = no_cache why e
      of_making (NewCache {after = s} {of = p} e makes) = new_cache_made p s e makes
