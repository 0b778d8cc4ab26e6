-- From what the calls found and made to their outcomes.
use Rattle.std.proofs.Common.{◌≡◌, ◌∙◌, ℕ, ◌-◌, Bool, true, false, refl, sym, ap, subst, List, [], ◌∷◌, ◌++◌, length, get_or, Some, None, Ok, arith}
use Rattle.std.proofs.lemmas.List.{set-get_or}
use Rattle.std.proofs.lemmas.Option.{none-some, slice_get-get_or}
use Rattle.std.specs.Prelude.{if◌then◌else◌, slice_set}
use Rattle.mps_base.specs.declared.names.Name.{Name}
use Rattle.mps_format.specs.declared.pool.Pool.{Pool}
use Rattle.mps_names.specs.State.{Updates}
use Rattle.mps_names.specs.declared.names.Thing.TheVariants as thing
use Rattle.mps_sac.specs.State.{CacheState, ClassState, blocks_of_size, blocks_where, cache_at, classes_of, is_of_size, last_of, new_cache, no_cache, with_blocks_where, with_classes, without_last, without_last_of_size}
use Rattle.mps_sac.specs.declared.class.ClassSize.{ClassSize}
use Rattle.mps_heap_spec.specs.Caching.{IsCacheMaking, NewCache, check_cache}
use Rattle.mps_heap_spec.specs.State.{HeapState}
use Rattle.mps_heap_spec.specs.declared.found.Kept.{Kept}

-- a cache is made over the pool that was found
pub cache_made : {F : Type 0} {was h after : HeapState F} {name pool : Name} {classes : List ClassSize} {of : Kept (Pool F)} {number : ℕ}
    {caches : List CacheState} → was ≡ h → Ok of ≡ check_cache h name pool classes → number ≡ length was.beside.caches
    → Updates was.names after.names name (Some (thing.Cache number)) → caches ≡ was.beside.caches ++ new_cache of.key classes ∷ []
    → after ≡ record was { beside = record was.beside { caches = caches }; names = after.names }
    → IsCacheMaking h name pool classes (Ok tt) after
cache_made {F} {was} {h} {after} {name} {pool} {classes} {of} {number} {caches} same passes number_is names added state =
    subst (λ (x : HeapState F). Ok of ≡ check_cache x name pool classes → IsCacheMaking x name pool classes (Ok tt) after) same
    (λ p. NewCache (sym p) (record {
      names = subst (λ n. Updates was.names after.names name (Some (thing.Cache n))) number_is names;
      state = state ∙ ap (λ qs. record was { beside = record was.beside { caches = qs }; names = after.names }) added;
    })) passes

-- ---- nothing is taken

pub none_last : (blocks : List ℕ) → last_of blocks ≡ None → blocks ≡ []
none_last [] e = refl
none_last (b ∷ bs) e =
    absurd (none-some (get_or (b ∷ bs) (length (b ∷ bs) - 1) 0)
    (sym e ∙ slice_get-get_or (b ∷ bs) (length (b ∷ bs) - 1) 0 (omega arith)))

pub same_where : (test : ClassState → Bool) (cs : List ClassState) → blocks_where test cs ≡ [] → with_blocks_where test cs [] ≡ cs
same_where test [] none = refl
same_where test (c ∷ cs) none = of_test (test c) refl none (λ later. same_where test cs later)
  where
    of_test : (b : Bool) → test c ≡ b → (if b then c.blocks else blocks_where test cs) ≡ []
        → (blocks_where test cs ≡ [] → with_blocks_where test cs [] ≡ cs)
        → (if b then record c { blocks = [] } ∷ cs else c ∷ with_blocks_where test cs []) ≡ c ∷ cs
    of_test true is empty later = ap (λ bs. record c { blocks = bs } ∷ cs) (sym empty)
    of_test false is empty later = ap (λ ks. c ∷ ks) (later empty)

-- so the caches are what they were
pub nothing_taken : (caches : List CacheState) (number words : ℕ) → last_of (blocks_of_size (classes_of caches number) words) ≡ None
    → with_classes caches number (without_last_of_size (classes_of caches number) words) ≡ caches
nothing_taken caches number words none =
    let empty = none_last (blocks_of_size (classes_of caches number) words) none in
    let same : without_last_of_size (classes_of caches number) words ≡ classes_of caches number =
    ap (λ blocks. with_blocks_where (is_of_size words) (classes_of caches number) (without_last blocks)) empty
    ∙ same_where (is_of_size words) (classes_of caches number) empty in
    ap (λ ks. slice_set caches number (record (cache_at caches number) { classes = ks })) same ∙ set-get_or caches number no_cache
