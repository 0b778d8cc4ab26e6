-- The pool of a point: automatic in both, with the same format, and with blocks without references in both or in neither.
use Rattle.std.proofs.Common.{◌≡◌, ◌∙◌, ℕ, true, false, refl, sym, ap, subst, Option, Some, None, inl, inr, arith}
use Rattle.std.proofs.lemmas.Bool.{false≢true}
use Rattle.std.proofs.lemmas.Option.{same_Some, slice_get_within}
use Rattle.std.specs.Prelude.{slice_get}
use Rattle.std.specs.Option.{option_map_or}
use Rattle.mps_format.specs.Layout.{Layout}
use Rattle.mps_laws.proofs.Lookups.{there_is}
use Rattle.mps_laws.proofs.Sound.SoundGraph.{IsSoundGraph}
use Rattle.mps_model.specs.Graph as graph
use Rattle.mps_model.specs.Graph.{entry_at}
use Rattle.mps_model.specs.World as world
use Rattle.mps_model.specs.World.{World, is_automatic_kind, is_leaf_kind, pool_at}
use Rattle.mps_heap_spec.specs.State.{HeapState}
use Rattle.mps_format.specs.Pools.{format_of_pool, is_leaf_pool}
use Rattle.mps_format.specs.declared.pool.Pool.{Pool}
use Rattle.mps_format.specs.declared.pool.Pool.TheVariants as pool
use Rattle.mps_refinement.specs.StandsFor.{AreParts, IsPool, Past}

module _ {F : Type 0} (layout : F → Layout) where
  -- an automatic pool and what it stands for
  pub record IsAutomatic (formats : ℕ → Layout) (p : Pool F) (q : world.Pool) : Type 0 where
    pub format : F
    pub has : format_of_pool p ≡ Some format
    pub means : formats q.format ≡ layout format
    pub leaf : is_leaf_pool p ≡ is_leaf_kind q.kind

  automatic_pool : (formats : ℕ → Layout) (p : Pool F) (q : world.Pool) → IsPool layout formats p q → is_automatic_kind q.kind ≡ true
      → IsAutomatic formats p q
  automatic_pool formats (pool.Automatic k format) q is automatic = record {
    format = format;
    has = refl;
    means = is.1;
    leaf = sym (ap (λ (x : world.Pool). is_leaf_kind x.kind) is.0);
  }
  automatic_pool formats (pool.OneSize words) q is automatic =
      absurd (false≢true (sym (ap (λ (x : world.Pool). is_automatic_kind x.kind) is) ∙ automatic))
  automatic_pool formats pool.AnySize q (inl is) automatic =
      absurd (false≢true (sym (ap (λ (x : world.Pool). is_automatic_kind x.kind) is) ∙ automatic))
  automatic_pool formats pool.AnySize q (inr is) automatic =
      absurd (false≢true (sym (ap (λ (x : world.Pool). is_automatic_kind x.kind) is) ∙ automatic))

  -- the pool of a point
  pub record IsPoolOf (h : HeapState F) (w : World) (number : ℕ) : Type 0 where
    pub pool : Pool F
    pub models : world.Pool
    pub kept : slice_get h.pools number ≡ Some pool
    pub has : pool_at w number ≡ Some models
    pub automatic : IsAutomatic w.formats pool models

  kind_there : (o : Option world.Pool) → option_map_or (λ (p : world.Pool). is_automatic_kind p.kind) o false ≡ true
      → (q : world.Pool) × (o ≡ Some q) × (is_automatic_kind q.kind ≡ true)
  kind_there None e = absurd (false≢true e)
  kind_there (Some q) e = (q, refl, e)

  pub pool_of : (past : Past) (h : HeapState F) (w : World) → AreParts layout past h w → IsSoundGraph w → (n : ℕ) (q : graph.Point)
      → entry_at w.graph.points n ≡ Some q → IsPoolOf h w q.pool
  pool_of past h w parts sound n q there =
      let models = kind_there (slice_get w.pools q.pool) (sound.points n q there).0 in
      let within = slice_get_within w.pools q.pool models.0 models.1 in
      let p = there_is h.pools q.pool (let count = parts.pools.count in omega (arith, within, count)) in
      let fit = parts.pools.each q.pool p.0 p.1 in
      record {
        pool = p.0;
        models = models.0;
        kept = p.1;
        has = models.1;
        automatic =
            automatic_pool w.formats p.0 models.0
            (subst (IsPool layout w.formats p.0) (same_Some fit.0 models.0 (sym fit.1 ∙ models.1)) fit.2) models.2;
      }
