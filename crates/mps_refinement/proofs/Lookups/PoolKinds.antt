-- What the kind of a pool says, in a heap and in the model.
use Rattle.std.proofs.Common.{◌≡◌, ◌∙◌, ℕ, false, refl, sym, ap, Some, inl, inr}
use Rattle.std.specs.Prelude.{◌&&◌, ◌||◌, not, slice_get}
use Rattle.std.specs.Option.{option_map_or}
use Rattle.mps_base.specs.declared.names.Rank.{Rank}
use Rattle.mps_format.specs.Layout.{Layout}
use Rattle.mps_model.specs.Making as model
use Rattle.mps_model.specs.Making.{is_weak_rank}
use Rattle.mps_model.specs.World as world
use Rattle.mps_model.specs.World.{World, PoolKind, Collected, OneSize, AnySize, Frames, is_automatic_kind, is_copying_kind, is_weak_kind}
use Rattle.mps_heap_spec.specs.Making.{may_have_point}
use Rattle.mps_format.specs.Pools.{is_automatic_pool, is_copying_pool, is_weak_pool}
use Rattle.mps_format.specs.declared.pool.Pool.{Pool}
use Rattle.mps_format.specs.declared.pool.Pool.TheVariants as pool
use Rattle.mps_refinement.specs.StandsFor.{IsPool}

module _ {F : Type 0} where
  -- the kind of a pool in the model, where it has no frames
  abbrev pub kind_of : Pool F → PoolKind
  kind_of (pool.Automatic kind format) = Collected kind
  kind_of (pool.OneSize words) = OneSize words
  kind_of pool.AnySize = AnySize

  -- what is the same of pools of any sizes with frames and without is the same in both
  pub kinds_alike : {X : Type 0} (of : PoolKind → X) → of Frames ≡ of AnySize → (layout : F → Layout) (formats : ℕ → Layout) (p : Pool F)
      (q : world.Pool) → IsPool layout formats p q → of q.kind ≡ of (kind_of p)
  kinds_alike of same layout formats (pool.Automatic kind format) q is = ap (λ (x : world.Pool). of x.kind) is.0
  kinds_alike of same layout formats (pool.OneSize words) q is = ap (λ (x : world.Pool). of x.kind) is
  kinds_alike of same layout formats pool.AnySize q (inl is) = ap (λ (x : world.Pool). of x.kind) is
  kinds_alike of same layout formats pool.AnySize q (inr is) = ap (λ (x : world.Pool). of x.kind) is ∙ same

  automatic_alike : (p : Pool F) → is_automatic_pool p ≡ is_automatic_kind (kind_of p)
  automatic_alike (pool.Automatic kind format) = refl
  automatic_alike (pool.OneSize words) = refl
  automatic_alike pool.AnySize = refl

  weak_alike : (p : Pool F) → is_weak_pool p ≡ is_weak_kind (kind_of p)
  weak_alike (pool.Automatic kind format) = refl
  weak_alike (pool.OneSize words) = refl
  weak_alike pool.AnySize = refl

  copying_alike : (p : Pool F) → is_copying_pool p ≡ is_copying_kind (kind_of p)
  copying_alike (pool.Automatic kind format) = refl
  copying_alike (pool.OneSize words) = refl
  copying_alike pool.AnySize = refl

  module _ (layout : F → Layout) (formats : ℕ → Layout) (p : Pool F) (q : world.Pool) (is : IsPool layout formats p q) where
    -- whether it may have a point of a rank
    pub may_have_point_alike : (at_rank : Rank) → may_have_point p at_rank ≡ model.may_have_point q.kind at_rank
    may_have_point_alike at_rank =
        ap (λ b. b && (not (is_weak_rank at_rank) || is_weak_pool p)) (automatic_alike p)
        ∙ ap (λ b. is_automatic_kind (kind_of p) && (not (is_weak_rank at_rank) || b)) (weak_alike p)
        ∙ sym (kinds_alike (λ k. model.may_have_point k at_rank) refl layout formats p q is)

    -- whether a collection moves its blocks
    pub copying_by_number : (w : World) (number : ℕ) → slice_get w.pools number ≡ Some q
        → is_copying_pool p ≡ world.is_copying_pool w number
    copying_by_number w number there =
        copying_alike p ∙ sym (kinds_alike is_copying_kind refl layout formats p q is)
        ∙ sym (ap (λ o. option_map_or (λ (x : world.Pool). is_copying_kind x.kind) o false) there)

    -- whether it may have weak objects
    pub weak_by_number : (w : World) (number : ℕ) → slice_get w.pools number ≡ Some q
        → is_weak_pool p ≡ option_map_or (λ (x : world.Pool). is_weak_kind x.kind) (slice_get w.pools number) false
    weak_by_number w number there =
        weak_alike p ∙ sym (kinds_alike is_weak_kind refl layout formats p q is)
        ∙ sym (ap (λ o. option_map_or (λ (x : world.Pool). is_weak_kind x.kind) o false) there)
