-- What a collection knows of the pools of a heap by their numbers: their policies.
use Rattle.std.proofs.Common.{◌≡◌, ◌∙◌, ℕ, true, false, refl, sym, ap, List, map, Option, Some, None, arith, subst}
use Rattle.std.proofs.lemmas.Bool.{false≢true}
use Rattle.std.proofs.lemmas.Option.{none-some, same_Some, slice_get-map, slice_get_within}
use Rattle.std.specs.Prelude.{option_map, slice_get}
use Rattle.std.specs.Option.{option_map_or}
use Rattle.mps_format.specs.Layout.{Layout, IsLawful}
use Rattle.mps_format.specs.Pools.{policy_of_pool, is_copying_pool}
use Rattle.mps_format.specs.declared.pool.Policy.{Policy}
use Rattle.mps_format.specs.declared.pool.Pool.{Pool}
use Rattle.mps_format.specs.declared.pool.Pool.TheVariants as pool
use Rattle.mps_model.specs.World as world
use Rattle.mps_model.specs.World.{World, is_automatic_kind, pool_is}
use Rattle.mps_trace_laws.specs.Image.Memory.{pool_layout}
use Rattle.mps_refinement.specs.StandsFor.{ArePools, IsPool}
use Rattle.mps_refinement.proofs.Lookups.Found.{something}
use Rattle.mps_refinement.proofs.Lookups.PoolKinds.{copying_by_number, kind_of, kinds_alike}

-- ---- one pool

module _ {F : Type 0} where
  policy_where_automatic : (p : Pool F) → is_automatic_kind (kind_of p) ≡ true
      → (format : Policy F) × (policy_of_pool p ≡ Some format)
  policy_where_automatic (pool.Automatic kind format) automatic =
      (record { format = format; moves = is_copying_pool (pool.Automatic kind format) }, refl)
  policy_where_automatic (pool.OneSize words) automatic = absurd (false≢true automatic)
  policy_where_automatic pool.AnySize automatic = absurd (false≢true automatic)

  moves_by : (p : Pool F) (format : Policy F) → policy_of_pool p ≡ Some format → format.moves ≡ is_copying_pool p
  moves_by (pool.Automatic kind other) format e = ap (λ (x : Policy F). x.moves) (sym (same_Some _ format e))
  moves_by (pool.OneSize words) format e = absurd (none-some format e)
  moves_by pool.AnySize format e = absurd (none-some format e)

  automatic_by : (p : Pool F) (format : Policy F) → policy_of_pool p ≡ Some format → is_automatic_kind (kind_of p) ≡ true
  automatic_by (pool.Automatic kind other) format e = refl
  automatic_by (pool.OneSize words) format e = absurd (none-some format e)
  automatic_by pool.AnySize format e = absurd (none-some format e)

  layout_is : (layout : F → Layout) (formats : ℕ → Layout) (p : Pool F) (q : world.Pool) (format : Policy F) → IsPool layout formats p q
      → policy_of_pool p ≡ Some format → layout format.format ≡ formats q.format
  layout_is layout formats (pool.Automatic kind other) q format is e = ap (λ (x : Policy F). layout x.format) (sym
      (same_Some _ format e)) ∙ sym is.1
  layout_is layout formats (pool.OneSize words) q format is e = absurd (none-some format e)
  layout_is layout formats pool.AnySize q format is e = absurd (none-some format e)

  -- the policy of the pool with a number
  pub policy_at : (pools : List (Pool F)) (number : ℕ) (o : Option (Pool F)) → slice_get pools number ≡ o
      → slice_get (map policy_of_pool pools) number ≡ option_map policy_of_pool o
  policy_at pools number o e = slice_get-map policy_of_pool pools number ∙ ap (option_map policy_of_pool) e

-- ---- all pools

module _ {F : Type 0} (layout : F → Layout) (pools : List (Pool F)) (w : World) (are : ArePools layout w.formats pools w.pools) where
  -- a pool and what it stands for have one number, and so does what is no pool
  pub data AtNumber (number : ℕ) : Type 0 where
    both : (p : Pool F) (q : world.Pool) → slice_get pools number ≡ Some p → slice_get w.pools number ≡ Some q
        → IsPool layout w.formats p q → AtNumber number
    neither : slice_get pools number ≡ None → slice_get w.pools number ≡ None → AtNumber number

  pub at_number : (number : ℕ) → AtNumber number
  at_number number = of_ours (slice_get pools number) (slice_get w.pools number) refl refl
    where
      of_ours : (o : Option (Pool F)) (x : Option world.Pool) → slice_get pools number ≡ o → slice_get w.pools number ≡ x
          → AtNumber number
      of_ours (Some p) x e f = let is = are.each number p e in both p is.0 e is.1 is.2
      of_ours None None e f = neither e f
      of_ours None (Some q) e f =
          let within = slice_get_within w.pools number q f in
          let count = are.count in
          let p = something pools number (omega (arith, within, count)) in
          absurd (none-some p.0 (sym e ∙ p.1))

  -- what a collection knows of an automatic pool
  pub policy_of_automatic : (number : ℕ) → pool_is is_automatic_kind w number ≡ true
      → (policy : Policy F) × (slice_get (map policy_of_pool pools) number ≡ Some (Some policy))
  policy_of_automatic number automatic = by_cases (at_number number)
    where
      by_cases : AtNumber number → (policy : Policy F) × (slice_get (map policy_of_pool pools) number ≡ Some (Some policy))
      by_cases (both p q e f is) =
          let kind : is_automatic_kind (kind_of p) ≡ true =
          sym (kinds_alike is_automatic_kind refl layout w.formats p q is)
          ∙ sym (ap (λ (o : Option world.Pool). option_map_or (λ p. is_automatic_kind p.kind) o false) f) ∙ automatic in
          let policy = policy_where_automatic p kind in
          (policy.0, policy_at pools number (Some p) e ∙ ap Some policy.1)
      by_cases (neither e f) =
          absurd (false≢true
          (sym (ap (λ (o : Option world.Pool). option_map_or (λ p. is_automatic_kind p.kind) o false) f) ∙ automatic))

  pub layout_of_policy : (number : ℕ) (format : Policy F) → slice_get (map policy_of_pool pools) number ≡ Some (Some format)
      → layout format.format ≡ pool_layout w number
  layout_of_policy number format there = by_cases (at_number number)
    where
      by_cases : AtNumber number → layout format.format ≡ pool_layout w number
      by_cases (both p q e f is) =
          layout_is layout w.formats p q format is
          (same_Some (policy_of_pool p) (Some format) (sym (policy_at pools number (Some p) e) ∙ there))
          ∙ sym (ap (λ (o : Option world.Pool). w.formats (option_map_or (λ (x : world.Pool). x.format) o 0)) f)
      by_cases (neither e f) = absurd (none-some (Some format) (sym (policy_at pools number None e) ∙ there))

  -- it is lawful if all formats are
  pub lawful_of_policy : ((number : ℕ) → IsLawful (w.formats number)) → (number : ℕ) (format : Policy F)
      → slice_get (map policy_of_pool pools) number ≡ Some (Some format) → IsLawful (layout format.format)
  lawful_of_policy lawful number format there =
      subst IsLawful (sym (layout_of_policy number format there))
      (lawful (option_map_or (λ (x : world.Pool). x.format) (world.pool_at w number) 0))

  pub moves_of_policy : (number : ℕ) (format : Policy F) → slice_get (map policy_of_pool pools) number ≡ Some (Some format)
      → format.moves ≡ world.is_copying_pool w number
  moves_of_policy number format there = by_cases (at_number number)
    where
      by_cases : AtNumber number → format.moves ≡ world.is_copying_pool w number
      by_cases (both p q e f is) =
          moves_by p format (same_Some (policy_of_pool p) (Some format) (sym (policy_at pools number (Some p) e) ∙ there))
          ∙ copying_by_number layout w.formats p q is w number f
      by_cases (neither e f) = absurd (none-some (Some format) (sym (policy_at pools number None e) ∙ there))

  -- a pool with a policy is automatic
  pub automatic_where_listed : (number : ℕ) (format : Policy F) → slice_get (map policy_of_pool pools) number ≡ Some (Some format)
      → pool_is is_automatic_kind w number ≡ true
  automatic_where_listed number format there = by_cases (at_number number)
    where
      by_cases : AtNumber number → pool_is is_automatic_kind w number ≡ true
      by_cases (both p q e f is) =
          ap (λ (o : Option world.Pool). option_map_or (λ x. is_automatic_kind x.kind) o false) f
          ∙ kinds_alike is_automatic_kind refl layout w.formats p q is
          ∙ automatic_by p format (same_Some (policy_of_pool p) (Some format) (sym (policy_at pools number (Some p) e) ∙ there))
      by_cases (neither e f) = absurd (none-some (Some format) (sym (policy_at pools number None e) ∙ there))
