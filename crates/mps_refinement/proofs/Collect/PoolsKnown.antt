-- What a collector knows of the pools of a heap, where it has their policies, and the chains are those of the world.
use Rattle.std.proofs.Common.{◌≡◌, ◌∙◌, ℕ, true, false, refl, sym, ap, List, length, map, Option, Some, None, is_some, arith}
use Rattle.std.proofs.lemmas.Bool.{false≢true}
use Rattle.std.proofs.lemmas.Option.{slice_get-map, slice_get_within, unwrap_or-slice_get}
use Rattle.std.specs.Prelude.{option_map, option_and_then, slice_get}
use Rattle.std.specs.Option.{option_map_or, unwrap_or}
use Rattle.mps_format.specs.Layout.{Layout}
use Rattle.mps_trace.specs.GenState as chains
use Rattle.mps_trace.specs.GenState.{ChainsState}
use Rattle.mps_model.specs.World as world
use Rattle.mps_model.specs.World.{World, is_automatic_kind, pool_is, generations_of}
use Rattle.mps_trace_laws.specs.Image.Memory.{pool_layout}
use Rattle.mps_trace.specs.Flip.{is_automatic, moves_blocks}
use Rattle.mps_trace.specs.Trace.{TraceState}
use Rattle.mps_trace_laws.specs.Fix.Tracing.{AreKnownPools}
use Rattle.mps_trace_laws.specs.Flip.Condemned.{AreFormatsOf, AreMovesOf}
use Rattle.mps_trace_laws.specs.Begin.Before.{ArePoolsKnown}
use Rattle.mps_pools.specs.Collecting.{IsTraceOf}
use Rattle.mps_format.specs.Pools.{policy_of_pool, is_copying_pool}
use Rattle.mps_format.specs.declared.pool.Pool.{Pool}
use Rattle.mps_format.specs.declared.pool.Pool.TheVariants as pool
use Rattle.mps_refinement.specs.StandsFor.{AreChains, ArePools}
use Rattle.mps_refinement.proofs.Lookups.PoolKinds.{copying_by_number, kind_of, kinds_alike}
use Rattle.mps_refinement.proofs.Lookups.Policies.{AtNumber, both, neither, at_number, layout_of_policy, moves_of_policy, policy_at, policy_of_automatic}
use Rattle.mps_format.specs.declared.pool.Policy.{Policy}

-- ---- one pool

module _ {F : Type 0} where
  has_format : (p : Pool F) → is_some (policy_of_pool p) ≡ is_automatic_kind (kind_of p)
  has_format (pool.Automatic kind format) = refl
  has_format (pool.OneSize words) = refl
  has_format pool.AnySize = refl

  moves_as : (p : Pool F) → option_map_or (λ (x : Policy F). x.moves) (policy_of_pool p) false ≡ is_copying_pool p
  moves_as (pool.Automatic kind format) = refl
  moves_as (pool.OneSize words) = refl
  moves_as pool.AnySize = refl

  -- the format of a pool by its number, with None for what is no pool
  format_there : (formats : List (Option (Policy F))) (number : ℕ) (o : Option (Option (Policy F))) → slice_get formats number ≡ o
      → is_automatic formats number ≡ option_map_or is_some o false
  format_there formats number None e =
      ap is_some (sym (unwrap_or-slice_get formats number None) ∙ ap (λ (x : Option (Option (Policy F))). unwrap_or x None) e)
  format_there formats number (Some format) e =
      ap is_some (sym (unwrap_or-slice_get formats number None) ∙ ap (λ (x : Option (Option (Policy F))). unwrap_or x None) e)

  -- whether its blocks move
  moves_there : (formats : List (Option (Policy F))) (number : ℕ) (o : Option (Option (Policy F))) → slice_get formats number ≡ o
      → moves_blocks formats number ≡ option_map_or (λ (f : Option (Policy F)). option_map_or (λ (p : Policy F). p.moves) f false) o false
  moves_there formats number None e =
      ap (λ (f : Option (Policy F)). option_map_or (λ (p : Policy F). p.moves) f false)
      (sym (unwrap_or-slice_get formats number None) ∙ ap (λ (x : Option (Option (Policy F))). unwrap_or x None) e)
  moves_there formats number (Some format) e =
      ap (λ (f : Option (Policy F)). option_map_or (λ (p : Policy F). p.moves) f false)
      (sym (unwrap_or-slice_get formats number None) ∙ ap (λ (x : Option (Option (Policy F))). unwrap_or x None) e)

-- the chain of a pool, if there is one
pub chain_of_it : (o : Option world.Pool)
    → option_and_then (λ (chain : Option ℕ). chain) (option_map (λ (p : world.Pool). p.chain) o)
    ≡ option_and_then (λ (p : world.Pool). p.chain) o
chain_of_it None = refl
chain_of_it (Some p) = refl

-- ---- all pools

module _ {F : Type 0} (layout : F → Layout) (pools : List (Pool F)) (kept : ChainsState) (t : TraceState F) (w : World)
    (are : ArePools layout w.formats pools w.pools) (on : AreChains kept w.chains w.pools) (of : IsTraceOf pools kept t) where
  format_at : (number : ℕ) (o : Option (Pool F)) → slice_get pools number ≡ o → slice_get t.formats number ≡ option_map policy_of_pool o
  format_at number o e =
      ap (λ (formats : List (Option (Policy F))). slice_get formats number) of.formats ∙ policy_at pools number o e

  kind_at : (number : ℕ) (q : world.Pool) → slice_get w.pools number ≡ Some q
      → pool_is is_automatic_kind w number ≡ is_automatic_kind q.kind
  kind_at number q e = ap (λ (o : Option world.Pool). option_map_or (λ p. is_automatic_kind p.kind) o false) e

  formats_known : AreFormatsOf t.formats (pool_is is_automatic_kind w)
  formats_known number = by_cases (at_number layout pools w are number)
    where
      by_cases : AtNumber layout pools w are number → is_automatic t.formats number ≡ pool_is is_automatic_kind w number
      by_cases (both p q e f is) =
          format_there t.formats number (Some (policy_of_pool p)) (format_at number (Some p) e) ∙ has_format p
          ∙ sym (kinds_alike is_automatic_kind refl layout w.formats p q is) ∙ sym (kind_at number q f)
      by_cases (neither e f) =
          format_there t.formats number None (format_at number None e)
          ∙ sym (ap (λ (o : Option world.Pool). option_map_or (λ p. is_automatic_kind p.kind) o false) f)

  moves_known : AreMovesOf t.formats (world.is_copying_pool w)
  moves_known number = by_cases (at_number layout pools w are number)
    where
      by_cases : AtNumber layout pools w are number → moves_blocks t.formats number ≡ world.is_copying_pool w number
      by_cases (both p q e f is) =
          moves_there t.formats number (Some (policy_of_pool p)) (format_at number (Some p) e) ∙ moves_as p
          ∙ copying_by_number layout w.formats p q is w number f
      by_cases (neither e f) =
          moves_there t.formats number None (format_at number None e)
          ∙ sym (ap (λ (o : Option world.Pool). option_map_or (λ p. world.is_copying_kind p.kind) o false) f)

  mover : (number : ℕ) → world.is_copying_pool w number ≡ true → (p : Pool F) × (slice_get pools number ≡ Some p)
  mover number copying = by_cases (at_number layout pools w are number)
    where
      by_cases : AtNumber layout pools w are number → (p : Pool F) × (slice_get pools number ≡ Some p)
      by_cases (both p q e f is) = (p, e)
      by_cases (neither e f) =
          absurd (false≢true (sym (ap (λ (o : Option world.Pool). option_map_or (λ p. world.is_copying_kind p.kind) o false) f) ∙ copying))

  -- each pool has as many generations as in the world
  generations_known : (number : ℕ) → chains.generations_of t.chains number ≡ generations_of w number
  generations_known number =
      ap (λ (c : ChainsState). chains.generations_of c number) (of.chains_are ∙ on.same)
      ∙ ap (λ (o : Option ℕ). option_map (λ (capacities : List ℕ). length capacities)
      (option_and_then (λ chain. slice_get w.chains chain) o))
      (ap (λ (o : Option (Option ℕ)). option_and_then (λ (chain : Option ℕ). chain) o)
      (slice_get-map (λ (p : world.Pool). p.chain) w.pools number)
      ∙ chain_of_it (world.pool_at w number))

  there : (number : ℕ) → slice_get t.formats number ≡ slice_get (map policy_of_pool pools) number
  there number = ap (λ (formats : List (Option (Policy F))). slice_get formats number) of.formats

  known_pools : AreKnownPools layout t.formats t.chains (pool_is is_automatic_kind w) (world.is_copying_pool w) (pool_layout w)
      (generations_of w)
  known_pools = record {
    listed = λ number automatic.
        let listed = policy_of_automatic layout pools w are number automatic in (listed.0, there number ∙ listed.1);
    format_is = λ number format listed. layout_of_policy layout pools w are number format (sym (there number) ∙ listed);
    moves_is = λ number format listed. moves_of_policy layout pools w are number format (sym (there number) ∙ listed);
    known = λ number copying.
        let m = mover number copying in
        let within = slice_get_within pools number m.0 m.1 in
        let long = of.count in
        omega (arith, within, long);
    generations_are = λ number copying. generations_known number;
  }

  pub pools_known : ArePoolsKnown layout t w
  pools_known = record {
    formats = formats_known;
    moves = moves_known;
    pools = known_pools;
    tails = λ number generation copying.
        let m = mover number copying in
        of.tails number generation (slice_get_within pools number m.0 m.1);
  }
