-- Kinds of pools: no copying pool has weak references or blocks of any sizes, and a pool more changes the kind of none.
use Rattle.std.proofs.Common.{◌≡◌, ◌∙◌, ℕ, Bool, true, false, refl, sym, ap, List, Option, Some, None}
use Rattle.std.proofs.lemmas.Bool.{false≢true}
use Rattle.std.specs.Prelude.{slice_get}
use Rattle.std.specs.Option.{option_map_or}
use Rattle.mps_base.proofs.PoolKinds.{moving_is_not_weak}
use Rattle.mps_model.specs.Graph.{with_last}
use Rattle.mps_model.specs.World.{Pool, PoolKind, Collected, OneSize, AnySize, Frames, is_copying_kind, is_weak_kind, is_any_size_kind, is_automatic_kind}
use Rattle.mps_laws.proofs.Positions.LaidOut.{kind_in}
use Rattle.mps_laws.proofs.Lookups.{slice_get-kept}

pub copying_not_weak : (k : PoolKind) → is_copying_kind k ≡ true → is_weak_kind k ≡ true → ⊥
copying_not_weak (Collected kind) c w = false≢true (sym (moving_is_not_weak kind c) ∙ w)
copying_not_weak (OneSize words) c w = false≢true c
copying_not_weak AnySize c w = false≢true c
copying_not_weak Frames c w = false≢true c

copying_not_any_size : (k : PoolKind) → is_copying_kind k ≡ true → is_any_size_kind k ≡ true → ⊥
copying_not_any_size (Collected kind) c w = false≢true w
copying_not_any_size (OneSize words) c w = false≢true w
copying_not_any_size AnySize c w = false≢true c
copying_not_any_size Frames c w = false≢true c

copying_automatic : (k : PoolKind) → is_automatic_kind k ≡ false → is_copying_kind k ≡ false
copying_automatic (Collected kind) a = absurd (false≢true (sym a))
copying_automatic (OneSize words) a = refl
copying_automatic AnySize a = refl
copying_automatic Frames a = refl

module _ (test other : PoolKind → Bool) (never : (k : PoolKind) → test k ≡ true → other k ≡ true → ⊥) where
  pub not_both : (pools : List Pool) (number : ℕ) → kind_in test pools number ≡ true → kind_in other pools number ≡ true → ⊥
  not_both pools number a b = of_one (slice_get pools number) a b
    where
      of_one : (o : Option Pool) → option_map_or (λ p. test p.kind) o false ≡ true → option_map_or (λ p. other p.kind) o false ≡ true → ⊥
      of_one None a b = false≢true a
      of_one (Some p) a b = never p.kind a b

pub not_copying_and_weak : (pools : List Pool) (number : ℕ) → kind_in is_copying_kind pools number ≡ true
    → kind_in is_weak_kind pools number ≡ true → ⊥
not_copying_and_weak pools number a b = not_both is_copying_kind is_weak_kind copying_not_weak pools number a b

pub not_copying_and_any_size : (pools : List Pool) (number : ℕ) → kind_in is_copying_kind pools number ≡ true
    → kind_in is_any_size_kind pools number ≡ true → ⊥
not_copying_and_any_size pools number a b = not_both is_copying_kind is_any_size_kind copying_not_any_size pools number a b

-- no manual pool is a copying one
pub manual_not_copying : (pools : List Pool) (number : ℕ) (p : Pool) → slice_get pools number ≡ Some p → is_automatic_kind p.kind ≡ false
    → kind_in is_copying_kind pools number ≡ false
manual_not_copying pools number p e a =
    ap (λ o. option_map_or (λ (q : Pool). is_copying_kind q.kind) o false) e ∙ copying_automatic p.kind a

pub kind_in-more : (test : PoolKind → Bool) (pools : List Pool) (p : Pool) (number : ℕ) → kind_in test pools number ≡ true
    → kind_in test (with_last pools p) number ≡ true
kind_in-more test pools p number h = of_one (slice_get pools number) refl h
  where
    of_one : (o : Option Pool) → slice_get pools number ≡ o → option_map_or (λ q. test q.kind) o false ≡ true
        → kind_in test (with_last pools p) number ≡ true
    of_one None e a = absurd (false≢true a)
    of_one (Some q) e a = ap (λ o. option_map_or (λ (r : Pool). test r.kind) o false) (slice_get-kept pools p q number e) ∙ a

-- a pool that is of a kind is there
pub kind_of_pool : (test : PoolKind → Bool) (pools : List Pool) (number : ℕ) (p : Pool) → slice_get pools number ≡ Some p
    → test p.kind ≡ true → kind_in test pools number ≡ true
kind_of_pool test pools number p e h = ap (λ o. option_map_or (λ (r : Pool). test r.kind) o false) e ∙ h
