-- What is said of what a key stands for, once it was found whether the key is good.
use Rattle.std.proofs.Common.{◌≡◌, Option, Some, sym, subst, refl}
use Rattle.std.specs.Prelude.{IfNone, IfSome}
use Rattle.mps_heap_spec.specs.Keyed.{both}

module _ {X : Type 0} {found : Option X} where
  pub when_good : {x : X} (P : X → Type 0) → found ≡ Some x → P x → IfSome found P
  when_good P is holds = subst (λ o. IfSome o P) (sym is) holds

  pub not_stale : {x : X} (P : Type 0) → found ≡ Some x → IfNone found P
  not_stale P is = subst (λ o. IfNone o P) (sym is) tt

module _ {X Y : Type 0} {one : Option X} where
  pub both_good : {other : Option Y} {x : X} {y : Y} → one ≡ Some x → other ≡ Some y → both one other ≡ Some (x, y)
  both_good {other} {x} {y} is also =
      subst (λ o. both o other ≡ Some (x, y)) (sym is) (subst (λ p. both (Some x) p ≡ Some (x, y)) (sym also) refl)
