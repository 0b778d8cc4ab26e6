-- Once nothing but weak objects is grey, what is reachable is live and isn't white.
use Rattle.std.proofs.Common.{◌≡◌, ◌∙◌, Bool, true, false, refl, sym, List, [], Option, Some, None, inl, inr}
use Rattle.std.proofs.lemmas.Bool.{false≢true, cases_Bool}
use Rattle.std.specs.Prelude.{if◌then◌else◌}
use Rattle.std.specs.Option.{option_map_or}
use Rattle.mps_base.specs.Address.{Id}
use Rattle.mps_model.specs.Graph.{Graph, Object, contains, targets, targets_of, strong_targets, strong_targets_of, is_weak_object, object_at, for_object, ids_of_client}
use Rattle.mps_model.specs.Reachable.{begins, goes_on, IsReachableWith}
use Rattle.mps_abstract.specs.Colours.{Colours, is_white, is_grey, AreColoured, AreColoursDrained}
use Rattle.mps_abstract.proofs.Lists.{contains_append}

strong_of : (o : Option Object) (t : Id) → contains (option_map_or strong_targets_of o []) t ≡ true
    → (contains (option_map_or targets_of o []) t ≡ true) × (option_map_or is_weak_object o false ≡ false)
strong_of None t h = absurd (false≢true h)
strong_of (Some o) t h =
    elim (is_weak_object o) as (λ b. contains (if b then [] else targets_of o) t ≡ true
    → (contains (targets_of o) t ≡ true) × (b ≡ false)) [
      | true ↦ (λ e. absurd (false≢true e))
      | false ↦ (λ e. (e, refl))
    ] h

-- a strong reference is a reference, of an object that isn't weak
pub strong_is_target : (g : Graph) (id t : Id) → contains (strong_targets g id) t ≡ true
    → (contains (targets g id) t ≡ true) × (for_object g id is_weak_object false ≡ false)
strong_is_target g id t h = strong_of (object_at g id) t h

pub not_grey : (weak : Id → Bool) (k : Colours) (id : Id) → AreColoursDrained weak k → weak id ≡ false → is_grey k id ≡ false
not_grey weak k id drained strong = elim (cases_Bool (is_grey k id)) [
  | inl grey ↦ absurd (false≢true (sym strong ∙ drained id grey))
  | inr isnt ↦ isnt
]

-- where these too are live, and none of them is white
module _ (g : Graph) (live : Id → Bool) (condemned : List Id) (k : Colours) (more : List Id)
    (coloured : AreColoured (ids_of_client g) g live condemned k)
    (drained : AreColoursDrained (λ id. for_object g id is_weak_object false) k)
    (kept : (id : Id) → contains more id ≡ true → (live id ≡ true) × (is_white condemned k id ≡ false)) where
  pub reachable_is_kept : {id : Id} → IsReachableWith g more id → (live id ≡ true) × (is_white condemned k id ≡ false)
  reachable_is_kept (begins {id} h) = elim (contains_append (ids_of_client g) more id h) [
    | inl e ↦ (coloured.held_live id e, coloured.held id e)
    | inr e ↦ kept id e
  ]
  reachable_is_kept (goes_on {from} {to} path h) =
      let before = reachable_is_kept path in
      let strong = strong_is_target g from to h in (
        coloured.referred_live from to before.0 before.1 strong.0,
        coloured.referred from to before.0 before.1
            (not_grey (λ id. for_object g id is_weak_object false) k from drained strong.1) strong.0,
      )
