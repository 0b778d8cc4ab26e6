-- Registrations and messages once those at a flip are fixed.
use Rattle.std.proofs.Common.{◌≡◌, ◌∙◌, ℕ, suc, refl, sym, ap, subst, List, [], ◌∷◌, length, map, Option, Some, arith}
use Rattle.std.specs.Prelude.{slice_get, slice_index_or}
use Rattle.std.specs.Option.{option_map_or}
use Rattle.mps_base.specs.Address.{Address, Id}
use Rattle.mps_format.specs.Layout.{Layout}
use Rattle.mps_format.specs.declared.pool.Policy.{Policy}
use Rattle.mps_trace.specs.GenState.{ChainsState}
use Rattle.mps_trace.specs.State.{FinalsState}
use Rattle.mps_trace.specs.Roots.{FixesMessages, begins, goes_on}
use Rattle.mps_trace.specs.Trace.{Traced}
use Rattle.mps_abstract.specs.Collecting.{Collecting}
use Rattle.mps_laws.proofs.Lookups.{length-slice_set}
use Rattle.mps_trace_laws.specs.Roots.OneRoot.{IsWhere}
use Rattle.mps_trace_laws.specs.Units.Finals.{address_of_id}

-- as many messages, and the same registrations
pub record AreFinalsAfter (before after : FinalsState) : Type 0 where
  pub registered : after.registered ≡ before.registered
  pub as_many : length after.messages ≡ length before.messages

pub messages_after : {F : Type 0} (layout : F → Layout) (formats : List (Option (Policy F))) (chains : ChainsState) (finals : FinalsState)
    (x : Traced) (count : ℕ) (finals' : FinalsState) (z : Traced) → FixesMessages layout formats chains finals x count finals' z
    → AreFinalsAfter finals finals'
messages_after layout formats chains finals x _ _ _ begins = record { registered = refl; as_many = refl }
messages_after layout formats chains finals x _ finals'' z (goes_on {finals' = finals'} {y = y} count at row one is) =
    let before = messages_after layout formats chains finals x count finals' y row in
    subst (AreFinalsAfter finals) (sym is) (record {
      registered = before.registered;
      as_many = length-slice_set finals'.messages count at ∙ before.as_many;
    })

-- messages that have, one by one, the addresses of their objects
pub messages_are : (y : Collecting) (messages : List Address) (ids : List Id) → length messages ≡ length ids
    → ((i : ℕ) (target : Option Id) → slice_get (map Some ids) i ≡ Some target → IsWhere y (slice_index_or messages i 0) target)
    → messages ≡ map (address_of_id y.world.addresses) ids
messages_are y [] [] long each = refl
messages_are y [] (id ∷ ids) long each = absurd (omega (arith, long))
messages_are y (at ∷ messages) [] long each = absurd (omega (arith, long))
messages_are y (at ∷ messages) (id ∷ ids) long each =
    ap (λ (a : Address). a ∷ messages) (sym (ap (λ o. option_map_or (λ (a : Address). a) o 0) (each 0 (Some id) refl).0))
    ∙ ap (λ l. address_of_id y.world.addresses id ∷ l)
    (messages_are y messages ids (omega (arith, long)) (λ i target e. each (suc i) target e))
