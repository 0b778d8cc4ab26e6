-- The calls on slots are right: `copy`, `clear`, `same`, `null`.
use Rattle.std.proofs.Common.{◌≡◌, ◌∙◌, ℕ, ◌<◌, Bool, refl, sym, ap, [], Option, Some, None, inl, inr, arith}
use Rattle.std.proofs.lemmas.Bool.{cases_eq, eq-eqb, ne_eqb}
use Rattle.std.specs.Prelude.{◌==◌, is_none}
use Rattle.std.specs.Option.{option_map_or}
use Rattle.mps_base.specs.Address.{Address}
use Rattle.mps_base.specs.declared.names.Slot.{Slot}
use Rattle.mps_format.specs.Layout.{Layout}
use Rattle.mps_laws.proofs.Same.{fits, same_then}
use Rattle.mps_model.specs.declared.call.Call.TheVariants as call
use Rattle.mps_model.specs.Accessing.{same_target}
use Rattle.mps_model.specs.Checked.{Checked}
use Rattle.mps_model.specs.Graph.{entry_at}
use Rattle.mps_model.specs.World.{World}
use Rattle.mps_heap_spec.specs.Coming.{Comes}
use Rattle.mps_heap_spec.specs.Objects.{after_copy, after_clear, are_same, is_null}
use Rattle.mps_heap_spec.specs.State.{HeapState}
use Rattle.mps_refinement.proofs.Worlds.CollectorKept.{all_kept}
use Rattle.mps_refinement.specs.RightStep.{IsRight}
use Rattle.mps_refinement.specs.StandsFor.{AreParts, Past, address_of_target}
use Rattle.mps_refinement.proofs.Lookups.Found.{some_there}
use Rattle.mps_refinement.proofs.Worlds.Known.{IsKnown}
use Rattle.mps_refinement.proofs.Lookups.LiveObjects.{MayRead, different, slot_may_read}
use Rattle.mps_refinement.proofs.Lookups.Lookups.{slot_same}
use Rattle.mps_refinement.proofs.Parts.PartsWritten.{slot_written}
use Rattle.mps_refinement.proofs.Calls.Readings.{reading_is_right, says_ok, says_bool, tells_same}
use Rattle.mps_refinement.proofs.Worlds.Steps.{ComesToTheSame, answer_to, quiet_is_right}

-- ---- addresses and targets

module _ {F : Type 0} (layout : F → Layout) (past : Past) (h : HeapState F) (w : World) (parts : AreParts layout past h w)
    (of : IsKnown past.time w) where
  address_of_live : (id : ℕ) (at : Address) → entry_at w.addresses id ≡ Some at → address_of_target w.addresses (Some id) ≡ at
  address_of_live id at e = ap (λ o. option_map_or (λ x. x) o 0) e

  not_null : (id : ℕ) (at : Address) → entry_at w.addresses id ≡ Some at → 0 < at
  not_null id at e = (parts.image.placed.address id at e).not_null

  -- two addresses are one where the targets are one
  pub same_addresses : (x y : Option ℕ) → MayRead past.time w x → MayRead past.time w y
      → (address_of_target w.addresses x == address_of_target w.addresses y) ≡ same_target x y
  same_addresses None None p q = refl
  same_addresses None (Some id) p q =
      let at = some_there (entry_at w.addresses id) q.live in
      ap (λ (a : ℕ). 0 == a) (address_of_live id at.0 at.1)
      ∙ ne_eqb 0 at.0 (λ e. let some = not_null id at.0 at.1 in omega (arith, e, some))
  same_addresses (Some id) None p q =
      let at = some_there (entry_at w.addresses id) p.live in
      ap (λ (a : ℕ). a == 0) (address_of_live id at.0 at.1)
      ∙ ne_eqb at.0 0 (λ e. let some = not_null id at.0 at.1 in omega (arith, e, some))
  same_addresses (Some id) (Some other) p q =
      let at = some_there (entry_at w.addresses id) p.live in
      let to = some_there (entry_at w.addresses other) q.live in
      ap (λ (a : ℕ). a == address_of_target w.addresses (Some other)) (address_of_live id at.0 at.1)
      ∙ ap (λ (a : ℕ). at.0 == a) (address_of_live other to.0 to.1)
      ∙ elim (cases_eq id other) [
        | inl same ↦
            eq-eqb at.0 to.0 (sym (address_of_live id at.0 at.1) ∙ ap (λ n. address_of_target w.addresses (Some n)) same
            ∙ address_of_live other to.0 to.1)
            ∙ sym (eq-eqb id other same)
        | inr n ↦
            ne_eqb at.0 to.0 (λ e. n (different layout past h w parts id other at.0 at.1
            (to.1 ∙ ap Some (sym e))))
            ∙ sym (ne_eqb id other n)
      ]

  pub null_address : (x : Option ℕ) → MayRead past.time w x → (address_of_target w.addresses x == 0) ≡ is_none x
  null_address None p = refl
  null_address (Some id) p =
      let at = some_there (entry_at w.addresses id) p.live in
      ap (λ (a : ℕ). a == 0) (address_of_live id at.0 at.1)
      ∙ ne_eqb at.0 0 (λ e. let some = not_null id at.0 at.1 in omega (arith, e, some))

-- ---- the calls

module _ {F : Type 0} (layout : F → Layout) (h : HeapState F) where
  copied_same : (target source : Slot) → ComesToTheSame layout says_ok h (call.Copy target source) (after_copy h target source)
  copied_same target source w past parts reached =
      same_then (slot_same layout past h w parts target) (λ into found is.
      same_then (slot_same layout past h w parts source) (λ from given has.
      fits (record {
        answer = refl;
        keeps = all_kept h;
        formats = refl;
        has = record {
          past = past;
          timed = refl;
          parts = slot_written layout past h w parts target.index into found from.value given.value is.fit has.fit.value;
        };
      })))

  pub copied_right : (target source : Slot) (result : Checked (Unit {0})) (after : HeapState F)
      → Comes h (after_copy h target source) result after
      → IsRight layout h (call.Copy target source) [] (answer_to says_ok result) after
  copied_right target source result after =
      quiet_is_right layout says_ok h (call.Copy target source) refl refl (after_copy h target source) result after
      (copied_same target source)

  cleared_same : (slot : Slot) → ComesToTheSame layout says_ok h (call.Clear slot) (after_clear h slot)
  cleared_same slot w past parts reached =
      same_then (slot_same layout past h w parts slot) (λ into found is.
      fits (record {
        answer = refl;
        keeps = all_kept h;
        formats = refl;
        has = record { past = past; timed = refl; parts = slot_written layout past h w parts slot.index into found 0 None is.fit refl };
      }))

  pub cleared_right : (slot : Slot) (result : Checked (Unit {0})) (after : HeapState F) → Comes h (after_clear h slot) result after
      → IsRight layout h (call.Clear slot) [] (answer_to says_ok result) after
  cleared_right slot result after =
      quiet_is_right layout says_ok h (call.Clear slot) refl refl (after_clear h slot) result after (cleared_same slot)

  pub are_same_right : (slot other : Slot) (result : Checked Bool) → result ≡ are_same h slot other
      → IsRight layout h (call.Same slot other) [] (answer_to says_bool result) h
  are_same_right slot other result =
      reading_is_right layout says_bool h (call.Same slot other) refl refl (are_same h slot other) result
      (λ w past parts reached.
      let of = reached in
      same_then (slot_same layout past h w parts slot) (λ one found is.
      same_then (slot_same layout past h w parts other) (λ two given has.
      tells_same w (one.value == two.value) (same_target found.value given.value)
      (ap (λ (a : ℕ). a == two.value) is.fit.value ∙ ap (λ (a : ℕ). address_of_target w.addresses found.value == a) has.fit.value
      ∙ same_addresses layout past h w parts of found.value given.value (slot_may_read layout past h w parts of slot.index one found is.fit)
      (slot_may_read layout past h w parts of other.index two given has.fit)))))

  pub is_null_right : (slot : Slot) (result : Checked Bool) → result ≡ is_null h slot
      → IsRight layout h (call.Null slot) [] (answer_to says_bool result) h
  is_null_right slot result =
      reading_is_right layout says_bool h (call.Null slot) refl refl (is_null h slot) result
      (λ w past parts reached.
      let of = reached in
      same_then (slot_same layout past h w parts slot) (λ one found is.
      tells_same w (one.value == 0) (is_none found.value)
      (ap (λ (a : ℕ). a == 0) is.fit.value
      ∙ null_address layout past h w parts of found.value (slot_may_read layout past h w parts of slot.index one found is.fit))))
