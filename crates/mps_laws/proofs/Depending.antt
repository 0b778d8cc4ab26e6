-- The four calls that change dependencies leave each of their blocks accounted for.
use Rattle.std.proofs.Common.{◌≡◌, inl, ℕ, true, true≢false, refl, sym, ◌∙◌, ap, List, [], length, Option, Some, None, Ok, arith}
use Rattle.std.specs.Prelude.{is_some, slice_get, slice_set}
use Rattle.std.specs.Option.{option_map_or}
use Rattle.mps_base.specs.declared.names.Name.{Name}
use Rattle.mps_base.specs.declared.names.Slot.{Slot}
use Rattle.mps_base.specs.declared.refusal.Refusal.TheVariants as refusal
use Rattle.mps_model.specs.World.{World, Dependency, address_of}
use Rattle.mps_model.specs.Graph.{Object}
use Rattle.mps_model.specs.Checked.{Found, Numbered, ◌>>=◌, required, numbered, done, number_named, as_dependency, dependency_named, slot_in, object_in}
use Rattle.mps_model.specs.Accessing.{address_or_null}
use Rattle.mps_model.specs.Dependency.{act_dependency, act_dependency_add, act_dependency_merge, act_dependency_reset, with_added, with_dependency, merged}
use Rattle.mps_model.specs.Making.{most_dependencies, refuse_at_limit, refuse_taken}
use Rattle.mps_model.specs.History.{HeldAreLive}
use Rattle.mps_laws.specs.Held.{target_of_slot, target_found}
use Rattle.mps_laws.specs.Depending.{blocks_of_dependency}
use Rattle.mps_laws.proofs.Acts.{ForAct, accepted, after_check, with_value}
use Rattle.mps_laws.proofs.Lookups.{entry_within}
use Rattle.mps_laws.proofs.LeftByActs.{owners}
use Rattle.mps_laws.proofs.Reading.{held_is_live, slot_is_held, object_found}
use Rattle.mps_laws.proofs.Positions.Places.{IsPutIn, settled_is_unmovable}
use Rattle.mps_laws.proofs.Staying.{IsClientSettled}
use Rattle.mps_laws.proofs.AddedBlocks.{AreAccounts, IsAccountOf, accounts-last, accounts-set, accounts_carried, account_at, fresh_account, added_account, merged_account}
use Rattle.mps_laws.proofs.Accounting.{AreAccounted}

-- ---- a dependency by its name

pub record IsDependency (w : World) (name : Name) (d : Numbered Dependency) : Type 0 where
  pub named : number_named w name as_dependency ≡ Some d.number
  pub there : slice_get w.dependencies d.number ≡ Some d.value

pub dependency_is : (w : World) (name : Name) (d : Numbered Dependency) → dependency_named w name ≡ Ok d → IsDependency w name d
dependency_is w name d e = by_name (number_named w name as_dependency) refl e
  where
    by_number : (n : ℕ) (o : Option Dependency) → number_named w name as_dependency ≡ Some n → slice_get w.dependencies n ≡ o
        → numbered n o ≡ Ok d → IsDependency w name d
    by_number n None named there e = absurd cc
    by_number n (Some x) named there e =
        let is : record { number = n; value = x } ≡ d = cc in
        record {
          named = named ∙ ap (λ (y : Numbered Dependency). Some y.number) is;
          there = ap (λ (y : Numbered Dependency). slice_get w.dependencies y.number) (sym is) ∙ there
              ∙ ap (λ (y : Numbered Dependency). Some y.value) is;
        }

    by_name : (o : Option ℕ) → number_named w name as_dependency ≡ o
        → (required o refusal.BadName >>= (λ number. numbered number (slice_get w.dependencies number))) ≡ Ok d → IsDependency w name d
    by_name None named e = absurd cc
    by_name (Some n) named e = by_number n (slice_get w.dependencies n) named refl e

pub named_blocks : (w : World) (name : Name) (d : Numbered Dependency) → IsDependency w name d
    → blocks_of_dependency w name ≡ d.value.blocks
named_blocks w name d is =
    ap (λ o. option_map_or (λ number. option_map_or (λ (x : Dependency). x.blocks) (slice_get w.dependencies number) []) o []) is.named
    ∙ ap (λ o. option_map_or (λ (x : Dependency). x.blocks) o []) is.there

-- ---- the four calls that change dependencies

-- what is known of a world between two steps
pub record IsKnown (w : World) : Type 0 where
  pub accounted : AreAccounted w
  pub settled : IsClientSettled w
  pub held : HeldAreLive w

-- the world with other dependencies
with_dependencies_carries : (w : World) (ds : List Dependency) → AreAccounts w ds → AreAccounts (record w { dependencies = ds }) ds
with_dependencies_carries w ds are = accounts_carried w (record w { dependencies = ds })
    (record { flips = omega arith; blocks = λ epoch id at within is. is }) ds are

module _ (w : World) (known : IsKnown w) where
  pub made_accounted : (name : Name) → ForAct AreAccounted (act_dependency w name)
  made_accounted name =
      after_check (refuse_taken w name) (after_check (refuse_at_limit (length w.dependencies) most_dependencies)
      (accepted (accounts_carried w _ (record { flips = omega arith; blocks = λ epoch id at within is. is }) _
      (accounts-last w w.dependencies (record { epoch = length w.flips; zones = 0; blocks = [] }) known.accounted (fresh_account w)))))

  -- a dependency has another value
  set_accounted : (number : ℕ) (new : Dependency) → IsAccountOf w new → ForAct AreAccounted (done (with_dependency w number new))
  set_accounted number new account =
      accepted (with_dependencies_carries w (slice_set w.dependencies number new)
      (accounts-set w w.dependencies number new known.accounted account))

  pub reset_accounted : (name : Name) → ForAct AreAccounted (act_dependency_reset w name)
  reset_accounted name = with_value (dependency_named w name) (λ (d : Numbered Dependency) e.
      set_accounted d.number (record { epoch = length w.flips; zones = 0; blocks = [] }) (fresh_account w))

  pub account_of : (name : Name) (d : Numbered Dependency) → IsDependency w name d → IsAccountOf w d.value
  account_of name d is = account_at w w.dependencies d.number d.value known.accounted is.there

  pub merge_accounted : (name source : Name) → ForAct AreAccounted (act_dependency_merge w name source)
  merge_accounted name source =
      with_value (dependency_named w name) (λ (d : Numbered Dependency) e. with_value (dependency_named w source)
      (λ (s : Numbered Dependency) f.
      set_accounted d.number (merged d.value s.value)
      (merged_account w d.value s.value (account_of name d (dependency_is w name d e)) (account_of source s (dependency_is w source s f)))))

  -- what stands in a slot is put where it lies
  slot_is_put : (slot : Slot) (id : ℕ) → target_of_slot w slot ≡ Some id → IsPutIn id (address_or_null w id) w
  slot_is_put slot id refers =
      let is_held = slot_is_held w slot id refers in
      let lies = live_lies (address_of w id) (held_is_live w id known.held is_held) in
      record {
        made = entry_within w.addresses id (address_or_null w id) lies;
        address = inl lies;
        unmovable = settled_is_unmovable (owners w.graph) w.pools id w.collection (known.settled id is_held);
      }
    where
      live_lies : (o : Option ℕ) → is_some o ≡ true → o ≡ Some (option_map_or (λ at. at) o 0)
      live_lies None live = absurd (true≢false (sym live))
      live_lies (Some at) live = refl

  pub add_accounted : (name : Name) (slot : Slot) → ForAct AreAccounted (act_dependency_add w name slot)
  add_accounted name slot =
      with_value (dependency_named w name) (λ (d : Numbered Dependency) e. with_value (slot_in w slot) (λ (from : Found (Option ℕ)) f.
      with_value (object_in w from.value) (λ (object : Numbered Object) g.
      let at = address_or_null w object.number in
      let refers : target_of_slot w slot ≡ Some object.number = ap target_found f ∙ (object_found w from.value object g).0 in
      set_accounted d.number (with_added d.value object.number at)
      (added_account w d.value object.number at (account_of name d (dependency_is w name d e)) (slot_is_put slot object.number refers)))))
