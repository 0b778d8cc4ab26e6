-- What the client holds stays where it is up to the next flip.
use Rattle.std.proofs.Common.{◌≡◌, ◌⊎◌, inl, inr, ℕ, Bool, true, false, true≢false, refl, sym, ◌∙◌, ap, subst, List, [], ◌∷◌, ◌++◌, Option, Some, None, Ok, Err}
use Rattle.std.proofs.lemmas.Bool.{and_parts}
use Rattle.std.proofs.lemmas.Option.{none-some, same_Some}
use Rattle.std.specs.Prelude.{not, ◌||◌, is_some, option_map}
use Rattle.std.specs.Option.{option_map_or}
use Rattle.std.specs.List.{AllByRecursion, list_all, list_any}
use Rattle.mps_base.specs.declared.names.Slot.{Slot}
use Rattle.mps_model.specs.Layout.{Layout}
use Rattle.mps_model.proofs.Appending.{world_after_steps-append, IsLegalFrom-later}
use Rattle.mps_model.specs.declared.call.Call.TheVariants as call
use Rattle.mps_model.specs.declared.reply.Reply.TheVariants as reply
use Rattle.mps_model.specs.Answer.{Replied, is_block}
use Rattle.mps_model.specs.Step.{Step, History}
use Rattle.mps_model.specs.Graph.{Object, contains, ids_of_client}
use Rattle.mps_model.specs.Collection.{Collection}
use Rattle.mps_model.specs.World.{World, address_of, is_live, empty_world_of}
use Rattle.mps_model.specs.Checked.{Checked, Found, Numbered, ◌>>=◌, slot_in, object_in, says}
use Rattle.mps_model.specs.Accessing.{act_address, address_or_null}
use Rattle.mps_model.specs.Effect.{world_after_moves}
use Rattle.mps_model.specs.Reply.{act, answer_from, reply_to, world_from}
use Rattle.mps_model.specs.History.{IsLegalStep, IsLegalFrom, AreMovesOf, IsLegalHistoryOf, judged_world, moved_world, world_after, world_after_steps, with_client_remembered, remembering}
use Rattle.mps_laws.specs.Replay.{reached}
use Rattle.mps_laws.specs.Held.{target_of_slot, target_found}
use Rattle.mps_laws.specs.Staying.{HeldBlocksStay, HeldThroughoutStays, AddressesStayRight, is_flip, flips_not, are_without_flip}
use Rattle.mps_laws.proofs.Lookups.{entry_within}
use Rattle.mps_laws.proofs.LegalHistories.{kept_by_steps, IsLegalFrom-first}
use Rattle.mps_laws.proofs.Held.{held_after, any_kind}
use Rattle.mps_laws.proofs.Reading.{contains-append_left, held_is_live, slot_is_held, object_found}
use Rattle.mps_laws.proofs.Positions.Places.{IsSettledIn, IsPutIn, settled_is_unmovable, step_put}
use Rattle.mps_laws.proofs.LeftByActs.{owners}

-- ---- what the client holds is settled

-- the running collection, if one runs, has settled what the client holds
abbrev pub IsClientSettled : World → Type 0
IsClientSettled w = (id : ℕ) → contains (ids_of_client w.graph) id ≡ true → IsSettledIn id w.collection

held_is_had : (held had : List ℕ) (id : ℕ) (p q : Bool) → contains held id ≡ true → (p || (q || contains (held ++ had) id)) ≡ true
held_is_had held had id true q h = refl
held_is_had held had id false true h = refl
held_is_had held had id false false h = contains-append_left held had id h

remembered_is_settled : (held : List ℕ) (id : ℕ) → contains held id ≡ true → (o : Option Collection)
    → IsSettledIn id (option_map (remembering held) o)
remembered_is_settled held id h None = tt
remembered_is_settled held id h (Some c) = held_is_had held c.had id (contains c.pinned id) (contains c.placed id) h

client_is_remembered : (w : World) → IsClientSettled (with_client_remembered w)
client_is_remembered w = λ id h. remembered_is_settled (ids_of_client w.graph) id h w.collection

pub client_after_step : (w : World) (s : Step) → IsClientSettled w → Unit {0} → IsLegalStep w s → IsClientSettled (world_after w s)
client_after_step w s settled kind legal =
    let moved = moved_world w s.call s.moves in
    client_is_remembered (world_from moved (act (is_block s.answer) (judged_world w s.call s.moves) moved s.call))

pub client_is_settled : (formats : ℕ → Layout) (steps : History) → IsLegalHistoryOf formats steps
    → IsClientSettled (reached formats steps)
client_is_settled formats steps legal =
    kept_by_steps IsClientSettled (λ s. Unit {0}) client_after_step (empty_world_of formats) steps (λ id h. tt) (any_kind steps) legal

-- ---- up to the next flip

abbrev HasNoFlip : Step → Type 0
HasNoFlip s = list_any is_flip s.moves ≡ false

no_flips : (steps : History) → are_without_flip steps ≡ true → AllByRecursion HasNoFlip steps
no_flips [] none = tt
no_flips (s ∷ ss) none =
    let parts = and_parts (flips_not s) (list_all flips_not ss) none in (no_flip (list_any is_flip s.moves) parts.0, no_flips ss parts.1)
  where
    no_flip : (b : Bool) → not b ≡ true → b ≡ false
    no_flip true h = absurd (true≢false (sym h))
    no_flip false h = refl

-- what is held in a world lies where it did after legal steps without a flip, or nowhere
pub held_is_put : (w : World) (between : History) (id at : ℕ) → IsClientSettled w → contains (ids_of_client w.graph) id ≡ true
    → address_of w id ≡ Some at → AllByRecursion HasNoFlip between → IsLegalFrom w between
    → (address_of (world_after_steps w between) id ≡ Some at) ⊎ (address_of (world_after_steps w between) id ≡ None)
held_is_put w between id at settled held lies none legal =
    (kept_by_steps (IsPutIn id at) HasNoFlip (λ v s put no_flip legal. step_put id at v s no_flip legal put) w between
    (record {
      made = entry_within w.addresses id at lies;
      address = inl lies;
      unmovable = settled_is_unmovable
          (owners w.graph) w.pools id w.collection (settled id held);
    }) none legal).address

pub held_blocks_stay : HeldBlocksStay
held_blocks_stay formats steps between later id at legal held lies none =
    let w = reached formats steps in
    let both = IsLegalFrom-first (empty_world_of formats) (steps ++ between) later legal in
    subst (λ (v : World). (address_of v id ≡ Some at) ⊎ (address_of v id ≡ None))
    (sym (world_after_steps-append (empty_world_of formats) steps between))
    (held_is_put w between id at (client_is_settled formats steps (IsLegalFrom-first (empty_world_of formats) steps between both)) held lies
    (no_flips between none) (IsLegalFrom-later (empty_world_of formats) steps between both))

gone_is_not_live : (w : World) (id : ℕ) → address_of w id ≡ None → is_live w id ≡ true → ⊥
gone_is_not_live w id gone live = true≢false (sym live ∙ ap is_some gone)

pub held_throughout_stays : HeldThroughoutStays
held_throughout_stays formats steps between later id at legal held lies none still_held =
    elim (held_blocks_stay formats steps between later id at legal held lies none) [
      | inl there ↦ there
      | inr gone ↦
          absurd (gone_is_not_live (reached formats (steps ++ between)) id gone
          (held_is_live (reached formats (steps ++ between)) id
          (held_after formats (steps ++ between) (IsLegalFrom-first (empty_world_of formats) (steps ++ between) later legal)) still_held))
    ]

-- ---- what `addr` answers

word_is : (at word : ℕ) → Replied (reply.Word at) ≡ Replied (reply.Word word) → at ≡ word
word_is at word e = cc

-- where `addr` answers a word, it is the address of the object to which the slot refers
addressed : (w : World) (slot : Slot) (id at : ℕ) → target_of_slot w slot ≡ Some id → is_live w id ≡ true
    → Replied (reply.Word at) ≡ answer_from (act_address w slot) → address_of w id ≡ Some at
addressed w slot id at refers live due = by_slot (slot_in w slot) refers due
  where
    by_address : (o : Option ℕ) → is_some o ≡ true → at ≡ option_map_or (λ x. x) o 0 → o ≡ Some at
    by_address None live e = absurd cc
    by_address (Some x) live e = ap Some (sym e)

    by_object : (target : Option ℕ) → target ≡ Some id → (o : Checked (Numbered Object)) → object_in w target ≡ o
        → Replied (reply.Word at) ≡ answer_from (o >>= (λ object. says (reply.Word (address_or_null w object.number)) w))
        → address_of w id ≡ Some at
    by_object target refers (Err why) found due = absurd cc
    by_object target refers (Ok object) found due =
        let same : id ≡ object.number = same_Some id object.number (sym refers ∙ (object_found w target object found).0) in
        by_address (address_of w id) live
        (word_is at (address_or_null w object.number) due ∙ ap (address_or_null w) (sym same))

    by_slot : (o : Checked (Found (Option ℕ))) → target_found o ≡ Some id
        → Replied (reply.Word at) ≡ answer_from (o >>= (λ from. object_in w from.value >>= (λ object. says (reply.Word
        (address_or_null w object.number)) w)))
        → address_of w id ≡ Some at
    by_slot (Err why) refers due = absurd (none-some id refers)
    by_slot (Ok found) refers due = by_object found.value refers (object_in w found.value) refl due

-- `addr` makes no moves
address_moves : (w : World) (s : Step) (slot : Slot) → s.call ≡ call.Address slot → IsLegalStep w s → s.moves ≡ []
address_moves w s slot is_address legal = subst (λ c. AreMovesOf w c s.answer s.moves) is_address legal.moves_are_due

address_answer : (w : World) (s : Step) (slot : Slot) (at : ℕ) → s.call ≡ call.Address slot → s.answer ≡ Replied (reply.Word at)
    → IsLegalStep w s → Replied (reply.Word at) ≡ answer_from (act_address w slot)
address_answer w s slot at is_address says_word legal =
    sym says_word
    ∙ subst (λ c. s.answer ≡ reply_to (is_block s.answer) (judged_world w c s.moves) (moved_world w c s.moves) c) is_address
    legal.answer_is_due
    ∙ ap (λ ms. answer_from (act_address (world_after_moves w ms) slot)) (address_moves w s slot is_address legal)

pub addresses_stay_right : AddressesStayRight
addresses_stay_right formats steps between later s slot id at legal is_address says_word refers none =
    let first = empty_world_of formats in
    let w = reached formats steps in
    let both = IsLegalFrom-first first (steps ++ s ∷ between) later legal in
    let before = IsLegalFrom-first first steps (s ∷ between) both in
    let now = IsLegalFrom-later first steps (s ∷ between) both in
    let held = slot_is_held w slot id refers in
    subst (λ (v : World). (address_of v id ≡ Some at) ⊎ (address_of v id ≡ None)) (sym (world_after_steps-append first steps (s ∷ between)))
    (held_is_put w (s ∷ between) id at (client_is_settled formats steps before) held
    (addressed w slot id at refers (held_is_live w id (held_after formats steps before) held)
    (address_answer w s slot at is_address says_word now.0))
    (ap (list_any is_flip) (address_moves w s slot is_address now.0), no_flips between none) now)
