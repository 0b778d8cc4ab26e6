-- The first item of a list lies where it lay over calls that make no moves and over calls that have no flip, and where a dependency has
-- it that isn't stale.
use Rattle.std.proofs.Common.{◌≡◌, inl, inr, ℕ, Bool, true, false, true≢false, refl, sym, ◌∙◌, ap, subst, List, [], ◌∷◌, ◌++◌, append-nil, Option, Some, Ok, Err}
use Rattle.std.proofs.lemmas.Option.{none-some, same_Some}
use Rattle.std.specs.Prelude.{not, ◌&&◌, IfOk, Result}
use Rattle.std.specs.List.{AllByRecursion}
use Rattle.mps_base.specs.declared.address.Addr.{Addr}
use Rattle.mps_base.specs.declared.moves.Move.{Move}
use Rattle.mps_base.specs.declared.names.Name.{Name}
use Rattle.mps_base.specs.declared.names.Slot.{Slot}
use Rattle.mps_base.specs.declared.refusal.Refusal.{Refusal}
use Rattle.mps_format.specs.Layout.{Layout}
use Rattle.mps_model.proofs.Appending.{IsLegalFrom-then, world_after_steps-append}
use Rattle.mps_model.specs.declared.call.Call.TheVariants as call
use Rattle.mps_model.specs.declared.reply.Reply.TheVariants as reply
use Rattle.mps_model.specs.Accessing.{address_or_null, same_target}
use Rattle.mps_model.specs.Answer.{Answer, Replied}
use Rattle.mps_model.specs.Checked.{Checked, Found, as_table, number_named, slot_in}
use Rattle.mps_model.specs.History.{AreMovesOf, HeldAreLive, IsLegalHistoryOf, IsLegalStep, world_after, world_after_steps}
use Rattle.mps_model.specs.Step.{Step}
use Rattle.mps_model.specs.World.{World, address_of, empty_world_of}
use Rattle.mps_laws.specs.Depending.{AddedBlock, blocks_of_dependency}
use Rattle.mps_laws.specs.Held.{letter, slot_of_t, target_found, target_of_slot}
use Rattle.mps_laws.specs.Replay.{reached}
use Rattle.mps_laws.specs.Staying.{IsThereWhileLive, are_without_flip}
use Rattle.mps_laws.proofs.Flipping.{get_none, where_due}
use Rattle.mps_laws.proofs.Held.{held_after}
use Rattle.mps_laws.proofs.Positions.Homes.{fresh_dependencies_hold}
use Rattle.mps_laws.proofs.Staying.{addresses_stay_right}
use Rattle.mps_client_laws.specs.Addresses.{frees_object, moves_object, none_of_moves}
use Rattle.mps_client_laws.specs.Slots.{leave_slot, slot_value, value_found, writes_slot}
use Rattle.mps_client_laws.proofs.Addresses.{addresses_stay}
use Rattle.mps_client_laws.proofs.SlotsStay.{slots_stay}
use Rattle.mps_heap_spec.specs.State.{HeapState}
use Rattle.mps_refinement.specs.Answering.{answer_to, says_bool}
use Rattle.mps_refinement.specs.RightMoving.{IsRightMoving}
use Rattle.mps_refinement.specs.RightStep.{IsRight, step_of}
use Rattle.mps_refinement.specs.StandsFor.{IsReached, StandsFor}
use Rattle.mps_heap_examples.specs.Addresses.{HasFirst, IsFirstAt, IsNotedAt}
use Rattle.mps_heap_examples.proofs.Dependencies.{IsAddressed, add_leaves_one, addressed, collect_leaves_blocks, reset_leaves_none, slot_lies}
use Rattle.mps_heap_examples.proofs.Lists.{target_is}
use Rattle.mps_heap_examples.proofs.Sums.{other_slot, with_one_more}

-- what the client holds is live
held_in : (w : World) → IsReached w → HeldAreLive w
held_in w is = subst HeldAreLive (sym is.is) (held_after w.formats is.history is.legal)

-- a slot that refers to an object is there
value_is : (w : World) (slot : Slot) (id : ℕ) → target_of_slot w slot ≡ Some id → slot_value w slot ≡ Some (Some id)
value_is w slot id refers = by_slot (slot_in w slot) refers
  where
    by_slot : (x : Checked (Found (Option ℕ))) → target_found x ≡ Some id → value_found x ≡ Some (Some id)
    by_slot (Ok found) e = ap Some e
    by_slot (Err why) e = absurd (none-some id e)

-- ---- calls that make no moves

module _ (w : World) (s : Step) (first at : ℕ) where
  pub still_first : s.moves ≡ [] → writes_slot w s.call (slot_of_t 0) ≡ false → IsFirstAt w first at → IsFirstAt (world_after w s) first at
  still_first none unwritten is = record {
    slot = slots_stay w (s ∷ []) (slot_of_t 0) (Some first) (ap (λ b. not b && true) unwritten) is.slot;
    lies = addresses_stay w (s ∷ []) first at (ap (λ ms. none_of_moves (λ v m. moves_object v m first) w ms && true) none)
        (ap (λ ms. none_of_moves (λ v m. frees_object v m first) w ms && true) none) is.lies;
  }

-- the object in slot 0 lies where `addr` answers
pub first_addressed : (w : World) (at : ℕ) → HeldAreLive w → IsAddressed w (slot_of_t 0) at → (first : ℕ) × IsFirstAt w first at
first_addressed w at held a = (
  a.id,
  record {
    slot = value_is w (slot_of_t 0) a.id a.refers;
    lies = slot_lies w (slot_of_t 0) a.id held a.refers ∙ ap Some (sym a.is);
  },
)

-- ---- an address that was noted

-- an `ldreset`, an `ldadd` and an `addr` of slot 0 one after the other
module _ (w : World) (reset add : Step) (at : ℕ) (legal_reset : IsLegalStep w reset) where
  abbrev with_none : World
  with_none = world_after w reset

  abbrev with_one : World
  with_one = world_after with_none add

  pub noted_at : IsLegalStep with_none add → reset.call ≡ call.DependencyReset (letter 100) → reset.answer ≡ Replied reply.Ok
      → add.call ≡ call.DependencyAdd (letter 100) (slot_of_t 0) → add.answer ≡ Replied reply.Ok → add.moves ≡ []
      → IsAddressed with_one (slot_of_t 0) at → (first : ℕ) × IsNotedAt with_one first at
  noted_at legal_add is_reset reset_ok is_add add_ok none a =
      let name = letter 100 in
      let added = add_leaves_one with_none add name legal_add add_ok (slot_of_t 0) is_add in
      let was : IsFirstAt with_none added.id (address_or_null with_none added.id) = record {
        slot = value_is with_none (slot_of_t 0) added.id added.refers;
        lies = slot_lies with_none (slot_of_t 0) added.id legal_reset.held_are_live added.refers;
      } in
      let unwritten : writes_slot with_none add.call (slot_of_t 0) ≡ false =
      ap (λ c. writes_slot with_none c (slot_of_t 0)) is_add in
      let is = still_first with_none add added.id (address_or_null with_none added.id) none unwritten was in
      let now = first_addressed with_one at legal_add.held_are_live a in
      let same : added.id ≡ now.0 =
      same_Some added.id now.0 (same_Some (Some added.id) (Some now.0) (sym is.slot ∙ now.1.slot)) in
      let there : address_or_null with_none added.id ≡ at =
      same_Some (address_or_null with_none added.id) at
      (sym is.lies ∙ ap (address_of with_one) same ∙ now.1.lies) in (
        added.id,
        record {
          slot = is.slot;
          noted = added.added
              ∙ ap (λ blocks. blocks ++ (added.id, address_or_null with_none added.id) ∷ [])
              (reset_leaves_none w reset name legal_reset reset_ok is_reset)
              ∙ ap (λ address. (added.id, address) ∷ []) there;
        },
      )

-- a collection leaves what is noted
pub still_noted : (w : World) (s : Step) (first at : ℕ) → s.call ≡ call.Collect → IsNotedAt w first at
    → IsNotedAt (world_after w s) first at
still_noted w s first at is_collect is = record {
  slot = slots_stay w (s ∷ []) (slot_of_t 0) (Some first)
      (ap (λ c. not (writes_slot w c (slot_of_t 0)) && true) is_collect) is.slot;
  noted = collect_leaves_blocks w s (letter 100) is_collect ∙ is.noted;
}

-- an object that is there while it lives, and is held, is there
there_if_held : (w : World) (slot : Slot) (id at : ℕ) → HeldAreLive w → slot_value w slot ≡ Some (Some id) → IsThereWhileLive w id at
    → address_of w id ≡ Some at
there_if_held w slot id at held value (inl there) = there
there_if_held w slot id at held value (inr gone) =
    absurd (none-some (address_or_null w id) (sym gone ∙ slot_lies w slot id held (target_is w slot (Some id) value)))

-- if the dependency isn't stale the address is right
pub noted_is_right : (w : World) (s : Step) (first at : ℕ) → IsReached w → IsLegalStep w s → s.call ≡ call.DependencyStale (letter 100)
    → s.answer ≡ Replied reply.No → IsNotedAt w first at → IsFirstAt w first at
noted_is_right w s first at is legal is_stale says_no noted =
    let name = letter 100 in
    let holds = fresh_dependencies_hold w.formats is.history [] s name (with_one_more w is s legal) is_stale says_no in
    let here : AllByRecursion (λ (b : AddedBlock). IsThereWhileLive w b.0 b.1) (blocks_of_dependency w name) =
    subst (λ v. AllByRecursion (λ (b : AddedBlock). IsThereWhileLive v b.0 b.1) (blocks_of_dependency v name)) (sym is.is) holds in
    let one : AllByRecursion (λ (b : AddedBlock). IsThereWhileLive w b.0 b.1) ((first, at) ∷ []) =
    subst (AllByRecursion (λ (b : AddedBlock). IsThereWhileLive w b.0 b.1)) noted.noted here in
    record { slot = noted.slot; lies = there_if_held w (slot_of_t 0) first at (held_in w is) noted.slot one.0 }

-- ---- a read while a collection may run

module _ (w : World) (addr get : Step) (at : ℕ) (is : IsReached w) (legal_addr : IsLegalStep w addr) where
  abbrev between : World
  between = world_after w addr

  get_flips_not : (source : Slot) (cell : ℕ) → get.call ≡ call.Get (slot_of_t 1) source cell → IsLegalStep between get
      → are_without_flip (get ∷ []) ≡ true
  get_flips_not source cell is_get legal =
      let due = subst (λ c. AreMovesOf between c get.answer get.moves) is_get legal.moves_are_due in
      ap (λ b. not b && true) (where_due _ get.moves (get_none between _ get.moves) due)

  pub first_is_right : (source : Slot) (cell : ℕ) → addr.call ≡ call.Address (slot_of_t 0) → addr.answer ≡ Replied (reply.Word at)
      → get.call ≡ call.Get (slot_of_t 1) source cell → IsLegalStep between get
      → writes_slot between (call.Get (slot_of_t 1) source cell) (slot_of_t 0) ≡ false
      → (first : ℕ) × IsFirstAt (world_after between get) first at
  first_is_right source cell is_addr says_word is_get legal_get unwritten =
      let a = addressed w addr (slot_of_t 0) at legal_addr is_addr says_word in
      let history = is.history ++ addr ∷ get ∷ [] in
      let legal : IsLegalHistoryOf w.formats history =
      IsLegalFrom-then (empty_world_of w.formats) w is.history (addr ∷ get ∷ []) (sym is.is) is.legal (legal_addr, (legal_get, tt)) in
      let refers = subst (λ v. target_of_slot v (slot_of_t 0) ≡ Some a.id) is.is a.refers in
      let right = addresses_stay_right w.formats is.history (get ∷ []) [] addr (slot_of_t 0) a.id at
      (subst (IsLegalHistoryOf w.formats) (sym (append-nil history)) legal) is_addr says_word refers
      (get_flips_not source cell is_get legal_get) in
      let ends : reached w.formats history ≡ world_after between get =
      world_after_steps-append (empty_world_of w.formats) is.history (addr ∷ get ∷ [])
      ∙ ap (λ v. world_after_steps v (addr ∷ get ∷ [])) (sym is.is) in
      let leave : leave_slot w (addr ∷ get ∷ []) (slot_of_t 0) ≡ true =
      ap (λ c. not (writes_slot w c (slot_of_t 0)) && (not (writes_slot between get.call (slot_of_t 0)) && true)) is_addr
      ∙ ap (λ c. not (writes_slot between c (slot_of_t 0)) && true) is_get
      ∙ ap (λ b. not b && true) unwritten in
      let value = slots_stay w (addr ∷ get ∷ []) (slot_of_t 0) (Some a.id) leave (value_is w (slot_of_t 0) a.id a.refers) in (
        a.id,
        record {
          slot = value;
          lies = there_if_held (world_after between get) (slot_of_t 0) a.id at legal_get.held_are_live value
              (subst (λ v. IsThereWhileLive v a.id at) ends right);
        },
      )

-- ---- calls of a heap

-- a `get` into slot 1 leaves slot 0
get_leaves_first : (w : World) (source : Slot) (cell : ℕ) → writes_slot w (call.Get (slot_of_t 1) source cell) (slot_of_t 0) ≡ false
get_leaves_first w source cell =
    other_slot (same_target (number_named w (slot_of_t 0).name as_table) (number_named w (slot_of_t 1).name as_table))

module _ {F : Type 0} (layout : F → Layout) where
  -- a number that is written leaves the object where it lies, and so does one that is refused
  pub set_leaves_first : (before after : HeapState F) (slot : Slot) (cell number : ℕ) (answer : Answer)
      → IsRight layout before (call.SetNumber slot cell number) [] answer after → (at : ℕ) → HasFirst layout IsFirstAt before at
      → HasFirst layout IsFirstAt after at
  set_leaves_first before after slot cell number answer right at h =
      let s = step_of 0 (call.SetNumber slot cell number) [] answer in
      record {
        world = world_after h.world s;
        stands = (right h.world 0 h.stands).stands;
        first = h.first;
        is = still_first h.world s h.first at refl refl h.is;
      }

  module _ (h : HeapState F) (slot : Slot) (is : slot ≡ slot_of_t 0) (at : Addr)
      (right : IsRight layout h (call.Address slot) [] (Replied (reply.Word at.0)) h) where
    abbrev addr_step : Step
    addr_step = step_of 0 (call.Address (slot_of_t 0)) [] (Replied (reply.Word at.0))

    addr_right : IsRight layout h (call.Address (slot_of_t 0)) [] (Replied (reply.Word at.0)) h
    addr_right = subst (λ t. IsRight layout h (call.Address t) [] (Replied (reply.Word at.0)) h) is right

    -- it lies where `addr` answers
    pub first_lies : (w : World) → StandsFor layout h w → HasFirst layout IsFirstAt h at.0
    first_lies w stands =
        let found = first_addressed w at.0 (held_in w stands.reached)
        (addressed w addr_step (slot_of_t 0) at.0 (addr_right w 0 stands).legal refl refl) in
        record { world = w; stands = stands; first = found.0; is = found.1 }

    -- and still after a `get` into slot 1
    pub first_still_lies : (after : HeapState F) (target source : Slot) (cell : ℕ) (trail trail_after : List Move) (answer : Answer)
        → target ≡ slot_of_t 1 → IsRightMoving layout h (call.Get target source cell) trail trail_after answer after → (w : World)
        → StandsFor layout h w → HasFirst layout IsFirstAt after at.0
    first_still_lies after target source cell trail trail_after answer into got w stands =
        let get = step_of 0 (call.Get (slot_of_t 1) source cell) got.moves answer in
        let addr = addr_right w 0 stands in
        let then = world_after w addr_step in
        let read = subst (λ t. IsRight layout h (call.Get t source cell) got.moves answer after) into got.right then 0 addr.stands in
        let found = first_is_right w addr_step get at.0 stands.reached addr.legal source cell refl refl refl read.legal
        (get_leaves_first then source cell) in
        record { world = world_after then get; stands = read.stands; first = found.0; is = found.1 }

  -- it is noted where `addr` answers
  pub first_noted : (before reset added : HeapState F) (name : Name) (slot again : Slot) → name ≡ letter 100 → slot ≡ slot_of_t 0
      → again ≡ slot_of_t 0 → IsRight layout before (call.DependencyReset name) [] (Replied reply.Ok) reset
      → IsRight layout reset (call.DependencyAdd name slot) [] (Replied reply.Ok) added → (w : World) → StandsFor layout before w
      → (result : Result Addr Refusal)
      → IsRight layout added (call.Address again) [] (answer_to (λ (at : Addr). Replied (reply.Word at.0)) result) added
      → IfOk result (λ (at : Addr). HasFirst layout IsNotedAt added at.0)
  first_noted before reset added name slot again named first second resets adds w stands (Err why) answers = tt
  first_noted before reset added name slot again named first second resets adds w stands (Ok at) answers =
      let reset_step = step_of 0 (call.DependencyReset (letter 100)) [] (Replied reply.Ok) in
      let add_step = step_of 0 (call.DependencyAdd (letter 100) (slot_of_t 0)) [] (Replied reply.Ok) in
      let one = subst (λ n. IsRight layout before (call.DependencyReset n) [] (Replied reply.Ok) reset) named resets w 0 stands in
      let v = world_after w reset_step in
      let two = subst (λ t. IsRight layout reset (call.DependencyAdd (letter 100) t) [] (Replied reply.Ok) added) first
      (subst (λ n. IsRight layout reset (call.DependencyAdd n slot) [] (Replied reply.Ok) added) named adds) v 0 one.stands in
      let u = world_after v add_step in
      let three = addr_right added again second at answers u 0 two.stands in
      let found = noted_at w reset_step add_step at.0 one.legal two.legal refl refl refl refl refl
      (addressed u (step_of 0 (call.Address (slot_of_t 0)) [] (Replied (reply.Word at.0))) (slot_of_t 0) at.0 three.legal refl refl) in
      record { world = u; stands = two.stands; first = found.0; is = found.1 }

  -- a collection leaves what is noted
  pub collect_leaves_noted : (before after : HeapState F) (trail trail_after : List Move)
      → IsRightMoving layout before call.Collect trail trail_after (Replied reply.Ok) after → (at : ℕ)
      → HasFirst layout IsNotedAt before at → HasFirst layout IsNotedAt after at
  collect_leaves_noted before after trail trail_after collected at h =
      let s = step_of 0 call.Collect collected.moves (Replied reply.Ok) in
      record {
        world = world_after h.world s;
        stands = (collected.right h.world 0 h.stands).stands;
        first = h.first;
        is = still_noted h.world s h.first at refl h.is;
      }

  -- what was noted is right if the dependency isn't stale
  pub fresh_is_right : (h : HeapState F) (name : Name) → name ≡ letter 100 → (stale : Bool)
      → IsRight layout h (call.DependencyStale name) [] (says_bool stale) h → not stale ≡ true → (at : ℕ)
      → HasFirst layout IsNotedAt h at → HasFirst layout IsFirstAt h at
  fresh_is_right h name is true right fresh at noted = absurd (true≢false (sym fresh))
  fresh_is_right h name is false right fresh at noted =
      let s = step_of 0 (call.DependencyStale (letter 100)) [] (Replied reply.No) in
      let there = subst (λ n. IsRight layout h (call.DependencyStale n) [] (Replied reply.No) h) is right noted.world 0 noted.stands in
      record {
        world = noted.world;
        stands = noted.stands;
        first = noted.first;
        is = noted_is_right noted.world s noted.first at noted.stands.reached there.legal refl refl noted.is;
      }
