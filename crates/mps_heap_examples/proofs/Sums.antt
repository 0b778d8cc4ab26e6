-- The sum of a list, item by item.
use Rattle.std.proofs.Common.{◌≡◌, ℕ, ◌+◌, ◌<◌, ◌≤◌, Bool, false, true, refl, sym, ◌∙◌, ap, subst, List, [], ◌∷◌, ◌++◌, length, take, Option, Some, None, arith, append-nil, append_assoc, length-append}
use Rattle.std.proofs.Math.Nat.{mod-add-mod}
use Rattle.std.proofs.lemmas.List.{take_all, take_at}
use Rattle.std.proofs.lemmas.List.Sums.{sum_by-append}
use Rattle.std.proofs.lemmas.Option.{none-some, same_Some}
use Rattle.std.specs.Hash.DefaultHasher.{wrapping_add}
use Rattle.std.specs.List.{sum}
use Rattle.std.specs.Prelude.{◌%◌, ◌^◌, ◌&&◌, ◌||◌, option_and_then}
use Rattle.mps_base.specs.declared.moves.Move.{Move}
use Rattle.mps_base.specs.declared.names.Slot.{Slot}
use Rattle.mps_format.specs.Layout.{Layout}
use Rattle.mps_model.proofs.Appending.{IsLegalFrom-then}
use Rattle.mps_model.specs.declared.call.Call.TheVariants as call
use Rattle.mps_model.specs.declared.reply.Reply.TheVariants as reply
use Rattle.mps_model.specs.Answer.{Replied, is_accepted}
use Rattle.mps_model.specs.Accessing.{same_target}
use Rattle.mps_model.specs.Checked.{as_table, number_named}
use Rattle.mps_model.specs.Step.{Step}
use Rattle.mps_model.specs.Graph.{target_of_cell}
use Rattle.mps_model.specs.World.{World, empty_world_of}
use Rattle.mps_model.specs.LegalMove.{target_in_cell}
use Rattle.mps_model.specs.History.{IsLegalHistoryOf, IsLegalStep, world_after}
use Rattle.mps_laws.specs.Held.{IsReadOfLive, slot_of_t, target_of_slot}
use Rattle.mps_laws.proofs.Reading.{gets_reach_live_objects}
use Rattle.mps_client_laws.specs.Slots.{writes_slot}
use Rattle.mps_client_laws.proofs.QuietCalls.{IsQuiet, quiet_answer}
use Rattle.mps_client_laws.proofs.ReadingBack.{number_is_answered}
use Rattle.mps_client_laws.proofs.Slots.{copy_gives_the_same_object, no_is_an_object, yes_is_no_object}
use Rattle.mps_heap_spec.specs.State.{HeapState}
use Rattle.mps_refinement.specs.Answering.{says_bool}
use Rattle.mps_refinement.specs.RightMoving.{IsRightMoving}
use Rattle.mps_refinement.specs.RightStep.{IsRight, step_of}
use Rattle.mps_refinement.specs.StandsFor.{IsReached, StandsFor}
use Rattle.mps_heap_examples.specs.Listed.{HasList, HasListIn, IsItem, IsList}
use Rattle.mps_heap_examples.proofs.Lists.{copy_leaves, get_leaves, still_item, still_list, still_listed, target_is}

-- ---- laws in a world that a history reaches

module _ (w : World) (is : IsReached w) (s : Step) (legal : IsLegalStep w s) where
  pub with_one_more : IsLegalHistoryOf w.formats (is.history ++ s ∷ [])
  with_one_more =
      IsLegalFrom-then (empty_world_of w.formats) w is.history (s ∷ []) (sym is.is) is.legal (legal, tt)

  pub copied : (target source : Slot) → s.call ≡ call.Copy target source → s.answer ≡ Replied reply.Ok
      → target_of_slot (world_after w s) target ≡ target_of_slot w source
  copied target source call_is accepted =
      subst (λ v. target_of_slot (world_after v s) target ≡ target_of_slot v source) (sym is.is)
      (copy_gives_the_same_object w.formats is.history [] s target source with_one_more call_is
      (subst (λ a. is_accepted a ≡ true) (sym accepted) refl))

  pub is_null : (slot : Slot) → s.call ≡ call.Null slot → s.answer ≡ Replied reply.Yes → target_of_slot w slot ≡ None
  is_null slot call_is answer_is =
      subst (λ v. target_of_slot v slot ≡ None) (sym is.is)
      (yes_is_no_object w.formats is.history [] s slot with_one_more call_is answer_is)

  pub is_object : (slot : Slot) → s.call ≡ call.Null slot → s.answer ≡ Replied reply.No → (id : ℕ) × (target_of_slot w slot ≡ Some id)
  is_object slot call_is answer_is =
      subst (λ v. (id : ℕ) × (target_of_slot v slot ≡ Some id)) (sym is.is)
      (no_is_an_object w.formats is.history [] s slot with_one_more call_is answer_is)

  pub read : (target source : Slot) (cell : ℕ) → s.call ≡ call.Get target source cell → s.answer ≡ Replied reply.Ok
      → IsReadOfLive w (world_after w s) target source cell
  read target source cell call_is accepted =
      subst (λ v. IsReadOfLive v (world_after v s) target source cell) (sym is.is)
      (gets_reach_live_objects w.formats is.history [] s target source cell with_one_more call_is
      (subst (λ a. is_accepted a ≡ true) (sym accepted) refl))

number_is_quiet : (source : Slot) (k : ℕ) → IsQuiet (call.Number source k)
number_is_quiet source k = record { none = λ w a ms e. e; world = λ w a. refl; reply = λ m w. refl }

-- a call that writes slot 1 leaves slot 0
pub other_slot : (b : Bool) → ((b && false) || (false || false)) ≡ false
other_slot true = refl
other_slot false = refl

copy_unwritten : (w : World) → writes_slot w (call.Copy (slot_of_t 1) (slot_of_t 0)) (slot_of_t 0) ≡ false
copy_unwritten w = other_slot (same_target (number_named w (slot_of_t 0).name as_table) (number_named w (slot_of_t 1).name as_table))

get_unwritten : (w : World) → writes_slot w (call.Get (slot_of_t 1) (slot_of_t 1) 2) (slot_of_t 0) ≡ false
get_unwritten w = other_slot (same_target (number_named w (slot_of_t 0).name as_table) (number_named w (slot_of_t 1).name as_table))

-- one number more
added_more : (seen : List ℕ) (total n : ℕ) → total ≡ sum seen % 2 ^ 64 → wrapping_add total n ≡ sum (seen ++ n ∷ []) % 2 ^ 64
added_more seen total n e =
    let one : sum (n ∷ []) ≡ n = omega arith in
    let all : sum (seen ++ n ∷ []) ≡ sum seen + n = sum_by-append (λ x. x) seen (n ∷ []) ∙ ap (λ k. sum seen + k) one in
    ap (λ t. (t + n) % 2 ^ 64) e ∙ mod-add-mod (sum seen) (2 ^ 64) n ∙ ap (λ k. k % 2 ^ 64) (sym all)

-- ---- the sum so far

-- the numbers of some items were added, and slot 1 begins the rest of the list
pub record IsSummed {F : Type 0} (layout : F → Layout) (h : HeapState F) (numbers : List ℕ) (count total : ℕ) : Type 0 where
  pub world : World
  pub stands : StandsFor layout h world
  pub has : HasListIn world numbers
  pub seen : List ℕ
  pub rest : List ℕ
  pub parts : numbers ≡ seen ++ rest
  pub counted : length seen ≡ count
  pub added : total ≡ sum seen % 2 ^ 64
  pub next : Option ℕ
  pub begins : target_of_slot world (slot_of_t 1) ≡ next
  pub items : IsList world.graph next rest

module _ {F : Type 0} (layout : F → Layout) where
  pub still_listed_when_summed : (h : HeapState F) (numbers : List ℕ) (count total : ℕ) → IsSummed layout h numbers count total
      → HasList layout h numbers
  still_listed_when_summed h numbers count total summed =
      record { world = summed.world; stands = summed.stands; has = summed.has }

  pub begun : (before after : HeapState F) (numbers : List ℕ) → HasList layout before numbers
      → IsRight layout before (call.Copy (slot_of_t 1) (slot_of_t 0)) [] (Replied reply.Ok) after
      → IsSummed layout after numbers 0 0
  begun before after numbers h right =
      let c = call.Copy (slot_of_t 1) (slot_of_t 0) in
      let s = step_of 0 c [] (Replied reply.Ok) in
      let there = right h.world 0 h.stands in
      let leaves = copy_leaves (slot_of_t 1) (slot_of_t 0) in
      record {
        world = world_after h.world s;
        stands = there.stands;
        has = still_listed h.world s there.legal leaves numbers (copy_unwritten h.world) h.has;
        seen = [];
        rest = numbers;
        parts = refl;
        counted = refl;
        added = refl;
        next = h.has.first;
        begins = copied h.world h.stands.reached s there.legal (slot_of_t 1) (slot_of_t 0) refl refl
            ∙ target_is h.world (slot_of_t 0) h.has.first h.has.slot;
        items = still_list h.world s there.legal leaves h.has.alone h.has.first numbers h.has.items;
      }

  module _ (h : HeapState F) (numbers : List ℕ) (count total : ℕ) (summed : IsSummed layout h numbers count total) where
    -- no more than so many were added
    pub counted_all : (most : ℕ) → count ≡ most → total ≡ sum (take most numbers) % 2 ^ 64
    counted_all most all =
        summed.added ∙ ap (λ ns. sum ns % 2 ^ 64)
        (sym (ap (take most) summed.parts ∙ take_at summed.seen summed.rest most (summed.counted ∙ all)))

    none_left : (first : Option ℕ) (rest : List ℕ) → first ≡ None → IsList summed.world.graph first rest → rest ≡ []
    none_left None [] is list = refl
    none_left None (n ∷ ns) is list = absurd list
    none_left (Some id) rest is list = absurd (none-some id (sym is))

    pub ended : (most : ℕ) → count ≤ most → IsRight layout h (call.Null (slot_of_t 1)) [] (Replied reply.Yes) h
        → total ≡ sum (take most numbers) % 2 ^ 64
    ended most within right =
        let s = step_of 0 (call.Null (slot_of_t 1)) [] (Replied reply.Yes) in
        let there = right summed.world 0 summed.stands in
        let null = is_null summed.world summed.stands.reached s there.legal (slot_of_t 1) refl refl in
        let rest = none_left summed.next summed.rest (sym summed.begins ∙ null) summed.items in
        let all : numbers ≡ summed.seen = summed.parts ∙ ap (λ ns. summed.seen ++ ns) rest ∙ append-nil summed.seen in
        summed.added ∙ ap (λ ns. sum ns % 2 ^ 64)
        (sym (take_all most numbers (subst (λ n. n ≤ most) (sym (ap length all ∙ summed.counted)) within) ∙ all))

    -- the item that slot 1 begins, and the list after it
    pub record IsNext (id : ℕ) : Type 0 where
      pub begins : target_of_slot summed.world (slot_of_t 1) ≡ Some id
      pub number : ℕ
      pub numbers_after : List ℕ
      pub next : Option ℕ
      pub rest : summed.rest ≡ number ∷ numbers_after
      pub item : IsItem summed.world.graph id number next
      pub items : IsList summed.world.graph next numbers_after

    next_of : (id : ℕ) (first : Option ℕ) (rest : List ℕ) → target_of_slot summed.world (slot_of_t 1) ≡ Some id → summed.rest ≡ rest
        → first ≡ Some id → IsList summed.world.graph first rest → IsNext id
    next_of id None rest begins e is list = absurd (none-some id is)
    next_of id (Some other) [] begins e is list = absurd list
    next_of id (Some other) (n ∷ ns) begins e is (next, item, items) = record {
      begins = begins;
      number = n;
      numbers_after = ns;
      next = next;
      rest = e;
      item = subst (λ i. IsItem summed.world.graph i n next) (same_Some other id is) item;
      items = items;
    }

    one_left : IsRight layout h (call.Null (slot_of_t 1)) [] (Replied reply.No) h → (id : ℕ) × IsNext id
    one_left right =
        let s = step_of 0 (call.Null (slot_of_t 1)) [] (Replied reply.No) in
        let there = right summed.world 0 summed.stands in
        let object = is_object summed.world summed.stands.reached s there.legal (slot_of_t 1) refl refl in
        (object.0, next_of object.0 summed.next summed.rest object.1 refl (sym summed.begins ∙ object.1) summed.items)

    is_number : (n : ℕ) (x : (id : ℕ) × IsNext id)
        → IsRight layout h (call.Number (slot_of_t 1) 1) [] (Replied (reply.Number n)) h → n ≡ x.1.number
    is_number n (id, x) right =
        let s = step_of 0 (call.Number (slot_of_t 1) 1) [] (Replied (reply.Number n)) in
        let there = right summed.world 0 summed.stands in
        number_is_answered summed.world (slot_of_t 1) id 1 x.begins x.number n x.item.number
        (quiet_answer (call.Number (slot_of_t 1) 1) (number_is_quiet (slot_of_t 1) 1) summed.world s there.legal refl)

    pub one_more : (n : ℕ) (after : HeapState F) (ms : List Move)
        → IsRight layout h (call.Null (slot_of_t 1)) [] (Replied reply.No) h
        → IsRight layout h (call.Number (slot_of_t 1) 1) [] (Replied (reply.Number n)) h
        → IsRight layout h (call.Get (slot_of_t 1) (slot_of_t 1) 2) ms (Replied reply.Ok) after
        → IsSummed layout after numbers (count + 1) (wrapping_add total n)
    one_more n after ms not_null number got =
        let c = call.Get (slot_of_t 1) (slot_of_t 1) 2 in
        let s = step_of 0 c ms (Replied reply.Ok) in
        let w = summed.world in
        let there = got w 0 summed.stands in
        let leaves = get_leaves (slot_of_t 1) (slot_of_t 1) 2 in
        let found = one_left not_null in
        let x = found.1 in
        let given = read w summed.stands.reached s there.legal (slot_of_t 1) (slot_of_t 1) 2 refl refl in
        let same : given.object ≡ found.0 = same_Some given.object found.0 (sym given.read ∙ x.begins) in
        let after_item = still_item w s there.legal leaves found.0 x.number x.next (summed.has.alone found.0) x.item in
        record {
          world = world_after w s;
          stands = there.stands;
          has = still_listed w s there.legal leaves numbers (get_unwritten w) summed.has;
          seen = summed.seen ++ x.number ∷ [];
          rest = x.numbers_after;
          parts = summed.parts ∙ ap (λ ns. summed.seen ++ ns) x.rest
              ∙ sym (append_assoc summed.seen (x.number ∷ []) x.numbers_after);
          counted = length-append summed.seen (x.number ∷ []) ∙ ap (λ k. k + 1) summed.counted;
          added = added_more summed.seen total n summed.added ∙ ap (λ m. sum (summed.seen ++ m ∷ []) % 2 ^ 64) (is_number n found number);
          next = x.next;
          begins = given.given ∙ ap (λ id. target_in_cell (world_after w s) id 2) same
              ∙ ap (option_and_then target_of_cell) after_item.next;
          items = still_list w s there.legal leaves summed.has.alone x.next x.numbers_after x.items;
        }

-- ---- the same of calls whose slots are these

module _ {F : Type 0} (layout : F → Layout) where
  pub copy_begins : (before after : HeapState F) (numbers : List ℕ) (target source : Slot) → target ≡ slot_of_t 1 → source ≡ slot_of_t 0
      → HasList layout before numbers → IsRight layout before (call.Copy target source) [] (Replied reply.Ok) after
      → IsSummed layout after numbers 0 0
  copy_begins before after numbers target source is from h right =
      begun layout before after numbers h
      (subst (λ t. IsRight layout before (call.Copy t (slot_of_t 0)) [] (Replied reply.Ok) after) is
      (subst (λ s. IsRight layout before (call.Copy target s) [] (Replied reply.Ok) after) from right))

  module _ (h : HeapState F) (numbers : List ℕ) (count total : ℕ) (summed : IsSummed layout h numbers count total) (at : Slot)
      (is : at ≡ slot_of_t 1) (null : Bool) (says_null : IsRight layout h (call.Null at) [] (says_bool null) h) where
    null_is : (b : Bool) → null ≡ b → IsRight layout h (call.Null (slot_of_t 1)) [] (says_bool b) h
    null_is b e =
        subst (λ s. IsRight layout h (call.Null s) [] (says_bool b) h) is
        (subst (λ c. IsRight layout h (call.Null at) [] (says_bool c) h) e says_null)

    pub null_ends : (most : ℕ) → count < most → null ≡ true
        → (total ≡ sum (take most numbers) % 2 ^ 64) × HasList layout h numbers
    null_ends most within e = (
      ended layout h numbers count total summed most (omega (arith, within)) (null_is true e),
      still_listed_when_summed layout h numbers count total summed,
    )

    pub get_goes_on : (n : ℕ) (after : HeapState F) (trail trail_after : List Move) → null ≡ false
        → IsRight layout h (call.Number at 1) [] (Replied (reply.Number n)) h
        → IsRightMoving layout h (call.Get at at 2) trail trail_after (Replied reply.Ok) after
        → IsSummed layout after numbers (count + 1) (wrapping_add total n)
    get_goes_on n after trail trail_after e number got =
        one_more layout h numbers count total summed n after got.moves (null_is false e)
        (subst (λ s. IsRight layout h (call.Number s 1) [] (Replied (reply.Number n)) h) is number)
        (subst (λ s. IsRight layout h (call.Get s s 2) got.moves (Replied reply.Ok) after) is got.right)

  pub all_counted : (h : HeapState F) (numbers : List ℕ) (count most total : ℕ) → count ≡ most → IsSummed layout h numbers count total
      → (total ≡ sum (take most numbers) % 2 ^ 64) × HasList layout h numbers
  all_counted h numbers count most total all summed = (
    counted_all layout h numbers count total summed most all,
    still_listed_when_summed layout h numbers count total summed,
  )
