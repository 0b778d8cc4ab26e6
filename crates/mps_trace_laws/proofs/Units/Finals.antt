-- Registrations and messages keep the addresses of their objects over the steps of a collection.
use Rattle.std.proofs.Common.{◌≡◌, ◌∙◌, ◌⊎◌, ℕ, suc, ◌+◌, ◌-◌, ◌<◌, ◌≤◌, true, false, sym, ap, ap₂, List, [], ◌∷◌, ◌++◌, map, Option, Some, inl, inr, arith}
use Rattle.std.proofs.lemmas.Bool.{false≢true}
use Rattle.std.specs.Prelude.{take, drop, slice_get, slice_set, slice_index_or}
use Rattle.std.specs.List.{remove}
use Rattle.std.specs.Option.{option_map_or}
use Rattle.mps_base.specs.Address.{Address, Id}
use Rattle.mps_base.specs.declared.moves.Move.{Move}
use Rattle.mps_trace.specs.State.{FinalsState, with_registered_at, finals_after_post}
use Rattle.mps_model.specs.Graph.{Graph, entry_at, contains, without_first, ids_in_slots, ids_in_holds, ids_in_reservations, ids_of_client}
use Rattle.mps_model.specs.Collection.{Collection}
use Rattle.mps_model.specs.World.{World, is_live}
use Rattle.mps_model.specs.Effect.{world_after_moves}
use Rattle.mps_abstract.specs.Collecting.{Collecting, Running, Final, is_white_in}
use Rattle.mps_abstract.specs.Fixing.{Keeps, kept_by}
use Rattle.mps_abstract.specs.Units.{IsExaminedNext, collecting_after_post}
use Rattle.mps_abstract.proofs.Lists.{contains_at, contains_left, contains_right}
use Rattle.mps_abstract.proofs.Kept.{IsKept, keeps_leaves}
use Rattle.mps_abstract.proofs.PostLegal as legal
use Rattle.mps_abstract.proofs.Registrations.{StandsFirst, slice_get-without_after, slice_get-without_before}
use Rattle.mps_trace_laws.specs.Units.Finals.{address_of_id, before_and_since, AreFinals, AreFinalsAtRest}
use Rattle.mps_trace_laws.specs.Units.Standing.{AreFinalsOf}
use Rattle.mps_trace_laws.proofs.Units.TwoLists.{drop_first, index_mix, map_all, map_last, mix, mix_same, none_due, remove_mix, set_mix, take_first}

-- a message isn't white
message_black : (x : Collecting) → Running x → (i : ℕ) (id : Id) → slice_get x.world.graph.messages i ≡ Some id
    → is_white_in x id ≡ false
message_black x run i id e = run.coloured.held id (held x.world.graph id (contains_at x.world.graph.messages i id e))
  where
    held : (g : Graph) (id : Id) → contains g.messages id ≡ true → contains (ids_of_client g) id ≡ true
    held g id h =
        contains_left ((ids_in_slots g ++ ids_in_holds g) ++ g.messages) (ids_in_reservations g) id
        (contains_right (ids_in_slots g ++ ids_in_holds g) g.messages id h)

-- what isn't white lies where it lay
abbrev pub AreOthersInPlace : Collecting → (addresses : List (Option Address)) → Type 0
AreOthersInPlace x addresses = (id : Id) → is_white_in x id ≡ false → entry_at addresses id ≡ entry_at x.world.addresses id

abbrev address_or_0 : Option Address → Address
address_or_0 o = option_map_or (λ at. at) o 0

-- by the addresses after a step that examines nothing
pub finals_in_place : (at_flip addresses : List (Option Address)) (x : Collecting) (f : FinalsState) → Running x
    → AreOthersInPlace x addresses → AreFinalsOf at_flip x f
    → AreFinals at_flip addresses x.world.graph.registered x.world.graph.messages x.next x.running.registered_before f
finals_in_place at_flip addresses x f run place are =
    let most = run.examined.up_to in
    record {
      registrations =
          are.registrations
          ∙ mix_same (address_of_id x.world.addresses) (address_of_id addresses) (address_of_id at_flip) x.next
          (x.running.registered_before - x.next) x.world.graph.registered
          (λ i m where_it_is e. ap address_or_0 (sym (place m (run.examined.examined i m e (elim where_it_is [
            | inl less ↦ inl less
            | inr since ↦ inr (omega (arith, since, most))
          ])))));
      waiting =
          are.waiting
          ∙ map_all (address_of_id x.world.addresses) (address_of_id addresses) x.world.graph.messages
          (λ i m e. ap address_or_0 (sym (place m (message_black x run i m e))));
    }

-- once every registration is examined
pub finals_at_end : (at_flip addresses : List (Option Address)) (registered messages : List Id) (next before : ℕ) (f : FinalsState)
    → next ≡ before → AreFinals at_flip addresses registered messages next before f → AreFinalsAtRest addresses registered messages f
finals_at_end at_flip addresses registered messages next before f all are = record {
  registrations =
      are.registrations
      ∙ ap (λ (due : ℕ). before_and_since (address_of_id addresses) (address_of_id at_flip) next due registered)
      (let none : before - next ≡ 0 = omega (arith, all) in none)
      ∙ none_due (address_of_id addresses) (address_of_id at_flip) next registered;
  waiting = are.waiting;
}

-- over a step that examines nothing
pub finals_stay : (at_flip : List (Option Address)) (x y : Collecting) (f : FinalsState) → Running x
    → AreOthersInPlace x y.world.addresses → y.next ≡ x.next → y.running.registered_before ≡ x.running.registered_before
    → y.world.graph.registered ≡ x.world.graph.registered → y.world.graph.messages ≡ x.world.graph.messages
    → AreFinalsOf at_flip x f → AreFinalsOf at_flip y f
finals_stay at_flip x y f run place next before regs messages are =
    let now = finals_in_place at_flip y.world.addresses x f run place are in
    record {
      registrations =
          now.registrations
          ∙ ap₂ (λ (n : ℕ) (rs : List Id). before_and_since (address_of_id y.world.addresses) (address_of_id at_flip) n
          (x.running.registered_before - n) rs) (sym next) (sym regs)
          ∙ ap (λ (b : ℕ). before_and_since (address_of_id y.world.addresses) (address_of_id at_flip) y.next (b - y.next)
          y.world.graph.registered) (sym before);
      waiting = now.waiting ∙ ap (map (address_of_id y.world.addresses)) (sym messages);
    }

-- a registration that was due was examined, and its object lies at an address
pub finals_passed : (at_flip : List (Option Address)) (x : Collecting) (f : FinalsState) (id : Id) (to : Address)
    → x.next < x.running.registered_before → slice_get x.world.graph.registered x.next ≡ Some id
    → entry_at x.world.addresses id ≡ Some to → AreFinalsOf at_flip x f
    → AreFinalsOf at_flip (record x { band = Final; next = suc x.next }) (with_registered_at f x.next to)
finals_passed at_flip x f id to before here there are =
    let due : ℕ = x.running.registered_before - suc x.next in
    record {
      registrations =
          ap (λ l. slice_set l x.next to) are.registrations
          ∙ ap (λ (n : ℕ). slice_set (before_and_since (address_of_id x.world.addresses) (address_of_id at_flip) x.next n
          x.world.graph.registered) x.next to)
          (let one_more : x.running.registered_before - x.next ≡ suc due = omega (arith, before) in one_more)
          ∙ set_mix (address_of_id x.world.addresses) (address_of_id at_flip) x.next due x.world.graph.registered id to here
          (ap address_or_0 there);
      waiting = are.waiting;
    }

-- a registration was examined whose object was white, and was kept
module _ (at_flip : List (Option Address)) (x : Collecting) (f : FinalsState) (id : Id) (to : Address) (ms : List Move) (c : Collection)
    (run : Running x) (due : IsExaminedNext x id) (white : is_white_in x id ≡ true) (keep : Keeps x.world x.running id ms c)
    (there : entry_at (world_after_moves x.world ms).addresses id ≡ Some to) (are : AreFinalsOf at_flip x f) where
  abbrev regs : List Id
  regs = x.world.graph.registered

  abbrev w' : World
  w' = world_after_moves x.world ms

  abbrev now : Id → Address
  now = address_of_id w'.addresses

  first : StandsFirst regs id x.next
  first = legal.stands_first x run id due white

  live : is_live x.world id ≡ true
  live = run.examined.live_registered id (contains_at regs x.next id due.registered)

  kept : IsKept x.world x.running id w' c
  kept = keeps_leaves x.world x.running id run.runs run.different live keep

  same_registered : w'.graph.registered ≡ regs
  same_registered = ap (λ (v : World). v.graph.registered) kept.world

  same_messages : w'.graph.messages ≡ x.world.graph.messages
  same_messages = ap (λ (v : World). v.graph.messages) kept.world

  in_place : (n : Id) → is_white_in x n ≡ false → entry_at w'.addresses n ≡ entry_at x.world.addresses n
  in_place n black =
      ap (λ (v : World). entry_at v.addresses n) kept.world
      ∙ kept.others n (λ same. false≢true (sym black ∙ ap (is_white_in x) (sym same) ∙ white))

  abbrev was : Id → Address
  was = address_of_id at_flip

  -- how many are due then
  abbrev due_then : ℕ
  due_then = c.registered_before - 1 - x.next

  one_more : x.running.registered_before - x.next ≡ suc due_then
  one_more =
      let same = ap (λ (d : Collection). d.registered_before) kept.running in
      let before = due.before_flip in
      omega (arith, same, before)

  registered_so : f.registered ≡ mix (address_of_id x.world.addresses) was x.next (suc due_then) regs
  registered_so = are.registrations ∙ ap (λ (n : ℕ). mix (address_of_id x.world.addresses) was x.next n regs) one_more

  -- where a registration counts with the address of now, its object wasn't white
  others_in_place : (i m : ℕ) → (i < x.next) ⊎ (x.next + due_then ≤ i) → slice_get (without_first regs id) i ≡ Some m
      → address_of_id x.world.addresses m ≡ now m
  others_in_place i m where_it_is e =
      ap address_or_0 (sym (in_place m (elim where_it_is [
        | inl less ↦ run.examined.examined i m (sym (slice_get-without_before regs id x.next i first less) ∙ e) (inl less)
        | inr since ↦
            let before = one_more in
            let next = due.before_flip in
            run.examined.examined (suc i) m
            (sym (slice_get-without_after regs id x.next i first (omega (arith, since))) ∙ e)
            (inr (omega (arith, since, before, next)))
      ])))

  pub finals_posted : AreFinalsOf at_flip (collecting_after_post (kept_by x id ms c) id)
      (finals_after_post (with_registered_at f x.next to) x.next)
  finals_posted = record {
    registrations =
        ap (λ l. remove (slice_set l x.next to) x.next) registered_so
        ∙ remove_mix (address_of_id x.world.addresses) was x.next due_then regs id to due.registered
        ∙ ap₂ (λ (a b : List Id). map (address_of_id x.world.addresses) a
        ++ (map was (take due_then b) ++ map (address_of_id x.world.addresses) (drop due_then b)))
        (sym (take_first regs id x.next first)) (sym (drop_first regs id x.next first))
        ∙ mix_same (address_of_id x.world.addresses) now was x.next due_then (without_first regs id) others_in_place
        ∙ ap (λ (rs : List Id). mix now was x.next due_then (without_first rs id)) (sym same_registered);
    waiting =
        ap₂ (λ (l : List Address) (a : Address). l ++ a ∷ []) are.waiting
        (ap (λ l. slice_index_or (slice_set l x.next to) x.next 0) registered_so
        ∙ index_mix (address_of_id x.world.addresses) was x.next due_then regs id to due.registered)
        ∙ ap (λ l. l ++ to ∷ [])
        (map_all (address_of_id x.world.addresses) now x.world.graph.messages
        (λ i m e. ap address_or_0 (sym (in_place m (message_black x run i m e)))))
        ∙ ap (λ a. map now x.world.graph.messages ++ a ∷ []) (sym (ap address_or_0 there))
        ∙ sym (map_last now x.world.graph.messages id)
        ∙ ap (λ (l : List Id). map now (l ++ id ∷ [])) (sym same_messages);
  }
