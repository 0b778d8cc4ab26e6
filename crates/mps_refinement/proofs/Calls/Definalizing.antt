-- `definalize` is right: the registration that it takes away is the first of the object, wherever that was registered.
use Rattle.std.proofs.Common.{◌≡◌, ◌∙◌, ℕ, ◌+◌, Bool, true, false, refl, sym, ap, ap₂, subst, List, [], ◌∷◌, map, Option, Some, None, inl, inr, Ok, Err}
use Rattle.std.proofs.lemmas.Bool.{and_parts, cases_eq, eq-eqb, ne_eqb}
use Rattle.std.specs.Prelude.{◌==◌, option_map, if◌then◌else◌}
use Rattle.std.specs.List.{list_all, remove}
use Rattle.std.specs.Option.{option_map_or}
use Rattle.mps_base.specs.Address.{Address, Id}
use Rattle.mps_base.specs.declared.names.Slot.{Slot}
use Rattle.mps_base.specs.declared.refusal.Refusal.TheVariants as refusal
use Rattle.mps_trace.specs.State.{position_of}
use Rattle.mps_format.specs.Layout.{Layout}
use Rattle.mps_laws.proofs.Same.{BothOrNeither, both, neither, fits, same_required, same_then, Same}
use Rattle.mps_laws.proofs.Sound.SoundGraph.{All}
use Rattle.mps_model.specs.declared.call.Call.TheVariants as call
use Rattle.mps_model.specs.Checked.{Checked, ◌>>=◌, ◌>>◌, Numbered, Act, Found, required}
use Rattle.mps_model.specs.Answer.{Replied, refused}
use Rattle.mps_model.specs.Checked as checked
use Rattle.mps_model.specs.Collecting as collecting
use Rattle.mps_model.specs.declared.reply.Reply.TheVariants as reply
use Rattle.mps_laws.proofs.Same as same
use Rattle.mps_model.specs.Graph.{entry_at, is_automatic, position_of_first, without_first, Object}
use Rattle.mps_model.specs.World.{World, is_live, object_is}
use Rattle.mps_model.specs.WellFormed.{is_live_automatic}
use Rattle.mps_heap_spec.specs.Coming.{Comes, Outcome, answered, state_from}
use Rattle.mps_heap_spec.specs.Finalizing.{running_without, without_registered}
use Rattle.mps_heap_spec.specs.State.{HeapState}
use Rattle.mps_refinement.proofs.Worlds.CollectorKept.{all_kept, KeepsCollector, time_after}
use Rattle.mps_refinement.specs.RightStep.{IsRight, IsRightFrom, step_of}
use Rattle.mps_refinement.specs.StandsFor.{AreParts, IsInTime, Past, address_of_id, StandsFor, AreRegisteredAt, collector_of, rests, runs}
use Rattle.mps_refinement.proofs.Lookups.Found.{some_there}
use Rattle.mps_refinement.proofs.Worlds.Known.{IsKnown, known_now}
use Rattle.mps_refinement.proofs.Lookups.LiveObjects.{different, object_same}
use Rattle.mps_refinement.proofs.Parts.PartsByKind.{parts_of_kinds, arena_of, image_of, points_of, pools_of, roots_of, states_of}
use Rattle.mps_refinement.proofs.Parts.Registered.{one_less}
use Rattle.mps_refinement.proofs.Worlds.Steps.{answer_to, HasParts, answered_is_right}
use Rattle.mps_refinement.proofs.Calls.Readings.{says_ok}
use Rattle.mps_refinement.proofs.Lookups.Resolving.{all_can_be_found, found_position, registered_read}
use Rattle.mps_refinement.proofs.Parts.Resting.{registered_at_rest}
use Rattle.mps_heap_spec.specs.Finalizing.{CanUnregister, HasPosition, IsUnregistered, after_definalize}
use Rattle.mps_heap_spec.specs.declared.found.Block.{Block}
use Rattle.mps_model.specs.declared.call.Call.{Call}
use Rattle.mps_model.specs.Reply.{act}
use Rattle.mps_abstract.specs.ClientLaws.{position_taken}
use Rattle.mps_heap_spec.specs.Finding.{object_in}
use Rattle.mps_refinement.proofs.Parts.Named.{named_alike, named_at}
use Rattle.mps_refinement.proofs.Parts.PartsMade.{all_stay}

-- ---- checks in a row

then_then : {A B C : Type 0} (x : Checked A) (f : A → Checked B) (g : B → Checked C) → ((x >>= f) >>= g) ≡ (x >>= (λ a. f a >>= g))
then_then (Ok a) f g = refl
then_then (Err why) f g = refl

same_after : {A B : Type 0} (x : Checked A) {f g : A → Checked B} → ((a : A) → f a ≡ g a) → (x >>= f) ≡ (x >>= g)
same_after (Ok a) each = each a
same_after (Err why) each = refl

then_ok : {A : Type 0} (x : Checked A) → (x >>= (λ a. Ok a)) ≡ x
then_ok (Ok a) = refl
then_ok (Err why) = refl

-- an address stands first where its id does
positions : (f : Id → Address) (test : Id → Bool) (id : Id) → ((m : Id) → test m ≡ true → f m ≡ f id → m ≡ id) → (ids : List Id)
    → All test ids → position_of (map f ids) (f id) ≡ position_of_first ids id
positions f test id one [] all = refl
positions f test id one (m ∷ ms) all =
    let parts = and_parts (test m) (list_all test ms) all in
    ap₂ (λ (b : Bool) o. if b then Some 0 else option_map (λ (p : ℕ). p + 1) o) (tested parts.0) (positions f test id one ms parts.1)
  where
    tested : test m ≡ true → (f m == f id) ≡ (m == id)
    tested passes = elim (cases_eq m id) [
      | inl same ↦ eq-eqb (f m) (f id) (ap f same) ∙ sym (eq-eqb m id same)
      | inr n ↦ ne_eqb (f m) (f id) (λ e. n (one m passes e)) ∙ sym (ne_eqb m id n)
    ]

-- what comes next, with what the first check came to
same_next_at : {A B C D : Type 0} {Fits : A → B → Type 0} {FitNext : C → D → Type 0} {x : Checked A} {y : Checked B} {v : Checked C}
    {g : B → Checked D} → Same Fits x y → ((a : A) (b : B) → x ≡ Ok a → Fits a b → Same FitNext v (g b)) → Same FitNext (x >> v) (y >>= g)
same_next_at (fits {a} {b} fit) next = next a b refl fit
same_next_at same.refused next = same.refused

module _ {F : Type 0} (layout : F → Layout) (h : HeapState F) (slot : Slot) (found : Option ℕ)
    (first : (b : Block F) → object_in layout h slot ≡ Ok b → HasPosition layout h b.at found) where
  module _ (w : World) (past : Past) (parts : AreParts layout past h w) (knows : IsKnown past.time w)
      (time : IsInTime past.time (collector_of h) w) where
    -- where no collection runs, registrations have the addresses of now; and where one runs, that is what `find` leads to
    position_now : (at : Address) → HasPosition layout h at found
        → found ≡ position_of (map (address_of_id w.addresses) w.graph.registered) at
    position_now at has = of_time time
      where
        of_time : IsInTime past.time (collector_of h) w → found ≡ position_of (map (address_of_id w.addresses) w.graph.registered) at
        of_time (rests rest) =
            has.rests rest.not_running ∙ ap (λ ats. position_of ats at) (registered_at_rest layout past h w parts rest.time)
        of_time (runs x r) =
            found_position layout past h w parts knows past.time.next past.time.registered_before h.finals.registered w.graph.registered
            (registered_read past.time (collector_of h) w time) knows.formed.registered parts.registered at found
            (has.runs r.run r.running)

    -- a live object alone has its address
    one_with_address : (id : Id) (at : Address) → entry_at w.addresses id ≡ Some at → (m : Id) → is_live_automatic w m ≡ true
        → address_of_id w.addresses m ≡ address_of_id w.addresses id → m ≡ id
    one_with_address id at there m passes same =
        let other = some_there (entry_at w.addresses m) (and_parts (is_live w m) (object_is is_automatic w m) passes).0 in
        different layout past h w parts m id other.0 other.1
        (there ∙ ap Some (sym (ap (λ o. option_map_or (λ x. x) o 0) there) ∙ sym same ∙ ap (λ o. option_map_or (λ x. x) o 0) other.1))

    same_position : (id : Id) (at : Address) → entry_at w.addresses id ≡ Some at → HasPosition layout h at found
        → found ≡ position_of_first w.graph.registered id
    same_position id at there has =
        position_now at has
        ∙ ap (position_of (map (address_of_id w.addresses) w.graph.registered)) (sym (ap (λ o. option_map_or (λ x. x) o 0) there))
        ∙ positions (address_of_id w.addresses) (is_live_automatic w) id (one_with_address id at there) w.graph.registered
        knows.formed.registered

    both_positions : (o p : Option ℕ) → o ≡ p → BothOrNeither (λ (a b : ℕ). (a ≡ b) × (p ≡ Some b)) o p
    both_positions o p e = subst (λ x. BothOrNeither (λ (a b : ℕ). (a ≡ b) × (p ≡ Some b)) x p) (sym e) (of_position p refl)
      where
        of_position : (q : Option ℕ) → p ≡ q → BothOrNeither (λ (a b : ℕ). (a ≡ b) × (p ≡ Some b)) q q
        of_position None f = neither
        of_position (Some position) f = both (refl, f)

    -- the parts, with the registration taken away
    parts_without : (ours position : ℕ) (id : Id) → ours ≡ position → position_of_first w.graph.registered id ≡ Some position
        → HasParts layout (time_after (Ok position) past.time) (without_registered h ours) (record w {
          graph = record w.graph { registered = without_first w.graph.registered id };
          collection = option_map (collecting.without_registration position) w.collection;
        })
    parts_without ours position id same at = record {
      past = record past { time = time_after (Ok position) past.time };
      timed = refl;
      parts = parts_of_kinds (arena_of parts) (image_of parts) (roots_of parts) (points_of parts) (
        subst (λ n. AreRegisteredAt (time_after (Ok position) past.time) w.addresses (remove h.finals.registered n)
            (without_first w.graph.registered id)) (sym same)
            (one_less w.addresses past.time.at_flip past.time.next past.time.registered_before h.finals.registered w.graph.registered id
            position at parts.registered),
        parts.messages,
      )
          parts.dependencies (pools_of parts)
          (named_at past (time_after (Ok position) past.time) (without_registered h ours) w.graph.names w.graph.labels
          (named_alike h (without_registered h ours) past w.graph.names w.graph.labels parts.names (λ name. refl) refl
          (all_stay h (without_registered h ours) refl refl refl refl refl refl)))
          (states_of parts);
    }

  -- ---- the act, with the position that is taken

  module _ (w : World) where
    abbrev the_call : Call
    the_call = call.Definalize slot

    -- the world without the registration of an object at a position
    abbrev world_without : (id position : ℕ) → World
    world_without id position = record w {
      graph = record w.graph { registered = without_first w.graph.registered id };
      collection = option_map (collecting.without_registration position) w.collection;
    }

    abbrev act_at : Numbered Object → (position : ℕ) → Act
    act_at object position = record { answer = Replied reply.Ok; world = world_without object.number position }

    abbrev both_at : Numbered Object → Checked (Act × ℕ)
    both_at object =
        required (position_of_first w.graph.registered object.number) refusal.NotRegistered
        >>= (λ position. Ok (act_at object position, position))

    abbrev both_of : Checked (Act × ℕ)
    both_of =
        checked.slot_in w slot >>= (λ (from : Found (Option ℕ)). checked.object_in w from.value >>= both_at)

    -- what comes of it, read from both
    reads : {A : Type 0} (k : Act × ℕ → Checked A) → (both_of >>= k)
        ≡ (checked.slot_in w slot >>= (λ (from : Found (Option ℕ)). checked.object_in w from.value
        >>= (λ object. required (position_of_first w.graph.registered object.number) refusal.NotRegistered
        >>= (λ position. k (act_at object position, position)))))
    reads k =
        then_then (checked.slot_in w slot) (λ (from : Found (Option ℕ)). checked.object_in w from.value >>= both_at) k
        ∙ same_after (checked.slot_in w slot) (λ from.
        then_then (checked.object_in w from.value) both_at k
        ∙ same_after (checked.object_in w from.value) (λ object.
        then_then (required (position_of_first w.graph.registered object.number) refusal.NotRegistered)
        (λ position. Ok (act_at object position, position)) k))

    acts_so : act false w w the_call ≡ (both_of >>= (λ b. Ok b.0))
    acts_so = sym (reads (λ b. Ok b.0))

    takes_so : position_taken w the_call ≡ (both_of >>= (λ b. Ok b.1))
    takes_so =
        sym (reads (λ b. Ok b.1) ∙ same_after (checked.slot_in w slot) (λ from.
        same_after (checked.object_in w from.value) (λ object.
        then_ok (required (position_of_first w.graph.registered object.number) refusal.NotRegistered))))

  -- an outcome leads to what an act comes to that takes the registration at a position away
  record TakesAway (past : Past) (w : World) (o : Outcome F (Unit {0})) (b : Act × ℕ) : Type 0 where
    answer : (b.0).answer ≡ Replied reply.Ok
    formats : (b.0).world.formats ≡ w.formats
    keeps : KeepsCollector (Ok b.1) (collector_of h) (collector_of o.state)
    has : HasParts layout (time_after (Ok b.1) past.time) o.state (b.0).world

  unregistered_same : (w : World) (past : Past) → AreParts layout past h w → IsKnown past.time w
      → IsInTime past.time (collector_of h) w → Same (TakesAway past w) (after_definalize layout found h slot) (both_of w)
  unregistered_same w past parts knows time =
      subst (Same (TakesAway past w) (after_definalize layout found h slot))
      (then_then (checked.slot_in w slot) (λ (from : Found (Option ℕ)). checked.object_in w from.value) (both_at w))
      (same_next_at (object_same layout past h w parts knows slot) (λ b n at_slot is.
      same_then (same_required refusal.NotRegistered
      (both_positions w past parts knows time found (position_of_first w.graph.registered n.number)
      (same_position w past parts knows time n.number b.at is.address (first b at_slot))))
      (λ ours position at.
      fits (record {
        answer = refl;
        formats = refl;
        keeps = (
          refl,
          refl,
          refl,
          λ pool generation. refl,
          ap (λ p. option_map (running_without p) h.running) at.0,
        );
        has = parts_without w past parts knows time ours position n.number at.0 at.1;
      }))))

  -- the object loses its first registration
  definalized_is_right : (result : Checked (Unit {0})) (after : HeapState F)
      → Comes h (after_definalize layout found h slot) result after
      → IsRight layout h (call.Definalize slot) [] (answer_to says_ok result) after
  definalized_is_right result after comes w line st =
      subst (λ s. IsRightFrom layout h w (step_of line (call.Definalize slot) [] (answer_to says_ok result)) s) (sym comes.state)
      (subst (λ r. IsRightFrom layout h w (step_of line (call.Definalize slot) [] (answer_to says_ok r))
      (state_from h (after_definalize layout found h slot))) (sym comes.answer)
      (of_both (after_definalize layout found h slot) (both_of w) refl (unregistered_same w st.past st.parts (known_now st) st.time)))
    where
      of_both : (o : Checked (Outcome F (Unit {0}))) (y : Checked (Act × ℕ)) → both_of w ≡ y → Same (TakesAway st.past w) o y
          → IsRightFrom layout h w (step_of line (call.Definalize slot) [] (answer_to says_ok (answered o))) (state_from h o)
      of_both o y is (fits {a = out} {b = b} leads) =
          let taken : position_taken w (call.Definalize slot) ≡ Ok b.1 = takes_so w ∙ ap (λ z. z >>= (λ p. Ok p.1)) is in
          answered_is_right layout w line (call.Definalize slot) (Replied reply.Ok) refl h st (Ok b.0) out.state
          (subst (λ p. KeepsCollector p (collector_of h) (collector_of out.state)) (sym taken) leads.keeps)
          (acts_so w ∙ ap (λ z. z >>= (λ p. Ok p.0)) is) (sym leads.answer) (λ y of condemned colours. tt) leads.formats
          (subst (λ p. HasParts layout (time_after p st.past.time) out.state (b.0).world) (sym taken) leads.has)
      of_both o y is (same.refused {why = why}) =
          let taken : position_taken w (call.Definalize slot) ≡ Err why = takes_so w ∙ ap (λ z. z >>= (λ p. Ok p.1)) is in
          answered_is_right layout w line (call.Definalize slot) (refused why) refl h st (Err why) h
          (subst (λ p. KeepsCollector p (collector_of h) (collector_of h)) (sym taken) (all_kept h))
          (acts_so w ∙ ap (λ z. z >>= (λ p. Ok p.0)) is) refl (λ y of condemned colours. tt) refl
          (subst (λ p. HasParts layout (time_after p st.past.time) h w) (sym taken)
          (record { past = st.past; timed = refl; parts = st.parts }))

pub unregistered_right : {F : Type 0} (layout : F → Layout) (h : HeapState F) (slot : Slot) (result : Checked (Unit {0}))
    (after : HeapState F) → IsUnregistered layout h slot result after
    → IsRight layout h (call.Definalize slot) [] (answer_to says_ok result) after
unregistered_right layout h slot result after is = definalized_is_right layout h slot is.position is.first result after is.comes

-- ---- what the call asks `find` for

-- of each registration it can be asked, at any time
pub can_unregister : {F : Type 0} (layout : F → Layout) (h : HeapState F) (w : World) → StandsFor layout h w → CanUnregister layout h
can_unregister layout h w st run running n at listed =
    let t = st.past.time in
    let knows = known_now st in
    all_can_be_found layout st.past h w st.parts knows t.next t.registered_before h.finals.registered w.graph.registered
    (registered_read t knows.collector w knows.now) knows.formed.registered st.parts.registered n at listed
