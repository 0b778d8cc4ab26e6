-- `intern` and `label` are right.
use Rattle.std.proofs.Common.{◌≡◌, ◌∙◌, ℕ, ◌+◌, ◌<◌, false, refl, sym, ap, subst, [], length, Option, Some, None, Ok, Err, arith}
use Rattle.std.proofs.lemmas.Option.{none-some, same_Some}
use Rattle.std.specs.Prelude.{Result, nat_le, option_and_then, option_map, slice_get}
use Rattle.std.specs.Option.{option_map_or}
use Rattle.mps_base.specs.declared.address.Addr.{Addr}
use Rattle.mps_base.specs.declared.names.Name.{Name}
use Rattle.mps_base.specs.declared.names.Slot.{Slot}
use Rattle.mps_base.specs.declared.refusal.Refusal.{Refusal}
use Rattle.mps_base.specs.declared.refusal.Refusal.TheVariants as refusal
use Rattle.mps_format.specs.Layout.{Layout}
use Rattle.mps_laws.proofs.Lookups.{length-with_last, there_is}
use Rattle.mps_laws.proofs.Same.{Alike, Same, fits, refused, same_err, same_next, same_refuse_when, same_then}
use Rattle.mps_model.specs.declared.call.Call.TheVariants as call
use Rattle.mps_model.specs.declared.reply.Reply.TheVariants as reply
use Rattle.mps_model.specs.Answer.{Replied}
use Rattle.mps_model.specs.Answer as answers
use Rattle.mps_model.specs.Checked as model
use Rattle.mps_model.specs.Checked.{Act, Checked, Numbered, ◌>>=◌, ◌>>◌, numbered, says, with_graph}
use Rattle.mps_model.specs.Graph as graph
use Rattle.mps_model.specs.Graph.{with_last}
use Rattle.mps_model.specs.Labelling.{graph_with_label}
use Rattle.mps_model.specs.Making as making
use Rattle.mps_model.specs.Making.{most_labels, refuse_at_limit}
use Rattle.mps_model.specs.Reply.{act}
use Rattle.mps_model.specs.World.{World}
use Rattle.mps_names.specs.State.{as_label, thing_named}
use Rattle.mps_names.specs.declared.names.Thing.{Thing}
use Rattle.mps_names.specs.declared.names.Thing.TheVariants as thing
use Rattle.mps_heap_spec.specs.Finding.{label_named}
use Rattle.mps_heap_spec.specs.Labelling.{Interned, IsInterning, MakesLabel, NotInterned, check_label, labelled}
use Rattle.mps_heap_spec.specs.Making.{refuse_taken}
use Rattle.mps_heap_spec.specs.State.{HeapState}
use Rattle.mps_refinement.specs.Answering.{answer_to, says_interned, says_labelled}
use Rattle.mps_refinement.specs.RightStep.{IsRight}
use Rattle.mps_refinement.specs.StandsFor.{collector_of, AreNamed, AreParts, Past, numbered_thing}
use Rattle.mps_refinement.proofs.Calls.MakingSteps.{alike_passed, checks_then, first_passed, free_name, taken_same}
use Rattle.mps_refinement.proofs.Calls.Readings.{act_reading, reading_is_right}
use Rattle.mps_refinement.proofs.Lookups.Found.{same_of}
use Rattle.mps_refinement.proofs.Lookups.LiveObjects.{object_then}
use Rattle.mps_refinement.proofs.Lookups.Lookups.{key_same, own_number}
use Rattle.mps_refinement.proofs.Parts.Named.{named_with, stays_there}
use Rattle.mps_refinement.proofs.Parts.PartsMade.{all_stay, labels_changed}
use Rattle.mps_refinement.proofs.Worlds.CollectorKept.{KeepsAll, all_kept}
use Rattle.mps_refinement.proofs.Worlds.Steps.{HasParts, plain_is_right}

-- ---- a label is made

module _ {F : Type 0} (layout : F → Layout) (h : HeapState F) (w : World) (past : Past) (parts : AreParts layout past h w)
    (name : Name) where
  -- the checks of the model
  abbrev model_checks : Checked (Unit {0})
  model_checks = making.refuse_taken w name >> refuse_at_limit (length w.graph.labels) most_labels

  checks_alike : Alike (check_label h name) model_checks
  checks_alike =
      same_next (taken_same layout past h w parts name)
      (same_refuse_when (nat_le most_labels h.names.counts.labels) (nat_le most_labels (length w.graph.labels))
      (refusal.TooMany most_labels) (ap (nat_le most_labels) parts.names.label_count))

  abbrev after_intern : Checked Act
  after_intern = says (reply.Interned (length w.graph.labels)) (with_graph w (graph_with_label w.graph name))

  act_is : act false w w (call.Intern name) ≡ (model_checks >> after_intern)
  act_is = checks_then (making.refuse_taken w name) (refuse_at_limit (length w.graph.labels) most_labels) after_intern

  labels_named : (number : ℕ) (after : HeapState F) → thing_named h.names name ≡ None → MakesLabel h name number after
      → AreNamed past (record h { names = after.names })
      (with_last w.graph.names (record { name = name; thing = graph.LabelThing (length w.graph.labels) })) (with_last w.graph.labels name)
  labels_named number after free makes =
      named_with past past h (record h { names = after.names }) w.graph.names w.graph.labels parts.names name (thing.Label number)
      (graph.LabelThing (length w.graph.labels)) (with_last w.graph.labels name) makes.names free
      (ap graph.LabelThing (makes.number_is ∙ parts.names.label_count)) (λ other there. refl)
      (stays_there h (record h { names = after.names })
      (all_stay h (record h { names = after.names }) refl refl refl refl refl refl)) tt
      (λ m found. let low = parts.names.label_numbers m number found in
      let e : number ≡ length w.graph.labels = makes.number_is ∙ parts.names.label_count in omega (arith, low, e)) parts.names.cache_count
      (record {
        count = ap (λ n. n + 1) parts.names.label_count ∙ sym (length-with_last w.graph.labels name);
        no_fewer = let e = length-with_last w.graph.labels name in omega (arith, e);
        one = λ k same. its_number k same;
        transforms = parts.names.transform_count;
      })
    where
      its_number : (k : ℕ) → thing.Label number ≡ thing.Label k → k < length (with_last w.graph.labels name)
      its_number k same =
          let own : number ≡ k = cc in
          let e : number ≡ length w.graph.labels = makes.number_is ∙ parts.names.label_count in
          let longer = length-with_last w.graph.labels name in omega (arith, own, e, longer)

  label_parts : (number : ℕ) (after : HeapState F) → check_label h name ≡ Ok tt → MakesLabel h name number after
      → HasParts layout past.time after (with_graph w (graph_with_label w.graph name))
  label_parts number after passed makes = record {
    past = past;
    timed = refl;
    parts = subst (λ s. AreParts layout past s (with_graph w (graph_with_label w.graph name))) (sym makes.state)
        (labels_changed layout past h w parts after.names
        (with_last w.graph.names (record { name = name; thing = graph.LabelThing (length w.graph.labels) }))
        (with_last w.graph.labels name) (labels_named number after free makes));
  }
    where
      free : thing_named h.names name ≡ None
      free =
          free_name h name
          (first_passed (refuse_taken h name) (refuse_at_limit h.names.counts.labels most_labels) tt passed).1

module _ {F : Type 0} (layout : F → Layout) (h : HeapState F) (name : Name) where
  not_interned : (why : Refusal) → check_label h name ≡ Err why → IsRight layout h (call.Intern name) [] (answers.refused why) h
  not_interned why e = λ w line st.
      plain_is_right layout w line (call.Intern name) (answers.refused why) (Err why) h h refl refl st (all_kept h)
      (act_is layout h w st.past st.parts name
      ∙ ap (λ x. x >> after_intern layout h w st.past st.parts name)
      (same_err (λ a b. Unit {0}) (check_label h name) (model_checks layout h w st.past st.parts name) why
      (checks_alike layout h w st.past st.parts name) e)) refl refl
      (record { past = st.past; timed = refl; parts = st.parts })

  interned : (number : ℕ) (after : HeapState F) → check_label h name ≡ Ok tt → MakesLabel h name number after
      → IsRight layout h (call.Intern name) [] (says_interned number) after
  interned number after passed makes = λ w line st.
      plain_is_right layout w line (call.Intern name) (says_interned number) (after_intern layout h w st.past st.parts name) h after
      refl refl st
      (subst (λ (s : HeapState F). KeepsAll (collector_of h) (collector_of s)) (sym makes.state) (all_kept h))
      (act_is layout h w st.past st.parts name
      ∙ ap (λ x. x >> after_intern layout h w st.past st.parts name)
      (alike_passed (check_label h name) (model_checks layout h w st.past st.parts name) (checks_alike layout h w st.past st.parts name)
      passed))
      (ap says_interned (makes.number_is ∙ st.parts.names.label_count)) refl
      (label_parts layout h w st.past st.parts name number after passed makes)

  pub intern_is_right : (result : Result ℕ Refusal) (after : HeapState F) → IsInterning h name result after
      → IsRight layout h (call.Intern name) [] (answer_to says_interned result) after
  intern_is_right result after interning = of_interning interning
    where
      of_interning : {r : Result ℕ Refusal} {s : HeapState F} → IsInterning h name r s
          → IsRight layout h (call.Intern name) [] (answer_to says_interned r) s
      of_interning (NotInterned {why = why} e) = not_interned why e
      of_interning (Interned {after = s} {number = number} e makes) = interned number s e makes

-- ---- an object is labelled

-- checks of the model go on, where those of the heap are done
goes_on : {A B C : Type 0} {Fits : A → B → Type 0} {FitNext : A → C → Type 0} {x : Checked A} {y : Checked B} {g : B → Checked C}
    → Same Fits x y → ((a : A) (b : B) → Fits a b → Same FitNext (Ok a) (g b)) → Same FitNext x (y >>= g)
goes_on (fits {a} {b} fit) next = next a b fit
goes_on refused next = refused

labels_numbered : (past : Past) (t : Thing) → model.as_label (numbered_thing past t) ≡ option_map (λ (n : ℕ). n) (as_label t)
labels_numbered past (thing.Label number) = refl
labels_numbered past _ = refl

label_is : (o : Option Thing) (key : ℕ) → option_and_then as_label o ≡ Some key → o ≡ Some (thing.Label key)
label_is None key e = absurd (none-some key e)
label_is (Some (thing.Label number)) key e = ap (λ n. Some (thing.Label n)) (same_Some number key e)
label_is (Some _) key e = absurd (none-some key e)

abbrev IsLabelFound : ℕ → Numbered Name → Type 0
IsLabelFound key found = found.number ≡ key

module _ {F : Type 0} (layout : F → Layout) (past : Past) (h : HeapState F) (w : World) (parts : AreParts layout past h w) where
  label_same : (name : Name) → Same IsLabelFound (label_named h name) (model.label_named w name)
  label_same name =
      goes_on (key_same past h w parts.names as_label model.as_label own_number (labels_numbered past) name) (λ key number k.
      let low : key < length w.graph.labels = parts.names.label_numbers name key (label_is (thing_named h.names name) key k.named) in
      let there = there_is w.graph.labels key low in
      let has : slice_get w.graph.labels number ≡ Some there.0 = ap (slice_get w.graph.labels) k.number ∙ there.1 in
      same_of IsLabelFound refl (ap (numbered number) has) k.number)

module _ {F : Type 0} (layout : F → Layout) (h : HeapState F) where
  pub label_is_right : (slot : Slot) (name : Name) (result : Checked (Addr × ℕ)) → result ≡ labelled layout h slot name
      → IsRight layout h (call.Label slot name) [] (answer_to says_labelled result) h
  label_is_right slot name result =
      reading_is_right layout says_labelled h (call.Label slot name) refl refl (labelled layout h slot name) result
      (λ w past parts reached.
      object_then layout past h w parts reached slot (λ b n is.
      same_then (label_same layout past h w parts name) (λ number found same.
      fits (said w b.at n.number number found is.address same))))
    where
      said : (w : World) (at number label : ℕ) (found : Numbered Name)
          → graph.entry_at w.addresses number ≡ Some at → found.number ≡ label
          → act_reading w (Replied (reply.Labelled (record { 0 = option_map_or (λ (a : ℕ). a) (graph.entry_at w.addresses number) 0 })
          found.number))
          ≡ act_reading w (says_labelled (record { 0 = at }, label))
      said w at number label found there same =
          ap (λ o. act_reading w (Replied (reply.Labelled (record { 0 = option_map_or (λ (a : ℕ). a) o 0 }) found.number))) there
          ∙ ap (λ k. act_reading w (Replied (reply.Labelled (record { 0 = at }) k))) same
