-- Calls that make a thing: where the checks of the heap and of the model come to the same, and what is made stands for what the model
-- makes, the call is right.
use Rattle.std.proofs.Common.{◌≡◌, ◌∙◌, ℕ, ◌+◌, Bool, true, false, refl, sym, ap, [], Option, Some, None, Ok, Err, subst}
use Rattle.std.specs.Prelude.{Result, is_some, nat_le, nat_lt, option_map}
use Rattle.mps_base.specs.declared.names.Name.{Name}
use Rattle.mps_base.specs.declared.refusal.Refusal.{Refusal}
use Rattle.mps_base.specs.declared.refusal.Refusal.TheVariants as refusal
use Rattle.mps_format.specs.Layout.{Layout}
use Rattle.mps_laws.proofs.Same.{Alike, Same, fits, same_err, same_next, same_refuse_when}
use Rattle.mps_model.specs.declared.call.Call.{Call}
use Rattle.mps_model.specs.declared.reply.Reply.TheVariants as reply
use Rattle.mps_model.specs.Answer.{Replied}
use Rattle.mps_model.specs.Checked.{Checked, ◌>>◌, done, refuse_when}
use Rattle.mps_model.specs.Graph as graph
use Rattle.mps_model.specs.Making as model
use Rattle.mps_model.specs.Making.{most_roots, most_slots}
use Rattle.mps_model.specs.Reply.{act}
use Rattle.mps_model.specs.World.{World}
use Rattle.mps_names.specs.State.{thing_named}
use Rattle.mps_names.specs.declared.names.Thing.{Thing}
use Rattle.mps_heap_spec.specs.Making.{IsMaking, IsUntouched, Refused, OutOfMemory, Made, refuse_taken, refuse_root}
use Rattle.mps_heap_spec.specs.State.{HeapState}
use Rattle.mps_refinement.proofs.Worlds.CollectorKept.{KeepsAll, all_kept}
use Rattle.mps_refinement.specs.Making.{IsRightMaking, IsRightMakingIn, answer_of_making}
use Rattle.mps_refinement.specs.RightStep.{IsRightFrom, step_of}
use Rattle.mps_refinement.specs.StandsFor.{AreParts, Past, StandsFor, numbered_thing, collector_of}
use Rattle.mps_refinement.proofs.Parts.PartsMade.{untouched_stands, untouched_parts}
use Rattle.mps_refinement.proofs.Worlds.Steps.{HasParts, plain_is_right}
use Rattle.mps_refinement.proofs.Worlds.Known.{IsKnown, known_now}
use Rattle.mps_refinement.proofs.Worlds.RunningActs.{is_plain}
use Rattle.mps_refinement.specs.QuietCalls.{never_moves}

-- ---- checks that were passed

pub refused_not : (b : Bool) (why : Refusal) → refuse_when b why ≡ Ok tt → b ≡ false
refused_not true why e = absurd cc
refused_not false why e = refl

pub first_passed : {A B : Type 0} (x : Checked A) (y : Checked B) (b : B) → (x >> y) ≡ Ok b → (a : A) × (x ≡ Ok a) × (y ≡ Ok b)
first_passed (Ok a) y b e = (a, refl, e)
first_passed (Err why) y b e = absurd cc

not_there : {A : Type 0} (o : Option A) → is_some o ≡ false → o ≡ None
not_there None e = refl
not_there (Some a) e = absurd cc

-- checks in a row, and what comes after them
pub checks_then : {A B C : Type 0} (x : Checked A) (y : Checked B) (z : Checked C) → (x >> (y >> z)) ≡ ((x >> y) >> z)
checks_then (Ok a) y z = refl
checks_then (Err why) y z = refl

module _ {F : Type 0} (layout : F → Layout) (past : Past) (h : HeapState F) (w : World) (parts : AreParts layout past h w) where
  -- a name that is taken
  pub taken_same : (name : Name) → Alike (refuse_taken h name) (model.refuse_taken w name)
  taken_same name =
      same_refuse_when (is_some (thing_named h.names name)) (graph.is_taken w.graph name) refusal.NameTaken
      (mapped (thing_named h.names name) ∙ ap is_some (sym (parts.names.named name)))
    where
      mapped : (o : Option Thing) → is_some o ≡ is_some (option_map (numbered_thing past) o)
      mapped None = refl
      mapped (Some t) = refl

  -- one more root of n slots
  pub root_same : (slots : ℕ) → Alike (refuse_root h slots) (model.refuse_root w slots)
  root_same slots =
      same_next
      (same_refuse_when (nat_le most_roots h.live_roots) (nat_le most_roots (model.live_roots w.graph)) (refusal.TooMany most_roots)
      (ap (nat_le most_roots) parts.roots_counted))
      (same_refuse_when (nat_lt most_slots (h.live_slots + slots)) (nat_lt most_slots (model.live_slots w.graph + slots))
      (refusal.TooMany most_slots)
      (ap (λ n. nat_lt most_slots (n + slots)) parts.slots_counted))

-- a name that wasn't taken
pub free_name : {F : Type 0} (h : HeapState F) (name : Name) → refuse_taken h name ≡ Ok tt → thing_named h.names name ≡ None
free_name h name e =
    not_there (thing_named h.names name) (refused_not (is_some (thing_named h.names name)) refusal.NameTaken e)

-- where the checks of the heap are passed, so are those of the model
pub alike_passed : (x y : Checked (Unit {0})) → Same (λ (a b : Unit {0}). Unit {0}) x y → x ≡ Ok tt → y ≡ Ok tt
alike_passed x y (fits fit) e = refl
alike_passed x y Rattle.mps_laws.proofs.Same.refused e = absurd cc

-- ---- the step

-- in a world: the model makes the same checks and then this world, for which the state stands once the thing is made
pub record MakesAlike {F : Type 0} (layout : F → Layout) (past : Past) (h : HeapState F) (w : World) (c : Call)
    (checks : Checked (Unit {0}))
    (Makes : ℕ → HeapState F → Type 0) : Type 0 where
  pub models : Checked (Unit {0})
  pub made : World
  pub comes : act false w w c ≡ (models >> done made)
  pub alike : Alike checks models
  pub formats : made.formats ≡ w.formats
  pub keeps : (key : ℕ) (after : HeapState F) → Makes key after → KeepsAll (collector_of h) (collector_of after)
  pub has : (key : ℕ) (after : HeapState F) → checks ≡ Ok tt → Makes key after → HasParts layout past.time after made

module _ {F : Type 0} (layout : F → Layout) (h : HeapState F) (c : Call) (checks : Checked (Unit {0}))
    (Makes : ℕ → HeapState F → Type 0) where
  -- in each world that has something
  pub making_is_right_in : (Has : World → Type 0) → never_moves c ≡ true → is_plain c ≡ true
      → ((w : World) (past : Past) → Has w → AreParts layout past h w → IsKnown past.time w → MakesAlike layout past h w c checks Makes)
      → (result : Result ℕ Refusal) (after : HeapState F) → IsMaking h checks Makes result after
      → IsRightMakingIn layout Has h c result after
  making_is_right_in Has quiet arena alike result after making = of_making making
    where
      Right : Result ℕ Refusal → HeapState F → Type 0
      Right result after =
          (w : World) (line : ℕ) → Has w → StandsFor layout h w
          → IsRightFrom layout h w (step_of line c [] (answer_of_making result)) after

      refused_right : (why : Refusal) → checks ≡ Err why → (after : HeapState F) → IsUntouched h after → Right (Err why) after
      refused_right why e after untouched = λ w line has st.
          let m = alike w st.past has st.parts (known_now st) in
          plain_is_right layout w line c (answer_of_making {A = ℕ} (Err why)) (Err why) h after quiet arena st
          (subst (λ (s : HeapState F). KeepsAll (collector_of h) (collector_of s)) (sym untouched.state) (all_kept h))
          (m.comes ∙ ap (λ x. x >> done m.made) (same_err (λ a b. Unit {0}) checks m.models why m.alike e)) refl refl
          (record {
            past = st.past;
            timed = refl;
            parts = subst (λ s. AreParts layout st.past s w) (sym untouched.state)
                (untouched_parts layout st.past h w st.parts after.names untouched.names untouched.counts);
          })

      made_right : (key : ℕ) → checks ≡ Ok tt → (after : HeapState F) → Makes key after → Right (Ok key) after
      made_right key e after makes = λ w line has st.
          let m = alike w st.past has st.parts (known_now st) in
          plain_is_right layout w line c (Replied reply.Ok) (done m.made) h after quiet arena st (m.keeps key after makes)
          (m.comes ∙ ap (λ x. x >> done m.made) (alike_passed checks m.models m.alike e)) refl m.formats (m.has key after e makes)

      of_making : {result : Result ℕ Refusal} {after : HeapState F} → IsMaking h checks Makes result after
          → IsRightMakingIn layout Has h c result after
      of_making (Refused {after = s} {why = why} e untouched) = record {
        answered = λ other. refused_right why e s untouched;
        out_of_memory = λ is w st. untouched_stands layout h s w untouched st;
      }
      of_making (OutOfMemory {after = s} e untouched) = record {
        answered = λ other. absurd (other refl);
        out_of_memory = λ is w st. untouched_stands layout h s w untouched st;
      }
      of_making (Made {after = s} {key = key} e makes) = record {
        answered = λ other. made_right key e s makes;
        out_of_memory = λ is. absurd cc;
      }

  pub making_is_right : never_moves c ≡ true → is_plain c ≡ true
      → ((w : World) (past : Past) → AreParts layout past h w → IsKnown past.time w → MakesAlike layout past h w c checks Makes)
      → (result : Result ℕ Refusal) (after : HeapState F) → IsMaking h checks Makes result after
      → IsRightMaking layout h c result after
  making_is_right quiet arena alike result after making =
      let r = making_is_right_in (λ w. Unit {0}) quiet arena (λ w past has. alike w past) result after making in
      record { answered = λ other w line. r.answered other w line tt; out_of_memory = r.out_of_memory }
