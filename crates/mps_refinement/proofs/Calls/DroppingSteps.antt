-- Calls that drop a thing: where what is dropped stands for what the model drops, the call is right.
use Rattle.std.proofs.Common.{◌≡◌, false, refl, sym, subst, [], Ok, Err, true}
use Rattle.mps_base.specs.declared.names.Name.{Name}
use Rattle.mps_base.specs.declared.refusal.Refusal.{Refusal}
use Rattle.mps_format.specs.Layout.{Layout}
use Rattle.mps_laws.proofs.Same.{Same, fits, refused, same_err}
use Rattle.mps_model.specs.declared.call.Call.{Call}
use Rattle.mps_model.specs.declared.reply.Reply.TheVariants as reply
use Rattle.mps_model.specs.Answer.{Replied}
use Rattle.mps_model.specs.Answer as answers
use Rattle.mps_model.specs.Checked.{Act, Checked}
use Rattle.mps_model.specs.Reply.{act}
use Rattle.mps_model.specs.World.{World}
use Rattle.mps_names.specs.State.{NamesState, Updates}
use Rattle.mps_heap_spec.specs.Making.{IsDropping, NotDropped, Dropped}
use Rattle.mps_heap_spec.specs.State.{HeapState}
use Rattle.mps_refinement.proofs.Worlds.CollectorKept.{KeepsAll, all_kept}
use Rattle.mps_refinement.specs.Answering.{answer_to, says_ok}
use Rattle.mps_refinement.specs.RightStep.{IsRight}
use Rattle.mps_refinement.specs.StandsFor.{AreParts, Past, collector_of}
use Rattle.mps_refinement.proofs.Worlds.Steps.{HasParts, plain_is_right}
use Rattle.std.specs.Prelude.{None}
use Rattle.mps_refinement.proofs.Worlds.Known.{IsKnown, known_now}
use Rattle.mps_refinement.proofs.Worlds.RunningActs.{is_plain}
use Rattle.mps_refinement.specs.QuietCalls.{never_moves}

-- where the heap's checks come to something, so do the model's, and they fit
pub ours_ok : {A B : Type 0} (Fits : A → B → Type 0) (x : Checked A) (y : Checked B) (a : A) → Same Fits x y → x ≡ Ok a
    → (b : B) × (y ≡ Ok b) × Fits a b
ours_ok Fits x y a (fits {a = value} {b = b} fit) e =
    let same : value ≡ a = cc in (b, refl, subst (λ z. Fits z b) same fit)
ours_ok Fits x y a refused e = absurd cc

module _ {F : Type 0} (layout : F → Layout) (h : HeapState F) (name : Name) (c : Call) (dropped : Checked (NamesState → HeapState F)) where
  -- what is left stands for the world that the model leaves, whatever the order of the names that are left
  pub record DropsTo (past : Past) (w : World) (rest : NamesState → HeapState F) (a : Act) : Type 0 where
    pub answer : a.answer ≡ Replied reply.Ok
    pub formats : a.world.formats ≡ w.formats
    pub keeps : (names : NamesState) → KeepsAll (collector_of h) (collector_of (rest names))
    pub has : (names : NamesState) → Updates h.names names name None → HasParts layout past.time (rest names) a.world

  abbrev pub DropsAlike : Past → World → Type 0
  DropsAlike past w = Same (DropsTo past w) dropped (act false w w c)

  pub dropping_is_right : never_moves c ≡ true → is_plain c ≡ true
      → ((w : World) (past : Past) → AreParts layout past h w → IsKnown past.time w → DropsAlike past w)
      → (result : Checked (Unit {0})) (after : HeapState F) → IsDropping h name dropped result after
      → IsRight layout h c [] (answer_to says_ok result) after
  dropping_is_right quiet arena alike result after dropping = of_dropping dropping
    where
      refused_right : (why : Refusal) → dropped ≡ Err why → IsRight layout h c [] (answers.refused why) h
      refused_right why e = λ w line st.
          plain_is_right layout w line c (answers.refused why) (Err why) h h quiet arena st (all_kept h)
          (same_err (DropsTo st.past w) dropped (act false w w c) why
          (alike w st.past st.parts (known_now st)) e) refl refl
          (record { past = st.past; timed = refl; parts = st.parts })

      dropped_right : (rest : NamesState → HeapState F) (s : HeapState F) → dropped ≡ Ok rest → Updates h.names s.names name None
          → s ≡ rest s.names → IsRight layout h c [] (Replied reply.Ok) s
      dropped_right rest s e names is = λ w line st.
          let y = ours_ok (DropsTo st.past w) dropped (act false w w c) rest
          (alike w st.past st.parts (known_now st)) e in
          plain_is_right layout w line c (Replied reply.Ok) (Ok y.0) h s quiet arena st
          (subst (λ (z : HeapState F). KeepsAll (collector_of h) (collector_of z)) (sym is) ((y.2).keeps s.names)) y.1
          (sym (y.2).answer) (y.2).formats (subst (λ z. HasParts layout st.past.time z (y.0).world) (sym is) ((y.2).has s.names names))

      of_dropping : {result : Checked (Unit {0})} {after : HeapState F} → IsDropping h name dropped result after
          → IsRight layout h c [] (answer_to says_ok result) after
      of_dropping (NotDropped {why = why} e) = refused_right why e
      of_dropping (Dropped {rest = rest} {after = s} e names is) = dropped_right rest s e names is
