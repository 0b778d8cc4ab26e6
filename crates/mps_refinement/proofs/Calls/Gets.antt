-- `get` while no collection runs: no barrier comes before it, and every object is black.
use Rattle.std.proofs.Common.{◌≡◌, ℕ, true, refl, sym, ap, subst, [], Ok, Err}
use Rattle.mps_base.specs.declared.names.Slot.{Slot}
use Rattle.mps_format.specs.Layout.{Layout}
use Rattle.mps_abstract.specs.Colours.{is_black}
use Rattle.mps_laws.proofs.Same as same
use Rattle.mps_laws.proofs.Same.{Same, fits}
use Rattle.mps_model.specs.declared.call.Call.TheVariants as call
use Rattle.mps_model.specs.Accessing.{act_get}
use Rattle.mps_model.specs.Checked.{Act, Checked}
use Rattle.mps_model.specs.World.{World}
use Rattle.mps_heap_spec.specs.Coming.{Comes, Outcome}
use Rattle.mps_heap_spec.specs.Objects.{reference_got}
use Rattle.mps_heap_spec.specs.State.{HeapState}
use Rattle.mps_base.specs.declared.refusal.Refusal.TheVariants as refusal
use Rattle.mps_refinement.proofs.Worlds.CollectorKept.{all_kept}
use Rattle.mps_refinement.specs.Answering.{answer_to, says_ok}
use Rattle.mps_refinement.specs.RightStep.{IsRightIn, step_of}
use Rattle.mps_refinement.specs.StandsFor.{Rests, StandsFor, Time, collector_of}
use Rattle.mps_model.specs.Answer.{refused}
use Rattle.mps_refinement.proofs.Worlds.Known.{known_now}
use Rattle.mps_refinement.proofs.Calls.Objects.{reference_got_same}
use Rattle.mps_refinement.proofs.Worlds.Steps.{Leads, resting_is_right}

module _ {F : Type 0} (layout : F → Layout) (h : HeapState F) (target source : Slot) (k : ℕ) (result : Checked (Unit {0}))
    (after : HeapState F) (w : World) (line : ℕ) (st : StandsFor layout h w) (rest : Rests st.past.time (collector_of h) w) where
  abbrev IsRightGet : Checked (Unit {0}) → HeapState F → Type 0
  IsRightGet r s = IsRightIn layout w (step_of line (call.Get target source k) [] (answer_to says_ok r)) s

  of_both : (x : Checked (Outcome F (Unit {0}))) (y : Checked Act) → act_get w w target source k ≡ y
      → Same (Leads layout says_ok h st.past w) x y → Comes h x result after → IsRightGet result after
  of_both x y e (fits {a = out} {b = a} leads) comes =
      subst (IsRightGet result) (sym comes.state)
      (subst (λ r. IsRightGet r out.state) (sym comes.answer)
      (resting_is_right layout w line (call.Get target source k) (says_ok out.answer) refl refl st.reached
      (Err refusal.NotRegistered) st.past.time (collector_of h) (Ok a) out.state rest leads.keeps e (sym leads.answer)
      leads.has))
  of_both x y e (same.refused {why = why}) comes =
      subst (IsRightGet result) (sym comes.state)
      (subst (λ r. IsRightGet r h) (sym comes.answer)
      (resting_is_right layout w line (call.Get target source k) (refused why) refl refl st.reached
      (Err refusal.NotRegistered) st.past.time (collector_of h) (Err why) h rest (all_kept h) e refl
      (record { past = st.past; timed = refl; parts = st.parts })))

  all_black : (id : ℕ) → is_black st.past.time.condemned st.past.time.colours id ≡ true
  all_black id = ap (λ (t : Time). is_black t.condemned t.colours id) rest.time

  pub resting_get_is_right : Comes h (reference_got layout h target source k) result after → IsRightGet result after
  resting_get_is_right comes =
      of_both (reference_got layout h target source k) (act_get w w target source k) refl
      (reference_got_same layout h target source k w st.past st.parts (known_now st) (λ n f. all_black n.number)) comes
