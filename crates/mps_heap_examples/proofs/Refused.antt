-- A number that isn't written: why, and that the heap represents the same.
use Rattle.std.proofs.Common.{ℕ, refl, subst, [], Ok, Err}
use Rattle.std.specs.Prelude.{Contains, IfErr, Result}
use Rattle.mps_base.specs.declared.names.Slot.{Slot}
use Rattle.mps_base.specs.declared.refusal.Refusal.{Refusal}
use Rattle.mps_format.specs.Layout.{Layout}
use Rattle.mps_model.specs.declared.call.Call.TheVariants as call
use Rattle.mps_model.specs.Answer.{refused}
use Rattle.mps_model.specs.History.{with_client_remembered}
use Rattle.mps_model.specs.World.{World}
use Rattle.mps_client_laws.proofs.RefusedSteps.{refused_steps_are_listed, refused_steps_change_nothing}
use Rattle.mps_heap_spec.specs.State.{HeapState}
use Rattle.mps_refinement.specs.Answering.{answer_to, says_ok}
use Rattle.mps_refinement.specs.RightStep.{IsRight, step_of}
use Rattle.mps_refinement.specs.StandsFor.{StandsFor}
use Rattle.mps_heap_examples.specs.Addresses.{refusals_of_writing}

module _ {F A : Type 0} (layout : F → Layout) (before after : HeapState F) (slot : Slot) (cell number : ℕ) (w : World)
    (stands : StandsFor layout before w) where
  pub refusal_is_listed : (result : Result A Refusal)
      → IsRight layout before (call.SetNumber slot cell number) [] (answer_to says_ok result) after
      → IfErr result (λ why. Contains refusals_of_writing why)
  refusal_is_listed (Ok a) right = tt
  refusal_is_listed (Err why) right =
      let s = step_of 0 (call.SetNumber slot cell number) [] (refused why) in
      refused_steps_are_listed w s why (right w 0 stands).legal refl

  pub refused_changes_nothing : (result : Result A Refusal)
      → IsRight layout before (call.SetNumber slot cell number) [] (answer_to says_ok result) after
      → IfErr result (λ why. StandsFor layout after (with_client_remembered w))
  refused_changes_nothing (Ok a) right = tt
  refused_changes_nothing (Err why) right =
      let s = step_of 0 (call.SetNumber slot cell number) [] (refused why) in
      let there = right w 0 stands in
      subst (StandsFor layout after) (refused_steps_change_nothing w s why there.legal refl refl) there.stands
