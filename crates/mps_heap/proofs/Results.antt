-- What was right of a result is right of what is made of it.
use Rattle.std.proofs.Common.{◌≡◌, ℕ, refl, sym, ap, subst, [], Result, Ok, Err}
use Rattle.mps_base.specs.declared.address.Addr.{Addr}
use Rattle.mps_base.specs.declared.refusal.Refusal.{Refusal}
use Rattle.mps_base.specs.declared.refusal.Refusal.TheVariants as refusal
use Rattle.mps_format.specs.Layout.{Layout}
use Rattle.mps_model.specs.declared.call.Call.{Call}
use Rattle.mps_model.specs.declared.call.Call.TheVariants as call
use Rattle.mps_model.specs.World.{World}
use Rattle.mps_heap_spec.specs.Arena.{BlockBegins, IsNotDumped}
use Rattle.mps_heap_spec.specs.State.{HeapState}
use Rattle.mps_refinement.specs.Answering.{answer_to, says_word}
use Rattle.mps_refinement.specs.Making.{IsRightMaking, IsRightMakingIn}
use Rattle.mps_refinement.specs.RightStep.{IsRight}
use Rattle.mps_refinement.specs.InWorlds.{SaysLength}
use Rattle.mps_refinement.proofs.Calls.InWorlds.{says_length}
use Rattle.mps_refinement.proofs.Calls.Dumps.{dump_answers, none_there, not_dumped_is_right}
use Rattle.mps_heap.specs.Answers.{says_address, says_words}
use Rattle.mps_heap_making.specs.Results.{without_key}
use Rattle.std.specs.Prelude.{IfOk, MatchResult, false, is_some}

module _ {F : Type 0} (layout : F → Layout) where
  pub making_without_key : (h after : HeapState F) (c : Call) (made : Result ℕ Refusal) (told : Result (Unit {0}) Refusal)
      → told ≡ without_key made → IsRightMaking layout h c made after → IsRightMaking layout h c told after
  making_without_key h after c made told is right =
      subst (λ r. IsRightMaking layout h c r after) (sym is) (of_made made right)
    where
      of_made : (r : Result ℕ Refusal) → IsRightMaking layout h c r after → IsRightMaking layout h c (without_key r) after
      of_made (Ok key) right = record { answered = λ other. right.answered (λ e. absurd cc); out_of_memory = λ e. absurd cc }
      of_made (Err refusal.OutOfMemory) right = record {
        answered = λ other. absurd (other refl);
        out_of_memory = λ e.
            right.out_of_memory refl;
      }
      of_made (Err _) right = record { answered = λ other. right.answered (λ e. absurd cc); out_of_memory = λ e. absurd cc }

  pub making_in_without_key : (Has : World → Type 0) (h after : HeapState F) (c : Call) (made : Result ℕ Refusal)
      (told : Result (Unit {0}) Refusal) → told ≡ without_key made → IsRightMakingIn layout Has h c made after
      → IsRightMakingIn layout Has h c told after
  making_in_without_key Has h after c made told is right =
      subst (λ r. IsRightMakingIn layout Has h c r after) (sym is) (of_made made right)
    where
      of_made : (r : Result ℕ Refusal) → IsRightMakingIn layout Has h c r after → IsRightMakingIn layout Has h c (without_key r) after
      of_made (Ok key) right = record { answered = λ other. right.answered (λ e. absurd cc); out_of_memory = λ e. absurd cc }
      of_made (Err refusal.OutOfMemory) right = record {
        answered = λ other. absurd (other refl);
        out_of_memory = λ e.
            right.out_of_memory refl;
      }
      of_made (Err _) right = record { answered = λ other. right.answered (λ e. absurd cc); out_of_memory = λ e. absurd cc }

  pub address_is_said : (at : Result ℕ Refusal) (result : Result Addr Refusal)
      → MatchResult result (λ address. at ≡ Ok address.0) (λ why. at ≡ Err why)
      → answer_to says_address result ≡ answer_to says_word at
  address_is_said at (Ok address) is = sym (ap (answer_to says_word) is)
  address_is_said at (Err why) is = sym (ap (answer_to says_word) is)

  pub dump_is_right_of : (h : HeapState F) (at : Addr) (result : Result ℕ Refusal)
      → MatchResult result (λ words. (is_some h.running ≡ false) × BlockBegins h at.0 words) (λ why. IsNotDumped h at.0 why)
      → IsRight layout h (call.Dump at.0) [] (answer_to (says_words h.segs.words at) result) h
  dump_is_right_of h at (Ok words) begins = dump_answers layout h at.0 (none_there h.running begins.0) words begins.1
  dump_is_right_of h at (Err why) isnt = not_dumped_is_right layout h at.0 why isnt

  pub says_length_of : (h : HeapState F) (at : Addr) (result : Result ℕ Refusal)
      → MatchResult result (λ words. (is_some h.running ≡ false) × BlockBegins h at.0 words) (λ why. IsNotDumped h at.0 why)
      → IfOk result (λ words. SaysLength layout h at.0 words)
  says_length_of h at (Ok words) begins = says_length layout h at.0 words begins.1
  says_length_of h at (Err why) isnt = tt
