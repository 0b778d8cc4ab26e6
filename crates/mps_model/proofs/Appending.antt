-- Histories and logs that go on: what holds of a whole by its two parts.
use Rattle.std.proofs.Common.{◌≡◌, ℕ, ◌+◌, refl, sym, ◌∙◌, ap, subst, List, [], ◌∷◌, ◌++◌, add_assoc, add-zero, Option, Some, None}
use Rattle.std.specs.Prelude.{option_and_then}
use Rattle.mps_base.specs.Record.{Record}
use Rattle.mps_model.specs.Step.{Step, History}
use Rattle.mps_model.specs.Log.{labelled_log_from, pools_made, pools_made_by, records_with_label}
use Rattle.mps_model.specs.Replay.{Store, store_after, replay_from}
use Rattle.mps_model.specs.World.{World}
use Rattle.mps_model.specs.History.{IsLegalFrom, IsLegalStep, world_after, world_after_steps}

append_assoc : {A : Type 0} (xs ys zs : List A) → (xs ++ ys) ++ zs ≡ xs ++ (ys ++ zs)
append_assoc [] ys zs = refl
append_assoc (x ∷ xs) ys zs = ap (λ rest. x ∷ rest) (append_assoc xs ys zs)

-- the world after a history that goes on
pub world_after_steps-append : (w : World) (h more : History)
    → world_after_steps w (h ++ more) ≡ world_after_steps (world_after_steps w h) more
world_after_steps-append w [] more = refl
world_after_steps-append w (s ∷ ss) more = world_after_steps-append (world_after w s) ss more

-- a legal history goes on by legal steps
pub IsLegalFrom-append : (w : World) (h more : History) → IsLegalFrom w h → IsLegalFrom (world_after_steps w h) more
    → IsLegalFrom w (h ++ more)
IsLegalFrom-append w [] more first then_more = then_more
IsLegalFrom-append w (s ∷ ss) more first then_more = (first.0, IsLegalFrom-append (world_after w s) ss more first.1 then_more)

pub labelled_log_from-append : (pools : ℕ) (h more : History)
    → labelled_log_from pools (h ++ more) ≡ labelled_log_from pools h ++ labelled_log_from (pools + pools_made h) more
labelled_log_from-append pools [] more = ap (λ n. labelled_log_from n more) (sym (add-zero pools))
labelled_log_from-append pools (s ∷ ss) more =
    ap (λ rest. records_with_label pools s ++ rest) (labelled_log_from-append (pools + pools_made_by s.call s.answer) ss more)
    ∙ ap (λ n. records_with_label pools s ++ (labelled_log_from (pools + pools_made_by s.call s.answer) ss ++ labelled_log_from n more))
    (add_assoc pools (pools_made_by s.call s.answer) (pools_made ss))
    ∙ sym (append_assoc (records_with_label pools s) (labelled_log_from (pools + pools_made_by s.call s.answer) ss)
    (labelled_log_from (pools + (pools_made_by s.call s.answer + pools_made ss)) more))

-- replaying what goes on, from the store after a first record
replay_on : (rs those : List Record) → ((s : Store)
    → replay_from s (rs ++ those) ≡ option_and_then (λ after. replay_from after those) (replay_from s rs)) → (after : Option Store)
    → option_and_then (λ s. replay_from s (rs ++ those)) after
    ≡ option_and_then (λ s. replay_from s those) (option_and_then (λ s. replay_from s rs) after)
replay_on rs those each None = refl
replay_on rs those each (Some s) = each s

-- replaying records that go on
pub replay_from-append : (store : Store) (these those : List Record)
    → replay_from store (these ++ those) ≡ option_and_then (λ after. replay_from after those) (replay_from store these)
replay_from-append store [] those = refl
replay_from-append store (r ∷ rs) those = replay_on rs those (λ s. replay_from-append s rs those) (store_after store r)

-- a legal history goes on by steps that are legal in the world that it leaves
pub IsLegalFrom-then : (w v : World) (h more : History) → world_after_steps w h ≡ v → IsLegalFrom w h → IsLegalFrom v more
    → IsLegalFrom w (h ++ more)
IsLegalFrom-then w v h more leaves first then_more =
    IsLegalFrom-append w h more first (subst (λ left. IsLegalFrom left more) (sym leaves) then_more)

-- where a history is legal, so is its later part, in the world that the first part leaves
pub IsLegalFrom-later : (w : World) (h more : History) → IsLegalFrom w (h ++ more) → IsLegalFrom (world_after_steps w h) more
IsLegalFrom-later w [] more legal = legal
IsLegalFrom-later w (s ∷ ss) more legal = IsLegalFrom-later (world_after w s) ss more legal.1

-- a history is not legal where its next step isn't, in the world that it leaves
pub not_legal_then : (w v : World) (h : History) (s : Step) (more : History) → world_after_steps w h ≡ v → (IsLegalStep v s → ⊥)
    → IsLegalFrom w (h ++ s ∷ more) → ⊥
not_legal_then w v h s more leaves refused legal =
    refused (subst (λ left. IsLegalStep left s) leaves (IsLegalFrom-later w h (s ∷ more) legal).0)
