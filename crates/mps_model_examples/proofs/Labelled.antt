use Rattle.std.proofs.Common.{◌≡◌, ℕ, refl, ap, arith, ◌++◌}
use Rattle.mps_model.specs.Answer.{Answer, Replied}
use Rattle.mps_model.specs.declared.reply.Reply.TheVariants as reply
use Rattle.mps_model.specs.World.{empty_world}
use Rattle.mps_model.specs.History.{IsLegalFrom, IsLegalHistory, world_after_history}
use Rattle.mps_model.proofs.Appending.{IsLegalFrom-then}
use Rattle.mps_model_examples.specs.Script.{address}
use Rattle.mps_model_examples.specs.Labelled.{before_labels, interned, pair_labelled, wrong_intern, other_label, other_place, tag_splatted, tag_lost, LabelledIsLegal, LabelledIsReplayed, OthersAreNoLabels, NoTagIsLost}
use Rattle.mps_model_examples.proofs.Refusing.{cannot_follow}
use Rattle.mps_model_examples.proofs.Steps.{legal_step}

tagged_is_legal : IsLegalHistory before_labels
tagged_is_legal = (
  legal_step tt refl refl tt refl refl refl refl refl refl,
  (
    legal_step tt refl refl tt refl refl refl refl refl refl,
    (
      legal_step tt refl refl tt refl refl refl refl refl refl,
      (
        legal_step tt refl refl tt refl refl refl refl refl refl,
        (
          legal_step tt (record { poll = refl; segment = refl }) refl tt refl refl refl refl refl refl,
          (
            legal_step tt refl refl tt refl refl refl refl refl refl,
            (
              legal_step tt refl refl tt refl refl refl refl refl refl,
              (
                legal_step tt refl refl tt refl refl refl refl refl refl,
                (
                  legal_step tt refl refl tt refl refl refl refl refl refl,
                  (
                    legal_step tt refl refl tt refl refl refl refl refl refl,
                    (
                      legal_step tt refl refl tt refl refl refl refl refl refl,
                      (
                        legal_step tt refl refl tt refl refl refl refl refl refl,
                        (
                          legal_step tt refl refl tt refl refl refl refl refl refl,
                          (
                            legal_step tt refl refl tt refl refl refl refl refl refl,
                            tt,
                          ),
                        ),
                      ),
                    ),
                  ),
                ),
              ),
            ),
          ),
        ),
      ),
    ),
  ),
)

labels_are_legal : IsLegalFrom (world_after_history before_labels) (interned ++ pair_labelled)
labels_are_legal = (
  legal_step tt refl refl tt refl refl refl refl refl refl,
  (
    legal_step tt refl refl tt refl refl refl refl refl refl,
    (
      legal_step tt refl refl tt refl refl refl refl refl refl,
      (
        legal_step tt refl refl tt refl refl refl refl refl refl,
        (
          legal_step tt refl refl tt refl refl refl refl refl refl,
          (
            legal_step tt refl refl tt refl refl refl refl refl refl,
            tt,
          ),
        ),
      ),
    ),
  ),
)

pub labelled_is_legal : LabelledIsLegal
labelled_is_legal =
    IsLegalFrom-then empty_world (world_after_history before_labels) before_labels (interned ++ pair_labelled) refl tagged_is_legal
    labels_are_legal

pub labelled_is_replayed : LabelledIsReplayed
labelled_is_replayed = refl

not_one : Replied (reply.Interned 1) ≡ Replied (reply.Interned 0) → ⊥
not_one h = absurd cc

not_another : Replied (reply.Labelled (address 0x1000) 1) ≡ Replied (reply.Labelled (address 0x1000) 0) → ⊥
not_another h = absurd cc

abbrev place_in : Answer → ℕ
place_in (Replied (reply.Labelled at number)) = at.0
place_in _ = 0

not_there : Replied (reply.Labelled (address 0x1018) 0) ≡ Replied (reply.Labelled (address 0x1000) 0) → ⊥
not_there h = let e : 4120 ≡ 4096 = ap place_in h in omega (arith, e)

not_none : Replied (reply.Number 0) ≡ Replied (reply.Number 3) → ⊥
not_none h = absurd cc

pub others_are_no_labels : OthersAreNoLabels
others_are_no_labels = (
  cannot_follow before_labels wrong_intern (λ s. not_one s.answer_is_due),
  cannot_follow (before_labels ++ interned) other_label (λ s. not_another s.answer_is_due),
  cannot_follow (before_labels ++ interned) other_place (λ s. not_there s.answer_is_due),
)

pub no_tag_is_lost : NoTagIsLost
no_tag_is_lost = cannot_follow tag_splatted tag_lost (λ s. not_none s.answer_is_due)
