use Rattle.std.proofs.Common.{◌≡◌, refl, [], ◌∷◌, ◌++◌}
use Rattle.mps_base.specs.declared.refusal.Refusal.TheVariants as refusal
use Rattle.mps_model.specs.Answer.{Replied}
use Rattle.mps_model.specs.declared.reply.Reply.TheVariants as reply
use Rattle.mps_model.specs.World.{World, empty_world}
use Rattle.mps_model.specs.History.{IsLegalFrom, IsLegalHistory, world_after_steps}
use Rattle.mps_model.proofs.Appending.{IsLegalFrom-then}
use Rattle.mps_model_examples.specs.Transformed.{three_objects, one_pair, replaced, pin_old, apply_pinned, clamped, add_again, two_pairs, replaced_twice, TransformedIsLegal, NoPinnedObjectIsReplaced, NoPairIsLeft, NoPairFollowsAnother}
use Rattle.mps_model_examples.proofs.Refusing.{cannot_follow}
use Rattle.mps_model_examples.proofs.Steps.{legal_step}

made_is_legal : IsLegalHistory three_objects
made_is_legal = (
  legal_step tt refl refl tt refl refl refl refl refl refl,
  (
    legal_step tt refl refl tt refl refl refl refl refl refl,
    (
      legal_step tt refl refl tt refl refl refl refl refl refl,
      (
        legal_step tt refl refl tt refl refl refl refl refl refl,
        (
          legal_step tt refl refl tt refl refl refl refl refl refl,
          (
            legal_step tt (record { poll = refl; segment = refl }) refl tt refl refl refl refl refl refl,
            (
              legal_step tt refl refl tt refl refl refl refl refl refl,
              (
                legal_step tt (record { poll = refl; segment = refl }) refl tt refl refl refl refl refl refl,
                (
                  legal_step tt refl refl tt refl refl refl refl refl refl,
                  (
                    legal_step tt (record { poll = refl; segment = refl }) refl tt refl refl refl refl refl refl,
                    (
                      legal_step tt refl refl tt refl refl refl refl refl refl,
                      (
                        legal_step tt refl refl tt refl refl refl refl refl refl,
                        (
                          legal_step tt refl refl tt refl refl refl refl refl refl,
                          (
                            legal_step tt refl refl tt refl refl refl refl refl refl,
                            (
                              legal_step tt refl refl tt refl refl refl refl refl refl,
                              tt,
                            ),
                          ),
                        ),
                      ),
                    ),
                  ),
                ),
              ),
            ),
          ),
        ),
      ),
    ),
  ),
)

abbrev made : World
made = world_after_steps empty_world three_objects

paired_is_legal : IsLegalFrom made one_pair
paired_is_legal = (
  legal_step tt refl refl tt refl refl refl refl refl refl,
  (
    legal_step tt refl refl tt refl refl refl refl refl refl,
    (
      legal_step tt refl refl tt refl refl refl refl refl refl,
      (
        legal_step tt refl refl tt refl refl refl refl refl refl,
        (
          legal_step tt refl refl tt refl refl refl refl refl refl,
          (
            legal_step tt refl refl tt refl refl refl refl refl refl,
            (
              legal_step tt refl refl tt refl refl refl refl refl refl,
              (
                legal_step tt refl refl tt refl refl refl refl refl refl,
                tt,
              ),
            ),
          ),
        ),
      ),
    ),
  ),
)

abbrev paired : World
paired = world_after_steps made one_pair

replaced_is_legal : IsLegalFrom paired replaced
replaced_is_legal = (
  legal_step tt refl refl tt refl refl refl refl refl refl,
  (
    legal_step tt refl refl tt refl refl refl refl refl refl,
    (
      legal_step tt refl refl tt refl refl refl refl refl refl,
      (
        legal_step tt refl refl tt refl refl refl refl refl refl,
        (
          legal_step tt refl refl tt refl refl refl refl refl refl,
          (
            legal_step tt refl refl tt refl refl refl refl refl refl,
            (
              legal_step tt refl refl tt refl refl refl refl refl refl,
              (
                legal_step tt refl refl tt refl refl refl refl refl refl,
                (
                  legal_step tt refl refl tt refl refl refl refl refl refl,
                  (
                    legal_step tt refl refl tt refl refl refl refl refl refl,
                    (
                      legal_step tt refl refl tt refl refl refl refl refl refl,
                      tt,
                    ),
                  ),
                ),
              ),
            ),
          ),
        ),
      ),
    ),
  ),
)

pub transformed_is_legal : TransformedIsLegal
transformed_is_legal =
    IsLegalFrom-then empty_world made three_objects (one_pair ++ replaced) refl made_is_legal
    (IsLegalFrom-then made paired one_pair replaced refl paired_is_legal replaced_is_legal)

blocked : Replied reply.Yes ≡ Replied reply.No → ⊥
blocked h = absurd cc

accepted : Replied (reply.Refused refusal.OldTwice) ≡ Replied reply.Ok → ⊥
accepted h = absurd cc

differ : Replied reply.Yes ≡ Replied reply.No → ⊥
differ h = absurd cc

pub no_pinned_object_is_replaced : NoPinnedObjectIsReplaced
no_pinned_object_is_replaced = cannot_follow (three_objects ++ (one_pair ++ pin_old ∷ [])) apply_pinned (λ s. blocked s.answer_is_due)

pub no_pair_is_left : NoPairIsLeft
no_pair_is_left = cannot_follow (three_objects ++ clamped) add_again (λ s. accepted s.answer_is_due)

pub no_pair_follows_another : NoPairFollowsAnother
no_pair_follows_another = cannot_follow (three_objects ++ two_pairs) replaced_twice (λ s. differ s.answer_is_due)
