use Rattle.std.proofs.Common.{◌≡◌}
use Rattle.mps_base.specs.declared.refusal.Refusal.{Refusal}
use Rattle.mps_model.specs.declared.reply.Reply.TheVariants as reply
use Rattle.mps_model.specs.Answer.{Replied}
use Rattle.mps_model_examples.specs.OneBlock.{prelude}
use Rattle.mps_base.specs.declared.refusal.Refusal.TheVariants as refusal
use Rattle.mps_model_examples.specs.WrongAnswers as steps
use Rattle.mps_model_examples.specs.WrongAnswers.{reserved, commit_flipped, flipped_away, commit_with_move, commit_without_move, stale, moved_on, fresh, get_without_barrier, FlippedWithoutFlip, CommitAcrossFlip, LimitBesideGap, LimitBesideRun, StaleWithoutFlip, FreshAfterMove, GetOfOldPlace}
use Rattle.mps_model_examples.specs.Incremental.{linked_started}
use Rattle.mps_model_examples.specs.FillingGaps.{one_grain}
use Rattle.mps_model_examples.specs.Depending.{depending}
use Rattle.mps_model_examples.proofs.Refusing.{false_is_not_true, cannot_follow}

not_flipped : Replied reply.Flipped ≡ Replied reply.Ok → ⊥
not_flipped h = absurd cc

not_ok : Replied reply.Ok ≡ Replied reply.Flipped → ⊥
not_ok h = absurd cc

not_refused : (why : Refusal) → Replied (reply.Refused why) ≡ Replied reply.Ok → ⊥
not_refused why h = absurd cc

not_yes : Replied reply.Yes ≡ Replied reply.No → ⊥
not_yes h = absurd cc

not_no : Replied reply.No ≡ Replied reply.Yes → ⊥
not_no h = absurd cc

pub flipped_without_flip : FlippedWithoutFlip
flipped_without_flip = cannot_follow reserved commit_flipped (λ s. not_flipped s.answer_is_due)

pub commit_across_flip : CommitAcrossFlip
commit_across_flip = (
  cannot_follow flipped_away commit_with_move (λ s. not_ok s.answer_is_due),
  cannot_follow flipped_away commit_without_move (λ s. not_ok s.answer_is_due),
)

pub limit_beside_gap : LimitBesideGap
limit_beside_gap = cannot_follow one_grain steps.limit_beside_gap (λ s. not_refused (refusal.CommitLimit 1 1 1) s.answer_is_due)

pub limit_beside_run : LimitBesideRun
limit_beside_run = (
  cannot_follow prelude steps.limit_beside_run (λ s. not_refused (refusal.CommitLimit 0 1 8) s.answer_is_due),
  cannot_follow prelude steps.no_run_beside_run (λ s. not_refused (refusal.NoRun 1 0) s.answer_is_due),
)

pub stale_without_flip : StaleWithoutFlip
stale_without_flip = cannot_follow depending stale (λ s. not_yes s.answer_is_due)

pub fresh_after_move : FreshAfterMove
fresh_after_move = cannot_follow moved_on fresh (λ s. not_no s.answer_is_due)

pub get_of_old_place : GetOfOldPlace
get_of_old_place = cannot_follow linked_started get_without_barrier (λ s. false_is_not_true s.held_are_kept)
