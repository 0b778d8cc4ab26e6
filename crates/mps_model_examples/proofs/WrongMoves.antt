use Rattle.std.proofs.Common.{◌≡◌, ◌⊎◌, refl, [], inl, inr, true, false}
use Rattle.mps_model.specs.Reachable.{begins}
use Rattle.mps_model.proofs.Reaching.{PathLeads-closed}
use Rattle.mps_model_examples.specs.OneBlock.{one_block}
use Rattle.mps_model_examples.specs.Weak.{weak_pair}
use Rattle.mps_model_examples.specs.Incremental.{linked}
use Rattle.mps_model_examples.specs.CollectingInOrder.{weak_and_linked}
use Rattle.mps_model_examples.specs.WrongMoves as steps
use Rattle.mps_model_examples.specs.WrongMoves.{unreachable_world, SplatOfReachable, splat_of_held, one_registration, two_posts, TwoPostsForOne, poked_history, MoveOfPinned, FreeOfWaiting, StayBesideRoom, MarkedInPlace, unreachable, UnknownFree, MoveAfterSplat}
use Rattle.mps_model_examples.proofs.Refusing.{false_is_not_true, cannot_follow, cannot_follow_from}
use Rattle.mps_model_examples.proofs.Weak.{held_world, pair_leaves}
use Rattle.mps_model_examples.proofs.Finalized.{waiting_world, waiting_leaves}
use Rattle.mps_model_examples.specs.Finalized.{waiting}
use Rattle.mps_model.specs.World.{empty_world}
use Rattle.mps_model.specs.History.{world_after_steps}

pub splat_of_reachable : SplatOfReachable
splat_of_reachable = cannot_follow_from held_world weak_pair splat_of_held pair_leaves
    (λ s. s.moves_are_legal.1.0.target_is_gone.lost (begins {id = 0} refl))

pub two_posts_for_one : TwoPostsForOne
two_posts_for_one = cannot_follow one_registration two_posts (λ s. s.moves_are_legal.1.1.1.1.0.registered)

pub move_of_pinned : MoveOfPinned
move_of_pinned = cannot_follow poked_history steps.move_of_pinned (λ s. false_is_not_true s.moves_are_legal.1.1.0.not_settled)

pub free_of_waiting : FreeOfWaiting
free_of_waiting = cannot_follow_from waiting_world waiting steps.free_of_waiting waiting_leaves
    (λ s. s.moves_are_legal.1.0.gone.lost (begins {id = 0} refl))

pub stay_beside_room : StayBesideRoom
stay_beside_room = cannot_follow one_block steps.stay_beside_room (λ s. false_is_not_true s.moves_are_legal.1.0.no_room)

pub marked_in_place : MarkedInPlace
marked_in_place = cannot_follow linked steps.marked_in_place (λ s. false_is_not_true s.moves_are_legal.1.1.1.0.copied)

unreachable_leaves : world_after_steps empty_world unreachable ≡ unreachable_world
unreachable_leaves = refl

-- neither settled nor linked
gone : {P : Type 0} → (false ≡ true) ⊎ P → (P → ⊥) → ⊥
gone (inl h) refuted = false_is_not_true h
gone (inr path) refuted = refuted path

pub unknown_free : UnknownFree
unknown_free =
    cannot_follow_from unreachable_world unreachable steps.unknown_free unreachable_leaves
    (λ s. gone s.moves_are_legal.1.0.survivors.0 (λ path. false_is_not_true (PathLeads-closed _ _ [] refl refl path)))

pub move_after_splat : MoveAfterSplat
move_after_splat = cannot_follow weak_and_linked steps.move_after_splat (λ s. false_is_not_true s.moves_are_legal.1.1.1.1.0.tracing)
