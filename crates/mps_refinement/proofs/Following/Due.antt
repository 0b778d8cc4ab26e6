-- The moves that are due of a call are the same where objects have dependents, if no cell was cleared before them.
use Rattle.std.proofs.Common.{◌≡◌, ◌∙◌, ℕ, Bool, true, false, refl, sym, ap, List, [], ◌∷◌, ◌++◌, Option, Some, None, subst}
use Rattle.std.specs.Prelude.{◌&&◌, if◌then◌else◌, not, MatchBool}
use Rattle.mps_base.specs.Address.{Address, Id}
use Rattle.mps_base.specs.Generation.{Due}
use Rattle.mps_base.specs.Placement.{Placement, Place, NewSegment, OverLimit, NoFreeRun}
use Rattle.mps_base.specs.declared.moves.Move.{Move}
use Rattle.mps_base.specs.declared.names.Slot.{Slot}
use Rattle.mps_model.specs.Answer.{Answer, is_refused}
use Rattle.mps_model.specs.Accessing.{address_or_null}
use Rattle.mps_model.specs.Checked.{slot_in}
use Rattle.mps_model.specs.Effect.{Condemnation, Everything, Generations, condemned_by, world_after_moves}
use Rattle.mps_model.specs.Flip.{end_where, fix, fix_all, flip_act, flip_of, is_nothing, moves_to, must_be_fixed, world_at_flip}
use Rattle.mps_model.specs.Graph.{ids_in_slots}
use Rattle.mps_model.specs.History.{AreMovesOfGet, AreMovesOfStep, FinishesCollection, IsFullCollection, IsPoll, poll_at_rest, segment_of_found}
use Rattle.mps_model.specs.LegalMove.{AreLegalMoves}
use Rattle.mps_model.specs.Placement.{ForMove, placement_of}
use Rattle.mps_model.specs.Policy.{due_in, units_of_poll}
use Rattle.mps_model.specs.Units.{AreUnits, AreUnitsToEnd, IsBarrier}
use Rattle.mps_model.specs.World.{World, is_running, is_unclamped}
use Rattle.mps_laws.specs.Staying.{is_flip}
use Rattle.mps_refinement.specs.Following.{Following, are_of_one, followed, following, following_move, none_flips}
use Rattle.mps_refinement.proofs.Following.Flips.{act_same, uncleared, whole_still}
use Rattle.mps_refinement.proofs.Following.Kept.{IsFollowable}
use Rattle.mps_refinement.proofs.Following.Legal.{for_one, running_same}
use Rattle.mps_refinement.proofs.Following.Moves.{move_follows}
use Rattle.mps_refinement.proofs.Following.OneCollection.{one_carried, one_leads}
use Rattle.mps_refinement.proofs.Following.Units.{all_append, are_units_follow, are_units_to_end_follow, barrier_follows, units_flip_none}

match_still : (P Q R : Type 0) (b d : Bool) → d ≡ b → (P → R) → MatchBool b P Q → MatchBool d R Q
match_still P Q R b d e each h = subst (λ x. MatchBool x R Q) (sym e) (of_bool b h)
  where
    of_bool : (x : Bool) → MatchBool x P Q → MatchBool x R Q
    of_bool true g = each g
    of_bool false g = g

-- ---- no flip but the first

moves_to_flip_none : (w : World) (id : Id) (from : Address) (p : Placement) → none_flips (moves_to w id from p) ≡ true
moves_to_flip_none w id from (Place word) = refl
moves_to_flip_none w id from (NewSegment grain grains) = refl
moves_to_flip_none w id from (OverLimit committed need limit) = refl
moves_to_flip_none w id from (NoFreeRun need longest) = refl

fix_flips_none : (w : World) (id : Id) → none_flips (fix w id) ≡ true
fix_flips_none w id =
    elim (must_be_fixed w id) as (λ b. none_flips
    (if b then moves_to w id (address_or_null w id) (placement_of w (ForMove id)) else []) ≡ true) [
      | true ↦ moves_to_flip_none w id (address_or_null w id) (placement_of w (ForMove id))
      | false ↦ refl
    ]

fix_all_flips_none : (w : World) (ids : List ℕ) → none_flips (fix_all w ids) ≡ true
fix_all_flips_none w [] = refl
fix_all_flips_none w (id ∷ ids) =
    all_append (λ m. not (is_flip m)) (fix w id) (fix_all (world_after_moves w (fix w id)) ids) (fix_flips_none w id)
    (fix_all_flips_none (world_after_moves w (fix w id)) ids)

end_flips_none : (b : Bool) → none_flips (end_where b) ≡ true
end_flips_none true = refl
end_flips_none false = refl

-- the act of a flip is of one collection
pub act_is_of_one : (w : World) (what : Condemnation) → are_of_one (flip_act w what) ≡ true
act_is_of_one w what =
    all_append (λ m. not (is_flip m)) (fix_all (world_at_flip w what) (ids_in_slots w.graph ++ w.graph.messages))
    (end_where (is_nothing (condemned_by w what)))
    (fix_all_flips_none (world_at_flip w what) (ids_in_slots w.graph ++ w.graph.messages))
    (end_flips_none (is_nothing (condemned_by w what)))

pub finish_flips_none : (w : World) (ms : List Move) → FinishesCollection w ms → none_flips ms ≡ true
finish_flips_none w ms h = of_bool (is_running w) h
  where
    of_bool : (b : Bool) → MatchBool b (AreUnitsToEnd w ms) (ms ≡ []) → none_flips ms ≡ true
    of_bool true g = units_flip_none (λ id. false) g.0.1
    of_bool false g = ap none_flips g

-- so is a full collection
pub full_is_of_one : (w : World) (ms : List Move) → IsFullCollection w ms → are_of_one ms ≡ true
full_is_of_one w ms h =
    ap are_of_one h.whole
    ∙ all_append (λ m. not (is_flip m))
    (fix_all (world_at_flip w Everything) (ids_in_slots w.graph ++ w.graph.messages) ++ end_where (is_nothing (condemned_by w Everything)))
    h.later (act_is_of_one w Everything)
    (finish_flips_none (world_after_moves w (flip_act w Everything)) h.later h.later_ends)

module _ (is_weak : Id → Bool) where
  -- a running collection goes on to its end
  pub finish_follows : (w : World) (f : Following) (before : Option Move) (ms : List Move) → IsFollowable is_weak w f
      → AreLegalMoves w before ms → FinishesCollection w ms → FinishesCollection (followed w f) ms
  finish_follows w f before ms k legal h =
      match_still _ _ _ (is_running w) (is_running (followed w f)) (running_same is_weak w f)
      (are_units_to_end_follow is_weak w f before ms k legal) h

  pub step_follows : (w : World) (f : Following) (before : Option Move) (count : ℕ) (ms : List Move) → IsFollowable is_weak w f
      → AreLegalMoves w before ms → AreMovesOfStep w count ms → AreMovesOfStep (followed w f) count ms
  step_follows w f before count ms k legal h =
      match_still _ _ _ (is_unclamped w && is_running w) (is_unclamped w && is_running (followed w f))
      (ap (λ b. is_unclamped w && b) (running_same is_weak w f)) (are_units_follow is_weak w f before count ms k legal) h

  pub get_follows : (w : World) (f : Following) (before : Option Move) (source : Slot) (answer : Answer) (ms : List Move)
      → IsFollowable is_weak w f → AreLegalMoves w before ms → AreMovesOfGet w source answer ms
      → AreMovesOfGet (followed w f) source answer ms
  get_follows w f before source answer ms k legal h =
      match_still _ _ _ (is_running w && not (is_refused answer)) (is_running (followed w f) && not (is_refused answer))
      (ap (λ b. b && not (is_refused answer)) (running_same is_weak w f))
      (for_one (λ s. IsBarrier w s ms) (λ s. IsBarrier (followed w f) s ms) (λ s. barrier_follows is_weak w f before s ms k legal)
      (segment_of_found w (slot_in w source))) h

  module _ (w : World) (f : Following) (k : IsFollowable is_weak w (uncleared f)) (before : Option Move) (ms : List Move)
      (legal : AreLegalMoves w before ms) where
    abbrev g : Following
    g = uncleared f

    abbrev u : World
    u = followed w g

    pub poll_follows : IsPoll w ms → IsPoll u ms
    poll_follows h = of_bool (is_running w) (is_running u) (running_same is_weak w g) h
      where
        at_rest : (o : Option Due) → poll_at_rest w o ≡ poll_at_rest u o
        at_rest None = refl
        at_rest (Some due) = sym (act_same w k.unpaired f (Generations due.chain due.generation))

        of_bool : (b d : Bool) → d ≡ b → MatchBool b (AreUnits w units_of_poll ms) (ms ≡ poll_at_rest w (due_in w))
            → MatchBool d (AreUnits u units_of_poll ms) (ms ≡ poll_at_rest u (due_in u))
        of_bool true d e p =
            subst (λ x. MatchBool x (AreUnits u units_of_poll ms) (ms ≡ poll_at_rest u (due_in u))) (sym e)
            (are_units_follow is_weak w g before units_of_poll ms k legal p)
        of_bool false d e p =
            subst (λ x. MatchBool x (AreUnits u units_of_poll ms) (ms ≡ poll_at_rest u (due_in u))) (sym e) (p ∙ at_rest (due_in w))

    pub full_follows : IsFullCollection w ms → IsFullCollection u ms
    full_follows h =
        let act = flip_act w Everything in
        let same = act_same w k.unpaired f Everything in
        let c = one_carried is_weak w g before act h.later k refl (act_is_of_one w Everything)
        (subst (λ all. AreLegalMoves w before all) h.whole legal) in
        record {
          later = h.later;
          whole = h.whole ∙ ap (λ a. a ++ h.later) (sym same);
          later_ends =
              subst (λ v. FinishesCollection v h.later) (sym (ap (world_after_moves u) same ∙ c.leads))
              (finish_follows (world_after_moves w act) (following w g act) c.before h.later c.followable c.legal h.later_ends);
          exact =
              subst (λ v. Rattle.mps_model.specs.Posts.IsWhole u v (world_after_moves u ms))
              (sym (move_follows w g (flip_of w Everything) k.unpaired (λ e. refl)))
              (subst (λ v. Rattle.mps_model.specs.Posts.IsWhole u
              (followed (world_at_flip w Everything) (following_move w g (flip_of w Everything))) v)
              (sym (one_leads is_weak w g before ms k refl (full_is_of_one w ms h) legal))
              (whole_still (world_at_flip w Everything) (following_move w g (flip_of w Everything)) w (world_after_moves w ms) g
              (following w g ms) h.exact));
        }
