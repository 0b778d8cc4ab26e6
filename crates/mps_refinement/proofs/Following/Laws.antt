-- The laws of moves where objects have dependents, from their parts.
use Rattle.std.proofs.Common.{◌≡◌, ◌∙◌, ℕ, Bool, true, false, refl, ap, List, [], ◌∷◌, Option, Some, None, subst}
use Rattle.std.proofs.lemmas.Bool.{and_parts}
use Rattle.std.specs.Prelude.{◌&&◌, not, MatchBool}
use Rattle.mps_base.specs.Generation.{Due}
use Rattle.mps_base.specs.Segment.{Segment}
use Rattle.mps_base.specs.declared.moves.Move.{Move}
use Rattle.mps_base.specs.declared.names.Slot.{Slot}
use Rattle.mps_model.specs.Answer.{Answer, is_refused}
use Rattle.mps_model.specs.Checked.{slot_in}
use Rattle.mps_model.specs.Effect.{Generations}
use Rattle.mps_model.specs.Flip.{flip_act}
use Rattle.mps_model.specs.History.{AreMovesOfGet, AreMovesOfStep, FinishesCollection, IsFullCollection, IsPoll, poll_at_rest, segment_of_found}
use Rattle.mps_model.specs.LegalMove.{ForOne, AreLegalMoves}
use Rattle.mps_model.specs.Policy.{due_in, units_of_poll}
use Rattle.mps_model.specs.Units.{AreUnits, IsBarrier}
use Rattle.mps_model.specs.World.{World, is_running, is_unclamped}
use Rattle.mps_laws.specs.Staying.{is_flip}
use Rattle.mps_refinement.specs.Following.{ArePairsRight, DueMovesFollow, FlipActsAreSame, FollowedWorldsStayRight, SplatsFollow, are_of_one, followed, none_flips, nothing_followed, unpaired}
use Rattle.mps_refinement.proofs.Following.Due.{act_is_of_one, finish_flips_none, finish_follows, full_follows, full_is_of_one, get_follows, poll_follows, step_follows}
use Rattle.mps_refinement.proofs.Following.Flips.{act_same}
use Rattle.mps_refinement.proofs.Following.Held.{asked_follows, held_kept_same, held_still, remembered_follows, units_left_same}
use Rattle.mps_refinement.proofs.Following.OneCollection.{is_weak_in, nothing_followed_is, nothing_is_followable, one_leads, one_legal}
use Rattle.mps_refinement.proofs.Following.Units.{are_units_follow, barrier_flips_none, units_flip_none}

pub splats_follow : SplatsFollow
splats_follow w before ms right one legal =
    let k = nothing_is_followable w right in
    let is = nothing_followed_is w in
    record {
      legal = subst (λ v. AreLegalMoves v before ms) is
          (one_legal (is_weak_in w) (unpaired w) (nothing_followed w) before ms k refl one legal);
      leads = subst (λ v. Rattle.mps_model.specs.Effect.world_after_moves v ms
          ≡ followed (Rattle.mps_model.specs.Effect.world_after_moves (unpaired w) ms)
          (Rattle.mps_refinement.specs.Following.following (unpaired w) (nothing_followed w) ms)) is
          (one_leads (is_weak_in w) (unpaired w) (nothing_followed w) before ms k refl one legal);
    }

-- ---- what is due is of one collection

-- moves without a flip are
none_is_of_one : (ms : List Move) → none_flips ms ≡ true → are_of_one ms ≡ true
none_is_of_one [] h = refl
none_is_of_one (m ∷ ms) h = (and_parts (not (is_flip m)) (none_flips ms) h).1

units_are_of_one : (w : World) (count : ℕ) (ms : List Move) → AreUnits w count ms → none_flips ms ≡ true
units_are_of_one w count ms (Rattle.std.proofs.Common.inl h) = units_flip_none (is_weak_in w) h
units_are_of_one w count ms (Rattle.std.proofs.Common.inr h) = units_flip_none (is_weak_in w) h.2

-- units are, and they are units where objects have dependents too
pub units_follow_so : (w : World) (before : Option Move) (count : ℕ) (ms : List Move) → ArePairsRight w
    → AreLegalMoves (unpaired w) before ms → AreUnits (unpaired w) count ms → (are_of_one ms ≡ true) × AreUnits w count ms
units_follow_so w before count ms right legal units = (
  none_is_of_one ms (units_are_of_one (unpaired w) count ms units),
  subst (λ v. AreUnits v count ms) (nothing_followed_is w)
      (are_units_follow (is_weak_in w) (unpaired w) (nothing_followed w) before count ms (nothing_is_followable w right) legal units),
)

step_flips_none : (w : World) (count : ℕ) (ms : List Move) → AreMovesOfStep w count ms → none_flips ms ≡ true
step_flips_none w count ms h = of_bool (is_unclamped w && is_running w) h
  where
    of_bool : (b : Bool) → MatchBool b (AreUnits w count ms) (ms ≡ []) → none_flips ms ≡ true
    of_bool true g = units_are_of_one w count ms g
    of_bool false g = ap none_flips g

get_flips_none : (w : World) (source : Slot) (answer : Answer) (ms : List Move) → AreMovesOfGet w source answer ms → none_flips ms ≡ true
get_flips_none w source answer ms h = of_bool (is_running w && not (is_refused answer)) h
  where
    of_segment : (o : Option Segment) → ForOne o (λ s. IsBarrier w s ms) → none_flips ms ≡ true
    of_segment None g = absurd g
    of_segment (Some s) g = barrier_flips_none (is_weak_in w) w s ms g

    of_bool : (b : Bool) → MatchBool b (ForOne (segment_of_found w (slot_in w source)) (λ s. IsBarrier w s ms)) (ms ≡ [])
        → none_flips ms ≡ true
    of_bool true g = of_segment (segment_of_found w (slot_in w source)) g
    of_bool false g = ap none_flips g

poll_is_of_one : (w : World) (ms : List Move) → IsPoll w ms → are_of_one ms ≡ true
poll_is_of_one w ms h = of_bool (is_running w) h
  where
    of_due : (o : Option Due) → are_of_one (poll_at_rest w o) ≡ true
    of_due None = refl
    of_due (Some due) = act_is_of_one w (Generations due.chain due.generation)

    of_bool : (b : Bool) → MatchBool b (AreUnits w units_of_poll ms) (ms ≡ poll_at_rest w (due_in w)) → are_of_one ms ≡ true
    of_bool true g = none_is_of_one ms (units_are_of_one w units_of_poll ms g)
    of_bool false g = ap are_of_one g ∙ of_due (due_in w)

pub due_moves_follow : DueMovesFollow
due_moves_follow w before ms right legal =
    let k = nothing_is_followable w right in
    let is = nothing_followed_is w in
    let here = is_weak_in w in
    let bare = unpaired w in
    let f = nothing_followed w in
    record {
      step = λ units h. (
        none_is_of_one ms (step_flips_none bare units ms h),
        subst (λ v. AreMovesOfStep v units ms) is (step_follows here bare f before units ms k legal h),
      );
      get = λ source answer h. (
        none_is_of_one ms (get_flips_none bare source answer ms h),
        subst (λ v. AreMovesOfGet v source answer ms) is (get_follows here bare f before source answer ms k legal h),
      );
      poll = λ h. (poll_is_of_one bare ms h, subst (λ v. IsPoll v ms) is (poll_follows here bare f k before ms legal h));
      finish = λ h. (
        none_is_of_one ms (finish_flips_none bare ms h),
        subst (λ v. FinishesCollection v ms) is (finish_follows here bare f before ms k legal h),
      );
      full = λ h. (full_is_of_one bare ms h, subst (λ v. IsFullCollection v ms) is (full_follows here bare f k before ms legal h));
    }

pub flip_acts_are_same : FlipActsAreSame
flip_acts_are_same w what = record {
  same = subst (λ v. flip_act v what ≡ flip_act (unpaired w) what) (nothing_followed_is w)
      (act_same (unpaired w) refl (nothing_followed w) what);
  of_one = act_is_of_one w what;
}

pub followed_worlds_stay_right : FollowedWorldsStayRight
followed_worlds_stay_right w f = record {
  held = held_still w f;
  held_kept = held_kept_same w f;
  units_left = units_left_same w f;
  asked = asked_follows w f;
  remembered = remembered_follows w f;
}
