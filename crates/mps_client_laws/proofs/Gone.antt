-- What can't be reached at a `collect` is gone after it, and what can be reached through dependents isn't.
use Rattle.std.proofs.Common.{◌≡◌, ℕ, Bool, true, false, refl, sym, ◌∙◌, ap, subst, List, [], ◌∷◌, ◌++◌}
use Rattle.std.proofs.lemmas.Bool.{and_parts}
use Rattle.std.proofs.lemmas.List.{append_cancel_left}
use Rattle.std.specs.Prelude.{MatchBool}
use Rattle.mps_base.specs.declared.moves.Move.{Move}
use Rattle.mps_model.proofs.Appending.{IsLegalFrom-later}
use Rattle.mps_model.proofs.Reaching.{PathLeads-holds}
use Rattle.mps_model.specs.Reachable.{begins, goes_on}
use Rattle.mps_model.specs.declared.call.Call.TheVariants as call
use Rattle.mps_model.specs.Step.{Step}
use Rattle.mps_model.specs.Graph.{ids_of_client, is_automatic, strong_targets}
use Rattle.mps_model.specs.World.{World, empty_world_of, ids_of_area_words, is_live, is_running, live_automatic_ids, live_ids, object_is}
use Rattle.mps_model.specs.WellFormed.{is_live_automatic}
use Rattle.mps_model.specs.Effect.{Everything, world_after_moves}
use Rattle.mps_model.specs.Flip.{flip_of, world_at_flip}
use Rattle.mps_model.specs.Posts.{IsDecided, IsWhole, IsWidelyReachableWith}
use Rattle.mps_model.specs.Units.{AreUnitsToEnd}
use Rattle.mps_model.specs.History.{IsLegalStep, AreMovesOf, AreMovesOfCollect, FinishesCollection, world_after}
use Rattle.mps_laws.specs.Replay.{reached}
use Rattle.mps_laws.proofs.Reading.{contains-append_left}
use Rattle.mps_laws.proofs.Sound.Referred.{live_is_among}
use Rattle.mps_client_laws.specs.Collecting.{held_ids, IsReachedByDependents, WhatDependentsReachStays, WhatIsNotReachedIsGone}
use Rattle.mps_client_laws.proofs.Contained.{all_contained, contains_filtered}
use Rattle.mps_client_laws.proofs.Collecting.{after_is, after_graph, move_roots, still_held}

-- ---- a whole collection

none_to_finish : (w : World) (ms : List Move) → is_running w ≡ false → FinishesCollection w ms → ms ≡ []
none_to_finish w ms rests ends = subst (λ (b : Bool). MatchBool b (AreUnitsToEnd w ms) (ms ≡ [])) rests ends

whole : (w : World) (ms : List Move) → is_running w ≡ false → AreMovesOfCollect w ms
    → IsWhole w (world_at_flip w Everything) (world_after_moves w ms)
whole w ms rests due =
    let none = none_to_finish w due.earlier rests due.earlier_ends in
    let all : ms ≡ due.full = due.both ∙ ap (λ e. e ++ due.full) none in
    subst (λ ms. IsWhole w (world_at_flip w Everything) (world_after_moves w ms)) (sym all)
    (subst (λ e. IsWhole (world_after_moves w e) (world_at_flip (world_after_moves w e) Everything)
    (world_after_moves (world_after_moves w e) due.full)) none due.is_full.exact)

decided : (flipped after : World) (posts : List ℕ) (id : ℕ) → IsDecided flipped after posts id
    → (IsWidelyReachableWith flipped posts id → ⊥) → is_live after id ≡ false
decided flipped after posts id is lost = by_case (is_live after id) refl is
  where
    by_case : (b : Bool) → is_live after id ≡ b
        → MatchBool b (IsWidelyReachableWith flipped posts id) (¬ IsWidelyReachableWith flipped posts id) → is_live after id ≡ false
    by_case true e reachable = absurd (lost reachable)
    by_case false e unreachable = e

kept : (flipped after : World) (posts : List ℕ) (id : ℕ) → IsDecided flipped after posts id
    → IsWidelyReachableWith flipped posts id → is_live after id ≡ true
kept flipped after posts id is reachable = by_case (is_live after id) refl is
  where
    by_case : (b : Bool) → is_live after id ≡ b
        → MatchBool b (IsWidelyReachableWith flipped posts id) (¬ IsWidelyReachableWith flipped posts id) → is_live after id ≡ true
    by_case true e reachable = e
    by_case false e unreachable = absurd (unreachable reachable)

-- what is reached through dependents too is widely reachable in the world that the flip leaves
widely_reachable : (w : World) (posts : List ℕ) (id : ℕ) → IsReachedByDependents w.graph id
    → IsWidelyReachableWith (world_at_flip w Everything) posts id
widely_reachable w posts id path =
    let flipped = world_at_flip w Everything in
    PathLeads-holds (strong_targets w.graph) (held_ids w.graph) (λ n. IsWidelyReachableWith flipped posts n)
    (λ n h. begins (contains-append_left (ids_of_client flipped.graph) (ids_of_area_words flipped ++ posts) n
    (still_held w.graph flipped.graph (move_roots w (flip_of w Everything)) n h)))
    (λ from to reachable h. goes_on reachable h)
    path

stays_after : (w : World) (s : Step) (id : ℕ) (legal : IsLegalStep w s) (is : s.call ≡ call.Collect) → is_running w ≡ false
    → is_live_automatic w id ≡ true → IsReachedByDependents w.graph id → is_live (world_after w s) id ≡ true
stays_after w s id legal is rests live path =
    let moved = world_after_moves w s.moves in
    let all = whole w s.moves rests (subst (λ c. AreMovesOf w c s.answer s.moves) is legal.moves_are_due) in
    let parts = and_parts (is_live w id) (object_is is_automatic w id) live in
    let among = contains_filtered (object_is is_automatic w) (live_ids w) id (live_is_among w id parts.0) parts.1 in
    ap (λ (u : World). is_live u id) (after_is w s legal is)
    ∙ kept (world_at_flip w Everything) moved all.posts id
    (all_contained (IsDecided (world_at_flip w Everything) moved all.posts) (live_automatic_ids (world_at_flip w Everything)) id
    all.survivors among)
    (widely_reachable w all.posts id path)

gone_after : (w : World) (s : Step) (id : ℕ) (posts : List ℕ) (legal : IsLegalStep w s) (is : s.call ≡ call.Collect)
    → is_running w ≡ false → is_live_automatic w id ≡ true → (world_after w s).graph.messages ≡ w.graph.messages ++ posts
    → (IsWidelyReachableWith (world_at_flip w Everything) posts id → ⊥) → is_live (world_after w s) id ≡ false
gone_after w s id posts legal is rests live posted lost =
    let moved = world_after_moves w s.moves in
    let all = whole w s.moves rests (subst (λ c. AreMovesOf w c s.answer s.moves) is legal.moves_are_due) in
    let same : all.posts ≡ posts = append_cancel_left w.graph.messages all.posts posts
    (sym all.posted ∙ sym (ap (λ g. g.messages) (after_graph w s legal is)) ∙ posted) in
    let parts = and_parts (is_live w id) (object_is is_automatic w id) live in
    let among = contains_filtered (object_is is_automatic w) (live_ids w) id (live_is_among w id parts.0) parts.1 in
    ap (λ (u : World). is_live u id) (after_is w s legal is)
    ∙ decided (world_at_flip w Everything) moved posts id
    (subst (λ ps. IsDecided (world_at_flip w Everything) moved ps id) same
    (all_contained (IsDecided (world_at_flip w Everything) moved all.posts) (live_automatic_ids (world_at_flip w Everything)) id
    all.survivors among))
    lost

pub what_dependents_reach_stays : WhatDependentsReachStays
what_dependents_reach_stays formats steps later s id legal is accepted rests live path =
    let w = reached formats steps in
    stays_after w s id
    (IsLegalFrom-later (empty_world_of formats) steps (s ∷ later) legal).0 is rests live path

pub what_is_not_reached_is_gone : WhatIsNotReachedIsGone
what_is_not_reached_is_gone formats steps later s id posts legal is accepted rests live posted lost =
    let w = reached formats steps in
    gone_after w s id posts
    (IsLegalFrom-later (empty_world_of formats) steps (s ∷ later) legal).0 is rests live posted lost
