-- The moves of one collection from a world on: they are legal where its objects have dependents if they are legal where none has one, and
-- lead to the same world, but for the cells of dependents that splats clear, and for pairs of objects that are freed.
use Rattle.std.proofs.Common.{◌≡◌, ◌∙◌, Bool, true, false, refl, sym, ap, List, [], ◌∷◌, ◌++◌, Option, Some, None, subst}
use Rattle.std.proofs.lemmas.Bool.{and_from, and_parts, false≢true}
use Rattle.std.proofs.lemmas.List.{append-nil}
use Rattle.std.specs.Prelude.{◌&&◌, not, option_map}
use Rattle.std.specs.List.{list_all}
use Rattle.std.specs.Option.{option_map_or}
use Rattle.mps_base.specs.Address.{Id}
use Rattle.mps_base.specs.declared.moves.Move.{Move}
use Rattle.mps_base.specs.declared.moves.Move.TheVariants as moves
use Rattle.mps_model.specs.Collection.{Collection}
use Rattle.mps_model.specs.Graph.{Object, is_weak_object, object_at}
use Rattle.mps_model.specs.Dependents.{may_depend}
use Rattle.mps_model.specs.World.{World, is_live, is_weak_kind, object_is, pool_is}
use Rattle.mps_model.specs.WellFormed.{is_right_pair}
use Rattle.mps_model.specs.LegalMove.{AreLegalMoves, first_move}
use Rattle.mps_model.specs.Effect.{world_after_move, world_after_moves}
use Rattle.mps_refinement.specs.Following.{Following, are_of_one, followed, following, following_move, nothing_followed, paired_at_flip, unpaired}
use Rattle.mps_refinement.proofs.Following.Moves.{move_follows}
use Rattle.mps_refinement.proofs.Following.Kept.{IsFollowable, followable_after_flip}
use Rattle.mps_refinement.proofs.Following.Legal.{move_legal, moves_legal}
use Rattle.mps_refinement.proofs.Following.Units.{IsCarried, carried}

-- ---- before any move

-- a dependent isn't weak
dependent_strong : (w : World) (p : Id × Id) → is_right_pair w p ≡ true → not (object_is is_weak_object w p.1) ≡ true
dependent_strong w p h =
    let parts = and_parts (is_live w p.0) (is_live w p.1 && object_is (λ holder. object_is (may_depend w holder) w p.1) w p.0) h in
    let rest = and_parts (is_live w p.1) (object_is (λ holder. object_is (may_depend w holder) w p.1) w p.0) parts.1 in
    of_holder (object_at w.graph p.0) rest.1
  where
    of_dependent : (holder : Object) (o : Option Object) → option_map_or (may_depend w holder) o false ≡ true
        → not (option_map_or is_weak_object o false) ≡ true
    of_dependent holder None e = absurd (false≢true e)
    of_dependent holder (Some d) e =
        let first = and_parts (is_weak_object holder) (pool_is is_weak_kind w d.pool && not (is_weak_object d)) e in
        (and_parts (pool_is is_weak_kind w d.pool) (not (is_weak_object d)) first.1).1

    of_holder : (o : Option Object) → option_map_or (λ holder. object_is (may_depend w holder) w p.1) o false ≡ true
        → not (object_is is_weak_object w p.1) ≡ true
    of_holder None e = absurd (false≢true e)
    of_holder (Some holder) e = of_dependent holder (object_at w.graph p.1) e

dependents_strong : (w : World) (ps : List (Id × Id)) → list_all (is_right_pair w) ps ≡ true
    → list_all (λ (p : Id × Id). not (object_is is_weak_object w p.1)) ps ≡ true
dependents_strong w [] h = refl
dependents_strong w (p ∷ ps) h =
    let parts = and_parts (is_right_pair w p) (list_all (is_right_pair w) ps) h in
    and_from (not (object_is is_weak_object w p.1)) (list_all (λ (q : Id × Id). not (object_is is_weak_object w q.1)) ps)
    (dependent_strong w p parts.0) (dependents_strong w ps parts.1)

abbrev pub is_weak_in : World → Id → Bool
is_weak_in w id = object_is is_weak_object w id

pub nothing_is_followable : (w : World) → list_all (is_right_pair w) w.graph.dependents ≡ true
    → IsFollowable (is_weak_in w) (unpaired w) (nothing_followed w)
nothing_is_followable w right = record {
  unpaired = refl;
  weak = λ id. refl;
  pairs = dependents_strong w w.graph.dependents right;
  cells = refl;
  tracing = λ h. refl;
}

pub nothing_followed_is : (w : World) → followed (unpaired w) (nothing_followed w) ≡ w
nothing_followed_is w = ap (λ (o : Option Collection). record w { collection = o }) (same w.collection)
  where
    same : (o : Option Collection) → option_map (paired_at_flip None) o ≡ o
    same None = refl
    same (Some c) = refl

-- ---- moves of one collection

module _ (is_weak : Id → Bool) where
  pub one_legal : (w : World) (f : Following) (before : Option Move) (ms : List Move) → IsFollowable is_weak w f → f.cells ≡ []
      → are_of_one ms ≡ true → AreLegalMoves w before ms → AreLegalMoves (followed w f) before ms
  one_legal w f before [] k none one h = tt
  one_legal w f before (moves.Flip zones chain generation ∷ ms) k none one h =
      let m : Move = moves.Flip zones chain generation in (
        move_legal is_weak w f k before m (first_move ms) (λ e. none) (λ base grains pool old e. none) h.0,
        subst (λ v. AreLegalMoves v (Some m) ms) (sym (move_follows w f m k.unpaired (λ e. none)))
            (moves_legal is_weak (world_after_move w m) (following_move w f m) (Some m) ms
            (followable_after_flip is_weak w f k zones chain generation none) one h.1),
      )
  one_legal w f before (m ∷ ms) k none one h = moves_legal is_weak w f before (m ∷ ms) k one h

  -- what they leave, before others that are legal after them
  pub one_carried : (w : World) (f : Following) (before : Option Move) (ms more : List Move) → IsFollowable is_weak w f → f.cells ≡ []
      → are_of_one ms ≡ true → AreLegalMoves w before (ms ++ more) → IsCarried is_weak w f ms more
  one_carried w f before [] more k none one h = record { leads = refl; followable = k; before = before; legal = h }
  one_carried w f before (moves.Flip zones chain generation ∷ ms) more k none one h =
      let m : Move = moves.Flip zones chain generation in
      let rest =
      carried is_weak (world_after_move w m) (following_move w f m) (Some m) ms more
      (followable_after_flip is_weak w f k zones chain generation none) one h.1 in
      record {
        leads = ap (λ v. world_after_moves v ms) (move_follows w f m k.unpaired (λ e. none)) ∙ rest.leads;
        followable = rest.followable;
        before = rest.before;
        legal = rest.legal;
      }
  one_carried w f before (m ∷ ms) more k none one h = carried is_weak w f before (m ∷ ms) more k one h

  pub one_leads : (w : World) (f : Following) (before : Option Move) (ms : List Move) → IsFollowable is_weak w f → f.cells ≡ []
      → are_of_one ms ≡ true → AreLegalMoves w before ms
      → world_after_moves (followed w f) ms ≡ followed (world_after_moves w ms) (following w f ms)
  one_leads w f before ms k none one h =
      (one_carried w f before ms [] k none one (subst (λ all. AreLegalMoves w before all) (sym (append-nil ms)) h)).leads
