-- The flip of a `collect`: the moves before it, the world that it leaves, and the moves after it, which end the collection.
use Rattle.std.proofs.Common.{◌≡◌, inl, inr, ℕ, Bool, true, false, refl, sym, ◌∙◌, ap, subst, List, [], ◌∷◌, ◌++◌, Option, Some, None}
use Rattle.std.proofs.lemmas.Bool.{true≢false, or_parts, cases_eq}
use Rattle.std.specs.Prelude.{MatchBool, if◌then◌else◌, is_some, slice_set}
use Rattle.std.specs.List.{list_any}
use Rattle.mps_base.specs.Address.{Address}
use Rattle.mps_base.specs.Segment.{Segment, words_of_segment}
use Rattle.mps_base.specs.Placement.{Placement, Place, NewSegment, OverLimit, NoFreeRun}
use Rattle.mps_base.specs.declared.moves.Move.{Move}
use Rattle.mps_base.specs.declared.moves.Move.TheVariants as moves
use Rattle.mps_model.proofs.Cutting.{world_after_moves-append}
use Rattle.mps_model.specs.Graph.{entry_at, ids_in_slots, is_automatic}
use Rattle.mps_model.specs.World.{World, id_at, is_copying_pool, is_live, is_running, object_is, with_tail}
use Rattle.mps_model.specs.Placement.{ForMove, placement_of}
use Rattle.mps_model.specs.Accessing.{address_or_null}
use Rattle.mps_model.specs.Effect.{Everything, condemned_by, holding, reclaiming, segment_base_of, segment_of_move, where_one, with_collection, without_object, world_after_move, world_after_moves}
use Rattle.mps_model.specs.Flip.{end_where, fix, fix_all, flip_act, flip_of, is_nothing, moves_to, must_be_fixed, world_at_flip}
use Rattle.mps_model.specs.LegalMove.{AreLegalMoves, IsLegalMove, first_move}
use Rattle.mps_model.specs.Posts.{IsWhole}
use Rattle.mps_model.specs.Units.{AreUnitsToEnd}
use Rattle.mps_model.specs.History.{AreMovesOfCollect}
use Rattle.mps_laws.specs.Staying.{is_flip}
use Rattle.mps_laws.proofs.Finding.{id_at-found}
use Rattle.mps_laws.proofs.Flipping.{HasNone, both_none, finished_none}
use Rattle.mps_laws.proofs.Lookups.{entry_at-set_other, entry_at-set_none}
use Rattle.mps_laws.proofs.Parked.{collect_ends}
use Rattle.mps_client_laws.specs.Complete.{moves_after_flip, world_at_first_flip}

-- ---- the act of a flip has one flip

moves_to_none : (w : World) (id : ℕ) (from : Address) (p : Placement) → HasNone (moves_to w id from p)
moves_to_none w id from (Place word) = refl
moves_to_none w id from (NewSegment grain grains) = refl
moves_to_none w id from (OverLimit committed need limit) = refl
moves_to_none w id from (NoFreeRun need longest) = refl

fix_none : (w : World) (id : ℕ) → HasNone (fix w id)
fix_none w id = by_case (must_be_fixed w id)
  where
    by_case : (b : Bool) → HasNone (if b then moves_to w id (address_or_null w id) (placement_of w (ForMove id)) else [])
    by_case true = moves_to_none w id (address_or_null w id) (placement_of w (ForMove id))
    by_case false = refl

fix_all_none : (w : World) (ids : List ℕ) → HasNone (fix_all w ids)
fix_all_none w [] = refl
fix_all_none w (id ∷ ids) =
    both_none (fix w id) (fix_all (world_after_moves w (fix w id)) ids) (fix_none w id)
    (fix_all_none (world_after_moves w (fix w id)) ids)

end_none : (b : Bool) → HasNone (end_where b)
end_none true = refl
end_none false = refl

-- ---- the first flip of some moves

module _ (rest : List Move) where
  at_flip_of_later : (w : World) (earlier : List Move) → HasNone earlier
      → world_at_first_flip w (earlier ++ rest) ≡ world_at_first_flip (world_after_moves w earlier) rest
  at_flip_of_later w [] none = refl
  at_flip_of_later w (m ∷ ms) none =
      let parts = or_parts (is_flip m) (list_any is_flip ms) none in
      ap (λ b. if b then world_after_move w m else world_at_first_flip (world_after_move w m) (ms ++ rest)) parts.0
      ∙ at_flip_of_later (world_after_move w m) ms parts.1

  after_flip_of_later : (earlier : List Move) → HasNone earlier → moves_after_flip (earlier ++ rest) ≡ moves_after_flip rest
  after_flip_of_later [] none = refl
  after_flip_of_later (m ∷ ms) none =
      let parts = or_parts (is_flip m) (list_any is_flip ms) none in
      ap (λ b. if b then ms ++ rest else moves_after_flip (ms ++ rest)) parts.0 ∙ after_flip_of_later ms parts.1

-- ---- the flip of a `collect`

-- the moves of a `collect`, cut at the flip of its full collection
pub record HasFullFlip (w : World) (ms : List Move) : Type 0 where
  pub earlier : List Move
  pub later : List Move
  pub whole : ms ≡ earlier ++ flip_of (world_after_moves w earlier) Everything ∷ later
  pub earlier_none : HasNone earlier
  -- there are none if no collection runs before the `collect`
  pub none_earlier : is_running w ≡ false → earlier ≡ []
  pub later_none : HasNone later
  pub ends : is_running (world_after_moves w ms) ≡ false
  pub exact : IsWhole (world_after_moves w earlier) (world_at_flip (world_after_moves w earlier) Everything) (world_after_moves w ms)

pub full_flip : (w : World) (ms : List Move) → AreMovesOfCollect w ms → HasFullFlip w ms
full_flip w ms due =
    let v = world_after_moves w due.earlier in
    let flipped = world_at_flip v Everything in
    let fixed = fix_all flipped (ids_in_slots v.graph ++ v.graph.messages) in
    let ended = end_where (is_nothing (condemned_by v Everything)) in
    record {
      earlier = due.earlier;
      later = (fixed ++ ended) ++ due.is_full.later;
      whole = due.both ∙ ap (λ f. due.earlier ++ f) due.is_full.whole;
      earlier_none = finished_none w due.earlier due.earlier_ends;
      none_earlier = λ rests. subst (λ (b : Bool). MatchBool b (AreUnitsToEnd w due.earlier) (due.earlier ≡ [])) rests due.earlier_ends;
      later_none =
          both_none (fixed ++ ended) due.is_full.later
          (both_none fixed ended (fix_all_none flipped (ids_in_slots v.graph ++ v.graph.messages))
          (end_none (is_nothing (condemned_by v Everything))))
          (finished_none (world_after_moves v (flip_act v Everything)) due.is_full.later due.is_full.later_ends);
      ends = collect_ends w ms due;
      exact =
          subst (IsWhole v flipped)
          (sym (world_after_moves-append w due.earlier due.full) ∙ ap (world_after_moves w) (sym due.both)) due.is_full.exact;
    }

module _ (w : World) (ms : List Move) (f : HasFullFlip w ms) where
  abbrev pub before_flip : World
  before_flip = world_after_moves w f.earlier

  abbrev pub at_flip : World
  at_flip = world_at_flip before_flip Everything

  pub at_flip_is : world_at_first_flip w ms ≡ at_flip
  at_flip_is =
      ap (world_at_first_flip w) f.whole
      ∙ at_flip_of_later (flip_of before_flip Everything ∷ f.later) w f.earlier f.earlier_none

  pub after_flip_is : moves_after_flip ms ≡ f.later
  after_flip_is =
      ap moves_after_flip f.whole ∙ after_flip_of_later (flip_of before_flip Everything ∷ f.later) f.earlier f.earlier_none

  pub moved_is : world_after_moves w ms ≡ world_after_moves at_flip f.later
  moved_is =
      ap (world_after_moves w) f.whole ∙ world_after_moves-append w f.earlier (flip_of before_flip Everything ∷ f.later)

-- ---- what legal moves carry on

-- what is carried on by the first of legal moves, and the legality of the rest
pub record IsCarried (Holds : World → Type 0) (w : World) (rest : List Move) : Type 0 where
  pub holds : Holds w
  pub last : Option Move
  pub legal : AreLegalMoves w last rest

module _ (Holds : World → Type 0)
    (one : (w : World) (before : Option Move) (m : Move) (next : Option Move) → Holds w → IsLegalMove w before m next
    → Holds (world_after_move w m)) where
  pub carried : (w : World) (before : Option Move) (earlier rest : List Move) → Holds w → AreLegalMoves w before (earlier ++ rest)
      → IsCarried Holds (world_after_moves w earlier) rest
  carried w before [] rest h legal = record { holds = h; last = before; legal = legal }
  carried w before (m ∷ ms) rest h legal =
      carried (world_after_move w m) (Some m) ms rest (one w before m (first_move (ms ++ rest)) h legal.0) legal.1

-- ---- no move of a collector makes an object live

live_set : (addresses : List (Option ℕ)) (other id : ℕ) (to : Option ℕ) → (other ≡ id → is_some (entry_at addresses id) ≡ true)
    → is_some (entry_at (slice_set addresses other to) id) ≡ true → is_some (entry_at addresses id) ≡ true
live_set addresses other id to same live = elim (cases_eq other id) [
  | inl e ↦ same e
  | inr differs ↦ ap is_some (sym (entry_at-set_other addresses other id to differs)) ∙ live
]

module _ (id : ℕ) where
  found_before : (w : World) (found : Option ℕ) (change : ℕ → World)
      → ((other : ℕ) → found ≡ Some other → is_live (change other) id ≡ true → is_live w id ≡ true)
      → is_live (where_one w found change) id ≡ true → is_live w id ≡ true
  found_before w None change each live = live
  found_before w (Some other) change each live = each other refl live

  segment_before : (w : World) (s : Segment) (b : Bool)
      → is_live (if b then with_tail (holding w s) s.pool s.generation (words_of_segment s) else holding w s) id ≡ true
      → is_live w id ≡ true
  segment_before w s true live = live
  segment_before w s false live = live

  live_beside : (w : World) (other : ℕ) → is_some (entry_at (slice_set w.addresses other None) id) ≡ true → is_live w id ≡ true
  live_beside w other live = live_set w.addresses other id None gone live
    where
      gone : other ≡ id → is_some (entry_at w.addresses id) ≡ true
      gone same =
          absurd (true≢false (sym live ∙ ap (λ n. is_some (entry_at (slice_set w.addresses n None) id)) same
          ∙ ap is_some (entry_at-set_none w.addresses id)))

  freed_before : (w : World) (other at : ℕ) (b : Bool)
      → is_live (if b then with_collection (without_object w other) (reclaiming (segment_base_of w at)) else without_object w other) id
      ≡ true
      → is_live w id ≡ true
  freed_before w other at true live = live_beside w other live
  freed_before w other at false live = live_beside w other live

  live_before_move : (w : World) (m : Move) → is_live (world_after_move w m) id ≡ true → is_live w id ≡ true
  live_before_move w (moves.Seg base grains pool generation) live =
      let s = segment_of_move base.0 grains pool generation in segment_before w s (is_copying_pool w s.pool) live
  live_before_move w (moves.Moved from to) live =
      found_before w (id_at w from.0) _
      (λ other found there. live_set w.addresses other id (Some to.0)
      (λ same. ap (λ n. is_some (entry_at w.addresses n)) (sym same) ∙ ap is_some (id_at-found w from.0 other found)) there) live
  live_before_move w (moves.Stay at) live = found_before w (id_at w at.0) _ (λ other found there. there) live
  live_before_move w (moves.Splat holder cell) live = found_before w (id_at w holder.0) _ (λ other found there. there) live
  live_before_move w (moves.Post at) live = found_before w (id_at w at.0) _ (λ other found there. there) live
  live_before_move w (moves.Free at) live =
      found_before w (id_at w at.0) _ (λ other found there. freed_before w other at.0 (object_is is_automatic w other) there) live
  live_before_move w _ live = live

  pub live_before : (w : World) (ms : List Move) → is_live (world_after_moves w ms) id ≡ true → is_live w id ≡ true
  live_before w [] live = live
  live_before w (m ∷ ms) live = live_before_move w m (live_before (world_after_move w m) ms live)
