-- Legal moves of a collector up to the end of a collection: what each move but the last passes on holds where the collection ends.
use Rattle.std.proofs.Common.{◌≡◌, Bool, true, false, refl, sym, ◌∙◌, ap, subst, List, [], ◌∷◌, Option, Some, None}
use Rattle.std.proofs.lemmas.Bool.{true≢false, or_parts}
use Rattle.std.specs.Prelude.{if◌then◌else◌, is_some}
use Rattle.std.specs.List.{list_any}
use Rattle.mps_base.specs.Segment.{Segment, words_of_segment}
use Rattle.mps_base.specs.declared.moves.Move.{Move}
use Rattle.mps_base.specs.declared.moves.Move.TheVariants as moves
use Rattle.mps_model.specs.Collection.{Collection}
use Rattle.mps_model.specs.World.{World, is_copying_pool, is_running, with_tail}
use Rattle.mps_model.specs.Effect.{after_segment, holding, segment_of_move, world_after_move, world_after_moves}
use Rattle.mps_model.specs.LegalMove.{AreLegalMoves, ForOne, IsLegalEnd, IsLegalMove, first_move}
use Rattle.mps_laws.specs.Staying.{is_flip}
use Rattle.mps_laws.proofs.Flipping.{HasNone}

-- ---- after the end

pub segment_runs : (w : World) (s : Segment) → (after_segment w s).collection ≡ w.collection
segment_runs w s = by_case (is_copying_pool w s.pool)
  where
    by_case : (b : Bool) → (if b then with_tail (holding w s) s.pool s.generation (words_of_segment s) else holding w s).collection
        ≡ w.collection
    by_case true = refl
    by_case false = refl

none_for : (P : Collection → Type 0) (o : Option Collection) → o ≡ None → ForOne o P → ⊥
none_for P o rests legal = subst (λ x. ForOne x P) rests legal

-- where no collection runs the only legal moves of a collector begin with a flip
nothing_after : (w : World) (before : Option Move) (ms : List Move) → w.collection ≡ None → HasNone ms → AreLegalMoves w before ms → ms ≡ []
nothing_after w before [] rests none legal = refl
nothing_after w before (moves.Seg base grains pool generation ∷ []) rests none legal = absurd legal.0
nothing_after w before (moves.Seg base grains pool generation ∷ moves.Moved from to ∷ ms) rests none legal =
    absurd (none_for _ _ (segment_runs w (segment_of_move base.0 grains pool generation) ∙ rests) legal.1.0)
nothing_after w before (moves.Seg base grains pool generation ∷ m ∷ ms) rests none legal = absurd legal.0
nothing_after w before (moves.Unseg base ∷ ms) rests none legal = absurd (none_for _ w.collection rests legal.0)
nothing_after w before (moves.Flip zones chain generation ∷ ms) rests none legal = absurd (true≢false none)
nothing_after w before (moves.End ∷ ms) rests none legal = absurd (none_for _ w.collection rests legal.0)
nothing_after w before (moves.Moved from to ∷ ms) rests none legal = absurd (none_for _ w.collection rests legal.0)
nothing_after w before (moves.Stay at ∷ ms) rests none legal = absurd (none_for _ w.collection rests legal.0)
nothing_after w before (moves.Splat holder cell ∷ ms) rests none legal = absurd (none_for _ w.collection rests legal.0)
nothing_after w before (moves.Post at ∷ ms) rests none legal = absurd (none_for _ w.collection rests legal.0)
nothing_after w before (moves.Commit at words pool ∷ ms) rests none legal = absurd legal.0
nothing_after w before (moves.Alloc at words pool ∷ ms) rests none legal = absurd legal.0
nothing_after w before (moves.Free at ∷ ms) rests none legal = absurd (none_for _ w.collection rests legal.0)

-- ---- up to the end

abbrev pub goes_on_after : Move → Bool
goes_on_after (moves.Flip zones chain generation) = false
goes_on_after moves.End = false
goes_on_after _ = true

-- each move is allowed where it is made
abbrev pub AreAllowed : (World → Move → Type 0) → World → List Move → Type 0
AreAllowed Allowed w [] = Unit {0}
AreAllowed Allowed w (m ∷ ms) = Allowed w m × AreAllowed Allowed (world_after_move w m) ms

-- the collection after a move, and what holds then
pub record IsPassedOn (Holds : World → Collection → Option Move → Type 0) (w : World) (next : Option Move) : Type 0 where
  pub collection : Collection
  pub runs : w.collection ≡ Some collection
  pub holds : Holds w collection next

-- where the collection ends, and what holds there
pub record IsEnded (Holds : World → Collection → Option Move → Type 0) (after : World) : Type 0 where
  pub world : World
  pub collection : Collection
  pub holds : Holds world collection (Some moves.End)
  pub legal : IsLegalEnd world collection
  pub after_is : after ≡ world_after_move world moves.End

module _ (Holds : World → Collection → Option Move → Type 0) (Allowed : World → Move → Type 0)
    (one : (w : World) (c : Collection) (before : Option Move) (m : Move) (next : Option Move) → w.collection ≡ Some c
    → goes_on_after m ≡ true → Allowed w m → IsLegalMove w before m next → Holds w c (Some m)
    → IsPassedOn Holds (world_after_move w m) next) where
  pub ended : (w : World) (c : Collection) (before : Option Move) (ms : List Move) → w.collection ≡ Some c → HasNone ms
      → AreAllowed Allowed w ms → AreLegalMoves w before ms → is_running (world_after_moves w ms) ≡ false → Holds w c (first_move ms)
      → IsEnded Holds (world_after_moves w ms)
  ended w c before [] runs none allowed legal rests h = absurd (true≢false (ap is_some (sym runs) ∙ rests))
  ended w c before (moves.Flip zones chain generation ∷ ms) runs none allowed legal rests h = absurd (true≢false none)
  ended w c before (moves.End ∷ ms) runs none allowed legal rests h = record {
    world = w;
    collection = c;
    holds = h;
    legal = subst (λ o. ForOne o (IsLegalEnd w)) runs legal.0;
    after_is = ap (world_after_moves (world_after_move w moves.End))
        (nothing_after (world_after_move w moves.End) (Some moves.End) ms refl none legal.1);
  }
  ended w c before (m ∷ ms) runs none allowed legal rests h =
      let next = one w c before m (first_move ms) runs refl allowed.0 legal.0 h in
      ended (world_after_move w m) next.collection (Some m) ms next.runs (or_parts (is_flip m) (list_any is_flip ms) none).1 allowed.1
      legal.1 rests next.holds
