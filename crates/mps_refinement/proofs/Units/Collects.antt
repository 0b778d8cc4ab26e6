-- A `collect`: what runs is finished first, and a collection of everything follows. It can be done, it is right, and its trail keeps its
-- room.
use Rattle.std.proofs.Common.{◌≡◌, ◌∙◌, ◌≤◌, refl, sym, ap, subst, List, [], ◌∷◌, ◌++◌, Option, Some, None}
use Rattle.std.proofs.lemmas.List.{append_assoc}
use Rattle.mps_base.specs.Trail.{Moves}
use Rattle.mps_base.specs.declared.moves.Move.{Move}
use Rattle.mps_base.specs.declared.moves.Move.TheVariants as moves
use Rattle.mps_buffer.specs.Points.{WereMadeBefore}
use Rattle.mps_format.specs.Layout.{Layout}
use Rattle.mps_laws.proofs.SameArena.{moved_alone}
use Rattle.mps_model.specs.declared.call.Call.TheVariants as call
use Rattle.mps_model.specs.declared.reply.Reply.TheVariants as reply
use Rattle.mps_model.specs.Answer.{Answer, Replied}
use Rattle.mps_model.specs.Effect.{world_after_move, world_after_moves}
use Rattle.mps_model.specs.History.{FinishesCollection, IsFullCollection}
use Rattle.mps_model.specs.LegalMove.{AreLegalMoves, IsLegalMove, first_move}
use Rattle.mps_model.specs.World.{World}
use Rattle.mps_model.proofs.Cutting.{world_after_moves-append}
use Rattle.mps_seg.specs.Table.{IsMarked}
use Rattle.mps_refinement.proofs.Collect.LiveIsFew.{most_now}
use Rattle.mps_heap_spec.specs.Collecting.{CanCollectAll, IsCollected}
use Rattle.mps_heap_spec.specs.Following.{Follows, made_since, moves_followed}
use Rattle.mps_heap_spec.specs.State.{HeapState}
use Rattle.mps_refinement.specs.Collect.Standing.{world_collected}
use Rattle.mps_refinement.specs.Dependents.{AreDependents}
use Rattle.mps_refinement.specs.Following.{unpaired}
use Rattle.mps_refinement.specs.RightMoving.{IsRightMovingIn, KeepsRoom}
use Rattle.mps_refinement.specs.StandsFor.{IsInTime, IsReached, Time, collector_of, time_at_rest}
use Rattle.mps_refinement.proofs.Collect.CollectRight.{IsWholeMade}
use Rattle.mps_refinement.proofs.Collect.Finished.{HasFinished, finished_alone}
use Rattle.mps_refinement.proofs.Collect.HeapCollects.{a_finished_heap_can_collect, a_finished_heap_collects}
use Rattle.mps_refinement.proofs.Following.Laws.{due_moves_follow, splats_follow}
use Rattle.mps_refinement.proofs.Following.Made.{AreMade, paired_made, state_aside}
use Rattle.mps_refinement.proofs.Following.WithoutPairs.{alone, collected_without}
use Rattle.mps_refinement.proofs.Units.MadeSteps.{made_step_is_right}
use Rattle.mps_refinement.proofs.Units.UnitsMade.{since_are}
use Rattle.mps_refinement.proofs.Worlds.LikeReached.{IsLikeReached}
use Rattle.mps_refinement.proofs.Worlds.Steps.{HasParts}
use Rattle.mps_model.specs.World as world

-- ---- moves after others

-- a move that is legal as the last one is legal whatever comes next: a segment is taken for the move after it
any_next : (w : World) (before : Option Move) (m : Move) → IsLegalMove w before m None → (next : Option Move) → IsLegalMove w before m next
any_next w before (moves.Seg base grains pool generation) legal next = absurd legal
any_next w before (moves.Unseg base) legal next = legal
any_next w before (moves.Flip zones chain generation) legal next = legal
any_next w before moves.End legal next = legal
any_next w before (moves.Moved from to) legal next = legal
any_next w before (moves.Stay at) legal next = legal
any_next w before (moves.Splat holder cell) legal next = legal
any_next w before (moves.Post at) legal next = legal
any_next w before (moves.Free at) legal next = legal
any_next w before (moves.Commit at words pool) legal next = absurd legal
any_next w before (moves.Alloc at words pool) legal next = absurd legal

both_legal : (w : World) (before : Option Move) (ms more : List Move) → AreLegalMoves w before ms
    → ((last : Option Move) → AreLegalMoves (world_after_moves w ms) last more) → AreLegalMoves w before (ms ++ more)
both_legal w before [] more legal then = then before
both_legal w before (m ∷ []) more legal then = (any_next w before m legal.0 (first_move more), then (Some m))
both_legal w before (m ∷ n ∷ ms) more legal then = (legal.0, both_legal (world_after_move w m) (Some m) (n ∷ ms) more legal.1 then)

-- ---- a collection of everything, with pairs

module _ {F : Type 0} (layout : F → Layout) (w : World) (like : IsLikeReached w) (m : Moves) (made : HeapState F) (m' : Moves)
    (kept : AreDependents w.addresses made.beside.dependents w.graph.dependents)
    (is : IsWholeMade layout (unpaired w) m (alone made) m') where
  abbrev after : HeapState F
  after = moves_followed layout made (made_since m m')

  is_full : IsFullCollection w is.moves
  is_full = ((due_moves_follow w None is.moves like.kept.paired (is.whole.legal None)).full is.whole.full).1

  legal_after : (last : Option Move) → AreLegalMoves w last is.moves
  legal_after last =
      let one = ((due_moves_follow w None is.moves like.kept.paired (is.whole.legal None)).full is.whole.full).0 in
      (splats_follow w last is.moves like.kept.paired one (is.whole.legal last)).legal

  made_then : AreMade layout w is.moves (world_collected w is.moves) time_at_rest after
  made_then =
      let one = ((due_moves_follow w None is.moves like.kept.paired (is.whole.legal None)).full is.whole.full).0 in
      subst (AreMade layout w is.moves (world_collected w is.moves) time_at_rest)
      (ap (moves_followed layout made) (sym (since_are m m' is.moves is.appended)))
      (paired_made layout (λ u. record u { state = world.Parked [] }) (state_aside (world.Parked [])) w like is.moves time_at_rest made kept
      one is.made)

-- ---- after what ran before

-- moves that finish it lead to a world at rest, which the heap represents
pub record HasEnded {F : Type 0} (layout : F → Layout) (w : World) (m : Moves) (h : HeapState F) (m' : Moves) : Type 0 where
  pub moves : List Move
  pub appended : m'.moves ≡ m.moves ++ moves
  pub legal : AreLegalMoves w None moves
  pub finishes : FinishesCollection w moves
  pub time : Time
  pub has : HasParts layout time h (world_after_moves w moves)
  pub now : IsInTime time (collector_of h) (world_after_moves w moves)
  pub ended : h.running ≡ None
  pub like : IsLikeReached (world_after_moves w moves)

module _ {F : Type 0} (layout : F → Layout) (w : World) (m : Moves) (between : HeapState F) (m_between : Moves)
    (is : HasEnded layout w m between m_between)
    (marked : IsMarked between.segs.grains between.segs.marks between.segs.condemned between.segs.summaries)
    (room : most_now between.segs ≤ m_between.spare) where
  abbrev w_then : World
  w_then = world_after_moves w is.moves

  finished : HasFinished layout (alone between) (unpaired w_then)
  finished = finished_alone w_then is.has is.now is.ended is.like

  pub can_collect_then : CanCollectAll layout between m_between
  can_collect_then = a_finished_heap_can_collect layout (alone between) m_between (unpaired w_then) finished marked room

  module _ (reach : IsReached w) (made : WereMadeBefore between.points.flips between.points) (h' : HeapState F) (m' : Moves)
      (follows : Follows layout m_between (IsCollected layout between m_between) h' m') where
    there : IsWholeMade layout (unpaired w_then) m_between (alone follows.made) m'
    there =
        a_finished_heap_collects layout (alone between) m_between (unpaired w_then) finished marked room (alone follows.made) m' made
        (collected_without follows.left)

    kept : AreDependents w_then.addresses follows.made.beside.dependents w_then.graph.dependents
    kept = ap (λ (g : HeapState F). g.beside.dependents) follows.left.state ∙ is.has.parts.beside.dependents

    abbrev both : List Move
    both = is.moves ++ there.moves

    same : world_collected w_then there.moves ≡ world_collected w both
    same =
        ap (λ (u : World). let v : World = record u { state = world.Parked [] } in v)
        (sym (world_after_moves-append w is.moves there.moves))

    abbrev ok : Answer
    ok = Replied reply.Ok

    both_made : AreMade layout w both (world_collected w both) time_at_rest h'
    both_made =
        let then = made_then layout w_then is.like m_between follows.made m' kept there in
        let last =
        subst (AreMade layout w_then there.moves (world_collected w_then there.moves) time_at_rest) (sym follows.followed) then in
        record {
          legal = both_legal w None is.moves there.moves is.legal (legal_after layout w_then is.like m_between follows.made m' kept there);
          has = subst (HasParts layout time_at_rest h') same last.has;
          now = subst (IsInTime time_at_rest (collector_of h')) same last.now;
          live = subst Rattle.mps_model.specs.History.HeldAreLive same last.live;
        }

    -- the moves of both are due of the call, and the heap represents the world after them
    pub collecting_is_right : IsRightMovingIn layout w call.Collect m.moves m'.moves ok h'
    collecting_is_right = record {
      moves = both;
      appended =
          there.appended ∙ ap (λ ms. ms ++ there.moves) is.appended ∙ append_assoc m.moves is.moves there.moves;
      right = λ line.
          made_step_is_right layout w reach line call.Collect both ok (world_collected w both) (record {
            arena = refl;
            collectors = refl;
            due = record {
              earlier = is.moves;
              full = there.moves;
              both = refl;
              earlier_ends = is.finishes;
              is_full = is_full layout w_then is.like m_between follows.made m' kept there;
            };
            possible = tt;
            comes = refl;
            not_taken = λ v. refl;
            formats = (moved_alone w call.Park both).formats;
          }) time_at_rest h' both_made;
    }

    pub full_keeps_room : KeepsRoom m_between m'
    full_keeps_room = there.room
