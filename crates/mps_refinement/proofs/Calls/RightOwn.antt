-- Calls on manual blocks, at any time: a refused one makes no moves and changes nothing, and one that is done makes moves of the client.
use Rattle.std.proofs.Common.{◌≡◌, ◌∙◌, ℕ, ◌+◌, true, false, refl, sym, ap, subst, List, [], None, Err}
use Rattle.std.specs.List.{list_all}
use Rattle.mps_base.specs.Trail.{Moves}
use Rattle.mps_base.specs.declared.moves.Move.{Move}
use Rattle.mps_base.specs.declared.refusal.Refusal.{Refusal}
use Rattle.mps_base.specs.declared.refusal.Refusal.TheVariants as refusal
use Rattle.mps_abstract.specs.Collecting.{Collecting}
use Rattle.mps_abstract.specs.ClientLaws.{IsWellPlaced, IsMarkedKept, IsReadKept, collected_world, position_taken}
use Rattle.mps_format.specs.Layout.{Layout}
use Rattle.mps_changes.specs.Change.{makes_arena}
use Rattle.mps_laws.proofs.Positions.LegalMoves.{HasLayout}
use Rattle.mps_laws.proofs.QuietSteps.{IsSound}
use Rattle.mps_model.specs.declared.call.Call.{Call}
use Rattle.mps_model.specs.declared.reply.Reply.TheVariants as reply
use Rattle.mps_model.specs.Answer.{Answer, Replied, refused}
use Rattle.mps_model.specs.Checked.{Checked, done}
use Rattle.mps_model.specs.Graph.{ids_in_blocks}
use Rattle.mps_model.specs.History.{AreMovesOf, IsPossiblyMarked, judged_world, moved_world, moves_of_collector}
use Rattle.mps_model.specs.LegalMove.{AreLegalMoves}
use Rattle.mps_model.specs.Reply.{act}
use Rattle.mps_model.specs.WellFormed.{IsWellFormed}
use Rattle.mps_model.specs.World.{World, is_live}
use Rattle.mps_heap_spec.specs.Coming.{ComesMoving, Moved, answer_moved, state_moved, trail_moved}
use Rattle.mps_heap_spec.specs.State.{HeapState}
use Rattle.mps_refinement.specs.Answering.{answer_to, says_ok}
use Rattle.mps_refinement.specs.RightStep.{IsRight, IsRightFrom, step_of}
use Rattle.mps_refinement.specs.StandsFor.{AreParts, IsInTime, IsReached, Past, collector_of}
use Rattle.mps_refinement.proofs.Worlds.Known.{IsKnown, known_now}
use Rattle.mps_refinement.proofs.Worlds.RestingActs.{resting_sound}
use Rattle.mps_refinement.proofs.Worlds.RunningSteps.{placed_from_layout}
use Rattle.mps_refinement.proofs.Worlds.Steps.{HasParts, moving_is_right}
use Rattle.mps_refinement.proofs.Worlds.TimeKept.{KeepsTime, keeps_still}

-- such a call: none of its moves are a collector's, and it is judged in the world before it
pub record IsOwn (w : World) (c : Call) : Type 0 where
  pub arena : makes_arena c ≡ false
  pub collected : (ms : List Move) (answer : Answer) → collected_world w (step_of 0 c ms answer) ≡ w
  pub legal : (ms : List Move) → AreLegalMoves w None (moves_of_collector c ms)
  pub marked : (y : Collecting) (answer : Answer) → IsMarkedKept y c answer
  pub read : (y : Collecting) → IsReadKept y c
  pub possible : (answer : Answer) → IsPossiblyMarked w c answer
  pub unasked : (why : Refusal) → AreMovesOf w c (refused why) []
  pub still : moved_world w c [] ≡ w
  pub judged : (ms : List Move) → judged_world w c ms ≡ w
  pub taken : (v : World) → position_taken v c ≡ Err refusal.NotRegistered

module _ {F : Type 0} (layout : F → Layout) (h : HeapState F) (trail : Moves) (none : trail.moves ≡ []) (c : Call) where
  -- the step of the call with this outcome is right in a world
  abbrev pub IsRightOutcome : World → (line : ℕ) → Checked (Moved F (Unit {0})) → Type 0
  IsRightOutcome w line o =
      IsRightFrom layout h w (step_of line c (trail_moved trail o).moves (answer_to says_ok (answer_moved o))) (state_moved h o)

  -- what a call that is done shows
  pub record IsDone (past : Past) (w : World) (ms : List Move) (state : HeapState F) (v : World) : Type 0 where
    pub due : AreMovesOf w c (Replied reply.Ok) ms
    pub comes : act false w (moved_world w c ms) c ≡ done v
    pub sound : w.collection ≡ None → IsSound v
    pub blocks : list_all (is_live v) (ids_in_blocks v.graph) ≡ true
    pub laid : HasLayout (w.grains + 1) v
    pub has : HasParts layout past.time state v
    pub keeps : KeepsTime past.time (collector_of h) w (collector_of state) v
    pub formats : v.formats ≡ w.formats

  module _ (w : World) (line : ℕ) (past : Past) (parts : AreParts layout past h w) (knows : IsKnown past.time w)
      (reach : IsReached w) (time : IsInTime past.time (collector_of h) w) (own : IsOwn w c) where
    pub done_is_right : (ms : List Move) (state : HeapState F) (v : World) → IsDone past w ms state v
        → IsRightFrom layout h w (step_of line c ms (Replied reply.Ok)) state
    done_is_right ms state v is =
        let comes : act false (judged_world w c ms) (moved_world w c ms) c ≡ done v =
        ap (λ u. act false u (moved_world w c ms) c) (own.judged ms) ∙ is.comes in
        moving_is_right layout past h w parts knows.formed line c own.taken ms (Replied reply.Ok) state (done v) own.arena reach time
        (record {
          moving = λ y same run. record {
            collected = own.collected ms (Replied reply.Ok) ∙ sym same;
            legal = own.legal ms;
            due = is.due;
            marked = own.marked y (Replied reply.Ok);
            read = own.read y;
            possible = own.possible (Replied reply.Ok);
            comes = comes;
            answers = refl;
            formed = subst IsWellFormed (sym same) knows.formed;
            blocks = subst (λ (u : World). list_all (is_live u) (ids_in_blocks u.graph) ≡ true) (sym same) knows.live.blocks;
            placed = placed_from_layout (w.grains + 1) v is.laid;
            blocks_after = is.blocks;
          };
          resting = λ rest. record {
            legal = own.legal ms;
            due = is.due;
            comes = comes;
            answers = refl;
            marked = own.possible (Replied reply.Ok);
            sound = is.sound rest;
          };
          formats = is.formats;
          has = is.has;
          keeps = is.keeps;
        })

    pub refusal_is_right : (why : Refusal) → act false w w c ≡ Err why → IsRightOutcome w line (Err why)
    refusal_is_right why e =
        let comes : act false (judged_world w c []) (moved_world w c []) c ≡ Err why =
        ap (λ u. act false u (moved_world w c []) c) (own.judged []) ∙ ap (λ u. act false w u c) own.still ∙ e in
        subst (λ ms. IsRightFrom layout h w (step_of line c ms (refused why)) h) (sym none)
        (moving_is_right layout past h w parts knows.formed line c own.taken [] (refused why) h (Err why) own.arena reach time (record {
          moving = λ y same run. record {
            collected = own.collected [] (refused why) ∙ sym same;
            legal = own.legal [];
            due = own.unasked why;
            marked = own.marked y (refused why);
            read = own.read y;
            possible = own.possible (refused why);
            comes = comes;
            answers = refl;
            formed = subst IsWellFormed (sym same) knows.formed;
            blocks = subst (λ (u : World). list_all (is_live u) (ids_in_blocks u.graph) ≡ true) (sym same) knows.live.blocks;
            placed = subst IsWellPlaced (sym own.still) (placed_from_layout (w.grains + 1) w knows.laid);
            blocks_after = subst (λ (u : World). list_all (is_live u) (ids_in_blocks u.graph) ≡ true) (sym own.still) knows.live.blocks;
          };
          resting = λ rest. record {
            legal = own.legal [];
            due = own.unasked why;
            comes = comes;
            answers = refl;
            marked = own.possible (refused why);
            sound = subst IsSound (sym own.still) (resting_sound w rest knows.live);
          };
          formats = ap (λ (u : World). u.formats) own.still;
          has = subst (HasParts layout past.time h) (sym own.still) (record { past = past; timed = refl; parts = parts });
          keeps = subst (λ u. KeepsTime past.time (collector_of h) w (collector_of h) u) (sym own.still) keeps_still;
        }))

  -- so a call is right if its outcome is right in each world that the heap represents
  pub outcome_is_right : (o : Checked (Moved F (Unit {0}))) (result : Checked (Unit {0})) (after : HeapState F) (trail_after : Moves)
      → ComesMoving h trail o result after trail_after
      → ((w : World) (line : ℕ) (past : Past) → AreParts layout past h w → IsKnown past.time w → IsReached w → IsInTime past.time
      (collector_of h) w
      → IsRightOutcome w line o)
      → IsRight layout h c trail_after.moves (answer_to says_ok result) after
  outcome_is_right o result after trail_after comes right = λ w line st.
      subst (λ s. IsRightFrom layout h w (step_of line c trail_after.moves (answer_to says_ok result)) s) (sym comes.state)
      (subst (λ r. IsRightFrom layout h w (step_of line c trail_after.moves (answer_to says_ok r)) (state_moved h o)) (sym comes.answer)
      (subst (λ (t : Moves). IsRightFrom layout h w (step_of line c t.moves (answer_to says_ok (answer_moved o))) (state_moved h o))
      (sym comes.moves) (right w line st.past st.parts (known_now st) st.reached st.time)))
