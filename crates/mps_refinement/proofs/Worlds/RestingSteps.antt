-- Steps where no collection runs: calls that may not move are quiet, and no step changes what the numbers of formats mean.
use Rattle.std.proofs.Common.{◌≡◌, ◌∙◌, ℕ, ◌+◌, Bool, true, false, true≢false, refl, sym, ap, subst, List, Option, Some, None}
use Rattle.std.specs.Prelude.{MatchBool, ◌&&◌, not}
use Rattle.mps_base.specs.declared.moves.Move.{Move}
use Rattle.mps_model.specs.declared.call.Call.{Call}
use Rattle.mps_model.specs.declared.call.Call.TheVariants as call
use Rattle.mps_model.specs.Answer.{Answer, is_block, is_refused}
use Rattle.mps_model.specs.Step.{Step}
use Rattle.mps_model.specs.World.{World, block_of_word, is_running, is_unclamped}
use Rattle.mps_model.specs.Checked.{Act, Checked}
use Rattle.mps_model.specs.Accessing.{AsBlock, poked, poked_in}
use Rattle.mps_model.specs.Policy.{units_asked}
use Rattle.mps_model.specs.Reply.{act, answer_from, world_from}
use Rattle.mps_model.specs.LegalMove.{AreLegalMoves}
use Rattle.mps_model.specs.History.{AreMovesOf, HeldAreLive, IsPossiblyMarked, OfPoked, OfPokedBlock, are_held_kept, asking, has_units_left, judged_world, moved_world, moves_of_collector, with_client_remembered, world_after}
use Rattle.mps_model.proofs.AtRest.{is_running-none, with_collection-none}
use Rattle.mps_laws.proofs.QuietSteps.{IsQuiet, IsRight, IsSound, remembered_sound}
use Rattle.mps_refinement.proofs.Worlds.RestingActs.{may_move}

-- ---- quiet calls

module _ (w : World) (rest : w.collection ≡ None) where
  otherwise : (A B : Type 0) (b : Bool) → b ≡ false → B → MatchBool b A B
  otherwise A B b e x = subst (λ c. MatchBool c A B) (sym e) x

  and_false : (b c : Bool) → c ≡ false → (b && c) ≡ false
  and_false true c e = e
  and_false false c e = refl

  poked_at_rest : (id : ℕ) → poked w id ≡ AsBlock
  poked_at_rest id = ap (poked_in w id) rest

  any_poked : (o : Option ℕ) → OfPokedBlock w o
  any_poked None = tt
  any_poked (Some id) = subst (OfPoked w id) (sym (poked_at_rest id)) tt

  either_way : {A : Type 0} (b : Bool) → A → MatchBool b A (Unit {0})
  either_way true x = x
  either_way false x = tt

  asked_at_rest : (units : Option ℕ) → asking units w ≡ w
  asked_at_rest None = refl
  asked_at_rest (Some units) = with_collection-none w (λ c. record c { spent = c.spent + units }) rest

  -- a call that may not move is quiet
  pub quiet_at_rest : (c : Call) (answer : Answer) → may_move c ≡ false → IsQuiet w c answer
  quiet_at_rest (call.Reserve point head) answer h = absurd (true≢false h)
  quiet_at_rest (call.Commit point target) answer h = absurd (true≢false h)
  quiet_at_rest (call.Alloc pool words place) answer h = absurd (true≢false h)
  quiet_at_rest (call.Free place) answer h = absurd (true≢false h)
  quiet_at_rest (call.CacheAlloc cache words place) answer h = absurd (true≢false h)
  quiet_at_rest (call.CacheFree cache place) answer h = absurd (true≢false h)
  quiet_at_rest (call.CacheFlush cache) answer h = absurd (true≢false h)
  quiet_at_rest (call.Pop pool frame) answer h = absurd (true≢false h)
  quiet_at_rest call.Start answer h = absurd (true≢false h)
  quiet_at_rest (call.StartChain chain generation) answer h = absurd (true≢false h)
  quiet_at_rest call.Collect answer h = absurd (true≢false h)
  quiet_at_rest (call.Step units) answer h = record {
    judged = refl;
    moved = asked_at_rest (units_asked w (call.Step units));
    due = otherwise _ _ (is_unclamped w && is_running w) (and_false (is_unclamped w) (is_running w) (is_running-none w rest)) refl;
    marked = tt;
  }
  quiet_at_rest (call.Get target source cell) answer h = record {
    judged = refl;
    moved = refl;
    due = otherwise _ _ (is_running w && not (is_refused answer)) (ap (λ b. b && not (is_refused answer)) (is_running-none w rest)) refl;
    marked = tt;
  }
  quiet_at_rest call.Park answer h = record {
    judged = refl;
    moved = refl;
    due = otherwise _ _ (is_running w) (is_running-none w rest) refl;
    marked = tt;
  }
  quiet_at_rest (call.Poke word value) answer h = record {
    judged = refl;
    moved = refl;
    due = refl;
    marked = either_way (is_block answer) (any_poked (block_of_word w value));
  }
  quiet_at_rest c answer h = record { judged = refl; moved = refl; due = refl; marked = tt }

-- ---- steps with moves

-- a call with its moves and its answer, where its act comes to this
pub record IsMoving (w : World) (c : Call) (ms : List Move) (answer : Answer) (result : Checked Act) : Type 0 where
  pub legal : AreLegalMoves w None (moves_of_collector c ms)
  pub due : AreMovesOf w c answer ms
  pub comes : act (is_block answer) (judged_world w c ms) (moved_world w c ms) c ≡ result
  pub answers : answer ≡ answer_from result
  pub marked : IsPossiblyMarked w c answer
  pub sound : IsSound (world_from (moved_world w c ms) result)

-- its step is legal, and what the world after it is
pub moving_step : (w : World) (line : ℕ) (c : Call) (ms : List Move) (answer : Answer) (result : Checked Act)
    → IsMoving w c ms answer result
    → IsRight w (record { line = line; call = c; moves = ms; answer = answer })
    (with_client_remembered (world_from (moved_world w c ms) result))
moving_step w line c ms answer result m =
    let s : Step = record { line = line; call = c; moves = ms; answer = answer } in
    let after : world_after w s ≡ with_client_remembered (world_from (moved_world w c ms) result) =
    ap (λ r. with_client_remembered (world_from (moved_world w c ms) r)) m.comes in
    let remembered = remembered_sound (world_from (moved_world w c ms) result) m.sound in
    record {
      legal = record {
        moves_are_legal = m.legal;
        moves_are_due = m.due;
        answer_is_due = m.answers ∙ ap answer_from (sym m.comes);
        marked_may_survive = m.marked;
        held_are_live = subst HeldAreLive (sym after) remembered.live;
        held_are_kept = subst (λ (v : World). are_held_kept v ≡ true) (sym after) remembered.kept;
        units_are_left = subst (λ (v : World). has_units_left v ≡ true) (sym after) remembered.units;
      };
      world = after;
    }
