-- A step of a call that makes no moves: its answer and the world after it are those of its act.
use Rattle.std.proofs.Common.{◌≡◌, Bool, true, false, true≢false, refl, sym, ◌∙◌, ap, subst, List, [], Ok, Err}
use Rattle.mps_base.specs.declared.moves.Move.{Move}
use Rattle.mps_model.specs.declared.call.Call.{Call}
use Rattle.mps_model.specs.Answer.{Answer, Replied, is_accepted, is_block}
use Rattle.mps_model.specs.declared.reply.Reply.TheVariants as reply
use Rattle.mps_model.specs.Step.{Step}
use Rattle.mps_model.specs.World.{World}
use Rattle.mps_model.specs.Checked.{Act, Checked, ◌>>◌, done}
use Rattle.mps_model.specs.Reply.{act, answer_from, reply_to, world_from}
use Rattle.mps_model.specs.History.{IsLegalStep, AreMovesOf, judged_world, moved_world, with_client_remembered, world_after, world_after_call}

-- what a call comes to in a world in which it is judged and takes effect
abbrev pub act_in : World → Call → Checked Act
act_in w c = act false w w c

-- a call that makes no moves, and asks no units
pub record IsQuiet (c : Call) : Type 0 where
  pub none : (w : World) (answer : Answer) (ms : List Move) → AreMovesOf w c answer ms → ms ≡ []
  pub world : (w : World) (answer : Answer) → world_after_call w c [] answer ≡ with_client_remembered (world_from w (act_in w c))
  pub reply : (marked : Bool) (w : World) → reply_to marked (judged_world w c []) (moved_world w c []) c ≡ answer_from (act_in w c)

module _ (c : Call) (quiet : IsQuiet c) (w : World) (s : Step) (legal : IsLegalStep w s) (is : s.call ≡ c) where
  no_moves : s.moves ≡ []
  no_moves = quiet.none w s.answer s.moves (subst (λ d. AreMovesOf w d s.answer s.moves) is legal.moves_are_due)

  pub quiet_world : world_after w s ≡ with_client_remembered (world_from w (act_in w c))
  quiet_world =
      ap (λ d. world_after_call w d s.moves s.answer) is ∙ ap (λ ms. world_after_call w c ms s.answer) no_moves ∙ quiet.world w s.answer

  pub quiet_answer : s.answer ≡ answer_from (act_in w c)
  quiet_answer =
      subst (λ d. s.answer ≡ reply_to (is_block s.answer) (judged_world w d s.moves) (moved_world w d s.moves) d) is
      legal.answer_is_due
      ∙ ap (λ ms. reply_to (is_block s.answer) (judged_world w c ms) (moved_world w c ms) c) no_moves
      ∙ quiet.reply (is_block s.answer) w

-- the value of a check that was passed, and what comes after it
pub checked_ok : {A B : Type 0} (x : Checked A) (y : Checked B) (b : B) → (x >> y) ≡ Ok b → (a : A) × (x ≡ Ok a) × (y ≡ Ok b)
checked_ok (Ok a) y b e = (a, refl, e)
checked_ok (Err why) y b e = absurd cc

pub done_world : (u : World) (a : Act) → done u ≡ Ok a → a.world ≡ u
done_world u a e = let same : a ≡ record { answer = Replied reply.Ok; world = u } = cc in ap (λ (x : Act). x.world) same

-- an accepted answer is that of an act which isn't refused
pub accepted_act : (x : Checked Act) (answer : Answer) → answer ≡ answer_from x → is_accepted answer ≡ true → (a : Act) × (x ≡ Ok a)
accepted_act (Ok a) answer due accepted = (a, refl)
accepted_act (Err why) answer due accepted = absurd (true≢false (sym accepted ∙ ap is_accepted due))
