-- What a `commit` gives.
use Rattle.std.proofs.Common.{◌≡◌, Bool, true, false, true≢false, refl, sym, ◌∙◌, ap, subst, [], ◌∷◌, length, Option, Some, None, Ok, Err}
use Rattle.std.specs.Prelude.{if◌then◌else◌}
use Rattle.mps_base.specs.declared.names.Name.{Name}
use Rattle.mps_base.specs.declared.names.Slot.{Slot}
use Rattle.mps_base.specs.declared.refusal.Refusal.TheVariants as refusal
use Rattle.mps_model.proofs.Appending.{IsLegalFrom-later}
use Rattle.mps_model.specs.declared.call.Call.TheVariants as call
use Rattle.mps_model.specs.declared.reply.Reply.TheVariants as reply
use Rattle.mps_model.specs.Answer.{Answer, Replied, is_accepted, is_block}
use Rattle.mps_model.specs.Step.{Step}
use Rattle.mps_model.specs.Graph.{Graph, Point, Reservation, object_at}
use Rattle.mps_model.specs.World.{World, empty_world, empty_world_of}
use Rattle.mps_model.specs.Checked.{Act, Checked, Numbered, done, point_named, required, says, slot_in, with_graph}
use Rattle.mps_model.specs.Allocating.{act_commit, committed_object, with_object, with_reservation, world_committed}
use Rattle.mps_model.specs.Effect.{world_after_moves}
use Rattle.mps_model.specs.Reply.{answer_from, reply_to, world_from}
use Rattle.mps_model.specs.History.{IsLegalStep, AreMovesOf, commit_of, if_accepted, judged_world, moved_world, moves_of_commit, with_client_remembered, world_after, world_after_call}
use Rattle.mps_changes.proofs.Checks.{required-is}
use Rattle.mps_laws.specs.Held.{target_of_slot}
use Rattle.mps_laws.specs.Replay.{reached}
use Rattle.mps_laws.proofs.Lookups.{slice_get-at_last}
use Rattle.mps_laws.proofs.Reading.{bind_ok}
use Rattle.mps_client_laws.specs.Committing.{IsMade, CommitMakesTheObject, FlippedMakesNone}
use Rattle.mps_client_laws.proofs.QuietCalls.{accepted_act}
use Rattle.mps_client_laws.proofs.Slots.{slot_written}

-- the record of a commit changes no world
commit_moves_nothing : (w : World) (answer : Answer) (p : Checked (Numbered Point))
    → world_after_moves w (if_accepted answer (moves_of_commit w p)) ≡ w
commit_moves_nothing w answer p = by_case (is_accepted answer) p
  where
    by_reservation : (p : Numbered Point) (r : Option Reservation) → world_after_moves w (commit_of w p r) ≡ w
    by_reservation p None = refl
    by_reservation p (Some r) = refl

    by_case : (b : Bool) (p : Checked (Numbered Point)) → world_after_moves w (if b then moves_of_commit w p else []) ≡ w
    by_case true (Ok p) = by_reservation p p.value.reservation
    by_case true (Err why) = refl
    by_case false p = refl

module _ (w : World) (s : Step) (point : Name) (target : Slot) (legal : IsLegalStep w s) (is : s.call ≡ call.Commit point target) where
  unmoved : world_after_moves w s.moves ≡ w
  unmoved =
      ap (world_after_moves w) (subst (λ c. AreMovesOf w c s.answer s.moves) is legal.moves_are_due)
      ∙ commit_moves_nothing w s.answer (point_named w point)

  pub commit_world : world_after w s ≡ with_client_remembered (world_from w (act_commit w point target))
  commit_world =
      ap (λ c. world_after_call w c s.moves s.answer) is
      ∙ ap (λ v. with_client_remembered (world_from v (act_commit v point target))) unmoved

  pub commit_answer : s.answer ≡ answer_from (act_commit w point target)
  commit_answer =
      subst (λ c. s.answer ≡ reply_to (is_block s.answer) (judged_world w c s.moves) (moved_world w c s.moves) c) is
      legal.answer_is_due
      ∙ ap (λ v. answer_from (act_commit v point target)) unmoved

-- an accepted commit is of a live reservation
live_reservation : (b : Bool) (flipped made : World) (a : Act) → (if b then says reply.Flipped flipped else done made) ≡ Ok a
    → is_accepted a.answer ≡ true → a.world ≡ made
live_reservation true flipped made a e accepted =
    let same : a ≡ record { answer = Replied reply.Flipped; world = flipped } = cc in
    absurd (true≢false (sym accepted ∙ ap (λ (x : Act). is_accepted x.answer) same))
live_reservation false flipped made a e accepted =
    let same : a ≡ record { answer = Replied reply.Ok; world = made } = cc in ap (λ (x : Act). x.world) same

ended_reservation : (b : Bool) (flipped made : World) (a : Act) → (if b then says reply.Flipped flipped else done made) ≡ Ok a
    → a.answer ≡ Replied reply.Flipped → a.world ≡ flipped
ended_reservation true flipped made a e says_flipped =
    let same : a ≡ record { answer = Replied reply.Flipped; world = flipped } = cc in ap (λ (x : Act). x.world) same
ended_reservation false flipped made a e says_flipped =
    let same : a ≡ record { answer = Replied reply.Ok; world = made } = cc in
    let other : Replied reply.Ok ≡ Replied reply.Flipped = sym (ap (λ (x : Act). x.answer) same) ∙ says_flipped in
    absurd cc

-- a world of this graph
abbrev of_graph : Graph → World
of_graph g = record empty_world { graph = g }

made_by_act : (w : World) (point : Name) (target : Slot) (a : Act) → act_commit w point target ≡ Ok a → is_accepted a.answer ≡ true
    → IsMade w a.world point target
made_by_act w point target a e accepted =
    let p = bind_ok (point_named w point) _ a e in
    let slot = bind_ok (slot_in w target) _ a p.2 in
    let r = bind_ok (required p.0.value.reservation refusal.NotOpen) _ a slot.2 in
    let world = live_reservation r.0.is_doomed (with_graph w (with_reservation w.graph p.0 None)) (world_committed w p.0 r.0 slot.0) a
    r.2 accepted in
    let with_new = with_object (with_reservation w.graph p.0 None) (committed_object p.0.value r.0) in
    record {
      of = p.0;
      reserved = r.0;
      named = p.1;
      had = required-is p.0.value.reservation refusal.NotOpen r.0 r.1;
      object = ap (λ (u : World). object_at u.graph (length w.graph.objects)) world
          ∙ slice_get-at_last w.graph.objects (committed_object p.0.value r.0);
      refers = ap (λ (u : World). target_of_slot u target) world
          ∙ slot_written (with_graph w with_new) target slot.0 (Some (length w.graph.objects)) slot.1;
    }

none_by_act : (w : World) (point : Name) (target : Slot) (a : Act) → act_commit w point target ≡ Ok a
    → a.answer ≡ Replied reply.Flipped → a.world.graph.objects ≡ w.graph.objects
none_by_act w point target a e flipped =
    let p = bind_ok (point_named w point) _ a e in
    let slot = bind_ok (slot_in w target) _ a p.2 in
    let r = bind_ok (required p.0.value.reservation refusal.NotOpen) _ a slot.2 in
    ap (λ (u : World). u.graph.objects)
    (ended_reservation r.0.is_doomed (with_graph w (with_reservation w.graph p.0 None)) (world_committed w p.0 r.0 slot.0) a r.2 flipped)

-- what is made is seen in the graph afterwards
made_in : (w u v : World) (point : Name) (target : Slot) → v.graph ≡ u.graph → IsMade w u point target → IsMade w v point target
made_in w u v point target same made = record {
  of = made.of;
  reserved = made.reserved;
  named = made.named;
  had = made.had;
  object = ap (λ g. object_at g (length w.graph.objects)) same ∙ made.object;
  refers = ap (λ g. target_of_slot (of_graph g) target) same ∙ made.refers;
}

flipped_act : (x : Checked Act) → Replied reply.Flipped ≡ answer_from x → (a : Act) × (x ≡ Ok a) × (a.answer ≡ Replied reply.Flipped)
flipped_act (Ok a) due = (a, refl, sym due)
flipped_act (Err why) due = absurd cc

pub commit_makes_the_object : CommitMakesTheObject
commit_makes_the_object formats steps later s point target legal is accepted =
    let w = reached formats steps in
    let here = (IsLegalFrom-later (empty_world_of formats) steps (s ∷ later) legal).0 in
    let due = commit_answer w s point target here is in
    let a = accepted_act (act_commit w point target) s.answer due accepted in
    made_in w a.0.world (world_after w s) point target
    (ap (λ (u : World). u.graph) (commit_world w s point target here is ∙ ap (λ x. with_client_remembered (world_from w x)) a.1))
    (made_by_act w point target a.0 a.1 (sym (ap is_accepted (due ∙ ap answer_from a.1)) ∙ accepted))

pub flipped_makes_none : FlippedMakesNone
flipped_makes_none formats steps later s point target legal is says_flipped =
    let w = reached formats steps in
    let here = (IsLegalFrom-later (empty_world_of formats) steps (s ∷ later) legal).0 in
    let a = flipped_act (act_commit w point target) (sym says_flipped ∙ commit_answer w s point target here is) in
    ap (λ (u : World). u.graph.objects)
    (commit_world w s point target here is ∙ ap (λ x. with_client_remembered (world_from w x)) a.1)
    ∙ none_by_act w point target a.0 a.1 a.2
