-- A dependency that isn't stale has its blocks where they were added.
use Rattle.std.proofs.Common.{◌≡◌, inl, inr, ℕ, Bool, true, false, true≢false, refl, sym, ◌∙◌, ap, subst, List, [], ◌∷◌, None, Ok, Err}
use Rattle.std.specs.List.{AllByRecursion}
use Rattle.mps_base.specs.Staleness.{is_stale}
use Rattle.mps_base.specs.declared.moves.Move.{Move}
use Rattle.mps_base.specs.declared.names.Name.{Name}
use Rattle.mps_model.specs.Layout.{Layout}
use Rattle.mps_model.proofs.Appending.{IsLegalFrom-later}
use Rattle.mps_model.specs.declared.call.Call.{Call}
use Rattle.mps_model.specs.declared.call.Call.TheVariants as call
use Rattle.mps_model.specs.declared.reply.Reply.TheVariants as reply
use Rattle.mps_model.specs.Answer.{Answer, Replied, is_block}
use Rattle.mps_model.specs.Step.{Step, History}
use Rattle.mps_model.specs.World.{World, Dependency, empty_world_of}
use Rattle.mps_model.specs.Checked.{Act, Checked, Numbered, ◌>>=◌, dependency_named, tells}
use Rattle.mps_model.specs.Dependency.{act_dependency, act_dependency_add, act_dependency_merge, act_dependency_reset, act_dependency_stale}
use Rattle.mps_model.specs.Effect.{world_after_moves}
use Rattle.mps_model.specs.LegalMove.{AreLegalMoves}
use Rattle.mps_model.specs.Reply.{act, answer_from, reply_to, world_from}
use Rattle.mps_model.specs.History.{AreMovesOf, IsLegalFrom, IsLegalStep, judged_world, moved_world, moves_of_collector, with_client_remembered, world_after, world_after_steps}
use Rattle.mps_laws.specs.Replay.{reached}
use Rattle.mps_laws.specs.Staying.{IsThereWhileLive}
use Rattle.mps_laws.specs.Depending.{FreshDependenciesHold, blocks_of_dependency}
use Rattle.mps_laws.proofs.Acts.{ForAct, for_world}
use Rattle.mps_laws.proofs.LeftByActs.{act_leaves, changes_dependencies}
use Rattle.mps_laws.proofs.LegalHistories.{IsLegalFrom-first}
use Rattle.mps_laws.proofs.Staying.{client_after_step}
use Rattle.mps_laws.proofs.AddedBlocks.{IsBlockOf, IsAccounted, flipped_is_stale}
use Rattle.mps_laws.proofs.Accounting.{AreAccounted, AreFlippedLegally, Carries-then, carried, act_carries, moved_world_carries, remembered_carries}
use Rattle.mps_laws.proofs.Depending.{IsKnown, account_of, add_accounted, dependency_is, made_accounted, merge_accounted, named_blocks, reset_accounted}

-- ---- one step

-- a call that changes dependencies, which makes no moves
accounted_by_act : (w : World) (result : Checked Act) → IsKnown w → ForAct AreAccounted result
    → AreAccounted (with_client_remembered (world_from w result))
accounted_by_act w result known accounted =
    let u = world_from w result in
    carried u (with_client_remembered u) (remembered_carries u) (for_world AreAccounted w result accounted known.accounted)

-- any other call
accounted_as_before : (w : World) (c : Call) (answer : Answer) (ms : List Move) → IsKnown w
    → AreLegalMoves w None (moves_of_collector c ms) → AreFlippedLegally w (moves_of_collector c ms) → AreMovesOf w c answer ms
    → changes_dependencies c ≡ false
    → AreAccounted (with_client_remembered (world_from (moved_world w c ms) (act (is_block answer) (judged_world w c ms)
    (moved_world w c ms) c)))
accounted_as_before w c answer ms known legal flipped due other =
    let moved = moved_world w c ms in
    let result = act (is_block answer) (judged_world w c ms) moved c in
    let all = Carries-then w moved (with_client_remembered (world_from moved result)) (moved_world_carries w c answer ms legal flipped due)
    (Carries-then moved (world_from moved result) (with_client_remembered (world_from moved result))
    (act_carries c moved result other (act_leaves (is_block answer) (judged_world w c ms) moved c)) (remembered_carries
    (world_from moved result))) in
    carried w (with_client_remembered (world_from moved result)) all known.accounted

-- no moves
unmoved : (w : World) (ms : List Move) → ms ≡ [] → world_after_moves w ms ≡ w
unmoved w ms none = ap (world_after_moves w) none

-- a call that makes no moves, and comes to such an act
accounted_unmoved : (w : World) (ms : List Move) (acts : World → Checked Act) → IsKnown w → ms ≡ [] → ForAct AreAccounted (acts w)
    → AreAccounted (with_client_remembered (world_from (world_after_moves w ms) (acts (world_after_moves w ms))))
accounted_unmoved w ms acts known none accounted =
    subst (λ (v : World). AreAccounted (with_client_remembered (world_from v (acts v)))) (sym (unmoved w ms none))
    (accounted_by_act w (acts w) known accounted)

accounted_after_call : (w : World) (c : Call) (answer : Answer) (ms : List Move) → IsKnown w
    → AreLegalMoves w None (moves_of_collector c ms) → AreFlippedLegally w (moves_of_collector c ms) → AreMovesOf w c answer ms
    → AreAccounted (with_client_remembered (world_from (moved_world w c ms) (act (is_block answer) (judged_world w c ms)
    (moved_world w c ms) c)))
accounted_after_call w (call.Dependency name) answer ms known legal flipped none =
    accounted_unmoved w ms (λ v. act_dependency v name) known none (made_accounted w known name)
accounted_after_call w (call.DependencyReset name) answer ms known legal flipped none =
    accounted_unmoved w ms (λ v. act_dependency_reset v name) known none (reset_accounted w known name)
accounted_after_call w (call.DependencyAdd name slot) answer ms known legal flipped none =
    accounted_unmoved w ms (λ v. act_dependency_add v name slot) known none (add_accounted w known name slot)
accounted_after_call w (call.DependencyMerge name source) answer ms known legal flipped none =
    accounted_unmoved w ms (λ v. act_dependency_merge v name source) known none (merge_accounted w known name source)
accounted_after_call w c answer ms known legal flipped due = accounted_as_before w c answer ms known legal flipped due refl

-- ---- all steps

known_next : (w : World) (s : Step) → IsKnown w → AreFlippedLegally w (moves_of_collector s.call s.moves) → IsLegalStep w s
    → IsKnown (world_after w s)
known_next w s known flipped legal = record {
  accounted = accounted_after_call w s.call s.answer s.moves known legal.moves_are_legal flipped legal.moves_are_due;
  settled = client_after_step w s known.settled tt legal;
  held = legal.held_are_live;
}

-- what holds of worlds, and makes their flips right
module _ (IsGood : World → Type 0) (next_good : (w : World) (s : Step) → IsGood w → IsLegalStep w s → IsGood (world_after w s))
    (flips_right : (w : World) (s : Step) → IsGood w → IsLegalStep w s → AreFlippedLegally w (moves_of_collector s.call s.moves)) where
  pub known_after_steps : (w : World) (steps : History) → IsGood w → IsKnown w → IsLegalFrom w steps → IsKnown (world_after_steps w steps)
  known_after_steps w [] good known legal = known
  known_after_steps w (s ∷ ss) good known legal =
      known_after_steps (world_after w s) ss (next_good w s good legal.0) (known_next w s known (flips_right w s good legal.0) legal.0)
      legal.1

-- ---- a dependency that isn't stale

all_there : (w : World) (epoch zones : ℕ) (blocks : List (ℕ × ℕ)) → AllByRecursion (IsBlockOf w epoch zones) blocks
    → is_stale w.flips epoch zones ≡ false → AllByRecursion (λ (b : ℕ × ℕ). IsThereWhileLive w b.0 b.1) blocks
all_there w epoch zones [] are fresh = tt
all_there w epoch zones (b ∷ bs) are fresh = (there are.0.accounted, all_there w epoch zones bs are.1 fresh)
  where
    there : IsAccounted w epoch b.0 b.1 → IsThereWhileLive w b.0 b.1
    there (inl flipped) = absurd (true≢false (sym (flipped_is_stale w.flips epoch zones b.1 are.0.has_zone flipped) ∙ fresh))
    there (inr put) = put.address

fresh_where_no : (w : World) (name : Name) → IsKnown w → Replied reply.No ≡ answer_from (act_dependency_stale w name)
    → AllByRecursion (λ (b : ℕ × ℕ). IsThereWhileLive w b.0 b.1) (blocks_of_dependency w name)
fresh_where_no w name known answered = by_name (dependency_named w name) refl answered
  where
    by_stale : (d : Numbered Dependency) → dependency_named w name ≡ Ok d → (b : Bool) → is_stale w.flips d.value.epoch d.value.zones ≡ b
        → Replied reply.No ≡ answer_from (tells b w)
        → AllByRecursion (λ (b : ℕ × ℕ). IsThereWhileLive w b.0 b.1) (blocks_of_dependency w name)
    by_stale d named true stale answered = absurd cc
    by_stale d named false stale answered =
        let is = dependency_is w name d named in
        subst (λ (blocks : List (ℕ × ℕ)). AllByRecursion (λ (b : ℕ × ℕ). IsThereWhileLive w b.0 b.1) blocks) (sym
        (named_blocks w name d is))
        (all_there w d.value.epoch d.value.zones d.value.blocks (account_of w known name d is).blocks stale)

    by_name : (o : Checked (Numbered Dependency)) → dependency_named w name ≡ o
        → Replied reply.No ≡ answer_from (o >>= (λ d. tells (is_stale w.flips d.value.epoch d.value.zones) w))
        → AllByRecursion (λ (b : ℕ × ℕ). IsThereWhileLive w b.0 b.1) (blocks_of_dependency w name)
    by_name (Err why) named answered = absurd cc
    by_name (Ok d) named answered = by_stale d named (is_stale w.flips d.value.epoch d.value.zones) refl answered

-- `ldstale` makes no moves
stale_answer : (w : World) (s : Step) (name : Name) → s.call ≡ call.DependencyStale name → s.answer ≡ Replied reply.No → IsLegalStep w s
    → Replied reply.No ≡ answer_from (act_dependency_stale w name)
stale_answer w s name is_stale_call says_no legal =
    let none : s.moves ≡ [] = subst (λ c. AreMovesOf w c s.answer s.moves) is_stale_call legal.moves_are_due in
    sym says_no
    ∙ subst (λ c. s.answer ≡ reply_to (is_block s.answer) (judged_world w c s.moves) (moved_world w c s.moves) c) is_stale_call
    legal.answer_is_due
    ∙ ap (λ (v : World). answer_from (act_dependency_stale v name)) (unmoved w s.moves none)

pub known_at_first : (formats : ℕ → Layout) → IsKnown (empty_world_of formats)
known_at_first formats = record {
  accounted = tt;
  settled = λ id h. tt;
  held = record { client = refl; blocks = refl; referred = refl; transforms = refl };
}

module _ (IsGood : World → Type 0) (first_good : (formats : ℕ → Layout) → IsGood (empty_world_of formats))
    (next_good : (w : World) (s : Step) → IsGood w → IsLegalStep w s → IsGood (world_after w s))
    (flips_right : (w : World) (s : Step) → IsGood w → IsLegalStep w s → AreFlippedLegally w (moves_of_collector s.call s.moves)) where
  pub fresh_where : FreshDependenciesHold
  fresh_where formats steps later s name legal is_stale_call says_no =
      let first = empty_world_of formats in
      let w = reached formats steps in
      let before = IsLegalFrom-first first steps (s ∷ later) legal in
      let now = IsLegalFrom-later first steps (s ∷ later) legal in
      let known = known_after_steps IsGood next_good flips_right first steps (first_good formats) (known_at_first formats) before in
      fresh_where_no w name known (stale_answer w s name is_stale_call says_no now.0)
