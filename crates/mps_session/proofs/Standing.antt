-- What the answers of a session guarantee of worlds: before the arena is made, and afterwards.
use Rattle.std.proofs.Common.{◌≡◌, ◌∙◌, ◌<◌, ℕ, Bool, true, false, refl, sym, ap, subst, List, Option, Some, None, Result, Ok, Err}
use Rattle.std.proofs.lemmas.Bool.{lt-ltb}
use Rattle.std.specs.Prelude.{OnOk, if◌then◌else◌, nat_eq, not}
use Rattle.mps_base.specs.declared.moves.Move.{Move}
use Rattle.mps_commands.specs.Asked.{IsAsked, has_arena}
use Rattle.mps_commands.specs.RightAnswer.{step_in}
use Rattle.mps_format.specs.AnyFormat.{any_layout}
use Rattle.mps_format.specs.Any.{front_number, mapped_number, numbered_layout}
use Rattle.mps_format.specs.Front.{front_layout}
use Rattle.mps_format.specs.Laws.{front_is_lawful, leaf_is_lawful, mapped_is_lawful}
use Rattle.mps_format.specs.Layout.{Layout, IsLawful}
use Rattle.mps_format.specs.Leaf.{leaf_layout}
use Rattle.mps_format.specs.Mapped.{mapped_layout}
use Rattle.mps_format.specs.declared.any.AnyFormat.{AnyFormat}
use Rattle.mps_laws.specs.Change.{makes_arena}
use Rattle.mps_laws.proofs.WellFormedHistories.{step_grains}
use Rattle.mps_model.specs.Answer.{Answer, answer_of}
use Rattle.mps_model.specs.FirstCall.{is_arena}
use Rattle.mps_model.specs.History.{IsLegalStep, world_after}
use Rattle.mps_model.specs.Step.{Step}
use Rattle.mps_model.specs.World.{World, empty_world}
use Rattle.mps_model.specs.declared.call.Call.{Call}
use Rattle.mps_model.specs.declared.call.Call.TheVariants as call
use Rattle.mps_model.specs.declared.reply.Reply.{Reply}
use Rattle.mps_refinement.specs.Collecting.{can_collect}
use Rattle.mps_refinement.specs.State.{HeapState}
use Rattle.mps_session.specs.Session.{MadeState, last_moves, arena_words}
use Rattle.mps_session.specs.Standing.{BeginsRightly, HeapStands, IsAnswered, SessionStands}
use Rattle.mps_session.proofs.CanCollect.{collects_there}

-- ---- formats

either_lawful : (b : Bool) (l m : Layout) → IsLawful l → IsLawful m → IsLawful (if b then l else m)
either_lawful true l m first second = first
either_lawful false l m first second = second

pub numbers_are_lawful : (number : ℕ) → IsLawful (numbered_layout number)
numbers_are_lawful number =
    either_lawful (nat_eq number front_number) front_layout _ front_is_lawful
    (either_lawful (nat_eq number mapped_number) mapped_layout leaf_layout mapped_is_lawful leaf_is_lawful)

-- ---- steps

step_same : (line : ℕ) {c d : Call} {ms ns : List Move} {a b : Answer} → c ≡ d → ms ≡ ns → a ≡ b
    → step_in line c ms a ≡ step_in line d ns b
step_same line {c} {d} {ms} {ns} {a} {b} call moves answer =
    ap (λ k. step_in line k ms a) call ∙ ap (λ m. step_in line d m a) moves ∙ ap (λ x. step_in line d ns x) answer

-- a step that is legal in a world, with what holds of the world after it
pub record StepsTo (After : World → Type 0) (w : World) (s : Step) : Type 0 where
  pub legal : IsLegalStep w s
  pub stands : After (world_after w s)

-- ---- before the arena is made

module _ (c : Call) (given : Reply) where
  pub begins_in : (after : Option MadeState) → BeginsRightly c given after → (w : World) (line : ℕ) → w ≡ empty_world
      → StepsTo (SessionStands after) w (step_in line c (last_moves after) (answer_of (arena_words after) given))
  begins_in after begins w line empty =
      subst (λ (v : World). StepsTo (SessionStands after) v (step_in line c (last_moves after) (answer_of (arena_words after) given)))
      (sym empty)
      (of_empty after begins)
    where
      of_empty : (after : Option MadeState) → BeginsRightly c given after
          → StepsTo (SessionStands after) empty_world (step_in line c (last_moves after) (answer_of (arena_words after) given))
      of_empty None begins = absurd begins
      of_empty (Some made) b =
          let r = b.new numbered_layout numbers_are_lawful line in
          subst (StepsTo (HeapStands made.heap) empty_world)
          (sym (step_same line b.is b.unmoved (ap (answer_of made.heap.segs.words) b.told)))
          (record { legal = r.legal; stands = record { heap = r.stands; formats = r.formats; arena = b.some } })

-- ---- afterwards

pub made_once : (c : Call) → makes_arena c ≡ is_arena c
made_once (call.Arena grains limit) = refl
made_once _ = refl

module _ (h after : HeapState AnyFormat) (c : Call) (moves : List Move) (given : Reply) where
  abbrev pub answer : Answer
  answer = answer_of after.segs.words given

  pub answers_in : is_arena c ≡ false → IsAnswered h c moves given after → (w : World) (line : ℕ) → HeapStands h w
      → StepsTo (HeapStands after) w (step_in line c moves answer)
  answers_in other a w line st =
      let r = a.right w line st.formats st.heap in
      record {
        legal = r.legal;
        stands = record {
          heap = r.stands;
          formats = r.formats ∙ st.formats;
          arena = subst (λ (n : ℕ). 0 < n) (sym (step_grains line w c moves answer (made_once c ∙ other))) st.arena;
        };
      }

-- ---- what a machine is asked

-- after the arena it is asked for no `arena`, and can count another flip
module _ (h : HeapState AnyFormat) (c : Call) (asked : IsAsked (HeapStands h) c) where
  pub asked_other : is_arena c ≡ false
  asked_other = asked.turn ∙ ap not (lt-ltb 0 asked.world.grains asked.stands.arena)

  pub asked_few : can_collect h ≡ true
  asked_few = collects_there any_layout h asked.world asked.stands.heap asked.few

-- before it `arena` is asked for
pub asked_first : (c : Call) → IsAsked (λ w. w ≡ empty_world) c → is_arena c ≡ true
asked_first c asked = asked.turn ∙ ap (λ (w : World). not (has_arena w)) asked.stands

-- ---- results

-- what holds after an `Ok` gives more
pub ok_then : {T E : Type 0} (r : Result T E) {P Q : Type 0} → OnOk r P → (P → Q) → OnOk r Q
ok_then (Ok x) holds next = next holds
ok_then (Err e) holds next = holds
