-- What a heap needs to end the collection that runs and to collect everything, and what it then guarantees.
use Rattle.std.proofs.Common.{◌≡◌, ◌∙◌, ℕ, List, ◌*◌, ◌<◌, ◌≤◌, ◌^◌, true, sym, ap, arith, refl}
use Rattle.std.proofs.lemmas.Bool.{ltb-true}
use Rattle.mps_base.specs.Trail.{Moves}
use Rattle.mps_base.specs.declared.moves.Move.{Move}
use Rattle.mps_format.specs.Layout.{Layout}
use Rattle.mps_model.specs.Answer.{Answer, Replied}
use Rattle.mps_model.specs.World.{World}
use Rattle.mps_model.specs.declared.call.Call.TheVariants as call
use Rattle.mps_model.specs.declared.reply.Reply.TheVariants as reply
use Rattle.mps_heap_spec.specs.Arena.{with_arena}
use Rattle.mps_heap_spec.specs.Collecting.{CanCollectAll, IsCollected, can_collect, most_flips}
use Rattle.mps_heap_spec.specs.Following.{Follows, made_since, moves_followed}
use Rattle.mps_heap_spec.specs.Points.{WereMadeBefore}
use Rattle.mps_heap_spec.specs.State.{HeapState}
use Rattle.mps_heap_spec.specs.Units.{CanDoUnits, HasDoneUnits, HasStepped, IsWhole, after_units, units_to_end}
use Rattle.mps_heap_spec.specs.declared.arena.ArenaState.TheVariants as arena
use Rattle.mps_heap_spec.specs.declared.arena.Progress.{Progress}
use Rattle.mps_refinement.specs.Answering.{says_progress}
use Rattle.mps_refinement.specs.Collect.Collecting.{IsRightCollect}
use Rattle.mps_refinement.specs.MovesNeeded.{moves_needed}
use Rattle.mps_refinement.specs.RightMoving.{IsRightMoving, KeepsRoom}
use Rattle.mps_refinement.specs.StandsFor.{StandsFor}
use Rattle.mps_refinement.specs.StandsForSome.{StandsForSome}
use Rattle.mps_refinement.specs.UnitsLeft.{StepsDown, units_left}
use Rattle.mps_refinement.proofs.Collect.LiveIsFew.{most_now}
use Rattle.mps_refinement.proofs.Left.AfterUnits.{none_after_collect, none_at_rest, rests_at_the_end, steps_down}
use Rattle.mps_refinement.proofs.Following.Made.{following_leaves}
use Rattle.mps_refinement.proofs.Units.Followed.{units_leave}
use Rattle.mps_refinement.proofs.Units.Outcomes as outcomes
use Rattle.mps_refinement.proofs.Units.Outcomes.{a_collect_is_right, can_do_units, park_is_right, right_in_each, stepped_is_right, stepped_keeps_room, units_keep_room}
use Rattle.mps_refinement.proofs.Worlds.Staying.{one_world}
use Rattle.mps_heap.proofs.Rooms.{has_room}

module _ {F : Type 0} (layout : F → Layout) (h : HeapState F) (some : StandsForSome layout h) (whole : IsWhole h) (m : Moves) where
  one : (w : World) × StandsFor layout h w
  one = one_world layout h some

  abbrev ok : Answer
  ok = Replied reply.Ok

  -- units to the end of what runs, whose moves are followed
  abbrev EndsFirst : HeapState F → Moves → Type 0
  EndsFirst = Follows layout m (HasDoneUnits layout h m (units_to_end h))

  -- they leave of a heap what following moves leaves and units do
  left_of : {X : Type 0} (of : HeapState F → X) {between : HeapState F} {m' : Moves} (units : EndsFirst between m')
      → ((g : HeapState F) (ms : List Move) → of (moves_followed layout g ms) ≡ of g)
      → of between ≡ of (after_units h units.made units.made.running)
  left_of of {m' = m'} units same = ap of units.followed ∙ same units.made (made_since m m') ∙ ap of (units_leave units.left)

  module _ (fits : moves_needed h.segs ≤ m.spare) where
    room : most_now h.segs ≤ m.spare
    room = has_room layout h some m.spare fits

    -- the units to the end can be done
    pub can_end : CanDoUnits layout h m (units_to_end h)
    can_end = can_do_units layout h whole m room one.0 one.1 (units_to_end h)

    -- and once the arena is parked after them, that is a `park`
    pub parked_rightly : (between : HeapState F) (m' : Moves) → EndsFirst between m'
        → IsRightMoving layout h call.Park m.moves m'.moves ok (with_arena between arena.Parked) × KeepsRoom m m'
    parked_rightly between m' units = (
      right_in_each layout h call.Park refl m.moves m'.moves ok (with_arena between arena.Parked) one
          (λ w st. park_is_right layout h whole m room w st between m' units),
      units_keep_room layout h whole m room one.0 one.1 (units_to_end h) units.made m' units.left,
    )

    -- no unit is left then
    pub none_left_parked : (between : HeapState F) (m' : Moves) → EndsFirst between m'
        → units_left (with_arena between arena.Parked) ≡ 0
    none_left_parked between m' units =
        none_at_rest (with_arena between arena.Parked) (rests_at_the_end layout h whole m room one.0 one.1 between m' units)

    -- any number of units can be done in an unclamped arena
    pub can_step : (n : ℕ) → h.arena ≡ arena.Unclamped → CanDoUnits layout h m n
    can_step n unclamped = can_do_units layout h whole m room one.0 one.1 n

    -- and what came of a step is right
    pub stepped_rightly : (n : ℕ) (h' : HeapState F) (m' : Moves) (answer : Progress) → HasStepped layout h m n h' m' answer
        → IsRightMoving layout h (call.Step n) m.moves m'.moves (says_progress answer) h' × KeepsRoom m m'
    stepped_rightly n h' m' answer stepped = (
      right_in_each layout h (call.Step n) refl m.moves m'.moves (says_progress answer) h' one
          (λ w st. stepped_is_right layout h whole m room w st n h' m' answer stepped),
      stepped_keeps_room layout h whole m room one.0 one.1 n h' m' answer stepped,
    )

    -- and each unit was one less, if the collection goes on
    pub stepped_down : (n : ℕ) (h' : HeapState F) (m' : Moves) (answer : Progress) → HasStepped layout h m n h' m' answer
        → StepsDown h n answer h'
    stepped_down = steps_down layout h whole m room one.0 one.1

  -- a collection of everything after them is a `collect`, if one flip more can be counted and there is room for two collections
  module _ (can : can_collect h ≡ true) (both_fit : 2 * moves_needed h.segs ≤ m.spare) where
    enough : most_now h.segs ≤ m.spare
    enough = has_room layout h some m.spare (omega (arith, both_fit))

    pub can_end_first : CanDoUnits layout h m (units_to_end h)
    can_end_first = can_end (omega (arith, both_fit))

    module _ (between : HeapState F) (m_between : Moves) (units : EndsFirst between m_between) where
      pub can_count : can_collect between ≡ true
      can_count =
          left_of (λ (g : HeapState F). can_collect g) units
          (λ g ms. ap (λ (k : HeapState F). can_collect k) (following_leaves layout g ms)) ∙ can

      pub few_epochs : between.epochs.count < 2 ^ 63
      few_epochs =
          let few = ltb-true h.points.flips most_flips can in
          let same = one.1.parts.point_flips ∙ sym one.1.parts.flips.count in
          let left =
          left_of (λ (g : HeapState F). g.epochs.count) units
          (λ g ms. ap (λ (k : HeapState F). k.epochs.count) (following_leaves layout g ms)) in
          omega (arith, few, same, left)

      module _ (whole_then : IsWhole between) where
        pub can_collect_then : CanCollectAll layout between m_between
        can_collect_then =
            outcomes.can_collect_then layout h whole m enough one.0 one.1 both_fit between m_between whole_then
            units

        pub collected_rightly : WereMadeBefore h.points.flips h.points → (h' : HeapState F) (m' : Moves)
            → Follows layout m_between (IsCollected layout between m_between) h' m' → IsRightCollect layout h m h' m'
        collected_rightly made h' m' collected =
            a_collect_is_right layout h m between m_between h' m'
            (record { world = one.0; stands = one.1; whole = whole; room = both_fit }) made units whole_then collected

        -- no unit is left after it
        pub none_left : (h' : HeapState F) (m' : Moves) → Follows layout m_between (IsCollected layout between m_between) h' m'
            → units_left h' ≡ 0
        none_left h' m' collected =
            none_after_collect layout h whole m enough one.0 one.1 between m_between units h' m' collected
