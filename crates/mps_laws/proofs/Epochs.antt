-- No dependency's epoch is to come: there were as many flips when it was reset.
use Rattle.std.proofs.Common.{◌≡◌, ◌∙◌, ℕ, ◌≤◌, Bool, true, false, refl, sym, ap, subst, List, [], ◌∷◌, length, length-append, Option, Some, None, arith}
use Rattle.std.proofs.lemmas.Bool.{and_parts, and_from, leb-true, le-leb}
use Rattle.std.specs.Prelude.{if◌then◌else◌, nat_le}
use Rattle.std.specs.List.{list_all}
use Rattle.mps_base.specs.Segment.{Segment, words_of_segment}
use Rattle.mps_base.specs.declared.moves.Move.{Move}
use Rattle.mps_base.specs.declared.moves.Move.TheVariants as moves
use Rattle.mps_model.specs.declared.call.Call.{Call}
use Rattle.mps_model.specs.declared.call.Call.TheVariants as call
use Rattle.mps_model.specs.Answer.{is_block}
use Rattle.mps_model.specs.Step.{Step}
use Rattle.mps_model.specs.Graph.{is_automatic, with_last}
use Rattle.mps_model.specs.World.{World, Dependency, id_at, is_copying_pool, object_is, with_tail}
use Rattle.mps_model.specs.Checked.{Act, Checked, as_point, number_named}
use Rattle.mps_model.specs.WellFormed.{is_dated}
use Rattle.mps_model.specs.Effect.{after_free, after_moved, after_post, after_segment, after_splat, holding, placing, reclaiming, segment_base_of, segment_of_move, where_one, with_collection, without_object, world_after_move, world_after_moves}
use Rattle.mps_model.specs.Policy.{units_asked}
use Rattle.mps_model.specs.Reply.{act, world_from}
use Rattle.mps_model.specs.History.{after_own_segment, asking, judged_world, moved_world, moves_of_poll, own_segment, world_after}
use Rattle.mps_changes.specs.Change.{AsideIs, Change, Aside, DependencyMade, DependencyIs, IsDatedIn, OfNow, NoLater, ForAct, accepted, refused}
use Rattle.mps_changes.proofs.ActChanges.{act_changes_so}
use Rattle.mps_laws.proofs.OwnSegments.{own_segment_taken}
use Rattle.mps_laws.proofs.Sound.SoundGraph.{each-at, each-weaker, each-written}

abbrev pub AreDated : World → Type 0
AreDated w = list_all (is_dated (length w.flips)) w.dependencies ≡ true

-- ---- moves

-- dependencies stay, and flips only come
record LeavesEpochs (before after : World) : Type 0 where
  pub dependencies : after.dependencies ≡ before.dependencies
  pub flips : length before.flips ≤ length after.flips

left : {w v : World} → v.dependencies ≡ w.dependencies → v.flips ≡ w.flips → LeavesEpochs w v
left dependencies flips =
    record { dependencies = dependencies; flips = (let same = ap length flips in omega (arith, same)) }

then_left : (u v w : World) → LeavesEpochs u v → LeavesEpochs v w → LeavesEpochs u w
then_left u v w first second = record {
  dependencies = second.dependencies ∙ first.dependencies;
  flips = let low = first.flips in let high = second.flips in omega (arith, low, high);
}

one_left : (w : World) (o : Option ℕ) (change : ℕ → World) → ((id : ℕ) → LeavesEpochs w (change id)) → LeavesEpochs w (where_one w o change)
one_left w None change each = left refl refl
one_left w (Some id) change each = each id

free_left : (w : World) (id at : ℕ) → LeavesEpochs w (after_free w id at)
free_left w id at =
    elim (object_is is_automatic w id) as (λ b. LeavesEpochs w (if b then with_collection (without_object w id)
    (reclaiming (segment_base_of w at)) else without_object w id)) [
      | true ↦ left refl refl
      | false ↦ left refl refl
    ]

segment_left : (w : World) (s : Segment) → LeavesEpochs w (after_segment w s)
segment_left w s =
    elim (is_copying_pool w s.pool) as (λ b. LeavesEpochs w (if b then with_tail (holding w s) s.pool s.generation (words_of_segment s)
    else holding w s)) [
      | true ↦ left refl refl
      | false ↦ left refl refl
    ]

move_left : (w : World) (m : Move) → LeavesEpochs w (world_after_move w m)
move_left w (moves.Seg base grains pool generation) = segment_left w (segment_of_move base.0 grains pool generation)
move_left w (moves.Unseg base) = left refl refl
move_left w (moves.Flip zones chain generation) = record {
  dependencies = refl;
  flips = let more = length-append w.flips (zones.0 ∷ []) in omega (arith, more);
}
move_left w moves.End = left refl refl
move_left w (moves.Moved from to) = one_left w (id_at w from.0) (λ id. after_moved w id to.0) (λ id. left refl refl)
move_left w (moves.Stay at) = one_left w (id_at w at.0) (λ id. with_collection w (placing id)) (λ id. left refl refl)
move_left w (moves.Splat holder cell) = one_left w (id_at w holder.0) (λ id. after_splat w id cell) (λ id. left refl refl)
move_left w (moves.Post at) = one_left w (id_at w at.0) (after_post w) (λ id. left refl refl)
move_left w (moves.Commit at words pool) = left refl refl
move_left w (moves.Alloc at words pool) = left refl refl
move_left w (moves.Free at) = one_left w (id_at w at.0) (λ id. after_free w id at.0) (λ id. free_left w id at.0)

moves_left : (w : World) (ms : List Move) → LeavesEpochs w (world_after_moves w ms)
moves_left w [] = left refl refl
moves_left w (m ∷ ms) =
    then_left w (world_after_move w m) (world_after_moves (world_after_move w m) ms) (move_left w m) (moves_left (world_after_move w m) ms)

asked_left : (units : Option ℕ) (w : World) → LeavesEpochs w (asking units w)
asked_left None w = left refl refl
asked_left (Some units) w = left refl refl

moved_left : (w : World) (c : Call) (ms : List Move) → LeavesEpochs w (moved_world w c ms)
moved_left w (call.Reserve name head) ms =
    let polled = world_after_moves w (moves_of_poll ms) in
    let owned = after_own_segment polled (own_segment ms) (number_named w name as_point) in
    let own : LeavesEpochs polled owned =
    own_segment_taken (LeavesEpochs polled) polled (left refl refl) (λ s. left refl refl) (λ s n r. left refl refl)
    (own_segment ms) (number_named w name as_point) in
    then_left w owned (asking (units_asked w (call.Reserve name head)) owned)
    (then_left w polled owned (moves_left w (moves_of_poll ms)) own) (asked_left (units_asked w (call.Reserve name head)) owned)
moved_left w (call.Step units) ms =
    then_left w (world_after_moves w ms) (asking (units_asked w (call.Step units)) (world_after_moves w ms)) (moves_left w ms)
    (asked_left (units_asked w (call.Step units)) (world_after_moves w ms))
moved_left w _ ms = moves_left w ms

-- epochs are dated where flips only came
dated_left : (w v : World) → LeavesEpochs w v → AreDated w → AreDated v
dated_left w v l h =
    subst (λ ds. list_all (is_dated (length v.flips)) ds ≡ true) (sym l.dependencies)
    (each-weaker (is_dated (length w.flips)) (is_dated (length v.flips))
    (λ (d : Dependency) k.
    (let low = leb-true d.epoch (length w.flips) k in
    let more = l.flips in
    le-leb d.epoch (length v.flips) (omega (arith, low, more)))) w.dependencies h)

pub dated_in_steps : (w : World) (ms : List Move) → AreDated w → AreDated (world_after_moves w ms)
dated_in_steps w ms h = dated_left w (world_after_moves w ms) (moves_left w ms) h

-- ---- acts

module _ (v : World) (h : AreDated v) where
  epoch_low : (epoch : ℕ) → IsDatedIn v epoch → nat_le epoch (length v.flips) ≡ true
  epoch_low _ OfNow = le-leb (length v.flips) (length v.flips) (omega arith)
  epoch_low epoch (NoLater old _ there low) =
      let first = leb-true epoch old.value.epoch low in
      let second = leb-true old.value.epoch (length v.flips)
      (each-at (is_dated (length v.flips)) v.dependencies old.number old.value h there) in
      le-leb epoch (length v.flips) (omega (arith, first, second))

  one_last : (ds : List Dependency) (d : Dependency) → list_all (is_dated (length v.flips)) ds ≡ true → is_dated (length v.flips) d ≡ true
      → list_all (is_dated (length v.flips)) (with_last ds d) ≡ true
  one_last [] d all one = and_from (is_dated (length v.flips) d) true one refl
  one_last (e ∷ es) d all one =
      let parts = and_parts (is_dated (length v.flips) e) (list_all (is_dated (length v.flips)) es) all in
      and_from (is_dated (length v.flips) e) (list_all (is_dated (length v.flips)) (with_last es d)) parts.0 (one_last es d parts.1 one)

  aside_dated : {marked : Bool} {c : Call} {judged u : World} → AsideIs marked c judged v u
      → list_all (is_dated (length v.flips)) u.dependencies ≡ true
  aside_dated (DependencyMade name d is dated) = one_last v.dependencies d h (epoch_low d.epoch dated)
  aside_dated (DependencyIs number d is dated) =
      each-written (is_dated (length v.flips)) v.dependencies number d h (epoch_low d.epoch dated)
  aside_dated _ = h

  change_dated : {marked : Bool} {c : Call} {judged u : World} → Change marked c judged v u → AreDated u
  change_dated (Aside u what) = aside_dated what
  change_dated _ = h

  act_dated : {marked : Bool} {c : Call} {judged : World} (x : Checked Act) → ForAct (Change marked c judged v) x
      → AreDated (world_from v x)
  act_dated _ (accepted change) = change_dated change
  act_dated _ refused = h

-- ---- steps

pub dated_after : (w : World) (s : Step) → AreDated w → AreDated (world_after w s)
dated_after w s h =
    let v = moved_world w s.call s.moves in
    let judged = judged_world w s.call s.moves in
    act_dated v (dated_left w v (moved_left w s.call s.moves) h)
    (act (is_block s.answer) judged v s.call) (act_changes_so (is_block s.answer) judged v s.call)
