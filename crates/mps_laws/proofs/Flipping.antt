-- A legal step flips at most once: its flip is that of the one act of a flip that its moves may have, and units have none.
use Rattle.std.proofs.Common.{◌≡◌, inl, inr, ℕ, ◌+◌, ◌≤◌, Bool, true, false, true≢false, refl, sym, ◌∙◌, ap, subst, List, [], ◌∷◌, ◌++◌, length, length-append, Option, Some, None, Ok, Err, arith}
use Rattle.std.proofs.lemmas.Bool.{or_parts, and_parts}
use Rattle.std.proofs.lemmas.List.Folds.{list_any-append}
use Rattle.std.specs.Prelude.{MatchBool, if◌then◌else◌, not, ◌&&◌, ◌||◌}
use Rattle.std.specs.List.{list_any, list_all}
use Rattle.mps_base.specs.Address.{Address}
use Rattle.mps_base.specs.Generation.{Due}
use Rattle.mps_base.specs.Placement.{Placement, Place, NewSegment, OverLimit, NoFreeRun}
use Rattle.mps_base.specs.Segment.{Segment}
use Rattle.mps_base.specs.declared.address.Addr.{Addr}
use Rattle.mps_base.specs.declared.moves.Move.{Move}
use Rattle.mps_base.specs.declared.moves.Move.TheVariants as moves
use Rattle.mps_model.proofs.Cutting.{world_after_moves-append}
use Rattle.mps_model.specs.declared.call.Call.{Call}
use Rattle.mps_model.specs.declared.call.Call.TheVariants as call
use Rattle.mps_model.specs.Answer.{Answer, is_block, is_refused}
use Rattle.mps_model.specs.Step.{History}
use Rattle.mps_model.specs.Collection.{Collection}
use Rattle.mps_model.specs.Graph.{ids_in_slots}
use Rattle.mps_model.specs.World.{World, empty_world_of, is_running, is_unclamped}
use Rattle.mps_model.specs.Checked.{Act, Checked, Numbered, number_named, as_point, block_place_in, cache_named, chain_named, point_named, pool_named, slot_in}
use Rattle.mps_model.specs.Placement.{ForMove, placement_of}
use Rattle.mps_model.specs.Accessing.{address_or_null}
use Rattle.mps_model.specs.Effect.{Condemnation, Everything, Generations, condemned_by, condemned_zones, world_after_move, world_after_moves}
use Rattle.mps_model.specs.LegalMove.{ForOne}
use Rattle.mps_model.specs.Flip.{end_where, fix, fix_all, flip_act, is_nothing, moves_to, must_be_fixed, world_at_flip}
use Rattle.mps_model.specs.Policy.{due_in, polls, units_asked, units_of_poll}
use Rattle.mps_model.specs.Units.{AreUnits, IsBarrier, IsExamination, posts, stays_and_posts, moves_and_posts, moves_to_segment_and_posts, IsReclaim, IsUnitPiece, scans, examines, splats, reclaims, does_nothing, Scans, scans_no_more, moves_target, moves_target_to_segment, makes_target_stay, UnitsDone, none_yet, one_more, frees_at, give_back_where, is_last_condemned, nothing_left, splats_in, splats_of}
use Rattle.mps_model.specs.Reply.{act, world_from}
use Rattle.mps_model.specs.Frames.{frames_named}
use Rattle.mps_model.specs.History.{AreMovesOf, AreMovesOfCollect, FinishesCollection, IsFullCollection, IsLegalFrom, IsPoll, IsPollWhereDue, after_its_moves, asking, flip_act_of_chain, judged_world, moved_world, moves_of_poll, own_segment, poll_at_rest, segment_of_found, unless_refused, world_after, world_after_steps}
use Rattle.mps_laws.specs.Staying.{is_flip}
use Rattle.mps_laws.specs.Flipping.{StepFlipsOnceAtMost, FlipsAreNoMoreThanSteps}
use Rattle.mps_laws.proofs.Acts.{ForAct, accepted, refused}
use Rattle.mps_laws.proofs.Accounting.{move_leaves, own_segment_flips}
use Rattle.mps_laws.proofs.LeftByActs.{Leaves, act_leaves}
use Rattle.mps_laws.proofs.Positions.OwnMoves.{is_moving, commit_moves_none, alloc_moves_none, free_moves_none, cache_alloc_moves_none, cache_free_moves_none, cache_flush_moves_none, pop_moves_none}

-- ---- moves without a flip

abbrev pub HasNone : List Move → Type 0
HasNone ms = list_any is_flip ms ≡ false

pub both_none : (xs ys : List Move) → HasNone xs → HasNone ys → HasNone (xs ++ ys)
both_none xs ys first second = list_any-append is_flip xs ys ∙ ap (λ b. b || list_any is_flip ys) first ∙ second

pub no_moves : (ms : List Move) → ms ≡ [] → HasNone ms
no_moves ms is = ap (list_any is_flip) is

-- moves of which none moves a block or flips
pub none_moving : (ms : List Move) → list_any is_moving ms ≡ false → HasNone ms
none_moving [] none = refl
none_moving (m ∷ ms) none =
    let parts = or_parts (is_moving m) (list_any is_moving ms) none in
    ap (λ b. b || list_any is_flip ms) (first m parts.0) ∙ none_moving ms parts.1
  where
    first : (n : Move) → is_moving n ≡ false → is_flip n ≡ false
    first (moves.Flip zones chain generation) none = absurd (true≢false none)
    first _ none = refl

-- moves that are due where a test holds, and else none
pub where_due : {Due : Type 0} (b : Bool) (ms : List Move) → (Due → HasNone ms) → MatchBool b Due (ms ≡ []) → HasNone ms
where_due true ms each due = each due
where_due false ms each due = no_moves ms due

-- ---- units

scans_none : {IsScanned : World → ℕ → Type 0} (w : World) (ms : List Move) → Scans IsScanned w ms → HasNone ms
scans_none w ms scans_no_more = refl
scans_none w ms (moves_target {from = from} {to = to} {rest = rest} target more) =
    scans_none (world_after_move w (moves.Moved from to)) rest more
scans_none w ms (moves_target_to_segment {base = base} {from = from} {to = to} {grains = grains} {pool = pool} {generation = generation}
    {rest = rest} target more) =
    scans_none (world_after_moves w (moves.Seg base grains pool generation ∷ moves.Moved from to ∷ [])) rest more
scans_none w ms (makes_target_stay {at = at} {rest = rest} target more) = scans_none (world_after_move w (moves.Stay at)) rest more

examination_none : (ms : List Move) → IsExamination ms → HasNone ms
examination_none ms posts = refl
examination_none ms stays_and_posts = refl
examination_none ms moves_and_posts = refl
examination_none ms moves_to_segment_and_posts = refl

splats_none : (holder : Addr) (cells : List ℕ) → HasNone (splats_of holder cells)
splats_none holder [] = refl
splats_none holder (cell ∷ cells) = splats_none holder cells

frees_none : (freed : List ℕ) → HasNone (frees_at freed)
frees_none [] = refl
frees_none (address ∷ freed) = frees_none freed

given_back_none : (base : Address) (b : Bool) → HasNone (give_back_where base b)
given_back_none base true = refl
given_back_none base false = refl

end_none : (b : Bool) → HasNone (end_where b)
end_none true = refl
end_none false = refl

reclaim_none : (w : World) (piece : List Move) (c : Collection) → IsReclaim w piece c → HasNone piece
reclaim_none w piece c r =
    let nothing = nothing_left (world_after_moves w (frees_at r.freed)) r.base in
    let last = is_last_condemned c r.base in
    ap (list_any is_flip) r.whole
    ∙ both_none (frees_at r.freed ++ give_back_where r.base nothing) (end_where last)
    (both_none (frees_at r.freed) (give_back_where r.base nothing) (frees_none r.freed) (given_back_none r.base nothing)) (end_none last)

piece_none : (w : World) (piece : List Move) → IsUnitPiece w piece → HasNone piece
piece_none w piece (scans id by done) = scans_none w piece done
piece_none w piece (examines e) = examination_none piece e
piece_none w piece (splats holder cells is) = ap (list_any is_flip) is ∙ splats_none holder cells
piece_none w piece (reclaims r) = of_running w.collection r
  where
    of_running : (o : Option Collection) → ForOne o (IsReclaim w piece) → HasNone piece
    of_running None r = absurd r
    of_running (Some c) r = reclaim_none w piece c r
piece_none w piece (does_nothing is) = no_moves piece is

units_none : (w : World) (count : ℕ) (ms : List Move) → UnitsDone w count ms → HasNone ms
units_none w count ms none_yet = refl
units_none w count ms (one_more {count = before} {done = done} {piece = piece} earlier runs unit) =
    both_none done piece (units_none w before done earlier) (piece_none (world_after_moves w done) piece unit)

pub are_units_none : (w : World) (count : ℕ) (ms : List Move) → AreUnits w count ms → HasNone ms
are_units_none w count ms (inl done) = units_none w count ms done
are_units_none w count ms (inr (fewer, less, done, ends)) = units_none w fewer ms done

pub finished_none : (w : World) (ms : List Move) → FinishesCollection w ms → HasNone ms
finished_none w ms finishes = where_due (is_running w) ms (λ to_end. units_none w to_end.0.0 ms to_end.0.1) finishes

-- ---- the read barrier

splats_in_none : (s : Segment) (ms : List Move) → list_all (splats_in s) ms ≡ true → HasNone ms
splats_in_none s [] all = refl
splats_in_none s (m ∷ ms) all =
    let parts = and_parts (splats_in s m) (list_all (splats_in s) ms) all in
    ap (λ b. b || list_any is_flip ms) (first m parts.0) ∙ splats_in_none s ms parts.1
  where
    first : (n : Move) → splats_in s n ≡ true → is_flip n ≡ false
    first (moves.Flip zones chain generation) is = absurd (true≢false (sym is))
    first _ is = refl

barrier_none : (w : World) (s : Segment) (ms : List Move) → IsBarrier w s ms → HasNone ms
barrier_none w s ms (inl done) = scans_none w ms done
barrier_none w s ms (inr all) = splats_in_none s ms all

pub get_none : (w : World) (o : Option Segment) (ms : List Move) → ForOne o (λ s. IsBarrier w s ms) → HasNone ms
get_none w None ms is = absurd is
get_none w (Some s) ms is = barrier_none w s ms is

-- ---- the act of a flip

moves_to_none : (w : World) (id : ℕ) (from : Address) (p : Placement) → HasNone (moves_to w id from p)
moves_to_none w id from (Place word) = refl
moves_to_none w id from (NewSegment grain grains) = refl
moves_to_none w id from (OverLimit committed need limit) = refl
moves_to_none w id from (NoFreeRun need longest) = refl

fix_none : (w : World) (id : ℕ) → HasNone (fix w id)
fix_none w id = by_case (must_be_fixed w id)
  where
    by_case : (b : Bool) → HasNone (if b then moves_to w id (address_or_null w id) (placement_of w (ForMove id)) else [])
    by_case true = moves_to_none w id (address_or_null w id) (placement_of w (ForMove id))
    by_case false = refl

fix_all_none : (w : World) (ids : List ℕ) → HasNone (fix_all w ids)
fix_all_none w [] = refl
fix_all_none w (id ∷ ids) =
    both_none (fix w id) (fix_all (world_after_moves w (fix w id)) ids) (fix_none w id)
    (fix_all_none (world_after_moves w (fix w id)) ids)

-- ---- worlds

-- at most one flip came between two worlds
abbrev IsFlippedOnce : (before after : World) → Type 0
IsFlippedOnce before after = length after.flips ≤ length before.flips + 1

unflipped : (w : World) (ms : List Move) → HasNone ms → (world_after_moves w ms).flips ≡ w.flips
unflipped w [] none = refl
unflipped w (m ∷ ms) none =
    let parts = or_parts (is_flip m) (list_any is_flip ms) none in
    unflipped (world_after_move w m) ms parts.1 ∙ (move_leaves w m parts.0).flips

-- the same flips as those of a world between which and another at most one came
then_same : (u v w : World) → IsFlippedOnce u v → w.flips ≡ v.flips → IsFlippedOnce u w
then_same u v w once same =
    let e : length w.flips ≡ length v.flips = ap length same in
    let l : length v.flips ≤ length u.flips + 1 = once in
    omega (arith, e, l)

same_then : (u v w : World) → v.flips ≡ u.flips → IsFlippedOnce v w → IsFlippedOnce u w
same_then u v w same once =
    let e : length v.flips ≡ length u.flips = ap length same in
    let l : length w.flips ≤ length v.flips + 1 = once in
    omega (arith, e, l)

same_flips : (w v : World) → v.flips ≡ w.flips → IsFlippedOnce w v
same_flips w v same = let e : length v.flips ≡ length w.flips = ap length same in omega (arith, e)

quiet : (w : World) (ms : List Move) → HasNone ms → IsFlippedOnce w (world_after_moves w ms)
quiet w ms none = same_flips w (world_after_moves w ms) (unflipped w ms none)

module _ (w : World) (what : Condemnation) where
  abbrev later_moves : List Move
  later_moves =
      fix_all (world_at_flip w what) (ids_in_slots w.graph ++ w.graph.messages) ++ end_where (is_nothing (condemned_by w what))

  later_none : HasNone later_moves
  later_none =
      both_none (fix_all (world_at_flip w what) (ids_in_slots w.graph ++ w.graph.messages)) (end_where (is_nothing (condemned_by w what)))
      (fix_all_none (world_at_flip w what) (ids_in_slots w.graph ++ w.graph.messages)) (end_none (is_nothing (condemned_by w what)))

  act_once : IsFlippedOnce w (world_after_moves w (flip_act w what))
  act_once =
      then_same w (world_at_flip w what) (world_after_moves w (flip_act w what))
      (let e = length-append w.flips (condemned_zones w what ∷ []) in omega (arith, e))
      (unflipped (world_at_flip w what) later_moves later_none)

-- moves that flip at most once, before others that don't
before_quiet : (w : World) (xs ys : List Move) → IsFlippedOnce w (world_after_moves w xs) → HasNone ys
    → IsFlippedOnce w (world_after_moves w (xs ++ ys))
before_quiet w xs ys once none =
    subst (IsFlippedOnce w) (sym (world_after_moves-append w xs ys))
    (then_same w (world_after_moves w xs) (world_after_moves (world_after_moves w xs) ys) once (unflipped (world_after_moves w xs) ys none))

after_quiet : (w : World) (xs ys : List Move) → HasNone xs
    → IsFlippedOnce (world_after_moves w xs) (world_after_moves (world_after_moves w xs) ys)
    → IsFlippedOnce w (world_after_moves w (xs ++ ys))
after_quiet w xs ys none once =
    subst (IsFlippedOnce w) (sym (world_after_moves-append w xs ys))
    (same_then w (world_after_moves w xs) (world_after_moves (world_after_moves w xs) ys) (unflipped w xs none) once)

-- ---- the moves of a call

module _ (w : World) (ms : List Move) where
  abbrev Once : Type 0
  Once = IsFlippedOnce w (world_after_moves w ms)

  are : (ns : List Move) → ms ≡ ns → IsFlippedOnce w (world_after_moves w ns) → Once
  are ns is once = subst (λ (ks : List Move). IsFlippedOnce w (world_after_moves w ks)) (sym is) once

  full_once : IsFullCollection w ms → Once
  full_once f =
      are (flip_act w Everything ++ f.later) f.whole
      (before_quiet w (flip_act w Everything) f.later (act_once w Everything)
      (finished_none (world_after_moves w (flip_act w Everything)) f.later f.later_ends))

  start_once : (answer : Answer) (what : Condemnation) → ms ≡ unless_refused answer (flip_act w what) → Once
  start_once answer what is = are (unless_refused answer (flip_act w what)) is (by_case (is_refused answer))
    where
      by_case : (b : Bool) → IsFlippedOnce w (world_after_moves w (if b then [] else flip_act w what))
      by_case true = same_flips w w refl
      by_case false = act_once w what

  chain_once : (answer : Answer) (x : Checked (Numbered (List ℕ))) (generation : ℕ)
      → ms ≡ unless_refused answer (flip_act_of_chain w x generation) → Once
  chain_once answer (Ok chain) generation is = start_once answer (Generations chain.number generation) is
  chain_once answer (Err why) generation is = are (unless_refused answer []) is (by_case (is_refused answer))
    where
      by_case : (b : Bool) → IsFlippedOnce w (world_after_moves w (if b then [] else []))
      by_case true = same_flips w w refl
      by_case false = same_flips w w refl

  rest_once : (o : Option Due) → ms ≡ poll_at_rest w o → Once
  rest_once None is = are [] is (same_flips w w refl)
  rest_once (Some due) is =
      are (flip_act w (Generations due.chain due.generation)) is (act_once w (Generations due.chain due.generation))

  poll_once : IsPoll w ms → Once
  poll_once poll = by_case (is_running w) poll
    where
      by_case : (b : Bool) → MatchBool b (AreUnits w units_of_poll ms) (ms ≡ poll_at_rest w (due_in w)) → Once
      by_case true units = quiet w ms (are_units_none w units_of_poll ms units)
      by_case false is = rest_once (due_in w) is

  where_polled : (c : Call) → IsPollWhereDue w c ms → Once
  where_polled c due = by_case (polls w c) due
    where
      by_case : (b : Bool) → MatchBool b (IsPoll w ms) (ms ≡ []) → Once
      by_case true poll = poll_once poll
      by_case false is = are [] is (same_flips w w refl)

collect_once : (w : World) (ms : List Move) → AreMovesOfCollect w ms → IsFlippedOnce w (world_after_moves w ms)
collect_once w ms c =
    are w ms (c.earlier ++ c.full) c.both
    (after_quiet w c.earlier c.full (finished_none w c.earlier c.earlier_ends)
    (full_once (world_after_moves w c.earlier) c.full c.is_full))

call_once : (w : World) (c : Call) (answer : Answer) (ms : List Move) → AreMovesOf w c answer ms
    → IsFlippedOnce w (after_its_moves w c ms)
call_once w (call.Reserve point head) answer ms due =
    let polled = world_after_moves w (moves_of_poll ms) in
    then_same w polled (after_its_moves w (call.Reserve point head) ms)
    (where_polled w (moves_of_poll ms) (call.Reserve point head) due.poll)
    (own_segment_flips polled (own_segment ms) (number_named w point as_point))
call_once w (call.Commit point target) answer ms due =
    quiet w ms (none_moving ms (ap (list_any is_moving) due ∙ commit_moves_none w answer (point_named w point)))
call_once w (call.Alloc pool words place) answer ms due =
    quiet w ms (none_moving ms (ap (list_any is_moving) due ∙ alloc_moves_none w answer (pool_named w pool) words))
call_once w (call.Free place) answer ms due =
    quiet w ms (none_moving ms (ap (list_any is_moving) due ∙ free_moves_none w answer (block_place_in w place)))
call_once w (call.CacheAlloc cache words place) answer ms due =
    quiet w ms (none_moving ms (ap (list_any is_moving) due ∙ cache_alloc_moves_none w answer (cache_named w cache) words))
call_once w (call.CacheFree cache place) answer ms due =
    quiet w ms (none_moving ms (ap (list_any is_moving) due
    ∙ cache_free_moves_none w answer (cache_named w cache) (block_place_in w place)))
call_once w (call.CacheFlush cache) answer ms due =
    quiet w ms (none_moving ms (ap (list_any is_moving) due ∙ cache_flush_moves_none w answer (cache_named w cache)))
call_once w (call.Pop pool frame) answer ms due =
    quiet w ms (none_moving ms (ap (list_any is_moving) due ∙ pop_moves_none w answer (frames_named w pool) frame))
call_once w (call.Get target source cell) answer ms due =
    quiet w ms
    (where_due (is_running w && not (is_refused answer)) ms (get_none w (segment_of_found w (slot_in w source)) ms) due)
call_once w call.Start answer ms due = start_once w ms answer Everything due
call_once w (call.StartChain chain oldest) answer ms due = chain_once w ms answer (chain_named w chain) oldest due
call_once w (call.Step units) answer ms due =
    quiet w ms (where_due (is_unclamped w && is_running w) ms (are_units_none w units ms) due)
call_once w call.Collect answer ms due = collect_once w ms due
call_once w call.Park answer ms due = quiet w ms (finished_none w ms due)
call_once w _ answer ms due = quiet w ms (no_moves ms due)

-- ---- steps and histories

asked_same : (units : Option ℕ) (w : World) → (asking units w).flips ≡ w.flips
asked_same None w = refl
asked_same (Some units) w = refl

act_same : (c : Call) (v : World) (result : Checked Act) → ForAct (Leaves c v) result → (world_from v result).flips ≡ v.flips
act_same c v (Ok a) (accepted leaves) = leaves.flips
act_same c v (Err why) refused = refl

pub step_flips_once : StepFlipsOnceAtMost
step_flips_once w s legal =
    let moved = moved_world w s.call s.moves in
    let result = act (is_block s.answer) (judged_world w s.call s.moves) moved s.call in
    then_same w (after_its_moves w s.call s.moves) (world_after w s)
    (call_once w s.call s.answer s.moves legal.moves_are_due)
    (act_same s.call moved result (act_leaves (is_block s.answer) (judged_world w s.call s.moves) moved s.call)
    ∙ asked_same (units_asked w s.call) (after_its_moves w s.call s.moves))

steps_flip : (w : World) (h : History) → IsLegalFrom w h → length (world_after_steps w h).flips ≤ length w.flips + length h
steps_flip w [] legal = omega arith
steps_flip w (s ∷ ss) legal =
    let first : length (world_after w s).flips ≤ length w.flips + 1 = step_flips_once w s legal.0 in
    let later = steps_flip (world_after w s) ss legal.1 in
    omega (arith, first, later)

pub no_more_than_steps : FlipsAreNoMoreThanSteps
no_more_than_steps formats history legal = let l = steps_flip (empty_world_of formats) history legal in omega (arith, l)
