-- The pools of objects and of points: they were made before these, and no pool is ever dropped.
use Rattle.std.proofs.Common.{◌≡◌, ◌∙◌, ℕ, zero, suc, ◌+◌, ◌<◌, ◌≤◌, Bool, true, false, refl, sym, ap, subst, List, [], ◌∷◌, ◌++◌, map, length, length-append, Option, Some, None, Ok, Err, arith}
use Rattle.std.proofs.lemmas.List.{map-append}
use Rattle.std.proofs.lemmas.Option.{none-some, same_Some, slice_get_within}
use Rattle.std.specs.Prelude.{if◌then◌else◌, slice_get, slice_set, replicate}
use Rattle.std.specs.List.{AllByRecursion}
use Rattle.mps_base.specs.Segment.{Segment, words_of_segment}
use Rattle.mps_base.specs.declared.moves.Move.{Move}
use Rattle.mps_base.specs.declared.moves.Move.TheVariants as moves
use Rattle.mps_base.specs.declared.names.Name.{Name}
use Rattle.mps_model.specs.declared.call.Call.{Call}
use Rattle.mps_model.specs.declared.call.Call.TheVariants as call
use Rattle.mps_model.specs.Answer.{is_block}
use Rattle.mps_model.specs.Step.{Step}
use Rattle.mps_model.specs.Graph.{Object, Manual, Point, entry_at, is_automatic, with_last}
use Rattle.mps_model.specs.World.{World, Pool, id_at, is_copying_pool, object_is, with_tail}
use Rattle.mps_model.specs.Checked.{Act, Checked, Numbered, number_named, as_point, pool_named, point_named}
use Rattle.mps_model.specs.Allocating.{committed_object, with_object}
use Rattle.mps_model.specs.Effect.{where_one, world_after_move, world_after_moves, after_splat, doomed, holding, segment_of_move, with_collection, reclaiming, segment_base_of, without_object}
use Rattle.mps_model.specs.Reply.{act, world_from}
use Rattle.mps_model.specs.History.{after_its_moves, after_own_segment, asking, judged_world, moved_world, moves_of_poll, own_segment, with_client_remembered, world_after}
use Rattle.mps_model.specs.Policy.{units_asked}
use Rattle.mps_laws.proofs.Entries.{GoesOn}
use Rattle.mps_changes.specs.Change.{Change, Unchanged, CellsAre, BlockWordIs, Allocated, PoolMade, PointMade, PointDropped, Opened, Written, Closed, Committed, Substituted, BlockUncached}
use Rattle.mps_model.specs.Transforms.{pairs_of}
use Rattle.mps_laws.proofs.Sound.Substituting.{owners_substituted}
use Rattle.mps_changes.proofs.ActChanges.{of_changes}
use Rattle.mps_laws.proofs.Acts.{pool_named-is, point_named-is, ForAct, accepted, refused}
use Rattle.mps_laws.proofs.LeftByActs.{owners, owners-graph_with_cells, owners-graph_with_word, owners-graph_cleared, owners-splatted}
use Rattle.mps_laws.proofs.OwnSegments.{own_segment_taken}

abbrev pub IsPoolThere : List Pool → ℕ → Type 0
IsPoolThere pools number = number < length pools

abbrev pub IsPointPoolThere : List Pool → Option Point → Type 0
IsPointPoolThere pools None = Unit {0}
IsPointPoolThere pools (Some p) = IsPoolThere pools p.pool

-- each object and each point is of a pool that there is
pub record ArePoolsThere (owned : List ℕ) (points : List (Option Point)) (pools : List Pool) : Type 0 where
  pub of_objects : AllByRecursion (IsPoolThere pools) owned
  pub of_points : AllByRecursion (IsPointPoolThere pools) points

abbrev pub HasPools : World → Type 0
HasPools w = ArePoolsThere (owners w.graph) w.graph.points w.pools

-- ---- lists

more_pools : (pools more : List Pool) → length pools ≤ length more → (ns : List ℕ) → AllByRecursion (IsPoolThere pools) ns
    → AllByRecursion (IsPoolThere more) ns
more_pools pools more grows [] all = tt
more_pools pools more grows (n ∷ ns) all =
    (let l : n < length pools = all.0 in omega (arith, l, grows), more_pools pools more grows ns all.1)

more_for_points : (pools more : List Pool) → length pools ≤ length more → (ps : List (Option Point))
    → AllByRecursion (IsPointPoolThere pools) ps → AllByRecursion (IsPointPoolThere more) ps
more_for_points pools more grows [] all = tt
more_for_points pools more grows (None ∷ ps) all = (tt, more_for_points pools more grows ps all.1)
more_for_points pools more grows (Some p ∷ ps) all =
    (let l : p.pool < length pools = all.0 in omega (arith, l, grows), more_for_points pools more grows ps all.1)

grown : {X : Type 0} (before after : List X) → GoesOn before after → length before ≤ length after
grown before after more =
    let l : length (before ++ more.0) ≡ length before + length more.0 = length-append before more.0 in
    let e : length after ≡ length (before ++ more.0) = ap length more.1 in
    omega (arith, l, e)

all-set : {X : Type 0} (Holds : X → Type 0) (xs : List X) (n : ℕ) (x : X) → AllByRecursion Holds xs → Holds x
    → AllByRecursion Holds (slice_set xs n x)
all-set Holds [] n x all h = tt
all-set Holds (y ∷ ys) zero x all h = (h, all.1)
all-set Holds (y ∷ ys) (suc n) x all h = (all.0, all-set Holds ys n x all.1 h)

all-last : {X : Type 0} (Holds : X → Type 0) (xs : List X) (x : X) → AllByRecursion Holds xs → Holds x
    → AllByRecursion Holds (with_last xs x)
all-last Holds [] x all h = (h, tt)
all-last Holds (y ∷ ys) x all h = (all.0, all-last Holds ys x all.1 h)

pub all-at : {X : Type 0} (Holds : X → Type 0) (xs : List X) (n : ℕ) (x : X) → AllByRecursion Holds xs → slice_get xs n ≡ Some x → Holds x
all-at Holds [] n x all there = absurd (none-some x there)
all-at Holds (y ∷ ys) zero x all there = subst Holds (same_Some y x there) all.0
all-at Holds (y ∷ ys) (suc n) x all there = all-at Holds ys n x all.1 there

point-at : (pools : List Pool) (ps : List (Option Point)) (n : ℕ) (p : Point) → AllByRecursion (IsPointPoolThere pools) ps
    → entry_at ps n ≡ Some p
    → IsPoolThere pools p.pool
point-at pools [] n p all there = absurd (none-some p there)
point-at pools (None ∷ ps) zero p all there = absurd (none-some p there)
point-at pools (Some q ∷ ps) zero p all there = subst (λ (x : Point). IsPoolThere pools x.pool) (same_Some q p there) all.0
point-at pools (q ∷ ps) (suc n) p all there = point-at pools ps n p all.1 there

all_doomed : (pools : List Pool) (ps : List (Option Point)) → AllByRecursion (IsPointPoolThere pools) ps
    → AllByRecursion (IsPointPoolThere pools) (map doomed ps)
all_doomed pools [] all = tt
all_doomed pools (None ∷ ps) all = (tt, all_doomed pools ps all.1)
all_doomed pools (Some p ∷ ps) all = (all.0, all_doomed pools ps all.1)

-- ---- moves

-- what moves leave of the pools
pub record LeavesPools (w v : World) : Type 0 where
  pub pools : v.pools ≡ w.pools
  pub there : HasPools w → HasPools v

as_before : (w : World) → LeavesPools w w
as_before w = record { pools = refl; there = λ h. h }

one_leaves : (w : World) (found : Option ℕ) (change : ℕ → World) → ((id : ℕ) → LeavesPools w (change id))
    → LeavesPools w (where_one w found change)
one_leaves w None change leaves = as_before w
one_leaves w (Some id) change leaves = leaves id

segment_leaves : (w : World) (s : Segment) (b : Bool)
    → LeavesPools w (if b then with_tail (holding w s) s.pool s.generation (words_of_segment s) else holding w s)
segment_leaves w s true = record { pools = refl; there = λ h. h }
segment_leaves w s false = record { pools = refl; there = λ h. h }

free_leaves : (w : World) (id at : ℕ) (b : Bool)
    → LeavesPools w (if b then with_collection (without_object w id) (reclaiming (segment_base_of w at)) else without_object w id)
free_leaves w id at true = record { pools = refl; there = λ h. h }
free_leaves w id at false = record { pools = refl; there = λ h. h }

splat_leaves : (w : World) (holder cell : ℕ) → LeavesPools w (after_splat w holder cell)
splat_leaves w holder cell = record {
  pools = refl;
  there = λ h. record {
    of_objects = subst (AllByRecursion (IsPoolThere w.pools))
        (sym (owners-splatted w.graph holder cell)) h.of_objects;
    of_points = h.of_points;
  };
}

pub move_leaves_pools : (w : World) (m : Move) → LeavesPools w (world_after_move w m)
move_leaves_pools w (moves.Seg base grains pool generation) =
    let s = segment_of_move base.0 grains pool generation in segment_leaves w s (is_copying_pool w s.pool)
move_leaves_pools w (moves.Unseg base) = record { pools = refl; there = λ h. h }
move_leaves_pools w (moves.Flip zones chain generation) =
    record { pools = refl; there = λ h. record { of_objects = h.of_objects; of_points = all_doomed w.pools w.graph.points h.of_points } }
move_leaves_pools w moves.End = record { pools = refl; there = λ h. h }
move_leaves_pools w (moves.Moved from to) = one_leaves w (id_at w from.0) _ (λ id. record { pools = refl; there = λ h. h })
move_leaves_pools w (moves.Stay at) = one_leaves w (id_at w at.0) _ (λ id. record { pools = refl; there = λ h. h })
move_leaves_pools w (moves.Splat holder cell) = one_leaves w (id_at w holder.0) _ (λ id. splat_leaves w id cell)
move_leaves_pools w (moves.Post at) = one_leaves w (id_at w at.0) _ (λ id. record { pools = refl; there = λ h. h })
move_leaves_pools w (moves.Commit at words pool) = as_before w
move_leaves_pools w (moves.Alloc at words pool) = as_before w
move_leaves_pools w (moves.Free at) = one_leaves w (id_at w at.0) _ (λ id. free_leaves w id at.0 (object_is is_automatic w id))

LeavesPools-then : (u v w : World) → LeavesPools u v → LeavesPools v w → LeavesPools u w
LeavesPools-then u v w first second = record { pools = second.pools ∙ first.pools; there = λ h. second.there (first.there h) }

pub moves_leave_pools : (w : World) (ms : List Move) → LeavesPools w (world_after_moves w ms)
moves_leave_pools w [] = as_before w
moves_leave_pools w (m ∷ ms) =
    LeavesPools-then w (world_after_move w m) (world_after_moves (world_after_move w m) ms) (move_leaves_pools w m)
    (moves_leave_pools (world_after_move w m) ms)

own_segment_leaves : (w : World) (ms : List Move) (point : Option ℕ) → LeavesPools w (after_own_segment w ms point)
own_segment_leaves w ms point =
    own_segment_taken (LeavesPools w) w (as_before w) (λ s. record { pools = refl; there = λ h. h })
    (λ s n r. record { pools = refl; there = λ h. h }) ms point

asking_leaves : (units : Option ℕ) (w : World) → LeavesPools w (asking units w)
asking_leaves None w = as_before w
asking_leaves (Some units) w = record { pools = refl; there = λ h. h }

its_moves_leave : (w : World) (c : Call) (ms : List Move) → LeavesPools w (after_its_moves w c ms)
its_moves_leave w (call.Reserve point head) ms =
    LeavesPools-then w (world_after_moves w (moves_of_poll ms)) (after_its_moves w (call.Reserve point head) ms)
    (moves_leave_pools w (moves_of_poll ms))
    (own_segment_leaves (world_after_moves w (moves_of_poll ms)) (own_segment ms) (number_named w point as_point))
its_moves_leave w _ ms = moves_leave_pools w ms

pub moved_world_leaves : (w : World) (c : Call) (ms : List Move) → LeavesPools w (moved_world w c ms)
moved_world_leaves w c ms =
    LeavesPools-then w (after_its_moves w c ms) (moved_world w c ms) (its_moves_leave w c ms)
    (asking_leaves (units_asked w c) (after_its_moves w c ms))

-- ---- the acts that make objects or change points

pub named_pool : (w : World) (name : Name) (p : Numbered Pool) → pool_named w name ≡ Ok p → IsPoolThere w.pools p.number
named_pool w name p e = slice_get_within w.pools p.number p.value (pool_named-is w name p e)

pub named_point : (w : World) (name : Name) (p : Numbered Point) → HasPools w → point_named w name ≡ Ok p → IsPoolThere w.pools p.value.pool
named_point w name p h e = point-at w.pools w.graph.points p.number p.value h.of_points (point_named-is w name p e).1

module _ (v : World) (h : HasPools v) where
  points_there : (n : ℕ) (o : Option Point) → IsPointPoolThere v.pools o
      → AllByRecursion (IsPointPoolThere v.pools) (slice_set v.graph.points n o)
  points_there n o there = all-set (IsPointPoolThere v.pools) v.graph.points n o h.of_points there

  object_there : (o : Object) → IsPoolThere v.pools o.pool → AllByRecursion (IsPoolThere v.pools) (owners (with_object v.graph o))
  object_there o there =
      subst (AllByRecursion (IsPoolThere v.pools)) (sym (map-append (λ (o : Object). o.pool) v.graph.objects (o ∷ [])))
      (all-last (IsPoolThere v.pools) (owners v.graph) o.pool h.of_objects there)

  change_has_pools : {marked : Bool} {judged u : World} {c : Call} → v.pools ≡ judged.pools → Change marked c judged v u → HasPools u
  change_has_pools same (CellsAre object change held write) = record {
    of_objects = subst (AllByRecursion (IsPoolThere v.pools)) (sym (owners-graph_with_cells v.graph object.number change)) h.of_objects;
    of_points = h.of_points;
  }
  change_has_pools same (BlockWordIs id k value) = record {
    of_objects = subst (AllByRecursion (IsPoolThere v.pools)) (sym (owners-graph_with_word v.graph id k value)) h.of_objects;
    of_points = h.of_points;
  }
  change_has_pools same (BlockUncached name cache words into place id classes e is taken found empty) = record {
    of_objects = subst (AllByRecursion (IsPoolThere v.pools)) (sym (owners-graph_cleared v.graph id)) h.of_objects;
    of_points = h.of_points;
  }
  change_has_pools {judged = judged} same (Allocated p words place at e is kind size found empty) = record {
    of_objects = object_there (record { pool = p.number; body = Manual (replicate words 0) })
        (subst (λ (pools : List Pool). p.number < length pools) (sym same) (slice_get_within judged.pools p.number p.value is));
    of_points = h.of_points;
  }
  change_has_pools same (PoolMade name p e made) =
      let grows = grown v.pools (with_last v.pools p) (p ∷ [], refl) in
      record {
        of_objects = more_pools v.pools (with_last v.pools p) grows (owners v.graph) h.of_objects;
        of_points = more_for_points v.pools (with_last v.pools p) grows v.graph.points h.of_points;
      }
  change_has_pools same (PointMade name pool of at_rank e is may) = record {
    of_objects = h.of_objects;
    of_points = all-last (IsPointPoolThere v.pools) v.graph.points (Some (record { pool = of.number; rank = at_rank; reservation = None }))
        h.of_points (named_pool v pool of is);
  }
  change_has_pools same (PointDropped name p e is none) = record { of_objects = h.of_objects; of_points = points_there p.number None tt }
  change_has_pools same (Opened name head r p at e is there) =
      record { of_objects = h.of_objects; of_points = points_there p.number _ (named_point v name p h there) }
  change_has_pools same (Written name p r change e there has lives write) =
      record { of_objects = h.of_objects; of_points = points_there p.number _ (named_point v name p h there) }
  change_has_pools same (Closed name target p r e there has ended) =
      record { of_objects = h.of_objects; of_points = points_there p.number _ (named_point v name p h there) }
  change_has_pools same (Committed name target p r slot e there found has lives) = record {
    of_objects = object_there (committed_object p.value r) (named_point v name p h there);
    of_points = points_there p.number (Some (record p.value { reservation = None })) (named_point v name p h there);
  }
  change_has_pools same (Substituted name transform e is parked) = record {
    of_objects = subst (AllByRecursion (IsPoolThere v.pools))
        (sym (owners_substituted (pairs_of v.state transform) v.graph.objects)) h.of_objects;
    of_points = h.of_points;
  }
  change_has_pools same Unchanged = h
  change_has_pools same _ = record { of_objects = h.of_objects; of_points = h.of_points }

  act_has_pools : (marked : Bool) (judged : World) (c : Call) → v.pools ≡ judged.pools → ForAct HasPools (act marked judged v c)
  act_has_pools marked judged c same = of_changes marked judged v c (λ u change. change_has_pools same change)

-- ---- a step

judged_pools : (w : World) (c : Call) (ms : List Move) → (judged_world w c ms).pools ≡ w.pools
judged_pools w (call.Reserve point head) ms = (moves_leave_pools w (moves_of_poll ms)).pools
judged_pools w _ ms = refl

pub step_has_pools : (w : World) (s : Step) → HasPools w → HasPools (world_after w s)
step_has_pools w s h =
    let judged = judged_world w s.call s.moves in
    let moved = moved_world w s.call s.moves in
    let leaves = moved_world_leaves w s.call s.moves in
    let result = act (is_block s.answer) judged moved s.call in
    after_act result (leaves.there h)
    (act_has_pools moved (leaves.there h) (is_block s.answer) judged s.call (leaves.pools ∙ sym (judged_pools w s.call s.moves)))
  where
    after_act : (result : Checked Act) → HasPools (moved_world w s.call s.moves) → ForAct HasPools result
        → HasPools (with_client_remembered (world_from (moved_world w s.call s.moves) result))
    after_act (Ok a) before (accepted has) = has
    after_act (Err why) before refused = before
