-- An address changes by a move of this object alone, and goes by a free of it alone.
use Rattle.std.proofs.Common.{◌≡◌, ◌⊎◌, inl, inr, ℕ, zero, suc, Bool, true, false, refl, sym, ◌∙◌, ap, subst, List, [], ◌∷◌, Option, Some, None}
use Rattle.std.proofs.lemmas.Bool.{true≢false, and_parts, and_from, eq-eqb, cases_eq}
use Rattle.std.specs.Prelude.{not, take, is_some, slice_set, ◌&&◌, if◌then◌else◌}
use Rattle.mps_base.specs.Segment.{Segment, words_of_segment}
use Rattle.mps_base.specs.declared.moves.Move.{Move}
use Rattle.mps_base.specs.declared.moves.Move.TheVariants as moves
use Rattle.mps_model.specs.declared.call.Call.{Call}
use Rattle.mps_model.specs.declared.call.Call.TheVariants as call
use Rattle.mps_model.specs.Answer.{is_block}
use Rattle.mps_model.specs.Step.{Step, History}
use Rattle.mps_model.specs.Graph.{entry_at, is_automatic}
use Rattle.mps_model.specs.World.{World, address_of, id_at, is_copying_pool, object_is, with_tail}
use Rattle.mps_model.specs.Checked.{Act, Checked}
use Rattle.mps_model.specs.Effect.{where_one, world_after_move, world_after_moves, after_moved, after_free, holding, segment_of_move, without_object, with_collection, reclaiming, segment_base_of}
use Rattle.mps_model.specs.Policy.{units_asked}
use Rattle.mps_model.specs.Reply.{act, world_from}
use Rattle.mps_model.specs.History.{after_its_moves, after_own_segment, asking, judged_world, moved_world, moves_of_poll, own_segment, rank_of_point, with_buffer, with_segment_for_point, world_after, world_after_steps}
use Rattle.mps_changes.specs.Change.{ForAct, accepted, refused}
use Rattle.mps_laws.specs.Replay.{reached}
use Rattle.mps_laws.proofs.Lookups.{entry_at-set_other, entry_at-set_same, entry_within}
use Rattle.mps_laws.proofs.Entries.{GoesOn, entry_at-append}
use Rattle.mps_laws.proofs.LeftByActs.{Leaves, act_leaves}
use Rattle.mps_laws.proofs.Positions.LegalMoves.{different}
use Rattle.mps_laws.proofs.Replays.Replay.{reached_from_empty}
use Rattle.mps_laws.proofs.Positions.Occupancy.{occupancy_of}
use Rattle.mps_client_laws.specs.Objects.{is_this}
use Rattle.mps_client_laws.specs.Addresses.{moves_object, frees_object, none_of_moves, none_of_steps, ObjectsLiveOn, AddressesStay, NoTwoHaveOneAddress}

-- ---- what changes no address

not_false : (b : Bool) → not b ≡ true → b ≡ false
not_false true h = absurd (true≢false (sym h))
not_false false h = refl

-- what no move does, the first of them don't
first_moves_none : (test : World → Move → Bool) (w : World) (ms : List Move) (n : ℕ) → none_of_moves test w ms ≡ true
    → none_of_moves test w (take n ms) ≡ true
first_moves_none test w ms zero none = refl
first_moves_none test w [] (suc n) none = refl
first_moves_none test w (m ∷ ms) (suc n) none =
    let parts = and_parts (not (test w m)) (none_of_moves test (world_after_move w m) ms) none in
    and_from (not (test w m)) (none_of_moves test (world_after_move w m) (take n ms)) parts.0
    (first_moves_none test (world_after_move w m) ms n parts.1)

segment_for_point_addresses : (w : World) (s : Segment) (point : ℕ) → (with_segment_for_point w s point).addresses ≡ w.addresses
segment_for_point_addresses w s point = by_case (is_copying_pool w s.pool)
  where
    taken : World
    taken = holding w (record s { rank = rank_of_point w point })

    by_case : (b : Bool)
        → (if b then record taken { point_memories = with_buffer w.point_memories point (words_of_segment s) } else taken).addresses
        ≡ w.addresses
    by_case true = refl
    by_case false = refl

own_segment_addresses : (w : World) (ms : List Move) (point : Option ℕ) → (after_own_segment w ms point).addresses ≡ w.addresses
own_segment_addresses w [] point = refl
own_segment_addresses w (moves.Seg base grains pool generation ∷ ms) None = refl
own_segment_addresses w (moves.Seg base grains pool generation ∷ ms) (Some point) =
    segment_for_point_addresses w (segment_of_move base.0 grains pool generation) point
own_segment_addresses w (_ ∷ ms) point = refl

asking_addresses : (asked : Option ℕ) (w : World) → (asking asked w).addresses ≡ w.addresses
asking_addresses None w = refl
asking_addresses (Some units) w = refl

-- ---- one object

module _ (id : ℕ) (Good : ℕ → Type 0) where
  -- the object is live, and what holds of its address
  pub record Lies (addresses : List (Option ℕ)) : Type 0 where
    pub at : ℕ
    pub there : entry_at addresses id ≡ Some at
    pub good : Good at

  abbrev LiesIn : World → Type 0
  LiesIn w = Lies w.addresses

  -- no move of some moves this object, or any address is good
  abbrev MayMove : (is_still : Bool) → Type 0
  MayMove is_still = (is_still ≡ true) ⊎ ((to : ℕ) → Good to)

  differs : (other : ℕ) → is_this id (Some other) ≡ false → other ≡ id → ⊥
  differs other this same = true≢false (sym (eq-eqb other id same) ∙ this)

  lies_beside : (addresses : List (Option ℕ)) (other : ℕ) (to : Option ℕ) → (other ≡ id → ⊥) → Lies addresses
      → Lies (slice_set addresses other to)
  lies_beside addresses other to unlike l =
      record { at = l.at; there = entry_at-set_other addresses other id to unlike ∙ l.there; good = l.good }

  lies_moved : (addresses : List (Option ℕ)) (other to : ℕ) → MayMove (not (is_this id (Some other))) → Lies addresses
      → Lies (slice_set addresses other (Some to))
  lies_moved addresses other to may l = elim (cases_eq other id) [
    | inl same ↦ this_moved same may
    | inr unlike ↦ lies_beside addresses other (Some to) unlike l
  ]
    where
      this_moved : other ≡ id → MayMove (not (is_this id (Some other))) → Lies (slice_set addresses other (Some to))
      this_moved same (inl still) = absurd (true≢false (sym still ∙ ap not (eq-eqb other id same)))
      this_moved same (inr any) = record {
        at = to;
        there = subst (λ n. entry_at (slice_set addresses n (Some to)) id ≡ Some to) (sym same)
            (entry_at-set_same addresses id (Some to) (entry_within addresses id l.at l.there));
        good = any to;
      }

  where_one_lies : (w : World) (found : Option ℕ) (change : ℕ → World) → ((other : ℕ) → LiesIn (change other)) → LiesIn w
      → LiesIn (where_one w found change)
  where_one_lies w None change each l = l
  where_one_lies w (Some other) change each l = each other

  moved_lies : (w : World) (to : ℕ) (found : Option ℕ) → MayMove (not (is_this id found)) → LiesIn w
      → LiesIn (where_one w found (λ other. after_moved w other to))
  moved_lies w to None may l = l
  moved_lies w to (Some other) may l = lies_moved w.addresses other to may l

  free_by_kind : (w : World) (other at : ℕ) (b : Bool) → is_this id (Some other) ≡ false → LiesIn w
      → LiesIn (if b then with_collection (without_object w other) (reclaiming (segment_base_of w at)) else without_object w other)
  free_by_kind w other at true this l = lies_beside w.addresses other None (differs other this) l
  free_by_kind w other at false this l = lies_beside w.addresses other None (differs other this) l

  freed_lies : (w : World) (at : ℕ) (found : Option ℕ) → is_this id found ≡ false → LiesIn w
      → LiesIn (where_one w found (λ other. after_free w other at))
  freed_lies w at None this l = l
  freed_lies w at (Some other) this l = free_by_kind w other at (object_is is_automatic w other) this l

  segment_lies : (w : World) (s : Segment) (b : Bool) → LiesIn w
      → LiesIn (if b then with_tail (holding w s) s.pool s.generation (words_of_segment s) else holding w s)
  segment_lies w s true l = l
  segment_lies w s false l = l

  move_lies : (w : World) (m : Move) → MayMove (not (moves_object w m id)) → frees_object w m id ≡ false → LiesIn w
      → LiesIn (world_after_move w m)
  move_lies w (moves.Seg base grains pool generation) may frees l =
      let s = segment_of_move base.0 grains pool generation in segment_lies w s (is_copying_pool w s.pool) l
  move_lies w (moves.Unseg base) may frees l = l
  move_lies w (moves.Flip zones chain generation) may frees l = l
  move_lies w moves.End may frees l = l
  move_lies w (moves.Moved from to) may frees l = moved_lies w to.0 (id_at w from.0) may l
  move_lies w (moves.Stay at) may frees l = where_one_lies w (id_at w at.0) _ (λ other. l) l
  move_lies w (moves.Splat holder cell) may frees l = where_one_lies w (id_at w holder.0) _ (λ other. l) l
  move_lies w (moves.Post at) may frees l = where_one_lies w (id_at w at.0) _ (λ other. l) l
  move_lies w (moves.Commit at words pool) may frees l = l
  move_lies w (moves.Alloc at words pool) may frees l = l
  move_lies w (moves.Free at) may frees l = freed_lies w at.0 (id_at w at.0) frees l

  -- ---- the moves of a call

  abbrev still : World → Move → Bool
  still w m = moves_object w m id

  abbrev frees : World → Move → Bool
  frees w m = frees_object w m id

  first_may : (b c : Bool) → MayMove (b && c) → MayMove b
  first_may b c (inl e) = inl (and_parts b c e).0
  first_may b c (inr any) = inr any

  rest_may : (b c : Bool) → MayMove (b && c) → MayMove c
  rest_may b c (inl e) = inl (and_parts b c e).1
  rest_may b c (inr any) = inr any

  moves_lie : (w : World) (ms : List Move) → MayMove (none_of_moves still w ms) → none_of_moves frees w ms ≡ true → LiesIn w
      → LiesIn (world_after_moves w ms)
  moves_lie w [] may none l = l
  moves_lie w (m ∷ ms) may none l =
      let parts = and_parts (not (frees w m)) (none_of_moves frees (world_after_move w m) ms) none in
      moves_lie (world_after_move w m) ms (rest_may (not (still w m)) (none_of_moves still (world_after_move w m) ms) may) parts.1
      (move_lies w m (first_may (not (still w m)) (none_of_moves still (world_after_move w m) ms) may)
      (not_false (frees w m) parts.0) l)

  its_moves_lie : (w : World) (c : Call) (ms : List Move) → MayMove (none_of_moves still w ms) → none_of_moves frees w ms ≡ true → LiesIn w
      → LiesIn (after_its_moves w c ms)
  its_moves_lie w (call.Reserve point head) ms may none l =
      subst Lies (sym (own_segment_addresses (world_after_moves w (moves_of_poll ms)) (own_segment ms) _))
      (moves_lie w (moves_of_poll ms) (first_may_move may) (first_moves_none frees w ms _ none) l)
    where
      first_may_move : MayMove (none_of_moves still w ms) → MayMove (none_of_moves still w (moves_of_poll ms))
      first_may_move (inl e) = inl (first_moves_none still w ms _ e)
      first_may_move (inr any) = inr any
  its_moves_lie w _ ms may none l = moves_lie w ms may none l

  lies_on : (before after : List (Option ℕ)) → GoesOn before after → Lies before → Lies after
  lies_on before after more l =
      subst Lies (sym more.1) (record {
        at = l.at;
        there = entry_at-append before more.0 id (entry_within before id l.at l.there) ∙ l.there;
        good = l.good;
      })

  act_lies : (c : Call) (v : World) (x : Checked Act) → ForAct (Leaves c v) x → LiesIn v → LiesIn (world_from v x)
  act_lies c v _ (accepted {a} left) l = lies_on v.addresses a.world.addresses left.addresses l
  act_lies c v _ refused l = l

  step_lies : (w : World) (s : Step) → MayMove (none_of_moves still w s.moves) → none_of_moves frees w s.moves ≡ true → LiesIn w
      → LiesIn (world_after w s)
  step_lies w s may none l =
      act_lies s.call moved (act (is_block s.answer) (judged_world w s.call s.moves) moved s.call)
      (act_leaves (is_block s.answer) (judged_world w s.call s.moves) moved s.call) moved_lie
    where
      moved : World
      moved = moved_world w s.call s.moves

      moved_lie : LiesIn moved
      moved_lie =
          subst Lies (sym (asking_addresses (units_asked w s.call) (after_its_moves w s.call s.moves)))
          (its_moves_lie w s.call s.moves may none l)

  pub steps_lie : (w : World) (ss : History) → MayMove (none_of_steps still w ss) → none_of_steps frees w ss ≡ true → LiesIn w
      → LiesIn (world_after_steps w ss)
  steps_lie w [] may none l = l
  steps_lie w (s ∷ ss) may none l =
      let parts = and_parts (none_of_moves frees w s.moves) (none_of_steps frees (world_after w s) ss) none in
      steps_lie (world_after w s) ss (rest_may (none_of_moves still w s.moves) (none_of_steps still (world_after w s) ss) may) parts.1
      (step_lies w s (first_may (none_of_moves still w s.moves) (none_of_steps still (world_after w s) ss) may) parts.0 l)

-- ---- the laws

has_address : (o : Option ℕ) → is_some o ≡ true → (at : ℕ) × (o ≡ Some at)
has_address None live = absurd (true≢false (sym live))
has_address (Some at) live = (at, refl)

pub objects_live_on : ObjectsLiveOn
objects_live_on w steps id none live =
    let at = has_address (address_of w id) live in
    let l = steps_lie id (λ at. Unit {0}) w steps (inr (λ to. tt)) none (record { at = at.0; there = at.1; good = tt }) in
    ap is_some l.there

pub addresses_stay : AddressesStay
addresses_stay w steps id at still none there =
    let l = steps_lie id (λ other. other ≡ at) w steps (inl still) none (record { at = at; there = there; good = refl }) in
    l.there ∙ ap Some l.good

pub no_two_have_one_address : NoTwoHaveOneAddress
no_two_have_one_address formats steps id other at legal one two =
    let r = reached_from_empty formats steps legal in
    different r.limit (occupancy_of (reached formats steps)) r.layout id other at one two
