-- In each held segment of a pool of blocks of any sizes lies a manual block, after each step of a legal history.
use Rattle.std.proofs.Common.{◌≡◌, ◌⊎◌, inl, inr, ℕ, ◌+◌, Bool, true, false, refl, sym, ◌∙◌, ap, subst, List, [], length, Option, Some, None, Ok, Err}
use Rattle.std.proofs.lemmas.Bool.{true≢false}
use Rattle.std.proofs.lemmas.Option.{none-some}
use Rattle.std.specs.Prelude.{not, if◌then◌else◌, is_some, slice_get}
use Rattle.std.specs.Option.{option_map_or}
use Rattle.mps_base.specs.Address.{address_of_grain}
use Rattle.mps_base.specs.Placement.{Placement, Place, NewSegment, OverLimit, NoFreeRun}
use Rattle.mps_base.specs.Segment.{Segment, with_segment, words_of_segment}
use Rattle.mps_base.specs.declared.moves.Move.{Move}
use Rattle.mps_base.specs.declared.moves.Move.TheVariants as moves
use Rattle.mps_base.specs.declared.names.Name.{Name}
use Rattle.mps_base.specs.declared.refusal.Refusal.TheVariants as refusal
use Rattle.mps_model.specs.declared.call.Call.{Call}
use Rattle.mps_model.specs.declared.call.Call.TheVariants as call
use Rattle.mps_model.specs.Answer.{Answer, is_accepted}
use Rattle.mps_model.specs.Graph.{new_cells, Object, Point, Reservation, contains, entry_at, ids_in_frames, is_automatic, object_at}
use Rattle.mps_model.specs.Collection.{Collection}
use Rattle.mps_model.specs.World.{World, Pool, is_any_size_kind, is_automatic_kind, is_copying_pool, pool_at}
use Rattle.mps_model.specs.Checked.{Checked, Numbered, required, refuse_when, as_point, number_named, point_named}
use Rattle.mps_model.specs.Allocating.{Reserving, layout_of, takes_head, check_reserve}
use Rattle.mps_model.specs.Placement.{ForReserve, placement_of}
use Rattle.mps_model.specs.Policy.{units_asked}
use Rattle.mps_model.specs.Effect.{holding, segment_of_move, world_after_moves}
use Rattle.mps_model.specs.LegalMove.{AreLegalMoves, first_move}
use Rattle.mps_model.specs.History.{AreMovesOf, after_own_segment, asking, commit_of, if_accepted, moved_world, moves_of_collector, moves_of_commit, moves_of_poll, own_segment, rank_of_point, segment_of_reserve, segment_taken, with_buffer, with_segment_for_point}
use Rattle.mps_changes.proofs.Checks.{point_named-is}
use Rattle.mps_laws.proofs.Positions.Segments.{IsAmong, among_cases}
use Rattle.mps_laws.proofs.Reading.{bind_ok, next_ok}
use Rattle.mps_laws.proofs.Replays.FreeSteps.{BlocksAreLive}
use Rattle.mps_laws.proofs.Sound.SoundGraph.{All, auto, manual}
use Rattle.mps_client_laws.specs.Addresses.{frees_blocks}
use Rattle.mps_client_laws.proofs.FreesOfCalls.{left_by_frees}
use Rattle.mps_client_laws.proofs.SegmentsFreed.{frees_in_use, not_both_kinds, object_in_use}
use Rattle.mps_client_laws.proofs.SegmentsInUse.{AreInUse, IsInUse, used, for_move, for_return, any_size, condemned_of, mapped, moves_in_use}

-- ---- what holds between the moves of a call and its act

-- each segment of a pool of any sizes is in use, or it is in use afterwards
pub record AreKeptUsed (v after : World) : Type 0 where
  pub condemned : (id : ℕ) → contains (condemned_of v.collection) id ≡ true → auto v id ≡ true
  pub pools : (s : Segment) → IsAmong s v.segments → is_some (pool_at v s.pool) ≡ true
  pub each : (s : Segment) → IsAmong s v.segments → any_size v s.pool ≡ true → IsInUse v None s ⊎ IsInUse after None s

any_next : {limit : ℕ} {w : World} (next : Option Move) → AreInUse limit w None → AreInUse limit w next
any_next {limit} {w} next h = record {
  layout = h.layout;
  sound = h.sound;
  condemned = h.condemned;
  pools = h.pools;
  each = λ s among kind. still s (h.each s among kind);
}
  where
    still : (s : Segment) → IsInUse w None s → IsInUse w next s
    still s (used id at is lies inside) = used id at is lies inside
    still s (for_move from to e inside) = absurd (none-some (moves.Moved from to) e)
    still s (for_return base e same) = absurd (none-some (moves.Unseg base) e)

asked_used : (limit : ℕ) (units : Option ℕ) (v after : World) → AreInUse limit v None → AreKeptUsed (asking units v) after
asked_used limit None v after h = record {
  condemned = h.condemned;
  pools = h.pools;
  each = λ s among kind. inl (h.each s among kind);
}
asked_used limit (Some units) v after h = record {
  condemned = λ id is. h.condemned id
      (subst (λ ids. contains ids id ≡ true)
      (mapped v (λ (c : Collection). record c { spent = c.spent + units }) (λ c. refl) v.collection) is);
  pools = h.pools;
  each = λ s among kind. inl (still s (h.each s among kind));
}
  where
    still : (s : Segment) → IsInUse v None s → IsInUse (asking (Some units) v) None s
    still s (used id at is lies inside) = used id at is lies inside
    still s (for_move from to e inside) = for_move from to e inside
    still s (for_return base e same) = for_return base e same

asked_again : (units : Option ℕ) (v after : World) → AreKeptUsed v after → AreKeptUsed (asking units v) after
asked_again None v after k = k
asked_again (Some units) v after k = record {
  condemned = λ id is. k.condemned id
      (subst (λ ids. contains ids id ≡ true)
      (mapped v (λ (c : Collection). record c { spent = c.spent + units }) (λ c. refl) v.collection) is);
  pools = k.pools;
  each = λ s among kind. still s (k.each s among kind);
}
  where
    still : (s : Segment) → IsInUse v None s ⊎ IsInUse after None s → IsInUse (asking (Some units) v) None s ⊎ IsInUse after None s
    still s (inl (used id at is lies inside)) = inl (used id at is lies inside)
    still s (inl (for_move from to e inside)) = inl (for_move from to e inside)
    still s (inl (for_return base e same)) = inl (for_return base e same)
    still s (inr later) = inr later

-- ---- the segment of a reserve

abbrev passed : Reserving → Checked Reserving
passed r = Ok r

passed_is : (made r : Reserving) → passed made ≡ passed r → made ≡ r
passed_is made r e = cc

-- the point of a reserve that passes its checks
checked_point : (v : World) (point : Name) (head : ℕ) (r : Reserving) → check_reserve v point head ≡ Ok r
    → point_named v point ≡ Ok r.point
checked_point v point head r e =
    let p = bind_ok (point_named v point) _ r e in
    let pool = bind_ok (required (pool_at v (p.0).value.pool) refusal.BadName) _ r p.2 in
    let last = next_ok (refuse_when (is_some (p.0).value.reservation) refusal.Open) _ r
    (next_ok (refuse_when (not (takes_head v pool.0 head)) refusal.BadHead) _ r pool.2) in
    p.1 ∙ ap (λ (x : Reserving). Ok x.point) (passed_is (record { point = p.0; cells = new_cells (layout_of v pool.0) head }) r last)

module _ (limit : ℕ) (v after : World) (h : AreInUse limit v None) where
  -- one segment more, which is in use afterwards if it is of a pool of any sizes
  pub one_more_used : (s : Segment) (u : World) → u.segments ≡ with_segment s v.segments → u.graph ≡ v.graph → u.addresses ≡ v.addresses
      → u.pools ≡ v.pools → u.collection ≡ v.collection → is_some (pool_at v s.pool) ≡ true
      → (any_size v s.pool ≡ true → IsInUse after None s) → AreKeptUsed u after
  one_more_used s u segments graph addresses pools collection there new = record {
    condemned = λ id is. ap (λ g. option_map_or is_automatic (object_at g id) false) graph
        ∙ h.condemned id (subst (λ o. contains (condemned_of o) id ≡ true) collection is);
    pools = λ t among. ap (λ ps. is_some (slice_get ps t.pool)) pools
        ∙ pool_of_case t (among_cases s t v.segments (subst (IsAmong t) segments among));
    each = λ t among any. of_case t
        (ap (λ ps. option_map_or (λ (q : Pool). is_any_size_kind q.kind) (slice_get ps t.pool) false) (sym pools) ∙ any)
        (among_cases s t v.segments (subst (IsAmong t) segments among));
  }
    where
      pool_of_case : (t : Segment) → (s ≡ t) ⊎ IsAmong t v.segments → is_some (pool_at v t.pool) ≡ true
      pool_of_case t (inl e) = subst (λ (x : Segment). is_some (pool_at v x.pool) ≡ true) e there
      pool_of_case t (inr among) = h.pools t among

      still : (t : Segment) → IsInUse v None t → IsInUse u None t
      still t (used id at is lies inside) =
          used id at (ap (λ g. option_map_or (λ (o : Object). not (is_automatic o)) (object_at g id) false) graph ∙ is)
          (ap (λ xs. entry_at xs id) addresses ∙ lies) inside
      still t (for_move from to e inside) = for_move from to e inside
      still t (for_return base e same) = for_return base e same

      of_case : (t : Segment) → any_size v t.pool ≡ true → (s ≡ t) ⊎ IsAmong t v.segments → IsInUse u None t ⊎ IsInUse after None t
      of_case t any (inl e) = inr (subst (IsInUse after None) e (new (subst (λ (x : Segment). any_size v x.pool ≡ true) (sym e) any)))
      of_case t any (inr among) = inl (still t (h.each t among any))

  some_kind : (o : Option Pool) → option_map_or (λ q. is_automatic_kind q.kind) o false ≡ true → is_some o ≡ true
  some_kind None is = is
  some_kind (Some p) is = refl

  for_point_used : (s : Segment) (point : ℕ) → option_map_or (λ q. is_automatic_kind q.kind) (pool_at v s.pool) false ≡ true
      → AreKeptUsed (with_segment_for_point v s point) after
  for_point_used s point kind = by_kind (is_copying_pool v s.pool)
    where
      ranked : Segment
      ranked = record s { rank = rank_of_point v point }

      by_kind : (b : Bool) → AreKeptUsed (if b then record (holding v ranked) {
        point_memories = with_buffer v.point_memories point (words_of_segment s);
      } else holding v ranked) after
      by_kind true = one_more_used ranked _ refl refl refl refl refl (some_kind (pool_at v s.pool) kind)
          (λ any. absurd (not_both_kinds (pool_at v s.pool) any kind))
      by_kind false = one_more_used ranked _ refl refl refl refl refl (some_kind (pool_at v s.pool) kind)
          (λ any. absurd (not_both_kinds (pool_at v s.pool) any kind))

  own_used : (point : Name) (head : ℕ) (ms : List Move) (number : Option ℕ)
      → ms ≡ segment_of_reserve v (check_reserve v point head) → AreKeptUsed (after_own_segment v ms number) after
  own_used point head ms number due =
      subst (λ ns. AreKeptUsed (after_own_segment v ns number) after) (sym due) (of_check (check_reserve v point head) refl)
    where
      none : AreKeptUsed v after
      none = record { condemned = h.condemned; pools = h.pools; each = λ s among kind. inl (h.each s among kind) }

      of_number : (pool : ℕ) → option_map_or (λ q. is_automatic_kind q.kind) (pool_at v pool) false ≡ true → (o : Option ℕ)
          → (q : Placement) → AreKeptUsed (after_own_segment v (segment_taken pool q) o) after
      of_number pool kind None (NewSegment grain grains) = none
      of_number pool kind (Some n) (NewSegment grain grains) =
          for_point_used (segment_of_move (address_of_grain grain) grains pool 0) n kind
      of_number pool kind o (Place word) = none
      of_number pool kind o (OverLimit committed need limit) = none
      of_number pool kind o (NoFreeRun need longest) = none

      of_check : (x : Checked Reserving) → check_reserve v point head ≡ x
          → AreKeptUsed (after_own_segment v (segment_of_reserve v x) number) after
      of_check (Err why) e = none
      of_check (Ok r) e =
          let there = (point_named-is v point r.point (checked_point v point head r e)).1 in
          of_number r.point.value.pool (h.sound.points r.point.number r.point.value there).0 number
          (placement_of v (ForReserve r.point.number (length r.cells)))

-- ---- the moves of calls that make no block

abbrev pub makes_block : Call → Bool
makes_block (call.Alloc pool words into) = true
makes_block (call.CacheAlloc cache words into) = true
makes_block _ = false

module _ (limit : ℕ) (w : World) (h : AreInUse limit w None) where
  abbrev Left : List Move → Type 0
  Left ms = AreInUse limit (world_after_moves w ms) None

  commit_used : (answer : Answer) (x : Checked (Numbered Point)) → Left (if_accepted answer (moves_of_commit w x))
  commit_used answer x = by_case (is_accepted answer) x
    where
      of_reservation : (p : Numbered Point) (o : Option Reservation) → Left (commit_of w p o)
      of_reservation p None = h
      of_reservation p (Some r) = h

      by_case : (b : Bool) (x : Checked (Numbered Point)) → Left (if b then moves_of_commit w x else [])
      by_case false x = h
      by_case true (Err why) = h
      by_case true (Ok p) = of_reservation p p.value.reservation

  free_used : (c : Call) (ms : List Move) (answer : Answer) → frees_blocks c ≡ true → BlocksAreLive w
      → All (manual w) (ids_in_frames w.graph) → AreMovesOf w c answer ms → Left ms
  free_used = left_by_frees w h.sound Left h (object_in_use limit w h) (frees_in_use limit w h)

  pub moved_used : (after : World) (c : Call) (ms : List Move) (answer : Answer) → makes_block c ≡ false → BlocksAreLive w
      → All (manual w) (ids_in_frames w.graph) → AreLegalMoves w None (moves_of_collector c ms) → AreMovesOf w c answer ms
      → AreKeptUsed (moved_world w c ms) after
  moved_used after (call.Alloc pool words into) ms answer plain live framed legal due = absurd (true≢false plain)
  moved_used after (call.CacheAlloc cache words into) ms answer plain live framed legal due = absurd (true≢false plain)
  moved_used after (call.Reserve point head) ms answer plain live framed legal due =
      let v = world_after_moves w (moves_of_poll ms) in
      let own = own_used limit v after (moves_in_use limit w None (moves_of_poll ms) (any_next (first_move (moves_of_poll ms)) h) legal)
      point head (own_segment ms) (number_named w point as_point) due.segment in
      asked_again (units_asked w (call.Reserve point head)) (after_own_segment v (own_segment ms) (number_named w point as_point)) after own
  moved_used after (call.Commit point target) ms answer plain live framed legal due =
      asked_used limit None (world_after_moves w ms) after (subst Left (sym due) (commit_used answer (point_named w point)))
  moved_used after (call.Free place) ms answer plain live framed legal due =
      asked_used limit None (world_after_moves w ms) after (free_used (call.Free place) ms answer refl live framed due)
  moved_used after (call.CacheFree cache place) ms answer plain live framed legal due =
      asked_used limit None (world_after_moves w ms) after (free_used (call.CacheFree cache place) ms answer refl live framed due)
  moved_used after (call.CacheFlush cache) ms answer plain live framed legal due =
      asked_used limit None (world_after_moves w ms) after (free_used (call.CacheFlush cache) ms answer refl live framed due)
  moved_used after (call.Pop pool frame) ms answer plain live framed legal due =
      asked_used limit None (world_after_moves w ms) after (free_used (call.Pop pool frame) ms answer refl live framed due)
  moved_used after c ms answer plain live framed legal due =
      asked_used limit (units_asked w c) (world_after_moves w ms) after
      (moves_in_use limit w None ms (any_next (first_move ms) h) legal)
