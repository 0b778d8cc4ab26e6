-- The moves of units and of a read barrier where no_flip object has a dependent are those of units and of a barrier where some have.
use Rattle.std.proofs.Common.{◌≡◌, ◌∙◌, ℕ, Bool, true, false, refl, sym, ap, List, [], ◌∷◌, ◌++◌, Option, Some, None, subst, inl, inr, append_assoc}
use Rattle.std.proofs.lemmas.Bool.{and_from, and_parts, false≢true}
use Rattle.std.proofs.lemmas.List.{append-nil}
use Rattle.std.specs.Prelude.{◌&&◌, not, IsTrue}
use Rattle.std.specs.List.{list_all}
use Rattle.std.specs.Option.{option_map_or}
use Rattle.mps_base.specs.Address.{Address, Id}
use Rattle.mps_base.specs.Segment.{Segment, is_in_segment}
use Rattle.mps_base.specs.declared.address.Addr.{Addr}
use Rattle.mps_base.specs.declared.moves.Move.{Move}
use Rattle.mps_base.specs.declared.moves.Move.TheVariants as moves
use Rattle.mps_model.specs.Collection.{Collection}
use Rattle.mps_model.specs.World.{World, is_empty_segment, is_live, is_live_and, is_running, segment_at}
use Rattle.mps_model.specs.LegalMove.{ForOne, AreLegalMoves, IsLegalMove, MayBeScanned, first_move}
use Rattle.mps_model.specs.Effect.{world_after_move, world_after_moves}
use Rattle.mps_model.specs.Flip.{at_address, end_where}
use Rattle.mps_model.specs.Units.{AreUnits, AreUnitsToEnd, IsBarrier, IsExamination, posts, stays_and_posts, moves_and_posts, moves_to_segment_and_posts, IsReclaim, IsScannedByBarrier, IsScannedByUnit, IsScannedTarget, IsUnitPiece, examines, splats, scans, reclaims, does_nothing, Scans, scans_no_more, moves_target, moves_target_to_segment, makes_target_stay, UnitsDone, none_yet, one_more, ends_in, frees_at, give_back_where, is_last_condemned, nothing_left, refers_to, splats_in, splats_of}
use Rattle.mps_laws.specs.Staying.{is_flip}
use Rattle.mps_refinement.specs.Following.{Following, followed, following, following_move, none_flips, paired_at_flip}
use Rattle.mps_refinement.proofs.Following.Moves.{move_follows, none_cleared}
use Rattle.mps_refinement.proofs.Following.Kept.{IsFollowable, followable_after}
use Rattle.mps_refinement.proofs.Following.Legal.{automatic_same, before_moved, empty_same, for_changed, needs_tracing, not_flip, running_same, scanned_still, weak_same, while_tracing}

-- ---- moves with those after them

pub all_append : (test : Move → Bool) (xs ys : List Move) → list_all test xs ≡ true → list_all test ys ≡ true
    → list_all test (xs ++ ys) ≡ true
all_append test [] ys h k = k
all_append test (x ∷ xs) ys h k =
    let parts = and_parts (test x) (list_all test xs) h in
    and_from (test x) (list_all test (xs ++ ys)) parts.0 (all_append test xs ys parts.1 k)

module _ (is_weak : Id → Bool) where
  -- what moves leave, before others that are legal after them
  pub record IsCarried (w : World) (f : Following) (ms more : List Move) : Type 0 where
    pub leads : world_after_moves (followed w f) ms ≡ followed (world_after_moves w ms) (following w f ms)
    pub followable : IsFollowable is_weak (world_after_moves w ms) (following w f ms)
    pub before : Option Move
    pub legal : AreLegalMoves (world_after_moves w ms) before more

  -- what one move that is legal leads to
  step_leads : (w : World) (f : Following) (before next : Option Move) (m : Move) → IsFollowable is_weak w f → is_flip m ≡ false
      → IsLegalMove w before m next → world_after_move (followed w f) m ≡ followed (world_after_move w m) (following_move w f m)
  step_leads w f before next m k no_flip h =
      move_follows w f m k.unpaired (λ e. while_tracing is_weak w f k before m next h (needs_tracing m no_flip e))

  pub carried : (w : World) (f : Following) (before : Option Move) (ms more : List Move) → IsFollowable is_weak w f
      → none_flips ms ≡ true → AreLegalMoves w before (ms ++ more) → IsCarried w f ms more
  carried w f before [] more k none h = record { leads = refl; followable = k; before = before; legal = h }
  carried w f before (m ∷ ms) more k none h =
      let parts = and_parts (not (is_flip m)) (none_flips ms) none in
      let no_flip = not_flip (is_flip m) parts.0 in
      let rest =
      carried (world_after_move w m) (following_move w f m) (Some m) ms more (followable_after is_weak w f k m no_flip) parts.1 h.1 in
      record {
        leads = ap (λ v. world_after_moves v ms) (step_leads w f before (first_move (ms ++ more)) m k no_flip h.0) ∙ rest.leads;
        followable = rest.followable;
        before = rest.before;
        legal = rest.legal;
      }

  -- ---- scans

  module _ (IsScanned : World → (holder : Id) → Type 0)
      (still : (w : World) (f : Following) → IsFollowable is_weak w f → (holder : Id) → IsScanned w holder
      → IsScanned (followed w f) holder) where
    target_still : (w : World) (f : Following) (address : Address) → IsFollowable is_weak w f → f.cells ≡ []
        → IsScannedTarget IsScanned w address → IsScannedTarget IsScanned (followed w f) address
    target_still w f address k none t = record {
      holder = t.holder;
      scanned = still w f k t.holder t.scanned;
      refers = none_cleared (λ g. IsTrue (refers_to (followed w g) t.holder address)) f none t.refers;
    }

    scans_follow : (w : World) (f : Following) (before : Option Move) {ms : List Move} (more : List Move) → IsFollowable is_weak w f
        → AreLegalMoves w before (ms ++ more) → Scans IsScanned w ms → Scans IsScanned (followed w f) ms
    scans_follow w f before more k h scans_no_more = scans_no_more
    scans_follow w f before more k h (moves_target {from = from} {to = to} {rest = rest} target later) =
        let m : Move = moves.Moved from to in
        let none = while_tracing is_weak w f k before m (first_move (rest ++ more)) h.0 refl in
        moves_target (target_still w f from.0 k none target)
        (subst (λ v. Scans IsScanned v rest) (sym (step_leads w f before (first_move (rest ++ more)) m k refl h.0))
        (scans_follow (world_after_move w m) (following_move w f m) (Some m) more (followable_after is_weak w f k m refl) h.1 later))
    scans_follow w f before more k h
        (moves_target_to_segment {base = base} {from = from} {to = to} {grains = grains} {pool = pool} {generation = generation}
        {rest = rest} target later) =
        let s : Move = moves.Seg base grains pool generation in
        let m : Move = moves.Moved from to in
        let none = before_moved is_weak w f k before s (m ∷ rest ++ more) h.0 h.1 refl base grains pool generation refl in
        let then = followable_after is_weak w f k s refl in
        let w1 = world_after_move w s in
        let f1 = following_move w f s in
        moves_target_to_segment (target_still w f from.0 k none target)
        (subst (λ v. Scans IsScanned v rest)
        (sym (ap (λ v. world_after_move v m) (step_leads w f before (Some m) s k refl h.0)
        ∙ step_leads w1 f1 (Some s) (first_move (rest ++ more)) m then refl h.1.0))
        (scans_follow (world_after_move w1 m) (following_move w1 f1 m) (Some m) more (followable_after is_weak w1 f1 then m refl) h.1.1
        later))
    scans_follow w f before more k h (makes_target_stay {at = at} {rest = rest} target later) =
        let m : Move = moves.Stay at in
        let none = while_tracing is_weak w f k before m (first_move (rest ++ more)) h.0 refl in
        makes_target_stay (target_still w f at.0 k none target)
        (subst (λ v. Scans IsScanned v rest) (sym (step_leads w f before (first_move (rest ++ more)) m k refl h.0))
        (scans_follow (world_after_move w m) (following_move w f m) (Some m) more (followable_after is_weak w f k m refl) h.1 later))

  scan_flips_none : {IsScanned : World → (holder : Id) → Type 0} {w : World} {ms : List Move} → Scans IsScanned w ms → none_flips ms ≡ true
  scan_flips_none scans_no_more = refl
  scan_flips_none (moves_target target later) = scan_flips_none later
  scan_flips_none (moves_target_to_segment target later) = scan_flips_none later
  scan_flips_none (makes_target_stay target later) = scan_flips_none later

  scanned_by_unit : (w : World) (f : Following) (id : Id) → IsScannedByUnit w id → IsScannedByUnit (followed w f) id
  scanned_by_unit w f id h = record {
    live = ap (λ b. is_live w id && b) (automatic_same is_weak w f id) ∙ h.live;
    not_weak = ap not (weak_same is_weak w f id) ∙ h.not_weak;
    may_be_scanned = for_changed (paired_at_flip f.at_flip) (λ c. MayBeScanned w c id) (λ c. MayBeScanned (followed w f) c id)
        (λ c. scanned_still is_weak w f c id) w.collection h.may_be_scanned;
  }

  scanned_by_barrier : (s : Segment) (w : World) (f : Following) → IsFollowable is_weak w f → (id : Id) → IsScannedByBarrier s w id
      → IsScannedByBarrier s (followed w f) id
  scanned_by_barrier s w f k id h = record {
    in_segment = ap (λ b. is_live_and (is_in_segment s) w id && b) (automatic_same is_weak w f id) ∙ h.in_segment;
    may_be_scanned = for_changed (paired_at_flip f.at_flip) (λ c. MayBeScanned w c id) (λ c. MayBeScanned (followed w f) c id)
        (λ c. scanned_still is_weak w f c id) w.collection h.may_be_scanned;
  }

  -- ---- reclaims

  frees_lead : (w : World) (f : Following) → IsFollowable is_weak w f → (freed : List ℕ)
      → world_after_moves (followed w f) (frees_at freed) ≡ followed (world_after_moves w (frees_at freed)) (following w f (frees_at freed))
  frees_lead w f k [] = refl
  frees_lead w f k (address ∷ freed) =
      let m : Move = moves.Free (at_address address) in
      ap (λ v. world_after_moves v (frees_at freed)) (move_follows w f m k.unpaired (λ e. absurd (false≢true e)))
      ∙ frees_lead (world_after_move w m) (following_move w f m) (followable_after is_weak w f k m refl) freed

  nothing_left_same : (w : World) (f : Following) (base : Address) → nothing_left (followed w f) base ≡ nothing_left w base
  nothing_left_same w f base = of_segment (segment_at w base)
    where
      of_segment : (o : Option Segment)
          → option_map_or (is_empty_segment (followed w f)) o false ≡ option_map_or (is_empty_segment w) o false
      of_segment None = refl
      of_segment (Some s) = empty_same is_weak w f s

  reclaim_still : (w : World) (f : Following) (piece : List Move) → IsFollowable is_weak w f → (c : Collection) → IsReclaim w piece c
      → IsReclaim (followed w f) piece (paired_at_flip f.at_flip c)
  reclaim_still w f piece k c h = record {
    base = h.base;
    freed = h.freed;
    condemned = h.condemned;
    in_turn = h.in_turn;
    ascending = h.ascending;
    in_segment = h.in_segment;
    whole =
        h.whole
        ∙ ap (λ b. frees_at h.freed ++ give_back_where h.base b ++ end_where (is_last_condemned c h.base))
        (sym (ap (λ v. nothing_left v h.base) (frees_lead w f k h.freed)
        ∙ nothing_left_same (world_after_moves w (frees_at h.freed)) (following w f (frees_at h.freed)) h.base));
  }

  -- ---- units

  piece_follows : (w : World) (f : Following) (before : Option Move) (piece more : List Move) → IsFollowable is_weak w f
      → AreLegalMoves w before (piece ++ more) → IsUnitPiece w piece → IsUnitPiece (followed w f) piece
  piece_follows w f before piece more k h (scans id scanned is) =
      scans id (scanned_by_unit w f id scanned)
      (scans_follow (λ now holder. holder ≡ id) (λ v g l holder e. e) w f before more k h is)
  piece_follows w f before piece more k h (examines is) = examines is
  piece_follows w f before piece more k h (splats holder cells is) = splats holder cells is
  piece_follows w f before piece more k h (reclaims is) =
      reclaims (for_changed (paired_at_flip f.at_flip) (IsReclaim w piece) (IsReclaim (followed w f) piece) (reclaim_still w f piece k)
      w.collection is)
  piece_follows w f before piece more k h (does_nothing is) = does_nothing is

  examination_flips_none : {piece : List Move} → IsExamination piece → none_flips piece ≡ true
  examination_flips_none posts = refl
  examination_flips_none stays_and_posts = refl
  examination_flips_none moves_and_posts = refl
  examination_flips_none moves_to_segment_and_posts = refl

  splats_flip_none : (holder : Addr) (cells : List ℕ) → none_flips (splats_of holder cells) ≡ true
  splats_flip_none holder [] = refl
  splats_flip_none holder (cell ∷ cells) = splats_flip_none holder cells

  frees_flip_none : (freed : List ℕ) → none_flips (frees_at freed) ≡ true
  frees_flip_none [] = refl
  frees_flip_none (address ∷ freed) = frees_flip_none freed

  given_flips_none : (base : Address) (b : Bool) → none_flips (give_back_where base b) ≡ true
  given_flips_none base true = refl
  given_flips_none base false = refl

  last_flips_none : (b : Bool) → none_flips (end_where b) ≡ true
  last_flips_none true = refl
  last_flips_none false = refl

  reclaim_flips_none : (w : World) (piece : List Move) (o : Option Collection) → ForOne o (IsReclaim w piece) → none_flips piece ≡ true
  reclaim_flips_none w piece None h = absurd h
  reclaim_flips_none w piece (Some c) h =
      let given = give_back_where h.base (nothing_left (world_after_moves w (frees_at h.freed)) h.base) in
      let last = end_where (is_last_condemned c h.base) in
      ap none_flips h.whole
      ∙ all_append (λ m. not (is_flip m)) (frees_at h.freed ++ given) last
      (all_append (λ m. not (is_flip m)) (frees_at h.freed) given (frees_flip_none h.freed)
      (given_flips_none h.base (nothing_left (world_after_moves w (frees_at h.freed)) h.base)))
      (last_flips_none (is_last_condemned c h.base))

  piece_flips_none : (w : World) (piece : List Move) → IsUnitPiece w piece → none_flips piece ≡ true
  piece_flips_none w piece (scans id scanned is) = scan_flips_none is
  piece_flips_none w piece (examines is) = examination_flips_none is
  piece_flips_none w piece (splats holder cells is) = ap none_flips is ∙ splats_flip_none holder cells
  piece_flips_none w piece (reclaims is) = reclaim_flips_none w piece w.collection is
  piece_flips_none w piece (does_nothing is) = ap none_flips is

  -- units don't flip
  pub units_flip_none : {w : World} {count : ℕ} {ms : List Move} → UnitsDone w count ms → none_flips ms ≡ true
  units_flip_none none_yet = refl
  units_flip_none {w} (one_more {done = done} {piece = piece} before running is) =
      all_append (λ m. not (is_flip m)) done piece (units_flip_none before) (piece_flips_none (world_after_moves w done) piece is)

  units_done_follow : (w : World) (f : Following) (before : Option Move) {count : ℕ} {ms : List Move} (more : List Move)
      → IsFollowable is_weak w f → AreLegalMoves w before (ms ++ more) → UnitsDone w count ms → UnitsDone (followed w f) count ms
  units_done_follow w f before more k h none_yet = none_yet
  units_done_follow w f before more k h (one_more {done = done} {piece = piece} first running is) =
      let legal = subst (λ ms. AreLegalMoves w before ms) (append_assoc done piece more) h in
      let c = carried w f before done (piece ++ more) k (units_flip_none first) legal in
      let v = world_after_moves w done in
      let g = following w f done in
      one_more (units_done_follow w f before (piece ++ more) k legal first)
      (ap is_running c.leads ∙ running_same is_weak v g ∙ running)
      (subst (λ u. IsUnitPiece u piece) (sym c.leads) (piece_follows v g c.before piece more c.followable c.legal is))

  -- n units
  pub units_follow : (w : World) (f : Following) (before : Option Move) {count : ℕ} (ms : List Move)
      → IsFollowable is_weak w f → AreLegalMoves w before ms → UnitsDone w count ms → UnitsDone (followed w f) count ms
  units_follow w f before ms k h units =
      units_done_follow w f before [] k (subst (λ all. AreLegalMoves w before all) (sym (append-nil ms)) h) units

  -- where moves lead of which none is a flip
  pub moves_lead : (w : World) (f : Following) (before : Option Move) (ms : List Move) → IsFollowable is_weak w f → none_flips ms ≡ true
      → AreLegalMoves w before ms → world_after_moves (followed w f) ms ≡ followed (world_after_moves w ms) (following w f ms)
  moves_lead w f before ms k none h =
      (carried w f before ms [] k none (subst (λ all. AreLegalMoves w before all) (sym (append-nil ms)) h)).leads

  end_still_in : (w : World) (f : Following) (before : Option Move) (ms : List Move) → IsFollowable is_weak w f → none_flips ms ≡ true
      → AreLegalMoves w before ms → IsTrue (ends_in w ms) → IsTrue (ends_in (followed w f) ms)
  end_still_in w f before ms k none h ends =
      ap (λ v. not (is_running v)) (moves_lead w f before ms k none h)
      ∙ ap not (running_same is_weak (world_after_moves w ms) (following w f ms))
      ∙ ends

  pub are_units_follow : (w : World) (f : Following) (before : Option Move) (count : ℕ) (ms : List Move) → IsFollowable is_weak w f
      → AreLegalMoves w before ms → AreUnits w count ms → AreUnits (followed w f) count ms
  are_units_follow w f before count ms k h (inl units) = inl (units_follow w f before ms k h units)
  are_units_follow w f before count ms k h (inr u) =
      inr (u.0, u.1, units_follow w f before ms k h u.2, end_still_in w f before ms k (units_flip_none u.2) h u.3)

  pub are_units_to_end_follow : (w : World) (f : Following) (before : Option Move) (ms : List Move) → IsFollowable is_weak w f
      → AreLegalMoves w before ms → AreUnitsToEnd w ms → AreUnitsToEnd (followed w f) ms
  are_units_to_end_follow w f before ms k h u =
      ((u.0.0, units_follow w f before ms k h u.0.1), end_still_in w f before ms k (units_flip_none u.0.1) h u.1)

  -- a read barrier
  pub barrier_follows : (w : World) (f : Following) (before : Option Move) (s : Segment) (ms : List Move) → IsFollowable is_weak w f
      → AreLegalMoves w before ms → IsBarrier w s ms → IsBarrier (followed w f) s ms
  barrier_follows w f before s ms k h (inl is) =
      inl (scans_follow (IsScannedByBarrier s) (scanned_by_barrier s) w f before [] k
      (subst (λ all. AreLegalMoves w before all) (sym (append-nil ms)) h) is)
  barrier_follows w f before s ms k h (inr is) = inr is

  only_splats : (s : Segment) (ms : List Move) → list_all (splats_in s) ms ≡ true → none_flips ms ≡ true
  only_splats s [] h = refl
  only_splats s (m ∷ ms) h =
      let parts = and_parts (splats_in s m) (list_all (splats_in s) ms) h in
      and_from (not (is_flip m)) (none_flips ms) (of_move m parts.0) (only_splats s ms parts.1)
    where
      of_move : (n : Move) → splats_in s n ≡ true → not (is_flip n) ≡ true
      of_move (moves.Splat holder cell) e = refl
      of_move _ e = absurd (false≢true e)

  pub barrier_flips_none : (w : World) (s : Segment) (ms : List Move) → IsBarrier w s ms → none_flips ms ≡ true
  barrier_flips_none w s ms (inl is) = scan_flips_none is
  barrier_flips_none w s ms (inr is) = only_splats s ms is
