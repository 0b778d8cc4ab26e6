-- A live manual block stays where it lies over legal steps, but for those of the calls that free such blocks: a collection moves and frees
-- what it condemned, which is automatic.
use Rattle.std.proofs.Common.{◌≡◌, inl, inr, ℕ, Bool, true, false, refl, sym, ◌∙◌, ap, subst, List, [], ◌∷◌, ◌++◌, length, Option, Some, None, Ok, Err}
use Rattle.std.proofs.lemmas.Bool.{true≢false, false≢true, and_parts, and_from, cases_Bool, eqb-true}
use Rattle.std.proofs.lemmas.Option.{none-some, same_Some}
use Rattle.std.specs.Prelude.{not, ◌==◌, filter, if◌then◌else◌, option_map}
use Rattle.std.specs.List.{list_all}
use Rattle.std.specs.Option.{option_map_or}
use Rattle.mps_base.specs.Placement.{Placement, Place, NewSegment, OverLimit, NoFreeRun}
use Rattle.mps_base.specs.Segment.{Segment, words_of_segment}
use Rattle.mps_base.specs.declared.moves.Move.{Move}
use Rattle.mps_base.specs.declared.moves.Move.TheVariants as moves
use Rattle.mps_model.proofs.Appending.{world_after_steps-append, IsLegalFrom-later}
use Rattle.mps_model.specs.declared.call.Call.{Call}
use Rattle.mps_model.specs.declared.call.Call.TheVariants as call
use Rattle.mps_model.specs.Answer.{Answer, is_accepted, is_refused}
use Rattle.mps_model.specs.Step.{Step, History}
use Rattle.mps_model.specs.Graph.{Cache, CacheClass, Object, Point, Reservation, is_automatic, object_at}
use Rattle.mps_model.specs.Collection.{Collection, is_condemned}
use Rattle.mps_model.specs.World.{World, Pool, address_of, empty_world_of, id_at, is_copying_pool, with_tail}
use Rattle.mps_model.specs.Checked.{Checked, Numbered, cache_named, point_named, pool_named}
use Rattle.mps_model.specs.Caches.{taken_from}
use Rattle.mps_model.specs.Placement.{ForAlloc, placement_of}
use Rattle.mps_model.specs.Effect.{holding, segment_of_move, world_after_move, world_after_moves}
use Rattle.mps_model.specs.LegalMove.{AreLegalMoves, IsLegalMove, IsLegalMoved, IsLegalSweep, first_move}
use Rattle.mps_model.specs.History.{AreMovesOf, IsLegalFrom, IsLegalStep, alloc_at, commit_of, is_segment_taken, last_move, moves_if_not_taken, moves_of_alloc, moves_of_cache_alloc, moves_of_collector, moves_of_commit, moves_of_poll, own_segment, world_after, world_after_steps}
use Rattle.mps_laws.specs.Replay.{reached}
use Rattle.mps_laws.proofs.Finding.{for_both}
use Rattle.mps_laws.proofs.LegalHistories.{IsLegalFrom-first}
use Rattle.mps_laws.proofs.Replays.ReserveSteps.{poll_then_own}
use Rattle.mps_laws.proofs.RunningCollection.{OfRunning, RunsWithin, running_after, running_in_steps}
use Rattle.mps_laws.proofs.Sound.SoundGraph.{all-contains, auto, manual}
use Rattle.mps_client_laws.specs.Objects.{Identity, identity_of, is_this}
use Rattle.mps_client_laws.specs.Addresses.{ManualBlocksStay, free_no_blocks, frees_blocks, frees_object, moves_object, none_of_moves}
use Rattle.mps_client_laws.proofs.Addresses.{addresses_stay}
use Rattle.mps_client_laws.proofs.Objects.{identity_after_step}
use Rattle.mps_client_laws.proofs.SegmentsInUse.{never_both, same_manual}

-- ---- moves that move and free nothing

abbrev is_aside_move : Move → Bool
is_aside_move (moves.Moved from to) = false
is_aside_move (moves.Free at) = false
is_aside_move _ = true

taken_is_aside : (m : Move) → is_segment_taken m ≡ true → is_aside_move m ≡ true
taken_is_aside (moves.Seg base grains pool generation) taken = refl
taken_is_aside (moves.Moved from to) taken = absurd (false≢true taken)
taken_is_aside (moves.Free at) taken = absurd (false≢true taken)
taken_is_aside _ taken = refl

taken_are_aside : (ms : List Move) → list_all is_aside_move (filter is_segment_taken ms) ≡ true
taken_are_aside [] = refl
taken_are_aside (m ∷ ms) =
    let rest = taken_are_aside ms in
    elim (is_segment_taken m) as (λ b. is_segment_taken m ≡ b
    → list_all is_aside_move (if b then m ∷ filter is_segment_taken ms else filter is_segment_taken ms) ≡ true) [
      | true ↦ (λ taken. and_from (is_aside_move m) (list_all is_aside_move (filter is_segment_taken ms)) (taken_is_aside m taken) rest)
      | false ↦ (λ taken. rest)
    ] refl

alloc_is_aside : (pool words : ℕ) (p : Placement) → list_all is_aside_move (alloc_at pool words p) ≡ true
alloc_is_aside pool words (NewSegment grain grains) = refl
alloc_is_aside pool words (Place word) = refl
alloc_is_aside pool words (OverLimit held need limit) = refl
alloc_is_aside pool words (NoFreeRun need longest) = refl

named_alloc_is_aside : (w : World) (x : Checked (Numbered Pool)) (words : ℕ) → list_all is_aside_move (moves_of_alloc w x words) ≡ true
named_alloc_is_aside w (Err why) words = refl
named_alloc_is_aside w (Ok p) words = alloc_is_aside p.number words (placement_of w (ForAlloc p.number words))

taken_or_made : (w : World) (pool words : ℕ) (o : Option (ℕ × List CacheClass))
    → list_all is_aside_move (moves_if_not_taken w pool words o) ≡ true
taken_or_made w pool words (Some taken) = refl
taken_or_made w pool words None = alloc_is_aside pool words (placement_of w (ForAlloc pool words))

cache_alloc_is_aside : (w : World) (x : Checked (Numbered Cache)) (words : ℕ)
    → list_all is_aside_move (moves_of_cache_alloc w x words) ≡ true
cache_alloc_is_aside w (Err why) words = refl
cache_alloc_is_aside w (Ok q) words = taken_or_made w q.value.pool words (taken_from q.value.classes words)

committing_is_aside : (w : World) (p : Numbered Point) (o : Option Reservation) → list_all is_aside_move (commit_of w p o) ≡ true
committing_is_aside w p None = refl
committing_is_aside w p (Some r) = refl

commit_is_aside : (w : World) (x : Checked (Numbered Point)) → list_all is_aside_move (moves_of_commit w x) ≡ true
commit_is_aside w (Err why) = refl
commit_is_aside w (Ok p) = committing_is_aside w p p.value.reservation

if_aside : (b : Bool) (ms : List Move) → list_all is_aside_move ms ≡ true → list_all is_aside_move (if b then ms else []) ≡ true
if_aside true ms aside = aside
if_aside false ms aside = refl

unless_aside : (b : Bool) (ms : List Move) → list_all is_aside_move ms ≡ true → list_all is_aside_move (if b then [] else ms) ≡ true
unless_aside true ms aside = refl
unless_aside false ms aside = aside

-- ---- moves that leave one object

module _ (id : ℕ) where
  record IsLeftBy (w : World) (ms : List Move) : Type 0 where
    unmoved : none_of_moves (λ v m. moves_object v m id) w ms ≡ true
    unfreed : none_of_moves (λ v m. frees_object v m id) w ms ≡ true

  -- a move leaves it
  abbrev IsLeft : World → Move → Type 0
  IsLeft w m = (moves_object w m id ≡ false) × (frees_object w m id ≡ false)

  and_later : (w : World) (m : Move) (ms : List Move) → IsLeft w m → IsLeftBy (world_after_move w m) ms → IsLeftBy w (m ∷ ms)
  and_later w m ms one rest = record {
    unmoved = and_from (not (moves_object w m id)) (none_of_moves (λ v n. moves_object v n id) (world_after_move w m) ms) (ap not one.0)
        rest.unmoved;
    unfreed = and_from (not (frees_object w m id)) (none_of_moves (λ v n. frees_object v n id) (world_after_move w m) ms) (ap not one.1)
        rest.unfreed;
  }

  aside_leaves : (w : World) (m : Move) → is_aside_move m ≡ true → IsLeft w m
  aside_leaves w (moves.Moved from to) aside = absurd (false≢true aside)
  aside_leaves w (moves.Free at) aside = absurd (false≢true aside)
  aside_leaves w _ aside = (refl, refl)

  aside_leave : (w : World) (ms : List Move) → list_all is_aside_move ms ≡ true → IsLeftBy w ms
  aside_leave w [] aside = record { unmoved = refl; unfreed = refl }
  aside_leave w (m ∷ ms) aside =
      let parts = and_parts (is_aside_move m) (list_all is_aside_move ms) aside in
      and_later w m ms (aside_leaves w m parts.0) (aside_leave (world_after_move w m) ms parts.1)

  both_leave : (w : World) (ms ns : List Move) → IsLeftBy w ms → IsLeftBy (world_after_moves w ms) ns → IsLeftBy w (ms ++ ns)
  both_leave w [] ns first second = second
  both_leave w (m ∷ ms) ns first second =
      let moved = and_parts (not (moves_object w m id)) (none_of_moves (λ v n. moves_object v n id) (world_after_move w m) ms)
      first.unmoved in
      let freed = and_parts (not (frees_object w m id)) (none_of_moves (λ v n. frees_object v n id) (world_after_move w m) ms)
      first.unfreed in
      let rest = both_leave (world_after_move w m) ms ns (record { unmoved = moved.1; unfreed = freed.1 }) second in
      and_later w m (ms ++ ns) (not_true (moves_object w m id) moved.0, not_true (frees_object w m id) freed.0) rest
    where
      not_true : (b : Bool) → not b ≡ true → b ≡ false
      not_true true h = absurd (false≢true h)
      not_true false h = refl

  -- ---- a manual block

  another : (w : World) (n : ℕ) → manual w id ≡ true → auto w n ≡ true → is_this id (Some n) ≡ false
  another w n is automatic = elim (cases_Bool (n == id)) [
    | inl same ↦ absurd (never_both (object_at w.graph n) automatic (ap (manual w) (eqb-true n id same) ∙ is))
    | inr differs ↦ differs
  ]

  condemned_is_another : (w : World) (c : Collection) (n : ℕ) → RunsWithin w → w.collection ≡ Some c → is_condemned c n ≡ true
      → manual w id ≡ true → is_this id (Some n) ≡ false
  condemned_is_another w c n within runs condemned is =
      another w n is (all-contains (auto w) c.condemned n
      (subst (OfRunning w.graph.objects (length w.graph.registered)) runs within).condemned condemned)

  legal_leaves : (w : World) (before : Option Move) (m : Move) (next : Option Move) → RunsWithin w → manual w id ≡ true
      → IsLegalMove w before m next → IsLeft w m
  legal_leaves w before (moves.Moved from to) next within is legal =
      let b = for_both w.collection (id_at w from.0) (λ c n. IsLegalMoved w c n to.0) legal in
      (ap (is_this id) b.is_second ∙ condemned_is_another w b.first b.second within b.is_first b.holds.condemned is, refl)
  legal_leaves w before (moves.Free at) next within is legal =
      let b = for_both w.collection (id_at w at.0) (IsLegalSweep w) legal in
      (refl, ap (is_this id) b.is_second ∙ condemned_is_another w b.first b.second within b.is_first b.holds.gone.condemned is)
  legal_leaves w before _ next within is legal = (refl, refl)

  segment_within : (w : World) (s : Segment) (b : Bool) → RunsWithin w
      → RunsWithin (if b then with_tail (holding w s) s.pool s.generation (words_of_segment s) else holding w s)
  segment_within w s true within = within
  segment_within w s false within = within

  within_after : (w : World) (before : Option Move) (m : Move) (next : Option Move) → IsLegalMove w before m next → RunsWithin w
      → RunsWithin (world_after_move w m)
  within_after w before (moves.Seg base grains pool generation) next legal within =
      segment_within w (segment_of_move base.0 grains pool generation) (is_copying_pool w pool) within
  within_after w before (moves.Commit at words pool) next legal within = within
  within_after w before (moves.Alloc at words pool) next legal within = within
  within_after w before (moves.Unseg base) next legal within = running_in_steps w before (moves.Unseg base ∷ []) (legal, tt) within
  within_after w before (moves.Flip zones chain generation) next legal within =
      running_in_steps w before (moves.Flip zones chain generation ∷ []) (legal, tt) within
  within_after w before moves.End next legal within = running_in_steps w before (moves.End ∷ []) (legal, tt) within
  within_after w before (moves.Moved from to) next legal within = running_in_steps w before (moves.Moved from to ∷ []) (legal, tt) within
  within_after w before (moves.Stay at) next legal within = running_in_steps w before (moves.Stay at ∷ []) (legal, tt) within
  within_after w before (moves.Splat holder cell) next legal within =
      running_in_steps w before (moves.Splat holder cell ∷ []) (legal, tt) within
  within_after w before (moves.Post at) next legal within = running_in_steps w before (moves.Post at ∷ []) (legal, tt) within
  within_after w before (moves.Free at) next legal within = running_in_steps w before (moves.Free at ∷ []) (legal, tt) within

  legal_leave : (w : World) (before : Option Move) (ms : List Move) → RunsWithin w → manual w id ≡ true → AreLegalMoves w before ms
      → IsLeftBy w ms
  legal_leave w before [] within is legal = record { unmoved = refl; unfreed = refl }
  legal_leave w before (m ∷ ms) within is legal =
      and_later w m ms (legal_leaves w before m (first_move ms) within is legal.0)
      (legal_leave (world_after_move w m) (Some m) ms (within_after w before m (first_move ms) legal.0 within) (same_manual w m id ∙ is)
      legal.1)

  -- ---- steps

  module _ (w : World) (within : RunsWithin w) (is : manual w id ≡ true) where
    call_leaves : (c : Call) (ms : List Move) (answer : Answer) → frees_blocks c ≡ false → AreLegalMoves w None (moves_of_collector c ms)
        → AreMovesOf w c answer ms → IsLeftBy w ms
    call_leaves (call.Reserve point head) ms answer plain legal due =
        subst (IsLeftBy w) (poll_then_own ms)
        (both_leave w (moves_of_poll ms) (own_segment ms) (legal_leave w None (moves_of_poll ms) within is legal)
        (aside_leave (world_after_moves w (moves_of_poll ms)) (own_segment ms) (taken_are_aside (last_move ms))))
    call_leaves (call.Commit point target) ms answer plain legal due =
        aside_leave w ms (ap (list_all is_aside_move) due
        ∙ if_aside (is_accepted answer) (moves_of_commit w (point_named w point)) (commit_is_aside w (point_named w point)))
    call_leaves (call.Alloc pool words place) ms answer plain legal due =
        aside_leave w ms (ap (list_all is_aside_move) due
        ∙ unless_aside (is_refused answer) (moves_of_alloc w (pool_named w pool) words) (named_alloc_is_aside w (pool_named w pool) words))
    call_leaves (call.CacheAlloc cache words place) ms answer plain legal due =
        aside_leave w ms (ap (list_all is_aside_move) due
        ∙ unless_aside (is_refused answer) (moves_of_cache_alloc w (cache_named w cache) words)
        (cache_alloc_is_aside w (cache_named w cache) words))
    call_leaves (call.Free place) ms answer plain legal due = absurd (true≢false plain)
    call_leaves (call.CacheFree cache place) ms answer plain legal due = absurd (true≢false plain)
    call_leaves (call.CacheFlush cache) ms answer plain legal due = absurd (true≢false plain)
    call_leaves (call.Pop pool frame) ms answer plain legal due = absurd (true≢false plain)
    call_leaves _ ms answer plain legal due = legal_leave w None ms within is legal

    stays_after : (s : Step) (at : ℕ) → frees_blocks s.call ≡ false → IsLegalStep w s → address_of w id ≡ Some at
        → address_of (world_after w s) id ≡ Some at
    stays_after s at plain legal there =
        let left = call_leaves s.call s.moves s.answer plain legal.moves_are_legal legal.moves_are_due in
        addresses_stay w (s ∷ []) id at
        (and_from (none_of_moves (λ v m. moves_object v m id) w s.moves) true left.unmoved refl)
        (and_from (none_of_moves (λ v m. frees_object v m id) w s.moves) true left.unfreed refl) there

    manual_after : (s : Step) → manual (world_after w s) id ≡ true
    manual_after s = of_object (object_at w.graph id) refl is
      where
        of_after : (o : Object) (x : Option Object) → option_map identity_of x ≡ Some (identity_of o) → not (is_automatic o) ≡ true
            → object_at (world_after w s).graph id ≡ x → manual (world_after w s) id ≡ true
        of_after o None same it there = absurd (none-some (identity_of o) same)
        of_after o (Some x) same it there =
            ap (λ y. option_map_or (λ (z : Object). not (is_automatic z)) y false) there
            ∙ ap (λ (i : Identity). not i.is_automatic) (same_Some (identity_of x) (identity_of o) same) ∙ it

        of_object : (o : Option Object) → object_at w.graph id ≡ o
            → option_map_or (λ (z : Object). not (is_automatic z)) o false ≡ true
            → manual (world_after w s) id ≡ true
        of_object None there it = absurd (false≢true it)
        of_object (Some o) there it =
            of_after o (object_at (world_after w s).graph id)
            (identity_after_step w s id (identity_of o) (ap (option_map identity_of) there)) it refl

  steps_stay : (w : World) (ss : History) (at : ℕ) → RunsWithin w → manual w id ≡ true → free_no_blocks ss ≡ true → IsLegalFrom w ss
      → address_of w id ≡ Some at → address_of (world_after_steps w ss) id ≡ Some at
  steps_stay w [] at within is plain legal there = there
  steps_stay w (s ∷ ss) at within is plain legal there =
      let parts = and_parts (not (frees_blocks s.call)) (free_no_blocks ss) plain in
      steps_stay (world_after w s) ss at (running_after w s within legal.0) (manual_after w within is s) parts.1 legal.1
      (stays_after w within is s at (not_true (frees_blocks s.call) parts.0) legal.0 there)
    where
      not_true : (b : Bool) → not b ≡ true → b ≡ false
      not_true true h = absurd (false≢true h)
      not_true false h = refl

-- ---- the law

runs_from : (w : World) (ss : History) → RunsWithin w → IsLegalFrom w ss → RunsWithin (world_after_steps w ss)
runs_from w [] within legal = within
runs_from w (s ∷ ss) within legal = runs_from (world_after w s) ss (running_after w s within legal.0) legal.1

pub manual_blocks_stay : ManualBlocksStay
manual_blocks_stay formats steps between later id at legal is plain there =
    let w = reached formats steps in
    let both = IsLegalFrom-first (empty_world_of formats) (steps ++ between) later legal in
    let within = runs_from (empty_world_of formats) steps tt (IsLegalFrom-first (empty_world_of formats) steps between both) in
    subst (λ (v : World). address_of v id ≡ Some at) (sym (world_after_steps-append (empty_world_of formats) steps between))
    (steps_stay id w between at within is plain (IsLegalFrom-later (empty_world_of formats) steps between both) there)
