-- An object in which an area word lies at each flip of a legal step is left where it is by the step, and lives.
use Rattle.std.proofs.Common.{◌≡◌, inl, inr, ℕ, ◌+◌, Bool, true, false, refl, sym, ◌∙◌, ap, subst, List, [], ◌∷◌, Option, Some, None, Ok, Err}
use Rattle.std.proofs.lemmas.Bool.{true≢false, and_parts, cases_Bool, or_cases, or_left, or_right}
use Rattle.std.specs.Prelude.{not, ◌&&◌, ◌||◌, if◌then◌else◌, option_map}
use Rattle.std.specs.List.{list_all}
use Rattle.std.specs.Option.{option_map_or}
use Rattle.mps_base.specs.Address.{address_of_grain}
use Rattle.mps_base.specs.Placement.{Placement, Place, NewSegment, OverLimit, NoFreeRun}
use Rattle.mps_base.specs.Segment.{Segment, words_of_segment}
use Rattle.mps_base.specs.declared.moves.Move.{Move}
use Rattle.mps_base.specs.declared.moves.Move.TheVariants as moves
use Rattle.mps_model.proofs.Cutting.{world_after_moves-append}
use Rattle.mps_model.specs.declared.call.Call.{Call}
use Rattle.mps_model.specs.declared.call.Call.TheVariants as call
use Rattle.mps_model.specs.Answer.{Answer, is_accepted, is_block, is_refused}
use Rattle.mps_model.specs.Step.{Step}
use Rattle.mps_model.specs.Graph.{Cache, CacheClass, Point, Reservation, contains, entry_at, ids_of_client, is_automatic, object_at}
use Rattle.mps_model.specs.Collection.{Collection, is_condemned, is_settled, is_surely_kept}
use Rattle.mps_model.specs.World.{World, address_of, has_area_word, id_at, is_any_size_kind, is_copying_pool, is_empty_segment, object_is, pool_is, segment_of, with_tail}
use Rattle.mps_model.specs.Caches.{taken_from}
use Rattle.mps_model.specs.Checked.{Act, Checked, Numbered, as_point, cache_named, number_named, point_named, pool_named}
use Rattle.mps_model.specs.Collecting.{without_registration}
use Rattle.mps_model.specs.Placement.{ForAlloc, placement_of}
use Rattle.mps_model.specs.Effect.{Condemnation, after_flip, after_free, after_moved, after_post, after_splat, collection_at_flip, condemnation_of, giving_back, holding, placing, posting, reclaiming, registration_of, segment_base_of, segment_of_move, splatting, where_one, with_address, with_collection, without_object, world_after_move, world_after_moves, world_flipped}
use Rattle.mps_model.specs.Flip.{at_address}
use Rattle.mps_model.specs.LegalMove.{AreLegalMoves, IsLegalMove, IsLegalMoved, IsLegalSweep, first_move}
use Rattle.mps_model.specs.Policy.{units_asked}
use Rattle.mps_model.specs.Reply.{act, world_from}
use Rattle.mps_model.specs.History.{AreMovesOf, IsLegalStep, after_its_moves, alloc_at, asking, commit_of, free_at, free_of, free_of_object, give_back_empty, if_accepted, judged_world, moved_world, moves_if_not_taken, moves_of_alloc, moves_of_cache_alloc, moves_of_collector, moves_of_commit, moves_of_frees, moves_of_poll, own_segment, remembering, unless_refused, world_after}
use Rattle.mps_laws.proofs.Acts.{ForAct, accepted, refused}
use Rattle.mps_laws.proofs.Entries.{entry_at-append}
use Rattle.mps_laws.proofs.Finding.{for_both, id_at-found}
use Rattle.mps_laws.proofs.LeftByActs.{Leaves, IsCollectionLeft, act_leaves}
use Rattle.mps_laws.proofs.Lookups.{entry_at-set_other, entry_within}
use Rattle.mps_laws.proofs.OwnSegments.{own_segment_taken}
use Rattle.mps_laws.proofs.Positions.LegalMoves.{HasLayout, different}
use Rattle.mps_laws.proofs.Positions.Occupancy.{occupancy_of}
use Rattle.mps_laws.proofs.Positions.Places.{IsSettledIn, Passes, giving_back_passes, placing_passes, posting_passes, remembering_passes}
use Rattle.mps_laws.proofs.Replays.FreeSteps.{object_replayed}
use Rattle.mps_laws.proofs.Sound.SoundGraph.{All, auto, manual}
use Rattle.mps_laws.proofs.Frames.{frames_manual}
use Rattle.mps_client_laws.specs.Addresses.{frees_blocks}
use Rattle.mps_client_laws.proofs.Contained.{contains_filtered}
use Rattle.mps_client_laws.proofs.FreesOfCalls.{left_by_frees}
use Rattle.mps_client_laws.proofs.SegmentsFreed.{all_after}
use Rattle.mps_client_laws.proofs.SegmentsInUse.{never_both, same_auto}
use Rattle.mps_client_laws.proofs.SoundlyReached.{IsSoundlyReached}

-- ---- facts along moves

-- what holds before some moves, and after each of them
abbrev pub Along : (Holds : World → Type 0) → World → List Move → Type 0
Along Holds w [] = Holds w
Along Holds w (m ∷ ms) = Holds w × Along Holds (world_after_move w m) ms

last_along : (Holds : World → Type 0) (w : World) (ms : List Move) → Along Holds w ms → Holds (world_after_moves w ms)
last_along Holds w [] along = along
last_along Holds w (m ∷ ms) along = last_along Holds (world_after_move w m) ms along.1

pub both_along : (These Those All : World → Type 0) → ((w : World) → These w → Those w → All w) → (w : World) (ms : List Move)
    → Along These w ms → Along Those w ms → Along All w ms
both_along These Those All each w [] these those = each w these those
both_along These Those All each w (m ∷ ms) these those =
    (each w these.0 those.0, both_along These Those All each (world_after_move w m) ms these.1 those.1)

pub each_along : (These All : World → Type 0) → ((w : World) → These w → All w) → (w : World) (ms : List Move) → Along These w ms
    → Along All w ms
each_along These All each w [] these = each w these
each_along These All each w (m ∷ ms) these = (each w these.0, each_along These All each (world_after_move w m) ms these.1)

-- what each legal move keeps
pub kept_along : (Holds : World → Type 0)
    → ((w : World) (before : Option Move) (m : Move) (next : Option Move) → Holds w → IsLegalMove w before m next
    → Holds (world_after_move w m))
    → (w : World) (before : Option Move) (ms : List Move) → Holds w → AreLegalMoves w before ms → Along Holds w ms
kept_along Holds each w before [] holds legal = holds
kept_along Holds each w before (m ∷ ms) holds legal = (
  holds,
  kept_along Holds each (world_after_move w m) (Some m) ms (each w before m (first_move ms) holds legal.0) legal.1,
)

-- ---- what a running collection keeps

-- the running collection, if one runs, is known to keep an object
abbrev pub IsSparedIn : (id : ℕ) → Option Collection → Type 0
IsSparedIn id None = Unit {0}
IsSparedIn id (Some c) = is_surely_kept c id ≡ true

pub settled_is_spared : (id : ℕ) (o : Option Collection) → IsSettledIn id o → IsSparedIn id o
settled_is_spared id None settled = tt
settled_is_spared id (Some c) settled = or_right (not (is_condemned c id)) (is_settled c id) settled

spared_still : (id : ℕ) (change : Collection → Collection) → Passes id change → (o : Option Collection) → IsSparedIn id o
    → IsSparedIn id (option_map change o)
spared_still id change passes None spared = tt
spared_still id change passes (Some c) spared = elim (or_cases (not (is_condemned c id)) (is_settled c id) spared) [
  | inl free ↦
      or_left (not (is_condemned (change c) id)) (is_settled (change c) id) (ap (λ ids. not (contains ids id)) (passes.condemned c) ∙ free)
  | inr settled ↦ or_right (not (is_condemned (change c) id)) (is_settled (change c) id) (passes.settles c settled)
]

-- what is condemned and not settled is another object
is_another : (id other : ℕ) (c : Collection) → is_surely_kept c id ≡ true → is_condemned c other ≡ true
    → not (is_settled c other) ≡ true → other ≡ id → ⊥
is_another id other c spared condemned unsettled same =
    elim (or_cases (not (is_condemned c id)) (is_settled c id) spared) [
      | inl free ↦ true≢false (sym free ∙ ap not (ap (is_condemned c) (sym same) ∙ condemned))
      | inr settled ↦ true≢false (sym unsettled ∙ ap not (ap (is_settled c) same ∙ settled))
    ]

-- ---- an object that is pinned

module _ (id at : ℕ) where
  -- an area word lies in the object, if that is at its address
  abbrev pub IsPinnedIn : World → Type 0
  IsPinnedIn w = address_of w id ≡ Some at → has_area_word w id ≡ true

  -- it lies at its address, and the running collection keeps it
  pub record IsKeptIn (w : World) : Type 0 where
    pub there : address_of w id ≡ Some at
    pub spared : IsSparedIn id w.collection

  one_kept : (w : World) (found : Option ℕ) (change : ℕ → World) → ((other : ℕ) → IsKeptIn (change other)) → IsKeptIn w
      → IsKeptIn (where_one w found change)
  one_kept w None change each kept = kept
  one_kept w (Some other) change each kept = each other

  -- the running collection of a world changes
  passing_kept : (w : World) (change : Collection → Collection) → Passes id change → IsKeptIn w → IsKeptIn (with_collection w change)
  passing_kept w change passes kept =
      record { there = kept.there; spared = spared_still id change passes w.collection kept.spared }

  -- another object lies elsewhere, or nowhere
  other_kept : (w : World) (other : ℕ) (to : Option ℕ) → (other ≡ id → ⊥) → IsKeptIn w → IsKeptIn (with_address w other to)
  other_kept w other to differs kept =
      record { there = entry_at-set_other w.addresses other id to differs ∙ kept.there; spared = kept.spared }

  segment_kept : (w : World) (s : Segment) (b : Bool) → IsKeptIn w
      → IsKeptIn (if b then with_tail (holding w s) s.pool s.generation (words_of_segment s) else holding w s)
  segment_kept w s true kept = record { there = kept.there; spared = kept.spared }
  segment_kept w s false kept = record { there = kept.there; spared = kept.spared }

  -- an object is freed
  freed_kept : (w : World) (other from : ℕ) (b : Bool) → (other ≡ id → ⊥) → IsKeptIn w
      → IsKeptIn (if b then with_collection (without_object w other) (reclaiming (segment_base_of w from)) else without_object w other)
  freed_kept w other from true differs kept =
      let without = other_kept w other None differs kept in
      passing_kept (without_object w other) (reclaiming (segment_base_of w from))
      (record { settles = λ c e. e; condemned = λ c. refl }) (record { there = without.there; spared = without.spared })
  freed_kept w other from false differs kept =
      let without = other_kept w other None differs kept in record { there = without.there; spared = without.spared }

  -- a flip doesn't condemn the object, or pins it
  flip_kept : (w : World) (zones : ℕ) (what : Condemnation) → IsPinnedIn w → IsKeptIn w → IsKeptIn (after_flip w zones what)
  flip_kept w zones what pinned kept = record { there = kept.there; spared = spared }
    where
      flipped : World
      flipped = world_flipped w zones

      begun : Collection
      begun = collection_at_flip flipped what

      spared : is_surely_kept begun id ≡ true
      spared = elim (cases_Bool (contains begun.condemned id)) [
        | inl is ↦
            or_right (not (is_condemned begun id)) (is_settled begun id)
            (or_left (contains begun.pinned id) (contains begun.placed id || contains begun.had id)
            (contains_filtered (has_area_word flipped) begun.condemned id is (pinned kept.there)))
        | inr isnt ↦ or_left (not (is_condemned begun id)) (is_settled begun id) (ap not isnt)
      ]

  -- ---- moves of the collector

  kept_move : (w : World) (before : Option Move) (m : Move) (next : Option Move) → IsLegalMove w before m next → IsPinnedIn w
      → IsKeptIn w → IsKeptIn (world_after_move w m)
  kept_move w before (moves.Seg base grains pool generation) next legal pinned kept =
      let s = segment_of_move base.0 grains pool generation in segment_kept w s (is_copying_pool w s.pool) kept
  kept_move w before (moves.Unseg base) next legal pinned kept =
      record { there = kept.there; spared = spared_still id (giving_back base.0) (giving_back_passes id base.0) w.collection kept.spared }
  kept_move w before (moves.Flip zones chain generation) next legal pinned kept =
      flip_kept w zones.0 (condemnation_of chain generation) pinned kept
  kept_move w before moves.End next legal pinned kept = record { there = kept.there; spared = tt }
  kept_move w before (moves.Moved from to) next legal pinned kept =
      let b = for_both w.collection (id_at w from.0) (λ c other. IsLegalMoved w c other to.0) legal in
      let differs = is_another id b.second b.first (subst (IsSparedIn id) b.is_first kept.spared) b.holds.condemned b.holds.not_settled in
      let moved = passing_kept (with_address w b.second (Some to.0)) (placing b.second) (placing_passes id b.second)
      (other_kept w b.second (Some to.0) differs kept) in
      subst (λ o. IsKeptIn (where_one w o (λ other. after_moved w other to.0))) (sym b.is_second)
      (record { there = moved.there; spared = moved.spared })
  kept_move w before (moves.Stay from) next legal pinned kept =
      one_kept w (id_at w from.0) (λ other. with_collection w (placing other))
      (λ other. passing_kept w (placing other) (placing_passes id other) kept) kept
  kept_move w before (moves.Splat holder cell) next legal pinned kept =
      one_kept w (id_at w holder.0) (λ other. after_splat w other cell)
      (λ other. record {
        there = kept.there;
        spared = spared_still id splatting (record { settles = λ c e. e; condemned = λ c. refl }) w.collection kept.spared;
      }) kept
  kept_move w before (moves.Post from) next legal pinned kept =
      one_kept w (id_at w from.0) (after_post w)
      (λ other. record {
        there = kept.there;
        spared = spared_still id (posting other (registration_of w.graph other))
            (posting_passes id other (registration_of w.graph other)) w.collection kept.spared;
      }) kept
  kept_move w before (moves.Commit from words pool) next legal pinned kept = kept
  kept_move w before (moves.Alloc from words pool) next legal pinned kept = kept
  kept_move w before (moves.Free from) next legal pinned kept =
      let b = for_both w.collection (id_at w from.0) (IsLegalSweep w) legal in
      let gone = b.holds.gone in
      let differs = is_another id b.second b.first (subst (IsSparedIn id) b.is_first kept.spared) gone.condemned gone.not_settled in
      subst (λ o. IsKeptIn (where_one w o (λ other. after_free w other from.0))) (sym b.is_second)
      (freed_kept w b.second from.0 (object_is is_automatic w b.second) differs kept)

  -- it is kept all along
  pub still_along : (w : World) (before : Option Move) (ms : List Move) → AreLegalMoves w before ms → Along IsPinnedIn w ms → IsKeptIn w
      → Along IsKeptIn w ms
  still_along w before [] legal pinned kept = kept
  still_along w before (m ∷ ms) legal pinned kept = (
    kept,
    still_along (world_after_move w m) (Some m) ms legal.1 pinned.1 (kept_move w before m (first_move ms) legal.0 pinned.0 kept),
  )

  -- ---- moves of the client

  alloc_kept : (w : World) (pool words : ℕ) (q : Placement) → IsKeptIn w → IsKeptIn (world_after_moves w (alloc_at pool words q))
  alloc_kept w pool words (Place word) kept = kept
  alloc_kept w pool words (NewSegment grain grains) kept =
      let s = segment_of_move (address_of_grain grain) grains pool 0 in
      segment_kept w s (is_copying_pool w s.pool) kept
  alloc_kept w pool words (OverLimit committed need limit) kept = kept
  alloc_kept w pool words (NoFreeRun need longest) kept = kept

  unless_kept : (w : World) (answer : Answer) (ms : List Move) → IsKeptIn w → IsKeptIn (world_after_moves w ms)
      → IsKeptIn (world_after_moves w (unless_refused answer ms))
  unless_kept w answer ms before after = by_case (is_refused answer)
    where
      by_case : (b : Bool) → IsKeptIn (world_after_moves w (if b then [] else ms))
      by_case true = before
      by_case false = after

  commit_kept : (w : World) (answer : Answer) (x : Checked (Numbered Point)) → IsKeptIn w
      → IsKeptIn (world_after_moves w (if_accepted answer (moves_of_commit w x)))
  commit_kept w answer x kept = by_case (is_accepted answer) x
    where
      of_reservation : (p : Numbered Point) (o : Option Reservation) → IsKeptIn (world_after_moves w (commit_of w p o))
      of_reservation p None = kept
      of_reservation p (Some r) = kept

      by_case : (b : Bool) (x : Checked (Numbered Point)) → IsKeptIn (world_after_moves w (if b then moves_of_commit w x else []))
      by_case false x = kept
      by_case true (Err why) = kept
      by_case true (Ok p) = of_reservation p p.value.reservation

  named_alloc_kept : {A : Type 0} (w : World) (x : Checked (Numbered A)) (words : ℕ) → IsKeptIn w
      → IsKeptIn (world_after_moves w (moves_of_alloc w x words))
  named_alloc_kept w (Ok p) words kept = alloc_kept w p.number words (placement_of w (ForAlloc p.number words)) kept
  named_alloc_kept w (Err why) words kept = kept

  cache_alloc_kept : (w : World) (x : Checked (Numbered Cache)) (words : ℕ) → IsKeptIn w
      → IsKeptIn (world_after_moves w (moves_of_cache_alloc w x words))
  cache_alloc_kept w (Err why) words kept = kept
  cache_alloc_kept w (Ok q) words kept = of_taken (taken_from q.value.classes words)
    where
      of_taken : (o : Option (ℕ × List CacheClass)) → IsKeptIn (world_after_moves w (moves_if_not_taken w q.value.pool words o))
      of_taken (Some taken) = kept
      of_taken None = alloc_kept w q.value.pool words (placement_of w (ForAlloc q.value.pool words)) kept

  -- a manual block is freed, which is another one than an automatic object
  object_kept : (limit : ℕ) (w : World) → HasLayout limit w → auto w id ≡ true → (other : ℕ) → manual w other ≡ true → IsKeptIn w
      → IsKeptIn (world_after_moves w (free_of_object w other))
  object_kept limit w laid automatic other is kept = of_address (address_of w other) refl
    where
      differs : other ≡ id → ⊥
      differs same = never_both (object_at w.graph id) automatic (ap (manual w) (sym same) ∙ is)

      back_kept : (v : World) → IsKeptIn v → (o : Option Segment) → IsKeptIn (world_after_moves v (give_back_empty v o))
      back_kept v kept None = kept
      back_kept v kept (Some s) = by_case (pool_is is_any_size_kind v s.pool && is_empty_segment v s)
        where
          by_case : (b : Bool) → IsKeptIn (world_after_moves v (if b then moves.Unseg (at_address s.base) ∷ [] else []))
          by_case true = record {
            there = kept.there;
            spared = spared_still id (giving_back s.base) (giving_back_passes id s.base) v.collection kept.spared;
          }
          by_case false = kept

      of_found : (from : ℕ) → address_of w other ≡ Some from → (o : Option ℕ) → id_at w from ≡ o
          → IsKeptIn (where_one w o (λ n. after_free w n from))
      of_found from lies None found = kept
      of_found from lies (Some n) found =
          let same : other ≡ n = different limit (occupancy_of w) laid other n from lies (id_at-found w from n found) in
          freed_kept w n from (object_is is_automatic w n) (λ e. differs (same ∙ e)) kept

      of_address : (o : Option ℕ) → address_of w other ≡ o
          → IsKeptIn (world_after_moves w (option_map_or (free_of w) o []))
      of_address None lies = kept
      of_address (Some from) lies =
          back_kept (world_after_moves w (free_at from)) (of_found from lies (id_at w from) refl) (segment_of w from)

  auto_after : (w : World) (ms : List Move) → auto w id ≡ true → auto (world_after_moves w ms) id ≡ true
  auto_after w [] automatic = automatic
  auto_after w (m ∷ ms) automatic = auto_after (world_after_move w m) ms (same_auto w m id ∙ automatic)

  frees_kept : (limit : ℕ) (w : World) → HasLayout limit w → auto w id ≡ true → (others : List ℕ) → All (manual w) others → IsKeptIn w
      → IsKeptIn (world_after_moves w (moves_of_frees w others))
  frees_kept limit w laid automatic [] all kept = kept
  frees_kept limit w laid automatic (other ∷ others) all kept =
      let parts = and_parts (manual w other) (list_all (manual w) others) all in
      let ms = free_of_object w other in
      let v = world_after_moves w ms in
      subst IsKeptIn (sym (world_after_moves-append w ms (moves_of_frees v others)))
      (frees_kept limit v (object_replayed limit 0 w laid other).layout (auto_after w ms automatic) others (all_after w ms others parts.1)
      (object_kept limit w laid automatic other parts.0 kept))

  -- ---- steps

  asked_kept : (units : Option ℕ) (w : World) → IsKeptIn w → IsKeptIn (asking units w)
  asked_kept None w kept = kept
  asked_kept (Some units) w kept =
      passing_kept w (λ c. record c { spent = c.spent + units }) (record { settles = λ c e. e; condemned = λ c. refl }) kept

  module _ (w : World) (reached : IsSoundlyReached w) (automatic : auto w id ≡ true) (kept : IsKeptIn w) where
    freed_by_call : (c : Call) (ms : List Move) (answer : Answer) → frees_blocks c ≡ true → AreMovesOf w c answer ms
        → IsKeptIn (world_after_moves w ms)
    freed_by_call c ms answer frees due =
        left_by_frees w reached.sound (λ ms. IsKeptIn (world_after_moves w ms)) kept
        (λ other is. object_kept reached.limit w reached.layout automatic other is kept)
        (λ others all. frees_kept reached.limit w reached.layout automatic others all kept) c ms answer frees reached.blocks
        (frames_manual w reached.sound reached.framed) due

    after_moves_kept : (c : Call) (ms : List Move) (answer : Answer) → AreLegalMoves w None (moves_of_collector c ms)
        → AreMovesOf w c answer ms → Along IsPinnedIn w (moves_of_collector c ms) → IsKeptIn (after_its_moves w c ms)
    after_moves_kept (call.Reserve point head) ms answer legal due pinned =
        let polled = moves_of_poll ms in
        let after = last_along IsKeptIn w polled (still_along w None polled legal pinned kept) in
        own_segment_taken IsKeptIn (world_after_moves w polled) after (λ s. record { there = after.there; spared = after.spared })
        (λ s n r. record { there = after.there; spared = after.spared }) (own_segment ms) (number_named w point as_point)
    after_moves_kept (call.Commit point target) ms answer legal due pinned =
        subst (λ ns. IsKeptIn (world_after_moves w ns)) (sym due) (commit_kept w answer (point_named w point) kept)
    after_moves_kept (call.Alloc pool words place) ms answer legal due pinned =
        subst (λ ns. IsKeptIn (world_after_moves w ns)) (sym due)
        (unless_kept w answer (moves_of_alloc w (pool_named w pool) words) kept (named_alloc_kept w (pool_named w pool) words kept))
    after_moves_kept (call.CacheAlloc cache words place) ms answer legal due pinned =
        subst (λ ns. IsKeptIn (world_after_moves w ns)) (sym due)
        (unless_kept w answer (moves_of_cache_alloc w (cache_named w cache) words) kept
        (cache_alloc_kept w (cache_named w cache) words kept))
    after_moves_kept (call.Free place) ms answer legal due pinned = freed_by_call (call.Free place) ms answer refl due
    after_moves_kept (call.CacheFree cache place) ms answer legal due pinned =
        freed_by_call (call.CacheFree cache place) ms answer refl due
    after_moves_kept (call.CacheFlush cache) ms answer legal due pinned = freed_by_call (call.CacheFlush cache) ms answer refl due
    after_moves_kept (call.Pop pool frame) ms answer legal due pinned = freed_by_call (call.Pop pool frame) ms answer refl due
    after_moves_kept _ ms answer legal due pinned = last_along IsKeptIn w ms (still_along w None ms legal pinned kept)

    act_kept : (c : Call) (v : World) (result : Checked Act) → ForAct (Leaves c v) result → IsKeptIn v → IsKeptIn (world_from v result)
    act_kept c v (Err why) refused kept = kept
    act_kept c v (Ok a) (accepted leaves) kept = record {
      there = ap (λ xs. entry_at xs id) leaves.addresses.1
          ∙ entry_at-append v.addresses leaves.addresses.0 id (entry_within v.addresses id at kept.there) ∙ kept.there;
      spared = of_left leaves.collection;
    }
      where
        of_left : IsCollectionLeft v.collection a.world.collection → IsSparedIn id a.world.collection
        of_left (inl same) = subst (IsSparedIn id) (sym same) kept.spared
        of_left (inr (position, less)) =
            subst (IsSparedIn id) (sym less)
            (spared_still id (without_registration position) (record { settles = λ c e. e; condemned = λ c. refl }) v.collection
            kept.spared)

    pub kept_after_step : (s : Step) → IsLegalStep w s → Along IsPinnedIn w (moves_of_collector s.call s.moves)
        → IsKeptIn (world_after w s)
    kept_after_step s legal pinned =
        let moved = moved_world w s.call s.moves in
        let judged = judged_world w s.call s.moves in
        let result = act (is_block s.answer) judged moved s.call in
        let left = world_from moved result in
        let held = ids_of_client left.graph in
        passing_kept left (remembering held) (remembering_passes id held)
        (act_kept s.call moved result (act_leaves (is_block s.answer) judged moved s.call)
        (asked_kept (units_asked w s.call) (after_its_moves w s.call s.moves)
        (after_moves_kept s.call s.moves s.answer legal.moves_are_legal legal.moves_are_due pinned)))
