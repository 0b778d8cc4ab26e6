-- Where an object is: what each part of a step leaves of its address, where the running collection may not move it.
use Rattle.std.proofs.Common.{◌≡◌, ◌⊎◌, inl, inr, ℕ, zero, suc, ◌+◌, ◌-◌, ◌<◌, Bool, true, false, true≢false, refl, sym, ◌∙◌, ap, subst, List, [], ◌∷◌, ◌++◌, take, length, length-append, map, Option, Some, None, Ok, Err, arith}
use Rattle.std.proofs.lemmas.Bool.{or_parts}
use Rattle.std.proofs.lemmas.Option.{none-some, same_Some, slice_get-map}
use Rattle.std.specs.Prelude.{IsTrue, not, ◌||◌, ◌==◌, if◌then◌else◌, slice_get, slice_set, option_map}
use Rattle.std.specs.List.{list_any}
use Rattle.std.specs.Option.{option_map_or}
use Rattle.mps_base.specs.Segment.{Segment, words_of_segment, without_segment}
use Rattle.mps_base.specs.declared.moves.Move.{Move}
use Rattle.mps_base.specs.declared.moves.Move.TheVariants as moves
use Rattle.mps_model.specs.declared.call.Call.{Call}
use Rattle.mps_model.specs.declared.call.Call.TheVariants as call
use Rattle.mps_model.specs.Answer.{Answer, is_block}
use Rattle.mps_model.specs.Graph.{contains, without_first, Object, entry_at, is_automatic, ids_of_client}
use Rattle.mps_model.specs.Collection.{Collection, is_condemned, is_settled}
use Rattle.mps_model.specs.World.{World, Pool, id_at, is_copying_kind, is_copying_object, is_copying_pool, object_is, with_tail}
use Rattle.mps_model.specs.Checked.{Act, Checked, point_named, pool_named, cache_named, block_place_in, number_named, as_point}
use Rattle.mps_model.specs.Collecting.{without_registration}
use Rattle.mps_model.specs.Effect.{where_one, world_after_move, world_after_moves, after_moved, holding, segment_of_move, with_address, with_collection, placing, after_splat, graph_posted, splatting, reclaiming, giving_back, posting, registration_of, segment_base_of, graph_splatted, without_object}
use Rattle.mps_model.specs.LegalMove.{ForOne, IsLegalMoved, AreLegalMoves}
use Rattle.mps_model.specs.Policy.{units_asked}
use Rattle.mps_model.specs.Reply.{act, world_from}
use Rattle.mps_model.specs.Frames.{frames_named}
use Rattle.mps_model.specs.History.{IsLegalStep, AreMovesOf, after_its_moves, after_own_segment, asking, moved_world, moves_of_collector, moves_of_poll, own_segment, remembering, with_client_remembered, with_segment_for_point, with_buffer, rank_of_point, world_after, judged_world}
use Rattle.mps_model.specs.Step.{Step}
use Rattle.mps_laws.specs.Staying.{is_flip}
use Rattle.mps_laws.proofs.Lookups.{entry_at-set_other, length-slice_set}
use Rattle.mps_laws.proofs.Entries.{GoesOn, slice_get-there, entry_at-append}
use Rattle.mps_laws.proofs.Acts.{ForAct, accepted, refused}
use Rattle.mps_laws.proofs.LeftByActs.{Leaves, IsCollectionLeft, owners, owners-splatted, act_leaves}
use Rattle.mps_laws.proofs.Positions.OwnMoves.{IsMovedLegally, AreMovedLegally, all_moved_legally, is_moving, none_moved, commit_moves_none, alloc_moves_none, free_moves_none, cache_alloc_moves_none, cache_free_moves_none, cache_flush_moves_none, pop_moves_none}

-- ---- what keeps a running collection from moving an object

-- the object is of a pool whose blocks don't move, by the numbers of the objects' pools
pub record IsOfStillPool (owned : List ℕ) (pools : List Pool) (id : ℕ) : Type 0 where
  pub number : ℕ
  pub pool : Pool
  pub owned_by : slice_get owned id ≡ Some number
  pub there : slice_get pools number ≡ Some pool
  pub still : is_copying_kind pool.kind ≡ false

-- a collection may not move an object: it has settled it, it didn't condemn it, or the object is of a pool whose blocks don't move
pub data IsUnmovable (owned : List ℕ) (pools : List Pool) (id : ℕ) (c : Collection) : Type 0 where
  settled : is_settled c id ≡ true → IsUnmovable owned pools id c
  not_condemned : is_condemned c id ≡ false → IsUnmovable owned pools id c
  still : IsOfStillPool owned pools id → IsUnmovable owned pools id c

-- the same of the running collection, if one runs
abbrev pub IsUnmovableIn : (owned : List ℕ) (pools : List Pool) (id : ℕ) → Option Collection → Type 0
IsUnmovableIn owned pools id None = Unit {0}
IsUnmovableIn owned pools id (Some c) = IsUnmovable owned pools id c

-- the running collection, if one runs, has settled an object
abbrev pub IsSettledIn : (id : ℕ) → Option Collection → Type 0
IsSettledIn id None = Unit {0}
IsSettledIn id (Some c) = IsTrue (is_settled c id)

pub settled_is_unmovable : (owned : List ℕ) (pools : List Pool) (id : ℕ) (o : Option Collection) → IsSettledIn id o
    → IsUnmovableIn owned pools id o
settled_is_unmovable owned pools id None s = tt
settled_is_unmovable owned pools id (Some c) s = settled s

-- a change of a collection that unsettles nothing and condemns nothing
pub record Passes (id : ℕ) (change : Collection → Collection) : Type 0 where
  pub settles : (c : Collection) → is_settled c id ≡ true → is_settled (change c) id ≡ true
  pub condemned : (c : Collection) → (change c).condemned ≡ c.condemned

pub unmovable-map : (owned : List ℕ) (pools : List Pool) (id : ℕ) (change : Collection → Collection) → Passes id change
    → (o : Option Collection) → IsUnmovableIn owned pools id o → IsUnmovableIn owned pools id (option_map change o)
unmovable-map owned pools id change passes None u = tt
unmovable-map owned pools id change passes (Some c) (settled h) = settled (passes.settles c h)
unmovable-map owned pools id change passes (Some c) (not_condemned h) = not_condemned (ap (λ ids. contains ids id) (passes.condemned c) ∙ h)
unmovable-map owned pools id change passes (Some c) (still h) = still h

one_placed : (p q h x : Bool) → (p || (q || h)) ≡ true → (p || ((x || q) || h)) ≡ true
one_placed true q h x e = refl
one_placed false q h true e = refl
one_placed false q h false e = e

one_had : (p q h x : Bool) → (p || (q || h)) ≡ true → (p || (q || (x || h))) ≡ true
one_had true q h x e = refl
one_had false true h x e = refl
one_had false false h true e = refl
one_had false false h false e = e

had_before : (held had : List ℕ) (id : ℕ) (p q : Bool) → (p || (q || contains had id)) ≡ true → (p || (q || contains (held ++ had) id))
    ≡ true
had_before [] had id p q e = e
had_before (n ∷ ns) had id p q e = one_had p q (contains (ns ++ had) id) (n == id) (had_before ns had id p q e)

pub placing_passes : (id other : ℕ) → Passes id (placing other)
placing_passes id other = record {
  settles = λ c e. one_placed (contains c.pinned id) (contains c.placed id) (contains c.had id) (other == id) e;
  condemned = λ c. refl;
}

pub posting_passes : (id other position : ℕ) → Passes id (posting other position)
posting_passes id other position = record {
  settles = λ c e. one_had (contains c.pinned id) (contains c.placed id) (contains c.had id) (other == id) e;
  condemned = λ c. refl;
}

pub giving_back_passes : (id base : ℕ) → Passes id (giving_back base)
giving_back_passes id base = record {
  settles = λ c e. by_case c (contains c.condemned_segments base) e;
  condemned = λ c. by_case' c (contains c.condemned_segments base);
}
  where
    given_back : Collection → Bool → Collection
    given_back c b = if b then reclaiming base (record c { condemned_segments = without_first c.condemned_segments base }) else c

    by_case : (c : Collection) (b : Bool) → is_settled c id ≡ true → is_settled (given_back c b) id ≡ true
    by_case c true e = e
    by_case c false e = e

    by_case' : (c : Collection) (b : Bool) → (given_back c b).condemned ≡ c.condemned
    by_case' c true = refl
    by_case' c false = refl

pub remembering_passes : (id : ℕ) (held : List ℕ) → Passes id (remembering held)
remembering_passes id held = record {
  settles = λ c e. had_before held c.had id (contains c.pinned id) (contains c.placed id) e;
  condemned = λ c. refl;
}

-- an object of such a pool isn't one whose blocks move
moves_not : (w : World) (id : ℕ) → IsOfStillPool (owners w.graph) w.pools id → is_copying_object w id ≡ false
moves_not w id s = by_object w.graph.objects s.owned_by
  where
    by_pool : (number : ℕ) → number ≡ s.number → is_copying_pool w number ≡ false
    by_pool number same =
        ap (is_copying_pool w) same ∙ ap (λ o. option_map_or (λ (p : Pool). is_copying_kind p.kind) o false) s.there ∙ s.still

    by_entry : (o : Option Object) → option_map (λ (x : Object). x.pool) o ≡ Some s.number
        → option_map_or (λ (x : Object). is_copying_pool w x.pool) o false ≡ false
    by_entry None e = absurd (none-some s.number e)
    by_entry (Some x) e = by_pool x.pool (same_Some x.pool s.number e)

    by_object : (os : List Object) → slice_get (map (λ (x : Object). x.pool) os) id ≡ Some s.number
        → option_map_or (λ (x : Object). is_copying_pool w x.pool) (slice_get os id) false ≡ false
    by_object os e = by_entry (slice_get os id) (sym (slice_get-map (λ (x : Object). x.pool) os id) ∙ e)

-- ---- an object that is put

-- an object that was made lies at this address or nowhere, and the running collection, if one runs, may not move it
pub record IsPut (id at : ℕ) (owned : List ℕ) (pools : List Pool) (addresses : List (Option ℕ)) (running : Option Collection) : Type 0 where
  pub made : id < length addresses
  pub address : (entry_at addresses id ≡ Some at) ⊎ (entry_at addresses id ≡ None)
  pub unmovable : IsUnmovableIn owned pools id running

abbrev pub IsPutIn : (id at : ℕ) → World → Type 0
IsPutIn id at w = IsPut id at (owners w.graph) w.pools w.addresses w.collection

still_there : {at : ℕ} {these those : Option ℕ} → (those ≡ Some at) ⊎ (those ≡ None) → these ≡ those → (these ≡ Some at) ⊎ (these ≡ None)
still_there (inl e) same = inl (same ∙ e)
still_there (inr e) same = inr (same ∙ e)

there_or_gone : {at : ℕ} {these those : Option ℕ} → (those ≡ Some at) ⊎ (those ≡ None) → (these ≡ those) ⊎ (these ≡ None)
    → (these ≡ Some at) ⊎ (these ≡ None)
there_or_gone was (inr none) = inr none
there_or_gone (inl e) (inl same) = inl (same ∙ e)
there_or_gone (inr e) (inl same) = inr (same ∙ e)

gone_or_same : (xs : List (Option ℕ)) (i j : ℕ) → (entry_at (slice_set xs i None) j ≡ entry_at xs j) ⊎ (entry_at (slice_set xs i None) j
    ≡ None)
gone_or_same [] i j = inl refl
gone_or_same (x ∷ xs) zero zero = inr refl
gone_or_same (x ∷ xs) zero (suc j) = inl refl
gone_or_same (x ∷ xs) (suc i) zero = inl refl
gone_or_same (x ∷ xs) (suc i) (suc j) = gone_or_same xs i j

module _ (id at : ℕ) (owned : List ℕ) (pools : List Pool) where
  -- the running collection changes
  pub put-collection : (addresses : List (Option ℕ)) (change : Collection → Collection) (o : Option Collection) → Passes id change
      → IsPut id at owned pools addresses o → IsPut id at owned pools addresses (option_map change o)
  put-collection addresses change o passes p =
      record { made = p.made; address = p.address; unmovable = unmovable-map owned pools id change passes o p.unmovable }

  -- the address of another object changes
  put-other : (other : ℕ) (to : Option ℕ) (addresses : List (Option ℕ)) (o : Option Collection) → (other ≡ id → ⊥)
      → IsPut id at owned pools addresses o → IsPut id at owned pools (slice_set addresses other to) o
  put-other other to addresses o differs p = record {
    made = subst (λ (n : ℕ). id < n) (sym (length-slice_set addresses other to)) p.made;
    address = still_there p.address (entry_at-set_other addresses other id to differs);
    unmovable = p.unmovable;
  }

  -- some object is gone
  put-gone : (other : ℕ) (addresses : List (Option ℕ)) (o : Option Collection) → IsPut id at owned pools addresses o
      → IsPut id at owned pools (slice_set addresses other None) o
  put-gone other addresses o p = record {
    made = subst (λ (n : ℕ). id < n) (sym (length-slice_set addresses other None)) p.made;
    address = there_or_gone p.address (gone_or_same addresses other id);
    unmovable = p.unmovable;
  }

  -- objects are added
  put-more : (before after : List (Option ℕ)) (o : Option Collection) → GoesOn before after → IsPut id at owned pools before o
      → IsPut id at owned pools after o
  put-more before after o more p =
      subst (λ (xs : List (Option ℕ)). IsPut id at owned pools xs o) (sym more.1) (record {
        made = let l : length (before ++ more.0) ≡ length before + length more.0 = length-append before more.0 in
            let made : id < length before = p.made in omega (arith, l, made);
        address = still_there p.address (entry_at-append before more.0 id p.made);
        unmovable = p.unmovable;
      })

-- ---- moves

-- pools are added, and objects to them
put-owners : (id at : ℕ) (owned more_owned : List ℕ) (pools more_pools : List Pool) (addresses : List (Option ℕ)) (o : Option Collection)
    → GoesOn owned more_owned → GoesOn pools more_pools → IsPut id at owned pools addresses o
    → IsPut id at more_owned more_pools addresses o
put-owners id at owned more_owned pools more_pools addresses o objects added p =
    record { made = p.made; address = p.address; unmovable = by_case o p.unmovable }
  where
    still_pool : IsOfStillPool owned pools id → IsOfStillPool more_owned more_pools id
    still_pool s = record {
      number = s.number;
      pool = s.pool;
      owned_by = ap (λ (xs : List ℕ). slice_get xs id) objects.1 ∙ slice_get-there owned objects.0 id s.number s.owned_by;
      there = ap (λ (xs : List Pool). slice_get xs s.number) added.1 ∙ slice_get-there pools added.0 s.number s.pool s.there;
      still = s.still;
    }

    by_case : (o : Option Collection) → IsUnmovableIn owned pools id o → IsUnmovableIn more_owned more_pools id o
    by_case None u = tt
    by_case (Some c) (settled h) = settled h
    by_case (Some c) (not_condemned h) = not_condemned h
    by_case (Some c) (still h) = still (still_pool h)

-- an object that moves legally isn't one that may not be moved
not_this : (w : World) (c : Collection) (id other to : ℕ) → IsUnmovable (owners w.graph) w.pools id c → IsLegalMoved w c other to
    → other ≡ id → ⊥
not_this w c id other to (settled h) legal same =
    true≢false (sym legal.not_settled ∙ ap (λ n. not (is_settled c n)) same ∙ ap not h)
not_this w c id other to (not_condemned h) legal same =
    true≢false (sym legal.condemned ∙ ap (λ n. is_condemned c n) same ∙ h)
not_this w c id other to (still h) legal same =
    true≢false (sym legal.copying ∙ ap (λ n. is_copying_object w n) same ∙ moves_not w id h)

module _ (id at : ℕ) where
  one_found : (w : World) (found : Option ℕ) (change : ℕ → World) → ((other : ℕ) → IsPutIn id at (change other)) → IsPutIn id at w
      → IsPutIn id at (where_one w found change)
  one_found w None change keeps p = p
  one_found w (Some other) change keeps p = keeps other

  -- the running collection of a world changes
  passing_put : (w : World) (change : Collection → Collection) → Passes id change → IsPutIn id at w
      → IsPutIn id at (with_collection w change)
  passing_put w change passes p = put-collection id at (owners w.graph) w.pools w.addresses change w.collection passes p

  moved_put : (w : World) (to : ℕ) (found : Option ℕ) (o : Option Collection) → w.collection ≡ o
      → ForOne o (λ c. ForOne found (λ other. IsLegalMoved w c other to)) → IsPutIn id at w
      → IsPutIn id at (where_one w found (λ other. after_moved w other to))
  moved_put w to found None runs legal p = absurd legal
  moved_put w to None (Some c) runs legal p = absurd legal
  moved_put w to (Some other) (Some c) runs legal p =
      let unmovable : IsUnmovable (owners w.graph) w.pools id c = subst (IsUnmovableIn (owners w.graph) w.pools id) runs p.unmovable in
      passing_put (with_address w other (Some to)) (placing other) (placing_passes id other)
      (put-other id at (owners w.graph) w.pools other (Some to) w.addresses w.collection (not_this w c id other to unmovable legal) p)

  segment_put : (w : World) (s : Segment) (b : Bool) → IsPutIn id at w
      → IsPutIn id at (if b then with_tail (holding w s) s.pool s.generation (words_of_segment s) else holding w s)
  segment_put w s true p = p
  segment_put w s false p = p

  free_put : (w : World) (other from : ℕ) (b : Bool) → IsPutIn id at w
      → IsPutIn id at (if b then with_collection (without_object w other) (reclaiming
      (segment_base_of w from)) else without_object w other)
  free_put w other from true p =
      passing_put (without_object w other) (reclaiming (segment_base_of w from)) (record { settles = λ c e. e; condemned = λ c. refl })
      (put-gone id at (owners w.graph) w.pools other w.addresses w.collection p)
  free_put w other from false p = put-gone id at (owners w.graph) w.pools other w.addresses w.collection p

  splat_put : (w : World) (holder cell : ℕ) → IsPutIn id at w → IsPutIn id at (after_splat w holder cell)
  splat_put w holder cell p =
      passing_put (record w { graph = graph_splatted w.graph holder cell }) splatting
      (record { settles = λ c e. e; condemned = λ c. refl })
      (subst (λ (owned : List ℕ). IsPut id at owned w.pools w.addresses w.collection) (sym (owners-splatted w.graph holder cell)) p)

  -- a move that is no flip leaves an object that may not be moved where it is, or frees it
  pub move_put : (w : World) (m : Move) → is_flip m ≡ false → IsMovedLegally w m → IsPutIn id at w → IsPutIn id at (world_after_move w m)
  move_put w (moves.Seg base grains pool generation) no_flip legal p =
      let s = segment_of_move base.0 grains pool generation in segment_put w s (is_copying_pool w s.pool) p
  move_put w (moves.Unseg base) no_flip legal p =
      passing_put (record w { segments = without_segment w.segments base.0 }) (giving_back base.0) (giving_back_passes id base.0) p
  move_put w (moves.Flip zones chain generation) no_flip legal p = absurd (true≢false no_flip)
  move_put w moves.End no_flip legal p = record { made = p.made; address = p.address; unmovable = tt }
  move_put w (moves.Moved from to) no_flip legal p = moved_put w to.0 (id_at w from.0) w.collection refl legal p
  move_put w (moves.Stay from) no_flip legal p =
      one_found w (id_at w from.0) _ (λ other. passing_put w (placing other) (placing_passes id other) p) p
  move_put w (moves.Splat holder cell) no_flip legal p = one_found w (id_at w holder.0) _ (λ other. splat_put w other cell p) p
  move_put w (moves.Post from) no_flip legal p =
      one_found w (id_at w from.0) _
      (λ other. passing_put (record w { graph = graph_posted w.graph other }) (posting other (registration_of w.graph other))
      (posting_passes id other (registration_of w.graph other)) p) p
  move_put w (moves.Commit from words pool) no_flip legal p = p
  move_put w (moves.Alloc from words pool) no_flip legal p = p
  move_put w (moves.Free from) no_flip legal p =
      one_found w (id_at w from.0) _ (λ other. free_put w other from.0 (object_is is_automatic w other) p) p

pub moves_put : (id at : ℕ) (w : World) (ms : List Move) → list_any is_flip ms ≡ false → AreMovedLegally w ms → IsPutIn id at w
    → IsPutIn id at (world_after_moves w ms)
moves_put id at w [] no_flip legal p = p
moves_put id at w (m ∷ ms) no_flip legal p =
    let none = or_parts (is_flip m) (list_any is_flip ms) no_flip in
    moves_put id at (world_after_move w m) ms none.1 legal.1 (move_put id at w m none.0 legal.0 p)

-- ---- a reserve's own segment, and units

segment_for_point_put : (id at : ℕ) (w : World) (s : Segment) (point : ℕ) → IsPutIn id at w
    → IsPutIn id at (with_segment_for_point w s point)
segment_for_point_put id at w s point p = by_case (is_copying_pool w s.pool)
  where
    by_case : (b : Bool) → IsPutIn id at (if b then record (holding w (record s { rank = rank_of_point w point })) {
      point_memories = with_buffer w.point_memories point (words_of_segment s);
    } else holding w (record s { rank = rank_of_point w point }))
    by_case true = p
    by_case false = p

pub own_segment_put : (id at : ℕ) (w : World) (ms : List Move) (point : Option ℕ) → IsPutIn id at w
    → IsPutIn id at (after_own_segment w ms point)
own_segment_put id at w [] point p = p
own_segment_put id at w (moves.Seg base grains pool generation ∷ ms) None p = p
own_segment_put id at w (moves.Seg base grains pool generation ∷ ms) (Some point) p =
    segment_for_point_put id at w (segment_of_move base.0 grains pool generation) point p
own_segment_put id at w (_ ∷ ms) point p = p

pub asking_put : (id at : ℕ) (units : Option ℕ) (w : World) → IsPutIn id at w → IsPutIn id at (asking units w)
asking_put id at None w p = p
asking_put id at (Some units) w p =
    passing_put id at w (λ c. record c { spent = c.spent + units }) (record { settles = λ c e. e; condemned = λ c. refl }) p

-- ---- a step

no_flip_taken : (n : ℕ) (ms : List Move) → list_any is_flip ms ≡ false → list_any is_flip (take n ms) ≡ false
no_flip_taken zero ms no_flip = refl
no_flip_taken (suc n) [] no_flip = refl
no_flip_taken (suc n) (m ∷ ms) no_flip = more (is_flip m) (or_parts (is_flip m) (list_any is_flip ms) no_flip) (no_flip_taken n ms)
  where
    more : (b : Bool) → (b ≡ false) × (list_any is_flip ms ≡ false) → (list_any is_flip ms ≡ false → list_any is_flip (take n ms) ≡ false)
        → (b || list_any is_flip (take n ms)) ≡ false
    more true both rest = absurd (true≢false both.0)
    more false both rest = rest both.1

-- after the moves of a call
moved_step_put : (id at : ℕ) (w : World) (c : Call) (answer : Answer) (ms : List Move) → AreLegalMoves w None (moves_of_collector c ms)
    → AreMovesOf w c answer ms → list_any is_flip ms ≡ false → IsPutIn id at w → IsPutIn id at (after_its_moves w c ms)
moved_step_put id at w (call.Reserve point head) answer ms legal due no_flip p =
    own_segment_put id at (world_after_moves w (moves_of_poll ms)) (own_segment ms) (number_named w point as_point)
    (moves_put id at w (moves_of_poll ms) (no_flip_taken (length ms - length (own_segment ms)) ms no_flip)
    (all_moved_legally w None (moves_of_poll ms) legal) p)
moved_step_put id at w (call.Commit point target) answer ms legal due no_flip p =
    moves_put id at w ms no_flip
    (none_moved w ms (ap (list_any is_moving) due ∙ commit_moves_none w answer (point_named w point))) p
moved_step_put id at w (call.Alloc pool words place) answer ms legal due no_flip p =
    moves_put id at w ms no_flip
    (none_moved w ms (ap (list_any is_moving) due ∙ alloc_moves_none w answer (pool_named w pool) words)) p
moved_step_put id at w (call.Free place) answer ms legal due no_flip p =
    moves_put id at w ms no_flip (none_moved w ms (ap (list_any is_moving) due ∙ free_moves_none w answer (block_place_in w place))) p
moved_step_put id at w (call.CacheAlloc cache words place) answer ms legal due no_flip p =
    moves_put id at w ms no_flip
    (none_moved w ms (ap (list_any is_moving) due ∙ cache_alloc_moves_none w answer (cache_named w cache) words)) p
moved_step_put id at w (call.CacheFree cache place) answer ms legal due no_flip p =
    moves_put id at w ms no_flip
    (none_moved w ms (ap (list_any is_moving) due ∙ cache_free_moves_none w answer (cache_named w cache) (block_place_in w place))) p
moved_step_put id at w (call.CacheFlush cache) answer ms legal due no_flip p =
    moves_put id at w ms no_flip
    (none_moved w ms (ap (list_any is_moving) due ∙ cache_flush_moves_none w answer (cache_named w cache))) p
moved_step_put id at w (call.Pop pool frame) answer ms legal due no_flip p =
    moves_put id at w ms no_flip (none_moved w ms (ap (list_any is_moving) due ∙ pop_moves_none w answer (frames_named w pool) frame)) p
moved_step_put id at w _ answer ms legal due no_flip p = moves_put id at w ms no_flip (all_moved_legally w None ms legal) p

-- after an act
pub left_put : (id at : ℕ) (c : Call) (v u : World) → Leaves c v u → IsPutIn id at v → IsPutIn id at u
left_put id at c v u leaves p =
    left leaves.collection
    (put-owners id at (owners v.graph) (owners u.graph) v.pools u.pools u.addresses v.collection leaves.owned leaves.pools
    (put-more id at (owners v.graph) v.pools v.addresses u.addresses v.collection leaves.addresses p))
  where
    left : IsCollectionLeft v.collection u.collection → IsPut id at (owners u.graph) u.pools u.addresses v.collection → IsPutIn id at u
    left (inl same) p = subst (IsPut id at (owners u.graph) u.pools u.addresses) (sym same) p
    left (inr (position, less)) p =
        subst (IsPut id at (owners u.graph) u.pools u.addresses) (sym less)
        (put-collection id at (owners u.graph) u.pools u.addresses (without_registration position) v.collection
        (record { settles = λ c e. e; condemned = λ c. refl }) p)

act_put : (id at : ℕ) (c : Call) (v : World) (result : Checked Act) → ForAct (Leaves c v) result → IsPutIn id at v
    → IsPutIn id at (world_from v result)
act_put id at c v (Ok a) (accepted leaves) p = left_put id at c v a.world leaves p
act_put id at c v (Err why) refused p = p

-- after the client's holdings are remembered
pub remembered_put : (id at : ℕ) (w : World) → IsPutIn id at w → IsPutIn id at (with_client_remembered w)
remembered_put id at w p = passing_put id at w (remembering (ids_of_client w.graph)) (remembering_passes id (ids_of_client w.graph)) p

-- a step without a flip leaves a settled object where it is, or frees it
pub step_put : (id at : ℕ) (w : World) (s : Step) → list_any is_flip s.moves ≡ false → IsLegalStep w s → IsPutIn id at w
    → IsPutIn id at (world_after w s)
step_put id at w s no_flip legal p =
    let moved = moved_world w s.call s.moves in
    let result = act (is_block s.answer) (judged_world w s.call s.moves) moved s.call in
    let put = asking_put id at (units_asked w s.call) (after_its_moves w s.call s.moves)
    (moved_step_put id at w s.call s.answer s.moves legal.moves_are_legal legal.moves_are_due no_flip p) in
    let acted = act_put id at s.call moved result (act_leaves (is_block s.answer) (judged_world w s.call s.moves) moved s.call) put in
    remembered_put id at (world_from moved result) acted
