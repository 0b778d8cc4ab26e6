-- In each held segment of a pool of blocks of any sizes lies a manual block: what moves leave of that.
use Rattle.std.proofs.Common.{◌≡◌, ◌⊎◌, inl, inr, ℕ, ◌<◌, Bool, true, false, refl, sym, ◌∙◌, ap, subst, List, [], ◌∷◌, Option, Some, None, arith}
use Rattle.std.proofs.lemmas.Bool.{true≢false, false≢true, and_parts, and_from, eq-eqb, le-leb, leb-true, lt-ltb, ltb-true}
use Rattle.std.proofs.lemmas.Option.{same_Some}
use Rattle.std.specs.Prelude.{not, ◌==◌, if◌then◌else◌, is_some, nat_le, nat_lt, option_map, slice_get, slice_set}
use Rattle.std.specs.Option.{option_map_or}
use Rattle.mps_base.specs.Address.{grain_of}
use Rattle.mps_base.specs.Run.{Covers}
use Rattle.mps_base.specs.Segment.{Segment, end_of_segment, grains_of_segment, is_in_segment, with_segment, without_segment, words_of_segment}
use Rattle.mps_base.specs.declared.address.Addr.{Addr}
use Rattle.mps_base.specs.declared.moves.Move.{Move}
use Rattle.mps_base.specs.declared.moves.Move.TheVariants as moves
use Rattle.mps_model.specs.declared.call.Call.TheVariants as call
use Rattle.mps_model.specs.Graph.{Automatic, Body, Manual, Object, contains, entry_at, is_automatic, is_automatic_body, object_at}
use Rattle.mps_model.specs.Collection.{Collection}
use Rattle.mps_model.specs.World.{World, Pool, PoolKind, Collected, OneSize, AnySize, Frames, address_of, id_at, is_any_size_kind, is_automatic_kind, is_copying_pool, object_is, pool_at, pool_is, pool_of, with_tail}
use Rattle.mps_model.specs.WellFormed.{is_right_body}
use Rattle.mps_model.specs.Effect.{after_free, after_moved, after_post, after_segment, after_splat, condemnation_of, condemned_by, giving_back, holding, placing, posting, reclaiming, registration_of, segment_base_of, segment_of_move, splatting, where_one, with_collection, without_object, world_after_move, world_after_moves, world_flipped, lies_in_one}
use Rattle.mps_model.specs.LegalMove.{AreLegalMoves, IsLegalMove, IsLegalMoved, IsLegalSweep, IsSegmentForMove, first_move}
use Rattle.mps_model.specs.History.{is_segment_taken}
use Rattle.mps_laws.specs.Staying.{is_flip}
use Rattle.mps_laws.proofs.FlippedZones.{grains_between}
use Rattle.mps_laws.proofs.Finding.{for_both, for_one, id_at-found}
use Rattle.mps_laws.proofs.Lookups.{entry_at-set_other, entry_at-set_same, entry_within}
use Rattle.mps_laws.proofs.Positions.LegalMoves.{HasLayout, live_at}
use Rattle.mps_laws.proofs.Positions.Places.{giving_back_passes}
use Rattle.mps_laws.proofs.Positions.Segments.{IsAmong, among_aligned, among_cases, among_new, among_without, same_segment, segment_bounds}
use Rattle.mps_laws.proofs.Replays.ReplayOfMoves.{move_replayed}
use Rattle.mps_laws.proofs.SameArena.{moved_alone}
use Rattle.mps_laws.proofs.Sound.SoundGraph.{IsSoundGraph, auto, manual}
use Rattle.mps_laws.proofs.Sound.SoundMoves.{move_well}
use Rattle.mps_client_laws.specs.Objects.{Identity}
use Rattle.mps_client_laws.proofs.AreaWordsStay.{same_by_identity}
use Rattle.mps_client_laws.proofs.Condemned.{lying_in}
use Rattle.mps_client_laws.proofs.KeptByMoves.{copying_is_automatic}
use Rattle.mps_client_laws.proofs.EndOfCollection.{segment_runs}
use Rattle.mps_client_laws.proofs.Contained.{among_is_live_automatic, filtered_contains}
use Rattle.mps_client_laws.proofs.SegmentsStand.{among_filtered}
use Rattle.mps_client_laws.proofs.WritesOfMoves.{move_leaves_objects}

abbrev pub any_size : World → (pool : ℕ) → Bool
any_size w pool = pool_is is_any_size_kind w pool

-- ---- what the kind of a pool tells of its objects

any_size_is_manual : (kind : PoolKind) → is_any_size_kind kind ≡ true → is_automatic_kind kind ≡ false
any_size_is_manual (Collected kind) h = absurd (false≢true h)
any_size_is_manual (OneSize words) h = refl
any_size_is_manual AnySize h = refl
any_size_is_manual Frames h = refl

-- an object of a pool of any sizes is manual
pub manual_there : (w : World) (id : ℕ) (o : Object) → IsSoundGraph w → object_at w.graph id ≡ Some o → any_size w o.pool ≡ true
    → manual w id ≡ true
manual_there w id o s there kind =
    ap (λ x. option_map_or (λ y. not (is_automatic y)) x false) there
    ∙ ap not (of_pool (pool_at w o.pool) (s.objects id o there) kind)
  where
    of_body : (p : Pool) (b : Body) → is_any_size_kind p.kind ≡ true → is_right_body w p b ≡ true → is_automatic_body b ≡ false
    of_body p (Automatic head cells is_weak) kind right =
        absurd (true≢false (sym (and_parts (is_automatic_kind p.kind) _ (and_parts _ _ right).0).0 ∙ any_size_is_manual p.kind kind))
    of_body p (Manual words) kind right = refl

    of_pool : (p : Option Pool) → option_map_or (λ q. is_right_body w q o.body) p false ≡ true
        → option_map_or (λ q. is_any_size_kind q.kind) p false ≡ true → is_automatic o ≡ false
    of_pool None right kind = absurd (false≢true right)
    of_pool (Some p) right kind = of_body p o.body kind right

pub never_both : (o : Option Object) → option_map_or is_automatic o false ≡ true
    → option_map_or (λ x. not (is_automatic x)) o false ≡ true → ⊥
never_both None e f = false≢true e
never_both (Some o) e f = false≢true (ap not (sym e) ∙ f)

-- ---- one segment

-- two segments in which an address lies are one
pub same_by_address : (limit : ℕ) (w : World) (s t : Segment) (at : ℕ) → HasLayout limit w → IsAmong s w.segments → IsAmong t w.segments
    → is_in_segment s at ≡ true → is_in_segment t at ≡ true → s ≡ t
same_by_address limit w s t at laid among there inside within =
    same_segment 1 limit w.segments s t laid.ascending among there (grain_of at) (covers s among inside) (covers t there within)
  where
    covers : (u : Segment) → IsAmong u w.segments → is_in_segment u at ≡ true → Covers (grains_of_segment u) (grain_of at)
    covers u held is =
        let parts = and_parts (nat_le u.base at) (nat_lt at (end_of_segment u)) is in
        grains_between u.base at u.grains (among_aligned u w.segments laid.aligned held) (leb-true u.base at parts.0)
        (ltb-true at (end_of_segment u) parts.1)

-- an object in a segment is of its pool
pub of_its_pool : (limit : ℕ) (w : World) (s : Segment) (id at : ℕ) → HasLayout limit w → IsAmong s w.segments
    → address_of w id ≡ Some at → is_in_segment s at ≡ true → (o : Object) × (object_at w.graph id ≡ Some o) × (s.pool ≡ o.pool)
of_its_pool limit w s id at laid among lies inside =
    let l = lying_in limit w id at laid lies in (
      l.object,
      l.there,
      ap (λ (t : Segment). t.pool) (same_by_address limit w s l.segment at laid among l.held inside l.inside) ∙ l.of_pool,
    )

-- why a segment of a pool of any sizes is held: a manual block lies in it, or the next move gives it back
pub data IsInUse (w : World) (next : Option Move) (s : Segment) : Type 0 where
  used : (id at : ℕ) → manual w id ≡ true → address_of w id ≡ Some at → is_in_segment s at ≡ true → IsInUse w next s
  for_move : (from to : Addr) → next ≡ Some (moves.Moved from to) → is_in_segment s to.0 ≡ true → IsInUse w next s
  for_return : (base : Addr) → next ≡ Some (moves.Unseg base) → base.0 ≡ s.base → IsInUse w next s

abbrev pub condemned_of : Option Collection → List ℕ
condemned_of None = []
condemned_of (Some c) = c.condemned

pub segments_with : (w : World) (s : Segment) → (after_segment w s).segments ≡ with_segment s w.segments
segments_with w s = by_kind (is_copying_pool w s.pool)
  where
    by_kind : (b : Bool) → (if b then with_tail (holding w s) s.pool s.generation (words_of_segment s) else holding w s).segments
        ≡ with_segment s w.segments
    by_kind true = refl
    by_kind false = refl

-- ---- all segments

pub record AreInUse (limit : ℕ) (w : World) (next : Option Move) : Type 0 where
  pub layout : HasLayout limit w
  pub sound : IsSoundGraph w
  -- what a collection condemned is automatic
  pub condemned : (id : ℕ) → contains (condemned_of w.collection) id ≡ true → auto w id ≡ true
  pub pools : (s : Segment) → IsAmong s w.segments → is_some (pool_at w s.pool) ≡ true
  pub each : (s : Segment) → IsAmong s w.segments → any_size w s.pool ≡ true → IsInUse w next s

pub same_auto : (w : World) (m : Move) (id : ℕ) → auto (world_after_move w m) id ≡ auto w id
same_auto w m id =
    same_by_identity is_automatic (λ (i : Identity). i.is_automatic) false (λ o. refl) (world_after_move w m).graph.objects
    w.graph.objects id (move_leaves_objects w m).identities

pub same_manual : (w : World) (m : Move) (id : ℕ) → manual (world_after_move w m) id ≡ manual w id
same_manual w m id =
    same_by_identity (λ o. not (is_automatic o)) (λ (i : Identity). not i.is_automatic) false (λ o. refl)
    (world_after_move w m).graph.objects w.graph.objects id (move_leaves_objects w m).identities

pub same_pools_after : (w : World) (m : Move) → (world_after_move w m).pools ≡ w.pools
same_pools_after w m = (moved_alone w call.Collect (m ∷ [])).pools

-- what a move passes on to a world
pub record PassesOn (limit : ℕ) (w u : World) (m : Move) (next : Option Move) : Type 0 where
  pub layout : HasLayout limit u
  pub sound : IsSoundGraph u
  pub kinds : (id : ℕ) → auto u id ≡ auto w id
  pub same_pools : u.pools ≡ w.pools
  pub condemned : (id : ℕ) → contains (condemned_of u.collection) id ≡ true → auto w id ≡ true
  pub segments : (s : Segment) → IsAmong s u.segments → IsAmong s w.segments
  pub kept_manual : (id : ℕ) → manual u id ≡ manual w id
  pub stays : (id at : ℕ) → manual w id ≡ true → address_of w id ≡ Some at → address_of u id ≡ Some at
  pub moved : (s : Segment) → IsAmong s u.segments → any_size u s.pool ≡ true → (from to : Addr) → m ≡ moves.Moved from to
      → is_in_segment s to.0 ≡ true → IsInUse u next s
  pub returned : (s : Segment) → IsAmong s u.segments → (base : Addr) → m ≡ moves.Unseg base → base.0 ≡ s.base → ⊥

pub passed_on : (limit : ℕ) (w u : World) (m : Move) (next : Option Move) → PassesOn limit w u m next → AreInUse limit w (Some m)
    → AreInUse limit u next
passed_on limit w u m next p h = record {
  layout = p.layout;
  sound = p.sound;
  condemned = λ id is. p.kinds id ∙ p.condemned id is;
  pools = λ s among. ap (λ ps. is_some (slice_get ps s.pool)) p.same_pools ∙ h.pools s (p.segments s among);
  each = λ s among kind.
      carry s among kind
      (h.each s (p.segments s among)
      (ap (λ ps. option_map_or (λ (q : Pool). is_any_size_kind q.kind) (slice_get ps s.pool) false) (sym p.same_pools) ∙ kind));
}
  where
    carry : (s : Segment) → IsAmong s u.segments → any_size u s.pool ≡ true → IsInUse w (Some m) s → IsInUse u next s
    carry s among kind (used id at is lies inside) = used id at (p.kept_manual id ∙ is) (p.stays id at is lies) inside
    carry s among kind (for_move from to e inside) = p.moved s among kind from to (same_Some m (moves.Moved from to) e) inside
    carry s among kind (for_return base e same) = absurd (p.returned s among base (same_Some m (moves.Unseg base) e) same)

-- ---- the moves of a collector

module _ (w : World) where
  found_segments : (found : Option ℕ) (change : ℕ → World) → ((id : ℕ) → (change id).segments ≡ w.segments)
      → (where_one w found change).segments ≡ w.segments
  found_segments None change each = refl
  found_segments (Some id) change each = each id

  found_condemned : (found : Option ℕ) (change : ℕ → World)
      → ((id : ℕ) → condemned_of (change id).collection ≡ condemned_of w.collection)
      → condemned_of (where_one w found change).collection ≡ condemned_of w.collection
  found_condemned None change each = refl
  found_condemned (Some id) change each = each id

  found_addresses : (found : Option ℕ) (change : ℕ → World) → ((id : ℕ) → (change id).addresses ≡ w.addresses)
      → (where_one w found change).addresses ≡ w.addresses
  found_addresses None change each = refl
  found_addresses (Some id) change each = each id

  -- what is left where an object was freed
  pub record IsFreed (id : ℕ) (u : World) : Type 0 where
    pub segments : u.segments ≡ w.segments
    pub addresses : u.addresses ≡ slice_set w.addresses id None
    pub pools : u.pools ≡ w.pools
    pub condemned : condemned_of u.collection ≡ condemned_of w.collection

  pub freed_is : (id at : ℕ) → IsFreed id (after_free w id at)
  freed_is id at = by_kind (object_is is_automatic w id)
    where
      same : (o : Option Collection) → condemned_of (option_map (reclaiming (segment_base_of w at)) o) ≡ condemned_of o
      same None = refl
      same (Some c) = refl

      by_kind : (b : Bool)
          → IsFreed id (if b then with_collection (without_object w id) (reclaiming (segment_base_of w at)) else without_object w id)
      by_kind true = record { segments = refl; addresses = refl; pools = refl; condemned = same w.collection }
      by_kind false = record { segments = refl; addresses = refl; pools = refl; condemned = refl }

  pub mapped : (change : Collection → Collection) → ((c : Collection) → (change c).condemned ≡ c.condemned) → (o : Option Collection)
      → condemned_of (option_map change o) ≡ condemned_of o
  mapped change each None = refl
  mapped change each (Some c) = each c

  segments_of : (m : Move) → is_segment_taken m ≡ false → (s : Segment) → IsAmong s (world_after_move w m).segments → IsAmong s w.segments
  segments_of (moves.Seg base grains pool generation) none s among = absurd (true≢false none)
  segments_of (moves.Unseg base) none s among = among_without base.0 s w.segments among
  segments_of (moves.Moved from to) none s among =
      subst (IsAmong s) (found_segments (id_at w from.0) (λ id. after_moved w id to.0) (λ id. refl)) among
  segments_of (moves.Stay at) none s among =
      subst (IsAmong s) (found_segments (id_at w at.0) (λ id. with_collection w (placing id)) (λ id. refl)) among
  segments_of (moves.Splat holder cell) none s among =
      subst (IsAmong s) (found_segments (id_at w holder.0) (λ id. after_splat w id cell) (λ id. refl)) among
  segments_of (moves.Post at) none s among =
      subst (IsAmong s) (found_segments (id_at w at.0) (after_post w) (λ id. refl)) among
  segments_of (moves.Free at) none s among =
      subst (IsAmong s) (found_segments (id_at w at.0) (λ id. after_free w id at.0) (λ id. (freed_is id at.0).segments)) among
  segments_of _ none s among = among

  condemned_after : (m : Move) → is_segment_taken m ≡ false → is_flip m ≡ false → (id : ℕ)
      → contains (condemned_of (world_after_move w m).collection) id ≡ true → contains (condemned_of w.collection) id ≡ true
  condemned_after (moves.Seg base grains pool generation) none quiet id is = absurd (true≢false none)
  condemned_after (moves.Flip zones chain generation) none quiet id is = absurd (true≢false quiet)
  condemned_after (moves.Unseg base) none quiet id is =
      subst (λ ids. contains ids id ≡ true) (mapped (giving_back base.0) (giving_back_passes id base.0).condemned w.collection) is
  condemned_after moves.End none quiet id is = absurd (false≢true is)
  condemned_after (moves.Moved from to) none quiet id is =
      subst (λ ids. contains ids id ≡ true)
      (found_condemned (id_at w from.0) (λ n. after_moved w n to.0) (λ n. mapped (placing n) (λ c. refl) w.collection)) is
  condemned_after (moves.Stay at) none quiet id is =
      subst (λ ids. contains ids id ≡ true)
      (found_condemned (id_at w at.0) (λ n. with_collection w (placing n)) (λ n. mapped (placing n) (λ c. refl) w.collection)) is
  condemned_after (moves.Splat holder cell) none quiet id is =
      subst (λ ids. contains ids id ≡ true)
      (found_condemned (id_at w holder.0) (λ n. after_splat w n cell) (λ n. mapped splatting (λ c. refl) w.collection)) is
  condemned_after (moves.Post at) none quiet id is =
      subst (λ ids. contains ids id ≡ true)
      (found_condemned (id_at w at.0) (after_post w)
      (λ n. mapped (posting n (registration_of w.graph n)) (λ c. refl) w.collection)) is
  condemned_after (moves.Commit at words pool) none quiet id is = is
  condemned_after (moves.Alloc at words pool) none quiet id is = is
  condemned_after (moves.Free at) none quiet id is =
      subst (λ ids. contains ids id ≡ true)
      (found_condemned (id_at w at.0) (λ n. after_free w n at.0) (λ n. (freed_is n at.0).condemned)) is

module _ (limit : ℕ) (w : World) (before : Option Move) (next : Option Move) where
  condemned_is_automatic : (m : Move) → is_segment_taken m ≡ false → AreInUse limit w (Some m) → (id : ℕ)
      → contains (condemned_of (world_after_move w m).collection) id ≡ true → auto w id ≡ true
  condemned_is_automatic (moves.Flip zones chain generation) none h id is =
      let v = world_flipped w zones.0 in
      let what = condemnation_of chain generation in
      (among_is_live_automatic v id
      (filtered_contains (lies_in_one v (condemned_by v what)) (Rattle.mps_model.specs.World.live_automatic_ids v) id is).0).1
  condemned_is_automatic m none h id is = h.condemned id (condemned_after w m none refl id is)

  differs : (other id : ℕ) → auto w other ≡ true → manual w id ≡ true → other ≡ id → ⊥
  differs other id automatic is same =
      never_both (object_at w.graph other) automatic (ap (manual w) same ∙ is)

  stays_there : (m : Move) → AreInUse limit w (Some m) → IsLegalMove w before m next → (id at : ℕ) → manual w id ≡ true
      → address_of w id ≡ Some at → address_of (world_after_move w m) id ≡ Some at
  stays_there (moves.Seg base grains pool generation) h legal id at is lies = by_kind (is_copying_pool w pool)
    where
      s : Segment
      s = segment_of_move base.0 grains pool generation

      by_kind : (b : Bool)
          → address_of (if b then with_tail (holding w s) s.pool s.generation (words_of_segment s) else holding w s) id ≡ Some at
      by_kind true = lies
      by_kind false = lies
  stays_there (moves.Moved from to) h legal id at is lies =
      let b = for_both w.collection (id_at w from.0) (λ c other. IsLegalMoved w c other to.0) legal in
      ap (λ o. address_of (where_one w o (λ other. after_moved w other to.0)) id) b.is_second
      ∙ entry_at-set_other w.addresses b.second id (Some to.0)
      (differs b.second id (copying_is_automatic w b.second h.sound b.holds.copying) is)
      ∙ lies
  stays_there (moves.Stay from) h legal id at is lies =
      ap (λ xs. entry_at xs id) (found_addresses w (id_at w from.0) (λ n. with_collection w (placing n)) (λ n. refl)) ∙ lies
  stays_there (moves.Splat holder cell) h legal id at is lies =
      ap (λ xs. entry_at xs id) (found_addresses w (id_at w holder.0) (λ n. after_splat w n cell) (λ n. refl)) ∙ lies
  stays_there (moves.Post from) h legal id at is lies =
      ap (λ xs. entry_at xs id) (found_addresses w (id_at w from.0) (after_post w) (λ n. refl)) ∙ lies
  stays_there (moves.Free from) h legal id at is lies =
      let b = for_both w.collection (id_at w from.0) (IsLegalSweep w) legal in
      let automatic = h.condemned b.second
      (ap (λ o. contains (condemned_of o) b.second) b.is_first ∙ b.holds.gone.condemned) in
      ap (λ o. address_of (where_one w o (λ other. after_free w other from.0)) id) b.is_second
      ∙ ap (λ xs. entry_at xs id) (freed_is w b.second from.0).addresses
      ∙ entry_at-set_other w.addresses b.second id None (differs b.second id automatic is)
      ∙ lies
  stays_there _ h legal id at is lies = lies

  -- no object is moved into a segment of a pool of any sizes
  never_moved : (from to : Addr) → AreInUse limit w (Some (moves.Moved from to)) → IsLegalMove w before (moves.Moved from to) next
      → (s : Segment) → IsAmong s (world_after_move w (moves.Moved from to)).segments
      → any_size (world_after_move w (moves.Moved from to)) s.pool ≡ true → is_in_segment s to.0 ≡ true → ⊥
  never_moved from to h legal s among kind inside =
      let m = moves.Moved from to in
      let u = world_after_move w m in
      let b = for_both w.collection (id_at w from.0) (λ c other. IsLegalMoved w c other to.0) legal in
      let lies : address_of u b.second ≡ Some to.0 =
      ap (λ o. address_of (where_one w o (λ other. after_moved w other to.0)) b.second) b.is_second
      ∙ entry_at-set_same w.addresses b.second (Some to.0)
      (entry_within w.addresses b.second from.0 (id_at-found w from.0 b.second b.is_second)) in
      let o = of_its_pool limit u s b.second to.0 (move_replayed limit w before m next 0 h.layout legal).layout among lies inside in
      never_both (object_at u.graph b.second) (same_auto w m b.second ∙ copying_is_automatic w b.second h.sound b.holds.copying)
      (manual_there u b.second o.0 (move_well w before m next h.sound legal).sound o.1 (ap (any_size u) (sym o.2) ∙ kind))

  passes : (m : Move) → is_segment_taken m ≡ false → AreInUse limit w (Some m) → IsLegalMove w before m next
      → PassesOn limit w (world_after_move w m) m next
  passes m none h legal = record {
    layout = (move_replayed limit w before m next 0 h.layout legal).layout;
    sound = (move_well w before m next h.sound legal).sound;
    kinds = same_auto w m;
    kept_manual = same_manual w m;
    same_pools = same_pools_after w m;
    condemned = condemned_is_automatic m none h;
    segments = segments_of w m none;
    stays = stays_there m h legal;
    moved = λ s among kind from to e inside.
        absurd (never_moved from to (subst (λ n. AreInUse limit w (Some n)) e h) (subst (λ n. IsLegalMove w before n next) e legal) s
        (subst (λ n. IsAmong s (world_after_move w n).segments) e among) (subst (λ n. any_size (world_after_move w n) s.pool ≡ true) e kind)
        inside);
    returned = λ s among base e same. given_back s base (subst (λ n. IsAmong s (world_after_move w n).segments) e among) same;
  }
    where
      given_back : (s : Segment) (base : Addr) → IsAmong s (without_segment w.segments base.0) → base.0 ≡ s.base → ⊥
      given_back s base among same =
          false≢true (sym (ap not (eq-eqb s.base base.0 (sym same)))
          ∙ among_filtered (λ (t : Segment). not (t.base == base.0)) w.segments s among)

  -- a segment for a move
  taken : (base : Addr) (grains pool generation : ℕ) → AreInUse limit w (Some (moves.Seg base grains pool generation))
      → IsLegalMove w before (moves.Seg base grains pool generation) next
      → AreInUse limit (world_after_move w (moves.Seg base grains pool generation)) next
  taken base grains pool generation h legal = record {
    layout = laid;
    sound = (move_well w before m next h.sound legal).sound;
    condemned = λ id is. same_auto w m id ∙ h.condemned id (subst (λ o. contains (condemned_of o) id ≡ true) (segment_runs w s) is);
    pools = λ t among. ap (λ ps. is_some (slice_get ps t.pool)) (same_pools_after w m)
        ∙ pool_of_case t (among_cases s t w.segments (subst (IsAmong t) (segments_with w s) among));
    each = λ t among kind. of_case t kind (among_cases s t w.segments (subst (IsAmong t) (segments_with w s) among));
  }
    where
      m : Move
      m = moves.Seg base grains pool generation

      s : Segment
      s = segment_of_move base.0 grains pool generation

      u : World
      u = world_after_move w m

      laid : HasLayout limit u
      laid = (move_replayed limit w before m next 0 h.layout legal).layout

      filled : 0 < grains
      filled = (segment_bounds 1 limit u.segments s laid.ascending (subst (IsAmong s) (sym (segments_with w s)) (among_new s w.segments))).1

      at_base : (to : ℕ) → to ≡ base.0 → is_in_segment s to ≡ true
      at_base to e =
          and_from (nat_le base.0 to) (nat_lt to (end_of_segment s)) (le-leb base.0 to (omega (arith, e)))
          (lt-ltb to (end_of_segment s) (omega (arith, e, filled)))

      of_right : (b : Body) (o : Option Pool) → option_map_or (λ p. is_right_body w p b) o false ≡ true → is_some o ≡ true
      of_right b None right = right
      of_right b (Some p) right = refl

      pool_there : (id : ℕ) (at : ℕ) → id_at w at ≡ Some id → pool ≡ pool_of w id → is_some (pool_at w pool) ≡ true
      pool_there id at found of_pool =
          let l = live_at limit w at id h.layout (id_at-found w at id found) in
          ap (λ n. is_some (pool_at w n)) (of_pool ∙ ap (λ o. option_map_or (λ (x : Object). x.pool) o 0) l.there)
          ∙ of_right l.object.body (pool_at w l.object.pool) (h.sound.objects id l.object l.there)

      new : (n : Option Move) → IsLegalMove w before m n → (is_some (pool_at w pool) ≡ true) × IsInUse u n s
      new (Some (moves.Moved from to)) legal =
          let f = for_one (IsSegmentForMove w base.0 grains pool generation to.0) (id_at w from.0) legal in
          (pool_there f.0 from.0 f.1 (f.2).of_pool, for_move from to refl (at_base to.0 (f.2).first))
      new None legal = absurd legal
      new (Some _) legal = absurd legal

      pool_of_case : (t : Segment) → (s ≡ t) ⊎ IsAmong t w.segments → is_some (pool_at w t.pool) ≡ true
      pool_of_case t (inl e) = subst (λ (x : Segment). is_some (pool_at w x.pool) ≡ true) e (new next legal).0
      pool_of_case t (inr among) = h.pools t among

      still : (t : Segment) → IsInUse w (Some m) t → IsInUse u next t
      still t (used id at is lies inside) = used id at (same_manual w m id ∙ is) (stays_there m h legal id at is lies) inside
      still t (for_move from to e inside) = absurd cc
      still t (for_return from e same) = absurd cc

      of_case : (t : Segment) → any_size u t.pool ≡ true → (s ≡ t) ⊎ IsAmong t w.segments → IsInUse u next t
      of_case t kind (inl e) = subst (IsInUse u next) e (new next legal).1
      of_case t kind (inr among) =
          still t (h.each t among
          (ap (λ ps. option_map_or (λ (q : Pool). is_any_size_kind q.kind) (slice_get ps t.pool) false)
          (sym (same_pools_after w m)) ∙ kind))

  move_in_use : (m : Move) → AreInUse limit w (Some m) → IsLegalMove w before m next → AreInUse limit (world_after_move w m) next
  move_in_use (moves.Seg base grains pool generation) h legal = taken base grains pool generation h legal
  move_in_use m h legal = passed_on limit w (world_after_move w m) m next (passes m refl h legal) h

pub moves_in_use : (limit : ℕ) (w : World) (before : Option Move) (ms : List Move) → AreInUse limit w (first_move ms)
    → AreLegalMoves w before ms → AreInUse limit (world_after_moves w ms) None
moves_in_use limit w before [] h legal = h
moves_in_use limit w before (m ∷ ms) h legal =
    moves_in_use limit (world_after_move w m) (Some m) ms (move_in_use limit w before (first_move ms) m h legal.0) legal.1
