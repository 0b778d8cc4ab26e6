-- A pool of blocks of any sizes gives back a segment with its last block: so what a free leaves is in use.
use Rattle.std.proofs.Common.{◌≡◌, inl, inr, ℕ, ◌<◌, Bool, true, false, refl, sym, ◌∙◌, ap, subst, List, [], ◌∷◌, Option, Some, None, arith}
use Rattle.std.proofs.lemmas.Bool.{true≢false, false≢true, and_parts, and_from, cases_eq, cases_Bool, eq-eqb, or_cases}
use Rattle.std.proofs.lemmas.Option.{none-some, same_Some, slice_get-map}
use Rattle.std.specs.Prelude.{not, ◌&&◌, ◌==◌, find, if◌then◌else◌, is_some, option_map, slice_get}
use Rattle.std.specs.Option.{option_map_or}
use Rattle.std.specs.List.{list_all, list_any}
use Rattle.mps_base.specs.Run.{Run, Covers}
use Rattle.mps_base.specs.Segment.{Segment, is_in_segment, without_segment, words_of_segment}
use Rattle.mps_base.specs.declared.address.Addr.{Addr}
use Rattle.mps_base.specs.declared.moves.Move.{Move}
use Rattle.mps_base.specs.declared.moves.Move.TheVariants as moves
use Rattle.mps_model.proofs.Cutting.{world_after_moves-append}
use Rattle.mps_model.specs.Graph.{Point, contains, entry_at, object_at}
use Rattle.mps_model.specs.World.{World, Pool, PoolKind, address_of, begins_in, id_at, is_any_size_kind, is_automatic_kind, is_empty_segment, is_live, is_live_and, live_ids, pool_at, segment_of}
use Rattle.mps_model.specs.WellFormed.{is_live_automatic}
use Rattle.mps_model.specs.Effect.{after_free, giving_back, where_one, world_after_move, world_after_moves}
use Rattle.mps_model.specs.Flip.{at_address}
use Rattle.mps_model.specs.LegalMove.{first_move}
use Rattle.mps_model.specs.History.{free_of, free_of_object, give_back_empty, moves_of_frees}
use Rattle.mps_laws.proofs.Finding.{id_at-there}
use Rattle.mps_laws.proofs.Lookups.{entry_at-set_other, opened}
use Rattle.mps_laws.proofs.Positions.LegalMoves.{HasLayout, different}
use Rattle.mps_laws.proofs.Positions.Occupancy.{OfReservation, PointShape, occupancy_of, pool_of_occupant, run_of, run_of_reservation, shape_of_point}
use Rattle.mps_laws.proofs.Positions.Places.{giving_back_passes}
use Rattle.mps_laws.proofs.Positions.Segments.{IsAmong, among_aligned, among_without, found_among, of_in_segment, same_by_word}
use Rattle.mps_laws.proofs.Replays.FreeSteps.{object_replayed}
use Rattle.mps_laws.proofs.Replays.ReplayOfMoves.{freed_replayed}
use Rattle.mps_laws.proofs.Sound.SoundGraph.{All, IsSoundGraph, all-contains, auto, manual}
use Rattle.mps_laws.proofs.Sound.SoundMoves.{freed_well, unseg_well}
use Rattle.mps_client_laws.proofs.LiveBlocks.{has_live_block-of}
use Rattle.mps_client_laws.proofs.SegmentsInUse.{AreInUse, IsFreed, IsInUse, used, for_move, for_return, any_size, freed_is, manual_there, mapped, never_both, of_its_pool, passed_on, same_auto, same_by_address, same_manual}
use Rattle.mps_client_laws.proofs.SegmentsStand.{among_filtered}

-- ---- what isn't empty has a manual block

any_found : (test : ℕ → Bool) (ids : List ℕ) → list_any test ids ≡ true → (id : ℕ) × (test id ≡ true)
any_found test [] h = absurd (false≢true h)
any_found test (n ∷ ns) h = elim (or_cases (test n) (list_any test ns) h) [
  | inl here ↦ (n, here)
  | inr later ↦ any_found test ns later
]

any_size_or_automatic : (kind : PoolKind) → is_any_size_kind kind ≡ true → is_automatic_kind kind ≡ true → ⊥
any_size_or_automatic (Rattle.mps_model.specs.World.Collected kind) a b = false≢true a
any_size_or_automatic (Rattle.mps_model.specs.World.OneSize words) a b = false≢true b
any_size_or_automatic Rattle.mps_model.specs.World.AnySize a b = false≢true b
any_size_or_automatic Rattle.mps_model.specs.World.Frames a b = false≢true b

pub not_both_kinds : (o : Option Pool) → option_map_or (λ q. is_any_size_kind q.kind) o false ≡ true
    → option_map_or (λ q. is_automatic_kind q.kind) o false ≡ true → ⊥
not_both_kinds None a b = false≢true a
not_both_kinds (Some p) a b = any_size_or_automatic p.kind a b

module _ (limit : ℕ) (w : World) (laid : HasLayout limit w) (s : IsSoundGraph w) (t : Segment) (among : IsAmong t w.segments)
    (kind : any_size w t.pool ≡ true) where
  -- the pool of a point whose reservation has words is automatic
  point_pool : (n : ℕ) → 0 < (run_of (occupancy_of w) (OfReservation n)).count
      → option_map_or (λ q. is_automatic_kind q.kind) (pool_at w (pool_of_occupant (occupancy_of w) (OfReservation n))) false ≡ true
  point_pool n some =
      of_entry (slice_get w.graph.points n) refl
      (subst (λ o. 0 < (run_of_reservation o (slice_get w.point_memories n)).count)
      (ap opened (slice_get-map shape_of_point w.graph.points n)) some)
    where
      of_entry : (o : Option (Option Point)) → slice_get w.graph.points n ≡ o
          → 0 < (run_of_reservation (opened (option_map shape_of_point o)) (slice_get w.point_memories n)).count
          → option_map_or (λ q. is_automatic_kind q.kind) (pool_at w (pool_of_occupant (occupancy_of w) (OfReservation n))) false ≡ true
      of_entry None e some = absurd (omega (arith, some))
      of_entry (Some None) e some = absurd (omega (arith, some))
      of_entry (Some (Some p)) e some =
          ap (λ o. option_map_or (λ (q : Pool). is_automatic_kind q.kind)
          (pool_at w (option_map_or (λ (x : PointShape). x.pool) o 0)) false)
          (ap opened (slice_get-map shape_of_point w.graph.points n) ∙ ap (λ o. opened (option_map shape_of_point o)) e)
          ∙ (s.points n p (ap opened e)).0

  reserved_elsewhere : (n : ℕ) → 0 < (run_of (occupancy_of w) (OfReservation n)).count
      → begins_in t (run_of (occupancy_of w) (OfReservation n)) ≡ false
  reserved_elsewhere n some = elim (cases_Bool (begins_in t run)) [
    | inl is ↦ absurd (never is)
    | inr isnt ↦ isnt
  ]
    where
      run : Run
      run = run_of (occupancy_of w) (OfReservation n)

      never : begins_in t run ≡ true → ⊥
      never is =
          let home = laid.placed.homes (OfReservation n) some in
          let aligned = among_aligned t w.segments laid.aligned among in
          let covered : Covers (words_of_segment home.segment) run.from = (home.above, omega (arith, home.below, some)) in
          let same = same_by_word 1 limit w.segments t home.segment laid.ascending laid.aligned among home.held run.from
          (of_in_segment t run.from aligned is) covered in
          not_both_kinds (pool_at w t.pool) kind
          (ap (λ n. option_map_or (λ (q : Pool). is_automatic_kind q.kind) (pool_at w n) false)
          (ap (λ (x : Segment). x.pool) same ∙ home.of_pool) ∙ point_pool n some)

  pub filled_is_used : (next : Option Move) → is_empty_segment w t ≡ false → IsInUse w next t
  filled_is_used next filled =
      let aligned = among_aligned t w.segments laid.aligned among in
      let found = any_found (is_live_and (is_in_segment t) w) (live_ids w)
      (has_live_block-of limit w laid t aligned reserved_elsewhere (ap not filled)) in
      of_address found.0 (address_of w found.0) refl found.1
    where
      of_address : (id : ℕ) (o : Option ℕ) → address_of w id ≡ o → option_map_or (is_in_segment t) o false ≡ true → IsInUse w next t
      of_address id None lies inside = absurd (false≢true inside)
      of_address id (Some at) lies inside =
          let o = of_its_pool limit w t id at laid among lies inside in
          used id at (manual_there w id o.0 s o.1 (ap (any_size w) (sym o.2) ∙ kind)) lies inside

-- ---- a segment is given back

pub unseg_in_use : (limit : ℕ) (w : World) (base : Addr) (next : Option Move) → HasLayout limit (world_after_move w (moves.Unseg base))
    → AreInUse limit w (Some (moves.Unseg base)) → AreInUse limit (world_after_move w (moves.Unseg base)) next
unseg_in_use limit w base next laid h =
    passed_on limit w (world_after_move w (moves.Unseg base)) (moves.Unseg base) next (record {
      layout = laid;
      sound = (unseg_well w base.0 h.sound).sound;
      kinds = λ id. refl;
      kept_manual = λ id. refl;
      same_pools = refl;
      condemned = λ id is. h.condemned id
          (subst (λ ids. contains ids id ≡ true) (mapped w (giving_back base.0) (giving_back_passes id base.0).condemned w.collection) is);
      segments = λ s among. among_without base.0 s w.segments among;
      stays = λ id at is lies. lies;
      moved = λ s among kind from to e inside. absurd cc;
      returned = λ s among other e same. never s among (ap base_of_move e ∙ same);
    }) h
  where
    base_of_move : Move → ℕ
    base_of_move (moves.Unseg b) = b.0
    base_of_move _ = 0

    never : (s : Segment) → IsAmong s (without_segment w.segments base.0) → base.0 ≡ s.base → ⊥
    never s among same =
        false≢true (sym (ap not (eq-eqb s.base base.0 (sym same)))
        ∙ among_filtered (λ (t : Segment). not (t.base == base.0)) w.segments s among)

-- ---- one block is freed

-- a manual object isn't registered
not_registered : (w : World) (id : ℕ) → IsSoundGraph w → manual w id ≡ true → contains w.graph.registered id ≡ false
not_registered w id s h = elim (cases_Bool (contains w.graph.registered id)) [
  | inl is ↦ absurd (never_both (object_at w.graph id)
      (and_parts (is_live w id) (auto w id) (all-contains (is_live_automatic w) w.graph.registered id s.registered is)).1 h)
  | inr isnt ↦ isnt
]

none_found : (test : Segment → Bool) (ss : List Segment) (t : Segment) → find test ss ≡ None → IsAmong t ss → test t ≡ true → ⊥
none_found test [] t none among passes = among
none_found test (u ∷ us) t none among passes = by_case (none_found test us t) (test u) refl none among
  where
    by_case : (find test us ≡ None → IsAmong t us → test t ≡ true → ⊥) → (b : Bool) → test u ≡ b
        → (if b then Some u else find test us) ≡ None → IsAmong t (u ∷ us) → ⊥
    by_case rest true is none among = none-some u (sym none)
    by_case rest false isnt none (inl e) = true≢false (sym passes ∙ ap test (sym e) ∙ isnt)
    by_case rest false isnt none (inr later) = rest none later passes

module _ (limit : ℕ) (w : World) (h : AreInUse limit w None) (id at : ℕ) (is : manual w id ≡ true) (lies : address_of w id ≡ Some at) where
  abbrev freed : World
  freed = after_free w id at

  facts : IsFreed w id freed
  facts = freed_is w id at

  laid : HasLayout limit freed
  laid = (freed_replayed limit w at id h.layout (id_at-there w at id (different limit (occupancy_of w) h.layout) lies)).layout

  sound : IsSoundGraph freed
  sound = (freed_well w id at h.sound (not_registered w id h.sound is)).sound

  move_is : world_after_move w (moves.Free (at_address at)) ≡ freed
  move_is = ap (λ o. where_one w o (λ n. after_free w n at)) (id_at-there w at id (different limit (occupancy_of w) h.layout) lies)

  abbrev back : List Move
  back = give_back_empty freed (segment_of w at)

  -- the segment of the freed block is in use still, or it is given back
  its_segment : (t : Segment) → IsAmong t freed.segments → any_size freed t.pool ≡ true → is_in_segment t at ≡ true
      → IsInUse freed (first_move back) t
  its_segment t among kind inside = of_found (segment_of w at) refl
    where
      there : IsAmong t w.segments
      there = subst (IsAmong t) facts.segments among

      by_empty : (b : Bool) → is_empty_segment freed t ≡ b
          → IsInUse freed (first_move (if b then moves.Unseg (at_address t.base) ∷ [] else [])) t
      by_empty true empty = for_return (at_address t.base) refl refl
      by_empty false filled = filled_is_used limit freed laid sound t among kind None filled

      of_found : (o : Option Segment) → segment_of w at ≡ o → IsInUse freed (first_move back) t
      of_found None found = absurd (none_found (λ s. is_in_segment s at) w.segments t found there inside)
      of_found (Some s) found =
          let f = found_among (λ u. is_in_segment u at) w.segments s found in
          let same = same_by_address limit w s t at h.layout f.0 there f.1 inside in
          subst (λ ms. IsInUse freed (first_move ms) t)
          (sym (ap (give_back_empty freed) (found ∙ ap Some same)
          ∙ ap (λ b. if b && is_empty_segment freed t then moves.Unseg (at_address t.base) ∷ [] else []) kind))
          (by_empty (is_empty_segment freed t) refl)

  freed_in_use : AreInUse limit freed (first_move back)
  freed_in_use = record {
    layout = laid;
    sound = sound;
    condemned = λ n c. subst (λ u. auto u n ≡ auto w n) move_is (same_auto w (moves.Free (at_address at)) n)
        ∙ h.condemned n (subst (λ ids. contains ids n ≡ true) facts.condemned c);
    pools = λ t among. ap (λ ps. is_some (slice_get ps t.pool)) facts.pools ∙ h.pools t (subst (IsAmong t) facts.segments among);
    each = λ t among kind.
        carry t among kind (h.each t (subst (IsAmong t) facts.segments among)
        (ap (λ ps. option_map_or (λ (q : Pool). is_any_size_kind q.kind) (slice_get ps t.pool) false) (sym facts.pools) ∙ kind));
  }
    where
      carry : (t : Segment) → IsAmong t freed.segments → any_size freed t.pool ≡ true → IsInUse w None t
          → IsInUse freed (first_move back) t
      carry t among kind (for_move from to e inside) = absurd (none-some (moves.Moved from to) e)
      carry t among kind (for_return base e same) = absurd (none-some (moves.Unseg base) e)
      carry t among kind (used other a manual_is there inside) = elim (cases_eq other id) [
        | inl same ↦
            its_segment t among kind (subst (λ (n : ℕ). is_in_segment t n ≡ true)
            (same_Some a at (sym there ∙ ap (address_of w) same ∙ lies)) inside)
        | inr differs ↦
            used other a
            (subst (λ u. manual u other ≡ manual w other) move_is (same_manual w (moves.Free (at_address at)) other) ∙ manual_is)
            (ap (λ xs. entry_at xs other) facts.addresses
            ∙ entry_at-set_other w.addresses id other None (λ e. differs (sym e)) ∙ there) inside
      ]

  back_in_use : HasLayout limit (world_after_moves freed back) → AreInUse limit (world_after_moves freed back) None
  back_in_use laid_after = of_found (segment_of w at) freed_in_use laid_after
    where
      of_found : (o : Option Segment) → AreInUse limit freed (first_move (give_back_empty freed o))
          → HasLayout limit (world_after_moves freed (give_back_empty freed o))
          → AreInUse limit (world_after_moves freed (give_back_empty freed o)) None
      of_found None f laid_after = f
      of_found (Some s) f laid_after = by_case (any_size freed s.pool && is_empty_segment freed s) f laid_after
        where
          by_case : (b : Bool) → AreInUse limit freed (first_move (if b then moves.Unseg (at_address s.base) ∷ [] else []))
              → HasLayout limit (world_after_moves freed (if b then moves.Unseg (at_address s.base) ∷ [] else []))
              → AreInUse limit (world_after_moves freed (if b then moves.Unseg (at_address s.base) ∷ [] else [])) None
          by_case true f laid_after = unseg_in_use limit freed (at_address s.base) None laid_after f
          by_case false f laid_after = f

  free_in_use : HasLayout limit (world_after_moves w (free_of w at)) → AreInUse limit (world_after_moves w (free_of w at)) None
  free_in_use laid_after =
      subst (λ u. HasLayout limit (world_after_moves u (give_back_empty u (segment_of w at)))
      → AreInUse limit (world_after_moves u (give_back_empty u (segment_of w at))) None) (sym move_is) back_in_use laid_after

-- ---- several are freed

pub object_in_use : (limit : ℕ) (w : World) → AreInUse limit w None → (id : ℕ) → manual w id ≡ true
    → AreInUse limit (world_after_moves w (free_of_object w id)) None
object_in_use limit w h id is = of_address (address_of w id) refl (object_replayed limit 0 w h.layout id).layout
  where
    of_address : (o : Option ℕ) → address_of w id ≡ o → HasLayout limit (world_after_moves w (option_map_or (free_of w) o []))
        → AreInUse limit (world_after_moves w (option_map_or (free_of w) o [])) None
    of_address None lies laid_after = h
    of_address (Some at) lies laid_after = free_in_use limit w h id at is lies laid_after

manual_after : (w : World) (ms : List Move) (id : ℕ) → manual w id ≡ true → manual (world_after_moves w ms) id ≡ true
manual_after w [] id is = is
manual_after w (m ∷ ms) id is = manual_after (world_after_move w m) ms id (same_manual w m id ∙ is)

pub all_after : (w : World) (ms : List Move) (ids : List ℕ) → All (manual w) ids → All (manual (world_after_moves w ms)) ids
all_after w ms [] all = refl
all_after w ms (id ∷ ids) all =
    let parts = and_parts (manual w id) (list_all (manual w) ids) all in
    and_from (manual (world_after_moves w ms) id) (list_all (manual (world_after_moves w ms)) ids) (manual_after w ms id parts.0)
    (all_after w ms ids parts.1)

pub frees_in_use : (limit : ℕ) (w : World) → AreInUse limit w None → (ids : List ℕ) → All (manual w) ids
    → AreInUse limit (world_after_moves w (moves_of_frees w ids)) None
frees_in_use limit w h [] all = h
frees_in_use limit w h (id ∷ ids) all =
    let parts = and_parts (manual w id) (list_all (manual w) ids) all in
    let v = world_after_moves w (free_of_object w id) in
    subst (λ u. AreInUse limit u None) (sym (world_after_moves-append w (free_of_object w id) (moves_of_frees v ids)))
    (frees_in_use limit v (object_in_use limit w h id parts.0) ids (all_after w (free_of_object w id) ids parts.1))
