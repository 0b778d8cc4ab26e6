-- While a collection runs each held segment of an automatic pool is condemned, or holds an object that is settled, or is the one for the
-- move that comes next. So at its end each holds a live block.
use Rattle.std.proofs.Common.{◌≡◌, ◌⊎◌, inl, inr, ℕ, ◌<◌, Bool, true, false, refl, sym, ◌∙◌, ap, subst, List, [], ◌∷◌, map, Option, Some, None, arith}
use Rattle.std.proofs.lemmas.Bool.{true≢false, false≢true, and_from, cases_eq, eq-eqb, eqb-true, le-leb, lt-ltb, or_left, or_right}
use Rattle.std.proofs.lemmas.Option.{same_Some}
use Rattle.std.specs.Prelude.{not, ◌||◌, ◌==◌, filter, if◌then◌else◌, nat_le, nat_lt, option_map, slice_get, slice_set}
use Rattle.std.specs.Option.{option_map_or}
use Rattle.mps_base.specs.Address.{Address}
use Rattle.mps_base.specs.Segment.{Segment, end_of_segment, is_in_segment, with_segment, words_of_segment}
use Rattle.mps_base.specs.declared.address.Addr.{Addr}
use Rattle.mps_base.specs.declared.moves.Move.{Move}
use Rattle.mps_base.specs.declared.moves.Move.TheVariants as moves
use Rattle.mps_model.proofs.Reaching.{list_all-contains}
use Rattle.mps_model.specs.Graph.{Point, contains, entry_at, is_automatic, without_first}
use Rattle.mps_model.specs.Collection.{Collection, is_settled}
use Rattle.mps_model.specs.World.{World, Pool, id_at, is_automatic_kind, is_copying_pool, is_empty_segment, object_is, pool_is, segment_at, with_tail}
use Rattle.mps_model.specs.Effect.{Everything, after_free, after_moved, after_post, after_segment, after_splat, collection_at_flip, condemned_zones, doomed, giving_back, holding, placing, posting, reclaiming, registration_of, segment_base_of, segment_of_move, splatting, where_one, with_collection, without_object, world_after_move, world_after_moves, world_flipped}
use Rattle.mps_model.specs.Flip.{world_at_flip}
use Rattle.mps_model.specs.LegalMove.{first_move, IsLegalEnd, IsLegalMove, IsLegalMoved, IsLegalPost, IsLegalSplat, IsLegalStay, IsLegalSweep, IsSegmentForMove, holds_something}
use Rattle.mps_laws.proofs.Finding.{for_both, for_one, id_at-found}
use Rattle.mps_laws.proofs.Lookups.{entry_at-set_other, entry_at-set_same, entry_within}
use Rattle.mps_laws.proofs.Positions.LegalMoves.{HasLayout}
use Rattle.mps_laws.proofs.Positions.Places.{giving_back_passes, placing_passes, posting_passes}
use Rattle.mps_laws.proofs.Positions.Segments.{IsAmong, among_aligned, among_cases, among_new, among_without, found_among, same_by_base, segment_bounds}
use Rattle.mps_laws.proofs.Replays.ReplayOfMoves.{move_replayed}
use Rattle.mps_client_laws.specs.Complete.{OfEachCollect, has_live_block}
use Rattle.mps_client_laws.proofs.AreaWordsStay.{same_pools}
use Rattle.mps_client_laws.proofs.Completed.{IsCompleted, of_each_collect}
use Rattle.mps_client_laws.proofs.EndOfCollection.{AreAllowed, IsPassedOn, ended, goes_on_after, segment_runs}
use Rattle.mps_client_laws.proofs.LiveBlocks.{block_in, has_live_block-of, none_reserved}

-- ---- one segment

-- why a segment is held, where these are the addresses, the running collection and the move that comes next
data IsStanding (addresses : List (Option ℕ)) (c : Collection) (next : Option Move) (s : Segment) : Type 0 where
  condemned : contains c.condemned_segments s.base ≡ true → IsStanding addresses c next s
  occupied : (id at : ℕ) → entry_at addresses id ≡ Some at → is_in_segment s at ≡ true → is_settled c id ≡ true
      → IsStanding addresses c next s
  awaited : (from to : Addr) → next ≡ Some (moves.Moved from to) → is_in_segment s to.0 ≡ true → IsStanding addresses c next s

-- a move that isn't one of a block leaves it standing, where it settles no less and condemned segments stay condemned
passed_on : (these those : List (Option ℕ)) (c d : Collection) (m : Move) (next : Option Move) (s : Segment)
    → ((from to : Addr) → m ≡ moves.Moved from to → is_in_segment s to.0 ≡ true → IsStanding those d next s)
    → (contains c.condemned_segments s.base ≡ true → contains d.condemned_segments s.base ≡ true)
    → ((id : ℕ) → is_settled c id ≡ true → is_settled d id ≡ true)
    → ((id at : ℕ) → is_settled c id ≡ true → entry_at these id ≡ Some at → entry_at those id ≡ Some at)
    → IsStanding these c (Some m) s → IsStanding those d next s
passed_on these those c d m next s moved still settles stays (condemned h) = condemned (still h)
passed_on these those c d m next s moved still settles stays (occupied id at lies inside settled) =
    occupied id at (stays id at settled lies) inside (settles id settled)
passed_on these those c d m next s moved still settles stays (awaited from to e inside) =
    moved from to (same_Some m (moves.Moved from to) e) inside

pub among_filtered : (test : Segment → Bool) (ss : List Segment) (s : Segment) → IsAmong s (filter test ss) → test s ≡ true
among_filtered test [] s among = absurd among
among_filtered test (t ∷ ts) s among = by_case (among_filtered test ts s) (test t) refl among
  where
    by_case : (IsAmong s (filter test ts) → test s ≡ true) → (b : Bool) → test t ≡ b
        → IsAmong s (if b then t ∷ filter test ts else filter test ts) → test s ≡ true
    by_case rest true passes (inl e) = ap test (sym e) ∙ passes
    by_case rest true passes (inr later) = rest later
    by_case rest false fails later = rest later

other_contained : (ns : List ℕ) (n m : ℕ) → (m == n) ≡ false → contains ns m ≡ true → contains (without_first ns n) m ≡ true
other_contained [] n m differs h = h
other_contained (k ∷ ks) n m differs h = by_case (other_contained ks n m differs) (k == n) refl (k == m) refl h
  where
    by_case : (contains ks m ≡ true → contains (without_first ks n) m ≡ true) → (b : Bool) → (k == n) ≡ b → (e : Bool) → (k == m) ≡ e
        → (e || contains ks m) ≡ true → contains (if b then ks else k ∷ without_first ks n) m ≡ true
    by_case rest true is true same h =
        absurd (true≢false (sym (eq-eqb m n (sym (eqb-true k m same) ∙ eqb-true k n is)) ∙ differs))
    by_case rest true is false same h = h
    by_case rest false is true same h = or_left (k == m) (contains (without_first ks n) m) same
    by_case rest false is false same h = or_right (k == m) (contains (without_first ks n) m) (rest h)

-- ---- all segments

module _ (limit : ℕ) (automatic : ℕ → Bool) (points : List (Option Point)) where
  -- each held segment of an automatic pool is standing
  record AreStanding (w : World) (c : Collection) (next : Option Move) : Type 0 where
    layout : HasLayout limit w
    points_are : w.graph.points ≡ points
    each : (s : Segment) → IsAmong s w.segments → automatic s.pool ≡ true → IsStanding w.addresses c next s

  abbrev Any : World → Move → Type 0
  Any w m = Unit {0}

  -- a change of the collection alone
  changed : (w u : World) (c d : Collection) (m : Move) (next : Option Move) → goes_on_after m ≡ true → HasLayout limit u
      → u.graph.points ≡ w.graph.points → u.segments ≡ w.segments → u.addresses ≡ w.addresses
      → ((from to : Addr) → m ≡ moves.Moved from to → ⊥)
      → ((base : ℕ) → contains c.condemned_segments base ≡ true → contains d.condemned_segments base ≡ true)
      → ((id : ℕ) → is_settled c id ≡ true → is_settled d id ≡ true) → AreStanding w c (Some m) → AreStanding u d next
  changed w u c d m next goes laid same_points segments addresses other still settles h = record {
    layout = laid;
    points_are = same_points ∙ h.points_are;
    each = λ s among kind.
        passed_on w.addresses u.addresses c d m next s (λ from to e inside. absurd (other from to e)) (still s.base) settles
        (λ id at settled lies. ap (λ xs. entry_at xs id) addresses ∙ lies)
        (h.each s (subst (IsAmong s) segments among) kind);
  }

  -- a new segment, for the move that comes next
  taken : (w : World) (c : Collection) (base : Addr) (grains pool generation : ℕ) (next : Option Move)
      → IsLegalMove w None (moves.Seg base grains pool generation) next
      → HasLayout limit (after_segment w (segment_of_move base.0 grains pool generation))
      → AreStanding w c (Some (moves.Seg base grains pool generation))
      → AreStanding (after_segment w (segment_of_move base.0 grains pool generation)) c next
  taken w c base grains pool generation next legal laid h = record {
    layout = laid;
    points_are = parts.0 ∙ h.points_are;
    each = λ t among kind. of_case t kind (among_cases s t w.segments (subst (IsAmong t) parts.1 among));
  }
    where
      s : Segment
      s = segment_of_move base.0 grains pool generation

      by_kind : (b : Bool)
          → ((if b then with_tail (holding w s) s.pool s.generation (words_of_segment s) else holding w s).graph.points ≡ w.graph.points)
          × ((if b then with_tail (holding w s) s.pool s.generation (words_of_segment s) else holding w s).segments
          ≡ with_segment s w.segments)
          × ((if b then with_tail (holding w s) s.pool s.generation (words_of_segment s) else holding w s).addresses ≡ w.addresses)
      by_kind true = (refl, refl, refl)
      by_kind false = (refl, refl, refl)

      parts : ((after_segment w s).graph.points ≡ w.graph.points) × ((after_segment w s).segments ≡ with_segment s w.segments)
          × ((after_segment w s).addresses ≡ w.addresses)
      parts = by_kind (is_copying_pool w s.pool)

      filled : 0 < grains
      filled = (segment_bounds 1 limit (after_segment w s).segments s laid.ascending
          (subst (IsAmong s) (sym parts.1) (among_new s w.segments))).1

      at_base : (to : ℕ) → to ≡ base.0 → is_in_segment s to ≡ true
      at_base to e =
          and_from (nat_le base.0 to) (nat_lt to (end_of_segment s)) (le-leb base.0 to (omega (arith, e)))
          (lt-ltb to (end_of_segment s) (omega (arith, e, filled)))

      new : (next : Option Move) → IsLegalMove w None (moves.Seg base grains pool generation) next
          → IsStanding (after_segment w s).addresses c next s
      new (Some (moves.Moved from to)) legal =
          let f = for_one (IsSegmentForMove w base.0 grains pool generation to.0) (id_at w from.0) legal in
          awaited from to refl (at_base to.0 (f.2).first)
      new None legal = absurd legal
      new (Some _) legal = absurd legal

      of_case : (t : Segment) → automatic t.pool ≡ true → (s ≡ t) ⊎ IsAmong t w.segments
          → IsStanding (after_segment w s).addresses c next t
      of_case t kind (inl e) = subst (IsStanding (after_segment w s).addresses c next) e (new next legal)
      of_case t kind (inr among) =
          passed_on w.addresses (after_segment w s).addresses c c (moves.Seg base grains pool generation) next t
          (λ from to e inside. absurd cc) (λ still. still) (λ id settled. settled)
          (λ id at settled lies. ap (λ xs. entry_at xs id) parts.2 ∙ lies) (h.each t among kind)

  -- a segment is given back
  given_back : (w : World) (c : Collection) (base : Addr) (next : Option Move) → HasLayout limit (world_after_move w (moves.Unseg base))
      → AreStanding w c (Some (moves.Unseg base)) → AreStanding (world_after_move w (moves.Unseg base)) (giving_back base.0 c) next
  given_back w c base next laid h = record {
    layout = laid;
    points_are = h.points_are;
    each = λ t among kind.
        passed_on w.addresses w.addresses c (giving_back base.0 c) (moves.Unseg base) next t (λ from to e inside. absurd cc)
        (still t (among_filtered (λ (s : Segment). not (s.base == base.0)) w.segments t among) (contains c.condemned_segments base.0))
        (λ id settled. (giving_back_passes id base.0).settles c settled) (λ id at settled lies. lies)
        (h.each t (among_without base.0 t w.segments among) kind);
  }
    where
      not_true : (b : Bool) → not b ≡ true → b ≡ false
      not_true true e = absurd (false≢true e)
      not_true false e = refl

      still : (t : Segment) → not (t.base == base.0) ≡ true → (b : Bool) → contains c.condemned_segments t.base ≡ true
          → contains (if b then reclaiming base.0 (record c { condemned_segments = without_first c.condemned_segments base.0 })
          else c).condemned_segments t.base
          ≡ true
      still t other true h = other_contained c.condemned_segments base.0 t.base (not_true (t.base == base.0) other) h
      still t other false h = h

  -- the address of an object changes that isn't settled
  stays_there : (w : World) (c : Collection) (other : ℕ) (to : Option ℕ) → not (is_settled c other) ≡ true → (id at : ℕ)
      → is_settled c id ≡ true → entry_at w.addresses id ≡ Some at → entry_at (slice_set w.addresses other to) id ≡ Some at
  stays_there w c other to unsettled id at settled lies = elim (cases_eq other id) [
    | inl same ↦ absurd (false≢true (sym (ap not (ap (is_settled c) same ∙ settled)) ∙ unsettled))
    | inr differs ↦ entry_at-set_other w.addresses other id to differs ∙ lies
  ]

  moved_there : (w : World) (c : Collection) (other : ℕ) (from to : Addr) (next : Option Move) → id_at w from.0 ≡ Some other
      → not (is_settled c other) ≡ true → HasLayout limit (after_moved w other to.0) → AreStanding w c (Some (moves.Moved from to))
      → AreStanding (after_moved w other to.0) (placing other c) next
  moved_there w c other from to next found unsettled laid h = record {
    layout = laid;
    points_are = h.points_are;
    each = λ s among kind.
        passed_on w.addresses (slice_set w.addresses other (Some to.0)) c (placing other c) (moves.Moved from to) next s
        (λ start there e inside. here s (subst (λ (a : Addr). is_in_segment s a.0 ≡ true) (sym (target_is start there e)) inside))
        (λ still. still) (λ id settled. (placing_passes id other).settles c settled) (stays_there w c other (Some to.0) unsettled)
        (h.each s among kind);
  }
    where
      target_is : (start there : Addr) → moves.Moved from to ≡ moves.Moved start there → to ≡ there
      target_is start there e = cc

      here : (s : Segment) → is_in_segment s to.0 ≡ true → IsStanding (slice_set w.addresses other (Some to.0)) (placing other c) next s
      here s inside =
          occupied other to.0
          (entry_at-set_same w.addresses other (Some to.0)
          (entry_within w.addresses other from.0 (id_at-found w from.0 other found))) inside
          (or_right (contains c.pinned other) (contains (other ∷ c.placed) other || contains c.had other)
          (or_left (contains (other ∷ c.placed) other) (contains c.had other)
          (or_left (other == other) (contains c.placed other) (eq-eqb other other refl))))

  freed : (w : World) (c : Collection) (other : ℕ) (at : Addr) (next : Option Move) → w.collection ≡ Some c
      → not (is_settled c other) ≡ true → HasLayout limit (after_free w other at.0) → AreStanding w c (Some (moves.Free at))
      → IsPassedOn AreStanding (after_free w other at.0) next
  freed w c other at next runs unsettled laid h = by_kind (object_is is_automatic w other) laid
    where
      each_stands : (d : Collection) → ((base : ℕ) → contains c.condemned_segments base ≡ true → contains d.condemned_segments base ≡ true)
          → ((id : ℕ) → is_settled c id ≡ true → is_settled d id ≡ true) → (s : Segment) → IsAmong s w.segments
          → automatic s.pool ≡ true
          → IsStanding (slice_set w.addresses other None) d next s
      each_stands d still settles s among kind =
          passed_on w.addresses (slice_set w.addresses other None) c d (moves.Free at) next s (λ from to e inside. absurd cc)
          (still s.base) settles (stays_there w c other None unsettled) (h.each s among kind)

      by_kind : (b : Bool)
          → HasLayout limit (if b then with_collection (without_object w other) (reclaiming (segment_base_of w at.0))
          else without_object w other)
          → IsPassedOn AreStanding (if b then with_collection (without_object w other) (reclaiming (segment_base_of w at.0))
          else without_object w other) next
      by_kind true laid = record {
        collection = reclaiming (segment_base_of w at.0) c;
        runs = ap (option_map (reclaiming (segment_base_of w at.0))) runs;
        holds = record {
          layout = laid;
          points_are = h.points_are;
          each = each_stands (reclaiming (segment_base_of w at.0) c) (λ base still. still) (λ id settled. settled);
        };
      }
      by_kind false laid = record {
        collection = c;
        runs = runs;
        holds = record { layout = laid; points_are = h.points_are; each = each_stands c (λ base still. still) (λ id settled. settled) };
      }

  stands_on : (w : World) (c : Collection) (before : Option Move) (m : Move) (next : Option Move) → w.collection ≡ Some c
      → goes_on_after m ≡ true → Unit {0} → IsLegalMove w before m next → AreStanding w c (Some m)
      → IsPassedOn AreStanding (world_after_move w m) next
  stands_on w c before (moves.Seg base grains pool generation) next runs goes any legal h = record {
    collection = c;
    runs = segment_runs w (segment_of_move base.0 grains pool generation) ∙ runs;
    holds = taken w c base grains pool generation next legal
        (move_replayed limit w before (moves.Seg base grains pool generation) next 0 h.layout legal).layout h;
  }
  stands_on w c before (moves.Unseg base) next runs goes any legal h = record {
    collection = giving_back base.0 c;
    runs = ap (option_map (giving_back base.0)) runs;
    holds = given_back w c base next (move_replayed limit w before (moves.Unseg base) next 0 h.layout legal).layout h;
  }
  stands_on w c before (moves.Flip zones chain generation) next runs goes any legal h = absurd (false≢true goes)
  stands_on w c before moves.End next runs goes any legal h = absurd (false≢true goes)
  stands_on w c before (moves.Moved from to) next runs goes any legal h =
      let b = for_both w.collection (id_at w from.0) (λ c other. IsLegalMoved w c other to.0) legal in
      let laid = subst (λ o. HasLayout limit (where_one w o (λ other. after_moved w other to.0))) b.is_second
      (move_replayed limit w before (moves.Moved from to) next 0 h.layout legal).layout in
      let same : b.first ≡ c = same_Some b.first c (sym b.is_first ∙ runs) in
      subst (λ o. IsPassedOn AreStanding (where_one w o (λ other. after_moved w other to.0)) next) (sym b.is_second) (record {
        collection = placing b.second c;
        runs = ap (option_map (placing b.second)) runs;
        holds = moved_there w c b.second from to next b.is_second
            (subst (λ (d : Collection). not (is_settled d b.second) ≡ true) same b.holds.not_settled) laid h;
      })
  stands_on w c before (moves.Stay at) next runs goes any legal h =
      let b = for_both w.collection (id_at w at.0) (IsLegalStay w) legal in
      let laid = subst (λ o. HasLayout limit (where_one w o (λ other. with_collection w (placing other)))) b.is_second
      (move_replayed limit w before (moves.Stay at) next 0 h.layout legal).layout in
      subst (λ o. IsPassedOn AreStanding (where_one w o (λ other. with_collection w (placing other))) next) (sym b.is_second) (record {
        collection = placing b.second c;
        runs = ap (option_map (placing b.second)) runs;
        holds = changed w (with_collection w (placing b.second)) c (placing b.second c) (moves.Stay at) next refl laid refl refl refl
            (λ from to e. absurd cc) (λ base still. still) (λ id settled. (placing_passes id b.second).settles c settled) h;
      })
  stands_on w c before (moves.Splat holder cell) next runs goes any legal h =
      let b = for_both w.collection (id_at w holder.0) (λ c other. IsLegalSplat w c other cell) legal in
      let laid = subst (λ o. HasLayout limit (where_one w o (λ other. after_splat w other cell))) b.is_second
      (move_replayed limit w before (moves.Splat holder cell) next 0 h.layout legal).layout in
      subst (λ o. IsPassedOn AreStanding (where_one w o (λ other. after_splat w other cell)) next) (sym b.is_second) (record {
        collection = splatting c;
        runs = ap (option_map splatting) runs;
        holds = changed w (after_splat w b.second cell) c (splatting c) (moves.Splat holder cell) next refl laid refl refl refl
            (λ from to e. absurd cc) (λ base still. still) (λ id settled. settled) h;
      })
  stands_on w c before (moves.Post at) next runs goes any legal h =
      let b = for_both w.collection (id_at w at.0) (λ c other. IsLegalPost w c before other at.0) legal in
      let laid = subst (λ o. HasLayout limit (where_one w o (after_post w))) b.is_second
      (move_replayed limit w before (moves.Post at) next 0 h.layout legal).layout in
      let position = registration_of w.graph b.second in
      subst (λ o. IsPassedOn AreStanding (where_one w o (after_post w)) next) (sym b.is_second) (record {
        collection = posting b.second position c;
        runs = ap (option_map (posting b.second position)) runs;
        holds = changed w (after_post w b.second) c (posting b.second position c) (moves.Post at) next refl laid refl refl refl
            (λ from to e. absurd cc) (λ base still. still) (λ id settled. (posting_passes id b.second position).settles c settled) h;
      })
  stands_on w c before (moves.Commit at words pool) next runs goes any legal h = absurd legal
  stands_on w c before (moves.Alloc at words pool) next runs goes any legal h = absurd legal
  stands_on w c before (moves.Free at) next runs goes any legal h =
      let b = for_both w.collection (id_at w at.0) (IsLegalSweep w) legal in
      let laid = subst (λ o. HasLayout limit (where_one w o (λ other. after_free w other at.0))) b.is_second
      (move_replayed limit w before (moves.Free at) next 0 h.layout legal).layout in
      let same : b.first ≡ c = same_Some b.first c (sym b.is_first ∙ runs) in
      subst (λ o. IsPassedOn AreStanding (where_one w o (λ other. after_free w other at.0)) next) (sym b.is_second)
      (freed w c b.second at next runs
      (subst (λ (d : Collection). not (is_settled d b.second) ≡ true) same b.holds.gone.not_settled) laid h)

  all_any : (w : World) (ms : List Move) → AreAllowed Any w ms
  all_any w [] = tt
  all_any w (m ∷ ms) = (tt, all_any (world_after_move w m) ms)

-- ---- the end

module _ (limit : ℕ) (automatic : ℕ → Bool) (points : List (Option Point)) (w : World) (c : Collection)
    (h : AreStanding limit automatic (map doomed points) w c (Some moves.End)) (legal : IsLegalEnd w c) where
  standing_has_block : (s : Segment) → IsAmong s w.segments → IsStanding w.addresses c (Some moves.End) s → has_live_block w s ≡ true
  standing_has_block s among (condemned is) = of_found (segment_at w s.base) refl something
    where
      something : holds_something w s.base ≡ true
      something = list_all-contains (holds_something w) c.condemned_segments s.base legal.segments is

      of_found : (o : Option Segment) → segment_at w s.base ≡ o
          → option_map_or (λ t. not (is_empty_segment w t)) o false ≡ true → has_live_block w s ≡ true
      of_found None found filled = absurd (false≢true filled)
      of_found (Some t) found filled =
          let at = found_among (λ (u : Segment). u.base == s.base) w.segments t found in
          let same = same_by_base 1 limit w.segments t s h.layout.ascending at.0 among (eqb-true t.base s.base at.1) in
          has_live_block-of limit w h.layout s (among_aligned s w.segments h.layout.aligned among)
          (λ n some. absurd (let zero = none_reserved w points h.points_are n in omega (arith, zero, some)))
          (subst (λ (u : Segment). not (is_empty_segment w u) ≡ true) same filled)
  standing_has_block s among (occupied id at lies inside settled) = block_in w s id at lies inside
  standing_has_block s among (awaited from to e inside) = absurd cc

-- ---- the law

-- in each held segment of an automatic pool lies a live block
abbrev pub AutomaticHaveBlocks : (after : World) → Type 0
AutomaticHaveBlocks after =
    (base : Address) (s : Segment) → segment_at after base ≡ Some s → pool_is is_automatic_kind after s.pool ≡ true
    → has_live_block after s ≡ true

module _ (v : World) (later : List Move) (c : IsCompleted v later) where
  abbrev flipped : World
  flipped = world_at_flip v Everything

  abbrev moved : World
  moved = world_after_moves flipped later

  abbrev begun : Collection
  begun = collection_at_flip (world_flipped v (condemned_zones v Everything)) Everything

  abbrev of_automatic : ℕ → Bool
  of_automatic pool = pool_is is_automatic_kind flipped pool

  base_condemned : (ss : List Segment) (s : Segment) → IsAmong s ss → of_automatic s.pool ≡ true
      → contains (map (λ (t : Segment). t.base) (filter (λ t. of_automatic t.pool) ss)) s.base ≡ true
  base_condemned [] s among kind = absurd among
  base_condemned (t ∷ ts) s (inl e) kind =
      ap (λ b. contains (map (λ (u : Segment). u.base) (if b then t ∷ filter (λ u. of_automatic u.pool) ts
      else filter (λ u. of_automatic u.pool) ts)) s.base) (ap (λ (u : Segment). of_automatic u.pool) e ∙ kind)
      ∙ or_left (t.base == s.base) (contains (map (λ (u : Segment). u.base) (filter (λ u. of_automatic u.pool) ts)) s.base)
      (eq-eqb t.base s.base (ap (λ (u : Segment). u.base) e))
  base_condemned (t ∷ ts) s (inr among) kind = by_case (of_automatic t.pool) (base_condemned ts s among kind)
    where
      by_case : (b : Bool) → contains (map (λ (u : Segment). u.base) (filter (λ u. of_automatic u.pool) ts)) s.base ≡ true
          → contains (map (λ (u : Segment). u.base) (if b then t ∷ filter (λ u. of_automatic u.pool) ts
          else filter (λ u. of_automatic u.pool) ts)) s.base
          ≡ true
      by_case true rest =
          or_right (t.base == s.base) (contains (map (λ (u : Segment). u.base) (filter (λ u. of_automatic u.pool) ts)) s.base) rest
      by_case false rest = rest

  first_standing : (next : Option Move) → AreStanding c.limit of_automatic (map doomed v.graph.points) flipped begun next
  first_standing next = record {
    layout = c.layout;
    points_are = refl;
    each = λ s among kind. condemned (base_condemned flipped.segments s among kind);
  }

  segments_have_blocks : AutomaticHaveBlocks moved
  segments_have_blocks base s found kind =
      let doomed_points = map doomed v.graph.points in
      let end = ended (AreStanding c.limit of_automatic doomed_points) (Any c.limit of_automatic doomed_points)
      (stands_on c.limit of_automatic doomed_points) flipped begun c.last later refl c.no_flip
      (all_any c.limit of_automatic doomed_points flipped later) c.legal c.ends (first_standing (first_move later)) in
      let among = (found_among (λ (t : Segment). t.base == base) moved.segments s found).0 in
      let there = subst (λ (u : World). IsAmong s u.segments) end.after_is among in
      ap (λ u. has_live_block u s) end.after_is
      ∙ standing_has_block c.limit of_automatic v.graph.points end.world end.collection end.holds end.legal s there
      (end.holds.each s there
      (sym (ap (λ ps. option_map_or (λ (p : Pool). is_automatic_kind p.kind) (slice_get ps s.pool) false) (same_pools v later c)) ∙ kind))

pub automatic_have_blocks : OfEachCollect (λ before flipped later after. AutomaticHaveBlocks after)
automatic_have_blocks =
    of_each_collect (λ before flipped later after. AutomaticHaveBlocks after) (λ w v later k held same c. segments_have_blocks v later c)
