-- A segment more, where no segment was held: nobody has words in it until it is given to a tail or a buffer.
use Rattle.std.proofs.Common.{◌≡◌, ◌∙◌, ◌⊎◌, ℕ, ◌+◌, ◌/◌, ◌<◌, Bool, true, false, refl, sym, ap, List, [], ◌∷◌, length, Option, Some, None, subst, inl, inr, arith}
use Rattle.std.proofs.lemmas.Bool.{cases_Bool, cases_eq, false≢true}
use Rattle.std.proofs.lemmas.Option.{slice_get_within}
use Rattle.std.specs.Prelude.{map, slice_get, slice_set, nat_lt, ◌≢◌}
use Rattle.std.specs.Option.{option_map_or}
use Rattle.std.specs.List.{AllByRecursion}
use Rattle.mps_base.specs.Address.{Address, address_of_grain, grain_of}
use Rattle.mps_base.specs.Placement.{NewSegment, OverLimit, run_placement}
use Rattle.mps_base.specs.Run.{Run, Covers, IsAscending, with_run, gaps, lowest_fitting, total}
use Rattle.mps_base.specs.Segment.{Segment, grains_of_segment, words_of_segment, with_segment}
use Rattle.mps_base.specs.declared.names.Rank.{Rank}
use Rattle.mps_base.specs.declared.names.Rank.TheVariants as rank
use Rattle.mps_model.specs.Graph.{contains, entry_at}
use Rattle.mps_model.specs.World.{Pool, PointMemory, is_copying_kind}
use Rattle.mps_model.specs.History.{with_buffer}
use Rattle.mps_laws.proofs.InOrder.{all_put}
use Rattle.mps_laws.proofs.Positions.ApartRuns.{AreApart, lowest_gap, put_apart}
use Rattle.mps_laws.proofs.Positions.Segments.{IsAmong, IsAligned, base_of, among_with, among_new, among_aligned, aligned_with, grains_with, grain_of_word, segment_bounds}
use Rattle.mps_laws.proofs.Positions.Occupancy.{Occupancy, Occupant, OfBlock, OfReservation, OfBuffer, OfTail, PointShape, run_of, run_of_buffer, run_of_reservation, run_of_reserved}
use Rattle.mps_laws.proofs.Positions.LaidOut.{Home, HomeOf, IsLaidOut, IsRightlyRanked, IsKept, kind_in, placed_new, at_hand_again}
use Rattle.mps_laws.proofs.Positions.Tails.{with_tail_of, own_tail, cases_tail, keyed_with}
use Rattle.mps_laws.proofs.Lookups.{slice_get-set_same, slice_get-set_other, length-slice_set, there_is, entry_within}

pub all_among : {X : Type 0} (P : X → Type 0) (xs : List X) (x : X) → AllByRecursion P xs → IsAmong x xs → P x
all_among P [] x all h = absurd h
all_among P (y ∷ ys) x all (inl e) = subst P e all.0
all_among P (y ∷ ys) x all (inr h) = all_among P ys x all.1 h

among_map : {X Y : Type 0} (f : X → Y) (xs : List X) (x : X) → IsAmong x xs → IsAmong (f x) (map f xs)
among_map f [] x h = h
among_map f (y ∷ ys) x (inl e) = inl (ap f e)
among_map f (y ∷ ys) x (inr h) = inr (among_map f ys x h)

-- ---- where a new segment is put

-- a segment that fits between the held ones
pub record IsFresh (limit : ℕ) (segments : List Segment) (s : Segment) : Type 0 where
  pub aligned : IsAligned s
  pub ascending : IsAscending 1 limit (with_run (grains_of_segment s) (map grains_of_segment segments))

placed_by : (grains commit : ℕ) (held : List Run) (need grain count : ℕ) (b : Bool) (o : Option ℕ) → nat_lt commit (total held + need) ≡ b
    → lowest_fitting need (gaps 1 (grains + 1) held) ≡ o → run_placement grains commit held need ≡ NewSegment grain count
    → (o ≡ Some grain) × (need ≡ count)
placed_by grains commit held need grain count true o e f h = absurd
    (let g = rw e at h in let never : OverLimit (total held) need commit ≡ NewSegment grain count = g in cc)
placed_by grains commit held need grain count false None e f h = absurd (let g = rw (e, f) at h in cc)
placed_by grains commit held need grain count false (Some place) e f h =
    let g : NewSegment place need ≡ NewSegment grain count = rw (e, f) at h in
    let same : place ≡ grain = cc in
    let same' : need ≡ count = cc in
    (ap Some same, same')

-- a placement in free grains has as many as are needed
pub need_of_placement : (grains commit : ℕ) (held : List Run) (need grain count : ℕ)
    → run_placement grains commit held need ≡ NewSegment grain count → need ≡ count
need_of_placement grains commit held need grain count h =
    (placed_by grains commit held need grain count (nat_lt commit (total held + need))
    (lowest_fitting need (gaps 1 (grains + 1) held)) refl refl h).1

-- what a placement in free grains gives is fresh
pub fresh_of_placement : (limit grains commit need grain count : ℕ) (segments : List Segment) (s : Segment) → grains < limit → 0 < need
    → IsAscending 1 limit (map grains_of_segment segments)
    → run_placement grains commit (map grains_of_segment segments) need ≡ NewSegment grain count
    → s.base ≡ address_of_grain grain → s.grains ≡ count → IsFresh limit segments s
fresh_of_placement limit grains commit need grain count segments s range some asc h base size =
    let held = map grains_of_segment segments in
    let p = placed_by grains commit held need grain count (nat_lt commit (total held + need))
    (lowest_fitting need (gaps 1 (grains + 1) held)) refl refl h in
    let gap = lowest_gap 1 (grains + 1) limit held need grain some (omega (arith, range)) asc p.0 in
    let first : grain ≡ grain_of s.base = omega (arith, base) in
    let counted : need ≡ s.grains = p.1 ∙ sym size in
    record {
      aligned = omega (arith, base);
      ascending =
          subst (λ (n : ℕ). IsAscending 1 limit (with_run (record { from = n; count = s.grains }) held)) first
          (subst (λ (n : ℕ). IsAscending 1 limit (with_run (record { from = grain; count = n }) held)) counted gap.ascending);
    }

-- ---- buffers

length-with_buffer : (memories : List PointMemory) (point : ℕ) (words : Run) → length (with_buffer memories point words) ≡ length memories
length-with_buffer memories point words = of_one (slice_get memories point)
  where
    of_one : (o : Option PointMemory)
        → length (option_map_or (λ (memory : PointMemory). slice_set memories point (record memory { buffer = words })) o memories)
        ≡ length memories
    of_one None = refl
    of_one (Some m) = length-slice_set memories point (record m { buffer = words })

with_buffer-is : (memories : List PointMemory) (point : ℕ) (words : Run) (m : PointMemory) → slice_get memories point ≡ Some m
    → with_buffer memories point words ≡ slice_set memories point (record m { buffer = words })
with_buffer-is memories point words m e =
    ap (λ o. option_map_or (λ (memory : PointMemory). slice_set memories point (record memory { buffer = words })) o memories) e

pub own_buffer : (memories : List PointMemory) (point : ℕ) (words : Run) (m : PointMemory) → slice_get memories point ≡ Some m
    → run_of_buffer (slice_get (with_buffer memories point words) point) ≡ words
own_buffer memories point words m e =
    ap (λ ms. run_of_buffer (slice_get ms point)) (with_buffer-is memories point words m e)
    ∙ ap run_of_buffer (slice_get-set_same memories point (record m { buffer = words }) (slice_get_within memories point m e))

other_buffer : (memories : List PointMemory) (point q : ℕ) (words : Run) → point ≢ q
    → slice_get (with_buffer memories point words) q ≡ slice_get memories q
other_buffer memories point q words n = of_one (slice_get memories point)
  where
    of_one : (o : Option PointMemory)
        → slice_get (option_map_or (λ (memory : PointMemory). slice_set memories point (record memory { buffer = words })) o memories) q
        ≡ slice_get memories q
    of_one None = refl
    of_one (Some m) = slice_get-set_other memories point q (record m { buffer = words }) n

-- where a point's buffer is put, its reservation lies where it lay
same_reservation : (memories : List PointMemory) (point q : ℕ) (p : Option PointShape) (words : Run)
    → run_of_reservation p (slice_get (with_buffer memories point words) q) ≡ run_of_reservation p (slice_get memories q)
same_reservation memories point q p words =
    elim (cases_eq point q) [
      | inl e ↦ subst (λ (k : ℕ). run_of_reservation p (slice_get (with_buffer memories point words) k)
          ≡ run_of_reservation p (slice_get memories k)) e (of_one (slice_get memories point) refl)
      | inr n ↦ ap (run_of_reservation p) (other_buffer memories point q words n)
    ]
  where
    reserved_at : (words : Option ℕ) (m : PointMemory) (r : Run)
        → run_of_reserved words (Some (record m { buffer = r })) ≡ run_of_reserved words (Some m)
    reserved_at None m r = refl
    reserved_at (Some words) m r = refl

    in_point : (p : Option PointShape) (m : PointMemory) (r : Run)
        → run_of_reservation p (Some (record m { buffer = r })) ≡ run_of_reservation p (Some m)
    in_point None m r = refl
    in_point (Some p) m r = reserved_at p.reserved m r

    of_one : (o : Option PointMemory) → slice_get memories point ≡ o
        → run_of_reservation p (slice_get (with_buffer memories point words) point) ≡ run_of_reservation p (slice_get memories point)
    of_one None e =
        ap (λ o. run_of_reservation p (slice_get (option_map_or
        (λ (memory : PointMemory). slice_set memories point (record memory { buffer = words })) o memories) point)) e
    of_one (Some m) e =
        ap (λ ms. run_of_reservation p (slice_get ms point)) (with_buffer-is memories point words m e)
        ∙ ap (run_of_reservation p) (slice_get-set_same memories point (record m { buffer = words }) (slice_get_within memories point m e))
        ∙ in_point p m words ∙ sym (ap (run_of_reservation p) e)

in_more : {pools : List Pool} {condemned : List Address} {pool : ℕ} {rank : Rank} {r : Run} (segments : List Segment) (s : Segment)
    (o : Occupant)
    → Home segments pools condemned o pool rank r → Home (with_segment s segments) pools condemned o pool rank r
in_more segments s o home = record {
  segment = home.segment;
  held = among_with s home.segment segments home.held;
  of_pool = home.of_pool;
  of_rank = home.of_rank;
  above = home.above;
  below = home.below;
  copying = home.copying;
  spared = home.spared;
  to_end = home.to_end;
  uncondemned = home.uncondemned;
}

-- ---- a segment more

module _ (limit : ℕ) (g : Occupancy) (s : Segment) (laid : IsLaidOut limit g) (fresh : IsFresh limit g.segments s) where
  abbrev holding_it : Occupancy
  holding_it = record g { segments = with_segment s g.segments }

  fresh_apart : (t : Segment) → IsAmong t g.segments → AreApart (grains_of_segment s) (grains_of_segment t)
  fresh_apart t h =
      all_among (AreApart (grains_of_segment s)) (map grains_of_segment g.segments) (grains_of_segment t)
      (put_apart 1 limit (grains_of_segment s) (map grains_of_segment g.segments) fresh.ascending)
      (among_map grains_of_segment g.segments t h)

  -- nobody has words in it
  pub fresh_unoccupied : (o : Occupant) (n : ℕ) → Covers (run_of g o) n → Covers (words_of_segment s) n → ⊥
  fresh_unoccupied o n c d =
      let home = laid.placed.homes o (omega (arith, c.0, c.1)) in
      fresh_apart home.segment home.held (n / 512) (grain_of_word s n fresh.aligned d)
      (grain_of_word home.segment n (among_aligned home.segment g.segments laid.aligned home.held)
      (omega (arith, c.0, home.above), omega (arith, c.1, home.below)))

  pub ascending_holding : IsAscending 1 limit (map grains_of_segment (with_segment s g.segments))
  ascending_holding = subst (IsAscending 1 limit) (sym (grains_with s g.segments fresh.aligned laid.aligned)) fresh.ascending

  -- no held segment begins there
  pub fresh_base : (t : Segment) → IsAmong t g.segments → t.base ≢ s.base
  fresh_base t h e =
      let bounds = segment_bounds 1 limit g.segments t laid.ascending h in
      let own = segment_bounds 1 limit (with_segment s g.segments) s ascending_holding (among_new s g.segments) in
      fresh_apart t h (grain_of s.base) (omega arith, omega (arith, own.1)) (omega (arith, e), omega (arith, e, bounds.1))

  pub fresh_spared : contains g.condemned s.base ≡ false
  fresh_spared =
      elim (cases_Bool (contains g.condemned s.base)) [
        | inl is ↦ let t = laid.condemned s.base is in absurd (fresh_base t.0 t.1 t.2)
        | inr isnt ↦ isnt
      ]

  pub held_laid_out : IsRightlyRanked g.pools s → IsLaidOut limit holding_it
  held_laid_out ranked = record {
    in_range = laid.in_range;
    lengths = laid.lengths;
    memories = laid.memories;
    shapes = laid.shapes;
    points = laid.points;
    ascending = ascending_holding;
    aligned = aligned_with s g.segments fresh.aligned laid.aligned;
    ranked = all_put base_of (IsRightlyRanked g.pools) s g.segments ranked laid.ranked;
    condemned = λ base h. let t = laid.condemned base h in (t.0, among_with s t.0 g.segments t.1, t.2);
    distinct = laid.distinct;
    keyed = laid.keyed;
    placed = record {
      apart = laid.placed.apart;
      homes = λ o some. in_more g.segments s o (laid.placed.homes o some);
    };
  }

  -- ---- given to a tail

  abbrev tailed : Occupancy
  tailed = record holding_it { tails = with_tail_of g.tails s.pool s.generation (words_of_segment s) }

  tailed_kept : (o : Occupant) → (o ≡ OfTail s.pool s.generation) ⊎ IsKept holding_it tailed o
  tailed_kept (OfBlock id) = inr (inl (record { run = refl; pool = refl; rank = refl }))
  tailed_kept (OfReservation point) = inr (inl (record { run = refl; pool = refl; rank = refl }))
  tailed_kept (OfBuffer point) = inr (inl (record { run = refl; pool = refl; rank = refl }))
  tailed_kept (OfTail p n) =
      elim (cases_tail g.tails s.pool s.generation p n (words_of_segment s)) [
        | inl e ↦ inl (ap (λ q. OfTail q n) e.0 ∙ ap (λ m. OfTail s.pool m) e.1)
        | inr k ↦ inr (inl (record { run = k.1; pool = refl; rank = refl }))
      ]

  pub tailed_laid_out : s.rank ≡ rank.Exact → kind_in is_copying_kind g.pools s.pool ≡ true → IsLaidOut limit tailed
  tailed_laid_out exact copying =
      let held = held_laid_out (λ weak. absurd (false≢true (sym (ap Rattle.mps_model.specs.Making.is_weak_rank exact) ∙ weak))) in
      let own = own_tail g.tails s.pool s.generation (words_of_segment s) in
      at_hand_again limit holding_it g.memories (with_tail_of g.tails s.pool s.generation (words_of_segment s)) held
      (keyed_with g.tails s.pool s.generation (words_of_segment s) laid.keyed) refl
      (placed_new holding_it g.shapes g.addresses g.points g.memories (with_tail_of g.tails s.pool s.generation (words_of_segment s))
      (OfTail s.pool s.generation) tailed_kept
      (λ some. subst (Home (with_segment s g.segments) g.pools g.condemned (OfTail s.pool s.generation) s.pool rank.Exact) (sym own)
      (record {
        segment = s;
        held = among_new s g.segments;
        of_pool = refl;
        of_rank = exact;
        above = omega arith;
        below = omega arith;
        copying = λ _. copying;
        spared = λ _. fresh_spared;
        to_end = λ _. refl;
        uncondemned = λ h. absurd (false≢true h);
      }))
      (λ o n c d. fresh_unoccupied o n c (subst (λ (r : Run). Covers r n) own d)) held.placed)

  -- ---- given to a buffer

  abbrev buffered : ℕ → Occupancy
  buffered point = record holding_it { memories = with_buffer g.memories point (words_of_segment s) }

  pub buffered_laid_out : (point : ℕ) (p : PointShape) → entry_at g.points point ≡ Some p → s.pool ≡ p.pool → s.rank ≡ p.rank
      → IsRightlyRanked g.pools s → kind_in is_copying_kind g.pools s.pool ≡ true → IsLaidOut limit (buffered point)
  buffered_laid_out point p e of_pool of_rank ranked copying =
      let held = held_laid_out ranked in
      at_hand_again limit holding_it (with_buffer g.memories point (words_of_segment s)) g.tails held held.keyed
      (length-with_buffer g.memories point (words_of_segment s))
      (placed_new holding_it g.shapes g.addresses g.points (with_buffer g.memories point (words_of_segment s)) g.tails (OfBuffer point)
      (buffered_kept point) (λ some. home) (λ o n c d. fresh_unoccupied o n c (in_buffer n d)) held.placed)
    where
      pool_is : (o : Option PointShape) → o ≡ Some p → s.pool ≡ option_map_or (λ (q : PointShape). q.pool) o 0
      pool_is o f = of_pool ∙ sym (ap (λ x. option_map_or (λ (q : PointShape). q.pool) x 0) f)

      rank_is : (o : Option PointShape) → o ≡ Some p → s.rank ≡ option_map_or (λ (q : PointShape). q.rank) o rank.Exact
      rank_is o f = of_rank ∙ sym (ap (λ x. option_map_or (λ (q : PointShape). q.rank) x rank.Exact) f)

      there : (m : PointMemory) × (slice_get g.memories point ≡ Some m)
      there = there_is g.memories point (omega (arith, laid.memories, entry_within g.points point p e))

      own : run_of_buffer (slice_get (with_buffer g.memories point (words_of_segment s)) point) ≡ words_of_segment s
      own = own_buffer g.memories point (words_of_segment s) there.0 there.1

      in_buffer : (n : ℕ) → Covers (run_of (buffered point) (OfBuffer point)) n → Covers (words_of_segment s) n
      in_buffer n d = subst (λ (r : Run). Covers r n) own d

      home : HomeOf (buffered point) (OfBuffer point)
      home = subst (Home (with_segment s g.segments) g.pools g.condemned (OfBuffer point)
          (option_map_or (λ (q : PointShape). q.pool) (entry_at g.points point) 0)
          (option_map_or (λ (q : PointShape). q.rank) (entry_at g.points point) rank.Exact)) (sym own) (record {
            segment = s;
            held = among_new s g.segments;
            of_pool = pool_is (entry_at g.points point) e;
            of_rank = rank_is (entry_at g.points point) e;
            above = omega arith;
            below = omega arith;
            copying = λ _. copying;
            spared = λ _. fresh_spared;
            to_end = λ h. absurd (false≢true h);
            uncondemned = λ h. absurd (false≢true h);
          })

      buffered_kept : (point : ℕ) (o : Occupant) → (o ≡ OfBuffer point) ⊎ IsKept holding_it (buffered point) o
      buffered_kept point (OfBlock id) = inr (inl (record { run = refl; pool = refl; rank = refl }))
      buffered_kept point (OfReservation q) = inr (inl (record {
        run = same_reservation g.memories point q (entry_at g.points q) (words_of_segment s);
        pool = refl;
        rank = refl;
      }))
      buffered_kept point (OfBuffer q) =
          elim (cases_eq point q) [
            | inl f ↦ inl (ap OfBuffer (sym f))
            | inr n ↦ inr (inl (record {
              run = ap run_of_buffer (other_buffer g.memories point q (words_of_segment s) n);
              pool = refl;
              rank = refl;
            }))
          ]
      buffered_kept point (OfTail q n) = inr (inl (record { run = refl; pool = refl; rank = refl }))
