-- A collection begins and ends, and a segment in which nothing lies is given back: the arena stays laid out.
use Rattle.std.proofs.Common.{◌≡◌, ◌∙◌, ◌⊎◌, ℕ, ◌<◌, Bool, true, false, refl, sym, ap, List, [], ◌∷◌, Option, Some, None, subst, inl, inr, arith}
use Rattle.std.proofs.lemmas.List.{length-map}
use Rattle.std.proofs.lemmas.Bool.{cases_Bool, false≢true, true≢false, eq-eqb, eqb-true, ne_eqb, or_cases, or_left, or_right}
use Rattle.std.proofs.lemmas.Option.{none-some, same_Some, slice_get-map}
use Rattle.std.specs.Prelude.{map, slice_get, option_map, filter, not, ◌==◌, ◌||◌, ◌≢◌, if◌then◌else◌}
use Rattle.mps_base.specs.Address.{Address, grain_of}
use Rattle.mps_base.specs.Run.{Run, IsAscending, end_of}
use Rattle.mps_base.specs.Segment.{Segment, grains_of_segment, without_segment}
use Rattle.mps_model.specs.Graph.{Point, Reservation, contains, without_first, entry_at}
use Rattle.mps_model.specs.World.{PointMemory}
use Rattle.mps_model.specs.Effect.{doomed, without_buffer}
use Rattle.mps_laws.proofs.Lookups.{opened}
use Rattle.mps_laws.proofs.Positions.Occupancy.{Occupancy, Occupant, OfBlock, OfReservation, OfBuffer, OfTail, PointShape, shape_of_point, reserved_words, run_of, run_of_reservation, run_of_buffer}
use Rattle.mps_laws.proofs.Positions.LaidOut.{Home, IsLaidOut, IsRightPointShape, IsKept, AreDistinct, is_at_hand, placed_kept, laid_out_again, home_otherwise, is_reserved}
use Rattle.mps_laws.proofs.Positions.Segments.{IsAmong, IsAligned, all_without, among_kept, ascending_without, segment_bounds}

-- ---- lists of bases

pub contains-filter : (test : Segment → Bool) (ss : List Segment) (base : Address)
    → contains (map (λ (s : Segment). s.base) (filter test ss)) base ≡ true → (s : Segment) × IsAmong s ss × (s.base ≡ base)
contains-filter test [] base h = absurd (false≢true h)
contains-filter test (s ∷ ss) base h =
    elim (test s) as (λ b. contains (map (λ (s : Segment). s.base) (if b then s ∷ filter test ss else filter test ss)) base ≡ true
    → (t : Segment) × IsAmong t (s ∷ ss) × (t.base ≡ base)) [
      | true ↦
          (λ g. elim (or_cases (s.base == base) (contains (map (λ (t : Segment). t.base) (filter test ss)) base) g) [
            | inl e ↦ (s, inl refl, eqb-true s.base base e)
            | inr later ↦ let rest = contains-filter test ss base later in (rest.0, inr rest.1, rest.2)
          ])
      | false ↦ (λ g. let rest = contains-filter test ss base g in (rest.0, inr rest.1, rest.2))
    ] h

-- segments that ascend begin at addresses of their own
pub distinct_bases : (test : Segment → Bool) (low limit : ℕ) (ss : List Segment) → IsAscending low limit (map grains_of_segment ss)
    → AreDistinct (map (λ (s : Segment). s.base) (filter test ss))
distinct_bases test low limit [] asc = tt
distinct_bases test low limit (s ∷ ss) asc =
    elim (test s) as (λ b. AreDistinct (map (λ (s : Segment). s.base) (if b then s ∷ filter test ss else filter test ss))) [
      | true ↦ (
        none (cases_Bool (contains (map (λ (s : Segment). s.base) (filter test ss)) s.base)),
        distinct_bases test (end_of (grains_of_segment s)) limit ss asc.2,
      )
      | false ↦ distinct_bases test (end_of (grains_of_segment s)) limit ss asc.2
    ]
  where
    none : (contains (map (λ (s : Segment). s.base) (filter test ss)) s.base ≡ true) ⊎
        (contains (map (λ (s : Segment). s.base) (filter test ss)) s.base ≡ false)
        → contains (map (λ (s : Segment). s.base) (filter test ss)) s.base ≡ false
    none (inl is) =
        let t = contains-filter test ss s.base is in
        let past = (segment_bounds (end_of (grains_of_segment s)) limit ss t.0 asc.2 t.1).0 in
        let same = t.2 in
        absurd (omega (arith, past, ap grain_of same, asc.1))
    none (inr isnt) = isnt

pub contains-without_first : (ns : List ℕ) (n m : ℕ) → AreDistinct ns → contains (without_first ns n) m ≡ true
    → (contains ns m ≡ true) × (m ≢ n)
contains-without_first [] n m d h = absurd (false≢true h)
contains-without_first (k ∷ ks) n m d h =
    elim (k == n) as (λ b. (k == n) ≡ b → contains (if b then ks else k ∷ without_first ks n) m ≡ true
    → (contains (k ∷ ks) m ≡ true) × (m ≢ n)) [
      | true ↦
          (λ is g. (
            or_right (k == m) (contains ks m) g,
            (λ e. false≢true (sym d.0 ∙ subst (λ (x : ℕ). contains ks x ≡ true) (e ∙ sym (eqb-true k n is)) g)),
          ))
      | false ↦
          (λ isnt g. elim (or_cases (k == m) (contains (without_first ks n) m) g) [
            | inl e ↦
                (or_left (k == m) (contains ks m) e, (λ same. false≢true (sym isnt ∙ eq-eqb k n (eqb-true k m e ∙ same))))
            | inr later ↦
                let rest = contains-without_first ks n m d.1 later in (or_right (k == m) (contains ks m) rest.0, rest.1)
          ])
    ] refl h

pub distinct-without_first : (ns : List ℕ) (n : ℕ) → AreDistinct ns → AreDistinct (without_first ns n)
distinct-without_first [] n d = tt
distinct-without_first (k ∷ ks) n d =
    elim (k == n) as (λ b. AreDistinct (if b then ks else k ∷ without_first ks n)) [
      | true ↦ d.1
      | false ↦ (none (cases_Bool (contains (without_first ks n) k)), distinct-without_first ks n d.1)
    ]
  where
    none : (contains (without_first ks n) k ≡ true) ⊎ (contains (without_first ks n) k ≡ false) → contains (without_first ks n) k ≡ false
    none (inl is) = absurd (false≢true (sym d.0 ∙ (contains-without_first ks n k d.1 is).0))
    none (inr isnt) = isnt

pub without_first-none : (ns : List ℕ) (n : ℕ) → contains ns n ≡ false → without_first ns n ≡ ns
without_first-none [] n h = refl
without_first-none (k ∷ ks) n h =
    elim (k == n) as (λ b. (b || contains ks n) ≡ false → (if b then ks else k ∷ without_first ks n) ≡ k ∷ ks) [
      | true ↦ (λ g. absurd (true≢false g))
      | false ↦ (λ g. ap (λ rest. k ∷ rest) (without_first-none ks n g))
    ] h

-- ---- the condemned segments change

recondemned_home : {segments : List Segment} {pool : ℕ} {rank : Rattle.mps_base.specs.declared.names.Rank.Rank} {r : Run}
    (pools : List Rattle.mps_model.specs.World.Pool) (condemned condemned' : List Address) (o : Occupant)
    → ((base : Address) → is_at_hand o ≡ true → contains condemned base ≡ false → contains condemned' base ≡ false)
    → ((base : Address) → is_reserved o ≡ true → contains condemned base ≡ false → contains condemned' base ≡ false)
    → Home segments pools condemned o pool rank r → Home segments pools condemned' o pool rank r
recondemned_home pools condemned condemned' o spared reserved home =
    home_otherwise pools condemned' home home.copying (λ h. spared home.segment.base h (home.spared h)) (λ h.
    elim (home.uncondemned h) [
      | inl free ↦ inl (reserved home.segment.base h free)
      | inr staying ↦ inr staying
    ])

pub recondemned : (limit : ℕ) (g : Occupancy) (condemned : List Address) → IsLaidOut limit g
    → ((o : Occupant) (base : Address) → 0 < (run_of g o).count → is_at_hand o ≡ true → contains g.condemned base ≡ false
    → contains condemned base ≡ false)
    → ((o : Occupant) (base : Address) → 0 < (run_of g o).count → is_reserved o ≡ true → contains g.condemned base ≡ false
    → contains condemned base ≡ false)
    → ((base : Address) → contains condemned base ≡ true → (s : Segment) × IsAmong s g.segments × (s.base ≡ base)) → AreDistinct condemned
    → IsLaidOut limit (record g { condemned = condemned })
recondemned limit g condemned laid spared reserved held distinct = record {
  in_range = laid.in_range;
  lengths = laid.lengths;
  memories = laid.memories;
  shapes = laid.shapes;
  points = laid.points;
  ascending = laid.ascending;
  aligned = laid.aligned;
  ranked = laid.ranked;
  condemned = held;
  distinct = distinct;
  keyed = laid.keyed;
  placed = record {
    apart = laid.placed.apart;
    homes = λ o some.
        recondemned_home g.pools g.condemned condemned o (λ base h free. spared o base some h free)
        (λ base h free. reserved o base some h free) (laid.placed.homes o some);
  };
}

-- a collection ends
pub ended_laid_out : (limit : ℕ) (g : Occupancy) → IsLaidOut limit g → IsLaidOut limit (record g { condemned = [] })
ended_laid_out limit g laid =
    recondemned limit g [] laid (λ o base some h free. refl) (λ o base some h free. refl) (λ base h. absurd (false≢true h)) tt

-- ---- a flip

abbrev pub without_reserved : Option PointShape → Option PointShape
without_reserved None = None
without_reserved (Some p) = Some (record p { reserved = None })

doomed_words : (r : Option Reservation) → reserved_words (option_map (λ (x : Reservation). record x { is_doomed = true }) r) ≡ None
doomed_words None = refl
doomed_words (Some r) = refl

doomed_shape : (p : Option Point) → shape_of_point (doomed p) ≡ without_reserved (shape_of_point p)
doomed_shape None = refl
doomed_shape (Some p) =
    ap (λ r. Some (record { pool = p.pool; rank = p.rank; reserved = r })) (doomed_words p.reservation)

pub doomed_shapes : (ps : List (Option Point)) → map shape_of_point (map doomed ps) ≡ map without_reserved (map shape_of_point ps)
doomed_shapes [] = refl
doomed_shapes (p ∷ ps) = ap (λ s. s ∷ map shape_of_point (map doomed ps)) (doomed_shape p)
    ∙ ap (λ rest. without_reserved (shape_of_point p) ∷ rest) (doomed_shapes ps)

module _ (limit : ℕ) (g : Occupancy) (laid : IsLaidOut limit g) where
  abbrev flipped : Occupancy
  flipped = record g { points = map without_reserved g.points; memories = map without_buffer g.memories; tails = [] }

  entry_unreserved : (n : ℕ) → entry_at (map without_reserved g.points) n ≡ without_reserved (entry_at g.points n)
  entry_unreserved n = ap opened (slice_get-map without_reserved g.points n) ∙ of_one (slice_get g.points n)
    where
      of_one : (o : Option (Option PointShape)) → opened (option_map without_reserved o) ≡ without_reserved (opened o)
      of_one None = refl
      of_one (Some p) = refl

  no_reservation : (p : Option PointShape) (m : Option PointMemory) → (run_of_reservation (without_reserved p) m).count ≡ 0
  no_reservation None m = refl
  no_reservation (Some p) m = refl

  no_buffer : (m : Option PointMemory) → (run_of_buffer (option_map without_buffer m)).count ≡ 0
  no_buffer None = refl
  no_buffer (Some m) = refl

  flipped_kept : (o : Occupant) → IsKept g flipped o
  flipped_kept (OfBlock id) = inl (record { run = refl; pool = refl; rank = refl })
  flipped_kept (OfReservation n) =
      inr (ap (λ p. (run_of_reservation p (slice_get (map without_buffer g.memories) n)).count) (entry_unreserved n)
      ∙ no_reservation (entry_at g.points n) (slice_get (map without_buffer g.memories) n))
  flipped_kept (OfBuffer n) = inr (flipped_buffer n)
    where
      flipped_buffer : (n : ℕ) → (run_of flipped (OfBuffer n)).count ≡ 0
      flipped_buffer n =
          ap (λ m. (run_of_buffer m).count) (slice_get-map without_buffer g.memories n) ∙ no_buffer (slice_get g.memories n)
  flipped_kept (OfTail pool generation) = inr refl

  unreserved_right : (n : ℕ) (p : PointShape) → entry_at (map without_reserved g.points) n ≡ Some p → IsRightPointShape g.pools p
  unreserved_right n p e = of_one (entry_at g.points n) refl (sym (entry_unreserved n) ∙ e)
    where
      of_one : (o : Option PointShape) → entry_at g.points n ≡ o → without_reserved o ≡ Some p → IsRightPointShape g.pools p
      of_one None f h = absurd (none-some p h)
      of_one (Some q) f h =
          subst (IsRightPointShape g.pools) (same_Some (record q { reserved = None }) p h) (record {
            some = λ words k. absurd (none-some words k);
            weak = (laid.points n q f).weak;
          })

  flipped_laid_out : IsLaidOut limit flipped
  flipped_laid_out =
      laid_out_again limit g g.shapes g.addresses (map without_reserved g.points) (map without_buffer g.memories) [] laid tt laid.lengths
      (length-map g.memories without_buffer ∙ laid.memories ∙ sym (length-map g.points without_reserved)) laid.shapes unreserved_right
      (placed_kept g g.shapes g.addresses (map without_reserved g.points) (map without_buffer g.memories) [] flipped_kept laid.placed)

  none_at_hand : (o : Occupant) → is_at_hand o ≡ true → (run_of flipped o).count ≡ 0
  none_at_hand (OfBlock id) h = absurd (false≢true h)
  none_at_hand (OfReservation n) h = absurd (false≢true h)
  none_at_hand (OfBuffer n) h =
      ap (λ m. (run_of_buffer m).count) (slice_get-map without_buffer g.memories n) ∙ no_buffer (slice_get g.memories n)
  none_at_hand (OfTail pool generation) h = refl

  none_reserved : (o : Occupant) → is_reserved o ≡ true → (run_of flipped o).count ≡ 0
  none_reserved (OfBlock id) h = absurd (false≢true h)
  none_reserved (OfReservation n) h =
      ap (λ p. (run_of_reservation p (slice_get (map without_buffer g.memories) n)).count) (entry_unreserved n)
      ∙ no_reservation (entry_at g.points n) (slice_get (map without_buffer g.memories) n)
  none_reserved (OfBuffer n) h = absurd (false≢true h)
  none_reserved (OfTail pool generation) h = absurd (false≢true h)

  -- every reservation is doomed, nothing is at hand, and some segments are condemned
  pub condemning_laid_out : (test : Segment → Bool)
      → IsLaidOut limit (record flipped { condemned = map (λ (s : Segment). s.base) (filter test g.segments) })
  condemning_laid_out test =
      recondemned limit flipped (map (λ (s : Segment). s.base) (filter test g.segments)) flipped_laid_out
      (λ o base some h free. absurd (omega (arith, none_at_hand o h, some)))
      (λ o base some h free. absurd (omega (arith, none_reserved o h, some)))
      (λ base h. contains-filter test g.segments base h) (distinct_bases test 1 limit g.segments laid.ascending)

-- ---- a segment is given back

module _ (limit : ℕ) (g : Occupancy) (base : Address) (laid : IsLaidOut limit g) where
  abbrev given_back : Occupancy
  given_back = record g { segments = without_segment g.segments base; condemned = without_first g.condemned base }

  not_base : (b : Address) → b ≢ base → not (b == base) ≡ true
  not_base b n = ap not (ne_eqb b base n)

  condemned_held : (b : Address) → contains (without_first g.condemned base) b ≡ true
      → (s : Segment) × IsAmong s (without_segment g.segments base) × (s.base ≡ b)
  condemned_held b h =
      let c = contains-without_first g.condemned base b laid.distinct h in
      let t = laid.condemned b c.0 in
      (t.0, among_kept base t.0 g.segments (not_base t.0.base (λ e. c.1 (sym t.2 ∙ e))) t.1, t.2)

  -- where it is nobody's home
  pub given_back_laid_out : ((o : Occupant) (some : 0 < (run_of g o).count) → (laid.placed.homes o some).segment.base ≢ base)
      → IsLaidOut limit given_back
  given_back_laid_out others = record {
    in_range = laid.in_range;
    lengths = laid.lengths;
    memories = laid.memories;
    shapes = laid.shapes;
    points = laid.points;
    ascending = ascending_without 1 limit base g.segments laid.ascending;
    aligned = all_without IsAligned base g.segments laid.aligned;
    ranked = all_without (Rattle.mps_laws.proofs.Positions.LaidOut.IsRightlyRanked g.pools) base g.segments laid.ranked;
    condemned = condemned_held;
    distinct = distinct-without_first g.condemned base laid.distinct;
    keyed = laid.keyed;
    placed = record {
      apart = laid.placed.apart;
      homes = λ o some.
          let home = laid.placed.homes o some in
          record {
            segment = home.segment;
            held = among_kept base home.segment g.segments (not_base home.segment.base (others o some)) home.held;
            of_pool = home.of_pool;
            of_rank = home.of_rank;
            above = home.above;
            below = home.below;
            copying = home.copying;
            spared = λ h. still_spared home.segment.base (home.spared h);
            to_end = home.to_end;
            uncondemned = λ h. elim (home.uncondemned h) [
              | inl free ↦ inl (still_spared home.segment.base free)
              | inr staying ↦ inr staying
            ];
          };
    };
  }
    where
      still_spared : (b : Address) → contains g.condemned b ≡ false → contains (without_first g.condemned base) b ≡ false
      still_spared b h =
          elim (cases_Bool (contains (without_first g.condemned base) b)) [
            | inl is ↦ absurd (false≢true (sym h ∙ (contains-without_first g.condemned base b laid.distinct is).0))
            | inr isnt ↦ isnt
          ]
