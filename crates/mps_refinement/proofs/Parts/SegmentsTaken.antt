-- A placement may take a segment. Held ones stay where they are, with their condemned bits, and the new one isn't condemned.
use Rattle.std.proofs.Common.{◌≡◌, ◌∙◌, ◌⊎◌, ℕ, Bool, true, false, refl, sym, ap, subst, List, [], ◌∷◌, map, Option, Some, None, Contains, inl, inr, arith, zero, suc}
use Rattle.std.proofs.lemmas.Bool.{true≢false, and_parts, cases_Bool, ltb-true, leb-true, eqb-true}
use Rattle.std.proofs.lemmas.Option.{none-some}
use Rattle.std.specs.Prelude.{◌==◌, option_map, nat_lt, nat_le, slice_set, if◌then◌else◌, IsTrue, ◌≢◌}
use Rattle.mps_base.specs.Address.{Address, Word, address_of_word, address_of_grain, grain_of}
use Rattle.mps_base.specs.Placement.{Placement, Place, NewSegment, OverLimit, NoFreeRun}
use Rattle.mps_base.specs.Run.{IsAscending, end_of}
use Rattle.mps_base.specs.Segment.{Segment, end_of_segment, grains_of_segment, is_in_segment, segment_over, with_segment}
use Rattle.mps_base.specs.declared.names.Rank.{Rank}
use Rattle.mps_extents.specs.Table.{bit}
use Rattle.mps_abstract.specs.Collecting.{Collecting, Running}
use Rattle.mps_trace_laws.proofs.Image.SegmentMarks.{clear_bit, other_bit}
use Rattle.mps_laws.proofs.Positions.Segments.{AreAligned, IsAmong, among_aligned, among_cases, among_new, among_with, found_among, found_segment, same_by_base, segment_bounds}
use Rattle.mps_model.specs.Graph.{contains}
use Rattle.mps_model.specs.LegalMove.{ForOne}
use Rattle.mps_model.specs.World.{is_automatic_kind, pool_is, segment_at}
use Rattle.mps_seg.specs.Segs.{noted_for, segments_after}
use Rattle.mps_seg.specs.Collecting.{bit_of}
use Rattle.mps_refinement.specs.StandsFor.{AreCondemnedIn}
use Rattle.mps_refinement.proofs.Parts.CommittedParts.{segment_there}

pub contained_among : (ss : List Segment) (t : Segment) → Contains ss t → IsAmong t ss
contained_among [] t (n, lt, e) = absurd (omega (arith, lt))
contained_among (s ∷ ss) t (zero, lt, e) = inl e
contained_among (s ∷ ss) t (suc n, lt, e) = inr (contained_among ss t (n, omega (arith, lt), e))

-- ascending segments have each of them once
once_more : (low limit : ℕ) (s : Segment) (ss : List Segment) → IsAscending low limit (map grains_of_segment (with_segment s ss))
    → IsAmong s ss → ⊥
once_more low limit s [] all there = there
once_more low limit s (u ∷ us) all there =
    elim (nat_lt s.base u.base) as (λ b. nat_lt s.base u.base ≡ b
    → IsAscending low limit (map grains_of_segment (if b then s ∷ u ∷ us else u ∷ with_segment s us)) → ⊥) [
      | true ↦ (λ before up.
          let bounds = segment_bounds (end_of (grains_of_segment s)) limit (u ∷ us) s up.2 there in
          let some = up.1 in
          let low = bounds.0 in
          omega (arith, some, low))
      | false ↦ (λ past up. of_there (λ later rising. once_more (end_of (grains_of_segment u)) limit s us rising later) up there)
    ] refl all
  where
    of_there : (IsAmong s us → IsAscending (end_of (grains_of_segment u)) limit (map grains_of_segment (with_segment s us)) → ⊥)
        → IsAscending low limit (map grains_of_segment (u ∷ with_segment s us)) → IsAmong s (u ∷ us) → ⊥
    of_there again up (inl same) =
        let bounds = segment_bounds (end_of (grains_of_segment u)) limit (with_segment s us) s up.2 (among_new s us) in
        let some = up.1 in
        let first = bounds.0 in
        let is : grain_of u.base ≡ grain_of s.base = ap (λ (x : Segment). grain_of x.base) same in
        omega (arith, some, first, is)
    of_there again up (inr later) = again later up.2

-- a held segment doesn't begin at the grain of a new one
pub new_apart : (pool generation grain grains : ℕ) (rank : Rank) (limit : ℕ) (ss : List Segment) → AreAligned ss
    → IsAscending 1 limit (map grains_of_segment (segments_after (NewSegment grain grains) pool generation rank ss)) → (t : Segment)
    → IsAmong t ss → grain_of t.base ≢ grain
new_apart pool generation grain grains rank limit ss aligned up t there same =
    let new : Segment = record { base = address_of_grain grain; grains = grains; pool = pool; generation = generation; rank = rank } in
    let low = among_aligned t ss aligned there in
    let one : t ≡ new =
    same_by_base 1 limit (with_segment new ss) t new up (among_with new t ss there) (among_new new ss) (omega (arith, low, same)) in
    once_more 1 limit new ss up (subst (λ (x : Segment). IsAmong x ss) one there)

module _ (q : Placement) (pool generation : ℕ) (rank : Rank) (limit : ℕ) (ss : List Segment) (bits : List Bool)
    (aligned : AreAligned ss) (ascending : IsAscending 1 limit (map grains_of_segment ss))
    (aligned_now : AreAligned (segments_after q pool generation rank ss))
    (ascending_now : IsAscending 1 limit (map grains_of_segment (segments_after q pool generation rank ss))) where
  abbrev now : List Segment
  now = segments_after q pool generation rank ss

  abbrev bits_now : List Bool
  bits_now = noted_for q false bits

  -- held segments stay
  pub stays : (t : Segment) → IsAmong t ss → IsAmong t now
  stays t there = of_placement q
    where
      of_placement : (x : Placement) → IsAmong t (segments_after x pool generation rank ss)
      of_placement (Place word) = there
      of_placement (NewSegment grain grains) = among_with _ t ss there
      of_placement (OverLimit committed need limit) = there
      of_placement (NoFreeRun need longest) = there

  -- with their bits
  pub bit_stays : (t : Segment) → IsAmong t ss → bit bits_now (grain_of t.base) ≡ bit bits (grain_of t.base)
  bit_stays t there = of_placement q ascending_now
    where
      of_placement : (x : Placement) → IsAscending 1 limit (map grains_of_segment (segments_after x pool generation rank ss))
          → bit (noted_for x false bits) (grain_of t.base) ≡ bit bits (grain_of t.base)
      of_placement (Place word) up = refl
      of_placement (NewSegment grain grains) up =
          other_bit bits grain (grain_of t.base) false (new_apart pool generation grain grains rank limit ss aligned up t there)
      of_placement (OverLimit committed need limit) up = refl
      of_placement (NoFreeRun need longest) up = refl

  -- a word that lies in a held segment lies in it still
  pub over_same : (n : Word) (t : Segment) → segment_over ss (address_of_word n) ≡ Some t
      → segment_over now (address_of_word n) ≡ Some t
  over_same n t over =
      let found = found_among (λ u. is_in_segment u (address_of_word n)) ss t over in
      let inside = and_parts (nat_le t.base (address_of_word n)) (nat_lt (address_of_word n) (end_of_segment t)) found.1 in
      let low = leb-true t.base (address_of_word n) inside.0 in
      let high = ltb-true (address_of_word n) (end_of_segment t) inside.1 in
      let a = among_aligned t ss aligned found.0 in
      found_segment 1 limit now t ascending_now aligned_now (stays t found.0) n (omega (arith, low, a), omega (arith, high, a))

  pub pool_same : (n : Word) (p : ℕ) → option_map (λ (t : Segment). t.pool) (segment_over ss (address_of_word n)) ≡ Some p
      → option_map (λ (t : Segment). t.pool) (segment_over now (address_of_word n))
      ≡ option_map (λ (t : Segment). t.pool) (segment_over ss (address_of_word n))
  pool_same n p has = of_one (segment_over ss (address_of_word n)) refl has
    where
      of_one : (o : Option Segment) → segment_over ss (address_of_word n) ≡ o → option_map (λ (t : Segment). t.pool) o ≡ Some p
          → option_map (λ (t : Segment). t.pool) (segment_over now (address_of_word n))
          ≡ option_map (λ (t : Segment). t.pool) (segment_over ss (address_of_word n))
      of_one None e h = absurd (none-some p h)
      of_one (Some t) e h = ap (option_map (λ (t : Segment). t.pool)) (over_same n t e ∙ sym e)

  pub condemned_same : (n : Word) (p : ℕ) → option_map (λ (t : Segment). t.pool) (segment_over ss (address_of_word n)) ≡ Some p
      → bit_of bits_now (option_map (λ (t : Segment). grain_of t.base) (segment_over now (address_of_word n)))
      ≡ bit_of bits (option_map (λ (t : Segment). grain_of t.base) (segment_over ss (address_of_word n)))
  condemned_same n p has = of_one (segment_over ss (address_of_word n)) refl has
    where
      of_one : (o : Option Segment) → segment_over ss (address_of_word n) ≡ o → option_map (λ (t : Segment). t.pool) o ≡ Some p
          → bit_of bits_now (option_map (λ (t : Segment). grain_of t.base) (segment_over now (address_of_word n)))
          ≡ bit_of bits (option_map (λ (t : Segment). grain_of t.base) (segment_over ss (address_of_word n)))
      of_one None e h = absurd (none-some p h)
      of_one (Some t) e h =
          ap (λ o. bit_of bits_now (option_map (λ (t : Segment). grain_of t.base) o)) (over_same n t e)
          ∙ bit_stays t (found_among (λ u. is_in_segment u (address_of_word n)) ss t e).0
          ∙ ap (λ o. bit_of bits (option_map (λ (t : Segment). grain_of t.base) o)) (sym e)

  -- the condemned ones are those that were, if those are held
  pub condemned_stay : (bases : List Address) → AreCondemnedIn bits ss bases
      → ((base : Address) → contains bases base ≡ true → (t : Segment) × IsAmong t ss × (t.base ≡ base))
      → AreCondemnedIn bits_now now bases
  condemned_stay bases was held t there = of_placement q ascending_now bit_stays (contained_among now t there)
    where
      of_placement : (x : Placement) → IsAscending 1 limit (map grains_of_segment (segments_after x pool generation rank ss))
          → ((u : Segment) → IsAmong u ss → bit (noted_for x false bits) (grain_of u.base) ≡ bit bits (grain_of u.base))
          → IsAmong t (segments_after x pool generation rank ss) → bit (noted_for x false bits) (grain_of t.base) ≡ contains bases t.base
      of_placement (Place word) up same among = was t (segment_there t ss among)
      of_placement (NewSegment grain grains) up same among =
          let new : Segment = record { base = address_of_grain grain; grains = grains; pool = pool; generation = generation; rank = rank }
          in
          elim (among_cases new t ss among) [
            | inl one ↦
                let is : grain_of t.base ≡ grain = ap (λ (x : Segment). grain_of x.base) (sym one) ∙ omega arith in
                ap (bit (slice_set bits grain false)) is ∙ clear_bit bits grain ∙ sym
                (not_among new up (cases_Bool (contains bases new.base)))
                ∙ ap (λ (x : Segment). contains bases x.base) one
            | inr old ↦ same t old ∙ was t (segment_there t ss old)
          ]
        where
          not_among : (new : Segment) → IsAscending 1 limit (map grains_of_segment (with_segment new ss))
              → (contains bases new.base ≡ true) ⊎ (contains bases new.base ≡ false) → contains bases new.base ≡ false
          not_among new rising (inl is) =
              let u = held new.base is in
              let one : u.0 ≡ new =
              same_by_base 1 limit (with_segment new ss) u.0 new rising (among_with new u.0 ss u.1) (among_new new ss) u.2 in
              absurd (once_more 1 limit new ss rising (subst (λ (x : Segment). IsAmong x ss) one u.1))
          not_among new rising (inr isnt) = isnt
      of_placement (OverLimit committed need limit) up same among = was t (segment_there t ss among)
      of_placement (NoFreeRun need longest) up same among = was t (segment_there t ss among)

-- ---- condemned segments are held, and of automatic pools

pub condemned_held : (x : Collecting) → Running x → (base : Address) → contains x.running.condemned_segments base ≡ true
    → (t : Segment) × IsAmong t x.world.segments × (t.base ≡ base) × (pool_is is_automatic_kind x.world t.pool ≡ true)
condemned_held x run base is = of_one (segment_at x.world base) refl (run.condemned.segments base is)
  where
    of_one : (o : Option Segment) → segment_at x.world base ≡ o → ForOne o (λ t. IsTrue (pool_is is_automatic_kind x.world t.pool))
        → (t : Segment) × IsAmong t x.world.segments × (t.base ≡ base) × (pool_is is_automatic_kind x.world t.pool ≡ true)
    of_one None e h = absurd h
    of_one (Some t) e h =
        let found = found_among (λ (u : Segment). u.base == base) x.world.segments t e in
        (t, found.0, eqb-true t.base base found.1, h)

-- so a segment of another kind of pool isn't condemned, if it lies apart from them
pub uncondemned : (x : Collecting) → Running x → (now : List Segment) (bits : List Bool) (limit : ℕ)
    → IsAscending 1 limit (map grains_of_segment now) → ((t : Segment) → IsAmong t x.world.segments → IsAmong t now)
    → AreCondemnedIn bits now x.running.condemned_segments → (t : Segment) → IsAmong t now
    → pool_is is_automatic_kind x.world t.pool ≡ false → bit bits (grain_of t.base) ≡ false
uncondemned x run now bits limit up stays are t there manual =
    are t (segment_there t now there)
    ∙ of_bool (cases_Bool (contains x.running.condemned_segments t.base))
  where
    of_bool : (contains x.running.condemned_segments t.base ≡ true) ⊎ (contains x.running.condemned_segments t.base ≡ false)
        → contains x.running.condemned_segments t.base ≡ false
    of_bool (inl is) =
        let u = condemned_held x run t.base is in
        let one : u.0 ≡ t = same_by_base 1 limit now u.0 t up (stays u.0 u.1) there u.2 in
        absurd (true≢false (sym u.3 ∙ ap (λ (s : Segment). pool_is is_automatic_kind x.world s.pool) one ∙ manual))
    of_bool (inr isnt) = isnt
