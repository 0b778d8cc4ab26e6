-- The parts of a heap still stand for those of a world after a point was written in both, with what it has in the arena.
use Rattle.std.proofs.Common.{◌≡◌, ◌∙◌, ℕ, zero, suc, Bool, false, refl, sym, ap, subst, List, [], ◌∷◌, length, Option, Some, IsSome, is_some, get_or, inl, inr, map, arith}
use Rattle.std.proofs.lemmas.Bool.{cases_eq}
use Rattle.std.proofs.lemmas.Option.{same_Some}
use Rattle.std.specs.Prelude.{◌≢◌, slice_get, slice_set}
use Rattle.mps_base.specs.Segment.{Segment}
use Rattle.mps_extents.specs.Table.{bit}
use Rattle.mps_buffer.specs.declared.point.Held.{Held}
use Rattle.mps_buffer.specs.declared.point.Point.{Point}
use Rattle.mps_buffer.specs.Points.{PointsState, point_at, with_point}
use Rattle.mps_format.specs.Layout.{Layout}
use Rattle.mps_model.specs.Graph as graph
use Rattle.mps_model.specs.Graph.{entry_at}
use Rattle.mps_model.specs.Making.{live_points}
use Rattle.mps_model.specs.World as world
use Rattle.mps_model.specs.World.{World, PointMemory}
use Rattle.mps_seg.specs.Segs.{SegsState}
use Rattle.mps_laws.proofs.Entries.{entry_at-written}
use Rattle.mps_laws.proofs.Lookups.{entry_at-set_other}
use Rattle.mps_heap_spec.specs.State.{HeapState}
use Rattle.mps_refinement.specs.Numbering.{AreNumbered, IsKept}
use Rattle.mps_refinement.specs.StandsFor.{AreHeldAlike, AreParts, IsArena, IsPoint, Past, StandsAt}
use Rattle.mps_refinement.proofs.Parts.Named.{ThingsStay, named_alike}
use Rattle.mps_refinement.proofs.Parts.Numbering.{kept_other, kept_within, kept_written}
use Rattle.mps_refinement.proofs.Parts.PartsByKind.{parts_of_kinds, finals_of, pools_of, roots_of}
use Rattle.mps_trace_laws.specs.Summaries.Summed.{AreWordsSummed}
use Rattle.mps_format.specs.Pools.{policy_of_pool}

-- ---- points

pub written_point : (s : PointsState) (key : ℕ) (p : Point) (new : Option Point) → point_at s key ≡ Some p
    → point_at (with_point s key new) key ≡ new
written_point s key p new there = kept_written s.points key new (kept_within s.points key p there)

pub other_point : (s : PointsState) (key other : ℕ) (new : Option Point) → other ≢ key
    → point_at (with_point s key new) other ≡ point_at s other
other_point s key other new apart = kept_other s.points key other new apart

-- where there was a point there still is one
pub points_there : (s : PointsState) (key : ℕ) (p new : Point) → point_at s key ≡ Some p → (other : ℕ) → IsSome (point_at s other)
    → IsSome (point_at (with_point s key (Some new)) other)
points_there s key p new there other some =
    elim (cases_eq other key) [
      | inl same ↦
          ap is_some (ap (point_at (with_point s key (Some new))) same ∙ written_point s key p (Some new) there)
      | inr apart ↦ ap is_some (other_point s key other (Some new) apart) ∙ some
    ]

-- a point whose reservation alone is another stands for the model's with the other's
pub reservation_fits : (flips : ℕ) (copying : ℕ → Bool) (memories : List PointMemory) (n number : ℕ) (p : Point) (q : graph.Point)
    (held : Option Held) (r : Option graph.Reservation) (fit : IsPoint flips copying memories n p q) → n ≡ number
    → AreHeldAlike flips fit.memory.reserved_at held r
    → IsPoint flips copying memories number (record p { reservation = held }) (record q { reservation = r })
reservation_fits flips copying memories n number p q held r fit same alike = record {
  pool = fit.pool;
  rank = fit.rank;
  copying = fit.copying;
  memory = fit.memory;
  has = ap (slice_get memories) (sym same) ∙ fit.has;
  buffer = fit.buffer;
  reservation = alike;
}

module _ (flips : ℕ) (copying : ℕ → Bool) (memories after : List PointMemory) (numbers : ℕ → ℕ) (s : PointsState)
    (points : List (Option graph.Point)) (are : AreNumbered (IsPoint flips copying memories) numbers (point_at s) points)
    (key : ℕ) (p new : Point) (entry : graph.Point) (at_key : point_at s key ≡ Some p)
    (others : (j : ℕ) → j ≢ numbers key → slice_get after j ≡ slice_get memories j)
    (fit : IsPoint flips copying after (numbers key) new entry) where
  -- a point that isn't written stands for the same
  as_before : (n : ℕ) (x : Point) (y : graph.Point) → n ≢ numbers key → IsPoint flips copying memories n x y
      → IsPoint flips copying after n x y
  as_before n x y apart i = record {
    pool = i.pool;
    rank = i.rank;
    copying = i.copying;
    memory = i.memory;
    has = others n apart ∙ i.has;
    buffer = i.buffer;
    reservation = i.reservation;
  }

  was_there : (k : ℕ) (a : Point) → point_at (with_point s key (Some new)) k ≡ Some a → (b : Point) × (point_at s k ≡ Some b)
  was_there k a is =
      elim (cases_eq k key) [
        | inl same ↦ (p, ap (point_at s) same ∙ at_key)
        | inr apart ↦ (a, sym (other_point s key k (Some new) apart) ∙ is)
      ]

  pub points_written : AreNumbered (IsPoint flips copying after) numbers (point_at (with_point s key (Some new)))
      (slice_set points (numbers key) (Some entry))
  points_written = record {
    there = there;
    apart = λ k l a b is those same.
        let x = was_there k a is in let y = was_there l b those in are.apart k l x.0 y.0 x.1 y.1 same;
    complete = complete;
  }
    where
      complete : (n : ℕ) (b : graph.Point) → entry_at (slice_set points (numbers key) (Some entry)) n ≡ Some b
          → IsKept numbers (point_at (with_point s key (Some new))) n
      complete n b is =
          elim (cases_eq (numbers key) n) [
            | inl same ↦ record { key = key; value = new; there = written_point s key p (Some new) at_key; numbered = same }
            | inr other ↦
                let found = are.complete n b (sym (entry_at-set_other points (numbers key) n (Some entry) other) ∙ is) in
                record {
                  key = found.key;
                  value = found.value;
                  there = other_point s key found.key (Some new) (λ same. other (sym (ap numbers same) ∙ found.numbered))
                      ∙ found.there;
                  numbered = found.numbered;
                }
          ]

      there : (k : ℕ) (a : Point) → point_at (with_point s key (Some new)) k ≡ Some a
          → (b : graph.Point) × (entry_at (slice_set points (numbers key) (Some entry)) (numbers k) ≡ Some b)
          × IsPoint flips copying after (numbers k) a b
      there k a is =
          elim (cases_eq k key) [
            | inl same ↦
                let first = are.there key p at_key in
                let value : new ≡ a =
                same_Some new a (sym (ap (point_at (with_point s key (Some new))) same ∙ written_point s key p (Some new) at_key) ∙ is) in (
                  entry,
                  ap (λ n. entry_at (slice_set points (numbers key) (Some entry)) (numbers n)) same
                      ∙ entry_at-written points (numbers key) first.0 (Some entry) first.1,
                  subst (λ n. IsPoint flips copying after (numbers n) a entry) (sym same)
                      (subst (λ (x : Point). IsPoint flips copying after (numbers key) x entry) value fit),
                )
            | inr other ↦
                let old = sym (other_point s key k (Some new) other) ∙ is in
                let found = are.there k a old in
                let apart : numbers k ≢ numbers key = λ e. other (are.apart k key a p old at_key e) in (
                  found.0,
                  entry_at-set_other points (numbers key) (numbers k) (Some entry) (λ e. apart (sym e)) ∙ found.1,
                  as_before (numbers k) a found.0 apart found.2,
                )
          ]

-- ---- condemned segments

clear_still : (bits : List Bool) (i j : ℕ) → get_or bits j false ≡ false → get_or (slice_set bits i false) j false ≡ false
clear_still [] i j clear = clear
clear_still (b ∷ bs) zero zero clear = refl
clear_still (b ∷ bs) zero (suc j) clear = clear
clear_still (b ∷ bs) (suc i) zero clear = clear
clear_still (b ∷ bs) (suc i) (suc j) clear = clear_still bs i j clear

-- a table without a bit stays without one
pub none_set : (bits : List Bool) (i j : ℕ) → bit bits j ≡ false → bit (slice_set bits i false) j ≡ false
unfolding bit
none_set bits i j clear = clear_still bits i j clear

-- the arena is at rest still where each point with a reservation was there
pub resting_points : (grains : ℕ) (s after : PointsState) → IsArena grains s
    → ((key : ℕ) (p : Point) (held : Held) → point_at after key ≡ Some p → p.reservation ≡ Some held → point_at s key ≡ Some p)
    → IsArena grains after
resting_points grains s after rest was = record {
  nonzero = rest.nonzero;
  at_most = rest.at_most;
  within = λ key p held there reserved. rest.within key p held (was key p held there reserved) reserved;
  aligned = λ key p held there reserved. rest.aligned key p held (was key p held there reserved) reserved;
}

-- ---- the parts

module _ {F : Type 0} (layout : F → Layout) (past : Past) (h : HeapState F) (w : World) (parts : AreParts layout past h w) where
  abbrev pub points_heap : SegsState → PointsState → HeapState F
  points_heap segs points = record h { segs = segs; points = points }

  abbrev pub points_world : List (Option graph.Point) → List Segment → List PointMemory → World
  points_world points segments memories =
      record w { graph = record w.graph { points = points }; segments = segments; point_memories = memories }

  pub points_stay : (segs : SegsState) (points : PointsState) → ((key : ℕ) → IsSome (point_at h.points key) → IsSome (point_at points key))
      → ThingsStay h (points_heap segs points)
  points_stay segs points still = record {
    pools = λ n low. low;
    caches = omega arith;
    tables = λ key some. some;
    areas = λ key some. some;
    blocks = λ n low. low;
    points = still;
    dependencies = λ n low. low;
    chains = λ n low. low;
    transforms = refl;
  }

  -- other segments and words, and other points
  pub record ArePointsAnew (segs : SegsState) (points : PointsState) (entries : List (Option graph.Point)) (segments : List Segment)
      (memories : List PointMemory) : Type 0 where
    pub grains : segs.grains ≡ h.segs.grains
    pub limit : segs.limit ≡ h.segs.limit
    pub segments_are : segs.segments ≡ segments
    pub image : StandsAt past.time segs (points_world entries segments memories)
    pub arena : IsArena segs.grains points
    pub summed : AreWordsSummed layout (map policy_of_pool h.pools) segs
    pub are : AreNumbered (IsPoint (length w.flips) (world.is_copying_pool w) memories) past.point_number (point_at points) entries
    pub counted : live_points (record w.graph { points = entries }) ≡ live_points w.graph
    pub flips : points.flips ≡ h.points.flips
    pub there : (key : ℕ) → IsSome (point_at h.points key) → IsSome (point_at points key)

  pub points_anew : (segs : SegsState) (points : PointsState) (entries : List (Option graph.Point)) (segments : List Segment)
      (memories : List PointMemory) → ArePointsAnew segs points entries segments memories
      → AreParts layout past (points_heap segs points) (points_world entries segments memories)
  points_anew segs points entries segments memories anew =
      parts_of_kinds (anew.grains ∙ parts.grains, anew.limit ∙ parts.limit, anew.segments_are) (anew.image, anew.arena, anew.summed)
      (roots_of parts) (anew.are, parts.points_counted ∙ sym anew.counted) (finals_of parts) parts.dependencies (pools_of parts)
      (named_alike h (points_heap segs points) past w.graph.names w.graph.labels parts.names (λ name. refl) refl
      (points_stay segs points anew.there))
      (parts.flips, anew.flips ∙ parts.point_flips, parts.state, parts.beside, parts.transforms, parts.framed)
