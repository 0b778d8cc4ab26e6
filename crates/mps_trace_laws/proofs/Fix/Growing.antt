-- A new segment is taken: what is held is held as before, and is condemned as before.
use Rattle.std.proofs.Common.{◌≡◌, ◌∙◌, ℕ, ◌+◌, ◌/◌, ◌<◌, Bool, false, refl, sym, ap, List, [], ◌∷◌, length, map, Option, Some, None, subst, inl, inr, arith}
use Rattle.std.proofs.lemmas.List.{get_or-set_same, get_or-set_other}
use Rattle.std.proofs.lemmas.Option.{none-some}
use Rattle.std.specs.Prelude.{slice_set, ◌≢◌, option_map}
use Rattle.std.specs.List.{AllByRecursion}
use Rattle.mps_base.specs.Address.{Word, grain_of, address_of_word}
use Rattle.mps_base.specs.Run.{Run, Covers, IsAscending, with_run, gaps, lowest_fitting}
use Rattle.mps_base.specs.Segment.{Segment, grains_of_segment, words_of_segment, is_in_segment, with_segment, segment_over}
use Rattle.mps_base.proofs.Runs.{in_lowest_gap}
use Rattle.mps_extents.specs.Table.{bit}
use Rattle.mps_seg.specs.Segs.{SegsState, held_runs}
use Rattle.mps_seg.specs.Collecting.{bit_of}
use Rattle.mps_laws.proofs.Positions.ApartRuns.{AreApart, put_apart}
use Rattle.mps_laws.proofs.Positions.Segments.{IsAmong, IsAligned, among_aligned, among_with, among_new, among_cases, aligned_with, grains_with, of_in_segment, grain_of_word, found_segment, found_among, segment_bounds}
use Rattle.mps_trace_laws.specs.Image.Memory.{pool_over_word, is_condemned_word}
use Rattle.mps_trace_laws.specs.Fix.Tracing.{AreHeld, HasTables}
use Rattle.mps_trace_laws.specs.Fix.Growing.{Grows}

-- the segment over a word is held and has the word
pub record IsOver (s : SegsState) (n : Word) (t : Segment) : Type 0 where
  pub among : IsAmong t s.segments
  pub covers : Covers (words_of_segment t) n

pub over_is : (s : SegsState) → AreHeld s → (n : Word) (t : Segment) → segment_over s.segments (address_of_word n) ≡ Some t → IsOver s n t
over_is s held n t e =
    let found = found_among (λ u. is_in_segment u (address_of_word n)) s.segments t e in
    record { among = found.0; covers = of_in_segment t n (among_aligned t s.segments held.aligned found.0) found.1 }

pub over_back : (s : SegsState) → AreHeld s → (n : Word) (t : Segment) → IsOver s n t
    → segment_over s.segments (address_of_word n) ≡ Some t
over_back s held n t is = found_segment 1 (s.grains + 1) s.segments t held.ascending held.aligned is.among n is.covers

-- a fact of all runs of grains is one of each segment's
grains_among : (P : Run → Type 0) (ss : List Segment) (t : Segment) → AllByRecursion P (map grains_of_segment ss) → IsAmong t ss
    → P (grains_of_segment t)
grains_among P [] t all there = absurd there
grains_among P (s ∷ ss) t all (inl same) = subst (λ (x : Segment). P (grains_of_segment x)) same all.0
grains_among P (s ∷ ss) t all (inr later) = grains_among P ss t all.1 later

-- a segment of grains that are free
pub record IsFree (s : SegsState) (u : Segment) : Type 0 where
  pub some : 0 < u.grains
  pub aligned : IsAligned u
  pub fits : lowest_fitting u.grains (gaps 1 (s.grains + 1) (held_runs s)) ≡ Some (grain_of u.base)

-- the segments with one more
abbrev pub with_one : SegsState → Segment → SegsState
with_one s u = record s {
  segments = with_segment u s.segments;
  condemned = slice_set s.condemned (grain_of u.base) false;
  summaries = slice_set s.summaries (grain_of u.base) 0;
}

module _ (s : SegsState) (held : AreHeld s) (tables : HasTables s) (u : Segment) (free : IsFree s u) where
  gap : IsAscending 1 (s.grains + 1) (with_run (grains_of_segment u) (held_runs s))
  gap =
      (in_lowest_gap 1 (s.grains + 1) (held_runs s) u.grains (grain_of u.base) free.some held.ascending free.fits).ascending

  pub held_more : AreHeld (with_one s u)
  held_more = record {
    small = held.small;
    aligned = aligned_with u s.segments free.aligned held.aligned;
    ascending = subst (IsAscending 1 (s.grains + 1)) (sym (grains_with u s.segments free.aligned held.aligned)) gap;
  }

  apart : (t : Segment) → IsAmong t s.segments → AreApart (grains_of_segment u) (grains_of_segment t)
  apart t there =
      grains_among (AreApart (grains_of_segment u)) s.segments t (put_apart 1 (s.grains + 1) (grains_of_segment u) (held_runs s) gap) there

  -- its words weren't held
  pub not_held : (n : Word) → Covers (words_of_segment u) n → (t : Segment) → segment_over s.segments (address_of_word n) ≡ Some t → ⊥
  not_held n covers t e =
      let over = over_is s held n t e in
      apart t over.among (n / 512) (grain_of_word u n free.aligned covers)
      (grain_of_word t n (among_aligned t s.segments held.aligned over.among) over.covers)

  within : grain_of u.base < length s.condemned
  within =
      let bounds = segment_bounds 1 (s.grains + 1) (with_one s u).segments u held_more.ascending (among_new u s.segments) in
      omega (arith, bounds.2, bounds.1, tables.condemned)

  pub its_bit : bit (slice_set s.condemned (grain_of u.base) false) (grain_of u.base) ≡ false
  unfolding bit
  its_bit = get_or-set_same s.condemned (grain_of u.base) false false within

  -- no other segment begins at its grain
  pub other_grain : (t : Segment) → IsAmong t s.segments → grain_of t.base ≢ grain_of u.base
  other_grain t there e =
      let bounds = segment_bounds 1 (s.grains + 1) s.segments t held.ascending there in
      apart t there (grain_of u.base) (omega arith, omega (arith, free.some)) (omega (arith, e), omega (arith, e, bounds.1))

  pub other_bit : (t : Segment) → IsAmong t s.segments
      → bit (slice_set s.condemned (grain_of u.base) false) (grain_of t.base) ≡ bit s.condemned (grain_of t.base)
  unfolding bit
  other_bit t there = get_or-set_other s.condemned (grain_of u.base) (grain_of t.base) false false (other_grain t there)

  pub over_still : (n : Word) (t : Segment) → segment_over s.segments (address_of_word n) ≡ Some t
      → segment_over (with_one s u).segments (address_of_word n) ≡ Some t
  over_still n t e =
      let over = over_is s held n t e in
      over_back (with_one s u) held_more n t (record { among = among_with u t s.segments over.among; covers = over.covers })

  abbrev bit_at : SegsState → Option Segment → Bool
  bit_at g o = bit_of g.condemned (option_map (λ (t : Segment). grain_of t.base) o)

  pools_more : (n : Word) (pool : ℕ) (o : Option Segment) → segment_over s.segments (address_of_word n) ≡ o
      → option_map (λ (t : Segment). t.pool) o ≡ Some pool → pool_over_word (with_one s u) n ≡ Some pool
  pools_more n pool None e is = absurd (none-some pool is)
  pools_more n pool (Some t) e is = ap (option_map (λ (x : Segment). x.pool)) (over_still n t e) ∙ is

  -- where nothing was held, nothing is condemned
  new_condemned : (n : Word) → segment_over s.segments (address_of_word n) ≡ None → (o : Option Segment)
      → segment_over (with_one s u).segments (address_of_word n) ≡ o → bit_at (with_one s u) o ≡ false
  new_condemned n none None e = refl
  new_condemned n none (Some v) e =
      let over = over_is (with_one s u) held_more n v e in
      elim (among_cases u v s.segments over.among) [
        | inl same ↦ subst (λ (x : Segment). bit (slice_set s.condemned (grain_of u.base) false) (grain_of x.base) ≡ false) same its_bit
        | inr there ↦
            absurd (none-some v (sym none ∙ over_back s held n v (record { among = there; covers = over.covers })))
      ]

  condemned_same : (n : Word) (o : Option Segment) → segment_over s.segments (address_of_word n) ≡ o
      → is_condemned_word (with_one s u) n ≡ bit_at s o
  condemned_same n None e = new_condemned n e (segment_over (with_one s u).segments (address_of_word n)) refl
  condemned_same n (Some t) e =
      ap (bit_at (with_one s u)) (over_still n t e) ∙ other_bit t (over_is s held n t e).among

  pub grows : Grows s (with_one s u)
  grows = record {
    same_grains = refl;
    pools = λ n pool e. pools_more n pool (segment_over s.segments (address_of_word n)) refl e;
    condemned = λ n. condemned_same n (segment_over s.segments (address_of_word n)) refl;
  }

  -- its words are held for its pool, and aren't condemned
  pub its_pool : (n : Word) → Covers (words_of_segment u) n → pool_over_word (with_one s u) n ≡ Some u.pool
  its_pool n covers =
      ap (option_map (λ (x : Segment). x.pool))
      (over_back (with_one s u) held_more n u (record { among = among_new u s.segments; covers = covers }))

  pub its_words_condemned : (n : Word) → Covers (words_of_segment u) n → is_condemned_word (with_one s u) n ≡ false
  its_words_condemned n covers =
      ap (bit_at (with_one s u))
      (over_back (with_one s u) held_more n u (record { among = among_new u s.segments; covers = covers }))
      ∙ its_bit

  pub tables_more : HasTables (with_one s u)
  tables_more = record {
    kept = tables.kept;
    exact = tables.exact;
    weak = tables.weak;
    condemned = Rattle.std.proofs.lemmas.List.length-set s.condemned (grain_of u.base) false ∙ tables.condemned;
  }
