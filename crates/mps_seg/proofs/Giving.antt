-- What is known of the tables where an empty segment is given back.
use Rattle.std.proofs.Common.{ℕ, ◌+◌, ◌*◌, ◌<◌, ◌≤◌, ◌≡◌, List, [], length, get_or, set, Contains, sym, ap, ◌∙◌, subst, arith}
use Rattle.mps_base.specs.Run.{Run, runs_within, without_run}
use Rattle.mps_base.specs.Address.{words_of_grain, grain_of, word_of, address_of_grain}
use Rattle.mps_base.specs.Segment.{Segment, end_of_segment, without_segment}
use Rattle.mps_base.specs.declared.names.Rank.{Rank}
use Rattle.mps_base.proofs.Runs.{contained_bounds}
use Rattle.mps_seg.specs.declared.entry.Entry.{Entry}
use Rattle.mps_seg.specs.declared.entry.Entry.TheVariants.{Free, First}
use Rattle.mps_seg.specs.declared.segs.Segs.TheInside.{Inside}
use Rattle.mps_seg.specs.Segs.{SegsState, IsEmptyAt}
use Rattle.mps_seg.specs.Table.{segments_in, IsHeld, AreGapsBounded}
use Rattle.mps_seg.proofs.BoundedGaps.{Noted, bounded_after_give}
use Rattle.mps_seg.proofs.Entries.{entry_at_base, entry_is_held, segments_after_give}
use Rattle.mps_seg.proofs.HeldSegments.{held_after_give}
use Rattle.mps_seg.proofs.Seen.{seen_by, IsSoundInside}

-- where an entry is that of two segments, both have as many grains
pub grains_read : {e : Entry} {n n' p p' g g' : ℕ} {r r' : Rank} → e ≡ First n p g r → e ≡ First n' p' g' r' → n ≡ n'
grains_read is is' = cc

-- the segment t at an address has no block and no reservation
pub record Giving (s : Inside) (base : ℕ) (t : Segment) : Type 0 where
  pub in_table : grain_of base < length s.table.items
  pub in_bounds : grain_of base < length s.bounds
  pub is : get_or s.table.items (grain_of base) Free ≡ First t.grains t.pool t.generation t.rank
  pub aligned : base ≡ address_of_grain (grain_of base)
  pub listed : Contains s.arena.held (record { from = grain_of base; count = t.grains })
  pub in_arena : grain_of base + t.grains ≤ s.arena.grains + 1
  pub held : IsHeld (record s.arena { held = without_run (grain_of base) s.arena.held }) (set s.table.items (grain_of base) Free)
      s.extents
  pub bounded : (firsts : List ℕ) → Noted s.firsts.items firsts (record { from = grain_of base; count = t.grains }) 0
      → AreGapsBounded (without_run (grain_of base) s.arena.held) (s.arena.grains + 1) firsts (set s.bounds (grain_of base) 0)
      s.extents.covered
  pub segments : segments_in (set s.table.items (grain_of base) Free) ≡ without_segment (segments_in s.table.items) base

pub giving : (s : Inside) (seen : SegsState) (base : ℕ) (t : Segment) → IsSoundInside s
    → seen_by s ≡ seen
    → Contains seen.segments t → IsEmptyAt seen base t → Giving s base t
giving s seen base t sound is listed empty =
    let grain = grain_of base in
    let P : SegsState → Type 0 = λ st. Contains st.segments t in
    let Q : SegsState → Type 0 = λ st. IsEmptyAt st base t in
    let none = subst Q (sym is) empty in
    let at = entry_at_base s.table.items base t (subst P (sym is) listed) none.begins in
    let low : word_of t.base ≡ words_of_grain * grain = omega (arith, at.aligned, none.begins) in
    let high : word_of (end_of_segment t) ≡ words_of_grain * (grain + t.grains) = omega (arith, at.aligned, none.begins) in
    let R : ℕ → Type 0 = λ a. runs_within a (word_of (end_of_segment t)) s.extents.covered ≡ [] in
    let S : ℕ → Type 0 = λ b. runs_within (words_of_grain * grain) b s.extents.covered ≡ [] in
    let mine : Run = record { from = grain; count = t.grains } in
    let T : List Run → Type 0 = λ rs. Contains rs mine in
    let run = subst T (sym sound.0.held) (entry_is_held s.table.items grain t.grains t.pool t.generation t.rank at.is) in
    record {
      in_table = at.within;
      in_bounds = omega (arith, at.within, sound.0.size, sound.1.bounds_size);
      is = at.is;
      aligned = at.aligned;
      listed = run;
      in_arena = (contained_bounds 1 (s.arena.grains + 1) s.arena.held mine sound.0.ascending run).2;
      held =
          held_after_give s.arena s.table.items s.extents sound.0 grain t.grains t.pool t.generation t.rank at.is
          (subst S high (subst R low none.empty));
      bounded = λ firsts noted.
          bounded_after_give s.arena.held (s.arena.grains + 1) s.firsts.items firsts s.bounds s.extents.covered mine sound.1
          sound.0.ascending run noted;
      segments =
          segments_after_give s.table.items grain t.grains t.pool t.generation t.rank at.is
          ∙ ap (λ (b : ℕ). without_segment (segments_in s.table.items) b) (sym at.aligned);
    }
