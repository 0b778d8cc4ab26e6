-- The words of a segment lie in the tables, and each extent lies in them or outside.
use Rattle.std.proofs.Common.{ℕ, ◌+◌, ◌*◌, ◌≤◌, ◌≡◌, List, Contains, sym, subst, arith}
use Rattle.mps_base.specs.Address.{Address, word_of, grain_of, words_of_grain}
use Rattle.mps_base.specs.Run.{Run, end_of}
use Rattle.mps_base.proofs.Runs.{contained_bounds}
use Rattle.mps_extents.specs.Extents.{AreWhole}
use Rattle.mps_seg.specs.Reclaiming.{IsSpan}
use Rattle.mps_seg.specs.Segs.{SegsState}
use Rattle.mps_seg.specs.declared.segs.Segs.TheInside.{Inside}
use Rattle.mps_seg.proofs.Entries.{entry_at_seen_base, entry_is_held}
use Rattle.mps_seg.proofs.Found.{over_is_there}
use Rattle.mps_seg.proofs.HeldSegments.{whole_in}
use Rattle.mps_seg.proofs.Seen.{seen_by, IsSoundInside}

-- what a search of the words of a segment needs
pub record IsSearchable (s : Inside) (base end : Address) : Type 0 where
  pub whole : AreWhole (word_of base) (word_of end) s.extents.covered
  pub whole_part : (rs : List Run) → ((r : Run) → Contains rs r → Contains s.extents.covered r) → AreWhole (word_of base) (word_of end) rs
  pub in_table : word_of end ≤ s.extents.size
  pub ordered : word_of base ≤ word_of end

pub searchable : (s : Inside) (seen : SegsState) (base end : Address) → IsSoundInside s → seen_by s ≡ seen → IsSpan seen base end
    → IsSearchable s base end
searchable s seen base end sound is span =
    let t = span.segment in
    let own : Run = record { from = grain_of base; count = t.grains } in
    let at = entry_at_seen_base s seen base t is (over_is_there seen.segments base t span.over) span.begins in
    let P : List Run → Type 0 = λ rs. Contains rs own in
    let listed = subst P (sym sound.0.held) (entry_is_held s.table.items (grain_of base) t.grains t.pool t.generation t.rank at.is) in
    let bounds = contained_bounds 1 (s.arena.grains + 1) s.arena.held own sound.0.ascending listed in
    let low : words_of_grain * grain_of base ≡ word_of base = omega (arith, at.aligned) in
    let high : words_of_grain * end_of own ≡ word_of end = omega (arith, at.aligned, span.ends, span.begins) in
    let part = λ (rs : List Run) (among : (r : Run) → Contains rs r → Contains s.extents.covered r).
    let Q : ℕ → Type 0 = λ n. AreWhole n (words_of_grain * end_of own) rs in
    let R : ℕ → Type 0 = λ n. AreWhole (word_of base) n rs in
    subst R high (subst Q low (whole_in s.arena s.table.items s.extents sound.0 own listed rs among)) in
    record {
      whole = part s.extents.covered (λ r there. there);
      whole_part = part;
      in_table = omega (arith, high, bounds.2, sound.0.covered_size);
      ordered = omega (arith, low, high);
    }
