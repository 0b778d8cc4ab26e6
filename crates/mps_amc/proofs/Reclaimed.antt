-- A segment of which something is left once its blocks that weren't kept are freed; and what a reclaim is, whatever the policy.
use Rattle.std.proofs.Common.{ℕ, ◌<◌, ◌≤◌, ◌≡◌, true, List, Contains, refl, sym, ◌∙◌, subst, arith}
use Rattle.std.proofs.lemmas.Bool.{true≢false}
use Rattle.mps_base.specs.Address.{Address, Word, word_of}
use Rattle.mps_base.specs.Run.{Run, runs_within}
use Rattle.mps_base.specs.Segment.{Segment, end_of_segment}
use Rattle.mps_base.specs.Trail.{Moves}
use Rattle.mps_base.specs.declared.address.Addr.{Addr}
use Rattle.mps_extents.specs.Extents.{is_covered}
use Rattle.mps_extents.proofs.ApartRuns.{covered_by}
use Rattle.mps_extents.proofs.ContainedRuns.{begins_within}
use Rattle.mps_extents.proofs.LostRuns.{within_bounds}
use Rattle.mps_extents.proofs.LowestGap.{contains_within}
use Rattle.mps_format.specs.Layout.{Layout}
use Rattle.mps_seg.specs.Segs.{SegsState, IsUsed}
use Rattle.mps_seg.specs.Reclaiming.{IsSwept, lost_of, freed_in}
use Rattle.mps_seg.specs.Reclaiming as swept
use Rattle.mps_amc.specs.Reclaiming.{ArePadded, IsReclaimed, is_given, is_padded}
use Rattle.mps_seg.proofs.Lost.{words_after}

module _ (s x : SegsState) (t : Segment) (freed : x ≡ freed_in s t) where
  pub used_then : IsUsed x t → IsUsed (freed_in s t) t
  used_then used = let P : SegsState → Type 0 = λ y. IsUsed y t in subst P freed used

  pub padded_then : (f : Layout) (base : Address) (end : Address) (words' : List ℕ) → word_of end ≡ word_of (end_of_segment t)
      → ArePadded f (word_of base) (word_of end) (runs_within (word_of base) (word_of end) x.blocks) x.words words'
      → ArePadded f (word_of base) (word_of (end_of_segment t))
      (runs_within (word_of base) (word_of (end_of_segment t)) (freed_in s t).blocks) s.words words'
  padded_then f base end words' fits padded =
      let P : SegsState → Type 0 =
      λ y. ArePadded f (word_of base) (word_of end) (runs_within (word_of base) (word_of end) y.blocks) y.words words'
      in
      let Q : Word → Type 0 =
      λ high. ArePadded f (word_of base) high (runs_within (word_of base) high (freed_in s t).blocks) (freed_in s t).words words'
      in
      let R : List ℕ → Type 0 =
      λ ws. ArePadded f (word_of base) (word_of (end_of_segment t))
      (runs_within (word_of base) (word_of (end_of_segment t)) (freed_in s t).blocks) ws words'
      in
      subst R (words_after (lost_of s t) s) (subst Q fits (subst P freed padded))

-- ---- a segment of which blocks have all words

-- there is nothing to pad
pub full_is_padded : (f : Layout) (low high : Word) (blocks : List Run) (words : List ℕ)
    → ((word : Word) → low ≤ word → word < high → is_covered (runs_within low high blocks) word ≡ true)
    → ArePadded f low high (runs_within low high blocks) words words
full_is_padded f low high blocks words full = record {
  long = refl;
  pads = λ i after under none. absurd (true≢false (sym (full i after under) ∙ none));
  inside = λ i covered. refl;
  outside = λ i out. refl;
}

-- one of them begins in it
pub used_if_full : (x : SegsState) (t : Segment) (low high : Word) → low ≡ word_of t.base → high ≡ word_of (end_of_segment t) → low < high
    → ((word : Word) → low ≤ word → word < high → is_covered (runs_within low high x.blocks) word ≡ true)
    → ((r : Run) → Contains x.blocks r → Contains x.covered r) → IsUsed x t
used_if_full x t low high begins ends some full part =
    let b = covered_by (runs_within low high x.blocks) low (full low (omega arith) some) in
    let inside = within_bounds low high x.blocks b.0 b.1 in
    let there = part b.0 (contains_within low high x.blocks b.0 b.1) in
    let listed = begins_within (word_of t.base) (word_of (end_of_segment t)) x.covered b.0 there (omega (arith, inside.0, begins))
    (omega (arith, inside.1, ends))
    in
    λ none.
    let P : List Run → Type 0 = λ rs. Contains rs b.0 in
    let never = subst P none listed in
    absurd (omega (arith, never.1))

-- a reclaim of a segment of a copying pool changes no word of a block that is left
pub reclaimed_is_swept : (f : Layout) (s : SegsState) (moves : Moves) (base : Addr) (s' : SegsState) (moves' : Moves)
    → IsReclaimed f s moves base s' moves' → IsSwept s moves base s' moves'
reclaimed_is_swept f s moves base s' moves' (is_given t over empty state trail) = swept.is_given t over empty state trail
reclaimed_is_swept f s moves base s' moves' (is_padded t over used state padded trail) =
    swept.is_used t over used state (record { long = padded.long; inside = padded.inside; outside = padded.outside }) trail
