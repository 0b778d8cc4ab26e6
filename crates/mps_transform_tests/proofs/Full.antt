-- Blocks are summed where summaries have all zones, and those have all zones after a transform was applied.
use Rattle.std.proofs.Common.{ℕ, zero, suc, ◌≡◌, ◌+◌, ◌-◌, ◌^◌, true, Bool, Option, List, Contains, Ok, Err, length, sym, ap, ◌∙◌, subst, arith}
use Rattle.std.specs.Prelude.{Result, slice_index}
use Rattle.std.proofs.lemmas.Nat.Bits.{bit_at_ones}
use Rattle.mps_arena.specs.Arena.{answer_of_placement}
use Rattle.mps_base.specs.Address.{Address, grain_of, zone_of}
use Rattle.mps_base.specs.Segment.{Segment}
use Rattle.mps_base.specs.Zones.{zones_meet, zone_bit}
use Rattle.mps_base.specs.declared.address.Addr.{Addr}
use Rattle.mps_base.specs.declared.names.Rank.TheVariants.{Exact}
use Rattle.mps_base.specs.declared.refusal.Refusal.{Refusal}
use Rattle.mps_format.specs.Layout.{Layout}
use Rattle.mps_seg.specs.Collecting.{summarizing, summary_at}
use Rattle.mps_seg.specs.Segs.{SegsState, new_segments, noted_for, placement_for, segments_after}
use Rattle.mps_xform.specs.Applying.{after_apply}
use Rattle.mps_xform.specs.Summed.{AreBlocksSummed}
use Rattle.mps_xform.proofs.Noting.{pass_keeps, same_segments}
use Rattle.mps_xform.proofs.Zones.{has_zone}
use Rattle.mps_transform_tests.specs.Full.{AreFull}

pub full_summed : (f : Layout) (s : SegsState) (pool : ℕ) → AreFull s → AreBlocksSummed f s pool
full_summed f s pool full t r there of_pool listed above below k few reference some =
    full t (zone_of (f.target (slice_index s.words (r.from + k)))) there (omega arith)

pub full_still : (f : Layout) (to : Address → Option Address) (s : SegsState) (pool : ℕ) → AreFull s → AreFull (after_apply f to s pool)
full_still f to s pool full t zone there low =
    let kept = pass_keeps f to s pool (length s.words) in
    let was = let P : List Segment → Type 0 = λ ts. Contains ts t in subst P (same_segments kept) there in
    kept.zones (grain_of t.base) zone (full t zone was low)

-- ---- the segment of a block

abbrev address_of : Result Addr Refusal → Addr
address_of (Ok at) = at
address_of (Err why) = record { 0 = 0 }

-- with a segment for so many words
abbrev taken : SegsState → (words : ℕ) → List Bool → SegsState
taken s words condemned = record s {
  segments = segments_after (placement_for s words) 0 0 Exact s.segments;
  condemned = condemned;
  summaries = noted_for (placement_for s words) 0 s.summaries;
}

-- the first segment of an arena
first_full : (condemned : List Bool) → AreFull (summarizing (taken (new_segments 2 2) 33 condemned) 4096 (2 ^ 64 - 1))
first_full condemned t zone (zero, within, is) low =
    let P : Segment → Type 0 = λ x.
    zones_meet (zone_bit zone) (summary_at (summarizing (taken (new_segments 2 2) 33 condemned) 4096 (2 ^ 64 - 1)) x.base) ≡ true
    in
    subst P is (has_zone (2 ^ 64 - 1) zone (bit_at_ones 64 zone low))
first_full condemned t zone (suc k, within, is) low = absurd (omega (arith, within))

pub made_full : (s u t : SegsState) (condemned : List Bool) (base : Addr) → s ≡ new_segments 2 2
    → Ok base ≡ answer_of_placement (placement_for s 33) → u ≡ taken s 33 condemned → t ≡ summarizing u base.0 (2 ^ 64 - 1) → AreFull t
made_full s u t condemned base empty begins is summarized =
    let first : Addr = record { 0 = 4096 } in
    let base_is : base ≡ first =
    ap address_of (begins ∙ ap (λ (x : SegsState). answer_of_placement (placement_for x 33)) empty) in
    subst AreFull
    (sym (summarized ∙ ap (λ (a : Addr). summarizing u a.0 (2 ^ 64 - 1)) base_is
    ∙ ap (λ (x : SegsState). summarizing x 4096 (2 ^ 64 - 1)) (is ∙ ap (λ (x : SegsState). taken x 33 condemned) empty)))
    (first_full condemned)
