-- Segments that are held stay so where blocks are scanned: a scan takes segments, and gives none back.
use Rattle.std.proofs.Common.{ℕ, ◌≡◌, ◌∙◌, zero, suc, ◌+◌, true, false, refl, sym, subst, inl, inr, List, [], ◌∷◌, Contains, Option, Some, None, Result, Ok, Err, arith}
use Rattle.std.specs.Prelude.{if◌then◌else◌, nat_lt, slice_set}
use Rattle.std.proofs.lemmas.Bool.{cases_Bool, cond-true, cond-false}
use Rattle.mps_base.specs.Address.{Grain, Address, word_of, address_of_grain}
use Rattle.mps_base.specs.Placement.{Placement, Place, NewSegment, OverLimit, NoFreeRun}
use Rattle.mps_base.specs.Segment.{Segment, segment_over, is_in_segment, with_segment}
use Rattle.mps_base.specs.declared.address.Addr.{Addr}
use Rattle.mps_base.specs.declared.names.Rank.TheVariants.{Exact}
use Rattle.mps_base.specs.declared.refusal.Refusal.{Refusal}
use Rattle.mps_seg.specs.Arena.{answer_of_placement}
use Rattle.mps_format.specs.Layout.{Layout}
use Rattle.mps_format.specs.declared.pool.Policy.{Policy}
use Rattle.mps_seg.specs.Segs.{SegsState, segments_after}
use Rattle.mps_seg.specs.Collecting.{first_grain_over, noting_in}
use Rattle.mps_amc.specs.Moving.{size_at}
use Rattle.mps_amc.specs.Amc.{placement_of_copy, segs_fixed, with_place}
use Rattle.mps_amc.proofs.Found.{over_is_there}
use Rattle.mps_gen.specs.State.{ChainsState}
use Rattle.mps_trace.specs.Trace.{Traced, KeepsTo, FixesTo, moves, marks, finds, keeps, target_of}
use Rattle.mps_trace.specs.Scan.{FixesCell, is_null, leads, ScansTo, begins, goes_on, Scanned, word_at}
use Rattle.mps_trace.specs.Splat.{SplatsCell, SplatsTo, Splatted}
use Rattle.mps_trace.specs.Splat as splat

contains_later : (t s : Segment) (ss : List Segment) → Contains ss t → Contains (s ∷ ss) t
contains_later t s ss (k, within, is) = (suc k, omega (arith, within), is)

-- a segment more before or after the others of a list, or among them
held_first : (t u : Segment) (us vs : List Segment) → (Contains us t → Contains vs t) → Contains (u ∷ us) t → Contains (u ∷ vs) t
held_first t u us vs still (zero, within, is) = (zero, omega arith, is)
held_first t u us vs still (suc k, within, is) = contains_later t u vs (still (k, omega (arith, within), is))

held_with : (s t : Segment) (ss : List Segment) → Contains ss t → Contains (with_segment s ss) t
held_with s t [] (k, within, is) = absurd (omega (arith, within))
held_with s t (u ∷ us) there =
    elim (nat_lt s.base u.base) as (λ b. Contains (if b then s ∷ u ∷ us else u ∷ with_segment s us) t) [
      | true ↦ contains_later t s (u ∷ us) there
      | false ↦ held_first t u us (with_segment s us) (held_with s t us) there
    ]

held_after : (p : Placement) (pool generation : ℕ) (t : Segment) (ss : List Segment) → Contains ss t
    → Contains (segments_after p pool generation Exact ss) t
held_after (NewSegment grain grains) pool generation t ss there =
    held_with (record { base = address_of_grain grain; grains = grains; pool = pool; generation = generation; rank = Exact }) t ss there
held_after (Place word) pool generation t ss there = there
held_after (OverLimit committed need limit) pool generation t ss there = there
held_after (NoFreeRun need longest) pool generation t ss there = there

-- a fix leaves the segments that were held for it
same_fixed : (placed : Result Addr Refusal) (s : SegsState) (at : Address) (size : ℕ) → (segs_fixed placed s at size).segments ≡ s.segments
same_fixed (Ok to) s at size = refl
same_fixed (Err why) s at size = refl

same_noted : (s : SegsState) (o : Option Grain) (target : Address) → (noting_in s o target).segments ≡ s.segments
same_noted s None target = refl
same_noted s (Some grain) target = refl

-- an address that lies in a segment lies in one as long as that is held
over_inside : (ss : List Segment) (at : Address) (t : Segment) → segment_over ss at ≡ Some t → is_in_segment t at ≡ true
over_inside [] at t is = let never : None ≡ Some t = is in cc
over_inside (s ∷ ss) at t is =
    elim (cases_Bool (is_in_segment s at)) [
      | inl has ↦
          let both : Some s ≡ Some t = sym (cond-true (is_in_segment s at) (Some s) (segment_over ss at) has) ∙ is in
          let same : s ≡ t = cc in
          subst (λ (u : Segment). is_in_segment u at ≡ true) same has
      | inr other ↦ over_inside ss at t (sym (cond-false (is_in_segment s at) (Some s) (segment_over ss at) other) ∙ is)
    ]

over_some : (ss : List Segment) (at : Address) (t : Segment) → Contains ss t → is_in_segment t at ≡ true
    → (u : Segment) × (segment_over ss at ≡ Some u)
over_some [] at t (k, within, is) inside = absurd (omega (arith, within))
over_some (s ∷ ss) at t (zero, within, is) inside =
    (s, cond-true (is_in_segment s at) (Some s) (segment_over ss at) (subst (λ (u : Segment). is_in_segment u at ≡ true) (sym is) inside))
over_some (s ∷ ss) at t (suc k, within, is) inside =
    elim (cases_Bool (is_in_segment s at)) [
      | inl has ↦ (s, cond-true (is_in_segment s at) (Some s) (segment_over ss at) has)
      | inr other ↦
          let later = over_some ss at t (k, omega (arith, within), is) inside in
          (later.0, cond-false (is_in_segment s at) (Some s) (segment_over ss at) other ∙ later.1)
    ]

still_over : (ss ss' : List Segment) (at : Address) → ((t : Segment) → Contains ss t → Contains ss' t)
    → (t : Segment) × (segment_over ss at ≡ Some t) → (t : Segment) × (segment_over ss' at ≡ Some t)
still_over ss ss' at still (t, over) = over_some ss' at t (still t (over_is_there ss at t over)) (over_inside ss at t over)

module _ {F : Type 0} (layout : F → Layout) (formats : List (Option (Policy F))) (of : ChainsState) (t : Segment) where
  abbrev IsHeld : Traced → Type 0
  IsHeld x = Contains x.segs.segments t

  held_kept : {x z : Traced} {at answer : Addr} → KeepsTo layout formats of x at z answer → IsHeld x → IsHeld z
  held_kept {x} {at = at} (moves u format answer over listed is fixed noted) there =
      let size = size_at (layout format.format) x.segs.words at.0 in
      let p = placement_of_copy x.amc x.segs u.pool (target_of of u) size in
      let s = with_place x.segs u.pool (target_of of u) p in
      let P : SegsState → Type 0 = λ g. Contains g.segments t in
      let Q : List Segment → Type 0 = λ ss. Contains ss t in
      subst IsHeld (sym noted)
      (subst P (sym fixed.state)
      (subst Q (sym (same_fixed (answer_of_placement p) s at.0 size)) (held_after p u.pool (target_of of u) t x.segs.segments there)))
  held_kept {x} {at = at} (marks u format over listed stays is) there = subst IsHeld (sym is) there

  held_fixed : {x z : Traced} {at answer : Addr} → FixesTo layout formats of x at z answer → IsHeld x → IsHeld z
  held_fixed (finds to found) there = there
  held_fixed (keeps answer white kept) there = held_kept kept there

  held_cell : (f : Layout) (at : Addr) (cell : ℕ) {x z : Traced} → FixesCell layout f formats of at cell x z → IsHeld x → IsHeld z
  held_cell f at cell (is_null null) there = there
  held_cell f at cell {x} (leads {y} to positive fixed is) there =
      let s : SegsState =
      record y.segs { words = slice_set y.segs.words (word_of at.0 + cell) (f.retarget (word_at x at cell) to.0) }
      in
      let Q : List Segment → Type 0 = λ ss. Contains ss t in
      subst IsHeld (sym is) (subst Q (sym (same_noted s (first_grain_over s at.0) to.0)) (held_fixed fixed there))

  held_run : (f : Layout) (head : ℕ) (at : Addr) {x z : Traced} {from : ℕ} → ScansTo layout f formats of head at x from z → IsHeld x
      → IsHeld z
  held_run f head at begins there = there
  held_run f head at (goes_on from cell earlier first fixed) there = held_cell f at cell fixed (held_run f head at earlier there)

  pub held_scanned : (x z : Traced) (at : Addr) → Scanned layout formats of x at z → IsHeld x → IsHeld z
  held_scanned x z at is there = subst IsHeld (sym is.black) (held_run (layout is.format.format) _ at is.all.run there)

  splat_cell : (f : Layout) (at : Addr) (cell : ℕ) {x z : Traced} → SplatsCell layout f formats at cell x z → IsHeld x → IsHeld z
  splat_cell f at cell (splat.is_null null) there = there
  splat_cell f at cell {x} (splat.updates to positive found is) there =
      let s : SegsState =
      record x.segs { words = slice_set x.segs.words (word_of at.0 + cell) (f.retarget (word_at x at cell) to.0) }
      in
      let Q : List Segment → Type 0 = λ ss. Contains ss t in
      subst IsHeld (sym is) (subst Q (sym (same_noted s (first_grain_over s at.0) to.0)) there)
  splat_cell f at cell (splat.splats positive white is) there = subst IsHeld (sym is) there

  splat_run : (f : Layout) (head : ℕ) (at : Addr) {x z : Traced} {from : ℕ} → SplatsTo layout f formats head at x from z → IsHeld x
      → IsHeld z
  splat_run f head at splat.begins there = there
  splat_run f head at (splat.goes_on from cell earlier first splatted) there =
      splat_cell f at cell splatted (splat_run f head at earlier there)

  pub held_splatted : (x z : Traced) (at : Addr) → Splatted layout formats x at z → IsHeld x → IsHeld z
  held_splatted x z at is there = subst IsHeld (sym is.black) (splat_run (layout is.format.format) _ at is.all.run there)

-- the block that is scanned stays in a segment
module _ {F : Type 0} (layout : F → Layout) (formats : List (Option (Policy F))) (of : ChainsState) (at : Address) where
  abbrev IsOver : Traced → Type 0
  IsOver x = (t : Segment) × (segment_over x.segs.segments at ≡ Some t)

  pub over_fixed : {x z : Traced} {target answer : Addr} → FixesTo layout formats of x target z answer → IsOver x → IsOver z
  over_fixed {x} {z} fixed over =
      still_over x.segs.segments z.segs.segments at (λ t there. held_fixed layout formats of t fixed there) over

  pub over_run : (f : Layout) (head : ℕ) (holder : Addr) {x z : Traced} {from : ℕ} → ScansTo layout f formats of head holder x from z
      → IsOver x → IsOver z
  over_run f head holder {x} {z} run over =
      still_over x.segs.segments z.segs.segments at (λ t there. held_run layout formats of t f head holder run there) over
