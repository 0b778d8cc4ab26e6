-- The segment over an address, by the run of grains over its grain.
use Rattle.std.proofs.Common.{◌<◌, ◌+◌, length, get_or, ℕ, suc, ◌≡◌, Bool, List, [], ◌∷◌, Contains, refl, sym, ap, ◌∙◌, inl, inr, arith, ◌≤◌, leb, ltb, ◌≢◌, Option, Some, None, map, option_map}
use Rattle.std.proofs.lemmas.Bool.{cases_lt, cases_Bool, cond-true, cond-false, le-leb, lt-ltb, lt-leb, le-ltb, and_from, and_left, and_right}
use Rattle.mps_base.proofs.Runs.{contained_bounds}
use Rattle.mps_base.specs.Address.{address_of_grain, grain_of}
use Rattle.mps_base.specs.Run.{Run, IsAscending}
use Rattle.mps_base.specs.Segment.{Segment, end_of_segment, grains_of_segment, segment_over, is_in_segment}
use Rattle.mps_base.specs.declared.address.Addr.{Addr}
use Rattle.mps_arena.specs.Arena.{ArenaMemory}
use Rattle.mps_extents.specs.Extents.{has_word, ExtentLists, run_over}
use Rattle.mps_seg.specs.Segs.{SegsState, base_address}
use Rattle.mps_seg.specs.Table.{segments_in, IsHeld, segments_of_entries, first_over, or_zero}
use Rattle.mps_seg.specs.declared.entry.Entry.{Entry}
use Rattle.mps_seg.specs.declared.entry.Entry.TheVariants.{Free, First}
use Rattle.mps_extents.proofs.ApartRuns.{has_word-true, has_word-below, has_word-above}
use Rattle.mps_extents.proofs.RunOver.{run_over_none, run_over-contains}
use Rattle.mps_seg.specs.declared.segs.Segs.TheInside.{Inside}
use Rattle.mps_seg.proofs.Seen.{seen_by, IsSoundInside}
use Rattle.std.proofs.lemmas.List.{get_or_read}

-- the address at which a grain begins
abbrev pub base_of_grain : ℕ → Addr
base_of_grain grain = record { 0 = address_of_grain grain }

over_from : (at grain : ℕ) (entries : List Entry)
    → option_map base_address (segment_over (segments_of_entries grain entries) at)
    ≡ option_map base_of_grain (run_over (map grains_of_segment (segments_of_entries grain entries)) (grain_of at))
unfolding segments_of_entries
over_from at grain [] = refl
over_from at grain (Free ∷ entries) = over_from at (suc grain) entries
over_from at grain (First n p g k ∷ entries) =
    let s : Segment = record { base = address_of_grain grain; grains = n; pool = p; generation = g; rank = k } in
    let r : Run = grains_of_segment s in
    let here : Bool = is_in_segment s at in
    let same : here ≡ has_word r (grain_of at) =
    elim (cases_lt at s.base) [
      | inl below ↦ and_left (leb s.base at) (ltb at (end_of_segment s)) (lt-leb s.base at below)
          ∙ sym (has_word-below r (grain_of at) (omega arith))
      | inr from ↦ elim (cases_lt at (end_of_segment s)) [
        | inl under ↦
            and_from (leb s.base at) (ltb at (end_of_segment s)) (le-leb s.base at from) (lt-ltb at (end_of_segment s) under)
            ∙ sym (has_word-true r (grain_of at) (omega arith) (omega arith))
        | inr past ↦ and_right (leb s.base at) (ltb at (end_of_segment s)) (le-ltb at (end_of_segment s) past)
            ∙ sym (has_word-above r (grain_of at) (omega arith))
      ]
    ]
    in
    let rest = segment_over (segments_of_entries (suc grain) entries) at in
    let rest' = run_over (map grains_of_segment (segments_of_entries (suc grain) entries)) (grain_of at) in
    let base : address_of_grain r.from ≡ s.base = omega arith in
    elim (cases_Bool (has_word r (grain_of at))) [
      | inl has ↦
          ap (λ (o : Option Segment). option_map base_address o) (cond-true here (Some s) rest (same ∙ has))
          ∙ ap (λ (b : ℕ). Some (record { 0 = b })) (sym base)
          ∙ sym (ap (λ (o : Option ℕ). option_map base_of_grain o) (cond-true (has_word r (grain_of at)) (Some r.from) rest' has))
      | inr other ↦
          ap (λ (o : Option Segment). option_map base_address o) (cond-false here (Some s) rest (same ∙ other))
          ∙ over_from at (suc grain) entries
          ∙ sym (ap (λ (o : Option ℕ). option_map base_of_grain o) (cond-false (has_word r (grain_of at)) (Some r.from) rest' other))
    ]

pub segment_over_is : (arena : ArenaMemory) (table : List Entry) (ex : ExtentLists) (at : ℕ) (o : Option ℕ) → IsHeld arena table ex
    → run_over arena.held (grain_of at) ≡ o
    → option_map base_address (segment_over (segments_in table) at) ≡ option_map base_of_grain o
unfolding segments_in
segment_over_is arena table ex at o held is =
    over_from at 0 table ∙ ap (λ (rs : List Run). option_map base_of_grain (run_over rs (grain_of at))) (sym held.held)
    ∙ ap (λ (x : Option ℕ). option_map base_of_grain x) is

pub no_run_past : (size : ℕ) (held : List Run) (grain : ℕ) → IsAscending 1 size held → size ≤ grain → run_over held grain ≡ None
no_run_past size held grain ascending past =
    run_over_none held grain (λ r there. has_word-above r grain (omega (arith, (contained_bounds 1 size held r ascending there).2, past)))

pub run_from_first : (size : ℕ) (held : List Run) (grain first : ℕ) → IsAscending 1 size held → first ≡ first_over held grain
    → ((first ≡ 0 → run_over held grain ≡ None) × (first ≢ 0 → run_over held grain ≡ Some first))
run_from_first size held grain first ascending is = go (run_over held grain) refl is
  where
    go : (o : Option ℕ) → run_over held grain ≡ o → first ≡ or_zero o
        → ((first ≡ 0 → run_over held grain ≡ None) × (first ≢ 0 → run_over held grain ≡ Some first))
    go None over same = ((λ e. over), (λ other. absurd (other same)))
    go (Some from) over same =
        let run = run_over-contains held grain from over in
        let bounds = contained_bounds 1 size held (record { from = from; count = run.0 }) ascending run.1 in
        ((λ e. absurd (omega (arith, bounds.0, same, e))), (λ other. over ∙ ap (λ (n : ℕ). Some n) (sym same)))

-- the segment that a search by an address finds
pub segment_found : (ss : List Segment) (n : ℕ) (base : Addr) → Some base ≡ option_map base_address (segment_over ss n)
    → (s : Segment) × Contains ss s × (s.base ≡ base.0)
segment_found [] n base is = let never : Some base ≡ None = is in cc
segment_found (s ∷ ss) n base is =
    let here : Bool = is_in_segment s n in
    elim (cases_Bool here) [
      | inl has ↦
          let both : Some base ≡ Some (base_address s) =
          is ∙ ap (λ (o : Option Segment). option_map base_address o) (cond-true here (Some s) (segment_over ss n) has)
          in
          let same : base ≡ base_address s = cc in
          (s, (0, omega arith, refl), sym (ap (λ (a : Addr). a.0) same))
      | inr other ↦
          let later =
          segment_found ss n base
          (is ∙ ap (λ (o : Option Segment). option_map base_address o) (cond-false here (Some s) (segment_over ss n) other))
          in
          (later.0, (suc later.1.0, omega (arith, later.1.1), later.1.2), later.2)
    ]

-- what the table of first grains answers for an address
module _
    (s : Inside) (seen : SegsState) (at : ℕ) (sound : IsSoundInside s) (is : seen_by s ≡ seen)
  where
    seen_over : option_map base_address (segment_over (segments_in s.table.items) at) ≡ option_map base_address
        (segment_over seen.segments at)
    seen_over = ap (λ (st : SegsState). option_map base_address (segment_over st.segments at)) is

    pub no_segment_past : length s.firsts.items ≤ grain_of at → None ≡ option_map base_address (segment_over seen.segments at)
    no_segment_past past =
        let none =
        no_run_past (s.arena.grains + 1) s.arena.held (grain_of at) sound.0.ascending (omega (arith, past, sound.1.firsts_size))
        in
        sym (segment_over_is s.arena s.table.items s.extents at None sound.0 none) ∙ seen_over

    pub segment_of_first : (x : ℕ) → grain_of at < length s.firsts.items → x ≡ get_or s.firsts.items (grain_of at) x
        → (x ≡ 0 → None ≡ option_map base_address (segment_over seen.segments at))
        × (x ≢ 0 → Some (base_of_grain x) ≡ option_map base_address (segment_over seen.segments at))
    segment_of_first x within given =
        let first =
        get_or_read s.firsts.items (grain_of at) x within given 0
        ∙ sound.1.firsts_are (grain_of at) (omega (arith, within, sound.1.firsts_size))
        in
        let over = run_from_first (s.arena.grains + 1) s.arena.held (grain_of at) x sound.0.ascending first in (
          λ none. sym (segment_over_is s.arena s.table.items s.extents at None sound.0 (over.0 none)) ∙ seen_over,
          λ some. sym (segment_over_is s.arena s.table.items s.extents at (Some x) sound.0 (over.1 some)) ∙ seen_over,
        )
