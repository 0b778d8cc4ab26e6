-- The segment over an address, by its first grain: what the table has for it.
use Rattle.std.proofs.Common.{ℕ, suc, ◌+◌, ◌<◌, ◌≤◌, ◌≡◌, ◌≢◌, Bool, List, [], ◌∷◌, length, get_or, Contains, refl, sym, ap, ◌∙◌, subst, inl, inr, arith, Option, Some, None, option_map}
use Rattle.std.proofs.lemmas.Bool.{cases_Bool, cond-true, cond-false}
use Rattle.std.proofs.lemmas.List.{get_or_read}
use Rattle.mps_base.proofs.Runs.{contained_bounds}
use Rattle.mps_base.specs.Address.{grain_of, address_of_grain}
use Rattle.mps_base.specs.declared.address.Addr.{Addr}
use Rattle.mps_base.specs.declared.names.Rank.TheVariants.{Exact}
use Rattle.mps_seg.specs.declared.segment_info.SegmentInfo.{SegmentInfo}
use Rattle.mps_base.specs.Segment.{Segment, segment_over, is_in_segment}
use Rattle.mps_extents.proofs.RunOver.{run_over-contains}
use Rattle.mps_seg.specs.Segs.{SegsState, base_address}
use Rattle.mps_seg.specs.declared.entry.Entry.{Entry}
use Rattle.mps_seg.specs.declared.entry.Entry.TheVariants.{Free, First}
use Rattle.mps_seg.specs.declared.segs.Segs.TheInside.{Inside}
use Rattle.mps_seg.proofs.Entries.{entry_at_seen_base}
use Rattle.mps_seg.proofs.Seen.{seen_by, IsSoundInside}
use Rattle.mps_seg.proofs.SegmentOver.{base_of_grain, run_from_first}

abbrev pub first_of : Option Segment → Option ℕ
first_of o = option_map (λ t. grain_of t.base) o

pub no_first_grain : (o : Option Segment) → None ≡ option_map base_address o → None ≡ first_of o
no_first_grain None is = refl
no_first_grain (Some t) is = let never : None ≡ Some (base_address t) = is in cc

pub no_base : (o : Option Segment) → None ≡ first_of o → None ≡ option_map base_address o
no_base None is = refl
no_base (Some t) is = let never : None ≡ Some (grain_of t.base) = is in cc

pub first_grain_is : (o : Option Segment) (x : ℕ) → Some (base_of_grain x) ≡ option_map base_address o → Some x ≡ first_of o
first_grain_is None x is = let never : Some (base_of_grain x) ≡ None = is in cc
first_grain_is (Some t) x is =
    let both : Some (base_of_grain x) ≡ Some (base_address t) = is in
    let same : base_of_grain x ≡ base_address t = cc in
    let grain : x ≡ grain_of t.base = omega (arith, ap (λ (a : Addr). a.0) same) in
    ap (λ (k : ℕ). Some k) grain

pub over_contains : (ss : List Segment) (at : ℕ) (t : Segment) → segment_over ss at ≡ Some t → Contains ss t
over_contains [] at t is = let never : None ≡ Some t = is in cc
over_contains (s ∷ ss) at t is =
    let here : Bool = is_in_segment s at in
    elim (cases_Bool here) [
      | inl has ↦
          let both : Some s ≡ Some t = sym (cond-true here (Some s) (segment_over ss at) has) ∙ is in
          let same : s ≡ t = cc in
          (0, omega arith, same)
      | inr other ↦
          let later = over_contains ss at t (sym (cond-false here (Some s) (segment_over ss at) other) ∙ is) in
          (suc later.0, omega (arith, later.1), later.2)
    ]

-- the first grain of a segment lies in the arena
pub first_grain_within : (s : Inside) (seen : SegsState) (at x : ℕ) → IsSoundInside s → seen_by s ≡ seen
    → grain_of at < length s.firsts.items → x ≡ get_or s.firsts.items (grain_of at) x → x ≢ 0 → x ≤ seen.grains
first_grain_within s seen at x sound is within given some =
    let first =
    get_or_read s.firsts.items (grain_of at) x within given 0
    ∙ sound.1.firsts_are (grain_of at) (omega (arith, within, sound.1.firsts_size))
    in
    let over = (run_from_first (s.arena.grains + 1) s.arena.held (grain_of at) x sound.0.ascending first).1 some in
    let run = run_over-contains s.arena.held (grain_of at) x over in
    let bounds =
    contained_bounds 1 (s.arena.grains + 1) s.arena.held (record { from = x; count = run.0 }) sound.0.ascending run.1
    in
    let grains : s.arena.grains ≡ seen.grains = ap (λ (st : SegsState). st.grains) is in
    omega (arith, bounds.1, bounds.2, grains)

-- the entry of the segment over an address
pub record EntryOver (table : List Entry) (t : Segment) (grain : ℕ) : Type 0 where
  pub within : grain < length table
  pub is : get_or table grain Free ≡ First t.grains t.pool t.generation t.rank

pub entry_over : (s : Inside) (seen : SegsState) (at grain : ℕ) → seen_by s ≡ seen
    → Some grain ≡ first_of (segment_over seen.segments at)
    → (t : Segment) × (segment_over seen.segments at ≡ Some t) × EntryOver s.table.items t grain
entry_over s seen at grain is given = go (segment_over seen.segments at) refl given
  where
    go : (o : Option Segment) → segment_over seen.segments at ≡ o → Some grain ≡ first_of o
        → (t : Segment) × (segment_over seen.segments at ≡ Some t) × EntryOver s.table.items t grain
    go None over same = let never : Some grain ≡ None = same in cc
    go (Some t) over same =
        let both : Some grain ≡ Some (grain_of t.base) = same in
        let first : grain_of t.base ≡ grain = cc in
        let entry = entry_at_seen_base s seen t.base t is (over_contains seen.segments at t over) refl in
        let P : ℕ → Type 0 = λ g. EntryOver s.table.items t g in
        (t, over, subst P first (record { within = entry.within; is = entry.is }))

-- the segment over an address begins where its first grain does
pub base_over : (s : Inside) (seen : SegsState) (at grain : ℕ) → seen_by s ≡ seen
    → Some grain ≡ first_of (segment_over seen.segments at)
    → Some (base_of_grain grain) ≡ option_map base_address (segment_over seen.segments at)
base_over s seen at grain is given =
    let over = entry_over s seen at grain is given in
    let entry = entry_at_seen_base s seen over.0.base over.0 is (over_contains seen.segments at over.0 over.1) refl in
    let both : Some grain ≡ Some (grain_of over.0.base) = given ∙ ap (λ (o : Option Segment). first_of o) over.1 in
    let first : grain ≡ grain_of over.0.base = cc in
    let base : address_of_grain grain ≡ over.0.base = omega (arith, first, entry.aligned) in
    ap (λ (b : ℕ). Some (record { 0 = b })) base ∙ sym (ap (λ (o : Option Segment). option_map base_address o) over.1)

-- what an entry of the table says of its segment
abbrev pub info_of_entry : Bool → Entry → SegmentInfo
info_of_entry condemned Free = record { grains = 0; pool = 0; generation = 0; rank = Exact; is_condemned = condemned }
info_of_entry condemned (First n p g r) = record { grains = n; pool = p; generation = g; rank = r; is_condemned = condemned }

-- the condemned bit of a segment lies in its table
pub in_condemned : (s : Inside) (seen : SegsState) (base : ℕ) (t : Segment) → IsSoundInside s → seen_by s ≡ seen
    → Contains seen.segments t → t.base ≡ base → grain_of base < length s.condemned
in_condemned s seen base t sound is there begins =
    let entry = entry_at_seen_base s seen base t is there begins in
    omega (arith, entry.within, sound.0.size, sound.2.condemned_size)
