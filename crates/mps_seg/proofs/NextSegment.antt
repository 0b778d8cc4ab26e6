-- The first segment that begins at an address or after it, by the table of entries.
use Rattle.std.proofs.Common.{ℕ, zero, suc, ◌+◌, ◌<◌, ◌≤◌, ◌≡◌, List, [], ◌∷◌, drop, refl, sym, ap, ◌∙◌, arith, leb, Option, Some, option_map}
use Rattle.std.proofs.lemmas.Bool.{cond-true, cond-false, le-leb, lt-leb}
use Rattle.mps_base.specs.Address.{address_of_grain}
use Rattle.mps_base.specs.Segment.{Segment}
use Rattle.mps_seg.specs.Segs.{base_address, segment_from}
use Rattle.mps_seg.specs.Table.{segments_in, segments_of_entries, first_entry}
use Rattle.mps_seg.specs.declared.entry.Entry.{Entry}
use Rattle.mps_seg.specs.declared.entry.Entry.TheVariants.{Free, First}
use Rattle.mps_seg.proofs.SegmentOver.{base_of_grain}

-- the segments of the first grains begin below the address
passed : (k at from : ℕ) (entries : List Entry) → address_of_grain (at + k) < from + address_of_grain 1
    → segment_from (segments_of_entries at entries) from ≡ segment_from (segments_of_entries (at + k) (drop k entries)) from
unfolding segments_of_entries
passed zero at from entries below =
    let shifted : at ≡ at + 0 = omega arith in
    ap (λ (a : ℕ). segment_from (segments_of_entries a entries) from) shifted
passed (suc k) at from [] below = refl
passed (suc k) at from (Free ∷ entries) below =
    let shifted : suc at + k ≡ at + suc k = omega arith in
    passed k (suc at) from entries (omega (arith, below))
    ∙ ap (λ (a : ℕ). segment_from (segments_of_entries a (drop k entries)) from) shifted
passed (suc k) at from (First n p g r ∷ entries) below =
    let shifted : suc at + k ≡ at + suc k = omega arith in
    let s : Segment = record { base = address_of_grain at; grains = n; pool = p; generation = g; rank = r } in
    cond-false (leb from s.base) (Some s) (segment_from (segments_of_entries (suc at) entries) from)
    (lt-leb from s.base (omega (arith, below)))
    ∙ passed k (suc at) from entries (omega (arith, below))
    ∙ ap (λ (a : ℕ). segment_from (segments_of_entries a (drop k entries)) from) shifted

-- the first of the segments of the later grains
first_of_later : (at from : ℕ) (entries : List Entry) → from ≤ address_of_grain at
    → option_map base_address (segment_from (segments_of_entries at entries) from) ≡ option_map base_of_grain (first_entry at entries)
unfolding segments_of_entries
first_of_later at from [] above = refl
first_of_later at from (Free ∷ entries) above = first_of_later (suc at) from entries (omega (arith, above))
first_of_later at from (First n p g r ∷ entries) above =
    let s : Segment = record { base = address_of_grain at; grains = n; pool = p; generation = g; rank = r } in
    ap (λ (o : Option Segment). option_map base_address o)
    (cond-true (leb from s.base) (Some s) (segment_from (segments_of_entries (suc at) entries) from) (le-leb from s.base above))

pub next_is : (table : List Entry) (from start : ℕ) → from ≤ address_of_grain start → address_of_grain start < from + address_of_grain 1
    → option_map base_of_grain (first_entry start (drop start table)) ≡ option_map base_address (segment_from (segments_in table) from)
unfolding segments_in
next_is table from start above below =
    let shifted : 0 + start ≡ start = omega arith in
    sym (ap (λ (o : Option Segment). option_map base_address o)
    (passed start 0 from table (omega (arith, below))
    ∙ ap (λ (a : ℕ). segment_from (segments_of_entries a (drop start table)) from) shifted)
    ∙ first_of_later start from (drop start table) above)
