-- The next grain at which a condemned segment begins, by the bits of grains.
use Rattle.std.proofs.Common.{ℕ, ◌+◌, ◌-◌, ◌<◌, ◌≤◌, ◌≡◌, Bool, true, false, List, length, get_or, Some, None, Contains, refl, sym, ap, ◌∙◌, subst, inl, inr, arith}
use Rattle.std.proofs.lemmas.Bool.{cases_lt, true≢false}
use Rattle.mps_base.specs.Address.{grain_of, address_of_grain}
use Rattle.mps_base.specs.Segment.{Segment}
use Rattle.mps_bits.specs.Table.{bit, next_set_below}
use Rattle.mps_bits.proofs.Searches.{IsLowest, found, missing, lowest_cases}
use Rattle.mps_seg.specs.Condemned.{IsNextCondemned, NoneLeft}
use Rattle.mps_seg.specs.Segs.{SegsState}
use Rattle.mps_seg.specs.Table.{NoneCondemnedFirst, IsCondemnedFirst}
use Rattle.mps_seg.specs.declared.entry.Entry.{Entry}
use Rattle.mps_seg.specs.declared.entry.Entry.TheVariants.{Free, First}
use Rattle.mps_seg.specs.declared.segs.Segs.TheInside.{Inside}
use Rattle.mps_seg.proofs.Entries.{entry_cases, entry_at_seen_base}
use Rattle.mps_seg.proofs.GapSegment.{listed}
use Rattle.mps_seg.proofs.Seen.{seen_by}

-- ---- bits

pub bit_found : (bits : List Bool) (from to at : ℕ) → next_set_below bits from to ≡ Some at → IsLowest (bit bits) from (to - from) at
unfolding next_set_below
bit_found bits from to at is_some =
    elim (lowest_cases (bit bits) from (to - from)) [
      | found index same is ↦
          let both : Some index ≡ Some at = sym same ∙ is_some in
          let e : index ≡ at = cc in
          subst (λ (i : ℕ). IsLowest (bit bits) from (to - from) i) e is
      | missing none clear ↦ let never : Some at ≡ None = sym is_some ∙ none in cc
    ]

pub no_bit_found : (bits : List Bool) (from to i : ℕ) → next_set_below bits from to ≡ None → from ≤ i → i < to → bit bits i ≡ false
unfolding next_set_below
no_bit_found bits from to i none above below =
    elim (lowest_cases (bit bits) from (to - from)) [
      | found index is_some is ↦ let never : None ≡ Some index = sym none ∙ is_some in cc
      | missing is_none clear ↦ clear i above (omega arith)
    ]

-- ---- the grains passed so far

module _ (table : List Entry) (condemned : List Bool) (start from to : ℕ) (passed : NoneCondemnedFirst table condemned start from) where
  pub none_more : next_set_below condemned from to ≡ None → NoneCondemnedFirst table condemned start to
  none_more none grain above below is =
      elim (cases_lt grain from) [
        | inl before ↦ passed grain above before is
        | inr after ↦ absurd (true≢false (sym is ∙ no_bit_found condemned from to grain none after below))
      ]

  pub none_below_bit : (at : ℕ) → next_set_below condemned from to ≡ Some at → NoneCondemnedFirst table condemned start at
  none_below_bit at some grain above below is =
      elim (cases_lt grain from) [
        | inl before ↦ passed grain above before is
        | inr after ↦ absurd (true≢false (sym is ∙ (bit_found condemned from to at some).lower grain after below))
      ]

  pub passed_free : (at : ℕ) → next_set_below condemned from to ≡ Some at → get_or table at Free ≡ Free
      → NoneCondemnedFirst table condemned start (at + 1)
  passed_free at some free grain above below is =
      elim (cases_lt grain at) [
        | inl before ↦ none_below_bit at some grain above before is
        | inr after ↦ let same : grain ≡ at = omega (arith, after, below) in ap (λ (k : ℕ). get_or table k Free) same ∙ free
      ]

-- ---- what that says of segments

module _ (s : Inside) (seen : SegsState) (is : seen_by s ≡ seen) (from start : ℕ) (above : from ≤ address_of_grain start)
    (below : address_of_grain start < from + address_of_grain 1)
  where
    bits_are : s.condemned ≡ seen.condemned
    bits_are = ap (λ (x : SegsState). x.condemned) is

    -- a condemned segment has its bit, and its entry
    bit_clear : (to : ℕ) → NoneCondemnedFirst s.table.items s.condemned start to → (t : Segment) → Contains seen.segments t
        → from ≤ t.base → grain_of t.base < to → bit seen.condemned (grain_of t.base) ≡ false
    bit_clear to none t there after before = by_bit (bit seen.condemned (grain_of t.base)) refl
      where
        by_bit : (b : Bool) → bit seen.condemned (grain_of t.base) ≡ b → b ≡ false
        by_bit false e = refl
        by_bit true e =
            let entry = entry_at_seen_base s seen t.base t is there refl in
            let free =
            none (grain_of t.base) (omega (arith, entry.aligned, after, below)) before
            (ap (λ (bs : List Bool). bit bs (grain_of t.base)) bits_are ∙ e)
            in
            let never : Free ≡ First t.grains t.pool t.generation t.rank = sym free ∙ entry.is in
            cc

    pub next_is_condemned : (grain : ℕ) → IsCondemnedFirst s.table.items s.condemned start grain
        → IsNextCondemned seen from (address_of_grain grain)
    next_is_condemned grain found_there =
        elim (entry_cases (get_or s.table.items grain Free)) [
          | inl free ↦ absurd (found_there.begins free)
          | inr (n, p, g, r, entry) ↦
              let t : Segment = record { base = address_of_grain grain; grains = n; pool = p; generation = g; rank = r } in
              let P : SegsState → Type 0 = λ x. Contains x.segments t in
              let own : grain_of t.base ≡ grain = omega arith in
              let Q : List Bool → Type 0 = λ bs. bit bs (grain_of t.base) ≡ true in
              record {
                segment = t;
                listed = subst P is (listed s.table.items grain n p g r entry);
                begins = refl;
                above = omega (arith, above, found_there.above);
                condemned = subst Q bits_are (ap (λ (k : ℕ). bit s.condemned k) own ∙ found_there.condemned_there);
                first = λ u there after before.
                    bit_clear grain found_there.first u there after
                    (let entry_u = entry_at_seen_base s seen u.base u is there refl in omega (arith, entry_u.aligned, before));
              }
        ]

    pub none_is_left : NoneCondemnedFirst s.table.items s.condemned start (length s.table.items) → NoneLeft seen from
    none_is_left none t there after =
        let entry = entry_at_seen_base s seen t.base t is there refl in
        bit_clear (length s.table.items) none t there after entry.within
