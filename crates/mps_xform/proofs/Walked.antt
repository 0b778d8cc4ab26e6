-- Segments and blocks in ascending order: the first that begins from somewhere on is the lowest, and what lies over a word is one.
use Rattle.std.proofs.Common.{ℕ, zero, suc, ◌<◌, ◌≤◌, ◌%◌, ◌≡◌, ◌⊎◌, ◌&&◌, Bool, false, leb, ltb, Option, Some, None, List, [], ◌∷◌, Contains, refl, sym, ap, ◌∙◌, subst, inl, inr, arith}
use Rattle.std.specs.Prelude.{option_map}
use Rattle.std.proofs.lemmas.Bool.{cases_Bool, cases_lt, cond-true, cond-false, le-leb, lt-leb, lt-ltb, le-ltb, leb-true, ltb-true, and_from, and_left, and_right, and_parts}
use Rattle.mps_base.specs.Address.{Address, bytes_of_word}
use Rattle.mps_base.specs.Run.{Run, end_of, IsAscending}
use Rattle.mps_base.specs.Segment.{Segment, segment_over, is_in_segment, end_of_segment}
use Rattle.mps_base.specs.declared.address.Addr.{Addr}
use Rattle.mps_base.proofs.Runs.{contains_cases, contained_bounds, contains_first, contains_later}
use Rattle.mps_seg.specs.Extents.{first_run}
use Rattle.mps_seg.specs.Segs.{segment_from, base_address, at_word}
use Rattle.mps_xform.specs.Applying.{AreSegmentsApart}

-- ---- segments

segment_cases : (ts : List Segment) (t s : Segment) → Contains (s ∷ ts) t → (s ≡ t) ⊎ Contains ts t
segment_cases ts t s (zero, within, is) = inl is
segment_cases ts t s (suc k, within, is) = inr (k, omega (arith, within), is)

segment_first : (t : Segment) (ts : List Segment) → Contains (t ∷ ts) t
segment_first t ts = (0, omega arith, refl)

segment_later : (s t : Segment) (ts : List Segment) → Contains ts t → Contains (s ∷ ts) t
segment_later s t ts (k, within, is) = (suc k, omega (arith, within), is)

-- a segment of ascending ones lies from the lowest address on, and has whole words
pub record Bounds (low : Address) (t : Segment) : Type 0 where
  pub above : low ≤ t.base
  pub aligned : t.base % bytes_of_word ≡ 0
  pub some : 0 < t.grains

pub bounds : (low : Address) (ts : List Segment) (t : Segment) → AreSegmentsApart low ts → Contains ts t → Bounds low t
bounds low [] t apart (k, within, is) = absurd (omega (arith, within))
bounds low (s ∷ ts) t apart there =
    elim (segment_cases ts t s there) [
      | inl same ↦
          let P : Segment → Type 0 = λ x. Bounds low x in
          subst P same (record { above = apart.0; aligned = apart.1; some = apart.2 })
      | inr later ↦
          let b = bounds (end_of_segment s) ts t apart.3 later in
          record { above = omega (arith, b.above, apart.0); aligned = b.aligned; some = b.some }
    ]

-- two of them are one, or one lies before the other
pub apart_segments : (low : Address) (ts : List Segment) (t u : Segment) → AreSegmentsApart low ts → Contains ts t → Contains ts u
    → (t ≡ u) ⊎ ((end_of_segment t ≤ u.base) ⊎ (end_of_segment u ≤ t.base))
apart_segments low [] t u apart (k, within, is) there = absurd (omega (arith, within))
apart_segments low (s ∷ ts) t u apart here there =
    elim (segment_cases ts t s here) [
      | inl same ↦
          elim (segment_cases ts u s there) [
            | inl same' ↦ inl (sym same ∙ same')
            | inr later ↦
                inr (inl (omega (arith, ap (λ (x : Segment). end_of_segment x) same, (bounds (end_of_segment s) ts u apart.3 later).above)))
          ]
      | inr first ↦
          elim (segment_cases ts u s there) [
            | inl same' ↦
                inr (inr (omega (
                  arith,
                  ap (λ (x : Segment). end_of_segment x) same',
                  (bounds (end_of_segment s) ts t apart.3 first).above,
                )))
            | inr later ↦ apart_segments (end_of_segment s) ts t u apart.3 first later
          ]
    ]

-- the segment over an address is one of them, and the address lies in it
pub record OverIs (ts : List Segment) (at : Address) (t : Segment) : Type 0 where
  pub there : Contains ts t
  pub above : t.base ≤ at
  pub below : at < end_of_segment t

pub over_is : (ts : List Segment) (at : Address) (t : Segment) → segment_over ts at ≡ Some t → OverIs ts at t
over_is [] at t is = let left : Option Segment = None in let never : left ≡ Some t = is in cc
over_is (s ∷ ts) at t is =
    let here : Bool = is_in_segment s at in
    elim (cases_Bool here) [
      | inl has ↦
          let both : Some s ≡ Some t = sym (cond-true here (Some s) (segment_over ts at) has) ∙ is in
          let same : s ≡ t = cc in
          let parts = and_parts (leb s.base at) (ltb at (end_of_segment s)) has in
          let P : Segment → Type 0 = λ x. OverIs (s ∷ ts) at x in
          subst P same (record {
            there = segment_first s ts;
            above = leb-true s.base at parts.0;
            below = ltb-true at (end_of_segment s) parts.1;
          })
      | inr other ↦
          let later = over_is ts at t (sym (cond-false here (Some s) (segment_over ts at) other) ∙ is) in
          record { there = segment_later s t ts later.there; above = later.above; below = later.below }
    ]

-- the address of each word of a segment lies in it alone
pub over_in : (low : Address) (ts : List Segment) (t : Segment) (at : Address) → AreSegmentsApart low ts → Contains ts t → t.base ≤ at
    → at < end_of_segment t → segment_over ts at ≡ Some t
over_in low [] t at apart (k, within, is) above below = absurd (omega (arith, within))
over_in low (s ∷ ts) t at apart there above below =
    let here : Bool = is_in_segment s at in
    elim (segment_cases ts t s there) [
      | inl same ↦
          let above' : s.base ≤ at = omega (arith, above, ap (λ (x : Segment). x.base) same) in
          let below' : at < end_of_segment s = omega (arith, below, ap (λ (x : Segment). end_of_segment x) same) in
          cond-true here (Some s) (segment_over ts at)
          (and_from (leb s.base at) (ltb at (end_of_segment s)) (le-leb s.base at above') (lt-ltb at (end_of_segment s) below'))
          ∙ ap (λ (x : Segment). Some x) same
      | inr later ↦
          let past : end_of_segment s ≤ at = omega (arith, above, (bounds (end_of_segment s) ts t apart.3 later).above) in
          cond-false here (Some s) (segment_over ts at)
          (and_right (leb s.base at) (ltb at (end_of_segment s)) (le-ltb at (end_of_segment s) past))
          ∙ over_in (end_of_segment s) ts t at apart.3 later above below
    ]

-- the lowest segment that begins at an address or above
pub record LowestSegment (ts : List Segment) (from base : Address) : Type 0 where
  pub segment : Segment
  pub there : Contains ts segment
  pub begins : segment.base ≡ base
  pub above : from ≤ base
  pub first : (t : Segment) → Contains ts t → from ≤ t.base → base ≤ t.base

pub next_segment : (low : Address) (ts : List Segment) (from : Address) (base : Addr) → AreSegmentsApart low ts
    → Some base ≡ option_map base_address (segment_from ts from) → LowestSegment ts from base.0
next_segment low [] from base apart is = let never : Some base ≡ None = is in cc
next_segment low (s ∷ ts) from base apart is =
    elim (cases_lt s.base from) [
      | inl below ↦
          let later = cond-false (leb from s.base) (Some s) (segment_from ts from) (lt-leb from s.base below) in
          let rest =
          next_segment (end_of_segment s) ts from base apart.3 (is ∙ ap (λ (o : Option Segment). option_map base_address o) later)
          in
          record {
            segment = rest.segment;
            there = segment_later s rest.segment ts rest.there;
            begins = rest.begins;
            above = rest.above;
            first = λ t there above.
                elim (segment_cases ts t s there) [
                  | inl same ↦ absurd (omega (arith, above, below, ap (λ (x : Segment). x.base) same))
                  | inr later ↦ rest.first t later above
                ];
          }
      | inr above ↦
          let here = cond-true (leb from s.base) (Some s) (segment_from ts from) (le-leb from s.base above) in
          let both : Some base ≡ Some (base_address s) = is ∙ ap (λ (o : Option Segment). option_map base_address o) here in
          let same : base ≡ base_address s = cc in
          let number : base.0 ≡ s.base = ap (λ (a : Addr). a.0) same in
          record {
            segment = s;
            there = segment_first s ts;
            begins = sym number;
            above = omega (arith, above, number);
            first = λ t there over.
                elim (segment_cases ts t s there) [
                  | inl equal ↦ omega (arith, number, ap (λ (x : Segment). x.base) equal)
                  | inr later ↦ omega (arith, number, (bounds (end_of_segment s) ts t apart.3 later).above)
                ];
          }
    ]

pub no_segment : (ts : List Segment) (from : Address) → None ≡ option_map base_address (segment_from ts from) → (t : Segment)
    → Contains ts t → from ≤ t.base → ⊥
no_segment [] from is t (k, within, at) above = omega (arith, within)
no_segment (s ∷ ts) from is t there above =
    elim (cases_lt s.base from) [
      | inl below ↦
          let later = cond-false (leb from s.base) (Some s) (segment_from ts from) (lt-leb from s.base below) in
          let rest = is ∙ ap (λ (o : Option Segment). option_map base_address o) later in
          elim (segment_cases ts t s there) [
            | inl same ↦ omega (arith, above, below, ap (λ (x : Segment). x.base) same)
            | inr later ↦ no_segment ts from rest t later above
          ]
      | inr over ↦
          let here = cond-true (leb from s.base) (Some s) (segment_from ts from) (le-leb from s.base over) in
          let never : None ≡ Some (base_address s) = is ∙ ap (λ (o : Option Segment). option_map base_address o) here in
          let no : Some (base_address s) ≡ None = sym never in cc
    ]

-- ---- blocks

-- whether a run begins between two words
sides : (low high from : ℕ) → ((low ≤ from) × (from < high)) ⊎ ((from < low) ⊎ (high ≤ from))
sides low high from =
    elim (cases_lt from low) [
      | inl before ↦ inr (inl before)
      | inr after ↦ elim (cases_lt from high) [ inl below ↦ inl (after, below) | inr past ↦ inr (inr past) ]
    ]

module _ (low high : ℕ) (r : Run) (rs : List Run) where
  first_here : low ≤ r.from → r.from < high → first_run low high (r ∷ rs) ≡ Some r.from
  first_here above below =
      cond-true (leb low r.from && ltb r.from high) (Some r.from) (first_run low high rs)
      (and_from (leb low r.from) (ltb r.from high) (le-leb low r.from above) (lt-ltb r.from high below))

  outside : (r.from < low) ⊎ (high ≤ r.from) → (leb low r.from && ltb r.from high) ≡ false
  outside (inl below) = and_left (leb low r.from) (ltb r.from high) (lt-leb low r.from below)
  outside (inr above) = and_right (leb low r.from) (ltb r.from high) (le-ltb r.from high above)

  first_later : (r.from < low) ⊎ (high ≤ r.from) → first_run low high (r ∷ rs) ≡ first_run low high rs
  first_later out = cond-false (leb low r.from && ltb r.from high) (Some r.from) (first_run low high rs) (outside out)

not_both : (low high from : ℕ) → low ≤ from → from < high → (from < low) ⊎ (high ≤ from) → ⊥
not_both low high from above below (inl before) = omega (arith, above, before)
not_both low high from above below (inr past) = omega (arith, below, past)

-- the lowest run that begins between two words
pub record LowestRun (low high : ℕ) (rs : List Run) (at : ℕ) : Type 0 where
  pub run : Run
  pub there : Contains rs run
  pub begins : run.from ≡ at
  pub above : low ≤ at
  pub below : at < high
  pub first : (r : Run) → Contains rs r → low ≤ r.from → r.from < high → at ≤ r.from

pub lowest_run : (a b low high : ℕ) (rs : List Run) (at : ℕ) → IsAscending a b rs → first_run low high rs ≡ Some at
    → LowestRun low high rs at
lowest_run a b low high [] at ascending is = let never : None ≡ Some at = is in cc
lowest_run a b low high (r ∷ rs) at ascending is =
    elim (sides low high r.from) [
      | inl (from, under) ↦
          let both : Some r.from ≡ Some at = sym (first_here low high r rs from under) ∙ is in
          let same : r.from ≡ at = cc in
          record {
            run = r;
            there = contains_first rs r;
            begins = same;
            above = omega (arith, same, from);
            below = omega (arith, same, under);
            first = λ s there above below.
                elim (contains_cases rs s r there) [
                  | inl equal ↦ omega (arith, same, ap (λ (x : Run). x.from) equal)
                  | inr later ↦ omega (arith, same, (contained_bounds (end_of r) b rs s ascending.2 later).0)
                ];
          }
      | inr out ↦
          let f = lowest_run (end_of r) b low high rs at ascending.2 (sym (first_later low high r rs out) ∙ is) in
          record {
            run = f.run;
            there = contains_later rs f.run r f.there;
            begins = f.begins;
            above = f.above;
            below = f.below;
            first = λ s there above below.
                elim (contains_cases rs s r there) [
                  | inl equal ↦
                      absurd (not_both low high s.from above below
                      (let P : Run → Type 0 = λ x. (x.from < low) ⊎ (high ≤ x.from) in subst P equal out))
                  | inr later ↦ f.first s later above below
                ];
          }
    ]

pub no_run : (low high : ℕ) (rs : List Run) → first_run low high rs ≡ None → (s : Run) → Contains rs s → low ≤ s.from → s.from < high → ⊥
no_run low high [] is s (k, within, at) above below = omega (arith, within)
no_run low high (r ∷ rs) is s there above below =
    elim (sides low high r.from) [
      | inl (from, under) ↦ let both : Some r.from ≡ None = sym (first_here low high r rs from under) ∙ is in cc
      | inr out ↦
          elim (contains_cases rs s r there) [
            | inl equal ↦
                not_both low high s.from above below
                (let P : Run → Type 0 = λ x. (x.from < low) ⊎ (high ≤ x.from) in subst P equal out)
            | inr later ↦ no_run low high rs (sym (first_later low high r rs out) ∙ is) s later above below
          ]
    ]

-- the word of an answer that is an address
pub word_found : (o : Option ℕ) (at : Addr) → Some at ≡ option_map at_word o → (w : ℕ) × (o ≡ Some w) × (at ≡ at_word w)
word_found None at is = let never : Some at ≡ None = is in cc
word_found (Some w) at is = let both : Some at ≡ Some (at_word w) = is in let same : at ≡ at_word w = cc in (w, refl, same)

pub none_found : (o : Option ℕ) → None ≡ option_map at_word o → o ≡ None
none_found None is = refl
none_found (Some w) is = let never : None ≡ Some (at_word w) = is in cc
