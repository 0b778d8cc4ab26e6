-- The table by grain: the segments that its entries are, and the runs of grains that these hold.
use Rattle.std.proofs.Common.{ℕ, zero, suc, ◌+◌, ◌<◌, ◌≡◌, Bool, List, [], ◌∷◌, length, get_or, set, Contains, refl, sym, ap, ◌∙◌, subst, inl, inr, arith, replicate, ◌≤◌, ◌⊎◌, ltb, not, eqb, map}
use Rattle.std.proofs.lemmas.Bool.{cond-true, cond-false, lt-ltb, le-ltb, eq-eqb, ne_eqb}
use Rattle.mps_base.proofs.Runs.{with_run_first, with_run_later, without_run_first, without_run_later, contains_first, contains_later}
use Rattle.mps_base.specs.Address.{address_of_grain, grain_of}
use Rattle.mps_base.specs.Run.{Run, with_run, without_run}
use Rattle.mps_base.specs.Segment.{Segment, without_segment, grains_of_segment, with_segment}
use Rattle.mps_base.specs.declared.names.Rank.{Rank}
use Rattle.mps_seg.specs.Segs.{SegsState}
use Rattle.mps_seg.specs.Table.{segments_in, segments_of_entries}
use Rattle.mps_seg.specs.declared.segs.Segs.TheInside.{Inside}
use Rattle.mps_seg.proofs.Seen.{seen_by}
use Rattle.mps_seg.specs.declared.entry.Entry.{Entry}
use Rattle.mps_seg.specs.declared.entry.Entry.TheVariants.{Free, First}

-- the runs of grains of the entries
abbrev pub held_from : ℕ → List Entry → List Run
held_from grain entries = map grains_of_segment (segments_of_entries grain entries)

with_segment_first : (r s : Segment) (rs : List Segment) → r.base < s.base → with_segment r (s ∷ rs) ≡ r ∷ s ∷ rs
with_segment_first r s rs h = cond-true (ltb r.base s.base) (r ∷ s ∷ rs) (s ∷ with_segment r rs) (lt-ltb r.base s.base h)

with_segment_later : (r s : Segment) (rs : List Segment) → s.base ≤ r.base → with_segment r (s ∷ rs) ≡ s ∷ with_segment r rs
with_segment_later r s rs h = cond-false (ltb r.base s.base) (r ∷ s ∷ rs) (s ∷ with_segment r rs) (le-ltb r.base s.base h)

-- a segment before all others
segment_before_all : (at : ℕ) (entries : List Entry) (new : Segment) → new.base < address_of_grain at
    → with_segment new (segments_of_entries at entries) ≡ new ∷ segments_of_entries at entries
unfolding segments_of_entries
segment_before_all at [] new before = refl
segment_before_all at (Free ∷ entries) new before = segment_before_all (suc at) entries new (omega arith)
segment_before_all at (First n p g r ∷ entries) new before =
    with_segment_first new (record { base = address_of_grain at; grains = n; pool = p; generation = g; rank = r })
    (segments_of_entries (suc at) entries) before

run_before_all : (at : ℕ) (entries : List Entry) (new : Run) → new.from < at
    → with_run new (held_from at entries) ≡ new ∷ held_from at entries
unfolding segments_of_entries
run_before_all at [] new before = refl
run_before_all at (Free ∷ entries) new before = run_before_all (suc at) entries new (omega arith)
run_before_all at (First n p g r ∷ entries) new before =
    with_run_first new (grains_of_segment (record { base = address_of_grain at; grains = n; pool = p; generation = g; rank = r }))
    (held_from (suc at) entries) (omega arith)

pub segments_put : (at : ℕ) (entries : List Entry) (i n p g : ℕ) (r : Rank) → i < length entries → get_or entries i Free ≡ Free
    → segments_of_entries at (set entries i (First n p g r))
    ≡ with_segment (record { base = address_of_grain (at + i); grains = n; pool = p; generation = g; rank = r })
    (segments_of_entries at entries)
unfolding segments_of_entries
segments_put at [] i n p g r within free = absurd (omega arith)
segments_put at (First a b c d ∷ entries) zero n p g r within free = cc
segments_put at (Free ∷ entries) zero n p g r within free =
    let shifted : at ≡ at + 0 = omega arith in
    sym (segment_before_all (suc at) entries (record { base = address_of_grain at; grains = n; pool = p; generation = g; rank = r })
    (omega arith))
    ∙ ap (λ (a : ℕ). with_segment (record { base = address_of_grain a; grains = n; pool = p; generation = g; rank = r })
    (segments_of_entries (suc at) entries)) shifted
segments_put at (Free ∷ entries) (suc i) n p g r within free =
    let shifted : suc at + i ≡ at + suc i = omega arith in
    segments_put (suc at) entries i n p g r (omega arith) free
    ∙ ap (λ (a : ℕ). with_segment (record { base = address_of_grain a; grains = n; pool = p; generation = g; rank = r })
    (segments_of_entries (suc at) entries)) shifted
segments_put at (First a b c d ∷ entries) (suc i) n p g r within free =
    let shifted : suc at + i ≡ at + suc i = omega arith in
    let head : Segment = record { base = address_of_grain at; grains = a; pool = b; generation = c; rank = d } in
    let new : Segment = record { base = address_of_grain (at + suc i); grains = n; pool = p; generation = g; rank = r } in
    ap (λ (ss : List Segment). head ∷ ss)
    (segments_put (suc at) entries i n p g r (omega arith) free
    ∙ ap (λ (k : ℕ). with_segment (record { base = address_of_grain k; grains = n; pool = p; generation = g; rank = r })
    (segments_of_entries (suc at) entries)) shifted)
    ∙ sym (with_segment_later new head (segments_of_entries (suc at) entries) (omega arith))

pub held_put : (at : ℕ) (entries : List Entry) (i n p g : ℕ) (r : Rank) → i < length entries → get_or entries i Free ≡ Free
    → held_from at (set entries i (First n p g r)) ≡ with_run (record { from = at + i; count = n }) (held_from at entries)
unfolding segments_of_entries
held_put at [] i n p g r within free = absurd (omega arith)
held_put at (First a b c d ∷ entries) zero n p g r within free = cc
held_put at (Free ∷ entries) zero n p g r within free =
    let shifted : grain_of (address_of_grain at) ≡ at + 0 = omega arith in
    sym (run_before_all (suc at) entries (record { from = grain_of (address_of_grain at); count = n }) (omega arith))
    ∙ ap (λ (a : ℕ). with_run (record { from = a; count = n }) (held_from (suc at) entries)) shifted
held_put at (Free ∷ entries) (suc i) n p g r within free =
    let shifted : suc at + i ≡ at + suc i = omega arith in
    held_put (suc at) entries i n p g r (omega arith) free
    ∙ ap (λ (a : ℕ). with_run (record { from = a; count = n }) (held_from (suc at) entries)) shifted
held_put at (First a b c d ∷ entries) (suc i) n p g r within free =
    let shifted : suc at + i ≡ at + suc i = omega arith in
    let head : Run = record { from = grain_of (address_of_grain at); count = a } in
    let new : Run = record { from = at + suc i; count = n } in
    ap (λ (rs : List Run). head ∷ rs)
    (held_put (suc at) entries i n p g r (omega arith) free ∙ ap
    (λ (k : ℕ). with_run (record { from = k; count = n }) (held_from (suc at) entries)) shifted)
    ∙ sym (with_run_later new head (held_from (suc at) entries) (omega arith))

-- an entry where a segment begins is a run of held grains
pub held_of_entry : (at : ℕ) (entries : List Entry) (i n p g : ℕ) (r : Rank) → get_or entries i Free ≡ First n p g r
    → Contains (held_from at entries) (record { from = at + i; count = n })
unfolding segments_of_entries
held_of_entry at [] i n p g r is = cc
held_of_entry at (Free ∷ entries) zero n p g r is = cc
held_of_entry at (Free ∷ entries) (suc i) n p g r is =
    let shifted : suc at + i ≡ at + suc i = omega arith in
    let P : ℕ → Type 0 = λ a. Contains (held_from (suc at) entries) (record { from = a; count = n }) in
    subst P shifted (held_of_entry (suc at) entries i n p g r is)
held_of_entry at (First a b c d ∷ entries) zero n p g r is =
    let shifted : grain_of (address_of_grain at) ≡ at + 0 = omega arith in
    let count : a ≡ n = cc in
    let P : ℕ → Type 0 = λ k. Contains (held_from at (First a b c d ∷ entries)) (record { from = k; count = a }) in
    let Q : ℕ → Type 0 = λ k. Contains (held_from at (First a b c d ∷ entries)) (record { from = at + 0; count = k }) in
    subst Q count (subst P shifted
    (contains_first (held_from (suc at) entries) (record { from = grain_of (address_of_grain at); count = a })))
held_of_entry at (First a b c d ∷ entries) (suc i) n p g r is =
    let shifted : suc at + i ≡ at + suc i = omega arith in
    let P : ℕ → Type 0 = λ k. Contains (held_from (suc at) entries) (record { from = k; count = n }) in
    contains_later (held_from (suc at) entries) (record { from = at + suc i; count = n })
    (record { from = grain_of (address_of_grain at); count = a })
    (subst P shifted (held_of_entry (suc at) entries i n p g r is))

pub entry_is_held : (table : List Entry) (grain n p g : ℕ) (r : Rank) → get_or table grain Free ≡ First n p g r
    → Contains (map grains_of_segment (segments_in table)) (record { from = grain; count = n })
unfolding segments_in
entry_is_held table grain n p g r is =
    let shifted : 0 + grain ≡ grain = omega arith in
    let P : ℕ → Type 0 = λ k. Contains (held_from 0 table) (record { from = k; count = n }) in
    subst P shifted (held_of_entry 0 table grain n p g r is)

no_segments : (at n : ℕ) → segments_of_entries at (replicate n Free) ≡ []
unfolding segments_of_entries
no_segments at zero = refl
no_segments at (suc n) = no_segments (suc at) n

pub new_segments_in : (n : ℕ) → segments_in (replicate n Free) ≡ []
unfolding segments_in
new_segments_in n = no_segments 0 n

without_segment_before_all : (at : ℕ) (entries : List Entry) (base : ℕ) → base < address_of_grain at
    → without_segment (segments_of_entries at entries) base ≡ segments_of_entries at entries
unfolding segments_of_entries
without_segment_before_all at [] base before = refl
without_segment_before_all at (Free ∷ entries) base before = without_segment_before_all (suc at) entries base (omega arith)
without_segment_before_all at (First n p g r ∷ entries) base before =
    let head : Segment = record { base = address_of_grain at; grains = n; pool = p; generation = g; rank = r } in
    cond-true (not (eqb (address_of_grain at) base)) (head ∷ without_segment (segments_of_entries (suc at) entries) base)
    (without_segment (segments_of_entries (suc at) entries) base)
    (ap (λ (b : Bool). not b) (ne_eqb (address_of_grain at) base (λ e. omega arith)))
    ∙ ap (λ (ss : List Segment). head ∷ ss) (without_segment_before_all (suc at) entries base (omega arith))

pub segments_taken : (at : ℕ) (entries : List Entry) (i n p g : ℕ) (r : Rank) → get_or entries i Free ≡ First n p g r
    → segments_of_entries at (set entries i Free) ≡ without_segment (segments_of_entries at entries) (address_of_grain (at + i))
unfolding segments_of_entries
segments_taken at [] i n p g r is = cc
segments_taken at (Free ∷ entries) zero n p g r is = cc
segments_taken at (First a b c d ∷ entries) zero n p g r is =
    let shifted : at ≡ at + 0 = omega arith in
    let head : Segment = record { base = address_of_grain at; grains = a; pool = b; generation = c; rank = d } in
    sym (without_segment_before_all (suc at) entries (address_of_grain at) (omega arith))
    ∙ sym (cond-false (not (eqb (address_of_grain at) (address_of_grain at)))
    (head ∷ without_segment (segments_of_entries (suc at) entries) (address_of_grain at))
    (without_segment (segments_of_entries (suc at) entries) (address_of_grain at))
    (ap (λ (x : Bool). not x) (eq-eqb (address_of_grain at) (address_of_grain at) refl)))
    ∙ ap (λ (k : ℕ). without_segment (head ∷ segments_of_entries (suc at) entries) (address_of_grain k)) shifted
segments_taken at (Free ∷ entries) (suc i) n p g r is =
    let shifted : suc at + i ≡ at + suc i = omega arith in
    segments_taken (suc at) entries i n p g r is
    ∙ ap (λ (k : ℕ). without_segment (segments_of_entries (suc at) entries) (address_of_grain k)) shifted
segments_taken at (First a b c d ∷ entries) (suc i) n p g r is =
    let shifted : suc at + i ≡ at + suc i = omega arith in
    let head : Segment = record { base = address_of_grain at; grains = a; pool = b; generation = c; rank = d } in
    let base = address_of_grain (at + suc i) in
    ap (λ (ss : List Segment). head ∷ ss)
    (segments_taken (suc at) entries i n p g r is ∙ ap
    (λ (k : ℕ). without_segment (segments_of_entries (suc at) entries) (address_of_grain k)) shifted)
    ∙ sym (cond-true (not (eqb (address_of_grain at) base)) (head ∷ without_segment (segments_of_entries (suc at) entries) base)
    (without_segment (segments_of_entries (suc at) entries) base)
    (ap (λ (x : Bool). not x) (ne_eqb (address_of_grain at) base (λ e. omega arith))))

pub held_taken : (at : ℕ) (entries : List Entry) (i n p g : ℕ) (r : Rank) → get_or entries i Free ≡ First n p g r
    → held_from at (set entries i Free) ≡ without_run (at + i) (held_from at entries)
unfolding segments_of_entries
held_taken at [] i n p g r is = cc
held_taken at (Free ∷ entries) zero n p g r is = cc
held_taken at (First a b c d ∷ entries) zero n p g r is =
    sym (without_run_first (at + 0) (record { from = grain_of (address_of_grain at); count = a }) (held_from (suc at) entries)
    (omega arith))
held_taken at (Free ∷ entries) (suc i) n p g r is =
    let shifted : suc at + i ≡ at + suc i = omega arith in
    held_taken (suc at) entries i n p g r is ∙ ap (λ (k : ℕ). without_run k (held_from (suc at) entries)) shifted
held_taken at (First a b c d ∷ entries) (suc i) n p g r is =
    let shifted : suc at + i ≡ at + suc i = omega arith in
    let head : Run = record { from = grain_of (address_of_grain at); count = a } in
    ap (λ (rs : List Run). head ∷ rs)
    (held_taken (suc at) entries i n p g r is ∙ ap (λ (k : ℕ). without_run k (held_from (suc at) entries)) shifted)
    ∙ sym (without_run_later (at + suc i) head (held_from (suc at) entries) (λ e. omega arith))

pub segments_after_give : (table : List Entry) (grain n p g : ℕ) (r : Rank) → get_or table grain Free ≡ First n p g r
    → segments_in (set table grain Free) ≡ without_segment (segments_in table) (address_of_grain grain)
unfolding segments_in
segments_after_give table grain n p g r is =
    let shifted : 0 + grain ≡ grain = omega arith in
    segments_taken 0 table grain n p g r is ∙ ap (λ (k : ℕ). without_segment (segments_of_entries 0 table) (address_of_grain k)) shifted

pub entry_cases : (e : Entry) → (e ≡ Free) ⊎ ((n : ℕ) × (p : ℕ) × (g : ℕ) × (r : Rank) × (e ≡ First n p g r))
entry_cases Free = inl refl
entry_cases (First n p g r) = inr (n, p, g, r, refl)

-- a segment of the table is an entry
pub record EntryOf (table : List Entry) (s : Segment) (grain : ℕ) : Type 0 where
  pub within : grain < length table
  pub is : get_or table grain Free ≡ First s.grains s.pool s.generation s.rank
  pub base : s.base ≡ address_of_grain grain

entry_of_contained : (at : ℕ) (entries : List Entry) (s : Segment) → Contains (segments_of_entries at entries) s
    → (i : ℕ) × (i < length entries) × (get_or entries i Free ≡ First s.grains s.pool s.generation s.rank)
    × (s.base ≡ address_of_grain (at + i))
unfolding segments_of_entries
entry_of_contained at [] s (k, within, is) = absurd (omega arith)
entry_of_contained at (Free ∷ entries) s there =
    let later = entry_of_contained (suc at) entries s there in
    let shifted : suc at + later.0 ≡ at + suc later.0 = omega arith in
    (suc later.0, omega (arith, later.1), later.2, later.3 ∙ ap address_of_grain shifted)
entry_of_contained at (First n p g r ∷ entries) s (zero, within, is) =
    let head : Segment = record { base = address_of_grain at; grains = n; pool = p; generation = g; rank = r } in
    let same : head ≡ s = is in
    let shifted : at ≡ at + 0 = omega arith in (
      0,
      omega arith,
      ap (λ (x : Segment). First x.grains x.pool x.generation x.rank) same,
      sym (ap (λ (x : Segment). x.base) same) ∙ ap
          address_of_grain shifted,
    )
entry_of_contained at (First n p g r ∷ entries) s (suc k, within, is) =
    let later = entry_of_contained (suc at) entries s (k, omega arith, is) in
    let shifted : suc at + later.0 ≡ at + suc later.0 = omega arith in
    (suc later.0, omega (arith, later.1), later.2, later.3 ∙ ap address_of_grain shifted)

pub entry_of_segment : (table : List Entry) (s : Segment) → Contains (segments_in table) s → (grain : ℕ) × EntryOf table s grain
unfolding segments_in
entry_of_segment table s there =
    let e = entry_of_contained 0 table s there in
    let shifted : 0 + e.0 ≡ e.0 = omega arith in
    (e.0, record { within = e.1; is = e.2; base = e.3 ∙ ap address_of_grain shifted })

-- where the segment at an address stands in the table
pub record EntryAtBase (table : List Entry) (base : ℕ) (s : Segment) : Type 0 where
  pub within : grain_of base < length table
  pub is : get_or table (grain_of base) Free ≡ First s.grains s.pool s.generation s.rank
  pub aligned : base ≡ address_of_grain (grain_of base)

pub entry_at_base : (table : List Entry) (base : ℕ) (s : Segment) → Contains (segments_in table) s → s.base ≡ base
    → EntryAtBase table base s
entry_at_base table base s there begins =
    let e = entry_of_segment table s there in
    let grain : grain_of base ≡ e.0 = omega (arith, e.1.base, begins) in
    let P : ℕ → Type 0 = λ k. get_or table k Free ≡ First s.grains s.pool s.generation s.rank in
    record { within = omega (arith, grain, e.1.within); is = subst P (sym grain) e.1.is; aligned = omega (arith, e.1.base, begins) }

pub entry_at_seen_base : (i : Inside) (seen : SegsState) (base : ℕ) (s : Segment)
    → seen_by i ≡ seen → Contains seen.segments s → s.base ≡ base → EntryAtBase i.table.items base s
entry_at_seen_base i seen base s is there begins =
    let P : SegsState → Type 0 = λ st. Contains st.segments s in
    entry_at_base i.table.items base s (subst P (sym is) there) begins
