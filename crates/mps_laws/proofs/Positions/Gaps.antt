-- Where something is placed in the gaps of segments, nobody has words; and a new segment has a gap that is long enough.
use Rattle.std.proofs.Common.{◌≡◌, ◌∙◌, ◌⊎◌, ℕ, ◌+◌, ◌-◌, ◌*◌, ◌<◌, ◌≤◌, Bool, true, false, refl, sym, ap, List, [], ◌∷◌, ◌++◌, Some, subst, inl, inr, arith}
use Rattle.std.proofs.lemmas.Bool.{cases_lt, cases_Bool, false≢true, and_parts, and_from, eqb-true, eq-eqb, le-leb, or_left, or_right}
use Rattle.std.proofs.lemmas.Option.{none-some}
use Rattle.std.specs.Prelude.{◌≢◌, ◌||◌, ◌&&◌, ◌==◌, nat_le, filter, if◌then◌else◌}
use Rattle.std.specs.List.{AllByRecursion, list_any, flat_map}
use Rattle.mps_base.specs.Address.{word_of}
use Rattle.mps_base.specs.Run.{Run, Covers, IsAscending, end_of, gaps, lowest_fitting, runs_within}
use Rattle.mps_base.specs.Segment.{Segment, end_of_segment, words_of_segment, is_open_to, same_rank, gaps_in, gaps_of}
use Rattle.mps_base.specs.declared.names.Rank.{Rank}
use Rattle.mps_base.specs.declared.names.Rank.TheVariants as rank
use Rattle.mps_base.proofs.Runs.{between_some}
use Rattle.mps_model.specs.World.{is_copying_kind}
use Rattle.mps_laws.proofs.Positions.ApartRuns.{AreApart, EndsWithin, ascending_within, all_runs_within, all_in_order, all_from_in_order, lowest_gap, put_apart, put_below}
use Rattle.mps_laws.proofs.Positions.Segments.{IsAligned, IsAmong, among_aligned, same_by_word}
use Rattle.mps_laws.proofs.Positions.Occupancy.{Occupancy, Occupant, run_of}
use Rattle.mps_laws.proofs.Positions.LaidOut.{IsLaidOut, kind_in, is_at_hand}
use Rattle.mps_laws.proofs.Positions.Covered.{covered_in, listed, all_listed, each_listed, covered_ascending}

same_rank-is : (a b : Rank) → same_rank a b ≡ true → a ≡ b
same_rank-is rank.Exact rank.Exact h = refl
same_rank-is rank.Weak rank.Weak h = refl
same_rank-is rank.Exact rank.Weak h = absurd (false≢true h)
same_rank-is rank.Weak rank.Exact h = absurd (false≢true h)

pub same_rank-self : (a : Rank) → same_rank a a ≡ true
same_rank-self rank.Exact = refl
same_rank-self rank.Weak = refl

-- ---- in which segment

in_either : (need : ℕ) (xs ys : List Run) (p : ℕ) → lowest_fitting need (xs ++ ys) ≡ Some p
    → (lowest_fitting need xs ≡ Some p) ⊎ (lowest_fitting need ys ≡ Some p)
in_either need [] ys p h = inr h
in_either need (x ∷ xs) ys p h =
    elim (nat_le need x.count) as (λ b. (if b then Some x.from else lowest_fitting need (xs ++ ys)) ≡ Some p
    → ((if b then Some x.from else lowest_fitting need xs) ≡ Some p) ⊎ (lowest_fitting need ys ≡ Some p)) [
      | true ↦ (λ g. inl g)
      | false ↦ (λ g. in_either need xs ys p g)
    ] h

-- a segment that passes a test, in which what fits lies
record IsFoundIn (test : Segment → Bool) (f : Segment → List Run) (ss : List Segment) (need p : ℕ) : Type 0 where
  pub segment : Segment
  pub held : IsAmong segment ss
  pub passes : test segment ≡ true
  pub fits : lowest_fitting need (f segment) ≡ Some p

found_in : (test : Segment → Bool) (f : Segment → List Run) (ss : List Segment) (need p : ℕ)
    → lowest_fitting need (flat_map f (filter test ss)) ≡ Some p → IsFoundIn test f ss need p
found_in test f [] need p h = absurd (none-some p h)
found_in test f (s ∷ ss) need p h =
    elim (test s) as (λ b. test s ≡ b → lowest_fitting need (flat_map f (if b then s ∷ filter test ss else filter test ss)) ≡ Some p
    → IsFoundIn test f (s ∷ ss) need p) [
      | true ↦
          (λ is g. elim (in_either need (f s) (flat_map f (filter test ss)) p g) [
            | inl here ↦ record { segment = s; held = inl refl; passes = is; fits = here }
            | inr there ↦
                let rest = found_in test f ss need p there in
                record { segment = rest.segment; held = inr rest.held; passes = rest.passes; fits = rest.fits }
          ])
      | false ↦
          (λ is g. let rest = found_in test f ss need p g in
          record { segment = rest.segment; held = inr rest.held; passes = rest.passes; fits = rest.fits })
    ] refl h

-- n words from one on, which nobody has, in a segment of a pool and a rank
pub record IsOpenRoom (g : Occupancy) (pool : ℕ) (at_rank : Rank) (words word : ℕ) : Type 0 where
  pub segment : Segment
  pub held : IsAmong segment g.segments
  pub of_pool : segment.pool ≡ pool
  pub of_rank : segment.rank ≡ at_rank
  pub above : (words_of_segment segment).from ≤ word
  pub below : word + words ≤ end_of (words_of_segment segment)
  pub unoccupied : (o : Occupant) (n : ℕ) → Covers (run_of g o) n → word ≤ n → n < word + words → ⊥

module _ (limit : ℕ) (g : Occupancy) (laid : IsLaidOut limit g) where
  -- what begins in a segment ends in it
  ends_in : (s : Segment) → IsAmong s g.segments → AllByRecursion (EndsWithin (word_of s.base) (word_of (end_of_segment s))) (covered_in g)
  ends_in s held =
      all_in_order (EndsWithin (word_of s.base) (word_of (end_of_segment s))) (listed limit g laid)
      (all_listed limit g laid (EndsWithin (word_of s.base) (word_of (end_of_segment s))) (λ o h some above below.
      let home = laid.placed.homes o some in
      let a = among_aligned s g.segments laid.aligned held in
      let one : home.segment ≡ s =
      same_by_word 1 limit g.segments home.segment s laid.ascending laid.aligned home.held held (run_of g o).from
      (omega (arith, home.above), omega (arith, home.below, some)) (omega (arith, above), omega (arith, below, a)) in
      let ended : end_of (run_of g o) ≤ end_of (words_of_segment s) =
      subst (λ (t : Segment). end_of (run_of g o) ≤ end_of (words_of_segment t)) one home.below in
      omega (arith, ended, a)))

  pub room_in_gap : (pool : ℕ) (at_rank : Rank) (words word : ℕ) → 0 < words → kind_in is_copying_kind g.pools pool ≡ false
      → lowest_fitting words (gaps_of (covered_in g) g.segments pool at_rank) ≡ Some word → IsOpenRoom g pool at_rank words word
  room_in_gap pool at_rank words word some manual is =
      let f = found_in (is_open_to pool at_rank) (gaps_in (covered_in g)) g.segments words word is in
      let parts = and_parts (f.segment.pool == pool) (same_rank f.segment.rank at_rank) f.passes in
      let of_pool = eqb-true f.segment.pool pool parts.0 in
      let a = among_aligned f.segment g.segments laid.aligned f.held in
      let low = word_of f.segment.base in
      let high = word_of (end_of_segment f.segment) in
      let asc : IsAscending low high (runs_within low high (covered_in g)) =
      ascending_within low high low 0 (512 * limit) (covered_in g) (omega arith) (λ n h k. k) (ends_in f.segment f.held)
      (covered_ascending limit g laid) in
      let gap = lowest_gap low high high (runs_within low high (covered_in g)) words word some (omega arith) asc f.fits in
      let new : Run = record { from = word; count = words } in
      let apart =
      all_from_in_order (λ (r : Run). low ≤ r.from → r.from < high → AreApart new r) (listed limit g laid)
      (all_runs_within low high (AreApart new) (covered_in g)
      (put_apart low high new (runs_within low high (covered_in g)) gap.ascending)) in
      let end = put_below low high new (runs_within low high (covered_in g)) gap.ascending in
      record {
        segment = f.segment;
        held = f.held;
        of_pool = of_pool;
        of_rank = same_rank-is f.segment.rank at_rank parts.1;
        above = omega (arith, gap.above);
        below = omega (arith, end, a);
        unoccupied = λ o n c from to.
            let home = laid.placed.homes o (omega (arith, c.0, c.1)) in
            let one : home.segment ≡ f.segment =
            same_by_word 1 limit g.segments home.segment f.segment laid.ascending laid.aligned home.held f.held n
            (omega (arith, home.above, c.0), omega (arith, home.below, c.1)) (omega (arith, gap.above, from), omega (arith, end, to, a)) in
            let above : low ≤ (run_of g o).from =
            subst (λ (t : Segment). (words_of_segment t).from ≤ (run_of g o).from) one home.above in
            elim (cases_Bool (is_at_hand o)) [
              | inl at_hand ↦
                  false≢true (sym manual ∙ sym (ap (kind_in is_copying_kind g.pools) (ap (λ (t : Segment). t.pool) one ∙ of_pool))
                  ∙ home.copying at_hand)
              | inr placed ↦
                  each_listed limit g laid (λ (r : Run). low ≤ r.from → r.from < high → AreApart new r) apart o placed
                  (omega (arith, c.0, c.1)) above (omega (arith, c.0, end, to)) n (omega (arith, from), omega (arith, to)) c
            ];
      }

-- ---- the gap of a new segment

any_either : (p : Run → Bool) (xs ys : List Run) → (list_any p xs ≡ true) ⊎ (list_any p ys ≡ true) → list_any p (xs ++ ys) ≡ true
any_either p [] ys (inl h) = absurd (false≢true h)
any_either p [] ys (inr h) = h
any_either p (x ∷ xs) ys (inl h) = of_first (p x) (any_either p xs ys) h
  where
    of_first : (b : Bool) → ((list_any p xs ≡ true) ⊎ (list_any p ys ≡ true) → list_any p (xs ++ ys) ≡ true) → (b || list_any p xs) ≡ true
        → (b || list_any p (xs ++ ys)) ≡ true
    of_first true next g = refl
    of_first false next g = next (inl g)
any_either p (x ∷ xs) ys (inr h) = or_right (p x) (list_any p (xs ++ ys)) (any_either p xs ys (inr h))

any_in : (p : Run → Bool) (test : Segment → Bool) (f : Segment → List Run) (ss : List Segment) (s : Segment) → IsAmong s ss → test s ≡ true
    → list_any p (f s) ≡ true → list_any p (flat_map f (filter test ss)) ≡ true
any_in p test f [] s held passes h = absurd held
any_in p test f (t ∷ ts) s held passes h =
    elim (test t) as (λ b. test t ≡ b → list_any p (flat_map f (if b then t ∷ filter test ts else filter test ts)) ≡ true) [
      | true ↦
          (λ is. elim held [
            | inl e ↦
                any_either p (f t) (flat_map f (filter test ts)) (inl (subst (λ (u : Segment). list_any p (f u) ≡ true) (sym e) h))
            | inr later ↦ any_either p (f t) (flat_map f (filter test ts)) (inr (any_in p test f ts s later passes h))
          ])
      | false ↦
          (λ isnt. elim held [
            | inl e ↦ absurd (false≢true (sym isnt ∙ subst (λ (u : Segment). test u ≡ true) (sym e) passes))
            | inr later ↦ any_in p test f ts s later passes h
          ])
    ] refl

fits_somewhere : (need : ℕ) (rs : List Run) → list_any (λ (r : Run). nat_le need r.count) rs ≡ true
    → (word : ℕ) × (lowest_fitting need rs ≡ Some word)
fits_somewhere need [] h = absurd (false≢true h)
fits_somewhere need (r ∷ rs) h =
    elim (nat_le need r.count) as (λ b. (b || list_any (λ (x : Run). nat_le need x.count) rs) ≡ true
    → (word : ℕ) × ((if b then Some r.from else lowest_fitting need rs) ≡ Some word)) [
      | true ↦ (λ g. (r.from, refl))
      | false ↦ (λ g. fits_somewhere need rs g)
    ] h

pub none_within : (from to : ℕ) (rs : List Run) → AllByRecursion (λ (r : Run). (r.from < from) ⊎ (to ≤ r.from)) rs
    → runs_within from to rs ≡ []
none_within from to [] all = refl
none_within from to (r ∷ rs) all =
    ap (λ b. if b then r ∷ runs_within from to rs else runs_within from to rs) (outside all.0) ∙ none_within from to rs all.1
  where
    outside : (r.from < from) ⊎ (to ≤ r.from) → (nat_le from r.from && Rattle.std.specs.Prelude.nat_lt r.from to) ≡ false
    outside (inl h) = Rattle.std.proofs.lemmas.Bool.and_left (nat_le from r.from) (Rattle.std.specs.Prelude.nat_lt r.from to)
        (Rattle.std.proofs.lemmas.Bool.lt-leb from r.from h)
    outside (inr h) = Rattle.std.proofs.lemmas.Bool.and_right (nat_le from r.from) (Rattle.std.specs.Prelude.nat_lt r.from to)
        (Rattle.std.proofs.lemmas.Bool.le-ltb r.from to h)

-- in a segment in which nobody has words nothing is covered
pub none_covered : (limit : ℕ) (g : Occupancy) (laid : IsLaidOut limit g) (s : Segment) → IsAligned s
    → ((o : Occupant) (n : ℕ) → Covers (run_of g o) n → Covers (words_of_segment s) n → ⊥)
    → runs_within (word_of s.base) (word_of (end_of_segment s)) (covered_in g) ≡ []
none_covered limit g laid s a empty =
    let low = word_of s.base in
    let high = word_of (end_of_segment s) in
    none_within low high (covered_in g) (all_in_order (λ (r : Run). (r.from < low) ⊎ (high ≤ r.from)) (listed limit g laid)
    (all_listed limit g laid (λ (r : Run). (r.from < low) ⊎ (high ≤ r.from)) (λ o h here.
    elim (cases_lt (run_of g o).from low) [
      | inl before ↦ inl before
      | inr from ↦
          elim (cases_lt (run_of g o).from high) [
            | inl within ↦
                absurd (empty o (run_of g o).from (omega arith, omega (arith, here)) (omega (arith, from), omega (arith, within, a)))
            | inr past ↦ inr past
          ]
    ])))

-- in a segment in which nobody has words there is a gap of all of it
pub gap_in_empty : (limit : ℕ) (g : Occupancy) (laid : IsLaidOut limit g) (s : Segment) (words : ℕ) → IsAmong s g.segments
    → ((o : Occupant) (n : ℕ) → Covers (run_of g o) n → Covers (words_of_segment s) n → ⊥) → 0 < words → words ≤ 512 * s.grains
    → (word : ℕ) × (lowest_fitting words (gaps_of (covered_in g) g.segments s.pool s.rank) ≡ Some word)
gap_in_empty limit g laid s words held empty some fits =
    let a = among_aligned s g.segments laid.aligned held in
    let low = word_of s.base in
    let high = word_of (end_of_segment s) in
    let none = none_covered limit g laid s a empty in
    let whole : gaps_in (covered_in g) s ≡ record { from = low; count = high - low } ∷ [] =
    ap (gaps low high) none ∙ between_some low high (omega (arith, some, fits)) in
    let one : list_any (λ (r : Run). nat_le words r.count) (gaps_in (covered_in g) s) ≡ true =
    ap (list_any (λ (r : Run). nat_le words r.count)) whole
    ∙ or_left (nat_le words (high - low)) false (le-leb words (high - low) (omega (arith, a, fits))) in
    fits_somewhere words (gaps_of (covered_in g) g.segments s.pool s.rank)
    (any_in (λ (r : Run). nat_le words r.count) (is_open_to s.pool s.rank) (gaps_in (covered_in g)) g.segments s held
    (and_from (s.pool == s.pool) (same_rank s.rank s.rank) (eq-eqb s.pool s.pool refl) (same_rank-self s.rank)) one)
