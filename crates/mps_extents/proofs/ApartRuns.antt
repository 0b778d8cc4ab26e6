-- Ascending runs lie apart, and which words they cover.
use Rattle.std.proofs.Common.{ℕ, ◌<◌, ◌≤◌, ◌≡◌, ◌⊎◌, Bool, true, false, cond, leb, ltb, List, [], ◌∷◌, Contains, sym, ap, ◌∙◌, subst, inl, inr, arith}
use Rattle.std.proofs.lemmas.Bool.{cases_lt, cases_Bool, cond-true, cond-false, le-leb, lt-ltb, lt-leb, le-ltb, leb-true, ltb-true, and_parts, and_from, and_left, and_right, both_ways, false_from_ne_true, true≢false}
use Rattle.mps_base.specs.Run.{Run, end_of, IsAscending, with_run, without_run}
use Rattle.mps_base.proofs.Runs.{with_run_first, with_run_later, without_run_first, without_run_later, contains_cases, contains_first, contains_later, contained_bounds}
use Rattle.mps_extents.specs.Extents.{has_word, is_covered}

pub has_word-true : (r : Run) (word : ℕ) → r.from ≤ word → word < end_of r → has_word r word ≡ true
has_word-true r word above below =
    and_from (leb r.from word) (ltb word (end_of r)) (le-leb r.from word above) (lt-ltb word (end_of r) below)

pub has_word-parts : (r : Run) (word : ℕ) → has_word r word ≡ true → (r.from ≤ word) × (word < end_of r)
has_word-parts r word is =
    let parts = and_parts (leb r.from word) (ltb word (end_of r)) is in
    (leb-true r.from word parts.0, ltb-true word (end_of r) parts.1)

pub has_word-below : (r : Run) (word : ℕ) → word < r.from → has_word r word ≡ false
has_word-below r word below = and_left (leb r.from word) (ltb word (end_of r)) (lt-leb r.from word below)

pub has_word-above : (r : Run) (word : ℕ) → end_of r ≤ word → has_word r word ≡ false
has_word-above r word above = and_right (leb r.from word) (ltb word (end_of r)) (le-ltb word (end_of r) above)

-- ---- runs that lie apart

pub contains_put : (r : Run) (rs : List Run) → Contains (with_run r rs) r
contains_put r [] = contains_first [] r
contains_put r (s ∷ rs) =
    let P : List Run → Type 0 = λ xs. Contains xs r in
    elim (cases_lt r.from s.from) [
      | inl before ↦ subst P (sym (with_run_first r s rs before)) (contains_first (s ∷ rs) r)
      | inr after ↦ subst P (sym (with_run_later r s rs after)) (contains_later (with_run r rs) r s (contains_put r rs))
    ]

-- a run that can be put among ascending ones lies apart from each
pub apart_from_put : (low high : ℕ) (rs : List Run) (r s : Run) → IsAscending low high (with_run r rs) → Contains rs s
    → (end_of r ≤ s.from) ⊎ (end_of s ≤ r.from)
apart_from_put low high [] r s ascending (k, within, is) = absurd (omega arith)
apart_from_put low high (t ∷ rs) r s ascending there =
    let P : List Run → Type 0 = λ xs. IsAscending low high xs in
    elim (cases_lt r.from t.from) [
      | inl before ↦
          let ordered = subst P (with_run_first r t rs before) ascending in
          let bounds = contained_bounds (end_of r) high (t ∷ rs) s ordered.2 there in
          inl bounds.0
      | inr after ↦
          let ordered = subst P (with_run_later r t rs after) ascending in
          elim (contains_cases rs s t there) [
            | inl same ↦
                let bounds = contained_bounds (end_of t) high (with_run r rs) r ordered.2 (contains_put r rs) in
                inr (omega (arith, bounds.0, ap (λ (x : Run). end_of x) same))
            | inr later ↦ apart_from_put (end_of t) high rs r s ordered.2 later
          ]
    ]

-- two of ascending runs are one or lie apart
pub apart_each : (low high : ℕ) (rs : List Run) (r s : Run) → IsAscending low high rs → Contains rs r → Contains rs s
    → (r.from ≡ s.from) ⊎ ((end_of r ≤ s.from) ⊎ (end_of s ≤ r.from))
apart_each low high [] r s ascending (k, within, is) there = absurd (omega arith)
apart_each low high (t ∷ rs) r s ascending here there =
    elim (contains_cases rs r t here) [
      | inl first ↦ elim (contains_cases rs s t there) [
        | inl same ↦ inl (ap (λ (x : Run). x.from) (sym first ∙ same))
        | inr later ↦
            let bounds = contained_bounds (end_of t) high rs s ascending.2 later in
            inr (inl (omega (arith, bounds.0, ap (λ (x : Run). end_of x) first)))
      ]
      | inr rest ↦ elim (contains_cases rs s t there) [
        | inl same ↦
            let bounds = contained_bounds (end_of t) high rs r ascending.2 rest in
            inr (inr (omega (arith, bounds.0, ap (λ (x : Run). end_of x) same)))
        | inr later ↦ apart_each (end_of t) high rs r s ascending.2 rest later
      ]
    ]

-- ---- covered words

pub covered_first : (r : Run) (rs : List Run) (word : ℕ) → has_word r word ≡ true → is_covered (r ∷ rs) word ≡ true
covered_first r rs word is = cond-true (has_word r word) true (is_covered rs word) is

pub covered_later : (r : Run) (rs : List Run) (word : ℕ) → has_word r word ≡ false → is_covered (r ∷ rs) word ≡ is_covered rs word
covered_later r rs word is = cond-false (has_word r word) true (is_covered rs word) is

pub covered_by : (rs : List Run) (word : ℕ) → is_covered rs word ≡ true → (r : Run) × Contains rs r × (has_word r word ≡ true)
covered_by [] word is = absurd (true≢false (sym is))
covered_by (r ∷ rs) word is =
    elim (cases_Bool (has_word r word)) [
      | inl here ↦ (r, contains_first rs r, here)
      | inr not_here ↦
          let later = covered_by rs word (sym (covered_later r rs word not_here) ∙ is) in
          (later.0, contains_later rs later.0 r later.1, later.2)
    ]

pub covers_contained : (rs : List Run) (r : Run) (word : ℕ) → Contains rs r → has_word r word ≡ true → is_covered rs word ≡ true
covers_contained [] r word (k, within, is) has = absurd (omega arith)
covers_contained (s ∷ rs) r word there has =
    elim (cases_Bool (has_word s word)) [
      | inl here ↦ covered_first s rs word here
      | inr not_here ↦ elim (contains_cases rs r s there) [
        | inl same ↦ absurd (both_ways (has_word s word) not_here (ap (λ (x : Run). has_word x word) same ∙ has))
        | inr later ↦ covered_later s rs word not_here ∙ covers_contained rs r word later has
      ]
    ]

-- words below ascending runs, and words that a run takes up
pub uncovered_below : (low high : ℕ) (rs : List Run) (word : ℕ) → IsAscending low high rs → word < low → is_covered rs word ≡ false
uncovered_below low high rs word ascending below =
    false_from_ne_true (is_covered rs word) (λ is.
    let by = covered_by rs word is in
    let bounds = contained_bounds low high rs by.0 ascending by.1 in
    absurd (omega (arith, bounds.0, (has_word-parts by.0 word by.2).0)))

pub uncovered_by_put : (low high : ℕ) (rs : List Run) (r : Run) (word : ℕ) → IsAscending low high (with_run r rs) → r.from ≤ word
    → word < end_of r → is_covered rs word ≡ false
uncovered_by_put low high rs r word ascending above below =
    false_from_ne_true (is_covered rs word) (λ is.
    let by = covered_by rs word is in
    let parts = has_word-parts by.0 word by.2 in
    elim (apart_from_put low high rs r by.0 ascending by.1) [
      | inl after ↦ absurd (omega (arith, after, parts.0))
      | inr before ↦ absurd (omega (arith, before, parts.1))
    ])

pub covered_put_has : (r : Run) (rs : List Run) (word : ℕ) → has_word r word ≡ true → is_covered (with_run r rs) word ≡ true
covered_put_has r rs word has = covers_contained (with_run r rs) r word (contains_put r rs) has

pub covered_put_other : (r : Run) (rs : List Run) (word : ℕ) → has_word r word ≡ false
    → is_covered (with_run r rs) word ≡ is_covered rs word
covered_put_other r [] word other = covered_later r [] word other
covered_put_other r (s ∷ rs) word other =
    elim (cases_lt r.from s.from) [
      | inl before ↦ ap (λ (xs : List Run). is_covered xs word) (with_run_first r s rs before) ∙ covered_later r (s ∷ rs) word other
      | inr after ↦
          ap (λ (xs : List Run). is_covered xs word) (with_run_later r s rs after)
          ∙ ap (λ (b : Bool). cond (has_word s word) true b) (covered_put_other r rs word other)
    ]

pub uncovered_taken : (low high : ℕ) (rs : List Run) (r : Run) (word : ℕ) → IsAscending low high rs → Contains rs r
    → has_word r word ≡ true → is_covered (without_run r.from rs) word ≡ false
uncovered_taken low high [] r word ascending (k, within, is) has = absurd (omega arith)
uncovered_taken low high (s ∷ rs) r word ascending there has =
    let parts = has_word-parts r word has in
    elim (contains_cases rs r s there) [
      | inl same ↦
          ap (λ (xs : List Run). is_covered xs word) (without_run_first r.from s rs (ap (λ (x : Run). x.from) (sym same)))
          ∙ uncovered_below (end_of s) high rs word ascending.2 (omega (arith, parts.1, ap (λ (x : Run). end_of x) same))
      | inr later ↦
          let bounds = contained_bounds (end_of s) high rs r ascending.2 later in
          ap (λ (xs : List Run). is_covered xs word) (without_run_later r.from s rs (λ e. omega (arith, bounds.0, ascending.1)))
          ∙ covered_later s (without_run r.from rs) word (has_word-above s word (omega (arith, bounds.0, parts.0)))
          ∙ uncovered_taken (end_of s) high rs r word ascending.2 later has
    ]

pub covered_taken_other : (low high : ℕ) (rs : List Run) (r : Run) (word : ℕ) → IsAscending low high rs → Contains rs r
    → has_word r word ≡ false → is_covered (without_run r.from rs) word ≡ is_covered rs word
covered_taken_other low high [] r word ascending (k, within, is) other = absurd (omega arith)
covered_taken_other low high (s ∷ rs) r word ascending there other =
    elim (contains_cases rs r s there) [
      | inl same ↦
          ap (λ (xs : List Run). is_covered xs word) (without_run_first r.from s rs (ap (λ (x : Run). x.from) (sym same)))
          ∙ sym (covered_later s rs word (ap (λ (x : Run). has_word x word) same ∙ other))
      | inr later ↦
          let bounds = contained_bounds (end_of s) high rs r ascending.2 later in
          ap (λ (xs : List Run). is_covered xs word) (without_run_later r.from s rs (λ e. omega (arith, bounds.0, ascending.1)))
          ∙ ap (λ (b : Bool). cond (has_word s word) true b) (covered_taken_other (end_of s) high rs r word ascending.2 later other)
    ]
