-- The indexes that pass a test, and a Free for each.
use Rattle.std.proofs.Common.{ℕ, zero, suc, ◌+◌, ◌-◌, ◌<◌, ◌≤◌, ◌≡◌, ◌≢◌, ◌&&◌, leb, ltb, eqb, Bool, true, false, not, List, [], ◌∷◌, ◌++◌, length, map, get_or, refl, sym, ap, ◌∙◌, inl, inr, arith}
use Rattle.std.specs.Prelude.{filter}
use Rattle.std.proofs.lemmas.List.{append-nil}
use Rattle.std.specs.Int.{bit_at}
use Rattle.std.proofs.lemmas.Nat.Bits.{bit_at-zero}
use Rattle.mps_bits.specs.OpenRuns.{is_one, is_set_unless}
use Rattle.std.proofs.lemmas.Bool.{eq-eqb, ne_eqb, cases_eq, cases_Bool, cond-true, cond-false, le-leb, lt-ltb, lt-leb, le-ltb, and_from, and_left, and_right}
use Rattle.mps_base.specs.Address.{address_of_word}
use Rattle.mps_base.specs.Run.{Run, runs_within}
use Rattle.mps_base.specs.Trail.{Moves, with_move}
use Rattle.mps_base.specs.declared.moves.Move.TheVariants.{Free}
use Rattle.mps_bits.specs.Table.{bit}
use Rattle.mps_bits.proofs.Searches.{IsLowest}
use Rattle.mps_extents.specs.Inside.{runs_with, length_at, extents}
use Rattle.mps_extents.specs.Lost.{is_lost_run, lost_runs, freed_at, frees, passing, begins_lost}
use Rattle.mps_extents.proofs.WrittenBits.{bit_is}

pub passing_yes : (p : ℕ → Bool) (from n : ℕ) → p from ≡ true → passing p from (suc n) ≡ from ∷ passing p (suc from) n
unfolding passing
passing_yes p from n is = cond-true (p from) (from ∷ passing p (suc from) n) (passing p (suc from) n) is

pub passing_no : (p : ℕ → Bool) (from n : ℕ) → p from ≡ false → passing p from (suc n) ≡ passing p (suc from) n
unfolding passing
passing_no p from n is = cond-false (p from) (from ∷ passing p (suc from) n) (passing p (suc from) n) is

pub none_of_none : (p : ℕ → Bool) (from : ℕ) → passing p from 0 ≡ []
unfolding passing
none_of_none p from = refl

pub passing_same : (p q : ℕ → Bool) (from n : ℕ) → ((i : ℕ) → from ≤ i → i < from + n → p i ≡ q i) → passing p from n ≡ passing q from n
passing_same p q from zero same = none_of_none p from ∙ sym (none_of_none q from)
passing_same p q from (suc n) same =
    let rest = passing_same p q (suc from) n (λ i above below. same i (omega arith) (omega arith)) in
    let here = same from (omega arith) (omega arith) in
    elim (cases_Bool (q from)) [
      | inl passes ↦
          passing_yes p from n (here ∙ passes) ∙ ap (λ (xs : List ℕ). from ∷ xs) rest ∙ sym (passing_yes q from n passes)
      | inr fails ↦ passing_no p from n (here ∙ fails) ∙ rest ∙ sym (passing_no q from n fails)
    ]

pub passing_none : (p : ℕ → Bool) (from n : ℕ) → ((i : ℕ) → from ≤ i → i < from + n → p i ≡ false) → passing p from n ≡ []
passing_none p from zero none = none_of_none p from
passing_none p from (suc n) none =
    passing_no p from n (none from (omega arith) (omega arith))
    ∙ passing_none p (suc from) n (λ i above below. none i (omega arith) (omega arith))

pub passing_empty : (p : ℕ → Bool) (from n : ℕ) → passing p from n ≡ [] → (i : ℕ) → from ≤ i → i < from + n → p i ≡ false
passing_empty p from zero none i above below = absurd (omega arith)
passing_empty p from (suc n) none i above below =
    elim (cases_Bool (p from)) [
      | inl is ↦ let never : from ∷ passing p (suc from) n ≡ [] = sym (passing_yes p from n is) ∙ none in cc
      | inr is_not ↦ elim (cases_eq i from) [
        | inl here ↦ ap p here ∙ is_not
        | inr later ↦ passing_empty p (suc from) n (sym (passing_no p from n is_not) ∙ none) i (omega arith) (omega arith)
      ]
    ]

pub passing_add : (p : ℕ → Bool) (from m n : ℕ) → passing p from (m + n) ≡ passing p from m ++ passing p (from + m) n
passing_add p from zero n =
    let count : 0 + n ≡ n = omega arith in
    let start : from ≡ from + 0 = omega arith in
    ap (λ (k : ℕ). passing p from k) count ∙ ap (λ (k : ℕ). passing p k n) start
    ∙ ap (λ (xs : List ℕ). xs ++ passing p (from + 0) n) (sym (none_of_none p from))
passing_add p from (suc m) n =
    let count : suc m + n ≡ suc (m + n) = omega arith in
    let start : suc from + m ≡ from + suc m = omega arith in
    let rest = passing_add p (suc from) m n ∙ ap (λ (k : ℕ). passing p (suc from) m ++ passing p k n) start in
    ap (λ (k : ℕ). passing p from k) count
    ∙ elim (cases_Bool (p from)) [
      | inl passes ↦
          passing_yes p from (m + n) passes ∙ ap (λ (xs : List ℕ). from ∷ xs) rest
          ∙ ap (λ (xs : List ℕ). xs ++ passing p (from + suc m) n) (sym (passing_yes p from m passes))
      | inr fails ↦
          passing_no p from (m + n) fails ∙ rest
          ∙ ap (λ (xs : List ℕ). xs ++ passing p (from + suc m) n) (sym (passing_no p from m fails))
    ]

-- the lowest one first, and then those of a test that passes the others alone
pub passing_first : (p rest : ℕ → Bool) (from n at : ℕ) → IsLowest p from n at → rest at ≡ false
    → ((i : ℕ) → from ≤ i → i < from + n → i ≢ at → rest i ≡ p i) → passing p from n ≡ at ∷ passing rest from n
passing_first p rest from zero at lowest gone others = absurd (omega (arith, lowest.above, lowest.below))
passing_first p rest from (suc n) at lowest gone others =
    elim (cases_eq from at) [
      | inl here ↦
          let none : rest from ≡ false = ap rest here ∙ gone in
          passing_yes p from n (ap p here ∙ lowest.passes)
          ∙ ap (λ (xs : List ℕ). from ∷ xs)
          (passing_same p rest (suc from) n (λ i above below. sym (others i (omega arith) (omega arith) (λ e. omega (arith, e, here)))))
          ∙ ap (λ (k : ℕ). k ∷ passing rest (suc from) n) here
          ∙ ap (λ (xs : List ℕ). at ∷ xs) (sym (passing_no rest from n none))
      | inr later ↦
          let fails : p from ≡ false = lowest.lower from (omega arith) (omega (arith, later, lowest.above)) in
          let fails' : rest from ≡ false = others from (omega arith) (omega arith) later ∙ fails in
          passing_no p from n fails
          ∙ passing_first p rest (suc from) n at (record {
            above = omega (arith, later, lowest.above);
            below = omega (arith, lowest.below);
            passes = lowest.passes;
            lower = λ i above below. lowest.lower i (omega arith) below;
          }) gone (λ i above below other. others i (omega arith) (omega arith) other)
          ∙ ap (λ (xs : List ℕ). at ∷ xs) (sym (passing_no rest from n fails'))
    ]

-- ---- moves

pub freed_more : (xs ys : List ℕ) (moves : Moves) → freed_at (xs ++ ys) moves ≡ freed_at ys (freed_at xs moves)
freed_more [] ys moves = refl
freed_more (x ∷ xs) ys moves = freed_more xs ys (with_move moves (Free (record { 0 = address_of_word x })))

pub spare_freed : (xs : List ℕ) (moves : Moves) → (freed_at xs moves).spare ≡ moves.spare - length xs
spare_freed [] moves = omega arith
spare_freed (x ∷ xs) moves = spare_freed xs (with_move moves (Free (record { 0 = address_of_word x }))) ∙ omega arith

abbrev pub begin_words : List Run → List ℕ
begin_words rs = map (λ (r : Run). r.from) rs

pub frees_are : (rs : List Run) (moves : Moves) → frees rs moves ≡ freed_at (begin_words rs) moves
frees_are [] moves = refl
frees_are (r ∷ rs) moves = frees_are rs (with_move moves (Free (record { 0 = address_of_word r.from })))

-- ---- the blocks that begin where a table has a bit and aren't kept

-- whether a block that is lost begins at an index of a table whose first bit is that of a word
abbrev is_lost_bit : (low high : ℕ) (kept : List Bool) (at : ℕ) (bits : List Bool) → ℕ → Bool
is_lost_bit low high kept at bits j = (leb low (at + j) && ltb (at + j) high) && (get_or bits j false && not (bit kept (at + j)))

later : (f : ℕ → ℕ) (low high at : ℕ) (kept : List Bool) (b : Bool) (bits : List Bool) (p : ℕ → Bool)
    → ((j : ℕ) → j < length (b ∷ bits) → p (at + j) ≡ is_lost_bit low high kept at (b ∷ bits) j)
    → (j : ℕ) → j < length bits → p (suc at + j) ≡ is_lost_bit low high kept (suc at) bits j
later f low high at kept b bits p is j within =
    let shifted : suc at + j ≡ at + suc j = omega arith in
    ap p shifted ∙ is (suc j) (omega arith)
    ∙ ap (λ (k : ℕ). (leb low k && ltb k high) && (get_or bits j false && not (bit kept k))) (sym shifted)

lost_are : (f : ℕ → ℕ) (low high at : ℕ) (kept bits : List Bool) (p : ℕ → Bool)
    → ((j : ℕ) → j < length bits → p (at + j) ≡ is_lost_bit low high kept at bits j)
    → begin_words (lost_runs low high kept (runs_with f at bits)) ≡ passing p at (length bits)
unfolding runs_with
lost_are f low high at kept [] p is = sym (none_of_none p at)
lost_are f low high at kept (false ∷ bits) p is =
    let here : at + 0 ≡ at = omega arith in
    let fails : p at ≡ false =
    ap p (sym here) ∙ is 0 (omega arith) ∙ and_right (leb low (at + 0) && ltb (at + 0) high) false refl
    in
    lost_are f low high (suc at) kept bits p (λ j within. later f low high at kept false bits p is j within)
    ∙ sym (passing_no p at (length bits) fails)
lost_are f low high at kept (true ∷ bits) p is =
    let here : at + 0 ≡ at = omega arith in
    let r : Run = record { from = at; count = f at } in
    let others = runs_with f (suc at) bits in
    let rest = lost_are f low high (suc at) kept bits p (λ j within. later f low high at kept true bits p is j within) in
    let tested : p at ≡ ((leb low at && ltb at high) && not (bit kept at)) =
    ap p (sym here) ∙ is 0 (omega arith) ∙ ap (λ (k : ℕ). (leb low k && ltb k high) && not (bit kept k)) here
    in
    elim (cases_Bool (leb low at && ltb at high)) [
      | inr out ↦
          ap (λ (xs : List Run). begin_words (filter (is_lost_run kept) xs))
          (cond-false (leb low at && ltb at high) (r ∷ runs_within low high others) (runs_within low high others) out)
          ∙ rest ∙ sym (passing_no p at (length bits) (tested ∙ and_left (leb low at && ltb at high) (not (bit kept at)) out))
      | inl inside ↦
          ap (λ (xs : List Run). begin_words (filter (is_lost_run kept) xs))
          (cond-true (leb low at && ltb at high) (r ∷ runs_within low high others) (runs_within low high others) inside)
          ∙ elim (cases_Bool (not (bit kept at))) [
            | inl lost ↦
                ap begin_words
                (cond-true (not (bit kept at)) (r ∷ filter (is_lost_run kept) (runs_within low high others))
                (filter (is_lost_run kept) (runs_within low high others)) lost)
                ∙ ap (λ (xs : List ℕ). at ∷ xs) rest
                ∙ sym (passing_yes p at (length bits)
                (tested ∙ and_from (leb low at && ltb at high) (not (bit kept at)) inside lost))
            | inr stays ↦
                ap begin_words
                (cond-false (not (bit kept at)) (r ∷ filter (is_lost_run kept) (runs_within low high others))
                (filter (is_lost_run kept) (runs_within low high others)) stays)
                ∙ rest
                ∙ sym (passing_no p at (length bits) (tested ∙ and_right (leb low at && ltb at high) (not (bit kept at)) stays))
          ]
    ]

-- those of a range are those from its first word on
passing_within : (low high size : ℕ) (p : ℕ → Bool) → low ≤ high → high ≤ size
    → passing (λ i. (leb low i && ltb i high) && p i) 0 size ≡ passing p low (high - low)
passing_within low high size p ordered within =
    let q = λ (i : ℕ). (leb low i && ltb i high) && p i in
    let whole : low + ((high - low) + (size - high)) ≡ size = omega arith in
    let start : 0 + low ≡ low = omega arith in
    let end : low + (high - low) ≡ high = omega arith in
    let before : passing q 0 low ≡ [] =
    passing_none q 0 low (λ i above below. and_left (leb low i && ltb i high) (p i) (and_left (leb low i) (ltb i high)
    (lt-leb low i (omega arith))))
    in
    let after : passing q high (size - high) ≡ [] =
    passing_none q high (size - high) (λ i above below. and_left (leb low i && ltb i high) (p i)
    (and_right (leb low i) (ltb i high) (le-ltb i high above)))
    in
    let inside : passing q low (high - low) ≡ passing p low (high - low) =
    passing_same q p low (high - low) (λ i above below.
    ap (λ (b : Bool). b && p i) (and_from (leb low i) (ltb i high) (le-leb low i above) (lt-ltb i high (omega arith))))
    in
    ap (λ (n : ℕ). passing q 0 n) (sym whole) ∙ passing_add q 0 low ((high - low) + (size - high))
    ∙ ap (λ (xs : List ℕ). xs ++ passing q (0 + low) ((high - low) + (size - high))) before
    ∙ ap (λ (k : ℕ). passing q k ((high - low) + (size - high))) start
    ∙ passing_add q low (high - low) (size - high)
    ∙ ap (λ (xs : List ℕ). xs ++ passing q (low + (high - low)) (size - high)) inside
    ∙ ap (λ (xs : List ℕ). passing p low (high - low) ++ xs) (ap (λ (k : ℕ). passing q k (size - high)) end ∙ after)
    ∙ append-nil (passing p low (high - low))

pub lost_words : (ends blocks kept : List Bool) (low high : ℕ) → low ≤ high → high ≤ length blocks
    → begin_words (lost_runs low high kept (extents blocks ends)) ≡ passing (begins_lost blocks kept) low (high - low)
lost_words ends blocks kept low high ordered within =
    lost_are (length_at ends) low high 0 kept blocks (λ i. (leb low i && ltb i high) && begins_lost blocks kept i) (λ j below.
    let same : 0 + j ≡ j = omega arith in
    ap (λ (k : ℕ). (leb low (0 + j) && ltb (0 + j) high) && (bit blocks k && not (bit kept (0 + j)))) same
    ∙ ap (λ (b : Bool). (leb low (0 + j) && ltb (0 + j) high) && (b && not (bit kept (0 + j)))) (bit_is blocks j))
    ∙ passing_within low high (length blocks) (begins_lost blocks kept) ordered within

-- ---- the bits of a word that are set

pub word_first : (word rest from index : ℕ) → index < 64 → bit_at word index ≡ 1 → ((i : ℕ) → i < index → bit_at word i ≡ 0)
    → bit_at rest index ≡ 0
    → ((i : ℕ) → i < 64 → i ≢ index → bit_at rest i ≡ bit_at word i)
    → passing (λ i. is_one word (i - from)) from 64 ≡ (from + index) ∷ passing (λ i. is_one rest (i - from)) from 64
word_first word rest from index within is lower gone others =
    let place : from + index - from ≡ index = omega arith in
    passing_first (λ i. is_one word (i - from)) (λ i. is_one rest (i - from)) from 64 (from + index)
    (record {
      above = omega arith;
      below = omega (arith, within);
      passes = ap (is_one word) place ∙ eq-eqb (bit_at word index) 1 is;
      lower = λ i above below. ne_eqb (bit_at word (i - from)) 1 (λ e. omega (arith, e, lower (i - from) (omega arith)));
    })
    (ap (is_one rest) place ∙ ne_eqb (bit_at rest index) 1 (λ e. omega (arith, e, gone)))
    (λ i above below other. ap (λ (x : ℕ). eqb x 1) (others (i - from) (omega arith) (λ e. other (omega (arith, e, above)))))

pub word_none : (word from : ℕ) → word ≡ 0 → passing (λ i. is_one word (i - from)) from 64 ≡ []
word_none word from none =
    passing_none (λ i. is_one word (i - from)) from 64 (λ i above below.
    ap (λ (w : ℕ). is_one w (i - from)) none ∙ ne_eqb (bit_at 0 (i - from)) 1 (λ e. omega (arith, e, bit_at-zero (i - from))))

pub word_is : (blocks kept : List Bool) (word at : ℕ) → ((i : ℕ) → i < 64 → is_one word i ≡ is_set_unless blocks kept at i)
    → passing (λ i. is_one word (i - at)) at 64 ≡ passing (begins_lost blocks kept) at 64
word_is blocks kept word at same =
    passing_same (λ i. is_one word (i - at)) (begins_lost blocks kept) at 64 (λ i above below.
    let place : at + (i - at) ≡ i = omega arith in
    same (i - at) (omega arith) ∙ ap (λ (k : ℕ). bit blocks k && not (bit kept k)) place)

pub word_and_rest : (p : ℕ → Bool) (at high : ℕ) → at + 64 ≤ high
    → passing p at (high - at) ≡ passing p at 64 ++ passing p (at + 64) (high - (at + 64))
word_and_rest p at high room =
    let whole : 64 + (high - (at + 64)) ≡ high - at = omega arith in
    ap (λ (n : ℕ). passing p at n) (sym whole) ∙ passing_add p at 64 (high - (at + 64))
