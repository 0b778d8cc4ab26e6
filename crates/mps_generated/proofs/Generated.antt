-- Every generated script is a script.
use Rattle.std.proofs.Common.{◌≡◌, ℕ, zero, suc, ◌+◌, ◌/◌, ◌%◌, ◌^◌, ◌<◌, ◌≤◌, ◌==◌, Bool, true, false, not, ◌&&◌, ◌||◌, if◌then◌else◌, codes, Option, Some, None, Result, Ok, Err, List, [], ◌∷◌, ◌++◌, decimal, refl, sym, ap, ◌∙◌, arith, append_assoc}
use Rattle.std.specs.Prelude.{is_ok}
use Rattle.std.specs.List.{flat_map, list_all, list_any}
use Rattle.mps_model.specs.FirstCall.{is_arena}
use Rattle.mps_model.specs.declared.call.Call.{Call}
use Rattle.mps_script.specs.declared.line.BadLine.{BadLine}
use Rattle.mps_script.specs.Line.{call_of_line, lines_of}
use Rattle.mps_script.specs.Lines.{is_line_feed}
use Rattle.mps_script.specs.Script.{is_good, calls_of, call_or_none, in_turn, is_good_after, is_grammatical}
use Rattle.mps_workload.specs.Script.{next_state, number_below, ending_lines, lines_of_kind, step_lines, state_after_step, lines_from, script}
use Rattle.mps_generated.proofs.Separated.{has_none, line_first, number_has_none, no_line_feed}
use Rattle.mps_generated.proofs.Lines.{init_number_line, init_slot_line, commit_line, number_line, put_line, get_line}

-- a text is a line, good after the arena, and its line feed
pub record IsGoodText (text : List ℕ) : Type 0 where
  pub line : List ℕ
  pub is : text ≡ line ++ 10 ∷ []
  pub none : has_none is_line_feed line ≡ true
  pub good : is_good_after true line ≡ true

abbrev pub AreGood : List (List ℕ) → Type 0
AreGood [] = Unit {0}
AreGood (text ∷ texts) = IsGoodText text × AreGood texts

pub are_good_more : (xs ys : List (List ℕ)) → AreGood xs → AreGood ys → AreGood (xs ++ ys)
are_good_more [] ys a b = b
are_good_more (x ∷ xs) ys a b = (a.0, are_good_more xs ys a.1 b)

-- the lines of good texts are good
lines_are_good : (texts : List (List ℕ)) → AreGood texts → list_all (is_good_after true) (lines_of (flat_map (λ line. line) texts)) ≡ true
lines_are_good [] all = refl
lines_are_good (text ∷ texts) all =
    let rest : List ℕ = flat_map (λ line. line) texts in
    let whole : text ++ rest ≡ all.0.line ++ 10 ∷ rest = ap (λ (t : List ℕ). t ++ rest) all.0.is ∙ append_assoc all.0.line (10 ∷ []) rest in
    let lines : lines_of (text ++ rest) ≡ all.0.line ∷ lines_of rest = ap lines_of whole ∙ line_first all.0.line rest all.0.none in
    rw (lines, all.0.good) (lines_are_good texts all.1)

-- ---- lines that are good after the arena are a script after it

both_true : (a b : Bool) → (a && b) ≡ true → (a ≡ true) × (b ≡ true)
both_true true b e = (refl, e)
both_true false b e = absurd (let clash : false ≡ true = e in cc)

abbrev call_unless : Bool → Call → Result (Option Call) BadLine
call_unless is_arena c = if not is_arena then Ok (Some c) else Err (record {})

one_more : (line : Result (Option Call) BadLine) (good : Bool) (calls : List Call) → is_ok (in_turn true line) ≡ true
    → (good && not (list_any is_arena calls)) ≡ true
    → ((is_ok line && good) && not (list_any is_arena (call_or_none line ++ calls))) ≡ true
one_more (Err bad) good calls turn e = absurd (let clash : false ≡ true = turn in cc)
one_more (Ok None) good calls turn e = e
one_more (Ok (Some c)) good calls turn e = at (is_arena c) turn
  where
    at : (b : Bool) → is_ok (call_unless b c) ≡ true
        → (good && not (b || list_any is_arena calls)) ≡ true
    at true wrong = absurd (let clash : false ≡ true = wrong in cc)
    at false right = e

good_after_arena : (ls : List (List ℕ)) → list_all (is_good_after true) ls ≡ true
    → (list_all is_good ls && not (list_any is_arena (calls_of ls))) ≡ true
good_after_arena [] e = refl
good_after_arena (l ∷ ls) e =
    let k = both_true (is_good_after true l) (list_all (is_good_after true) ls) e in
    one_more (call_of_line l) (list_all is_good ls) (calls_of ls) k.0 (good_after_arena ls k.1)

after_arena : (ls : List (List ℕ)) → list_all (is_good_after true) ls ≡ true → is_grammatical (codes "arena 1024 1024" ∷ ls) ≡ true
after_arena ls e = good_after_arena ls e

-- ---- the texts of a generated script

none_then : (xs ys : List ℕ) → has_none is_line_feed xs ≡ true → has_none is_line_feed ys ≡ true → has_none is_line_feed (xs ++ ys) ≡ true
none_then [] ys e f = f
none_then (x ∷ xs) ys e f =
    let k = both_true (not (is_line_feed x)) (has_none is_line_feed xs) e in
    rw k.0 (none_then xs ys k.1 f)

number_none : (n : ℕ) → n < 2 ^ 64 → has_none is_line_feed (decimal n) ≡ true
number_none n fits = number_has_none is_line_feed no_line_feed n fits

plain : (line : List ℕ) → has_none is_line_feed line ≡ true → is_good_after true line ≡ true → IsGoodText (line ++ 10 ∷ [])
plain line none good = record { line = line; is = refl; none = none; good = good }

init_number : (n : ℕ) → n < 2 ^ 64 → IsGoodText (codes "init x 4 " ++ decimal n ++ codes "\n")
init_number n fits = plain (codes "init x 4 " ++ decimal n) (number_none n fits) (init_number_line n fits)

init_slot : (n : ℕ) → n < 2 ^ 64 → IsGoodText (codes "init x 1 t." ++ decimal n ++ codes "\n")
init_slot n fits = plain (codes "init x 1 t." ++ decimal n) (number_none n fits) (init_slot_line n fits)

commit : (n : ℕ) → n < 2 ^ 64 → IsGoodText (codes "commit x t." ++ decimal n ++ codes "\n")
commit n fits = plain (codes "commit x t." ++ decimal n) (number_none n fits) (commit_line n fits)

number : (n : ℕ) → n < 2 ^ 64 → IsGoodText (codes "num t." ++ decimal n ++ codes " 4\n")
number n fits = record {
  line = codes "num t." ++ (decimal n ++ codes " 4");
  is = sym (ap (λ (x : List ℕ). codes "num t." ++ x) (append_assoc (decimal n) (codes " 4") (10 ∷ [])));
  none = none_then (decimal n) (codes " 4") (number_none n fits) refl;
  good = number_line n fits;
}

put : (n m : ℕ) → n < 2 ^ 64 → m < 2 ^ 64 → IsGoodText (codes "put t." ++ decimal n ++ codes " 2 t." ++ decimal m ++ codes "\n")
put n m fits fits' = record {
  line = codes "put t." ++ (decimal n ++ (codes " 2 t." ++ decimal m));
  is = simp append_assoc;
  none = none_then (decimal n) (codes " 2 t." ++ decimal m) (number_none n fits) (number_none m fits');
  good = put_line n m fits fits';
}

get : (n m : ℕ) → n < 2 ^ 64 → m < 2 ^ 64 → IsGoodText (codes "get t." ++ decimal n ++ codes " t." ++ decimal m ++ codes " 1\n")
get n m fits fits' = record {
  line = codes "get t." ++ (decimal n ++ (codes " t." ++ (decimal m ++ codes " 1")));
  is = simp append_assoc;
  none = none_then (decimal n) (codes " t." ++ (decimal m ++ codes " 1")) (number_none n fits)
      (none_then (decimal m) (codes " 1") (number_none m fits') refl);
  good = get_line n m fits fits';
}

-- ---- steps

chosen : (b : Bool) (xs ys : List (List ℕ)) → AreGood xs → AreGood ys → AreGood (if b then xs else ys)
chosen true xs ys x y = x
chosen false xs ys x y = y

kind_is_good : (kind step slot target : ℕ) → step < 2 ^ 64 → slot < 2 ^ 64 → target < 2 ^ 64 → AreGood (lines_of_kind kind step slot target)
kind_is_good kind step slot target a b c =
    chosen (kind == 4) _ _ (put slot target b c, tt)
    (chosen (kind == 5) _ _ (get slot target b c, tt)
    (chosen (kind == 6) _ _ (number slot b, tt)
    (chosen (kind == 7) _ _ (plain (codes "step 7") refl refl, tt)
    (plain (codes "reserve x f:8:3") refl refl, (init_number step a, (init_slot target c, (commit slot b, tt)))))))

below : (bound state : ℕ) → 0 < bound → bound ≤ 16 → number_below bound state < 2 ^ 64
below bound state some most = let low : state / 2 ^ 33 % bound < bound = omega arith in omega arith

step_is_good : (step state : ℕ) → step < 2 ^ 64 → AreGood (step_lines step state)
step_is_good step state fits =
    kind_is_good (number_below 8 (next_state (next_state (next_state state)))) step (number_below 16 (next_state state))
    (number_below 16 (next_state (next_state state))) fits (below 16 (next_state state) (omega arith) (omega arith))
    (below 16 (next_state (next_state state)) (omega arith) (omega arith))

ending_is_good : AreGood ending_lines
ending_is_good = (plain (codes "collect") refl refl, (plain (codes "live") refl refl, (plain (codes "committed") refl refl, tt)))

pub from_is_good : (count step state : ℕ) → step + count ≤ 2 ^ 64 → AreGood (lines_from count step state)
unfolding lines_from
from_is_good zero step state fits = ending_is_good
from_is_good (suc count) step state fits =
    are_good_more (step_lines step state) (lines_from count (step + 1) (state_after_step state)) (step_is_good step state (omega arith))
    (from_is_good count (step + 1) (state_after_step state) (omega arith))

-- the lines that make things, after the first
abbrev pub later_making : List (List ℕ)
later_making = codes "chain c 4 8\n" ∷ codes "pool p amc front c\n" ∷ codes "table t 16\n" ∷ codes "ap x p exact\n" ∷ []

pub making_is_good : AreGood later_making
making_is_good = (
  plain (codes "chain c 4 8") refl refl,
  (
    plain (codes "pool p amc front c") refl refl,
    (plain (codes "table t 16") refl refl, (plain (codes "ap x p exact") refl refl, tt)),
  ),
)

pub generated_is_grammatical : (seed count : ℕ) → count ≤ 2 ^ 64 → is_grammatical (lines_of (script seed count)) ≡ true
generated_is_grammatical seed count fits =
    let later : List (List ℕ) = later_making ++ lines_from count 0 seed in
    let good : AreGood later = are_good_more later_making (lines_from count 0 seed) making_is_good (from_is_good count 0 seed
    (omega arith)) in
    let first : lines_of (script seed count) ≡ codes "arena 1024 1024" ∷ lines_of (flat_map (λ line. line) later)
    = line_first (codes "arena 1024 1024") (flat_map (λ line. line) later) refl in
    ap is_grammatical first ∙ after_arena (lines_of (flat_map (λ line. line) later)) (lines_are_good later good)
