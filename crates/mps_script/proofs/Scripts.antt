-- One line more after a script.
use Rattle.std.proofs.Common.{◌≡◌, ℕ, Bool, true, false, not, ◌&&◌, ◌||◌, if◌then◌else◌, Option, Some, None, Result, Ok, Err, List, [], ◌∷◌, ◌++◌, refl, sym, ap, ◌∙◌, append-nil}
use Rattle.std.specs.Prelude.{is_ok}
use Rattle.std.specs.List.{list_all, list_any}
use Rattle.std.proofs.lemmas.Grind.{flat_map-append}
use Rattle.mps_model.specs.FirstCall.{is_arena}
use Rattle.mps_model.specs.declared.call.Call.{Call}
use Rattle.mps_script.specs.declared.line.BadLine.{BadLine}
use Rattle.mps_script.specs.Line.{call_of_line}
use Rattle.mps_script.specs.Script.{is_good, call_or_none, calls_of, begin_with_arena, is_grammatical, is_some_call, has_turn, in_turn, has_arena_after}

all-append : (p : List ℕ → Bool) (xs ys : List (List ℕ)) → list_all p (xs ++ ys) ≡ (list_all p xs && list_all p ys)
all-append p [] ys = refl
all-append p (x ∷ xs) ys = at (p x) (all-append p xs ys)
  where
    at : (b : Bool) → list_all p (xs ++ ys) ≡ (list_all p xs && list_all p ys)
        → (b && list_all p (xs ++ ys)) ≡ ((b && list_all p xs) && list_all p ys)
    at true e = e
    at false e = refl

any_one_more : (p : Call → Bool) (cs : List Call) (c : Call) → list_any p cs ≡ false → list_any p (cs ++ c ∷ []) ≡ p c
any_one_more p [] c e = last (p c)
  where
    last : (b : Bool) → (b || false) ≡ b
    last true = refl
    last false = refl
any_one_more p (x ∷ cs) c e = at (p x) e (any_one_more p cs c)
  where
    at : (b : Bool) → (b || list_any p cs) ≡ false → (list_any p cs ≡ false → list_any p (cs ++ c ∷ []) ≡ p c)
        → (b || list_any p (cs ++ c ∷ [])) ≡ p c
    at true wrong later = absurd (let clash : true ≡ false = wrong in cc)
    at false none later = later none

both_true : (a b : Bool) → (a && b) ≡ true → (a ≡ true) × (b ≡ true)
both_true true b e = (refl, e)
both_true false b e = absurd (let clash : false ≡ true = e in cc)

negated : (b : Bool) → not b ≡ true → b ≡ false
negated true e = absurd (let clash : false ≡ true = e in cc)
negated false e = refl

-- the calls so far, and one more
calls_grow : (cs : List Call) (c : Call) → begin_with_arena cs ≡ true
    → begin_with_arena (cs ++ c ∷ []) ≡ has_turn (is_some_call cs) (is_arena c)
calls_grow [] c e = first (is_arena c)
  where
    first : (b : Bool) → (b && true) ≡ b
    first true = refl
    first false = refl
calls_grow (x ∷ cs) c e =
    let k = both_true (is_arena x) (not (list_any is_arena cs)) e in
    rw k.0 (ap not (any_one_more is_arena cs c (negated (list_any is_arena cs) k.1)))

-- the call where this holds
abbrev call_if : Bool → Call → Result (Option Call) BadLine
call_if holds c = if holds then Ok (Some c) else Err (record {})

turn_is_ok : (b : Bool) (c : Call) → is_ok (call_if b c) ≡ b
turn_is_ok true c = refl
turn_is_ok false c = refl

-- the same of the lines, by what the next line has
line_grows : (cs : List Call) (r : Result (Option Call) BadLine) → begin_with_arena cs ≡ true
    → (is_ok r && true && begin_with_arena (cs ++ (call_or_none r ++ []))) ≡ is_ok (in_turn (is_some_call cs) r)
line_grows cs (Err bad) e = refl
line_grows cs (Ok None) e = ap begin_with_arena (append-nil cs) ∙ e
line_grows cs (Ok (Some c)) e = calls_grow cs c e ∙ sym (turn_is_ok (has_turn (is_some_call cs) (is_arena c)) c)

pub script_grows : (lines : List (List ℕ)) (line : List ℕ) → is_grammatical lines ≡ true
    → is_grammatical (lines ++ line ∷ []) ≡ is_ok (in_turn (is_some_call (calls_of lines)) (call_of_line line))
script_grows lines line e =
    let k = both_true (list_all is_good lines) (begin_with_arena (calls_of lines)) e in
    let good : list_all is_good (lines ++ line ∷ []) ≡ (is_good line && true)
    = all-append is_good lines (line ∷ []) ∙ ap (λ (b : Bool). b && (is_good line && true)) k.0 in
    let calls : calls_of (lines ++ line ∷ []) ≡ calls_of lines ++ calls_of (line ∷ [])
    = flat_map-append (λ (l : List ℕ). call_or_none (call_of_line l)) lines (line ∷ []) in
    ap (λ (b : Bool). b && begin_with_arena (calls_of (lines ++ line ∷ []))) good
    ∙ ap (λ (cs : List Call). (is_good line && true) && begin_with_arena cs) calls
    ∙ line_grows (calls_of lines) (call_of_line line) k.1

abbrev bad_line : Result (Option Call) BadLine
bad_line = Err (record {})

-- what has its turn is the call of the line
pub turn_taken : (has_arena : Bool) (r : Result (Option Call) BadLine) (x : Option Call) → in_turn has_arena r ≡ Ok x → r ≡ Ok x
turn_taken has_arena (Err bad) x e = cc
turn_taken has_arena (Ok None) x e = e
turn_taken has_arena (Ok (Some c)) x e = chosen (has_turn has_arena (is_arena c)) e
  where
    chosen : (b : Bool) → call_if b c ≡ Ok x → call_if true c ≡ Ok x
    chosen true e = e
    chosen false e = absurd (let clash : bad_line ≡ Ok x = e in cc)

-- whether there is a call, after a line more
pub arena_after : (cs : List Call) (r : Result (Option Call) BadLine)
    → is_some_call (cs ++ call_or_none r) ≡ has_arena_after (is_some_call cs) r
arena_after cs (Err bad) = ap is_some_call (append-nil cs)
arena_after cs (Ok None) = ap is_some_call (append-nil cs)
arena_after [] (Ok (Some c)) = refl
arena_after (x ∷ cs) (Ok (Some c)) = refl
