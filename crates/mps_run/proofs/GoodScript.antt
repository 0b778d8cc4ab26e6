-- A run of a good script, without a fault and with memory, ends with status 0.
use Rattle.std.proofs.Common.{◌≡◌, ◌≢◌, ℕ, ◌<◌, ◌≤◌, Bool, true, false, not, ◌&&◌, ◌||◌, Some, Ok, Err, List, [], ◌∷◌, ◌++◌, length, take, drop, refl, sym, ap, ◌∙◌, arith, append_assoc, length-append, inl, inr}
use Rattle.std.specs.List.{list_all, list_any}
use Rattle.std.proofs.lemmas.Grind.{flat_map-append}
use Rattle.std.proofs.lemmas.List.{take-append-drop}
use Rattle.mps_desk.specs.Desk.{Outside}
use Rattle.mps_model.specs.FirstCall.{is_arena}
use Rattle.mps_model.specs.declared.call.Call.{Call}
use Rattle.mps_script.specs.Line.{lines_of, call_of_line}
use Rattle.mps_script.specs.Script.{is_good, call_or_none, calls_of, begin_with_arena, is_grammatical}
use Rattle.mps_report.specs.declared.stop.Stop.TheVariants as stop
use Rattle.mps_report.specs.Reports.{status_of_ending}
use Rattle.mps_run.specs.Ending.{Ending, HasCause, NoFaultRose}
use Rattle.mps_run.specs.Leaving.{LeavesRun}
use Rattle.mps_run.specs.Run.{RunsScript}
use Rattle.mps_run.specs.Script.{Line, max_lines}

-- ---- the first lines of a script are one

all_first : (p : Line → Bool) (xs ys : List Line) → list_all p (xs ++ ys) ≡ true → list_all p xs ≡ true
all_first p [] ys e = refl
all_first p (x ∷ xs) ys e = at (p x) e (all_first p xs ys)
  where
    at : (b : Bool) → (b && list_all p (xs ++ ys)) ≡ true → (list_all p (xs ++ ys) ≡ true → list_all p xs ≡ true)
        → (b && list_all p xs) ≡ true
    at true e later = later e
    at false e later = e

none_first : (p : Call → Bool) (xs ys : List Call) → list_any p (xs ++ ys) ≡ false → list_any p xs ≡ false
none_first p [] ys e = refl
none_first p (x ∷ xs) ys e = at (p x) e (none_first p xs ys)
  where
    at : (b : Bool) → (b || list_any p (xs ++ ys)) ≡ false → (list_any p (xs ++ ys) ≡ false → list_any p xs ≡ false)
        → (b || list_any p xs) ≡ false
    at true e later = e
    at false e later = later e

both_true : (a b : Bool) → (a && b) ≡ true → (a ≡ true) × (b ≡ true)
both_true true b e = (refl, e)
both_true false b e = absurd (let clash : false ≡ true = e in cc)

both : (a b : Bool) → a ≡ true → b ≡ true → (a && b) ≡ true
both true b e f = f
both false b e f = e

negated : (b : Bool) → not b ≡ true → b ≡ false
negated true e = absurd (let clash : false ≡ true = e in cc)
negated false e = refl

arena_first : (xs ys : List Call) → begin_with_arena (xs ++ ys) ≡ true → begin_with_arena xs ≡ true
arena_first [] ys e = refl
arena_first (x ∷ xs) ys e =
    let k = both_true (is_arena x) (not (list_any is_arena (xs ++ ys))) e in
    both (is_arena x) (not (list_any is_arena xs)) k.0
    (ap not (none_first is_arena xs ys (negated (list_any is_arena (xs ++ ys)) k.1)))

script_first : (xs ys : List Line) → is_grammatical (xs ++ ys) ≡ true → is_grammatical xs ≡ true
script_first xs ys e =
    let k = both_true (list_all is_good (xs ++ ys)) (begin_with_arena (calls_of (xs ++ ys))) e in
    let calls : calls_of (xs ++ ys) ≡ calls_of xs ++ calls_of ys
    = flat_map-append (λ (l : Line). call_or_none (call_of_line l)) xs ys in
    both (list_all is_good xs) (begin_with_arena (calls_of xs)) (all_first is_good xs ys k.0)
    (arena_first (calls_of xs) (calls_of ys) (sym (ap begin_with_arena calls) ∙ k.1))

-- they are one with one line more
pub one_more_first : (ran later : List Line) → is_grammatical (ran ++ later) ≡ true → is_grammatical (ran ++ take 1 later) ≡ true
one_more_first ran later e =
    let cut : (ran ++ take 1 later) ++ drop 1 later ≡ ran ++ later =
    append_assoc ran (take 1 later) (drop 1 later) ∙ ap (λ (ls : List Line). ran ++ ls) (take-append-drop 1 later) in
    script_first (ran ++ take 1 later) (drop 1 later) (ap is_grammatical cut ∙ e)

-- ---- how a run of one ends

module _ (takes_memory : Call → Bool) (script : List ℕ) (old new : Outside) (good : is_grammatical (lines_of script) ≡ true)
    (few : length (lines_of script) ≤ max_lines) where
  no_bad_line : (ran later : List Line) → lines_of script ≡ ran ++ later → is_grammatical (ran ++ take 1 later) ≡ false → ⊥
  no_bad_line ran later lines bad =
      let wrong : true ≡ false = sym (one_more_first ran later (sym (ap is_grammatical lines) ∙ good)) ∙ bad in cc

  not_too_long : (ran later : List Line) → lines_of script ≡ ran ++ later → length ran ≡ max_lines → 0 < length later → ⊥
  not_too_long ran later lines count more =
      let size = ap length lines ∙ length-append ran later in omega (arith, size, count, more, few)

  ends_well : (ends : Ending) → HasCause ends old new → NoFaultRose old new → status_of_ending ends ≢ 8
      → LeavesRun takes_memory ends script old new → status_of_ending ends ≡ 0
  ends_well (Ok done) cause none memory l = refl
  ends_well (Err (stop.Bad bad)) cause none memory (inl u) = absurd u
  ends_well (Err (stop.Bad bad)) cause none memory (inr l) = absurd (no_bad_line l.ran l.later l.lines l.ends_at.2)
  ends_well (Err stop.TooLong) cause none memory (inl u) = absurd u
  ends_well (Err stop.TooLong) cause none memory (inr l) =
      absurd (not_too_long l.ran l.later l.lines l.ends_at.0 l.ends_at.1)
  ends_well (Err stop.OutOfMemory) cause none memory l = absurd (memory refl)
  ends_well (Err stop.ReadFailed) cause none memory l = absurd (none.reading cause)
  ends_well (Err stop.WriteFailed) cause none memory l = absurd (none.printing cause)
  ends_well (Err stop.LogFailed) cause none memory l = absurd (none.logging cause)

pub good_script : (takes_memory : Call → Bool) (log script : List ℕ) (status : ℕ) (old new : Outside)
    → RunsScript takes_memory log script status old new
    → (bytes : List ℕ) → old.text script ≡ Some bytes → is_grammatical (lines_of bytes) ≡ true
    → length (lines_of bytes) ≤ max_lines → NoFaultRose old new → status ≢ 8 → status ≡ 0
good_script takes_memory log script status old new r bytes e good few none memory =
    r.status_is
    ∙ ends_well takes_memory bytes old new good few r.ends r.cause none (λ eight. memory (r.status_is ∙ eight)) (r.leaves bytes e)
