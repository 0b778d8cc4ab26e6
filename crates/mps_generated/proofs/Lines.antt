-- Lines of generated scripts that have numbers: each is good after the arena.
use Rattle.std.proofs.Common.{◌≡◌, ℕ, ◌^◌, ◌<◌, ◌≤◌, nat_lt, true, false, codes, Some, Ok, List, [], ◌∷◌, ◌++◌, length, replicate, decimal, refl, arith}
use Rattle.std.specs.Prelude.{is_ok}
use Rattle.std.specs.List.{slice_split}
use Rattle.std.proofs.lemmas.Bool.Decides.{nat_tests}
use Rattle.std.proofs.lemmas.Fmt.{length-decimal-le}
use Rattle.std.proofs.lemmas.List.{length-append}
use Rattle.mps_base.specs.declared.names.Name.{Name}
use Rattle.mps_base.specs.declared.names.Slot.{Slot}
use Rattle.mps_model.specs.declared.call.Call.{Call}
use Rattle.mps_model.specs.declared.call.Call.TheVariants as call
use Rattle.mps_numerals.specs.Reading.{number_in}
use Rattle.mps_numerals.proofs.Decimals.{written_is_read}
use Rattle.mps_script.specs.Name.{slot_of}
use Rattle.mps_script.specs.Word.{is_space, words}
use Rattle.mps_script.specs.Line.{call_of_words}
use Rattle.mps_script.specs.Lines.{max_line_bytes}
use Rattle.mps_script.specs.Script.{in_turn, is_good_after}
use Rattle.mps_generated.proofs.Separated.{cut_first, uncut, is_number, number_has_none, no_space}

-- a name of one letter
abbrev letter : ℕ → Name
letter code = record { bytes = code ∷ replicate 15 0 }

-- a slot of the table `t`
abbrev t : ℕ → Slot
t index = record { name = letter 116; index = index }

-- ---- words

-- the last word is a number, or a slot
last_number : (n : ℕ) → n < 2 ^ 64 → slice_split is_space (decimal n) ≡ decimal n ∷ []
last_number n fits = uncut is_space (decimal n) (number_has_none is_space no_space n fits)

number_then : (n : ℕ) (rest : List ℕ) → n < 2 ^ 64 → slice_split is_space (decimal n ++ 32 ∷ rest) ≡ decimal n ∷ slice_split is_space rest
number_then n rest fits = cut_first is_space (decimal n) 32 rest (number_has_none is_space no_space n fits) refl

-- a decimal number after `t.` is read as a slot
slot_read : (n : ℕ) → n < 2 ^ 64 → slot_of (codes "t." ++ decimal n) ≡ Some (t n)
slot_read n fits =
    let read : number_in 10 (decimal n) ≡ Some n = written_is_read n fits in
    let within : nat_lt 1 (length (116 ∷ 46 ∷ decimal n)) ≡ true = grind (arith, nat_tests) in
    rw within (rw read refl)

-- ---- lines

-- a short line is good where its words are
good_words : (line : List ℕ) (ws : List (List ℕ)) (c : Call) → length line ≤ 100 → words line ≡ ws → call_of_words ws ≡ Ok (Some c)
    → is_ok (in_turn true (Ok (Some c))) ≡ true → is_good_after true line ≡ true
good_words line ws c short is says turn =
    let fits : nat_lt max_line_bytes (length line) ≡ false = grind (arith, nat_tests) in
    rw (fits, is, says) turn

short : (n : ℕ) → n < 2 ^ 64 → length (decimal n) ≤ 20
short n fits = length-decimal-le 20 n (omega arith) (omega arith) fits

pub init_number_line : (n : ℕ) → n < 2 ^ 64 → is_good_after true (codes "init x 4 " ++ decimal n) ≡ true
init_number_line n fits =
    let number = is_number n fits in
    good_words (codes "init x 4 " ++ decimal n) (codes "init" ∷ codes "x" ∷ codes "4" ∷ decimal n ∷ []) (call.InitNumber (letter 120) 4 n)
    (omega (arith, short n fits, length-append (codes "init x 4 ") (decimal n)))
    (rw (last_number n fits, number.nonempty) refl)
    (rw (written_is_read n fits) refl)
    refl

pub init_slot_line : (n : ℕ) → n < 2 ^ 64 → is_good_after true (codes "init x 1 t." ++ decimal n) ≡ true
init_slot_line n fits =
    good_words (codes "init x 1 t." ++ decimal n) (codes "init" ∷ codes "x" ∷ codes "1" ∷ (codes "t." ++ decimal n) ∷ [])
    (call.InitReference (letter 120) 1 (t n))
    (omega (arith, short n fits, length-append (codes "init x 1 t.") (decimal n)))
    (rw (last_number n fits) refl)
    (rw (slot_read n fits) refl)
    refl

pub commit_line : (n : ℕ) → n < 2 ^ 64 → is_good_after true (codes "commit x t." ++ decimal n) ≡ true
commit_line n fits =
    good_words (codes "commit x t." ++ decimal n) (codes "commit" ∷ codes "x" ∷ (codes "t." ++ decimal n) ∷ [])
    (call.Commit (letter 120) (t n))
    (omega (arith, short n fits, length-append (codes "commit x t.") (decimal n)))
    (rw (last_number n fits) refl)
    (rw (slot_read n fits) refl)
    refl

pub number_line : (n : ℕ) → n < 2 ^ 64 → is_good_after true (codes "num t." ++ (decimal n ++ codes " 4")) ≡ true
number_line n fits =
    good_words (codes "num t." ++ (decimal n ++ codes " 4")) (codes "num" ∷ (codes "t." ++ decimal n) ∷ codes "4" ∷ [])
    (call.Number (t n) 4)
    (omega (arith, short n fits, length-append (codes "num t.") (decimal n ++ codes " 4"), length-append (decimal n) (codes " 4")))
    (rw (number_then n (codes "4") fits) refl)
    (rw (slot_read n fits) refl)
    refl

pub put_line : (n m : ℕ) → n < 2 ^ 64 → m < 2 ^ 64
    → is_good_after true (codes "put t." ++ (decimal n ++ (codes " 2 t." ++ decimal m))) ≡ true
put_line n m fits fits' =
    good_words (codes "put t." ++ (decimal n ++ (codes " 2 t." ++ decimal m)))
    (codes "put" ∷ (codes "t." ++ decimal n) ∷ codes "2" ∷ (codes "t." ++ decimal m) ∷ [])
    (call.Put (t n) 2 (t m))
    (omega (
      arith,
      short n fits,
      short m fits',
      length-append (codes "put t.") (decimal n ++ (codes " 2 t." ++ decimal m)),
      length-append (decimal n) (codes " 2 t." ++ decimal m),
      length-append (codes " 2 t.") (decimal m),
    ))
    (rw (number_then n (codes "2 t." ++ decimal m) fits, last_number m fits') refl)
    (rw (slot_read n fits, slot_read m fits') refl)
    refl

pub get_line : (n m : ℕ) → n < 2 ^ 64 → m < 2 ^ 64
    → is_good_after true (codes "get t." ++ (decimal n ++ (codes " t." ++ (decimal m ++ codes " 1")))) ≡ true
get_line n m fits fits' =
    good_words (codes "get t." ++ (decimal n ++ (codes " t." ++ (decimal m ++ codes " 1"))))
    (codes "get" ∷ (codes "t." ++ decimal n) ∷ (codes "t." ++ decimal m) ∷ codes "1" ∷ [])
    (call.Get (t n) (t m) 1)
    (omega (
      arith,
      short n fits,
      short m fits',
      length-append (codes "get t.") (decimal n ++ (codes " t." ++ (decimal m ++ codes " 1"))),
      length-append (decimal n) (codes " t." ++ (decimal m ++ codes " 1")),
      length-append (codes " t.") (decimal m ++ codes " 1"),
      length-append (decimal m) (codes " 1"),
    ))
    (rw (number_then n (codes "t." ++ (decimal m ++ codes " 1")) fits, number_then m (codes "1") fits') refl)
    (rw (slot_read n fits, slot_read m fits') refl)
    refl
