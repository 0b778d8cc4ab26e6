-- The capacities of a chain, read word by word.
use Rattle.std.proofs.Common.{◌≡◌, ℕ, ◌+◌, ◌-◌, ◌<◌, ◌≤◌, nat_le, ◌&&◌, Bool, true, false, if◌then◌else◌, Option, Some, None, List, [], ◌∷◌, ◌++◌, length, take, drop, set, replicate, refl, sym, ap, ◌∙◌, arith}
use Rattle.std.specs.Prelude.{option_map}
use Rattle.std.proofs.lemmas.Grind.{common_steps}
use Rattle.std.proofs.lemmas.Bool.Decides.{nat_tests}
use Rattle.std.proofs.lemmas.List.{take_more_set, append-nil, append_assoc}
use Rattle.mps_line_words.specs.Reading.{both, each}
use Rattle.mps_grammar.specs.Form.{grains_from, capacities, padded}
use Rattle.mps_parser_a_to_k.proofs.Padded.{first_length, padded_first, zeros_after}

-- what the readings of a word and of the words after it give
abbrev with_first : Option ℕ → Option (List ℕ) → Option (List ℕ)
with_first n ns = option_map (λ (p : ℕ × List ℕ). p.0 ∷ p.1) (both n ns)

abbrev after_numbers : List ℕ → Option (List ℕ) → Option (List ℕ)
after_numbers numbers ns = option_map (λ (later : List ℕ). numbers ++ later) ns

-- some words were read: their numbers stand first, and the others are 0
pub record AreRead (all rest : List (List ℕ)) (numbers : List ℕ) (count : ℕ) : Type 0 where
  pub read : each (grains_from 0) all ≡ after_numbers (take count numbers) (each (grains_from 0) rest)
  pub words : length all ≡ count + length rest
  pub zeros : drop count numbers ≡ replicate (8 - count) 0
  pub in_bounds : count ≤ 8
  pub room : length numbers ≡ 8

moved_on : (front : List ℕ) (n : ℕ) (ns : Option (List ℕ))
    → after_numbers front (with_first (Some n) ns) ≡ after_numbers (front ++ n ∷ []) ns
moved_on front n None = refl
moved_on front n (Some ns) = ap Some (sym (append_assoc front (n ∷ []) ns))

-- what is read of the first words, of which one is in the wrong form
stopped : (front : List ℕ) (ns : Option (List ℕ)) → after_numbers front (with_first None ns) ≡ None
stopped front ns = refl

pub one_more_read : (all after : List (List ℕ)) (word : List ℕ) (numbers : List ℕ) (count n : ℕ) → AreRead all (word ∷ after) numbers count
    → grains_from 0 word ≡ Some n → count < 8 → AreRead all after (set numbers count n) (count + 1)
one_more_read all after word numbers count n before value less =
    let fits : count < length numbers = omega (arith, before.room) in
    record {
      read = before.read ∙ ap (λ (first : Option ℕ). after_numbers (take count numbers) (with_first first (each
          (grains_from 0) after))) value
          ∙ moved_on (take count numbers) n (each (grains_from 0) after)
          ∙ ap (λ (front : List ℕ). after_numbers front (each (grains_from 0) after)) (sym (take_more_set numbers count n fits));
      words = omega (arith, before.words);
      zeros = zeros_after count numbers n less before.zeros;
      in_bounds = omega arith;
      room = grind (arith, common_steps, before.room);
    }

-- what `capacities` says, with its length test as a fact
abbrev answer : Option (List ℕ) → Option (ℕ × List ℕ)
answer numbers = option_map (λ (ns : List ℕ). (length ns, padded ns)) numbers

in_range : (all : List (List ℕ)) → 1 ≤ length all → length all ≤ 8 → capacities all ≡ each (grains_from 0) all
in_range all least most = grind (arith, nat_tests)

out_of_range : (all : List (List ℕ)) (n : ℕ) → length all ≡ n → (nat_le 1 n && nat_le n 8) ≡ false → capacities all ≡ None
out_of_range all n is out = rw (is, out) refl

wrong_word : (all : List (List ℕ)) → each (grains_from 0) all ≡ None → capacities all ≡ None
wrong_word all wrong = either (nat_le 1 (length all) && nat_le (length all) 8) (each (grains_from 0) all) wrong
  where
    either : (t : Bool) (x : Option (List ℕ)) → x ≡ None → (if t then x else None) ≡ None
    either true x e = e
    either false x e = refl

-- a ninth word
pub too_many : (all after : List (List ℕ)) (word : List ℕ) (numbers : List ℕ) (count : ℕ) → AreRead all (word ∷ after) numbers count
    → count ≡ 8 → None ≡ answer (capacities all)
too_many all after word numbers count before full =
    let more : 8 < length all = omega (arith, before.words) in
    let out : (nat_le 1 (length all) && nat_le (length all) 8) ≡ false = grind (arith, nat_tests) in
    ap answer (sym (out_of_range all (length all) refl out))

-- a word that is no capacity
pub no_capacity : (all after : List (List ℕ)) (word : List ℕ) (numbers : List ℕ) (count : ℕ) → AreRead all (word ∷ after) numbers count
    → grains_from 0 word ≡ None → None ≡ answer (capacities all)
no_capacity all after word numbers count before wrong =
    ap answer (sym (wrong_word all (before.read
    ∙ ap (λ (first : Option ℕ). after_numbers (take count numbers) (with_first first (each (grains_from 0) after))) wrong
    ∙ stopped (take count numbers) (each (grains_from 0) after))))

-- no word
pub no_words_read : (all : List (List ℕ)) (numbers : List ℕ) (count : ℕ) → AreRead all [] numbers count → count ≡ 0
    → None ≡ answer (capacities all)
no_words_read all numbers count before none =
    let empty : length all ≡ 0 = omega (arith, before.words) in
    ap answer (sym (out_of_range all 0 empty refl))

-- all words
pub all_read : (all : List (List ℕ)) (numbers : List ℕ) (count : ℕ) → AreRead all [] numbers count → 1 ≤ count
    → Some (count, numbers) ≡ answer (capacities all)
all_read all numbers count before some =
    let few : length all ≤ 8 = omega (arith, before.words, before.in_bounds) in
    let least : 1 ≤ length all = omega (arith, before.words) in
    let front : capacities all ≡ Some (take count numbers)
    = in_range all least few ∙ before.read ∙ ap Some (append-nil (take count numbers)) in
    let size : length (take count numbers) ≡ count = first_length count numbers before.in_bounds before.room in
    let whole : padded (take count numbers) ≡ numbers = padded_first count numbers before.in_bounds before.room before.zeros in
    sym (ap answer front ∙ ap (λ (k : ℕ). Some (k, padded (take count numbers))) size ∙ ap (λ (xs : List ℕ). Some (count, xs)) whole)
