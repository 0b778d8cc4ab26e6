-- The classes of a cache, read two words at a time.
use Rattle.std.proofs.Common.{◌≡◌, ℕ, ◌+◌, ◌*◌, ◌-◌, ◌<◌, ◌≤◌, nat_le, ◌&&◌, Bool, true, false, if◌then◌else◌, Option, Some, None, List, [], ◌∷◌, ◌++◌, length, take, drop, set, replicate, refl, sym, ap, ◌∙◌, arith}
use Rattle.std.specs.Prelude.{option_map}
use Rattle.std.proofs.lemmas.Grind.{common_steps}
use Rattle.std.proofs.lemmas.Bool.Decides.{nat_tests}
use Rattle.std.proofs.lemmas.List.{take_more_set, append-nil, append_assoc}
use Rattle.mps_line_words.specs.Reading.{both}
use Rattle.mps_grammar.specs.Form.{class_limit, class_size, classes, each_class, padded}
use Rattle.mps_parser_a_to_k.proofs.Padded.{first_length, padded_first, zeros_after}

-- the sizes of some classes, and how many blocks each keeps at most
abbrev Classes : Type 0
Classes = List ℕ × List ℕ

-- what the readings of a class and of the classes after it give
abbrev with_first : Option (ℕ × ℕ) → Option Classes → Option Classes
with_first first later = option_map (λ (p : (ℕ × ℕ) × Classes). (p.0.0 ∷ p.1.0, p.0.1 ∷ p.1.1)) (both first later)

abbrev after_classes : (sizes limits : List ℕ) → Option Classes → Option Classes
after_classes sizes limits later = option_map (λ (p : Classes). (sizes ++ p.0, limits ++ p.1)) later

-- some classes were read: their numbers stand first, and the others are 0
pub record AreRead (all rest : List (List ℕ)) (sizes limits : List ℕ) (count : ℕ) : Type 0 where
  pub read : each_class all ≡ after_classes (take count sizes) (take count limits) (each_class rest)
  pub words : length all ≡ 2 * count + length rest
  pub size_zeros : drop count sizes ≡ replicate (8 - count) 0
  pub limit_zeros : drop count limits ≡ replicate (8 - count) 0
  pub in_bounds : count ≤ 8
  pub size_room : length sizes ≡ 8
  pub limit_room : length limits ≡ 8

moved_on : (sizes limits : List ℕ) (size limit : ℕ) (later : Option Classes)
    → after_classes sizes limits (with_first (Some (size, limit)) later)
    ≡ after_classes (sizes ++ size ∷ []) (limits ++ limit ∷ []) later
moved_on sizes limits size limit None = refl
moved_on sizes limits size limit (Some p) =
    ap (λ (ns : List ℕ). Some (ns, limits ++ limit ∷ p.1)) (sym (append_assoc sizes (size ∷ []) p.0))
    ∙ ap (λ (ns : List ℕ). Some ((sizes ++ size ∷ []) ++ p.0, ns)) (sym (append_assoc limits (limit ∷ []) p.1))

-- no class is read where one of its words is in the wrong form
no_size : (limit : Option ℕ) → both {A = ℕ} {B = ℕ} None limit ≡ None
no_size limit = refl

no_limit : (size : Option ℕ) → both {A = ℕ} {B = ℕ} size None ≡ None
no_limit (Some size) = refl
no_limit None = refl

front_alone : (later : Option Classes) → later ≡ after_classes [] [] later
front_alone None = refl
front_alone (Some p) = refl

-- nothing was read
pub none_read : (all : List (List ℕ)) → AreRead all all (replicate 8 0) (replicate 8 0) 0
none_read all = record {
  read = front_alone (each_class all);
  words = omega arith;
  size_zeros = refl;
  limit_zeros = refl;
  in_bounds = omega arith;
  size_room = refl;
  limit_room = refl;
}

pub one_more_read : (all after : List (List ℕ)) (first second : List ℕ) (sizes limits : List ℕ) (count size limit : ℕ)
    → AreRead all (first ∷ second ∷ after) sizes limits count → class_size first ≡ Some size → class_limit second ≡ Some limit → count < 8
    → AreRead all after (set sizes count size) (set limits count limit) (count + 1)
one_more_read all after first second sizes limits count size limit before is_size is_limit less =
    let sizes_fit : count < length sizes = omega (arith, before.size_room) in
    let limits_fit : count < length limits = omega (arith, before.limit_room) in
    let later = each_class after in
    let fronts : Option Classes → Option Classes = after_classes (take count sizes) (take count limits) in
    record {
      read = before.read
          ∙ ap (λ (o : Option ℕ). fronts (with_first (both o (class_limit second)) later)) is_size
          ∙ ap (λ (o : Option ℕ). fronts (with_first (both (Some size) o) later)) is_limit
          ∙ moved_on (take count sizes) (take count limits) size limit later
          ∙ ap (λ (front : List ℕ). after_classes front (take count limits ++ limit ∷ []) later)
          (sym (take_more_set sizes count size sizes_fit))
          ∙ ap (λ (front : List ℕ). after_classes (take (count + 1) (set sizes count size)) front later)
          (sym (take_more_set limits count limit limits_fit));
      words = omega (arith, before.words);
      size_zeros = zeros_after count sizes size less before.size_zeros;
      limit_zeros = zeros_after count limits limit less before.limit_zeros;
      in_bounds = omega arith;
      size_room = grind (arith, common_steps, before.size_room);
      limit_room = grind (arith, common_steps, before.limit_room);
    }

-- what is said of classes, with how many they are
abbrev answer : Option Classes → Option (ℕ × Classes)
answer given = option_map (λ (p : Classes). (length p.0, (padded p.0, padded p.1))) given

in_range : (all : List (List ℕ)) → 2 ≤ length all → length all ≤ 16 → classes all ≡ each_class all
in_range all least most = grind (arith, nat_tests)

out_of_range : (all : List (List ℕ)) (n : ℕ) → length all ≡ n → (nat_le 2 n && nat_le n 16) ≡ false → classes all ≡ None
out_of_range all n is out = rw (is, out) refl

wrong_word : (all : List (List ℕ)) → each_class all ≡ None → classes all ≡ None
wrong_word all wrong = either (nat_le 2 (length all) && nat_le (length all) 16) (each_class all) wrong
  where
    either : (t : Bool) (x : Option Classes) → x ≡ None → (if t then x else None) ≡ None
    either true x e = e
    either false x e = refl

-- a seventeenth word
pub too_many : (all after : List (List ℕ)) (word : List ℕ) (sizes limits : List ℕ) (count : ℕ)
    → AreRead all (word ∷ after) sizes limits count → count ≡ 8 → None ≡ answer (classes all)
too_many all after word sizes limits count before full =
    let more : 16 < length all = omega (arith, before.words) in
    let out : (nat_le 2 (length all) && nat_le (length all) 16) ≡ false = grind (arith, nat_tests) in
    ap answer (sym (out_of_range all (length all) refl out))

-- a size without a limit
pub no_second_word : (all : List (List ℕ)) (word : List ℕ) (sizes limits : List ℕ) (count : ℕ)
    → AreRead all (word ∷ []) sizes limits count → None ≡ answer (classes all)
no_second_word all word sizes limits count before = ap answer (sym (wrong_word all before.read))

module _ (all after : List (List ℕ)) (first second : List ℕ) (sizes limits : List ℕ) (count : ℕ)
    (before : AreRead all (first ∷ second ∷ after) sizes limits count) where
  no_class : both (class_size first) (class_limit second) ≡ None → None ≡ answer (classes all)
  no_class wrong =
      ap answer (sym (wrong_word all (before.read
      ∙ ap (λ (o : Option (ℕ × ℕ)). after_classes (take count sizes) (take count limits) (with_first o (each_class after))) wrong)))

  -- a word that is no size
  pub no_class_size : class_size first ≡ None → None ≡ answer (classes all)
  no_class_size wrong = no_class (ap (λ (o : Option ℕ). both o (class_limit second)) wrong ∙ no_size (class_limit second))

  -- a word that is no limit
  pub no_class_limit : class_limit second ≡ None → None ≡ answer (classes all)
  no_class_limit wrong = no_class (ap (λ (o : Option ℕ). both (class_size first) o) wrong ∙ no_limit (class_size first))

-- no word
pub no_words_read : (all : List (List ℕ)) (sizes limits : List ℕ) (count : ℕ) → AreRead all [] sizes limits count → count ≡ 0
    → None ≡ answer (classes all)
no_words_read all sizes limits count before none =
    let empty : length all ≡ 0 = omega (arith, before.words) in
    ap answer (sym (out_of_range all 0 empty refl))

-- all words
pub all_read : (all : List (List ℕ)) (sizes limits : List ℕ) (count : ℕ) → AreRead all [] sizes limits count → 1 ≤ count
    → Some (count, (sizes, limits)) ≡ answer (classes all)
all_read all sizes limits count before some =
    let few : length all ≤ 16 = omega (arith, before.words, before.in_bounds) in
    let least : 2 ≤ length all = omega (arith, before.words) in
    let front : classes all ≡ Some (take count sizes, take count limits)
    = in_range all least few ∙ before.read ∙ ap (λ (ns : List ℕ). Some (ns, take count limits ++ [])) (append-nil (take count sizes))
    ∙ ap (λ (ns : List ℕ). Some (take count sizes, ns)) (append-nil (take count limits)) in
    let size_room : length (take count sizes) ≡ count = first_length count sizes before.in_bounds before.size_room in
    let whole_sizes : padded (take count sizes) ≡ sizes = padded_first count sizes before.in_bounds before.size_room before.size_zeros in
    let whole_limits : padded (take count limits) ≡ limits
    = padded_first count limits before.in_bounds before.limit_room before.limit_zeros in
    sym (ap answer front ∙ ap (λ (k : ℕ). Some (k, (padded (take count sizes), padded (take count limits)))) size_room
    ∙ ap (λ (ns : List ℕ). Some (count, (ns, padded (take count limits)))) whole_sizes
    ∙ ap (λ (ns : List ℕ). Some (count, (sizes, ns))) whole_limits)
