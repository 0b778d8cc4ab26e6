-- The numbers of a chain and of the classes of a cache are in their ranges.
use Rattle.std.proofs.Common.{◌≡◌, ℕ, ◌≤◌, Bool, true, false, Option, Some, None, List, [], ◌∷◌, ◌++◌, length, refl, sym, subst, arith, option_map, if◌then◌else◌, nat_le}
use Rattle.std.specs.Prelude.{◌*◌, zero, suc, ◌-◌, replicate, ◌&&◌}
use Rattle.std.specs.List.{list_all}
use Rattle.std.proofs.lemmas.Bool.{and_parts}
use Rattle.std.proofs.lemmas.Bool.Decides.{nat_tests}
use Rattle.mps_model.specs.declared.call.Call.TheVariants as call
use Rattle.mps_answers.specs.Reading.{both, onto, each}
use Rattle.mps_answers.specs.Name.{name_of}
use Rattle.mps_script.specs.Form.{cache, class_limit, class_size, classes, each_class, grains_from, capacities, padded, chain}
use Rattle.mps_commands.specs.Range.{are_cached, are_grains}
use Rattle.mps_run.proofs.RangesOfReadings.{FormInRange, within_range, and_then_in_range, onto_gives, Anything, IsWithin, both_hold}

-- ---- chains

is_grains : (n : ℕ) → n ≤ 2048 → are_grains n ≡ true
is_grains n h = grind (arith, nat_tests)

-- numbers of grains, one for each word
record AreCapacities (ws : List (List ℕ)) (ns : List ℕ) : Type 0 where
  size : length ns ≡ length ws
  all : list_all are_grains ns ≡ true

each_gives : (ws : List (List ℕ)) (ns : List ℕ) → each (grains_from 0) ws ≡ Some ns → AreCapacities ws ns
each_gives [] ns e =
    let same : [] ≡ ns = (let whole : Some [] ≡ Some ns = e in cc) in
    subst (λ (ms : List ℕ). AreCapacities [] ms) same (record { size = refl; all = refl })
each_gives (word ∷ ws) ns e = of_parts (grains_from 0 word) (each (grains_from 0) ws) (within_range 0 2048 word) (each_gives ws) e
  where
    of_parts : (o : Option ℕ) (os : Option (List ℕ)) → ((n : ℕ) → o ≡ Some n → IsWithin 0 2048 n)
        → ((ms : List ℕ) → os ≡ Some ms → AreCapacities ws ms)
        → option_map (λ p. p.0 ∷ p.1) (both o os) ≡ Some ns → AreCapacities (word ∷ ws) ns
    of_parts (Some n) (Some ms) first later e =
        let rest = later ms refl in
        let same : n ∷ ms ≡ ns = (let whole : Some (n ∷ ms) ≡ Some ns = e in cc) in
        subst (λ (all : List ℕ). AreCapacities (word ∷ ws) all) same
        (record {
          size = omega (arith, rest.size);
          all = both_hold (are_grains n) (list_all are_grains ms) (is_grains n (first n refl).1) rest.all;
        })
    of_parts (Some n) None first later e = absurd (let wrong : None ≡ Some ns = e in cc)
    of_parts None os first later e = absurd (let wrong : None ≡ Some ns = e in cc)

zeros_are_grains : (count : ℕ) → list_all are_grains (replicate count 0) ≡ true
zeros_are_grains zero = refl
zeros_are_grains (suc n) = zeros_are_grains n

padded_are_grains : (ns : List ℕ) (count : ℕ) → list_all are_grains ns ≡ true → list_all are_grains (ns ++ replicate count 0) ≡ true
padded_are_grains [] count all = zeros_are_grains count
padded_are_grains (n ∷ ns) count all =
    let parts = and_parts (are_grains n) (list_all are_grains ns) all in
    both_hold (are_grains n) (list_all are_grains (ns ++ replicate count 0)) parts.0 (padded_are_grains ns count parts.1)

-- the capacities of a chain
record IsChain (ns : List ℕ) : Type 0 where
  count : IsWithin 1 8 (length ns)
  all : list_all are_grains ns ≡ true

capacities_give : (ws : List (List ℕ)) (ns : List ℕ) → capacities ws ≡ Some ns → IsChain ns
capacities_give ws ns e = of_count (nat_le 1 (length ws) && nat_le (length ws) 8) refl e
  where
    of_count : (b : Bool) → (nat_le 1 (length ws) && nat_le (length ws) 8) ≡ b
        → (if b then each (grains_from 0) ws else None) ≡ Some ns → IsChain ns
    of_count true fits e =
        let given = each_gives ws ns e in
        let within : IsWithin 1 8 (length ws) = grind (arith, nat_tests) in
        record { count = subst (IsWithin 1 8) (sym given.size) within; all = given.all }
    of_count false fits e = absurd (let wrong : None ≡ Some ns = e in cc)

pub chain_in_range : FormInRange chain
chain_in_range ws =
    and_then_in_range (λ p. call.Chain p.0 (length p.1) (padded p.1)) (onto name_of capacities ws) (λ p e.
    let is = (onto_gives Anything IsChain name_of capacities (λ word x e. tt) capacities_give ws p e).1 in
    (is.count.0, is.count.1, padded_are_grains p.1 (8 - length p.1) is.all))

-- ---- caches

is_cached : (n : ℕ) → n ≤ 64 → are_cached n ≡ true
is_cached n h = grind (arith, nat_tests)

-- the sizes of classes, and how many blocks each keeps at most, of two words each
record AreClasses (ws : List (List ℕ)) (given : List ℕ × List ℕ) : Type 0 where
  words : length ws ≡ 2 * length given.0
  all : list_all are_cached given.1 ≡ true

each_class_gives : (ws : List (List ℕ)) (given : List ℕ × List ℕ) → each_class ws ≡ Some given → AreClasses ws given
each_class_gives [] given e =
    let same : ([], []) ≡ given = (let whole : Some ([], []) ≡ Some given = e in cc) in
    subst (λ (p : List ℕ × List ℕ). AreClasses [] p) same (record { words = refl; all = refl })
each_class_gives (size ∷ []) given e = absurd (let wrong : None ≡ Some given = e in cc)
each_class_gives (size ∷ limit ∷ ws) given e =
    of_parts (class_size size) (class_limit limit) (each_class ws) (within_range 0 64 limit) (each_class_gives ws) e
  where
    of_parts : (n m : Option ℕ) (later : Option (List ℕ × List ℕ)) → ((k : ℕ) → m ≡ Some k → IsWithin 0 64 k)
        → ((p : List ℕ × List ℕ) → later ≡ Some p → AreClasses ws p)
        → option_map (λ p. (p.0.0 ∷ p.1.0, p.0.1 ∷ p.1.1)) (both (both n m) later) ≡ Some given → AreClasses (size ∷ limit ∷ ws) given
    of_parts (Some n) (Some m) (Some p) first rest e =
        let others = rest p refl in
        let same : (n ∷ p.0, m ∷ p.1) ≡ given = (let whole : Some (n ∷ p.0, m ∷ p.1) ≡ Some given = e in cc) in
        subst (λ (all : List ℕ × List ℕ). AreClasses (size ∷ limit ∷ ws) all) same
        (record {
          words = omega (arith, others.words);
          all = both_hold (are_cached m) (list_all are_cached p.1) (is_cached m (first m refl).1) others.all;
        })
    of_parts (Some n) (Some m) None first rest e = absurd (let wrong : None ≡ Some given = e in cc)
    of_parts (Some n) None later first rest e = absurd (let wrong : None ≡ Some given = e in cc)
    of_parts None m later first rest e = absurd (let wrong : None ≡ Some given = e in cc)

zeros_are_cached : (count : ℕ) → list_all are_cached (replicate count 0) ≡ true
zeros_are_cached zero = refl
zeros_are_cached (suc n) = zeros_are_cached n

padded_are_cached : (ns : List ℕ) (count : ℕ) → list_all are_cached ns ≡ true → list_all are_cached (ns ++ replicate count 0) ≡ true
padded_are_cached [] count all = zeros_are_cached count
padded_are_cached (n ∷ ns) count all =
    let parts = and_parts (are_cached n) (list_all are_cached ns) all in
    both_hold (are_cached n) (list_all are_cached (ns ++ replicate count 0)) parts.0 (padded_are_cached ns count parts.1)

-- the classes of a cache
record IsCache (given : List ℕ × List ℕ) : Type 0 where
  count : IsWithin 1 8 (length given.0)
  all : list_all are_cached given.1 ≡ true

classes_give : (ws : List (List ℕ)) (given : List ℕ × List ℕ) → classes ws ≡ Some given → IsCache given
classes_give ws given e = of_count (nat_le 2 (length ws) && nat_le (length ws) 16) refl e
  where
    of_count : (b : Bool) → (nat_le 2 (length ws) && nat_le (length ws) 16) ≡ b
        → (if b then each_class ws else None) ≡ Some given → IsCache given
    of_count true fits e =
        let are = each_class_gives ws given e in
        let within : IsWithin 2 16 (length ws) = grind (arith, nat_tests) in
        record { count = (omega (arith, are.words, within.0), omega (arith, are.words, within.1)); all = are.all }
    of_count false fits e = absurd (let wrong : None ≡ Some given = e in cc)

pub cache_in_range : FormInRange cache
cache_in_range ws =
    and_then_in_range (λ p. call.Cache p.0 p.1.0 (length p.1.1.0) (padded p.1.1.0) (padded p.1.1.1))
    (onto name_of (onto name_of classes) ws) (λ p e.
    let is = (onto_gives Anything (λ q. IsCache q.1) name_of (onto name_of classes) (λ word x e. tt)
    (λ ws q e. (onto_gives Anything IsCache name_of classes (λ word x e. tt) classes_give ws q e).1) ws p e).1 in
    (is.count.0, is.count.1, padded_are_cached p.1.1.1 (8 - length p.1.1.1) is.all))
