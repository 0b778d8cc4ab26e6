-- What epochs keep of the flips, and how staleness is found from it.
use Rattle.std.proofs.Common.{ℕ, zero, suc, ◌+◌, ◌-◌, ◌<◌, ◌≤◌, ◌≡◌, inl, inr, Bool, false, not, ◌||◌, ◌==◌, nat_le, List, [], ◌∷◌, ◌++◌, length, drop, bit_and, bit_or, slice_index_or, if◌then◌else◌, refl, sym, ap, ◌∙◌, arith}
use Rattle.std.specs.List.{list_any}
use Rattle.std.specs.Int.Bits.{or_add_and, or_zero_l, or_zero_r, and_zero_r}
use Rattle.std.proofs.lemmas.Grind.{common_steps}
use Rattle.std.proofs.lemmas.Bool.{cases_lt, le-leb}
use Rattle.std.proofs.lemmas.Nat.{and_le_l, and_le_r}
use Rattle.std.proofs.lemmas.Nat.Bits.{bit_at_and, bit_at_or, same_from_bits}
use Rattle.std.proofs.lemmas.List.{drop-append-le, length-append}
use Rattle.std.proofs.Math.ListN.{drop_of_length-le}
use Rattle.std.proofs.Math.Seq.{drop-length}
use Rattle.mps_base.specs.Staleness.{flips_that_count}
use Rattle.mps_base.specs.Zones.{zones_meet}
use Rattle.mps_ld.specs.State.{EpochsState, epochs_after_flip}
use Rattle.mps_ld.specs.Flips.{AreFlips, all_zones, last_four}

and_over_or : (z a b : ℕ) → bit_and z (bit_or a b) ≡ bit_or (bit_and z a) (bit_and z b)
and_over_or z a b = same_from_bits (bit_and z (bit_or a b)) (bit_or (bit_and z a) (bit_and z b)) (λ i.
    omega (
      arith,
      bit_at_and z (bit_or a b) i,
      bit_at_or a b i,
      bit_at_or (bit_and z a) (bit_and z b) i,
      bit_at_and z a i,
      bit_at_and z b i,
    ))

or_assoc_bits : (a b c : ℕ) → bit_or (bit_or a b) c ≡ bit_or a (bit_or b c)
or_assoc_bits a b c = same_from_bits (bit_or (bit_or a b) c) (bit_or a (bit_or b c)) (λ i.
    omega (arith, bit_at_or (bit_or a b) c i, bit_at_or a b i, bit_at_or a (bit_or b c) i, bit_at_or b c i))

either_nonzero : (x y : ℕ) → not (bit_or x y == 0) ≡ (not (x == 0) || not (y == 0))
either_nonzero zero y = ap (λ (n : ℕ). not (n == 0)) (or_zero_l y)
either_nonzero (suc x) y = grind (arith, common_steps, or_add_and (suc x) y, and_le_l (suc x) y, and_le_r (suc x) y)

meets_either : (z a b : ℕ) → zones_meet z (bit_or a b) ≡ (zones_meet z a || zones_meet z b)
meets_either z a b = ap (λ (n : ℕ). not (n == 0)) (and_over_or z a b) ∙ either_nonzero (bit_and z a) (bit_and z b)

pub any_meets : (z : ℕ) (flips : List ℕ) → zones_meet z (all_zones flips)
    ≡ list_any (λ epochs_after_flip. zones_meet z epochs_after_flip) flips
any_meets z [] = ap (λ (n : ℕ). not (n == 0)) (and_zero_r z)
any_meets z (f ∷ fs) = meets_either z f (all_zones fs) ∙ ap (λ (b : Bool). zones_meet z f || b) (any_meets z fs)

all_after : (flips : List ℕ) (z : ℕ) → all_zones (flips ++ z ∷ []) ≡ bit_or (all_zones flips) z
all_after [] z = or_zero_r z ∙ sym (or_zero_l z)
all_after (f ∷ fs) z = ap (λ (n : ℕ). bit_or f n) (all_after fs z) ∙ sym (or_assoc_bits f (all_zones fs) z)

drop_drop : (m n k : ℕ) (xs : List ℕ) → k ≡ m + n → drop m (drop n xs) ≡ drop k xs
drop_drop m zero k xs is = ap (λ (j : ℕ). drop j xs) (omega (arith, is))
drop_drop m (suc n) k [] is = drop_of_length-le [] (omega arith) ∙ sym (drop_of_length-le [] (omega arith))
drop_drop m (suc n) k (x ∷ xs) is =
    let next : suc (m + n) ≡ k = omega (arith, is) in
    drop_drop m n (m + n) xs refl ∙ ap (λ (j : ℕ). drop j (x ∷ xs)) next

one_more : (n : ℕ) (flips : List ℕ) → drop 1 (drop n (0 ∷ 0 ∷ 0 ∷ 0 ∷ flips)) ≡ drop n (0 ∷ 0 ∷ 0 ∷ flips)
one_more n flips = drop_drop 1 n (suc n) (0 ∷ 0 ∷ 0 ∷ 0 ∷ flips) (omega arith)

last_after : (flips : List ℕ) (z : ℕ) → last_four (flips ++ z ∷ []) ≡ drop 1 (last_four flips) ++ z ∷ []
last_after flips z =
    let n = length flips in
    let longer : length (flips ++ z ∷ []) ≡ suc n = omega (arith, length-append flips (z ∷ [])) in
    ap (λ (k : ℕ). drop k (0 ∷ 0 ∷ 0 ∷ 0 ∷ (flips ++ z ∷ []))) longer
    ∙ drop-append-le n (0 ∷ 0 ∷ 0 ∷ flips) (z ∷ []) (omega arith)
    ∙ ap (λ (xs : List ℕ). xs ++ z ∷ []) (sym (one_more n flips))

-- the flips since an epoch are among the last four
since_in_last_four : (flips : List ℕ) (epoch : ℕ) → length flips - epoch ≤ 4
    → drop (4 - (length flips - epoch)) (last_four flips) ≡ drop epoch flips
since_in_last_four flips epoch few =
    let n = length flips in
    elim (cases_lt n epoch) [
      | inl later ↦
          drop_drop (4 - (n - epoch)) n (suc (suc (suc (suc n)))) (0 ∷ 0 ∷ 0 ∷ 0 ∷ flips) (omega arith)
          ∙ drop-length flips ∙ sym (drop_of_length-le flips (omega arith))
      | inr since ↦
          drop_drop (4 - (n - epoch)) n (suc (suc (suc (suc epoch)))) (0 ∷ 0 ∷ 0 ∷ 0 ∷ flips) (omega arith)
    ]

pub one_shifted : (recent : List ℕ) (z : ℕ) → length recent ≡ 4
    → slice_index_or recent 1 0 ∷ slice_index_or recent 2 0 ∷ slice_index_or recent 3 0 ∷ z ∷ [] ≡ drop 1 recent ++ z ∷ []
one_shifted (a ∷ b ∷ c ∷ d ∷ []) z four = refl
one_shifted (a ∷ b ∷ c ∷ d ∷ e ∷ rest) z four = absurd (omega (arith, four))
one_shifted (a ∷ b ∷ c ∷ []) z four = absurd (omega (arith, four))
one_shifted (a ∷ b ∷ []) z four = absurd (omega (arith, four))
one_shifted (a ∷ []) z four = absurd (omega (arith, four))
one_shifted [] z four = absurd (omega (arith, four))

pub flips_after : (e : EpochsState) (flips : List ℕ) (z : ℕ) → AreFlips e flips → AreFlips (epochs_after_flip e z) (flips ++ z ∷ [])
flips_after e flips z are = record {
  count = omega (arith, are.count, length-append flips (z ∷ []));
  recent = ap (λ (r : List ℕ). drop 1 r ++ z ∷ []) are.recent ∙ sym (last_after flips z);
  all = ap (λ (n : ℕ). bit_or n z) are.all ∙ sym (all_after flips z);
}

pub stale_recent : (e : EpochsState) (flips : List ℕ) (epoch z : ℕ) → AreFlips e flips → e.count - epoch ≤ 4
    → list_any (λ epochs_after_flip. zones_meet z epochs_after_flip) (drop (4 - (e.count - epoch)) e.recent)
    ≡ list_any (λ epochs_after_flip. zones_meet z epochs_after_flip) (flips_that_count flips epoch)
stale_recent e flips epoch z are few =
    let meets : ℕ → Bool = λ epochs_after_flip. zones_meet z epochs_after_flip in
    let n = length flips in
    let within : n - epoch ≤ 4 = omega (arith, are.count, few) in
    ap (λ (k : ℕ). list_any meets (drop (4 - (k - epoch)) e.recent)) are.count
    ∙ ap (λ (r : List ℕ). list_any meets (drop (4 - (n - epoch)) r)) are.recent
    ∙ ap (λ (r : List ℕ). list_any meets r) (since_in_last_four flips epoch within)
    ∙ ap (λ (b : Bool). list_any meets (if b then drop epoch flips else flips)) (sym (le-leb (n - epoch) 4 within))

pub stale_all : (e : EpochsState) (flips : List ℕ) (epoch z : ℕ) → AreFlips e flips → 4 < e.count - epoch
    → zones_meet z e.all ≡ list_any (λ epochs_after_flip. zones_meet z epochs_after_flip) (flips_that_count flips epoch)
stale_all e flips epoch z are many =
    let meets : ℕ → Bool = λ epochs_after_flip. zones_meet z epochs_after_flip in
    let over : nat_le (length flips - epoch) 4 ≡ false = grind (arith, common_steps, are.count, many) in
    ap (λ (n : ℕ). zones_meet z n) are.all ∙ any_meets z flips
    ∙ ap (λ (b : Bool). list_any meets (if b then drop epoch flips else flips)) (sym over)
