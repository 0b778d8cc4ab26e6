-- Rows of entries: what one entry is among the registrations that a row represents.
use Rattle.std.proofs.Common.{ℕ, zero, suc, ◌+◌, ◌-◌, ◌<◌, ◌≤◌, ◌≡◌, ◌≢◌, ◌==◌, Bool, true, false, not, List, [], ◌∷◌, ◌++◌, length, take, filter, count_by, cond, get_or, set, refl, sym, ap, ◌∙◌, arith}
use Rattle.std.specs.List.{remove}
use Rattle.std.proofs.lemmas.Bool.{false≢true}
use Rattle.std.proofs.lemmas.List.Edits.{length-remove}
use Rattle.std.proofs.lemmas.List.Sums.{sum_by-cons}
use Rattle.std.proofs.lemmas.Grind.{common_steps}
use Rattle.std.proofs.lemmas.List.{length-append, length-set, take-set, take-append-le}
use Rattle.mps_final.specs.Inside.{is_live, live, max_entries, IsEntry, StandBefore, IsSoundRow}

pub count_live : (n : ℕ) (xs : List ℕ) → count_by is_live (suc n ∷ xs) ≡ count_by is_live xs + 1
count_live n xs = omega (arith, sum_by-cons (λ entry. cond (is_live entry) 1 0) (suc n) xs)

pub count_is_length : (xs : List ℕ) → count_by is_live xs ≡ length (live xs)
count_is_length [] = refl
count_is_length (zero ∷ xs) = omega (arith, count_is_length xs)
count_is_length (suc n ∷ xs) = omega (arith, count_is_length xs, count_live n xs)

pub live_are_few : (xs : List ℕ) → length (live xs) ≤ length xs
live_are_few [] = omega arith
live_are_few (zero ∷ xs) = omega (arith, live_are_few xs)
live_are_few (suc n ∷ xs) = omega (arith, live_are_few xs)

pub live_twice : (xs : List ℕ) → live (live xs) ≡ live xs
live_twice [] = refl
live_twice (zero ∷ xs) = live_twice xs
live_twice (suc n ∷ xs) = ap (λ (ys : List ℕ). suc n ∷ ys) (live_twice xs)

pub live_push : (xs : List ℕ) (a : ℕ) → 0 < a → live (xs ++ a ∷ []) ≡ live xs ++ a ∷ []
live_push [] (suc a) some = refl
live_push [] zero some = absurd (omega (arith, some))
live_push (zero ∷ xs) a some = live_push xs a some
live_push (suc n ∷ xs) a some = ap (λ (ys : List ℕ). suc n ∷ ys) (live_push xs a some)

-- the entry is the registration at its position
pub live_at : (xs : List ℕ) (k i d : ℕ) → i < length xs → is_live (get_or xs i 0) ≡ true → count_by is_live (take i xs) ≡ k
    → get_or (live xs) k d ≡ get_or xs i 0
live_at [] k i d within here before = absurd (omega (arith, within))
live_at (zero ∷ xs) k zero d within here before = absurd (false≢true here)
live_at (suc n ∷ xs) k zero d within here before = ap (λ (j : ℕ). get_or (suc n ∷ live xs) j d) (sym before)
live_at (zero ∷ xs) k (suc i) d within here before =
    live_at xs k i d (omega (arith, within)) here (omega (arith, before))
live_at (suc n ∷ xs) zero (suc i) d within here before = absurd (omega (arith, before, count_live n (take i xs)))
live_at (suc n ∷ xs) (suc k) (suc i) d within here before =
    live_at xs k i d (omega (arith, within)) here (omega (arith, before, count_live n (take i xs)))

-- another address in its place
pub live_set : (xs : List ℕ) (k i a : ℕ) → i < length xs → is_live (get_or xs i 0) ≡ true → count_by is_live (take i xs) ≡ k
    → 0 < a → live (set xs i a) ≡ set (live xs) k a
live_set [] k i a within here before some = absurd (omega (arith, within))
live_set (zero ∷ xs) k zero a within here before some = absurd (false≢true here)
live_set (suc n ∷ xs) k zero zero within here before some = absurd (omega (arith, some))
live_set (suc n ∷ xs) k zero (suc a) within here before some = ap (λ (j : ℕ). set (suc n ∷ live xs) j (suc a)) before
live_set (zero ∷ xs) k (suc i) a within here before some =
    live_set xs k i a (omega (arith, within)) here (omega (arith, before)) some
live_set (suc n ∷ xs) zero (suc i) a within here before some = absurd (omega (arith, before, count_live n (take i xs)))
live_set (suc n ∷ xs) (suc k) (suc i) a within here before some =
    ap (λ (ys : List ℕ). suc n ∷ ys) (live_set xs k i a (omega (arith, within)) here (omega (arith, before, count_live n (take i xs))) some)

-- without it
pub live_gone : (xs : List ℕ) (k i : ℕ) → i < length xs → is_live (get_or xs i 0) ≡ true → count_by is_live (take i xs) ≡ k
    → live (set xs i 0) ≡ remove (live xs) k
live_gone [] k i within here before = absurd (omega (arith, within))
live_gone (zero ∷ xs) k zero within here before = absurd (false≢true here)
live_gone (suc n ∷ xs) k zero within here before = ap (λ (j : ℕ). remove (suc n ∷ live xs) j) before
live_gone (zero ∷ xs) k (suc i) within here before =
    live_gone xs k i (omega (arith, within)) here (omega (arith, before))
live_gone (suc n ∷ xs) zero (suc i) within here before = absurd (omega (arith, before, count_live n (take i xs)))
live_gone (suc n ∷ xs) (suc k) (suc i) within here before =
    ap (λ (ys : List ℕ). suc n ∷ ys) (live_gone xs k i (omega (arith, within)) here (omega (arith, before, count_live n (take i xs))))

pub live_is_nonzero : (n : ℕ) → not (n == 0) ≡ is_live n
live_is_nonzero zero = refl
live_is_nonzero (suc n) = grind (arith, common_steps)

pub nonzero_lives : (n : ℕ) → n ≢ 0 → is_live n ≡ true
nonzero_lives zero some = absurd (some refl)
nonzero_lives (suc n) some = refl

pub zero_is_removed : (n : ℕ) → n ≡ 0 → is_live n ≡ false
zero_is_removed n is = ap is_live is

pub sound_set : (xs : List ℕ) (count p c k i a : ℕ) → IsSoundRow xs count p c → IsEntry xs k i → 0 < a → IsSoundRow (set xs i a) count k i
sound_set xs count p c k i a sound entry some =
    let same : live (set xs i a) ≡ set (live xs) k a = live_set xs k i a entry.within entry.lives entry.before some in
    record {
      counted = omega (arith, sound.counted, ap length same, length-set (live xs) k a);
      at_most = sound.at_most;
      short = omega (arith, sound.short, length-set xs i a);
      within = omega (arith, entry.within, length-set xs i a);
      before = ap (λ (ys : List ℕ). count_by is_live ys) (take-set xs i a) ∙ entry.before;
    }

pub sound_gone : (xs : List ℕ) (count p c k i : ℕ) → IsSoundRow xs count p c → IsEntry xs k i → k < length (live xs)
    → IsSoundRow (set xs i 0) (count - 1) k i
sound_gone xs count p c k i sound entry within =
    let same : live (set xs i 0) ≡ remove (live xs) k = live_gone xs k i entry.within entry.lives entry.before in
    record {
      counted = omega (arith, sound.counted, ap length same, length-remove (live xs) k within);
      at_most = omega (arith, sound.at_most);
      short = omega (arith, sound.short, length-set xs i 0);
      within = omega (arith, entry.within, length-set xs i 0);
      before = ap (λ (ys : List ℕ). count_by is_live ys) (take-set xs i 0) ∙ entry.before;
    }

pub sound_push : (xs : List ℕ) (count p c a : ℕ) → count ≡ length (live xs) → count < 65536 → length xs < max_entries → c ≤ length xs
    → StandBefore xs p c → 0 < a → IsSoundRow (xs ++ a ∷ []) (count + 1) p c
sound_push xs count p c a counted few short within before some = record {
  counted = omega (arith, counted, ap length (live_push xs a some), length-append (live xs) (a ∷ []));
  at_most = omega (arith, few);
  short = omega (arith, short, length-append xs (a ∷ []));
  within = omega (arith, within, length-append xs (a ∷ []));
  before = ap (λ (ys : List ℕ). count_by is_live ys) (take-append-le c xs (a ∷ []) within) ∙ before;
}

-- what is left where the entries that are 0 are taken out
pub nonzero_are_live : (xs : List ℕ) → filter (λ entry. not (entry == 0)) xs ≡ live xs
nonzero_are_live [] = refl
nonzero_are_live (zero ∷ xs) = nonzero_are_live xs
nonzero_are_live (suc n ∷ xs) =
    ap (λ (b : Bool). cond b (suc n ∷ filter (λ entry. not (entry == 0)) xs) (filter (λ entry. not (entry == 0)) xs))
    (live_is_nonzero (suc n))
    ∙ ap (λ (ys : List ℕ). suc n ∷ ys) (nonzero_are_live xs)
