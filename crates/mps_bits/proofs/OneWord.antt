-- One word: its lowest and its highest set bit, masks, and indexes from which a run of bits is set.
use Rattle.std.proofs.Common.{ℕ, suc, ◌+◌, ◌-◌, ◌*◌, ◌/◌, ◌%◌, ◌^◌, ◌<◌, ◌≤◌, ◌≡◌, ◌⊎◌, ◌↔◌, min, bit_and, bit_or, sym, ap, ◌∙◌, subst, inl, inr, arith, w64}
use Rattle.std.specs.Int.{bit_at, bit_not, leading_zeros}
use Rattle.std.proofs.lemmas.Bool.{cases_lt}
use Rattle.std.proofs.lemmas.Nat.{leading_top, shr-shr, le-div, div_below, pow_pos, shl_whole}
use Rattle.std.proofs.lemmas.Nat.Bits.{bit_at_and, bit_at_or, bit_at_not, bit_at-lt, bit_at-zero, bit_at_above, bit_at_ones, bit_at_ones_above, bit_at_cat_low, bit_at_cat_high}
use Rattle.std.proofs.Math.Nat.{pow-suc}

-- a number from one power of two up to the next has the first one's bit
top_bit : (n j : ℕ) → 2 ^ j ≤ n → n < 2 ^ suc j → bit_at n j ≡ 1
top_bit n j low high =
    let some : 1 ≤ n / 2 ^ j = le-div 1 n (2 ^ j) (pow_pos j) (omega (arith, low)) in
    let twice : n < 2 * 2 ^ j = omega (arith, high, pow-suc 2 j) in
    let few : n / 2 ^ j < 2 = div_below n (2 ^ j) 2 (pow_pos j) twice in
    let one : n / 2 ^ j ≡ 1 = omega arith in
    ap (λ (x : ℕ). x % 2) one

pub highest_set : (n : ℕ) → 0 < n → n < 2 ^ 64 → bit_at n (63 - leading_zeros w64 n) ≡ 1
highest_set n some fits =
    let t = leading_top 64 n some fits in
    let index : 63 - leading_zeros w64 n ≡ t.0 = omega (arith, t.1) in
    subst (λ (j : ℕ). bit_at n j ≡ 1) (sym index) (top_bit n t.0 t.2 t.3)

pub highest_above : (n : ℕ) → 0 < n → n < 2 ^ 64 → (i : ℕ) → 63 - leading_zeros w64 n < i → bit_at n i ≡ 0
highest_above n some fits i above =
    let t = leading_top 64 n some fits in
    bit_at_above n (suc t.0) i t.3 (omega (arith, t.1))

pub bit_at_shr : (n s i : ℕ) → bit_at (n / 2 ^ s) i ≡ bit_at n (s + i)
bit_at_shr n s i = ap (λ (x : ℕ). x % 2) (shr-shr n s i)

-- y's bits are the indexes from which on x has `count` set bits
abbrev pub AreRunStarts : ℕ → ℕ → ℕ → Type 0
AreRunStarts x y count = (i : ℕ) → (bit_at y i ≡ 1) ↔ ((k : ℕ) → k < count → bit_at x (i + k) ≡ 1)

-- two runs that meet or overlap are one
pub run_starts_more : (x y count step : ℕ) → step ≤ count → AreRunStarts x y count
    → AreRunStarts x (bit_and y (y / 2 ^ step)) (count + step)
run_starts_more x y count step meet starts i = (whole, parts)
  where
    both : bit_at (bit_and y (y / 2 ^ step)) i ≡ min (bit_at y i) (bit_at y (step + i))
    both = bit_at_and y (y / 2 ^ step) i ∙ ap (λ (b : ℕ). min (bit_at y i) b) (bit_at_shr y step i)

    whole : bit_at (bit_and y (y / 2 ^ step)) i ≡ 1 → (k : ℕ) → k < count + step → bit_at x (i + k) ≡ 1
    whole e k h =
        let first : bit_at y i ≡ 1 = omega (arith, both, bit_at-lt y i) in
        let second : bit_at y (step + i) ≡ 1 = omega (arith, both, bit_at-lt y (step + i)) in
        elim (cases_lt k count) [
          | inl low ↦ (starts i).0 first k low
          | inr high ↦
              let same : step + i + (k - step) ≡ i + k = omega arith in
              subst (λ (j : ℕ). bit_at x j ≡ 1) same ((starts (step + i)).0 second (k - step) (omega arith))
        ]

    parts : ((k : ℕ) → k < count + step → bit_at x (i + k) ≡ 1) → bit_at (bit_and y (y / 2 ^ step)) i ≡ 1
    parts all =
        let first : bit_at y i ≡ 1 = (starts i).1 (λ k h. all k (omega arith)) in
        let second : bit_at y (step + i) ≡ 1 =
        (starts (step + i)).1 (λ k h. let same : i + (step + k) ≡ step + i + k = omega arith in
        subst (λ (j : ℕ). bit_at x j ≡ 1) same (all (step + k) (omega arith)))
        in
        omega (arith, both)

-- ---- masks

-- `width` ones, shifted up by `low`
pub mask_at : (ones width low : ℕ) → ones ≡ 2 ^ width - 1 → low + width ≤ 64 → ones * 2 ^ low % 2 ^ 64 ≡ ones * 2 ^ low
mask_at ones width low is fits =
    let below : ones < 2 ^ width = omega (arith, pow_pos width) in
    shl_whole ones width low 64 below (omega arith)

mask_low : (a low i : ℕ) → i < low → bit_at (a * 2 ^ low) i ≡ 0
mask_low a low i h =
    let same : a * 2 ^ low + 0 ≡ a * 2 ^ low = omega arith in
    subst (λ (x : ℕ). bit_at x i ≡ 0) same (bit_at_cat_low a low 0 i h ∙ bit_at-zero i)

mask_high : (a low i : ℕ) → low ≤ i → bit_at (a * 2 ^ low) i ≡ bit_at a (i - low)
mask_high a low i h =
    let same : a * 2 ^ low + 0 ≡ a * 2 ^ low = omega arith in
    subst (λ (x : ℕ). bit_at x i ≡ bit_at a (i - low)) same (bit_at_cat_high a low 0 i (pow_pos low) h)

pub mask_inside : (ones width low i : ℕ) → ones ≡ 2 ^ width - 1 → low + width ≤ 64 → low ≤ i → i < low + width
    → bit_at (ones * 2 ^ low % 2 ^ 64) i ≡ 1
mask_inside ones width low i is fits from to =
    rw (mask_at ones width low is fits)
    (mask_high ones low i from ∙ ap (λ (x : ℕ). bit_at x (i - low)) is ∙ bit_at_ones width (i - low) (omega arith))

pub mask_outside : (ones width low i : ℕ) → ones ≡ 2 ^ width - 1 → low + width ≤ 64 → (i < low) ⊎ (low + width ≤ i)
    → bit_at (ones * 2 ^ low % 2 ^ 64) i ≡ 0
mask_outside ones width low i is fits (inl below) = rw (mask_at ones width low is fits) (mask_low ones low i below)
mask_outside ones width low i is fits (inr above) =
    rw (mask_at ones width low is fits)
    (mask_high ones low i (omega arith) ∙ ap (λ (x : ℕ). bit_at x (i - low)) is ∙ bit_at_ones_above width (i - low) (omega arith))

pub with_set : (word mask i : ℕ) → bit_at mask i ≡ 1 → bit_at (bit_or word mask) i ≡ 1
with_set word mask i is = let e = bit_at_or word mask i in omega (arith, e, is, bit_at-lt word i)

pub with_set_other : (word mask i : ℕ) → bit_at mask i ≡ 0 → bit_at (bit_or word mask) i ≡ bit_at word i
with_set_other word mask i is = let e = bit_at_or word mask i in omega (arith, e, is)

pub with_clear : (word mask i : ℕ) → mask < 2 ^ 64 → i < 64 → bit_at mask i ≡ 1 → bit_at (bit_and word (bit_not w64 mask)) i ≡ 0
with_clear word mask i fits within is =
    let e = bit_at_and word (bit_not w64 mask) i in
    let turned = bit_at_not w64 mask i fits within in
    omega (arith, e, turned, is)

pub with_clear_other : (word mask i : ℕ) → mask < 2 ^ 64 → i < 64 → bit_at mask i ≡ 0
    → bit_at (bit_and word (bit_not w64 mask)) i ≡ bit_at word i
with_clear_other word mask i fits within is =
    let e = bit_at_and word (bit_not w64 mask) i in
    let turned = bit_at_not w64 mask i fits within in
    omega (arith, e, turned, is, bit_at-lt word i)

-- the `width` bits from `low` on
pub low_bits_inside : (word low width ones i : ℕ) → ones ≡ 2 ^ width - 1 → i < width
    → bit_at (bit_and (word / 2 ^ low) ones) i ≡ bit_at word (low + i)
low_bits_inside word low width ones i is within =
    let e = bit_at_and (word / 2 ^ low) ones i in
    let one : bit_at ones i ≡ 1 = ap (λ (x : ℕ). bit_at x i) is ∙ bit_at_ones width i within in
    omega (arith, e, one, bit_at_shr word low i, bit_at-lt word (low + i))

pub low_bits_above : (word low width ones i : ℕ) → ones ≡ 2 ^ width - 1 → width ≤ i → bit_at (bit_and (word / 2 ^ low) ones) i ≡ 0
low_bits_above word low width ones i is past =
    let e = bit_at_and (word / 2 ^ low) ones i in
    let none : bit_at ones i ≡ 0 = ap (λ (x : ℕ). bit_at x i) is ∙ bit_at_ones_above width i past in
    omega (arith, e, none)
