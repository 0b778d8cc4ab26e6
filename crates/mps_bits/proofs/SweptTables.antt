-- Tables of which runs or other bits were cleared.
use Rattle.std.proofs.Common.{ℕ, zero, suc, ◌+◌, ◌-◌, ◌<◌, ◌≤◌, ◌≡◌, ◌||◌, ◌&&◌, Bool, true, false, not, eqb, min, List, length, sym, ap, ◌∙◌, inl, inr, refl, arith}
use Rattle.std.specs.List.{count_by}
use Rattle.std.specs.Prelude.{if◌then◌else◌}
use Rattle.std.proofs.lemmas.Bool.{cases_lt}
use Rattle.std.proofs.lemmas.List.{get_or_past}
use Rattle.mps_bits.specs.Row.{bit_in, sum_over}
use Rattle.mps_bits.specs.Table.{table_of, bit}
use Rattle.mps_bits.specs.OpenRuns.{goes_on, in_run, is_one_in, is_one_unless, is_set_from, is_set_unless, AreRunsApart}
use Rattle.mps_bits.proofs.Row.{bit_in-lt}
use Rattle.mps_bits.proofs.Tables.{length-table_of, length_of_table, bit-table_of, bit_of_table, count_of_table}
use Rattle.mps_bits.proofs.Adding.{goes_on_same}

-- a bit past the end
bit_beyond : (bits : List Bool) (i : ℕ) → length bits ≤ i → bit bits i ≡ false
unfolding bit
bit_beyond bits i past = get_or_past bits i false past

-- what a table shows of two words is what both tables show
pub unless_is : (words : List ℕ) (len : ℕ) (bits : List Bool) (words' : List ℕ) (len' : ℕ) (bits' : List Bool)
    → table_of words len ≡ bits → table_of words' len' ≡ bits' → (from i : ℕ) → from + i < len → from + i < len'
    → is_one_unless words words' from i ≡ is_set_unless bits bits' from i
unless_is words len bits words' len' bits' is is' from i within within' =
    ap (λ (b : Bool). b && not (eqb (bit_in words' (from + i)) 1)) (bit_of_table words len bits (from + i) is within)
    ∙ ap (λ (b : Bool). bit bits (from + i) && not b) (bit_of_table words' len' bits' (from + i) is' within')

-- ---- a table after some of its words were written

module _
    (old new : List ℕ) (len : ℕ) (bits : List Bool) (is : table_of old len ≡ bits)
  where
    pub same_length : length (table_of new len) ≡ length bits
    same_length = length-table_of new len ∙ sym (length_of_table old len bits is)

    pub bit_unwritten : (i : ℕ) → bit_in new i ≡ bit_in old i → bit (table_of new len) i ≡ bit bits i
    bit_unwritten i same =
        elim (cases_lt i len) [
          | inl within ↦
              bit-table_of new len i within ∙ ap (λ (x : ℕ). eqb x 1) same ∙ bit_of_table old len bits i is within
          | inr past ↦
              bit_beyond (table_of new len) i (omega (arith, length-table_of new len, past))
              ∙ sym (bit_beyond bits i (omega (arith, length_of_table old len bits is, past)))
        ]

    pub counted_fewer : (count : ℕ) → sum_over (bit_in new) 0 len + count ≡ sum_over (bit_in old) 0 len
        → count_by (λ b. b) (table_of new len) + count ≡ count_by (λ b. b) bits
    counted_fewer count sums =
        omega (arith, count_of_table new len, count_of_table old len, sums, ap (λ (bs : List Bool). count_by (λ b. b) bs) is)

    pub bit_of_both : (words' : List ℕ) (len' : ℕ) (bits' : List Bool) → table_of words' len' ≡ bits' → (i : ℕ) → i < len → i < len'
        → bit_in new i ≡ min (bit_in old i) (bit_in words' i) → bit (table_of new len) i ≡ (bit bits i && bit bits' i)
    bit_of_both words' len' bits' is' i within within' both =
        bit-table_of new len i within ∙ ap (λ (x : ℕ). eqb x 1) both
        ∙ one_of_both (bit_in old i) (bit_in words' i) (bit_in-lt old i) (bit_in-lt words' i)
        ∙ ap (λ (b : Bool). b && eqb (bit_in words' i) 1) (bit_of_table old len bits i is within)
        ∙ ap (λ (b : Bool). bit bits i && b) (bit_of_table words' len' bits' i is' within')
      where
        one_of_both : (a b : ℕ) → a < 2 → b < 2 → eqb (min a b) 1 ≡ (eqb a 1 && eqb b 1)
        one_of_both zero zero few few' = refl
        one_of_both zero (suc zero) few few' = refl
        one_of_both (suc zero) zero few few' = refl
        one_of_both (suc zero) (suc zero) few few' = refl
        one_of_both (suc (suc a)) b few few' = absurd (omega (arith, few))
        one_of_both a (suc (suc b)) few few' = absurd (omega (arith, few'))

    pub bit_cleared_where : (b : Bool) (i : ℕ) → i < len → bit_in new i ≡ (if b then 0 else bit_in old i)
        → bit (table_of new len) i ≡ (if b then false else bit bits i)
    bit_cleared_where b i within written =
        bit-table_of new len i within ∙ ap (λ (x : ℕ). eqb x 1) written
        ∙ tested b (bit_in old i)
        ∙ ap (λ (x : Bool). if b then false else x) (bit_of_table old len bits i is within)
      where
        tested : (b : Bool) (x : ℕ) → eqb (if b then 0 else x) 1 ≡ (if b then false else eqb x 1)
        tested true x = refl
        tested false x = refl

-- ---- runs by tables and by words

module _
    (begins : List ℕ) (size : ℕ) (begins' : List Bool) (others : List ℕ) (size' : ℕ) (others' : List Bool) (ends : List ℕ)
    (size'' : ℕ) (ends' : List Bool) (begins_are : table_of begins size ≡ begins') (others_are : table_of others size' ≡ others')
    (ends_are : table_of ends size'' ≡ ends') (from to : ℕ) (within : to ≤ size) (within' : to ≤ size') (within'' : to ≤ size'')
  where
    begins_at : (i : ℕ) → i < to - from → is_one_unless begins others from i ≡ is_set_unless begins' others' from i
    begins_at i below =
        unless_is begins size begins' others size' others' begins_are others_are from i (omega arith) (omega arith)

    ends_at : (i : ℕ) → i < to - from → is_one_in ends from i ≡ is_set_from ends' from i
    ends_at i below = bit_of_table ends size'' ends' (from + i) ends_are (omega arith)

    goes_at : (n : ℕ) → n ≤ to - from
        → goes_on false (is_one_unless begins others from) (is_one_in ends from) n
        ≡ goes_on false (is_set_unless begins' others' from) (is_set_from ends' from) n
    goes_at n upto =
        goes_on_same false (is_one_unless begins others from) (is_set_unless begins' others' from) (is_one_in ends from)
        (is_set_from ends' from) n (λ i below. begins_at i (omega arith)) (λ i below. ends_at i (omega arith))

    pub apart_by_words : AreRunsApart false (is_set_unless begins' others' from) (is_set_from ends' from) (to - from)
        → AreRunsApart false (is_one_unless begins others from) (is_one_in ends from) (to - from)
    apart_by_words apart i below is = goes_at i (omega arith) ∙ apart i below (sym (begins_at i below) ∙ is)

    pub in_run_by_words : (n : ℕ) → n < to - from
        → in_run false (is_one_unless begins others from) (is_one_in ends from) n
        ≡ in_run false (is_set_unless begins' others' from) (is_set_from ends' from) n
    in_run_by_words n below =
        ap (λ (b : Bool). b || goes_on false (is_one_unless begins others from) (is_one_in ends from) n) (begins_at n below)
        ∙ ap (λ (b : Bool). is_set_unless begins' others' from n || b) (goes_at n (omega arith))
