-- An extent taken out of the tables: a reservation, or a block.
use Rattle.std.proofs.Common.{ℕ, ◌+◌, ◌-◌, ◌^◌, ◌<◌, ◌≤◌, ◌≡◌, ◌≢◌, ◌⊎◌, ◌&&◌, Bool, true, false, not, Some, List, length, set, Contains, refl, sym, ap, ◌∙◌, subst, inl, inr, arith, length-set}
use Rattle.std.proofs.lemmas.Bool.{cases_lt, cases_eq, both_ways, and_right}
use Rattle.mps_base.specs.Run.{Run, end_of, IsAscending, without_run}
use Rattle.mps_base.proofs.Runs.{contained_bounds, IsAscending-without_run}
use Rattle.mps_bits.specs.Table.{bit, with_range, next_set}
use Rattle.mps_bits.proofs.Ranges.{length-with_range}
use Rattle.mps_extents.specs.Extents.{ExtentLists, has_word, is_covered}
use Rattle.mps_extents.specs.declared.extents.Extents.TheInside.{Inside}
use Rattle.mps_extents.specs.Inside.{minus, extents, lists_of, AreSoundTables}
use Rattle.mps_extents.proofs.WrittenBits.{bit-set_same, bit-set_other, bit_within, bit-with_range_inside, bit-with_range_outside, minus_is_begin, length-minus, bit-minus, minus_less, minus_same}
use Rattle.mps_extents.proofs.ExtentBits.{begin_of, among_all, SameLengths, no_change, extents_kept, extents_taken, others_stay, IsReservation, is_reservation, lists}
use Rattle.mps_extents.proofs.EitherBits.{length-either, begins_of}
use Rattle.mps_extents.proofs.ExtentLengths.{IsLastWord, next_last, last_of}
use Rattle.mps_extents.proofs.ApartRuns.{has_word-true, has_word-below, has_word-above, uncovered_taken, covered_taken_other}

pub record Taken (covered begins ends blocks : List Bool) (r : Run) : Type 0 where
  pub sound : AreSoundTables covered begins ends blocks
  pub there : Contains (extents begins ends) r

abbrev pub last_word : Run → ℕ
last_word r = r.from + r.count - 1

module _ (covered begins ends blocks : List Bool) (r : Run) (taken : Taken covered begins ends blocks r) where
  abbrev pub old : List Run
  old = extents begins ends

  abbrev pub last : ℕ
  last = last_word r

  abbrev pub covered' : List Bool
  covered' = with_range covered r.from (end_of r) false

  abbrev pub begins' : List Bool
  begins' = set begins r.from false

  abbrev pub blocks' : List Bool
  blocks' = set blocks r.from false

  pub taken_bounds : (0 < r.count) × (end_of r ≤ length begins)
  taken_bounds =
      let bounds = contained_bounds 0 (length begins) old r taken.sound.ascending taken.there in
      (bounds.1, bounds.2)

  pub taken_last : IsLastWord ends r.from last
  taken_last =
      let b = begin_of begins ends r taken.there in
      let bounds = taken_bounds in
      let P : ℕ → Type 0 = λ n. IsLastWord ends r.from (r.from + n - 1) in
      subst P (sym b.1) (last_of ends r.from (omega (arith, b.1, bounds.0)))

  taken_same : SameLengths begins ends ends r.from
  taken_same = no_change begins ends r.from

  pub taken_extents : extents begins' ends ≡ without_run r.from old
  taken_extents =
      let b = begin_of begins ends r taken.there in
      extents_taken begins begins ends ends r.from taken_same (bit_within begins r.from b.0) b.0 (λ s is. is)

  pub taken_is_sound :
      (still : List Bool) → length still ≡ length blocks
      → ((word : ℕ) → bit still word ≡ true → (bit begins word ≡ true) × (word ≢ r.from))
      → AreSoundTables covered' begins' ends still
  taken_is_sound still size left =
      let sound = taken.sound in
      let bounds = taken_bounds in
      let some = bounds.0 in
      let begun = length-set begins r.from false in
      let room : end_of r ≤ length covered = omega (arith, bounds.0, bounds.1, sound.same_size.0) in
      let order : r.from ≤ end_of r = omega arith in
      let ranged = length-with_range covered r.from (end_of r) false order room in
      let now = taken_extents in
      let P : List Run → Type 0 = λ rs. IsAscending 0 (length begins) rs in
      let Q : ℕ → Type 0 = λ n. IsAscending 0 n (extents begins' ends) in
      let outside = λ (word : ℕ) (out : (word < r.from) ⊎ (end_of r ≤ word)) (other : has_word r word ≡ false).
      let here : bit covered' word ≡ is_covered (extents begins' ends) word =
      bit-with_range_outside covered r.from (end_of r) word false order room out ∙ sound.covered_is word
      ∙ sym (covered_taken_other 0 (length begins) old r word sound.ascending taken.there other)
      ∙ ap (λ (rs : List Run). is_covered rs word) (sym now)
      in here
      in
      record {
        same_size = (
          omega (arith, begun, ranged, sound.same_size.0),
          omega (arith, begun, sound.same_size.1),
          omega (arith, begun, size, sound.same_size.2),
        );
        small = omega (arith, begun, sound.small);
        ascending = subst Q (sym begun) (subst P (sym now) (IsAscending-without_run 0 (length begins) r.from old sound.ascending));
        covered_is = λ word. elim (cases_lt word r.from) [
          | inl before ↦ outside word (inl before) (has_word-below r word before)
          | inr above ↦ elim (cases_lt word (end_of r)) [
            | inl below ↦
                bit-with_range_inside covered r.from (end_of r) word false order room above (omega (arith, some))
                ∙ sym (uncovered_taken 0 (length begins) old r word sound.ascending taken.there (has_word-true r word above below))
                ∙ ap (λ (rs : List Run). is_covered rs word) (sym now)
            | inr past ↦ outside word (inr (omega (arith, some))) (has_word-above r word past)
          ]
        ];
        blocks_begin = λ word is.
            let was = left word is in
            bit-set_other begins r.from word false was.1 ∙ was.0;
      }

  -- the bits of the blocks that stay where a reservation is taken out, and where a block is
  pub others_than_reservation : bit blocks r.from ≡ false → (word : ℕ) → bit blocks word ≡ true
      → (bit begins word ≡ true) × (word ≢ r.from)
  others_than_reservation none word is =
      (taken.sound.blocks_begin word is, λ e. both_ways (bit blocks r.from) none (ap (λ (j : ℕ). bit blocks j) (sym e) ∙ is))

  pub others_than_block : bit blocks r.from ≡ true → (word : ℕ) → bit blocks' word ≡ true → (bit begins word ≡ true) × (word ≢ r.from)
  others_than_block block word is =
      elim (cases_eq word r.from) [
        | inl here ↦
            absurd (both_ways (bit blocks' r.from) (bit-set_same blocks r.from false (bit_within blocks r.from block))
            (ap (λ (j : ℕ). bit blocks' j) (sym here) ∙ is))
        | inr other ↦ (taken.sound.blocks_begin word (sym (bit-set_other blocks r.from word false other) ∙ is), other)
      ]

  pub uncover_lists :
      IsReservation begins ends blocks r
      → lists_of begins' ends blocks
      ≡ record (lists_of begins ends blocks)
      { covered = without_run r.from old; reservations = without_run r.from (extents (minus begins blocks) ends) }
  unfolding lists
  uncover_lists reserved =
      let within = bit_within begins r.from (begin_of begins ends r taken.there).0 in
      let same = taken_same in
      let kept = extents_kept begins blocks ends ends r.from same (others_than_reservation reserved.no_block) in
      let less : minus begins' blocks ≡ set (minus begins blocks) r.from false =
      minus_less begins begins' blocks blocks r.from within (length-set begins r.from false) (others_stay begins r.from false)
      (λ j other. refl)
      (ap (λ (b : Bool). b && not (bit blocks r.from)) (bit-set_same begins r.from false within))
      in
      let gone : extents (minus begins' blocks) ends ≡ without_run r.from (extents (minus begins blocks) ends) =
      ap (λ (bits : List Bool). extents bits ends) less
      ∙ extents_taken begins (minus begins blocks) ends ends r.from same (omega (arith, within, length-minus begins blocks))
      reserved.reserved
      (minus_is_begin begins blocks)
      in
      ap (λ (n : ℕ). lists n (extents begins' ends) (extents blocks ends) (extents (minus begins' blocks) ends))
      (length-set begins r.from false)
      ∙ ap (λ (rs : List Run). lists (length begins) rs (extents blocks ends) (extents (minus begins' blocks) ends)) taken_extents
      ∙ ap (λ (rs : List Run). lists (length begins) (without_run r.from old) rs (extents (minus begins' blocks) ends)) kept
      ∙ ap (λ (rs : List Run). lists (length begins) (without_run r.from old) (extents blocks ends) rs) gone

  pub drop_lists :
      bit blocks r.from ≡ true
      → lists_of begins' ends (set blocks r.from false)
      ≡ record (lists_of begins ends blocks) { covered = without_run r.from old; blocks = without_run r.from (extents blocks ends) }
  unfolding lists
  drop_lists block =
      let within = bit_within begins r.from (begin_of begins ends r taken.there).0 in
      let placed = bit_within blocks r.from block in
      let same = taken_same in
      let none_here = and_right (bit begins r.from) (not (bit blocks r.from)) (ap (λ (b : Bool). not b) block) in
      let none : bit (minus begins blocks) r.from ≡ false = bit-minus begins blocks r.from within ∙ none_here in
      let still : minus begins' blocks' ≡ minus begins blocks =
      minus_same begins begins' blocks blocks' r.from (length-set begins r.from false) (others_stay begins r.from false)
      (others_stay blocks r.from false)
      (ap (λ (b : Bool). b && not (bit blocks' r.from)) (bit-set_same begins r.from false within) ∙ sym none_here)
      in
      let kept : extents (minus begins' blocks') ends ≡ extents (minus begins blocks) ends =
      ap (λ (bits : List Bool). extents bits ends) still
      ∙ extents_kept begins (minus begins blocks) ends ends r.from same (λ s is. (
        minus_is_begin begins blocks s is,
        λ e. both_ways (bit (minus begins blocks) r.from) none (ap (λ (j : ℕ). bit (minus begins blocks) j) (sym e) ∙ is),
      ))
      in
      let gone = extents_taken begins blocks ends ends r.from same placed block taken.sound.blocks_begin in
      ap (λ (n : ℕ). lists n (extents begins' ends) (extents blocks' ends) (extents (minus begins' blocks') ends))
      (length-set begins r.from false)
      ∙ ap (λ (rs : List Run). lists (length begins) rs (extents blocks' ends) (extents (minus begins' blocks') ends)) taken_extents
      ∙ ap (λ (rs : List Run). lists (length begins) (without_run r.from old) rs (extents (minus begins' blocks') ends)) gone
      ∙ ap (λ (rs : List Run). lists (length begins) (without_run r.from old) (without_run r.from (extents blocks ends)) rs) kept

-- ---- what is known of the tables where an extent is taken out of them

pub record TakenFits (t : Inside) (at words : ℕ) : Type 0 where
  pub taken : Taken t.covered (begins_of t) t.ends t.blocks (record { from = at; count = words })
  pub nonzero : 0 < words
  pub in_covered : at + words ≤ length t.covered
  pub in_opens : at + words ≤ length t.opens
  pub in_ends : at + words ≤ length t.ends
  pub in_blocks : at + words ≤ length t.blocks
  pub at_most : at + words < 2 ^ 32
  pub last_is : next_set t.ends at ≡ Some (at + words - 1)

taken_fits : (t : Inside) (at words : ℕ) → Taken t.covered (begins_of t) t.ends t.blocks (record { from = at; count = words })
    → TakenFits t at words
taken_fits t at words taken =
    let r : Run = record { from = at; count = words } in
    let sound = taken.sound in
    let bounds = taken_bounds t.covered (begins_of t) t.ends t.blocks r taken in
    record {
      taken = taken;
      nonzero = bounds.0;
      in_covered = omega (arith, bounds.1, sound.same_size.0);
      in_opens = omega (arith, bounds.1, length-either t.opens t.blocks);
      in_ends = omega (arith, bounds.1, sound.same_size.1);
      in_blocks = omega (arith, bounds.1, sound.same_size.2);
      at_most = omega (arith, bounds.1, sound.small);
      last_is = next_last t.ends at (last_word r) (taken_last t.covered (begins_of t) t.ends t.blocks r taken);
    }

pub record ReservationFits (t : Inside) (at words : ℕ) : Type 0 where
  pub fits : TakenFits t at words
  pub reserved : IsReservation (begins_of t) t.ends t.blocks (record { from = at; count = words })

pub reservation_fits : (t : Inside) (seen : ExtentLists) (at words : ℕ) → AreSoundTables t.covered (begins_of t) t.ends t.blocks
    → lists_of (begins_of t) t.ends t.blocks ≡ seen → Contains seen.reservations (record { from = at; count = words })
    → ReservationFits t at words
reservation_fits t seen at words sound is listed =
    let r : Run = record { from = at; count = words } in
    let P : ExtentLists → Type 0 = λ e. Contains e.reservations r in
    let reserved = is_reservation (begins_of t) t.ends t.blocks r (subst P (sym is) listed) in
    record { fits = taken_fits t at words (record { sound = sound; there = reserved.there }); reserved = reserved }

pub record BlockFits (t : Inside) (at words : ℕ) : Type 0 where
  pub fits : TakenFits t at words
  pub block : bit t.blocks at ≡ true

pub block_fits : (t : Inside) (seen : ExtentLists) (at words : ℕ) → AreSoundTables t.covered (begins_of t) t.ends t.blocks
    → lists_of (begins_of t) t.ends t.blocks ≡ seen → Contains seen.blocks (record { from = at; count = words }) → BlockFits t at words
block_fits t seen at words sound is listed =
    let r : Run = record { from = at; count = words } in
    let P : ExtentLists → Type 0 = λ e. Contains e.blocks r in
    let there = subst P (sym is) listed in
    record {
      fits = taken_fits t at words (record { sound = sound; there = among_all (begins_of t) t.blocks t.ends r sound.blocks_begin there });
      block = (begin_of t.blocks t.ends r there).0;
    }
