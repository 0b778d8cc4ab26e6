-- The tables after a sweep: those after the lost blocks were dropped one after the other.
use Rattle.std.proofs.Common.{ℕ, zero, suc, ◌+◌, ◌-◌, ◌<◌, ◌≤◌, ◌≡◌, ◌⊎◌, ◌||◌, ◌&&◌, Bool, true, false, not, List, [], ◌∷◌, length, Contains, sym, ap, ◌∙◌, inl, inr, arith}
use Rattle.std.specs.Prelude.{if◌then◌else◌}
use Rattle.std.proofs.lemmas.Bool.{cases_lt, cases_Bool, both_ways, false_from_ne_true, false≢true, cond-true, cond-false, and_parts, and_from, and_left, and_right, or_cases, or_left, or_right, not-true, not_from_false}
use Rattle.mps_base.specs.Run.{Run, end_of, IsAscending}
use Rattle.mps_base.proofs.Runs.{contains_cases, contained_bounds}
use Rattle.mps_bits.specs.Table.{bit}
use Rattle.mps_bits.specs.OpenRuns.{goes_on, in_run, is_set_from, is_set_unless, AreRunsApart}
use Rattle.mps_extents.specs.Extents.{has_word, AreWhole}
use Rattle.mps_extents.specs.Inside.{length_at, either, extents, AreSoundTables}
use Rattle.mps_extents.specs.Lost.{lost_runs}
use Rattle.mps_extents.proofs.WrittenBits.{same_bits}
use Rattle.mps_extents.proofs.ApartRuns.{has_word-true, has_word-parts, has_word-below, has_word-above, apart_each}
use Rattle.mps_extents.proofs.ExtentBits.{extent_at, begin_of, among_all}
use Rattle.mps_extents.proofs.ExtentLengths.{last_of}
use Rattle.mps_extents.proofs.Tally.{blocks_ascend}
use Rattle.mps_extents.proofs.LostRuns.{lost_member, lost_has}
use Rattle.mps_extents.proofs.Dropping.{without_bits, without_words, AreWithin, length-without_bits, bit_left, bit_gone, length-without_words, word_left, word_gone}

-- ---- a run goes on from where it began

record IsOpen (begins ends : ℕ → Bool) (n : ℕ) : Type 0 where
  at : ℕ
  before : at < n
  begun : begins at ≡ true
  unended : (j : ℕ) → at ≤ j → j < n → ends j ≡ false

goes_on_from : (begins ends : ℕ → Bool) (n : ℕ) → goes_on false begins ends n ≡ true → IsOpen begins ends n
unfolding goes_on
goes_on_from begins ends zero goes = absurd (false≢true goes)
goes_on_from begins ends (suc n) goes =
    let parts = and_parts (begins n || goes_on false begins ends n) (not (ends n)) goes in
    let open_here : ends n ≡ false = not-true (ends n) parts.1 in
    elim (or_cases (begins n) (goes_on false begins ends n) parts.0) [
      | inl here ↦ record {
        at = n;
        before = omega arith;
        begun = here;
        unended = λ j above below. let same : j ≡ n = omega arith in ap ends same ∙ open_here;
      }
      | inr earlier ↦
          let o = goes_on_from begins ends n earlier in
          record {
            at = o.at;
            before = omega (arith, o.before);
            begun = o.begun;
            unended = λ j above below. elim (cases_lt j n) [
              | inl under ↦ o.unended j above under
              | inr last ↦ let same : j ≡ n = omega arith in ap ends same ∙ open_here
            ];
          }
    ]

goes_on_to : (begins ends : ℕ → Bool) (n at : ℕ) → at < n → begins at ≡ true → ((j : ℕ) → at ≤ j → j < n → ends j ≡ false)
    → goes_on false begins ends n ≡ true
unfolding goes_on
goes_on_to begins ends zero at before begun unended = absurd (omega arith)
goes_on_to begins ends (suc n) at before begun unended =
    let open_here : not (ends n) ≡ true = not_from_false (ends n) (unended n (omega arith) (omega arith)) in
    and_from (begins n || goes_on false begins ends n) (not (ends n))
    (elim (cases_lt at n) [
      | inl earlier ↦
          or_right (begins n) (goes_on false begins ends n)
          (goes_on_to begins ends n at earlier begun (λ j above below. unended j above (omega arith)))
      | inr here ↦
          let same : at ≡ n = omega arith in
          or_left (begins n) (goes_on false begins ends n) (ap begins (sym same) ∙ begun)
    ])
    open_here

-- a whole run that begins within two bounds ends within them
pub whole_end : (low high : ℕ) (rs : List Run) (r : Run) → AreWhole low high rs → Contains rs r → low ≤ r.from → r.from < high → end_of
    r ≤ high
whole_end low high [] r whole (k, within, is) above below = absurd (omega arith)
whole_end low high (s ∷ rs) r whole there above below =
    elim (contains_cases rs r s there) [
      | inl same ↦
          let from : s.from ≡ r.from = ap (λ (x : Run). x.from) same in
          let end : end_of s ≡ end_of r = ap (λ (x : Run). end_of x) same in
          omega (arith, end, whole.0.0 (omega (arith, from)) (omega (arith, from)))
      | inr later ↦ whole_end low high rs r whole.1 later above below
    ]

module _
    (covered opens ends blocks kept : List Bool) (low high : ℕ) (sound : AreSoundTables covered (either opens blocks) ends blocks)
    (ordered : low ≤ high) (within : high ≤ length blocks) (whole : AreWhole low high (extents (either opens blocks) ends))
  where
    ascends : IsAscending 0 (length (either opens blocks)) (extents blocks ends)
    ascends = blocks_ascend covered (either opens blocks) ends blocks sound

    -- a lost block begins at an index
    record BeginsThere (n : ℕ) : Type 0 where
      block : bit blocks (low + n) ≡ true
      white : bit kept (low + n) ≡ false

    begins_there : (n : ℕ) → is_set_unless blocks kept low n ≡ true → BeginsThere n
    begins_there n is =
        let parts = and_parts (bit blocks (low + n)) (not (bit kept (low + n))) is in
        record { block = parts.0; white = not-true (bit kept (low + n)) parts.1 }

    -- the block that begins at one index has another where no block ends between them
    reaches : (m n : ℕ) → m ≤ n → bit blocks (low + m) ≡ true → ((j : ℕ) → m ≤ j → j < n → is_set_from ends low j ≡ false)
        → has_word (record { from = low + m; count = length_at ends (low + m) }) (low + n) ≡ true
    reaches m n upto block unended =
        let at = low + m in
        let r : Run = record { from = at; count = length_at ends at } in
        let some = (contained_bounds 0 (length (either opens blocks)) (extents blocks ends) r ascends (extent_at blocks ends at block)).1 in
        let last = last_of ends at some in
        elim (cases_lt (low + n) (end_of r)) [
          | inl inside ↦ has_word-true r (low + n) (omega arith) inside
          | inr past ↦
              let j = at + length_at ends at - 1 - low in
              let place : low + j ≡ at + length_at ends at - 1 = omega (arith, some) in
              absurd (both_ways (bit ends (low + j)) (unended j (omega (arith, some)) (omega (arith, some, past)))
              (ap (λ (k : ℕ). bit ends k) place ∙ last.passes))
        ]

    pub apart_runs : AreRunsApart false (is_set_unless blocks kept low) (is_set_from ends low) (high - low)
    apart_runs n below is =
        false_from_ne_true (goes_on false (is_set_unless blocks kept low) (is_set_from ends low) n) (λ goes.
        let o = goes_on_from (is_set_unless blocks kept low) (is_set_from ends low) n goes in
        let first = begins_there o.at o.begun in
        let here = begins_there n is in
        let before = o.before in
        let r : Run = record { from = low + o.at; count = length_at ends (low + o.at) } in
        let s : Run = record { from = low + n; count = length_at ends (low + n) } in
        let parts = has_word-parts r (low + n) (reaches o.at n (omega (arith, before)) first.block o.unended) in
        elim (apart_each 0 (length (either opens blocks)) (extents blocks ends) r s ascends (extent_at blocks ends (low + o.at) first.block)
        (extent_at blocks ends (low + n) here.block)) [
          | inl same ↦ omega (arith, same, before)
          | inr apart ↦ elim apart [ inl after ↦ omega (arith, after, parts.1) | inr ahead ↦ omega (arith, ahead, before) ]
        ])

    -- what is known of a lost run
    record IsLostRun (r : Run) : Type 0 where
      above : low ≤ r.from
      below : r.from < high
      ends_below : end_of r ≤ high
      block : bit blocks r.from ≡ true
      white : bit kept r.from ≡ false
      count : r.count ≡ length_at ends r.from
      some : 0 < r.count
      inside : end_of r ≤ length covered

    lost_run : (r : Run) → Contains (lost_runs low high kept (extents blocks ends)) r → IsLostRun r
    lost_run r there =
        let is = lost_member low high kept (extents blocks ends) r there in
        let b = begin_of blocks ends r is.there in
        let bounds = contained_bounds 0 (length (either opens blocks)) (extents blocks ends) r ascends is.there in
        record {
          above = is.above;
          below = is.below;
          ends_below =
              whole_end low high (extents (either opens blocks) ends) r whole
              (among_all (either opens blocks) blocks ends r sound.blocks_begin is.there) is.above is.below;
          block = b.0;
          white = is.lost;
          count = b.1;
          some = bounds.1;
          inside = omega (arith, bounds.2, sound.same_size.0);
        }

    all_within : AreWithin (lost_runs low high kept (extents blocks ends)) (length covered)
    all_within r there = (lost_run r there).inside

    -- an index lies in a run where a lost block has the word
    in_run_of : (n : ℕ) (r : Run) → Contains (lost_runs low high kept (extents blocks ends)) r → has_word r (low + n) ≡ true
        → in_run false (is_set_unless blocks kept low) (is_set_from ends low) n ≡ true
    in_run_of n r there has =
        let is = lost_run r there in
        let parts = has_word-parts r (low + n) has in
        let m = r.from - low in
        let above = is.above in
        let place : low + m ≡ r.from = omega (arith, above) in
        let last = last_of ends r.from (omega (arith, is.some, is.count)) in
        let begun : is_set_unless blocks kept low m ≡ true =
        and_from (bit blocks (low + m)) (not (bit kept (low + m))) (ap (λ (k : ℕ). bit blocks k) place ∙ is.block)
        (not_from_false (bit kept (low + m)) (ap (λ (k : ℕ). bit kept k) place ∙ is.white))
        in
        elim (cases_lt m n) [
          | inl earlier ↦
              or_right (is_set_unless blocks kept low n) (goes_on false (is_set_unless blocks kept low) (is_set_from ends low) n)
              (goes_on_to (is_set_unless blocks kept low) (is_set_from ends low) n m earlier begun (λ j above' below.
              last.lower (low + j) (omega (arith, place)) (omega (arith, parts.1, is.count))))
          | inr here ↦
              let same : m ≡ n = omega (arith, parts.0, place) in
              or_left (is_set_unless blocks kept low n) (goes_on false (is_set_unless blocks kept low) (is_set_from ends low) n)
              (ap (is_set_unless blocks kept low) (sym same) ∙ begun)
        ]

    record LostOver (n : ℕ) : Type 0 where
      run : Run
      there : Contains (lost_runs low high kept (extents blocks ends)) run
      has : has_word run (low + n) ≡ true

    lost_at : (m : ℕ) → low + m < high → BeginsThere m
        → Contains (lost_runs low high kept (extents blocks ends)) (record { from = low + m; count = length_at ends (low + m) })
    lost_at m below is =
        lost_has low high kept (extents blocks ends) (record { from = low + m; count = length_at ends (low + m) })
        (record { there = extent_at blocks ends (low + m) is.block; above = omega arith; below = below; lost = is.white })

    lost_over : (n : ℕ) → low + n < high → in_run false (is_set_unless blocks kept low) (is_set_from ends low) n ≡ true → LostOver n
    lost_over n below inside =
        elim (or_cases (is_set_unless blocks kept low n) (goes_on false (is_set_unless blocks kept low) (is_set_from ends low) n) inside) [
          | inl here ↦
              let is = begins_there n here in
              record {
                run = record { from = low + n; count = length_at ends (low + n) };
                there = lost_at n below is;
                has = reaches n n (omega arith) is.block (λ j above under. absurd (omega arith));
              }
          | inr goes ↦
              let o = goes_on_from (is_set_unless blocks kept low) (is_set_from ends low) n goes in
              let is = begins_there o.at o.begun in
              record {
                run = record { from = low + o.at; count = length_at ends (low + o.at) };
                there = lost_at o.at (omega (arith, o.before)) is;
                has = reaches o.at n (omega (arith, o.before)) is.block o.unended;
              }
        ]

    pub new_covered : (new : List Bool) → length new ≡ length covered
        → ((n : ℕ) → n < high - low → bit new (low + n)
        ≡ (if in_run false (is_set_unless blocks kept low) (is_set_from ends low) n then false else bit covered (low + n)))
        → ((i : ℕ) → (i < low) ⊎ (high ≤ i) → bit new i ≡ bit covered i)
        → new ≡ without_words (lost_runs low high kept (extents blocks ends)) covered
    new_covered new size inside outside =
        let rs = lost_runs low high kept (extents blocks ends) in
        same_bits new (without_words rs covered) (size ∙ sym (length-without_words rs covered all_within)) (λ i h.
        elim (cases_lt i low) [
          | inl before ↦
              outside i (inl before)
              ∙ sym (word_left rs covered i all_within
              (λ r there. has_word-below r i (omega (arith, before, (lost_run r there).above))))
          | inr from ↦ elim (cases_lt i high) [
            | inr past ↦
                outside i (inr past)
                ∙ sym (word_left rs covered i all_within
                (λ r there. has_word-above r i (omega (arith, past, (lost_run r there).ends_below))))
            | inl under ↦
                let n = i - low in
                let place : low + n ≡ i = omega arith in
                let b = in_run false (is_set_unless blocks kept low) (is_set_from ends low) n in
                let written = ap (λ (k : ℕ). bit new k) (sym place) ∙ inside n (omega arith) in
                elim (cases_Bool (in_run false (is_set_unless blocks kept low) (is_set_from ends low) n)) [
                  | inl passes ↦
                      let over = lost_over n (omega (arith, under, place)) passes in
                      written ∙ cond-true b false (bit covered (low + n)) passes
                      ∙ sym (word_gone rs covered i over.run all_within over.there
                      (ap (λ (k : ℕ). has_word over.run k) (sym place) ∙ over.has))
                  | inr fails ↦
                      written ∙ cond-false b false (bit covered (low + n)) fails ∙ ap (λ (k : ℕ). bit covered k) place
                      ∙ sym (word_left rs covered i all_within (λ r there.
                      false_from_ne_true (has_word r i) (λ has.
                      both_ways (in_run false (is_set_unless blocks kept low) (is_set_from ends low) n) fails
                      (in_run_of n r there (ap (λ (k : ℕ). has_word r k) place ∙ has)))))
                ]
          ]
        ])

    pub new_blocks : (new : List Bool) → length new ≡ length blocks
        → ((i : ℕ) → low ≤ i → i < high → bit new i ≡ (bit blocks i && bit kept i))
        → ((i : ℕ) → (i < low) ⊎ (high ≤ i) → bit new i ≡ bit blocks i)
        → new ≡ without_bits (lost_runs low high kept (extents blocks ends)) blocks
    new_blocks new size inside outside =
        let rs = lost_runs low high kept (extents blocks ends) in
        same_bits new (without_bits rs blocks) (size ∙ sym (length-without_bits rs blocks)) (λ i h.
        elim (cases_lt i low) [
          | inl before ↦
              outside i (inl before)
              ∙ sym (bit_left rs blocks i (λ r there e. omega (arith, e, before, (lost_run r there).above)))
          | inr from ↦ elim (cases_lt i high) [
            | inr past ↦
                outside i (inr past) ∙ sym (bit_left rs blocks i (λ r there e. omega (arith, e, past, (lost_run r there).below)))
            | inl under ↦ elim (cases_Bool (bit blocks i)) [
              | inr none ↦
                  inside i from under ∙ and_left (bit blocks i) (bit kept i) none
                  ∙ sym (bit_left rs blocks i (λ r there e.
                  both_ways (bit blocks i) none (ap (λ (k : ℕ). bit blocks k) (sym e) ∙ (lost_run r there).block)) ∙ none)
              | inl block ↦ elim (cases_Bool (bit kept i)) [
                | inl stays ↦
                    inside i from under ∙ and_from (bit blocks i) (bit kept i) block stays
                    ∙ sym (bit_left rs blocks i (λ r there e.
                    both_ways (bit kept i) (ap (λ (k : ℕ). bit kept k) (sym e) ∙ (lost_run r there).white) stays) ∙ block)
                | inr white ↦
                    let n = i - low in
                    let place : low + n ≡ i = omega arith in
                    let is : BeginsThere n = record {
                      block = ap (λ (k : ℕ). bit blocks k) place ∙ block;
                      white = ap (λ (k : ℕ). bit kept k) place ∙ white;
                    } in
                    inside i from under ∙ and_right (bit blocks i) (bit kept i) white
                    ∙ sym (bit_gone rs blocks i (record { from = low + n; count = length_at ends (low + n) })
                    (lost_at n (omega (arith, under, place)) is) place (omega (arith, under, within)))
              ]
            ]
          ]
        ])
