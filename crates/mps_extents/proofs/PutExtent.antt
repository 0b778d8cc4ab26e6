-- An extent put where no word is covered: a reservation, or a block.
use Rattle.std.proofs.Common.{ℕ, ◌+◌, ◌-◌, ◌^◌, ◌<◌, ◌≤◌, ◌≡◌, ◌≢◌, ◌⊎◌, Bool, true, false, not, List, [], ◌∷◌, length, set, Contains, refl, sym, ap, ◌∙◌, subst, inl, inr, arith, length-set}
use Rattle.std.proofs.lemmas.Bool.{cases_lt, cases_eq, both_ways, false_from_ne_true, and_right}
use Rattle.mps_base.specs.Run.{Run, IsAscending, with_run, without_run}
use Rattle.mps_base.proofs.Runs.{with_run_first, with_run_later, without_run_first, without_run_later, contains_first, contains_later, contained_bounds}
use Rattle.mps_bits.specs.Table.{bit, with_range}
use Rattle.mps_bits.proofs.Ranges.{length-with_range}
use Rattle.mps_extents.specs.Extents.{ExtentLists, has_word, is_covered}
use Rattle.mps_extents.specs.declared.extents.Extents.TheInside.{Inside}
use Rattle.mps_extents.specs.Inside.{length_at, minus, extents, lists_of, AreSoundTables}
use Rattle.mps_extents.proofs.WrittenBits.{bit-set_same, bit-set_other, bit_within, bit-with_range_inside, bit-with_range_outside, minus_is_begin, length-minus, minus-set_first, minus_less}
use Rattle.mps_extents.proofs.ExtentBits.{extent_at, begin_of, SameLengths, no_change, extents_kept, extents_put, extents_taken, others_stay, IsReservation, is_reservation, lists}
use Rattle.mps_extents.proofs.EitherBits.{length-either, begins_of}
use Rattle.mps_extents.proofs.ExtentLengths.{IsLastWord, length_at_is, length_kept}
use Rattle.mps_extents.proofs.ApartRuns.{has_word-true, has_word-below, has_word-above, contains_put, apart_from_put, covers_contained, uncovered_by_put, covered_put_has, covered_put_other}

pub record Put (covered begins ends blocks : List Bool) (at words : ℕ) : Type 0 where
  pub sound : AreSoundTables covered begins ends blocks
  pub nonzero : 0 < words
  pub free : IsAscending 0 (length begins) (with_run (record { from = at; count = words }) (extents begins ends))

-- ---- a reservation that becomes a block

module _
    (covered begins ends blocks : List Bool) (r : Run) (sound : AreSoundTables covered begins ends blocks)
    (reserved : IsReservation begins ends blocks r)
  where
    abbrev pub committed' : List Bool
    committed' = set blocks r.from true

    pub commit_lists :
        lists_of begins ends committed'
        ≡ record (lists_of begins ends blocks) {
          blocks = with_run r (extents blocks ends);
          reservations = without_run r.from (extents (minus begins blocks) ends);
        }
    unfolding lists
    commit_lists =
        let b = begin_of begins ends r reserved.there in
        let within = bit_within begins r.from b.0 in
        let placed : r.from < length blocks = omega (arith, within, sound.same_size.2) in
        let same = no_change begins ends r.from in
        let put : extents committed' ends ≡ with_run r (extents blocks ends) =
        extents_put begins blocks ends ends r.from r.count same (sym b.1) placed reserved.no_block sound.blocks_begin
        in
        let less : minus begins committed' ≡ set (minus begins blocks) r.from false =
        minus_less begins begins blocks committed' r.from within refl (λ j other. refl) (others_stay blocks r.from true)
        (and_right (bit begins r.from) (not (bit committed' r.from)) (ap (λ (x : Bool). not x) (bit-set_same blocks r.from true placed)))
        in
        let gone : extents (minus begins committed') ends ≡ without_run r.from (extents (minus begins blocks) ends) =
        ap (λ (bits : List Bool). extents bits ends) less
        ∙ extents_taken begins (minus begins blocks) ends ends r.from same (omega (arith, within, length-minus begins blocks))
        reserved.reserved (minus_is_begin begins blocks)
        in
        ap (λ (rs : List Run). lists (length begins) (extents begins ends) rs (extents (minus begins committed') ends)) put
        ∙ ap (λ (rs : List Run). lists (length begins) (extents begins ends) (with_run r (extents blocks ends)) rs) gone

    pub commit_is_sound : AreSoundTables covered begins ends committed'
    commit_is_sound =
        let b = begin_of begins ends r reserved.there in
        record {
          same_size = (sound.same_size.0, sound.same_size.1, length-set blocks r.from true ∙ sound.same_size.2);
          small = sound.small;
          ascending = sound.ascending;
          covered_is = sound.covered_is;
          blocks_begin = λ word is. elim (cases_eq word r.from) [
            | inl here ↦ ap (λ (j : ℕ). bit begins j) here ∙ b.0
            | inr other ↦ sound.blocks_begin word (sym (bit-set_other blocks r.from word true other) ∙ is)
          ];
        }

-- a run that is put among others and taken out again, where no other begins there
put_and_taken : (r : Run) (rs : List Run) → ((s : Run) → Contains rs s → s.from ≢ r.from) → without_run r.from (with_run r rs) ≡ rs
put_and_taken r [] other = without_run_first r.from r [] refl
put_and_taken r (s ∷ rs) other =
    elim (cases_lt r.from s.from) [
      | inl before ↦ ap (λ (xs : List Run). without_run r.from xs) (with_run_first r s rs before)
          ∙ without_run_first r.from r (s ∷ rs) refl
      | inr after ↦
          ap (λ (xs : List Run). without_run r.from xs) (with_run_later r s rs after)
          ∙ without_run_later r.from s (with_run r rs) (λ e. other s (contains_first rs s) (sym e))
          ∙ ap (λ (xs : List Run). s ∷ xs) (put_and_taken r rs (λ t there. other t (contains_later rs t s there)))
    ]

-- ---- the tables after an extent is put

module _ (covered begins ends blocks : List Bool) (at words : ℕ) (put : Put covered begins ends blocks at words) where
  abbrev pub new : Run
  new = record { from = at; count = words }

  abbrev pub old : List Run
  old = extents begins ends

  abbrev pub last : ℕ
  last = at + words - 1

  abbrev pub covered' : List Bool
  covered' = with_range covered at (at + words) true

  abbrev pub begins' : List Bool
  begins' = set begins at true

  -- of the bits of its words in the table of last words the last one alone is set
  abbrev pub ends' : List Bool
  ends' = set (with_range ends at (at + words) false) last true

  abbrev pub blocks' : List Bool
  blocks' = set blocks at true

  pub put_bounds : at + words ≤ length begins
  put_bounds =
      (contained_bounds 0 (length begins) (with_run new old) new put.free (contains_put new old)).2

  free_word : (word : ℕ) → at ≤ word → word < at + words → is_covered old word ≡ false
  free_word word above below =
      uncovered_by_put 0 (length begins) old new word put.free above below

  pub no_begin : bit begins at ≡ false
  no_begin =
      false_from_ne_true (bit begins at) (λ is.
      let r : Run = record { from = at; count = length_at ends at } in
      let there = extent_at begins ends at is in
      let bounds = contained_bounds 0 (length begins) old r put.sound.ascending there in
      both_ways (is_covered old at) (free_word at (omega arith) (omega (arith, put.nonzero)))
      (covers_contained old r at there (has_word-true r at (omega arith) (omega (arith, bounds.1)))))

  ends_bounds : at + words ≤ length ends
  ends_bounds = omega (arith, put_bounds, put.sound.same_size.1)

  length_cleared : length (with_range ends at (at + words) false) ≡ length ends
  length_cleared = length-with_range ends at (at + words) false (omega arith) ends_bounds

  length_ends' : length ends' ≡ length ends
  length_ends' = length-set (with_range ends at (at + words) false) last true ∙ length_cleared

  no_end : (word : ℕ) → at ≤ word → word < last → bit ends' word ≡ false
  no_end word above below =
      bit-set_other (with_range ends at (at + words) false) last word true (λ e. omega arith)
      ∙ bit-with_range_inside ends at (at + words) word false (omega arith) ends_bounds above (omega arith)

  other_end : (word : ℕ) → (word < at) ⊎ (at + words ≤ word) → bit ends' word ≡ bit ends word
  other_end word out =
      let some = put.nonzero in
      bit-set_other (with_range ends at (at + words) false) last word true
      (λ e. elim out [ inl before ↦ omega arith | inr after ↦ omega arith ])
      ∙ bit-with_range_outside ends at (at + words) word false (omega arith) ends_bounds out

  put_here : length_at ends' at ≡ words
  put_here =
      let some = put.nonzero in
      let is : IsLastWord ends' at last = record {
        above = omega arith;
        below = omega (arith, length_ends', put_bounds, put.sound.same_size.1);
        passes = bit-set_same (with_range ends at (at + words) false) last true (omega (arith, ends_bounds, length_cleared));
        lower = λ i above below. no_end i above below;
      } in
      length_at_is ends' at last is ∙ (omega arith)

  put_same : SameLengths begins ends ends' at
  put_same = record {
    others = λ s is other.
        let some = put.nonzero in
        let t : Run = record { from = s; count = length_at ends s } in
        let there = extent_at begins ends s is in
        let bounds = contained_bounds 0 (length begins) old t put.sound.ascending there in
        length_kept ends ends' s length_ends' bounds.1 (λ i above below.
        other_end i (elim (apart_from_put 0 (length begins) old new t put.free there) [
          | inl after ↦ inr (omega (arith, after))
          | inr before ↦ inl (omega (arith, before))
        ]));
  }

  pub put_extents : extents begins' ends' ≡ with_run new old
  put_extents =
      extents_put begins begins ends ends' at words put_same put_here
      (omega (arith, put.nonzero, put_bounds)) no_begin (λ s is. is)

  pub put_is_sound : AreSoundTables covered' begins' ends' blocks
  put_is_sound =
      let some = put.nonzero in
      let sound = put.sound in
      let bounds = put_bounds in
      let begun = length-set begins at true in
      let room : at + words ≤ length covered = omega (arith, bounds, sound.same_size.0) in
      let order : at ≤ at + words = omega arith in
      let ranged = length-with_range covered at (at + words) true order room in
      let now = put_extents in
      let P : List Run → Type 0 = λ rs. IsAscending 0 (length begins) rs in
      let Q : ℕ → Type 0 = λ n. IsAscending 0 n (extents begins' ends') in
      let outside = λ (word : ℕ) (out : (word < at) ⊎ (at + words ≤ word)) (other : has_word new word ≡ false).
      let here : bit covered' word ≡ is_covered (extents begins' ends') word =
      bit-with_range_outside covered at (at + words) word true order room out ∙ sound.covered_is word
      ∙ sym (covered_put_other new old word other) ∙ ap (λ (rs : List Run). is_covered rs word) (sym now)
      in here
      in
      record {
        same_size = (
          omega (arith, begun, ranged, sound.same_size.0),
          omega (arith, begun, length_ends', sound.same_size.1),
          omega (arith, begun, sound.same_size.2),
        );
        small = omega (arith, begun, sound.small);
        ascending = subst Q (sym begun) (subst P (sym now) put.free);
        covered_is = λ word. elim (cases_lt word at) [
          | inl before ↦ outside word (inl before) (has_word-below new word before)
          | inr above ↦ elim (cases_lt word (at + words)) [
            | inl below ↦
                bit-with_range_inside covered at (at + words) word true order room above below
                ∙ sym (covered_put_has new old word (has_word-true new word above below))
                ∙ ap (λ (rs : List Run). is_covered rs word) (sym now)
            | inr past ↦ outside word (inr past) (has_word-above new word past)
          ]
        ];
        blocks_begin = λ word is. elim (cases_eq word at) [
          | inl here ↦ ap (λ (j : ℕ). bit begins' j) here ∙ bit-set_same begins at true (omega arith)
          | inr other ↦ bit-set_other begins at word true other ∙ sound.blocks_begin word is
        ];
      }

  pub put_lists :
      lists_of begins' ends' blocks
      ≡ record (lists_of begins ends blocks)
      { covered = with_run new old; reservations = with_run new (extents (minus begins blocks) ends) }
  unfolding lists
  put_lists =
      let some = put.nonzero in
      let bounds = put_bounds in
      let none = no_begin in
      let same = put_same in
      let none_with = λ (bits : List Bool) (begin : (s : ℕ) → bit bits s ≡ true → bit begins s ≡ true).
      let here : bit bits at ≡ false = false_from_ne_true (bit bits at) (λ is. both_ways (bit begins at) none (begin at is)) in here
      in
      let no_block = none_with blocks put.sound.blocks_begin in
      let no_reservation = none_with (minus begins blocks) (minus_is_begin begins blocks) in
      let kept =
      extents_kept begins blocks ends ends' at same
      (λ s is. (put.sound.blocks_begin s is, λ e. both_ways (bit blocks at) no_block (ap (λ (j : ℕ). bit blocks j) (sym e) ∙ is)))
      in
      let reserved : extents (minus begins' blocks) ends' ≡ with_run new (extents (minus begins blocks) ends) =
      ap (λ (bits : List Bool). extents bits ends') (minus-set_first begins blocks at (omega arith) no_block)
      ∙ extents_put begins (minus begins blocks) ends ends' at words same put_here (omega (arith, bounds, length-minus begins blocks))
      no_reservation
      (minus_is_begin begins blocks)
      in
      ap (λ (n : ℕ). lists n (extents begins' ends') (extents blocks ends') (extents (minus begins' blocks) ends'))
      (length-set begins at true)
      ∙ ap (λ (rs : List Run). lists (length begins) rs (extents blocks ends') (extents (minus begins' blocks) ends')) put_extents
      ∙ ap (λ (rs : List Run). lists (length begins) (with_run new old) rs (extents (minus begins' blocks) ends')) kept
      ∙ ap (λ (rs : List Run). lists (length begins) (with_run new old) (extents blocks ends) rs) reserved

  -- ---- the same, where the extent is a block

  put_is_reserved : IsReservation begins' ends' blocks new
  put_is_reserved =
      let P : List Run → Type 0 = λ rs. Contains rs new in
      is_reservation begins' ends' blocks new
      (subst P (sym (ap (λ (e : ExtentLists). e.reservations) put_lists)) (contains_put new (extents (minus begins blocks) ends)))

  pub block_is_sound : AreSoundTables covered' begins' ends' blocks'
  block_is_sound =
      commit_is_sound covered' begins' ends' blocks new put_is_sound put_is_reserved

  pub block_lists :
      lists_of begins' ends' blocks' ≡ record (lists_of begins ends blocks)
      { covered = with_run new old; blocks = with_run new (extents blocks ends) }
  unfolding lists
  block_lists =
      let none = no_begin in
      let other = λ (s : Run) (there : Contains (extents (minus begins blocks) ends) s).
      let here : s.from ≢ at = λ e.
      both_ways (bit begins at) none
      (ap (λ (j : ℕ). bit begins j) (sym e) ∙ minus_is_begin begins blocks s.from (begin_of (minus begins blocks) ends s there).0)
      in here
      in
      commit_lists covered' begins' ends' blocks new put_is_sound put_is_reserved
      ∙ ap (λ (e : ExtentLists). record e { blocks = with_run new e.blocks; reservations = without_run at e.reservations }) put_lists
      ∙ ap (λ (rs : List Run). lists (length begins) (with_run new old) (with_run new (extents blocks ends)) rs)
      (put_and_taken new (extents (minus begins blocks) ends) other)

-- what is known of the tables where an extent can be put into them
pub record PutFits (t : Inside) (at words : ℕ) : Type 0 where
  pub put : Put t.covered (begins_of t) t.ends t.blocks at words
  pub nonzero : 0 < words
  pub in_covered : at + words ≤ length t.covered
  pub in_opens : at + words ≤ length t.opens
  pub in_ends : at + words ≤ length t.ends
  pub in_blocks : at + words ≤ length t.blocks
  pub at_most : at + words < 2 ^ 32

pub put_fits : (t : Inside) (seen : ExtentLists) (at words : ℕ) → AreSoundTables t.covered (begins_of t) t.ends t.blocks
    → lists_of (begins_of t) t.ends t.blocks ≡ seen
    → 0 < words → IsAscending 0 seen.size (with_run (record { from = at; count = words }) seen.covered) → PutFits t at words
put_fits t seen at words sound is nonzero free =
    let P : ExtentLists → Type 0 = λ e. IsAscending 0 e.size (with_run (record { from = at; count = words }) e.covered) in
    let put : Put t.covered (begins_of t) t.ends t.blocks at words =
    record { sound = sound; nonzero = nonzero; free = subst P (sym is) free }
    in
    let bounds = put_bounds t.covered (begins_of t) t.ends t.blocks at words put in
    record {
      put = put;
      nonzero = nonzero;
      in_covered = omega (arith, bounds, sound.same_size.0);
      in_opens = omega (arith, bounds, length-either t.opens t.blocks);
      in_ends = omega (arith, bounds, sound.same_size.1);
      in_blocks = omega (arith, bounds, sound.same_size.2);
      at_most = omega (arith, bounds, sound.small);
    }
