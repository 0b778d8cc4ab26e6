-- The tables and the lists after a sweep.
use Rattle.std.proofs.Common.{ℕ, ◌+◌, ◌-◌, ◌<◌, ◌≤◌, ◌≡◌, ◌⊎◌, ◌&&◌, Bool, false, List, length, sym, ap, ◌∙◌, subst, arith}
use Rattle.std.specs.Prelude.{if◌then◌else◌}
use Rattle.std.proofs.lemmas.List.{length-map}
use Rattle.mps_base.specs.Run.{Run, total}
use Rattle.mps_base.specs.Trail.{Moves}
use Rattle.mps_bits.specs.Table.{bit}
use Rattle.mps_bits.specs.OpenRuns.{in_run, is_set_from, is_set_unless, AreRunsApart}
use Rattle.mps_extents.specs.Extents.{ExtentLists, AreWhole}
use Rattle.mps_extents.specs.declared.extents.Extents.TheInside.{Inside}
use Rattle.mps_extents.specs.Inside.{either, extents, lists_of, AreSoundTables, AreApart, IsTally}
use Rattle.mps_extents.specs.Lost.{lost_runs, frees, freed_at, passing, begins_lost}
use Rattle.mps_extents.proofs.EitherBits.{begins_of}
use Rattle.mps_extents.proofs.Counts.{set_bits}
use Rattle.mps_extents.proofs.Tally.{blocks_ascend}
use Rattle.mps_extents.proofs.LostRuns.{lost_ascends, lost_member}
use Rattle.mps_extents.proofs.Dropping.{without_bits, without_words, dropped, same_tally, AreDropped, are_dropped}
use Rattle.mps_extents.proofs.Sweep.{apart_runs, new_covered, new_blocks}
use Rattle.mps_extents.proofs.Passing.{begin_words, frees_are, lost_words}

-- the lists without the lost blocks
abbrev pub swept : (low high : ℕ) (kept : List Bool) → ExtentLists → ExtentLists
swept low high kept seen = dropped (lost_runs low high kept seen.blocks) seen

-- what holds of the tables of blocks and of covered words then, and of the two numbers
abbrev pub Holds : Inside → (covered blocks : List Bool) (count words : ℕ) → Type 0
Holds t covered blocks count words =
    AreSoundTables covered (either t.opens blocks) t.ends blocks × AreApart t.opens blocks × IsTally (extents blocks t.ends) count words

module _
    (t : Inside) (seen : ExtentLists) (kept : List Bool) (low high : ℕ) (holds : Holds t t.covered t.blocks t.live_blocks t.live_words)
    (is : lists_of (begins_of t) t.ends t.blocks ≡ seen) (ordered : low ≤ high) (inside : high ≤ seen.size)
    (whole : AreWhole low high seen.covered)
  where
    pub size_of_table : high ≤ length (begins_of t)
    size_of_table = omega (arith, ap (λ (e : ExtentLists). e.size) is, inside)

    pub in_blocks : high ≤ length t.blocks
    in_blocks = omega (arith, size_of_table, holds.0.same_size.2)

    whole_extents : AreWhole low high (extents (begins_of t) t.ends)
    whole_extents = let P : ExtentLists → Type 0 = λ e. AreWhole low high e.covered in subst P (sym is) whole

    same_lost : lost_runs low high kept (extents t.blocks t.ends) ≡ lost_runs low high kept seen.blocks
    same_lost = ap (λ (e : ExtentLists). lost_runs low high kept e.blocks) is

    pub runs_are_apart : AreRunsApart false (is_set_unless t.blocks kept low) (is_set_from t.ends low) (high - low)
    runs_are_apart = apart_runs t.covered t.opens t.ends t.blocks kept low high holds.0 ordered in_blocks whole_extents

    done : AreDropped t.covered t.opens t.ends t.blocks t.live_blocks t.live_words (lost_runs low high kept (extents t.blocks t.ends))
    done =
        let ascend = blocks_ascend t.covered (begins_of t) t.ends t.blocks holds.0 in
        are_dropped t.covered t.opens t.ends t.blocks t.live_blocks t.live_words (lost_runs low high kept (extents t.blocks t.ends)) 0
        (length (begins_of t)) holds.0 holds.1
        holds.2
        (lost_ascends low high 0 (length (begins_of t)) kept (extents t.blocks t.ends) ascend)
        (λ r there. (lost_member low high kept (extents t.blocks t.ends) r there).there)

    -- ---- the Frees

    lost_words_are : begin_words (lost_runs low high kept seen.blocks) ≡ passing (begins_lost t.blocks kept) low (high - low)
    lost_words_are =
        ap begin_words (sym same_lost) ∙ lost_words t.ends t.blocks kept low high ordered in_blocks

    pub room_for_frees : (spare : ℕ) → length (lost_runs low high kept seen.blocks) ≤ spare
        → length (passing (begins_lost t.blocks kept) low (high - low)) ≤ spare
    room_for_frees spare fits =
        omega (
          arith,
          fits,
          ap (λ (xs : List ℕ). length xs) lost_words_are,
          length-map (lost_runs low high kept seen.blocks) (λ (r : Run). r.from),
        )

    pub freed_are : (moves : Moves) → freed_at (passing (begins_lost t.blocks kept) low (high - low)) moves
        ≡ frees (lost_runs low high kept seen.blocks) moves
    freed_are moves =
        ap (λ (xs : List ℕ). freed_at xs moves) (sym lost_words_are) ∙ sym (frees_are (lost_runs low high kept seen.blocks) moves)

    -- ---- the tables that were written

    module _
        (covered' blocks' : List Bool) (words count : ℕ) (size : length covered' ≡ length t.covered)
        (written : (n : ℕ) → n < high - low → bit covered' (low + n)
        ≡ (if in_run false (is_set_unless t.blocks kept low) (is_set_from t.ends low) n then false else bit t.covered (low + n)))
        (unwritten : (i : ℕ) → (i < low) ⊎ (high ≤ i) → bit covered' i ≡ bit t.covered i)
        (size' : length blocks' ≡ length t.blocks)
        (written' : (i : ℕ) → low ≤ i → i < high → bit blocks' i ≡ (bit t.blocks i && bit kept i))
        (unwritten' : (i : ℕ) → (i < low) ⊎ (high ≤ i) → bit blocks' i ≡ bit t.blocks i)
        (summed : set_bits covered' + words ≡ set_bits t.covered) (counted : set_bits blocks' + count ≡ set_bits t.blocks)
      where
        covered_is : covered' ≡ without_words (lost_runs low high kept (extents t.blocks t.ends)) t.covered
        covered_is =
            new_covered t.covered t.opens t.ends t.blocks kept low high holds.0 ordered in_blocks whole_extents covered' size written
            unwritten

        blocks_are : blocks' ≡ without_bits (lost_runs low high kept (extents t.blocks t.ends)) t.blocks
        blocks_are =
            new_blocks t.covered t.opens t.ends t.blocks kept low high holds.0 ordered in_blocks whole_extents blocks' size' written'
            unwritten'

        words_are : total (lost_runs low high kept (extents t.blocks t.ends)) ≡ words
        words_are = omega (arith, done.summed, summed, ap set_bits covered_is)

        count_is : length (lost_runs low high kept (extents t.blocks t.ends)) ≡ count
        count_is = omega (arith, done.counted, counted, ap set_bits blocks_are)

        pub fewer : (count ≤ t.live_blocks) × (words ≤ t.live_words)
        fewer = (omega (arith, done.few.0, count_is), omega (arith, done.few.1, words_are))

        pub swept_holds : Holds t covered' blocks' (t.live_blocks - count) (t.live_words - words)
        swept_holds =
            let P : List Bool → Type 0 = λ xs. Holds t xs blocks' (t.live_blocks - count) (t.live_words - words) in
            let Q : List Bool → Type 0 =
            λ xs. Holds t (without_words (lost_runs low high kept (extents t.blocks t.ends)) t.covered) xs (t.live_blocks - count)
            (t.live_words - words)
            in
            subst P (sym covered_is) (subst Q (sym blocks_are) (
              done.sound,
              done.apart,
              same_tally (omega (arith, count_is)) (omega (arith, words_are)) done.tally,
            ))

        pub swept_lists : lists_of (either t.opens blocks') t.ends blocks' ≡ swept low high kept seen
        swept_lists =
            ap (λ (xs : List Bool). lists_of (either t.opens xs) t.ends xs) blocks_are ∙ done.lists
            ∙ ap (dropped (lost_runs low high kept (extents t.blocks t.ends))) is
            ∙ ap (λ (rs : List Run). dropped rs seen) same_lost
