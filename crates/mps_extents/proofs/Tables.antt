-- The tables after a call, where reservations and blocks have a table each.
use Rattle.std.proofs.Common.{ℕ, ◌+◌, ◌-◌, ◌<◌, ◌≡◌, ◌||◌, Bool, true, false, List, length, set, refl, sym, ap, ◌∙◌, subst, arith, length-set}
use Rattle.std.proofs.lemmas.Bool.{or_left, or_right, or_parts}
use Rattle.mps_base.specs.Run.{Run, end_of, with_run, without_run}
use Rattle.mps_bits.specs.Table.{bit, with_range}
use Rattle.mps_extents.specs.Inside.{either, minus, extents, lists_of, AreSoundTables, AreApart}
use Rattle.mps_extents.proofs.WrittenBits.{bit-set_same, bit-set_other, bit_within}
use Rattle.mps_extents.proofs.EitherBits.{length-either, bit-either, either_written, either_moved, apart_opened, apart_committed, apart_closed, apart_dropped, not_open}
use Rattle.mps_extents.proofs.ExtentBits.{begin_of, IsReservation}
use Rattle.mps_extents.proofs.PutExtent.{Put, put_bounds, no_begin, put_is_sound, put_lists, block_is_sound, block_lists, commit_is_sound, commit_lists}
use Rattle.mps_extents.proofs.TakenExtent.{Taken, taken_bounds, taken_is_sound, others_than_reservation, others_than_block, uncover_lists, drop_lists}

-- of the bits of n words in the table of last words the last one alone is set
abbrev pub ended : List Bool → (at words : ℕ) → List Bool
ended ends at words = set (with_range ends at (at + words) false) (at + words - 1) true

-- where no extent begins, neither a reservation does nor a block
neither : (opens blocks : List Bool) (at : ℕ) → at < length opens → bit (either opens blocks) at ≡ false
    → (bit opens at ≡ false) × (bit blocks at ≡ false)
neither opens blocks at within none = or_parts (bit opens at) (bit blocks at) (sym (bit-either opens blocks at within) ∙ none)

-- ---- an extent is put

module _
    (covered opens ends blocks : List Bool) (at words : ℕ) (apart : AreApart opens blocks)
    (put : Put covered (either opens blocks) ends blocks at words)
  where
    within : at < length opens
    within =
        omega (arith, put.nonzero, put_bounds covered (either opens blocks) ends blocks at words put, length-either opens blocks)

    none : (bit opens at ≡ false) × (bit blocks at ≡ false)
    none = neither opens blocks at within (no_begin covered (either opens blocks) ends blocks at words put)

    opened : either (set opens at true) blocks ≡ set (either opens blocks) at true
    opened =
        either_written opens (set opens at true) blocks blocks at true within (length-set opens at true)
        (λ j other. bit-set_other opens at j true other) (λ j other. refl)
        (or_left (bit (set opens at true) at) (bit blocks at) (bit-set_same opens at true within))

    begun : either opens (set blocks at true) ≡ set (either opens blocks) at true
    begun =
        either_written opens opens blocks (set blocks at true) at true within refl (λ j other. refl)
        (λ j other. bit-set_other blocks at j true other)
        (or_right (bit opens at) (bit (set blocks at true) at)
        (bit-set_same blocks at true (omega (arith, within, apart.same_size))))

    pub cover_is_sound : AreSoundTables (with_range covered at (at + words) true) (either (set opens at true) blocks)
        (ended ends at words) blocks
    cover_is_sound =
        let P : List Bool → Type 0 = λ bs. AreSoundTables (with_range covered at (at + words) true) bs (ended ends at words) blocks in
        subst P (sym opened) (put_is_sound covered (either opens blocks) ends blocks at words put)

    pub cover_apart : AreApart (set opens at true) blocks
    cover_apart = apart_opened opens blocks at apart none.1

    pub cover_lists :
        lists_of (either (set opens at true) blocks) (ended ends at words) blocks
        ≡ record (lists_of (either opens blocks) ends blocks) {
          covered = with_run (record { from = at; count = words }) (extents (either opens blocks) ends);
          reservations = with_run (record { from = at; count = words }) (extents (minus (either opens blocks) blocks) ends);
        }
    cover_lists =
        ap (λ (bs : List Bool). lists_of bs (ended ends at words) blocks) opened
        ∙ put_lists covered (either opens blocks) ends blocks at words put

    pub commit_block_is_sound : AreSoundTables (with_range covered at (at + words) true) (either opens (set blocks at true))
        (ended ends at words) (set blocks at true)
    commit_block_is_sound =
        let P : List Bool → Type 0 =
        λ bs. AreSoundTables (with_range covered at (at + words) true) bs (ended ends at words) (set blocks at true)
        in
        subst P (sym begun) (block_is_sound covered (either opens blocks) ends blocks at words put)

    pub commit_block_apart : AreApart opens (set blocks at true)
    commit_block_apart = apart_committed opens blocks at apart none.0

    pub commit_block_lists :
        lists_of (either opens (set blocks at true)) (ended ends at words) (set blocks at true)
        ≡ record (lists_of (either opens blocks) ends blocks) {
          covered = with_run (record { from = at; count = words }) (extents (either opens blocks) ends);
          blocks = with_run (record { from = at; count = words }) (extents blocks ends);
        }
    commit_block_lists =
        ap (λ (bs : List Bool). lists_of bs (ended ends at words) (set blocks at true)) begun
        ∙ block_lists covered (either opens blocks) ends blocks at words put

-- ---- a reservation becomes a block

module _
    (covered opens ends blocks : List Bool) (r : Run) (apart : AreApart opens blocks)
    (sound : AreSoundTables covered (either opens blocks) ends blocks) (reserved : IsReservation (either opens blocks) ends blocks r)
  where
    reserved_begin : bit (either opens blocks) r.from ≡ true
    reserved_begin = (begin_of (either opens blocks) ends r reserved.there).0

    reserved_within : r.from < length opens
    reserved_within = omega (arith, bit_within (either opens blocks) r.from reserved_begin, length-either opens blocks)

    moved : either (set opens r.from false) (set blocks r.from true) ≡ either opens blocks
    moved =
        either_moved opens blocks r.from reserved_within (omega (arith, reserved_within, apart.same_size)) reserved_begin

    pub committed_is_sound : AreSoundTables covered (either (set opens r.from false) (set blocks r.from true)) ends (set blocks r.from true)
    committed_is_sound =
        let P : List Bool → Type 0 = λ bs. AreSoundTables covered bs ends (set blocks r.from true) in
        subst P (sym moved) (commit_is_sound covered (either opens blocks) ends blocks r sound reserved)

    pub committed_apart : AreApart (set opens r.from false) (set blocks r.from true)
    committed_apart =
        apart_committed (set opens r.from false) blocks r.from (apart_closed opens blocks r.from apart reserved_within)
        (bit-set_same opens r.from false reserved_within)

    pub committed_lists :
        lists_of (either (set opens r.from false) (set blocks r.from true)) ends (set blocks r.from true)
        ≡ record (lists_of (either opens blocks) ends blocks) {
          blocks = with_run r (extents blocks ends);
          reservations = without_run r.from (extents (minus (either opens blocks) blocks) ends);
        }
    committed_lists =
        ap (λ (bs : List Bool). lists_of bs ends (set blocks r.from true)) moved
        ∙ commit_lists covered (either opens blocks) ends blocks r sound reserved

-- ---- an extent is taken out

module _
    (covered opens ends blocks : List Bool) (r : Run) (apart : AreApart opens blocks)
    (taken : Taken covered (either opens blocks) ends blocks r)
  where
    taken_within : r.from < length opens
    taken_within =
        let bounds = taken_bounds covered (either opens blocks) ends blocks r taken in
        omega (arith, bounds.0, bounds.1, length-either opens blocks)

    closed : bit blocks r.from ≡ false → either (set opens r.from false) blocks ≡ set (either opens blocks) r.from false
    closed no_block =
        either_written opens (set opens r.from false) blocks blocks r.from false taken_within (length-set opens r.from false)
        (λ j other. bit-set_other opens r.from j false other) (λ j other. refl)
        (ap (λ (b : Bool). b || bit blocks r.from) (bit-set_same opens r.from false taken_within) ∙ no_block)

    dropped : bit blocks r.from ≡ true → either opens (set blocks r.from false) ≡ set (either opens blocks) r.from false
    dropped block =
        either_written opens opens blocks (set blocks r.from false) r.from false taken_within refl (λ j other. refl)
        (λ j other. bit-set_other blocks r.from j false other)
        (ap (λ (b : Bool). b || bit (set blocks r.from false) r.from) (not_open opens blocks r.from apart block)
        ∙ bit-set_same blocks r.from false (bit_within blocks r.from block))

    pub uncovered_is_sound : IsReservation (either opens blocks) ends blocks r
        → AreSoundTables (with_range covered r.from (end_of r) false) (either (set opens r.from false) blocks) ends blocks
    uncovered_is_sound reserved =
        let P : List Bool → Type 0 = λ bs. AreSoundTables (with_range covered r.from (end_of r) false) bs ends blocks in
        subst P (sym (closed reserved.no_block)) (taken_is_sound covered (either opens blocks) ends blocks r taken blocks refl
        (others_than_reservation covered (either opens blocks) ends blocks r taken reserved.no_block))

    pub uncovered_apart : AreApart (set opens r.from false) blocks
    uncovered_apart = apart_closed opens blocks r.from apart taken_within

    pub uncovered_lists : IsReservation (either opens blocks) ends blocks r
        → lists_of (either (set opens r.from false) blocks) ends blocks
        ≡ record (lists_of (either opens blocks) ends blocks) {
          covered = without_run r.from (extents (either opens blocks) ends);
          reservations = without_run r.from (extents (minus (either opens blocks) blocks) ends);
        }
    uncovered_lists reserved =
        ap (λ (bs : List Bool). lists_of bs ends blocks) (closed reserved.no_block)
        ∙ uncover_lists covered (either opens blocks) ends blocks r taken reserved

    pub dropped_is_sound : bit blocks r.from ≡ true
        → AreSoundTables (with_range covered r.from (end_of r) false) (either opens (set blocks r.from false)) ends
        (set blocks r.from false)
    dropped_is_sound block =
        let P : List Bool → Type 0 =
        λ bs. AreSoundTables (with_range covered r.from (end_of r) false) bs ends (set blocks r.from false)
        in
        subst P (sym (dropped block)) (taken_is_sound covered (either opens blocks) ends blocks r taken (set blocks r.from false)
        (length-set blocks r.from false) (others_than_block covered (either opens blocks) ends blocks r taken block))

    pub dropped_apart : bit blocks r.from ≡ true → AreApart opens (set blocks r.from false)
    dropped_apart block = apart_dropped opens blocks r.from apart (bit_within blocks r.from block)

    pub dropped_lists : bit blocks r.from ≡ true
        → lists_of (either opens (set blocks r.from false)) ends (set blocks r.from false)
        ≡ record (lists_of (either opens blocks) ends blocks) {
          covered = without_run r.from (extents (either opens blocks) ends);
          blocks = without_run r.from (extents blocks ends);
        }
    dropped_lists block =
        ap (λ (bs : List Bool). lists_of bs ends (set blocks r.from false)) (dropped block)
        ∙ drop_lists covered (either opens blocks) ends blocks r taken block
