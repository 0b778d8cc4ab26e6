-- Replaying a log of either version: which blocks live after some of its records, and how many names were interned by then. Of
-- the blocks it is the replay of records of blocks alone.
use Rattle.std.specs.Prelude.{◌≡◌, ℕ, ◌+◌, ◌==◌, ◌&&◌, nat_lt, if◌then◌else◌, Option, Some, None, option_map, option_and_then, List, [], ◌∷◌, slice_index, refl}
use Rattle.mps_base.specs.Record.{Record, flip_code, commit_code, alloc_code, move_code, stay_code, post_code, free_code, intern_code, label_code}
use Rattle.mps_model.specs.Replay.{Block, Store, is_live, store_after}

-- the blocks that live after some records of a log, and how many names these interned
pub record State : Type 0 where
  pub blocks : Store
  pub interned : ℕ

-- before the first record
abbrev pub at_the_start : State
at_the_start = record { blocks = []; interned = 0 }

-- a name is interned: none where its number isn't the next one
abbrev pub after_interning : State → (id : ℕ) → Option State
after_interning s id = if id == s.interned then Some (record s { interned = s.interned + 1 }) else None

-- an address is labelled: none where no block lives there, or no name has the number
abbrev pub after_labelling : State → (at id : ℕ) → Option State
after_labelling s at id = if nat_lt id s.interned && is_live s.blocks at then Some s else None

-- the state after a record: none where the record is a bad replay
abbrev pub replayed_after : State → Record → Option State
replayed_after s r =
    if r.code == intern_code then after_interning s (slice_index r.fields 0)
    else (if r.code == label_code then after_labelling s (slice_index r.fields 0) (slice_index r.fields 1)
    else option_map (λ blocks. record s { blocks = blocks }) (store_after s.blocks r))

-- the state after records, from some state on: none where a record is a bad replay
abbrev pub replayed_from : State → List Record → Option State
replayed_from s [] = Some s
replayed_from s (r ∷ rs) = option_and_then (λ after. replayed_from after rs) (replayed_after s r)

-- the state after all records of a log: none where a record is a bad replay
abbrev pub replayed : List Record → Option State
replayed records = replayed_from at_the_start records

-- Two blocks are committed, the second below the first.

abbrev first_commit : Record
first_commit = record { line = 7; code = commit_code; fields = 0x2000 ∷ 3 ∷ 0 ∷ [] }

abbrev first_block : Block
first_block = record { at = 0x2000; words = 3; pool = 0 }

abbrev second_commit : Record
second_commit = record { line = 8; code = commit_code; fields = 0x1000 ∷ 4 ∷ 1 ∷ [] }

abbrev second_block : Block
second_block = record { at = 0x1000; words = 4; pool = 1 }

-- a record with these fields
abbrev record_with : (code : ℕ) → List ℕ → Record
record_with code fields = record { line = 9; code = code; fields = fields }

-- these blocks live, and no name was interned
abbrev live : List Block → State
live blocks = record { blocks = blocks; interned = 0 }

pub blocks_stand_in_the_order_of_their_addresses : replayed (first_commit ∷ second_commit ∷ [])
    ≡ Some (live (second_block ∷ first_block ∷ []))
blocks_stand_in_the_order_of_their_addresses = refl

pub an_allocated_block_lives : replayed (record_with alloc_code (0x2000 ∷ 3 ∷ 0 ∷ []) ∷ []) ≡ Some (live (first_block ∷ []))
an_allocated_block_lives = refl

pub a_block_moves :
    replayed (first_commit ∷ record_with move_code (0x2000 ∷ 0x800 ∷ []) ∷ [])
    ≡ Some (live (record { at = 0x800; words = 3; pool = 0 } ∷ []))
a_block_moves = refl

pub a_block_moves_after_another :
    replayed (first_commit ∷ second_commit ∷ record_with move_code (0x1000 ∷ 0x3000 ∷ []) ∷ [])
    ≡ Some (live (first_block ∷ record { at = 0x3000; words = 4; pool = 1 } ∷ []))
a_block_moves_after_another = refl

pub a_block_that_stays_is_as_it_was : replayed (first_commit ∷ second_commit ∷ record_with stay_code (0x2000 ∷ []) ∷ [])
    ≡ Some (live (second_block ∷ first_block ∷ []))
a_block_that_stays_is_as_it_was = refl

pub a_block_that_is_posted_is_as_it_was : replayed (first_commit ∷ second_commit ∷ record_with post_code (0x1000 ∷ []) ∷ [])
    ≡ Some (live (second_block ∷ first_block ∷ []))
a_block_that_is_posted_is_as_it_was = refl

pub a_flip_changes_no_block : replayed (first_commit ∷ record_with flip_code (2 ∷ 0x2000 ∷ 0 ∷ []) ∷ []) ≡ Some (live (first_block ∷ []))
a_flip_changes_no_block = refl

pub a_live_block_is_freed : replayed (first_commit ∷ record_with free_code (0x2000 ∷ []) ∷ []) ≡ Some at_the_start
a_live_block_is_freed = refl

pub the_others_live_on : replayed (first_commit ∷ second_commit ∷ record_with free_code (0x1000 ∷ []) ∷ []) ≡ Some (live (first_block ∷ []))
the_others_live_on = refl

pub a_freed_address_is_committed_again :
    replayed (first_commit ∷ record_with free_code (0x2000 ∷ []) ∷ record_with commit_code (0x2000 ∷ 5 ∷ 1 ∷ []) ∷ [])
    ≡ Some (live (record { at = 0x2000; words = 5; pool = 1 } ∷ []))
a_freed_address_is_committed_again = refl

pub an_address_that_was_left_is_committed_again :
    replayed (second_commit ∷ record_with move_code (0x1000 ∷ 0x800 ∷ []) ∷ record_with commit_code (0x1000 ∷ 5 ∷ 0 ∷ []) ∷ [])
    ≡ Some (live (record { at = 0x800; words = 4; pool = 1 } ∷ record { at = 0x1000; words = 5; pool = 0 } ∷ []))
an_address_that_was_left_is_committed_again = refl

pub names_are_interned_in_order :
    replayed (record_with intern_code (0 ∷ 97 ∷ 0 ∷ []) ∷ record_with intern_code (1 ∷ 98 ∷ 0 ∷ []) ∷ [])
    ≡ Some (record { blocks = []; interned = 2 })
names_are_interned_in_order = refl

pub a_live_block_is_labelled :
    replayed (first_commit ∷ record_with intern_code (0 ∷ 97 ∷ 0 ∷ []) ∷ record_with label_code (0x2000 ∷ 0 ∷ []) ∷ [])
    ≡ Some (record { blocks = first_block ∷ []; interned = 1 })
a_live_block_is_labelled = refl

-- Bad replays.

pub a_live_address_cannot_be_committed : replayed (first_commit ∷ record_with commit_code (0x2000 ∷ 1 ∷ 0 ∷ []) ∷ []) ≡ None
a_live_address_cannot_be_committed = refl

pub a_live_address_cannot_be_allocated : replayed (first_commit ∷ record_with alloc_code (0x2000 ∷ 1 ∷ 0 ∷ []) ∷ []) ≡ None
a_live_address_cannot_be_allocated = refl

pub a_block_cannot_move_onto_another : replayed (first_commit ∷ second_commit ∷ record_with move_code (0x2000 ∷ 0x1000 ∷ []) ∷ []) ≡ None
a_block_cannot_move_onto_another = refl

pub a_block_cannot_move_to_itself : replayed (first_commit ∷ record_with move_code (0x2000 ∷ 0x2000 ∷ []) ∷ []) ≡ None
a_block_cannot_move_to_itself = refl

pub no_block_moves_from_there : replayed (first_commit ∷ record_with move_code (0x2008 ∷ 0x3000 ∷ []) ∷ []) ≡ None
no_block_moves_from_there = refl

pub no_block_stays_there : replayed (first_commit ∷ record_with stay_code (0x1000 ∷ []) ∷ []) ≡ None
no_block_stays_there = refl

pub no_block_is_posted_there : replayed (first_commit ∷ record_with post_code (0x1000 ∷ []) ∷ []) ≡ None
no_block_is_posted_there = refl

pub no_block_is_freed_there : replayed (first_commit ∷ record_with free_code (0x1000 ∷ []) ∷ []) ≡ None
no_block_is_freed_there = refl

pub a_block_is_freed_once : replayed (first_commit ∷ record_with free_code (0x2000 ∷ []) ∷ record_with free_code (0x2000 ∷ []) ∷ []) ≡ None
a_block_is_freed_once = refl

pub no_block_is_left_where_it_was : replayed (first_commit ∷ record_with move_code (0x2000 ∷ 0x800 ∷ [])
    ∷ record_with stay_code (0x2000 ∷ []) ∷ []) ≡ None
no_block_is_left_where_it_was = refl

pub no_block_begins_inside_another : replayed (first_commit ∷ record_with free_code (0x2008 ∷ []) ∷ []) ≡ None
no_block_begins_inside_another = refl

pub a_name_is_interned_out_of_order : replayed (record_with intern_code (1 ∷ 97 ∷ 0 ∷ []) ∷ []) ≡ None
a_name_is_interned_out_of_order = refl

pub a_number_is_interned_once :
    replayed (record_with intern_code (0 ∷ 97 ∷ 0 ∷ []) ∷ record_with intern_code (0 ∷ 98 ∷ 0 ∷ []) ∷ []) ≡ None
a_number_is_interned_once = refl

pub a_label_of_no_name : replayed (first_commit ∷ record_with label_code (0x2000 ∷ 0 ∷ []) ∷ []) ≡ None
a_label_of_no_name = refl

pub no_block_is_labelled_there :
    replayed (first_commit ∷ record_with intern_code (0 ∷ 97 ∷ 0 ∷ []) ∷ record_with label_code (0x1000 ∷ 0 ∷ []) ∷ []) ≡ None
no_block_is_labelled_there = refl

pub a_label_of_a_later_name :
    replayed (first_commit ∷ record_with intern_code (0 ∷ 97 ∷ 0 ∷ []) ∷ record_with label_code (0x2000 ∷ 1 ∷ [])
    ∷ record_with intern_code (1 ∷ 98 ∷ 0 ∷ []) ∷ []) ≡ None
a_label_of_a_later_name = refl

pub nothing_follows_a_bad_replay : replayed (record_with free_code (0x2000 ∷ []) ∷ first_commit ∷ []) ≡ None
nothing_follows_a_bad_replay = refl
