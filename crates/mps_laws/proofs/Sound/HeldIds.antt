-- What passes a test of all ids that a client holds, and of all ids in its tables of blocks, after each effect of a call: a fact for
-- each place where ids are held, so that what an effect doesn't touch is passed on as it was. The test is, as a rule, whether the
-- object is live, or whether the running collection keeps it.
use Rattle.std.proofs.Common.{◌≡◌, ℕ, zero, suc, ◌+◌, ◌-◌, Bool, true, false, true≢false, refl, sym, subst, List, [], ◌∷◌, ◌++◌, map, Option, Some, None}
use Rattle.std.proofs.lemmas.Bool.{and_parts}
use Rattle.std.proofs.lemmas.Option.{none-some, same_Some}
use Rattle.std.specs.Prelude.{IsTrue, ◌&&◌, if◌then◌else◌, option_and_then, replicate, slice_get, slice_set}
use Rattle.std.specs.List.{list_all, flat_map}
use Rattle.mps_base.specs.declared.names.Rank.{Rank}
use Rattle.mps_model.specs.Layout.{Layout}
use Rattle.mps_model.specs.Graph.{Graph, NumberCell, ReferenceCell, new_cells, new_cells_from, Point, Reservation, AreaWord, PlainWord, Slots, entries, entry_at, held_by_word, holds_of, ids_in_blocks, ids_in_caches, ids_in_holds, ids_in_places, ids_in_reservations, ids_in_slots, ids_of_client, slots_of, targets_of_cells, targets_of_point, targets_of_reservation, with_last}
use Rattle.mps_model.specs.Checked.{Found, Numbered}
use Rattle.mps_model.specs.Allocating.{with_block_place, with_reservation, with_slot}
use Rattle.mps_model.specs.Accessing.{with_word}
use Rattle.mps_changes.proofs.Lookups.{map-slice_set}
use Rattle.mps_changes.proofs.OneMore.{parts_pass}

-- ---- lists

abbrev pub All : (ℕ → Bool) → List ℕ → Type 0
All test ids = IsTrue (list_all test ids)

-- null, or an id that passes the test
abbrev pub PassesOrNull : (ℕ → Bool) → Option ℕ → Type 0
PassesOrNull test None = Unit {0}
PassesOrNull test (Some id) = IsTrue (test id)

and_both : (a b : Bool) → a ≡ true → b ≡ true → (a && b) ≡ true
and_both true b h k = k
and_both false b h k = absurd (true≢false (sym h))

pub all-append : (test : ℕ → Bool) (xs ys : List ℕ) → All test xs → All test ys → All test (xs ++ ys)
all-append test [] ys h k = k
all-append test (x ∷ xs) ys h k =
    let parts = and_parts (test x) (list_all test xs) h in
    and_both (test x) (list_all test (xs ++ ys)) parts.0 (all-append test xs ys parts.1 k)

pub all_parts : (test : ℕ → Bool) (xs ys : List ℕ) → All test (xs ++ ys) → All test xs × All test ys
all_parts test [] ys h = (refl, h)
all_parts test (x ∷ xs) ys h =
    let parts = and_parts (test x) (list_all test (xs ++ ys)) h in
    let rest = all_parts test xs ys parts.1 in
    (and_both (test x) (list_all test xs) parts.0 rest.0, rest.1)

-- the ids of all entries of a list, after one entry was written, or one more was added
all-set : {X : Type 0} (test : ℕ → Bool) (ids : X → List ℕ) (xs : List X) (n : ℕ) (x : X) → All test (flat_map ids xs) → All test (ids x)
    → All test (flat_map ids (slice_set xs n x))
all-set test ids [] n x h k = refl
all-set test ids (y ∷ ys) zero x h k = all-append test (ids x) (flat_map ids ys) k (all_parts test (ids y) (flat_map ids ys) h).1
all-set test ids (y ∷ ys) (suc n) x h k =
    let parts = all_parts test (ids y) (flat_map ids ys) h in
    all-append test (ids y) (flat_map ids (slice_set ys n x)) parts.0 (all-set test ids ys n x parts.1 k)

all-last : {X : Type 0} (test : ℕ → Bool) (ids : X → List ℕ) (xs : List X) (x : X) → All test (flat_map ids xs) → All test (ids x)
    → All test (flat_map ids (with_last xs x))
all-last test ids [] x h k = all-append test (ids x) [] k refl
all-last test ids (y ∷ ys) x h k =
    let parts = all_parts test (ids y) (flat_map ids ys) h in
    all-append test (ids y) (flat_map ids (with_last ys x)) parts.0 (all-last test ids ys x parts.1 k)

all-at : {X : Type 0} (test : ℕ → Bool) (ids : X → List ℕ) (xs : List X) (n : ℕ) (x : X) → All test (flat_map ids xs)
    → slice_get xs n ≡ Some x
    → All test (ids x)
all-at test ids [] n x h there = absurd (none-some x there)
all-at test ids (y ∷ ys) zero x h there =
    subst (λ z. All test (ids z)) (same_Some y x there) (all_parts test (ids y) (flat_map ids ys) h).0
all-at test ids (y ∷ ys) (suc n) x h there = all-at test ids ys n x (all_parts test (ids y) (flat_map ids ys) h).1 there

-- the ids of entries, after one was written
entries-set : (test : ℕ → Bool) (xs : List (Option ℕ)) (n : ℕ) (x : Option ℕ) → All test (entries xs) → PassesOrNull test x
    → All test (entries (slice_set xs n x))
entries-set test [] n x h k = refl
entries-set test (None ∷ ys) zero None h k = h
entries-set test (None ∷ ys) zero (Some id) h k = and_both (test id) (list_all test (entries ys)) k h
entries-set test (Some y ∷ ys) zero None h k = (and_parts (test y) (list_all test (entries ys)) h).1
entries-set test (Some y ∷ ys) zero (Some id) h k =
    and_both (test id) (list_all test (entries ys)) k (and_parts (test y) (list_all test (entries ys)) h).1
entries-set test (None ∷ ys) (suc n) x h k = entries-set test ys n x h k
entries-set test (Some y ∷ ys) (suc n) x h k =
    let parts = and_parts (test y) (list_all test (entries ys)) h in
    and_both (test y) (list_all test (entries (slice_set ys n x))) parts.0 (entries-set test ys n x parts.1 k)

entries-none : (test : ℕ → Bool) (n : ℕ) → All test (entries (replicate n None))
entries-none test zero = refl
entries-none test (suc n) = entries-none test n

zeros-none : (test : ℕ → Bool) (n : ℕ) → All test (entries (map held_by_word (replicate n (PlainWord 0))))
zeros-none test zero = refl
zeros-none test (suc n) = zeros-none test n

pub all-weaker : (test less : ℕ → Bool) → ((id : ℕ) → test id ≡ true → less id ≡ true) → (ids : List ℕ) → All test ids → All less ids
all-weaker test less implies [] h = refl
all-weaker test less implies (id ∷ ids) h =
    let parts = and_parts (test id) (list_all test ids) h in
    and_both (less id) (list_all less ids) (implies id parts.0) (all-weaker test less implies ids parts.1)

-- ---- what a client holds

-- each id that a client holds passes a test: in slots, in holds, in messages and in live reservations
pub record AreHeld (test : ℕ → Bool) (g : Graph) : Type 0 where
  pub slots : All test (ids_in_slots g)
  pub holds : All test (ids_in_holds g)
  pub messages : All test g.messages
  pub reservations : All test (ids_in_reservations g)

pub of_client : (test : ℕ → Bool) (g : Graph) → All test (ids_of_client g) → AreHeld test g
of_client test g h =
    let last = all_parts test ((ids_in_slots g ++ ids_in_holds g) ++ g.messages) (ids_in_reservations g) h in
    let third = all_parts test (ids_in_slots g ++ ids_in_holds g) g.messages last.0 in
    let first = all_parts test (ids_in_slots g) (ids_in_holds g) third.0 in
    record { slots = first.0; holds = first.1; messages = third.1; reservations = last.1 }

pub for_client : (test : ℕ → Bool) (g : Graph) → AreHeld test g → All test (ids_of_client g)
for_client test g a =
    all-append test ((ids_in_slots g ++ ids_in_holds g) ++ g.messages) (ids_in_reservations g)
    (all-append test (ids_in_slots g ++ ids_in_holds g) g.messages
    (all-append test (ids_in_slots g) (ids_in_holds g) a.slots a.holds) a.messages)
    a.reservations

-- ---- effects on what a client holds

module _ (test : ℕ → Bool) (g : Graph) (a : AreHeld test g) where
  -- a slot is written. Its table is among the tables, so what its other slots hold passes the test
  pub slot_written : (found : Found (Option ℕ)) (target : Option ℕ) → entry_at g.tables found.number ≡ Some found.list
      → PassesOrNull test target
      → AreHeld test (with_slot g found target)
  slot_written found target there passes = record {
    slots = all-set test slots_of g.tables found.number (Some (slice_set found.list found.index target)) a.slots
        (entries-set test found.list found.index target (table_passes found.list there) passes);
    holds = a.holds;
    messages = a.messages;
    reservations = a.reservations;
  }
    where
      entry_passes : (o : Option (Option Slots)) (table : Slots) → slice_get g.tables found.number ≡ o
          → option_and_then (λ entry. entry) o ≡ Some table → All test (entries table)
      entry_passes None table there is = absurd (none-some table is)
      entry_passes (Some None) table there is = absurd (none-some table is)
      entry_passes (Some (Some t)) table there is =
          subst (λ xs. All test (entries xs)) (same_Some t table is) (all-at test slots_of g.tables found.number (Some t) a.slots there)

      table_passes : (table : Slots) → entry_at g.tables found.number ≡ Some table → All test (entries table)
      table_passes table is = entry_passes (slice_get g.tables found.number) table refl is

  -- a word of an area is written
  pub word_written : (found : Found AreaWord) (word : AreaWord) → entry_at g.areas found.number ≡ Some found.list
      → PassesOrNull test (held_by_word word)
      → AreHeld test (with_word g found word)
  word_written found word there passes = record {
    slots = a.slots;
    holds = all-set test holds_of g.areas found.number (Some (slice_set found.list found.index word)) a.holds
        (subst (λ xs. All test (entries xs)) (sym (map-slice_set held_by_word found.list found.index word))
        (entries-set test (map held_by_word found.list) found.index (held_by_word word) (area_passes found.list there) passes));
    messages = a.messages;
    reservations = a.reservations;
  }
    where
      entry_passes : (o : Option (Option (List AreaWord))) (area : List AreaWord) → slice_get g.areas found.number ≡ o
          → option_and_then (λ entry. entry) o ≡ Some area → All test (entries (map held_by_word area))
      entry_passes None area there is = absurd (none-some area is)
      entry_passes (Some None) area there is = absurd (none-some area is)
      entry_passes (Some (Some t)) area there is =
          subst (λ xs. All test (entries (map held_by_word xs))) (same_Some t area is)
          (all-at test holds_of g.areas found.number (Some t) a.holds there)

      area_passes : (area : List AreaWord) → entry_at g.areas found.number ≡ Some area → All test (entries (map held_by_word area))
      area_passes area is = entry_passes (slice_get g.areas found.number) area refl is

  -- a point gets a reservation, or another one
  pub reservation_written : (point : Numbered Point) (r : Reservation) → All test (targets_of_reservation r)
      → AreHeld test (with_reservation g point (Some r))
  reservation_written point r passes = record {
    slots = a.slots;
    holds = a.holds;
    messages = a.messages;
    reservations = all-set test targets_of_point g.points point.number
        (Some (record point.value { reservation = Some r })) a.reservations passes;
  }

  -- a point loses its reservation
  pub reservation_ended : (point : Numbered Point) → AreHeld test (with_reservation g point None)
  reservation_ended point = record {
    slots = a.slots;
    holds = a.holds;
    messages = a.messages;
    reservations = all-set test targets_of_point g.points point.number
        (Some (record point.value { reservation = None })) a.reservations refl;
  }

  -- the first message is taken
  pub message_taken : (id : ℕ) (ids : List ℕ) → g.messages ≡ id ∷ ids → AreHeld test (record g { messages = ids })
  message_taken id ids are = record {
    slots = a.slots;
    holds = a.holds;
    messages = (and_parts (test id) (list_all test ids) (subst (All test) are a.messages)).1;
    reservations = a.reservations;
  }

  -- a table is made, of null slots
  pub table_made : (slots : ℕ) → AreHeld test (record g { tables = with_last g.tables (Some (replicate slots None)) })
  table_made slots = record {
    slots = all-last test slots_of g.tables (Some (replicate slots None)) a.slots (entries-none test slots);
    holds = a.holds;
    messages = a.messages;
    reservations = a.reservations;
  }

  -- a table is dropped
  pub table_dropped : (number : ℕ) → AreHeld test (record g { tables = slice_set g.tables number None })
  table_dropped number = record {
    slots = all-set test slots_of g.tables number None a.slots refl;
    holds = a.holds;
    messages = a.messages;
    reservations = a.reservations;
  }

  -- an area is made, of zeros
  pub area_made : (words : ℕ) → AreHeld test (record g { areas = with_last g.areas (Some (replicate words (PlainWord 0))) })
  area_made words = record {
    slots = a.slots;
    holds = all-last test holds_of g.areas (Some (replicate words (PlainWord 0))) a.holds (zeros-none test words);
    messages = a.messages;
    reservations = a.reservations;
  }

  -- an area is dropped
  pub area_dropped : (number : ℕ) → AreHeld test (record g { areas = slice_set g.areas number None })
  area_dropped number = record {
    slots = a.slots;
    holds = all-set test holds_of g.areas number None a.holds refl;
    messages = a.messages;
    reservations = a.reservations;
  }

  -- a point is made, without a reservation
  pub point_made : (pool : ℕ) (rank : Rank)
      → AreHeld test (record g { points = with_last g.points (Some (record { pool = pool; rank = rank; reservation = None })) })
  point_made pool rank = record {
    slots = a.slots;
    holds = a.holds;
    messages = a.messages;
    reservations = all-last test targets_of_point g.points
        (Some (record { pool = pool; rank = rank; reservation = None })) a.reservations refl;
  }

  -- a point is dropped
  pub point_dropped : (number : ℕ) → AreHeld test (record g { points = slice_set g.points number None })
  point_dropped number = record {
    slots = a.slots;
    holds = a.holds;
    messages = a.messages;
    reservations = all-set test targets_of_point g.points number None a.reservations refl;
  }

  -- a weaker test is passed
  pub weaker_test : (less : ℕ → Bool) → ((id : ℕ) → test id ≡ true → less id ≡ true) → AreHeld less g
  weaker_test less implies = record {
    slots = all-weaker test less implies (ids_in_slots g) a.slots;
    holds = all-weaker test less implies (ids_in_holds g) a.holds;
    messages = all-weaker test less implies g.messages a.messages;
    reservations = all-weaker test less implies (ids_in_reservations g) a.reservations;
  }

-- ---- a graph in which as much is held

-- the same ids are held where tables, areas, messages and points are the same
pub held_again : (test : ℕ → Bool) (g h : Graph) → h.tables ≡ g.tables → h.areas ≡ g.areas → h.messages ≡ g.messages
    → h.points ≡ g.points → AreHeld test g → AreHeld test h
held_again test g h tables areas messages points a = record {
  slots = subst (λ ts. All test (flat_map slots_of ts)) (sym tables) a.slots;
  holds = subst (λ xs. All test (flat_map holds_of xs)) (sym areas) a.holds;
  messages = subst (All test) (sym messages) a.messages;
  reservations = subst (λ ps. All test (flat_map targets_of_point ps)) (sym points) a.reservations;
}

-- ---- effects on tables of blocks

module _ (test : ℕ → Bool) (g : Graph) (a : All test (ids_in_blocks g)) where
  -- a place of a table of blocks is written
  pub place_written : (found : Found (Option ℕ)) (block : Option ℕ) → slice_get g.blocks found.number ≡ Some found.list
      → PassesOrNull test block → All test (ids_in_blocks (with_block_place g found block))
  place_written found block there passes =
      let parts = parts_pass test (ids_in_places g) (ids_in_caches g) a in
      all-append test (ids_in_places (with_block_place g found block)) (ids_in_caches g)
      (all-set test entries g.blocks found.number (slice_set found.list found.index block) parts.0
      (entries-set test found.list found.index block (all-at test entries g.blocks found.number found.list parts.0 there) passes)) parts.1

  -- a table of blocks is made, of empty places
  pub blocks_made : (places : ℕ) → All test (ids_in_blocks (record g { blocks = with_last g.blocks (replicate places None) }))
  blocks_made places =
      let parts = parts_pass test (ids_in_places g) (ids_in_caches g) a in
      all-append test (ids_in_places (record g { blocks = with_last g.blocks (replicate places None) })) (ids_in_caches g)
      (all-last test entries g.blocks (replicate places None) parts.0 (entries-none test places)) parts.1

-- ---- cells

-- a new block refers to nothing
new_from : (test : ℕ → Bool) (f : Layout) (head k count : ℕ) → All test (targets_of_cells (new_cells_from f head k count))
new_from test f head k zero = refl
new_from test f head k (suc count) = one (f.is_reference head k) (new_from test f head (k + 1) count)
  where
    one : (b : Bool) → All test (targets_of_cells (new_cells_from f head (k + 1) count))
        → All test (targets_of_cells ((if b then ReferenceCell None 0 else NumberCell 0) ∷ new_cells_from f head (k + 1) count))
    one true rest = rest
    one false rest = rest

pub new_cells_written : (test : ℕ → Bool) (f : Layout) (head : ℕ) → All test (targets_of_cells (new_cells f head))
new_cells_written test f head = new_from test f head 1 (f.size head - 1)
