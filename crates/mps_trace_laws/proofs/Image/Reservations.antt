-- A reservation of one point is made, written, or ends: the image then, from what the call writes and where nothing lay.
use Rattle.std.proofs.Common.{◌≡◌, ◌∙◌, ◌⊎◌, ℕ, ◌+◌, ◌<◌, refl, sym, ap, List, length, Option, Some, None, subst, inl, inr, arith, slice_index}
use Rattle.std.proofs.lemmas.Bool.{cases_eq}
use Rattle.std.proofs.lemmas.Option.{none-some, same_Some, slice_get_within}
use Rattle.std.proofs.lemmas.List.{get_or-set_same, get_or-set_other, length-set}
use Rattle.std.specs.Prelude.{slice_get, slice_set, option_and_then, ◌≢◌}
use Rattle.mps_base.specs.Address.{Address, Word, word_of}
use Rattle.mps_model.specs.Graph.{Cell, Point, Reservation, entry_at}
use Rattle.mps_model.specs.World.{PointMemory, extents_of}
use Rattle.mps_abstract.specs.Colours.{Colours}
use Rattle.mps_trace_laws.specs.Image.Memory.{Setting, Memory, LiesReserved, live_reservation}
use Rattle.mps_trace_laws.specs.Image.Image.{LieApart, IsFixedWord, CellSet, ImageStands}
use Rattle.mps_trace_laws.specs.Image.Changes.{setting_with_points, memory_with_word, memory_without_reservation, IsOfNoMovedBlock}
use Rattle.mps_trace_laws.proofs.Image.Entries.{slice_get-set_same, slice_get-set_other}
use Rattle.mps_trace_laws.proofs.Image.InOrder.{BeginElsewhere}
use Rattle.mps_trace_laws.proofs.Image.CellChanged.{set_cases}
use Rattle.mps_trace_laws.proofs.Image.ChangedRuns.{blocks_elsewhere, runs_ended, runs_written}
use Rattle.mps_trace_laws.proofs.Image.Placed.{placed_with_points}
use Rattle.mps_trace_laws.proofs.Image.Reserved.{image_reserved}

-- ---- one point among others

module _ (s : Setting) (i : ℕ) (p : Option Point) (point : slice_get s.points i ≡ Some p) (p' : Point) (memories' : List PointMemory)
    (others : (j : ℕ) → j ≢ i → slice_get memories' j ≡ slice_get s.point_memories j) where
  abbrev points' : List (Option Point)
  points' = slice_set s.points i (Some p')

  there : entry_at points' i ≡ Some p'
  there = ap (option_and_then (λ e. e)) (slice_get-set_same s.points i p (Some p') point)

  -- a reservation after the call is that of the point, or was there
  pub reserved_cases : (j l : ℕ) (r : Reservation) (n : Word) → LiesReserved points' memories' j l r n
      → ((j ≡ i) × (live_reservation (Some p') ≡ Some r)) ⊎ ((j ≢ i) × LiesReserved s.points s.point_memories j l r n)
  reserved_cases j l r n x =
      elim (cases_eq j i) [
        | inl same ↦ inl (same, sym (ap live_reservation (ap (entry_at points') same ∙ there)) ∙ x.reserved)
        | inr other ↦
            inr (
              other,
              record {
                memory = x.memory;
                reserved =
                    ap (λ e. live_reservation (option_and_then (λ o. o) e)) (sym (slice_get-set_other s.points i j (Some p') other))
                    ∙ x.reserved;
                has = sym (others j other) ∙ x.has;
                within = x.within;
                is = x.is;
              },
            )
      ]

-- where each word of a reservation was one of a reservation of the same point, all lies apart as before
pub apart_still : (s : Setting) (addresses : List (Option Address)) (points : List (Option Point)) (memories : List PointMemory)
    → LieApart s addresses → ((j : ℕ) (r : Reservation) → live_reservation (entry_at points j) ≡ Some r → 0 < length r.cells)
    → ((j l : ℕ) (r : Reservation) (n : Word) → LiesReserved points memories j l r n
    → (q : Reservation) × LiesReserved s.points s.point_memories j l q n)
    → LieApart (setting_with_points s points memories) addresses
apart_still s addresses points memories placed positive back =
    placed_with_points s addresses placed points memories positive
    (λ j l r n x. let y = back j l r n x in placed.reserved_within j l y.0 n y.1)
    (λ a b j l r q n x y.
    let u = back a j r n x in
    let v = back b l q n y in
    placed.reserved_alone a b j l u.0 v.0 n u.1 v.1)
    (λ id j l b o r n x y. let u = back j b r n y in placed.reserved_apart id j l b o u.0 n x u.1)

-- no block that has moved had a word of a live reservation
pub reserved_unforwarded : (s : Setting) (m : Memory) (addresses : List (Option Address)) (k : Colours) (done : CellSet)
    → ImageStands s m addresses k done → (j l : ℕ) (r : Reservation) (n : Word) → LiesReserved s.points s.point_memories j l r n
    → IsOfNoMovedBlock s addresses n
reserved_unforwarded s m addresses k done st j l r n x = record {
  clear = λ id from to o q was now apart object lt e.
      let f = st.words.forwarded id from to o was now apart object in
      f.unreserved q j l r lt (subst (λ y. LiesReserved s.points s.point_memories j l r y) e x);
}

module _ (s : Setting) (m : Memory) (addresses : List (Option Address)) (k : Colours) (done : CellSet)
    (st : ImageStands s m addresses k done)
    (i : ℕ) (p : Option Point) (memory : PointMemory) (point : slice_get s.points i ≡ Some p)
    (has : slice_get s.point_memories i ≡ Some memory)
    (q : Reservation) (live : live_reservation p ≡ Some q) where
  live_there : live_reservation (entry_at s.points i) ≡ Some q
  live_there = ap (λ e. live_reservation (option_and_then (λ o. o) e)) point ∙ live

  positive : 0 < length q.cells
  positive = st.placed.reserved_positive i q live_there

  -- word l of the reservation
  its_word : (l : ℕ) → l < length q.cells → LiesReserved s.points s.point_memories i l q (word_of memory.reserved_at + l)
  its_word l lt = record { memory = memory; reserved = live_there; has = has; within = lt; is = refl }

  first_word : LiesReserved s.points s.point_memories i 0 q (word_of memory.reserved_at)
  first_word = record { memory = memory; reserved = live_there; has = has; within = positive; is = omega arith }

  -- no other begins where it does
  begins_alone : (j : ℕ) (r : Reservation) (n : PointMemory) → j ≢ i → live_reservation (entry_at s.points j) ≡ Some r
      → slice_get s.point_memories j ≡ Some n → word_of n.reserved_at ≢ word_of memory.reserved_at
  begins_alone j r n other live' has' e =
      other (st.placed.reserved_alone j i 0 0 r q (word_of memory.reserved_at) (record {
        memory = n;
        reserved = live';
        has = has';
        within = st.placed.reserved_positive j r live';
        is = omega (arith, e);
      }) first_word)

  no_block_begins : BeginElsewhere (word_of memory.reserved_at)
      (extents_of s.objects addresses)
  no_block_begins =
      blocks_elsewhere s addresses (word_of memory.reserved_at) st.placed
      (λ id l o x. st.placed.reserved_apart id i l 0 o q (word_of memory.reserved_at) x first_word)

  -- ---- it ends

  pub reservation_ended : (p' : Point) → live_reservation (Some p') ≡ None
      → ImageStands (setting_with_points s (slice_set s.points i (Some p')) s.point_memories)
      (memory_without_reservation m memory.reserved_at) addresses k done
  reservation_ended p' none =
      image_reserved s m (memory_without_reservation m memory.reserved_at) addresses k done
      (slice_set s.points i (Some p')) s.point_memories
      st (record {
        placed =
            apart_still s addresses (slice_set s.points i (Some p')) s.point_memories st.placed still_positive
            (λ j l r n x. (r, back j l r n x));
        runs = runs_ended s m addresses i p memory point has st.runs p' q live none no_block_begins begins_alone;
        kept_same = λ n. refl;
        grey_same = λ n. refl;
        long = refl;
        cells = λ j l r n c x cell. inl (r, back j l r n x, cell, refl, refl);
        written = λ n. inl refl;
        clear = λ j l r n x. reserved_unforwarded s m addresses k done st j l r n (back j l r n x);
      })
    where
      back : (j l : ℕ) (r : Reservation) (n : Word) → LiesReserved (slice_set s.points i (Some p')) s.point_memories j l r n
          → LiesReserved s.points s.point_memories j l r n
      back j l r n x =
          elim (reserved_cases s i p point p' s.point_memories (λ j' other. refl) j l r n x) [
            | inl e ↦ absurd (none-some r (sym none ∙ e.1))
            | inr e ↦ e.1
          ]

      still_positive : (j : ℕ) (r : Reservation) → live_reservation (entry_at (slice_set s.points i (Some p')) j) ≡ Some r
          → 0 < length r.cells
      still_positive j r e =
          elim (cases_eq j i) [
            | inl same ↦
                absurd (none-some r (sym none
                ∙ sym (ap live_reservation (ap (entry_at (slice_set s.points i (Some p'))) same
                ∙ there s i p point p' s.point_memories (λ j' other. refl)))
                ∙ e))
            | inr other ↦
                st.placed.reserved_positive j r
                (ap (λ x. live_reservation (option_and_then (λ o. o) x)) (sym (slice_get-set_other s.points i j (Some p') other)) ∙ e)
          ]

  -- ---- a cell of it is written

  pub reservation_written : (p' : Point) (l : ℕ) (new : Cell) (word : ℕ) → l < length q.cells
      → live_reservation (Some p') ≡ Some (record q { cells = slice_set q.cells l new })
      → IsFixedWord s.condemned addresses k q.head new word
      → ImageStands (setting_with_points s (slice_set s.points i (Some p')) s.point_memories)
      (memory_with_word m (word_of memory.reserved_at + l) word) addresses k done
  reservation_written p' l new word within live' fixed =
      image_reserved s m (memory_with_word m w word) addresses k done (slice_set s.points i (Some p')) s.point_memories st (record {
        placed = apart_still s addresses (slice_set s.points i (Some p')) s.point_memories st.placed still_positive back;
        runs =
            let r = runs_written s m addresses i p memory point has st.runs p' q q' live live' (sym (length-set q.cells l new)) in
            record { blocks = r.blocks; reservations = r.reservations; covered = r.covered };
        kept_same = λ n. refl;
        grey_same = λ n. refl;
        long = length-set m.words w word;
        cells = cells;
        written = λ n. elim (cases_eq n w) [
          | inl same ↦ inr (i, l, q', new_word n same)
          | inr other ↦ inl (get_or-set_other m.words w n word 0 other)
        ];
        clear = λ j l' r n x. let y = back j l' r n x in reserved_unforwarded s m addresses k done st j l' y.0 n y.1;
      })
    where
      w : Word
      w = word_of memory.reserved_at + l

      q' : Reservation
      q' = record q { cells = slice_set q.cells l new }

      points : List (Option Point)
      points = slice_set s.points i (Some p')

      back : (j l' : ℕ) (r : Reservation) (n : Word) → LiesReserved (slice_set s.points i (Some p')) s.point_memories j l' r n
          → (q₀ : Reservation) × LiesReserved s.points s.point_memories j l' q₀ n
      back j l' r n x =
          elim (reserved_cases s i p point p' s.point_memories (λ j' other. refl) j l' r n x) [
            | inl e ↦
                let same : record q { cells = slice_set q.cells l new } ≡ r = same_Some (record q { cells = slice_set q.cells l new }) r
                (sym live' ∙ e.1) in (
                  q,
                  record {
                    memory = x.memory;
                    reserved = ap (λ y. live_reservation (entry_at s.points y)) e.0 ∙ live_there;
                    has = x.has;
                    within =
                        let size : length (slice_set q.cells l new) ≡ length r.cells = ap (λ (y : Reservation). length y.cells) same in
                        omega (arith, x.within, size, length-set q.cells l new);
                    is = x.is;
                  },
                )
            | inr e ↦ (r, e.1)
          ]

      still_positive : (j : ℕ) (r : Reservation) → live_reservation (entry_at (slice_set s.points i (Some p')) j) ≡ Some r
          → 0 < length r.cells
      still_positive j r e =
          elim (cases_eq j i) [
            | inl same ↦
                let is_r : record q { cells = slice_set q.cells l new } ≡ r =
                same_Some (record q { cells = slice_set q.cells l new }) r
                (sym live'
                ∙ sym (ap live_reservation (ap (entry_at (slice_set s.points i (Some p'))) same
                ∙ there s i p point p' s.point_memories (λ j' other. refl)))
                ∙ e)
                in
                let size : length (slice_set q.cells l new) ≡ length r.cells = ap (λ (y : Reservation). length y.cells) is_r in
                omega (arith, positive, size, length-set q.cells l new)
            | inr other ↦
                st.placed.reserved_positive j r
                (ap (λ x. live_reservation (option_and_then (λ o. o) x)) (sym (slice_get-set_other s.points i j (Some p') other)) ∙ e)
          ]

      new_word : (n : Word) → n ≡ word_of memory.reserved_at + l
          → LiesReserved (slice_set s.points i (Some p')) s.point_memories i l (record q { cells = slice_set q.cells l new }) n
      new_word n e = record {
        memory = memory;
        reserved = ap live_reservation (there s i p point p' s.point_memories (λ j' other. refl)) ∙ live';
        has = has;
        within = omega (arith, within, length-set q.cells l new);
        is = e;
      }

      in_range : word_of memory.reserved_at + l < length m.words
      in_range =
          let lt = st.placed.reserved_within i l q (word_of memory.reserved_at + l) (its_word l within) in omega (arith, lt, st.words.long)

      cells : (j l' : ℕ) (r : Reservation) (n : Word) (c : Cell) → LiesReserved (slice_set s.points i (Some p')) s.point_memories j l' r n
          → slice_get r.cells l' ≡ Some c
          → ((q₀ : Reservation) × LiesReserved s.points s.point_memories j l' q₀ n × (slice_get q₀.cells l' ≡ Some c) × (q₀.head ≡ r.head)
          × (slice_index (slice_set m.words (word_of memory.reserved_at + l) word) n ≡ slice_index m.words n))
          ⊎ IsFixedWord s.condemned addresses k r.head c (slice_index (slice_set m.words (word_of memory.reserved_at + l) word) n)
      cells j l' r n c x cell =
          elim (reserved_cases s i p point p' s.point_memories (λ j' other. refl) j l' r n x) [
            | inl e ↦
                let same : record q { cells = slice_set q.cells l new } ≡ r =
                same_Some (record q { cells = slice_set q.cells l new }) r (sym live' ∙ e.1)
                in
                let at_memory : x.memory ≡ memory =
                same_Some x.memory memory (sym x.has ∙ ap (slice_get s.point_memories) e.0 ∙ has)
                in
                let n_is : n ≡ word_of memory.reserved_at + l' = x.is ∙ ap (λ (y : PointMemory). word_of y.reserved_at + l') at_memory in
                let cell' : slice_get (slice_set q.cells l new) l' ≡ Some c = ap (λ (y : Reservation). slice_get y.cells l') same ∙ cell in
                elim (set_cases q.cells l new l' c cell') [
                  | inl old ↦
                      let not_w : n ≢ word_of memory.reserved_at + l = λ z. old.0 (omega (arith, z, n_is)) in
                      let b = back j l' r n x in
                      inl (
                        q,
                        (record {
                          memory = x.memory;
                          reserved = ap (λ y. live_reservation (entry_at s.points y)) e.0 ∙ live_there;
                          has = x.has;
                          within = slice_get_within q.cells l' c old.1;
                          is = x.is;
                        }),
                        old.1,
                        ap (λ (y : Reservation). y.head) same,
                        get_or-set_other m.words (word_of memory.reserved_at + l) n word 0 not_w,
                      )
                  | inr z ↦
                      let n_w : n ≡ word_of memory.reserved_at + l = n_is ∙ ap (λ y. word_of memory.reserved_at + y) z.0 in
                      let value : slice_index (slice_set m.words (word_of memory.reserved_at + l) word) n ≡ word =
                      ap (slice_index (slice_set m.words (word_of memory.reserved_at + l) word)) n_w
                      ∙ get_or-set_same m.words (word_of memory.reserved_at + l) word 0 in_range
                      in
                      inr (subst (λ y. IsFixedWord s.condemned addresses k r.head c y) (sym value)
                      (subst (λ y. IsFixedWord s.condemned addresses k r.head y word) (sym z.1)
                      (subst (λ (y : Reservation). IsFixedWord s.condemned addresses k y.head new word) same fixed)))
                ]
            | inr e ↦
                let not_w : n ≢ word_of memory.reserved_at + l =
                λ z. e.0 (st.placed.reserved_alone j i l' l r q (word_of memory.reserved_at + l)
                (subst (λ y. LiesReserved s.points s.point_memories j l' r y) z e.1) (its_word l within))
                in
                inl (r, e.1, cell, refl, get_or-set_other m.words (word_of memory.reserved_at + l) n word 0 not_w)
          ]
