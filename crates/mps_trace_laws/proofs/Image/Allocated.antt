-- A block is put where nothing is: allocated, or committed in the place of a reservation. And a reservation is made there.
use Rattle.std.proofs.Common.{◌≡◌, ◌∙◌, ◌⊎◌, ℕ, ◌+◌, ◌-◌, ◌<◌, Bool, refl, sym, ap, List, [], ◌∷◌, ◌++◌, length, Option, Some, None, subst, inl, inr, arith, slice_index}
use Rattle.std.proofs.lemmas.Bool.{cases_eq, cases_lt}
use Rattle.std.proofs.lemmas.Option.{none-some, same_Some, slice_get_within}
use Rattle.std.specs.Prelude.{slice_get, slice_set, option_and_then, ◌≢◌}
use Rattle.mps_base.specs.Address.{Address, Id, Word, word_of}
use Rattle.mps_model.specs.Graph.{Cell, HeadCell, NumberCell, ReferenceCell, Automatic, Object, Point, Reservation, entry_at, size_of}
use Rattle.mps_model.specs.World.{PointMemory, extents_of}
use Rattle.mps_abstract.specs.Colours.{Colours}
use Rattle.mps_trace_laws.specs.Image.Memory.{Setting, Memory, Lies, LiesReserved, live_reservation}
use Rattle.mps_trace_laws.specs.Image.Image.{IsCellWord, IsAddress, LieApart, IsFixedWord, CellSet, ImageStands}
use Rattle.mps_trace_laws.specs.Image.Changes.{setting_made, addresses_made, setting_with_points, memory_with_reservation, memory_without_reservation, IsOfNoMovedBlock, AreFree, AreHome, memory_allocated, IsAllocated}
use Rattle.mps_trace_laws.proofs.Image.Entries.{slice_get-last, slice_get-still, slice_get-pushed, slice_get-set_same, slice_get-set_other, entry_pushed, entry_still}
use Rattle.mps_trace_laws.proofs.Image.InOrder.{BeginElsewhere}
use Rattle.mps_trace_laws.proofs.Image.LastObject.{old_below, lies_made}
use Rattle.mps_trace_laws.proofs.Image.ChangedRuns.{blocks_elsewhere, runs_made, runs_reserved}
use Rattle.mps_trace_laws.proofs.Image.Made.{image_made}
use Rattle.mps_trace_laws.proofs.Image.Placed.{placed_with_points}
use Rattle.mps_trace_laws.proofs.Image.Reserved.{image_reserved}
use Rattle.mps_trace_laws.proofs.Image.Reservations.{reserved_cases, reserved_unforwarded, reservation_ended}

-- ---- a block

module _ (s : Setting) (addresses : List (Option Address)) (o : Object) (at : Address) (placed : LieApart s addresses)
    (numbered : length addresses ≡ length s.objects) (positive : 0 < size_of o) (free : AreFree s addresses at (size_of o))
    (home : AreHome s at (size_of o) o.pool) where
  abbrev after : List (Option Address)
  after = addresses_made addresses at

  abbrev objects : List Object
  objects = s.objects ++ o ∷ []

  lies : (id i : ℕ) (p : Object) (n : Word) → Lies objects after id i p n
      → ((id ≡ length s.objects) × (p ≡ o) × (i < size_of o) × (n ≡ word_of at + i)) ⊎ Lies s.objects addresses id i p n
  lies id i p n l = lies_made s.objects addresses o at numbered id i p n l

  -- a fact of words that holds of all blocks and of the new words holds of all blocks then
  of_lying : (P : Object → Word → Type 0) → ((id i : ℕ) (p : Object) (n : Word) → Lies s.objects addresses id i p n → P p n)
      → ((i : ℕ) → i < size_of o → P o (word_of at + i)) → (id i : ℕ) (p : Object) (n : Word) → Lies objects after id i p n → P p n
  of_lying P others new id i p n l =
      elim (lies id i p n l) [
        | inl e ↦ subst (λ y. P p y) (sym e.3) (subst (λ (q : Object). P q (word_of at + i)) (sym e.1) (new i e.2))
        | inr e ↦ others id i p n e
      ]

  object_of : (id : Id) (p : Object) → slice_get objects id ≡ Some p
      → ((id ≡ length s.objects) × (p ≡ o)) ⊎ (slice_get s.objects id ≡ Some p)
  object_of id p e = slice_get-pushed s.objects o id p e

  pub placed_made : LieApart (setting_made s o s.points s.point_memories) after
  placed_made = record {
    exists = λ id a e. elim (entry_pushed addresses at id a e) [
      | inl x ↦ (o, subst (λ y. slice_get objects y ≡ Some o) (sym (x.0 ∙ numbered)) (slice_get-last s.objects o))
      | inr x ↦ let p = placed.exists id a x in (p.0, slice_get-still s.objects o id p.0 p.1)
    ];
    positive = λ id a p e x. elim (object_of id p x) [
      | inl y ↦ subst (λ (q : Object). 0 < size_of q) (sym y.1) positive
      | inr y ↦
          elim (entry_pushed addresses at id a e) [
            | inl z ↦ absurd (omega (arith, slice_get_within s.objects id p y, z.0, numbered))
            | inr z ↦ placed.positive id a p z y
          ]
    ];
    address = λ id a e. elim (entry_pushed addresses at id a e) [
      | inl x ↦ subst IsAddress (sym x.1) home.address
      | inr x ↦ placed.address id a x
    ];
    address_at_flip = placed.address_at_flip;
    within = of_lying (λ p n. n < s.size) placed.within free.within;
    apart = λ i j a b p q n l r. elim (lies i a p n l) [
      | inl x ↦
          elim (lies j b q n r) [
            | inl y ↦ x.0 ∙ sym y.0
            | inr y ↦ absurd (free.unoccupied a j b q x.2 (subst (λ z. Lies s.objects addresses j b q z) x.3 y))
          ]
      | inr x ↦
          elim (lies j b q n r) [
            | inl y ↦ absurd (free.unoccupied b i a p y.2 (subst (λ z. Lies s.objects addresses i a p z) y.3 x))
            | inr y ↦ placed.apart i j a b p q n x y
          ]
    ];
    home = of_lying (λ p n. s.pool_over n ≡ Some p.pool) placed.home home.over;
    whole = λ id i p n a l e. elim (lies id i p n l) [
      | inl x ↦
          elim (entry_pushed addresses at id a e) [
            | inl y ↦ ap s.is_condemned_over x.3 ∙ home.whole i x.2 ∙ ap (λ z. s.is_condemned_over (word_of z)) (sym y.1)
            | inr y ↦ absurd (omega (arith, old_below s.objects addresses o at numbered id a y, x.0))
          ]
      | inr x ↦
          elim (entry_pushed addresses at id a e) [
            | inl y ↦ absurd (omega (arith, old_below s.objects addresses o at numbered id x.at x.address, y.0, numbered))
            | inr y ↦ placed.whole id i p n a x y
          ]
    ];
    reserved_positive = placed.reserved_positive;
    reserved_within = placed.reserved_within;
    reserved_alone = placed.reserved_alone;
    reserved_apart = λ id point i j p r n l there. elim (lies id i p n l) [
      | inl x ↦ free.unreserved i point j r x.2 (subst (λ y. LiesReserved s.points s.point_memories point j r y) x.3 there)
      | inr x ↦ placed.reserved_apart id point i j p r n x there
    ];
  }

pub block_allocated : (s : Setting) (m : Memory) (addresses : List (Option Address)) (k : Colours) (done : CellSet) (o : Object)
    (at : Address)
    (words : List ℕ) (kept : Word → Bool) → ImageStands s m addresses k done → IsAllocated s m addresses k o at words kept
    → AreFree s addresses at (size_of o) → AreHome s at (size_of o) o.pool
    → ImageStands (setting_made s o s.points s.point_memories) (memory_allocated m words kept at (size_of o))
    (addresses_made addresses at) k done
block_allocated s m addresses k done o at words kept st v free home =
    let runs =
    runs_made s m addresses o at v.numbered st.placed
    (λ id i p l. free.unoccupied 0 id i p v.positive
    (subst (λ y. Lies s.objects addresses id i p y) (let e : word_of at ≡ word_of at + 0 = omega arith in e) l))
    st.runs
    in
    image_made s m (memory_allocated m words kept at (size_of o)) addresses k done o at s.points s.point_memories st (record {
      placed = placed_made s addresses o at st.placed v.numbered v.positive free home;
      runs = record { blocks = runs.blocks; reservations = runs.reservations; covered = runs.covered };
      numbered = v.numbered;
      not_white = v.not_white;
      not_grey = v.not_grey;
      fresh = v.fresh;
      mark = v.mark;
      kept_others = v.kept_others;
      grey_same = λ n. refl;
      reserved = λ i l r n x. x;
      long = v.long;
      words = v.cells;
      others = v.others;
      clear = free.unforwarded;
    })

-- a fixed cell stays so where there is one object more
fixed_still : (condemned : List Id) (addresses : List (Option Address)) (at : Address) (k : Colours) (head : ℕ) (c : Cell) (word : ℕ)
    → IsFixedWord condemned addresses k head c word → IsFixedWord condemned (addresses_made addresses at) k head c word
fixed_still condemned addresses at k head c word f = record { holds = go c f.holds; not_white = f.not_white }
  where
    go : (d : Cell) → IsCellWord addresses [] head d word → IsCellWord (addresses_made addresses at) [] head d word
    go HeadCell h = h
    go (NumberCell number) h = h
    go (ReferenceCell None tag) h = h
    go (ReferenceCell (Some id) tag) h = record {
      address = h.address;
      is = h.is;
      means = elim h.means [
        | inl e ↦ inl (entry_still addresses (Some at) id h.address e)
        | inr e ↦ inr e
      ];
    }

-- ---- a reservation

module _ (s : Setting) (m : Memory) (addresses : List (Option Address)) (k : Colours) (done : CellSet)
    (st : ImageStands s m addresses k done)
    (i : ℕ) (p : Option Point) (memory : PointMemory) (point : slice_get s.points i ≡ Some p)
    (has : slice_get s.point_memories i ≡ Some memory)
  where
    -- a live reservation is committed: it ends, and an object with its cells is where it was
    pub block_committed : (q : Reservation) → live_reservation p ≡ Some q → (p' : Point) → live_reservation (Some p') ≡ None
        → (pool : ℕ) (is_weak : Bool) (kept : Word → Bool)
        → IsAllocated (setting_with_points s (slice_set s.points i (Some p')) s.point_memories)
        (memory_without_reservation m memory.reserved_at) addresses k (record { pool = pool; body = Automatic q.head q.cells is_weak })
        memory.reserved_at m.words kept
        → AreHome s memory.reserved_at (length q.cells) pool
        → ImageStands
        (setting_made (setting_with_points s (slice_set s.points i (Some p')) s.point_memories)
        (record { pool = pool; body = Automatic q.head q.cells is_weak }) (slice_set s.points i (Some p')) s.point_memories)
        (memory_allocated (memory_without_reservation m memory.reserved_at) m.words kept memory.reserved_at (length q.cells))
        (addresses_made addresses memory.reserved_at) k done
    block_committed q live p' none pool is_weak kept v home =
        let points = slice_set s.points i (Some p') in
        let there : live_reservation (entry_at s.points i) ≡ Some q = ap (λ e. live_reservation (option_and_then (λ o. o) e)) point
        ∙ live in
        let its_word : (l : ℕ) → l < length q.cells → LiesReserved s.points s.point_memories i l q (word_of memory.reserved_at + l) =
        λ l lt. record { memory = memory; reserved = there; has = has; within = lt; is = refl }
        in
        block_allocated (setting_with_points s points s.point_memories) (memory_without_reservation m memory.reserved_at) addresses k done
        (record { pool = pool; body = Automatic q.head q.cells is_weak }) memory.reserved_at m.words kept
        (reservation_ended s m addresses k done st i p memory point has q live p' none) v (record {
          within = λ l lt. st.placed.reserved_within i l q (word_of memory.reserved_at + l) (its_word l lt);
          unoccupied = λ l id j o lt x.
              st.placed.reserved_apart id i j l o q (word_of memory.reserved_at + l) x (its_word l lt);
          unreserved = λ l j l' r lt x.
              elim (reserved_cases s i p point p' s.point_memories (λ j' other. refl) j l' r (word_of memory.reserved_at + l) x) [
                | inl e ↦ none-some r (sym none ∙ e.1)
                | inr e ↦ e.0 (st.placed.reserved_alone j i l' l r q (word_of memory.reserved_at + l) e.1 (its_word l lt))
              ];
          unforwarded = λ l lt.
              record {
                clear = (reserved_unforwarded s m addresses k done st i l q (word_of memory.reserved_at + l)
                    (its_word l lt)).clear;
              };
        }) (record { address = home.address; over = home.over; whole = home.whole })

    -- the cells of a committed block are fixed, as those of its reservation were
    pub committed_cells : (q : Reservation) → live_reservation p ≡ Some q → (l : ℕ) (c : Cell) → slice_get q.cells l ≡ Some c
        → IsFixedWord s.condemned (addresses_made addresses memory.reserved_at) k q.head c
        (slice_index m.words (word_of memory.reserved_at + l))
    committed_cells q live l c cell =
        fixed_still s.condemned addresses memory.reserved_at k q.head c (slice_index m.words (word_of memory.reserved_at + l))
        (st.fixed.reserved i l q (word_of memory.reserved_at + l) c (record {
          memory = memory;
          reserved = ap (λ e. live_reservation (option_and_then (λ o. o) e)) point ∙ live;
          has = has;
          within = slice_get_within q.cells l c cell;
          is = refl;
        }) cell)

    -- a reservation is made where nothing is
    pub reservation_made : live_reservation p ≡ None → (p' : Point) (q : Reservation) (there : PointMemory) (words : List ℕ)
        → live_reservation (Some p') ≡ Some q → 0 < length q.cells → AreFree s addresses there.reserved_at (length q.cells)
        → length words ≡ length m.words
        → ((l : ℕ) (c : Cell) → slice_get q.cells l ≡ Some c
        → IsFixedWord s.condemned addresses k q.head c (slice_index words (word_of there.reserved_at + l)))
        → ((n : Word) → ((l : ℕ) → l < length q.cells → n ≢ word_of there.reserved_at + l) → slice_index words n ≡ slice_index m.words n)
        → ImageStands (setting_with_points s (slice_set s.points i (Some p')) (slice_set s.point_memories i there))
        (memory_with_reservation (record m { words = words }) there.reserved_at (length q.cells)) addresses k done
    reservation_made none p' q there words live positive free long fixed others =
        image_reserved s m (memory_with_reservation (record m { words = words }) there.reserved_at (length q.cells)) addresses k done points
        memories st (record {
          placed = placed;
          runs =
              let r =
              runs_reserved s m addresses i p memory point has st.runs p' q there none live no_block_begins
              (λ j r n other live' has' e. free.unreserved 0 j 0 r positive (record {
                memory = n;
                reserved = live';
                has = has';
                within = st.placed.reserved_positive j r live';
                is = omega (arith, e);
              }))
              in
              record { blocks = r.blocks; reservations = r.reservations; covered = r.covered };
          kept_same = λ n. refl;
          grey_same = λ n. refl;
          long = long;
          cells = λ j l r n c x cell. elim (cases j l r n x) [
            | inl e ↦
                inr (subst (λ y. IsFixedWord s.condemned addresses k r.head c (slice_index words y)) (sym e.3)
                (subst (λ (y : Reservation). IsFixedWord s.condemned addresses k y.head c
                (slice_index words (word_of there.reserved_at + l))) (sym e.1)
                (fixed l c (subst (λ (y : Reservation). slice_get y.cells l ≡ Some c) e.1 cell))))
            | inr y ↦
                inl (
                  r,
                  y,
                  cell,
                  refl,
                  others n (λ l' lt e. free.unreserved l' j l r lt
                      (subst (λ z. LiesReserved s.points s.point_memories j l r z) e y)),
                )
          ];
          written = λ n. elim (written n) [
            | inl e ↦ inl e
            | inr e ↦ inr (i, e.0, q, new_word e.0 n e.1 e.2)
          ];
          clear = λ j l r n x. elim (cases j l r n x) [
            | inl e ↦ subst (λ y. IsOfNoMovedBlock s addresses y) (sym e.3) (free.unforwarded l e.2)
            | inr y ↦ reserved_unforwarded s m addresses k done st j l r n y
          ];
        })
      where
        points : List (Option Point)
        points = slice_set s.points i (Some p')

        memories : List PointMemory
        memories = slice_set s.point_memories i there

        -- a word is as it was, or is one of the reservation
        written : (n : Word) → (slice_index words n ≡ slice_index m.words n)
            ⊎ ((l : ℕ) × (l < length q.cells) × (n ≡ word_of there.reserved_at + l))
        written n =
            elim (cases_lt n (word_of there.reserved_at)) [
              | inl below ↦ inl (others n (λ l lt e. omega (arith, below, e)))
              | inr above ↦
                  elim (cases_lt n (word_of there.reserved_at + length q.cells)) [
                    | inl inside ↦ inr (n - word_of there.reserved_at, omega (arith, above, inside), omega (arith, above))
                    | inr past ↦ inl (others n (λ l lt e. omega (arith, past, lt, e)))
                  ]
            ]

        there_is : entry_at (slice_set s.points i (Some p')) i ≡ Some p'
        there_is = ap (option_and_then (λ e. e)) (slice_get-set_same s.points i p (Some p') point)

        others_same : (j : ℕ) → j ≢ i → slice_get (slice_set s.point_memories i there) j ≡ slice_get s.point_memories j
        others_same j other = slice_get-set_other s.point_memories i j there other

        new_memory : slice_get (slice_set s.point_memories i there) i ≡ Some there
        new_memory = slice_get-set_same s.point_memories i memory there has

        new_word : (l : ℕ) (n : Word) → l < length q.cells → n ≡ word_of there.reserved_at + l
            → LiesReserved (slice_set s.points i (Some p')) (slice_set s.point_memories i there) i l q n
        new_word l n lt e = record { memory = there; reserved = ap live_reservation there_is ∙ live; has = new_memory; within = lt; is = e }

        cases : (j l : ℕ) (r : Reservation) (n : Word)
            → LiesReserved (slice_set s.points i (Some p')) (slice_set s.point_memories i there) j l r n
            → ((j ≡ i) × (r ≡ q) × (l < length q.cells) × (n ≡ word_of there.reserved_at + l))
            ⊎ LiesReserved s.points s.point_memories j l r n
        cases j l r n x =
            elim (reserved_cases s i p point p' (slice_set s.point_memories i there) others_same j l r n x) [
              | inl e ↦
                  let same : r ≡ q = same_Some r q (sym e.1 ∙ live) in
                  let at_there : x.memory ≡ there =
                  same_Some x.memory there (sym x.has ∙ ap (slice_get (slice_set s.point_memories i there)) e.0 ∙ new_memory)
                  in
                  inl (
                    e.0,
                    same,
                    subst (λ (y : Reservation). l < length y.cells) same x.within,
                    x.is ∙ ap (λ (y : PointMemory). word_of y.reserved_at + l) at_there,
                  )
              | inr e ↦ inr e.1
            ]

        no_block_begins : BeginElsewhere (word_of there.reserved_at)
            (extents_of s.objects addresses)
        no_block_begins =
            blocks_elsewhere s addresses (word_of there.reserved_at) st.placed (λ id l o x.
            free.unoccupied 0 id l o positive
            (subst (λ y. Lies s.objects addresses id l o y)
            (let e : word_of there.reserved_at ≡ word_of there.reserved_at + 0 = omega arith in e) x))

        placed : LieApart (setting_with_points s (slice_set s.points i (Some p')) (slice_set s.point_memories i there)) addresses
        placed =
            placed_with_points s addresses st.placed (slice_set s.points i (Some p')) (slice_set s.point_memories i there)
            (λ j r e. elim (cases_eq j i) [
              | inl same ↦
                  let is_q : r ≡ q =
                  same_Some r q (sym e ∙ ap live_reservation (ap (entry_at (slice_set s.points i (Some p'))) same ∙ there_is) ∙ live)
                  in
                  subst (λ (y : Reservation). 0 < length y.cells) (sym is_q) positive
              | inr other ↦
                  st.placed.reserved_positive j r
                  (ap (λ x. live_reservation (option_and_then (λ o. o) x)) (sym (slice_get-set_other s.points i j (Some p') other)) ∙ e)
            ])
            (λ j l r n x. elim (cases j l r n x) [
              | inl e ↦ subst (λ y. y < s.size) (sym e.3) (free.within l e.2)
              | inr y ↦ st.placed.reserved_within j l r n y
            ])
            (λ a b l l' r r' n x y. elim (cases a l r n x) [
              | inl e ↦
                  elim (cases b l' r' n y) [
                    | inl f ↦ e.0 ∙ sym f.0
                    | inr f ↦
                        absurd (free.unreserved l b l' r' e.2 (subst (λ z. LiesReserved s.points s.point_memories b l' r' z) e.3 f))
                  ]
              | inr e ↦
                  elim (cases b l' r' n y) [
                    | inl f ↦
                        absurd (free.unreserved l' a l r f.2 (subst (λ z. LiesReserved s.points s.point_memories a l r z) f.3 e))
                    | inr f ↦ st.placed.reserved_alone a b l l' r r' n e f
                  ]
            ])
            (λ id j l l' o r n x y. elim (cases j l' r n y) [
              | inl e ↦ free.unoccupied l' id l o e.2 (subst (λ z. Lies s.objects addresses id l o z) e.3 x)
              | inr f ↦ st.placed.reserved_apart id j l l' o r n x f
            ])
