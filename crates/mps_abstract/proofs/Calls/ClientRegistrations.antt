-- Registrations made and taken away by the client, and what is remembered of what it holds.
use Rattle.std.proofs.Common.{◌≡◌, ◌∙◌, ◌⊎◌, ℕ, zero, suc, ◌+◌, ◌-◌, ◌<◌, ◌≤◌, Bool, true, false, refl, sym, ap, List, [], ◌∷◌, ◌++◌, length, Option, Some, None, subst, inl, inr, arith}
use Rattle.std.proofs.lemmas.Bool.{false≢true, or_cases, or_left, or_right, eqb-true, cases_lt, lt-ltb, le-ltb, eq-eqb}
use Rattle.std.proofs.lemmas.Option.{none-some, same_Some}
use Rattle.std.specs.Prelude.{◌==◌, ◌||◌, if◌then◌else◌, slice_get, option_map}
use Rattle.mps_base.specs.Address.{Id}
use Rattle.mps_model.specs.Graph.{contains, position_of_first, without_first, with_last, ids_of_client}
use Rattle.mps_model.specs.Collection.{Collection, is_settled}
use Rattle.mps_model.specs.World.{World, is_live}
use Rattle.mps_model.specs.Checked.{with_graph}
use Rattle.mps_model.specs.Collecting.{without_position, without_registration}
use Rattle.mps_model.specs.History.{remembering, with_client_remembered}
use Rattle.mps_abstract.specs.Collecting.{Collecting, Running, AreExamined, is_white_in}
use Rattle.mps_abstract.proofs.Counted.{counted_runs, survivors_again}
use Rattle.mps_abstract.proofs.Lists.{contains_append, contains_cases, index_below}
use Rattle.mps_abstract.proofs.Registrations.{StandsFirst, contains-without_first, length-without_first, slice_get-without_before, slice_get-without_after}
use Rattle.mps_abstract.proofs.Calls.ClientLists.{length-with_last, last_cases}

-- ---- where a number first stands

first_later : (x : ℕ) (xs : List ℕ) (n q position : ℕ) → (x == n) ≡ false → StandsFirst xs n q → q + 1 ≡ position
    → StandsFirst (x ∷ xs) n position
first_later x xs n q position other s e =
    subst (λ p. StandsFirst (x ∷ xs) n p) (let same : suc q ≡ position = omega (arith, e) in same) (record {
      here = s.here;
      not_before = λ before less there. not_so before less there;
    })
  where
    not_so : (before : ℕ) → before < suc q → slice_get (x ∷ xs) before ≡ Some n → ⊥
    not_so zero less there = false≢true (sym other ∙ eq-eqb x n (same_Some x n there))
    not_so (suc before) less there = s.not_before before (omega (arith, less)) there

pub first_stands : (xs : List ℕ) (n position : ℕ) → position_of_first xs n ≡ Some position → StandsFirst xs n position
first_stands [] n position e = absurd (none-some position e)
first_stands (x ∷ xs) n position e = of_test (x == n) refl (λ q h. first_stands xs n q h) e
  where
    of_rest : (x == n) ≡ false → (o : Option ℕ) → ((q : ℕ) → o ≡ Some q → StandsFirst xs n q) → option_map (λ p. p + 1) o ≡ Some position
        → StandsFirst (x ∷ xs) n position
    of_rest other None each g = absurd (none-some position g)
    of_rest other (Some q) each g = first_later x xs n q position other (each q refl) (same_Some (q + 1) position g)

    of_test : (b : Bool) → (x == n) ≡ b → ((q : ℕ) → position_of_first xs n ≡ Some q → StandsFirst xs n q)
        → (if b then Some 0 else option_map (λ p. p + 1) (position_of_first xs n)) ≡ Some position
        → StandsFirst (x ∷ xs) n position
    of_test true same each g = subst (λ p. StandsFirst (x ∷ xs) n p) (same_Some 0 position g) (record {
      here = ap Some (eqb-true x n same);
      not_before = λ before less there. absurd (omega (arith, less));
    })
    of_test false other each g = of_rest other (position_of_first xs n) each g

-- ---- one less, by numbers

below : (count position : ℕ) → position < count → without_position count position ≡ count - 1
below count position h = ap (λ b. if b then count - 1 else count) (lt-ltb position count h)

not_below : (count position : ℕ) → count ≤ position → without_position count position ≡ count
not_below count position h = ap (λ b. if b then count - 1 else count) (le-ltb position count h)

module _ (x : Collecting) (run : Running x) where
  abbrev w : World
  w = x.world

  -- the collection with other counts
  abbrev counting : (before examined : ℕ) → Collection
  counting before examined = record x.running { registered_before = before; examined = examined }

  pub registered_keeps : (ids : List Id) (o : Option Collection) (before examined next : ℕ) → o ≡ Some (counting before examined)
      → AreExamined ids (is_live w) (counting before examined) x.colours next
      → (x.next ≡ x.running.registered_before → next ≡ before) → before - next ≤ x.running.registered_before - x.next
      → Running (record x {
        world = record w { graph = record w.graph { registered = ids }; collection = o };
        running = counting before examined;
        next = next;
      })
  registered_keeps ids o before examined next is all_examined all fewer = record {
    runs = is;
    different = run.different;
    condemned = record { objects = run.condemned.objects; bases = run.condemned.bases; segments = run.condemned.segments };
    coloured = record {
      held_live = run.coloured.held_live;
      held = run.coloured.held;
      referred_live = run.coloured.referred_live;
      referred = run.coloured.referred;
    };
    grey = run.grey;
    settled = record { settled = run.settled.settled; in_place = run.settled.in_place };
    survivors =
        survivors_again w.graph ids (is_live w) x.running x.colours x.colours x.running.had before examined x.running.spent
        (λ id white. white) run.survivors;
    examined = all_examined;
    band = record {
      tracing = run.band.tracing;
      splatting = run.band.splatting;
      drained = run.band.drained;
      examined = λ h. all (run.band.examined h);
      scanned = run.band.scanned;
      referred_live = run.band.referred_live;
      unswept = run.band.unswept;
    };
    swept = record { hold = run.swept.hold; to_go = run.swept.to_go; in_turn = run.swept.in_turn; one_left = run.swept.one_left };
    units = let h = run.units in omega (arith, h, fewer);
  }

  -- ---- one more

  pub finalized_keeps : (id : Id) → contains (ids_of_client w.graph) id ≡ true
      → Running (record x { world = with_graph w (record w.graph { registered = with_last w.graph.registered id }) })
  finalized_keeps id held =
      registered_keeps (with_last w.graph.registered id) w.collection x.running.registered_before x.running.examined x.next run.runs
      (record {
        live_registered = λ n h. elim (contains_append w.graph.registered (id ∷ []) n h) [
          | inl old ↦ run.examined.live_registered n old
          | inr new ↦ elim (contains_cases id [] n new) [
            | inl same ↦ subst (λ m. is_live w m ≡ true) same (run.coloured.held_live id held)
            | inr none ↦ absurd (false≢true none)
          ]
        ];
        from = run.examined.from;
        up_to = run.examined.up_to;
        existing = let h = run.examined.existing in let e = length-with_last w.graph.registered id in omega (arith, h, e);
        examined = λ position n there part. elim (last_cases w.graph.registered id position n there) [
          | inl old ↦ run.examined.examined position n old part
          | inr new ↦ subst (λ m. is_white_in x m ≡ false) new.1 (run.coloured.held id held)
        ];
      }) (λ h. h) (omega arith)

  -- ---- one less

  module _ (id position : ℕ) (first : StandsFirst w.graph.registered id position) where
    count_cases : (count : ℕ) → ((position < count) × (without_position count position ≡ count - 1))
        ⊎ ((count ≤ position) × (without_position count position ≡ count))
    count_cases count = elim (cases_lt position count) [
      | inl less ↦ inl (less, below count position less)
      | inr most ↦ inr (most, not_below count position most)
    ]

    -- where a registration stood that stands here now
    stood_examined : (i n : ℕ) → slice_get (without_first w.graph.registered id) i ≡ Some n
        → (i < without_position x.next position) ⊎ (without_position x.running.registered_before position ≤ i) → is_white_in x n ≡ false
    stood_examined i n there part =
        let up : x.next ≤ x.running.registered_before = run.examined.up_to in
        elim (cases_lt i position) [
          | inl less ↦ run.examined.examined i n (sym (slice_get-without_before w.graph.registered id position i first less) ∙ there)
              (elim part [
                | inl before ↦ inl (elim (count_cases x.next) [
                  | inl a ↦ omega (arith, before, a.0, a.1)
                  | inr a ↦ omega (arith, before, a.1)
                ])
                | inr after ↦ elim (count_cases x.running.registered_before) [
                  | inl a ↦ absurd (omega (arith, after, a.0, a.1, less))
                  | inr a ↦ inr (omega (arith, after, a.1))
                ]
              ])
          | inr most ↦ run.examined.examined (suc i) n (sym (slice_get-without_after w.graph.registered id position i first most) ∙ there)
              (elim part [
                | inl before ↦ elim (count_cases x.next) [
                  | inl a ↦ inl (omega (arith, before, a.0, a.1))
                  | inr a ↦ absurd (omega (arith, before, a.0, a.1, most))
                ]
                | inr after ↦ inr (elim (count_cases x.running.registered_before) [
                  | inl a ↦ omega (arith, after, a.0, a.1)
                  | inr a ↦ omega (arith, after, a.1)
                ])
              ])
        ]

    from_still : without_position x.running.examined position ≤ without_position x.next position
    from_still = let h : x.running.examined ≤ x.next = run.examined.from in elim (count_cases x.running.examined) [
      | inl a ↦ elim (count_cases x.next) [ inl b ↦ omega (arith, h, a.0, a.1, b.0, b.1) | inr b ↦ omega (arith, h, a.0, a.1, b.0, b.1) ]
      | inr a ↦ elim (count_cases x.next) [ inl b ↦ omega (arith, h, a.0, a.1, b.0, b.1) | inr b ↦ omega (arith, h, a.0, a.1, b.0, b.1) ]
    ]

    up_to_still : without_position x.next position ≤ without_position x.running.registered_before position
    up_to_still = let h : x.next ≤ x.running.registered_before = run.examined.up_to in elim (count_cases x.next) [
      | inl a ↦ elim (count_cases x.running.registered_before) [
        | inl b ↦ omega (arith, h, a.0, a.1, b.0, b.1)
        | inr b ↦ omega
            (arith, h, a.0, a.1, b.0, b.1)
      ]
      | inr a ↦ elim (count_cases x.running.registered_before) [
        | inl b ↦ omega (arith, h, a.0, a.1, b.0, b.1)
        | inr b ↦ omega
            (arith, h, a.0, a.1, b.0, b.1)
      ]
    ]

    existing_still : without_position x.running.registered_before position ≤ length (without_first w.graph.registered id)
    existing_still =
        let h : x.running.registered_before ≤ length w.graph.registered = run.examined.existing in
        let e = length-without_first w.graph.registered id position first in
        let there = index_below w.graph.registered position id first.here in
        elim (count_cases x.running.registered_before) [ inl b ↦ omega (arith, h, e, b.0, b.1) | inr b ↦ omega (arith, e, there, b.0, b.1) ]

    fewer_left : without_position x.running.registered_before position - without_position x.next
        position ≤ x.running.registered_before - x.next
    fewer_left = let h : x.next ≤ x.running.registered_before = run.examined.up_to in elim (count_cases x.next) [
      | inl a ↦ elim (count_cases x.running.registered_before) [
        | inl b ↦ omega (arith, h, a.0, a.1, b.0, b.1)
        | inr b ↦ omega
            (arith, h, a.0, a.1, b.0, b.1)
      ]
      | inr a ↦ elim (count_cases x.running.registered_before) [
        | inl b ↦ omega (arith, h, a.0, a.1, b.0, b.1)
        | inr b ↦ omega
            (arith, h, a.0, a.1, b.0, b.1)
      ]
    ]

    pub definalized_keeps : Running (record x {
      world = record w {
        graph = record w.graph { registered = without_first w.graph.registered id };
        collection = option_map (without_registration position) w.collection;
      };
      running = without_registration position x.running;
      next = without_position x.next position;
    })
    definalized_keeps =
        registered_keeps (without_first w.graph.registered id) (option_map (without_registration position) w.collection)
        (without_position x.running.registered_before position) (without_position x.running.examined position)
        (without_position x.next position)
        (ap (option_map (without_registration position)) run.runs) (record {
          live_registered = λ n h. run.examined.live_registered n (contains-without_first w.graph.registered id n h);
          from = from_still;
          up_to = up_to_still;
          existing = existing_still;
          examined = stood_examined;
        }) (λ same. ap (λ count. without_position count position) same) fewer_left

  -- ---- what the client holds is remembered

  settled_or_held : (held : List Id) (id : Id) → is_settled (remembering held x.running) id ≡ true
      → (is_settled x.running id ≡ true) ⊎ (contains held id ≡ true)
  settled_or_held held id h = elim (or_cases (contains x.running.pinned id)
      (contains x.running.placed id || contains (held ++ x.running.had) id) h) [
        | inl pinned ↦ inl (or_left (contains x.running.pinned id) (contains x.running.placed id || contains x.running.had id) pinned)
        | inr rest ↦ elim (or_cases (contains x.running.placed id) (contains (held ++ x.running.had) id) rest) [
          | inl placed ↦ inl (or_right (contains x.running.pinned id) (contains x.running.placed id || contains x.running.had id)
              (or_left (contains x.running.placed id) (contains x.running.had id) placed))
          | inr had ↦ elim (contains_append held x.running.had id had) [
            | inl new ↦ inr new
            | inr old ↦ inl (or_right (contains x.running.pinned id) (contains x.running.placed id || contains x.running.had id)
                (or_right (contains x.running.placed id) (contains x.running.had id) old))
          ]
        ]
      ]

  pub remembered_keeps : Running (record x {
    world = with_client_remembered w;
    running = remembering (ids_of_client w.graph) x.running;
  })
  remembered_keeps =
      counted_runs x run (ids_of_client w.graph ++ x.running.had) x.running.spent
      (option_map (remembering (ids_of_client w.graph)) w.collection) (ap (option_map (remembering (ids_of_client w.graph))) run.runs)
      (λ id h. elim (settled_or_held (ids_of_client w.graph) id h) [
        | inl old ↦ run.settled.settled id old
        | inr held ↦ run.coloured.held id held
      ]) run.units
