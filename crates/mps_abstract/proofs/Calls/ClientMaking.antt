-- Objects made and freed, segments taken and given back, by calls of the client.
use Rattle.std.proofs.Common.{◌≡◌, ◌∙◌, ◌⊎◌, ◌<◌, ◌≤◌, Bool, true, false, refl, sym, ap, List, [], ◌∷◌, length, Option, Some, None, subst, inl, inr, arith}
use Rattle.std.proofs.lemmas.Bool.{false≢true, eqb-true, cases_Bool}
use Rattle.std.proofs.lemmas.Option.{none-some, same_Some}
use Rattle.std.specs.Prelude.{◌==◌, not, if◌then◌else◌, is_some, find, nat_lt, slice_get, slice_set, IsTrue}
use Rattle.std.specs.Option.{option_map_or}
use Rattle.mps_base.specs.Address.{Id, Address}
use Rattle.mps_base.specs.Segment.{Segment, is_in_segment, segment_over, with_segment, without_segment}
use Rattle.mps_model.specs.Graph.{Object, contains, entry_at, object_at, targets, targets_of, is_automatic, is_weak_object, ids_of_client, with_last, size_of}
use Rattle.mps_model.specs.Collection.{is_condemned}
use Rattle.mps_model.specs.World.{World, Tail, is_live, segment_at, is_copying_pool, is_automatic_kind, pool_is, begins_in, extent, extents_of, reserved_extents}
use Rattle.mps_model.specs.Effect.{segment_base_of}
use Rattle.mps_abstract.specs.Colours.{AreDifferent}
use Rattle.mps_abstract.specs.Collecting.{Collecting, Running, is_white_in}
use Rattle.mps_abstract.proofs.Lists.{index_below, entry_that_is, entry_at-set_cases, entry_at-set_other}
use Rattle.mps_abstract.proofs.Sweeping.{contains-above}
use Rattle.mps_abstract.proofs.KeptRunning.{one_that_is}
use Rattle.mps_abstract.specs.ClientLaws.{AreApartFrom}
use Rattle.mps_abstract.proofs.HeldSegments.{IsAmong, over_among, held_among}
use Rattle.mps_abstract.proofs.Calls.ClientLists.{length-with_last, last_cases, entry_last_cases, entry_last, entry_of_last}
use Rattle.mps_abstract.proofs.Calls.ClientThings.{slice_get-last}
use Rattle.mps_abstract.proofs.Calls.ClientChange.{IsChange, IsUsed, change_keeps}
use Rattle.mps_abstract.proofs.Calls.ClientCovered.{holds_still, any_cases, any_left, any_right, extents_last, extents_freed}
use Rattle.mps_abstract.proofs.Keeping.{not_white_outside}

-- an object that passes a test passes it still
still_passes : (test : Object → Bool) (os : List Object) (o : Object) (id : Id) → option_map_or test (slice_get os id) false ≡ true
    → option_map_or test (slice_get (with_last os o) id) false ≡ true
still_passes test os o id h = of_option (slice_get os id) refl h
  where
    of_option : (p : Option Object) → slice_get os id ≡ p → option_map_or test p false ≡ true
        → option_map_or test (slice_get (with_last os o) id) false ≡ true
    of_option None e g = absurd (false≢true g)
    of_option (Some p) e g = ap (λ r. option_map_or test r false) (slice_get-last os o id p e) ∙ g

-- and passes what it passes, where it was there
passed_before : (test is_there : Object → Bool) (os : List Object) (o : Object) (id : Id)
    → option_map_or is_there (slice_get os id) false ≡ true
    → option_map_or test (slice_get (with_last os o) id) false ≡ option_map_or test (slice_get os id) false
passed_before test is_there os o id h = of_option (slice_get os id) refl h
  where
    of_option : (p : Option Object) → slice_get os id ≡ p → option_map_or is_there p false ≡ true
        → option_map_or test (slice_get (with_last os o) id) false ≡ option_map_or test (slice_get os id) false
    of_option None e g = absurd (false≢true g)
    of_option (Some p) e g = ap (λ r. option_map_or test r false) (slice_get-last os o id p e ∙ sym e)

below_if_passes : (test : Object → Bool) (os : List Object) (id : Id) → option_map_or test (slice_get os id) false ≡ true → id < length os
below_if_passes test os id h = of_option (slice_get os id) refl h
  where
    of_option : (p : Option Object) → slice_get os id ≡ p → option_map_or test p false ≡ true → id < length os
    of_option None e g = absurd (false≢true g)
    of_option (Some p) e g = index_below os id p e

-- what objects refer to, where one was made last
refers_cases : (os : List Object) (o : Object) (id t : Id) → contains (option_map_or targets_of (slice_get (with_last os o) id) []) t ≡ true
    → (contains (option_map_or targets_of (slice_get os id) []) t ≡ true) ⊎ (contains (targets_of o) t ≡ true)
refers_cases os o id t h = of_option (slice_get (with_last os o) id) refl h
  where
    of_option : (p : Option Object) → slice_get (with_last os o) id ≡ p → contains (option_map_or targets_of p []) t ≡ true
        → (contains (option_map_or targets_of (slice_get os id) []) t ≡ true) ⊎ (contains (targets_of o) t ≡ true)
    of_option None e g = absurd (false≢true g)
    of_option (Some p) e g = elim (last_cases os o id p e) [
      | inl old ↦ inl (ap (λ r. contains (option_map_or targets_of r []) t) old ∙ g)
      | inr new ↦ inr (ap (λ q. contains (targets_of q) t) new.1 ∙ g)
    ]

refers_below : (os : List Object) (id t : Id) → contains (option_map_or targets_of (slice_get os id) []) t ≡ true → id < length os
refers_below os id t h = of_option (slice_get os id) refl h
  where
    of_option : (p : Option Object) → slice_get os id ≡ p → contains (option_map_or targets_of p []) t ≡ true → id < length os
    of_option None e g = absurd (false≢true g)
    of_option (Some p) e g = index_below os id p e

-- ---- segments that are found

pub find_among : (p : Segment → Bool) (ss : List Segment) (s : Segment) → find p ss ≡ Some s → IsAmong s ss × (p s ≡ true)
find_among p [] s h = absurd (none-some s h)
find_among p (t ∷ ts) s h = elim (p t) as (λ b. p t ≡ b → (if b then Some t else find p ts) ≡ Some s → IsAmong s (t ∷ ts) × (p s ≡ true)) [
  | true ↦ (λ e g. (inl (same_Some t s g), subst (λ u. p u ≡ true) (same_Some t s g) e))
  | false ↦ (λ e g. let rest = find_among p ts s g in (inr rest.0, rest.1))
] refl h

pub among_with : (s t : Segment) (ss : List Segment) → IsAmong t ss → IsAmong t (with_segment s ss)
among_with s t [] h = absurd h
among_with s t (u ∷ us) h = elim (nat_lt s.base u.base) as (λ b. IsAmong t (if b then s ∷ u ∷ us else u ∷ with_segment s us)) [
  | true ↦ inr h
  | false ↦ elim h [ inl e ↦ inl e | inr later ↦ inr (among_with s t us later) ]
]

pub among_without : (base : Address) (t : Segment) (ss : List Segment) → (t.base ≡ base → ⊥) → IsAmong t ss
    → IsAmong t (without_segment ss base)
among_without base t [] other h = h
among_without base t (u ∷ us) other h =
    elim (u.base == base) as (λ b. (u.base == base) ≡ b
    → IsAmong t (if not b then u ∷ without_segment us base else without_segment us base)) [
      | true ↦ (λ is. elim h [
        | inl e ↦ absurd (other (ap (λ (s : Segment). s.base) (sym e) ∙ eqb-true u.base base is))
        | inr later ↦ among_without base t us other later
      ])
      | false ↦ (λ isnt. elim h [ inl e ↦ inl e | inr later ↦ inr (among_without base t us other later) ])
    ] refl

module _ (x : Collecting) (run : Running x) where
  abbrev w : World
  w = x.world

  abbrev P : World → Type 0
  P v = Running (record x { world = v })

  -- what is condemned is there
  condemned_there : (id : Id) → is_condemned x.running id ≡ true → id < length w.graph.objects
  condemned_there id is = below_if_passes is_automatic w.graph.objects id (run.condemned.objects id is)

  -- ---- an object is made

  module _ (o : Object) (at : Address) (as_many : length w.addresses ≡ length w.graph.objects)
      (different : AreDifferent (with_last w.addresses (Some at)))
      (held : (t : Id) → contains (targets_of o) t ≡ true → contains (ids_of_client w.graph) t ≡ true) where
    abbrev made : World
    made = record w { graph = record w.graph { objects = with_last w.graph.objects o }; addresses = with_last w.addresses (Some at) }

    was_live : (id : Id) → is_live made id ≡ true → (is_live w id ≡ true) ⊎ (length w.graph.objects ≤ id)
    was_live id h =
        let some = entry_that_is (entry_at (with_last w.addresses (Some at)) id) h in
        elim (entry_last_cases w.addresses (Some at) id some.0 some.1) [
          | inl old ↦ inl (ap is_some old)
          | inr new ↦ inr (let e = new.0 in omega (arith, e, as_many))
        ]

    live_now : (id : Id) → is_live w id ≡ true → is_live made id ≡ true
    live_now id h =
        let some = entry_that_is (entry_at w.addresses id) h in
        ap is_some (entry_last w.addresses (Some at) id some.0 some.1)

    made_refers : (id t : Id) → is_live made id ≡ true → contains (targets made.graph id) t ≡ true
        → ((is_live w id ≡ true) × (contains (targets w.graph id) t ≡ true)) ⊎ (contains (ids_of_client w.graph) t ≡ true)
    made_refers id t h refers = elim (refers_cases w.graph.objects o id t refers) [
      | inl old ↦ elim (was_live id h) [
        | inl live ↦ inl (live, old)
        | inr new ↦ absurd (let there = refers_below w.graph.objects id t old in omega (arith, new, there))
      ]
      | inr new ↦ inr (held t new)
    ]

    made_change : IsChange x made
    made_change = record {
      runs = run.runs;
      different = different;
      existing = let e = length-with_last w.graph.objects o in omega (arith, e);
      automatic = λ id h. still_passes is_automatic w.graph.objects o id h;
      weak = λ id h. still_passes is_weak_object w.graph.objects o id h;
      copying = λ id is h. sym (passed_before (λ p. is_copying_pool w p.pool) is_automatic w.graph.objects o id
          (run.condemned.objects id is)) ∙ h;
      automatic_pools = λ pool h. h;
      live_still = λ id h used. live_now id h;
      live_before = was_live;
      referred = made_refers;
      held = λ id h. inl h;
      registered = refl;
      addresses = λ id a is e. elim (entry_last_cases w.addresses (Some at) id a e) [
        | inl old ↦ old
        | inr new ↦ absurd (let there = condemned_there id is in let same = new.0 in omega (arith, there, same, as_many))
      ];
      segments = λ base s is e. e;
      base_of = λ id a is e in_condemned. refl;
      holds = λ base is h. holds_still w made base refl
          (λ s e any. elim (any_cases (begins_in s) (extents_of w.graph.objects w.addresses)
          (reserved_extents w.graph.points w.point_memories) any) [
            | inl object ↦ any_left (begins_in s) (extents_of made.graph.objects made.addresses)
                (reserved_extents w.graph.points w.point_memories)
                (extents_last (begins_in s) w.graph.objects w.addresses o (Some at) object)
            | inr reserved ↦ any_right (begins_in s) (extents_of made.graph.objects made.addresses)
                (reserved_extents w.graph.points w.point_memories) reserved
          ]) h;
    }

    pub made_keeps : P made
    made_keeps = change_keeps x run made made_change

    -- it isn't white
    pub made_black : is_white_in x (length w.graph.objects) ≡ false
    made_black = not_white_outside x.running.condemned x.colours (length w.graph.objects)
        (elim (cases_Bool (is_condemned x.running (length w.graph.objects))) [
          | inl is ↦ absurd (let there = condemned_there (length w.graph.objects) is in omega (arith, there))
          | inr isnt ↦ isnt
        ])

    pub made_live : is_live made (length w.graph.objects) ≡ true
    made_live = subst (λ n. is_some (entry_at (with_last w.addresses (Some at)) n) ≡ true) as_many
        (ap is_some (entry_of_last w.addresses at))

  -- ---- an object is freed

  module _ (n : Id) (unused : IsUsed x n → ⊥)
      (elsewhere : (base : Address) (s : Segment) (o : Object) (at : Address) → contains x.running.condemned_segments base ≡ true
      → segment_at w base ≡ Some s → object_at w.graph n ≡ Some o → entry_at w.addresses n ≡ Some at
      → begins_in s (extent at (size_of o)) ≡ true → ⊥) where
    abbrev freed : World
    freed = record w { addresses = slice_set w.addresses n None }

    address_before : (id : Id) (at : Address) → entry_at (slice_set w.addresses n None) id ≡ Some at → entry_at w.addresses id ≡ Some at
    address_before id at e = elim (entry_at-set_cases w.addresses n id None at e) [
      | inl new ↦ absurd (none-some at new.1)
      | inr old ↦ old.1
    ]

    live_before : (id : Id) → is_live freed id ≡ true → is_live w id ≡ true
    live_before id h =
        let some = entry_that_is (entry_at (slice_set w.addresses n None) id) h in
        ap is_some (address_before id some.0 some.1)

    freed_change : IsChange x freed
    freed_change = record {
      runs = run.runs;
      different = λ id other at e f. run.different id other at (address_before id at e) (address_before other at f);
      existing = omega arith;
      automatic = λ id h. h;
      weak = λ id h. h;
      copying = λ id is h. h;
      automatic_pools = λ pool h. h;
      live_still = λ id h used.
          ap is_some (entry_at-set_other w.addresses n id None (λ same. unused (subst (λ m. IsUsed x m) (sym same) used))) ∙ h;
      live_before = λ id h. inl (live_before id h);
      referred = λ id t h refers. inl (live_before id h, refers);
      held = λ id h. inl h;
      registered = refl;
      addresses = λ id at is e. address_before id at e;
      segments = λ base s is e. e;
      base_of = λ id at is e in_condemned. refl;
      holds = λ base is h. holds_still w freed base refl
          (λ s e any. elim (any_cases (begins_in s) (extents_of w.graph.objects w.addresses)
          (reserved_extents w.graph.points w.point_memories) any) [
            | inl object ↦ elim (extents_freed (begins_in s) w.graph.objects w.addresses n object) [
              | inl still ↦ any_left (begins_in s) (extents_of w.graph.objects freed.addresses)
                  (reserved_extents w.graph.points w.point_memories) still
              | inr gone ↦ absurd (elsewhere base s gone.object gone.at is e gone.is_object gone.is_at gone.passes)
            ]
            | inr reserved ↦ any_right (begins_in s) (extents_of w.graph.objects freed.addresses)
                (reserved_extents w.graph.points w.point_memories) reserved
          ]) h;
    }

    pub freed_keeps : P freed
    freed_keeps = change_keeps x run freed freed_change

  -- ---- other segments are held

  module _ (ss : List Segment) (tails : List Tail) (in_order : AreApartFrom 1 ss)
      (still : (t : Segment) → IsAmong t w.segments → contains x.running.condemned_segments t.base ≡ true → IsAmong t ss) where
    abbrev held_now : World
    held_now = record w { segments = ss; tails = tails }

    found_still : (base : Address) (s : Segment) → contains x.running.condemned_segments base ≡ true → segment_at w base ≡ Some s
        → segment_at held_now base ≡ Some s
    found_still base s is e =
        let found = find_among (λ t. t.base == base) w.segments s e in
        let same = eqb-true s.base base found.1 in
        subst (λ b. find (λ t. t.base == b) ss ≡ Some s) same
        (held_among 1 s ss in_order (still s found.0 (ap (contains x.running.condemned_segments) same ∙ is)))

    base_still : (at : Address) → contains x.running.condemned_segments (segment_base_of w at) ≡ true
        → segment_base_of held_now at ≡ segment_base_of w at
    base_still at is = of_over (segment_over w.segments at) refl is
      where
        of_over : (o : Option Segment) → segment_over w.segments at ≡ o
            → contains x.running.condemned_segments (option_map_or (λ (s : Segment). s.base) o 0) ≡ true
            → segment_base_of held_now at ≡ segment_base_of w at
        of_over None e h = absurd (let above = contains-above 0 x.running.condemned_segments 0 run.condemned.bases h in omega
            (arith, above))
        of_over (Some s) e h =
            let found = find_among (λ t. is_in_segment t at) w.segments s e in
            ap (λ o. option_map_or (λ (t : Segment). t.base) o 0) (over_among 1 s ss at in_order (still s found.0 h) found.1 ∙ sym e)

    held_change : IsChange x held_now
    held_change = record {
      runs = run.runs;
      different = run.different;
      existing = omega arith;
      automatic = λ id h. h;
      weak = λ id h. h;
      copying = λ id is h. h;
      automatic_pools = λ pool h. h;
      live_still = λ id h used. h;
      live_before = λ id h. inl h;
      referred = λ id t h refers. inl (h, refers);
      held = λ id h. inl h;
      registered = refl;
      addresses = λ id at is e. e;
      segments = found_still;
      base_of = λ id at is e in_condemned. base_still at in_condemned;
      holds = λ base is h.
          let s = one_that_is (λ t. IsTrue (pool_is is_automatic_kind w t.pool)) (segment_at w base) (run.condemned.segments base is) in
          holds_still w held_now base (found_still base s.0 is s.1.0 ∙ sym s.1.0) (λ t e any. any) h;
    }

    pub segments_keep : P held_now
    segments_keep = change_keeps x run held_now held_change
