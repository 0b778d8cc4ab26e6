-- From what was found to the outcome of a call that drops something.
use Rattle.std.proofs.Common.{ℕ, ◌≡◌, ◌-◌, ◌∙◌, Bool, true, false, Option, Some, None, option_map, Ok, Err, refl, sym, ap, subst}
use Rattle.std.specs.Prelude.{is_some}
use Rattle.std.specs.Option.{option_map_or}
use Rattle.mps_base.specs.declared.names.Name.{Name}
use Rattle.mps_base.specs.declared.refusal.Refusal.{Refusal}
use Rattle.mps_base.specs.declared.refusal.Refusal.TheVariants as refusal
use Rattle.mps_buffer.specs.Points.{with_point}
use Rattle.mps_buffer.specs.declared.point.Point.{Point}
use Rattle.mps_heap_spec.specs.Checked.{Checked, ◌>>=◌, ◌>>◌, required, refuse_when}
use Rattle.mps_names.specs.State.{NamesState, Updates, thing_named}
use Rattle.mps_root.specs.State.{RootsState}
use Rattle.mps_heap_spec.specs.Finding.{point_named}
use Rattle.mps_heap_spec.specs.Making.{IsDropping, NotDropped, Dropped, point_dropped, root_dropped, roots_without, without_root}
use Rattle.mps_heap_spec.specs.State.{HeapState}
use Rattle.mps_heap_spec.specs.declared.found.Kept.{Kept}

module _ {F : Type 0} (h : HeapState F) (name : Name) where
  -- ---- points

  -- the heap without a point
  abbrev pub without_point : Kept Point → NamesState → HeapState F
  without_point point names =
      record h { points = with_point h.points point.key None; live_points = h.live_points - 1; names = names }

  -- what is left of the checks of a point that was found
  abbrev rest_of : Kept Point → Bool → Checked (NamesState → HeapState F)
  rest_of point is_open = refuse_when is_open refusal.Open >> Ok (without_point point)

  abbrev rest_at : Kept Point → Checked (NamesState → HeapState F)
  rest_at point = rest_of point (is_some point.value.reservation)

  pub no_point : {why : Refusal} → Err why ≡ point_named h name → IsDropping h name (point_dropped h name) (Err why) h
  no_point fails = NotDropped (ap (λ x. x >>= rest_at) (sym fails))

  module _ (point : Kept Point) (found : Ok point ≡ point_named h name) where
    rest_found : (is_open : Bool) → is_some point.value.reservation ≡ is_open → point_dropped h name ≡ rest_of point is_open
    rest_found is_open is = ap (λ x. x >>= rest_at) (sym found) ∙ ap (rest_of point) is

    pub an_open_point : is_some point.value.reservation ≡ true → IsDropping h name (point_dropped h name) (Err refusal.Open) h
    an_open_point passes = NotDropped (rest_found true passes)

    pub a_point : (after : HeapState F) → is_some point.value.reservation ≡ false → Updates h.names after.names name None
        → after ≡ without_point point after.names → IsDropping h name (point_dropped h name) (Ok tt) after
    a_point after fails gone is = Dropped (rest_found false fails) gone is

  -- ---- roots

  abbrev the_roots : Option (RootsState × ℕ)
  the_roots = roots_without h (thing_named h.names name)

  -- the heap with other roots, where there are such
  abbrev pub with_roots : Option (RootsState × ℕ) → HeapState F
  with_roots left = option_map_or (λ left. record h { roots = left.0 }) left h

  abbrev pub slots_of : Option (RootsState × ℕ) → Option ℕ
  slots_of left = option_map (λ left. left.1) left

  abbrev left_of : Option (RootsState × ℕ) → Checked (NamesState → HeapState F)
  left_of left = required left refusal.BadName >>= (λ left. Ok (λ names. without_root h left.0 names left.1))

  pub no_root : (after : HeapState F) → None ≡ slots_of the_roots → after ≡ with_roots the_roots
      → IsDropping h name (root_dropped h name) (Err refusal.BadName) after
  no_root after none is = go the_roots refl none is
    where
      go : (left : Option (RootsState × ℕ)) → the_roots ≡ left → None ≡ slots_of left → after ≡ with_roots left
          → IsDropping h name (root_dropped h name) (Err refusal.BadName) after
      go None found _ same =
          let P : HeapState F → Type 0 = λ x. IsDropping h name (root_dropped h name) (Err refusal.BadName) x in
          subst P (sym same) (NotDropped (ap left_of found))
      go (Some left) found never same = absurd cc

  pub a_root : (n : ℕ) (mid after : HeapState F) → Some n ≡ slots_of the_roots → mid ≡ with_roots the_roots
      → Updates mid.names after.names name None
      → after ≡ record mid { names = after.names; live_roots = mid.live_roots - 1; live_slots = mid.live_slots - n }
      → IsDropping h name (root_dropped h name) (Ok tt) after
  a_root n mid after some same gone is = go the_roots refl some same
    where
      go : (left : Option (RootsState × ℕ)) → the_roots ≡ left → Some n ≡ slots_of left → mid ≡ with_roots left
          → IsDropping h name (root_dropped h name) (Ok tt) after
      go None found never _ = absurd cc
      go (Some left) found count here =
          let slots : n ≡ left.1 = cc in
          let G : HeapState F → Type 0 = λ x. Updates x.names after.names name None in
          Dropped (ap left_of found) (subst G here gone)
          (is
          ∙ ap (λ (x : HeapState F). record x { names = after.names; live_roots = x.live_roots - 1; live_slots = x.live_slots - n }) here
          ∙ ap (λ (k : ℕ). without_root h left.0 after.names k) slots)
