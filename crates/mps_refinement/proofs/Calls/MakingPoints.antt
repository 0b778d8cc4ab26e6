-- `ap` and `dropap`: points that are made and dropped stand for those of the model.
use Rattle.std.proofs.Common.{◌≡◌, ◌≢◌, ◌∙◌, ℕ, ◌+◌, ◌-◌, Bool, true, false, refl, sym, ap, subst, List, [], length, Option, Some, None, Ok, Err, IsSome, is_some, inl, inr, arith}
use Rattle.std.proofs.lemmas.Bool.{cases_eq}
use Rattle.std.proofs.lemmas.Option.{none-some, same_Some}
use Rattle.std.specs.Prelude.{Result, nat_le, not, option_and_then, slice_get, slice_set}
use Rattle.mps_base.specs.declared.names.Name.{Name}
use Rattle.mps_base.specs.declared.names.Rank.{Rank}
use Rattle.mps_base.specs.declared.refusal.Refusal.{Refusal}
use Rattle.mps_base.specs.declared.refusal.Refusal.TheVariants as refusal
use Rattle.mps_buffer.specs.declared.point.Held.{Held}
use Rattle.mps_buffer.specs.declared.point.Point.{Point}
use Rattle.mps_buffer.specs.Points.{new_point, point_at, with_point}
use Rattle.mps_format.specs.Layout.{Layout}
use Rattle.mps_trace_laws.specs.Image.Image.{black_cells}
use Rattle.mps_trace_laws.specs.Image.Memory.{memory_in}
use Rattle.mps_trace_laws.proofs.Image.ArenaLaws.{points_change}
use Rattle.mps_laws.proofs.Lookups.{slice_get-at_last, slice_get-kept, slice_get-set_other}
use Rattle.mps_laws.proofs.Same.{Alike, Same, fits, same_next, same_refuse_when, same_then}
use Rattle.mps_model.specs.declared.call.Call.TheVariants as call
use Rattle.mps_model.specs.Checked as models
use Rattle.mps_model.specs.Checked.{Checked, Numbered, ◌>>=◌, ◌>>◌, done, refuse_when}
use Rattle.mps_model.specs.Graph as graph
use Rattle.mps_model.specs.Graph.{Reservation, entry_at, with_last, without_name}
use Rattle.mps_model.specs.Making as model
use Rattle.mps_model.specs.Making.{live_points, most_points, refuse_at_limit, without_point}
use Rattle.mps_model.specs.World as world
use Rattle.mps_model.specs.World.{World, PointMemory, empty_run}
use Rattle.mps_names.specs.State.{NamesState, Updates, thing_named}
use Rattle.mps_names.specs.declared.names.Thing.{Thing}
use Rattle.mps_names.specs.declared.names.Thing.TheVariants as thing
use Rattle.mps_root.specs.State.{kept}
use Rattle.mps_heap_spec.specs.Finding.{as_point, point_named, pool_named, under}
use Rattle.mps_heap_spec.specs.declared.found.Kept.{Kept}
use Rattle.mps_heap_spec.specs.Making.{IsDropping, IsMaking, MakesPoint, MakesPointIn, check_point, may_have_point, without_answer, point_dropped, refuse_taken}
use Rattle.mps_heap_spec.specs.State.{HeapState}
use Rattle.mps_format.specs.Pools.{is_copying_pool}
use Rattle.mps_format.specs.declared.pool.Pool.{Pool}
use Rattle.mps_refinement.proofs.Worlds.CollectorKept.{KeepsAll, all_kept}
use Rattle.mps_refinement.specs.Answering.{answer_to, says_ok}
use Rattle.mps_refinement.specs.Making.{IsRightMaking}
use Rattle.mps_refinement.specs.Numbering.{renumbered}
use Rattle.mps_refinement.specs.RightStep.{IsRight}
use Rattle.mps_refinement.specs.StandsFor.{AreHeldAlike, BothHeld, NoneHeld, AreParts, IsPoint, IsThere, Past, StandsAt, setting_at, collector_of}
use Rattle.mps_refinement.proofs.Parts.Counts.{point_dropped_points, point_made_points}
use Rattle.mps_refinement.proofs.Calls.DroppingSteps.{DropsAlike, DropsTo, dropping_is_right, ours_ok}
use Rattle.mps_refinement.proofs.Lookups.Found.{AreFound, same_found}
use Rattle.mps_refinement.proofs.Lookups.Lookups.{IsPointFound, IsPoolFound, point_same, pool_same}
use Rattle.mps_refinement.proofs.Calls.MakingRoots.{kept_more}
use Rattle.mps_refinement.proofs.Calls.MakingSteps.{MakesAlike, first_passed, free_name, making_is_right, taken_same}
use Rattle.mps_refinement.proofs.Parts.Named.{ThingsStay, named_dropped, named_made, nothing_there, points_renumbered}
use Rattle.mps_refinement.proofs.Parts.Numbering.{fitting_there, kept_other, kept_without, kept_written, numbered_dropped, numbered_made, renumbered_here}
use Rattle.mps_refinement.proofs.Parts.PartsMade.{points_changed, state_of_points}
use Rattle.mps_refinement.proofs.Parts.PointImage.{dropped_back, dropped_live, extents_more, extents_without, made_back, made_live, right_points_long}
use Rattle.mps_refinement.proofs.Parts.PointWritten.{resting_points}
use Rattle.mps_refinement.proofs.Lookups.PoolKinds.{copying_by_number, may_have_point_alike}
use Rattle.mps_refinement.proofs.Worlds.Steps.{HasParts}
use Rattle.mps_refinement.proofs.Worlds.Known.{IsKnown}

-- ---- one memory, and others

-- what has no memory yet
abbrev pub no_memory : PointMemory
no_memory = record { reserved_at = 0; buffer = empty_run }

-- a point has the same memory among others
pub same_memory : {flips : ℕ} {copying : ℕ → Bool} (before after : List PointMemory) (n : ℕ) (p : Point) (q : graph.Point)
    → ((memory : PointMemory) → slice_get before n ≡ Some memory → slice_get after n ≡ Some memory)
    → IsPoint flips copying before n p q → IsPoint flips copying after n p q
same_memory before after n p q same fit = record {
  pool = fit.pool;
  rank = fit.rank;
  copying = fit.copying;
  memory = fit.memory;
  has = same fit.memory fit.has;
  buffer = fit.buffer;
  reservation = fit.reservation;
}

pub held_alike : (flips at : ℕ) (held : Option Held) (r : Option Reservation) → AreHeldAlike flips at held r → is_some held ≡ is_some r
held_alike flips at held r (BothHeld is) = refl
held_alike flips at held r NoneHeld = refl

none_held : (flips at : ℕ) (held : Option Held) (r : Option Reservation) → AreHeldAlike flips at held r → is_some held ≡ false → r ≡ None
none_held flips at held r (BothHeld is) e = absurd cc
none_held flips at held r NoneHeld e = refl

-- ---- the name of a point

named_by : (o : Option Thing) (look : ℕ → Option Point) (p : Kept Point)
    → (models.required (option_and_then as_point o) refusal.BadName >>= (λ key. under key (look key))) ≡ Ok p
    → o ≡ Some (thing.Point p.key)
named_by None look p e = absurd cc
named_by (Some (thing.Point key)) look p e = of_value (look key) e
  where
    of_value : (v : Option Point) → under key v ≡ Ok p → Some (thing.Point key) ≡ Some (thing.Point p.key)
    of_value None f = absurd cc
    of_value (Some value) f =
        let same : record { key = key; value = value } ≡ p = cc in ap (λ (x : Kept Point). Some (thing.Point x.key)) same
named_by (Some _) look p e = absurd cc

pub point_name : {F : Type 0} (h : HeapState F) (name : Name) (p : Kept Point) → point_named h name ≡ Ok p
    → thing_named h.names name ≡ Some (thing.Point p.key)
point_name h name p e = named_by (thing_named h.names name) (point_at h.points) p e

module _ {F : Type 0} (layout : F → Layout) (h : HeapState F) (w : World) (past : Past) (parts : AreParts layout past h w)
    (known : IsKnown past.time w) where
  long : length w.graph.points ≡ length w.point_memories
  long = right_points_long w w.graph.points w.point_memories known.formed.points

  -- ---- a point is made

  module _ (name pool : Name) (at_rank : Rank) where
    abbrev new_of : (number : ℕ) → graph.Point
    new_of number = record { pool = number; rank = at_rank; reservation = None }

    image_made : (q : graph.Point) → q.reservation ≡ None
        → StandsAt past.time h.segs (record w {
          graph = record w.graph { points = with_last w.graph.points (Some q) };
          point_memories = with_last w.point_memories no_memory;
        })
    image_made q none =
        points_change (setting_at past.time h.segs w) (memory_in h.segs)
        w.addresses
        past.time.colours (black_cells past.time.condemned past.time.colours) (with_last w.graph.points (Some q))
        (with_last w.point_memories no_memory) parts.image
        (made_back w.graph.points w.point_memories q no_memory long none) (made_live w.graph.points w.point_memories q none)
        (extents_more w.graph.points w.point_memories q no_memory long none)

    point_parts : (of : Kept (Pool F)) (number : Numbered world.Pool) → IsPoolFound layout h w of number → (key : ℕ)
        (after : HeapState F) → thing_named h.names name ≡ None → MakesPoint h name of at_rank key after
        → HasParts layout past.time after (model.with_point w name number.number at_rank)
    point_parts of number found key after free makes = record {
      past = record past { point_number = numbers };
      timed = refl;
      parts = subst (λ s. AreParts layout (record past { point_number = numbers }) s (model.with_point w name number.number at_rank))
          (sym (makes.state ∙ ap (λ ps. record h { points = ps; live_points = h.live_points + 1; names = after.names }) makes.point.made))
          (points_changed layout past h w parts numbers points (h.live_points + 1) after.names
          (with_last w.graph.points (Some (new_of number.number))) (with_last w.point_memories no_memory)
          (with_last w.graph.names (record { name = name; thing = graph.PointThing count })) (record {
            points_are = numbered_made Fits past.point_number (kept h.points.points) (kept points) w.graph.points
                (fitting_there parts.points (λ n p q there fit. same_memory w.point_memories (with_last w.point_memories no_memory) n p q
                (λ memory has. slice_get-kept w.point_memories no_memory memory n has) fit)) key
                (λ other apart. kept_other h.points.points key other (Some new) apart) new (new_of number.number) makes.point.was_free now
                new_fits;
            points_counted = ap (λ n. n + 1) parts.points_counted ∙ sym (point_made_points w.graph (new_of number.number));
            image_stands = image_made (new_of number.number) refl;
            open_still =
                resting_points h.segs.grains h.points
                (record h.points { points = points }) parts.arena was_reserved;
            names_are = named_made past (record past { point_number = numbers }) h made w.graph.names w.graph.labels parts.names name
                (thing.Point key)
                (graph.PointThing count) makes.names free (ap graph.PointThing (renumbered_here past.point_number key count))
                (points_renumbered past h key count makes.point.was_free) stay (ap is_some now)
                (nothing_there (point_at h.points key) makes.point.was_free) refl refl;
          }));
    }
      where
        count : ℕ
        count = length w.graph.points

        numbers : ℕ → ℕ
        numbers = renumbered past.point_number key (length w.graph.points)

        new : Point
        new = new_point of.key at_rank (is_copying_pool of.value)

        points : List (Option Point)
        points = slice_set h.points.points key (Some (new_point of.key at_rank (is_copying_pool of.value)))

        made : HeapState F
        made = state_of_points layout past h w parts points (h.live_points + 1) after.names

        Fits : ℕ → Point → graph.Point → Type 0
        Fits = IsPoint (length w.flips) (world.is_copying_pool w) (with_last w.point_memories no_memory)

        now : kept points key ≡ Some new
        now = kept_written h.points.points key (Some new) makes.point.within

        -- a reservation after the point was made was there before
        was_reserved : (k : ℕ) (x : Point) (held : Held) → kept points k ≡ Some x → x.reservation ≡ Some held
            → kept h.points.points k ≡ Some x
        was_reserved k x held is reserved =
            elim (cases_eq k key) [
              | inl same ↦
                  let value : new ≡ x = same_Some new x (sym (ap (kept points) same ∙ now) ∙ is) in
                  absurd (none-some held (ap (λ (y : Point). y.reservation) value ∙ reserved))
              | inr other ↦ sym (kept_other h.points.points key k (Some new) other) ∙ is
            ]

        new_fits : Fits count new (new_of number.number)
        new_fits = record {
          pool = sym found.number;
          rank = refl;
          copying = copying_by_number layout w.formats of.value number.value found.fit w number.number found.has;
          memory = no_memory;
          has = ap (slice_get (with_last w.point_memories no_memory)) long ∙ slice_get-at_last w.point_memories no_memory;
          buffer = refl;
          reservation = NoneHeld;
        }

        stay : ThingsStay h made
        stay = record {
          pools = λ n low. low;
          caches = omega arith;
          tables = λ k some. some;
          areas = λ k some. some;
          blocks = λ n low. low;
          points = λ k some. kept_more (kept h.points.points) (kept points) key makes.point.was_free
              (λ other apart. kept_other h.points.points key other (Some new) apart) k some;
          dependencies = λ n low. low;
          chains = λ n low. low;
          transforms = refl;
        }

    -- ---- its checks

    abbrev model_check : Checked (Numbered world.Pool)
    model_check =
        model.refuse_taken w name
        >> (models.pool_named w pool >>= (λ of. refuse_when (not (model.may_have_point of.value.kind at_rank)) refusal.WrongPool
        >> (refuse_at_limit (live_points w.graph) most_points >> Ok of)))

    abbrev made_of : Checked (Numbered world.Pool) → World
    made_of (Ok of) = model.with_point w name of.number at_rank
    made_of (Err why) = w

    check_same : Same (IsPoolFound layout h w) (check_point h name pool at_rank) model_check
    check_same =
        same_next (taken_same layout past h w parts name)
        (same_then (pool_same layout past h w parts pool) (λ of number found.
        same_next (same_refuse_when (not (may_have_point of.value at_rank)) (not (model.may_have_point number.value.kind at_rank))
        refusal.WrongPool (ap not (may_have_point_alike layout w.formats of.value number.value found.fit at_rank)))
        (same_next (same_refuse_when (nat_le most_points h.live_points) (nat_le most_points (live_points w.graph))
        (refusal.TooMany most_points) (ap (nat_le most_points) parts.points_counted)) (fits found))))

    comes_of : (t : Checked (Unit {0})) (y : Checked (Numbered world.Pool))
        → (t >> (y >>= (λ of. refuse_when (not (model.may_have_point of.value.kind at_rank)) refusal.WrongPool
        >> (refuse_at_limit (live_points w.graph) most_points >> done (model.with_point w name of.number at_rank)))))
        ≡ (without_answer (t >> (y >>= (λ of. refuse_when (not (model.may_have_point of.value.kind at_rank)) refusal.WrongPool
        >> (refuse_at_limit (live_points w.graph) most_points >> Ok of))))
        >> done (made_of (t >> (y >>= (λ of. refuse_when (not (model.may_have_point of.value.kind at_rank)) refusal.WrongPool
        >> (refuse_at_limit (live_points w.graph) most_points >> Ok of))))))
    comes_of (Err why) y = refl
    comes_of (Ok u) (Err why) = refl
    comes_of (Ok u) (Ok of) =
        both (refuse_when (not (model.may_have_point of.value.kind at_rank)) refusal.WrongPool)
        (refuse_at_limit (live_points w.graph) most_points)
      where
        both : (a b : Checked (Unit {0}))
            → (a >> (b >> done (model.with_point w name of.number at_rank)))
            ≡ (without_answer (a >> (b >> Ok of)) >> done (made_of (a >> (b >> Ok of))))
        both (Ok x) (Ok y) = refl
        both (Ok x) (Err why) = refl
        both (Err why) b = refl

    same_passed : (x : Checked (Kept (Pool F))) (y : Checked (Numbered world.Pool)) → Same (IsPoolFound layout h w) x y
        → Alike (without_answer x) (without_answer y)
    same_passed x y (fits fit) = fits tt
    same_passed x y Rattle.mps_laws.proofs.Same.refused = Rattle.mps_laws.proofs.Same.refused

    point_alike : MakesAlike layout past h w (call.Point name pool at_rank) (without_answer (check_point h name pool at_rank))
        (MakesPointIn h name pool at_rank)
    point_alike = record {
      models = without_answer model_check;
      made = made_of model_check;
      comes = comes_of (model.refuse_taken w name) (models.pool_named w pool);
      alike = same_passed (check_point h name pool at_rank) model_check check_same;
      formats = formats_of model_check;
      keeps = λ key after m. subst (λ (s : HeapState F). KeepsAll (collector_of h) (collector_of s)) (sym m.makes.state) (all_kept h);
      has = λ key after ok makes. has key after makes;
    }
      where
        formats_of : (x : Checked (Numbered world.Pool)) → (made_of x).formats ≡ w.formats
        formats_of (Ok of) = refl
        formats_of (Err why) = refl

        has : (key : ℕ) (after : HeapState F) → MakesPointIn h name pool at_rank key after → HasParts layout past.time after
            (made_of model_check)
        has key after m =
            let y = ours_ok (IsPoolFound layout h w) (check_point h name pool at_rank) model_check m.of check_same m.found in
            let free = free_name h name (first_passed (refuse_taken h name)
            (pool_named h pool >>= (λ of. refuse_when (not (may_have_point of.value at_rank)) refusal.WrongPool
            >> (refuse_at_limit h.live_points most_points >> Ok of))) m.of m.found).1 in
            subst (λ x. HasParts layout past.time after (made_of x)) (sym y.1) (point_parts m.of y.0 y.2 key after free m.makes)

  -- ---- a point is dropped

  module _ (name : Name) where
    image_dropped : (number : ℕ) (q : graph.Point) → entry_at w.graph.points number ≡ Some q → q.reservation ≡ None
        → StandsAt past.time h.segs (record w {
          graph = record w.graph { points = slice_set w.graph.points number None };
          point_memories = slice_set w.point_memories number no_memory;
        })
    image_dropped number q there none =
        points_change (setting_at past.time h.segs w) (memory_in h.segs)
        w.addresses
        past.time.colours (black_cells past.time.condemned past.time.colours) (slice_set w.graph.points number None)
        (slice_set w.point_memories number no_memory)
        parts.image (dropped_back w.graph.points w.point_memories number no_memory) (dropped_live w.graph.points w.point_memories number)
        (extents_without w.graph.points w.point_memories number q no_memory there none)

    point_left : (p : Kept Point) (q : Numbered graph.Point) → IsPointFound past h w p q → point_named h name ≡ Ok p
        → q.value.reservation ≡ None → (names : NamesState) → Updates h.names names name None
        → HasParts layout past.time (record h { points = with_point h.points p.key None; live_points = h.live_points - 1; names = names })
        (without_point w name q.number)
    point_left p q found named none names updates =
        subst (λ n. HasParts layout past.time (record h {
          points = with_point h.points p.key None;
          live_points = h.live_points - 1;
          names
              = names;
        })
        (without_point w name n)) (sym found.number) (record {
          past = past;
          timed = refl;
          parts = points_changed layout past h w parts past.point_number points (h.live_points - 1) names
              (slice_set w.graph.points number None) (slice_set w.point_memories number no_memory)
              (without_name w.graph.names name) (record {
                points_are = fitting_there
                    (numbered_dropped (IsPoint (length w.flips) (world.is_copying_pool w) w.point_memories) past.point_number
                    (kept h.points.points) (kept points) w.graph.points parts.points p.key
                    (λ other apart. kept_other h.points.points p.key other None apart) p.value p.value q.value found.kept
                    (kept_without h.points.points p.key))
                    (λ n x y there fit. same_memory w.point_memories (slice_set w.point_memories number no_memory) n x y
                    (λ memory has. slice_get-set_other w.point_memories number n no_memory (other_than n y there) ∙ has) fit);
                points_counted = ap (λ n. n - 1) parts.points_counted ∙ sym (point_dropped_points w.graph number q.value there_now);
                image_stands = image_dropped number q.value there_now none;
                open_still =
                    resting_points h.segs.grains h.points
                    (record h.points { points = points }) parts.arena was_reserved;
                names_are = named_dropped past h (record h {
                  points = record h.points { points = points };
                  live_points = h.live_points - 1;
                  names = names;
                }) w.graph.names w.graph.labels parts.names name (thing.Point p.key)
                    (point_name h name p named) updates stay refl (omega arith)
                    parts.names.transform_count;
              });
        })
      where
        number : ℕ
        number = past.point_number p.key

        points : List (Option Point)
        points = slice_set h.points.points p.key None

        was_reserved : (k : ℕ) (x : Point) (held : Held) → kept points k ≡ Some x → x.reservation ≡ Some held
            → kept h.points.points k ≡ Some x
        was_reserved k x held is reserved =
            elim (cases_eq k p.key) [
              | inl same ↦ absurd (none-some x (sym (ap (kept points) same ∙ kept_without h.points.points p.key) ∙ is))
              | inr other ↦ sym (kept_other h.points.points p.key k None other) ∙ is
            ]

        there_now : entry_at w.graph.points (past.point_number p.key) ≡ Some q.value
        there_now = subst (λ (n : ℕ). entry_at w.graph.points n ≡ Some q.value) found.number found.has

        other_than : (n : ℕ) (y : graph.Point) → entry_at (slice_set w.graph.points (past.point_number p.key) None) n ≡ Some y
            → past.point_number p.key ≢ n
        other_than n y there same =
            none-some y (sym (ap (entry_at (slice_set w.graph.points (past.point_number p.key) None)) (sym same)
            ∙ Rattle.mps_laws.proofs.Lookups.entry_at-set_none w.graph.points (past.point_number p.key)) ∙ there)

        stay : (other : Thing) → IsThere h other → other ≢ thing.Point p.key
            → IsThere (record h {
              points = record h.points { points = slice_set h.points.points p.key None };
              live_points = h.live_points - 1;
              names = names;
            }) other
        stay (thing.Point k) some differs =
            subst IsSome (sym (kept_other h.points.points p.key k None (λ e. differs (ap thing.Point e)))) some
        stay _ some differs = some

    abbrev left_by : Kept Point → NamesState → HeapState F
    left_by p names = record h { points = with_point h.points p.key None; live_points = h.live_points - 1; names = names }

    abbrev ours_then : Kept Point → Bool → Checked (NamesState → HeapState F)
    ours_then p is_open = refuse_when is_open refusal.Open >> Ok (left_by p)

    abbrev models_then : Numbered graph.Point → Bool → Checked models.Act
    models_then q is_open = refuse_when is_open refusal.Open >> done (without_point w name q.number)

    abbrev Drops : Checked (NamesState → HeapState F) → Checked models.Act → Type 0
    Drops x y = Same (DropsTo layout h name (call.DropPoint name) (point_dropped h name) past w) x y

    by_reservation : (p : Kept Point) (q : Numbered graph.Point)
        → AreFound (IsPointFound past h w) (point_named h name) (models.point_named w name) p q → (b : Bool)
        → is_some p.value.reservation ≡ b → Drops (ours_then p b) (models_then q b)
    by_reservation p q found true e = Rattle.mps_laws.proofs.Same.refused
    by_reservation p q found false e =
        fits (record {
          answer = refl;
          keeps = λ names. all_kept h;
          formats = refl;
          has = point_left p q found.fit found.ours
              (none_held (length w.flips) found.fit.fit.memory.reserved_at p.value.reservation q.value.reservation
              found.fit.fit.reservation e);
        })

    point_drops : DropsAlike layout h name (call.DropPoint name) (point_dropped h name) past w
    point_drops =
        same_then (same_found (point_same layout past h w parts name)) (λ p q found.
        let same = held_alike (length w.flips) found.fit.fit.memory.reserved_at p.value.reservation q.value.reservation
        found.fit.fit.reservation in
        subst (λ b. Drops (ours_then p (is_some p.value.reservation)) (models_then q b)) same
        (by_reservation p q found (is_some p.value.reservation) refl))

-- ---- the calls

pub point_is_right : {F : Type 0} (layout : F → Layout) (h : HeapState F) (name pool : Name) (at_rank : Rank) (result : Result ℕ Refusal)
    (after : HeapState F)
    → IsMaking h (without_answer (check_point h name pool at_rank)) (MakesPointIn h name pool at_rank) result after
    → IsRightMaking layout h (call.Point name pool at_rank) result after
point_is_right layout h name pool at_rank result after making =
    making_is_right layout h (call.Point name pool at_rank) (without_answer (check_point h name pool at_rank))
    (MakesPointIn h name pool at_rank)
    refl refl (λ w past parts known. point_alike layout h w past parts known name pool at_rank) result after making

pub droppoint_is_right : {F : Type 0} (layout : F → Layout) (h : HeapState F) (name : Name) (result : Result (Unit {0}) Refusal)
    (after : HeapState F) → IsDropping h name (point_dropped h name) result after
    → IsRight layout h (call.DropPoint name) [] (answer_to says_ok result) after
droppoint_is_right layout h name result after dropping =
    dropping_is_right layout h name (call.DropPoint name) (point_dropped h name) refl refl
    (λ w past parts known. point_drops layout h w past parts known name) result after dropping
