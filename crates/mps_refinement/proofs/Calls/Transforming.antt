-- `transform` and `transdrop` are right.
use Rattle.std.proofs.Common.{◌≡◌, ◌≢◌, ◌∙◌, ℕ, ◌+◌, ◌-◌, true, false, refl, sym, ap, subst, [], length, Option, Some, None, Ok, Err, arith}
use Rattle.std.proofs.lemmas.Option.{none-some, same_Some}
use Rattle.std.specs.Prelude.{Result, ◌&&◌, ◌==◌, filter, is_some, nat_le, nat_lt, not, option_and_then, option_map, slice_set}
use Rattle.mps_base.specs.declared.names.Name.{Name}
use Rattle.mps_base.specs.declared.refusal.Refusal.{Refusal}
use Rattle.mps_base.specs.declared.refusal.Refusal.TheVariants as refusal
use Rattle.mps_format.specs.Layout.{Layout}
use Rattle.mps_laws.proofs.Same.{Alike, Same, fits, same_err, same_next, same_refuse_when, same_then}
use Rattle.mps_model.specs.declared.call.Call.TheVariants as call
use Rattle.mps_model.specs.declared.reply.Reply.TheVariants as reply
use Rattle.mps_model.specs.Answer.{Replied}
use Rattle.mps_model.specs.Answer as answers
use Rattle.mps_model.specs.Checked as model
use Rattle.mps_model.specs.Checked.{Checked, ◌>>◌, done, refuse_when, with_graph}
use Rattle.mps_model.specs.Graph as graph
use Rattle.mps_model.specs.Graph.{with_last, without_name}
use Rattle.mps_model.specs.Making as making
use Rattle.mps_model.specs.Making.{refuse_at_limit}
use Rattle.mps_model.specs.Reply.{act}
use Rattle.mps_model.specs.Transforms.{graph_with_transform, most_transforms, state_without_pairs, without_transform}
use Rattle.mps_model.specs.World as world
use Rattle.mps_model.specs.World.{World, pairs_in}
use Rattle.mps_names.specs.State.{NamesState, Updates, thing_named}
use Rattle.mps_names.specs.declared.names.Thing.{Thing}
use Rattle.mps_names.specs.declared.names.Thing.TheVariants as thing
use Rattle.mps_neighbours.specs.Transforms as ours
use Rattle.mps_neighbours.specs.Transforms.{free_number, is_live, with_transform}
use Rattle.mps_heap_spec.specs.Finding.{as_transform, transform_named}
use Rattle.mps_heap_spec.specs.Making.{IsDropping, refuse_taken}
use Rattle.mps_heap_spec.specs.State.{HeapState}
use Rattle.mps_heap_spec.specs.Transforming.{AreTransformsThere, IsTransforming, MakesTransform, NotTransformed, Transformed, check_transform, has_room_for_transform, transform_dropped, with_transforms}
use Rattle.mps_heap_spec.specs.declared.arena.ArenaState.{ArenaState}
use Rattle.mps_heap_spec.specs.declared.arena.ArenaState.TheVariants as arena
use Rattle.mps_refinement.specs.Answering.{answer_to, says_ok}
use Rattle.mps_refinement.specs.RightStep.{IsRight}
use Rattle.mps_refinement.specs.StandsFor.{AreNamed, AreParts, IsThere, Past, StandsFor, collector_of, numbered_thing, state_of}
use Rattle.mps_refinement.specs.StandsForSome.{StandsForSome}
use Rattle.mps_refinement.specs.Transforms.{live_count}
use Rattle.mps_refinement.proofs.Calls.DroppingSteps.{DropsAlike, dropping_is_right}
use Rattle.mps_refinement.proofs.Calls.MakingSteps.{alike_passed, checks_then, first_passed, free_name, taken_same}
use Rattle.mps_refinement.proofs.Lookups.Lookups.{IsKey, key_same}
use Rattle.mps_refinement.proofs.Parts.Named.{named_dropped, named_with}
use Rattle.mps_refinement.proofs.Parts.Numbering.{renumbered_here, renumbered_other}
use Rattle.mps_refinement.proofs.Parts.PartsMade.{transforms_changed}
use Rattle.mps_refinement.proofs.Parts.TransformChanges as changes
use Rattle.mps_refinement.proofs.Parts.TransformCounts.{full_at_sixteen, one_free}
use Rattle.mps_refinement.proofs.Worlds.CollectorKept.{KeepsAll, all_kept}
use Rattle.mps_refinement.proofs.Worlds.Staying.{one_world}
use Rattle.mps_refinement.proofs.Worlds.Steps.{HasParts, plain_is_right}

-- ---- a transform that has a name

pub transforms_numbered : (past : Past) (t : Thing) → model.as_transform (numbered_thing past t)
    ≡ option_map past.transform_number (as_transform t)
transforms_numbered past (thing.Transform key) = refl
transforms_numbered past _ = refl

transform_is : (o : Option Thing) (key : ℕ) → option_and_then as_transform o ≡ Some key → o ≡ Some (thing.Transform key)
transform_is None key e = absurd (none-some key e)
transform_is (Some (thing.Transform number)) key e = ap (λ n. Some (thing.Transform n)) (same_Some number key e)
transform_is (Some _) key e = absurd (none-some key e)

module _ {F : Type 0} (layout : F → Layout) (past : Past) (h : HeapState F) (w : World) (parts : AreParts layout past h w)
    (name : Name) where
  abbrev pub IsTransform : ℕ → ℕ → Type 0
  IsTransform key number = IsKey h name as_transform past.transform_number key number

  pub transform_same : Same IsTransform (transform_named h name) (model.transform_named w name)
  transform_same = key_same past h w parts.names as_transform model.as_transform past.transform_number (transforms_numbered past) name

  pub transform_thing : (key number : ℕ) → IsTransform key number → thing_named h.names name ≡ Some (thing.Transform key)
  transform_thing key number is = transform_is (thing_named h.names name) key is.named

  pub transform_there : (key number : ℕ) → IsTransform key number → is_live h.beside.transforms key ≡ true
  transform_there key number is = parts.names.there name (thing.Transform key) (transform_thing key number is)

-- each heap has the transforms that have names
pub transforms_there : {F : Type 0} (layout : F → Layout) (h : HeapState F) (w : World) → StandsFor layout h w → AreTransformsThere h
transforms_there layout h w st =
    record { there = λ name number is. st.parts.names.there name (thing.Transform number) is }

pub some_transforms_there : {F : Type 0} (layout : F → Layout) (h : HeapState F) → StandsForSome layout h → AreTransformsThere h
some_transforms_there layout h some = let s = one_world layout h some in transforms_there layout h s.0 s.1

-- ---- a transform is made

module _ {F : Type 0} (layout : F → Layout) (h : HeapState F) (w : World) (past : Past) (parts : AreParts layout past h w)
    (name : Name) where
  -- the checks of the model
  abbrev model_checks : Checked (Unit {0})
  model_checks = making.refuse_taken w name >> refuse_at_limit (live_count w.graph.transforms) most_transforms

  room_alike : not (has_room_for_transform h) ≡ nat_le 16 (live_count w.graph.transforms)
  room_alike =
      let live = h.beside.transforms.live in
      ap (λ n. not (nat_lt 0 (16 - n) && is_some (free_number h.beside.transforms))) parts.names.transform_count
      ∙ ap (λ b. not (nat_lt 0 (16 - live_count live) && b)) (one_free live ∙ ap (nat_lt (live_count live)) parts.transforms.sixteen)
      ∙ full_at_sixteen (live_count live) ∙ ap (nat_le 16) parts.transforms.counted

  checks_alike : Alike (check_transform h name) model_checks
  checks_alike =
      same_next (taken_same layout past h w parts name)
      (same_refuse_when (not (has_room_for_transform h)) (nat_le most_transforms (live_count w.graph.transforms))
      (refusal.TooMany most_transforms) room_alike)

  abbrev world_made : World
  world_made = with_graph w (graph_with_transform w.graph name)

  act_is : act false w w (call.Transform name) ≡ (model_checks >> done world_made)
  act_is = checks_then (making.refuse_taken w name) (refuse_at_limit (live_count w.graph.transforms) most_transforms) (done world_made)

  module _ (key : ℕ) (after : HeapState F) (free : thing_named h.names name ≡ None) (makes : MakesTransform h name key after) where
    -- the new one has the next number
    abbrev anew : Past
    anew = record past {
      transform_number = changes.numbers past.transform_number (world.is_copying_object w) w.addresses
          h.beside.transforms w.graph.transforms (pairs_in w.state) parts.transforms key makes.number_is;
    }

    abbrev made : HeapState F
    made = record (with_transforms h (with_transform h.beside.transforms key)) { names = after.names }

    new_was_free : is_live h.beside.transforms key ≡ true → ⊥
    new_was_free = changes.new_was_free past.transform_number (world.is_copying_object w) w.addresses h.beside.transforms
        w.graph.transforms (pairs_in w.state) parts.transforms key makes.number_is

    same_number : (other : Thing) → IsThere h other → numbered_thing anew other ≡ numbered_thing past other
    same_number (thing.Transform k) there =
        ap graph.TransformThing (renumbered_other past.transform_number key (length w.graph.transforms) k
        (λ same. new_was_free (ap (is_live h.beside.transforms) (sym same) ∙ there)))
    same_number _ there = refl

    still_there : (other : Thing) → IsThere h other → IsThere made other
    still_there (thing.Transform k) there =
        changes.others_there past.transform_number (world.is_copying_object w) w.addresses h.beside.transforms
        w.graph.transforms (pairs_in w.state) parts.transforms key makes.number_is k there
    still_there _ there = there

    names_made : AreNamed anew made
        (with_last w.graph.names (record { name = name; thing = graph.TransformThing (length w.graph.transforms) })) w.graph.labels
    names_made =
        named_with past anew h made w.graph.names w.graph.labels parts.names name (thing.Transform key)
        (graph.TransformThing (length w.graph.transforms)) w.graph.labels makes.names free
        (ap graph.TransformThing (renumbered_here past.transform_number key (length w.graph.transforms))) same_number still_there
        (changes.new_there past.transform_number (world.is_copying_object w) w.addresses h.beside.transforms w.graph.transforms
        (pairs_in w.state) parts.transforms key makes.number_is)
        (λ m found. new_was_free (parts.names.there m (thing.Transform key) found)) parts.names.cache_count (record {
          count = parts.names.label_count;
          no_fewer = omega arith;
          one = λ number label. absurd cc;
          transforms = ap (λ n. n + 1) parts.names.transform_count ∙ sym (changes.one_more_live past.transform_number
              (world.is_copying_object w) w.addresses h.beside.transforms w.graph.transforms (pairs_in w.state) parts.transforms key
              makes.number_is);
        })

    transform_parts : HasParts layout past.time after world_made
    transform_parts = record {
      past = anew;
      timed = refl;
      parts = subst (λ s. AreParts layout anew s world_made) (sym makes.state)
          (transforms_changed layout past h w parts anew.transform_number (with_transform h.beside.transforms key) after.names
          (with_last w.graph.transforms true)
          (with_last w.graph.names (record { name = name; thing = graph.TransformThing (length w.graph.transforms) })) w.state parts.state
          (changes.transform_made past.transform_number (world.is_copying_object w) w.addresses h.beside.transforms w.graph.transforms
          (pairs_in w.state) parts.transforms key makes.number_is) names_made);
    }

module _ {F : Type 0} (layout : F → Layout) (h : HeapState F) (name : Name) where
  not_transformed : (why : Refusal) → check_transform h name ≡ Err why
      → IsRight layout h (call.Transform name) [] (answers.refused why) h
  not_transformed why e = λ w line st.
      plain_is_right layout w line (call.Transform name) (answers.refused why) (Err why) h h refl refl st (all_kept h)
      (act_is layout h w st.past st.parts name
      ∙ ap (λ x. x >> done (world_made layout h w st.past st.parts name))
      (same_err (λ a b. Unit {0}) (check_transform h name) (model_checks layout h w st.past st.parts name) why
      (checks_alike layout h w st.past st.parts name) e)) refl refl
      (record { past = st.past; timed = refl; parts = st.parts })

  transformed : (key : ℕ) (after : HeapState F) → check_transform h name ≡ Ok tt → MakesTransform h name key after
      → IsRight layout h (call.Transform name) [] (Replied reply.Ok) after
  transformed key after passed makes = λ w line st.
      plain_is_right layout w line (call.Transform name) (Replied reply.Ok) (done (world_made layout h w st.past st.parts name)) h after
      refl refl st
      (subst (λ (s : HeapState F). KeepsAll (collector_of h) (collector_of s)) (sym makes.state) (all_kept h))
      (act_is layout h w st.past st.parts name
      ∙ ap (λ x. x >> done (world_made layout h w st.past st.parts name))
      (alike_passed (check_transform h name) (model_checks layout h w st.past st.parts name)
      (checks_alike layout h w st.past st.parts name) passed))
      refl refl (transform_parts layout h w st.past st.parts name key after free makes)
    where
      free : thing_named h.names name ≡ None
      free =
          free_name h name
          (first_passed (refuse_taken h name) (refuse_when (not (has_room_for_transform h)) (refusal.TooMany most_transforms)) tt passed).1

  pub transform_is_right : (result : Result (Unit {0}) Refusal) (after : HeapState F) → IsTransforming h name result after
      → IsRight layout h (call.Transform name) [] (answer_to says_ok result) after
  transform_is_right result after is = of_transforming is
    where
      of_transforming : {r : Result (Unit {0}) Refusal} {s : HeapState F} → IsTransforming h name r s
          → IsRight layout h (call.Transform name) [] (answer_to says_ok r) s
      of_transforming (NotTransformed {why = why} e) = not_transformed why e
      of_transforming (Transformed {after = s} {number = key} e makes) = transformed key s e makes

-- ---- a transform is dropped

pairs_dropped : (s : world.ArenaState) (number : ℕ)
    → pairs_in (state_without_pairs s number) ≡ filter (λ p. not (p.transform == number)) (pairs_in s)
pairs_dropped world.Unclamped number = refl
pairs_dropped world.Clamped number = refl
pairs_dropped (world.Parked pairs) number = refl

state_dropped : (a : ArenaState) (s : world.ArenaState) (number : ℕ) → s ≡ state_of a (pairs_in s)
    → state_without_pairs s number ≡ state_of a (pairs_in (state_without_pairs s number))
state_dropped a world.Unclamped number e = e
state_dropped a world.Clamped number e = e
state_dropped arena.Parked (world.Parked pairs) number e = refl
state_dropped arena.Unclamped (world.Parked pairs) number e = absurd cc
state_dropped arena.Clamped (world.Parked pairs) number e = absurd cc

module _ {F : Type 0} (layout : F → Layout) (h : HeapState F) (name : Name) (w : World) (past : Past)
    (parts : AreParts layout past h w) where
  pub dropped_parts : (key number : ℕ) → IsTransform layout past h w parts name key number → (names : NamesState)
      → Updates h.names names name None
      → AreParts layout past (record (with_transforms h (ours.without_transform h.beside.transforms key)) { names = names })
      (without_transform w name (past.transform_number key))
  dropped_parts key number is names updates =
      let there = transform_there layout past h w parts name key number is in
      let n = past.transform_number key in
      transforms_changed layout past h w parts past.transform_number (ours.without_transform h.beside.transforms key) names
      (slice_set w.graph.transforms n false) (without_name w.graph.names name) (state_without_pairs w.state n)
      (state_dropped h.arena w.state n parts.state)
      (subst (Rattle.mps_refinement.specs.Transforms.AreTransforms past.transform_number (world.is_copying_object w) w.addresses
      (ours.without_transform h.beside.transforms key) (slice_set w.graph.transforms n false)) (sym (pairs_dropped w.state n))
      (changes.transform_dropped past.transform_number (world.is_copying_object w) w.addresses h.beside.transforms w.graph.transforms
      (pairs_in w.state) parts.transforms key there))
      (named_dropped past h (record (with_transforms h (ours.without_transform h.beside.transforms key)) { names = names }) w.graph.names
      w.graph.labels parts.names name (thing.Transform key) (transform_thing layout past h w parts name key number is) updates
      (others_left key there names) refl (omega arith)
      (ap (λ n. n - 1) parts.names.transform_count
      ∙ changes.one_less_live past.transform_number (world.is_copying_object w) w.addresses h.beside.transforms w.graph.transforms
      (pairs_in w.state) parts.transforms key there))
    where
      others_left : (k : ℕ) → is_live h.beside.transforms k ≡ true → (left : NamesState) (other : Thing) → IsThere h other
          → other ≢ thing.Transform k
          → IsThere (record (with_transforms h (ours.without_transform h.beside.transforms k)) { names = left }) other
      others_left k here left (thing.Transform j) there differs =
          changes.left_there past.transform_number (world.is_copying_object w) w.addresses h.beside.transforms w.graph.transforms
          (pairs_in w.state) parts.transforms k here j there (λ e. differs (ap thing.Transform e))
      others_left k here left _ there differs = there

  drop_alike : DropsAlike layout h name (call.TransformDrop name) (transform_dropped h name) past w
  drop_alike =
      same_then (transform_same layout past h w parts name) (λ key number is.
      fits (record {
        answer = refl;
        formats = refl;
        keeps = λ names. all_kept h;
        has = λ names updates. record {
          past = past;
          timed = refl;
          parts = subst (λ n. AreParts layout past
              (record (with_transforms h (ours.without_transform h.beside.transforms key)) { names = names }) (without_transform w name n))
              (sym is.number) (dropped_parts key number is names updates);
        };
      }))

pub transdrop_is_right : {F : Type 0} (layout : F → Layout) (h : HeapState F) (name : Name) (result : Result (Unit {0}) Refusal)
    (after : HeapState F) → IsDropping h name (transform_dropped h name) result after
    → IsRight layout h (call.TransformDrop name) [] (answer_to says_ok result) after
transdrop_is_right layout h name result after dropping =
    dropping_is_right layout h name (call.TransformDrop name) (transform_dropped h name) refl refl
    (λ w past parts known. drop_alike layout h name w past parts) result after dropping
