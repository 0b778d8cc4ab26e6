-- The call that applies a transform is right: `transapply`.
use Rattle.std.proofs.Common.{◌≡◌, ◌∙◌, ℕ, Bool, true, false, refl, sym, ap, subst, List, [], length, map, Option, None, Some, Ok, Err}
use Rattle.std.proofs.lemmas.Bool.{false≢true}
use Rattle.std.specs.Prelude.{Result, if◌then◌else◌, not}
use Rattle.std.specs.List.{list_any}
use Rattle.mps_base.specs.Address.{Address, Id}
use Rattle.mps_base.specs.declared.names.Name.{Name}
use Rattle.mps_base.specs.declared.refusal.Refusal.{Refusal}
use Rattle.mps_base.specs.declared.refusal.Refusal.TheVariants as refusal
use Rattle.mps_buffer.specs.Points.{has_live_reservation}
use Rattle.mps_format.specs.Layout.{Layout}
use Rattle.mps_format.specs.Pools.{policy_of_pool}
use Rattle.mps_laws.proofs.Same.{Same, fits, same_err, same_then}
use Rattle.mps_model.specs.declared.call.Call.TheVariants as call
use Rattle.mps_model.specs.declared.reply.Reply.TheVariants as reply
use Rattle.mps_model.specs.Answer.{Replied}
use Rattle.mps_model.specs.Answer as answers
use Rattle.mps_model.specs.Checked.{Act, says, with_graph}
use Rattle.mps_model.specs.Graph.{Object, entry_at}
use Rattle.mps_model.specs.Reply.{act}
use Rattle.mps_model.specs.Transforms as theirs
use Rattle.mps_model.specs.Transforms.{graph_substituted, is_blocked, new_for, object_substituted, pairs_of, slots_substituted, world_substituted}
use Rattle.mps_model.specs.World as world
use Rattle.mps_model.specs.World.{TransformPair, World, pairs_in}
use Rattle.mps_names.specs.State.{NamesState, Updates}
use Rattle.mps_neighbours.specs.Transforms as ours
use Rattle.mps_neighbours.specs.Transforms.{is_live, new_address}
use Rattle.mps_seg.specs.Segs.{SegsState}
use Rattle.mps_trace_laws.specs.Image.AtRest.{StandsAtRest}
use Rattle.mps_trace_laws.specs.Summaries.Summed.{AreWordsSummed}
use Rattle.mps_xform.proofs.Noting.{KeepsRest}
use Rattle.mps_xform.specs.Slots.{slots_after_apply}
use Rattle.mps_heap_spec.specs.State.{HeapState}
use Rattle.mps_heap_spec.specs.declared.arena.ArenaState.{ArenaState}
use Rattle.mps_heap_spec.specs.declared.arena.ArenaState.TheVariants as arena
use Rattle.mps_heap_spec.specs.Transforming.{Applied, AppliesTransform, CanTransform, IsApplying, KeptFromApplying, NotApplied, check_apply, is_blocked_by, is_parked, with_pools_applied, with_transform_applied, with_transforms}
use Rattle.mps_refinement.specs.Answering.{answer_to, says_bool}
use Rattle.mps_refinement.specs.RightStep.{IsRight}
use Rattle.mps_refinement.specs.StandsFor.{AreParts, Past, StandsAt, collector_of, state_of, time_at_rest}
use Rattle.mps_refinement.specs.StandsForSome.{StandsForSome}
use Rattle.mps_refinement.proofs.Calls.DroppingSteps.{ours_ok}
use Rattle.mps_refinement.proofs.Calls.Transforming.{IsTransform, dropped_parts, transform_same, transform_there}
use Rattle.mps_refinement.proofs.Calls.TransformPairs.{same_unless}
use Rattle.mps_refinement.proofs.Lookups.LiveObjects.{different}
use Rattle.mps_refinement.proofs.Parts.PartsWritten.{roots_written, words_written}
use Rattle.mps_refinement.proofs.Parts.Resting.{image_at_rest}
use Rattle.mps_refinement.proofs.Substitution.AppliedPools.{below_keeps}
use Rattle.mps_refinement.proofs.Substitution.Applicable.{can_transform, have_summaries, parked_rests, segments_apart}
use Rattle.mps_refinement.proofs.Substitution.Blocked.{blocked_alike}
use Rattle.mps_refinement.proofs.Substitution.LivePoints.{live_alike, none_lies_reserved, none_reserved}
use Rattle.mps_refinement.proofs.Substitution.Replaced.{IsReplaced, dead_stays, null_stays, replaced}
use Rattle.mps_refinement.proofs.Substitution.SubstitutedObjects.{substituted_image, substituted_summed}
use Rattle.mps_refinement.proofs.Substitution.SubstitutedSlots.{roots_substituted}
use Rattle.mps_refinement.proofs.Worlds.CollectorKept.{KeepsAll, all_kept}
use Rattle.mps_refinement.proofs.Worlds.Known.{IsKnown, known_now}
use Rattle.mps_refinement.proofs.Worlds.Staying.{one_world}
use Rattle.mps_refinement.proofs.Worlds.Steps.{HasParts, plain_is_right}

-- ---- what the call asks for

not_false : (b : Bool) → not b ≡ false → b ≡ true
not_false true e = refl
not_false false e = absurd (false≢true (sym e))

parked_alike : {F : Type 0} (layout : F → Layout) (past : Past) (h : HeapState F) (w : World) → AreParts layout past h w
    → is_parked h.arena ≡ world.is_parked w
parked_alike layout past h w parts = of_arena h.arena ∙ ap world.is_parked_state (sym parts.state)
  where
    of_arena : (a : ArenaState) → is_parked a ≡ world.is_parked_state (state_of a (pairs_in w.state))
    of_arena arena.Unclamped = refl
    of_arena arena.Clamped = refl
    of_arena arena.Parked = refl

module _ {F : Type 0} (layout : F → Layout) (past : Past) (h : HeapState F) (w : World) (parts : AreParts layout past h w)
    (known : IsKnown past.time w) (parked : is_parked h.arena ≡ true) where
  time_is : past.time ≡ time_at_rest
  time_is =
      (parked_rests past.time known.collector w known.formed (sym (parked_alike layout past h w parts) ∙ parked) known.now).time

  pub stands_at_rest : StandsAtRest h.segs w
  stands_at_rest = image_at_rest layout past h w parts time_is

-- each parked heap can have a transform applied
pub some_can_transform : {F : Type 0} (layout : F → Layout) (h : HeapState F) → StandsForSome layout h → is_parked h.arena ≡ true
    → CanTransform layout h
some_can_transform layout h some parked =
    let s = one_world layout h some in
    let st = s.1 in
    can_transform layout st.past h s.0 st.parts (known_now st) (stands_at_rest layout st.past h s.0 st.parts (known_now st) parked)

-- ---- what it comes to

module _ {F : Type 0} (layout : F → Layout) (past : Past) (h : HeapState F) (w : World) (parts : AreParts layout past h w)
    (known : IsKnown past.time w) (name : Name) (key number : ℕ) (is : IsTransform layout past h w parts name key number)
    (parked : is_parked h.arena ≡ true) (none : list_any theirs.has_live_reservation w.graph.points ≡ false) where
  abbrev st : StandsAtRest h.segs w
  st = stands_at_rest layout past h w parts known parked

  abbrev there : is_live h.beside.transforms key ≡ true
  there = transform_there layout past h w parts name key number is

  abbrev pairs : List TransformPair
  pairs = pairs_of w.state (past.transform_number key)

  abbrev to : Address → Option Address
  to = new_address h.beside.transforms key

  null : to 0 ≡ None
  null =
      null_stays past.transform_number (world.is_copying_object w) w.addresses h.beside.transforms w.graph.transforms (pairs_in w.state)
      parts.transforms key there (λ id at live. (st.placed.address id at live).not_null)

  replaces : (id : Id) (at : Address) → entry_at w.addresses id ≡ Some at → IsReplaced w.addresses id (new_for pairs id) (to at)
  replaces =
      replaced past.transform_number (world.is_copying_object w) w.addresses h.beside.transforms w.graph.transforms (pairs_in w.state)
      parts.transforms key there (different layout past h w parts)

  dead : (id : Id) → entry_at w.addresses id ≡ None → new_for pairs id ≡ id
  dead =
      dead_stays past.transform_number (world.is_copying_object w) w.addresses h.beside.transforms w.graph.transforms (pairs_in w.state)
      parts.transforms key there

  abbrev can : CanTransform layout h
  can = can_transform layout past h w parts known st

  abbrev after : SegsState
  after = with_pools_applied layout to h.pools (length h.pools) h.segs

  kept : KeepsRest h.segs after
  kept = below_keeps layout to h.pools h.segs (have_summaries layout past h w parts known) (length h.pools)

  abbrev objects : List Object
  objects = map (object_substituted pairs) w.graph.objects

  abbrev world_of_objects : World
  world_of_objects = with_graph w (record w.graph { objects = objects })

  image : StandsAt past.time (record h.segs { words = after.words }) world_of_objects
  image =
      subst (λ t. StandsAt t (record h.segs { words = after.words }) world_of_objects)
      (sym (time_is layout past h w parts known parked))
      (substituted_image layout past h w parts known st pairs to null replaces can.pools (have_summaries layout past h w parts known)
      (none_lies_reserved w.graph.points w.point_memories none))

  summed : AreWordsSummed layout (map policy_of_pool h.pools) (record h.segs { words = after.words; summaries = after.summaries })
  summed =
      substituted_summed layout past h w parts known st pairs to null replaces can.pools (have_summaries layout past h w parts known)
      (segments_apart layout past h w parts known) (none_reserved w.graph.points w.point_memories none)

  abbrev with_words : HeapState F
  with_words = record h { segs = record h.segs { words = after.words; summaries = after.summaries } }

  parts_of_words : AreParts layout past with_words world_of_objects
  parts_of_words = words_written layout past h w parts after.words after.summaries objects image summed

  abbrev with_slots : HeapState F
  with_slots = record with_words { roots = slots_after_apply to h.roots }

  abbrev world_of_slots : World
  world_of_slots = with_graph w (graph_substituted w.graph pairs)

  parts_of_slots : AreParts layout past with_slots world_of_slots
  parts_of_slots =
      roots_written layout past with_words world_of_objects parts_of_words (slots_after_apply to h.roots)
      (map (slots_substituted pairs) w.graph.tables) w.graph.areas w.graph.blocks
      (roots_substituted layout past with_words world_of_objects parts_of_words pairs to null replaces dead)

  abbrev applied : NamesState → HeapState F
  applied names =
      record (with_transforms (with_transform_applied layout h key) (ours.without_transform h.beside.transforms key)) { names = names }

  applied_parts : (names : NamesState) → Updates h.names names name None
      → AreParts layout past (applied names) (world_substituted w name (past.transform_number key))
  applied_parts names updates =
      let P : SegsState → Type 0 = λ g.
      AreParts layout past
      (record (with_transforms (record h { segs = g; roots = slots_after_apply to h.roots })
      (ours.without_transform h.beside.transforms key)) { names = names })
      (world_substituted w name (past.transform_number key))
      in
      subst P (sym kept.rest)
      (dropped_parts layout with_slots name world_of_slots past parts_of_slots key number
      (record { named = is.named; number = is.number }) names updates)

  keeps : (names : NamesState) → KeepsAll (collector_of h) (collector_of (applied names))
  keeps names = (
    ap (λ (s : SegsState). s.condemned) kept.rest,
    ap (λ (s : SegsState). s.marks) kept.rest,
    ap (λ (s : SegsState). s.segments) kept.rest,
    λ pool generation. refl,
    refl,
  )

-- ---- the call

module _ {F : Type 0} (layout : F → Layout) (h : HeapState F) (name : Name) where
  -- what the model does where the checks pass
  record LeadsTo (past : Past) (w : World) (key : ℕ) (a : Act) : Type 0 where
    kept_from : is_blocked_by h key ≡ true → a ≡ record { answer = Replied reply.No; world = w }
    answer : is_blocked_by h key ≡ false → a.answer ≡ Replied reply.Yes
    formats : is_blocked_by h key ≡ false → a.world.formats ≡ w.formats
    keeps : (names : NamesState) → KeepsAll (collector_of h)
        (collector_of (record (with_transforms (with_transform_applied layout h key) (ours.without_transform h.beside.transforms key))
        { names = names }))
    has : is_blocked_by h key ≡ false → (names : NamesState) → Updates h.names names name None
        → HasParts layout past.time
        (record (with_transforms (with_transform_applied layout h key) (ours.without_transform h.beside.transforms key)) { names = names })
        a.world

  leads : (past : Past) (w : World) (parts : AreParts layout past h w) (known : IsKnown past.time w) (key number : ℕ)
      → IsTransform layout past h w parts name key number → is_parked h.arena ≡ true
      → list_any theirs.has_live_reservation w.graph.points ≡ false
      → Same (LeadsTo past w) (Ok key)
      (if is_blocked w (pairs_of w.state number) then says reply.No w else says reply.Yes (world_substituted w name number))
  leads past w parts known key number is parked none =
      subst (λ (n : ℕ). Same (LeadsTo past w) (Ok key)
      (if is_blocked w (pairs_of w.state n) then says reply.No w else says reply.Yes (world_substituted w name n))) (sym is.number)
      (of_test (is_blocked w (pairs_of w.state (past.transform_number key))) alike)
    where
      alike : is_blocked_by h key ≡ is_blocked w (pairs_of w.state (past.transform_number key))
      alike = blocked_alike layout past h w parts known key (transform_there layout past h w parts name key number is)

      of_test : (b : Bool) → is_blocked_by h key ≡ b
          → Same (LeadsTo past w) (Ok key)
          (if b then says reply.No w else says reply.Yes (world_substituted w name (past.transform_number key)))
      of_test true e = fits (record {
        kept_from = λ yes. refl;
        answer = λ no. absurd (false≢true (sym no ∙ e));
        formats = λ no. absurd (false≢true (sym no ∙ e));
        keeps = keeps layout past h w parts known name key number is parked none;
        has = λ no. absurd (false≢true (sym no ∙ e));
      })
      of_test false e = fits (record {
        kept_from = λ yes. absurd (false≢true (sym e ∙ yes));
        answer = λ no. refl;
        formats = λ no. refl;
        keeps = keeps layout past h w parts known name key number is parked none;
        has = λ no names updates. record {
          past = past;
          timed = refl;
          parts = applied_parts layout past h w parts known name key number is parked none names updates;
        };
      })

  apply_alike : (past : Past) (w : World) (parts : AreParts layout past h w) → IsKnown past.time w
      → Same (LeadsTo past w) (check_apply h name) (act false w w (call.TransformApply name))
  apply_alike past w parts known =
      same_then (transform_same layout past h w parts name) (λ key number is.
      same_unless (not (is_parked h.arena)) (not (world.is_parked w)) refusal.NotParked (ap not (parked_alike layout past h w parts))
      (λ parked.
      same_unless (has_live_reservation h.points) (list_any theirs.has_live_reservation w.graph.points) refusal.Open
      (live_alike layout past h w parts) (λ none.
      leads past w parts known key number is (not_false (is_parked h.arena) parked) (sym (live_alike layout past h w parts) ∙ none))))

  not_applied : (why : Refusal) → check_apply h name ≡ Err why → IsRight layout h (call.TransformApply name) [] (answers.refused why) h
  not_applied why e = λ w line st.
      plain_is_right layout w line (call.TransformApply name) (answers.refused why) (Err why) h h refl refl st (all_kept h)
      (same_err (LeadsTo st.past w) (check_apply h name) (act false w w (call.TransformApply name)) why
      (apply_alike st.past w st.parts (known_now st)) e)
      refl refl (record { past = st.past; timed = refl; parts = st.parts })

  kept_from_applying : (key : ℕ) → check_apply h name ≡ Ok key → is_blocked_by h key ≡ true
      → IsRight layout h (call.TransformApply name) [] (Replied reply.No) h
  kept_from_applying key e blocked = λ w line st.
      let y = ours_ok (LeadsTo st.past w) (check_apply h name) (act false w w (call.TransformApply name)) key
      (apply_alike st.past w st.parts (known_now st)) e in
      plain_is_right layout w line (call.TransformApply name) (Replied reply.No) (says reply.No w) h h refl refl st (all_kept h)
      (y.1 ∙ ap Ok (y.2.kept_from blocked)) refl refl (record { past = st.past; timed = refl; parts = st.parts })

  was_applied : (key : ℕ) (after : HeapState F) → check_apply h name ≡ Ok key → is_blocked_by h key ≡ false
      → AppliesTransform layout h name key after → IsRight layout h (call.TransformApply name) [] (Replied reply.Yes) after
  was_applied key after e free applies = λ w line st.
      let y = ours_ok (LeadsTo st.past w) (check_apply h name) (act false w w (call.TransformApply name)) key
      (apply_alike st.past w st.parts (known_now st)) e in
      plain_is_right layout w line (call.TransformApply name) (Replied reply.Yes) (Ok y.0) h after refl refl st
      (subst (λ (z : HeapState F). KeepsAll (collector_of h) (collector_of z)) (sym applies.state) (y.2.keeps after.names)) y.1
      (sym (y.2.answer free)) (y.2.formats free)
      (subst (λ z. HasParts layout st.past.time z (y.0).world) (sym applies.state) (y.2.has free after.names applies.names))

  pub transapply_is_right : (result : Result Bool Refusal) (state : HeapState F) → IsApplying layout h name result state
      → IsRight layout h (call.TransformApply name) [] (answer_to says_bool result) state
  transapply_is_right result state is = of_applying is
    where
      of_applying : {r : Result Bool Refusal} {s : HeapState F} → IsApplying layout h name r s
          → IsRight layout h (call.TransformApply name) [] (answer_to says_bool r) s
      of_applying (NotApplied {why = why} e) = not_applied why e
      of_applying (KeptFromApplying {number = key} e blocked) = kept_from_applying key e blocked
      of_applying (Applied {after = s} {number = key} e free applies) = was_applied key s e free applies
