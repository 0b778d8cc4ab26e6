-- `limit`, `committed`, `clamp`, `park` and `release`.
use Rattle.std.proofs.Common.{◌≡◌, ◌∙◌, ℕ, ◌+◌, false, refl, sym, ap, subst, List, [], ◌∷◌, map, Ok, true, Err}
use Rattle.std.proofs.lemmas.List.Sums.{sum_by-cons}
use Rattle.std.specs.Prelude.{nat_lt, sum_by}
use Rattle.mps_base.specs.Run.{Run, total}
use Rattle.mps_base.specs.Segment.{Segment, grains_of_segment}
use Rattle.mps_base.specs.declared.refusal.Refusal.TheVariants as refusal
use Rattle.mps_format.specs.Layout.{Layout}
use Rattle.mps_laws.proofs.Same.{Same, fits, same_next, same_refuse_when}
use Rattle.mps_model.specs.declared.call.Call.{Call}
use Rattle.mps_model.specs.declared.call.Call.TheVariants as call
use Rattle.mps_model.specs.declared.reply.Reply.TheVariants as reply
use Rattle.mps_model.specs.Answer.{Replied}
use Rattle.mps_model.specs.Checked.{Checked, done}
use Rattle.mps_model.specs.Collecting.{with_state}
use Rattle.mps_model.specs.Reply.{act}
use Rattle.mps_model.specs.World as world
use Rattle.mps_model.specs.World.{World, committed}
use Rattle.mps_heap_spec.specs.Arena.{held_grains, limit_set, with_arena, with_arena_anew}
use Rattle.mps_neighbours.specs.Transforms.{emptied}
use Rattle.mps_heap_spec.specs.Coming as ours
use Rattle.mps_heap_spec.specs.Coming.{Comes}
use Rattle.mps_heap_spec.specs.State.{HeapState}
use Rattle.mps_heap_spec.specs.declared.arena.ArenaState.{ArenaState}
use Rattle.mps_heap_spec.specs.declared.arena.ArenaState.TheVariants as arena
use Rattle.mps_refinement.proofs.Worlds.CollectorKept.{all_kept}
use Rattle.mps_refinement.specs.Answering.{answer_to, says_number, says_ok}
use Rattle.mps_refinement.specs.RightStep.{IsRight, IsRightIn, step_of}
use Rattle.mps_refinement.specs.StandsFor.{AreParts, Past, Rests, StandsFor, state_of, collector_of}
use Rattle.mps_refinement.proofs.Parts.PartsMade.{arena_changed}
use Rattle.mps_refinement.proofs.Worlds.Steps.{HasParts, Leads, answer_is_right, quiet_is_right, resting_is_right}
use Rattle.mps_refinement.proofs.Worlds.RunningActs.{is_plain}
use Rattle.mps_refinement.specs.QuietCalls.{never_moves}
use Rattle.mps_refinement.proofs.Parts.BlockParts.{unpaired}
use Rattle.mps_refinement.proofs.Parts.TransformParts.{transforms_emptied}

-- ---- the grains that are held

total_of_segments : (ss : List Segment) → total (map grains_of_segment ss) ≡ sum_by (λ (s : Segment). s.grains) ss
total_of_segments [] = refl
total_of_segments (s ∷ ss) =
    sum_by-cons (λ (r : Run). r.count) (grains_of_segment s) (map grains_of_segment ss) ∙ ap (λ n. s.grains + n) (total_of_segments ss)
    ∙ sym (sum_by-cons (λ (t : Segment). t.grains) s ss)

module _ {F : Type 0} (layout : F → Layout) (h : HeapState F) (w : World) (past : Past) (parts : AreParts layout past h w) where
  pub held_grains_are : held_grains h ≡ committed w
  held_grains_are =
      total_of_segments h.segs.segments ∙ ap (λ (ss : List Segment). sum_by (λ (s : Segment). s.grains) ss) parts.segments

  limit_same : (limit : ℕ) → Same (Leads layout says_ok h past w) (limit_set h limit) (act false w w (call.Limit limit))
  limit_same limit =
      same_next (same_refuse_when (nat_lt limit (held_grains h)) (nat_lt limit (committed w)) refusal.BelowCommitted
      (ap (nat_lt limit) held_grains_are))
      (fits (record {
        answer = refl;
        keeps = all_kept h;
        formats = refl;
        has = record {
          past = past;
          timed = refl;
          parts = arena_changed layout past h w parts limit h.arena h.beside.transforms w.state h.names parts.state parts.transforms refl
              (λ n. refl) refl;
        };
      }))

  -- a parked arena keeps the pairs of transforms
  pub parked_has : HasParts layout past.time (with_arena h arena.Parked) (with_state w (world.Parked (world.pairs_in w.state)))
  parked_has = record {
    past = past;
    timed = refl;
    parts = subst (λ (l : ℕ). AreParts layout past (with_arena h arena.Parked)
        (record w { limit = l; state = world.Parked (world.pairs_in w.state) })) parts.limit
        (arena_changed layout past h w parts h.segs.limit arena.Parked h.beside.transforms (world.Parked (world.pairs_in w.state)) h.names
        refl parts.transforms refl (λ n. refl) refl);
  }

  -- and any other has none
  pub anew_has : (arena : ArenaState) → HasParts layout past.time (with_arena_anew h arena) (with_state w (state_of arena []))
  anew_has arena = record {
    past = past;
    timed = refl;
    parts = subst (λ (l : ℕ). AreParts layout past (with_arena_anew h arena)
        (record w { limit = l; state = state_of arena [] })) parts.limit
        (arena_changed layout past h w parts h.segs.limit arena (emptied h.beside.transforms) (state_of arena []) h.names
        (ap (state_of arena) (sym (unpaired arena)))
        (transforms_emptied past.transform_number (world.is_copying_object w) (world.is_copying_object w) w.addresses w.addresses
        h.beside.transforms w.graph.transforms (world.pairs_in w.state) (world.pairs_in (state_of arena [])) (unpaired arena)
        parts.transforms) refl (λ n. refl) refl);
  }

module _ {F : Type 0} (layout : F → Layout) (h : HeapState F) where
  pub limit_is_right : (limit : ℕ) (result : Checked (Unit {0})) (after : HeapState F) → Comes h (limit_set h limit) result after
      → IsRight layout h (call.Limit limit) [] (answer_to says_ok result) after
  limit_is_right limit result after comes =
      quiet_is_right layout says_ok h (call.Limit limit) refl refl (limit_set h limit) result after
      (λ w past parts reached. limit_same layout h w past parts limit) comes

  pub committed_is_right : (result : ℕ) → result ≡ held_grains h → IsRight layout h call.Committed [] (Replied (reply.Number result)) h
  committed_is_right result is =
      answer_is_right layout says_number h call.Committed refl refl (Ok (held_grains h)) (Ok result)
      (λ w past parts reached.
      fits (record { answer = ap says_number (sym (held_grains_are layout h w past parts)); world = refl })) (ap Ok is)

  -- the arena's state, without pairs of transforms
  state_is_right : (c : Call) (arena : ArenaState) (after : HeapState F) → never_moves c ≡ true
      → is_plain c ≡ true
      → ((w : World) → act false w w c ≡ done (with_state w (state_of arena []))) → after ≡ with_arena_anew h arena
      → IsRight layout h c [] (Replied reply.Ok) after
  state_is_right c arena after quiet once acts is =
      quiet_is_right layout says_ok h c quiet once (ours.done (with_arena_anew h arena)) (Ok tt) after
      (λ w past parts reached.
      subst (λ x. Same (Leads layout says_ok h past w) (ours.done (with_arena_anew h arena)) x) (sym (acts w))
      (fits (record { answer = refl; keeps = all_kept h; formats = refl; has = anew_has layout h w past parts arena })))
      (record { answer = refl; state = is })

  pub clamp_is_right : (after : HeapState F) → after ≡ with_arena_anew h arena.Clamped
      → IsRight layout h call.Clamp [] (Replied reply.Ok) after
  clamp_is_right after is = state_is_right call.Clamp arena.Clamped after refl refl (λ w. refl) is

  pub release_is_right : (after : HeapState F) → after ≡ with_arena_anew h arena.Unclamped
      → IsRight layout h call.Release [] (Replied reply.Ok) after
  release_is_right after is = state_is_right call.Release arena.Unclamped after refl refl (λ w. refl) is

  -- if no collection runs there is nothing to finish
  pub resting_park_is_right : (w : World) (st : StandsFor layout h w) → Rests st.past.time (collector_of h) w → (line : ℕ)
      → IsRightIn layout w (step_of line call.Park [] (Replied reply.Ok)) (with_arena h arena.Parked)
  resting_park_is_right w st rest line =
      resting_is_right layout w line call.Park (Replied reply.Ok) refl refl st.reached
      (Err refusal.NotRegistered) st.past.time (collector_of h) (done (with_state w (world.Parked (world.pairs_in w.state))))
      (with_arena h arena.Parked) rest (all_kept h) refl refl (parked_has layout h w st.past st.parts)
