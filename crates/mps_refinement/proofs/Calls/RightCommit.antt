-- A `commit` of a heap at rest is a right step.
use Rattle.std.proofs.Common.{◌≡◌, ◌∙◌, ℕ, Bool, true, false, refl, sym, ap, subst, List, [], ◌∷◌, ◌++◌, length, Option, Some, None, Ok, Err, ◌+◌}
use Rattle.std.specs.Prelude.{not, ◌==◌, if◌then◌else◌, ◌&&◌, slice_set}
use Rattle.std.specs.Option.{option_map_or}
use Rattle.mps_base.specs.Address.{Address, word_of}
use Rattle.mps_base.specs.Trail.{Moves, with_move}
use Rattle.mps_base.specs.declared.moves.Move.{Move}
use Rattle.mps_base.specs.declared.moves.Move.TheVariants as moves
use Rattle.mps_base.specs.declared.names.Name.{Name}
use Rattle.mps_base.specs.declared.names.Slot.{Slot}
use Rattle.mps_base.specs.declared.refusal.Refusal.TheVariants as refusal
use Rattle.mps_buffer.specs.declared.point.Held.{Held}
use Rattle.mps_buffer.specs.declared.point.Point.{Point}
use Rattle.mps_buffer.specs.Points.{with_block}
use Rattle.mps_format.specs.Layout.{Layout}
use Rattle.mps_laws.proofs.QuietSteps.{IsSound}
use Rattle.mps_laws.proofs.Same.{Same, fits, same_then, same_required}
use Rattle.mps_laws.proofs.Same as same
use Rattle.mps_model.specs.declared.call.Call.TheVariants as call
use Rattle.mps_model.specs.declared.reply.Reply.TheVariants as reply
use Rattle.mps_model.specs.Allocating as model
use Rattle.mps_model.specs.Allocating.{act_commit, reserved_address, world_committed}
use Rattle.mps_model.specs.Answer.{Replied, refused, Answer, is_block}
use Rattle.mps_model.specs.Checked.{Act, Checked, Found, Numbered, done, point_named, says, with_graph}
use Rattle.mps_model.specs.Effect.{world_after_moves}
use Rattle.mps_model.specs.Graph as graph
use Rattle.mps_model.specs.Graph.{Reservation, with_last, ids_in_blocks}
use Rattle.mps_model.specs.History.{if_accepted, moves_of_commit, commit_of, with_client_remembered, world_after}
use Rattle.mps_model.specs.World.{World, PointMemory, is_live}
use Rattle.mps_heap_spec.specs.Allocating.{after_commit, with_closed}
use Rattle.mps_refinement.proofs.Parts.CommittedParts.{with_new_kept}
use Rattle.mps_heap_spec.specs.Coming.{ComesMoving, Moved, answer_moved, state_moved, trail_moved}
use Rattle.mps_heap_spec.specs.declared.found.Committed.TheVariants.{AsBlock, AsFlipped}
use Rattle.mps_heap_spec.specs.declared.found.Committed.{Committed}
use Rattle.mps_heap_spec.specs.declared.found.Entry.{Entry}
use Rattle.mps_heap_spec.specs.declared.found.Kept.{Kept}
use Rattle.mps_heap_spec.specs.Objects.{with_slot}
use Rattle.mps_heap_spec.specs.State.{HeapState}
use Rattle.mps_refinement.specs.Answering.{answer_to, says_committed}
use Rattle.mps_refinement.specs.RightStep.{IsRight, IsRightFrom, step_of}
use Rattle.mps_refinement.specs.StandsFor.{AreParts, IsHeld, IsReached, Past, AreOfFlip, IsInTime, collector_of}
use Rattle.mps_refinement.proofs.Calls.Committing.{at, block_parts, block_sound, closed_parts, blocks_live}
use Rattle.mps_refinement.proofs.Lookups.Found.{same_found}
use Rattle.mps_refinement.proofs.Lookups.HeldCells.{held_same}
use Rattle.mps_refinement.proofs.Worlds.Known.{IsKnown, known_now}
use Rattle.mps_refinement.proofs.Lookups.Lookups.{IsPointFound, IsSlotFound, point_same, slot_same}
use Rattle.mps_refinement.proofs.Worlds.Steps.{HasParts, moving_is_right, MovesTo}
use Rattle.mps_refinement.proofs.Worlds.TimeKept.{KeepsTime, keeps_still}
use Rattle.mps_laws.proofs.Sound.SoundEffects.{reservation_gone_sound}
use Rattle.std.specs.List.{list_all}
use Rattle.mps_extents.specs.Table.{bit}
use Rattle.mps_abstract.specs.ClientLaws.{IsWellPlaced}
use Rattle.mps_abstract.specs.Collecting.{Collecting, Running}
use Rattle.mps_trace_laws.specs.Image.Memory.{words_of_arena}
use Rattle.mps_laws.proofs.Replays.Steps.{commit_step}
use Rattle.mps_model.specs.Reply.{act, answer_from, world_from}
use Rattle.mps_model.specs.WellFormed.{IsWellFormed}
use Rattle.mps_refinement.proofs.Worlds.RunningSteps.{IsOwnStep, placed_from_layout}
use Rattle.mps_refinement.proofs.Worlds.FlipKept.{flips_kept}
use Rattle.mps_laws.proofs.Acts.{for_world}
use Rattle.mps_seg.specs.Collecting.{first_grain_over, is_white_at}
use Rattle.mps_refinement.proofs.Worlds.RestingActs.{resting_sound}
use Rattle.mps_refinement.proofs.Calls.CommitKept.{after_commit_kept, commit_kept, kept_in_time}
use Rattle.mps_refinement.proofs.Parts.Resting.{none_over}

module _ {F : Type 0} (layout : F → Layout) (past : Past) (h : HeapState F) (w : World) (parts : AreParts layout past h w)
    (knows : IsKnown past.time w) (reach : IsReached w) (now : IsInTime past.time (collector_of h) w)
    (wide : (at : Address) → is_white_at h.segs at ≡ true → length h.segs.marks.kept ≡ words_of_arena h.segs.grains) (trail : Moves)
    (none : trail.moves ≡ []) (line : ℕ) (name : Name) (target : Slot) where
  sound : w.collection ≡ None → IsSound w
  sound rest = resting_sound w rest knows.live

  -- an outcome and an act lead to the same, with the moves that are due
  pub record CommitLeads (o : Moved F Committed) (a : Act) : Type 0 where
    pub answer : a.answer ≡ says_committed o.answer
    pub moves_are : o.trail.moves ≡ if_accepted (says_committed o.answer) (moves_of_commit w (point_named w name))
    pub still : world_after_moves w o.trail.moves ≡ w
    pub has : HasParts layout past.time o.state a.world
    pub sound_after : w.collection ≡ None → IsSound a.world
    pub blocks : list_all (is_live a.world) (ids_in_blocks a.world.graph) ≡ true
    pub keeps : (AreOfFlip past.time.at_flip w → AreOfFlip past.time.at_flip a.world)
        → KeepsTime past.time (collector_of h) w (collector_of o.state) a.world
    pub formats : a.world.formats ≡ w.formats

  module _ (k : Kept Point) (n : Numbered graph.Point) (found : IsPointFound past h w k n) (named : point_named w name ≡ Ok n)
      (entry : Entry Address) (slot : Found (Option ℕ)) (slot_is : IsSlotFound past h w target entry slot) (held : Held) (r : Reservation)
      (reserved : k.value.reservation ≡ Some held) (open_there : n.value.reservation ≡ Some r)
      (is : IsHeld (length w.flips) held r found.fit.memory.reserved_at) where
    abbrev as_block : Moved F Committed
    as_block = record {
      answer = AsBlock;
      state = with_slot (record (with_closed h k) { segs = with_new_kept (with_block h.segs held) held.at.0 }) entry held.at.0;
      trail = with_move trail (moves.Commit held.at held.words k.value.pool);
    }

    abbrev as_flipped : Moved F Committed
    as_flipped = record { answer = AsFlipped; state = with_closed h k; trail = trail }

    address_is : reserved_address w n.number ≡ found.fit.memory.reserved_at
    address_is = ap (λ o. option_map_or (λ (m : PointMemory). m.reserved_at) o 0) found.fit.has

    abbrev committing : (at words pool : ℕ) → List Move
    committing at words pool = moves.Commit (record { 0 = at }) words pool ∷ []

    one_move : trail.moves ++ moves.Commit held.at held.words k.value.pool ∷ [] ≡ committing held.at.0 held.words k.value.pool
    one_move = ap (λ (xs : List Move). xs ++ moves.Commit held.at held.words k.value.pool ∷ []) none

    due : committing held.at.0 held.words k.value.pool ≡ moves_of_commit w (point_named w name)
    due =
        ap (λ (a : ℕ). committing a held.words k.value.pool) (is.at ∙ sym address_is)
        ∙ ap (λ (m : ℕ). committing (reserved_address w n.number) m k.value.pool) is.words
        ∙ ap (λ (p : ℕ). committing (reserved_address w n.number) (length r.cells) p) found.fit.pool
        ∙ sym (ap (moves_of_commit w) named ∙ ap (commit_of w n) open_there)

    keeps_made : (AreOfFlip past.time.at_flip w → AreOfFlip past.time.at_flip (world_committed w n r slot))
        → KeepsTime past.time (collector_of h) w (collector_of as_block.state) (world_committed w n r slot)
    keeps_made flips = record {
      rest = λ none. none;
      not_condemned = λ not_condemned. not_condemned;
      not_kept = λ not_condemned not_kept word. ap (λ b. bit (if b && not (bit h.segs.marks.kept (word_of held.at.0))
          then slice_set h.segs.marks.kept (word_of held.at.0) true else h.segs.marks.kept) word)
          (none_over h.segs not_condemned (first_grain_over h.segs held.at.0)) ∙ not_kept word;
      running = refl;
      tails = λ pool generation. refl;
      world_tails = λ pool generation. refl;
      ranked = λ y r ranked. record { exact = ranked.exact; weak = ranked.weak };
      flip = flips;
      condemned = λ y is run marked. marked;
    }

    block_leads : r.is_doomed ≡ false → CommitLeads as_block
        (record { answer = Replied reply.Ok; world = world_committed w n r slot })
    block_leads live =
        let laid = knows.laid in
        let same : record w {
          graph = model.graph_committed w.graph n r slot;
          addresses = with_last w.addresses (Some found.fit.memory.reserved_at);
        } ≡ world_committed w n r slot =
        ap (λ (a : ℕ). record w { graph = model.graph_committed w.graph n r slot; addresses = with_last w.addresses (Some a) })
        (sym address_is) in
        record {
          answer = refl;
          moves_are = one_move ∙ due;
          still = ap (world_after_moves w) one_move;
          has = subst (HasParts layout past.time as_block.state) same (record {
            past = past;
            timed = refl;
            parts = block_parts layout past h w parts laid knows sound k n found held r reserved open_there is live
                (wide held.at.0) target entry slot
                slot_is;
          });
          sound_after = λ rest. subst IsSound same
              (block_sound layout past h w parts laid knows sound k n found held r reserved open_there is live
              (wide held.at.0) target entry slot slot_is
              rest);
          blocks = subst (λ (v : World). list_all (is_live v) (ids_in_blocks v.graph) ≡ true) same
              (blocks_live layout past h w parts laid knows sound k n found held r reserved open_there is live
              (wide held.at.0) target entry slot slot_is);
          keeps = keeps_made;
          formats = refl;
        }

    flipped_leads : r.is_doomed ≡ true → CommitLeads as_flipped
        (record { answer = Replied reply.Flipped; world = with_graph w (model.with_reservation w.graph n None) })
    flipped_leads doomed = record {
      answer = refl;
      moves_are = none;
      still = ap (world_after_moves w) none;
      has = record {
        past = past;
        timed = refl;
        parts = closed_parts layout past h w parts knows.laid knows sound k n found held r reserved open_there is doomed;
      };
      sound_after = λ rest. reservation_gone_sound w (sound rest) n;
      blocks = knows.live.blocks;
      keeps = λ flips. record {
        rest = λ none. none;
        not_condemned = λ not_condemned. not_condemned;
        not_kept = λ not_condemned not_kept. not_kept;
        running = refl;
        tails = λ pool generation. refl;
        world_tails = λ pool generation. refl;
        ranked = λ y r ranked. ranked;
        flip = flips;
        condemned = λ y is run marked. marked;
      };
      formats = refl;
    }

    abbrev SameAt : (flips doomed : Bool) → Type 0
    SameAt flips doomed =
        Same CommitLeads (Ok (if flips then as_block else as_flipped))
        (if doomed then says reply.Flipped (with_graph w (model.with_reservation w.graph n None)) else done (world_committed w n r slot))

    commit_leads : SameAt (held.flips == h.points.flips) r.is_doomed
    commit_leads = of_flip (held.flips == h.points.flips) refl
        (is.doomed ∙ ap (λ f. not (held.flips == f)) (sym parts.point_flips))
      where
        of_flip : (b : Bool) → (held.flips == h.points.flips) ≡ b → r.is_doomed ≡ not (held.flips == h.points.flips)
            → SameAt (held.flips == h.points.flips) r.is_doomed
        of_flip true e doomed =
            let live : r.is_doomed ≡ false = doomed ∙ ap not e in
            subst (λ (b : Bool). SameAt b r.is_doomed) (sym e) (subst (λ (b : Bool). SameAt true b) (sym live) (fits (block_leads live)))
        of_flip false e doomed =
            let gone : r.is_doomed ≡ true = doomed ∙ ap not e in
            subst (λ (b : Bool). SameAt b r.is_doomed) (sym e) (subst (λ (b : Bool). SameAt false b) (sym gone) (fits (flipped_leads gone)))

  commit_same : Same CommitLeads (after_commit_kept h trail name target) (act_commit w name target)
  commit_same =
      same_then (same_found (point_same layout past h w parts name)) (λ k n point.
      same_then (slot_same layout past h w parts target) (λ entry slot slot_is.
      same_then (same_required refusal.NotOpen (held_same (length w.flips) point.fit.fit.memory.reserved_at k.value.reservation
      n.value.reservation point.fit.fit.reservation)) (λ held r is.
      commit_leads k n point.fit point.models entry slot slot_is held r is.0 is.1 is.2)))

  -- ---- the step

  abbrev IsRightOutcome : Checked (Moved F Committed) → Type 0
  IsRightOutcome o =
      IsRightFrom layout h w
      (step_of line (call.Commit name target) (trail_moved trail o).moves (answer_to says_committed (answer_moved o))) (state_moved h o)

  -- what it comes to shows all that a step asks
  module _ (ms : List Move) (answer : Answer) (result : Checked Act) (theirs : act_commit w name target ≡ result)
      (due : ms ≡ if_accepted answer (moves_of_commit w (point_named w name))) (still : world_after_moves w ms ≡ w)
      (answers : answer ≡ answer_from result)
      (sound_after : w.collection ≡ None → IsSound (world_from w result))
      (blocks : list_all (is_live (world_from w result)) (ids_in_blocks (world_from w result).graph) ≡ true) where
    comes : act (is_block answer) w (world_after_moves w ms) (call.Commit name target) ≡ result
    comes = ap (λ v. act_commit v name target) still ∙ theirs

    from_same : world_from (world_after_moves w ms) result ≡ world_from w result
    from_same = ap (λ v. world_from v result) still

    own : (y : Collecting) → y.world ≡ w → Running y → IsOwnStep w y (call.Commit name target) ms answer result
    own y is run = record {
      collected = sym is;
      legal = tt;
      due = due;
      marked = tt;
      read = tt;
      possible = tt;
      comes = comes;
      answers = answers;
      formed = subst IsWellFormed (sym is) knows.formed;
      blocks = subst (λ (v : World). list_all (is_live v) (ids_in_blocks v.graph) ≡ true) (sym is) knows.live.blocks;
      placed = placed_from_remembered (placed_from_layout (w.grains + 1) (world_after w (step_of line (call.Commit name target) ms answer))
          (commit_step (w.grains + 1) 0 line w name knows.laid target ms answer due
          (answers ∙ ap answer_from (sym comes))).layout);
      blocks_after = subst (λ (v : World). list_all (is_live v) (ids_in_blocks v.graph) ≡ true) (sym from_same) blocks;
    }
      where
        placed_from_remembered : IsWellPlaced (world_after w (step_of line (call.Commit name target) ms answer))
            → IsWellPlaced (world_from (world_after_moves w ms) result)
        placed_from_remembered fine =
            let of = subst IsWellPlaced (ap (λ r. with_client_remembered (world_from (world_after_moves w ms) r)) comes) fine in
            record { different = of.different; apart = of.apart }

    moves_to : (after : HeapState F) → HasParts layout past.time after (world_from w result)
        → KeepsTime past.time (collector_of h) w (collector_of after) (world_from w result) → (world_from w result).formats
        ≡ w.formats
        → MovesTo layout past.time (collector_of h) w (call.Commit name target) ms answer after result
    moves_to after has keeps formats = record {
      moving = own;
      resting = λ rest. record {
        legal = tt;
        due = due;
        comes = comes;
        answers = answers;
        marked = tt;
        sound = subst IsSound (sym from_same) (sound_after rest);
      };
      formats = ap (λ (v : World). v.formats) from_same ∙ formats;
      has = subst (HasParts layout past.time after) (sym from_same) has;
      keeps = subst (λ v. KeepsTime past.time (collector_of h) w (collector_of after) v) (sym from_same) keeps;
    }

  of_both : (x : Checked (Moved F Committed)) (y : Checked Act) → act_commit w name target ≡ y → Same CommitLeads x y → IsRightOutcome x
  of_both x y theirs (fits {a = o} {b = a} leads) =
      moving_is_right layout past h w parts knows.formed line (call.Commit name target) (λ v. refl) o.trail.moves (says_committed o.answer)
      o.state (Ok a) refl
      reach now
      (moves_to o.trail.moves (says_committed o.answer) (Ok a) theirs leads.moves_are leads.still (sym leads.answer)
      leads.sound_after leads.blocks o.state leads.has (leads.keeps flips) leads.formats)
    where
      flips : AreOfFlip past.time.at_flip w → AreOfFlip past.time.at_flip a.world
      flips of = subst (λ y. AreOfFlip past.time.at_flip (world_from w y)) theirs
          (for_world (AreOfFlip past.time.at_flip) w (act false w w (call.Commit name target))
          (flips_kept false w w (call.Commit name target) past.time.at_flip knows.formed.addresses of) of)
  of_both x y theirs (same.refused {why}) =
      subst (λ ms. IsRightFrom layout h w (step_of line (call.Commit name target) ms (refused why)) h) (sym none)
      (moving_is_right layout past h w parts knows.formed line (call.Commit name target) (λ v. refl) [] (refused why) h (Err why) refl
      reach now
      (moves_to [] (refused why) (Err why) theirs refl refl refl sound knows.live.blocks h
      (record { past = past; timed = refl; parts = parts })
      keeps_still refl))

  pub committed_outcome : IsRightOutcome (after_commit_kept h trail name target)
  committed_outcome = of_both (after_commit_kept h trail name target) (act_commit w name target) refl commit_same

-- `commit` is right, where the trail has no moves before it
pub commit_is_right : {F : Type 0} (layout : F → Layout) (h : HeapState F) (trail : Moves) (name : Name) (target : Slot)
    (result : Checked Committed) (after : HeapState F) (trail_after : Moves)
    → length h.segs.marks.kept ≡ words_of_arena h.segs.grains → trail.moves ≡ []
    → ComesMoving h trail (after_commit h trail name target) result after trail_after
    → IsRight layout h (call.Commit name target) trail_after.moves (answer_to says_committed result) after
commit_is_right layout h trail name target result after trail_after wide none comes = λ w line st.
    subst (λ s. IsRightFrom layout h w (step_of line (call.Commit name target) trail_after.moves (answer_to says_committed result)) s)
    (sym comes.state)
    (subst (λ r. IsRightFrom layout h w (step_of line (call.Commit name target) trail_after.moves (answer_to says_committed r))
    (state_moved h (after_commit h trail name target))) (sym comes.answer)
    (subst (λ (t : Moves). IsRightFrom layout h w (step_of line (call.Commit name target) t.moves
    (answer_to says_committed (answer_moved (after_commit h trail name target))))
    (state_moved h (after_commit h trail name target))) (sym comes.moves)
    (subst (λ o. IsRightFrom layout h w (step_of line (call.Commit name target) (trail_moved trail o).moves
    (answer_to says_committed (answer_moved o))) (state_moved h o))
    (commit_kept h (kept_in_time st.past.time h w st.time) trail name target)
    (committed_outcome layout st.past h w st.parts (known_now st) st.reached st.time (λ at white. wide) trail none line name target))))
