-- `get` while a collection runs: the read barrier in the segment of its object, and then the read. One that is refused has no barrier.
use Rattle.std.proofs.Common.{◌≡◌, ◌∙◌, ℕ, ◌+◌, Bool, true, false, refl, sym, ap, subst, List, [], Option, Some, None, Ok, Err}
use Rattle.std.proofs.lemmas.Option.{none-some, same_Some}
use Rattle.std.specs.List.{list_all}
use Rattle.std.specs.Prelude.{MatchBool, ◌&&◌, not, option_and_then}
use Rattle.std.specs.Option.{option_map_or}
use Rattle.mps_base.specs.Address.{Id}
use Rattle.mps_base.specs.Segment.{Segment, is_in_segment, segment_over}
use Rattle.mps_base.specs.Trail.{Moves}
use Rattle.mps_base.specs.declared.moves.Move.{Move}
use Rattle.mps_base.specs.declared.names.Slot.{Slot}
use Rattle.mps_base.specs.declared.refusal.Refusal.{Refusal}
use Rattle.mps_format.specs.Layout.{Layout}
use Rattle.mps_trace.specs.Trace.{Traced}
use Rattle.mps_abstract.specs.Collecting.{Collecting}
use Rattle.mps_abstract.specs.Colours.{is_black, is_grey, is_white}
use Rattle.mps_abstract.specs.ClientLaws.{IsReadKept}
use Rattle.mps_abstract.specs.Laws.{IsBarrierDone}
use Rattle.mps_abstract.specs.Leaving.{IsButCollected}
use Rattle.mps_abstract.proofs.Barrier.{barrier_is_done, barrier_shown}
use Rattle.mps_abstract.proofs.BarrierLeavings.{a_barrier_leaves_the_rest, a_kept_object_stays_at_a_barrier}
use Rattle.mps_abstract.proofs.Calls.ClientBeside.{slot_found, slot_held}
use Rattle.mps_abstract.proofs.Due.{work_is_due}
use Rattle.mps_laws.proofs.Positions.Segments.{found_among}
use Rattle.mps_laws.proofs.Reading.{object_found}
use Rattle.mps_laws.proofs.Same.{Same, fits}
use Rattle.mps_model.specs.declared.call.Call.{Call}
use Rattle.mps_model.specs.declared.call.Call.TheVariants as call
use Rattle.mps_model.specs.declared.reply.Reply.TheVariants as reply
use Rattle.mps_model.specs.Accessing.{act_get}
use Rattle.mps_model.specs.Allocating.{with_slot}
use Rattle.mps_model.specs.Answer.{Replied, refused}
use Rattle.mps_model.specs.Checked as model
use Rattle.mps_model.specs.Checked.{Act, Checked, Found, Numbered, with_graph}
use Rattle.mps_model.specs.Effect.{world_after_moves}
use Rattle.mps_model.specs.Graph.{Object, contains, entry_at, ids_in_blocks, targets}
use Rattle.mps_model.specs.LegalMove.{ForOne}
use Rattle.mps_model.specs.Units.{IsBarrier}
use Rattle.mps_base.specs.Address.{grain_of}
use Rattle.mps_extents.specs.Table.{bit}
use Rattle.mps_abstract.proofs.Calls.ClientBeside.{same_Ok}
use Rattle.mps_refinement.proofs.Worlds.CollectorKept.{ranks_kept}
use Rattle.mps_model.specs.History.{AreMovesOfGet, HeldAreLive, segment_of_found}
use Rattle.mps_model.specs.World.{World, address_of, is_live, is_live_and, is_parked, is_running, segment_of}
use Rattle.mps_heap_spec.specs.Coming.{Comes, Outcome}
use Rattle.mps_heap_spec.specs.Finding.{object_in}
use Rattle.mps_heap_spec.specs.Objects.{reference_got}
use Rattle.mps_heap_spec.specs.State.{HeapState}
use Rattle.mps_heap_spec.specs.declared.found.Block.{Block}
use Rattle.mps_refinement.specs.Answering.{answer_to, says_ok}
use Rattle.mps_refinement.specs.RightStep.{IsRightIn, step_of}
use Rattle.mps_refinement.specs.StandsFor.{AreParts, IsInTime, IsReached, Past, Runs, Time, collector_of, rests, runs}
use Rattle.mps_refinement.proofs.Calls.Objects.{IsFoundIn, object_found_in, reference_got_alike, reference_got_same}
use Rattle.mps_refinement.proofs.Lookups.LiveObjects.{IsObject}
use Rattle.mps_refinement.proofs.Units.Accesses.{IsAccessed}
use Rattle.mps_refinement.proofs.Units.GetActs.{IsGot, IsThere, accepted_after, accepted_too, got_parts, is_there, judged_after, judged_before, refused_too}
use Rattle.mps_refinement.proofs.Units.FromUnits.{collector_after}
use Rattle.mps_refinement.proofs.Units.MovedParts.{collected_heap}
use Rattle.mps_refinement.proofs.Worlds.CellsByMoves.{references_kept}
use Rattle.mps_refinement.specs.Following.{Following, are_of_one, followed, following, nothing_followed, unpaired}
use Rattle.mps_refinement.proofs.Following.Cleared.{cleared_targets}
use Rattle.mps_refinement.proofs.Following.Laws.{due_moves_follow, splats_follow}
use Rattle.mps_refinement.proofs.Following.Made.{AreMade, following_leaves, paired_made, still_aside}
use Rattle.mps_refinement.proofs.Following.WithoutPairs.{alone}
use Rattle.mps_abstract.proofs.Rows.{still_runs}
use Rattle.mps_laws.proofs.SameArena.{moved_alone}
use Rattle.mps_model.specs.Collecting.{with_state}
use Rattle.mps_model.specs.LegalMove.{AreLegalMoves}
use Rattle.mps_model.specs.WellFormed.{IsWellFormed}
use Rattle.mps_trace.specs.declared.running.Running.{Running as RunningState}
use Rattle.mps_heap_spec.specs.Following.{moves_followed}
use Rattle.mps_heap_spec.specs.Getting.{with_traced}
use Rattle.mps_refinement.proofs.Worlds.InSteps.{known_after_barrier, known_by_moves, running_unparked}
use Rattle.mps_refinement.proofs.Worlds.Known.{IsKnown}
use Rattle.mps_refinement.proofs.Worlds.RunningSteps.{IsOwnStep, placed_from_layout}
use Rattle.mps_refinement.proofs.Worlds.Steps.{HasParts, Leads, own_step_is_right, refusal_is_right}
use Rattle.mps_refinement.proofs.Worlds.LikeReached.{IsBare, IsLikeReached, like_reached}

abbrev no_moves : List Move
no_moves = []

module _ {F : Type 0} (layout : F → Layout) (past : Past) (h : HeapState F) (w : World) (parts : AreParts layout past h w)
    (knows : IsKnown past.time w) (reach : IsReached w) (line : ℕ) (target source : Slot) (k : ℕ) where
  abbrev c : Call
  c = call.Get target source k

  -- ---- a refused one

  no_barrier : (b : Bool) → MatchBool (b && false) (ForOne (segment_of_found w (model.slot_in w source)) (λ s. IsBarrier w s no_moves))
      (no_moves ≡ [])
  no_barrier true = refl
  no_barrier false = refl

  pub refused_get_is_right : IsInTime past.time (collector_of h) w → (why : Refusal) → reference_got layout h target source k ≡ Err why
      → IsRightIn layout w (step_of line c [] (refused why)) h
  refused_get_is_right now why e =
      refusal_is_right layout past h w line c why refl reach parts now (record {
        legal = tt;
        due = no_barrier (is_running w);
        possible = tt;
        comes = refused_too why (reference_got_alike layout past h w parts knows target source k) e;
        answers = refl;
        blocks_after = knows.live.blocks;
      }) refl (λ v. refl)

  -- ---- one that reads, after what was done by `access`

  object_of : (b : Block F) → object_in layout h source ≡ Ok b
      → IsThere (λ (b : Block F) (n : Numbered Object). IsObject layout past h w b n × IsFoundIn w source n) b
  object_of b found = is_there b (object_found_in layout past h w parts knows source) found

  -- the segment over the object
  pub its_segment : (b : Block F) → object_in layout h source ≡ Ok b → (s : Segment) × (segment_over h.segs.segments b.at ≡ Some s)
  its_segment b found = let block = (object_of b found).fit.0.block in (block.segment, block.over)

  -- the barrier is that of the abstract collector in the world without its pairs
  module _ (x : Collecting) (alike : x.world ≡ unpaired w) (bare : IsBare x.world) (r : Runs past.time (collector_of h) x.world x)
      (m : Moves) (o : Outcome F (Unit {0})) (accepted : reference_got layout h target source k ≡ Ok o)
      (b : Block F) (found : object_in layout h source ≡ Ok b) (s : Segment) (over : segment_over h.segs.segments b.at ≡ Some s)
      (z : Traced) (is : IsAccessed layout past (alone h) x r m s z) where
    abbrev y : Collecting
    y = is.after

    did : IsBarrierDone s x is.moves y
    did = barrier_is_done s x y is.moves r.invariant is.barrier

    left : IsButCollected x.world y.world
    left = a_barrier_leaves_the_rest s x y is.moves r.invariant is.barrier

    abbrev v : World
    v = world_after_moves (unpaired w) is.moves

    leads : v ≡ y.world
    leads = ap (λ (q : World). world_after_moves q is.moves) (sym alike) ∙ did.leads

    legal : AreLegalMoves (unpaired w) None is.moves
    legal = subst (λ (q : World). AreLegalMoves q None is.moves) alike did.legal

    -- ---- the object that is read

    the_object : IsThere (λ (b : Block F) (n : Numbered Object). IsObject layout past h w b n × IsFoundIn w source n) b
    the_object = object_of b found

    abbrev n : Numbered Object
    n = the_object.value

    in_slot : IsFoundIn w source n
    in_slot = the_object.fit.1

    in_hand : in_slot.given.value ≡ Some n.number
    in_hand = (object_found w in_slot.given.value n in_slot.object).0

    slot_before : model.slot_in x.world source ≡ Ok in_slot.given
    slot_before = ap (λ (q : World). model.slot_in q source) alike ∙ in_slot.slot

    slot_then : model.slot_in y.world source ≡ Ok in_slot.given
    slot_then = ap (λ (q : World). model.slot_in q source) left.world ∙ slot_before

    there_before : address_of x.world n.number ≡ Some b.at
    there_before = ap (λ (q : World). address_of q n.number) alike ∙ the_object.fit.0.address

    there_then : entry_at y.world.addresses n.number ≡ Some b.at
    there_then =
        (a_kept_object_stays_at_a_barrier s x y is.moves r.invariant is.barrier).in_place n.number
        (r.invariant.coloured.held n.number
        (slot_held x.world.graph in_slot.given n.number (slot_found x.world source in_slot.given slot_before) in_hand))
        ∙ there_before

    inside : is_live_and (is_in_segment s) y.world n.number ≡ true
    inside =
        ap (λ at. option_map_or (is_in_segment s) at false) there_then
        ∙ (found_among (λ t. is_in_segment t b.at) h.segs.segments s over).1

    kept_then : is_white y.running.condemned y.colours n.number ≡ false
    kept_then =
        did.running.coloured.held n.number
        (slot_held y.world.graph in_slot.given n.number (slot_found y.world source in_slot.given slot_then) in_hand)

    not_grey : is_grey y.colours n.number ≡ false
    not_grey =
        sym (ap (λ b. b && is_grey y.colours n.number) inside)
        ∙ (barrier_shown s is.barrier r.invariant).none_grey n.number

    -- what is in the slot after the barrier is what was there before
    same_id : (q : World) → model.slot_in q source ≡ Ok in_slot.given → (from : Found (Option ℕ)) (id : Id)
        → model.slot_in q source ≡ Ok from → from.value ≡ Some id → id ≡ n.number
    same_id q slot from id e refers =
        let before : from ≡ in_slot.given = same_Ok from in_slot.given (sym e ∙ slot) in
        same_Some id n.number (sym refers ∙ ap (λ (f : Found (Option ℕ)). f.value) before ∙ in_hand)

    -- ---- with pairs

    abbrev like : IsLikeReached w
    like = like_reached w reach

    due_alone : AreMovesOfGet x.world source (Replied reply.Ok) is.moves
    due_alone =
        (work_is_due x r.invariant).get source (Replied reply.Ok) is.barrier
        (ap (segment_of_found x.world) slot_before
        ∙ ap (λ e. option_and_then (segment_of x.world) (option_and_then (address_of x.world) e)) in_hand
        ∙ ap (option_and_then (segment_of x.world)) there_before
        ∙ subst (λ ss. segment_over ss b.at ≡ Some s) (parts.segments ∙ sym (ap (λ (q : World). q.segments) alike)) over) refl

    due : (are_of_one is.moves ≡ true) × AreMovesOfGet w source (Replied reply.Ok) is.moves
    due =
        (due_moves_follow w None is.moves like.kept.paired legal).get source (Replied reply.Ok)
        (subst (λ (q : World). AreMovesOfGet q source (Replied reply.Ok) is.moves) alike due_alone)

    made_alone : AreMade layout (unpaired w) is.moves v is.time (alone (with_traced h z))
    made_alone =
        let knows_alone =
        known_after_barrier is.time (collector_after z r.run) s x y is.moves bare.like r.invariant is.barrier (runs y is.runs) in
        record {
          legal = legal;
          has = record {
            past = record past { time = is.time };
            timed = refl;
            parts = subst (λ (e : Option RunningState). AreParts layout (record past { time = is.time })
                (record (alone (with_traced h z)) { running = e }) v) (sym r.running)
                (subst (AreParts layout (record past { time = is.time })
                (collected_heap (alone h) (collector_after z r.run) h.finals)) (sym leads) is.parts);
          };
          now = subst (λ (e : Option RunningState). IsInTime is.time (record { segs = z.segs; tails = z.amc; running = e }) v)
              (sym r.running) (subst (IsInTime is.time (collector_after z r.run)) (sym leads) (runs y is.runs));
          live = subst HeldAreLive (sym leads) knows_alone.live;
        }

    abbrev pub heap_then : HeapState F
    heap_then = moves_followed layout (with_traced h z) is.moves

    abbrev u : World
    u = world_after_moves w is.moves

    made : AreMade layout w is.moves u is.time heap_then
    made =
        paired_made layout (λ q. q) still_aside w like is.moves is.time (with_traced h z) parts.beside.dependents due.0 made_alone

    abbrev f : Following
    f = following (unpaired w) (nothing_followed w) is.moves

    u_is : u ≡ followed y.world f
    u_is = (splats_follow w None is.moves like.kept.paired due.0 legal).leads ∙ ap (λ (q : World). followed q f) leads

    slots_left : (slot : Slot) → model.slot_in u slot ≡ model.slot_in w slot
    slots_left slot =
        ap (λ (q : World). model.slot_in q slot) u_is ∙ ap (λ (q : World). model.slot_in q slot) left.world
        ∙ ap (λ (q : World). model.slot_in q slot) alike

    slot_now : model.slot_in u source ≡ Ok in_slot.given
    slot_now = slots_left source ∙ in_slot.slot

    running : is_running w ≡ true
    running = sym (ap is_running alike) ∙ still_runs x.world x.running r.invariant.runs

    knows_then : IsKnown is.time u
    knows_then =
        known_by_moves w like is.moves made.legal
        (ap (λ s. is_parked (with_state w s)) (moved_alone w call.Park is.moves).state ∙ running_unparked w like.formed running)
        made.live is.time (collector_of heap_then) made.now

    -- so the object that is read is black
    black : (other : Numbered Object) → IsFoundIn u source other → is_black is.time.condemned is.time.colours other.number ≡ true
    black other there =
        ap (is_black is.time.condemned is.time.colours)
        (same_id u slot_now there.given other.number there.slot (object_found u there.given.value other there.object).0)
        ∙ ap (λ ids. is_black ids is.time.colours n.number) is.runs.condemned_ids
        ∙ ap (λ cs. is_black y.running.condemned cs n.number) is.runs.colours
        ∙ ap (λ b. not b && not (is_grey y.colours n.number)) kept_then
        ∙ ap not not_grey

    -- ---- the step

    got : IsGot w target source k
    got =
        let a = accepted_too o (reference_got_alike layout past h w parts knows target source k) accepted in
        got_parts w w target source k a.0 a.1

    abbrev then_act : (a : Act) × (act_get u u target source k ≡ Ok a) × ((reference : Option ℕ) × (a ≡ record {
      answer = Replied reply.Ok;
      world = with_graph u (with_slot u.graph got.into reference);
    }))
    then_act = accepted_after w u target source k got slots_left (references_kept w is.moves)

    abbrev world_then : World
    world_then = with_graph u (with_slot u.graph got.into then_act.2.0)

    abbrev act_then : Checked Act
    act_then = Ok (record { answer = Replied reply.Ok; world = world_then })

    comes_then : act_get u u target source k ≡ act_then
    comes_then = then_act.1 ∙ ap (λ (a : Act). Ok a) then_act.2.1

    comes_to : act_get w u target source k ≡ act_then
    comes_to = judged_before w u target source k got ∙ sym (judged_after w u target source k got slots_left) ∙ comes_then

    module _ (q : Collecting) (on : Runs is.time (collector_of heap_then) u q) where
      white_alike : (id : Id) → is_white q.running.condemned q.colours id ≡ is_white y.running.condemned y.colours id
      white_alike id =
          ap (λ cs. is_white cs q.colours id) (sym on.condemned_ids ∙ is.runs.condemned_ids)
          ∙ ap (λ ks. is_white y.running.condemned ks id) (sym on.colours ∙ is.runs.colours)

      world_is : q.world ≡ followed y.world f
      world_is = on.world ∙ u_is

      read_kept : IsReadKept q c
      read_kept from id read e refers refers_to =
          let slot : model.slot_in y.world source ≡ Ok from = sym (ap (λ (g : World). model.slot_in g source) world_is) ∙ e in
          let same = same_id y.world slot_then from id slot refers in
          white_alike read
          ∙ did.readable id read (ap (is_live_and (is_in_segment s) y.world) same ∙ inside)
          (ap (is_white y.running.condemned y.colours) same ∙ kept_then)
          (cleared_targets y.world.graph.objects f.cells id read
          (sym (ap (λ (g : World). contains (targets g.graph id) read) world_is) ∙ refers_to))

      own : IsOwnStep w q c is.moves (Replied reply.Ok) act_then
      own =
          let placed = placed_from_layout (u.grains + 1) u knows_then.laid in
          record {
            collected = sym on.world;
            legal = made.legal;
            due = due.1;
            marked = tt;
            read = read_kept;
            possible = tt;
            comes = comes_to;
            answers = refl;
            formed = subst IsWellFormed (sym on.world) knows_then.formed;
            blocks = subst (λ (g : World). list_all (is_live g) (ids_in_blocks g.graph) ≡ true) (sym on.world) knows_then.live.blocks;
            placed = record { different = placed.different; apart = placed.apart };
            blocks_after = knows_then.live.blocks;
          }

      abbrev past_then : Past
      past_then = made.has.past

      same_then : Same (Leads layout says_ok heap_then past_then u) (reference_got layout heap_then target source k)
          (act_get u u target source k)
      same_then =
          reference_got_same layout heap_then target source k u past_then made.has.parts
          (subst (λ t. IsKnown t u) (sym made.has.timed) knows_then)
          (λ other there. subst (λ (t : Time). is_black t.condemned t.colours other.number ≡ true) (sym made.has.timed) (black other there))

      abbrev IsRightGet : Checked (Unit {0}) → HeapState F → Type 0
      IsRightGet result after = IsRightIn layout w (step_of line c is.moves (answer_to says_ok result)) after

      of_both : (result : Checked (Unit {0})) (after : HeapState F) (theirs : Checked (Outcome F (Unit {0})))
          → Same (Leads layout says_ok heap_then past_then u) theirs act_then → Comes heap_then theirs result after
          → IsRightGet result after
      of_both result after theirs (fits {a = out} leads_to) comes =
          subst (IsRightGet result) (sym comes.state)
          (subst (λ a. IsRightGet a out.state) (sym comes.answer)
          (own_step_is_right layout is.time (collector_of heap_then) w u q on line c refl is.moves (Replied reply.Ok)
          out.state
          act_then refl reach own (moved_alone w call.Park is.moves).formats
          (subst (λ t. HasParts layout t out.state world_then) made.has.timed leads_to.has)
          (record {
            running = leads_to.keeps.4;
            tails = leads_to.keeps.3;
            world_tails = λ pool generation. refl;
            ranked = λ ranked. ranks_kept heap_then.segs out.state.segs leads_to.keeps.1 leads_to.keeps.2 ranked;
            condemned = λ held t there. ap (λ bits. bit bits (grain_of t.base)) leads_to.keeps.0 ∙ held t there;
            flip = record { made = on.flip.made; still = on.flip.still };
          })))

      read_is_right : (result : Checked (Unit {0})) (after : HeapState F)
          → Comes heap_then (reference_got layout heap_then target source k) result after → IsRightGet result after
      read_is_right result after comes =
          of_both result after (reference_got layout heap_then target source k)
          (subst (Same (Leads layout says_ok heap_then past_then u) (reference_got layout heap_then target source k)) comes_then
          same_then)
          comes

    -- the slot has what the cell refers to after the barrier
    pub get_is_right : (result : Checked (Unit {0})) (after : HeapState F)
        → Comes heap_then (reference_got layout heap_then target source k) result after
        → IsRightIn layout w (step_of line c is.moves (answer_to says_ok result)) after
    get_is_right result after comes = of_time made.now
      where
        still : heap_then.running ≡ Some r.run
        still = ap (λ (g : HeapState F). g.running) (following_leaves layout (with_traced h z) is.moves) ∙ r.running

        of_time : IsInTime is.time (collector_of heap_then) u
            → IsRightIn layout w (step_of line c is.moves (answer_to says_ok result)) after
        of_time (rests rest) = absurd (none-some r.run (sym rest.not_running ∙ still))
        of_time (runs q on) = read_is_right q on result after comes
