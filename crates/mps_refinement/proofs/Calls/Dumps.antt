-- `dump`: where a block begins at an address, its words are the image of the model's object there; where none does, no object lives
-- there.
use Rattle.mps_refinement.proofs.Worlds.Known.{IsKnown, known_now}
use Rattle.mps_refinement.proofs.Worlds.RestingActs.{resting_sound}
use Rattle.mps_refinement.proofs.Parts.Resting.{image_at_rest}
use Rattle.std.proofs.Common.{◌≡◌, ◌∙◌, ℕ, ◌+◌, ◌-◌, true, false, refl, sym, ap, subst, List, [], take, drop, Option, Some, None, Ok, Err, arith}
use Rattle.std.proofs.lemmas.Bool.{true≢false}
use Rattle.std.proofs.lemmas.Option.{none-some}
use Rattle.std.specs.Prelude.{is_some, slice_range}
use Rattle.mps_base.specs.Address.{Address, Id, word_of}
use Rattle.mps_base.specs.declared.refusal.Refusal.{Refusal}
use Rattle.mps_base.specs.declared.refusal.Refusal.TheVariants as refusal
use Rattle.mps_format.specs.Layout.{Layout}
use Rattle.mps_laws.proofs.Finding.{id_at-found, id_at-there}
use Rattle.mps_laws.proofs.Same.{Same, fits, refused}
use Rattle.mps_model.proofs.AtRest.{is_running-none}
use Rattle.mps_model.specs.declared.call.Call.TheVariants as call
use Rattle.mps_model.specs.declared.reply.Reply.TheVariants as reply
use Rattle.mps_model.specs.Answer as answer
use Rattle.mps_model.specs.Answer.{Dumped}
use Rattle.mps_model.specs.Checked.{Act, Checked, ◌>>=◌, ◌>>◌, refuse_when, required}
use Rattle.mps_model.specs.Collecting.{act_dump}
use Rattle.mps_model.specs.Graph.{Object}
use Rattle.mps_model.specs.Image.{image_of, image_of_body}
use Rattle.mps_model.specs.World.{World, id_at}
use Rattle.mps_heap_spec.specs.Arena as arena
use Rattle.mps_heap_spec.specs.Arena.{BlockBegins, IsNotDumped, none_begins}
use Rattle.mps_heap_spec.specs.Manual.{is_block_over}
use Rattle.mps_heap_spec.specs.State.{HeapState}
use Rattle.mps_refinement.specs.RightStep.{IsRight}
use Rattle.mps_refinement.specs.StandsFor.{AreParts, IsInTime, Past, Rests, Time, collector_of, rests, runs}
use Rattle.mps_refinement.proofs.Lookups.BlockRuns.{run_is, words_are}
use Rattle.mps_refinement.proofs.Lookups.Blocks.{begins_at_object, object_begins, same_address}
use Rattle.mps_refinement.proofs.Lookups.ManualBlocks.{setting}
use Rattle.mps_refinement.proofs.Worlds.Steps.{SaysOnly, answer_is_right_in}
use Rattle.std.specs.Option.{option_map_or}

pub none_there : {A : Type 0} (o : Option A) → is_some o ≡ false → o ≡ None
none_there None idle = refl
none_there (Some a) idle = absurd (true≢false idle)

module _ {F : Type 0} (layout : F → Layout) (h : HeapState F) (at : Address) where
  -- what a dump comes to in the model, by what is found at the address
  abbrev dumped : World → Option Id → Checked Act
  dumped w found = required found refusal.NotABlock >>= (λ id. Ok (record { answer = Dumped (image_of w id); world = w }))

  dump_at_rest : (w : World) (found : Option Id) → w.collection ≡ None → id_at w at ≡ found → act_dump w at ≡ dumped w found
  dump_at_rest w found rest is =
      ap (λ b. refuse_when b refusal.Running >> dumped w (id_at w at)) (is_running-none w rest) ∙ ap (dumped w) is

  -- no collection runs in the world if the heap has none
  rests_there : h.running ≡ None → (t : Time) (w : World) → IsInTime t (collector_of h) w → Rests t (collector_of h) w
  rests_there none t w (rests rest) = rest
  rests_there none t w (runs x r) = absurd (none-some r.run (sym none ∙ r.running))

  begun_reads : (words : ℕ) → BlockBegins h at words → (w : World) (past : Past) → AreParts layout past h w → IsKnown past.time w
      → Rests past.time (collector_of h) w
      → Same (SaysOnly layout Dumped h (call.Dump at) w) (Ok (slice_range h.segs.words (word_of at) (word_of at + words))) (act_dump w at)
  begun_reads words begins w past parts knows rest =
      let s = setting layout past h w parts knows in
      let placed = parts.image.placed in
      let there = object_begins s w.addresses placed h.segs parts.image.runs.blocks at begins.at_word in
      let o = placed.exists there.0 at there.1 in
      let size = run_is s w.addresses placed h.segs parts.image.runs.blocks there.0 at o.0 there.1 o.1 words begins.run in
      let found = id_at-there w at there.0 (same_address s w.addresses placed) there.1 in
      let image : slice_range h.segs.words (word_of at) (word_of at + words) ≡ image_of w there.0 =
      ap (λ n. slice_range h.segs.words (word_of at) (word_of at + n)) size
      ∙ words_are h.segs w (image_at_rest layout past h w parts rest.time) rest.none
      (resting_sound w rest.none knows.live) there.0 at o.0 there.1 o.1
      ∙ sym (ap (λ x. option_map_or (λ (q : Object). image_of_body w q.body) x []) o.1) in
      subst (λ x. Same (SaysOnly layout Dumped h (call.Dump at) w)
      (Ok (slice_range h.segs.words (word_of at) (word_of at + words))) x)
      (sym (dump_at_rest w (Some there.0) rest.none found))
      (fits (record { answer = ap Dumped (sym image); world = refl }))

  -- the words of a block that begins at the address, if no collection runs
  pub dump_is_right : h.running ≡ None → (words : ℕ) → BlockBegins h at words
      → IsRight layout h (call.Dump at) [] (Dumped (slice_range h.segs.words (word_of at) (word_of at + words))) h
  dump_is_right none words begins w line st =
      let found : Checked (List ℕ) = Ok (slice_range h.segs.words (word_of at) (word_of at + words)) in
      answer_is_right_in layout Dumped h (call.Dump at) refl refl found found w line
      (begun_reads words begins w st.past st.parts (known_now st) (rests_there none st.past.time w st.time)) refl st

  -- as the answer for which the reply of the place of its words stands
  pub dump_answers : h.running ≡ None → (words : ℕ) → BlockBegins h at words
      → IsRight layout h (call.Dump at) [] (answer.answer_of h.segs.words (reply.Words (record { 0 = at }) words)) h
  dump_answers none words begins =
      subst (λ n. IsRight layout h (call.Dump at) [] (Dumped (take n (drop (word_of at) h.segs.words))) h)
      (let e : word_of at + words - word_of at ≡ words = omega arith in e) (dump_is_right none words begins)

  none_reads : is_block_over h.segs at at ≡ false → (w : World) (past : Past) → AreParts layout past h w → IsKnown past.time w
      → Rests past.time (collector_of h) w
      → Same (SaysOnly layout Dumped h (call.Dump at) w) (Err refusal.NotABlock) (act_dump w at)
  none_reads none w past parts knows rest = of_found (id_at w at) refl
    where
      of_found : (found : Option Id) → id_at w at ≡ found
          → Same (SaysOnly layout Dumped h (call.Dump at) w) (Err refusal.NotABlock) (act_dump w at)
      of_found None e =
          subst (λ x. Same (SaysOnly layout Dumped h (call.Dump at) w) (Err refusal.NotABlock) x) (sym (dump_at_rest w None rest.none e))
          refused
      of_found (Some id) e =
          let s = setting layout past h w parts knows in
          let placed = parts.image.placed in
          let there = id_at-found w at id e in
          let o = placed.exists id at there in
          absurd (true≢false (sym (begins_at_object s w.addresses placed h.segs parts.image.runs.blocks id at o.0 there o.1) ∙ none))

  -- refused where none begins there
  dump_is_refused : h.running ≡ None → is_block_over h.segs at at ≡ false
      → IsRight layout h (call.Dump at) [] (answer.refused refusal.NotABlock) h
  dump_is_refused none_runs none w line st =
      let found : Checked (List ℕ) = Err refusal.NotABlock in
      answer_is_right_in layout Dumped h (call.Dump at) refl refl found found w line
      (none_reads none w st.past st.parts (known_now st) (rests_there none_runs st.past.time w st.time)) refl st

  -- and while a collection runs
  running_refuses : is_some h.running ≡ true → (t : Time) (w : World) → IsInTime t (collector_of h) w → act_dump w at ≡ Err refusal.Running
  running_refuses some t w (rests rest) = absurd (true≢false (sym some ∙ ap is_some rest.not_running))
  running_refuses some t w (runs x r) =
      ap (λ b. refuse_when b refusal.Running >> dumped w (id_at w at))
      (ap is_some (ap (λ (v : World). v.collection) (sym r.world) ∙ r.invariant.runs))

  dump_is_refused_running : is_some h.running ≡ true → IsRight layout h (call.Dump at) [] (answer.refused refusal.Running) h
  dump_is_refused_running some w line st =
      let found : Checked (List ℕ) = Err refusal.Running in
      answer_is_right_in layout Dumped h (call.Dump at) refl refl found found w line
      (subst (λ x. Same (SaysOnly layout Dumped h (call.Dump at) w) (Err refusal.Running) x)
      (sym (running_refuses some st.past.time w st.time)) refused) refl st

  -- so each refusal is right
  pub not_dumped_is_right : (why : Refusal) → IsNotDumped h at why → IsRight layout h (call.Dump at) [] (answer.refused why) h
  not_dumped_is_right why (arena.runs some) = dump_is_refused_running some
  not_dumped_is_right why (none_begins idle none) = dump_is_refused (none_there h.running idle) none
