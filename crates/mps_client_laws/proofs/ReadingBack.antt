-- What a read gives after a write.
use Rattle.std.proofs.Common.{◌≡◌, ℕ, true, refl, sym, ◌∙◌, ap, subst, List, [], ◌∷◌, ◌++◌, Option, Some, None, Ok, Err}
use Rattle.std.proofs.lemmas.Option.{none-some, same_Some}
use Rattle.std.specs.Prelude.{slice_get, slice_set, option_and_then, option_map}
use Rattle.std.specs.Option.{option_map_or}
use Rattle.mps_base.specs.declared.names.Slot.{Slot}
use Rattle.mps_base.specs.declared.refusal.Refusal.TheVariants as refusal
use Rattle.mps_model.specs.Layout.{Layout}
use Rattle.mps_model.proofs.Appending.{world_after_steps-append, IsLegalFrom-later}
use Rattle.mps_model.specs.declared.call.Call.{Call}
use Rattle.mps_model.specs.declared.call.Call.TheVariants as call
use Rattle.mps_model.specs.declared.reply.Reply.TheVariants as reply
use Rattle.mps_model.specs.Answer.{Replied, is_accepted}
use Rattle.mps_model.specs.Step.{Step, History}
use Rattle.mps_model.specs.Graph.{Graph, Object, Body, Automatic, Manual, Cell, HeadCell, NumberCell, ReferenceCell, object_at, target_of_cell, retargeted, with_target_cell, graph_with_cells, object_with_cells, body_with_cells}
use Rattle.mps_model.specs.World.{World, empty_world_of}
use Rattle.mps_model.specs.Checked.{Act, Checked, Found, Numbered, ◌>>=◌, says, slot_in, block_place_in, object_in, cells_of_body, words_of_body, cell_of, number_at, reference_at, reference_in, required}
use Rattle.mps_model.specs.Allocating.{act_load, act_store, block_in, body_with_word, graph_with_word, words_at}
use Rattle.mps_model.specs.Accessing.{act_number, act_put, act_set_number}
use Rattle.mps_model.specs.LegalMove.{target_in_cell}
use Rattle.mps_model.specs.Reply.{answer_from, world_from}
use Rattle.mps_model.specs.History.{IsLegalFrom, IsLegalStep, with_client_remembered, world_after, world_after_steps}
use Rattle.mps_changes.proofs.Checks.{required-is}
use Rattle.mps_laws.specs.Held.{target_of_slot, target_found}
use Rattle.mps_laws.specs.Replay.{reached}
use Rattle.mps_laws.proofs.Entries.{slice_get-written}
use Rattle.mps_laws.proofs.FoundBy.{object_found, number_found}
use Rattle.mps_laws.proofs.LegalHistories.{IsLegalFrom-first}
use Rattle.mps_laws.proofs.Reading.{bind_ok, gets_reach_live_objects}
use Rattle.mps_client_laws.specs.Objects.{cell_at, word_at, block_of_place}
use Rattle.mps_client_laws.specs.ReadingBack.{IsWriteAndRead, GetGivesWhatWasPut, NumAnswersWhatWasSet, LoadAnswersWhatWasStored}
use Rattle.mps_client_laws.proofs.Cells.{this_is_changed, object_with_word}
use Rattle.mps_client_laws.proofs.Objects.{cells_stay, words_stay, cell_after_step}
use Rattle.mps_client_laws.proofs.QuietCalls.{IsQuiet, act_in, quiet_world, quiet_answer, checked_ok, done_world, accepted_act}

-- ---- what a write leaves

-- a reference in a cell
reference_is : (c : Cell) (r target : Option ℕ) → reference_in c ≡ Ok r → target_of_cell (retargeted c target) ≡ target
reference_is (ReferenceCell old tag) r target e = refl
reference_is HeadCell r target e = absurd cc
reference_is (NumberCell number) r target e = absurd cc

-- the object's cell after its cells were changed
cell_of_changed : (g : Graph) (id k : ℕ) (o : Object) (change : List Cell → List Cell) (c : Cell) → object_at g id ≡ Some o
    → slice_get (cells_of_body (body_with_cells o.body change)) k ≡ Some c → cell_at (graph_with_cells g id change) id k ≡ Some c
cell_of_changed g id k o change c there is =
    ap (option_and_then (λ x. slice_get (cells_of_body x.body) k))
    (this_is_changed g.objects id (λ x. object_with_cells x change) ∙ ap (option_map (λ x. object_with_cells x change)) there)
    ∙ is

put_in_body : (b : Body) (k : ℕ) (r target : Option ℕ) → reference_at (cells_of_body b) k ≡ Ok r
    → (c : Cell) × (slice_get (cells_of_body (body_with_cells b (λ cells. with_target_cell cells k target))) k ≡ Some c)
    × (target_of_cell c ≡ target)
put_in_body (Automatic head cells is_weak) k r target e =
    let found = bind_ok (cell_of cells k) reference_in r e in
    let there = required-is (slice_get cells k) refusal.BadIndex found.0 found.1 in (
      retargeted found.0 target,
      ap (λ o. slice_get (option_map_or (λ cell. slice_set cells k (retargeted cell target)) o cells) k) there
          ∙ slice_get-written cells k found.0 (retargeted found.0 target) there,
      reference_is found.0 r target found.2,
    )
put_in_body (Manual words) k r target e = absurd cc

number_in_body : (b : Body) (k was value : ℕ) → number_at (cells_of_body b) k ≡ Ok was
    → slice_get (cells_of_body (body_with_cells b (λ cells. slice_set cells k (NumberCell value)))) k ≡ Some (NumberCell value)
number_in_body (Automatic head cells is_weak) k was value e =
    slice_get-written cells k (NumberCell was) (NumberCell value) (number_found cells k was e)
number_in_body (Manual words) k was value e = absurd cc

word_in_body : (b : Body) (k was value : ℕ) → slice_get (words_of_body b) k ≡ Some was
    → slice_get (words_of_body (body_with_word b k value)) k ≡ Some value
word_in_body (Automatic head cells is_weak) k was value e = absurd (none-some was e)
word_in_body (Manual words) k was value e = slice_get-written words k was value e

module _ (w : World) (target : Slot) (id k : ℕ) (refers : target_of_slot w target ≡ Some id) where
  -- the object in the slot is this one
  is_object : (into : Found (Option ℕ)) (object : Numbered Object) → slot_in w target ≡ Ok into → object_in w into.value ≡ Ok object
      → (object.number ≡ id) × (object_at w.graph id ≡ Some object.value)
  is_object into object there is =
      let found = object_found w into.value object is in
      let same : object.number ≡ id = same_Some object.number id (sym found.0 ∙ sym (ap target_found there) ∙ refers) in
      (same, subst (λ n. object_at w.graph n ≡ Some object.value) same found.1)

  pub put_leaves : (source : Slot) (a : Act) → act_put w target k source ≡ Ok a
      → (c : Cell) × (cell_at a.world.graph id k ≡ Some c) × (target_of_cell c ≡ target_of_slot w source)
  put_leaves source a e =
      let into = bind_ok (slot_in w target) _ a e in
      let from = bind_ok (slot_in w source) _ a into.2 in
      let object = bind_ok (object_in w into.0.value) _ a from.2 in
      let reference = checked_ok (reference_at (cells_of_body object.0.value.body) k) _ a object.2 in
      let is = is_object into.0 object.0 into.1 object.1 in
      let cell = put_in_body object.0.value.body k reference.0 from.0.value reference.1 in
      let change : List Cell → List Cell = λ cells. with_target_cell cells k from.0.value in (
        cell.0,
        ap (λ (u : World). cell_at u.graph id k) (done_world _ a reference.2)
            ∙ ap (λ n. cell_at (graph_with_cells w.graph n change) id k) is.0
            ∙ cell_of_changed w.graph id k object.0.value change cell.0 is.1 cell.1,
        cell.2 ∙ sym (ap target_found from.1),
      )

  pub set_number_leaves : (value : ℕ) (a : Act) → act_set_number w target k value ≡ Ok a
      → cell_at a.world.graph id k ≡ Some (NumberCell value)
  set_number_leaves value a e =
      let into = bind_ok (slot_in w target) _ a e in
      let object = bind_ok (object_in w into.0.value) _ a into.2 in
      let was = checked_ok (number_at (cells_of_body object.0.value.body) k) _ a object.2 in
      let is = is_object into.0 object.0 into.1 object.1 in
      let change : List Cell → List Cell = λ cells. slice_set cells k (NumberCell value) in
      ap (λ (u : World). cell_at u.graph id k) (done_world _ a was.2)
      ∙ ap (λ n. cell_at (graph_with_cells w.graph n change) id k) is.0
      ∙ cell_of_changed w.graph id k object.0.value change (NumberCell value) is.1
      (number_in_body object.0.value.body k was.0 value was.1)

  -- `num` answers the number of its cell
  pub number_is_answered : (value answered : ℕ) → cell_at w.graph id k ≡ Some (NumberCell value)
      → Replied (reply.Number answered) ≡ answer_from (act_number w target k) → answered ≡ value
  number_is_answered value answered cell due = by_slot (slot_in w target) refl due
    where
      by_number : (cells : List Cell) (x : Checked ℕ) → number_at cells k ≡ x → slice_get cells k ≡ Some (NumberCell value)
          → Replied (reply.Number answered) ≡ answer_from (x >>= (λ number. says (reply.Number number) w)) → answered ≡ value
      by_number cells (Err why) e there due = absurd cc
      by_number cells (Ok n) e there due =
          let first : answered ≡ n = cc in
          let found = number_found cells k n e in
          let same : NumberCell n ≡ NumberCell value = same_Some (NumberCell n) (NumberCell value) (sym found ∙ there) in
          let second : n ≡ value = cc in first ∙ second

      in_object : (object : Numbered Object) → object_at w.graph id ≡ Some object.value
          → slice_get (cells_of_body object.value.body) k ≡ Some (NumberCell value)
      in_object object there = sym (ap (option_and_then (λ (x : Object). slice_get (cells_of_body x.body) k)) there) ∙ cell

      by_object : (into : Found (Option ℕ)) → slot_in w target ≡ Ok into → (x : Checked (Numbered Object)) → object_in w into.value ≡ x
          → Replied (reply.Number answered) ≡ answer_from (x >>= (λ object. number_at (cells_of_body object.value.body) k
          >>= (λ number. says (reply.Number number) w))) → answered ≡ value
      by_object into there (Err why) e due = absurd cc
      by_object into there (Ok object) e due =
          by_number (cells_of_body object.value.body) (number_at (cells_of_body object.value.body) k) refl
          (in_object object (is_object into object there e).1) due

      by_slot : (x : Checked (Found (Option ℕ))) → slot_in w target ≡ x
          → Replied (reply.Number answered) ≡ answer_from (x >>= (λ from. object_in w from.value >>= (λ object. number_at
          (cells_of_body object.value.body) k >>= (λ number. says (reply.Number number) w)))) → answered ≡ value
      by_slot (Err why) e due = absurd cc
      by_slot (Ok into) e due = by_object into e (object_in w into.value) refl due

module _ (w : World) (place : Slot) (id k : ℕ) (holds : block_of_place w place ≡ Some id) where
  is_block : (at : Found (Option ℕ)) (n : ℕ) → block_place_in w place ≡ Ok at → block_in at ≡ Ok n → n ≡ id
  is_block at n there is = same_Some n id (sym (required-is at.value refusal.NotABlock n is) ∙ sym (ap target_found there) ∙ holds)

  words_are : (o : Option Object) (was : ℕ)
      → slice_get (option_map_or (λ (x : Object). words_of_body x.body) o []) k ≡ Some was
      → option_and_then (λ (x : Object). slice_get (words_of_body x.body) k) o ≡ Some was
  words_are None was e = absurd (none-some was e)
  words_are (Some x) was e = e

  written_word : (o : Option Object) (was value : ℕ) → option_and_then (λ (x : Object). slice_get (words_of_body x.body) k) o ≡ Some was
      → option_and_then (λ (x : Object). slice_get (words_of_body x.body) k) (option_map (object_with_word k value) o) ≡ Some value
  written_word None was value e = absurd (none-some was e)
  written_word (Some x) was value e = word_in_body x.body k was value e

  pub store_leaves : (value : ℕ) (a : Act) → act_store w place k value ≡ Ok a → word_at a.world.graph id k ≡ Some value
  store_leaves value a e =
      let at = bind_ok (block_place_in w place) _ a e in
      let block = bind_ok (block_in at.0) _ a at.2 in
      let was = checked_ok (required (slice_get (words_at w.graph block.0) k) refusal.BadIndex) _ a block.2 in
      let same = is_block at.0 block.0 at.1 block.1 in
      let there : word_at w.graph id k ≡ Some was.0 =
      subst (λ n. word_at w.graph n k ≡ Some was.0) same
      (words_are (object_at w.graph block.0) was.0 (required-is (slice_get (words_at w.graph block.0) k) refusal.BadIndex was.0 was.1)) in
      ap (λ (u : World). word_at u.graph id k) (done_world _ a was.2)
      ∙ ap (λ n. word_at (graph_with_word w.graph n k value) id k) same
      ∙ ap (option_and_then (λ (x : Object). slice_get (words_of_body x.body) k))
      (this_is_changed w.graph.objects id (object_with_word k value))
      ∙ written_word (object_at w.graph id) was.0 value there

  pub word_is_answered : (value answered : ℕ) → word_at w.graph id k ≡ Some value
      → Replied (reply.Number answered) ≡ answer_from (act_load w place k) → answered ≡ value
  word_is_answered value answered word due = by_place (block_place_in w place) refl due
    where
      by_word : (n : ℕ) → n ≡ id → (x : Checked ℕ) → required (slice_get (words_at w.graph n) k) refusal.BadIndex ≡ x
          → Replied (reply.Number answered) ≡ answer_from (x >>= (λ m. says (reply.Number m) w)) → answered ≡ value
      by_word n same (Err why) e due = absurd cc
      by_word n same (Ok m) e due =
          let first : answered ≡ m = cc in
          first ∙ same_Some m value (sym (subst (λ i. word_at w.graph i k ≡ Some m) same
          (words_are (object_at w.graph n) m (required-is (slice_get (words_at w.graph n) k) refusal.BadIndex m e))) ∙ word)

      by_block : (at : Found (Option ℕ)) → block_place_in w place ≡ Ok at → (x : Checked ℕ) → block_in at ≡ x
          → Replied (reply.Number answered) ≡ answer_from (x >>= (λ n. required (slice_get (words_at w.graph n) k) refusal.BadIndex
          >>= (λ m. says (reply.Number m) w))) → answered ≡ value
      by_block at there (Err why) e due = absurd cc
      by_block at there (Ok n) e due = by_word n (is_block at n there e) _ refl due

      by_place : (x : Checked (Found (Option ℕ))) → block_place_in w place ≡ x
          → Replied (reply.Number answered) ≡ answer_from (x >>= (λ at. block_in at >>= (λ n. required
          (slice_get (words_at w.graph n) k) refusal.BadIndex >>= (λ m. says (reply.Number m) w)))) → answered ≡ value
      by_place (Err why) e due = absurd cc
      by_place (Ok at) e due = by_block at e (block_in at) refl due

-- ---- the worlds of a write and a read

module _ (formats : ℕ → Layout) (steps between later : History) (write read : Step)
    (both : IsWriteAndRead formats steps between later write read) where
  abbrev first : World
  first = empty_world_of formats

  legal_before : IsLegalFrom first (steps ++ write ∷ between)
  legal_before = IsLegalFrom-first first (steps ++ write ∷ between) (read ∷ later) both.legal

  pub write_is_legal : IsLegalStep (reached formats steps) write
  write_is_legal = (IsLegalFrom-later first steps (write ∷ between) legal_before).0

  pub read_is_legal : IsLegalStep (reached formats (steps ++ write ∷ between)) read
  read_is_legal = (IsLegalFrom-later first (steps ++ write ∷ between) (read ∷ later) both.legal).0

  -- the world before the read is the one after the steps between
  pub at_read : world_after_steps (world_after (reached formats steps) write) between ≡ reached formats (steps ++ write ∷ between)
  at_read = sym (world_after_steps-append first steps (write ∷ between))

-- the graph of the world after an accepted quiet call
pub quiet_graph : (c : Call) → IsQuiet c → (w : World) (s : Step) → IsLegalStep w s → s.call ≡ c → is_accepted s.answer ≡ true
    → (a : Act) × (act_in w c ≡ Ok a) × ((world_after w s).graph ≡ a.world.graph)
quiet_graph c quiet w s legal is accepted =
    let a = accepted_act (act_in w c) s.answer (quiet_answer c quiet w s legal is) accepted in
    (a.0, a.1, ap (λ (u : World). u.graph) (quiet_world c quiet w s legal is ∙ ap (λ x. with_client_remembered (world_from w x)) a.1))

put_is_quiet : (target source : Slot) (k : ℕ) → IsQuiet (call.Put target k source)
put_is_quiet target source k = record { none = λ w a ms e. e; world = λ w a. refl; reply = λ m w. refl }

set_number_is_quiet : (target : Slot) (k value : ℕ) → IsQuiet (call.SetNumber target k value)
set_number_is_quiet target k value = record { none = λ w a ms e. e; world = λ w a. refl; reply = λ m w. refl }

store_is_quiet : (target : Slot) (k value : ℕ) → IsQuiet (call.Store target k value)
store_is_quiet target k value = record { none = λ w a ms e. e; world = λ w a. refl; reply = λ m w. refl }

number_is_quiet : (source : Slot) (k : ℕ) → IsQuiet (call.Number source k)
number_is_quiet source k = record { none = λ w a ms e. e; world = λ w a. refl; reply = λ m w. refl }

load_is_quiet : (source : Slot) (k : ℕ) → IsQuiet (call.Load source k)
load_is_quiet source k = record { none = λ w a ms e. e; world = λ w a. refl; reply = λ m w. refl }

-- ---- the laws

pub get_gives_what_was_put : GetGivesWhatWasPut
get_gives_what_was_put formats steps between later put get target source into from k id both is_put refers leave is_get accepted reads
    leaves =
    let w = reached formats steps in
    let v = reached formats (steps ++ put ∷ between) in
    let a = quiet_graph (call.Put target k source) (put_is_quiet target source k) w put
    (write_is_legal formats steps between later put get both) is_put both.accepted in
    let cell = put_leaves w target id k refers source a.0 a.1 in
    let then = ap (λ g. cell_at g id k) a.2 ∙ cell.1 in
    let before = subst (λ (u : World). cell_at u.graph id k ≡ Some cell.0) (at_read formats steps between later put get both)
    (cells_stay (world_after w put) between id k cell.0 leave then) in
    let after = cell_after_step v get id k cell.0 leaves before in
    let got = gets_reach_live_objects formats (steps ++ put ∷ between) later get into from k both.legal is_get accepted in
    let same : got.object ≡ id = same_Some got.object id (sym got.read ∙ reads) in
    got.given ∙ ap (λ n. target_in_cell (world_after v get) n k) same ∙ ap (option_and_then target_of_cell) after ∙ cell.2

pub num_answers_what_was_set : NumAnswersWhatWasSet
num_answers_what_was_set formats steps between later set num target source k value answered id both is_set refers leave is_num says reads =
    let w = reached formats steps in
    let v = reached formats (steps ++ set ∷ between) in
    let a = quiet_graph (call.SetNumber target k value) (set_number_is_quiet target k value) w set
    (write_is_legal formats steps between later set num both) is_set both.accepted in
    let then = ap (λ g. cell_at g id k) a.2 ∙ set_number_leaves w target id k refers value a.0 a.1 in
    let before = subst (λ (u : World). cell_at u.graph id k ≡ Some (NumberCell value)) (at_read formats steps between later set num both)
    (cells_stay (world_after w set) between id k (NumberCell value) leave then) in
    number_is_answered v source id k reads value answered before
    (sym says ∙ quiet_answer (call.Number source k) (number_is_quiet source k) v num
    (read_is_legal formats steps between later set num both) is_num)

pub load_answers_what_was_stored : LoadAnswersWhatWasStored
load_answers_what_was_stored formats steps between later store load target source k value answered id both is_store holds leave is_load says
    reads =
    let w = reached formats steps in
    let v = reached formats (steps ++ store ∷ between) in
    let a = quiet_graph (call.Store target k value) (store_is_quiet target k value) w store
    (write_is_legal formats steps between later store load both) is_store both.accepted in
    let then = ap (λ g. word_at g id k) a.2 ∙ store_leaves w target id k holds value a.0 a.1 in
    let before = subst (λ (u : World). word_at u.graph id k ≡ Some value) (at_read formats steps between later store load both)
    (words_stay (world_after w store) between id k value leave then) in
    word_is_answered v source id k reads value answered before
    (sym says ∙ quiet_answer (call.Load source k) (load_is_quiet source k) v load
    (read_is_legal formats steps between later store load both) is_load)
