-- The log of version 2 of a legal history replays to its live blocks, and to as many names as it has labels.
use Rattle.std.proofs.Common.{◌≡◌, ◌∙◌, ℕ, ◌+◌, Bool, true, false, refl, sym, ap, append_assoc, subst, List, [], ◌∷◌, ◌++◌, length, Option, Some, None, Ok, Err}
use Rattle.std.proofs.lemmas.Option.{same_Some, slice_get_within}
use Rattle.std.proofs.lemmas.Bool.{and_from, and_parts, eq-eqb, false≢true, lt-ltb, true≢false}
use Rattle.std.specs.Prelude.{◌==◌, ◌&&◌, if◌then◌else◌, not, filter, option_and_then, option_map, slice_get}
use Rattle.std.specs.List.{list_all}
use Rattle.mps_base.specs.Record.{Record, intern_code, label_code}
use Rattle.mps_base.specs.declared.moves.Move.{Move}
use Rattle.mps_base.specs.declared.moves.Move.TheVariants as moves
use Rattle.mps_base.specs.declared.names.Name.{Name}
use Rattle.mps_base.specs.declared.names.Slot.{Slot}
use Rattle.mps_model.specs.declared.call.Call.{Call}
use Rattle.mps_model.specs.declared.call.Call.TheVariants as call
use Rattle.mps_model.specs.declared.reply.Reply.TheVariants as reply
use Rattle.mps_model.specs.Answer.{Answer, Replied, is_accepted, is_block}
use Rattle.mps_model.specs.Step.{Step, History}
use Rattle.mps_model.specs.Graph.{Object}
use Rattle.mps_model.specs.World.{World, empty_world_of}
use Rattle.mps_model.specs.Checked.{Act, Checked, Found, Numbered, ◌>>=◌, ◌>>◌, as_label, label_named, number_named, object_in, says, slot_in, with_graph}
use Rattle.mps_model.specs.Accessing.{address_or_null}
use Rattle.mps_model.specs.Making.{refuse_at_limit, refuse_taken, most_labels}
use Rattle.mps_model.specs.Labelling.{act_intern, act_label, graph_with_label}
use Rattle.mps_model.specs.Reply.{act, answer_from, world_from}
use Rattle.mps_model.specs.Log.{labelled_log_from, log_from, pools_made_by, record_of, records_of, records_of_accepted, records_of_command, records_of_label, records_of_step, records_with_label}
use Rattle.mps_model.specs.Replay.{Store, is_live, replay_from, store_after}
use Rattle.mps_model.specs.Replayed.{State, after_interning, after_labelling, replayed_after, replayed_from}
use Rattle.mps_model.specs.History.{HeldAreLive, IsLegalStep, IsLegalFrom, judged_world, moved_world, world_after, world_after_steps}
use Rattle.mps_changes.specs.Change.{AsideIs, LabelMade, Change, Aside}
use Rattle.mps_changes.proofs.ActChanges.{but, of_changes}
use Rattle.mps_laws.specs.Held.{target_found, target_of_slot}
use Rattle.mps_laws.specs.Replay.{LabelledLogReplays}
use Rattle.mps_laws.proofs.Acts.{for_world, named_by}
use Rattle.mps_laws.proofs.FoundBy.{object_found}
use Rattle.mps_laws.proofs.Held.{held_at_first}
use Rattle.mps_laws.proofs.Lookups.{length-with_last}
use Rattle.mps_laws.proofs.Positions.LegalMoves.{HasLayout, blocks_of, is_placed, live_at}
use Rattle.mps_laws.proofs.Positions.Occupancy.{occupancy_of, shape_of}
use Rattle.mps_laws.proofs.Reading.{held_is_live, slot_is_held}
use Rattle.mps_laws.proofs.Replays.Blocks.{replay-touched}
use Rattle.mps_laws.proofs.Replays.FreeSteps.{BlocksAreLive, address_there}
use Rattle.mps_laws.proofs.Replays.Steps.{quiet_command}
use Rattle.mps_laws.proofs.Replays.Replay.{blocks_live, empty_layout, legal_step_replayed, limit_after, reached_from_empty}
use Rattle.mps_laws.proofs.SameArena.{moved_alone}

-- ---- records of blocks

-- whether a record is of no label
abbrev pub is_unlabelled : Record → Bool
is_unlabelled r = not (r.code == intern_code) && not (r.code == label_code)

abbrev AreUnlabelled : List Record → Type 0
AreUnlabelled rs = list_all is_unlabelled rs ≡ true

not_true : (b : Bool) → not b ≡ true → b ≡ false
not_true true e = absurd (false≢true e)
not_true false e = refl

abbrev with_store : State → Option Store → Option State
with_store s o = option_map (λ blocks. record s { blocks = blocks }) o

one_unlabelled : (s : State) (r : Record) → is_unlabelled r ≡ true → replayed_after s r ≡ with_store s (store_after s.blocks r)
one_unlabelled s r h =
    let parts = and_parts (not (r.code == intern_code)) (not (r.code == label_code)) h in
    let rest = with_store s (store_after s.blocks r) in
    let id = Rattle.std.specs.Prelude.slice_index r.fields 0 in
    let labelled = after_labelling s id (Rattle.std.specs.Prelude.slice_index r.fields 1) in
    ap (λ b. if b then after_interning s id else (if r.code == label_code then labelled else rest))
    (not_true (r.code == intern_code) parts.0)
    ∙ ap (λ b. if b then labelled else rest) (not_true (r.code == label_code) parts.1)

-- records of no label replay to the blocks of the replay of blocks
unlabelled : (s : State) (rs : List Record) → AreUnlabelled rs → replayed_from s rs ≡ with_store s (replay_from s.blocks rs)
unlabelled s [] h = refl
unlabelled s (r ∷ rs) h =
    let parts = and_parts (is_unlabelled r) (list_all is_unlabelled rs) h in
    ap (λ o. option_and_then (λ after. replayed_from after rs) o) (one_unlabelled s r parts.0)
    ∙ on (store_after s.blocks r) (λ blocks. unlabelled (record s { blocks = blocks }) rs parts.1)
  where
    on : (o : Option Store) → ((blocks : Store) → replayed_from (record s { blocks = blocks }) rs
        ≡ with_store (record s { blocks = blocks }) (replay_from blocks rs))
        → option_and_then (λ after. replayed_from after rs) (with_store s o)
        ≡ with_store s (option_and_then (λ after. replay_from after rs) o)
    on None each = refl
    on (Some blocks) each = each blocks

replayed_append : (s : State) (rs those : List Record)
    → replayed_from s (rs ++ those) ≡ option_and_then (λ after. replayed_from after those) (replayed_from s rs)
replayed_append s [] those = refl
replayed_append s (r ∷ rs) those = on (replayed_after s r) (λ after. replayed_append after rs those)
  where
    on : (o : Option State) → ((after : State) → replayed_from after (rs ++ those)
        ≡ option_and_then (λ last. replayed_from last those) (replayed_from after rs))
        → option_and_then (λ after. replayed_from after (rs ++ those)) o
        ≡ option_and_then (λ last. replayed_from last those) (option_and_then (λ after. replayed_from after rs) o)
    on None each = refl
    on (Some after) each = each after

-- the records of moves and commands are of no label
move_unlabelled : (m : Move) (line : ℕ) → is_unlabelled (record_of m line) ≡ true
move_unlabelled (moves.Seg base grains pool generation) line = refl
move_unlabelled (moves.Unseg base) line = refl
move_unlabelled (moves.Flip zones chain generation) line = refl
move_unlabelled moves.End line = refl
move_unlabelled (moves.Moved from to) line = refl
move_unlabelled (moves.Stay at) line = refl
move_unlabelled (moves.Splat holder cell) line = refl
move_unlabelled (moves.Post at) line = refl
move_unlabelled (moves.Commit at words pool) line = refl
move_unlabelled (moves.Alloc at words pool) line = refl
move_unlabelled (moves.Free at) line = refl

accepted_unlabelled : (pools : ℕ) (c : Call) (line : ℕ) → AreUnlabelled (records_of_accepted pools c line)
accepted_unlabelled pools (call.Arena grains limit) line = refl
accepted_unlabelled pools (call.Limit limit) line = refl
accepted_unlabelled pools (call.Pool pool kind format) line = refl
accepted_unlabelled pools (call.PoolOnChain pool kind format chain) line = refl
accepted_unlabelled pools (call.PoolMfs pool words) line = refl
accepted_unlabelled pools (call.PoolMvff pool) line = refl
accepted_unlabelled pools _ line = refl

command_unlabelled : (pools : ℕ) (c : Call) (answer : Answer) (line : ℕ) → AreUnlabelled (records_of_command pools c answer line)
command_unlabelled pools c answer line =
    elim (is_accepted answer) as (λ b. AreUnlabelled (if b then records_of_accepted pools c line else [])) [
      | true ↦ accepted_unlabelled pools c line
      | false ↦ refl
    ]

moves_unlabelled : (ms : List Move) (line : ℕ) (rs : List Record) → AreUnlabelled rs → AreUnlabelled (records_of ms line ++ rs)
moves_unlabelled [] line rs h = h
moves_unlabelled (m ∷ ms) line rs h =
    and_from (is_unlabelled (record_of m line)) (list_all is_unlabelled (records_of ms line ++ rs)) (move_unlabelled m line)
    (moves_unlabelled ms line rs h)

step_unlabelled : (pools : ℕ) (s : Step) → AreUnlabelled (records_of_step pools s)
step_unlabelled pools s =
    moves_unlabelled s.moves s.line (records_of_command pools s.call s.answer s.line)
    (command_unlabelled pools s.call s.answer s.line)

-- ---- the log without records of labels

all_kept : (rs those : List Record) → AreUnlabelled rs → filter is_unlabelled (rs ++ those) ≡ rs ++ filter is_unlabelled those
all_kept [] those h = refl
all_kept (r ∷ rs) those h =
    let parts = and_parts (is_unlabelled r) (list_all is_unlabelled rs) h in
    ap (λ b. if b then r ∷ filter is_unlabelled (rs ++ those) else filter is_unlabelled (rs ++ those)) parts.0
    ∙ ap (λ kept. r ∷ kept) (all_kept rs those parts.1)

none_kept : (c : Call) (answer : Answer) (line : ℕ) (those : List Record)
    → filter is_unlabelled (records_of_label c answer line ++ those) ≡ filter is_unlabelled those
none_kept (call.Intern label) (Replied (reply.Interned number)) line those = refl
none_kept (call.Label slot label) (Replied (reply.Labelled at number)) line those = refl
none_kept _ _ line those = refl

-- what is left is the log of version 1
pub without_labels : (pools : ℕ) (h : History) → filter is_unlabelled (labelled_log_from pools h) ≡ log_from pools h
without_labels pools [] = refl
without_labels pools (s ∷ ss) =
    let rest = labelled_log_from (pools + pools_made_by s.call s.answer) ss in
    let labelled = records_of_label s.call s.answer s.line in
    ap (filter is_unlabelled) (append_assoc (records_of_step pools s) labelled rest)
    ∙ all_kept (records_of_step pools s) (labelled ++ rest) (step_unlabelled pools s)
    ∙ ap (λ rs. records_of_step pools s ++ rs)
    (none_kept s.call s.answer s.line rest ∙ without_labels (pools + pools_made_by s.call s.answer) ss)

-- ---- the records of labels

-- whether a call makes a label, and whether it may have a record of one
abbrev interns : Call → Bool
interns (call.Intern label) = true
interns _ = false

abbrev labels : Call → Bool
labels (call.Label slot label) = true
labels _ = false

no_record : (c : Call) (answer : Answer) (line : ℕ) → interns c ≡ false → labels c ≡ false → records_of_label c answer line ≡ []
no_record (call.Intern label) answer line h k = absurd (true≢false h)
no_record (call.Label slot label) answer line h k = absurd (true≢false k)
no_record _ answer line h k = refl

-- ---- labels after acts

-- only `intern` makes a label
aside_labels : {marked : Bool} {c : Call} {judged v u : World} → interns c ≡ false → AsideIs marked c judged v u
    → u.graph.labels ≡ v.graph.labels
aside_labels h (LabelMade name e free) = but interns e refl h
aside_labels h _ = refl

change_labels : {marked : Bool} {c : Call} {judged v u : World} → interns c ≡ false → Change marked c judged v u
    → u.graph.labels ≡ v.graph.labels
change_labels h (Aside u what) = aside_labels h what
change_labels h _ = refl

abbrev with_interned : Store → World → State
with_interned blocks w = record { blocks = blocks; interned = length w.graph.labels }

module _ (w : World) (blocks : Store) (label : Name) (line : ℕ) where
  abbrev InternIsReplayed : Checked Act → Type 0
  InternIsReplayed a =
      replayed_from (with_interned blocks w) (records_of_label (call.Intern label) (answer_from a) line)
      ≡ Some (with_interned blocks (world_from w a))

  abbrev interns_it : Checked Act
  interns_it = says (reply.Interned (length w.graph.labels)) (with_graph w (graph_with_label w.graph label))

  intern_made : InternIsReplayed interns_it
  intern_made =
      ap (λ b. option_and_then (λ after. Some after) (if b then Some (record { blocks = blocks; interned = length w.graph.labels + 1 })
      else None)) (eq-eqb (length w.graph.labels) (length w.graph.labels) refl)
      ∙ ap (λ n. Some (record { blocks = blocks; interned = n })) (sym (length-with_last w.graph.labels label))

  where_few : (x : Checked (Unit {0})) → InternIsReplayed (x >> interns_it)
  where_few (Ok a) = intern_made
  where_few (Err why) = refl

  where_free : (x : Checked (Unit {0})) → InternIsReplayed (x >> (refuse_at_limit (length w.graph.labels) most_labels >> interns_it))
  where_free (Ok a) = where_few (refuse_at_limit (length w.graph.labels) most_labels)
  where_free (Err why) = refl

  interned_by : InternIsReplayed (act_intern w label)
  interned_by = where_free (refuse_taken w label)

module _ (limit : ℕ) (w : World) (laid : HasLayout limit w) (held : HeldAreLive w) where
  abbrev its_state : State
  its_state = with_interned (blocks_of (occupancy_of w)) w

  live_there : (id : ℕ) → Rattle.mps_model.specs.World.is_live w id ≡ true
      → is_live (blocks_of (occupancy_of w)) (address_or_null w id) ≡ true
  live_there id h =
      let x = live_at limit w (address_or_null w id) id laid (address_there limit 0 0 w laid id h) in
      of_touching (is_live (blocks_of (occupancy_of w)) (address_or_null w id))
      (replay-touched (Rattle.std.specs.Prelude.map shape_of w.graph.objects) w.addresses id (address_or_null w id) (shape_of x.object)
      (is_placed limit w (address_or_null w id) id laid x))
    where
      of_touching : (b : Bool) → (if b then Some (blocks_of (occupancy_of w)) else None) ≡ Some (blocks_of (occupancy_of w)) → b ≡ true
      of_touching true e = refl
      of_touching false e = absurd (Rattle.std.proofs.lemmas.Option.none-some (blocks_of (occupancy_of w)) e)

  module _ (slot : Slot) (label : Name) (line : ℕ) where
    abbrev LabelledRightly : Checked Act → Type 0
    LabelledRightly a = replayed_from its_state (records_of_label (call.Label slot label) (answer_from a) line) ≡ Some its_state

    abbrev labels_it : (id : ℕ) → Numbered Name → Checked Act
    labels_it id found = says (reply.Labelled (record { 0 = address_or_null w id }) found.number) w

    of_label : (id : ℕ) → Rattle.mps_model.specs.World.is_live w id ≡ true → (x : Checked (Numbered Name)) → label_named w label ≡ x
        → LabelledRightly (x >>= labels_it id)
    of_label id alive (Err why) e = refl
    of_label id alive (Ok found) e =
        let there = (named_by (number_named w label as_label) (λ n. slice_get w.graph.labels n) found e).1 in
        let low = slice_get_within w.graph.labels found.number found.value there in
        ap (λ b. option_and_then (λ after. Some after) (if b then Some its_state else None))
        (and_from (Rattle.std.specs.Prelude.nat_lt found.number (length w.graph.labels))
        (is_live (blocks_of (occupancy_of w)) (address_or_null w id)) (lt-ltb found.number (length w.graph.labels) low)
        (live_there id alive))

    of_object : (from : Found (Option ℕ)) → slot_in w slot ≡ Ok from → (x : Checked (Numbered Object)) → object_in w from.value ≡ x
        → LabelledRightly (x >>= (λ object. label_named w label >>= labels_it object.number))
    of_object from e (Err why) f = refl
    of_object from e (Ok object) f =
        let refers : target_of_slot w slot ≡ Some object.number = ap target_found e ∙ (object_found w from.value object f).0 in
        of_label object.number (held_is_live w object.number held (slot_is_held w slot object.number refers)) (label_named w label) refl

    of_slot : (x : Checked (Found (Option ℕ))) → slot_in w slot ≡ x
        → LabelledRightly (x >>= (λ from. object_in w from.value >>= (λ object. label_named w label >>= labels_it object.number)))
    of_slot (Err why) e = refl
    of_slot (Ok from) e = of_object from e (object_in w from.value) refl

    labelled_by : LabelledRightly (act_label w slot label)
    labelled_by = of_slot (slot_in w slot) refl

-- ---- steps

abbrev state_of : World → State
state_of w = with_interned (blocks_of (occupancy_of w)) w

module _ (limit pools line : ℕ) (w : World) (laid : HasLayout limit w) (live : BlocksAreLive w) (held : HeldAreLive w) where
  abbrev the_step : Call → List Move → Answer → Step
  the_step c ms answer = record { line = line; call = c; moves = ms; answer = answer }

  -- the record of a label, after those of blocks
  abbrev LabelIsReplayed : Call → List Move → Answer → Type 0
  LabelIsReplayed c ms answer =
      replayed_from (with_interned (blocks_of (occupancy_of (world_after w (the_step c ms answer)))) w) (records_of_label c answer line)
      ≡ Some (state_of (world_after w (the_step c ms answer)))

  no_label : (c : Call) (ms : List Move) (answer : Answer) → records_of_label c answer line ≡ []
      → (world_after w (the_step c ms answer)).graph.labels ≡ w.graph.labels → LabelIsReplayed c ms answer
  no_label c ms answer none same =
      let blocks = blocks_of (occupancy_of (world_after w (the_step c ms answer))) in
      ap (replayed_from (with_interned blocks w)) none
      ∙ ap (λ (ls : List Name). Some (record { blocks = blocks; interned = length ls })) (sym same)

  labels_kept : (c : Call) (ms : List Move) (answer : Answer) → interns c ≡ false
      → (world_after w (the_step c ms answer)).graph.labels ≡ w.graph.labels
  labels_kept c ms answer other =
      let v = moved_world w c ms in
      let judged = judged_world w c ms in
      for_world (λ (u : World). u.graph.labels ≡ v.graph.labels) v (act (is_block answer) judged v c)
      (of_changes (is_block answer) judged v c (λ u change. change_labels other change)) refl
      ∙ (moved_alone w c ms).labels

  intern_step : (label : Name) (ms : List Move) (answer : Answer)
      → IsLegalStep w (the_step (call.Intern label) ms answer) → LabelIsReplayed (call.Intern label) ms answer
  intern_step label ms answer legal =
      let c = call.Intern label in
      let v = moved_world w c ms in
      let blocks = blocks_of (occupancy_of (world_after w (the_step c ms answer))) in
      ap (λ (ls : List Name). replayed_from (record { blocks = blocks; interned = length ls }) (records_of_label c answer line))
      (sym (moved_alone w c ms).labels)
      ∙ ap (λ a. replayed_from (with_interned blocks v) (records_of_label c a line)) legal.answer_is_due
      ∙ interned_by v blocks label line

  label_step : (slot : Slot) (label : Name) (ms : List Move) (answer : Answer)
      → IsLegalStep w (the_step (call.Label slot label) ms answer) → LabelIsReplayed (call.Label slot label) ms answer
  label_step slot label ms answer legal =
      let c = call.Label slot label in
      let after = world_after w (the_step c ms answer) in
      let none : ms ≡ [] = legal.moves_are_due in
      let due = subst (λ ns. answer ≡ answer_from (act_label (Rattle.mps_model.specs.Effect.world_after_moves w ns) slot label)) none
      legal.answer_is_due
      in
      let one = (legal_step_replayed limit pools line w laid live c ms answer legal).blocks in
      let same : blocks_of (occupancy_of after) ≡ blocks_of (occupancy_of w) =
      same_Some (blocks_of (occupancy_of after)) (blocks_of (occupancy_of w))
      (sym one
      ∙ (ap (λ ns. replay_from (blocks_of (occupancy_of w)) (records_of ns line ++ records_of_command pools c answer line)) none
      ∙ quiet_command (blocks_of (occupancy_of w)) pools c answer line))
      in
      ap (λ bs. replayed_from (with_interned bs w) (records_of_label c answer line)) same
      ∙ ap (λ a. replayed_from (state_of w) (records_of_label c a line)) due
      ∙ labelled_by limit w laid held slot label line
      ∙ ap (λ bs. Some (with_interned bs w)) (sym same)
      ∙ ap (λ (ls : List Name). Some (record { blocks = blocks_of (occupancy_of after); interned = length ls }))
      (sym (labels_kept c ms answer refl))

  label_replayed : (c : Call) (ms : List Move) (answer : Answer) → IsLegalStep w (the_step c ms answer) → LabelIsReplayed c ms answer
  label_replayed (call.Intern label) ms answer legal = intern_step label ms answer legal
  label_replayed (call.Label slot label) ms answer legal = label_step slot label ms answer legal
  label_replayed c ms answer legal = no_label c ms answer (no_record c answer line refl refl) (labels_kept c ms answer refl)

  -- the records of a step
  pub step_labelled : (c : Call) (ms : List Move) (answer : Answer) → IsLegalStep w (the_step c ms answer)
      → replayed_from (state_of w) (records_with_label pools (the_step c ms answer))
      ≡ Some (state_of (world_after w (the_step c ms answer)))
  step_labelled c ms answer legal =
      let s = the_step c ms answer in
      let labelled = records_of_label c answer line in
      replayed_append (state_of w) (records_of_step pools s) labelled
      ∙ ap (λ o. option_and_then (λ after. replayed_from after labelled) o)
      (unlabelled (state_of w) (records_of_step pools s) (step_unlabelled pools s)
      ∙ ap (with_store (state_of w)) (legal_step_replayed limit pools line w laid live c ms answer legal).blocks)
      ∙ label_replayed c ms answer legal

labelled_steps : (limit pools : ℕ) (w : World) (h : History) → HasLayout limit w → BlocksAreLive w → HeldAreLive w → IsLegalFrom w h
    → replayed_from (state_of w) (labelled_log_from pools h) ≡ Some (state_of (world_after_steps w h))
labelled_steps limit pools w [] laid live held legal = refl
labelled_steps limit pools w (s ∷ ss) laid live held legal =
    let one = legal_step_replayed limit pools s.line w laid live s.call s.moves s.answer legal.0 in
    let rest = pools + pools_made_by s.call s.answer in
    replayed_append (state_of w) (records_with_label pools s) (labelled_log_from rest ss)
    ∙ ap (λ o. option_and_then (λ after. replayed_from after (labelled_log_from rest ss)) o)
    (step_labelled limit pools s.line w laid live held s.call s.moves s.answer legal.0)
    ∙ labelled_steps (limit_after limit s.call) rest (world_after w s) ss one.layout legal.0.held_are_live.blocks
    legal.0.held_are_live legal.1

pub labelled_log_replays : LabelledLogReplays
labelled_log_replays formats h legal =
    let w = empty_world_of formats in
    let last = world_after_steps w h in
    let r = reached_from_empty formats h legal in
    labelled_steps 1 0 w h (empty_layout formats) refl (held_at_first formats) legal
    ∙ ap (λ bs. Some (with_interned bs last)) (sym (blocks_live r.limit last r.layout))
