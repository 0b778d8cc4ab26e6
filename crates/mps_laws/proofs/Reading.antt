-- What a slot holds, and what a `get` reads.
use Rattle.std.proofs.Common.{◌≡◌, ℕ, zero, suc, Bool, true, false, true≢false, refl, sym, ◌∙◌, ap, subst, List, [], ◌∷◌, ◌++◌, Option, Some, None, Ok, Err}
use Rattle.std.proofs.lemmas.Option.{none-some, same_Some}
use Rattle.std.proofs.lemmas.Bool.{eq-eqb}
use Rattle.std.specs.Prelude.{slice_get, slice_set, ◌||◌, ◌==◌, option_and_then, if◌then◌else◌}
use Rattle.std.specs.List.{flat_map}
use Rattle.mps_base.specs.declared.names.Slot.{Slot}
use Rattle.mps_base.specs.declared.moves.Move.{Move}
use Rattle.mps_base.specs.declared.moves.Move.TheVariants as moves
use Rattle.mps_base.specs.declared.refusal.Refusal.TheVariants as refusal
use Rattle.mps_model.proofs.Reaching.{list_all-contains}
use Rattle.mps_model.specs.declared.call.Call.TheVariants as call
use Rattle.mps_model.specs.declared.reply.Reply.TheVariants as reply
use Rattle.mps_model.specs.Answer.{Answer, Replied, is_accepted, is_block}
use Rattle.mps_model.specs.Step.{Step}
use Rattle.mps_model.specs.Graph.{Graph, Object, thing_in, is_automatic, Cell, HeadCell, NumberCell, ReferenceCell, contains, entries, entry_at, slots_of, ids_in_slots, ids_in_holds, ids_in_reservations, ids_of_client, object_at, target_of_cell}
use Rattle.mps_base.specs.Segment.{Segment, words_of_segment}
use Rattle.mps_model.specs.World.{World, is_live, id_at, empty_world_of, is_copying_pool, with_tail, object_is}
use Rattle.mps_model.specs.Checked.{Act, Checked, Found, Numbered, ◌>>=◌, ◌>>◌, required, numbered, entry_in, number_named, as_table, slot_in, object_in, cells_of_body, reference_at, reference_in, done, with_graph}
use Rattle.mps_model.specs.Allocating.{with_slot}
use Rattle.mps_model.specs.Accessing.{act_get}
use Rattle.mps_model.specs.Effect.{where_one, world_after_move, world_after_moves, holding, segment_of_move, with_collection, reclaiming, segment_base_of, without_object}
use Rattle.mps_model.specs.LegalMove.{target_in_cell}
use Rattle.mps_model.specs.Reply.{answer_from, reply_to, world_from}
use Rattle.mps_model.specs.History.{HeldAreLive, IsLegalStep, judged_world, moved_world, world_after, world_after_call, with_client_remembered}
use Rattle.mps_laws.specs.Replay.{reached}
use Rattle.mps_laws.specs.Held.{GetsReachLiveObjects, IsReadOfLive, is_null_or_live, target_of_slot, target_found}
use Rattle.mps_laws.proofs.LegalHistories.{IsLegalFrom-first}
use Rattle.mps_laws.proofs.Held.{held_after}
use Rattle.mps_model.proofs.Appending.{IsLegalFrom-later}
use Rattle.mps_laws.proofs.Entries.{slice_get-written, entry_at-written}

-- ---- checks that were passed

pub bind_ok : {A B : Type 0} (x : Checked A) (f : A → Checked B) (b : B) → (x >>= f) ≡ Ok b → (a : A) × (x ≡ Ok a) × (f a ≡ Ok b)
bind_ok (Ok a) f b e = (a, refl, e)
bind_ok (Err why) f b e = absurd cc

pub next_ok : {A B : Type 0} (x : Checked A) (y : Checked B) (b : B) → (x >> y) ≡ Ok b → y ≡ Ok b
next_ok (Ok a) y b e = e
next_ok (Err why) y b e = absurd cc

-- ---- a slot

-- what a slot is found to be, where its name stands for a table of this number
pub record IsSlotOf (number : Option ℕ) (tables : List (Option (List (Option ℕ)))) (index : ℕ) (found : Found (Option ℕ)) : Type 0 where
  pub named : number ≡ Some found.number
  pub table : entry_at tables found.number ≡ Some found.list
  pub at_index : found.index ≡ index
  pub value : slice_get found.list index ≡ Some found.value

abbrev pub IsSlot : World → Slot → Found (Option ℕ) → Type 0
IsSlot w slot found = IsSlotOf (number_named w slot.name as_table) w.graph.tables slot.index found

module _ (tables : List (Option (List (Option ℕ)))) (index : ℕ) (found : Found (Option ℕ)) where
  abbrev found_at : ℕ → List (Option ℕ) → Option ℕ → Found (Option ℕ)
  found_at k table value = record { number = k; list = table; index = index; value = value }

  value_found : (k : ℕ) (table : List (Option ℕ)) (o : Option (Option ℕ)) → entry_at tables k ≡ Some table → slice_get table index ≡ o
      → (required o refusal.BadIndex >>= (λ value. Ok (found_at k table value))) ≡ Ok found → IsSlotOf (Some k) tables index found
  value_found k table None there value e = absurd cc
  value_found k table (Some x) there value e =
      let is : found_at k table x ≡ found = cc in
      record {
        named = ap (λ (f : Found (Option ℕ)). Some f.number) is;
        table = ap (λ (f : Found (Option ℕ)). entry_at tables f.number) (sym is) ∙ there ∙ ap (λ (f : Found (Option ℕ)). Some f.list) is;
        at_index = ap (λ (f : Found (Option ℕ)). f.index) (sym is);
        value = ap (λ (f : Found (Option ℕ)). slice_get f.list index) (sym is) ∙ value ∙ ap (λ (f : Found (Option ℕ)). Some f.value) is;
      }

  table_found : (k : ℕ) (o : Option (List (Option ℕ))) → entry_at tables k ≡ o
      → (numbered k o >>= (λ table. entry_in table index)) ≡ Ok found → IsSlotOf (Some k) tables index found
  table_found k None there e = absurd cc
  table_found k (Some table) there e = value_found k table (slice_get table index) there refl e

  slot_found : (n : Option ℕ) → (required n refusal.BadName >>= (λ number. numbered number (entry_at tables number) >>=
      (λ table. entry_in table index))) ≡ Ok found
      → IsSlotOf n tables index found
  slot_found None e = absurd cc
  slot_found (Some k) e = table_found k (entry_at tables k) refl e

pub slot_is : (w : World) (slot : Slot) (found : Found (Option ℕ)) → slot_in w slot ≡ Ok found → IsSlot w slot found
slot_is w slot found e = slot_found w.graph.tables slot.index found (number_named w slot.name as_table) e

-- the same the other way round
pub slot_in_is : (w : World) (slot : Slot) (number : ℕ) (table : List (Option ℕ)) (value : Option ℕ)
    → number_named w slot.name as_table ≡ Some number → entry_at w.graph.tables number ≡ Some table → slice_get table slot.index
    ≡ Some value
    → slot_in w slot ≡ Ok (record { number = number; list = table; index = slot.index; value = value })
slot_in_is w slot number table value named there at = rw (named, there, at) refl

-- ---- what stands in a slot is held

or_later : (a b : Bool) → b ≡ true → (a || b) ≡ true
or_later true b h = refl
or_later false b h = h

or_more : (a b c : Bool) → (b ≡ true → c ≡ true) → (a || b) ≡ true → (a || c) ≡ true
or_more true b c more h = refl
or_more false b c more h = more h

pub contains-append_left : (xs ys : List ℕ) (id : ℕ) → contains xs id ≡ true → contains (xs ++ ys) id ≡ true
contains-append_left [] ys id h = absurd cc
contains-append_left (x ∷ xs) ys id h = or_more (x == id) (contains xs id) (contains (xs ++ ys) id) (contains-append_left xs ys id) h

pub contains-append_right : (xs ys : List ℕ) (id : ℕ) → contains ys id ≡ true → contains (xs ++ ys) id ≡ true
contains-append_right [] ys id h = h
contains-append_right (x ∷ xs) ys id h = or_later (x == id) (contains (xs ++ ys) id) (contains-append_right xs ys id h)

in_entries : (xs : List (Option ℕ)) (i id : ℕ) → slice_get xs i ≡ Some (Some id) → contains (entries xs) id ≡ true
in_entries [] i id there = absurd (none-some (Some id) there)
in_entries (None ∷ xs) zero id there = absurd (none-some id (same_Some None (Some id) there))
in_entries (Some n ∷ xs) zero id there =
    ap (λ b. b || contains (entries xs) id) (eq-eqb n id (same_Some n id (same_Some (Some n) (Some id) there)))
in_entries (None ∷ xs) (suc i) id there = in_entries xs i id there
in_entries (Some n ∷ xs) (suc i) id there = or_later (n == id) (contains (entries xs) id) (in_entries xs i id there)

in_tables : (tables : List (Option (List (Option ℕ)))) (n : ℕ) (table : List (Option ℕ)) (i id : ℕ) → entry_at tables n ≡ Some table
    → slice_get table i ≡ Some (Some id) → contains (flat_map slots_of tables) id ≡ true
in_tables [] n table i id there at = absurd (none-some table there)
in_tables (None ∷ ts) zero table i id there at = absurd (none-some table there)
in_tables (Some t ∷ ts) zero table i id there at =
    contains-append_left (entries t) (flat_map slots_of ts) id
    (in_entries t i id (ap (λ xs. slice_get xs i) (same_Some t table there) ∙ at))
in_tables (t ∷ ts) (suc n) table i id there at =
    contains-append_right (slots_of t) (flat_map slots_of ts) id (in_tables ts n table i id there at)

in_slots_is_held : (g : Graph) (id : ℕ) → contains (ids_in_slots g) id ≡ true → contains (ids_of_client g) id ≡ true
in_slots_is_held g id h =
    contains-append_left ((ids_in_slots g ++ ids_in_holds g) ++ g.messages) (ids_in_reservations g) id
    (contains-append_left (ids_in_slots g ++ ids_in_holds g) g.messages id
    (contains-append_left (ids_in_slots g) (ids_in_holds g) id h))

-- an object to which a slot refers is held by the client
pub slot_is_held : (w : World) (slot : Slot) (id : ℕ) → target_of_slot w slot ≡ Some id → contains (ids_of_client w.graph) id ≡ true
slot_is_held w slot id refers = by_case (slot_in w slot) refl refers
  where
    by_case : (c : Checked (Found (Option ℕ))) → slot_in w slot ≡ c → target_found c ≡ Some id → contains (ids_of_client w.graph) id ≡ true
    by_case (Err why) e refers = absurd (none-some id refers)
    by_case (Ok found) e refers =
        let is = slot_is w slot found e in
        in_slots_is_held w.graph id (in_tables w.graph.tables found.number found.list slot.index id is.table (is.value ∙ ap Some refers))

-- what the client holds is live
pub held_is_live : (w : World) (id : ℕ) → HeldAreLive w → contains (ids_of_client w.graph) id ≡ true → is_live w id ≡ true
held_is_live w id held contained = list_all-contains (is_live w) (ids_of_client w.graph) id held.client contained

-- ---- moves leave names and tables

pub record LeavesTables (before after : Graph) : Type 0 where
  pub names : after.names ≡ before.names
  pub tables : after.tables ≡ before.tables

as_before : (g : Graph) → LeavesTables g g
as_before g = record { names = refl; tables = refl }

where_one_leaves : (w : World) (found : Option ℕ) (change : ℕ → World) → ((id : ℕ) → LeavesTables w.graph (change id).graph)
    → LeavesTables w.graph (where_one w found change).graph
where_one_leaves w None change leaves = as_before w.graph
where_one_leaves w (Some id) change leaves = leaves id

segment_leaves : (w : World) (s : Segment) (b : Bool)
    → LeavesTables w.graph (if b then with_tail (holding w s) s.pool s.generation (words_of_segment s) else holding w s).graph
segment_leaves w s true = as_before w.graph
segment_leaves w s false = as_before w.graph

free_leaves : (w : World) (id at : ℕ) (b : Bool)
    → LeavesTables w.graph (if b then with_collection (without_object w id) (reclaiming
    (segment_base_of w at)) else without_object w id).graph
free_leaves w id at true = record { names = refl; tables = refl }
free_leaves w id at false = record { names = refl; tables = refl }

move_leaves_tables : (w : World) (m : Move) → LeavesTables w.graph (world_after_move w m).graph
move_leaves_tables w (moves.Seg base grains pool generation) =
    let s = segment_of_move base.0 grains pool generation in segment_leaves w s (is_copying_pool w s.pool)
move_leaves_tables w (moves.Unseg base) = as_before w.graph
move_leaves_tables w (moves.Flip zones chain generation) = record { names = refl; tables = refl }
move_leaves_tables w moves.End = as_before w.graph
move_leaves_tables w (moves.Moved from to) = where_one_leaves w (id_at w from.0) _ (λ id. as_before w.graph)
move_leaves_tables w (moves.Stay at) = where_one_leaves w (id_at w at.0) _ (λ id. as_before w.graph)
move_leaves_tables w (moves.Splat holder cell) = where_one_leaves w (id_at w holder.0) _ (λ id. record { names = refl; tables = refl })
move_leaves_tables w (moves.Post at) = where_one_leaves w (id_at w at.0) _ (λ id. record { names = refl; tables = refl })
move_leaves_tables w (moves.Commit at words pool) = as_before w.graph
move_leaves_tables w (moves.Alloc at words pool) = as_before w.graph
move_leaves_tables w (moves.Free at) = where_one_leaves w (id_at w at.0) _ (λ id. free_leaves w id at.0 (object_is is_automatic w id))

pub moves_leave_tables : (w : World) (ms : List Move) → LeavesTables w.graph (world_after_moves w ms).graph
moves_leave_tables w [] = as_before w.graph
moves_leave_tables w (m ∷ ms) =
    let first = move_leaves_tables w m in
    let rest = moves_leave_tables (world_after_move w m) ms in
    record { names = rest.names ∙ first.names; tables = rest.tables ∙ first.tables }

-- ---- a `get`

-- what a reference that was read is
reference_is : (cells : List Cell) (k : ℕ) (reference : Option ℕ) → reference_at cells k ≡ Ok reference
    → option_and_then target_of_cell (slice_get cells k) ≡ reference
reference_is cells k reference e = by_case (slice_get cells k) e
  where
    by_case : (o : Option Cell) → (required o refusal.BadIndex >>= reference_in) ≡ Ok reference → option_and_then target_of_cell o
        ≡ reference
    by_case None e = absurd cc
    by_case (Some HeadCell) e = absurd cc
    by_case (Some (NumberCell n)) e = absurd cc
    by_case (Some (ReferenceCell target tag)) e = cc

pub object_found : (w : World) (target : Option ℕ) (object : Numbered Object) → object_in w target ≡ Ok object
    → (target ≡ Some object.number) × (object_at w.graph object.number ≡ Some object.value)
object_found w None object e = absurd cc
object_found w (Some id) object e = by_case (object_at w.graph id) refl e
  where
    by_case : (o : Option Object) → object_at w.graph id ≡ o
        → (required o refusal.NullRef >>= (λ (value : Object). Ok (record { number = id; value = value }))) ≡ Ok object
        → (Some id ≡ Some object.number) × (object_at w.graph object.number ≡ Some object.value)
    by_case None there e = absurd cc
    by_case (Some x) there e =
        let is : record { number = id; value = x } ≡ object = cc in (
          ap (λ (n : Numbered Object). Some n.number) is,
          ap (λ (n : Numbered Object). object_at w.graph n.number) (sym is) ∙ there ∙ ap (λ (n : Numbered Object). Some n.value) is,
        )

-- what an accepted `get` comes to: its target slot is found in the world before, and written in the world after its moves
pub record IsRead (w v : World) (target source : Slot) (cell : ℕ) (a : Act) : Type 0 where
  pub into : Found (Option ℕ)
  pub from : Found (Option ℕ)
  pub object : Numbered Object
  pub reference : Option ℕ
  pub into_slot : slot_in w target ≡ Ok into
  pub from_slot : slot_in w source ≡ Ok from
  pub refers : from.value ≡ Some object.number
  pub now : object_at v.graph object.number ≡ Some object.value
  pub read : option_and_then target_of_cell (slice_get (cells_of_body object.value.body) cell) ≡ reference
  pub world : a.world ≡ with_graph v (with_slot v.graph into reference)

ok_world : (u : World) (a : Act) → done u ≡ Ok a → a.world ≡ u
ok_world u a e = let same : a ≡ record { answer = Replied reply.Ok; world = u } = cc in ap (λ (x : Act). x.world) same

module _ (w v : World) (target source : Slot) (cell : ℕ) where
  -- what `get` does after each of its checks
  abbrev written : Found (Option ℕ) → Option ℕ → Checked Act
  written into reference = done (with_graph v (with_slot v.graph into reference))

  abbrev then_reads : Found (Option ℕ) → Numbered Object → Checked Act
  then_reads into now = reference_at (cells_of_body now.value.body) cell >>= (λ reference. written into reference)

  abbrev then_looks_again : Found (Option ℕ) → Found (Option ℕ) → Checked Act
  then_looks_again into from = object_in v from.value >>= (λ now. then_reads into now)

  abbrev then_looks : Found (Option ℕ) → Found (Option ℕ) → Checked Act
  then_looks into from =
      object_in w from.value
      >>= (λ (object : Numbered Object). reference_at (cells_of_body object.value.body) cell >> then_looks_again into from)

  read_is : (a : Act) → act_get w v target source cell ≡ Ok a → IsRead w v target source cell a
  read_is a e =
      let into = bind_ok (slot_in w target) (λ into. slot_in w source >>= (λ from. then_looks into from)) a e in
      let from = bind_ok (slot_in w source) (λ from. then_looks into.0 from) a into.2 in
      let object = bind_ok (object_in w from.0.value)
      (λ (object : Numbered Object). reference_at (cells_of_body object.value.body) cell >> then_looks_again into.0 from.0) a from.2 in
      let next = next_ok (reference_at (cells_of_body object.0.value.body) cell) (then_looks_again into.0 from.0) a object.2 in
      let now = bind_ok (object_in v from.0.value) (λ now. then_reads into.0 now) a next in
      let reference = bind_ok (reference_at (cells_of_body now.0.value.body) cell) (λ reference. written into.0 reference) a now.2 in
      let found = object_found v from.0.value now.0 now.1 in
      record {
        into = into.0;
        from = from.0;
        object = now.0;
        reference = reference.0;
        into_slot = into.1;
        from_slot = from.1;
        refers = found.0;
        now = found.1;
        read = reference_is (cells_of_body now.0.value.body) cell reference.0 reference.1;
        world = ok_world (with_graph v (with_slot v.graph into.0 reference.0)) a reference.2;
      }

  -- in the world after, where names and tables were left by the moves
  module _ (a : Act) (r : IsRead w v target source cell a) (same : LeavesTables w.graph v.graph) where
    abbrev after : World
    after = with_graph v (with_slot v.graph r.into r.reference)

    target_after : slot_in after target ≡ Ok (record {
      number = r.into.number;
      list = slice_set r.into.list r.into.index r.reference;
      index = target.index;
      value = r.reference;
    })
    target_after =
        let is = slot_is w target r.into r.into_slot in
        slot_in_is after target r.into.number (slice_set r.into.list r.into.index r.reference) r.reference
        (ap (λ names. option_and_then as_table (thing_in names target.name)) same.names ∙ is.named)
        (entry_at-written v.graph.tables r.into.number r.into.list (Some (slice_set r.into.list r.into.index r.reference))
        (ap (λ tables. entry_at tables r.into.number) same.tables ∙ is.table))
        (ap (λ i. slice_get (slice_set r.into.list i r.reference) target.index) is.at_index
        ∙ slice_get-written r.into.list target.index r.into.value r.reference is.value)

    refers_after : target_of_slot after target ≡ r.reference
    refers_after = ap target_found target_after

    cell_after : target_in_cell after r.object.number cell ≡ r.reference
    cell_after =
        ap (λ (o : Option Object). option_and_then target_of_cell (option_and_then (λ (x : Object). slice_get
        (cells_of_body x.body) cell) o)) r.now
        ∙ r.read

    source_before : target_of_slot w source ≡ Some r.object.number
    source_before = ap target_found r.from_slot ∙ r.refers

-- ---- the law

null_or_live : (w : World) (slot : Slot) → HeldAreLive w → (o : Option ℕ) → target_of_slot w slot ≡ o → is_null_or_live w o ≡ true
null_or_live w slot held None refers = refl
null_or_live w slot held (Some id) refers = held_is_live w id held (slot_is_held w slot id refers)

module _ (w : World) (target source : Slot) (cell : ℕ) (answer : Answer) (ms : List Move) (held : HeldAreLive w) where
  -- a `get` that was accepted, by what its act comes to
  read_of_act : (result : Checked Act) → act_get w (world_after_moves w ms) target source cell ≡ result → answer ≡ answer_from result
      → is_accepted answer ≡ true → HeldAreLive (with_client_remembered (world_from (world_after_moves w ms) result))
      → IsReadOfLive w (with_client_remembered (world_from (world_after_moves w ms) result)) target source cell
  read_of_act (Err why) e due accepted live = absurd (true≢false (sym accepted ∙ ap is_accepted due))
  read_of_act (Ok a) e due accepted live =
      let v = world_after_moves w ms in
      let r = read_is w v target source cell a e in
      let same = moves_leave_tables w ms in
      let there : target_of_slot a.world target ≡ r.reference =
      ap (λ (u : World). target_of_slot u target) r.world ∙ refers_after w v target source cell a r same in
      record {
        object = r.object.number;
        read = source_before w v target source cell a r same;
        live = held_is_live w r.object.number held (slot_is_held w source r.object.number (source_before w v target source cell a r same));
        given = there ∙ sym (ap (λ (u : World). target_in_cell u r.object.number cell) r.world
            ∙ cell_after w v target source cell a r same);
        given_is_live = null_or_live (with_client_remembered a.world) target live (target_of_slot a.world target) refl;
      }

read_of_step : (w : World) (s : Step) (target source : Slot) (cell : ℕ) → HeldAreLive w → IsLegalStep w s
    → s.call ≡ call.Get target source cell → is_accepted s.answer ≡ true → IsReadOfLive w (world_after w s) target source cell
read_of_step w s target source cell held legal is_get accepted =
    let after : world_after w s ≡ world_after_call w (call.Get target source cell) s.moves s.answer =
    ap (λ c. world_after_call w c s.moves s.answer) is_get in
    subst (λ (v : World). IsReadOfLive w v target source cell) (sym after)
    (read_of_act w target source cell s.answer s.moves held (act_get w (world_after_moves w s.moves) target source cell) refl
    (subst (λ c. s.answer ≡ reply_to (is_block s.answer) (judged_world w c s.moves) (moved_world w c s.moves) c) is_get
    legal.answer_is_due)
    accepted (subst HeldAreLive after legal.held_are_live))

pub gets_reach_live_objects : GetsReachLiveObjects
gets_reach_live_objects formats steps later s target source cell legal is_get accepted =
    let w = reached formats steps in
    let from_here = IsLegalFrom-later (empty_world_of formats) steps (s ∷ later) legal in
    read_of_step w s target source cell (held_after formats steps (IsLegalFrom-first (empty_world_of formats) steps (s ∷ later) legal))
    from_here.0 is_get accepted
