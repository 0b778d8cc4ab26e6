-- The law of replay for whole steps whose call neither reserves nor makes a block; and for a commit.
use Rattle.std.proofs.Common.{◌≡◌, ◌∙◌, ℕ, ◌+◌, Bool, true, false, refl, sym, ap, List, [], length, Option, Some, None, Ok, Err, subst, arith}
use Rattle.std.proofs.lemmas.Bool.{true≢false}
use Rattle.std.proofs.lemmas.Option.{slice_get-map}
use Rattle.std.proofs.lemmas.List.{length-map}
use Rattle.std.specs.Prelude.{map, slice_set, option_map, option_and_then, if◌then◌else◌}
use Rattle.std.specs.Option.{option_map_or}
use Rattle.mps_base.specs.declared.moves.Move.{Move}
use Rattle.mps_base.specs.declared.names.Name.{Name}
use Rattle.mps_base.specs.declared.names.Slot.{Slot}
use Rattle.mps_base.specs.declared.refusal.Refusal.{Refusal}
use Rattle.mps_base.specs.declared.refusal.Refusal.TheVariants as refusal
use Rattle.mps_model.specs.declared.call.Call.{Call}
use Rattle.mps_model.specs.declared.call.Call.TheVariants as call
use Rattle.mps_model.specs.declared.reply.Reply.TheVariants as reply
use Rattle.mps_model.specs.Answer.{Answer, is_accepted, is_block}
use Rattle.mps_model.specs.Graph.{Point, Reservation, entry_at, with_last, ids_of_client}
use Rattle.mps_model.specs.World.{World, PointMemory}
use Rattle.mps_model.specs.Checked.{Act, Checked, Found, Numbered, ◌>>=◌, required, says, done, point_named, slot_in, with_graph}
use Rattle.mps_model.specs.Allocating.{act_commit, with_reservation, world_committed, committed_object, reserved_address}
use Rattle.mps_model.specs.Effect.{world_after_moves}
use Rattle.mps_model.specs.Reply.{act, answer_from, world_from}
use Rattle.mps_model.specs.Log.{records_of, records_of_step, records_of_command, records_of_accepted}
use Rattle.mps_model.specs.Replay.{Store, replay_from, after_making}
use Rattle.mps_model.specs.Step.{Step}
use Rattle.mps_model.specs.History.{asking, judged_world, moved_world, remembering, with_client_remembered, world_after, if_accepted, moves_of_commit, commit_of}
use Rattle.mps_model.specs.Policy.{units_asked}
use Rattle.mps_model.proofs.Appending.{replay_from-append}
use Rattle.mps_laws.proofs.Lookups.{map-slice_set, map-with_last, there_is, entry_within, entry_is_there}
use Rattle.mps_laws.proofs.Positions.Occupancy.{PointShape, shape_of, shape_of_point, reserved_words, occupancy_of}
use Rattle.mps_laws.proofs.Positions.LaidOut.{IsLaidOut}
use Rattle.mps_laws.proofs.Replays.Blocks.{replay-made}
use Rattle.mps_laws.proofs.Positions.LegalMoves.{HasLayout, IsReplayed, blocks_of, collection_kept}
use Rattle.mps_laws.proofs.Acts.{IsChange, Changes, is_placing, act_changes, change_laid_out, change_blocks, for_world, nothing, point_named-is}
use Rattle.mps_laws.proofs.Positions.Reserving.{committed_laid_out, committed_free}

abbrev pub is_reserve : Call → Bool
is_reserve (call.Reserve point head) = true
is_reserve _ = false

-- ---- what leaves all as it lies

pub asking_kept : (units : Option ℕ) (w : World) → occupancy_of (asking units w) ≡ occupancy_of w
asking_kept None w = refl
asking_kept (Some units) w = collection_kept w (λ c. record c { spent = c.spent + units }) (λ c. refl)

pub remembered_kept : (w : World) → occupancy_of (with_client_remembered w) ≡ occupancy_of w
remembered_kept w = collection_kept w (remembering (ids_of_client w.graph)) (λ c. refl)

-- all calls but a reserve take effect where their moves lead
pub moved_kept : (w : World) (c : Call) (ms : List Move) → is_reserve c ≡ false
    → occupancy_of (moved_world w c ms) ≡ occupancy_of (world_after_moves w ms)
moved_kept w (call.Reserve point head) ms h = absurd (true≢false h)
moved_kept w (call.Step units) ms h = asking_kept (units_asked w (call.Step units)) (world_after_moves w ms)
moved_kept w _ ms h = refl

-- ---- the record of a command

quiet_accepted : (store : Store) (pools : ℕ) (c : Call) (line : ℕ) → replay_from store (records_of_accepted pools c line) ≡ Some store
quiet_accepted store pools (call.Arena grains limit) line = refl
quiet_accepted store pools (call.Limit limit) line = refl
quiet_accepted store pools (call.Pool pool kind format) line = refl
quiet_accepted store pools (call.PoolOnChain pool kind format chain) line = refl
quiet_accepted store pools (call.PoolMfs pool words) line = refl
quiet_accepted store pools (call.PoolMvff pool) line = refl
quiet_accepted store pools _ line = refl

pub quiet_command : (store : Store) (pools : ℕ) (c : Call) (answer : Answer) (line : ℕ)
    → replay_from store (records_of_command pools c answer line) ≡ Some store
quiet_command store pools c answer line =
    elim (is_accepted answer) as (λ b. replay_from store (if b then records_of_accepted pools c line else []) ≡ Some store) [
      | true ↦ quiet_accepted store pools c line
      | false ↦ refl
    ]

-- where the moves' records make of the live blocks those of a world, so do the step's
pub with_command : (limit pools : ℕ) (s : Step) (w w' : World)
    → IsReplayed limit w w' (replay_from (blocks_of (occupancy_of w)) (records_of s.moves s.line))
    → IsReplayed limit w w' (replay_from (blocks_of (occupancy_of w)) (records_of_step pools s))
with_command limit pools s w w' r = record {
  layout = r.layout;
  blocks =
      replay_from-append (blocks_of (occupancy_of w)) (records_of s.moves s.line) (records_of_command pools s.call s.answer s.line)
      ∙ ap (λ o. option_and_then (λ after. replay_from after (records_of_command pools s.call s.answer s.line)) o) r.blocks
      ∙ quiet_command (blocks_of (occupancy_of w')) pools s.call s.answer s.line;
}

-- a world that lies as another does
pub as_replayed : (limit : ℕ) (w v v' : World) (after : Option Store) → occupancy_of v' ≡ occupancy_of v → IsReplayed limit w v after
    → IsReplayed limit w v' after
as_replayed limit w v v' after e r =
    record { layout = subst (IsLaidOut limit) (sym e) r.layout; blocks = r.blocks ∙ ap (λ g. Some (blocks_of g)) (sym e) }

pub changed_replayed : (limit : ℕ) (w v v' : World) (after : Option Store) → IsChange limit (occupancy_of v) (occupancy_of v')
    → IsReplayed limit w v after → IsReplayed limit w v' after
changed_replayed limit w v v' after change r = record {
  layout = change_laid_out limit (occupancy_of v) (occupancy_of v') change r.layout;
  blocks = r.blocks ∙ ap Some (sym (change_blocks limit (occupancy_of v) (occupancy_of v') change));
}

-- a step, from the world that its act leaves
pub acted_step : (limit pools line : ℕ) (w : World) (c : Call) (ms : List Move) (answer : Answer)
    → IsReplayed limit w (world_from (moved_world w c ms) (act (is_block answer) (judged_world w c ms) (moved_world w c ms) c))
    (replay_from (blocks_of (occupancy_of w)) (records_of ms line))
    → IsReplayed limit w (world_after w (record { line = line; call = c; moves = ms; answer = answer }))
    (replay_from (blocks_of (occupancy_of w)) (records_of_step pools (record { line = line; call = c; moves = ms; answer = answer })))
acted_step limit pools line w c ms answer r =
    let s : Step = record { line = line; call = c; moves = ms; answer = answer } in
    let x = world_from (moved_world w c ms) (act (is_block answer) (judged_world w c ms) (moved_world w c ms) c) in
    with_command limit pools s w (world_after w s)
    (as_replayed limit w x (with_client_remembered x) (replay_from (blocks_of (occupancy_of w)) (records_of ms line))
    (remembered_kept x) r)

-- a step whose call neither reserves nor makes a block nor the arena: where its moves are replayed, so is the step
pub plain_step : (limit pools line : ℕ) (w : World) (c : Call) (ms : List Move) (answer : Answer)
    → is_placing c ≡ false → IsReplayed limit w (world_after_moves w ms) (replay_from (blocks_of (occupancy_of w)) (records_of ms line))
    → IsReplayed limit w (world_after w (record { line = line; call = c; moves = ms; answer = answer }))
    (replay_from (blocks_of (occupancy_of w)) (records_of_step pools (record { line = line; call = c; moves = ms; answer = answer })))
plain_step limit pools line w c ms answer plain r =
    let v = moved_world w c ms in
    let x = act (is_block answer) (judged_world w c ms) v c in
    acted_step limit pools line w c ms answer
    (changed_replayed limit w v (world_from v x) (replay_from (blocks_of (occupancy_of w)) (records_of ms line))
    (for_world (Changes limit v) v x (act_changes limit (is_block answer) (judged_world w c ms) v c plain) (nothing refl))
    (as_replayed limit w (world_after_moves w ms) v (replay_from (blocks_of (occupancy_of w)) (records_of ms line))
    (moved_kept w c ms (not_reserve c plain)) r))
  where
    not_reserve : (c : Call) → is_placing c ≡ false → is_reserve c ≡ false
    not_reserve (call.Reserve point head) h = absurd (true≢false h)
    not_reserve _ h = refl

-- ---- a commit

-- what a commit comes to
data CommitCase (w : World) (point : Name) : Checked Act → Type 0 where
  is_refusal : {why : Refusal} → CommitCase w point (Err why)
  flips : (p : Numbered Point) (r : Reservation) → point_named w point ≡ Ok p → p.value.reservation ≡ Some r → r.is_doomed ≡ true
      → CommitCase w point (says reply.Flipped (with_graph w (with_reservation w.graph p None)))
  makes : (p : Numbered Point) (r : Reservation) (slot : Found (Option ℕ)) → point_named w point ≡ Ok p → p.value.reservation ≡ Some r
      → r.is_doomed ≡ false → CommitCase w point (done (world_committed w p r slot))

commit_last : (w : World) (point : Name) (p : Numbered Point) (slot : Found (Option ℕ)) (r : Reservation) → point_named w point ≡ Ok p
    → p.value.reservation ≡ Some r
    → CommitCase w point (if r.is_doomed then says reply.Flipped (with_graph w (with_reservation w.graph p None)) else done
    (world_committed w p r slot))
commit_last w point p slot r e f =
    elim (r.is_doomed) as (λ b. r.is_doomed ≡ b
    → CommitCase w point (if b then says reply.Flipped (with_graph w (with_reservation w.graph p None)) else done
    (world_committed w p r slot))) [
      | true ↦ (λ is. flips p r e f is)
      | false ↦ (λ isnt. makes p r slot e f isnt)
    ] refl

commit_slot : (w : World) (point : Name) (p : Numbered Point) (slot : Found (Option ℕ)) (o : Option Reservation)
    → point_named w point ≡ Ok p
    → p.value.reservation ≡ o
    → CommitCase w point (required o refusal.NotOpen >>= (λ r.
    if r.is_doomed then says reply.Flipped (with_graph w (with_reservation w.graph p None)) else done (world_committed w p r slot)))
commit_slot w point p slot None e f = is_refusal
commit_slot w point p slot (Some r) e f = commit_last w point p slot r e f

commit_point : (w : World) (point : Name) (p : Numbered Point) (x : Checked (Found (Option ℕ))) → point_named w point ≡ Ok p
    → CommitCase w point (x >>= (λ slot. required p.value.reservation refusal.NotOpen
    >>= (λ r. if r.is_doomed then says reply.Flipped (with_graph w (with_reservation w.graph p None)) else done
    (world_committed w p r slot))))
commit_point w point p (Err why) e = is_refusal
commit_point w point p (Ok slot) e = commit_slot w point p slot p.value.reservation e refl

commit_case : (w : World) (point : Name) (target : Slot) → CommitCase w point (act_commit w point target)
commit_case w point target = of_point (point_named w point) refl
  where
    of_point : (x : Checked (Numbered Point)) → point_named w point ≡ x
        → CommitCase w point (x >>= (λ p. slot_in w target >>= (λ slot. required p.value.reservation refusal.NotOpen
        >>= (λ r. if r.is_doomed then says reply.Flipped (with_graph w (with_reservation w.graph p None)) else done
        (world_committed w p r slot)))))
    of_point (Err why) e = is_refusal
    of_point (Ok p) e = commit_point w point p (slot_in w target) e

doomed_words : (r : Reservation) → r.is_doomed ≡ true → reserved_words (Some r) ≡ None
doomed_words r e = ap (λ b. if b then None else Some (length r.cells)) e

live_words : (r : Reservation) → r.is_doomed ≡ false → reserved_words (Some r) ≡ Some (length r.cells)
live_words r e = ap (λ b. if b then None else Some (length r.cells)) e

module _ (limit pools line : ℕ) (w : World) (point : Name) (laid : HasLayout limit w) where
  abbrev shaped : Point → Option ℕ → Option PointShape
  shaped p reserved = Some (record { pool = p.pool; rank = p.rank; reserved = reserved })

  -- a commit that a flip ended
  flipped_kept : (p : Numbered Point) (r : Reservation) → point_named w point ≡ Ok p → p.value.reservation ≡ Some r → r.is_doomed ≡ true
      → occupancy_of (with_graph w (with_reservation w.graph p None)) ≡ occupancy_of w
  flipped_kept p r e f is =
      ap (λ ps. record (occupancy_of w) { points = ps })
      (Rattle.mps_laws.proofs.Acts.point_written limit w p.number p.value (record p.value { reservation = None })
      (point_named-is w point p e).1
      (ap (shaped p.value) (sym (doomed_words r is)) ∙ ap (λ o. shaped p.value (reserved_words o)) (sym f)))

  -- a reservation becomes a block
  made_replayed : (p : Numbered Point) (r : Reservation) (slot : Found (Option ℕ)) → point_named w point ≡ Ok p
      → p.value.reservation ≡ Some r
      → r.is_doomed ≡ false
      → IsReplayed limit w (world_committed w p r slot)
      (replay_from (blocks_of (occupancy_of w)) (records_of (commit_of w p (Some r)) line))
  made_replayed p r slot e f live =
      let there = (point_named-is w point p e).1 in
      let shape : entry_at (map shape_of_point w.graph.points) p.number ≡ shape_of_point (Some p.value) =
      ap (λ o. option_and_then (λ entry. entry) o)
      (slice_get-map shape_of_point w.graph.points p.number ∙ ap (option_map shape_of_point)
      (entry_is_there w.graph.points p.number p.value there)) in
      let reserved : reserved_words p.value.reservation ≡ Some (length r.cells) = ap reserved_words f ∙ live_words r live in
      let m = there_is w.point_memories p.number
      (omega (arith, laid.memories, length-map w.graph.points shape_of_point, entry_within w.graph.points p.number p.value there)) in
      let at : reserved_address w p.number ≡ (m.0).reserved_at = ap (λ o. option_map_or (λ (x : PointMemory). x.reserved_at) o 0) m.1 in
      let q : PointShape = record { pool = p.value.pool; rank = p.value.rank; reserved = reserved_words p.value.reservation } in
      let after = committed_laid_out limit (occupancy_of w) laid p.number q shape m.0 (length r.cells) reserved m.1 in
      let free = committed_free limit (occupancy_of w) laid p.number q shape m.0 (length r.cells) reserved m.1 in
      let is : occupancy_of (world_committed w p r slot) ≡ record (occupancy_of w) {
        shapes = with_last (map shape_of w.graph.objects) (shape_of (committed_object p.value r));
        addresses = with_last w.addresses (Some (m.0).reserved_at);
        points = slice_set (map shape_of_point w.graph.points) p.number (shape_of_point (Some (record p.value { reservation = None })));
      } =
      ap (λ ss. record (occupancy_of (world_committed w p r slot)) { shapes = ss })
      (map-with_last shape_of w.graph.objects (committed_object p.value r))
      ∙ ap (λ ps. record (occupancy_of w) {
        shapes = with_last (map shape_of w.graph.objects) (shape_of (committed_object p.value r));
        addresses = with_last w.addresses (Some (reserved_address w p.number));
        points = ps;
      }) (map-slice_set shape_of_point w.graph.points p.number (Some (record p.value { reservation = None })))
      ∙ ap (λ n. record (occupancy_of w) {
        shapes = with_last (map shape_of w.graph.objects) (shape_of (committed_object p.value r));
        addresses = with_last w.addresses (Some n);
        points = slice_set (map shape_of_point w.graph.points) p.number (shape_of_point (Some (record p.value { reservation = None })));
      }) at in
      record {
        layout = subst (IsLaidOut limit) (sym is) after;
        blocks =
            ap (λ n. option_and_then (λ s. Some s) (after_making (blocks_of (occupancy_of w)) n (length r.cells) p.value.pool)) at
            ∙ ap (λ o. option_and_then (λ s. Some s) o)
            (replay-made (map shape_of w.graph.objects) w.addresses (shape_of (committed_object p.value r))
            (m.0).reserved_at laid.lengths free)
            ∙ ap (λ x. Some (blocks_of x)) (sym is);
      }

  kept_replayed : (v : World) → occupancy_of v ≡ occupancy_of w
      → IsReplayed limit w v (replay_from (blocks_of (occupancy_of w)) (records_of [] line))
  kept_replayed v e = record { layout = subst (IsLaidOut limit) (sym e) laid; blocks = ap (λ x. Some (blocks_of x)) (sym e) }

  -- what a commit comes to is replayed with the moves that are due
  commit_replayed : (x : Checked Act) → CommitCase w point x
      → IsReplayed limit w (world_from w x)
      (replay_from (blocks_of (occupancy_of w)) (records_of (if_accepted (answer_from x) (moves_of_commit w (point_named w point))) line))
  commit_replayed (Err why) is_refusal = kept_replayed w refl
  commit_replayed (Ok _) (flips p r e f is) = kept_replayed (with_graph w (with_reservation w.graph p None)) (flipped_kept p r e f is)
  commit_replayed (Ok _) (makes p r slot e f live) =
      subst (λ (ms : List Move). IsReplayed limit w (world_committed w p r slot)
      (replay_from (blocks_of (occupancy_of w)) (records_of ms line)))
      (sym (ap (λ x. moves_of_commit w x) e ∙ ap (commit_of w p) f)) (made_replayed p r slot e f live)

  -- its moves change no world
  commit_moves : (x : Checked (Numbered Point)) (answer : Answer) → world_after_moves w (if_accepted answer (moves_of_commit w x)) ≡ w
  commit_moves x answer =
      elim (is_accepted answer) as (λ b. world_after_moves w (if b then moves_of_commit w x else []) ≡ w) [
        | true ↦ of_point x
        | false ↦ refl
      ]
    where
      of_reservation : (p : Numbered Point) (o : Option Reservation) → world_after_moves w (commit_of w p o) ≡ w
      of_reservation p None = refl
      of_reservation p (Some r) = refl

      of_point : (x : Checked (Numbered Point)) → world_after_moves w (moves_of_commit w x) ≡ w
      of_point (Err why) = refl
      of_point (Ok p) = of_reservation p p.value.reservation

  pub commit_step : (target : Slot) (ms : List Move) (answer : Answer)
      → ms ≡ if_accepted answer (moves_of_commit w (point_named w point))
      → answer ≡ answer_from (act_commit (world_after_moves w ms) point target)
      → IsReplayed limit w (world_after w (record { line = line; call = call.Commit point target; moves = ms; answer = answer }))
      (replay_from (blocks_of (occupancy_of w)) (records_of_step pools
      (record { line = line; call = call.Commit point target; moves = ms; answer = answer })))
  commit_step target ms answer due is =
      let stays : world_after_moves w ms ≡ w = ap (world_after_moves w) due ∙ commit_moves (point_named w point) answer in
      let answered : answer ≡ answer_from (act_commit w point target) = is ∙ ap (λ v. answer_from (act_commit v point target)) stays in
      let all : ms ≡ if_accepted (answer_from (act_commit w point target)) (moves_of_commit w (point_named w point)) =
      due ∙ ap (λ a. if_accepted a (moves_of_commit w (point_named w point))) answered in
      acted_step limit pools line w (call.Commit point target) ms answer
      (subst (λ v. IsReplayed limit w (world_from v (act_commit v point target))
      (replay_from (blocks_of (occupancy_of w)) (records_of ms line))) (sym stays)
      (subst (λ (ns : List Move). IsReplayed limit w (world_from w (act_commit w point target))
      (replay_from (blocks_of (occupancy_of w)) (records_of ns line))) (sym all)
      (commit_replayed (act_commit w point target) (commit_case w point target))))
