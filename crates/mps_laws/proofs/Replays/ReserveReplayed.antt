-- The law of replay for whole steps that reserve.
use Rattle.std.proofs.Common.{◌≡◌, ◌∙◌, ℕ, ◌+◌, ◌<◌, Bool, true, false, refl, sym, ap, List, [], ◌∷◌, length, Option, Some, None, Ok, Err, subst, arith}
use Rattle.std.proofs.lemmas.List.{map-append}
use Rattle.std.specs.Prelude.{option_map, option_and_then, not, is_some, if◌then◌else◌, slice_get}
use Rattle.mps_base.specs.Address.{address_of_grain}
use Rattle.mps_base.specs.Placement.{Placement, Place, NewSegment, OverLimit, NoFreeRun}
use Rattle.mps_base.specs.declared.moves.Move.{Move}
use Rattle.mps_base.specs.declared.moves.Move.TheVariants as moves
use Rattle.mps_base.specs.declared.names.Name.{Name}
use Rattle.mps_base.specs.declared.refusal.Refusal.TheVariants as refusal
use Rattle.mps_model.specs.declared.call.Call.TheVariants as call
use Rattle.mps_model.specs.Answer.{Answer}
use Rattle.mps_model.specs.Graph.{Point, thing_in}
use Rattle.mps_model.specs.Collection.{Collection}
use Rattle.mps_model.specs.World.{World, Pool, id_at, is_copying_pool, object_is, pool_at}
use Rattle.mps_model.specs.Graph.{is_automatic}
use Rattle.mps_model.specs.Checked.{Act, Checked, Numbered, ◌>>=◌, ◌>>◌, required, refuse_when, done, as_point, number_named, point_named}
use Rattle.mps_model.specs.Allocating.{Reserving, check_reserve, refuse_without_place, address_of_placement, with_reserved, takes_head, layout_of}
use Rattle.mps_model.specs.Placement.{ForReserve, placement_of}
use Rattle.mps_model.specs.Effect.{world_after_move, world_after_moves, after_segment, after_moved, after_splat, after_post, after_free, where_one, with_collection, placing, reclaiming, segment_base_of, segment_of_move, holding, without_object}
use Rattle.mps_model.specs.LegalMove.{AreLegalMoves}
use Rattle.mps_model.specs.Reply.{world_from}
use Rattle.mps_model.specs.Log.{records_of, record_of, records_of_step}
use Rattle.mps_model.specs.Replay.{Store, replay_from}
use Rattle.mps_model.specs.Policy.{units_asked}
use Rattle.mps_model.specs.History.{world_after, asking, own_segment, moves_of_poll, after_own_segment, segment_of_reserve, segment_taken, segment_where_judged}
use Rattle.mps_model.proofs.Appending.{replay_from-append}
use Rattle.mps_laws.proofs.Positions.Occupancy.{occupancy_of}
use Rattle.mps_laws.proofs.Positions.LaidOut.{IsLaidOut}
use Rattle.mps_laws.proofs.Positions.LegalMoves.{HasLayout, IsReplayed, blocks_of, collection_kept}
use Rattle.mps_laws.proofs.Replays.ReplayOfMoves.{moves_replayed}
use Rattle.mps_laws.proofs.Replays.ReserveSteps.{poll_then_own, reserved_at_place, in_own_buffer, in_own_gap}
use Rattle.mps_laws.proofs.Acts.{point_named-is}
use Rattle.mps_laws.proofs.Replays.Steps.{acted_step}

-- ---- moves leave all names as they are

one_names : (w : World) (o : Option ℕ) (change : ℕ → World) → ((id : ℕ) → (change id).graph.names ≡ w.graph.names)
    → (where_one w o change).graph.names ≡ w.graph.names
one_names w None change each = refl
one_names w (Some id) change each = each id

free_names : (w : World) (id at : ℕ) → (after_free w id at).graph.names ≡ w.graph.names
free_names w id at =
    elim (object_is is_automatic w id) as (λ b. (if b then with_collection (without_object w id) (reclaiming (segment_base_of w at))
    else without_object w id).graph.names ≡ w.graph.names) [
      | true ↦ refl
      | false ↦ refl
    ]

segment_names : (w : World) (s : Rattle.mps_base.specs.Segment.Segment) → (after_segment w s).graph.names ≡ w.graph.names
segment_names w s =
    elim (is_copying_pool w s.pool) as (λ b. (if b then Rattle.mps_model.specs.World.with_tail (holding w s) s.pool s.generation
    (Rattle.mps_base.specs.Segment.words_of_segment s)
    else holding w s).graph.names ≡ w.graph.names) [
      | true ↦ refl
      | false ↦ refl
    ]

names_kept : (w : World) (m : Move) → (world_after_move w m).graph.names ≡ w.graph.names
names_kept w (moves.Seg base grains pool generation) = segment_names w (segment_of_move base.0 grains pool generation)
names_kept w (moves.Unseg base) = refl
names_kept w (moves.Flip zones chain generation) = refl
names_kept w moves.End = refl
names_kept w (moves.Moved from to) = one_names w (id_at w from.0) (λ id. after_moved w id to.0) (λ id. refl)
names_kept w (moves.Stay at) = one_names w (id_at w at.0) (λ id. with_collection w (placing id)) (λ id. refl)
names_kept w (moves.Splat holder cell) = one_names w (id_at w holder.0) (λ id. after_splat w id cell) (λ id. refl)
names_kept w (moves.Post at) = one_names w (id_at w at.0) (after_post w) (λ id. refl)
names_kept w (moves.Commit at words pool) = refl
names_kept w (moves.Alloc at words pool) = refl
names_kept w (moves.Free at) = one_names w (id_at w at.0) (λ id. after_free w id at.0) (λ id. free_names w id at.0)

pub all_names_kept : (w : World) (ms : List Move) → (world_after_moves w ms).graph.names ≡ w.graph.names
all_names_kept w [] = refl
all_names_kept w (m ∷ ms) = all_names_kept (world_after_move w m) ms ∙ names_kept w m

-- ---- what a reserve checks

record IsChecked (v : World) (name : Name) (r : Reserving) : Type 0 where
  pub point : point_named v name ≡ Ok r.point
  pub exists : (q : Pool) × (slice_get v.pools r.point.value.pool ≡ Some q)
  pub some : 0 < length r.cells

module _ (v : World) (name : Name) (head : ℕ) where
  checked_open : (p : Numbered Point) (pool : Pool) (b c : Bool) (r : Reserving) → point_named v name ≡ Ok p
      → pool_at v p.value.pool ≡ Some pool
      → (refuse_when b refusal.BadHead >> (refuse_when c refusal.Open
      >> Ok (record { point = p; cells = Rattle.mps_model.specs.Graph.new_cells (layout_of v pool) head }))) ≡ Ok r
      → IsChecked v name r
  checked_open p pool true c r e is f = absurd (cc)
  checked_open p pool false true r e is f = absurd (cc)
  checked_open p pool false false r e is f =
      let same : record { point = p; cells = Rattle.mps_model.specs.Graph.new_cells (layout_of v pool) head } ≡ r = cc in
      record {
        point = e ∙ ap Ok (ap (λ (x : Reserving). x.point) same);
        exists = (pool, ap (λ (x : Reserving). slice_get v.pools x.point.value.pool) (sym same) ∙ is);
        some = subst (λ (x : Reserving). 0 < length x.cells) same (omega arith);
      }

  checked_pool : (p : Numbered Point) (o : Option Pool) (r : Reserving) → point_named v name ≡ Ok p → pool_at v p.value.pool ≡ o
      → (required o refusal.BadName >>= (λ pool. refuse_when (not (takes_head v pool head)) refusal.BadHead
      >> (refuse_when (is_some p.value.reservation) refusal.Open
      >> Ok (record { point = p; cells = Rattle.mps_model.specs.Graph.new_cells (layout_of v pool) head })))) ≡ Ok r → IsChecked v name r
  checked_pool p None r e is f = absurd (cc)
  checked_pool p (Some pool) r e is f = checked_open p pool (not (takes_head v pool head)) (is_some p.value.reservation) r e is f

  checked : (r : Reserving) → check_reserve v name head ≡ Ok r → IsChecked v name r
  checked r f = of_point (point_named v name) refl f
    where
      of_point : (x : Checked (Numbered Point)) → point_named v name ≡ x
          → (x >>= (λ p. required (pool_at v p.value.pool) refusal.BadName >>=
          (λ pool. refuse_when (not (takes_head v pool head)) refusal.BadHead
          >> (refuse_when (is_some p.value.reservation) refusal.Open
          >> Ok (record { point = p; cells = Rattle.mps_model.specs.Graph.new_cells (layout_of v pool) head }))))) ≡ Ok r
          → IsChecked v name r
      of_point (Err why) e g = absurd (cc)
      of_point (Ok p) e g = checked_pool p (pool_at v p.value.pool) r e refl g

-- ---- the units that are asked

abbrev asked : Option ℕ → Collection → Collection
asked None c = c
asked (Some units) c = record c { spent = c.spent + units }

asked_condemned : (units : Option ℕ) (c : Collection) → (asked units c).condemned_segments ≡ c.condemned_segments
asked_condemned None c = refl
asked_condemned (Some units) c = refl

same_collection : (o : Option Collection) → o ≡ option_map (λ c. c) o
same_collection None = refl
same_collection (Some c) = refl

asking_is : (units : Option ℕ) (w : World) → asking units w ≡ with_collection w (asked units)
asking_is None w = ap (λ o. record w { collection = o }) (same_collection w.collection)
asking_is (Some units) w = refl

-- ---- the step

record IsReservedIn (limit : ℕ) (v w' : World) : Type 0 where
  pub layout : HasLayout limit w'
  pub blocks : blocks_of (occupancy_of w') ≡ blocks_of (occupancy_of v)

abbrev reserve_in : (a : World) → Name → (head : ℕ) → Reserving → Checked Act
reserve_in a name head r =
    point_named a name >>= (λ point. done (with_reserved a point (record { head = head; cells = r.cells; is_doomed = false })
    (address_of_placement (placement_of a (ForReserve point.number (length r.cells))))))

abbrev reserve_from : (v a : World) → Name → (head : ℕ) → Checked Reserving → Checked Act
reserve_from v a name head x =
    x >>= (λ r. refuse_without_place (placement_of v (ForReserve r.point.number (length r.cells))) >> reserve_in a name head r)

module _ (limit : ℕ) (v : World) (name : Name) (head : ℕ) (units : Option ℕ) (laid : HasLayout limit v) where
  abbrev result : World → Reserving → World
  result a r =
      with_reserved a r.point (record { head = head; cells = r.cells; is_doomed = false })
      (address_of_placement (placement_of a (ForReserve r.point.number (length r.cells))))

  reserved_by : (a : World) (r : Reserving) → point_named a name ≡ Ok r.point → HasLayout limit (result a r)
      → blocks_of (occupancy_of a) ≡ blocks_of (occupancy_of v) → IsReservedIn limit v (world_from a (reserve_in a name head r))
  reserved_by a r e layout blocks =
      subst (λ x. IsReservedIn limit v (world_from a (x >>= (λ point.
      done (with_reserved a point (record { head = head; cells = r.cells; is_doomed = false })
      (address_of_placement (placement_of a (ForReserve point.number (length r.cells)))))))))
      (sym e) (record { layout = layout; blocks = blocks })

  refused_in : IsReservedIn limit v (asking units v)
  refused_in =
      let e = Rattle.mps_laws.proofs.Replays.Steps.asking_kept units v in
      record { layout = subst (IsLaidOut limit) (sym e) laid; blocks = ap blocks_of e }

  at_place : (r : Reserving) (word : ℕ) → IsChecked v name r → placement_of v (ForReserve r.point.number (length r.cells)) ≡ Place word
      → IsReservedIn limit v (world_from (asking units v) (reserve_in (asking units v) name head r))
  at_place r word c e =
      let a = with_collection v (asked units) in
      let kept = collection_kept v (asked units) (asked_condemned units) in
      subst (λ u. IsReservedIn limit v (world_from u (reserve_in u name head r))) (sym (asking_is units v))
      (reserved_by a r c.point
      (reserved_at_place limit a (subst (IsLaidOut limit) (sym kept) laid) r.point
      (point_named-is v name r.point c.point).1 head r.cells c.some c.exists word e)
      (ap blocks_of kept))

  in_new : (r : Reserving) (grain grains : ℕ) → IsChecked v name r
      → placement_of v (ForReserve r.point.number (length r.cells)) ≡ NewSegment grain grains
      → IsReservedIn limit v (world_from
      (asking units (Rattle.mps_model.specs.History.with_segment_for_point v
      (segment_of_move (address_of_grain grain) grains r.point.value.pool 0) r.point.number))
      (reserve_in (asking units (Rattle.mps_model.specs.History.with_segment_for_point v
      (segment_of_move (address_of_grain grain) grains r.point.value.pool 0) r.point.number)) name head r))
  in_new r grain grains c e =
      let s = segment_of_move (address_of_grain grain) grains r.point.value.pool 0 in
      let there = (point_named-is v name r.point c.point).1 in
      let own = record s { rank = Rattle.mps_model.specs.History.rank_of_point v r.point.number } in
      subst (λ u. IsReservedIn limit v (world_from u (reserve_in u name head r)))
      (sym (asking_is units (Rattle.mps_model.specs.History.with_segment_for_point v s r.point.number)))
      (elim (is_copying_pool v r.point.value.pool) as (λ b. is_copying_pool v r.point.value.pool ≡ b → IsReservedIn limit v (world_from
      (with_collection (if b then record (holding v own) {
        point_memories = Rattle.mps_model.specs.History.with_buffer v.point_memories r.point.number
            (Rattle.mps_base.specs.Segment.words_of_segment s);
      } else holding v own) (asked units))
      (reserve_in (with_collection (if b then record (holding v own) {
        point_memories = Rattle.mps_model.specs.History.with_buffer v.point_memories r.point.number
            (Rattle.mps_base.specs.Segment.words_of_segment s);
      } else holding v own) (asked units)) name head r))) [
        | true ↦
            (λ copying. reserved_by (with_collection (record (holding v own) {
              point_memories = Rattle.mps_model.specs.History.with_buffer v.point_memories r.point.number
                  (Rattle.mps_base.specs.Segment.words_of_segment s);
            }) (asked units)) r c.point
            (in_own_buffer limit v laid r.point there head r.cells c.some grain grains e (asked units)
            (asked_condemned units) c.exists copying) refl)
        | false ↦
            (λ manual. reserved_by (with_collection (holding v own) (asked units)) r c.point
            (in_own_gap limit v laid r.point there head r.cells c.some grain grains e (asked units) (asked_condemned units) c.exists
            manual) refl)
      ] refl)

  -- the world in which it takes effect
  abbrev taken_world : List Move → Option ℕ → World
  taken_world ms number = asking units (after_own_segment v ms number)

  of_placement : (r : Reserving) (number : Option ℕ) → IsChecked v name r → number ≡ Some r.point.number → (q : Placement)
      → placement_of v (ForReserve r.point.number (length r.cells)) ≡ q
      → IsReservedIn limit v (world_from (taken_world (segment_taken r.point.value.pool q) number)
      (refuse_without_place q >> reserve_in (taken_world (segment_taken r.point.value.pool q) number) name head r))
  of_placement r number c n (Place word) e = at_place r word c e
  of_placement r number c n (NewSegment grain grains) e =
      subst (λ o. IsReservedIn limit v (world_from (taken_world (segment_taken r.point.value.pool (NewSegment grain grains)) o)
      (reserve_in (taken_world (segment_taken r.point.value.pool (NewSegment grain grains)) o) name head r))) (sym n)
      (in_new r grain grains c e)
  of_placement r number c n (OverLimit committed need most) e = refused_in
  of_placement r number c n (NoFreeRun need longest) e = refused_in

  of_check : (number : Option ℕ) → number ≡ number_named v name as_point → (x : Checked Reserving) → check_reserve v name head ≡ x
      → IsReservedIn limit v (world_from (taken_world (segment_of_reserve v x) number)
      (reserve_from v (taken_world (segment_of_reserve v x) number) name head x))
  of_check number n (Err why) e = refused_in
  of_check number n (Ok r) e =
      let c = checked v name head r e in
      of_placement r number c (n ∙ (point_named-is v name r.point c.point).0)
      (placement_of v (ForReserve r.point.number (length r.cells))) refl

-- the record of the own segment names no block
own_quiet : (store : Store) (line : ℕ) (v : World) (x : Checked Reserving)
    → replay_from store (records_of (segment_of_reserve v x) line) ≡ Some store
own_quiet store line v (Err why) = refl
own_quiet store line v (Ok r) = of_placement (placement_of v (ForReserve r.point.number (length r.cells)))
  where
    of_placement : (q : Placement) → replay_from store (records_of (segment_taken r.point.value.pool q) line) ≡ Some store
    of_placement (Place word) = refl
    of_placement (NewSegment grain grains) = refl
    of_placement (OverLimit committed need limit) = refl
    of_placement (NoFreeRun need longest) = refl

module _ (limit pools line : ℕ) (w : World) (laid : HasLayout limit w) where
  pub reserve_step : (name : Name) (head : ℕ) (ms : List Move) (answer : Answer)
      → AreLegalMoves w None (moves_of_poll ms)
      → own_segment ms ≡ segment_where_judged (world_after_moves w (moves_of_poll ms)) name head
      → IsReplayed limit w (world_after w (record { line = line; call = call.Reserve name head; moves = ms; answer = answer }))
      (replay_from (blocks_of (occupancy_of w)) (records_of_step pools
      (record { line = line; call = call.Reserve name head; moves = ms; answer = answer })))
  reserve_step name head ms answer legal own =
      let v = world_after_moves w (moves_of_poll ms) in
      let poll = moves_replayed limit w None (moves_of_poll ms) line laid legal in
      let units = units_asked w (call.Reserve name head) in
      let number = number_named w name as_point in
      let x = check_reserve v name head in
      let same : number ≡ number_named v name as_point =
      ap (λ ns. option_and_then as_point (thing_in ns name)) (sym (all_names_kept w (moves_of_poll ms))) in
      let r = of_check limit v name head units poll.layout number same x refl in
      let all : replay_from (blocks_of (occupancy_of w)) (records_of ms line) ≡ Some (blocks_of (occupancy_of v)) =
      ap (λ (ns : List Move). replay_from (blocks_of (occupancy_of w)) (records_of ns line)) (sym (poll_then_own ms))
      ∙ ap (replay_from (blocks_of (occupancy_of w))) (map-append (λ m. record_of m line) (moves_of_poll ms) (own_segment ms))
      ∙ replay_from-append (blocks_of (occupancy_of w)) (records_of (moves_of_poll ms) line) (records_of (own_segment ms) line)
      ∙ ap (λ o. option_and_then (λ after. replay_from after (records_of (own_segment ms) line)) o) poll.blocks
      ∙ ap (λ (ns : List Move). replay_from (blocks_of (occupancy_of v)) (records_of ns line)) own
      ∙ own_quiet (blocks_of (occupancy_of v)) line v x in
      acted_step limit pools line w (call.Reserve name head) ms answer
      (subst (λ (ns : List Move). IsReplayed limit w (world_from (asking units (after_own_segment v ns number))
      (reserve_from v (asking units (after_own_segment v ns number)) name head x))
      (replay_from (blocks_of (occupancy_of w)) (records_of ms line)))
      (sym own) (record { layout = r.layout; blocks = all ∙ ap Some (sym r.blocks) }))
