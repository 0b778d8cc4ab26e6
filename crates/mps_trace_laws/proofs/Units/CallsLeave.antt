-- No call of the client raises the units that are left: it makes no object live that was gone, and what it makes isn't to be scanned.
use Rattle.std.proofs.Common.{◌≡◌, ◌∙◌, ℕ, zero, suc, ◌+◌, ◌-◌, ◌<◌, ◌≤◌, Bool, true, false, refl, sym, ap, subst, List, [], ◌∷◌, length, Option, Some, None, Ok, Err, inl, inr, arith}
use Rattle.std.proofs.lemmas.Bool.{cases_lt, false≢true, or_cases, lt-ltb, le-ltb}
use Rattle.std.proofs.lemmas.List.{length-set}
use Rattle.std.specs.Prelude.{if◌then◌else◌, is_some, nat_lt, slice_set, count_by}
use Rattle.mps_base.specs.Address.{Address, Id}
use Rattle.mps_base.specs.Segment.{Segment, words_of_segment}
use Rattle.mps_base.specs.declared.moves.Move.{Move}
use Rattle.mps_base.specs.declared.moves.Move.TheVariants as moves
use Rattle.mps_model.specs.declared.call.Call.{Call}
use Rattle.mps_model.specs.declared.call.Call.TheVariants as call
use Rattle.mps_model.specs.Answer.{is_block}
use Rattle.mps_model.specs.Checked.{Act, Checked}
use Rattle.mps_model.specs.Collecting.{without_position}
use Rattle.mps_model.specs.Effect.{after_free, after_moved, after_post, after_segment, after_splat, holding, placing, segment_base_of, segment_of_move, where_one, with_collection, without_object, reclaiming, world_after_move, world_after_moves}
use Rattle.mps_model.specs.Graph.{entry_at, is_automatic}
use Rattle.mps_model.specs.History.{after_its_moves, after_own_segment, asking, moved_world, judged_world, moves_of_collector, moves_of_poll, own_segment, rank_of_point, with_buffer, world_after}
use Rattle.mps_model.specs.Checked.{number_named, as_point}
use Rattle.mps_model.specs.Policy.{units_asked}
use Rattle.mps_model.specs.Reply.{act, world_from}
use Rattle.mps_model.specs.Step.{Step}
use Rattle.mps_model.specs.World.{World, id_at, is_copying_pool, is_live, live_ids, object_is, with_tail}
use Rattle.mps_laws.proofs.Acts.{ForAct, accepted, refused}
use Rattle.mps_laws.proofs.Entries.{entry_at-append}
use Rattle.mps_laws.proofs.LeftByActs.{Leaves, act_leaves}
use Rattle.mps_laws.proofs.Lookups.{entry_within}
use Rattle.mps_abstract.specs.ClientLaws.{IsClientStep, after_client, collection_without, next_without, position_taken}
use Rattle.mps_abstract.specs.Collecting.{Collecting, Running, units_left}
use Rattle.mps_abstract.specs.Colours.{is_grey, is_to_scan, is_white}
use Rattle.mps_abstract.proofs.Addresses.{address_of-live}
use Rattle.mps_abstract.proofs.Calls.ClientChange.{count_there, there_is}
use Rattle.mps_abstract.proofs.FlipActs.FewUnits.{few_are_left}
use Rattle.mps_abstract.proofs.FlipActs.Remembered.{remembered_is_enough}
use Rattle.mps_abstract.proofs.Keeping.{is_condemned_if_white}
use Rattle.mps_abstract.proofs.Lists.{there-set}
use Rattle.mps_abstract.proofs.Rows.{units_done}
use Rattle.mps_trace_laws.proofs.Begin.UnitsFew.{found_is_live}
use Rattle.mps_trace_laws.specs.Units.Left.{AFlipLeavesThese, NoCallLeavesMore, UnitsGoOnBelow}

-- ---- moves

-- there are as many entries for addresses, and no object is live that was gone
record MakesNoneLive (before after : World) : Type 0 where
  as_long : length after.addresses ≡ length before.addresses
  live : (id : Id) → is_live after id ≡ true → is_live before id ≡ true

nothing_changed : (w : World) → MakesNoneLive w w
nothing_changed w = record { as_long = refl; live = λ id h. h }

one_after : {u v w : World} → MakesNoneLive u v → MakesNoneLive v w → MakesNoneLive u w
one_after first second = record { as_long = second.as_long ∙ first.as_long; live = λ id h. first.live id (second.live id h) }

gone_set : (addresses : List (Option Address)) (id n : Id) → is_some (entry_at (slice_set addresses id None) n) ≡ true
    → is_some (entry_at addresses n) ≡ true
gone_set [] id n h = h
gone_set (a ∷ rest) zero zero h = absurd (false≢true h)
gone_set (a ∷ rest) zero (suc n) h = h
gone_set (a ∷ rest) (suc id) zero h = h
gone_set (a ∷ rest) (suc id) (suc n) h = gone_set rest id n h

module _ (w : World) where
  segment_makes_none : (s : Segment) → MakesNoneLive w (after_segment w s)
  segment_makes_none s =
      elim (is_copying_pool w s.pool) as (λ b. MakesNoneLive w
      (if b then with_tail (holding w s) s.pool s.generation (words_of_segment s) else holding w s)) [
        | true ↦ record { as_long = refl; live = λ id h. h }
        | false ↦ record { as_long = refl; live = λ id h. h }
      ]

  moved_makes_none : (from to : Address) → MakesNoneLive w (where_one w (id_at w from) (λ id. after_moved w id to))
  moved_makes_none from to = of_found (id_at w from) refl
    where
      of_found : (o : Option Id) → id_at w from ≡ o → MakesNoneLive w (where_one w o (λ id. after_moved w id to))
      of_found None e = nothing_changed w
      of_found (Some id) e = record {
        as_long = length-set w.addresses id (Some to);
        live = λ n h. sym (there-set w.addresses id n to (found_is_live w from id e)) ∙ h;
      }

  freed_makes_none : (at : Address) → MakesNoneLive w (where_one w (id_at w at) (λ id. after_free w id at))
  freed_makes_none at = of_found (id_at w at)
    where
      of_found : (o : Option Id) → MakesNoneLive w (where_one w o (λ id. after_free w id at))
      of_found None = nothing_changed w
      of_found (Some id) =
          elim (object_is is_automatic w id) as (λ b. MakesNoneLive w
          (if b then with_collection (without_object w id) (reclaiming (segment_base_of w at)) else without_object w id)) [
            | true ↦ record { as_long = length-set w.addresses id None; live = λ n h. gone_set w.addresses id n h }
            | false ↦ record { as_long = length-set w.addresses id None; live = λ n h. gone_set w.addresses id n h }
          ]

  stay_makes_none : (o : Option Id) → MakesNoneLive w (where_one w o (λ id. with_collection w (placing id)))
  stay_makes_none None = nothing_changed w
  stay_makes_none (Some id) = record { as_long = refl; live = λ n h. h }

  splat_makes_none : (cell : ℕ) (o : Option Id) → MakesNoneLive w (where_one w o (λ id. after_splat w id cell))
  splat_makes_none cell None = nothing_changed w
  splat_makes_none cell (Some id) = record { as_long = refl; live = λ n h. h }

  post_makes_none : (o : Option Id) → MakesNoneLive w (where_one w o (after_post w))
  post_makes_none None = nothing_changed w
  post_makes_none (Some id) = record { as_long = refl; live = λ n h. h }

  one_move : (m : Move) → MakesNoneLive w (world_after_move w m)
  one_move (moves.Seg base grains pool generation) = segment_makes_none (segment_of_move base.0 grains pool generation)
  one_move (moves.Unseg base) = record { as_long = refl; live = λ id h. h }
  one_move (moves.Flip zones chain generation) = record { as_long = refl; live = λ id h. h }
  one_move moves.End = record { as_long = refl; live = λ id h. h }
  one_move (moves.Moved from to) = moved_makes_none from.0 to.0
  one_move (moves.Stay at) = stay_makes_none (id_at w at.0)
  one_move (moves.Splat holder cell) = splat_makes_none cell (id_at w holder.0)
  one_move (moves.Post at) = post_makes_none (id_at w at.0)
  one_move (moves.Commit at words pool) = nothing_changed w
  one_move (moves.Alloc at words pool) = nothing_changed w
  one_move (moves.Free at) = freed_makes_none at.0

all_moves : (w : World) (ms : List Move) → MakesNoneLive w (world_after_moves w ms)
all_moves w [] = nothing_changed w
all_moves w (m ∷ ms) = one_after (one_move w m) (all_moves (world_after_move w m) ms)

-- ---- the client's moves

own_makes_none : (w : World) (ms : List Move) (o : Option ℕ) → MakesNoneLive w (after_own_segment w ms o)
own_makes_none w (moves.Seg base grains pool generation ∷ ms) (Some point) =
    let s : Segment = segment_of_move base.0 grains pool generation in
    let taken : World = holding w (record s { rank = rank_of_point w point }) in
    elim (is_copying_pool w s.pool) as (λ b. MakesNoneLive w
    (if b then record taken { point_memories = with_buffer w.point_memories point (words_of_segment s) } else taken)) [
      | true ↦ record { as_long = refl; live = λ id h. h }
      | false ↦ record { as_long = refl; live = λ id h. h }
    ]
own_makes_none w _ _ = nothing_changed w

-- from the world that the collector's moves leave to the one after all moves
client_makes_none : (w : World) (c : Call) (ms : List Move)
    → MakesNoneLive (world_after_moves w (moves_of_collector c ms)) (after_its_moves w c ms)
client_makes_none w (call.Reserve point head) ms =
    own_makes_none (world_after_moves w (moves_of_poll ms)) (own_segment ms) (number_named w point as_point)
client_makes_none w (call.Commit point target) ms = all_moves w ms
client_makes_none w (call.Alloc pool words place) ms = all_moves w ms
client_makes_none w (call.Free place) ms = all_moves w ms
client_makes_none w (call.CacheAlloc cache words place) ms = all_moves w ms
client_makes_none w (call.CacheFree cache place) ms = all_moves w ms
client_makes_none w (call.CacheFlush cache) ms = all_moves w ms
client_makes_none w (call.Pop pool frame) ms = all_moves w ms
client_makes_none w c ms = nothing_changed (world_after_moves w ms)

asking_same : (o : Option ℕ) (w : World) → (asking o w).addresses ≡ w.addresses
asking_same None w = refl
asking_same (Some units) w = refl

-- ---- the units

-- registrations that are left to examine
fewer_registered : (before next position : ℕ) → next ≤ before
    → without_position before position - without_position next position ≤ before - next
fewer_registered before next position up_to =
    elim (cases_lt position next) [
      | inl lower ↦
          let b : nat_lt position before ≡ true = lt-ltb position before (omega (arith, lower, up_to)) in
          let n : nat_lt position next ≡ true = lt-ltb position next lower in
          let bs = ap (λ (t : Bool). if t then before - 1 else before) b in
          let ns = ap (λ (t : Bool). if t then next - 1 else next) n in
          omega (arith, bs, ns, lower, up_to)
      | inr upper ↦
          let n : nat_lt position next ≡ false = le-ltb position next upper in
          let ns = ap (λ (t : Bool). if t then next - 1 else next) n in
          elim (cases_lt position before) [
            | inl lower ↦
                let b = lt-ltb position before lower in
                let bs = ap (λ (t : Bool). if t then before - 1 else before) b in omega (arith, bs, ns)
            | inr past ↦
                let b = le-ltb position before past in
                let bs = ap (λ (t : Bool). if t then before - 1 else before) b in omega (arith, bs, ns)
          ]
    ]

module _ (w : World) (x : Collecting) (s : Step) (run : Running x) (step : IsClientStep w x s) where
  abbrev z : Collecting
  z = after_client w x s

  abbrev moved : World
  moved = moved_world w s.call s.moves

  abbrev acted : World
  acted = world_from moved (act (is_block s.answer) (judged_world w s.call s.moves) moved s.call)

  none_live : MakesNoneLive (world_after_moves w (moves_of_collector s.call s.moves)) (after_its_moves w s.call s.moves)
  none_live = client_makes_none w s.call s.moves

  collected_addresses : (world_after_moves w (moves_of_collector s.call s.moves)).addresses ≡ x.world.addresses
  collected_addresses =
      sym (asking_same (units_asked w s.call) (world_after_moves w (moves_of_collector s.call s.moves)))
      ∙ ap (λ (v : World). v.addresses) step.collected

  moved_addresses : moved.addresses ≡ (after_its_moves w s.call s.moves).addresses
  moved_addresses = asking_same (units_asked w s.call) (after_its_moves w s.call s.moves)

  -- what was gone before the act is gone after it, if its number is known
  act_makes_none : (id : Id) → id < length moved.addresses → is_live acted id ≡ true → is_live moved id ≡ true
  act_makes_none id known = of_act (act_leaves (is_block s.answer) (judged_world w s.call s.moves) moved s.call)
    where
      of_act : {a : Checked Act} → ForAct (Leaves s.call moved) a → is_live (world_from moved a) id ≡ true → is_live moved id ≡ true
      of_act (accepted leaves) h =
          sym (ap is_some (ap (λ (ps : List (Option Address)). entry_at ps id) leaves.addresses.1
          ∙ entry_at-append moved.addresses leaves.addresses.0 id known)) ∙ h
      of_act refused h = h

  -- what is to be scanned has a number
  to_scan_known : (id : Id) → is_to_scan x.running.condemned x.colours id ≡ true → id < length x.world.addresses
  to_scan_known id is =
      elim (or_cases (is_white x.running.condemned x.colours id) (is_grey x.colours id) is) [
        | inl white ↦
            let automatic = run.condemned.objects id (is_condemned_if_white x.running.condemned x.colours id white) in
            let there = there_is is_automatic x.world.graph.objects id automatic in
            let long = step.well_formed.addresses in
            omega (arith, there, long)
        | inr grey ↦ entry_within x.world.addresses id _ (address_of-live x.world id (run.grey.grey_live id grey))
      ]

  -- what is to be scanned and live after the step was live before it
  was_live : (id : Id) → is_live (world_after w s) id ≡ true → is_to_scan x.running.condemned x.colours id ≡ true
      → is_live x.world id ≡ true
  was_live id h is =
      let low = to_scan_known id is in
      let same = ap (λ (ps : List (Option Address)). length ps) collected_addresses in
      let long = none_live.as_long in
      let moved_long = ap (λ (ps : List (Option Address)). length ps) moved_addresses in
      let before = act_makes_none id (omega (arith, low, same, long, moved_long)) h in
      ap (λ (ps : List (Option Address)). is_some (entry_at ps id)) (sym collected_addresses)
      ∙ none_live.live id (ap (λ (ps : List (Option Address)). is_some (entry_at ps id)) (sym moved_addresses) ∙ before)

  objects_fewer : count_by (is_to_scan x.running.condemned x.colours) (live_ids (world_after w s))
      ≤ count_by (is_to_scan x.running.condemned x.colours) (live_ids x.world)
  objects_fewer =
      count_there (is_to_scan x.running.condemned x.colours) 0 (world_after w s).addresses x.world.addresses (λ n h is.
      was_live n h (subst (λ k. is_to_scan x.running.condemned x.colours k ≡ true) (let same : 0 + n ≡ n = omega arith in same) is))

  no_more : units_left z ≤ units_left x
  no_more = of_position (position_taken x.world s.call)
    where
      of_position : (p : Checked ℕ)
          → units_left (record x { world = world_after w s; running = collection_without p x.running; next = next_without p x.next })
          ≤ units_left x
      of_position (Ok position) =
          let objects = objects_fewer in
          let registered = fewer_registered x.running.registered_before x.next position run.examined.up_to in
          omega (arith, objects, registered)
      of_position (Err why) = let objects = objects_fewer in omega (arith, objects)

pub no_call_leaves_more : NoCallLeavesMore
no_call_leaves_more w x s run step = no_more w x s run step

pub units_go_on_below : UnitsGoOnBelow
units_go_on_below x y count ms run goes =
    let done = units_done x y count ms run goes in
    let fewer = done.fewer in
    let some = done.some_left in
    omega (arith, fewer, some)

pub a_flip_leaves_these : AFlipLeavesThese
a_flip_leaves_these w what summary ms y rest numbered some nothing_else fixes =
    few_are_left w what _ ms y rest numbered some (remembered_is_enough w what summary rest nothing_else) fixes
