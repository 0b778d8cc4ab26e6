-- A fix of the tracing collector is a step of the abstract collector: each way in which an object is kept.
use Rattle.std.proofs.Common.{◌≡◌, ◌∙◌, ℕ, ◌+◌, ◌-◌, ◌*◌, ◌≤◌, Bool, true, false, refl, sym, ap, ap₂, List, [], ◌∷◌, ◌++◌, Option, Some, subst, arith}
use Rattle.std.proofs.lemmas.Bool.{cond-true, true≢false}
use Rattle.std.proofs.lemmas.List.{append-nil, append_assoc}
use Rattle.std.specs.Prelude.{IsTrue, cond, slice_get}
use Rattle.mps_base.specs.Address.{Address, Id, Word, address_of_word, address_of_grain}
use Rattle.mps_base.specs.Placement.{Place, NewSegment}
use Rattle.mps_base.specs.Segment.{Segment, words_of_segment}
use Rattle.mps_base.specs.Trail.{Moves, with_move}
use Rattle.mps_base.specs.declared.address.Addr.{Addr}
use Rattle.mps_base.specs.declared.moves.Move.{Move}
use Rattle.mps_base.specs.declared.moves.Move.TheVariants as move
use Rattle.mps_format.specs.Layout.{Layout}
use Rattle.mps_trace.specs.GenState.{ChainsState}
use Rattle.mps_model.specs.Graph.{Graph, Object, entry_at}
use Rattle.mps_model.specs.World.{Pool, World, is_copying_pool, is_copying_object, id_at, pool_of, target_generation_for, live_ids, with_tail}
use Rattle.mps_model.specs.Accessing.{address_or_null}
use Rattle.mps_model.specs.Placement.{ForMove, placement_of}
use Rattle.mps_model.specs.LegalMove.{has_no_room}
use Rattle.mps_model.specs.Effect.{world_after_moves, where_one, with_collection, placing, after_moved, after_segment, holding, segment_of_move}
use Rattle.mps_model.specs.Flip.{at_address, segment_for_move}
use Rattle.mps_abstract.specs.Colours.{keeping, IsUnoccupied}
use Rattle.mps_abstract.specs.Collecting.{Collecting, is_white_in}
use Rattle.mps_abstract.specs.Fixing.{Keeps, passes, keeps, moves_to_place, moves_to_segment, stays, moved_to, stays_at, new_segment, IsUnused, kept_by, marks}
use Rattle.mps_abstract.proofs.Addresses.{id_at-live, live_is_listed}
use Rattle.mps_trace_laws.specs.Image.Image.{CellSet}
use Rattle.mps_trace_laws.specs.Image.Fixing.{FixesOne}
use Rattle.mps_trace_laws.specs.Image.Fixing as fixing
use Rattle.mps_trace_laws.proofs.Image.Entries.{entry_at-set_same}
use Rattle.mps_trace_laws.proofs.Image.Marked.{kept_not_white}
use Rattle.mps_trace.specs.Trace.{Traced}
use Rattle.mps_trace_laws.specs.Fix.Tracing.{StateStands, TracingStands, setting_of}
use Rattle.mps_trace_laws.specs.Fix.Room.{moves_left, moving_left, splats_left}
use Rattle.mps_trace_laws.specs.Fix.Steps.{IsSameGraph, IsFixStep}
use Rattle.mps_trace_laws.proofs.Fix.Objects.{different, lives, address_is}
use Rattle.mps_trace_laws.proofs.Fix.Room.{fewer_moving, fewer_white, same_live_moved}
use Rattle.mps_trace_laws.proofs.Fix.SplatsLeft.{splats_kept}
use Rattle.mps_format.specs.declared.pool.Policy.{Policy}

-- the abstract collector after an object was kept in a world
abbrev pub kept_in : Collecting → Id → World → Collecting
kept_in y t v = record y { world = v; running = placing t y.running; colours = keeping y.colours t }

module _ {F : Type 0} (layout : F → Layout) (formats : List (Option (Policy F))) (of : ChainsState) (at_flip : List (Option Address))
    (done : CellSet) (x : Traced) (y : Collecting) (stands : TracingStands layout formats of at_flip done x y) (t : Id) (now : Address)
    (o : Object) (object : slice_get y.world.graph.objects t ≡ Some o) (there : entry_at y.world.addresses t ≡ Some now) where
  -- nothing is done with an object that isn't white
  pub nothing_done : (answer : Address) → answer ≡ now → is_white_in y t ≡ false
      → IsFixStep layout formats of at_flip done x x y t answer
  nothing_done answer is black = record {
    moves = [];
    after = y;
    fixes = λ ids ms last rest. passes black rest;
    stands = stands;
    trail = sym (append-nil x.moves.moves);
    room_to_post = λ white. absurd (true≢false (sym white ∙ black));
    there = there ∙ ap (λ a. Some a) (sym is);
    not_white = black;
    step = fixing.passed t black;
    same = record { graph = refl; pools = refl; formats = refl };
    same_condemned = refl;
  }

  found : id_at y.world (address_or_null y.world t) ≡ Some t
  found =
      id_at-live y.world t (different (setting_of x.segs at_flip y) y.world.addresses stands.state.image.placed)
      (lives y.world t now o object there)

  -- what is shown of the world after an object was kept
  record KeptStands (z : Traced) (answer : Address) (v : World) : Type 0 where
    state : StateStands layout formats of at_flip done z.amc z.segs (kept_in y t v)
    there_now : entry_at v.addresses t ≡ Some answer
    step : FixesOne y.running.condemned y.world.addresses y.colours (Some t) v.addresses (keeping y.colours t)
    same : IsSameGraph y.world v
    same_live : live_ids v ≡ live_ids y.world

  module _ (white : is_white_in y t ≡ true) where
    -- where at most two moves were taken, and none unless its pool moves its blocks, there is room as before, and for a post
    room_after : (v : World) (spare : ℕ) → live_ids v ≡ live_ids y.world → IsSameGraph y.world v
        → x.moves.spare ≤ spare + 2 * cond (is_copying_object y.world t) 1 0 → moves_left (kept_in y t v) + 3 ≤ spare
    room_after v spare same leaves few =
        let listed = live_is_listed y.world t (lives y.world t now o object there) in
        let fewer = fewer_white y.running.condemned y.colours t (live_ids y.world) (live_ids v) same listed white in
        let moving =
        fewer_moving (is_copying_object y.world) y.running.condemned y.colours t (live_ids y.world) (live_ids v) same listed white in
        let as_many =
        ap₂ (λ (g : Graph) (ps : List Pool). moving_left (is_copying_object (record y.world { graph = g; pools = ps })) y.running.condemned
        (keeping y.colours t) (live_ids v)) leaves.graph leaves.pools in
        let no_more = splats_kept y.world.graph.objects y.running.condemned y.colours t (live_ids y.world) white in
        let alike =
        ap (λ (g : Graph). splats_left g.objects y.running.condemned (keeping y.colours t) (live_ids v)) leaves.graph
        ∙ ap (splats_left y.world.graph.objects y.running.condemned (keeping y.colours t)) same
        in
        let room = stands.room in
        omega (arith, fewer, moving, as_many, no_more, alike, room, few)

    -- it is marked, in a pool that doesn't move its blocks
    pub mark_step : (z : Traced) → is_copying_object y.world t ≡ false → z.moves ≡ x.moves
        → StateStands layout formats of at_flip done z.amc z.segs (kept_by y t [] y.running)
        → IsFixStep layout formats of at_flip done x z y t now
    mark_step z isnt moves state = record {
      moves = [];
      after = kept_by y t [] y.running;
      fixes = λ ids rest last later. keeps white (marks isnt) later;
      stands = record { state = state; room = omega (arith, enough) };
      trail = ap (λ (m : Moves). m.moves) moves ∙ sym (append-nil x.moves.moves);
      room_to_post = λ was_white. enough;
      there = there;
      not_white = kept_not_white y.running.condemned y.colours t;
      step = fixing.kept t white;
      same = record { graph = refl; pools = refl; formats = refl };
      same_condemned = refl;
    }
      where
        enough : moves_left (kept_by y t [] y.running) + 3 ≤ z.moves.spare
        enough =
            let spare = ap (λ (m : Moves). m.spare) moves in
            room_after y.world z.moves.spare refl (record { graph = refl; pools = refl; formats = refl }) (omega (arith, spare))

    -- where an object was kept by moves that lead to a world for which the state stands
    kept_step : (z : Traced) (answer : Address) (ms : List Move) (v : World) → world_after_moves y.world ms ≡ v
        → Keeps y.world y.running t ms (placing t y.running) → KeptStands z answer v → z.moves.moves ≡ x.moves.moves ++ ms
        → is_copying_object y.world t ≡ true → x.moves.spare ≤ z.moves.spare + 2
        → IsFixStep layout formats of at_flip done x z y t answer
    kept_step z answer ms v leads keep is trail copying few =
        let w' = world_after_moves y.world ms in
        let k : KeptStands z answer w' = subst (KeptStands z answer) (sym leads) is in
        let two = ap (λ (b : Bool). let n : ℕ = cond b 1 0 in n) copying in
        let enough = room_after w' z.moves.spare k.same_live k.same (omega (arith, two, few)) in
        record {
          moves = ms;
          after = kept_in y t w';
          fixes = λ ids rest last later. keeps white keep later;
          stands = record { state = k.state; room = omega (arith, enough) };
          trail = trail;
          room_to_post = λ was_white. enough;
          there = k.there_now;
          not_white = kept_not_white y.running.condemned y.colours t;
          step = k.step;
          same = k.same;
          same_condemned = refl;
        }

    -- it stays
    pub stay_step : (z : Traced) (copying : is_copying_object y.world t ≡ true) (full : has_no_room (placement_of y.world
        (ForMove t)) ≡ true)
        (at : Addr) → at.0 ≡ now → z.moves ≡ with_move x.moves (move.Stay at)
        → StateStands layout formats of at_flip done z.amc z.segs (kept_in y t (with_collection y.world (placing t)))
        → IsFixStep layout formats of at_flip done x z y t at.0
    stay_step z copying full at is moves state =
        let v = with_collection y.world (placing t) in
        let from : at.0 ≡ address_or_null y.world t = is ∙ sym (address_is y.world t now o object there) in
        kept_step z at.0 (stays_at y.world t ∷ []) v
        (ap (λ f. where_one y.world f (λ n. with_collection y.world (placing n))) found) (stays copying full)
        (record {
          state = state;
          there_now = there ∙ ap (λ a. Some a) (sym is);
          step = fixing.kept t white;
          same = record { graph = refl; pools = refl; formats = refl };
          same_live = refl;
        })
        (ap (λ (m : Moves). m.moves) moves ∙ ap (λ a. x.moves.moves ++ move.Stay (at_address a) ∷ []) from)
        copying (let spare : z.moves.spare ≡ x.moves.spare - 1 = ap (λ (m : Moves). m.spare) moves in omega (arith, spare))

    -- it moves to words at hand
    pub move_step : (z : Traced) (copying : is_copying_object y.world t ≡ true) (word : Word)
        (place : placement_of y.world (ForMove t) ≡ Place word) (at : Addr) → at.0 ≡ now
        → IsUnoccupied y.world.addresses (address_of_word word)
        → z.moves ≡ with_move x.moves (move.Moved at (at_address (address_of_word word)))
        → StateStands layout formats of at_flip done z.amc z.segs (kept_in y t (after_moved y.world t (address_of_word word)))
        → IsFixStep layout formats of at_flip done x z y t (address_of_word word)
    move_step z copying word place at is free moves state =
        let to = address_of_word word in
        let v = after_moved y.world t to in
        let from : at.0 ≡ address_or_null y.world t = is ∙ sym (address_is y.world t now o object there) in
        kept_step z to (moved_to y.world t to ∷ []) v (ap (λ f. where_one y.world f (λ n. after_moved y.world n to)) found)
        (moves_to_place copying place free)
        (record {
          state = state;
          there_now = entry_at-set_same y.world.addresses t now there (Some to);
          step = fixing.moved t now to white there;
          same = record { graph = refl; pools = refl; formats = refl };
          same_live = same_live_moved y.world v t now to there refl;
        })
        (ap (λ (m : Moves). m.moves) moves ∙ ap (λ a. x.moves.moves ++ move.Moved (at_address a) (at_address to) ∷ []) from)
        copying (let spare : z.moves.spare ≡ x.moves.spare - 1 = ap (λ (m : Moves). m.spare) moves in omega (arith, spare))

    module _ (pool generation grain grains : ℕ) (pool_is : pool_of y.world t ≡ pool)
        (target : target_generation_for y.world t ≡ generation) (copies : IsTrue (is_copying_pool y.world pool)) where
      abbrev to : Address
      to = address_of_grain grain

      abbrev u : Segment
      u = segment_of_move to grains pool generation

      abbrev grown : World
      grown = with_tail (holding y.world u) pool generation (words_of_segment u)

      grown_is : after_segment y.world (segment_of_move to grains (pool_of y.world t) (target_generation_for y.world t)) ≡ grown
      grown_is =
          ap (λ p. after_segment y.world (segment_of_move to grains p (target_generation_for y.world t))) pool_is
          ∙ ap (λ g. after_segment y.world (segment_of_move to grains pool g)) target
          ∙ cond-true (is_copying_pool y.world pool) grown (holding y.world u) copies

      -- it moves into a segment that is taken
      pub new_step : (z : Traced) (copying : is_copying_object y.world t ≡ true)
          (place : placement_of y.world (ForMove t) ≡ NewSegment grain grains) (at : Addr) → at.0 ≡ now
          → IsUnused y.world (new_segment y.world t grain grains)
          → z.moves ≡ with_move (with_move x.moves (move.Seg (at_address to) grains pool generation)) (move.Moved at (at_address to))
          → StateStands layout formats of at_flip done z.amc z.segs (kept_in y t (after_moved grown t to))
          → IsFixStep layout formats of at_flip done x z y t to
      new_step z copying place at is unused moves state =
          let v = after_moved grown t to in
          let from : at.0 ≡ address_or_null y.world t = is ∙ sym (address_is y.world t now o object there) in
          let addr = address_or_null y.world t in
          let leads : world_after_moves y.world (segment_for_move y.world t to grains ∷ moved_to y.world t to ∷ []) ≡ v =
          ap (λ w. where_one w (id_at w addr) (λ n. after_moved w n to)) grown_is
          ∙ ap (λ f. where_one grown f (λ n. after_moved grown n to)) found
          in
          kept_step z to (segment_for_move y.world t to grains ∷ moved_to y.world t to ∷ []) v leads
          (moves_to_segment copying place unused)
          (record {
            state = state;
            there_now = entry_at-set_same y.world.addresses t now there (Some to);
            step = fixing.moved t now to white there;
            same = record { graph = refl; pools = refl; formats = refl };
            same_live = same_live_moved y.world v t now to there refl;
          })
          (ap (λ (m : Moves). m.moves) moves
          ∙ append_assoc x.moves.moves (move.Seg (at_address to) grains pool generation ∷ [])
          (move.Moved at (at_address to) ∷ [])
          ∙ ap (λ a. x.moves.moves ++ move.Seg (at_address to) grains pool generation ∷ move.Moved (at_address a) (at_address to) ∷ []) from
          ∙ ap (λ p. x.moves.moves ++ move.Seg (at_address to) grains p generation ∷ moved_to y.world t to ∷ []) (sym pool_is)
          ∙ ap (λ g. x.moves.moves ++ move.Seg (at_address to) grains (pool_of y.world t) g ∷ moved_to y.world t to ∷ []) (sym target))
          copying (let spare : z.moves.spare ≡ x.moves.spare - 1 - 1 = ap (λ (m : Moves). m.spare) moves in omega (arith, spare))
