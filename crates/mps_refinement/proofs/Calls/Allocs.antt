-- `alloc`: from its outcome to a right step.
use Rattle.std.proofs.Common.{◌≡◌, ◌∙◌, ℕ, Bool, true, false, refl, sym, ap, subst, [], Option, Some, None, Ok, Err, is_some, arith, ◌+◌, List, length, inl, inr}
use Rattle.std.proofs.lemmas.Bool.{false≢true, lt-ltb, ltb-true, ne_eqb}
use Rattle.std.proofs.lemmas.List.{length-map}
use Rattle.std.proofs.lemmas.Option.{slice_get-map, slice_get_within}
use Rattle.std.specs.Prelude.{◌==◌, ◌&&◌, ◌||◌, not, slice_get, slice_set, option_map, if◌then◌else◌}
use Rattle.std.specs.Option.{option_map_or}
use Rattle.mps_seg.specs.Arena.{answer_of_placement}
use Rattle.mps_base.specs.Address.{Address}
use Rattle.mps_base.specs.Placement.{Placement, Place, NewSegment, OverLimit, NoFreeRun}
use Rattle.mps_base.specs.Trail.{Moves, with_move}
use Rattle.mps_base.specs.declared.address.Addr.{Addr}
use Rattle.mps_base.specs.declared.moves.Move.TheVariants as moves
use Rattle.mps_base.specs.declared.names.Name.{Name}
use Rattle.mps_base.specs.declared.names.Rank.TheVariants as rank
use Rattle.mps_base.specs.declared.names.Slot.{Slot}
use Rattle.mps_base.specs.declared.refusal.Refusal.{Refusal}
use Rattle.mps_base.specs.declared.refusal.Refusal.TheVariants as refusal
use Rattle.mps_format.specs.Layout.{Layout}
use Rattle.mps_laws.proofs.Sound.PoolsThere.{all-at}
use Rattle.mps_laws.proofs.Same as same
use Rattle.mps_laws.proofs.Same.{Same, fits}
use Rattle.mps_pools.specs.Manual.{has_blocks_of}
use Rattle.mps_model.specs.declared.call.Call.TheVariants as call
use Rattle.mps_model.specs.declared.reply.Reply.TheVariants as reply
use Rattle.mps_model.specs.Allocating.{act_alloc, address_of_placement, allows_size, refuse_without_place, with_block_noted}
use Rattle.mps_model.specs.Answer.{Answer, Replied}
use Rattle.mps_model.specs.Checked as checked
use Rattle.mps_model.specs.Checked.{Checked, Found, Numbered, ◌>>=◌, ◌>>◌, refuse_when, required}
use Rattle.mps_model.specs.History.{alloc_at, moves_of_alloc, unless_refused, with_client_remembered}
use Rattle.mps_model.specs.Making.{is_block_size}
use Rattle.mps_model.specs.Placement.{ForAlloc, placement_of}
use Rattle.mps_model.specs.World as world
use Rattle.mps_model.specs.World.{World, OneSize, AnySize, Frames, is_automatic_kind, is_copying_pool, pool_is as is_pool}
use Rattle.mps_heap_spec.specs.Coming.{ComesMoving, Moved}
use Rattle.mps_heap_spec.specs.Finding.{block_place_in, pool_named}
use Rattle.mps_heap_spec.specs.declared.found.Entry.{Entry}
use Rattle.mps_heap_spec.specs.declared.found.Kept.{Kept}
use Rattle.mps_heap_spec.specs.Framing.{frames_after_alloc, with_frames}
use Rattle.mps_heap_spec.specs.Manual.{block_allocated, with_block_place}
use Rattle.mps_root.specs.State.{with_place}
use Rattle.mps_snc.specs.State.{PoolState, has_room, max_notes, pool_at}
use Rattle.mps_snc.specs.declared.pool.Block.{Block}
use Rattle.mps_heap_spec.specs.State.{HeapState}
use Rattle.mps_format.specs.Pools.{is_automatic_pool, size_of_pool}
use Rattle.mps_format.specs.declared.pool.Pool.{Pool}
use Rattle.mps_format.specs.declared.pool.Pool.TheVariants as pool
use Rattle.mps_seg.specs.Placing.{placement_in_gaps}
use Rattle.mps_seg.specs.Segs.{moves_after, segments_after}
use Rattle.mps_refinement.specs.Answering.{answer_to, says_ok}
use Rattle.mps_refinement.specs.RightStep.{IsRight, IsRightFrom, step_of}
use Rattle.mps_refinement.specs.StandsFor.{AreParts, IsPool, IsReached, Past, address_of_target, IsInTime, collector_of}
use Rattle.mps_refinement.specs.Framed.{AreFramed, IsNoted}
use Rattle.mps_refinement.proofs.Parts.BlockParts.{parts_with_frames, world_with_frames}
use Rattle.mps_refinement.proofs.Parts.FramedParts.{framed_noted, listed_found, noted_alike, noted_there}
use Rattle.mps_refinement.proofs.Worlds.RoomForNotes.{reached_frames, room_for_notes}
use Rattle.mps_refinement.proofs.Parts.AllocatedParts.{parts_made, segments_made}
use Rattle.mps_refinement.proofs.Calls.AllocatingStep as allocating
use Rattle.mps_refinement.proofs.Calls.AllocatingStep.{alloc_empty, alloc_from, alloc_in, alloc_manual, alloc_placed, alloc_sized}
use Rattle.mps_refinement.proofs.Worlds.Known.{IsKnown}
use Rattle.mps_refinement.proofs.Lookups.Lookups.{IsPlaceEntry, IsPlaceFound, IsPoolFound, place_same, pool_same}
use Rattle.mps_refinement.proofs.Worlds.PlacedOnce.{is_sized}
use Rattle.mps_refinement.proofs.Worlds.Placing.{gaps_agree}
use Rattle.mps_base.specs.declared.moves.Move.{Move}
use Rattle.mps_model.specs.Effect.{world_after_moves}
use Rattle.mps_model.specs.Reply.{answer_from, world_from}
use Rattle.mps_laws.proofs.Acts.{pool_named-is}
use Rattle.mps_laws.proofs.Positions.LaidOut.{IsLaidOut}
use Rattle.mps_laws.proofs.Positions.LegalMoves.{HasLayout}
use Rattle.mps_laws.proofs.Replays.ManualSteps.{alloc_step}
use Rattle.mps_laws.proofs.Sound.PoolKinds.{manual_not_copying}
use Rattle.mps_laws.proofs.QuietSteps.{IsSound}
use Rattle.mps_laws.proofs.Replays.Steps.{remembered_kept}
use Rattle.mps_refinement.proofs.Worlds.RestingActs.{resting_sound}
use Rattle.mps_refinement.proofs.Calls.BlockPlaced.{arena_is, empty_same, moves_are, none_where, placed_keeps, some_words, taken_where, untaken, with_true}
use Rattle.mps_refinement.proofs.Calls.RightOwn.{IsOwn, IsRightOutcome, done_is_right, outcome_is_right, refusal_is_right}

-- ---- each check, against the model's

automatic_alike : {F : Type 0} (layout : F → Layout) (formats : ℕ → Layout) (p : Pool F) (q : world.Pool) → IsPool layout formats p q
    → is_automatic_pool p ≡ is_automatic_kind q.kind
automatic_alike layout formats (pool.Automatic kind format) q is = sym (ap (λ (x : world.Pool). is_automatic_kind x.kind) is.0)
automatic_alike layout formats (pool.OneSize words) q is = sym (ap (λ (x : world.Pool). is_automatic_kind x.kind) is)
automatic_alike layout formats pool.AnySize q (inl is) = sym (ap (λ (x : world.Pool). is_automatic_kind x.kind) is)
automatic_alike layout formats pool.AnySize q (inr is) = sym (ap (λ (x : world.Pool). is_automatic_kind x.kind) is)

-- a pool has blocks of a size exactly where the model's has
size_alike : {F : Type 0} (layout : F → Layout) (formats : ℕ → Layout) (p : Pool F) (q : world.Pool) (words : ℕ) → IsPool layout formats p q
    → is_automatic_kind q.kind ≡ false → is_sized q.kind ≡ true → has_blocks_of (size_of_pool p) words ≡ allows_size q.kind words
size_alike layout formats (pool.Automatic kind format) q words is manual sized =
    absurd (false≢true (sym manual ∙ ap (λ (x : world.Pool). is_automatic_kind x.kind) is.0))
size_alike layout formats (pool.OneSize size) q words is manual sized =
    let kind : q.kind ≡ OneSize size = ap (λ (x : world.Pool). x.kind) is in
    let low = ltb-true 0 size (sym (ap is_sized kind) ∙ sized) in
    ap (λ c. is_block_size words && (c || words == size)) (ne_eqb size 0 (λ e. omega (arith, e, low)))
    ∙ sym (ap (λ k. allows_size k words) kind)
size_alike layout formats pool.AnySize q words (inl is) manual sized =
    let kind : q.kind ≡ AnySize = ap (λ (x : world.Pool). x.kind) is in
    with_true (is_block_size words) ∙ sym (ap (λ k. allows_size k words) kind)
size_alike layout formats pool.AnySize q words (inr is) manual sized =
    let kind : q.kind ≡ Frames = ap (λ (x : world.Pool). x.kind) is in
    with_true (is_block_size words) ∙ sym (ap (λ k. allows_size k words) kind)

module _ {F : Type 0} (layout : F → Layout) (h : HeapState F) (trail : Moves) (none : trail.moves ≡ []) (name : Name) (words : ℕ)
    (place : Slot) where
  abbrev IsRightAlloc : World → ℕ → Checked (Moved F (Unit {0})) → Type 0
  IsRightAlloc w line o = IsRightOutcome layout h trail none (call.Alloc name words place) w line o

  -- ---- the outcome, from each check on

  -- where the placement is this
  abbrev made_at : (number : ℕ) → Entry Address → Placement → Addr → Moved F (Unit {0})
  made_at number into q at = record {
    answer = tt;
    state = with_frames (with_block_place (record h { segs = segments_made h.segs q number words at.0 }) into at.0)
        (frames_after_alloc h number into at);
    trail = with_move (moves_after q number 0 trail) (moves.Alloc at words number);
  }

  abbrev placed_at : (number : ℕ) → Entry Address → Placement → Checked (Moved F (Unit {0}))
  placed_at number into q = answer_of_placement q >>= (λ at. Ok (made_at number into q at))

  abbrev sized_as : (number : ℕ) → Entry Address → (has : Bool) → Checked Addr
  sized_as number into has =
      if has then answer_of_placement (placement_in_gaps h.segs number rank.Exact words) else Err refusal.BadSize

  abbrev from_size : (number : ℕ) → Entry Address → (has empty room : Bool) → Checked (Moved F (Unit {0}))
  from_size number into has empty room =
      refuse_when (not has) refusal.BadSize >> (refuse_when (not empty) refusal.NameTaken
      >> (refuse_when (not room) (refusal.TooMany max_notes) >> (sized_as number into has
      >>= (λ at. Ok (made_at number into (placement_in_gaps h.segs number rank.Exact words) at)))))

  -- whether a block of a pool can be noted
  abbrev room_in : (number : ℕ) → Bool
  room_in number = has_room (pool_at h.beside.frames number)

  abbrev from_place : Kept (Pool F) → Entry Address → Checked (Moved F (Unit {0}))
  from_place from into =
      required (slice_get h.sizes from.key) refusal.BadName >>= (λ size.
      from_size from.key into (has_blocks_of size words) (into.value == 0) (room_in from.key))

  abbrev from_pool : Kept (Pool F) → (automatic : Bool) → Checked (Moved F (Unit {0}))
  from_pool from automatic = refuse_when automatic refusal.WrongPool >> (block_place_in h place >>= from_place from)

  outcome_is : block_allocated h trail name words place
      ≡ (pool_named h name >>= (λ (from : Kept (Pool F)). from_pool from (is_automatic_pool from.value)))
  outcome_is = refl

  module _ (w : World) (line : ℕ) (past : Past) (parts : AreParts layout past h w) (own : IsKnown past.time w)
      (reach : IsReached w) (time : IsInTime past.time (collector_of h) w) where
    is_own : IsOwn w (call.Alloc name words place)
    is_own = record {
      arena = refl;
      collected = λ ms answer. refl;
      legal = λ ms. tt;
      marked = λ y answer. tt;
      read = λ y. tt;
      possible = λ answer. tt;
      unasked = λ why. refl;
      still = refl;
      judged = λ ms. refl;
      taken = λ v. refl;
    }

    refused_outcome : (why : Refusal) → act_alloc w w name words place ≡ Err why → IsRightAlloc w line (Err why)
    refused_outcome why e =
        refusal_is_right layout h trail none (call.Alloc name words place) w line past parts own reach time is_own why e

    -- ---- where the pool is manual

    module _ (from : Kept (Pool F)) (p : Numbered world.Pool) (pool_found : IsPoolFound layout h w from p)
        (pool_is : checked.pool_named w name ≡ Ok p) (manual : is_automatic_kind p.value.kind ≡ false) where
      to_manual : act_alloc w w name words place ≡ alloc_in w w words place p (checked.block_place_in w place)
      to_manual = ap (alloc_from w w words place) pool_is ∙ ap (alloc_manual w w words place p) manual

      same_number : from.key ≡ p.number
      same_number = sym pool_found.number

      size : ℕ
      size = size_of_pool from.value

      size_is : slice_get h.sizes from.key ≡ Some size
      unfolding size
      size_is =
          ap (λ xs. slice_get xs from.key) parts.sizes ∙ slice_get-map size_of_pool h.pools from.key
          ∙ ap (option_map size_of_pool) pool_found.kept

      has_same : has_blocks_of size words ≡ allows_size p.value.kind words
      unfolding size
      has_same =
          size_alike layout w.formats from.value p.value words pool_found.fit manual
          (all-at (λ (x : world.Pool). is_sized x.kind ≡ true) w.pools p.number p.value own.once.sized pool_found.has)

      -- ---- where the place is found

      module _ (into : Entry Address) (found : Found (Option ℕ)) (is : IsPlaceEntry past h w place.index into found)
          (place_is : checked.block_place_in w place ≡ Ok found) where
        to_place : act_alloc w w name words place ≡ alloc_sized w w words place p found (allows_size p.value.kind words)
        to_place = to_manual ∙ ap (alloc_in w w words place p) place_is

        -- ---- where the size is allowed and the place empty

        module _ (allowed : allows_size p.value.kind words ≡ true) (empty : is_some found.value ≡ false) where
          to_empty : act_alloc w w name words place ≡ alloc_placed w w words place p found (placement_of w (ForAlloc p.number words))
          to_empty = to_place ∙ ap (alloc_sized w w words place p found) allowed ∙ ap (alloc_empty w w words place p found) empty

          abbrev ok : Answer
          ok = Replied reply.Ok

          accepted : (q : Placement) → placement_of w (ForAlloc p.number words) ≡ q → refuse_without_place q ≡ Ok tt
              → IsRightAlloc w line (Ok (made_at p.number into q (record { 0 = address_of_placement q })))
          accepted q q_is room =
              let sound : w.collection ≡ None → IsSound w = (λ rest. resting_sound w rest own.live) in
              let v = allocating.world_made w sound own.live.blocks own.formed.addresses name words place p pool_is manual found place_is
              is.has
              allowed empty q q_is room in
              let ms = alloc_at p.number words q in
              let due : ms ≡ unless_refused ok (moves_of_alloc w (checked.pool_named w name) words) =
              allocating.due w sound own.live.blocks own.formed.addresses name words place p pool_is manual found place_is is.has allowed
              empty
              q q_is room in
              let comes : act_alloc w (world_after_moves w ms) name words place ≡ checked.done v =
              allocating.comes w sound own.live.blocks own.formed.addresses name words place p pool_is manual found place_is is.has allowed
              empty q q_is room in
              let automatic : is_pool is_automatic_kind w p.number ≡ false =
              ap (λ o. option_map_or (λ (x : world.Pool). is_automatic_kind x.kind) o false) (pool_named-is w name p pool_is) ∙ manual in
              let not_copying : is_copying_pool w p.number ≡ false =
              manual_not_copying w.pools p.number p.value (pool_named-is w name p pool_is) manual in
              let after : HasLayout (w.grains + 1) v =
              layout_made v ms due comes in
              subst (λ ns. IsRightFrom layout h w (step_of line (call.Alloc name words place) ns (Replied reply.Ok))
              (made_at p.number into q (record { 0 = address_of_placement q })).state) (sym (moves_are trail q p.number words none room))
              (done_is_right layout h trail none (call.Alloc name words place) w line past parts own reach time is_own ms
              (made_at p.number into q (record { 0 = address_of_placement q })).state v (record {
                due = due;
                comes = comes;
                sound = allocating.sound_made w sound own.live.blocks own.formed.addresses name words place p pool_is manual found place_is
                    is.has allowed empty q q_is room;
                blocks = allocating.blocks_made w sound own.live.blocks own.formed.addresses name words place p pool_is manual found
                    place_is
                    is.has allowed empty q q_is room;
                laid = after;
                has = record {
                  past = past;
                  timed = refl;
                  parts = let made = parts_made layout past h w parts own own.graph own.once p.number words
                      (some_words p.value.kind words allowed) q time automatic not_copying place.index into found is
                      (none_where found.value empty) own.laid after in
                      parts_with_frames layout past
                      (with_block_place (record h { segs = segments_made h.segs q p.number words (address_of_placement q) }) into
                      (address_of_placement q))
                      (world_with_frames v w.graph.frames)
                      (frames_after_alloc h p.number into (record { 0 = address_of_placement q })) v.graph.frames
                      (noted_made q made.framed) made;
                };
                keeps =
                    placed_keeps layout past h w parts own (call.Alloc name words place) p.number words q v.graph v.addresses
                    (moved_is w sound q q_is room) comes after;
                formats = refl;
              }))
            where
              noted_made : (q : Placement)
                  → AreFramed h.beside.frames (with_place h.roots.blocks into.key into.index (address_of_placement q))
                  (slice_set w.graph.blocks found.number (slice_set found.list found.index (Some (length w.graph.objects)))) w.pools
                  w.graph.frames
                  → AreFramed (frames_after_alloc h p.number into (record { 0 = address_of_placement q }))
                  (with_place h.roots.blocks into.key into.index (address_of_placement q))
                  (slice_set w.graph.blocks found.number (slice_set found.list found.index (Some (length w.graph.objects)))) w.pools
                  (with_block_noted w.graph.frames p.number (length w.graph.objects))
              noted_made q framed =
                  let block : Block =
                  record { at = record { 0 = address_of_placement q }; place = record { table = into.key; index = into.index } } in
                  let slots = slice_set w.graph.blocks found.number (slice_set found.list found.index (Some (length w.graph.objects))) in
                  let there : slice_get found.list found.index ≡ Some found.value =
                  ap (slice_get found.list) is.found_index ∙ is.there in
                  let low = slice_get_within found.list found.index found.value there in
                  let long = ap (λ (xs : List Address). length xs) is.lists
                  ∙ length-map found.list (address_of_target w.addresses) in
                  let key : into.key ≡ found.number = sym is.number in
                  let index : into.index ≡ found.index = is.index_is ∙ sym is.found_index in
                  framed_noted h.beside.frames (with_place h.roots.blocks into.key into.index (address_of_placement q)) slots w.pools
                  w.graph.frames framed p.number block (length w.graph.objects)
                  (subst (λ n. IsNoted (with_place h.roots.blocks n into.index (address_of_placement q)) slots block
                  (length w.graph.objects)) (sym key)
                  (subst (λ i. IsNoted (with_place h.roots.blocks found.number i (address_of_placement q)) slots block
                  (length w.graph.objects)) (sym index)
                  (noted_there h.roots.blocks w.graph.blocks found.number found.index found.list is.list (Some (length w.graph.objects))
                  (address_of_placement q) is.has (ap (slice_get h.roots.blocks) is.number ∙ is.kept) (length w.graph.objects) block key
                  index refl refl low (omega (arith, low, long)))))

              moved_is : (u : World) (sound : w.collection ≡ None → IsSound w) (q : Placement)
                  → placement_of w (ForAlloc p.number words) ≡ q → refuse_without_place q ≡ Ok tt
                  → world_after_moves w (alloc_at p.number words q)
                  ≡ record w { segments = segments_after q p.number 0 rank.Exact w.segments }
              moved_is u sound q q_is room =
                  allocating.moved_at w sound own.live.blocks own.formed.addresses name words place p pool_is manual found place_is is.has
                  allowed empty q q_is room q

              layout_made : (v : World) (ms : List Move) → ms ≡ unless_refused ok (moves_of_alloc w (checked.pool_named w name) words)
                  → act_alloc w (world_after_moves w ms) name words place ≡ checked.done v → HasLayout (w.grains + 1) v
              layout_made v ms due comes =
                  let r = alloc_step (w.grains + 1) 0 line w own.laid name words place ms ok due
                  (ap answer_from (sym comes)) in
                  subst (IsLaidOut (w.grains + 1)) (remembered_kept v)
                  (subst (λ x. HasLayout (w.grains + 1) (with_client_remembered (world_from (world_after_moves w ms) x))) comes r.layout)

          of_placement : (q : Placement) → placement_of w (ForAlloc p.number words) ≡ q → IsRightAlloc w line (placed_at p.number into q)
          of_placement (Place word) e = accepted (Place word) e refl
          of_placement (NewSegment grain grains) e = accepted (NewSegment grain grains) e refl
          of_placement (OverLimit committed need limit) e =
              refused_outcome (refusal.CommitLimit committed need limit) (to_empty ∙ ap (alloc_placed w w words place p found) e)
          of_placement (NoFreeRun need longest) e =
              refused_outcome (refusal.NoRun need longest) (to_empty ∙ ap (alloc_placed w w words place p found) e)

          placed_outcome : IsRightAlloc w line (placed_at p.number into (placement_in_gaps h.segs p.number rank.Exact words))
          placed_outcome =
              subst (λ q. IsRightAlloc w line (placed_at p.number into q))
              (sym (gaps_agree h.segs w (arena_is layout past h w parts own) p.number rank.Exact words))
              (of_placement (placement_of w (ForAlloc p.number words)) refl)

        -- there is room for a note where the place is empty
        room_is : is_some found.value ≡ false → room_in p.number ≡ true
        room_is empty = of_pool (pool_at h.beside.frames p.number) refl
          where
            of_pool : (o : Option PoolState) → pool_at h.beside.frames p.number ≡ o → has_room o ≡ true
            of_pool None e = refl
            of_pool (Some x) e =
                let framed = parts.framed in
                let f = listed_found h.roots.blocks w.graph.blocks 0 h.beside.frames w.graph.frames p.number p.number x (omega arith) e
                framed.listed in
                let alike = noted_alike h.roots.blocks w.graph.blocks x.blocks f.0.blocks f.2.blocks in
                let few = room_for_notes w (reached_frames w reach) framed.few found.number found.index found.list is.has
                (ap (slice_get found.list) is.found_index ∙ is.there ∙ ap (λ o. Some o) (none_where found.value empty)) p.number f.0
                f.1 in
                lt-ltb (length x.blocks) max_notes (omega (arith, alike, few))

        of_size : (allowed empty : Bool) → allows_size p.value.kind words ≡ allowed → not (is_some found.value) ≡ empty
            → IsRightAlloc w line (from_size p.number into allowed empty (room_in p.number))
        of_size false empty e f = refused_outcome refusal.BadSize (to_place ∙ ap (alloc_sized w w words place p found) e)
        of_size true false e f =
            refused_outcome refusal.NameTaken
            (to_place ∙ ap (alloc_sized w w words place p found) e ∙ ap (alloc_empty w w words place p found)
            (taken_where (is_some found.value) f))
        of_size true true e f =
            subst (λ b. IsRightAlloc w line (from_size p.number into true true b)) (sym (room_is (untaken (is_some found.value) f)))
            (placed_outcome e (untaken (is_some found.value) f))

        sized_outcome : IsRightAlloc w line (from_place from into)
        sized_outcome =
            subst (IsRightAlloc w line) (sym (ap (λ o. required o refusal.BadName >>= (λ n.
            from_size from.key into (has_blocks_of n words) (into.value == 0) (room_in from.key))) size_is))
            (subst (λ b. IsRightAlloc w line (from_size from.key into b (into.value == 0) (room_in from.key))) (sym has_same)
            (subst (λ b. IsRightAlloc w line (from_size from.key into (allows_size p.value.kind words) b (room_in from.key)))
            (sym (empty_same layout past h w parts own place.index into found is))
            (subst (λ n. IsRightAlloc w line (from_size n into (allows_size p.value.kind words) (not (is_some found.value)) (room_in n)))
            (sym same_number)
            (of_size (allows_size p.value.kind words) (not (is_some found.value)) refl refl))))

      of_place : (x : Checked (Entry Address)) (y : Checked (Found (Option ℕ))) → checked.block_place_in w place ≡ y
          → Same (IsPlaceFound past h w place) x y → IsRightAlloc w line (x >>= from_place from)
      of_place x y theirs (fits {a = into} {b = found} is) = sized_outcome into found is.fit theirs
      of_place x y theirs (same.refused {why = why}) =
          refused_outcome why (to_manual ∙ ap (alloc_in w w words place p) theirs)

    -- ---- the checks

    of_kind : (from : Kept (Pool F)) (p : Numbered world.Pool) → IsPoolFound layout h w from p → checked.pool_named w name ≡ Ok p
        → (automatic : Bool) → is_automatic_kind p.value.kind ≡ automatic → IsRightAlloc w line (from_pool from automatic)
    of_kind from p pool_found pool_is true e =
        refused_outcome refusal.WrongPool
        (ap (alloc_from w w words place) pool_is ∙ ap (alloc_manual w w words place p) e)
    of_kind from p pool_found pool_is false e =
        of_place from p pool_found pool_is e (block_place_in h place) (checked.block_place_in w place) refl
        (place_same layout past h w parts place)

    of_pool : (x : Checked (Kept (Pool F))) (y : Checked (Numbered world.Pool)) → checked.pool_named w name ≡ y
        → Same (IsPoolFound layout h w) x y
        → IsRightAlloc w line (x >>= (λ (from : Kept (Pool F)). from_pool from (is_automatic_pool from.value)))
    of_pool x y theirs (fits {a = from} {b = p} pool_found) =
        subst (λ b. IsRightAlloc w line (from_pool from b)) (sym (automatic_alike layout w.formats from.value p.value pool_found.fit))
        (of_kind from p pool_found theirs (is_automatic_kind p.value.kind) refl)
    of_pool x y theirs (same.refused {why = why}) = refused_outcome why (ap (alloc_from w w words place) theirs)

    allocated_outcome : IsRightAlloc w line (block_allocated h trail name words place)
    allocated_outcome =
        subst (IsRightAlloc w line) (sym outcome_is)
        (of_pool (pool_named h name) (checked.pool_named w name) refl (pool_same layout past h w parts name))

  -- `alloc` is right, where the trail has no moves before it
  pub alloc_is_right : (result : Checked (Unit {0})) (after : HeapState F) (trail_after : Moves)
      → ComesMoving h trail (block_allocated h trail name words place) result after trail_after
      → IsRight layout h (call.Alloc name words place) trail_after.moves (answer_to says_ok result) after
  alloc_is_right result after trail_after comes =
      outcome_is_right layout h trail none (call.Alloc name words place) (block_allocated h trail name words place) result after trail_after
      comes allocated_outcome
