-- Whatever the tracing collector does with an address that means an object, it is a step of the abstract collector.
use Rattle.std.proofs.Common.{◌≡◌, ◌∙◌, ℕ, ◌+◌, ◌-◌, true, false, refl, sym, ap, List, [], Option, Some, None, subst, arith}
use Rattle.std.proofs.lemmas.List.{set-get_or}
use Rattle.std.proofs.lemmas.Option.{same_Some}
use Rattle.std.specs.Prelude.{IsTrue, slice_get, slice_set}
use Rattle.mps_base.specs.Address.{Address, Id, grain_of, address_of_word, address_of_grain, grains_needed}
use Rattle.mps_base.specs.Placement.{Placement, NewSegment, OverLimit, NoFreeRun}
use Rattle.mps_base.specs.Segment.{Segment, segment_over, with_segment}
use Rattle.mps_base.specs.Trail.{Moves}
use Rattle.mps_base.specs.declared.address.Addr.{Addr}
use Rattle.mps_base.specs.declared.names.Rank.TheVariants.{Exact}
use Rattle.mps_format.specs.Layout.{Layout}
use Rattle.mps_seg.specs.Arena.{answer_of_placement}
use Rattle.mps_seg.specs.Segs.{SegsState, moves_after}
use Rattle.mps_seg.specs.Collecting.{is_condemned_at}
use Rattle.mps_seg.specs.declared.buffer.Buffer.{Buffer}
use Rattle.mps_seg.specs.Buffer.{empty_buffer}
use Rattle.mps_amc.specs.Moving.{moved_to, kept_in_place, size_at}
use Rattle.mps_amc.specs.Amc.{AmcState, tails_of, IsFixed, placement_of_copy, answer_of_fix, segs_fixed, moves_fixed, tails_after, with_place, AreWordsFixed}
use Rattle.mps_amc.specs.Amc as amc
use Rattle.mps_trace.specs.GenState.{ChainsState}
use Rattle.mps_model.specs.Graph.{Object, entry_at, size_of, is_automatic}
use Rattle.mps_model.specs.LegalMove.{has_no_room}
use Rattle.mps_abstract.specs.Collecting.{Collecting, is_white_in}
use Rattle.mps_trace_laws.specs.Image.Memory.{pool_layout}
use Rattle.mps_trace_laws.specs.Image.Image.{CellSet, AreShaped}
use Rattle.mps_trace_laws.specs.Image.Fixing.{Target}
use Rattle.mps_trace.specs.Trace.{Traced, KeepsTo, FixesTo, finds, keeps, target_of, with_copy_noted}
use Rattle.mps_trace.specs.Trace as trace
use Rattle.mps_trace_laws.specs.Fix.Finding.{FindsObject}
use Rattle.mps_trace_laws.specs.Fix.Finding as finding
use Rattle.mps_trace_laws.proofs.Fix.Finding.{object_found, white_is_condemned}
use Rattle.mps_trace_laws.specs.Fix.Tracing.{TracingStands, setting_of}
use Rattle.mps_trace_laws.specs.Fix.Steps.{IsFixStep, AFixIsAStep}
use Rattle.mps_trace_laws.proofs.Fix.Hands.{IsPlacedAt, in_tail, in_new, is_over, has_no_run, placed_at}
use Rattle.mps_trace_laws.proofs.Fix.Found as found
use Rattle.mps_trace_laws.proofs.Fix.Steps.{nothing_done, mark_step}
use Rattle.mps_trace_laws.proofs.Fix.Noted.{step_noted}
use Rattle.mps_trace_laws.proofs.Fix.FixSteps.{place_is, stays_there, moves_there, new_there}
use Rattle.mps_format.specs.declared.pool.Policy.{Policy}
use Rattle.mps_model.specs.World.{is_copying_pool}
use Rattle.mps_trace_laws.proofs.Fix.Staying.{marked_stands}
use Rattle.std.specs.Option.{option_map_or}

-- a tail that stays is no change
same_tail : (state : AmcState) (pool generation : ℕ) → amc.with_tail state pool generation (amc.tail_of state pool generation) ≡ state
same_tail state pool generation =
    ap (λ row. record { tails = slice_set state.tails pool row })
    (set-get_or (tails_of state pool) generation empty_buffer)
    ∙ ap (λ rows. record { tails = rows }) (set-get_or state.tails pool [])

module _ (F : Type 0) (layout : F → Layout) (formats : List (Option (Policy F))) (of : ChainsState) (at_flip : List (Option Address))
    (done : CellSet) (x : Traced) (y : Collecting) (shaped : AreShaped y.world.graph.objects (pool_layout y.world))
    (stands : TracingStands layout formats of at_flip done x y) (t : Id) (at : Addr) (o : Object)
  where
    module _ (object : slice_get y.world.graph.objects t ≡ Some o) (automatic : IsTrue (is_automatic o))
        (there : entry_at y.world.addresses t ≡ Some at.0) (s : Segment) (over : segment_over x.segs.segments at.0 ≡ Some s)
        (pool : s.pool ≡ o.pool) (condemned : is_condemned_at x.segs at.0 ≡ true) (white : is_white_in y t ≡ true)
        (copying : IsTrue (is_copying_pool y.world o.pool)) where
      abbrev f : Layout
      f = pool_layout y.world o.pool

      abbrev generation : ℕ
      generation = target_of of s

      abbrev size : ℕ
      size = size_of o

      abbrev b : Buffer
      b = amc.tail_of x.amc o.pool generation

      abbrev Step : AmcState → SegsState → Moves → Address → Type 0
      Step state segs moves answer =
          IsFixStep layout formats of at_flip done x (record { amc = state; segs = segs; moves = moves }) y t answer

      abbrev placed : (grain number : ℕ) → List ℕ → SegsState
      placed grain number words = record (moved_to (record x.segs {
        segments =
            with_segment (record {
              base = address_of_grain grain;
              grains = grains_needed size;
              pool = o.pool;
              generation = generation;
              rank = Exact;
            }) x.segs.segments;
        condemned = slice_set x.segs.condemned number false;
        summaries = slice_set x.segs.summaries number 0;
      }) at.0 (address_of_grain grain) size) { words = words }

      -- what is known after a block was fixed, by its placement
      record After (p : Placement) (state' : AmcState) (s' : SegsState) (moves' : Moves) (answer : Addr) : Type 0 where
        answer_is : answer ≡ answer_of_fix (answer_of_placement p) at
        segs_are : s' ≡ record (segs_fixed (answer_of_placement p) (with_place x.segs o.pool generation p) at.0 size) { words = s'.words }
        words : AreWordsFixed (answer_of_placement p) f x.segs.words s'.words at.0 size
        tails : state' ≡ tails_after x.amc o.pool generation size p
        trail : moves' ≡ moves_fixed (answer_of_placement p) (moves_after p o.pool generation x.moves) at

      full : (p : Placement) (state' : AmcState) (s' : SegsState) (moves' : Moves) (answer : Addr)
          → placement_of_copy x.amc x.segs o.pool generation size ≡ p → has_no_room p ≡ true → answer ≡ at
          → s' ≡ kept_in_place x.segs at.0 → state' ≡ amc.with_tail x.amc o.pool generation b
          → moves' ≡ Rattle.mps_base.specs.Trail.with_move x.moves (Rattle.mps_base.specs.declared.moves.Move.TheVariants.Stay at)
          → Step state' s' moves' answer.0
      full p state' s' moves' answer e none is segs tails trail =
          let place = place_is F layout formats of at_flip done x y shaped stands t at o object automatic there s over pool condemned
          white copying in
          subst (λ (a : Addr). Step state' s' moves' a.0) (sym is)
          (subst (λ c. Step c s' moves' at.0) (sym (tails ∙ same_tail x.amc o.pool generation))
          (subst (λ g. Step x.amc g moves' at.0) (sym segs)
          (stays_there F layout formats of at_flip done x y shaped stands t at o object automatic there s over pool condemned
          white copying moves'
          (ap has_no_room (place ∙ e) ∙ none) trail)))

      as_step : (p : Placement) → IsPlacedAt x.segs b size p → placement_of_copy x.amc x.segs o.pool generation size ≡ p
          → (state' : AmcState) (s' : SegsState) (moves' : Moves) (answer : Addr) → After p state' s' moves' answer
          → Step state' s' moves' answer.0
      as_step p (in_tail fits) e state' s' moves' answer is =
          let place = place_is F layout formats of at_flip done x y shaped stands t at o object automatic there s over pool condemned
          white copying in
          subst (λ (a : Addr). Step state' s' moves' a.0) (sym is.answer_is)
          (subst (λ c. Step c s' moves' (address_of_word b.from)) (sym is.tails)
          (subst (λ g. Step (amc.with_tail x.amc o.pool generation (record { from = b.from + size; count = b.count - size })) g moves'
          (address_of_word b.from)) (sym is.segs_are)
          (moves_there F layout formats of at_flip done x y shaped stands t at o object automatic there s over pool condemned white copying
          s'.words fits
          is.words moves' (place ∙ e) is.trail)))
      as_step p (in_new grain lowest) e state' s' moves' answer is =
          let place = place_is F layout formats of at_flip done x y shaped stands t at o object automatic there s over pool condemned
          white copying in
          let base = address_of_grain grain in
          let after = tails_after x.amc o.pool generation size (NewSegment grain (grains_needed size)) in
          let number : grain_of base ≡ grain = omega arith in
          subst (λ (a : Addr). Step state' s' moves' a.0) (sym is.answer_is)
          (subst (λ c. Step c s' moves' base) (sym is.tails)
          (subst (λ g. Step after g moves' base) (sym is.segs_are)
          (subst (λ n. Step after (placed grain n s'.words) moves' base) number
          (new_there F layout formats of at_flip done x y shaped stands t at o object automatic there s over pool condemned white
          copying grain
          lowest
          s'.words is.words moves' (place ∙ e) is.trail))))
      as_step p (is_over committed need limit) e state' s' moves' answer is =
          full (OverLimit committed need limit) state' s' moves' answer e refl is.answer_is
          (is.segs_are ∙ ap (λ ws. record (kept_in_place x.segs at.0) { words = ws }) is.words) is.tails is.trail
      as_step p (has_no_run need longest) e state' s' moves' answer is =
          full (NoFreeRun need longest) state' s' moves' answer e refl is.answer_is
          (is.segs_are ∙ ap (λ ws. record (kept_in_place x.segs at.0) { words = ws }) is.words) is.tails is.trail

      pub keeps_step : (state' : AmcState) (s' : SegsState) (moves' : Moves) (answer : Addr)
          → IsFixed f x.amc state' x.segs s' x.moves moves' at o.pool generation size answer → Step state' s' moves' answer.0
      keeps_step state' s' moves' answer fixed =
          as_step (placement_of_copy x.amc x.segs o.pool generation size) (placed_at x.segs b size) refl state' s' moves' answer
          (record {
            answer_is = fixed.answer_is;
            segs_are = fixed.state;
            words = fixed.words;
            tails = fixed.tails;
            trail = fixed.trail;
          })

    module _ (now : Address) (target : Target (setting_of x.segs at_flip y) y.world.addresses t at.0 now o) where
      module _ (here : at.0 ≡ now) (white : is_white_in y t ≡ true) (condemned : is_condemned_at x.segs at.0 ≡ true) (s : Segment)
          (over : segment_over x.segs.segments at.0 ≡ Some s) (format : Policy F)
          (listed : slice_get formats s.pool ≡ Some (Some format)) where
        its : (u : Segment) × (segment_over x.segs.segments at.0 ≡ Some u) × (u.pool ≡ o.pool)
        its = found.its_segment F layout formats of at_flip done x y shaped stands at.0 t now o target

        pool : s.pool ≡ o.pool
        pool = ap (λ (u : Segment). u.pool) (same_Some s its.0 (sym over ∙ its.1)) ∙ its.2

        listed_there : slice_get formats o.pool ≡ Some (Some format)
        listed_there = ap (slice_get formats) (sym pool) ∙ listed

        lies_there : entry_at y.world.addresses t ≡ Some at.0
        lies_there = target.there ∙ ap (λ a. Some a) (sym here)

        -- its pool moves it
        moved_step : {z : Traced} (answer : Addr) → format.moves ≡ true
            → IsFixed (layout format.format) x.amc z.amc x.segs z.segs x.moves z.moves at s.pool (target_of of s)
            (size_at (layout format.format) x.segs.words at.0) answer
            → IsFixStep layout formats of at_flip done x z y t answer.0
        moved_step {z} answer moves fixed =
            let g = pool_layout y.world o.pool in
            let copying : IsTrue (is_copying_pool y.world o.pool) =
            sym (stands.state.pools.moves_is o.pool format listed_there) ∙ moves
            in
            let mine =
            subst (λ n. IsFixed g x.amc z.amc x.segs z.segs x.moves z.moves at o.pool (target_of of s) n answer)
            (found.size_is F layout formats of at_flip done x y shaped stands at.0 t now o target format listed_there here)
            (subst (λ p. IsFixed g x.amc z.amc x.segs z.segs x.moves z.moves at p (target_of of s) (size_at g x.segs.words at.0) answer)
            pool
            (subst
            (λ (h : Layout). IsFixed h x.amc z.amc x.segs z.segs x.moves z.moves at s.pool (target_of of s)
            (size_at h x.segs.words at.0) answer)
            (stands.state.pools.format_is o.pool format listed_there) fixed))
            in
            keeps_step target.object target.automatic lies_there s over pool condemned white copying z.amc z.segs z.moves answer mine

        -- or marks it
        marked_step : format.moves ≡ false
            → IsFixStep layout formats of at_flip done x (record x { segs = kept_in_place x.segs at.0 }) y t at.0
        marked_step stays =
            let isnt : is_copying_pool y.world o.pool ≡ false = sym (stands.state.pools.moves_is o.pool format listed_there) ∙ stays in
            mark_step layout formats of at_flip done x y stands t at.0 o target.object lies_there white
            (record x { segs = kept_in_place x.segs at.0 })
            (ap (λ e. option_map_or (λ (p : Object). is_copying_pool y.world p.pool) e false) target.object ∙ isnt) refl
            (marked_stands F layout formats of at_flip done x.amc x.segs y stands.state t at.0 lies_there
            (let within = found.in_arena F layout formats of at_flip done x y shaped stands at.0 t now o target in
            omega (arith, within, stands.state.image.words.long)))

      -- a white object is kept
      kept_step : {z : Traced} {answer : Addr} → at.0 ≡ now → is_white_in y t ≡ true → is_condemned_at x.segs at.0 ≡ true
          → KeepsTo layout formats of x at z answer → IsFixStep layout formats of at_flip done x z y t answer.0
      kept_step here white condemned (trace.moves {y = w} s format answer over listed is fixed noted) =
          subst (λ (v : Traced). IsFixStep layout formats of at_flip done x v y t answer.0) (sym noted)
          (step_noted layout formats of at_flip done x w y t answer.0
          (with_copy_noted (layout format.format) at.0 answer.0 w).segs.summaries
          (moved_step here white condemned s over format listed answer is fixed))
      kept_step here white condemned (trace.marks s format over listed stays is) =
          subst (λ (w : Traced). IsFixStep layout formats of at_flip done x w y t at.0) (sym is)
          (marked_step here white condemned s over format listed stays)

      of_found : {z : Traced} {answer : Addr} → FindsObject y t at.0 now None → is_condemned_at x.segs at.0 ≡ true
          → KeepsTo layout formats of x at z answer → IsFixStep layout formats of at_flip done x z y t answer.0
      of_found (finding.white here is) condemned kept = kept_step here is condemned kept

      nothing_kept : (to : Addr) → FindsObject y t at.0 now (Some to) → IsFixStep layout formats of at_flip done x x y t to.0
      nothing_kept to (finding.there _ is black) =
          nothing_done layout formats of at_flip done x y stands t now o target.object target.there to.0 is black

      pub each_step : {z : Traced} {answer : Addr} → FixesTo layout formats of x at z answer
          → IsFixStep layout formats of at_flip done x z y t answer.0
      each_step (finds to found_there) =
          nothing_kept to (object_found F layout formats of at_flip done x y shaped stands at t now o target (Some to) found_there)
      each_step (keeps answer nowhere kept) =
          of_found (object_found F layout formats of at_flip done x y shaped stands at t now o target None nowhere)
          (white_is_condemned nowhere) kept

pub fix_is_a_step : {F : Type 0} → AFixIsAStep F
fix_is_a_step {F} layout formats of at_flip done x z y at answer t now o shaped stands target fixed =
    each_step F layout formats of at_flip done x y shaped stands t at o now target fixed
