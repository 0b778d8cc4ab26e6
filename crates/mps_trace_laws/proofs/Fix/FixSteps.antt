-- A fix of the tracing collector is a step of the abstract collector, in each case of what the code finds.
use Rattle.std.proofs.Common.{◌≡◌, ◌∙◌, ℕ, ◌+◌, ◌-◌, ◌*◌, ◌%◌, ◌<◌, ◌≤◌, true, false, refl, sym, ap, List, [], Option, Some, None, subst, inl, inr, arith}
use Rattle.std.proofs.lemmas.Bool.{cases_Bool, eqb-true}
use Rattle.std.proofs.lemmas.List.{set-set, get_or-set_same}
use Rattle.std.specs.Prelude.{IsTrue, ◌==◌, find, slice_get, slice_set}
use Rattle.mps_base.specs.Address.{Address, Id, word_of, grain_of, address_of_word, address_of_grain, grains_needed}
use Rattle.mps_base.specs.Placement.{Place, NewSegment}
use Rattle.mps_base.specs.Run.{Covers}
use Rattle.mps_base.specs.Segment.{Segment, segment_over, words_of_segment, is_in_segment}
use Rattle.mps_base.specs.Trail.{Moves}
use Rattle.mps_base.specs.declared.address.Addr.{Addr}
use Rattle.mps_base.specs.declared.names.Rank.TheVariants.{Exact}
use Rattle.mps_format.specs.Layout.{Layout}
use Rattle.mps_seg.specs.Segs.{SegsState}
use Rattle.mps_seg.specs.Collecting.{is_condemned_at}
use Rattle.mps_seg.specs.declared.buffer.Buffer.{Buffer}
use Rattle.mps_amc.specs.Moving.{moved_to, kept_in_place}
use Rattle.mps_amc.specs.Moving as moving
use Rattle.mps_amc.specs.Amc.{AmcState, HasTail, tails_of, placement_of_copy}
use Rattle.mps_amc.specs.Amc as amc
use Rattle.mps_amc.proofs.Tails.{tail_written}
use Rattle.mps_trace.specs.GenState.{ChainsState}
use Rattle.mps_laws.proofs.Positions.Segments.{found_among, of_in_segment}
use Rattle.mps_model.specs.Graph.{Object, entry_at, size_of}
use Rattle.mps_model.specs.World.{World, is_copying_pool, is_copying_object, target_generation_for, address_of}
use Rattle.mps_model.specs.Placement.{ForMove, placement_of}
use Rattle.mps_model.specs.LegalMove.{has_no_room}
use Rattle.mps_abstract.specs.Colours.{IsUnoccupied}
use Rattle.mps_abstract.specs.Collecting.{Collecting, is_white_in}
use Rattle.mps_abstract.specs.Fixing.{new_segment, IsUnused}
use Rattle.mps_trace_laws.specs.Image.Memory.{Setting, pool_layout, words_of_arena, is_condemned_word}
use Rattle.mps_trace_laws.specs.Image.Image.{CellSet, AreShaped}
use Rattle.mps_trace_laws.specs.Image.Fixing.{AreAtHand}
use Rattle.mps_trace_laws.proofs.Image.Copied.{IsMove}
use Rattle.mps_trace.specs.Trace.{Traced, target_of}
use Rattle.mps_trace_laws.specs.Fix.Tracing.{StateStands, TracingStands, setting_of}
use Rattle.mps_trace_laws.specs.Fix.Steps.{IsFixStep}
use Rattle.mps_trace_laws.proofs.Fix.Growing.{IsFree, with_one, grows, over_still, other_grain}
use Rattle.mps_trace_laws.proofs.Fix.Hands.{tail_at_hand, new_at_hand, nothing_there}
use Rattle.mps_trace_laws.proofs.Fix.Objects as objects
use Rattle.mps_trace_laws.proofs.Fix.Copied.{has_still, copied_stands}
use Rattle.mps_trace_laws.proofs.Fix.Staying.{stayed_stands}
use Rattle.mps_trace_laws.proofs.Fix.Grown.{buffer_of, grown_in, grown_stands}
use Rattle.mps_trace_laws.proofs.Fix.Steps.{kept_in, stay_step, move_step, new_step}
use Rattle.mps_format.specs.declared.pool.Policy.{Policy}

-- a tail that is written twice is what was written last
written_twice : (state : AmcState) (pool generation : ℕ) (a c : Buffer) → HasTail state pool generation
    → amc.with_tail (amc.with_tail state pool generation a) pool generation c ≡ amc.with_tail state pool generation c
written_twice state pool generation a c has =
    let rows = state.tails in
    let row = tails_of state pool in
    let own : tails_of (amc.with_tail state pool generation a) pool ≡ slice_set row generation a =
    get_or-set_same rows pool (slice_set row generation a) [] has.pool_listed
    in
    let twice : slice_set (slice_set row generation a) generation c ≡ slice_set row generation c = set-set row generation a c in
    ap (λ r. record { tails = slice_set (slice_set rows pool (slice_set row generation a)) pool (slice_set r generation c) }) own
    ∙ ap (λ r. record { tails = slice_set (slice_set rows pool (slice_set row generation a)) pool r }) twice
    ∙ ap (λ ts. record { tails = ts }) (set-set rows pool (slice_set row generation a) (slice_set row generation c))

module _ (F : Type 0) (layout : F → Layout) (formats : List (Option (Policy F))) (of : ChainsState) (at_flip : List (Option Address))
    (done : CellSet) (x : Traced) (y : Collecting) (shaped : AreShaped y.world.graph.objects (pool_layout y.world))
    (stands : TracingStands layout formats of at_flip done x y) (t : Id) (at : Addr) (o : Object)
    (object : slice_get y.world.graph.objects t ≡ Some o) (automatic : IsTrue (Rattle.mps_model.specs.Graph.is_automatic o))
    (there : entry_at y.world.addresses t ≡ Some at.0) (s : Segment) (over : segment_over x.segs.segments at.0 ≡ Some s)
    (pool : s.pool ≡ o.pool) (condemned : is_condemned_at x.segs at.0 ≡ true) (white : is_white_in y t ≡ true)
    (copying : IsTrue (is_copying_pool y.world o.pool)) where
  abbrev setting : Setting
  setting = setting_of x.segs at_flip y

  abbrev size : ℕ
  size = size_of o

  abbrev generation : ℕ
  generation = target_of of s

  abbrev b : Buffer
  b = amc.tail_of x.amc o.pool generation

  positive : 0 < size
  positive = let sizes = shaped.sizes t o object automatic in omega (arith, sizes.0)

  copies : is_copying_object y.world t ≡ true
  copies = objects.copies y.world t at.0 o object there copying

  aligned : at.0 % 8 ≡ 0
  aligned = (stands.state.image.placed.address t at.0 there).aligned

  over_in_world : segment_over y.world.segments at.0 ≡ Some s
  over_in_world = ap (λ ss. segment_over ss at.0) (sym stands.state.segments.same_segments) ∙ over

  target_is : target_generation_for y.world t ≡ generation
  target_is =
      objects.target_is y.world t at.0 o object there s over_in_world of pool (stands.state.pools.generations_are o.pool copying)

  has : HasTail x.amc o.pool generation
  has =
      subst (λ p. HasTail x.amc o.pool (Rattle.mps_base.specs.Generation.target_generation
      (Rattle.mps_trace.specs.GenState.generations_of of p)
      s.generation)) (sym pool) (stands.state.tails.has o.pool s.generation copying)

  within : word_of at.0 < words_of_arena x.segs.grains
  within =
      let last = stands.state.image.placed.within t 0 o (word_of at.0 + 0)
      (record { at = at.0; address = there; object = object; within = positive; is = refl }) in
      omega (arith, last)

  at_flip_there : entry_at at_flip t ≡ Some at.0
  at_flip_there = stands.state.image.marks.unmoved t at.0 there refl white

  condemned_word : is_condemned_word x.segs (word_of at.0) ≡ true
  condemned_word =
      ap (is_condemned_at x.segs) (let e : address_of_word (word_of at.0) ≡ at.0 = omega (arith, aligned) in e) ∙ condemned

  pub place_is : placement_of y.world (ForMove t) ≡ placement_of_copy x.amc x.segs o.pool generation size
  place_is =
      objects.placed_as y.world t at.0 o object there s over_in_world of pool
      (stands.state.pools.generations_are o.pool copying) x.amc x.segs
      stands.state.segments stands.state.tails.same
      ∙ ap (λ p. placement_of_copy x.amc x.segs p generation size) pool

  -- ---- it stays

  pub stays_there : (moves' : Moves) → has_no_room (placement_of y.world (ForMove t)) ≡ true
      → moves' ≡ Rattle.mps_base.specs.Trail.with_move x.moves (Rattle.mps_base.specs.declared.moves.Move.TheVariants.Stay at)
      → IsFixStep layout formats of at_flip done x (record { amc = x.amc; segs = kept_in_place x.segs at.0; moves = moves' }) y t at.0
  stays_there moves' full trail =
      stay_step layout formats of at_flip done x y stands t at.0 o object there white
      (record { amc = x.amc; segs = kept_in_place x.segs at.0; moves = moves' }) copies full at refl trail
      (stayed_stands F layout formats of at_flip done x.amc x.segs y stands.state t at.0 there within)

  -- ---- it moves to a tail

  module _ (words' : List ℕ) (fits : size ≤ b.count)
      (copied : moving.AreCopied (pool_layout y.world o.pool) x.segs.words words' at.0 (address_of_word b.from) size) where
    abbrev to : Address
    to = address_of_word b.from

    hand : AreAtHand setting y.world.addresses to size o.pool
    hand =
        subst (λ (r : Rattle.mps_base.specs.Run.Run). size ≤ r.count
        → AreAtHand setting y.world.addresses (address_of_word r.from) size o.pool) (sym (stands.state.tails.same o.pool generation))
        (tail_at_hand x.segs stands.state.held y.world.graph.objects y.world.graph.points y.world.point_memories
        (pool_layout y.world) at_flip
        y.running.condemned (λ id. true) y.world.addresses (Rattle.mps_model.specs.World.tail_of y.world) stands.state.hands o.pool
        generation
        size positive) fits

    is_move : IsMove setting y.world.addresses y.colours t at.0 to o
    is_move = record {
      there = there;
      object = object;
      white = white;
      at_flip = at_flip_there;
      condemned = condemned_word;
      hand = hand;
    }

    unoccupied : IsUnoccupied y.world.addresses to
    unoccupied id e =
        let other = stands.state.image.placed.exists id to e in
        let some = stands.state.image.placed.positive id to other.0 e other.1 in
        hand.free 0 id 0 other.0 positive
        (record { at = to; address = e; object = other.1; within = some; is = refl })

    pub moves_there : (moves' : Moves) → placement_of y.world (ForMove t) ≡ Place b.from
        → moves' ≡ Rattle.mps_base.specs.Trail.with_move x.moves
        (Rattle.mps_base.specs.declared.moves.Move.TheVariants.Moved at (record { 0 = to }))
        → IsFixStep layout formats of at_flip done x
        (record {
          amc = amc.with_tail x.amc o.pool generation (record { from = b.from + size; count = b.count - size });
          segs = record (moved_to x.segs at.0 to size) { words = words' };
          moves = moves';
        }) y t to
    moves_there moves' place trail =
        move_step layout formats of at_flip done x y stands t at.0 o object there white
        (record {
          amc = amc.with_tail x.amc o.pool generation (record { from = b.from + size; count = b.count - size });
          segs = record (moved_to x.segs at.0 to size) { words = words' };
          moves = moves';
        }) copies b.from place at refl unoccupied trail
        (copied_stands F layout formats of at_flip done x.amc x.segs y stands.state t at.0 to o generation target_is has fits positive refl
        words'
        (record { long = copied.long; copied = copied.copied; begins = copied.begins; leads = copied.leads; others = copied.others })
        is_move copying)

  -- ---- it moves into a segment that is taken

  module _ (grain : ℕ) (lowest : Rattle.mps_base.specs.Run.lowest_fitting (grains_needed size)
      (Rattle.mps_base.specs.Run.gaps 1 (x.segs.grains + 1) (Rattle.mps_seg.specs.Segs.held_runs x.segs)) ≡ Some grain) (words' : List ℕ)
      (copied : moving.AreCopied (pool_layout y.world o.pool) x.segs.words words' at.0 (address_of_grain grain) size) where
    abbrev base : Address
    base = address_of_grain grain

    abbrev u : Segment
    u = record { base = base; grains = grains_needed size; pool = o.pool; generation = generation; rank = Exact }

    grain_is : grain_of base ≡ grain
    grain_is = omega arith

    free : IsFree x.segs u
    free = record { some = omega (arith, positive); aligned = omega arith; fits = lowest ∙ ap (λ n. Some n) (sym grain_is) }

    abbrev one : SegsState
    one = with_one x.segs u

    abbrev grown : Collecting
    grown = grown_in y u

    new_hand : AreAtHand (setting_of one at_flip grown) y.world.addresses base size o.pool
    new_hand =
        new_at_hand x.segs stands.state.held y.world.graph.objects y.world.graph.points y.world.point_memories (pool_layout y.world) at_flip
        y.running.condemned (λ id. true) y.world.addresses stands.state.tables stands.state.image.placed stands.state.reserved u free size
        positive (omega arith)

    new_move : IsMove (setting_of one at_flip grown) y.world.addresses y.colours t at.0 base o
    new_move = record {
      there = there;
      object = object;
      white = white;
      at_flip = at_flip_there;
      condemned = (grows x.segs stands.state.held stands.state.tables u free).condemned (word_of at.0) ∙ condemned_word;
      hand = new_hand;
    }

    over_grown : segment_over grown.world.segments at.0 ≡ Some s
    over_grown =
        let e : at.0 ≡ address_of_word (word_of at.0) = omega (arith, aligned) in
        ap (λ ss. segment_over (Rattle.mps_base.specs.Segment.with_segment u ss) at.0) (sym stands.state.segments.same_segments)
        ∙ ap (segment_over one.segments) e
        ∙ over_still x.segs stands.state.held stands.state.tables u free (word_of at.0) s
        (ap (segment_over x.segs.segments) (sym e) ∙ over)

    new_target : target_generation_for grown.world t ≡ generation
    new_target =
        objects.target_is grown.world t at.0 o object there s over_grown of pool (stands.state.pools.generations_are o.pool copying)

    abbrev whole : AmcState
    whole = amc.with_tail x.amc o.pool generation (buffer_of u)

    whole_tail : amc.tail_of whole o.pool generation ≡ buffer_of u
    whole_tail = tail_written x.amc o.pool generation (buffer_of u) has

    abbrev rest_after : AmcState → AmcState
    rest_after state = amc.with_tail state o.pool generation (record {
      from = Rattle.mps_base.specs.Address.words_of_grain * grain + size;
      count = Rattle.mps_base.specs.Address.words_of_grain * grains_needed size - size;
    })

    rest_is : amc.with_tail whole o.pool generation (record {
      from = (amc.tail_of whole o.pool generation).from + size;
      count = (amc.tail_of whole o.pool generation).count - size;
    }) ≡ rest_after x.amc
    rest_is =
        ap (λ (c : Buffer). amc.with_tail whole o.pool generation (record { from = c.from + size; count = c.count - size })) whole_tail
        ∙ ap (λ n. amc.with_tail whole o.pool generation (record {
          from = n + size;
          count = Rattle.mps_base.specs.Address.words_of_grain * grains_needed size - size;
        })) (let e : word_of base ≡ Rattle.mps_base.specs.Address.words_of_grain * grain = omega arith in e)
        ∙ written_twice x.amc o.pool generation (buffer_of u) (record {
          from = Rattle.mps_base.specs.Address.words_of_grain * grain + size;
          count = Rattle.mps_base.specs.Address.words_of_grain * grains_needed size - size;
        }) has

    new_state : StateStands layout formats of at_flip done (rest_after x.amc) (record (moved_to one at.0 base size) { words = words' })
        (kept_in y t (Rattle.mps_model.specs.Effect.after_moved grown.world t base))
    new_state =
        subst (λ a. StateStands layout formats of at_flip done a (record (moved_to one at.0 base size) { words = words' })
        (kept_in y t (Rattle.mps_model.specs.Effect.after_moved grown.world t base))) rest_is
        (copied_stands F layout formats of at_flip done whole one grown
        (grown_stands F layout formats of at_flip done x.amc x.segs y stands.state u refl free has) t at.0 base o generation new_target
        (has_still x.amc o.pool generation (buffer_of u) has o.pool generation has)
        (let long : (amc.tail_of whole o.pool generation).count ≡ 512 * grains_needed size = ap (λ (c : Buffer). c.count) whole_tail in
        omega (arith, long)) positive
        (let first : (amc.tail_of whole o.pool generation).from ≡ word_of base = ap (λ (c : Buffer). c.from) whole_tail in
        omega (arith, first)) words'
        (record { long = copied.long; copied = copied.copied; begins = copied.begins; leads = copied.leads; others = copied.others })
        new_move copying)

    -- nothing is there yet
    not_held : (v : Option Segment) → find (λ (w : Segment). w.base == base) y.world.segments ≡ v → v ≡ None
    not_held None e = refl
    not_held (Some v) e =
        let among = found_among (λ (w : Segment). w.base == base) y.world.segments v e in
        absurd (other_grain x.segs stands.state.held stands.state.tables u free v
        (subst (Rattle.mps_laws.proofs.Positions.Segments.IsAmong v) (sym stands.state.segments.same_segments) among.0)
        (ap grain_of (eqb-true v.base base among.1)))

    none_inside : (id : Id) (a : Address) → address_of y.world id ≡ Some a
        → is_in_segment (new_segment y.world t grain (grains_needed size)) a ≡ false
    none_inside id a e =
        let v = new_segment y.world t grain (grains_needed size) in
        elim (cases_Bool (is_in_segment v a)) [
          | inr outside ↦ outside
          | inl inside ↦
              let other = stands.state.image.placed.exists id a e in
              let some = stands.state.image.placed.positive id a other.0 e other.1 in
              let words = (stands.state.image.placed.address id a e).aligned in
              let covers : Covers (words_of_segment u) (word_of a) =
              of_in_segment v (word_of a) (omega arith)
              (ap (is_in_segment v) (let z : address_of_word (word_of a) ≡ a = omega (arith, words) in z) ∙ inside)
              in
              absurd (nothing_there x.segs stands.state.held y.world.graph.objects y.world.graph.points y.world.point_memories
              (pool_layout y.world) at_flip y.running.condemned (λ id. true) y.world.addresses stands.state.tables
              stands.state.image.placed stands.state.reserved u free (word_of a) other.0.pool covers
              (stands.state.image.placed.home id 0 other.0 (word_of a)
              (record { at = a; address = e; object = other.1; within = some; is = omega arith })))
        ]

    unused : IsUnused y.world (new_segment y.world t grain (grains_needed size))
    unused = record {
      not_held = not_held (find (λ (w : Segment). w.base == base) y.world.segments) refl;
      unoccupied = λ id e.
          let other = stands.state.image.placed.exists id base e in
          let some = stands.state.image.placed.positive id base other.0 e other.1 in
          new_hand.free 0 id 0 other.0 positive (record { at = base; address = e; object = other.1; within = some; is = refl });
      no_object = none_inside;
    }

    pub new_there : (moves' : Moves) → placement_of y.world (ForMove t) ≡ NewSegment grain (grains_needed size)
        → moves' ≡ Rattle.mps_base.specs.Trail.with_move (Rattle.mps_base.specs.Trail.with_move x.moves
        (Rattle.mps_base.specs.declared.moves.Move.TheVariants.Seg (record { 0 = base }) (grains_needed size) o.pool generation))
        (Rattle.mps_base.specs.declared.moves.Move.TheVariants.Moved at (record { 0 = base }))
        → IsFixStep layout formats of at_flip done x
        (record { amc = rest_after x.amc; segs = record (moved_to one at.0 base size) { words = words' }; moves = moves' }) y t base
    new_there moves' place trail =
        new_step layout formats of at_flip done x y stands t at.0 o object there white o.pool generation grain (grains_needed size)
        (objects.pool_is y.world t at.0 o object there) target_is copying
        (record { amc = rest_after x.amc; segs = record (moved_to one at.0 base size) { words = words' }; moves = moves' }) copies place at
        refl unused trail new_state
