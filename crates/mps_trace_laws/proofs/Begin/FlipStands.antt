-- Right after a flip the state in words stands for the abstract collector.
use Rattle.std.proofs.Common.{◌≡◌, ◌∙◌, ℕ, ◌+◌, ◌≤◌, Bool, false, List, [], ◌∷◌, ◌++◌, length, map, Contains, Option, sym, ap, subst, append-nil, arith}
use Rattle.std.proofs.lemmas.Option.{same_Some}
use Rattle.std.proofs.lemmas.List.{length-map}
use Rattle.std.proofs.lemmas.List.Sums.{count_by-le-length, length-filter}
use Rattle.std.specs.Prelude.{◌||◌, filter, nat_le, option_map}
use Rattle.std.specs.List.{AllByRecursion}
use Rattle.mps_base.specs.Address.{address_of_grain, address_of_word, grain_of, max_grains}
use Rattle.mps_base.specs.Run.{Run, IsAscending, in_order}
use Rattle.mps_base.specs.Segment.{Segment, grains_of_segment, segment_over}
use Rattle.mps_base.specs.Trail.{Moves}
use Rattle.mps_base.specs.declared.moves.Move.{Move}
use Rattle.mps_format.specs.Layout.{Layout}
use Rattle.mps_buffer.specs.Points.{PointsState}
use Rattle.mps_root.specs.State.{RootsState}
use Rattle.mps_seg.specs.Segs.{SegsState}
use Rattle.mps_seg.specs.Collecting.{summary_at}
use Rattle.mps_format.specs.declared.pool.Policy.{Policy}
use Rattle.mps_trace.specs.Begin.{marked_at_flip, nailed_by_areas}
use Rattle.mps_trace.specs.Flip.{may_refer, remembered_of, zones_at_flip}
use Rattle.mps_trace.specs.GenState.{ChainsState}
use Rattle.mps_trace.specs.declared.condemn.Condemn.{Condemn}
use Rattle.mps_trace.specs.declared.condemn.Condemn.TheVariants.{Everything, Generations}
use Rattle.mps_trace.specs.Trace.{TraceState, Traced, traced}
use Rattle.mps_model.specs.Effect.{doomed, is_condemned_by, without_buffer}
use Rattle.mps_model.specs.World.{World, area_words, extents_of, is_copying_pool}
use Rattle.mps_abstract.specs.Collecting.{Collecting}
use Rattle.mps_abstract.specs.FlipLaws.{AreRemembered}
use Rattle.mps_abstract.proofs.FlipActs.Remembered.{remembered_is_enough}
use Rattle.mps_abstract.proofs.HeldSegments.{among_filtered}
use Rattle.mps_trace_laws.specs.Image.Image.{ImageStands, black_cells}
use Rattle.mps_trace_laws.specs.Image.Memory.{Setting, is_condemned_word, memory_in, words_of_arena}
use Rattle.mps_trace_laws.specs.Fix.Tracing.{AreSegmentsOf, AreHeld, HasTables, AreCondemnedAt, AreCoveredInOrder, StateStands, setting_of}
use Rattle.mps_trace_laws.specs.Fix.Room.{moves_left}
use Rattle.mps_trace_laws.specs.Fix.Housed.{AreHoused}
use Rattle.mps_trace_laws.specs.Flip.Reservations.{AreNoneLive}
use Rattle.mps_trace_laws.proofs.Flip.Reservations.{no_reservation_is_live}
use Rattle.mps_trace_laws.specs.Units.Standing.{AreObjectsKnown}
use Rattle.mps_trace_laws.specs.Nails.Flipped.{setting_flipped_in}
use Rattle.mps_trace_laws.specs.Nails.Nailed.{AreWordsShown, AreMarkedTo, is_moving_word, nails, words_of_areas}
use Rattle.mps_trace_laws.proofs.Fix.Hands.{contains_among}
use Rattle.mps_trace_laws.proofs.Fix.NewTail.{among_contains}
use Rattle.mps_trace_laws.proofs.Nails.Remembered.{AreGreyToo, begins_in, each_ranked}
use Rattle.mps_trace_laws.proofs.Units.Entering.{held_in_order}
use Rattle.mps_trace_laws.specs.Flip.Condemned.{condemnation}
use Rattle.mps_trace_laws.specs.Begin.Before.{StandsBefore}
use Rattle.mps_trace_laws.specs.Begin.Condemning.{MayCondemn, collecting_at_flip, remembered_in}
use Rattle.mps_trace_laws.proofs.Begin.CondemnedIds.{kind_is}
use Rattle.mps_trace_laws.specs.Begin.Begun.{AFlipStands, IsFlipStanding}
use Rattle.mps_trace_laws.proofs.Begin.MovesAtFlip.{moves_at_flip}
use Rattle.mps_trace_laws.proofs.Begin.FlippedImage.{resting, image_marked, marked, now}
use Rattle.mps_trace_laws.proofs.Begin.FlippedSegments.{segments_flipped, bit_is, is_held, models, moved, condemns, ranked}
use Rattle.mps_trace_laws.proofs.Begin.NothingAtHand.{tails_are_empty, empty_tails_stand}
use Rattle.mps_trace_laws.proofs.Begin.RankedNails.{ranked_areas}

-- the same grains and segments are held as well
held_alike : (s after : SegsState) → after.grains ≡ s.grains → after.segments ≡ s.segments → AreHeld s → AreHeld after
held_alike s after grains segments held = record {
  small = subst (λ (n : ℕ). n ≤ max_grains) (sym grains) held.small;
  aligned = subst (AllByRecursion (λ (t : Segment). address_of_grain (grain_of t.base) ≡ t.base)) (sym segments) held.aligned;
  ascending = subst (λ (n : ℕ). IsAscending 1 (n + 1) (map grains_of_segment after.segments)) (sym grains)
      (subst (λ (ts : List Segment). IsAscending 1 (s.grains + 1) (map grains_of_segment ts)) (sym segments) held.ascending);
}

-- there are no more that pass a test
no_more_pass : (p : Segment → Bool) (ts : List Segment) → length (map (λ (t : Segment). t.base) (filter p ts)) ≤ length ts
no_more_pass p ts =
    let bases = length-map (filter p ts) (λ (t : Segment). t.base) in
    let passing = length-filter p ts in
    let most = count_by-le-length p ts in
    omega (arith, bases, passing, most)

-- what is remembered is held
filtered_held : (p : Segment → Bool) (ts : List Segment) (u : Segment) → Contains (filter p ts) u → Contains ts u
filtered_held p ts u there = among_contains ts u (among_filtered p u ts (contains_among (filter p ts) u there)).0

remembered_held : {F : Type 0} (formats : List (Option (Policy F))) (chains : ChainsState) (what : Condemn) (s : SegsState) (u : Segment)
    → Contains (remembered_of formats chains what s) u → Contains s.segments u
remembered_held formats chains Everything s u (k, within, is) = absurd (omega (arith, within))
remembered_held formats chains (Generations chain oldest) s u there =
    filtered_held (may_refer formats chains (Generations chain oldest) (zones_at_flip formats chains (Generations chain oldest)
    s.segments) s)
    s.segments u there

module _ {F : Type 0} (layout : F → Layout) (t : TraceState F) (s : SegsState) (m : Moves) (points : PointsState) (roots : RootsState)
    (w : World) (what : Condemn) (b : StandsBefore layout t s m points w) (may : MayCondemn t s w what)
    (shown : AreWordsShown (words_of_areas roots.areas) (area_words w)) where
  abbrev y : Collecting
  y = collecting_at_flip s w what

  abbrev g : SegsState
  g = segments_flipped layout t s m points w what b may

  abbrev z : Traced
  z = marked_at_flip t.formats t.chains what points roots (traced t s m)

  -- ---- nails and what is remembered change marks alone

  abbrev after_nails : SegsState
  after_nails = nailed_by_areas t.formats roots.areas g

  abbrev these : List Segment
  these = remembered_of t.formats t.chains what s

  nailed : AreMarkedTo g after_nails
      (λ n. nails g.blocks (is_condemned_word g) (is_moving_word t.formats g) (words_of_areas roots.areas) n || false)
  nailed = now layout t s m points w what b may roots.areas shown

  grey : AreGreyToo after_nails z.segs (begins_in after_nails.blocks these)
  grey = marked layout t s m points w what b may roots.areas shown

  pub same : z.segs ≡ record g { marks = z.segs.marks }
  same = grey.same ∙ ap (λ (x : SegsState). record x { marks = z.segs.marks }) nailed.same

  pub same_grains : z.segs.grains ≡ s.grains
  same_grains = ap (λ (x : SegsState). x.grains) same ∙ (moved layout t s m points w what b may).grains

  pub same_segments : z.segs.segments ≡ s.segments
  same_segments = ap (λ (x : SegsState). x.segments) same ∙ (condemns layout t s m points w what b may).segments

  pub none_live : AreNoneLive y.world.graph.points y.world.point_memories
  none_live = no_reservation_is_live w.graph.points w.point_memories

  -- ---- the image

  -- the setting with a size and segments
  abbrev with_segments : (grains : ℕ) → List Segment → Setting
  with_segments grains ts = record (setting_of g w.addresses y) {
    size = words_of_arena grains;
    pool_over = λ n. option_map (λ (u : Segment). u.pool) (segment_over ts (address_of_word n));
  }

  abbrev setting_after : Setting
  setting_after =
      setting_flipped_in (resting layout t s m points w what b may) g w.addresses
      (map doomed w.graph.points) (map without_buffer w.point_memories)
      y.running.condemned

  setting_is : setting_of z.segs w.addresses y ≡ setting_after
  setting_is =
      ap (λ (x : SegsState). setting_of x w.addresses y) same
      ∙ ap (λ (n : ℕ). with_segments n g.segments) (moved layout t s m points w what b may).grains
      ∙ ap (λ (ts : List Segment). with_segments s.grains ts) (condemns layout t s m points w what b may).segments

  pub image : ImageStands (setting_of z.segs w.addresses y) (memory_in z.segs) w.addresses y.colours
      (black_cells y.running.condemned y.colours)
  image =
      subst (λ (x : Setting). ImageStands x (memory_in z.segs) w.addresses y.colours (black_cells y.running.condemned y.colours))
      (sym setting_is) (image_marked layout t s m points w what b may roots.areas shown)

  -- ---- segments

  segments_are : AreSegmentsOf z.segs w.grains w.limit w.segments
  segments_are = record {
    same_grains = same_grains ∙ b.segments.segments.same_grains;
    same_limit =
        ap (λ (x : SegsState). x.limit) same ∙ (moved layout t s m points w what b may).limit ∙ b.segments.segments.same_limit;
    same_segments = same_segments ∙ b.segments.segments.same_segments;
  }

  tables : HasTables z.segs
  tables =
      let sizes = grey.whole.sizes in
      record { kept = sizes.kept_size; exact = sizes.exact_size; weak = sizes.weak_size; condemned = sizes.condemned_size }

  -- blocks alone are covered
  covered : AreCoveredInOrder z.segs
  covered =
      let extents : List Run = extents_of w.graph.objects w.addresses in
      subst (IsAscending 0 (words_of_arena z.segs.grains))
      (sym (image.runs.covered ∙ ap (λ (rs : List Run). in_order (extents ++ rs)) none_live.extents ∙ ap in_order (append-nil extents)
      ∙ sym image.runs.blocks))
      grey.whole.order

  condemned : AreCondemnedAt z.segs y.running.condemned_segments
  condemned =
      subst (λ (x : SegsState). AreCondemnedAt x y.running.condemned_segments) (sym same)
      (record { is_bit = bit_is layout t s m points w what b may; is_held = is_held layout t s m points w what b may })

  -- ---- all of it

  state : StateStands layout t.formats t.chains w.addresses (black_cells y.running.condemned y.colours) z.amc z.segs y
  state = record {
    segments = segments_are;
    held = held_alike s z.segs same_grains same_segments b.segments.held;
    tables = tables;
    covered = covered;
    reserved = λ point l r n lies. absurd (none_live.not_live point r lies.reserved);
    condemned = condemned;
    image = image;
    pools = b.pools.pools;
    collected = λ id o object is. kind_is layout t s m points w b id o object ∙ is;
    still = λ id o from to object stays before now. same_Some from to (sym before ∙ now);
    tails = tails_are_empty t.chains t.amc (is_copying_pool w) b.pools.tails;
    hands = empty_tails_stand (setting_of z.segs w.addresses y) z.segs.segments w.addresses;
  }

  told : AreRemembered y (remembered_in s w what)
  told = remembered_is_enough w (condemnation what) (summary_at s) b.objects.rest may.refers

  room : moves_left y + 2 ≤ z.moves.spare
  room =
      let objects = moves_at_flip w (condemnation what) (remembered_in s w what) told in
      let listed = count_by-le-length (nat_le 0) y.running.condemned_segments in
      let held = no_more_pass (is_condemned_by y.world (condemnation what)) w.segments in
      let before = b.room in
      omega (arith, objects, listed, held, before)

  moving : AreObjectsKnown layout t.formats t.chains y.world
  moving = record {
    shaped = b.objects.shaped;
    pools = b.pools.pools;
    strong_moving = b.objects.strong_moving;
    none_dependent = b.objects.none_dependent;
  }

  pub standing : IsFlipStanding layout t s m w what z
  standing = record {
    traces = record { state = state; room = room };
    housed = subst (λ (ts : List Segment). AreHoused w.graph.objects ts w.addresses) (sym same_segments)
        b.segments.housed;
    ranked =
        each_ranked s.segments (held_in_order s b.segments.held) these after_nails
        (ap (λ (x : SegsState). x.segments) nailed.same ∙ (condemns layout t s m points w what b may).segments)
        (remembered_held t.formats t.chains what s)
        (ranked_areas t.formats roots.areas g (ranked layout t s m points w what b may));
    moving = moving;
    unreserved = λ u there is copying point l r n lies. absurd (none_live.not_live point r lies.reserved);
    trail = ap (λ (move : Move). m.moves ++ move ∷ []) (models layout t s m points w what b may).move;
  }

pub flip_stands : {F : Type 0} → AFlipStands F
flip_stands layout t s m points roots w what b may shown some = standing layout t s m points roots w what b may shown
