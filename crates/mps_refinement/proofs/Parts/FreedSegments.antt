-- The segments after a manual block is freed stand for the words that are left, whether its segment is given back or not.
use Rattle.std.specs.Prelude.{IsTrue}
use Rattle.std.proofs.Common.{◌≡◌, ◌∙◌, ℕ, ◌+◌, ◌*◌, Bool, true, false, refl, sym, ap, subst, List, [], ◌∷◌, map, Option, Some, None, inl, inr, arith, ◌⊎◌, ◌<◌}
use Rattle.std.proofs.lemmas.Bool.{cases_lt, false≢true, le-leb, lt-leb, lt-ltb, le-ltb, ltb-true, ne_eqb, and_parts, cases_Bool, cases_eq, leb-true}
use Rattle.std.proofs.lemmas.Option.{none-some, same_Some}
use Rattle.std.specs.Prelude.{◌==◌, ◌&&◌, ◌||◌, not, nat_le, nat_lt, slice_get, slice_set, option_map, if◌then◌else◌, ◌≢◌}
use Rattle.std.specs.List.{list_any}
use Rattle.std.specs.Option.{option_map_or}
use Rattle.mps_refinement.specs.StandsFor.{Time}
use Rattle.mps_format.specs.Layout.{IsLawful}
use Rattle.mps_model.specs.Graph.{Reservation, ReferenceCell}
use Rattle.mps_model.specs.WellFormed.{is_right_object}
use Rattle.mps_trace_laws.specs.Image.Memory.{live_reservation}
use Rattle.std.specs.List.{list_all}
use Rattle.mps_base.specs.Address.{Address, Id, Word, word_of, address_of_word, grain_of}
use Rattle.mps_base.specs.Run.{Run, Covers, runs_within}
use Rattle.mps_base.specs.Segment.{Segment, end_of_segment, segment_over, without_segment, words_of_segment, is_in_segment}
use Rattle.mps_format.specs.Layout.{Layout}
use Rattle.mps_trace_laws.specs.Image.ArenaLaws.{AreSegmentsKept}
use Rattle.mps_trace_laws.specs.Image.Image.{black_cells}
use Rattle.mps_trace_laws.specs.Image.Memory.{Lies, Setting, is_condemned_word, memory_in, pool_over_word}
use Rattle.mps_trace_laws.proofs.Image.ArenaLaws.{segments_change}
use Rattle.mps_trace_laws.proofs.Image.ClientLaws.{manual_block_is_freed}
use Rattle.mps_trace_laws.proofs.Image.SegmentMarks.{removing_clears}
use Rattle.mps_trace_laws.proofs.Image.Shaped.{are_shaped_objects}
use Rattle.mps_laws.proofs.Positions.LegalMoves.{HasLayout}
use Rattle.mps_laws.proofs.Lookups.{entry_at-set_other}
use Rattle.mps_laws.proofs.Positions.Occupancy.{OfBlock, occupancy_of, shape_of}
use Rattle.mps_laws.proofs.Positions.Segments.{IsAligned, IsAmong, among_without, found_segment, all_without, among_aligned, among_kept, ascending_without, found_among, same_by_base}
use Rattle.mps_laws.proofs.Sound.SoundGraph.{auto}
use Rattle.mps_pools.specs.Manual.{any_size, block_removed, segs_after_free, given_back, is_none, is_unused}
use Rattle.mps_model.specs.Graph.{Object, entry_at, is_automatic, is_automatic_body, size_of}
use Rattle.mps_model.specs.World as world
use Rattle.mps_model.specs.World.{World, OneSize, AnySize, begins_in, is_any_size_kind, is_automatic_kind, is_copying_object, is_copying_pool}
use Rattle.mps_model.specs.Effect.{with_address}
use Rattle.mps_seg.specs.Segs.{SegsState}
use Rattle.mps_format.specs.Pools.{size_of_pool}
use Rattle.mps_format.specs.declared.pool.Pool.{Pool}
use Rattle.mps_format.specs.declared.pool.Pool.TheVariants as pool
use Rattle.mps_refinement.specs.StandsFor.{IsPool, StandsAt, setting_at, AreOfFlip}
use Rattle.mps_refinement.proofs.Parts.BlockParts.{world_with_blocks}
use Rattle.mps_refinement.proofs.Lookups.ManualBlocks.{IsBlock}
use Rattle.mps_refinement.proofs.Worlds.PlacedOnce.{is_sized}
use Rattle.mps_refinement.proofs.Parts.ReservedImage.{block_covers}
use Rattle.mps_seg.specs.Collecting.{bit_of}
use Rattle.mps_laws.proofs.Entries.{entry_at-written}

-- ---- whether a segment is given back

-- whether a run begins in a segment, by words and by bytes
begins_alike : (t : Segment) → IsAligned t → (r : Run)
    → (nat_le (word_of t.base) r.from && nat_lt r.from (word_of (end_of_segment t))) ≡ begins_in t r
begins_alike t aligned r = ap (λ b. b && nat_lt r.from (word_of (end_of_segment t))) low ∙ ap (λ b. nat_le t.base (8 * r.from) && b) high
  where
    low : nat_le (word_of t.base) r.from ≡ nat_le t.base (8 * r.from)
    low = elim (cases_lt r.from (word_of t.base)) [
      | inl before ↦ lt-leb (word_of t.base) r.from before ∙ sym (lt-leb t.base (8 * r.from) (omega (arith, before, aligned)))
      | inr after ↦ le-leb (word_of t.base) r.from after ∙ sym (le-leb t.base (8 * r.from) (omega (arith, after, aligned)))
    ]

    high : nat_lt r.from (word_of (end_of_segment t)) ≡ nat_lt (8 * r.from) (end_of_segment t)
    high = elim (cases_lt r.from (word_of (end_of_segment t))) [
      | inl before ↦
          lt-ltb r.from (word_of (end_of_segment t)) before ∙ sym (lt-ltb (8 * r.from) (end_of_segment t) (omega (arith, before, aligned)))
      | inr after ↦
          le-ltb r.from (word_of (end_of_segment t)) after ∙ sym (le-ltb (8 * r.from) (end_of_segment t) (omega (arith, after, aligned)))
    ]

-- nothing is left in a segment, for the segments and for the model
unused_alike : (t : Segment) → IsAligned t → (covered : List Run) → is_unused covered t ≡ not (list_any (begins_in t) covered)
unused_alike t aligned [] = refl
unused_alike t aligned (r ∷ rs) =
    ap (λ b. is_none (if b then r ∷ runs_within (word_of t.base) (word_of (end_of_segment t)) rs
    else runs_within (word_of t.base) (word_of (end_of_segment t)) rs)) (begins_alike t aligned r)
    ∙ elim (begins_in t r) as (λ b. is_none (if b then r ∷ runs_within (word_of t.base) (word_of (end_of_segment t)) rs
    else runs_within (word_of t.base) (word_of (end_of_segment t)) rs) ≡ not (b || list_any (begins_in t) rs)) [
      | true ↦ refl
      | false ↦ unused_alike t aligned rs
    ]

-- a manual pool has blocks of any sizes exactly where its size is so
pub any_size_alike : {F : Type 0} (layout : F → Layout) (formats : ℕ → Layout) (p : Pool F) (q : world.Pool) → IsPool layout formats p q
    → is_automatic_kind q.kind ≡ false → is_sized q.kind ≡ true → (size_of_pool p == any_size) ≡ is_any_size_kind q.kind
any_size_alike layout formats (pool.Automatic kind format) q is manual sized =
    absurd (false≢true (sym manual ∙ ap (λ (x : world.Pool). is_automatic_kind x.kind) is.0))
any_size_alike layout formats (pool.OneSize words) q is manual sized =
    let kind : q.kind ≡ OneSize words = ap (λ (x : world.Pool). x.kind) is in
    not_any (sym (ap is_sized kind) ∙ sized) ∙ sym (ap is_any_size_kind kind)
  where
    not_any : nat_lt 0 words ≡ true → (words == any_size) ≡ false
    not_any some = ne_eqb words 0
        (λ e. let low = ltb-true 0 words some in omega (arith, e, low))
any_size_alike layout formats pool.AnySize q (inl is) manual sized = sym (ap (λ (x : world.Pool). is_any_size_kind x.kind) is)
any_size_alike layout formats pool.AnySize q (inr is) manual sized = sym (ap (λ (x : world.Pool). is_any_size_kind x.kind) is)

-- ---- the segments

-- the segments after a block is freed, whose segment is given back or not
abbrev pub segments_freed : SegsState → (at : Address) → Segment → (given : Bool) → SegsState
segments_freed s at t given =
    if given then record (block_removed s at) { segments = without_segment s.segments t.base } else block_removed s at

pub freed_is : (size : ℕ) (s : SegsState) (at : Address) (t : Segment) → segment_over s.segments at ≡ Some t
    → segs_after_free size s at ≡ segments_freed s at t (size == any_size && is_unused (block_removed s at).covered t)
freed_is size s at t over =
    elim (size == any_size) as (λ b. (if b then given_back (block_removed s at) (segment_over s.segments at) else block_removed s at)
    ≡ segments_freed s at t (b && is_unused (block_removed s at).covered t)) [
      | true ↦ ap (given_back (block_removed s at)) over
      | false ↦ refl
    ]

-- of a world: its objects are right and its formats lawful, and open reservations refer to automatic objects
pub record HasShapes (w : World) : Type 0 where
  pub right : IsTrue (list_all (is_right_object w) w.graph.objects)
  pub lawful : (number : ℕ) → IsLawful (w.formats number)
  pub reserved : (point i : ℕ) (r : Reservation) (u tag : ℕ) → live_reservation (entry_at w.graph.points point) ≡ Some r
      → slice_get r.cells i ≡ Some (ReferenceCell (Some u) tag)
      → (q : Object) × (slice_get w.graph.objects u ≡ Some q) × IsTrue (is_automatic q)

module _ (time : Time) (s : SegsState) (w : World) (image : StandsAt time s w) (segments_are : s.segments ≡ w.segments)
    (shapes : HasShapes w) (of_flip : AreOfFlip time.at_flip w) (at : Address) (id : Id) (b : IsBlock w at id) where
  manual : is_automatic b.object ≡ false
  manual = ap is_automatic_body b.right.body

  pub not_automatic : auto w id ≡ false
  not_automatic = ap (λ o. option_map_or is_automatic o false) b.there ∙ manual

  abbrev addresses_after : List (Option Address)
  addresses_after = slice_set w.addresses id None

  -- the words without the block
  pub image_removed : StandsAt time (block_removed s at) (with_address w id None)
  image_removed =
      let clears = removing_clears s at in
      manual_block_is_freed (setting_at time s w) (memory_in s) w.addresses time.colours id at b.object
      (memory_in (block_removed s at)).kept (memory_in (block_removed s at)).grey image
      (are_shaped_objects w shapes.lawful shapes.right)
      shapes.reserved b.address b.there manual clears.0 clears.1

  -- whether its segment is given back is the same in both
  pub unused_is : (t : Segment) → IsAligned t
      → is_unused (block_removed s at).covered t ≡ world.is_empty_segment (with_address w id None) t
  unused_is t aligned =
      ap (λ rs. is_unused rs t) image_removed.runs.covered ∙ unused_alike t aligned (world.covered (with_address w id None))

  -- automatic objects stay where they are
  pub still : (j : Id) → auto w j ≡ true → entry_at addresses_after j ≡ entry_at w.addresses j
  still j is =
      entry_at-set_other w.addresses id j None (λ same. false≢true (sym not_automatic ∙ ap (auto w) same ∙ is))

  -- what has an address after it had it before
  still_there : (j : Id) (to : Address) → entry_at addresses_after j ≡ Some to → entry_at w.addresses j ≡ Some to
  still_there j to f =
      elim (cases_eq j id) [
        | inl same ↦
            absurd (none-some to (sym (entry_at-written w.addresses id at None b.address)
            ∙ ap (entry_at addresses_after) (sym same) ∙ f))
        | inr apart ↦ sym (entry_at-set_other w.addresses id j None (λ same. apart (sym same))) ∙ f
      ]

  -- so what is known of the addresses at the flip stays true
  pub flip_after : (places : List (List (Option ℕ))) (segments : List Segment) → AreOfFlip time.at_flip w
      → AreOfFlip time.at_flip (world_with_blocks w w.graph.objects addresses_after places segments)
  flip_after places segments of = record {
    made = of.made;
    still = λ j from to moves was now. of.still j from to moves was (still_there j to now);
  }

  -- the segment over a word of a block stays, where it isn't given back
  pub over_still : (base : Address) (v : World) → v.segments ≡ without_segment w.segments base → v.graph.objects ≡ w.graph.objects
      → v.addresses ≡ addresses_after → HasLayout (w.grains + 1) w → HasLayout (v.grains + 1) v → (j k : ℕ) (o : Object) (n : Word)
      → Lies w.graph.objects addresses_after j k o n
      → segment_over (without_segment s.segments base) (address_of_word n) ≡ segment_over s.segments (address_of_word n)
  over_still base v segments objects addresses laid after j k o n l =
      let c = block_covers (occupancy_of v) w.graph.objects addresses_after j k o n
      (ap (map shape_of) objects) addresses l in
      let home = after.placed.homes (OfBlock j) (omega (arith, c.0, c.1)) in
      let inside : Covers (words_of_segment home.segment) n = (omega (arith, home.above, c.0), omega (arith, home.below, c.1)) in
      let here : segment_over v.segments (address_of_word n) ≡ Some home.segment =
      found_segment 1 (v.grains + 1) v.segments home.segment after.ascending after.aligned home.held n inside in
      let before : segment_over w.segments (address_of_word n) ≡ Some home.segment =
      found_segment 1 (w.grains + 1) w.segments home.segment laid.ascending laid.aligned
      (among_without base home.segment w.segments (subst (IsAmong home.segment) segments home.held)) n inside in
      ap (λ ss. segment_over (without_segment ss base) (address_of_word n)) segments_are
      ∙ ap (λ ss. segment_over ss (address_of_word n)) (sym segments) ∙ here ∙ sym before
      ∙ ap (λ ss. segment_over ss (address_of_word n)) (sym segments_are)

  -- the segment over an old word of a block that has moved stays too: it isn't of this pool
  old_over : (t : Segment) → IsAmong t w.segments → is_copying_pool w t.pool ≡ false → HasLayout (w.grains + 1) w
      → (j : Id) (from to : Address) (o : Object) (k : ℕ) → entry_at time.at_flip j ≡ Some from → entry_at w.addresses j ≡ Some to
      → from ≢ to → slice_get w.graph.objects j ≡ Some o → k < size_of o
      → segment_over (without_segment s.segments t.base) (address_of_word (word_of from + k))
      ≡ segment_over s.segments (address_of_word (word_of from + k))
  old_over t held not_copying laid j from to o k was now apart there low =
      let n = word_of from + k in
      let home = (image.words.forwarded j from to o was now apart there).home k low in
      of_one n (segment_over s.segments (address_of_word n)) refl home
    where
      copying : is_copying_pool w o.pool ≡ true
      copying = of_bool (cases_Bool (is_copying_object w j))
        where
          of_bool : (is_copying_object w j ≡ true) ⊎ (is_copying_object w j ≡ false) → is_copying_pool w o.pool ≡ true
          of_bool (inl is) = sym (ap (λ x. option_map_or (λ (y : Object). is_copying_pool w y.pool) x false) there) ∙ is
          of_bool (inr isnt) = absurd (apart (of_flip.still j from to isnt was now))

      of_one : (n : Word) (x : Option Segment) → segment_over s.segments (address_of_word n) ≡ x
          → option_map (λ (u : Segment). u.pool) x ≡ Some o.pool
          → segment_over (without_segment s.segments t.base) (address_of_word n)
          ≡ segment_over s.segments (address_of_word n)
      of_one n None e pool = absurd (none-some o.pool pool)
      of_one n (Some u) e pool =
          let over : segment_over w.segments (address_of_word n) ≡ Some u =
          ap (λ ss. segment_over ss (address_of_word n)) (sym segments_are) ∙ e in
          let found = found_among (λ v. is_in_segment v (address_of_word n)) w.segments u over in
          let other : not (u.base == t.base) ≡ true =
          ap not (ne_eqb u.base t.base (λ same.
          let one : u ≡ t = same_by_base 1 (w.grains + 1) w.segments u t laid.ascending found.0 held same in
          false≢true (sym not_copying ∙ ap (λ (v : Segment). is_copying_pool w v.pool) (sym one)
          ∙ ap (is_copying_pool w) (same_Some u.pool o.pool pool) ∙ copying))) in
          let inside = and_parts (nat_le u.base (address_of_word n)) (nat_lt (address_of_word n) (end_of_segment u)) found.1 in
          let low = leb-true u.base (address_of_word n) inside.0 in
          let high = ltb-true (address_of_word n) (end_of_segment u) inside.1 in
          let a = among_aligned u w.segments laid.aligned found.0 in
          ap (λ ss. segment_over (without_segment ss t.base) (address_of_word n)) segments_are
          ∙ found_segment 1 (w.grains + 1) (without_segment w.segments t.base) u
          (ascending_without 1 (w.grains + 1) t.base w.segments laid.ascending) (all_without IsAligned t.base w.segments laid.aligned)
          (among_kept t.base u w.segments other found.0) n (omega (arith, low, a), omega (arith, high, a)) ∙ sym e

  -- the words with the segment given back
  image_given : (t : Segment) (v : World) → IsAmong t w.segments → is_copying_pool w t.pool ≡ false
      → v.segments ≡ without_segment w.segments t.base → v.graph.objects ≡ w.graph.objects
      → v.addresses ≡ addresses_after → HasLayout (w.grains + 1) w → HasLayout (v.grains + 1) v
      → StandsAt time (segments_freed s at t true) (with_address w id None)
  image_given t v held not_copying segments objects addresses laid after =
      let segs = segments_freed s at t true in
      let seen : Setting = setting_at time (block_removed s at) (with_address w id None) in
      let kept : AreSegmentsKept seen addresses_after (pool_over_word segs) (is_condemned_word segs) = record {
        pool = λ j k o n l. ap (option_map (λ (x : Segment). x.pool)) (over_still t.base v segments objects addresses laid after j k o n l);
        is_condemned = λ j k o n l.
            ap (λ (x : Option Segment). bit_of s.condemned
            (option_map (λ (y : Segment). grain_of y.base) x))
            (over_still t.base v segments objects addresses laid after j k o n l);
        old_pool = λ j from to o k e f apart there low.
            ap (option_map (λ (x : Segment). x.pool))
            (old_over t held not_copying laid j from to o k e (still_there j to f) apart there low);
        was_condemned = λ j from to o k e f apart there low.
            ap (λ (x : Option Segment). bit_of s.condemned
            (option_map (λ (y : Segment). grain_of y.base) x))
            (old_over t held not_copying laid j from to o k e (still_there j to f) apart there low);
      } in
      segments_change seen (memory_in (block_removed s at)) addresses_after time.colours
      (black_cells time.condemned time.colours) (pool_over_word segs)
      (is_condemned_word segs) image_removed kept

  -- the words after the free
  pub image_after : (t : Segment) (given : Bool) (v : World) → IsAmong t w.segments → is_copying_pool w t.pool ≡ false
      → v.segments ≡ (if given then without_segment w.segments t.base else w.segments) → v.graph.objects ≡ w.graph.objects
      → v.addresses ≡ addresses_after → HasLayout (w.grains + 1) w → HasLayout (v.grains + 1) v
      → StandsAt time (segments_freed s at t given) (with_address w id None)
  image_after t true v held not_copying segments objects addresses laid after =
      image_given t v held not_copying segments objects addresses laid after
  image_after t false v held not_copying segments objects addresses laid after = image_removed
