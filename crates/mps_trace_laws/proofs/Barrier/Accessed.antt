-- A barrier over words is one of the abstract collector, and each of its scans can be done when its turn comes.
use Rattle.std.proofs.Common.{◌≡◌, ◌∙◌, ℕ, ◌+◌, ◌<◌, ◌≤◌, Bool, true, false, refl, sym, ap, subst, List, [], ◌++◌, Option, Some, None, inl, inr, arith}
use Rattle.std.proofs.lemmas.Bool.{cases_Bool, true≢false}
use Rattle.std.proofs.lemmas.List.{append-nil, append_assoc}
use Rattle.std.specs.Prelude.{◌&&◌, ◌||◌, Contains}
use Rattle.std.specs.Option.{option_map_or}
use Rattle.mps_base.specs.Address.{Address, Id, Word, word_of, address_of_word}
use Rattle.mps_base.specs.Segment.{Segment, is_in_segment}
use Rattle.mps_base.specs.Trail.{Moves}
use Rattle.mps_base.specs.declared.moves.Move.{Move}
use Rattle.mps_base.specs.declared.names.Rank.{Rank}
use Rattle.mps_base.specs.declared.names.Rank.TheVariants.{Exact, Weak}
use Rattle.mps_extents.specs.Table.{bit}
use Rattle.mps_format.specs.Layout.{Layout}
use Rattle.mps_format.specs.declared.pool.Policy.{Policy}
use Rattle.mps_seg.specs.Collecting.{lowest_grey_in, rank_of, rank_at}
use Rattle.mps_seg.specs.Marks.{grey_of}
use Rattle.mps_seg.specs.Segs.{SegsState}
use Rattle.mps_trace.specs.Access.{CanScanSegment, CanSplatSegment, ScansIn, SplatsIn, scans_none, scans_one_more, splats_none, splats_one_more, too_many_scans}
use Rattle.mps_trace.specs.GenState.{ChainsState}
use Rattle.mps_trace.specs.Splat.{CanSplat}
use Rattle.mps_trace.specs.Trace.{TraceState, Traced, traced}
use Rattle.mps_trace.specs.declared.running.Band.TheVariants as working
use Rattle.mps_trace.proofs.Held.{held_scanned, held_splatted}
use Rattle.mps_laws.proofs.Positions.Segments.{of_in_segment}
use Rattle.mps_model.specs.Graph.{entry_at}
use Rattle.mps_model.specs.World.{is_live_and}
use Rattle.mps_abstract.specs.Colours.{is_grey}
use Rattle.mps_abstract.specs.Collecting.{Collecting, is_reclaiming_band, is_tracing_band, units_left}
use Rattle.mps_abstract.specs.Units.{BarrierDone, barrier_done, is_grey_in}
use Rattle.mps_trace_laws.specs.Image.Image.{black_cells}
use Rattle.mps_trace_laws.specs.Barrier.Laws.{IsNoFurther, StandsForBarrier, IsBarrierOf, AnAccessIsABarrier, AnAccessCanBeDone, AReclaimNeedsNoBarrier}
use Rattle.mps_trace_laws.proofs.Barrier.GreyWords.{IsWordIn, none_is, word_in, block_in}
use Rattle.mps_trace_laws.proofs.Barrier.OneScan.{IsOneScan, aligned, grey_is_weak, grey_object, one_scan, one_splat_scan}
use Rattle.mps_trace_laws.proofs.Fix.CanScan.{object_can_be_scanned}
use Rattle.mps_trace_laws.proofs.Fix.Growing.{over_back}
use Rattle.mps_trace_laws.proofs.Fix.Hands.{contains_among}
use Rattle.mps_trace_laws.proofs.Splats.CanSplat.{object_can_be_splatted}
use Rattle.mps_trace_laws.proofs.Splats.WeakScan.{room_for_splats}
use Rattle.mps_trace_laws.proofs.Splats.Words.{scan_leaves_tails}

no_further_then : {x y z : Collecting} → IsNoFurther x y → IsNoFurther y z → IsNoFurther x z
no_further_then first second = record {
  band = second.band ∙ first.band;
  cursor = second.cursor ∙ first.cursor;
  next = second.next ∙ first.next;
  registered_before = second.registered_before ∙ first.registered_before;
  registered = second.registered ∙ first.registered;
  messages = second.messages ∙ first.messages;
}

module _ {F : Type 0} (layout : F → Layout) (formats : List (Option (Policy F))) (of : ChainsState) (at_flip : List (Option Address))
    (t : Segment)
  where
    -- n scans of a barrier, and what they are to the abstract collector
    pub record IsBarrierTo (x z : Traced) (y : Collecting) (count : ℕ) : Type 0 where
      pub moves : List Move
      pub after : Collecting
      pub barrier : (ms : List Move) (last : Collecting) → BarrierDone t after ms last → BarrierDone t y (moves ++ ms) last
      pub no_further : IsNoFurther y after
      pub stands : StandsForBarrier layout formats of at_flip z after
      pub held : Contains z.segs.segments t
      pub trail : z.moves.moves ≡ x.moves.moves ++ moves
      pub left : units_left after + count ≤ units_left y

    none_yet : (x : Traced) (y : Collecting) → StandsForBarrier layout formats of at_flip x y → Contains x.segs.segments t
        → IsBarrierTo x x y 0
    none_yet x y stands held = record {
      moves = [];
      after = y;
      barrier = λ ms last done. done;
      no_further = record { band = refl; cursor = refl; next = refl; registered_before = refl; registered = refl; messages = refl };
      stands = stands;
      held = held;
      trail = sym (append-nil x.moves.moves);
      left = omega arith;
    }

    one_more : (x v z : Traced) (y : Collecting) (count : ℕ) (before : IsBarrierTo x v y count)
        → IsOneScan layout formats of at_flip t v z before.after → Contains z.segs.segments t → IsBarrierTo x z y (count + 1)
    one_more x v z y count before scan held = record {
      moves = before.moves ++ scan.moves;
      after = scan.after;
      barrier = λ ms last done.
          subst (λ ns. BarrierDone t y ns last) (sym (append_assoc before.moves scan.moves ms))
          (before.barrier (scan.moves ++ ms) last (scan.barrier ms last done));
      no_further = no_further_then before.no_further scan.no_further;
      stands = scan.stands;
      held = held;
      trail = scan.trail ∙ ap (λ ms. ms ++ scan.moves) before.trail ∙ append_assoc x.moves.moves before.moves scan.moves;
      left = let fewer = scan.fewer in let so_far = before.left in omega (arith, fewer, so_far);
    }

    -- while objects are traced
    pub scans_to : (x : Traced) (y : Collecting) → StandsForBarrier layout formats of at_flip x y → Contains x.segs.segments t
        → is_tracing_band y.band ≡ true → {count : ℕ} {z : Traced} → ScansIn layout formats of t x count z → IsBarrierTo x z y count
    scans_to x y stands held tracing scans_none = none_yet x y stands held
    scans_to x y stands held tracing {z = z} (scans_one_more {y = v} count at earlier lowest scanned) =
        let before = scans_to x y stands held tracing earlier in
        one_more x v z y count before
        (one_scan layout formats of at_flip t v before.after before.stands before.held (ap is_tracing_band before.no_further.band ∙ tracing)
        z at
        lowest scanned)
        (held_scanned layout formats of t v z at scanned before.held)

    -- and once weak ones are scanned
    pub splats_to : (x : Traced) (y : Collecting) → StandsForBarrier layout formats of at_flip x y → Contains x.segs.segments t
        → is_tracing_band y.band ≡ false → {count : ℕ} {z : Traced} → SplatsIn layout formats t x count z → IsBarrierTo x z y count
    splats_to x y stands held later splats_none = none_yet x y stands held
    splats_to x y stands held later {z = z} (splats_one_more {y = v} count at earlier lowest splatted) =
        let before = splats_to x y stands held later earlier in
        one_more x v z y count before
        (one_splat_scan layout formats of at_flip t v before.after before.stands before.held
        (ap is_tracing_band before.no_further.band ∙ later) z at
        lowest splatted)
        (held_splatted layout formats of t v z at splatted before.held)

    -- where no word of the segment is grey no object in it is
    none_grey : (z : Traced) (y : Collecting) → StandsForBarrier layout formats of at_flip z y → Contains z.segs.segments t
        → lowest_grey_in z.segs t ≡ None → (id : Id) → is_grey_in t y id ≡ false
    none_grey z y stands held drained id = of_address (entry_at y.world.addresses id) refl
      where
        both_clear : (a b : Bool) → a ≡ false → b ≡ false → (a || b) ≡ false
        both_clear a b e f = ap (λ c. c || b) e ∙ f

        -- a block whose segment has another rank has no mark of this one
        clear : (n : Word) (rank : Rank) → rank_at z.segs (address_of_word n) ≡ rank → bit (grey_of rank z.segs.marks) n ≡ false
            → (bit z.segs.marks.exact n || bit z.segs.marks.weak n) ≡ false
        clear n Exact own none =
            both_clear (bit z.segs.marks.exact n) (bit z.segs.marks.weak n) none (elim (cases_Bool (bit z.segs.marks.weak n)) [
              | inl is ↦ let never : Exact ≡ Weak = sym own ∙ stands.ranked.weak n is in cc
              | inr isnt ↦ isnt
            ])
        clear n Weak own none =
            both_clear (bit z.segs.marks.exact n) (bit z.segs.marks.weak n) (elim (cases_Bool (bit z.segs.marks.exact n)) [
              | inl is ↦ let never : Weak ≡ Exact = sym own ∙ stands.ranked.exact n is in cc
              | inr isnt ↦ isnt
            ]) none

        -- the segment is the one over each of its words
        own_rank : (n : Word) → IsWordIn t n → rank_at z.segs (address_of_word n) ≡ t.rank
        own_rank n inside =
            let whole = aligned layout formats of at_flip t z y stands held in
            let among = contains_among z.segs.segments t held in
            ap rank_of (over_back z.segs stands.traces.state.held n t (record {
              among = among;
              covers = of_in_segment t n whole (block_in t whole n inside);
            }))

        in_segment : (at : Address) → entry_at y.world.addresses id ≡ Some at → (b : Bool) → is_in_segment t at ≡ b
            → (b && is_grey y.colours id) ≡ false
        in_segment at there true is =
            let inside = word_in t (aligned layout formats of at_flip t z y stands held) at is in
            stands.traces.state.image.marks.grey_there id at there
            ∙ clear (word_of at) t.rank (own_rank (word_of at) inside) (none_is z.segs t drained (word_of at) inside)
        in_segment at there false is = refl

        of_address : (o : Option Address) → entry_at y.world.addresses id ≡ o
            → (option_map_or (is_in_segment t) (entry_at y.world.addresses id) false && is_grey y.colours id) ≡ false
        of_address None e = ap (λ o. option_map_or (is_in_segment t) o false && is_grey y.colours id) e
        of_address (Some at) e =
            ap (λ o. option_map_or (is_in_segment t) o false && is_grey y.colours id) e ∙ in_segment at e (is_in_segment t at) refl

    -- so they are a barrier of the abstract collector once no word is grey
    is_barrier : (x z : Traced) (y : Collecting) {count : ℕ} → IsBarrierTo x z y count → lowest_grey_in z.segs t ≡ None
        → IsBarrierOf layout formats of at_flip t x z y
    is_barrier x z y to drained = record {
      moves = to.moves;
      after = to.after;
      barrier =
          subst (λ ms. BarrierDone t y ms to.after) (append-nil to.moves)
          (to.barrier [] to.after (barrier_done (none_grey z to.after to.stands to.held drained)));
      no_further = to.no_further;
      stands = to.stands;
      trail = to.trail;
    }

pub an_access_is_a_barrier : {F : Type 0} → AnAccessIsABarrier F
an_access_is_a_barrier layout formats of at_flip working.Exact t x z y stands band held scans =
    is_barrier layout formats of at_flip t x z y
    (scans_to layout formats of at_flip t x y stands held (ap is_tracing_band (sym band)) scans.scans) scans.drained
an_access_is_a_barrier layout formats of at_flip working.Final t x z y stands band held scans =
    is_barrier layout formats of at_flip t x z y
    (scans_to layout formats of at_flip t x y stands held (ap is_tracing_band (sym band)) scans.scans) scans.drained
an_access_is_a_barrier layout formats of at_flip working.Weak t x z y stands band held splats =
    is_barrier layout formats of at_flip t x z y
    (splats_to layout formats of at_flip t x y stands held (ap is_tracing_band (sym band)) splats.splats) splats.drained
an_access_is_a_barrier layout formats of at_flip working.Reclaim t x z y stands band held same =
    absurd (true≢false (ap is_reclaiming_band band ∙ stands.band))

-- each scan can be done when its turn comes
scans_can_be_done : {F : Type 0} (layout : F → Layout) (t : TraceState F) (s : SegsState) (m : Moves) (at_flip : List (Option Address))
    (segment : Segment) (y : Collecting) → StandsForBarrier layout t.formats t.chains at_flip (traced t s m) y
    → is_tracing_band y.band ≡ true → Contains s.segments segment → units_left y < too_many_scans → CanScanSegment layout t s m segment
scans_can_be_done layout t s m at_flip segment y stands tracing held few = record {
  can = λ count v at scans lowest.
      let to = scans_to layout t.formats t.chains at_flip segment (traced t s m) y stands held tracing scans in
      let g = grey_object layout t.formats t.chains at_flip segment v to.after to.stands to.held at lowest in
      object_can_be_scanned layout (record t { amc = v.amc }) v.segs v.moves at_flip
      (black_cells to.after.running.condemned to.after.colours) to.after g.id at g.object to.stands.shaped to.stands.traces g.found;
  few = λ count v scans.
      let to = scans_to layout t.formats t.chains at_flip segment (traced t s m) y stands held tracing scans in
      let left = to.left in
      omega (arith, left, few);
}

-- scans of weak blocks leave the tails
tails_stay : {F : Type 0} (layout : F → Layout) (formats : List (Option (Policy F))) (t : Segment) (x z : Traced) {count : ℕ}
    → SplatsIn layout formats t x count z → z.amc ≡ x.amc
tails_stay layout formats t x _ splats_none = refl
tails_stay layout formats t x z (splats_one_more {y = v} count at earlier lowest splatted) =
    scan_leaves_tails layout formats v z at splatted ∙ tails_stay layout formats t x v earlier

-- and so can each scan of a weak block
splats_can_be_done : {F : Type 0} (layout : F → Layout) (t : TraceState F) (s : SegsState) (m : Moves) (at_flip : List (Option Address))
    (segment : Segment) (y : Collecting) → StandsForBarrier layout t.formats t.chains at_flip (traced t s m) y
    → is_tracing_band y.band ≡ false → Contains s.segments segment → units_left y < too_many_scans
    → CanSplatSegment layout t s m segment
splats_can_be_done layout t s m at_flip segment y stands later held few = record {
  can = λ count v at splats lowest.
      let to = splats_to layout t.formats t.chains at_flip segment (traced t s m) y stands held later splats in
      let still = ap is_tracing_band to.no_further.band ∙ later in
      let g = grey_object layout t.formats t.chains at_flip segment v to.after to.stands to.held at lowest in
      subst (λ tails. CanSplat layout (record t { amc = tails }) v.segs v.moves at)
      (tails_stay layout t.formats segment (traced t s m) v splats)
      (object_can_be_splatted layout (record t { amc = v.amc }) v.segs v.moves at_flip
      (black_cells to.after.running.condemned to.after.colours) to.after g.id at g.object (to.stands.none_dependent still)
      to.stands.shaped to.stands.traces g.found
      (room_for_splats layout t.formats t.chains at_flip v to.after to.stands.traces g.id at g.object g.found g.grey
      (grey_is_weak layout t.formats t.chains at_flip segment v to.after to.stands to.held still at g)));
  few = λ count v splats.
      let to = splats_to layout t.formats t.chains at_flip segment (traced t s m) y stands held later splats in
      let left = to.left in
      omega (arith, left, few);
}

pub an_access_can_be_done : {F : Type 0} → AnAccessCanBeDone F
an_access_can_be_done layout t s m at_flip working.Exact segment y stands band held few =
    scans_can_be_done layout t s m at_flip segment y stands (ap is_tracing_band (sym band)) held few
an_access_can_be_done layout t s m at_flip working.Final segment y stands band held few =
    scans_can_be_done layout t s m at_flip segment y stands (ap is_tracing_band (sym band)) held few
an_access_can_be_done layout t s m at_flip working.Weak segment y stands band held few =
    splats_can_be_done layout t s m at_flip segment y stands (ap is_tracing_band (sym band)) held few
an_access_can_be_done layout t s m at_flip working.Reclaim segment y stands band held few = tt

-- once it reclaims nothing is grey
pub a_reclaim_needs_no_barrier : AReclaimNeedsNoBarrier
a_reclaim_needs_no_barrier t y run last =
    barrier_done (λ id. of_bools (is_live_and (is_in_segment t) y.world id) (run.band.scanned last id))
  where
    of_bools : {grey : Bool} (b : Bool) → grey ≡ false → (b && grey) ≡ false
    of_bools true e = e
    of_bools false e = refl
