-- While a collection runs no live reservation of a copying pool lies in a condemned segment. The flip dooms those that did, and later ones
-- are cut from what isn't condemned.
use Rattle.std.proofs.Common.{◌≡◌, ◌∙◌, ◌+◌, true, false, refl, sym, ap, Option, Some, None, Contains, inl, inr, arith}
use Rattle.std.proofs.lemmas.Bool.{cases_lt, false≢true, true≢false}
use Rattle.std.proofs.lemmas.Option.{same_Some}
use Rattle.std.specs.Prelude.{not, slice_get}
use Rattle.std.specs.Option.{option_map_or}
use Rattle.mps_base.specs.Address.{address_of_word, grain_of, word_of}
use Rattle.mps_base.specs.Segment.{Segment, end_of_segment, segment_over}
use Rattle.mps_extents.specs.Table.{bit}
use Rattle.mps_abstract.specs.Collecting.{Collecting}
use Rattle.mps_laws.proofs.Positions.LaidOut.{is_staying_kind, kind_in}
use Rattle.mps_laws.proofs.Positions.LegalMoves.{HasLayout}
use Rattle.mps_laws.proofs.Positions.Occupancy.{OfReservation, condemned_in, occupancy_of}
use Rattle.mps_laws.proofs.Positions.Segments.{IsAmong, among_aligned, found_segment}
use Rattle.mps_model.specs.Graph.{contains}
use Rattle.mps_model.specs.World.{World, Pool, is_copying_kind, is_copying_pool}
use Rattle.mps_trace_laws.specs.Reclaim.Left.{IsUnreserved}
use Rattle.mps_refinement.specs.StandsFor.{Runs, Time, CollectorState}
use Rattle.mps_refinement.proofs.Parts.ReservedImage.{reservation_covers}
use Rattle.mps_refinement.proofs.Parts.SegmentsTaken.{contained_among}

-- blocks of a pool move or they don't
not_both : (o : Option Pool) → option_map_or (λ (p : Pool). is_copying_kind p.kind) o false ≡ true
    → option_map_or (λ (p : Pool). is_staying_kind p.kind) o false ≡ true → ⊥
not_both None copying staying = false≢true copying
not_both (Some p) copying staying = true≢false (sym staying ∙ ap not copying)

pub copying_unreserved : (w : World) → HasLayout (w.grains + 1) w → (t : Segment) → IsAmong t w.segments
    → contains (condemned_in w.collection) t.base ≡ true → is_copying_pool w t.pool ≡ true → IsUnreserved w.graph.points w.point_memories t
copying_unreserved w laid t held condemned copying point l r n lies =
    elim (cases_lt n (word_of t.base)) [
      | inl low ↦ inl low
      | inr above ↦ elim (cases_lt n (word_of (end_of_segment t))) [
        | inl below ↦
            let covers = reservation_covers (occupancy_of w) w.graph.points w.point_memories point l r n refl refl lies in
            let home = laid.placed.homes (OfReservation point) (omega (arith, covers.0, covers.1)) in
            let from = home.above in
            let up_to = home.below in
            let over : segment_over w.segments (address_of_word n) ≡ Some home.segment =
            found_segment 1 (w.grains + 1) w.segments home.segment laid.ascending laid.aligned home.held n
            (omega (arith, from, covers.0), omega (arith, up_to, covers.1)) in
            let aligned = among_aligned t w.segments laid.aligned held in
            let same : home.segment ≡ t =
            same_Some home.segment t (sym over
            ∙ found_segment 1 (w.grains + 1) w.segments t laid.ascending laid.aligned held n
            (omega (arith, above, aligned), omega (arith, below, aligned))) in
            absurd (elim (home.uncondemned refl) [
              | inl free ↦ true≢false (sym condemned ∙ (ap (λ (u : Segment). contains (condemned_in w.collection) u.base)
                  (sym same) ∙ free))
              | inr staying ↦
                  not_both (slice_get w.pools t.pool) copying
                  (ap (λ (u : Segment). kind_in is_staying_kind w.pools u.pool) (sym same) ∙ staying)
            ])
        | inr beyond ↦ inr beyond
      ]
    ]

-- so it is of the segments of a heap in which a collection runs
pub condemned_unreserved : (time : Time) (s : CollectorState) (w : World) (x : Collecting) → Runs time s w x → HasLayout (w.grains + 1) w
    → (t : Segment) → Contains w.segments t → bit s.segs.condemned (grain_of t.base) ≡ true → is_copying_pool w t.pool ≡ true
    → IsUnreserved w.graph.points w.point_memories t
condemned_unreserved time s w x r laid t held condemned copying =
    copying_unreserved w laid t (contained_among w.segments t held)
    (ap (λ c. contains (condemned_in c) t.base) (sym (ap (λ (v : World). v.collection) r.world) ∙ r.invariant.runs)
    ∙ (sym (r.condemned t held) ∙ condemned)) copying
