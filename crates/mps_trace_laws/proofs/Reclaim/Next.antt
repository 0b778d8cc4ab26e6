-- The lowest condemned segment from the cursor on is the one that the abstract collector reclaims next.
use Rattle.std.proofs.Common.{◌≡◌, ◌∙◌, ℕ, ◌+◌, ◌≤◌, true, refl, sym, ap, List, Option, Some, None, Contains, inl, inr, arith}
use Rattle.std.proofs.lemmas.Bool.{cases_lt, true≢false, eqb-true}
use Rattle.std.specs.Prelude.{find, IsTrue, ◌==◌}
use Rattle.std.specs.Option.{option_map_or}
use Rattle.mps_base.specs.Address.{Address, grain_of, max_grains}
use Rattle.mps_base.specs.Segment.{Segment, segment_over, is_in_segment}
use Rattle.mps_extents.specs.Table.{bit}
use Rattle.mps_format.specs.Layout.{Layout}
use Rattle.mps_seg.specs.Segs.{SegsState}
use Rattle.mps_amc.specs.Reclaiming.{lost_of}
use Rattle.mps_model.specs.Graph.{contains}
use Rattle.mps_model.specs.World.{segment_at, is_automatic_kind, pool_is}
use Rattle.mps_abstract.specs.Colours.{AreAllScanned}
use Rattle.mps_abstract.specs.Collecting.{Collecting, Running, AreAllExamined}
use Rattle.mps_abstract.specs.Units.{IsReclaimedNext, IsWhiteAt}
use Rattle.mps_abstract.proofs.KeptRunning.{one_that_is}
use Rattle.mps_abstract.proofs.Lists.{find-passes}
use Rattle.mps_trace_laws.specs.Image.Image.{black_cells}
use Rattle.mps_trace.specs.Condemned.{IsNextCondemned}
use Rattle.mps_trace_laws.specs.Reclaim.Freed.{addresses_of, IsCondemnedSegment, AreWhiteFreed}
use Rattle.mps_trace_laws.specs.Reclaim.Left.{setting_freeing_in}
use Rattle.mps_trace_laws.specs.Reclaim.Units.{FreesFor}
use Rattle.mps_trace_laws.proofs.Reclaim.SegmentBounds.{aligned_in, positive_in}
use Rattle.mps_trace_laws.proofs.Reclaim.Freed.{white_freed}
use Rattle.mps_trace_laws.proofs.Reclaim.HeldSegments.{same_base, found_held, found_at}

module _ (x : Collecting) (g : SegsState) (layout : ℕ → Layout) (base : Address) (run : Running x) (scanned : AreAllScanned x.colours)
    (examined : AreAllExamined x) (f : FreesFor g x.world x.running x.colours layout) (next : IsNextCondemned g x.cursor base) where
  abbrev t : Segment
  t = next.segment

  abbrev freed : List Address
  freed = addresses_of (lost_of g t)

  -- a segment that the world holds at a base
  held_there : (b : Address) (u : Segment) → segment_at x.world b ≡ Some u → Contains g.segments u
  held_there b u e =
      found_held (λ s. s.base == b) g.segments u (ap (λ ss. find (λ (s : Segment). s.base == b) ss) (sym f.segments) ∙ e)

  base_there : (b : Address) (u : Segment) → segment_at x.world b ≡ Some u → u.base ≡ b
  base_there b u e = eqb-true u.base b (find-passes (λ (s : Segment). s.base == b) x.world.segments u e)

  pub condemned_so : IsCondemnedSegment (setting_freeing_in g x.world.graph.objects x.world.graph.points x.world.point_memories layout
      x.running.condemned x.colours) g t
  condemned_so = record { order = f.stands.order; held = next.listed; condemned = next.condemned; same = λ n. refl }

  shown : AreWhiteFreed (setting_freeing_in g x.world.graph.objects x.world.graph.points x.world.point_memories layout
      x.running.condemned x.colours) g x.world.addresses x.colours t freed
  shown =
      white_freed
      (setting_freeing_in g x.world.graph.objects x.world.graph.points x.world.point_memories layout x.running.condemned x.colours) g
      x.world.addresses x.colours (black_cells x.running.condemned x.colours) t f.stands.image condemned_so

  -- the segment over an address, by its base
  by_base : (at : Address) (o : Option Segment) → segment_over g.segments at ≡ o → option_map_or (λ (s : Segment). s.base) o 0 ≡ t.base
      → segment_over g.segments at ≡ Some t
  by_base at None e is =
      let aligned = aligned_in g.segments t f.stands.order.aligned next.listed in
      let positive = positive_in 1 (max_grains + 1) g.segments t f.stands.order.ascending next.listed in
      absurd (omega (arith, is, aligned, positive))
  by_base at (Some u) e is =
      e
      ∙ ap Some (same_base g.segments f.stands.order u t (found_held (λ s. is_in_segment s at) g.segments u e) next.listed is)

  freed_at : (at : Address) → IsTrue (contains freed at) → IsWhiteAt x t at
  freed_at at h =
      let w = shown.white at h in
      record {
        id = w.id;
        address = w.address;
        white = w.white;
        base =
            ap (λ ss. option_map_or (λ (s : Segment). s.base) (segment_over ss at) 0) f.segments
            ∙ ap (λ o. option_map_or (λ (s : Segment). s.base) o 0) w.over;
        inside = w.inside;
      }

  first_condemned : (b : Address) → IsTrue (contains x.running.condemned_segments b) → x.cursor ≤ b → t.base ≤ b
  first_condemned b h from =
      elim (cases_lt b t.base) [
        | inr after ↦ after
        | inl before ↦
            let u = one_that_is (λ s. IsTrue (pool_is is_automatic_kind x.world s.pool)) (segment_at x.world b)
            (run.condemned.segments b h) in
            let held = held_there b u.0 u.1.0 in
            let is = base_there b u.0 u.1.0 in
            let begins = next.begins in
            let bits : bit g.condemned (grain_of u.0.base) ≡ true =
            f.bits u.0 held ∙ ap (contains x.running.condemned_segments) is ∙ h
            in
            absurd (true≢false (sym bits ∙ next.first u.0 held (omega (arith, from, is)) (omega (arith, before, is, begins))))
      ]

  pub next_reclaimed : IsReclaimedNext x t freed
  next_reclaimed = record {
    scanned = scanned;
    examined = examined;
    held =
        ap (λ ss. find (λ (s : Segment). s.base == t.base) ss) f.segments
        ∙ found_at g.segments t t.base next.listed refl (λ s held is. same_base g.segments f.stands.order s t held next.listed is);
    condemned = sym (f.bits t next.listed) ∙ next.condemned;
    from_cursor = let begins = next.begins in let above = next.above in omega (arith, begins, above);
    first = first_condemned;
    ascending = shown.ascending;
    white = freed_at;
    all = λ id at e white is.
        shown.all id at e white (by_base at (segment_over g.segments at) refl
        (ap (λ ss. option_map_or (λ (s : Segment). s.base) (segment_over ss at) 0) (sym f.segments) ∙ is));
    apart = λ b u at e differ h.
        shown.apart u at (held_there b u e) (λ same. differ (sym (base_there b u e) ∙ same)) h;
  }
