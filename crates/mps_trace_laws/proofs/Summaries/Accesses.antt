-- The read barrier keeps each word summed.
use Rattle.std.proofs.Common.{◌≡◌, ◌∙◌, ℕ, true, false, List, Option, Contains, sym, ap}
use Rattle.std.proofs.lemmas.Bool.{true≢false}
use Rattle.mps_base.specs.Address.{Address}
use Rattle.mps_base.specs.Segment.{Segment}
use Rattle.mps_format.specs.Layout.{Layout}
use Rattle.mps_format.specs.declared.pool.Policy.{Policy}
use Rattle.mps_trace.specs.GenState.{ChainsState}
use Rattle.mps_trace.specs.Access.{ScansIn, scans_none, scans_one_more, SplatsIn, splats_none, splats_one_more}
use Rattle.mps_trace.specs.Trace.{Traced}
use Rattle.mps_trace.specs.declared.running.Band.TheVariants as working
use Rattle.mps_abstract.specs.Collecting.{Collecting, is_reclaiming_band, is_tracing_band}
use Rattle.mps_trace_laws.specs.Barrier.Laws.{StandsForBarrier}
use Rattle.mps_trace_laws.specs.Summaries.Laws.{AnAccessKeepsSummaries}
use Rattle.mps_trace_laws.specs.Summaries.Summed.{AreWordsSummed}
use Rattle.mps_trace_laws.proofs.Barrier.Accessed.{scans_to, splats_to}
use Rattle.mps_trace_laws.proofs.Barrier.OneScan.{grey_object}
use Rattle.mps_trace_laws.proofs.Summaries.Scans.{scan_keeps}
use Rattle.mps_trace_laws.proofs.Summaries.Splats.{splat_scan_keeps}

module _ {F : Type 0} (layout : F → Layout) (formats : List (Option (Policy F))) (of : ChainsState) (at_flip : List (Option Address))
    (t : Segment) (x : Traced) (y : Collecting) (stands : StandsForBarrier layout formats of at_flip x y)
    (held : Contains x.segs.segments t) (summed : AreWordsSummed layout formats x.segs) where
  scans_summed : is_tracing_band y.band ≡ true → {count : ℕ} {z : Traced} → ScansIn layout formats of t x count z
      → AreWordsSummed layout formats z.segs
  scans_summed tracing scans_none = summed
  scans_summed tracing {z = z} (scans_one_more {y = v} count at earlier lowest scanned) =
      let to = scans_to layout formats of at_flip t x y stands held tracing earlier in
      let g = grey_object layout formats of at_flip t v to.after to.stands to.held at lowest in
      scan_keeps layout formats of at_flip v z to.after g.id at g.object to.stands.shaped to.stands.traces g.found
      (scans_summed tracing earlier) scanned

  splats_summed : is_tracing_band y.band ≡ false → {count : ℕ} {z : Traced} → SplatsIn layout formats t x count z
      → AreWordsSummed layout formats z.segs
  splats_summed later splats_none = summed
  splats_summed later {z = z} (splats_one_more {y = v} count at earlier lowest splatted) =
      let to = splats_to layout formats of at_flip t x y stands held later earlier in
      let still = ap is_tracing_band to.no_further.band ∙ later in
      let g = grey_object layout formats of at_flip t v to.after to.stands to.held at lowest in
      splat_scan_keeps layout formats of at_flip v z to.after g.id at g.object (to.stands.none_dependent still) to.stands.shaped
      to.stands.traces g.found (splats_summed later earlier) splatted

pub access_keeps : {F : Type 0} → AnAccessKeepsSummaries F
access_keeps layout formats of at_flip working.Exact t x z y stands band held summed scans =
    scans_summed layout formats of at_flip t x y stands held summed (ap is_tracing_band (sym band)) scans.scans
access_keeps layout formats of at_flip working.Final t x z y stands band held summed scans =
    scans_summed layout formats of at_flip t x y stands held summed (ap is_tracing_band (sym band)) scans.scans
access_keeps layout formats of at_flip working.Weak t x z y stands band held summed splats =
    splats_summed layout formats of at_flip t x y stands held summed (ap is_tracing_band (sym band)) splats.splats
access_keeps layout formats of at_flip working.Reclaim t x z y stands band held summed same =
    absurd (true≢false (ap is_reclaiming_band band ∙ stands.band))
