-- After a flip the segments that it doesn't condemn, and that may refer to what it does, become grey in ascending order. What tells them
-- is as it was before the flip.
use Rattle.std.proofs.Common.{ℕ, ◌+◌, ◌==◌, ◌≡◌, Bool, true, false, Option, Some, None, List, [], ◌∷◌, refl, sym, ap, ◌∙◌, subst, inl, inr, arith, slice_index}
use Rattle.std.specs.Prelude.{◌&&◌, filter, not, slice_set}
use Rattle.std.proofs.lemmas.Bool.{cases_Bool, cond-true, cond-false}
use Rattle.mps_base.specs.Address.{Address, Word, grain_of, word_of, address_of_word}
use Rattle.mps_base.specs.Run.{Run}
use Rattle.mps_base.specs.Segment.{Segment}
use Rattle.mps_base.specs.Zones.{zones_meet}
use Rattle.mps_amc.specs.Moving.{nailed, kept_in_place}
use Rattle.mps_buffer.specs.declared.point.Held.{Held}
use Rattle.mps_buffer.specs.declared.point.Point.{Point}
use Rattle.mps_buffer.specs.Points.{PointsState, after_end, after_end_at, after_all_end, without_reservation}
use Rattle.mps_format.specs.declared.pool.Policy.{Policy}
use Rattle.mps_gen.specs.State.{ChainsState}
use Rattle.mps_root.specs.declared.roots.Stored.{Stored}
use Rattle.mps_seg.specs.Collecting.{condemning, greying_all, is_kept_at}
use Rattle.mps_seg.specs.Extents.{run_over}
use Rattle.mps_seg.specs.Marks.{MarkTables}
use Rattle.mps_seg.specs.Segs.{SegsState}
use Rattle.mps_trace.specs.Begin.{nailed_by_area, nailed_by_areas}
use Rattle.mps_trace.specs.Condemned.{AreAscending, AreInOrder}
use Rattle.mps_trace.specs.Flip.{is_automatic, condemns, condemned_of, condemning_all, at_flip, pins, nailed_in, nailed_by, nailed_by_all, may_refer, remembered_of, zones_at_flip, greying_each}
use Rattle.mps_trace.specs.Trace.{Traced}
use Rattle.mps_trace.specs.declared.condemn.Condemn.{Condemn}
use Rattle.mps_trace.specs.declared.condemn.Condemn.TheVariants.{Everything, Generations}
use Rattle.mps_trace.proofs.Condemning.{passes_here, passes_later}
use Rattle.mps_trace.proofs.Ending.{in_order_still}
use Rattle.mps_trace.proofs.Ordered.{rest_from, rest_low}

-- ---- what a flip and nails leave

-- what depends neither on reservations nor on what is condemned
module _ {X : Type 0} (of : SegsState → X)
    (ends : (s : SegsState) (covered reservations : List Run) → of (record s { covered = covered; reservations = reservations }) ≡ of s)
    (condemns_none : (s : SegsState) (condemned : List Bool) → of (record s { condemned = condemned }) ≡ of s)
  where
    one_stays : (flips : ℕ) (o : Option Held) (s : SegsState) → of (after_end flips o s) ≡ of s
    one_stays flips None s = refl
    one_stays flips (Some h) s =
        let same : Bool = h.flips == flips in
        elim (cases_Bool same) [
          | inl is ↦ ap of (cond-true same (without_reservation s h) s is)
              ∙ ends s (without_reservation s h).covered (without_reservation s h).reservations
          | inr is ↦ ap of (cond-false same (without_reservation s h) s is)
        ]

    point_stays : (flips : ℕ) (o : Option Point) (s : SegsState) → of (after_end_at flips o s) ≡ of s
    point_stays flips None s = refl
    point_stays flips (Some p) s = one_stays flips p.reservation s

    ended_stays : (flips : ℕ) (ps : List (Option Point)) (s : SegsState) → of (after_all_end flips ps s) ≡ of s
    ended_stays flips [] s = refl
    ended_stays flips (p ∷ ps) s = ended_stays flips ps (after_end_at flips p s) ∙ point_stays flips p s

    condemned_stays : (ts : List Segment) (s : SegsState) → of (condemning_all ts s) ≡ of s
    condemned_stays [] s = refl
    condemned_stays (t ∷ ts) s =
        condemned_stays ts (condemning s t.base) ∙ condemns_none s (slice_set s.condemned (grain_of t.base) true)

    pub flip_leaves : {F : Type 0} (formats : List (Option (Policy F))) (chains : ChainsState) (what : Condemn) (points : PointsState)
        (x : Traced) → of (at_flip formats chains what points x).segs ≡ of x.segs
    flip_leaves formats chains what points x =
        let e = after_all_end points.flips points.points x.segs in
        condemned_stays (condemned_of formats chains what e.segments) e ∙ ended_stays points.flips points.points x.segs

-- what doesn't depend on marks
module _ {X : Type 0} (of : SegsState → X) (marks_none : (s : SegsState) (marks : MarkTables) → of (record s { marks = marks }) ≡ of s)
  where
    nailed_stays : (s : SegsState) (at : Address) → of (nailed s at) ≡ of s
    nailed_stays s at =
        elim (cases_Bool (is_kept_at s at)) [
          | inl kept ↦ ap of (cond-true (is_kept_at s at) s (kept_in_place s at) kept)
          | inr white ↦ ap of (cond-false (is_kept_at s at) s (kept_in_place s at) white) ∙ marks_none s (kept_in_place s at).marks
        ]

    module _ {F : Type 0} (formats : List (Option (Policy F))) where
      in_stays : (word : ℕ) (o : Option Word) (s : SegsState) → of (nailed_in formats s word o) ≡ of s
      in_stays word None s = refl
      in_stays word (Some n) s =
          let pinned = pins formats s word (address_of_word n) in
          elim (cases_Bool pinned) [
            | inl is ↦ ap of (cond-true pinned (nailed s (address_of_word n)) s is) ∙ nailed_stays s (address_of_word n)
            | inr isnt ↦ ap of (cond-false pinned (nailed s (address_of_word n)) s isnt)
          ]

      all_stay : (words : List Stored) (s : SegsState) → of (nailed_by_all formats words s) ≡ of s
      all_stay [] s = refl
      all_stay (w ∷ ws) s =
          all_stay ws (nailed_by formats s w.word) ∙ in_stays w.word (run_over s.blocks (word_of w.word)) s

      area_stays : (a : Option (List Stored)) (s : SegsState) → of (nailed_by_area formats a s) ≡ of s
      area_stays None s = refl
      area_stays (Some words) s = all_stay words s

      pub nails_leave : (areas : List (Option (List Stored))) (s : SegsState) → of (nailed_by_areas formats areas s) ≡ of s
      nails_leave [] s = refl
      nails_leave (a ∷ areas) s = nails_leave areas (nailed_by_area formats a s) ∙ area_stays a s

-- ---- what tells them

module _ {F : Type 0} (formats : List (Option (Policy F))) (chains : ChainsState) where
  -- segments that refer alike by summaries alike
  refers_alike : (what : Condemn) (zones : ℕ) (s s' : SegsState) (t : Segment) → s'.summaries ≡ s.summaries
      → may_refer formats chains what zones s' t ≡ may_refer formats chains what zones s t
  refers_alike what zones s s' t same =
      ap (λ (ms : List ℕ). is_automatic formats t.pool
      && (not (condemns formats chains what t.pool t.generation) && zones_meet (slice_index ms (grain_of t.base)) zones)) same

  pub remembered_alike : (what : Condemn) (s s' : SegsState) → s'.segments ≡ s.segments → s'.summaries ≡ s.summaries
      → remembered_of formats chains what s' ≡ remembered_of formats chains what s
  remembered_alike Everything s s' segments summaries = refl
  remembered_alike (Generations chain oldest) s s' segments summaries =
      let what : Condemn = Generations chain oldest in
      let found : List ℕ → List Segment → List Segment = λ ms ts.
      filter (λ t. is_automatic formats t.pool && (not (condemns formats chains what t.pool t.generation)
      && zones_meet (slice_index ms (grain_of t.base)) (zones_at_flip formats chains what ts))) ts
      in
      ap (λ (ms : List ℕ). found ms s'.segments) summaries ∙ ap (λ (ts : List Segment). found s.summaries ts) segments

  -- those of a flip of generations
  pub remembered_when : (what : Condemn) (chain oldest : ℕ) → what ≡ Generations chain oldest → (s : SegsState)
      → remembered_of formats chains what s
      ≡ filter (may_refer formats chains what (zones_at_flip formats chains what s.segments) s) s.segments
  remembered_when what chain oldest is s =
      let P : Condemn → Type 0 = λ w. remembered_of formats chains w s
      ≡ filter (may_refer formats chains w (zones_at_flip formats chains w s.segments) s) s.segments in subst P (sym is) refl

  -- after a flip, and where area words have nailed blocks, the segments and their summaries are those before it
  module _ (what : Condemn) (points : PointsState) (areas : List (Option (List Stored))) (x : Traced) (s : SegsState)
      (nailed_is : s ≡ nailed_by_areas formats areas (at_flip formats chains what points x).segs) where
    pub segments_still : s.segments ≡ x.segs.segments
    segments_still =
        ap (λ (g : SegsState). g.segments) nailed_is
        ∙ nails_leave (λ g. g.segments) (λ g m. refl) formats areas
        (at_flip formats chains what points x).segs
        ∙ flip_leaves (λ g. g.segments) (λ g c r. refl) (λ g c. refl) formats chains what points x

    summaries_still : s.summaries ≡ x.segs.summaries
    summaries_still =
        ap (λ (g : SegsState). g.summaries) nailed_is
        ∙ nails_leave (λ g. g.summaries) (λ g m. refl) formats areas
        (at_flip formats chains what points x).segs
        ∙ flip_leaves (λ g. g.summaries) (λ g c r. refl) (λ g c. refl) formats chains what points x

    pub order_still : AreInOrder x.segs → AreInOrder s
    order_still ordered = in_order_still x.segs s segments_still ordered

    pub remembered_still : remembered_of formats chains what s ≡ remembered_of formats chains what x.segs
    remembered_still = remembered_alike what x.segs s segments_still summaries_still

-- ---- one segment after the other

-- the segments that pass a test and begin below an address are grey, and the others are still to go
pub record AreGreyBelow (p : Segment → Bool) (before : SegsState) (at : Address) (s : SegsState) : Type 0 where
  pub same : s.segments ≡ before.segments
  pub summaries : s.summaries ≡ before.summaries
  pub to_go : greying_each (filter p (rest_from at before.segments)) s ≡ greying_each (filter p before.segments) before

module _ (p : Segment → Bool) (before : SegsState) where
  pub none_grey : AreAscending 0 before.segments → AreGreyBelow p before 0 before
  none_grey ascending =
      let all = rest_low 0 0 before.segments ascending (omega arith) in
      record { same = refl; summaries = refl; to_go = ap (λ (ts : List Segment). greying_each (filter p ts) before) all }

  module _ (at base : Address) (s : SegsState) (so_far : AreGreyBelow p before at s) (t : Segment)
      (next : rest_from at before.segments ≡ t ∷ rest_from (base + 1) before.segments) where
    pub left_as_is : (s' : SegsState) → p t ≡ false → s' ≡ s → AreGreyBelow p before (base + 1) s'
    left_as_is s' isnt is =
        let rest = rest_from (base + 1) before.segments in
        let to : filter p rest ≡ filter p (rest_from at before.segments) =
        sym (ap (λ (ts : List Segment). filter p ts) next ∙ passes_later p t rest isnt)
        in
        record {
          same = ap (λ (x : SegsState). x.segments) is ∙ so_far.same;
          summaries = ap (λ (x : SegsState). x.summaries) is ∙ so_far.summaries;
          to_go = ap (λ (x : SegsState). greying_each (filter p rest) x) is ∙ ap (λ (ts : List Segment). greying_each ts s) to
              ∙ so_far.to_go;
        }

    pub one_grey : (s' : SegsState) → p t ≡ true → s' ≡ greying_all s t → AreGreyBelow p before (base + 1) s'
    one_grey s' is grey =
        let rest = rest_from (base + 1) before.segments in
        let to : t ∷ filter p rest ≡ filter p (rest_from at before.segments) =
        sym (ap (λ (ts : List Segment). filter p ts) next ∙ passes_here p t rest is)
        in
        record {
          same = ap (λ (x : SegsState). x.segments) grey ∙ so_far.same;
          summaries = ap (λ (x : SegsState). x.summaries) grey ∙ so_far.summaries;
          to_go = ap (λ (x : SegsState). greying_each (filter p rest) x) grey ∙ ap (λ (ts : List Segment). greying_each ts s) to
              ∙ so_far.to_go;
        }

  pub all_grey_now : (at : Address) (s : SegsState) → AreGreyBelow p before at s → rest_from at before.segments ≡ []
      → s ≡ greying_each (filter p before.segments) before
  all_grey_now at s so_far none =
      sym (ap (λ (ts : List Segment). greying_each (filter p ts) s) none) ∙ so_far.to_go

-- a segment that is asked in a later state refers as it did
pub refers_still : {F : Type 0} (formats : List (Option (Policy F))) (chains : ChainsState) (what : Condemn) (zones : ℕ)
    (before s : SegsState) (t : Segment) → s.summaries ≡ before.summaries
    → may_refer formats chains what zones s t ≡ may_refer formats chains what zones before t
refers_still formats chains what zones before s t same = refers_alike formats chains what zones before s t same
