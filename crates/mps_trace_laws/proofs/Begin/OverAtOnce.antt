-- Where a flip condemns nothing its act ends at once: reservations are ended, and the segments stand for a world at rest.
use Rattle.std.proofs.Common.{◌≡◌, ◌∙◌, ℕ, ◌==◌, true, false, refl, sym, ap, subst, List, [], ◌∷◌, ◌++◌, length, map, Option, Some, None, inl, inr, arith}
use Rattle.std.proofs.lemmas.Bool.{cases_Bool, cond-true, cond-false}
use Rattle.std.proofs.lemmas.List.{append_assoc}
use Rattle.mps_base.specs.Address.{Address}
use Rattle.mps_base.specs.Run.{Run}
use Rattle.mps_base.specs.Segment.{Segment}
use Rattle.mps_base.specs.Trail.{Moves}
use Rattle.mps_base.specs.declared.moves.Move.{Move}
use Rattle.mps_base.specs.declared.moves.Move.TheVariants.{End}
use Rattle.mps_buffer.specs.declared.point.Held.{Held}
use Rattle.mps_buffer.specs.declared.point.Point as buffer
use Rattle.mps_buffer.specs.Points.{PointsState, after_end, after_end_at, after_all_end, without_reservation}
use Rattle.mps_trace.specs.State.{FinalsState}
use Rattle.mps_format.specs.Layout.{Layout}
use Rattle.mps_root.specs.State.{RootsState}
use Rattle.mps_seg.specs.Segs.{SegsState}
use Rattle.mps_seg.specs.Collecting.{collected}
use Rattle.mps_model.specs.Effect.{condemned_by, condemned_zones, doomed, without_buffer, after_flip, world_after_moves}
use Rattle.mps_model.specs.Flip.{flip_act, flip_of, is_nothing}
use Rattle.mps_model.specs.Graph.{Object, Point}
use Rattle.mps_model.specs.World.{World, PointMemory}
use Rattle.mps_abstract.specs.FlipLaws.{IsFlipEnded}
use Rattle.mps_abstract.proofs.FlipActs.FlipBegins.{flip_ended}
use Rattle.mps_trace_laws.specs.Image.AtRest.{StandsAtRest}
use Rattle.mps_trace_laws.specs.Image.Image.{RunsStand, Stands, black_cells, no_colours}
use Rattle.mps_trace_laws.specs.Image.Memory.{Setting, memory_in, pool_layout, setting_at_rest, words_of_arena}
use Rattle.mps_trace_laws.proofs.Image.Placed.{placed_unreserved}
use Rattle.mps_trace_laws.proofs.Image.Reserved.{image_reserved}
use Rattle.mps_trace.specs.Begin.{EndsAtOnce}
use Rattle.mps_trace.specs.Flip.{at_flip, condemned_of, moving_of, condemning_all}
use Rattle.mps_trace.specs.declared.condemn.Condemn.{Condemn}
use Rattle.mps_trace.specs.Trace.{TraceState, Traced, traced}
use Rattle.mps_trace.proofs.Ending.{segments_stay}
use Rattle.mps_trace_laws.proofs.Reclaim.Ending.{image_at_rest}
use Rattle.mps_trace_laws.specs.Begin.Condemning.{MayCondemn}
use Rattle.mps_trace_laws.specs.Flip.Condemned.{IsFlipOf, condemnation}
use Rattle.mps_trace_laws.specs.Flip.Reservations.{AreNoneLive}
use Rattle.mps_trace_laws.proofs.Flip.Condemned.{flip_is_the_models}
use Rattle.mps_trace_laws.proofs.Flip.OpenEnded.{flip_leaves_runs}
use Rattle.mps_trace_laws.proofs.Flip.Reservations.{no_reservation_is_live}
use Rattle.mps_trace_laws.specs.Begin.Before.{StandsBefore}
use Rattle.mps_trace_laws.specs.Begin.Begun.{IsOverAtOnce, ACollectionOfNothingEnds}

-- ---- reservations are ended

-- the segments with these runs covered, and these reserved
abbrev pub with_covered : SegsState → (covered reservations : List Run) → SegsState
with_covered s covered reservations = record s { covered = covered; reservations = reservations }

module _ (flips : ℕ) (covered reservations : List Run) where
  held_ended : (o : Option Held) (s : SegsState)
      → with_covered (after_end flips o s) covered reservations ≡ with_covered s covered reservations
  held_ended None s = refl
  held_ended (Some h) s =
      elim (cases_Bool (h.flips == flips)) [
        | inl is ↦
            ap (λ (e : SegsState). with_covered e covered reservations) (cond-true (h.flips == flips) (without_reservation s h) s is)
        | inr isnt ↦
            ap (λ (e : SegsState). with_covered e covered reservations) (cond-false (h.flips == flips) (without_reservation s h) s isnt)
      ]

  point_ended : (o : Option buffer.Point) (s : SegsState)
      → with_covered (after_end_at flips o s) covered reservations ≡ with_covered s covered reservations
  point_ended None s = refl
  point_ended (Some p) s = held_ended p.reservation s

  -- the end of reservations changes nothing else
  pub reservations_alone : (ps : List (Option buffer.Point)) (s : SegsState)
      → with_covered (after_all_end flips ps s) covered reservations ≡ with_covered s covered reservations
  reservations_alone [] s = refl
  reservations_alone (p ∷ ps) s = reservations_alone ps (after_end_at flips p s) ∙ point_ended p s

-- ---- no reservation is live

module _ (s : SegsState) (objects : List Object) (points : List (Option Point)) (memories : List PointMemory) (layout : ℕ → Layout)
    (addresses : List (Option Address)) (covered reservations : List Run)
    (st : Stands (setting_at_rest s objects points memories layout) (memory_in s) addresses no_colours)
    (left : RunsStand (setting_at_rest s objects (map doomed points) (map without_buffer memories) layout)
    (memory_in (with_covered s covered reservations)) addresses) where
  abbrev e : SegsState
  e = with_covered s covered reservations

  abbrev none : AreNoneLive (map doomed points) (map without_buffer memories)
  none = no_reservation_is_live points memories

  none_reserved : Stands (setting_at_rest e objects (map doomed points) (map without_buffer memories) layout) (memory_in e) addresses
      no_colours
  none_reserved =
      image_reserved (setting_at_rest s objects points memories layout) (memory_in s) (memory_in e) addresses no_colours
      (black_cells [] no_colours) (map doomed points) (map without_buffer memories) st (record {
        placed =
            placed_unreserved (setting_at_rest s objects points memories layout) addresses st.placed (map doomed points)
            (map without_buffer memories) none.not_live;
        runs = record { blocks = left.blocks; reservations = left.reservations; covered = left.covered };
        kept_same = λ n. refl;
        grey_same = λ n. refl;
        long = refl;
        cells = λ i l r n c x cell. absurd (none.not_live i r x.reserved);
        written = λ n. inl refl;
        clear = λ i l r n x. absurd (none.not_live i r x.reserved);
      })

  -- nor once marks and condemned bits are ended
  pub rest_again : Stands (setting_at_rest (collected e) objects (map doomed points) (map without_buffer memories) layout)
      (memory_in (collected e)) addresses no_colours
  rest_again =
      image_at_rest e objects (map doomed points) (map without_buffer memories) layout [] no_colours addresses (λ id. refl)
      (λ id at there. refl) none_reserved

-- ---- nothing is condemned

no_entries : {A : Type 0} (xs : List A) → length xs ≡ 0 → xs ≡ []
no_entries [] none = refl
no_entries (x ∷ xs) none = absurd (omega (arith, none))

module _ {F : Type 0} (layout : F → Layout) (t : TraceState F) (s : SegsState) (m : Moves) (points : PointsState)
    (roots roots' : RootsState) (finals finals' : FinalsState) (w : World) (z : Traced) (what : Condemn)
    (before : StandsBefore layout t s m points w)
    (may : MayCondemn t s w what) (ends : EndsAtOnce t.formats t.chains what points roots finals (traced t s m) roots' finals' z) where
  abbrev after : SegsState
  after = after_all_end points.flips points.points s

  -- the segments that are condemned
  abbrev these : List Segment
  these = condemned_of t.formats t.chains what s.segments

  the_models : IsFlipOf what these (moving_of t.formats these) w
  the_models =
      flip_is_the_models t.formats t.chains what s.segments w before.segments.segments.same_segments may.alike before.pools.moves

  none_condemned : these ≡ []
  none_condemned = no_entries these ends.none

  nothing : is_nothing (condemned_by w (condemnation what)) ≡ true
  nothing = ap (λ (ts : List Segment). is_nothing ts) (sym the_models.segments ∙ none_condemned)

  over : IsFlipEnded w (condemnation what)
  over = flip_ended w (condemnation what) before.objects.rest may.numbered nothing

  -- the segments after the flip
  flipped_are : (at_flip t.formats t.chains what points (traced t s m)).segs ≡ with_covered s after.covered after.reservations
  flipped_are =
      ap (λ (ts : List Segment). condemning_all ts after)
      (ap (λ (ts : List Segment). condemned_of t.formats t.chains what ts) (segments_stay points.flips points.points s) ∙ none_condemned)
      ∙ reservations_alone points.flips after.covered after.reservations points.points s

  -- and after the end
  segments_are : z.segs ≡ collected (with_covered s after.covered after.reservations)
  segments_are = ap (λ (x : Traced). x.segs) ends.over ∙ ap (λ (g : SegsState). collected g) flipped_are

  abbrev setting : Setting
  setting = setting_at_rest s w.graph.objects w.graph.points w.point_memories (pool_layout w)

  abbrev setting_then : Setting
  setting_then =
      setting_at_rest s w.graph.objects (map doomed w.graph.points) (map without_buffer w.point_memories) (pool_layout w)

  left : RunsStand setting_then (memory_in (with_covered s after.covered after.reservations)) w.addresses
  left =
      let runs =
      flip_leaves_runs t.formats t.chains what points (traced t s m) setting w.addresses [] (λ n. false) (words_of_arena s.grains)
      before.segments.image.runs before.segments.covered before.reservations
      in
      subst (λ (g : SegsState). RunsStand setting_then (memory_in g) w.addresses) flipped_are
      (record { blocks = runs.blocks; reservations = runs.reservations; covered = runs.covered })

  -- the world then
  abbrev last : World
  last = record (after_flip w (condemned_zones w (condemnation what)) (condemnation what)) { collection = None }

  leads : world_after_moves w (flip_act w (condemnation what)) ≡ last
  leads = ap (λ ms. world_after_moves w ms) over.act

  stands : StandsAtRest z.segs (world_after_moves w (flip_act w (condemnation what)))
  stands =
      subst (λ (g : SegsState). StandsAtRest g (world_after_moves w (flip_act w (condemnation what)))) (sym segments_are)
      (subst (λ (v : World). StandsAtRest (collected (with_covered s after.covered after.reservations)) v) (sym leads)
      (rest_again s w.graph.objects w.graph.points w.point_memories (pool_layout w) w.addresses after.covered after.reservations
      before.segments.image left))

  trail : z.moves.moves ≡ m.moves ++ flip_act w (condemnation what)
  trail =
      ap (λ (x : Traced). x.moves.moves) ends.over
      ∙ ap (λ (move : Move). (m.moves ++ move ∷ []) ++ End ∷ []) the_models.move
      ∙ append_assoc m.moves (flip_of w (condemnation what) ∷ []) (End ∷ [])
      ∙ ap (λ ms. m.moves ++ ms) (sym over.act)

  pub is_over : IsOverAtOnce m w what z
  is_over = record { nothing = nothing; stands = stands; trail = trail }

pub a_collection_of_nothing_ends : {F : Type 0} → ACollectionOfNothingEnds F
a_collection_of_nothing_ends layout t s m points roots roots' finals finals' w z what before may ends =
    is_over layout t s m points roots roots' finals finals' w z what before may ends
