-- The blocks that are lost in a condemned segment are those of the white objects in it.
use Rattle.std.proofs.Common.{◌≡◌, ◌∙◌, ◌+◌, ◌<◌, ◌≤◌, true, false, not, sym, ap, subst, List, Option, Some, Contains, inl, inr, arith}
use Rattle.std.proofs.lemmas.Bool.{cases_Bool, and_from, and_parts}
use Rattle.std.proofs.lemmas.Option.{same_Some}
use Rattle.std.specs.Prelude.{option_map, ◌&&◌, IsTrue}
use Rattle.mps_base.specs.Address.{Address, Id, Word, word_of, address_of_word, address_of_grain, grain_of, max_grains}
use Rattle.mps_base.specs.Run.{Run, IsAscending}
use Rattle.mps_base.specs.Segment.{Segment, segment_over, is_in_segment, end_of_segment}
use Rattle.mps_extents.specs.Table.{bit}
use Rattle.mps_seg.specs.Segs.{SegsState}
use Rattle.mps_seg.specs.Collecting.{bit_of}
use Rattle.mps_amc.specs.Reclaiming.{lost_of}
use Rattle.mps_model.specs.Graph.{contains, entry_at, size_of}
use Rattle.mps_model.specs.World.{extent}
use Rattle.mps_model.specs.Units.{is_ascending}
use Rattle.mps_abstract.specs.Colours.{Colours, is_white}
use Rattle.mps_trace_laws.specs.Image.Memory.{Setting, memory_in}
use Rattle.mps_trace_laws.specs.Image.Image.{CellSet, ImageStands}
use Rattle.mps_trace_laws.proofs.Image.SegmentWords.{over_word}
use Rattle.mps_trace_laws.specs.Reclaim.Freed.{addresses_of, IsCondemnedSegment, IsWhiteIn, AreWhiteFreed}
use Rattle.mps_trace_laws.proofs.Reclaim.LostRuns.{IsLostRun, lost_is, is_lost_there, lost_ascend, run_at, address_there}
use Rattle.mps_trace_laws.proofs.Image.BlockRuns.{run_of_object, run_there, extents_ascend}
use Rattle.mps_trace_laws.proofs.Reclaim.SegmentBounds.{aligned_in, positive_in, over_inside, segment_bounds}

module _ (s : Setting) (g : SegsState) (addresses : List (Option Address)) (k : Colours) (done : CellSet) (t : Segment)
    (st : ImageStands s (memory_in g) addresses k done) (c : IsCondemnedSegment s g t) where
  abbrev low : Word
  low = word_of t.base

  abbrev high : Word
  high = word_of (end_of_segment t)

  is_aligned : t.base ≡ address_of_grain (grain_of t.base)
  is_aligned = aligned_in g.segments t c.order.aligned c.held

  own_words : (id : Id) (at : Address) → entry_at addresses id ≡ Some at → address_of_word (word_of at) ≡ at
  own_words id at e = let a = st.placed.address id at e in omega (arith, a.aligned)

  -- a run that is lost is that of a white object
  pub lost_is_white : (r : Run) → Contains (lost_of g t) r → IsWhiteIn s g addresses k t (address_of_word r.from)
  lost_is_white r there =
      let l = lost_is g low high g.blocks r there in
      let x = run_of_object s.objects addresses r (subst (λ rs. Contains rs r) st.runs.blocks l.0) in
      white_at x.id x.at x.address r.from (ap (λ (y : Run). y.from) x.is) l.1.from l.1.below l.1.lost
    where
      white_at : (id : Id) (at : Address) → entry_at addresses id ≡ Some at → (n : Word) → n ≡ word_of at → low ≤ n → n < high
          → not (bit g.marks.kept n) ≡ true → IsWhiteIn s g addresses k t (address_of_word n)
      white_at id at e n is from below lost =
          let own = own_words id at e in
          let there : address_of_word n ≡ at = ap address_of_word is ∙ own in
          let base = is_aligned in
          let over : segment_over g.segments (address_of_word n) ≡ Some t =
          over_word 1 (max_grains + 1) g.segments t n c.order.aligned c.order.ascending c.held (from, omega (arith, below, base))
          in
          let condemned : s.is_condemned_over n ≡ true =
          c.same n ∙ ap (λ (o : Option Segment). bit_of g.condemned (option_map (λ (x : Segment). grain_of x.base) o)) over ∙ c.condemned
          in
          record {
            id = id;
            address = e ∙ ap Some (sym there);
            white =
                st.marks.white_there id at e
                ∙ ap (λ w. s.is_condemned_over w && not (bit g.marks.kept w)) (sym is)
                ∙ and_from (s.is_condemned_over n) (not (bit g.marks.kept n)) condemned lost;
            over = over;
            inside = over_inside g.segments (address_of_word n) t over;
          }

  -- a white object in the segment has a run that is lost
  pub white_is_lost : (id : Id) (at : Address) → entry_at addresses id ≡ Some at → is_white s.condemned k id ≡ true
      → segment_over g.segments at ≡ Some t → contains (addresses_of (lost_of g t)) at ≡ true
  white_is_lost id at e white over =
      let o = st.placed.exists id at e in
      let base = is_aligned in
      let bounds = segment_bounds t at (over_inside g.segments at t over) in
      let parts =
      and_parts (s.is_condemned_over (word_of at)) (not (bit g.marks.kept (word_of at))) (sym (st.marks.white_there id at e) ∙ white)
      in
      let run : Run = extent at (size_of o.0) in
      let own = own_words id at e in
      let is : IsLostRun g low high run = record {
        from = omega (arith, bounds.0);
        below = omega (arith, bounds.1, own, base);
        lost = parts.1;
      } in
      let there : Contains g.blocks run =
      subst (λ rs. Contains rs run) (sym st.runs.blocks) (run_there s.objects addresses id at o.0 e o.1)
      in
      subst (λ a. contains (addresses_of (lost_of g t)) a ≡ true) own
      (address_there (lost_of g t) run (is_lost_there g low high g.blocks run there is))

  abbrev freed : List Address
  freed = addresses_of (lost_of g t)

  freed_white : (at : Address) → IsTrue (contains freed at) → IsWhiteIn s g addresses k t at
  freed_white at h =
      let r = run_at (lost_of g t) at h in
      subst (IsWhiteIn s g addresses k t) r.begins (lost_is_white r.run r.there)

  freed_apart : (other : Segment) (at : Address) → Contains g.segments other → (other.base ≡ t.base → ⊥) → IsTrue (contains freed at)
      → is_in_segment other (address_of_word (word_of at)) ≡ false
  freed_apart other at held differ h =
      let w = freed_white at h in
      let own = own_words w.id at w.address in
      let base = aligned_in g.segments other c.order.aligned held in
      elim (cases_Bool (is_in_segment other (address_of_word (word_of at)))) [
        | inl within ↦
            let bounds = segment_bounds other (address_of_word (word_of at)) within in
            let over : segment_over g.segments (address_of_word (word_of at)) ≡ Some other =
            over_word 1 (max_grains + 1) g.segments other (word_of at) c.order.aligned c.order.ascending held
            (omega (arith, bounds.0), omega (arith, bounds.1, base))
            in
            let same : Some other ≡ Some t = sym over ∙ ap (segment_over g.segments) own ∙ w.over in
            absurd (differ (ap (λ (x : Segment). x.base) (same_Some other t same)))
        | inr out ↦ out
      ]

  freed_ascend : is_ascending 0 freed ≡ true
  freed_ascend =
      let base = is_aligned in
      let first = positive_in 1 (max_grains + 1) g.segments t c.order.ascending c.held in
      lost_ascend g low high 0 0 s.size g.blocks
      (subst (IsAscending 0 s.size) (sym st.runs.blocks) (extents_ascend s addresses st.placed))
      (λ n zero_on from. omega (arith, from, base, first))

  pub white_freed : AreWhiteFreed s g addresses k t freed
  white_freed = record { ascending = freed_ascend; white = freed_white; all = white_is_lost; apart = freed_apart }
