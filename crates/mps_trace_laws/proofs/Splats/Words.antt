-- What the scan of a weak block leaves of segments: it writes words and summaries, and the block is grey no longer.
use Rattle.std.proofs.Common.{◌≡◌, ◌∙◌, refl, sym, ap, subst, List, Option, Some, None}
use Rattle.std.specs.Prelude.{ℕ, ◌+◌, slice_set}
use Rattle.mps_base.specs.Address.{Address, Grain, word_of}
use Rattle.mps_base.specs.declared.address.Addr.{Addr}
use Rattle.mps_format.specs.Layout.{Layout}
use Rattle.mps_format.specs.declared.pool.Policy.{Policy}
use Rattle.mps_seg.specs.Marks.{after_blacken}
use Rattle.mps_seg.specs.Segs.{SegsState}
use Rattle.mps_seg.specs.Collecting.{blackening, first_grain_over, noting_in}
use Rattle.mps_trace.specs.Scan.{word_at}
use Rattle.mps_trace.specs.Splat.{SplatsCell, is_null, updates, splats, SplatsTo, begins, goes_on, Splatted}
use Rattle.mps_trace.specs.Trace.{Traced}
use Rattle.mps_trace_laws.specs.Fix.Ranks.{AreMarksRanked}
use Rattle.mps_trace_laws.proofs.Fix.Ranks.{was_set}

-- segments with other words and summaries
abbrev pub rewritten_as : SegsState → SegsState → SegsState
rewritten_as s s' = record s { words = s'.words; summaries = s'.summaries }

noted_is : (s : SegsState) (words : List ℕ) (o : Option Grain) (to : Address)
    → noting_in (record s { words = words }) o to ≡ rewritten_as s (noting_in (record s { words = words }) o to)
noted_is s words None to = refl
noted_is s words (Some grain) to = refl

module _ {F : Type 0} (layout : F → Layout) (formats : List (Option (Policy F))) where
  cell_leaves : (f : Layout) (at : Addr) (cell : ℕ) {x z : Traced} → SplatsCell layout f formats at cell x z
      → z.segs ≡ rewritten_as x.segs z.segs
  cell_leaves f at cell (is_null null) = refl
  cell_leaves f at cell {x} (updates to positive found is) =
      let words = slice_set x.segs.words (word_of at.0 + cell) (f.retarget (word_at x at cell) to.0) in
      let s : SegsState = record x.segs { words = words } in
      subst (λ (w : Traced). w.segs ≡ rewritten_as x.segs w.segs) (sym is) (noted_is x.segs words (first_grain_over s at.0) to.0)
  cell_leaves f at cell {x} (splats positive none is) = subst (λ (w : Traced). w.segs ≡ rewritten_as x.segs w.segs) (sym is) refl

  run_leaves : (f : Layout) (head : ℕ) (at : Addr) {x z : Traced} {from : ℕ}
      → SplatsTo layout f formats head at x from z → z.segs ≡ rewritten_as x.segs z.segs
  run_leaves f head at begins = refl
  run_leaves f head at {z = z} (goes_on from cell earlier first one) =
      cell_leaves f at cell one ∙ ap (λ (s : SegsState). rewritten_as s z.segs) (run_leaves f head at earlier)

  -- what is at hand stays
  cell_leaves_tails : (f : Layout) (at : Addr) (cell : ℕ) {x z : Traced} → SplatsCell layout f formats at cell x z → z.amc ≡ x.amc
  cell_leaves_tails f at cell (is_null null) = refl
  cell_leaves_tails f at cell {x} (updates to positive found is) = ap (λ (w : Traced). w.amc) is
  cell_leaves_tails f at cell {x} (splats positive none is) = ap (λ (w : Traced). w.amc) is

  run_leaves_tails : (f : Layout) (head : ℕ) (at : Addr) {x z : Traced} {from : ℕ} → SplatsTo layout f formats head at x from z
      → z.amc ≡ x.amc
  run_leaves_tails f head at begins = refl
  run_leaves_tails f head at (goes_on from cell earlier first one) =
      cell_leaves_tails f at cell one ∙ run_leaves_tails f head at earlier

  pub scan_leaves_tails : (x z : Traced) (at : Addr) → Splatted layout formats x at z → z.amc ≡ x.amc
  scan_leaves_tails x z at is =
      ap (λ (w : Traced). w.amc) is.black ∙ run_leaves_tails (layout is.format.format) _ at is.all.run

  -- the segments after a scan
  pub scan_leaves : (x z : Traced) (at : Addr) → Splatted layout formats x at z
      → z.segs ≡ record x.segs {
        words = z.segs.words;
        summaries = z.segs.summaries;
        marks = after_blacken (word_of at.0) x.segs.marks;
      }
  scan_leaves x z at is =
      let before = run_leaves (layout is.format.format) _ at is.all.run in
      subst (λ (w : Traced). w.segs ≡ record x.segs {
        words = w.segs.words;
        summaries = w.segs.summaries;
        marks = after_blacken (word_of at.0) x.segs.marks;
      }) (sym is.black)
      (ap (λ (s : SegsState). blackening s at.0) before)

  -- marks are ranked if they were before
  pub splats_keep_ranks : (x z : Traced) (at : Addr) → Splatted layout formats x at z → AreMarksRanked x.segs → AreMarksRanked z.segs
  splats_keep_ranks x z at is ranked =
      let n = word_of at.0 in
      subst AreMarksRanked (sym (scan_leaves x z at is))
      (record {
        exact = λ m set. ranked.exact m (was_set x.segs.marks.exact n m set);
        weak = λ m set. ranked.weak m (was_set x.segs.marks.weak n m set);
      })
