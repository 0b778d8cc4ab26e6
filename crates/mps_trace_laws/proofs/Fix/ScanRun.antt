-- The run over the references of an object is one of steps of the abstract collector.
use Rattle.std.proofs.Common.{◌≡◌, ◌∙◌, ℕ, zero, suc, ◌+◌, ◌-◌, ◌<◌, ◌≤◌, false, refl, sym, ap, List, [], ◌∷◌, ◌++◌, Option, Some, None, subst, arith}
use Rattle.std.proofs.lemmas.Bool.{true≢false}
use Rattle.std.proofs.lemmas.List.{append-nil, append_assoc}
use Rattle.std.proofs.lemmas.Option.{none-some}
use Rattle.std.specs.Option.{option_map_or}
use Rattle.std.specs.Prelude.{IsTrue, slice_get, take}
use Rattle.mps_base.specs.Address.{Address, Id, word_of}
use Rattle.mps_base.specs.declared.address.Addr.{Addr}
use Rattle.mps_format.specs.Layout.{Layout}
use Rattle.mps_format.specs.References.{IsFirstReference}
use Rattle.mps_trace.specs.GenState.{ChainsState}
use Rattle.mps_model.specs.Checked.{head_of_body}
use Rattle.mps_model.specs.Graph.{Cell, HeadCell, NumberCell, ReferenceCell, Graph, Object, entries, target_of_cell, is_reference_cell, targets_of_cells, entry_at, size_of}
use Rattle.mps_model.specs.World.{World, Pool}
use Rattle.mps_abstract.specs.Colours.{is_white}
use Rattle.mps_abstract.specs.Collecting.{Collecting, is_white_in}
use Rattle.mps_abstract.specs.Fixing.{Fixes}
use Rattle.mps_trace_laws.specs.Image.Memory.{Lies, memory_in, all_cells, pool_layout}
use Rattle.mps_trace_laws.specs.Image.Image.{CellSet, with_cell, AreShaped}
use Rattle.mps_trace_laws.specs.Image.Scanning.{LeavesOthers}
use Rattle.mps_trace_laws.proofs.Image.Scanning.{both_leave, fix_leaves, cell_there}
use Rattle.mps_trace_laws.specs.Image.Fixing.{nothing}
use Rattle.mps_trace_laws.proofs.Image.Targets as targets
use Rattle.mps_trace.specs.Trace.{Traced}
use Rattle.mps_trace.specs.Scan.{ScansTo, begins, goes_on, FixesCell, CanFixCellAt, AreReady}
use Rattle.mps_trace_laws.specs.Fix.Tracing.{TracingStands, setting_of}
use Rattle.mps_trace_laws.specs.Fix.Steps.{IsSameGraph}
use Rattle.mps_trace_laws.specs.Fix.Cells.{HoldsReference}
use Rattle.mps_trace_laws.specs.Fix.Scanning.{with_cells, IsToBeScanned, IsScannedTo}
use Rattle.mps_trace_laws.proofs.Fix.CellLists.{targets_more, fewer_done, image_again, next_cells, no_cells}
use Rattle.mps_trace_laws.proofs.Fix.EachCell.{can_cell, cell_step}
use Rattle.mps_format.specs.declared.pool.Policy.{Policy}

-- ---- a world with the same objects and pools

pub layout_still : (w w' : World) → IsSameGraph w w' → (pool : ℕ) → pool_layout w' pool ≡ pool_layout w pool
layout_still w w' same pool =
    ap (λ fs. fs (option_map_or (λ (p : Pool). p.format) (slice_get w'.pools pool) 0)) same.formats
    ∙ ap (λ ps. w.formats (option_map_or (λ (p : Pool). p.format) (slice_get ps pool) 0)) same.pools

pub shaped_still : (w w' : World) → IsSameGraph w w' → AreShaped w.graph.objects (pool_layout w)
    → AreShaped w'.graph.objects (pool_layout w')
shaped_still w w' same shaped =
    subst (λ (fs : ℕ → Layout). AreShaped w'.graph.objects (λ pool. fs (option_map_or (λ (p : Pool). p.format)
    (slice_get w'.pools pool) 0)))
    (sym same.formats)
    (subst (λ (ps : List Pool). AreShaped w'.graph.objects
    (λ pool. w.formats (option_map_or (λ (p : Pool). p.format) (slice_get ps pool) 0))) (sym same.pools)
    (subst (λ (g : Graph). AreShaped g.objects (pool_layout w)) (sym same.graph) shaped))

pub both_same : (a b c : World) → IsSameGraph a b → IsSameGraph b c → IsSameGraph a c
both_same a b c x y = record { graph = y.graph ∙ x.graph; pools = y.pools ∙ x.pools; formats = y.formats ∙ x.formats }

-- a cell is no reference, or is one with a tag
data CellCases (c : Cell) : Type 0 where
  is_none : is_reference_cell c ≡ false → target_of_cell c ≡ None → CellCases c
  is_one : (target : Option Id) (tag : ℕ) → c ≡ ReferenceCell target tag → CellCases c

cell_cases : (c : Cell) → CellCases c
cell_cases HeadCell = is_none refl refl
cell_cases (NumberCell number) = is_none refl refl
cell_cases (ReferenceCell target tag) = is_one target tag refl

module _ (F : Type 0) (layout : F → Layout) (formats : List (Option (Policy F))) (of : ChainsState) (at_flip : List (Option Address))
    (done : CellSet) (x : Traced) (y : Collecting) (shaped : AreShaped y.world.graph.objects (pool_layout y.world))
    (stands : TracingStands layout formats of at_flip done x y) (holder : Id) (at : Addr) (o : Object)
    (scan : IsToBeScanned y holder at.0 o) where
  abbrev f : Layout
  f = pool_layout y.world o.pool

  abbrev head : ℕ
  head = head_of_body o.body

  abbrev To : Traced → ℕ → Type 0
  To z before = IsScannedTo layout formats of at_flip done x z y holder o before

  start : To x 0
  start = record {
    moves = [];
    after = y;
    fixes = λ ids ms last rest. rest;
    stands = fewer_done layout formats of at_flip done (with_cells done holder 0) x y (no_cells done holder) stands;
    trail = sym (append-nil x.moves.moves);
    leaves = fix_leaves y.running.condemned y.world.addresses y.world.addresses y.colours y.colours None nothing;
    same = record { graph = refl; pools = refl; formats = refl };
    same_condemned = refl;
  }

  module _ (z : Traced) (k : ℕ) (run : To z k) (within : k < size_of o) where
    abbrev y' : Collecting
    y' = run.after

    there_now : entry_at y'.world.addresses holder ≡ Some at.0
    there_now = run.leaves.there holder at.0 scan.not_white scan.there

    object_now : slice_get y'.world.graph.objects holder ≡ Some o
    object_now = ap (λ (g : Graph). slice_get g.objects holder) run.same.graph ∙ scan.object

    black_now : is_white_in y' holder ≡ false
    black_now =
        subst (λ ids. is_white ids y'.colours holder ≡ false) (sym run.same_condemned) (run.leaves.not_white holder scan.not_white)

    pub shaped_now : AreShaped y'.world.graph.objects (pool_layout y'.world)
    shaped_now = shaped_still y.world y'.world run.same shaped

    pub holds : (target : Option Id) (tag : ℕ) → slice_get (all_cells o.body) k ≡ Some (ReferenceCell target tag)
        → HoldsReference y' holder k at.0 o target tag
    holds target tag cell = record {
      there = there_now;
      object = object_now;
      within = within;
      not_white = black_now;
      cell = cell;
      live = λ t e.
          let old =
          scan.live k t tag (cell ∙ ap (λ v. Some (ReferenceCell v tag)) e) in run.leaves.live t old.0 old.1;
    }

    -- what isn't a reference is passed
    pass : (c : Cell) → slice_get (all_cells o.body) k ≡ Some c → target_of_cell c ≡ None → To z (suc k)
    pass c cell none =
        let lies : Lies y'.world.graph.objects y'.world.addresses holder k o (word_of at.0 + k) =
        record { at = at.0; address = there_now; object = object_now; within = within; is = refl }
        in
        record {
          moves = run.moves;
          after = y';
          fixes = λ ids ms last rest.
              subst (λ these. Fixes y these (run.moves ++ ms) last)
              (sym (targets_more (all_cells o.body) k c ids cell
              ∙ ap (λ v. targets_of_cells (take k (all_cells o.body)) ++ (entries (v ∷ []) ++ ids)) none))
              (run.fixes ids ms last rest);
          stands = fewer_done layout formats of at_flip (with_cell (with_cells done holder k) holder k) (with_cells done holder
              (suc k)) z y'
              (next_cells done holder k)
              (image_again layout formats of at_flip (with_cells done holder k) (with_cell (with_cells done holder k) holder k) z y'
              (targets.passed (setting_of z.segs at_flip y') y'.world.addresses y'.colours (with_cells done holder k) holder k o
              (word_of at.0 + k) c lies cell (memory_in z.segs) (not_one c cell none lies) run.stands.state.image) run.stands);
          trail = run.trail;
          leaves = run.leaves;
          same = run.same;
          same_condemned = run.same_condemned;
        }
      where
        not_one : (c : Cell) → slice_get (all_cells o.body) k ≡ Some c → target_of_cell c ≡ None
            → Lies y'.world.graph.objects y'.world.addresses holder k o (word_of at.0 + k)
            → Rattle.mps_trace_laws.specs.Image.Image.IsFixedWord y'.running.condemned y'.world.addresses y'.colours head c
            (Rattle.std.specs.Prelude.slice_index z.segs.words (word_of at.0 + k))
        not_one HeadCell cell none lies = record {
          holds = run.stands.state.image.words.cells holder k o (word_of at.0 + k) HeadCell refl lies cell;
          not_white = λ u e. absurd (none-some u e);
        }
        not_one (NumberCell number) cell none lies = record {
          holds = run.stands.state.image.words.cells holder k o (word_of at.0 + k) (NumberCell number) refl lies cell;
          not_white = λ u e. absurd (none-some u e);
        }
        not_one (ReferenceCell None tag) cell none lies = record {
          holds = run.stands.state.image.words.cells holder k o (word_of at.0 + k) (ReferenceCell None tag) refl lies cell;
          not_white = λ u e. absurd (none-some u e);
        }
        not_one (ReferenceCell (Some u) tag) cell none lies = absurd (none-some u (sym none))

    -- a reference is fixed
    fix_one : (z' : Traced) (target : Option Id) (tag : ℕ) → slice_get (all_cells o.body) k ≡ Some (ReferenceCell target tag)
        → FixesCell layout f formats of at k z z' → To z' (suc k)
    fix_one z' target tag cell fixed =
        let step = cell_step F layout formats of at_flip (with_cells done holder k) z y' shaped_now run.stands holder k at o tag target
        (holds target tag cell)
        (subst (λ (g : Layout). FixesCell layout g formats of at k z z') (sym (layout_still y.world y'.world run.same o.pool)) fixed)
        in
        record {
          moves = run.moves ++ step.moves;
          after = step.after;
          fixes = λ ids ms last rest.
              subst (λ these. Fixes y (targets_of_cells (take (suc k) (all_cells o.body)) ++ ids) these last)
              (sym (append_assoc run.moves step.moves ms))
              (subst (λ these. Fixes y these (run.moves ++ (step.moves ++ ms)) last)
              (sym (targets_more (all_cells o.body) k (ReferenceCell target tag) ids cell))
              (run.fixes (entries (target ∷ []) ++ ids) (step.moves ++ ms) last (step.fixes ids ms last rest)));
          stands =
              fewer_done layout formats of at_flip (with_cell (with_cells done holder k) holder k) (with_cells done holder (suc k)) z'
              step.after (next_cells done holder k) step.stands;
          trail =
              step.trail ∙ ap (λ ms. ms ++ step.moves) run.trail ∙ append_assoc x.moves.moves run.moves step.moves;
          leaves =
              both_leave y.running.condemned y.world.addresses y'.world.addresses step.after.world.addresses y.colours y'.colours
              step.after.colours run.leaves
              (subst (λ ids. LeavesOthers ids y'.world.addresses step.after.world.addresses y'.colours step.after.colours)
              run.same_condemned
              (fix_leaves y'.running.condemned y'.world.addresses step.after.world.addresses y'.colours step.after.colours target
              step.step));
          same = both_same y.world y'.world step.after.world run.same step.same;
          same_condemned = step.same_condemned ∙ run.same_condemned;
        }

    can_one : (target : Option Id) (tag : ℕ) → slice_get (all_cells o.body) k ≡ Some (ReferenceCell target tag)
        → CanFixCellAt layout f formats of z at k
    can_one target tag cell =
        subst (λ (g : Layout). CanFixCellAt layout g formats of z at k) (layout_still y.world y'.world run.same o.pool)
        (can_cell F layout formats of at_flip (with_cells done holder k) z y' shaped_now run.stands holder k at o tag target
        (holds target tag cell))

  -- ---- the run

  -- a cell of the object, and whether it is a reference
  kind_of : (k : ℕ) (c : Cell) → slice_get (all_cells o.body) k ≡ Some c → is_reference_cell c ≡ f.is_reference head k
  kind_of k c cell = shaped.kinds holder k o c scan.object scan.automatic cell

  pass_one : (z : Traced) (k : ℕ) → To z k → k < size_of o → f.is_reference head k ≡ false → To z (suc k)
  pass_one z k run within none =
      let c = cell_there o.body k within in
      go c.0 c.1 (cell_cases c.0)
    where
      go : (c : Cell) → slice_get (all_cells o.body) k ≡ Some c → CellCases c → To z (suc k)
      go c cell (is_none a b) = pass z k run within c cell b
      go c cell (is_one target tag e) =
          absurd (true≢false (sym (ap is_reference_cell e) ∙ kind_of k c cell ∙ none))

  pub pass_all : (z : Traced) (n from : ℕ) → To z from → ((k : ℕ) → from ≤ k → k < from + n → f.is_reference head k ≡ false)
      → from + n ≤ size_of o → To z (from + n)
  pass_all z zero from run none within = subst (To z) (let e : from ≡ from + 0 = omega arith in e) run
  pass_all z (suc n) from run none within =
      subst (To z) (let e : suc from + n ≡ from + suc n = omega arith in e)
      (pass_all z n (suc from) (pass_one z from run (omega (arith, within)) (none from (omega arith) (omega arith)))
      (λ k low high. none k (omega (arith, low)) (omega (arith, high))) (omega (arith, within)))

  -- a reference lies within the object
  pub inside : (k : ℕ) → IsTrue (f.is_reference head k) → k < size_of o
  inside k is =
      let valid = shaped.valid holder o scan.object scan.automatic in
      let at_most = ((shaped.lawful o.pool).references head k valid is).1 in
      let whole = shaped.whole holder o scan.object scan.automatic in
      omega (arith, at_most, whole)

  pub to_cell : (z : Traced) (from cell : ℕ) → To z from → IsFirstReference f head from cell → To z cell
  to_cell z from cell run first =
      let low = first.not_before in
      let within = inside cell first.reference in
      subst (To z) (let e : from + (cell - from) ≡ cell = omega (arith, low) in e)
      (pass_all z (cell - from) from run (λ k above below. first.none_between k above (omega (arith, below, low)))
      (omega (arith, low, within)))

  -- the first reference, as a cell
  pub record IsReference (k : ℕ) : Type 0 where
    pub target : Option Id
    pub tag : ℕ
    pub cell : slice_get (all_cells o.body) k ≡ Some (ReferenceCell target tag)

  pub reference : (k : ℕ) → IsTrue (f.is_reference head k) → IsReference k
  reference k is =
      let c = cell_there o.body k (inside k is) in
      go c.0 c.1 (cell_cases c.0)
    where
      go : (c : Cell) → slice_get (all_cells o.body) k ≡ Some c → CellCases c → IsReference k
      go c cell (is_none a b) = absurd (true≢false (sym is ∙ sym (kind_of k c cell) ∙ a))
      go c cell (is_one target tag e) = record { target = target; tag = tag; cell = cell ∙ ap (λ v. Some v) e }

  pub run_to : {before : ℕ} {z : Traced} → ScansTo layout f formats of head at x before z → To z before
  run_to begins = start
  run_to {z = z} (goes_on {y = w} from cell earlier first fixed) =
      let run = to_cell w from cell (run_to earlier) first in
      let r = reference cell first.reference in
      subst (To z) (let e : suc cell ≡ cell + 1 = omega arith in e)
      (fix_one w cell run (inside cell first.reference) z r.target r.tag r.cell fixed)

  pub ready : AreReady layout f formats of head at x
  ready from cell w earlier first =
      let run = to_cell w from cell (run_to earlier) first in
      let r = reference cell first.reference in
      can_one w cell run (inside cell first.reference) r.target r.tag r.cell
